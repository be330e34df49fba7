-- What threads leave that call a function for each element of a slice.
use Rattle.std.specs.Prelude.{ℕ, List}
use Rattle.std.specs.Fork.{ChangesEach}
use denote.Ref.{MutBor}
use denote.Param.Members.{Shared}

module _ {F T : Type 0} (g : Shared F (ℕ × (MutBor T × Unit {0})) ((Unit {0}) × (MutBor T × Unit {0}))) (f : F) where
  -- each element is what a call left there
  pub record WasCalledAt (old new : List T) : Type 0 where
    pub each : ChangesEach g f old new
