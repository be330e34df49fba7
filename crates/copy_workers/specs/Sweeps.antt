-- What a worker's sweep leaves of the stripes that it claimed.
use Rattle.std.specs.Prelude.{◌⊎◌, ◌<◌, ℕ, List}
use Rattle.shared_chain.specs.declared.basis.Basis.{Basis}
use Rattle.shared_chain.specs.declared.basis.Step.{Step}
use Rattle.shared_chain.specs.Bases.{HasStripe}
use Rattle.shared_chain.specs.Seats.{IsSwept}
use Rattle.turn_lock.specs.Seats.{Known}

module _ {S T : Type 0} where
  -- A turn answered that the stripe was copied, or what stopped that shows; or there are stripes that couldn't be fetched, as a reader failed.
  abbrev pub IsLeft : ℕ → Known Step (Basis S T) → Known Step (Basis S T) → ℕ → Type 0
  IsLeft stripe old new unfetched = IsSwept stripe old new ⊎ (0 < unfetched)

  -- so it is of each stripe that was claimed meanwhile
  pub record AreLeft (claimed numbers : List ℕ) (old new : Known Step (Basis S T)) (unfetched : ℕ) : Type 0 where
    pub each : (stripe : ℕ) → HasStripe stripe numbers → HasStripe stripe claimed ⊎ IsLeft stripe old new unfetched
