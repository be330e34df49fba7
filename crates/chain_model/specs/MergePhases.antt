-- The laws of phases while a merge of files below the leaf is under way, as facts that a contract can name.
use Rattle.std.specs.Prelude.{◌≡◌, ℕ, Bool, List, ◌∷◌, ◌++◌}
use Rattle.store_model.specs.Trace.{Trace}
use Rattle.guest_model.specs.Calls.{Disk}
use Rattle.guest_model.specs.History.{History}
use Rattle.chain_model.specs.Layers.{Same}
use Rattle.chain_model.specs.Members.{Way}
use Rattle.chain_model.specs.Images.{Placed}
use Rattle.chain_model.specs.Sessions.{IsServed, GoesOver, LooseInMerge}
use Rattle.chain_model.specs.PhaseLaws.{IsNamedOnce, Survives}

-- A file above the source is committed, or nothing is done to it.
abbrev pub AboveGoesOver : Type 0
AboveGoesOver =
    (z : ℕ) (opening : Disk) (h : History) (leaf : Way) (among : ℕ → Bool) (retired above : List Placed) (before after : Placed) (between : List Placed) (source target : Placed) (below : List Placed) (old new : Trace)
    → IsNamedOnce old → IsServed z opening h leaf retired ((above ++ before ∷ between) ++ (source ∷ target ∷ below)) old → GoesOver before after old new
    → Same before.member.layer after.member.layer → before.member.ties ≡ after.member.ties
    → LooseInMerge among (above ++ before ∷ between) source target below → LooseInMerge among (above ++ after ∷ between) source target below
    → Survives z opening h leaf among after retired ((above ++ after ∷ between) ++ (source ∷ target ∷ below)) old new
