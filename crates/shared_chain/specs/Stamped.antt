-- The stamps of a disk's stripes, while the leaf is merged in a session.
use Rattle.std.specs.Prelude.{◌≡◌, ◌<◌, ◌==◌, if◌then◌else◌, ℕ, Option, Some, None}
use Rattle.guest_model.specs.History.{History}
use Rattle.chain_model.specs.Stripes.{stamp}
use Rattle.merge_core.specs.Stamping.{stamps_of}
use Rattle.chain_core.specs.Sessions.{HasNoMerge}
use Rattle.chain_core.specs.declared.layers.Layers.{Layers}
use Rattle.chain_core.specs.declared.layers.Retiring.{Retiring}
use Rattle.script_session.specs.Told.{sector_size}

-- the place of the last call that changed a stripe; before any call did, the stamp that it had when the session began
abbrev pub stamp_since : ℕ → ℕ → ℕ
stamp_since began last = if last == 0 then began else last

-- The stamp of a stripe of the merge's source behind a history, where this merge of the leaf, if one, was under way when the session began: 0
-- where the source isn't the leaf.
abbrev pub stamp_behind : Option Retiring → History → ℕ → ℕ
stamp_behind None h stripe = 0
stamp_behind (Some r) h stripe = stamp_since (stamps_of r.stamps stripe) (stamp sector_size h stripe)

-- each stripe has its stamp of the history
pub record HasStamps (began : Retiring) (h : History) (now : Retiring) : Type 0 where
  pub stripes : now.marks.stripes ≡ began.marks.stripes
  pub each : (stripe : ℕ) → stripe < began.marks.stripes → stamps_of now.stamps stripe ≡ stamp_behind (Some began) h stripe

-- No merge is under way any more; or the leaf isn't merged, and wasn't when the session began; or it is, and was, and each stripe has its stamp
-- of the history.
pub data KeepsStamps (first : Layers) (h : History) (now : Layers) : Type 0 where
  is_over : HasNoMerge now → KeepsStamps first h now
  of_other : first.retiring ≡ None → now.retiring ≡ None → KeepsStamps first h now
  of_leaf : (began r : Retiring) → first.retiring ≡ Some began → now.retiring ≡ Some r → HasStamps began h r → KeepsStamps first h now
