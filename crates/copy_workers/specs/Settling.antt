-- What a worker passes over of a merge, and what it knows of that.
use Rattle.std.specs.Prelude.{◌⊎◌, ◌+◌, ◌<◌, ◌≤◌, ℕ, Result, Ok, Err}
use Rattle.store_model.specs.Disk.{Disk}
use Rattle.ledger.specs.declared.ledger.Ledger.{Ledger}
use Rattle.guest_model.specs.declared.refusal.ChainRefusal.{ChainRefusal}
use Rattle.merge_core.specs.declared.piece.Piece.{Piece}
use Rattle.chain_core.specs.declared.chain.Chain.{Chain}
use Rattle.shared_chain.specs.declared.basis.Basis.{Basis}
use Rattle.shared_chain.specs.Bases.{HasStripe}
use Rattle.shared_chain.specs.Merging.{IsStepped, StopsFetch, StopsPut, copies, passes}
use Rattle.shared_chain.specs.Shared.{Shared}
use Rattle.copy_workers.specs.declared.passing.Passed.{Passed}

-- so many stripes from one on
abbrev pub range_of : ℕ → ℕ → Passed
range_of stripe n = record { from = stripe; to = stripe + n }

-- what was passed over, by the answer: nothing where a step was refused
abbrev pub found_by : Result Passed ChainRefusal → Passed
found_by (Ok passed) = passed
found_by (Err x) = record { from = 0; to = 0 }

module _ {S T : Type 0} where
  -- Each of these stripes is known as one that a step of the merge has copied, or isn't kept in mind.
  pub record ArePassed (basis : Basis S T) (passed : Passed) : Type 0 where
    pub each : (t : ℕ) → passed.from ≤ t → t < passed.to → HasStripe t basis.copied ⊎ (basis.stripes ≤ t)

  -- A piece was put, and none was passed over; or that was refused; or the look at what can be passed over was; or the piece's stripe was passed over,
  -- with those behind it.
  pub data Settles (disk : S → Disk) (piece : Piece) (old new : Shared (Chain S Ledger T)) : Result Passed ChainRefusal → Type 0 where
    was_put : IsStepped disk (copies piece.stripe) old new (Ok tt) → Settles disk piece old new (Ok (record { from = piece.stripe; to = piece.stripe }))
    not_put : (x : ChainRefusal) → IsStepped disk (copies piece.stripe) old new (Err x) → StopsPut disk piece old new x → Settles disk piece old new (Err x)
    not_looked : (x : ChainRefusal) → IsStepped disk (passes piece.stripe 0) old new (Err x) → StopsFetch disk piece.stripe old new x → Settles disk piece old new (Err x)
    was_passed : (n : ℕ) → 0 < n → IsStepped disk (passes piece.stripe n) old new (Ok tt) → Settles disk piece old new (Ok (range_of piece.stripe n))
