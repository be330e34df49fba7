-- What is fetched of the source of a merge, to be put in a later turn.
use Rattle.std.specs.Prelude.{◌≡◌, true, [], List}
use Rattle.store_model.specs.Disk.{Disk, WhereTold}
use Rattle.ledger.specs.declared.ledger.Ledger.{Ledger}
use Rattle.guest_model.specs.History.{History}
use Rattle.merge_core.specs.Pieces.{piece_of}
use Rattle.merge_core.specs.declared.piece.Piece.{Piece}
use Rattle.chain_core.specs.Copying.{FitsDisk}
use Rattle.chain_core.specs.Merging.{IsTrueOf}
use Rattle.chain_core.specs.States.{IsServing, State, sector_of}
use Rattle.chain_core.specs.declared.chain.Chain.{Chain}
use Rattle.shared_chain.specs.declared.basis.Step.{Step}
use Rattle.shared_chain.specs.Stamped.{stamp_behind}
use Rattle.shared_chain.specs.Steps.{done_steps}
use Rattle.turn_lock.specs.Histories.{StartsWith}

module _ {S T : Type 0} where
  -- A piece of the source of a merge, behind these calls of a session that began with this chain: it was taken under the stamp that its stripe has
  -- then; and of each state that the session served when it began it is what the source had, with the calls up to that stamp where it is the leaf.
  pub record IsFetched (disk : S → Disk) (first : Chain S Ledger T) (h : History) (piece : Piece) : Type 0 where
    pub filled : piece.filled ≡ true
    pub fits : FitsDisk first.layers.geometry piece
    pub stamp : piece.stamp ≡ stamp_behind first.layers.retiring h piece.stripe
    pub is_true : WhereTold (disk first.store).told (λ trace. (from : State) → IsServing first.layers from trace → from.history ≡ [] → IsTrueOf (sector_of from) h from.rest (piece_of piece))

  -- So it was behind calls that were done in these steps, whatever came since.
  pub record WasFetched (disk : S → Disk) (seen : List Step) (first : Chain S Ledger T) (piece : Piece) : Type 0 where
    pub before : History
    pub begins : StartsWith seen (done_steps before)
    pub fetched : IsFetched disk first before piece
