-- A read of a chain that threads share, of which a part is planned.
use Rattle.std.specs.Prelude.{◌≡◌, ℕ, true, is_some, All, List, [], length}
use Rattle.store_model.specs.Disk.{Disk, Sealed, WhereTold, reader_of}
use Rattle.guest_model.specs.declared.call.Call.{Call}
use Rattle.guest_model.specs.declared.call.Reply.TheVariants.{Bytes}
use Rattle.ledger.specs.declared.ledger.Ledger.{Ledger}
use Rattle.read_plan.specs.Plans.{FitsIn}
use Rattle.read_plan.specs.Reading.{AreThere, HasFilled, LieInFiles, is_among}
use Rattle.read_plan.specs.declared.plan.Extent.{Extent}
use Rattle.chain_core.specs.declared.chain.Chain.{Chain}
use Rattle.chain_core.specs.Sealed.{read_numbers}
use Rattle.chain_core.specs.States.{IsServing, State}
use Rattle.shared_chain.specs.Answers.{RepliesFrom}
use Rattle.shared_chain.specs.Shared.{Shared}

module _ {S T : Type 0} where
  -- A reader of a file that a session, which began with this chain and whose leaf is in one, only reads: it tells what the file had then. Where the
  -- store tells its content, the session served a state then, with no call.
  pub record IsReaderFor (disk : S → Disk) (first : Chain S Ledger T) (s : Sealed) : Type 0 where
    pub only_read : is_among (read_numbers first.layers.below.items) s.file ≡ true
    pub content : s.content ≡ (reader_of s.file (disk first.store)).content
    pub session : is_some first.layers.leaf ≡ true
    pub served : WhereTold (disk first.store).told (λ trace. (from : State) × IsServing first.layers from trace × (from.history ≡ []))

  -- What is planned of a read can be filled by the readers for which it was planned; and once it is, by readers for the session, the buffer has
  -- the reply at the call's place, whatever came between.
  pub record IsPlanned (disk : S → Disk) (s : Shared (Chain S Ledger T)) (call : Call) (readers : List Sealed) (plan : List Extent) (out : List ℕ) : Type 0 where
    pub fit : All (FitsIn 512 (length out)) plan
    pub there : AreThere readers plan
    pub lie : All (IsReaderFor disk s.first) readers → LieInFiles 512 readers plan
    pub replies : All (IsReaderFor disk s.first) readers → (new : List ℕ) → HasFilled 512 readers plan out new → RepliesFrom disk s call (Bytes new)
