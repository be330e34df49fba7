-- A guest's readers stay readers for its session, whatever its calls are answered.
use Rattle.std.proofs.Common.{◌≡◌, List, Option, Some, None, Result, Ok, Err, sym, subst}
use Rattle.std.specs.Prelude.{All, IfSome}
use Rattle.std.proofs.lemmas.List.Elements.{All-set}
use Rattle.store_model.specs.Disk.{Disk, Sealed}
use Rattle.store_model.specs.declared.fault.ReadFault.{ReadFault}
use Rattle.store_model.specs.declared.fault.StoreFault.{StoreFault}
use Rattle.ledger.specs.declared.ledger.Ledger.{Ledger}
use Rattle.guest_model.specs.declared.refusal.ChainRefusal.{ChainRefusal}
use Rattle.read_plan.specs.Reading.{ReaderFailed}
use Rattle.chain_core.specs.declared.chain.Chain.{Chain}
use Rattle.shared_chain.specs.declared.basis.Basis.{Basis}
use Rattle.shared_chain.specs.Bases.{Contains}
use Rattle.shared_chain.specs.Planned.{IsReaderFor}
use Rattle.guest_io.specs.Guests.{AreReadBy, HaveReaders, ReadsBy}
use Rattle.guest_io.specs.declared.placed.Placed.{Placed}

module _ {S T : Type 0} (disk : S → Disk) where
  -- a reader that failed reads what it read
  failed_for : (first : Chain S Ledger T) (readers new : List Sealed) (fault : ReadFault) → All (IsReaderFor disk first) readers → ReaderFailed readers new fault → All (IsReaderFor disk first) new
  failed_for first readers new fault are f =
      subst (All (IsReaderFor disk first)) (sym f.only) (All-set (IsReaderFor disk first) readers f.i f.now (subst (IsReaderFor disk first) (sym f.failed.stays) still) are)
    where
      was : IsReaderFor disk first f.was
      was = subst (IsReaderFor disk first) f.is_was (are f.i f.was f.within)

      still : IsReaderFor disk first (record (f.was) { failed = f.now.failed })
      still = record { only_read = was.only_read; content = was.content; session = was.session; served = was.served }

  read_for : (first : Chain S Ledger T) (readers new : List Sealed) (read : Result (Unit {0}) StoreFault) → All (IsReaderFor disk first) readers → AreReadBy read readers new → All (IsReaderFor disk first) new
  read_for first readers new (Ok done) are same = subst (All (IsReaderFor disk first)) (sym same) are
  read_for first readers new (Err fault) are f = failed_for first readers new (record { file = fault.file; count = fault.count }) are f

  reads_for : (first : Chain S Ledger T) (readers new : List Sealed) (answer : Result Placed ChainRefusal) → All (IsReaderFor disk first) readers → ReadsBy answer readers new → All (IsReaderFor disk first) new
  reads_for first readers new (Ok placed) are by = read_for first readers new placed.read are by
  reads_for first readers new (Err refusal) are same = subst (All (IsReaderFor disk first)) (sym same) are

  -- behind a call
  pub have_still : (old now : Basis S T) (readers new : List Sealed) (answer : Result Placed ChainRefusal) → Contains now old → HaveReaders disk old readers → ReadsBy answer readers new → HaveReaders disk now new
  have_still old now readers new answer contains have by = subst (λ o. IfSome o (λ first. All (IsReaderFor disk first) new)) (sym contains.first) (go old.first have)
    where
      go : (o : Option (Chain S Ledger T)) → IfSome o (λ first. All (IsReaderFor disk first) readers) → IfSome o (λ first. All (IsReaderFor disk first) new)
      go None h = tt
      go (Some first) h = reads_for first readers new answer h by
