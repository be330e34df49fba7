-- A guest that makes calls one after the other, and is told where memory ran out for one.
use Rattle.std.proofs.Common.{◌+◌, ◌∷◌, [], List, Result, Ok, Err, length-append, refl, sym, true, ◌∙◌, ap}
use Rattle.std.specs.Prelude.{IfErr, IfOk}
use Rattle.store_model.specs.Disk.{Disk, Sealed}
use Rattle.store_model.specs.Cause.{Rose}
use Rattle.guest_model.specs.declared.call.Call.{Call}
use Rattle.guest_model.specs.declared.refusal.ChainRefusal.{ChainRefusal}
use Rattle.ledger.specs.declared.ledger.Ledger.{Ledger}
use Rattle.chain_core.specs.declared.chain.Chain.{Chain}
use Rattle.guest_io.specs.Guests.{ReadsBy}
use Rattle.guest_io.specs.declared.placed.Placed.{Placed}
use Rattle.serve_session.specs.Actors.{HasReaders, IsUnread}
use Rattle.serve_session.specs.Asking.{OnlyReadsMiss, outcome_of}
use Rattle.serve_session.specs.Calling.{BeginsToCall, CallsOnceMore}
use Rattle.serve_session.specs.Served.{Outcome, counts_behind, none_failed, unread_in}
use Rattle.serve_session.proofs.Hearing.{told_call}
use Rattle.serve_session.proofs.Joining.{none_heard}
use Rattle.serve_session.proofs.Reading.{missed_by, readers_behind}

module _ {S T : Type 0} (disk : S → Disk) (first : Chain S Ledger T) where
  pub begins : BeginsToCall disk first
  begins guest seat readers knows mine drawn set = record { hears = none_heard disk first true guest seat knows mine drawn; counts = set; all = refl }

  missed : (call : Call) (outcomes : List Outcome) (readers later : List Sealed) (answer : Result Placed ChainRefusal) → HasReaders disk first (unread_in outcomes) readers → ReadsBy answer readers later → OnlyReadsMiss call answer
      → IfOk answer (λ placed. IfErr placed.read (λ fault. IsUnread disk first call fault × Rose (counts_behind none_failed (unread_in outcomes) fault.file) fault.count))
  missed call outcomes readers later (Ok placed) h by only = missed_by disk first call (unread_in outcomes) readers later placed.read h by only
  missed call outcomes readers later (Err refusal) h by only = tt

  pub goes_on : CallsOnceMore disk first
  goes_on guest calls outcomes old new readers later call shown answer h made by only = record {
    hears = told_call disk first true guest calls outcomes call old new h.hears made.keeps.seen made.keeps.basis made.keeps.refusals h.all made.drawn refl shown answer made.answers (missed call outcomes readers later answer h.counts by only);
    counts = readers_behind disk first outcomes shown answer readers later h.counts by;
    all = length-append outcomes (outcome_of shown answer ∷ []) ∙ ap (λ n. n + 1) h.all ∙ sym (length-append calls (call ∷ []));
  }
