-- What is said of a script's run, by what it gave.
use Rattle.std.proofs.Common.{◌≡◌, ℕ, List, Option, Some, None, Result, Ok, Err, sym, ap, subst, ◌∙◌}
use Rattle.std.specs.Prelude.{String, codes, string_bytes}
use Rattle.store_model.specs.declared.fault.StoreFault.{StoreFault}
use Rattle.vx_base.specs.declared.NoRoom.{NoRoom}
use Rattle.script.specs.declared.refusal.SourceRefusal.{SourceRefusal}
use Rattle.script_session.specs.declared.session.ScriptRun.{ScriptRun}
use Rattle.printing.specs.Answers.{fault_line}
use Rattle.printing.specs.Sent.{Sent}
use Rattle.steps_command.specs.Sessions.{ReportsRun, Said, lines_said, none_said, run_said, said_of, source_said}
use Rattle.steps_command.specs.declared.refusal.StepsRefusal.{StepsRefusal}
use Rattle.printing.specs.declared.status.Status.{Status}
use Rattle.printing.specs.declared.status.Status.TheVariants.{Done, Fault, NoMemory}

module _ (before after : Option (List ℕ)) (old new : ℕ) (status : Status) where
  -- so it was said
  abbrev pub IsSaid : Said → Type 0
  IsSaid said = Sent before after old new said.0 said.1 status

  pub said_by : (a b : Said) → a ≡ b → IsSaid b → IsSaid a
  said_by a b same h = subst IsSaid (sym same) h

  both_are : (end : Status) (text : List ℕ) (fault f : Option StoreFault) (closed c : Result (Unit {0}) StoreFault) → fault ≡ f → closed ≡ c → lines_said end text fault closed ≡ lines_said end text f c
  both_are end text fault f closed c a b = ap (λ x. lines_said end text x closed) a ∙ ap (lines_said end text f) b

  pub told_whole : (end : Status) (text : List ℕ) (fault : Option StoreFault) (closed : Result (Unit {0}) StoreFault) (u : Unit {0}) → fault ≡ None → closed ≡ Ok u → Sent before after old new end text status → IsSaid (lines_said end text fault closed)
  told_whole end text fault closed u a b h = said_by (lines_said end text fault closed) (lines_said end text None (Ok u)) (both_are end text fault None closed (Ok u) a b) h

  pub told_at_end : (end : Status) (text : List ℕ) (fault : Option StoreFault) (closed : Result (Unit {0}) StoreFault) (f : StoreFault) → fault ≡ None → closed ≡ Err f → Sent before after old new Fault text status
      → IsSaid (lines_said end text fault closed)
  told_at_end end text fault closed f a b h = said_by (lines_said end text fault closed) (lines_said end text None (Err f)) (both_are end text fault None closed (Err f) a b) h

  pub told_in_lines : (end : Status) (text : List ℕ) (fault : Option StoreFault) (closed : Result (Unit {0}) StoreFault) (f : StoreFault) → fault ≡ Some f → Sent before after old new Fault text status → IsSaid (lines_said end text fault closed)
  told_in_lines end text fault closed f a h = said_by (lines_said end text fault closed) (lines_said end text (Some f) closed) (ap (λ x. lines_said end text x closed) a) h

  pub none_at_end : (fault : Option StoreFault) (closed : Result (Unit {0}) StoreFault) (f : StoreFault) → closed ≡ Err f → Sent before after old new Fault (fault_line (codes "store") f.count) status → IsSaid (none_said fault closed)
  none_at_end fault closed f b h = said_by (none_said fault closed) (none_said fault (Err f)) (ap (none_said fault) b) h

  pub none_at_line : (fault : Option StoreFault) (closed : Result (Unit {0}) StoreFault) (f : StoreFault) (u : Unit {0}) → fault ≡ Some f → closed ≡ Ok u → Sent before after old new Fault (fault_line (codes "store") f.count) status
      → IsSaid (none_said fault closed)
  none_at_line fault closed f u a b h = said_by (none_said fault closed) (none_said (Some f) (Ok u)) (ap (λ x. none_said x closed) a ∙ ap (none_said (Some f)) b) h

  pub none_at_all : (fault : Option StoreFault) (closed : Result (Unit {0}) StoreFault) (u : Unit {0}) → fault ≡ None → closed ≡ Ok u → Sent before after old new NoMemory (codes "no memory\n") status → IsSaid (none_said fault closed)
  none_at_all fault closed u a b h = said_by (none_said fault closed) (none_said None (Ok u)) (ap (λ x. none_said x closed) a ∙ ap (none_said None) b) h

  pub ran_lines : {Z : Type 0} (end : Status) (t : Result (String Z) NoRoom) (fault : Option StoreFault) (closed : Result (Unit {0}) StoreFault) (text : String Z) (bytes : List ℕ) → t ≡ Ok text → bytes ≡ string_bytes text → IsSaid (lines_said end bytes fault closed)
      → IsSaid (said_of end t fault closed)
  ran_lines end t fault closed text bytes a b h =
      said_by (said_of end t fault closed) (lines_said end (string_bytes text) fault closed) (ap (λ x. said_of end x fault closed) a) (subst (λ x. IsSaid (lines_said end x fault closed)) b h)

  pub ran_none : {Z : Type 0} (end : Status) (t : Result (String Z) NoRoom) (fault : Option StoreFault) (closed : Result (Unit {0}) StoreFault) (e : NoRoom) → t ≡ Err e → IsSaid (none_said fault closed) → IsSaid (said_of end t fault closed)
  ran_none end t fault closed e a h = said_by (said_of end t fault closed) (none_said fault closed) (ap (λ x. said_of end x fault closed) a) h

  pub run_told : (result : Result ScriptRun StepsRefusal) (run : ScriptRun) → result ≡ Ok run → IsSaid (run_said Done run) → ReportsRun result before after old new status
  run_told result run is h = subst (λ r. ReportsRun r before after old new status) (sym is) h

  pub source_told : (refusal r : SourceRefusal) → refusal ≡ r → IsSaid (source_said r) → IsSaid (source_said refusal)
  source_told refusal r is h = subst (λ x. IsSaid (source_said x)) (sym is) h
