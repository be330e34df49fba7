-- What a session of a load answers, as a command of its own with those lines does.
use Rattle.std.proofs.Common.{◌≡◌, ◌≢◌, ◌&&◌, ◌==◌, ℕ, Bool, true, false, not, List, Option, Some, None, Result, Ok, Err, String, inl, inr, refl, sym, ap, subst, ◌∙◌}
use Rattle.std.specs.Prelude.{IfErr, IfOk, if◌then◌else◌, is_ok, is_some}
use Rattle.store_model.specs.Disk.{WhereTold}
use Rattle.store_model.specs.Folder.{Held}
use Rattle.store_model.specs.declared.fault.StoreFault.{StoreFault}
use Rattle.guest_model.specs.declared.refusal.ChainRefusal.{ChainRefusal}
use Rattle.file_open.specs.Causes.{Meaning, refuses, host_failed, store_failed, no_memory}
use Rattle.link_rules.specs.Effects.{Replays, Within, linked_names}
use Rattle.link_rules.specs.Folders.{AllIdle, Contents}
use Rattle.make_file.specs.Makes.{Outside}
use Rattle.script.specs.declared.form.Line.{Line}
use Rattle.command_base.specs.Commands.{Reports}
use Rattle.command_base.specs.Ends.{Ends, HasMerge}
use Rattle.command_base.specs.Refusals.{OfCall, Refusal}
use Rattle.command_base.specs.Worlds.{World}
use Rattle.command_base.specs.declared.refusal.ChainRefusal.TheVariants as chain
use Rattle.printing.specs.Sent.{Sent, cut, whole}
use Rattle.printing.specs.declared.status.Status.{Status}
use Rattle.printing.specs.declared.status.Status.TheVariants.{Done, Fault, NoMemory, Refused}
use Rattle.serve_command.specs.Guests.{LeafIsServed, ReportsServed, TellsAlike, end_of, no_room, over, served_of, served_said, tally_of, unlinked}
use Rattle.serve_command.specs.Serves.{ServesLines}
use Rattle.serve_command.proofs.ServedRuns.{leaf_serves_ends, leaf_serves_lines, serve_told}
use Rattle.serve_session.specs.declared.merging.MergeRun.{MergeRun}
use Rattle.serve_session.specs.declared.tally.Tally.{Tally}
use Rattle.steps_command.specs.Sessions.{Said, meaning_of_steps}
use Rattle.steps_command.specs.declared.refusal.StepsRefusal.{StepsRefusal}
use Rattle.steps_command.specs.declared.refusal.StepsRefusal.TheVariants as steps
use Rattle.vx_base.specs.declared.NoRoom.{NoRoom}
use Rattle.load_command.specs.Commands.{unheard}
use Rattle.load_command.specs.Stops.{EndsBadly, EndsServing, EndsWell, HasServed, SaysStop, call_refused, is_done_run, not_done, refuses_call, serves_otherwise}
use Rattle.load_command.specs.declared.stop.Stop.{Stop}
use Rattle.load_command.specs.declared.stop.Stop.TheVariants as stops
use Rattle.load_command.proofs.ServedWell.{done_meant}

-- ---- status 0

-- by whether a reader failed and whether the merge is finished
done_end : (quiet : Bool) (merged : Result (Unit {0}) ChainRefusal) → (quiet && is_ok merged) ≡ true → (if quiet then end_of merged else Fault) ≡ Done
done_end true (Ok done) is = refl
done_end true (Err refusal) is = let never : false ≡ true = is in cc
done_end false merged is = let never : false ≡ true = is in cc

other_end : (quiet : Bool) (merged : Result (Unit {0}) ChainRefusal) → (quiet && is_ok merged) ≡ false → (if quiet then end_of merged else Fault) ≢ Done
other_end true (Ok done) is e = let never : true ≡ false = is in cc
other_end true (Err refusal) is e = let never : Refused ≡ Done = e in cc
other_end false merged is e = let never : Fault ≡ Done = e in cc

done_of : {Z : Type 0} (t : Result (String Z) NoRoom) (fault : Option StoreFault) (closed : Result (Unit {0}) StoreFault) (unread : ℕ) (merged : Result (Unit {0}) ChainRefusal)
    → (is_ok t && not (is_some fault) && is_ok closed && (unread == 0) && is_ok merged) ≡ true → (served_of (end_of merged) unread t fault closed).0 ≡ Done
done_of (Ok text) None (Ok done) unread merged is = done_end (unread == 0) merged is
done_of (Ok text) None (Err fault) unread merged is = let never : false ≡ true = is in cc
done_of (Ok text) (Some fault) closed unread merged is = let never : false ≡ true = is in cc
done_of (Err e) fault closed unread merged is = let never : false ≡ true = is in cc

other_of : {Z : Type 0} (t : Result (String Z) NoRoom) (fault : Option StoreFault) (closed : Result (Unit {0}) StoreFault) (unread : ℕ) (merged : Result (Unit {0}) ChainRefusal)
    → (is_ok t && not (is_some fault) && is_ok closed && (unread == 0) && is_ok merged) ≡ false → (served_of (end_of merged) unread t fault closed).0 ≢ Done
other_of (Ok text) None (Ok done) unread merged is e = other_end (unread == 0) merged is e
other_of (Ok text) None (Err fault) unread merged is e = let never : Fault ≡ Done = e in cc
other_of (Ok text) (Some fault) closed unread merged is e = let never : Fault ≡ Done = e in cc
other_of (Err x) fault (Err last) unread merged is e = let never : Fault ≡ Done = e in cc
other_of (Err x) (Some fault) (Ok done) unread merged is e = let never : Fault ≡ Done = e in cc
other_of (Err x) None (Ok done) unread merged is e = by_count (unread == 0) _ _ e
  where
    by_count : (quiet : Bool) (a b : List ℕ) → (let said : Said = if quiet then (NoMemory, a) else (Fault, b) in said.0) ≡ Done → ⊥
    by_count true a b e = let never : NoMemory ≡ Done = e in cc
    by_count false a b e = let never : Fault ≡ Done = e in cc

done_says : (run : MergeRun) → is_done_run run ≡ true → (served_said run).0 ≡ Done
done_says run is = done_of run.run.transcript run.run.fault run.run.closed run.unread run.merged is

other_says : (run : MergeRun) → is_done_run run ≡ false → (served_said run).0 ≢ Done
other_says run is = other_of run.run.transcript run.run.fault run.run.closed run.unread run.merged is

same_ok : (a b : MergeRun) → (let r : Result MergeRun StepsRefusal = Ok a in r) ≡ Ok b → a ≡ b
same_ok a b e = cc

-- what a session's end is judged as
pub ended_well : (result : Result MergeRun StepsRefusal) (run : MergeRun) → result ≡ Ok run → is_done_run run ≡ true → EndsWell result run.tally
ended_well result run is done = record { run = run; is = is; said = done_says run done; heard = refl }

pub ended_badly : (result : Result MergeRun StepsRefusal) (run : MergeRun) → result ≡ Ok run → is_done_run run ≡ false → EndsBadly result (stops.Unserved (Ok run))
ended_badly result run is other =
    subst (λ r. EndsBadly result (stops.Unserved r)) is
    (not_done (λ (x : MergeRun) same. subst (λ (y : MergeRun). (served_said y).0 ≢ Done) (same_ok run x (sym is ∙ same)) (other_says run other)))

pub not_begun : (result : Result MergeRun StepsRefusal) (refusal : StepsRefusal) → result ≡ Err refusal → EndsBadly result (stops.Unserved (Err refusal))
not_begun result refusal is = subst (λ r. EndsBadly result (stops.Unserved r)) is (not_done (λ run same. absurd (let never : ◌≡◌ {A = Result MergeRun StepsRefusal} (Err refusal) (Ok run) = sym is ∙ same in cc)))

-- ---- whatever is said of it

reports_undone : (meaning : Meaning Refusal) (before after : Option (List ℕ)) (old new_ : ℕ) → Reports meaning before after old new_ Done → ⊥
reports_undone (refuses r) before after old new_ (inl sent) = let never : Refused ≡ Done = done_meant _ _ _ _ _ _ sent in cc
reports_undone (refuses r) before after old new_ (inr sent) = let never : NoMemory ≡ Done = done_meant _ _ _ _ _ _ sent in cc
reports_undone (host_failed fault) before after old new_ sent = let never : Fault ≡ Done = done_meant _ _ _ _ _ _ sent in cc
reports_undone (store_failed fault) before after old new_ sent = let never : Fault ≡ Done = done_meant _ _ _ _ _ _ sent in cc
reports_undone no_memory before after old new_ sent = let never : NoMemory ≡ Done = done_meant _ _ _ _ _ _ sent in cc

pub not_reported : (meaning : Meaning Refusal) (before after : Option (List ℕ)) (old new_ : ℕ) (status : Status) → Reports meaning before after old new_ status → status ≢ Done
not_reported meaning before after old new_ status said e = reports_undone meaning before after old new_ (subst (Reports meaning before after old new_) e said)

served_undone : (result : Result MergeRun StepsRefusal) → ((run : MergeRun) → result ≡ Ok run → (served_said run).0 ≢ Done) → (before after : Option (List ℕ)) (old new_ : ℕ) (status : Status)
    → ReportsServed result before after old new_ status → status ≢ Done
served_undone (Ok run) other before after old new_ status said = λ e. other run refl (done_meant _ _ _ _ _ _ (subst (Sent before after old new_ (served_said run).0 (served_said run).1) e said))
served_undone (Err refusal) other before after old new_ status said = not_reported (meaning_of_steps refusal) before after old new_ status said

-- so much of how it ends is so of any run
weaker : (merges : Type 0) (before now : World) (status : Status) → Ends merges before now status → Ends (Unit {0}) before now status
weaker merges before now status e = record { rose = e.rose; quiet = e.quiet; home = e.home; idle = λ none memory. e.idle none (λ is. absurd (memory is tt)) }

-- the line of a call's refusal is said after all that
call_ends : (before now : Outside) (r : Refusal) (sunk after : Option (List ℕ)) (old new_ : ℕ) (status : Status) → Ends (Unit {0}) (unheard before) (unheard now) Done → Reports (refuses r) sunk after old new_ status
    → Ends (Unit {0}) (record (unheard before) { written = sunk; sink_faults = old }) (record (unheard now) { written = after; sink_faults = new_ }) status
call_ends before now r sunk after old new_ status e said = by_said said
  where
    none : Done ≢ Fault
    none is = let never : Done ≡ Fault = is in cc

    by_sent : (meant : Status) (text : List ℕ) → meant ≢ Fault → Sent sunk after old new_ meant text status → Ends (Unit {0}) (record (unheard before) { written = sunk; sink_faults = old }) (record (unheard now) { written = after; sink_faults = new_ }) status
    by_sent meant text other (whole is sent same) = record {
      rose = λ fault. absurd (other (sym is ∙ fault));
      quiet = λ fault. let q = e.quiet none in (q.0, q.1, same);
      home = e.home;
      idle = λ fault memory. e.idle none (λ is. absurd (let never : Done ≡ NoMemory = is in cc));
    }
    by_sent meant text other (cut is n sent rose) = record {
      rose = λ fault. inr (inr rose);
      quiet = λ fault. absurd (fault is);
      home = e.home;
      idle = λ fault. absurd (fault is);
    }

    by_said : Reports (refuses r) sunk after old new_ status → Ends (Unit {0}) (record (unheard before) { written = sunk; sink_faults = old }) (record (unheard now) { written = after; sink_faults = new_ }) status
    by_said (inl sent) = by_sent Refused _ (λ is. let never : Refused ≡ Fault = is in cc) sent
    by_said (inr sent) = by_sent NoMemory _ (λ is. let never : NoMemory ≡ Fault = is in cc) sent

-- ---- a session

module _ (leaf : List ℕ) (merge : Option (List ℕ)) (lines : List Line) (before now : Outside) (idle : WhereTold before.host.folder AllIdle) (result : Result MergeRun StepsRefusal) (h : LeafIsServed leaf merge lines before.host now.host before.drawn now.drawn result) where
  serves_as : (sunk after : Option (List ℕ)) (old new_ : ℕ) (status : Status) → ReportsServed result sunk after old new_ status
      → ServesLines leaf merge lines (record (unheard before) { written = sunk; sink_faults = old }) (record (unheard now) { written = after; sink_faults = new_ }) status (tally_of result)
  serves_as sunk after old new_ status said =
      leaf_serves_lines leaf merge (record (unheard before) { written = sunk; sink_faults = old }) (record (unheard now) { written = after; sink_faults = new_ }) status idle refl
      (λ bytes told. absurd (let never : ◌≡◌ {A = Option (List ℕ)} None (Some bytes) = told in cc)) lines (λ bytes told. absurd (let never : ◌≡◌ {A = Option (List ℕ)} None (Some bytes) = told in cc)) result h said

  ends_as : (sunk after : Option (List ℕ)) (old new_ : ℕ) (status : Status) → ReportsServed result sunk after old new_ status
      → Ends (Unit {0}) (record (unheard before) { written = sunk; sink_faults = old }) (record (unheard now) { written = after; sink_faults = new_ }) status
  ends_as sunk after old new_ status said =
      weaker (HasMerge merge) (record (unheard before) { written = sunk; sink_faults = old }) (record (unheard now) { written = after; sink_faults = new_ }) status
      (leaf_serves_ends leaf merge (record (unheard before) { written = sunk; sink_faults = old }) (record (unheard now) { written = after; sink_faults = new_ }) status idle refl
      (λ bytes told. absurd (let never : ◌≡◌ {A = Option (List ℕ)} None (Some bytes) = told in cc)) lines (λ bytes told. absurd (let never : ◌≡◌ {A = Option (List ℕ)} None (Some bytes) = told in cc)) result h said)

  -- where it ended with status 0
  module _ (tally : Tally) (well : EndsWell result tally) where
    said_done : ReportsServed result None None 0 0 Done
    said_done = subst (λ r. ReportsServed r None None 0 0 Done) (sym well.is) (whole (sym well.said) tt refl)

    serves_done : ServesLines leaf merge lines (unheard before) (unheard now) Done (Some tally)
    serves_done = subst (ServesLines leaf merge lines (unheard before) (unheard now) Done) (ap tally_of well.is ∙ ap (λ (t : Tally). Some t) well.heard) (serves_as None None 0 0 Done said_done)

    tells_alike : TellsAlike before.host.folder now.host.folder
    tells_alike = by_answer (subst (LeafIsServed leaf merge lines before.host now.host before.drawn now.drawn) well.is h)
      where
        before_none : (R : Contents → Contents → Type 0) (old mid : Option (List Held)) → Within R old mid → mid ≡ None → old ≡ None
        before_none R None mid within none = refl
        before_none R (Some f) mid within none = let w = within f refl in absurd (let never : None ≡ Some w.0 = sym none ∙ w.1 in cc)

        by_answer : LeafIsServed leaf merge lines before.host now.host before.drawn now.drawn (Ok well.run) → TellsAlike before.host.folder now.host.folder
        by_answer (no_room is same undrawn) = absurd (let never : ◌≡◌ {A = Result MergeRun StepsRefusal} (Ok well.run) (Err (steps.Chain chain.NoRoom)) = is in cc)
        by_answer (unlinked r is none undrawn) = absurd (let never : ◌≡◌ {A = Result MergeRun StepsRefusal} (Ok well.run) (Err (steps.Chain (chain.Unlinked r))) = is in cc)
        by_answer (over mid linked f ran none) = record { untold = λ none. ran.served.tells.untold (f.replayed.untold none); told = λ none. before_none (Replays (linked_names linked)) before.host.folder mid.folder f.replayed.files (ran.served.tells.told none) }

    pub well_served : tally.refused ≡ None → HasServed leaf merge lines before now tally
    well_served taken = record { serves = serves_done; taken = taken; tells = tells_alike; ends = ends_as None None 0 0 Done said_done }

  pub badly_served : (stop : Stop) → EndsBadly result stop → EndsServing leaf merge lines before now stop
  badly_served _ (not_done other) sunk after old new_ status said =
      (serves_otherwise (tally_of result) (serves_as sunk after old new_ status said) (served_undone result other sunk after old new_ status said), ends_as sunk after old new_ status said)
  badly_served _ (call_refused tally refusal well is) sunk after old new_ status said =
      (refuses_call tally refusal (serves_done tally well) is said, call_ends before now (OfCall refusal) sunk after old new_ status (ends_as None None 0 0 Done (said_done tally well)) said)

-- memory ran out before it began
pub none_begun : (leaf : List ℕ) (merge : Option (List ℕ)) (lines : List Line) (outside : Outside) → WhereTold outside.host.folder AllIdle → EndsServing leaf merge lines outside outside (stops.Unserved (Err (steps.Chain chain.NoRoom)))
none_begun leaf merge lines outside idle =
    badly_served leaf merge lines outside outside idle (Err (steps.Chain chain.NoRoom)) (no_room refl refl refl) (stops.Unserved (Err (steps.Chain chain.NoRoom))) (not_begun (Err (steps.Chain chain.NoRoom)) (steps.Chain chain.NoRoom) refl)

-- ---- as the code has it

pub served_told : (leaf named : List ℕ) (merge source : Option (List ℕ)) (lines : List Line) (before now : Outside) (run : Result MergeRun StepsRefusal) (answer : Result Tally Stop) → WhereTold before.host.folder AllIdle → named ≡ leaf → source ≡ merge
    → LeafIsServed named source lines before.host now.host before.drawn now.drawn run → IfOk answer (λ tally. EndsWell run tally × (tally.refused ≡ None)) → IfOk answer (HasServed leaf merge lines before now)
served_told leaf named merge source lines before now run (Err stop) idle a b h well = tt
served_told leaf named merge source lines before now run (Ok tally) idle a b h well =
    well_served leaf merge lines before now idle run (serve_told named leaf source merge lines lines before.host now.host before.drawn now.drawn run a b refl h) tally well.0 well.1

pub served_untold : (leaf named : List ℕ) (merge source : Option (List ℕ)) (lines : List Line) (before now : Outside) (run : Result MergeRun StepsRefusal) (answer : Result Tally Stop) → WhereTold before.host.folder AllIdle → named ≡ leaf → source ≡ merge
    → LeafIsServed named source lines before.host now.host before.drawn now.drawn run → IfErr answer (EndsBadly run) → IfErr answer (EndsServing leaf merge lines before now)
served_untold leaf named merge source lines before now run (Ok tally) idle a b h badly = tt
served_untold leaf named merge source lines before now run (Err stop) idle a b h badly =
    badly_served leaf merge lines before now idle run (serve_told named leaf source merge lines lines before.host now.host before.drawn now.drawn run a b refl h) stop badly

pub none_served : (leaf : List ℕ) (merge : Option (List ℕ)) (lines : List Line) (outside : Outside) (stop : Stop) → WhereTold outside.host.folder AllIdle → stop ≡ stops.Unserved (Err (steps.Chain chain.NoRoom)) → EndsServing leaf merge lines outside outside stop
none_served leaf merge lines outside stop idle is = subst (EndsServing leaf merge lines outside outside) (sym is) (none_begun leaf merge lines outside idle)

pub call_said : (stop : Stop) (refusal : ChainRefusal) (before after : Option (List ℕ)) (old new_ : ℕ) (status : Status) → stop ≡ stops.Call refusal → Reports (refuses (OfCall refusal)) before after old new_ status → SaysStop stop before after old new_ status
call_said stop refusal before after old new_ status is said = subst (λ s. SaysStop s before after old new_ status) (sym is) said
