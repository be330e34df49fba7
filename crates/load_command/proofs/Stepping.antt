-- Commands of a load, one after the other.
use Rattle.std.proofs.Common.{◌≡◌, ◌<◌, ◌++◌, ◌∷◌, ◌+◌, ℕ, List, [], length, take, drop, get_or, Option, Some, None, Result, Ok, Err, refl, sym, ap, subst, ◌∙◌}
use Rattle.std.specs.Prelude.{IfErr, IfOk}
use Rattle.std.specs.Result.{IsErrAnd}
use Rattle.command_base.proofs.Said.{err_as}
use Rattle.std.proofs.lemmas.List.{drop_more, take-append-drop, take_more}
use Rattle.store_model.specs.Disk.{WhereTold}
use Rattle.store_model.specs.Folder.{Held}
use Rattle.link_rules.specs.Folders.{AllIdle}
use Rattle.make_file.specs.Makes.{Outside}
use Rattle.script.specs.declared.form.Line.{Line}
use Rattle.load_calls.specs.Load.{load_lines, preparing_lines}
use Rattle.serve_session.specs.declared.tally.Tally.{Tally}
use Rattle.printing.specs.declared.status.Status.TheVariants.{Done, Fault, NoMemory}
use Rattle.serve_command.specs.Serves.{ServesLines, lines_served, lines_unopened}
use Rattle.load_command.specs.Commands.{HasDone, HaveDone, load_name, unheard}
use Rattle.load_command.specs.Growing.{HasStepped, HaveStepped}
use Rattle.load_command.specs.Loads.{Stops, by_a_call, by_itself}
use Rattle.load_command.specs.Stops.{EndsServing, HasServed, ServesBadly, StopsSo, StopsWithin, refuses_call, serves_otherwise}
use Rattle.load_command.specs.declared.commands.Command.{Command}
use Rattle.load_command.specs.declared.commands.Command.TheVariants.{Make, Run, Write}
use Rattle.load_command.specs.declared.stop.Stop.{Stop}
use Rattle.load_command.proofs.Runs.{run_grows}
use Rattle.load_command.proofs.ServedWell.{has_begun, unopened_undone}
use Rattle.load_command.proofs.Writes.{write_grows}

-- ---- a session

pub write_stepped : (seed file : ℕ) (before now : Outside) (tally : Tally) → HasServed (load_name file) None (preparing_lines seed file) before now tally → HasStepped seed (Write file) before now (Some tally)
write_stepped seed file before now tally h = record {
  done = record { runs = h.serves; taken = h.taken; tells = h.tells; ends = h.ends };
  grows = write_grows seed file before now tally h;
}

pub run_stepped : (seed : ℕ) (before now : Outside) (tally : Tally) → HasServed (load_name 4) (Some (load_name 2)) (load_lines seed) before now tally → HasStepped seed Run before now (Some tally)
run_stepped seed before now tally h = record {
  done = record { runs = h.serves; taken = h.taken; tells = h.tells; ends = h.ends };
  grows = run_grows seed before now tally h;
}

pub write_stops : (seed file : ℕ) (before now : Outside) (stop : Stop) → EndsServing (load_name file) None (preparing_lines seed file) before now stop → StopsSo seed (Write file) before now stop
write_stops seed file before now stop ends sunk after old new_ status said = let e = ends sunk after old new_ status said in (by_end e.0, e.1)
  where
    by_end : ServesBadly (load_name file) None (preparing_lines seed file) before now sunk after old new_ status → Stops seed (Write file) before now sunk after old new_ status
    by_end (serves_otherwise heard serves undone) = by_itself heard serves undone
    by_end (refuses_call tally refusal serves is reports) = by_a_call tally refusal serves is reports

pub run_stops : (seed : ℕ) (before now : Outside) (stop : Stop) → EndsServing (load_name 4) (Some (load_name 2)) (load_lines seed) before now stop → StopsSo seed Run before now stop
run_stops seed before now stop ends sunk after old new_ status said = let e = ends sunk after old new_ status said in (by_end e.0, e.1)
  where
    by_end : ServesBadly (load_name 4) (Some (load_name 2)) (load_lines seed) before now sunk after old new_ status → Stops seed Run before now sunk after old new_ status
    by_end (serves_otherwise heard serves undone) = by_itself heard serves undone
    by_end (refuses_call tally refusal serves is reports) = by_a_call tally refusal serves is reports

-- as the code has them

pub write_told : (seed file : ℕ) (name : List ℕ) (lines : List Line) (before now : Outside) (result : Result Tally Stop) → name ≡ load_name file → lines ≡ preparing_lines seed file → IfOk result (HasServed name None lines before now)
    → IfOk result (λ tally. HasStepped seed (Write file) before now (Some tally))
write_told seed file name lines before now (Ok tally) named are h = write_stepped seed file before now tally (subst (λ n. HasServed n None (preparing_lines seed file) before now tally) named (subst (λ ls. HasServed name None ls before now tally) are h))
write_told seed file name lines before now (Err stop) named are h = tt

pub write_untold : (seed file : ℕ) (name : List ℕ) (lines : List Line) (before now : Outside) (result : Result Tally Stop) → name ≡ load_name file → lines ≡ preparing_lines seed file → IfErr result (EndsServing name None lines before now)
    → IfErr result (StopsSo seed (Write file) before now)
write_untold seed file name lines before now (Ok tally) named are h = tt
write_untold seed file name lines before now (Err stop) named are h = write_stops seed file before now stop (subst (λ n. EndsServing n None (preparing_lines seed file) before now stop) named (subst (λ ls. EndsServing name None ls before now stop) are h))

pub run_told : (seed : ℕ) (name third : List ℕ) (lines : List Line) (before now : Outside) (result : Result Tally Stop) → name ≡ load_name 4 → third ≡ load_name 2 → lines ≡ load_lines seed → IfOk result (HasServed name (Some third) lines before now)
    → IfOk result (λ tally. HasStepped seed Run before now (Some tally))
run_told seed name third lines before now (Ok tally) named merged are h =
    run_stepped seed before now tally
    (subst (λ n. HasServed n (Some (load_name 2)) (load_lines seed) before now tally) named (subst (λ m. HasServed name (Some m) (load_lines seed) before now tally) merged (subst (λ ls. HasServed name (Some third) ls before now tally) are h)))
run_told seed name third lines before now (Err stop) named merged are h = tt

pub run_untold : (seed : ℕ) (name third : List ℕ) (lines : List Line) (before now : Outside) (result : Result Tally Stop) → name ≡ load_name 4 → third ≡ load_name 2 → lines ≡ load_lines seed → IfErr result (EndsServing name (Some third) lines before now)
    → IfErr result (StopsSo seed Run before now)
run_untold seed name third lines before now (Ok tally) named merged are h = tt
run_untold seed name third lines before now (Err stop) named merged are h =
    run_stops seed before now stop
    (subst (λ n. EndsServing n (Some (load_name 2)) (load_lines seed) before now stop) named (subst (λ m. EndsServing name (Some m) (load_lines seed) before now stop) merged (subst (λ ls. EndsServing name (Some third) ls before now stop) are h)))

-- guests of whom nothing was heard weren't served
pub run_heard : (seed : ℕ) (before now : Outside) → HasDone seed Run before now None → ⊥
run_heard seed before now done = by_lines done.runs
  where
    by_lines : ServesLines (load_name 4) (Some (load_name 2)) (load_lines seed) (unheard before) (unheard now) Done None → ⊥
    by_lines (lines_unopened u none) = unopened_undone (load_name 4) (unheard before) (unheard now) u
    by_lines (lines_served s is has) = let never = sym (has_begun (load_name 4) (Some (load_name 2)) (unheard before) (unheard now) s) ∙ has.begun in cc

-- ---- one more

pub have_more : (seed : ℕ) (commands : List Command) (command : Command) (before mid now : Outside) (first last heard : Option Tally) → HaveStepped seed commands before first mid last → HasStepped seed command mid now heard
    → HaveStepped seed (commands ++ command ∷ []) before first now heard
have_more seed [] command before mid now first last heard (same, also) more = (now, heard, subst (λ (o : Outside). HasStepped seed command o now heard) same more, (refl, refl))
have_more seed (c ∷ commands) command before mid now first last heard (o, h, step, rest) more = (o, h, step, have_more seed commands command o mid now h last heard rest more)

pub next_stepped : (seed i : ℕ) (commands : List Command) (command default : Command) (before mid now : Outside) (last heard : Option Tally) → i < length commands → command ≡ get_or commands i default → HaveStepped seed (take i commands) before None mid last → HasStepped seed command mid now heard
    → HaveStepped seed (take (i + 1) commands) before None now heard
next_stepped seed i commands command default before mid now last heard below is have step =
    let next = take_more commands i default below ∙ ap (λ c. take i commands ++ c ∷ []) (sym is) in
    subst (λ cs. HaveStepped seed cs before None now heard) (sym next) (have_more seed (take i commands) command before mid now None last heard have step)

pub stops_within : (seed i : ℕ) (commands : List Command) (command default : Command) (before mid now : Outside) (last : Option Tally) (stop : Stop) → i < length commands → command ≡ get_or commands i default → HaveStepped seed (take i commands) before None mid last
    → StopsSo seed command mid now stop → StopsWithin seed commands before now stop
stops_within seed i commands command default before mid now last stop below is have stops = record {
  done = take i commands;
  command = command;
  left = drop (i + 1) commands;
  split = sym (take-append-drop i commands) ∙ ap (λ cs. take i commands ++ cs) (drop_more commands i default below ∙ ap (λ c. c ∷ drop (i + 1) commands) (sym is));
  mid = mid;
  last = last;
  have_done = have;
  stops = stops;
}

-- as the code has the first kind
pub make_untold : (seed file : ℕ) (command : Command) (before now : Outside) (stop : Stop) (result : Result (Option Tally) Stop) → command ≡ Make file → IsErrAnd result (λ x. x ≡ stop) → StopsSo seed (Make file) before now stop → IfErr result (StopsSo seed command before now)
make_untold seed file command before now stop result is err stops = err_as (StopsSo seed command before now) result stop err (subst (λ c. StopsSo seed c before now stop) (sym is) stops)

pub write_was : (seed file : ℕ) (command : Command) (before now : Outside) (stop : Stop) (result : Result (Option Tally) Stop) → command ≡ Write file → IsErrAnd result (λ x. x ≡ stop) → StopsSo seed (Write file) before now stop → IfErr result (StopsSo seed command before now)
write_was seed file command before now stop result is err stops = err_as (StopsSo seed command before now) result stop err (subst (λ c. StopsSo seed c before now stop) (sym is) stops)

pub run_was : (seed : ℕ) (command : Command) (before now : Outside) (stop : Stop) (result : Result (Option Tally) Stop) → command ≡ Run → IsErrAnd result (λ x. x ≡ stop) → StopsSo seed Run before now stop → IfErr result (StopsSo seed command before now)
run_was seed command before now stop result is err stops = err_as (StopsSo seed command before now) result stop err (subst (λ c. StopsSo seed c before now stop) (sym is) stops)

-- ---- how far they got

pub have_done : (seed : ℕ) (commands : List Command) (before now : Outside) (first last : Option Tally) → HaveStepped seed commands before first now last → HaveDone seed commands before first now last
have_done seed [] before now first last h = h
have_done seed (c ∷ commands) before now first last (o, h, step, rest) = (o, h, step.done, have_done seed commands o now h last rest)

pub still_idle : (seed : ℕ) (command : Command) (before now : Outside) (heard : Option Tally) → HasDone seed command before now heard → WhereTold before.host.folder AllIdle → WhereTold now.host.folder AllIdle
still_idle seed command before now heard done idle g told = by_folder before.host.folder refl
  where
    by_folder : (folder : Option (List Held)) → before.host.folder ≡ folder → AllIdle g
    by_folder None none = absurd (let never : None ≡ Some g = sym (done.tells.untold none) ∙ told in cc)
    by_folder (Some f) is = done.ends.idle (λ e. let never : Done ≡ Fault = e in cc) (λ e. absurd (let never : Done ≡ NoMemory = e in cc)) f is g told
