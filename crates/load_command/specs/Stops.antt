-- What the functions of `load` say of themselves; what a run promises doesn't rest on these.
use Rattle.std.specs.Prelude.{◌≡◌, ◌≢◌, ◌<◌, ⊤, ◌++◌, ◌∷◌, ◌&&◌, ◌==◌, ℕ, Bool, not, is_ok, is_some, List, Option, Some, None, Result, Ok, Err}
use Rattle.store_model.specs.Disk.{WhereTold}
use Rattle.store_model.specs.Folder.{Held}
use Rattle.guest_model.specs.declared.refusal.ChainRefusal.{ChainRefusal}
use Rattle.script.specs.declared.form.Line.{Line}
use Rattle.make_file.specs.Makes.{Outside}
use Rattle.command_base.specs.Commands.{Reports}
use Rattle.command_base.specs.Ends.{Ends}
use Rattle.command_base.specs.Refusals.{OfCall}
use Rattle.file_open.specs.Causes.{refuses}
use Rattle.folder_commands.specs.News.{SaysMade}
use Rattle.load_calls.specs.Load.{load_lines}
use Rattle.load_calls.specs.Printed.{AreCounted, lines_text}
use Rattle.load_calls.specs.declared.text.Counts.{Counts}
use Rattle.serve_command.specs.Guests.{ReportsServed, TellsAlike, served_said}
use Rattle.serve_command.specs.Serves.{ServesLines}
use Rattle.serve_session.specs.declared.merging.MergeRun.{MergeRun}
use Rattle.serve_session.specs.declared.tally.Tally.{Tally}
use Rattle.steps_command.specs.declared.refusal.StepsRefusal.{StepsRefusal}
use Rattle.printing.specs.declared.status.Status.{Status}
use Rattle.printing.specs.declared.status.Status.TheVariants.{Done}
use Rattle.load_command.specs.Commands.{load_name, unheard}
use Rattle.load_command.specs.Growing.{HaveStepped}
use Rattle.load_command.specs.Loads.{Stops}
use Rattle.load_command.specs.Sums.{SumsUp}
use Rattle.load_command.specs.declared.commands.Command.{Command}
use Rattle.load_command.specs.declared.commands.Command.TheVariants as commands
use Rattle.load_command.specs.declared.stop.Stop.{Stop}
use Rattle.load_command.specs.declared.stop.Stop.TheVariants as stops

-- why a command of a load isn't done was said
abbrev pub SaysStop : Stop → Option (List ℕ) → Option (List ℕ) → ℕ → ℕ → Status → Type 0
SaysStop (stops.Unmade file refusal) before after old new status = SaysMade (load_name file) (Err refusal) before after old new status
SaysStop (stops.Unserved run) before after old new status = ReportsServed run before after old new status
SaysStop (stops.Call refusal) before after old new status = Reports (refuses (OfCall refusal)) before after old new status

-- once it is said, to whatever sink, the command has stopped so
abbrev pub StopsSo : ℕ → Command → Outside → Outside → Stop → Type 0
StopsSo seed command before now stop =
    (sunk after : Option (List ℕ)) (old new : ℕ) (status : Status) → SaysStop stop sunk after old new status
    → Stops seed command before now sunk after old new status × Ends (Unit {0}) (record (unheard before) { written = sunk; sink_faults = old }) (record (unheard now) { written = after; sink_faults = new }) status

-- a session ended with status 0
abbrev pub is_done_run : MergeRun → Bool
is_done_run run = is_ok run.run.transcript && not (is_some run.run.fault) && is_ok run.run.closed && (run.unread == 0) && is_ok run.merged

-- What became of a session of a load: it ended with status 0, and no call of it was refused.
pub record EndsWell (result : Result MergeRun StepsRefusal) (tally : Tally) : Type 0 where
  pub run : MergeRun
  pub is : result ≡ Ok run
  pub said : (served_said run).0 ≡ Done
  pub heard : run.tally ≡ tally

-- or it ended otherwise, or a call was refused
pub data EndsBadly (result : Result MergeRun StepsRefusal) : Stop → Type 0 where
  not_done : ((run : MergeRun) → result ≡ Ok run → (served_said run).0 ≢ Done) → EndsBadly result (stops.Unserved result)
  call_refused : (tally : Tally) (refusal : ChainRefusal) → EndsWell result tally → tally.refused ≡ Some refusal → EndsBadly result (stops.Call refusal)

-- A session ran these lines, as a command of its own without a place for its text would.
pub record HasServed (leaf : List ℕ) (merge : Option (List ℕ)) (lines : List Line) (before now : Outside) (tally : Tally) : Type 0 where
  pub serves : ServesLines leaf merge lines (unheard before) (unheard now) Done (Some tally)
  pub taken : tally.refused ≡ None
  pub tells : TellsAlike before.host.folder now.host.folder
  pub ends : Ends (Unit {0}) (unheard before) (unheard now) Done

-- or it stopped, and whatever is said of that is so
pub data ServesBadly (leaf : List ℕ) (merge : Option (List ℕ)) (lines : List Line) (before now : Outside) (sunk after : Option (List ℕ)) (old new : ℕ) (status : Status) : Type 0 where
  serves_otherwise : (heard : Option Tally) → ServesLines leaf merge lines (record (unheard before) { written = sunk; sink_faults = old }) (record (unheard now) { written = after; sink_faults = new }) status heard → status ≢ Done
      → ServesBadly leaf merge lines before now sunk after old new status
  refuses_call : (tally : Tally) (refusal : ChainRefusal) → ServesLines leaf merge lines (unheard before) (unheard now) Done (Some tally) → tally.refused ≡ Some refusal → Reports (refuses (OfCall refusal)) sunk after old new status
      → ServesBadly leaf merge lines before now sunk after old new status

abbrev pub EndsServing : List ℕ → Option (List ℕ) → List Line → Outside → Outside → Stop → Type 0
EndsServing leaf merge lines before now stop =
    (sunk after : Option (List ℕ)) (old new : ℕ) (status : Status) → SaysStop stop sunk after old new status
    → ServesBadly leaf merge lines before now sunk after old new status × Ends (Unit {0}) (record (unheard before) { written = sunk; sink_faults = old }) (record (unheard now) { written = after; sink_faults = new }) status

-- some of these commands were done, and then one of them has stopped so
pub record StopsWithin (seed : ℕ) (commands : List Command) (before now : Outside) (stop : Stop) : Type 0 where
  pub done : List Command
  pub command : Command
  pub left : List Command
  pub split : commands ≡ done ++ command ∷ left
  pub mid : Outside
  pub last : Option Tally
  pub have_done : HaveStepped seed done before None mid last
  pub stops : StopsSo seed command mid now stop

-- the file that is written is one of the first so many
abbrev pub WritesBelow : ℕ → Command → Type 0
WritesBelow count (commands.Make file) = ⊤
WritesBelow count (commands.Write file) = file < count
WritesBelow count commands.Run = ⊤

-- ---- the lines

-- the three lines by this sum
pub record IsLines (seed : ℕ) (tally : Tally) (sum : ℕ) (text : List ℕ) : Type 0 where
  pub counts : Counts
  pub counted : AreCounted (load_lines seed) counts
  pub text_is : text ≡ lines_text counts.calls counts.writes counts.trims counts.reads counts.flushes sum tally.seen

-- by the sum of the disk to which the last file's name is opened
pub record IsSummed (seed : ℕ) (folder : Option (List Held)) (tally : Tally) (text : List ℕ) : Type 0 where
  pub sum : ℕ
  pub lines : IsLines seed tally sum text
  pub sums : WhereTold folder (λ f. SumsUp f (load_name 4) (Ok sum))
