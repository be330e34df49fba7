-- What the functions of `serve` say of themselves; what a run promises doesn't rest on these.
use Rattle.std.specs.Prelude.{◌≡◌, ◌+◌, ◌≢◌, ◌<◌, ◌==◌, if◌then◌else◌, ⊤, codes, ℕ, Bool, true, false, is_some, List, length, String, string_bytes, Option, None, Some, Result, Ok, Err, IfErr, IfOk, IfSome, OnOk, option_map}
use Rattle.std.specs.List.{AllByRecursion}
use Rattle.store_model.specs.Disk.{Disk, WhereTold}
use Rattle.store_model.specs.Folder.{Held, Hosted, RoseWhere}
use Rattle.store_model.specs.declared.fault.StoreFault.{StoreFault}
use Rattle.guest_model.specs.History.{History}
use Rattle.guest_model.specs.declared.refusal.ChainRefusal.{ChainRefusal}
use Rattle.guest_model.specs.declared.refusal.ChainRefusal.TheVariants as refusals
use Rattle.link_rules.specs.Chains.{names_of}
use Rattle.link_rules.specs.declared.linked.Linked.{Linked}
use Rattle.link_rules.specs.declared.linked.LinkedFile.{LinkedFile}
use Rattle.link_rules.specs.declared.refusal.LinkRefusal.{LinkRefusal}
use Rattle.chain_core.specs.Starting.{IsOfDisk}
use Rattle.chain_core.specs.declared.starting.Mode.TheVariants.{Guests}
use Rattle.script.specs.declared.form.Line.{Line}
use Rattle.script_session.specs.Faults.{FaultsAreTold}
use Rattle.script_session.specs.Histories.{Break, IsEndTold}
use Rattle.script_session.specs.Told.{Told, failed_by}
use Rattle.serve_session.specs.Endings.{Ending, StopsMerge, ending_of}
use Rattle.serve_session.specs.Beginning.{Begins, GuestRun}
use Rattle.serve_session.specs.MergeServed.{HasRunLeafMerge, HasRunMerge}
use Rattle.serve_session.specs.Running.{HasRunGuests}
use Rattle.serve_session.specs.Served.{AreServed, Asking, Outcome, all_told, all_unread, asked_by}
use Rattle.serve_session.specs.Written.{IsWritten}
use Rattle.serve_session.specs.declared.beginning.Begun.{Begun}
use Rattle.serve_session.specs.declared.sealing.Unserved.{Unserved}
use Rattle.serve_session.specs.declared.tally.Tally.{Tally}
use Rattle.serve_session.specs.declared.merging.MergeRun.{MergeRun}
use Rattle.vx_base.specs.declared.NoRoom.{NoRoom}
use Rattle.printing.specs.Answers.{fault_line}
use Rattle.printing.specs.Sent.{Sent}
use Rattle.printing.specs.declared.status.Status.{Status}
use Rattle.printing.specs.declared.status.Status.TheVariants.{Done, Fault, NoMemory, Refused}
use Rattle.command_base.specs.Commands.{Lends, Reports}
use Rattle.steps_command.specs.Crashes.{HasLong, NoneNamesLog}
use Rattle.command_base.specs.Folders.{LastReturned}
use Rattle.serve_command.specs.Serves.{IsMergeLeft, IsStopTold}
use Rattle.steps_command.specs.Sessions.{IsCounted, IsFollowedTo, IsNotFollowed, NotRunOver, OpensIn, Rests, Said, Stands, leaf_name, lines_said, meaning_of_steps}
use Rattle.steps_command.specs.Starts.{DrawsFor, changed_names, is_leaf}
use Rattle.steps_command.specs.Steps.{drive_over}
use Rattle.command_base.specs.declared.refusal.ChainRefusal.TheVariants as chain
use Rattle.steps_command.specs.declared.refusal.StepsRefusal.{StepsRefusal}
use Rattle.serve_command.specs.declared.beginning.Merging.{Merging}
use Rattle.steps_command.specs.declared.refusal.StepsRefusal.TheVariants as steps

-- ---- a merge

-- the file that is merged, if one is, and how many workers copy for it
abbrev pub source_of : Option Merging → Option (List ℕ)
source_of merging = option_map (λ (m : Merging). m.source.now) merging

abbrev pub workers_of : Option Merging → ℕ
workers_of None = 0
workers_of (Some m) = length m.pieces.items

-- ---- over a store

-- guests were served in a session with the merge of the file of this name, which is the leaf, or isn't
abbrev pub HasServedMergeOf : Bool → List LinkedFile → List ℕ → Disk → Option (List (List ℕ)) → Option (List (List ℕ)) → GuestRun
HasServedMergeOf true files name old before now asking guests history end merged new = HasRunLeafMerge files asking guests history end merged old new before now
HasServedMergeOf false files name old before now asking guests history end merged new = HasRunMerge files name asking guests history end merged old new before now

-- with a merge of the file of this name, if there is one
abbrev pub HasServedBy : Option (List ℕ) → List LinkedFile → Disk → Option (List (List ℕ)) → Option (List (List ℕ)) → GuestRun
HasServedBy None files old before now asking guests history end merged new = HasRunGuests files asking guests history end old new before now
HasServedBy (Some name) files old before now asking guests history end merged new = HasServedMergeOf (is_leaf files name) files name old before now asking guests history end merged new

-- A session began over the files of a chain, which the host has lent: it is ready for so many guests and workers, and its run is so once they are
-- served, or it ended before. Its disk has the size that the files say.
pub record BeginsOver {S T : Type 0} (disk : S → Disk) (merge : Option (List ℕ)) (guests workers : ℕ) (linked : Linked) (old mid : Hosted) (before now : Option (List (List ℕ))) (begun : Result (Begun S T) (Unserved S T)) : Type 0 where
  pub lent : Disk
  pub lends : Lends (names_of linked.files) old mid lent
  pub begins : Begins disk (is_some merge) guests workers (HasServedBy merge linked.files lent before now) begun
  pub size : IfOk begun (λ b. IsOfDisk linked.files b.chain.first.layers.geometry)

-- ---- over a folder

-- a folder is told where it was told before
pub record TellsAlike (before now : Option (List Held)) : Type 0 where
  pub untold : before ≡ None → now ≡ None
  pub told : now ≡ None → before ≡ None

-- why a merge isn't finished, if it isn't
abbrev pub stopped_by : Result (Unit {0}) ChainRefusal → Option ChainRefusal
stopped_by (Ok done) = None
stopped_by (Err refusal) = Some refusal

-- guests were told so over the folder
pub record ServedIn (merge : Option (List ℕ)) (linked : Linked) (asking : Asking) (guests : List (List Outcome)) (history : History) (broken : Option Break) (merged : Result (Unit {0}) ChainRefusal) (closed : Result (Unit {0}) StoreFault) (folder : List Held) (old new : Hosted) : Type 0 where
  pub told_so : OpensIn linked folder (λ disk. AreServed (is_some merge) (drive_over false disk) asking guests history (failed_by closed) broken)
  pub stands : Stands Guests merge linked history broken folder old new
  pub full : AllByRecursion (IsEndTold (λ next. WhereTold new.folder (HasLong (changed_names false merge linked.files) next))) (all_told guests)
  pub stopped : IfSome (stopped_by merged) (IsStopTold (λ next. WhereTold new.folder (HasLong (changed_names false merge linked.files) next)))
  pub faults : LastReturned (λ store. FaultsAreTold (all_told guests) (failed_by closed) (length linked.files) (λ file. 0) store.failed_reads store.failed_changes) old new
  pub unread : AllByRecursion (λ fault. fault.file < length linked.files) (all_unread guests)
  pub rests : OnOk closed (Rests linked history folder old new)
  pub no_log : OnOk closed (WhereTold new.folder (NoneNamesLog (changed_names false merge linked.files)))
  pub left : OnOk closed (IfSome merge (IsMergeLeft (stopped_by merged) (leaf_name linked) linked new))

-- what is told isn't a fault of a file
abbrev pub TellsNoFault : Told → Type 0
TellsNoFault (Err (refusals.ReadFault file count)) = ⊥
TellsNoFault (Err (refusals.Broken file count)) = ⊥
TellsNoFault other = ⊤

-- Guests were served over the chain. Where no fault is answered at the end the host's count stands, and no guest was told one of a file.
pub record ServedOver (merge : Option (List ℕ)) (linked : Linked) (asking : Asking) (guests : List (List Outcome)) (history : History) (end : Ending) (merged : Result (Unit {0}) ChainRefusal) (old new : Hosted) (before now : Option (List (List ℕ))) : Type 0 where
  pub broken : Option Break
  pub count : length guests ≡ asking.count
  pub drawn : DrawsFor false merge linked old.folder before now
  pub counted : IfSome end.fault (IsCounted old new)
  pub ended : IfErr end.closed (IsCounted old new)
  pub quiet : end.fault ≡ None → OnOk end.closed (new.faults ≡ old.faults)
  pub well : end.fault ≡ None → OnOk end.closed (AllByRecursion TellsNoFault (all_told guests))
  pub unfetched : ℕ
  pub none_fetched : merge ≡ None → unfetched ≡ 0
  pub unread_is : end.unread ≡ length (all_unread guests) + unfetched
  pub stopped : IfErr merged (λ refusal. (merge ≢ None) × StopsMerge end refusal)
  pub served : WhereTold old.folder (λ folder. ServedIn merge linked asking guests history broken merged end.closed folder old new)

-- So they were, once their readers had come back, by which the host's count rose exactly where a read had failed by one. The host tells its folder
-- where it told it before.
pub record ServedWith (merge : Option (List ℕ)) (linked : Linked) (asking : Asking) (guests : List (List Outcome)) (history : History) (end : Ending) (merged : Result (Unit {0}) ChainRefusal) (old new : Hosted) (before now : Option (List (List ℕ))) : Type 0 where
  pub tells : TellsAlike old.folder new.folder
  pub faults : ℕ
  pub readers : RoseWhere (0 < end.unread) old.faults faults
  pub over : ServedOver merge linked asking guests history end merged (record old { faults = faults }) new before now

-- The guests of a script were served so, and its run is written as they were told.
pub record ScriptIsServed (merge : Option (List ℕ)) (linked : Linked) (lines : List Line) (run : MergeRun) (old new : Hosted) (before now : Option (List (List ℕ))) : Type 0 where
  pub guests : List (List Outcome)
  pub history : History
  pub served : ServedWith merge linked (asked_by lines) guests history (ending_of run.run run.unread) run.merged old new before now
  pub written : IsWritten (names_of linked.files) lines guests history run.run run.tally

-- They were served over the chain to which a leaf's name leads, or they weren't.
pub data LeafIsServed (leaf : List ℕ) (merge : Option (List ℕ)) (lines : List Line) (old new : Hosted) (before now : Option (List (List ℕ))) (result : Result MergeRun StepsRefusal) : Type 0 where
  no_room : result ≡ Err (steps.Chain chain.NoRoom) → new ≡ old → now ≡ before → LeafIsServed leaf merge lines old new before now result
  unlinked : (refusal : LinkRefusal) → result ≡ Err (steps.Chain (chain.Unlinked refusal)) → IsNotFollowed leaf refusal old new → now ≡ before
      → LeafIsServed leaf merge lines old new before now result
  over : (mid : Hosted) (linked : Linked) → IsFollowedTo leaf linked old mid → IfOk result (λ run. ScriptIsServed merge linked lines run mid new before now)
      → IfErr result (NotRunOver Guests merge linked mid new before now) → LeafIsServed leaf merge lines old new before now result

-- ---- what is printed

-- the status of a whole transcript, by whether a merge is finished
abbrev pub end_of : Result (Unit {0}) ChainRefusal → Status
end_of (Ok done) = Done
end_of (Err refusal) = Refused

-- of whose reads so many failed by a reader
abbrev pub with_unread : Status → ℕ → Status
with_unread end unread = if unread == 0 then end else Fault

-- and where memory ran out for it
abbrev pub unread_said : ℕ → Said
unread_said unread = if unread == 0 then (NoMemory, codes "no memory\n") else (Fault, fault_line (codes "reader") unread)

abbrev pub none_served : ℕ → Option StoreFault → Result (Unit {0}) StoreFault → Said
none_served unread refused (Err fault) = (Fault, fault_line (codes "store") fault.count)
none_served unread (Some fault) (Ok done) = (Fault, fault_line (codes "store") fault.count)
none_served unread None (Ok done) = unread_said unread

abbrev pub served_of : {Z : Type 0} → Status → ℕ → Result (String Z) NoRoom → Option StoreFault → Result (Unit {0}) StoreFault → Said
served_of end unread (Ok text) refused closed = lines_said (with_unread end unread) (string_bytes text) refused closed
served_of end unread (Err e) refused closed = none_served unread refused closed

abbrev pub served_said : MergeRun → Said
served_said run = served_of (end_of run.merged) run.unread run.run.transcript run.run.fault run.run.closed

-- what became of a script's guests was said
abbrev pub ReportsServed : Result MergeRun StepsRefusal → Option (List ℕ) → Option (List ℕ) → ℕ → ℕ → Status → Type 0
ReportsServed (Ok run) before after old new status = Sent before after old new (served_said run).0 (served_said run).1 status
ReportsServed (Err refusal) before after old new status = Reports (meaning_of_steps refusal) before after old new status

-- ---- what the guests' calls came to

-- if a session began
abbrev pub tally_of : Result MergeRun StepsRefusal → Option Tally
tally_of (Ok run) = Some run.tally
tally_of (Err refusal) = None
