-- What `serve` does: the calls of a script's guests on the disk to which a leaf's name is opened, and what is printed of them (profile).
use Rattle.std.specs.Prelude.{◌≡◌, ◌≢◌, ◌⊎◌, ⊤, ◌<◌, ◌+◌, ◌^◌, ℕ, Bool, true, false, is_some, List, [], length, codes, Option, None, Some, IfSome}
use Rattle.std.specs.List.{AllByRecursion}
use Rattle.store_model.specs.Cause.{Rose}
use Rattle.store_model.specs.Disk.{WhereTold}
use Rattle.store_model.specs.Folder.{Hosted}
use Rattle.store_model.specs.Moments.{Throughout}
use Rattle.store_model.specs.declared.fault.StoreFault.{StoreFault}
use Rattle.vhdx_format.specs.Fields.{sector_size}
use Rattle.guest_model.specs.Calls.{Disk}
use Rattle.guest_model.specs.History.{History, replay}
use Rattle.guest_model.specs.declared.refusal.ChainRefusal.{ChainRefusal}
use Rattle.guest_model.specs.declared.refusal.ChainRefusal.TheVariants.{FileFull}
use Rattle.chain_model.specs.Files.{OpensTo}
use Rattle.link_rules.specs.Chains.{names_of}
use Rattle.link_rules.specs.Folders.{AllIdle, contents}
use Rattle.link_rules.specs.Touches.{IsOnWay, TouchesSafely}
use Rattle.link_rules.specs.declared.linked.Linked.{Linked}
use Rattle.script.specs.Sources.{IsTaken}
use Rattle.script.specs.declared.form.Line.{Line}
use Rattle.script.specs.declared.form.ScriptKind.TheVariants as script
use Rattle.script_session.specs.Faults.{FaultsAreTold}
use Rattle.script_session.specs.Histories.{Break, IsEndTold}
use Rattle.script_session.specs.Running.{open_by, open_last}
use Rattle.script_session.specs.Told.{later_of}
use Rattle.serve_session.specs.Served.{AreServed, Asking, IsTranscript, Outcome, all_told, all_unread, asked_by, guest_count}
use Rattle.serve_session.specs.Tallies.{AddsUp, all_outcomes}
use Rattle.serve_session.specs.declared.tally.Tally.{Tally}
use Rattle.printing.specs.Answers.{fault_line}
use Rattle.printing.specs.Sent.{Sent}
use Rattle.steps_command.specs.Crashes.{AreSpared, EachImageOpens, HasLong, NoneNamesLog, OpensToFirst}
use Rattle.command_base.specs.Folders.{LastReturned, LeadsTo, OnlyFollows, files_of}
use Rattle.command_base.specs.Printed.{ShowsRefusal}
use Rattle.steps_command.specs.Starts.{DrawsFor, RefusesSession, changed_names}
use Rattle.steps_command.specs.Steps.{IsDropped, Opened, RunsUnopened, RunsUnread, ShowsStepsFault, drive_over, way_by}
use Rattle.command_base.specs.Worlds.{World}
use Rattle.printing.specs.declared.status.Status.{Status}
use Rattle.printing.specs.declared.status.Status.TheVariants.{Done, Refused, Fault, NoMemory}

-- What became of a script's guests: whether a session began; what each was told of its calls, guest 1 first; the history of the calls that were
-- done; what broke the session if it is broken; why a merge isn't finished, if one was to be and it isn't; the last fault that refused a call
-- or a step of the merge, and the fault by which the session's end failed, if it did, or that had broken it; and how many stripes workers of the
-- merge couldn't fetch, as a reader failed.
pub record Service : Type 0 where
  pub has_begun : Bool
  pub guests : List (List Outcome)
  pub history : History
  pub broken : Option Break
  pub stopped : Option ChainRefusal
  pub refused : Option StoreFault
  pub ended : Option StoreFault
  pub unfetched : ℕ

-- no session began
abbrev pub no_service : Service
no_service = record { has_begun = false; guests = []; history = []; broken = None; stopped = None; refused = None; ended = None; unfetched = 0 }

-- the last fault that was met, by a call, a step of the merge or the session's end
abbrev pub met : Service → Option StoreFault
met service = later_of service.refused service.ended

-- how many reads failed by a reader: of the guests', which stand in the history, and of stripes
abbrev pub unread_by : Service → ℕ
unread_by service = length (all_unread service.guests) + service.unfetched

-- ---- what is printed

-- The transcript of the whole script, in which files have the names of the chain's.
pub record IsServiceText {leaf : List ℕ} {before : World} (begun : Opened script.Serve leaf before) (merge : Option (List ℕ)) (now : World) (service : Service) (text : List ℕ) : Type 0 where
  pub count : length service.guests ≡ guest_count begun.lines
  pub transcript : IsTranscript (names_of begun.linked.files) begun.lines service.guests service.history text
  pub drawn : DrawsFor false merge begun.linked before.host.folder before.drawn now.drawn

-- Why a merge isn't finished where no fault was met and memory didn't run out: a file is full.
abbrev pub IsUnfinished : Option ChainRefusal → Type 0
IsUnfinished (Some (FileFull next)) = ⊤
IsUnfinished other = ⊥

-- What is printed under the status of a refusal: a rule's line, where it refuses the session; or the transcript, where a merge was to be made and
-- isn't finished.
pub data ShowsRefused {leaf : List ℕ} {before : World} (begun : Opened script.Serve leaf before) (merge : Option (List ℕ)) (now : World) (service : Service) (text : List ℕ) : Type 0 where
  unbegun : service.has_begun ≡ false → ShowsRefusal (RefusesSession false begun.linked before.host.folder before.drawn now.drawn merge) text → ShowsRefused begun merge now service text
  unfinished : service.has_begun ≡ true → merge ≢ None → IsUnfinished service.stopped → IsServiceText begun merge now service text → ShowsRefused begun merge now service text

-- What is told of a fault: of the store's as of `steps`; where reads failed by a reader the transcript, or, where memory ran out for that and no
-- fault of the store was met, the line of so many.
pub data ShowsServeFault {leaf : List ℕ} {before : World} (begun : Opened script.Serve leaf before) (merge : Option (List ℕ)) (now : World) (service : Service) (text : List ℕ) : Type 0 where
  of_store : ShowsStepsFault (IsServiceText begun merge now service) (service.has_begun ≡ false) (met service) before now text → ShowsServeFault begun merge now service text
  of_readers : 0 < unread_by service → IsServiceText begun merge now service text → ShowsServeFault begun merge now service text
  of_readers_alone : 0 < unread_by service → met service ≡ None → text ≡ fault_line (codes "reader") (unread_by service) → ShowsServeFault begun merge now service text

-- what is printed once the chain is opened
abbrev pub IsServeText : {leaf : List ℕ} {before : World} → Opened script.Serve leaf before → Option (List ℕ) → World → Service → Status → List ℕ → Type 0
IsServeText begun merge now service Done text = IsServiceText begun merge now service text × (service.has_begun ≡ true) × (service.stopped ≡ None)
IsServeText begun merge now service Refused text = ShowsRefused begun merge now service text
IsServeText begun merge now service Fault text = ShowsServeFault begun merge now service text
IsServeText begun merge now service NoMemory text = text ≡ codes "no memory\n"
IsServeText begun merge now service other text = ⊥

-- ---- what is done

-- A run came to its end: no fault ended it, and memory didn't run out before a session with a merge began.
pub record HasServedOut (merge : Option (List ℕ)) (service : Service) (meant : Status) : Type 0 where
  pub sound : (service.ended ≡ None) × (service.has_begun ≡ false → meant ≢ Fault)
  pub begun : meant ≡ NoMemory → (merge ≡ None) ⊎ (service.has_begun ≡ true)

-- A merge that isn't finished since a file is full: P of the file's end, which is within 1,024 MB of the greatest place that a block may have.
abbrev pub IsStopTold : (ℕ → Type 0) → ChainRefusal → Type 0
IsStopTold P (FileFull next) = (2 ^ 43 < next + 1024) × P next
IsStopTold P other = ⊤

-- What a session with a merge leaves of the chain: a merge that is finished has dropped its source; of one that isn't the leaf's name leads to
-- all files.
abbrev pub IsMergeLeft : Option ChainRefusal → List ℕ → Linked → Hosted → List ℕ → Type 0
IsMergeLeft None leaf linked now name = IsDropped leaf linked now name
IsMergeLeft (Some stopped) leaf linked now name = WhereTold now.folder (λ folder. LeadsTo (files_of folder) leaf (names_of linked.files))

-- What stands of the files since the chain was opened to this disk. The guests were told so over it. Each image of each moment opens to the disk
-- of the first calls of the history, by the chain's files or by these without the one that is merged, of the last moment to that of all, and no
-- file is changed but those that the session may change. Where a call is told that a file is full, or a merge isn't finished for that, one of
-- those is so long; what is told of faults is what the session's store counts, but for the reads that failed by a reader of a file of the chain.
-- Where the run came to its end nothing is unsynced, the name is opened to the disk of all calls, and of a session that began a merge has left
-- the chain so, and no file that it may change names a log.
pub record KeepsServed (leaf : List ℕ) (linked : Linked) (disk : Disk) (merge : Option (List ℕ)) (asking : Asking) (service : Service) (meant : Status) (opened now : Hosted) : Type 0 where
  pub told_so : AreServed (is_some merge) (drive_over false disk) asking service.guests service.history service.ended service.broken
  pub moments : Throughout (OpensToFirst (way_by leaf linked merge) disk service.history (open_by service.broken)) opened now
  pub last : WhereTold now.folder (EachImageOpens (way_by leaf linked merge) (open_last service.history service.broken) (replay sector_size disk service.history))
  pub spared : WhereTold opened.folder (λ folder. Throughout (AreSpared (changed_names false merge linked.files) folder) opened now)
  pub full : AllByRecursion (IsEndTold (λ next. WhereTold now.folder (HasLong (changed_names false merge linked.files) next))) (all_told service.guests)
  pub stopped : IfSome service.stopped (IsStopTold (λ next. WhereTold now.folder (HasLong (changed_names false merge linked.files) next)))
  pub faults : service.has_begun ≡ true → LastReturned (λ store. FaultsAreTold (all_told service.guests) service.ended (length linked.files) (λ file. 0) store.failed_reads store.failed_changes) opened now
  pub unread : AllByRecursion (λ fault. fault.file < length linked.files) (all_unread service.guests)
  pub idle : HasServedOut merge service meant → WhereTold now.folder AllIdle
  pub at_rest : HasServedOut merge service meant → WhereTold now.folder (λ folder. OpensTo (files_of folder) leaf (replay sector_size disk service.history))
  pub no_log : HasServedOut merge service meant → service.has_begun ≡ true → WhereTold now.folder (NoneNamesLog (changed_names false merge linked.files))
  pub merged : HasServedOut merge service meant → service.has_begun ≡ true → IfSome merge (IsMergeLeft service.stopped leaf linked now)

-- A session over a chain, to which the leaf's name leads and which is opened, as by a dump, to this disk, whatever front its guests come by: they
-- are served, or no session begins. What is meant is the status of the run, but for a fault of the sink.
pub record HasServedChain (leaf : List ℕ) (linked : Linked) (disk : Disk) (merge : Option (List ℕ)) (asking : Asking) (service : Service) (meant : Status) (before now : World) : Type 0 where
  pub opened : Hosted
  pub followed : OnlyFollows leaf before.host.folder opened.folder
  pub opening : TouchesSafely (λ folder. IsOnWay (contents folder) leaf) before.host opened
  pub none : service.has_begun ≡ false → service ≡ no_service
  pub alone : merge ≡ None → service.unfetched ≡ 0
  pub kept : WhereTold before.host.folder (λ folder. KeepsServed leaf linked disk merge asking service meant opened now.host)
  pub unchanged : meant ≡ Refused → service.has_begun ≡ false → WhereTold opened.folder (λ folder. WhereTold now.host.folder (λ after. (name : List ℕ) → contents after name ≡ contents folder name))

-- The script is read to its end, and its guests are served over the chain. A fault is met where the host's count rose, by its own calls or by what
-- came back to it, a store or a reader that had failed, and only there.
pub record ServesOver (leaf : List ℕ) (merge : Option (List ℕ)) (before now : World) (status : Status) : Type 0 where
  pub begun : Opened script.Serve leaf before
  pub taken : WhereTold before.left (λ bytes. IsTaken bytes now.left)
  pub service : Service
  pub meant : Status
  pub session : HasServedChain leaf begun.linked begun.disk merge (asked_by begun.lines) service meant before now
  pub text : List ℕ
  pub said : IsServeText begun merge now service meant text
  pub sent : Sent before.written now.written before.sink_faults now.sink_faults meant text status
  pub rose : meant ≡ Fault → Rose before.host.faults now.host.faults
  pub quiet : meant ≢ Fault → (now.host.faults ≡ before.host.faults) × (met service ≡ None) × (unread_by service ≡ 0)

-- The script isn't read to its end, or breaks the grammar; or it is read, and the leaf's name leads to no chain, or following it fails; or
-- the chain is opened.
pub data RunsServe (leaf : List ℕ) (merge : Option (List ℕ)) (before now : World) (status : Status) : Type 0 where
  unread : RunsUnread script.Serve before now status → RunsServe leaf merge before now status
  unopened : RunsUnopened script.Serve leaf before now status → RunsServe leaf merge before now status
  served : ServesOver leaf merge before now status → RunsServe leaf merge before now status

-- ---- of lines that are given

-- what the calls of a script's guests came to, if a session began
pub record HasTally (service : Service) (heard : Option Tally) : Type 0 where
  pub begun : service.has_begun ≡ is_some heard
  pub adds : IfSome heard (λ tally. AddsUp tally (all_outcomes service.guests))

-- The same of lines that are read from no source, and what the guests' calls came to: the leaf's name leads to no chain, or following it fails, or
-- the chain is opened.
pub data ServesLines (leaf : List ℕ) (merge : Option (List ℕ)) (lines : List Line) (before now : World) (status : Status) (heard : Option Tally) : Type 0 where
  lines_unopened : RunsUnopened script.Serve leaf before now status → heard ≡ None → ServesLines leaf merge lines before now status heard
  lines_served : (serves : ServesOver leaf merge before now status) → serves.begun.lines ≡ lines → HasTally serves.service heard → ServesLines leaf merge lines before now status heard
