-- What `steps` does: a script's calls on the disk to which a leaf's name is opened, and what is printed of them (profile).
use Rattle.std.specs.Prelude.{◌≡◌, ◌≢◌, ◌⊎◌, ◌++◌, ℕ, Bool, not, true, false, List, [], ◌∷◌, length, take, codes, decimal, Option, Some, None, Ok, Err, IfSome}
use Rattle.store_model.specs.Cause.{Rose}
use Rattle.std.specs.List.{AllByRecursion}
use Rattle.store_model.specs.Disk.{WhereTold}
use Rattle.store_model.specs.Folder.{Hosted}
use Rattle.store_model.specs.Moments.{Throughout}
use Rattle.store_model.specs.declared.fault.StoreFault.{StoreFault}
use Rattle.vhdx_format.specs.Fields.{sector_size}
use Rattle.guest_model.specs.declared.refusal.ChainRefusal.TheVariants.{NoRoom}
use Rattle.guest_model.specs.Calls.{Disk}
use Rattle.guest_model.specs.History.{History, replay}
use Rattle.chain_model.specs.Files.{OpensTo}
use Rattle.link_rules.specs.Chains.{Links, names_of}
use Rattle.link_rules.specs.Folders.{AllIdle, contents}
use Rattle.link_rules.specs.Touches.{IsOnWay, TouchesSafely}
use Rattle.link_rules.specs.declared.linked.Linked.{Linked}
use Rattle.link_rules.specs.declared.linked.LinkedFile.{LinkedFile}
use Rattle.merge_plan.specs.LeafMerging.{AreOfLeaf, LeafFiles}
use Rattle.merge_plan.specs.Merging.{AreOf, MergeFiles}
use Rattle.script.specs.Grammar.{IsFirstBroken, IsScript}
use Rattle.script.specs.Sources.{IsPartTaken, IsTaken}
use Rattle.script.specs.declared.form.Line.{Line}
use Rattle.script.specs.declared.form.ScriptKind.{ScriptKind}
use Rattle.script.specs.declared.form.ScriptKind.TheVariants as script
use Rattle.script_session.specs.Faults.{FaultsAreTold}
use Rattle.script_session.specs.Histories.{AreTold, Break, Course, Drive, IsEndTold, no_merge}
use Rattle.script_session.specs.MergeRunning.{just_started}
use Rattle.script_session.specs.Running.{open_by, open_last}
use Rattle.script_session.specs.Told.{Told, last_fault, later_of, transcript}
use Rattle.printing.specs.Answers.{fault_line}
use Rattle.printing.specs.Sent.{Sent}
use Rattle.steps_command.specs.Crashes.{AreSpared, EachImageOpens, HasLong, NoneNamesLog, OpensToFirst}
use Rattle.command_base.specs.Folders.{LastReturned, LeadsTo, OnlyFollows, files_of}
use Rattle.command_base.specs.Printed.{IsText, Prints, RefusesLeaf, ShowsFault, ShowsRefusal}
use Rattle.steps_command.specs.Starts.{DrawsFor, RefusesSession, changed_names, is_leaf}
use Rattle.command_base.specs.Worlds.{World}
use Rattle.printing.specs.declared.status.Status.{Status}
use Rattle.printing.specs.declared.status.Status.TheVariants.{Done, Refused, Usage, Fault, NoMemory}
use Rattle.chain_model.specs.Members.{Way}

-- ---- the calls

-- The script of this kind has these lines; the leaf's name leads to this chain, and is opened to this disk.
pub record Opened (kind : ScriptKind) (leaf : List ℕ) (before : World) : Type 0 where
  pub lines : List Line
  pub linked : Linked
  pub disk : Disk
  pub reads : WhereTold before.left (λ bytes. IsScript kind bytes lines)
  pub links : WhereTold before.host.folder (λ folder. Links (contents folder) leaf (Ok linked))
  pub opens : WhereTold before.host.folder (λ folder. OpensTo (files_of folder) leaf disk)

-- What ran of a script: its first lines, what they were told, the history of the calls that were done, how the merge stands then, what
-- broke the session if it is broken, and the fault by which the session's end failed, if it did, or that had broken it.
pub record Ran : Type 0 where
  pub lines : List Line
  pub told : List Told
  pub history : History
  pub course : Course
  pub broken : Option Break
  pub ended : Option StoreFault

-- the last fault that was met, by a line or the session's end
abbrev pub met : Ran → Option StoreFault
met ran = later_of (last_fault ran.told) ran.ended

-- what a session runs over: a disk, to be changed or only to be read
abbrev pub drive_over : Bool → Disk → Drive
drive_over read_only disk = record { geometry = record { sector = sector_size; sectors = length disk }; can_change = not read_only; opening = disk }

-- how a merge stands when a session begins over these files: of one with a merge, of the leaf or of a file below it, no stripe is copied
abbrev pub begun_course : Option (List ℕ) → List LinkedFile → Course
begun_course None files = no_merge
begun_course (Some name) files = just_started (is_leaf files name)

-- The lines were told so over this disk, by the merge of this file if there is one.
abbrev pub IsTold : Linked → Disk → Option (List ℕ) → Bool → Ran → Type 0
IsTold linked disk merge read_only ran = AreTold (drive_over read_only disk) 1 [] (begun_course merge linked.files) None ran.lines ran.told ran.history ran.course ran.broken

-- ---- what is printed

-- the line that names a line of the script
abbrev pub broken_line : ℕ → List ℕ
broken_line n = codes "line " ++ decimal n ++ codes "\n"

-- It is the first that breaks the grammar or a limit, and the source was read to its end, or to the first byte past the limit.
pub record ShowsBrokenLine (kind : ScriptKind) (before now : World) (text : List ℕ) : Type 0 where
  pub number : ℕ
  pub text_is : text ≡ broken_line number
  pub first : WhereTold before.left (λ bytes. IsFirstBroken kind bytes number × IsTaken bytes now.left)

-- what is printed where no script is read
abbrev pub IsUnreadText : ScriptKind → World → World → Status → List ℕ → Type 0
IsUnreadText kind before now Usage text = ShowsBrokenLine kind before now text
IsUnreadText kind before now Fault text = Rose before.source_faults now.source_faults × (text ≡ fault_line (codes "source") now.source_faults)
IsUnreadText kind before now NoMemory text = text ≡ codes "no memory\n"
IsUnreadText kind before now other text = ⊥

-- what is printed where the chain isn't opened
abbrev pub IsUnopenedText : List ℕ → World → World → Status → List ℕ → Type 0
IsUnopenedText leaf before now = IsText (λ text. ⊥) (RefusesLeaf before.host.folder leaf) (ShowsFault before.host now.host)

-- The transcript of the whole script, in which files have the names of the chain's, and no line is want of memory.
pub record IsTranscript {leaf : List ℕ} {before : World} (begun : Opened script.Steps leaf before) (merge : Option (List ℕ)) (read_only : Bool) (now : World) (ran : Ran) (text : List ℕ) : Type 0 where
  pub whole : ran.lines ≡ begun.lines
  pub text_is : text ≡ transcript (names_of begun.linked.files) ran.lines ran.told
  pub memory : AllByRecursion (λ (t : Told). t ≢ Err NoRoom) ran.told
  pub drawn : DrawsFor read_only merge begun.linked before.host.folder before.drawn now.drawn

-- What is told of a fault once the chain is opened: its line, where no line was run; else the transcript, whether the fault refused a line
-- of it or met the session's end; or the fault's line, where memory ran out for that.
pub data ShowsStepsFault (is_transcript : List ℕ → Type 0) (none_run : Type 0) (met : Option StoreFault) (before now : World) (text : List ℕ) : Type 0 where
  unrun : none_run → ShowsFault before.host now.host text → ShowsStepsFault is_transcript none_run met before now text
  in_lines : (fault : StoreFault) → met ≡ Some fault → is_transcript text → ShowsStepsFault is_transcript none_run met before now text
  no_text : (fault : StoreFault) → met ≡ Some fault → ShowsFault before.host now.host text → text ≡ fault_line (codes "store") fault.count → ShowsStepsFault is_transcript none_run met before now text

-- what is printed once it is opened; a session that a rule refuses has run no line
abbrev pub IsStepsText : {leaf : List ℕ} {before : World} → Opened script.Steps leaf before → Option (List ℕ) → Bool → World → Ran → Status → List ℕ → Type 0
IsStepsText begun merge read_only now ran Done text = IsTranscript begun merge read_only now ran text
IsStepsText {before = before} begun merge read_only now ran Refused text =
    ShowsRefusal (RefusesSession read_only begun.linked before.host.folder before.drawn now.drawn merge) text × (ran.lines ≡ [])
IsStepsText {before = before} begun merge read_only now ran Fault text = ShowsStepsFault (IsTranscript begun merge read_only now ran) (ran.lines ≡ []) (met ran) before now text
IsStepsText begun merge read_only now ran NoMemory text = text ≡ codes "no memory\n"
IsStepsText begun merge read_only now ran other text = ⊥

-- ---- what is done

-- No script is read: nothing else is done.
pub record RunsUnread (kind : ScriptKind) (before now : World) (status : Status) : Type 0 where
  pub printed : Prints (IsUnreadText kind before now) before now status
  pub taken : WhereTold before.left (λ bytes. IsPartTaken bytes now.left)
  pub untouched : now.host ≡ before.host
  pub undrawn : now.drawn ≡ before.drawn

-- A script is read, and the chain isn't opened: the leaf's name is followed at most, and no identifier is drawn.
pub record RunsUnopened (kind : ScriptKind) (leaf : List ℕ) (before now : World) (status : Status) : Type 0 where
  pub reads : WhereTold before.left (λ bytes. ((lines : List Line) × IsScript kind bytes lines) × IsTaken bytes now.left)
  pub printed : Prints (IsUnopenedText leaf before now) before now status
  pub followed : OnlyFollows leaf before.host.folder now.host.folder
  pub moments : TouchesSafely (λ folder. IsOnWay (contents folder) leaf) before.host now.host
  pub undrawn : now.drawn ≡ before.drawn

-- the files of a merge without its source
abbrev pub left_names : MergeFiles → List (List ℕ)
left_names m = names_of (m.above ++ m.child ∷ m.target ∷ m.below)

-- and of one of the leaf
abbrev pub leaf_left_names : LeafFiles → List (List ℕ)
leaf_left_names m = names_of (m.target ∷ m.below)

-- the names of these files without the one of this name, which is merged
pub data AreLeft (files : List LinkedFile) (name : List ℕ) : List (List ℕ) → Type 0 where
  by_leaf : (m : LeafFiles) → is_leaf files name ≡ true → AreOfLeaf files m → AreLeft files name (leaf_left_names m)
  by_other : (m : MergeFiles) → is_leaf files name ≡ false → AreOf files name m → AreLeft files name (left_names m)

-- The file of this name is dropped from the chain by a merge that is finished: the leaf's name, which led to the chain with it, leads to
-- its other files. So does the name that was given, if it is that of the chain's leaf: its files are then those from the parent on.
pub record IsDropped (leaf : List ℕ) (linked : Linked) (now : Hosted) (name : List ℕ) : Type 0 where
  pub left : List (List ℕ)
  pub are_left : AreLeft linked.files name left
  pub leads : WhereTold now.folder (λ folder. LeadsTo (files_of folder) leaf left)
  pub follows : is_leaf linked.files name ≡ true → WhereTold now.folder (λ folder. LeadsTo (files_of folder) name left)

-- where the name that was given leads: to the chain's files, or to these without the one of this name, which is merged
abbrev pub way_by : List ℕ → Linked → Option (List ℕ) → Way
way_by leaf linked merge = record { name = leaf; first = names_of linked.files; drops = merge }

-- A run came to its end: no fault ended it, and memory didn't run out before a line was run in a session with a merge.
pub record HasRested (merge : Option (List ℕ)) (ran : Ran) (meant : Status) : Type 0 where
  pub sound : (ran.ended ≡ None) × (ran.lines ≡ [] → meant ≢ Fault)
  pub begun : meant ≡ NoMemory → (merge ≡ None) ⊎ (ran.lines ≢ [])

-- What stands of the files since the chain was opened to this disk. The lines were told so. Each image of each moment opens to the disk of
-- the first calls of the history, by the chain's files or by these without the one that is merged; of the last moment to that of all. No
-- file is changed but those that the session may change. Where a line is told that a file is full, one of those is so long; what is told
-- of faults is what the session's store counts. Where the run came to its end nothing is unsynced, the name is opened to the disk of all
-- calls, and a merge that was finished has dropped its source; one that wasn't, of a session that began, has left the chain's files.
-- Of a session that began no file that it may change names a log then.
pub record Keeps (leaf : List ℕ) (linked : Linked) (disk : Disk) (merge : Option (List ℕ)) (read_only : Bool) (ran : Ran) (meant : Status) (opened now : Hosted) : Type 0 where
  pub told_so : IsTold linked disk merge read_only ran
  pub moments : Throughout (OpensToFirst (way_by leaf linked merge) disk ran.history (open_by ran.broken)) opened now
  pub last : WhereTold now.folder (EachImageOpens (way_by leaf linked merge) (open_last ran.history ran.broken) (replay sector_size disk ran.history))
  pub spared : WhereTold opened.folder (λ folder. Throughout (AreSpared (changed_names read_only merge linked.files) folder) opened now)
  pub full : AllByRecursion (IsEndTold (λ next. WhereTold now.folder (HasLong (changed_names false merge linked.files) next))) ran.told
  pub faults : (ran.lines ≡ [] → ran.ended ≢ None) → LastReturned (λ store. FaultsAreTold ran.told ran.ended (length linked.files) (λ file. 0) store.failed_reads store.failed_changes) opened now
  pub idle : HasRested merge ran meant → WhereTold now.folder AllIdle
  pub at_rest : HasRested merge ran meant → WhereTold now.folder (λ folder. OpensTo (files_of folder) leaf (replay sector_size disk ran.history))
  pub no_log : HasRested merge ran meant → (ran.lines ≡ [] → meant ≡ Done) → WhereTold now.folder (NoneNamesLog (changed_names read_only merge linked.files))
  pub dropped : HasRested merge ran meant → ran.course ≡ no_merge → IfSome merge (IsDropped leaf linked now)
  pub stays : HasRested merge ran meant → (ran.lines ≡ [] → meant ≡ Done) → ran.course ≢ no_merge → IfSome merge (λ name. WhereTold now.folder (λ folder. LeadsTo (files_of folder) leaf (names_of linked.files)))

-- The chain is opened, as by a dump, and the script's first lines run over it, or no session begins. A fault is met where the host's count
-- rose, and only there.
pub record RunsOver (leaf : List ℕ) (merge : Option (List ℕ)) (read_only : Bool) (before now : World) (status : Status) : Type 0 where
  pub begun : Opened script.Steps leaf before
  pub taken : WhereTold before.left (λ bytes. IsTaken bytes now.left)
  pub opened : Hosted
  pub followed : OnlyFollows leaf before.host.folder opened.folder
  pub opening : TouchesSafely (λ folder. IsOnWay (contents folder) leaf) before.host opened
  pub ran : Ran
  pub many : ℕ
  pub first : ran.lines ≡ take many begun.lines
  pub meant : Status
  pub text : List ℕ
  pub said : IsStepsText begun merge read_only now ran meant text
  pub sent : Sent before.written now.written before.sink_faults now.sink_faults meant text status
  pub kept : WhereTold before.host.folder (λ folder. Keeps leaf begun.linked begun.disk merge read_only ran meant opened now.host)
  pub unchanged : meant ≡ Refused → WhereTold opened.folder (λ folder. WhereTold now.host.folder (λ after. (name : List ℕ) → contents after name ≡ contents folder name))
  pub undrawn : read_only ≡ true → now.drawn ≡ before.drawn
  pub rose : meant ≡ Fault → Rose before.host.faults now.host.faults
  pub quiet : meant ≢ Fault → (now.host.faults ≡ before.host.faults) × (met ran ≡ None)

-- The script isn't read to its end, or breaks the grammar; or it is read, and the leaf's name leads to no chain, or following it fails; or
-- the chain is opened.
pub data RunsSteps (leaf : List ℕ) (merge : Option (List ℕ)) (read_only : Bool) (before now : World) (status : Status) : Type 0 where
  unread : RunsUnread script.Steps before now status → RunsSteps leaf merge read_only before now status
  unopened : RunsUnopened script.Steps leaf before now status → RunsSteps leaf merge read_only before now status
  opened : RunsOver leaf merge read_only before now status → RunsSteps leaf merge read_only before now status
