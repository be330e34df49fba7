-- What the functions of the commands say of themselves; what a run promises doesn't rest on these.
use Rattle.std.specs.Prelude.{◌≡◌, ◌≢◌, ◌⊎◌, ⊤, ◌<◌, ◌≤◌, ◌+◌, ◌*◌, ◌^◌, ℕ, true, List, [], ◌∷◌, ◌++◌, length, codes, take, drop, Option, Some, option_map, Result, Ok, Err}
use Rattle.std.specs.List.{AllByRecursion}
use Rattle.command_line.specs.Requests.{File as NewFile}
use Rattle.command_line.specs.Requests as new
use Rattle.file_open.specs.Opening as opening
use Rattle.file_open.specs.Causes.{Meaning, refuses, host_failed, store_failed, no_memory}
use Rattle.make_file.specs.Makes.{Outside}
use Rattle.shown_ids.specs.Shown.{shown}
use Rattle.store_model.specs.Cause.{Rose}
use Rattle.store_model.specs.Disk.{Disk, WhereTold}
use Rattle.store_model.specs.File.{File, seen}
use Rattle.store_model.specs.Folder.{Held, Hosted, HostFailed, attached_trace, fresh, without}
use Rattle.store_model.specs.Moments.{Throughout}
use Rattle.store_model.specs.Trace.{Trace, file_of}
use Rattle.vhdx_format.specs.AllocationTables.{IsBlockSize}
use Rattle.vhdx_format.specs.Fields.{megabyte}
use Rattle.vx_base.specs.Names.{IsName}
use Rattle.vx_base.specs.declared.parts.Geometry.{Geometry}
use Rattle.chain_model.specs.Files.{HasParts, IsIn, at_rest}
use Rattle.chain_model.specs.Images.{Placed, name_of}
use Rattle.chain_model.specs.Members.{Member, disk_of}
use Rattle.chain_model.specs.Sessions.{as_read}
use Rattle.guest_model.specs.Calls.{bytes_of}
use Rattle.layer_session.specs.ReadOnly.{IsReadOf}
use Rattle.layer_session.specs.declared.read_layer.ReadLayer.{ReadLayer}
use Rattle.link_rules.specs.Chains.{Links, is_among}
use Rattle.link_rules.specs.Effects.{HasReplayed, HostStopped, MemoryStopped, StoreStopped, linked_names}
use Rattle.link_rules.specs.Folders.{AllIdle, Contents, contents}
use Rattle.link_rules.specs.Laws.{AreMembers, at_rest_all}
use Rattle.link_rules.specs.declared.linked.Linked.{Linked}
use Rattle.link_rules.specs.declared.linked.LinkedFile.{LinkedFile}
use Rattle.printing.specs.Answers.{fault_line}
use Rattle.check_repair.specs.Findings.{Finding}
use Rattle.command_base.specs.Causes.{meaning_of_chain}
use Rattle.command_base.specs.Checks.{finding_lines}
use Rattle.command_base.specs.Making.{AddsOnly, LooksAt, MakesSafely, ShowIds}
use Rattle.printing.specs.Sent.{Sent}
use Rattle.command_base.specs.Printed.{IsMakeText, Printed}
use Rattle.command_base.specs.Refusals.{Refusal, OfChain, file_refusal_said, of_file, refusal_line}
use Rattle.command_base.specs.declared.refusal.ChainRefusal.{ChainRefusal}
use Rattle.printing.specs.declared.status.Status.{Status}
use Rattle.printing.specs.declared.status.Status.TheVariants.{Done, Refused, Usage, Fault, NoMemory, Findings}

-- ---- files that are lent together, and only read

-- Files of these names are lent, as a store of them in which nothing has failed.
pub record Lends (names : List (List ℕ)) (old new : Hosted) (disk : Disk) : Type 0 where
  pub disk_is : disk ≡ record { files = length names; told = option_map (attached_trace names) old.folder; failed_reads = λ _. 0; failed_changes = λ _. 0 }
  pub host_is : new ≡ record old { folder = option_map (without names) old.folder }

-- They aren't lent: the host failed, or memory ran out.
abbrev pub LendsNone : {R : Type 0} → Hosted → Hosted → Meaning R → Type 0
LendsNone old new (refuses refusal) = ⊥
LendsNone old new (host_failed fault) = HostFailed old new fault
LendsNone old new (store_failed fault) = ⊥
LendsNone old new no_memory = new ≡ old

-- A file is as it was; or it is one of these names, was attached, and nothing was done to it.
pub data IsAnew (names : List (List ℕ)) (held : Held) : Held → Type 0 where
  untouched : IsAnew names held held
  attached : (file : File) → is_among held.name names ≡ true → held.file ≡ Some file → IsAnew names held (record held { file = Some (fresh (seen file)) })

-- so it is with each file of a folder
abbrev pub AreAnew : List (List ℕ) → List Held → List Held → Type 0
AreAnew names [] [] = ⊤
AreAnew names [] (later ∷ now) = ⊥
AreAnew names (held ∷ folder) [] = ⊥
AreAnew names (held ∷ folder) (later ∷ now) = IsAnew names held later × AreAnew names folder now

-- so it was at each moment
abbrev pub OnlyAttaches : List (List ℕ) → Hosted → Hosted → Type 0
OnlyAttaches names old new = WhereTold old.folder (λ folder. Throughout (AreAnew names folder) old new)

-- what is left of a host whose files were lent, read and given back, behind an answer that isn't Ok
abbrev pub LeavesReadBy : {R : Type 0} → Hosted → Hosted → Meaning R → Type 0
LeavesReadBy old new (refuses refusal) = ⊥
LeavesReadBy old new (host_failed fault) = HostStopped old new fault.count
LeavesReadBy old new (store_failed fault) = StoreStopped old new fault.count
LeavesReadBy old new no_memory = MemoryStopped old new

abbrev pub LeavesRead : {A : Type 0} → Hosted → Hosted → Result A ChainRefusal → Type 0
LeavesRead old new (Ok x) = HasReplayed [] old new
LeavesRead old new (Err refusal) = LeavesReadBy old new (meaning_of_chain refusal)

-- ---- a leaf's name that is followed

-- It was followed, and nothing failed: the files that were opened are replayed; where it leads to a chain they are the chain's files and
-- the retired leaves before it.
pub record HasFollowed (leaf : List ℕ) (old new : Hosted) : Type 0 where
  pub opened : List (List ℕ)
  pub has : HasReplayed opened old new
  pub all : WhereTold old.folder (λ folder. (linked : Linked) → Links (contents folder) leaf (Ok linked) → opened ≡ linked_names linked)

abbrev pub LeavesFollowedBy : {R : Type 0} → List ℕ → Hosted → Hosted → Meaning R → Type 0
LeavesFollowedBy leaf old new (refuses refusal) = HasFollowed leaf old new
LeavesFollowedBy leaf old new (host_failed fault) = HostStopped old new fault.count
LeavesFollowedBy leaf old new (store_failed fault) = StoreStopped old new fault.count
LeavesFollowedBy leaf old new no_memory = MemoryStopped old new

-- what is left behind an answer
abbrev pub LeavesFollowed : {A E : Type 0} → (E → Meaning Refusal) → List ℕ → Hosted → Hosted → Result A E → Type 0
LeavesFollowed meaning leaf old new (Ok x) = HasFollowed leaf old new
LeavesFollowed meaning leaf old new (Err refusal) = LeavesFollowedBy leaf old new (meaning refusal)

-- ---- files of a chain

-- a file is as opening leaves one with these numbers
pub record IsOpened (files : Contents) (file : LinkedFile) : Type 0 where
  pub bytes : List ℕ
  pub there : files file.name ≡ Some bytes
  pub reads : HasParts (at_rest bytes) bytes file.parts

abbrev pub AreOpened : Contents → List LinkedFile → Type 0
AreOpened files chain = AllByRecursion (IsOpened files) chain

-- so it is with a store's file, by its number
pub record IsOpenedAt (trace : Trace) (number : ℕ) (file : LinkedFile) : Type 0 where
  pub within : number < length trace.attached
  pub name : name_of trace.attached number ≡ file.name
  pub reads : HasParts (at_rest (seen (file_of trace number))) (seen (file_of trace number)) file.parts

-- with its files from a number on
abbrev pub AreOpenedFrom : ℕ → List LinkedFile → Trace → Type 0
AreOpenedFrom number [] trace = ⊤
AreOpenedFrom number (file ∷ files) trace = IsOpenedAt trace number file × AreOpenedFrom (number + 1) files trace

-- these are the layers of files, from a number on
abbrev pub AreLayersFrom : ℕ → List LinkedFile → List ReadLayer → Type 0
AreLayersFrom number [] [] = ⊤
AreLayersFrom number [] (layer ∷ layers) = ⊥
AreLayersFrom number (file ∷ files) [] = ⊥
AreLayersFrom number (file ∷ files) (layer ∷ layers) = IsReadOf file.parts number layer × AreLayersFrom (number + 1) files layers

-- the store's files from a number on, with these numbers, as a chain has them
abbrev pub placed_from : ℕ → List LinkedFile → Trace → List Placed
placed_from number [] trace = []
placed_from number (file ∷ files) trace = as_read trace number (seen (file_of trace number)) file.parts ∷ placed_from (number + 1) files trace

-- the bytes are those of so many sectors of the disk of a chain of these files
pub record HasRead (files : Contents) (linked : List LinkedFile) (first count : ℕ) (bytes : List ℕ) : Type 0 where
  pub members : List Member
  pub there : AllByRecursion (IsIn (at_rest_all files)) members
  pub are : AreMembers members linked
  pub bytes_are : bytes ≡ bytes_of (take count (drop first (disk_of members)))

-- the identifiers that they show
abbrev pub shown_from : ℕ → List LinkedFile → Trace → List (List ℕ)
shown_from number [] trace = []
shown_from number (file ∷ files) trace = shown file.parts (seen (file_of trace number)) ++ shown_from (number + 1) files trace

-- the disk of a chain is that of its first file
abbrev pub HasGeometry : List LinkedFile → Geometry → Type 0
HasGeometry [] geometry = ⊥
HasGeometry (file ∷ others) geometry = file.parts.geometry ≡ geometry

-- the store's files, so many, are no longer than this
abbrev pub AreShort : ℕ → Trace → Type 0
AreShort count trace = (number : ℕ) → number < count → length (seen (file_of trace number)) ≤ 2 ^ 63

-- ---- what is printed

-- a file that may be asked for: a disk of at least a sector and at most 64 TB, blocks of a size that a block may have, and,
-- of a child, the name of a parent
abbrev pub IsNewFile : NewFile → Type 0
IsNewFile (new.fixed sectors block) = (1 ≤ sectors) × (sectors ≤ 2 ^ 37) × IsBlockSize (megabyte * block)
IsNewFile (new.dynamic sectors block) = (1 ≤ sectors) × (sectors ≤ 2 ^ 37) × IsBlockSize (megabyte * block)
IsNewFile (new.child parent block) = IsName parent × IsBlockSize (megabyte * block)

-- What stands for a refusal was said: its line, or that memory ran out for that; a fault's line takes none.
abbrev pub Reports : Meaning Refusal → Option (List ℕ) → Option (List ℕ) → ℕ → ℕ → Status → Type 0
Reports (refuses refusal) before after old new status = Sent before after old new Refused (refusal_line refusal) status ⊎ Sent before after old new NoMemory (codes "no memory\n") status
Reports (host_failed fault) before after old new status = Sent before after old new Fault (fault_line (codes "host") fault.count) status
Reports (store_failed fault) before after old new status = Sent before after old new Fault (fault_line (codes "store") fault.count) status
Reports no_memory before after old new status = Sent before after old new NoMemory (codes "no memory\n") status

-- one text is another with the line of a rule that refuses the file
abbrev pub adds : List ℕ → List ℕ → List ℕ → opening.Refusal → Type 0
adds file old new refusal = new ≡ old ++ (codes "finding " ++ of_file file (file_refusal_said refusal) ++ codes "\n")

-- What was found of a file was said: its lines, or that there is none; or memory ran out for them.
pub data SaysFindings (name : List ℕ) (findings : List Finding) (before after : Option (List ℕ)) (old new : ℕ) (status : Status) : Type 0 where
  clean : findings ≡ [] → Sent before after old new Done (codes "clean\n") status → SaysFindings name findings before after old new status
  listed : findings ≢ [] → Sent before after old new Findings (finding_lines name findings) status → SaysFindings name findings before after old new status
  ran_out : Sent before after old new NoMemory (codes "no memory\n") status → SaysFindings name findings before after old new status

-- A command has ended: its text was sent; with a fault a count rose, the host's or the sink's, and else none did.
pub record Ended (is_text : Status → List ℕ → Type 0) (faults_before faults : ℕ) (before after : Option (List ℕ)) (old new : ℕ) (status : Status) : Type 0 where
  pub printed : Printed is_text before after old new status
  pub rose : status ≡ Fault → Rose faults_before faults ⊎ Rose old new
  pub quiet : status ≢ Fault → (faults ≡ faults_before) × (new ≡ old)
  pub command : status ≢ Usage

-- `make` has ended. Where it made no file and met no fault there is what it looked at, and after any end but that of a fault
-- nothing of any file is unsynced.
pub record MakeEnded (name : List ℕ) (file : NewFile) (before now : Outside) (sunk after : Option (List ℕ)) (old new : ℕ) (status : Status) : Type 0 where
  pub ended : Ended (IsMakeText name file before now) before.host.faults now.host.faults sunk after old new status
  pub kept : status ≢ Done → status ≢ Fault → LooksAt file before.host.folder now.host.folder
  pub others : AddsOnly name file before.host.folder now.host.folder
  pub moments : MakesSafely name file before.host now.host
  pub idle : status ≢ Fault → WhereTold before.host.folder (λ folder. WhereTold now.host.folder AllIdle)
