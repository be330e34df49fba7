-- What follows of what a crash leaves: it can be resumed, which is to open it and to run over it like over any other folder (profile).
use Rattle.std.specs.Prelude.{◌≡◌, ◌≤◌, ℕ, Bool, true, List, length, map, take, Option, Some, Ok}
use Rattle.store_model.specs.Disk.{WhereTold}
use Rattle.store_model.specs.Folder.{Held, Hosted, IsFolderImage, fresh}
use Rattle.store_model.specs.Moments.{Throughout}
use Rattle.store_model.specs.Trace.{NamedBytes}
use Rattle.vhdx_format.specs.Fields.{sector_size}
use Rattle.file_open.specs.Effects.{IsLongEnough}
use Rattle.guest_model.specs.Calls.{Disk}
use Rattle.guest_model.specs.History.{AgreesOutside, History, replay}
use Rattle.chain_model.specs.Files.{OpensTo}
use Rattle.chain_model.specs.Moments.{is_open}
use Rattle.link_rules.specs.Chains.{Links, is_among, names_of}
use Rattle.link_rules.specs.Effects.{linked_names}
use Rattle.link_rules.specs.Folders.{AllIdle, contents}
use Rattle.link_rules.specs.Touches.{IsOnWay, TouchesSafely}
use Rattle.link_rules.specs.declared.linked.Linked.{Linked}
use Rattle.script.specs.declared.form.ScriptKind.{ScriptKind}
use Rattle.script_session.specs.Histories.{Break}
use Rattle.script_session.specs.Running.{open_by, open_last}
use Rattle.printing.specs.declared.status.Status.{Status}
use Rattle.steps_command.specs.Crashes.{IsCleanFolderImage}
use Rattle.command_base.specs.Folders.{files_of}
use Rattle.command_base.specs.Printed.{RefusesLeaf}
use Rattle.command_base.specs.Refusals.{Refusal}
use Rattle.serve_command.specs.Serves.{HasServedChain, Service}
use Rattle.serve_session.specs.Served.{Asking}
use Rattle.steps_command.specs.Steps.{Opened, RunsOver, way_by}
use Rattle.command_base.specs.Worlds.{World}
use Rattle.chain_model.specs.Members.{LeadsBy, Way}

-- the folder as a restart finds it: the files that a crash left, to which nothing was done yet
abbrev pub restarted : List NamedBytes → List Held
restarted image = map (λ f. record { name = f.name; file = Some (fresh f.bytes) }) image

-- What a crash left can be resumed: the leaf's name leads to a chain of files of these names, and is opened to this disk; nothing of any
-- file is unsynced, and no file of the chain, nor a retired leaf before it, is shorter than what it stands for.
pub record CanResume (leaf : List ℕ) (names : List (List ℕ)) (disk : Disk) (image : List NamedBytes) : Type 0 where
  pub idle : AllIdle (restarted image)
  pub linked : Linked
  pub links : Links (contents (restarted image)) leaf (Ok linked)
  pub are : names_of linked.files ≡ names
  pub opens : OpensTo (files_of (restarted image)) leaf disk
  pub long : (name bytes : List ℕ) → is_among name (linked_names linked) ≡ true → contents (restarted image) name ≡ Some bytes → IsLongEnough bytes

-- it can be resumed by files of the leaf's way, with a disk that is this one outside some sectors
pub record ResumesWithin (leaf : Way) (among : ℕ → Bool) (disk : Disk) (image : List NamedBytes) : Type 0 where
  pub names : List (List ℕ)
  pub own : Disk
  pub resumes : CanResume leaf.name names own image
  pub by : LeadsBy leaf names
  pub agrees : AgreesOutside among own disk

-- so it is with whatever a crash leaves of a folder without a torn match
abbrev pub EachResumes : Way → (ℕ → Bool) → Disk → List Held → Type 0
EachResumes leaf among disk folder = (image : List NamedBytes) → IsCleanFolderImage folder image → ResumesWithin leaf among disk image

-- with the disk of the first m calls that ran, for some m, outside the sectors that are dirty then and those that the next call names
pub record ResumesFirst (leaf : Way) (opening : Disk) (h : History) (broken : Option Break) (folder : List Held) : Type 0 where
  pub m : ℕ
  pub within : m ≤ length h
  pub resumes : EachResumes leaf (λ s. is_open sector_size h (open_by broken) m s) (replay sector_size opening (take m h)) folder

-- A run that a crash cuts off can be resumed, at each moment since its chain was opened, by the chain's files, or by these without the one
-- that is merged; behind its end with the disk of all calls.
pub record RunResumes {leaf : List ℕ} {merge : Option (List ℕ)} {read_only : Bool} {before now : World} {status : Status} (run : RunsOver leaf merge read_only before now status) : Type 0 where
  pub moments : WhereTold before.host.folder (λ folder. Throughout (ResumesFirst (way_by leaf run.begun.linked merge) run.begun.disk run.ran.history run.ran.broken) run.opened now.host)
  pub last : WhereTold before.host.folder (λ folder. WhereTold now.host.folder (EachResumes (way_by leaf run.begun.linked merge) (open_last run.ran.history run.ran.broken) (replay sector_size run.begun.disk run.ran.history)))

abbrev pub RunsResume : Type 0
RunsResume = (leaf : List ℕ) (merge : Option (List ℕ)) (read_only : Bool) (before now : World) (status : Status) (run : RunsOver leaf merge read_only before now status) → RunResumes run

-- So can a session with guests, whatever front they come by: that of `serve`, and that of `nbd`.
pub record SessionResumes {leaf : List ℕ} {linked : Linked} {disk : Disk} {merge : Option (List ℕ)} {asking : Asking} {service : Service} {meant : Status} {before now : World} (session : HasServedChain leaf linked disk merge asking service meant before now) : Type 0 where
  pub moments : WhereTold before.host.folder (λ folder. Throughout (ResumesFirst (way_by leaf linked merge) disk service.history service.broken) session.opened now.host)
  pub last : WhereTold before.host.folder (λ folder. WhereTold now.host.folder (EachResumes (way_by leaf linked merge) (open_last service.history service.broken) (replay sector_size disk service.history)))

abbrev pub SessionsResume : Type 0
SessionsResume =
    (leaf : List ℕ) (linked : Linked) (disk : Disk) (merge : Option (List ℕ)) (asking : Asking) (service : Service) (meant : Status) (before now : World) (session : HasServedChain leaf linked disk merge asking service meant before now) → SessionResumes session

-- What can be resumed still can where a crash cuts off its opening, in which files on the way alone are touched, and these safely; and
-- so however often: by files of the same names, with the same disk.
abbrev pub OpeningsResume : Type 0
OpeningsResume =
    (leaf : List ℕ) (names : List (List ℕ)) (disk : Disk) (image : List NamedBytes) (old new : Hosted)
    → CanResume leaf names disk image → old.folder ≡ Some (restarted image) → TouchesSafely (λ folder. IsOnWay (contents folder) leaf) old new
    → Throughout (λ folder. (left : List NamedBytes) → IsFolderImage folder left → CanResume leaf names disk left) old new

-- A run over what can be resumed isn't refused by a rule of its chain; it is one over that disk, and over files of those names.
pub record IsRunOver (leaf : List ℕ) (names : List (List ℕ)) (disk : Disk) (before : World) : Type 0 where
  pub opens : (refusal : Refusal) → ¬ RefusesLeaf before.host.folder leaf refusal
  pub is : (kind : ScriptKind) (begun : Opened kind leaf before) → (begun.disk ≡ disk) × (names_of begun.linked.files ≡ names)

abbrev pub ResumedRunsGoOn : Type 0
ResumedRunsGoOn =
    (leaf : List ℕ) (names : List (List ℕ)) (disk : Disk) (image : List NamedBytes) (before : World) → CanResume leaf names disk image
    → before.host.folder ≡ Some (restarted image) → IsRunOver leaf names disk before
