-- What `check` prints, and what it does.
use Rattle.std.specs.Prelude.{◌≡◌, ◌≢◌, ◌⊎◌, ℕ, List, [], ◌∷◌, ◌++◌, Option, Some, None, codes}
use Rattle.store_model.specs.Disk.{WhereTold}
use Rattle.store_model.specs.Folder.{Held, Hosted}
use Rattle.file_open.specs.Opening.{FileMissing}
use Rattle.link_rules.specs.Chains.{Unopened}
use Rattle.link_rules.specs.Effects.{KeepsEach, Replays}
use Rattle.link_rules.specs.Folders.{Contents, contents}
use Rattle.link_rules.specs.Touches.{AreSafe, TouchesSafely}
use Rattle.check_repair.specs.Findings.{Finding, Breaks, HeaderCopy, RegionCopy, LogNamed, Finds}
use Rattle.command_base.specs.Printed.{Prints, ShowsFault, ShowsRefusal}
use Rattle.command_base.specs.Refusals.{OfChain, Refusal, Said, number_field, of_file, rule_said}
use Rattle.command_base.specs.Worlds.{World}
use Rattle.printing.specs.declared.status.Status.{Status}
use Rattle.printing.specs.declared.status.Status.TheVariants.{Done, Refused, Usage, Fault, NoMemory, Findings}

-- ---- the lines

-- what is said of a finding: number and name, and the values
abbrev pub finding_said : Finding → Said
finding_said (Breaks rule) = rule_said rule
finding_said (HeaderCopy copy) = (codes "28 HeaderCopy", number_field (codes "copy") copy)
finding_said (RegionCopy copy) = (codes "29 RegionCopy", number_field (codes "copy") copy)
finding_said LogNamed = (codes "30 LogNamed", [])

-- its line is that of a refusal, but for its first word
abbrev pub finding_line : List ℕ → Finding → List ℕ
finding_line file finding = codes "finding " ++ of_file file (finding_said finding) ++ codes "\n"

abbrev pub finding_lines : List ℕ → List Finding → List ℕ
finding_lines file [] = []
finding_lines file (finding ∷ findings) = finding_line file finding ++ finding_lines file findings

-- ---- what is shown

-- the file of this name has just these findings
abbrev pub HasFindings : Contents → List ℕ → List Finding → Type 0
HasFindings files name findings = (bytes : List ℕ) × (files name ≡ Some bytes) × Finds bytes findings

-- nothing is wrong with it, where the folder is told
pub record ShowsClean (folder : Option (List Held)) (name text : List ℕ) : Type 0 where
  pub text_is : text ≡ codes "clean\n"
  pub finds : WhereTold folder (λ f. HasFindings (contents f) name [])

-- the lines of its findings; where the folder is told, they are just those
pub record ShowsFindings (folder : Option (List Held)) (name text : List ℕ) : Type 0 where
  pub findings : List Finding
  pub some : findings ≢ []
  pub text_is : text ≡ finding_lines name findings
  pub finds : WhereTold folder (λ f. HasFindings (contents f) name findings)

-- only that no file has the name refuses it
pub data RefusesMissing (folder : Option (List Held)) (name : List ℕ) : Refusal → Type 0 where
  missing : WhereTold folder (λ f. contents f name ≡ None) → RefusesMissing folder name (OfChain (Unopened name FileMissing))

abbrev pub IsCheckText : Hosted → Hosted → List ℕ → Status → List ℕ → Type 0
IsCheckText before now name Done text = ShowsClean before.folder name text
IsCheckText before now name Refused text = ShowsRefusal (RefusesMissing before.folder name) text
IsCheckText before now name Usage text = ⊥
IsCheckText before now name Fault text = ShowsFault before now text
IsCheckText before now name NoMemory text = text ≡ codes "no memory\n"
IsCheckText before now name Findings text = ShowsFindings before.folder name text

-- ---- the files

-- One file was looked at: no other is touched, and it is opened as it was.
pub record IsLookedAt (name : List ℕ) (folder now : List Held) : Type 0 where
  pub safe : AreSafe (λ other. other ≡ name) folder now
  pub alike : KeepsEach (contents folder) (contents now)

abbrev pub OnlyLooks : List ℕ → Option (List Held) → Option (List Held) → Type 0
OnlyLooks name before now = WhereTold before (λ folder. (after : List Held) × (now ≡ Some after) × IsLookedAt name folder after)

-- It holds what it stood for, and no other is touched.
abbrev pub IsReplayedAt : List ℕ → Option (List Held) → Option (List Held) → Type 0
IsReplayedAt name before now = WhereTold before (λ folder. WhereTold now (λ after. Replays (name ∷ []) (contents folder) (contents after)))

-- The findings of one file are printed, and beside that nothing is done: what its log holds unapplied may be replayed, and it is where
-- its findings were told. `moments` says of each moment of the run what a crash may leave then.
pub record RunsCheck (name : List ℕ) (before now : World) (status : Status) : Type 0 where
  pub printed : Prints (IsCheckText before.host now.host name) before now status
  pub looks : OnlyLooks name before.host.folder now.host.folder
  pub replayed : (status ≡ Done) ⊎ (status ≡ Findings) → IsReplayedAt name before.host.folder now.host.folder
  pub moments : TouchesSafely (λ folder other. other ≡ name) before.host now.host
  pub undrawn : now.drawn ≡ before.drawn
  pub unread : now.left ≡ before.left
