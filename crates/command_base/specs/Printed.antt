-- How a run ends, and what it prints.
use Rattle.std.specs.Prelude.{◌≡◌, ◌⊎◌, ℕ, ◌<◌, ◌*◌, List, length, Option, Ok, Err, codes}
use Rattle.command_line.specs.Requests.{File as NewFile}
use Rattle.make_file.specs.Makes.{Outside}
use Rattle.store_model.specs.Cause.{Rose}
use Rattle.store_model.specs.Disk.{WhereTold}
use Rattle.store_model.specs.Folder.{Held, Hosted}
use Rattle.vhdx_format.specs.Fields.{sector_size}
use Rattle.link_rules.specs.Chains.{Links}
use Rattle.link_rules.specs.Chains as chains
use Rattle.link_rules.specs.Folders.{ReturnsHealthy, contents}
use Rattle.link_rules.specs.declared.linked.Linked.{Linked}
use Rattle.printing.specs.Answers.{sector_lines, fault_line}
use Rattle.printing.specs.Sent.{Sent}
use Rattle.command_base.specs.Dump.{Finds}
use Rattle.command_base.specs.Folders.{LastReturned}
use Rattle.command_base.specs.Info.{info_lines}
use Rattle.command_base.specs.Making.{RefusesMaking, ShowsMade}
use Rattle.command_base.specs.Refusals.{Refusal, OfChain, refusal_line}
use Rattle.command_base.specs.Worlds.{World}
use Rattle.printing.specs.declared.status.Status.{Status}
use Rattle.printing.specs.declared.status.Status.TheVariants.{Done, Refused, Usage, Fault, NoMemory, Findings}

-- the lines of the sectors; where the folder is told, their bytes are those that the leaf's disk has
pub record ShowsSectors (folder : Option (List Held)) (leaf : List ℕ) (first count : ℕ) (text : List ℕ) : Type 0 where
  pub bytes : List ℕ
  pub whole : length bytes ≡ sector_size * count
  pub text_is : text ≡ sector_lines sector_size first bytes count
  pub finds : WhereTold folder (λ f. Finds f leaf first count (Ok bytes))

-- the lines of the files to which the leaf's name leads
pub record ShowsFiles (folder : Option (List Held)) (leaf : List ℕ) (text : List ℕ) : Type 0 where
  pub linked : Linked
  pub text_is : text ≡ info_lines linked
  pub links : WhereTold folder (λ f. Links (contents f) leaf (Ok linked))

-- the line of a refusal that may be one
pub record ShowsRefusal (may_be : Refusal → Type 0) (text : List ℕ) : Type 0 where
  pub refusal : Refusal
  pub text_is : text ≡ refusal_line refusal
  pub so : may_be refusal

-- the refusals of a dump; where the folder is told, it is the first by its cause
abbrev pub RefusesDump : Option (List Held) → List ℕ → ℕ → ℕ → Refusal → Type 0
RefusesDump folder leaf first count refusal = WhereTold folder (λ f. Finds f leaf first count (Err refusal))

-- those of following a leaf's name
pub data RefusesLeaf (folder : Option (List Held)) (leaf : List ℕ) : Refusal → Type 0 where
  unlinked : (refusal : chains.Refusal) → WhereTold folder (λ f. Links (contents f) leaf (Err refusal)) → RefusesLeaf folder leaf (OfChain refusal)

-- The line of a fault, where the host's count rose. The host's own tells that count, and then nothing failed in a store; a
-- store's tells a count of the store that came back last.
pub data ShowsFault (before now : Hosted) (text : List ℕ) : Type 0 where
  of_host : Rose before.faults now.faults → ReturnsHealthy before now → text ≡ fault_line (codes "host") now.faults → ShowsFault before now text
  of_store : (count : ℕ) → 0 < count → Rose before.faults now.faults → WhereTold before.folder (λ folder. LastReturned (λ last. (file : ℕ) × ((count ≡ last.failed_reads file) ⊎ (count ≡ last.failed_changes file))) before now)
      → text ≡ fault_line (codes "store") count → ShowsFault before now text

-- What a command prints that ends with this status: what it shows, what refuses it, or a fault of the host or of a store.
abbrev pub IsText : (List ℕ → Type 0) → (Refusal → Type 0) → (List ℕ → Type 0) → Status → List ℕ → Type 0
IsText shows may_be fault Done text = shows text
IsText shows may_be fault Refused text = ShowsRefusal may_be text
IsText shows may_be fault Usage text = ⊥
IsText shows may_be fault Fault text = fault text
IsText shows may_be fault NoMemory text = text ≡ codes "no memory\n"
IsText shows may_be fault Findings text = ⊥

-- what a dump prints
abbrev pub IsDumpText : Hosted → Hosted → List ℕ → ℕ → ℕ → Status → List ℕ → Type 0
IsDumpText before now leaf first count =
    IsText (ShowsSectors before.folder leaf first count) (RefusesDump before.folder leaf first count) (ShowsFault before now)

-- what `info` prints
abbrev pub IsInfoText : Hosted → Hosted → List ℕ → Status → List ℕ → Type 0
IsInfoText before now leaf = IsText (ShowsFiles before.folder leaf) (RefusesLeaf before.folder leaf) (ShowsFault before now)

-- what `make` prints
abbrev pub IsMakeText : List ℕ → NewFile → Outside → Outside → Status → List ℕ → Type 0
IsMakeText name new before now = IsText (ShowsMade name new before now) (RefusesMaking name new before now) (ShowsFault before.host now.host)

-- what is printed of the program's own text
abbrev pub IsOwnText : List ℕ → Status → List ℕ → Type 0
IsOwnText own = IsText (λ text. text ≡ own) (λ refused. ⊥) (λ text. ⊥)

-- the text of the status that was meant was sent
pub record Printed (is_text : Status → List ℕ → Type 0) (before after : Option (List ℕ)) (old new : ℕ) (status : Status) : Type 0 where
  pub meant : Status
  pub text : List ℕ
  pub said : is_text meant text
  pub sent : Sent before after old new meant text status

-- so it went from one state of a run to another
abbrev pub Prints : (Status → List ℕ → Type 0) → World → World → Status → Type 0
Prints is_text before now status = Printed is_text before.written now.written before.sink_faults now.sink_faults status
