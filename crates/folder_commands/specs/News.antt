-- What the functions of `make` say of a new file; what a run promises doesn't rest on these.
use Rattle.std.specs.Prelude.{⊤, ℕ, List, Option, Result, Ok, Err}
use Rattle.store_model.specs.Disk.{WhereTold}
use Rattle.store_model.specs.Folder.{Held}
use Rattle.command_line.specs.Requests.{File as NewFile}
use Rattle.command_line.specs.Requests as new
use Rattle.link_rules.specs.declared.linked.LinkedFile.{LinkedFile}
use Rattle.grown_chains.specs.Grown.{IsTyped}
use Rattle.file_open.specs.Causes.{Meaning, no_memory}
use Rattle.make_file.specs.Makes.{Outside}
use Rattle.make_file.specs.declared.refusal.MakeRefusal.{MakeRefusal}
use Rattle.command_base.specs.Causes.{meaning_of_chain, meaning_of_make}
use Rattle.command_base.specs.Commands.{MakeEnded, Reports}
use Rattle.command_base.specs.Making.{IsParent, made_line}
use Rattle.command_base.specs.Refusals.{Refusal}
use Rattle.folder_commands.specs.declared.making.NewFileRefusal.{NewFileRefusal}
use Rattle.folder_commands.specs.declared.making.NewFileRefusal.TheVariants as refusals
use Rattle.printing.specs.Sent.{Sent}
use Rattle.printing.specs.declared.status.Status.{Status}
use Rattle.printing.specs.declared.status.Status.TheVariants.{Done}

-- what it says that the file of this name isn't made
abbrev pub meaning_of_new : List ℕ → NewFileRefusal → Meaning Refusal
meaning_of_new name (refusals.Parent refusal) = meaning_of_chain refusal
meaning_of_new name (refusals.File refusal) = meaning_of_make name refusal
meaning_of_new name refusals.NoRoom = no_memory

-- the answer of making the file itself, as one of the whole
abbrev pub of_file : Result ℕ MakeRefusal → Result ℕ NewFileRefusal
of_file (Ok len) = Ok len
of_file (Err refusal) = Err (refusals.File refusal)

-- the line of the file of this name was sent, of so many bytes, or why it isn't made
abbrev pub SaysMade : List ℕ → Result ℕ NewFileRefusal → Option (List ℕ) → Option (List ℕ) → ℕ → ℕ → Status → Type 0
SaysMade name (Ok len) before after old new status = Sent before after old new Done (made_line name len) status
SaysMade name (Err refusal) before after old new status = Reports (meaning_of_new name refusal) before after old new status

-- Once that is said, to whatever sink, `make` has ended.
abbrev pub EndsMaking : List ℕ → NewFile → Outside → Outside → Result ℕ NewFileRefusal → Type 0
EndsMaking name file before now result =
    (sunk after : Option (List ℕ)) (old new : ℕ) (status : Status) → SaysMade name result sunk after old new status → MakeEnded name file before now sunk after old new status

-- What a new child's parent leads to has a name and identifiers as their types have them.
abbrev pub HasTypedParent : NewFile → Option (List Held) → Type 0
HasTypedParent (new.fixed sectors block) folder = ⊤
HasTypedParent (new.dynamic sectors block) folder = ⊤
HasTypedParent (new.child parent block) folder = WhereTold folder (λ f. (leaf : LinkedFile) (known : List (List ℕ)) → IsParent f parent leaf known → IsTyped leaf)
