-- What the commands of a load leave of a folder that is told; what a run promises doesn't rest on these.
use Rattle.std.specs.Prelude.{◌≡◌, ◌<◌, ℕ, zero, suc, List, [], ◌∷◌, length, Option, Some}
use Rattle.store_model.specs.Disk.{WhereTold}
use Rattle.store_model.specs.Folder.{Held}
use Rattle.guest_model.specs.Calls.{Disk}
use Rattle.guest_model.specs.History.{History, replay}
use Rattle.chain_model.specs.Files.{OpensTo}
use Rattle.link_rules.specs.Chains.{most_files}
use Rattle.link_rules.specs.Folders.{AllIdle}
use Rattle.make_file.specs.Makes.{Outside}
use Rattle.load_calls.specs.Load.{IsHistoryOf, load_lines, new_disk, prepared_disk, sector_size, with_writes}
use Rattle.load_calls.specs.Printed.{seen_sum}
use Rattle.serve_session.specs.declared.tally.Tally.{Tally}
use Rattle.command_base.specs.Folders.{LeadsTo, files_of}
use Rattle.load_command.specs.Commands.{HasDone, load_name}
use Rattle.load_command.specs.declared.commands.Command.{Command}
use Rattle.load_command.specs.declared.commands.Command.TheVariants.{Make, Write, Run}

-- A file of a load is there, at the end of a chain of files of these names, with this disk.
pub record IsGrown (file : ℕ) (names : List (List ℕ)) (disk : Disk) (folder : List Held) : Type 0 where
  pub opens : OpensTo (files_of folder) (load_name file) disk
  pub leads : LeadsTo (files_of folder) (load_name file) names
  pub idle : AllIdle folder

abbrev pub HasGrown : ℕ → List (List ℕ) → Disk → Option (List Held) → Type 0
HasGrown file names disk now = (folder : List Held) × (now ≡ Some folder) × IsGrown file names disk folder

-- The guests' calls were made on the last file's disk, and the third file has left the chain. What their reads saw is what the history's see.
pub record HasRun (seed : ℕ) (now : Option (List Held)) (heard : Option Tally) : Type 0 where
  pub folder : List Held
  pub told : now ≡ Some folder
  pub history : History
  pub of_lines : IsHistoryOf (load_lines seed) history
  pub opens : OpensTo (files_of folder) (load_name 4) (replay sector_size (prepared_disk seed) history)
  pub leads : LeadsTo (files_of folder) (load_name 4) (load_name 4 ∷ load_name 3 ∷ load_name 1 ∷ load_name 0 ∷ [])
  pub tally : Tally
  pub heard_is : heard ≡ Some tally
  pub seen_is : tally.seen ≡ seen_sum (prepared_disk seed) history

-- the files before a load's last one, from that one on
abbrev pub all_names : List (List ℕ)
all_names = load_name 4 ∷ load_name 3 ∷ load_name 2 ∷ load_name 1 ∷ load_name 0 ∷ []

-- what a command makes of what those before it left
abbrev pub GrowsBy : ℕ → Command → Option (List Held) → Option (List Held) → Option Tally → Type 0
GrowsBy seed (Make zero) before now heard = WhereTold before (λ folder. HasGrown 0 (load_name 0 ∷ []) new_disk now)
GrowsBy seed (Make (suc file)) before now heard =
    (names : List (List ℕ)) (disk : Disk) → length names < most_files → WhereTold before (λ folder. IsGrown file names disk folder → HasGrown (suc file) (load_name (suc file) ∷ names) disk now)
GrowsBy seed (Write file) before now heard =
    (names : List (List ℕ)) (disk : Disk) → WhereTold before (λ folder. IsGrown file names disk folder → HasGrown file names (with_writes seed file disk) now)
GrowsBy seed Run before now heard = WhereTold before (λ folder. IsGrown 4 all_names (prepared_disk seed) folder → HasRun seed now heard)

-- a command was done, and has made that of the folder
pub record HasStepped (seed : ℕ) (command : Command) (before now : Outside) (heard : Option Tally) : Type 0 where
  pub done : HasDone seed command before now heard
  pub grows : GrowsBy seed command before.host.folder now.host.folder heard

-- so it is of commands one after the other
abbrev pub HaveStepped : ℕ → List Command → Outside → Option Tally → Outside → Option Tally → Type 0
HaveStepped seed [] before first now last = (now ≡ before) × (last ≡ first)
HaveStepped seed (command ∷ commands) before first now last =
    (mid : Outside) × (heard : Option Tally) × HasStepped seed command before mid heard × HaveStepped seed commands mid heard now last
