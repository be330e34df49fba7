-- What is found wrong with a file of a folder, by its name.
use Rattle.std.specs.Prelude.{◌≡◌, ℕ, List, [], ◌∷◌, Some, None, Result, Ok, Err}
use Rattle.store_model.specs.Folder.{Hosted}
use Rattle.file_open.specs.Causes.{Meaning, refuses, host_failed, store_failed, no_memory, meaning_of}
use Rattle.file_open.specs.Opening.{Refusal, FileMissing}
use Rattle.file_open.specs.declared.refusal.OpenRefusal.{OpenRefusal}
use Rattle.link_rules.specs.Effects.{HasReplayed, HostStopped, MemoryStopped, StoreStopped}
use Rattle.link_rules.specs.Folders.{Contents}
use Rattle.check_repair.specs.Answers.{AreFound}
use Rattle.check_repair.specs.declared.looking.Findings.{Findings}

-- no file has the name; or what is found is just what is wrong with the file that has it
pub data LooksIn (files : Contents) (name : List ℕ) : Result Findings Refusal → Type 0 where
  missing : files name ≡ None → LooksIn files name (Err FileMissing)
  present : (bytes : List ℕ) (found : Findings) → files name ≡ Some bytes → AreFound bytes found → LooksIn files name (Ok found)

-- What is left of the host: of a missing file all is as it was; of another its log is replayed.
abbrev pub LeavesLookBy : Hosted → Hosted → Meaning Refusal → Type 0
LeavesLookBy old new (refuses refusal) = (refusal ≡ FileMissing) × (new ≡ old)
LeavesLookBy old new (host_failed fault) = HostStopped old new fault.count
LeavesLookBy old new (store_failed fault) = StoreStopped old new fault.count
LeavesLookBy old new no_memory = MemoryStopped old new

abbrev pub LeavesLook : List ℕ → Hosted → Hosted → Result Findings OpenRefusal → Type 0
LeavesLook name old new (Ok found) = HasReplayed (name ∷ []) old new
LeavesLook name old new (Err refusal) = LeavesLookBy old new (meaning_of refusal)
