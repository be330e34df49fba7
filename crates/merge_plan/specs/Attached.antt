-- Files of a chain over a store, as opening left them.
use Rattle.std.specs.Prelude.{◌≡◌, ⊤, ◌+◌, ◌^◌, ◌≤◌, ◌<◌, ℕ, true, false, List, [], ◌∷◌, ◌++◌, length, All, None}
use Rattle.store_model.specs.Disk.{Disk, WhereTold}
use Rattle.store_model.specs.File.{is_sealed, is_synced, seen}
use Rattle.store_model.specs.Trace.{Trace, file_of}
use Rattle.chain_model.specs.Files.{HasParts, at_rest}
use Rattle.chain_model.specs.Images.{name_of}
use Rattle.chain_model.specs.Members.{NoneTwice}
use Rattle.chain_model.specs.PhaseLaws.{IsNamedOnce}
use Rattle.link_rules.specs.Chains.{most_files, names_of}
use Rattle.link_rules.specs.Effects.{IsServed}
use Rattle.link_rules.specs.Lines.{IsLine}
use Rattle.link_rules.specs.declared.linked.LinkedFile.{LinkedFile}
use Rattle.shown_ids.specs.Shown.{shown}

-- A file of the store is as opening leaves one of this name and these numbers: nothing of it is unsynced, and it holds what it stands for.
pub record IsAsOpened (trace : Trace) (number : ℕ) (file : LinkedFile) : Type 0 where
  pub within : number < length trace.attached
  pub name : name_of trace.attached number ≡ file.name
  pub synced : is_synced (file_of trace number) ≡ true
  pub unsealed : is_sealed (file_of trace number) ≡ false
  pub most : length (seen (file_of trace number)) ≤ 2 ^ 63
  pub reads : HasParts (at_rest (seen (file_of trace number))) (seen (file_of trace number)) file.parts

-- so are these, numbered from this one on
abbrev pub AreAsOpened : Trace → ℕ → List LinkedFile → Type 0
AreAsOpened trace number [] = ⊤
AreAsOpened trace number (file ∷ files) = IsAsOpened trace number file × AreAsOpened trace (number + 1) files

-- the first of them is no retired leaf
abbrev pub BeginsInUse : List LinkedFile → Type 0
BeginsInUse [] = ⊤
BeginsInUse (file ∷ files) = file.parts.retired ≡ None

-- The files of a store are these, in order, as opening left them.
pub record AreAttached (files : List LinkedFile) (trace : Trace) : Type 0 where
  pub once : IsNamedOnce trace
  pub in_use : BeginsInUse files
  pub each : AreAsOpened trace 0 files

-- Files of a chain that may be started over a store, whether it tells its content or not: at most 64, of which the store has no fewer,
-- each followed by its parent, with names that differ.
pub record CanStart (files : List LinkedFile) (disk : Disk) : Type 0 where
  pub few : length files ≤ most_files
  pub there : length files ≤ disk.files
  pub line : IsLine files
  pub once : NoneTwice (names_of files)
  pub served : All IsServed files
  pub told : WhereTold disk.told (AreAttached files)

-- the identifiers that these files show
abbrev pub shown_from : Trace → ℕ → List LinkedFile → List (List ℕ)
shown_from trace number [] = []
shown_from trace number (file ∷ files) = shown file.parts (seen (file_of trace number)) ++ shown_from trace (number + 1) files
