-- Folders of fresh files: each file is there, and nothing of it is unsynced.
use Rattle.std.proofs.Common.{◌≡◌, ℕ, zero, suc, true, List, [], ◌∷◌, Option, Some, ◌++◌, refl, sym, subst, ◌∙◌, arith}
use Rattle.std.specs.Prelude.{All}
use Rattle.std.proofs.lemmas.List.Elements.{All-append}
use Rattle.std.proofs.lemmas.Option.{same_Some}
use Rattle.store_model.specs.Disk.{WhereTold}
use Rattle.store_model.specs.File.{File, is_synced}
use Rattle.store_model.specs.Folder.{Held, fresh}

abbrev pub IsIdle : Held → Type 0
IsIdle held = (file : File) × (held.file ≡ Some file) × (is_synced file ≡ true)

fresh_one : List ℕ → List ℕ → Held
fresh_one name bytes = record { name = name; file = Some (fresh bytes) }

idle_one : (name bytes : List ℕ) → All IsIdle (fresh_one name bytes ∷ [])
unfolding fresh_one
idle_one name bytes zero d h = (fresh bytes, refl, refl)
idle_one name bytes (suc k) d h = absurd (omega arith)

no_file : All IsIdle []
no_file k d h = absurd (omega arith)

-- a folder without a file
pub none_idle : (folder : Option (List Held)) → folder ≡ Some [] → WhereTold folder (All IsIdle)
none_idle folder is t told = subst (All IsIdle) (same_Some _ _ (sym is ∙ told)) no_file

-- one that is so stays so with one more fresh file
pub more_idle : (folder now : Option (List Held)) (slots : List Held) (name bytes : List ℕ) → folder ≡ Some slots → WhereTold folder (All IsIdle) → now ≡ Some (slots ++ record { name = name; file = Some (fresh bytes) } ∷ []) → WhereTold now (All IsIdle)
unfolding fresh_one
more_idle folder now slots name bytes told idle is t later =
    subst (All IsIdle) (same_Some _ _ (sym is ∙ later)) (All-append IsIdle slots (fresh_one name bytes ∷ []) (idle slots told) (idle_one name bytes))

-- and one of one fresh file
pub one_idle : (folder : Option (List Held)) (slots : List Held) (name bytes : List ℕ) → Some slots ≡ Some [] → folder ≡ Some (slots ++ record { name = name; file = Some (fresh bytes) } ∷ []) → WhereTold folder (All IsIdle)
one_idle folder slots name bytes none is = more_idle (Some slots) folder slots name bytes refl (none_idle (Some slots) none) is
