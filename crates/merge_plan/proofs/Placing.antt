-- Where the file of a name stands among others.
use Rattle.std.proofs.Common.{◌≡◌, ℕ, ◌+◌, ◌<◌, ◌≤◌, ◌||◌, ◌⊎◌, inl, inr, Bool, true, false, cond, List, [], ◌∷◌, ◌++◌, length, take, get_or, refl, sym, ap, ◌∙◌, arith}
use Rattle.std.specs.Prelude.{Some, None, nat_lt}
use Rattle.std.specs.List.{list_any, position, position_or_len}
use Rattle.std.specs.Str.{bytes_eq}
use Rattle.std.proofs.lemmas.Bool.{cases_lt, lt-ltb}
use Rattle.std.proofs.lemmas.List.{drop_all, drop_more, take-append-drop}
use Rattle.std.proofs.lemmas.List.Folds.{list_any_none}
use Rattle.std.proofs.lemmas.List.Quantifiers.{position-Some}
use Rattle.std.proofs.lemmas.List.Sums.{fails_before_first}
use Rattle.std.proofs.lemmas.Slice.Eq.{bytes_eq-Decides}
use Rattle.link_rules.specs.Chains.{is_among, names_of}
use Rattle.link_rules.specs.declared.linked.LinkedFile.{LinkedFile}
use Rattle.merge_plan.specs.Merging.{HasFirst, HasLast, HasNone}

abbrev has_name : List ℕ → LinkedFile → Bool
has_name name f = bytes_eq f.name name

-- the name of a file at the place of that name
pub named_there : (name : List ℕ) (files : List LinkedFile) (k : ℕ) (d : LinkedFile) → position (λ (f : LinkedFile). bytes_eq f.name name) files ≡ Some k → (get_or files k d).name ≡ name
named_there name files k d h = (bytes_eq-Decides (get_or files k d).name name).0 (position-Some (has_name name) files k d h).1

-- ---- none has it

any_named : (name : List ℕ) (files : List LinkedFile) → is_among name (names_of files) ≡ list_any (has_name name) files
any_named name [] = refl
any_named name (file ∷ files) = ap (λ b. bytes_eq file.name name || b) (any_named name files)

none_before : (p : LinkedFile → Bool) (files : List LinkedFile) → length files ≤ position_or_len p files → list_any p files ≡ false
none_before p files long = list_any_none p files (λ k d l. fails_before_first p files k d (omega (arith, l, long)))

pub has_none : (name : List ℕ) (files : List LinkedFile) → position (λ (f : LinkedFile). bytes_eq f.name name) files ≡ None → HasNone files name
has_none name files h = by_place (cases_lt (position_or_len (has_name name) files) (length files))
  where
    by_place : (position_or_len (has_name name) files < length files) ⊎ (length files ≤ position_or_len (has_name name) files) → HasNone files name
    by_place (inr past) = any_named name files ∙ none_before (has_name name) files past
    by_place (inl before) =
        let yes : nat_lt (position_or_len (has_name name) files) (length files) ≡ true = lt-ltb _ _ before in
        let some : Some (position_or_len (has_name name) files) ≡ None =
        ap (λ (b : Bool). cond b (Some (position_or_len (has_name name) files)) None) (sym yes) ∙ h in
        cc

-- ---- the last has it, or the first

pub has_last : (name : List ℕ) (files : List LinkedFile) (k : ℕ) → position (λ (f : LinkedFile). bytes_eq f.name name) files ≡ Some k → length files ≤ k + 1 → HasLast files name
has_last name [] k h l = let found = position-Some (has_name name) [] k in cc
has_last name (file ∷ files) k h l =
    let all : List LinkedFile = file ∷ files in
    let found = position-Some (has_name name) all k file h in
    record {
      above = take k all;
      source = get_or all k file;
      files_are =
          sym (take-append-drop k all)
          ∙ ap (λ (rest : List LinkedFile). take k all ++ rest) (drop_more all k file found.0 ∙ ap (λ (rest : List LinkedFile). get_or all k file ∷ rest) (drop_all (k + 1) all l));
      named = named_there name all k file h;
    }

pub has_first : (name : List ℕ) (files : List LinkedFile) → position (λ (f : LinkedFile). bytes_eq f.name name) files ≡ Some 0 → 1 < length files → HasFirst files name
has_first name [] h l = absurd (omega arith)
has_first name (file ∷ []) h l = absurd (omega arith)
has_first name (file ∷ other ∷ files) h l =
    record { source = file; target = other; below = files; files_are = refl; named = named_there name (file ∷ other ∷ files) 0 file h }
