-- The files that a session may change, of which none names a log at its end.
use Rattle.std.proofs.Common.{◌≡◌, ◌≢◌, ℕ, ◌<◌, Bool, true, false, cond, List, [], ◌∷◌, ◌++◌, length, None, Some, refl, sym, ap, subst, ◌∙◌, arith}
use Rattle.std.specs.Prelude.{slice_index_or}
use Rattle.std.specs.List.{AllByRecursion}
use Rattle.std.specs.Str.{bytes_eq}
use Rattle.std.proofs.lemmas.List.{append_assoc}
use Rattle.store_model.specs.File.{seen}
use Rattle.store_model.specs.Trace.{Trace, file_of}
use Rattle.chain_model.specs.Members.{NoneTwice}
use Rattle.layer_session.specs.Unnamed.{NamesNoLog}
use Rattle.link_rules.specs.Chains.{names_of}
use Rattle.link_rules.specs.declared.linked.LinkedFile.{LinkedFile}
use Rattle.link_rules.proofs.Lent.{same_name}
use Rattle.merge_plan.specs.Merging.{MergeFiles, child_place, source_place}
use Rattle.chain_core.specs.LeafStarting.{is_first_two}
use Rattle.chain_core.specs.MergeStarting.{chain_files, is_changed, target_place}
use Rattle.steps_command.specs.Starts.{changed_names, first_name, is_leaf, merged_with}
use Rattle.command_base.proofs.Lent.{is_itself}
use Rattle.steps_command.proofs.MergePlaces.{child_at, child_changed, places_within, source_at, source_changed, target_at, target_changed}

-- a file of a chain that names no log, by its name
pub record IsUnlogged (files : List LinkedFile) (trace : Trace) (name : List ℕ) : Type 0 where
  pub number : ℕ
  pub there : number < length files
  pub named : slice_index_or (names_of files) number [] ≡ name
  pub none : NamesNoLog (seen (file_of trace number))

-- ---- names that differ

other_name : (a b : List ℕ) → a ≢ b → bytes_eq a b ≡ false
other_name a b ne = by_test (bytes_eq a b) refl
  where
    by_test : (t : Bool) → bytes_eq a b ≡ t → bytes_eq a b ≡ false
    by_test true e = absurd (ne (same_name a b e))
    by_test false e = e

-- no file of these has the name
abbrev Lack : List ℕ → List LinkedFile → Type 0
Lack name files = AllByRecursion (λ (f : LinkedFile). bytes_eq f.name name ≡ false) files

lack_behind : (name : List ℕ) (q : List LinkedFile) → AllByRecursion (λ other. other ≢ name) (names_of q) → Lack name q
lack_behind name [] h = tt
lack_behind name (f ∷ q) h = (other_name f.name name h.0, lack_behind name q h.1)

apart_at : (name : List ℕ) (p : List LinkedFile) (file : LinkedFile) (q : List LinkedFile) → AllByRecursion (λ other. other ≢ name) (names_of (p ++ file ∷ q)) → file.name ≢ name
apart_at name [] file q h = h.0
apart_at name (a ∷ p) file q h = apart_at name p file q h.1

lack_before : (p : List LinkedFile) (file : LinkedFile) (q : List LinkedFile) → NoneTwice (names_of (p ++ file ∷ q)) → Lack file.name p
lack_before [] file q h = tt
lack_before (a ∷ p) file q h = (other_name a.name file.name (λ e. apart_at a.name p file q h.0 (sym e)), lack_before p file q h.1)

lack_after : (p : List LinkedFile) (file : LinkedFile) (q : List LinkedFile) → NoneTwice (names_of (p ++ file ∷ q)) → Lack file.name q
lack_after [] file q h = lack_behind file.name q h.0
lack_after (a ∷ p) file q h = lack_after p file q h.1

-- ---- the files of a merge

none_merged : (first : LinkedFile) (rest : List LinkedFile) (name : List ℕ) → Lack name rest → merged_with (first ∷ rest) name ≡ []
none_merged first [] name h = refl
none_merged first (a ∷ []) name h = refl
none_merged first (a ∷ b ∷ rest) name h =
    let tail = merged_with (a ∷ b ∷ rest) name in
    ap (λ p. cond p (a.name ∷ b.name ∷ first.name ∷ tail) tail) h.0 ∙ none_merged a (b ∷ rest) name h.1

-- a file more before them
merged_past : (a b c : LinkedFile) (rest : List LinkedFile) (name : List ℕ) → bytes_eq b.name name ≡ false → merged_with (a ∷ b ∷ c ∷ rest) name ≡ merged_with (b ∷ c ∷ rest) name
merged_past a b c rest name e = let tail = merged_with (b ∷ c ∷ rest) name in ap (λ p. cond p (b.name ∷ c.name ∷ a.name ∷ tail) tail) e

merged_is : (above : List LinkedFile) (child source target : LinkedFile) (below : List LinkedFile) (name : List ℕ) → bytes_eq source.name name ≡ true → Lack name (above ++ child ∷ []) → Lack name (target ∷ below)
    → merged_with (above ++ child ∷ source ∷ target ∷ below) name ≡ source.name ∷ target.name ∷ child.name ∷ []
merged_is [] child source target below name e before after =
    let tail = merged_with (source ∷ target ∷ below) name in
    ap (λ p. cond p (source.name ∷ target.name ∷ child.name ∷ tail) tail) e ∙ ap (λ t. source.name ∷ target.name ∷ child.name ∷ t) (none_merged source (target ∷ below) name after)
merged_is (a ∷ []) child source target below name e before after = merged_past a child source (target ∷ below) name before.1.0 ∙ merged_is [] child source target below name e before.1 after
merged_is (a ∷ b ∷ []) child source target below name e before after = merged_past a b child (source ∷ target ∷ below) name before.1.0 ∙ merged_is (b ∷ []) child source target below name e before.1 after
merged_is (a ∷ b ∷ c ∷ above) child source target below name e before after =
    merged_past a b c (above ++ child ∷ source ∷ target ∷ below) name before.1.0 ∙ merged_is (b ∷ c ∷ above) child source target below name e before.1 after

module _ (m : MergeFiles) (leaf : LinkedFile) (others : List LinkedFile) (name : List ℕ) (same : leaf ∷ others ≡ chain_files m) (is : m.source.name ≡ name) (other : is_leaf (leaf ∷ others) name ≡ false) (once : NoneTwice (names_of (leaf ∷ others))) (trace : Trace)
    (none : (n : ℕ) → is_changed m n ≡ true → NamesNoLog (seen (file_of trace n))) where
  abbrev IsOne : List ℕ → Type 0
  IsOne = IsUnlogged (leaf ∷ others) trace

  at : (n : ℕ) (x : List ℕ) → is_changed m n ≡ true → slice_index_or (names_of (chain_files m)) n [] ≡ x → IsOne x
  at n x changed named = record {
    number = n;
    there = subst (λ (files : List LinkedFile). n < length files) (sym same) (places_within m n changed);
    named = ap (λ files. slice_index_or (names_of files) n []) same ∙ named;
    none = none n changed;
  }

  parted : leaf ∷ others ≡ (m.above ++ m.child ∷ []) ++ m.source ∷ m.target ∷ m.below
  parted = same ∙ sym (append_assoc m.above (m.child ∷ []) (m.source ∷ m.target ∷ m.below))

  once_parted : NoneTwice (names_of ((m.above ++ m.child ∷ []) ++ m.source ∷ m.target ∷ m.below))
  once_parted = subst (λ files. NoneTwice (names_of files)) parted once

  merged : merged_with (leaf ∷ others) name ≡ m.source.name ∷ m.target.name ∷ m.child.name ∷ []
  merged =
      ap (λ files. merged_with files name) same
      ∙ merged_is m.above m.child m.source m.target m.below name (ap (bytes_eq m.source.name) (sym is) ∙ is_itself m.source.name)
      (subst (λ n. Lack n (m.above ++ m.child ∷ [])) is (lack_before (m.above ++ m.child ∷ []) m.source (m.target ∷ m.below) once_parted))
      (subst (λ n. Lack n (m.target ∷ m.below)) is (lack_after (m.above ++ m.child ∷ []) m.source (m.target ∷ m.below) once_parted))

  pub unlogged_all : AllByRecursion IsOne (changed_names false (Some name) (leaf ∷ others))
  unlogged_all =
      subst (λ b. AllByRecursion IsOne (leaf.name ∷ cond b (first_name others) (merged_with (leaf ∷ others) name))) (sym other) (
        record { number = 0; there = omega arith; named = refl; none = none 0 refl },
        subst (AllByRecursion IsOne) (sym merged)
            (at (source_place m) m.source.name (source_changed m) (source_at m), (at (target_place m) m.target.name (target_changed m) (target_at m), (at (child_place m) m.child.name (child_changed m) (child_at m), tt))),
      )

-- ---- the leaf's merge, and none

pub unlogged_two : (leaf : LinkedFile) (others : List LinkedFile) (name : List ℕ) → is_leaf (leaf ∷ others) name ≡ true → (trace : Trace) → ((n : ℕ) → is_first_two n ≡ true → NamesNoLog (seen (file_of trace n)))
    → AllByRecursion (IsUnlogged (leaf ∷ others) trace) (changed_names false (Some name) (leaf ∷ others))
unlogged_two leaf [] name is trace none = let never : false ≡ true = is in cc
unlogged_two leaf (target ∷ below) name is trace none =
    subst (λ b. AllByRecursion (IsUnlogged (leaf ∷ target ∷ below) trace) (leaf.name ∷ cond b (target.name ∷ []) (merged_with (leaf ∷ target ∷ below) name))) (sym is)
    (record { number = 0; there = omega arith; named = refl; none = none 0 refl }, (record { number = 1; there = omega arith; named = refl; none = none 1 refl }, tt))

pub unlogged_one : (leaf : LinkedFile) (others : List LinkedFile) (trace : Trace) → NamesNoLog (seen (file_of trace 0)) → AllByRecursion (IsUnlogged (leaf ∷ others) trace) (changed_names false None (leaf ∷ others))
unlogged_one leaf others trace none = (record { number = 0; there = omega arith; named = refl; none = none }, tt)
