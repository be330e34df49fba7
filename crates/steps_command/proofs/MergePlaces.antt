-- The files of a merge among those of its chain: their places, and that a session may change them.
use Rattle.std.proofs.Common.{◌≡◌, ℕ, ◌+◌, ◌<◌, ◌==◌, ◌||◌, Bool, true, false, cond, List, [], ◌∷◌, ◌++◌, length, Some, inl, inr, refl, sym, ap, subst, ◌∙◌, arith}
use Rattle.std.specs.Prelude.{slice_index_or}
use Rattle.std.specs.Str.{bytes_eq}
use Rattle.std.proofs.lemmas.Bool.{eq-eqb, eqb-true, or_cases, or_left, or_right}
use Rattle.std.proofs.lemmas.List.{append_assoc, length-append, length-map, map-append}
use Rattle.std.proofs.Math.Seq.{get_or-append_seam}
use Rattle.link_rules.specs.Chains.{is_among, names_of}
use Rattle.link_rules.specs.declared.linked.LinkedFile.{LinkedFile}
use Rattle.link_rules.proofs.Composing.{among_append}
use Rattle.merge_plan.specs.Merging.{HasFirst, MergeFiles, child_place, source_place}
use Rattle.chain_core.specs.LeafStarting.{is_first_two}
use Rattle.chain_core.specs.MergeStarting.{chain_files, first_or, is_changed, is_written, leaf_of, target_place}
use Rattle.steps_command.specs.Starts.{changed_names, first_name, is_leaf, merged_with}
use Rattle.command_base.proofs.Lent.{is_itself}
use Rattle.link_rules.proofs.Lent.{same_name}

-- ---- places

abbrev name_of : LinkedFile → List ℕ
name_of f = f.name

pub name_at : (before : List LinkedFile) (f : LinkedFile) (rest : List LinkedFile) → slice_index_or (names_of (before ++ f ∷ rest)) (length before) [] ≡ f.name
name_at before f rest =
    ap (λ names. slice_index_or names (length before) []) (map-append name_of before (f ∷ rest))
    ∙ ap (λ n. slice_index_or (names_of before ++ f.name ∷ names_of rest) n []) (sym (length-map before name_of)) ∙ get_or-append_seam (names_of before) f.name (names_of rest) []

module _ (m : MergeFiles) where
  pub child_at : slice_index_or (names_of (chain_files m)) (child_place m) [] ≡ m.child.name
  child_at = name_at m.above m.child (m.source ∷ m.target ∷ m.below)

  pub source_at : slice_index_or (names_of (chain_files m)) (source_place m) [] ≡ m.source.name
  source_at =
      ap (λ files. slice_index_or (names_of files) (source_place m) []) (sym (append_assoc m.above (m.child ∷ []) (m.source ∷ m.target ∷ m.below)))
      ∙ ap (λ n. slice_index_or (names_of ((m.above ++ m.child ∷ []) ++ m.source ∷ m.target ∷ m.below)) n []) (sym (length-append m.above (m.child ∷ []))) ∙ name_at (m.above ++ m.child ∷ []) m.source (m.target ∷ m.below)

  pub target_at : slice_index_or (names_of (chain_files m)) (target_place m) [] ≡ m.target.name
  target_at =
      let long : length (m.above ++ m.child ∷ m.source ∷ []) ≡ target_place m = let l : length (m.above ++ m.child ∷ m.source ∷ []) ≡ length m.above + 2 = length-append m.above (m.child ∷ m.source ∷ []) in omega (arith, l) in
      ap (λ files. slice_index_or (names_of files) (target_place m) []) (sym (append_assoc m.above (m.child ∷ m.source ∷ []) (m.target ∷ m.below)))
      ∙ ap (λ n. slice_index_or (names_of ((m.above ++ m.child ∷ m.source ∷ []) ++ m.target ∷ m.below)) n []) (sym long) ∙ name_at (m.above ++ m.child ∷ m.source ∷ []) m.target m.below

-- the leaf of a merge's files is the chain's
first_seam : (above : List LinkedFile) (child other : LinkedFile) (rest : List LinkedFile) → first_or (above ++ child ∷ rest) other ≡ first_or above child
first_seam [] child other rest = refl
first_seam (f ∷ above) child other rest = refl

pub leaf_is : (m : MergeFiles) (leaf : LinkedFile) (others : List LinkedFile) → leaf ∷ others ≡ chain_files m → leaf_of m ≡ leaf
leaf_is m leaf others same = sym (first_seam m.above m.child leaf (m.source ∷ m.target ∷ m.below)) ∙ sym (ap (λ files. first_or files leaf) same)

-- ---- what may be changed

merged_more : (a b c : LinkedFile) (rest : List LinkedFile) (name x : List ℕ) → is_among x (merged_with (b ∷ c ∷ rest) name) ≡ true → is_among x (merged_with (a ∷ b ∷ c ∷ rest) name) ≡ true
merged_more a b c rest name x h = by_name (bytes_eq b.name name) refl where
  by_name : (p : Bool) → bytes_eq b.name name ≡ p → is_among x (merged_with (a ∷ b ∷ c ∷ rest) name) ≡ true
  by_name true e =
      let tail = merged_with (b ∷ c ∷ rest) name in
      let in_third : is_among x (a.name ∷ tail) ≡ true = or_right (bytes_eq a.name x) (is_among x tail) h in
      let in_second : is_among x (c.name ∷ a.name ∷ tail) ≡ true = or_right (bytes_eq c.name x) (is_among x (a.name ∷ tail)) in_third in
      let in_first : is_among x (b.name ∷ c.name ∷ a.name ∷ tail) ≡ true = or_right (bytes_eq b.name x) (is_among x (c.name ∷ a.name ∷ tail)) in_second in
      subst (λ p. is_among x (cond p (b.name ∷ c.name ∷ a.name ∷ tail) tail) ≡ true) (sym e) in_first
  by_name false e = subst (λ p. is_among x (cond p (b.name ∷ c.name ∷ a.name ∷ merged_with (b ∷ c ∷ rest) name) (merged_with (b ∷ c ∷ rest) name)) ≡ true) (sym e) h

merged_at : (above : List LinkedFile) (child source target : LinkedFile) (below : List LinkedFile) (name x : List ℕ) → source.name ≡ name → is_among x (source.name ∷ target.name ∷ child.name ∷ []) ≡ true
    → is_among x (merged_with (above ++ child ∷ source ∷ target ∷ below) name) ≡ true
merged_at [] child source target below name x is h =
    let tail = merged_with (source ∷ target ∷ below) name in
    let three = source.name ∷ target.name ∷ child.name ∷ [] in
    let all : is_among x (three ++ tail) ≡ true = among_append x three tail ∙ or_left (is_among x three) (is_among x tail) h in
    let e : bytes_eq source.name name ≡ true = ap (bytes_eq source.name) (sym is) ∙ is_itself source.name in
    subst (λ p. is_among x (cond p (three ++ tail) tail) ≡ true) (sym e) all
merged_at (a ∷ []) child source target below name x is h = merged_more a child source (target ∷ below) name x (merged_at [] child source target below name x is h)
merged_at (a ∷ b ∷ []) child source target below name x is h = merged_more a b child (source ∷ target ∷ below) name x (merged_at (b ∷ []) child source target below name x is h)
merged_at (a ∷ b ∷ c ∷ above) child source target below name x is h = merged_more a b c (above ++ child ∷ source ∷ target ∷ below) name x (merged_at (b ∷ c ∷ above) child source target below name x is h)

-- a session with the merge may change each of the four files
module _ (m : MergeFiles) (leaf : LinkedFile) (others : List LinkedFile) (name : List ℕ) (same : leaf ∷ others ≡ chain_files m) (is : m.source.name ≡ name) (other : is_leaf (leaf ∷ others) name ≡ false) where
  abbrev Among : List ℕ → Type 0
  Among x = is_among x (changed_names false (Some name) (leaf ∷ others)) ≡ true

  -- the source isn't the leaf
  below : (x : List ℕ) → is_among x (leaf.name ∷ merged_with (leaf ∷ others) name) ≡ true → Among x
  below x h = subst (λ b. is_among x (leaf.name ∷ cond b (first_name others) (merged_with (leaf ∷ others) name)) ≡ true) (sym other) h

  of_three : (x : List ℕ) → is_among x (m.source.name ∷ m.target.name ∷ m.child.name ∷ []) ≡ true → Among x
  of_three x h =
      let merged : is_among x (merged_with (leaf ∷ others) name) ≡ true = subst (λ files. is_among x (merged_with files name) ≡ true) (sym same) (merged_at m.above m.child m.source m.target m.below name x is h) in
      below x (or_right (bytes_eq leaf.name x) (is_among x (merged_with (leaf ∷ others) name)) merged)

  source_among : Among m.source.name
  source_among = of_three m.source.name (or_left (bytes_eq m.source.name m.source.name) (is_among m.source.name (m.target.name ∷ m.child.name ∷ [])) (is_itself m.source.name))

  target_among : Among m.target.name
  target_among =
      let in_two : is_among m.target.name (m.target.name ∷ m.child.name ∷ []) ≡ true = or_left (bytes_eq m.target.name m.target.name) (is_among m.target.name (m.child.name ∷ [])) (is_itself m.target.name) in
      of_three m.target.name (or_right (bytes_eq m.source.name m.target.name) (is_among m.target.name (m.target.name ∷ m.child.name ∷ [])) in_two)

  child_among : Among m.child.name
  child_among =
      let in_one : is_among m.child.name (m.child.name ∷ []) ≡ true = or_left (bytes_eq m.child.name m.child.name) false (is_itself m.child.name) in
      let in_two : is_among m.child.name (m.target.name ∷ m.child.name ∷ []) ≡ true = or_right (bytes_eq m.target.name m.child.name) (is_among m.child.name (m.child.name ∷ [])) in_one in
      of_three m.child.name (or_right (bytes_eq m.source.name m.child.name) (is_among m.child.name (m.target.name ∷ m.child.name ∷ [])) in_two)

  leaf_among : Among leaf.name
  leaf_among = below leaf.name (or_left (bytes_eq leaf.name leaf.name) (is_among leaf.name (merged_with (leaf ∷ others) name)) (is_itself leaf.name))

  at_place : (n place : ℕ) (x : List ℕ) → n ≡ place → slice_index_or (names_of (chain_files m)) place [] ≡ x → Among x → Among (slice_index_or (names_of (leaf ∷ others)) n [])
  at_place n place x n_is x_is among = subst Among (sym (ap (λ k. slice_index_or (names_of (leaf ∷ others)) k []) n_is ∙ ap (λ files. slice_index_or (names_of files) place []) same ∙ x_is)) among

  pub may_change_all : (n : ℕ) → is_changed m n ≡ true → Among (slice_index_or (names_of (leaf ∷ others)) n [])
  may_change_all n changed = elim (or_cases (is_written m n) (n == source_place m) changed) [
    | inl written ↦ elim (or_cases (n == 0 || n == child_place m) (n == target_place m) written) [
      | inl upper ↦ elim (or_cases (n == 0) (n == child_place m) upper) [
        | inl e ↦ subst (λ k. Among (slice_index_or (names_of (leaf ∷ others)) k [])) (sym (eqb-true n 0 e)) leaf_among
        | inr e ↦ at_place n (child_place m) m.child.name (eqb-true n (child_place m) e) (child_at m) child_among
      ]
      | inr e ↦ at_place n (target_place m) m.target.name (eqb-true n (target_place m) e) (target_at m) target_among
    ]
    | inr e ↦ at_place n (source_place m) m.source.name (eqb-true n (source_place m) e) (source_at m) source_among
  ]

-- each is a file of the chain
pub places_within : (m : MergeFiles) (n : ℕ) → is_changed m n ≡ true → n < length (chain_files m)
places_within m n changed =
    let long : length (chain_files m) ≡ length m.above + length (m.child ∷ m.source ∷ m.target ∷ m.below) = length-append m.above (m.child ∷ m.source ∷ m.target ∷ m.below) in
    elim (or_cases (is_written m n) (n == source_place m) changed) [
      | inl written ↦ elim (or_cases (n == 0 || n == child_place m) (n == target_place m) written) [
        | inl upper ↦ elim (or_cases (n == 0) (n == child_place m) upper) [
          | inl e ↦ let is : n ≡ 0 = eqb-true n 0 e in omega (arith, long, is)
          | inr e ↦ let is : n ≡ child_place m = eqb-true n (child_place m) e in omega (arith, long, is)
        ]
        | inr e ↦ let is : n ≡ target_place m = eqb-true n (target_place m) e in omega (arith, long, is)
      ]
      | inr e ↦ let is : n ≡ source_place m = eqb-true n (source_place m) e in omega (arith, long, is)
    ]

pub source_changed : (m : MergeFiles) → is_changed m (source_place m) ≡ true
source_changed m = or_right (is_written m (source_place m)) (source_place m == source_place m) (eq-eqb (source_place m) (source_place m) refl)

pub child_changed : (m : MergeFiles) → is_changed m (child_place m) ≡ true
child_changed m =
    let k = child_place m in
    let upper : (k == 0 || k == k) ≡ true = or_right (k == 0) (k == k) (eq-eqb k k refl) in
    or_left (is_written m k) (k == source_place m) (or_left (k == 0 || k == k) (k == target_place m) upper)

pub target_changed : (m : MergeFiles) → is_changed m (target_place m) ≡ true
target_changed m =
    let k = target_place m in
    or_left (is_written m k) (k == source_place m) (or_right (k == 0 || k == child_place m) (k == k) (eq-eqb k k refl))

-- a file's name is among those of the chain
pub named_among : (before : List LinkedFile) (f : LinkedFile) (rest files : List LinkedFile) → files ≡ before ++ f ∷ rest → is_among f.name (names_of files) ≡ true
named_among before f rest files same =
    subst (λ fs. is_among f.name (names_of fs) ≡ true) (sym same) (subst (λ ns. is_among f.name ns ≡ true) (sym (map-append name_of before (f ∷ rest)))
    (among_append f.name (names_of before) (f.name ∷ names_of rest) ∙ or_right (is_among f.name (names_of before)) (is_among f.name (f.name ∷ names_of rest)) (or_left (bytes_eq f.name f.name) (is_among f.name (names_of rest)) (is_itself f.name))))

pub source_in : (files : List LinkedFile) (m : MergeFiles) → files ≡ chain_files m → is_among m.source.name (names_of files) ≡ true
source_in files m are = named_among (m.above ++ m.child ∷ []) m.source (m.target ∷ m.below) files (are ∙ sym (append_assoc m.above (m.child ∷ []) (m.source ∷ m.target ∷ m.below)))

pub child_in : (files : List LinkedFile) (m : MergeFiles) → files ≡ chain_files m → is_among m.child.name (names_of files) ≡ true
child_in files m are = named_among m.above m.child (m.source ∷ m.target ∷ m.below) files are

-- ---- the leaf's merge

pub first_is_leaf : (files : List LinkedFile) (name : List ℕ) → HasFirst files name → is_leaf files name ≡ true
first_is_leaf files name h = subst (λ fs. is_leaf fs name ≡ true) (sym h.files_are) (ap (bytes_eq h.source.name) (sym h.named) ∙ is_itself h.source.name)

pub leaf_named : (leaf : LinkedFile) (others : List LinkedFile) (name : List ℕ) → is_leaf (leaf ∷ others) name ≡ true → leaf.name ≡ name
leaf_named leaf [] name is = let never : false ≡ true = is in cc
leaf_named leaf (target ∷ below) name is = same_name leaf.name name is

-- a session with it may change the first two files, which are of the chain
pub may_change_two : (leaf : LinkedFile) (others : List LinkedFile) (name : List ℕ) → is_leaf (leaf ∷ others) name ≡ true → (n : ℕ) → is_first_two n ≡ true
    → is_among (slice_index_or (names_of (leaf ∷ others)) n []) (changed_names false (Some name) (leaf ∷ others)) ≡ true
may_change_two leaf [] name is n two = let never : false ≡ true = is in cc
may_change_two leaf (target ∷ below) name is n two =
    subst (λ b. is_among (slice_index_or (names_of (leaf ∷ target ∷ below)) n []) (leaf.name ∷ cond b (target.name ∷ []) (merged_with (leaf ∷ target ∷ below) name)) ≡ true) (sym is) (elim (or_cases (n == 0) (n == 1) two) [
      | inl e ↦ subst (λ k. is_among (slice_index_or (names_of (leaf ∷ target ∷ below)) k []) (leaf.name ∷ target.name ∷ []) ≡ true) (sym (eqb-true n 0 e)) (or_left (bytes_eq leaf.name leaf.name) (is_among leaf.name (target.name ∷ [])) (is_itself leaf.name))
      | inr e ↦ subst (λ k. is_among (slice_index_or (names_of (leaf ∷ target ∷ below)) k []) (leaf.name ∷ target.name ∷ []) ≡ true) (sym (eqb-true n 1 e))
          (or_right (bytes_eq leaf.name target.name) (is_among target.name (target.name ∷ [])) (or_left (bytes_eq target.name target.name) false (is_itself target.name)))
    ])

pub two_within : (leaf : LinkedFile) (others : List LinkedFile) (name : List ℕ) → is_leaf (leaf ∷ others) name ≡ true → (n : ℕ) → is_first_two n ≡ true → n < length (leaf ∷ others)
two_within leaf [] name is n two = let never : false ≡ true = is in cc
two_within leaf (target ∷ below) name is n two = elim (or_cases (n == 0) (n == 1) two) [
  | inl e ↦ let at : n ≡ 0 = eqb-true n 0 e in omega (arith, at)
  | inr e ↦ let at : n ≡ 1 = eqb-true n 1 e in omega (arith, at)
]
