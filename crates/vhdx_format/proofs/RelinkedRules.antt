-- The changed pairs keep a locator's rules.
use Rattle.std.proofs.Common.{◌≡◌, ◌≢◌, ◌⊎◌, ◌≤◌, ◌+◌, ℕ, Bool, true, false, cond, ◌||◌, ◌&&◌, List, [], ◌∷◌, ◌++◌, is_some, is_none, refl, sym, ap, subst, ◌∙◌, arith, inl, inr, ltb}
use Rattle.std.specs.List.{count_by, AllByRecursion}
use Rattle.std.proofs.lemmas.Bool.{cases_Bool, or_parts, or_from, and_left, and_right, ltb-false, le-ltb}
use Rattle.std.proofs.lemmas.List.Recursion.{is_count_by}
use Rattle.std.proofs.lemmas.List.Elements.{All-from_recursion, recursion_from_All}
use Rattle.std.proofs.lemmas.Slice.Eq.{bytes_eq-Decides}
use Rattle.uuid.specs.Text.{braced_text, lower}
use Rattle.vx_base.specs.Fields.{IsGuid}
use Rattle.vx_base.specs.Names.{IsName}
use Rattle.std.specs.Str.{IsUtf8}
use Rattle.vhdx_format.proofs.ChildLocators.{linkage_is}
use Rattle.vhdx_format.specs.declared.locator.Pair.{Pair}
use Rattle.vhdx_format.specs.Fields.{is_zero_id}
use Rattle.vhdx_format.specs.Locators.{has_key, is_linkage, is_bad_pair, linkage_id, KeepRules}
use Rattle.vhdx_format.specs.Relinking.{with_value, has, with_behind, without, linked_twice, relinked, LocatorsKeepRules}
use Rattle.vhdx_format.proofs.RelinkedValues.{first_link, second_link, relative, volume, absolute, path_of, apart, apart_keys, twice_first, links_twice, relinks, has_changed, bare, relinked_first}

-- ---- keys that stand once

abbrev count : (Pair → Bool) → List Pair → ℕ
count p [] = 0
count p (x ∷ xs) = cond (p x) (1 + count p xs) (count p xs)

counted : (p : Pair → Bool) (xs : List Pair) → count p xs ≡ count_by p xs
counted p xs = is_count_by (count p) p refl (λ x xs. refl) xs

abbrev Once : List Pair → Type 0
Once pairs = (k : List ℕ) → count (has_key k) pairs ≤ 1

abbrev is_unlinked : Pair → Bool
is_unlinked pair = is_linkage pair && is_none (linkage_id pair.value)

abbrev Linked : List Pair → Type 0
Linked pairs = AllByRecursion (λ pair. is_unlinked pair ≡ false) pairs

none_counted : (k : List ℕ) (pairs : List Pair) → has k pairs ≡ false → count (has_key k) pairs ≡ 0
none_counted k [] h = refl
none_counted k (p ∷ pairs) h =
    let parts = or_parts (has_key k p) (has k pairs) h in
    ap (λ b. cond b (1 + count (has_key k) pairs) (count (has_key k) pairs)) parts.0 ∙ none_counted k pairs parts.1

-- a pair of the list that has a key
found_bad : (k : List ℕ) (all pairs : List Pair) → has k pairs ≡ true → AllByRecursion (λ pair. is_bad_pair all pair ≡ false) pairs → count (has_key k) all ≤ 1
unfolding is_bad_pair
found_bad k all [] h each = absurd (no_pair h)
  where
    no_pair : false ≡ true → ⊥
    no_pair e = cc
found_bad k all (p ∷ pairs) h each = elim (cases_Bool (has_key k p)) [
  | inl t ↦
      let key : p.key ≡ k = (bytes_eq-Decides p.key k).0 t in
      let parts = or_parts (ltb 1 (count_by (has_key p.key) all)) _ each.0 in
      let few : count_by (has_key p.key) all ≤ 1 = ltb-false 1 (count_by (has_key p.key) all) parts.0 in
      subst (λ j. count (has_key j) all ≤ 1) key (subst (λ (n : ℕ). n ≤ 1) (sym (counted (has_key p.key) all)) few)
  | inr f ↦ found_bad k all pairs (sym (ap (λ b. b || has k pairs) f) ∙ h) each.1
]

once_kept : (pairs : List Pair) → KeepRules pairs → Once pairs
once_kept pairs keeps k = elim (cases_Bool (has k pairs)) [
  | inl t ↦ found_bad k pairs pairs t (recursion_from_All (λ pair. is_bad_pair pairs pair ≡ false) pairs keeps.each)
  | inr f ↦ subst (λ (n : ℕ). n ≤ 1) (sym (none_counted k pairs f)) (omega arith)
]

linked_kept : (all pairs : List Pair) → AllByRecursion (λ pair. is_bad_pair all pair ≡ false) pairs → Linked pairs
unfolding is_bad_pair
linked_kept all [] each = tt
linked_kept all (p ∷ pairs) each = ((or_parts (ltb 1 (count_by (has_key p.key) all)) (is_unlinked p) each.0).1, linked_kept all pairs each.1)

each_good : (all pairs : List Pair) → Once all → Linked pairs → AllByRecursion (λ pair. is_bad_pair all pair ≡ false) pairs
unfolding is_bad_pair
each_good all [] once linked = tt
each_good all (p ∷ pairs) once linked = (
  or_from (ltb 1 (count_by (has_key p.key) all)) (is_unlinked p) (le-ltb 1 (count_by (has_key p.key) all) (subst (λ (n : ℕ). n ≤ 1) (counted (has_key p.key) all) (once p.key))) linked.0,
  each_good all pairs once linked.1,
)

-- ---- changes keep them

value_count : (k key v : List ℕ) (pairs : List Pair) → count (has_key k) (with_value key v pairs) ≡ count (has_key k) pairs
value_count k key v [] = refl
value_count k key v (p ∷ pairs) = ap (λ (n : ℕ). cond (has_key k p) (1 + n) n) (value_count k key v pairs)

value_once : (key v : List ℕ) (pairs : List Pair) → Once pairs → Once (with_value key v pairs)
value_once key v pairs once k = subst (λ (n : ℕ). n ≤ 1) (sym (value_count k key v pairs)) (once k)

more_le : (b : Bool) (n m : ℕ) → n ≤ m → cond b (1 + n) n ≤ cond b (1 + m) m
more_le true n m h = omega arith
more_le false n m h = h

le_more : (b : Bool) (n m : ℕ) → n ≤ m → n ≤ cond b (1 + m) m
le_more true n m h = omega arith
le_more false n m h = h

without_count : (k key : List ℕ) (pairs : List Pair) → count (has_key k) (without key pairs) ≤ count (has_key k) pairs
without_count k key [] = omega arith
without_count k key (p ∷ pairs) = elim (cases_Bool (has_key key p)) [
  | inl t ↦ subst (λ b. count (has_key k) (cond b (without key pairs) (p ∷ without key pairs)) ≤ count (has_key k) (p ∷ pairs)) (sym t)
      (le_more (has_key k p) (count (has_key k) (without key pairs)) (count (has_key k) pairs) (without_count k key pairs))
  | inr f ↦ subst (λ b. count (has_key k) (cond b (without key pairs) (p ∷ without key pairs)) ≤ count (has_key k) (p ∷ pairs)) (sym f)
      (more_le (has_key k p) (count (has_key k) (without key pairs)) (count (has_key k) pairs) (without_count k key pairs))
]

without_once : (key : List ℕ) (pairs : List Pair) → Once pairs → Once (without key pairs)
without_once key pairs once k = omega (arith, once k, without_count k key pairs)

pub without_has : (k key : List ℕ) (pairs : List Pair) → has k pairs ≡ false → has k (without key pairs) ≡ false
without_has k key [] h = refl
without_has k key (p ∷ pairs) h =
    let parts = or_parts (has_key k p) (has k pairs) h in
    elim (cases_Bool (has_key key p)) [
      | inl t ↦ ap (λ b. has k (cond b (without key pairs) (p ∷ without key pairs))) t ∙ without_has k key pairs parts.1
      | inr f ↦ ap (λ b. has k (cond b (without key pairs) (p ∷ without key pairs))) f ∙ or_from (has_key k p) _ parts.0 (without_has k key pairs parts.1)
    ]

behind_count : (k key : List ℕ) (new : Pair) (pairs : List Pair) → count (has_key k) (with_behind key new pairs) ≤ cond (has_key k new) (1 + count (has_key k) pairs) (count (has_key k) pairs)
behind_count k key new [] = le_more (has_key k new) 0 0 (omega arith)
behind_count k key new (p ∷ pairs) = elim (cases_Bool (has_key key p)) [
  | inl t ↦ subst (λ b. count (has_key k) (cond b (p ∷ new ∷ pairs) (p ∷ with_behind key new pairs)) ≤ cond (has_key k new) (1 + count (has_key k) (p ∷ pairs)) (count (has_key k) (p ∷ pairs))) (sym t)
      (swapped (has_key k p) (has_key k new) (count (has_key k) pairs))
  | inr f ↦ subst (λ b. count (has_key k) (cond b (p ∷ new ∷ pairs) (p ∷ with_behind key new pairs)) ≤ cond (has_key k new) (1 + count (has_key k) (p ∷ pairs)) (count (has_key k) (p ∷ pairs))) (sym f)
      (both (has_key k p) (has_key k new) (count (has_key k) (with_behind key new pairs)) (count (has_key k) pairs) (behind_count k key new pairs))
]
  where
    swapped : (a b : Bool) (n : ℕ) → cond a (1 + cond b (1 + n) n) (cond b (1 + n) n) ≤ cond b (1 + cond a (1 + n) n) (cond a (1 + n) n)
    swapped true true n = omega arith
    swapped true false n = omega arith
    swapped false true n = omega arith
    swapped false false n = omega arith

    both : (a b : Bool) (m n : ℕ) → m ≤ cond b (1 + n) n → cond a (1 + m) m ≤ cond b (1 + cond a (1 + n) n) (cond a (1 + n) n)
    both true true m n h = omega arith
    both true false m n h = omega arith
    both false true m n h = h
    both false false m n h = h

one_more : (k : List ℕ) (new : Pair) (pairs : List Pair) (n : ℕ) → has new.key pairs ≡ false → Once pairs → n ≤ cond (has_key k new) (1 + count (has_key k) pairs) (count (has_key k) pairs) → n ≤ 1
one_more k new pairs n none once h = elim (cases_Bool (has_key k new)) [
  | inl t ↦
      let zero_there : count (has_key k) pairs ≡ 0 = subst (λ j. count (has_key j) pairs ≡ 0) ((bytes_eq-Decides new.key k).0 t) (none_counted new.key pairs none) in
      let bound : n ≤ 1 + count (has_key k) pairs = subst (λ b. n ≤ cond b (1 + count (has_key k) pairs) (count (has_key k) pairs)) t h in
      omega (arith, zero_there, bound)
  | inr f ↦
      let bound : n ≤ count (has_key k) pairs = subst (λ b. n ≤ cond b (1 + count (has_key k) pairs) (count (has_key k) pairs)) f h in
      omega (arith, bound, once k)
]

behind_once : (key : List ℕ) (new : Pair) (pairs : List Pair) → has new.key pairs ≡ false → Once pairs → Once (with_behind key new pairs)
behind_once key new pairs none once k = one_more k new pairs (count (has_key k) (with_behind key new pairs)) none once (behind_count k key new pairs)

appended_count : (k : List ℕ) (pairs : List Pair) (new : Pair) → count (has_key k) (pairs ++ new ∷ []) ≡ cond (has_key k new) (1 + count (has_key k) pairs) (count (has_key k) pairs)
appended_count k [] new = refl
appended_count k (p ∷ pairs) new = ap (λ (n : ℕ). cond (has_key k p) (1 + n) n) (appended_count k pairs new) ∙ swapped (has_key k p) (has_key k new) (count (has_key k) pairs)
  where
    swapped : (a b : Bool) (n : ℕ) → cond a (1 + cond b (1 + n) n) (cond b (1 + n) n) ≡ cond b (1 + cond a (1 + n) n) (cond a (1 + n) n)
    swapped true true n = refl
    swapped true false n = refl
    swapped false true n = refl
    swapped false false n = refl

appended_once : (pairs : List Pair) (new : Pair) → has new.key pairs ≡ false → Once pairs → Once (pairs ++ new ∷ [])
appended_once pairs new none once k = one_more k new pairs (count (has_key k) (pairs ++ new ∷ [])) none once (equal_le (appended_count k pairs new))
  where
    equal_le : {a b : ℕ} → a ≡ b → a ≤ b
    equal_le e = omega (arith, e)

-- ---- linkages stay

value_linked : (key v : List ℕ) (pairs : List Pair) → is_none (linkage_id v) ≡ false → Linked pairs → Linked (with_value key v pairs)
value_linked key v [] fine linked = tt
value_linked key v (p ∷ pairs) fine linked = (one (has_key key p) linked.0, value_linked key v pairs fine linked.1)
  where
    one : (b : Bool) → is_unlinked p ≡ false → (is_linkage p && is_none (linkage_id (cond b v p.value))) ≡ false
    one true h = and_right (is_linkage p) _ fine
    one false h = h

value_plain : (key v : List ℕ) (pairs : List Pair) → key ≢ first_link → key ≢ second_link → Linked pairs → Linked (with_value key v pairs)
value_plain key v [] n m linked = tt
value_plain key v (p ∷ pairs) n m linked = (by_key (cases_Bool (has_key key p)), value_plain key v pairs n m linked.1)
  where
    by_key : (has_key key p ≡ true) ⊎ (has_key key p ≡ false) → (is_linkage p && is_none (linkage_id (cond (has_key key p) v p.value))) ≡ false
    by_key (inl t) = and_left (is_linkage p) _ (or_from (has_key first_link p) (has_key second_link p) (apart_keys first_link key p (λ e. n (sym e)) t) (apart_keys second_link key p (λ e. m (sym e)) t))
    by_key (inr f) = ap (λ b. is_linkage p && is_none (linkage_id (cond b v p.value))) f ∙ linked.0

without_linked : (key : List ℕ) (pairs : List Pair) → Linked pairs → Linked (without key pairs)
without_linked key [] linked = tt
without_linked key (p ∷ pairs) linked = elim (cases_Bool (has_key key p)) [
  | inl t ↦ subst (λ b. Linked (cond b (without key pairs) (p ∷ without key pairs))) (sym t) (without_linked key pairs linked.1)
  | inr f ↦ subst (λ b. Linked (cond b (without key pairs) (p ∷ without key pairs))) (sym f) (linked.0, without_linked key pairs linked.1)
]

behind_linked : (key : List ℕ) (new : Pair) (pairs : List Pair) → is_unlinked new ≡ false → Linked pairs → Linked (with_behind key new pairs)
behind_linked key new [] fine linked = tt
behind_linked key new (p ∷ pairs) fine linked = elim (cases_Bool (has_key key p)) [
  | inl t ↦ subst (λ b. Linked (cond b (p ∷ new ∷ pairs) (p ∷ with_behind key new pairs))) (sym t) (linked.0, (fine, linked.1))
  | inr f ↦ subst (λ b. Linked (cond b (p ∷ new ∷ pairs) (p ∷ with_behind key new pairs))) (sym f) (linked.0, behind_linked key new pairs fine linked.1)
]

appended_linked : (pairs : List Pair) (new : Pair) → is_unlinked new ≡ false → Linked pairs → Linked (pairs ++ new ∷ [])
appended_linked [] new fine linked = (fine, tt)
appended_linked (p ∷ pairs) new fine linked = (linked.0, appended_linked pairs new fine linked.1)

-- ---- the two changes

text_links : (id : List ℕ) → IsGuid id → is_none (linkage_id (braced_text lower id)) ≡ false
text_links id guid = ap is_none (linkage_is id guid)

pub twice_keeps : (id second : List ℕ) (pairs : List Pair) → KeepRules pairs → IsGuid id → IsGuid second → is_zero_id second ≡ false → KeepRules (linked_twice id second pairs)
twice_keeps id second pairs keeps guid other nonzero = record {
  each = All-from_recursion (λ pair. is_bad_pair (linked_twice id second pairs) pair ≡ false) (linked_twice id second pairs) (each_good (linked_twice id second pairs) (linked_twice id second pairs) (parts (cases_Bool (has second_link pairs))).0 (parts (cases_Bool (has second_link pairs))).1);
  linked = ap is_some (twice_first id second pairs keeps.linked);
  named = ap is_some (links_twice id second pairs keeps.linked guid other nonzero).named ∙ keeps.named;
}
  where
    links : List Pair
    links = with_value first_link (braced_text lower id) pairs

    new : Pair
    new = record { key = second_link; value = braced_text lower second }

    once : Once (with_value first_link (braced_text lower id) pairs)
    once = value_once first_link (braced_text lower id) pairs (once_kept pairs keeps)

    linked : Linked (with_value first_link (braced_text lower id) pairs)
    linked = value_linked first_link (braced_text lower id) pairs (text_links id guid) (linked_kept pairs pairs (recursion_from_All (λ pair. is_bad_pair pairs pair ≡ false) pairs keeps.each))

    parts : (has second_link pairs ≡ true) ⊎ (has second_link pairs ≡ false) → Once (linked_twice id second pairs) × Linked (linked_twice id second pairs)
    parts (inl t) = subst (λ b. Once (cond b (with_value second_link (braced_text lower second) links) (with_behind first_link new links)) × Linked (cond b (with_value second_link (braced_text lower second) links) (with_behind first_link new links))) (sym t)
        (value_once second_link (braced_text lower second) links once, value_linked second_link (braced_text lower second) links (text_links second other) linked)
    parts (inr f) = subst (λ b. Once (cond b (with_value second_link (braced_text lower second) links) (with_behind first_link new links)) × Linked (cond b (with_value second_link (braced_text lower second) links) (with_behind first_link new links))) (sym f) (
      behind_once first_link new links (has_changed second_link first_link (braced_text lower id) pairs ∙ f) once,
      behind_linked first_link new links (and_right (is_linkage new) _ (text_links second other)) linked,
    )

pub relinked_keeps : (id name : List ℕ) (pairs : List Pair) → KeepRules pairs → IsGuid id → IsName name → IsUtf8 name → KeepRules (relinked id name pairs)
relinked_keeps id name pairs keeps guid is_name is_text = record {
  each = All-from_recursion (λ pair. is_bad_pair (relinked id name pairs) pair ≡ false) (relinked id name pairs) (each_good (relinked id name pairs) (relinked id name pairs) (parts (cases_Bool (has relative pairs))).0 (parts (cases_Bool (has relative pairs))).1);
  linked = ap is_some (relinked_first id name pairs keeps.linked);
  named = ap is_some (relinks id name pairs keeps.linked guid is_name is_text).named;
}
  where
    once : Once (bare id pairs)
    once = without_once absolute (without volume (without second_link (with_value first_link (braced_text lower id) pairs))) (without_once volume (without second_link (with_value first_link (braced_text lower id) pairs)) (without_once second_link (with_value first_link (braced_text lower id) pairs) (value_once first_link (braced_text lower id) pairs (once_kept pairs keeps))))

    linked : Linked (bare id pairs)
    linked = without_linked absolute (without volume (without second_link (with_value first_link (braced_text lower id) pairs))) (without_linked volume (without second_link (with_value first_link (braced_text lower id) pairs)) (without_linked second_link (with_value first_link (braced_text lower id) pairs) (value_linked first_link (braced_text lower id) pairs (text_links id guid) (linked_kept pairs pairs (recursion_from_All (λ pair. is_bad_pair pairs pair ≡ false) pairs keeps.each)))))

    new : Pair
    new = record { key = relative; value = path_of name }

    parts : (has relative pairs ≡ true) ⊎ (has relative pairs ≡ false) → Once (relinked id name pairs) × Linked (relinked id name pairs)
    parts (inl t) = subst (λ b. Once (cond b (with_value relative (path_of name) (bare id pairs)) (bare id pairs ++ new ∷ [])) × Linked (cond b (with_value relative (path_of name) (bare id pairs)) (bare id pairs ++ new ∷ []))) (sym t)
        (value_once relative (path_of name) (bare id pairs) once, value_plain relative (path_of name) (bare id pairs) (apart relative first_link refl) (apart relative second_link refl) linked)
    parts (inr f) = subst (λ b. Once (cond b (with_value relative (path_of name) (bare id pairs)) (bare id pairs ++ new ∷ [])) × Linked (cond b (with_value relative (path_of name) (bare id pairs)) (bare id pairs ++ new ∷ []))) (sym f) (
      appended_once (bare id pairs) new (without_has relative absolute (without volume (without second_link (with_value first_link (braced_text lower id) pairs))) (without_has relative volume (without second_link (with_value first_link (braced_text lower id) pairs)) (without_has relative second_link (with_value first_link (braced_text lower id) pairs) (has_changed relative first_link (braced_text lower id) pairs ∙ f)))) once,
      appended_linked (bare id pairs) new refl linked,
    )

pub locators_keep_rules : LocatorsKeepRules
locators_keep_rules = record { twice = twice_keeps; once = relinked_keeps }
