-- The pairs of a locator, changed.
use Rattle.std.proofs.Common.{◌≡◌, ◌≢◌, ℕ, Bool, true, false, cond, List, [], ◌∷◌, ◌++◌, Option, Some, None, is_some, codes, refl, sym, ap, ◌∙◌, inl, inr, ◌||◌}
use Rattle.std.specs.List.{find}
use Rattle.std.specs.Option.{option_or, option_map, option_and_then}
use Rattle.std.specs.Str.{bytes_eq, IsUtf8}
use Rattle.std.proofs.lemmas.Bool.{cases_Bool, false_from_ne_true, or_parts}
use Rattle.std.proofs.lemmas.Slice.Eq.{bytes_eq-Decides}
use Rattle.uuid.specs.Text.{braced_text, lower}
use Rattle.vx_base.specs.Fields.{IsGuid}
use Rattle.vx_base.specs.Names.{IsName, is_name}
use Rattle.vhdx_format.specs.declared.locator.Pair.{Pair}
use Rattle.vhdx_format.specs.Fields.{is_zero_id}
use Rattle.vhdx_format.specs.Locators.{has_key, value_at, linkage, linkage_id, second_linkage, parent_path, parent_name, last_component}
use Rattle.vhdx_format.specs.Texts.{text_units, text_of_units, name_in}
use Rattle.vhdx_format.proofs.ChildLocators.{children_name_parents, linkage_is}
use Rattle.vhdx_format.specs.Relinking.{with_value, has, with_behind, without, linked_twice, relinked, LinksTwice, Relinks, LocatorsRelink}

-- ---- one identifier, one name

one_letter : IsName (codes "a")
unfolding is_name
one_letter = refl

path_name : (id name : List ℕ) → IsGuid id → IsName name → IsUtf8 name → option_and_then (λ path. option_and_then name_in (text_of_units (last_component path))) (Some (codes ".\\" ++ text_units name)) ≡ Some name
unfolding parent_name parent_path value_at
path_name id name guid is_name is_text = (children_name_parents id name guid is_name is_text).named

-- ---- keys

pub apart : (a b : List ℕ) → bytes_eq a b ≡ false → a ≢ b
apart a b f e = both (bytes_eq a b) f ((bytes_eq-Decides a b).1 e)
  where
    both : (b : Bool) → b ≡ false → b ≡ true → ⊥
    both b f t = cc

pub apart_keys : (k key : List ℕ) (p : Pair) → k ≢ key → has_key key p ≡ true → has_key k p ≡ false
apart_keys k key p other h = false_from_ne_true (has_key k p) (λ e. other (sym ((bytes_eq-Decides p.key k).0 e) ∙ (bytes_eq-Decides p.key key).0 h))

-- ---- values

value_first : (k : List ℕ) (p : Pair) (rest : List Pair) → value_at k (p ∷ rest) ≡ cond (has_key k p) (Some p.value) (value_at k rest)
unfolding value_at
value_first k p rest = chosen (has_key k p) p (find (has_key k) rest)
  where
    chosen : (b : Bool) (p : Pair) (o : Option Pair) → option_map (λ (q : Pair). q.value) (cond b (Some p) o) ≡ cond b (Some p.value) (option_map (λ (q : Pair). q.value) o)
    chosen true p o = refl
    chosen false p o = refl

value_none : (k : List ℕ) → value_at k [] ≡ None
unfolding value_at
value_none k = refl

-- past a pair of another key
value_past : (k : List ℕ) (p : Pair) (rest : List Pair) → has_key k p ≡ false → value_at k (p ∷ rest) ≡ value_at k rest
value_past k p rest f = value_first k p rest ∙ ap (λ b. cond b (Some p.value) (value_at k rest)) f

value_here : (k : List ℕ) (p : Pair) (rest : List Pair) → has_key k p ≡ true → value_at k (p ∷ rest) ≡ Some p.value
value_here k p rest t = value_first k p rest ∙ ap (λ b. cond b (Some p.value) (value_at k rest)) t

has_value : (k : List ℕ) (pairs : List Pair) → has k pairs ≡ true → is_some (value_at k pairs) ≡ true
has_value k [] h = cc
has_value k (p ∷ pairs) h = elim (cases_Bool (has_key k p)) [
  | inl t ↦ ap is_some (value_here k p pairs t)
  | inr f ↦ ap is_some (value_past k p pairs f) ∙ has_value k pairs (sym (ap (λ b. b || has k pairs) f) ∙ h)
]

lacks_value : (k : List ℕ) (pairs : List Pair) → has k pairs ≡ false → value_at k pairs ≡ None
lacks_value k [] h = value_none k
lacks_value k (p ∷ pairs) h =
    let parts = or_parts (has_key k p) (has k pairs) h in
    value_past k p pairs parts.0 ∙ lacks_value k pairs parts.1

value_same : (key v : List ℕ) (pairs : List Pair) → is_some (value_at key pairs) ≡ true → value_at key (with_value key v pairs) ≡ Some v
value_same key v [] h = absurd (no_value (sym (ap is_some (value_none key)) ∙ h))
  where
    no_value : false ≡ true → ⊥
    no_value e = cc
value_same key v (p ∷ pairs) h = elim (cases_Bool (has_key key p)) [
  | inl t ↦ value_here key (record { key = p.key; value = cond (has_key key p) v p.value }) (with_value key v pairs) t ∙ ap (λ b. Some (cond b v p.value)) t
  | inr f ↦ value_past key (record { key = p.key; value = cond (has_key key p) v p.value }) (with_value key v pairs) f ∙ value_same key v pairs (sym (ap is_some (value_past key p pairs f)) ∙ h)
]

value_other : (k key v : List ℕ) (pairs : List Pair) → k ≢ key → value_at k (with_value key v pairs) ≡ value_at k pairs
value_other k key v [] other = refl
value_other k key v (p ∷ pairs) other = elim (cases_Bool (has_key key p)) [
  | inl t ↦
      let f = apart_keys k key p other t in
      value_past k (record { key = p.key; value = cond (has_key key p) v p.value }) (with_value key v pairs) f ∙ value_other k key v pairs other ∙ sym (value_past k p pairs f)
  | inr n ↦
      value_first k (record { key = p.key; value = cond (has_key key p) v p.value }) (with_value key v pairs)
      ∙ ap (λ b. cond (has_key k p) (Some (cond b v p.value)) (value_at k (with_value key v pairs))) n
      ∙ ap (cond (has_key k p) (Some p.value)) (value_other k key v pairs other)
      ∙ sym (value_first k p pairs)
]

without_other : (k key : List ℕ) (pairs : List Pair) → k ≢ key → value_at k (without key pairs) ≡ value_at k pairs
without_other k key [] other = refl
without_other k key (p ∷ pairs) other = elim (cases_Bool (has_key key p)) [
  | inl t ↦ ap (λ b. value_at k (cond b (without key pairs) (p ∷ without key pairs))) t ∙ without_other k key pairs other ∙ sym (value_past k p pairs (apart_keys k key p other t))
  | inr f ↦
      ap (λ b. value_at k (cond b (without key pairs) (p ∷ without key pairs))) f ∙ value_first k p (without key pairs)
      ∙ ap (cond (has_key k p) (Some p.value)) (without_other k key pairs other) ∙ sym (value_first k p pairs)
]

without_same : (key : List ℕ) (pairs : List Pair) → value_at key (without key pairs) ≡ None
without_same key [] = value_none key
without_same key (p ∷ pairs) = elim (cases_Bool (has_key key p)) [
  | inl t ↦ ap (λ b. value_at key (cond b (without key pairs) (p ∷ without key pairs))) t ∙ without_same key pairs
  | inr f ↦ ap (λ b. value_at key (cond b (without key pairs) (p ∷ without key pairs))) f ∙ value_past key p (without key pairs) f ∙ without_same key pairs
]

behind_other : (k key : List ℕ) (new : Pair) (pairs : List Pair) → has_key k new ≡ false → value_at k (with_behind key new pairs) ≡ value_at k pairs
behind_other k key new [] n = refl
behind_other k key new (p ∷ pairs) n = elim (cases_Bool (has_key key p)) [
  | inl t ↦
      ap (λ b. value_at k (cond b (p ∷ new ∷ pairs) (p ∷ with_behind key new pairs))) t ∙ value_first k p (new ∷ pairs)
      ∙ ap (cond (has_key k p) (Some p.value)) (value_past k new pairs n) ∙ sym (value_first k p pairs)
  | inr f ↦
      ap (λ b. value_at k (cond b (p ∷ new ∷ pairs) (p ∷ with_behind key new pairs))) f ∙ value_first k p (with_behind key new pairs)
      ∙ ap (cond (has_key k p) (Some p.value)) (behind_other k key new pairs n) ∙ sym (value_first k p pairs)
]

behind_new : (k key : List ℕ) (new : Pair) (pairs : List Pair) → has_key k new ≡ true → has k pairs ≡ false → is_some (value_at key pairs) ≡ true → value_at k (with_behind key new pairs) ≡ Some new.value
behind_new k key new [] here none h = absurd (no_value (sym (ap is_some (value_none key)) ∙ h))
  where
    no_value : false ≡ true → ⊥
    no_value e = cc
behind_new k key new (p ∷ pairs) here none h =
    let parts = or_parts (has_key k p) (has k pairs) none in
    elim (cases_Bool (has_key key p)) [
      | inl t ↦ ap (λ b. value_at k (cond b (p ∷ new ∷ pairs) (p ∷ with_behind key new pairs))) t ∙ value_past k p (new ∷ pairs) parts.0 ∙ value_here k new pairs here
      | inr f ↦ ap (λ b. value_at k (cond b (p ∷ new ∷ pairs) (p ∷ with_behind key new pairs))) f ∙ value_past k p (with_behind key new pairs) parts.0
          ∙ behind_new k key new pairs here parts.1 (sym (ap is_some (value_past key p pairs f)) ∙ h)
    ]

pub has_changed : (k key v : List ℕ) (pairs : List Pair) → has k (with_value key v pairs) ≡ has k pairs
has_changed k key v [] = refl
has_changed k key v (p ∷ pairs) = ap (λ b. has_key k p || b) (has_changed k key v pairs)

value_appended : (k : List ℕ) (pairs : List Pair) (new : Pair) → value_at k (pairs ++ new ∷ []) ≡ option_or (value_at k pairs) (value_at k (new ∷ []))
value_appended k [] new = sym (ap (λ o. option_or o (value_at k (new ∷ []))) (value_none k))
value_appended k (p ∷ pairs) new =
    value_first k p (pairs ++ new ∷ []) ∙ ap (cond (has_key k p) (Some p.value)) (value_appended k pairs new) ∙ joined (has_key k p) p.value (value_at k pairs) (value_at k (new ∷ []))
    ∙ sym (ap (λ o. option_or o (value_at k (new ∷ []))) (value_first k p pairs))
  where
    joined : (b : Bool) (v : List ℕ) (o rest : Option (List ℕ)) → cond b (Some v) (option_or o rest) ≡ option_or (cond b (Some v) o) rest
    joined true v o rest = refl
    joined false v o rest = refl

-- ---- the names of the keys

abbrev pub first_link : List ℕ
first_link = codes "parent_linkage"

abbrev pub second_link : List ℕ
second_link = codes "parent_linkage2"

abbrev pub relative : List ℕ
relative = codes "relative_path"

abbrev pub volume : List ℕ
volume = codes "volume_path"

abbrev pub absolute : List ℕ
absolute = codes "absolute_win32_path"

-- ---- linked twice

-- a key that is none of the linkages keeps its value
twice_other : (k id second : List ℕ) (pairs : List Pair) → k ≢ first_link → k ≢ second_link → value_at k (linked_twice id second pairs) ≡ value_at k pairs
twice_other k id second pairs n m = elim (cases_Bool (has second_link pairs)) [
  | inl t ↦
      ap (λ b. value_at k (cond b (with_value second_link (braced_text lower second) linked) (with_behind first_link new linked))) t
      ∙ value_other k second_link (braced_text lower second) linked m ∙ value_other k first_link (braced_text lower id) pairs n
  | inr f ↦
      ap (λ b. value_at k (cond b (with_value second_link (braced_text lower second) linked) (with_behind first_link new linked))) f
      ∙ behind_other k first_link new linked (false_from_ne_true (has_key k new) (λ e. m (sym ((bytes_eq-Decides second_link k).0 e)))) ∙ value_other k first_link (braced_text lower id) pairs n
]
  where
    linked : List Pair
    linked = with_value first_link (braced_text lower id) pairs

    new : Pair
    new = record { key = second_link; value = braced_text lower second }

pub twice_first : (id second : List ℕ) (pairs : List Pair) → is_some (value_at first_link pairs) ≡ true → value_at first_link (linked_twice id second pairs) ≡ Some (braced_text lower id)
twice_first id second pairs h = elim (cases_Bool (has second_link pairs)) [
  | inl t ↦
      ap (λ b. value_at first_link (cond b (with_value second_link (braced_text lower second) linked) (with_behind first_link new linked))) t
      ∙ value_other first_link second_link (braced_text lower second) linked (apart first_link second_link refl) ∙ value_same first_link (braced_text lower id) pairs h
  | inr f ↦
      ap (λ b. value_at first_link (cond b (with_value second_link (braced_text lower second) linked) (with_behind first_link new linked))) f
      ∙ behind_other first_link first_link new linked refl ∙ value_same first_link (braced_text lower id) pairs h
]
  where
    linked : List Pair
    linked = with_value first_link (braced_text lower id) pairs

    new : Pair
    new = record { key = second_link; value = braced_text lower second }

twice_second : (id second : List ℕ) (pairs : List Pair) → is_some (value_at first_link pairs) ≡ true → value_at second_link (linked_twice id second pairs) ≡ Some (braced_text lower second)
twice_second id second pairs h = elim (cases_Bool (has second_link pairs)) [
  | inl t ↦
      ap (λ b. value_at second_link (cond b (with_value second_link (braced_text lower second) linked) (with_behind first_link new linked))) t
      ∙ value_same second_link (braced_text lower second) linked (ap is_some (value_other second_link first_link (braced_text lower id) pairs (apart second_link first_link refl)) ∙ has_value second_link pairs t)
  | inr f ↦
      ap (λ b. value_at second_link (cond b (with_value second_link (braced_text lower second) linked) (with_behind first_link new linked))) f
      ∙ behind_new second_link first_link new linked refl (has_changed second_link first_link (braced_text lower id) pairs ∙ f) (ap is_some (value_same first_link (braced_text lower id) pairs h))
]
  where
    linked : List Pair
    linked = with_value first_link (braced_text lower id) pairs

    new : Pair
    new = record { key = second_link; value = braced_text lower second }

pub links_twice : (id second : List ℕ) (pairs : List Pair) → is_some (value_at first_link pairs) ≡ true → IsGuid id → IsGuid second → is_zero_id second ≡ false → LinksTwice id second pairs
unfolding linkage second_linkage parent_name parent_path
links_twice id second pairs h guid other nonzero = record {
  first = ap (option_and_then linkage_id) (twice_first id second pairs h) ∙ linkage_is id guid;
  other = ap (λ o. option_and_then (λ i. cond (is_zero_id i) None (Some i)) (option_and_then linkage_id o)) (twice_second id second pairs h)
      ∙ ap (option_and_then (λ i. cond (is_zero_id i) None (Some i))) (linkage_is second other) ∙ ap (λ b. cond b None (Some second)) nonzero;
  named =
      ap (λ o. name_by (option_or o (option_or (value_at volume (linked_twice id second pairs)) (value_at absolute (linked_twice id second pairs))))) (twice_other relative id second pairs (apart relative first_link refl) (apart relative second_link refl))
      ∙ ap (λ o. name_by (option_or (value_at relative pairs) (option_or o (value_at absolute (linked_twice id second pairs))))) (twice_other volume id second pairs (apart volume first_link refl) (apart volume second_link refl))
      ∙ ap (λ o. name_by (option_or (value_at relative pairs) (option_or (value_at volume pairs) o))) (twice_other absolute id second pairs (apart absolute first_link refl) (apart absolute second_link refl));
}
  where
    name_by : Option (List ℕ) → Option (List ℕ)
    name_by o = option_and_then (λ path. option_and_then name_in (text_of_units (last_component path))) o

-- ---- relinked

abbrev pub bare : List ℕ → List Pair → List Pair
bare id pairs = without absolute (without volume (without second_link (with_value first_link (braced_text lower id) pairs)))

bare_other : (k id : List ℕ) (pairs : List Pair) → k ≢ absolute → k ≢ volume → k ≢ second_link → value_at k (bare id pairs) ≡ value_at k (with_value first_link (braced_text lower id) pairs)
bare_other k id pairs a v l =
    without_other k absolute (without volume (without second_link (with_value first_link (braced_text lower id) pairs))) a
    ∙ without_other k volume (without second_link (with_value first_link (braced_text lower id) pairs)) v
    ∙ without_other k second_link (with_value first_link (braced_text lower id) pairs) l

abbrev pub path_of : List ℕ → List ℕ
path_of name = codes ".\\" ++ text_units name

-- a key that isn't the path's
relinked_other : (k id name : List ℕ) (pairs : List Pair) → k ≢ relative → value_at k (relinked id name pairs) ≡ value_at k (bare id pairs)
relinked_other k id name pairs n = elim (cases_Bool (has relative pairs)) [
  | inl t ↦
      ap (λ b. value_at k (cond b (with_value relative (path_of name) (bare id pairs)) (bare id pairs ++ record { key = relative; value = path_of name } ∷ []))) t
      ∙ value_other k relative (path_of name) (bare id pairs) n
  | inr f ↦
      ap (λ b. value_at k (cond b (with_value relative (path_of name) (bare id pairs)) (bare id pairs ++ record { key = relative; value = path_of name } ∷ []))) f
      ∙ value_appended k (bare id pairs) (record { key = relative; value = path_of name })
      ∙ ap (option_or (value_at k (bare id pairs))) (value_past k (record { key = relative; value = path_of name }) [] (false_from_ne_true (has_key k (record { key = relative; value = path_of name })) (λ e. n (sym ((bytes_eq-Decides relative k).0 e)))) ∙ value_none k)
      ∙ or_nothing (value_at k (bare id pairs))
]
  where
    or_nothing : (o : Option (List ℕ)) → option_or o None ≡ o
    or_nothing None = refl
    or_nothing (Some x) = refl

relinked_path : (id name : List ℕ) (pairs : List Pair) → value_at relative (relinked id name pairs) ≡ Some (path_of name)
relinked_path id name pairs = elim (cases_Bool (has relative pairs)) [
  | inl t ↦
      ap (λ b. value_at relative (cond b (with_value relative (path_of name) (bare id pairs)) (bare id pairs ++ record { key = relative; value = path_of name } ∷ []))) t
      ∙ value_same relative (path_of name) (bare id pairs) (ap is_some (kept) ∙ has_value relative pairs t)
  | inr f ↦
      ap (λ b. value_at relative (cond b (with_value relative (path_of name) (bare id pairs)) (bare id pairs ++ record { key = relative; value = path_of name } ∷ []))) f
      ∙ value_appended relative (bare id pairs) (record { key = relative; value = path_of name })
      ∙ ap (λ o. option_or o (value_at relative (record { key = relative; value = path_of name } ∷ []))) (kept ∙ lacks_value relative pairs f)
      ∙ value_here relative (record { key = relative; value = path_of name }) [] refl
]
  where
    kept : value_at relative (bare id pairs) ≡ value_at relative pairs
    kept = bare_other relative id pairs (apart relative absolute refl) (apart relative volume refl) (apart relative second_link refl)
        ∙ value_other relative first_link (braced_text lower id) pairs (apart relative first_link refl)

bare_second : (id : List ℕ) (pairs : List Pair) → value_at second_link (bare id pairs) ≡ None
bare_second id pairs =
    without_other second_link absolute (without volume (without second_link (with_value first_link (braced_text lower id) pairs))) (apart second_link absolute refl)
    ∙ without_other second_link volume (without second_link (with_value first_link (braced_text lower id) pairs)) (apart second_link volume refl)
    ∙ without_same second_link (with_value first_link (braced_text lower id) pairs)

pub relinked_first : (id name : List ℕ) (pairs : List Pair) → is_some (value_at first_link pairs) ≡ true → value_at first_link (relinked id name pairs) ≡ Some (braced_text lower id)
relinked_first id name pairs h =
    relinked_other first_link id name pairs (apart first_link relative refl)
    ∙ bare_other first_link id pairs (apart first_link absolute refl) (apart first_link volume refl) (apart first_link second_link refl)
    ∙ value_same first_link (braced_text lower id) pairs h

pub relinks : (id name : List ℕ) (pairs : List Pair) → is_some (value_at first_link pairs) ≡ true → IsGuid id → IsName name → IsUtf8 name → Relinks id name pairs
unfolding linkage second_linkage parent_name parent_path
relinks id name pairs h guid is_name is_text = record {
  first = ap (option_and_then linkage_id) (relinked_other first_link id name pairs (apart first_link relative refl)
      ∙ bare_other first_link id pairs (apart first_link absolute refl) (apart first_link volume refl) (apart first_link second_link refl)
      ∙ value_same first_link (braced_text lower id) pairs h) ∙ linkage_is id guid;
  alone = ap (λ o. option_and_then (λ i. cond (is_zero_id i) None (Some i)) (option_and_then linkage_id o)) (relinked_other second_link id name pairs (apart second_link relative refl) ∙ bare_second id pairs);
  named = ap (λ o. option_and_then (λ path. option_and_then name_in (text_of_units (last_component path))) (option_or o (option_or (value_at volume (relinked id name pairs)) (value_at absolute (relinked id name pairs)))))
      (relinked_path id name pairs) ∙ path_name id name guid is_name is_text;
}

pub locators_relink : LocatorsRelink
locators_relink = record { twice = links_twice; once = relinks }
