-- What a merge makes of the pairs of a locator, one after another.
use Rattle.std.proofs.Common.{◌≡◌, ◌≤◌, ◌<◌, ◌+◌, ◌&&◌, ◌||◌, not, ℕ, suc, Bool, true, false, cond, List, [], ◌∷◌, ◌++◌, length, drop, get_or, refl, ap, sym, ◌∙◌, add-one, drop-cons}
use Rattle.std.specs.Prelude.{Option, Some, None, is_some, option_map}
use Rattle.std.specs.List.{find}
use Rattle.std.proofs.lemmas.Bool.{or_parts}
use Rattle.std.proofs.lemmas.List.{drop_all, append-nil, append_assoc}
use Rattle.uuid.specs.Text.{braced_text, lower}
use Rattle.vhdx_format.specs.declared.locator.Pair.{Pair}
use Rattle.vhdx_format.specs.Locators.{has_key, value_at}
use Rattle.vhdx_format.specs.Relinking.{with_value, has, with_behind, without, linked_twice, relinked}
use Rattle.vhdx_format.proofs.RelinkedValues.{first_link, second_link, relative, volume, absolute, path_of, has_changed, bare}
use Rattle.vhdx_format.proofs.RelinkedRules.{without_has}
use Rattle.parent_locator.specs.LinkEdits.{second_pair, path_pair, linked_pair, added_behind, relinked_value, relinked_for}

-- what the tests of a key say of the list
has_found : (k : List ℕ) (pairs : List Pair) → is_some (value_at k pairs) ≡ has k pairs
unfolding value_at
has_found k [] = refl
has_found k (p ∷ pairs) = by_test (has_key k p) (has_found k pairs)
  where
    by_test : (b : Bool) → is_some (option_map (λ (q : Pair). q.value) (find (has_key k) pairs)) ≡ has k pairs
        → is_some (option_map (λ (q : Pair). q.value) (cond b (Some p) (find (has_key k) pairs))) ≡ (b || has k pairs)
    by_test true h = refl
    by_test false h = h

-- a key that stands nowhere has no value to change
none_changed : (k v : List ℕ) (pairs : List Pair) → has k pairs ≡ false → with_value k v pairs ≡ pairs
none_changed k v [] h = refl
none_changed k v (p ∷ pairs) h =
    let parts = or_parts (has_key k p) (has k pairs) h in
    ap (λ b. record { key = p.key; value = cond b v p.value } ∷ with_value k v pairs) parts.0 ∙ ap (λ (ps : List Pair). p ∷ ps) (none_changed k v pairs parts.1)

-- ---- both linkages

pub both_changed : List ℕ → List ℕ → List Pair → List Pair
both_changed found new pairs = with_value second_link (braced_text lower new) (with_value first_link (braced_text lower found) pairs)

-- what stands for the pairs that are left, where the second linkage is missing or isn't
pub linked_rest : List ℕ → List ℕ → Bool → List Pair → List Pair
linked_rest found new missing pairs =
    cond missing (with_behind first_link (second_pair new) (both_changed found new pairs)) (both_changed found new pairs)

by_tests : (new q : Pair) (rest behind : List Pair) (missing first : Bool)
    → cond missing (cond first (q ∷ new ∷ rest) (q ∷ behind)) (q ∷ rest) ≡ (q ∷ cond (missing && first) (new ∷ []) []) ++ cond (missing && not first) behind rest
by_tests new q rest behind true true = refl
by_tests new q rest behind true false = refl
by_tests new q rest behind false first = refl

linked_next : (found new : List ℕ) (missing : Bool) (p : Pair) (pairs : List Pair)
    → linked_rest found new missing (p ∷ pairs)
    ≡ (linked_pair found new p ∷ added_behind new missing p) ++ linked_rest found new (missing && not (has_key first_link p)) pairs
unfolding linked_rest both_changed
linked_next found new missing p pairs =
    by_tests (second_pair new) (linked_pair found new p) (both_changed found new pairs) (with_behind first_link (second_pair new) (both_changed found new pairs)) missing (has_key first_link p)

next_linked : (found new : List ℕ) (missing : Bool) (pairs : List Pair) (i : ℕ) (d : Pair) → i < length pairs
    → linked_rest found new missing (drop i pairs)
    ≡ (linked_pair found new (get_or pairs i d) ∷ added_behind new missing (get_or pairs i d))
    ++ linked_rest found new (missing && not (has_key first_link (get_or pairs i d))) (drop (i + 1) pairs)
next_linked found new missing pairs i d h =
    rw (add-one, drop-cons pairs i d) (linked_next found new missing (get_or pairs i d) (drop (suc i) pairs))

-- the pairs so far, and what stands for those that are left
pub step_linked : (found new : List ℕ) (missing later : Bool) (out next pairs all : List Pair) (i : ℕ) (p : Pair) → i < length pairs → p ≡ get_or pairs i p
    → next ≡ out ++ (linked_pair found new p ∷ added_behind new missing p) → later ≡ (missing && not (has_key first_link p))
    → out ++ linked_rest found new missing (drop i pairs) ≡ all → next ++ linked_rest found new later (drop (i + 1) pairs) ≡ all
step_linked found new missing later out next pairs all i p l e n m h =
    let step : linked_rest found new missing (drop i pairs) ≡ (linked_pair found new p ∷ added_behind new missing p) ++ linked_rest found new (missing && not (has_key first_link p)) (drop (i + 1) pairs) =
    next_linked found new missing pairs i p l
    ∙ ap (λ (q : Pair). (linked_pair found new q ∷ added_behind new missing q) ++ linked_rest found new (missing && not (has_key first_link q)) (drop (i + 1) pairs)) (sym e) in
    ap (λ (ps : List Pair). ps ++ linked_rest found new later (drop (i + 1) pairs)) n
    ∙ ap (λ (b : Bool). (out ++ (linked_pair found new p ∷ added_behind new missing p)) ++ linked_rest found new b (drop (i + 1) pairs)) m
    ∙ append_assoc out (linked_pair found new p ∷ added_behind new missing p) (linked_rest found new (missing && not (has_key first_link p)) (drop (i + 1) pairs))
    ∙ ap (λ (ps : List Pair). out ++ ps) (sym step) ∙ h

pub none_linked : (found new : List ℕ) (missing : Bool) (out pairs all : List Pair) (i : ℕ) → length pairs ≤ i → out ++ linked_rest found new missing (drop i pairs) ≡ all → out ≡ all
unfolding linked_rest both_changed
none_linked found new missing out pairs all i l h =
    sym (append-nil out) ∙ ap (λ (ps : List Pair). out ++ ps) (sym (nothing missing) ∙ sym (ap (linked_rest found new missing) (drop_all i pairs l))) ∙ h
  where
    nothing : (b : Bool) → cond {A = List Pair} b [] [] ≡ []
    nothing true = refl
    nothing false = refl

-- all pairs, where the second linkage is missing just if it is nowhere
pub all_linked : (found new : List ℕ) (missing : Bool) (pairs : List Pair) → is_some (value_at second_link pairs) ≡ not missing → linked_rest found new missing pairs ≡ linked_twice found new pairs
unfolding linked_rest both_changed
all_linked found new missing pairs h = by_test missing (sym (has_found second_link pairs) ∙ h)
  where
    changed : List Pair
    changed = with_value first_link (braced_text lower found) pairs

    by_test : (b : Bool) → has second_link pairs ≡ not b
        → cond b (with_behind first_link (second_pair new) (with_value second_link (braced_text lower new) changed)) (with_value second_link (braced_text lower new) changed)
        ≡ cond (has second_link pairs) (with_value second_link (braced_text lower new) changed) (with_behind first_link (second_pair new) changed)
    by_test false e = sym (ap (λ (b : Bool). cond b (with_value second_link (braced_text lower new) changed) (with_behind first_link (second_pair new) changed)) e)
    by_test true e =
        ap (λ (ps : List Pair). with_behind first_link (second_pair new) ps) (none_changed second_link (braced_text lower new) changed (has_changed second_link first_link (braced_text lower found) pairs ∙ e))
        ∙ sym (ap (λ (b : Bool). cond b (with_value second_link (braced_text lower new) changed) (with_behind first_link (second_pair new) changed)) e)

-- the second linkage, where it is added
pub second_added : (new : List ℕ) (missing : Bool) (p : Pair) → missing ≡ true → has_key first_link p ≡ true → added_behind new missing p ≡ second_pair new ∷ []
second_added new missing p m h = rw (m, h) refl

-- ---- relinked

-- what a relinked child keeps of the pairs that are left
pub kept_rest : List ℕ → List ℕ → List Pair → List Pair
kept_rest id name pairs = with_value relative (path_of name) (bare id pairs)

kept_next : (id name : List ℕ) (p : Pair) (pairs : List Pair) → kept_rest id name (p ∷ pairs) ≡ relinked_for id name p ++ kept_rest id name pairs
unfolding kept_rest
kept_next id name p pairs = by_keys (has_key second_link p) (has_key volume p) (has_key absolute p) refl refl refl
  where
    q : Pair
    q = record { key = p.key; value = cond (has_key first_link p) (braced_text lower id) p.value }

    links : List Pair
    links = with_value first_link (braced_text lower id) pairs

    by_keys : (a b c : Bool) → has_key second_link p ≡ a → has_key volume p ≡ b → has_key absolute p ≡ c
        → with_value relative (path_of name) (without absolute (without volume (without second_link (q ∷ links)))) ≡ cond (a || b || c) [] (record { key = p.key; value = relinked_value id name p } ∷ []) ++ with_value relative (path_of name) (bare id pairs)
    by_keys true b c ea eb ec = rw ea refl
    by_keys false true c ea eb ec = rw (ea, eb) refl
    by_keys false false true ea eb ec = rw (ea, eb, ec) refl
    by_keys false false false ea eb ec = rw (ea, eb, ec) refl

next_kept : (id name : List ℕ) (pairs : List Pair) (i : ℕ) (d : Pair) → i < length pairs
    → kept_rest id name (drop i pairs) ≡ relinked_for id name (get_or pairs i d) ++ kept_rest id name (drop (i + 1) pairs)
next_kept id name pairs i d h = rw (add-one, drop-cons pairs i d) (kept_next id name (get_or pairs i d) (drop (suc i) pairs))

pub step_kept : (id name : List ℕ) (out next pairs all : List Pair) (i : ℕ) (p : Pair) → i < length pairs → p ≡ get_or pairs i p → next ≡ out ++ relinked_for id name p
    → out ++ kept_rest id name (drop i pairs) ≡ all → next ++ kept_rest id name (drop (i + 1) pairs) ≡ all
step_kept id name out next pairs all i p l e n h =
    let step : kept_rest id name (drop i pairs) ≡ relinked_for id name p ++ kept_rest id name (drop (i + 1) pairs) =
    next_kept id name pairs i p l ∙ ap (λ (q : Pair). relinked_for id name q ++ kept_rest id name (drop (i + 1) pairs)) (sym e) in
    ap (λ (ps : List Pair). ps ++ kept_rest id name (drop (i + 1) pairs)) n
    ∙ append_assoc out (relinked_for id name p) (kept_rest id name (drop (i + 1) pairs)) ∙ ap (λ (ps : List Pair). out ++ ps) (sym step) ∙ h

pub none_kept : (id name : List ℕ) (out pairs all : List Pair) (i : ℕ) → length pairs ≤ i → out ++ kept_rest id name (drop i pairs) ≡ all → out ≡ all
unfolding kept_rest
none_kept id name out pairs all i l h =
    sym (append-nil out) ∙ ap (λ (ps : List Pair). out ++ ps) (sym (ap (kept_rest id name) (drop_all i pairs l))) ∙ h

-- what is kept of all pairs, and the path where it is nowhere
bare_has : (id : List ℕ) (pairs : List Pair) → has relative pairs ≡ false → has relative (bare id pairs) ≡ false
bare_has id pairs h =
    without_has relative absolute (without volume (without second_link (with_value first_link (braced_text lower id) pairs)))
    (without_has relative volume (without second_link (with_value first_link (braced_text lower id) pairs))
    (without_has relative second_link (with_value first_link (braced_text lower id) pairs) (has_changed relative first_link (braced_text lower id) pairs ∙ h)))

pub kept_there : (id name : List ℕ) (pairs : List Pair) → is_some (value_at relative pairs) ≡ true → kept_rest id name pairs ≡ relinked id name pairs
unfolding kept_rest
kept_there id name pairs h =
    sym (ap (λ (b : Bool). cond b (with_value relative (path_of name) (bare id pairs)) (bare id pairs ++ path_pair name ∷ [])) (sym (has_found relative pairs) ∙ h))

pub kept_added : (id name : List ℕ) (pairs : List Pair) → is_some (value_at relative pairs) ≡ false → kept_rest id name pairs ++ path_pair name ∷ [] ≡ relinked id name pairs
unfolding kept_rest
kept_added id name pairs h =
    let none : has relative pairs ≡ false = sym (has_found relative pairs) ∙ h in
    ap (λ (ps : List Pair). ps ++ path_pair name ∷ []) (none_changed relative (path_of name) (bare id pairs) (bare_has id pairs none))
    ∙ sym (ap (λ (b : Bool). cond b (with_value relative (path_of name) (bare id pairs)) (bare id pairs ++ path_pair name ∷ [])) none)

pub some_mapped : {A B : Type 0} (g : A → B) (o : Option A) → is_some (option_map g o) ≡ is_some o
some_mapped g None = refl
some_mapped g (Some x) = refl
