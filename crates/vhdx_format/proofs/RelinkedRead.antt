-- The changed pairs of a locator that was read are read back.
use Rattle.std.proofs.Common.{◌≡◌, ◌≤◌, ◌<◌, ◌+◌, ◌*◌, ◌^◌, ◌%◌, ◌==◌, ◌&&◌, nat_lt, nat_le, ℕ, zero, suc, Bool, true, false, cond, List, [], ◌∷◌, ◌++◌, length, take, drop, map, Option, Some, None, Ok, is_some, is_none, slice_index, refl, sym, subst, arith, inl, codes}
use Rattle.std.specs.Prelude.{All}
use Rattle.std.specs.List.{AllByRecursion}
use Rattle.std.proofs.lemmas.List.Elements.{All-from_recursion}
use Rattle.std.specs.Str.{IsUtf8}
use Rattle.std.specs.Char.Utf16.{has_unpaired_surrogate}
use Rattle.std.proofs.lemmas.List.{length-take}
use Rattle.uuid.specs.Text.{braced_text, lower}
use Rattle.uuid.proofs.TextLemmas.{braced_ascii}
use Rattle.vx_base.specs.Fields.{number_at, u16_at, u32_at, bytes_at, IsBytes}
use Rattle.vx_base.specs.Names.{IsName}
use Rattle.vx_base.proofs.ByteLists.{bytes-take, bytes-drop}
use Rattle.vhdx_format.specs.declared.locator.Pair.{Pair}
use Rattle.vhdx_format.specs.Rules.{BadLocator, NoParentName}
use Rattle.vhdx_format.specs.Texts.{units_of, text_of, text_of_units}
use Rattle.vhdx_format.specs.Locators.{is_no_locator, text_at, both, pair_at, read_pairs_from, read_pairs, pairs_of, bad_entries, is_bad_pair, has_key, value_at, parent_name, locator_faults, unless_any, read_locator, IsWritableText, IsWritable, KeepRules}
use Rattle.vhdx_format.specs.Relinking.{with_value, has, with_behind, without, linked_twice, relinked, IsReadBack, RelinkedAreRead}
use Rattle.vhdx_format.proofs.WrittenTexts.{AreUnits}
use Rattle.vhdx_format.proofs.WrittenLocators.{locators_are_read}
use Rattle.vhdx_format.proofs.ChildLocators.{all_units, ascii-literal, ascii_writable, length-braced, path_writable}
use Rattle.vhdx_format.proofs.RelinkedValues.{first_link, second_link, relative, volume, absolute, path_of, bare}
use Rattle.vhdx_format.proofs.RelinkedRules.{twice_keeps, relinked_keeps}

-- ---- texts that are read

rest_bytes : (x : ℕ) (xs : List ℕ) → IsBytes (x ∷ xs) → IsBytes xs
rest_bytes x xs b = record { each = λ i. b.each (suc i) }

units_small : (bytes : List ℕ) → IsBytes bytes → AreUnits (units_of bytes)
unfolding units_of
units_small [] b = tt
units_small (low ∷ []) b = tt
units_small (low ∷ high ∷ bytes) b =
    let first : low < 256 = b.each 0 in
    let second : high < 256 = b.each 1 in
    (omega (arith, first, second), units_small bytes (rest_bytes high bytes (rest_bytes low (high ∷ bytes) b)))

units_few : (bytes : List ℕ) → 2 * length (units_of bytes) ≤ length bytes
unfolding units_of
units_few [] = omega arith
units_few (low ∷ []) = omega arith
units_few (low ∷ high ∷ bytes) = omega (arith, units_few bytes)

u16_small : (bytes : List ℕ) (at : ℕ) → IsBytes bytes → u16_at bytes at < 2 ^ 16
unfolding number_at
u16_small bytes at b =
    let part : IsBytes (drop at bytes) = bytes-drop at b in
    let first : slice_index (drop at bytes) 0 < 256 = part.each 0 in
    let second : slice_index (drop at bytes) 1 < 256 = part.each 1 in
    omega (arith, first, second)

spelled : (bytes : List ℕ) → is_some (text_of bytes) ≡ true → has_unpaired_surrogate (units_of bytes) ≡ false
unfolding text_of_units
spelled bytes h = by_len _ (length bytes % 2 == 0) (has_unpaired_surrogate (units_of bytes)) h
  where
    by_len : (x : List ℕ) (even unpaired : Bool) → is_some (cond even (cond unpaired None (Some x)) None) ≡ true → unpaired ≡ false
    by_len x even false e = refl
    by_len x true true e = cc
    by_len x false true e = cc

part_writable : (item : List ℕ) (at len : ℕ) → IsBytes item → len < 2 ^ 16 → is_some (text_of (bytes_at item at len)) ≡ true → IsWritableText (units_of (bytes_at item at len))
unfolding bytes_at
part_writable item at len b few h = record {
  each = all_units (units_of (take len (drop at item))) (units_small (take len (drop at item)) (bytes-take len (bytes-drop at b)));
  paired = spelled (take len (drop at item)) h;
  len = omega (arith, units_few (take len (drop at item)), length-take len (drop at item), few);
}

data IsText : Option (List ℕ) → Type 0 where
  no_text : IsText None
  some_text : {units : List ℕ} → IsWritableText units → IsText (Some units)

text_there : (item : List ℕ) (at len : ℕ) → IsBytes item → len < 2 ^ 16 → IsText (text_at item at len)
unfolding text_at
text_there item at len b few = by_test (nat_le (at + len) (length item)) (is_some (text_of (bytes_at item at len))) refl
  where
    by_test : (inside spells : Bool) → is_some (text_of (bytes_at item at len)) ≡ spells → IsText (cond (inside && spells) (Some (units_of (bytes_at item at len))) None)
    by_test true true e = some_text (part_writable item at len b few e)
    by_test true false e = no_text
    by_test false spells e = no_text

-- ---- pairs that are read

abbrev AreTexts : List Pair → Type 0
AreTexts [] = Unit {0}
AreTexts (p ∷ pairs) = (IsWritableText p.key × IsWritableText p.value) × AreTexts pairs

data IsPair : Option Pair → Type 0 where
  no_pair : IsPair None
  some_pair : {p : Pair} → IsWritableText p.key → IsWritableText p.value → IsPair (Some p)

pair_there : (item : List ℕ) (i : ℕ) → IsBytes item → IsPair (pair_at item i)
unfolding pair_at
pair_there item i b = by_test (nat_lt (length item) (32 + 12 * i))
    (text_there item (u32_at item (20 + 12 * i)) (u16_at item (28 + 12 * i)) b (u16_small item (28 + 12 * i) b))
    (text_there item (u32_at item (24 + 12 * i)) (u16_at item (30 + 12 * i)) b (u16_small item (30 + 12 * i) b))
  where
    by_texts : {key value : Option (List ℕ)} → IsText key → IsText value → IsPair (both key value)
    by_texts no_text value = no_pair
    by_texts (some_text k) no_text = no_pair
    by_texts (some_text k) (some_text v) = some_pair k v

    by_test : {key value : Option (List ℕ)} (outside : Bool) → IsText key → IsText value → IsPair (cond outside None (both key value))
    by_test true k v = no_pair
    by_test false k v = by_texts k v

pairs_there : (item : List ℕ) (i n : ℕ) → IsBytes item → AreTexts (pairs_of (read_pairs_from item i n))
unfolding read_pairs_from pairs_of
pairs_there item i zero b = tt
pairs_there item i (suc n) b = with_rest (pair_there item i b) (pairs_there item (i + 1) n b)
  where
    with_rest : {o : Option Pair} → IsPair o → AreTexts (pairs_of (read_pairs_from item (i + 1) n)) → AreTexts (pairs_of (o ∷ read_pairs_from item (i + 1) n))
    with_rest no_pair rest = rest
    with_rest (some_pair k v) rest = ((k, v), rest)

-- ---- a locator that is read keeps the rules

record AreGood (item : List ℕ) (pairs : List Pair) : Type 0 where
  are : pairs ≡ pairs_of (read_pairs item)
  bads : bad_entries pairs 0 (read_pairs item) ≡ []
  linked : is_none (value_at (codes "parent_linkage") pairs) ≡ false
  named : is_none (parent_name pairs) ≡ false

good_read : (item : List ℕ) (pairs : List Pair) → read_locator item ≡ Ok pairs → AreGood item pairs
unfolding read_locator locator_faults
good_read item pairs h =
    by_tests (is_no_locator item) (bad_entries found 0 (read_pairs item)) (is_none (value_at (codes "parent_linkage") found)) (is_none (parent_name found)) refl refl refl h
  where
    found : List Pair
    found = pairs_of (read_pairs item)

    by_tests : (no : Bool) (bads : List ℕ) (unlinked unnamed : Bool) → bad_entries found 0 (read_pairs item) ≡ bads → is_none (value_at (codes "parent_linkage") found) ≡ unlinked
        → is_none (parent_name found) ≡ unnamed
        → unless_any (cond no (BadLocator 0 ∷ []) (map BadLocator bads ++ cond unlinked (BadLocator (u16_at item 18) ∷ []) [] ++ cond unnamed (NoParentName ∷ []) [])) found ≡ Ok pairs
        → AreGood item pairs
    by_tests true bads unlinked unnamed eb el en h = cc
    by_tests false (bad ∷ bads) unlinked unnamed eb el en h = cc
    by_tests false [] true unnamed eb el en h = cc
    by_tests false [] false true eb el en h = cc
    by_tests false [] false false eb el en h =
        let same : found ≡ pairs = cc in
        subst (AreGood item) same (record { are = refl; bads = eb; linked = el; named = en })

each_good : (all : List Pair) (i : ℕ) (entries : List (Option Pair)) → bad_entries all i entries ≡ [] → AllByRecursion (λ pair. is_bad_pair all pair ≡ false) (pairs_of entries)
unfolding bad_entries pairs_of
each_good all i [] h = tt
each_good all i (None ∷ entries) h = cc
each_good all i (Some pair ∷ entries) h = by_test (is_bad_pair all pair) refl h (each_good all (i + 1) entries)
  where
    by_test : (bad : Bool) → is_bad_pair all pair ≡ bad → cond bad (i ∷ bad_entries all (i + 1) entries) (bad_entries all (i + 1) entries) ≡ []
        → (bad_entries all (i + 1) entries ≡ [] → AllByRecursion (λ pair. is_bad_pair all pair ≡ false) (pairs_of entries))
        → (is_bad_pair all pair ≡ false) × AllByRecursion (λ pair. is_bad_pair all pair ≡ false) (pairs_of entries)
    by_test true e h rest = cc
    by_test false e h rest = (e, rest h)

is_there : {A : Type 0} (o : Option A) → is_none o ≡ false → is_some o ≡ true
is_there None h = cc
is_there (Some x) h = refl

pub locators_keep : (item : List ℕ) (pairs : List Pair) → read_locator item ≡ Ok pairs → KeepRules pairs
locators_keep item pairs h =
    let good = good_read item pairs h in
    let each : AllByRecursion (λ pair. is_bad_pair pairs pair ≡ false) pairs =
    subst (AllByRecursion (λ pair. is_bad_pair pairs pair ≡ false)) (sym good.are) (each_good pairs 0 (read_pairs item) good.bads) in
    record {
      each = All-from_recursion (λ pair. is_bad_pair pairs pair ≡ false) pairs each;
      linked = is_there (value_at (codes "parent_linkage") pairs) good.linked;
      named = is_there (parent_name pairs) good.named;
    }

locators_are_texts : (item : List ℕ) (pairs : List Pair) → IsBytes item → read_locator item ≡ Ok pairs → AreTexts pairs
locators_are_texts item pairs b h = subst AreTexts (sym (good_read item pairs h).are) (pairs_there item 0 (u16_at item 18) b)

-- ---- changes keep them

value_texts : (key v : List ℕ) (pairs : List Pair) → IsWritableText v → AreTexts pairs → AreTexts (with_value key v pairs)
value_texts key v [] w a = tt
value_texts key v (p ∷ pairs) w a = ((a.0.0, chosen (has_key key p)), value_texts key v pairs w a.1)
  where
    chosen : (b : Bool) → IsWritableText (cond b v p.value)
    chosen true = w
    chosen false = a.0.1

without_texts : (key : List ℕ) (pairs : List Pair) → AreTexts pairs → AreTexts (without key pairs)
without_texts key [] a = tt
without_texts key (p ∷ pairs) a = chosen (has_key key p) (without_texts key pairs a.1)
  where
    chosen : (b : Bool) → AreTexts (without key pairs) → AreTexts (cond b (without key pairs) (p ∷ without key pairs))
    chosen true rest = rest
    chosen false rest = (a.0, rest)

behind_texts : (key : List ℕ) (new : Pair) (pairs : List Pair) → IsWritableText new.key → IsWritableText new.value → AreTexts pairs → AreTexts (with_behind key new pairs)
behind_texts key new [] k v a = tt
behind_texts key new (p ∷ pairs) k v a = chosen (has_key key p) (behind_texts key new pairs k v a.1)
  where
    chosen : (b : Bool) → AreTexts (with_behind key new pairs) → AreTexts (cond b (p ∷ new ∷ pairs) (p ∷ with_behind key new pairs))
    chosen true rest = (a.0, ((k, v), a.1))
    chosen false rest = (a.0, rest)

appended_texts : (pairs : List Pair) (new : Pair) → IsWritableText new.key → IsWritableText new.value → AreTexts pairs → AreTexts (pairs ++ new ∷ [])
appended_texts [] new k v a = ((k, v), tt)
appended_texts (p ∷ pairs) new k v a = (a.0, appended_texts pairs new k v a.1)

id_text : (id : List ℕ) → IsWritableText (braced_text lower id)
id_text id = ascii_writable (braced_text lower id) (braced_ascii lower id (inl refl)) (omega (arith, length-braced id))

twice_texts : (id second : List ℕ) (pairs : List Pair) → AreTexts pairs → AreTexts (linked_twice id second pairs)
twice_texts id second pairs a = chosen (has second_link pairs)
  where
    links : List Pair
    links = with_value first_link (braced_text lower id) pairs

    are : AreTexts (with_value first_link (braced_text lower id) pairs)
    are = value_texts first_link (braced_text lower id) pairs (id_text id) a

    chosen : (b : Bool) → AreTexts (cond b (with_value second_link (braced_text lower second) links) (with_behind first_link (record { key = second_link; value = braced_text lower second }) links))
    chosen true = value_texts second_link (braced_text lower second) links (id_text second) are
    chosen false = behind_texts first_link (record { key = second_link; value = braced_text lower second }) links (ascii_writable second_link (ascii-literal second_link refl) (omega arith)) (id_text second) are

relinked_texts : (id name : List ℕ) (pairs : List Pair) → IsName name → IsUtf8 name → AreTexts pairs → AreTexts (relinked id name pairs)
relinked_texts id name pairs n u a = chosen (has relative pairs)
  where
    are : AreTexts (bare id pairs)
    are = without_texts absolute (without volume (without second_link (with_value first_link (braced_text lower id) pairs)))
        (without_texts volume (without second_link (with_value first_link (braced_text lower id) pairs))
        (without_texts second_link (with_value first_link (braced_text lower id) pairs) (value_texts first_link (braced_text lower id) pairs (id_text id) a)))

    chosen : (b : Bool) → AreTexts (cond b (with_value relative (path_of name) (bare id pairs)) (bare id pairs ++ record { key = relative; value = path_of name } ∷ []))
    chosen true = value_texts relative (path_of name) (bare id pairs) (path_writable name n u) are
    chosen false = appended_texts (bare id pairs) (record { key = relative; value = path_of name }) (ascii_writable relative (ascii-literal relative refl) (omega arith)) (path_writable name n u) are

-- ---- they are read back

all_keys : (pairs : List Pair) → AreTexts pairs → All (λ pair. IsWritableText pair.key) pairs
all_keys [] a k d l = absurd (omega (arith, l))
all_keys (p ∷ pairs) a zero d l = a.0.0
all_keys (p ∷ pairs) a (suc k) d l = all_keys pairs a.1 k d (omega (arith, l))

all_values : (pairs : List Pair) → AreTexts pairs → All (λ pair. IsWritableText pair.value) pairs
all_values [] a k d l = absurd (omega (arith, l))
all_values (p ∷ pairs) a zero d l = a.0.1
all_values (p ∷ pairs) a (suc k) d l = all_values pairs a.1 k d (omega (arith, l))

read_back : (pairs : List Pair) → AreTexts pairs → KeepRules pairs → IsReadBack pairs
read_back pairs a keep fits =
    let writable : IsWritable pairs = record { keys = all_keys pairs a; values = all_values pairs a; count = omega (arith, fits); len = omega (arith, fits) } in
    (locators_are_read pairs writable).locator_is keep

pub relinked_are_read : RelinkedAreRead
relinked_are_read = record {
  twice = λ item id second pairs b h guid other nonzero.
      read_back (linked_twice id second pairs) (twice_texts id second pairs (locators_are_texts item pairs b h)) (twice_keeps id second pairs (locators_keep item pairs h) guid other nonzero);
  once = λ item id name pairs b h guid n u.
      read_back (relinked id name pairs) (relinked_texts id name pairs n u (locators_are_texts item pairs b h)) (relinked_keeps id name pairs (locators_keep item pairs h) guid n u);
}
