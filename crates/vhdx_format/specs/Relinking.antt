-- How a merge changes the pairs of a parent locator (profile).
use Rattle.std.specs.Prelude.{◌≡◌, ◌≤◌, ℕ, Bool, true, false, List, [], ◌∷◌, ◌++◌, Some, None, Ok, is_some, map, codes, if◌then◌else◌}
use Rattle.std.specs.List.{list_any}
use Rattle.std.specs.Str.{IsUtf8}
use Rattle.uuid.specs.Text.{braced_text, lower}
use Rattle.vx_base.specs.Fields.{IsBytes, IsGuid}
use Rattle.vx_base.specs.Names.{IsName}
use Rattle.vhdx_format.specs.declared.locator.Pair.{Pair}
use Rattle.vhdx_format.specs.Fields.{is_zero_id}
use Rattle.vhdx_format.specs.Locators.{has_key, value_at, linkage, second_linkage, parent_name, KeepRules, read_locator, locator_bytes, locator_len, longest_locator}
use Rattle.vhdx_format.specs.Texts.{text_units}

-- the pairs with another value of a key, where the key stands
abbrev pub with_value : List ℕ → List ℕ → List Pair → List Pair
with_value key value pairs = map (λ p. record { key = p.key; value = if has_key key p then value else p.value }) pairs

abbrev pub has : List ℕ → List Pair → Bool
has key pairs = list_any (has_key key) pairs

-- with a pair more, directly behind that of a key
abbrev pub with_behind : List ℕ → Pair → List Pair → List Pair
with_behind key new [] = []
with_behind key new (p ∷ pairs) = if has_key key p then p ∷ new ∷ pairs else p ∷ with_behind key new pairs

abbrev pub without : List ℕ → List Pair → List Pair
without key [] = []
without key (p ∷ pairs) = if has_key key p then without key pairs else p ∷ without key pairs

-- A source, once its merge is begun, is linked to its target by two identifiers: the first one, and a second one, whose pair
-- stands directly behind the first where there was none.
abbrev pub linked_twice : List ℕ → List ℕ → List Pair → List Pair
linked_twice id second pairs =
    let linked = with_value (codes "parent_linkage") (braced_text lower id) pairs in
    if has (codes "parent_linkage2") pairs then with_value (codes "parent_linkage2") (braced_text lower second) linked
    else with_behind (codes "parent_linkage") (record { key = codes "parent_linkage2"; value = braced_text lower second }) linked

-- A child, once its parent has left the chain, names the target: by one identifier, and by the one path of its name in the same
-- folder.
abbrev pub relinked : List ℕ → List ℕ → List Pair → List Pair
relinked id name pairs =
    let linked = with_value (codes "parent_linkage") (braced_text lower id) pairs in
    let bare = without (codes "absolute_win32_path") (without (codes "volume_path") (without (codes "parent_linkage2") linked)) in
    if has (codes "relative_path") pairs then with_value (codes "relative_path") (codes ".\\" ++ text_units name) bare
    else bare ++ record { key = codes "relative_path"; value = codes ".\\" ++ text_units name } ∷ []

-- The source is linked by both identifiers, and by the name that it was linked by.
pub record LinksTwice (id second : List ℕ) (pairs : List Pair) : Type 0 where
  pub first : linkage (linked_twice id second pairs) ≡ Some id
  pub other : second_linkage (linked_twice id second pairs) ≡ Some second
  pub named : parent_name (linked_twice id second pairs) ≡ parent_name pairs

-- The child is linked by the target's identifier alone, and by its name.
pub record Relinks (id name : List ℕ) (pairs : List Pair) : Type 0 where
  pub first : linkage (relinked id name pairs) ≡ Some id
  pub alone : second_linkage (relinked id name pairs) ≡ None
  pub named : parent_name (relinked id name pairs) ≡ Some name

-- So it is of pairs that have a linkage, as those of a locator.
pub record LocatorsRelink : Type 0 where
  pub twice : (id second : List ℕ) (pairs : List Pair) → is_some (value_at (codes "parent_linkage") pairs) ≡ true
      → IsGuid id → IsGuid second → is_zero_id second ≡ false → LinksTwice id second pairs
  pub once : (id name : List ℕ) (pairs : List Pair) → is_some (value_at (codes "parent_linkage") pairs) ≡ true
      → IsGuid id → IsName name → IsUtf8 name → Relinks id name pairs

-- And both keep a locator's rules.
pub record LocatorsKeepRules : Type 0 where
  pub twice : (id second : List ℕ) (pairs : List Pair) → KeepRules pairs → IsGuid id → IsGuid second → is_zero_id second ≡ false
      → KeepRules (linked_twice id second pairs)
  pub once : (id name : List ℕ) (pairs : List Pair) → KeepRules pairs → IsGuid id → IsName name → IsUtf8 name → KeepRules (relinked id name pairs)

-- The locator that is written of these pairs, if they aren't too long for one, is read as these pairs.
abbrev pub IsReadBack : List Pair → Type 0
IsReadBack pairs = locator_len pairs ≤ longest_locator → read_locator (locator_bytes pairs) ≡ Ok pairs

-- So it is of the changed pairs of a locator that was read.
pub record RelinkedAreRead : Type 0 where
  pub twice : (item id second : List ℕ) (pairs : List Pair) → IsBytes item → read_locator item ≡ Ok pairs
      → IsGuid id → IsGuid second → is_zero_id second ≡ false → IsReadBack (linked_twice id second pairs)
  pub once : (item id name : List ℕ) (pairs : List Pair) → IsBytes item → read_locator item ≡ Ok pairs
      → IsGuid id → IsName name → IsUtf8 name → IsReadBack (relinked id name pairs)
