-- What a merge makes of one pair of a locator (profile).
use Rattle.std.specs.Prelude.{ℕ, Bool, List, [], ◌∷◌, ◌++◌, ◌&&◌, ◌||◌, if◌then◌else◌, codes}
use Rattle.uuid.specs.Text.{braced_text, lower}
use Rattle.vhdx_format.specs.declared.locator.Pair.{Pair}
use Rattle.vhdx_format.specs.Locators.{has_key}
use Rattle.vhdx_format.specs.Texts.{text_units}

-- the pair of an identifier, as of a second linkage, and that of the path to a file in the same folder
abbrev pub id_pair : List ℕ → List ℕ → Pair
id_pair key id = record { key = key; value = braced_text lower id }

abbrev pub second_pair : List ℕ → Pair
second_pair = id_pair (codes "parent_linkage2")

abbrev pub path_pair : List ℕ → Pair
path_pair name = record { key = codes "relative_path"; value = codes ".\\" ++ text_units name }

-- a pair whose value is changed where it is one of the linkages
abbrev pub linked_value : List ℕ → List ℕ → Pair → List ℕ
linked_value found new pair =
    if has_key (codes "parent_linkage2") pair then braced_text lower new
    else if has_key (codes "parent_linkage") pair then braced_text lower found
    else pair.value

abbrev pub linked_pair : List ℕ → List ℕ → Pair → Pair
linked_pair found new pair = record { key = pair.key; value = linked_value found new pair }

-- the second linkage, where it is missing and this pair is the first one
abbrev pub added_behind : List ℕ → Bool → Pair → List Pair
added_behind new missing pair = if missing && has_key (codes "parent_linkage") pair then second_pair new ∷ [] else []

-- the keys that a relinked child doesn't keep
abbrev pub is_dropped : Pair → Bool
is_dropped pair = has_key (codes "parent_linkage2") pair || has_key (codes "volume_path") pair || has_key (codes "absolute_win32_path") pair

-- a pair of a child that gets another parent
abbrev pub relinked_value : List ℕ → List ℕ → Pair → List ℕ
relinked_value id name pair =
    if has_key (codes "relative_path") pair then codes ".\\" ++ text_units name
    else if has_key (codes "parent_linkage") pair then braced_text lower id
    else pair.value

abbrev pub relinked_for : List ℕ → List ℕ → Pair → List Pair
relinked_for id name pair = if is_dropped pair then [] else record { key = pair.key; value = relinked_value id name pair } ∷ []
