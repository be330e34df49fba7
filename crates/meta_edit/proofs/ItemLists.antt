-- Items of which one has another value, and what they say.
use Rattle.std.proofs.Common.{◌≡◌, ℕ, ◌==◌, Bool, true, false, cond, if◌then◌else◌, List, [], ◌∷◌, ◌++◌, map, Option, Some, None, find, length, is_none, refl, sym, ap, ◌∙◌, inl, inr}
use Rattle.std.specs.Prelude.{Result, Ok, option_and_then, unwrap_or}
use Rattle.std.specs.Str.{bytes_eq}
use Rattle.std.proofs.lemmas.Slice.Eq.{bytes_eq-Decides}
use Rattle.vhdx_format.specs.declared.TheConstants.{FILE_PARAMETERS, DISK_SIZE, DISK_ID, LOGICAL_SECTOR, PHYSICAL_SECTOR, PARENT_LOCATOR, RETIRED}
use Rattle.vhdx_format.specs.declared.metadata.Item.{Item}
use Rattle.vhdx_format.specs.declared.metadata.Metadata.{Metadata}
use Rattle.vhdx_format.specs.declared.metadata.MetadataEntry.{MetadataEntry}
use Rattle.vhdx_format.specs.Rules.{BrokenRule, MissingItem, BadItem}
use Rattle.vhdx_format.specs.MetadataTables.{has_parent, is_bad_item, is_bad_size, is_known_item, is_metadata_table, is_bad_entry, is_of, is_unknown_required_item, item_of, item_value, known_items, metadata_entries, metadata_of, metadata_table, missing_item, needed_items, read_entries, read_items, read_metadata, size_in, flags_in, retired_in}
use Rattle.vhdx_format.specs.Fields.{has_flag}
use Rattle.meta_edit.proofs.Sound.{unless_some_ok}
use Rattle.metadata_table.proofs.Places.{known-next, unknown-next, known-none}
use Rattle.meta_edit.specs.Edits.{id_of}
use Rattle.meta_edit.specs.declared.ItemKind.{ItemKind}
use Rattle.meta_edit.specs.declared.ItemKind.TheVariants.{Locator, Retired}
use Rattle.meta_edit.proofs.Slots.{placed_at}
use Rattle.meta_edit.proofs.Listing.{In, found_none, none_found, in_map}

-- an item with the value, where it is the one
abbrev pub given : List ℕ → List ℕ → Item → Item
given id v item = if is_of id item then record { id = item.id; value = v } else item

same_known : (index at len : ℕ) (e : MetadataEntry) (a : Bool) → is_known_item (cond a (record e { at = at; len = len }) e) ≡ is_known_item e
same_known index at len e true = refl
same_known index at len e false = refl

-- the known items of a table with an entry's new place
pub known_placed : (r new : List ℕ) (index at len : ℕ) (id v : List ℕ) (xs : List MetadataEntry)
    → ((e : MetadataEntry) → In e xs → is_known_item e ≡ true → item_of new (placed_at index at len e) ≡ given id v (item_of r e))
    → known_items new (map (placed_at index at len) xs) ≡ map (given id v) (known_items r xs)
unfolding In
known_placed r new index at len id v [] h = known-none new ∙ ap (map (given id v)) (sym (known-none r))
known_placed r new index at len id v (x ∷ xs) h = go (is_known_item x) refl (known_placed r new index at len id v xs (λ e i k. h e (inr i) k))
  where
    f : MetadataEntry → MetadataEntry
    f = placed_at index at len

    go : (b : Bool) → is_known_item x ≡ b → known_items new (map (placed_at index at len) xs) ≡ map (given id v) (known_items r xs)
        → known_items new (placed_at index at len x ∷ map (placed_at index at len) xs) ≡ map (given id v) (known_items r (x ∷ xs))
    go true e rest =
        known-next new (placed_at index at len x) (map (placed_at index at len) xs) (same_known index at len x (x.index == index) ∙ e)
        ∙ ap (λ (z : Item). z ∷ known_items new (map (placed_at index at len) xs)) (h x (inl refl) e)
        ∙ ap (λ (z : List Item). given id v (item_of r x) ∷ z) rest
        ∙ ap (map (given id v)) (sym (known-next r x xs e))
    go false e rest =
        unknown-next new (placed_at index at len x) (map (placed_at index at len) xs) (same_known index at len x (x.index == index) ∙ e)
        ∙ rest ∙ ap (map (given id v)) (sym (unknown-next r x xs e))

-- another item's value stays
other_id : (a id : List ℕ) (x : List ℕ) → bytes_eq x a ≡ true → bytes_eq a id ≡ false → bytes_eq x id ≡ false
other_id a id x h e = ap (λ (z : List ℕ). bytes_eq z id) ((bytes_eq-Decides x a).0 h) ∙ e

pub value_next : (id : List ℕ) (x : Item) (xs : List Item) → is_of id x ≡ false → item_value (x ∷ xs) id ≡ item_value xs id
unfolding item_value
value_next id x xs h = rw h refl

pub value_here : (id : List ℕ) (x : Item) (xs : List Item) → is_of id x ≡ true → item_value (x ∷ xs) id ≡ Some x.value
unfolding item_value
value_here id x xs h = rw h refl

pub others_stay : (a v id : List ℕ) (xs : List Item) → bytes_eq a id ≡ false → item_value (map (given a v) xs) id ≡ item_value xs id
unfolding item_value
others_stay a v id [] ne = refl
others_stay a v id (x ∷ xs) ne = go (is_of a x) refl (others_stay a v id xs ne)
  where
    same : (b : Bool) → is_of id x ≡ b → item_value (map (given a v) xs) id ≡ item_value xs id → item_value (x ∷ map (given a v) xs) id ≡ item_value (x ∷ xs) id
    same true e rest = value_here id x (map (given a v) xs) e ∙ sym (value_here id x xs e)
    same false e rest = value_next id x (map (given a v) xs) e ∙ rest ∙ sym (value_next id x xs e)

    go : (b : Bool) → is_of a x ≡ b → item_value (map (given a v) xs) id ≡ item_value xs id
        → item_value (cond b (record { id = x.id; value = v }) x ∷ map (given a v) xs) id ≡ item_value (x ∷ xs) id
    go true e rest =
        let no : is_of id x ≡ false = other_id a id x.id e ne in
        value_next id (record { id = x.id; value = v }) (map (given a v) xs) no ∙ rest ∙ sym (value_next id x xs no)
    go false e rest = same (is_of id x) refl rest

pub self_given : (a v : List ℕ) (xs : List Item) → is_none (item_value xs a) ≡ false → item_value (map (given a v) xs) a ≡ Some v
unfolding item_value
self_given a v [] h = cc
self_given a v (x ∷ xs) h = go (is_of a x) refl (self_given a v xs)
  where
    go : (b : Bool) → is_of a x ≡ b → (is_none (item_value xs a) ≡ false → item_value (map (given a v) xs) a ≡ Some v)
        → item_value (cond b (record { id = x.id; value = v }) x ∷ map (given a v) xs) a ≡ Some v
    go true e rest = value_here a (record { id = x.id; value = v }) (map (given a v) xs) e
    go false e rest = value_next a x (map (given a v) xs) e ∙ rest (sym (ap is_none (value_next a x xs e)) ∙ h)

-- the values of the five items that every file has are the same
pub record SameNeeded (xs ys : List Item) : Type 0 where
  pub parameters : item_value xs FILE_PARAMETERS ≡ item_value ys FILE_PARAMETERS
  pub size : item_value xs DISK_SIZE ≡ item_value ys DISK_SIZE
  pub disk : item_value xs DISK_ID ≡ item_value ys DISK_ID
  pub logical : item_value xs LOGICAL_SECTOR ≡ item_value ys LOGICAL_SECTOR
  pub physical : item_value xs PHYSICAL_SECTOR ≡ item_value ys PHYSICAL_SECTOR

pub same_needed : (kind : ItemKind) (v : List ℕ) (xs : List Item) → SameNeeded (map (given (id_of kind) v) xs) xs
same_needed Locator v xs = record {
  parameters = others_stay PARENT_LOCATOR v FILE_PARAMETERS xs refl;
  size = others_stay PARENT_LOCATOR v DISK_SIZE xs refl;
  disk = others_stay PARENT_LOCATOR v DISK_ID xs refl;
  logical = others_stay PARENT_LOCATOR v LOGICAL_SECTOR xs refl;
  physical = others_stay PARENT_LOCATOR v PHYSICAL_SECTOR xs refl;
}
same_needed Retired v xs = record {
  parameters = others_stay RETIRED v FILE_PARAMETERS xs refl;
  size = others_stay RETIRED v DISK_SIZE xs refl;
  disk = others_stay RETIRED v DISK_ID xs refl;
  logical = others_stay RETIRED v LOGICAL_SECTOR xs refl;
  physical = others_stay RETIRED v PHYSICAL_SECTOR xs refl;
}

-- so is what is said of the disk
same_size : (xs ys : List Item) (bat_len : ℕ) (o : Option ℕ) → SameNeeded xs ys → is_bad_size xs bat_len o ≡ is_bad_size ys bat_len o
unfolding is_bad_size
same_size xs ys bat_len None s = refl
same_size xs ys bat_len (Some size) s = rw (s.logical, s.parameters) refl

pub same_bad : (xs ys : List Item) (bat_len : ℕ) (x : Item) → SameNeeded xs ys → is_bad_item xs bat_len x ≡ is_bad_item ys bat_len x
unfolding is_bad_item
same_bad xs ys bat_len x s = rw (same_size xs ys bat_len (size_in x.value) s) refl

-- none is missing that wasn't
kept_some : (a v id : List ℕ) (xs : List Item) → is_none (item_value xs id) ≡ false → is_none (item_value (map (given a v) xs) id) ≡ false
kept_some a v id xs h = go (bytes_eq a id) refl
  where
    go : (b : Bool) → bytes_eq a id ≡ b → is_none (item_value (map (given a v) xs) id) ≡ false
    go true e =
        let same : a ≡ id = (bytes_eq-Decides a id).0 e in
        ap (λ (z : List ℕ). is_none (item_value (map (given a v) xs) z)) (sym same)
        ∙ ap is_none (self_given a v xs (ap (λ (z : List ℕ). is_none (item_value xs z)) same ∙ h))
    go false e = ap is_none (others_stay a v id xs e) ∙ h

abbrev pub needed_by : Bool → List (List ℕ)
needed_by parent = if parent then needed_items ++ PARENT_LOCATOR ∷ [] else needed_items

pub parent_kept : (xs ys : List Item) → SameNeeded xs ys → has_parent xs ≡ has_parent ys
parent_kept xs ys s = ap (λ (o : Option (List ℕ)). has_flag (unwrap_or (option_and_then flags_in o) 0) 2) s.parameters

pub none_missing : (kind : ItemKind) (v : List ℕ) (items : List Item) → missing_item items ≡ None → missing_item (map (given (id_of kind) v) items) ≡ None
unfolding missing_item
none_missing kind v items h =
    ap (λ (b : Bool). find (λ id. is_none (item_value (map (given (id_of kind) v) items) id)) (needed_by b)) (parent_kept (map (given (id_of kind) v) items) items (same_needed kind v items))
    ∙ none_found (λ id. is_none (item_value (map (given (id_of kind) v) items) id)) (needed_by (has_parent items))
    (λ id i. kept_some (id_of kind) v id items (found_none (λ z. is_none (item_value items z)) (needed_by (has_parent items)) id h i))

-- none is bad
pub none_bad : (kind : ItemKind) (v : List ℕ) (items : List Item) (bat_len : ℕ) → is_bad_item items bat_len (record { id = id_of kind; value = v }) ≡ false
    → find (is_bad_item items bat_len) items ≡ None
    → find (is_bad_item (map (given (id_of kind) v) items) bat_len) (map (given (id_of kind) v) items) ≡ None
none_bad kind v items bat_len fine good = none_found (is_bad_item new bat_len) new each
  where
    new : List Item
    new = map (given (id_of kind) v) items

    one : (x : Item) (b : Bool) → is_of (id_of kind) x ≡ b → is_bad_item items bat_len x ≡ false → is_bad_item items bat_len (cond b (record { id = x.id; value = v }) x) ≡ false
    one x true e h = ap (λ (z : List ℕ). is_bad_item items bat_len (record { id = z; value = v })) ((bytes_eq-Decides x.id (id_of kind)).0 e) ∙ fine
    one x false e h = h

    each : (x : Item) → In x (map (given (id_of kind) v) items) → is_bad_item (map (given (id_of kind) v) items) bat_len x ≡ false
    each x i =
        let r = in_map (given (id_of kind) v) items x i in
        same_bad (map (given (id_of kind) v) items) items bat_len x (same_needed kind v items)
        ∙ ap (is_bad_item items bat_len) r.2 ∙ one r.0 (is_of (id_of kind) r.0) refl (found_none (is_bad_item items bat_len) items r.0 good r.1)

pub same_ok : (x m : Metadata) → (let z : Result Metadata BrokenRule = Ok x in z) ≡ Ok m → x ≡ m
same_ok x m e = cc

-- so the items are read
pub items_given : (kind : ItemKind) (v : List ℕ) (items : List Item) (bat_len : ℕ) (m : Metadata) → is_bad_item items bat_len (record { id = id_of kind; value = v }) ≡ false
    → read_items items bat_len ≡ Ok m → (read_items (map (given (id_of kind) v) items) bat_len ≡ Ok (metadata_of (map (given (id_of kind) v) items))) × (metadata_of items ≡ m)
unfolding read_items
items_given kind v items bat_len m fine h =
    let a = unless_some_ok (missing_item items) MissingItem _ m h in
    let b = unless_some_ok (find (is_bad_item items bat_len) items) (λ item. BadItem item.id) _ m a.1 in
    let none : missing_item (map (given (id_of kind) v) items) ≡ None = none_missing kind v items a.0 in
    let good : find (is_bad_item (map (given (id_of kind) v) items) bat_len) (map (given (id_of kind) v) items) ≡ None = none_bad kind v items bat_len fine b.0 in
    (rw (none, good) refl, same_ok (metadata_of items) m b.1)

-- the locator is another, and all else as it was
pub locator_given : (v : List ℕ) (items : List Item) → is_none (item_value items PARENT_LOCATOR) ≡ false
    → metadata_of (map (given PARENT_LOCATOR v) items) ≡ record (metadata_of items) { locator = Some v }
unfolding metadata_of
locator_given v items h =
    let s = same_needed Locator v items in
    let self = self_given PARENT_LOCATOR v items h in
    let retired = others_stay PARENT_LOCATOR v RETIRED items refl in
    rw (s.parameters, s.size, s.disk, s.logical, s.physical, self, retired) refl

-- the retired name is another, and all else as it was
pub retired_given : (v : List ℕ) (items : List Item) → is_none (item_value items RETIRED) ≡ false
    → metadata_of (map (given RETIRED v) items) ≡ record (metadata_of items) { retired = retired_in v }
unfolding metadata_of
retired_given v items h =
    let s = same_needed Retired v items in
    let self = self_given RETIRED v items h in
    let locator = others_stay RETIRED v PARENT_LOCATOR items refl in
    rw (s.parameters, s.size, s.disk, s.logical, s.physical, self, locator) refl

-- a table that keeps the rules is read
pub table_read : (table : List ℕ) (n : ℕ) (entries : List MetadataEntry) → metadata_entries table ≡ entries → is_metadata_table table ≡ true → find (is_bad_entry n entries) entries ≡ None
    → find is_unknown_required_item entries ≡ None → read_entries table n ≡ Ok entries
unfolding read_entries
table_read table n entries e head good known = rw (e, head, good, known) refl

-- what the region is read as, where its table has an entry's new place and its items the new value
pub region_read : (r : List ℕ) (bat_len : ℕ) (entries : List MetadataEntry) (items : List Item) (m : Metadata) → read_entries (metadata_table r) (length r) ≡ Ok entries → known_items r entries ≡ items
    → read_items items bat_len ≡ Ok m → read_metadata r bat_len ≡ Ok m
unfolding read_metadata
region_read r bat_len entries items m e i h = rw e (rw i h)
