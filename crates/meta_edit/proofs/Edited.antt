-- A region with one item changed is read as before, but for that item.
use Rattle.std.proofs.Common.{◌≡◌, ℕ, zero, suc, ◌+◌, ◌<◌, ◌≤◌, ◌⊎◌, ◌==◌, ◌&&◌, ◌||◌, not, nat_lt, max, Bool, true, false, cond, List, [], ◌∷◌, map, Some, find, length, refl, sym, ap, ◌∙◌, inl, inr, arith}
use Rattle.std.specs.Prelude.{Result, Ok, is_ok, fold}
use Rattle.std.specs.Str.{bytes_eq}
use Rattle.std.proofs.lemmas.Bool.{eqb-true, ltb-false, or_parts, and_parts}
use Rattle.std.proofs.lemmas.Slice.Eq.{bytes_eq-Decides}
use Rattle.store_model.proofs.Parts.{part-overwritten_apart}
use Rattle.vx_base.specs.Fields.{written_over, u16_at}
use Rattle.vhdx_format.specs.declared.TheConstants.{PARENT_LOCATOR, RETIRED}
use Rattle.vhdx_format.specs.declared.metadata.Item.{Item}
use Rattle.vhdx_format.specs.declared.metadata.Metadata.{Metadata}
use Rattle.vhdx_format.specs.declared.metadata.MetadataEntry.{MetadataEntry}
use Rattle.vhdx_format.specs.Fields.{has_flag}
use Rattle.vhdx_format.specs.Rules.{BrokenRule, ◌>>=◌}
use Rattle.vhdx_format.specs.MetadataTables.{are_doubled, has_place, have_common_byte, is_bad_entry, is_bad_item, is_known_item, is_metadata_table, is_outside, is_user, item_of, known_items, metadata_entries, metadata_entries_from, metadata_entry, metadata_of, metadata_table, read_entries, read_items, read_metadata, value_of}
use Rattle.vhdx_format.specs.Updates.{items_end, later_end}
use Rattle.metadata_table.proofs.Places.{no-bytes}
use Rattle.meta_edit.specs.Edits.{id_of, is_of_kind}
use Rattle.meta_edit.specs.declared.ItemKind.{ItemKind}
use Rattle.meta_edit.specs.declared.ItemKind.TheVariants.{Locator, Retired}
use Rattle.meta_edit.proofs.Slots.{made, placed_at}
use Rattle.meta_edit.proofs.Listing.{In, IsFreePlace, IsGood, found_none, good_of, placed_good, placed_known}
use Rattle.meta_edit.proofs.ItemLists.{given, known_placed, items_given, table_read, region_read}
use Rattle.meta_edit.proofs.Sound.{bound_ok, keeps_table}

-- what is found is there
pub found_in : {X : Type 0} (p : X → Bool) (xs : List X) (x : X) → find p xs ≡ Some x → In x xs × (p x ≡ true)
unfolding In
found_in p [] x h = cc
found_in p (y ∷ ys) x h = go (p y) refl h (found_in p ys x)
  where
    go : (b : Bool) → p y ≡ b → cond b (Some y) (find p ys) ≡ Some x → (find p ys ≡ Some x → In x ys × (p x ≡ true)) → ((x ≡ y) ⊎ In x ys) × (p x ≡ true)
    go true e h rest = let same : x ≡ y = cc in (inl same, ap p same ∙ e)
    go false e h rest = let r = rest h in (inr r.0, r.1)

-- an entry stands where its index says
pub in_slot : (table : List ℕ) (e : MetadataEntry) (i n : ℕ) → In e (metadata_entries_from table i n) → (j : ℕ) × (e ≡ metadata_entry table j) × (j < i + n)
unfolding In metadata_entries_from
in_slot table e i zero h = absurd h
in_slot table e i (suc n) h = go h (in_slot table e (i + 1) n)
  where
    go : (e ≡ metadata_entry table i) ⊎ In e (metadata_entries_from table (i + 1) n)
        → (In e (metadata_entries_from table (i + 1) n) → (j : ℕ) × (e ≡ metadata_entry table j) × (j < i + 1 + n)) → (j : ℕ) × (e ≡ metadata_entry table j) × (j < i + suc n)
    go (inl s) rest = (i, s, omega arith)
    go (inr k) rest = let r = rest k in (r.0, r.1, omega (arith, r.2))

index_of : (table : List ℕ) (e : MetadataEntry) (j : ℕ) → e ≡ metadata_entry table j → e.index ≡ j + 1
unfolding metadata_entry
index_of table e j s = ap (λ (z : MetadataEntry). z.index) s

same_index : (table : List ℕ) (n : ℕ) (e o : MetadataEntry) → In e (metadata_entries_from table 0 n) → In o (metadata_entries_from table 0 n) → e.index ≡ o.index → e ≡ o
same_index table n e o h g s =
    let a = in_slot table e 0 n h in
    let b = in_slot table o 0 n g in
    let same : a.0 ≡ b.0 = omega (arith, index_of table e a.0 a.1, index_of table o b.0 b.1, s) in
    a.1 ∙ ap (metadata_entry table) same ∙ sym b.1

-- a known item with the identifier is the one
unuser : (u : Bool) → (not u || false) ≡ true → not u ≡ true
unuser true h = h
unuser false h = refl

known_kind : (kind : ItemKind) (i a l f : ℕ) → is_known_item (made i (id_of kind) a l f) ≡ true → is_of_kind kind (made i (id_of kind) a l f) ≡ true
known_kind Locator i a l f h = unuser (has_flag f 1) h
known_kind Retired i a l f h = h

pub kind_known : (kind : ItemKind) (e : MetadataEntry) → bytes_eq e.id (id_of kind) ≡ true → is_known_item e ≡ true → is_of_kind kind e ≡ true
kind_known kind e s k =
    let same : e.id ≡ id_of kind = (bytes_eq-Decides e.id (id_of kind)).0 s in
    ap (λ (z : List ℕ). is_of_kind kind (made e.index z e.at e.len e.flags)) same
    ∙ known_kind kind e.index e.at e.len e.flags (ap (λ (z : List ℕ). is_known_item (made e.index z e.at e.len e.flags)) (sym same) ∙ k)

not_true : (b : Bool) → not b ≡ true → b ≡ false
not_true false h = refl
not_true true h = cc

-- two entries of a kind are doubled
pub kinds_doubled : (kind : ItemKind) (e o : MetadataEntry) → is_of_kind kind e ≡ true → is_of_kind kind o ≡ true → are_doubled e o ≡ true
kinds_doubled Locator e o h g =
    let a = and_parts (bytes_eq e.id PARENT_LOCATOR) (not (is_user e)) h in
    let b = and_parts (bytes_eq o.id PARENT_LOCATOR) (not (is_user o)) g in
    let same : e.id ≡ o.id = (bytes_eq-Decides e.id PARENT_LOCATOR).0 a.0 ∙ sym ((bytes_eq-Decides o.id PARENT_LOCATOR).0 b.0) in
    let alike : bytes_eq e.id o.id ≡ true = (bytes_eq-Decides e.id o.id).1 same in
    let u : is_user e ≡ false = not_true (is_user e) a.1 in
    let w : is_user o ≡ false = not_true (is_user o) b.1 in
    rw (alike, u, w) refl
kinds_doubled Retired e o h g =
    let a = and_parts (bytes_eq e.id RETIRED) (is_user e) h in
    let b = and_parts (bytes_eq o.id RETIRED) (is_user o) g in
    let same : e.id ≡ o.id = (bytes_eq-Decides e.id RETIRED).0 a.0 ∙ sym ((bytes_eq-Decides o.id RETIRED).0 b.0) in
    let alike : bytes_eq e.id o.id ≡ true = (bytes_eq-Decides e.id o.id).1 same in
    rw (alike, a.1, b.1) refl

one_index : (a h d : Bool) → (not a && (h || d)) ≡ false → d ≡ true → a ≡ true
one_index true h d c e = refl
one_index false true d c e = cc
one_index false false d c e = let no : true ≡ false = sym e ∙ c in cc

pub kind_id : (kind : ItemKind) (e : MetadataEntry) → is_of_kind kind e ≡ true → e.id ≡ id_of kind
kind_id Locator e h = (bytes_eq-Decides e.id PARENT_LOCATOR).0 (and_parts (bytes_eq e.id PARENT_LOCATOR) (not (is_user e)) h).0
kind_id Retired e h = (bytes_eq-Decides e.id RETIRED).0 (and_parts (bytes_eq e.id RETIRED) (is_user e) h).0

-- what is written to change the entry of an item and its value
pub record IsEdited (kind : ItemKind) (r new v : List ℕ) (old : MetadataEntry) (at len : ℕ) : Type 0 where
  pub found : find (is_of_kind kind) (metadata_entries (metadata_table r)) ≡ Some old
  pub long : length new ≡ length r
  pub head : is_metadata_table (metadata_table new) ≡ is_metadata_table (metadata_table r)
  pub entries : metadata_entries (metadata_table new) ≡ map (placed_at old.index at len) (metadata_entries (metadata_table r))
  pub free : IsFreePlace (length r) old.index at len (metadata_entries (metadata_table r))
  pub others : (e : MetadataEntry) → In e (metadata_entries (metadata_table r)) → (e.index == old.index) ≡ false → value_of new e ≡ value_of r e
  pub self : value_of new (record old { at = at; len = len }) ≡ v

-- each known item has its value, but the one the new value
each_given : (kind : ItemKind) (r new v : List ℕ) (old : MetadataEntry) (at len n : ℕ) → IsEdited kind r new v old at len
    → ((e : MetadataEntry) → In e (metadata_entries (metadata_table r)) → IsGood n (metadata_entries (metadata_table r)) e)
    → (e : MetadataEntry) → In e (metadata_entries (metadata_table r)) → is_known_item e ≡ true → item_of new (placed_at old.index at len e) ≡ given (id_of kind) v (item_of r e)
each_given kind r new v old at len n h good e i k = go (e.index == old.index) (bytes_eq e.id (id_of kind)) refl refl
  where
    there : In old (metadata_entries (metadata_table r)) × (is_of_kind kind old ≡ true)
    there = found_in (is_of_kind kind) (metadata_entries (metadata_table r)) old h.found

    go : (a b : Bool) → (e.index == old.index) ≡ a → bytes_eq e.id (id_of kind) ≡ b
        → item_of new (cond a (record e { at = at; len = len }) e) ≡ cond b (record { id = e.id; value = v }) (item_of r e)
    go true true x y =
        let same : e ≡ old = same_index (metadata_table r) (u16_at (metadata_table r) 10) e old i there.0 (eqb-true e.index old.index x) in
        ap (λ (z : List ℕ). record { id = e.id; value = z }) (ap (λ (o : MetadataEntry). value_of new (record o { at = at; len = len })) same ∙ h.self)
    go true false x y =
        let same : e ≡ old = same_index (metadata_table r) (u16_at (metadata_table r) 10) e old i there.0 (eqb-true e.index old.index x) in
        let yes : bytes_eq e.id (id_of kind) ≡ true = (bytes_eq-Decides e.id (id_of kind)).1 (ap (λ (o : MetadataEntry). o.id) same ∙ kind_id kind old there.1) in
        cc
    go false true x y =
        let is : is_of_kind kind e ≡ true = kind_known kind e y k in
        let one : (e.index == old.index) ≡ true = one_index (e.index == old.index) (have_common_byte e old) (are_doubled e old) ((good e i).alone old there.0) (kinds_doubled kind e old is there.1) in
        cc
    go false false x y = ap (λ (z : List ℕ). record { id = e.id; value = z }) (h.others e i x)

-- so the region is read as before, but for that item
pub edited_read : (kind : ItemKind) (r new v : List ℕ) (old : MetadataEntry) (at len bat_len : ℕ) (m : Metadata) → IsEdited kind r new v old at len → read_metadata r bat_len ≡ Ok m
    → ((items : List Item) → is_bad_item items bat_len (record { id = id_of kind; value = v }) ≡ false)
    → (items : List Item) × (read_metadata new bat_len ≡ Ok (metadata_of (map (given (id_of kind) v) items))) × (metadata_of items ≡ m) × (items ≡ known_items r (metadata_entries (metadata_table r)))
unfolding read_metadata
edited_read kind r new v old at len bat_len m h read fine =
    let es : List MetadataEntry = metadata_entries (metadata_table r) in
    let first = bound_ok (read_entries (metadata_table r) (length r)) (λ entries. read_items (known_items r entries) bat_len) (ap is_ok read) in
    let k = keeps_table (metadata_table r) (length r) first.0 first.1 in
    let whole : read_entries (metadata_table r) (length r) ≡ Ok es = table_read (metadata_table r) (length r) es refl k.head k.good k.known in
    let items : List Item = known_items r es in
    let was : read_items items bat_len ≡ Ok m = sym (ap (λ (x : Result (List MetadataEntry) BrokenRule). x >>= λ entries. read_items (known_items r entries) bat_len) whole) ∙ read in
    let g = items_given kind v items bat_len m (fine items) was in
    let good : (e : MetadataEntry) → In e es → IsGood (length r) es e = λ e i. good_of (length r) es e (found_none (is_bad_entry (length r) es) es e k.good i) in
    let now : read_entries (metadata_table new) (length new) ≡ Ok (map (placed_at old.index at len) es) =
    ap (read_entries (metadata_table new)) h.long
    ∙ table_read (metadata_table new) (length r) (map (placed_at old.index at len) es) h.entries (h.head ∙ k.head) (placed_good (length r) old.index at len es h.free k.good) (placed_known old.index at len es k.known) in (
      items,
      region_read new bat_len (map (placed_at old.index at len) es) (map (given (id_of kind) v) items) (metadata_of (map (given (id_of kind) v) items)) now
          (known_placed r new old.index at len (id_of kind) v es (each_given kind r new v old at len (length r) h good)) g.0,
      g.1,
      refl,
    )

-- ---- where values go

end_least : (a : ℕ) (xs : List MetadataEntry) → a ≤ fold later_end a xs
end_least a [] = omega arith
end_least a (x ∷ xs) = omega (arith, end_least (later_end a x) xs, later a x (has_place x))
  where
    later : (n : ℕ) (e : MetadataEntry) (b : Bool) → n ≤ cond b (max n (e.at + e.len)) n
    later n e true = omega arith
    later n e false = omega arith

end_behind : (a : ℕ) (xs : List MetadataEntry) (e : MetadataEntry) → In e xs → has_place e ≡ true → e.at + e.len ≤ fold later_end a xs
unfolding In
end_behind a [] e i h = absurd i
end_behind a (x ∷ xs) e i h = go i (end_behind (later_end a x) xs e)
  where
    here : (b : Bool) → has_place x ≡ b → has_place x ≡ true → x.at + x.len ≤ cond b (max a (x.at + x.len)) a
    here true p q = omega arith
    here false p q = cc

    go : (e ≡ x) ⊎ In e xs → (In e xs → has_place e ≡ true → e.at + e.len ≤ fold later_end (later_end a x) xs) → e.at + e.len ≤ fold later_end (later_end a x) xs
    go (inl s) rest =
        let p : has_place x ≡ true = ap has_place (sym s) ∙ h in
        omega (arith, here (has_place x) refl p, end_least (later_end a x) xs, ap (λ (z : MetadataEntry). z.at) s, ap (λ (z : MetadataEntry). z.len) s)
    go (inr j) rest = rest j h

-- the place for a new value lies behind the table and behind each item
pub place_least : (xs : List MetadataEntry) → 65536 ≤ items_end xs
unfolding items_end
place_least xs = omega (arith, end_least 65536 xs)

pub place_behind : (xs : List MetadataEntry) (e : MetadataEntry) → In e xs → has_place e ≡ true → e.at + e.len ≤ items_end xs
unfolding items_end
place_behind xs e i h = omega (arith, end_behind 65536 xs e i h)

-- an entry's value where its bytes are elsewhere
pub value_apart : (r b : List ℕ) (p : ℕ) (e : MetadataEntry) → p ≤ length r → (has_place e ≡ true → (e.at + e.len ≤ p) ⊎ (p + length b ≤ e.at)) → value_of (written_over r p b) e ≡ value_of r e
value_apart r b p e l h = go (e.len == 0) refl
  where
    go : (z : Bool) → (e.len == 0) ≡ z → value_of (written_over r p b) e ≡ value_of r e
    go true x = no-bytes (written_over r p b) e (eqb-true e.len 0 x) ∙ sym (no-bytes r e (eqb-true e.len 0 x))
    go false x = part-overwritten_apart r b p e.at e.len l (swap (h (ap not x)))
      where
        swap : (e.at + e.len ≤ p) ⊎ (p + length b ≤ e.at) → (e.at + e.len ≤ p) ⊎ (p + length b ≤ e.at)
        swap s = s

-- an entry with a place lies behind the table
pub lies_behind : (n : ℕ) (e : MetadataEntry) → is_outside n e ≡ false → has_place e ≡ true → (65536 ≤ e.at) × (e.at + e.len ≤ n)
lies_behind n e h p =
    let inside : (nat_lt e.at 65536 || nat_lt n (e.at + e.len)) ≡ false = sym (ap (λ (b : Bool). b && (nat_lt e.at 65536 || nat_lt n (e.at + e.len))) p) ∙ h in
    let two = or_parts (nat_lt e.at 65536) (nat_lt n (e.at + e.len)) inside in
    (ltb-false e.at 65536 two.0, ltb-false n (e.at + e.len) two.1)

-- the index of what is found
pub index_at : (kind : ItemKind) (r : List ℕ) (old : MetadataEntry) → find (is_of_kind kind) (metadata_entries (metadata_table r)) ≡ Some old → u16_at (metadata_table r) 10 ≤ 2047
    → (1 ≤ old.index) × (old.index ≤ 2047)
index_at kind r old found few =
    let there = found_in (is_of_kind kind) (metadata_entries (metadata_table r)) old found in
    let slot = in_slot (metadata_table r) old 0 (u16_at (metadata_table r) 10) there.0 in
    let index = index_of (metadata_table r) old slot.0 slot.1 in
    (omega (arith, index), omega (arith, index, slot.2, few))
