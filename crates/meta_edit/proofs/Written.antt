-- The two ways in which an item's value is changed, and what the region is read as then.
use Rattle.std.proofs.Common.{◌≡◌, ℕ, ◌+◌, ◌*◌, ◌^◌, ◌<◌, ◌≤◌, ◌⊎◌, ◌==◌, ◌&&◌, ◌||◌, not, nat_lt, nat_le, Bool, true, false, cond, List, [], ◌∷◌, ◌++◌, map, Some, None, find, length, take, is_none, refl, sym, ap, subst, ◌∙◌, inl, inr, arith}
use Rattle.std.specs.Prelude.{Ok, codes}
use Rattle.std.specs.Str.{bytes_eq}
use Rattle.std.proofs.lemmas.Bool.{cases_lt, le-ltb, lt-ltb, ltb-false, leb-true, eq-eqb, ne_eqb, or_parts}
use Rattle.meta_edit.proofs.MoreSlots.{front}
use Rattle.vx_base.proofs.ByteLists.{length-overwritten}
use Rattle.vhdx_format.specs.declared.metadata.Item.{Item}
use Rattle.vhdx_format.specs.declared.metadata.Metadata.{Metadata}
use Rattle.store_model.proofs.Parts.{part-overwritten, part-overwritten_apart}
use Rattle.vx_base.specs.Fields.{written_over, u16_at, u32_bytes}
use Rattle.vhdx_format.specs.declared.metadata.MetadataEntry.{MetadataEntry}
use Rattle.vhdx_format.specs.Fields.{megabyte, overlaps}
use Rattle.vhdx_format.specs.MetadataTables.{clashes, are_doubled, has_place, have_common_byte, is_bad_entry, is_bad_item, item_value, metadata_of, read_metadata, is_metadata_table, is_outside, metadata_entries, metadata_entries_from, metadata_table}
use Rattle.vhdx_format.specs.Updates.{items_end, offset_of, with_changed, with_entry, with_value}
use Rattle.meta_edit.specs.declared.ItemKind.TheVariants.{Locator, Retired}
use Rattle.metadata_table.proofs.Places.{no-bytes}
use Rattle.meta_edit.specs.Edits.{id_of, is_of_kind}
use Rattle.meta_edit.specs.declared.ItemKind.{ItemKind}
use Rattle.meta_edit.proofs.ByteLaws.{over_nothing}
use Rattle.meta_edit.proofs.Slots.{placed_at, field_same, number_same, slots_changed}
use Rattle.meta_edit.proofs.Listing.{In, IsGood, found_none, good_of}
use Rattle.meta_edit.proofs.Edited.{IsEdited, found_in, place_least, place_behind, value_apart, lies_behind, index_at, edited_read}
use Rattle.meta_edit.proofs.ItemLists.{given, locator_given, retired_given}
use Rattle.meta_edit.proofs.MoreItems.{changed, item_present}
use Rattle.meta_edit.proofs.Sound.{KeepsTable}

-- the head of a table stays where something is written behind it
head_same : (r b : List ℕ) (q : ℕ) → q ≤ length r → 12 ≤ q → is_metadata_table (metadata_table (written_over r q b)) ≡ is_metadata_table (metadata_table r)
unfolding is_metadata_table
head_same r b q l h =
    let first = field_same r b q 0 8 l (inl (omega arith)) (omega arith) in
    let count = number_same 2 (metadata_table (written_over r q b)) (metadata_table r) 10 (field_same r b q 10 2 l (inl (omega arith)) (omega arith)) in
    let eight = front (metadata_table (written_over r q b)) (metadata_table r) first in
    ap (λ (z : List ℕ). bytes_eq z (codes "metadata") && nat_le (u16_at (metadata_table (written_over r q b)) 10) 2047) eight
    ∙ ap (λ (n : ℕ). bytes_eq (take 8 (metadata_table r)) (codes "metadata") && nat_le n 2047) count

-- the entry's place written
pub entry_table : (r : List ℕ) (index at len : ℕ) → 65536 ≤ length r → index ≤ 2047 → 1 ≤ index → at < 2 ^ 32 → len < 2 ^ 32 → u16_at (metadata_table r) 10 ≤ 2046 + 1
    → metadata_entries (metadata_table (with_entry r index at len)) ≡ map (placed_at index at len) (metadata_entries (metadata_table r))
entry_table r index at len w few some a l most =
    let b : List ℕ = u32_bytes at ++ u32_bytes len in
    let count : u16_at (metadata_table (with_entry r index at len)) 10 ≡ u16_at (metadata_table r) 10 =
    number_same 2 (metadata_table (with_entry r index at len)) (metadata_table r) 10 (field_same r b (32 * index + 16) 10 2 (omega (arith, few, w)) (inl (omega (arith, some))) (omega arith)) in
    ap (metadata_entries_from (metadata_table (with_entry r index at len)) 0) count
    ∙ slots_changed r at len index 0 (u16_at (metadata_table r) 10) w few a l (omega (arith, most))

-- ranges that are apart have no byte in common
first_false : (a b c : Bool) → a ≡ false → (a && b && c) ≡ false
first_false a b c e = rw e refl

second_false : (a b c : Bool) → b ≡ false → (a && b && c) ≡ false
second_false true b c e = rw e refl
second_false false b c e = refl

third_false : (a b c : Bool) → c ≡ false → (a && b && c) ≡ false
third_false true true c e = e
third_false true false c e = refl
third_false false b c e = refl

pub apart_none : (a l b m : ℕ) → (b + m ≤ a) ⊎ (a + l ≤ b) → overlaps a l b m ≡ false
apart_none a l b m (inl h) = first_false (nat_lt a (b + m)) (nat_lt b (a + l)) (nat_lt 0 l && nat_lt 0 m) (le-ltb a (b + m) h)
apart_none a l b m (inr h) = second_false (nat_lt a (b + m)) (nat_lt b (a + l)) (nat_lt 0 l && nat_lt 0 m) (le-ltb b (a + l) h)

none_apart : (a l b m : ℕ) → overlaps a l b m ≡ false → 0 < l → 0 < m → (b + m ≤ a) ⊎ (a + l ≤ b)
none_apart a l b m h x y = go (cases_lt a (b + m)) (cases_lt b (a + l))
  where
    go : (a < b + m) ⊎ (b + m ≤ a) → (b < a + l) ⊎ (a + l ≤ b) → (b + m ≤ a) ⊎ (a + l ≤ b)
    go (inr s) t = inl s
    go (inl s) (inr t) = inr t
    go (inl s) (inl t) =
        let p : nat_lt a (b + m) ≡ true = lt-ltb a (b + m) s in
        let q : nat_lt b (a + l) ≡ true = lt-ltb b (a + l) t in
        let u : nat_lt 0 l ≡ true = lt-ltb 0 l x in
        let w : nat_lt 0 m ≡ true = lt-ltb 0 m y in
        let all : overlaps a l b m ≡ true = rw (p, q, u, w) refl in
        let no : true ≡ false = sym all ∙ h in
        cc

swapped : (a l b m : ℕ) → (b + m ≤ a) ⊎ (a + l ≤ b) → (a + l ≤ b) ⊎ (b + m ≤ a)
swapped a l b m (inl h) = inr h
swapped a l b m (inr h) = inl h

-- a place beside an item that is there
pub beside : (at len : ℕ) (e o : MetadataEntry) → (has_place o ≡ true → (o.at + o.len ≤ at) ⊎ (at + len ≤ o.at))
    → (have_common_byte (record e { at = at; len = len }) o ≡ false) × (have_common_byte o (record e { at = at; len = len }) ≡ false)
beside at len e o h = go (has_place o) refl
  where
    go : (p : Bool) → has_place o ≡ p → (have_common_byte (record e { at = at; len = len }) o ≡ false) × (have_common_byte o (record e { at = at; len = len }) ≡ false)
    go true x = (
      third_false (not (len == 0)) (has_place o) (overlaps at len o.at o.len) (apart_none at len o.at o.len (h x)),
      third_false (has_place o) (not (len == 0)) (overlaps o.at o.len at len) (apart_none o.at o.len at len (swapped at len o.at o.len (h x))),
    )
    go false x = (second_false (not (len == 0)) (has_place o) (overlaps at len o.at o.len) x, first_false (has_place o) (not (len == 0)) (overlaps o.at o.len at len) x)

-- a place within the region, behind the table
pub inside : (n at len : ℕ) (e : MetadataEntry) → 65536 ≤ at → at + len ≤ n → is_outside n (record e { at = at; len = len }) ≡ false
inside n at len e h l =
    let a : nat_lt at 65536 ≡ false = le-ltb at 65536 h in
    let b : nat_lt n (at + len) ≡ false = le-ltb n (at + len) l in
    rw (a, b) (none (not (len == 0)))
  where
    none : (b : Bool) → (b && false) ≡ false
    none true = refl
    none false = refl

-- a longer value, behind all items
pub moved_edited : (kind : ItemKind) (r v : List ℕ) (old : MetadataEntry) → KeepsTable (metadata_table r) (length r) → find (is_of_kind kind) (metadata_entries (metadata_table r)) ≡ Some old
    → length r < 2 ^ 32 → length v ≤ 65536 → items_end (metadata_entries (metadata_table r)) + length v ≤ length r
    → IsEdited kind r (written_over (with_entry r old.index (items_end (metadata_entries (metadata_table r))) (length v)) (items_end (metadata_entries (metadata_table r))) v) v old
    (items_end (metadata_entries (metadata_table r))) (length v)
moved_edited kind r v old k found short most fits = record {
  found = found;
  long = length-overwritten r1 v p (omega (arith, l1, fits)) ∙ l1;
  head = ap is_metadata_table table ∙ head_same r b q (omega (arith, room)) (omega (arith, place.0));
  entries = ap metadata_entries table ∙ entry_table r old.index p (length v) (omega (arith, least, fits)) place.1 place.0 (omega (arith, fits, short)) (omega (arith, most)) (omega (arith, k.count));
  free = record {
    short = le-ltb megabyte (length v) (omega (arith, most));
    within = λ e. inside (length r) p (length v) e least fits;
    apart = λ e o i x. beside p (length v) e o (λ h. inl (place_behind es o i h));
  };
  others = λ e i x. value_apart r1 v p e (omega (arith, l1, fits)) (λ h. inl (place_behind es e i h))
      ∙ value_apart r b q e (omega (arith, room)) (λ h. inr (omega (arith, room, (lies_behind (length r) e (good e i).within h).0)));
  self = part-overwritten r1 v p (length v) (omega (arith, l1, fits)) refl;
}
  where
    es : List MetadataEntry
    es = metadata_entries (metadata_table r)

    p : ℕ
    p = items_end es

    least : 65536 ≤ p
    least = place_least es

    place : (1 ≤ old.index) × (old.index ≤ 2047)
    place = index_at kind r old found k.count

    b : List ℕ
    b = u32_bytes p ++ u32_bytes (length v)

    q : ℕ
    q = 32 * old.index + 16

    room : (q + 8 ≤ 65536) × (65536 ≤ length r)
    room = (omega (arith, place.1), omega (arith, least, fits))

    r1 : List ℕ
    r1 = with_entry r old.index p (length v)

    l1 : length r1 ≡ length r
    l1 = length-overwritten r b q (omega (arith, room))

    table : metadata_table (written_over r1 p v) ≡ metadata_table r1
    table = part-overwritten_apart r1 v p 0 65536 (omega (arith, l1, fits)) (inl (omega (arith, least)))

    good : (e : MetadataEntry) → In e es → IsGood (length r) es e
    good e i = good_of (length r) es e (found_none (is_bad_entry (length r) es) es e k.good i)

-- no bytes: the entry alone is written
emptied_edited : (kind : ItemKind) (r : List ℕ) (old : MetadataEntry) → KeepsTable (metadata_table r) (length r) → find (is_of_kind kind) (metadata_entries (metadata_table r)) ≡ Some old
    → 65536 ≤ length r → IsEdited kind r (with_entry r old.index 0 0) [] old 0 0
emptied_edited kind r old k found w = record {
  found = found;
  long = length-overwritten r b q (omega (arith, room, w));
  head = head_same r b q (omega (arith, room, w)) (omega (arith, place.0));
  entries = entry_table r old.index 0 0 w place.1 place.0 (omega arith) (omega arith) (omega (arith, k.count));
  free = record {
    short = refl;
    within = λ e. refl;
    apart = λ e o i x. (refl, second_false (has_place o) false (overlaps o.at o.len 0 0) refl);
  };
  others = λ e i x. value_apart r b q e (omega (arith, room, w)) (λ h. inr (omega (arith, room, (lies_behind (length r) e (good e i).within h).0)));
  self = no-bytes (with_entry r old.index 0 0) (record old { at = 0; len = 0 }) refl;
}
  where
    es : List MetadataEntry
    es = metadata_entries (metadata_table r)

    place : (1 ≤ old.index) × (old.index ≤ 2047)
    place = index_at kind r old found k.count

    b : List ℕ
    b = u32_bytes 0 ++ u32_bytes 0

    q : ℕ
    q = 32 * old.index + 16

    room : q + 8 ≤ 65536
    room = omega (arith, place.1)

    good : (e : MetadataEntry) → In e es → IsGood (length r) es e
    good e i = good_of (length r) es e (found_none (is_bad_entry (length r) es) es e k.good i)

-- where two entries of different indices have bytes, these are apart
turned : (a b : ℕ) → (a == b) ≡ false → (b == a) ≡ false
turned a b e = ne_eqb b a (λ s. let yes : (a == b) ≡ true = eq-eqb a b (sym s) in let no : true ≡ false = sym yes ∙ e in cc)

entries_apart : (e o : MetadataEntry) → clashes e o ≡ false → (o.index == e.index) ≡ false → has_place e ≡ true → has_place o ≡ true → (o.at + o.len ≤ e.at) ⊎ (e.at + e.len ≤ o.at)
entries_apart e o c n p q =
    let other : (e.index == o.index) ≡ false = turned o.index e.index n in
    let two : (have_common_byte e o || are_doubled e o) ≡ false = sym (ap (λ (z : Bool). not z && (have_common_byte e o || are_doubled e o)) other) ∙ c in
    let none : have_common_byte e o ≡ false = (or_parts (have_common_byte e o) (are_doubled e o) two).0 in
    let apart : overlaps e.at e.len o.at o.len ≡ false = sym (rw (p, q) refl) ∙ none in
    none_apart e.at e.len o.at o.len apart (has_bytes e p) (has_bytes o q)
  where
    has_bytes : (x : MetadataEntry) → has_place x ≡ true → 0 < x.len
    has_bytes x h = go (cases_lt 0 x.len)
      where
        go : (0 < x.len) ⊎ (x.len ≤ 0) → 0 < x.len
        go (inl l) = l
        go (inr l) =
            let zero_len : (x.len == 0) ≡ true = eq-eqb x.len 0 (omega (arith, l)) in
            let no : false ≡ true = sym (ap not zero_len) ∙ h in
            cc

-- a value no longer than the old one
over_edited : (kind : ItemKind) (r v : List ℕ) (old : MetadataEntry) → KeepsTable (metadata_table r) (length r) → find (is_of_kind kind) (metadata_entries (metadata_table r)) ≡ Some old
    → length r < 2 ^ 32 → length v ≤ 65536 → 0 < length v → length v ≤ old.len
    → IsEdited kind r (with_entry (written_over r old.at v) old.index old.at (length v)) v old old.at (length v)
over_edited kind r v old k found short most some shorter = record {
  found = found;
  long = length-overwritten r1 b q (omega (arith, l1, room, w)) ∙ l1;
  head = head_same r1 b q (omega (arith, l1, room, w)) (omega (arith, place.0)) ∙ ap is_metadata_table table;
  entries = entry_table r1 old.index old.at (length v) (omega (arith, l1, w)) place.1 place.0 (omega (arith, lies, short, shorter, some)) (omega (arith, most)) (omega (arith, k.count, ap (λ (t : List ℕ). u16_at t 10) table))
      ∙ ap (λ (t : List ℕ). map (placed_at old.index old.at (length v)) (metadata_entries t)) table;
  free = record {
    short = le-ltb megabyte (length v) (omega (arith, most));
    within = λ e. inside (length r) old.at (length v) e lies.0 (omega (arith, lies, shorter));
    apart = λ e o i x. beside old.at (length v) e o (λ h. shrunk o (away o i x h));
  };
  others = λ e i x. value_apart r1 b q e (omega (arith, l1, room, w)) (λ h. inr (omega (arith, room, (lies_behind (length r) e (good e i).within h).0)))
      ∙ value_apart r v old.at e (omega (arith, lies)) (λ h. shrunk e (away e i x h));
  self = part-overwritten_apart r1 b q old.at (length v) (omega (arith, l1, room, w)) (inr (omega (arith, room, lies.0))) ∙ part-overwritten r v old.at (length v) (omega (arith, lies)) refl;
}
  where
    es : List MetadataEntry
    es = metadata_entries (metadata_table r)

    place : (1 ≤ old.index) × (old.index ≤ 2047)
    place = index_at kind r old found k.count

    good : (e : MetadataEntry) → In e es → IsGood (length r) es e
    good e i = good_of (length r) es e (found_none (is_bad_entry (length r) es) es e k.good i)

    there : In old es
    there = (found_in (is_of_kind kind) es old found).0

    full : has_place old ≡ true
    full = ap not (ne_eqb old.len 0 (λ z. omega (arith, z, some, shorter)))

    lies : (65536 ≤ old.at) × (old.at + old.len ≤ length r)
    lies = lies_behind (length r) old (good old there).within full

    w : 65536 ≤ length r
    w = omega (arith, lies)

    b : List ℕ
    b = u32_bytes old.at ++ u32_bytes (length v)

    q : ℕ
    q = 32 * old.index + 16

    room : q + 8 ≤ 65536
    room = omega (arith, place.1)

    r1 : List ℕ
    r1 = written_over r old.at v

    l1 : length r1 ≡ length r
    l1 = length-overwritten r v old.at (omega (arith, lies, shorter))

    table : metadata_table r1 ≡ metadata_table r
    table = part-overwritten_apart r v old.at 0 65536 (omega (arith, lies)) (inl (omega (arith, lies.0)))

    away : (o : MetadataEntry) → In o es → (o.index == old.index) ≡ false → has_place o ≡ true → (o.at + o.len ≤ old.at) ⊎ (old.at + old.len ≤ o.at)
    away o i x h = entries_apart old o ((good old there).alone o i) x full h

    shrunk : (o : MetadataEntry) → (o.at + o.len ≤ old.at) ⊎ (old.at + old.len ≤ o.at) → (o.at + o.len ≤ old.at) ⊎ (old.at + length v ≤ o.at)
    shrunk o (inl h) = inl h
    shrunk o (inr h) = inr (omega (arith, h, shorter))

-- what the region is read as once the item is changed
pub record IsReadWith (kind : ItemKind) (v : List ℕ) (n : ℕ) (new : List ℕ) (bat_len : ℕ) (m : Metadata) : Type 0 where
  pub long : length new ≡ n
  pub now : read_metadata new bat_len ≡ Ok (changed kind v m)

given_says : (kind : ItemKind) (v : List ℕ) (items : List Item) → is_none (item_value items (id_of kind)) ≡ false → metadata_of (map (given (id_of kind) v) items) ≡ changed kind v (metadata_of items)
given_says Locator v items h = locator_given v items h
given_says Retired v items h = retired_given v items h

read_with : (kind : ItemKind) (r new v : List ℕ) (old : MetadataEntry) (at len bat_len : ℕ) (m : Metadata) → IsEdited kind r new v old at len → read_metadata r bat_len ≡ Ok m
    → ((items : List Item) → is_bad_item items bat_len (record { id = id_of kind; value = v }) ≡ false) → IsReadWith kind v (length r) new bat_len m
read_with kind r new v old at len bat_len m h read fine =
    let e = edited_read kind r new v old at len bat_len m h read fine in
    let there : is_none (item_value e.0 (id_of kind)) ≡ false =
    ap (λ (z : List Item). is_none (item_value z (id_of kind))) e.3 ∙ item_present kind r (metadata_entries (metadata_table r)) old h.found in
    record { long = h.long; now = e.1 ∙ ap (λ (x : Metadata). Ok x) (given_says kind v e.0 there ∙ ap (changed kind v) e.2) }

pub changed_read : (kind : ItemKind) (r new v : List ℕ) (old : MetadataEntry) (bat_len : ℕ) (m : Metadata) → KeepsTable (metadata_table r) (length r)
    → find (is_of_kind kind) (metadata_entries (metadata_table r)) ≡ Some old → 65536 ≤ length r → length r < 2 ^ 32 → length v ≤ 65536 → read_metadata r bat_len ≡ Ok m
    → ((items : List Item) → is_bad_item items bat_len (record { id = id_of kind; value = v }) ≡ false)
    → with_changed r (items_end (metadata_entries (metadata_table r))) old v ≡ Some new → IsReadWith kind v (length r) new bat_len m
changed_read kind r new v old bat_len m k found w short most read fine is = by_len (nat_le (length v) old.len) refl is
  where
    p : ℕ
    p = items_end (metadata_entries (metadata_table r))

    by_room : (b : Bool) → nat_lt (length (with_entry r old.index p (length v))) (p + length v) ≡ b
        → cond b None (Some (written_over (with_entry r old.index p (length v)) p v)) ≡ Some new → IsReadWith kind v (length r) new bat_len m
    by_room true e h = cc
    by_room false e h =
        let same : written_over (with_entry r old.index p (length v)) p v ≡ new = cc in
        let place = index_at kind r old found k.count in
        let long : length (with_entry r old.index p (length v)) ≡ length r = length-overwritten r (u32_bytes p ++ u32_bytes (length v)) (32 * old.index + 16) (omega (arith, place, w)) in
        let fits : p + length v ≤ length r = omega (arith, ltb-false (length (with_entry r old.index p (length v))) (p + length v) e, long) in
        subst (λ (z : List ℕ). IsReadWith kind v (length r) z bat_len m) same
        (read_with kind r (written_over (with_entry r old.index p (length v)) p v) v old p (length v) bat_len m (moved_edited kind r v old k found short most fits) read fine)

    in_place : (u : List ℕ) → v ≡ u → length u ≤ old.len → IsReadWith kind v (length r) (with_entry (written_over r old.at v) old.index (offset_of old.at v) (length v)) bat_len m
    in_place [] e l =
        subst (λ (z : List ℕ). IsReadWith kind z (length r) (with_entry (written_over r old.at z) old.index (offset_of old.at z) (length z)) bat_len m) (sym e)
        (subst (λ (z : List ℕ). IsReadWith kind [] (length r) (with_entry z old.index 0 0) bat_len m) (over_nothing r old.at)
        (read_with kind r (with_entry r old.index 0 0) [] old 0 0 bat_len m (emptied_edited kind r old k found w) read
        (λ items. ap (λ (z : List ℕ). is_bad_item items bat_len (record { id = id_of kind; value = z })) (sym e) ∙ fine items)))
    in_place (x ∷ xs) e l =
        let some : 0 < length v = omega (arith, ap length e) in
        let no : (length v == 0) ≡ false = ne_eqb (length v) 0 (λ z. omega (arith, z, some)) in
        let there : offset_of old.at v ≡ old.at = rw no refl in
        subst (λ (z : ℕ). IsReadWith kind v (length r) (with_entry (written_over r old.at v) old.index z (length v)) bat_len m) (sym there)
        (read_with kind r (with_entry (written_over r old.at v) old.index old.at (length v)) v old old.at (length v) bat_len m
        (over_edited kind r v old k found short most some (omega (arith, l, ap length e))) read fine)

    by_len : (b : Bool) → nat_le (length v) old.len ≡ b
        → cond b (Some (with_entry (written_over r old.at v) old.index (offset_of old.at v) (length v))) (with_value (with_entry r old.index p (length v)) p v) ≡ Some new
        → IsReadWith kind v (length r) new bat_len m
    by_len true e h =
        let same : with_entry (written_over r old.at v) old.index (offset_of old.at v) (length v) ≡ new = cc in
        subst (λ (z : List ℕ). IsReadWith kind v (length r) z bat_len m) same (in_place v refl (leb-true (length v) old.len e))
    by_len false e h = by_room (nat_lt (length (with_entry r old.index p (length v))) (p + length v)) refl h
