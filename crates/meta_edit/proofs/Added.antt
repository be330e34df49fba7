-- A region to which an item was added is read as before, but for that item.
use Rattle.std.proofs.Common.{◌≡◌, ℕ, ◌+◌, ◌*◌, ◌^◌, ◌<◌, ◌≤◌, ◌⊎◌, ◌==◌, ◌&&◌, ◌||◌, not, nat_lt, nat_le, Bool, true, false, cond, List, [], ◌∷◌, ◌++◌, Some, None, find, length, refl, sym, ap, subst, ◌∙◌, inl, inr, arith}
use Rattle.std.specs.Prelude.{Result, Ok, is_ok, count_by}
use Rattle.std.proofs.lemmas.Bool.{le-ltb, ltb-false, leb-false, ne_eqb, or_parts}
use Rattle.vx_base.proofs.ByteLists.{length-overwritten}
use Rattle.store_model.proofs.Parts.{part-overwritten, part-overwritten_apart}
use Rattle.vx_base.specs.Fields.{written_over, u16_at, u16_bytes}
use Rattle.vhdx_format.specs.declared.metadata.Item.{Item}
use Rattle.vhdx_format.specs.declared.metadata.Metadata.{Metadata}
use Rattle.vhdx_format.specs.declared.metadata.MetadataEntry.{MetadataEntry}
use Rattle.vhdx_format.specs.Fields.{megabyte}
use Rattle.vhdx_format.specs.Rules.{BrokenRule, ◌>>=◌}
use Rattle.vhdx_format.specs.MetadataTables.{are_doubled, has_place, have_common_byte, is_bad_entry, is_bad_item, is_metadata_table, is_outside, is_user, known_items, metadata_entries, metadata_of, metadata_table, read_entries, read_items, read_metadata, value_of}
use Rattle.vhdx_format.specs.Updates.{items_end, is_full_table, offset_of, with_added, with_new, with_value}
use Rattle.metadata_table.proofs.Places.{no-bytes}
use Rattle.meta_edit.specs.declared.ItemKind.{ItemKind}
use Rattle.meta_edit.specs.Edits.{id_of, flags_of, is_of_kind}
use Rattle.meta_edit.proofs.TableLaws.{length_entries}
use Rattle.meta_edit.proofs.Refused.{length_entry, length_added}
use Rattle.meta_edit.proofs.MoreSlots.{added, added_bytes, HasMore, has_more}
use Rattle.meta_edit.proofs.MoreItems.{StandsBeside, more_good, more_known, not_doubled, known_more, item, items_more, changed, more_says, item_absent}
use Rattle.meta_edit.proofs.Listing.{In, found_none, good_of}
use Rattle.meta_edit.proofs.ItemLists.{table_read, region_read}
use Rattle.meta_edit.proofs.Edited.{place_least, place_behind, value_apart, lies_behind}
use Rattle.meta_edit.proofs.Sound.{KeepsTable, bound_ok}
use Rattle.meta_edit.proofs.Written.{IsReadWith, beside, inside}

-- where a value lies that was written at a place behind all items: one of no bytes lies nowhere
record IsPlaced (n : ℕ) (es : List MetadataEntry) (r v : List ℕ) (at : ℕ) : Type 0 where
  small : at < 2 ^ 32
  free : (o : MetadataEntry) → In o es → has_place o ≡ true → (o.at + o.len ≤ at) ⊎ (at + length v ≤ o.at)
  within : (e : MetadataEntry) → is_outside n (record e { at = at; len = length v }) ≡ false
  shown : (e : MetadataEntry) → value_of r (record e { at = at; len = length v }) ≡ v

placed : (n p : ℕ) (es : List MetadataEntry) (r v : List ℕ) → p ≡ items_end es → length r ≡ n → n < 2 ^ 32 → p + length v ≤ n → IsPlaced n es (written_over r p v) v (offset_of p v)
placed n p es r [] is e short fits = record {
  small = omega arith;
  free = λ o i h. inr (omega arith);
  within = λ o. refl;
  shown = λ o. no-bytes (written_over r p []) (record o { at = 0; len = 0 }) refl;
}
placed n p es r (x ∷ xs) is e short fits =
    let some : (length (x ∷ xs) == 0) ≡ false = ne_eqb (length (x ∷ xs)) 0 (λ z. omega (arith, z)) in
    let there : offset_of p (x ∷ xs) ≡ p = rw some refl in
    subst (IsPlaced n es (written_over r p (x ∷ xs)) (x ∷ xs)) (sym there) (record {
      small = omega (arith, short, fits);
      free = λ o i h. inl (omega (arith, place_behind es o i h, is));
      within = λ o. inside n p (length (x ∷ xs)) o (omega (arith, place_least es, is)) fits;
      shown = λ o. part-overwritten r (x ∷ xs) p (length (x ∷ xs)) (omega (arith, e, fits)) refl;
    })

clash_none : (a h d : Bool) → h ≡ false → d ≡ false → (not a && (h || d)) ≡ false
clash_none true h d e f = refl
clash_none false h d e f = rw (e, f) refl

-- the new entry can stand beside the others
stands : (kind : ItemKind) (n count at : ℕ) (es : List MetadataEntry) (r v : List ℕ) → IsPlaced n es r v at → length v ≤ 65536 → find (is_of_kind kind) es ≡ None
    → StandsBeside n es (added kind count at (length v))
stands kind n count at es r v p most absent = record {
  short = le-ltb megabyte (length v) (omega (arith, most));
  within = p.within one;
  before = λ o i. clash_none (o.index == one.index) (have_common_byte o one) (are_doubled o one) (apart o i).1 (not_doubled kind count at (length v) o (found_none (is_of_kind kind) es o absent i)).0;
  behind = λ o i. clash_none (one.index == o.index) (have_common_byte one o) (are_doubled one o) (apart o i).0 (not_doubled kind count at (length v) o (found_none (is_of_kind kind) es o absent i)).1;
}
  where
    one : MetadataEntry
    one = added kind count at (length v)

    apart : (o : MetadataEntry) → In o es → (have_common_byte (added kind count at (length v)) o ≡ false) × (have_common_byte o (added kind count at (length v)) ≡ false)
    apart o i = beside at (length v) (added kind count at (length v)) o (p.free o i)

-- the region with an item more
module _ (kind : ItemKind) (r v : List ℕ) (bat_len : ℕ) (m : Metadata) (k : KeepsTable (metadata_table r) (length r))
    (absent : find (is_of_kind kind) (metadata_entries (metadata_table r)) ≡ None) (w : 65536 ≤ length r) (short : length r < 2 ^ 32) (most : length v ≤ 65536)
    (read : read_metadata r bat_len ≡ Ok m) (fine : (items : List Item) → is_bad_item items bat_len (record { id = id_of kind; value = v }) ≡ false) where
  abbrev es : List MetadataEntry
  es = metadata_entries (metadata_table r)

  abbrev count : ℕ
  count = u16_at (metadata_table r) 10

  abbrev p : ℕ
  p = items_end (metadata_entries (metadata_table r))

  abbrev at : ℕ
  at = offset_of (items_end (metadata_entries (metadata_table r))) v

  abbrev r2 : List ℕ
  r2 = with_added r (u16_at (metadata_table r) 10) (id_of kind) (offset_of (items_end (metadata_entries (metadata_table r))) v) (length v) (flags_of kind)

  abbrev new : List ℕ
  new = written_over r2 p v

  module _ (few : u16_at (metadata_table r) 10 < 2047) (fits : items_end (metadata_entries (metadata_table r)) + length v ≤ length r) where
    at_small : offset_of (items_end (metadata_entries (metadata_table r))) v < 2 ^ 32
    at_small = (placed (length r) p es r v refl refl short fits).small

    more : HasMore kind r r2 count at (length v)
    more = has_more kind r count at (length v) w few at_small (omega (arith, most)) k.head refl

    lies : IsPlaced (length r) es new v at
    lies = placed (length r) p es r2 v refl more.long short fits

    least : 65536 ≤ p
    least = place_least es

    inside2 : p ≤ length r2
    inside2 = omega (arith, more.long, fits)

    long : length new ≡ length r
    long = length-overwritten r2 v p (omega (arith, more.long, fits)) ∙ more.long

    table : metadata_table new ≡ metadata_table r2
    table = part-overwritten_apart r2 v p 0 65536 inside2 (inl (omega (arith, least)))

    -- the values of the other items stay
    others : (e : MetadataEntry) → In e es → value_of new e ≡ value_of r e
    others e i =
        value_apart r2 v p e inside2 (λ h. inl (place_behind es e i h))
        ∙ value_apart r1 b q e (omega (arith, l1, w, few)) (λ h. inr (omega (arith, lb, few, behind h)))
        ∙ value_apart r c 10 e (omega (arith, w)) (λ h. inr (two (behind h)))
      where
        c : List ℕ
        c = u16_bytes (count + 1)

        r1 : List ℕ
        r1 = written_over r 10 (u16_bytes (count + 1))

        b : List ℕ
        b = added_bytes kind at (length v)

        lb : length (added_bytes kind at (length v)) ≡ 32
        lb = length_entry kind at (length v) (flags_of kind)

        q : ℕ
        q = 32 * (count + 1)

        l1 : length (written_over r 10 (u16_bytes (count + 1))) ≡ length r
        l1 = length-overwritten r c 10 (room (omega (arith, w)))
          where
            room : 12 ≤ length r → 10 + length (u16_bytes (count + 1)) ≤ length r
            room h = h

        behind : has_place e ≡ true → 65536 ≤ e.at
        behind h = (lies_behind (length r) e (good_of (length r) es e (found_none (is_bad_entry (length r) es) es e k.good i)).within h).0

        two : 65536 ≤ e.at → 10 + length (u16_bytes (count + 1)) ≤ e.at
        two h = let x : 12 ≤ e.at = omega (arith, h) in x

    added_now : IsReadWith kind v (length r) new bat_len m
    unfolding read_metadata
    added_now =
        let first = bound_ok (read_entries (metadata_table r) (length r)) (λ entries. read_items (known_items r entries) bat_len) (ap is_ok read) in
        let whole : read_entries (metadata_table r) (length r) ≡ Ok es = table_read (metadata_table r) (length r) es refl k.head k.good k.known in
        let items : List Item = known_items r es in
        let was : read_items items bat_len ≡ Ok m = sym (ap (λ (x : Result (List MetadataEntry) BrokenRule). x >>= λ entries. read_items (known_items r entries) bat_len) whole) ∙ read in
        let one : MetadataEntry = added kind count at (length v) in
        let g = items_more kind v items bat_len m (fine items) was in
        let now : read_entries (metadata_table new) (length new) ≡ Ok (es ++ one ∷ []) =
        ap (read_entries (metadata_table new)) long
        ∙ table_read (metadata_table new) (length r) (es ++ one ∷ []) (ap metadata_entries table ∙ more.entries) (ap is_metadata_table table ∙ more.head)
        (more_good (length r) es one k.good (stands kind (length r) count at es new v lies most absent)) (more_known kind count at (length v) es k.known) in
        let known : known_items new (es ++ one ∷ []) ≡ items ++ item kind v ∷ [] =
        known_more kind r new count at (length v) es others ∙ ap (λ (z : List ℕ). items ++ record { id = id_of kind; value = z } ∷ []) (lies.shown one) in
        record {
          long = long;
          now = region_read new bat_len (es ++ one ∷ []) (items ++ item kind v ∷ []) (metadata_of (items ++ item kind v ∷ [])) now known g.0
              ∙ ap (λ (x : Metadata). Ok x) (more_says kind v items (item_absent kind r es absent) ∙ ap (changed kind v) g.1);
        }

  -- where it is full, or has no room, there is none
  pub added_read : (out : List ℕ) → with_new r (is_full_table (metadata_entries (metadata_table r))) (u16_at (metadata_table r) 10) (items_end (metadata_entries (metadata_table r))) (id_of kind) (flags_of kind) v ≡ Some out
      → IsReadWith kind v (length r) out bat_len m
  added_read out is = by_full (is_full_table es) refl is
    where
      counted : length (metadata_entries (metadata_table r)) ≡ u16_at (metadata_table r) 10
      counted = length_entries (metadata_table r) 0 count

      by_room : u16_at (metadata_table r) 10 < 2047 → (b : Bool) → nat_lt (length r2) (p + length v) ≡ b → cond b None (Some (written_over r2 p v)) ≡ Some out → IsReadWith kind v (length r) out bat_len m
      by_room few true e h = cc
      by_room few false e h =
          let same : written_over r2 p v ≡ out = cc in
          let long : length r2 ≡ length r = length_added r (added_bytes kind at (length v)) (length r) count refl w few (length_entry kind at (length v) (flags_of kind)) in
          subst (λ (z : List ℕ). IsReadWith kind v (length r) z bat_len m) same (added_now few (omega (arith, ltb-false (length r2) (p + length v) e, long)))

      by_full : (b : Bool) → is_full_table es ≡ b → cond b None (with_value r2 p v) ≡ Some out → IsReadWith kind v (length r) out bat_len m
      by_full true e h = cc
      by_full false e h =
          let two = or_parts (nat_le 2047 (length es)) (nat_le 1024 (count_by is_user es)) e in
          by_room (omega (arith, counted, leb-false 2047 (length es) two.0)) (nat_lt (length r2) (p + length v)) refl h
