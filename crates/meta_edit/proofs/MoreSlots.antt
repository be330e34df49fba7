-- A table to which one entry was added.
use Rattle.std.proofs.Common.{◌≡◌, ℕ, zero, suc, ◌+◌, ◌*◌, ◌^◌, ◌<◌, ◌≤◌, ◌&&◌, nat_le, Bool, true, false, List, [], ◌∷◌, ◌++◌, length, take, refl, sym, ap, ◌∙◌, inl, inr, arith}
use Rattle.std.specs.Prelude.{codes}
use Rattle.std.specs.Str.{bytes_eq}
use Rattle.std.proofs.lemmas.Bool.{le-leb}
use Rattle.vx_base.proofs.ByteLists.{length-overwritten}
use Rattle.store_model.proofs.Parts.{part-overwritten}
use Rattle.vx_base.specs.Fields.{u16_at, guid_at, guid_bytes, bytes_at, written_over, u16_bytes, u32_bytes}
use Rattle.vx_base.proofs.ReadBack.{swap_twice}
use Rattle.vhdx_format.specs.declared.metadata.MetadataEntry.{MetadataEntry}
use Rattle.vhdx_format.specs.MetadataTables.{is_metadata_table, metadata_entry, metadata_entries, metadata_entries_from, metadata_entry_bytes, metadata_table}
use Rattle.vhdx_format.specs.Updates.{with_added, entry_place}
use Rattle.metadata_table.proofs.Places.{part-region}
use Rattle.meta_edit.specs.declared.ItemKind.{ItemKind}
use Rattle.meta_edit.specs.declared.ItemKind.TheVariants.{Locator, Retired}
use Rattle.meta_edit.specs.Edits.{id_of, flags_of}
use Rattle.meta_edit.proofs.Refused.{length_entry}
use Rattle.meta_edit.proofs.Slots.{made, same_entry, field, field_same, number_same, number_written, slots_same}

-- the entry of a new item
abbrev pub added : ItemKind → ℕ → ℕ → ℕ → MetadataEntry
added kind n at len = made (n + 1) (id_of kind) at len (flags_of kind)

abbrev pub added_bytes : ItemKind → ℕ → ℕ → List ℕ
added_bytes kind at len = metadata_entry_bytes (id_of kind) at len (flags_of kind)

-- one entry more is the entry behind the others
entries_more : (t : List ℕ) (i n : ℕ) → metadata_entries_from t i (suc n) ≡ metadata_entries_from t i n ++ metadata_entry t (i + n) ∷ []
unfolding metadata_entries_from
entries_more t i zero = ap (λ (k : ℕ). metadata_entry t k ∷ []) (let e : i ≡ i + 0 = omega arith in e)
entries_more t i (suc n) =
    ap (λ (es : List MetadataEntry). metadata_entry t i ∷ es) (entries_more t (i + 1) n)
    ∙ ap (λ (k : ℕ). metadata_entry t i ∷ (metadata_entries_from t (i + 1) n ++ metadata_entry t k ∷ [])) (let e : i + 1 + n ≡ i + suc n = omega arith in e)

all_and_one : (t : List ℕ) (n : ℕ) → metadata_entries_from t 0 (suc n) ≡ metadata_entries_from t 0 n ++ metadata_entry t n ∷ []
all_and_one t n = entries_more t 0 n ∙ ap (λ (k : ℕ). metadata_entries_from t 0 n ++ metadata_entry t k ∷ []) (let e : 0 + n ≡ n = omega arith in e)

-- the fields of its bytes
record AreFields (kind : ItemKind) (at n : ℕ) (b : List ℕ) : Type 0 where
  id : bytes_at b 0 16 ≡ guid_bytes (id_of kind)
  place : bytes_at b 16 4 ≡ u32_bytes at
  len : bytes_at b 20 4 ≡ u32_bytes n
  flags : bytes_at b 24 4 ≡ u32_bytes (flags_of kind)

fields_of : (kind : ItemKind) (at len : ℕ) → AreFields kind at len (added_bytes kind at len)
unfolding bytes_at
fields_of Locator at len = record { id = refl; place = refl; len = refl; flags = refl }
fields_of Retired at len = record { id = refl; place = refl; len = refl; flags = refl }

id_twice : (kind : ItemKind) → guid_bytes (guid_bytes (id_of kind)) ≡ id_of kind
id_twice Locator = swap_twice (id_of Locator) refl
id_twice Retired = swap_twice (id_of Retired) refl

small_flags : (kind : ItemKind) → flags_of kind < 2 ^ 32
small_flags Locator = omega arith
small_flags Retired = omega arith

guid_read : (xs id : List ℕ) (q : ℕ) → bytes_at xs q 16 ≡ guid_bytes id → guid_bytes (guid_bytes id) ≡ id → guid_at xs q ≡ id
unfolding guid_at bytes_at
guid_read xs id q e h = ap guid_bytes e ∙ h

-- the entry that is written is read
new_slot : (kind : ItemKind) (r : List ℕ) (at len i : ℕ) → 65536 ≤ length r → i < 2047 → at < 2 ^ 32 → len < 2 ^ 32
    → metadata_entry (metadata_table (written_over r (entry_place (i + 1)) (added_bytes kind at len))) i ≡ added kind i at len
unfolding metadata_entry
new_slot kind r at len i w few a l =
    same_entry (i + 1)
    (guid_read (metadata_table new) (id_of kind) (32 + 32 * i) (here 0 16 (32 + 32 * i) (omega arith) (omega arith) ∙ f.id) (id_twice kind))
    (number_written 4 (metadata_table new) (48 + 32 * i) at (here 16 4 (48 + 32 * i) (omega arith) (omega arith) ∙ f.place) a)
    (number_written 4 (metadata_table new) (52 + 32 * i) len (here 20 4 (52 + 32 * i) (omega arith) (omega arith) ∙ f.len) l)
    (number_written 4 (metadata_table new) (56 + 32 * i) (flags_of kind) (here 24 4 (56 + 32 * i) (omega arith) (omega arith) ∙ f.flags) (small_flags kind))
  where
    b : List ℕ
    b = added_bytes kind at len

    f : AreFields kind at len (added_bytes kind at len)
    f = fields_of kind at len

    p : ℕ
    p = 32 * (i + 1)

    new : List ℕ
    new = written_over r p b

    fits : p ≤ length r
    fits = omega (arith, few, w)

    whole : bytes_at (written_over r p (added_bytes kind at len)) p 32 ≡ added_bytes kind at len
    whole = part-overwritten r b p 32 fits (sym (length_entry kind at len (flags_of kind)))

    here : (k n q : ℕ) → k + n ≤ 28 → q ≡ p + k → bytes_at (metadata_table new) q n ≡ bytes_at b k n
    here k n q h e =
        field new q n (omega (arith, e, h, few)) ∙ ap (λ (z : ℕ). bytes_at new z n) e ∙ part-region new p 32 k n (omega (arith, h))
        ∙ ap (λ (z : List ℕ). bytes_at z k n) whole

-- what a table with one more entry reads as
pub record HasMore (kind : ItemKind) (r new : List ℕ) (n at len : ℕ) : Type 0 where
  pub long : length new ≡ length r
  pub head : is_metadata_table (metadata_table new) ≡ true
  pub entries : metadata_entries (metadata_table new) ≡ metadata_entries (metadata_table r) ++ added kind n at len ∷ []

pub front : (x y : List ℕ) → bytes_at x 0 8 ≡ bytes_at y 0 8 → take 8 x ≡ take 8 y
unfolding bytes_at
front x y e = e

both : (a b : Bool) → (a && b) ≡ true → a ≡ true
both true b h = refl
both false b h = cc

pub has_more : (kind : ItemKind) (r : List ℕ) (n at len : ℕ) → 65536 ≤ length r → n < 2047 → at < 2 ^ 32 → len < 2 ^ 32 → is_metadata_table (metadata_table r) ≡ true
    → u16_at (metadata_table r) 10 ≡ n → HasMore kind r (with_added r n (id_of kind) at len (flags_of kind)) n at len
unfolding is_metadata_table
has_more kind r n at len w few a l head count = record {
  long = length-overwritten r1 b p (omega (arith, l1, w, few, lb)) ∙ l1;
  head =
      ap (λ (z : List ℕ). bytes_eq z (codes "metadata") && nat_le (u16_at (metadata_table r2) 10) 2047) (front (metadata_table r2) (metadata_table r) eight)
      ∙ ap (λ (k : ℕ). bytes_eq (take 8 (metadata_table r)) (codes "metadata") && nat_le k 2047) counted
      ∙ ap (λ (k : Bool). bytes_eq (take 8 (metadata_table r)) (codes "metadata") && k) (le-leb (n + 1) 2047 (omega (arith, few)))
      ∙ ap (λ (k : Bool). k && true) (both (bytes_eq (take 8 (metadata_table r)) (codes "metadata")) _ head);
  entries =
      ap (metadata_entries_from (metadata_table r2) 0) (counted ∙ (let e : n + 1 ≡ suc n = omega arith in e))
      ∙ all_and_one (metadata_table r2) n
      ∙ ap (λ (es : List MetadataEntry). es ++ metadata_entry (metadata_table r2) n ∷ []) same
      ∙ ap (λ (e : MetadataEntry). metadata_entries_from (metadata_table r) 0 n ++ e ∷ []) (new_slot kind r1 at len n (omega (arith, l1, w)) few a l)
      ∙ ap (λ (k : ℕ). metadata_entries_from (metadata_table r) 0 k ++ added kind n at len ∷ []) (sym count);
}
  where
    c : List ℕ
    c = u16_bytes (n + 1)

    r1 : List ℕ
    r1 = written_over r 10 (u16_bytes (n + 1))

    b : List ℕ
    b = added_bytes kind at len

    lb : length (added_bytes kind at len) ≡ 32
    lb = length_entry kind at len (flags_of kind)

    p : ℕ
    p = 32 * (n + 1)

    r2 : List ℕ
    r2 = written_over (written_over r 10 (u16_bytes (n + 1))) (32 * (n + 1)) (added_bytes kind at len)

    l1 : length (written_over r 10 (u16_bytes (n + 1))) ≡ length r
    l1 = length-overwritten r c 10 (two (omega (arith, w)))
      where
        two : 12 ≤ length r → 10 + length (u16_bytes (n + 1)) ≤ length r
        two h = h

    in1 : p ≤ length (written_over r 10 (u16_bytes (n + 1)))
    in1 = omega (arith, l1, w, few)

    in0 : 10 ≤ length r
    in0 = omega (arith, w)

    counted : u16_at (metadata_table r2) 10 ≡ n + 1
    counted =
        number_same 2 (metadata_table r2) (metadata_table r1) 10 (field_same r1 b p 10 2 in1 (inl (omega arith)) (omega arith))
        ∙ number_written 2 (metadata_table r1) 10 (n + 1) (field r1 10 2 (omega arith) ∙ part-overwritten r c 10 2 in0 refl) (omega (arith, few))

    eight : bytes_at (metadata_table r2) 0 8 ≡ bytes_at (metadata_table r) 0 8
    eight = field_same r1 b p 0 8 in1 (inl (omega arith)) (omega arith) ∙ field_same r c 10 0 8 in0 (inl (omega arith)) (omega arith)

    same : metadata_entries_from (metadata_table r2) 0 n ≡ metadata_entries_from (metadata_table r) 0 n
    same =
        slots_same r1 b p 0 n in1 (inl (omega arith)) (omega (arith, few))
        ∙ slots_same r c 10 0 n in0 (inr (omega arith)) (omega (arith, few))
