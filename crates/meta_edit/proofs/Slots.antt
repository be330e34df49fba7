-- The entries of a table in which something was written.
use Rattle.std.proofs.Common.{◌≡◌, ℕ, zero, suc, ◌+◌, ◌*◌, ◌^◌, ◌<◌, ◌≤◌, ◌⊎◌, ◌==◌, true, false, cond, if◌then◌else◌, List, [], ◌∷◌, ◌++◌, map, length, drop, refl, sym, ap, ◌∙◌, inl, inr, arith}
use Rattle.std.proofs.lemmas.Bool.{cases_eq, cases_lt, eq-eqb, ne_eqb}
use Rattle.std.proofs.lemmas.List.{append-nil, take_all}
use Rattle.byteorder.specs.Numbers.{little_number-reads_back}
use Rattle.byteorder.specs.Endian.{little_bytes}
use Rattle.store_model.proofs.Parts.{part-overwritten, part-overwritten_apart}
use Rattle.vx_base.specs.Fields.{number_at, guid_at, guid_bytes, bytes_at, written_over, u32_bytes}
use Rattle.vhdx_format.specs.declared.metadata.MetadataEntry.{MetadataEntry}
use Rattle.vhdx_format.specs.MetadataTables.{metadata_entry, metadata_entries_from, metadata_table}
use Rattle.vhdx_format.proofs.RingLaws.{number_at-take}
use Rattle.vhdx_format.proofs.Placed.{bytes_of_front, bytes_first, bytes_past}
use Rattle.metadata_table.proofs.Places.{part-region}

-- a number and an identifier are their bytes'
number_of : (n : ℕ) (xs : List ℕ) (at : ℕ) → number_at n (bytes_at xs at n) 0 ≡ number_at n xs at
unfolding number_at bytes_at
number_of n xs at = number_at-take n 0 n (drop at xs) (omega arith)

pub number_same : (n : ℕ) (xs ys : List ℕ) (at : ℕ) → bytes_at xs at n ≡ bytes_at ys at n → number_at n xs at ≡ number_at n ys at
number_same n xs ys at e = sym (number_of n xs at) ∙ ap (λ (z : List ℕ). number_at n z 0) e ∙ number_of n ys at

guid_same : (xs ys : List ℕ) (at : ℕ) → bytes_at xs at 16 ≡ bytes_at ys at 16 → guid_at xs at ≡ guid_at ys at
unfolding guid_at bytes_at
guid_same xs ys at e = ap guid_bytes e

pub number_written : (n : ℕ) (xs : List ℕ) (at v : ℕ) → bytes_at xs at n ≡ little_bytes n v → v < 256 ^ n → number_at n xs at ≡ v
unfolding number_at
number_written n xs at v e h =
    sym (number_of n xs at) ∙ ap (λ (z : List ℕ). number_at n z 0) (e ∙ sym (append-nil (little_bytes n v))) ∙ little_number-reads_back n v [] h

-- a field of the table is one of the region
pub field : (r : List ℕ) (q w : ℕ) → q + w ≤ 65536 → bytes_at (metadata_table r) q w ≡ bytes_at r q w
field r q w h = bytes_of_front r 65536 q w h

-- a field apart from what is written
pub field_same : (r b : List ℕ) (p q w : ℕ) → p ≤ length r → (q + w ≤ p) ⊎ (p + length b ≤ q) → q + w ≤ 65536
    → bytes_at (metadata_table (written_over r p b)) q w ≡ bytes_at (metadata_table r) q w
field_same r b p q w l a h = field (written_over r p b) q w h ∙ part-overwritten_apart r b p q w l a ∙ sym (field r q w h)

abbrev pub made : ℕ → List ℕ → ℕ → ℕ → ℕ → MetadataEntry
made index id at len flags = record { index = index; id = id; at = at; len = len; flags = flags }

pub same_entry : (index : ℕ) {i j : List ℕ} {a b l m f g : ℕ} → i ≡ j → a ≡ b → l ≡ m → f ≡ g → made index i a l f ≡ made index j b m g
same_entry index {i} {j} {a} {b} {l} {m} {f} {g} e1 e2 e3 e4 =
    ap (λ (x : List ℕ). made index x a l f) e1 ∙ ap (λ (x : ℕ). made index j x l f) e2 ∙ ap (λ (x : ℕ). made index j b x f) e3 ∙ ap (made index j b m) e4

-- what is written apart from an entry leaves it
pub slot_same : (r b : List ℕ) (p i : ℕ) → p ≤ length r → (60 + 32 * i ≤ p) ⊎ (p + length b ≤ 32 + 32 * i) → 60 + 32 * i ≤ 65536
    → metadata_entry (metadata_table (written_over r p b)) i ≡ metadata_entry (metadata_table r) i
unfolding metadata_entry
slot_same r b p i l a h =
    same_entry (i + 1)
    (guid_same _ _ (32 + 32 * i) (field_same r b p (32 + 32 * i) 16 l (side 32 16 a (omega arith) (omega arith)) (omega arith)))
    (number_same 4 _ _ (48 + 32 * i) (field_same r b p (48 + 32 * i) 4 l (side 48 4 a (omega arith) (omega arith)) (omega arith)))
    (number_same 4 _ _ (52 + 32 * i) (field_same r b p (52 + 32 * i) 4 l (side 52 4 a (omega arith) (omega arith)) (omega arith)))
    (number_same 4 _ _ (56 + 32 * i) (field_same r b p (56 + 32 * i) 4 l (side 56 4 a (omega arith) (omega arith)) (omega arith)))
  where
    side : (q w : ℕ) → (60 + 32 * i ≤ p) ⊎ (p + length b ≤ 32 + 32 * i) → 32 ≤ q → q + w ≤ 60 → (q + 32 * i + w ≤ p) ⊎ (p + length b ≤ q + 32 * i)
    side q w (inl x) lo hi = inl (omega (arith, x, hi))
    side q w (inr x) lo hi = inr (omega (arith, x, lo))

-- the entries from the i-th on, where what is written is apart from them
pub slots_same : (r b : List ℕ) (p i n : ℕ) → p ≤ length r → (32 + 32 * (i + n) ≤ p) ⊎ (p + length b ≤ 32 + 32 * i) → 32 + 32 * (i + n) ≤ 65536
    → metadata_entries_from (metadata_table (written_over r p b)) i n ≡ metadata_entries_from (metadata_table r) i n
unfolding metadata_entries_from
slots_same r b p i zero l a h = refl
slots_same r b p i (suc n) l a h =
    ap (λ (e : MetadataEntry). e ∷ metadata_entries_from (metadata_table (written_over r p b)) (i + 1) n) (slot_same r b p i l (here a) (omega (arith, h)))
    ∙ ap (λ (es : List MetadataEntry). metadata_entry (metadata_table r) i ∷ es) (slots_same r b p (i + 1) n l (more a) (omega (arith, h)))
  where
    here : (32 + 32 * (i + suc n) ≤ p) ⊎ (p + length b ≤ 32 + 32 * i) → (60 + 32 * i ≤ p) ⊎ (p + length b ≤ 32 + 32 * i)
    here (inl x) = inl (omega (arith, x))
    here (inr x) = inr x

    more : (32 + 32 * (i + suc n) ≤ p) ⊎ (p + length b ≤ 32 + 32 * i) → (32 + 32 * (i + 1 + n) ≤ p) ⊎ (p + length b ≤ 32 + 32 * (i + 1))
    more (inl x) = inl (omega (arith, x))
    more (inr x) = inr (omega (arith, x))

-- an entry with another place
abbrev pub placed_at : ℕ → ℕ → ℕ → MetadataEntry → MetadataEntry
placed_at index at len e = if e.index == index then record e { at = at; len = len } else e

-- all of a field
all_of : (xs : List ℕ) → length xs ≡ 4 → bytes_at xs 0 4 ≡ xs
unfolding bytes_at
all_of xs e = take_all 4 xs (omega (arith, e))

-- the entry whose place is written
slot_changed : (r : List ℕ) (at len i : ℕ) → 65536 ≤ length r → at < 2 ^ 32 → len < 2 ^ 32 → 64 + 32 * i ≤ 65536
    → metadata_entry (metadata_table (written_over r (32 * (i + 1) + 16) (u32_bytes at ++ u32_bytes len))) i ≡ record (metadata_entry (metadata_table r) i) { at = at; len = len }
unfolding metadata_entry
slot_changed r at len i w a l h =
    same_entry (i + 1)
    (guid_same _ _ (32 + 32 * i) (field_same r b p (32 + 32 * i) 16 fits (inl (omega arith)) (omega (arith, h))))
    (number_written 4 _ (48 + 32 * i) at (field (written_over r p b) (48 + 32 * i) 4 (omega (arith, h)) ∙ ap (λ (q : ℕ). bytes_at (written_over r p b) q 4) (let e : 48 + 32 * i ≡ p = omega arith in e) ∙ first) a)
    (number_written 4 _ (52 + 32 * i) len (field (written_over r p b) (52 + 32 * i) 4 (omega (arith, h)) ∙ second) l)
    (number_same 4 _ _ (56 + 32 * i) (field_same r b p (56 + 32 * i) 4 fits (inr (omega arith)) (omega (arith, h))))
  where
    p : ℕ
    p = 32 * (i + 1) + 16

    b : List ℕ
    b = u32_bytes at ++ u32_bytes len

    fits : p ≤ length r
    fits = omega (arith, h, w)

    whole : bytes_at (written_over r p b) p 8 ≡ b
    whole = part-overwritten r b p 8 fits refl

    first : bytes_at (written_over r p b) p 4 ≡ u32_bytes at
    first =
        ap (λ (q : ℕ). bytes_at (written_over r p b) q 4) (let e : p ≡ p + 0 = omega arith in e) ∙ part-region (written_over r p b) p 8 0 4 (omega arith)
        ∙ ap (λ (z : List ℕ). bytes_at z 0 4) whole ∙ bytes_first (u32_bytes at) (u32_bytes len) 4 refl

    second : bytes_at (written_over r p b) (52 + 32 * i) 4 ≡ u32_bytes len
    second =
        ap (λ (q : ℕ). bytes_at (written_over r p b) q 4) (let e : 52 + 32 * i ≡ p + 4 = omega arith in e) ∙ part-region (written_over r p b) p 8 4 4 (omega arith)
        ∙ ap (λ (z : List ℕ). bytes_at z 4 4) whole ∙ bytes_past (u32_bytes at) (u32_bytes len) 4 0 4 refl ∙ all_of (u32_bytes len) refl

-- an entry, whichever has its place written
slot_here : (r : List ℕ) (at len index i : ℕ) → 65536 ≤ length r → index ≤ 2047 → at < 2 ^ 32 → len < 2 ^ 32 → 64 + 32 * i ≤ 65536
    → metadata_entry (metadata_table (written_over r (32 * index + 16) (u32_bytes at ++ u32_bytes len))) i ≡ placed_at index at len (metadata_entry (metadata_table r) i)
unfolding metadata_entry
slot_here r at len index i w few a l h = by_index (cases_eq (i + 1) index)
  where
    b : List ℕ
    b = u32_bytes at ++ u32_bytes len

    apart : (i + 1 ≡ index → ⊥) → (60 + 32 * i ≤ 32 * index + 16) ⊎ (32 * index + 16 + length b ≤ 32 + 32 * i)
    apart ne = sides (cases_lt (i + 1) index)
      where
        sides : (i + 1 < index) ⊎ (index ≤ i + 1) → (60 + 32 * i ≤ 32 * index + 16) ⊎ (32 * index + 16 + length b ≤ 32 + 32 * i)
        sides (inl x) = inl (omega (arith, x))
        sides (inr x) = inr (omega (arith, x, ne))

    by_index : (i + 1 ≡ index) ⊎ (i + 1 ≡ index → ⊥)
        → metadata_entry (metadata_table (written_over r (32 * index + 16) b)) i ≡ cond (i + 1 == index) (record (metadata_entry (metadata_table r) i) { at = at; len = len }) (metadata_entry (metadata_table r) i)
    by_index (inl e) =
        let same : (i + 1 == index) ≡ true = eq-eqb (i + 1) index e in
        rw same (ap (λ (j : ℕ). metadata_entry (metadata_table (written_over r (32 * j + 16) b)) i) (sym e) ∙ slot_changed r at len i w a l h)
    by_index (inr ne) =
        let other : (i + 1 == index) ≡ false = ne_eqb (i + 1) index ne in
        rw other (slot_same r b (32 * index + 16) i (omega (arith, w, few)) (apart ne) (omega (arith, h)))

-- the entries, of which one has its place written
pub slots_changed : (r : List ℕ) (at len index i n : ℕ) → 65536 ≤ length r → index ≤ 2047 → at < 2 ^ 32 → len < 2 ^ 32 → 32 + 32 * (i + n) ≤ 65536
    → metadata_entries_from (metadata_table (written_over r (32 * index + 16) (u32_bytes at ++ u32_bytes len))) i n ≡ map (placed_at index at len) (metadata_entries_from (metadata_table r) i n)
unfolding metadata_entries_from
slots_changed r at len index i zero w few a l h = refl
slots_changed r at len index i (suc n) w few a l h =
    ap (λ (e : MetadataEntry). e ∷ metadata_entries_from (metadata_table new) (i + 1) n) (slot_here r at len index i w few a l (omega (arith, h)))
    ∙ ap (λ (es : List MetadataEntry). placed_at index at len (metadata_entry (metadata_table r) i) ∷ es) (slots_changed r at len index (i + 1) n w few a l (omega (arith, h)))
  where
    new : List ℕ
    new = written_over r (32 * index + 16) (u32_bytes at ++ u32_bytes len)
