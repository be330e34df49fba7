-- Tables that are read, and what is planned by them.
use Rattle.std.proofs.Common.{◌≡◌, ◌≢◌, ℕ, zero, suc, ◌+◌, ◌-◌, ◌*◌, ◌/◌, ◌%◌, ◌^◌, ◌<◌, ◌≤◌, ◌⊎◌, ◌==◌, ◌&&◌, Bool, true, false, List, length, refl, sym, ap, subst, eq-eqb, ◌∙◌, arith, inl, inr}
use Rattle.std.specs.List.{list_all, range_with_len}
use Rattle.std.proofs.lemmas.Bool.{cases_eq, cases_lt, eqb-true}
use Rattle.std.specs.Prelude.{Result, Ok, Err, IfOk, Some, IsTrue, ◌↔◌}
use Rattle.store_model.specs.declared.fault.StoreFault.{StoreFault}
use Rattle.vhdx_format.specs.Fields.{megabyte}
use Rattle.vhdx_format.specs.declared.log_entry.Page.{Page}
use Rattle.vhdx_format.specs.HeldBlocks.{HasGoodStates}
use Rattle.vhdx_format.specs.Layers.{Shape, entry_of, table_entry, bitmap_entry_of, sector_bit, state_at}
use Rattle.vhdx_format.specs.SectorBitmaps.{bit_of}
use Rattle.vhdx_format.proofs.LayerLemmas.{sector_entries}
use Rattle.store_model.specs.Disk.{Disk, WhereTold}
use Rattle.store_model.specs.File.{seen}
use Rattle.store_model.specs.Trace.{Trace, file_of}
use Rattle.table_pages.specs.Held.{AreBits, HasBitmap, HasTables, IsAsHeld, KeepsWithin, KeepsWithinTables, bitmap_place, held, held_file, shape_of}
use Rattle.table_pages.specs.Pages.{is_kept}
use Rattle.table_pages.specs.declared.tables.TableParts.{TableParts}
use Rattle.table_pages.specs.declared.tables.Tables.{Tables}
use Rattle.layer_session.specs.declared.planning.Step.TheVariants.{Write}
use Rattle.layer_session.specs.Planning.{AreMarked, IsPlanned, are_marked, is_whole, step_of}
use Rattle.layer_session.specs.TablesRead.{AreBitsThere, AreReadable, HasBitmaps, HasRead, IsTablePage, bitmap, entries}

-- ---- reads, one after another

-- what stays of tables that hold what they held
moved : (P : TableParts → List Page → Type 0) (old new : Tables) → new.parts ≡ old.parts → new.pending ≡ old.pending → P old.parts old.pending → P new.parts new.pending
moved P old new e f h = subst (λ (p : TableParts). P p new.pending) (sym e) (subst (P old.parts) (sym f) h)

pub read_again : (old new : Tables) (disk : Disk) → AreReadable old disk → HasRead old new disk → AreReadable new disk
read_again old new disk h r =
    let e : new.parts ≡ old.parts = r.as_held.parts_are in
    let f : new.pending ≡ old.pending = r.as_held.unchanged in
    record {
      there = subst (λ (p : TableParts). p.file < disk.files) (sym e) h.there;
      sizes = subst HasTables (sym e) h.sizes;
      tables = r.as_held.tables;
      states = moved (λ p pending. WhereTold disk.told (λ (trace : Trace). HasGoodStates (shape_of p) (held pending (seen (file_of trace p.file))))) old new e f h.states;
      bitmaps = moved (λ p pending. WhereTold disk.told (λ (trace : Trace). HasBitmaps p (held pending (seen (file_of trace p.file))) (length (seen (file_of trace p.file))))) old new e f h.bitmaps;
    }

pub read_none : (t : Tables) (disk : Disk) → AreReadable t disk → HasRead t t disk
read_none t disk h = record { as_held = record { parts_are = refl; unchanged = refl; tables = h.tables }; keeps = λ trace told. record { only = λ at a k. inl k } }

pub read_then : (a b c : Tables) (disk : Disk) → HasRead a b disk → HasRead b c disk → HasRead a c disk
read_then a b c disk h k =
    let e : b.parts ≡ a.parts = h.as_held.parts_are in
    let f : b.pending ≡ a.pending = h.as_held.unchanged in
    record {
      as_held = record { parts_are = k.as_held.parts_are ∙ e; unchanged = k.as_held.unchanged ∙ f; tables = k.as_held.tables };
      keeps = λ trace told. record { only = λ at aligned kept. by_kept e f trace told at aligned ((k.keeps trace told).only at aligned kept) };
    }
  where
    by_kept : b.parts ≡ a.parts → b.pending ≡ a.pending → (trace : Trace) → disk.told ≡ Some trace → (at : ℕ) → at % 4096 ≡ 0 → (is_kept at b.cache ≡ true) ⊎ IsTablePage b.parts (held_file b trace) at → (is_kept at a.cache ≡ true) ⊎ IsTablePage a.parts (held_file a trace) at
    by_kept e f trace told at aligned (inl kept) = (h.keeps trace told).only at aligned kept
    by_kept e f trace told at aligned (inr page) =
        inr (subst (λ (p : TableParts). IsTablePage p (held a.pending (seen (file_of trace p.file))) at) e (subst (λ pending. IsTablePage b.parts (held pending (seen (file_of trace b.parts.file))) at) f page))

-- what is held is the same
pub same_held : (P : TableParts → List ℕ → Type 0) (old new : Tables) (disk : Disk) (trace : Trace) → HasRead old new disk → P new.parts (held_file new trace) → P old.parts (held_file old trace)
same_held P old new disk trace r h =
    subst (λ (p : TableParts). P p (held old.pending (seen (file_of trace p.file)))) r.as_held.parts_are
    (subst (λ pending. P new.parts (held pending (seen (file_of trace new.parts.file)))) r.as_held.unchanged h)

-- ---- the reads

pub entry_reads : (old new : Tables) (disk : Disk) → IsAsHeld old new disk → KeepsWithin old.parts.bat_at (old.parts.bat_at + old.parts.bat_len) old new → HasRead old new disk
entry_reads old new disk h k = record { as_held = h; keeps = λ trace told. record { only = λ at aligned kept. by_place at (k.only at aligned kept) } }
  where
    by_place : {file : List ℕ} (at : ℕ) → (is_kept at old.cache ≡ true) ⊎ ((old.parts.bat_at ≤ at) × (at + 4096 ≤ old.parts.bat_at + old.parts.bat_len)) → (is_kept at old.cache ≡ true) ⊎ IsTablePage old.parts file at
    by_place at (inl kept) = inl kept
    by_place at (inr place) = inr (entries place.0 place.1)

pub bits_reads : (old new : Tables) (disk : Disk) (sector : ℕ) → AreReadable old disk → old.parts.parent ≡ true → sector < old.parts.sectors → AreBitsThere sector old disk → IsAsHeld old new disk
    → WhereTold disk.told (λ trace. KeepsWithinTables (bitmap_place old.parts (held_file old trace) sector) old new) → HasRead old new disk
bits_reads old new disk sector readable parent below six h k =
    record { as_held = h; keeps = λ trace told. record { only = λ at aligned kept. by_place trace told at ((k trace told).only at aligned kept) } }
  where
    by_place : (trace : Trace) → disk.told ≡ Some trace → (at : ℕ)
        → (is_kept at old.cache ≡ true) ⊎ (((old.parts.bat_at ≤ at) × (at + 4096 ≤ old.parts.bat_at + old.parts.bat_len)) ⊎ ((bitmap_place old.parts (held_file old trace) sector ≤ at) × (at + 4096 ≤ bitmap_place old.parts (held_file old trace) sector + megabyte)))
        → (is_kept at old.cache ≡ true) ⊎ IsTablePage old.parts (held_file old trace) at
    by_place trace told at (inl kept) = inl kept
    by_place trace told at (inr (inl place)) = inr (entries place.0 place.1)
    by_place trace told at (inr (inr place)) =
        inr (bitmap (bitmap_entry_of (shape_of old.parts) sector) ((sector_entries (shape_of old.parts) (record { sector = readable.sizes.sector; block = readable.sizes.block })).bitmap sector parent below) (six trace told) place.0 place.1)

pub has_bitmap : (t : Tables) (disk : Disk) (sector : ℕ) → AreReadable t disk → t.parts.parent ≡ true → sector < t.parts.sectors → AreBitsThere sector t disk → HasBitmap sector t disk
has_bitmap t disk sector h parent below six trace told = (h.bitmaps trace told).within sector below parent (six trace told)

-- the sectors of one chunk have one sector bitmap block
pub same_bitmap : (t : Tables) (disk : Disk) (first i : ℕ) → first / 2 ^ 23 ≡ i / 2 ^ 23 → AreBitsThere first t disk → AreBitsThere i t disk
same_bitmap t disk first i e h trace told =
    subst (λ c. state_at (shape_of t.parts) (held_file t trace) (c * (2 ^ 23 * t.parts.sector / t.parts.block + 1) + 2 ^ 23 * t.parts.sector / t.parts.block) ≡ 6) e (h trace told)

-- ---- all of a range

pub all_true : (f : ℕ → Bool) (a n : ℕ) → ((i : ℕ) → a ≤ i → i < a + n → f i ≡ true) → list_all f (range_with_len a n) ≡ true
all_true f a zero h = refl
all_true f a (suc n) h = let e : f a ≡ true = h a (omega arith) (omega arith) in rw e (all_true f (a + 1) n (λ i l k. h i (omega arith) (omega arith)))

pub all_from : (f : ℕ → Bool) (a n : ℕ) → list_all f (range_with_len a n) ≡ true → (i : ℕ) → a ≤ i → i < a + n → f i ≡ true
all_from f a zero h i l k = absurd (omega arith)
all_from f a (suc n) h i l k = by_first (f a) refl h (cases_eq i a) (λ e ne. all_from f (a + 1) n e i (omega arith) (omega arith))
  where
    by_first : (b : Bool) → f a ≡ b → (b && list_all f (range_with_len (a + 1) n)) ≡ true → (i ≡ a) ⊎ (i ≢ a) → (list_all f (range_with_len (a + 1) n) ≡ true → i ≢ a → f i ≡ true) → f i ≡ true
    by_first false e both c rest = cc
    by_first true e both (inl same) rest = ap f same ∙ e
    by_first true e both (inr ne) rest = rest both ne

-- two tests that say the same
pub same_test : (x y : Bool) → (x ≡ true → y ≡ true) → (y ≡ true → x ≡ true) → x ≡ y
same_test true y f g = sym (f refl)
same_test false true f g = g refl
same_test false false f g = refl

-- ---- marked sectors

one_is : (n : ℕ) → n ≡ 1 → (n == 1) ≡ true
one_is n e = eq-eqb n 1 e

is_one : (n : ℕ) → (n == 1) ≡ true → n ≡ 1
is_one n e = eqb-true n 1 e

-- where the bits of the first sectors are all set, the rest tells
pub marked_on : (p : Shape) (file : List ℕ) (first len count : ℕ) (marked : Bool) → len ≤ count → AreMarked p file first len
    → marked ≡ are_marked p file (first + len) (count - len) → marked ≡ are_marked p file first count
marked_on p file first len count marked fits set e =
    e ∙ same_test (are_marked p file (first + len) (count - len)) (are_marked p file first count)
    (λ h. all_true (λ s. sector_bit p file s == 1) first count (λ s l k. by_place h s l k (cases_lt s (first + len))))
    (λ h. all_true (λ s. sector_bit p file s == 1) (first + len) (count - len) (λ s l k. all_from (λ s. sector_bit p file s == 1) first count h s (omega arith) (omega arith)))
  where
    by_place : are_marked p file (first + len) (count - len) ≡ true → (s : ℕ) → first ≤ s → s < first + count → (s < first + len) ⊎ (first + len ≤ s) → (sector_bit p file s == 1) ≡ true
    by_place h s l k (inl below) = one_is (sector_bit p file s) (set s l below)
    by_place h s l k (inr above) = all_from (λ s. sector_bit p file s == 1) (first + len) (count - len) h s above (omega arith)

-- where they aren't, it's told
pub not_marked : (p : Shape) (file : List ℕ) (first len count : ℕ) → len ≤ count → (AreMarked p file first len → ⊥) → false ≡ are_marked p file first count
not_marked p file first len count fits none =
    same_test false (are_marked p file first count) (λ h. absurd (let no : false ≡ true = h in let w : ⊥ = cc in w))
    (λ h. absurd (none (λ s l k. is_one (sector_bit p file s) (all_from (λ s. sector_bit p file s == 1) first count h s l (omega arith)))))

-- bits that were read, from the one of a byte's first sector on
pub bits_tell : (parts : TableParts) (file bits : List ℕ) (first count : ℕ) (set : Bool) → AreBits parts file (first - first % 8) bits → first % 8 + count ≤ 8 * length bits
    → (IsTrue set ↔ ((i : ℕ) → first % 8 ≤ i → i < first % 8 + count → bit_of bits i ≡ 1)) → IsTrue set ↔ AreMarked (shape_of parts) file first count
bits_tell parts file bits first count set are within h = (
  λ t s l k.
      let i = s - (first - first % 8) in
      let at : first - first % 8 + i ≡ s = omega arith in
      ap (sector_bit (shape_of parts) file) (sym at) ∙ sym (are i (omega (arith, l, k, within))) ∙ h.0 t i (omega (arith, l)) (omega (arith, k, l)),
  λ m. h.1 (λ i l k. are i (omega (arith, k, within)) ∙ m (first - first % 8 + i) (omega (arith, l)) (omega (arith, k))),
)

pub bits_there_again : (old new : Tables) (disk : Disk) (sector : ℕ) → HasRead old new disk → AreBitsThere sector old disk → AreBitsThere sector new disk
bits_there_again old new disk sector r h =
    moved (λ p pending. WhereTold disk.told (λ (trace : Trace). state_at (shape_of p) (held pending (seen (file_of trace p.file))) (bitmap_entry_of (shape_of p) sector) ≡ 6)) old new r.as_held.parts_are r.as_held.unchanged h

-- what the rest of the sectors tells, read after the first of them
pub marked_then : (old new : Tables) (disk after : Disk) (first len count : ℕ) (answer : Result Bool StoreFault) → HasRead old new disk → after ≡ disk → len ≤ count
    → WhereTold disk.told (λ trace. AreMarked (shape_of old.parts) (held_file old trace) first len)
    → IfOk answer (λ marked. WhereTold after.told (λ trace. marked ≡ are_marked (shape_of new.parts) (held_file new trace) (first + len) (count - len)))
    → IfOk answer (λ marked. WhereTold disk.told (λ trace. marked ≡ are_marked (shape_of old.parts) (held_file old trace) first count))
marked_then old new disk after first len count (Err fault) r e fits set h = tt
marked_then old new disk after first len count (Ok marked) r e fits set h = λ trace told.
    marked_on (shape_of old.parts) (held_file old trace) first len count marked fits (set trace told)
    (same_held (λ p file. marked ≡ are_marked (shape_of p) file (first + len) (count - len)) old new disk trace r (h trace (ap (λ (d : Disk). d.told) e ∙ told)))

-- ---- a block that has a place

-- a block of a state from 6 on, which isn't partially present in a file with a parent, is fully present
pub planned_write : (t : Tables) (disk : Disk) (trace : Trace) (trims : Bool) (first count word : ℕ) → AreReadable t disk → disk.told ≡ Some trace → first < t.parts.sectors
    → word ≡ table_entry (shape_of t.parts) (held_file t trace) (entry_of (shape_of t.parts) first) → 6 ≤ word % 8 → (t.parts.parent ≡ false) ⊎ (word % 8 ≢ 7)
    → (trims && is_whole (shape_of t.parts) first count) ≡ false → IsPlanned (shape_of t.parts) (held_file t trace) trims first count (record { step = Write; word = word; bitmap = 0 })
planned_write t disk trace trims first count word h told below is from alone stays = record { step = step; word = is; bitmap = λ e. cc }
  where
    p : Shape
    p = shape_of t.parts

    seven : word % 8 ≡ 7 → ⊥
    seven e = by_parent alone
      where
        by_parent : (t.parts.parent ≡ false) ⊎ (word % 8 ≢ 7) → ⊥
        by_parent (inl none) =
            h.states trace told (entry_of (shape_of t.parts) first)
            (inl ((sector_entries (shape_of t.parts) (record { sector = h.sizes.sector; block = h.sizes.block })).payload first below, inr (inr (ap (λ w. w % 8) (sym is) ∙ e, none))))
        by_parent (inr other) = other e

    six : word % 8 ≡ 6
    six = by_state (cases_eq (word % 8) 6) (cases_eq (word % 8) 7)
      where
        by_state : (word % 8 ≡ 6) ⊎ (word % 8 ≢ 6) → (word % 8 ≡ 7) ⊎ (word % 8 ≢ 7) → word % 8 ≡ 6
        by_state (inl e) any = e
        by_state (inr n) (inl e) = absurd (seven e)
        by_state (inr n) (inr m) = absurd (omega (arith, n, m, from))

    step : Write ≡ step_of (shape_of t.parts) (held_file t trace) trims first count
    step = rw (stays, sym is, six) refl

pub both_not : (x y : Bool) → (x ≡ false) ⊎ (y ≡ false) → (x && y) ≡ false
both_not false y h = refl
both_not true y (inl h) = cc
both_not true y (inr h) = h
