-- Sectors of blocks that a file doesn't have.
use Rattle.std.proofs.Common.{◌≡◌, ℕ, ◌+◌, ◌-◌, ◌*◌, ◌%◌, ◌<◌, ◌≤◌, ◌⊎◌, ◌==◌, ◌&&◌, true, false, List, None, sym, ap, ◌∙◌, arith, inl, inr}
use Rattle.std.specs.Prelude.{Result, Ok, Err, IfOk, min}
use Rattle.std.proofs.Math.Nat.{mul_comm}
use Rattle.std.proofs.lemmas.Bool.{and_parts, cases_lt, eqb-true}
use Rattle.vx_base.specs.declared.parts.Parts.{Parts}
use Rattle.vhdx_format.specs.AllocationTables.{payload_index_of}
use Rattle.vhdx_format.specs.Layers.{Shape, chunk_ratio_of, entry_of, layer_sector, sector_bit, sector_by_state, state_at, stored_sector}
use Rattle.vhdx_format.proofs.LayerLemmas.{by_state-absent}
use Rattle.vhdx_format.proofs.SizeLemmas.{sector_cases}
use Rattle.store_model.specs.Disk.{Disk, WhereTold}
use Rattle.store_model.specs.File.{seen}
use Rattle.store_model.specs.Trace.{Trace, file_of}
use Rattle.store_model.specs.declared.fault.StoreFault.{StoreFault}
use Rattle.table_pages.specs.Held.{HasTables, held, held_file, shape_of}
use Rattle.table_pages.specs.declared.tables.TableParts.{TableParts}
use Rattle.table_pages.specs.declared.tables.Tables.{Tables}
use Rattle.chain_model.specs.Layers as chain
use Rattle.layer_session.specs.Absent.{AreAbsent, FindsAbsent, OwnsNone, is_absent, sectors_looked_at}
use Rattle.layer_session.specs.Keeping.{HoldsLayer}
use Rattle.layer_session.specs.TablesRead.{HasRead}
use Rattle.layer_session.proofs.Owned.{room}
use Rattle.layer_session.proofs.Places.{in_run}
use Rattle.layer_session.proofs.Planned.{same_held}
use Rattle.layer_session.proofs.Readable.{layer_is}

-- ---- counting them

-- of no sectors none
pub none_absent : (p : Shape) (file : List ℕ) (first count : ℕ) → count ≡ 0 → AreAbsent p file first count 0
none_absent p file first count none = record { most = omega arith; absent = λ i below. absurd (omega (arith, below)); ends = λ more. absurd (omega (arith, more, none)) }

-- the first of them isn't
pub first_there : (p : Shape) (file : List ℕ) (first count : ℕ) → is_absent p file first ≡ false → AreAbsent p file first count 0
first_there p file first count there = record {
  most = omega arith;
  absent = λ i below. absurd (omega (arith, below));
  ends = λ more. ap (is_absent p file) (let e : first + 0 ≡ first = omega arith in e) ∙ there;
}

-- the sectors of a run lie in one block
module _ (parts : TableParts) (sizes : HasTables parts) (file : List ℕ) (first len count : ℕ) (run : first * parts.sector % parts.block + len * parts.sector ≤ parts.block) where
  abbrev p : Shape
  p = shape_of parts

  below_end : (i : ℕ) → i < len → first * parts.sector % parts.block + i * parts.sector < parts.block
  below_end i h =
      let r = room parts.sector i len h in
      let a : parts.sector * i ≡ i * parts.sector = mul_comm parts.sector i in
      let b : parts.sector * len ≡ len * parts.sector = mul_comm parts.sector len in
      let some : 0 < parts.sector = by_size (sector_cases parts.sector sizes.sector) in
      omega (arith, run, r, a, b, some)
    where
      by_size : (parts.sector ≡ 512) ⊎ (parts.sector ≡ 4096) → 0 < parts.sector
      by_size (inl e) = omega (arith, e)
      by_size (inr e) = omega (arith, e)

  same_entry : (i : ℕ) → i < len → entry_of p (first + i) ≡ entry_of p first
  same_entry i h = ap (λ b. payload_index_of b (chunk_ratio_of p)) (in_run parts.sector first i parts.block (below_end i h)).block_is

  -- so if the first of them is absent all are, and then the others are looked at
  pub run_absent : len ≤ count → is_absent p file first ≡ true → (n : ℕ) → AreAbsent p file (first + len) (count - len) n → AreAbsent p file first count (len + n)
  run_absent few here n rest = record {
    most = omega (arith, few, rest.most);
    absent = λ i below. by_place i below (cases_lt i len);
    ends = λ more. ap (is_absent p file) (let e : first + (len + n) ≡ first + len + n = omega arith in e) ∙ rest.ends (omega (arith, more));
  }
    where
      by_place : (i : ℕ) → i < len + n → (i < len) ⊎ (len ≤ i) → is_absent p file (first + i) ≡ true
      by_place i below (inl less) = ap (λ e. (state_at p file e == 0) && p.parent) (same_entry i less) ∙ here
      by_place i below (inr more) = ap (is_absent p file) (let e : first + i ≡ first + len + (i - len) = omega (arith, more) in e) ∙ rest.absent (i - len) (omega (arith, below, more))

-- what was found of the rest, by tables that were read
pub absent_then : (old new : Tables) (disk after : Disk) (first len count n : ℕ) → HasTables old.parts → first * old.parts.sector % old.parts.block + len * old.parts.sector ≤ old.parts.block → HasRead old new disk → after ≡ disk → len ≤ count
    → WhereTold disk.told (λ trace. true ≡ is_absent (shape_of old.parts) (held_file old trace) first)
    → WhereTold after.told (λ trace. AreAbsent (shape_of new.parts) (held_file new trace) (first + len) (count - len) n)
    → WhereTold disk.told (λ trace. AreAbsent (shape_of old.parts) (held_file old trace) first count (len + n))
absent_then old new disk after first len count n sizes run reads stays few here rest trace told =
    run_absent old.parts sizes (held_file old trace) first len count run few (sym (here trace told)) n
    (same_held (λ p file. AreAbsent (shape_of p) file (first + len) (count - len) n) old new disk trace reads (rest trace (ap (λ (d : Disk). d.told) stays ∙ told)))

-- ---- a layer that tables hold

none_by_state : (p : Shape) (file : List ℕ) (s : ℕ) → is_absent p file s ≡ true → layer_sector p file s ≡ None
none_by_state p file s h =
    let both = and_parts (state_at p file (entry_of p s) == 0) p.parent h in
    ap (λ k. sector_by_state p k (sector_bit p file s) (stored_sector p file s)) (eqb-true (state_at p file (entry_of p s)) 0 both.0) ∙ by_state-absent p (sector_bit p file s) (stored_sector p file s) both.1

pub absent_none : (t : Tables) (parts : Parts) (layer : chain.Layer) (file : List ℕ) → HoldsLayer t parts layer file → (first count few n : ℕ) → first + count ≤ t.parts.sectors → n ≤ count → AreAbsent (shape_of t.parts) (held t.pending file) first few n → OwnsNone layer first n
absent_none t parts layer file holds first count few n on_disk most absent i below =
    layer_is t parts layer file holds (first + i) (omega (arith, below, most, on_disk)) ∙ none_by_state (shape_of t.parts) (held t.pending file) (first + i) (absent.absent i below)

-- so it is of what was found by them
pub found_none : (t : Tables) (disk : Disk) (first count : ℕ) (answer : Result ℕ StoreFault) (Of : Trace → chain.Layer → Type 0)
    → ((trace : Trace) (layer : chain.Layer) → Of trace layer → (parts : Parts) × HoldsLayer t parts layer (seen (file_of trace t.parts.file))) → first + count ≤ t.parts.sectors
    → IfOk answer (λ n. n ≤ count) → IfOk answer (λ n. FindsAbsent t disk first count n) → IfOk answer (λ n. (layer : chain.Layer) → WhereTold disk.told (λ trace. Of trace layer → OwnsNone layer first n))
found_none t disk first count (Ok n) Of held on_disk most absent = λ layer trace told of.
    let h = held trace layer of in
    absent_none t h.0 layer (seen (file_of trace t.parts.file)) h.1 first count (min count (sectors_looked_at (shape_of t.parts) first)) n on_disk most (absent trace told)
found_none t disk first count (Err fault) Of held on_disk most absent = tt
