-- Sectors of one block, by the tables that were read.
use Rattle.std.proofs.Common.{◌≡◌, ◌≢◌, ℕ, ◌+◌, ◌-◌, ◌*◌, ◌%◌, ◌^◌, ◌<◌, ◌≤◌, ◌⊎◌, ◌==◌, true, false, if◌then◌else◌, List, length, Some, None, sym, ap, subst, ◌∙◌, arith, inl, inr}
use Rattle.std.specs.Prelude.{min}
use Rattle.std.proofs.Math.Nat.{add-mul, mul_comm}
use Rattle.std.proofs.lemmas.Bool.{cases_eq}
use Rattle.vx_base.specs.Fields.{bytes_at, zeros}
use Rattle.vhdx_format.specs.AllocationTables.{payload_index_of}
use Rattle.vhdx_format.specs.HeldBlocks.{HasGoodStates, IsPayloadEntry}
use Rattle.vhdx_format.specs.Layers.{Shape, chunk_ratio_of, entry_of, layer_sector, place_at, sector_bit, sector_by_state, state_at, stored_sector}
use Rattle.vhdx_format.specs.SectorBitmaps.{HasRunSet, bit_of}
use Rattle.vhdx_format.proofs.LayerLemmas.{by_state-absent, by_state-base, by_state-full, by_state-zeros, sector_entries}
use Rattle.vhdx_format.proofs.MadeOpen.{zeros_within}
use Rattle.vhdx_format.proofs.SizeLemmas.{sector_cases}
use Rattle.store_model.specs.Disk.{Disk, WhereTold}
use Rattle.store_model.specs.File.{seen}
use Rattle.store_model.specs.Trace.{Trace, file_of}
use Rattle.vhdx_format.specs.declared.log_entry.Page.{Page}
use Rattle.table_pages.specs.declared.tables.TableParts.{TableParts}
use Rattle.table_pages.specs.declared.tables.Tables.{Tables}
use Rattle.table_pages.specs.Held.{AreBits, HasTables, held, held_file, shape_of}
use Rattle.chain_model.specs.Layers as chain
use Rattle.layer_session.specs.Calls.{AddsOwned, HasOwned}
use Rattle.layer_session.specs.Keeping.{IsPartAt}
use Rattle.layer_session.specs.Reading.{AreStored, layer_by, marked_layer, run_layer}
use Rattle.layer_session.specs.TablesRead.{HasRead}
use Rattle.layer_session.proofs.Owned.{from_zero, next_place, owned_alike, owned_set, room, rows}
use Rattle.layer_session.proofs.Places.{in_run}

module _ (parts : TableParts) (file held : List ℕ) (sizes : HasTables parts) (stored : AreStored (shape_of parts) file held) (first count : ℕ) (on_disk : first + count ≤ parts.sectors)
    (run : first * parts.sector % parts.block + count * parts.sector ≤ parts.block) where
  abbrev p : Shape
  p = shape_of parts

  abbrev z : ℕ
  z = parts.sector

  abbrev layer : chain.Layer
  layer s = layer_sector p held s

  abbrev start : ℕ
  start = place_at p held (entry_of p first) + first * z % parts.block

  below_end : (i : ℕ) → i < count → first * z % parts.block + i * z < parts.block
  below_end i h =
      let r = room z i count h in
      let a : z * i ≡ i * z = mul_comm z i in
      let b : z * count ≡ count * z = mul_comm z count in
      let some : 0 < z = sector_some in
      omega (arith, run, r, a, b, some)
    where
      sector_some : 0 < z
      sector_some = by_size (sector_cases z sizes.sector)
        where
          by_size : (z ≡ 512) ⊎ (z ≡ 4096) → 0 < z
          by_size (inl e) = omega (arith, e)
          by_size (inr e) = omega (arith, e)

  same_entry : (i : ℕ) → i < count → entry_of p (first + i) ≡ entry_of p first
  same_entry i h = ap (λ b. payload_index_of b (chunk_ratio_of p)) (in_run z first i parts.block (below_end i h)).block_is

  offset : (i : ℕ) → i < count → (first + i) * z % parts.block ≡ first * z % parts.block + z * i
  offset i h = (in_run z first i parts.block (below_end i h)).place_is ∙ ap (λ k. first * z % parts.block + k) (mul_comm i z)

  is_on_disk : (i : ℕ) → i < count → first + i < parts.sectors
  is_on_disk i h = omega (arith, h, on_disk)

  -- where its block is there
  module _ (there : (state_at p held (entry_of p first) ≡ 6) ⊎ (state_at p held (entry_of p first) ≡ 7)) (some : 0 < count) where
    block_within : place_at p held (entry_of p first) + parts.block ≤ length file
    block_within = stored.within first (omega (arith, on_disk, some)) there

    pub run_within : start + z * count ≤ length file
    run_within = let b = block_within in let c : z * count ≡ count * z = mul_comm z count in omega (arith, b, c, run)

    pub start_is : (place : ℕ) → place ≡ min start (2 ^ 64 - 1) → place ≡ start
    start_is place e = let w = run_within in let m = stored.most in omega (arith, e, w, m)

    pub stored_is : (i : ℕ) → i < count → stored_sector p held (first + i) ≡ bytes_at file (start + z * i) z
    stored_is i h =
        stored.stored (first + i) (is_on_disk i h) (subst (λ e. (state_at p held e ≡ 6) ⊎ (state_at p held e ≡ 7)) (sym (same_entry i h)) there)
        ∙ ap (λ k. bytes_at file k z) (let e : place_at p held (entry_of p (first + i)) ≡ place_at p held (entry_of p first) = ap (place_at p held) (same_entry i h) in let o = offset i h in omega (arith, e, o))

  -- a block that is fully there
  pub full_is : (place : ℕ) → state_at p held (entry_of p first) ≡ 6 → place ≡ start → (i : ℕ) → i < count → layer (first + i) ≡ Some (bytes_at file (place + z * i) z)
  full_is place six e i h =
      ap (λ k. sector_by_state p k (sector_bit p held (first + i)) (stored_sector p held (first + i))) (ap (state_at p held) (same_entry i h) ∙ six) ∙ by_state-full p (sector_bit p held (first + i)) (stored_sector p held (first + i))
      ∙ ap Some (stored_is (inl six) (omega (arith, h)) i h) ∙ ap (λ k. Some (bytes_at file (k + z * i) z)) (sym e)

  pub full_owned : (place at : ℕ) (m n a b : List ℕ) → state_at p held (entry_of p first) ≡ 6 → place ≡ start → HasOwned (run_layer true file place z) z 0 count at m n a b → HasOwned layer z first count at m n a b
  full_owned place at m n a b six e =
      owned_alike layer (run_layer true file place z) z first 0 count at m n a b (λ i h. full_is place six e i h ∙ ap (λ j. Some (bytes_at file (place + z * j) z)) (sym (from_zero i)))

  -- one that isn't there, of a child
  pub absent_is : state_at p held (entry_of p first) ≡ 0 → parts.parent ≡ true → (i : ℕ) → i < count → layer (first + i) ≡ None
  absent_is none parent i h =
      ap (λ k. sector_by_state p k (sector_bit p held (first + i)) (stored_sector p held (first + i))) (ap (state_at p held) (same_entry i h) ∙ none)
      ∙ by_state-absent p (sector_bit p held (first + i)) (stored_sector p held (first + i)) parent

  pub absent_owned : (place at : ℕ) (m n a b : List ℕ) → state_at p held (entry_of p first) ≡ 0 → parts.parent ≡ true → HasOwned (run_layer false file place z) z 0 count at m n a b → HasOwned layer z first count at m n a b
  absent_owned place at m n a b none parent = owned_alike layer (run_layer false file place z) z first 0 count at m n a b (λ i h. absent_is none parent i h)

  -- one that is zeros
  module _ (good : HasGoodStates p held) (some : 0 < count) (six : state_at p held (entry_of p first) ≢ 6) (seven : state_at p held (entry_of p first) ≡ 7 → parts.parent ≡ false)
      (none : state_at p held (entry_of p first) ≡ 0 → parts.parent ≡ false) where
    payload_entry : IsPayloadEntry p (entry_of p first)
    payload_entry = (sector_entries p (record { sector = sizes.sector; block = sizes.block })).payload first (omega (arith, on_disk, some))

    seven_bad : state_at p held (entry_of p first) ≢ 7
    seven_bad e = good (entry_of p first) (inl (payload_entry, inr (inr (e, seven e))))

    four_bad : state_at p held (entry_of p first) ≢ 4
    four_bad e = good (entry_of p first) (inl (payload_entry, inl e))

    five_bad : state_at p held (entry_of p first) ≢ 5
    five_bad e = good (entry_of p first) (inl (payload_entry, inr (inl e)))

    by_state : (bit : ℕ) (bytes : List ℕ) → sector_by_state p (state_at p held (entry_of p first)) bit bytes ≡ Some (zeros z)
    by_state bit bytes = by_zero (cases_eq (state_at p held (entry_of p first)) 0)
      where
        by_zero : (state_at p held (entry_of p first) ≡ 0) ⊎ (state_at p held (entry_of p first) ≢ 0) → sector_by_state p (state_at p held (entry_of p first)) bit bytes ≡ Some (zeros z)
        by_zero (inl e) = ap (λ k. sector_by_state p k bit bytes) e ∙ by_state-base p bit bytes (none e)
        by_zero (inr e) =
            by_state-zeros p (state_at p held (entry_of p first)) bit bytes (omega (arith, e)) (let below : state_at p held (entry_of p first) < 8 = omega arith in omega (arith, below, six, seven_bad, four_bad, five_bad))

    pub zeros_are : (i : ℕ) → i < count → layer (first + i) ≡ Some (zeros z)
    zeros_are i h = ap (λ k. sector_by_state p k (sector_bit p held (first + i)) (stored_sector p held (first + i))) (ap (state_at p held) (same_entry i h)) ∙ by_state (sector_bit p held (first + i)) (stored_sector p held (first + i))

  pub zeros_owned : (at : ℕ) (m n a b : List ℕ) → HasGoodStates p held → 0 < count → (state_at p held (entry_of p first) ≢ 6) → (state_at p held (entry_of p first) ≡ 7 → parts.parent ≡ false)
      → (state_at p held (entry_of p first) ≡ 0 → parts.parent ≡ false) → HasRunSet m n at count true → at + count ≤ 8 * length m → length n ≡ length m → length b ≡ length a → b ≡ zeros (z * count)
      → HasOwned layer z first count at m n a b
  zeros_owned at m n a b good some six seven none set inside long len is =
      owned_set layer z first count at m n a b set inside long len
      (λ i h. zeros_are good some six seven none i h ∙ ap Some (sym (ap (λ x. bytes_at x (z * i) z) is ∙ zeros_within (z * count) (z * i) z (room z i count h))))

  -- one of which some sectors are there
  module _ (place : ℕ) (part : IsPartAt p held first count place) (some : 0 < count) where
    pub part_within : place + z * count ≤ length file
    part_within = let w = run_within (inr part.seven) some in let e = part.place_is in omega (arith, w, e)

    pub part_sector : (i : ℕ) → i < count → layer (first + i) ≡ (if sector_bit p held (first + i) == 1 then Some (bytes_at file (place + z * i) z) else None)
    unfolding sector_by_state
    part_sector i h =
        ap (λ k. sector_by_state p k (sector_bit p held (first + i)) (stored_sector p held (first + i))) (ap (state_at p held) (same_entry i h) ∙ part.seven)
        ∙ ap (λ x. if sector_bit p held (first + i) == 1 then Some x else None) (stored_is (inr part.seven) some i h ∙ ap (λ k. bytes_at file (k + z * i) z) (sym part.place_is))

    pub part_owned : (bits : List ℕ) (at : ℕ) (m n a b : List ℕ) → AreBits parts held (first - first % 8) bits → first % 8 + count ≤ 8 * length bits
        → HasOwned (marked_layer bits (first % 8) file place z) z 0 count at m n a b → HasOwned layer z first count at m n a b
    part_owned bits at m n a b are inside =
        owned_alike layer (marked_layer bits (first % 8) file place z) z first 0 count at m n a b
        (λ i h.
        let bit : bit_of bits (first % 8 + i) ≡ sector_bit p held (first + i) = are (first % 8 + i) (omega (arith, h, inside)) ∙ ap (sector_bit p held) (let e : first - first % 8 + (first % 8 + i) ≡ first + i = omega arith in e) in
        part_sector i h ∙ ap (λ v. if v == 1 then Some (bytes_at file (place + z * i) z) else None) (sym bit)
        ∙ ap (λ j. if bit_of bits (first % 8 + j) == 1 then Some (bytes_at file (place + z * j) z) else None) (sym (from_zero i)))

    -- the front of it
    pub part_front : (len : ℕ) → len ≤ count → IsPartAt p held first len place
    part_front len few = record {
      run = let r = rows z len count few in let a : z * len ≡ len * z = mul_comm z len in let b : z * count ≡ count * z = mul_comm z count in omega (arith, r, a, b, run);
      seven = part.seven;
      place_is = part.place_is;
    }

    -- the rest of it
    pub part_rest : (len next : ℕ) → len ≤ count → len < count → next ≡ min (place + z * len) (2 ^ 64 - 1) → IsPartAt p held (first + len) (count - len) next
    part_rest len next few less e = record {
      run =
          let o = offset len less in
          let a : z * len ≡ len * z = mul_comm z len in
          let whole : len + (count - len) ≡ count = omega (arith, few) in
          let both : (len + (count - len)) * z ≡ len * z + (count - len) * z = add-mul len (count - len) z in
          let all : (len + (count - len)) * z ≡ count * z = ap (λ k. k * z) whole in
          omega (arith, o, a, both, all, run);
      seven = ap (state_at p held) (same_entry len less) ∙ part.seven;
      place_is =
          let exact : next ≡ place + z * len = next_place next place z len count (length file) e few part_within stored.most in
          let o = offset len less in
          let at : place_at p held (entry_of p (first + len)) ≡ place_at p held (entry_of p first) = ap (place_at p held) (same_entry len less) in
          let here = part.place_is in
          omega (arith, exact, o, at, here);
    }

-- tables that were read hold what they held
module _ (old new : Tables) (disk : Disk) (reads : HasRead old new disk) where
  pub stored_again : WhereTold disk.told (λ trace. AreStored (shape_of old.parts) (seen (file_of trace old.parts.file)) (held_file old trace))
      → WhereTold disk.told (λ trace. AreStored (shape_of new.parts) (seen (file_of trace new.parts.file)) (held_file new trace))
  stored_again h trace told =
      subst (λ (t : TableParts). AreStored (shape_of t) (seen (file_of trace t.file)) (held new.pending (seen (file_of trace t.file)))) (sym reads.as_held.parts_are)
      (subst (λ (x : List Page). AreStored (shape_of old.parts) (seen (file_of trace old.parts.file)) (held x (seen (file_of trace old.parts.file)))) (sym reads.as_held.unchanged) (h trace told))

  pub part_again : (first count place : ℕ) → WhereTold disk.told (λ trace. IsPartAt (shape_of old.parts) (held_file old trace) first count place) → WhereTold disk.told (λ trace. IsPartAt (shape_of new.parts) (held_file new trace) first count place)
  part_again first count place h trace told =
      subst (λ (t : TableParts). IsPartAt (shape_of t) (held new.pending (seen (file_of trace t.file))) first count place) (sym reads.as_held.parts_are)
      (subst (λ (x : List Page). IsPartAt (shape_of old.parts) (held x (seen (file_of trace old.parts.file))) first count place) (sym reads.as_held.unchanged) (h trace told))

  -- what was read by them
  pub owned_again : (trace : Trace) (first count at : ℕ) (m n a b : List ℕ) → HasOwned (layer_by new trace) new.parts.sector first count at m n a b → HasOwned (layer_by old trace) old.parts.sector first count at m n a b
  owned_again trace first count at m n a b h =
      subst (λ (t : TableParts). HasOwned (λ s. layer_sector (shape_of t) (held old.pending (seen (file_of trace t.file))) s) t.sector first count at m n a b) reads.as_held.parts_are
      (subst (λ (x : List Page). HasOwned (λ s. layer_sector (shape_of new.parts) (held x (seen (file_of trace new.parts.file))) s) new.parts.sector first count at m n a b) reads.as_held.unchanged h)

  pub adds_again : (trace : Trace) (first count at : ℕ) (m n a b : List ℕ) → AddsOwned (layer_by new trace) new.parts.sector first count at m n a b → AddsOwned (layer_by old trace) old.parts.sector first count at m n a b
  adds_again trace first count at m n a b h =
      subst (λ (t : TableParts). AddsOwned (λ s. layer_sector (shape_of t) (held old.pending (seen (file_of trace t.file))) s) t.sector first count at m n a b) reads.as_held.parts_are
      (subst (λ (x : List Page). AddsOwned (λ s. layer_sector (shape_of new.parts) (held x (seen (file_of trace new.parts.file))) s) new.parts.sector first count at m n a b) reads.as_held.unchanged h)
