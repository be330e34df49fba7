-- A part of a place that is nobody's is written: the place is nobody's still.
use Rattle.std.proofs.Common.{◌≡◌, ℕ, ◌+◌, ◌-◌, ◌<◌, ◌≤◌, ◌⊎◌, List, length, get_or, sym, ap, subst, ◌∙◌, arith, inl, inr}
use Rattle.vx_base.proofs.ByteLists.{length-overwritten}
use Rattle.vx_base.specs.Fields.{written_over}
use Rattle.vx_base.specs.declared.parts.Parts.{Parts}
use Rattle.vhdx_format.specs.FileParts.{shape_of}
use Rattle.vhdx_format.specs.HeldBlocks.{Area, HoldsBlock}
use Rattle.store_model.specs.File.{Write, seen}
use Rattle.store_model.specs.Trace.{Trace, file_of, with_change}
use Rattle.store_model.proofs.Spans.{file_of-with_change}
use Rattle.table_pages.specs.Held.{held}
use Rattle.table_pages.proofs.Laying.{over_in, over_out}
use Rattle.chain_model.specs.Images.{Placed}
use Rattle.layer_session.specs.declared.file.Layer.{Layer}
use Rattle.layer_session.specs.Keeping.{IsNobodys, IsPlaced, Serves}
use Rattle.layer_session.proofs.Alike.{holds_alike}
use Rattle.layer_session.proofs.Entered.{held_as_long, long, sizes}
use Rattle.layer_session.proofs.Grown.{clear, taken_byte, taken_bytes, taken_held, taken_parts, taken_serves}
use Rattle.layer_session.specs.Taking.{IsUnused}

-- a part of a range stands beside what the range stands beside
part_beside : (from len at n b m : ℕ) → at ≤ from → from + len ≤ at + n → (at + n ≤ b) ⊎ (b + m ≤ at) → (from + len ≤ b) ⊎ (b + m ≤ from)
part_beside from len at n b m low high (inl x) = inl (omega (arith, high, x))
part_beside from len at n b m low high (inr x) = inr (omega (arith, low, x))

module _ (l : Layer) (trace : Trace) (file : Placed) (serves : Serves l trace file) (range : Area) (unused : IsUnused l trace file serves range) (place : ℕ) (bytes : List ℕ) (some : 0 < length bytes)
    (low : range.at ≤ place) (high : place + length bytes ≤ range.at + range.len) where
  abbrev F : List ℕ
  F = seen (file_of trace file.number)

  abbrev H : List ℕ
  H = held l.tables.pending F

  abbrev new : Trace
  new = with_change file.number (Write place bytes) trace

  abbrev part : Area
  part = record { at = place; len = length bytes }

  pub part_placed : IsPlaced serves.parts (length F) part
  part_placed =
      let p = unused.placed in
      record {
        low = let a = p.low in omega (arith, a, low);
        within = let a = p.within in omega (arith, a, high);
        off_log = part_beside place (length bytes) range.at range.len serves.parts.header.log_at serves.parts.header.log_len low high p.off_log;
        off_table = part_beside place (length bytes) range.at range.len serves.parts.bat_at serves.parts.bat_len low high p.off_table;
        off_metadata = part_beside place (length bytes) range.at range.len serves.parts.meta_at serves.parts.meta_len low high p.off_metadata;
      }

  pub part_committed : IsNobodys serves.parts serves.bytes part
  part_committed = record { apart = λ j block h. part_beside place (length bytes) range.at range.len block.at block.len low high (unused.committed.apart j block h) }

  pub part_held : IsNobodys serves.parts H part
  part_held = record { apart = λ j block h. part_beside place (length bytes) range.at range.len block.at block.len low high (unused.held.apart j block h) }

  pub cleared_serves : Serves l new file
  cleared_serves = taken_serves l trace file serves place bytes some part_placed part_committed part_held

  pub file_new : seen (file_of new file.number) ≡ written_over F place bytes
  file_new = ap seen (file_of-with_change file.number (Write place bytes) trace)

  parts_are : cleared_serves.parts ≡ serves.parts
  unfolding cleared_serves
  parts_are = taken_parts l trace file serves place bytes some part_placed part_committed part_held

  bytes_are : cleared_serves.bytes ≡ serves.bytes
  unfolding cleared_serves
  bytes_are = taken_bytes l trace file serves place bytes some part_placed part_committed part_held

  same_len : length (written_over F place bytes) ≡ length F
  same_len = length-overwritten F bytes place part_placed.within

  held_new : held l.tables.pending (written_over F place bytes) ≡ written_over H place bytes
  held_new = taken_held l trace file serves place bytes some part_placed part_committed part_held

  pub held_len : length (held l.tables.pending (written_over F place bytes)) ≡ length H
  held_len = ap length held_new ∙ length-overwritten H bytes place (let a = part_placed.within in omega (arith, a, held_as_long l trace file serves))

  back : (j : ℕ) (block : Area) → HoldsBlock (shape_of serves.parts) (held l.tables.pending (written_over F place bytes)) j block → HoldsBlock (shape_of serves.parts) H j block
  back j block h =
      holds_alike serves.parts H (held l.tables.pending (written_over F place bytes)) (omega (arith, held_len)) (sizes l trace file serves) serves.as_held.numbers serves.as_held.sound
      (λ i t b. taken_byte l trace file serves place bytes some part_placed part_committed part_held i (clear l trace file serves place bytes some part_placed part_committed part_held i t)) (long l trace file serves) j block h

  -- The range is nobody's still.
  pub cleared_unused : IsUnused l new file cleared_serves range
  cleared_unused = record {
    placed = subst (λ (p : Parts). IsPlaced p (length (seen (file_of new file.number))) range) (sym parts_are) (subst (λ n. IsPlaced serves.parts n range) (sym (ap length file_new ∙ same_len)) unused.placed);
    held = subst (λ (p : Parts). IsNobodys p (held l.tables.pending (seen (file_of new file.number))) range) (sym parts_are)
        (subst (λ (z : List ℕ). IsNobodys serves.parts (held l.tables.pending z) range) (sym file_new) (record { apart = λ j block h. unused.held.apart j block (back j block h) }));
    committed = subst (λ (p : Parts). IsNobodys p cleared_serves.bytes range) (sym parts_are) (subst (λ (z : List ℕ). IsNobodys serves.parts z range) (sym bytes_are) unused.committed);
    spare = unused.spare;
  }

  -- what is held has the bytes there, and elsewhere what it had
  pub cleared_in : (i : ℕ) → place ≤ i → i < place + length bytes → get_or (held l.tables.pending (seen (file_of new file.number))) i 0 ≡ get_or bytes (i - place) 0
  cleared_in i a b =
      ap (λ (z : List ℕ). get_or (held l.tables.pending z) i 0) file_new ∙ ap (λ (z : List ℕ). get_or z i 0) held_new
      ∙ over_in H bytes place i (let w = part_placed.within in omega (arith, w, held_as_long l trace file serves)) a b

  pub cleared_out : (i : ℕ) → (i < place) ⊎ (place + length bytes ≤ i) → get_or (held l.tables.pending (seen (file_of new file.number))) i 0 ≡ get_or H i 0
  cleared_out i side =
      ap (λ (z : List ℕ). get_or (held l.tables.pending z) i 0) file_new ∙ ap (λ (z : List ℕ). get_or z i 0) held_new
      ∙ over_out H bytes place i (let w = part_placed.within in omega (arith, w, held_as_long l trace file serves)) side
