-- The place behind the file's end, once the file has grown to it: it is nobody's.
use Rattle.std.proofs.Common.{◌≡◌, ℕ, ◌+◌, ◌*◌, ◌^◌, ◌≤◌, ◌⊎◌, All, List, length, sym, ap, subst, ◌∙◌, arith, inl, inr}
use Rattle.vx_base.specs.Fields.{extended}
use Rattle.std.proofs.lemmas.Bool.{and_parts, leb-true}
use Rattle.vx_base.proofs.ByteLists.{length-extended}
use Rattle.table_pages.proofs.Words.{held_long}
use Rattle.vx_base.specs.declared.parts.Header.{Header}
use Rattle.vx_base.specs.declared.parts.Parts.{Parts}
use Rattle.vhdx_format.specs.Fields.{megabyte}
use Rattle.vhdx_format.specs.FileParts.{shape_of}
use Rattle.vhdx_format.specs.HeldBlocks.{Area, HoldsBlock}
use Rattle.store_model.specs.File.{Grow, seen}
use Rattle.store_model.specs.Trace.{Trace, file_of, with_change}
use Rattle.store_model.proofs.Spans.{file_of-with_change}
use Rattle.table_pages.specs.Held.{held}
use Rattle.block_alloc.specs.declared.freed.Freed.{Freed}
use Rattle.block_alloc.specs.Spaces.{Space}
use Rattle.chain_model.specs.Images.{Placed}
use Rattle.layer_session.specs.declared.file.Layer.{Layer}
use Rattle.layer_session.specs.Keeping.{IsNobodys, IsPlaced, Serves, area_of}
use Rattle.layer_session.proofs.Alike.{block_in_file, holds_alike}
use Rattle.layer_session.proofs.Entered.{held_as_long, long, sizes}
use Rattle.layer_session.proofs.Grown.{grown_byte, grown_bytes, grown_pages, grown_parts, grown_serves, layer_with}
use Rattle.layer_session.proofs.Numbers.{AreNumbers, are_numbers}
use Rattle.layer_session.specs.Taking.{IsUnused}

module _ (l : Layer) (trace : Trace) (file : Placed) (serves : Serves l trace file) (len : ℕ) (longer : l.log.len ≤ len) (most : len ≤ 2 ^ 63) (space : Space) (freed : space.freed ≡ l.space.freed) (next : space.next * megabyte ≡ len)
    (range : Area) (from : l.space.next * megabyte ≤ range.at) (to : range.at + range.len ≤ len) where
  abbrev F : List ℕ
  F = seen (file_of trace file.number)

  abbrev new : Trace
  new = with_change file.number (Grow len) trace

  abbrev grown : Serves (layer_with l (record (l.log) { len = len }) space) new file
  grown = grown_serves l trace file serves len longer most space freed next

  file_len : length F ≤ range.at
  file_len = let a = serves.space.next in omega (arith, a, from)

  file_new : seen (file_of new file.number) ≡ extended F len
  file_new = ap seen (file_of-with_change file.number (Grow len) trace)

  new_len : length (seen (file_of new file.number)) ≡ len
  new_len = ap length file_new ∙ (let e = length-extended F len in let a = serves.running.state.long in omega (arith, e, a, longer))

  parts_are : grown.parts ≡ serves.parts
  parts_are = grown_parts l trace file serves len longer most space freed next

  bytes_are : grown.bytes ≡ serves.bytes
  bytes_are = grown_bytes l trace file serves len longer most space freed next

  -- nothing of the file as it was reaches so far
  placed : IsPlaced serves.parts (length (seen (file_of new file.number))) range
  placed = record {
    low = let e : megabyte ≤ serves.parts.bat_at = leb-true megabyte serves.parts.bat_at (and_parts _ _ n.table.whole_at).1 in let a = n.table.within in omega (arith, e, a, held_as_long l trace file serves, file_len);
    within = omega (arith, to, new_len);
    off_log = inr (let a = serves.running.state.within in let b = serves.running.state.long in let e : serves.parts.header.log_at + serves.parts.header.log_len ≡ l.log.header.log_at + l.log.header.log_len = ap (λ (h : Header). h.log_at + h.log_len) serves.header in omega (arith, a, b, e, file_len));
    off_table = inr (let a = n.table.within in omega (arith, a, held_as_long l trace file serves, file_len));
    off_metadata = inr (let a = n.metadata.within in omega (arith, a, held_as_long l trace file serves, file_len));
  }
    where
      n : AreNumbers (length (held l.tables.pending F)) serves.parts
      n = (are_numbers serves.parts.header (held l.tables.pending F) serves.parts serves.as_held.numbers).0

  -- what is held then holds the blocks that were held
  back : (j : ℕ) (block : Area) → HoldsBlock (shape_of serves.parts) (held l.tables.pending (extended F len)) j block → HoldsBlock (shape_of serves.parts) (held l.tables.pending F) j block
  back j block h =
      holds_alike serves.parts (held l.tables.pending F) (held l.tables.pending (extended F len))
      (omega (arith, held_as_long l trace file serves, held_long l.tables.parts (extended F len) l.tables.pending l.tables.cache (grown_pages l trace file serves len longer), length-extended F len))
      (sizes l trace file serves) serves.as_held.numbers serves.as_held.sound (λ i t b. grown_byte l trace file serves len longer i) (long l trace file serves) j block h

  low_held : (j : ℕ) (block : Area) → HoldsBlock (shape_of serves.parts) (held l.tables.pending F) j block → (range.at + range.len ≤ block.at) ⊎ (block.at + block.len ≤ range.at)
  low_held j block h =
      let b = block_in_file serves.parts (held l.tables.pending F) (held l.tables.pending F) (omega arith) (sizes l trace file serves) serves.as_held.numbers serves.as_held.sound j block h in
      let w = b.within in inr (omega (arith, w, held_as_long l trace file serves, file_len))

  low_committed : (j : ℕ) (block : Area) → HoldsBlock (shape_of serves.parts) serves.bytes j block → (range.at + range.len ≤ block.at) ⊎ (block.at + block.len ≤ range.at)
  low_committed j block h =
      let b = block_in_file serves.parts serves.bytes serves.bytes (omega arith) (sizes l trace file serves) serves.committed.numbers serves.committed.sound j block h in
      let w = b.within in let c = serves.committed.long in inr (omega (arith, w, c, file_len))

  low_freed : All (λ (f : Freed). ((area_of f).at + (area_of f).len ≤ range.at) ⊎ (range.at + range.len ≤ (area_of f).at)) l.space.freed
  low_freed k d b = let p = serves.space.placed k d b in let w = p.within in inl (omega (arith, w, file_len))

  -- The file has grown to its end: so it is a place that a block may have.
  pub behind_unused : IsUnused (layer_with l (record (l.log) { len = len }) space) new file grown range
  behind_unused = record {
    placed = subst (λ (p : Parts). IsPlaced p (length (seen (file_of new file.number))) range) (sym parts_are) placed;
    held = subst (λ (p : Parts). IsNobodys p (held l.tables.pending (seen (file_of new file.number))) range) (sym parts_are)
        (subst (λ (z : List ℕ). IsNobodys serves.parts (held l.tables.pending z) range) (sym file_new) (record { apart = λ j block h. low_held j block (back j block h) }));
    committed = subst (λ (p : Parts). IsNobodys p grown.bytes range) (sym parts_are) (subst (λ (z : List ℕ). IsNobodys serves.parts z range) (sym bytes_are) (record { apart = low_committed }));
    spare = subst (λ (z : List Freed). All (λ (f : Freed). ((area_of f).at + (area_of f).len ≤ range.at) ⊎ (range.at + range.len ≤ (area_of f).at)) z) (sym freed) low_freed;
  }
