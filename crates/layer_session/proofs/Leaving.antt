-- A block leaves its place and becomes zeros.
use Rattle.std.proofs.Common.{◌≡◌, ◌≢◌, ℕ, ◌+◌, ◌*◌, ◌^◌, ◌<◌, ◌≤◌, ◌⊎◌, ◌||◌, Bool, true, false, List, get_or, Some, None, refl, sym, ap, subst, ◌∙◌, arith, inl, inr}
use Rattle.std.proofs.lemmas.Bool.{cases_Bool, cases_eq}
use Rattle.vx_base.specs.Fields.{zeros}
use Rattle.vhdx_format.specs.AllocationTables.{state_of}
use Rattle.vhdx_format.specs.FileParts.{shape_of}
use Rattle.vhdx_format.specs.HeldBlocks.{Area, HasBadState, HoldsBlock, IsBitmapEntry, IsPayloadEntry, LacksBitmap, bitmap, payload}
use Rattle.vhdx_format.specs.Layers.{Shape, chunk_ratio_of, entry_of, layer_sector, sector_bit, sector_by_state, state_at, stored_sector}
use Rattle.vhdx_format.proofs.LayerLemmas.{by_state-zeros, entries_apart}
use Rattle.vhdx_format.proofs.SizeLemmas.{ratio_in_range}
use Rattle.store_model.specs.File.{seen}
use Rattle.store_model.specs.Trace.{Trace, file_of}
use Rattle.table_pages.specs.Held.{held}
use Rattle.table_pages.specs.declared.tables.Tables.{Tables}
use Rattle.block_alloc.specs.Spaces.{Space}
use Rattle.chain_model.specs.Images.{Placed}
use Rattle.chain_model.specs.Layers as chain
use Rattle.layer_session.specs.declared.file.Layer.{Layer}
use Rattle.layer_session.specs.Calls.{is_among, loose_or_named, placed_with, with_zeros}
use Rattle.layer_session.specs.Keeping.{HasSpace, IsNobodys, Serves, area_of}
use Rattle.layer_session.proofs.Entered.{EntersInto, Enters, entered_held, entered_serves, layer_by, long, sizes}
use Rattle.layer_session.proofs.Entries.{IsGoodEntry, entry_here, holds_beside, layer_beside, set_file}

or_none : (x y : Bool) → (x || y) ≡ false → (x ≡ false) × (y ≡ false)
or_none false y h = (refl, h)
or_none true y h = cc

module _ (l : Layer) (trace : Trace) (file : Placed) (serves : Serves l trace file) (t : Tables) (index word : ℕ) (inside : 8 * index + 8 ≤ serves.parts.bat_len) (small : word < 2 ^ 64)
    (into : EntersInto l trace file t index word) (entry : IsPayloadEntry (shape_of serves.parts) index) (two : state_of word ≡ 2)
    (first count : ℕ) (named : (s : ℕ) → s < serves.parts.geometry.sectors → entry_of (shape_of serves.parts) s ≡ index → is_among first count s ≡ true)
    (only : (s : ℕ) → is_among first count s ≡ true → (s < serves.parts.geometry.sectors) × (entry_of (shape_of serves.parts) s ≡ index)) where
  abbrev q : Shape
  q = shape_of serves.parts

  abbrev F : List ℕ
  F = seen (file_of trace file.number)

  abbrev H : List ℕ
  H = held l.tables.pending F

  abbrev new : List ℕ
  new = set_file serves.parts (sizes l trace file serves) H serves.as_held.numbers serves.as_held.sound (long l trace file serves) index word inside small

  kinds : IsBitmapEntry q index → ⊥
  kinds f = (entries_apart (chunk_ratio_of q) (ratio_in_range q.sector q.block (sizes l trace file serves).sector (sizes l trace file serves).block).0).kinds entry.block f.chunk (sym entry.at_index ∙ f.at_index)

  here : state_at q new index ≡ 2
  here = ap state_of (entry_here serves.parts (sizes l trace file serves) H serves.as_held.numbers serves.as_held.sound (long l trace file serves) index word inside small) ∙ two

  none : (a : Area) → HoldsBlock q new index a → ⊥
  none _ (payload e (inl six)) = let x : 2 ≡ 6 = sym here ∙ six in omega (arith, x)
  none _ (payload e (inr seven)) = let x : 2 ≡ 7 = sym here ∙ seven in omega (arith, x)
  none _ (bitmap e six) = kinds e

  good : IsGoodEntry serves.parts (sizes l trace file serves) H serves.as_held.numbers serves.as_held.sound (long l trace file serves) index word inside small
  good = record {
    placed = λ a h. absurd (none a h);
    apart = λ a b j ne h k. absurd (none a h);
    state = bad;
    bitmap = lacks;
    was = λ e. absurd (kinds e);
    six = λ e. absurd (kinds e);
  }
    where
      bad : HasBadState q new index → ⊥
      bad (inl (e, inl x)) = let y : 2 ≡ 4 = sym here ∙ x in omega (arith, y)
      bad (inl (e, inr (inl x))) = let y : 2 ≡ 5 = sym here ∙ x in omega (arith, y)
      bad (inl (e, inr (inr x))) = let y : 2 ≡ 7 = sym here ∙ x.0 in omega (arith, y)
      bad (inr (e, f, g)) = kinds e

      lacks : LacksBitmap q new index → ⊥
      lacks (e, seven, missing) = let y : 2 ≡ 7 = sym here ∙ seven in omega (arith, y)

  z_is : l.tables.parts.sector ≡ q.sector
  z_is = ap (λ (p : Shape). p.sector) serves.as_held.shape

  abbrev layer : chain.Layer
  layer = with_zeros l.tables.parts.sector first count file.member.layer

  not_named : (s : ℕ) → is_among first count s ≡ false → layer s ≡ file.member.layer s
  not_named s h = rw h refl

  on_disk : (s : ℕ) → s < q.sectors → layer s ≡ layer_sector q new s
  on_disk s below = by_name (cases_Bool (is_among first count s))
    where
      by_name : (is_among first count s ≡ true) ⊎ (is_among first count s ≡ false) → layer s ≡ layer_sector q new s
      by_name (inl h) =
          let i = (only s h).1 in
          let zeros_then : layer s ≡ Some (zeros l.tables.parts.sector) = rw h refl in
          let state : state_at q new (entry_of q s) ≡ 2 = ap (state_at q new) i ∙ here in
          zeros_then ∙ ap (λ n. Some (zeros n)) z_is
          ∙ sym (ap (λ n. sector_by_state q n (sector_bit q new s) (stored_sector q new s)) state ∙ by_state-zeros q 2 (sector_bit q new s) (stored_sector q new s) (omega arith) (omega arith))
      by_name (inr h) =
          not_named s h ∙ serves.as_held.has.on_disk s below
          ∙ sym (layer_beside serves.parts (sizes l trace file serves) H serves.as_held.numbers serves.as_held.sound (long l trace file serves) index word inside small good s below
          (λ e. let x : is_among first count s ≡ true = named s below e in let y : true ≡ false = sym x ∙ h in cc))

  off_disk : (s : ℕ) → q.sectors ≤ s → layer s ≡ None
  off_disk s above = by_name (cases_Bool (is_among first count s))
    where
      by_name : (is_among first count s ≡ true) ⊎ (is_among first count s ≡ false) → layer s ≡ None
      by_name (inl h) = absurd (let b = (only s h).0 in omega (arith, b, above))
      by_name (inr h) = not_named s h ∙ serves.as_held.has.off_disk s above

  sp : HasSpace l serves.parts serves.bytes F
  sp = serves.space

  -- nothing is a new block's, so what was nobody's is so still, and what was this block's alone is so now
  pub nobodys_then : (a : Area) → ((j : ℕ) (block : Area) → j ≢ index → HoldsBlock q H j block → (a.at + a.len ≤ block.at) ⊎ (block.at + block.len ≤ a.at)) → IsNobodys serves.parts (held t.pending F) a
  nobodys_then a apart = subst (λ z. IsNobodys serves.parts z a) (sym (entered_held l trace file serves t index word inside small into)) (record { apart = λ j block h. by_block j block h (cases_eq j index) })
    where
      by_block : (j : ℕ) (block : Area) → HoldsBlock q new j block → (j ≡ index) ⊎ (j ≢ index) → (a.at + a.len ≤ block.at) ⊎ (block.at + block.len ≤ a.at)
      by_block j block h (inl e) = absurd (none block (subst (λ n. HoldsBlock q new n block) e h))
      by_block j block h (inr ne) = apart j block ne (holds_beside serves.parts (sizes l trace file serves) H serves.as_held.numbers serves.as_held.sound (long l trace file serves) index word inside small j block ne h)

  pub left_space : HasSpace (layer_by l t l.space) serves.parts serves.bytes F
  left_space = record { next = sp.next; tight = sp.tight; placed = sp.placed; freed = λ k d b. nobodys_then (area_of (get_or l.space.freed k d)) (λ j block ne h. (sp.freed k d b).apart j block h); committed = sp.committed }

  left_enters : (space : Space) → HasSpace (layer_by l t space) serves.parts serves.bytes F → Enters l trace file serves t space index word inside small layer (loose_or_named first count file) serves.tables serves.written
  left_enters space space_is = record {
    into = into;
    good = good;
    has = record { on_disk = on_disk; off_disk = off_disk };
    clean = λ s h. let o = or_none (file.is_loose s) (is_among first count s) h in (o.0, not_named s o.1);
    running = serves.running;
    committed = serves.committed;
    fewer = λ i h. h;
    wider = λ i h. h;
    covers = λ i e. absurd (kinds e);
    only = λ i h. inl h;
    beside = λ a b j h k. absurd (none a h);
    space_is = space_is;
  }

  -- A block that leaves its place is served as zeros, by a space that may keep that place for later.
  pub left_serves : (space : Space) → HasSpace (layer_by l t space) serves.parts serves.bytes F → Serves (layer_by l t space) trace (placed_with layer (loose_or_named first count file) file)
  left_serves space space_is = entered_serves l trace file serves t space index word inside small layer (loose_or_named first count file) serves.tables serves.written (left_enters space space_is)
