-- What is planned for a block is done.
use Rattle.std.proofs.Common.{◌≡◌, ◌≢◌, ℕ, ◌+◌, ◌-◌, ◌*◌, ◌/◌, ◌%◌, ◌^◌, ◌<◌, ◌≤◌, ◌⊎◌, ◌==◌, ◌&&◌, ◌||◌, min, Bool, true, false, length, Some, refl, sym, ap, subst, ◌∙◌, arith, inl, inr, eq-eqb, if◌then◌else◌}
use Rattle.std.proofs.lemmas.Bool.{and_parts, cases_Bool, cases_eq, eqb-true}
use Rattle.layer_session.proofs.Leading.{keeps_now}
use Rattle.vx_base.specs.Fields.{zeros}
use Rattle.vhdx_format.specs.AllocationTables.{state_of, unit_of}
use Rattle.vhdx_format.specs.Fields.{megabyte}
use Rattle.vhdx_format.specs.FileParts.{shape_of}
use Rattle.vhdx_format.specs.HeldBlocks.{payload}
use Rattle.vhdx_format.specs.Layers.{HasSizes, Shape, bitmap_entry_of, entry_of, layer_sector, place_at, sector_bit, sector_by_state, state_at, stored_sector, table_entry}
use Rattle.vhdx_format.proofs.LayerLemmas.{by_state-base, by_state-zeros, sector_entries}
use Rattle.store_model.specs.Disk.{Disk, WhereBothTold, WhereTold}
use Rattle.store_model.specs.Trace.{Trace, file_of}
use Rattle.store_model.specs.File.{seen}
use Rattle.table_pages.specs.Held.{held}
use Rattle.table_pages.specs.Held as table_words
use Rattle.table_pages.specs.declared.tables.TableParts.{TableParts}
use Rattle.chain_model.specs.Images.{Placed}
use Rattle.chain_model.specs.Layers as chain
use Rattle.layer_session.specs.declared.file.Layer.{Layer}
use Rattle.layer_session.specs.declared.file.LayerFault.{LayerFault}
use Rattle.layer_session.specs.declared.planning.Plan.{Plan}
use Rattle.layer_session.specs.declared.planning.Step.{Step}
use Rattle.layer_session.specs.declared.planning.Step.TheVariants.{Drop, Leave, Write, Mark, Make, MakePart}
use Rattle.layer_session.specs.Calls.{HasPut, HoldsRest, KeepsOver, is_among, loose_or_named, placed_with, with_zeros}
use Rattle.layer_session.specs.Keeping.{IsReady, IsRunAt, Serves}
use Rattle.layer_session.specs.Planning.{are_marked, is_marking, is_whole, step_by}
use Rattle.layer_session.specs.Steps.{DropsBlock, IsMade, IsToDo, held_by}
use Rattle.layer_session.specs.Taking.{HasMade, IsAbsent, IsBroken, KeepsOthers, MayBeMade, whole}
use Rattle.layer_session.proofs.Alike.{block_in_file}
use Rattle.layer_session.proofs.Beside.{among}
use Rattle.layer_session.proofs.Entered.{held_as_long, sizes}
use Rattle.layer_session.proofs.Going.{ready_next}
use Rattle.layer_session.proofs.Marks.{Marks, marks_bits, marks_others, marks_serves, marks_state}
use Rattle.layer_session.proofs.Payload.{within}
use Rattle.layer_session.proofs.Parting.{none_among, run_in_one}
use Rattle.layer_session.proofs.Planned.{all_from}
use Rattle.layer_session.proofs.SameEntries.{held_here}
use Rattle.layer_session.proofs.Standing.{looser}
use Rattle.layer_session.proofs.Told.{both_map, both_self}

-- ---- what a step says of its block

-- of a block that is trimmed or not, whose named sectors are marked or not, by its entry
abbrev pub StepSays : Bool → Bool → Bool → ℕ → Step → Type 0
StepSays trimmed marked parent word Leave = (trimmed ≡ true) × (word ≡ 2)
StepSays trimmed marked parent word Drop = trimmed ≡ true
StepSays trimmed marked parent word Write = ((state_of word ≡ 7) × (marked ≡ true)) ⊎ (state_of word ≡ 6)
StepSays trimmed marked parent word Mark = state_of word ≡ 7
StepSays trimmed marked parent word Make = (state_of word ≢ 7) × ((state_of word ≢ 6) × ((state_of word ≢ 0) ⊎ (parent ≡ false)))
StepSays trimmed marked parent word MakePart = (state_of word ≡ 0) × (parent ≡ true)

not_eq : (n m : ℕ) → (n == m) ≡ false → n ≢ m
not_eq n m e h = let yes : (n == m) ≡ true = eq-eqb n m h in let wrong : true ≡ false = sym yes ∙ e in cc

pub step_says : (trimmed marked parent : Bool) (word : ℕ) → StepSays trimmed marked parent word (step_by trimmed marked parent word)
step_says true marked parent word = by_two (word == 2) (λ e. eqb-true word 2 e)
  where
    by_two : (b : Bool) → (b ≡ true → word ≡ 2) → StepSays true marked parent word (if b then Leave else Drop)
    by_two true f = (refl, f refl)
    by_two false f = refl
step_says false marked parent word = by_state (state_of word == 7) (state_of word == 0) (state_of word == 6) parent marked (λ e. eqb-true (state_of word) 7 e) (λ e. eqb-true (state_of word) 0 e) (λ e. eqb-true (state_of word) 6 e)
    (not_eq (state_of word) 7) (not_eq (state_of word) 0) (not_eq (state_of word) 6)
  where
    by_state : (seven absent six parent marked : Bool) → (seven ≡ true → state_of word ≡ 7) → (absent ≡ true → state_of word ≡ 0) → (six ≡ true → state_of word ≡ 6) → (seven ≡ false → state_of word ≢ 7) → (absent ≡ false → state_of word ≢ 0)
        → (six ≡ false → state_of word ≢ 6)
        → StepSays false marked parent word (if seven then (if marked then Write else Mark) else (if absent && parent then MakePart else (if six then Write else Make)))
    by_state true absent six parent true a b c x y z = inl (a refl, refl)
    by_state true absent six parent false a b c x y z = a refl
    by_state false true six true marked a b c x y z = (b refl, refl)
    by_state false true true false marked a b c x y z = inr (c refl)
    by_state false true false false marked a b c x y z = (x refl, (z refl, inr refl))
    by_state false false true parent marked a b c x y z = inr (c refl)
    by_state false false false parent marked a b c x y z = (x refl, (z refl, inl (y refl)))

module _ (l : Layer) (old : Disk) (ready : IsReady l old) (plan : Plan) (first count : ℕ) (some : 0 < count) (on_disk : first + count ≤ l.tables.parts.sectors)
    (run : first * l.tables.parts.sector % l.tables.parts.block + count * l.tables.parts.sector ≤ l.tables.parts.block)
    (todo : WhereTold old.told (λ t. (trims : Bool) × IsToDo (table_words.shape_of l.tables.parts) (held_by l t) trims first count plan)) where
  abbrev p : Shape
  p = table_words.shape_of l.tables.parts

  below : first < l.tables.parts.sectors
  below = omega (arith, some, on_disk)

  sized : HasSizes p
  sized = record { sector = ready.readable.sizes.sector; block = ready.readable.sizes.block }

  in_block : (s : ℕ) → is_among first count s ≡ true → entry_of p s ≡ entry_of p first
  in_block = run_in_one p sized first count run

  -- what the step says
  abbrev Says : Trace → Step → Type 0
  Says t step = (trims : Bool) × StepSays (trims && is_whole p first count) (are_marked p (held_by l t) first count) p.parent plan.word step

  says : (t : Trace) → old.told ≡ Some t → (step : Step) → plan.step ≡ step → Says t step
  says t told step e =
      let d = todo t told in (
        d.0,
        subst (StepSays (d.0 && is_whole p first count) (are_marked p (held_by l t) first count) p.parent plan.word) (sym d.1.step ∙ e)
            (subst (λ w. StepSays (d.0 && is_whole p first count) (are_marked p (held_by l t) first count) p.parent plan.word (step_by (d.0 && is_whole p first count) (are_marked p (held_by l t) first count) p.parent w)) d.1.word
            (step_says (d.0 && is_whole p first count) (are_marked p (held_by l t) first count) p.parent plan.word)),
      )

  word_is : (t : Trace) → old.told ≡ Some t → plan.word ≡ table_entry p (held_by l t) (entry_of p first)
  word_is t told = (todo t told).1.word

  -- more is loose
  more : (t : Trace) (file : Placed) → Serves l t file → Serves l t (placed_with file.member.layer (loose_or_named first count file) file)
  more t file serves = looser l t file (loose_or_named first count file) serves (λ s h. or_left (file.is_loose s) (is_among first count s) h)
    where
      or_left : (x y : Bool) → (x || y) ≡ false → x ≡ false
      or_left false y h = refl
      or_left true y h = cc

  pub quiet : WhereBothTold (KeepsOver l) old.told old.told
  quiet = keeps_now l old.told

  -- where a block stands, all of it is below the greatest number
  stands : (t : Trace) → old.told ≡ Some t → (state_of plan.word ≡ 6) ⊎ (state_of plan.word ≡ 7) → unit_of plan.word * megabyte + l.tables.parts.block ≤ 2 ^ 63
  stands t told there =
      let one = ready.told t told in
      let serves = one.1 in
      let most = serves.as_held.most in
      let H = held l.tables.pending (seen (file_of t one.0.number)) in
      let q = shape_of serves.parts in
      let word_q : plan.word ≡ table_entry q H (entry_of q first) = word_is t told ∙ ap (λ x. table_entry x (held_by l t) (entry_of x first)) serves.as_held.shape ∙ ap (λ z. table_entry q z (entry_of q first)) (sym (held_here l t one.0 serves)) in
      let below_q : first < q.sectors = subst (λ (x : Shape). first < x.sectors) serves.as_held.shape below in
      let b = block_in_file serves.parts H H (omega arith) (sizes l t one.0 serves) serves.as_held.numbers serves.as_held.sound (entry_of q first) (record { at = place_at q H (entry_of q first); len = q.block })
      (payload ((sector_entries q (record { sector = (sizes l t one.0 serves).sector; block = (sizes l t one.0 serves).block })).payload first below_q) (subst (λ w. (state_of w ≡ 6) ⊎ (state_of w ≡ 7)) word_q there)) in
      let w = b.within in
      let at : place_at q H (entry_of q first) ≡ unit_of plan.word * megabyte = ap (λ n. unit_of n * megabyte) (sym word_q) in
      let size : q.block ≡ l.tables.parts.block = ap (λ (x : Shape). x.block) (sym serves.as_held.shape) in
      omega (arith, w, at, size, most, held_as_long l t one.0 serves)

  -- states 4 and 5 stand for nothing, and 7 wants a parent
  good_state : (t : Trace) → old.told ≡ Some t → (state_of plan.word ≢ 4) × ((state_of plan.word ≢ 5) × ((state_of plan.word ≡ 7) → p.parent ≡ true))
  good_state t told =
      let one = ready.told t told in
      let serves = one.1 in
      let H = held l.tables.pending (seen (file_of t one.0.number)) in
      let q = shape_of serves.parts in
      let word_q : plan.word ≡ table_entry q H (entry_of q first) = word_is t told ∙ ap (λ x. table_entry x (held_by l t) (entry_of x first)) serves.as_held.shape ∙ ap (λ z. table_entry q z (entry_of q first)) (sym (held_here l t one.0 serves)) in
      let below_q : first < q.sectors = subst (λ (x : Shape). first < x.sectors) serves.as_held.shape below in
      let e = (sector_entries q (record { sector = (sizes l t one.0 serves).sector; block = (sizes l t one.0 serves).block })).payload first below_q in
      let same : q.parent ≡ p.parent = ap (λ (x : Shape). x.parent) (sym serves.as_held.shape) in (
        λ four. serves.as_held.sound.states (entry_of q first) (inl (e, inl (ap state_of (sym word_q) ∙ four))),
        (
          λ five. serves.as_held.sound.states (entry_of q first) (inl (e, inr (inl (ap state_of (sym word_q) ∙ five)))),
          λ seven. by_parent (cases_Bool p.parent) (λ alone. serves.as_held.sound.states (entry_of q first) (inl (e, inr (inr (ap state_of (sym word_q) ∙ seven, same ∙ alone))))),
        ),
      )
    where
      by_parent : (p.parent ≡ true) ⊎ (p.parent ≡ false) → (p.parent ≡ false → ⊥) → p.parent ≡ true
      by_parent (inl h) f = h
      by_parent (inr h) f = absurd (f h)

  -- ---- a block that is zeros without a place

  zeros_already : (t : Trace) → old.told ≡ Some t → (file : Placed) → Serves l t file → state_of plan.word < 4 → (state_of plan.word ≢ 0) ⊎ (p.parent ≡ false) → with_zeros l.tables.parts.sector first count file.member.layer ≡ file.member.layer
  zeros_already t told file serves four absent = λ i s. by_name s (cases_Bool (is_among first count s)) i
    where
      by_state : (s : ℕ) → (state_of plan.word ≡ 0) ⊎ (state_of plan.word ≢ 0) → (state_of plan.word ≢ 0) ⊎ (p.parent ≡ false)
          → sector_by_state p (state_of plan.word) (sector_bit p (held_by l t) s) (stored_sector p (held_by l t) s) ≡ Some (zeros p.sector)
      by_state s (inr n) any = by_state-zeros p (state_of plan.word) (sector_bit p (held_by l t) s) (stored_sector p (held_by l t) s) (omega (arith, n)) four
      by_state s (inl z) (inl n) = absurd (n z)
      by_state s (inl z) (inr alone) = ap (λ k. sector_by_state p k (sector_bit p (held_by l t) s) (stored_sector p (held_by l t) s)) z ∙ by_state-base p (sector_bit p (held_by l t) s) (stored_sector p (held_by l t) s) alone

      all : (s : ℕ) → s < p.sectors → is_among first count s ≡ true → layer_sector p (held_by l t) s ≡ Some (zeros p.sector)
      all s b n =
          let st : state_at p (held_by l t) (entry_of p s) ≡ state_of plan.word = ap (state_at p (held_by l t)) (in_block s n) ∙ ap state_of (sym (word_is t told)) in
          ap (λ k. sector_by_state p k (sector_bit p (held_by l t) s) (stored_sector p (held_by l t) s)) st ∙ by_state s (cases_eq (state_of plan.word) 0) absent

      all_q : (s : ℕ) → s < (shape_of serves.parts).sectors → is_among first count s ≡ true → layer_sector (shape_of serves.parts) (held l.tables.pending (seen (file_of t file.number))) s ≡ Some (zeros (shape_of serves.parts).sector)
      all_q = subst (λ z. (s : ℕ) → s < (shape_of serves.parts).sectors → is_among first count s ≡ true → layer_sector (shape_of serves.parts) z s ≡ Some (zeros (shape_of serves.parts).sector)) (sym (held_here l t file serves))
          (subst (λ (x : Shape). (s : ℕ) → s < x.sectors → is_among first count s ≡ true → layer_sector x (held_by l t) s ≡ Some (zeros x.sector)) serves.as_held.shape all)

      by_name : (s : ℕ) → (is_among first count s ≡ true) ⊎ (is_among first count s ≡ false) → with_zeros l.tables.parts.sector first count file.member.layer s ≡ file.member.layer s
      by_name s (inr off) = rw off refl
      by_name s (inl here) =
          let b : s < (shape_of serves.parts).sectors = subst (λ (x : Shape). s < x.sectors) serves.as_held.shape (let v = within first count s here in let to = v.1 in omega (arith, to, on_disk)) in
          let left : with_zeros l.tables.parts.sector first count file.member.layer s ≡ Some (zeros l.tables.parts.sector) = rw here refl in
          left ∙ ap (λ (x : Shape). Some (zeros x.sector)) serves.as_held.shape ∙ sym (serves.as_held.has.on_disk s b ∙ all_q s b here)

  -- it stays one
  module _ (step : plan.step ≡ Leave) where
    pub left_put : WhereBothTold (HasPut l l first count (with_zeros l.tables.parts.sector first count)) old.told old.told
    left_put = both_self (HasPut l l first count (with_zeros l.tables.parts.sector first count)) old.told (λ t told. record {
      serves = λ file serves. subst (λ (z : chain.Layer). Serves l t (placed_with z (loose_or_named first count file) file)) (sym (zeros_already t told file serves (let e = (says t told Leave step).1.1 in omega (arith, e)) (inl (λ z. let e = (says t told Leave step).1.1 in omega (arith, e, z))))) (more t file serves);
    })

  -- ---- a block is dropped

  pub drop_whole : plan.step ≡ Drop → WhereTold old.told (λ t. is_whole p first count ≡ true)
  drop_whole step t told = (and_parts _ _ (says t told Drop step).1).1

  pub drop_put : (new : Layer) → WhereTold old.told (DropsBlock l new first count) → WhereBothTold (HasPut l new first count (with_zeros l.tables.parts.sector first count)) old.told old.told
  drop_put new drops = both_self (HasPut l new first count (with_zeros l.tables.parts.sector first count)) old.told (λ t told. record { serves = drops t told })

  -- ---- a block is written where it is

  module _ (offset place : ℕ) (offset_is : offset ≡ first * l.tables.parts.sector % l.tables.parts.block) (fits : offset + l.tables.parts.sector ≤ l.tables.parts.block) (place_is : place ≡ min (plan.word / 2 ^ 20 * megabyte + offset) (2 ^ 64 - 1)) where
    at : (t : Trace) → old.told ≡ Some t → (state_of plan.word ≡ 6) ⊎ (state_of plan.word ≡ 7) → place ≡ place_at p (held_by l t) (entry_of p first) + first * l.tables.parts.sector % l.tables.parts.block
    at t told there =
        let small = stands t told there in
        let e : place_at p (held_by l t) (entry_of p first) ≡ plan.word / 2 ^ 20 * megabyte = ap (λ n. unit_of n * megabyte) (sym (word_is t told)) in
        omega (arith, place_is, small, e, offset_is, fits)

    pub write_made : plan.step ≡ Write → WhereBothTold (IsMade l l first count place) old.told old.told
    write_made step = both_self (IsMade l l first count place) old.told (λ t told. record {
      stand = by_state t told (says t told Write step).1;
      serves = λ file serves. (file.member.layer, more t file serves, λ s off. refl);
    })
      where
        by_state : (t : Trace) → old.told ≡ Some t → ((state_of plan.word ≡ 7) × (are_marked p (held_by l t) first count ≡ true)) ⊎ (state_of plan.word ≡ 6) → IsRunAt p (held_by l t) first count place
        by_state t told (inl x) = record {
          some = some;
          run = run;
          there = inr (ap state_of (sym (word_is t told)) ∙ x.0);
          place_is = at t told (inr x.0);
          marked = λ s from to seven. eqb-true (sector_bit p (held_by l t) s) 1 (all_from (λ s. sector_bit p (held_by l t) s == 1) first count x.1 s from to);
        }
        by_state t told (inr six) = record {
          some = some;
          run = run;
          there = inl (ap state_of (sym (word_is t told)) ∙ six);
          place_is = at t told (inl six);
          marked = λ s from to seven. absurd (let e : state_of plan.word ≡ 7 = ap state_of (word_is t told) ∙ seven in omega (arith, six, e));
        }

    -- ---- and its sectors are marked

    module _ (step : plan.step ≡ Mark) (new : Layer) (m : Marks l new plan.bitmap first count true) (room : first % 2 ^ 23 + count ≤ 2 ^ 23) where
      seven : (t : Trace) → old.told ≡ Some t → state_of plan.word ≡ 7
      seven t told = (says t told Mark step).1

      parent : (t : Trace) → old.told ≡ Some t → l.tables.parts.parent ≡ true
      parent t told = (good_state t told).1.1 (seven t told)

      bitmap : (t : Trace) → old.told ≡ Some t → (plan.bitmap % 8 ≡ 6) × (plan.bitmap ≡ table_entry p (held_by l t) (bitmap_entry_of p first))
      bitmap t told = (todo t told).1.bitmap (ap is_marking step)

      one_made : (t : Trace) → old.told ≡ Some t → IsMade l new first count place t t
      one_made t told =
          let one = ready.told t told in
          let same = marks_state l new plan.bitmap first count true m t one.0 one.1 below (parent t told) (bitmap t told).0 (bitmap t told).1 room first below in
          record {
            stand = subst (λ (x : TableParts). IsRunAt (table_words.shape_of x) (held_by new t) first count place) (sym m.parts) (record {
              some = some;
              run = run;
              there = inr (ap state_of (same ∙ sym (word_is t told)) ∙ seven t told);
              place_is = at t told (inr (seven t told)) ∙ ap (λ n. unit_of n * megabyte + first * l.tables.parts.sector % l.tables.parts.block) (sym same);
              marked = λ s from to h. marks_bits l new plan.bitmap first count true m t one.0 one.1 below (parent t told) (bitmap t told).0 (bitmap t told).1 room s (omega (arith, to, on_disk)) (among first count s from to);
            });
            serves = λ file serves. let x = marks_serves l new plan.bitmap first count true m t file serves below (parent t told) (bitmap t told).0 (bitmap t told).1 room in (x.0, x.1.0, x.1.1);
          }

      pub mark_made : WhereBothTold (IsMade l new first count place) old.told old.told
      mark_made = both_self (IsMade l new first count place) old.told one_made

      pub mark_kept : WhereBothTold (KeepsOthers l new first) old.told old.told
      mark_kept = both_self (KeepsOthers l new first) old.told (λ t told. let one = ready.told t told in
          marks_others l new plan.bitmap first count true m t one.0 one.1 below (parent t told) (bitmap t told).0 (bitmap t told).1 room (λ s b n. in_block s n))

      pub mark_ready : IsReady new old
      mark_ready =
          ready_next l new old old ready refl m.parts (ap (λ (x : Layer). x.log.file) m.only) (subst (λ (x : Layer). x.log.len ≤ x.space.next * megabyte) (sym m.only) ready.next) (subst (λ (x : Layer). x.space.next ≤ 2 ^ 44) (sym m.only) ready.most)
          (subst (λ (x : Layer). x.zeros.items ≡ zeros megabyte) (sym m.only) ready.clear) (subst (λ (x : Layer). length x.plans.items ≡ 257) (sym m.only) ready.plans)
          (both_map (IsMade l new first count place) _ old.told old.told mark_made (λ t u b c h file serves. let x = h.serves file serves in (placed_with x.0 (loose_or_named first count file) file, x.1)))

  -- ---- a block is made

  pub make_may : plan.step ≡ Make → WhereTold old.told (λ t. MayBeMade p (held_by l t) first 6)
  make_may step t told =
      let k = (says t told Make step).1 in
      let g = good_state t told in
      let e : state_at p (held_by l t) (entry_of p first) ≡ state_of plan.word = ap state_of (sym (word_is t told)) in
      let four : state_of plan.word < 4 = omega (arith, k.0, k.1.0, g.0, g.1.0) in
      whole refl (omega (arith, e, four)) (by_side e k.1.1)
    where
      by_side : state_at p (held_by l t) (entry_of p first) ≡ state_of plan.word → (state_of plan.word ≢ 0) ⊎ (p.parent ≡ false) → (state_at p (held_by l t) (entry_of p first) ≢ 0) ⊎ (p.parent ≡ false)
      by_side e (inl n) = inl (λ z. n (sym e ∙ z))
      by_side e (inr h) = inr h

  pub make_made : (new : Layer) (behind : Disk) (place : ℕ) → new.tables.parts ≡ l.tables.parts → WhereBothTold (HasMade l new first 6 place) old.told behind.told → WhereBothTold (IsMade l new first count place) old.told behind.told
  make_made new behind place parts made =
      both_map (HasMade l new first 6 place) (IsMade l new first count place) old.told behind.told made (λ t u told after h. record {
        stand = subst (λ (x : TableParts). IsRunAt (table_words.shape_of x) (held_by new u) first count place) (sym parts) (record {
          some = some;
          run = run;
          there = inl h.state_is;
          place_is = h.place_is;
          marked = λ s from to seven. absurd (let six = h.state_is in omega (arith, six, seven));
        });
        serves = λ file serves. (file.member.layer, looser new u file (loose_or_named first count file) (h.serves file serves) (λ s n. or_left (file.is_loose s) (is_among first count s) n), λ s off. refl);
      })
    where
      or_left : (x y : Bool) → (x || y) ≡ false → x ≡ false
      or_left false y h = refl
      or_left true y h = cc

  -- it is zeros still, and needn't be written
  pub make_zeros : (step : plan.step ≡ Make) (new : Layer) (behind : Disk) (place : ℕ) → WhereBothTold (HasMade l new first 6 place) old.told behind.told → WhereBothTold (HasPut l new first count (with_zeros l.tables.parts.sector first count)) old.told behind.told
  make_zeros step new behind place made =
      both_map (HasMade l new first 6 place) (HasPut l new first count (with_zeros l.tables.parts.sector first count)) old.told behind.told made (λ t u told after h. record {
        serves = λ file serves.
            let k = (says t told Make step).1 in
            let g = good_state t told in
            let four : state_of plan.word < 4 = omega (arith, k.0, k.1.0, g.0, g.1.0) in
            subst (λ (z : chain.Layer). Serves new u (placed_with z (loose_or_named first count file) file)) (sym (zeros_already t told file serves four k.1.1))
            (looser new u file (loose_or_named first count file) (h.serves file serves) (λ s n. or_left (file.is_loose s) (is_among first count s) n));
      })
    where
      or_left : (x y : Bool) → (x || y) ≡ false → x ≡ false
      or_left false y h = refl
      or_left true y h = cc

  pub make_broken : (left : Layer) (new : Disk) (fault : LayerFault) → IsBroken l left 0 0 old new fault → IsBroken l left first count old new fault
  make_broken left new fault b = record {
    cause = b.cause;
    written = b.written;
    fails = b.fails;
    readable = b.readable;
    holds = both_map (HoldsRest l left 0 0) (HoldsRest l left first count) old.told new.told b.holds (λ t u told after k. record { holds = λ file serves. let h = k.holds file serves in (h.0, (h.1.0, h.1.1, λ s off. h.1.2 s (none_among s))) });
    parts = b.parts;
    number = b.number;
    header = b.header;
  }

  pub part_absent : plan.step ≡ MakePart → WhereTold old.told (λ t. IsAbsent p (held_by l t) first plan.bitmap)
  part_absent step t told =
      let k = (says t told MakePart step).1 in
      let b = (todo t told).1.bitmap (ap is_marking step) in
      record { parent = k.1; absent = ap state_of (sym (word_is t told)) ∙ k.0; there = b.0; word_is = b.1 }
