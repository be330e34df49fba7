-- What is still to be done, and what it rests on, by the plans and the file as held.
use Rattle.std.proofs.Common.{◌≡◌, ◌≢◌, ℕ, zero, suc, ◌+◌, ◌*◌, ◌/◌, ◌%◌, ◌^◌, ◌<◌, ◌≤◌, ◌⊎◌, ◌==◌, ◌&&◌, Bool, true, false, List, refl, sym, ap, ◌∙◌, arith, inl, inr, if◌then◌else◌}
use Rattle.std.specs.List.{list_all, range_with_len}
use Rattle.std.proofs.lemmas.Bool.{cases_Bool, cases_eq, ne_eqb}
use Rattle.vhdx_format.specs.AllocationTables.{state_of}
use Rattle.vhdx_format.specs.HeldBlocks.{HasGoodStates}
use Rattle.vhdx_format.specs.Layers.{HasSizes, Shape, bitmap_entry_of, chunk_ratio_of, entry_of, sector_bit, state_at, table_entry}
use Rattle.vhdx_format.proofs.LayerLemmas.{sector_entries}
use Rattle.layer_session.specs.Bringing.{InChunk, NamesBitmap, SaysSame}
use Rattle.layer_session.specs.Planning.{EachRun, IsPlanned, are_marked, is_marking, is_part, is_whole, step_by, step_of}
use Rattle.layer_session.specs.declared.planning.Plan.{Plan}
use Rattle.layer_session.specs.declared.planning.Step.{Step}
use Rattle.layer_session.specs.declared.planning.Step.TheVariants.{Drop, Leave, Write, Mark, Make, MakePart}
use Rattle.layer_session.proofs.BitRuns.{LiesIn, each_map, each_two, each_within}
use Rattle.layer_session.proofs.Tally.{HasBlock}

-- ---- steps

-- the planned step is the one for its block, and the entry is its entry
pub record IsStep (p : Shape) (file : List ℕ) (trims : Bool) (first count : ℕ) (plan : Plan) : Type 0 where
  pub step : plan.step ≡ step_of p file trims first count
  pub word : plan.word ≡ table_entry p file (entry_of p first)

-- of a block that isn't partially present the bits don't matter
bits_idle : (t a b parent : Bool) (word : ℕ) → state_of word ≢ 7 → step_by t a parent word ≡ step_by t b parent word
bits_idle true a b parent word ne = refl
bits_idle false a b parent word ne = let e : (state_of word == 7) ≡ false = ne_eqb _ _ ne in rw e refl

-- sectors are marked in a file with a parent alone
marking_by : (t marked parent : Bool) (word : ℕ) → is_marking (step_by t marked parent word) ≡ true → (state_of word ≡ 7) ⊎ (parent ≡ true)
marking_by t marked true word h = inr refl
marking_by t marked false word h = by_state t marked (cases_eq (state_of word) 7) h
  where
    and_off : (x : Bool) → (x && false) ≡ false
    and_off true = refl
    and_off false = refl

    rest : (a b : Bool) → is_marking (if a && false then MakePart else (if b then Write else Make)) ≡ true → ⊥
    rest true true e = cc
    rest true false e = cc
    rest false true e = cc
    rest false false e = cc

    by_state : (t marked : Bool) → (state_of word ≡ 7) ⊎ (state_of word ≢ 7) → is_marking (step_by t marked false word) ≡ true → (state_of word ≡ 7) ⊎ (false ≡ true)
    by_state t marked (inl e) h = inl e
    by_state true marked (inr ne) h = by_two (word == 2) h
      where
        by_two : (b : Bool) → is_marking (if b then Leave else Drop) ≡ true → (state_of word ≡ 7) ⊎ (false ≡ true)
        by_two true e = cc
        by_two false e = cc
    by_state false marked (inr ne) h = absurd (rest (state_of word == 0) (state_of word == 6) (let e : (state_of word == 7) ≡ false = ne_eqb _ _ ne in rw e at h))

-- a step that marks but makes no block is for a partially present one
marks_seven : (t marked parent : Bool) (word : ℕ) → is_marking (step_by t marked parent word) ≡ true → is_part (step_by t marked parent word) ≡ false → state_of word ≡ 7
marks_seven t marked parent word h off = by_state t marked (cases_eq (state_of word) 7) h off
  where
    rest : (a b : Bool) → is_marking (if a then MakePart else (if b then Write else Make)) ≡ true → is_part (if a then MakePart else (if b then Write else Make)) ≡ false → ⊥
    rest true b e f = cc
    rest false true e f = cc
    rest false false e f = cc

    by_state : (t marked : Bool) → (state_of word ≡ 7) ⊎ (state_of word ≢ 7) → is_marking (step_by t marked parent word) ≡ true → is_part (step_by t marked parent word) ≡ false → state_of word ≡ 7
    by_state t marked (inl e) h off = e
    by_state true marked (inr ne) h off = by_two (word == 2) h
      where
        by_two : (b : Bool) → is_marking (if b then Leave else Drop) ≡ true → state_of word ≡ 7
        by_two true e = cc
        by_two false e = cc
    by_state false marked (inr ne) h off =
        let e : (state_of word == 7) ≡ false = ne_eqb _ _ ne in
        absurd (rest ((state_of word == 0) && parent) (state_of word == 6) (rw e at h) (rw e at off))

module _ (p : Shape) (sizes : HasSizes p) (file : List ℕ) (good : HasGoodStates p file) where
  pub seven_parent : (s : ℕ) → s < p.sectors → state_at p file (entry_of p s) ≡ 7 → p.parent ≡ true
  seven_parent s below seven = by_parent (cases_Bool p.parent)
    where
      by_parent : (p.parent ≡ true) ⊎ (p.parent ≡ false) → p.parent ≡ true
      by_parent (inl e) = e
      by_parent (inr e) = absurd (good (entry_of p s) (inl ((sector_entries p sizes).payload s below, inr (inr (seven, e)))))

  -- a planned step that marks sectors is of a file with a parent
  pub planned_parent : (trims : Bool) (s n : ℕ) (plan : Plan) → s < p.sectors → IsPlanned p file trims s n plan → is_marking plan.step ≡ true → p.parent ≡ true
  planned_parent trims s n plan below h m =
      by_case (marking_by (trims && is_whole p s n) (are_marked p file s n) p.parent (table_entry p file (entry_of p s)) (ap is_marking (sym h.step) ∙ m))
    where
      by_case : (state_at p file (entry_of p s) ≡ 7) ⊎ (p.parent ≡ true) → p.parent ≡ true
      by_case (inl seven) = seven_parent s below seven
      by_case (inr e) = e

  -- ---- the entry of the sector bitmap block

  module _ (plans : List Plan) (first count : ℕ) (on_disk : first + count ≤ p.sectors) (trims : Bool) (planned : EachRun p plans (IsPlanned p file trims) 0 first count)
      (there : (s : ℕ) → s < p.sectors → p.parent ≡ true → state_at p file (entry_of p s) ≡ 7 → state_at p file (bitmap_entry_of p s) ≡ 6) where
    each_planned : EachRun p plans (λ s n plan. LiesIn p first (first + count) s n × IsPlanned p file trims s n plan) 0 first count
    each_planned = each_within p sizes plans (IsPlanned p file trims) first (first + count) 0 first count (omega arith) (omega arith) planned

    on : (s n : ℕ) → LiesIn p first (first + count) s n → s < p.sectors
    on s n x = let a = x.some in let b = x.high in omega (arith, a, b, on_disk)

    -- where a block that is made in part has its sector bitmap block, each plan names it
    pub names_by : (chunk : ℕ) → EachRun p plans (InChunk chunk HasBlock) 0 first count → EachRun p plans (InChunk chunk (NamesBitmap p file)) 0 first count
    names_by chunk has =
        each_map p plans (λ s n plan. (LiesIn p first (first + count) s n × IsPlanned p file trims s n plan) × InChunk chunk HasBlock s n plan) (InChunk chunk (NamesBitmap p file))
        (λ s n plan h e. record {
          parent = planned_parent trims s n plan (on s n h.0.0) h.0.1;
          six = λ m. six s n plan (on s n h.0.0) h.0.1 (h.1 e) m (cases_Bool (is_part plan.step));
          is = h.0.1.bitmap;
        }) 0 first count (each_two p plans (λ s n plan. LiesIn p first (first + count) s n × IsPlanned p file trims s n plan) (InChunk chunk HasBlock) 0 first count each_planned has)
      where
        six : (s n : ℕ) (plan : Plan) → s < p.sectors → IsPlanned p file trims s n plan → HasBlock s n plan → is_marking plan.step ≡ true → (is_part plan.step ≡ true) ⊎ (is_part plan.step ≡ false) → plan.bitmap % 8 ≡ 6
        six s n plan below h has m (inl part) = has.has part
        six s n plan below h has m (inr off) =
            let seven : state_at p file (entry_of p s) ≡ 7 =
            marks_seven (trims && is_whole p s n) (are_marked p file s n) p.parent (table_entry p file (entry_of p s)) (ap is_marking (sym h.step) ∙ m) (ap is_part (sym h.step) ∙ off) in
            ap (λ w. w % 8) (h.bitmap m) ∙ there s below (seven_parent s below seven) seven

    -- in a file without a parent no sectors are marked
    pub names_alone : (chunk : ℕ) → p.parent ≡ false → EachRun p plans (InChunk chunk (NamesBitmap p file)) 0 first count
    names_alone chunk alone =
        each_map p plans (λ s n plan. LiesIn p first (first + count) s n × IsPlanned p file trims s n plan) (InChunk chunk (NamesBitmap p file))
        (λ s n plan h e. let off : is_marking plan.step ≡ true → ⊥ = λ m. (let on_it = planned_parent trims s n plan (on s n h.0) h.1 m in let no_way : true ≡ false = sym on_it ∙ alone in cc) in
        record { parent = λ m. absurd (off m); six = λ m. absurd (off m); is = λ m. absurd (off m) }) 0 first count each_planned

    -- where the block is there, each that is made in part has it
    pub has_by : (sector : ℕ) → state_at p file (bitmap_entry_of p sector) ≡ 6 → EachRun p plans (InChunk (sector / 2 ^ 23) HasBlock) 0 first count
    has_by sector six =
        each_map p plans (IsPlanned p file trims) (InChunk (sector / 2 ^ 23) HasBlock)
        (λ s n plan h e. record { has = λ part. ap state_of (h.bitmap (part_marks plan.step part) ∙ ap (λ c. table_entry p file (c * (chunk_ratio_of p + 1) + chunk_ratio_of p)) e) ∙ six }) 0 first count planned
      where
        part_marks : (s : Step) → is_part s ≡ true → is_marking s ≡ true
        part_marks Drop h = cc
        part_marks Leave h = cc
        part_marks Write h = cc
        part_marks Mark h = cc
        part_marks Make h = cc
        part_marks MakePart h = refl

-- ---- the same by other bytes

pub step_says : (p : Shape) → HasSizes p → (old new : List ℕ) → HasGoodStates p old → SaysSame p old new → (trims : Bool) (s n : ℕ) → 0 < n → s + n ≤ p.sectors → ((i : ℕ) → s ≤ i → i < s + n → entry_of p i ≡ entry_of p s)
    → step_of p new trims s n ≡ step_of p old trims s n
step_says p sizes old new good says trims s n some on_disk one =
    ap (λ w. step_by (trims && is_whole p s n) (are_marked p new s n) p.parent w) (says.entry s below) ∙ by_state (cases_eq (state_at p old (entry_of p s)) 7)
  where
    below : s < p.sectors
    below = omega (arith, some, on_disk)

    all_same : (a m : ℕ) → ((i : ℕ) → a ≤ i → i < a + m → sector_bit p new i ≡ sector_bit p old i) → list_all (λ i. sector_bit p new i == 1) (range_with_len a m) ≡ list_all (λ i. sector_bit p old i == 1) (range_with_len a m)
    all_same a zero f = refl
    all_same a (suc m) f =
        ap (λ b. (b == 1) && list_all (λ i. sector_bit p new i == 1) (range_with_len (a + 1) m)) (f a (omega arith) (omega arith))
        ∙ ap (λ b. (sector_bit p old a == 1) && b) (all_same (a + 1) m (λ i l k. f i (omega (arith, l)) (omega (arith, k))))

    by_state : (state_at p old (entry_of p s) ≡ 7) ⊎ (state_at p old (entry_of p s) ≢ 7)
        → step_by (trims && is_whole p s n) (are_marked p new s n) p.parent (table_entry p old (entry_of p s)) ≡ step_by (trims && is_whole p s n) (are_marked p old s n) p.parent (table_entry p old (entry_of p s))
    by_state (inr ne) = bits_idle (trims && is_whole p s n) (are_marked p new s n) (are_marked p old s n) p.parent (table_entry p old (entry_of p s)) ne
    by_state (inl seven) =
        ap (λ b. step_by (trims && is_whole p s n) b p.parent (table_entry p old (entry_of p s)))
        (all_same s n (λ i l k. says.bits i (omega (arith, k, on_disk)) (seven_parent p sizes old good s below seven) (ap (state_at p old) (one i l k) ∙ seven)))
