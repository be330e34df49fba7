-- What the blocks of a call want together: one block before the rest.
use Rattle.std.proofs.Common.{◌≡◌, ◌≢◌, ℕ, ◌+◌, ◌-◌, ◌*◌, ◌/◌, ◌%◌, ◌^◌, ◌<◌, ◌≤◌, ◌⊎◌, ◌==◌, ◌&&◌, ◌||◌, Bool, true, false, cond, List, refl, sym, ap, subst, ◌∙◌, arith, inl, inr, eq-eqb, if◌then◌else◌}
use Rattle.std.specs.Prelude.{Some, None, Option, count_by, not, max, min, slice_get}
use Rattle.std.specs.List.{list_any, range_with_len}
use Rattle.std.proofs.lemmas.Bool.{cases_Bool, cases_eq, cases_lt, ne_eqb}
use Rattle.std.proofs.lemmas.Nat.{div-add-mod', mod_below}
use Rattle.std.proofs.Math.Nat.{add-mul, mul-le-mul_right}
use Rattle.vhdx_format.specs.AllocationTables.{bitmap_index_of, state_of}
use Rattle.vhdx_format.specs.Layers.{HasSizes, Shape, bitmap_entry_of, block_count, block_of, chunk_count, chunk_ratio_of, state_at, table_entry}
use Rattle.vhdx_format.proofs.LayerLemmas.{div-div_ceil, same_chunk}
use Rattle.vhdx_format.proofs.SizeLemmas.{block_least, ratio_in_range, sector_least}
use Rattle.layer_session.specs.Blocks.{blocks_of, run_in_block}
use Rattle.layer_session.specs.Planning.{AreCounted, IsFirst, IsLooked, IsPlanned, blocks_with, changes_tables, is_changing, is_chunk, is_chunk_wanted, is_making, is_marking, is_part, before as counted, more, none, step_at, step_of, wanted_bitmaps, wanted_blocks, wants_bitmap, with_plan}
use Rattle.layer_session.specs.declared.planning.Plan.{Plan}
use Rattle.layer_session.specs.declared.planning.Wanted.{Wanted}
use Rattle.layer_session.specs.declared.planning.Step.{Step}
use Rattle.layer_session.specs.declared.planning.Step.TheVariants.{Drop, Leave, Write, Mark, Make, MakePart}
use Rattle.store_model.specs.Disk.{Disk}
use Rattle.store_model.specs.Trace.{Trace}
use Rattle.table_pages.specs.Held.{HasTables, held_file, shape_of}
use Rattle.table_pages.specs.declared.tables.TableParts.{TableParts}
use Rattle.table_pages.specs.declared.tables.Tables.{Tables}
use Rattle.layer_session.specs.TablesRead.{HasRead}
use Rattle.layer_session.proofs.Planned.{same_held}
use Rattle.layer_session.proofs.BlockRuns.{IsRun, runs}
use Rattle.layer_session.proofs.Counting.{after, any_none, any_same, before, beside, count_cons, count_more, count_none, count_same, here, quiet}

-- 1 of a test that is passed
abbrev as_one : Bool → ℕ
as_one b = cond b 1 0

part_marks : (s : Step) → is_part s ≡ true → is_marking s ≡ true
part_marks Drop h = cc
part_marks Leave h = cc
part_marks Write h = cc
part_marks Mark h = cc
part_marks Make h = cc
part_marks MakePart h = refl

-- what no number below k passes, the first of them tells of k
first_tells : (test : ℕ → Bool) (o : Option ℕ) (k : ℕ) → IsFirst test o → ((c : ℕ) → c < k → test c ≡ false) → test k ≡ is_chunk k o
first_tells test None k first low = first k
first_tells test (Some c) k first low = by_place (cases_eq c k) (cases_lt c k)
  where
    by_place : (c ≡ k) ⊎ (c ≢ k) → (c < k) ⊎ (k ≤ c) → test k ≡ (c == k)
    by_place (inl e) any = ap test (sym e) ∙ first.0 ∙ sym (eq-eqb c k e)
    by_place (inr ne) (inl l) = let no_way : false ≡ true = sym (low c l) ∙ first.0 in cc
    by_place (inr ne) (inr l) = first.1 k (omega (arith, ne, l)) ∙ sym (ne_eqb c k ne)

pub looked_none : (p : Shape) (file : List ℕ) (trims : Bool) (plans : List Plan) (k first count : ℕ) → count ≡ 0 → IsLooked p file trims plans k first count (record { blocks = 0; bitmaps = 0; tables = false; chunk = None })
looked_none p file trims plans k first count e = record {
  planned = none k first count e;
  blocks = rw e refl;
  bitmaps = sym (nothing (chunk_count p));
  tables = rw e refl;
  chunk = unwanted;
}
  where
    and_false : (b : Bool) → (b && false) ≡ false
    and_false true = refl
    and_false false = refl

    unwanted : (c : ℕ) → is_chunk_wanted p file trims first count c ≡ false
    unwanted c = rw e (and_false _)

    nothing : (n : ℕ) → count_by (is_chunk_wanted p file trims first count) (range_with_len 0 n) ≡ 0
    nothing n = count_same (is_chunk_wanted p file trims first count) (λ c. false) 0 n (λ c a b. unwanted c) ∙ count_none 0 n

module _ (p : Shape) (h : HasSizes p) (file : List ℕ) (trims : Bool) (plans : List Plan) (k first count : ℕ) (rest : Wanted) (plan : Plan) (some : 0 < count) (on_disk : first + count ≤ p.sectors)
    (planned : IsPlanned p file trims first (run_in_block p first count) plan) (there : slice_get plans k ≡ Some plan)
    (looked : IsLooked p file trims plans (k + 1) (first + run_in_block p first count) (count - run_in_block p first count) rest) where
  abbrev run : ℕ
  run = run_in_block p first count

  abbrev next : ℕ
  next = first + run

  abbrev left : ℕ
  left = count - run

  r : IsRun p first count
  r = runs p h first count some

  abbrev step : ℕ → Step
  step b = step_at p file trims first (first + count) b

  abbrev later : ℕ → Step
  later b = step_at p file trims next (next + left) b

  ends : next + left ≡ first + count
  ends = omega (arith, r.most)

  -- the step of the first block is the planned one
  first_step : step (block_of p first) ≡ plan.step
  first_step = ap (λ s. step_of p file trims s (min (first + count) ((block_of p first + 1) * (p.block / p.sector)) - max first (block_of p first * (p.block / p.sector)))) r.from ∙ ap (step_of p file trims first) r.long ∙ sym planned.step

  -- and those of the others are theirs
  later_step : (b : ℕ) → block_of p next ≤ b → b < block_of p next + blocks_of p next left → step b ≡ later b
  later_step b from to =
      let same = r.later b (r.above b from to) in
      let low : max next (b * (p.block / p.sector)) ≡ max first (b * (p.block / p.sector)) = same in
      ap (λ s. step_of p file trims s (min (first + count) ((b + 1) * (p.block / p.sector)) - s)) (sym low) ∙ ap (λ e. step_of p file trims (max next (b * (p.block / p.sector))) (min e ((b + 1) * (p.block / p.sector)) - max next (b * (p.block / p.sector)))) (sym ends)

  -- ---- blocks and tables

  blocks : wanted_blocks p file trims first count ≡ wanted_blocks p file trims next left + (if is_making plan.step then 1 else 0)
  blocks =
      let all : wanted_blocks p file trims first count ≡ as_one (is_making (step (block_of p first))) + count_by (λ b. is_making (step b)) (blocks_with p next left) =
      ap (count_by (λ b. is_making (step b))) r.blocks ∙ count_cons (λ b. is_making (step b)) (block_of p first) (blocks_with p next left) in
      let one : as_one (is_making (step (block_of p first))) ≡ as_one (is_making plan.step) = ap (λ s. as_one (is_making s)) first_step in
      let others : count_by (λ b. is_making (step b)) (blocks_with p next left) ≡ wanted_blocks p file trims next left =
      count_same (λ b. is_making (step b)) (λ b. is_making (later b)) (block_of p next) (blocks_of p next left) (λ b from to. ap is_making (later_step b from to)) in
      omega (arith, all, one, others)

  tables : changes_tables p file trims first count ≡ (is_changing plan.step || changes_tables p file trims next left)
  tables =
      ap (list_any (λ b. is_changing (step b))) r.blocks
      ∙ (ap (λ s. is_changing s || list_any (λ b. is_changing (step b)) (blocks_with p next left)) first_step
      ∙ ap (λ x. is_changing plan.step || x) (any_same (λ b. is_changing (step b)) (λ b. is_changing (later b)) (block_of p next) (blocks_of p next left) (λ b from to. ap is_changing (later_step b from to))))

  -- ---- sector bitmap blocks

  abbrev ratio : ℕ
  ratio = chunk_ratio_of p

  ratio_some : 0 < ratio
  ratio_some = (ratio_in_range p.sector p.block h.sector h.block).0

  abbrev chunk : ℕ
  chunk = block_of p first / ratio

  abbrev lacks : ℕ → Bool
  lacks c = not (state_at p file (bitmap_index_of c ratio) == 6)

  abbrev any : ℕ → Bool
  any c = list_any (λ b. (b / ratio == c) && is_part (later b)) (blocks_with p next left)

  wanted_is : (c : ℕ) → is_chunk_wanted p file trims first count c ≡ after lacks any chunk (is_part plan.step) c
  wanted_is c =
      ap (λ x. lacks c && x) (
      ap (list_any (λ b. (b / ratio == c) && is_part (step b))) r.blocks
      ∙ (ap (λ s. ((chunk == c) && is_part s) || list_any (λ b. (b / ratio == c) && is_part (step b)) (blocks_with p next left)) first_step
      ∙ ap (λ x. ((chunk == c) && is_part plan.step) || x)
      (any_same (λ b. (b / ratio == c) && is_part (step b)) (λ b. (b / ratio == c) && is_part (later b)) (block_of p next) (blocks_of p next left) (λ b from to. ap (λ s. (b / ratio == c) && is_part s) (later_step b from to))))
      )

  -- no later block lies in an earlier chunk
  low : (c : ℕ) → c < chunk → before lacks any chunk (is_part plan.step) c ≡ false
  low c l = ap (λ x. lacks c && x) (any_none (λ b. (b / ratio == c) && is_part (later b)) (block_of p next) (blocks_of p next left) (λ b from to. at b (r.above b from to))) ∙ and_false (lacks c)
    where
      and_false : (b : Bool) → (b && false) ≡ false
      and_false true = refl
      and_false false = refl

      up : (a b : ℕ) → a < b → a / ratio ≤ b / ratio
      up a b k = by_place (cases_lt (b / ratio) (a / ratio))
        where
          by_place : (b / ratio < a / ratio) ⊎ (a / ratio ≤ b / ratio) → a / ratio ≤ b / ratio
          by_place (inr m) = m
          by_place (inl m) =
              let rows : (b / ratio + 1) * ratio ≤ a / ratio * ratio = mul-le-mul_right ratio (omega (arith, m)) in
              let row : (b / ratio + 1) * ratio ≡ b / ratio * ratio + 1 * ratio = add-mul (b / ratio) 1 ratio in
              let x : a / ratio * ratio + a % ratio ≡ a = div-add-mod' a ratio in
              let y : b / ratio * ratio + b % ratio ≡ b = div-add-mod' b ratio in
              let z : b % ratio < ratio = mod_below b ratio ratio_some in
              absurd (omega (arith, rows, row, x, y, z, k))

      at : (b : ℕ) → block_of p first < b → ((b / ratio == c) && is_part (later b)) ≡ false
      at b k = let e : (b / ratio == c) ≡ false = ne_eqb (b / ratio) c (λ same. omega (arith, same, l, up (block_of p first) b k)) in rw e refl

  tells : before lacks any chunk (is_part plan.step) chunk ≡ is_chunk chunk rest.chunk
  tells = first_tells (before lacks any chunk (is_part plan.step)) rest.chunk chunk looked.chunk low

  -- the bitmap's entry as planned is that of the chunk
  lacks_is : is_part plan.step ≡ true → lacks chunk ≡ not (state_of plan.bitmap == 6)
  lacks_is o =
      let e : plan.bitmap ≡ table_entry p file (bitmap_entry_of p first) = planned.bitmap (part_marks plan.step o) in
      let f : chunk ≡ first / 2 ^ 23 = same_chunk p h first in
      ap (λ c. not (state_at p file (bitmap_index_of c ratio) == 6)) f ∙ ap (λ w. not (state_of w == 6)) (sym e)

  within : chunk < chunk_count p
  within =
      let row : (first + 1) * p.sector ≤ p.sectors * p.sector = mul-le-mul_right p.sector (omega (arith, on_disk, some)) in
      let split : (first + 1) * p.sector ≡ first * p.sector + 1 * p.sector = add-mul first 1 p.sector in
      let least : 512 ≤ p.sector = sector_least p.sector h.sector in
      let large : 2 ^ 20 ≤ p.block = block_least p.block h.block in
      div-div_ceil (block_of p first) (block_count p) ratio ratio_some (div-div_ceil (first * p.sector) (p.sectors * p.sector) p.block (omega (arith, large)) (omega (arith, row, split, least)))

  -- the three tests by which it is wanted
  by_tests : (o l c : Bool) → ((o && l && not c) ≡ true → (o ≡ true) × (l ≡ true) × (c ≡ false)) × ((o && l && not c) ≡ false → (o ≡ false) ⊎ ((l ≡ false) ⊎ (c ≡ true)))
  by_tests false l c = (λ t. cc, λ t. inl refl)
  by_tests true false c = (λ t. cc, λ t. inr (inl refl))
  by_tests true true true = (λ t. cc, λ t. inr (inr refl))
  by_tests true true false = (λ t. (refl, refl, refl), λ t. cc)

  abbrev wants : Bool
  wants = wants_bitmap plan chunk rest

  pub looked_more : IsLooked p file trims plans k first count (with_plan plan (first / 2 ^ 23) rest)
  looked_more = subst (λ c. IsLooked p file trims plans k first count (with_plan plan c rest)) (same_chunk p h first) (record {
    planned = more k first count plan some there planned looked.planned;
    blocks = ap (λ n. n + (if is_making plan.step then 1 else 0)) looked.blocks ∙ sym blocks;
    bitmaps = by_bitmaps (cases_Bool wants);
    tables = ap (λ b. is_changing plan.step || b) looked.tables ∙ sym tables;
    chunk = by_chunk (cases_Bool wants);
  })
    where
      tests : ((is_part plan.step && not (state_of plan.bitmap == 6) && not (is_chunk chunk rest.chunk)) ≡ true → (is_part plan.step ≡ true) × (not (state_of plan.bitmap == 6) ≡ true) × (is_chunk chunk rest.chunk ≡ false))
          × ((is_part plan.step && not (state_of plan.bitmap == 6) && not (is_chunk chunk rest.chunk)) ≡ false → (is_part plan.step ≡ false) ⊎ ((not (state_of plan.bitmap == 6) ≡ false) ⊎ (is_chunk chunk rest.chunk ≡ true)))
      tests = by_tests (is_part plan.step) (not (state_of plan.bitmap == 6)) (is_chunk chunk rest.chunk)

      unwanted : wants ≡ false → (is_part plan.step ≡ false) ⊎ ((lacks chunk ≡ false) ⊎ (before lacks any chunk (is_part plan.step) chunk ≡ true))
      unwanted e = by_case (tests.1 e) (cases_Bool (is_part plan.step))
        where
          by_case : (is_part plan.step ≡ false) ⊎ ((not (state_of plan.bitmap == 6) ≡ false) ⊎ (is_chunk chunk rest.chunk ≡ true)) → (is_part plan.step ≡ true) ⊎ (is_part plan.step ≡ false)
              → (is_part plan.step ≡ false) ⊎ ((lacks chunk ≡ false) ⊎ (before lacks any chunk (is_part plan.step) chunk ≡ true))
          by_case x (inr off) = inl off
          by_case (inl off) (inl on) = inl off
          by_case (inr (inl x)) (inl on) = inr (inl (lacks_is on ∙ x))
          by_case (inr (inr x)) (inl on) = inr (inr (tells ∙ x))

      by_bitmaps : (wants ≡ true) ⊎ (wants ≡ false) → rest.bitmaps + (if wants then 1 else 0) ≡ wanted_bitmaps p file trims first count
      by_bitmaps (inl e) =
          let t = tests.0 e in
          let all : wanted_bitmaps p file trims first count ≡ count_by (after lacks any chunk (is_part plan.step)) (range_with_len 0 (chunk_count p)) =
          count_same (is_chunk_wanted p file trims first count) (after lacks any chunk (is_part plan.step)) 0 (chunk_count p) (λ c a b. wanted_is c) in
          let one : count_by (after lacks any chunk (is_part plan.step)) (range_with_len 0 (chunk_count p)) ≡ count_by (before lacks any chunk (is_part plan.step)) (range_with_len 0 (chunk_count p)) + 1 =
          count_more (before lacks any chunk (is_part plan.step)) (after lacks any chunk (is_part plan.step)) chunk 0 (chunk_count p) (omega arith) (omega (arith, within)) (tells ∙ t.2) (here lacks any chunk (is_part plan.step) t.0 (lacks_is t.0 ∙ t.1)) (beside lacks any chunk (is_part plan.step)) in
          let was = looked.bitmaps in
          ap (λ b. rest.bitmaps + (if b then 1 else 0)) e ∙ (ap (λ n. n + 1) was ∙ sym (all ∙ one))
      by_bitmaps (inr e) =
          let same : wanted_bitmaps p file trims first count ≡ wanted_bitmaps p file trims next left =
          count_same (is_chunk_wanted p file trims first count) (is_chunk_wanted p file trims next left) 0 (chunk_count p) (λ c a b. wanted_is c ∙ quiet lacks any chunk (is_part plan.step) (unwanted e) c) in
          let zero_more : rest.bitmaps + 0 ≡ rest.bitmaps = omega arith in
          ap (λ b. rest.bitmaps + (if b then 1 else 0)) e ∙ (zero_more ∙ (looked.bitmaps ∙ sym same))

      by_chunk : (wants ≡ true) ⊎ (wants ≡ false) → IsFirst (is_chunk_wanted p file trims first count) (if wants then Some chunk else rest.chunk)
      by_chunk (inl e) =
          let t = tests.0 e in
          let now : IsFirst (is_chunk_wanted p file trims first count) (Some chunk) =
          (wanted_is chunk ∙ here lacks any chunk (is_part plan.step) t.0 (lacks_is t.0 ∙ t.1), λ c l. wanted_is c ∙ (beside lacks any chunk (is_part plan.step) c (λ same. omega (arith, same, l)) ∙ low c l)) in
          rw e now
      by_chunk (inr e) = rw e (as_rest rest.chunk looked.chunk)
        where
          as_rest : (o : Option ℕ) → IsFirst (is_chunk_wanted p file trims next left) o → IsFirst (is_chunk_wanted p file trims first count) o
          as_rest None f = λ c. wanted_is c ∙ (quiet lacks any chunk (is_part plan.step) (unwanted e) c ∙ f c)
          as_rest (Some x) f = (wanted_is x ∙ (quiet lacks any chunk (is_part plan.step) (unwanted e) x ∙ f.0), λ c l. wanted_is c ∙ (quiet lacks any chunk (is_part plan.step) (unwanted e) c ∙ f.1 c l))

-- ---- the same of tables that were read on

module _ (old new : Tables) (disk : Disk) (sizes : HasTables old.parts) (reads : HasRead old new disk) (first count len : ℕ) (some : 0 < count) (is : len ≡ run_in_block (shape_of old.parts) first count)
    (rest answer : Wanted) (plan : Plan) (answer_is : answer ≡ with_plan plan (first / 2 ^ 23) rest) where
  pub looked_then : (trace : Trace) (trims : Bool) (plans : List Plan) (k : ℕ) → first + count ≤ old.parts.sectors → IsPlanned (shape_of old.parts) (held_file old trace) trims first len plan → slice_get plans k ≡ Some plan
      → IsLooked (shape_of new.parts) (held_file new trace) trims plans (k + 1) (first + len) (count - len) rest → IsLooked (shape_of old.parts) (held_file old trace) trims plans k first count answer
  looked_then trace trims plans k on_disk planned there looked =
      subst (IsLooked (shape_of old.parts) (held_file old trace) trims plans k first count) (sym answer_is)
      (looked_more (shape_of old.parts) (record { sector = sizes.sector; block = sizes.block }) (held_file old trace) trims plans k first count rest plan some on_disk
      (subst (λ n. IsPlanned (shape_of old.parts) (held_file old trace) trims first n plan) is planned) there
      (subst (λ n. IsLooked (shape_of old.parts) (held_file old trace) trims plans (k + 1) (first + n) (count - n) rest) is
      (same_held (λ p file. IsLooked (shape_of p) file trims plans (k + 1) (first + len) (count - len) rest) old new disk trace reads looked)))

  pub rest_few : blocks_of (shape_of old.parts) first count ≡ 1 + blocks_of (shape_of new.parts) (first + len) (count - len)
  rest_few =
      (runs (shape_of old.parts) (record { sector = sizes.sector; block = sizes.block }) first count some).few
      ∙ ap (λ n. 1 + blocks_of (shape_of old.parts) (first + n) (count - n)) (sym is) ∙ ap (λ (p : TableParts). 1 + blocks_of (shape_of p) (first + len) (count - len)) (sym reads.as_held.parts_are)

  at_most : (b : Bool) (n m : ℕ) → n ≤ m → n + (if b then 1 else 0) ≤ 1 + m
  at_most true n m l = omega (arith, l)
  at_most false n m l = omega (arith, l)

  pub few_then : rest.blocks ≤ blocks_of (shape_of new.parts) (first + len) (count - len) → rest.bitmaps ≤ blocks_of (shape_of new.parts) (first + len) (count - len)
      → (answer.blocks ≤ blocks_of (shape_of old.parts) first count) × (answer.bitmaps ≤ blocks_of (shape_of old.parts) first count)
  few_then blocks bitmaps = subst (λ (a : Wanted). (a.blocks ≤ blocks_of (shape_of old.parts) first count) × (a.bitmaps ≤ blocks_of (shape_of old.parts) first count)) (sym answer_is) (
    subst (λ n. rest.blocks + (if is_making plan.step then 1 else 0) ≤ n) (sym rest_few) (at_most (is_making plan.step) rest.blocks (blocks_of (shape_of new.parts) (first + len) (count - len)) blocks),
    subst (λ n. rest.bitmaps + (if wants_bitmap plan (first / 2 ^ 23) rest then 1 else 0) ≤ n) (sym rest_few) (at_most (wants_bitmap plan (first / 2 ^ 23) rest) rest.bitmaps (blocks_of (shape_of new.parts) (first + len) (count - len)) bitmaps),
  )

  pub counted_then : (plans : List Plan) (k : ℕ) → slice_get plans k ≡ Some plan → AreCounted (shape_of new.parts) plans (k + 1) (first + len) (count - len) rest → AreCounted (shape_of old.parts) plans k first count answer
  counted_then plans k there counts =
      counted k first count plan answer rest some there answer_is
      (subst (λ n. AreCounted (shape_of old.parts) plans (k + 1) (first + n) (count - n) rest) is
      (subst (λ (p : TableParts). AreCounted (shape_of p) plans (k + 1) (first + len) (count - len) rest) reads.as_held.parts_are counts))
