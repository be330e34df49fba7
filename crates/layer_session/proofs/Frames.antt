-- What a step leaves stands for the runs behind it.
use Rattle.std.proofs.Common.{◌≡◌, ◌≢◌, ℕ, ◌+◌, ◌-◌, ◌*◌, ◌/◌, ◌%◌, ◌^◌, ◌<◌, ◌≤◌, ◌⊎◌, ◌==◌, ◌&&◌, min, Bool, true, false, List, [], ◌∷◌, length, slice_get, get_or, Option, Some, refl, sym, ap, subst, ◌∙◌, arith, inl, inr, if◌then◌else◌}
use Rattle.std.proofs.Math.Nat.{add-mul, mul-le-mul_right}
use Rattle.std.proofs.lemmas.Bool.{cases_Bool, eqb-true}
use Rattle.std.proofs.lemmas.Nat.{div-add-mod', mod_below}
use Rattle.std.proofs.lemmas.Option.{get_or_from_slice_get, slice_get_within}
use Rattle.vhdx_format.specs.AllocationTables.{state_of}
use Rattle.vhdx_format.specs.Fields.{megabyte}
use Rattle.vhdx_format.specs.Layers.{HasSizes, Shape, block_of, entry_of, sector_bit, state_at, table_entry}
use Rattle.store_model.specs.Disk.{Disk, WhereBothTold, WhereTold}
use Rattle.store_model.specs.Trace.{Trace}
use Rattle.log_format.specs.PendingPages.{has_place}
use Rattle.table_pages.specs.Held.{AreChanged, bit_pages, entry_place, shape_of}
use Rattle.table_pages.specs.Pages.{page_place}
use Rattle.table_pages.specs.declared.tables.TableParts.{TableParts}
use Rattle.table_pages.specs.declared.tables.Tables.{Tables}
use Rattle.block_alloc.specs.Spaces.{Bitmap, Payload, Space, all_given, bitmaps_of, can_take, payloads_of, taken}
use Rattle.chain_model.specs.Images.{Placed}
use Rattle.layer_session.specs.declared.file.Layer.{Layer}
use Rattle.layer_session.specs.declared.planning.Plan.{Plan}
use Rattle.layer_session.specs.declared.planning.Step.{Step}
use Rattle.layer_session.specs.declared.planning.Step.TheVariants.{Drop, Leave, Make, MakePart, Mark, Write}
use Rattle.layer_session.specs.Blocks.{run_in_block}
use Rattle.layer_session.specs.Keeping.{IsReady, Serves}
use Rattle.layer_session.specs.Planning.{EachRun, are_marked, is_making, is_marking, is_whole, more, none, per_block, step_by, step_of}
use Rattle.layer_session.specs.Prepared.{IsPrepared, TakesBlocks, before, nothing}
use Rattle.layer_session.specs.Steps.{HasPages, HasRoomFor, IsToDo, Wants, first_in_block, held_by}
use Rattle.layer_session.specs.Taking.{HasSameEntries, KeepsOthers, LeavesRest, takes_of}
use Rattle.layer_session.proofs.BlockRuns.{in_blocks, next, of_sectors, rest_of, run_is, runs}
use Rattle.layer_session.proofs.Parting.{run_in_one, same_block}
use Rattle.layer_session.proofs.Beside.{among}
use Rattle.layer_session.proofs.Planned.{all_from, all_true, same_test}
use Rattle.layer_session.proofs.Readying.{StepSays, step_says}
use Rattle.layer_session.proofs.Rooms.{room_taken}
use Rattle.layer_session.proofs.Told.{told_from}
use Rattle.layer_session.proofs.Zeroing.{part_chunk}

-- ---- the first run, and the rest

pub record Head (p : Shape) (plans : List Plan) (P : ℕ → ℕ → Plan → Type 0) (k first count : ℕ) : Type 0 where
  pub plan : Plan
  pub at : slice_get plans k ≡ Some plan
  pub here : P first (run_in_block p first count) plan
  pub rest : EachRun p plans P (k + 1) (first + run_in_block p first count) (count - run_in_block p first count)

pub each_head : (p : Shape) (plans : List Plan) (P : ℕ → ℕ → Plan → Type 0) (k first count : ℕ) → EachRun p plans P k first count → 0 < count → Head p plans P k first count
each_head p plans P k first count (none _ _ _ e) some = absurd (omega (arith, e, some))
each_head p plans P k first count (more _ _ _ plan s at here rest) some = record { plan = plan; at = at; here = here; rest = rest }

pub record TakenHead (p : Shape) (plans : List Plan) (k first count blocks : ℕ) : Type 0 where
  pub plan : Plan
  pub at : slice_get plans k ≡ Some plan
  pub left : ℕ
  pub is : blocks ≡ takes_of plan + left
  pub rest : TakesBlocks p plans (k + 1) (first + run_in_block p first count) (count - run_in_block p first count) left

pub taken_head : (p : Shape) (plans : List Plan) (k first count blocks : ℕ) → TakesBlocks p plans k first count blocks → 0 < count → TakenHead p plans k first count blocks
taken_head p plans k first count _ (nothing _ _ _ e) some = absurd (omega (arith, e, some))
taken_head p plans k first count _ (before _ _ _ left plan s at rest) some = record { plan = plan; at = at; left = left; is = refl; rest = rest }

-- what holds of each run in a range holds of each otherwise
pub each_map : (p : Shape) (h : HasSizes p) (plans : List Plan) (P Q : ℕ → ℕ → Plan → Type 0) (low high : ℕ)
    → ((b m : ℕ) (plan : Plan) → low ≤ b → b + m ≤ high → 0 < m → b * p.sector % p.block + m * p.sector ≤ p.block → P b m plan → Q b m plan)
    → (k first count : ℕ) → low ≤ first → first + count ≤ high → EachRun p plans P k first count → EachRun p plans Q k first count
each_map p h plans P Q low high f k first count a b (none _ _ _ e) = none k first count e
each_map p h plans P Q low high f k first count a b (more _ _ _ plan some at here rest) =
    let r = runs p h first count some in
    let s = r.some in
    let m = r.most in
    more k first count plan some at (f first (run_in_block p first count) plan a (omega (arith, b, m)) s (run_fits p h first count some) here)
    (each_map p h plans P Q low high f (k + 1) (first + run_in_block p first count) (count - run_in_block p first count) (omega (arith, a)) (omega (arith, b, m)) rest)
  where
    run_fits : (p : Shape) (h : HasSizes p) (first count : ℕ) (some : 0 < count) → first * p.sector % p.block + run_in_block p first count * p.sector ≤ p.block
    run_fits p h first count some =
        let w = of_sectors p h in
        let off : first * p.sector % p.block ≡ first % per_block p * p.sector = rest_of p.sector p.block (per_block p) w first in
        let size : p.block ≡ per_block p * p.sector = w.block_is in
        let less : first % per_block p < per_block p = mod_below first (per_block p) w.any in
        let is : run_in_block p first count ≡ min count (per_block p - first % per_block p) = run_is p h first count some in
        let few : run_in_block p first count * p.sector ≤ (per_block p - first % per_block p) * p.sector = mul-le-mul_right p.sector (let e : run_in_block p first count ≤ per_block p - first % per_block p = omega (arith, is) in e) in
        let split : per_block p * p.sector ≡ first % per_block p * p.sector + (per_block p - first % per_block p) * p.sector = ap (λ n. n * p.sector) (let e : per_block p ≡ first % per_block p + (per_block p - first % per_block p) = omega (arith, less) in e) ∙ add-mul (first % per_block p) (per_block p - first % per_block p) p.sector in
        omega (arith, off, size, few, split)

-- a sector behind the first run lies in another block
pub other_block : (p : Shape) (h : HasSizes p) (first count : ℕ) (some : 0 < count) (s : ℕ) → first + run_in_block p first count ≤ s → s < first + count → entry_of p s ≢ entry_of p first
other_block p h first count some s low high e =
    let w = of_sectors p h in
    let n = (next p h first count some (omega (arith, low, high))).0 in
    let at : (i : ℕ) → block_of p i ≡ i / per_block p = in_blocks p.sector p.block (per_block p) w in
    let b : s / per_block p ≡ block_of p first = sym (at s) ∙ same_block p h s first e in
    let rows : s / per_block p * per_block p ≡ block_of p first * per_block p = ap (λ k. k * per_block p) b in
    let all : s / per_block p * per_block p + s % per_block p ≡ s = div-add-mod' s (per_block p) in
    let less : s % per_block p < per_block p = mod_below s (per_block p) w.any in
    omega (arith, n, rows, all, less, low)

-- ---- room

room_none : (units : ℕ) (s : Space) → HasRoomFor units 0 0 s
unfolding all_given payloads_of bitmaps_of
room_none units s [] p b = refl
room_none units s (Payload ∷ blocks) p b = absurd (omega (arith, p))
room_none units s (Bitmap ∷ blocks) p b = absurd (omega (arith, b))

room_one : (units : ℕ) (s : Space) → can_take units s ≡ true → HasRoomFor units 1 0 s
unfolding all_given payloads_of bitmaps_of
room_one units s can [] p b = absurd (omega (arith, p))
room_one units s can (Bitmap ∷ blocks) p b = absurd (omega (arith, b))
room_one units s can (Payload ∷ blocks) p b = let e = room_none units (taken units s) blocks (omega (arith, p)) b in rw (can, e) refl

-- for the first of some steps
pub room_first : (units left : ℕ) (plan : Plan) (s : Space) → HasRoomFor units (takes_of plan + left) 0 s → HasRoomFor units (takes_of plan) 0 s
room_first units left plan s h = by_step (is_making plan.step) h
  where
    by_step : (b : Bool) → HasRoomFor units ((if b then 1 else 0) + left) 0 s → HasRoomFor units (if b then 1 else 0) 0 s
    by_step true h = room_one units s (room_taken units left 0 s h).0
    by_step false h = room_none units s

-- ---- what is prepared

-- where a block isn't partially present its bits don't matter
any_marks : (trimmed one other parent : Bool) (word : ℕ) → (state_of word == 7) ≡ false → step_by trimmed one parent word ≡ step_by trimmed other parent word
any_marks true one other parent word e = refl
any_marks false one other parent word e = by_seven (state_of word == 7) e
  where
    by_seven : (b : Bool) → b ≡ false → (if b then (if one then Write else Mark) else (if (state_of word == 0) && parent then MakePart else (if state_of word == 6 then Write else Make)))
        ≡ (if b then (if other then Write else Mark) else (if (state_of word == 0) && parent then MakePart else (if state_of word == 6 then Write else Make)))
    by_seven false f = refl
    by_seven true f = cc

-- sectors are marked in a file with a parent
marking_parent : (trimmed marked parent : Bool) (word : ℕ) → is_marking (step_by trimmed marked parent word) ≡ true → (state_of word ≡ 7 → parent ≡ true) → parent ≡ true
marking_parent trimmed marked parent word h seven = by_step (step_by trimmed marked parent word) (step_says trimmed marked parent word) h
  where
    by_step : (s : Step) → StepSays trimmed marked parent word s → is_marking s ≡ true → parent ≡ true
    by_step Drop says e = cc
    by_step Leave says e = cc
    by_step Write says e = cc
    by_step Mark says e = seven says
    by_step Make says e = cc
    by_step MakePart says e = says.1

some_is : (a b : Plan) (x : Option Plan) → x ≡ Some a → x ≡ Some b → a ≡ b
some_is a b x e f = cc

pages_still : (old new : Tables) (first count : ℕ) (plan : Plan) → new.parts ≡ old.parts → ((at : ℕ) → has_place at old.pending ≡ true → has_place at new.pending ≡ true) → HasPages old first count plan → HasPages new first count plan
pages_still old new first count plan parts keeps h = record {
  entry = λ s. subst (λ (q : TableParts). has_place (page_place (entry_place q (entry_of (shape_of q) first))) new.pending ≡ true) (sym parts) (keeps _ (h.entry s));
  bits = λ s k a b. keeps _ (h.bits s k a b);
  all_bits = λ s. subst (λ (q : TableParts). AreChanged (plan.bitmap / 2 ^ 20 * megabyte) (first_in_block (shape_of q) first % 2 ^ 23 / 32768) (bit_pages (first_in_block (shape_of q) first % 2 ^ 23) (q.block / q.sector)) new.pending) (sym parts)
      (λ k a b. keeps _ (h.all_bits s k a b));
}

module _ (l : Layer) (sized : HasSizes (shape_of l.tables.parts)) (k first count : ℕ) (some : 0 < count) (prepared : IsPrepared l k first count) where
  abbrev p : Shape
  p = shape_of l.tables.parts

  pub first_run : Head p l.plans.items (HasPages l.tables) k first count
  first_run = each_head p l.plans.items (HasPages l.tables) k first count prepared.pages some

  taken_run : TakenHead p l.plans.items k first count prepared.blocks
  taken_run = taken_head p l.plans.items k first count prepared.blocks prepared.taken some

  same_plan : taken_run.plan ≡ first_run.plan
  same_plan = some_is taken_run.plan first_run.plan (slice_get l.plans.items k) taken_run.at first_run.at

  blocks_are : prepared.blocks ≡ takes_of first_run.plan + taken_run.left
  blocks_are = taken_run.is ∙ ap (λ x. takes_of x + taken_run.left) same_plan

  pub first_room : HasRoomFor (l.tables.parts.block / megabyte) (takes_of first_run.plan) 0 l.space
  first_room = room_first (l.tables.parts.block / megabyte) taken_run.left first_run.plan l.space (subst (λ n. HasRoomFor (l.tables.parts.block / megabyte) n 0 l.space) blocks_are prepared.room)

  pub prepared_next : (new : Layer) → LeavesRest l new (takes_of first_run.plan) → IsPrepared new (k + 1) (first + run_in_block p first count) (count - run_in_block p first count)
  prepared_next new leaves =
      let plans : new.plans.items ≡ l.plans.items = ap (λ (x : Layer). x.plans.items) leaves.only in
      record {
        pages = subst (λ (q : TableParts). EachRun (shape_of q) new.plans.items (HasPages new.tables) (k + 1) (first + run_in_block p first count) (count - run_in_block p first count)) (sym leaves.parts)
            (subst (λ (z : List Plan). EachRun p z (HasPages new.tables) (k + 1) (first + run_in_block p first count) (count - run_in_block p first count)) (sym plans)
            (each_map p sized l.plans.items (HasPages l.tables) (HasPages new.tables) 0 (first + run_in_block p first count + (count - run_in_block p first count)) (λ b m plan x y s f h. pages_still l.tables new.tables b m plan leaves.parts leaves.pages h)
            (k + 1) (first + run_in_block p first count) (count - run_in_block p first count) (omega arith) (omega arith) first_run.rest));
        blocks = taken_run.left;
        taken = subst (λ (q : TableParts). TakesBlocks (shape_of q) new.plans.items (k + 1) (first + run_in_block p first count) (count - run_in_block p first count) taken_run.left) (sym leaves.parts)
            (subst (λ (z : List Plan). TakesBlocks p z (k + 1) (first + run_in_block p first count) (count - run_in_block p first count) taken_run.left) (sym plans) taken_run.rest);
        room = subst (λ (q : TableParts). HasRoomFor (q.block / megabyte) taken_run.left 0 new.space) (sym leaves.parts)
            (leaves.room taken_run.left (subst (λ n. HasRoomFor (l.tables.parts.block / megabyte) n 0 l.space) blocks_are prepared.room));
      }

  -- ---- what is to be done

  module _ (trims : Bool) (t : Trace) (wants : Wants l k first count trims t) where
    to_do : Head p l.plans.items (IsToDo p (held_by l t) trims) k first count
    to_do = each_head p l.plans.items (IsToDo p (held_by l t) trims) k first count wants.todo some

    pub first_todo : IsToDo p (held_by l t) trims first (run_in_block p first count) first_run.plan
    first_todo = subst (IsToDo p (held_by l t) trims first (run_in_block p first count)) (some_is to_do.plan first_run.plan (slice_get l.plans.items k) to_do.at first_run.at) to_do.here

    module _ (new : Layer) (u : Trace) (file : Placed) (serves : Serves l t file) (on_disk : first + count ≤ l.tables.parts.sectors) (others : KeepsOthers l new first t u) where
      -- a run of another block, whose sectors the tables show as before
      still : (b m : ℕ) (plan : Plan) → first + run_in_block p first count ≤ b → b + m ≤ first + count → 0 < m → b * p.sector % p.block + m * p.sector ≤ p.block → IsToDo p (held_by l t) trims b m plan → IsToDo p (held_by new u) trims b m plan
      still b m plan low high any fits d = record {
        step = d.step ∙ by_seven (cases_Bool (state_of (table_entry p (held_by l t) (entry_of p b)) == 7));
        word = d.word ∙ sym word;
        bitmap = λ marks. let x = d.bitmap marks in (x.0, x.1 ∙ sym ((same b (omega arith) (omega (arith, any))).bits.bitmap (parent_of marks)));
      }
        where
          same : (s : ℕ) → b ≤ s → s < b + m → HasSameEntries p (held_by l t) (held_by new u) s
          same s from to = others.others s (omega (arith, to, high, on_disk)) (other_block p sized first count some s (omega (arith, low, from)) (omega (arith, to, high)))

          word : table_entry p (held_by new u) (entry_of p b) ≡ table_entry p (held_by l t) (entry_of p b)
          word = (same b (omega arith) (omega (arith, any))).entry

          seven_of : (state_of (table_entry p (held_by l t) (entry_of p b)) == 7) ≡ true → (s : ℕ) → b ≤ s → s < b + m → state_at p (held_by l t) (entry_of p s) ≡ 7
          seven_of e s from to = ap (state_at p (held_by l t)) (run_in_one p sized b m fits s (among b m s from to)) ∙ eqb-true (state_of (table_entry p (held_by l t) (entry_of p b))) 7 e

          bit : (state_of (table_entry p (held_by l t) (entry_of p b)) == 7) ≡ true → (s : ℕ) → b ≤ s → s < b + m → sector_bit p (held_by new u) s ≡ sector_bit p (held_by l t) s
          bit e s from to = let c = part_chunk l t file serves s (omega (arith, to, high, on_disk)) (seven_of e s from to) in (same s from to).bits.bit c.0 c.1

          marked : (state_of (table_entry p (held_by l t) (entry_of p b)) == 7) ≡ true → are_marked p (held_by l t) b m ≡ are_marked p (held_by new u) b m
          marked e = same_test (are_marked p (held_by l t) b m) (are_marked p (held_by new u) b m)
              (λ h. all_true (λ s. sector_bit p (held_by new u) s == 1) b m (λ s x y. ap (λ n. n == 1) (bit e s x y) ∙ all_from (λ s. sector_bit p (held_by l t) s == 1) b m h s x y))
              (λ h. all_true (λ s. sector_bit p (held_by l t) s == 1) b m (λ s x y. ap (λ n. n == 1) (sym (bit e s x y)) ∙ all_from (λ s. sector_bit p (held_by new u) s == 1) b m h s x y))

          by_seven : ((state_of (table_entry p (held_by l t) (entry_of p b)) == 7) ≡ true) ⊎ ((state_of (table_entry p (held_by l t) (entry_of p b)) == 7) ≡ false) → step_of p (held_by l t) trims b m ≡ step_of p (held_by new u) trims b m
          by_seven (inl e) = ap (λ x. step_by (trims && is_whole p b m) x p.parent (table_entry p (held_by l t) (entry_of p b))) (marked e) ∙ ap (λ w. step_by (trims && is_whole p b m) (are_marked p (held_by new u) b m) p.parent w) (sym word)
          by_seven (inr e) = any_marks (trims && is_whole p b m) (are_marked p (held_by l t) b m) (are_marked p (held_by new u) b m) p.parent (table_entry p (held_by l t) (entry_of p b)) e ∙ ap (λ w. step_by (trims && is_whole p b m) (are_marked p (held_by new u) b m) p.parent w) (sym word)

          parent_of : is_marking plan.step ≡ true → p.parent ≡ true
          parent_of marks = marking_parent (trims && is_whole p b m) (are_marked p (held_by l t) b m) p.parent (table_entry p (held_by l t) (entry_of p b)) (subst (λ s. is_marking s ≡ true) d.step marks)
              (λ seven. (part_chunk l t file serves b (omega (arith, high, on_disk, any)) seven).0)

      pub wants_next : new.tables.parts ≡ l.tables.parts → new.plans.items ≡ l.plans.items → Wants new (k + 1) (first + run_in_block p first count) (count - run_in_block p first count) trims u
      wants_next parts plans = record {
        todo = subst (λ (q : TableParts). EachRun (shape_of q) new.plans.items (IsToDo (shape_of q) (held_by new u) trims) (k + 1) (first + run_in_block p first count) (count - run_in_block p first count)) (sym parts)
            (subst (λ (z : List Plan). EachRun p z (IsToDo p (held_by new u) trims) (k + 1) (first + run_in_block p first count) (count - run_in_block p first count)) (sym plans)
            (each_map p sized l.plans.items (IsToDo p (held_by l t) trims) (IsToDo p (held_by new u) trims) (first + run_in_block p first count) (first + count) still
            (k + 1) (first + run_in_block p first count) (count - run_in_block p first count) (omega arith) (let m = (runs p sized first count some).most in omega (arith, m)) to_do.rest));
      }

-- ---- the next run, by what the code has

module _ (l : Layer) (old : Disk) (ready : IsReady l old) (k first count : ℕ) (some : 0 < count) (prepared : IsPrepared l k first count) (on_disk : first + count ≤ l.tables.parts.sectors) (len : ℕ) (len_is : len ≡ run_in_block (shape_of l.tables.parts) first count)
    (plan : Plan) where
  sized : HasSizes (shape_of l.tables.parts)
  sized = record { sector = ready.readable.sizes.sector; block = ready.readable.sizes.block }

  abbrev head : Head (shape_of l.tables.parts) l.plans.items (HasPages l.tables) k first count
  head = first_run l sized k first count some prepared

  -- its plan is there
  pub plan_there : k < length l.plans.items
  plan_there = slice_get_within l.plans.items k head.plan head.at

  pub next_small : k + 1 < 2 ^ 16
  next_small = let a = plan_there in let b = ready.plans in omega (arith, a, b)

  module _ (plan_is : plan ≡ get_or l.plans.items k plan) where
    same : plan ≡ head.plan
    same = plan_is ∙ get_or_from_slice_get l.plans.items k head.plan plan head.at

    pub run_pages : HasPages l.tables first len plan
    run_pages = subst (HasPages l.tables first len) (sym same) (subst (λ n. HasPages l.tables first n head.plan) (sym len_is) head.here)

    pub run_room : HasRoomFor (l.tables.parts.block / megabyte) (takes_of plan) 0 l.space
    run_room = subst (λ x. HasRoomFor (l.tables.parts.block / megabyte) (takes_of x) 0 l.space) (sym same) (first_room l sized k first count some prepared)

    pub run_todo : (trims : Bool) → WhereTold old.told (Wants l k first count trims) → WhereTold old.told (λ t. IsToDo (shape_of l.tables.parts) (held_by l t) trims first len plan)
    run_todo trims wants t told =
        subst (IsToDo (shape_of l.tables.parts) (held_by l t) trims first len) (sym same)
        (subst (λ n. IsToDo (shape_of l.tables.parts) (held_by l t) trims first n head.plan) (sym len_is) (first_todo l sized k first count some prepared trims t (wants t told)))

    module _ (new : Layer) (leaves : LeavesRest l new (takes_of plan)) where
      pub next_prepared : IsPrepared new (k + 1) (first + len) (count - len)
      next_prepared = subst (λ n. IsPrepared new (k + 1) (first + n) (count - n)) (sym len_is) (prepared_next l sized k first count some prepared new (subst (λ x. LeavesRest l new (takes_of x)) same leaves))

      pub next_wants : (behind : Disk) (trims : Bool) → WhereTold old.told (Wants l k first count trims) → WhereBothTold (KeepsOthers l new first) old.told behind.told → WhereTold behind.told (Wants new (k + 1) (first + len) (count - len) trims)
      next_wants behind trims wants others =
          subst (λ n. WhereTold behind.told (Wants new (k + 1) (first + n) (count - n) trims)) (sym len_is)
          (told_from (KeepsOthers l new first) (Wants l k first count trims) (Wants new (k + 1) (first + run_in_block (shape_of l.tables.parts) first count) (count - run_in_block (shape_of l.tables.parts) first count) trims) old.told behind.told wants others
          (λ t u told o w. let one = ready.told t told in
          wants_next l sized k first count some prepared trims t w new u one.0 one.1 on_disk o leaves.parts (ap (λ (x : Layer). x.plans.items) leaves.only)))
