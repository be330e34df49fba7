-- A call is prepared.
use Rattle.std.proofs.Common.{◌≡◌, ◌≢◌, ℕ, ◌+◌, ◌-◌, ◌*◌, ◌/◌, ◌%◌, ◌^◌, ◌<◌, ◌≤◌, ◌⊎◌, ◌==◌, ◌&&◌, Bool, true, false, List, refl, sym, ap, subst, ◌∙◌, arith, inl, inr, eq-eqb, if◌then◌else◌}
use Rattle.std.specs.Prelude.{min, nat_lt, not}
use Rattle.std.proofs.lemmas.Nat.{mod_below}
use Rattle.vhdx_format.specs.AllocationTables.{payload_index_of}
use Rattle.vhdx_format.proofs.SizeLemmas.{block_least, sector_least}
use Rattle.layer_session.proofs.Alike.{not_true}
use Rattle.std.proofs.Math.Nat.{add-mul, div-mul-le_self, mul-le-mul_right}
use Rattle.std.proofs.lemmas.Bool.{cases_Bool, cases_eq, lt-ltb, ltb-true, ne_eqb}
use Rattle.vhdx_format.specs.HeldBlocks.{HasGoodStates}
use Rattle.vhdx_format.specs.Layers.{HasSizes, Shape, chunk_ratio_of, entry_of}
use Rattle.block_alloc.specs.Spaces as spaces
use Rattle.block_alloc.specs.Spaces.{Space, fits_in}
use Rattle.table_pages.specs.declared.tables.Tables.{Tables}
use Rattle.layer_session.specs.Blocks.{run_in_block}
use Rattle.layer_session.specs.Bringing.{AreNamed, HasBits, HasEntry, InChunk, NamesBitmap, SaysSame, SaysSameBut, missing_of, more as named_more, none as named_none}
use Rattle.layer_session.specs.Planning.{EachRun, IsPlanned, is_changing, is_chunk, is_making, is_marking, more, none}
use Rattle.layer_session.specs.Prepared.{TakesBlocks, before as takes_before, nothing as takes_nothing}
use Rattle.layer_session.specs.Steps.{HasPages, IsToDo}
use Rattle.layer_session.specs.declared.planning.Plan.{Plan}
use Rattle.layer_session.specs.declared.planning.Step.{Step}
use Rattle.layer_session.specs.declared.planning.Step.TheVariants.{Drop, Leave, Write, Mark, Make, MakePart}
use Rattle.layer_session.specs.declared.planning.Wanted.{Wanted}
use Rattle.layer_session.specs.declared.preparing.Missing.{Missing}
use Rattle.layer_session.proofs.BitRuns.{LiesIn, each_map, each_named, each_two, each_within}
use Rattle.layer_session.proofs.Fitted.{fits_fewer, fits_grown}
use Rattle.layer_session.proofs.Places.{in_run}
use Rattle.layer_session.proofs.Tally.{Tally, as_one}
use Rattle.layer_session.proofs.Wanting.{IsStep, step_says}

-- ---- all chunks of a call

pub all_chunks : (p : Shape) → HasSizes p → (plans : List Plan) (P : ℕ → ℕ → Plan → Type 0) (first count : ℕ) → count ≤ 2 ^ 23 → EachRun p plans (InChunk (first / 2 ^ 23) P) 0 first count → EachRun p plans (InChunk ((first + count - 1) / 2 ^ 23) P) 0 first count
    → EachRun p plans P 0 first count
all_chunks p sizes plans P first count few near far =
    each_map p plans (λ s n plan. (LiesIn p first (first + count) s n × InChunk (first / 2 ^ 23) P s n plan) × InChunk ((first + count - 1) / 2 ^ 23) P s n plan) P
    (λ s n plan h. by_chunk s n plan h.0.0 h.0.1 h.1 (cases_eq (s / 2 ^ 23) (first / 2 ^ 23))) 0 first count
    (each_two p plans (λ s n plan. LiesIn p first (first + count) s n × InChunk (first / 2 ^ 23) P s n plan) (InChunk ((first + count - 1) / 2 ^ 23) P) 0 first count
    (each_within p sizes plans (InChunk (first / 2 ^ 23) P) first (first + count) 0 first count (omega arith) (omega arith) near) far)
  where
    by_chunk : (s n : ℕ) (plan : Plan) → LiesIn p first (first + count) s n → InChunk (first / 2 ^ 23) P s n plan → InChunk ((first + count - 1) / 2 ^ 23) P s n plan → (s / 2 ^ 23 ≡ first / 2 ^ 23) ⊎ (s / 2 ^ 23 ≢ first / 2 ^ 23) → P s n plan
    by_chunk s n plan lies a b (inl e) = a e
    by_chunk s n plan lies a b (inr ne) = b (let x = lies.some in let y = lies.low in let z = lies.high in omega (arith, x, y, z, ne, few))

-- pages of entries and of bits
pub pages_of : (t : Tables) (p : Shape) (plans : List Plan) (first count : ℕ) → EachRun p plans (HasEntry t) 0 first count → EachRun p plans (HasBits t) 0 first count → EachRun p plans (HasPages t) 0 first count
pages_of t p plans first count entries bits =
    each_map p plans (λ s n plan. HasEntry t s n plan × HasBits t s n plan) (HasPages t) (λ s n plan h. record { entry = h.0.entry; bits = h.1.bits; all_bits = h.1.all_bits }) 0 first count (each_two p plans (HasEntry t) (HasBits t) 0 first count entries bits)

-- ---- steps that stay

pub steps_named : (p : Shape) (chunk : ℕ) (old new : List Plan) (file : List ℕ) (trims : Bool) (first count : ℕ) → AreNamed p chunk old new 0 first count → EachRun p old (IsStep p file trims) 0 first count → EachRun p new (IsStep p file trims) 0 first count
steps_named p chunk old new file trims first count named all = each_named p chunk old new (IsStep p file trims) (IsStep p file trims) (λ s n word plan side h. record { step = h.step; word = h.word }) 0 first count named all

-- a run lies in one block
pub record InBlock (p : Shape) (first count : ℕ) : Type 0 where
  pub run : first * p.sector % p.block + count * p.sector ≤ p.block

run_fits : (z block first count : ℕ) → 0 < block → first * z % block + min count ((block - first * z % block) / z) * z ≤ block
run_fits z block first count some =
    let o = first * z % block in
    let less : o < block = mod_below (first * z) block some in
    let rows : min count ((block - o) / z) * z ≤ (block - o) / z * z = mul-le-mul_right z (let e : min count ((block - o) / z) ≤ (block - o) / z = omega arith in e) in
    let room : (block - o) / z * z ≤ block - o = div-mul-le_self (block - o) z in
    omega (arith, less, rows, room)

each_block : (p : Shape) → HasSizes p → (plans : List Plan) (P : ℕ → ℕ → Plan → Type 0) (k first count : ℕ) → EachRun p plans P k first count → EachRun p plans (λ s n plan. InBlock p s n × P s n plan) k first count
each_block p sizes plans P k first count (none _ _ _ e) = none k first count e
each_block p sizes plans P k first count (more _ _ _ plan s at h rest) =
    let least : 2 ^ 20 ≤ p.block = block_least p.block sizes.block in
    more k first count plan s at (record { run = run_fits p.sector p.block first count (omega (arith, least)) }, h) (each_block p sizes plans P (k + 1) (first + run_in_block p first count) (count - run_in_block p first count) rest)

one_entry : (p : Shape) (s n i : ℕ) → 0 < p.sector → InBlock p s n → s ≤ i → i < s + n → entry_of p i ≡ entry_of p s
one_entry p s n i some b low high =
    let j = i - s in
    let rows : (j + 1) * p.sector ≤ n * p.sector = mul-le-mul_right p.sector (omega (arith, low, high)) in
    let row : (j + 1) * p.sector ≡ j * p.sector + 1 * p.sector = add-mul j 1 p.sector in
    let r = b.run in
    let same = (in_run p.sector s j p.block (omega (arith, rows, row, r, some))).block_is in
    let back : s + j ≡ i = omega (arith, low) in
    ap (λ k. payload_index_of (k * p.sector / p.block) (chunk_ratio_of p)) (sym back) ∙ ap (λ k. payload_index_of k (chunk_ratio_of p)) same

pub steps_say : (p : Shape) → HasSizes p → (plans : List Plan) (old new : List ℕ) → HasGoodStates p old → SaysSame p old new → (trims : Bool) (first count : ℕ) → first + count ≤ p.sectors → EachRun p plans (IsStep p old trims) 0 first count
    → EachRun p plans (IsStep p new trims) 0 first count
steps_say p sizes plans old new good says trims first count on_disk all =
    each_map p plans (λ s n plan. LiesIn p first (first + count) s n × (InBlock p s n × IsStep p old trims s n plan)) (IsStep p new trims)
    (λ s n plan h.
    let x = h.0.some in let y = h.0.high in let least : 512 ≤ p.sector = sector_least p.sector sizes.sector in
    record {
      step = h.1.1.step ∙ sym (step_says p sizes old new good says trims s n x (omega (arith, y, on_disk)) (λ i l k. one_entry p s n i (omega (arith, least)) h.1.0 l k));
      word = h.1.1.word ∙ sym (says.entry s (omega (arith, x, y, on_disk)));
    }) 0 first count
    (each_within p sizes plans (λ s n plan. InBlock p s n × IsStep p old trims s n plan) first (first + count) 0 first count (omega arith) (omega arith) (each_block p sizes plans (IsStep p old trims) 0 first count all))

-- the names of another chunk's block stay
pub names_say : (p : Shape) → HasSizes p → (plans : List Plan) (old new : List ℕ) (near chunk first count : ℕ) → (near ≡ chunk → ⊥) → SaysSameBut p chunk old new → first + count ≤ p.sectors → EachRun p plans (InChunk near (NamesBitmap p old)) 0 first count
    → EachRun p plans (InChunk near (NamesBitmap p new)) 0 first count
names_say p sizes plans old new near chunk first count ne says on_disk all =
    each_map p plans (λ s n plan. LiesIn p first (first + count) s n × InChunk near (NamesBitmap p old) s n plan) (InChunk near (NamesBitmap p new))
    (λ s n plan h e. let x = h.0.some in let y = h.0.high in let k = h.1 e in
    record { parent = k.parent; six = k.six; is = λ m. k.is m ∙ sym (says.bitmaps s (omega (arith, x, y, on_disk)) (k.parent m) (λ f. ne (sym e ∙ f))) }) 0 first count
    (each_within p sizes plans (InChunk near (NamesBitmap p old)) first (first + count) 0 first count (omega arith) (omega arith) all)

pub to_do : (p : Shape) (plans : List Plan) (file : List ℕ) (trims : Bool) (first count : ℕ) → EachRun p plans (IsStep p file trims) 0 first count → EachRun p plans (NamesBitmap p file) 0 first count → EachRun p plans (IsToDo p file trims) 0 first count
to_do p plans file trims first count steps names =
    each_map p plans (λ s n plan. IsStep p file trims s n plan × NamesBitmap p file s n plan) (IsToDo p file trims) (λ s n plan h. record { step = h.0.step; word = h.0.word; bitmap = λ m. (h.1.six m, h.1.is m) }) 0 first count
    (each_two p plans (IsStep p file trims) (NamesBitmap p file) 0 first count steps names)

pub step_planned : (p : Shape) (plans : List Plan) (file : List ℕ) (trims : Bool) (first count : ℕ) → EachRun p plans (IsPlanned p file trims) 0 first count → EachRun p plans (IsStep p file trims) 0 first count
step_planned p plans file trims first count all = each_map p plans (IsPlanned p file trims) (IsStep p file trims) (λ s n plan h. record { step = h.step; word = h.word }) 0 first count all

-- ---- blocks that are taken

pub takes_named : (p : Shape) (chunk : ℕ) (old new : List Plan) (k first count blocks : ℕ) → AreNamed p chunk old new k first count → TakesBlocks p old k first count blocks → TakesBlocks p new k first count blocks
takes_named p chunk old new k first count _ (named_none _ _ _ e) (takes_nothing _ _ _ f) = takes_nothing k first count f
takes_named p chunk old new k first count _ (named_none _ _ _ e) (takes_before _ _ _ rest plan s at others) = absurd (omega (arith, e, s))
takes_named p chunk old new k first count _ (named_more _ _ _ word plan s at here side next) (takes_nothing _ _ _ f) = absurd (omega (arith, f, s))
takes_named p chunk old new k first count _ (named_more _ _ _ word plan s at here side next) (takes_before _ _ _ rest other t there others) =
    let same : plan ≡ other = cc in
    subst (λ (x : Plan). TakesBlocks p new k first count ((if is_making x.step then 1 else 0) + rest)) same
    (takes_before k first count rest (record plan { bitmap = word }) s here (takes_named p chunk old new (k + 1) (first + run_in_block p first count) (count - run_in_block p first count) rest next others))

-- ---- no table changes

idle_pages : (t : Tables) (s n : ℕ) (plan : Plan) → is_changing plan.step ≡ false → HasPages t s n plan
idle_pages t s n plan off = record {
  entry = λ x. absurd (by_step x);
  bits = λ e. absurd (no_way Mark e refl);
  all_bits = λ e. absurd (no_way MakePart e refl);
}
  where
    no_way : (step : Step) → plan.step ≡ step → is_changing step ≡ true → ⊥
    no_way step e on = let f : is_changing step ≡ false = ap is_changing (sym e) ∙ off in let g : true ≡ false = sym on ∙ f in cc

    by_step : (plan.step ≡ Drop) ⊎ ((plan.step ≡ Make) ⊎ (plan.step ≡ MakePart)) → ⊥
    by_step (inl e) = no_way Drop e refl
    by_step (inr (inl e)) = no_way Make e refl
    by_step (inr (inr e)) = no_way MakePart e refl

pub pages_idle : (t : Tables) (p : Shape) (plans : List Plan) (first count : ℕ) → EachRun p plans (λ s n plan. is_changing plan.step ≡ false) 0 first count → EachRun p plans (HasPages t) 0 first count
pages_idle t p plans first count h = each_map p plans (λ s n plan. is_changing plan.step ≡ false) (HasPages t) (idle_pages t) 0 first count h

marking_changes : (s : Step) → is_marking s ≡ true → is_changing s ≡ true
marking_changes Drop h = cc
marking_changes Leave h = cc
marking_changes Write h = cc
marking_changes Mark h = refl
marking_changes Make h = cc
marking_changes MakePart h = refl

pub to_do_idle : (p : Shape) (plans : List Plan) (file : List ℕ) (trims : Bool) (first count : ℕ) → EachRun p plans (λ s n plan. is_changing plan.step ≡ false) 0 first count → EachRun p plans (IsPlanned p file trims) 0 first count
    → EachRun p plans (IsToDo p file trims) 0 first count
to_do_idle p plans file trims first count idle planned =
    each_map p plans (λ s n plan. (is_changing plan.step ≡ false) × IsPlanned p file trims s n plan) (IsToDo p file trims)
    (λ s n plan h. record { step = h.1.step; word = h.1.word; bitmap = λ m. (let on = marking_changes plan.step m in let no_way : true ≡ false = sym on ∙ h.0 in cc) }) 0 first count
    (each_two p plans (λ s n plan. is_changing plan.step ≡ false) (IsPlanned p file trims) 0 first count idle planned)

-- ---- room

pub one_less : (p u : ℕ) (missing : Bool) (b : ℕ) (s now : Space) → fits_in p u (as_one missing + b) s ≡ true → (now ≡ s) ⊎ ((missing ≡ true) × (now ≡ spaces.grown 1 s)) → fits_in p u b now ≡ true
one_less p u missing b s now h (inl e) = subst (λ (x : Space). fits_in p u b x ≡ true) (sym e) (fits_fewer p u (as_one missing + b) b s (omega arith) h)
one_less p u missing b s now h (inr (on, e)) =
    subst (λ (x : Space). fits_in p u b x ≡ true) (sym e) (fits_grown p u b s (subst (λ m. fits_in p u (as_one m + b) s ≡ true) on h)).1

pub room_for_one : (p u : ℕ) (missing : Bool) (b : ℕ) (s : Space) → fits_in p u (as_one missing + b) s ≡ true → missing ≡ true → spaces.has_room 1 s ≡ true
room_for_one p u missing b s h on = (fits_grown p u b s (subst (λ m. fits_in p u (as_one m + b) s ≡ true) on h)).0

-- no more are made than are wanted
module _ (p : Shape) (sizes : HasSizes p) (plans : List Plan) (first count : ℕ) (wanted : Wanted) (t : Tally p sizes plans (first / 2 ^ 23) 0 first count wanted) (last : ℕ) where
  abbrev m : Missing
  m = missing_of p wanted first last

  pub near_is : p.parent ≡ true → m.near ≡ t.near
  near_is e = ap (λ b. b && is_chunk (first / 2 ^ 23) wanted.chunk) e ∙ t.near_is

  pub far_is : p.parent ≡ true → (last / 2 ^ 23 ≡ first / 2 ^ 23 → ⊥) → m.far ≡ t.far
  far_is e ne =
      let other : (last / 2 ^ 23 == first / 2 ^ 23) ≡ false = ne_eqb _ _ ne in
      ap (λ b. b && (not (last / 2 ^ 23 == first / 2 ^ 23) && nat_lt (as_one m.near) wanted.bitmaps)) e
      ∙ (ap (λ b. not b && nat_lt (as_one m.near) wanted.bitmaps) other ∙ (ap (λ b. nat_lt (as_one b) wanted.bitmaps) (near_is e) ∙ (ap (nat_lt (as_one t.near)) t.bitmaps ∙ more_than (as_one t.near) t.far)))
    where
      more_than : (n : ℕ) (b : Bool) → nat_lt n (n + as_one b) ≡ b
      more_than n true = lt-ltb n (n + 1) (omega arith)
      more_than n false = not_true _ (λ h. let l : n < n + 0 = ltb-true n (n + 0) h in omega (arith, l))

  pub no_parent : p.parent ≡ false → (m.near ≡ false) × (m.far ≡ false)
  no_parent e = (ap (λ b. b && is_chunk (first / 2 ^ 23) wanted.chunk) e, ap (λ b. b && (not (last / 2 ^ 23 == first / 2 ^ 23) && nat_lt (as_one m.near) wanted.bitmaps)) e)

  pub no_far : last / 2 ^ 23 ≡ first / 2 ^ 23 → m.far ≡ false
  no_far e =
      let same : (last / 2 ^ 23 == first / 2 ^ 23) ≡ true = eq-eqb _ _ e in
      ap (λ b. p.parent && (not b && nat_lt (as_one m.near) wanted.bitmaps)) same ∙ and_false p.parent
    where
      and_false : (b : Bool) → (b && false) ≡ false
      and_false true = refl
      and_false false = refl

  pub no_more : as_one m.near + (as_one m.far + 0) ≤ wanted.bitmaps
  no_more = by_parent (cases_Bool p.parent) (cases_eq (last / 2 ^ 23) (first / 2 ^ 23))
    where
      by_parent : (p.parent ≡ true) ⊎ (p.parent ≡ false) → (last / 2 ^ 23 ≡ first / 2 ^ 23) ⊎ (last / 2 ^ 23 ≢ first / 2 ^ 23) → as_one m.near + (as_one m.far + 0) ≤ wanted.bitmaps
      by_parent (inr e) x = let n = no_parent e in let a : as_one m.near ≡ 0 = ap as_one n.0 in let b : as_one m.far ≡ 0 = ap as_one n.1 in omega (arith, a, b)
      by_parent (inl e) (inl x) = let a : as_one m.near ≡ as_one t.near = ap as_one (near_is e) in let b : as_one m.far ≡ 0 = ap as_one (no_far x) in let c = t.bitmaps in omega (arith, a, b, c)
      by_parent (inl e) (inr x) = let a : as_one m.near ≡ as_one t.near = ap as_one (near_is e) in let b : as_one m.far ≡ as_one t.far = ap as_one (far_is e x) in let c = t.bitmaps in omega (arith, a, b, c)
