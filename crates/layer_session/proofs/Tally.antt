-- Which sector bitmap blocks a call wants, by its plans.
use Rattle.std.proofs.Common.{◌≡◌, ◌≢◌, ℕ, ◌+◌, ◌-◌, ◌*◌, ◌/◌, ◌^◌, ◌<◌, ◌≤◌, ◌⊎◌, ◌==◌, ◌&&◌, ◌||◌, Bool, true, false, List, refl, sym, ap, subst, ◌∙◌, arith, inl, inr, eq-eqb, if◌then◌else◌}
use Rattle.std.specs.Prelude.{Some, not, slice_get}
use Rattle.std.proofs.lemmas.Bool.{cases_eq, ne_eqb}
use Rattle.vhdx_format.specs.AllocationTables.{state_of}
use Rattle.vhdx_format.specs.Layers.{HasSizes, Shape}
use Rattle.layer_session.specs.Blocks.{run_in_block}
use Rattle.layer_session.specs.Bringing.{InChunk}
use Rattle.layer_session.specs.Planning.{AreCounted, EachRun, before, is_changing, is_chunk, is_making, is_part, more, none, nothing, wants_bitmap, with_plan}
use Rattle.layer_session.specs.Prepared.{TakesBlocks, before as takes_before, nothing as takes_nothing}
use Rattle.layer_session.specs.declared.planning.Plan.{Plan}
use Rattle.layer_session.specs.declared.planning.Wanted.{Wanted}
use Rattle.layer_session.proofs.BitRuns.{LiesIn, each_map, each_within, run_parts}
use Rattle.layer_session.proofs.BlockRuns.{runs}

abbrev pub as_one : Bool → ℕ
as_one b = if b then 1 else 0

-- a block that is made in part has its sector bitmap block
pub record HasBlock (first count : ℕ) (plan : Plan) : Type 0 where
  pub has : is_part plan.step ≡ true → state_of plan.bitmap ≡ 6

module _ (p : Shape) (h : HasSizes p) (plans : List Plan) (a : ℕ) where
  -- whether the sector bitmap block of a chunk is wanted
  pub record Tells (b : Bool) (chunk k first count : ℕ) : Type 0 where
    pub all : b ≡ false → EachRun p plans (InChunk chunk HasBlock) k first count
    pub not_all : b ≡ true → EachRun p plans (InChunk chunk HasBlock) k first count → ⊥

  pub record Tally (k first count : ℕ) (wanted : Wanted) : Type 0 where
    pub near : Bool
    pub far : Bool
    pub tells_near : Tells near a k first count
    pub tells_far : Tells far (a + 1) k first count
    pub bitmaps : wanted.bitmaps ≡ as_one near + as_one far
    pub near_is : is_chunk a wanted.chunk ≡ near
    pub far_is : near ≡ false → is_chunk (a + 1) wanted.chunk ≡ far

  -- no run behind a chunk lies in it
  later : (k first count chunk : ℕ) (P : ℕ → ℕ → Plan → Type 0) → chunk * 2 ^ 23 + 2 ^ 23 ≤ first → EachRun p plans P k first count → EachRun p plans (InChunk chunk HasBlock) k first count
  later k first count chunk P low all =
      each_map p plans (λ s n plan. LiesIn p first (first + count) s n × P s n plan) (InChunk chunk HasBlock) (λ s n plan x e. absurd (let y = x.0.low in omega (arith, y, low, e))) k first count
      (each_within p h plans P first (first + count) k first count (omega arith) (omega arith) all)

  of_counted : (k first count : ℕ) (wanted : Wanted) → AreCounted p plans k first count wanted → EachRun p plans (λ s n plan. Unit {0}) k first count
  of_counted k first count wanted (nothing _ _ _ _ z e) = none k first count z
  of_counted k first count wanted (before _ _ _ plan _ rest s at e next) = more k first count plan s at tt (of_counted (k + 1) (first + run_in_block p first count) (count - run_in_block p first count) rest next)

  module _ (k first count : ℕ) (plan : Plan) (rest : Wanted) (some : 0 < count) (at : slice_get plans k ≡ Some plan) (low : a * 2 ^ 23 ≤ first) (high : first < (a + 2) * 2 ^ 23)
      (next : AreCounted p plans (k + 1) (first + run_in_block p first count) (count - run_in_block p first count) rest)
      (t : Tally (k + 1) (first + run_in_block p first count) (count - run_in_block p first count) rest) where
    abbrev run : ℕ
    run = run_in_block p first count

    abbrev c : ℕ
    c = first / 2 ^ 23

    add : (chunk : ℕ) → (c ≡ chunk → HasBlock first run plan) → EachRun p plans (InChunk chunk HasBlock) (k + 1) (first + run) (count - run) → EachRun p plans (InChunk chunk HasBlock) k first count
    add chunk here others = more k first count plan some at here others

    rest_all : (chunk : ℕ) → EachRun p plans (InChunk chunk HasBlock) k first count → EachRun p plans (InChunk chunk HasBlock) (k + 1) (first + run) (count - run)
    rest_all chunk all = (run_parts p plans (InChunk chunk HasBlock) k first count run plan some refl at all).rest

    here_of : (chunk : ℕ) → c ≡ chunk → EachRun p plans (InChunk chunk HasBlock) k first count → HasBlock first run plan
    here_of chunk e all = (run_parts p plans (InChunk chunk HasBlock) k first count run plan some refl at all).here e

    -- the same of the rest alone
    quiet : (b : Bool) (chunk : ℕ) → (c ≡ chunk → HasBlock first run plan) → Tells b chunk (k + 1) (first + run) (count - run) → Tells b chunk k first count
    quiet b chunk here x = record { all = λ e. add chunk here (x.all e); not_all = λ e all. x.not_all e (rest_all chunk all) }

    loud : (chunk : ℕ) → c ≡ chunk → (HasBlock first run plan → ⊥) → Tells true chunk k first count
    loud chunk e lacks = record { all = λ f. cc; not_all = λ f all. lacks (here_of chunk e all) }

    zero_add : (n : ℕ) → 0 + n ≡ n
    zero_add n = omega arith

    add_zero : (n : ℕ) → n + 0 ≡ n
    add_zero n = omega arith

    by_quiet : wants_bitmap plan c rest ≡ false → (c ≡ a → HasBlock first run plan) → (c ≡ a + 1 → HasBlock first run plan) → Tally k first count (with_plan plan c rest)
    by_quiet e near far = record {
      near = t.near;
      far = t.far;
      tells_near = quiet t.near a near t.tells_near;
      tells_far = quiet t.far (a + 1) far t.tells_far;
      bitmaps = ap (λ b. rest.bitmaps + (if b then 1 else 0)) e ∙ (add_zero rest.bitmaps ∙ t.bitmaps);
      near_is = ap (λ b. is_chunk a (if b then Some c else rest.chunk)) e ∙ t.near_is;
      far_is = λ f. ap (λ b. is_chunk (a + 1) (if b then Some c else rest.chunk)) e ∙ t.far_is f;
    }

    with_not : (x y : Bool) → x ≡ true → (x && not y) ≡ not y
    with_not true y e = refl
    with_not false y e = cc

    abbrev lacking : Bool
    lacking = is_part plan.step && not (state_of plan.bitmap == 6)

    wants_is : lacking ≡ true → wants_bitmap plan c rest ≡ not (is_chunk c rest.chunk)
    wants_is e = by_test (is_part plan.step) (not (state_of plan.bitmap == 6)) (not (is_chunk c rest.chunk)) e
      where
        by_test : (x y z : Bool) → (x && y) ≡ true → (x && y && z) ≡ z
        by_test true true z e = refl
        by_test true false z e = cc
        by_test false y z e = cc

    wants_not : lacking ≡ false → wants_bitmap plan c rest ≡ false
    wants_not e = by_test (is_part plan.step) (not (state_of plan.bitmap == 6)) (not (is_chunk c rest.chunk)) e
      where
        by_test : (x y z : Bool) → (x && y) ≡ false → (x && y && z) ≡ false
        by_test true true z e = cc
        by_test true false z e = refl
        by_test false y z e = refl

    has_block : lacking ≡ false → HasBlock first run plan
    has_block e = record { has = λ part. by_state part (cases_eq (state_of plan.bitmap) 6) }
      where
        by_state : is_part plan.step ≡ true → (state_of plan.bitmap ≡ 6) ⊎ (state_of plan.bitmap ≢ 6) → state_of plan.bitmap ≡ 6
        by_state part (inl six) = six
        by_state part (inr other) = let f : (state_of plan.bitmap == 6) ≡ false = ne_eqb _ _ other in let g : lacking ≡ true = rw (part, f) refl in cc

    lacks_block : lacking ≡ true → HasBlock first run plan → ⊥
    lacks_block e x = by_part (is_part plan.step) (state_of plan.bitmap) e x.has
      where
        by_part : (b : Bool) (state : ℕ) → (b && not (state == 6)) ≡ true → (b ≡ true → state ≡ 6) → ⊥
        by_part true state e f = let six : (state == 6) ≡ true = eq-eqb _ _ (f refl) in let g : (true && not (state == 6)) ≡ false = rw six refl in cc
        by_part false state e f = cc

    -- a block of the first chunk wants its bitmap block
    by_near : lacking ≡ true → c ≡ a → Tally k first count (with_plan plan c rest)
    by_near e here = by_test t.near refl
      where
        wants : wants_bitmap plan c rest ≡ not t.near
        wants = wants_is e ∙ (ap (λ n. not (is_chunk n rest.chunk)) here ∙ ap not t.near_is)

        off : c ≡ a + 1 → HasBlock first run plan
        off x = absurd (omega (arith, x, here))

        by_test : (b : Bool) → t.near ≡ b → Tally k first count (with_plan plan c rest)
        by_test true f =
            let w : wants_bitmap plan c rest ≡ false = wants ∙ ap not f in
            record {
              near = true;
              far = t.far;
              tells_near = loud a here (lacks_block e);
              tells_far = quiet t.far (a + 1) off t.tells_far;
              bitmaps = ap (λ b. rest.bitmaps + (if b then 1 else 0)) w ∙ (add_zero rest.bitmaps ∙ (t.bitmaps ∙ ap (λ b. as_one b + as_one t.far) f));
              near_is = ap (λ b. is_chunk a (if b then Some c else rest.chunk)) w ∙ (t.near_is ∙ f);
              far_is = λ x. cc;
            }
        by_test false f =
            let w : wants_bitmap plan c rest ≡ true = wants ∙ ap not f in
            let same : (c == a) ≡ true = eq-eqb _ _ here in
            let count_is : rest.bitmaps ≡ as_one t.far = t.bitmaps ∙ (ap (λ b. as_one b + as_one t.far) f ∙ zero_add (as_one t.far)) in
            record {
              near = true;
              far = t.far;
              tells_near = loud a here (lacks_block e);
              tells_far = quiet t.far (a + 1) off t.tells_far;
              bitmaps = ap (λ b. rest.bitmaps + (if b then 1 else 0)) w ∙ (let r : rest.bitmaps + 1 ≡ 1 + as_one t.far = omega (arith, count_is) in r);
              near_is = ap (λ b. is_chunk a (if b then Some c else rest.chunk)) w ∙ same;
              far_is = λ x. cc;
            }

    -- one of the second chunk, behind which none of the first lies
    by_far : lacking ≡ true → c ≡ a + 1 → Tally k first count (with_plan plan c rest)
    by_far e here = by_test t.far refl
      where
        near_off : t.near ≡ false
        near_off = by_bool t.near refl
          where
            by_bool : (b : Bool) → t.near ≡ b → t.near ≡ false
            by_bool false f = f
            by_bool true f = absurd (t.tells_near.not_all f (later (k + 1) (first + run) (count - run) a (λ s n plan. Unit {0}) (omega (arith, here)) (of_counted (k + 1) (first + run) (count - run) rest next)))

        wants : wants_bitmap plan c rest ≡ not t.far
        wants = wants_is e ∙ (ap (λ n. not (is_chunk n rest.chunk)) here ∙ ap not (t.far_is near_off))

        off : c ≡ a → HasBlock first run plan
        off x = absurd (omega (arith, x, here))

        near_none : Tells false a k first count
        near_none = quiet false a off (subst (λ b. Tells b a (k + 1) (first + run) (count - run)) near_off t.tells_near)

        total : rest.bitmaps ≡ as_one t.far
        total = t.bitmaps ∙ (ap (λ b. as_one b + as_one t.far) near_off ∙ zero_add (as_one t.far))

        by_test : (b : Bool) → t.far ≡ b → Tally k first count (with_plan plan c rest)
        by_test true f =
            let w : wants_bitmap plan c rest ≡ false = wants ∙ ap not f in
            record {
              near = false;
              far = true;
              tells_near = near_none;
              tells_far = loud (a + 1) here (lacks_block e);
              bitmaps = ap (λ b. rest.bitmaps + (if b then 1 else 0)) w ∙ (add_zero rest.bitmaps ∙ (total ∙ ap as_one f));
              near_is = ap (λ b. is_chunk a (if b then Some c else rest.chunk)) w ∙ (t.near_is ∙ near_off);
              far_is = λ x. ap (λ b. is_chunk (a + 1) (if b then Some c else rest.chunk)) w ∙ (t.far_is near_off ∙ f);
            }
        by_test false f =
            let w : wants_bitmap plan c rest ≡ true = wants ∙ ap not f in
            let same : (c == a + 1) ≡ true = eq-eqb _ _ here in
            let other : (c == a) ≡ false = ne_eqb c a (λ x. omega (arith, x, here)) in
            let zero : rest.bitmaps ≡ 0 = total ∙ ap as_one f in
            record {
              near = false;
              far = true;
              tells_near = near_none;
              tells_far = loud (a + 1) here (lacks_block e);
              bitmaps = ap (λ b. rest.bitmaps + (if b then 1 else 0)) w ∙ (let r : rest.bitmaps + 1 ≡ 0 + 1 = omega (arith, zero) in r);
              near_is = ap (λ b. is_chunk a (if b then Some c else rest.chunk)) w ∙ other;
              far_is = λ x. ap (λ b. is_chunk (a + 1) (if b then Some c else rest.chunk)) w ∙ same;
            }

    pub tally_more : Tally k first count (with_plan plan c rest)
    tally_more = by_lacking lacking refl (cases_eq c a)
      where
        by_lacking : (b : Bool) → lacking ≡ b → (c ≡ a) ⊎ (c ≢ a) → Tally k first count (with_plan plan c rest)
        by_lacking false e x = by_quiet (wants_not e) (λ f. has_block e) (λ f. has_block e)
        by_lacking true e (inl x) = by_near e x
        by_lacking true e (inr x) = by_far e (omega (arith, x, low, high))

  pub tally : (k first count : ℕ) (wanted : Wanted) → AreCounted p plans k first count wanted → a * 2 ^ 23 ≤ first → first + count ≤ (a + 2) * 2 ^ 23 → Tally k first count wanted
  tally k first count wanted (nothing _ _ _ _ z e) low high =
      subst (Tally k first count) (sym e)
      (record {
        near = false;
        far = false;
        tells_near = record { all = λ f. none k first count z; not_all = λ f. cc };
        tells_far = record { all = λ f. none k first count z; not_all = λ f. cc };
        bitmaps = refl;
        near_is = refl;
        far_is = λ f. refl;
      })
  tally k first count wanted (before _ _ _ plan _ rest s at e next) low high =
      let r = runs p h first count s in
      subst (Tally k first count) (sym e)
      (tally_more k first count plan rest s at low (omega (arith, s, high)) next
      (tally (k + 1) (first + run_in_block p first count) (count - run_in_block p first count) rest next (omega (arith, low)) (let m = r.most in omega (arith, m, high))))

  -- ---- what else is counted

  pub takes : (k first count : ℕ) (wanted : Wanted) → AreCounted p plans k first count wanted → TakesBlocks p plans k first count wanted.blocks
  takes k first count wanted (nothing _ _ _ _ z e) = subst (λ (w : Wanted). TakesBlocks p plans k first count w.blocks) (sym e) (takes_nothing k first count z)
  takes k first count wanted (before _ _ _ plan _ rest s at e next) =
      subst (λ (w : Wanted). TakesBlocks p plans k first count w.blocks) (sym e)
      (subst (TakesBlocks p plans k first count) (turn (if is_making plan.step then 1 else 0) rest.blocks)
      (takes_before k first count rest.blocks plan s at (takes (k + 1) (first + run_in_block p first count) (count - run_in_block p first count) rest next)))
    where
      turn : (x y : ℕ) → x + y ≡ y + x
      turn x y = omega arith

  pub changes_none : (k first count : ℕ) (wanted : Wanted) → AreCounted p plans k first count wanted → wanted.tables ≡ false → EachRun p plans (λ s n plan. is_changing plan.step ≡ false) k first count
  changes_none k first count wanted (nothing _ _ _ _ z e) off = none k first count z
  changes_none k first count wanted (before _ _ _ plan _ rest s at e next) off =
      let both : (is_changing plan.step || rest.tables) ≡ false = sym (ap (λ (w : Wanted). w.tables) e) ∙ off in
      more k first count plan s at (left_off (is_changing plan.step) rest.tables both) (changes_none (k + 1) (first + run_in_block p first count) (count - run_in_block p first count) rest next (right_off (is_changing plan.step) rest.tables both))
    where
      left_off : (x y : Bool) → (x || y) ≡ false → x ≡ false
      left_off true y h = cc
      left_off false y h = refl

      right_off : (x y : Bool) → (x || y) ≡ false → y ≡ false
      right_off true y h = cc
      right_off false y h = h

  pub some_changed : (k first count : ℕ) (wanted : Wanted) → AreCounted p plans k first count wanted → wanted.tables ≡ true → 0 < count
  some_changed k first count wanted (nothing _ _ _ _ z e) on = let off : wanted.tables ≡ false = ap (λ (w : Wanted). w.tables) e in cc
  some_changed k first count wanted (before _ _ _ plan _ rest s at e next) on = s
