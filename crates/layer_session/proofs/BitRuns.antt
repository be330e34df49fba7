-- The runs of a call, and the bits that its steps change.
use Rattle.std.proofs.Common.{◌≡◌, ℕ, zero, suc, ◌+◌, ◌-◌, ◌*◌, ◌/◌, ◌%◌, ◌^◌, ◌<◌, ◌≤◌, ◌⊎◌, true, List, [], ◌∷◌, length, get_or, refl, sym, ap, subst, ◌∙◌, arith}
use Rattle.std.specs.Prelude.{Option, Some, None, IfSome, min, slice_get}
use Rattle.std.proofs.Math.Nat.{add-mul, mul-div_cancel}
use Rattle.std.proofs.lemmas.Nat.{div-add-mod', mod_below, mod-mul-add}
use Rattle.std.proofs.lemmas.Option.{slice_get-get_or}
use Rattle.std.proofs.Math.ListN.{length-set, set}
use Rattle.layer_session.proofs.Counting.{set_here}
use Rattle.vhdx_format.specs.Layers.{HasSizes, Shape}
use Rattle.layer_session.specs.Blocks.{blocks_of, run_in_block}
use Rattle.layer_session.specs.Bringing.{AreBitsOf, AreNamed, HasWord, InChunk, IsBitsOf, IsSpanned, SpansBits, joined, more as named_more, none as named_none}
use Rattle.layer_session.specs.Planning.{EachRun, is_marking, more, none, per_block}
use Rattle.layer_session.specs.declared.planning.Plan.{Plan}
use Rattle.layer_session.specs.declared.planning.Step.TheVariants.{Drop}
use Rattle.layer_session.specs.declared.preparing.Bits.{Bits}
use Rattle.layer_session.specs.Steps.{first_in_block}
use Rattle.layer_session.proofs.BlockRuns.{of_sectors, rest_of, room_of, runs}

-- ---- runs

-- a run before the rest
pub run_more : (p : Shape) (plans : List Plan) (P : ℕ → ℕ → Plan → Type 0) (k first count len : ℕ) (plan : Plan) → 0 < count → len ≡ run_in_block p first count → slice_get plans k ≡ Some plan → P first len plan
    → EachRun p plans P (k + 1) (first + len) (count - len) → EachRun p plans P k first count
run_more p plans P k first count len plan some is there here rest =
    more k first count plan some there (subst (λ n. P first n plan) is here) (subst (λ n. EachRun p plans P (k + 1) (first + n) (count - n)) is rest)

-- what holds of the plans of a run and of the rest
pub record IsRunFirst (p : Shape) (plans : List Plan) (P : ℕ → ℕ → Plan → Type 0) (k first count len : ℕ) (plan : Plan) : Type 0 where
  pub here : P first len plan
  pub rest : EachRun p plans P (k + 1) (first + len) (count - len)

pub run_parts : (p : Shape) (plans : List Plan) (P : ℕ → ℕ → Plan → Type 0) (k first count len : ℕ) (plan : Plan) → 0 < count → len ≡ run_in_block p first count → slice_get plans k ≡ Some plan
    → EachRun p plans P k first count → IsRunFirst p plans P k first count len plan
run_parts p plans P k first count len plan some is there (none _ _ _ e) = absurd (omega (arith, e, some))
run_parts p plans P k first count len plan some is there (more _ _ _ other s at h rest) =
    let same : other ≡ plan = cc in
    record {
      here = subst (λ (x : Plan). P first len x) same (subst (λ n. P first n other) (sym is) h);
      rest = subst (λ n. EachRun p plans P (k + 1) (first + n) (count - n)) (sym is) rest;
    }

-- what follows from P
pub each_map : (p : Shape) (plans : List Plan) (P Q : ℕ → ℕ → Plan → Type 0) → ((first count : ℕ) (plan : Plan) → P first count plan → Q first count plan)
    → (k first count : ℕ) → EachRun p plans P k first count → EachRun p plans Q k first count
each_map p plans P Q f k first count (none _ _ _ e) = none k first count e
each_map p plans P Q f k first count (more _ _ _ plan s at h rest) = more k first count plan s at (f first (run_in_block p first count) plan h) (each_map p plans P Q f (k + 1) (first + run_in_block p first count) (count - run_in_block p first count) rest)

pub each_two : (p : Shape) (plans : List Plan) (P Q : ℕ → ℕ → Plan → Type 0) → (k first count : ℕ) → EachRun p plans P k first count → EachRun p plans Q k first count → EachRun p plans (λ s n plan. P s n plan × Q s n plan) k first count
each_two p plans P Q k first count (none _ _ _ e) other = none k first count e
each_two p plans P Q k first count (more _ _ _ plan s at h rest) other =
    let o = run_parts p plans Q k first count (run_in_block p first count) plan s refl at other in
    more k first count plan s at (h, o.here) (each_two p plans P Q (k + 1) (first + run_in_block p first count) (count - run_in_block p first count) rest o.rest)

-- each run lies in the range
pub record LiesIn (p : Shape) (from to first count : ℕ) : Type 0 where
  pub some : 0 < count
  pub low : from ≤ first
  pub high : first + count ≤ to

pub each_within : (p : Shape) → HasSizes p → (plans : List Plan) (P : ℕ → ℕ → Plan → Type 0) (from to k first count : ℕ) → from ≤ first → first + count ≤ to → EachRun p plans P k first count
    → EachRun p plans (λ s n plan. LiesIn p from to s n × P s n plan) k first count
each_within p sizes plans P from to k first count low high (none _ _ _ e) = none k first count e
each_within p sizes plans P from to k first count low high (more _ _ _ plan s at h rest) =
    let r = runs p sizes first count s in
    more k first count plan s at (record { some = r.some; low = low; high = let m = r.most in omega (arith, m, high) }, h)
    (each_within p sizes plans P from to (k + 1) (first + run_in_block p first count) (count - run_in_block p first count) (omega (arith, low)) (let m = r.most in omega (arith, m, high)) rest)

-- ---- bits

-- a sector's place among those of its block
pub in_block_of : (p : Shape) → HasSizes p → (s : ℕ) → first_in_block p s ≡ s - s % per_block p
in_block_of p h s =
    let w = of_sectors p h in
    ap (λ n. s - n) (ap (λ n. n / p.sector) (rest_of p.sector p.block (per_block p) w s) ∙ mul-div_cancel (s % per_block p) w.some)

-- where the rest goes on
pub record IsNext (p : Shape) (first len : ℕ) : Type 0 where
  pub at : first + len ≡ first_in_block p first + per_block p
  pub here : first_in_block p (first + len) ≡ first + len

pub next_block : (p : Shape) → HasSizes p → (first count len : ℕ) → len ≡ run_in_block p first count → 0 < count - len → IsNext p first len
next_block p h first count len is left =
    let w = of_sectors p h in
    let per = per_block p in
    let run : run_in_block p first count ≡ min count (per - first % per) = ap (λ n. min count n) (room_of p.sector p.block per w first) in
    let less : first % per < per = mod_below first per w.any in
    let whole : first / per * per + first % per ≡ first = div-add-mod' first per in
    let at : first + len ≡ first - first % per + per = omega (arith, is, run, less, left, whole) in
    let row : (first / per + 1) * per ≡ first / per * per + 1 * per = add-mul (first / per) 1 per in
    let as_row : first + len ≡ (first / per + 1) * per = omega (arith, at, row, whole) in
    let none : (first + len) % per ≡ 0 = ap (λ n. n % per) as_row ∙ mod-mul-zero (first / per + 1) per w.any in
    record { at = at ∙ ap (λ n. n + per) (sym (in_block_of p h first)); here = in_block_of p h (first + len) ∙ (let e = none in omega (arith, e)) }
  where
    mod-mul-zero : (a per : ℕ) → 0 < per → a * per % per ≡ 0
    mod-mul-zero a per some = ap (λ n. n % per) (let e : a * per ≡ a * per + 0 = omega arith in e) ∙ mod-mul-add a per 0 some

module _ (p : Shape) (h : HasSizes p) (plans : List Plan) (chunk k first count len : ℕ) (plan : Plan) (some : 0 < count) (most : len ≤ count) (is : len ≡ run_in_block p first count) (there : slice_get plans k ≡ Some plan) where
  bits_none : InChunk chunk (λ s n plan. is_marking plan.step ≡ true → ⊥) first len plan → (rest : Option Bits) → AreBitsOf p plans chunk (k + 1) (first + len) (count - len) rest → AreBitsOf p plans chunk k first count rest
  bits_none off None r = run_more p plans (InChunk chunk (λ s n plan. is_marking plan.step ≡ true → ⊥)) k first count len plan some is there off r
  bits_none off (Some bits) r = record {
    spans = run_more p plans (InChunk chunk (IsSpanned p bits)) k first count len plan some is there
        (λ e. record { mark = λ m. absurd (off e (ap is_marking m)); part = λ m. absurd (off e (ap is_marking m)) }) r.spans;
    span = (let s = r.span in let n = next_block p h first count len is s.any in
        record { any = some; from = s.from; some = s.some; to = s.to; near = (let x = s.near in let y = n.at in let z = n.here in omega (arith, x, y, z)); far = let x = s.far in omega (arith, x, most) });
    word = λ word state all. r.word word state (run_parts p plans (InChunk chunk (HasWord word state)) k first count len plan some is there all).rest;
  }

  first_word : (run : Bits) → IsBitsOf p chunk first len plan run → (word state : ℕ) → EachRun p plans (InChunk chunk (HasWord word state)) k first count → (run.word ≡ word) × (word % 8 ≡ state)
  first_word run b word state all =
      let w = (run_parts p plans (InChunk chunk (HasWord word state)) k first count len plan some is there all).here b.in_chunk in
      (b.word ∙ w.is b.marking, w.state_is b.marking)

  bits_two : (run rest : Bits) → IsBitsOf p chunk first len plan run → SpansBits p plans chunk (k + 1) (first + len) (count - len) rest → SpansBits p plans chunk k first count (record { word = run.word; first = run.first; end = rest.end })
  bits_two run rest b r =
      let both : Bits = record { word = run.word; first = run.first; end = rest.end } in
      let n = next_block p h first count len is r.span.any in
      let ends : run.end ≤ rest.end = (let x = b.ends in let y = n.at in let z = n.here in let u = r.span.near in let v = r.span.some in omega (arith, x, y, z, u, v)) in
      let begins : run.first ≤ rest.first = (let x = b.ends in let t = b.span.some in let y = n.at in let z = n.here in let u = r.span.near in omega (arith, x, y, z, u, t)) in
      record {
        spans = run_more p plans (InChunk chunk (IsSpanned p both)) k first count len plan some is there
            (λ e. record { mark = λ m. (let x = b.spanned.mark m in (x.0, (let y = x.1 in omega (arith, y, ends)))); part = λ m. (let x = b.spanned.part m in (x.0, (let y = x.1 in omega (arith, y, ends)))) })
            (each_map p plans (InChunk chunk (IsSpanned p rest)) (InChunk chunk (IsSpanned p both))
            (λ s n x sp e. record { mark = λ m. (let y = (sp e).mark m in (let z = y.0 in omega (arith, z, begins), y.1)); part = λ m. (let y = (sp e).part m in (let z = y.0 in omega (arith, z, begins), y.1)) })
            (k + 1) (first + len) (count - len) r.spans);
        span = (let s = b.span in let t = r.span in record { any = some; from = s.from; some = (let x = s.some in omega (arith, x, ends)); to = t.to; near = s.near; far = let x = t.far in omega (arith, x, most) });
        word = first_word run b;
      }

  bits_here : (run : Bits) → IsBitsOf p chunk first len plan run → (rest : Option Bits) → AreBitsOf p plans chunk (k + 1) (first + len) (count - len) rest → AreBitsOf p plans chunk k first count (joined (Some run) rest)
  bits_here run b None r = record {
    spans = run_more p plans (InChunk chunk (IsSpanned p run)) k first count len plan some is there (λ e. b.spanned)
        (each_map p plans (InChunk chunk (λ s n plan. is_marking plan.step ≡ true → ⊥)) (InChunk chunk (IsSpanned p run))
        (λ s n x off e. record { mark = λ m. absurd (off e (ap is_marking m)); part = λ m. absurd (off e (ap is_marking m)) }) (k + 1) (first + len) (count - len) r);
    span = (let s = b.span in record { any = some; from = s.from; some = s.some; to = s.to; near = s.near; far = let x = s.far in omega (arith, x, most) });
    word = first_word run b;
  }
  bits_here run b (Some rest) r = bits_two run rest b r

  -- those of a run before those of the rest
  pub bits_joined : (run rest : Option Bits) → (run ≡ None → InChunk chunk (λ s n plan. is_marking plan.step ≡ true → ⊥) first len plan) → IfSome run (λ bits. IsBitsOf p chunk first len plan bits)
      → AreBitsOf p plans chunk (k + 1) (first + len) (count - len) rest → AreBitsOf p plans chunk k first count (joined run rest)
  bits_joined None rest off here r = bits_none (off refl) rest r
  bits_joined (Some run) rest off here r = bits_here run here rest r

-- ---- plans

-- a plan of nothing, by which a list of plans is read
abbrev pub none_yet : Plan
none_yet = record { step = Drop; word = 0; bitmap = 0 }

-- the plan of the first run is there
pub plan_here : (p : Shape) → HasSizes p → (plans : List Plan) (k first count : ℕ) (d : Plan) → 0 < count → k + blocks_of p first count ≤ length plans → slice_get plans k ≡ Some (get_or plans k d)
plan_here p h plans k first count d some few = slice_get-get_or plans k d (let r = runs p h first count some in let e = r.few in omega (arith, e, few))

pub few_here : (p : Shape) → HasSizes p → (k first count n : ℕ) → 0 < count → k + blocks_of p first count ≤ n → k < n
few_here p h k first count n some few = let r = runs p h first count some in let e = r.few in omega (arith, e, few)

-- and the plans of the rest
pub few_rest : (p : Shape) → HasSizes p → (k first count len n : ℕ) → 0 < count → len ≡ run_in_block p first count → k + blocks_of p first count ≤ n → k + 1 + blocks_of p (first + len) (count - len) ≤ n
few_rest p h k first count len n some is few =
    subst (λ m. k + 1 + blocks_of p (first + m) (count - m) ≤ n) (sym is) (let r = runs p h first count some in let e = r.few in omega (arith, e, few))

-- or where one of them was set
pub few_set : (plans : List Plan) (k : ℕ) (plan : Plan) (n : ℕ) → n ≤ length plans → n ≤ length (set plans k plan)
few_set plans k plan n few = subst (λ m. n ≤ m) (sym (length-set plans k plan)) few

set_above : (xs : List Plan) (k i : ℕ) (v : Plan) → k < i → slice_get (set xs k v) i ≡ slice_get xs i
set_above [] k i v l = refl
set_above (x ∷ xs) zero zero v l = absurd (omega arith)
set_above (x ∷ xs) zero (suc i) v l = refl
set_above (x ∷ xs) (suc k) zero v l = absurd (omega arith)
set_above (x ∷ xs) (suc k) (suc i) v l = set_above xs k i v (omega (arith, l))

named_from : (p : Shape) (chunk : ℕ) (a b new : List Plan) (k first count : ℕ) → ((i : ℕ) → k ≤ i → slice_get a i ≡ slice_get b i) → AreNamed p chunk a new k first count → AreNamed p chunk b new k first count
named_from p chunk a b new k first count same (named_none _ _ _ e) = named_none k first count e
named_from p chunk a b new k first count same (named_more _ _ _ word plan s old here is rest) =
    named_more k first count word plan s (sym (same k (omega arith)) ∙ old) here is (named_from p chunk a b new (k + 1) (first + run_in_block p first count) (count - run_in_block p first count) (λ i l. same i (omega (arith, l))) rest)

module _ (p : Shape) (chunk : ℕ) (old new : List Plan) (k first count len word : ℕ) (plan named : Plan) (some : 0 < count) (is : len ≡ run_in_block p first count) (there : slice_get old k ≡ Some plan) (within : k < length old)
    (here : slice_get new k ≡ slice_get (set old k named) k) (named_is : named ≡ record plan { bitmap = named.bitmap }) where
  new_here : slice_get new k ≡ Some named
  new_here = here ∙ set_here old k named within

  pub named_then : (first / 2 ^ 23 ≡ chunk) ⊎ (named.bitmap ≡ plan.bitmap) → AreNamed p chunk (set old k named) new (k + 1) (first + len) (count - len) → AreNamed p chunk old new k first count
  named_then side rest =
      named_more k first count named.bitmap plan some there (new_here ∙ ap Some named_is) side
      (subst (λ n. AreNamed p chunk old new (k + 1) (first + n) (count - n)) is (named_from p chunk (set old k named) old new (k + 1) (first + len) (count - len) (λ i l. set_above old k i named (omega (arith, l))) rest))

  pub word_then : (first / 2 ^ 23 ≡ chunk → named.bitmap ≡ word) → EachRun p new (InChunk chunk (λ s n plan. plan.bitmap ≡ word)) (k + 1) (first + len) (count - len) → EachRun p new (InChunk chunk (λ s n plan. plan.bitmap ≡ word)) k first count
  word_then side rest = run_more p new (InChunk chunk (λ s n plan. plan.bitmap ≡ word)) k first count len named some is new_here side rest

-- what holds of the plans then
pub each_named : (p : Shape) (chunk : ℕ) (old new : List Plan) (P Q : ℕ → ℕ → Plan → Type 0)
    → ((first count word : ℕ) (plan : Plan) → (first / 2 ^ 23 ≡ chunk) ⊎ (word ≡ plan.bitmap) → P first count plan → Q first count (record plan { bitmap = word }))
    → (k first count : ℕ) → AreNamed p chunk old new k first count → EachRun p old P k first count → EachRun p new Q k first count
each_named p chunk old new P Q f k first count (named_none _ _ _ e) all = none k first count e
each_named p chunk old new P Q f k first count (named_more _ _ _ word plan s at here is rest) all =
    let a = run_parts p old P k first count (run_in_block p first count) plan s refl at all in
    more k first count (record plan { bitmap = word }) s here (f first (run_in_block p first count) word plan is a.here) (each_named p chunk old new P Q f (k + 1) (first + run_in_block p first count) (count - run_in_block p first count) rest a.rest)
