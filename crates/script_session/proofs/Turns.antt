-- What the turns of a copy make of a merge.
use Rattle.std.proofs.Common.{◌≡◌, ◌<◌, ◌≤◌, ◌+◌, ◌*◌, ◌^◌, ◌==◌, ◌||◌, ◌&&◌, ◌⊎◌, inl, inr, ℕ, Bool, true, false, None, Some, Result, Ok, Err, refl, sym, ap, ap₂, subst, ◌∙◌, arith, ltb-true, ltb-false}
use Rattle.std.specs.Prelude.{nat_le, nat_lt}
use Rattle.std.proofs.lemmas.Bool.{cases_lt, eqb-false, eqb-true, le-leb, lt-ltb}
use Rattle.store_model.specs.Trace.{Trace}
use Rattle.guest_model.specs.declared.refusal.ChainRefusal.{ChainRefusal}
use Rattle.guest_model.specs.declared.refusal.ChainRefusal.TheVariants.{ReadFault}
use Rattle.guest_model.specs.History.{History}
use Rattle.chain_model.specs.Merges.{with_mark, with_marks}
use Rattle.merge_core.specs.Copied.{IsLowest}
use Rattle.merge_core.specs.Pieces.{piece_of}
use Rattle.merge_core.specs.declared.piece.Piece.{Piece}
use Rattle.chain_core.specs.Merging.{with_put}
use Rattle.chain_core.specs.Skipping.{with_passed}
use Rattle.chain_core.specs.Sessions.{IsSound, Session}
use Rattle.chain_core.specs.States.{State}
use Rattle.script_session.specs.Histories.{Drive, Grows, IsLater, IsMissed, IsOver, Waiting, copied_to, stamp_behind, stripes_of}
use Rattle.script_session.specs.MergeSteps.{AnswersTurn, AnswersTurns, fetched_and, no_turn, not_fetched, one_more, passed_over}
use Rattle.script_session.proofs.Lengths.{grows_none, grows_on}
use Rattle.script_session.proofs.Copying.{ends_grow, FetchEnds, IsCopying, PutEnds, Unfetched, fetch_err, fetch_ok, has_failed, is_past, never_stale, next_is, over_kept, put_cause, put_err, not_past, passed_so, put_ok, put_stops, stripes_are}
use Rattle.script_session.proofs.Marked.{marked_as}
use Rattle.chain_core.specs.Copying.{put_refused}
use Rattle.script_session.proofs.LeftFiles.{later_pass, later_put}
use Rattle.script_session.proofs.Moving.{not_none}

-- ---- marks up to a stripe

not_below : (t n : ℕ) → n ≤ t → nat_lt t n ≡ false
not_below t n h = go (nat_lt t n) refl
  where
    go : (b : Bool) → nat_lt t n ≡ b → nat_lt t n ≡ false
    go false e = e
    go true e = absurd (let less : t < n = ltb-true t n e in omega (arith, less, h))

-- what isn't copied lies past the front
pub past_front : (n : ℕ) (copied : ℕ → Bool) (t : ℕ) → copied_to n copied t ≡ false → (n ≤ t) × (copied t ≡ false)
past_front n copied t h = go (nat_lt t n) refl h
  where
    go : (b : Bool) → nat_lt t n ≡ b → (b || copied t) ≡ false → (n ≤ t) × (copied t ≡ false)
    go true e h = let bad : true ≡ false = h in absurd (cc)
    go false e h = (ltb-false t n e, h)

in_front : (n : ℕ) (copied : ℕ → Bool) (t : ℕ) → t < n → copied_to n copied t ≡ true
in_front n copied t h = ap (λ b. b || copied t) (lt-ltb t n h)

behind_front : (n : ℕ) (copied : ℕ → Bool) (t : ℕ) → n ≤ t → copied_to n copied t ≡ copied t
behind_front n copied t h = ap (λ b. b || copied t) (not_below t n h)

-- two fronts: what lies between is copied
pub same_front : (n m : ℕ) (copied : ℕ → Bool) → n ≤ m → ((t : ℕ) → t < m → copied_to n copied t ≡ true) → (t : ℕ) → copied_to n copied t ≡ copied_to m copied t
same_front n m copied le all t = go (nat_lt t m) refl
  where
    go : (b : Bool) → nat_lt t m ≡ b → copied_to n copied t ≡ copied_to m copied t
    go true e = let less : t < m = ltb-true t m e in all t less ∙ sym (in_front m copied t less)
    go false e = let past : m ≤ t = ltb-false t m e in behind_front n copied t (omega (arith, le, past)) ∙ sym (behind_front m copied t past)

no_front : (copied : ℕ → Bool) (t : ℕ) → copied t ≡ copied_to 0 copied t
no_front copied t = sym (behind_front 0 copied t (omega arith))

-- the lowest stripe that wasn't copied is
front_more : (n stripes stripe : ℕ) (copied : ℕ → Bool) → IsLowest stripes (copied_to n copied) stripe → (t : ℕ) → with_mark stripe (copied_to n copied) t ≡ copied_to (stripe + 1) copied t
front_more n stripes stripe copied low t = go (nat_lt t stripe) refl (t == stripe) refl
  where
    past : n ≤ stripe
    past = (past_front n copied stripe low.unmarked).0

    is_true : (b : Bool) → (b || true) ≡ true
    is_true true = refl
    is_true false = refl

    go : (b : Bool) → nat_lt t stripe ≡ b → (c : Bool) → (t == stripe) ≡ c → with_mark stripe (copied_to n copied) t ≡ copied_to (stripe + 1) copied t
    go true e c f =
        let less : t < stripe = ltb-true t stripe e in
        ap (λ b. (t == stripe) || b) (low.below t less) ∙ is_true (t == stripe) ∙ sym (in_front (stripe + 1) copied t (omega (arith, less)))
    go false e true f = ap (λ b. b || copied_to n copied t) f ∙ sym (in_front (stripe + 1) copied t (let same : t ≡ stripe = eqb-true t stripe f in omega (arith, same)))
    go false e false f =
        let most : stripe ≤ t = ltb-false t stripe e in
        let more : stripe + 1 ≤ t = omega (arith, most, eqb-false t stripe f) in
        ap (λ b. b || copied_to n copied t) f ∙ behind_front n copied t (omega (arith, past, more)) ∙ sym (behind_front (stripe + 1) copied t more)

-- stripes from it on are passed over
front_run : (front n stripes stripe : ℕ) (copied : ℕ → Bool) → IsLowest stripes (copied_to front copied) stripe → (t : ℕ) → with_marks stripe n (copied_to front copied) t ≡ copied_to (stripe + n) copied t
front_run front n stripes stripe copied low t = by_place (cases_lt t stripe) (cases_lt t (stripe + n))
  where
    past : front ≤ stripe
    past = (past_front front copied stripe low.unmarked).0

    is_true : (b : Bool) → (b || true) ≡ true
    is_true true = refl
    is_true false = refl

    by_place : (t < stripe) ⊎ (stripe ≤ t) → (t < stripe + n) ⊎ (stripe + n ≤ t) → with_marks stripe n (copied_to front copied) t ≡ copied_to (stripe + n) copied t
    by_place (inl less) any =
        ap (λ b. (nat_le stripe t && nat_lt t (stripe + n)) || b) (low.below t less) ∙ is_true (nat_le stripe t && nat_lt t (stripe + n)) ∙ sym (in_front (stripe + n) copied t (omega (arith, less)))
    by_place (inr more) (inl less) =
        ap₂ (λ a b. (a && b) || copied_to front copied t) (le-leb stripe t more) (lt-ltb t (stripe + n) less) ∙ sym (in_front (stripe + n) copied t less)
    by_place (inr more) (inr behind) =
        ap₂ (λ a b. (a && b) || copied_to front copied t) (le-leb stripe t more) (not_below t (stripe + n) behind) ∙ behind_front front copied t (omega (arith, past, more)) ∙ sym (behind_front (stripe + n) copied t behind)

-- ---- turns

-- Nothing was done, or a stripe that was missed is copied and no piece is left.
pub data Moved (stripes : ℕ) (copied : ℕ → Bool) (old new : Session) (slot left : Piece) : Type 0 where
  moved_none : old ≡ new → slot ≡ left → Moved stripes copied old new slot left
  moved_some : (stripe : ℕ) → IsMissed stripes copied stripe → left.filled ≡ false → Moved stripes copied old new slot left

-- where turns led
pub record Turned (drive : Drive) (v : State) (old : Session) (trace : Trace) (l : Bool) (copied : ℕ → Bool) (new : Session) : Type 0 where
  pub state : State
  pub now : Trace
  pub front : ℕ
  pub copying : IsCopying drive state new now l (copied_to front copied)
  pub same : (h : History) (later : State) → IsLater state h later → IsLater v h later
  pub history : v.history ≡ state.history
  pub events : new.events ≤ old.events + 2 * front
  pub within : front ≤ stripes_of drive
  pub grows : Grows trace now
  pub low : front ≤ 2 ^ 32

pub sound_of : (stripe : ℕ) (answer : Result (Unit {0}) ChainRefusal) (old new : Session) → AnswersTurn stripe answer old new → IsSound old
sound_of stripe answer old new (not_fetched _ _ _ left fetched) = fetched.sound
sound_of stripe answer old new (fetched_and _ stamp _ mid _ piece fetched put) = fetched.sound

-- one turn, from a session whose front is known
record TurnedOnce (drive : Drive) (v : State) (old new : Session) (trace : Trace) (l : Bool) (copied : ℕ → Bool) (stripe : ℕ) : Type 0 where
  state : State
  now : Trace
  copying : IsCopying drive state new now l (copied_to (stripe + 1) copied)
  same : (h : History) (later : State) → IsLater state h later → IsLater v h later
  history : v.history ≡ state.history
  events : new.events ≤ old.events + 2
  grows : Grows trace now

module _ (drive : Drive) (v : State) (old : Session) (trace : Trace) (n : ℕ) (l : Bool) (copied : ℕ → Bool) (c : IsCopying drive v old trace l (copied_to n copied)) (few : old.events + 1 < 2 ^ 63) (stripe : ℕ) (low : IsLowest (stripes_of drive) (copied_to n copied) stripe) where
  turned_once : (new : Session) → AnswersTurn stripe (Ok tt) old new → TurnedOnce drive v old new trace l copied stripe
  turned_once new (fetched_and _ stamp _ mid _ piece fetched put) =
      let f = fetch_ok drive v old trace l (copied_to n copied) c (omega (arith, few)) stripe stamp mid piece fetched in
      let p = put_ok drive v mid f.now l (copied_to n copied) f.copying (record { stripe = stripe; stamp = stamp_behind l v.history stripe }) piece f.waiting new put in
      record {
        state = with_put (piece_of piece) v;
        now = p.now;
        copying = record {
          whole = p.copying.whole;
          serving = p.copying.serving;
          marks = marked_as l new.layers (with_mark stripe (copied_to n copied)) (copied_to (stripe + 1) copied) p.copying.marks (front_more n (stripes_of drive) stripe copied low);
          over = p.copying.over;
          seen = p.copying.seen;
        };
        same = later_put v (piece_of piece);
        history = refl;
        events = omega (arith, fetched.events, put.events);
        grows = grows_on trace f.now p.now f.grows p.grows;
      }

-- how a turn that is refused ends
pub record Stopped (drive : Drive) (v : State) (new : Session) (l : Bool) (copied : ℕ → Bool) (trace : Trace) (x : ChainRefusal) : Type 0 where
  pub from : Trace
  pub now : Trace
  pub seen : new.disk.told ≡ Some now
  pub over : IsOver drive v new
  pub grows : Grows trace now
  pub ends : PutEnds drive v new l copied from now x

module _ (drive : Drive) (v : State) (old : Session) (trace : Trace) (l : Bool) (marks : ℕ → Bool) (c : IsCopying drive v old trace l marks) (few : old.events + 1 < 2 ^ 63) (stripe : ℕ) (low : IsLowest (stripes_of drive) marks stripe) where
  unfetched : (x : ChainRefusal) (new : Session) → Unfetched drive v trace new l marks stripe x → Stopped drive v new l marks trace x
  unfetched x new u = go x u.ends
    where
      go : (x : ChainRefusal) → FetchEnds drive stripe x → Stopped drive v new l marks trace x
      go x (is_past _ past) = not_none _ x past (not_past stripe (stripes_of drive) low.there)
      go _ (has_failed file count inside) =
          record { from = trace; now = u.now; seen = u.copying.seen; over = u.copying.over; grows = u.grows; ends = put_stops (ReadFault file count) tt tt u.grows u.copying }

  pub turn_stopped : (x : ChainRefusal) (new : Session) → AnswersTurn stripe (Err x) old new → Stopped drive v new l marks trace x
  turn_stopped x new (not_fetched _ _ _ left fetched) = unfetched x new (fetch_err drive v old trace l marks c (omega (arith, few)) stripe x new left fetched)
  turn_stopped x new (fetched_and _ stamp _ mid _ piece fetched put) =
      let f = fetch_ok drive v old trace l marks c (omega (arith, few)) stripe stamp mid piece fetched in
      let w : Waiting = record { stripe = stripe; stamp = stamp_behind l v.history stripe } in
      let fresh : put_refused piece mid ≡ None = put_cause drive v mid f.now l marks f.copying w piece (omega (arith, few, fetched.events)) f.waiting ∙ never_stale w.stamp in
      let p = put_err drive v mid f.now l marks f.copying w piece f.waiting x new fresh put in
      record { from = f.now; now = p.0; seen = p.1; over = over_kept drive v mid new f.copying.over put.keeps; grows = grows_on trace f.now p.0 f.grows (ends_grow drive v new l marks f.now p.0 x p.2); ends = p.2 }

pub turn_events : (stripe : ℕ) (answer : Result (Unit {0}) ChainRefusal) (old new : Session) → AnswersTurn stripe answer old new → new.events ≤ old.events + 2
turn_events stripe answer old new (not_fetched _ _ _ left fetched) = omega (arith, fetched.events)
turn_events stripe answer old new (fetched_and _ stamp _ mid _ piece fetched put) = omega (arith, fetched.events, put.events)

pub turns_led : (drive : Drive) (v : State) (old : Session) (slot : Piece) (trace : Trace) (l : Bool) (copied : ℕ → Bool) → IsCopying drive v old trace l copied → old.events + 2 ^ 34 ≤ 2 ^ 63 → (new : Session) (left : Piece)
    → AnswersTurns old slot new left → Turned drive v old trace l copied new × Moved (stripes_of drive) copied old new slot left
turns_led drive v old slot trace l copied c few _ _ no_turn = (
  record {
    state = v;
    now = trace;
    front = 0;
    copying = record { whole = c.whole; serving = c.serving; marks = marked_as l old.layers copied (copied_to 0 copied) c.marks (no_front copied); over = c.over; seen = c.seen };
    same = λ h later is. is;
    history = refl;
    events = omega arith;
    within = omega arith;
    grows = grows_none trace;
    low = omega arith;
  },
  moved_none refl refl,
)
turns_led drive v old slot trace l copied c few _ _ (passed_over stripe n mid new held left turns next skip empty) =
    let led = (turns_led drive v old slot trace l copied c few mid held turns).0 in
    let low : IsLowest (stripes_of drive) (copied_to led.front copied) stripe = next_is drive led.state mid led.now l (copied_to led.front copied) led.copying stripe skip.sound next.missing in
    let past = past_front led.front copied stripe low.unmarked in
    let one = passed_so drive led.state mid led.now l (copied_to led.front copied) led.copying stripe n new skip in (
      record {
        state = with_passed stripe n led.state;
        now = led.now;
        front = stripe + n;
        copying = record {
          whole = one.whole;
          serving = one.serving;
          marks = marked_as l new.layers (with_marks stripe n (copied_to led.front copied)) (copied_to (stripe + n) copied) one.marks (front_run led.front n (stripes_of drive) stripe copied low);
          over = one.over;
          seen = one.seen;
        };
        same = λ h later is. led.same h later (later_pass led.state stripe n h later is);
        history = led.history;
        events = omega (arith, led.events, skip.events, past.0);
        within = subst (λ k. stripe + n ≤ k) (stripes_are drive led.state mid led.now l (copied_to led.front copied) led.copying) skip.there;
        grows = led.grows;
        low = omega (arith, skip.few);
      },
      moved_some stripe (record { there = low.there; missing = past.1 }) empty,
    )
turns_led drive v old slot trace l copied c few _ _ (one_more stripe mid new held left turns next turn empty) =
    let led = (turns_led drive v old slot trace l copied c few mid held turns).0 in
    let low : IsLowest (stripes_of drive) (copied_to led.front copied) stripe = next_is drive led.state mid led.now l (copied_to led.front copied) led.copying stripe (sound_of stripe (Ok tt) mid new turn) next.missing in
    let past = past_front led.front copied stripe low.unmarked in
    let room : mid.events + 1 < 2 ^ 63 = omega (arith, led.events, led.low, few) in
    let one = turned_once drive led.state mid led.now led.front l copied led.copying room stripe low new turn in (
      record {
        state = one.state;
        now = one.now;
        front = stripe + 1;
        copying = one.copying;
        same = λ h later is. led.same h later (one.same h later is);
        history = led.history ∙ one.history;
        events = omega (arith, led.events, one.events, past.0);
        within = omega (arith, low.there);
        grows = grows_on trace led.now one.now led.grows one.grows;
        low = omega (arith, next.low);
      },
      moved_some stripe (record { there = low.there; missing = past.1 }) empty,
    )
