use Rattle.std.proofs.Common.{◌≡◌, ◌∙◌, ap, arith, refl, subst, sym, true}
use Rattle.std.specs.Prelude.{IfNone}
use Rattle.std.specs.Option.{IsSome}
use Rattle.seats.specs.Counting.{HasNoRepeats}
use Rattle.layer_session.proofs.Equal.{false_true}
use Rattle.copy_workers.proofs.Claimed.{Swept, none_swept, swept_all, swept_on, swept_same, swept_then}
use Rattle.copy_workers.proofs.worker.Worker.sweep.Goals as goal
use Rattle.copy_workers.proofs.worker.Worker.sweep.Goals.{in-None, in-Some+in_default}

pub loop-init : goal.loop-init
loop-init g c = record {
  next = tt;
  finite = tt;
  free = c.requires.own;
  source = c.requires.source;
  failed = c.requires.failed;
  passed = record { each = λ t from to. absurd (omega (arith, from, to)) };
  swept = none_swept c.args.claims.now.limit c.args.self.now c.requires.own.1;
  counter = c.requires.counter;
  family = refl;
}

pub loop-preserved : goal.loop-preserved
loop-preserved g c =
    let i = c.loop.invariant in
    let d = c.copy.ensures in
    let claimed = c.in-Some-claim.ensures.some.1 in
    record {
      next = tt;
      finite = tt;
      free = (d.worked.keeps.lock ∙ i.free.0, d.worked.keeps.free);
      swept = swept_on c.args.claims.now.limit c.in-Some-claim.stripe c.args.self.now c.loop.self c.copy.new.self i.swept c.in-Some-claim.ensures.some.0 (ap (λ s. s.numbers) (d.claim ∙ claimed)) d.worked d.left d.counted;
      source = d.source;
      failed = d.failed;
      passed = d.passed;
      counter = ap (λ s. s.counter) (d.claim ∙ claimed) ∙ i.counter;
      family = ap (λ s. s.family) (d.claim ∙ claimed) ∙ i.family;
    }

pub returns-clause-worked : goal.returns-clause-worked
returns-clause-worked g c =
    let limit = c.args.claims.now.limit in
    let old = c.args.self.now in
    let mid = c.match-next.self in
    let swept : Swept limit old mid × HasNoRepeats mid.claim.numbers = elim c.match-next.branch [
      | in-None w ↦ absurd (false_true (subst (λ o. IsSome o) w.in-None.is c.next.ensures.steps))
      | in-Some+in_default w ↦
          let none = subst (λ o. IfNone o (w.claim.new.seat ≡ record (c.loop.self.claim) { is_closed = true })) w.in_default.is w.claim.ensures.none in
          let claim : mid.claim ≡ w.claim.new.seat = ap (λ s. s.claim) w.self-is in
          let seat : mid.seat ≡ c.loop.self.seat = ap (λ s. s.seat) w.self-is in
          (swept_same limit old c.loop.self mid c.loop.invariant.swept (ap (λ s. s.numbers) claim ∙ ap (λ s. s.numbers) none) seat (ap (λ s. s.unfetched) w.self-is), subst (λ s. HasNoRepeats s.numbers) (sym claim) w.claim.ensures.once)
    ] in
    swept_all limit old mid c.finish.new.self swept.0 swept.1 c.finish.ensures.worked

pub returns-clause-left : goal.returns-clause-left
returns-clause-left g c =
    let limit = c.args.claims.now.limit in
    let old = c.args.self.now in
    let mid = c.match-next.self in
    let swept : Swept limit old mid × HasNoRepeats mid.claim.numbers = elim c.match-next.branch [
      | in-None w ↦ absurd (false_true (subst (λ o. IsSome o) w.in-None.is c.next.ensures.steps))
      | in-Some+in_default w ↦
          let none = subst (λ o. IfNone o (w.claim.new.seat ≡ record (c.loop.self.claim) { is_closed = true })) w.in_default.is w.claim.ensures.none in
          let claim : mid.claim ≡ w.claim.new.seat = ap (λ s. s.claim) w.self-is in
          let seat : mid.seat ≡ c.loop.self.seat = ap (λ s. s.seat) w.self-is in
          (swept_same limit old c.loop.self mid c.loop.invariant.swept (ap (λ s. s.numbers) claim ∙ ap (λ s. s.numbers) none) seat (ap (λ s. s.unfetched) w.self-is), subst (λ s. HasNoRepeats s.numbers) (sym claim) w.claim.ensures.once)
    ] in
    swept_then limit old mid c.finish.new.self swept.0 c.finish.ensures.worked (ap (λ s. s.claim.numbers) c.finish.ensures.only) (ap (λ s. s.unfetched) c.finish.ensures.only)
