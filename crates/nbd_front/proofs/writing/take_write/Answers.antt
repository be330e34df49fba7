use Rattle.std.proofs.Common.{◌≡◌, ◌≤◌, ◌<◌, ◌^◌, ◌+◌, ◌-◌, ◌∙◌, ℕ, List, length, take, drop, length-take-le, ap, sym, subst, refl, arith}
use Rattle.std.specs.Prelude.{min}
use Rattle.std.proofs.lemmas.Result.{err_from_is_err_and}
use lib.Seq.{take_at}
use Rattle.disk_calls.specs.Disks.{IsWhole}
use Rattle.nbd_front.proofs.Wanted.{even_rest}
use Rattle.nbd_front.proofs.Written.{takes_next, cuts_here, cuts_next, takes_write, cuts_write, none_before, piece_as, moved_on, page_len, takes_none}
use Rattle.nbd_front.proofs.writing.take_write.Goals as goal

few_of : (n len : ℕ) → n ≡ min 1048576 len → (n ≤ len) × (n ≤ 1048576)
few_of n len e = (omega arith, omega arith)

-- what was put into the front of a page
front_len : (n left : ℕ) (page out : List ℕ) → n ≡ min 1048576 left → 1048576 ≤ length page → length out ≡ length (take n page) → length out ≡ n
front_len n left page out e room h = h ∙ length-take-le n page (omega arith)

pub returns-in_err-need-clause-cut : goal.returns-in_err-need-clause-cut
returns-in_err-need-clause-cut g c =
    let p = err_from_is_err_and c.from_residual.result c.from_residual.ensures.1 in
    let len = front_len _ _ c.loop-left.page c.need.new.out c.min-n.ensures c.loop-left.invariant.room c.need.auto.out in
    rw (p.1, p.2) (cuts_write _ c.args.geometry c.args.request.now _ _ _ _ _ _ _ _ c.requires.kind refl c.judge-error.ensures.judged
    (c.loop-left.invariant.cut _ _ _ (cuts_here _ c.args.geometry.sector _ c.loop-left.error c.loop-left.at c.loop-left.left _ _ _ _ _ _ (len ∙ c.min-n.ensures) c.in_err-need.ensures.short)))

within : (n m k : ℕ) → n ≤ m → m ≤ k → n ≤ k
within n m k a b = omega arith

fits_on : (at at' n left len : ℕ) → at' ≡ at + len → len ≡ n → n ≤ left → at + left < 2 ^ 64 → at' + (left - n) < 2 ^ 64
fits_on at at' n left len a b c d = omega arith

pub loop-left-preserved : goal.loop-left-preserved
loop-left-preserved g c =
    let len = front_len _ _ c.loop-left.page c.need.new.out c.min-n.ensures c.loop-left.invariant.room c.need.auto.out in
    let few = few_of _ _ c.min-n.ensures in
    let piece = take_at c.need.new.out (drop c.min-n.result c.loop-left.page) c.min-n.result len in
    let taken = piece_as _ _ _ _ _ c.need.new.out _ _ _ _ piece c.write_piece-error.ensures.taken in
    let before = none_before _ _ _ _ _ _ _ _ _ taken in
    let moved = λ (e : c.write_piece-error.result ≡ 0). moved_on c.loop-left.at _ _ c.loop-left.left _ c.saturating_add-at.ensures (c.loop-left.invariant.few (before e)) few.0 len in
    let less : c.loop-left.left - c.min-n.result ≡ c.loop-left.left - length c.need.new.out = ap (λ k. c.loop-left.left - k) (sym len) in
    record {
      room = let same = page_len _ c.loop-left.page c.need.new.out len (within _ _ _ few.1 c.loop-left.invariant.room) in let room = c.loop-left.invariant.room in omega arith;
      few = λ e. let m = moved e in let f = c.loop-left.invariant.few (before e) in fits_on _ _ _ _ _ m len few.0 f;
      even = λ e. subst (IsWhole c.args.geometry.sector) (ap (λ k. c.loop-left.left - k) (sym c.min-n.ensures)) (even_rest c.args.geometry.sector c.loop-left.left c.requires.size (c.loop-left.invariant.even (before e)));
      size = c.write_piece-error.ensures.size ∙ c.loop-left.invariant.size;
      quiet = c.in_ok-need.ensures.count ∙ c.loop-left.invariant.quiet;
      whole = λ count left new error rest. c.loop-left.invariant.whole count left new error
          (takes_next _ c.args.geometry.sector _ _ _ c.loop-left.at _ c.loop-left.left _ _ _ _ c.need.new.out _ _ _ _ _ _ _ taken (len ∙ c.min-n.ensures) less c.loop-left-test.true moved
          c.in_ok-need.ensures.taken c.in_ok-need.ensures.at rest);
      cut = λ left new refusal rest. c.loop-left.invariant.cut left new refusal
          (cuts_next _ c.args.geometry.sector _ _ _ c.loop-left.at _ c.loop-left.left _ _ _ c.need.new.out _ _ _ _ _ _ _ taken (len ∙ c.min-n.ensures) less c.loop-left-test.true moved
          c.in_ok-need.ensures.taken c.in_ok-need.ensures.at rest);
    }

none_left : (n : ℕ) → n ≤ 0 → n ≡ 0
none_left n h = omega arith

pub returns-clause-taken : goal.returns-clause-taken
returns-clause-taken g c =
    takes_write _ c.args.geometry c.args.request.now _ _ _ _ _ _ _ _ _ c.requires.kind refl c.judge-error.ensures.judged
    (c.loop-left.invariant.whole _ _ _ _ (takes_none _ c.args.geometry.sector _ c.loop-left.error c.loop-left.at _ _ _ _ c.loop-left.intake.fits (none_left _ c.loop-left-test.false)))
