use Rattle.std.proofs.Common.{◌≡◌, arith}
use Rattle.layer_session.proofs.Equal.{false_true}
use Rattle.event_list.proofs.EventsTold.{has_run}
use Rattle.event_list.proofs.running.run_events.Goals as goal

pub returns-clause-ran : goal.returns-clause-ran
returns-clause-ran g c =
    has_run c.args.events.now _ _ _ _ _ c.in_ok-pieces.pieces.items _ _ c.requires.sound c.in_ok-pieces.ensures.empty c.as_mut_slice.ensures.value c.in_ok-reserve.ensures.items c.answer_events.ensures.answered

pub returns-in_err-pieces-clause-succeeds : goal.returns-in_err-pieces-clause-succeeds
returns-in_err-pieces-clause-succeeds g c all room =
    let none : c.slot_count.result ≡ 0 = omega (arith, c.slot_count.ensures.least 0 all) in
    absurd (false_true (c.in_err-pieces.ensures.none none))
