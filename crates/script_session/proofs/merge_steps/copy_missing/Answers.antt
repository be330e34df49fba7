use Rattle.script_session.specs.MergeSteps.{no_turn, all_moved, one_more, one_refused, passed_over}
use Rattle.script_session.proofs.Moving.{fewer_passed, no_slot}
use Rattle.script_session.proofs.merge_steps.copy_missing.Goals as goal

pub loop-stripe-init : goal.loop-stripe-init
loop-stripe-init g c = record { sound = c.requires.sound; slot = c.requires.slot; turns = no_turn }

pub returns-in-Err-clause-answers : goal.returns-in-Err-clause-answers
returns-in-Err-clause-answers g c =
    one_refused _ c.in-Some.stripe _ _ _ _ c.loop-stripe.invariant.turns (record { missing = c.in-Some.ensures; low = c.in-Err.ensures.low }) c.in-Err.ensures.refused c.in-Err.ensures.empty

pub returns-in_default-missing-clause-answers : goal.returns-in_default-missing-clause-answers
returns-in_default-missing-clause-answers g c =
    let p = c.in_default-pass_over in
    all_moved _ _ (passed_over c.in-Some.stripe p.field-0 _ _ _ c.pass_over.new.piece c.loop-stripe.invariant.turns (record { missing = c.in-Some.ensures; low = p.ensures.low }) p.ensures.passed p.ensures.empty) p.ensures.sound c.in_default-missing.ensures

pub returns-in-Err-move_stripe-clause-answers : goal.returns-in-Err-move_stripe-clause-answers
returns-in-Err-move_stripe-clause-answers g c =
    let p = c.in_default-pass_over in
    let e = c.in-Err-move_stripe.ensures in
    one_refused _ c.in-Some-missing.next _ _ _ _ (passed_over c.in-Some.stripe p.field-0 _ _ _ c.pass_over.new.piece c.loop-stripe.invariant.turns (record { missing = c.in-Some.ensures; low = p.ensures.low }) p.ensures.passed p.ensures.empty)
    (record { missing = c.in-Some-missing.ensures; low = e.low }) e.answers e.empty

pub loop-stripe-smaller : goal.loop-stripe-smaller
loop-stripe-smaller g c = fewer_passed c.in-Some.stripe c.in_default-pass_over.field-0 c.in-Some-missing.next _ _ _ c.in_default-pass_over.ensures.passed c.in_default-move_stripe.ensures.answers c.in-Some-missing.ensures

pub loop-stripe-preserved : goal.loop-stripe-preserved
loop-stripe-preserved g c =
    let p = c.in_default-pass_over in
    let e = c.in_default-move_stripe.ensures in
    record {
      sound = e.sound;
      slot = no_slot _ _ e.empty;
      turns = one_more c.in-Some-missing.next _ _ _ _ (passed_over c.in-Some.stripe p.field-0 _ _ _ c.pass_over.new.piece c.loop-stripe.invariant.turns (record { missing = c.in-Some.ensures; low = p.ensures.low }) p.ensures.passed p.ensures.empty)
          (record { missing = c.in-Some-missing.ensures; low = e.low }) e.answers e.empty;
    }

pub returns-clause-answers : goal.returns-clause-answers
returns-clause-answers g c = all_moved _ _ c.loop-stripe.invariant.turns c.loop-stripe.invariant.sound c.in_default.ensures
