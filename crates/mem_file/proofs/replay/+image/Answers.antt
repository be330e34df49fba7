use Rattle.mem_file.proofs.Replaying.{last_fits, last_redone}
use Rattle.mem_file.proofs.replay.+image.Goals as goal

pub redo-requires : goal.redo-requires
redo-requires t c =
    last_fits c.args.attached.now c.args.steps.now _ c.in-Some.step.now c.in-Some.ensures.cases.0 c.args.pick _ _ _ c.before-2.ensures c.next_is_second.ensures c.in_ok-left.ensures c.requires

pub returns : goal.returns
returns t c =
    last_redone c.args.attached.now c.args.steps.now _ c.in-Some.step.now c.in-Some.ensures.cases.0 c.args.pick _ _ _ _ c.before-2.ensures c.next_is_second.ensures c.in_ok-left.ensures c.in_ok-redo.ensures.ok
