use Rattle.link_rules.specs.Effects.{linked_names}
use Rattle.link_rules.proofs.Composing.{still_idle}
use Rattle.std.proofs.Common.{refl}
use Rattle.serve_command.specs.Guests.{source_of}
use Rattle.command_base.specs.declared.refusal.ChainRefusal.TheVariants as chain
use Rattle.steps_command.specs.declared.refusal.StepsRefusal.TheVariants as steps
use Rattle.steps_command.proofs.Behind.{chain_in}
use Rattle.command_base.proofs.Said.{err_is}
use Rattle.nbd_command.specs.Clients.{over, unlinked}
use Rattle.nbd_command.proofs.NbdRuns.{both_err, offered_as}
use Rattle.nbd_command.proofs.command.serve_leaf.Goals as goal

pub returns-in_err-linked : goal.returns-in_err-linked
returns-in_err-linked g c =
    let e = c.in_err-linked.ensures in
    unlinked c.in_err-linked.field-0.0 (err_is c.from_residual-in_err-linked.result (steps.Chain (chain.Unlinked c.in_err-linked.field-0.0)) c.from_residual-in_err-linked.ensures.1) refl (record { answer = e.answer; moments = e.moments; left = e.leaves }) refl

pub serve_linked-requires-clause-chain : goal.serve_linked-requires-clause-chain
serve_linked-requires-clause-chain g c κs within =
    let e = c.in_ok-linked.ensures in
    record {
      idle = still_idle (linked_names c.in_ok-linked.linked) _ _ c.requires.idle e.leaves;
      few = e.few;
      once = e.linked.once;
      served = e.numbers;
      line = e.linked.line;
      chain = chain_in c.args.leaf c.in_ok-linked.linked _ _ (record { links = e.answer; up = e.linked; moments = e.moments; replayed = e.leaves });
    }

pub returns : goal.returns
returns g c =
    let e = c.in_ok-linked.ensures in
    let s = c.serve_linked.ensures in
    offered_as c.args.leaf c.args.leaf (source_of c.in_ok-merging.merging) c.args.source.now _ _ _ _ _ _ c.serve_linked.result refl c.in_ok-merging.ensures.source
    (over _ c.in_ok-linked.linked (record { links = e.answer; up = e.linked; moments = e.moments; replayed = e.leaves }) s.ran (both_err _ _ c.serve_linked.result s.silent s.err))
