use Rattle.std.proofs.Common.{refl}
use Rattle.link_rules.specs.Causes.{meaning_of}
use Rattle.link_rules.specs.Folders.{contents}
use Rattle.link_rules.specs.Touches.{IsOnWay}
use Rattle.link_rules.proofs.Safe.{none_safely}
use Rattle.command_base.specs.Causes.{of_chain}
use Rattle.command_base.proofs.Followed.{has_followed, order_stopped}
use Rattle.command_base.proofs.Left.{counted, files_shown, followed, follows_for, follows_none, idle_left, is_replayed, leaf_refused, replayed_for, replayed_left, safely_for, stopped}
use Rattle.command_base.proofs.Said.{line_ended, no_memory_ended, no_memory_shown, refused_ended}
use Rattle.folder_commands.proofs.commands.info.Goals as goal

pub returns-in-Err-clause-ended : goal.returns-in-Err-clause-ended
returns-in-Err-clause-ended g c = no_memory_ended _ _ _ _ _ _ _ _ _ refl c.out_of_memory.ensures

pub returns-in-Err-clause-stays : goal.returns-in-Err-clause-stays
returns-in-Err-clause-stays g c = follows_none c.args.leaf.now (g.H.Host.hosted c.args.host.now)

pub returns-in-Err-clause-replayed : goal.returns-in-Err-clause-replayed
returns-in-Err-clause-replayed g c shown = absurd (no_memory_shown _ _ _ _ _ _ c.out_of_memory.ensures shown)

pub returns-in-Err-clause-moments : goal.returns-in-Err-clause-moments
returns-in-Err-clause-moments g c = none_safely (λ f. IsOnWay (contents f) c.args.leaf.now) (g.H.Host.hosted c.args.host.now)

pub returns-in-Ok-order-clause-ended : goal.returns-in-Ok-order-clause-ended
returns-in-Ok-order-clause-ended g c =
    line_ended _ _ _ _ _ _ _ _ _ c.info_text.result c.in-Ok-order.ensures.leaves.quiet
    (files_shown _ c.args.leaf.now _ c.in-Ok-order.linked c.info_text.result c.in-Ok.ensures c.in-Ok-order.ensures.answer c.info_text.ensures)
    c.say.ensures

pub returns-in-Ok-order-clause-idle : goal.returns-in-Ok-order-clause-idle
returns-in-Ok-order-clause-idle g c fault = c.in-Ok-order.ensures.leaves.idle

pub returns-in-Ok-order-clause-stays : goal.returns-in-Ok-order-clause-stays
returns-in-Ok-order-clause-stays g c =
    follows_for c.in-Ok.name c.args.leaf.now _ _ c.in-Ok.ensures (followed c.in-Ok.name _ _ (has_followed c.in-Ok.name c.in-Ok-order.linked _ c.in-Ok-order.ensures.answer _ c.in-Ok-order.ensures.leaves) c.in-Ok-order.ensures.moments)

pub returns-in-Ok-order-clause-replayed : goal.returns-in-Ok-order-clause-replayed
returns-in-Ok-order-clause-replayed g c shown =
    replayed_for c.in-Ok.name c.args.leaf.now _ _ c.in-Ok.ensures (is_replayed c.in-Ok.name _ _ (has_followed c.in-Ok.name c.in-Ok-order.linked _ c.in-Ok-order.ensures.answer _ c.in-Ok-order.ensures.leaves))

pub returns-in-Ok-order-clause-moments : goal.returns-in-Ok-order-clause-moments
returns-in-Ok-order-clause-moments g c = safely_for c.in-Ok.name c.args.leaf.now _ _ c.in-Ok.ensures c.in-Ok-order.ensures.moments

pub returns-clause-ended : goal.returns-clause-ended
returns-clause-ended g c =
    let meaning = of_chain (meaning_of c.in-Err-order.refusal) in
    refused_ended _ _ _ _ _ _ _ _ _ meaning (leaf_refused _ c.args.leaf.now _ (meaning_of c.in-Err-order.refusal) c.in-Ok.ensures c.in-Err-order.ensures.answer)
    (counted c.in-Ok.name _ _ meaning (order_stopped c.in-Ok.name _ _ (meaning_of c.in-Err-order.refusal) c.in-Err-order.ensures.answer c.in-Err-order.ensures.leaves)) c.refuse_link.ensures

pub returns-clause-idle : goal.returns-clause-idle
returns-clause-idle g c fault =
    idle_left c.in-Ok.name _ _ (of_chain (meaning_of c.in-Err-order.refusal)) _ _ _ _ _ (order_stopped c.in-Ok.name _ _ (meaning_of c.in-Err-order.refusal) c.in-Err-order.ensures.answer c.in-Err-order.ensures.leaves) c.refuse_link.ensures fault

pub returns-clause-stays : goal.returns-clause-stays
returns-clause-stays g c =
    follows_for c.in-Ok.name c.args.leaf.now _ _ c.in-Ok.ensures
    (stopped c.in-Ok.name _ _ (of_chain (meaning_of c.in-Err-order.refusal)) (order_stopped c.in-Ok.name _ _ (meaning_of c.in-Err-order.refusal) c.in-Err-order.ensures.answer c.in-Err-order.ensures.leaves) c.in-Err-order.ensures.moments)

pub returns-clause-replayed : goal.returns-clause-replayed
returns-clause-replayed g c shown =
    replayed_for c.in-Ok.name c.args.leaf.now _ _ c.in-Ok.ensures
    (replayed_left c.in-Ok.name _ _ (of_chain (meaning_of c.in-Err-order.refusal)) _ _ _ _ _ (order_stopped c.in-Ok.name _ _ (meaning_of c.in-Err-order.refusal) c.in-Err-order.ensures.answer c.in-Err-order.ensures.leaves) c.refuse_link.ensures shown)

pub returns-clause-moments : goal.returns-clause-moments
returns-clause-moments g c = safely_for c.in-Ok.name c.args.leaf.now _ _ c.in-Ok.ensures c.in-Err-order.ensures.moments
