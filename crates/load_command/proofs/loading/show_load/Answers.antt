use Rattle.std.proofs.Common.{refl, ◌∙◌}
use Rattle.link_rules.specs.Folders.{contents}
use Rattle.link_rules.specs.Touches.{IsOnWay}
use Rattle.link_rules.proofs.Safe.{none_safely}
use Rattle.command_base.specs.Causes.{meaning_of_chain}
use Rattle.command_base.proofs.Left.{counted, followed, follows_for, follows_none, idle_left, safely_for, stopped}
use Rattle.command_base.proofs.Said.{line_ended, no_memory_ended, refused_ended}
use Rattle.load_command.specs.Commands.{load_name}
use Rattle.load_command.proofs.Shown.{leaf_summed, lines_shown}
use Rattle.load_command.proofs.loading.show_load.Goals as goal

pub returns-in-Err-clause-ended : goal.returns-in-Err-clause-ended
returns-in-Err-clause-ended g c = no_memory_ended _ _ _ _ _ _ _ _ _ refl c.out_of_memory.ensures

pub returns-in-Err-clause-follows : goal.returns-in-Err-clause-follows
returns-in-Err-clause-follows g c = follows_none (load_name 4) (g.H.Host.hosted c.args.host.now)

pub returns-in-Err-clause-moments : goal.returns-in-Err-clause-moments
returns-in-Err-clause-moments g c = none_safely (λ f. IsOnWay (contents f) (load_name 4)) (g.H.Host.hosted c.args.host.now)

pub returns-in-Ok-sum_of-clause-ended : goal.returns-in-Ok-sum_of-clause-ended
returns-in-Ok-sum_of-clause-ended g c =
    line_ended _ _ _ _ _ _ _ _ _ c.text_of.result c.in-Ok-sum_of.ensures.leaves.has.quiet
    (lines_shown c.args.seed _ c.in-Ok.leaf c.args.tally c.in-Ok-sum_of.sum c.text_of.result (c.in-Ok.ensures ∙ c.name_of.ensures.value) c.in-Ok-sum_of.ensures.answer c.text_of.ensures)
    c.say.ensures

pub returns-in-Ok-sum_of-clause-idle : goal.returns-in-Ok-sum_of-clause-idle
returns-in-Ok-sum_of-clause-idle g c fault = c.in-Ok-sum_of.ensures.leaves.has.idle

pub returns-in-Ok-sum_of-clause-follows : goal.returns-in-Ok-sum_of-clause-follows
returns-in-Ok-sum_of-clause-follows g c = follows_for c.in-Ok.leaf (load_name 4) _ _ (c.in-Ok.ensures ∙ c.name_of.ensures.value) (followed c.in-Ok.leaf _ _ c.in-Ok-sum_of.ensures.leaves c.in-Ok-sum_of.ensures.moments)

pub returns-in-Ok-sum_of-clause-moments : goal.returns-in-Ok-sum_of-clause-moments
returns-in-Ok-sum_of-clause-moments g c = safely_for c.in-Ok.leaf (load_name 4) _ _ (c.in-Ok.ensures ∙ c.name_of.ensures.value) c.in-Ok-sum_of.ensures.moments

pub returns-clause-ended : goal.returns-clause-ended
returns-clause-ended g c =
    let meaning = meaning_of_chain c.in-Err-sum_of.refusal in
    refused_ended _ _ _ _ _ _ _ _ _ meaning (leaf_summed _ c.in-Ok.leaf (load_name 4) c.in-Err-sum_of.refusal (c.in-Ok.ensures ∙ c.name_of.ensures.value) c.in-Err-sum_of.ensures.answer)
    (counted c.in-Ok.leaf _ _ meaning c.in-Err-sum_of.ensures.leaves) c.refuse_chain.ensures

pub returns-clause-idle : goal.returns-clause-idle
returns-clause-idle g c fault = idle_left c.in-Ok.leaf _ _ (meaning_of_chain c.in-Err-sum_of.refusal) _ _ _ _ _ c.in-Err-sum_of.ensures.leaves c.refuse_chain.ensures fault

pub returns-clause-follows : goal.returns-clause-follows
returns-clause-follows g c =
    follows_for c.in-Ok.leaf (load_name 4) _ _ (c.in-Ok.ensures ∙ c.name_of.ensures.value) (stopped c.in-Ok.leaf _ _ (meaning_of_chain c.in-Err-sum_of.refusal) c.in-Err-sum_of.ensures.leaves c.in-Err-sum_of.ensures.moments)

pub returns-clause-moments : goal.returns-clause-moments
returns-clause-moments g c = safely_for c.in-Ok.leaf (load_name 4) _ _ (c.in-Ok.ensures ∙ c.name_of.ensures.value) c.in-Err-sum_of.ensures.moments
