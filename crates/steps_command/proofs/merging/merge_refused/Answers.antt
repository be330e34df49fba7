use Rattle.std.proofs.Common.{ap, refl, subst, sym, ◌∙◌}
use Rattle.steps_command.specs.Sessions.{IsMergeRefusal, is_told, no_name, of_merge_start}
use Rattle.command_base.specs.declared.refusal.ChainRefusal.TheVariants as chain
use Rattle.steps_command.specs.declared.refusal.StepsRefusal.TheVariants as steps
use Rattle.steps_command.proofs.merging.merge_refused.Goals as goal

pub returns-in-Spent : goal.returns-in-Spent
returns-in-Spent c = is_told c.args.refusal (steps.Spent c.in-Spent.number) (sym (ap (of_merge_start c.args.names.now c.args.source.now) c.in-Spent.is))

pub returns-in-Ok : goal.returns-in-Ok
returns-in-Ok c = is_told c.args.refusal c.in-Ok.told (c.in-Ok.ensures.told ∙ sym (ap (of_merge_start c.args.names.now c.args.source.now) c.in-Plan.is))

pub returns-in-Err : goal.returns-in-Err
returns-in-Err c =
    subst (λ r. IsMergeRefusal c.args.names.now c.args.source.now r (steps.Chain chain.NoRoom)) (sym c.in-Plan.is) (no_name c.in-Plan.refusal (steps.Chain chain.NoRoom) c.in-Err.ensures.names refl)

pub returns-in-Begin : goal.returns-in-Begin
returns-in-Begin c = is_told c.args.refusal c.begin_refused.result (c.begin_refused.ensures ∙ sym (ap (of_merge_start c.args.names.now c.args.source.now) c.in-Begin.is))
