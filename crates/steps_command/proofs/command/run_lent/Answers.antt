use Rattle.steps_command.proofs.Lending.{can_start}
use Rattle.steps_command.proofs.command.run_lent.Goals as goal

pub run_script-store-requires-clause-files : goal.run_script-store-requires-clause-files
run_script-store-requires-clause-files g c =
    can_start c.args.files.now (g.S.Store.disk c.args.store) (g.S.Store.disk c.check_lengths.new.store) c.in_default.ensures.store c.requires.chain c.in_default.ensures.short
