use Rattle.nbd_tests.proofs.ToldLemmas.{both_done, flush_refused, write_refused}
use Rattle.nbd_tests.proofs.told.write_through_to.Goals as goal

pub returns-in_err-placed-clause-told : goal.returns-in_err-placed-clause-told
returns-in_err-placed-clause-told c = write_refused _ _ c.args.first c.args.with.now _ c.from_residual.result c.from_residual.ensures.0 c.in_err-placed.ensures.told

pub returns-in_err-flush_of-clause-told : goal.returns-in_err-flush_of-clause-told
returns-in_err-flush_of-clause-told c =
    flush_refused _ _ _ c.args.first c.args.with.now c.in_ok-placed.placed _ c.from_residual-in_err-flush_of.result c.from_residual-in_err-flush_of.ensures.0 c.in_ok-placed.ensures.told c.in_err-flush_of.ensures.told

pub returns-clause-told : goal.returns-clause-told
returns-clause-told c = both_done _ _ _ c.args.first c.args.with.now c.in_ok-placed.placed _ c.in_ok-placed.ensures.told c.in_ok-flush_of.ensures.told
