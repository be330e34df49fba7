use Rattle.layer_session.proofs.Ending.{both_over, ended_by}
use Rattle.vx_base.proofs.Handed.{failed_for, not_ok}
use Rattle.layer_session.proofs.file.Layer.end.Goals as goal

pub returns-clause-moments : goal.returns-clause-moments
returns-clause-moments g c =
    both_over c.args.self c.commit.new.self (g.S.Store.disk c.args.store.now) (g.S.Store.disk c.commit.new.store) (g.S.Store.disk c.end.new.store) c.commit.ensures.moments c.in_ok-commit.ensures.committed
    c.in_ok-commit.ensures.ready.one_file c.in_ok-commit.ensures.empty c.end.ensures.moments c.end.ensures.only

pub returns-clause-ended : goal.returns-clause-ended
returns-clause-ended g c =
    ended_by c.args.self c.commit.new.self (g.S.Store.disk c.args.store.now) (g.S.Store.disk c.commit.new.store) (g.S.Store.disk c.end.new.store) c.commit.ensures.moments c.in_ok-commit.ensures.committed
    c.in_ok-commit.ensures.ready.one_file c.in_ok-commit.ensures.empty c.end.ensures.moments c.end.ensures.only c.end.result c.end.ensures.ended

pub commit-requires-clause-ready : goal.commit-requires-clause-ready
commit-requires-clause-ready g c = c.requires.ready

pub commit-requires-clause-numbers : goal.commit-requires-clause-numbers
commit-requires-clause-numbers g c = c.requires.numbers

pub returns-in_err-commit-clause-counts : goal.returns-in_err-commit-clause-counts
returns-in_err-commit-clause-counts g c = not_ok c.from_residual.result _ c.from_residual.ensures.1 _

pub returns-in_err-commit-clause-ended : goal.returns-in_err-commit-clause-ended
returns-in_err-commit-clause-ended g c = not_ok c.from_residual.result _ c.from_residual.ensures.1 _

pub returns-in_err-commit-clause-moments : goal.returns-in_err-commit-clause-moments
returns-in_err-commit-clause-moments g c = c.in_err-commit.ensures.moments

pub returns-in_err-commit-clause-err : goal.returns-in_err-commit-clause-err
returns-in_err-commit-clause-err g c = failed_for c.from_residual.result _ c.from_residual.ensures.1 _ c.in_err-commit.ensures.err
