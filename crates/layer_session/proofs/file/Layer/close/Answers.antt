use Rattle.std.proofs.Common.{ap}
use Rattle.store_model.specs.Disk.{Disk}
use Rattle.layer_session.proofs.Closed.{both_closed, can_read}
use Rattle.layer_session.proofs.Ending.{both_over}
use Rattle.vx_base.proofs.Handed.{failed_for, not_if_ok, not_ok}
use Rattle.layer_session.proofs.file.Layer.close.Goals as goal

pub returns-in_err-end-clause-moments : goal.returns-in_err-end-clause-moments
returns-in_err-end-clause-moments g c =
    both_over c.args.self c.commit.new.self (g.S.Store.disk c.args.store.now) (g.S.Store.disk c.commit.new.store) (g.S.Store.disk c.end.new.store) c.commit.ensures.moments c.in_ok-commit.ensures.committed
    c.in_ok-commit.ensures.ready.one_file c.in_ok-commit.ensures.empty c.end.ensures.moments c.end.ensures.only

pub returns-clause-moments : goal.returns-clause-moments
returns-clause-moments g c =
    both_over c.args.self c.commit.new.self (g.S.Store.disk c.args.store.now) (g.S.Store.disk c.commit.new.store) (g.S.Store.disk c.end.new.store) c.commit.ensures.moments c.in_ok-commit.ensures.committed
    c.in_ok-commit.ensures.ready.one_file c.in_ok-commit.ensures.empty c.end.ensures.moments c.end.ensures.only

pub returns-clause-closed : goal.returns-clause-closed
returns-clause-closed g c =
    both_closed c.args.self c.commit.new.self (g.S.Store.disk c.args.store.now) (g.S.Store.disk c.commit.new.store) (g.S.Store.disk c.end.new.store) c.in_ok-commit.ensures.committed
    c.in_ok-commit.ensures.ready.one_file c.in_ok-commit.ensures.empty c.end.ensures.moments c.end.ensures.only c.in_ok-end.ensures.ended

pub returns-clause-can : goal.returns-clause-can
returns-clause-can g c =
    can_read c.args.self c.commit.new.self (g.S.Store.disk c.args.store.now) (g.S.Store.disk c.commit.new.store) (g.S.Store.disk c.end.new.store) c.requires.ready c.in_ok-commit.ensures.ready
    c.commit.ensures.parts (ap (λ (d : Disk). d.files) c.in_ok-end.ensures.counts)
    (both_closed c.args.self c.commit.new.self (g.S.Store.disk c.args.store.now) (g.S.Store.disk c.commit.new.store) (g.S.Store.disk c.end.new.store) c.in_ok-commit.ensures.committed
    c.in_ok-commit.ensures.ready.one_file c.in_ok-commit.ensures.empty c.end.ensures.moments c.end.ensures.only c.in_ok-end.ensures.ended)

pub commit-requires-clause-ready : goal.commit-requires-clause-ready
commit-requires-clause-ready g c = c.requires.ready

pub commit-requires-clause-numbers : goal.commit-requires-clause-numbers
commit-requires-clause-numbers g c = c.requires.numbers

pub returns-in_err-commit-clause-counts : goal.returns-in_err-commit-clause-counts
returns-in_err-commit-clause-counts g c = not_ok c.from_residual.result _ c.from_residual.ensures.1 _

pub returns-in_err-commit-clause-closed : goal.returns-in_err-commit-clause-closed
returns-in_err-commit-clause-closed g c = not_if_ok c.from_residual.result _ c.from_residual.ensures.1 _

pub returns-in_err-commit-clause-can : goal.returns-in_err-commit-clause-can
returns-in_err-commit-clause-can g c = not_if_ok c.from_residual.result _ c.from_residual.ensures.1 _

pub returns-in_err-commit-clause-parts : goal.returns-in_err-commit-clause-parts
returns-in_err-commit-clause-parts g c = not_if_ok c.from_residual.result _ c.from_residual.ensures.1 _

pub returns-in_err-commit-clause-moments : goal.returns-in_err-commit-clause-moments
returns-in_err-commit-clause-moments g c = c.in_err-commit.ensures.moments

pub returns-in_err-commit-clause-err : goal.returns-in_err-commit-clause-err
returns-in_err-commit-clause-err g c = failed_for c.from_residual.result _ c.from_residual.ensures.1 _ c.in_err-commit.ensures.err
