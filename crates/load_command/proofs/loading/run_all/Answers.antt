use Rattle.std.proofs.Common.{None, subst, refl, arith}
use Rattle.std.proofs.lemmas.List.{take_all}
use Rattle.make_file.specs.Makes.{outside}
use Rattle.command_base.proofs.Said.{err_as}
use Rattle.load_command.specs.Growing.{HaveStepped}
use Rattle.load_command.specs.Stops.{StopsWithin}
use Rattle.load_command.proofs.Stepping.{next_stepped, still_idle, stops_within}
use Rattle.load_command.proofs.loading.run_all.Goals as goal

pub returns-in_err-heard-clause-stopped : goal.returns-in_err-heard-clause-stopped
returns-in_err-heard-clause-stopped g c =
    err_as (StopsWithin c.args.seed c.args.commands.now (outside (g.H.Host.hosted c.args.host.now) (g.I.Ids.drawn c.args.ids.now)) (outside (g.H.Host.hosted c.run_one.new.host) (g.I.Ids.drawn c.run_one.new.ids))) c.from_residual.result c.in_err-heard.field-0.0 c.from_residual.ensures.1
    (stops_within c.args.seed c.loop-command.command-index c.args.commands.now _ _ _ _ _ c.loop-command.heard c.in_err-heard.field-0.0 c.loop-command-test.true refl c.loop-command.invariant.done c.in_err-heard.ensures.stopped)

pub loop-command-preserved : goal.loop-command-preserved
loop-command-preserved g c = record {
  done =
      next_stepped c.args.seed c.loop-command.command-index c.args.commands.now _ _ _ _ _ c.loop-command.heard c.in_ok-heard.heard c.loop-command-test.true refl c.loop-command.invariant.done c.in_ok-heard.ensures.done;
  idle = still_idle c.args.seed _ _ _ c.in_ok-heard.heard c.in_ok-heard.ensures.done.done c.loop-command.invariant.idle;
}

pub returns-clause-done : goal.returns-clause-done
returns-clause-done g c =
    subst (λ cs. HaveStepped c.args.seed cs (outside (g.H.Host.hosted c.args.host.now) (g.I.Ids.drawn c.args.ids.now)) None (outside (g.H.Host.hosted c.loop-command.host) (g.I.Ids.drawn c.loop-command.ids)) c.loop-command.heard)
    (take_all c.loop-command.command-index c.args.commands.now (omega (arith, c.loop-command-test.false))) c.loop-command.invariant.done
