use Rattle.std.proofs.Common.{None, subst, sym}
use Rattle.make_file.specs.Makes.{outside}
use Rattle.load_command.specs.Growing.{HasStepped}
use Rattle.load_command.proofs.Stepping.{make_untold}
use Rattle.load_command.proofs.loading.run_one.Goals as goal

pub returns-in_err-make_file-in-Make-clause-stopped : goal.returns-in_err-make_file-in-Make-clause-stopped
returns-in_err-make_file-in-Make-clause-stopped g c =
    make_untold c.args.seed c.in-Make.file c.args.command _ _ c.in_err-make_file-in-Make.field-0.0 c.from_residual.result c.in-Make.is c.from_residual.ensures.1 (c.in_err-make_file-in-Make.ensures.stopped c.args.seed)

pub returns-in_ok-make_file-in-Make-clause-done : goal.returns-in_ok-make_file-in-Make-clause-done
returns-in_ok-make_file-in-Make-clause-done g c =
    subst (λ k. HasStepped c.args.seed k (outside (g.H.Host.hosted c.args.host.now) (g.I.Ids.drawn c.args.ids.now)) (outside (g.H.Host.hosted c.make_file.new.host) (g.I.Ids.drawn c.make_file.new.ids)) None) (sym c.in-Make.is) (c.in_ok-make_file-in-Make.ensures.done c.args.seed)
