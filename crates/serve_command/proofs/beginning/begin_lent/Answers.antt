use Rattle.std.proofs.Common.{subst, sym}
use Rattle.std.specs.Prelude.{IfOk, is_some}
use Rattle.serve_session.specs.Beginning.{Begins}
use Rattle.serve_command.specs.Guests.{HasServedBy, source_of, workers_of}
use Rattle.serve_command.proofs.beginning.begin_lent.Goals as goal

pub returns-in-None-clause-begins : goal.returns-in-None-clause-begins
returns-in-None-clause-begins g c =
    subst
    (λ m. IfOk c.begin_alone.result (Begins g.S.Store.disk (is_some (source_of m)) c.args.guests (workers_of m) (HasServedBy (source_of m) c.args.files.now (g.S.Store.disk c.args.store) (g.I.Ids.drawn c.args.ids.now) (g.I.Ids.drawn c.begin_alone.new.ids))))
    (sym c.in-None.is) c.begin_alone.ensures.begins
