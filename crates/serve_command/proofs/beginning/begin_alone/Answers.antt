use Rattle.std.proofs.Common.{false, None, subst}
use Rattle.serve_session.specs.Beginning.{Begins}
use Rattle.serve_command.specs.Guests.{HasServedBy}
use Rattle.steps_command.proofs.Lending.{can_start}
use Rattle.serve_command.proofs.beginning.begin_alone.Goals as goal

pub begin_guests-requires-clause-files : goal.begin_guests-requires-clause-files
begin_guests-requires-clause-files g c =
    can_start c.args.files.now (g.S.Store.disk c.args.store) (g.S.Store.disk c.check_lengths.new.store) c.in_default.ensures.store c.requires.chain c.in_default.ensures.short

pub returns-in-Ok-clause-begins : goal.returns-in-Ok-clause-begins
returns-in-Ok-clause-begins g c =
    subst (λ d. Begins g.S.Store.disk false c.args.guests 0 (HasServedBy None c.args.files.now d (g.I.Ids.drawn c.args.ids.now) (g.I.Ids.drawn c.begin_guests.new.ids)) c.in-Ok.begun) c.in_default.ensures.store c.in-Ok.ensures.begins
