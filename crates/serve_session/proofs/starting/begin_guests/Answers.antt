use Rattle.std.proofs.Common.{ap, false, length, subst}
use Rattle.std.specs.Prelude.{IfOk}
use Rattle.layer_session.proofs.Equal.{false_true}
use Rattle.serve_session.specs.Beginning.{CanBeShared}
use Rattle.serve_session.proofs.Beginnings.{begins_so, size_sealed}
use Rattle.serve_session.proofs.Sessions.{guests_ran, serves_first}
use Rattle.serve_session.proofs.starting.begin_guests.Goals as goal

pub returns-in-Ok-clause-begins : goal.returns-in-Ok-clause-begins
returns-in-Ok-clause-begins g c =
    let disk = g.S.Store.disk in
    let e = c.in-Ok.ensures in
    begins_so disk c.in-Ok.chain false (λ never. absurd (false_true never)) c.args.guests 0 _
    (λ asking told history end merged after s. guests_ran disk c.in-Ok.chain c.args.files.now asking told history end merged (disk c.args.store) after (g.I.Ids.drawn c.args.ids.now) (g.I.Ids.drawn c.start.new.ids) s e.started c.requires.files e.sound.sector e.geometry)
    c.begin.result (subst (λ n. IfOk c.begin.result (CanBeShared disk c.args.guests n)) (ap length c.new.ensures.items) c.begin.ensures.ready) c.begin.ensures.sealed c.begin.ensures.ended

pub begin-requires-clause-serves : goal.begin-requires-clause-serves
begin-requires-clause-serves g c =
    let disk = g.S.Store.disk in
    serves_first disk c.in-Ok.chain c.args.files.now (disk c.args.store) (g.I.Ids.drawn c.args.ids.now) (g.I.Ids.drawn c.start.new.ids) c.requires.files c.in-Ok.ensures.started

pub returns-in-Ok-clause-size : goal.returns-in-Ok-clause-size
returns-in-Ok-clause-size g c = size_sealed g.S.Store.disk c.in-Ok.chain c.args.files.now c.in-Ok.ensures.geometry c.begin.result c.begin.ensures.sealed
