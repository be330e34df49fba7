use Rattle.std.proofs.Common.{◌||◌, ap, length, true}
use Rattle.std.specs.Prelude.{is_some}
use Rattle.serve_session.proofs.Beginnings.{begins_so, merge_size, size_sealed}
use Rattle.serve_session.proofs.MergeSessions.{guests_merged, merge_first}
use Rattle.serve_session.proofs.starting.begin_merge.Goals as goal

pub returns-in-Ok-clause-begins : goal.returns-in-Ok-clause-begins
returns-in-Ok-clause-begins g c =
    let disk = g.S.Store.disk in
    let e = c.in-Ok.ensures in
    begins_so disk c.in-Ok.chain true (λ some. ap (λ b. b || is_some c.in-Ok.chain.layers.retiring) e.started.begun.under_way) c.args.guests (length c.args.pieces.items) _
    (λ asking told history end merged after s. guests_merged disk c.in-Ok.chain asking told history end merged after s e.sound.sector c.args.files.now c.args.source.now (disk c.args.store) (g.I.Ids.drawn c.args.ids.now) (g.I.Ids.drawn c.start_merge.new.ids) c.requires.files e.started)
    c.begin.result c.begin.ensures.ready c.begin.ensures.sealed c.begin.ensures.ended

pub begin-requires-clause-serves : goal.begin-requires-clause-serves
begin-requires-clause-serves g c =
    let started = c.in-Ok.ensures.started in
    merge_first g.S.Store.disk c.in-Ok.chain started.m started.merge (g.S.Store.disk c.args.store).told started.begun.serving

pub returns-in-Ok-clause-size : goal.returns-in-Ok-clause-size
returns-in-Ok-clause-size g c =
    let s = c.in-Ok.ensures.started in
    size_sealed g.S.Store.disk c.in-Ok.chain c.args.files.now (merge_size c.args.files.now s.m c.args.source.now c.in-Ok.chain.layers.geometry s.planned.begun.files_are s.begun.geometry) c.begin.result c.begin.ensures.sealed
