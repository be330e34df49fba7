use Rattle.std.proofs.Common.{◌||◌, Bool, Option, ap₂, length, true}
use Rattle.std.specs.Prelude.{is_some}
use Rattle.chain_core.specs.declared.layers.Underway.{Underway}
use Rattle.serve_session.proofs.Beginnings.{begins_so, leaf_merge_size, size_sealed}
use Rattle.serve_session.proofs.MergeSessions.{guests_leaf_merged, leaf_merge_first}
use Rattle.serve_session.proofs.starting.begin_leaf_merge.Goals as goal

pub returns-in-Ok-clause-begins : goal.returns-in-Ok-clause-begins
returns-in-Ok-clause-begins g c =
    let disk = g.S.Store.disk in
    let e = c.in-Ok.ensures in
    begins_so disk c.in-Ok.chain true (λ some. ap₂ (λ (o : Option Underway) (b : Bool). is_some o || b) e.started.begun.only e.started.begun.under_way) c.args.guests (length c.args.pieces.items) _
    (λ asking told history end merged after s. guests_leaf_merged disk c.in-Ok.chain asking told history end merged after s e.sound.sector c.args.files.now (disk c.args.store) (g.I.Ids.drawn c.args.ids.now) (g.I.Ids.drawn c.start_leaf_merge.new.ids) c.requires.files e.started)
    c.begin.result c.begin.ensures.ready c.begin.ensures.sealed c.begin.ensures.ended

pub begin-requires-clause-serves : goal.begin-requires-clause-serves
begin-requires-clause-serves g c =
    let started = c.in-Ok.ensures.started in
    leaf_merge_first g.S.Store.disk c.in-Ok.chain started.m started.merge (g.S.Store.disk c.args.store).told started.begun.serving

pub returns-in-Ok-clause-size : goal.returns-in-Ok-clause-size
returns-in-Ok-clause-size g c =
    let s = c.in-Ok.ensures.started in
    size_sealed g.S.Store.disk c.in-Ok.chain c.args.files.now (leaf_merge_size c.args.files.now s.m c.in-Ok.chain.layers.geometry s.planned.begun.files_are s.begun.geometry) c.begin.result c.begin.ensures.sealed
