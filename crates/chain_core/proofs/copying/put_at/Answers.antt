use Rattle.std.proofs.Common.{subst}
use Rattle.layer_session.specs.declared.file_layer.FileLayer.TheVariants.{Session}
use Rattle.chain_core.proofs.Places.{IsAt, at_place, ready_there, never_read}
use Rattle.chain_core.proofs.TargetPuts.{put_room}
use Rattle.chain_core.proofs.copying.put_at.Goals as goal

pub put_piece-requires-clause-fits : goal.put_piece-requires-clause-fits
put_piece-requires-clause-fits g c =
    let at = subst (IsAt c.args.layers.now c.args.at) c.in-Session.is (at_place c.args.layers.now c.args.at c.index-layers-at.result c.requires.there) in
    let ready = ready_there c.args.geometry (g.S.Store.disk c.args.store.now) c.args.layers.now c.args.at (Session c.in-Session.target) at c.requires.ready in
    c.requires.fits c.in-Session.target.tables.parts ready.sector ready.sectors

pub returns-in-Session : goal.returns-in-Session
returns-in-Session g c =
    let at = subst (IsAt c.args.layers.now c.args.at) c.in-Session.is (at_place c.args.layers.now c.args.at c.index-layers-at.result c.requires.there) in
    record {
      put = record {
        above = at.before;
        below = at.behind;
        was = c.in-Session.target;
        now = c.put_piece.new.target;
        place = at.long;
        was_there = at.parts;
        now_there = at.put (Session c.put_piece.new.target);
        moments = c.put_piece.ensures.moments;
        put = c.put_piece.ensures.put;
        ready = c.put_piece.ensures.ready;
        refused = c.put_piece.ensures.refused;
        kept = c.put_piece.ensures.kept;
        quiet = c.put_piece.ensures.quiet;
        parts = c.put_piece.ensures.parts;
        number = c.put_piece.ensures.number;
        header = c.put_piece.ensures.header;
        counts = c.put_piece.ensures.counts;
        err = c.put_piece.ensures.err;
        room = put_room c.args.piece.now c.in-Session.target (g.S.Store.disk c.args.store.now) c.put_piece.result c.put_piece.ensures.full c.put_piece.ensures.room;
      };
    }

pub returns-in-Read : goal.returns-in-Read
returns-in-Read g c = absurd (never_read c.args.layers.now c.args.at _ (subst (IsAt c.args.layers.now c.args.at) c.in-Read.is (at_place c.args.layers.now c.args.at c.index-layers-at.result c.requires.there)) c.requires.session)
