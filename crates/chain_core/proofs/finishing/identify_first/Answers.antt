use Rattle.std.proofs.Common.{ap, subst}
use Rattle.layer_session.specs.declared.file_layer.FileLayer.TheVariants.{Session}
use Rattle.table_pages.specs.declared.tables.Tables.{Tables}
use Rattle.chain_core.proofs.Places.{IsAt, at_place, never_read}
use Rattle.chain_core.proofs.finishing.identify_first.Goals as goal

pub returns-in-Session : goal.returns-in-Session
returns-in-Session g c =
    let at = subst (IsAt c.args.layers.now 0) c.in-Session.is (at_place c.args.layers.now 0 c.index-layers-0.result c.requires.there) in
    record {
      was = c.in-Session.layer;
      now = c.identify.new.self;
      replaced = record { above = at.before; below = at.behind; place = at.long; was_there = at.parts; now_there = at.put (Session c.identify.new.self) };
      changed = record {
        moments = c.identify.ensures.moments;
        has = c.identify.ensures.identified;
        ready = c.identify.ensures.ready;
        number = c.identify.ensures.number;
        parts = ap (λ (t : Tables). t.parts) c.identify.ensures.tables;
        counts = c.identify.ensures.counts;
        err = c.identify.ensures.err;
      };
    }

pub returns-in-Read : goal.returns-in-Read
returns-in-Read g c = absurd (never_read c.args.layers.now 0 _ (subst (IsAt c.args.layers.now 0) c.in-Read.is (at_place c.args.layers.now 0 c.index-layers-0.result c.requires.there)) c.requires.session)
