use Rattle.std.proofs.Common.{subst}
use Rattle.layer_session.specs.declared.file_layer.FileLayer.TheVariants.{Session}
use Rattle.chain_core.proofs.Places.{IsAt, at_place, never_read}
use Rattle.chain_core.proofs.finishing.settle_at.Goals as goal

pub returns-in-Session : goal.returns-in-Session
returns-in-Session g c =
    let at = subst (IsAt c.args.layers.now c.args.at) c.in-Session.is (at_place c.args.layers.now c.args.at c.index-layers-at.result c.requires.there) in
    record {
      was = c.in-Session.layer;
      now = c.commit.new.self;
      replaced = record { above = at.before; below = at.behind; place = at.long; was_there = at.parts; now_there = at.put (Session c.commit.new.self) };
      changed = record {
        moments = c.commit.ensures.moments;
        has = c.commit.ensures.committed;
        ready = c.commit.ensures.ready;
        empty = c.commit.ensures.empty;
        number = c.commit.ensures.number;
        header = c.commit.ensures.header;
        parts = c.commit.ensures.parts;
        counts = c.commit.ensures.counts;
        err = c.commit.ensures.err;
      };
    }

pub returns-in-Read : goal.returns-in-Read
returns-in-Read g c = absurd (never_read c.args.layers.now c.args.at _ (subst (IsAt c.args.layers.now c.args.at) c.in-Read.is (at_place c.args.layers.now c.args.at c.index-layers-at.result c.requires.there)) c.requires.session)
