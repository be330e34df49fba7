use Rattle.std.proofs.Common.{subst}
use Rattle.std.specs.Prelude.{IfSome}
use Rattle.store_model.specs.Disk.{WhereTold}
use Rattle.layer_session.specs.FileLayers.{FileTurns}
use Rattle.layer_session.specs.declared.file_layer.FileLayer.TheVariants.{Session}
use Rattle.chain_core.proofs.Exchanged.{layer_at, turns_of}
use Rattle.chain_core.proofs.Places.{IsAt, at_place, never_read}
use Rattle.chain_core.proofs.finishing.update_at.Goals as goal

pub update-requires-clause-turns : goal.update-requires-clause-turns
update-requires-clause-turns g c =
    let at = subst (IsAt c.args.layers.now c.args.at) c.in-Session.is (at_place c.args.layers.now c.args.at c.index-layers-at.result c.requires.there) in
    turns_of c.in-Session.layer c.args.pages.now (g.S.Store.disk c.args.store.now).told
    (subst (λ o. IfSome o (λ l. WhereTold (g.S.Store.disk c.args.store.now).told (FileTurns l c.args.pages.now))) (layer_at c.args.layers.now c.args.at (Session c.in-Session.layer) at) c.requires.turns)

pub returns-in-Session : goal.returns-in-Session
returns-in-Session g c =
    let at = subst (IsAt c.args.layers.now c.args.at) c.in-Session.is (at_place c.args.layers.now c.args.at c.index-layers-at.result c.requires.there) in
    record {
      was = c.in-Session.layer;
      now = c.update.new.self;
      replaced = record { above = at.before; below = at.behind; place = at.long; was_there = at.parts; now_there = at.put (Session c.update.new.self) };
      changed = record {
        moments = c.update.ensures.moments;
        has = c.update.ensures.updated;
        ready = c.update.ensures.ready;
        empty = c.update.ensures.empty;
        number = c.update.ensures.number;
        header = c.update.ensures.header;
        parts = c.update.ensures.parts;
        counts = c.update.ensures.counts;
        err = c.update.ensures.err;
      };
    }

pub returns-in-Read : goal.returns-in-Read
returns-in-Read g c = absurd (never_read c.args.layers.now c.args.at _ (subst (IsAt c.args.layers.now c.args.at) c.in-Read.is (at_place c.args.layers.now c.args.at c.index-layers-at.result c.requires.there)) c.requires.session)
