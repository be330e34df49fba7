use Rattle.std.proofs.Common.{refl, sym, subst}
use Rattle.std.specs.Prelude.{IfSome, Some}
use Rattle.chain_core.specs.Finished.{ChangesFile, UpdatesBy, at_leaf}
use Rattle.chain_core.specs.declared.layers.Layers.{Layers}
use Rattle.chain_core.proofs.Places.{none_left, leaf_not_none}
use Rattle.chain_core.proofs.layers.Layers.retire.Goals as goal

pub returns-in-Some-leaf : goal.returns-in-Some-leaf
returns-in-Some-leaf g c =
    let old : Layers = c.args.self.now in
    let r = c.in-Some.retiring in
    let before = g.S.Store.disk c.args.store.now in
    let after = g.S.Store.disk c.update.new.store in
    let was = c.in-Some-leaf.leaf in
    let now = c.update.new.self in
    let new : Layers = record old { leaf = Some now } in
    let changed : UpdatesBy c.as_slice.result.now was now before after c.update.result = record {
      moments = c.update.ensures.moments;
      has = c.update.ensures.updated;
      ready = c.update.ensures.ready;
      empty = c.update.ensures.empty;
      number = c.update.ensures.number;
      header = c.update.ensures.header;
      parts = c.update.ensures.parts;
      counts = c.update.ensures.counts;
      err = c.update.ensures.err;
    } in
    let done : ChangesFile (UpdatesBy r.retire) 0 old new before after c.update.result = record {
      was = was;
      now = now;
      geometry = refl;
      merge = refl;
      retiring = refl;
      exchanged = at_leaf refl c.in-Some-leaf.is refl refl;
      changed = subst (λ pages. UpdatesBy pages was now before after c.update.result) c.as_slice.ensures.pages changed;
    } in
    subst (λ o. IfSome o (λ k. ChangesFile (UpdatesBy k.retire) 0 old new before after c.update.result)) (sym c.in-Some.is) done

pub returns-in_default : goal.returns-in_default
returns-in_default g c = absurd (none_left c.args.self.now.retiring c.in_default.not-Some c.requires.merge)

pub returns-in-None : goal.returns-in-None
returns-in-None g c = absurd (leaf_not_none c.args.self.now c.in-None.is c.requires.session)
