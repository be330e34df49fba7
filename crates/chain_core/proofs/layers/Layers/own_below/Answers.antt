use Rattle.std.proofs.Common.{refl, subst, sym, ap, length, ◌∙◌}
use Rattle.layer_session.specs.FileLayers.{AreReadableFiles}
use Rattle.layer_session.proofs.FileLayers.{others_stand}
use Rattle.std.proofs.lemmas.List.{with_items_is}
use Rattle.std.specs.Vec.{with_items}
use Rattle.chain_core.specs.declared.layers.Layers.{Layers}
use Rattle.chain_core.proofs.Finding.{below_adds, below_reads}
use Rattle.chain_core.proofs.Numbers.{length_items}
use Rattle.chain_core.proofs.layers.Layers.own_below.Goals as goal

pub returns-clause-reads : goal.returns-clause-reads
returns-clause-reads g c =
    let new : Layers = record c.args.self.now { below = with_items c.args.self.now.below c.own_files.new.layers } in
    below_reads c.args.self.now new c.as_mut_slice-below.result.now c.own_files.new.layers (g.S.Store.disk c.args.store.now) (g.S.Store.disk c.own_files.new.store) c.own_files.result
    c.as_mut_slice-below.ensures.value refl refl refl refl (with_items_is c.args.self.now.below c.own_files.new.layers (c.own_files.auto.layers ∙ ap length c.as_mut_slice-below.ensures.value ∙ length_items c.args.self.now.below)) c.own_files.ensures.same c.own_files.ensures.numbers c.own_files.ensures.headers c.own_files.ensures.stays c.own_files.ensures.err c.requires.ready

pub returns-clause-adds : goal.returns-clause-adds
returns-clause-adds g c =
    below_adds c.args.self.now c.as_mut_slice-below.result.now (g.S.Store.disk c.args.store.now) c.args.first c.args.count c.args.mask.now c.own_files.new.mask c.args.out.now c.own_files.new.out c.own_files.result
    c.as_mut_slice-below.ensures.value c.own_files.ensures.owned

pub own_files-requires-clause-readable : goal.own_files-requires-clause-readable
own_files-requires-clause-readable g c =
    subst (λ b. AreReadableFiles c.args.self.now.geometry (g.S.Store.disk c.args.store.now) b) (sym c.as_mut_slice-below.ensures.value)
    (others_stand.can c.args.self.now.geometry (g.S.Store.disk c.args.store.now) c.args.self.now.below.items c.requires.ready.below)
