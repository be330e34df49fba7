use Rattle.std.proofs.Common.{ap, refl, sym, ◌∙◌}
use Rattle.table_pages.specs.declared.tables.TableParts.{TableParts}
use Rattle.layer_session.specs.declared.file_layer.FileLayer.TheVariants.{Read}
use Rattle.chain_core.proofs.OfSource.{sealed_source}
use Rattle.chain_core.proofs.Places.{source_at}
use Rattle.chain_core.proofs.chain.Chain.sealed_source.Goals as goal

pub returns-clause-source : goal.returns-clause-source
returns-clause-source g c =
    let layers = c.args.self.now.layers in
    let disk = g.S.Store.disk c.args.self.now.store in
    let u = c.in-Some.merge in
    let l = c.in-Read.source in
    let ready = c.requires.sound.ready c.requires.whole in
    let at = source_at layers u disk (Read l) _ c.in-Some.is ready (sym c.in-Read.is ∙ c.index.ensures) in
    sealed_source layers u disk l c.in-Some.is at ready _ (ap (λ (p : TableParts). p.file) c.parts.ensures) refl c.stripes.ensures c.in_ok-layer.ensures
