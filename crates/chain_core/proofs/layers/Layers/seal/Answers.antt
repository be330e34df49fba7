use Rattle.std.proofs.Common.{◌++◌, ap, List, map, subst, sym, ◌∙◌}
use Rattle.std.specs.List.{AllByRecursion}
use Rattle.store_model.specs.Disk.{Sealed}
use Rattle.layer_session.specs.declared.file_layer.FileLayer.{FileLayer}
use Rattle.chain_core.specs.Sealed.{CanSeal, read_numbers, readers_of}
use Rattle.chain_core.proofs.SealedReady.{can_seal}
use Rattle.chain_core.proofs.SealedSteps.{from_none}
use Rattle.chain_core.proofs.layers.Layers.seal.Goals as goal

pub seal_files-requires-clause-can : goal.seal_files-requires-clause-can
seal_files-requires-clause-can g c =
    let layers = c.args.self.now in
    let disk = g.S.Store.disk c.args.store.now in
    subst (λ (below : List FileLayer). AllByRecursion (CanSeal disk) (read_numbers below)) (sym c.as_slice.ensures.value) (can_seal layers.geometry disk layers.below.items c.requires.ready.below c.requires.synced)

pub returns-clause-readers : goal.returns-clause-readers
returns-clause-readers g c =
    let disk = g.S.Store.disk c.args.store.now in
    let made : List Sealed = readers_of (read_numbers c.args.self.now.below.items) disk in
    c.in_ok-seal_files.ensures.readers ∙ ap (λ (below : List FileLayer). map (λ set. set ++ readers_of (read_numbers below) disk) c.in-Ok.readers) c.as_slice.ensures.value
    ∙ ap (λ (sets : List (List Sealed)). map (λ set. set ++ made) sets) c.in-Ok.ensures ∙ from_none c.args.sets made
