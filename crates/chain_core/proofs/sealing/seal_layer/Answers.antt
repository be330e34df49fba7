use Rattle.std.proofs.Common.{◌≡◌, ◌++◌, ◌∷◌, [], List, map, subst, sym}
use Rattle.store_model.specs.Disk.{Sealed}
use Rattle.layer_session.specs.declared.file_layer.FileLayer.{FileLayer}
use Rattle.chain_core.specs.Sealed.{read_numbers, readers_of}
use Rattle.chain_core.proofs.SealedSteps.{none_added}
use Rattle.chain_core.proofs.sealing.seal_layer.Goals as goal

pub returns-in-Session-clause-readers : goal.returns-in-Session-clause-readers
returns-in-Session-clause-readers g c =
    let sets : List (List Sealed) = c.args.readers.now in
    subst (λ (l : FileLayer). sets ≡ map (λ set. set ++ readers_of (read_numbers (l ∷ [])) (g.S.Store.disk c.args.store.now)) sets) (sym c.in-Session.is) (none_added sets)
