use Rattle.chain_core.specs.Sealed.{read_numbers}
use Rattle.chain_core.proofs.SealedSteps.{EndsSealed, ends_sealed, goes_on, made_for_session, ready_on}
use Rattle.chain_core.proofs.chain.Chain.seal.Goals as goal

pub returns-clause-sound : goal.returns-clause-sound
returns-clause-sound g c =
    let old = c.args.self.now in
    let disk = g.S.Store.disk old.store in
    let new = g.S.Store.disk c.seal.new.store in
    let sound = c.requires.sound in
    let ends : EndsSealed (read_numbers old.layers.below.items) disk new = ends_sealed (read_numbers old.layers.below.items) disk new c.seal.result c.seal.ensures.ok c.seal.ensures.err in
    record { sector = sound.sector; noted = sound.noted; few = sound.few; ready = λ whole. ready_on old.layers disk new (sound.ready c.requires.whole) ends; low = sound.low }

pub returns-clause-told : goal.returns-clause-told
returns-clause-told g c =
    let old = c.args.self.now in
    let disk = g.S.Store.disk old.store in
    let new = g.S.Store.disk c.seal.new.store in
    let ends : EndsSealed (read_numbers old.layers.below.items) disk new = ends_sealed (read_numbers old.layers.below.items) disk new c.seal.result c.seal.ensures.ok c.seal.ensures.err in
    goes_on old.layers disk new (c.requires.sound.ready c.requires.whole) ends

pub returns-clause-readers : goal.returns-clause-readers
returns-clause-readers g c =
    let old = c.args.self.now in
    made_for_session old.layers c.args.sets (g.S.Store.disk old.store) (g.S.Store.disk c.seal.new.store) c.seal.result (returns-clause-told g c) c.seal.ensures.readers
