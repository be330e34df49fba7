use Rattle.std.proofs.Common.{refl}
use Rattle.chain_core.proofs.Noting.{sound_leaf_started}
use Rattle.chain_core.proofs.chain.Chain.start_leaf_merge.Goals as goal

pub returns-in-Ok : goal.returns-in-Ok
returns-in-Ok g c =
    let s = c.in-Ok.ensures in
    let begun = s.started.begun in
    record { sound = sound_leaf_started _ refl c.requires.empty begun.ready begun.only begun.under_way begun.low; new = (refl, refl, refl); started = s.started; moments = s.moments; kept = tt; err = tt }

pub returns-in-Err : goal.returns-in-Err
returns-in-Err g c =
    let s = c.in-Err.ensures in
    record { sound = tt; new = tt; started = tt; moments = tt; kept = s.moments; err = s.err }
