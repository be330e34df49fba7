use Rattle.std.proofs.Common.{refl}
use Rattle.chain_core.proofs.Noting.{sound_fresh}
use Rattle.chain_core.proofs.chain.Chain.start.Goals as goal

pub returns-in-Ok : goal.returns-in-Ok
returns-in-Ok g c =
    let s = c.in-Ok.ensures in
    record {
      sound = sound_fresh _ refl c.requires.empty s.ready s.low;
      new = (refl, refl, refl);
      geometry = s.geometry;
      started = s.started;
      moments = c.start.ensures.moments;
      kept = tt;
      still = tt;
      err = tt;
    }

pub returns-in-Err : goal.returns-in-Err
returns-in-Err g c =
    let s = c.in-Err.ensures in
    record { sound = tt; new = tt; geometry = tt; started = tt; moments = tt; kept = c.start.ensures.moments; still = c.start.ensures.still; err = s.err }
