use Rattle.std.proofs.Common.{refl}
use Rattle.chain_core.proofs.Beginning.{files_rest, none_changed}
use Rattle.chain_core.proofs.layers.Layers.start_guests.Goals as goal

pub returns-in-Some-clause-moments : goal.returns-in-Some-clause-moments
returns-in-Some-clause-moments g c = files_rest c.args.files.now (g.S.Store.disk c.args.store.now) c.requires.files

pub returns-in-Some-clause-still : goal.returns-in-Some-clause-still
returns-in-Some-clause-still g c = none_changed (g.S.Store.disk c.args.store.now).told _ refl

pub returns-in-Some-clause-begun : goal.returns-in-Some-clause-begun
returns-in-Some-clause-begun g c = tt

pub returns-in-Some-clause-ready : goal.returns-in-Some-clause-ready
returns-in-Some-clause-ready g c = tt

pub returns-in-Some-clause-low : goal.returns-in-Some-clause-low
returns-in-Some-clause-low g c = tt

pub returns-in-Some-clause-geometry : goal.returns-in-Some-clause-geometry
returns-in-Some-clause-geometry g c = tt

pub returns-in-Some-clause-err : goal.returns-in-Some-clause-err
returns-in-Some-clause-err g c = (c.in-Some.ensures.some, refl, refl)

pub start_session-requires-clause-files : goal.start_session-requires-clause-files
start_session-requires-clause-files g c = c.requires.files

pub returns-clause-moments : goal.returns-clause-moments
returns-clause-moments g c = c.start_session.ensures.moments

pub returns-clause-still : goal.returns-clause-still
returns-clause-still g c = c.start_session.ensures.still

pub returns-clause-ready : goal.returns-clause-ready
returns-clause-ready g c = c.start_session.ensures.ready

pub returns-clause-low : goal.returns-clause-low
returns-clause-low g c = c.start_session.ensures.low

pub returns-clause-geometry : goal.returns-clause-geometry
returns-clause-geometry g c = c.start_session.ensures.geometry
