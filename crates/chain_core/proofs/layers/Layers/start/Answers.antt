use Rattle.std.proofs.Common.{refl, sym, subst}
use Rattle.chain_core.specs.Starting.{HasStarted}
use Rattle.chain_core.specs.declared.starting.Mode.{Mode}
use Rattle.chain_core.proofs.Beginning.{files_rest, low_read, none_changed, reading_ready, reading_started}
use Rattle.chain_core.proofs.layers.Layers.start.Goals as goal

pub returns-in_err-open-in-ReadOnly-clause-moments : goal.returns-in_err-open-in-ReadOnly-clause-moments
returns-in_err-open-in-ReadOnly-clause-moments g c = files_rest c.args.files.now (g.S.Store.disk c.args.store.now) c.requires.files

pub returns-in_ok-open-in-ReadOnly-clause-moments : goal.returns-in_ok-open-in-ReadOnly-clause-moments
returns-in_ok-open-in-ReadOnly-clause-moments g c = files_rest c.args.files.now (g.S.Store.disk c.args.store.now) c.requires.files

pub returns-in_ok-open-in-ReadOnly-clause-started : goal.returns-in_ok-open-in-ReadOnly-clause-started
returns-in_ok-open-in-ReadOnly-clause-started g c =
    subst (λ (mode : Mode). HasStarted mode c.args.files.now c.in_ok-open-in-ReadOnly.field-0 (g.S.Store.disk c.args.store.now) (g.S.Store.disk c.args.store.now) (g.I.Ids.drawn c.args.ids.now) (g.I.Ids.drawn c.args.ids.now)) (sym c.in-ReadOnly.is)
    (reading_started c.args.files.now c.in_ok-open-in-ReadOnly.field-0 (g.S.Store.disk c.args.store.now) (g.I.Ids.drawn c.args.ids.now) c.requires.files c.in_ok-open-in-ReadOnly.ensures.geometry c.in_ok-open-in-ReadOnly.ensures.leaf c.in_ok-open-in-ReadOnly.ensures.merge c.in_ok-open-in-ReadOnly.ensures.below)

pub returns-in_ok-open-in-ReadOnly-clause-ready : goal.returns-in_ok-open-in-ReadOnly-clause-ready
returns-in_ok-open-in-ReadOnly-clause-ready g c =
    reading_ready c.args.files.now c.in_ok-open-in-ReadOnly.field-0 (g.S.Store.disk c.args.store.now) c.requires.files c.in_ok-open-in-ReadOnly.ensures.geometry c.in_ok-open-in-ReadOnly.ensures.leaf c.in_ok-open-in-ReadOnly.ensures.merge c.in_ok-open-in-ReadOnly.ensures.below

pub returns-in_err-open-in-ReadOnly-clause-still : goal.returns-in_err-open-in-ReadOnly-clause-still
returns-in_err-open-in-ReadOnly-clause-still g c = none_changed (g.S.Store.disk c.args.store.now).told _ refl

pub returns-in_ok-open-in-ReadOnly-clause-still : goal.returns-in_ok-open-in-ReadOnly-clause-still
returns-in_ok-open-in-ReadOnly-clause-still g c = none_changed (g.S.Store.disk c.args.store.now).told _ refl

pub returns-in_ok-open-in-ReadOnly-clause-low : goal.returns-in_ok-open-in-ReadOnly-clause-low
returns-in_ok-open-in-ReadOnly-clause-low g c =
    low_read c.args.files.now c.in_ok-open-in-ReadOnly.field-0 c.in_ok-open-in-ReadOnly.ensures.leaf c.in_ok-open-in-ReadOnly.ensures.below

pub returns-in-Guests-clause-moments : goal.returns-in-Guests-clause-moments
returns-in-Guests-clause-moments g c = c.start_guests.ensures.moments

pub returns-in-Guests-clause-still : goal.returns-in-Guests-clause-still
returns-in-Guests-clause-still g c = c.start_guests.ensures.still

pub returns-in-Guests-clause-ready : goal.returns-in-Guests-clause-ready
returns-in-Guests-clause-ready g c = c.start_guests.ensures.ready

pub returns-in-Guests-clause-low : goal.returns-in-Guests-clause-low
returns-in-Guests-clause-low g c = c.start_guests.ensures.low

pub returns-in-Guests-clause-geometry : goal.returns-in-Guests-clause-geometry
returns-in-Guests-clause-geometry g c = c.start_guests.ensures.geometry
