use Rattle.layer_session.proofs.Exits.{le_more}
use Rattle.layer_session.proofs.Fitted.{fits_then}
use Rattle.layer_session.proofs.Leading.{leads_committed, leads_same}
use Rattle.layer_session.proofs.Readable.{same_self}
use Rattle.std.proofs.Common.{refl}
use Rattle.layer_session.proofs.file.Layer.make_room.Goals as goal

pub returns-then-room_for-clause-leads : goal.returns-then-room_for-clause-leads
returns-then-room_for-clause-leads g c = leads_same c.args.self.now c.args.self.now (g.S.Store.disk c.args.store.now) c.requires.ready (same_self c.args.self.now (g.S.Store.disk c.args.store.now) c.requires.ready.readable) refl

pub returns-in-Ok-clause-leads : goal.returns-in-Ok-clause-leads
returns-in-Ok-clause-leads g c =
    leads_committed c.args.self.now c.commit.new.self (g.S.Store.disk c.args.store.now) (g.S.Store.disk c.commit.new.store) c.commit.ensures.moments c.in-Ok.ensures.committed c.in-Ok.ensures.ready c.commit.ensures.parts c.commit.ensures.leave
    c.in-Ok.ensures.counts

pub returns-in-Ok-clause-fits : goal.returns-in-Ok-clause-fits
returns-in-Ok-clause-fits g c p u b h = fits_then p u b c.args.self.now.space c.commit.new.self.space c.in-Ok.ensures.space h

pub commit-requires-clause-ready : goal.commit-requires-clause-ready
commit-requires-clause-ready g c = c.requires.ready

pub commit-requires-clause-numbers : goal.commit-requires-clause-numbers
commit-requires-clause-numbers g c = c.requires.numbers

pub returns-in-Ok-clause-header : goal.returns-in-Ok-clause-header
returns-in-Ok-clause-header g c = c.commit.ensures.header

pub returns-in-Err-clause-header : goal.returns-in-Err-clause-header
returns-in-Err-clause-header g c = c.commit.ensures.header

pub returns-in-Ok-clause-number : goal.returns-in-Ok-clause-number
returns-in-Ok-clause-number g c = c.commit.ensures.number

pub returns-in-Err-clause-number : goal.returns-in-Err-clause-number
returns-in-Err-clause-number g c = c.commit.ensures.number

pub returns-in-Ok-clause-plans : goal.returns-in-Ok-clause-plans
returns-in-Ok-clause-plans g c = c.commit.ensures.plans

pub returns-in-Err-clause-plans : goal.returns-in-Err-clause-plans
returns-in-Err-clause-plans g c = c.commit.ensures.plans

pub returns-in-Ok-clause-says : goal.returns-in-Ok-clause-says
returns-in-Ok-clause-says g c = c.in-Ok.ensures.says

pub returns-in-Err-clause-leads : goal.returns-in-Err-clause-leads
returns-in-Err-clause-leads g c =
    (record { moments = c.commit.ensures.moments; readable = c.in-Err.ensures.broken.0; holds = c.in-Err.ensures.broken.1; parts = c.commit.ensures.parts; leave = c.commit.ensures.leave }, c.in-Err.ensures.err)

pub returns-then-room_for-clause-header : goal.returns-then-room_for-clause-header
returns-then-room_for-clause-header g c = refl

pub returns-then-room_for-clause-plans : goal.returns-then-room_for-clause-plans
returns-then-room_for-clause-plans g c = refl

pub returns-then-room_for-clause-fits : goal.returns-then-room_for-clause-fits
returns-then-room_for-clause-fits g c payloads units bitmaps fits = fits

pub returns-then-room_for-clause-number : goal.returns-then-room_for-clause-number
returns-then-room_for-clause-number g c = le_more c.args.self.now.log.number 1
