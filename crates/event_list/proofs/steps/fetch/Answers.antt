use Rattle.std.proofs.Common.{◌∙◌, ap}
use Rattle.vx_base.specs.declared.parts.Geometry.{Geometry}
use Rattle.script_session.proofs.Moving.{fetch_done, fetch_failed}
use Rattle.event_list.proofs.steps.fetch.Goals as goal

pub returns-in-Ok-clause-slot : goal.returns-in-Ok-clause-slot
returns-in-Ok-clause-slot g c filled parts sector sectors =
    c.in-Ok.ensures.taken.fits parts (sector ∙ ap (λ (k : Geometry). k.sector) c.in-Ok.ensures.geometry) (sectors ∙ ap (λ (k : Geometry). k.sectors) c.in-Ok.ensures.geometry)

pub returns-in-Ok-clause-answers : goal.returns-in-Ok-clause-answers
returns-in-Ok-clause-answers g c =
    fetch_done g.S.Store.disk g.R.Recorder.noted g.R.Recorder.told c.args.chain.now c.fetch_live.new.self _ c.args.stripe c.in-Ok.stamp c.fetch_live.new.piece c.requires c.in-Ok.ensures.early c.in-Ok.ensures.cause c.in-Ok.ensures.taken c.in-Ok.ensures.told
    c.in-Ok.ensures.events c.in-Ok.ensures.geometry c.in-Ok.ensures.session c.in-Ok.ensures.merge c.in-Ok.ensures.history

pub returns-in-Err-clause-answers : goal.returns-in-Err-clause-answers
returns-in-Err-clause-answers g c =
    fetch_failed g.S.Store.disk g.R.Recorder.noted g.R.Recorder.told c.args.chain.now c.fetch_live.new.self _ c.args.stripe c.in-Err.refusal c.fetch_live.new.piece _ c.clear.ensures c.requires c.in-Err.ensures.early c.in-Err.ensures.cause c.in-Err.ensures.told
    c.in-Err.ensures.events c.in-Err.ensures.geometry c.in-Err.ensures.session c.in-Err.ensures.merge c.in-Err.ensures.history
