use Rattle.guest_model.specs.declared.call.Call.TheVariants as calls
use Rattle.guest_disk.proofs.Told.{heard_call}
use Rattle.guest_disk.proofs.calls.flush_of.Goals as goal

pub returns-clause-told : goal.returns-clause-told
returns-clause-told g c =
    heard_call g.S.Store.disk c.args.guest.now c.flush.new.self c.args.lost.now calls.Flush c.flush.result c.flush.ensures.next c.flush.ensures.readers c.flush.ensures.called
