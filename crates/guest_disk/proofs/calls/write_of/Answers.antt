use Rattle.guest_model.specs.declared.call.Call.TheVariants as calls
use Rattle.guest_disk.proofs.Told.{heard_call}
use Rattle.guest_disk.proofs.calls.write_of.Goals as goal

pub returns-clause-told : goal.returns-clause-told
returns-clause-told g c =
    heard_call g.S.Store.disk c.args.guest.now c.write.new.self c.args.lost.now (calls.Write c.args.first c.args.bytes.now) c.write.result c.write.ensures.next c.write.ensures.readers c.write.ensures.called
