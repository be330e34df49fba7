use Rattle.guest_model.specs.declared.call.Call.TheVariants as calls
use Rattle.guest_disk.proofs.Told.{heard_call}
use Rattle.guest_disk.proofs.calls.trim_of.Goals as goal

pub returns-clause-told : goal.returns-clause-told
returns-clause-told g c =
    heard_call g.S.Store.disk c.args.guest.now c.trim.new.self c.args.lost.now (calls.Trim c.args.first c.args.count) c.trim.result c.trim.ensures.next c.trim.ensures.readers c.trim.ensures.called
