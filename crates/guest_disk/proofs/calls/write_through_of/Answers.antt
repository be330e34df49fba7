use Rattle.guest_disk.proofs.Told.{told_flushed, told_unflushed, told_unwritten}
use Rattle.guest_disk.specs.Hearing.{held}
use Rattle.guest_disk.proofs.calls.write_through_of.Goals as goal

pub returns-in-Err-clause-told : goal.returns-in-Err-clause-told
returns-in-Err-clause-told g c = told_unwritten g.S.Store.disk _ _ c.args.first c.args.bytes.now c.in-Err.unwritten c.in-Err.ensures.told

pub returns-in-Err-flush_of-clause-told : goal.returns-in-Err-flush_of-clause-told
returns-in-Err-flush_of-clause-told g c =
    told_unflushed g.S.Store.disk _ (held c.write_of.new.guest c.args.lost.now) _ c.args.first c.in-Ok.place c.args.bytes.now c.in-Err-flush_of.unflushed c.in-Ok.ensures.told c.in-Err-flush_of.ensures.told

pub returns-in-Ok-flush_of-clause-told : goal.returns-in-Ok-flush_of-clause-told
returns-in-Ok-flush_of-clause-told g c =
    told_flushed g.S.Store.disk _ (held c.write_of.new.guest c.args.lost.now) _ c.args.first c.in-Ok.place _ c.args.bytes.now c.in-Ok.ensures.told c.in-Ok-flush_of.ensures.told
