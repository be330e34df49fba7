use Rattle.std.proofs.Common.{◌/◌, ap, length}
use Rattle.guest_disk.proofs.Told.{failed_now, read_told}
use Rattle.guest_disk.proofs.calls.read_of.Goals as goal

pub returns-clause-told : goal.returns-clause-told
returns-clause-told g c =
    read_told g.S.Store.disk c.args.guest.now c.read-answer.new.self c.args.lost.now c.with_lost.result c.args.first (length c.args.buf.now / 512) (length c.read-answer.new.buf / 512) c.read-answer.new.buf c.read-answer.result c.answer_of.result
    c.with_lost.ensures c.answer_of.ensures (ap (λ n. n / 512) c.read-answer.auto.buf) c.read-answer.ensures.next c.read-answer.ensures.reads c.read-answer.ensures.called

pub returns-clause-failed : goal.returns-clause-failed
returns-clause-failed g c = failed_now c.args.guest.now.readers c.read-answer.new.self.readers c.args.lost.now c.with_lost.result c.read-answer.result c.with_lost.ensures c.read-answer.ensures.reads c.requires.failed
