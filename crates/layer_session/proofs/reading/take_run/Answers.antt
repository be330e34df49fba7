use Rattle.std.proofs.Common.{◌+◌, ◌≤◌, length, refl, subst, sym, true, false}
use Rattle.vx_base.proofs.Handed.{failed_for, not_ok}
use Rattle.store_model.specs.File.{seen}
use Rattle.store_model.specs.Trace.{file_of}
use Rattle.layer_session.proofs.Owned.{run_left, run_taken}
use Rattle.layer_session.proofs.Finding.{others_none, others_set}
use Rattle.layer_session.proofs.reading.take_run.Goals as goal

pub returns-clause-owned : goal.returns-clause-owned
returns-clause-owned g c t e =
    run_taken c.args.has (seen (file_of t c.args.parts.now.file)) c.args.place c.args.parts.now.sector c.args.count c.args.at c.args.mask.now c.set_range-2.new.bits c.args.out.now c.read_at.new.out c.if-not-has.false c.set_range-2.ensures c.requires.room.bits
    c.set_range-2.auto.bits c.requires.room.bytes (c.requires.inside c.if-not-has.false t e) (c.in_ok-read_at.ensures.ok t e)

pub returns-then-not-has-clause-owned : goal.returns-then-not-has-clause-owned
returns-then-not-has-clause-owned g c t e =
    run_left c.args.has (seen (file_of t c.args.parts.now.file)) c.args.place c.args.parts.now.sector c.args.count c.args.at c.args.mask.now c.set_range.new.bits c.args.out.now c.if-not-has.true c.set_range.ensures
    c.requires.room.bits c.set_range.auto.bits

pub set_range-requires-clause-within : goal.set_range-requires-clause-within
set_range-requires-clause-within g c = c.requires.room.bits

pub set_range-requires-clause-fits : goal.set_range-requires-clause-fits
set_range-requires-clause-fits g c = c.requires.room.ends

pub set_range-requires-2-clause-within : goal.set_range-requires-2-clause-within
set_range-requires-2-clause-within g c = c.requires.room.bits

pub set_range-requires-2-clause-fits : goal.set_range-requires-2-clause-fits
set_range-requires-2-clause-fits g c = c.requires.room.ends

pub read_at-requires-clause-there : goal.read_at-requires-clause-there
read_at-requires-clause-there g c = c.requires.there

pub read_at-requires-clause-inside : goal.read_at-requires-clause-inside
read_at-requires-clause-inside g c = λ t told. subst (λ n. c.args.place + n ≤ length (seen (file_of t c.args.parts.now.file))) (sym c.requires.room.bytes) (c.requires.inside c.if-not-has.false t told)

pub returns-clause-stays : goal.returns-clause-stays
returns-clause-stays g c = c.in_ok-read_at.ensures.stays

pub returns-clause-err : goal.returns-clause-err
returns-clause-err g c = tt

pub returns-in_err-read_at-clause-owned : goal.returns-in_err-read_at-clause-owned
returns-in_err-read_at-clause-owned g c = not_ok c.from_residual.result _ c.from_residual.ensures.1 _

pub returns-in_err-read_at-clause-stays : goal.returns-in_err-read_at-clause-stays
returns-in_err-read_at-clause-stays g c = not_ok c.from_residual.result _ c.from_residual.ensures.1 _

pub returns-in_err-read_at-clause-err : goal.returns-in_err-read_at-clause-err
returns-in_err-read_at-clause-err g c = failed_for c.from_residual.result _ c.from_residual.ensures.1 _ c.in_err-read_at.ensures.err

pub returns-then-not-has-clause-stays : goal.returns-then-not-has-clause-stays
returns-then-not-has-clause-stays g c = refl

pub returns-then-not-has-clause-err : goal.returns-then-not-has-clause-err
returns-then-not-has-clause-err g c = tt

pub returns-clause-others : goal.returns-clause-others
returns-clause-others g c = others_set c.args.mask.now c.set_range-2.new.bits c.args.at c.args.count true c.set_range-2.ensures c.requires.room.bits

pub returns-then-not-has-clause-others : goal.returns-then-not-has-clause-others
returns-then-not-has-clause-others g c = others_set c.args.mask.now c.set_range.new.bits c.args.at c.args.count false c.set_range.ensures c.requires.room.bits

pub returns-in_err-read_at-clause-others : goal.returns-in_err-read_at-clause-others
returns-in_err-read_at-clause-others g c = others_none c.args.at c.args.count c.args.mask.now
