use Rattle.std.proofs.Common.{sym, ◌∙◌}
use Rattle.read_plan.proofs.Found.{none_more, not_all}
use Rattle.read_plan.proofs.readers.find.Goals as goal

pub loop-i-preserved : goal.loop-i-preserved
loop-i-preserved g c =
    none_more (λ f. (g.R.Reader.sealed f.reader).file) c.args.files.now c.args.number c.loop-i.i c.number.result c.index-files-i.result c.loop-i-test.true c.index-files-i.is
    (c.index-files-i.result.is_sealed.of_file ∙ sym c.number.ensures) c.if-number.false c.loop-i.invariant

pub returns-clause-none : goal.returns-clause-none
returns-clause-none g c = not_all (λ f. (g.R.Reader.sealed f.reader).file) c.args.files.now c.args.number c.loop-i.i c.loop-i-test.false c.loop-i.invariant
