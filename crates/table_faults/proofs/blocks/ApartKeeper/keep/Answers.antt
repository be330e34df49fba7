use Rattle.unit_bits.specs.Marked.{count_of, marks_of}
use Rattle.table_faults.proofs.Keeping.{marked_more}
use Rattle.table_faults.proofs.blocks.ApartKeeper.keep.Goals as goal

pub returns-then-self : goal.returns-then-self
returns-then-self c = λ blocks known apart.
    marked_more (count_of c.args.self.now.bits) (marks_of c.args.self.now.bits) (marks_of c.mark-self.new.self) c.args.block c.requires
    (c.mark-self.ensures.answer.0 apart) (c.mark-self.ensures.marked (c.mark-self.ensures.answer.0 apart).there) blocks (known c.if-self.true)
