use Rattle.std.proofs.Common.{List, All, sym, subst}
use Rattle.vhdx_format.specs.FileParts.{shape_of}
use Rattle.block_table.specs.declared.overlaps.Block.{Block}
use Rattle.block_table.specs.Overlaps.{AreOverlapping, HasEnd}
use Rattle.table_faults.specs.Faults.{ListsPairs}
use Rattle.table_faults.specs.Rows.{ListsHeld}
use Rattle.table_faults.proofs.Whole.{lists_faults, pairs_listed}
use Rattle.table_faults.proofs.entries.Found+Listed.faults.Goals as goal

pub returns : goal.returns
returns c = λ parts file h.
    lists_faults parts file h.count h.whole _ c.args.self h.told c.in_ok-overlaps.overlaps.items
    (pairs_listed parts file h.count h.whole c.args.self.present.blocks.items c.in_ok-overlaps.overlaps.items
    (subst (ListsHeld (shape_of parts) file h.count) (sym h.told.present.known) h.told.present.are) (subst (All HasEnd) (sym c.requires.known) c.requires.are.ends)
    (subst (λ (xs : List Block). ListsPairs (AreOverlapping xs) c.in_ok-overlaps.overlaps.items) c.as_mut_slice.ensures.value c.in_ok-overlaps.ensures))
