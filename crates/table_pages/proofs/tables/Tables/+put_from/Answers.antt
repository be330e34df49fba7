use Rattle.std.proofs.Common.{[], arith}
use Rattle.table_pages.proofs.Several.{put_after}
use Rattle.table_pages.proofs.tables.Tables.+put_from.Goals as goal

pub put_from-requires : goal.put_from-requires
put_from-requires t c = (
  omega arith,
  (
    put_after c.args.pages.now c.args.self.now.pending c.put.new.self.pending c.args.from (record { at = 0; bytes = [] }) c.requires.apart (omega arith) c.requires.before c.put.ensures.pending,
    (omega arith, (c.requires.few, c.requires.apart)),
  ),
)
