use Rattle.std.proofs.Common.{◌-◌, length}
use Rattle.table_pages.proofs.tables.Tables.+put_from.Given as goal

abbrev pub decreases-put_from : goal.decreases-put_from
decreases-put_from l = length l.pages.now - l.from
