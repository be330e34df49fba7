use Rattle.table_pages.proofs.tables.Tables.+bring_zeros.Given as goal

abbrev pub decreases-bring_zeros : goal.decreases-bring_zeros
decreases-bring_zeros l = l.count
