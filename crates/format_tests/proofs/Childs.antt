-- The tests' child has tables.
use Rattle.std.proofs.Common.{◌≡◌, ◌%◌, true, refl, sym, subst, lit<, lit≤}
use Rattle.vhdx_format.specs.AllocationTables.{IsSectorSize, IsBlockSize, table_entries}
use Rattle.table_pages.specs.declared.tables.TableParts.{TableParts}
use Rattle.table_pages.specs.Held.{HasTables}

pub child_has_tables : (p : TableParts) → p.sector ≡ 512 → p.sectors ≡ 2097152 → p.block ≡ 2097152 → p.bat_at ≡ 3145728 → p.bat_len ≡ 1048576 → p.parent ≡ true → HasTables p
unfolding table_entries
child_has_tables p sector sectors block at len parent = record {
  sector = subst IsSectorSize (sym sector) refl;
  block = subst IsBlockSize (sym block) refl;
  at_page = subst (λ n. n % 4096 ≡ 0) (sym at) refl;
  of_pages = subst (λ n. n % 4096 ≡ 0) (sym len) refl;
  end = rw at (rw len (lit< tt));
  one_sector = rw sectors (lit< tt);
  most = rw sectors (rw sector (lit≤ tt));
  entries = rw sectors (rw sector (rw block (rw parent (rw len (lit≤ tt)))));
}
