-- The page of an entry is put among the changed ones, if it can be read.
use Rattle.std.proofs.Common.{◌≡◌, ◌⊎◌, ℕ, ◌+◌, ◌*◌, ◌≤◌, true, List, sym, subst, arith, inl, inr}
use Rattle.std.specs.Prelude.{Result, Ok, Err, OnOk, OnErr}
use Rattle.vhdx_format.specs.declared.log_entry.Page.{Page}
use Rattle.store_model.specs.Disk.{Disk, WhereTold}
use Rattle.store_model.specs.declared.fault.StoreFault.{StoreFault}
use Rattle.log_format.specs.PendingPages.{has_place}
use Rattle.table_pages.specs.Held.{Adds, AreTablesIn, HasTables, KeepsWithin, entry_place, held_file}
use Rattle.table_pages.specs.Pages.{page_place}
use Rattle.table_pages.specs.declared.tables.Tables.{Tables}
use Rattle.layer_session.specs.Bringing.{HasBrought}
use Rattle.layer_session.specs.TablesRead.{IsTablePage, entries}

-- whether it could be read or not, changed pages stay, and none is added but this one
record AddsAtMost (at : ℕ) (old new : List Page) : Type 0 where
  keeps : (other : ℕ) → has_place other old ≡ true → has_place other new ≡ true
  only : (other : ℕ) → has_place other new ≡ true → (has_place other old ≡ true) ⊎ (other ≡ at)

at_most : (at : ℕ) (old new : List Page) (answer : Result (Unit {0}) StoreFault) → OnOk answer (Adds at old new) → OnErr answer (new ≡ old) → AddsAtMost at old new
at_most at old new (Ok x) adds same = record { keeps = adds.keeps; only = adds.only }
at_most at old new (Err fault) adds same =
    record { keeps = λ other h. subst (λ pages. has_place other pages ≡ true) (sym same) h; only = λ other h. inl (subst (λ pages. has_place other pages ≡ true) same h) }

pub entry_brought : (old new : Tables) (disk : Disk) (index : ℕ) (answer : Result (Unit {0}) StoreFault) → HasTables old.parts → 8 * index + 8 ≤ old.parts.bat_len → new.parts ≡ old.parts
    → OnOk answer (Adds (page_place (entry_place old.parts index)) old.pending new.pending) → OnErr answer (new.pending ≡ old.pending) → AreTablesIn new disk
    → WhereTold disk.told (λ trace. held_file new trace ≡ held_file old trace) → KeepsWithin old.parts.bat_at (old.parts.bat_at + old.parts.bat_len) old new → HasBrought old new disk
entry_brought old new disk index answer sizes inside parts adds same tables held keeps = record {
  parts_are = parts;
  tables = tables;
  held = held;
  keeps = put.keeps;
  puts = λ trace told. record { only = λ at h. by_page at (put.only at h) };
  cached = λ trace told. record { only = λ at aligned h. by_place (keeps.only at aligned h) };
}
  where
    put : AddsAtMost (page_place (entry_place old.parts index)) old.pending new.pending
    put = at_most (page_place (entry_place old.parts index)) old.pending new.pending answer adds same

    by_page : {before : Type 0} {file : List ℕ} (at : ℕ) → before ⊎ (at ≡ page_place (entry_place old.parts index)) → before ⊎ IsTablePage old.parts file at
    by_page at (inl before) = inl before
    by_page at (inr here) = let page = sizes.at_page in let whole = sizes.of_pages in inr (entries (omega (arith, here, page)) (omega (arith, here, page, whole, inside)))

    by_place : {before : Type 0} {file : List ℕ} {at : ℕ} → before ⊎ ((old.parts.bat_at ≤ at) × (at + 4096 ≤ old.parts.bat_at + old.parts.bat_len)) → before ⊎ IsTablePage old.parts file at
    by_place (inl before) = inl before
    by_place (inr place) = inr (entries place.0 place.1)
