-- What is known after one call more, and of pages that are brought one by one.
use Rattle.std.proofs.Common.{◌≡◌, ℕ, ◌+◌, ◌-◌, ◌*◌, ◌/◌, ◌^◌, ◌<◌, ◌≤◌, ◌%◌, ◌⊎◌, inl, inr, true, List, length, Result, Ok, Err, OnErr, ap, sym, subst, ◌∙◌, arith}
use Rattle.std.proofs.Math.Nat.{le-mul_of_pos_right}
use Rattle.std.proofs.lemmas.Bool.{cases_lt}
use Rattle.store_model.specs.Disk.{Disk, ReadFailed, WhereTold}
use Rattle.store_model.specs.File.{seen}
use Rattle.store_model.specs.Trace.{file_of}
use Rattle.store_model.specs.declared.fault.StoreFault.{StoreFault}
use Rattle.vhdx_format.specs.Fields.{megabyte}
use Rattle.vhdx_format.specs.declared.log_entry.Page.{Page}
use Rattle.vhdx_format.proofs.SizeLemmas.{sector_least}
use Rattle.log_format.specs.PendingPages.{has_place}
use Rattle.table_pages.specs.declared.tables.TableParts.{TableParts}
use Rattle.table_pages.specs.declared.tables.Tables.{Tables}
use Rattle.table_pages.specs.Pages.{is_kept, page_place}
use Rattle.table_pages.specs.Held.{Adds, AreChanged, AreTablesIn, HasBitmap, HasRoom, HasTables, IsAsHeld, KeepsWithin, KeepsWithinTables, PutsWithin, bitmap_place, entry_place, held_file}
use Rattle.table_pages.specs.Told.{IsBitmapAt, KeepsInBitmap, PutsInBitmap}
use Rattle.table_pages.proofs.AsHeld.{keeps_then, keeps_wider}
use Rattle.table_pages.proofs.Words.{file_in, page_in_table, same_held}

pub on_err_any : {T E : Type 0} (r : Result T E) (P : Type 0) → P → OnErr r P
on_err_any (Ok x) P p = tt
on_err_any (Err e) P p = p

pub few_same : (old new : List Page) (n : ℕ) → new ≡ old → length new ≤ length old + n
few_same old new n same = omega (arith, ap length same)

-- ---- a second call, of a store that the first one left as it was

pub failed_then : (file own : ℕ) (disk later new : Disk) (fault : StoreFault) → own ≡ file → later ≡ disk → ReadFailed own later new fault → ReadFailed file disk new fault
failed_then file own disk later new fault one same failed = subst (λ n. ReadFailed n disk new fault) one (subst (λ d. ReadFailed own d new fault) same failed)

pub there_still : (old mid : Tables) (disk later : Disk) → mid.parts ≡ old.parts → later ≡ disk → old.parts.file < disk.files → mid.parts.file < later.files
there_still old mid disk later parts same there = subst (λ (d : Disk). mid.parts.file < d.files) (sym same) (subst (λ (p : TableParts). p.file < disk.files) (sym parts) there)

pub inside_still : (old mid : Tables) (disk later : Disk) (n : ℕ) → mid.parts ≡ old.parts → later ≡ disk → WhereTold disk.told (λ trace. n ≤ length (seen (file_of trace old.parts.file)))
    → WhereTold later.told (λ trace. n ≤ length (seen (file_of trace mid.parts.file)))
inside_still old mid disk later n parts same inside = λ trace told.
    subst (λ (p : TableParts). n ≤ length (seen (file_of trace p.file))) (sym parts) (inside trace (ap (λ (d : Disk). d.told) (sym same) ∙ told))

pub held_then : (old mid new : Tables) (disk later : Disk) → later ≡ disk → WhereTold disk.told (λ trace. held_file mid trace ≡ held_file old trace)
    → WhereTold later.told (λ trace. held_file new trace ≡ held_file mid trace) → WhereTold disk.told (λ trace. held_file new trace ≡ held_file old trace)
held_then old mid new disk later same one two = λ trace told. two trace (ap (λ (d : Disk). d.told) same ∙ told) ∙ one trace told

pub tables_still : (mid : Tables) (disk later : Disk) → later ≡ disk → AreTablesIn mid disk → AreTablesIn mid later
tables_still mid disk later same tables = subst (AreTablesIn mid) (sym same) tables

pub held_as : (old near : Tables) (disk : Disk) → IsAsHeld old near disk → WhereTold disk.told (λ trace. held_file near trace ≡ held_file old trace)
held_as old near disk as_held = λ trace told. same_held old near disk trace as_held

-- ---- pages of a block, put among the changed ones

pub puts_itself : (place : ℕ) (pages : List Page) → PutsWithin place pages pages
puts_itself place pages = record { keeps = λ at there. there; only = λ at there. inl there }

pub puts_same : (place : ℕ) (old new : List Page) → new ≡ old → PutsWithin place old new
puts_same place old new same = subst (PutsWithin place old) (sym same) (puts_itself place old)

pub puts_one : (place at : ℕ) (old new : List Page) → place ≤ at → at + 4096 ≤ place + megabyte → Adds at old new → PutsWithin place old new
puts_one place at old new from to adds = record { keeps = adds.keeps; only = λ other there. before other (adds.only other there) }
  where
    before : (other : ℕ) → (has_place other old ≡ true) ⊎ (other ≡ at) → (has_place other old ≡ true) ⊎ ((place ≤ other) × (other + 4096 ≤ place + megabyte))
    before other (inl was) = inl was
    before other (inr is) = inr (omega (arith, is, from), omega (arith, is, to))

pub puts_then : (place : ℕ) (old mid new : List Page) → PutsWithin place old mid → PutsWithin place mid new → PutsWithin place old new
puts_then place old mid new one two = record { keeps = λ at there. two.keeps at (one.keeps at there); only = λ at there. before at (two.only at there) }
  where
    before : (at : ℕ) → (has_place at mid ≡ true) ⊎ ((place ≤ at) × (at + 4096 ≤ place + megabyte)) → (has_place at old ≡ true) ⊎ ((place ≤ at) × (at + 4096 ≤ place + megabyte))
    before at (inl was) = one.only at was
    before at (inr is) = inr is

pub none_changed : (place first count : ℕ) (pages : List Page) → count ≡ 0 → AreChanged place first count pages
none_changed place first count pages none = λ k from to. absurd (omega (arith, none, from, to))

pub next_changed : (place first count : ℕ) (old mid new : List Page) → Adds (place + 4096 * first) old mid → PutsWithin place mid new → AreChanged place (first + 1) (count - 1) new
    → AreChanged place first count new
next_changed place first count old mid new adds puts rest = λ k from to. by_place k from to (cases_lt first k)
  where
    by_place : (k : ℕ) → first ≤ k → k < first + count → (first < k) ⊎ (k ≤ first) → has_place (place + 4096 * k) new ≡ true
    by_place k from to (inl past) = rest k (omega (arith, past)) (omega (arith, past, to))
    by_place k from to (inr here) =
        let same : place + 4096 * k ≡ place + 4096 * first = omega (arith, from, here) in
        puts.keeps (place + 4096 * k) (ap (λ n. has_place n mid) same ∙ adds.there)

-- what is kept of one page, and then of the block that it lies in
pub keeps_page : (place at : ℕ) (old new : Tables) → place ≤ at → at + 4096 ≤ place + megabyte → KeepsWithin at (at + 4096) old new → KeepsWithin place (place + megabyte) old new
keeps_page place at old new from to keeps = keeps_wider at (at + 4096) place (place + megabyte) old new from to keeps

pub keeps_page_then : (place at : ℕ) (old mid new : Tables) → place ≤ at → at + 4096 ≤ place + megabyte → KeepsWithin at (at + 4096) old mid → KeepsWithin place (place + megabyte) mid new
    → KeepsWithin place (place + megabyte) old new
keeps_page_then place at old mid new from to one two = keeps_then place (place + megabyte) old mid new (keeps_page place at old mid from to one) two

-- nothing is kept that wasn't
pub keeps_no_more : (first end : ℕ) (old mid new : Tables) → KeepsWithin first end old mid → KeepsWithin 0 0 mid new → KeepsWithin first end old new
keeps_no_more first end old mid new one two = record { only = λ at aligned kept. before at aligned (two.only at aligned kept) }
  where
    before : (at : ℕ) → at % 4096 ≡ 0 → (is_kept at mid.cache ≡ true) ⊎ ((0 ≤ at) × (at + 4096 ≤ 0)) → (is_kept at old.cache ≡ true) ⊎ ((first ≤ at) × (at + 4096 ≤ end))
    before at aligned (inl was) = one.only at aligned was
    before at aligned (inr is) = let to = is.1 in absurd (omega (arith, to))

-- ---- the block of a sector bitmap

pub none_in_bitmap : (old near : Tables) (disk : Disk) (first : ℕ) → near.pending ≡ old.pending → PutsInBitmap first old near disk
none_in_bitmap old near disk first same = λ trace told. puts_same (bitmap_place old.parts (held_file old trace) first) old.pending near.pending same

pub table_kept : (old near : Tables) (disk : Disk) (first : ℕ) → KeepsWithin old.parts.bat_at (old.parts.bat_at + old.parts.bat_len) old near → KeepsInBitmap first old near disk
table_kept old near disk first keeps = λ trace told. record { only = λ at aligned kept. in_table (bitmap_place old.parts (held_file old trace) first) at (keeps.only at aligned kept) }
  where
    in_table : (place at : ℕ) → (is_kept at old.cache ≡ true) ⊎ ((old.parts.bat_at ≤ at) × (at + 4096 ≤ old.parts.bat_at + old.parts.bat_len))
        → (is_kept at old.cache ≡ true) ⊎ (((old.parts.bat_at ≤ at) × (at + 4096 ≤ old.parts.bat_at + old.parts.bat_len)) ⊎ ((place ≤ at) × (at + 4096 ≤ place + megabyte)))
    in_table place at (inl was) = inl was
    in_table place at (inr is) = inr (inl is)

-- whose place was read
module _ (old near : Tables) (disk : Disk) (first place : ℕ) (at_place : IsBitmapAt old disk first place) where
  pub bitmap_inside : (later : Disk) → IsAsHeld old near disk → later ≡ disk → HasBitmap first old disk → WhereTold later.told (λ trace. place + megabyte ≤ length (seen (file_of trace near.parts.file)))
  bitmap_inside later as_held same inside =
      inside_still old near disk later (place + megabyte) as_held.parts_are same (λ trace told. subst (λ k. k + megabyte ≤ length (file_in old trace)) (sym (at_place trace told)) (inside trace told))

  pub puts_in_bitmap : (mid : Tables) → near.pending ≡ old.pending → PutsWithin place near.pending mid.pending → PutsInBitmap first old mid disk
  puts_in_bitmap mid same puts = λ trace told. subst (λ k. PutsWithin k old.pending mid.pending) (at_place trace told) (subst (λ (ps : List Page). PutsWithin place ps mid.pending) same puts)

  pub keeps_in_bitmap : (mid : Tables) → KeepsWithin old.parts.bat_at (old.parts.bat_at + old.parts.bat_len) old near → KeepsWithin place (place + megabyte) near mid → KeepsInBitmap first old mid disk
  keeps_in_bitmap mid one two = λ trace told. subst (λ k. KeepsWithinTables k old mid) (at_place trace told) (record { only = λ at aligned kept. before at aligned (two.only at aligned kept) })
    where
      in_table : (at : ℕ) → (is_kept at old.cache ≡ true) ⊎ ((old.parts.bat_at ≤ at) × (at + 4096 ≤ old.parts.bat_at + old.parts.bat_len))
          → (is_kept at old.cache ≡ true) ⊎ (((old.parts.bat_at ≤ at) × (at + 4096 ≤ old.parts.bat_at + old.parts.bat_len)) ⊎ ((place ≤ at) × (at + 4096 ≤ place + megabyte)))
      in_table at (inl was) = inl was
      in_table at (inr is) = inr (inl is)

      before : (at : ℕ) → at % 4096 ≡ 0 → (is_kept at near.cache ≡ true) ⊎ ((place ≤ at) × (at + 4096 ≤ place + megabyte))
          → (is_kept at old.cache ≡ true) ⊎ (((old.parts.bat_at ≤ at) × (at + 4096 ≤ old.parts.bat_at + old.parts.bat_len)) ⊎ ((place ≤ at) × (at + 4096 ≤ place + megabyte)))
      before at aligned (inl was) = in_table at (one.only at aligned was)
      before at aligned (inr is) = inr (inr is)

-- ---- the page of an entry

pub entry_page_inside : (t : Tables) (disk : Disk) (index place : ℕ) → HasTables t.parts → 8 * index + 8 ≤ t.parts.bat_len → place ≡ page_place (entry_place t.parts index) → AreTablesIn t disk
    → WhereTold disk.told (λ trace. place + 4096 ≤ length (seen (file_of trace t.parts.file)))
entry_page_inside t disk index place parts below is tables = λ trace told.
    subst (λ k. k + 4096 ≤ length (file_in t trace)) (sym is) (page_in_table t.parts index (length (file_in t trace)) parts below (tables trace told).table)

pub keeps_entry : (old near : Tables) (index place : ℕ) → HasTables old.parts → 8 * index + 8 ≤ old.parts.bat_len → place ≡ page_place (entry_place old.parts index) → KeepsWithin place (place + 4096) old near
    → KeepsWithin old.parts.bat_at (old.parts.bat_at + old.parts.bat_len) old near
keeps_entry old near index place parts below is keeps =
    keeps_wider place (place + 4096) old.parts.bat_at (old.parts.bat_at + old.parts.bat_len) old near (omega (arith, is, parts.at_page)) (omega (arith, is, parts.at_page, parts.of_pages, below)) keeps

pub room_still : (at place : ℕ) (old near : List Page) → place ≡ at → near ≡ old → HasRoom at old → HasRoom place near
room_still at place old near is same room = subst (λ k. HasRoom k near) (sym is) (subst (HasRoom at) (sym same) room)

pub there_by : (at place : ℕ) (pages : List Page) → place ≡ at → has_place at pages ≡ true → has_place place pages ≡ true
there_by at place pages is there = ap (λ k. has_place k pages) is ∙ there

-- ---- the entry of a bitmap

pub few_chunks : (parts : TableParts) (sector : ℕ) → HasTables parts → sector < parts.sectors → sector / 2 ^ 23 < 2 ^ 32
few_chunks parts sector tables below =
    let least = sector_least parts.sector tables.sector in
    let most : parts.sectors ≤ parts.sectors * parts.sector = le-mul_of_pos_right parts.sectors (omega (arith, least)) in
    omega (arith, most, tables.most, below)
