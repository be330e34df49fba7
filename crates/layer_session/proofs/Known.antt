-- What is known after one call more: bounds, what still is as it was, and faults that are handed on.
use Rattle.std.proofs.Common.{◌≡◌, ◌∙◌, ◌⊎◌, ℕ, Bool, true, false, ◌+◌, ◌-◌, ◌*◌, ◌/◌, ◌%◌, ◌<◌, ◌≤◌, ◌^◌, List, length, Fits, w32, w64, inl, inr, if◌then◌else◌, ap, arith, refl, subst, sym}
use Rattle.std.proofs.Math.Nat.{add-mul, mul-div_cancel}
use Rattle.std.proofs.lemmas.Nat.{div-add-mod', le-div, mod_below}
use Rattle.std.specs.Prelude.{min, Result, Ok, Err, Some, IfErr, OnErr, OnOk, Option}
use Rattle.store_model.specs.Disk.{Disk, ReadFailed, WhereBothTold, WhereTold}
use Rattle.store_model.specs.Cause.{RoseAt}
use Rattle.store_model.specs.Plans.{FailsToChange}
use Rattle.store_model.specs.File.{seen}
use Rattle.store_model.specs.Trace.{Trace, file_of}
use Rattle.store_model.specs.declared.fault.StoreFault.{StoreFault}
use Rattle.vhdx_format.specs.declared.log_entry.Page.{Page}
use Rattle.vhdx_format.specs.Fields.{megabyte}
use Rattle.vhdx_format.specs.Layers.{HasSizes, Shape, chunk_ratio_of, entry_of}
use Rattle.vhdx_format.proofs.LayerLemmas.{same_chunk}
use Rattle.vhdx_format.proofs.SizeLemmas.{sector_cases}
use Rattle.log_format.specs.PendingPages.{has_place}
use Rattle.log_write.specs.Sessions.{LogState}
use Rattle.table_pages.specs.Held.{Adds, AreChanged, AreTablesIn, HasTables, IsAsHeld, bit_pages, entry_place, held, held_file, shape_of}
use Rattle.table_pages.specs.Pages.{page_place}
use Rattle.table_pages.specs.declared.tables.TableParts.{TableParts}
use Rattle.table_pages.specs.declared.tables.Tables.{Tables}
use Rattle.layer_session.specs.Bringing.{HasBrought, Leads, most_bit_pages}
use Rattle.layer_session.specs.Keeping.{IsReady}
use Rattle.layer_session.specs.Planning.{is_making, per_block}
use Rattle.layer_session.specs.Steps.{HasRoomFor, first_in_block}
use Rattle.layer_session.specs.Taking.{KeepsOthers, LeavesRest, takes_of}
use Rattle.layer_session.specs.declared.file.Layer.{Layer}
use Rattle.layer_session.specs.declared.file.LayerFault.{LayerFault}
use Rattle.layer_session.specs.declared.file.LayerFault.TheVariants.{Read, Write, FileFull}
use Rattle.layer_session.specs.declared.planning.Plan.{Plan}
use Rattle.layer_session.specs.declared.preparing.Missing.{Missing}
use Rattle.layer_session.specs.declared.planning.Step.{Step}
use Rattle.layer_session.proofs.Beside.{among}
use Rattle.layer_session.proofs.BlockRuns.{of_sectors, rest_of}
use Rattle.layer_session.proofs.Brought.{pages_between}
use Rattle.layer_session.proofs.Parting.{in_its_block, same_block, start_is}
use Rattle.layer_session.proofs.Told.{both_self}
use Rattle.vx_base.proofs.Handed.{ok_then}

-- ---- bounds

-- a state fits an u32
pub state_fits : (word : ℕ) → Fits w32 (word % 8)
state_fits word = omega arith

-- the lesser of two
pub few_of : (n a b : ℕ) → n ≡ min a b → n ≤ a
few_of n a b is = omega (arith, is)

pub some_sum : (first count : ℕ) → 0 < count → 1 ≤ first + count
some_sum first count some = omega (arith, some)

pub one_less : (n m : ℕ) → n + 1 ≤ m → n ≤ m
one_less n m less = omega (arith, less)

pub none_more : (n m : ℕ) → n ≤ m → 0 + n ≤ m
none_more n m less = omega (arith, less)

pub some_units : 0 < 1048576
some_units = omega arith

pub more_room : (n m k : ℕ) → n ≤ m → n ≤ m + k
more_room n m k less = omega (arith, less)

-- a block's place is one of pages
pub place_aligned : (word : ℕ) → word / 1048576 * 1048576 % 4096 ≡ 0
place_aligned word = omega arith

-- the end of some sectors of a disk is a number of 64 bits
pub end_fits : (parts : TableParts) → HasTables parts → (first count : ℕ) → first + count ≤ parts.sectors → Fits w64 (first + count)
end_fits parts sizes first count on = by_sector (sector_cases parts.sector sizes.sector)
  where
    by_sector : (parts.sector ≡ 512) ⊎ (parts.sector ≡ 4096) → Fits w64 (first + count)
    by_sector (inl e) = let most : parts.sectors * 512 ≤ 2 ^ 46 = subst (λ z. parts.sectors * z ≤ 2 ^ 46) e sizes.most in omega (arith, most, on)
    by_sector (inr e) = let most : parts.sectors * 4096 ≤ 2 ^ 46 = subst (λ z. parts.sectors * z ≤ 2 ^ 46) e sizes.most in omega (arith, most, on)

-- pages are brought in three parts, for which there is room
pub room_entries : (old most : ℕ) → old + 2 + 2 * most ≤ 120 → old + 2 ≤ 120
room_entries old most room = omega (arith, room)

pub room_near : (old one most : ℕ) → one ≤ old + 2 → old + 2 + 2 * most ≤ 120 → one + most ≤ 120
room_near old one most few room = omega (arith, few, room)

pub room_far : (old one two near most : ℕ) → one ≤ old + 2 → two ≤ one + near → near ≤ most → old + 2 + 2 * most ≤ 120 → two + most ≤ 120
room_far old one two near most few more less room = omega (arith, few, more, less, room)

pub few_near : (old one two near far : ℕ) → one ≤ old + 2 → two ≤ one + near → two ≤ old + 2 + (near + far)
few_near old one two near far few more = omega (arith, few, more)

pub few_far : (old one two three near far : ℕ) → one ≤ old + 2 → two ≤ one + near → three ≤ two + far → three ≤ old + 2 + (near + far)
few_far old one two three near far few more last = omega (arith, few, more, last)

-- one page of an entry is no more than those of a chunk's bits
pub entry_least : (missing : Bool) (p : Shape) (count : ℕ) → (if missing then 1 else most_bit_pages p count) ≤ most_bit_pages p count
entry_least true p count = omega arith
entry_least false p count = omega arith

pub room_next : (old mid : ℕ) → mid ≤ old + 1 → old + 2 ≤ 120 → mid < 120
room_next old mid few room = omega (arith, few, room)

pub few_two : (old mid new : ℕ) → mid ≤ old + 1 → new ≤ mid + 1 → new ≤ old + 2
few_two old mid new one two = omega (arith, one, two)

pub room_one : (n rest : ℕ) → n + (rest + 2) ≤ 120 → n < 120
room_one n rest room = omega (arith, room)

pub room_less : (n pages most : ℕ) → pages ≤ most → n + most ≤ 120 → n + pages ≤ 120
room_less n pages most less room = omega (arith, less, room)

pub few_less : (new old pages most : ℕ) → new ≤ old + pages → pages ≤ most → new ≤ old + most
few_less new old pages most few less = omega (arith, few, less)

-- a block's entry, of 64 bits, names a place of 64 bits
pub place_fits : (word : ℕ) → word < 2 ^ 64 → Fits w64 (word / 1048576 * 1048576)
place_fits word small = omega (arith, small)

pub place_ends : (word : ℕ) → word < 2 ^ 64 → word / 1048576 * 1048576 + megabyte ≤ 2 ^ 64
place_ends word small = omega (arith, small)

-- a place at the file's end goes into an entry, and the file grows to its end
pub unit_fits : (unit next : ℕ) → unit ≡ next → next + 1 ≤ 2 ^ 43 → unit < 2 ^ 44
unit_fits unit next is low = omega (arith, is, low)

pub end_longer : (len next unit end : ℕ) → len ≤ next * megabyte → unit ≡ next → next + 1 ≤ 2 ^ 43 → end ≡ min (unit * megabyte + megabyte) (2 ^ 64 - 1) → len ≤ end
end_longer len next unit end within is low end_is = omega (arith, within, is, low, end_is)

pub more_pages : (n more : ℕ) → n ≤ n + 1 + more
more_pages n more = omega arith

pub room_brings : (n most : ℕ) → n + 2 + 2 * (2 + most) ≤ 120 → n + 2 + 2 * most ≤ 120
room_brings n most room = omega (arith, room)

-- a chunk's sector bitmap block is made
pub few_made : (missing : Bool) (new old pages most : ℕ) → missing ≡ true → new ≤ old + 1 + pages → pages ≤ most → new ≤ old + (if missing then 1 + most else 0)
few_made true new old pages most is few less = omega (arith, few, less)
few_made false new old pages most is few less = let never : false ≡ true = is in cc

-- that of the first chunk, and then of the last
pub made_near : (missing : Missing) (old new pages most : ℕ) → missing.near ≡ true → new ≤ old + 2 + ((if missing.near then 1 else most) + (if missing.far then 1 else most)) → 1 ≤ most → pages ≡ 2 + 2 * (2 + most) → old + pages ≤ 120
    → new + 1 + most ≤ 120
made_near missing old new pages most is few least pages_are room = of_far missing.far (subst (λ b. new ≤ old + 2 + ((if b then 1 else most) + (if missing.far then 1 else most))) is few)
  where
    of_far : (far : Bool) → new ≤ old + 2 + (1 + (if far then 1 else most)) → new + 1 + most ≤ 120
    of_far true few = omega (arith, few, least, pages_are, room)
    of_far false few = omega (arith, few, least, pages_are, room)

pub made_far : (missing : Missing) (old mid new pages most : ℕ) → missing.far ≡ true → mid ≤ old + 2 + ((if missing.near then 1 else most) + (if missing.far then 1 else most)) → new ≤ mid + (if missing.near then 1 + most else 0)
    → pages ≡ 2 + 2 * (2 + most) → old + pages ≤ 120 → new + 1 + most ≤ 120
made_far missing old mid new pages most is few more pages_are room = of_near missing.near (subst (λ b. mid ≤ old + 2 + ((if missing.near then 1 else most) + (if b then 1 else most))) is few) more
  where
    of_near : (near : Bool) → mid ≤ old + 2 + ((if near then 1 else most) + 1) → new ≤ mid + (if near then 1 + most else 0) → new + 1 + most ≤ 120
    of_near true few more = omega (arith, few, more, pages_are, room)
    of_near false few more = omega (arith, few, more, pages_are, room)

-- two pages at least are those of a chunk's bits
pub most_some : (p : Shape) (count : ℕ) → 1 ≤ most_bit_pages p count
most_some p count = omega arith

-- the bits of a chunk lie in its pages
pub pages_inside : (from count pages : ℕ) → from + count ≤ 2 ^ 23 → pages ≡ bit_pages from count → from / 32768 + pages ≤ 256
pages_inside from count pages within is = omega (arith, within, is)

span_pages : (from span most pages : ℕ) → span ≤ most → pages ≡ bit_pages from span → pages ≤ most / 32768 + 2
span_pages from span most pages few is = omega (arith, few, is)

-- and the bits that a call changes in few pages
pub pages_few : (p : Shape) → HasSizes p → (chunk first count first_bit end pages : ℕ) → first_in_block p first ≤ first_bit → end ≤ first + count + per_block p → pages ≡ bit_pages (first_bit % 2 ^ 23) (end - first_bit) → pages ≤ most_bit_pages p count
pages_few p sized chunk first count first_bit end pages near far is =
    let per = per_block p in
    let any : 0 < per = (of_sectors p sized).any in
    let all : first / per * per + first % per ≡ first = div-add-mod' first per in
    let less : first % per < per = mod_below first per any in
    let start : first_in_block p first ≡ first / per * per = start_is p sized first in
    span_pages (first_bit % 2 ^ 23) (end - first_bit) (count + 2 * per) pages (between (first_in_block p first) (first / per * per) (first % per) per first count first_bit end start all less near far) is
  where
    between : (begin rows rest per first count first_bit end : ℕ) → begin ≡ rows → rows + rest ≡ first → rest < per → begin ≤ first_bit → end ≤ first + count + per → end - first_bit ≤ count + 2 * per
    between begin rows rest per first count first_bit end start all less near far = omega (arith, start, all, less, near, far)

-- the sectors of a block lie in one chunk
pub block_in_chunk : (p : Shape) → HasSizes p → (first start per : ℕ) → start ≡ first - first * p.sector % p.block / p.sector → per ≡ per_block p → start % 2 ^ 23 + per ≤ 2 ^ 23
block_in_chunk p sized first start per start_at per_is =
    let n = per_block p in
    let a = first / n * n in
    let some : 0 < n = (of_sectors p sized).any in
    let last = a + n - 1 in
    let e : entry_of p last ≡ entry_of p a = in_its_block p sized first last (among a n last (omega (arith, some)) (omega (arith, some))) ∙ sym (in_its_block p sized first a (among a n a (omega arith) (omega (arith, some)))) in
    let chunks : last / 2 ^ 23 ≡ a / 2 ^ 23 = sym (same_chunk p sized last) ∙ ap (λ b. b / chunk_ratio_of p) (same_block p sized last a e) ∙ same_chunk p sized a in
    within start a per n (start_at ∙ start_is p sized first) per_is some chunks
  where
    within : (start a per n : ℕ) → start ≡ a → per ≡ n → 0 < n → (a + n - 1) / 2 ^ 23 ≡ a / 2 ^ 23 → start % 2 ^ 23 + per ≤ 2 ^ 23
    within start a per n is per_is some chunks = omega (arith, is, per_is, some, chunks)

-- ---- what still is as it was

-- a fact of some tables' parts, of those of tables that have the same
pub of_parts : (P : TableParts → Type 0) (old new : TableParts) → new ≡ old → P old → P new
of_parts P old new e h = subst P (sym e) h

-- a fact of what is held, of tables that hold the same
pub held_still : (P : Shape → List ℕ → Type 0) (old new : Tables) (disk after : Disk) → IsAsHeld old new disk → after ≡ disk
    → WhereTold disk.told (λ trace. P (shape_of old.parts) (held_file old trace)) → WhereTold after.told (λ trace. P (shape_of new.parts) (held_file new trace))
held_still P old new disk after h e said trace told =
    subst (λ (p : TableParts). P (shape_of p) (held new.pending (seen (file_of trace p.file)))) (sym h.parts_are)
    (subst (λ pending. P (shape_of old.parts) (held pending (seen (file_of trace old.parts.file)))) (sym h.unchanged)
    (said trace (ap (λ (d : Disk). d.told) (sym e) ∙ told)))

pub brought_none : (t : Tables) (disk : Disk) → AreTablesIn t disk → HasBrought t t disk
brought_none t disk h = record {
  parts_are = refl;
  tables = h;
  held = λ trace told. refl;
  keeps = λ at kept. kept;
  puts = λ trace told. record { only = λ at kept. inl kept };
  cached = λ trace told. record { only = λ at aligned kept. inl kept };
}

pub counts_still : (d e : Disk) → e ≡ d → e ≡ record d { told = e.told }
counts_still d e same = subst (λ (x : Disk). x ≡ record d { told = x.told }) (sym same) refl

pub others_self : (l : Layer) (first : ℕ) (x : Option Trace) → WhereBothTold (KeepsOthers l l first) x x
others_self l first x = both_self (KeepsOthers l l first) x (λ t told. record { others = λ s b o. record { entry = refl; bits = record { bitmap = λ p. refl; bit = λ p six. refl } } })

-- of a layer with other tables alone
pub same_space : (l new : Layer) → new ≡ record l { tables = new.tables } → new.space ≡ l.space
same_space l new only = ap (λ (x : Layer). x.space) only

pub same_plans : (l new : Layer) → new ≡ record l { tables = new.tables } → new.plans ≡ l.plans
same_plans l new only = ap (λ (x : Layer). x.plans) only

pub same_log : (l new : Layer) → new ≡ record l { tables = new.tables } → (new.log.number ≡ l.log.number) × (new.log.header ≡ l.log.header)
same_log l new only = (ap (λ (x : Layer). x.log.number) only, ap (λ (x : Layer). x.log.header) only)

-- of a log that is as it was but for its file's length
pub log_long : (old new : LogState) (len : ℕ) → new ≡ record old { len = len } → new ≡ record old { len = new.len }
log_long old new len is = subst (λ n. new ≡ record old { len = n }) (sym (ap (λ (s : LogState). s.len) is)) is

-- of a disk on which a file was changed
pub counts_changed : (d e : Disk) (told : Option Trace) → e ≡ record d { told = told } → e ≡ record d { told = e.told }
counts_changed d e told is = subst (λ (x : Disk). x ≡ record d { told = x.told }) (sym is) refl

-- where nothing is told, all is said of it
pub both_untold : (R : Trace → Trace → Type 0) (x : Option Trace) → ((t : Trace) → x ≡ Some t → ⊥) → WhereBothTold R x x
both_untold R x untold = both_self R x (λ t told. absurd (untold t told))

-- a step that takes no place
pub takes_none : (plan : Plan) (step : Step) → plan.step ≡ step → is_making step ≡ false → 0 ≡ takes_of plan
takes_none plan step e m = sym (ap (λ b. if b then 1 else 0) (ap is_making e ∙ m))

pub rest_as : (l new : Layer) (n m : ℕ) → n ≡ m → LeavesRest l new n → LeavesRest l new m
rest_as l new n m e h = subst (LeavesRest l new) e h

pub rest_self : (l : Layer) → LeavesRest l l 0
rest_self l = record { only = refl; parts = refl; log = refl; pages = λ at there. there; room = λ blocks room. subst (λ n. HasRoomFor (l.tables.parts.block / megabyte) n 0 l.space) (let e : 0 + blocks ≡ blocks = omega arith in e) room }

-- ---- answers

-- a read that failed after others that changed nothing, from their begin on
pub failed_from : (old new : TableParts) (disk middle after : Disk) (fault : StoreFault) → new ≡ old → middle ≡ disk → ReadFailed new.file middle after fault → ReadFailed old.file disk after fault
failed_from old new disk middle after fault e same failed =
    subst (λ (p : TableParts). ReadFailed p.file disk after fault) e (subst (λ d. ReadFailed new.file d after fault) same failed)

-- the same of an answer
pub fails_from : {T : Type 0} (r : Result T StoreFault) (old new : TableParts) (disk middle after : Disk) → new ≡ old → middle ≡ disk
    → IfErr r (ReadFailed new.file middle after) → IfErr r (ReadFailed old.file disk after)
fails_from r old new disk middle after e same failed =
    subst (λ (p : TableParts). IfErr r (ReadFailed p.file disk after)) e (subst (λ d. IfErr r (ReadFailed new.file d after)) same failed)

-- a change that failed behind another one
pub behind_change : {T : Type 0} (r : Result T StoreFault) (file : ℕ) (old middle after : Disk) → middle ≡ record old { told = middle.told } → IfErr r (FailsToChange file middle after) → IfErr r (FailsToChange file old after)
behind_change (Ok x) file old middle after e h = tt
behind_change (Err fault) file old middle after e h = record {
  stays = h.stays ∙ ap (λ (d : Disk). record d { told = after.told; failed_changes = after.failed_changes }) e;
  of_file = h.of_file;
  count = subst (λ counts. RoseAt file fault.count counts after.failed_changes) (ap (λ (d : Disk). d.failed_changes) e) h.count;
}

-- a read that failed doesn't tell that the file is full
pub read_not_full : {T : Type 0} (fault : StoreFault) (next : ℕ) → ◌≡◌ {A = Result T LayerFault} (Err (Read fault)) (Err (FileFull next)) → ⊥
read_not_full fault next e = cc

-- of an entry that was brought in the place of bits
pub entry_few : {T : Type 0} (r : Result T StoreFault) (at : ℕ) (old new : List Page) (missing : Bool) (most : ℕ) → missing ≡ true → OnOk r (Adds at old new) → OnErr r (new ≡ old) → length new ≤ length old + (if missing then 1 else most)
entry_few r at old new false most is adds same = let never : false ≡ true = is in cc
entry_few (Ok x) at old new true most is adds same = adds.few
entry_few (Err f) at old new true most is adds same = let long : length new ≡ length old = ap length same in omega (arith, long)

pub entry_at_hand : {T : Type 0} (r : Result T StoreFault) (parts : TableParts) (index entry : ℕ) (old new : List Page) → index ≡ entry → OnOk r (Adds (page_place (entry_place parts index)) old new) → OnOk r (has_place (page_place (entry_place parts entry)) new ≡ true)
entry_at_hand r parts index entry old new is adds = ok_then r (λ (a : Adds (page_place (entry_place parts index)) old new). subst (λ i. has_place (page_place (entry_place parts i)) new ≡ true) is a.there) adds

-- and of bits that were
pub few_bits : (missing : Bool) (new old pages most : ℕ) → missing ≡ false → new ≤ old + pages → pages ≤ most → new ≤ old + (if missing then 1 else most)
few_bits false new old pages most is few less = few_less new old pages most few less
few_bits true new old pages most is few less = let never : true ≡ false = is in cc

-- ---- a block that is made in part

-- all its bits are changed ones
pub part_bits : (t : Tables) (word first start per : ℕ) → start ≡ first_in_block (shape_of t.parts) first → per ≡ t.parts.block / t.parts.sector
    → AreChanged (word / 2 ^ 20 * megabyte) (first_in_block (shape_of t.parts) first % 2 ^ 23 / 32768) (bit_pages (first_in_block (shape_of t.parts) first % 2 ^ 23) (t.parts.block / t.parts.sector)) t.pending
    → AreChanged (word / 2 ^ 20 * megabyte) (start % 2 ^ 23 / 32768) (bit_pages (start % 2 ^ 23) per) t.pending
part_bits t word first start per start_is per_is changed =
    subst (λ s. AreChanged (word / 2 ^ 20 * megabyte) (s % 2 ^ 23 / 32768) (bit_pages (s % 2 ^ 23) per) t.pending) (sym start_is)
    (subst (λ n. AreChanged (word / 2 ^ 20 * megabyte) (first_in_block (shape_of t.parts) first % 2 ^ 23 / 32768) (bit_pages (first_in_block (shape_of t.parts) first % 2 ^ 23) n) t.pending) (sym per_is) changed)

-- those of some of its sectors too
pub run_bits : (p : Shape) → HasSizes p → (word first count start per : ℕ) (pending : List Page) → start ≡ first_in_block p first → per ≡ per_block p → first * p.sector % p.block + count * p.sector ≤ p.block
    → AreChanged (word / 2 ^ 20 * megabyte) (start % 2 ^ 23 / 32768) (bit_pages (start % 2 ^ 23) per) pending → AreChanged (word / 2 ^ 20 * megabyte) (first % 2 ^ 23 / 32768) (bit_pages (first % 2 ^ 23) count) pending
run_bits p sized word first count start per pending start_at per_is run changed =
    let w = of_sectors p sized in
    let n = per_block p in
    let all : first / n * n + first % n ≡ first = div-add-mod' first n in
    let begins : start ≡ first / n * n = start_at ∙ start_is p sized first in
    let fits : first % n + count ≤ n = in_rows n (first % n) count p.sector p.block w.some w.block_is (subst (λ k. k + count * p.sector ≤ p.block) (rest_of p.sector p.block n w first) run) in
    let chunk = block_in_chunk p sized first start per start_at per_is in
    let rests : first ≡ start + first % n = rests_at first start (first / n * n) (first % n) begins all in
    inner word start per first (first % n) count pending chunk rests (within n per (first % n) count per_is fits) changed
  where
    rests_at : (first start rows rest : ℕ) → start ≡ rows → rows + rest ≡ first → first ≡ start + rest
    rests_at first start rows rest begins all = omega (arith, begins, all)

    within : (n per rest count : ℕ) → per ≡ n → rest + count ≤ n → rest + count ≤ per
    within n per rest count is fits = omega (arith, is, fits)

    in_rows : (n rest count z block : ℕ) → 0 < z → block ≡ n * z → rest * z + count * z ≤ block → rest + count ≤ n
    in_rows n rest count z block some is run =
        let rows : (rest + count) * z ≡ rest * z + count * z = add-mul rest count z in
        subst (λ k. rest + count ≤ k) (mul-div_cancel n some) (le-div (rest + count) (n * z) z some (omega (arith, rows, is, run)))

    inner : (word start per first rest count : ℕ) (pending : List Page) → start % 2 ^ 23 + per ≤ 2 ^ 23 → first ≡ start + rest → rest + count ≤ per
        → AreChanged (word / 2 ^ 20 * megabyte) (start % 2 ^ 23 / 32768) (bit_pages (start % 2 ^ 23) per) pending → AreChanged (word / 2 ^ 20 * megabyte) (first % 2 ^ 23 / 32768) (bit_pages (first % 2 ^ 23) count) pending
    inner word start per first rest count pending chunk rests fits changed =
        pages_between (start / 2 ^ 23) start (start + per) first count (word / 2 ^ 20 * megabyte) pending (omega arith) (omega (arith, chunk)) (omega (arith, rests)) (omega (arith, rests, fits))
        (subst (λ n. AreChanged (word / 2 ^ 20 * megabyte) (start % 2 ^ 23 / 32768) (bit_pages (start % 2 ^ 23) n) pending) (let e : per ≡ start + per - start = omega arith in e) changed)

-- ---- a part of preparing, whatever it answers

pub leads_parts : {T : Type 0} (l new : Layer) (d e : Disk) (r : Result T LayerFault) → Leads l new d e r → new.tables.parts ≡ l.tables.parts
leads_parts l new d e (Ok x) h = h.parts
leads_parts l new d e (Err (Read fault)) h = h.0.parts
leads_parts l new d e (Err (Write fault)) h = h.0.parts
leads_parts l new d e (Err (FileFull next)) h = h.parts

pub leads_leave : {T : Type 0} (l new : Layer) (d e : Disk) (r : Result T LayerFault) → Leads l new d e r → new.leave ≡ l.leave
leads_leave l new d e (Ok x) h = h.leave
leads_leave l new d e (Err (Read fault)) h = h.0.leave
leads_leave l new d e (Err (Write fault)) h = h.0.leave
leads_leave l new d e (Err (FileFull next)) h = h.leave

pub leads_ready : {T : Type 0} (l new : Layer) (d e : Disk) (r : Result T LayerFault) → Leads l new d e r → OnOk r (IsReady new e)
leads_ready l new d e (Ok x) h = h.ready
leads_ready l new d e (Err fault) h = tt

-- behind another part
pub leads_counts : {T : Type 0} (l new : Layer) (c d e : Disk) (r : Result T LayerFault) → d ≡ record c { told = d.told } → Leads l new d e r → OnOk r (e ≡ record c { told = e.told })
leads_counts l new c d e (Ok x) first h = h.counts ∙ ap (λ (x : Disk). record x { told = e.told }) first
leads_counts l new c d e (Err fault) first h = tt
