-- How a layer begins.
use Rattle.table_pages.specs.Pages as pages
use Rattle.table_pages.specs.Held as tables
use Rattle.table_pages.specs.Held.{AreTables, HasTables, IsNew, held}
use Rattle.table_pages.specs.declared.tables.TableParts.{TableParts}
use Rattle.table_pages.specs.declared.tables.Tables.{Tables}
use Rattle.table_pages.proofs.Laying.{part_byte}
use Rattle.std.proofs.lemmas.List.{get_or-replicate, length-replicate}
use Rattle.vx_base.specs.Fields.{bytes_at, zeros}
use Rattle.vhdx_format.specs.declared.log_entry.Page.{Page}
use Rattle.std.specs.Int.{div_ceil}
use Rattle.block_alloc.specs.Spaces.{Space}
use Rattle.block_alloc.specs.declared.freed.Freed.{Freed}
use Rattle.chain_model.specs.Images.{Placed, metadata_of, name_of}
use Rattle.layer_session.specs.declared.file.Layer.{Layer}
use Rattle.layer_session.proofs.Apart.{beside_self}
use Rattle.layer_session.proofs.Committed.{held_none}
use Rattle.layer_session.proofs.Committing.{attached_same, ready_from}
use Rattle.std.proofs.Common.{replicate, All, get_or, ◌≡◌, ℕ, ◌+◌, ◌*◌, ◌-◌, ◌%◌, ◌^◌, ◌<◌, ◌≤◌, ◌⊎◌, Bool, true, false, List, [], length, Option, Some, None, refl, sym, ap, subst, ◌∙◌, arith, inl, inr}
use Rattle.std.specs.Prelude.{Ok}
use Rattle.vx_base.specs.declared.parts.Header.{Header}
use Rattle.vx_base.specs.declared.parts.Parts.{Parts}
use Rattle.vhdx_format.specs.AllocationTables.{IsBlockSize, IsSectorSize, table_entries}
use Rattle.vhdx_format.specs.Fields.{megabyte}
use Rattle.vhdx_format.specs.FileParts.{HasNumbers, read_parts, shape_of, taken_areas}
use Rattle.vhdx_format.specs.HeldBlocks.{IsSoundTable, bitmap}
use Rattle.vhdx_format.specs.Layers.{Shape, layer_sector, place_at}
use Rattle.store_model.specs.Disk.{Disk, WhereBothTold, WhereTold}
use Rattle.store_model.specs.File.{seen}
use Rattle.store_model.specs.Plans.{OnlyChanges}
use Rattle.store_model.specs.Trace.{Trace, file_of}
use Rattle.store_model.proofs.Spans.{EachMoment-now}
use Rattle.torn_match.specs.TornMatches.{ChangesUntorn}
use Rattle.log_write.proofs.Entries.{megabytes}
use Rattle.log_write.specs.Sessions.{IsKept, IsRunning, LogState, SettlesNear, nowhere}
use Rattle.log_write.specs.Writing.{BeginsAlike, BeginsAtEachMoment, CanCommit, IsOfTables, KeepsRest, begun, opening_header, session_header}
use Rattle.log_write.specs.declared.ids.SessionIds.{SessionIds}
use Rattle.chain_model.specs.Files.{layer_in}
use Rattle.chain_model.specs.Images.{Shows}
use Rattle.chain_model.specs.Members.{ties_of}
use Rattle.chain_model.specs.Moments.{HasWholeImages}
use Rattle.chain_model.specs.Sessions.{ShowsFile}
use Rattle.chain_model.specs.Sessions.{IsKept as IsKeptFile}
use Rattle.chain_model.proofs.Serving.{chains_begin}
use Rattle.layer_session.specs.Begins.{BeginsOver, CanServe, HasBegun, as_found, in_session}
use Rattle.layer_session.specs.Keeping.{AreBeside, Covers, IsLayerOf, IsNobodys, IsPlaced, IsReady, IsTablePlace, Serves, area_of, bitmap as bitmap_place, entries, metadata, regions}
use Rattle.layer_session.proofs.Alike.{AreSizes, block_kept, layer_alike, metadata_alike, numbers_alike, off_range, places_alike, sector_kept, sound_alike}
use Rattle.layer_session.proofs.Crashes.{IsSafe, in_layer, off_layer, shown}
use Rattle.layer_session.proofs.Ending.{back_place, safe_under, same_kept, same_place}
use Rattle.layer_session.proofs.Equal.{false_true, none_some, some_same}
use Rattle.layer_session.proofs.Numbers.{are_numbers}
use Rattle.layer_session.proofs.Tests.{is_place, place_from, place_to}
use Rattle.layer_session.proofs.Under.{numbers_under, under}

module _ (parts : Parts) (ids : SessionIds) (file : ℕ) (t : Trace) (numbers : HasNumbers parts) (can : CanServe parts ids.log file t) where
  abbrev F : List ℕ
  F = seen (file_of t file)

  are_read : read_parts parts.header F ≡ Ok parts
  are_read = subst (λ (h : Header). read_parts h F ≡ Ok parts) (sym (are_numbers can.reads.header F parts can.reads.numbers).1) can.reads.numbers

  sizes : AreSizes parts
  sizes = record { sector = numbers.sector; block = numbers.block; entries = numbers.entries }

  long : 327680 ≤ length F
  long = let w = (are_numbers parts.header F parts are_read).0.table.within in let b = (megabytes parts.bat_at numbers.bat.at_megabyte).1 in let n = (megabytes parts.bat_len numbers.bat.megabytes).1 in omega (arith, w, b, n)

  is_kept_place : (i : ℕ) → IsTablePlace parts F i → IsKept parts.header i
  is_kept_place i (regions a b) = record { first = inr (omega arith); second = inr (omega arith); log = inl (let m = (megabytes parts.header.log_at numbers.log.at_megabyte).1 in omega (arith, b, m)) }
  is_kept_place i (entries a b) = let m = (megabytes parts.bat_at numbers.bat.at_megabyte).1 in record { first = inr (omega (arith, a, m)); second = inr (omega (arith, a, m)); log = off_range parts.bat_at parts.bat_len parts.header.log_at parts.header.log_len i numbers.bat_off_log a b }
  is_kept_place i (metadata a b) = let m = (megabytes parts.meta_at numbers.metadata.at_megabyte).1 in record { first = inr (omega (arith, a, m)); second = inr (omega (arith, a, m)); log = off_range parts.meta_at parts.meta_len parts.header.log_at parts.header.log_len i numbers.metadata_off_log a b }
  is_kept_place i (bitmap_place index be six a b) = (block_kept parts F F (omega arith) sizes are_read can.reads.blocks index (record { at = place_at (shape_of parts) F index; len = megabyte }) (bitmap be six) i a b).0

  everywhere : ℕ → Bool
  everywhere i = true

  safe : IsSafe parts everywhere nowhere (λ s. false) (layer_in F parts) F F
  unfolding everywhere
  safe = record {
    sizes = sizes;
    long = long;
    committed = record { long = omega arith; numbers = are_read; sound = can.reads.blocks; same = λ i below kept. inr refl };
    covered = record { covers = λ i p. refl; beside = is_kept_place };
    apart = λ i e. absurd (false_true e);
    clean = λ s below e. record { same = sym (in_layer parts F s below); unwritten = λ i st. refl };
    off_disk = λ s above. off_layer parts F s above;
  }

  by_header : (header : Header) → header.log_at ≡ parts.header.log_at → header.log_len ≡ parts.header.log_len → (image : List ℕ) → SettlesNear header F (length F) nowhere image → Shows (ties_of (under header parts)) (layer_in F parts) (λ s. false) image
  by_header header at len image near = shown (under header parts) everywhere nowhere (λ s. false) (layer_in F parts) F F image (safe_under header parts at len everywhere nowhere (λ s. false) (layer_in F parts) F F safe) near

  begins_show : (image : List ℕ) → BeginsAlike parts.header ids F image → ShowsFile (as_found t file parts) image ⊎ ShowsFile (as_found t file (in_session parts ids)) image
  begins_show image (inl old) = inl (shown parts everywhere nowhere (λ s. false) (layer_in F parts) F F image safe old)
  begins_show image (inr (inl first)) = let s = by_header (opening_header parts.header ids) refl refl image first in inr (record { held = s.held; parts = s.parts; reads = s.reads; whole = s.whole; ties = s.ties; clean = s.clean })
  begins_show image (inr (inr last)) = let s = by_header (session_header parts.header ids) refl refl image last in inr (record { held = s.held; parts = s.parts; reads = s.reads; whole = s.whole; ties = s.ties; clean = s.clean })

  pub begins_over : (u : Trace) → ChangesUntorn file (BeginsAlike parts.header ids F) t u → BeginsOver parts ids file t u
  begins_over u changes = record {
    one_file = refl;
    one_name = refl;
    phase = record {
      later = changes.later;
      since = changes.since;
      each = λ k a b. record { images = λ image here whole. begins_show image ((changes.each k a b).has image here whole); others = (changes.each k a b).others };
    };
  }

pub begin_moments : (parts : Parts) (ids : SessionIds) (file : ℕ) (old new : Option Trace) → HasNumbers parts → parts.header.number ≤ 2 ^ 64 - 2 ^ 32 → WhereTold old (CanServe parts ids.log file) → BeginsAtEachMoment file parts.header ids old new
    → WhereBothTold (OnlyChanges file) old new → WhereBothTold (BeginsOver parts ids file) old new
begin_moments parts ids file None None numbers low can moments only = tt
begin_moments parts ids file None (Some u) numbers low can moments only = absurd only
begin_moments parts ids file (Some t) None numbers low can moments only = absurd only
begin_moments parts ids file (Some t) (Some u) numbers low can moments only = begins_over parts ids file t numbers (can t refl) u (moments low t refl)

-- as it is found it is kept
found_kept : (parts : Parts) (ids : SessionIds) (file : ℕ) (t : Trace) → CanServe parts ids.log file t → IsKeptFile t (as_found t file parts)
found_kept parts ids file t can = chains_begin.kept t file (seen (file_of t file)) parts can.within can.begins.synced can.reads (omega arith)

-- nothing was done
pub begin_none : (parts : Parts) (ids : SessionIds) (file : ℕ) (old : Option Trace) → HasNumbers parts → WhereTold old (CanServe parts ids.log file) → WhereBothTold (BeginsOver parts ids file) old old
begin_none parts ids file None numbers can = tt
begin_none parts ids file (Some t) numbers can = record {
  one_file = refl;
  one_name = refl;
  phase = EachMoment-now (HasWholeImages file (λ bytes. ShowsFile (as_found t file parts) bytes ⊎ ShowsFile (as_found t file (in_session parts ids)) bytes) t) t
      (record { images = λ image here whole. inl ((found_kept parts ids file t (can t refl)).shows image here whole); others = λ o ne. refl });
}

-- ---- what is served then

first_byte : (x y : List ℕ) → x ≡ y → get_or x 0 0 ≡ get_or y 0 0
first_byte x y e = ap (λ (z : List ℕ). get_or z 0 0) e

-- new tables keep no page
none_kept : (tables_of : TableParts) (l : Tables) → IsNew tables_of l → (at : ℕ) → at % 4096 ≡ 0 → pages.is_kept at l.cache ≡ true → ⊥
none_kept tables_of l new at aligned k =
    let n = tables_of.bat_at + tables_of.bat_len + at + 4096 in
    let zeros_long : length {A = ℕ} (replicate n 0) ≡ n = length-replicate n 0 in
    let ones_long : length {A = ℕ} (replicate n 1) ≡ n = length-replicate n 1 in
    let zero = ((new.tables (replicate n 0) (omega (arith, zeros_long))).unchanged at aligned k).0 in
    let one = ((new.tables (replicate n 1) (omega (arith, ones_long))).unchanged at aligned k).0 in
    let same = first_byte (bytes_at (replicate n 0) at 4096) (bytes_at (replicate n 1) at 4096) (sym zero ∙ one) in
    let z : get_or (bytes_at (replicate n 0) at 4096) 0 0 ≡ 0 = part_byte (replicate n 0) at 4096 0 (omega arith) ∙ get_or-replicate n (at + 0) 0 0 (omega arith) in
    let o : get_or (bytes_at (replicate n 1) at 4096) 0 0 ≡ 1 = part_byte (replicate n 1) at 4096 0 (omega arith) ∙ get_or-replicate n (at + 0) 1 0 (omega arith) in
    omega (arith, same, z, o)

-- the sizes of a file's tables
pub have_sizes : (parts : Parts) (tables_of : TableParts) → HasNumbers parts → tables.shape_of tables_of ≡ shape_of parts → tables_of.bat_len ≡ parts.bat_len → HasTables tables_of
have_sizes parts tables_of numbers shape region = record {
  sector = subst (λ (p : Shape). IsSectorSize p.sector) (sym shape) numbers.sector;
  block = subst (λ (p : Shape). IsBlockSize p.block) (sym shape) numbers.block;
  at_page = let m = (megabytes parts.bat_at numbers.bat.at_megabyte).0 in let e : tables_of.bat_at ≡ parts.bat_at = ap (λ (p : Shape). p.table) shape in omega (arith, m, e);
  of_pages = let m = (megabytes parts.bat_len numbers.bat.megabytes).0 in let e = region in omega (arith, m, e);
  end = let e : tables_of.bat_at ≡ parts.bat_at = ap (λ (p : Shape). p.table) shape in let n = region in let end = numbers.bat.end in omega (arith, e, n, end);
  one_sector = subst (λ (p : Shape). 0 < p.sectors) (sym shape) numbers.one_sector;
  most = subst (λ (p : Shape). p.sectors * p.sector ≤ 2 ^ 46) (sym shape) numbers.most;
  entries = subst (λ n. 8 * table_entries (tables_of.sectors * tables_of.sector) tables_of.sector tables_of.block tables_of.parent ≤ n) (sym region)
      (subst (λ (p : Shape). 8 * table_entries (p.sectors * p.sector) p.sector p.block p.parent ≤ parts.bat_len) (sym shape) numbers.entries);
}

-- what is known of a layer that was made
pub record IsMadeOf (parts : Parts) (ids : SessionIds) (file : ℕ) (tables_of : TableParts) (l : Layer) : Type 0 where
  pub new : IsNew tables_of l.tables
  pub number : tables_of.file ≡ file
  pub shape : tables.shape_of tables_of ≡ shape_of parts
  pub region : tables_of.bat_len ≡ parts.bat_len
  pub log : l.log ≡ begun file parts.header ids l.log.len
  pub next : l.log.len ≤ l.space.next * megabyte
  pub most : l.space.next ≤ 2 ^ 44
  pub tight : l.space.next * megabyte < l.log.len + megabyte
  pub none_freed : l.space.freed ≡ []

module _ (parts : Parts) (ids : SessionIds) (file : ℕ) (t u : Trace) (tables_of : TableParts) (l : Layer) (numbers : HasNumbers parts) (can : CanServe parts ids.log file t) (made : IsMadeOf parts ids file tables_of l)
    (attached : u.attached ≡ t.attached) (rest : KeepsRest parts.header (seen (file_of t file)) (seen (file_of u file)))
    (runs : (any : ℕ → Bool) → IsRunning l.log any (length (seen (file_of u file))) nowhere (file_of u file)) where
  abbrev was : List ℕ
  was = seen (file_of t file)

  abbrev X : List ℕ
  X = seen (file_of u file)

  abbrev q : Shape
  q = shape_of parts

  of_was : IsSafe parts (everywhere parts ids file t numbers can) nowhere (λ s. false) (layer_in was parts) was was
  of_was = safe parts ids file t numbers can

  read_was : read_parts parts.header was ≡ Ok parts
  read_was = are_read parts ids file t numbers can

  long_was : 327680 ≤ length was
  long_was = long parts ids file t numbers can

  no_shorter : length was ≤ length X
  no_shorter = let e = rest.long in omega (arith, e)

  table_same : (i : ℕ) → IsTablePlace parts was i → i < length was → get_or X i 0 ≡ get_or was i 0
  table_same i place below = rest.same i (is_kept_place parts ids file t numbers can i place)

  read_here : read_parts parts.header X ≡ Ok parts
  read_here = numbers_alike parts was X no_shorter of_was.sizes read_was can.reads.blocks table_same long_was

  sound_here : IsSoundTable q (taken_areas parts) X
  sound_here = sound_alike parts was X no_shorter of_was.sizes read_was can.reads.blocks table_same long_was

  layer_here : (s : ℕ) → s < parts.geometry.sectors → layer_in was parts s ≡ layer_sector q X s
  layer_here s below =
      in_layer parts was s below
      ∙ sym (layer_alike parts was X no_shorter of_was.sizes read_was can.reads.blocks table_same long_was s below (λ i st. rest.same i (sector_kept parts was X no_shorter of_was.sizes read_was can.reads.blocks s below i st).0))

  none_pending : l.tables.pending ≡ []
  none_pending = made.new.unchanged

  held_is : X ≡ held l.tables.pending X
  held_is = sym (ap (λ p. held p X) none_pending ∙ held_none X)

  no_page : (P : Page → Type 0) → All P l.tables.pending
  no_page P = subst (All P) (sym none_pending) (λ k d b. absurd (omega (arith, b)))

  long_log : length X ≡ l.log.len
  long_log = (runs nowhere).state.long

  header_is : session_header parts.header ids ≡ l.log.header
  header_is = sym (ap (λ (s : LogState). s.header) made.log)

  kept_here : (i : ℕ) → IsTablePlace parts X i → IsKept parts.header i
  kept_here i place = is_kept_place parts ids file t numbers can i (places_alike parts was X no_shorter of_was.sizes read_was can.reads.blocks table_same long_was i place)

  covers_here : Covers (in_session parts ids) X (is_place parts X)
  covers_here = record {
    covers = λ i place. place_to parts X i (same_place (session_header parts.header ids) parts refl refl X i place);
    beside = λ i place. same_kept (session_header parts.header ids) parts refl refl i (kept_here i (same_place (session_header parts.header ids) parts refl refl X i place));
  }

  table_in : tables_of.bat_at + tables_of.bat_len ≤ length X
  table_in =
      let w = (are_numbers parts.header was parts read_was).0.table.within in
      let e : tables_of.bat_at ≡ parts.bat_at = ap (λ (p : Shape). p.table) made.shape in
      let n = made.region in
      omega (arith, w, e, n, no_shorter)

  pub begun_serves : Serves l u (as_found t file (in_session parts ids))
  begun_serves = record {
    within = subst (λ z. file < length z) (sym attached) can.within;
    number = sym (ap (λ (p : TableParts). p.file) made.new.parts_are ∙ made.number);
    name = ap (λ z. name_of z file) attached;
    parts = in_session parts ids;
    header = header_is;
    ties = refl;
    metadata = subst (λ (z : List ℕ). metadata_of parts was ≡ metadata_of parts z) held_is (sym (metadata_alike parts was X no_shorter of_was.sizes read_was can.reads.blocks table_same long_was));
    as_held = record {
      sizes = subst HasTables (sym made.new.parts_are) (have_sizes parts tables_of numbers made.shape made.region);
      shape = ap tables.shape_of made.new.parts_are ∙ made.shape;
      region = ap (λ (p : TableParts). p.bat_len) made.new.parts_are ∙ made.region;
      most = let e = rest.long in let m = can.most in omega (arith, e, m);
      pages = subst (λ (p : TableParts). AreTables p X l.tables.pending l.tables.cache) (sym made.new.parts_are) (subst (λ (x : List Page). AreTables tables_of X x l.tables.cache) (sym none_pending) (made.new.tables X table_in));
      numbers = subst (λ (z : List ℕ). read_parts (session_header parts.header ids) z ≡ Ok (in_session parts ids)) held_is (numbers_under parts.header (session_header parts.header ids) X parts refl refl read_here);
      sound = subst (λ (z : List ℕ). IsSoundTable q (taken_areas parts) z) held_is sound_here;
      of_tables = no_page (λ page. (i : ℕ) → page.at ≤ i → i < page.at + 4096 → IsTablePlace (in_session parts ids) (held l.tables.pending X) i);
      has = subst (λ (z : List ℕ). IsLayerOf q z (layer_in was parts)) held_is (record { on_disk = layer_here; off_disk = λ s above. off_layer parts was s above });
    };
    bytes = X;
    tables = is_place parts X;
    written = nowhere;
    running = runs (is_place parts X);
    committed = record { long = omega arith; numbers = numbers_under parts.header (session_header parts.header ids) X parts refl refl read_here; sound = sound_here; same = λ i below kept. inr refl };
    covered = covers_here;
    clean = λ s below e. record { same = sym (layer_here s below); unwritten = λ i st. refl };
    covered_held = subst (λ (z : List ℕ). Covers (in_session parts ids) z (is_place parts X)) held_is covers_here;
    only = subst (λ (z : List ℕ). (i : ℕ) → is_place parts X i ≡ true → IsTablePlace (in_session parts ids) z i) held_is (λ i e. back_place (session_header parts.header ids) parts refl refl X i (place_from parts X i e));
    changed = no_page (IsOfTables (is_place parts X));
    kept = λ at i aligned k a b. absurd (none_kept tables_of l.tables made.new at aligned k);
    can = no_page (CanCommit l.log);
    beside = subst (λ (z : List ℕ). AreBeside (in_session parts ids) X z) held_is (beside_self parts of_was.sizes X sound_here);
    space = record {
      next = let n = made.next in omega (arith, n, long_log);
      tight = let n = made.tight in omega (arith, n, long_log);
      placed = no_freed (λ (f : Freed). IsPlaced (in_session parts ids) (length X) (area_of f));
      freed = no_freed (λ (f : Freed). IsNobodys (in_session parts ids) (held l.tables.pending X) (area_of f));
      committed = no_freed (λ (f : Freed). f.committed ≡ true → IsNobodys (in_session parts ids) X (area_of f));
    };
  }
    where
      no_freed : (P : Freed → Type 0) → All P l.space.freed
      no_freed P = subst (All P) (sym made.none_freed) (λ k d b. absurd (omega (arith, b)))

-- of stores
module _ (parts : Parts) (ids : SessionIds) (file : ℕ) (tables_of : TableParts) (l : Layer) (old new : Disk) (numbers : HasNumbers parts) (can : WhereTold old.told (CanServe parts ids.log file)) (made : IsMadeOf parts ids file tables_of l)
    (rest : WhereBothTold (λ before after. KeepsRest parts.header (seen (file_of before file)) (seen (file_of after file))) old.told new.told)
    (runs : (any : ℕ → Bool) → WhereTold new.told (λ trace. IsRunning l.log any (length (seen (file_of trace file))) nowhere (file_of trace file))) (only : WhereBothTold (OnlyChanges file) old.told new.told) where
  pub begin_served : WhereBothTold (HasBegun parts ids file l) old.told new.told
  begin_served = by_told old.told new.told can rest runs only
    where
      by_told : (a b : Option Trace) → WhereTold a (CanServe parts ids.log file) → WhereBothTold (λ before after. KeepsRest parts.header (seen (file_of before file)) (seen (file_of after file))) a b
          → ((any : ℕ → Bool) → WhereTold b (λ trace. IsRunning l.log any (length (seen (file_of trace file))) nowhere (file_of trace file))) → WhereBothTold (OnlyChanges file) a b → WhereBothTold (HasBegun parts ids file l) a b
      by_told None None c r x o = tt
      by_told None (Some u) c r x o = absurd o
      by_told (Some t) None c r x o = absurd o
      by_told (Some t) (Some u) c r x o = begun_serves parts ids file t u tables_of l numbers (c t refl) made (attached_same file t u o) r (λ any. x any u refl)

  one_served : (a b : Option Trace) → WhereBothTold (HasBegun parts ids file l) a b → WhereTold b (λ trace. (placed : Placed) × Serves l trace placed)
  one_served None None h u e = absurd (none_some e)
  one_served None (Some v) h u e = absurd h
  one_served (Some t) None h u e = absurd (none_some e)
  one_served (Some t) (Some v) h u e = (as_found t file (in_session parts ids), subst (λ (x : Trace). Serves l x (as_found t file (in_session parts ids))) (some_same e) h)

  pub begin_ready : file < old.files → new ≡ record old { told = new.told } → l.zeros.items ≡ zeros megabyte → length l.plans.items ≡ 257 → IsReady l new
  begin_ready there counts clear plans =
      let number : l.tables.parts.file ≡ file = ap (λ (p : TableParts). p.file) made.new.parts_are ∙ made.number in
      ready_from l new (subst (λ n. n < new.files) (sym number) (subst (λ n. file < n) (sym (ap (λ (d : Disk). d.files) counts)) there)) (subst HasTables (sym made.new.parts_are) (have_sizes parts tables_of numbers made.shape made.region))
      (ap (λ (s : LogState). s.file) made.log ∙ sym number) made.next made.most clear plans (one_served old.told new.told begin_served)

-- whole units hold a length, and no more than one too many
pub units_hold : (n : ℕ) → (n ≤ div_ceil n 1048576 * megabyte) × (div_ceil n 1048576 * megabyte < n + megabyte)
units_hold n = (omega arith, omega arith)

-- what was made by its parts
pub is_made : (parts : Parts) (ids : SessionIds) (file len : ℕ) (tables_of : TableParts) (l : Layer) → IsNew tables_of l.tables → tables_of.file ≡ file → tables.shape_of tables_of ≡ shape_of parts → tables_of.bat_len ≡ parts.bat_len
    → l.log ≡ begun file parts.header ids l.log.len → len ≡ l.log.len → l.space ≡ (let s : Space = record { next = div_ceil len 1048576; freed = [] } in s) → len < 2 ^ 64 → IsMadeOf parts ids file tables_of l
is_made parts ids file len tables_of l new number shape region log len_is space small =
    let next : l.space.next ≡ div_ceil l.log.len 1048576 = ap (λ (s : Space). s.next) space ∙ ap (λ n. div_ceil n 1048576) len_is in
    let w = units_hold l.log.len in
    record {
      new = new;
      number = number;
      shape = shape;
      region = region;
      log = log;
      next = subst (λ n. l.log.len ≤ n * megabyte) (sym next) w.0;
      most = let e : l.space.next ≡ div_ceil len 1048576 = ap (λ (s : Space). s.next) space in omega (arith, e, small);
      tight = subst (λ n. n * megabyte < l.log.len + megabyte) (sym next) w.1;
      none_freed = ap (λ (s : Space). s.freed) space;
    }
