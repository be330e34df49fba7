-- A file whose session has ended is read.
use Rattle.std.proofs.Common.{◌≡◌, ℕ, ◌+◌, ◌<◌, ◌≤◌, List, [], length, get_or, refl, sym, ap, subst, ◌∙◌, arith}
use Rattle.std.specs.Prelude.{Ok, Option, Some, None}
use Rattle.vx_base.specs.declared.parts.Header.{Header}
use Rattle.vx_base.specs.declared.parts.Parts.{Parts}
use Rattle.vhdx_format.specs.FileParts.{read_parts, shape_of, taken_areas}
use Rattle.vhdx_format.specs.HeldBlocks.{IsSoundTable}
use Rattle.vhdx_format.specs.Layers.{Shape, layer_sector}
use Rattle.vhdx_format.specs.declared.log_entry.Page.{Page}
use Rattle.store_model.specs.Disk.{Disk, WhereBothTold, WhereTold}
use Rattle.store_model.specs.File.{seen}
use Rattle.store_model.specs.Plans.{OnlyChanges}
use Rattle.store_model.specs.Trace.{Trace, file_of}
use Rattle.table_pages.specs.Held.{AreTables, held}
use Rattle.table_pages.proofs.Changing.{stand_after_commit, stand_beside_writes}
use Rattle.table_pages.proofs.Laying.{part_same}
use Rattle.log_write.specs.Running.{EndsBehind}
use Rattle.log_write.specs.Sessions.{IsKept as IsPlaceKept}
use Rattle.log_write.specs.Sessions.{IsRunning}
use Rattle.log_write.specs.Writing.{EndsAtEachMoment, KeepsRest}
use Rattle.log_write.specs.Writing.{HasEnded as HasEndedLog}
use Rattle.chain_model.specs.Images.{Placed, name_of}
use Rattle.layer_session.specs.declared.file.Layer.{Layer}
use Rattle.layer_session.specs.Calls.{HasCommitted, settled}
use Rattle.layer_session.specs.Closes.{HasClosed}
use Rattle.layer_session.specs.Keeping.{AreOfTables, HoldsLayer, IsLayerOf, IsReady, IsTablePlace, Serves}
use Rattle.layer_session.specs.ReadOnly.{CanRead, IsRead}
use Rattle.layer_session.proofs.Alike.{layer_alike, numbers_alike, sector_kept, sound_alike}
use Rattle.layer_session.proofs.Committed.{IsWhole, held_none, whole_of}
use Rattle.layer_session.proofs.Committing.{attached_same}
use Rattle.layer_session.proofs.Ending.{end_kept, end_no_log, end_synced}
use Rattle.layer_session.proofs.Equal.{none_some, some_same}

-- nothing but headers and log has changed since nothing waited for a commit
module _ (l : Layer) (t u : Trace) (file : Placed) (serves : Serves l t file) (empty : l.tables.pending ≡ []) (attached : u.attached ≡ t.attached)
    (content : KeepsRest l.log.header (seen (file_of t file.number)) (seen (file_of u file.number))) where
  abbrev parts : Parts
  parts = serves.parts

  abbrev old : List ℕ
  old = seen (file_of t file.number)

  abbrev X : List ℕ
  X = seen (file_of u file.number)

  abbrev h : List ℕ
  h = held l.tables.pending old

  abbrev q : Shape
  q = shape_of parts

  is_whole : IsWhole l t file serves.parts serves.tables
  is_whole = whole_of l t file serves

  h_is : h ≡ old
  h_is = ap (λ p. held p old) empty ∙ held_none old

  held_is : held l.tables.pending X ≡ X
  held_is = ap (λ p. held p X) empty ∙ held_none X

  same_long : length X ≡ length h
  same_long = content.long ∙ ap (λ (z : List ℕ). length z) (sym h_is)

  longer : length h ≤ length X
  longer = omega (arith, same_long)

  byte_same : (i : ℕ) → IsPlaceKept parts.header i → get_or X i 0 ≡ get_or h i 0
  byte_same i o = content.same i (subst (λ (k : Header). IsPlaceKept k i) is_whole.header o) ∙ ap (λ (z : List ℕ). get_or z i 0) (sym h_is)

  table_same : (i : ℕ) → IsTablePlace parts h i → i < length h → get_or X i 0 ≡ get_or h i 0
  table_same i p below = byte_same i (is_whole.covered_held.beside i p)

  numbers_then : read_parts parts.header X ≡ Ok parts
  numbers_then = numbers_alike parts h X longer is_whole.sizes is_whole.as_held.numbers is_whole.as_held.sound table_same is_whole.long

  sound_then : IsSoundTable q (taken_areas parts) X
  sound_then = sound_alike parts h X longer is_whole.sizes is_whole.as_held.numbers is_whole.as_held.sound table_same is_whole.long

  sector_then : (s : ℕ) → s < q.sectors → layer_sector q X s ≡ file.member.layer s
  sector_then s below =
      layer_alike parts h X longer is_whole.sizes is_whole.as_held.numbers is_whole.as_held.sound table_same is_whole.long s below
      (λ i st. byte_same i (sector_kept parts h h (omega arith) is_whole.sizes is_whole.as_held.numbers is_whole.as_held.sound s below i st).0) ∙ sym (is_whole.as_held.has.on_disk s below)

  tables_then : AreTables l.tables.parts X [] l.tables.cache
  tables_then =
      stand_beside_writes l.tables.parts h X [] l.tables.cache (stand_after_commit l.tables.parts old l.tables.pending l.tables.cache is_whole.as_held.pages).0 longer
      (λ at a k. part_same X h at 4096 same_long (λ i b. byte_same (at + i) (is_whole.covered_held.beside (at + i) (is_whole.only (at + i) (is_whole.kept at (at + i) a k (omega arith) (omega (arith, b)))))))

  none_changed : AreOfTables parts (held l.tables.pending X) l.tables.pending
  none_changed = subst (λ (x : List Page). AreOfTables parts (held l.tables.pending X) x) (sym empty) (λ k d b. absurd (omega (arith, b)))

  holds_then : HoldsLayer l.tables parts file.member.layer X
  holds_then = record {
    sizes = is_whole.as_held.sizes;
    shape = is_whole.as_held.shape;
    region = is_whole.as_held.region;
    most = let m = is_whole.as_held.most in let e = content.long in omega (arith, e, m);
    pages = subst (λ (x : List Page). AreTables l.tables.parts X x l.tables.cache) (sym empty) tables_then;
    numbers = subst (λ (z : List ℕ). read_parts parts.header z ≡ Ok parts) (sym held_is) numbers_then;
    sound = subst (IsSoundTable q (taken_areas parts)) (sym held_is) sound_then;
    of_tables = none_changed;
    has = subst (λ (z : List ℕ). IsLayerOf q z file.member.layer) (sym held_is) (record { on_disk = λ s below. sym (sector_then s below); off_disk = is_whole.as_held.has.off_disk });
  }

  pub read_then : IsRead (record { tables = l.tables }) u file
  read_then = record {
    within = subst (λ z. file.number < length z) (sym attached) serves.within;
    number = serves.number;
    name = subst (λ z. name_of z file.number ≡ file.member.name) (sym attached) serves.name;
    parts = parts;
    ties = serves.ties;
    unchanged = empty;
    as_held = holds_then;
  }

-- a commit, and then the end of the log
module _ (l m : Layer) (old mid new : Disk) (committed : WhereBothTold (HasCommitted l m) old.told mid.told) (one_file : m.log.file ≡ m.tables.parts.file) (empty : m.tables.pending ≡ [])
    (moments : EndsAtEachMoment m.log mid.told new.told) (only : WhereBothTold (OnlyChanges m.log.file) mid.told new.told) (ended : EndsBehind m.log mid.told new.told) where
  one_closed : (t u v : Trace) → HasCommitted l m t u → EndsAtEachMoment m.log (Some u) (Some v) → OnlyChanges m.log.file u v → EndsBehind m.log (Some u) (Some v) → HasClosed l (record { tables = m.tables }) t v
  one_closed t u v k e o x = record {
    reads = λ file s.
        let r = k.serves file s in
        let own : m.log.file ≡ file.number = one_file ∙ sym r.number in
        let run : IsRunning m.log r.tables (length r.bytes) r.written (file_of u m.log.file) = subst (λ i. IsRunning m.log r.tables (length r.bytes) r.written (file_of u i)) (sym own) r.running in
        let has : HasEndedLog m.log.header (seen (file_of u m.log.file)) (file_of v m.log.file) = x r.tables (length r.bytes) r.written run in
        read_then m u v (settled file) r empty (attached_same m.log.file u v o)
        (subst (λ i. KeepsRest m.log.header (seen (file_of u i)) (seen (file_of v i))) own has.rest);
    kept = λ file s. end_kept m u (settled file) (k.serves file s) empty v one_file e o;
    synced = λ file s. let r = k.serves file s in end_synced m u (settled file) r empty v one_file e o (x r.tables (length r.bytes) r.written);
    no_log = λ file s. let r = k.serves file s in end_no_log m u (settled file) r empty v one_file e o (x r.tables (length r.bytes) r.written);
  }

  pub both_closed : WhereBothTold (HasClosed l (record { tables = m.tables })) old.told new.told
  both_closed = by_told old.told mid.told new.told committed moments only ended
    where
      by_told : (a b c : Option Trace) → WhereBothTold (HasCommitted l m) a b → EndsAtEachMoment m.log b c → WhereBothTold (OnlyChanges m.log.file) b c → EndsBehind m.log b c → WhereBothTold (HasClosed l (record { tables = m.tables })) a c
      by_told None None None k e o x = tt
      by_told None None (Some v) k e o x = absurd o
      by_told None (Some u) c k e o x = absurd k
      by_told (Some t) None c k e o x = absurd k
      by_told (Some t) (Some u) None k e o x = absurd o
      by_told (Some t) (Some u) (Some v) k e o x = one_closed t u v k e o x

-- so it can be read
pub can_read : (l m : Layer) (old mid new : Disk) → IsReady l old → IsReady m mid → m.tables.parts ≡ l.tables.parts → new.files ≡ mid.files → WhereBothTold (HasClosed l (record { tables = m.tables })) old.told new.told
    → CanRead (record { tables = m.tables }) new
can_read l m old mid new ready ready' parts files closed = record {
  there = subst (λ n. m.tables.parts.file < n) (sym files) ready'.readable.there;
  sizes = ready'.readable.sizes;
  told = by_told old.told new.told ready.told closed;
}
  where
    by_told : (a b : Option Trace) → WhereTold a (λ trace. (file : Placed) × Serves l trace file) → WhereBothTold (HasClosed l (record { tables = m.tables })) a b
        → WhereTold b (λ trace. (file : Placed) × IsRead (record { tables = m.tables }) trace file)
    by_told None None was has t e = absurd (none_some e)
    by_told None (Some v) was has t e = absurd has
    by_told (Some u) None was has t e = absurd has
    by_told (Some u) (Some v) was has t e =
        let same : v ≡ t = some_same e in
        let here = was u refl in
        (settled here.0, subst (λ (x : Trace). IsRead (record { tables = m.tables }) x (settled here.0)) same (has.reads here.0 here.1))
