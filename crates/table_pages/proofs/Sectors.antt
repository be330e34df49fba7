-- Bits that are set in the block of some sectors, after its place was read and its pages were brought.
use Rattle.std.proofs.Common.{◌≡◌, ℕ, ◌+◌, ◌≤◌, Bool, List, length, Some, sym, ap, subst, ◌∙◌}
use Rattle.vhdx_format.specs.Fields.{megabyte}
use Rattle.store_model.specs.Disk.{Disk, WhereTold}
use Rattle.store_model.specs.Trace.{Trace}
use Rattle.table_pages.specs.declared.tables.Tables.{Tables}
use Rattle.table_pages.specs.Held.{held, held_file, AreTables, AreTablesIn, HasBitmap, IsAsHeld, SetsBits, SetsBlock, bitmap_place}
use Rattle.table_pages.specs.Told.{AreOf, IsBitmapAt}
use Rattle.table_pages.proofs.Words.{file_in, same_file, same_held}

module _ (old near mid new : Tables) (disk now : Disk) (place first from count : ℕ) (on : Bool) (as_held : IsAsHeld old near disk) (stays : now ≡ disk) (parts : mid.parts ≡ near.parts)
    (tables : AreTablesIn mid now) (same : WhereTold now.told (λ trace. held_file mid trace ≡ held_file near trace)) (last : new.parts ≡ mid.parts)
    (at : IsBitmapAt old disk first place) (inside : HasBitmap first old disk)
    (set : (file : List ℕ) → AreOf mid file → place + megabyte ≤ length file → SetsBlock place from count on mid new file) (trace : Trace) (told : disk.told ≡ Some trace) where
  then_told : now.told ≡ Some trace
  then_told = ap (λ (d : Disk). d.told) stays ∙ told

  file_old : file_in mid trace ≡ file_in old trace
  file_old = same_file near mid trace parts ∙ same_file old near trace as_held.parts_are

  block : SetsBlock place from count on mid new (file_in mid trace)
  block =
      set (file_in mid trace) (tables trace then_told)
      (subst (λ (f : List ℕ). place + megabyte ≤ length f) (sym file_old) (subst (λ k. k + megabyte ≤ length (file_in old trace)) (sym (at trace told)) (inside trace told)))

  pub sectors_set : SetsBits (bitmap_place old.parts (held_file old trace) first) from count on (held_file old trace) (held_file new trace)
  sectors_set =
      subst (λ k. SetsBits k from count on (held_file old trace) (held_file new trace)) (at trace told)
      (subst (λ (f : List ℕ). SetsBits place from count on f (held_file new trace)) (same trace then_told ∙ same_held old near disk trace as_held)
      (subst (λ (f : List ℕ). SetsBits place from count on (held_file mid trace) (held new.pending f)) (sym (same_file mid new trace last)) block.sets))

  pub sectors_tables : AreTables new.parts (file_in new trace) new.pending new.cache
  sectors_tables = subst (λ (f : List ℕ). AreTables new.parts f new.pending new.cache) (sym (same_file mid new trace last)) block.tables
