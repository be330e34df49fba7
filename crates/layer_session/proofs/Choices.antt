-- Which step is planned for sectors of one block, by the block's entry.
use Rattle.std.proofs.Common.{◌≡◌, ◌≢◌, ◌⊎◌, ℕ, ◌%◌, ◌<◌, ◌&&◌, ◌==◌, Bool, true, false, List, refl, sym, ap, subst, ◌∙◌, arith, inl, inr}
use Rattle.std.proofs.lemmas.Bool.{ne_eqb}
use Rattle.std.specs.Prelude.{Result, Ok, Err, IfOk, Some}
use Rattle.layer_session.proofs.Tests.{and_both}
use Rattle.vhdx_format.specs.Layers.{Shape, bitmap_entry_of, entry_of, table_entry}
use Rattle.store_model.specs.Disk.{Disk, WhereTold}
use Rattle.store_model.specs.Trace.{Trace}
use Rattle.store_model.specs.declared.fault.StoreFault.{StoreFault}
use Rattle.table_pages.specs.Held.{held_file, shape_of}
use Rattle.table_pages.specs.declared.tables.Tables.{Tables}
use Rattle.layer_session.specs.Planning.{IsPlanned, are_marked, is_whole}
use Rattle.layer_session.specs.TablesRead.{AreReadable, HasRead}
use Rattle.layer_session.specs.declared.planning.Plan.{Plan}
use Rattle.layer_session.specs.declared.planning.Step.TheVariants.{Drop, Leave, Write, Mark, Make, MakePart}
use Rattle.layer_session.proofs.Planned.{both_not, read_again, same_held}

-- ---- the block's entry is the one at this index, and has this value

module _ (p : Shape) (file : List ℕ) (trims : Bool) (first count word index : ℕ) (at : index ≡ entry_of p first) (is : word ≡ table_entry p file index) where
  held : word ≡ table_entry p file (entry_of p first)
  held = subst (λ i. word ≡ table_entry p file i) at is

  -- a block that is trimmed whole stays one of zeros, or becomes one
  pub chosen_leave : trims ≡ true → is_whole p first count ≡ true → word ≡ 2 → IsPlanned p file trims first count (record { step = Leave; word = word; bitmap = 0 })
  chosen_leave t w two = record { step = rw (and_both trims (is_whole p first count) t w, sym held, two) refl; word = held; bitmap = λ e. cc }

  pub chosen_drop : trims ≡ true → is_whole p first count ≡ true → word ≢ 2 → IsPlanned p file trims first count (record { step = Drop; word = word; bitmap = 0 })
  chosen_drop t w other = record { step = rw (and_both trims (is_whole p first count) t w, sym held, ne_eqb word 2 other) refl; word = held; bitmap = λ e. cc }

  -- one that is partially present is written, and its sectors are marked, if they aren't all
  pub chosen_write : (bitmap : ℕ) → (trims && is_whole p first count) ≡ false → word % 8 ≡ 7 → are_marked p file first count ≡ true → IsPlanned p file trims first count (record { step = Write; word = word; bitmap = bitmap })
  chosen_write bitmap stays seven marked = record { step = rw (stays, sym held, seven, marked) refl; word = held; bitmap = λ e. cc }

  pub chosen_mark : (bitmap : ℕ) → (trims && is_whole p first count) ≡ false → word % 8 ≡ 7 → are_marked p file first count ≡ false → bitmap ≡ table_entry p file (bitmap_entry_of p first)
      → IsPlanned p file trims first count (record { step = Mark; word = word; bitmap = bitmap })
  chosen_mark bitmap stays seven marked has = record { step = rw (stays, sym held, seven, marked) refl; word = held; bitmap = λ e. has }

  -- one that has no place gets one: in part, where the file has a parent and doesn't have it
  pub chosen_part : (bitmap : ℕ) → (trims && is_whole p first count) ≡ false → p.parent ≡ true → word % 8 ≡ 0 → bitmap ≡ table_entry p file (bitmap_entry_of p first)
      → IsPlanned p file trims first count (record { step = MakePart; word = word; bitmap = bitmap })
  chosen_part bitmap stays parent zero has = record { step = rw (stays, sym held, zero, parent) refl; word = held; bitmap = λ e. has }

  pub chosen_make : (trims && is_whole p first count) ≡ false → word % 8 < 6 → (p.parent ≡ false) ⊎ (word % 8 ≢ 0) → IsPlanned p file trims first count (record { step = Make; word = word; bitmap = 0 })
  chosen_make stays below alone =
      record {
        step = rw (stays, sym held, ne_eqb (word % 8) 7 (omega arith), both_not (word % 8 == 0) p.parent (by_state alone), ne_eqb (word % 8) 6 (omega arith)) refl;
        word = held;
        bitmap = λ e. cc;
      }
    where
      by_state : (p.parent ≡ false) ⊎ (word % 8 ≢ 0) → ((word % 8 == 0) ≡ false) ⊎ (p.parent ≡ false)
      by_state (inl none) = inr none
      by_state (inr other) = inl (ne_eqb (word % 8) 0 other)

-- ---- by tables that were read before

-- they can be read again
pub readable_then : (old new : Tables) (disk after : Disk) → AreReadable old disk → HasRead old new disk → after ≡ disk → AreReadable new after
readable_then old new disk after h r e = subst (AreReadable new) (sym e) (read_again old new disk h r)

-- what a read of them said then
pub said_then : (P : Shape → List ℕ → Type 0) (old new : Tables) (disk after : Disk) (trace : Trace) → HasRead old new disk → after ≡ disk
    → WhereTold after.told (λ trace. P (shape_of new.parts) (held_file new trace)) → disk.told ≡ Some trace → P (shape_of old.parts) (held_file old trace)
said_then P old new disk after trace r e h told = same_held (λ parts file. P (shape_of parts) file) old new disk trace r (h trace (ap (λ (d : Disk). d.told) e ∙ told))

-- a plan by them, of a block that isn't trimmed whole
pub planned_then : (old new : Tables) (disk after : Disk) (trims : Bool) (first count : ℕ) (answer : Result Plan StoreFault) → HasRead old new disk → after ≡ disk
    → (trims && is_whole (shape_of old.parts) first count) ≡ false
    → IfOk answer (λ plan. WhereTold after.told (λ trace. IsPlanned (shape_of new.parts) (held_file new trace) false first count plan))
    → IfOk answer (λ plan. WhereTold disk.told (λ trace. IsPlanned (shape_of old.parts) (held_file old trace) trims first count plan))
planned_then old new disk after trims first count (Err fault) r e stays h = tt
planned_then old new disk after trims first count (Ok plan) r e stays h = λ trace told.
    let was : IsPlanned (shape_of old.parts) (held_file old trace) false first count plan = said_then (λ p file. IsPlanned p file false first count plan) old new disk after trace r e h told in
    record { step = was.step ∙ (rw stays refl); word = was.word; bitmap = was.bitmap }
