-- Tables that are held as they were, and what is kept of them, through two calls.
use Rattle.std.proofs.Common.{◌≡◌, ℕ, ◌+◌, ◌%◌, ◌≤◌, ◌⊎◌, inl, inr, true, refl, subst, ◌∙◌, arith}
use Rattle.store_model.specs.Disk.{Disk}
use Rattle.table_pages.specs.declared.tables.Tables.{Tables}
use Rattle.table_pages.specs.Pages.{is_kept}
use Rattle.table_pages.specs.Held.{AreTablesIn, IsAsHeld, KeepsWithin}

pub as_it_was : (t : Tables) (disk : Disk) → AreTablesIn t disk → IsAsHeld t t disk
as_it_was t disk tables = record { parts_are = refl; unchanged = refl; tables = tables }

pub as_held_then : (old mid new : Tables) (disk later : Disk) → later ≡ disk → IsAsHeld old mid disk → IsAsHeld mid new later → IsAsHeld old new disk
as_held_then old mid new disk later same one two = record {
  parts_are = two.parts_are ∙ one.parts_are;
  unchanged = two.unchanged ∙ one.unchanged;
  tables = subst (AreTablesIn new) same two.tables;
}

pub keeps_all : (first end : ℕ) (t : Tables) → KeepsWithin first end t t
keeps_all first end t = record { only = λ at aligned kept. inl kept }

pub keeps_wider : (a b first end : ℕ) (old new : Tables) → first ≤ a → b ≤ end → KeepsWithin a b old new → KeepsWithin first end old new
keeps_wider a b first end old new from to keeps = record { only = λ at aligned kept. wider at (keeps.only at aligned kept) }
  where
    wider : (at : ℕ) → (is_kept at old.cache ≡ true) ⊎ ((a ≤ at) × (at + 4096 ≤ b)) → (is_kept at old.cache ≡ true) ⊎ ((first ≤ at) × (at + 4096 ≤ end))
    wider at (inl was) = inl was
    wider at (inr (lo, hi)) = inr (omega (arith, from, lo), omega (arith, to, hi))

pub keeps_then : (first end : ℕ) (old mid new : Tables) → KeepsWithin first end old mid → KeepsWithin first end mid new → KeepsWithin first end old new
keeps_then first end old mid new one two = record { only = λ at aligned kept. before at aligned (two.only at aligned kept) }
  where
    before : (at : ℕ) → at % 4096 ≡ 0 → (is_kept at mid.cache ≡ true) ⊎ ((first ≤ at) × (at + 4096 ≤ end)) → (is_kept at old.cache ≡ true) ⊎ ((first ≤ at) × (at + 4096 ≤ end))
    before at aligned (inl was) = one.only at aligned was
    before at aligned (inr is) = inr is
