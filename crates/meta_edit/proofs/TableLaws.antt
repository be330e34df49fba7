-- Entries of a table that are counted.
use Rattle.std.proofs.Common.{◌≡◌, ℕ, zero, suc, ◌+◌, ◌-◌, ◌<◌, Bool, cond, List, length, refl, ap, ◌∙◌}
use Rattle.std.specs.Prelude.{count_by}
use Rattle.std.proofs.lemmas.List.Sums.{sum_by-cons}
use Rattle.vhdx_format.specs.declared.metadata.MetadataEntry.{MetadataEntry}
use Rattle.vhdx_format.specs.MetadataTables.{metadata_entry, metadata_entries_from}
use Rattle.vhdx_format.proofs.Entries.{next_metadata_entry}

pub length_entries : (table : List ℕ) (i n : ℕ) → length (metadata_entries_from table i n) ≡ n
unfolding metadata_entries_from
length_entries table i zero = refl
length_entries table i (suc n) = ap suc (length_entries table (i + 1) n)

-- the entries that pass a test are counted one after another
pub next_counted : (p : MetadataEntry → Bool) (table : List ℕ) (i n : ℕ) → i < n
    → count_by p (metadata_entries_from table i (n - i)) ≡ cond (p (metadata_entry table i)) 1 0 + count_by p (metadata_entries_from table (i + 1) (n - (i + 1)))
next_counted p table i n h =
    ap (count_by p) (next_metadata_entry table i n h) ∙ sum_by-cons (λ x. cond (p x) 1 0) (metadata_entry table i) (metadata_entries_from table (i + 1) (n - (i + 1)))
