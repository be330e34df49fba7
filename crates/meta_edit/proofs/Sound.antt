-- What metadata that break no rule keep.
use Rattle.std.proofs.Common.{◌≡◌, ℕ, ◌≤◌, nat_le, not, Bool, true, false, cond, List, [], ◌∷◌, length, Option, Some, None, find, refl, sym, ap, ◌∙◌}
use Rattle.std.specs.Prelude.{Result, Ok, Err, IsOk, take, codes}
use Rattle.std.specs.Str.{bytes_eq}
use Rattle.std.proofs.lemmas.Bool.{leb-true, and_parts}
use Rattle.metadata_table.proofs.Places.{good-place}
use Rattle.vhdx_format.proofs.FileLemmas.{unless_ok}
use Rattle.vx_base.specs.Fields.{u16_at}
use Rattle.vhdx_format.specs.declared.metadata.MetadataEntry.{MetadataEntry}
use Rattle.vhdx_format.specs.Rules.{BadMetadataTable, UnknownItem, ◌>>=◌, unless_some}
use Rattle.vhdx_format.specs.MetadataTables.{is_metadata_table, is_bad_entry, is_outside, is_unknown_required_item, metadata_entries, metadata_table, known_items, read_entries, read_items, read_metadata}
use Rattle.vhdx_format.proofs.MetadataLaws.{none_next}
use Rattle.meta_edit.specs.Steps.{IsSoundTable}

pub bound_ok : {A B E : Type 0} (r : Result A E) (f : A → Result B E) → IsOk (r >>= f) → (a : A) × (r ≡ Ok a)
bound_ok (Ok a) f h = (a, refl)
bound_ok (Err e) f h = cc

pub unless_some_ok : {A X E : Type 0} (o : Option X) (rule : X → E) (rest : Result A E) (a : A) → unless_some o rule rest ≡ Ok a → (o ≡ None) × (rest ≡ Ok a)
unless_some_ok None rule rest a h = (refl, h)
unless_some_ok (Some x) rule rest a h = cc

-- a table that breaks no rule
pub record KeepsTable (table : List ℕ) (len : ℕ) : Type 0 where
  pub head : is_metadata_table table ≡ true
  pub count : u16_at table 10 ≤ 2047
  pub good : find (is_bad_entry len (metadata_entries table)) (metadata_entries table) ≡ None
  pub known : find is_unknown_required_item (metadata_entries table) ≡ None

not_not : (b : Bool) → not b ≡ false → b ≡ true
not_not true h = refl
not_not false h = cc

pub keeps_table : (table : List ℕ) (len : ℕ) (es : List MetadataEntry) → read_entries table len ≡ Ok es → KeepsTable table len
unfolding read_entries is_metadata_table
keeps_table table len es h =
    let a = unless_ok (not (is_metadata_table table)) (BadMetadataTable 0) _ es h in
    let b = unless_some_ok (find (is_bad_entry len (metadata_entries table)) (metadata_entries table)) (λ entry. BadMetadataTable entry.index) _ es a.1 in
    let c = unless_some_ok (find is_unknown_required_item (metadata_entries table)) (λ entry. UnknownItem entry.id) _ es b.1 in
    let head : is_metadata_table table ≡ true = not_not (is_metadata_table table) a.0 in
    record {
      head = head;
      count = leb-true (u16_at table 10) 2047 (and_parts (bytes_eq (take 8 table) (codes "metadata")) (nat_le (u16_at table 10) 2047) head).1;
      good = b.0;
      known = c.0;
    }

-- what passes no test among those that break none
pub found_good : (p q : MetadataEntry → Bool) (xs : List MetadataEntry) (x : MetadataEntry) → find q xs ≡ None → find p xs ≡ Some x → q x ≡ false
found_good p q [] x none some = cc
found_good p q (y ∷ ys) x none some =
    let n = none_next q y ys (y ∷ ys) refl none in
    by_first (p y) some n.0 (found_good p q ys x n.1)
  where
    by_first : (b : Bool) → cond b (Some y) (find p ys) ≡ Some x → q y ≡ false → (find p ys ≡ Some x → q x ≡ false) → q x ≡ false
    by_first true e h rest = let same : y ≡ x = cc in ap q (sym same) ∙ h
    by_first false e h rest = rest e

pub sound_table : (region : List ℕ) (bat_len n : ℕ) → length region ≡ n → IsOk (read_metadata region bat_len) → IsSoundTable n (metadata_table region)
unfolding read_metadata
sound_table region bat_len n e h =
    let read = bound_ok (read_entries (metadata_table region) (length region)) (λ entries. read_items (known_items region entries) bat_len) h in
    let k = keeps_table (metadata_table region) (length region) read.0 read.1 in
    record {
      count = k.count;
      placed = λ p entry found. ap (λ (z : ℕ). is_outside z entry) (sym e)
          ∙ good-place (length region) (metadata_entries (metadata_table region)) entry (found_good p (is_bad_entry (length region) (metadata_entries (metadata_table region))) (metadata_entries (metadata_table region)) entry k.good found);
    }
