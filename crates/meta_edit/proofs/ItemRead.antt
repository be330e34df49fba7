-- What a region is read as once an item, which was there or wasn't, is changed.
use Rattle.std.proofs.Common.{◌≡◌, ℕ, ◌^◌, ◌<◌, ◌≤◌, false, List, Option, Some, None, find, length, refl, ap}
use Rattle.std.specs.Prelude.{Ok, is_ok}
use Rattle.vhdx_format.specs.declared.TheConstants.{PARENT_LOCATOR, RETIRED}
use Rattle.vhdx_format.specs.declared.metadata.Item.{Item}
use Rattle.vhdx_format.specs.declared.metadata.Metadata.{Metadata}
use Rattle.vhdx_format.specs.declared.metadata.MetadataEntry.{MetadataEntry}
use Rattle.vhdx_format.specs.MetadataTables.{is_bad_item, is_bad_name, known_items, metadata_entries, metadata_table, read_entries, read_items, read_metadata}
use Rattle.vhdx_format.specs.Updates.{updated, with_item}
use Rattle.meta_edit.specs.declared.ItemKind.{ItemKind}
use Rattle.meta_edit.specs.Edits.{id_of, flags_of, is_of_kind}
use Rattle.meta_edit.proofs.Sound.{KeepsTable, bound_ok, keeps_table}
use Rattle.meta_edit.proofs.Written.{IsReadWith, changed_read}
use Rattle.meta_edit.proofs.Added.{added_read}

pub fine_locator : (items : List Item) (bat_len : ℕ) (v : List ℕ) → is_bad_item items bat_len (record { id = PARENT_LOCATOR; value = v }) ≡ false
unfolding is_bad_item
fine_locator items bat_len v = refl

pub fine_retired : (items : List Item) (bat_len : ℕ) (v : List ℕ) → is_bad_name v ≡ false → is_bad_item items bat_len (record { id = RETIRED; value = v }) ≡ false
unfolding is_bad_item
fine_retired items bat_len v h = h

pub item_read : (kind : ItemKind) (r new v : List ℕ) (bat_len : ℕ) (m : Metadata) → read_metadata r bat_len ≡ Ok m → 65536 ≤ length r → length r < 2 ^ 32 → length v ≤ 65536
    → ((items : List Item) → is_bad_item items bat_len (record { id = id_of kind; value = v }) ≡ false)
    → updated r (is_of_kind kind) (id_of kind) (flags_of kind) v ≡ Some new → IsReadWith kind v (length r) new bat_len m
unfolding updated read_metadata
item_read kind r new v bat_len m read w short most fine is = by_found (find (is_of_kind kind) es) refl is
  where
    es : List MetadataEntry
    es = metadata_entries (metadata_table r)

    k : KeepsTable (metadata_table r) (length r)
    k =
        let first = bound_ok (read_entries (metadata_table r) (length r)) (λ entries. read_items (known_items r entries) bat_len) (ap is_ok read) in
        keeps_table (metadata_table r) (length r) first.0 first.1

    by_found : (o : Option MetadataEntry) → find (is_of_kind kind) es ≡ o → with_item r es (id_of kind) (flags_of kind) v o ≡ Some new → IsReadWith kind v (length r) new bat_len m
    by_found (Some old) found e = changed_read kind r new v old bat_len m k found w short most read fine e
    by_found None none e = added_read kind r v bat_len m k none w short most read fine new e
