-- What stands after a fault, or want of memory; and values that fit or don't.
use Rattle.std.proofs.Common.{◌≡◌, ℕ, ◌+◌, ◌<◌, ◌≤◌, nat_lt, Bool, true, false, List, length, refl, ap, sym, ◌∙◌, arith}
use Rattle.std.specs.Prelude.{Option, Some, None, Err, find}
use Rattle.std.proofs.lemmas.Bool.{lt-ltb, le-ltb}
use Rattle.vx_base.proofs.ByteLists.{length-overwritten}
use Rattle.store_model.specs.Disk.{Disk, LeavesBy}
use Rattle.vx_base.specs.Fields.{written_over}
use Rattle.vx_base.specs.declared.parts.Parts.{Parts}
use Rattle.vx_base.specs.Fields.{u16_bytes}
use Rattle.vhdx_format.specs.declared.metadata.MetadataEntry.{MetadataEntry}
use Rattle.vhdx_format.specs.MetadataTables.{metadata_entries, metadata_entry_bytes, metadata_table}
use Rattle.vhdx_format.specs.Updates.{with_value, with_added, with_new, with_item, entry_place, offset_of, updated}
use Rattle.meta_edit.specs.declared.ItemKind.{ItemKind}
use Rattle.meta_edit.specs.declared.ItemKind.TheVariants.{Locator, Retired}
use Rattle.meta_edit.specs.declared.MetaRefusal.{MetaRefusal}
use Rattle.meta_edit.specs.declared.MetaRefusal.TheVariants.{LocatorTooLarge, MetadataFull, Store, NoRoom}
use Rattle.meta_edit.specs.Edits.{changed_item, flags_of, id_of, is_of_kind, region_of, AnswersUpdate, IsNotTooLarge, NamesFile, fault_of}
use Rattle.meta_edit.specs.Steps.{added_there, found_in_table, item_in_table, IsFromOutside}

pub outside_answers : (refusal : MetaRefusal) (parts : Parts) (file : List ℕ) (region : Option (List ℕ)) → IsFromOutside refusal → AnswersUpdate parts file region (Err refusal)
outside_answers (LocatorTooLarge len) parts file region h = tt
outside_answers (MetadataFull full) parts file region h = absurd h
outside_answers (Store fault) parts file region h = tt
outside_answers NoRoom parts file region h = tt

pub outside_names : (refusal : MetaRefusal) (file : ℕ) (old new : Disk) → IsFromOutside refusal → LeavesBy file old new (fault_of refusal) → NamesFile file refusal × IsNotTooLarge refusal
outside_names (LocatorTooLarge len) file old new h l = absurd h
outside_names (MetadataFull full) file old new h l = absurd h
outside_names (Store fault) file old new h l = (l.of_file, tt)
outside_names NoRoom file old new h l = (tt, tt)

pub value_none : (r v : List ℕ) (n place : ℕ) → length r ≡ n → n < place + length v → with_value r place v ≡ None
value_none r v n place e h =
    let more : nat_lt (length r) (place + length v) ≡ true = lt-ltb (length r) (place + length v) (omega (arith, e, h)) in
    rw more refl

pub value_some : (r v : List ℕ) (n place : ℕ) → length r ≡ n → place + length v ≤ n → with_value r place v ≡ Some (written_over r place v)
value_some r v n place e h =
    let fits : nat_lt (length r) (place + length v) ≡ false = le-ltb (length r) (place + length v) (omega (arith, e, h)) in
    rw fits refl

pub length_entry : (kind : ItemKind) (at len flags : ℕ) → length (metadata_entry_bytes (id_of kind) at len flags) ≡ 32
length_entry Locator at len flags = refl
length_entry Retired at len flags = refl

-- an entry more leaves the region's length
pub length_added : (r entry : List ℕ) (n count : ℕ) → length r ≡ n → 65536 ≤ n → count < 2047 → length entry ≡ 32
    → length (written_over (written_over r 10 (u16_bytes (count + 1))) (entry_place (count + 1)) entry) ≡ n
length_added r entry n count e w c l =
    let a : length (written_over r 10 (u16_bytes (count + 1))) ≡ length r = length-overwritten r (u16_bytes (count + 1)) 10 (two (omega (arith, e, w))) in
    length-overwritten (written_over r 10 (u16_bytes (count + 1))) entry (entry_place (count + 1)) (omega (arith, a, e, w, c, l)) ∙ a ∙ e
  where
    two : 12 ≤ length r → 10 + length (u16_bytes (count + 1)) ≤ length r
    two h = h

-- where a new item goes, and that it doesn't fit
pub new_some : (kind : ItemKind) (r v entry : List ℕ) (full : Bool) (n count place p : ℕ) → full ≡ false → length r ≡ n → 65536 ≤ n → count < 2047
    → p ≡ place → entry ≡ metadata_entry_bytes (id_of kind) (offset_of p v) (length v) (flags_of kind) → place + length v ≤ n
    → with_new r full count place (id_of kind) (flags_of kind) v ≡ Some (added_there r count entry p v)
new_some kind r v entry full n count place p f e w c same is fits =
    rw f (
    value_some (with_added r count (id_of kind) (offset_of place v) (length v) (flags_of kind)) v n place
    (length_added r (metadata_entry_bytes (id_of kind) (offset_of place v) (length v) (flags_of kind)) n count e w c (length_entry kind (offset_of place v) (length v) (flags_of kind))) fits
    ∙ ap (λ (z : ℕ). Some (added_there r count (metadata_entry_bytes (id_of kind) (offset_of z v) (length v) (flags_of kind)) z v)) (sym same)
    ∙ ap (λ (z : List ℕ). Some (added_there r count z p v)) (sym is)
    )

pub new_none : (kind : ItemKind) (r v : List ℕ) (full : Bool) (n count place : ℕ) → full ≡ false → length r ≡ n → 65536 ≤ n → count < 2047
    → n < place + length v → with_new r full count place (id_of kind) (flags_of kind) v ≡ None
new_none kind r v full n count place f e w c more =
    rw f (
    value_none (with_added r count (id_of kind) (offset_of place v) (length v) (flags_of kind)) v n place
    (length_added r (metadata_entry_bytes (id_of kind) (offset_of place v) (length v) (flags_of kind)) n count e w c (length_entry kind (offset_of place v) (length v) (flags_of kind))) more
    )

-- going by the table is going by the region
by_found : (kind : ItemKind) (region value : List ℕ) (o : Option MetadataEntry)
    → found_in_table kind (metadata_table region) value region o ≡ with_item region (metadata_entries (metadata_table region)) (id_of kind) (flags_of kind) value o
by_found kind region value (Some old) = refl
by_found kind region value None = refl

pub by_table : (kind : ItemKind) (parts : Parts) (value file table : List ℕ) → table ≡ metadata_table (region_of parts file)
    → item_in_table kind table value (region_of parts file) ≡ changed_item kind parts value file
unfolding updated
by_table kind parts value file table e =
    ap (λ (z : List ℕ). item_in_table kind z value (region_of parts file)) e
    ∙ by_found kind (region_of parts file) value (find (is_of_kind kind) (metadata_entries (metadata_table (region_of parts file))))
