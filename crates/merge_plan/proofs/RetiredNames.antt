-- The pages that give a file another retired name, or none.
use Rattle.std.proofs.Common.{◌≡◌, ℕ, ◌+◌, ◌<◌, ◌≤◌, false, true, List, [], length, find, Option, Some, None, refl, sym, ap, subst, ◌∙◌, arith}
use Rattle.std.specs.Prelude.{Result, Ok, Err, IsOk, is_none, is_ok, is_some, nat_le, option_and_then}
use Rattle.std.proofs.lemmas.Bool.{le-leb}
use Rattle.store_model.proofs.Parts.{length-part, part-overwritten}
use Rattle.store_model.specs.Disk.{Disk, LeavesBy, ReadFailed, WhereTold}
use Rattle.store_model.specs.File.{seen}
use Rattle.store_model.specs.Trace.{Trace, file_of}
use Rattle.vx_base.specs.declared.parts.Header.{Header}
use Rattle.vx_base.specs.declared.parts.Parts.{Parts}
use Rattle.vhdx_format.specs.declared.TheConstants.{RETIRED}
use Rattle.vhdx_format.specs.declared.locator.Pair.{Pair}
use Rattle.vhdx_format.specs.declared.log_entry.Page.{Page}
use Rattle.vhdx_format.specs.declared.metadata.Metadata.{Metadata}
use Rattle.vhdx_format.specs.declared.metadata.MetadataEntry.{MetadataEntry}
use Rattle.vhdx_format.specs.FileParts.{read_parts}
use Rattle.vhdx_format.specs.Locators.{locator_bytes}
use Rattle.vhdx_format.specs.MetadataTables.{is_bad_item, is_bad_name, item_value, known_items, metadata_entries, metadata_of, metadata_table, missing_item, read_entries, read_items, read_metadata, retired_in}
use Rattle.vhdx_format.specs.Rules.{BadItem, BrokenRule, MissingItem, ◌>>=◌}
use Rattle.vhdx_format.specs.Texts.{text_units}
use Rattle.vhdx_format.specs.Updates.{updated, with_item}
use Rattle.vhdx_format.proofs.WrittenMetadata.{name_read}
use Rattle.vhdx_format.proofs.WrittenTexts.{length-units_bytes, text_units_few}
use Rattle.parent_locator.proofs.Paths.{name_short}
use Rattle.layer_session.proofs.Numbers.{items_read, metadata_read}
use Rattle.link_rules.specs.declared.linked.LinkedFile.{LinkedFile}
use Rattle.meta_edit.specs.declared.ItemKind.TheVariants.{Locator, Retired}
use Rattle.meta_edit.specs.declared.MetaRefusal.{MetaRefusal}
use Rattle.meta_edit.specs.declared.MetaRefusal.TheVariants as meta
use Rattle.meta_edit.specs.Edits.{Answers, Gives, IsNotTooLarge, IsSound, NamesFile, changed_item, fault_of, is_of_kind, region_of, retired_value}
use Rattle.meta_edit.specs.Pages.{ArePages, HasMetadata, laid_file, with_pages}
use Rattle.meta_edit.proofs.ItemLists.{table_read}
use Rattle.meta_edit.proofs.ItemRead.{fine_retired, item_read}
use Rattle.meta_edit.proofs.MoreItems.{item_absent}
use Rattle.meta_edit.proofs.NamesRead.{empty_read, named_good}
use Rattle.meta_edit.proofs.PageLaws.{length-with_pages, turns_alike}
use Rattle.meta_edit.proofs.Sound.{bound_ok, keeps_table, unless_some_ok}
use Rattle.merge_plan.specs.Attached.{IsAsOpened}
use Rattle.merge_plan.specs.Converting.{of_meta}
use Rattle.merge_plan.specs.LeafMerging.{GivesName, HasClearing, HasNameRoom, HasRetiring, LacksNameRoom, named_region}
use Rattle.merge_plan.specs.LeafSteps.{ClearingFails, HasNaming, IsNameOrNone, LacksNaming, NamingFails}
use Rattle.merge_plan.specs.Merging.{GivesLocator, HasPages}
use Rattle.merge_plan.specs.declared.refusal.PrepareRefusal.{PrepareRefusal}
use Rattle.merge_plan.specs.declared.refusal.PrepareRefusal.TheVariants as refusals
use Rattle.merge_plan.proofs.Opened.{lie_within}
use Rattle.merge_plan.proofs.Paging.{laid_none}

-- ---- the value of a retired name

says : (to : Option (List ℕ)) → IsNameOrNone to → retired_in (retired_value to) ≡ to
says None h = empty_read [] refl
says (Some name) h = name_read name h.0 h.1

good : (to : Option (List ℕ)) → IsNameOrNone to → is_bad_name (retired_value to) ≡ false
good None h = refl
good (Some name) h = named_good (retired_value (Some name)) name (says (Some name) h)

short : (to : Option (List ℕ)) → IsNameOrNone to → length (retired_value to) ≤ 65536
short None h = omega arith
short (Some name) h = omega (arith, length-units_bytes (text_units name), text_units_few name h.1, name_short name h.0)

-- ---- what an update answers

gives : (parts : Parts) (file : List ℕ) (to : Option (List ℕ)) (pages : List Page) (o : Option (List ℕ)) → HasMetadata parts → IsNameOrNone to → parts.meta_at + parts.meta_len ≤ length file → ArePages parts pages
    → named_region to (region_of parts file) ≡ o → Gives parts file o pages → (m : Metadata) → read_metadata (region_of parts file) parts.bat_len ≡ Ok m → GivesName parts (region_of parts file) to pages
gives parts file to pages None h named fits are e g m read = absurd g
gives parts file to pages (Some new) h named fits are e g m read =
    let whole : length (region_of parts file) ≡ parts.meta_len = length-part file parts.meta_at parts.meta_len fits in
    let r = λ (n : Metadata) (read_n : read_metadata (region_of parts file) parts.bat_len ≡ Ok n).
    item_read Retired (region_of parts file) new (retired_value to) parts.bat_len n read_n (omega (arith, whole, h.table)) (omega (arith, whole, h.short))
    (short to named) (λ items. fine_retired items parts.bat_len (retired_value to) (good to named)) e in
    let long : length new ≡ parts.meta_len = (r m read).long ∙ whole in
    record {
      region = new;
      changed = e;
      long = long;
      turn = λ other x same. turns_alike parts.meta_at parts.meta_len pages file other new are h.at h.len fits x same g long;
      reads = λ n read_n. (r n read_n).now ∙ ap (λ (z : Option (List ℕ)). Ok (record n { retired = z })) (says to named);
    }

is_read : {A E : Type 0} (r : Result A E) → IsOk r → (a : A) × (r ≡ Ok a)
is_read (Ok m) h = (m, refl)
is_read (Err e) h = cc

-- a file with pages laid over it is as long as before
laid_fits : (trace : Trace) (number : ℕ) (file : LinkedFile) (over : List Page) → IsAsOpened trace number file → ArePages file.parts over → file.parts.meta_at + file.parts.meta_len ≤ length (laid_file trace number over)
laid_fits trace number file over o are =
    let fits = (lie_within trace number file o).metadata in
    omega (arith, fits, length-with_pages file.parts.meta_at file.parts.meta_len over (seen (file_of trace number)) are fits)

pub has_naming : (disk : Disk) (number : ℕ) (file : LinkedFile) (over : List Page) (to : Option (List ℕ)) (pages : List Page) → WhereTold disk.told (λ trace. IsAsOpened trace number file) → HasMetadata file.parts
    → ArePages file.parts over → IsSound file.parts number over disk → IsNameOrNone to → ArePages file.parts pages → length pages ≤ 22
    → Answers file.parts number over disk (λ bytes. changed_item Retired file.parts (retired_value to) bytes) (Ok pages) → HasNaming file.parts number over disk to pages
has_naming disk number file over to pages opened h laid sound named are few answers = record {
  pages_are = are;
  few = few;
  told = λ t told.
      let bytes = laid_file t number over in
      let m = is_read (read_metadata (region_of file.parts bytes) file.parts.bat_len) (sound t told) in
      gives file.parts bytes to pages (named_region to (region_of file.parts bytes)) h named (laid_fits t number file over (opened t told) laid) are refl (answers t told) m.0 m.1;
}

pub naming_fails : (old new : Disk) (number : ℕ) (parts : Parts) (over : List Page) (to : Option (List ℕ)) (refusal : MetaRefusal) → number < old.files
    → Answers parts number over old (λ bytes. changed_item Retired parts (retired_value to) bytes) (Err refusal)
    → IsNotTooLarge refusal → NamesFile number refusal → LeavesBy number old new (fault_of refusal) → NamingFails parts number over old new to (of_meta refusal)
naming_fails old new number parts over to (meta.LocatorTooLarge len) there answers small names leaves = absurd small
naming_fails old new number parts over to (meta.MetadataFull full) there answers small names leaves = (names, answers, leaves)
naming_fails old new number parts over to (meta.Store fault) there answers small names leaves =
    (subst (λ n. n < old.files) (sym leaves.of_file) there, subst (λ n. ReadFailed n old new fault) (sym leaves.of_file) leaves)
naming_fails old new number parts over to meta.NoRoom there answers small names leaves = leaves

-- ---- over the pages of a new locator

-- the region that those pages give
pub linked_region : (parts : Parts) (bytes : List ℕ) (pairs : List Pair) (pages : List Page) → parts.meta_at + parts.meta_len ≤ length bytes → (g : GivesLocator parts bytes pairs pages)
    → region_of parts (with_pages pages bytes) ≡ g.region
linked_region parts bytes pairs pages fits g =
    ap (λ (z : List ℕ). region_of parts z) (g.turn bytes fits refl) ∙ part-overwritten bytes g.region parts.meta_at parts.meta_len (omega (arith, fits)) (sym g.long)

module _ (disk : Disk) (number : ℕ) (file : LinkedFile) (pairs : List Pair) (over : List Page) (opened : WhereTold disk.told (λ trace. IsAsOpened trace number file)) (has : HasPages file.parts number disk pairs over) where
  -- the metadata are read with them
  pub sound_over : IsSound file.parts number over disk
  sound_over = λ t told.
      let bytes = seen (file_of t number) in
      let o = opened t told in
      let g = has.told t told in
      let m = metadata_read o.reads.header bytes file.parts o.reads.numbers in
      let same : read_metadata (region_of file.parts (laid_file t number over)) file.parts.bat_len ≡ Ok (record m.0 { locator = Some (locator_bytes pairs) }) =
      ap (λ (z : List ℕ). read_metadata z file.parts.bat_len) (linked_region file.parts bytes pairs over (lie_within t number file o).metadata g) ∙ g.reads m.0 m.1 in
      rw same refl

  -- where a region has the locator, it is the one that they give
  over_is : (t : Trace) → disk.told ≡ Some t → (region : List ℕ) → changed_item Locator file.parts (locator_bytes pairs) (seen (file_of t number)) ≡ Some region → region_of file.parts (laid_file t number over) ≡ region
  over_is t told region e =
      let g = has.told t told in
      let same : g.region ≡ region = (let both : Some g.region ≡ Some region = sym g.changed ∙ e in cc) in
      linked_region file.parts (seen (file_of t number)) pairs over (lie_within t number file (opened t told)).metadata g ∙ same

  pub has_retiring : (name : List ℕ) (pages : List Page) → HasNaming file.parts number over disk (Some name) pages → HasRetiring file.parts number disk pairs name pages
  has_retiring name pages n = record {
    pages_are = n.pages_are;
    few = n.few;
    told = λ t told region e. subst (λ (r : List ℕ). GivesName file.parts r (Some name) pages) (over_is t told region e) (n.told t told);
  }

  pub lacks_name : (name : List ℕ) → LacksNaming file.parts number over disk (Some name) → LacksNameRoom file.parts number disk pairs name
  lacks_name name lacks = λ t told region e. subst (λ (r : List ℕ). named_region (Some name) r ≡ None) (over_is t told region e) (lacks t told)

  pub has_name_room : (name : List ℕ) (pages : List Page) → HasNaming file.parts number over disk (Some name) pages → HasNameRoom file.parts number disk pairs name
  has_name_room name pages n = λ t told region e.
      subst (λ (r : List ℕ). is_some (named_region (Some name) r) ≡ true) (over_is t told region e) (ap is_some (n.told t told).changed)

-- ---- a retired name is cleared in its place

-- what the metadata say of a retired name stands in an item
none_retired : (r : List ℕ) (bat_len : ℕ) (m : Metadata) → read_metadata r bat_len ≡ Ok m → is_none (item_value (known_items r (metadata_entries (metadata_table r))) RETIRED) ≡ true → m.retired ≡ None
unfolding read_metadata read_items metadata_of
none_retired r bat_len m read absent =
    let es = metadata_entries (metadata_table r) in
    let items = known_items r es in
    let first = bound_ok (read_entries (metadata_table r) (length r)) (λ entries. read_items (known_items r entries) bat_len) (ap is_ok read) in
    let k = keeps_table (metadata_table r) (length r) first.0 first.1 in
    let whole : read_entries (metadata_table r) (length r) ≡ Ok es = table_read (metadata_table r) (length r) es refl k.head k.good k.known in
    let was : read_items items bat_len ≡ Ok m = sym (ap (λ (x : Result (List MetadataEntry) BrokenRule). x >>= λ entries. read_items (known_items r entries) bat_len) whole) ∙ read in
    let a = unless_some_ok (missing_item items) MissingItem _ m was in
    let b = unless_some_ok (find (is_bad_item items bat_len) items) (λ item. BadItem item.id) _ m a.1 in
    let same : metadata_of items ≡ m = (let both : Ok (metadata_of items) ≡ Ok m = b.1 in cc) in
    ap (λ (x : Metadata). x.retired) (sym same) ∙ ap (option_and_then retired_in) (is_absent (item_value items RETIRED) absent)
  where
    is_absent : (o : Option (List ℕ)) → is_none o ≡ true → o ≡ None
    is_absent None h = refl
    is_absent (Some x) h = cc

clears : (header : Header) (bytes : List ℕ) (parts : Parts) → read_parts header bytes ≡ Ok parts → is_some parts.retired ≡ true → is_some (named_region None (region_of parts bytes)) ≡ true
unfolding updated
clears header bytes parts numbers some = by_found (find (is_of_kind Retired) (metadata_entries (metadata_table (region_of parts bytes)))) refl
  where
    by_found : (o : Option MetadataEntry) → find (is_of_kind Retired) (metadata_entries (metadata_table (region_of parts bytes))) ≡ o
        → is_some (with_item (region_of parts bytes) (metadata_entries (metadata_table (region_of parts bytes))) RETIRED 1 [] o) ≡ true
    by_found (Some old) e = let in_place : nat_le 0 old.len ≡ true = le-leb 0 old.len (omega arith) in rw in_place refl
    by_found None e =
        let m = metadata_read header bytes parts numbers in
        let none : parts.retired ≡ None = sym (items_read header bytes parts m.0 numbers m.1).1 ∙ none_retired (region_of parts bytes) parts.bat_len m.0 m.1 (item_absent Retired (region_of parts bytes) _ e) in
        let never : true ≡ false = sym some ∙ ap is_some none in
        cc

pub has_clearing : (parts : Parts) (number : ℕ) (disk : Disk) (pages : List Page) → HasNaming parts number [] disk None pages → HasClearing parts number disk pages
has_clearing parts number disk pages n = record {
  pages_are = n.pages_are;
  few = n.few;
  told = λ t told. subst (λ (z : List ℕ). GivesName parts (region_of parts z) None pages) (laid_none t number) (n.told t told);
}

untold : (o : Option Trace) → ((t : Trace) → o ≡ Some t → ⊥) → o ≡ None
untold None h = refl
untold (Some t) h = absurd (h t refl)

pub clearing_fails : (old new : Disk) (target : LinkedFile) (refusal : PrepareRefusal) → WhereTold old.told (λ trace. IsAsOpened trace 1 target) → is_some target.parts.retired ≡ true
    → NamingFails target.parts 1 [] old new None refusal → ClearingFails target old new refusal
clearing_fails old new target refusals.NotInChain opened some h = absurd h
clearing_fails old new target refusals.IsBase opened some h = absurd h
clearing_fails old new target refusals.LeafSource opened some h = absurd h
clearing_fails old new target (refusals.LocatorTooLarge len) opened some h = absurd h
clearing_fails old new target (refusals.MetadataFull file) opened some h = (
  h.0,
  untold old.told (λ t told.
      let o = opened t told in
      let bytes = seen (file_of t 1) in
      let lacks : named_region None (region_of target.parts bytes) ≡ None = subst (λ (z : List ℕ). named_region None (region_of target.parts z) ≡ None) (laid_none t 1) (h.1 t told) in
      let never : true ≡ false = sym (clears o.reads.header bytes target.parts o.reads.numbers some) ∙ ap is_some lacks in
      cc),
  some,
  h.2,
)
clearing_fails old new target (refusals.IdUnfit id) opened some h = absurd h
clearing_fails old new target (refusals.Store fault) opened some h = h
clearing_fails old new target refusals.NoRoom opened some h = h
