-- The pages that give a file another locator.
use Rattle.std.proofs.Common.{◌≡◌, ℕ, ◌+◌, ◌^◌, ◌<◌, ◌≤◌, List, [], length, Option, Some, None, refl, sym, ap, subst, ◌∙◌, arith}
use Rattle.std.specs.Prelude.{Ok, Err, is_some}
use Rattle.store_model.proofs.Parts.{length-part}
use Rattle.store_model.specs.Disk.{Disk, LeavesBy, ReadFailed, WhereTold}
use Rattle.store_model.specs.File.{seen}
use Rattle.store_model.specs.Trace.{Trace, file_of}
use Rattle.vx_base.specs.declared.parts.Header.{Header}
use Rattle.vx_base.specs.declared.parts.Parts.{Parts}
use Rattle.vhdx_format.specs.declared.locator.Pair.{Pair}
use Rattle.vhdx_format.specs.declared.log_entry.Page.{Page}
use Rattle.vhdx_format.specs.declared.metadata.Metadata.{Metadata}
use Rattle.vhdx_format.specs.FileParts.{HasNumbers, parts_of, read_parts}
use Rattle.vhdx_format.specs.Locators.{locator_bytes, locator_len, longest_locator}
use Rattle.vhdx_format.specs.MetadataTables.{metadata_region, read_metadata, served_sectors}
use Rattle.vhdx_format.specs.Rules.{◌>>=◌}
use Rattle.vhdx_format.proofs.WrittenLocators.{length-locator}
use Rattle.layer_session.proofs.Numbers.{is_read, of_bind}
use Rattle.log_write.proofs.Entries.{megabytes}
use Rattle.link_rules.specs.declared.linked.LinkedFile.{LinkedFile}
use Rattle.meta_edit.specs.declared.ItemKind.TheVariants.{Locator}
use Rattle.meta_edit.specs.declared.MetaRefusal.{MetaRefusal}
use Rattle.meta_edit.specs.declared.MetaRefusal.TheVariants as meta
use Rattle.meta_edit.specs.Edits.{Answers, Gives, IsInside, IsNotTooLarge, IsSound, NamesFile, changed_item, fault_of, region_of}
use Rattle.meta_edit.specs.Pages.{ArePages, HasMetadata, laid_file}
use Rattle.meta_edit.proofs.ItemRead.{fine_locator, item_read}
use Rattle.meta_edit.proofs.PageLaws.{none_over, turns_alike}
use Rattle.merge_plan.specs.Attached.{IsAsOpened}
use Rattle.merge_plan.specs.Converting.{of_meta}
use Rattle.merge_plan.specs.Merging.{GivesLocator, HasPages, HasRoom}
use Rattle.merge_plan.specs.Steps.{UpdateFails}
use Rattle.merge_plan.proofs.Opened.{lie_within}

-- ---- the metadata of a file as opening left it

metadata_read : (header : Header) (bytes : List ℕ) (parts : Parts) → read_parts header bytes ≡ Ok parts → (m : Metadata) × (read_metadata (region_of parts bytes) parts.bat_len ≡ Ok m)
unfolding parts_of
metadata_read header bytes parts h =
    let d = is_read header bytes parts h in
    let b = of_bind (read_metadata (metadata_region bytes d.regions) d.regions.bat_len) (λ metadata. served_sectors metadata >>= λ served. Ok (parts_of header d.regions served)) parts d.rest in
    let c = of_bind (served_sectors b.0) (λ served. Ok (parts_of header d.regions served)) parts b.2 in
    let e : parts_of header d.regions c.0 ≡ parts = cc in
    (b.0, subst (λ (p : Parts). read_metadata (region_of p bytes) p.bat_len ≡ Ok b.0) e b.1)

-- the place of the metadata in a file that breaks no rule
pub has_metadata : (parts : Parts) → HasNumbers parts → parts.meta_len < 2 ^ 32 → HasMetadata parts
has_metadata parts n short =
    let at = megabytes parts.meta_at n.metadata.at_megabyte in
    let len = megabytes parts.meta_len n.metadata.megabytes in
    record { at = omega (arith, at.0); len = omega (arith, len.0); table = omega (arith, len.1); end = n.metadata.end; short = short }

-- what a read gives of it, with no pages laid over it
pub laid_none : (trace : Trace) (number : ℕ) → laid_file trace number [] ≡ seen (file_of trace number)
laid_none trace number = none_over (seen (file_of trace number))

pub is_inside : (disk : Disk) (number : ℕ) (file : LinkedFile) → WhereTold disk.told (λ trace. IsAsOpened trace number file) → IsInside file.parts number disk
is_inside disk number file opened = λ t told. (lie_within t number file (opened t told)).metadata

pub is_sound : (disk : Disk) (number : ℕ) (file : LinkedFile) → WhereTold disk.told (λ trace. IsAsOpened trace number file) → IsSound file.parts number [] disk
is_sound disk number file opened = λ t told.
    let o = opened t told in
    let m = metadata_read o.reads.header (seen (file_of t number)) file.parts o.reads.numbers in
    let same : read_metadata (region_of file.parts (laid_file t number [])) file.parts.bat_len ≡ Ok m.0 =
    ap (λ (z : List ℕ). read_metadata (region_of file.parts z) file.parts.bat_len) (laid_none t number) ∙ m.1 in
    rw same refl

-- ---- what an update answers

gives : (parts : Parts) (bytes : List ℕ) (pairs : List Pair) (pages : List Page) (o : Option (List ℕ)) → HasMetadata parts → locator_len pairs ≤ longest_locator
    → parts.meta_at + parts.meta_len ≤ length bytes → ArePages parts pages → changed_item Locator parts (locator_bytes pairs) bytes ≡ o → Gives parts bytes o pages
    → (m : Metadata) → read_metadata (region_of parts bytes) parts.bat_len ≡ Ok m → GivesLocator parts bytes pairs pages
gives parts bytes pairs pages None h short fits are e g m read = absurd g
gives parts bytes pairs pages (Some new) h short fits are e g m read =
    let whole : length (region_of parts bytes) ≡ parts.meta_len = length-part bytes parts.meta_at parts.meta_len fits in
    let r = λ (n : Metadata) (read_n : read_metadata (region_of parts bytes) parts.bat_len ≡ Ok n).
    item_read Locator (region_of parts bytes) new (locator_bytes pairs) parts.bat_len n read_n (omega (arith, whole, h.table)) (omega (arith, whole, h.short))
    (omega (arith, length-locator pairs, short)) (λ items. fine_locator items parts.bat_len (locator_bytes pairs)) e in
    let long : length new ≡ parts.meta_len = (r m read).long ∙ whole in
    record {
      region = new;
      changed = e;
      long = long;
      turn = λ file x same. turns_alike parts.meta_at parts.meta_len pages bytes file new are h.at h.len fits x same g long;
      reads = λ n read_n. (r n read_n).now;
    }

pub has_pages : (disk : Disk) (number : ℕ) (file : LinkedFile) (pairs : List Pair) (pages : List Page) → WhereTold disk.told (λ trace. IsAsOpened trace number file)
    → HasMetadata file.parts → locator_len pairs ≤ longest_locator → ArePages file.parts pages → length pages ≤ 22
    → Answers file.parts number [] disk (λ bytes. changed_item Locator file.parts (locator_bytes pairs) bytes) (Ok pages) → HasPages file.parts number disk pairs pages
has_pages disk number file pairs pages opened h short are few answers = record {
  pages_are = are;
  few = few;
  told = λ t told.
      let o = opened t told in
      let bytes = seen (file_of t number) in
      let m = metadata_read o.reads.header bytes file.parts o.reads.numbers in
      let given : Gives file.parts bytes (changed_item Locator file.parts (locator_bytes pairs) bytes) pages =
      subst (λ (z : List ℕ). Gives file.parts z (changed_item Locator file.parts (locator_bytes pairs) z) pages) (laid_none t number) (answers t told) in
      gives file.parts bytes pairs pages (changed_item Locator file.parts (locator_bytes pairs) bytes) h short (lie_within t number file o).metadata are refl given m.0 m.1;
}

pub update_fails : (old new : Disk) (number : ℕ) (parts : Parts) (pairs : List Pair) (refusal : MetaRefusal) → number < old.files
    → Answers parts number [] old (λ bytes. changed_item Locator parts (locator_bytes pairs) bytes) (Err refusal)
    → IsNotTooLarge refusal → NamesFile number refusal → LeavesBy number old new (fault_of refusal) → UpdateFails parts number old new pairs (of_meta refusal)
update_fails old new number parts pairs (meta.LocatorTooLarge len) there answers short names leaves = absurd short
update_fails old new number parts pairs (meta.MetadataFull full) there answers short names leaves =
    (names, λ t told. subst (λ (z : List ℕ). changed_item Locator parts (locator_bytes pairs) z ≡ None) (laid_none t number) (answers t told), leaves)
update_fails old new number parts pairs (meta.Store fault) there answers short names leaves =
    (subst (λ n. n < old.files) (sym leaves.of_file) there, subst (λ n. ReadFailed n old new fault) (sym leaves.of_file) leaves)
update_fails old new number parts pairs meta.NoRoom there answers short names leaves = leaves

-- a locator that has pages has room
pub has_room : (parts : Parts) (number : ℕ) (disk : Disk) (pairs : List Pair) (pages : List Page) → HasPages parts number disk pairs pages → HasRoom parts number disk pairs
has_room parts number disk pairs pages h = λ t told. ap is_some (h.told t told).changed
