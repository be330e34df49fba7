-- What a file is read as with an update's pages laid over it.
use Rattle.std.proofs.Common.{◌≡◌, ℕ, ◌+◌, ◌≤◌, false, List, ◌++◌, length, Option, Some, None, refl, sym, ap, ◌∙◌, arith}
use Rattle.std.specs.Prelude.{Result, Ok, Err, IfOk, IsOk}
use Rattle.store_model.proofs.Parts.{length-part, part-overwritten}
use Rattle.store_model.specs.Disk.{Disk, WhereTold}
use Rattle.store_model.specs.File.{seen}
use Rattle.store_model.specs.Trace.{Trace, file_of}
use Rattle.vx_base.specs.Fields.{bytes_at}
use Rattle.vx_base.specs.declared.parts.Parts.{Parts}
use Rattle.vhdx_format.specs.declared.log_entry.Page.{Page}
use Rattle.vhdx_format.specs.declared.metadata.Metadata.{Metadata}
use Rattle.vhdx_format.specs.MetadataTables.{is_bad_name, read_metadata, retired_in}
use Rattle.meta_edit.specs.declared.ItemKind.TheVariants.{Locator, Retired}
use Rattle.meta_edit.specs.declared.MetaRefusal.{MetaRefusal}
use Rattle.meta_edit.specs.Edits.{AnswersUpdate, Gives, IsSound, LocatorIsRead, ReadsLocator, ReadsRetired, RetiredIsRead, changed_item, region_of, with_region}
use Rattle.meta_edit.specs.Pages.{HasMetadata, laid_file, with_pages}
use Rattle.meta_edit.proofs.PageLaws.{pages_joined}
use Rattle.meta_edit.proofs.ItemRead.{fine_locator, fine_retired, item_read}

-- the region of a file that has another region
region_is : (parts : Parts) (file shown new : List ℕ) → parts.meta_at + parts.meta_len ≤ length file → shown ≡ with_region parts file new → length new ≡ parts.meta_len → region_of parts shown ≡ new
region_is parts file shown new fits e l =
    ap (λ (z : List ℕ). bytes_at z parts.meta_at parts.meta_len) e ∙ part-overwritten file new parts.meta_at parts.meta_len (omega (arith, fits)) (sym l)

locator_after : (parts : Parts) (file value : List ℕ) (pages : List Page) (o : Option (List ℕ)) → HasMetadata parts → length value ≤ 65536 → parts.meta_at + parts.meta_len ≤ length file
    → changed_item Locator parts value file ≡ o → Gives parts file o pages → LocatorIsRead parts file value pages
locator_after parts file value pages None h few fits e g = absurd g
locator_after parts file value pages (Some new) h few fits e g = λ m read.
    let whole : length (region_of parts file) ≡ parts.meta_len = length-part file parts.meta_at parts.meta_len fits in
    let r = item_read Locator (region_of parts file) new value parts.bat_len m read (omega (arith, whole, h.table)) (omega (arith, whole, h.short)) few
    (λ items. fine_locator items parts.bat_len value) e in
    ap (λ (z : List ℕ). read_metadata z parts.bat_len) (region_is parts file (with_pages pages file) new fits g (r.long ∙ whole)) ∙ r.now

pub locator_answer : (r : Result (List Page) MetaRefusal) (parts : Parts) (told : Option Trace) (shown : Trace → List ℕ) (value : List ℕ) → HasMetadata parts → length value ≤ 65536
    → ((t : Trace) → told ≡ Some t → parts.meta_at + parts.meta_len ≤ length (shown t))
    → ((t : Trace) → told ≡ Some t → AnswersUpdate parts (shown t) (changed_item Locator parts value (shown t)) r)
    → IfOk r (λ pages. WhereTold told (λ t. LocatorIsRead parts (shown t) value pages))
locator_answer (Ok pages) parts told shown value h few fits answers = λ t is. locator_after parts (shown t) value pages (changed_item Locator parts value (shown t)) h few (fits t is) refl (answers t is)
locator_answer (Err refusal) parts told shown value h few fits answers = tt

retired_after : (parts : Parts) (file value : List ℕ) (to : Option (List ℕ)) (pages : List Page) (o : Option (List ℕ)) → HasMetadata parts → length value ≤ 65536 → is_bad_name value ≡ false
    → retired_in value ≡ to → parts.meta_at + parts.meta_len ≤ length file → changed_item Retired parts value file ≡ o → Gives parts file o pages → RetiredIsRead parts file to pages
retired_after parts file value to pages None h few fine says fits e g = absurd g
retired_after parts file value to pages (Some new) h few fine says fits e g = λ m read.
    let whole : length (region_of parts file) ≡ parts.meta_len = length-part file parts.meta_at parts.meta_len fits in
    let r = item_read Retired (region_of parts file) new value parts.bat_len m read (omega (arith, whole, h.table)) (omega (arith, whole, h.short)) few
    (λ items. fine_retired items parts.bat_len value fine) e in
    ap (λ (z : List ℕ). read_metadata z parts.bat_len) (region_is parts file (with_pages pages file) new fits g (r.long ∙ whole)) ∙ r.now
    ∙ ap (λ (z : Option (List ℕ)). Ok (record m { retired = z })) says

pub retired_answer : (r : Result (List Page) MetaRefusal) (parts : Parts) (told : Option Trace) (shown : Trace → List ℕ) (value : List ℕ) (to : Option (List ℕ)) → HasMetadata parts → length value ≤ 65536
    → is_bad_name value ≡ false → retired_in value ≡ to
    → ((t : Trace) → told ≡ Some t → parts.meta_at + parts.meta_len ≤ length (shown t))
    → ((t : Trace) → told ≡ Some t → AnswersUpdate parts (shown t) (changed_item Retired parts value (shown t)) r)
    → IfOk r (λ pages. WhereTold told (λ t. RetiredIsRead parts (shown t) to pages))
retired_answer (Ok pages) parts told shown value to h few fine says fits answers = λ t is.
    retired_after parts (shown t) value to pages (changed_item Retired parts value (shown t)) h few fine says (fits t is) refl (answers t is)
retired_answer (Err refusal) parts told shown value to h few fine says fits answers = tt

-- ---- a further update may follow: its earlier pages are these behind those

read_ok : {A E : Type 0} (r : Result A E) → IsOk r → (a : A) × (r ≡ Ok a)
read_ok (Ok a) h = (a, refl)
read_ok (Err e) h = cc

joined_ok : (parts : Parts) (over pages : List Page) (file : List ℕ) (m : Metadata) → read_metadata (region_of parts (with_pages pages (with_pages over file))) parts.bat_len ≡ Ok m
    → IsOk (read_metadata (region_of parts (with_pages (over ++ pages) file)) parts.bat_len)
joined_ok parts over pages file m e =
    let same : read_metadata (region_of parts (with_pages (over ++ pages) file)) parts.bat_len ≡ Ok m = ap (λ (z : List ℕ). read_metadata (region_of parts z) parts.bat_len) (pages_joined over pages file) ∙ e in
    rw same refl

pub sound_after_locator : (parts : Parts) (file : ℕ) (over pages : List Page) (disk : Disk) (value : List ℕ) → IsSound parts file over disk → ReadsLocator parts file over disk value pages
    → IsSound parts file (over ++ pages) disk
sound_after_locator parts file over pages disk value sound reads = λ t is.
    let m = read_ok (read_metadata (region_of parts (laid_file t file over)) parts.bat_len) (sound t is) in
    joined_ok parts over pages (seen (file_of t file)) (record m.0 { locator = Some value }) (reads t is m.0 m.1)

pub sound_after_retired : (parts : Parts) (file : ℕ) (over pages : List Page) (disk : Disk) (to : Option (List ℕ)) → IsSound parts file over disk → ReadsRetired parts file over disk to pages
    → IsSound parts file (over ++ pages) disk
sound_after_retired parts file over pages disk to sound reads = λ t is.
    let m = read_ok (read_metadata (region_of parts (laid_file t file over)) parts.bat_len) (sound t is) in
    joined_ok parts over pages (seen (file_of t file)) (record m.0 { retired = to }) (reads t is m.0 m.1)
