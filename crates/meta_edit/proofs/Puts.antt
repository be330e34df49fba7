-- Bytes put in the region, one after another, and what is answered by them.
use Rattle.std.proofs.Common.{◌≡◌, ℕ, ◌+◌, ◌*◌, ◌/◌, ◌<◌, ◌≤◌, List, [], ◌++◌, length, refl, sym, subst, ap, ◌∙◌, arith}
use Rattle.std.specs.Prelude.{Option, Some, None, Result, Ok, Err, IfOk, IfErr}
use Rattle.vx_base.proofs.ByteLists.{length-overwritten}
use Rattle.store_model.specs.Disk.{Disk, LeavesStore}
use Rattle.store_model.specs.File.{seen}
use Rattle.store_model.specs.Trace.{Trace, file_of}
use Rattle.store_model.proofs.Parts.{length-part}
use Rattle.vx_base.specs.Fields.{u32_bytes, written_over}
use Rattle.vhdx_format.specs.declared.log_entry.Page.{Page}
use Rattle.vhdx_format.specs.declared.metadata.MetadataEntry.{MetadataEntry}
use Rattle.vhdx_format.specs.Updates.{entry_place, with_entry}
use Rattle.meta_edit.specs.declared.MetaRefusal.{MetaRefusal}
use Rattle.meta_edit.specs.declared.MetaRefusal.TheVariants.{MetadataFull}
use Rattle.meta_edit.specs.declared.laying.LaidFile.{LaidFile}
use Rattle.meta_edit.specs.Edits.{AnswersUpdate, IsNotTooLarge, NamesFile, fault_of, region_of}
use Rattle.meta_edit.specs.Pages.{ArePages, laid_file, with_pages}
use Rattle.meta_edit.specs.Steps.{AnswersLaid, EndsUpdate, IsFault, IsLaid, IsPut, IsRefused, PutsInRegion, WritesLaid, moved_to}
use Rattle.meta_edit.proofs.ByteLaws.{over_empty, shows_first, shows_next}
use Rattle.meta_edit.proofs.PageLaws.{length-with_pages, none_over}
use Rattle.meta_edit.proofs.Refused.{outside_answers, outside_names, value_none, value_some}

-- the metadata lie in the file, also with pages over it
pub lies_within : (laid : LaidFile) (disk : Disk) (t : Trace) → IsLaid laid disk → disk.told ≡ Some t
    → laid.parts.now.meta_at + laid.parts.now.meta_len ≤ length (laid_file t laid.file laid.over.now)
lies_within laid disk t h is =
    let shown : List ℕ = seen (file_of t laid.file) in
    let inside : laid.parts.now.meta_at + laid.parts.now.meta_len ≤ length shown = h.inside t is in
    let long : length (laid_file t laid.file laid.over.now) ≡ length shown = length-with_pages laid.parts.now.meta_at laid.parts.now.meta_len laid.over.now shown h.over inside in
    subst (λ (n : ℕ). laid.parts.now.meta_at + laid.parts.now.meta_len ≤ n) (sym long) inside

-- it is the same store
pub fault_after : (file : ℕ) (old mid new : Disk) (refusal : MetaRefusal) → mid ≡ old → IsFault file mid new refusal → IsFault file old new refusal
fault_after file old mid new refusal e h = subst (λ (d : Disk). IsFault file d new refusal) e h

pub written_put : (laid : LaidFile) (old new : Disk) (before pages : List Page) (offset : ℕ) (bytes : List ℕ) → IsLaid laid old
    → (0 < length bytes → offset + length bytes ≤ laid.parts.now.meta_len) → WritesLaid laid (laid.parts.now.meta_at + offset) bytes old before pages → ArePages laid.parts.now pages
    → length pages ≤ length before + length bytes / 4096 + 2 → new ≡ old → IsPut laid (λ region. written_over region offset bytes) (length bytes / 4096 + 2) before old new pages
written_put laid old new before pages offset bytes h last written within few store = record {
  shown = λ t is region shows.
      shows_next laid.parts.now.meta_at laid.parts.now.meta_len (laid_file t laid.file laid.over.now) (with_pages before (laid_file t laid.file laid.over.now)) region
      (with_pages pages (laid_file t laid.file laid.over.now)) (laid.parts.now.meta_at + offset) offset bytes bytes (lies_within laid old t h is) shows (written t is) refl refl last;
  within = within;
  few = omega (arith, few);
  store = store;
}

-- nothing is put
pub none_put : (laid : LaidFile) (disk : Disk) (before : List Page) (offset : ℕ) (bytes : List ℕ) → IsLaid laid disk → ArePages laid.parts.now before → length bytes ≡ 0
    → IsPut laid (λ region. written_over region offset bytes) (length bytes / 4096 + 2) before disk disk before
none_put laid disk before offset bytes h within none =
    written_put laid disk disk before before offset bytes h (λ some. absurd (omega (arith, some, none)))
    (λ t is. over_empty (with_pages before (laid_file t laid.file laid.over.now)) bytes (laid.parts.now.meta_at + offset) none) within (omega arith) refl

-- one change, and then another
pub put_twice : (laid : LaidFile) (f g : List ℕ → List ℕ) (k j : ℕ) (before mid : List Page) (d0 d1 d2 : Disk) (r : Result (List Page) MetaRefusal)
    → IsPut laid f k before d0 d1 mid → PutsInRegion laid g j mid d1 d2 r → PutsInRegion laid (λ region. g (f region)) (k + j) before d0 d2 r
put_twice laid f g k j before mid d0 d1 d2 (Ok pages) p q = record {
  shown = λ t is region shows. q.shown t (ap (λ (x : Disk). x.told) p.store ∙ is) (f region) (p.shown t is region shows);
  within = q.within;
  few = omega (arith, p.few, q.few);
  store = q.store ∙ p.store;
}
put_twice laid f g k j before mid d0 d1 d2 (Err refusal) p q = fault_after laid.file d0 d1 d2 refusal p.store q

refused : (file : ℕ) (old new : Disk) (refusal : MetaRefusal) → IsFault file old new refusal → IsRefused file old new refusal
refused file old new refusal h = let both = outside_names refusal file old new h.outside h.store in record { names = both.0; short = both.1; store = h.store }

-- an update that a fault ends
pub ends_by : (laid : LaidFile) (old new : Disk) (refusal : MetaRefusal) → IsFault laid.file old new refusal → EndsUpdate laid old new (Err refusal)
ends_by laid old new refusal h = refused laid.file old new refusal h

pub ends_put : (laid : LaidFile) (change : List ℕ → List ℕ) (more : ℕ) (before : List Page) (old new : Disk) (r : Result (List Page) MetaRefusal) → before ≡ [] → more ≤ 22
    → PutsInRegion laid change more before old new r → EndsUpdate laid old new r
ends_put laid change more before old new (Ok pages) none most h = record { within = h.within; few = omega (arith, h.few, most, ap length none); store = h.store }
ends_put laid change more before old new (Err refusal) none most h = refused laid.file old new refusal h

-- what the region becomes, from no pages on
pub answers_put : (laid : LaidFile) (change : List ℕ → List ℕ) (more : ℕ) (before : List Page) (old new : Disk) (changed : List ℕ → Option (List ℕ)) (r : Result (List Page) MetaRefusal)
    → IsLaid laid old → before ≡ [] → PutsInRegion laid change more before old new r
    → ((region : List ℕ) → length region ≡ laid.parts.now.meta_len → changed region ≡ Some (change region)) → AnswersLaid laid old changed r
answers_put laid change more before old new changed (Ok pages) h none puts same = λ t is.
    let file : List ℕ = laid_file t laid.file laid.over.now in
    let fits : laid.parts.now.meta_at + laid.parts.now.meta_len ≤ length file = lies_within laid old t h is in
    let nothing : with_pages before file ≡ file = ap (λ (z : List Page). with_pages z file) none ∙ none_over file in
    subst (λ (o : Option (List ℕ)). AnswersUpdate laid.parts.now file o (Ok pages))
    (sym (same (region_of laid.parts.now file) (length-part file laid.parts.now.meta_at laid.parts.now.meta_len fits)))
    (puts.shown t is (region_of laid.parts.now file) (shows_first laid.parts.now.meta_at laid.parts.now.meta_len file (with_pages before file) fits nothing)).is
answers_put laid change more before old new changed (Err refusal) h none puts same = λ t is.
    outside_answers refusal laid.parts.now (laid_file t laid.file laid.over.now) (changed (region_of laid.parts.now (laid_file t laid.file laid.over.now))) puts.outside

-- a region of the right length that has no room
pub answers_full : (laid : LaidFile) (disk : Disk) (file : ℕ) (changed : List ℕ → Option (List ℕ)) → IsLaid laid disk
    → ((region : List ℕ) → length region ≡ laid.parts.now.meta_len → changed region ≡ None) → AnswersLaid laid disk changed (Err (MetadataFull file))
answers_full laid disk file changed h full = λ t is.
    full (region_of laid.parts.now (laid_file t laid.file laid.over.now))
    (length-part (laid_file t laid.file laid.over.now) laid.parts.now.meta_at laid.parts.now.meta_len (lies_within laid disk t h is))

-- what is answered of the region is answered of one that it equals
pub answers_alike : (laid : LaidFile) (disk : Disk) (f g : List ℕ → Option (List ℕ)) (r : Result (List Page) MetaRefusal) → IsLaid laid disk
    → ((region : List ℕ) → length region ≡ laid.parts.now.meta_len → f region ≡ g region) → AnswersLaid laid disk f r → AnswersLaid laid disk g r
answers_alike laid disk f g r h same answers = λ t is.
    subst (λ (o : Option (List ℕ)). AnswersUpdate laid.parts.now (laid_file t laid.file laid.over.now) o r)
    (same (region_of laid.parts.now (laid_file t laid.file laid.over.now))
    (length-part (laid_file t laid.file laid.over.now) laid.parts.now.meta_at laid.parts.now.meta_len (lies_within laid disk t h is)))
    (answers t is)

-- ---- what an update ends with, clause by clause

pub ends_pages : (laid : LaidFile) (old new : Disk) (r : Result (List Page) MetaRefusal) → EndsUpdate laid old new r → IfOk r (ArePages laid.parts.now)
ends_pages laid old new (Ok pages) h = h.within
ends_pages laid old new (Err refusal) h = tt

pub ends_few : (laid : LaidFile) (old new : Disk) (r : Result (List Page) MetaRefusal) → EndsUpdate laid old new r → IfOk r (λ pages. length pages ≤ 22)
ends_few laid old new (Ok pages) h = h.few
ends_few laid old new (Err refusal) h = tt

pub ends_file : (laid : LaidFile) (old new : Disk) (r : Result (List Page) MetaRefusal) → EndsUpdate laid old new r → IfErr r (NamesFile laid.file)
ends_file laid old new (Ok pages) h = tt
ends_file laid old new (Err refusal) h = h.names

pub ends_short : (laid : LaidFile) (old new : Disk) (r : Result (List Page) MetaRefusal) → EndsUpdate laid old new r → IfErr r IsNotTooLarge
ends_short laid old new (Ok pages) h = tt
ends_short laid old new (Err refusal) h = h.short

pub ends_store : (laid : LaidFile) (old new : Disk) (r : Result (List Page) MetaRefusal) → EndsUpdate laid old new r → LeavesStore fault_of laid.file old new r
ends_store laid old new (Ok pages) h = h.store
ends_store laid old new (Err refusal) h = h.store

-- ---- changes of the region that are alike

pub overs_alike : (r v : List ℕ) (p q s t : ℕ) (b c : List ℕ) → p ≡ q → b ≡ c → s ≡ t → Some (written_over (written_over r p b) s v) ≡ Some (written_over (written_over r q c) t v)
overs_alike r v p q s t b c e f g = cc

length_moved : (region v : List ℕ) (n place : ℕ) (old : MetadataEntry) → length region ≡ n → old.index ≤ 2047 → 65536 ≤ n → length (with_entry region old.index place (length v)) ≡ n
length_moved region v n place old whole few long =
    length-overwritten region (u32_bytes place ++ u32_bytes (length v)) (entry_place old.index + 16) (fits (omega (arith, whole, few, long))) ∙ whole
  where
    fits : 32 * old.index + 24 ≤ length region → entry_place old.index + 16 + length (u32_bytes place ++ u32_bytes (length v)) ≤ length region
    fits h = omega (arith, h)

pub moved_none : (region v : List ℕ) (n place : ℕ) (old : MetadataEntry) → length region ≡ n → old.index ≤ 2047 → 65536 ≤ n → n < place + length v → moved_to region place old v ≡ None
moved_none region v n place old whole few long more = value_none (with_entry region old.index place (length v)) v n place (length_moved region v n place old whole few long) more

pub moved_some : (region v : List ℕ) (n place : ℕ) (old : MetadataEntry) → length region ≡ n → old.index ≤ 2047 → 65536 ≤ n → place + length v ≤ n
    → moved_to region place old v ≡ Some (written_over (written_over region (entry_place old.index + 16) (u32_bytes place ++ u32_bytes (length v))) place v)
moved_some region v n place old whole few long fits = value_some (with_entry region old.index place (length v)) v n place (length_moved region v n place old whole few long) fits
