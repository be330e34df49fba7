-- What the steps of a session leave as it is, and what is said of an answer that hands a fault on.
use Rattle.std.proofs.Common.{◌≡◌, ℕ, ◌+◌, ◌<◌, ◌≤◌, ◌==◌, Bool, true, false, List, [], ◌∷◌, ◌++◌, length, take, length-take, refl, sym, ap, subst, ◌∙◌, arith}
use Rattle.store_model.specs.Disk.{Disk, WhereTold, changed}
use Rattle.store_model.specs.File.{Op, Sync, seen}
use Rattle.store_model.specs.Trace.{file_of}
use Rattle.store_model.specs.Plans.{changed_all}
use Rattle.store_model.proofs.Plans.{changed_append, counts_planned}
use Rattle.vx_base.specs.declared.parts.Header.{Header}
use Rattle.vhdx_format.specs.Fields.{is_whole_megabytes}
use Rattle.vhdx_format.specs.Logs.{wrapped}
use Rattle.vhdx_format.specs.WrittenEntries.{entry_len}
use Rattle.vhdx_format.specs.declared.log_entry.Page.{Page}
use Rattle.log_write.specs.Sessions.{HasLogPlace, IsOpenFor, IsSoundState, LogState, longest_entry}
use Rattle.log_write.specs.Writing.{begin_plan, behind, commit_plan, committed, entry_writes, header_writes, naming, next_number, opening_header, page_writes}
use Rattle.log_write.specs.declared.ids.SessionIds.{SessionIds}
use Rattle.log_write.proofs.Begun.{fresh_log}
use Rattle.log_write.proofs.Entries.{megabytes}
use Rattle.log_write.proofs.Phases.{plan_of}

-- changes leave the count of files
pub same_files : (file : ℕ) (ops : List Op) (disk : Disk) → (changed_all file ops disk).files ≡ disk.files
same_files file [] disk = refl
same_files file (op ∷ ops) disk = same_files file ops (changed file op disk)

-- ---- a commit

pub no_page : (b : Bool) (n : ℕ) → b ≡ (n == 0) → b ≡ true → n ≡ 0
no_page b n e t = grind (arith, e, t)

pub some_page : (b : Bool) (n : ℕ) → b ≡ (n == 0) → b ≡ false → 0 < n
some_page b n e f = grind (arith, e, f)

pub empty_plan : (s : LogState) (pages : List Page) → length pages ≡ 0 → commit_plan s pages ≡ Sync ∷ []
empty_plan s [] none = refl
empty_plan s (page ∷ pages) none = absurd (omega (arith, none))

pub empty_committed : (s : LogState) (pages : List Page) → length pages ≡ 0 → s ≡ committed s pages
empty_committed s [] none = refl
empty_committed s (page ∷ pages) none = absurd (omega (arith, none))

pub some_committed : (s : LogState) (pages : List Page) → 0 < length pages → behind s pages ≡ committed s pages
some_committed s [] some = absurd (omega (arith, some))
some_committed s (page ∷ pages) some = refl

pub number_behind : (s : LogState) (pages : List Page) → (behind s pages).number ≤ s.number + 1
number_behind s pages = omega arith

-- the changes of a commit, one after another
pub commit_done : (s : LogState) (pages : List Page) → 0 < length pages → (file other : ℕ) → file ≡ s.file → other ≡ s.file → (old mid next new : Disk) → mid ≡ changed file Sync old
    → next ≡ changed_all s.file (entry_writes s pages ++ (Sync ∷ [])) mid → new ≡ changed_all other (page_writes pages) next → new ≡ changed_all s.file (commit_plan s pages) old
commit_done s pages some file other e same old mid next new synced made wrote =
    wrote ∙ ap (λ i. changed_all i (page_writes pages) next) same ∙ ap (changed_all s.file (page_writes pages)) (made ∙ ap (changed_all s.file (entry_writes s pages ++ (Sync ∷ []))) (synced ∙ ap (λ i. changed i Sync old) e))
    ∙ sym (changed_append s.file (entry_writes s pages ++ (Sync ∷ [])) (page_writes pages) (changed s.file Sync old))
    ∙ ap (λ ops. changed_all s.file ops old) (sym (plan_of s pages some))

-- ---- answers

-- ---- a beginning

pub begin_done : (s : LogState) (opening named : Header) (file other : ℕ) → file ≡ s.file → other ≡ s.file → named ≡ s.header → (old mid next new : Disk) → mid ≡ changed_all file (header_writes opening) old
    → next ≡ changed_all s.file (entry_writes s [] ++ (Sync ∷ [])) mid → new ≡ changed_all other (header_writes named) next → new ≡ changed_all s.file (begin_plan opening s) old
begin_done s opening named file other e same h_is old mid next new put made wrote =
    wrote ∙ ap (λ i. changed_all i (header_writes named) next) same ∙ ap (λ (h : Header). changed_all s.file (header_writes h) next) h_is
    ∙ ap (changed_all s.file (header_writes s.header)) (made ∙ ap (changed_all s.file (entry_writes s [] ++ (Sync ∷ []))) (put ∙ ap (λ i. changed_all i (header_writes opening) old) e))
    ∙ sym (changed_append s.file (entry_writes s [] ++ (Sync ∷ [])) (header_writes s.header) (changed_all s.file (header_writes opening) old))
    ∙ sym (changed_append s.file (header_writes opening) ((entry_writes s [] ++ (Sync ∷ [])) ++ header_writes s.header) old)

-- a log that has no entry yet
pub sound_begun : (file len : ℕ) (h : Header) (ids : SessionIds) (opening named : Header) → opening ≡ opening_header h ids → named ≡ naming opening ids.log → 1 ≤ named.copy → named.copy ≤ 2 → HasLogPlace h → IsSoundState (fresh_log file named len)
sound_begun file len h ids opening named opening_is named_is first second place =
    let at : named.log_at ≡ h.log_at = ap (λ (x : Header). x.log_at) named_is ∙ ap (λ (x : Header). x.log_at) opening_is in
    let long : named.log_len ≡ h.log_len = ap (λ (x : Header). x.log_len) named_is ∙ ap (λ (x : Header). x.log_len) opening_is in
    let most = megabytes h.log_len place.whole_len in
    record {
      named = record { whole_at = ap is_whole_megabytes at ∙ place.whole_at; whole_len = ap is_whole_megabytes long ∙ place.whole_len; ends = omega (arith, at, long, place.ends) };
      at_sector = refl;
      within = omega (arith, long, most.1);
      first = first;
      second = second;
    }

pub counts_done : (file : ℕ) (ops : List Op) (old new : Disk) → new ≡ changed_all file ops old → new ≡ record old { told = new.told }
counts_done file ops old new made = made ∙ counts_planned file ops old ∙ ap (λ (d : Disk). record old { told = d.told }) (sym made)

-- ---- an entry

pub front_fits : (front bytes : List ℕ) (n len : ℕ) → front ≡ take n bytes → n ≤ longest_entry → is_whole_megabytes len ≡ true → length front ≤ len
front_fits front bytes n len is few whole = omega (arith, ap length is ∙ length-take n bytes, few, (megabytes len whole).1)

pub ring_inside : (s other : LogState) → other ≡ s → (d : Disk) → WhereTold d.told (λ t. IsOpenFor s (file_of t s.file)) → WhereTold d.told (λ t. other.header.log_at + other.header.log_len ≤ length (seen (file_of t other.file)))
ring_inside s other e d h = subst (λ (o : LogState). WhereTold d.told (λ t. o.header.log_at + o.header.log_len ≤ length (seen (file_of t o.file)))) (sym e) (λ t is. let o = h t is in omega (arith, o.within, o.long))

pub behind_is : (s other : LogState) (pages : List Page) → other ≡ s → (number place n : ℕ) → number ≡ next_number s.number → n ≡ entry_len (length pages) → place ≡ wrapped other.header.log_len (other.place + n)
    → record other { number = number; place = place } ≡ behind s pages
behind_is s other pages e number place n number_is n_is =
    subst (λ (o : LogState). place ≡ wrapped o.header.log_len (o.place + n) → record o { number = number; place = place } ≡ behind s pages) (sym e)
    (λ place_is. ap (λ k. record s { number = k; place = place }) number_is ∙ ap (λ k. record s { number = next_number s.number; place = k }) (place_is ∙ ap (λ k. wrapped s.header.log_len (s.place + k)) n_is))
