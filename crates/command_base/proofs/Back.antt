-- What a host is left with that lent the files of a chain, which were only read.
use Rattle.std.proofs.Common.{◌≡◌, ℕ, ◌+◌, ◌<◌, ◌≤◌, true, List, [], ◌∷◌, map, length, Option, Some, None, Result, Ok, Err, refl, sym, ap, subst, ◌∙◌, arith, inl}
use Rattle.std.specs.Prelude.{IfOk, drop, option_map, take, unwrap_or}
use Rattle.std.specs.List.{AllByRecursion}
use Rattle.std.specs.Result.{IsErrAnd}
use Rattle.std.proofs.lemmas.List.{length-map}
use Rattle.std.proofs.lemmas.Option.{same_Some}
use Rattle.store_model.specs.Cause.{Rose}
use Rattle.store_model.specs.Disk.{Disk, ReadFailed, WhereTold}
use Rattle.store_model.specs.File.{seen}
use Rattle.store_model.specs.Folder.{AreAway, HasFailed, Held, Hosted, IsKept, KeepsStore, RoseWhere, attached_trace, come_back, given_back, has_name, seen_named, without}
use Rattle.store_model.specs.Moments.{IsHealthy}
use Rattle.store_model.specs.Trace.{NamedBytes, Trace, at_moment, bytes_of, file_of, moment}
use Rattle.store_model.specs.declared.fault.StoreFault.{StoreFault}
use Rattle.store_model.proofs.Spans.{at_moment-now}
use Rattle.store_model.proofs.Throughout.{last_one, returned_none, returned_one, throughout_back, throughout_still}
use Rattle.chain_model.specs.Files.{HasParts, IsIn, at_rest}
use Rattle.chain_model.specs.Images.{members_of}
use Rattle.chain_model.specs.Members.{NoneTwice, disk_of}
use Rattle.guest_model.specs.Calls.{bytes_of as bytes_of_disk}
use Rattle.file_open.specs.Causes.{Meaning, refuses, host_failed, store_failed, no_memory}
use Rattle.link_rules.specs.Chains.{names_of}
use Rattle.link_rules.specs.Effects.{HasReplayed, HostStopped, KeepsEach, MemoryStopped, Replays, StaysIdle, StoreStopped, Within}
use Rattle.link_rules.specs.Effects as effects
use Rattle.link_rules.specs.Folders.{AllIdle, contents}
use Rattle.link_rules.specs.Laws.{AreMembers, at_rest_all}
use Rattle.link_rules.specs.declared.linked.LinkedFile.{LinkedFile}
use Rattle.link_rules.proofs.Composing.{replays_keep}
use Rattle.link_rules.proofs.Lent.{idle_as, none_kept}
use Rattle.command_base.specs.Causes.{LeavesStore, LeavesStoreBy, meaning_of_chain}
use Rattle.command_base.specs.Commands.{AreAnew, AreOpened, AreOpenedFrom, HasRead, Lends, LendsNone, LeavesRead, LeavesReadBy, OnlyAttaches, placed_from, shown_from}
use Rattle.command_base.specs.Making.{ShowIds, none, more}
use Rattle.vhdx_format.specs.SettledFiles.{StandsFor}
use Rattle.chain_model.proofs.NewFiles.{parts_stand}
use Rattle.command_base.specs.Refusals.{Refusal}
use Rattle.command_base.specs.declared.refusal.ChainRefusal.{ChainRefusal}
use Rattle.command_base.proofs.Lent.{AreAt, all_back, anew_contents, anew_idle, are_away, each_at, names_attached, names_in, opened_there, same_anew}

-- ---- a store that tells what it was attached with

-- what a read then gives of a file
pub seen_at : (names : List (List ℕ)) (folder : List Held) (i : ℕ) → seen (file_of (attached_trace names folder) i) ≡ bytes_of (attached_trace names folder).attached i
unfolding file_of
seen_at names folder i = refl

abbrev pub attached_as : List Held → List LinkedFile → List NamedBytes
attached_as folder files = map (λ name. record { name = name; bytes = seen_named name folder }) (names_of files)

seen_bytes : (folder : List Held) (name bytes : List ℕ) → contents folder name ≡ Some bytes → seen_named name folder ≡ bytes
seen_bytes folder name bytes had = ap (λ o. unwrap_or o []) had

module _ (names : List (List ℕ)) (folder : List Held) where
  abbrev trace : Trace
  trace = attached_trace names folder

  pub bytes_there : (i : ℕ) (name bytes : List ℕ) → bytes_of trace.attached i ≡ seen_named name folder → contents folder name ≡ Some bytes → seen (file_of trace i) ≡ bytes
  bytes_there i name bytes at had = seen_at names folder i ∙ at ∙ seen_bytes folder name bytes had

  pub opened_from : (i : ℕ) (files : List LinkedFile) → AreAt trace.attached i (attached_as folder files) → AreOpened (contents folder) files → AreOpenedFrom i files trace
  opened_from i [] at opened = tt
  opened_from i (file ∷ files) at opened = (
    record { within = at.0.within; name = at.0.name; reads = subst (λ b. HasParts (at_rest b) b file.parts) (sym (bytes_there i file.name opened.0.bytes at.0.bytes opened.0.there)) opened.0.reads },
    opened_from (i + 1) files at.1 opened.1,
  )

  -- its files are those of the folder
  pub placed_in : (i : ℕ) (files : List LinkedFile) → AreAt trace.attached i (attached_as folder files) → AreOpened (contents folder) files
      → AllByRecursion (IsIn (at_rest_all (contents folder))) (members_of (placed_from i files trace))
  placed_in i [] at opened = tt
  placed_in i (file ∷ files) at opened =
      let is = bytes_there i file.name opened.0.bytes at.0.bytes opened.0.there in (
        record {
          file = at_rest opened.0.bytes;
          there = ap (λ n. option_map at_rest (contents folder n)) at.0.name ∙ ap (option_map at_rest) opened.0.there;
          held = seen (file_of trace i);
          parts = file.parts;
          reads = subst (λ b. HasParts (at_rest opened.0.bytes) b file.parts) (sym is) opened.0.reads;
          ties = refl;
          layer = λ s. refl;
        },
        placed_in (i + 1) files at.1 opened.1,
      )

  pub placed_are : (i : ℕ) (files : List LinkedFile) → AreAt trace.attached i (attached_as folder files) → AreMembers (members_of (placed_from i files trace)) files
  placed_are i [] at = tt
  placed_are i (file ∷ files) at = (record { name = at.0.name; ties = refl }, placed_are (i + 1) files at.1)

  -- what they show is what the folder's show
  pub shows_from : (i : ℕ) (files : List LinkedFile) → AreAt trace.attached i (attached_as folder files) → AreOpened (contents folder) files → ShowIds (contents folder) files (shown_from i files trace)
  shows_from i [] at opened = none
  shows_from i (file ∷ files) at opened =
      let is = bytes_there i file.name opened.0.bytes at.0.bytes opened.0.there in
      more file files opened.0.bytes (seen (file_of trace i)) (shown_from (i + 1) files trace) opened.0.there
      (subst (StandsFor opened.0.bytes) (sym is) (parts_stand opened.0.bytes opened.0.bytes file.parts opened.0.reads)) (shows_from (i + 1) files at.1 opened.1)

-- ---- files that aren't lent

pub unlent_left : {R : Type 0} (old new : Hosted) (meaning : Meaning R) → WhereTold old.folder AllIdle → LendsNone old new meaning → LeavesReadBy old new meaning
unlent_left old new (refuses refusal) idle h = absurd h
unlent_left old new (host_failed fault) idle failed =
    let same : new.folder ≡ old.folder = ap (λ (h : Hosted). h.folder) failed.stays in
    record { files = none_kept old new same; idle = idle_as old new same idle; rose = failed.rose; told = failed.count; healthy = λ f told. returned_none IsHealthy old new (ap (λ (h : Hosted). h.past) failed.stays) }
unlent_left old new (store_failed fault) idle h = absurd h
unlent_left old new no_memory idle same = record {
  files = none_kept old new (ap (λ (h : Hosted). h.folder) same);
  idle = idle_as old new (ap (λ (h : Hosted). h.folder) same) idle;
  quiet = ap (λ (h : Hosted). h.faults) same;
}

still_attaches : (names : List (List ℕ)) (old new : Hosted) → new.folder ≡ old.folder → new.past ≡ old.past → OnlyAttaches names old new
still_attaches names old new folder_is past_is f told =
    throughout_still (AreAnew names f) old new past_is (λ g is. subst (AreAnew names f) (same_Some f g (sym told ∙ sym folder_is ∙ is)) (same_anew names f))

pub unlent_attaches : {R : Type 0} (names : List (List ℕ)) (old new : Hosted) (meaning : Meaning R) → LendsNone old new meaning → OnlyAttaches names old new
unlent_attaches names old new (refuses refusal) h = absurd h
unlent_attaches names old new (host_failed fault) failed = still_attaches names old new (ap (λ (h : Hosted). h.folder) failed.stays) (ap (λ (h : Hosted). h.past) failed.stays)
unlent_attaches names old new (store_failed fault) h = absurd h
unlent_attaches names old new no_memory same = still_attaches names old new (ap (λ (h : Hosted). h.folder) same) (ap (λ (h : Hosted). h.past) same)

-- an answer that tells so
pub unlent_leaves : {A : Type 0} (old new : Hosted) (result : Result A ChainRefusal) (refusal : ChainRefusal) → IsErrAnd result (λ e. e ≡ refusal) → WhereTold old.folder AllIdle → LendsNone old new (meaning_of_chain refusal) → LeavesRead old new result
unlent_leaves old new (Ok x) refusal is idle h = absurd is
unlent_leaves old new (Err e) refusal is idle h = subst (λ e. LeavesReadBy old new (meaning_of_chain e)) (sym is) (unlent_left old new (meaning_of_chain refusal) idle h)

-- ---- files that are lent and come back

-- nothing was done to the store
still_at : (names : List (List ℕ)) (folder : List Held) (k : ℕ) → k ≤ moment (attached_trace names folder) → at_moment k (attached_trace names folder) ≡ attached_trace names folder
unfolding moment
still_at names folder k within = let same : k ≡ 0 = omega (arith, within) in ap (λ n. at_moment n (attached_trace names folder)) same ∙ at_moment-now (attached_trace names folder)

-- what reads leave of the store is what it told
pub told_kept : {A : Type 0} (lent disk : Disk) (result : Result A ChainRefusal) → LeavesStore lent disk result → disk.told ≡ lent.told
told_kept lent disk (Ok x) h = ap (λ (d : Disk). d.told) h
told_kept lent disk (Err refusal) h = by_meaning (meaning_of_chain refusal) h
  where
    by_meaning : (meaning : Meaning Refusal) → LeavesStoreBy lent disk meaning → disk.told ≡ lent.told
    by_meaning (refuses r) h = absurd h
    by_meaning (host_failed fault) h = absurd h
    by_meaning (store_failed fault) h = ap (λ (d : Disk). d.told) h.1.stays
    by_meaning no_memory h = ap (λ (d : Disk). d.told) h

module _ (files : List LinkedFile) (old mid : Hosted) (lent : Disk) (idle : WhereTold old.folder AllIdle) (once : NoneTwice (names_of files)) (opened : WhereTold old.folder (λ f. AreOpened (contents f) files))
    (lends : Lends (names_of files) old mid lent) where
  abbrev pub trace_of : List Held → Trace
  trace_of f = attached_trace (names_of files) f

  pub lent_told : (f : List Held) → old.folder ≡ Some f → lent.told ≡ Some (trace_of f)
  lent_told f told = ap (λ (d : Disk). d.told) lends.disk_is ∙ ap (option_map (attached_trace (names_of files))) told

  pub mid_folder : (f : List Held) → old.folder ≡ Some f → mid.folder ≡ Some (without (names_of files) f)
  mid_folder f told = ap (λ (h : Hosted). h.folder) lends.host_is ∙ ap (option_map (without (names_of files))) told

  pub told_before : (t : Trace) → lent.told ≡ Some t → (f : List Held) × (old.folder ≡ Some f) × (t ≡ trace_of f)
  told_before t told = by_folder old.folder refl
    where
      by_folder : (folder : Option (List Held)) → old.folder ≡ folder → (f : List Held) × (old.folder ≡ Some f) × (t ≡ trace_of f)
      by_folder None e = let never : None ≡ Some t = sym (ap (option_map (attached_trace (names_of files))) e) ∙ sym (ap (λ (d : Disk). d.told) lends.disk_is) ∙ told in cc
      by_folder (Some f) e = (f, e, same_Some t (trace_of f) (sym told ∙ lent_told f e))

  pub all_files : lent.files ≡ length files
  all_files = ap (λ (d : Disk). d.files) lends.disk_is ∙ length-map files (λ f. f.name)

  pub lent_opened : WhereTold lent.told (AreOpenedFrom 0 files)
  lent_opened t told =
      let b = told_before t told in
      subst (AreOpenedFrom 0 files) (sym b.2) (opened_from (names_of files) b.0 0 files (each_at (trace_of b.0).attached) (opened b.0 b.1))

  pub names_told : (f : List Held) → names_in (trace_of f).attached ≡ names_of files
  unfolding names_in
  names_told f = names_attached (names_of files) f

  pub there_in : (f : List Held) → old.folder ≡ Some f → AllByRecursion (λ name. has_name name f ≡ true) (names_of files)
  there_in f told = opened_there f files (opened f told)

  module _ (disk : Disk) (kept : disk.told ≡ lent.told) where
    told_is : (f : List Held) → old.folder ≡ Some f → disk.told ≡ Some (trace_of f)
    told_is f told = kept ∙ lent_told f told

    pub back_requires : WhereTold mid.folder (λ folder. WhereTold disk.told (λ trace. AreAway trace folder))
    back_requires g is t told =
        let b = told_before t (sym kept ∙ told) in
        let rest : without (names_of files) b.0 ≡ g = same_Some _ g (sym (mid_folder b.0 b.1) ∙ is) in
        subst (AreAway t) rest (subst (λ x. AreAway x (without (names_of files) b.0)) (sym b.2) (are_away (names_of files) b.0 (trace_of b.0) (names_told b.0) (there_in b.0 b.1)))

    module _ (now : Hosted) (back_is : WhereTold disk.told (λ trace. now.folder ≡ option_map (given_back trace) mid.folder)) (untold_is : disk.told ≡ None → mid.folder ≡ None → now.folder ≡ None) (past_is : KeepsStore disk mid now)
        (count : RoseWhere (HasFailed disk) mid.faults now.faults) where
      now_is : (f : List Held) → old.folder ≡ Some f → now.folder ≡ Some (given_back (trace_of f) (without (names_of files) f))
      now_is f told = back_is (trace_of f) (told_is f told) ∙ ap (option_map (given_back (trace_of f))) (mid_folder f told)

      is_anew : (f : List Held) → old.folder ≡ Some f → AreAnew (names_of files) f (given_back (trace_of f) (without (names_of files) f))
      is_anew f told = all_back (names_of files) f (idle f told) once (there_in f told)

      came_kept : (f : List Held) → old.folder ≡ Some f → IsKept (come_back disk (trace_of f) (without (names_of files) f)) old.past now.past
      came_kept f told = subst (λ p. IsKept (come_back disk (trace_of f) (without (names_of files) f)) p now.past) (ap (λ (h : Hosted). h.past) lends.host_is) (past_is (trace_of f) (told_is f told) (without (names_of files) f) (mid_folder f told))

      pub back_attaches : OnlyAttaches (names_of files) old now
      back_attaches f told =
          throughout_back (AreAnew (names_of files) f) old now (come_back disk (trace_of f) (without (names_of files) f)) (came_kept f told)
          (λ k within. subst (λ t. AreAnew (names_of files) f (given_back t (without (names_of files) f))) (sym (still_at (names_of files) f k within)) (is_anew f told))
          (λ g is. subst (AreAnew (names_of files) f) (same_Some _ g (sym (now_is f told) ∙ is)) (is_anew f told))

      replays_none : (f : List Held) → old.folder ≡ Some f → Replays [] (contents f) (contents (given_back (trace_of f) (without (names_of files) f)))
      replays_none f told =
          let same = anew_contents (names_of files) f (given_back (trace_of f) (without (names_of files) f)) (is_anew f told) in
          record { none = λ name none. same name ∙ none; each = λ name bytes had. (bytes, same name ∙ had, effects.untouched refl) }

      within_none : Within (Replays []) old.folder now.folder
      within_none f told = (given_back (trace_of f) (without (names_of files) f), now_is f told, replays_none f told)

      within_each : Within KeepsEach old.folder now.folder
      within_each f told = (given_back (trace_of f) (without (names_of files) f), now_is f told, replays_keep [] (contents f) _ (replays_none f told))

      stays_idle : StaysIdle old.folder now.folder
      stays_idle f told g is = subst AllIdle (same_Some _ g (sym (now_is f told) ∙ is)) (anew_idle (names_of files) f _ (is_anew f told) (idle f told))

      faults : mid.faults ≡ old.faults
      faults = ap (λ (h : Hosted). h.faults) lends.host_is

      no_read : (file : ℕ) → lent.failed_reads file ≡ 0
      no_read file = ap (λ (d : Disk). d.failed_reads file) lends.disk_is

      no_change : (file : ℕ) → lent.failed_changes file ≡ 0
      no_change file = ap (λ (d : Disk). d.failed_changes file) lends.disk_is

      quiet : disk ≡ lent → now.faults ≡ old.faults
      quiet same = count.none (λ (file, there, failed). failed (ap (λ (d : Disk). d.failed_reads file + d.failed_changes file) same ∙ omega (arith, no_read file, no_change file))) ∙ faults

      replayed : disk ≡ lent → HasReplayed [] old now
      replayed same = record {
        files = within_none;
        untold = λ none.
            untold_is (kept ∙ ap (λ (d : Disk). d.told) lends.disk_is ∙ ap (option_map (attached_trace (names_of files))) none) (ap (λ (h : Hosted). h.folder) lends.host_is ∙ ap (option_map (without (names_of files))) none);
        idle = stays_idle;
        quiet = quiet same;
        healthy = λ f told. returned_one IsHealthy old now _ (came_kept f told)
            (record { reads = λ file. ap (λ (d : Disk). d.failed_reads file) same ∙ no_read file; changes = λ file. ap (λ (d : Disk). d.failed_changes file) same ∙ no_change file });
      }

      stopped : (fault : StoreFault) → fault.file < lent.files → ReadFailed fault.file lent disk fault → StoreStopped old now fault.count
      stopped fault there failed =
          let c = failed.count in
          let risen : 1 ≤ disk.failed_reads fault.file = omega (arith, c.rose.risen, no_read fault.file) in
          let all : disk.files ≡ lent.files = ap (λ (d : Disk). d.files) failed.stays in
          record {
            files = within_each;
            rose = subst (λ n. Rose n now.faults) faults (count.some (fault.file, omega (arith, all, there), λ e. omega (arith, e, risen)));
            some = omega (arith, c.told, risen);
            last = λ f told. last_one fault.count fault.file old now _ (came_kept f told) (inl c.told);
          }

      left_by : (meaning : Meaning Refusal) → LeavesStoreBy lent disk meaning → LeavesReadBy old now meaning
      left_by (refuses refusal) h = absurd h
      left_by (host_failed fault) h = absurd h
      left_by (store_failed fault) h = stopped fault h.0 h.1
      left_by no_memory h = record { files = within_each; idle = stays_idle; quiet = quiet h }

      pub back_left : {A : Type 0} (result : Result A ChainRefusal) → LeavesStore lent disk result → LeavesRead old now result
      back_left (Ok x) h = replayed h
      back_left (Err refusal) h = left_by (meaning_of_chain refusal) h

  -- what was read of the store is the folder's
  pub has_read : {A E : Type 0} (first count : ℕ) (bytes_in : A → List ℕ) (result : Result A E) → IfOk result (λ x. WhereTold lent.told (λ t. bytes_in x ≡ bytes_of_disk (take count (drop first (disk_of (members_of (placed_from 0 files t)))))))
      → IfOk result (λ x. WhereTold old.folder (λ f. HasRead (contents f) files first count (bytes_in x)))
  has_read first count bytes_in (Ok x) h = λ f told. record {
    members = members_of (placed_from 0 files (trace_of f));
    there = placed_in (names_of files) f 0 files (each_at (trace_of f).attached) (opened f told);
    are = placed_are (names_of files) f 0 files (each_at (trace_of f).attached);
    bytes_are = h (trace_of f) (lent_told f told);
  }
  has_read first count bytes_in (Err e) h = tt

  pub has_shown : {A E : Type 0} (ids_in : A → List (List ℕ)) (result : Result A E) → IfOk result (λ x. WhereTold lent.told (λ t. ids_in x ≡ shown_from 0 files t))
      → IfOk result (λ x. WhereTold old.folder (λ f. ShowIds (contents f) files (ids_in x)))
  has_shown ids_in (Ok x) h =
      λ f told. subst (ShowIds (contents f) files) (sym (h (trace_of f) (lent_told f told))) (shows_from (names_of files) f 0 files (each_at (trace_of f).attached) (opened f told))
  has_shown ids_in (Err e) h = tt
