-- A folder in which one file is touched.
use Rattle.std.proofs.Common.{◌≡◌, ◌≤◌, ℕ, zero, Bool, true, false, cond, List, [], ◌∷◌, Option, Some, None, refl, sym, ap, subst, ◌∙◌, arith}
use Rattle.std.specs.Prelude.{option_map, unwrap_or}
use Rattle.std.specs.Str.{bytes_eq}
use Rattle.std.proofs.lemmas.Option.{same_Some}
use Rattle.store_model.specs.Disk.{Disk, WhereTold, WhereBothTold}
use Rattle.store_model.specs.File.{File, seen}
use Rattle.store_model.specs.Folder.{Held, Hosted, IsKept, KeepsStore, Returned, attached_trace, come_back, file_named, folder_at, given_back, has_name, seen_named, with_file, without}
use Rattle.store_model.specs.Moments.{Throughout}
use Rattle.store_model.specs.Trace.{Trace, at_moment, file_of, moment}
use Rattle.store_model.proofs.Spans.{at_moment-now}
use Rattle.store_model.proofs.Throughout.{throughout_back, throughout_still}
use Rattle.torn_match.specs.TornMatches.{ChangesUntorn}
use Rattle.log_replay.specs.Replays.{OnlyChanges}
use Rattle.file_open.specs.Causes.{Meaning, refuses, host_failed, store_failed, no_memory}
use Rattle.file_open.specs.Effects.{IsLongEnough}
use Rattle.file_open.specs.Opening as opening
use Rattle.link_rules.specs.Folders.{AllIdle, Lends, LendsNone}
use Rattle.link_rules.proofs.Lent.{IsBack, attached_same, back, lent_only, rest_idle, same_name, seen-attached, synced_attached, there_further}
use Rattle.link_rules.proofs.Safe.{back_at}
use Rattle.file_repair.specs.Repairing.{RepairsAlike, RepairsMoments}
use Rattle.named_file.specs.Repairs.{IsTouched, KeepsImages, OnlyRepairs, RepairsSafely, TouchesOne, touched, untouched}

pub same_touched : (P : File → File → Type 0) (name : List ℕ) (folder : List Held) → TouchesOne P name folder folder
same_touched P name [] = tt
same_touched P name (held ∷ folder) = (untouched, same_touched P name folder)

pub one_touched : (P : File → File → Type 0) (name : List ℕ) (folder : List Held) (file : File) → AllIdle folder → has_name name folder ≡ true → ((before : File) → file_named name folder ≡ Some before → P before file)
    → TouchesOne P name folder (with_file name (Some file) folder)
one_touched P name [] file idle there each = tt
one_touched P name (held ∷ folder) file idle there each = by_name (bytes_eq held.name name) refl (one_touched P name folder file (rest_idle held folder idle)) where
  by_name : (b : Bool) → bytes_eq held.name name ≡ b
      → (has_name name folder ≡ true → ((before : File) → file_named name folder ≡ Some before → P before file) → TouchesOne P name folder (with_file name (Some file) folder))
      → TouchesOne P name (held ∷ folder) (with_file name (Some file) (held ∷ folder))
  by_name true e further =
      let here = idle zero held (omega arith) in
      subst (λ c. TouchesOne P name (held ∷ folder) (cond c (record held { file = Some file } ∷ folder) (held ∷ with_file name (Some file) folder))) (sym e)
      (touched here.0 file (same_name held.name name e) here.1 (each here.0 (ap (λ c. cond c held.file (file_named name folder)) e ∙ here.1)), same_touched P name folder)
  by_name false e further =
      subst (λ c. TouchesOne P name (held ∷ folder) (cond c (record held { file = Some file } ∷ folder) (held ∷ with_file name (Some file) folder))) (sym e)
      (untouched, further (there_further held folder name e there) (λ before is. each before (ap (λ c. cond c held.file (file_named name folder)) e ∙ is)))

-- ---- a file that is lent, repaired and given back

module _ (name : List ℕ) (old mid now : Hosted) (lent disk : Disk) (idle : WhereTold old.folder AllIdle) (lends : Lends name old mid lent) (only : WhereBothTold (OnlyChanges 0) lent.told disk.told)
    (images : RepairsMoments 0 lent.told disk.told) (back_is : WhereTold disk.told (λ trace. now.folder ≡ option_map (given_back trace) mid.folder)) where
  pub came_back : (f : List Held) → old.folder ≡ Some f → (u : Trace) × (disk.told ≡ Some u) × IsBack name f now.folder u
  came_back f told = back name old.folder mid.folder now.folder disk.told (lent_only name old mid lent disk.told lends only) back_is f told

  pub lent_told : (f : List Held) → old.folder ≡ Some f → lent.told ≡ Some (attached_trace (name ∷ []) f)
  lent_told f told = ap (λ (d : Disk). d.told) lends.disk_is ∙ ap (option_map (attached_trace (name ∷ []))) told

  keeps_at : (f : List Held) (u : Trace) → old.folder ≡ Some f → disk.told ≡ Some u → (k : ℕ) → k ≤ moment u → (before : File) → file_named name f ≡ Some before → KeepsImages before (file_of (at_moment k u) 0)
  unfolding moment
  keeps_at f u told is k within before had long =
      let first = attached_trace (name ∷ []) f in
      let bytes : seen (file_of first 0) ≡ seen before = seen-attached name f ∙ ap (λ o. unwrap_or (option_map seen o) []) had in
      let all = images first (lent_told f told) (synced_attached name f) (subst IsLongEnough (sym bytes) long) in
      let both : ChangesUntorn 0 (RepairsAlike (seen (file_of first 0))) first u =
      subst (λ o. WhereBothTold (ChangesUntorn 0 (RepairsAlike (seen (file_of first 0)))) o (Some u)) (lent_told f told)
      (subst (λ o. WhereBothTold (ChangesUntorn 0 (RepairsAlike (seen (file_of first 0)))) lent.told o) is all) in
      λ image here whole. subst (λ b. RepairsAlike b image) bytes ((both.each k (omega arith) within).has image here whole)

  touched_at : (f : List Held) (u : Trace) → old.folder ≡ Some f → disk.told ≡ Some u → (k : ℕ) → k ≤ moment u → TouchesOne KeepsImages name f (with_file name (Some (file_of (at_moment k u) 0)) f)
  touched_at f u told is k within = one_touched KeepsImages name f (file_of (at_moment k u) 0) (idle f told) (lends.there f told) (keeps_at f u told is k within)

  touched_now : (f : List Held) (u : Trace) → old.folder ≡ Some f → disk.told ≡ Some u → TouchesOne KeepsImages name f (with_file name (Some (file_of u 0)) f)
  touched_now f u told is = subst (λ t. TouchesOne KeepsImages name f (with_file name (Some (file_of t 0)) f)) (at_moment-now u) (touched_at f u told is (moment u) (omega arith))

  pub only_repaired : OnlyRepairs name old.folder now.folder
  only_repaired f told = let b = came_back f told in (with_file name (Some (file_of b.0 0)) f, (b.2).after_is, touched_now f b.0 told b.1)

  pub repaired_safely : KeepsStore disk mid now → RepairsSafely name old now
  repaired_safely past_is f told =
      let b = came_back f told in
      let u : Trace = b.0 in
      let rest = with_file name None f in
      let mid_folder : mid.folder ≡ Some rest = ap (λ (h : Hosted). h.folder) lends.host_is ∙ ap (option_map (without (name ∷ []))) told in
      let mid_past : mid.past ≡ old.past = ap (λ (h : Hosted). h.past) lends.host_is in
      let same = attached_same _ _ (b.2).only in
      let came : Returned = come_back disk u rest in
      throughout_back (TouchesOne KeepsImages name f) old now came (subst (λ p. IsKept came p now.past) mid_past (past_is u b.1 rest mid_folder))
      (λ k within. subst (TouchesOne KeepsImages name f) (sym (back_at name f u same k disk)) (touched_at f u told b.1 k within))
      (λ g is. subst (TouchesOne KeepsImages name f) (same_Some _ _ (sym (b.2).after_is ∙ is)) (touched_now f u told b.1))

-- ---- one that isn't

pub still_repaired : (name : List ℕ) (old now : Hosted) → now.folder ≡ old.folder → OnlyRepairs name old.folder now.folder
still_repaired name old now same f told = (f, same ∙ told, same_touched KeepsImages name f)

pub still_safely : (name : List ℕ) (old now : Hosted) → now.folder ≡ old.folder → now.past ≡ old.past → RepairsSafely name old now
still_safely name old now folder_is past_is f told =
    throughout_still (TouchesOne KeepsImages name f) old now past_is (λ g is. subst (TouchesOne KeepsImages name f) (same_Some f g (sym told ∙ sym folder_is ∙ is)) (same_touched KeepsImages name f))

unlent_same : (name : List ℕ) (old now : Hosted) (meaning : Meaning opening.Refusal) → LendsNone name old now meaning → (now.folder ≡ old.folder) × (now.past ≡ old.past)
unlent_same name old now (refuses refusal) (is, none, same) = (ap (λ h. h.folder) same, ap (λ h. h.past) same)
unlent_same name old now (host_failed fault) failed = (ap (λ h. h.folder) failed.stays, ap (λ h. h.past) failed.stays)
unlent_same name old now (store_failed fault) h = absurd h
unlent_same name old now no_memory same = (ap (λ h. h.folder) same, ap (λ h. h.past) same)

pub unlent_only : (name : List ℕ) (old now : Hosted) (meaning : Meaning opening.Refusal) → LendsNone name old now meaning → OnlyRepairs name old.folder now.folder
unlent_only name old now meaning h = still_repaired name old now (unlent_same name old now meaning h).0

pub unlent_safely : (name : List ℕ) (old now : Hosted) (meaning : Meaning opening.Refusal) → LendsNone name old now meaning → RepairsSafely name old now
unlent_safely name old now meaning h = let s = unlent_same name old now meaning h in still_safely name old now s.0 s.1
