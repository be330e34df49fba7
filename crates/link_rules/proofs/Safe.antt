-- Each moment of a folder whose files are opened one by one.
use Rattle.std.proofs.Common.{◌≡◌, ◌≤◌, ℕ, zero, Bool, true, false, cond, List, [], ◌∷◌, Some, None, refl, sym, ap, subst, ◌∙◌, arith}
use Rattle.std.specs.Prelude.{option_map, unwrap_or}
use Rattle.std.specs.Str.{bytes_eq}
use Rattle.std.proofs.lemmas.Option.{same_Some}
use Rattle.store_model.specs.Disk.{Disk, WhereTold, WhereBothTold}
use Rattle.store_model.specs.File.{File, IsFileImage, seen}
use Rattle.store_model.specs.Folder.{Held, Hosted, IsKept, KeepsStore, Returned, attached_trace, back_from, come_back, file_named, folder_at, given_back, has_name, seen_named, with_file, without}
use Rattle.store_model.specs.Moments.{Throughout}
use Rattle.store_model.specs.Trace.{ChangesOnly, Trace, at_moment, file_of, moment}
use Rattle.store_model.proofs.Spans.{at_moment-now}
use Rattle.store_model.proofs.Throughout.{attached-at_moment, throughout_back, throughout_join, throughout_still, throughout_weaken}
use Rattle.file_open.specs.Causes.{Meaning, refuses, host_failed, store_failed, no_memory}
use Rattle.file_open.specs.Effects.{IsLongEnough, KeepsFile, KeepsMoments, OpensAlike, StaysLike}
use Rattle.file_open.specs.Opening as opening
use Rattle.link_rules.specs.Folders.{AllIdle, Lends, LendsNone}
use Rattle.link_rules.specs.Touches.{AreSafe, IsSafeFile, TouchesSafely, touched, untouched}
use Rattle.link_rules.proofs.Lent.{attached_same, back, lent_as, rest_idle, seen-attached, synced_attached, there_further, twice, same_name}

-- ---- a folder and a later one

pub safe_same : (may : List ℕ → Type 0) (folder : List Held) → AreSafe may folder folder
safe_same may [] = tt
safe_same may (held ∷ folder) = (untouched, safe_same may folder)

module _ (P Q : List ℕ → Type 0) (weaker : (name : List ℕ) → P name → Q name) where
  file_weaker : (held later : Held) → IsSafeFile P held later → IsSafeFile Q held later
  file_weaker held _ untouched = untouched
  file_weaker held _ (touched before after p had images) = touched before after (weaker held.name p) had images

  pub safe_weaker : (folder now : List Held) → AreSafe P folder now → AreSafe Q folder now
  safe_weaker [] [] h = tt
  safe_weaker [] (later ∷ now) h = absurd h
  safe_weaker (held ∷ folder) [] h = absurd h
  safe_weaker (held ∷ folder) (later ∷ now) h = (file_weaker held later h.0, safe_weaker folder now h.1)

-- two stretches in which no file is touched twice
module _ (P Q R : List ℕ → Type 0) (first : (name : List ℕ) → P name → R name) (second : (name : List ℕ) → Q name → R name) (apart : (name : List ℕ) → P name → Q name → ⊥) where
  file_both : (held mid later : Held) → IsSafeFile P held mid → IsSafeFile Q mid later → IsSafeFile R held later
  file_both held _ _ untouched untouched = untouched
  file_both held _ _ untouched (touched before after q had images) = touched before after (second held.name q) had images
  file_both held _ _ (touched before after p had images) untouched = touched before after (first held.name p) had images
  file_both held _ _ (touched before after p had images) (touched again then q also others) = absurd (apart held.name p q)

  pub safe_both : (folder mid now : List Held) → AreSafe P folder mid → AreSafe Q mid now → AreSafe R folder now
  safe_both [] [] [] h k = tt
  safe_both [] [] (later ∷ now) h k = absurd k
  safe_both [] (m ∷ mid) now h k = absurd h
  safe_both (held ∷ folder) [] now h k = absurd h
  safe_both (held ∷ folder) (m ∷ mid) [] h k = absurd k
  safe_both (held ∷ folder) (m ∷ mid) (later ∷ now) h k = (file_both held m later h.0 k.0, safe_both folder mid now h.1 k.1)

  pub throughout_both : (folder : List Held) (old mid new : Hosted) → Throughout (AreSafe P folder) old mid → (now : List Held) → mid.folder ≡ Some now → Throughout (AreSafe Q now) mid new → Throughout (AreSafe R folder) old new
  throughout_both folder old mid new h now told k =
      throughout_join (AreSafe R folder) old mid new
      (throughout_weaken (AreSafe P folder) (AreSafe R folder) old mid (λ x. safe_weaker P R first folder x) h)
      (throughout_weaken (AreSafe Q now) (AreSafe R folder) mid new (λ x. safe_both folder now x (h.now now told)) k)

-- ---- one file that is put in

one_safe : (leaf : List ℕ) (folder : List Held) (file : File) → AllIdle folder → has_name leaf folder ≡ true
    → (IsLongEnough (seen_named leaf folder) → (image : List ℕ) → IsFileImage file image → StaysLike OpensAlike (seen_named leaf folder) image) → AreSafe (λ name. name ≡ leaf) folder (with_file leaf (Some file) folder)
one_safe leaf [] file idle there images = tt
one_safe leaf (held ∷ folder) file idle there images = by_name (bytes_eq held.name leaf) refl (one_safe leaf folder file (rest_idle held folder idle)) where
  Images : List ℕ → Type 0
  Images bytes = IsLongEnough bytes → (image : List ℕ) → IsFileImage file image → StaysLike OpensAlike bytes image

  by_name : (b : Bool) → bytes_eq held.name leaf ≡ b → (has_name leaf folder ≡ true → Images (seen_named leaf folder) → AreSafe (λ name. name ≡ leaf) folder (with_file leaf (Some file) folder))
      → AreSafe (λ name. name ≡ leaf) (held ∷ folder) (with_file leaf (Some file) (held ∷ folder))
  by_name true e further =
      let here = idle zero held (omega arith) in
      let seen_is : seen_named leaf (held ∷ folder) ≡ seen here.0 =
      ap (λ c. unwrap_or (option_map seen (cond c held.file (file_named leaf folder))) []) e ∙ ap (λ o. unwrap_or (option_map seen o) []) here.1 in
      subst (λ c. AreSafe (λ name. name ≡ leaf) (held ∷ folder) (cond c (record held { file = Some file } ∷ folder) (held ∷ with_file leaf (Some file) folder))) (sym e)
      (touched here.0 file (same_name held.name leaf e) here.1 (subst Images seen_is images), safe_same (λ name. name ≡ leaf) folder)
  by_name false e further =
      let seen_is : seen_named leaf (held ∷ folder) ≡ seen_named leaf folder = ap (λ c. unwrap_or (option_map seen (cond c held.file (file_named leaf folder))) []) e in
      subst (λ c. AreSafe (λ name. name ≡ leaf) (held ∷ folder) (cond c (record held { file = Some file } ∷ folder) (held ∷ with_file leaf (Some file) folder))) (sym e)
      (untouched, further (there_further held folder leaf e there) (subst Images seen_is images))

-- ---- a file that is lent, opened and given back

safe_at : (leaf : List ℕ) (folder : List Held) (u : Trace) → AllIdle folder → has_name leaf folder ≡ true
    → (IsLongEnough (seen_named leaf folder) → ChangesOnly 0 (StaysLike OpensAlike (seen_named leaf folder)) (attached_trace (leaf ∷ []) folder) u)
    → (k : ℕ) → k ≤ moment u → AreSafe (λ name. name ≡ leaf) folder (with_file leaf (Some (file_of (at_moment k u) 0)) folder)
unfolding moment
safe_at leaf folder u idle there changes k within =
    one_safe leaf folder (file_of (at_moment k u) 0) idle there (λ long image is. ((changes long).each k (omega arith) within).images image is)

pub back_at : (leaf : List ℕ) (folder : List Held) (u : Trace) → u.attached ≡ (attached_trace (leaf ∷ []) folder).attached → (k : ℕ) (disk : Disk)
    → folder_at k (come_back disk u (with_file leaf None folder)) ≡ with_file leaf (Some (file_of (at_moment k u) 0)) folder
back_at leaf folder u same k disk =
    ap (λ files. back_from 0 files (at_moment k u) (with_file leaf None folder)) (attached-at_moment k u ∙ same) ∙ twice leaf (Some (file_of (at_moment k u) 0)) None folder

pub opened_safely : (leaf : List ℕ) (old mid now : Hosted) (lent disk : Disk) → WhereTold old.folder AllIdle → Lends leaf old mid lent → WhereBothTold (KeepsFile 0) lent.told disk.told → KeepsMoments OpensAlike 0 lent.told disk.told
    → WhereTold disk.told (λ trace. now.folder ≡ option_map (given_back trace) mid.folder)
    → KeepsStore disk mid now → TouchesSafely (λ folder name. name ≡ leaf) old now
opened_safely leaf old mid now lent disk idle lends kept images back_is past_is f told =
    let is_lent = lent_as leaf old mid lent disk.told lends kept in
    let b = back leaf old.folder mid.folder now.folder disk.told is_lent back_is f told in
    let u : Trace = b.0 in
    let rest = with_file leaf None f in
    let there = lends.there f told in
    let lent_told : lent.told ≡ Some (attached_trace (leaf ∷ []) f) = ap (λ (d : Disk). d.told) lends.disk_is ∙ ap (option_map (attached_trace (leaf ∷ []))) told in
    let mid_folder : mid.folder ≡ Some rest = ap (λ (h : Hosted). h.folder) lends.host_is ∙ ap (option_map (without (leaf ∷ []))) told in
    let mid_past : mid.past ≡ old.past = ap (λ (h : Hosted). h.past) lends.host_is in
    let same = attached_same _ _ (b.2).only in
    let changes : IsLongEnough (seen_named leaf f) → ChangesOnly 0 (StaysLike OpensAlike (seen_named leaf f)) (attached_trace (leaf ∷ []) f) u = by_both f u lent_told b.1 in
    let came : Returned = come_back disk u rest in
    throughout_back (AreSafe (λ name. name ≡ leaf) f) old now came (subst (λ p. IsKept came p now.past) mid_past (past_is u b.1 rest mid_folder))
    (λ k within. subst (AreSafe (λ name. name ≡ leaf) f) (sym (back_at leaf f u same k disk)) (safe_at leaf f u (idle f told) there changes k within))
    (λ g is.
    subst (AreSafe (λ name. name ≡ leaf) f) (ap (λ t. with_file leaf (Some (file_of t 0)) f) (at_moment-now u) ∙ same_Some _ _ (sym (b.2).after_is ∙ is))
    (safe_at leaf f u (idle f told) there changes (moment u) (omega arith))) where
      by_both : (f : List Held) (u : Trace) → lent.told ≡ Some (attached_trace (leaf ∷ []) f) → disk.told ≡ Some u → IsLongEnough (seen_named leaf f) → ChangesOnly 0 (StaysLike OpensAlike (seen_named leaf f)) (attached_trace (leaf ∷ []) f) u
      by_both f u lent_told disk_told long =
          let first = attached_trace (leaf ∷ []) f in
          let all = images first lent_told (synced_attached leaf f) (subst IsLongEnough (sym (seen-attached leaf f)) long) in
          let both : ChangesOnly 0 (StaysLike OpensAlike (seen (file_of first 0))) first u =
          subst (λ o. WhereBothTold (ChangesOnly 0 (StaysLike OpensAlike (seen (file_of first 0)))) o (Some u)) lent_told
          (subst (λ o. WhereBothTold (ChangesOnly 0 (StaysLike OpensAlike (seen (file_of first 0)))) lent.told o) disk_told all) in
          subst (λ bytes. ChangesOnly 0 (StaysLike OpensAlike bytes) first u) (seen-attached leaf f) both

-- ---- one that isn't

pub still_safely : (may : List Held → List ℕ → Type 0) (old now : Hosted) → now.folder ≡ old.folder → now.past ≡ old.past → TouchesSafely may old now
still_safely may old now folder_is past_is f told =
    throughout_still (AreSafe (may f) f) old now past_is (λ g is. subst (AreSafe (may f) f) (same_Some f g (sym told ∙ sym folder_is ∙ is)) (safe_same (may f) f))

pub none_safely : (may : List Held → List ℕ → Type 0) (host : Hosted) → TouchesSafely may host host
none_safely may host = still_safely may host host refl refl

pub unlent_safely : (may : List Held → List ℕ → Type 0) (leaf : List ℕ) (old now : Hosted) (meaning : Meaning opening.Refusal) → LendsNone leaf old now meaning → TouchesSafely may old now
unlent_safely may leaf old now (refuses refusal) (is, none, same) = still_safely may old now (ap (λ h. h.folder) same) (ap (λ h. h.past) same)
unlent_safely may leaf old now (host_failed fault) failed = still_safely may old now (ap (λ h. h.folder) failed.stays) (ap (λ h. h.past) failed.stays)
unlent_safely may leaf old now (store_failed fault) h = absurd h
unlent_safely may leaf old now no_memory same = still_safely may old now (ap (λ h. h.folder) same) (ap (λ h. h.past) same)

-- ---- what may be touched

pub safely_weaker : (P Q : List Held → List ℕ → Type 0) (old new : Hosted) → WhereTold old.folder (λ f. (name : List ℕ) → P f name → Q f name) → TouchesSafely P old new → TouchesSafely Q old new
safely_weaker P Q old new weaker h f told = throughout_weaken (AreSafe (P f) f) (AreSafe (Q f) f) old new (λ x. safe_weaker (P f) (Q f) (weaker f told) f x) (h f told)
