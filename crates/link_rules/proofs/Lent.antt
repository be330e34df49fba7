-- A folder that lends one file and has it back, opened.
use Rattle.std.proofs.Common.{◌≡◌, ◌≤◌, ◌+◌, ℕ, zero, suc, Bool, true, false, cond, List, [], ◌∷◌, Option, Some, None, refl, sym, ap, subst, ◌∙◌, arith, inl, inr}
use Rattle.std.specs.Prelude.{◌⊎◌, ◌||◌, All, Ok, Err, Result, option_map, unwrap_or}
use Rattle.std.specs.Str.{bytes_eq}
use Rattle.std.proofs.lemmas.Bool.{or_left, or_right, true≢false}
use Rattle.std.proofs.lemmas.Option.{none-some, same_Some}
use Rattle.std.proofs.lemmas.Slice.Eq.{bytes_eq-Decides}
use Rattle.store_model.specs.Cause.{Rose}
use Rattle.store_model.specs.Disk.{Disk, WhereTold, WhereBothTold}
use Rattle.store_model.specs.File.{File, is_sealed, is_synced, seen}
use Rattle.store_model.specs.Folder.{Held, Hosted, HasFailed, RoseWhere, has_name, file_named, with_file, seen_named, CanAttach, attached_trace, without, back_from, given_back, AreAway}
use Rattle.store_model.specs.Trace.{Trace, at_moment, file_of}
use Rattle.store_model.specs.declared.fault.StoreFault.{StoreFault}
use Rattle.file_open.specs.Causes.{Meaning, refuses, host_failed, store_failed, no_memory, meaning_of, AnswersBy, IfCause, cause_of, cause_in}
use Rattle.file_open.specs.Effects.{CallFailed, of_read, of_change, HasOpened, IsOpened, KeepsFile, LeavesFile, LeavesOpened, OpensAlike, RanOut, StaysSynced}
use Rattle.file_open.proofs.Settling.{both_map}
use Rattle.file_open.specs.Opening.{Opens, FileMissing}
use Rattle.file_open.specs.Opening as opening
use Rattle.file_open.specs.declared.refusal.OpenRefusal.{OpenRefusal}
use Rattle.log_replay.specs.Replays.{OnlyChanges}
use Rattle.vhdx_format.specs.SettledFiles.{StandsFor}
use Rattle.vx_base.specs.declared.parts.Parts.{Parts}
use Rattle.std.specs.Result.{IsErrAnd}
use Rattle.link_rules.specs.Chains.{OpensIn, missing, present, is_among}
use Rattle.link_rules.specs.Effects.{HasReplayed, MemoryStopped, StoreFailed, StoreStopped, IsKept, untouched, replayed, KeepsEach, LeavesBy, LeavesNamed, Replays, StaysIdle, Within}
use Rattle.link_rules.specs.Folders.{AllIdle, ReturnsHealthy, contents, Lends, LendsNone}
use Rattle.store_model.specs.Folder.{KeepsStore, come_back, IsKept as IsComeBack}
use Rattle.store_model.specs.Moments.{IsHealthy, LastReturnedCounts}
use Rattle.store_model.proofs.Throughout.{last_one, returned_none, returned_one}

pub seen-attached : (leaf : List ℕ) (folder : List Held) → seen (file_of (attached_trace (leaf ∷ []) folder) 0) ≡ seen_named leaf folder
unfolding file_of
seen-attached leaf folder = refl

pub rest_idle : (held : Held) (folder : List Held) → AllIdle (held ∷ folder) → AllIdle folder
rest_idle held folder idle k d h = idle (suc k) d (omega arith)

pub there_further : (held : Held) (folder : List Held) (leaf : List ℕ) → bytes_eq held.name leaf ≡ false → has_name leaf (held ∷ folder) ≡ true → has_name leaf folder ≡ true
there_further held folder leaf e there = ap (λ b. b || has_name leaf folder) (sym e) ∙ there

-- a file that is there may be attached
pub can_attach : (leaf : List ℕ) (folder : List Held) → AllIdle folder → has_name leaf folder ≡ true → CanAttach folder leaf
can_attach leaf [] idle there = absurd (true≢false (sym there))
can_attach leaf (held ∷ folder) idle there = by_name (bytes_eq held.name leaf) refl (can_attach leaf folder (rest_idle held folder idle)) where
  by_name : (b : Bool) → bytes_eq held.name leaf ≡ b → (has_name leaf folder ≡ true → CanAttach folder leaf) → CanAttach (held ∷ folder) leaf
  by_name true e further =
      let here = idle zero held (omega arith) in
      (here.0, ap (λ b. cond b held.file (file_named leaf folder)) e ∙ here.1, here.2)
  by_name false e further =
      let found = further (there_further held folder leaf e there) in
      (found.0, ap (λ b. cond b held.file (file_named leaf folder)) e ∙ found.1, found.2)

-- while it is lent it is away
IsAway : List ℕ → List Held → Type 0
IsAway leaf folder = (has_name leaf folder ≡ true) × (file_named leaf folder ≡ None)

away : (leaf : List ℕ) (folder : List Held) → has_name leaf folder ≡ true → IsAway leaf (with_file leaf None folder)
unfolding IsAway
away leaf [] there = absurd (true≢false (sym there))
away leaf (held ∷ folder) there = by_name (bytes_eq held.name leaf) refl (away leaf folder) where
  lent : Held
  lent = record { name = held.name; file = None }

  by_name : (b : Bool) → bytes_eq held.name leaf ≡ b → (has_name leaf folder ≡ true → IsAway leaf (with_file leaf None folder)) → IsAway leaf (with_file leaf None (held ∷ folder))
  by_name true e further =
      subst (λ b. IsAway leaf (cond b (record held { file = None } ∷ folder) (held ∷ with_file leaf None folder))) (sym e)
      (or_left (bytes_eq held.name leaf) (has_name leaf folder) e, ap (λ b. cond b None (file_named leaf folder)) e)
  by_name false e further =
      let rest = further (there_further held folder leaf e there) in
      subst (λ b. IsAway leaf (cond b (record held { file = None } ∷ folder) (held ∷ with_file leaf None folder))) (sym e)
      (or_right (bytes_eq held.name leaf) (has_name leaf (with_file leaf None folder)) rest.0, ap (λ b. cond b held.file (file_named leaf (with_file leaf None folder))) e ∙ rest.1)

-- a file that is put in twice is there once
pub twice : (leaf : List ℕ) (a b : Option File) (folder : List Held) → with_file leaf a (with_file leaf b folder) ≡ with_file leaf a folder
twice leaf a b [] = refl
twice leaf a b (held ∷ folder) = by_name (bytes_eq held.name leaf) refl (twice leaf a b folder) where
  by_name : (c : Bool) → bytes_eq held.name leaf ≡ c → with_file leaf a (with_file leaf b folder) ≡ with_file leaf a folder → with_file leaf a (with_file leaf b (held ∷ folder)) ≡ with_file leaf a (held ∷ folder)
  by_name true e rest =
      ap (λ c. with_file leaf a (cond c (record held { file = b } ∷ folder) (held ∷ with_file leaf b folder))) e
      ∙ ap (λ c. cond c (record held { file = a } ∷ folder) (record held { file = b } ∷ with_file leaf a folder)) e
      ∙ sym (ap (λ c. cond c (record held { file = a } ∷ folder) (held ∷ with_file leaf a folder)) e)
  by_name false e rest =
      ap (λ c. with_file leaf a (cond c (record held { file = b } ∷ folder) (held ∷ with_file leaf b folder))) e
      ∙ ap (λ c. cond c (record held { file = a } ∷ with_file leaf b folder) (held ∷ with_file leaf a (with_file leaf b folder))) e
      ∙ ap (λ rest. held ∷ rest) rest
      ∙ sym (ap (λ c. cond c (record held { file = a } ∷ folder) (held ∷ with_file leaf a folder)) e)

-- its own file put in changes nothing
own : (leaf : List ℕ) (folder : List Held) → with_file leaf (file_named leaf folder) folder ≡ folder
own leaf [] = refl
own leaf (held ∷ folder) = by_name (bytes_eq held.name leaf) refl (own leaf folder) where
  by_name : (c : Bool) → bytes_eq held.name leaf ≡ c → with_file leaf (file_named leaf folder) folder ≡ folder → with_file leaf (file_named leaf (held ∷ folder)) (held ∷ folder) ≡ held ∷ folder
  by_name true e rest =
      ap (λ c. cond c (record held { file = cond c held.file (file_named leaf folder) } ∷ folder) (held ∷ with_file leaf (cond c held.file (file_named leaf folder)) folder)) e
  by_name false e rest =
      ap (λ c. cond c (record held { file = cond c held.file (file_named leaf folder) } ∷ folder) (held ∷ with_file leaf (cond c held.file (file_named leaf folder)) folder)) e
      ∙ ap (λ rest. held ∷ rest) rest

-- what was put in is what is there
pub put_in : (leaf : List ℕ) (folder : List Held) (file : File) → has_name leaf folder ≡ true → file_named leaf (with_file leaf (Some file) folder) ≡ Some file
put_in leaf [] file there = absurd (true≢false (sym there))
put_in leaf (held ∷ folder) file there = by_name (bytes_eq held.name leaf) refl (put_in leaf folder file) where
  by_name : (c : Bool) → bytes_eq held.name leaf ≡ c → (has_name leaf folder ≡ true → file_named leaf (with_file leaf (Some file) folder) ≡ Some file) → file_named leaf (with_file leaf (Some file) (held ∷ folder)) ≡ Some file
  by_name true e rest =
      ap (λ c. file_named leaf (cond c (record held { file = Some file } ∷ folder) (held ∷ with_file leaf (Some file) folder))) e
      ∙ ap (λ c. cond c (Some file) (file_named leaf folder)) e
  by_name false e rest =
      ap (λ c. file_named leaf (cond c (record held { file = Some file } ∷ folder) (held ∷ with_file leaf (Some file) folder))) e
      ∙ ap (λ c. cond c held.file (file_named leaf (with_file leaf (Some file) folder))) e ∙ rest (there_further held folder leaf e there)

-- the folder once the file is lent, and what the store tells when it is given back
pub record IsLent (leaf : List ℕ) (folder lent : Option (List Held)) (told : Option Trace) : Type 0 where
  pub folder_is : lent ≡ option_map (without (leaf ∷ [])) folder
  pub only : WhereBothTold (OnlyChanges 0) (option_map (attached_trace (leaf ∷ [])) folder) told

-- the same files are attached
pub attached_same : (old new : Trace) → OnlyChanges 0 old new → new.attached ≡ old.attached
unfolding at_moment
attached_same old new only = ap (λ (t : Trace). t.attached) only.since

pub are_away : (leaf : List ℕ) (folder lent : Option (List Held)) (told : Option Trace) → IsLent leaf folder lent told → WhereTold folder (λ f. has_name leaf f ≡ true) → (t : List Held) → lent ≡ Some t → (trace : Trace) → told ≡ Some trace → AreAway trace t
unfolding IsAway
are_away leaf None lent told is there t lent_is trace told_is = absurd (none-some t (sym is.folder_is ∙ lent_is))
are_away leaf (Some folder) lent told is there t lent_is trace told_is =
    let t_is : with_file leaf None folder ≡ t = same_Some _ _ (sym is.folder_is ∙ lent_is) in
    let only : OnlyChanges 0 (attached_trace (leaf ∷ []) folder) trace = subst (WhereBothTold (OnlyChanges 0) (Some (attached_trace (leaf ∷ []) folder))) told_is is.only in
    subst (λ t. AreAway trace t) t_is (subst (All (λ f. (has_name f.name (with_file leaf None folder) ≡ true) × (file_named f.name (with_file leaf None folder) ≡ None))) (sym (attached_same _ _ only)) at_first) where
      at_first : AreAway (attached_trace (leaf ∷ []) folder) (with_file leaf None folder)
      at_first zero d h = away leaf folder (there folder refl)
      at_first (suc k) d h = absurd (omega (arith, h))

-- the folder that has it back
pub record IsBack (leaf : List ℕ) (folder : List Held) (after : Option (List Held)) (trace : Trace) : Type 0 where
  pub only : OnlyChanges 0 (attached_trace (leaf ∷ []) folder) trace
  pub after_is : after ≡ Some (with_file leaf (Some (file_of trace 0)) folder)

pub back : (leaf : List ℕ) (folder lent after : Option (List Held)) (told : Option Trace) → IsLent leaf folder lent told → WhereTold told (λ trace. after ≡ option_map (given_back trace) lent)
    → (f : List Held) → folder ≡ Some f → (trace : Trace) × (told ≡ Some trace) × IsBack leaf f after trace
back leaf None lent after told is back_is f folder_is = absurd (none-some f folder_is)
back leaf (Some g) lent after None is back_is f folder_is = absurd is.only
back leaf (Some g) lent after (Some trace) is back_is f folder_is =
    let same : g ≡ f = same_Some g f folder_is in (
      trace,
      refl,
      subst (λ x. IsBack leaf x after trace) same (record {
        only = is.only;
        after_is =
            back_is trace refl ∙ ap (option_map (given_back trace)) is.folder_is
            ∙ ap (λ files. Some (back_from 0 files trace (with_file leaf None g))) (attached_same _ _ is.only)
            ∙ ap Some (twice leaf (Some (file_of trace 0)) None g);
      }),
    )

-- a file that is missing has nothing to replay
pub missing_file : (leaf : List ℕ) (folder : List Held) → has_name leaf folder ≡ false → file_named leaf folder ≡ None
missing_file leaf [] none = refl
missing_file leaf (held ∷ folder) none = by_name (bytes_eq held.name leaf) refl (missing_file leaf folder) where
  by_name : (c : Bool) → bytes_eq held.name leaf ≡ c → (has_name leaf folder ≡ false → file_named leaf folder ≡ None) → file_named leaf (held ∷ folder) ≡ None
  by_name true e rest = absurd (true≢false (sym (or_left (bytes_eq held.name leaf) (has_name leaf folder) e) ∙ none))
  by_name false e rest = ap (λ c. cond c held.file (file_named leaf folder)) e ∙ rest (sym (ap (λ c. c || has_name leaf folder) e) ∙ none)

-- what was lent
pub lent_only : (leaf : List ℕ) (old new : Hosted) (lent : Disk) (told : Option Trace) → Lends leaf old new lent → WhereBothTold (OnlyChanges 0) lent.told told → IsLent leaf old.folder new.folder told
lent_only leaf old new lent told lends only = record {
  folder_is = ap (λ h. h.folder) lends.host_is;
  only = subst (λ t. WhereBothTold (OnlyChanges 0) t told) (ap (λ d. d.told) lends.disk_is) only;
}

pub only_kept : (old new : Option Trace) → WhereBothTold (KeepsFile 0) old new → WhereBothTold (OnlyChanges 0) old new
only_kept old new kept = both_map (KeepsFile 0) (OnlyChanges 0) old new (λ a b is k. k.only) kept

pub lent_as : (leaf : List ℕ) (old new : Hosted) (lent : Disk) (told : Option Trace) → Lends leaf old new lent → WhereBothTold (KeepsFile 0) lent.told told → IsLent leaf old.folder new.folder told
lent_as leaf old new lent told lends kept = lent_only leaf old new lent told lends (only_kept lent.told told kept)

unsealed_attached : (leaf : List ℕ) (folder : List Held) → is_sealed (file_of (attached_trace (leaf ∷ []) folder) 0) ≡ false
unfolding file_of
unsealed_attached leaf folder = refl

unsealed_in : (leaf : List ℕ) (folder : Option (List Held)) → WhereTold (option_map (attached_trace (leaf ∷ [])) folder) (λ t. is_sealed (file_of t 0) ≡ false)
unsealed_in leaf None t told = absurd (none-some t told)
unsealed_in leaf (Some folder) t told = subst (λ (t : Trace). is_sealed (file_of t 0) ≡ false) (same_Some _ t told) (unsealed_attached leaf folder)

-- it isn't sealed
pub unsealed_lent : (leaf : List ℕ) (old new : Hosted) (lent : Disk) → Lends leaf old new lent → WhereTold lent.told (λ t. is_sealed (file_of t 0) ≡ false)
unsealed_lent leaf old new lent lends = subst (λ told. WhereTold told (λ t. is_sealed (file_of t 0) ≡ false)) (sym (ap (λ d. d.told) lends.disk_is)) (unsealed_in leaf old.folder)

-- ---- nothing is unsynced

back_idle : (leaf : List ℕ) (folder : List Held) (file : File) → AllIdle folder → is_synced file ≡ true → AllIdle (with_file leaf (Some file) (with_file leaf None folder))
back_idle leaf [] file idle synced = λ k d h. absurd (omega (arith, h))
back_idle leaf (held ∷ folder) file idle synced = by_name (bytes_eq held.name leaf) refl (back_idle leaf folder file (rest_idle held folder idle) synced) where
  by_name : (b : Bool) → bytes_eq held.name leaf ≡ b → AllIdle (with_file leaf (Some file) (with_file leaf None folder)) → AllIdle (with_file leaf (Some file) (with_file leaf None (held ∷ folder)))
  by_name true e further =
      subst (λ b. AllIdle (with_file leaf (Some file) (cond b (record held { file = None } ∷ folder) (held ∷ with_file leaf None folder)))) (sym e)
      (subst (λ b. AllIdle (cond b (record held { file = Some file } ∷ folder) (record held { file = None } ∷ with_file leaf (Some file) folder))) (sym e) here)
    where
      here : AllIdle (record held { file = Some file } ∷ folder)
      here zero d h = (file, refl, synced)
      here (suc k) d h = idle (suc k) d h
  by_name false e further =
      subst (λ b. AllIdle (with_file leaf (Some file) (cond b (record held { file = None } ∷ folder) (held ∷ with_file leaf None folder)))) (sym e)
      (subst (λ b. AllIdle (cond b (record held { file = Some file } ∷ with_file leaf None folder) (held ∷ with_file leaf (Some file) (with_file leaf None folder)))) (sym e) there)
    where
      there : AllIdle (held ∷ with_file leaf (Some file) (with_file leaf None folder))
      there zero d h = idle zero d (omega arith)
      there (suc k) d h = further k d (omega (arith, h))

pub synced_attached : (leaf : List ℕ) (folder : List Held) → is_synced (file_of (attached_trace (leaf ∷ []) folder) 0) ≡ true
unfolding file_of
synced_attached leaf folder = refl

pub idle_stays : (leaf : List ℕ) (folder lent after : Option (List Held)) (told : Option Trace) → IsLent leaf folder lent told → WhereTold folder AllIdle → WhereBothTold (StaysSynced 0) (option_map (attached_trace (leaf ∷ [])) folder) told
    → WhereTold told (λ trace. after ≡ option_map (given_back trace) lent) → WhereTold folder (λ f. WhereTold after AllIdle)
idle_stays leaf folder lent after told is idle synced back_is f folder_is a after_is =
    let b = back leaf folder lent after told is back_is f folder_is in
    let stays : StaysSynced 0 (attached_trace (leaf ∷ []) f) b.0 =
    subst (λ x. WhereBothTold (StaysSynced 0) x (Some b.0)) (ap (option_map (attached_trace (leaf ∷ []))) folder_is) (subst (WhereBothTold (StaysSynced 0) (option_map (attached_trace (leaf ∷ [])) folder)) b.1 synced) in
    subst AllIdle (twice leaf (Some (file_of b.0 0)) None f ∙ same_Some _ _ (sym (b.2).after_is ∙ after_is)) (back_idle leaf f (file_of b.0 0) (idle f folder_is) (stays (synced_attached leaf f)))

synced_by : (leaf : List ℕ) (old : Hosted) (new : Hosted) (lent disk : Disk) → Lends leaf old new lent → WhereBothTold (StaysSynced 0) lent.told disk.told → WhereBothTold (StaysSynced 0) (option_map (attached_trace (leaf ∷ [])) old.folder) disk.told
synced_by leaf old new lent disk lends h = subst (λ x. WhereBothTold (StaysSynced 0) x disk.told) (ap (λ d. d.told) lends.disk_is) h

both_synced : (old new : Option Trace) → WhereBothTold (IsOpened 0) old new → WhereBothTold (StaysSynced 0) old new
both_synced None None h = tt
both_synced None (Some y) h = absurd h
both_synced (Some x) None h = absurd h
both_synced (Some x) (Some y) h = h.synced

-- ---- what is seen of the folder

pub same_name : (a b : List ℕ) → bytes_eq a b ≡ true → a ≡ b
same_name a b e = (bytes_eq-Decides a b).0 e

-- a file that is put in is there, and no other is touched
put_here : (leaf : List ℕ) (folder : List Held) (file : File) → has_name leaf folder ≡ true → contents (with_file leaf (Some file) folder) leaf ≡ Some (seen file)
put_here leaf folder file h = ap (option_map seen) (put_in leaf folder file h)

put_there : (leaf name : List ℕ) (file : Option File) (folder : List Held) → bytes_eq leaf name ≡ false → file_named name (with_file leaf file folder) ≡ file_named name folder
put_there leaf name file [] other = refl
put_there leaf name file (held ∷ folder) other = by_name (bytes_eq held.name leaf) refl (put_there leaf name file folder other) where
  by_name : (b : Bool) → bytes_eq held.name leaf ≡ b → file_named name (with_file leaf file folder) ≡ file_named name folder → file_named name (with_file leaf file (held ∷ folder)) ≡ file_named name (held ∷ folder)
  by_name true e rest =
      let apart : bytes_eq held.name name ≡ false = ap (λ n. bytes_eq n name) (same_name held.name leaf e) ∙ other in
      ap (λ c. file_named name (cond c (record held { file = file } ∷ folder) (held ∷ with_file leaf file folder))) e
      ∙ ap (λ c. cond c file (file_named name folder)) apart
      ∙ sym (ap (λ c. cond c held.file (file_named name folder)) apart)
  by_name false e rest =
      ap (λ c. file_named name (cond c (record held { file = file } ∷ folder) (held ∷ with_file leaf file folder))) e
      ∙ ap (λ r. cond (bytes_eq held.name name) held.file r) rest

pub among_one : (leaf name : List ℕ) (b : Bool) → bytes_eq leaf name ≡ b → is_among name (leaf ∷ []) ≡ b
among_one leaf name true e = ap (λ c. c || false) e
among_one leaf name false e = ap (λ c. c || false) e

-- a file that is there is seen
pub seen_there : (leaf : List ℕ) (folder : List Held) → AllIdle folder → has_name leaf folder ≡ true → contents folder leaf ≡ Some (seen_named leaf folder)
seen_there leaf folder idle h =
    let c = can_attach leaf folder idle h in
    ap (option_map seen) c.1 ∙ sym (ap (λ o. Some (unwrap_or (option_map seen o) [])) c.1)

module _ (leaf : List ℕ) (folder : List Held) (file : File) (idle : AllIdle folder) (h : has_name leaf folder ≡ true) where
  after : List Held
  after = with_file leaf (Some file) folder

  put_none : (name : List ℕ) → contents folder name ≡ None → contents after name ≡ None
  unfolding after
  put_none name none = by_name (bytes_eq leaf name) refl where
    by_name : (b : Bool) → bytes_eq leaf name ≡ b → contents after name ≡ None
    by_name true e = absurd (none-some (seen_named leaf folder) (sym (sym (seen_there leaf folder idle h) ∙ ap (contents folder) (same_name leaf name e) ∙ none)))
    by_name false e = ap (option_map seen) (put_there leaf name (Some file) folder e) ∙ none

  put_each : (P : List ℕ → List ℕ → List ℕ → Type 0) → ((name bytes : List ℕ) → bytes_eq leaf name ≡ false → P name bytes bytes) → ((name bytes : List ℕ) → bytes_eq leaf name ≡ true → bytes ≡ seen_named leaf folder → P name bytes (seen file))
      → (name bytes : List ℕ) → contents folder name ≡ Some bytes → (now : List ℕ) × (contents after name ≡ Some now) × P name bytes now
  unfolding after
  put_each P others here name bytes had = by_name (bytes_eq leaf name) refl where
    by_name : (b : Bool) → bytes_eq leaf name ≡ b → (now : List ℕ) × (contents after name ≡ Some now) × P name bytes now
    by_name true e =
        let one : leaf ≡ name = same_name leaf name e in
        (seen file, ap (contents after) (sym one) ∙ put_here leaf folder file h, here name bytes e (same_Some _ _ (sym had ∙ sym (ap (contents folder) one) ∙ seen_there leaf folder idle h)))
    by_name false e = (bytes, ap (option_map seen) (put_there leaf name (Some file) folder e) ∙ had, others name bytes e)

  one_replayed : StandsFor (seen_named leaf folder) (seen file) → Replays (leaf ∷ []) (contents folder) (contents (with_file leaf (Some file) folder))
  unfolding after
  one_replayed stands = record {
    none = put_none;
    each =
        put_each (IsKept (leaf ∷ [])) (λ name bytes e. untouched (among_one leaf name false e))
        (λ name bytes e had. replayed (seen file) (among_one leaf name true e) (subst (λ b. StandsFor b (seen file)) (sym had) stands));
  }

  one_kept : OpensAlike (seen_named leaf folder) (seen file) → KeepsEach (contents folder) (contents (with_file leaf (Some file) folder))
  unfolding after
  one_kept alike = record {
    none = put_none;
    each =
        put_each (λ name. OpensAlike) (λ name bytes e. record { stands = λ b s. s; reads = λ r o. o; opens = λ r o. o })
        (λ name bytes e had. subst (λ b. OpensAlike b (seen file)) (sym had) alike);
  }

-- ---- nothing was opened

pub none_replayed : (old : Hosted) → WhereTold old.folder AllIdle → HasReplayed [] old old
none_replayed old idle = record {
  files = λ f told. (f, told, record { none = λ name none. none; each = λ name bytes had. (bytes, had, untouched refl) });
  untold = λ none. none;
  idle = λ f told g also. idle g also;
  quiet = refl;
  healthy = λ f told. returned_none IsHealthy old old refl;
}

pub none_kept : (old new : Hosted) → new.folder ≡ old.folder → Within KeepsEach old.folder new.folder
none_kept old new same f told = (f, same ∙ told, record { none = λ name none. none; each = λ name bytes had. (bytes, had, record { stands = λ b s. s; reads = λ r o. o; opens = λ r o. o }) })

pub idle_as : (old new : Hosted) → new.folder ≡ old.folder → WhereTold old.folder AllIdle → StaysIdle old.folder new.folder
idle_as old new same idle f told g also = idle g (sym same ∙ also)

replayed_as : (old new : Hosted) → new ≡ old → WhereTold old.folder AllIdle → HasReplayed [] old new
replayed_as old new same idle = subst (HasReplayed [] old) (sym same) (none_replayed old idle)

-- a file that isn't lent leaves all
pub unlent_leaves : (leaf : List ℕ) (old new : Hosted) (meaning : Meaning opening.Refusal) → WhereTold old.folder AllIdle → LendsNone leaf old new meaning → LeavesBy old new meaning
unlent_leaves leaf old new (refuses refusal) idle (is, none, same) = record { opened = []; has = replayed_as old new same idle }
unlent_leaves leaf old new (host_failed fault) idle failed =
    let same : new.folder ≡ old.folder = ap (λ (h : Hosted). h.folder) failed.stays in
    record { files = none_kept old new same; idle = idle_as old new same idle; rose = failed.rose; told = failed.count; healthy = λ f told. returned_none IsHealthy old new (ap (λ (h : Hosted). h.past) failed.stays) }
unlent_leaves leaf old new (store_failed fault) idle h = absurd h
unlent_leaves leaf old new no_memory idle same = record {
  files = none_kept old new (ap (λ (h : Hosted). h.folder) same);
  idle = idle_as old new (ap (λ (h : Hosted). h.folder) same) idle;
  quiet = ap (λ (h : Hosted). h.faults) same;
}

pub unlent_opens : (leaf : List ℕ) (old new : Hosted) (meaning : Meaning opening.Refusal) → LendsNone leaf old new meaning → WhereTold old.folder (λ f. IfCause (OpensIn (contents f) leaf) (cause_in meaning))
unlent_opens leaf old new (refuses refusal) (is, none, same) f told = subst (λ r. OpensIn (contents f) leaf (Err r)) (sym is) (missing (ap (option_map seen) (missing_file leaf f (none f told))))
unlent_opens leaf old new (host_failed fault) h f told = tt
unlent_opens leaf old new (store_failed fault) h f told = absurd h
unlent_opens leaf old new no_memory h f told = tt

pub unlent_answers : (leaf : List ℕ) (old new : Hosted) (result : Result Parts OpenRefusal) (refusal : OpenRefusal) → IsErrAnd result (λ e. e ≡ refusal) → LendsNone leaf old new (meaning_of refusal) → WhereTold old.folder (λ f. AnswersBy (OpensIn (contents f) leaf) cause_of result)
unlent_answers leaf old new (Ok parts) refusal is h f told = absurd is
unlent_answers leaf old new (Err e) refusal is h f told = subst (λ e. IfCause (OpensIn (contents f) leaf) (cause_of e)) (sym is) (unlent_opens leaf old new (meaning_of refusal) h f told)

pub unlent_left : {A : Type 0} (leaf : List ℕ) (old new : Hosted) (result : Result A OpenRefusal) (refusal : OpenRefusal) → IsErrAnd result (λ e. e ≡ refusal) → WhereTold old.folder AllIdle → LendsNone leaf old new (meaning_of refusal) → LeavesNamed leaf old new result
unlent_left leaf old new (Ok x) refusal is idle h = absurd is
unlent_left leaf old new (Err e) refusal is idle h = subst (λ e. LeavesBy old new (meaning_of e)) (sym is) (unlent_leaves leaf old new (meaning_of refusal) idle h)

opens_there : (folder : List Held) (leaf : List ℕ) (cause : Option opening.Refusal) → contents folder leaf ≡ Some (seen_named leaf folder) → IfCause (Opens (seen_named leaf folder)) cause → IfCause (OpensIn (contents folder) leaf) cause
opens_there folder leaf None had h = tt
opens_there folder leaf (Some refusal) had h = present (seen_named leaf folder) (Err refusal) had h

pub there_answers : (folder : List Held) (leaf file : List ℕ) (result : Result Parts OpenRefusal) → AllIdle folder → has_name leaf folder ≡ true → file ≡ seen_named leaf folder → AnswersBy (Opens file) cause_of result → AnswersBy (OpensIn (contents folder) leaf) cause_of result
there_answers folder leaf file (Ok parts) idle h same o = present (seen_named leaf folder) (Ok parts) (seen_there leaf folder idle h) (subst (λ b. Opens b (Ok parts)) same o)
there_answers folder leaf file (Err e) idle h same o = opens_there folder leaf (cause_of e) (seen_there leaf folder idle h) (subst (λ b. IfCause (Opens b) (cause_of e)) same o)

-- ---- counts

-- a store as attached, of one file
record IsFresh (disk : Disk) : Type 0 where
  files : disk.files ≡ 1
  reads : (file : ℕ) → disk.failed_reads file ≡ 0
  changes : (file : ℕ) → disk.failed_changes file ≡ 0

fresh_of : (leaf : List ℕ) (old new : Hosted) (lent : Disk) → Lends leaf old new lent → IsFresh lent
fresh_of leaf old new lent lends = record {
  files = ap (λ (d : Disk). d.files) lends.disk_is;
  reads = λ file. ap (λ (d : Disk). d.failed_reads file) lends.disk_is;
  changes = λ file. ap (λ (d : Disk). d.failed_changes file) lends.disk_is;
}

none_failed : (old new : Disk) → IsFresh old → new ≡ record old { told = new.told } → HasFailed new → ⊥
none_failed old new fresh same (file, there, failed) =
    let none : new.failed_reads file + new.failed_changes file ≡ 0 = ap (λ (d : Disk). d.failed_reads file + d.failed_changes file) same ∙ omega (arith, fresh.reads file, fresh.changes file) in
    failed none

-- ---- a file that was lent, opened and given back

module _ (leaf : List ℕ) (old mid new : Hosted) (lent disk : Disk) (lends : Lends leaf old mid lent) (only : WhereBothTold (OnlyChanges 0) lent.told disk.told) (idle : WhereTold old.folder AllIdle)
    (back_is : WhereTold disk.told (λ trace. new.folder ≡ option_map (given_back trace) mid.folder)) (untold_is : disk.told ≡ None → mid.folder ≡ None → new.folder ≡ None) (count : RoseWhere (HasFailed disk) mid.faults new.faults) (past_is : KeepsStore disk mid new) where
  is_lent : IsLent leaf old.folder mid.folder disk.told
  is_lent = lent_only leaf old mid lent disk.told lends only

  faults : mid.faults ≡ old.faults
  faults = ap (λ (h : Hosted). h.faults) lends.host_is

  pub stays_synced : WhereBothTold (StaysSynced 0) lent.told disk.told → StaysIdle old.folder new.folder
  stays_synced synced = idle_stays leaf old.folder mid.folder new.folder disk.told is_lent idle (synced_by leaf old mid lent disk lends synced) back_is

  -- the store that came back
  kept_one : (f : List Held) → old.folder ≡ Some f → (u : Trace) × (rest : List Held) × IsComeBack (come_back disk u rest) old.past new.past
  kept_one f told =
      let b = back leaf old.folder mid.folder new.folder disk.told is_lent back_is f told in
      let rest = with_file leaf None f in
      let mid_folder : mid.folder ≡ Some rest = ap (λ (h : Hosted). h.folder) lends.host_is ∙ ap (option_map (without (leaf ∷ []))) told in
      (b.0, rest, subst (λ p. IsComeBack (come_back disk b.0 rest) p new.past) (ap (λ (h : Hosted). h.past) lends.host_is) (past_is b.0 b.1 rest mid_folder))

  healthy_back : disk ≡ record lent { told = disk.told } → ReturnsHealthy old new
  healthy_back same f told =
      let fresh = fresh_of leaf old mid lent lends in
      let k = kept_one f told in
      let u : Trace = k.0 in
      let rest : List Held = k.1 in
      returned_one IsHealthy old new (come_back disk u rest) k.2
      (record { reads = λ file. ap (λ (d : Disk). d.failed_reads file) same ∙ fresh.reads file; changes = λ file. ap (λ (d : Disk). d.failed_changes file) same ∙ fresh.changes file })

  last_back : (n file : ℕ) → (n ≡ disk.failed_reads file) ⊎ (n ≡ disk.failed_changes file) → WhereTold old.folder (λ f. LastReturnedCounts n old new)
  last_back n file counted f told =
      let k = kept_one f told in
      let u : Trace = k.0 in
      let rest : List Held = k.1 in
      last_one n file old new (come_back disk u rest) k.2 counted

  pub lent_quiet : disk ≡ record lent { told = disk.told } → new.faults ≡ old.faults
  lent_quiet same = count.none (none_failed lent disk (fresh_of leaf old mid lent lends) same) ∙ faults

  none_told : (before now : Option Trace) → WhereBothTold (OnlyChanges 0) before now → before ≡ None → now ≡ None
  none_told None None h e = refl
  none_told None (Some t) h e = absurd h
  none_told (Some t) now h e = absurd (none-some t (sym e))

  pub lent_untold : old.folder ≡ None → new.folder ≡ None
  lent_untold none =
      untold_is (none_told lent.told disk.told only (ap (λ (d : Disk). d.told) lends.disk_is ∙ ap (option_map (attached_trace (leaf ∷ []))) none))
      (ap (λ (h : Hosted). h.folder) lends.host_is ∙ ap (option_map (without (leaf ∷ []))) none)

  pub lent_replayed : HasOpened 0 lent disk → HasReplayed (leaf ∷ []) old new
  lent_replayed h = record {
    files =
        λ f told.
        let b = back leaf old.folder mid.folder new.folder disk.told is_lent back_is f told in
        let before : lent.told ≡ Some (attached_trace (leaf ∷ []) f) = ap (λ (d : Disk). d.told) lends.disk_is ∙ ap (option_map (attached_trace (leaf ∷ []))) told in
        let opened : IsOpened 0 (attached_trace (leaf ∷ []) f) b.0 =
        subst (λ x. WhereBothTold (IsOpened 0) x (Some b.0)) before (subst (WhereBothTold (IsOpened 0) lent.told) b.1 h.told) in (
          with_file leaf (Some (file_of b.0 0)) f,
          (b.2).after_is,
          one_replayed leaf f (file_of b.0 0) (idle f told) (lends.there f told) (subst (λ x. StandsFor x (seen (file_of b.0 0))) (seen-attached leaf f) opened.bytes),
        );
    untold = lent_untold;
    idle = stays_synced (both_synced lent.told disk.told h.told);
    quiet = lent_quiet h.counts;
    healthy = healthy_back h.counts;
  }

  pub store_fails : (fault : StoreFault) → CallFailed 0 lent disk fault → StoreFailed old new fault.count
  store_fails fault (of_read stays of_file c) =
      let fresh = fresh_of leaf old mid lent lends in
      let risen : 1 ≤ disk.failed_reads 0 = omega (arith, c.rose.risen, fresh.reads 0) in
      let files : disk.files ≡ 1 = ap (λ (d : Disk). d.files) stays ∙ fresh.files in
      record {
        rose = subst (λ n. Rose n new.faults) faults (count.some (0, omega (arith, files), λ e. omega (arith, e, risen)));
        some = omega (arith, c.told, risen);
        last = last_back fault.count 0 (inl c.told);
      }
  store_fails fault (of_change stays of_file c) =
      let fresh = fresh_of leaf old mid lent lends in
      let risen : 1 ≤ disk.failed_changes 0 = omega (arith, c.rose.risen, fresh.changes 0) in
      let files : disk.files ≡ 1 = ap (λ (d : Disk). d.files) stays ∙ fresh.files in
      record {
        rose = subst (λ n. Rose n new.faults) faults (count.some (0, omega (arith, files), λ e. omega (arith, e, risen)));
        some = omega (arith, c.told, risen);
        last = last_back fault.count 0 (inr c.told);
      }

module _ (leaf : List ℕ) (old mid new : Hosted) (lent disk : Disk) (lends : Lends leaf old mid lent) (kept : WhereBothTold (KeepsFile 0) lent.told disk.told) (idle : WhereTold old.folder AllIdle)
    (back_is : WhereTold disk.told (λ trace. new.folder ≡ option_map (given_back trace) mid.folder)) (untold_is : disk.told ≡ None → mid.folder ≡ None → new.folder ≡ None) (count : RoseWhere (HasFailed disk) mid.faults new.faults) (past_is : KeepsStore disk mid new) where
  only_it : WhereBothTold (OnlyChanges 0) lent.told disk.told
  only_it = only_kept lent.told disk.told kept

  kept_at : (f : List Held) (u : Trace) → old.folder ≡ Some f → disk.told ≡ Some u → KeepsFile 0 (attached_trace (leaf ∷ []) f) u
  kept_at f u told is =
      let before : lent.told ≡ Some (attached_trace (leaf ∷ []) f) = ap (λ (d : Disk). d.told) lends.disk_is ∙ ap (option_map (attached_trace (leaf ∷ []))) told in
      subst (λ x. WhereBothTold (KeepsFile 0) x (Some u)) before (subst (WhereBothTold (KeepsFile 0) lent.told) is kept)

  lent_kept : Within KeepsEach old.folder new.folder
  lent_kept f told =
      let b = back leaf old.folder mid.folder new.folder disk.told (lent_as leaf old mid lent disk.told lends kept) back_is f told in (
        with_file leaf (Some (file_of b.0 0)) f,
        (b.2).after_is,
        one_kept leaf f (file_of b.0 0) (idle f told) (lends.there f told) (subst (λ x. OpensAlike x (seen (file_of b.0 0))) (seen-attached leaf f) (kept_at f b.0 told b.1).alike),
      )

  replayed_by : HasOpened 0 lent disk → HasReplayed (leaf ∷ []) old new
  replayed_by = lent_replayed leaf old mid new lent disk lends only_it idle back_is untold_is count past_is

  pub store_stopped : (fault : StoreFault) → CallFailed 0 lent disk fault → StoreStopped old new fault.count
  store_stopped fault h =
      let failed = store_fails leaf old mid new lent disk lends only_it idle back_is untold_is count past_is fault h in
      record { files = lent_kept; rose = failed.rose; some = failed.some; last = failed.last }

  pub memory_stopped : RanOut 0 lent disk → MemoryStopped old new
  memory_stopped h = record {
    files = lent_kept;
    idle = stays_synced leaf old mid new lent disk lends only_it idle back_is untold_is count past_is h.told;
    quiet = lent_quiet leaf old mid new lent disk lends only_it idle back_is untold_is count past_is h.counts;
  }

  by_meaning : (meaning : Meaning opening.Refusal) → LeavesOpened 0 lent disk meaning → LeavesBy old new meaning
  by_meaning (refuses refusal) h = record { opened = leaf ∷ []; has = replayed_by h }
  by_meaning (host_failed fault) h = absurd h
  by_meaning (store_failed fault) h = store_stopped fault h
  by_meaning no_memory h = memory_stopped h

  pub lent_left : {A : Type 0} (result : Result A OpenRefusal) → LeavesFile 0 lent disk result → LeavesNamed leaf old new result
  lent_left (Ok x) h = replayed_by h
  lent_left (Err refusal) h = by_meaning (meaning_of refusal) h
