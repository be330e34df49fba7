-- Guests who keep to sectors of their own.
use Rattle.std.proofs.Common.{◌≡◌, ℕ, ◌+◌, ◌<◌, ◌≤◌, true, false, cond, leb, ltb, nat_eq, [], ◌∷◌, ◌++◌, length, take, drop, refl, sym, ap, ◌∙◌, subst, inl, inr, arith}
use Rattle.std.specs.List.{AllByRecursion}
use Rattle.std.proofs.lemmas.Bool.{and_right, cases_Bool, cases_lt, cond-true, cond-false, eqb-true, eqb-false, and_from, eq-eqb, le-leb, lt-ltb}
use Rattle.std.proofs.lemmas.List.{same_lists, get_or-take, get_or-drop, get_or_past, get_or_default, length-take, length-drop}
use Rattle.guest_model.specs.declared.call.Call.{Call}
use Rattle.guest_model.specs.declared.call.Call.TheVariants.{Read, Write, Trim, Flush}
use Rattle.guest_model.specs.declared.call.Entry.{Entry}
use Rattle.guest_model.specs.declared.call.Reply.TheVariants as replies
use Rattle.guest_model.specs.Calls.{Disk, apply, bytes_of, changes, content, is_named, reply}
use Rattle.guest_model.specs.History.{History, replay, sector_at}
use Rattle.guest_model.proofs.HistoryLaws.{length-apply, length-replay, same_from_agrees, sector_at-apply, sector_at-apply_other}
use Rattle.load_calls.specs.Histories.{EndAlike, HaveSameCalls, KeepsToOwn, Told, entries_of, speaks_of, told_in, told_to}
use Rattle.load_calls.proofs.Keyed.{permuted_by_key}

-- ---- one call

-- what is done to a sector is decided by what it had
sector_step : (z : ℕ) (call : Call) (a b : Disk) (i : ℕ) → length a ≡ length b → sector_at a i ≡ sector_at b i → sector_at (apply z a call) i ≡ sector_at (apply z b call) i
sector_step z call a b i lengths same = elim (cases_lt i (length a)) [
  | inl below ↦
      let other : i < length b = omega arith in
      sector_at-apply z a call i below ∙ ap (λ s. cond (is_named z call i) (content z call i) s) same ∙ sym (sector_at-apply z b call i other)
  | inr past ↦
      let left : length (apply z a call) ≤ i = omega (arith, length-apply z a call) in
      let right : length (apply z b call) ≤ i = omega (arith, length-apply z b call) in
      get_or_past (apply z a call) i [] left ∙ sym (get_or_past (apply z b call) i [] right)
]

-- a sector that isn't spoken of stays
sector_stays : (z : ℕ) (disk : Disk) (call : Call) (i : ℕ) → speaks_of z call i ≡ false → sector_at (apply z disk call) i ≡ sector_at disk i
sector_stays z disk call i unspoken = sector_at-apply_other z disk call i (and_right (changes call) (speaks_of z call i) unspoken)

-- who owns no sector of an entry's guest isn't spoken to
unspoken : (z : ℕ) (owner : ℕ → ℕ) (e : Entry) (i : ℕ) → KeepsToOwn z owner e → nat_eq e.guest (owner i) ≡ false → speaks_of z e.call i ≡ false
unspoken z owner e i keeps other = elim (cases_Bool (speaks_of z e.call i)) [
  | inl spoken ↦ absurd (eqb-false e.guest (owner i) other (sym (keeps i spoken)))
  | inr none ↦ none
]

-- ---- entries of one guest

pub own_yes : (g : ℕ) (e : Entry) (h : History) → nat_eq e.guest g ≡ true → entries_of g (e ∷ h) ≡ e ∷ entries_of g h
own_yes g e h own = cond-true (nat_eq e.guest g) (e ∷ entries_of g h) (entries_of g h) own

pub own_no : (g : ℕ) (e : Entry) (h : History) → nat_eq e.guest g ≡ false → entries_of g (e ∷ h) ≡ entries_of g h
own_no g e h other = cond-false (nat_eq e.guest g) (e ∷ entries_of g h) (entries_of g h) other

-- what holds of all holds of each guest's
own_all : (P : Entry → Type 0) (g : ℕ) (h : History) → AllByRecursion P h → AllByRecursion P (entries_of g h)
own_all P g [] all = tt
own_all P g (e ∷ h) all = elim (cases_Bool (nat_eq e.guest g)) [
  | inl own ↦ subst (AllByRecursion P) (sym (own_yes g e h own)) (all.0, own_all P g h all.1)
  | inr other ↦ subst (AllByRecursion P) (sym (own_no g e h other)) (own_all P g h all.1)
]

-- and what holds of each guest's holds of all
all_own : (P : Entry → Type 0) (h : History) → ((g : ℕ) → AllByRecursion P (entries_of g h)) → AllByRecursion P h
all_own P [] own = tt
all_own P (e ∷ h) own =
    let here : AllByRecursion P (e ∷ entries_of e.guest h) = subst (AllByRecursion P) (own_yes e.guest e h (same e.guest)) (own e.guest) in
    (here.0, all_own P h (λ g. rest g (own g)))
  where
    same : (n : ℕ) → nat_eq n n ≡ true
    same n = eq-eqb n n refl

    rest : (g : ℕ) → AllByRecursion P (entries_of g (e ∷ h)) → AllByRecursion P (entries_of g h)
    rest g all = elim (cases_Bool (nat_eq e.guest g)) [
      | inl own ↦ let both : AllByRecursion P (e ∷ entries_of g h) = subst (AllByRecursion P) (own_yes g e h own) all in both.1
      | inr other ↦ subst (AllByRecursion P) (own_no g e h other) all
    ]

-- ---- the disk

-- two disks that are alike in a sector stay so, if one sees the calls of the sector's owner alone
owner_decides : (z : ℕ) (owner : ℕ → ℕ) (a b : Disk) (h : History) (i : ℕ) → AllByRecursion (KeepsToOwn z owner) h → length a ≡ length b → sector_at a i ≡ sector_at b i
    → sector_at (replay z a h) i ≡ sector_at (replay z b (entries_of (owner i) h)) i
owner_decides z owner a b [] i keep lengths same = same
owner_decides z owner a b (e ∷ h) i keep lengths same = elim (cases_Bool (nat_eq e.guest (owner i))) [
  | inl own ↦
      let long : length (apply z a e.call) ≡ length (apply z b e.call) = length-apply z a e.call ∙ lengths ∙ sym (length-apply z b e.call) in
      owner_decides z owner (apply z a e.call) (apply z b e.call) h i keep.1 long (sector_step z e.call a b i lengths same)
      ∙ ap (λ k. sector_at (replay z b k) i) (sym (own_yes (owner i) e h own))
  | inr other ↦
      let long : length (apply z a e.call) ≡ length b = length-apply z a e.call ∙ lengths in
      owner_decides z owner (apply z a e.call) b h i keep.1 long (sector_stays z a e.call i (unspoken z owner e i keep.0 other) ∙ same)
      ∙ ap (λ k. sector_at (replay z b k) i) (sym (own_no (owner i) e h other))
]

-- two histories with the same calls of each guest leave one disk
one_disk : (z : ℕ) (owner : ℕ → ℕ) (disk : Disk) (h k : History) → AllByRecursion (KeepsToOwn z owner) h → AllByRecursion (KeepsToOwn z owner) k → HaveSameCalls h k → replay z disk h ≡ replay z disk k
one_disk z owner disk h k keep kept same = same_from_agrees {among = λ i. false} (λ i. refl) (record {
  sectors = length-replay z disk h ∙ sym (length-replay z disk k);
  same = λ i o.
      owner_decides z owner disk disk h i keep refl refl
      ∙ ap (λ own. sector_at (replay z disk own) i) (same (owner i))
      ∙ sym (owner_decides z owner disk disk k i kept refl refl);
})

-- ---- replies

-- a range of sectors, of disks that are alike in it
same_range : (first count : ℕ) (a b : Disk) → length a ≡ length b → ((i : ℕ) → first ≤ i → i < first + count → sector_at a i ≡ sector_at b i) → take count (drop first a) ≡ take count (drop first b)
same_range first count a b lengths same =
    let left = length-take count (drop first a) in
    let right = length-take count (drop first b) in
    let long : length (take count (drop first a)) ≡ length (take count (drop first b)) = omega (arith, left, right, length-drop first a, length-drop first b) in
    same_lists _ _ long (λ k d inside.
    let below : k < count = omega (arith, left) in
    let fits : first + k < length a = omega (arith, left, length-drop first a) in
    let fits_too : first + k < length b = omega arith in
    get_or-take count (drop first a) k d below ∙ get_or-drop first a k d ∙ get_or_default a (first + k) d [] fits
    ∙ same (first + k) (omega arith) (omega arith)
    ∙ sym (get_or-take count (drop first b) k d below ∙ get_or-drop first b k d ∙ get_or_default b (first + k) d [] fits_too))

-- a call is told the same on disks that are alike in what it speaks of
reply_same : (z : ℕ) (call : Call) (a b : Disk) → length a ≡ length b → ((i : ℕ) → speaks_of z call i ≡ true → sector_at a i ≡ sector_at b i) → reply a call ≡ reply b call
reply_same z (Read first count) a b lengths same =
    ap (λ s. replies.Bytes (bytes_of s)) (same_range first count a b lengths (λ i low high. same i (and_from (leb first i) (ltb i (first + count)) (le-leb first i low) (lt-ltb i (first + count) high))))
reply_same z (Write first bytes) a b lengths same = refl
reply_same z (Trim first count) a b lengths same = refl
reply_same z Flush a b lengths same = refl

all_append : (P : Entry → Type 0) (h : History) (e : Entry) → AllByRecursion P (h ++ e ∷ []) → AllByRecursion P h × P e
all_append P [] e all = (tt, all.0)
all_append P (x ∷ h) e all = let rest = all_append P h e all.1 in ((all.0, rest.0), rest.1)

pub owner_is_told : (z : ℕ) (owner : ℕ → ℕ) (disk : Disk) (h : History) (e : Entry) → AllByRecursion (KeepsToOwn z owner) (h ++ e ∷ [])
    → reply (replay z disk h) e.call ≡ reply (replay z disk (entries_of e.guest h)) e.call
owner_is_told z owner disk h e keep =
    let parts = all_append (KeepsToOwn z owner) h e keep in
    reply_same z e.call _ _ (length-replay z disk h ∙ sym (length-replay z disk (entries_of e.guest h))) (λ i spoken.
    owner_decides z owner disk disk h i parts.0 refl refl ∙ ap (λ g. sector_at (replay z disk (entries_of g h)) i) (parts.1 i spoken))

-- what a guest is told among others is what it is told alone, on a disk that is alike in its own sectors
told_alone : (z : ℕ) (owner : ℕ → ℕ) (g : ℕ) (a b : Disk) (h : History) → AllByRecursion (KeepsToOwn z owner) h → length a ≡ length b → ((i : ℕ) → owner i ≡ g → sector_at a i ≡ sector_at b i)
    → told_to g (told_in z a h) ≡ told_in z b (entries_of g h)
told_alone z owner g a b [] keep lengths same = refl
told_alone z owner g a b (e ∷ h) keep lengths same = elim (cases_Bool (nat_eq e.guest g)) [
  | inl own ↦
      let guest : e.guest ≡ g = eqb-true e.guest g own in
      let long : length (apply z a e.call) ≡ length (apply z b e.call) = length-apply z a e.call ∙ lengths ∙ sym (length-apply z b e.call) in
      let told : reply a e.call ≡ reply b e.call = reply_same z e.call a b lengths (λ i spoken. same i (keep.0 i spoken ∙ guest)) in
      let rest = told_alone z owner g (apply z a e.call) (apply z b e.call) h keep.1 long (λ i owns. sector_step z e.call a b i lengths (same i owns)) in
      cond-true (nat_eq e.guest g) _ _ own
      ∙ ap (λ r. let t : Told = record { entry = e; told = r } in t ∷ told_to g (told_in z (apply z a e.call) h)) told
      ∙ ap (λ l. let t : Told = record { entry = e; told = reply b e.call } in t ∷ l) rest
      ∙ ap (told_in z b) (sym (own_yes g e h own))
  | inr other ↦
      let long : length (apply z a e.call) ≡ length b = length-apply z a e.call ∙ lengths in
      let rest = told_alone z owner g (apply z a e.call) b h keep.1 long (λ i owns.
      sector_stays z a e.call i (unspoken z owner e i keep.0 (ap (nat_eq e.guest) owns ∙ other)) ∙ same i owns) in
      cond-false (nat_eq e.guest g) _ _ other ∙ rest ∙ ap (told_in z b) (sym (own_no g e h other))
]

-- ---- all of them

pub owners_sectors : (z : ℕ) (owner : ℕ → ℕ) (disk : Disk) (h : History) → AllByRecursion (KeepsToOwn z owner) h → (i : ℕ) → sector_at (replay z disk h) i ≡ sector_at (replay z disk (entries_of (owner i) h)) i
owners_sectors z owner disk h keep i = owner_decides z owner disk disk h i keep refl refl

pub keep_alike : (z : ℕ) (owner : ℕ → ℕ) (h k : History) → AllByRecursion (KeepsToOwn z owner) k → HaveSameCalls h k → AllByRecursion (KeepsToOwn z owner) h
keep_alike z owner h k kept same = all_own (KeepsToOwn z owner) h (λ g. subst (AllByRecursion (KeepsToOwn z owner)) (sym (same g)) (own_all (KeepsToOwn z owner) g k kept))

pub end_alike : (z : ℕ) (owner : ℕ → ℕ) (disk : Disk) (h k : History) → AllByRecursion (KeepsToOwn z owner) k → HaveSameCalls h k → EndAlike z disk h k
end_alike z owner disk h k kept same =
    let keep = keep_alike z owner h k kept same in
    let each : (g : ℕ) → told_to g (told_in z disk h) ≡ told_to g (told_in z disk k) = λ g.
    told_alone z owner g disk disk h keep refl (λ i owns. refl)
    ∙ ap (told_in z disk) (same g)
    ∙ sym (told_alone z owner g disk disk k kept refl (λ i owns. refl)) in
    record {
      left = one_disk z owner disk h k keep kept same;
      each = each;
      all = permuted_by_key (λ (t : Told). t.entry.guest) (told_in z disk h) (told_in z disk k) each;
    }
