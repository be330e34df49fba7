-- What the reads of a load's guests see, guest by guest.
use Rattle.std.proofs.Common.{◌≡◌, ℕ, Bool, false, cond, nat_eq, List, [], ◌∷◌, refl, sym, ap, ◌∙◌, inl, inr}
use Rattle.std.proofs.lemmas.Bool.{cases_Bool, cond-false, cond-true, eqb-true}
use Rattle.std.proofs.lemmas.List.Sorted.{sum_by-IsPermutation}
use Rattle.guest_model.specs.Calls.{Disk, apply, reply}
use Rattle.guest_model.specs.History.{History}
use Rattle.load_calls.specs.Histories.{Told, entries_of, told_in, told_to}
use Rattle.load_calls.specs.Laws.{GuestsSee}
use Rattle.load_calls.specs.Printed.{seen_in}
use Rattle.load_calls.proofs.FourGuests.{four, is_guest, no_entries, picked}
use Rattle.load_calls.proofs.Keyed.{permuted_by_key}
use Rattle.load_calls.proofs.Loads.{four_lists}
use Rattle.load_calls.proofs.OwnSectors.{own_no, own_yes}

abbrev is_of : ℕ → Told → Bool
is_of g t = nat_eq t.entry.guest g

-- what passes passes again
twice : (g : ℕ) (all : List Told) → told_to g (told_to g all) ≡ told_to g all
twice g [] = refl
twice g (t ∷ all) = elim (cases_Bool (is_of g t)) [
  | inl own ↦
      let first : told_to g (t ∷ all) ≡ t ∷ told_to g all = cond-true (is_of g t) (t ∷ told_to g all) (told_to g all) own in
      ap (told_to g) first ∙ cond-true (is_of g t) (t ∷ told_to g (told_to g all)) (told_to g (told_to g all)) own ∙ ap (λ l. t ∷ l) (twice g all) ∙ sym first
  | inr other ↦
      let first : told_to g (t ∷ all) ≡ told_to g all = cond-false (is_of g t) (t ∷ told_to g all) (told_to g all) other in
      ap (told_to g) first ∙ twice g all ∙ sym first
]

-- and is no other guest's
neither : (g k : ℕ) (all : List Told) → nat_eq k g ≡ false → told_to g (told_to k all) ≡ []
neither g k [] apart = refl
neither g k (t ∷ all) apart = elim (cases_Bool (is_of k t)) [
  | inl own ↦
      let guest : t.entry.guest ≡ k = eqb-true t.entry.guest k own in
      let other : is_of g t ≡ false = ap (λ n. nat_eq n g) guest ∙ apart in
      ap (told_to g) (cond-true (is_of k t) (t ∷ told_to k all) (told_to k all) own)
      ∙ cond-false (is_of g t) (t ∷ told_to g (told_to k all)) (told_to g (told_to k all)) other
      ∙ neither g k all apart
  | inr not_own ↦ ap (told_to g) (cond-false (is_of k t) (t ∷ told_to k all) (told_to k all) not_own) ∙ neither g k all apart
]

-- who has no entry is told nothing
none_told : (z : ℕ) (disk : Disk) (g : ℕ) (h : History) → entries_of g h ≡ [] → told_to g (told_in z disk h) ≡ []
none_told z disk g [] none = refl
none_told z disk g (e ∷ h) none = elim (cases_Bool (nat_eq e.guest g)) [
  | inl own ↦ absurd (let is : e ∷ entries_of g h ≡ [] = sym (own_yes g e h own) ∙ none in cc)
  | inr other ↦
      let t : Told = record { entry = e; told = reply disk e.call } in
      cond-false (is_of g t) _ _ other ∙ none_told z (apply z disk e.call) g h (sym (own_no g e h other) ∙ none)
]

pub guests_see : GuestsSee
guests_see seed disk h is =
    let all : List Told = told_in 512 disk h in
    let parts : ℕ → List Told = λ g. told_to g all in
    let whole : (g : ℕ) → told_to g (four parts) ≡ cond (is_guest g) (parts g) [] = picked is_of parts (record {
      same = λ g guest. twice g all;
      none = λ g k guest apart. neither g k all apart;
    }) in
    let alike : (g : ℕ) → told_to g all ≡ told_to g (four parts) = λ g. elim (cases_Bool (is_guest g)) [
      | inl guest ↦ sym (whole g ∙ cond-true (is_guest g) (parts g) [] guest)
      | inr other ↦ none_told 512 disk g h (no_entries seed g h is other) ∙ sym (whole g ∙ cond-false (is_guest g) (parts g) [] other)
    ] in
    let f : Told → ℕ = λ t. seen_in t.told in
    sym (sum_by-IsPermutation f all (four parts) (permuted_by_key (λ (t : Told). t.entry.guest) all (four parts) alike)) ∙ four_lists f (parts 1) (parts 2) (parts 3) (parts 4)
