-- What stands at rising places of a list, by a key of each element, as the guest of an entry.
use Rattle.std.proofs.Common.{◌≡◌, ℕ, suc, ◌+◌, ◌<◌, ◌≤◌, nat_eq, List, [], ◌∷◌, ◌++◌, length, refl, sym, ap, ◌∙◌, subst, inl, inr, arith}
use Rattle.std.specs.List.{AllByRecursion, filter}
use Rattle.std.proofs.lemmas.Bool.{cases_Bool, cases_order, cond-false, cond-true, eqb-true, eqb-false}
use Rattle.std.proofs.lemmas.List.{length-append}
use Rattle.guest_model.specs.declared.call.Entry.{Entry}
use Rattle.guest_model.specs.Calls.{Disk, apply, reply}
use Rattle.guest_model.specs.History.{History, replay}
use Rattle.script.specs.declared.form.Form.{Form}
use Rattle.load_calls.specs.Histories.{AreShared, EachAt, Has, IsRising, IsToldAt, StandsAt, Told, told_in}
use Rattle.load_calls.specs.Laws.{PlacesDecide, PlacesTell}
use Rattle.load_calls.specs.Load.{entries_from, forms_of}

-- an element of what is left of a list behind its first n
record StandsIn {X : Type 0} (n : ℕ) (h : List X) (p : ℕ) (e : X) : Type 0 where
  before : List X
  behind : List X
  is : h ≡ before ++ e ∷ behind
  place : p ≡ n + length before + 1

abbrev StandIn : {X : Type 0} → ℕ → List X → List ℕ → List X → Type 0
StandIn n h places xs = EachAt (StandsIn n h) places xs

-- those with key g
abbrev with_key : {X : Type 0} → (X → ℕ) → ℕ → List X → List X
with_key key g xs = filter (λ x. nat_eq (key x) g) xs

-- each of these has one of the places
abbrev AreIn : {X : Type 0} → (X → ℕ) → ℕ → ℕ → List X → List ℕ → Type 0
AreIn {X} key g n h places = (before behind : List X) (e : X) → h ≡ before ++ e ∷ behind → key e ≡ g → Has (n + length before + 1) places

-- at the first place there stands the first element
first_stands : {X : Type 0} (n : ℕ) (x : X) (h : List X) (e : X) (before behind : List X) → x ∷ h ≡ before ++ e ∷ behind → length before ≡ 0 → e ≡ x
first_stands n x h e [] behind is none = cc
first_stands n x h e (y ∷ before) behind is none = absurd (omega arith)

stands_first : {X : Type 0} (n p : ℕ) (x e : X) (h : List X) → StandsIn n (x ∷ h) p e → p ≡ n + 1 → e ≡ x
stands_first n p x e h s first = first_stands n x h e s.before s.behind s.is (let place : p ≡ n + length s.before + 1 = s.place in omega arith)

-- behind it the others
later_stands : {X : Type 0} (n p : ℕ) (x e : X) (h before behind : List X) → x ∷ h ≡ before ++ e ∷ behind → p ≡ n + length before + 1 → n + 1 < p → StandsIn (n + 1) h p e
later_stands n p x e h [] behind is place later = absurd (omega arith)
later_stands n p x e h (y ∷ before) behind is place later = record { before = before; behind = behind; is = cc; place = omega arith }

later_all : {X : Type 0} (n : ℕ) (x : X) (h : List X) (places : List ℕ) (calls : List X) → AllByRecursion (λ p. n + 1 < p) places → StandIn n (x ∷ h) places calls → StandIn (n + 1) h places calls
later_all n x h [] [] later s = tt
later_all n x h [] (e ∷ calls) later s = s
later_all n x h (p ∷ places) [] later s = s
later_all n x h (p ∷ places) (e ∷ calls) later s = (later_stands n p x e h s.0.before s.0.behind s.0.is s.0.place later.0, later_all n x h places calls later.1 s.1)

all_above : (m n : ℕ) (places : List ℕ) → m ≤ n → AllByRecursion (λ p. n < p) places → AllByRecursion (λ p. m < p) places
all_above m n [] le h = tt
all_above m n (p ∷ places) le h = (let here : n < p = h.0 in omega arith, all_above m n places le h.1)

not_below : (n p : ℕ) (places : List ℕ) → p ≤ n → AllByRecursion (λ q. n < q) places → Has p places → ⊥
not_below n p [] le above has = has
not_below n p (q ∷ places) le above has = elim has [
  | inl is ↦ let here : n < q = above.0 in omega arith
  | inr rest ↦ not_below n p places le above.1 rest
]

-- ---- step by step

-- an element of another key stands at none of the places
skipped : {X : Type 0} (key : X → ℕ) (g n : ℕ) (x : X) (h : List X) (places : List ℕ) (calls : List X) → (key x ≡ g → ⊥) → AllByRecursion (λ e. key e ≡ g) calls → StandIn n (x ∷ h) places calls → IsRising places
    → AllByRecursion (λ p. n < p) places → AllByRecursion (λ p. n + 1 < p) places
skipped key g n x h [] calls other own s rising above = tt
skipped key g n x h (p ∷ places) [] other own s rising above = absurd s
skipped key g n x h (p ∷ places) (e ∷ calls) other own s rising above = elim (cases_order p (n + 1)) [
  | inl first ↦ absurd (other (ap key (sym (stands_first n p x e h s.0 first)) ∙ own.0))
  | inr (inl below) ↦ absurd (let here : n < p = above.0 in omega arith)
  | inr (inr later) ↦ (later, all_above (n + 1) p places (omega arith) rising.0)
]

-- a first place that is one of them is their first
taken : (n p : ℕ) (places : List ℕ) → AllByRecursion (λ q. p < q) places → n < p → Has (n + 1) (p ∷ places) → p ≡ n + 1
taken n p places rising above has = elim has [
  | inl is ↦ sym is
  | inr rest ↦ absurd (not_below p (n + 1) places (omega arith) rising rest)
]

same_place : (n m : ℕ) (places : List ℕ) → Has (n + suc m + 1) places → Has (n + 1 + m + 1) places
same_place n m places has = let e : n + suc m + 1 ≡ n + 1 + m + 1 = omega arith in subst (λ p. Has p places) e has

behind_first : (n p m : ℕ) (places : List ℕ) → p ≡ n + 1 → Has (n + 1 + m + 1) (p ∷ places) → Has (n + 1 + m + 1) places
behind_first n p m places first has = elim has [
  | inl is ↦ absurd (omega arith)
  | inr rest ↦ rest
]

ordered : {X : Type 0} (key : X → ℕ) (g n : ℕ) (h : List X) (places : List ℕ) (calls : List X) → AllByRecursion (λ e. key e ≡ g) calls → StandIn n h places calls → IsRising places → AllByRecursion (λ p. n < p) places → AreIn key g n h places
    → with_key key g h ≡ calls
ordered key g n [] [] [] own s rising above in_all = refl
ordered key g n [] [] (e ∷ calls) own s rising above in_all = absurd s
ordered key g n [] (p ∷ places) [] own s rising above in_all = absurd s
ordered {X} key g n [] (p ∷ places) (e ∷ calls) own s rising above in_all = absurd (empty s.0.before s.0.is) where
  empty : (before : List X) → [] ≡ before ++ e ∷ s.0.behind → ⊥
  empty [] is = cc
  empty (y ∷ before) is = cc
ordered {X} key g n (x ∷ h) places calls own s rising above in_all = elim (cases_Bool (nat_eq (key x) g)) [
  | inl mine ↦ cond-true (nat_eq (key x) g) (x ∷ with_key key g h) (with_key key g h) mine ∙ taken_first key g n x h places calls own s rising above in_all (eqb-true (key x) g mine) (λ places calls own s rising above in_all. ordered key g (n + 1) h places calls own s rising above in_all)
  | inr other ↦
      let differs : key x ≡ g → ⊥ = eqb-false (key x) g other in
      let later = skipped key g n x h places calls differs own s rising above in
      cond-false (nat_eq (key x) g) (x ∷ with_key key g h) (with_key key g h) other
      ∙ ordered key g (n + 1) h places calls own (later_all n x h places calls later s) rising later (λ before behind e is mine.
      same_place n (length before) places (in_all (x ∷ before) behind e (ap (λ l. x ∷ l) is) mine))
] where
  taken_first : {X : Type 0} (key : X → ℕ) (g n : ℕ) (x : X) (h : List X) (places : List ℕ) (calls : List X) → AllByRecursion (λ e. key e ≡ g) calls → StandIn n (x ∷ h) places calls → IsRising places
      → AllByRecursion (λ p. n < p) places → AreIn key g n (x ∷ h) places → key x ≡ g
      → ((places : List ℕ) (calls : List X) → AllByRecursion (λ e. key e ≡ g) calls → StandIn (n + 1) h places calls → IsRising places → AllByRecursion (λ p. n + 1 < p) places → AreIn key g (n + 1) h places → with_key key g h ≡ calls)
      → x ∷ with_key key g h ≡ calls
  taken_first key g n x h [] [] own s rising above in_all mine rest = absurd (in_all [] h x refl mine)
  taken_first key g n x h [] (e ∷ calls) own s rising above in_all mine rest = absurd s
  taken_first key g n x h (p ∷ places) [] own s rising above in_all mine rest = absurd s
  taken_first key g n x h (p ∷ places) (e ∷ calls) own s rising above in_all mine rest =
      let has : Has (n + 1) (p ∷ places) = subst (λ q. Has q (p ∷ places)) (omega arith) (in_all [] h x refl mine) in
      let first : p ≡ n + 1 = taken n p places rising.0 above.0 has in
      let is : e ≡ x = stands_first n p x e h s.0 first in
      let later : AllByRecursion (λ q. n + 1 < q) places = all_above (n + 1) p places (omega arith) rising.0 in
      let others = rest places calls own.1 (later_all n x h places calls later s.1) rising.1 later (λ before behind f split guest.
      behind_first n p (length before) places first (same_place n (length before) (p ∷ places) (in_all (x ∷ before) behind f (ap (λ l. x ∷ l) split) guest))) in
      ap (λ l. x ∷ l) others ∙ ap (λ f. f ∷ calls) (sym is)

-- ---- of the whole history

from_start : {X : Type 0} (h : List X) (places : List ℕ) (calls : List X) → EachAt (StandsAt h) places calls → StandIn 0 h places calls
from_start h [] [] s = tt
from_start h [] (e ∷ calls) s = s
from_start h (p ∷ places) [] s = s
from_start h (p ∷ places) (e ∷ calls) s =
    (record { before = s.0.before; behind = s.0.behind; is = s.0.is; place = let place : p ≡ length s.0.before + 1 = s.0.place in omega arith }, from_start h places calls s.1)

above_none : {X : Type 0} (h : List X) (places : List ℕ) (calls : List X) → EachAt (StandsAt h) places calls → AllByRecursion (λ p. 0 < p) places
above_none h [] calls s = tt
above_none h (p ∷ places) [] s = absurd s
above_none h (p ∷ places) (e ∷ calls) s = (let place : p ≡ length s.0.before + 1 = s.0.place in omega arith, above_none h places calls s.1)

-- two elements at one place are one
one_entry : {X : Type 0} (a b c d : List X) (e f : X) → a ++ e ∷ b ≡ c ++ f ∷ d → length a ≡ length c → e ≡ f
one_entry [] b [] d e f is long = cc
one_entry [] b (y ∷ c) d e f is long = absurd (omega arith)
one_entry (x ∷ a) b [] d e f is long = absurd (omega arith)
one_entry (x ∷ a) b (y ∷ c) d e f is long = let rest : a ++ e ∷ b ≡ c ++ f ∷ d = cc in let shorter : length a ≡ length c = omega arith in one_entry a b c d e f rest shorter

-- what stands at one of a key's places has that key
guest_at : {X : Type 0} (key : X → ℕ) (g p : ℕ) (h before behind : List X) (e : X) (places : List ℕ) (calls : List X) → AllByRecursion (λ f. key f ≡ g) calls → EachAt (StandsAt h) places calls → h ≡ before ++ e ∷ behind → p ≡ length before + 1
    → Has p places → key e ≡ g
guest_at key g p h before behind e [] calls own s is place has = absurd has
guest_at key g p h before behind e (q ∷ places) [] own s is place has = absurd s
guest_at key g p h before behind e (q ∷ places) (f ∷ calls) own s is place has = elim has [
  | inl here ↦
      let there : q ≡ length s.0.before + 1 = s.0.place in
      let long : length before ≡ length s.0.before = omega arith in
      ap key (one_entry before behind s.0.before s.0.behind e f (sym is ∙ s.0.is) long) ∙ own.0
  | inr rest ↦ guest_at key g p h before behind e places calls own.1 s.1 is place rest
]

-- of lists of which each key has places of its own
by_places : {X : Type 0} (key : X → ℕ) (h : List X) (places : ℕ → List ℕ) (calls : ℕ → List X) → AreShared (length h) places → ((g : ℕ) → AllByRecursion (λ e. key e ≡ g) (calls g))
    → ((g : ℕ) → EachAt (StandsAt h) (places g) (calls g)) → (g : ℕ) → with_key key g h ≡ calls g
by_places key h places calls shared own stand g =
    ordered key g 0 h (places g) (calls g) (own g) (from_start h (places g) (calls g) (stand g)) (shared.rising g) (above_none h (places g) (calls g) (stand g)) (λ before behind e is guest.
    let inside : length before + 1 ≤ length h = let long : length h ≡ length before + (length behind + 1) = ap length is ∙ length-append before (e ∷ behind) ∙ ap (λ n. length before + n) (omega arith) in omega arith in
    let found = shared.each (length before + 1) (omega arith) inside in
    let there = guest_at key found.0 (length before + 1) h before behind e (places found.0) (calls found.0) (own found.0) (stand found.0) is refl found.1 in
    let same : found.0 ≡ g = sym there ∙ guest in
    let place : length before + 1 ≡ 0 + length before + 1 = omega arith in
    subst (λ p. Has p (places g)) place (subst (λ n. Has (length before + 1) (places n)) same found.1))

-- ---- entries

own_guest : (g number : ℕ) (forms : List Form) → AllByRecursion (λ e. e.guest ≡ g) (entries_from g number forms)
own_guest g number [] = tt
own_guest g number (form ∷ forms) = (refl, own_guest g (number + 1) forms)

pub places_decide : PlacesDecide
places_decide lines h places shared stand = by_places (λ (e : Entry). e.guest) h places (λ g. entries_from g 1 (forms_of g lines)) shared (λ g. own_guest g 1 (forms_of g lines)) stand

-- ---- and what they are told

length_told : (z : ℕ) (disk : Disk) (h : History) → length (told_in z disk h) ≡ length h
length_told z disk [] = refl
length_told z disk (e ∷ h) = let rest = length_told z (apply z disk e.call) h in omega arith

told_append : (z : ℕ) (disk : Disk) (h k : History) → told_in z disk (h ++ k) ≡ told_in z disk h ++ told_in z (replay z disk h) k
told_append z disk [] k = refl
told_append z disk (e ∷ h) k = ap (λ l. let t : Told = record { entry = e; told = reply disk e.call } in t ∷ l) (told_append z (apply z disk e.call) h k)

told_stands : (z : ℕ) (disk : Disk) (h : History) (p : ℕ) (t : Told) → IsToldAt z disk h p t → StandsAt (told_in z disk h) p t
told_stands z disk h p t s = record {
  before = told_in z disk s.stands.before;
  behind = told_in z (apply z (replay z disk s.stands.before) t.entry.call) s.stands.behind;
  is =
      ap (told_in z disk) s.stands.is
      ∙ told_append z disk s.stands.before (t.entry ∷ s.stands.behind)
      ∙ ap (λ r. let u : Told = record { entry = t.entry; told = r } in told_in z disk s.stands.before ++ u ∷ told_in z (apply z (replay z disk s.stands.before) t.entry.call) s.stands.behind) (sym s.told);
  place = s.stands.place ∙ ap (λ n. n + 1) (sym (length_told z disk s.stands.before));
}

told_all : (z : ℕ) (disk : Disk) (h : History) (places : List ℕ) (told : List Told) → EachAt (IsToldAt z disk h) places told → EachAt (StandsAt (told_in z disk h)) places told
told_all z disk h [] [] s = tt
told_all z disk h [] (t ∷ told) s = s
told_all z disk h (p ∷ places) [] s = s
told_all z disk h (p ∷ places) (t ∷ told) s = (told_stands z disk h p t s.0, told_all z disk h places told s.1)

pub places_tell : PlacesTell
places_tell z disk h places told shared own stand =
    by_places (λ (t : Told). t.entry.guest) (told_in z disk h) places told (subst (λ n. AreShared n places) (sym (length_told z disk h)) shared) own (λ g. told_all z disk h (places g) (told g) (stand g))
