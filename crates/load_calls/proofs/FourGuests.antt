-- The calls and lines of four guests, guest after guest.
use Rattle.std.proofs.Common.{◌≡◌, ℕ, ◌+◌, ◌<◌, ◌≤◌, ◌&&◌, Bool, true, false, cond, leb, nat_eq, List, [], ◌∷◌, ◌++◌, map, refl, sym, ap, ◌∙◌, subst, inl, inr, arith}
use Rattle.std.specs.List.{AllByRecursion, filter}
use Rattle.std.proofs.lemmas.Bool.{and_from, and_left, and_parts, and_right, cases_eq, cases_lt, cond-false, cond-true, eq-eqb, leb-true, lt-leb, ne_eqb}
use Rattle.std.proofs.lemmas.List.{append-nil}
use Rattle.std.proofs.lemmas.List.Elements.{filter-append}
use Rattle.guest_model.specs.declared.call.Entry.{Entry}
use Rattle.guest_model.specs.History.{History}
use Rattle.script.specs.Grammar.{is_call}
use Rattle.script.specs.declared.form.Form.{Form}
use Rattle.script.specs.declared.form.Line.{Line}
use Rattle.load_calls.specs.Histories.{entries_of}
use Rattle.load_calls.specs.Load.{IsHistoryOf, call_of, calls_of, entries_from, forms_of, guest_history, lines_of, load_lines, one_thread}
use Rattle.load_calls.proofs.OwnCalls.{IsOwnForm, guest_forms}
use Rattle.load_calls.proofs.OwnSectors.{own_no, own_yes}

-- ---- four lists, of which a test picks one

abbrev pub is_guest : ℕ → Bool
is_guest g = leb 1 g && leb g 4

-- what a test picks of four lists, one behind the other
pub record Picks {X : Type 0} (p : ℕ → X → Bool) (a : ℕ → List X) : Type 0 where
  pub same : (g : ℕ) → is_guest g ≡ true → filter (p g) (a g) ≡ a g
  pub none : (g k : ℕ) → is_guest k ≡ true → nat_eq k g ≡ false → filter (p g) (a k) ≡ []

abbrev pub four : {X : Type 0} → (ℕ → List X) → List X
four a = a 1 ++ a 2 ++ a 3 ++ a 4

joined : {X : Type 0} (f : X → Bool) (a b c d p q r s : List X) → filter f a ≡ p → filter f b ≡ q → filter f c ≡ r → filter f d ≡ s → filter f (a ++ b ++ c ++ d) ≡ p ++ q ++ r ++ s
joined f a b c d p q r s h i j k =
    filter-append f (a ++ b ++ c) d
    ∙ ap (λ l. l ++ filter f d) (filter-append f (a ++ b) c ∙ ap (λ l. l ++ filter f c) (filter-append f a b))
    ∙ ap (λ l. l ++ filter f b ++ filter f c ++ filter f d) h
    ∙ ap (λ l. p ++ l ++ filter f c ++ filter f d) i
    ∙ ap (λ l. p ++ q ++ l ++ filter f d) j
    ∙ ap (λ l. p ++ q ++ r ++ l) k

no_guest : (g : ℕ) → (g ≡ 1 → ⊥) → (g ≡ 2 → ⊥) → (g ≡ 3 → ⊥) → (g ≡ 4 → ⊥) → is_guest g ≡ false
no_guest g a b c d = elim (cases_lt g 1) [
  | inl none ↦ and_left (leb 1 g) (leb g 4) (lt-leb 1 g none)
  | inr some ↦ and_right (leb 1 g) (leb g 4) (lt-leb g 4 (let more : 4 < g = elim (cases_lt 4 g) [
    | inl above ↦ above
    | inr within ↦ absurd (elim (cases_lt g 3) [
      | inl low ↦ elim (cases_lt g 2) [ inl one ↦ a (omega arith) | inr two ↦ b (omega arith) ]
      | inr high ↦ elim (cases_lt g 4) [ inl three ↦ c (omega arith) | inr four ↦ d (omega arith) ]
    ])
  ] in more))
]

abbrev pub IsPicked : {X : Type 0} → (ℕ → X → Bool) → (ℕ → List X) → ℕ → Type 0
IsPicked p a g = filter (p g) (four a) ≡ cond (is_guest g) (a g) []

pub picked : {X : Type 0} (p : ℕ → X → Bool) (a : ℕ → List X) → Picks p a → (g : ℕ) → IsPicked p a g
picked {X} p a h g = elim (cases_eq g 1) [
  | inl one ↦ subst (IsPicked p a) (sym one) (joined (p 1) (a 1) (a 2) (a 3) (a 4) (a 1) [] [] [] (h.same 1 refl) (h.none 1 2 refl refl) (h.none 1 3 refl refl) (h.none 1 4 refl refl)
      ∙ append-nil (a 1 ++ [] ++ []) ∙ append-nil (a 1 ++ []) ∙ append-nil (a 1))
  | inr not_one ↦ elim (cases_eq g 2) [
    | inl two ↦ subst (IsPicked p a) (sym two) (joined (p 2) (a 1) (a 2) (a 3) (a 4) [] (a 2) [] [] (h.none 2 1 refl refl) (h.same 2 refl) (h.none 2 3 refl refl) (h.none 2 4 refl refl)
        ∙ append-nil (a 2 ++ []) ∙ append-nil (a 2))
    | inr not_two ↦ elim (cases_eq g 3) [
      | inl three ↦ subst (IsPicked p a) (sym three) (joined (p 3) (a 1) (a 2) (a 3) (a 4) [] [] (a 3) [] (h.none 3 1 refl refl) (h.none 3 2 refl refl) (h.same 3 refl) (h.none 3 4 refl refl) ∙ append-nil (a 3))
      | inr not_three ↦ elim (cases_eq g 4) [
        | inl fourth ↦ subst (IsPicked p a) (sym fourth) (joined (p 4) (a 1) (a 2) (a 3) (a 4) [] [] [] (a 4) (h.none 4 1 refl refl) (h.none 4 2 refl refl) (h.none 4 3 refl refl) (h.same 4 refl))
        | inr not_four ↦
            joined (p g) (a 1) (a 2) (a 3) (a 4) [] [] [] [] (h.none g 1 refl (ne_eqb 1 g (λ e. not_one (sym e)))) (h.none g 2 refl (ne_eqb 2 g (λ e. not_two (sym e))))
            (h.none g 3 refl (ne_eqb 3 g (λ e. not_three (sym e)))) (h.none g 4 refl (ne_eqb 4 g (λ e. not_four (sym e))))
            ∙ sym (cond-false (is_guest g) (a g) [] (no_guest g not_one not_two not_three not_four))
      ]
    ]
  ]
]

-- ---- entries

own_same : (g number : ℕ) (forms : List Form) → entries_of g (entries_from g number forms) ≡ entries_from g number forms
own_same g number [] = refl
own_same g number (form ∷ forms) =
    let e : Entry = record { guest = g; no = number; call = call_of form } in
    own_yes g e (entries_from g (number + 1) forms) (eq-eqb g g refl) ∙ ap (λ h. e ∷ h) (own_same g (number + 1) forms)

own_none : (g k number : ℕ) (forms : List Form) → nat_eq k g ≡ false → entries_of g (entries_from k number forms) ≡ []
own_none g k number [] other = refl
own_none g k number (form ∷ forms) other =
    let e : Entry = record { guest = k; no = number; call = call_of form } in
    own_no g e (entries_from k (number + 1) forms) other ∙ own_none g k (number + 1) forms other

entries_picked : (seed g : ℕ) → entries_of g (one_thread seed) ≡ cond (is_guest g) (guest_history seed g) []
entries_picked seed g = picked (λ g (e : Entry). nat_eq e.guest g) (guest_history seed) (record {
  same = λ g is. own_same g 1 (calls_of seed g);
  none = λ g k is other. own_none g k 1 (calls_of seed k) other;
}) g

-- ---- lines

abbrev is_line_of : ℕ → Line → Bool
is_line_of g l = nat_eq l.guest g && is_call l.form

line_same : (g : ℕ) (forms : List Form) → AllByRecursion (IsOwnForm g) forms → filter (is_line_of g) (lines_of g forms) ≡ lines_of g forms
line_same g [] own = refl
line_same g (form ∷ forms) own =
    let l : Line = record { guest = g; form = form } in
    cond-true (is_line_of g l) _ _ (and_from (nat_eq g g) (is_call form) (eq-eqb g g refl) own.0.asks) ∙ ap (λ lines. l ∷ lines) (line_same g forms own.1)

line_none : (g k : ℕ) (forms : List Form) → nat_eq k g ≡ false → filter (is_line_of g) (lines_of k forms) ≡ []
line_none g k [] other = refl
line_none g k (form ∷ forms) other =
    let l : Line = record { guest = k; form = form } in
    cond-false (is_line_of g l) _ _ (and_left (nat_eq k g) (is_call form) other) ∙ line_none g k forms other

forms_same : (g : ℕ) (forms : List Form) → map (λ (l : Line). l.form) (lines_of g forms) ≡ forms
forms_same g [] = refl
forms_same g (form ∷ forms) = ap (λ l. form ∷ l) (forms_same g forms)

forms_if : (b : Bool) (g : ℕ) (forms : List Form) → map (λ (l : Line). l.form) (cond b (lines_of g forms) []) ≡ cond b forms []
forms_if true g forms = forms_same g forms
forms_if false g forms = refl

guest_bounds : (g : ℕ) → is_guest g ≡ true → (1 ≤ g) × (g ≤ 4)
guest_bounds g is = let parts = and_parts (leb 1 g) (leb g 4) is in (leb-true 1 g parts.0, leb-true g 4 parts.1)

pub forms_picked : (seed g : ℕ) → forms_of g (load_lines seed) ≡ cond (is_guest g) (calls_of seed g) []
forms_picked seed g =
    ap (map (λ (l : Line). l.form)) (picked is_line_of (λ g. lines_of g (calls_of seed g)) (record {
      same = λ g is. let bounds = guest_bounds g is in line_same g (calls_of seed g) (guest_forms seed g bounds.0 bounds.1);
      none = λ g k is other. line_none g k (calls_of seed k) other;
    }) g)
    ∙ forms_if (is_guest g) g (calls_of seed g)

entries_if : (b : Bool) (g : ℕ) (forms : List Form) → entries_from g 1 (cond b forms []) ≡ cond b (entries_from g 1 forms) []
entries_if true g forms = refl
entries_if false g forms = refl

pub loads_run_alone : (seed : ℕ) → IsHistoryOf (load_lines seed) (one_thread seed)
loads_run_alone seed g = entries_picked seed g ∙ sym (ap (entries_from g 1) (forms_picked seed g) ∙ entries_if (is_guest g) g (calls_of seed g))

-- who is none of the four has no call
pub no_entries : (seed g : ℕ) (h : History) → IsHistoryOf (load_lines seed) h → is_guest g ≡ false → entries_of g h ≡ []
no_entries seed g h is none = is g ∙ ap (entries_from g 1) (forms_picked seed g ∙ cond-false (is_guest g) (calls_of seed g) [] none)
