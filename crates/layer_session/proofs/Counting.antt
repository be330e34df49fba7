-- Numbers of a range that pass a test.
use Rattle.std.proofs.Common.{◌≡◌, ◌≢◌, ℕ, zero, suc, ◌+◌, ◌<◌, ◌≤◌, ◌⊎◌, ◌==◌, ◌&&◌, ◌||◌, Bool, true, false, cond, List, [], ◌∷◌, refl, sym, ap, ◌∙◌, arith, inl, inr}
use Rattle.std.specs.Prelude.{Some, count_by, length, slice_get}
use Rattle.std.proofs.Math.ListN.{set}
use Rattle.std.specs.List.{list_any, range_with_len}
use Rattle.std.proofs.lemmas.Bool.{cases_eq, ne_eqb}
use Rattle.std.proofs.lemmas.List.Sums.{sum_by-cons}
use Rattle.std.proofs.Common.{eq-eqb}

pub count_cons : (f : ℕ → Bool) (x : ℕ) (xs : List ℕ) → count_by f (x ∷ xs) ≡ cond (f x) 1 0 + count_by f xs
count_cons f x xs = sum_by-cons (λ x. cond (f x) 1 0) x xs

pub count_same : (f g : ℕ → Bool) (a n : ℕ) → ((i : ℕ) → a ≤ i → i < a + n → f i ≡ g i) → count_by f (range_with_len a n) ≡ count_by g (range_with_len a n)
count_same f g a zero same = refl
count_same f g a (suc n) same =
    count_cons f a (range_with_len (a + 1) n)
    ∙ (ap (λ b. cond b 1 0 + count_by f (range_with_len (a + 1) n)) (same a (omega arith) (omega arith)) ∙ ap (λ k. cond (g a) 1 0 + k) (count_same f g (a + 1) n (λ i l k. same i (omega arith) (omega arith))))
    ∙ sym (count_cons g a (range_with_len (a + 1) n))

pub any_same : (f g : ℕ → Bool) (a n : ℕ) → ((i : ℕ) → a ≤ i → i < a + n → f i ≡ g i) → list_any f (range_with_len a n) ≡ list_any g (range_with_len a n)
any_same f g a zero same = refl
any_same f g a (suc n) same =
    ap (λ b. b || list_any f (range_with_len (a + 1) n)) (same a (omega arith) (omega arith)) ∙ ap (λ r. g a || r) (any_same f g (a + 1) n (λ i l k. same i (omega arith) (omega arith)))

pub any_none : (f : ℕ → Bool) (a n : ℕ) → ((i : ℕ) → a ≤ i → i < a + n → f i ≡ false) → list_any f (range_with_len a n) ≡ false
any_none f a zero none = refl
any_none f a (suc n) none = let e : f a ≡ false = none a (omega arith) (omega arith) in rw e (any_none f (a + 1) n (λ i l k. none i (omega arith) (omega arith)))

pub count_none : (a n : ℕ) → count_by (λ (c : ℕ). false) (range_with_len a n) ≡ 0
count_none a zero = refl
count_none a (suc n) = let e = count_none (a + 1) n in let f : count_by (λ (c : ℕ). false) (range_with_len a (suc n)) ≡ 0 + count_by (λ (c : ℕ). false) (range_with_len (a + 1) n) = count_cons (λ c. false) a (range_with_len (a + 1) n) in omega (arith, e, f)

-- two tests that differ at one number alone, which passes the second
pub count_more : (f g : ℕ → Bool) (k a n : ℕ) → a ≤ k → k < a + n → f k ≡ false → g k ≡ true → ((i : ℕ) → k ≢ i → g i ≡ f i) → count_by g (range_with_len a n) ≡ count_by f (range_with_len a n) + 1
count_more f g k a zero from to no_f yes_g beside = absurd (omega arith)
count_more f g k a (suc n) from to no_f yes_g beside = by_place (cases_eq k a) (λ ne. count_more f g k (a + 1) n (omega arith) (omega arith) no_f yes_g beside)
  where
    by_place : (k ≡ a) ⊎ (k ≢ a) → (k ≢ a → count_by g (range_with_len (a + 1) n) ≡ count_by f (range_with_len (a + 1) n) + 1) → count_by g (range_with_len a (suc n)) ≡ count_by f (range_with_len a (suc n)) + 1
    by_place (inl e) rest =
        let one : g a ≡ true = ap g (sym e) ∙ yes_g in
        let none : f a ≡ false = ap f (sym e) ∙ no_f in
        let same : count_by g (range_with_len (a + 1) n) ≡ count_by f (range_with_len (a + 1) n) = count_same g f (a + 1) n (λ i l m. beside i (λ q. omega arith)) in
        let first : count_by g (range_with_len a (suc n)) ≡ 1 + count_by g (range_with_len (a + 1) n) = count_cons g a (range_with_len (a + 1) n) ∙ ap (λ b. cond b 1 0 + count_by g (range_with_len (a + 1) n)) one in
        let second : count_by f (range_with_len a (suc n)) ≡ 0 + count_by f (range_with_len (a + 1) n) = count_cons f a (range_with_len (a + 1) n) ∙ ap (λ b. cond b 1 0 + count_by f (range_with_len (a + 1) n)) none in
        omega (arith, first, second, same)
    by_place (inr ne) rest =
        let same : g a ≡ f a = beside a ne in
        let first : count_by g (range_with_len a (suc n)) ≡ cond (f a) 1 0 + count_by g (range_with_len (a + 1) n) = count_cons g a (range_with_len (a + 1) n) ∙ ap (λ b. cond b 1 0 + count_by g (range_with_len (a + 1) n)) same in
        let second : count_by f (range_with_len a (suc n)) ≡ cond (f a) 1 0 + count_by f (range_with_len (a + 1) n) = count_cons f a (range_with_len (a + 1) n) in
        omega (arith, first, second, rest ne)

-- ---- a test with one number more

-- besides what passes `any`, the number k where `on` holds; and of all that what passes `lacks`
module _ (lacks any : ℕ → Bool) (k : ℕ) (on : Bool) where
  abbrev pub before : ℕ → Bool
  before c = lacks c && any c

  abbrev pub after : ℕ → Bool
  after c = lacks c && (((k == c) && on) || any c)

  pub beside : (c : ℕ) → k ≢ c → after c ≡ before c
  beside c ne = let e : (k == c) ≡ false = ne_eqb k c ne in rw e refl

  same_at : (l o x : Bool) → (o ≡ false) ⊎ ((l ≡ false) ⊎ ((l && x) ≡ true)) → (l && (o || x)) ≡ (l && x)
  same_at false o x h = refl
  same_at true o true h = or_true o
    where
      or_true : (o : Bool) → (o || true) ≡ true
      or_true true = refl
      or_true false = refl
  same_at true false false h = refl
  same_at true true false (inl e) = cc
  same_at true true false (inr (inl e)) = cc
  same_at true true false (inr (inr e)) = cc

  pub quiet : (on ≡ false) ⊎ ((lacks k ≡ false) ⊎ (before k ≡ true)) → (c : ℕ) → after c ≡ before c
  quiet h c = by_place (cases_eq k c)
    where
      by_place : (k ≡ c) ⊎ (k ≢ c) → after c ≡ before c
      by_place (inr ne) = beside c ne
      by_place (inl e) = let t : (k == c) ≡ true = eq-eqb k c e in rw t (rw (sym e) (same_at (lacks k) on (any k) h))

  pub here : on ≡ true → lacks k ≡ true → after k ≡ true
  here o l = let t : (k == k) ≡ true = eq-eqb k k refl in rw (l, t, o) refl

-- ---- a list with one item set

pub set_here : {A : Type 0} (xs : List A) (k : ℕ) (v : A) → k < length xs → slice_get (set xs k v) k ≡ Some v
set_here [] k v l = absurd (omega arith)
set_here (x ∷ xs) zero v l = refl
set_here (x ∷ xs) (suc k) v l = set_here xs k v (omega (arith, l))

pub set_beside : {A : Type 0} (xs : List A) (k i : ℕ) (v : A) → i < k → slice_get (set xs k v) i ≡ slice_get xs i
set_beside [] k i v l = refl
set_beside (x ∷ xs) zero i v l = absurd (omega arith)
set_beside (x ∷ xs) (suc k) zero v l = refl
set_beside (x ∷ xs) (suc k) (suc i) v l = set_beside xs k i v (omega (arith, l))
