-- A file has one list of findings.
use Rattle.std.proofs.Common.{◌≡◌, ◌⊎◌, ℕ, zero, suc, ◌<◌, List, [], ◌∷◌, ◌++◌, length, map, Contains, Result, Ok, Err, inl, inr, refl, sym, ap, subst, ◌∙◌, arith}
use Rattle.std.specs.Prelude.{All}
use Rattle.std.specs.List.{AllPairs}
use Rattle.std.proofs.lemmas.List.Elements.{All-contains}
use Rattle.vx_base.specs.declared.parts.Parts.{Parts}
use Rattle.vhdx_format.specs.FileParts.{shape_of, taken_areas}
use Rattle.vhdx_format.specs.HeldBlocks.{Area}
use Rattle.vhdx_format.specs.Identifiers.{identified}
use Rattle.vhdx_format.specs.Layers.{Shape}
use Rattle.vhdx_format.specs.OpenedFiles.{ReadsNumbers}
use Rattle.vhdx_format.specs.Rules.{BrokenRule}
use Rattle.vhdx_format.specs.SettledFiles.{StandsFor}
use Rattle.vhdx_format.proofs.FileLemmas.{stands_once}
use Rattle.vhdx_format.proofs.OpenedLemmas.{numbers_once}
use Rattle.table_faults.specs.Faults.{GoesBefore, Lists, ListsFaults, ListsPairs}
use Rattle.table_faults.specs.declared.pairs.BlockPair.{BlockPair}
use Rattle.check_repair.specs.Findings.{BreaksRules, Breaks, Finding, Finds, copy_findings, known, locator_rules, numbered, table_rules, unknown, unread}

-- ---- lists that rise

module _ {X : Type 0} (R : X → X → Type 0) (apart : (x : X) → R x x → ⊥) where
  below : (x : X) (xs : List X) → AllPairs R (x ∷ xs) → All (R x) xs
  below x xs rising k d within = rising 0 (suc k) d (omega arith) (omega (arith, within))

  rest : (x : X) (xs : List X) → AllPairs R (x ∷ xs) → AllPairs R xs
  rest x xs rising i j d lt within = rising (suc i) (suc j) d (omega (arith, lt)) (omega (arith, within))

  first_or : (x y : X) (xs : List X) → Contains (x ∷ xs) y → (x ≡ y) ⊎ Contains xs y
  first_or x y xs (zero, within, is) = inl is
  first_or x y xs (suc k, within, is) = inr (k, omega (arith, within), is)

  here : (x : X) (xs : List X) → Contains (x ∷ xs) x
  here x xs = (0, omega arith, refl)

  further : (x y : X) (xs : List X) → Contains xs y → Contains (x ∷ xs) y
  further x y xs (k, within, is) = (suc k, omega (arith, within), is)

  nowhere : (y : X) → Contains [] y → ⊥
  nowhere y (k, within, is) = omega (arith, within)

  same_first : (through : (x y z : X) → R x y → R y z → R x z) (x y : X) (xs ys : List X) → All (R x) xs → All (R y) ys → (x ≡ y) ⊎ Contains xs y → (y ≡ x) ⊎ Contains ys x → x ≡ y
  same_first through x y xs ys r s (inl e) g = e
  same_first through x y xs ys r s (inr c) (inl e) = sym e
  same_first through x y xs ys r s (inr c) (inr d) = absurd (apart x (through x y x (All-contains (R x) xs y r c) (All-contains (R y) ys x s d)))

  still : (x y z : X) (xs ys : List X) → x ≡ y → All (R x) xs → Contains xs z → (y ≡ z) ⊎ Contains ys z → Contains ys z
  still x y z xs ys same r c (inl e) = absurd (apart z (subst (λ w. R w z) (same ∙ e) (All-contains (R x) xs z r c)))
  still x y z xs ys same r c (inr d) = d

  -- two of them with the same members are one
  pub once : (through : (x y z : X) → R x y → R y z → R x z) (xs ys : List X) → AllPairs R xs → AllPairs R ys → ((z : X) → Contains xs z → Contains ys z) → ((z : X) → Contains ys z → Contains xs z) → xs ≡ ys
  once through [] [] r s f g = refl
  once through [] (y ∷ ys) r s f g = absurd (nowhere y (g y (here y ys)))
  once through (x ∷ xs) [] r s f g = absurd (nowhere x (f x (here x xs)))
  once through (x ∷ xs) (y ∷ ys) r s f g =
      let p = below x xs r in
      let q = below y ys s in
      let same : x ≡ y = same_first through x y xs ys p q (first_or x y xs (g y (here y ys))) (first_or y x ys (f x (here x xs))) in
      let tails : xs ≡ ys =
      once through xs ys (rest x xs r) (rest y ys s) (λ z c. still x y z xs ys same p c (first_or y z ys (f z (further x z xs c))))
      (λ z c. still y x z ys xs (sym same) q c (first_or x z xs (g z (further y z ys c)))) in
      ap (λ z. z ∷ xs) same ∙ ap (λ zs. y ∷ zs) tails

numbers_listed : (P : ℕ → Type 0) (xs ys : List ℕ) → Lists P xs → Lists P ys → xs ≡ ys
numbers_listed P xs ys a b =
    once (λ (i j : ℕ). i < j) (λ i h. omega (arith, h)) (λ i j k h l. omega (arith, h, l)) xs ys a.rising b.rising (λ z c. b.all z (All-contains P xs z a.each c)) (λ z c. a.all z (All-contains P ys z b.each c))

itself : (a : BlockPair) → GoesBefore a a → ⊥
itself a (inl h) = omega (arith, h)
itself a (inr h) = omega (arith, h.1)

through_pairs : (a b c : BlockPair) → GoesBefore a b → GoesBefore b c → GoesBefore a c
through_pairs a b c (inl h) (inl k) = inl (omega (arith, h, k))
through_pairs a b c (inl h) (inr k) = inl (omega (arith, h, k.0))
through_pairs a b c (inr h) (inl k) = inl (omega (arith, h.0, k))
through_pairs a b c (inr h) (inr k) = inr (h.0 ∙ k.0, omega (arith, h.1, k.1))

pairs_listed : (P : ℕ → ℕ → Type 0) (xs ys : List BlockPair) → ListsPairs P xs → ListsPairs P ys → xs ≡ ys
pairs_listed P xs ys a b =
    once GoesBefore itself through_pairs xs ys a.rising b.rising (λ z c. b.all z.first z.second (All-contains (λ (pair : BlockPair). P pair.first pair.second) xs z a.each c))
    (λ z c. a.all z.first z.second (All-contains (λ (pair : BlockPair). P pair.first pair.second) ys z b.each c))

faults_listed : (p : Shape) (taken : List Area) (file : List ℕ) (s t : List ℕ) (i j : List ℕ) (o q : List BlockPair) (b c : List ℕ) → ListsFaults p taken file s i o b → ListsFaults p taken file t j q c
    → table_rules s i o b ≡ table_rules t j q c
faults_listed p taken file s t i j o q b c x y =
    ap (λ z. table_rules z i o b) (numbers_listed _ s t x.all_states y.all_states) ∙ ap (λ z. table_rules t z o b) (numbers_listed _ i j x.all_places y.all_places)
    ∙ ap (λ z. table_rules t j z b) (pairs_listed _ o q x.all_overlaps y.all_overlaps) ∙ ap (λ z. table_rules t j q z) (numbers_listed _ b c x.all_bitmaps y.all_bitmaps)

-- ---- a file's

same_ok : (a b : Parts) → (let r : Result Parts BrokenRule = Ok a in r) ≡ Ok b → a ≡ b
same_ok a b e = cc

same_err : (a b : BrokenRule) → (let r : Result Parts BrokenRule = Err a in r) ≡ Err b → a ≡ b
same_err a b e = cc

rules_once : (file : List ℕ) (xs ys : List BrokenRule) → BreaksRules file xs → BreaksRules file ys → xs ≡ ys
rules_once file _ _ (unread a h) (unread b k) = ap (λ r. r ∷ []) (same_err a b (numbers_once file (Err a) (Err b) h k))
rules_once file _ _ (unread a h) (numbered q d t j r c k l m) = let never = numbers_once file (Err a) (Ok q) h k in cc
rules_once file _ _ (numbered p b s i o a h l m) (unread r k) = let never = numbers_once file (Ok p) (Err r) h k in cc
rules_once file _ _ (numbered p b s i o a h stands lists) (numbered q d t j r c k others more) =
    let same : q ≡ p = same_ok q p (numbers_once file (Ok q) (Ok p) k h) in
    let bytes : d ≡ b = stands_once file d b others stands in
    let moved : ListsFaults (shape_of p) (taken_areas p) b t j r c =
    subst (λ (z : Parts). ListsFaults (shape_of z) (taken_areas z) b t j r c) same (subst (λ (z : List ℕ). ListsFaults (shape_of q) (taken_areas q) z t j r c) bytes more) in
    ap (λ z. z ++ locator_rules p) (faults_listed (shape_of p) (taken_areas p) b s t i j o r a c lists moved) ∙ ap (λ (z : Parts). table_rules t j r c ++ locator_rules z) (sym same)

same_rule : (a b : BrokenRule) → (let r : Result ℕ BrokenRule = Err a in r) ≡ Err b → a ≡ b
same_rule a b e = cc

pub one_list : (file : List ℕ) (xs ys : List Finding) → Finds file xs → Finds file ys → xs ≡ ys
one_list file _ _ (unknown a h) (unknown b k) = ap (λ r. Breaks r ∷ []) (same_rule a b (sym h ∙ k))
one_list file _ _ (unknown a h) (known len bytes rules k stands breaks) = let never : Err a ≡ Ok len = sym h ∙ k in cc
one_list file _ _ (known len bytes rules h stands breaks) (unknown b k) = let never : Ok len ≡ Err b = sym h ∙ k in cc
one_list file _ _ (known len bytes rules h stands breaks) (known size others more k settles also) =
    ap (λ rs. map Breaks rs ++ copy_findings bytes) (rules_once file rules more breaks also) ∙ ap (λ z. map Breaks more ++ copy_findings z) (stands_once file bytes others stands settles)
