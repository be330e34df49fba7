-- The lines of sectors, one after another.
use Rattle.std.proofs.Common.{◌≡◌, ℕ, zero, suc, ◌+◌, ◌-◌, ◌*◌, ◌<◌, ◌≤◌, List, [], ◌∷◌, inl, inr, length, ◌++◌, take, drop, refl, sym, ap, ◌∙◌, arith}
use Rattle.std.specs.Prelude.{min, slice_set}
use Rattle.std.proofs.lemmas.List.{append_assoc, append-nil, take-append-le, take_all, drop-drop}
use Rattle.std.proofs.lemmas.Bool.{cases_lt}
use Rattle.std.proofs.Math.Seq.{take-append-add}
use Rattle.printing.specs.Answers.{sector_line, sector_lines}

pub one_set : (xs : List ℕ) (b : ℕ) → length xs ≡ 1 → slice_set xs 0 b ≡ b ∷ []
one_set [] b h = absurd (omega (arith, h))
one_set (x ∷ []) b h = refl
one_set (x ∷ (y ∷ ys)) b h = absurd (omega (arith, h))

next_lines : (number : ℕ) (bytes : List ℕ) (count : ℕ) → 0 < count → sector_lines 512 number bytes count ≡ sector_line number (take 512 bytes) ++ sector_lines 512 (number + 1) (drop 512 bytes) (count - 1)
unfolding sector_lines
next_lines number bytes zero some = absurd (omega (arith, some))
next_lines number bytes (suc count) some = let one_less : suc count - 1 ≡ count = omega arith in rw one_less refl

-- with one more line what was written and the lines of the rest are still the lines of all
pub one_line : (done rest line front back all : List ℕ) (number count left : ℕ) → line ≡ sector_line number front → front ≡ take 512 rest → back ≡ drop 512 rest → 0 < count → left ≡ count - 1
    → done ++ sector_lines 512 number rest count ≡ all → (done ++ line) ++ sector_lines 512 (number + 1) back left ≡ all
one_line done rest line front back all number count left line_is front_is back_is some left_is whole =
    append_assoc done line (sector_lines 512 (number + 1) back left)
    ∙ ap (λ t. done ++ t)
    (ap (λ l. l ++ sector_lines 512 (number + 1) back left) line_is
    ∙ ap (λ f. sector_line number f ++ sector_lines 512 (number + 1) back left) front_is
    ∙ ap (λ b. sector_line number (take 512 rest) ++ sector_lines 512 (number + 1) b left) back_is
    ∙ ap (λ n. sector_line number (take 512 rest) ++ sector_lines 512 (number + 1) (drop 512 rest) n) left_is
    ∙ sym (next_lines number rest count some))
    ∙ whole

pub all_lines : (text rest all : List ℕ) (number count : ℕ) → count ≡ 0 → text ++ sector_lines 512 number rest count ≡ all → text ≡ all
unfolding sector_lines
all_lines text rest all number count none whole = sym (append-nil text) ∙ ap (λ n. text ++ sector_lines 512 number rest n) (sym none) ∙ whole

-- the first bytes of a line are so of the lines of all
pub part_of : (done line behind all : List ℕ) (n : ℕ) → (done ++ line) ++ behind ≡ all → done ++ take n line ≡ take (length done + min n (length line)) all
part_of done line behind all n whole =
    sym
    (ap (take (length done + min n (length line))) (sym whole ∙ append_assoc done line behind)
    ∙ take-append-add done (line ++ behind) (min n (length line))
    ∙ ap (λ t. done ++ t) (take-append-le (min n (length line)) line behind (min_le n (length line)) ∙ take_least n line))
  where
    min_le : (a b : ℕ) → min a b ≤ b
    min_le a b = grind arith

    take_least : (n : ℕ) (xs : List ℕ) → take (min n (length xs)) xs ≡ take n xs
    take_least n xs = elim (cases_lt (length xs) n) [
      | inl short ↦
          let e : min n (length xs) ≡ length xs = grind arith in
          ap (λ k. take k xs) e ∙ take_all (length xs) xs (omega arith) ∙ sym (take_all n xs (omega (arith, short)))
      | inr long ↦ let e : min n (length xs) ≡ n = grind arith in ap (λ k. take k xs) e
    ]

-- the lines of so many sectors, and then those of the others
pub lines_split : (number : ℕ) (bytes : List ℕ) (n m : ℕ) → sector_lines 512 number bytes (n + m) ≡ sector_lines 512 number bytes n ++ sector_lines 512 (number + n) (drop (512 * n) bytes) m
unfolding sector_lines
lines_split number bytes zero m =
    let none : 0 + m ≡ m = omega arith in
    let here : number ≡ number + 0 = omega arith in
    ap (λ k. sector_lines 512 number bytes k) none ∙ ap (λ k. sector_lines 512 k bytes m) here
lines_split number bytes (suc n) m =
    let line = sector_line number (take 512 bytes) in
    let more : suc n + m ≡ suc (n + m) = omega arith in
    let place : number + 1 + n ≡ number + suc n = omega arith in
    let behind : drop (512 * n) (drop 512 bytes) ≡ drop (512 * suc n) bytes = drop-drop (512 * n) 512 bytes ∙ ap (λ k. drop k bytes) (omega arith) in
    ap (λ k. sector_lines 512 number bytes k) more
    ∙ ap (λ t. line ++ t) (lines_split (number + 1) (drop 512 bytes) n m ∙ ap (λ k. sector_lines 512 (number + 1) (drop 512 bytes) n ++ sector_lines 512 k (drop (512 * n) (drop 512 bytes)) m) place)
    ∙ ap (λ b. line ++ (sector_lines 512 (number + 1) (drop 512 bytes) n ++ sector_lines 512 (number + suc n) b m)) behind
    ∙ sym (append_assoc line (sector_lines 512 (number + 1) (drop 512 bytes) n) (sector_lines 512 (number + suc n) (drop (512 * suc n) bytes) m))

-- with n more lines what was written and the lines of the rest are still the lines of all
pub more_lines : (done rest lines back all : List ℕ) (number next n left less : ℕ) → lines ≡ sector_lines 512 number rest n → back ≡ drop (512 * n) rest → next ≡ number + n → left ≡ n + less
    → done ++ sector_lines 512 number rest left ≡ all → (done ++ lines) ++ sector_lines 512 next back less ≡ all
more_lines done rest lines back all number next n left less lines_are back_is next_is left_is whole =
    append_assoc done lines (sector_lines 512 next back less)
    ∙ ap (λ t. done ++ t)
    (ap (λ l. l ++ sector_lines 512 next back less) lines_are
    ∙ ap (λ b. sector_lines 512 number rest n ++ sector_lines 512 next b less) back_is
    ∙ ap (λ k. sector_lines 512 number rest n ++ sector_lines 512 k (drop (512 * n) rest) less) next_is
    ∙ sym (lines_split number rest n less)
    ∙ ap (λ k. sector_lines 512 number rest k) (sym left_is))
    ∙ whole
