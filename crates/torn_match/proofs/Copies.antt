-- A copy of the header or of the region table, and one write.
use Rattle.std.proofs.Common.{◌≡◌, ◌<◌, ◌≤◌, ◌⊎◌, ℕ, ◌+◌, List, ◌++◌, length, take, drop, sym, ap, subst, ◌∙◌, arith, inl, inr}
use Rattle.std.proofs.lemmas.Bool.{cases_eq, cases_lt}
use Rattle.std.proofs.lemmas.List.{take-append-drop}
use Rattle.store_model.specs.Bytes.{Torn, bytes_at, written_over}
use Rattle.store_model.specs.File.{Write, File, seen, with_op}
use Rattle.store_model.proofs.Images.{images-synced_after}
use Rattle.store_model.proofs.Parts.{part-torn}
use Rattle.vhdx_format.specs.Headers.{header_place}
use Rattle.torn_match.specs.Laws.{CopiesAreWhole, IsLeftOfOne, IsOldOrNew}
use Rattle.torn_match.specs.TornMatches.{IsTouched, IsWholeFrom, region_place}
use Rattle.torn_match.proofs.Meant.{once_meant}

-- a write of nothing leaves all as it was
torn_nowhere : (at : ℕ) (old new : List ℕ) → Torn at 0 old new → new ≡ old
torn_nowhere at old new torn =
    let end : at + 0 ≡ at = omega arith in
    sym (take-append-drop at new) ∙ ap (λ front. front ++ drop at new) torn.before
    ∙ ap (λ rest. take at old ++ rest) (subst (λ (n : ℕ). drop n new ≡ drop n old) end torn.after) ∙ take-append-drop at old

module _ (file : File) (at : ℕ) (bytes image : List ℕ) (left : IsLeftOfOne file at bytes image) (place n : ℕ) (some : 0 < n) (whole : IsWholeFrom (with_op (Write at bytes) file) image place n) where
  abbrev Answer : Type 0
  Answer = IsOldOrNew place n (seen file) (written_over (seen file) at bytes) image

  torn : Torn at (length bytes) (seen file) image
  torn = subst (λ (old : List ℕ). Torn at (length bytes) old image) (images-synced_after file.attached file.ops left.left.0 left.synced left.left.1) left.left.2

  touched : (i : ℕ) → place ≤ i → i < place + n → at ≤ i → i < at + length bytes → Answer
  touched i a b c d =
      let there : IsTouched (with_op (Write at bytes) file) place n = (i, a, b, inl (c, d)) in
      elim (once_meant (λ meant. bytes_at meant place n ≡ bytes_at image place n) file at bytes left.synced (whole there)) [ inl e ↦ inl (sym e) | inr e ↦ inr (sym e) ]

  apart : (at + length bytes ≤ place) ⊎ (place + n ≤ at) → Answer
  apart (inl h) = inl (part-torn torn place n (inr h))
  apart (inr h) = inl (part-torn torn place n (inl h))

  nowhere : length bytes ≡ 0 → Answer
  nowhere e = inl (ap (λ b. bytes_at b place n) (torn_nowhere at (seen file) image (subst (λ (k : ℕ). Torn at k (seen file) image) e torn)))

  pub old_or_new : Answer
  old_or_new = by_place (cases_eq (length bytes) 0) (cases_lt place (at + length bytes)) (cases_lt at (place + n)) (cases_lt place at)
    where
      by_place : (length bytes ≡ 0) ⊎ (¬ (length bytes ≡ 0)) → (place < at + length bytes) ⊎ (at + length bytes ≤ place) → (at < place + n) ⊎ (place + n ≤ at) → (place < at) ⊎ (at ≤ place) → Answer
      by_place (inl none) b c d = nowhere none
      by_place (inr more) (inr b) c d = apart (inl b)
      by_place (inr more) (inl b) (inr c) d = apart (inr c)
      by_place (inr more) (inl b) (inl c) (inl d) = touched at (omega (arith, d)) c (omega arith) (omega (arith, more))
      by_place (inr more) (inl b) (inl c) (inr d) = touched place (omega arith) (omega (arith, some)) d b

pub copies_are_whole : CopiesAreWhole
copies_are_whole = record {
  header = λ file at bytes image left copy first second valid. old_or_new file at bytes image left (header_place copy) 4096 (omega arith) (left.whole.headers copy first second valid);
  region = λ file at bytes image left copy first second valid. old_or_new file at bytes image left (region_place copy) 65536 (omega arith) (left.whole.regions copy first second valid);
}
