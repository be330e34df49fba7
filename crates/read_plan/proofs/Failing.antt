-- Readers that have failed.
use Rattle.std.proofs.Common.{◌≡◌, ◌<◌, ◌∷◌, ◌||◌, ◌∙◌, ℕ, zero, suc, Bool, true, false, List, [], length, set, refl, sym, ap, arith}
use Rattle.std.specs.Prelude.{nat_lt}
use Rattle.std.proofs.lemmas.Bool.{lt-ltb}
use Rattle.store_model.specs.Cause.{Rose}
use Rattle.store_model.specs.Disk.{Sealed}
use Rattle.store_model.specs.declared.fault.ReadFault.{ReadFault}
use Rattle.read_plan.specs.Reading.{ReaderFailed, has_failed}

or_true : (b : Bool) → (b || true) ≡ true
or_true true = refl
or_true false = refl

pub some_lt : (n : ℕ) → 0 < n → nat_lt 0 n ≡ true
some_lt n less = lt-ltb 0 n less

-- a count that rose
pub risen_lt : (before now : ℕ) → Rose before now → nat_lt 0 now ≡ true
risen_lt before now rose = let r = rose.risen in some_lt now (omega (arith, r))

-- one of them that has failed
pub failed_at : (readers : List Sealed) (i : ℕ) (s : Sealed) → i < length readers → nat_lt 0 s.failed ≡ true → has_failed (set readers i s) ≡ true
failed_at [] i s within failed = absurd (omega (arith, within))
failed_at (r ∷ readers) zero s within failed = ap (λ b. b || has_failed readers) failed
failed_at (r ∷ readers) (suc i) s within failed = ap (λ b. nat_lt 0 r.failed || b) (failed_at readers i s (omega (arith, within)) failed) ∙ or_true (nat_lt 0 r.failed)

pub has_now : (old new : List Sealed) (fault : ReadFault) → ReaderFailed old new fault → has_failed new ≡ true
has_now old new fault f = ap has_failed f.only ∙ failed_at old f.i f.now f.within (risen_lt f.was.failed f.now.failed f.failed.rose)
