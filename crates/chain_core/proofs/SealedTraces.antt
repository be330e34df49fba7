-- What the seal of a file leaves of what a store tells: each file's bytes, its images, and whether it is synced.
use Rattle.std.proofs.Common.{◌≡◌, ◌≢◌, ℕ, ◌==◌, Bool, true, false, cond, List, ◌∷◌, refl, subst}
use Rattle.std.specs.Prelude.{Option, Some, None}
use Rattle.store_model.specs.Disk.{WhereBothTold, WhereTold, told_after}
use Rattle.store_model.specs.File.{File, IsFileImage, Seal, is_synced, seen, with_op}
use Rattle.store_model.specs.Trace.{NamedBytes, Trace, bytes_of, file_of, ops_of, with_change}
use Rattle.store_model.proofs.Spans.{file_of-with_change_other}
use Rattle.torn_match.specs.TornMatches.{HasNoTornMatch}
use Rattle.chain_model.specs.Images.{IsCleanImage}
use Rattle.layer_session.specs.Calls.{IsBeside}

-- the trace once this file was sealed
abbrev pub sealed_at : ℕ → Trace → Trace
sealed_at n t = with_change n Seal t

-- what holds of a file, and of it sealed, holds of it once some file was sealed
pub either_file : (P : File → Type 0) (n m : ℕ) (t : Trace) → P (file_of t m) → P (with_op Seal (file_of t m)) → P (file_of (sealed_at n t) m)
unfolding file_of with_change
either_file P n m t was sealed = by_test (n == m)
  where
    by_test : (b : Bool) → P (record { attached = bytes_of t.attached m; ops = cond b (Seal ∷ ops_of m t.changes) (ops_of m t.changes) })
    by_test true = sealed
    by_test false = was

pub seen_still : (n m : ℕ) (t : Trace) → seen (file_of (sealed_at n t) m) ≡ seen (file_of t m)
seen_still n m t = either_file (λ f. seen f ≡ seen (file_of t m)) n m t refl refl

pub synced_still : (n m : ℕ) (t : Trace) → is_synced (file_of (sealed_at n t) m) ≡ is_synced (file_of t m)
synced_still n m t = either_file (λ f. is_synced f ≡ is_synced (file_of t m)) n m t refl refl

pub image_before : (n m : ℕ) (t : Trace) (image : List ℕ) → IsFileImage (file_of (sealed_at n t) m) image → IsFileImage (file_of t m) image
image_before n m t image = either_file (λ f. IsFileImage f image → IsFileImage (file_of t m) image) n m t (λ h. h) (λ h. h)

pub untorn_before : (n m : ℕ) (t : Trace) (image : List ℕ) → HasNoTornMatch (file_of (sealed_at n t) m) image → HasNoTornMatch (file_of t m) image
untorn_before n m t image = either_file (λ f. HasNoTornMatch f image → HasNoTornMatch (file_of t m) image) n m t (λ h. h) (λ h. record { headers = h.headers; regions = h.regions; entries = h.entries })

pub clean_before : (n : ℕ) (t : Trace) (image : List NamedBytes) → IsCleanImage (sealed_at n t) image → IsCleanImage t image
unfolding with_change
clean_before n t image clean = record {
  left = record { names = clean.left.names; each = λ file within. image_before n file t (bytes_of image file) (clean.left.each file within) };
  whole = λ file within. untorn_before n file t (bytes_of image file) (clean.whole file within);
}

pub beside_still : (n m : ℕ) (t : Trace) → m ≢ n → IsBeside m t (sealed_at n t)
unfolding with_change
beside_still n m t ne = record { same = file_of-with_change_other n m Seal t ne; names = refl }

-- ---- what is told

pub told_still : (P : Trace → Type 0) (n : ℕ) (told : Option Trace) → ((t : Trace) → P t → P (sealed_at n t)) → WhereTold told P → WhereTold (told_after n Seal told) P
told_still P n None f h t is = let never : ◌≡◌ {A = Option Trace} None (Some t) = is in cc
told_still P n (Some u) f h t is = let same : sealed_at n u ≡ t = cc in subst P same (f u (h u refl))

pub beside_told : (n m : ℕ) (told : Option Trace) → m ≢ n → WhereBothTold (IsBeside m) told (told_after n Seal told)
beside_told n m None ne = tt
beside_told n m (Some t) ne = beside_still n m t ne
