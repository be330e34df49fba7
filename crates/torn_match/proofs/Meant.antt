-- What was meant to stand in a file, write by write.
use Rattle.std.proofs.Common.{◌≡◌, ◌⊎◌, ℕ, ◌+◌, true, List, [], ◌∷◌, length, refl, subst, arith, inl, inr}
use Rattle.store_model.specs.Bytes.{Torn, bytes_at, written_over, extended}
use Rattle.store_model.specs.File.{Op, Write, Tear, Grow, Sync, Seal, File, is_synced, is_synced_after, seen, seen_after, with_op}
use Rattle.store_model.specs.Places.{IsWrittenAfter}
use Rattle.vhdx_format.specs.Headers.{header_place}
use Rattle.vhdx_format.specs.Logs.{ring_bytes}
use Rattle.torn_match.specs.Laws.{FailedLeavesNoMore, ReadsAreUntorn, none_failed_after}
use Rattle.torn_match.specs.TornMatches.{AsMeant, IsTouched, WasMeant, WasMeantSince, region_place, ring_in}

-- ---- nothing was done since the last sync

synced_as : (P : List ℕ → Type 0) (attached : List ℕ) (ops : List Op) → is_synced_after ops ≡ true → AsMeant P attached ops → P (seen_after attached ops)
synced_as P attached [] synced h = h
synced_as P attached (Write at bytes ∷ older) synced h = cc
synced_as P attached (Tear at meant left ∷ older) synced h = cc
synced_as P attached (Grow len ∷ older) synced h = cc
synced_as P attached (Sync ∷ older) synced h = h
synced_as P attached (Seal ∷ older) synced h = synced_as P attached older synced h

synced_was : (P : List ℕ → Type 0) (attached : List ℕ) (ops : List Op) → is_synced_after ops ≡ true → WasMeantSince P attached ops → P (seen_after attached ops)
synced_was P attached [] synced h = h
synced_was P attached (Write at bytes ∷ older) synced h = cc
synced_was P attached (Tear at meant left ∷ older) synced h = cc
synced_was P attached (Grow len ∷ older) synced h = cc
synced_was P attached (Sync ∷ older) synced h = h
synced_was P attached (Seal ∷ older) synced h = synced_was P attached older synced h

-- one write since, and two
pub once_meant : (P : List ℕ → Type 0) (file : File) (at : ℕ) (bytes : List ℕ) → is_synced file ≡ true → WasMeant P (with_op (Write at bytes) file) → P (seen file) ⊎ P (written_over (seen file) at bytes)
once_meant P file at bytes synced (inl now) = inr (synced_as (λ f. P (written_over f at bytes)) file.attached file.ops synced now)
once_meant P file at bytes synced (inr before) = inl (synced_was P file.attached file.ops synced before)

pub twice_meant : (P : List ℕ → Type 0) (file : File) (at next : ℕ) (bytes more : List ℕ) → is_synced file ≡ true → WasMeant P (with_op (Write next more) (with_op (Write at bytes) file))
    → P (seen file) ⊎ (P (written_over (seen file) at bytes) ⊎ P (written_over (written_over (seen file) at bytes) next more))
twice_meant P file at next bytes more synced (inl now) = inr (inr (synced_as (λ f. P (written_over (written_over f at bytes) next more)) file.attached file.ops synced now))
twice_meant P file at next bytes more synced (inr before) = elim (once_meant P file at bytes synced before) [ inl x ↦ inl x | inr x ↦ inr (inl x) ]

-- ---- a write that failed

as_was : (P : List ℕ → Type 0) (attached : List ℕ) (ops : List Op) → AsMeant P attached ops → WasMeantSince P attached ops
as_was P attached [] h = h
as_was P attached (Write at bytes ∷ older) h = inl h
as_was P attached (Tear at meant left ∷ older) h = inl h
as_was P attached (Grow len ∷ older) h = inl h
as_was P attached (Sync ∷ older) h = h
as_was P attached (Seal ∷ older) h = as_was P attached older h

failed_meant : (P : List ℕ → Type 0) (file : File) (at : ℕ) (meant left : List ℕ) → WasMeant P (with_op (Tear at meant left) file) → WasMeant P (with_op (Write at meant) file)
failed_meant P file at meant left (inl (inl skipped)) = inr (as_was P file.attached file.ops skipped)
failed_meant P file at meant left (inl (inr done)) = inl done
failed_meant P file at meant left (inr before) = inr before

failed_written : (file : File) (at : ℕ) (meant left : List ℕ) → length left ≡ length meant → (i : ℕ) → IsWrittenAfter (Write at meant ∷ file.ops) i → IsWrittenAfter (Tear at meant left ∷ file.ops) i
failed_written file at meant left as_many i (inl h) = inl (h.0, omega (arith, h.1, as_many))
failed_written file at meant left as_many i (inr h) = inr h

pub failed_leaves_no_more : FailedLeavesNoMore
failed_leaves_no_more file at meant left image as_many here whole = (
  (here.0, here.1, subst (λ (n : ℕ). Torn at n here.0 image) as_many here.2),
  record {
    headers = λ copy first second valid touched. failed_meant _ file at meant left (whole.headers copy first second valid (turn _ _ touched));
    regions = λ copy first second valid touched. failed_meant _ file at meant left (whole.regions copy first second valid (turn _ _ touched));
    entries = λ header e head holds touched. failed_meant _ file at meant left (whole.entries header e head holds (touched.0, touched.1, touched.2, failed_written file at meant left as_many (header.log_at + touched.0) touched.3));
  },
) where
  turn : (a n : ℕ) → IsTouched (with_op (Write at meant) file) a n → IsTouched (with_op (Tear at meant left) file) a n
  turn a n touched = (touched.0, touched.1, touched.2, failed_written file at meant left as_many touched.0 touched.3)

-- ---- what a read gives

seen_meant : (P : List ℕ → Type 0) (attached : List ℕ) (ops : List Op) → none_failed_after ops ≡ true → P (seen_after attached ops) → AsMeant P attached ops
seen_meant P attached [] none h = h
seen_meant P attached (Write at bytes ∷ older) none h = seen_meant (λ f. P (written_over f at bytes)) attached older none h
seen_meant P attached (Tear at meant left ∷ older) none h = cc
seen_meant P attached (Grow len ∷ older) none h = seen_meant (λ f. P (extended f len)) attached older none h
seen_meant P attached (Sync ∷ older) none h = h
seen_meant P attached (Seal ∷ older) none h = seen_meant P attached older none h

not_written : (ops : List Op) (i : ℕ) → is_synced_after ops ≡ true → IsWrittenAfter ops i → ⊥
not_written [] i synced h = h
not_written (Write at bytes ∷ older) i synced h = cc
not_written (Tear at meant left ∷ older) i synced h = cc
not_written (Grow len ∷ older) i synced h = cc
not_written (Sync ∷ older) i synced h = h
not_written (Seal ∷ older) i synced h = not_written older i synced h

pub reads_are_untorn : ReadsAreUntorn
reads_are_untorn = record {
  read = λ file none.
      let now : (P : List ℕ → Type 0) → P (seen file) → WasMeant P file = λ P h. as_was P file.attached file.ops (seen_meant P file.attached file.ops none h) in
      record {
        headers = λ copy first second valid touched. now (λ meant. bytes_at meant (header_place copy) 4096 ≡ bytes_at (seen file) (header_place copy) 4096) refl;
        regions = λ copy first second valid touched. now (λ meant. bytes_at meant (region_place copy) 65536 ≡ bytes_at (seen file) (region_place copy) 65536) refl;
        entries = λ header e head holds touched. now (λ meant. ring_bytes (ring_in header meant) e.at (length e.bytes) ≡ e.bytes) holds.held;
      };
  synced = λ file image synced. record {
    headers = λ copy first second valid touched. absurd (not_written file.ops touched.0 synced touched.3);
    regions = λ copy first second valid touched. absurd (not_written file.ops touched.0 synced touched.3);
    entries = λ header e head holds touched. absurd (not_written file.ops (header.log_at + touched.0) synced touched.3);
  };
}
