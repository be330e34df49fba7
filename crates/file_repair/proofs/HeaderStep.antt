-- The write of the repaired header.
use Rattle.std.proofs.Common.{◌≡◌, ℕ, ◌-◌, ◌^◌, ◌≤◌, List, length, get_or, Ok, refl, arith, inl, inr}
use Rattle.vx_base.specs.Fields.{written_over}
use Rattle.vx_base.specs.declared.parts.Header.{Header}
use Rattle.vx_base.specs.declared.parts.Parts.{Parts}
use Rattle.store_model.specs.File.{File, Sync, Write, seen, with_op}
use Rattle.store_model.proofs.Images.{images-sync, images-synced}
use Rattle.store_model.proofs.Plans.{EachPlanned}
use Rattle.torn_match.specs.TornMatches.{EachUntorn}
use Rattle.torn_match.proofs.Moments.{untorn_all}
use Rattle.header_pair.specs.CopyWrites.{HoldsOldOrNew, LeavesCopy}
use Rattle.vhdx_format.specs.FileParts.{read_head}
use Rattle.vhdx_format.specs.Headers.{IsWritable, header_bytes, header_place}
use Rattle.vhdx_format.specs.SettledFiles.{as_it_is}
use Rattle.log_write.specs.Sessions.{IsKept, SettlesNear, nowhere}
use Rattle.log_write.specs.Writing.{header_writes}
use Rattle.log_write.proofs.Beginning.{settled_step}
use Rattle.log_write.proofs.HeaderSteps.{IsNext, kept_by, stands_as_is, step_head, step_images, step_kept, step_leaves, step_untorn, step_written}
use Rattle.file_repair.specs.Repaired.{CanRepair, KeepsLayer, repaired_header}
use Rattle.file_repair.proofs.Opened.{IsOpenedAs, near_keeps, opened}

pub next_of : (header : Header) (id : List ℕ) → header.number ≤ 2 ^ 64 - 2 ^ 32 → IsNext header (repaired_header header id)
next_of header id low = record { copy = refl; more = omega (arith, low); succeeds = record { version = refl; log_version = inl refl; log_at = refl; log_len = refl } }

module _ (parts : Parts) (id : List ℕ) (f : File) (can : CanRepair parts f) (w : IsWritable (repaired_header parts.header id)) where
  abbrev h : Header
  h = parts.header

  abbrev next : Header
  next = repaired_header parts.header id

  abbrev base : List ℕ
  base = seen f

  o : IsOpenedAs parts (seen f)
  o = opened parts f can

  is_next : IsNext parts.header (repaired_header parts.header id)
  is_next = next_of parts.header id can.low

  near_base : SettlesNear h base (length base) nowhere base
  near_base = record { head = o.head; settled = base; opens = o.settled; whole = omega arith; long = omega arith; short = omega arith; same = λ i l k. inr refl }

  keeps_base : KeepsLayer parts base base
  keeps_base = near_keeps parts can.numbers base o h refl refl base near_base refl

  kept_next : (image : List ℕ) → LeavesCopy next.copy base image → (i : ℕ) → IsKept next i → get_or image i 0 ≡ get_or base i 0
  kept_next image l i k = step_kept base h next o.head is_next w image l i (kept_by h next is_next.succeeds i k)

  near_next : (image : List ℕ) → LeavesCopy next.copy base image → read_head image ≡ Ok next → SettlesNear next base (length base) nowhere image
  near_next image l e = stands_as_is next base image e refl l.same_length (kept_next image l)

  keeps_image : (image : List ℕ) → LeavesCopy next.copy base image → HoldsOldOrNew next.copy next base image → KeepsLayer parts base image
  keeps_image image l holds = elim (step_head base h next o.head is_next w image l holds) [
    | inl e ↦ near_keeps parts can.numbers base o h refl refl image (settled_step base h next o.head is_next w o.settled image l e) refl
    | inr e ↦ near_keeps parts can.numbers base o next refl refl image (near_next image l e) refl
  ]

  abbrev pub written : List ℕ
  written = written_over (seen f) (header_place (repaired_header parts.header id).copy) (header_bytes (repaired_header parts.header id))

  pub written_leaves : LeavesCopy (repaired_header parts.header id).copy (seen f) written
  written_leaves = step_leaves base h next o.head is_next w

  pub written_read : read_head written ≡ Ok (repaired_header parts.header id)
  written_read = step_written base h next o.head is_next w

  pub written_kept : (i : ℕ) → IsKept (repaired_header parts.header id) i → get_or written i 0 ≡ get_or (seen f) i 0
  written_kept i k = kept_next written written_leaves i k

  abbrev pub near_written : SettlesNear (repaired_header parts.header id) (seen f) (length (seen f)) nowhere written
  near_written = record {
    head = written_read;
    settled = written;
    opens = as_it_is (inl refl);
    whole = omega arith;
    long = omega (arith, written_leaves.same_length);
    short = omega (arith, written_leaves.same_length);
    same = λ i l k. inr (written_kept i k);
  }

  pub keeps_written : KeepsLayer parts (seen f) written
  keeps_written = near_keeps parts can.numbers base o next refl refl written near_written refl

  pub header_planned : EachPlanned (EachUntorn (KeepsLayer parts (seen f))) f (header_writes (repaired_header parts.header id))
  header_planned = (
    untorn_all (KeepsLayer parts base) f (images-synced (KeepsLayer parts base) f can.synced keeps_base),
    (
      λ image here untorn. keeps_image image (step_images base h next o.head is_next w f refl can.synced image here) (step_untorn base h next o.head is_next w f refl can.synced image here untorn),
      untorn_all (KeepsLayer parts base) (with_op Sync (with_op (Write (header_place next.copy) (header_bytes next)) f))
          (images-sync (KeepsLayer parts base) (with_op (Write (header_place next.copy) (header_bytes next)) f) keeps_written),
    ),
  )
