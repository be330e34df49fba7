-- The write of an entry to the ring: at each moment of it, what an image without a torn match holds.
use Rattle.std.proofs.Common.{◌≡◌, ℕ, ◌+◌, ◌-◌, ◌%◌, ◌<◌, ◌≤◌, ◌⊎◌, true, List, [], ◌∷◌, length, take, drop, Ok, sym, subst, arith, inl, inr}
use Rattle.std.proofs.lemmas.Bool.{cases_lt}
use Rattle.vx_base.specs.declared.parts.Header.{Header}
use Rattle.store_model.specs.File.{File, Op, Write, is_synced, seen}
use Rattle.store_model.specs.Plans.{bytes_after}
use Rattle.store_model.proofs.Images.{images-synced}
use Rattle.store_model.proofs.Parts.{length-part}
use Rattle.store_model.proofs.Plans.{EachPlanned}
use Rattle.torn_match.specs.Laws.{GoesToLog}
use Rattle.torn_match.specs.TornMatches.{EachUntorn, ring_in}
use Rattle.torn_match.proofs.Entries.{both_parts, one_part, start_part}
use Rattle.torn_match.proofs.Moments.{untorn_all}
use Rattle.vhdx_format.specs.FileParts.{read_head}
use Rattle.vhdx_format.specs.Logs.{Entry}
use Rattle.vhdx_format.specs.TornWrites.{BeginsOldOrIsWhole, WritesEntry}
use Rattle.vhdx_format.proofs.EntryLaws.{head_of_held}
use Rattle.log_write.specs.Writing.{ring_writes}
use Rattle.log_write.proofs.Rings.{ring_split, ring_whole}

module _ (header : Header) (f : File) (e : Entry) (synced : is_synced f ≡ true) (within : header.log_at + header.log_len ≤ length (seen f)) (whole : header.log_len % 4096 ≡ 0) where
  -- an entry that is valid in the image, by this header, begins as the ring did before, or is whole
  abbrev pub IsWholeAfter : List ℕ → List ℕ → Type 0
  IsWholeAfter after image =
      read_head image ≡ Ok header
      → BeginsOldOrIsWhole header.log_at header.log e.at (length e.bytes) (ring_in header (seen f)) (ring_in header after) (ring_in header image)

  -- before anything of it is written
  at_first : (after : List ℕ) → EachUntorn (IsWholeAfter after) f
  at_first after =
      untorn_all (IsWholeAfter after) f
      (images-synced (IsWholeAfter after) f synced
      (λ head x holds span.
      let long : length (ring_in header (seen f)) ≡ header.log_len = length-part (seen f) header.log_at header.log_len within in
      inl (head_of_held header.log_at header.log (ring_in header (seen f)) (omega (arith, long, whole)) x holds)))

  abbrev Goal : List Op → Type 0
  Goal ops =
      length (bytes_after ops (seen f)) ≡ length (seen f) → WritesEntry header.log_at header.log (ring_in header (seen f)) (ring_in header (bytes_after ops (seen f))) e
      → EachPlanned (EachUntorn (IsWholeAfter (bytes_after ops (seen f)))) f ops

  in_one : e.at + length e.bytes ≤ header.log_len → Goal (Write (header.log_at + e.at) e.bytes ∷ [])
  in_one fits long w = (
    at_first _,
    one_part header f e fits (record { synced = synced; within = within; whole = whole; as_long = long; writes = w }),
  )

  in_two : header.log_len < e.at + length e.bytes → Goal (Write header.log_at (drop (header.log_len - e.at) e.bytes) ∷ Write (header.log_at + e.at) (take (header.log_len - e.at) e.bytes) ∷ [])
  in_two far long w =
      let goes : GoesToLog header f e _ = record { synced = synced; within = within; whole = whole; as_long = long; writes = w } in
      (at_first _, (start_part header f e far goes, both_parts header f e far goes))

  pub ring_untorn : Goal (ring_writes header.log_at header.log_len e.at e.bytes)
  ring_untorn = by_end (cases_lt header.log_len (e.at + length e.bytes))
    where
      by_end : (header.log_len < e.at + length e.bytes) ⊎ (e.at + length e.bytes ≤ header.log_len) → Goal (ring_writes header.log_at header.log_len e.at e.bytes)
      by_end (inr h) = subst Goal (sym (ring_whole header.log_at header.log_len e.at e.bytes h)) (in_one h)
      by_end (inl h) = subst Goal (sym (ring_split header.log_at header.log_len e.at e.bytes h)) (in_two h)
