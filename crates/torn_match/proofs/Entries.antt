-- An entry that is written to the log, in one part or in two.
use Rattle.std.proofs.Common.{◌≡◌, ◌<◌, ◌≤◌, ◌⊎◌, ℕ, ◌+◌, ◌-◌, ◌%◌, List, ◌∷◌, length, take, drop, refl, sym, ap, subst, ◌∙◌, arith, inl, inr, length-take, length-drop}
use Rattle.std.proofs.lemmas.Bool.{cases_lt}
use Rattle.std.proofs.lemmas.List.{drop-take, drop-drop, take-take}
use Rattle.vx_base.proofs.ByteLists.{length-overwritten}
use Rattle.store_model.specs.Bytes.{bytes_at, written_over}
use Rattle.store_model.specs.File.{File, seen, with_op}
use Rattle.store_model.specs.Places.{IsWrittenAfter}
use Rattle.store_model.proofs.Images.{images-synced_after}
use Rattle.store_model.proofs.Parts.{length-part, part-overwritten_apart, part-torn}
use Rattle.vx_base.specs.declared.parts.Header.{Header}
use Rattle.vhdx_format.specs.Logs.{Entry, HoldsEntry, ring_bytes}
use Rattle.vhdx_format.specs.SettledFiles.{ring_of}
use Rattle.vhdx_format.specs.TornWrites.{InSpan, IsHead, head_at}
use Rattle.vhdx_format.proofs.CrashLemmas.{only_head}
use Rattle.vhdx_format.proofs.EntryLaws.{IsHead-held, head_of_held}
use Rattle.torn_match.specs.Laws.{EntriesAreWhole, GoesToLog, WrittenEntriesAreWhole, head_write, start_write, whole_write}
use Rattle.torn_match.specs.TornMatches.{IsEntryTouched, ring_in}
use Rattle.torn_match.proofs.Meant.{once_meant, twice_meant}

-- the header at a place of the ring, in the file
head_in_file : (log len q : ℕ) (bytes : List ℕ) → q + 64 ≤ len → head_at (ring_of log len bytes) q ≡ bytes_at bytes (log + q) 64
unfolding bytes_at
head_in_file log len q bytes h =
    let room : q + (len - q) ≡ len = omega (arith, h) in
    ap (λ n. take 64 (drop q (take n (drop log bytes)))) (sym room) ∙ ap (take 64) (drop-take q (len - q) (drop log bytes)) ∙ take-take 64 (len - q) (drop q (drop log bytes)) (omega (arith, h)) ∙ ap (take 64) (drop-drop q log bytes)

module _ (header : Header) (file : File) (e : Entry) (after : List ℕ) (goes : GoesToLog header file e after) where
  abbrev log : ℕ
  log = header.log_at

  abbrev len : ℕ
  len = header.log_len

  abbrev old : List ℕ
  old = seen file

  ring_len : (bytes : List ℕ) → length bytes ≡ length old → length (ring_in header bytes) ≡ len
  ring_len bytes long = length-part bytes log len (omega (arith, long, goes.within))

  ring_whole : (bytes : List ℕ) → length bytes ≡ length old → length (ring_in header bytes) % 4096 ≡ 0
  ring_whole bytes long = omega (arith, ring_len bytes long, goes.whole)

  at_len : e.at < len
  at_len = omega (arith, goes.writes.holds.within, ring_len after goes.as_long)

  aligned : e.at % 4096 ≡ 0
  aligned = goes.writes.holds.at_sector

  sectors : length e.bytes % 4096 ≡ 0
  sectors = goes.writes.holds.valid.sectors

  short : length e.bytes ≤ len
  short = omega (arith, goes.writes.holds.valid.fits, ring_len after goes.as_long)

  -- an entry of one ring stands in another, where its bytes do
  moved : (a b : List ℕ) → length a ≡ length old → length b ≡ length old → (x : Entry) → HoldsEntry log header.log (ring_in header a) x → ring_bytes (ring_in header b) x.at (length x.bytes) ≡ x.bytes → HoldsEntry log header.log (ring_in header b) x
  moved a b la lb x h held =
      let same : length (ring_in header a) ≡ length (ring_in header b) = ring_len a la ∙ sym (ring_len b lb) in
      record { at_sector = h.at_sector; within = omega (arith, h.within, same); valid = rw same at h.valid; held = held }

  head_of : (a : List ℕ) → length a ≡ length old → (x : Entry) → HoldsEntry log header.log (ring_in header a) x → take 64 x.bytes ≡ bytes_at a (log + x.at) 64
  head_of a la x h =
      let room : x.at + 64 ≤ len = omega (arith, h.within, h.at_sector, ring_len a la, goes.whole) in
      head_of_held log header.log (ring_in header a) (ring_whole a la) x h ∙ head_in_file log len x.at a room

  old_head : (x : Entry) → x.at + 64 ≤ len → head_at (ring_in header old) x.at ≡ bytes_at old (log + x.at) 64
  old_head x room = head_in_file log len x.at old room

  room_of : (a : List ℕ) → length a ≡ length old → (x : Entry) → HoldsEntry log header.log (ring_in header a) x → x.at + 64 ≤ len
  room_of a la x h = omega (arith, h.within, h.at_sector, ring_len a la, goes.whole)

  abbrev Answer : Entry → Type 0
  Answer x = (take 64 x.bytes ≡ head_at (ring_in header old) x.at) ⊎ (ring_bytes (ring_in header after) x.at (length x.bytes) ≡ x.bytes)

  -- its bytes stand in the ring before, or in one whose sector there is as before
  as_before : (a : List ℕ) → length a ≡ length old → (x : Entry) → HoldsEntry log header.log (ring_in header a) x → bytes_at a (log + x.at) 64 ≡ bytes_at old (log + x.at) 64 → Answer x
  as_before a la x h same = inl (head_of a la x h ∙ same ∙ sym (old_head x (room_of a la x h)))

  in_old : (a : List ℕ) → length a ≡ length old → (x : Entry) → HoldsEntry log header.log (ring_in header a) x → ring_bytes (ring_in header old) x.at (length x.bytes) ≡ x.bytes → Answer x
  in_old a la x h held = as_before old refl x (moved a old la refl x h held) refl

  -- the ring's span, without its length
  in_span : (image : List ℕ) → (x : Entry) → InSpan (length (ring_in header old)) e.at (length e.bytes) x.at → InSpan len e.at (length e.bytes) x.at
  in_span image x s = subst (λ (n : ℕ). InSpan n e.at (length e.bytes) x.at) (ring_len old refl) s

  touch : (now : File) (image : List ℕ) → length image ≡ length old → (x : Entry) → HoldsEntry log header.log (ring_in header image) x → IsWrittenAfter now.ops (log + x.at) → IsEntryTouched now log len x
  touch now image long x h written = (x.at, omega (arith, h.within, ring_len image long), inl (omega arith, omega (arith, h.valid.header)), written)

-- ---- in one part

module _ (header : Header) (file : File) (e : Entry) (fits : e.at + length e.bytes ≤ header.log_len) (goes : GoesToLog header file e (seen (with_op (whole_write header e) file))) where
  abbrev done : List ℕ
  done = seen (with_op (whole_write header e) file)

  pub one_part : EntriesAreWhole header file e (seen (with_op (whole_write header e) file)) (with_op (whole_write header e) file)
  one_part image here whole head x holds span =
      let same : here.0 ≡ seen file = images-synced_after file.attached file.ops here.0 goes.synced here.1 in
      let long : length image ≡ length (seen file) = here.2.as_long ∙ ap length same in
      let touched = touch header file e done goes (with_op (whole_write header e) file) image long x holds (inl (written x (in_span header file e done goes image x span))) in
      elim (once_meant (λ meant. ring_bytes (ring_in header meant) x.at (length x.bytes) ≡ x.bytes) file (header.log_at + e.at) e.bytes goes.synced (whole.entries header x head holds touched)) [
        | inl b ↦ in_old header file e done goes image long x holds b
        | inr b ↦ inr b
      ]
    where
      written : (x : Entry) → InSpan header.log_len e.at (length e.bytes) x.at → (header.log_at + e.at ≤ header.log_at + x.at) × (header.log_at + x.at < header.log_at + e.at + length e.bytes)
      written x (inl s) = (omega (arith, s), omega (arith, s))
      written x (inr s) = absurd (omega (arith, s, fits))

-- ---- in two parts

module _ (header : Header) (file : File) (e : Entry) (far : header.log_len < e.at + length e.bytes) (goes : GoesToLog header file e (seen (with_op (head_write header e) (with_op (start_write header e) file)))) where
  abbrev front : List ℕ
  front = take (header.log_len - e.at) e.bytes

  abbrev back : List ℕ
  back = drop (header.log_len - e.at) e.bytes

  abbrev mid : List ℕ
  mid = written_over (seen file) header.log_at back

  abbrev final : List ℕ
  final = seen (with_op (head_write header e) (with_op (start_write header e) file))

  at_below : e.at < header.log_len
  at_below = at_len header file e final goes

  front_len : length front ≡ header.log_len - e.at
  front_len = omega (arith, length-take (header.log_len - e.at) e.bytes, far)

  back_len : length back ≡ length e.bytes - (header.log_len - e.at)
  back_len = length-drop (header.log_len - e.at) e.bytes

  back_before : length back ≤ e.at
  back_before = omega (arith, back_len, short header file e final goes, at_below)

  back_sectors : length back % 4096 ≡ 0
  back_sectors = omega (arith, back_len, aligned header file e final goes, sectors header file e final goes, goes.whole, at_below, far)

  mid_long : length mid ≡ length (seen file)
  mid_long = length-overwritten (seen file) back header.log_at (omega (arith, back_before, at_below, goes.within))

  -- the ring with the part at its start alone: no entry begins in that part
  in_mid : (image : List ℕ) → length image ≡ length (seen file) → (x : Entry) → HoldsEntry header.log_at header.log (ring_in header image) x → InSpan header.log_len e.at (length e.bytes) x.at
      → ring_bytes (ring_in header mid) x.at (length x.bytes) ≡ x.bytes → Answer header file e final goes x
  in_mid image long x h span held = by_place (cases_lt x.at (length back))
    where
      there : HoldsEntry header.log_at header.log (ring_in header mid) x
      there = moved header file e final goes image mid long mid_long x h held

      room : x.at + 64 ≤ header.log_len
      room = room_of header file e final goes mid mid_long x there

      final_whole : length (ring_in header final) % 4096 ≡ 0
      final_whole = ring_whole header file e final goes final goes.as_long

      heads_same : x.at < length back → head_at (ring_in header mid) x.at ≡ head_at (ring_in header final) x.at
      heads_same l =
          head_in_file header.log_at header.log_len x.at mid room
          ∙ sym (part-overwritten_apart mid front (header.log_at + e.at) (header.log_at + x.at) 64 (omega (arith, goes.within, mid_long, at_below)) (inl (omega (arith, l, back_sectors, back_before, h.at_sector))))
          ∙ sym (head_in_file header.log_at header.log_len x.at final room)

      head_there : x.at < length back → IsHead header.log (ring_in header final) x.at
      head_there l =
          let k : IsHead header.log (ring_in header mid) x.at = IsHead-held header.log_at header.log (ring_in header mid) (ring_whole header file e final goes mid mid_long) x there in
          let same = heads_same l in
          record {
            at_sector = k.at_sector;
            within = omega (arith, k.within, ring_len header file e final goes mid mid_long, ring_len header file e final goes final goes.as_long);
            signature = rw same at k.signature;
            under_id = rw same at k.under_id;
          }

      by_place : (x.at < length back) ⊎ (length back ≤ x.at) → Answer header file e final goes x
      by_place (inl l) =
          let p : x.at ≡ e.at = only_head header.log_at header.log (ring_in header final) final_whole e goes.writes.holds goes.writes.one_head x.at (subst (λ (n : ℕ). InSpan n e.at (length e.bytes) x.at) (sym (ring_len header file e final goes final goes.as_long)) span) (head_there l) in
          absurd (omega (arith, p, l, back_before))
      by_place (inr o) =
          as_before header file e final goes mid mid_long x there
          (part-overwritten_apart (seen file) back header.log_at (header.log_at + x.at) 64 (omega (arith, goes.within)) (inr (omega (arith, o))))

  pub start_part : EntriesAreWhole header file e (seen (with_op (head_write header e) (with_op (start_write header e) file))) (with_op (start_write header e) file)
  start_part image here whole head x h s = by_place (cases_lt x.at (length back))
    where
      same : here.0 ≡ seen file
      same = images-synced_after file.attached file.ops here.0 goes.synced here.1

      long : length image ≡ length (seen file)
      long = here.2.as_long ∙ ap length same

      span : InSpan header.log_len e.at (length e.bytes) x.at
      span = in_span header file e final goes image x s

      by_meant : (x.at < length back) → (ring_bytes (ring_in header (seen file)) x.at (length x.bytes) ≡ x.bytes) ⊎ (ring_bytes (ring_in header mid) x.at (length x.bytes) ≡ x.bytes) → Answer header file e final goes x
      by_meant l (inl b) = in_old header file e final goes image long x h b
      by_meant l (inr b) = in_mid image long x h span b

      by_place : (x.at < length back) ⊎ (length back ≤ x.at) → Answer header file e final goes x
      by_place (inl l) =
          by_meant l (once_meant (λ meant. ring_bytes (ring_in header meant) x.at (length x.bytes) ≡ x.bytes) file header.log_at back goes.synced
          (whole.entries header x head h (touch header file e final goes (with_op (start_write header e) file) image long x h (inl (omega arith, omega (arith, l))))))
      by_place (inr o) =
          as_before header file e final goes image long x h
          (part-torn here.2 (header.log_at + x.at) 64 (inr (omega (arith, o))) ∙ ap (λ bytes. bytes_at bytes (header.log_at + x.at) 64) same)

  pub both_parts : EntriesAreWhole header file e (seen (with_op (head_write header e) (with_op (start_write header e) file))) (with_op (head_write header e) (with_op (start_write header e) file))
  both_parts image here whole head x h s = by_meant (twice_meant (λ meant. ring_bytes (ring_in header meant) x.at (length x.bytes) ≡ x.bytes) file header.log_at (header.log_at + e.at) back front goes.synced
      (whole.entries header x head h (touch header file e final goes (with_op (head_write header e) (with_op (start_write header e) file)) image long x h (written span))))
    where
      same : here.1.0 ≡ seen file
      same = images-synced_after file.attached file.ops here.1.0 goes.synced here.1.1

      long : length image ≡ length (seen file)
      long = here.2.as_long ∙ here.1.2.as_long ∙ ap length same

      span : InSpan header.log_len e.at (length e.bytes) x.at
      span = in_span header file e final goes image x s

      within : x.at < header.log_len
      within = omega (arith, h.within, ring_len header file e final goes image long)

      written : InSpan header.log_len e.at (length e.bytes) x.at → IsWrittenAfter (head_write header e ∷ start_write header e ∷ file.ops) (header.log_at + x.at)
      written (inl b) = inl (omega (arith, b), omega (arith, b, within, front_len, at_below))
      written (inr b) = inr (inl (omega arith, omega (arith, b, back_len, far, at_below)))

      by_meant : (ring_bytes (ring_in header (seen file)) x.at (length x.bytes) ≡ x.bytes) ⊎ ((ring_bytes (ring_in header mid) x.at (length x.bytes) ≡ x.bytes) ⊎ (ring_bytes (ring_in header final) x.at (length x.bytes) ≡ x.bytes))
          → Answer header file e final goes x
      by_meant (inl b) = in_old header file e final goes image long x h b
      by_meant (inr (inl b)) = in_mid image long x h span b
      by_meant (inr (inr b)) = inr b

pub written_entries_are_whole : WrittenEntriesAreWhole
written_entries_are_whole = record {
  one = λ header file e fits goes. one_part header file e fits goes;
  start = λ header file e far goes. start_part header file e far goes;
  both = λ header file e far goes. both_parts header file e far goes;
}
