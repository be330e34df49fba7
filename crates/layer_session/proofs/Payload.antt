-- Sectors are written to their places.
use Rattle.std.proofs.Common.{◌≡◌, ℕ, suc, ◌+◌, ◌-◌, ◌*◌, ◌<◌, ◌≤◌, ◌⊎◌, ◌||◌, Bool, true, false, List, length, get_or, refl, sym, ap, subst, ◌∙◌, arith, inl, inr}
use Rattle.std.specs.Prelude.{nat_le, nat_lt}
use Rattle.std.proofs.lemmas.Bool.{cases_lt, cases_Bool, leb-true, or_from, and_parts}
use Rattle.std.proofs.Math.Nat.{add-mul}
use Rattle.vx_base.proofs.ByteLists.{length-overwritten}
use Rattle.vx_base.specs.Fields.{written_over}
use Rattle.vx_base.specs.declared.parts.Header.{Header}
use Rattle.vhdx_format.specs.Fields.{overlaps}
use Rattle.vhdx_format.specs.FileParts.{shape_of}
use Rattle.vhdx_format.specs.Layers.{Shape, entry_of, place_at}
use Rattle.store_model.specs.File.{File, IsFileImage, Write, seen, with_op}
use Rattle.store_model.specs.Trace.{Trace, file_of, with_change}
use Rattle.store_model.proofs.Spans.{file_of-with_change}
use Rattle.table_pages.specs.Held.{held}
use Rattle.table_pages.specs.Held as tables
use Rattle.table_pages.proofs.Laying.{min_len, over_out}
use Rattle.table_pages.proofs.Words.{held_long}
use Rattle.log_write.specs.Laws.{MayWrite}
use Rattle.log_write.specs.Sessions.{IsKept, IsRunning, SettlesNear}
use Rattle.log_write.proofs.Commits.{running_stands}
use Rattle.log_write.proofs.Running.{payload_written}
use Rattle.chain_model.specs.Images.{Placed, Shows}
use Rattle.chain_model.specs.Members.{Ties}
use Rattle.chain_model.specs.PhaseLaws.{loosened}
use Rattle.chain_model.specs.Sessions.{ShowsFile}
use Rattle.layer_session.specs.declared.file.Layer.{Layer}
use Rattle.layer_session.specs.Calls.{is_among, loose_or_named}
use Rattle.layer_session.specs.Keeping.{IsRunAt, Serves}
use Rattle.layer_session.specs.Steps.{StandFrom}
use Rattle.vhdx_format.proofs.SizeLemmas.{sector_least}
use Rattle.layer_session.proofs.Alike.{IsInFile, not_true, off_range}
use Rattle.layer_session.proofs.Beside.{among, in_file, named_only, off_tables}
use Rattle.layer_session.proofs.Crashes.{IsSafe, safe_of, shown}

-- a part of a range that doesn't overlap another lies on one side of it
off_part : (a m b k x n : ℕ) → overlaps a m b k ≡ false → 0 < k → 0 < n → a ≤ x → x + n ≤ a + m → (x + n ≤ b) ⊎ (b + k ≤ x)
off_part a m b k x n o some more from to = by_place (cases_lt b (x + n)) (cases_lt x (b + k)) (cases_lt x b)
  where
    no_range : (i : ℕ) → a ≤ i → i < a + m → b ≤ i → i < b + k → ⊥
    no_range i f t l h = by_side (off_range a m b k i o f t)
      where
        by_side : (i < b) ⊎ (b + k ≤ i) → ⊥
        by_side (inl y) = omega arith
        by_side (inr y) = omega arith

    by_place : (b < x + n) ⊎ (x + n ≤ b) → (x < b + k) ⊎ (b + k ≤ x) → (x < b) ⊎ (b ≤ x) → (x + n ≤ b) ⊎ (b + k ≤ x)
    by_place (inr y) any other = inl y
    by_place (inl y) (inr z) other = inr z
    by_place (inl y) (inl z) (inl w) = absurd (no_range b (omega arith) (omega arith) (omega arith) (omega arith))
    by_place (inl y) (inl z) (inr w) = absurd (no_range x (omega arith) (omega arith) (omega arith) (omega arith))

mul-positive : (a b : ℕ) → 0 < a → 0 < b → 0 < a * b
mul-positive a b h k =
    let one : a ≡ 1 + (a - 1) = omega arith in
    let e : a * b ≡ 1 * b + (a - 1) * b = ap (λ n. n * b) one ∙ add-mul 1 (a - 1) b in
    omega (arith, e)

-- what a test of a range says
pub within : (first count i : ℕ) → is_among first count i ≡ true → (first ≤ i) × (i < first + count)
within first count i h = let t = and_parts (nat_le first i) (nat_lt i (first + count)) h in (leb-true first i t.0, leb-true (suc i) (first + count) t.1)

module _ (l : Layer) (trace : Trace) (file : Placed) (serves : Serves l trace file) (first count place : ℕ) (from : StandFrom l first count place trace) (on_disk : first + count ≤ l.tables.parts.sectors) where
  abbrev F : File
  F = file_of trace file.number

  abbrev H : List ℕ
  H = held l.tables.pending (seen F)

  abbrev p : Shape
  p = shape_of serves.parts

  pub run_at : IsRunAt p H first count place
  run_at =
      subst (λ (s : Shape). IsRunAt s H first count place) serves.as_held.shape
      (subst (λ n. IsRunAt (tables.shape_of l.tables.parts) (held l.tables.pending (seen (file_of trace n))) first count place) (sym serves.number) from)

  pub on_disk_too : first + count ≤ p.sectors
  on_disk_too = subst (λ (s : Shape). first + count ≤ s.sectors) serves.as_held.shape on_disk

  pub safe : IsSafe serves.parts serves.tables serves.written file.is_loose file.member.layer serves.bytes (seen F)
  safe = safe_of l trace file serves

  long_held : length H ≡ length (seen F)
  long_held = held_long l.tables.parts (seen F) l.tables.pending l.tables.cache serves.as_held.pages

  module _ (bytes : List ℕ) (whole : length bytes ≡ count * p.sector) where
    -- the places that were written, with those of the run
    pub more : ℕ → Bool
    more i = serves.written i || is_among place (length bytes) i

    more_before : (i : ℕ) → serves.written i ≡ true → more i ≡ true
    unfolding more
    more_before i h = rw h refl

    more_here : (i : ℕ) → is_among place (length bytes) i ≡ true → more i ≡ true
    unfolding more
    more_here i h = by_test (serves.written i)
      where
        by_test : (b : Bool) → (b || is_among place (length bytes) i) ≡ true
        by_test true = refl
        by_test false = h

    more_cases : (i : ℕ) → more i ≡ true → (serves.written i ≡ true) ⊎ (is_among place (length bytes) i ≡ true)
    unfolding more
    more_cases i h = by_test (serves.written i) refl h
      where
        by_test : (b : Bool) → serves.written i ≡ b → (b || is_among place (length bytes) i) ≡ true → (serves.written i ≡ true) ⊎ (is_among place (length bytes) i ≡ true)
        by_test true e k = inl e
        by_test false e k = inr k

    in_run : (i : ℕ) → is_among place (length bytes) i ≡ true → (place ≤ i) × (i < place + count * p.sector)
    in_run i h = let w = within place (length bytes) i h in (w.0, omega (arith, w, whole))

    pub may : MayWrite l.log serves.tables serves.written more place (length bytes)
    may = record {
      above = above;
      beside = subst (λ (h : Header). (place + length bytes ≤ h.log_at) ⊎ (h.log_at + h.log_len ≤ place)) serves.header
          (off_part (place_at p H (entry_of p first)) p.block serves.parts.header.log_at serves.parts.header.log_len place (length bytes) off ring some start end);
      within = inside_log;
      grows = more_before;
      covers = λ i a b. more_here i (among place (length bytes) i a b);
      apart = λ i h. by_case i (more_cases i h);
    }
      where
        block : IsInFile serves.parts H H (omega arith) safe.sizes serves.as_held.numbers serves.as_held.sound (record { at = place_at p H (entry_of p first); len = p.block })
        block = in_file serves.parts safe.sizes serves.bytes H serves.as_held.numbers serves.as_held.sound serves.beside first count place run_at on_disk_too

        off : overlaps (place_at p H (entry_of p first)) p.block serves.parts.header.log_at serves.parts.header.log_len ≡ false
        off = block.off_log

        start : place_at p H (entry_of p first) ≤ place
        start = let e = run_at.place_is in omega (arith, e)

        end : place + length bytes ≤ place_at p H (entry_of p first) + p.block
        end = let e = run_at.place_is in let r = run_at.run in omega (arith, e, r, whole)

        above : 196608 ≤ place
        above = let b = block.low in omega (arith, b, start)

        inside_log : place + length bytes ≤ l.log.len
        inside_log = let w = block.within in let a = serves.running.state.long in omega (arith, w, a, long_held, end)

        ring : 0 < serves.parts.header.log_len
        ring = subst (λ (h : Header). 0 < h.log_len) (sym serves.header) (let room = serves.running.holds.room in let most = min_len (seen F) l.log.header.log_at l.log.header.log_len in omega (arith, room, most))

        some : 0 < length bytes
        some = let c = run_at.some in let z = sector_least p.sector safe.sizes.sector in let m = mul-positive count p.sector c (omega (arith, z)) in omega (arith, m, whole)

        by_case : (i : ℕ) → (serves.written i ≡ true) ⊎ (is_among place (length bytes) i ≡ true) → serves.tables i ≡ false
        by_case i (inl w) = serves.running.apart i w
        by_case i (inr t) =
            let w = in_run i t in
            not_true _ (λ h. off_tables serves.parts safe.sizes serves.bytes H serves.as_held.numbers serves.as_held.sound serves.beside first count place run_at on_disk_too i w.0 w.1 (serves.only i h))

    pub some_bytes : 0 < length bytes
    some_bytes = let c = run_at.some in let z = sector_least p.sector safe.sizes.sector in let m = mul-positive count p.sector c (omega (arith, z)) in omega (arith, m, whole)

    pub running : IsRunning l.log serves.tables (length serves.bytes) more (with_op (Write place bytes) F)
    running = payload_written l.log serves.tables (length serves.bytes) serves.written more F place bytes serves.running may

    pub inside : place + length bytes ≤ length (seen F)
    inside = let a = may.within in let b = serves.running.state.long in omega (arith, a, b)

    pub wide : ℕ → Bool
    wide s = loose_or_named first count file s

    pub not_wide : (s : ℕ) → wide s ≡ false → (file.is_loose s ≡ false) × (is_among first count s ≡ false)
    unfolding wide
    not_wide s h = by_test (file.is_loose s) refl h
      where
        by_test : (b : Bool) → file.is_loose s ≡ b → (b || is_among first count s) ≡ false → (file.is_loose s ≡ false) × (is_among first count s ≡ false)
        by_test true e k = cc
        by_test false e k = (e, k)

    pub safe_then : IsSafe serves.parts serves.tables more (λ s. loose_or_named first count file s) file.member.layer serves.bytes (written_over (seen F) place bytes)
    unfolding more wide
    safe_then = record {
      sizes = safe.sizes;
      long = safe.long;
      committed = record {
        long = let a = serves.committed.long in omega (arith, a, length-overwritten (seen F) bytes place inside);
        numbers = serves.committed.numbers;
        sound = serves.committed.sound;
        same = same;
      };
      covered = serves.covered;
      apart = may.apart;
      clean = λ s below h.
          let n = not_wide s h in
          let c = serves.clean s below n.0 in
          record {
            same = c.same;
            unwritten = λ i st. or_from (serves.written i) (is_among place (length bytes) i) (c.unwritten i st) (not_true _ (λ t.
                let w = in_run i t in
                let e : is_among first count s ≡ true = named_only serves.parts safe.sizes serves.bytes H serves.as_held.numbers serves.as_held.sound serves.beside first count place run_at on_disk_too s i below st w.0 w.1 in
                let f : false ≡ true = sym n.1 ∙ e in
                cc));
          };
      off_disk = safe.off_disk;
    }
      where
        same : (i : ℕ) → i < length serves.bytes → IsKept serves.parts.header i → (more i ≡ true) ⊎ (get_or (written_over (seen F) place bytes) i 0 ≡ get_or serves.bytes i 0)
        same i below kept = by_place (cases_Bool (is_among place (length bytes) i)) (serves.committed.same i below kept)
          where
            out : is_among place (length bytes) i ≡ false → (i < place) ⊎ (place + length bytes ≤ i)
            out h = by_side (cases_lt i place) (cases_lt i (place + length bytes))
              where
                by_side : (i < place) ⊎ (place ≤ i) → (i < place + length bytes) ⊎ (place + length bytes ≤ i) → (i < place) ⊎ (place + length bytes ≤ i)
                by_side (inl l) any = inl l
                by_side (inr l) (inr k) = inr k
                by_side (inr l) (inl k) =
                    let e : is_among place (length bytes) i ≡ true = among place (length bytes) i l k in
                    let f : false ≡ true = sym h ∙ e in
                    cc

            by_place : (is_among place (length bytes) i ≡ true) ⊎ (is_among place (length bytes) i ≡ false) → (serves.written i ≡ true) ⊎ (get_or (seen F) i 0 ≡ get_or serves.bytes i 0)
                → (more i ≡ true) ⊎ (get_or (written_over (seen F) place bytes) i 0 ≡ get_or serves.bytes i 0)
            by_place (inl t) any = inl (more_here i t)
            by_place (inr f) (inl w) = inl (more_before i w)
            by_place (inr f) (inr e) = inr (over_out (seen F) bytes place i inside (out f) ∙ e)

    pub images_then : (image : List ℕ) → IsFileImage (file_of (with_change file.number (Write place bytes) trace) file.number) image → ShowsFile (loosened (loose_or_named first count file) file) image
    unfolding wide
    images_then image here =
        let there : IsFileImage (with_op (Write place bytes) F) image = subst (λ (f : File). IsFileImage f image) (file_of-with_change file.number (Write place bytes) trace) here in
        let stands : SettlesNear serves.parts.header (written_over (seen F) place bytes) (length serves.bytes) more image =
        subst (λ (h : Header). SettlesNear h (written_over (seen F) place bytes) (length serves.bytes) more image) (sym serves.header)
        (running_stands l.log serves.tables (length serves.bytes) more (with_op (Write place bytes) F) running image there) in
        subst (λ (t : Ties). Shows t file.member.layer wide image) (sym serves.ties)
        (shown serves.parts serves.tables more wide file.member.layer serves.bytes (written_over (seen F) place bytes) image safe_then stands)
