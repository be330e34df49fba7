-- A place that is taken for a block: the file grows, or a freed place is made zeros.
use Rattle.std.proofs.Common.{◌≡◌, ℕ, ◌+◌, ◌<◌, ◌≤◌, ◌⊎◌, ◌||◌, Bool, true, false, List, length, get_or, refl, sym, subst, ◌∙◌, arith, inl, inr}
use Rattle.std.proofs.lemmas.Bool.{cases_lt, cases_Bool, or_from}
use Rattle.vx_base.proofs.ByteLists.{length-overwritten, length-extended}
use Rattle.vx_base.specs.Fields.{extended, written_over}
use Rattle.vx_base.specs.declared.parts.Header.{Header}
use Rattle.vhdx_format.specs.Fields.{megabyte}
use Rattle.vhdx_format.specs.FileParts.{shape_of}
use Rattle.vhdx_format.specs.HeldBlocks.{IsPayloadEntry, payload, bitmap}
use Rattle.vhdx_format.specs.Layers.{Shape, entry_of, place_at}
use Rattle.vhdx_format.proofs.LayerLemmas.{sector_entries}
use Rattle.vhdx_format.proofs.SettledBytes.{get_or-extended}
use Rattle.store_model.specs.File.{File, Grow, IsFileImage, Write, seen, with_op}
use Rattle.store_model.specs.Trace.{Trace, file_of, with_change}
use Rattle.store_model.proofs.Spans.{file_of-with_change}
use Rattle.table_pages.specs.Held.{held}
use Rattle.table_pages.proofs.Laying.{over_out}
use Rattle.log_write.specs.Laws.{MayWrite}
use Rattle.log_write.specs.Sessions.{IsKept, SettlesNear}
use Rattle.log_write.proofs.Commits.{running_stands}
use Rattle.log_write.proofs.Running.{file_grown, payload_written}
use Rattle.chain_model.specs.Images.{Placed, Shows}
use Rattle.chain_model.specs.Members.{Ties}
use Rattle.chain_model.specs.Sessions.{ShowsFile}
use Rattle.layer_session.specs.declared.file.Layer.{Layer}
use Rattle.layer_session.specs.Calls.{is_among}
use Rattle.layer_session.specs.Keeping.{IsNobodys, IsPlaced, IsTablePlace, Serves, StandsAt, bitmap as bitmap_place, entries, metadata, regions}
use Rattle.layer_session.proofs.Alike.{not_true}
use Rattle.layer_session.proofs.Beside.{among}
use Rattle.layer_session.proofs.Crashes.{IsSafe, safe_of, shown}
use Rattle.layer_session.proofs.Payload.{within}
use Rattle.layer_session.proofs.Sectors.{in_block}

module _ (l : Layer) (trace : Trace) (file : Placed) (serves : Serves l trace file) where
  abbrev F : File
  F = file_of trace file.number

  abbrev H : List ℕ
  H = held l.tables.pending (seen F)

  abbrev p : Shape
  p = shape_of serves.parts

  safe : IsSafe serves.parts serves.tables serves.written file.is_loose file.member.layer serves.bytes (seen F)
  safe = safe_of l trace file serves

  -- ---- growth

  pub safe_grown : (len : ℕ) → IsSafe serves.parts serves.tables serves.written file.is_loose file.member.layer serves.bytes (extended (seen F) len)
  safe_grown len = record {
    sizes = safe.sizes;
    long = safe.long;
    committed = record {
      long = let a = serves.committed.long in omega (arith, a, length-extended (seen F) len);
      numbers = serves.committed.numbers;
      sound = serves.committed.sound;
      same = λ i below kept. by_side i (serves.committed.same i below kept);
    };
    covered = safe.covered;
    apart = safe.apart;
    clean = safe.clean;
    off_disk = safe.off_disk;
  }
    where
      by_side : (i : ℕ) → (serves.written i ≡ true) ⊎ (get_or (seen F) i 0 ≡ get_or serves.bytes i 0) → (serves.written i ≡ true) ⊎ (get_or (extended (seen F) len) i 0 ≡ get_or serves.bytes i 0)
      by_side i (inl w) = inl w
      by_side i (inr e) = inr (get_or-extended len (seen F) i ∙ e)

  -- while the file grows each image shows it as before
  pub grown_shows : (len : ℕ) → l.log.len ≤ len → (image : List ℕ) → IsFileImage (file_of (with_change file.number (Grow len) trace) file.number) image → ShowsFile file image
  grown_shows len longer image here =
      let there : IsFileImage (with_op (Grow len) F) image = subst (λ (f : File). IsFileImage f image) (file_of-with_change file.number (Grow len) trace) here in
      let running = file_grown l.log serves.tables (length serves.bytes) serves.written F len serves.running longer in
      let stands : SettlesNear serves.parts.header (extended (seen F) len) (length serves.bytes) serves.written image =
      subst (λ (h : Header). SettlesNear h (extended (seen F) len) (length serves.bytes) serves.written image) (sym serves.header)
      (running_stands (record (l.log) { len = len }) serves.tables (length serves.bytes) serves.written (with_op (Grow len) F) running image there) in
      subst (λ (t : Ties). Shows t file.member.layer file.is_loose image) (sym serves.ties)
      (shown serves.parts serves.tables serves.written file.is_loose file.member.layer serves.bytes (extended (seen F) len) image (safe_grown len) stands)

  -- ---- a write to a place that is nobody's

  module _ (place : ℕ) (bytes : List ℕ) (free : IsPlaced serves.parts (length (seen F)) (record { at = place; len = length bytes }))
      (committed : IsNobodys serves.parts serves.bytes (record { at = place; len = length bytes })) (now : IsNobodys serves.parts H (record { at = place; len = length bytes })) where
    pub more : ℕ → Bool
    more i = serves.written i || is_among place (length bytes) i

    more_before : (i : ℕ) → serves.written i ≡ true → more i ≡ true
    unfolding more
    more_before i h = rw h refl

    more_here : (i : ℕ) → is_among place (length bytes) i ≡ true → more i ≡ true
    unfolding more
    more_here i h = by_test (serves.written i)
      where
        by_test : (b : Bool) → (b || is_among place (length bytes) i) ≡ true
        by_test true = refl
        by_test false = h

    more_cases : (i : ℕ) → more i ≡ true → (serves.written i ≡ true) ⊎ (is_among place (length bytes) i ≡ true)
    unfolding more
    more_cases i h = by_test (serves.written i) refl h
      where
        by_test : (b : Bool) → serves.written i ≡ b → (b || is_among place (length bytes) i) ≡ true → (serves.written i ≡ true) ⊎ (is_among place (length bytes) i ≡ true)
        by_test true e k = inl e
        by_test false e k = inr k

    pub off_tables : (i : ℕ) → place ≤ i → i < place + length bytes → IsTablePlace serves.parts H i → ⊥
    off_tables i from to (regions l k) = let a = free.low in omega (arith, a, from, k)
    off_tables i from to (entries l k) = by_side free.off_table
      where
        by_side : (place + length bytes ≤ serves.parts.bat_at) ⊎ (serves.parts.bat_at + serves.parts.bat_len ≤ place) → ⊥
        by_side (inl a) = omega (arith, a, l, to)
        by_side (inr a) = omega (arith, a, k, from)
    off_tables i from to (metadata l k) = by_side free.off_metadata
      where
        by_side : (place + length bytes ≤ serves.parts.meta_at) ⊎ (serves.parts.meta_at + serves.parts.meta_len ≤ place) → ⊥
        by_side (inl a) = omega (arith, a, l, to)
        by_side (inr a) = omega (arith, a, k, from)
    off_tables i from to (bitmap_place index be six l k) = by_side (now.apart index (record { at = place_at p H index; len = megabyte }) (bitmap be six))
      where
        by_side : (place + length bytes ≤ place_at p H index) ⊎ (place_at p H index + megabyte ≤ place) → ⊥
        by_side (inl a) = omega (arith, a, l, to)
        by_side (inr a) = omega (arith, a, k, from)

    off_sector : (s i : ℕ) → s < p.sectors → StandsAt p serves.bytes s i → is_among place (length bytes) i ≡ true → ⊥
    off_sector s i below st h = by_side (committed.apart (entry_of p s) (record { at = place_at p serves.bytes (entry_of p s); len = p.block }) (payload e st.there))
      where
        e : IsPayloadEntry p (entry_of p s)
        e = (sector_entries p (record { sector = safe.sizes.sector; block = safe.sizes.block })).payload s below

        by_side : (place + length bytes ≤ place_at p serves.bytes (entry_of p s)) ⊎ (place_at p serves.bytes (entry_of p s) + p.block ≤ place) → ⊥
        by_side (inl a) = let w = within place (length bytes) i h in let f = st.from in omega (arith, a, w, f)
        by_side (inr a) =
            let w = within place (length bytes) i h in
            let t = st.to in
            let fits = in_block s p.sector p.block safe.sizes.sector safe.sizes.block in
            omega (arith, a, w, t, fits)

    pub may_take : MayWrite l.log serves.tables serves.written more place (length bytes)
    may_take = record {
      above = let a = free.low in omega (arith, a);
      beside = subst (λ (h : Header). (place + length bytes ≤ h.log_at) ⊎ (h.log_at + h.log_len ≤ place)) serves.header free.off_log;
      within = let a = free.within in let b = serves.running.state.long in omega (arith, a, b);
      grows = more_before;
      covers = λ i a b. more_here i (among place (length bytes) i a b);
      apart = λ i h. by_case i (more_cases i h);
    }
      where
        by_case : (i : ℕ) → (serves.written i ≡ true) ⊎ (is_among place (length bytes) i ≡ true) → serves.tables i ≡ false
        by_case i (inl w) = serves.running.apart i w
        by_case i (inr t) = let w = within place (length bytes) i t in not_true _ (λ h. off_tables i w.0 w.1 (serves.only i h))

    pub safe_taken : IsSafe serves.parts serves.tables more file.is_loose file.member.layer serves.bytes (written_over (seen F) place bytes)
    unfolding more
    safe_taken = record {
      sizes = safe.sizes;
      long = safe.long;
      committed = record {
        long = let a = serves.committed.long in omega (arith, a, length-overwritten (seen F) bytes place free.within);
        numbers = serves.committed.numbers;
        sound = serves.committed.sound;
        same = same;
      };
      covered = serves.covered;
      apart = may_take.apart;
      clean = λ s below h.
          let c = serves.clean s below h in
          record { same = c.same; unwritten = λ i st. or_from (serves.written i) (is_among place (length bytes) i) (c.unwritten i st) (not_true _ (off_sector s i below st)) };
      off_disk = safe.off_disk;
    }
      where
        same : (i : ℕ) → i < length serves.bytes → IsKept serves.parts.header i → (more i ≡ true) ⊎ (get_or (written_over (seen F) place bytes) i 0 ≡ get_or serves.bytes i 0)
        same i below kept = by_place (cases_Bool (is_among place (length bytes) i)) (serves.committed.same i below kept)
          where
            out : is_among place (length bytes) i ≡ false → (i < place) ⊎ (place + length bytes ≤ i)
            out h = by_side (cases_lt i place) (cases_lt i (place + length bytes))
              where
                by_side : (i < place) ⊎ (place ≤ i) → (i < place + length bytes) ⊎ (place + length bytes ≤ i) → (i < place) ⊎ (place + length bytes ≤ i)
                by_side (inl l) any = inl l
                by_side (inr l) (inr k) = inr k
                by_side (inr l) (inl k) =
                    let e : is_among place (length bytes) i ≡ true = among place (length bytes) i l k in
                    let f : false ≡ true = sym h ∙ e in
                    cc

            by_place : (is_among place (length bytes) i ≡ true) ⊎ (is_among place (length bytes) i ≡ false) → (serves.written i ≡ true) ⊎ (get_or (seen F) i 0 ≡ get_or serves.bytes i 0)
                → (more i ≡ true) ⊎ (get_or (written_over (seen F) place bytes) i 0 ≡ get_or serves.bytes i 0)
            by_place (inl t) any = inl (more_here i t)
            by_place (inr f) (inl w) = inl (more_before i w)
            by_place (inr f) (inr e) = inr (over_out (seen F) bytes place i free.within (out f) ∙ e)

    -- while it is written each image shows the file as before, and no more of it loose
    pub taken_shows : (image : List ℕ) → IsFileImage (file_of (with_change file.number (Write place bytes) trace) file.number) image → ShowsFile file image
    taken_shows image here =
        let there : IsFileImage (with_op (Write place bytes) F) image = subst (λ (f : File). IsFileImage f image) (file_of-with_change file.number (Write place bytes) trace) here in
        let running = payload_written l.log serves.tables (length serves.bytes) serves.written more F place bytes serves.running may_take in
        let stands : SettlesNear serves.parts.header (written_over (seen F) place bytes) (length serves.bytes) more image =
        subst (λ (h : Header). SettlesNear h (written_over (seen F) place bytes) (length serves.bytes) more image) (sym serves.header)
        (running_stands l.log serves.tables (length serves.bytes) more (with_op (Write place bytes) F) running image there) in
        subst (λ (t : Ties). Shows t file.member.layer file.is_loose image) (sym serves.ties)
        (shown serves.parts serves.tables more file.is_loose file.member.layer serves.bytes (written_over (seen F) place bytes) image safe_taken stands)
