-- The data of a file that a layer serves get another identifier.
use Rattle.std.proofs.Common.{◌≡◌, ℕ, ◌+◌, ◌%◌, ◌<◌, ◌≤◌, ◌⊎◌, true, All, List, length, map, get_or, Option, Some, None, refl, sym, ap, subst, ◌∙◌, arith, inl, inr}
use Rattle.std.specs.Prelude.{Err, IfErr, Ok, OnErr, OnOk, Result}
use Rattle.vx_base.specs.Fields.{bytes_at}
use Rattle.vx_base.specs.declared.parts.Header.{Header}
use Rattle.vx_base.specs.declared.parts.Parts.{Parts}
use Rattle.vhdx_format.specs.FileParts.{read_parts, shape_of, taken_areas}
use Rattle.vhdx_format.specs.HeldBlocks.{Area, HoldsBlock, IsSoundTable}
use Rattle.vhdx_format.specs.Layers.{Shape}
use Rattle.vhdx_format.specs.WrittenEntries.{page_update}
use Rattle.vhdx_format.proofs.SettledBytes.{updated_same}
use Rattle.store_model.specs.Disk.{Disk, WhereBothTold, WhereTold}
use Rattle.store_model.specs.File.{seen}
use Rattle.store_model.specs.Plans.{FailsToChange, OnlyChanges}
use Rattle.store_model.specs.Trace.{Trace, file_of}
use Rattle.store_model.specs.declared.fault.StoreFault.{StoreFault}
use Rattle.table_pages.specs.Held.{IsPageIn, held}
use Rattle.table_pages.specs.Pages.{is_kept}
use Rattle.table_pages.proofs.Changing.{stand_beside_writes}
use Rattle.table_pages.proofs.Laying.{held_len, held_unchanged_any, part_same}
use Rattle.torn_match.specs.TornMatches.{ChangesUntorn}
use Rattle.log_write.specs.Running.{OfReads, RunsBehindIdentifier}
use Rattle.log_write.specs.Sessions.{IsKept as IsPlaceKept}
use Rattle.log_write.specs.Sessions.{IsRunning, LogState, SettlesNear}
use Rattle.log_write.specs.Writing.{HasNextNumber, IdentifiesAlike, IdentifiesAtEachMoment, KeepsRest, identified_header}
use Rattle.log_write.specs.Writing.{identified as identified_log}
use Rattle.log_write.proofs.Committing.{stands_less}
use Rattle.chain_model.specs.Images.{Placed, Shows, metadata_of, name_of}
use Rattle.chain_model.specs.Layers as chain
use Rattle.chain_model.specs.Members.{Ties, ties_of}
use Rattle.chain_model.specs.Sessions.{GoesOver, ShowsFile}
use Rattle.layer_session.specs.declared.file.Layer.{Layer}
use Rattle.layer_session.specs.Calls.{HoldsRest}
use Rattle.layer_session.specs.Identifying.{HasIdentified, IdentifiesOver, identified}
use Rattle.layer_session.specs.Keeping.{HasSpace, IsHeld, IsPlaced, IsReadable, IsReady, IsTablePlace, Serves, area_of}
use Rattle.layer_session.proofs.Alike.{holds_alike, layer_alike, metadata_alike, numbers_alike, places_alike, places_stay, sector_kept, sound_alike}
use Rattle.layer_session.proofs.Committed.{IsWhole, whole_of}
use Rattle.layer_session.proofs.Committing.{attached_same, ready_from}
use Rattle.layer_session.proofs.Crashes.{IsSafe, safe_of, shown}
use Rattle.layer_session.proofs.Ending.{back_place, safe_under, same_kept, same_place, same_taken}
use Rattle.layer_session.proofs.Equal.{none_some, some_same}
use Rattle.layer_session.proofs.Failing.{with_log}
use Rattle.layer_session.proofs.Under.{numbers_under, under}

-- ---- nothing but headers and log has changed, though pages may wait for a commit

module _ (l : Layer) (t : Trace) (file : Placed) (serves : Serves l t file) (X : List ℕ) (content : KeepsRest l.log.header (seen (file_of t file.number)) X) where
  abbrev F : List ℕ
  F = seen (file_of t file.number)

  abbrev pub was : List ℕ
  was = held l.tables.pending F

  abbrev pub now : List ℕ
  now = held l.tables.pending X

  abbrev parts : Parts
  parts = serves.parts

  abbrev q : Shape
  q = shape_of parts

  whole : IsWhole l t file serves.parts serves.tables
  whole = whole_of l t file serves

  pub kept_by_log : (i : ℕ) → IsPlaceKept parts.header i → get_or X i 0 ≡ get_or F i 0
  kept_by_log i k = content.same i (subst (λ (h : Header). IsPlaceKept h i) serves.header k)

  pages_in : All (IsPageIn (length X)) l.tables.pending
  pages_in k d b = let p = serves.as_held.pages.changed k d b in record { aligned = p.aligned; whole = p.whole; within = omega (arith, p.within, content.long); bytes = p.bytes }

  byte_same : (i : ℕ) → IsPlaceKept parts.header i → get_or now i 0 ≡ get_or was i 0
  unfolding held
  byte_same i k = updated_same (map page_update l.tables.pending) F X i (inr (kept_by_log i k))

  same_long : length now ≡ length was
  same_long =
      let one : length now ≡ length X = held_len (length X) l.tables.pending X pages_in refl in
      let two : length was ≡ length F = held_len (length F) l.tables.pending F serves.as_held.pages.changed refl in
      let three = content.long in
      omega (arith, one, two, three)

  longer : length was ≤ length now
  longer = let e = same_long in omega (arith, e)

  kept_same : (at : ℕ) → at % 4096 ≡ 0 → is_kept at l.tables.cache ≡ true → bytes_at X at 4096 ≡ bytes_at F at 4096
  kept_same at aligned k =
      let out = (serves.as_held.pages.unchanged at aligned k).1 in
      sym (held_unchanged_any l.tables.pending X at pages_in out aligned)
      ∙ part_same now was at 4096 same_long (λ i b. byte_same (at + i) (serves.covered_held.beside (at + i) (serves.only (at + i) (serves.kept at (at + i) aligned k (omega arith) (omega (arith, b))))))
      ∙ held_unchanged_any l.tables.pending F at serves.as_held.pages.changed out aligned

  table_same : (i : ℕ) → IsTablePlace parts was i → i < length was → get_or now i 0 ≡ get_or was i 0
  table_same i p below = byte_same i (serves.covered_held.beside i p)

  pub numbers_rest : read_parts parts.header now ≡ Ok parts
  numbers_rest = numbers_alike parts was now longer whole.sizes serves.as_held.numbers serves.as_held.sound table_same whole.long

  pub sound_rest : IsSoundTable q (taken_areas parts) now
  sound_rest = sound_alike parts was now longer whole.sizes serves.as_held.numbers serves.as_held.sound table_same whole.long

  pub metadata_rest : metadata_of parts now ≡ metadata_of parts was
  metadata_rest = metadata_alike parts was now longer whole.sizes serves.as_held.numbers serves.as_held.sound table_same whole.long

  pub place_was : (i : ℕ) → IsTablePlace parts now i → IsTablePlace parts was i
  place_was i p = places_alike parts was now longer whole.sizes serves.as_held.numbers serves.as_held.sound table_same whole.long i p

  pub place_now : (i : ℕ) → IsTablePlace parts was i → IsTablePlace parts now i
  place_now i p = places_stay parts was now longer whole.sizes serves.as_held.numbers serves.as_held.sound table_same whole.long i p

  pub block_was : (index : ℕ) (a : Area) → HoldsBlock q now index a → HoldsBlock q was index a
  block_was index a = holds_alike parts was now longer whole.sizes serves.as_held.numbers serves.as_held.sound table_same whole.long index a

  -- it holds what it held
  pub rest_held : IsHeld l parts file.member.layer X
  rest_held = record {
    sizes = serves.as_held.sizes;
    shape = serves.as_held.shape;
    region = serves.as_held.region;
    most = let m = serves.as_held.most in let e = content.long in omega (arith, e, m);
    pages = stand_beside_writes l.tables.parts F X l.tables.pending l.tables.cache serves.as_held.pages (let e = content.long in omega (arith, e)) kept_same;
    numbers = numbers_rest;
    sound = sound_rest;
    of_tables = λ k d b i a c. place_now i (serves.as_held.of_tables k d b i a c);
    has = record {
      on_disk = λ s below. serves.as_held.has.on_disk s below
          ∙ sym (layer_alike parts was now longer whole.sizes serves.as_held.numbers serves.as_held.sound table_same whole.long s below
          (λ i st. byte_same i (sector_kept parts was now longer whole.sizes serves.as_held.numbers serves.as_held.sound s below i st).0));
      off_disk = serves.as_held.has.off_disk;
    };
  }

-- ---- the file by another identifier

module _ (l : Layer) (id : List ℕ) (t : Trace) (file : Placed) (serves : Serves l t file) where
  abbrev next : Header
  next = identified_header l.log.header id

  abbrev old_bytes : List ℕ
  old_bytes = seen (file_of t file.number)

  at : next.log_at ≡ serves.parts.header.log_at
  at = ap (λ (h : Header). h.log_at) (sym serves.header)

  len : next.log_len ≡ serves.parts.header.log_len
  len = ap (λ (h : Header). h.log_len) (sym serves.header)

  abbrev parts_now : Parts
  parts_now = under next serves.parts

  ties_now : (identified id file).member.ties ≡ ties_of parts_now
  ties_now = ap (λ (x : Ties). (let y : Ties = record x { id = id } in y)) serves.ties

  safe : IsSafe serves.parts serves.tables serves.written file.is_loose file.member.layer serves.bytes old_bytes
  safe = safe_of l t file serves

  safe_now : IsSafe parts_now serves.tables serves.written file.is_loose file.member.layer serves.bytes old_bytes
  safe_now = safe_under next serves.parts at len serves.tables serves.written file.is_loose file.member.layer serves.bytes old_bytes safe

  -- an image shows it by the one or the other
  identifies_show : (image : List ℕ) → IdentifiesAlike l.log.header id (length serves.bytes) serves.written old_bytes image → ShowsFile file image ⊎ ShowsFile (identified id file) image
  identifies_show image (inl old) =
      let stands : SettlesNear serves.parts.header old_bytes (length serves.bytes) serves.written image = subst (λ (h : Header). SettlesNear h old_bytes (length serves.bytes) serves.written image) (sym serves.header) old in
      inl (subst (λ (x : Ties). Shows x file.member.layer file.is_loose image) (sym serves.ties)
      (shown serves.parts serves.tables serves.written file.is_loose file.member.layer serves.bytes old_bytes image safe stands))
  identifies_show image (inr new) =
      let stands : SettlesNear next old_bytes (length serves.bytes) serves.written image = stands_less next old_bytes (length old_bytes) (length serves.bytes) serves.written image (let e = serves.committed.long in omega (arith, e)) new in
      inr (subst (λ (x : Ties). Shows x file.member.layer file.is_loose image) (sym ties_now)
      (shown parts_now serves.tables serves.written file.is_loose file.member.layer serves.bytes old_bytes image safe_now stands))

  pub identifies_over : (u : Trace) → ChangesUntorn file.number (IdentifiesAlike l.log.header id (length serves.bytes) serves.written old_bytes) t u → GoesOver file (identified id file) t u
  identifies_over u changes = record {
    one_file = refl;
    one_name = refl;
    phase = record {
      later = changes.later;
      since = changes.since;
      each = λ k a b. record { images = λ image here clean. identifies_show image ((changes.each k a b).has image here clean); others = (changes.each k a b).others };
    };
  }

  -- and then it is served so
  module _ (u : Trace) (attached : u.attached ≡ t.attached) (content : KeepsRest l.log.header (seen (file_of t file.number)) (seen (file_of u file.number)))
      (running : IsRunning (identified_log l.log id) serves.tables (length serves.bytes) serves.written (file_of u file.number)) where
    abbrev then : Layer
    then = with_log l (identified_log l.log id)

    abbrev new_bytes : List ℕ
    new_bytes = seen (file_of u file.number)

    abbrev held_now : List ℕ
    held_now = held l.tables.pending new_bytes

    back_kept : (i : ℕ) → IsPlaceKept next i → IsPlaceKept serves.parts.header i
    back_kept i k = subst (λ (h : Header). IsPlaceKept h i) (sym serves.header) (record { first = k.first; second = k.second; log = k.log })

    old_place : (i : ℕ) → IsTablePlace parts_now held_now i → IsTablePlace serves.parts (was l t file serves new_bytes content) i
    old_place i p = place_was l t file serves new_bytes content i (same_place next serves.parts at len held_now i p)

    placed_now : (range : Area) → IsPlaced serves.parts (length old_bytes) range → IsPlaced parts_now (length new_bytes) range
    placed_now range p = record {
      low = p.low;
      within = let w = p.within in let e = content.long in omega (arith, w, e);
      off_log = subst (λ (h : Header). (range.at + range.len ≤ h.log_at) ⊎ (h.log_at + h.log_len ≤ range.at)) serves.header p.off_log;
      off_table = p.off_table;
      off_metadata = p.off_metadata;
    }

    space_now : HasSpace then parts_now serves.bytes new_bytes
    space_now = record {
      next = let n = serves.space.next in let e = content.long in omega (arith, n, e);
      tight = let n = serves.space.tight in let e = content.long in omega (arith, n, e);
      placed = λ k d b. placed_now (area_of (get_or l.space.freed k d)) (serves.space.placed k d b);
      freed = λ k d b. record { apart = λ index block h. (serves.space.freed k d b).apart index block (block_was l t file serves new_bytes content index block h) };
      committed = λ k d b e. record { apart = (serves.space.committed k d b e).apart };
    }

    pub identified_serves : Serves then u (identified id file)
    identified_serves = record {
      within = subst (λ z. file.number < length z) (sym attached) serves.within;
      number = serves.number;
      name = subst (λ z. name_of z file.number ≡ file.member.name) (sym attached) serves.name;
      parts = parts_now;
      header = refl;
      ties = ties_now;
      metadata = serves.metadata ∙ sym (metadata_rest l t file serves new_bytes content);
      as_held =
          let h = rest_held l t file serves new_bytes content in
          record {
            sizes = h.sizes;
            shape = h.shape;
            region = h.region;
            most = h.most;
            pages = h.pages;
            numbers = numbers_under serves.parts.header next held_now serves.parts at len h.numbers;
            sound = subst (λ a. IsSoundTable (shape_of serves.parts) a held_now) (sym (same_taken next serves.parts at len)) h.sound;
            of_tables = λ k d b i a c. back_place next serves.parts at len held_now i (h.of_tables k d b i a c);
            has = h.has;
          };
      bytes = serves.bytes;
      tables = serves.tables;
      written = serves.written;
      running = running;
      committed = record {
        long = let e = content.long in let b = serves.committed.long in omega (arith, e, b);
        numbers = safe_now.committed.numbers;
        sound = safe_now.committed.sound;
        same = λ i below k. elim (serves.committed.same i below (back_kept i k)) [ inl x ↦ inl x | inr e ↦ inr (kept_by_log l t file serves new_bytes content i (back_kept i k) ∙ e) ];
      };
      covered = safe_now.covered;
      clean = serves.clean;
      covered_held = record {
        covers = λ i p. serves.covered_held.covers i (old_place i p);
        beside = λ i p. same_kept next serves.parts at len i (serves.covered_held.beside i (old_place i p));
      };
      only = λ i e. back_place next serves.parts at len held_now i (place_now l t file serves new_bytes content i (serves.only i e));
      changed = serves.changed;
      kept = serves.kept;
      can = λ k d b. let x = serves.can k d b in record { may = x.may; within = x.within };
      beside = λ i j a b ha hb. serves.beside i j a b (block_was l t file serves new_bytes content i a ha) hb;
      space = space_now;
    }

-- ---- of stores

module _ (l : Layer) (id : List ℕ) (old new : Disk) (one_file : l.log.file ≡ l.tables.parts.file) (low : HasNextNumber l.log.header) (only : WhereBothTold (OnlyChanges l.log.file) old.told new.told) where
  pub identify_moments : IdentifiesAtEachMoment l.log id old.told new.told → WhereBothTold (IdentifiesOver l id) old.told new.told
  identify_moments moments = by_told old.told new.told moments only
    where
      by_told : (a b : Option Trace) → IdentifiesAtEachMoment l.log id a b → WhereBothTold (OnlyChanges l.log.file) a b → WhereBothTold (IdentifiesOver l id) a b
      by_told None None m o = tt
      by_told None (Some u) m o = absurd o
      by_told (Some t) None m o = absurd o
      by_told (Some t) (Some u) m o = record { over = over }
        where
          over : (file : Placed) → Serves l t file → GoesOver file (identified id file) t u
          over file serves =
              let n : l.log.file ≡ file.number = one_file ∙ sym serves.number in
              let run : IsRunning l.log serves.tables (length serves.bytes) serves.written (file_of t l.log.file) = subst (λ k. IsRunning l.log serves.tables (length serves.bytes) serves.written (file_of t k)) (sym n) serves.running in
              identifies_over l id t file serves u
              (subst (λ i. ChangesUntorn i (IdentifiesAlike l.log.header id (length serves.bytes) serves.written (seen (file_of t i))) t u) n (m serves.tables (length serves.bytes) serves.written low t refl run))

  abbrev behind : Layer
  behind = with_log l (identified_log l.log id)

  identify_served : RunsBehindIdentifier l.log (identified_log l.log id) old.told new.told → OfReads l.log.file (KeepsRest l.log.header) old.told new.told → WhereBothTold (HasIdentified l behind id) old.told new.told
  identify_served runs rest = by_told old.told new.told runs rest only
    where
      by_told : (a b : Option Trace) → RunsBehindIdentifier l.log (identified_log l.log id) a b → OfReads l.log.file (KeepsRest l.log.header) a b → WhereBothTold (OnlyChanges l.log.file) a b → WhereBothTold (HasIdentified l behind id) a b
      by_told None None r k o = tt
      by_told None (Some u) r k o = absurd o
      by_told (Some t) None r k o = absurd o
      by_told (Some t) (Some u) r k o = record { serves = serves_too }
        where
          serves_too : (file : Placed) → Serves l t file → Serves behind u (identified id file)
          serves_too file serves =
              let n : l.log.file ≡ file.number = one_file ∙ sym serves.number in
              let run : IsRunning l.log serves.tables (length serves.bytes) serves.written (file_of t l.log.file) = subst (λ k. IsRunning l.log serves.tables (length serves.bytes) serves.written (file_of t k)) (sym n) serves.running in
              identified_serves l id t file serves u (attached_same l.log.file t u o)
              (subst (λ k. KeepsRest l.log.header (seen (file_of t k)) (seen (file_of u k))) n k)
              (subst (λ k. IsRunning (identified_log l.log id) serves.tables (length serves.bytes) serves.written (file_of u k)) n (r serves.tables (length serves.bytes) serves.written low run))

  served_on : WhereTold old.told (λ trace. (file : Placed) × Serves l trace file) → WhereBothTold (HasIdentified l behind id) old.told new.told → WhereTold new.told (λ trace. (file : Placed) × Serves behind trace file)
  served_on before has u e = by_told old.told new.told before has e
    where
      by_told : (a b : Option Trace) → WhereTold a (λ trace. (file : Placed) × Serves l trace file) → WhereBothTold (HasIdentified l behind id) a b → b ≡ Some u → (file : Placed) × Serves behind u file
      by_told None None k h e = absurd (none_some e)
      by_told None (Some v) k h e = absurd h
      by_told (Some t) None k h e = absurd (none_some e)
      by_told (Some t) (Some v) k h e =
          let x = k t refl in
          let m : v ≡ u = some_same e in
          (identified id x.0, subst (λ (y : Trace). Serves behind y (identified id x.0)) m (h.serves x.0 x.1))

  identify_ready : IsReady l old → new ≡ record old { told = new.told } → WhereBothTold (HasIdentified l behind id) old.told new.told → IsReady behind new
  identify_ready ready counts has =
      ready_from behind new (subst (λ n. l.tables.parts.file < n) (sym (ap (λ (d : Disk). d.files) counts)) ready.readable.there) ready.readable.sizes ready.one_file ready.next ready.most ready.clear ready.plans
      (served_on ready.told has)

  -- by an answer
  module _ (log : LogState) (rest : OfReads l.log.file (KeepsRest l.log.header) old.told new.told) where
    pub served_by : (result : Result (Unit {0}) StoreFault) → OnOk result (log ≡ identified_log l.log id) → OnOk result (RunsBehindIdentifier l.log log old.told new.told) → OnOk result (WhereBothTold (HasIdentified l (with_log l log) id) old.told new.told)
    served_by (Ok x) is runs =
        subst (λ (s : LogState). WhereBothTold (HasIdentified l (with_log l s) id) old.told new.told) (sym is) (identify_served (subst (λ (s : LogState). RunsBehindIdentifier l.log s old.told new.told) is runs) rest)
    served_by (Err fault) is runs = tt

    pub ready_by : (result : Result (Unit {0}) StoreFault) → OnOk result (log ≡ identified_log l.log id) → OnOk result (RunsBehindIdentifier l.log log old.told new.told) → IsReady l old → OnOk result (new ≡ record old { told = new.told })
        → OnOk result (IsReady (with_log l log) new)
    ready_by (Ok x) is runs ready counts =
        subst (λ (s : LogState). IsReady (with_log l s) new) (sym is) (identify_ready ready counts (identify_served (subst (λ (s : LogState). RunsBehindIdentifier l.log s old.told new.told) is runs) rest))
    ready_by (Err fault) is runs ready counts = tt

-- ---- where it failed

module _ (l : Layer) (old new : Disk) (ready : IsReady l old) (rest : OfReads l.log.file (KeepsRest l.log.header) old.told new.told) where
  one_held : (t u : Trace) (file : Placed) → Serves l t file → KeepsRest l.log.header (seen (file_of t l.log.file)) (seen (file_of u l.log.file)) → (parts : Parts) × (IsHeld l parts file.member.layer (seen (file_of u l.tables.parts.file)))
  one_held t u file s k =
      let n : l.log.file ≡ file.number = ready.one_file ∙ sym s.number in
      (s.parts, subst (λ i. IsHeld l s.parts file.member.layer (seen (file_of u i))) s.number (rest_held l t file s (seen (file_of u file.number)) (subst (λ i. KeepsRest l.log.header (seen (file_of t i)) (seen (file_of u i))) n k)))

  holds_still : WhereBothTold (HoldsRest l l 0 0) old.told new.told
  holds_still = by_told old.told new.told rest
    where
      by_told : (a b : Option Trace) → OfReads l.log.file (KeepsRest l.log.header) a b → WhereBothTold (HoldsRest l l 0 0) a b
      by_told None None k = tt
      by_told None (Some u) k = absurd k
      by_told (Some t) None k = absurd k
      by_told (Some t) (Some u) k = record { holds = λ file s. let h = one_held t u file s k in (h.0, (file.member.layer, h.1, λ i e. refl)) }

  readable_still : (fault : StoreFault) → FailsToChange l.log.file old new fault → IsReadable l new
  readable_still fault fails = record {
    there = subst (λ n. l.tables.parts.file < n) (sym (ap (λ (d : Disk). d.files) fails.stays)) ready.readable.there;
    sizes = ready.readable.sizes;
    told = by_told old.told new.told ready.told rest;
  } where
    by_told : (a b : Option Trace) → WhereTold a (λ trace. (file : Placed) × Serves l trace file) → OfReads l.log.file (KeepsRest l.log.header) a b
        → WhereTold b (λ trace. (parts : Parts) × ((layer : chain.Layer) × IsHeld l parts layer (seen (file_of trace l.tables.parts.file))))
    by_told None None r k u e = absurd (none_some e)
    by_told None (Some v) r k u e = absurd k
    by_told (Some t) None r k u e = absurd (none_some e)
    by_told (Some t) (Some v) r k u e =
        let s = r t refl in
        let h = one_held t v s.0 s.1 k in
        subst (λ (x : Trace). (parts : Parts) × ((layer : chain.Layer) × IsHeld l parts layer (seen (file_of x l.tables.parts.file)))) (some_same e) (h.0, (s.0.member.layer, h.1))

  pub broken_by : (log : LogState) (result : Result (Unit {0}) StoreFault) → IfErr result (λ fault. log ≡ l.log) → IfErr result (FailsToChange l.log.file old new)
      → OnErr result (IsReadable (with_log l log) new × WhereBothTold (HoldsRest l (with_log l log) 0 0) old.told new.told)
  broken_by log (Ok x) same fails = tt
  broken_by log (Err fault) same fails =
      subst (λ (s : LogState). IsReadable (with_log l s) new × WhereBothTold (HoldsRest l (with_log l s) 0 0) old.told new.told) (sym same) (readable_still fault fails, holds_still)
