-- What a crash leaves of a file that a layer serves.
use Rattle.std.proofs.Common.{◌≡◌, ℕ, ◌*◌, ◌<◌, ◌≤◌, ◌⊎◌, Bool, true, false, List, [], length, get_or, None, refl, sym, subst, ◌∙◌, arith, inl, inr}
use Rattle.vhdx_format.specs.SettledFiles.{with_updates}
use Rattle.table_pages.proofs.Laying.{min_len}
use Rattle.std.proofs.lemmas.Bool.{cases_lt}
use Rattle.std.proofs.lemmas.List.{get_or_past}
use Rattle.vx_base.specs.declared.parts.Parts.{Parts}
use Rattle.vhdx_format.specs.FileParts.{shape_of}
use Rattle.vhdx_format.specs.Layers.{Shape, layer_of, layer_sector}
use Rattle.vhdx_format.proofs.LayerLemmas.{layer_by_sector}
use Rattle.store_model.specs.File.{seen}
use Rattle.store_model.specs.Trace.{Trace, file_of}
use Rattle.chain_model.specs.Files.{layer_in, with_pages}
use Rattle.chain_model.specs.Images.{Placed, Shows}
use Rattle.chain_model.specs.Layers as chain
use Rattle.chain_model.specs.Members.{Ties, ties_of}
use Rattle.vx_base.specs.declared.parts.Header.{Header}
use Rattle.vhdx_format.specs.AllocationTables.{IsSectorSize, IsBlockSize, table_entries}
use Rattle.log_write.specs.Sessions.{IsKept, SettlesNear}
use Rattle.log_write.proofs.Commits.{running_stands}
use Rattle.layer_session.specs.declared.file.Layer.{Layer}
use Rattle.layer_session.specs.Keeping.{Covers, IsClean, IsCommitted, IsTablePlace, Serves}
use Rattle.layer_session.specs.Laws.{LayersAreKept}
use Rattle.layer_session.proofs.Alike.{AreSizes, layer_alike, numbers_alike, sector_kept, sound_alike}

-- What a file stands for between two changes, without its code: what was committed, what was written since, and its layer
-- outside the loose sectors.
pub record IsSafe (parts : Parts) (tables written is_loose : ℕ → Bool) (layer : chain.Layer) (bytes file : List ℕ) : Type 0 where
  pub sizes : AreSizes parts
  pub long : 327680 ≤ length bytes
  pub committed : IsCommitted parts written bytes file
  pub covered : Covers parts bytes tables
  pub apart : (i : ℕ) → written i ≡ true → tables i ≡ false
  pub clean : (s : ℕ) → s < parts.geometry.sectors → is_loose s ≡ false → IsClean (shape_of parts) written layer bytes s
  pub off_disk : (s : ℕ) → parts.geometry.sectors ≤ s → layer s ≡ None

none_over : (bytes : List ℕ) → bytes ≡ with_pages [] bytes
unfolding with_pages with_updates
none_over bytes = refl

-- the layer of a file by sectors
pub in_layer : (parts : Parts) (bytes : List ℕ) (s : ℕ) → s < parts.geometry.sectors → layer_in bytes parts s ≡ layer_sector (shape_of parts) bytes s
in_layer parts bytes s below = (layer_by_sector (shape_of parts) bytes).at_sector s None below

pub off_layer : (parts : Parts) (bytes : List ℕ) (s : ℕ) → parts.geometry.sectors ≤ s → layer_in bytes parts s ≡ None
off_layer parts bytes s above = get_or_past (layer_of (shape_of parts) bytes) s None (let w = (layer_by_sector (shape_of parts) bytes).whole in omega (arith, w, above))

-- So an image that stands for the file shows it.
pub shown : (parts : Parts) (tables written is_loose : ℕ → Bool) (layer : chain.Layer) (bytes file image : List ℕ) → IsSafe parts tables written is_loose layer bytes file
    → SettlesNear parts.header file (length bytes) written image → Shows (ties_of parts) layer is_loose image
shown parts tables written is_loose layer bytes file image safe stands = record {
  held = settled;
  parts = parts;
  reads = record {
    header = parts.header;
    head = stands.head;
    settled = settled;
    settles = stands.opens;
    is = none_over settled;
    numbers = numbers_alike parts bytes settled stands.long safe.sizes safe.committed.numbers safe.committed.sound table_same safe.long;
    blocks = sound_alike parts bytes settled stands.long safe.sizes safe.committed.numbers safe.committed.sound table_same safe.long;
  };
  whole = stands.whole;
  ties = refl;
  clean = λ s h. by_disk s h (cases_lt s parts.geometry.sectors);
}
  where
    settled : List ℕ
    settled = stands.settled

    agree : (i : ℕ) → i < length bytes → IsKept parts.header i → written i ≡ false → get_or settled i 0 ≡ get_or bytes i 0
    agree i below kept un = by_two (stands.same i below kept) (safe.committed.same i below kept)
      where
        by_two : (written i ≡ true) ⊎ (get_or settled i 0 ≡ get_or file i 0) → (written i ≡ true) ⊎ (get_or file i 0 ≡ get_or bytes i 0) → get_or settled i 0 ≡ get_or bytes i 0
        by_two (inl w) any = cc
        by_two (inr e) (inl w) = cc
        by_two (inr e) (inr f) = e ∙ f

    not_written : (i : ℕ) → tables i ≡ true → written i ≡ false
    not_written i t = by_test (written i) refl
      where
        by_test : (b : Bool) → written i ≡ b → written i ≡ false
        by_test false e = e
        by_test true e = let f = safe.apart i e in cc

    table_same : (i : ℕ) → IsTablePlace parts bytes i → i < length bytes → get_or settled i 0 ≡ get_or bytes i 0
    table_same i t below = agree i below (safe.covered.beside i t) (not_written i (safe.covered.covers i t))

    by_disk : (s : ℕ) → is_loose s ≡ false → (s < parts.geometry.sectors) ⊎ (parts.geometry.sectors ≤ s) → layer_in settled parts s ≡ layer s
    by_disk s h (inr above) = off_layer parts settled s above ∙ sym (safe.off_disk s above)
    by_disk s h (inl below) =
        let c = safe.clean s below h in
        in_layer parts settled s below
        ∙ layer_alike parts bytes settled stands.long safe.sizes safe.committed.numbers safe.committed.sound table_same safe.long s below
        (λ i st. let k = sector_kept parts bytes settled stands.long safe.sizes safe.committed.numbers safe.committed.sound s below i st in agree i k.1 k.0 (c.unwritten i st))
        ∙ c.same

-- what a layer serves stands so
pub safe_of : (l : Layer) (trace : Trace) (file : Placed) (serves : Serves l trace file) → IsSafe serves.parts serves.tables serves.written file.is_loose file.member.layer serves.bytes (seen (file_of trace file.number))
safe_of l trace file serves =
    let h = serves.as_held in
    let long : 327680 ≤ length serves.bytes =
    (let room = serves.running.holds.room in
    let within = serves.running.within in
    let most = min_len (seen (file_of trace file.number)) l.log.header.log_at l.log.header.log_len in
    omega (arith, room, within, most)) in
    record {
      sizes = record {
        sector = subst (λ (p : Shape). IsSectorSize p.sector) h.shape h.sizes.sector;
        block = subst (λ (p : Shape). IsBlockSize p.block) h.shape h.sizes.block;
        entries = subst (λ n. 8 * table_entries (serves.parts.geometry.sectors * serves.parts.geometry.sector) serves.parts.geometry.sector serves.parts.block serves.parts.parent ≤ n) h.region
            (subst (λ (p : Shape). 8 * table_entries (p.sectors * p.sector) p.sector p.block p.parent ≤ l.tables.parts.bat_len) h.shape h.sizes.entries);
      };
      long = long;
      committed = serves.committed;
      covered = serves.covered;
      apart = serves.running.apart;
      clean = serves.clean;
      off_disk = h.has.off_disk;
    }

pub layers_are_kept : LayersAreKept
layers_are_kept l trace file serves = record {
  within = serves.within;
  name = serves.name;
  shows = λ image here whole.
      let stands : SettlesNear serves.parts.header (seen (file_of trace file.number)) (length serves.bytes) serves.written image =
      subst (λ (h : Header). SettlesNear h (seen (file_of trace file.number)) (length serves.bytes) serves.written image) (sym serves.header)
      (running_stands l.log serves.tables (length serves.bytes) serves.written (file_of trace file.number) serves.running image here) in
      subst (λ (t : Ties). Shows t file.member.layer file.is_loose image) (sym serves.ties)
      (shown serves.parts serves.tables serves.written file.is_loose file.member.layer serves.bytes (seen (file_of trace file.number)) image (safe_of l trace file serves) stands);
}
