-- What a layer serves while pages that change its file's metadata are committed, and behind that.
use Rattle.std.proofs.Common.{◌≡◌, ℕ, ◌+◌, ◌%◌, ◌^◌, ◌<◌, ◌≤◌, ◌⊎◌, true, false, All, List, [], length, map, get_or, refl, sym, ap, subst, ◌∙◌, arith, inl, inr}
use Rattle.std.specs.Prelude.{Ok}
use Rattle.store_model.proofs.Parts.{length-part}
use Rattle.vx_base.specs.Fields.{bytes_at}
use Rattle.vx_base.specs.declared.parts.Header.{Header}
use Rattle.vx_base.specs.declared.parts.Parts.{Parts}
use Rattle.vhdx_format.specs.Fields.{megabyte}
use Rattle.vhdx_format.specs.FileParts.{read_parts, shape_of, taken_areas}
use Rattle.vhdx_format.specs.HeldBlocks.{Area, IsSoundTable}
use Rattle.vhdx_format.specs.Layers.{layer_sector}
use Rattle.vhdx_format.specs.MetadataTables.{read_metadata}
use Rattle.vhdx_format.specs.SettledFiles.{with_updates}
use Rattle.vhdx_format.specs.WrittenEntries.{page_update}
use Rattle.vhdx_format.specs.declared.log_entry.Page.{Page}
use Rattle.vhdx_format.specs.declared.metadata.Metadata.{Metadata}
use Rattle.store_model.specs.File.{seen}
use Rattle.store_model.specs.Trace.{Trace, file_of}
use Rattle.table_pages.specs.Held.{AreTables, KeepsWithin, LiesIn, held}
use Rattle.table_pages.specs.Pages.{is_kept}
use Rattle.log_write.specs.Sessions.{SettlesNear, nowhere}
use Rattle.log_write.specs.Writing.{CanCommit, CommitsAll, IsOfTables}
use Rattle.torn_match.specs.TornMatches.{ChangesUntorn}
use Rattle.chain_model.specs.Images.{Placed, RegionBytes, Shows, metadata_of}
use Rattle.chain_model.specs.Members.{Ties, ties_of}
use Rattle.chain_model.specs.Sessions.{GoesOver, ShowsFile}
use Rattle.layer_session.specs.declared.file.Layer.{Layer}
use Rattle.layer_session.specs.Keeping.{Covers, IsLayerOf, IsNobodys, IsTablePlace, Serves, area_of, metadata as metadata_place}
use Rattle.layer_session.specs.Updating.{IsInRegion, TurnsInto, region_with, turned}
use Rattle.layer_session.proofs.Alike.{AreSizes}
use Rattle.layer_session.proofs.Committed.{IsWhole, held_none}
use Rattle.layer_session.proofs.Crashes.{IsSafe, safe_of, shown}
use Rattle.layer_session.proofs.Entered.{some_log}
use Rattle.layer_session.proofs.Entries.{apart_of}
use Rattle.layer_session.proofs.Numbers.{AreNumbers, are_numbers, metadata_low, named_as}
use Rattle.layer_session.proofs.SameTables.{holds_same}
use Rattle.layer_session.proofs.Turning.{as_long, place_after, place_before, same_entry, turned_layer, turned_read, turned_region, turned_sound}

-- the layer with pages among the changed ones
abbrev pub with_changed : Layer → List Page → List Page → Layer
with_changed l pages cache = record l { tables = record { parts = l.tables.parts; pending = pages; cache = cache } }

module _ (l : Layer) (t : Trace) (file : Placed) (serves : Serves l t file) (none : l.tables.pending ≡ []) (pages : List Page) (ties : Ties) (region : List ℕ)
    (into : TurnsInto l.tables.parts.bat_len pages file ties region) where
  abbrev parts : Parts
  parts = serves.parts

  abbrev F : List ℕ
  F = seen (file_of t file.number)

  abbrev pub laid : List ℕ
  laid = with_updates (map page_update pages) F

  abbrev pub parts_now : Parts
  parts_now = named_as ties.locator ties.retired serves.parts

  -- ---- the file before, of which nothing waits

  held_is : held l.tables.pending F ≡ F
  held_is = ap (λ p. held p F) none ∙ held_none F

  safe : IsSafe serves.parts serves.tables serves.written file.is_loose file.member.layer serves.bytes F
  safe = safe_of l t file serves

  numbers : read_parts serves.parts.header F ≡ Ok serves.parts
  numbers = subst (λ (z : List ℕ). read_parts serves.parts.header z ≡ Ok serves.parts) held_is serves.as_held.numbers

  sound : IsSoundTable (shape_of serves.parts) (taken_areas serves.parts) F
  sound = subst (IsSoundTable (shape_of serves.parts) (taken_areas serves.parts)) held_is serves.as_held.sound

  has : IsLayerOf (shape_of serves.parts) F file.member.layer
  has = subst (λ (z : List ℕ). IsLayerOf (shape_of serves.parts) z file.member.layer) held_is serves.as_held.has

  covered : Covers serves.parts F serves.tables
  covered = subst (λ (z : List ℕ). Covers serves.parts z serves.tables) held_is serves.covered_held

  only : (i : ℕ) → serves.tables i ≡ true → IsTablePlace serves.parts F i
  only i e = subst (λ (z : List ℕ). IsTablePlace serves.parts z i) held_is (serves.only i e)

  long : 327680 ≤ length F
  long = let a = safe.long in let b = serves.committed.long in omega (arith, a, b)

  metadata_is : file.metadata ≡ metadata_of serves.parts F
  metadata_is = subst (λ (z : List ℕ). file.metadata ≡ metadata_of serves.parts z) held_is serves.metadata

  inside : All (IsInRegion (metadata_of serves.parts F)) pages
  inside = subst (λ (r : RegionBytes). All (IsInRegion r) pages) metadata_is into.inside

  region_is : region ≡ region_with (metadata_of serves.parts F) pages
  region_is = into.region_is ∙ ap (λ (r : RegionBytes). region_with r pages) metadata_is

  reads : (m : Metadata) → read_metadata (bytes_at F serves.parts.meta_at serves.parts.meta_len) serves.parts.bat_len ≡ Ok m
      → read_metadata (region_with (metadata_of serves.parts F) pages) serves.parts.bat_len ≡ Ok (record m { locator = ties.locator; retired = ties.retired })
  reads m e =
      let len : l.tables.parts.bat_len ≡ serves.parts.bat_len = serves.as_held.region in
      let before : read_metadata file.metadata.bytes l.tables.parts.bat_len ≡ Ok m = ap (λ (r : RegionBytes). read_metadata r.bytes l.tables.parts.bat_len) metadata_is ∙ ap (read_metadata (bytes_at F serves.parts.meta_at serves.parts.meta_len)) len ∙ e in
      ap (λ n. read_metadata (region_with (metadata_of serves.parts F) pages) n) (sym len) ∙ ap (λ (z : List ℕ). read_metadata z l.tables.parts.bat_len) (sym region_is) ∙ into.reads m before

  -- ---- the file with the pages

  laid_long : length laid ≡ length F
  laid_long = as_long serves.parts safe.sizes F numbers sound long pages inside

  read_now : read_parts serves.parts.header laid ≡ Ok parts_now
  read_now = turned_read serves.parts safe.sizes F numbers sound long pages inside ties.locator ties.retired reads

  sound_now : IsSoundTable (shape_of serves.parts) (taken_areas serves.parts) laid
  sound_now = turned_sound serves.parts safe.sizes F numbers sound long pages inside

  layer_now : (s : ℕ) → s < serves.parts.geometry.sectors → file.member.layer s ≡ layer_sector (shape_of serves.parts) laid s
  layer_now s below = has.on_disk s below ∙ sym (turned_layer serves.parts safe.sizes F numbers sound long pages inside s below)

  before : (i : ℕ) → IsTablePlace parts_now laid i → IsTablePlace serves.parts F i
  before = place_before serves.parts safe.sizes F numbers sound long pages inside ties.locator ties.retired reads

  after : (i : ℕ) → IsTablePlace serves.parts F i → IsTablePlace parts_now laid i
  after = place_after serves.parts safe.sizes F numbers sound long pages inside ties.locator ties.retired reads

  covered_now : Covers parts_now laid serves.tables
  covered_now = record { covers = λ i h. covered.covers i (before i h); beside = λ i h. covered.beside i (before i h) }

  sizes_now : AreSizes parts_now
  sizes_now = record { sector = safe.sizes.sector; block = safe.sizes.block; entries = safe.sizes.entries }

  ties_now : ties ≡ ties_of parts_now
  ties_now = into.ties_are ∙ ap (λ (x : Ties). (let y : Ties = record x { locator = ties.locator; retired = ties.retired } in y)) serves.ties

  region_now : bytes_at laid serves.parts.meta_at serves.parts.meta_len ≡ region
  region_now = turned_region serves.parts safe.sizes F numbers sound long pages inside ∙ sym region_is

  metadata_now : (turned ties region file).metadata ≡ metadata_of parts_now laid
  metadata_now =
      ap (λ n. (let r : RegionBytes = record { at = n; bytes = region } in r)) (ap (λ (r : RegionBytes). r.at) metadata_is) ∙ ap (λ (z : List ℕ). (let r : RegionBytes = record { at = serves.parts.meta_at; bytes = z } in r)) (sym region_now)

  -- ---- what the pages are

  numbers_in : AreNumbers (length F) serves.parts
  numbers_in = (are_numbers serves.parts.header F serves.parts numbers).0

  page_last : (page : Page) → IsInRegion (metadata_of serves.parts F) page → page.at + 4096 ≤ serves.parts.meta_at + serves.parts.meta_len
  page_last page p = let a = p.last in let b = length-part F serves.parts.meta_at serves.parts.meta_len numbers_in.metadata.within in omega (arith, a, b)

  -- they are pages of tables
  pub pages_of_tables : All (IsOfTables serves.tables) pages
  pages_of_tables k d b i from to =
      let p = inside k d b in
      covered.covers i (metadata_place (omega (arith, p.first, from)) (let last = page_last (get_or pages k d) p in omega (arith, last, to)))

  -- the log may update them
  pub can_update : All (CanCommit l.log) pages
  can_update k d b = record {
    may = record { at_sector = p.aligned; sectors = omega arith; below = omega (arith, last, end, most); apart = inr (let a = p.first in omega (arith, a, low), subst (λ (h : Header). (page.at + 4096 ≤ h.log_at) ⊎ (h.log_at + h.log_len ≤ page.at)) serves.header off_log) };
    within = let a = serves.running.state.long in omega (arith, last, end, a);
  }
    where
      page : Page
      page = get_or pages k d

      p : IsInRegion (metadata_of serves.parts F) page
      p = inside k d b

      last : page.at + 4096 ≤ serves.parts.meta_at + serves.parts.meta_len
      last = page_last page p

      end : serves.parts.meta_at + serves.parts.meta_len ≤ length F
      end = numbers_in.metadata.within

      most : length F ≤ 2 ^ 63
      most = serves.as_held.most

      low : megabyte ≤ serves.parts.meta_at
      low = metadata_low serves.parts F numbers

      off_log : (page.at + 4096 ≤ serves.parts.header.log_at) ⊎ (serves.parts.header.log_at + serves.parts.header.log_len ≤ page.at)
      off_log = by_side (apart_of serves.parts.meta_at serves.parts.meta_len serves.parts.header.log_at serves.parts.header.log_len numbers_in.metadata.off_log (let a = p.first in omega (arith, a, last)) (some_log l t file serves))
        where
          by_side : (serves.parts.meta_at + serves.parts.meta_len ≤ serves.parts.header.log_at) ⊎ (serves.parts.header.log_at + serves.parts.header.log_len ≤ serves.parts.meta_at)
              → (page.at + 4096 ≤ serves.parts.header.log_at) ⊎ (serves.parts.header.log_at + serves.parts.header.log_len ≤ page.at)
          by_side (inl x) = inl (omega (arith, last, x))
          by_side (inr x) = inr (let a = p.first in omega (arith, a, x))

  -- they lie in the file
  pub lie_in_file : All (LiesIn (length F)) pages
  lie_in_file k d b = let p = inside k d b in record { aligned = p.aligned; within = let last = page_last (get_or pages k d) p in let end = numbers_in.metadata.within in omega (arith, last, end) }

  -- ---- images

  -- with all pages in place the file is the other one
  safe_now : IsSafe parts_now serves.tables nowhere (λ s. false) file.member.layer laid laid
  safe_now = record {
    sizes = sizes_now;
    long = omega (arith, long, laid_long);
    committed = record { long = omega arith; numbers = read_now; sound = sound_now; same = λ i below kept. inr refl };
    covered = covered_now;
    apart = λ i h. cc;
    clean = λ s below h. record { same = sym (layer_now s below); unwritten = λ i st. refl };
    off_disk = safe.off_disk;
  }

  -- an image of the commit shows the file as before, or the other one
  pub update_shows : (image : List ℕ) → CommitsAll l.log pages (length serves.bytes) serves.written F image → ShowsFile file image ⊎ ShowsFile (turned ties region file) image
  update_shows image (inl old) =
      let stands : SettlesNear serves.parts.header F (length serves.bytes) serves.written image = subst (λ (h : Header). SettlesNear h F (length serves.bytes) serves.written image) (sym serves.header) old in
      inl (subst (λ (x : Ties). Shows x file.member.layer file.is_loose image) (sym serves.ties)
      (shown serves.parts serves.tables serves.written file.is_loose file.member.layer serves.bytes F image safe stands))
  update_shows image (inr now) =
      let one : SettlesNear serves.parts.header laid (length F) nowhere image = subst (λ (h : Header). SettlesNear h laid (length F) nowhere image) (sym serves.header) now in
      let stands : SettlesNear serves.parts.header laid (length laid) nowhere image = subst (λ n. SettlesNear serves.parts.header laid n nowhere image) (sym laid_long) one in
      inr (subst (λ (x : Ties). Shows x file.member.layer (λ s. false) image) (sym ties_now)
      (shown parts_now serves.tables nowhere (λ s. false) file.member.layer laid laid image safe_now stands))

  pub updates_over : (u : Trace) → ChangesUntorn file.number (CommitsAll l.log pages (length serves.bytes) serves.written F) t u → GoesOver file (turned ties region file) t u
  updates_over u changes = record {
    one_file = refl;
    one_name = refl;
    phase = record {
      later = changes.later;
      since = changes.since;
      each = λ k a b. record { images = λ image here clean. update_shows image ((changes.each k a b).has image here clean); others = (changes.each k a b).others };
    };
  }

  -- ---- the pages among the changed ones

  module _ (cache : List Page) (are : AreTables l.tables.parts F pages cache) (keeps : KeepsWithin 0 0 l.tables (record { parts = l.tables.parts; pending = pages; cache = cache })) where
    by_kept : (at i : ℕ) → at % 4096 ≡ 0 → at ≤ i → i < at + 4096 → (is_kept at l.tables.cache ≡ true) ⊎ ((0 ≤ at) × (at + 4096 ≤ 0)) → serves.tables i ≡ true
    by_kept at i aligned a b (inl k) = serves.kept at i aligned k a b
    by_kept at i aligned a b (inr w) = absurd (let x = w.1 in omega (arith, x))

    nobodys_now : (range : Area) → IsNobodys serves.parts F range → IsNobodys parts_now laid range
    nobodys_now range k = record { apart = λ j block h. k.apart j block (holds_same serves.parts safe.sizes F laid laid_long (same_entry serves.parts safe.sizes F numbers sound long pages inside) j block h) }

    pub whole_now : IsWhole (with_changed l pages cache) t (turned ties region file) parts_now serves.tables
    unfolding held
    whole_now = record {
      within = serves.within;
      number = serves.number;
      name = serves.name;
      header = serves.header;
      ties = ties_now;
      metadata = metadata_now;
      as_held = record {
        sizes = serves.as_held.sizes;
        shape = serves.as_held.shape;
        region = serves.as_held.region;
        most = serves.as_held.most;
        pages = are;
        numbers = read_now;
        sound = sound_now;
        of_tables = λ k d b i from to. after i (only i (pages_of_tables k d b i from to));
        has = record { on_disk = layer_now; off_disk = has.off_disk };
      };
      sizes = sizes_now;
      long = omega (arith, long, laid_long);
      covered_held = covered_now;
      only = λ i e. after i (only i e);
      kept = λ at i aligned k a b. by_kept at i aligned a b (keeps.only at aligned k);
      next = serves.space.next;
      tight = serves.space.tight;
      placed = λ k d b. (let p = serves.space.placed k d b in record { low = p.low; within = p.within; off_log = p.off_log; off_table = p.off_table; off_metadata = p.off_metadata });
      freed = λ k d b. nobodys_now (area_of (get_or l.space.freed k d)) (subst (λ (z : List ℕ). IsNobodys serves.parts z (area_of (get_or l.space.freed k d))) held_is (serves.space.freed k d b));
    }

-- What pages turn one file into that a layer serves, they turn each into that it serves: these have one metadata region and one
-- set of ties.
pub turns_each : (l : Layer) (t : Trace) (one file : Placed) (ties : Ties) (region : List ℕ) (pages : List Page) → Serves l t one → Serves l t file
    → TurnsInto l.tables.parts.bat_len pages one ties region → TurnsInto l.tables.parts.bat_len pages file ties region
turns_each l t one file ties region pages s r into = record {
  inside = subst (λ (x : RegionBytes). All (IsInRegion x) pages) same_metadata into.inside;
  region_is = into.region_is ∙ ap (λ (x : RegionBytes). region_with x pages) same_metadata;
  reads = λ m e. into.reads m (ap (λ (x : RegionBytes). read_metadata x.bytes l.tables.parts.bat_len) same_metadata ∙ e);
  ties_are = into.ties_are ∙ ap (λ (x : Ties). (let y : Ties = record x { locator = ties.locator; retired = ties.retired } in y)) (s.ties ∙ ap ties_of same_parts ∙ sym r.ties);
}
  where
    same_file : one.number ≡ file.number
    same_file = s.number ∙ sym r.number

    same_parts : s.parts ≡ r.parts
    same_parts =
        let here : read_parts s.parts.header (held l.tables.pending (seen (file_of t file.number))) ≡ Ok s.parts = subst (λ n. read_parts s.parts.header (held l.tables.pending (seen (file_of t n))) ≡ Ok s.parts) same_file s.as_held.numbers in
        let there : read_parts s.parts.header (held l.tables.pending (seen (file_of t file.number))) ≡ Ok r.parts = subst (λ (h : Header). read_parts h (held l.tables.pending (seen (file_of t file.number))) ≡ Ok r.parts) (r.header ∙ sym s.header) r.as_held.numbers in
        let both : Ok s.parts ≡ Ok r.parts = sym here ∙ there in
        cc

    same_metadata : one.metadata ≡ file.metadata
    same_metadata =
        s.metadata ∙ ap (λ n. metadata_of s.parts (held l.tables.pending (seen (file_of t n)))) same_file ∙ ap (λ (p : Parts). metadata_of p (held l.tables.pending (seen (file_of t file.number)))) same_parts ∙ sym r.metadata
