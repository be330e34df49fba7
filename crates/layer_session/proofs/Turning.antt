-- Pages laid over a file's metadata: what else the file has stays.
use Rattle.std.proofs.Common.{◌≡◌, ◌≢◌, ℕ, suc, ◌+◌, ◌-◌, ◌*◌, ◌/◌, ◌%◌, ◌^◌, ◌<◌, ◌≤◌, ◌⊎◌, max, true, false, All, List, [], ◌∷◌, drop, length, map, get_or, Option, Some, refl, sym, ap, subst, ◌∙◌, arith, inl, inr, if◌then◌else◌}
use Rattle.std.specs.Prelude.{Ok}
use Rattle.std.specs.Int.{bit_at}
use Rattle.std.proofs.lemmas.Bool.{cases_Bool, cases_eq}
use Rattle.std.proofs.lemmas.List.{ext_get_or, get_or-drop}
use Rattle.store_model.proofs.Parts.{length-part}
use Rattle.vx_base.specs.Fields.{bytes_at, u64_at}
use Rattle.vx_base.specs.declared.parts.Parts.{Parts}
use Rattle.vhdx_format.specs.AllocationTables.{state_of, unit_of}
use Rattle.vhdx_format.specs.Fields.{megabyte}
use Rattle.vhdx_format.specs.FileParts.{read_parts, shape_of, taken_areas}
use Rattle.vhdx_format.specs.HeldBlocks.{Area, HoldsBlock, IsBitmapEntry, IsPayloadEntry, IsSoundTable, bitmap, payload}
use Rattle.vhdx_format.specs.Layers.{Shape, bitmap_entry_of, entry_of, layer_sector, place_at, sector_bit, sector_by_state, state_at, stored_sector, table_entry}
use Rattle.vhdx_format.specs.Logs.{Update}
use Rattle.vhdx_format.specs.MetadataTables.{read_metadata}
use Rattle.vhdx_format.specs.SectorBitmaps.{bit_of}
use Rattle.vhdx_format.specs.SettledFiles.{byte_after, length_after, names, with_updates}
use Rattle.vhdx_format.specs.WrittenEntries.{page_update}
use Rattle.vhdx_format.specs.declared.log_entry.Page.{Page}
use Rattle.vhdx_format.specs.declared.metadata.Metadata.{Metadata}
use Rattle.vhdx_format.proofs.LayerLemmas.{by_state-full, sector_entries}
use Rattle.vhdx_format.proofs.SettledBytes.{cases_named, get_or-with_updates, length-with_updates}
use Rattle.table_pages.proofs.Laying.{part_byte}
use Rattle.chain_model.specs.Images.{RegionBytes, metadata_of}
use Rattle.layer_session.specs.Keeping.{IsTablePlace, bitmap as bitmap_place, entries, metadata, regions}
use Rattle.layer_session.specs.Updating.{IsInRegion, region_with}
use Rattle.layer_session.proofs.Alike.{AreSizes, IsInFile, bitmap_there, block_in_file, by_state_other, off_range}
use Rattle.layer_session.proofs.Numbers.{are_numbers, metadata_low, named_as, part_alike, turned_numbers}
use Rattle.layer_session.proofs.SameTables.{bitmap_same, payload_same, sound_same}
use Rattle.layer_session.proofs.Sectors.{in_block, read_back}

-- ---- pages of a region

-- an update of the region that a page is
abbrev moved : ℕ → Page → Update
moved at page = record { at = page.at - at; bytes = page.bytes }

module _ (region : RegionBytes) where
  rest_in : (page : Page) (pages : List Page) → All (IsInRegion region) (page ∷ pages) → All (IsInRegion region) pages
  rest_in page pages h = λ k d l. h (suc k) d (omega (arith, l))

  -- of a byte outside the region no page says anything
  pub byte_beyond : (pages : List Page) (i b : ℕ) → All (IsInRegion region) pages → (i < region.at) ⊎ (region.at + length region.bytes ≤ i) → byte_after (map page_update pages) i b ≡ b
  unfolding byte_after
  byte_beyond [] i b h out = refl
  byte_beyond (page ∷ pages) i b h out = by_name (h 0 page (omega arith)) (cases_named (page_update page) i) out (byte_beyond pages i b (rest_in page pages h) out)
    where
      by_name : IsInRegion region page → ((page.at ≤ i) × (i < page.at + length page.bytes) × (names (page_update page) i ≡ true)) ⊎ (((i < page.at) ⊎ (page.at + length page.bytes ≤ i)) × (names (page_update page) i ≡ false))
          → (i < region.at) ⊎ (region.at + length region.bytes ≤ i) → byte_after (map page_update pages) i b ≡ b → byte_after (map page_update pages) i (if names (page_update page) i then get_or page.bytes (i - page.at) 0 else b) ≡ b
      by_name p (inl x) (inl o) rest = absurd (omega (arith, x.0, p.first, o))
      by_name p (inl x) (inr o) rest = absurd (omega (arith, x.1, p.last, p.whole, o))
      by_name p (inr x) o rest = rw x.1 rest

  -- a byte of the region is what the region's own update says
  byte_moved : (pages : List Page) (i b : ℕ) → All (IsInRegion region) pages → byte_after (map page_update pages) (region.at + i) b ≡ byte_after (map (moved region.at) pages) i b
  unfolding byte_after
  byte_moved [] i b h = refl
  byte_moved (page ∷ pages) i b h = by_name (h 0 page (omega arith)) (cases_named (page_update page) (region.at + i)) (cases_named (moved region.at page) i) (λ c. byte_moved pages i c (rest_in page pages h))
    where
      by_name : IsInRegion region page
          → ((page.at ≤ region.at + i) × (region.at + i < page.at + length page.bytes) × (names (page_update page) (region.at + i) ≡ true)) ⊎ (((region.at + i < page.at) ⊎ (page.at + length page.bytes ≤ region.at + i)) × (names (page_update page) (region.at + i) ≡ false))
          → ((page.at - region.at ≤ i) × (i < page.at - region.at + length page.bytes) × (names (moved region.at page) i ≡ true)) ⊎ (((i < page.at - region.at) ⊎ (page.at - region.at + length page.bytes ≤ i)) × (names (moved region.at page) i ≡ false))
          → ((c : ℕ) → byte_after (map page_update pages) (region.at + i) c ≡ byte_after (map (moved region.at) pages) i c)
          → byte_after (map page_update pages) (region.at + i) (if names (page_update page) (region.at + i) then get_or page.bytes (region.at + i - page.at) 0 else b)
          ≡ byte_after (map (moved region.at) pages) i (if names (moved region.at page) i then get_or page.bytes (i - (page.at - region.at)) 0 else b)
      by_name p (inl x) (inl y) rest =
          rw (x.2, y.2) (rest (get_or page.bytes (region.at + i - page.at) 0) ∙ ap (λ k. byte_after (map (moved region.at) pages) i (get_or page.bytes k 0)) (let e : region.at + i - page.at ≡ i - (page.at - region.at) = omega (arith, p.first) in e))
      by_name p (inl x) (inr (inl y, z)) rest = absurd (omega (arith, x.0, y, p.first))
      by_name p (inl x) (inr (inr y, z)) rest = absurd (omega (arith, x.1, y, p.first))
      by_name p (inr (inl x, z)) (inl y) rest = absurd (omega (arith, y.0, x, p.first))
      by_name p (inr (inr x, z)) (inl y) rest = absurd (omega (arith, y.1, x, p.first))
      by_name p (inr x) (inr y) rest = rw (x.1, y.1) (rest b)

  -- neither the file nor the region gets longer
  longest : (n at len : ℕ) → at + len ≤ n → max n (at + len) ≡ n
  longest n at len h = omega arith

  file_len : (n : ℕ) (pages : List Page) → All (IsInRegion region) pages → region.at + length region.bytes ≤ n → length_after (map page_update pages) n ≡ n
  unfolding length_after
  file_len n [] h w = refl
  file_len n (page ∷ pages) h w =
      let p : IsInRegion region page = h 0 page (omega arith) in
      ap (length_after (map page_update pages)) (longest n page.at (length page.bytes) (omega (arith, p.last, p.whole, w))) ∙ file_len n pages (rest_in page pages h) w

  region_len : (pages : List Page) → All (IsInRegion region) pages → length_after (map (moved region.at) pages) (length region.bytes) ≡ length region.bytes
  unfolding length_after
  region_len [] h = refl
  region_len (page ∷ pages) h =
      let p : IsInRegion region page = h 0 page (omega arith) in
      ap (length_after (map (moved region.at) pages)) (longest (length region.bytes) (page.at - region.at) (length page.bytes) (omega (arith, p.first, p.last, p.whole))) ∙ region_len pages (rest_in page pages h)

  module _ (pages : List Page) (inside : All (IsInRegion region) pages) (file : List ℕ) (within : region.at + length region.bytes ≤ length file) where
    abbrev laid : List ℕ
    laid = with_updates (map page_update pages) file

    pub laid_len : length laid ≡ length file
    laid_len = length-with_updates (map page_update pages) file ∙ file_len (length file) pages inside within

    pub laid_beyond : (i : ℕ) → (i < region.at) ⊎ (region.at + length region.bytes ≤ i) → get_or laid i 0 ≡ get_or file i 0
    laid_beyond i out = get_or-with_updates (map page_update pages) file i ∙ byte_beyond pages i (get_or file i 0) inside out

    pub laid_is : bytes_at file region.at (length region.bytes) ≡ region.bytes → bytes_at laid region.at (length region.bytes) ≡ region_with region pages
    laid_is same = ext_get_or 0 _ _ (len ∙ sym other) (λ i l. byte i (omega (arith, l, len)))
      where
        n : ℕ
        n = length region.bytes

        len : length (bytes_at laid region.at (length region.bytes)) ≡ length region.bytes
        len = length-part laid region.at (length region.bytes) (omega (arith, within, laid_len))

        other : length (region_with region pages) ≡ length region.bytes
        other = length-with_updates (map (moved region.at) pages) region.bytes ∙ region_len pages inside

        byte : (i : ℕ) → i < length region.bytes → get_or (bytes_at laid region.at (length region.bytes)) i 0 ≡ get_or (region_with region pages) i 0
        byte i l =
            part_byte laid region.at (length region.bytes) i l ∙ get_or-with_updates (map page_update pages) file (region.at + i) ∙ byte_moved pages i (get_or file (region.at + i) 0) inside
            ∙ ap (byte_after (map (moved region.at) pages) i) (sym (part_byte file region.at (length region.bytes) i l) ∙ ap (λ (z : List ℕ). get_or z i 0) same)
            ∙ sym (get_or-with_updates (map (moved region.at) pages) region.bytes i)

-- ---- pages of a file's metadata

module _ (parts : Parts) (sizes : AreSizes parts) (old : List ℕ) (numbers : read_parts parts.header old ≡ Ok parts) (sound : IsSoundTable (shape_of parts) (taken_areas parts) old) (long : 327680 ≤ length old)
    (pages : List Page) (inside : All (IsInRegion (metadata_of parts old)) pages) where
  abbrev p : Shape
  p = shape_of parts

  abbrev pub new : List ℕ
  new = with_updates (map page_update pages) old

  in_file : parts.meta_at + parts.meta_len ≤ length old
  in_file = (are_numbers parts.header old parts numbers).0.metadata.within

  region_long : length (bytes_at old parts.meta_at parts.meta_len) ≡ parts.meta_len
  region_long = length-part old parts.meta_at parts.meta_len in_file

  within : parts.meta_at + length (bytes_at old parts.meta_at parts.meta_len) ≤ length old
  within = omega (arith, in_file, region_long)

  pub as_long : length new ≡ length old
  as_long = laid_len (metadata_of parts old) pages inside old within

  no_shorter : length old ≤ length new
  no_shorter = omega (arith, as_long)

  -- outside the metadata nothing has changed
  pub beyond : (i : ℕ) → (i < parts.meta_at) ⊎ (parts.meta_at + parts.meta_len ≤ i) → get_or new i 0 ≡ get_or old i 0
  beyond i (inl l) = laid_beyond (metadata_of parts old) pages inside old within i (inl l)
  beyond i (inr l) = laid_beyond (metadata_of parts old) pages inside old within i (inr (omega (arith, l, region_long)))

  pub turned_region : bytes_at new parts.meta_at parts.meta_len ≡ region_with (metadata_of parts old) pages
  turned_region = ap (bytes_at new parts.meta_at) (sym region_long) ∙ laid_is (metadata_of parts old) pages inside old within (ap (bytes_at old parts.meta_at) region_long)

  -- ---- the table

  pub same_entry : (j : ℕ) → 8 * j + 8 ≤ parts.bat_len → table_entry p new j ≡ table_entry p old j
  unfolding table_entry
  same_entry j fits =
      let n = (are_numbers parts.header old parts numbers).0 in
      let end : parts.bat_at + parts.bat_len ≤ length old = n.table.within in
      sym (read_back new (parts.bat_at + 8 * j)) ∙ ap (λ (z : List ℕ). u64_at z 0)
      (part_alike old new (parts.bat_at + 8 * j) 8 (omega (arith, end, fits)) no_shorter (λ i a b. beyond i (off_range parts.bat_at parts.bat_len parts.meta_at parts.meta_len i n.apart (omega (arith, a)) (omega (arith, b, fits)))))
      ∙ read_back old (parts.bat_at + 8 * j)

  pub turned_sound : IsSoundTable p (taken_areas parts) new
  turned_sound = sound_same parts sizes old new as_long same_entry sound

  -- ---- sectors

  payload_of : (s : ℕ) → s < p.sectors → IsPayloadEntry p (entry_of p s)
  payload_of s below = (sector_entries p (record { sector = sizes.sector; block = sizes.block })).payload s below

  -- a byte of a block
  block_byte : (j : ℕ) (a : Area) (i : ℕ) → HoldsBlock p old j a → a.at ≤ i → i < a.at + a.len → get_or new i 0 ≡ get_or old i 0
  block_byte j a i h from to =
      let f : IsInFile parts old old (omega arith) sizes numbers sound a = block_in_file parts old old (omega arith) sizes numbers sound j a h in
      beyond i (off_range a.at a.len parts.meta_at parts.meta_len i f.off_metadata from to)

  same_state : (s : ℕ) → s < p.sectors → table_entry p new (entry_of p s) ≡ table_entry p old (entry_of p s)
  same_state s below = payload_same parts sizes old new as_long same_entry (entry_of p s) (payload_of s below)

  same_stored : (s : ℕ) → s < p.sectors → (state_at p old (entry_of p s) ≡ 6) ⊎ (state_at p old (entry_of p s) ≡ 7) → stored_sector p new s ≡ stored_sector p old s
  unfolding stored_sector
  same_stored s below there =
      let fit : s * p.sector % p.block + p.sector ≤ p.block = in_block s p.sector p.block sizes.sector sizes.block in
      let h : HoldsBlock p old (entry_of p s) (record { at = place_at p old (entry_of p s); len = p.block }) = payload (payload_of s below) there in
      let end : place_at p old (entry_of p s) + p.block ≤ length old = (block_in_file parts old old (omega arith) sizes numbers sound (entry_of p s) (record { at = place_at p old (entry_of p s); len = p.block }) h).within in
      ap (λ w. bytes_at new (unit_of w * megabyte + s * p.sector % p.block) p.sector) (same_state s below)
      ∙ part_alike old new (place_at p old (entry_of p s) + s * p.sector % p.block) p.sector (omega (arith, end, fit)) no_shorter
      (λ i a c. block_byte (entry_of p s) (record { at = place_at p old (entry_of p s); len = p.block }) i h (omega (arith, a)) (omega (arith, c, fit)))

  same_bit : (s : ℕ) → s < p.sectors → p.parent ≡ true → state_at p old (entry_of p s) ≡ 7 → sector_bit p new s ≡ sector_bit p old s
  unfolding sector_bit
  same_bit s below parent seven =
      let six : state_at p old (bitmap_entry_of p s) ≡ 6 = bitmap_there parts old old (omega arith) sizes numbers sound s below parent seven in
      let be : IsBitmapEntry p (bitmap_entry_of p s) = (sector_entries p (record { sector = sizes.sector; block = sizes.block })).bitmap s parent below in
      let k = s % 2 ^ 23 / 8 in
      let low : k < megabyte = omega arith in
      let at = place_at p old (bitmap_entry_of p s) in
      let byte : get_or new (at + k) 0 ≡ get_or old (at + k) 0 = block_byte (bitmap_entry_of p s) (record { at = at; len = megabyte }) (at + k) (bitmap be six) (omega arith) (omega (arith, low)) in
      ap (λ w. bit_of (drop (unit_of w * megabyte) new) (s % 2 ^ 23)) (bitmap_same parts sizes old new as_long same_entry (bitmap_entry_of p s) be)
      ∙ ap (λ n. bit_at n (s % 2 ^ 23 % 8)) (get_or-drop at new k 0 ∙ byte ∙ sym (get_or-drop at old k 0))

  pub turned_layer : (s : ℕ) → s < p.sectors → layer_sector p new s ≡ layer_sector p old s
  turned_layer s below = ap (λ w. sector_by_state p (state_of w) (sector_bit p new s) (stored_sector p new s)) (same_state s below) ∙ by_state (cases_eq (state_at p old (entry_of p s)) 6) (cases_eq (state_at p old (entry_of p s)) 7) (cases_Bool p.parent)
    where
      by_state : (state_at p old (entry_of p s) ≡ 6) ⊎ (state_at p old (entry_of p s) ≢ 6) → (state_at p old (entry_of p s) ≡ 7) ⊎ (state_at p old (entry_of p s) ≢ 7) → (p.parent ≡ true) ⊎ (p.parent ≡ false)
          → sector_by_state p (state_at p old (entry_of p s)) (sector_bit p new s) (stored_sector p new s) ≡ layer_sector p old s
      by_state (inl e) x y =
          ap (λ n. sector_by_state p n (sector_bit p new s) (stored_sector p new s)) e ∙ by_state-full p (sector_bit p new s) (stored_sector p new s) ∙ ap Some (same_stored s below (inl e))
          ∙ sym (by_state-full p (sector_bit p old s) (stored_sector p old s)) ∙ ap (λ n. sector_by_state p n (sector_bit p old s) (stored_sector p old s)) (sym e)
      by_state (inr n) (inl e) (inl parent) =
          ap (λ b. sector_by_state p (state_at p old (entry_of p s)) b (stored_sector p new s)) (same_bit s below parent e) ∙ ap (sector_by_state p (state_at p old (entry_of p s)) (sector_bit p old s)) (same_stored s below (inr e))
      by_state (inr n) (inl e) (inr alone) = absurd (sound.states (entry_of p s) (inl (payload_of s below, inr (inr (e, alone)))))
      by_state (inr n) (inr m) y = by_state_other p (state_at p old (entry_of p s)) (sector_bit p new s) (sector_bit p old s) (stored_sector p new s) (stored_sector p old s) n m

  -- ---- numbers and places, by which the file is read then

  module _ (locator retired : Option (List ℕ)) (reads : (m : Metadata) → read_metadata (bytes_at old parts.meta_at parts.meta_len) parts.bat_len ≡ Ok m
      → read_metadata (region_with (metadata_of parts old) pages) parts.bat_len ≡ Ok (record m { locator = locator; retired = retired })) where
    pub turned_read : read_parts parts.header new ≡ Ok (named_as locator retired parts)
    turned_read =
        let low : megabyte ≤ parts.meta_at = metadata_low parts old numbers in
        turned_numbers parts.header old new parts locator retired numbers no_shorter
        (part_alike old new 196608 131072 (omega (arith, long)) no_shorter (λ i a b. beyond i (inl (omega (arith, b, low)))))
        (λ m e. ap (λ (z : List ℕ). read_metadata z parts.bat_len) turned_region ∙ reads m e)

    pub place_before : (i : ℕ) → IsTablePlace (named_as locator retired parts) new i → IsTablePlace parts old i
    place_before i (regions l k) = regions l k
    place_before i (entries l k) = entries l k
    place_before i (metadata l k) = metadata l k
    place_before i (bitmap_place j be six l k) =
        let e = bitmap_same parts sizes old new as_long same_entry j be in
        bitmap_place j be (subst (λ w. state_of w ≡ 6) e six) (subst (λ w. unit_of w * megabyte ≤ i) e l) (subst (λ w. i < unit_of w * megabyte + megabyte) e k)

    pub place_after : (i : ℕ) → IsTablePlace parts old i → IsTablePlace (named_as locator retired parts) new i
    place_after i (regions l k) = regions l k
    place_after i (entries l k) = entries l k
    place_after i (metadata l k) = metadata l k
    place_after i (bitmap_place j be six l k) =
        let e = sym (bitmap_same parts sizes old new as_long same_entry j be) in
        bitmap_place j be (subst (λ w. state_of w ≡ 6) e six) (subst (λ w. unit_of w * megabyte ≤ i) e l) (subst (λ w. i < unit_of w * megabyte + megabyte) e k)
