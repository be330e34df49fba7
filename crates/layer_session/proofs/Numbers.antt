-- The numbers of a file, read from a longer one that has the same tables.
use Rattle.std.proofs.Common.{◌≡◌, ℕ, ◌+◌, ◌<◌, ◌≤◌, ◌==◌, ◌&&◌, ◌||◌, Bool, true, false, not, List, length, get_or, Option, Some, None, refl, sym, ap, subst, ◌∙◌, arith, if◌then◌else◌}
use Rattle.std.specs.Prelude.{Result, Ok, Err, nat_lt}
use Rattle.std.specs.List.{find}
use Rattle.std.specs.Option.{ok_or}
use Rattle.std.proofs.lemmas.Bool.{and_parts, or_from, le-leb, leb-true, not_from_true, or_parts}
use Rattle.std.proofs.lemmas.List.{ext_get_or}
use Rattle.store_model.proofs.Parts.{length-part}
use Rattle.vx_base.specs.Fields.{bytes_at}
use Rattle.vx_base.specs.declared.parts.Header.{Header}
use Rattle.vx_base.specs.declared.parts.Parts.{Parts}
use Rattle.vhdx_format.specs.declared.regions.Regions.{Regions}
use Rattle.vhdx_format.specs.declared.regions.Region.TheVariants.{Bat}
use Rattle.vhdx_format.specs.declared.regions.Region.TheVariants.{Metadata as metadata_kind}
use Rattle.vhdx_format.specs.Fields.{is_whole_megabytes, megabyte, overlaps, sector_size}
use Rattle.vhdx_format.specs.declared.metadata.Metadata.{Metadata}
use Rattle.vhdx_format.specs.FileParts.{read_parts, parts_of}
use Rattle.vhdx_format.specs.MetadataTables.{metadata_region, read_metadata, served_sectors}
use Rattle.vhdx_format.specs.RegionTables.{is_of, is_misplaced, is_unknown_required, misplaced_region, regions_in, read_regions, region_entries, region_table}
use Rattle.vhdx_format.specs.declared.TheConstants.{BAT_REGION, METADATA_REGION}
use Rattle.vhdx_format.specs.declared.regions.RegionEntry.{RegionEntry}
use Rattle.vhdx_format.specs.Rules.{BrokenRule, UnknownRegion, MissingRegion, RegionPlace, NoRegionTable, SectorSize, ◌>>=◌, unless, unless_some}
use Rattle.table_pages.proofs.Laying.{part_byte}
use Rattle.chain_model.specs.Images.{RegionBytes, metadata_of}

-- ---- bytes

-- a part of a longer list that has the same bytes there
pub part_alike : (old new : List ℕ) (at n : ℕ) → at + n ≤ length old → length old ≤ length new → ((i : ℕ) → at ≤ i → i < at + n → get_or new i 0 ≡ get_or old i 0) → bytes_at new at n ≡ bytes_at old at n
part_alike old new at n inside longer same = ext_get_or 0 _ _ (length-part new at n (omega (arith, inside, longer)) ∙ sym (length-part old at n inside)) (λ i l. byte i (omega (arith, l, length-part new at n (omega (arith, inside, longer)))))
  where
    byte : (i : ℕ) → i < n → get_or (bytes_at new at n) i 0 ≡ get_or (bytes_at old at n) i 0
    byte i l = part_byte new at n i l ∙ same (at + i) (omega arith) (omega (arith, l)) ∙ sym (part_byte old at n i l)

-- the metadata's regions of two files, by their bytes
pub same_metadata : (parts : Parts) (old new : List ℕ) → bytes_at new parts.meta_at parts.meta_len ≡ bytes_at old parts.meta_at parts.meta_len → metadata_of parts new ≡ metadata_of parts old
same_metadata parts old new e = ap (λ (z : List ℕ). (let region : RegionBytes = record { at = parts.meta_at; bytes = z } in region)) e

-- ---- regions

not_parts : (x : Bool) → not x ≡ false → x ≡ true
not_parts true h = refl
not_parts false h = cc

-- a region that isn't misplaced in a file of n bytes
pub record IsInPlace (n log_at log_len at len : ℕ) : Type 0 where
  pub whole_at : is_whole_megabytes at ≡ true
  pub whole_len : is_whole_megabytes len ≡ true
  pub within : at + len ≤ n
  pub off_log : overlaps at len log_at log_len ≡ false

record IsTested (entries : List RegionEntry) (n log_at log_len : ℕ) (other entry : RegionEntry) : Type 0 where
  longer : (m : ℕ) → n ≤ m → is_misplaced entries m log_at log_len other entry ≡ false
  placed : IsInPlace n log_at log_len entry.at entry.len
  beside : overlaps entry.at entry.len other.at other.len ≡ false

tested : (entries : List RegionEntry) (n log_at log_len : ℕ) (other entry : RegionEntry) → is_misplaced entries n log_at log_len other entry ≡ false → IsTested entries n log_at log_len other entry
tested entries n log_at log_len other entry h =
    let five = or_parts _ _ h in
    let four = or_parts _ _ five.0 in
    let three = or_parts _ _ four.0 in
    let two = or_parts _ _ three.0 in
    let one = or_parts _ _ two.0 in
    let within : entry.at + entry.len ≤ n = leb-true (entry.at + entry.len) n (not_parts _ three.1) in
    record {
      longer = λ m l. or_from _ _ (or_from _ _ (or_from _ _ three.0 (not_from_true _ (le-leb (entry.at + entry.len) m (omega (arith, within, l))))) four.1) five.1;
      placed = record { whole_at = not_parts _ one.1; whole_len = not_parts _ two.1; within = within; off_log = four.1 };
      beside = five.1;
    }

none_of : (a b c : Bool) → (if a && (c || not b) then Some Bat else (if b then Some metadata_kind else None)) ≡ None → (a ≡ false) × (b ≡ false)
none_of false false c h = (refl, refl)
none_of false true c h = cc
none_of true false true h = cc
none_of true false false h = cc
none_of true true true h = cc
none_of true true false h = cc

none_again : (a b c : Bool) → a ≡ false → b ≡ false → (if a && (c || not b) then Some Bat else (if b then Some metadata_kind else None)) ≡ None
none_again a b c e f = rw (e, f) refl

some_ok : {A X : Type 0} (o : Option X) (rule : X → BrokenRule) (x y : A) → unless_some o rule (Ok x) ≡ Ok y → (o ≡ None) × (x ≡ y)
some_ok None rule x y h = (refl, cc)
some_ok (Some z) rule x y h = cc

-- what two regions are that were read
pub record AreInPlace (n log_at log_len : ℕ) (r : Regions) : Type 0 where
  pub table : IsInPlace n log_at log_len r.bat_at r.bat_len
  pub metadata : IsInPlace n log_at log_len r.meta_at r.meta_len
  pub apart : overlaps r.bat_at r.bat_len r.meta_at r.meta_len ≡ false

record ReadsLonger (entries : List RegionEntry) (n log_at log_len : ℕ) (r : Regions) : Type 0 where
  longer : (m : ℕ) → n ≤ m → regions_in entries m log_at log_len ≡ Ok r
  placed : AreInPlace n log_at log_len r

regions_longer : (entries : List RegionEntry) (n log_at log_len : ℕ) (r : Regions) → regions_in entries n log_at log_len ≡ Ok r → ReadsLonger entries n log_at log_len r
unfolding regions_in
regions_longer entries n log_at log_len r h = by_finds (find is_unknown_required entries) (find (is_of BAT_REGION) entries) (find (is_of METADATA_REGION) entries) refl refl refl h
  where
    by_finds : (u b c : Option RegionEntry) → find is_unknown_required entries ≡ u → find (is_of BAT_REGION) entries ≡ b → find (is_of METADATA_REGION) entries ≡ c
        → unless_some u (λ entry. UnknownRegion entry.id) (ok_or b (MissingRegion Bat) >>= λ bat. ok_or c (MissingRegion metadata_kind) >>= λ metadata.
        unless_some (misplaced_region entries n log_at log_len bat metadata) RegionPlace (Ok (record { bat_at = bat.at; bat_len = bat.len; meta_at = metadata.at; meta_len = metadata.len }))) ≡ Ok r
        → ReadsLonger entries n log_at log_len r
    by_finds (Some x) b c eu eb ec k = cc
    by_finds None None c eu eb ec k = cc
    by_finds None (Some bat) None eu eb ec k = cc
    by_finds None (Some bat) (Some metadata) eu eb ec k =
        let ok = some_ok (misplaced_region entries n log_at log_len bat metadata) RegionPlace (record { bat_at = bat.at; bat_len = bat.len; meta_at = metadata.at; meta_len = metadata.len }) r k in
        let two = none_of (is_misplaced entries n log_at log_len metadata bat) (is_misplaced entries n log_at log_len bat metadata) (nat_lt bat.index metadata.index) ok.0 in
        let first = tested entries n log_at log_len metadata bat two.0 in
        let second = tested entries n log_at log_len bat metadata two.1 in
        record {
          longer = λ m l.
              let again : misplaced_region entries m log_at log_len bat metadata ≡ None =
              none_again (is_misplaced entries m log_at log_len metadata bat) (is_misplaced entries m log_at log_len bat metadata) (nat_lt bat.index metadata.index) (first.longer m l) (second.longer m l) in
              rw (eu, eb, ec, again) (ap Ok ok.1);
          placed = subst (AreInPlace n log_at log_len) ok.1 (record { table = first.placed; metadata = second.placed; apart = first.beside });
        }

-- ---- the numbers

-- what is known of the numbers of a file of n bytes
pub record AreNumbers (n : ℕ) (parts : Parts) : Type 0 where
  pub table : IsInPlace n parts.header.log_at parts.header.log_len parts.bat_at parts.bat_len
  pub metadata : IsInPlace n parts.header.log_at parts.header.log_len parts.meta_at parts.meta_len
  pub apart : overlaps parts.bat_at parts.bat_len parts.meta_at parts.meta_len ≡ false

pub record IsRead (header : Header) (old : List ℕ) (parts : Parts) : Type 0 where
  pub regions : Regions
  pub are : read_regions (bytes_at old 196608 131072) (length old) header.log_at header.log_len ≡ Ok regions
  pub rest : (read_metadata (metadata_region old regions) regions.bat_len >>= λ metadata. served_sectors metadata >>= λ served. Ok (parts_of header regions served)) ≡ Ok parts

pub of_bind : {A B : Type 0} (r : Result A BrokenRule) (f : A → Result B BrokenRule) (y : B) → (r >>= f) ≡ Ok y → (x : A) × (r ≡ Ok x) × (f x ≡ Ok y)
of_bind (Ok x) f y h = (x, refl, h)
of_bind (Err rule) f y h = cc

pub is_read : (header : Header) (old : List ℕ) (parts : Parts) → read_parts header old ≡ Ok parts → IsRead header old parts
unfolding read_parts
is_read header old parts h =
    let b = of_bind (read_regions (bytes_at old 196608 131072) (length old) header.log_at header.log_len) (λ regions. read_metadata (metadata_region old regions) regions.bat_len >>= λ metadata. served_sectors metadata >>= λ served. Ok (parts_of header regions served)) parts h in
    record { regions = b.0; are = b.1; rest = b.2 }

record ArePartsOf (header : Header) (r : Regions) (parts : Parts) : Type 0 where
  header_is : parts.header ≡ header
  bat_at : parts.bat_at ≡ r.bat_at
  bat_len : parts.bat_len ≡ r.bat_len
  meta_at : parts.meta_at ≡ r.meta_at
  meta_len : parts.meta_len ≡ r.meta_len

parts_are : (header : Header) (old : List ℕ) (parts : Parts) (d : IsRead header old parts) → ArePartsOf header d.regions parts
unfolding parts_of
parts_are header old parts d =
    let b = of_bind (read_metadata (metadata_region old d.regions) d.regions.bat_len) (λ metadata. served_sectors metadata >>= λ served. Ok (parts_of header d.regions served)) parts d.rest in
    let c = of_bind (served_sectors b.0) (λ served. Ok (parts_of header d.regions served)) parts b.2 in
    let e : parts_of header d.regions c.0 ≡ parts = cc in
    record { header_is = ap (λ (p : Parts). p.header) (sym e); bat_at = ap (λ (p : Parts). p.bat_at) (sym e); bat_len = ap (λ (p : Parts). p.bat_len) (sym e); meta_at = ap (λ (p : Parts). p.meta_at) (sym e); meta_len = ap (λ (p : Parts). p.meta_len) (sym e) }

placed_regions : (header : Header) (old : List ℕ) (regions : Regions) → read_regions (bytes_at old 196608 131072) (length old) header.log_at header.log_len ≡ Ok regions
    → (table : List ℕ) × (region_table (bytes_at old 196608 131072) ≡ Some table) × ReadsLonger (region_entries table) (length old) header.log_at header.log_len regions
unfolding read_regions
placed_regions header old regions h = by_table (region_table (bytes_at old 196608 131072)) refl h
  where
    by_table : (t : Option (List ℕ)) → region_table (bytes_at old 196608 131072) ≡ t → (ok_or t NoRegionTable >>= λ table. regions_in (region_entries table) (length old) header.log_at header.log_len) ≡ Ok regions
        → (table : List ℕ) × (region_table (bytes_at old 196608 131072) ≡ Some table) × ReadsLonger (region_entries table) (length old) header.log_at header.log_len regions
    by_table None e k = cc
    by_table (Some table) e k = (table, e, regions_longer (region_entries table) (length old) header.log_at header.log_len regions k)

in_place_as : (n la ll at len ma ml to more : ℕ) → ma ≡ la → ml ≡ ll → to ≡ at → more ≡ len → IsInPlace n la ll at len → IsInPlace n ma ml to more
in_place_as n la ll at len ma ml to more e f g h p = rw (e, f, g, h) p

apart_as : (a n b m c k d l : ℕ) → c ≡ a → k ≡ n → d ≡ b → l ≡ m → overlaps a n b m ≡ false → overlaps c k d l ≡ false
apart_as a n b m c k d l e f g h p = rw (e, f, g, h) p

pub are_numbers : (header : Header) (old : List ℕ) (parts : Parts) → read_parts header old ≡ Ok parts → AreNumbers (length old) parts × (parts.header ≡ header)
are_numbers header old parts h =
    let d = is_read header old parts h in
    let p = parts_are header old parts d in
    let q = placed_regions header old d.regions d.are in
    let placed = q.2.placed in (
      record {
        table = in_place_as _ _ _ _ _ _ _ _ _ (ap (λ (x : Header). x.log_at) p.header_is) (ap (λ (x : Header). x.log_len) p.header_is) p.bat_at p.bat_len placed.table;
        metadata = in_place_as _ _ _ _ _ _ _ _ _ (ap (λ (x : Header). x.log_at) p.header_is) (ap (λ (x : Header). x.log_len) p.header_is) p.meta_at p.meta_len placed.metadata;
        apart = apart_as _ _ _ _ _ _ _ _ p.bat_at p.bat_len p.meta_at p.meta_len placed.apart;
      },
      p.header_is,
    )

-- a longer file with the same region tables and the same metadata has these numbers
pub same_numbers : (header : Header) (old new : List ℕ) (parts : Parts) → read_parts header old ≡ Ok parts → length old ≤ length new
    → bytes_at new 196608 131072 ≡ bytes_at old 196608 131072 → bytes_at new parts.meta_at parts.meta_len ≡ bytes_at old parts.meta_at parts.meta_len → read_parts header new ≡ Ok parts
unfolding read_parts read_regions
same_numbers header old new parts h longer tables metadata =
    let d = is_read header old parts h in
    let p = parts_are header old parts d in
    let q = placed_regions header old d.regions d.are in
    let region : metadata_region new d.regions ≡ metadata_region old d.regions = rw (sym p.meta_at, sym p.meta_len) metadata in
    let again : read_regions (bytes_at new 196608 131072) (length new) header.log_at header.log_len ≡ Ok d.regions =
    ap (λ (z : List ℕ). ok_or (region_table z) NoRegionTable >>= λ table. regions_in (region_entries table) (length new) header.log_at header.log_len) tables
    ∙ ap (λ (t : Option (List ℕ)). ok_or t NoRegionTable >>= λ table. regions_in (region_entries table) (length new) header.log_at header.log_len) q.1
    ∙ q.2.longer (length new) longer in
    ap (λ (r : Result Regions BrokenRule). r >>= λ regions. read_metadata (metadata_region new regions) regions.bat_len >>= λ metadata. served_sectors metadata >>= λ served. Ok (parts_of header regions served)) again
    ∙ ap (λ (z : List ℕ). read_metadata z d.regions.bat_len >>= λ metadata. served_sectors metadata >>= λ served. Ok (parts_of header d.regions served)) region
    ∙ d.rest

-- ---- the metadata read otherwise

-- the numbers with another locator and another retired name
abbrev pub named_as : Option (List ℕ) → Option (List ℕ) → Parts → Parts
named_as locator retired parts = record parts { locator = locator; retired = retired }

-- the metadata's region is whole megabytes, behind the first
pub metadata_low : (parts : Parts) (old : List ℕ) → read_parts parts.header old ≡ Ok parts → megabyte ≤ parts.meta_at
metadata_low parts old numbers = leb-true megabyte parts.meta_at (and_parts _ _ (are_numbers parts.header old parts numbers).0.metadata.whole_at).1

-- metadata of the same sectors are served where the others are
served_too : (m n served : Metadata) → n.logical ≡ m.logical → served_sectors m ≡ Ok served → (served ≡ m) × (served_sectors n ≡ Ok n)
served_too m n served e h = by_size (m.logical == sector_size) refl h
  where
    by_size : (b : Bool) → (m.logical == sector_size) ≡ b → unless (not b) (SectorSize m.logical) (Ok m) ≡ Ok served → (served ≡ m) × (served_sectors n ≡ Ok n)
    by_size false f k = cc
    by_size true f k = (let g : served ≡ m = cc in g, let g : (n.logical == sector_size) ≡ true = ap (λ k. k == sector_size) e ∙ f in rw g refl)

record ReadsItems (header : Header) (regions : Regions) (parts : Parts) (read : Result Metadata BrokenRule) : Type 0 where
  m : Metadata
  is : read ≡ Ok m
  served : (n : Metadata) → n.logical ≡ m.logical → served_sectors n ≡ Ok n
  parts_is : parts_of header regions m ≡ parts

reads_items : (header : Header) (old : List ℕ) (parts : Parts) (d : IsRead header old parts) → ReadsItems header d.regions parts (read_metadata (metadata_region old d.regions) d.regions.bat_len)
reads_items header old parts d =
    let b = of_bind (read_metadata (metadata_region old d.regions) d.regions.bat_len) (λ metadata. served_sectors metadata >>= λ served. Ok (parts_of header d.regions served)) parts d.rest in
    let c = of_bind (served_sectors b.0) (λ served. Ok (parts_of header d.regions served)) parts b.2 in
    let s = served_too b.0 b.0 c.0 refl c.1 in
    let e : parts_of header d.regions c.0 ≡ parts = cc in
    record { m = b.0; is = b.1; served = λ n same. (served_too b.0 n c.0 same c.1).1; parts_is = ap (parts_of header d.regions) (sym s.0) ∙ e }

region_of : (header : Header) (old : List ℕ) (parts : Parts) (d : IsRead header old parts) (file : List ℕ) → read_metadata (metadata_region file d.regions) d.regions.bat_len ≡ read_metadata (bytes_at file parts.meta_at parts.meta_len) parts.bat_len
region_of header old parts d file = let p = parts_are header old parts d in rw (p.meta_at, p.meta_len, p.bat_len) refl

-- the metadata are read
pub metadata_read : (header : Header) (old : List ℕ) (parts : Parts) → read_parts header old ≡ Ok parts → (m : Metadata) × (read_metadata (bytes_at old parts.meta_at parts.meta_len) parts.bat_len ≡ Ok m)
metadata_read header old parts h =
    let d = is_read header old parts h in
    let r = reads_items header old parts d in
    (r.m, sym (region_of header old parts d old) ∙ r.is)

-- what the metadata say of locator and retired name is the numbers'
pub items_read : (header : Header) (old : List ℕ) (parts : Parts) (m : Metadata) → read_parts header old ≡ Ok parts → read_metadata (bytes_at old parts.meta_at parts.meta_len) parts.bat_len ≡ Ok m → (m.locator ≡ parts.locator) × (m.retired ≡ parts.retired)
unfolding parts_of
items_read header old parts m h e =
    let d = is_read header old parts h in
    let r = reads_items header old parts d in
    let same : Ok r.m ≡ Ok m = sym r.is ∙ region_of header old parts d old ∙ e in
    let one : r.m ≡ m = cc in
    (ap (λ (x : Metadata). x.locator) (sym one) ∙ ap (λ (q : Parts). q.locator) r.parts_is, ap (λ (x : Metadata). x.retired) (sym one) ∙ ap (λ (q : Parts). q.retired) r.parts_is)

-- a longer file with the same region tables, whose metadata are read with another locator and another retired name
pub turned_numbers : (header : Header) (old new : List ℕ) (parts : Parts) (locator retired : Option (List ℕ)) → read_parts header old ≡ Ok parts → length old ≤ length new → bytes_at new 196608 131072 ≡ bytes_at old 196608 131072
    → ((m : Metadata) → read_metadata (bytes_at old parts.meta_at parts.meta_len) parts.bat_len ≡ Ok m → read_metadata (bytes_at new parts.meta_at parts.meta_len) parts.bat_len ≡ Ok (record m { locator = locator; retired = retired }))
    → read_parts header new ≡ Ok (named_as locator retired parts)
unfolding read_parts read_regions parts_of
turned_numbers header old new parts locator retired h longer tables reads =
    let d = is_read header old parts h in
    let q = placed_regions header old d.regions d.are in
    let r = reads_items header old parts d in
    let again : read_regions (bytes_at new 196608 131072) (length new) header.log_at header.log_len ≡ Ok d.regions =
    ap (λ (z : List ℕ). ok_or (region_table z) NoRegionTable >>= λ table. regions_in (region_entries table) (length new) header.log_at header.log_len) tables
    ∙ ap (λ (t : Option (List ℕ)). ok_or t NoRegionTable >>= λ table. regions_in (region_entries table) (length new) header.log_at header.log_len) q.1
    ∙ q.2.longer (length new) longer in
    let n : Metadata = record (r.m) { locator = locator; retired = retired } in
    let now : read_metadata (metadata_region new d.regions) d.regions.bat_len ≡ Ok n = region_of header old parts d new ∙ reads r.m (sym (region_of header old parts d old) ∙ r.is) in
    ap (λ (x : Result Regions BrokenRule). x >>= λ regions. read_metadata (metadata_region new regions) regions.bat_len >>= λ metadata. served_sectors metadata >>= λ served. Ok (parts_of header regions served)) again
    ∙ ap (λ (x : Result Metadata BrokenRule). x >>= λ metadata. served_sectors metadata >>= λ served. Ok (parts_of header d.regions served)) now
    ∙ ap (λ (x : Result Metadata BrokenRule). x >>= λ served. Ok (parts_of header d.regions served)) (r.served n refl)
    ∙ ap (λ (x : Parts). (let y : Result Parts BrokenRule = Ok (named_as locator retired x) in y)) r.parts_is
