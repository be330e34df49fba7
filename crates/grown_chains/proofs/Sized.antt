-- The sizes of a disk whose numbers are read.
use Rattle.std.proofs.Common.{◌≡◌, ℕ, ◌/◌, ◌^◌, ◌==◌, not, ◌≤◌, Bool, true, false, List, Option, Some, None, Result, Ok, Err, length, refl, sym, ap, subst, ◌∙◌, arith}
use Rattle.std.specs.Prelude.{find}
use Rattle.std.proofs.lemmas.Bool.{eqb-true}
use Rattle.vx_base.specs.declared.parts.Geometry.{Geometry}
use Rattle.vx_base.specs.declared.parts.Header.{Header}
use Rattle.vx_base.specs.declared.parts.Parts.{Parts}
use Rattle.vhdx_format.specs.declared.metadata.Item.{Item}
use Rattle.vhdx_format.specs.declared.metadata.Metadata.{Metadata}
use Rattle.vhdx_format.specs.declared.regions.Regions.{Regions}
use Rattle.vhdx_format.specs.FileParts.{parts_of, read_parts}
use Rattle.vhdx_format.specs.MetadataTables.{HasDiskSizes, is_bad_item, known_items, metadata_of, metadata_region, metadata_table, missing_item, read_entries, read_items, read_metadata, served_sectors}
use Rattle.vhdx_format.specs.Rules.{BadItem, BrokenRule, MissingItem, SectorSize, unless, unless_some, ◌>>=◌}
use Rattle.vhdx_format.proofs.MetadataLaws.{sizes_of}
use Rattle.layer_session.proofs.Numbers.{is_read, of_bind}

-- sectors of 512 bytes, and at most 64 TB of them
pub record IsSized (geometry : Geometry) : Type 0 where
  pub sector : geometry.sector ≡ 512
  pub some : 1 ≤ geometry.sectors
  pub most : geometry.sectors ≤ 2 ^ 37

same_metadata : (a b : Metadata) → (let r : Result Metadata BrokenRule = Ok a in r) ≡ Ok b → a ≡ b
same_metadata a b e = cc

same_parts : (a b : Parts) → (let r : Result Parts BrokenRule = Ok a in r) ≡ Ok b → a ≡ b
same_parts a b e = cc

items_sized : (items : List Item) (bat_len : ℕ) (m : Metadata) → read_items items bat_len ≡ Ok m → HasDiskSizes bat_len m
unfolding read_items
items_sized items bat_len m h = by_finds (missing_item items) (find (is_bad_item items bat_len) items) refl refl h
  where
    by_finds : (a : Option (List ℕ)) (b : Option Item) → missing_item items ≡ a → find (is_bad_item items bat_len) items ≡ b
        → unless_some a MissingItem (unless_some b (λ item. BadItem item.id) (Ok (metadata_of items))) ≡ Ok m → HasDiskSizes bat_len m
    by_finds None None e f k = subst (HasDiskSizes bat_len) (same_metadata (metadata_of items) m k) (sizes_of items bat_len e f)
    by_finds None (Some item) e f k = cc
    by_finds (Some id) None e f k = cc
    by_finds (Some id) (Some item) e f k = cc

metadata_sized : (region : List ℕ) (bat_len : ℕ) (m : Metadata) → read_metadata region bat_len ≡ Ok m → HasDiskSizes bat_len m
unfolding read_metadata
metadata_sized region bat_len m h =
    let b = of_bind (read_entries (metadata_table region) (length region)) (λ entries. read_items (known_items region entries) bat_len) m h in
    items_sized (known_items region b.0) bat_len m b.2

served_is : (m served : Metadata) → served_sectors m ≡ Ok served → (served ≡ m) × (m.logical ≡ 512)
served_is m served h = by_size (m.logical == 512) refl h
  where
    by_size : (b : Bool) → (m.logical == 512) ≡ b → unless (not b) (SectorSize m.logical) (Ok m) ≡ Ok served → (served ≡ m) × (m.logical ≡ 512)
    by_size false e k = cc
    by_size true e k = (sym (same_metadata m served k), eqb-true m.logical 512 e)

sized_of : (header : Header) (r : Regions) (m : Metadata) → HasDiskSizes r.bat_len m → m.logical ≡ 512 → IsSized (parts_of header r m).geometry
unfolding parts_of
sized_of header r m sizes logical = record {
  sector = logical;
  some = subst (λ n. 1 ≤ m.size / n) (sym logical) (omega (arith, sizes.one_sector, logical));
  most = subst (λ n. m.size / n ≤ 2 ^ 37) (sym logical) (omega (arith, sizes.most));
}

pub read_sized : (header : Header) (bytes : List ℕ) (parts : Parts) → read_parts header bytes ≡ Ok parts → IsSized parts.geometry
read_sized header bytes parts h =
    let d = is_read header bytes parts h in
    let b =
    of_bind (read_metadata (metadata_region bytes d.regions) d.regions.bat_len) (λ metadata. served_sectors metadata >>= λ served. Ok (parts_of header d.regions served)) parts
    d.rest in
    let c = of_bind (served_sectors b.0) (λ served. Ok (parts_of header d.regions served)) parts b.2 in
    let s = served_is b.0 c.0 c.1 in
    let is : parts_of header d.regions b.0 ≡ parts = ap (parts_of header d.regions) (sym s.0) ∙ same_parts (parts_of header d.regions c.0) parts c.2 in
    subst (λ (p : Parts). IsSized p.geometry) is (sized_of header d.regions b.0 (metadata_sized (metadata_region bytes d.regions) d.regions.bat_len b.0 b.1) s.1)
