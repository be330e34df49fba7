-- Where sectors of a file are.
use Rattle.std.proofs.Common.{◌≡◌, ℕ, ◌+◌, ◌-◌, ◌*◌, ◌%◌, ◌<◌, ◌≤◌, ◌==◌, Bool, true, false, if◌then◌else◌, List, length, Some, None, sym, ap, subst, ◌∙◌, arith}
use Rattle.std.specs.Prelude.{Result, Ok, Err, IfOk}
use Rattle.vx_base.specs.Fields.{bytes_at}
use Rattle.vhdx_format.specs.Layers.{sector_bit}
use Rattle.vhdx_format.specs.SectorBitmaps.{bit_of, bit_value}
use Rattle.store_model.specs.Disk.{Disk}
use Rattle.store_model.specs.File.{seen}
use Rattle.store_model.specs.Trace.{Trace, file_of}
use Rattle.store_model.specs.declared.fault.StoreFault.{StoreFault}
use Rattle.vhdx_format.specs.declared.log_entry.Page.{Page}
use Rattle.table_pages.specs.declared.tables.TableParts.{TableParts}
use Rattle.table_pages.specs.declared.tables.Tables.{Tables}
use Rattle.table_pages.specs.Held.{AreBits, HasTables, held, shape_of}
use Rattle.chain_model.specs.Layers as chain
use Rattle.layer_session.specs.Keeping.{IsPartAt}
use Rattle.layer_session.specs.Locating.{AreLocated, AreLocatedBy, AreLocatedIn, IsAtPlace}
use Rattle.layer_session.specs.Reading.{AreStored, layer_by}
use Rattle.layer_session.specs.TablesRead.{HasRead}
use Rattle.layer_session.specs.declared.locating.Located.{Located}
use Rattle.layer_session.specs.declared.locating.Whereabouts.{Whereabouts}
use Rattle.layer_session.specs.declared.locating.Whereabouts.TheVariants.{Here, Absent, Zeros}
use Rattle.layer_session.specs.declared.read_layer.ReadLayer.{ReadLayer}
use Rattle.vhdx_format.specs.Layers.{layer_sector}
use Rattle.layer_session.proofs.Owned.{rows}
use Rattle.layer_session.proofs.Parted.{part_sector, part_within}
use Rattle.layer_session.proofs.Readable.{layer_is}
use Rattle.layer_session.proofs.ReadOnly.{read_holds}

-- where bits tell it, of a run of them that are alike
module _ (parts : TableParts) (file held : List ℕ) (sizes : HasTables parts) (stored : AreStored (shape_of parts) file held) (first count : ℕ) (on_disk : first + count ≤ parts.sectors)
    (run : first * parts.sector % parts.block + count * parts.sector ≤ parts.block) (place : ℕ) (part : IsPartAt (shape_of parts) held first count place) (some : 0 < count)
    (bits : List ℕ) (are : AreBits parts held (first - first % 8) bits) (n : ℕ) (few : n ≤ count) (inside : first % 8 + n ≤ 8 * length bits) where
  abbrev layer : chain.Layer
  layer s = layer_sector (shape_of parts) held s

  bit_is : (on : Bool) → ((i : ℕ) → first % 8 ≤ i → i < first % 8 + n → bit_of bits i ≡ bit_value on) → (i : ℕ) → i < n → sector_bit (shape_of parts) held (first + i) ≡ bit_value on
  bit_is on same i h =
      let told : bit_of bits (first % 8 + i) ≡ sector_bit (shape_of parts) held (first + i) =
      are (first % 8 + i) (omega (arith, h, inside)) ∙ ap (sector_bit (shape_of parts) held) (let e : first - first % 8 + (first % 8 + i) ≡ first + i = omega arith in e) in
      sym told ∙ same (first % 8 + i) (omega arith) (omega (arith, h))

  by_bit : (on : Bool) → ((i : ℕ) → first % 8 ≤ i → i < first % 8 + n → bit_of bits i ≡ bit_value on) → (i : ℕ) → i < n → layer (first + i) ≡ (if bit_value on == 1 then Some (bytes_at file (place + parts.sector * i) parts.sector) else None)
  by_bit on same i h =
      part_sector parts file held sizes stored first count on_disk run place part some i (omega (arith, h, few))
      ∙ ap (λ v. if v == 1 then Some (bytes_at file (place + parts.sector * i) parts.sector) else None) (bit_is on same i h)

  pub part_located : (on : Bool) (at : Whereabouts) → ((i : ℕ) → first % 8 ≤ i → i < first % 8 + n → bit_of bits i ≡ bit_value on) → IsAtPlace on place at → AreLocated layer file parts.sector first n at
  part_located true at same is =
      subst (AreLocated layer file parts.sector first n) (sym is)
      (let r = rows parts.sector n count few in let w = part_within parts file held sizes stored first count on_disk run place part some in omega (arith, r, w), λ i h. by_bit true same i h)
  part_located false at same is = subst (AreLocated layer file parts.sector first n) (sym is) (λ i h. by_bit false same i h)

-- by tables that were read
pub located_again : (old new : Tables) (disk : Disk) → HasRead old new disk → (trace : Trace) (first count : ℕ) (at : Whereabouts)
    → AreLocated (layer_by new trace) (seen (file_of trace new.parts.file)) new.parts.sector first count at → AreLocated (layer_by old trace) (seen (file_of trace old.parts.file)) old.parts.sector first count at
located_again old new disk reads trace first count at h =
    subst (λ (t : TableParts). AreLocated (λ s. layer_sector (shape_of t) (held old.pending (seen (file_of trace t.file))) s) (seen (file_of trace t.file)) t.sector first count at) reads.as_held.parts_are
    (subst (λ (x : List Page). AreLocated (λ s. layer_sector (shape_of new.parts) (held x (seen (file_of trace new.parts.file))) s) (seen (file_of trace new.parts.file)) new.parts.sector first count at) reads.as_held.unchanged h)

pub located_then : (old new : Tables) (disk after : Disk) → HasRead old new disk → after ≡ disk → (first : ℕ) (result : Result Located StoreFault) → IfOk result (AreLocatedBy new after first) → IfOk result (AreLocatedBy old disk first)
located_then old new disk after reads stays first (Ok found) h = λ trace told. located_again old new disk reads trace first found.count found.at (h trace (ap (λ (d : Disk). d.told) stays ∙ told))
located_then old new disk after reads stays first (Err fault) h = h

-- of a layer that is the same there
located_alike : (l k : chain.Layer) (file : List ℕ) (z first count : ℕ) (at : Whereabouts) → ((i : ℕ) → i < count → l (first + i) ≡ k (first + i)) → AreLocated k file z first count at → AreLocated l file z first count at
located_alike l k file z first count (Here place) same h = (h.0, λ i below. same i below ∙ h.1 i below)
located_alike l k file z first count Zeros same h = λ i below. same i below ∙ h i below
located_alike l k file z first count Absent same h = λ i below. same i below ∙ h i below

-- of the file that a layer reads
pub read_located : (l : ReadLayer) (disk : Disk) (first count : ℕ) (result : Result Located StoreFault) → first + count ≤ l.tables.parts.sectors → IfOk result (λ found. found.count ≤ count) → IfOk result (AreLocatedBy l.tables disk first)
    → IfOk result (AreLocatedIn l disk first)
read_located l disk first count (Ok found) on_disk most h =
    λ file trace told r.
    located_alike file.member.layer (layer_by l.tables trace) (seen (file_of trace l.tables.parts.file)) l.tables.parts.sector first found.count found.at
    (λ i below. layer_is l.tables r.parts file.member.layer (seen (file_of trace l.tables.parts.file)) (read_holds l trace file r) (first + i) (omega (arith, below, most, on_disk))) (h trace told)
read_located l disk first count (Err fault) on_disk most h = h
