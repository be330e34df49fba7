-- Runs of sectors, read one after the other: what is asked for the first of them, and then for those behind it.
use Rattle.std.proofs.Common.{◌≡◌, ◌≢◌, ℕ, ◌+◌, ◌-◌, ◌*◌, ◌/◌, ◌%◌, ◌^◌, ◌<◌, ◌≤◌, true, Fits, w64, List, ◌++◌, length, sym, ap, subst, ◌∙◌, arith}
use Rattle.std.specs.Int.{div_ceil}
use Rattle.std.specs.Prelude.{min}
use Rattle.std.proofs.lemmas.List.{length-append}
use Rattle.store_model.specs.Disk.{Disk, WhereTold}
use Rattle.store_model.specs.File.{seen}
use Rattle.store_model.specs.Trace.{file_of}
use Rattle.table_pages.specs.declared.tables.TableParts.{TableParts}
use Rattle.table_pages.specs.declared.tables.Tables.{Tables}
use Rattle.table_pages.specs.Held.{HasBitmap, IsAsHeld, KeepsWithinTables, bitmap_place, held_file}
use Rattle.chain_model.specs.Layers as chain
use Rattle.layer_session.specs.ByTables.{WhereHeld}
use Rattle.layer_session.specs.Calls.{AddsOwned}
use Rattle.layer_session.specs.Keeping.{IsPartAt}
use Rattle.layer_session.specs.Runs.{HaveOneBitmap, SectorsAreReadable, SectorsFit}
use Rattle.layer_session.specs.TablesRead.{AreBitsThere, AreReadable, HasRead}
use Rattle.layer_session.proofs.Handing.{few_rows}
use Rattle.layer_session.proofs.Owned.{adds_none, rest_long}
use Rattle.layer_session.proofs.Parted.{part_again, part_front, part_rest, stored_again}
use Rattle.layer_session.proofs.Planned.{bits_reads, bits_there_again, has_bitmap, read_again, same_bitmap}

-- ---- numbers

-- no number of sectors but none
pub not_none : (n : ℕ) → n ≢ 0 → 0 < n
not_none n h = omega (arith, h)

pub rest_smaller : (len count n : ℕ) → count ≡ n → 0 < len → len ≤ count → count - len < n
rest_smaller len count n is some few = omega (arith, is, some, few)

pub end_at : (at len count : ℕ) → len ≤ count → at + count < 2 ^ 64 → Fits w64 (at + len)
end_at at len count few ends = omega (arith, few, ends)

fewer_end : (at len count : ℕ) → len ≤ count → at + count < 2 ^ 64 → at + len < 2 ^ 64
fewer_end at len count few ends = omega (arith, few, ends)

pub rest_rows : (at len count most : ℕ) → len ≤ count → at + count ≤ most → at + len + (count - len) ≤ most
rest_rows at len count most few inside = omega (arith, few, inside)

pub rest_end : (at len count : ℕ) → len ≤ count → at + count < 2 ^ 64 → at + len + (count - len) < 2 ^ 64
rest_end at len count few ends = omega (arith, few, ends)

parted : (total front long back : ℕ) → total ≡ long + back → long ≡ front → front + back ≡ total
parted total front long back both is = omega (arith, both, is)

some_more : (len count : ℕ) → len ≤ count → 0 < len → 0 < count
some_more len count few some = omega (arith, few, some)

rest_more : (len count : ℕ) → 0 < count - len → 0 < count
rest_more len count more = omega (arith, more)

rest_less : (len count : ℕ) → 0 < count - len → len < count
rest_less len count more = omega (arith, more)

rest_chunk : (first len count : ℕ) → len ≤ count → first % 2 ^ 23 + count ≤ 2 ^ 23 → (first + len) % 2 ^ 23 + (count - len) ≤ 2 ^ 23
rest_chunk first len count few chunk = omega (arith, few, chunk)

one_chunk : (first len count : ℕ) → len < count → first % 2 ^ 23 + count ≤ 2 ^ 23 → first / 2 ^ 23 ≡ (first + len) / 2 ^ 23
one_chunk first len count less chunk = omega (arith, less, chunk)

-- ---- none

pub none_added : (l : chain.Layer) (z first count at : ℕ) (m a : List ℕ) → count ≡ 0 → AddsOwned l z first count at m m a a
none_added l z first count at m a e = subst (λ n. AddsOwned l z first n at m m a a) (sym e) (adds_none l z first at m a)

-- ---- the slices that sectors are read into

-- for the first run,
pub fit_front : (count len z : ℕ) (out piece mask : List ℕ) (at : ℕ) → len ≤ count → length piece ≡ z * len → SectorsFit count z out mask at → SectorsFit len z piece mask at
fit_front count len z out piece mask at few front fit = record { bytes = front; bits = few_rows at len count (8 * length mask) few fit.bits; ends = fewer_end at len count few fit.ends }

-- and for those behind it
pub fit_rest : (count len z : ℕ) (out piece rest mask marked : List ℕ) (at : ℕ) → len ≤ count → out ≡ piece ++ rest → length piece ≡ z * len → length marked ≡ length mask → SectorsFit count z out mask at
    → SectorsFit (count - len) z rest marked (at + len)
fit_rest count len z out piece rest mask marked at few whole front same fit = record {
  bytes = rest_long z len count (length out) (length rest) few fit.bytes (parted (length out) (z * len) (length piece) (length rest) (ap length whole ∙ length-append piece rest) front);
  bits = subst (λ n. at + len + (count - len) ≤ 8 * n) (sym same) (rest_rows at len count (8 * length mask) few fit.bits);
  ends = rest_end at len count few fit.ends;
}

-- ---- tables that were read

-- sectors can be read by them again
pub sectors_again : (old new : Tables) (disk after : Disk) → HasRead old new disk → after ≡ disk → SectorsAreReadable old disk → SectorsAreReadable new after
sectors_again old new disk after reads stays h =
    subst (SectorsAreReadable new) (sym stays) (record { tables = read_again old new disk h.tables reads; stored = stored_again old new disk reads h.stored })

-- what is asked for the sectors behind a run that was read
pub record ReadsRest (t : Tables) (disk : Disk) (first count : ℕ) (rest mask : List ℕ) (at : ℕ) : Type 0 where
  pub readable : SectorsAreReadable t disk
  pub on_disk : first + count ≤ t.parts.sectors
  pub room : SectorsFit count t.parts.sector rest mask at

pub reads_rest : (old new : Tables) (disk after : Disk) → HasRead old new disk → after ≡ disk → SectorsAreReadable old disk → (first n count : ℕ) (out piece rest mask marked : List ℕ) (at : ℕ)
    → n ≤ count → first + count ≤ old.parts.sectors → SectorsFit count old.parts.sector out mask at → out ≡ piece ++ rest → length piece ≡ old.parts.sector * n → length marked ≡ length mask
    → ReadsRest new after (first + n) (count - n) rest marked (at + n)
reads_rest old new disk after reads stays readable first n count out piece rest mask marked at few on_disk room whole front same =
    let e : old.parts ≡ new.parts = sym reads.as_held.parts_are in
    record {
      readable = sectors_again old new disk after reads stays readable;
      on_disk = subst (λ (p : TableParts). first + n + (count - n) ≤ p.sectors) e (rest_rows first n count old.parts.sectors few on_disk);
      room = subst (λ (p : TableParts). SectorsFit (count - n) p.sector rest marked (at + n)) e (fit_rest count n old.parts.sector out piece rest mask marked at few whole front same room);
    }

-- ---- the bits of sectors

-- those of the first run have the same sector bitmap block,
pub bitmap_front : (t : Tables) (disk : Disk) (first len count : ℕ) → len ≤ count → HaveOneBitmap t disk first count → HaveOneBitmap t disk first len
bitmap_front t disk first len count few h = record {
  parent = h.parent;
  on_disk = few_rows first len count t.parts.sectors few h.on_disk;
  chunk = few_rows (first % 2 ^ 23) len count (2 ^ 23) few h.chunk;
  bitmap = λ some. h.bitmap (some_more len count few some);
}

-- and so have those behind it
pub bitmap_rest : (old new : Tables) (disk after : Disk) → HasRead old new disk → after ≡ disk → (first len count : ℕ) → len ≤ count → HaveOneBitmap old disk first count → HaveOneBitmap new after (first + len) (count - len)
bitmap_rest old new disk after reads stays first len count few h =
    let e : old.parts ≡ new.parts = sym reads.as_held.parts_are in
    subst (λ (d : Disk). HaveOneBitmap new d (first + len) (count - len)) (sym stays)
    (record {
      parent = subst (λ (p : TableParts). p.parent ≡ true) e h.parent;
      on_disk = subst (λ (p : TableParts). first + len + (count - len) ≤ p.sectors) e (rest_rows first len count old.parts.sectors few h.on_disk);
      chunk = rest_chunk first len count few h.chunk;
      bitmap = λ more.
          bits_there_again old new disk (first + len) reads
          (same_bitmap old disk first (first + len) (one_chunk first len count (rest_less len count more) h.chunk) (h.bitmap (rest_more len count more)));
    })

-- so few that their bits are read at once: from that of a byte's first sector on
module _ (first count len : ℕ) (is : len ≡ min count (2048 - first % 8)) where
  pub once_few : len ≤ count
  once_few = omega (arith, is)

  pub once_some : 0 < count → 0 < len
  once_some some = omega (arith, is, some)

  pub once_bits : first % 8 + len ≤ 2048
  once_bits = omega (arith, is)

pub bytes_few : (first count bytes : ℕ) → bytes ≡ div_ceil (first % 8 + count) 8 → first % 8 + count ≤ 2048 → bytes ≤ 256
bytes_few first count bytes is few = omega (arith, is, few)

pub byte_small : (first : ℕ) → first % 8 ≤ 2048
byte_small first = omega arith

pub byte_before : (first : ℕ) → first % 8 ≤ first
byte_before first = omega arith

pub skip_fits : (first count : ℕ) → first % 8 + count ≤ 2048 → Fits w64 (first % 8 + count)
skip_fits first count few = omega (arith, few)

pub skip_small : (first count : ℕ) → first % 8 + count ≤ 2048 → first % 8 + count < 2 ^ 64
skip_small first count few = omega (arith, few)

pub byte_begins : (first : ℕ) → (first - first % 8) % 8 ≡ 0
byte_begins first = omega arith

pub byte_on_disk : (first count sectors : ℕ) → 0 < count → first + count ≤ sectors → first - first % 8 < sectors
byte_on_disk first count sectors some inside = omega (arith, some, inside)

byte_chunk : (first : ℕ) → first / 2 ^ 23 ≡ (first - first % 8) / 2 ^ 23
byte_chunk first = omega arith

module _ (t : Tables) (disk : Disk) (first count : ℕ) (readable : AreReadable t disk) (some : 0 < count) (h : HaveOneBitmap t disk first count) where
  byte_there : AreBitsThere (first - first % 8) t disk
  byte_there = same_bitmap t disk first (first - first % 8) (byte_chunk first) (h.bitmap some)

  pub bits_asked : HasBitmap (first - first % 8) t disk
  bits_asked = has_bitmap t disk (first - first % 8) readable h.parent (byte_on_disk first count t.parts.sectors some h.on_disk) byte_there

  pub bits_were_read : (new : Tables) → IsAsHeld t new disk → WhereTold disk.told (λ trace. KeepsWithinTables (bitmap_place t.parts (held_file t trace) (first - first % 8)) t new) → HasRead t new disk
  bits_were_read new as_held places = bits_reads t new disk (first - first % 8) readable h.parent (byte_on_disk first count t.parts.sectors some h.on_disk) byte_there as_held places

-- ---- sectors of a partially present block

-- where those of the first run stand,
pub part_first : (t : Tables) (disk : Disk) → SectorsAreReadable t disk → (first n count place : ℕ) → n ≤ count → first + count ≤ t.parts.sectors → 0 < count
    → WhereHeld t disk (λ p file. IsPartAt p file first count place) → WhereHeld t disk (λ p file. IsPartAt p file first n place)
part_first t disk readable first n count place few on_disk some part trace told =
    let here = part trace told in
    part_front t.parts (seen (file_of trace t.parts.file)) (held_file t trace) readable.tables.sizes (readable.stored trace told) first count on_disk here.run place here some n few

-- and those behind it
pub part_behind : (old new : Tables) (disk after : Disk) → HasRead old new disk → after ≡ disk → SectorsAreReadable old disk → (first n count place next : ℕ) → n ≤ count → first + count ≤ old.parts.sectors
    → next ≡ min (place + old.parts.sector * n) (2 ^ 64 - 1) → (0 < count → WhereHeld old disk (λ p file. IsPartAt p file first count place))
    → 0 < count - n → WhereHeld new after (λ p file. IsPartAt p file (first + n) (count - n) next)
part_behind old new disk after reads stays readable first n count place next few on_disk next_is part more =
    let some : 0 < count = rest_more n count more in
    subst (λ (d : Disk). WhereHeld new d (λ p file. IsPartAt p file (first + n) (count - n) next)) (sym stays)
    (part_again old new disk reads (first + n) (count - n) next
    (λ trace told.
    let here = part some trace told in
    part_rest old.parts (seen (file_of trace old.parts.file)) (held_file old trace) readable.tables.sizes (readable.stored trace told) first count on_disk here.run place here some n next few (rest_less n count more) next_is))
