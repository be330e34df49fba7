-- Images in which nothing that a crash tore passes for whole.
use Rattle.std.specs.Prelude.{◌≡◌, ◌⊎◌, ◌<◌, ◌≤◌, ℕ, ◌+◌, ◌*◌, true, List, [], ◌∷◌, length, Ok}
use Rattle.store_model.specs.Bytes.{bytes_at, written_over, extended}
use Rattle.store_model.specs.File.{Op, Write, Tear, Grow, Sync, Seal, File, seen_after, IsFileImage}
use Rattle.store_model.specs.Places.{IsWrittenAfter}
use Rattle.store_model.specs.Trace.{Trace, ChangesFile}
use Rattle.vx_base.specs.declared.parts.Header.{Header}
use Rattle.vhdx_format.specs.FileParts.{read_head}
use Rattle.vhdx_format.specs.Headers.{header_place, is_valid_header}
use Rattle.vhdx_format.specs.Logs.{Entry, HoldsEntry, ring_bytes}
use Rattle.vhdx_format.specs.RegionTables.{is_valid_region_table}
use Rattle.vhdx_format.specs.SettledFiles.{ring_of}
use Rattle.vhdx_format.specs.TornWrites.{InSpan}

-- ---- what was meant

-- P of what a read gives, each write since the last sync that failed being taken as done in full, or as not done
abbrev pub AsMeant : (List ℕ → Type 0) → List ℕ → List Op → Type 0
AsMeant P attached [] = P attached
AsMeant P attached (Write at bytes ∷ older) = AsMeant (λ file. P (written_over file at bytes)) attached older
AsMeant P attached (Tear at meant left ∷ older) = AsMeant P attached older ⊎ AsMeant (λ file. P (written_over file at meant)) attached older
AsMeant P attached (Grow len ∷ older) = AsMeant (λ file. P (extended file len)) attached older
AsMeant P attached (Sync ∷ older) = P (seen_after attached older)
AsMeant P attached (Seal ∷ older) = AsMeant P attached older

-- so it was at some moment since the last sync, that of the sync included
abbrev pub WasMeantSince : (List ℕ → Type 0) → List ℕ → List Op → Type 0
WasMeantSince P attached [] = P attached
WasMeantSince P attached (Write at bytes ∷ older) = AsMeant P attached (Write at bytes ∷ older) ⊎ WasMeantSince P attached older
WasMeantSince P attached (Tear at meant left ∷ older) = AsMeant P attached (Tear at meant left ∷ older) ⊎ WasMeantSince P attached older
WasMeantSince P attached (Grow len ∷ older) = AsMeant P attached (Grow len ∷ older) ⊎ WasMeantSince P attached older
WasMeantSince P attached (Sync ∷ older) = P (seen_after attached older)
WasMeantSince P attached (Seal ∷ older) = WasMeantSince P attached older

abbrev pub WasMeant : (List ℕ → Type 0) → File → Type 0
WasMeant P file = WasMeantSince P file.attached file.ops

-- ---- what a write touches

-- a write since the last sync, done or failed, touches the n bytes of the file from `at` on
abbrev pub IsTouched : File → ℕ → ℕ → Type 0
IsTouched file at n = (i : ℕ) × (at ≤ i) × (i < at + n) × IsWrittenAfter file.ops i

-- and so it is with the entry in the ring of `len` bytes at `log` in the file
abbrev pub IsEntryTouched : File → ℕ → ℕ → Entry → Type 0
IsEntryTouched file log len e = (i : ℕ) × (i < len) × InSpan len e.at (length e.bytes) i × IsWrittenAfter file.ops (log + i)

-- ---- no torn match

-- where in the file a copy of the region table stands, copy 1 or 2, of 64 KB each
abbrev pub region_place : ℕ → ℕ
region_place copy = 131072 + 65536 * copy

-- the ring of the log that the header names
abbrev pub ring_in : Header → List ℕ → List ℕ
ring_in header bytes = ring_of header.log_at header.log_len bytes

-- The n bytes of the image from `at` on, where a write since the last sync touches them, are what was meant to stand there at
-- some moment since, in full.
abbrev pub IsWholeFrom : File → List ℕ → ℕ → ℕ → Type 0
IsWholeFrom file image at n = IsTouched file at n → WasMeant (λ meant. bytes_at meant at n ≡ bytes_at image at n) file

-- No torn match: each copy of the header and of the region table that is valid in the image, and each entry that the log of its
-- current header holds, is whole.
pub record HasNoTornMatch (file : File) (image : List ℕ) : Type 0 where
  pub headers : (copy : ℕ) → 1 ≤ copy → copy ≤ 2 → is_valid_header (bytes_at image (header_place copy) 4096) ≡ true
      → IsWholeFrom file image (header_place copy) 4096
  pub regions : (copy : ℕ) → 1 ≤ copy → copy ≤ 2 → is_valid_region_table (bytes_at image (region_place copy) 65536) ≡ true
      → IsWholeFrom file image (region_place copy) 65536
  pub entries : (header : Header) (e : Entry) → read_head image ≡ Ok header → HoldsEntry header.log_at header.log (ring_in header image) e
      → IsEntryTouched file header.log_at header.log_len e → WasMeant (λ meant. ring_bytes (ring_in header meant) e.at (length e.bytes) ≡ e.bytes) file

-- each of the file's images without a torn match has P
abbrev pub EachUntorn : (List ℕ → Type 0) → File → Type 0
EachUntorn P file = (image : List ℕ) → IsFileImage file image → HasNoTornMatch file image → P image

-- From old to new only this file is changed, and at each moment each of its images without a torn match has P.
abbrev pub ChangesUntorn : ℕ → (List ℕ → Type 0) → Trace → Trace → Type 0
ChangesUntorn file P old new = ChangesFile file (EachUntorn P) old new
