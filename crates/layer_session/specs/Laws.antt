-- What is known of a file that a layer serves.
use Rattle.std.specs.Prelude.{◌≡◌, ℕ, Bool, false, ◌+◌, ◌*◌, ◌^◌, ◌<◌, ◌≤◌, ◌==◌, if◌then◌else◌, List, length, Option, Some, None, unwrap_or}
use Rattle.vx_base.specs.Fields.{bytes_at}
use Rattle.store_model.specs.Disk.{Disk, WhereBothTold}
use Rattle.store_model.specs.File.{Grow, Write, seen}
use Rattle.store_model.specs.Trace.{Trace, file_of, with_change}
use Rattle.table_pages.specs.Held.{held}
use Rattle.block_alloc.specs.Spaces.{Space}
use Rattle.vhdx_format.specs.Fields.{megabyte}
use Rattle.vhdx_format.specs.SectorBitmaps.{bit_of}
use Rattle.chain_model.specs.Images.{Placed}
use Rattle.chain_model.specs.Layers as chain
use Rattle.chain_model.specs.Sessions.{IsKept, ShowsFile}
use Rattle.store_model.specs.File.{IsFileImage}
use Rattle.chain_model.specs.PhaseLaws.{loosened}
use Rattle.layer_session.specs.declared.file.Layer.{Layer}
use Rattle.layer_session.specs.Calls.{AddsOwned, HoldsMember, IsBeside, loose_or_named, own_file, placed_with, with_bytes}
use Rattle.log_write.specs.Writing.{CommitsAll}
use Rattle.layer_session.specs.Keeping.{IsNobodys, IsPlaced, IsReadable, IsReady, Serves}
use Rattle.layer_session.specs.Steps.{StandFrom}

-- each image shows the file
abbrev pub LayersAreKept : Type 0
LayersAreKept = (l : Layer) (trace : Trace) (file : Placed) → Serves l trace file → IsKept trace file

-- What a layer serves, by itself.
pub record LayersStand : Type 0 where
  -- the file is the one that the layer names, with the layer's sizes
  pub number : (l : Layer) (trace : Trace) (file : Placed) → Serves l trace file → file.number ≡ own_file l
  pub sector : (l : Layer) (trace : Trace) (file : Placed) → Serves l trace file → file.member.ties.geometry.sector ≡ l.tables.parts.sector
  pub sectors : (l : Layer) (trace : Trace) (file : Placed) → Serves l trace file → file.member.ties.geometry.sectors ≡ l.tables.parts.sectors
  -- as held it is the file's member
  pub held : (l : Layer) (trace : Trace) (file : Placed) → Serves l trace file → HoldsMember l trace file.member
  -- more of it may be taken as loose
  pub looser : (l : Layer) (trace : Trace) (file : Placed) (more : ℕ → Bool) → Serves l trace file → ((s : ℕ) → more s ≡ false → file.is_loose s ≡ false) → Serves l trace (loosened more file)
  -- it hangs on its own file and on the files' names alone
  pub beside : (l : Layer) (old new : Trace) (file : Placed) → Serves l old file → IsBeside file.number old new → Serves l new file
  pub readable : (l : Layer) (old new : Disk) → IsReadable l old → new.files ≡ old.files → WhereBothTold (IsBeside (own_file l)) old.told new.told → IsReadable l new
  pub ready : (l : Layer) (old new : Disk) → IsReady l old → new.files ≡ old.files → WhereBothTold (IsBeside (own_file l)) old.told new.told → IsReady l new

-- sectors that stand together are written
pub record WritesAreServed : Type 0 where
  -- whatever the write leaves, and whether it succeeds or fails
  pub images : (l : Layer) (trace : Trace) (file : Placed) (first count place : ℕ) (bytes : List ℕ) → Serves l trace file → StandFrom l first count place trace
      → length bytes ≡ l.tables.parts.sector * count → first + count ≤ l.tables.parts.sectors
      → (image : List ℕ) → IsFileImage (file_of (with_change file.number (Write place bytes) trace) file.number) image → ShowsFile (loosened (loose_or_named first count file) file) image
  pub serves : (l : Layer) (trace : Trace) (file : Placed) (first count place : ℕ) (bytes : List ℕ) → Serves l trace file → StandFrom l first count place trace
      → length bytes ≡ l.tables.parts.sector * count → first + count ≤ l.tables.parts.sectors
      → Serves l (with_change file.number (Write place bytes) trace) (placed_with (with_bytes l.tables.parts.sector first count bytes file.member.layer) (loose_or_named first count file) file)

-- A place is taken for a block: while the file grows, and while a place that is nobody's is made zeros, each image shows the file as
-- before, and no more of it loose.
pub record PlacesAreTaken : Type 0 where
  pub grown : (l : Layer) (trace : Trace) (file : Placed) → Serves l trace file → (len : ℕ) → l.log.len ≤ len
      → (image : List ℕ) → IsFileImage (file_of (with_change file.number (Grow len) trace) file.number) image → ShowsFile file image
  pub written : (l : Layer) (trace : Trace) (file : Placed) (serves : Serves l trace file) (place : ℕ) (bytes : List ℕ)
      → IsPlaced serves.parts (length (seen (file_of trace file.number))) (record { at = place; len = length bytes })
      → IsNobodys serves.parts serves.bytes (record { at = place; len = length bytes }) → IsNobodys serves.parts (held l.tables.pending (seen (file_of trace file.number))) (record { at = place; len = length bytes })
      → (image : List ℕ) → IsFileImage (file_of (with_change file.number (Write place bytes) trace) file.number) image → ShowsFile file image

-- And behind that it is served as before: the space's next block goes behind the file's end.
pub record TakenIsServed : Type 0 where
  pub grown : (l : Layer) (trace : Trace) (file : Placed) → Serves l trace file → (len : ℕ) → l.log.len ≤ len → len ≤ 2 ^ 63 → (space : Space) → space.freed ≡ l.space.freed → space.next * megabyte ≡ len
      → Serves (record l { log = record (l.log) { len = len }; space = space }) (with_change file.number (Grow len) trace) file
  pub written : (l : Layer) (trace : Trace) (file : Placed) (serves : Serves l trace file) (place : ℕ) (bytes : List ℕ) → 0 < length bytes
      → IsPlaced serves.parts (length (seen (file_of trace file.number))) (record { at = place; len = length bytes })
      → IsNobodys serves.parts serves.bytes (record { at = place; len = length bytes }) → IsNobodys serves.parts (held l.tables.pending (seen (file_of trace file.number))) (record { at = place; len = length bytes })
      → Serves l (with_change file.number (Write place bytes) trace) file

-- While pages are committed an image shows the file as before.
abbrev pub CommitsAreServed : Type 0
CommitsAreServed =
    (l : Layer) (trace : Trace) (file : Placed) (serves : Serves l trace file) (image : List ℕ)
    → CommitsAll l.log l.tables.pending (length serves.bytes) serves.written (seen (file_of trace file.number)) image → ShowsFile file image

-- a sector as a mask and bytes tell it: where its bit is set its bytes, else that it isn't there
abbrev pub told_sector : ℕ → ℕ → List ℕ → List ℕ → ℕ → Option (List ℕ)
told_sector z at mask bytes i = if bit_of mask (at + i) == 1 then Some (bytes_at bytes (z * i) z) else None

-- none of so many sectors was found
abbrev pub NoneFound : ℕ → ℕ → List ℕ → Type 0
NoneFound count at mask = (i : ℕ) → i < count → bit_of mask (at + i) ≡ 0

-- What layers add to what was found.
pub record LayersAreAdded : Type 0 where
  -- What an upper layer adds, and then a lower one, is what the one on top of the other adds.
  pub over : (upper lower : chain.Layer) (z first count at : ℕ) (mask found new_mask old between new : List ℕ) → AddsOwned upper z first count at mask found old between → AddsOwned lower z first count at found new_mask between new
      → AddsOwned (chain.over upper lower) z first count at mask new_mask old new
  -- Where none was found before, mask and bytes then tell the layer,
  pub tells : (layer : chain.Layer) (z first count at : ℕ) (old_mask new_mask old new : List ℕ) → NoneFound count at old_mask → AddsOwned layer z first count at old_mask new_mask old new
      → (i : ℕ) → i < count → layer (first + i) ≡ told_sector z at new_mask new i
  -- and the bytes of each sector are the layer's, or what they were.
  pub bytes : (layer : chain.Layer) (z first count at : ℕ) (old_mask new_mask old new : List ℕ) → NoneFound count at old_mask → AddsOwned layer z first count at old_mask new_mask old new
      → (i : ℕ) → i < count → bytes_at new (z * i) z ≡ unwrap_or (layer (first + i)) (bytes_at old (z * i) z)
