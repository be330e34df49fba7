-- What it means that an image has no torn match, of one write to a file that was synced.
use Rattle.std.specs.Prelude.{◌≡◌, ◌⊎◌, ◌<◌, ◌≤◌, ℕ, ◌+◌, ◌-◌, ◌%◌, Bool, true, false, List, [], ◌∷◌, length, take, drop, Ok}
use Rattle.store_model.specs.Bytes.{bytes_at, written_over}
use Rattle.store_model.specs.File.{Op, Write, Tear, Grow, Sync, Seal, File, IsFileImage, is_synced, seen, with_op}
use Rattle.vx_base.specs.declared.parts.Header.{Header}
use Rattle.vhdx_format.specs.FileParts.{read_head}
use Rattle.vhdx_format.specs.Headers.{header_place, is_valid_header}
use Rattle.vhdx_format.specs.Logs.{Entry}
use Rattle.vhdx_format.specs.RegionTables.{is_valid_region_table}
use Rattle.vhdx_format.specs.TornWrites.{BeginsOldOrIsWhole, WritesEntry}
use Rattle.torn_match.specs.TornMatches.{HasNoTornMatch, region_place, ring_in}

-- ---- files

-- no write since the last sync failed
abbrev pub none_failed_after : List Op → Bool
none_failed_after [] = true
none_failed_after (Write at bytes ∷ older) = none_failed_after older
none_failed_after (Tear at meant left ∷ older) = false
none_failed_after (Grow len ∷ older) = none_failed_after older
none_failed_after (Sync ∷ older) = true
none_failed_after (Seal ∷ older) = none_failed_after older

-- What a read gives has no torn match, where no write since the last sync failed; nor has any image of a file that is synced.
pub record ReadsAreUntorn : Type 0 where
  pub read : (file : File) → none_failed_after file.ops ≡ true → HasNoTornMatch file (seen file)
  pub synced : (file : File) (image : List ℕ) → is_synced file ≡ true → HasNoTornMatch file image

-- Without a torn match a crash leaves no more of a write that failed than of the same one that was done.
abbrev pub FailedLeavesNoMore : Type 0
FailedLeavesNoMore =
    (file : File) (at : ℕ) (meant left image : List ℕ) → length left ≡ length meant
    → IsFileImage (with_op (Tear at meant left) file) image → HasNoTornMatch (with_op (Tear at meant left) file) image
    → IsFileImage (with_op (Write at meant) file) image × HasNoTornMatch (with_op (Write at meant) file) image

-- ---- copies of the header and of the region table

-- the n bytes of the image from `at` on are those before a write, or those behind it
abbrev pub IsOldOrNew : ℕ → ℕ → List ℕ → List ℕ → List ℕ → Type 0
IsOldOrNew at n old new image = (bytes_at image at n ≡ bytes_at old at n) ⊎ (bytes_at image at n ≡ bytes_at new at n)

-- what a crash may leave, without a torn match, of one write to a file that was synced
pub record IsLeftOfOne (file : File) (at : ℕ) (bytes image : List ℕ) : Type 0 where
  pub synced : is_synced file ≡ true
  pub left : IsFileImage (with_op (Write at bytes) file) image
  pub whole : HasNoTornMatch (with_op (Write at bytes) file) image

-- A copy that is valid in it is the one before the write or the one behind it, in full.
pub record CopiesAreWhole : Type 0 where
  pub header : (file : File) (at : ℕ) (bytes image : List ℕ) → IsLeftOfOne file at bytes image → (copy : ℕ) → 1 ≤ copy → copy ≤ 2
      → is_valid_header (bytes_at image (header_place copy) 4096) ≡ true
      → IsOldOrNew (header_place copy) 4096 (seen file) (written_over (seen file) at bytes) image
  pub region : (file : File) (at : ℕ) (bytes image : List ℕ) → IsLeftOfOne file at bytes image → (copy : ℕ) → 1 ≤ copy → copy ≤ 2
      → is_valid_region_table (bytes_at image (region_place copy) 65536) ≡ true
      → IsOldOrNew (region_place copy) 65536 (seen file) (written_over (seen file) at bytes) image

-- ---- log entries

-- An entry goes to the ring of the log that this header names, of a file that is synced; `after` is what a read gives then.
pub record GoesToLog (header : Header) (file : File) (e : Entry) (after : List ℕ) : Type 0 where
  pub synced : is_synced file ≡ true
  pub within : header.log_at + header.log_len ≤ length (seen file)
  pub whole : header.log_len % 4096 ≡ 0
  pub as_long : length after ≡ length (seen file)
  pub writes : WritesEntry header.log_at header.log (ring_in header (seen file)) (ring_in header after) e

-- of each image of the file that has no torn match, by this header
abbrev pub EntriesAreWhole : Header → File → Entry → List ℕ → File → Type 0
EntriesAreWhole header file e after now =
    (image : List ℕ) → IsFileImage now image → HasNoTornMatch now image → read_head image ≡ Ok header
    → BeginsOldOrIsWhole header.log_at header.log e.at (length e.bytes) (ring_in header (seen file)) (ring_in header after) (ring_in header image)

-- the write of an entry that ends within the ring
abbrev pub whole_write : Header → Entry → Op
whole_write header e = Write (header.log_at + e.at) e.bytes

-- and of one that goes on at the ring's start: that part first, and last the one with the entry's header
abbrev pub start_write : Header → Entry → Op
start_write header e = Write header.log_at (drop (header.log_len - e.at) e.bytes)

abbrev pub head_write : Header → Entry → Op
head_write header e = Write (header.log_at + e.at) (take (header.log_len - e.at) e.bytes)

abbrev pub in_one : Header → Entry → File → File
in_one header e file = with_op (whole_write header e) file

abbrev pub in_two : Header → Entry → File → File
in_two header e file = with_op (head_write header e) (with_op (start_write header e) file)

-- An entry that is written in one part or in two begins, where it is valid in the image, as the ring did, or is whole.
pub record WrittenEntriesAreWhole : Type 0 where
  pub one : (header : Header) (file : File) (e : Entry) → e.at + length e.bytes ≤ header.log_len
      → GoesToLog header file e (seen (in_one header e file)) → EntriesAreWhole header file e (seen (in_one header e file)) (in_one header e file)
  pub start : (header : Header) (file : File) (e : Entry) → header.log_len < e.at + length e.bytes
      → GoesToLog header file e (seen (in_two header e file))
      → EntriesAreWhole header file e (seen (in_two header e file)) (with_op (start_write header e) file)
  pub both : (header : Header) (file : File) (e : Entry) → header.log_len < e.at + length e.bytes
      → GoesToLog header file e (seen (in_two header e file)) → EntriesAreWhole header file e (seen (in_two header e file)) (in_two header e file)
