-- What guest 1 knows of a disk in memory that was blank, by its history.
use Rattle.std.specs.Prelude.{◌≡◌, ◌<◌, ◌*◌, ◌/◌, ℕ, zero, suc, List, [], ◌∷◌, ◌++◌, length, replicate, Bool, if◌then◌else◌}
use Rattle.vx_base.specs.Fields.{bytes_at, zeros}
use Rattle.vx_base.specs.declared.parts.Geometry.{Geometry}
use Rattle.guest_model.specs.Calls.{Disk}
use Rattle.guest_model.specs.History.{History, replay, sector_at}
use Rattle.disk_calls.specs.Disks.{Known}

-- so many sectors of zeros
abbrev pub blank : ℕ → Disk
blank n = replicate n (zeros 512)

-- each sector of the bytes is that of the disk, with the calls of the history made on it
pub record Holds (h : History) (bytes : List ℕ) : Type 0 where
  pub each : (i : ℕ) → i < length bytes / 512 → bytes_at bytes (512 * i) 512 ≡ sector_at (replay 512 (blank (length bytes / 512)) h) i

-- the places up to a number
abbrev pub places_to : ℕ → List ℕ
places_to zero = []
places_to (suc n) = places_to n ++ suc n ∷ []

-- a disk of either size of sectors
abbrev pub large_or_small : Bool → ℕ → Geometry
large_or_small is_large sectors = record { sector = (if is_large then 4096 else 512); sectors = sectors }

abbrev pub size_of : List ℕ → Geometry
size_of bytes = record { sector = 512; sectors = length bytes / 512 }

-- all calls are the guest's
abbrev pub known_of : List ℕ → History → Known
known_of bytes h = record { guest = 1; opening = blank (length bytes / 512); seen = h; mine = places_to (length h) }
