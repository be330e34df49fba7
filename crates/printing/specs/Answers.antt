-- What a run prints, but for refusals.
use Rattle.std.specs.Prelude.{◌≡◌, ℕ, zero, suc, ◌+◌, ◌*◌, ◌^◌, ◌<◌, List, [], ◌++◌, length, take, drop, codes, decimal}
use Rattle.hex.specs.Hex.{encode_lower}
use Rattle.vhdx_format.specs.Fields.{sector_size}

-- a sector's line: its number, a space, and its bytes in lower-case hexadecimal digits
abbrev pub sector_bytes : List ℕ → List ℕ
sector_bytes bytes = codes " " ++ encode_lower bytes ++ codes "\n"

abbrev pub sector_line : ℕ → List ℕ → List ℕ
sector_line number bytes = decimal number ++ sector_bytes bytes

-- the lines of n sectors of z bytes, whose bytes stand one behind the other
unfoldable pub sector_lines : ℕ → ℕ → List ℕ → ℕ → List ℕ
sector_lines z number bytes zero = []
sector_lines z number bytes (suc n) = sector_line number (take z bytes) ++ sector_lines z (number + 1) (drop z bytes) n

-- a fault's line: of what kind of thing, and that one's count of faults
abbrev pub fault_line : List ℕ → ℕ → List ℕ
fault_line kind count = codes "fault " ++ kind ++ codes " " ++ decimal count ++ codes "\n"

-- the bytes of so many sectors, whose numbers are numbers of 64 bits
pub record IsGiven (first count : ℕ) (bytes : List ℕ) : Type 0 where
  pub len : length bytes ≡ sector_size * count
  pub end : first + count < 2 ^ 64
