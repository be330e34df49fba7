-- The identifiers that a file shows, of which a new one may be none.
use Rattle.std.specs.Prelude.{ℕ, zero, suc, ◌+◌, ◌/◌, List, [], ◌∷◌, ◌++◌, Option, Some, None, Result, Ok, Err, if◌then◌else◌, codes}
use Rattle.std.specs.Str.{bytes_eq}
use Rattle.vx_base.specs.Fields.{bytes_at, guid_at}
use Rattle.vx_base.specs.declared.parts.Header.{Header}
use Rattle.vx_base.specs.declared.parts.Parts.{Parts}
use Rattle.vhdx_format.specs.declared.locator.Pair.{Pair}
use Rattle.vhdx_format.specs.Headers.{held_header}
use Rattle.vhdx_format.specs.Locators.{linkage, read_locator, second_linkage}
use Rattle.vhdx_format.specs.Rules.{BrokenRule}

-- an identifier, if there is one
abbrev pub listed : Option (List ℕ) → List (List ℕ)
listed None = []
listed (Some id) = id ∷ []

-- those of a header: of the file's bytes, of its data and of its log
abbrev pub header_ids : Option Header → List (List ℕ)
header_ids None = []
header_ids (Some h) = h.file_write ∷ h.data_write ∷ h.log ∷ []

-- The log's identifier in a place of the file that begins as an entry of a log does, valid or not.
unfoldable pub place_id : List ℕ → ℕ → Option (List ℕ)
place_id file at = if bytes_eq (bytes_at file at 4) (codes "loge") then Some (guid_at file (at + 32)) else None

-- those of n places of 4,096 bytes
unfoldable pub place_ids : List ℕ → ℕ → ℕ → List (List ℕ)
place_ids file at zero = []
place_ids file at (suc n) = listed (place_id file at) ++ place_ids file (at + 4096) n

-- those of a locator that keeps the rules: its two linkages
abbrev pub pairs_ids : Result (List Pair) BrokenRule → List (List ℕ)
pairs_ids (Ok pairs) = listed (linkage pairs) ++ listed (second_linkage pairs)
pairs_ids (Err rule) = []

abbrev pub locator_ids : Option (List ℕ) → List (List ℕ)
locator_ids None = []
locator_ids (Some item) = pairs_ids (read_locator item)

-- those of a file with these numbers, in this order: of both copies of the header, where they are valid; of each place of the
-- log's ring; and of the locator
abbrev pub shown : Parts → List ℕ → List (List ℕ)
shown parts file =
    header_ids (held_header file 1) ++ header_ids (held_header file 2)
    ++ place_ids file parts.header.log_at (parts.header.log_len / 4096) ++ locator_ids parts.locator
