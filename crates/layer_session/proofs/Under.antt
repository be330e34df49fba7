-- A file's numbers under another header that names the same place for a log.
use Rattle.std.proofs.Common.{◌≡◌, ℕ, List, length, ap, ◌∙◌}
use Rattle.std.specs.Prelude.{Ok, Result}
use Rattle.vx_base.specs.Fields.{bytes_at}
use Rattle.vx_base.specs.declared.parts.Header.{Header}
use Rattle.vx_base.specs.declared.parts.Parts.{Parts}
use Rattle.vhdx_format.specs.declared.regions.Regions.{Regions}
use Rattle.vhdx_format.specs.FileParts.{parts_of, read_parts}
use Rattle.vhdx_format.specs.MetadataTables.{metadata_region, read_metadata, served_sectors}
use Rattle.vhdx_format.specs.declared.metadata.Metadata.{Metadata}
use Rattle.vhdx_format.specs.RegionTables.{read_regions}
use Rattle.vhdx_format.specs.Rules.{BrokenRule, ◌>>=◌}
use Rattle.layer_session.proofs.Numbers.{is_read, of_bind}

-- the numbers with another header
abbrev pub under : Header → Parts → Parts
under header parts = record parts { header = header }

pub numbers_under : (header other : Header) (bytes : List ℕ) (parts : Parts) → other.log_at ≡ header.log_at → other.log_len ≡ header.log_len → read_parts header bytes ≡ Ok parts → read_parts other bytes ≡ Ok (under other parts)
unfolding read_parts parts_of
numbers_under header other bytes parts at len h =
    let d = is_read header bytes parts h in
    let b = of_bind (read_metadata (metadata_region bytes d.regions) d.regions.bat_len) (λ metadata. served_sectors metadata >>= λ served. Ok (parts_of header d.regions served)) parts d.rest in
    let c = of_bind (served_sectors b.0) (λ served. Ok (parts_of header d.regions served)) parts b.2 in
    let is : parts_of header d.regions c.0 ≡ parts = cc in
    let regions : read_regions (bytes_at bytes 196608 131072) (length bytes) other.log_at other.log_len ≡ Ok d.regions =
    ap (λ n. read_regions (bytes_at bytes 196608 131072) (length bytes) n other.log_len) at ∙ ap (λ n. read_regions (bytes_at bytes 196608 131072) (length bytes) header.log_at n) len ∙ d.are in
    ap (λ (r : Result Regions BrokenRule). r >>= λ regions. read_metadata (metadata_region bytes regions) regions.bat_len >>= λ metadata. served_sectors metadata >>= λ served. Ok (parts_of other regions served)) regions
    ∙ ap (λ (r : Result Metadata BrokenRule). r >>= λ metadata. served_sectors metadata >>= λ served. Ok (parts_of other d.regions served)) b.1
    ∙ ap (λ (r : Result Metadata BrokenRule). r >>= λ served. Ok (parts_of other d.regions served)) c.1
    ∙ ap (λ (p : Parts). (let r : Result Parts BrokenRule = Ok (under other p) in r)) is
