-- Pages laid over the bytes of a file.
use Rattle.std.specs.Prelude.{◌≡◌, ◌≤◌, ◌<◌, ◌^◌, ℕ, ◌+◌, ◌%◌, All, List, length, map}
use Rattle.vhdx_format.specs.declared.log_entry.Page.{Page}
use Rattle.vhdx_format.specs.SettledFiles.{with_updates}
use Rattle.vhdx_format.specs.WrittenEntries.{page_update}
use Rattle.store_model.specs.File.{seen}
use Rattle.store_model.specs.Trace.{Trace, file_of}
use Rattle.vx_base.specs.declared.parts.Parts.{Parts}

-- the file with the pages laid over it, one after another, as the replay of a log with them does
abbrev pub with_pages : List Page → List ℕ → List ℕ
with_pages pages file = with_updates (map page_update pages) file

-- a page of 4 KB, at a multiple of 4 KB within n bytes from a place on
pub record IsPageIn (at n : ℕ) (page : Page) : Type 0 where
  pub aligned : page.at % 4096 ≡ 0
  pub whole : length page.bytes ≡ 4096
  pub first : at ≤ page.at
  pub last : page.at + 4096 ≤ at + n

-- where the metadata stand: whole pages, with room for the table
pub record HasMetadata (parts : Parts) : Type 0 where
  pub at : parts.meta_at % 4096 ≡ 0
  pub len : parts.meta_len % 4096 ≡ 0
  pub table : 65536 ≤ parts.meta_len
  pub end : parts.meta_at + parts.meta_len < 2 ^ 64
  pub short : parts.meta_len < 2 ^ 32

-- the pages lie in the metadata's region
abbrev pub ArePages : Parts → List Page → Type 0
ArePages parts pages = All (IsPageIn parts.meta_at parts.meta_len) pages

-- what a read gives of the file, with the pages laid over it
abbrev pub laid_file : Trace → ℕ → List Page → List ℕ
laid_file trace file pages = with_pages pages (seen (file_of trace file))
