-- The numbers of a file, by what its regions and then its metadata give.
use Rattle.std.proofs.Common.{◌≡◌, ◌≢◌, ℕ, List, Option, Some, None, Result, Ok, Err, length, refl, sym, ap, subst, ◌∙◌}
use Rattle.std.proofs.lemmas.Bool.{ne_eqb}
use Rattle.vx_base.specs.Fields.{bytes_at}
use Rattle.vx_base.specs.declared.parts.Header.{Header}
use Rattle.vx_base.specs.declared.parts.Parts.{Parts}
use Rattle.vhdx_format.specs.declared.metadata.Metadata.{Metadata}
use Rattle.vhdx_format.specs.declared.regions.Regions.{Regions}
use Rattle.vhdx_format.specs.FileParts.{parts_of, read_parts}
use Rattle.vhdx_format.specs.MetadataTables.{metadata_region, read_metadata, served_sectors}
use Rattle.vhdx_format.specs.RegionTables.{read_regions}
use Rattle.vhdx_format.specs.Rules.{BrokenRule, SectorSize, ◌>>=◌, Refuses}
use Rattle.metadata_table.specs.declared.MetadataRefusal.{MetadataRefusal}
use Rattle.metadata_table.specs.declared.MetadataRefusal.TheVariants.{BadMetadataTable, UnknownItem, MissingItem, BadItem, Store, NoRoom}
use Rattle.metadata_table.specs.Refusals.{rule_of}
use Rattle.file_open.specs.Steps.{by_format}
use Rattle.file_open.specs.Causes.{cause_of, of_metadata}
use Rattle.file_open.specs.Opening.{Refusal, Breaks}
use Rattle.file_open.proofs.Numbered.{plain}

-- what refuses the first of two readings refuses both
refused_first : {A B : Type 0} (r : Result A BrokenRule) (next : A → Result B BrokenRule) (cause : Option Refusal) → Refuses cause (by_format r) → Refuses cause (by_format (r >>= next))
refused_first r next None h = tt
refused_first (Ok x) next (Some refusal) h = cc
refused_first (Err rule) next (Some refusal) h = let same : Breaks rule ≡ refusal = cc in ap Err same

metadata_refused : {A : Type 0} (refusal : MetadataRefusal) (meaning : Result A BrokenRule) → Refuses (rule_of refusal) meaning → Refuses (cause_of (of_metadata refusal)) (by_format meaning)
metadata_refused (BadMetadataTable entry) meaning h = ap by_format h
metadata_refused (UnknownItem id) meaning h = ap by_format h
metadata_refused (MissingItem id) meaning h = ap by_format h
metadata_refused (BadItem id) meaning h = ap by_format h
metadata_refused (Store fault) meaning h = tt
metadata_refused NoRoom meaning h = tt

abbrev by_metadata : Header → Regions → Metadata → Result Parts BrokenRule
by_metadata header regions found = served_sectors found >>= λ served. Ok (parts_of header regions served)

abbrev by_regions : Header → List ℕ → Regions → Result Parts BrokenRule
by_regions header file regions = read_metadata (metadata_region file regions) regions.bat_len >>= by_metadata header regions

module _ (header : Header) (file : List ℕ) (len : ℕ) (long : len ≡ length file) where
  read_by : read_parts header file ≡ (read_regions (bytes_at file 196608 131072) len header.log_at header.log_len >>= by_regions header file)
  unfolding read_parts
  read_by = rw long refl

  pub unplaced : (cause : Option Refusal) → Refuses cause (by_format (read_regions (bytes_at file 196608 131072) len header.log_at header.log_len)) → Refuses cause (by_format (read_parts header file))
  unplaced cause h = subst (λ r. Refuses cause (by_format r)) (sym read_by) (refused_first (read_regions (bytes_at file 196608 131072) len header.log_at header.log_len) (by_regions header file) cause h)

  module _ (regions : Regions) (placed : by_format (read_regions (bytes_at file 196608 131072) len header.log_at header.log_len) ≡ Ok regions) where
    read_then : read_parts header file ≡ by_regions header file regions
    read_then = read_by ∙ ap (λ r. r >>= by_regions header file) (plain (read_regions (bytes_at file 196608 131072) len header.log_at header.log_len) regions placed)

    pub undescribed : (refusal : MetadataRefusal) → Refuses (rule_of refusal) (read_metadata (metadata_region file regions) regions.bat_len) → Refuses (cause_of (of_metadata refusal)) (by_format (read_parts header file))
    undescribed refusal h =
        subst (λ r. Refuses (cause_of (of_metadata refusal)) (by_format r)) (sym read_then)
        (refused_first (read_metadata (metadata_region file regions) regions.bat_len) (by_metadata header regions) (cause_of (of_metadata refusal)) (metadata_refused refusal (read_metadata (metadata_region file regions) regions.bat_len) h))

    module _ (found : Metadata) (described : read_metadata (metadata_region file regions) regions.bat_len ≡ Ok found) where
      read_last : read_parts header file ≡ by_metadata header regions found
      read_last = read_then ∙ ap (λ r. r >>= by_metadata header regions) described

      pub unserved : found.logical ≢ 512 → by_format (read_parts header file) ≡ Err (Breaks (SectorSize found.logical))
      unserved other = let last : by_metadata header regions found ≡ Err (SectorSize found.logical) = rw (ne_eqb found.logical 512 other) refl in ap by_format (read_last ∙ last)

      pub served_parts : found.logical ≡ 512 → by_format (read_parts header file) ≡ Ok (parts_of header regions found)
      served_parts whole = let last : by_metadata header regions found ≡ Ok (parts_of header regions found) = rw whole refl in ap by_format (read_last ∙ last)
