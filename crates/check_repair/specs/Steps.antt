-- The steps in which the code looks for findings.
use Rattle.std.specs.Prelude.{◌≡◌, ℕ, Bool, true, false, not, List, [], ◌∷◌, ◌++◌, length, map, Option, Some, None, Ok, Err}
use Rattle.store_model.specs.declared.fault.SealFault.{SealFault}
use Rattle.store_model.specs.declared.fault.SealFault.TheVariants.{Store, NoRoom}
use Rattle.vx_base.specs.Fields.{bytes_at}
use Rattle.vx_base.specs.declared.parts.Parts.{Parts}
use Rattle.vhdx_format.specs.FileParts.{shape_of, taken_areas}
use Rattle.vhdx_format.specs.Headers.{current_header, header_copy, is_valid_header}
use Rattle.vhdx_format.specs.Identifiers.{identified}
use Rattle.vhdx_format.specs.RegionTables.{is_valid_region_table, region_copy}
use Rattle.vhdx_format.specs.Rules.{BrokenRule, BadBatState, BlockPlace, BitmapMissing}
use Rattle.parent_locator.specs.Listing.{fault_rule}
use Rattle.table_faults.specs.Faults.{ListsFaults}
use Rattle.table_faults.specs.declared.pairs.BlockPair.{BlockPair}
use Rattle.file_open.specs.Causes.{Meaning, refuses, host_failed, store_failed, no_memory, meaning_of}
use Rattle.file_open.specs.Opening.{Refusal, Breaks, FileMissing}
use Rattle.file_open.specs.declared.refusal.OpenRefusal.{OpenRefusal}
use Rattle.check_repair.specs.Answers.{MeanRules, told_rule}
use Rattle.check_repair.specs.Findings.{BreaksRules, names_log, overlap_of, table_rules}
use Rattle.check_repair.specs.declared.looking.Broken.{Broken}
use Rattle.check_repair.specs.declared.looking.CopyFault.{CopyFault}
use Rattle.check_repair.specs.declared.looking.CopyFault.TheVariants.{HeaderCopy, RegionCopy, LogNamed}
use Rattle.check_repair.specs.declared.looking.Kind.{Kind}
use Rattle.check_repair.specs.declared.looking.Kind.TheVariants.{States, Places, Bitmaps}

-- what ends a call, of what opening answers
abbrev pub stop_in : Meaning Refusal → Option SealFault
stop_in (refuses (Breaks rule)) = None
stop_in (refuses FileMissing) = Some NoRoom
stop_in (host_failed fault) = Some NoRoom
stop_in (store_failed fault) = Some (Store fault)
stop_in no_memory = Some NoRoom

abbrev pub stop_of : OpenRefusal → Option SealFault
stop_of refusal = stop_in (meaning_of refusal)

-- the file is one of this format and has its first sections, or it isn't or hasn't
abbrev pub Knows : List ℕ → Bool → Type 0
Knows file true = identified file ≡ Ok (length file)
Knows file false = (rule : BrokenRule) × (identified file ≡ Err rule)

-- ---- rules

abbrev pub told_as : Kind → ℕ → Option Refusal
told_as States index = told_rule (BadBatState index)
told_as Places index = told_rule (BlockPlace index)
told_as Bitmaps index = told_rule (BitmapMissing index)

abbrev pub told_pair : BlockPair → Option Refusal
told_pair pair = told_rule (overlap_of pair)

-- all rules of the table of a settled file with these numbers
abbrev pub NumbersRead : Parts → List ℕ → List OpenRefusal → Type 0
NumbersRead parts settled refusals =
    (states : List ℕ) × (places : List ℕ) × (overlaps : List BlockPair) × (bitmaps : List ℕ)
    × ListsFaults (shape_of parts) (taken_areas parts) settled states places overlaps bitmaps × MeanRules refusals (table_rules states places overlaps bitmaps)

-- the rules that the file breaks
pub record FindsRules (file : List ℕ) (broken : Broken) : Type 0 where
  pub rules : List BrokenRule
  pub breaks : BreaksRules file (rules ++ map fault_rule broken.locator.items)
  pub mean : MeanRules broken.rules.items rules

-- ---- copies

abbrev pub told_if : Bool → CopyFault → List CopyFault
told_if true fault = fault ∷ []
told_if false fault = []

abbrev pub header_findings : List ℕ → List CopyFault
header_findings zone = told_if (not (is_valid_header (header_copy zone 1))) (HeaderCopy 1) ++ told_if (not (is_valid_header (header_copy zone 2))) (HeaderCopy 2)

abbrev pub table_findings : List ℕ → List CopyFault
table_findings copies = told_if (not (is_valid_region_table (region_copy copies 1))) (RegionCopy 1) ++ told_if (not (is_valid_region_table (region_copy copies 2))) (RegionCopy 2)

abbrev pub section_findings : List ℕ → List CopyFault
section_findings bytes =
    header_findings (bytes_at bytes 0 196608) ++ table_findings (bytes_at bytes 196608 131072) ++ told_if (names_log (current_header (bytes_at bytes 0 196608))) LogNamed
