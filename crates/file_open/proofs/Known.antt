-- What is known after one call more: of a file, its length and its numbers.
use Rattle.std.proofs.Common.{◌≡◌, ℕ, ◌%◌, ◌<◌, ◌≤◌, Bool, true, false, List, length, Option, Some, None, Result, Ok, Err, IfOk, refl, sym, ap, subst, ◌∙◌, arith, inl, inr}
use Rattle.std.specs.Prelude.{◌&&◌, ◌==◌, nat_le}
use Rattle.std.specs.Result.{IsErrAnd}
use Rattle.std.proofs.lemmas.Bool.{eqb-true, leb-true}
use Rattle.std.proofs.lemmas.Option.{same_Some}
use Rattle.log_format.specs.declared.entry.Active.{Active}
use Rattle.log_replay.specs.Replays.{FailsToReplay}
use Rattle.log_replay.specs.declared.fault.ReplayFault.{ReplayFault}
use Rattle.log_replay.specs.declared.fault.ReplayFault.TheVariants.{TruncatedBelowLog, Store}
use Rattle.metadata_table.specs.Refusals.{fault_of}
use Rattle.metadata_table.specs.declared.MetadataRefusal.{MetadataRefusal}
use Rattle.metadata_table.specs.declared.MetadataRefusal.TheVariants as metadata
use Rattle.store_model.specs.Cause.{RoseAt}
use Rattle.store_model.specs.Disk.{Disk, ReadFailed, WhereTold, WhereBothTold}
use Rattle.store_model.specs.Disk as disk
use Rattle.store_model.specs.File.{seen, is_sealed}
use Rattle.store_model.specs.Trace.{Trace, file_of}
use Rattle.store_model.specs.declared.fault.StoreFault.{StoreFault}
use Rattle.vhdx_format.specs.Fields.{is_whole_megabytes, megabyte}
use Rattle.vhdx_format.specs.FileParts.{LieWithin}
use Rattle.vhdx_format.specs.Headers.{KeepsRules}
use Rattle.vhdx_format.specs.Rules.{Refuses}
use Rattle.vx_base.specs.declared.parts.Header.{Header}
use Rattle.vx_base.specs.declared.parts.Parts.{Parts}
use Rattle.file_open.specs.Causes.{IsOutside, Leaves, LeavesStore, cause_of, of_metadata, of_replay}
use Rattle.file_open.specs.Effects.{CallFailed, FailsToSettle, IsSettledTo, of_change, of_read}
use Rattle.file_open.specs.Opening.{Refusal}
use Rattle.file_open.specs.declared.open.FileNumbers.{FileNumbers}
use Rattle.file_open.specs.declared.refusal.OpenRefusal.{OpenRefusal}
use Rattle.file_open.proofs.Leaving.{read_failed, read_stays}

-- ---- a store that was only read

pub there_still : (file : ℕ) (old new : Disk) → new ≡ old → file < old.files → file < new.files
there_still file old new same there = subst (λ (d : Disk). file < d.files) (sym same) there

pub len_still : (file n : ℕ) (old new : Disk) → new ≡ old → WhereTold old.told (λ t. n ≡ length (seen (file_of t file))) → WhereTold new.told (λ t. n ≡ length (seen (file_of t file)))
len_still file n old new same len = subst (λ (d : Disk). WhereTold d.told (λ t. n ≡ length (seen (file_of t file)))) (sym same) len

pub unsealed_still : (file : ℕ) (old new : Disk) → new ≡ old → WhereTold old.told (λ t. is_sealed (file_of t file) ≡ false) → WhereTold new.told (λ t. is_sealed (file_of t file) ≡ false)
unsealed_still file old new same unsealed = subst (λ (d : Disk). WhereTold d.told (λ t. is_sealed (file_of t file) ≡ false)) (sym same) unsealed

pub lie_still : (file len : ℕ) (parts : Parts) (old new : Disk) → new ≡ old → LieWithin parts len → WhereTold old.told (λ t. len ≡ length (seen (file_of t file))) → WhereTold new.told (λ t. LieWithin parts (length (seen (file_of t file))))
lie_still file len parts old new same within is = λ t told. subst (LieWithin parts) (is t (ap (λ (d : Disk). d.told) (sym same) ∙ told)) within

pub left_still : (file : ℕ) (old mid new : Disk) (refusal : OpenRefusal) → mid ≡ old → Leaves file mid new refusal → Leaves file old new refusal
left_still file old mid new refusal same left = subst (λ d. Leaves file d new refusal) same left

-- a refusal that is handed on, and one that says nothing of the file
pub left_by : {A : Type 0} (file : ℕ) (old new : Disk) (result : Result A OpenRefusal) (refusal : OpenRefusal) → IsErrAnd result (λ e. e ≡ refusal) → Leaves file old new refusal → LeavesStore file old new result
left_by file old new (Ok x) refusal is left = absurd is
left_by file old new (Err e) refusal is left = subst (Leaves file old new) (sym is) left

pub metadata_left : (file : ℕ) (old new : Disk) (refusal : MetadataRefusal) → disk.LeavesBy file old new (fault_of refusal) → Leaves file old new (of_metadata refusal)
metadata_left file old new (metadata.BadMetadataTable entry) h = h
metadata_left file old new (metadata.UnknownItem id) h = h
metadata_left file old new (metadata.MissingItem id) h = h
metadata_left file old new (metadata.BadItem id) h = h
metadata_left file old new (metadata.Store fault) h = h
metadata_left file old new metadata.NoRoom h = h

pub outside : {A : Type 0} (whole : Result A Refusal) (refusal : OpenRefusal) → IsOutside refusal → Refuses (cause_of refusal) whole
outside whole refusal is = subst (λ cause. Refuses cause whole) (sym is) tt

-- ---- one whose content has changed

pub there_after : (file : ℕ) (old new : Disk) → new ≡ record old { told = new.told } → file < old.files → file < new.files
there_after file old new counts there = subst (λ (d : Disk). file < d.files) (sym counts) there

pub settled_len : (header : Header) (file n : ℕ) (old new : Option Trace) → WhereBothTold (IsSettledTo header file n) old new → WhereTold new (λ t. n ≡ length (seen (file_of t file)))
settled_len header file n None None h t told = cc
settled_len header file n None (Some b) h t told = absurd h
settled_len header file n (Some a) None h t told = absurd h
settled_len header file n (Some a) (Some b) h t told = subst (λ (s : Trace). n ≡ length (seen (file_of s file))) (same_Some b t told) h.len

pub rules_longer : (header : Header) (len n : ℕ) → len ≤ n → KeepsRules header len → KeepsRules header n
rules_longer header len n longer rules = record { version = rules.version; log_version = rules.log_version; whole_at = rules.whole_at; whole_len = rules.whole_len; within = omega (arith, rules.within, longer) }

-- a log of whole megabytes within the file
pub whole_megabytes : (n : ℕ) → is_whole_megabytes n ≡ true → (n % megabyte ≡ 0) × (megabyte ≤ n)
whole_megabytes n h = let t = both (n % megabyte == 0) (nat_le megabyte n) h in (eqb-true _ _ t.0, leb-true _ _ t.1)
  where
    both : (a b : Bool) → (a && b) ≡ true → (a ≡ true) × (b ≡ true)
    both true b e = (refl, e)
    both false b e = cc

pub least_len : (header : Header) (len : ℕ) → KeepsRules header len → megabyte ≤ len
least_len header len rules = let whole = whole_megabytes header.log_len rules.whole_len in omega (arith, whole.1, rules.within)

pub whole_ring : (header : Header) (len : ℕ) (ring : List ℕ) → KeepsRules header len → length ring ≡ header.log_len → length ring % 4096 ≡ 0
whole_ring header len ring rules long = let whole = whole_megabytes header.log_len rules.whole_len in omega (arith, whole.0, long)

-- ---- a file's numbers, with its length

pub lie_in_len : (result : Result FileNumbers OpenRefusal) (len : ℕ) → IfOk result (λ read. LieWithin read.parts len) → IfOk result (λ read. read.len ≡ len) → IfOk result (λ read. LieWithin read.parts read.len)
lie_in_len (Ok read) len within same = subst (LieWithin read.parts) (sym same) within
lie_in_len (Err refusal) len within same = tt

pub len_read : (result : Result FileNumbers OpenRefusal) (file len : ℕ) (old new : Disk) → IfOk result (λ read. read.len ≡ len) → LeavesStore file old new result → WhereTold old.told (λ t. len ≡ length (seen (file_of t file)))
    → IfOk result (λ read. WhereTold new.told (λ t. read.len ≡ length (seen (file_of t file))))
len_read (Ok read) file len old new same stays is = len_still file read.len old new stays (λ t told. same ∙ is t told)
len_read (Err refusal) file len old new same stays is = tt

-- ---- a replay that failed

pub replay_failed : (file : ℕ) (a : Active) (old mid new : Disk) (fault : ReplayFault) → mid ≡ old → FailsToReplay file a mid new fault → FailsToSettle file old new (of_replay fault)
replay_failed file a old mid new (TruncatedBelowLog wanted found) same h = h.0 ∙ same
replay_failed file a old mid new (Store fault) same (inl h) = subst (λ d. CallFailed file d new fault) same (read_failed file mid new fault h)
replay_failed file a old mid new (Store fault) same (inr h) = subst (λ d. CallFailed file d new fault) same (of_change h.stays h.of_file h.count)

-- and a read after it
pub failed_after : (file : ℕ) (old mid new : Disk) (fault : StoreFault) → mid ≡ record old { told = mid.told } → ReadFailed file mid new fault → CallFailed file old new fault
failed_after file old mid new fault counts h =
    of_read (read_stays mid new h.stays ∙ ap (λ (d : Disk). let made : Disk = record d { told = new.told; failed_reads = new.failed_reads } in made) counts) h.of_file
    (subst (λ n. RoseAt file fault.count n new.failed_reads) (ap (λ (d : Disk). d.failed_reads) counts) h.count)
