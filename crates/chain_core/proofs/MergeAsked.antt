-- What the phases of a merge's start ask for, and what they leave where one fails.
use Rattle.std.proofs.Common.{◌≡◌, inl, inr, ℕ, ◌+◌, ◌<◌, Bool, true, [], ◌∷◌, ◌++◌, length, refl, sym, ap, subst, ◌∙◌, arith}
use Rattle.std.proofs.lemmas.List.{append_assoc, length-append}
use Rattle.std.specs.Prelude.{Option, Some, None}
use Rattle.vhdx_format.specs.FileParts.{HasNumbers}
use Rattle.store_model.specs.Disk.{Disk, ReadFailed, WhereTold}
use Rattle.store_model.specs.File.{seen}
use Rattle.store_model.specs.Plans.{FailsToChange}
use Rattle.store_model.specs.Trace.{Trace, file_of}
use Rattle.store_model.specs.declared.fault.SealFault.{SealFault}
use Rattle.store_model.specs.declared.fault.SealFault.TheVariants.{NoRoom, Store}
use Rattle.log_write.specs.Writing.{BeginFails}
use Rattle.chain_model.specs.Images.{Placed}
use Rattle.layer_session.specs.Begins.{CanServe}
use Rattle.layer_session.specs.Keeping.{IsHeld, IsReady, Serves}
use Rattle.layer_session.specs.declared.file.Layer.{Layer}
use Rattle.merge_plan.specs.Drawing.{JudgesDrawn, merge_ids}
use Rattle.merge_plan.specs.Merging.{MergeFiles, child_place, source_place}
use Rattle.merge_plan.specs.Planning.{HasPlan}
use Rattle.merge_plan.specs.declared.drawing.LogIds.{LogIds}
use Rattle.merge_plan.specs.declared.drawing.MergeIds.{MergeIds}
use Rattle.merge_plan.specs.declared.merge.Merge.{Merge}
use Rattle.chain_core.specs.MergeStarting.{BeginsNone, chain_files, leaf_of, target_place}
use Rattle.merge_plan.specs.Attached.{CanStart}
use Rattle.chain_core.proofs.MergeFound.{files_split, lower_files}
use Rattle.chain_core.proofs.MergeTold.{fresh_at, served_at, there_at}

-- ---- a layer that was ready, and serves its file still

pub ready_still : (l : Layer) (old new : Disk) → IsReady l old → new.files ≡ old.files → WhereTold new.told (λ t. (file : Placed) × Serves l t file) → IsReady l new
ready_still l old new ready files serves = record {
  readable = record {
    there = subst (λ (n : ℕ). l.tables.parts.file < n) (sym files) ready.readable.there;
    sizes = ready.readable.sizes;
    told = λ t told. let s = serves t told in (s.1.parts, (s.0.member.layer, subst (λ (n : ℕ). IsHeld l s.1.parts s.0.member.layer (seen (file_of t n))) s.1.number s.1.as_held));
  };
  one_file = ready.one_file;
  next = ready.next;
  most = ready.most;
  clear = ready.clear;
  plans = ready.plans;
  told = serves;
}

-- ---- a phase that fails

-- only content was changed before it
pub begins_not : (changes : ℕ → Bool) (file : ℕ) (old mid new : Disk) (fault : SealFault) → changes file ≡ true → mid ≡ record old { told = mid.told } → BeginFails file mid new fault → BeginsNone changes old new fault
begins_not changes file old mid new NoRoom one is h = h ∙ is ∙ ap (λ (t : Option Trace). (let d : Disk = record old { told = t } in d)) (sym (ap (λ (d : Disk). d.told) h))
begins_not changes file old mid new (Store fault) one is (inl h) =
    let own : ReadFailed file (record old { told = mid.told }) new fault = subst (λ (d : Disk). ReadFailed file d new fault) is h in
    let same : mid.told ≡ new.told = sym (ap (λ (d : Disk). d.told) own.stays) in
    record { file = file; one = one; fails = inl (subst (λ (t : Option Trace). ReadFailed file (record old { told = t }) new fault) same own) }
begins_not changes file old mid new (Store fault) one is (inr h) =
    let own : FailsToChange file (record old { told = mid.told }) new fault = subst (λ (d : Disk). FailsToChange file d new fault) is h in
    record { file = file; one = one; fails = inr (record { stays = own.stays; of_file = own.of_file; count = own.count }) }

-- ---- each of the four files

module _ (m : MergeFiles) (merge : Merge) (d : Disk) (can : CanStart (chain_files m) d) (plan : HasPlan (chain_files m) d m merge) where
  abbrev ids : MergeIds
  ids = merge.ids

  behind_child : chain_files m ≡ (m.above ++ m.child ∷ []) ++ m.source ∷ m.target ∷ m.below
  behind_child = sym (append_assoc m.above (m.child ∷ []) (m.source ∷ m.target ∷ m.below))

  behind_source : chain_files m ≡ (m.above ++ m.child ∷ m.source ∷ []) ++ m.target ∷ m.below
  behind_source = sym (append_assoc m.above (m.child ∷ m.source ∷ []) (m.target ∷ m.below))

  source_at : length (m.above ++ m.child ∷ []) ≡ source_place m
  source_at = length-append m.above (m.child ∷ [])

  target_at : length (m.above ++ m.child ∷ m.source ∷ []) ≡ target_place m
  target_at = let both : length (m.above ++ m.child ∷ m.source ∷ []) ≡ length m.above + 2 = length-append m.above (m.child ∷ m.source ∷ []) in omega (arith, both)

  pub leaf_numbers : HasNumbers (leaf_of m).parts
  leaf_numbers = (served_at d (chain_files m) [] (leaf_of m) (lower_files m) can (files_split m)).numbers

  pub child_numbers : HasNumbers m.child.parts
  child_numbers = (served_at d (chain_files m) m.above m.child (m.source ∷ m.target ∷ m.below) can refl).numbers

  pub source_numbers : HasNumbers m.source.parts
  source_numbers = (served_at d (chain_files m) (m.above ++ m.child ∷ []) m.source (m.target ∷ m.below) can behind_child).numbers

  pub target_numbers : HasNumbers m.target.parts
  target_numbers = (served_at d (chain_files m) (m.above ++ m.child ∷ m.source ∷ []) m.target m.below can behind_source).numbers

  -- the three behind the leaf are in the store
  pub child_there : child_place m < d.files
  child_there = there_at d (chain_files m) m.above m.child (m.source ∷ m.target ∷ m.below) can refl

  pub source_there : source_place m < d.files
  source_there = subst (λ (n : ℕ). n < d.files) source_at (there_at d (chain_files m) (m.above ++ m.child ∷ []) m.source (m.target ∷ m.below) can behind_child)

  pub target_there : target_place m < d.files
  target_there = subst (λ (n : ℕ). n < d.files) target_at (there_at d (chain_files m) (m.above ++ m.child ∷ m.source ∷ []) m.target m.below can behind_source)

  -- as they are found their sessions may begin
  pub leaf_fresh : WhereTold d.told (CanServe (leaf_of m).parts ids.leaf.log 0)
  leaf_fresh = fresh_at d (chain_files m) [] (leaf_of m) (lower_files m) can (files_split m) (merge_ids ids) 2 plan.fit (omega arith)

  pub source_fresh : WhereTold d.told (CanServe m.source.parts ids.source.log (source_place m))
  source_fresh = subst (λ (n : ℕ). WhereTold d.told (CanServe m.source.parts ids.source.log n)) source_at
      (fresh_at d (chain_files m) (m.above ++ m.child ∷ []) m.source (m.target ∷ m.below) can behind_child (merge_ids ids) 4 plan.fit (omega arith))

  pub target_fresh : WhereTold d.told (CanServe m.target.parts ids.target.log (target_place m))
  target_fresh = subst (λ (n : ℕ). WhereTold d.told (CanServe m.target.parts ids.target.log n)) target_at
      (fresh_at d (chain_files m) (m.above ++ m.child ∷ m.source ∷ []) m.target m.below can behind_source (merge_ids ids) 7 plan.fit (omega arith))

  pub child_fresh : (inner : LogIds) → ids.child ≡ Some inner → WhereTold d.told (CanServe m.child.parts inner.log (child_place m))
  child_fresh inner is =
      let with_inner : MergeIds = record ids { child = Some inner } in
      let same : ids ≡ with_inner = ap (λ (o : Option LogIds). (let x : MergeIds = record ids { child = o } in x)) is in
      let fit = subst (λ (i : MergeIds). JudgesDrawn (chain_files m) d (merge_ids i) None) same plan.fit in
      fresh_at d (chain_files m) m.above m.child (m.source ∷ m.target ∷ m.below) can refl (merge_ids with_inner) 9 fit (omega arith)
