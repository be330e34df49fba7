-- The merge of a leaf as it is prepared, from what its plan says.
use Rattle.std.proofs.Common.{◌≡◌, ℕ, ◌≤◌, List, [], ◌∷◌, length, get_or, Option, sym, ap, subst, ◌∙◌, arith}
use Rattle.std.specs.Prelude.{Result, Ok, Err, IfErr, IfOk}
use Rattle.store_model.specs.Disk.{Disk}
use Rattle.link_rules.specs.declared.linked.LinkedFile.{LinkedFile}
use Rattle.make_file.specs.Identifiers.{Draws}
use Rattle.merge_plan.specs.LeafMerging.{AreOfLeaf, LeafFiles}
use Rattle.merge_plan.specs.LeafPlanning.{HasLeafPlan, IsLeafPlanned, IsLeafStopped, StopsLeaf, leaf_merge_ids}
use Rattle.merge_plan.specs.LeafSteps.{leaf_files}
use Rattle.merge_plan.specs.declared.leaf.LeafMerge.{LeafMerge}
use Rattle.merge_plan.specs.declared.leaf_drawing.LeafMergeIds.{LeafMergeIds}
use Rattle.merge_plan.specs.declared.refusal.PrepareRefusal.{PrepareRefusal}

pub first_two : (files : List LinkedFile) (a b : LinkedFile) → 2 ≤ length files → a ≡ get_or files 0 a → b ≡ get_or files 1 b → AreOfLeaf files (leaf_files a b files)
first_two [] a b two at_0 at_1 = absurd (omega (arith, two))
first_two (x ∷ []) a b two at_0 at_1 = absurd (omega (arith, two))
first_two (x ∷ y ∷ files) a b two at_0 at_1 = ap (λ (k : LinkedFile). k ∷ y ∷ files) (sym at_0) ∙ ap (λ (k : LinkedFile). a ∷ k ∷ files) (sym at_1)

module _ (files : List LinkedFile) (old : Disk) (before now : Option (List (List ℕ))) (m : LeafFiles) (ids : LeafMergeIds) (are : AreOfLeaf files m) (draws : Draws (leaf_merge_ids ids) before now) where
  pub planned : (r : Result LeafMerge PrepareRefusal) → IfOk r (HasLeafPlan files old m) → IfOk r (λ merge. merge.ids ≡ ids) → IfOk r (IsLeafPlanned files old before now)
  planned (Ok merge) plan is = record { m = m; begun = record { files_are = are; draws = subst (λ (i : LeafMergeIds). Draws (leaf_merge_ids i) before now) (sym is) draws }; plan = plan }
  planned (Err e) plan is = tt

  pub stopped : (new : Disk) (r : Result LeafMerge PrepareRefusal) → IfErr r (StopsLeaf files old new m ids) → IfErr r (IsLeafStopped files old new before now)
  stopped new (Ok merge) why = tt
  stopped new (Err e) why = record { m = m; ids = ids; begun = record { files_are = are; draws = draws }; why = why }
