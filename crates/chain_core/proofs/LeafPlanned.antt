-- The merge of a leaf that was planned over a chain's files, and what its start answers.
use Rattle.std.proofs.Common.{◌≡◌, ℕ, false, List, [], ◌∷◌, refl, sym, ap, subst, ◌∙◌}
use Rattle.std.specs.Prelude.{Option, Some, None, All, Result, Ok, Err}
use Rattle.vhdx_format.specs.FileParts.{HasNumbers}
use Rattle.store_model.specs.Disk.{Disk}
use Rattle.store_model.specs.Trace.{Trace, file_of}
use Rattle.store_model.specs.declared.fault.SealFault.{SealFault}
use Rattle.store_model.specs.declared.fault.SealFault.TheVariants.{NoRoom}
use Rattle.link_rules.specs.Effects.{IsServed}
use Rattle.link_rules.specs.declared.linked.LinkedFile.{LinkedFile}
use Rattle.merge_plan.specs.Attached.{CanStart}
use Rattle.merge_plan.specs.LeafMerging.{LeafFiles}
use Rattle.merge_plan.specs.LeafPlanning.{HasLeafPlan, IsLeafBegun, IsLeafPlanned, IsLeafStopped, StopsLeaf}
use Rattle.merge_plan.specs.declared.leaf.LeafMerge.{LeafMerge}
use Rattle.merge_plan.specs.declared.leaf_drawing.LeafMergeIds.{LeafMergeIds}
use Rattle.merge_plan.specs.declared.refusal.PrepareRefusal.{PrepareRefusal}
use Rattle.merge_plan.specs.declared.refusal.PrepareRefusal.TheVariants as plan
use Rattle.chain_core.specs.LeafStarting.{AreBothLow, BeginsLeafMerge, PlansLeafMerge, StartsWithLeafMerge, is_first_two, leaf_chain, spent_leaf}
use Rattle.chain_core.specs.MergeStarting.{LeavesAllBut, high_of}
use Rattle.chain_core.specs.Starting.{EachOpensAlike}
use Rattle.chain_core.specs.declared.layers.Layers.{Layers}
use Rattle.chain_core.specs.declared.merge_start.MergeStartRefusal.TheVariants.{Begin, Plan, Spent}
use Rattle.chain_core.proofs.Beginning.{by_recursion}
use Rattle.chain_core.proofs.MergePlanned.{by_index, stayed}
use Rattle.chain_core.proofs.MergeSplit.{first_alike, rest_alike}
use Rattle.chain_core.proofs.MergeTold.{served_at, told_self}
use Rattle.chain_core.proofs.Spending.{both_none, low_of}

-- the files of a merge are told by the chain's
same_merge : (m n : LeafFiles) → leaf_chain m ≡ leaf_chain n → m ≡ n
same_merge m n files =
    let later = rest_alike m.source n.source (m.target ∷ m.below) (n.target ∷ n.below) files in
    ap (λ (f : LinkedFile). (let x : LeafFiles = record m { source = f } in x)) (first_alike m.source n.source (m.target ∷ m.below) (n.target ∷ n.below) files)
    ∙ ap (λ (f : LinkedFile). (let x : LeafFiles = record n { target = f; below = m.below } in x)) (first_alike m.target n.target m.below n.below later)
    ∙ ap (λ (l : List LinkedFile). (let x : LeafFiles = record n { below = l } in x)) (rest_alike m.target n.target m.below n.below later)

-- refused before anything is drawn
pub spent_start : (files : List LinkedFile) (old : Disk) (drawn : Option (List (List ℕ))) (number : ℕ) → CanStart files old → spent_leaf files ≡ Some number → StartsWithLeafMerge files old old drawn drawn (Err (Spent number))
spent_start files old drawn number can is = record { moments = stayed files old old can refl; started = tt; err = (is, refl, refl) }

-- refused by the plan
told_stays : (files : List LinkedFile) (old new : Disk) (m : LeafFiles) (ids : LeafMergeIds) (refusal : PrepareRefusal) → StopsLeaf files old new m ids refusal → new.told ≡ old.told
told_stays files old new m ids plan.NotInChain r = absurd r
told_stays files old new m ids plan.IsBase r = absurd r
told_stays files old new m ids plan.LeafSource r = absurd r
told_stays files old new m ids (plan.LocatorTooLarge len) r = ap (λ (d : Disk). d.told) r.1
told_stays files old new m ids (plan.MetadataFull file) r = ap (λ (d : Disk). d.told) r.1
told_stays files old new m ids (plan.IdUnfit id) r = ap (λ (d : Disk). d.told) r.1
told_stays files old new m ids (plan.Store fault) r = ap (λ (d : Disk). d.told) r.1.1.stays
told_stays files old new m ids plan.NoRoom r = ap (λ (d : Disk). d.told) r

pub unplanned : (files : List LinkedFile) (old new : Disk) (before now : Option (List (List ℕ))) (refusal : PrepareRefusal) → CanStart files old → spent_leaf files ≡ None → IsLeafStopped files old new before now refusal
    → StartsWithLeafMerge files old new before now (Err (Plan refusal))
unplanned files old new before now refusal can none r = record { moments = stayed files old new can (told_stays files old new r.m r.ids refusal r.why); started = tt; err = (none, r) }

-- ---- a plan, and the files parted

module _ (files : List LinkedFile) (old : Disk) (before now : Option (List (List ℕ))) (merge : LeafMerge) (can : CanStart files old) (none : spent_leaf files ≡ None) (planned : IsLeafPlanned files old before now merge)
    (n : LeafFiles) (files_are : leaf_chain n ≡ files) where
  same : planned.m ≡ n
  same = same_merge planned.m n (sym planned.begun.files_are ∙ sym files_are)

  plans : PlansLeafMerge files old before now n merge
  plans = record {
    unspent = none;
    begun = subst (λ (m : LeafFiles). IsLeafBegun files before now m merge.ids) same planned.begun;
    plan = subst (λ (m : LeafFiles). HasLeafPlan files old m merge) same planned.plan;
  }

  can_of : CanStart (leaf_chain n) old
  can_of = subst (λ (fs : List LinkedFile). CanStart fs old) (sym files_are) can

  pub plan_at : (mid : Disk) → mid ≡ old → HasLeafPlan (leaf_chain n) mid n merge
  plan_at mid stays = subst (λ (d : Disk). HasLeafPlan (leaf_chain n) d n merge) (sym stays) (subst (λ (fs : List LinkedFile). HasLeafPlan fs old n merge) (sym files_are) plans.plan)

  pub low : AreBothLow n
  low =
      let two = both_none (high_of n.source) (high_of n.target) (subst (λ (fs : List LinkedFile). spent_leaf fs ≡ None) (sym files_are) none) in
      record { leaf = low_of n.source two.0; target = low_of n.target two.1 }

  pub leaf_numbers : HasNumbers n.source.parts
  leaf_numbers = (served_at old (leaf_chain n) [] n.source (n.target ∷ n.below) can_of refl).numbers

  pub below_served : All IsServed n.below
  below_served = by_index IsServed n.below (by_recursion IsServed (leaf_chain n) can_of.served).1.1

  -- nothing was written yet
  pub no_room : (mid : Disk) → mid ≡ old → StartsWithLeafMerge files old mid before now (Err (Begin NoRoom))
  no_room mid stays = record {
    moments = stayed files old mid can (ap (λ (d : Disk). d.told) stays);
    started = tt;
    err = record {
      m = n;
      merge = merge;
      planned = plans;
      still = subst (λ (t : Option Trace). LeavesAllBut is_first_two old.told t) (sym (ap (λ (d : Disk). d.told) stays))
          (told_self (λ trace now. (other : ℕ) → is_first_two other ≡ false → file_of now other ≡ file_of trace other) (λ a other un. refl) old.told);
      fails = stays ∙ ap (λ (t : Option Trace). (let d : Disk = record old { told = t } in d)) (sym (ap (λ (d : Disk). d.told) stays));
    };
  }

  module _ (mid new : Disk) (stays : mid ≡ old) where
    begins_from : (result : Result Layers SealFault) → BeginsLeafMerge n merge mid new result → BeginsLeafMerge n merge old new result
    begins_from result b = subst (λ (d : Disk). BeginsLeafMerge n merge d new result) stays b

    moments_from : (result : Result Layers SealFault) → BeginsLeafMerge n merge mid new result → EachOpensAlike files old.told new.told
    moments_from result b = subst (λ (fs : List LinkedFile). EachOpensAlike fs old.told new.told) files_are (begins_from result b).moments

    pub not_begun : (fault : SealFault) → BeginsLeafMerge n merge mid new (Err fault) → StartsWithLeafMerge files old new before now (Err (Begin fault))
    not_begun fault b = let o = begins_from (Err fault) b in record {
      moments = moments_from (Err fault) b;
      started = tt;
      err = record { m = n; merge = merge; planned = plans; still = o.still; fails = o.err };
    }

    pub has_started : (layers : Layers) → BeginsLeafMerge n merge mid new (Ok layers) → StartsWithLeafMerge files old new before now (Ok layers)
    has_started layers b = let o = begins_from (Ok layers) b in record {
      moments = moments_from (Ok layers) b;
      started = record { m = n; merge = merge; planned = plans; still = o.still; begun = o.begun };
      err = tt;
    }
