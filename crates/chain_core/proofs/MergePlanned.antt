-- A merge that was planned over a chain's files, as the merge of those files parted round its source.
use Rattle.std.proofs.Common.{is_some, nat_lt, ◌≡◌, ℕ, zero, suc, ◌<◌, false, List, [], ◌∷◌, length, get_or, refl, sym, ap, subst, ◌∙◌, arith}
use Rattle.std.specs.Prelude.{Option, Some, None, All, Result, Ok, Err}
use Rattle.std.specs.List.{AllByRecursion}
use Rattle.chain_model.proofs.Showing.{all_left, all_right}
use Rattle.vhdx_format.specs.FileParts.{HasNumbers}
use Rattle.store_model.specs.Disk.{Disk}
use Rattle.store_model.specs.Trace.{Trace, file_of}
use Rattle.store_model.specs.declared.fault.SealFault.{SealFault}
use Rattle.store_model.specs.declared.fault.SealFault.TheVariants.{NoRoom}
use Rattle.link_rules.specs.Effects.{IsServed}
use Rattle.link_rules.specs.declared.linked.LinkedFile.{LinkedFile}
use Rattle.merge_plan.specs.Attached.{CanStart}
use Rattle.merge_plan.specs.Merging.{MergeFiles, source_place}
use Rattle.merge_plan.specs.Planning.{HasPlan, IsBegun, IsPlanned, Refuses}
use Rattle.merge_plan.specs.declared.merge.Merge.{Merge}
use Rattle.merge_plan.specs.declared.refusal.PrepareRefusal.{PrepareRefusal}
use Rattle.merge_plan.specs.declared.refusal.PrepareRefusal.TheVariants as plan
use Rattle.chain_core.specs.MergeStarting.{AreLow, BeginsMerge, LeavesRest, PlansMerge, StartsWithMerge, behind_first, chain_files, is_changed, leaf_of, spent}
use Rattle.chain_core.specs.Starting.{EachOpensAlike}
use Rattle.chain_core.specs.declared.layers.Layers.{Layers}
use Rattle.chain_core.specs.declared.merge_start.MergeStartRefusal.TheVariants.{Begin, Plan, Spent}
use Rattle.chain_core.proofs.Beginning.{by_recursion, files_rest}
use Rattle.chain_core.proofs.MergeFound.{files_split, lower_files}
use Rattle.chain_core.proofs.MergeLayers.{all_behind}
use Rattle.chain_core.proofs.MergeSplit.{same_merge}
use Rattle.chain_core.proofs.MergeTold.{served_at, told_self}
use Rattle.chain_core.proofs.Spending.{are_low}

pub by_index : {A : Type 0} (P : A → Type 0) (xs : List A) → AllByRecursion P xs → (k : ℕ) (d : A) → k < length xs → P (get_or xs k d)
by_index P [] all k d less = absurd (omega (arith, less))
by_index P (x ∷ xs) all zero d less = all.0
by_index P (x ∷ xs) all (suc k) d less = by_index P xs all.1 k d (omega (arith, less))

pub none_of : (o : Option ℕ) → ((n : ℕ) → o ≡ Some n → ⊥) → o ≡ None
none_of None not = refl
none_of (Some n) not = absurd (not n refl)

-- the store's content stays
pub stayed : (files : List LinkedFile) (old new : Disk) → CanStart files old → new.told ≡ old.told → EachOpensAlike files old.told new.told
stayed files old new can same = subst (λ (t : Option Trace). EachOpensAlike files old.told t) (sym same) (files_rest files old can)

-- refused before anything is drawn
pub spent_start : (files : List LinkedFile) (name : List ℕ) (old : Disk) (drawn : Option (List (List ℕ))) (number : ℕ) → CanStart files old → spent files name ≡ Some number → StartsWithMerge files name old old drawn drawn (Err (Spent number))
spent_start files name old drawn number can is = record { moments = stayed files old old can refl; started = tt; err = (is, refl, refl) }

-- refused by the plan
told_stays : (files : List LinkedFile) (name : List ℕ) (old new : Disk) (before now : Option (List (List ℕ))) (refusal : PrepareRefusal) → Refuses files name old new before now refusal → new.told ≡ old.told
told_stays files name old new before now plan.NotInChain r = ap (λ (d : Disk). d.told) r.2
told_stays files name old new before now plan.IsBase r = ap (λ (d : Disk). d.told) r.2
told_stays files name old new before now plan.LeafSource r = ap (λ (d : Disk). d.told) r.2
told_stays files name old new before now (plan.LocatorTooLarge len) r = ap (λ (d : Disk). d.told) r.why.1
told_stays files name old new before now (plan.MetadataFull file) r = ap (λ (d : Disk). d.told) r.why.1
told_stays files name old new before now (plan.IdUnfit id) r = ap (λ (d : Disk). d.told) r.why.1
told_stays files name old new before now (plan.Store fault) r = ap (λ (d : Disk). d.told) r.why.1.1.stays
told_stays files name old new before now plan.NoRoom r = ap (λ (d : Disk). d.told) r.why

pub unplanned : (files : List LinkedFile) (name : List ℕ) (old new : Disk) (before now : Option (List (List ℕ))) (refusal : PrepareRefusal) → CanStart files old → spent files name ≡ None → Refuses files name old new before now refusal
    → StartsWithMerge files name old new before now (Err (Plan refusal))
unplanned files name old new before now refusal can none r = record { moments = stayed files old new can (told_stays files name old new before now refusal r); started = tt; err = (none, r) }

-- ---- a plan, and the files parted

module _ (files : List LinkedFile) (name : List ℕ) (old : Disk) (before now : Option (List (List ℕ))) (merge : Merge) (can : CanStart files old) (none : spent files name ≡ None) (planned : IsPlanned files name old before now merge)
    (n : MergeFiles) (files_are : chain_files n ≡ files) (place : source_place n ≡ merge.source) where
  same : planned.m ≡ n
  same = same_merge planned.m n (sym planned.begun.files_are.files_are ∙ sym files_are) (sym planned.plan.place ∙ sym place)

  begun : IsBegun files name before now n merge.ids
  begun = subst (λ (m : MergeFiles). IsBegun files name before now m merge.ids) same planned.begun

  plan_of : HasPlan files old n merge
  plan_of = subst (λ (m : MergeFiles). HasPlan files old m merge) same planned.plan

  pub plans : PlansMerge files name old before now n merge
  plans = record { unspent = none; begun = begun; plan = plan_of }

  can_of : CanStart (chain_files n) old
  can_of = subst (λ (fs : List LinkedFile). CanStart fs old) (sym files_are) can

  pub can_at : (mid : Disk) → mid ≡ old → CanStart (chain_files n) mid
  can_at mid stays = subst (λ (d : Disk). CanStart (chain_files n) d) (sym stays) can_of

  pub child_some : is_some merge.ids.child ≡ nat_lt 0 (length n.above)
  child_some = begun.child

  pub plan_at : (mid : Disk) → mid ≡ old → HasPlan (chain_files n) mid n merge
  plan_at mid stays = subst (λ (d : Disk). HasPlan (chain_files n) d n merge) (sym stays) (subst (λ (fs : List LinkedFile). HasPlan fs old n merge) (sym files_are) plan_of)

  pub low : AreLow n
  low = are_low n (subst (λ (fs : List LinkedFile). spent fs n.source.name ≡ None) (sym files_are) (subst (λ (x : List ℕ). spent files x ≡ None) (sym begun.files_are.named) none))

  all_served : AllByRecursion IsServed (chain_files n)
  all_served = by_recursion IsServed (chain_files n) can_of.served

  pub leaf_numbers : (top : LinkedFile) → top ≡ leaf_of n → HasNumbers top.parts
  leaf_numbers top is = subst (λ (f : LinkedFile). HasNumbers f.parts) (sym is) (served_at old (chain_files n) [] (leaf_of n) (lower_files n) can_of (files_split n)).numbers

  pub above_served : (above : List LinkedFile) → above ≡ behind_first n.above → All IsServed above
  above_served above is =
      subst (λ (fs : List LinkedFile). All IsServed fs) (sym is)
      (by_index IsServed (behind_first n.above) (all_behind IsServed n.above (all_left IsServed n.above (n.child ∷ n.source ∷ n.target ∷ n.below) all_served)))

  pub below_served : All IsServed n.below
  below_served = by_index IsServed n.below (all_right IsServed n.above (n.child ∷ n.source ∷ n.target ∷ n.below) all_served).1.1.1

  -- nothing was written yet
  pub no_room : (mid : Disk) → mid ≡ old → StartsWithMerge files name old mid before now (Err (Begin NoRoom))
  no_room mid stays = record {
    moments = stayed files old mid can (ap (λ (d : Disk). d.told) stays);
    started = tt;
    err = record {
      m = n;
      merge = merge;
      planned = plans;
      still = subst (λ (t : Option Trace). LeavesRest n old.told t) (sym (ap (λ (d : Disk). d.told) stays)) (told_self (λ trace now. (other : ℕ) → is_changed n other ≡ false → file_of now other ≡ file_of trace other) (λ a other un. refl) old.told);
      fails = stays ∙ ap (λ (t : Option Trace). (let d : Disk = record old { told = t } in d)) (sym (ap (λ (d : Disk). d.told) stays));
    };
  }

  module _ (mid new : Disk) (stays : mid ≡ old) where
    begins_from : (result : Result Layers SealFault) → BeginsMerge n merge mid new result → BeginsMerge n merge old new result
    begins_from result b = subst (λ (d : Disk). BeginsMerge n merge d new result) stays b

    moments_from : (result : Result Layers SealFault) → BeginsMerge n merge mid new result → EachOpensAlike files old.told new.told
    moments_from result b = subst (λ (fs : List LinkedFile). EachOpensAlike fs old.told new.told) files_are (begins_from result b).moments

    pub not_begun : (fault : SealFault) → BeginsMerge n merge mid new (Err fault) → StartsWithMerge files name old new before now (Err (Begin fault))
    not_begun fault b = let o = begins_from (Err fault) b in record {
      moments = moments_from (Err fault) b;
      started = tt;
      err = record { m = n; merge = merge; planned = plans; still = o.still; fails = o.err };
    }

    pub has_begun : (layers : Layers) → BeginsMerge n merge mid new (Ok layers) → StartsWithMerge files name old new before now (Ok layers)
    has_begun layers b = let o = begins_from (Ok layers) b in record {
      moments = moments_from (Ok layers) b;
      started = record { m = n; merge = merge; planned = plans; still = o.still; begun = o.begun };
      err = tt;
    }
