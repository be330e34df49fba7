-- The phases that prepare the merge of a leaf, each behind those before it, where a store may tell its content or not.
use Rattle.std.proofs.Common.{◌≡◌, ◌≢◌, ℕ, false, List, [], ◌∷◌, arith}
use Rattle.std.specs.Prelude.{None, Option}
use Rattle.vhdx_format.specs.declared.log_entry.Page.{Page}
use Rattle.store_model.specs.Disk.{Disk, WhereBothTold, WhereTold}
use Rattle.store_model.specs.File.{seen}
use Rattle.store_model.specs.Trace.{EachMoment, Trace, file_of}
use Rattle.chain_model.specs.Moments.{EachOpens}
use Rattle.layer_session.specs.Begins.{BeginsOver, CanServe, HasBegun}
use Rattle.layer_session.specs.Updating.{HasUpdated, Turns, TurnsInto, UpdatesOver, laid_region, own_len}
use Rattle.layer_session.specs.declared.file.Layer.{Layer}
use Rattle.meta_edit.specs.Pages.{ArePages}
use Rattle.merge_plan.specs.Attached.{CanStart}
use Rattle.merge_plan.specs.LeafMerging.{KeepsLeafLinked, LeafFiles, linked_pairs}
use Rattle.merge_plan.specs.Merging.{GivesLocator}
use Rattle.merge_plan.specs.declared.leaf_drawing.LeafMergeIds.{LeafMergeIds}
use Rattle.merge_plan.proofs.Opened.{lie_within}
use Rattle.chain_core.specs.LeafStarting.{leaf_begun, leaf_chain, linked_ties}
use Rattle.chain_core.specs.MergeStarting.{data_session}
use Rattle.chain_core.specs.Starting.{EachOpensAlike, opening_disk, way_to}
use Rattle.chain_core.proofs.LeafPhases.{AtBegun, AtHeir, AtLinked, begun_opens, begun_reaches, heir_opens, heir_reaches, linked_opens, linked_reaches}
use Rattle.chain_core.proofs.MergeFound.{IsFound}
use Rattle.chain_core.proofs.MergeStages.{serve_on}
use Rattle.chain_core.proofs.MergeTold.{is_found, told_from, told_last}
use Rattle.chain_core.proofs.Phases.{Opened}
use Rattle.chain_core.proofs.Stages.{gives_turn}
use Rattle.store_model.proofs.Told.{both_and, both_from, both_join}

-- each moment opened, and none but these files was changed
abbrev pub OpenedOf : LeafFiles → List ℕ → Trace → Trace → Type 0
OpenedOf m numbers t now = Opened (opening_disk t (leaf_chain m)) (way_to m.source (leaf_chain m) None) numbers t now

pub moments_of : (m : LeafFiles) (numbers : List ℕ) (old new : Option Trace) → WhereBothTold (OpenedOf m numbers) old new → EachOpensAlike (leaf_chain m) old new
moments_of m numbers old new o = both_from (OpenedOf m numbers) (λ t now. EachMoment (EachOpens (way_to m.source (leaf_chain m) None) (λ s. false) (opening_disk t (leaf_chain m))) t now) old new (λ a b x. x.moments) o

module _ (m : LeafFiles) (ids : LeafMergeIds) (twice : List Page) (d : Disk) (can : CanStart (leaf_chain m) d) (links : KeepsLeafLinked m ids.target.data_write) where
  found : WhereTold d.told (λ t. IsFound t (leaf_chain m))
  found = is_found (leaf_chain m) d can

  -- ---- the leaf's session begins

  module _ (o : Option Trace) (over : WhereBothTold (BeginsOver m.source.parts (data_session ids.leaf) 0) d.told o) where
    pub begun_told : WhereBothTold (OpenedOf m (0 ∷ [])) d.told o
    begun_told = told_from (λ t. IsFound t (leaf_chain m)) (BeginsOver m.source.parts (data_session ids.leaf) 0) (OpenedOf m (0 ∷ [])) (λ a b are x. begun_opens a m ids twice are b x) d.told o found over

    pub begun_stage : (leaf : Layer) → WhereBothTold (HasBegun m.source.parts (data_session ids.leaf) 0 leaf) d.told o → WhereBothTold (λ t. AtBegun t m ids twice leaf) d.told o
    begun_stage leaf begun =
        told_from (λ t. IsFound t (leaf_chain m)) (λ a b. BeginsOver m.source.parts (data_session ids.leaf) 0 a b × HasBegun m.source.parts (data_session ids.leaf) 0 leaf a b) (λ t. AtBegun t m ids twice leaf)
        (λ a b are x. begun_reaches a m ids twice are b x.0 leaf x.1) d.told o found
        (both_and (BeginsOver m.source.parts (data_session ids.leaf) 0) (HasBegun m.source.parts (data_session ids.leaf) 0 leaf) d.told o over begun)

  -- ---- the leaf is linked twice, by pages that were built of it as it was found

  module _ (leaf : Layer) (o : Option Trace) (at : WhereBothTold (λ t. AtBegun t m ids twice leaf) d.told o) (table : leaf.tables.parts.bat_len ≡ m.source.parts.bat_len) (pages : ArePages m.source.parts twice)
      (gives : WhereTold d.told (λ t. GivesLocator m.source.parts (seen (file_of t 0)) (linked_pairs m ids.target.data_write) twice)) where
    abbrev Known : Trace → Type 0
    Known t = IsFound t (leaf_chain m) × GivesLocator m.source.parts (seen (file_of t 0)) (linked_pairs m ids.target.data_write) twice

    known : WhereTold d.told Known
    known t told = (found t told, gives t told)

    into : (a b : Trace) → Known a → AtBegun a m ids twice leaf b → TurnsInto (own_len leaf) twice (leaf_begun a m ids) (linked_ties m ids (leaf_begun a m ids)) (laid_region (leaf_begun a m ids) twice (seen (file_of a 0)))
    into a b k r =
        gives_turn leaf a b 0 m.source.parts (data_session ids.leaf) (linked_pairs m ids.target.data_write) twice r.serving.0 table (lie_within a 0 m.source k.0.attached.each.0).metadata pages k.1

    at_known : WhereBothTold (λ a b. Known a × AtBegun a m ids twice leaf b) d.told o
    at_known = told_from Known (λ t. AtBegun t m ids twice leaf) (λ a b. Known a × AtBegun a m ids twice leaf b) (λ a b k r. (k, r)) d.told o known at

    pub leaf_turned : WhereTold o (Turns leaf twice)
    leaf_turned =
        told_last (λ a b. Known a × AtBegun a m ids twice leaf b) (Turns leaf twice) (λ a b x. record {
          file = leaf_begun a m ids;
          ties = linked_ties m ids (leaf_begun a m ids);
          region = laid_region (leaf_begun a m ids) twice (seen (file_of a 0));
          serves = x.1.serving.0;
          into = into a b x.0 x.1;
        }) d.told o at_known

    module _ (p : Option Trace) (over : WhereBothTold (UpdatesOver leaf twice) o p) where
      pub linked_told : WhereBothTold (OpenedOf m (0 ∷ 0 ∷ [])) d.told p
      linked_told =
          both_join (λ a b. Known a × AtBegun a m ids twice leaf b) (UpdatesOver leaf twice) (OpenedOf m (0 ∷ 0 ∷ [])) d.told o p (λ a b c r x. linked_opens a m ids twice r.0.0 links leaf b c r.1 (into a b r.0 r.1) x) at_known over

      pub linked_stage : (next : Layer) → WhereBothTold (HasUpdated leaf next twice) o p → WhereBothTold (λ t. AtLinked t m ids twice next) d.told p
      linked_stage next updated =
          both_join (λ a b. Known a × AtBegun a m ids twice leaf b) (λ a b. UpdatesOver leaf twice a b × HasUpdated leaf next twice a b) (λ t. AtLinked t m ids twice next)
          d.told o p (λ a b c r x. linked_reaches a m ids twice r.0.0 links leaf b c r.1 (into a b r.0 r.1) x.0 next x.1) at_known
          (both_and (UpdatesOver leaf twice) (HasUpdated leaf next twice) o p over updated)

  -- ---- the target's session begins

  module _ (leaf : Layer) (o : Option Trace) (at : WhereBothTold (λ t. AtLinked t m ids twice leaf) d.told o) where
    not_leaf : ◌≢◌ {A = ℕ} 1 0
    not_leaf e = absurd (omega (arith, e))

    pub heir_serves : WhereTold d.told (CanServe m.target.parts ids.target.log 1) → WhereTold o (CanServe m.target.parts ids.target.log 1)
    heir_serves = serve_on d.told m.target.parts ids.target.log 1 (λ t. AtLinked t m ids twice leaf) (λ a b r. r.left 1 (not_leaf, (not_leaf, tt))) o at

    both : WhereBothTold (λ a b. IsFound a (leaf_chain m) × AtLinked a m ids twice leaf b) d.told o
    both = told_from (λ t. IsFound t (leaf_chain m)) (λ t. AtLinked t m ids twice leaf) (λ a b. IsFound a (leaf_chain m) × AtLinked a m ids twice leaf b) (λ a b k r. (k, r)) d.told o found at

    module _ (p : Option Trace) (over : WhereBothTold (BeginsOver m.target.parts (data_session ids.target) 1) o p) where
      pub heir_told : WhereBothTold (OpenedOf m (1 ∷ 0 ∷ 0 ∷ [])) d.told p
      heir_told =
          both_join (λ a b. IsFound a (leaf_chain m) × AtLinked a m ids twice leaf b) (BeginsOver m.target.parts (data_session ids.target) 1) (OpenedOf m (1 ∷ 0 ∷ 0 ∷ []))
          d.told o p (λ a b c r x. heir_opens a m ids twice r.0 links leaf b c r.1 x) both over

      pub heir_stage : (target : Layer) → WhereBothTold (HasBegun m.target.parts (data_session ids.target) 1 target) o p → WhereBothTold (λ t. AtHeir t m ids twice leaf target) d.told p
      heir_stage target begun =
          both_join (λ a b. IsFound a (leaf_chain m) × AtLinked a m ids twice leaf b) (λ a b. BeginsOver m.target.parts (data_session ids.target) 1 a b × HasBegun m.target.parts (data_session ids.target) 1 target a b)
          (λ t. AtHeir t m ids twice leaf target) d.told o p (λ a b c r x. heir_reaches a m ids twice r.0 links leaf b c r.1 x.0 target x.1) both
          (both_and (BeginsOver m.target.parts (data_session ids.target) 1) (HasBegun m.target.parts (data_session ids.target) 1 target) o p over begun)
