-- The child's session, which is the leaf's where the child is the leaf, where a store may tell its content or not.
use Rattle.std.proofs.Common.{◌≡◌, ℕ, suc, true, false, List, [], ◌∷◌, length, sym, subst, ◌∙◌, arith}
use Rattle.std.proofs.lemmas.Bool.{lt-ltb}
use Rattle.std.specs.Prelude.{Option, Some, None, nat_lt, is_some}
use Rattle.vhdx_format.specs.declared.log_entry.Page.{Page}
use Rattle.store_model.specs.Disk.{WhereBothTold}
use Rattle.store_model.specs.Trace.{Trace}
use Rattle.link_rules.specs.declared.linked.LinkedFile.{LinkedFile}
use Rattle.layer_session.specs.declared.file.Layer.{Layer}
use Rattle.merge_plan.specs.Merging.{MergeFiles, source_place}
use Rattle.merge_plan.specs.declared.drawing.LogIds.{LogIds}
use Rattle.merge_plan.specs.declared.drawing.MergeIds.{MergeIds}
use Rattle.chain_core.specs.MergeStarting.{ChildBegun, ChildOver, target_place}
use Rattle.chain_core.proofs.MergePhases.{AtChild, AtTarget, child_is_leaf, child_opens, child_reaches}
use Rattle.chain_core.proofs.MergeStages.{OpenedBy}
use Rattle.store_model.proofs.Told.{both_and, both_join}
use Rattle.layer_session.proofs.Equal.{false_true, true_false}

-- files above the source, of which the child is the leaf
pub leaf_only : (n : ℕ) → false ≡ nat_lt 0 (suc n) → ⊥
leaf_only n h = let more : nat_lt 0 (suc n) ≡ true = lt-ltb 0 (suc n) (omega arith) in let never : false ≡ true = h ∙ more in absurd (false_true never)

child_after : (t0 : Trace) (above : List LinkedFile) (child source target : LinkedFile) (below : List LinkedFile) (ids : MergeIds) (pages : List Page) (inner : Option LogIds) (leaf source_layer target_layer : Layer) (l : Option Layer) (old now : Trace)
    → is_some inner ≡ nat_lt 0 (length above)
    → AtTarget t0 (record { above = above; child = child; source = source; target = target; below = below }) ids pages leaf source_layer target_layer old
    → ChildOver inner child.parts (length above) old now × ChildBegun inner child.parts (length above) l old now
    → AtChild t0 (record { above = above; child = child; source = source; target = target; below = below }) ids pages inner leaf source_layer target_layer l now
child_after t0 [] child source target below ids pages None leaf source_layer target_layer None old now some r b =
    subst (λ (t : Trace). AtChild t0 (record { above = []; child = child; source = source; target = target; below = below }) ids pages None leaf source_layer target_layer None t) (sym b.0)
    (child_is_leaf t0 child source target below ids pages None leaf source_layer target_layer old r)
child_after t0 [] child source target below ids pages None leaf source_layer target_layer (Some l) old now some r b = absurd b.1
child_after t0 [] child source target below ids pages (Some inner) leaf source_layer target_layer l old now some r b = absurd (let never : true ≡ false = some in true_false never)
child_after t0 (f ∷ above) child source target below ids pages None leaf source_layer target_layer l old now some r b = absurd (leaf_only (length above) some)
child_after t0 (f ∷ above) child source target below ids pages (Some inner) leaf source_layer target_layer None old now some r b = absurd b.1
child_after t0 (f ∷ above) child source target below ids pages (Some inner) leaf source_layer target_layer (Some l) old now some r b =
    child_reaches t0 f above child source target below ids pages inner leaf source_layer target_layer old now r b.0 l b.1

child_open : (t0 : Trace) (above : List LinkedFile) (child source target : LinkedFile) (below : List LinkedFile) (ids : MergeIds) (pages : List Page) (inner : Option LogIds) (leaf source_layer target_layer : Layer) (old now : Trace)
    → is_some inner ≡ nat_lt 0 (length above)
    → AtTarget t0 (record { above = above; child = child; source = source; target = target; below = below }) ids pages leaf source_layer target_layer old
    → ChildOver inner child.parts (length above) old now
    → OpenedBy (record { above = above; child = child; source = source; target = target; below = below })
    (length above ∷ target_place (record { above = above; child = child; source = source; target = target; below = below }) ∷ source_place (record { above = above; child = child; source = source; target = target; below = below })
    ∷ source_place (record { above = above; child = child; source = source; target = target; below = below }) ∷ 0 ∷ []) t0 now
child_open t0 [] child source target below ids pages None leaf source_layer target_layer old now some r over =
    let m : MergeFiles = record { above = []; child = child; source = source; target = target; below = below } in
    subst (λ (t : Trace). OpenedBy m (0 ∷ target_place m ∷ source_place m ∷ source_place m ∷ 0 ∷ []) t0 t) (sym over) (record { moments = r.moments; left = λ k apart. r.left k apart.1 })
child_open t0 [] child source target below ids pages (Some inner) leaf source_layer target_layer old now some r over = absurd (let never : true ≡ false = some in true_false never)
child_open t0 (f ∷ above) child source target below ids pages None leaf source_layer target_layer old now some r over = absurd (leaf_only (length above) some)
child_open t0 (f ∷ above) child source target below ids pages (Some inner) leaf source_layer target_layer old now some r over =
    child_opens t0 f above child source target below ids pages inner leaf source_layer target_layer old now r over

module _ (m : MergeFiles) (ids : MergeIds) (twice : List Page) (leaf source target : Layer) (x y z : Option Trace) (some : is_some ids.child ≡ nat_lt 0 (length m.above))
    (at : WhereBothTold (λ t. AtTarget t m ids twice leaf source target) x y) (over : WhereBothTold (ChildOver ids.child m.child.parts (length m.above)) y z) where
  pub child_told : WhereBothTold (OpenedBy m (length m.above ∷ target_place m ∷ source_place m ∷ source_place m ∷ 0 ∷ [])) x z
  child_told =
      both_join (λ t. AtTarget t m ids twice leaf source target) (ChildOver ids.child m.child.parts (length m.above)) (OpenedBy m (length m.above ∷ target_place m ∷ source_place m ∷ source_place m ∷ 0 ∷ []))
      x y z (λ a b c r o. child_open a m.above m.child m.source m.target m.below ids twice ids.child leaf source target b c some r o) at over

  pub child_stage : (l : Option Layer) → WhereBothTold (ChildBegun ids.child m.child.parts (length m.above) l) y z → WhereBothTold (λ t. AtChild t m ids twice ids.child leaf source target l) x z
  child_stage l begun =
      both_join (λ t. AtTarget t m ids twice leaf source target) (λ a b. ChildOver ids.child m.child.parts (length m.above) a b × ChildBegun ids.child m.child.parts (length m.above) l a b) (λ t. AtChild t m ids twice ids.child leaf source target l)
      x y z (λ a b c r o. child_after a m.above m.child m.source m.target m.below ids twice ids.child leaf source target l b c some r o) at
      (both_and (ChildOver ids.child m.child.parts (length m.above)) (ChildBegun ids.child m.child.parts (length m.above) l) y z over begun)
