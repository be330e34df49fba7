-- The three phases by which the merge of a leaf is prepared.
use Rattle.std.proofs.Common.{◌≢◌, ℕ, List, [], ◌∷◌, refl, arith}
use Rattle.std.specs.List.{AllByRecursion}
use Rattle.vhdx_format.specs.declared.log_entry.Page.{Page}
use Rattle.store_model.specs.File.{seen}
use Rattle.store_model.specs.Trace.{Trace, file_of}
use Rattle.guest_model.specs.Calls.{Disk}
use Rattle.chain_model.specs.Images.{Placed, members_of}
use Rattle.chain_model.specs.Members.{IsChain, IsChainOf, Way}
use Rattle.chain_model.proofs.Linking.{files_may_change}
use Rattle.layer_session.specs.Begins.{BeginsOver, HasBegun, as_found}
use Rattle.layer_session.specs.Updating.{HasUpdated, TurnsInto, UpdatesOver, laid_region, own_len}
use Rattle.layer_session.specs.declared.file.Layer.{Layer}
use Rattle.merge_plan.specs.Attached.{IsAsOpened}
use Rattle.merge_plan.specs.LeafMerging.{KeepsLeafLinked, LeafFiles}
use Rattle.merge_plan.specs.declared.leaf_drawing.LeafMergeIds.{LeafMergeIds}
use Rattle.chain_core.specs.LeafStarting.{heir_in, leaf_begun, leaf_chain, leaf_in, linked_ties}
use Rattle.chain_core.specs.MergeStarting.{data_session}
use Rattle.chain_core.specs.Starting.{opening_disk, placed_from, way_to}
use Rattle.chain_core.proofs.MergeFound.{IsFound, reached_first}
use Rattle.chain_core.proofs.Phases.{Opened, Pair, Reached, chain_top, chain_with, same_first}
use Rattle.chain_core.proofs.Stages.{begin_opens, begin_reaches, update_opens, update_reaches}
use Rattle.std.specs.Prelude.{None}

module _ (t0 : Trace) (m : LeafFiles) (ids : LeafMergeIds) (pages : List Page) where
  abbrev z : ℕ
  z = m.source.parts.geometry.sector

  abbrev opening : Disk
  opening = opening_disk t0 (leaf_chain m)

  abbrev name : Way
  name = way_to m.source (leaf_chain m) None

  abbrev leaf_found : Placed
  leaf_found = as_found t0 0 m.source.parts

  abbrev heir_found : Placed
  heir_found = as_found t0 1 m.target.parts

  abbrev rest : List Placed
  rest = placed_from t0 2 m.below

  abbrev begun : Placed
  begun = leaf_begun t0 m ids

  abbrev linked : Placed
  linked = leaf_in t0 m ids pages

  abbrev heir : Placed
  heir = heir_in t0 m ids

  abbrev pair : Layer → Placed → Pair
  pair l file = record { layer = l; file = file }

  -- ---- what is reached

  abbrev pub AtBegun : Layer → Trace → Type 0
  AtBegun leaf t = Reached z opening name (begun ∷ heir_found ∷ rest) (0 ∷ []) (pair leaf begun ∷ []) t0 t

  abbrev pub AtLinked : Layer → Trace → Type 0
  AtLinked leaf t = Reached z opening name (linked ∷ heir_found ∷ rest) (0 ∷ 0 ∷ []) (pair leaf linked ∷ []) t0 t

  abbrev pub AtHeir : Layer → Layer → Trace → Type 0
  AtHeir leaf target t = Reached z opening name (linked ∷ heir ∷ rest) (1 ∷ 0 ∷ 0 ∷ []) (pair target heir ∷ pair leaf linked ∷ []) t0 t

  -- ---- the leaf's session begins

  module _ (found : IsFound t0 (leaf_chain m)) (now : Trace) (over : BeginsOver m.source.parts (data_session ids.leaf) 0 t0 now) where
    at_rest : Reached z opening name (leaf_found ∷ heir_found ∷ rest) [] [] t0 t0
    at_rest = reached_first t0 m.source (m.target ∷ m.below) found

    begun_linked : IsChainOf name.name [] (members_of (begun ∷ heir_found ∷ rest))
    begun_linked = chain_top name.name leaf_found begun (heir_found ∷ rest) at_rest.served.linked refl refl refl refl refl

    pub begun_opens : Opened opening name (0 ∷ []) t0 now
    begun_opens = begin_opens z opening name t0 [] (heir_found ∷ rest) 0 m.source.parts (data_session ids.leaf) [] [] t0 now at_rest tt begun_linked over

    pub begun_reaches : (leaf : Layer) → HasBegun m.source.parts (data_session ids.leaf) 0 leaf t0 now → AtBegun leaf now
    begun_reaches leaf has = begin_reaches z opening name t0 [] (heir_found ∷ rest) 0 m.source.parts (data_session ids.leaf) [] [] t0 now at_rest tt begun_linked over leaf tt has

  -- the target, as it was opened
  pub heir_opened : IsFound t0 (leaf_chain m) → IsAsOpened t0 1 m.target
  heir_opened found = found.attached.each.1.0

  -- ---- the leaf is linked twice

  module _ (found : IsFound t0 (leaf_chain m)) (links : KeepsLeafLinked m ids.target.data_write) (leaf : Layer) (old now : Trace) (r : AtBegun leaf old)
      (into : TurnsInto (own_len leaf) pages begun (linked_ties m ids begun) (laid_region begun pages (seen (file_of t0 0)))) (over : UpdatesOver leaf pages old now) where
    relinked : IsChain (begun.member ∷ members_of (heir_found ∷ rest)) → IsChain (linked.member ∷ members_of (heir_found ∷ rest))
    relinked h =
        (links.found linked.member heir_found.member (record { parent = h.0.has; locator = refl; geometry = refl }) (record { name = (heir_opened found).name; id_is = refl; geometry = refl }), h.1)

    twice_linked : IsChainOf name.name [] (members_of (linked ∷ heir_found ∷ rest))
    twice_linked = chain_with name.name [] begun linked (heir_found ∷ rest) r.served.linked refl refl refl refl relinked

    pub linked_opens : Opened opening name (0 ∷ 0 ∷ []) t0 now
    linked_opens =
        update_opens z opening name t0 [] (heir_found ∷ rest) leaf begun (linked_ties m ids begun) (laid_region begun pages (seen (file_of t0 0))) pages (0 ∷ []) [] old now r into twice_linked over

    pub linked_reaches : (next : Layer) → HasUpdated leaf next pages old now → AtLinked next now
    linked_reaches next updated =
        update_reaches z opening name t0 [] (heir_found ∷ rest) leaf begun (linked_ties m ids begun) (laid_region begun pages (seen (file_of t0 0))) pages (0 ∷ []) [] old now r into twice_linked over next tt updated

  -- ---- the target's session begins

  one_not_zero : ◌≢◌ {A = ℕ} 1 0
  one_not_zero e = absurd (omega (arith, e))

  zero_not_one : ◌≢◌ {A = ℕ} 0 1
  zero_not_one e = absurd (omega (arith, e))

  module _ (found : IsFound t0 (leaf_chain m)) (links : KeepsLeafLinked m ids.target.data_write) (leaf : Layer) (old now : Trace) (r : AtLinked leaf old)
      (over : BeginsOver m.target.parts (data_session ids.target) 1 old now) where
    renewed : IsChain (linked.member ∷ members_of (heir_found ∷ rest)) → IsChain (linked.member ∷ members_of (heir ∷ rest))
    renewed h = (
      links.renewed linked.member heir.member (record { parent = h.0.has; locator = refl; geometry = refl }) (record { name = (heir_opened found).name; id_is = refl; geometry = refl }),
      same_first heir_found.member heir.member (members_of rest) refl refl refl h.1,
    )

    heir_linked : IsChainOf name.name [] (members_of (linked ∷ heir ∷ rest))
    heir_linked = files_may_change.leaf name.name [] linked.member linked.member (members_of (heir_found ∷ rest)) (members_of (heir ∷ rest)) r.served.linked refl refl refl (renewed r.served.linked.linked)

    apart : AllByRecursion (λ k. ◌≢◌ {A = ℕ} 1 k) (0 ∷ 0 ∷ [])
    apart = (one_not_zero, (one_not_zero, tt))

    pub heir_opens : Opened opening name (1 ∷ 0 ∷ 0 ∷ []) t0 now
    heir_opens = begin_opens z opening name t0 (linked ∷ []) rest 1 m.target.parts (data_session ids.target) (0 ∷ 0 ∷ []) (pair leaf linked ∷ []) old now r apart heir_linked over

    pub heir_reaches : (target : Layer) → HasBegun m.target.parts (data_session ids.target) 1 target old now → AtHeir leaf target now
    heir_reaches target has =
        begin_reaches z opening name t0 (linked ∷ []) rest 1 m.target.parts (data_session ids.target) (0 ∷ 0 ∷ []) (pair leaf linked ∷ []) old now r apart heir_linked over target (zero_not_one, tt) has
