-- The six phases by which a merge in the middle of a chain is prepared.
use Rattle.std.proofs.Common.{◌≡◌, ◌≢◌, ℕ, ◌+◌, List, [], ◌∷◌, ◌++◌, length, refl, sym, subst}
use Rattle.std.proofs.lemmas.List.{append_assoc}
use Rattle.std.specs.Prelude.{Option, Some, None}
use Rattle.std.specs.List.{AllByRecursion}
use Rattle.vhdx_format.specs.declared.log_entry.Page.{Page}
use Rattle.store_model.specs.File.{seen}
use Rattle.store_model.specs.Trace.{Trace, file_of}
use Rattle.guest_model.specs.Calls.{Disk}
use Rattle.chain_model.specs.Images.{Placed, members_of}
use Rattle.chain_model.specs.Members.{IsChain, IsChainOf, Way}
use Rattle.chain_model.specs.Sessions.{HasGoneOver}
use Rattle.layer_session.specs.Begins.{BeginsOver, HasBegun, as_found, in_session}
use Rattle.layer_session.specs.Calls.{KeepsOver}
use Rattle.layer_session.specs.Keeping.{Serves}
use Rattle.layer_session.specs.Updating.{HasUpdated, TurnsInto, UpdatesOver, laid_region, own_len}
use Rattle.layer_session.specs.declared.file.Layer.{Layer}
use Rattle.link_rules.specs.declared.linked.LinkedFile.{LinkedFile}
use Rattle.merge_plan.specs.Merging.{KeepsLinks, MergeFiles, source_place}
use Rattle.merge_plan.specs.declared.drawing.LogIds.{LogIds}
use Rattle.merge_plan.specs.declared.drawing.MergeIds.{MergeIds}
use Rattle.chain_core.specs.MergeStarting.{between_in, chain_files, data_session, inner_parts, leaf_of, log_session, source_begun, source_in, target_in, target_place, top_in, twice_ties}
use Rattle.chain_core.specs.Starting.{opening_disk, placed_from, way_to}
use Rattle.chain_core.proofs.Numbers.{next_not_same, next_not_zero, same_not_next, same_not_second, second_not_same, suc_not_zero, zero_not_next, zero_not_suc}
use Rattle.chain_core.proofs.MergeFound.{AreFound, between_found, reached_none, rest_found, source_found, target_found, target_opened, top_found}
use Rattle.chain_core.proofs.Phases.{Opened, Pair, Reached, chain_below, chain_top, chain_with, same_first, with_pairs}
use Rattle.chain_core.proofs.Stages.{begin_opens, begin_reaches, close_opens, close_reaches, update_opens, update_reaches}

module _ (t0 : Trace) (m : MergeFiles) (ids : MergeIds) (pages : List Page) where
  abbrev z : ℕ
  z = (leaf_of m).parts.geometry.sector

  abbrev opening : Disk
  opening = opening_disk t0 (chain_files m)

  abbrev name : Way
  name = way_to (leaf_of m) (chain_files m) None

  abbrev sp : ℕ
  sp = source_place m

  abbrev tp : ℕ
  tp = target_place m

  abbrev rest : List Placed
  rest = rest_found t0 m

  abbrev found : List Placed
  found = between_found t0 m.above m.child

  abbrev inside : List Placed
  inside = between_in t0 m.above m.child ids.child

  abbrev pair : Layer → Placed → Pair
  pair l file = record { layer = l; file = file }

  -- ---- what is reached

  abbrev pub AtLeaf : Layer → Trace → Type 0
  AtLeaf leaf t = Reached z opening name ((top_in t0 m ids ∷ found) ++ source_found t0 m ∷ target_found t0 m ∷ rest) (0 ∷ []) (pair leaf (top_in t0 m ids) ∷ []) t0 t

  abbrev pub AtSource : Layer → Layer → Trace → Type 0
  AtSource leaf source t =
      Reached z opening name ((top_in t0 m ids ∷ found) ++ source_begun t0 m ids ∷ target_found t0 m ∷ rest) (sp ∷ 0 ∷ []) (pair source (source_begun t0 m ids) ∷ pair leaf (top_in t0 m ids) ∷ []) t0 t

  abbrev pub AtLocator : Layer → Layer → Trace → Type 0
  AtLocator leaf source t =
      Reached z opening name ((top_in t0 m ids ∷ found) ++ source_in t0 m ids pages ∷ target_found t0 m ∷ rest) (sp ∷ sp ∷ 0 ∷ [])
      (pair source (source_in t0 m ids pages) ∷ pair leaf (top_in t0 m ids) ∷ []) t0 t

  abbrev pub AtTarget : Layer → Layer → Layer → Trace → Type 0
  AtTarget leaf source target t =
      Reached z opening name ((top_in t0 m ids ∷ found) ++ source_in t0 m ids pages ∷ target_in t0 m ids ∷ rest) (tp ∷ sp ∷ sp ∷ 0 ∷ [])
      (pair target (target_in t0 m ids) ∷ pair source (source_in t0 m ids pages) ∷ pair leaf (top_in t0 m ids) ∷ []) t0 t

  -- ---- the leaf's session begins

  module _ (are : AreFound t0 m) (now : Trace) (over : BeginsOver (leaf_of m).parts (data_session ids.leaf) 0 t0 now) where
    leaf_linked : IsChainOf name.name [] (members_of (top_in t0 m ids ∷ (found ++ source_found t0 m ∷ target_found t0 m ∷ rest)))
    leaf_linked = chain_top name.name (top_found t0 m) (top_in t0 m ids) (found ++ source_found t0 m ∷ target_found t0 m ∷ rest) (reached_none t0 m are).served.linked refl refl refl refl refl

    pub leaf_opens : Opened opening name (0 ∷ []) t0 now
    leaf_opens = begin_opens z opening name t0 [] (found ++ source_found t0 m ∷ target_found t0 m ∷ rest) 0 (leaf_of m).parts (data_session ids.leaf) [] [] t0 now (reached_none t0 m are) tt leaf_linked over

    pub leaf_reaches : (leaf : Layer) → HasBegun (leaf_of m).parts (data_session ids.leaf) 0 leaf t0 now → AtLeaf leaf now
    leaf_reaches leaf begun = begin_reaches z opening name t0 [] (found ++ source_found t0 m ∷ target_found t0 m ∷ rest) 0 (leaf_of m).parts (data_session ids.leaf) [] [] t0 now (reached_none t0 m are) tt leaf_linked over leaf tt begun

  -- ---- the source's session begins

  module _ (leaf : Layer) (old now : Trace) (r : AtLeaf leaf old) (over : BeginsOver m.source.parts (log_session ids.source) sp old now) where
    source_linked : IsChainOf name.name [] (members_of ((top_in t0 m ids ∷ found) ++ source_begun t0 m ids ∷ target_found t0 m ∷ rest))
    source_linked =
        chain_with name.name (top_in t0 m ids ∷ found) (source_found t0 m) (source_begun t0 m ids) (target_found t0 m ∷ rest) r.served.linked refl refl refl refl
        (same_first (source_found t0 m).member (source_begun t0 m ids).member (members_of (target_found t0 m ∷ rest)) refl refl refl)

    source_apart : AllByRecursion (λ k. sp ≢ k) (0 ∷ [])
    source_apart = (next_not_zero (length m.above), tt)

    leaf_apart : AllByRecursion (λ (p : Pair). p.file.number ≢ sp) (pair leaf (top_in t0 m ids) ∷ [])
    leaf_apart = (zero_not_next (length m.above), tt)

    pub source_opens : Opened opening name (sp ∷ 0 ∷ []) t0 now
    source_opens =
        begin_opens z opening name t0 (top_in t0 m ids ∷ found) (target_found t0 m ∷ rest) sp m.source.parts (log_session ids.source) (0 ∷ []) (pair leaf (top_in t0 m ids) ∷ []) old now r source_apart source_linked over

    pub source_reaches : (source : Layer) → HasBegun m.source.parts (log_session ids.source) sp source old now → AtSource leaf source now
    source_reaches source begun =
        begin_reaches z opening name t0 (top_in t0 m ids ∷ found) (target_found t0 m ∷ rest) sp m.source.parts (log_session ids.source) (0 ∷ []) (pair leaf (top_in t0 m ids) ∷ []) old now r source_apart source_linked over source leaf_apart begun

  -- ---- the source is linked twice

  module _ (are : AreFound t0 m) (links : KeepsLinks m ids.target.data_write) (leaf source : Layer) (old now : Trace) (r : AtSource leaf source old)
      (into : TurnsInto (own_len source) pages (source_begun t0 m ids) (twice_ties m ids (source_begun t0 m ids)) (laid_region (source_begun t0 m ids) pages (seen (file_of t0 sp)))) (over : UpdatesOver source pages old now) where
    relinked : IsChain ((source_begun t0 m ids).member ∷ members_of (target_found t0 m ∷ rest)) → IsChain ((source_in t0 m ids pages).member ∷ members_of (target_found t0 m ∷ rest))
    relinked h =
        (links.found (source_in t0 m ids pages).member (target_found t0 m).member (record { parent = h.0.has; locator = refl; geometry = refl }) (record { name = (target_opened t0 m are).name; id_is = refl; geometry = refl }), h.1)

    locator_linked : IsChainOf name.name [] (members_of ((top_in t0 m ids ∷ found) ++ source_in t0 m ids pages ∷ target_found t0 m ∷ rest))
    locator_linked = chain_with name.name (top_in t0 m ids ∷ found) (source_begun t0 m ids) (source_in t0 m ids pages) (target_found t0 m ∷ rest) r.served.linked refl refl refl refl relinked

    pub locator_opens : Opened opening name (sp ∷ sp ∷ 0 ∷ []) t0 now
    locator_opens =
        update_opens z opening name t0 (top_in t0 m ids ∷ found) (target_found t0 m ∷ rest) source (source_begun t0 m ids) (twice_ties m ids (source_begun t0 m ids)) (laid_region (source_begun t0 m ids) pages (seen (file_of t0 sp))) pages
        (sp ∷ 0 ∷ []) (pair leaf (top_in t0 m ids) ∷ []) old now r into locator_linked over

    pub locator_reaches : (next : Layer) → HasUpdated source next pages old now → AtLocator leaf next now
    locator_reaches next updated =
        update_reaches z opening name t0 (top_in t0 m ids ∷ found) (target_found t0 m ∷ rest) source (source_begun t0 m ids) (twice_ties m ids (source_begun t0 m ids)) (laid_region (source_begun t0 m ids) pages (seen (file_of t0 sp))) pages
        (sp ∷ 0 ∷ []) (pair leaf (top_in t0 m ids) ∷ []) old now r into locator_linked over next (zero_not_next (length m.above), tt) updated

  -- ---- the target's session begins

  module _ (are : AreFound t0 m) (links : KeepsLinks m ids.target.data_write) (leaf source : Layer) (old now : Trace) (r : AtLocator leaf source old)
      (over : BeginsOver m.target.parts (data_session ids.target) tp old now) where
    abbrev front : List Placed
    front = (top_in t0 m ids ∷ found) ++ source_in t0 m ids pages ∷ []

    parted : (x : Placed) → front ++ x ∷ rest ≡ (top_in t0 m ids ∷ found) ++ source_in t0 m ids pages ∷ x ∷ rest
    parted x = append_assoc (top_in t0 m ids ∷ found) (source_in t0 m ids pages ∷ []) (x ∷ rest)

    abbrev R : List ℕ → List Pair → Trace → List Placed → Type 0
    R numbers pairs t c = Reached z opening name c numbers pairs t0 t

    r' : R (sp ∷ sp ∷ 0 ∷ []) (pair source (source_in t0 m ids pages) ∷ pair leaf (top_in t0 m ids) ∷ []) old (front ++ target_found t0 m ∷ rest)
    r' = subst (R (sp ∷ sp ∷ 0 ∷ []) (pair source (source_in t0 m ids pages) ∷ pair leaf (top_in t0 m ids) ∷ []) old) (sym (parted (target_found t0 m))) r

    renewed : IsChain ((source_in t0 m ids pages).member ∷ (target_found t0 m).member ∷ members_of rest) → IsChain ((source_in t0 m ids pages).member ∷ (target_in t0 m ids).member ∷ members_of rest)
    renewed h = (
      links.renewed (source_in t0 m ids pages).member (target_in t0 m ids).member (record { parent = h.0.has; locator = refl; geometry = refl }) (record { name = (target_opened t0 m are).name; id_is = refl; geometry = refl }),
      same_first (target_found t0 m).member (target_in t0 m ids).member (members_of rest) refl refl refl h.1,
    )

    target_linked : IsChainOf name.name [] (members_of (front ++ target_in t0 m ids ∷ rest))
    target_linked =
        subst (λ (c : List Placed). IsChainOf name.name [] (members_of c)) (sym (parted (target_in t0 m ids)))
        (chain_below name.name (top_in t0 m ids) found (source_in t0 m ids pages) (target_found t0 m) (target_in t0 m ids) rest r.served.linked refl renewed)

    target_apart : AllByRecursion (λ k. tp ≢ k) (sp ∷ sp ∷ 0 ∷ [])
    target_apart = (
      next_not_same (length m.above + 1),
      (
        next_not_same (length m.above + 1),
        (next_not_zero (length m.above + 1), tt),
      ),
    )

    pub target_opens : Opened opening name (tp ∷ sp ∷ sp ∷ 0 ∷ []) t0 now
    target_opens =
        begin_opens z opening name t0 front rest tp m.target.parts (data_session ids.target) (sp ∷ sp ∷ 0 ∷ []) (pair source (source_in t0 m ids pages) ∷ pair leaf (top_in t0 m ids) ∷ []) old now r' target_apart target_linked over

    pub target_reaches : (target : Layer) → HasBegun m.target.parts (data_session ids.target) tp target old now → AtTarget leaf source target now
    target_reaches target begun =
        subst (R (tp ∷ sp ∷ sp ∷ 0 ∷ []) (pair target (target_in t0 m ids) ∷ pair source (source_in t0 m ids pages) ∷ pair leaf (top_in t0 m ids) ∷ []) now) (parted (target_in t0 m ids))
        (begin_reaches z opening name t0 front rest tp m.target.parts (data_session ids.target) (sp ∷ sp ∷ 0 ∷ []) (pair source (source_in t0 m ids pages) ∷ pair leaf (top_in t0 m ids) ∷ []) old now r' target_apart target_linked over target
        (same_not_next (length m.above + 1), (zero_not_next (length m.above + 1), tt)) begun)

  -- ---- the child's session begins, if it isn't the leaf

  -- the child with its layer, where it has one of its own
  abbrev pub child_pairs : Option LogIds → Option Layer → List Pair
  child_pairs inner None = []
  child_pairs inner (Some child) = pair child (as_found t0 (length m.above) (inner_parts inner m.child.parts)) ∷ []

  abbrev pub AtChild : Option LogIds → Layer → Layer → Layer → Option Layer → Trace → Type 0
  AtChild inner leaf source target child t =
      Reached z opening name ((top_in t0 m ids ∷ between_in t0 m.above m.child inner) ++ source_in t0 m ids pages ∷ target_in t0 m ids ∷ rest) (length m.above ∷ tp ∷ sp ∷ sp ∷ 0 ∷ [])
      (child_pairs inner child ++ pair target (target_in t0 m ids) ∷ pair source (source_in t0 m ids pages) ∷ pair leaf (top_in t0 m ids) ∷ []) t0 t

  abbrev pub AtEnd : Option LogIds → Layer → Layer → Option Layer → Trace → Type 0
  AtEnd inner leaf target child t =
      Reached z opening name ((top_in t0 m ids ∷ between_in t0 m.above m.child inner) ++ source_in t0 m ids pages ∷ target_in t0 m ids ∷ rest) (sp ∷ length m.above ∷ tp ∷ sp ∷ sp ∷ 0 ∷ [])
      (child_pairs inner child ++ pair target (target_in t0 m ids) ∷ pair leaf (top_in t0 m ids) ∷ []) t0 t

  -- ---- the source's session ends

  module _ (inner : Option LogIds) (leaf source target : Layer) (child : Option Layer) (old now : Trace) (r : AtChild inner leaf source target child old) (keeps : KeepsOver source old now) where
    parts_of : (o : Option Layer) → AllByRecursion (λ (p : Pair). Serves p.layer old p.file) (child_pairs inner o ++ pair target (target_in t0 m ids) ∷ pair source (source_in t0 m ids pages) ∷ pair leaf (top_in t0 m ids) ∷ [])
        → Serves source old (source_in t0 m ids pages) × AllByRecursion (λ (p : Pair). Serves p.layer old p.file) (child_pairs inner o ++ pair target (target_in t0 m ids) ∷ pair leaf (top_in t0 m ids) ∷ [])
    parts_of None all = (all.1.0, (all.0, (all.1.1.0, tt)))
    parts_of (Some l) all = (all.1.1.0, (all.0, (all.1.0, (all.1.1.1.0, tt))))

    all_apart : (o : Option Layer) → AllByRecursion (λ (p : Pair). p.file.number ≢ sp) (child_pairs inner o ++ pair target (target_in t0 m ids) ∷ pair leaf (top_in t0 m ids) ∷ [])
    all_apart None = (next_not_same (length m.above + 1), (zero_not_next (length m.above), tt))
    all_apart (Some l) = (
      same_not_next (length m.above),
      (next_not_same (length m.above + 1), (zero_not_next (length m.above), tt)),
    )

    abbrev chain_end : List Placed
    chain_end = (top_in t0 m ids ∷ between_in t0 m.above m.child inner) ++ source_in t0 m ids pages ∷ target_in t0 m ids ∷ rest

    r_end : Reached z opening name chain_end (length m.above ∷ tp ∷ sp ∷ sp ∷ 0 ∷ []) (child_pairs inner child ++ pair target (target_in t0 m ids) ∷ pair leaf (top_in t0 m ids) ∷ []) t0 old
    r_end =
        with_pairs z opening name chain_end (length m.above ∷ tp ∷ sp ∷ sp ∷ 0 ∷ []) (child_pairs inner child ++ pair target (target_in t0 m ids) ∷ pair source (source_in t0 m ids pages) ∷ pair leaf (top_in t0 m ids) ∷ [])
        (child_pairs inner child ++ pair target (target_in t0 m ids) ∷ pair leaf (top_in t0 m ids) ∷ []) t0 old (parts_of child r.serving).1 r

    pub end_serves : Serves source old (source_in t0 m ids pages)
    end_serves = (parts_of child r.serving).0

    pub end_opens : Opened opening name (sp ∷ length m.above ∷ tp ∷ sp ∷ sp ∷ 0 ∷ []) t0 now
    end_opens =
        close_opens z opening name t0 (top_in t0 m ids ∷ between_in t0 m.above m.child inner) (target_in t0 m ids ∷ rest) source (source_in t0 m ids pages) (length m.above ∷ tp ∷ sp ∷ sp ∷ 0 ∷ [])
        (child_pairs inner child ++ pair target (target_in t0 m ids) ∷ pair leaf (top_in t0 m ids) ∷ []) old now r_end end_serves (λ s. refl) r.served.linked keeps

    pub end_reaches : HasGoneOver (source_in t0 m ids pages) now → AtEnd inner leaf target child now
    end_reaches gone =
        close_reaches z opening name t0 (top_in t0 m ids ∷ between_in t0 m.above m.child inner) (target_in t0 m ids ∷ rest) source (source_in t0 m ids pages) (length m.above ∷ tp ∷ sp ∷ sp ∷ 0 ∷ [])
        (child_pairs inner child ++ pair target (target_in t0 m ids) ∷ pair leaf (top_in t0 m ids) ∷ []) old now r_end end_serves (λ s. refl) r.served.linked keeps (all_apart child) gone

-- ---- the child

-- it is the leaf: nothing is done
pub child_is_leaf : (t0 : Trace) (child source target : LinkedFile) (below : List LinkedFile) (ids : MergeIds) (pages : List Page) (inner : Option LogIds) (leaf source_layer target_layer : Layer) (t : Trace)
    → AtTarget t0 (record { above = []; child = child; source = source; target = target; below = below }) ids pages leaf source_layer target_layer t
    → AtChild t0 (record { above = []; child = child; source = source; target = target; below = below }) ids pages inner leaf source_layer target_layer None t
child_is_leaf t0 child source target below ids pages inner leaf source_layer target_layer t r =
    record { once = r.once; served = r.served; none = r.none; moments = r.moments; left = λ k apart. r.left k apart.1; serving = r.serving }

-- it is another file
module _ (t0 : Trace) (first : LinkedFile) (above : List LinkedFile) (child source target : LinkedFile) (below : List LinkedFile) (ids : MergeIds) (pages : List Page) (inner : LogIds) where
  abbrev files : MergeFiles
  files = record { above = first ∷ above; child = child; source = source; target = target; below = below }

  abbrev cp : ℕ
  cp = length (first ∷ above)

  abbrev front_of : List Placed
  front_of = top_in t0 files ids ∷ placed_from t0 1 above

  abbrev back_of : List Placed
  back_of = source_in t0 files ids pages ∷ target_in t0 files ids ∷ rest_found t0 files

  abbrev child_begun : Placed
  child_begun = as_found t0 cp (in_session child.parts (log_session inner))

  abbrev numbers_of : List ℕ
  numbers_of = target_place files ∷ source_place files ∷ source_place files ∷ 0 ∷ []

  inner_parted : (x : Placed) → front_of ++ x ∷ back_of ≡ (top_in t0 files ids ∷ (placed_from t0 1 above ++ x ∷ [])) ++ back_of
  inner_parted x = sym (append_assoc front_of (x ∷ []) back_of)

  module _ (leaf source_layer target_layer : Layer) (old now : Trace) (r : AtTarget t0 files ids pages leaf source_layer target_layer old) (over : BeginsOver child.parts (log_session inner) cp old now) where
    abbrev pairs_of : List Pair
    pairs_of = record { layer = target_layer; file = target_in t0 files ids } ∷ record { layer = source_layer; file = source_in t0 files ids pages } ∷ record { layer = leaf; file = top_in t0 files ids } ∷ []

    abbrev Q : List ℕ → List Pair → Trace → List Placed → Type 0
    Q numbers pairs t c = Reached (leaf_of files).parts.geometry.sector (opening_disk t0 (chain_files files)) (way_to (leaf_of files) (chain_files files) None) c numbers pairs t0 t

    q : Q numbers_of pairs_of old (front_of ++ as_found t0 cp child.parts ∷ back_of)
    q = subst (Q numbers_of pairs_of old) (sym (inner_parted (as_found t0 cp child.parts))) r

    inner_linked : IsChainOf (leaf_of files).name [] (members_of (front_of ++ child_begun ∷ back_of))
    inner_linked =
        chain_with (leaf_of files).name front_of (as_found t0 cp child.parts) child_begun back_of q.served.linked refl refl refl refl
        (same_first (as_found t0 cp child.parts).member child_begun.member (members_of back_of) refl refl refl)

    inner_apart : AllByRecursion (λ k. cp ≢ k) numbers_of
    inner_apart = (
      same_not_second cp,
      (
        same_not_next cp,
        (
          same_not_next cp,
          (suc_not_zero (length above), tt),
        ),
      ),
    )

    pub child_opens : Opened (opening_disk t0 (chain_files files)) (way_to (leaf_of files) (chain_files files) None) (cp ∷ numbers_of) t0 now
    child_opens = begin_opens (leaf_of files).parts.geometry.sector (opening_disk t0 (chain_files files)) (way_to (leaf_of files) (chain_files files) None) t0 front_of back_of cp child.parts (log_session inner) numbers_of pairs_of old now q inner_apart inner_linked over

    pub child_reaches : (l : Layer) → HasBegun child.parts (log_session inner) cp l old now → AtChild t0 files ids pages (Some inner) leaf source_layer target_layer (Some l) now
    child_reaches l begun =
        subst (Q (cp ∷ numbers_of) (record { layer = l; file = child_begun } ∷ pairs_of) now) (inner_parted child_begun)
        (begin_reaches (leaf_of files).parts.geometry.sector (opening_disk t0 (chain_files files)) (way_to (leaf_of files) (chain_files files) None) t0 front_of back_of cp child.parts (log_session inner) numbers_of pairs_of old now q inner_apart inner_linked over l
        (second_not_same cp, (next_not_same cp, (zero_not_suc (length above), tt))) begun)
