-- The merge of the leaf is finished, step by step: what the layers keep, for every store.
use Rattle.std.proofs.Common.{inl, inr, ◌≡◌, ◌≢◌, ◌<◌, ℕ, List, [], ◌∷◌, drop, length, get_or, refl, sym, ap, subst, ◌∙◌, arith, is_some}
use Rattle.std.specs.Prelude.{Option, Some, None, option_map, IfErr, IfSome, Result, Ok}
use Rattle.vx_base.specs.declared.parts.Geometry.{Geometry}
use Rattle.vhdx_format.specs.declared.log_entry.Page.{Page}
use Rattle.store_model.specs.Disk.{Disk, WhereBothTold, WhereTold}
use Rattle.store_model.specs.Plans.{FailsToChange}
use Rattle.store_model.specs.declared.fault.StoreFault.{StoreFault}
use Rattle.table_pages.specs.declared.tables.TableParts.{TableParts}
use Rattle.layer_session.specs.declared.file.Layer.{Layer}
use Rattle.layer_session.specs.declared.file_layer.FileLayer.{FileLayer}
use Rattle.layer_session.specs.declared.file_layer.FileLayer.TheVariants.{Session}
use Rattle.layer_session.specs.Calls.{own_file}
use Rattle.layer_session.specs.FileLayers.{AreReadyFiles, FileTurns, LeavesOthers, file_numbers}
use Rattle.layer_session.specs.Identifying.{IdentifiesOver, identified}
use Rattle.layer_session.specs.Keeping.{IsReady}
use Rattle.layer_session.proofs.FileLayers.{others_stand}
use Rattle.chain_core.specs.declared.layers.Layers.{Layers}
use Rattle.chain_core.specs.Copying.{number_below, target_number}
use Rattle.chain_core.specs.Ending.{AreAllReady, SomeChangeFailed}
use Rattle.chain_core.specs.Finished.{HandsOver, IsTargetOrChild, Settles, number_above}
use Rattle.chain_core.specs.Sessions.{AreReady, AtMostOne, CanRelink, CanRetire, IsMergeOf, IsReadyLeaf, IsRetiringOf, header_at, is_session_at, leaf_number, number_of_leaf}
use Rattle.chain_core.specs.States.{target_parts}
use Rattle.chain_core.proofs.Ending.{failed_later}
use Rattle.chain_core.proofs.Exchanged.{change_failed}
use Rattle.chain_core.proofs.Replaced.{AreParts, apart_at, both_at, leaf_parts_then, parts_of, parts_then, top_apart}
use Rattle.chain_core.proofs.Retires.{LeafChange, TargetChange, leaf_parts}
use Rattle.chain_core.proofs.Standing.{ready_on}
use Rattle.chain_core.proofs.Turning.{all_but_one, alike_same, commit_ties, retires_alike, retiring_alike, top_beside, turn_kept}
use Rattle.layer_session.proofs.Equal.{none_some, some_none, some_same}

-- ---- what a change of a file leaves

pub identifying_leaves : (was : Layer) (id : List ℕ) (before after : Disk) → IsReady was before → WhereBothTold (IdentifiesOver was id) before.told after.told → WhereBothTold (LeavesOthers (own_file was)) before.told after.told
identifying_leaves was id before after ready over =
    both_at (IdentifiesOver was id) (LeavesOthers (own_file was)) before.told after.told over
    (λ t y told now o.
    let f = ready.told t told in
    subst (λ n. LeavesOthers n t y) f.1.number (others_stand.phase f.0 (identified id f.0) t y (o.over f.0 f.1)))

pub all_ready : (g : Geometry) (disk : Disk) (layers : List FileLayer) → AreReadyFiles g disk layers → AreAllReady disk layers
all_ready g disk [] ready = tt
all_ready g disk (l ∷ layers) ready = (ready.0.ready, all_ready g disk layers ready.1)

-- ---- the layers behind some of the steps

-- From L0 to L the leaf and the first file below it have other layers of the same files, each ready; all else is as it was.
pub record Stays (L0 L : Layers) (d0 d : Disk) : Type 0 where
  pub geometry : L.geometry ≡ L0.geometry
  pub merge : L.merge ≡ L0.merge
  pub retiring : L.retiring ≡ L0.retiring
  pub parts : AreParts L.geometry L.leaf L.below.items d
  pub leaf_by : leaf_parts L ≡ leaf_parts L0
  pub lower_by : target_parts L.below.items ≡ target_parts L0.below.items
  pub numbers : file_numbers L.below.items ≡ file_numbers L0.below.items
  pub others : drop 1 L.below.items ≡ drop 1 L0.below.items
  pub counts : d ≡ record d0 { told = d.told }

pub stays_first : (L0 : Layers) (d0 : Disk) → AreReady L0 d0 → Stays L0 L0 d0 d0
stays_first L0 d0 ready = record { geometry = refl; merge = refl; retiring = refl; parts = parts_of L0 d0 ready; leaf_by = refl; lower_by = refl; numbers = refl; others = refl; counts = refl }

number_by : (o p : Option Layer) → option_map (λ (l : Layer). l.tables.parts) o ≡ option_map (λ (l : Layer). l.tables.parts) p → number_of_leaf o ≡ number_of_leaf p
number_by None None same = refl
number_by None (Some y) same = absurd (let never : ◌≡◌ {A = Option TableParts} None (Some y.tables.parts) = same in none_some never)
number_by (Some x) None same = absurd (let never : ◌≡◌ {A = Option TableParts} (Some x.tables.parts) None = same in some_none never)
number_by (Some x) (Some y) same = let is : x.tables.parts ≡ y.tables.parts = some_same same in ap (λ (p : TableParts). p.file) is

module _ (L0 L : Layers) (d0 d : Disk) (s : Stays L0 L d0 d) where
  pub stays_number : leaf_number L ≡ leaf_number L0
  stays_number = number_by L.leaf L0.leaf s.leaf_by

  module _ (N : Layers) (e : Disk) (change : Layer → Layer → Disk → Disk → Result (Unit {0}) StoreFault → Type 0) (result : Result (Unit {0}) StoreFault) where
    -- the first file below the leaf is changed
    module _ (t : TargetChange change L N d e result) where
      pub target_was : AreParts L.geometry L.leaf (Session t.was ∷ t.rest) d
      target_was = subst (λ (c : List FileLayer). AreParts L.geometry L.leaf c d) t.was_there s.parts

      pub target_was_ready : IsReady t.was d
      target_was_ready = target_was.below.0.ready

      pub stays_target : t.now.tables.parts ≡ t.was.tables.parts → WhereBothTold (LeavesOthers (own_file t.was)) d.told e.told → e ≡ record d { told = e.told } → IsReady t.now e → Stays L0 N d0 e
      stays_target parts others counts is =
          let then = parts_then L.geometry L.leaf [] t.rest t.was t.now d e parts target_was others (ap (λ (k : Disk). k.files) counts) is in
          record {
            geometry = t.geometry ∙ s.geometry;
            merge = t.merge ∙ s.merge;
            retiring = t.retiring ∙ s.retiring;
            parts = subst (λ (c : List FileLayer). AreParts N.geometry N.leaf c e) (sym t.now_there)
                (subst (λ o. AreParts N.geometry o (Session t.now ∷ t.rest) e) (sym t.leaf) (subst (λ (g : Geometry). AreParts g L.leaf (Session t.now ∷ t.rest) e) (sym t.geometry) then));
            leaf_by = ap (option_map (λ (l : Layer). l.tables.parts)) t.leaf ∙ s.leaf_by;
            lower_by = ap target_parts t.now_there ∙ ap Some parts ∙ sym (ap target_parts t.was_there) ∙ s.lower_by;
            numbers = ap file_numbers t.now_there ∙ ap (λ (p : TableParts). p.file ∷ file_numbers t.rest) parts ∙ sym (ap file_numbers t.was_there) ∙ s.numbers;
            others = ap (drop 1) t.now_there ∙ sym (ap (drop 1) t.was_there) ∙ s.others;
            counts = counts ∙ ap (λ (k : Disk). record k { told = e.told }) s.counts;
          }

      pub target_fails : L0.merge ≡ None → IfErr result (FailsToChange (own_file t.was) d e) → IfErr result (SomeChangeFailed (IsTargetOrChild L0) d0 e)
      target_fails none err =
          let own : own_file t.was ≡ target_number L0 = sym (ap (λ (c : List FileLayer). get_or (file_numbers c) 0 0) t.was_there) ∙ ap (λ (c : List ℕ). get_or c 0 0) s.numbers ∙ sym (ap (number_below (file_numbers L0.below.items)) none) in
          failed_later (IsTargetOrChild L0) (IsTargetOrChild L0) d0 d e result (λ n x. x) s.counts (change_failed t.was L0 d e result (inl own) target_was_ready err)

    -- the leaf is changed
    module _ (c : LeafChange change L N d e result) where
      pub leaf_was : AreParts L.geometry (Some c.was) L.below.items d
      leaf_was = subst (λ o. AreParts L.geometry o L.below.items d) c.was_there s.parts

      pub leaf_was_ready : IsReady c.was d
      leaf_was_ready = leaf_was.leaf.ready

      pub stays_leaf : c.now.tables.parts ≡ c.was.tables.parts → WhereBothTold (LeavesOthers (own_file c.was)) d.told e.told → e ≡ record d { told = e.told } → IsReady c.now e → Stays L0 N d0 e
      stays_leaf parts others counts is =
          let then = leaf_parts_then L.geometry c.was c.now L.below.items d e parts leaf_was others (ap (λ (k : Disk). k.files) counts) is in
          record {
            geometry = c.geometry ∙ s.geometry;
            merge = c.merge ∙ s.merge;
            retiring = c.retiring ∙ s.retiring;
            parts = subst (λ b. AreParts N.geometry N.leaf b.items e) (sym c.below)
                (subst (λ o. AreParts N.geometry o L.below.items e) (sym c.now_there) (subst (λ (g : Geometry). AreParts g (Some c.now) L.below.items e) (sym c.geometry) then));
            leaf_by = ap (option_map (λ (l : Layer). l.tables.parts)) c.now_there ∙ ap Some parts ∙ sym (ap (option_map (λ (l : Layer). l.tables.parts)) c.was_there) ∙ s.leaf_by;
            lower_by = ap (λ b. target_parts b.items) c.below ∙ s.lower_by;
            numbers = ap (λ b. file_numbers b.items) c.below ∙ s.numbers;
            others = ap (λ b. drop 1 b.items) c.below ∙ s.others;
            counts = counts ∙ ap (λ (k : Disk). record k { told = e.told }) s.counts;
          }

      pub leaf_fails : L0.merge ≡ None → IfErr result (FailsToChange (own_file c.was) d e) → IfErr result (SomeChangeFailed (IsTargetOrChild L0) d0 e)
      leaf_fails none err =
          let own : own_file c.was ≡ number_above L0 L0.merge = sym (ap number_of_leaf c.was_there) ∙ stays_number ∙ sym (ap (number_above L0) none) in
          failed_later (IsTargetOrChild L0) (IsTargetOrChild L0) d0 d e result (λ n x. x) s.counts (change_failed c.was L0 d e result (inr own) leaf_was_ready err)

-- ---- layers with the merge of their leaf stay ready

-- the target is committed
module _ (old new : Layers) (before after : Disk) (none : old.merge ≡ None) (ready : AreReady old before) where
  pub target_ready : TargetChange Settles old new before after (Ok tt) → AreReady new after
  target_ready t =
      let parts_was : AreParts old.geometry old.leaf (Session t.was ∷ t.rest) before = subst (λ (c : List FileLayer). AreParts old.geometry old.leaf c before) t.was_there (parts_of old before ready) in
      let leaves = others_stand.kept t.was before after parts_was.below.0.ready t.changed.moments in
      let files : after.files ≡ before.files = ap (λ (d : Disk). d.files) t.changed.counts in
      let stays = stays_target old old before before (stays_first old before ready) new after Settles (Ok tt) t t.changed.parts leaves t.changed.counts t.changed.ready in
      let turns = all_but_one (own_file t.was) before after [] t.rest (Session t.was) (Session t.now) tt (apart_at [] t.rest (Session t.was) parts_was.apart).1 leaves
      (turn_kept before after t.was t.now t.changed.parts (commit_ties t.was t.now before.told after.told t.changed.has)) in
      let top = top_beside (own_file t.was) before after old.leaf (top_apart old.geometry old.leaf [] t.rest (Session t.was) before parts_was.leaf) leaves in
      let alike = alike_same old.retiring new.retiring t.retiring in
      let no_merge : new.merge ≡ None = t.merge ∙ none in
      record {
        sector = ap (λ (k : Geometry). k.sector) t.geometry ∙ ready.sector;
        leaf = stays.parts.leaf;
        below = stays.parts.below;
        apart = stays.parts.apart;
        merge = subst (λ o. IfSome o (IsMergeOf new.geometry new.leaf new.below.items)) (sym no_merge) tt;
        relink = subst (λ o. IfSome o (CanRelink new.leaf new.below.items after)) (sym no_merge) tt;
        one = subst (λ o. AtMostOne o new.retiring) (sym no_merge) tt;
        retiring = subst (λ (k : Geometry). IfSome new.retiring (IsRetiringOf k new.leaf new.below.items)) (sym t.geometry)
            (retiring_alike old.geometry old.leaf new.leaf old.below.items new.below.items old.retiring new.retiring alike (ap is_some t.leaf)
            (λ some. subst (λ (c : List FileLayer). 0 < length c) (sym t.now_there) (omega arith))
            (ap (λ (c : List FileLayer). is_session_at c 0) t.now_there ∙ sym (ap (λ (c : List FileLayer). is_session_at c 0) t.was_there))
            (ap (λ (c : List FileLayer). header_at c 0) t.now_there ∙ ap Some t.changed.header ∙ sym (ap (λ (c : List FileLayer). header_at c 0) t.was_there)) ready.retiring);
        retires = subst (λ o. IfSome new.retiring (CanRetire o new.below.items after)) (sym t.leaf)
            (subst (λ (c : List FileLayer). IfSome new.retiring (CanRetire old.leaf c after)) (sym t.now_there)
            (retires_alike before after old.leaf old.leaf (Session t.was ∷ t.rest) (Session t.now ∷ t.rest) old.retiring new.retiring alike top turns
            (subst (λ (c : List FileLayer). IfSome old.retiring (CanRetire old.leaf c before)) t.was_there ready.retires)));
      }

  -- the leaf is
  pub leaf_ready : LeafChange Settles old new before after (Ok tt) → AreReady new after
  leaf_ready c =
      let own : IsReadyLeaf old.geometry old.below.items before c.was = subst (λ o. IfSome o (IsReadyLeaf old.geometry old.below.items before)) c.was_there ready.leaf in
      ready_on old new c.was c.now before after (record { geometry = c.geometry; below = c.below; merge = c.merge; parts = c.changed.parts; was = c.was_there; now = c.now_there }) (alike_same old.retiring new.retiring c.retiring) c.changed.parts ready
      (others_stand.kept c.was before after own.ready c.changed.moments) (ap (λ (d : Disk). d.files) c.changed.counts) c.changed.ready (commit_ties c.was c.now before.told after.told c.changed.has)

-- ---- the pages that retire the leaf turn it still

-- while the file below it is changed
pub leaf_turns : (L : Layers) (leaf l : Layer) (rest : List FileLayer) (before after : Disk) (pages : List Page) → L.leaf ≡ Some leaf → AreParts L.geometry L.leaf (Session l ∷ rest) before → WhereBothTold (LeavesOthers (own_file l)) before.told after.told
    → WhereTold before.told (FileTurns (Session leaf) pages) → WhereTold after.told (FileTurns (Session leaf) pages)
leaf_turns L leaf l rest before after pages is parts others turns =
    let ne : own_file leaf ≢ own_file l = subst (λ o. IfSome o (λ k. own_file k ≢ own_file l)) is (top_apart L.geometry L.leaf [] rest (Session l) before parts.leaf) in
    (top_beside (own_file l) before after (Some leaf) ne others).turns pages turns

-- ---- the target is the leaf

module _ (L N : Layers) (d e : Disk) (result : Result (Unit {0}) StoreFault) (parts : AreParts L.geometry L.leaf L.below.items d) (h : HandsOver L N d e result) where
  handed_was : AreParts L.geometry (Some h.leaf) (Session h.target ∷ h.rest) d
  handed_was = subst (λ (c : List FileLayer). AreParts L.geometry (Some h.leaf) c d) h.was_there (subst (λ o. AreParts L.geometry o L.below.items d) h.was parts)

  pub handed_leaf_ready : IsReady h.leaf d
  handed_leaf_ready = handed_was.leaf.ready

  pub handed_parts : e.files ≡ d.files → AreParts L.geometry (Some h.target) h.rest e
  handed_parts files =
      let others = others_stand.kept h.leaf d e handed_leaf_ready h.moments in
      let below = others_stand.ready (own_file h.leaf) L.geometry (Session h.target ∷ h.rest) d e handed_was.below handed_was.leaf.apart files others in
      record {
        leaf = record { ready = below.0.ready; sector = below.0.sector; sectors = below.0.sectors; apart = (apart_at [] h.rest (Session h.target) handed_was.apart).1 };
        below = below.1;
        apart = handed_was.apart.1;
      }
