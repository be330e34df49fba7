-- Layers stay ready while the leaf's is called.
use Rattle.std.proofs.Common.{◌≡◌, ℕ, ◌+◌, Bool, length, refl, sym, ap, subst, ◌∙◌, true, is_some, ◌<◌, ◌-◌}
use Rattle.std.specs.Prelude.{Option, Some, None, Result, Ok, Err, OnOk, IfErr, IfSome}
use Rattle.vx_base.specs.declared.parts.Geometry.{Geometry}
use Rattle.store_model.specs.declared.fault.StoreFault.{StoreFault}
use Rattle.store_model.specs.Disk.{Disk, WhereBothTold}
use Rattle.table_pages.specs.declared.tables.TableParts.{TableParts}
use Rattle.layer_session.specs.declared.file.Layer.{Layer}
use Rattle.layer_session.specs.declared.file.LayerFault.{LayerFault}
use Rattle.layer_session.specs.declared.file.LayerFault.TheVariants.{Read, Write, FileFull}
use Rattle.layer_session.specs.declared.file_layer.FileLayer.TheVariants.{Session}
use Rattle.layer_session.specs.Calls.{Fails, HasCommitted, OnRefused, OnRoom, own_file}
use Rattle.layer_session.specs.Keeping.{IsReady}
use Rattle.layer_session.specs.FileLayers.{AreOthers, AreReadyFiles, LeavesOthers, file_numbers}
use Rattle.layer_session.specs.Steps.{has_room, is_full}
use Rattle.chain_core.specs.declared.layers.Layers.{Layers}
use Rattle.chain_core.specs.declared.layers.Underway.{Underway}
use Rattle.chain_model.specs.Stripes.{stripe_count}
use Rattle.chain_core.specs.Sessions.{AreApart, AreReady, AtMostOne, CanRelink, CanRetire, IsMergeOf, IsReadyLeaf, IsRetiringOf, header_at, is_session_at}
use Rattle.chain_core.specs.Answering.{LayerRoomIs, UnlessBroken, as_change}
use Rattle.layer_session.proofs.FileLayers.{others_stand}
use Rattle.chain_core.proofs.Steps.{LeafStep}
use Rattle.chain_core.proofs.Turning.{Alike, AllTurnStill, KeepsTies, KeepsUnlessBroken, TurnStill, all_beside, commit_ties, one_alike, relink_same, retires_alike, retiring_alike, turn_kept}

-- ---- the layers

-- the leaf of layers that are ready
pub leaf_of : (layers : Layers) (leaf : Layer) (disk : Disk) → layers.leaf ≡ Some leaf → AreReady layers disk → IsReadyLeaf layers.geometry layers.below.items disk leaf
leaf_of layers leaf disk is ready = subst (λ o. IfSome o (IsReadyLeaf layers.geometry layers.below.items disk)) is ready.leaf

-- the merge is one of the same files
pub merge_on : (old new : Layers) (leaf next : Layer) → LeafStep old new leaf next → IfSome old.merge (IsMergeOf old.geometry old.leaf old.below.items) → IfSome new.merge (IsMergeOf new.geometry new.leaf new.below.items)
merge_on old new leaf next step merge =
    subst (λ o. IfSome o (IsMergeOf new.geometry new.leaf new.below.items)) (sym step.merge) (by_merge old.merge merge)
  where
    by_merge : (o : Option Underway) → IfSome o (IsMergeOf old.geometry old.leaf old.below.items) → IfSome o (IsMergeOf new.geometry new.leaf new.below.items)
    by_merge None is = tt
    by_merge (Some u) is = record {
      session = ap is_some step.now;
      there = subst (λ b. u.source + 1 < length b.items) (sym step.below) is.there;
      target = subst (λ b. is_session_at b.items (u.source + 1) ≡ true) (sym step.below) is.target;
      child = λ some. subst (λ b. is_session_at b.items (u.source - 1) ≡ true) (sym step.below) (is.child some);
      stripes = is.stripes ∙ ap (λ (g : Geometry). stripe_count g.sector g.sectors) (sym step.geometry);
    }

-- the pages that the merge keeps turn its child's metadata still
pub relink_on : (old new : Layers) (leaf next : Layer) (before after : Disk) → LeafStep old new leaf next → TurnStill before after (Session leaf) (Session next) → AllTurnStill before after old.below.items old.below.items
    → IfSome old.merge (CanRelink old.leaf old.below.items before) → IfSome new.merge (CanRelink new.leaf new.below.items after)
relink_on old new leaf next before after step own all can =
    subst (λ o. IfSome o (CanRelink new.leaf new.below.items after)) (sym step.merge)
    (subst (λ o. IfSome old.merge (CanRelink o new.below.items after)) (sym step.now)
    (subst (λ b. IfSome old.merge (CanRelink (Some next) b.items after)) (sym step.below)
    (relink_same before after (Some leaf) (Some next) old.below.items old.below.items old.merge own all (subst (λ o. IfSome old.merge (CanRelink o old.below.items before)) step.was can))))

-- what is kept of the merge of the leaf
pub retiring_on : (old new : Layers) (leaf next : Layer) → LeafStep old new leaf next → Alike old.retiring new.retiring → IfSome old.retiring (IsRetiringOf old.geometry old.leaf old.below.items) → IfSome new.retiring (IsRetiringOf new.geometry new.leaf new.below.items)
retiring_on old new leaf next step alike is =
    subst (λ (g : Geometry). IfSome new.retiring (IsRetiringOf g new.leaf new.below.items)) (sym step.geometry)
    (retiring_alike old.geometry old.leaf new.leaf old.below.items new.below.items old.retiring new.retiring alike (ap is_some step.now ∙ sym (ap is_some step.was))
    (λ some. subst (λ b. 0 < length b.items) (sym step.below) some) (ap (λ b. is_session_at b.items 0) step.below) (ap (λ b. header_at b.items 0) step.below) is)

pub retires_on : (old new : Layers) (leaf next : Layer) (before after : Disk) → LeafStep old new leaf next → Alike old.retiring new.retiring → TurnStill before after (Session leaf) (Session next) → AllTurnStill before after old.below.items old.below.items
    → IfSome old.retiring (CanRetire old.leaf old.below.items before) → IfSome new.retiring (CanRetire new.leaf new.below.items after)
retires_on old new leaf next before after step alike own all can =
    subst (λ o. IfSome new.retiring (CanRetire o new.below.items after)) (sym step.now)
    (subst (λ b. IfSome new.retiring (CanRetire (Some next) b.items after)) (sym step.below)
    (retires_alike before after (Some leaf) (Some next) old.below.items old.below.items old.retiring new.retiring alike own all (subst (λ o. IfSome old.retiring (CanRetire o old.below.items before)) step.was can)))

pub ready_on : (old new : Layers) (leaf next : Layer) (before after : Disk) → LeafStep old new leaf next → Alike old.retiring new.retiring → next.tables.parts ≡ leaf.tables.parts → AreReady old before → WhereBothTold (LeavesOthers (own_file leaf)) before.told after.told
    → after.files ≡ before.files → IsReady next after → WhereBothTold (KeepsTies leaf next) before.told after.told → AreReady new after
ready_on old new leaf next before after step alike parts ready others files next_ready keeps =
    let l = leaf_of old leaf before step.was ready in
    let apart : AreOthers (own_file leaf) old.below.items = l.apart in
    let below : AreReadyFiles old.geometry after old.below.items = others_stand.ready (own_file leaf) old.geometry old.below.items before after ready.below apart files others in
    let made : IsReadyLeaf old.geometry old.below.items after next =
    record { ready = next_ready; sector = ap (λ (p : TableParts). p.sector) parts ∙ l.sector; sectors = ap (λ (p : TableParts). p.sectors) parts ∙ l.sectors; apart = subst (λ (n : ℕ). AreOthers n old.below.items) (sym (ap (λ (p : TableParts). p.file) parts)) l.apart } in
    let same : IsReadyLeaf new.geometry new.below.items after next = subst (λ b. IsReadyLeaf new.geometry b.items after next) (sym step.below) (subst (λ (g : Geometry). IsReadyLeaf g old.below.items after next) (sym step.geometry) made) in
    record {
      sector = ap (λ (g : Geometry). g.sector) step.geometry ∙ ready.sector;
      leaf = subst (λ o. IfSome o (IsReadyLeaf new.geometry new.below.items after)) (sym step.now) same;
      below = subst (λ b. AreReadyFiles new.geometry after b.items) (sym step.below) (subst (λ (g : Geometry). AreReadyFiles g after old.below.items) (sym step.geometry) below);
      apart = subst (λ b. AreApart (file_numbers b.items)) (sym step.below) ready.apart;
      merge = merge_on old new leaf next step ready.merge;
      one = subst (λ o. AtMostOne o new.retiring) (sym step.merge) (one_alike old.merge old.retiring new.retiring alike ready.one);
      retiring = retiring_on old new leaf next step alike ready.retiring;
      retires = retires_on old new leaf next before after step alike (turn_kept before after leaf next parts keeps) (all_beside (own_file leaf) before after old.below.items apart others) ready.retires;
      relink = relink_on old new leaf next before after step (turn_kept before after leaf next parts keeps) (all_beside (own_file leaf) before after old.below.items apart others) ready.relink;
    }

-- how many files the store has stays
pub same_files : (file : ℕ) (before after : Disk) (answer : Result (Unit {0}) LayerFault) → OnOk answer (after ≡ record before { told = after.told }) → IfErr answer (Fails file before after) → after.files ≡ before.files
same_files file before after (Ok t) counts fails = ap (λ (d : Disk). d.files) counts
same_files file before after (Err (Read fault)) counts fails = ap (λ (d : Disk). d.files) fails.stays
same_files file before after (Err (Write fault)) counts fails = ap (λ (d : Disk). d.files) fails.stays
same_files file before after (Err (FileFull next)) counts fails = ap (λ (d : Disk). d.files) fails

-- so they are ready after each call in which no change failed
pub ready_still : (old new : Layers) (leaf next : Layer) (file : ℕ) (before after : Disk) (answer : Result (Unit {0}) LayerFault) → LeafStep old new leaf next → Alike old.retiring new.retiring → next.tables.parts ≡ leaf.tables.parts → AreReady old before
    → WhereBothTold (LeavesOthers (own_file leaf)) before.told after.told → OnOk answer (after ≡ record before { told = after.told }) → IfErr answer (Fails file before after)
    → OnOk answer (IsReady next after) → OnRefused answer (IsReady next after) → KeepsUnlessBroken answer leaf next before.told after.told → UnlessBroken answer (AreReady new after)
ready_still old new leaf next file before after (Ok t) step alike parts ready others counts fails is refused keeps =
    ready_on old new leaf next before after step alike parts ready others (same_files file before after (Ok t) counts fails) is keeps
ready_still old new leaf next file before after (Err (Read fault)) step alike parts ready others counts fails is refused keeps =
    ready_on old new leaf next before after step alike parts ready others (same_files file before after (Err (Read fault)) counts fails) refused keeps
ready_still old new leaf next file before after (Err (Write fault)) step alike parts ready others counts fails is refused keeps = tt
ready_still old new leaf next file before after (Err (FileFull k)) step alike parts ready others counts fails is refused keeps =
    ready_on old new leaf next before after step alike parts ready others (same_files file before after (Err (FileFull k)) counts fails) refused keeps

pub ready_committed : (old new : Layers) (leaf next : Layer) (before after : Disk) (answer : Result (Unit {0}) StoreFault) → LeafStep old new leaf next → Alike old.retiring new.retiring → next.tables.parts ≡ leaf.tables.parts → AreReady old before
    → WhereBothTold (LeavesOthers (own_file leaf)) before.told after.told → OnOk answer (after ≡ record before { told = after.told }) → OnOk answer (IsReady next after) → OnOk answer (WhereBothTold (HasCommitted leaf next) before.told after.told)
    → UnlessBroken (as_change answer) (AreReady new after)
ready_committed old new leaf next before after (Ok t) step alike parts ready others counts is committed =
    ready_on old new leaf next before after step alike parts ready others (ap (λ (d : Disk). d.files) counts) is (commit_ties leaf next before.told after.told committed)
ready_committed old new leaf next before after (Err fault) step alike parts ready others counts is committed = tt

-- ---- room

pub room_is : (trims : Layer → Bool) (first count n : ℕ) (layers : Layers) (leaf : Layer) (disk : Disk) (answer : Result (Unit {0}) LayerFault) → layers.leaf ≡ Some leaf → n ≡ count
    → ((next : ℕ) → answer ≡ Err (FileFull next) → is_full (trims leaf) first n next leaf disk) → OnRoom answer (has_room (trims leaf) first n leaf disk)
    → LayerRoomIs trims first count layers disk answer
room_is trims first count n layers leaf disk (Ok t) is same full room =
    subst (λ o. IfSome o (λ l. has_room (trims l) first count l disk)) (sym is) (subst (λ (k : ℕ). has_room (trims leaf) first k leaf disk) same room)
room_is trims first count n layers leaf disk (Err (Read fault)) is same full room = tt
room_is trims first count n layers leaf disk (Err (Write fault)) is same full room =
    subst (λ o. IfSome o (λ l. has_room (trims l) first count l disk)) (sym is) (subst (λ (k : ℕ). has_room (trims leaf) first k leaf disk) same room)
room_is trims first count n layers leaf disk (Err (FileFull next)) is same full room =
    subst (λ o. IfSome o (λ l. is_full (trims l) first count next l disk)) (sym is) (subst (λ (k : ℕ). is_full (trims leaf) first k next leaf disk) same (full next refl))
