-- The whole of the plan of a leaf's merge, from its steps.
use Rattle.std.proofs.Common.{◌≡◌, ℕ, ◌≤◌, ◌<◌, List, [], ◌∷◌, length, false, Some, None, refl, sym, ap, subst, ◌∙◌, arith}
use Rattle.std.specs.Prelude.{All, nat_lt}
use Rattle.std.proofs.lemmas.Bool.{ltb-false}
use Rattle.std.proofs.lemmas.List.Elements.{All-head, All-tail}
use Rattle.store_model.specs.Disk.{Disk, WhereTold}
use Rattle.store_model.specs.Trace.{Trace}
use Rattle.vx_base.specs.Fields.{IsGuid}
use Rattle.vhdx_format.specs.declared.locator.Pair.{Pair}
use Rattle.vhdx_format.specs.declared.log_entry.Page.{Page}
use Rattle.vhdx_format.specs.Fields.{is_zero_id}
use Rattle.vhdx_format.specs.Locators.{locator_len, longest_locator}
use Rattle.link_rules.specs.Effects.{IsServed}
use Rattle.link_rules.specs.Lines.{IsFollowedBy, IsLine}
use Rattle.link_rules.specs.declared.linked.LinkedFile.{LinkedFile}
use Rattle.merge_plan.specs.Attached.{AreAsOpened, CanStart, IsAsOpened}
use Rattle.merge_plan.specs.Drawing.{JudgesDrawn}
use Rattle.merge_plan.specs.LeafMerging.{AreOfLeaf, ClearsTarget, HasRetiring, KeepsLeafLinked, LeafFiles, linked_pairs}
use Rattle.merge_plan.specs.LeafPlanning.{HasLeafPlan, IsLeafFull, StopsLeaf, for_clearing, for_link, for_name, leaf_merge_ids, long_len}
use Rattle.merge_plan.specs.LeafSteps.{AreTypedOfLeaf, ClearingFails, HasNaming, NamingFails}
use Rattle.merge_plan.specs.Merging.{HasPages, LacksRoom, WritesLocator}
use Rattle.merge_plan.specs.Steps.{JudgeRefuses, LengthRefuses, UpdateFails}
use Rattle.merge_plan.specs.declared.leaf.LeafMerge.{LeafMerge}
use Rattle.merge_plan.specs.declared.leaf_drawing.LeafMergeIds.{LeafMergeIds}
use Rattle.merge_plan.specs.declared.refusal.PrepareRefusal.{PrepareRefusal}
use Rattle.merge_plan.specs.declared.refusal.PrepareRefusal.TheVariants as refusals
use Rattle.merge_plan.proofs.Lines.{both_read, by_found, by_new}
use Rattle.merge_plan.proofs.RetiredNames.{has_name_room, has_retiring, lacks_name}
use Rattle.merge_plan.proofs.Paging.{has_room}
use Rattle.merge_plan.proofs.Planned.{all_fit, passed}

-- ---- the two files

pub record CanPlanLeaf (disk : Disk) (m : LeafFiles) : Type 0 where
  pub followed : IsFollowedBy m.source m.target
  pub source_served : IsServed m.source
  pub target_served : IsServed m.target
  pub source_opened : WhereTold disk.told (λ trace. IsAsOpened trace 0 m.source)
  pub target_opened : WhereTold disk.told (λ trace. IsAsOpened trace 1 m.target)
  pub there : 1 < disk.files

pub can_plan_leaf : (files : List LinkedFile) (disk : Disk) (m : LeafFiles) → CanStart files disk → AreOfLeaf files m → CanPlanLeaf disk m
can_plan_leaf files disk m can is =
    let all : List LinkedFile = m.source ∷ m.target ∷ m.below in
    let served : All IsServed all = subst (All IsServed) is can.served in
    let line : IsLine all = subst IsLine is can.line in
    let opened = λ (t : Trace) (told : disk.told ≡ Some t). subst (AreAsOpened t 0) is (can.told t told).each in
    record {
      followed = line.0;
      source_served = All-head IsServed m.source (m.target ∷ m.below) served;
      target_served = All-head IsServed m.target m.below (All-tail IsServed m.source (m.target ∷ m.below) served);
      source_opened = λ t told. (opened t told).0;
      target_opened = λ t told. (opened t told).1.0;
      there = omega (arith, can.there, ap length is);
    }

-- ---- the locator

pub short_enough : (pairs : List Pair) → long_len pairs ≡ None → locator_len pairs ≤ longest_locator
short_enough pairs h = ltb-false longest_locator (locator_len pairs) (passed (nat_lt longest_locator (locator_len pairs)) (locator_len pairs) None h).0

-- the target's new identifier is the fifth
leaf_nonzero : (files : List LinkedFile) (disk : Disk) (ids : LeafMergeIds) → JudgesDrawn files disk (leaf_merge_ids ids) None → is_zero_id ids.target.data_write ≡ false
leaf_nonzero files disk ids j = all_fit j.known (leaf_merge_ids ids) j.judged 4 [] (omega arith)

leaf_guid : (ids : LeafMergeIds) → All IsGuid (leaf_merge_ids ids) → IsGuid ids.target.data_write
leaf_guid ids all = all 4 [] (omega arith)

pub record IsLeafLocator (m : LeafFiles) (new : List ℕ) (pairs : List Pair) : Type 0 where
  pub is : pairs ≡ linked_pairs m new
  pub short : long_len pairs ≡ None

-- its locator is too long, or there is no memory for it
pub locator_stops : (files : List LinkedFile) (disk : Disk) (m : LeafFiles) (ids : LeafMergeIds) (refusal : PrepareRefusal) → LengthRefuses (long_len (linked_pairs m ids.target.data_write)) refusal → StopsLeaf files disk disk m ids refusal
locator_stops files disk m ids refusals.NotInChain h = h
locator_stops files disk m ids refusals.IsBase h = h
locator_stops files disk m ids refusals.LeafSource h = h
locator_stops files disk m ids (refusals.LocatorTooLarge len) h = (h, refl)
locator_stops files disk m ids (refusals.MetadataFull file) h = absurd h
locator_stops files disk m ids (refusals.IdUnfit id) h = absurd h
locator_stops files disk m ids (refusals.Store fault) h = absurd h
locator_stops files disk m ids refusals.NoRoom h = refl

module _ (files : List LinkedFile) (old : Disk) (m : LeafFiles) (can : CanPlanLeaf old m) (ids : LeafMergeIds) (pairs : List Pair) (l : IsLeafLocator m ids.target.data_write pairs) where
  short : long_len (linked_pairs m ids.target.data_write) ≡ None
  short = ap long_len (sym l.is) ∙ l.short

  -- ---- a plan

  pub has_leaf_plan : (merge : LeafMerge) → merge.ids ≡ ids → AreTypedOfLeaf m.source m.target → All IsGuid (leaf_merge_ids ids) → JudgesDrawn files old (leaf_merge_ids ids) None
      → HasPages m.source.parts 0 old pairs merge.twice → ClearsTarget m.target 1 old merge.clear → HasNaming m.source.parts 0 merge.twice old (Some m.target.name) merge.retire → HasLeafPlan files old m merge
  has_leaf_plan merge same typed guids fit twice clear retire =
      let new = ids.target.data_write in
      let guid = leaf_guid ids guids in
      let nonzero = leaf_nonzero files old ids fit in
      let len = short_enough (linked_pairs m new) short in
      let is_read = both_read m.source m.target new can.followed typed.item typed.id guid nonzero len in
      let has : HasPages m.source.parts 0 old (linked_pairs m new) merge.twice = subst (λ (ps : List Pair). HasPages m.source.parts 0 old ps merge.twice) l.is twice in
      record {
        fit = subst (λ (i : LeafMergeIds). JudgesDrawn files old (leaf_merge_ids i) None) (sym same) fit;
        twice = subst (λ (i : LeafMergeIds). WritesLocator m.source.parts 0 old (linked_pairs m i.target.data_write) merge.twice) (sym same) (record { short = len; is_read = is_read; has = has });
        clear = clear;
        retire = subst (λ (i : LeafMergeIds). HasRetiring m.source.parts 0 old (linked_pairs m i.target.data_write) m.target.name merge.retire) (sym same)
            (has_retiring old 0 m.source (linked_pairs m new) merge.twice can.source_opened has m.target.name merge.retire retire);
        links = subst (λ (i : LeafMergeIds). KeepsLeafLinked m i.target.data_write) (sym same) (record {
          found = by_found m.source m.target new can.followed typed.item typed.id guid nonzero is_read;
          renewed = by_new m.source m.target new can.followed typed.item typed.id guid nonzero is_read;
        });
      }

  -- ---- what stops it

  pub link_stops : (new : Disk) (refusal : PrepareRefusal) → UpdateFails m.source.parts 0 old new pairs refusal → StopsLeaf files old new m ids refusal
  link_stops new refusals.NotInChain h = absurd h
  link_stops new refusals.IsBase h = absurd h
  link_stops new refusals.LeafSource h = absurd h
  link_stops new (refusals.LocatorTooLarge len) h = absurd h
  link_stops new (refusals.MetadataFull file) h =
      let lacks : LacksRoom m.source.parts 0 old (linked_pairs m ids.target.data_write) = subst (λ (ps : List Pair). LacksRoom m.source.parts 0 old ps) l.is h.1 in
      (record { short = short; full = subst (IsLeafFull old m ids) (sym h.0) (for_link lacks) }, h.2)
  link_stops new (refusals.IdUnfit id) h = absurd h
  link_stops new (refusals.Store fault) h = (short, h)
  link_stops new refusals.NoRoom h = h

  pub clearing_stops : (mid new : Disk) (refusal : PrepareRefusal) → mid ≡ old → ClearingFails m.target mid new refusal → StopsLeaf files old new m ids refusal
  clearing_stops mid new refusal same h = go refusal (subst (λ (d : Disk). ClearingFails m.target d new refusal) same h)
    where
      go : (r : PrepareRefusal) → ClearingFails m.target old new r → StopsLeaf files old new m ids r
      go refusals.NotInChain h = absurd h
      go refusals.IsBase h = absurd h
      go refusals.LeafSource h = absurd h
      go (refusals.LocatorTooLarge len) h = absurd h
      go (refusals.MetadataFull file) h = (record { short = short; full = subst (IsLeafFull old m ids) (sym h.0) (for_clearing h.1 h.2) }, h.3)
      go (refusals.IdUnfit id) h = absurd h
      go (refusals.Store fault) h = (short, h)
      go refusals.NoRoom h = h

  module _ (twice : List Page) (first : HasPages m.source.parts 0 old pairs twice) where
    has : HasPages m.source.parts 0 old (linked_pairs m ids.target.data_write) twice
    has = subst (λ (ps : List Pair). HasPages m.source.parts 0 old ps twice) l.is first

    pub name_stops : (mid new : Disk) (refusal : PrepareRefusal) → mid ≡ old → NamingFails m.source.parts 0 twice mid new (Some m.target.name) refusal → StopsLeaf files old new m ids refusal
    name_stops mid new refusal same h = go refusal (subst (λ (d : Disk). NamingFails m.source.parts 0 twice d new (Some m.target.name) refusal) same h)
      where
        go : (r : PrepareRefusal) → NamingFails m.source.parts 0 twice old new (Some m.target.name) r → StopsLeaf files old new m ids r
        go refusals.NotInChain h = absurd h
        go refusals.IsBase h = absurd h
        go refusals.LeafSource h = absurd h
        go (refusals.LocatorTooLarge len) h = absurd h
        go (refusals.MetadataFull file) h =
            let lacks = lacks_name old 0 m.source (linked_pairs m ids.target.data_write) twice can.source_opened has m.target.name h.1 in
            (record { short = short; full = subst (IsLeafFull old m ids) (sym h.0) (for_name (has_room m.source.parts 0 old (linked_pairs m ids.target.data_write) twice has) lacks) }, h.2)
        go (refusals.IdUnfit id) h = absurd h
        go (refusals.Store fault) h = (short, h)
        go refusals.NoRoom h = h

    pub judge_stops : (retire : List Page) → HasNaming m.source.parts 0 twice old (Some m.target.name) retire → (mid new : Disk) (refusal : PrepareRefusal) → mid ≡ old
        → JudgeRefuses files (leaf_merge_ids ids) mid new refusal → StopsLeaf files old new m ids refusal
    judge_stops retire second mid new refusal same h = go refusal (subst (λ (d : Disk). JudgeRefuses files (leaf_merge_ids ids) d new refusal) same h)
      where
        go : (r : PrepareRefusal) → JudgeRefuses files (leaf_merge_ids ids) old new r → StopsLeaf files old new m ids r
        go refusals.NotInChain h = absurd h
        go refusals.IsBase h = absurd h
        go refusals.LeafSource h = absurd h
        go (refusals.LocatorTooLarge len) h = absurd h
        go (refusals.MetadataFull file) h = absurd h
        go (refusals.IdUnfit id) h = (
          record {
            short = short;
            link = has_room m.source.parts 0 old (linked_pairs m ids.target.data_write) twice has;
            name = has_name_room old 0 m.source (linked_pairs m ids.target.data_write) twice can.source_opened has m.target.name retire second;
            unfit = h.0;
          },
          h.1,
        )
        go (refusals.Store fault) h = (short, h)
        go refusals.NoRoom h = h
