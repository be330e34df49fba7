-- The merge of the leaf over a chain's files: from what the store's session leaves to what the host is left with.
use Rattle.std.proofs.Common.{◌≡◌, ℕ, ◌<◌, ◌≤◌, true, false, is_some, List, [], ◌∷◌, Option, Some, None, refl, sym, ap, ap₂, subst, ◌∙◌, inr}
use Rattle.std.specs.Prelude.{nat_lt, slice_index_or}
use Rattle.std.proofs.lemmas.Bool.{le-ltb}
use Rattle.store_model.specs.Disk.{Disk as StoreDisk, WhereTold}
use Rattle.store_model.specs.File.{seen}
use Rattle.store_model.specs.Folder.{Hosted}
use Rattle.store_model.specs.Trace.{file_of}
use Rattle.store_model.specs.declared.fault.SealFault.TheVariants as seal
use Rattle.vhdx_format.specs.Locators.{locator_len, longest_locator}
use Rattle.vhdx_format.specs.declared.locator.Pair.{Pair}
use Rattle.vhdx_format.specs.declared.log_entry.Page.{Page}
use Rattle.vx_base.specs.declared.parts.Parts.{Parts}
use Rattle.link_rules.specs.Chains.{is_among, names_of}
use Rattle.link_rules.specs.Folders.{contents}
use Rattle.link_rules.specs.declared.linked.Linked.{Linked}
use Rattle.link_rules.specs.declared.linked.LinkedFile.{LinkedFile}
use Rattle.merge_plan.specs.Drawing as drawing
use Rattle.merge_plan.specs.LeafMerging.{HasNameRoom, HasRetiring, LeafFiles}
use Rattle.merge_plan.specs.LeafPlanning.{IsLeafBegun, IsLeafFull, IsLeafStopped, IsLinkShort, for_clearing, for_link, for_name, leaf_merge_ids, long_len}
use Rattle.merge_plan.specs.Merging.{HasRoom}
use Rattle.merge_plan.specs.declared.leaf.LeafMerge.{LeafMerge}
use Rattle.merge_plan.specs.declared.leaf_drawing.LeafMergeIds.{LeafMergeIds}
use Rattle.merge_plan.specs.declared.refusal.PrepareRefusal.{PrepareRefusal}
use Rattle.merge_plan.specs.declared.refusal.PrepareRefusal.TheVariants as plan
use Rattle.chain_core.specs.LeafStarting.{PlansLeafMerge, RefusesLeafMerge, is_first_two, leaf_chain, spent_leaf}
use Rattle.chain_core.specs.MergeStarting.{first_or}
use Rattle.chain_core.specs.Starting.{EachOpensAlike, way_to}
use Rattle.chain_core.specs.declared.merge_start.MergeStartRefusal.{MergeStartRefusal}
use Rattle.chain_core.specs.declared.merge_start.MergeStartRefusal.TheVariants as start
use Rattle.script_session.specs.MergeRunning.{leaf_scope_of}
use Rattle.command_base.specs.Commands.{Lends}
use Rattle.steps_command.specs.Sessions.{BeginsLeafMerge, HasLeafMergeCause, HasMergeCauseOf, IsChainIn, IsMergeRefusal, PlanNamesFile, is_told, meaning_of_steps, no_name, of_merge_start, of_plan}
use Rattle.command_base.specs.Folders.{StandsSo}
use Rattle.steps_command.specs.Starts.{IsLeafFullIn, JudgesLeafMerge, JudgesMergeOf, is_leaf, leaf_pairs}
use Rattle.steps_command.specs.Starts as starts
use Rattle.steps_command.specs.Steps.{AreLeft, by_leaf, leaf_left_names}
use Rattle.steps_command.specs.declared.refusal.StepsRefusal.{StepsRefusal}
use Rattle.steps_command.proofs.MergePlaces.{may_change_two, two_within, leaf_named}
use Rattle.steps_command.proofs.Over.{read_counts}
use Rattle.steps_command.proofs.OverScope.{Counted, LeavesMerge, LeftMerged, as_told, begin_counted, files_lent, has_room, left_begun, left_none, lent_told, read_told, scope_over, shows_known, stands_in, told_of}

-- ---- a plan

not_long : (pairs : List Pair) → locator_len pairs ≤ longest_locator → long_len pairs ≡ None
not_long pairs short =
    let e : nat_lt longest_locator (locator_len pairs) ≡ false = le-ltb longest_locator (locator_len pairs) short in
    rw e refl

has_name_room : (parts : Parts) (number : ℕ) (disk : StoreDisk) (pairs : List Pair) (name : List ℕ) (pages : List Page) → HasRetiring parts number disk pairs name pages → HasNameRoom parts number disk pairs name
has_name_room parts number disk pairs name pages r t told region linked = ap is_some (r.told t told region linked).changed

-- the first of the chain's files is the source
leaf_same : (m : LeafFiles) (leaf : LinkedFile) (others : List LinkedFile) → leaf ∷ others ≡ leaf_chain m → m.source ≡ leaf
leaf_same m leaf others same = sym (ap (λ files. first_or files leaf) same)

-- ---- over a host

module _ (retired : List (List ℕ)) (leaf : LinkedFile) (others : List LinkedFile) (old mid : Hosted) (lent disk : StoreDisk) (chain : WhereTold old.folder (IsChainIn (record { retired = retired; files = leaf ∷ others })))
    (lends : Lends (names_of (leaf ∷ others)) old mid lent) (before after : Option (List (List ℕ))) (name : List ℕ) (is : is_leaf (leaf ∷ others) name ≡ true) where
  abbrev L : Linked
  L = record { retired = retired; files = leaf ∷ others }

  -- ---- what was drawn, and the leaf's metadata

  in_the_leaf : (m : LeafFiles) → leaf ∷ others ≡ leaf_chain m → (P : List ℕ → Type 0) → WhereTold lent.told (λ t. P (seen (file_of t 0))) → WhereTold old.folder (λ f. StandsSo (contents f) m.source.name P)
  in_the_leaf m same P p = stands_in retired leaf others old mid lent chain lends [] m.source (m.target ∷ m.below) 0 refl same P p

  judges : (m : LeafFiles) (ids : LeafMergeIds) (unfit : Option (List ℕ)) → spent_leaf (leaf ∷ others) ≡ None → IsLeafBegun (leaf ∷ others) before after m ids → IsLinkShort m ids → HasRoom m.source.parts 0 lent (leaf_pairs m ids)
      → HasNameRoom m.source.parts 0 lent (leaf_pairs m ids) m.target.name → drawing.JudgesDrawn (leaf ∷ others) lent (leaf_merge_ids ids) unfit → JudgesLeafMerge L old.folder before after unfit
  judges m ids unfit unspent begun short link room j = record {
    m = m;
    ids = ids;
    unspent = unspent;
    begun = begun;
    short = short;
    link = in_the_leaf m begun.files_are _ link;
    retired = in_the_leaf m begun.files_are _ room;
    known = j.known;
    shown = shows_known retired leaf others old mid lent chain lends j.known j.shown_are;
    judged = j.judged;
  }

  planned : (m : LeafFiles) (merge : LeafMerge) → PlansLeafMerge (leaf ∷ others) lent before after m merge → JudgesLeafMerge L old.folder before after None
  planned m merge p =
      judges m merge.ids None p.unspent p.begun (not_long (leaf_pairs m merge.ids) p.plan.twice.short) (has_room m.source.parts 0 lent (leaf_pairs m merge.ids) merge.twice p.plan.twice)
      (has_name_room m.source.parts 0 lent (leaf_pairs m merge.ids) m.target.name merge.retire p.plan.retire) p.plan.fit

  -- ---- a session that ran

  pub may : (n : ℕ) → is_first_two n ≡ true → is_among (slice_index_or (names_of (leaf ∷ others)) n []) (starts.changed_names false (Some name) (leaf ∷ others)) ≡ true
  may = may_change_two leaf others name is

  module _ (m : LeafFiles) (merge : LeafMerge) (p : PlansLeafMerge (leaf ∷ others) lent before after m merge) where
    same_files : leaf ∷ others ≡ leaf_chain m
    same_files = p.begun.files_are

    -- its scope is the chain's
    pub scope_is : leaf_scope_of m ≡ scope_over leaf others name is_first_two (leaf_left_names m)
    scope_is =
        ap₂ (λ (l : LinkedFile) (fs : List LinkedFile). record { leaf = way_to l fs (Some l.name); geometry = l.parts.geometry; files = fs; changes = is_first_two; staying = leaf_left_names m; of_leaf = true }) (leaf_same m leaf others same_files) (sym same_files)
        ∙ ap₂ (λ b n. record { leaf = way_to leaf (leaf ∷ others) (Some n); geometry = leaf.parts.geometry; files = leaf ∷ others; changes = is_first_two; staying = leaf_left_names m; of_leaf = b }) (sym is) (leaf_named leaf others name is)

    pub left : AreLeft (leaf ∷ others) name (leaf_left_names m)
    left = by_leaf m is same_files

    pub drawn : JudgesMergeOf (is_leaf (leaf ∷ others) name) L name old.folder before after None
    drawn = subst (λ b. JudgesMergeOf b L name old.folder before after None) (sym is) (planned m merge p)

  -- ---- one that didn't start

  left_plan : (r : PrepareRefusal) → IsLeafStopped (leaf ∷ others) lent disk before after r → disk.told ≡ lent.told
  left_plan plan.NotInChain h = absurd h.why
  left_plan plan.IsBase h = absurd h.why
  left_plan plan.LeafSource h = absurd h.why
  left_plan (plan.LocatorTooLarge len) h = told_of lent disk h.why.1
  left_plan (plan.MetadataFull file) h = told_of lent disk h.why.1
  left_plan (plan.IdUnfit id) h = told_of lent disk h.why.1
  left_plan (plan.Store fault) h = read_told lent disk fault h.why.1.1
  left_plan plan.NoRoom h = told_of lent disk h.why

  left_start : (r : MergeStartRefusal) → RefusesLeafMerge (leaf ∷ others) lent disk before after r → EachOpensAlike (leaf ∷ others) lent.told disk.told → LeftMerged leaf others name lent disk
  left_start (start.Spent number) h alike = left_none leaf others name lent disk (told_of lent disk h.2)
  left_start (start.Plan r) h alike = left_none leaf others name lent disk (left_plan r h.1)
  left_start (start.Begin fault) h alike = left_begun leaf others name lent disk is_first_two may alike h.still

  plan_counted : (r : PrepareRefusal) → IsLeafStopped (leaf ∷ others) lent disk before after r → Counted lent disk (meaning_of_steps (of_plan (names_of (leaf ∷ others)) name r))
  plan_counted plan.NotInChain h = absurd h.why
  plan_counted plan.IsBase h = absurd h.why
  plan_counted plan.LeafSource h = absurd h.why
  plan_counted (plan.LocatorTooLarge len) h = h.why.1
  plan_counted (plan.MetadataFull file) h = h.why.1
  plan_counted (plan.IdUnfit id) h = h.why.1
  plan_counted (plan.Store fault) h = read_counts lent disk fault h.why.1.0 h.why.1.1
  plan_counted plan.NoRoom h = as_told lent disk h.why

  named_counted : (r : PrepareRefusal) → IsLeafStopped (leaf ∷ others) lent disk before after r → PlanNamesFile r → disk ≡ record lent { told = disk.told }
  named_counted plan.NotInChain h n = absurd h.why
  named_counted plan.IsBase h n = absurd h.why
  named_counted plan.LeafSource h n = absurd h.why
  named_counted (plan.LocatorTooLarge len) h n = absurd n
  named_counted (plan.MetadataFull file) h n = as_told lent disk h.why.1
  named_counted (plan.IdUnfit id) h n = absurd n
  named_counted (plan.Store fault) h n = absurd n
  named_counted plan.NoRoom h n = absurd n

  within : (n : ℕ) → is_first_two n ≡ true → n < lent.files
  within n two = subst (λ k. n < k) (sym (files_lent retired leaf others old mid lent chain lends)) (two_within leaf others name is n two)

  start_counted : (r : MergeStartRefusal) → RefusesLeafMerge (leaf ∷ others) lent disk before after r → Counted lent disk (meaning_of_steps (of_merge_start (names_of (leaf ∷ others)) name r))
  start_counted (start.Spent number) h = h.2
  start_counted (start.Plan r) h = plan_counted r h.1
  start_counted (start.Begin fault) h = begin_counted lent disk is_first_two fault within h.fails

  told_counted : (r : MergeStartRefusal) (x : StepsRefusal) → RefusesLeafMerge (leaf ∷ others) lent disk before after r → IsMergeRefusal (names_of (leaf ∷ others)) name r x → Counted lent disk (meaning_of_steps x)
  told_counted r x h (is_told _ _ e) = subst (λ y. Counted lent disk (meaning_of_steps y)) (sym e) (start_counted r h)
  told_counted _ x h (no_name why _ n e) = subst (λ y. Counted lent disk (meaning_of_steps y)) (sym e) (named_counted why h.1 n)

  -- why
  begun_in : (m : LeafFiles) (ids : LeafMergeIds) → spent_leaf (leaf ∷ others) ≡ None → IsLeafBegun (leaf ∷ others) before after m ids → BeginsLeafMerge L before after m ids
  begun_in m ids unspent begun = record { unspent = unspent; begun = begun }

  full_in : (m : LeafFiles) (ids : LeafMergeIds) (file : ℕ) → leaf ∷ others ≡ leaf_chain m → IsLeafFull lent m ids file → WhereTold old.folder (λ f. IsLeafFullIn (contents f) m ids (slice_index_or (names_of (leaf ∷ others)) file []))
  full_in m ids _ same (for_link lacks) f told = subst (IsLeafFullIn (contents f) m ids) (sym (ap (λ files. slice_index_or (names_of files) 0 []) same)) (starts.for_link (in_the_leaf m same _ lacks f told))
  full_in m ids _ same (for_clearing none named) f told = let never : None ≡ Some _ = sym none ∙ lent_told retired leaf others old mid lent chain lends f told in cc
  full_in m ids _ same (for_name has lacks) f told =
      subst (IsLeafFullIn (contents f) m ids) (sym (ap (λ files. slice_index_or (names_of files) 0 []) same)) (starts.for_name (in_the_leaf m same _ has f told) (in_the_leaf m same _ lacks f told))

  plan_cause : (r : PrepareRefusal) → spent_leaf (leaf ∷ others) ≡ None → IsLeafStopped (leaf ∷ others) lent disk before after r → HasLeafMergeCause L old.folder before after (of_plan (names_of (leaf ∷ others)) name r)
  plan_cause plan.NotInChain unspent h = absurd h.why
  plan_cause plan.IsBase unspent h = absurd h.why
  plan_cause plan.LeafSource unspent h = absurd h.why
  plan_cause (plan.LocatorTooLarge len) unspent h = (h.m, h.ids, begun_in h.m h.ids unspent h.begun, h.why.0)
  plan_cause (plan.MetadataFull file) unspent h = (h.m, h.ids, begun_in h.m h.ids unspent h.begun, h.why.0.short, full_in h.m h.ids file h.begun.files_are h.why.0.full)
  plan_cause (plan.IdUnfit id) unspent h = let u = h.why.0 in judges h.m h.ids (Some id) unspent h.begun u.short u.link u.name u.unfit
  plan_cause (plan.Store fault) unspent h = tt
  plan_cause plan.NoRoom unspent h = tt

  start_cause : (r : MergeStartRefusal) → RefusesLeafMerge (leaf ∷ others) lent disk before after r → HasLeafMergeCause L old.folder before after (of_merge_start (names_of (leaf ∷ others)) name r)
  start_cause (start.Spent number) h = (h.0, h.1)
  start_cause (start.Plan r) h = plan_cause r h.0 h.1
  start_cause (start.Begin (seal.Store fault)) h = tt
  start_cause (start.Begin seal.NoRoom) h = tt

  told_cause : (r : MergeStartRefusal) (x : StepsRefusal) → RefusesLeafMerge (leaf ∷ others) lent disk before after r → IsMergeRefusal (names_of (leaf ∷ others)) name r x → HasLeafMergeCause L old.folder before after x
  told_cause r x h (is_told _ _ e) = subst (HasLeafMergeCause L old.folder before after) (sym e) (start_cause r h)
  told_cause _ x h (no_name why _ n e) = subst (HasLeafMergeCause L old.folder before after) (sym e) tt

  pub leaves_leaf_merge : (r : MergeStartRefusal) (x : StepsRefusal) → RefusesLeafMerge (leaf ∷ others) lent disk before after r → EachOpensAlike (leaf ∷ others) lent.told disk.told → IsMergeRefusal (names_of (leaf ∷ others)) name r x
      → LeavesMerge retired leaf others old.folder lent disk before after name x
  leaves_leaf_merge r x h alike told = record {
    left = left_start r h alike;
    counted = told_counted r x h told;
    cause = subst (λ b. HasMergeCauseOf b L name old.folder before after x) (sym is) (told_cause r x h told);
    kept = inr alike;
  }
