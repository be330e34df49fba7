-- The merge of a file below the leaf over a chain's files: from what the store's session leaves to what the host is left with.
use Rattle.std.proofs.Common.{◌≡◌, ℕ, ◌<◌, ◌≤◌, true, false, List, [], ◌∷◌, ◌++◌, length, Option, Some, None, refl, sym, ap, ap₂, subst, ◌∙◌, inr}
use Rattle.std.specs.Prelude.{nat_lt, slice_index_or}
use Rattle.std.proofs.lemmas.Bool.{le-ltb}
use Rattle.std.proofs.lemmas.List.{append_assoc, length-append}
use Rattle.store_model.specs.Disk.{Disk as StoreDisk, WhereTold}
use Rattle.store_model.specs.File.{seen}
use Rattle.store_model.specs.Folder.{Hosted}
use Rattle.store_model.specs.Trace.{Trace, file_of}
use Rattle.std.specs.List.{AllByRecursion}
use Rattle.chain_model.specs.Members.{NoneTwice}
use Rattle.layer_session.specs.Unnamed.{NamesNoLog}
use Rattle.store_model.specs.declared.fault.SealFault.TheVariants as seal
use Rattle.vhdx_format.specs.Locators.{locator_len, longest_locator}
use Rattle.vhdx_format.specs.declared.locator.Pair.{Pair}
use Rattle.link_rules.specs.Chains.{is_among, names_of}
use Rattle.link_rules.specs.Folders.{contents}
use Rattle.link_rules.specs.declared.linked.Linked.{Linked}
use Rattle.link_rules.specs.declared.linked.LinkedFile.{LinkedFile}
use Rattle.merge_plan.specs.Drawing.{merge_ids}
use Rattle.merge_plan.specs.Drawing as drawing
use Rattle.merge_plan.specs.Merging.{HasRoom, MergeFiles, child_place, first_long, source_place}
use Rattle.merge_plan.specs.Planning.{AreShort, IsBegun, IsFull, Refuses, in_child, in_source}
use Rattle.merge_plan.specs.declared.merge.Merge.{Merge}
use Rattle.merge_plan.specs.declared.drawing.MergeIds.{MergeIds}
use Rattle.merge_plan.specs.declared.refusal.PrepareRefusal.{PrepareRefusal}
use Rattle.merge_plan.specs.declared.refusal.PrepareRefusal.TheVariants as plan
use Rattle.chain_core.specs.MergeStarting.{PlansMerge, RefusesMerge, chain_files, is_changed, spent}
use Rattle.chain_core.specs.Starting.{EachOpensAlike, way_to}
use Rattle.chain_core.specs.declared.merge_start.MergeStartRefusal.{MergeStartRefusal}
use Rattle.chain_core.specs.declared.merge_start.MergeStartRefusal.TheVariants as start
use Rattle.script_session.specs.MergeRunning.{names_without, scope_of}
use Rattle.command_base.specs.Commands.{Lends}
use Rattle.steps_command.specs.Sessions.{BeginsMerge, HasMergeCause, HasMergeCauseOf, IsChainIn, IsMergeRefusal, PlanNamesFile, is_told, meaning_of_steps, no_name, of_merge_start, of_plan}
use Rattle.command_base.specs.Folders.{StandsSo}
use Rattle.steps_command.specs.Starts.{IsFullIn, JudgesMerge, JudgesMergeOf, changed_names, child_pairs, is_leaf, source_pairs}
use Rattle.steps_command.specs.Starts as starts
use Rattle.steps_command.specs.Steps.{AreLeft, by_other}
use Rattle.steps_command.specs.declared.refusal.StepsRefusal.{StepsRefusal}
use Rattle.steps_command.proofs.MergePlaces.{child_at, leaf_is, may_change_all, places_within, source_at}
use Rattle.steps_command.proofs.Unlogged.{IsUnlogged, unlogged_all}
use Rattle.steps_command.proofs.Over.{read_counts}
use Rattle.steps_command.proofs.OverScope.{Counted, LeavesMerge, LeftMerged, as_told, begin_counted, files_lent, has_room, left_begun, left_none, read_told, scope_over, shows_known, stands_in, told_of}

-- ---- a plan

none_long : (twice once : List Pair) → locator_len twice ≤ longest_locator → locator_len once ≤ longest_locator → first_long twice once ≡ None
none_long twice once a b =
    let e : nat_lt longest_locator (locator_len twice) ≡ false = le-ltb longest_locator (locator_len twice) a in
    let f : nat_lt longest_locator (locator_len once) ≡ false = le-ltb longest_locator (locator_len once) b in
    rw (e, f) refl

-- ---- over a host

module _ (retired : List (List ℕ)) (leaf : LinkedFile) (others : List LinkedFile) (old mid : Hosted) (lent disk : StoreDisk) (chain : WhereTold old.folder (IsChainIn (record { retired = retired; files = leaf ∷ others })))
    (lends : Lends (names_of (leaf ∷ others)) old mid lent) (before after : Option (List (List ℕ))) (name : List ℕ) (other : is_leaf (leaf ∷ others) name ≡ false) where
  abbrev L : Linked
  L = record { retired = retired; files = leaf ∷ others }

  -- ---- what was drawn, and the files' metadata

  module _ (m : MergeFiles) (same : leaf ∷ others ≡ chain_files m) where
    in_the_child : (P : List ℕ → Type 0) → WhereTold lent.told (λ t. P (seen (file_of t (child_place m)))) → WhereTold old.folder (λ f. StandsSo (contents f) m.child.name P)
    in_the_child P p = stands_in retired leaf others old mid lent chain lends m.above m.child (m.source ∷ m.target ∷ m.below) (child_place m) refl same P p

    in_the_source : (P : List ℕ → Type 0) → WhereTold lent.told (λ t. P (seen (file_of t (source_place m)))) → WhereTold old.folder (λ f. StandsSo (contents f) m.source.name P)
    in_the_source P p =
        stands_in retired leaf others old mid lent chain lends (m.above ++ m.child ∷ []) m.source (m.target ∷ m.below) (source_place m) (sym (length-append m.above (m.child ∷ []))) (same ∙ sym (append_assoc m.above (m.child ∷ []) (m.source ∷ m.target ∷ m.below))) P p

  judges : (m : MergeFiles) (ids : MergeIds) (unfit : Option (List ℕ)) → spent (leaf ∷ others) name ≡ None → IsBegun (leaf ∷ others) name before after m ids → AreShort m ids → HasRoom m.source.parts (source_place m) lent (source_pairs m ids)
      → HasRoom m.child.parts (child_place m) lent (child_pairs m ids) → drawing.JudgesDrawn (leaf ∷ others) lent (merge_ids ids) unfit → JudgesMerge L name old.folder before after unfit
  judges m ids unfit unspent begun short source child j = record {
    m = m;
    ids = ids;
    unspent = unspent;
    begun = begun;
    short = short;
    source = in_the_source m begun.files_are.files_are _ source;
    child = in_the_child m begun.files_are.files_are _ child;
    known = j.known;
    shown = shows_known retired leaf others old mid lent chain lends j.known j.shown_are;
    judged = j.judged;
  }

  pub planned : (m : MergeFiles) (merge : Merge) → PlansMerge (leaf ∷ others) name lent before after m merge → JudgesMerge L name old.folder before after None
  planned m merge p =
      judges m merge.ids None p.unspent p.begun (none_long (source_pairs m merge.ids) (child_pairs m merge.ids) p.plan.twice.short p.plan.relink.short)
      (has_room m.source.parts (source_place m) lent (source_pairs m merge.ids) merge.twice p.plan.twice) (has_room m.child.parts (child_place m) lent (child_pairs m merge.ids) merge.relink p.plan.relink) p.plan.fit

  -- ---- a session that ran

  module _ (m : MergeFiles) (merge : Merge) (p : PlansMerge (leaf ∷ others) name lent before after m merge) where
    same_files : leaf ∷ others ≡ chain_files m
    same_files = p.begun.files_are.files_are

    pub may : (n : ℕ) → is_changed m n ≡ true → is_among (slice_index_or (names_of (leaf ∷ others)) n []) (changed_names false (Some name) (leaf ∷ others)) ≡ true
    may = may_change_all m leaf others name same_files p.begun.files_are.named other

    -- its scope is the chain's
    pub scope_is : scope_of m ≡ scope_over leaf others name (is_changed m) (names_without m)
    scope_is =
        ap₂ (λ (l : LinkedFile) (fs : List LinkedFile). record { leaf = way_to l fs (Some m.source.name); geometry = l.parts.geometry; files = fs; changes = is_changed m; staying = names_without m; of_leaf = false }) (leaf_is m leaf others same_files) (sym same_files)
        ∙ ap₂ (λ b n. record { leaf = way_to leaf (leaf ∷ others) (Some n); geometry = leaf.parts.geometry; files = leaf ∷ others; changes = is_changed m; staying = names_without m; of_leaf = b }) (sym other) p.begun.files_are.named

    pub ended_all : NoneTwice (names_of (leaf ∷ others)) → (t : Trace) → ((n : ℕ) → is_changed m n ≡ true → NamesNoLog (seen (file_of t n))) → AllByRecursion (IsUnlogged (leaf ∷ others) t) (changed_names false (Some name) (leaf ∷ others))
    ended_all differ t none = unlogged_all m leaf others name same_files p.begun.files_are.named other differ t none

    pub left : AreLeft (leaf ∷ others) name (names_without m)
    left = by_other m other p.begun.files_are

    pub drawn : JudgesMergeOf (is_leaf (leaf ∷ others) name) L name old.folder before after None
    drawn = subst (λ b. JudgesMergeOf b L name old.folder before after None) (sym other) (planned m merge p)

  -- ---- one that didn't start

  left_plan : (r : PrepareRefusal) → Refuses (leaf ∷ others) name lent disk before after r → disk.told ≡ lent.told
  left_plan plan.NotInChain h = told_of lent disk h.2
  left_plan plan.IsBase h = told_of lent disk h.2
  left_plan plan.LeafSource h = told_of lent disk h.2
  left_plan (plan.LocatorTooLarge len) h = told_of lent disk h.why.1
  left_plan (plan.MetadataFull file) h = told_of lent disk h.why.1
  left_plan (plan.IdUnfit id) h = told_of lent disk h.why.1
  left_plan (plan.Store fault) h = read_told lent disk fault h.why.1.1
  left_plan plan.NoRoom h = told_of lent disk h.why

  left_start : (r : MergeStartRefusal) → RefusesMerge (leaf ∷ others) name lent disk before after r → EachOpensAlike (leaf ∷ others) lent.told disk.told → LeftMerged leaf others name lent disk
  left_start (start.Spent number) h alike = left_none leaf others name lent disk (told_of lent disk h.2)
  left_start (start.Plan r) h alike = left_none leaf others name lent disk (left_plan r h.1)
  left_start (start.Begin fault) h alike =
      left_begun leaf others name lent disk (is_changed h.m) (may_change_all h.m leaf others name h.planned.begun.files_are.files_are h.planned.begun.files_are.named other) alike h.still

  plan_counted : (r : PrepareRefusal) → Refuses (leaf ∷ others) name lent disk before after r → Counted lent disk (meaning_of_steps (of_plan (names_of (leaf ∷ others)) name r))
  plan_counted plan.NotInChain h = h.2
  plan_counted plan.IsBase h = h.2
  plan_counted plan.LeafSource h = as_told lent disk h.2
  plan_counted (plan.LocatorTooLarge len) h = h.why.1
  plan_counted (plan.MetadataFull file) h = h.why.1
  plan_counted (plan.IdUnfit id) h = h.why.1
  plan_counted (plan.Store fault) h = read_counts lent disk fault h.why.1.0 h.why.1.1
  plan_counted plan.NoRoom h = as_told lent disk h.why

  named_counted : (r : PrepareRefusal) → Refuses (leaf ∷ others) name lent disk before after r → PlanNamesFile r → disk ≡ record lent { told = disk.told }
  named_counted plan.NotInChain h n = as_told lent disk h.2
  named_counted plan.IsBase h n = as_told lent disk h.2
  named_counted plan.LeafSource h n = absurd n
  named_counted (plan.LocatorTooLarge len) h n = absurd n
  named_counted (plan.MetadataFull file) h n = as_told lent disk h.why.1
  named_counted (plan.IdUnfit id) h n = absurd n
  named_counted (plan.Store fault) h n = absurd n
  named_counted plan.NoRoom h n = absurd n

  within : (m : MergeFiles) → leaf ∷ others ≡ chain_files m → (n : ℕ) → is_changed m n ≡ true → n < lent.files
  within m same n is = subst (λ k. n < k) (sym (files_lent retired leaf others old mid lent chain lends ∙ ap length same)) (places_within m n is)

  start_counted : (r : MergeStartRefusal) → RefusesMerge (leaf ∷ others) name lent disk before after r → Counted lent disk (meaning_of_steps (of_merge_start (names_of (leaf ∷ others)) name r))
  start_counted (start.Spent number) h = h.2
  start_counted (start.Plan r) h = plan_counted r h.1
  start_counted (start.Begin fault) h = begin_counted lent disk (is_changed h.m) fault (within h.m h.planned.begun.files_are.files_are) h.fails

  told_counted : (r : MergeStartRefusal) (x : StepsRefusal) → RefusesMerge (leaf ∷ others) name lent disk before after r → IsMergeRefusal (names_of (leaf ∷ others)) name r x → Counted lent disk (meaning_of_steps x)
  told_counted r x h (is_told _ _ e) = subst (λ y. Counted lent disk (meaning_of_steps y)) (sym e) (start_counted r h)
  told_counted _ x h (no_name why _ n e) = subst (λ y. Counted lent disk (meaning_of_steps y)) (sym e) (named_counted why h.1 n)

  -- why
  begun_in : (m : MergeFiles) (ids : MergeIds) → spent (leaf ∷ others) name ≡ None → IsBegun (leaf ∷ others) name before after m ids → BeginsMerge L name before after m ids
  begun_in m ids unspent begun = record { unspent = unspent; begun = begun }

  full_in : (m : MergeFiles) (ids : MergeIds) (file : ℕ) → leaf ∷ others ≡ chain_files m → IsFull lent m ids file → WhereTold old.folder (λ f. IsFullIn (contents f) m ids (slice_index_or (names_of (leaf ∷ others)) file []))
  full_in m ids _ same (in_source lacks) f told =
      subst (IsFullIn (contents f) m ids) (sym (ap (λ files. slice_index_or (names_of files) (source_place m) []) same ∙ source_at m)) (starts.in_source (in_the_source m same _ lacks f told))
  full_in m ids _ same (in_child has lacks) f told =
      subst (IsFullIn (contents f) m ids) (sym (ap (λ files. slice_index_or (names_of files) (child_place m) []) same ∙ child_at m)) (starts.in_child (in_the_source m same _ has f told) (in_the_child m same _ lacks f told))

  plan_cause : (r : PrepareRefusal) → spent (leaf ∷ others) name ≡ None → Refuses (leaf ∷ others) name lent disk before after r → HasMergeCause L name old.folder before after (of_plan (names_of (leaf ∷ others)) name r)
  plan_cause plan.NotInChain unspent h = record { same = refl; unspent = unspent; so = h.0; undrawn = h.1 }
  plan_cause plan.IsBase unspent h = record { same = refl; unspent = unspent; so = h.0; undrawn = h.1 }
  plan_cause plan.LeafSource unspent h = tt
  plan_cause (plan.LocatorTooLarge len) unspent h = (h.m, h.ids, begun_in h.m h.ids unspent h.begun, h.why.0)
  plan_cause (plan.MetadataFull file) unspent h = (h.m, h.ids, begun_in h.m h.ids unspent h.begun, h.why.0.short, full_in h.m h.ids file h.begun.files_are.files_are h.why.0.full)
  plan_cause (plan.IdUnfit id) unspent h = let u = h.why.0 in judges h.m h.ids (Some id) unspent h.begun u.short u.source u.child u.unfit
  plan_cause (plan.Store fault) unspent h = tt
  plan_cause plan.NoRoom unspent h = tt

  start_cause : (r : MergeStartRefusal) → RefusesMerge (leaf ∷ others) name lent disk before after r → HasMergeCause L name old.folder before after (of_merge_start (names_of (leaf ∷ others)) name r)
  start_cause (start.Spent number) h = (h.0, h.1)
  start_cause (start.Plan r) h = plan_cause r h.0 h.1
  start_cause (start.Begin (seal.Store fault)) h = tt
  start_cause (start.Begin seal.NoRoom) h = tt

  told_cause : (r : MergeStartRefusal) (x : StepsRefusal) → RefusesMerge (leaf ∷ others) name lent disk before after r → IsMergeRefusal (names_of (leaf ∷ others)) name r x → HasMergeCause L name old.folder before after x
  told_cause r x h (is_told _ _ e) = subst (HasMergeCause L name old.folder before after) (sym e) (start_cause r h)
  told_cause _ x h (no_name why _ n e) = subst (HasMergeCause L name old.folder before after) (sym e) tt

  pub leaves_merge : (r : MergeStartRefusal) (x : StepsRefusal) → RefusesMerge (leaf ∷ others) name lent disk before after r → EachOpensAlike (leaf ∷ others) lent.told disk.told → IsMergeRefusal (names_of (leaf ∷ others)) name r x
      → LeavesMerge retired leaf others old.folder lent disk before after name x
  leaves_merge r x h alike told = record {
    left = left_start r h alike;
    counted = told_counted r x h told;
    cause = subst (λ b. HasMergeCauseOf b L name old.folder before after x) (sym other) (told_cause r x h told);
    kept = inr alike;
  }
