-- A script over a chain's files, with a merge or without: what the host is left with.
use Rattle.std.proofs.Common.{◌≡◌, ℕ, ◌<◌, Bool, true, false, List, [], ◌∷◌, ◌++◌, length, take, Option, Some, None, Result, Ok, Err, refl, sym, ap, subst, ◌∙◌, arith, inl}
use Rattle.std.proofs.lemmas.List.{length-map}
use Rattle.std.specs.Prelude.{All, IfErr, IfOk, option_map}
use Rattle.file_open.specs.Causes.{Meaning, refuses, host_failed, store_failed, no_memory}
use Rattle.store_model.specs.Disk.{Disk as StoreDisk, WhereBothTold, WhereTold}
use Rattle.store_model.specs.Folder.{AreAway, HasFailed, Hosted, KeepsStore, RoseWhere, given_back}
use Rattle.chain_model.specs.Members.{NoneTwice}
use Rattle.link_rules.specs.Chains.{names_of}
use Rattle.link_rules.specs.Effects.{IsServed}
use Rattle.link_rules.specs.Folders.{AllIdle}
use Rattle.link_rules.specs.Lines.{IsLine}
use Rattle.link_rules.specs.declared.linked.LinkedFile.{LinkedFile}
use Rattle.merge_plan.specs.LeafMerging.{LeafFiles}
use Rattle.merge_plan.specs.LeafPlanning.{IsLeafFull, IsLeafStopped, for_clearing, for_link, for_name}
use Rattle.merge_plan.specs.Merging.{MergeFiles, child_place, source_place}
use Rattle.merge_plan.specs.Planning.{IsFull, Refuses, in_child, in_source}
use Rattle.merge_plan.specs.declared.drawing.MergeIds.{MergeIds}
use Rattle.merge_plan.specs.declared.leaf_drawing.LeafMergeIds.{LeafMergeIds}
use Rattle.merge_plan.specs.declared.refusal.PrepareRefusal.{PrepareRefusal}
use Rattle.merge_plan.specs.declared.refusal.PrepareRefusal.TheVariants as plan
use Rattle.chain_core.specs.LeafStarting.{RefusesLeafMerge, is_first_two, leaf_chain}
use Rattle.chain_core.specs.MergeStarting.{RefusesMerge, chain_files, is_changed}
use Rattle.chain_core.specs.Starting.{EachOpensAlike}
use Rattle.chain_core.specs.declared.merge_start.MergeStartRefusal.{MergeStartRefusal}
use Rattle.chain_core.specs.declared.merge_start.MergeStartRefusal.TheVariants as start
use Rattle.chain_core.specs.declared.starting.Mode.{Mode}
use Rattle.chain_core.specs.declared.starting.Mode.TheVariants.{Guests, ReadOnly}
use Rattle.script.specs.declared.form.Line.{Line}
use Rattle.script_session.specs.MergeRunning.{HasHistoryOver, HasRunLeafMerge, HasRunMerge, names_without}
use Rattle.script_session.specs.declared.session.ScriptRun.{ScriptRun}
use Rattle.command_base.specs.Causes.{LeavesStoreBy, meaning_of_chain}
use Rattle.command_base.specs.Commands.{Lends}
use Rattle.command_base.specs.Refusals.{Refusal}
use Rattle.link_rules.specs.declared.linked.Linked.{Linked}
use Rattle.steps_command.specs.Sessions.{CanMerge, HasNotMerged, HasNotRunWith, HasRunMergeOf, HasRunWith, IsBarredMerge, IsChainIn, IsLinkedChain, IsMergeRefusal, NotRunOver, PlanHasFile, RefusesMergeOf, RunOver, StartHasFile, not_started, unread}
use Rattle.steps_command.specs.Starts.{is_leaf}
use Rattle.steps_command.specs.Steps.{leaf_left_names}
use Rattle.steps_command.specs.declared.refusal.StepsRefusal.{StepsRefusal}
use Rattle.steps_command.specs.declared.refusal.StepsRefusal.TheVariants as steps
use Rattle.steps_command.proofs.MergePlaces.{child_changed, first_is_leaf, places_within, source_changed}
use Rattle.steps_command.proofs.Over.{back_for, changed_of, left_lent, no_rule_of, not_run_over, read_counts, run_over}
use Rattle.steps_command.proofs.OverLeaf.{leaves_leaf_merge}
use Rattle.steps_command.proofs.OverLeaf as leaf_merge
use Rattle.steps_command.proofs.OverMerge.{leaves_merge}
use Rattle.steps_command.proofs.OverMerge as merge
use Rattle.steps_command.proofs.Unlogged.{unlogged_two}
use Rattle.command_base.proofs.Followed.{last_once}
use Rattle.steps_command.proofs.OverScope.{Counted, LeavesMerge, LeftMerged, as_told, left_none, not_merged, scope_changed, scope_over, scope_ran}
use Rattle.steps_command.proofs.Ran.{back_requires, still_rests, still_stands}

-- ---- what a session with a merge leaves, of the leaf or of another file

module _ (retired : List (List ℕ)) (leaf : LinkedFile) (others : List LinkedFile) (old mid : Hosted) (lent disk : StoreDisk) (chain : WhereTold old.folder (IsChainIn (record { retired = retired; files = leaf ∷ others })))
    (lends : Lends (names_of (leaf ∷ others)) old mid lent) (before after : Option (List (List ℕ))) (name : List ℕ) where
  leaves_all : (x : StepsRefusal) → HasNotMerged (leaf ∷ others) name lent disk before after x → LeavesMerge retired leaf others old.folder lent disk before after name x
  leaves_all _ (unread refusal l same) =
      let read = left_lent Guests (leaf ∷ others) lent disk before refusal l (meaning_of_chain refusal) l in
      record { left = left_none leaf others name lent disk read.2; counted = by_meaning (meaning_of_chain refusal) l; cause = no_rule_of (is_leaf (leaf ∷ others) name) name (record { retired = retired; files = leaf ∷ others }) old.folder before after refusal read.1; kept = inl read.2 }
    where
      by_meaning : (m : Meaning Refusal) → LeavesStoreBy lent disk m → Counted lent disk m
      by_meaning (refuses r) l = absurd l
      by_meaning (host_failed fault) l = absurd l
      by_meaning (store_failed fault) l = read_counts lent disk fault l.0 l.1
      by_meaning no_memory l = as_told lent disk l
  leaves_all x (not_started r _ h alike told) = by_kind (is_leaf (leaf ∷ others) name) refl h
    where
      by_kind : (b : Bool) → is_leaf (leaf ∷ others) name ≡ b → RefusesMergeOf b (leaf ∷ others) name lent disk before after r → LeavesMerge retired leaf others old.folder lent disk before after name x
      by_kind true is h = leaves_leaf_merge retired leaf others old mid lent disk chain lends before after name is r x h alike told
      by_kind false is h = leaves_merge retired leaf others old mid lent disk chain lends before after name is r x h alike told

  -- what one that ran tells of its files
  pub past_leaf : (lines : List Line) (run : ScriptRun) (h : HasRunLeafMerge (leaf ∷ others) (names_of (leaf ∷ others)) lines run lent disk before after) → is_leaf (leaf ∷ others) name ≡ true
      → WhereBothTold (HasHistoryOver (scope_over leaf others name is_first_two (leaf_left_names h.m)) (take h.many lines) h.told run.closed) lent.told disk.told
  past_leaf lines run h is = subst (λ scope. WhereBothTold (HasHistoryOver scope (take h.many lines) h.told run.closed) lent.told disk.told) (leaf_merge.scope_is retired leaf others old mid lent disk chain lends before after name is h.m h.merge h.planned) h.history

  pub past_other : (lines : List Line) (run : ScriptRun) (h : HasRunMerge (leaf ∷ others) name (names_of (leaf ∷ others)) lines run lent disk before after) → is_leaf (leaf ∷ others) name ≡ false
      → WhereBothTold (HasHistoryOver (scope_over leaf others name (is_changed h.m) (names_without h.m)) (take h.many lines) h.told run.closed) lent.told disk.told
  past_other lines run h is = subst (λ scope. WhereBothTold (HasHistoryOver scope (take h.many lines) h.told run.closed) lent.told disk.told) (merge.scope_is retired leaf others old mid lent disk chain lends before after name is h.m h.merge h.planned) h.history

  -- what one that ran changed
  changed_all : (lines : List Line) (run : ScriptRun) → HasRunMergeOf (is_leaf (leaf ∷ others) name) (leaf ∷ others) name (names_of (leaf ∷ others)) lines run lent disk before after → LeftMerged leaf others name lent disk
  changed_all lines run h = by_kind (is_leaf (leaf ∷ others) name) refl h
    where
      by_kind : (b : Bool) → is_leaf (leaf ∷ others) name ≡ b → HasRunMergeOf b (leaf ∷ others) name (names_of (leaf ∷ others)) lines run lent disk before after → LeftMerged leaf others name lent disk
      by_kind true is h = record {
        written = is_first_two;
        may = leaf_merge.may retired leaf others old mid lent disk chain lends before after name is;
        changed = scope_changed leaf others name is_first_two (leaf_left_names h.m) (take h.many lines) h.told run.closed lent.told disk.told (past_leaf lines run h is);
      }
      by_kind false is h = record {
        written = is_changed h.m;
        may = merge.may retired leaf others old mid lent disk chain lends before after name is h.m h.merge h.planned;
        changed = scope_changed leaf others name (is_changed h.m) (names_without h.m) (take h.many lines) h.told run.closed lent.told disk.told (past_other lines run h is);
      }

-- ---- before the files come back

module _ (mode : Mode) (retired : List (List ℕ)) (old mid : Hosted) (lent disk : StoreDisk) (before after : Option (List (List ℕ))) (lines : List Line) (idle : WhereTold old.folder AllIdle) where
  abbrev Away : Type 0
  Away = WhereTold mid.folder (λ folder. WhereTold disk.told (λ trace. AreAway trace folder))

  back_all : (merge : Option (List ℕ)) (files : List LinkedFile) (names : List (List ℕ)) (result : Result ScriptRun StepsRefusal) → names ≡ names_of files → IsLine files → NoneTwice (retired ++ names_of files)
      → WhereTold old.folder (IsChainIn (record { retired = retired; files = files })) → Lends (names_of files) old mid lent → IfOk result (λ run. HasRunWith mode merge files names lines run lent disk before after)
      → IfErr result (HasNotRunWith mode merge files lent disk before after) → Away
  back_all None files names result same line once chain lends ran none =
      back_for mode retired files old mid lent disk line idle once chain lends (changed_of mode files names lines lent disk before after result line ran none)
  back_all (Some name) [] names result same line once chain lends ran none = absurd line
  back_all (Some name) (leaf ∷ others) names (Ok run) same line once chain lends ran none =
      let left = changed_all retired leaf others old mid lent disk chain lends before after name lines run (subst (λ ns. HasRunMergeOf (is_leaf (leaf ∷ others) name) (leaf ∷ others) name ns lines run lent disk before after) same ran) in
      back_requires retired leaf others old mid lent idle once chain lends disk Guests (Some name) left.written left.may left.changed
  back_all (Some name) (leaf ∷ others) names (Err x) same line once chain lends ran none =
      let left = (leaves_all retired leaf others old mid lent disk chain lends before after name x none).left in
      back_requires retired leaf others old mid lent idle once chain lends disk Guests (Some name) left.written left.may left.changed

-- ---- and then

module _ (mode : Mode) (retired : List (List ℕ)) (old mid now : Hosted) (lent disk : StoreDisk) (before after : Option (List (List ℕ))) (lines : List Line) (idle : WhereTold old.folder AllIdle) where
  run_all : (merge : Option (List ℕ)) (files : List LinkedFile) (names : List (List ℕ)) (result : Result ScriptRun StepsRefusal) → CanMerge mode merge → names ≡ names_of files → IsLine files → All IsServed files
      → NoneTwice (retired ++ names_of files) → WhereTold old.folder (IsChainIn (record { retired = retired; files = files })) → Lends (names_of files) old mid lent
      → WhereTold disk.told (λ trace. now.folder ≡ option_map (given_back trace) mid.folder) → KeepsStore disk mid now → RoseWhere (HasFailed disk) mid.faults now.faults
      → IfOk result (λ run. HasRunWith mode merge files names lines run lent disk before after) → IfErr result (HasNotRunWith mode merge files lent disk before after)
      → IfOk result (λ run. RunOver mode merge (record { retired = retired; files = files }) lines run old now before after)
  run_all None files names result can same line served once chain lends back_is past_is count ran none =
      run_over mode retired old mid now lent disk before after lines idle files names result same line served once chain lends back_is past_is count (changed_of mode files names lines lent disk before after result line ran none) ran
  run_all (Some name) [] names result can same line served once chain lends back_is past_is count ran none = absurd line
  run_all (Some name) (leaf ∷ others) names (Err x) can same line served once chain lends back_is past_is count ran none = tt
  run_all (Some name) (leaf ∷ others) names (Ok run) can same line served once chain lends back_is past_is count ran none = by_mode mode can
    where
      by_mode : (mode : Mode) → CanMerge mode (Some name) → RunOver mode (Some name) (record { retired = retired; files = leaf ∷ others }) lines run old now before after
      by_mode Guests can = by_kind (is_leaf (leaf ∷ others) name) refl (subst (λ ns. HasRunMergeOf (is_leaf (leaf ∷ others) name) (leaf ∷ others) name ns lines run lent disk before after) same ran)
        where
          by_kind : (b : Bool) → is_leaf (leaf ∷ others) name ≡ b → HasRunMergeOf b (leaf ∷ others) name (names_of (leaf ∷ others)) lines run lent disk before after
              → RunOver Guests (Some name) (record { retired = retired; files = leaf ∷ others }) lines run old now before after
          by_kind true is h =
              scope_ran retired leaf others old mid now lent disk idle served once chain lends back_is past_is count before after name is_first_two (leaf_left_names h.m) (leaf_merge.may retired leaf others old mid lent disk chain lends before after name is)
              (leaf_merge.left retired leaf others old mid lent disk chain lends before after name is h.m h.merge h.planned) h.many lines h.told run (past_leaf retired leaf others old mid lent disk chain lends before after name lines run h is) h.faults (unlogged_two leaf others name is) h.whole h.fault_is
              h.counted h.ended h.quiet (leaf_merge.drawn retired leaf others old mid lent disk chain lends before after name is h.m h.merge h.planned)
          by_kind false is h =
              scope_ran retired leaf others old mid now lent disk idle served once chain lends back_is past_is count before after name (is_changed h.m) (names_without h.m) (merge.may retired leaf others old mid lent disk chain lends before after name is h.m h.merge h.planned)
              (merge.left retired leaf others old mid lent disk chain lends before after name is h.m h.merge h.planned) h.many lines h.told run (past_other retired leaf others old mid lent disk chain lends before after name lines run h is) h.faults
              (merge.ended_all retired leaf others old mid lent disk chain lends before after name is h.m h.merge h.planned (last_once retired (names_of (leaf ∷ others)) once)) h.whole h.fault_is
              h.counted h.ended h.quiet (merge.drawn retired leaf others old mid lent disk chain lends before after name is h.m h.merge h.planned)
      by_mode ReadOnly can = absurd can

  not_run_all : (merge : Option (List ℕ)) (files : List LinkedFile) (names : List (List ℕ)) (result : Result ScriptRun StepsRefusal) → CanMerge mode merge → names ≡ names_of files → IsLine files → All IsServed files
      → NoneTwice (retired ++ names_of files) → WhereTold old.folder (IsChainIn (record { retired = retired; files = files })) → Lends (names_of files) old mid lent
      → WhereTold disk.told (λ trace. now.folder ≡ option_map (given_back trace) mid.folder) → KeepsStore disk mid now → RoseWhere (HasFailed disk) mid.faults now.faults
      → IfOk result (λ run. HasRunWith mode merge files names lines run lent disk before after) → IfErr result (HasNotRunWith mode merge files lent disk before after)
      → IfErr result (NotRunOver mode merge (record { retired = retired; files = files }) old now before after)
  not_run_all None files names result can same line served once chain lends back_is past_is count ran none =
      not_run_over mode retired old mid now lent disk before after lines idle files result line served once chain lends back_is past_is count (changed_of mode files names lines lent disk before after result line ran none) none
  not_run_all (Some name) [] names result can same line served once chain lends back_is past_is count ran none = absurd line
  not_run_all (Some name) (leaf ∷ others) names (Ok run) can same line served once chain lends back_is past_is count ran none = tt
  not_run_all (Some name) (leaf ∷ others) names (Err x) can same line served once chain lends back_is past_is count ran none = by_mode mode can
    where
      by_mode : (mode : Mode) → CanMerge mode (Some name) → NotRunOver mode (Some name) (record { retired = retired; files = leaf ∷ others }) old now before after x
      by_mode Guests can =
          not_merged retired leaf others old mid now lent disk idle served once chain lends back_is past_is count before after name x (leaves_all retired leaf others old mid lent disk chain lends before after name x none)
      by_mode ReadOnly can = absurd can

-- ---- of what was linked, whose files are these

module _ (mode : Mode) (merge : Option (List ℕ)) (linked : Linked) (files : List LinkedFile) (names : List (List ℕ)) (lines : List Line) (result : Result ScriptRun StepsRefusal) (old mid : Hosted) (lent disk : StoreDisk) (before after : Option (List (List ℕ)))
    (same : files ≡ linked.files) (named : names ≡ names_of files) (chain : IsLinkedChain linked old) (lends : Lends (names_of files) old mid lent) (ran : IfOk result (λ run. HasRunWith mode merge files names lines run lent disk before after))
    (none : IfErr result (HasNotRunWith mode merge files lent disk before after)) where
  line : IsLine files
  line = subst IsLine (sym same) chain.line

  served : All IsServed files
  served = subst (All IsServed) (sym same) chain.served

  once : NoneTwice (linked.retired ++ names_of files)
  once = subst (λ fs. NoneTwice (linked.retired ++ names_of fs)) (sym same) chain.once

  is_chain : WhereTold old.folder (IsChainIn (record { retired = linked.retired; files = files }))
  is_chain = subst (λ fs. WhereTold old.folder (IsChainIn (record { retired = linked.retired; files = fs }))) (sym same) chain.chain

  pub linked_back : WhereTold mid.folder (λ folder. WhereTold disk.told (λ trace. AreAway trace folder))
  linked_back = back_all mode linked.retired old mid lent disk before after lines chain.idle merge files names result named line once is_chain lends ran none

  module _ (now : Hosted) (can : CanMerge mode merge) (back_is : WhereTold disk.told (λ trace. now.folder ≡ option_map (given_back trace) mid.folder)) (past_is : KeepsStore disk mid now) (count : RoseWhere (HasFailed disk) mid.faults now.faults) where
    pub linked_ran : IfOk result (λ run. RunOver mode merge linked lines run old now before after)
    linked_ran =
        subst (λ fs. IfOk result (λ run. RunOver mode merge (record { retired = linked.retired; files = fs }) lines run old now before after)) same
        (run_all mode linked.retired old mid now lent disk before after lines chain.idle merge files names result can named line served once is_chain lends back_is past_is count ran none)

    pub linked_not_run : IfErr result (NotRunOver mode merge linked old now before after)
    linked_not_run =
        subst (λ fs. IfErr result (NotRunOver mode merge (record { retired = linked.retired; files = fs }) old now before after)) same
        (not_run_all mode linked.retired old mid now lent disk before after lines chain.idle merge files names result can named line served once is_chain lends back_is past_is count ran none)

-- ---- a merge where files are only read

pub barred : (mode : Mode) (merge : Option (List ℕ)) (linked : Linked) (old : Hosted) (drawn : Option (List (List ℕ))) → WhereTold old.folder AllIdle → WhereTold old.folder (IsChainIn linked) → IsBarredMerge mode merge → NotRunOver mode merge linked old old drawn drawn steps.ReadOnly
barred Guests merge linked old drawn idle chain is = absurd is
barred ReadOnly None linked old drawn idle chain is = absurd is
barred ReadOnly (Some name) linked old drawn idle chain is = record {
  counts = refl;
  cause = refl;
  undrawn = λ reading. refl;
  unchanged = λ f told. (still_stands ReadOnly (Some name) linked f old old (idle f told) (chain f told).whole told refl refl).unchanged refl;
  stands = λ f told. still_stands ReadOnly (Some name) linked f old old (idle f told) (chain f told).whole told refl refl;
  rests = λ f told. still_rests ReadOnly (Some name) linked f old old (idle f told) (chain f told).whole told refl refl;
}

-- ---- over the store alone

-- A file of which a refusal tells is one of the chain's: where the source isn't the leaf, it isn't refused for that.
pub start_has_file : (files : List LinkedFile) (names : List (List ℕ)) (name : List ℕ) (old new : StoreDisk) (before after : Option (List (List ℕ))) (r : MergeStartRefusal) → is_leaf files name ≡ false → names ≡ names_of files
    → RefusesMerge files name old new before after r → StartHasFile (length names) r
start_has_file files names name old new before after (start.Spent number) other same h = tt
start_has_file files names name old new before after (start.Plan r) other same h = by_plan r h.1 where
  long : length names ≡ length files
  long = ap length same ∙ length-map files (λ (f : LinkedFile). f.name)

  there : (m : MergeFiles) (ids : MergeIds) (file : ℕ) → files ≡ chain_files m → IsFull old m ids file → file < length names
  there m ids _ is (in_source lacks) = subst (λ n. source_place m < n) (sym (long ∙ ap length is)) (places_within m (source_place m) (source_changed m))
  there m ids _ is (in_child has lacks) = subst (λ n. child_place m < n) (sym (long ∙ ap length is)) (places_within m (child_place m) (child_changed m))

  by_plan : (r : PrepareRefusal) → Refuses files name old new before after r → PlanHasFile (length names) r
  by_plan plan.NotInChain h = tt
  by_plan plan.IsBase h = tt
  by_plan plan.LeafSource h = let never : false ≡ true = sym other ∙ first_is_leaf files name h.0 in cc
  by_plan (plan.LocatorTooLarge len) h = tt
  by_plan (plan.MetadataFull file) h = there h.m h.ids file h.begun.files_are.files_are h.why.0.full
  by_plan (plan.IdUnfit id) h = tt
  by_plan (plan.Store fault) h = tt
  by_plan plan.NoRoom h = tt
start_has_file files names name old new before after (start.Begin fault) other same h = tt

-- so it is with the leaf's merge
pub leaf_start_has_file : (files : List LinkedFile) (names : List (List ℕ)) (old new : StoreDisk) (before after : Option (List (List ℕ))) (r : MergeStartRefusal) → names ≡ names_of files → RefusesLeafMerge files old new before after r
    → StartHasFile (length names) r
leaf_start_has_file files names old new before after (start.Spent number) same h = tt
leaf_start_has_file files names old new before after (start.Plan r) same h = by_plan r h.1 where
  long : length names ≡ length files
  long = ap length same ∙ length-map files (λ (f : LinkedFile). f.name)

  there : (m : LeafFiles) (ids : LeafMergeIds) (file : ℕ) → files ≡ leaf_chain m → IsLeafFull old m ids file → file < length names
  there m ids file is full = let two : length names ≡ length (leaf_chain m) = long ∙ ap length is in by_full file full
    where
      by_full : (file : ℕ) → IsLeafFull old m ids file → file < length names
      by_full _ (for_link lacks) = subst (λ n. 0 < n) (sym (long ∙ ap length is)) (omega arith)
      by_full _ (for_clearing none named) = subst (λ n. 1 < n) (sym (long ∙ ap length is)) (omega arith)
      by_full _ (for_name has lacks) = subst (λ n. 0 < n) (sym (long ∙ ap length is)) (omega arith)

  by_plan : (r : PrepareRefusal) → IsLeafStopped files old new before after r → PlanHasFile (length names) r
  by_plan plan.NotInChain h = tt
  by_plan plan.IsBase h = tt
  by_plan plan.LeafSource h = absurd h.why
  by_plan (plan.LocatorTooLarge len) h = tt
  by_plan (plan.MetadataFull file) h = there h.m h.ids file h.begun.files_are h.why.0.full
  by_plan (plan.IdUnfit id) h = tt
  by_plan (plan.Store fault) h = tt
  by_plan plan.NoRoom h = tt
leaf_start_has_file files names old new before after (start.Begin fault) same h = tt

-- a start that is refused, by the store as it was before the files' lengths were read
pub start_not_merged : (b : Bool) (files : List LinkedFile) (names : List (List ℕ)) (name : List ℕ) (old read new : StoreDisk) (before after : Option (List (List ℕ))) (r : MergeStartRefusal) (x : StepsRefusal) → is_leaf files name ≡ b → read ≡ old
    → names ≡ names_of files → RefusesMergeOf b files name read new before after r → EachOpensAlike files read.told new.told → IsMergeRefusal names name r x → HasNotMerged files name old new before after x
start_not_merged b files names name old read new before after r x is stays same h alike told =
    not_started r x (subst (λ d. RefusesMergeOf (is_leaf files name) files name d new before after r) stays (subst (λ b. RefusesMergeOf b files name read new before after r) (sym is) h))
    (subst (λ (d : StoreDisk). EachOpensAlike files d.told new.told) stays alike) (subst (λ ns. IsMergeRefusal ns name r x) same told)
