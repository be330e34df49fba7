-- What the start of a planned merge answers, phase by phase.
use Rattle.std.proofs.Common.{◌≡◌, ◌==◌, ◌||◌, ℕ, ◌+◌, ◌<◌, ◌≤◌, Bool, true, false, List, [], ◌∷◌, ◌++◌, length, map, refl, sym, ap, subst, ◌∙◌, eq-eqb, ltb-true}
use Rattle.std.proofs.lemmas.List.{length-append}
use Rattle.std.specs.Prelude.{Option, Some, None, IfSome, is_some, nat_lt, option_map, Ok, Err}
use Rattle.std.specs.List.{AllByRecursion}
use Rattle.chain_model.proofs.Showing.{all_left, all_right, all_append}
use Rattle.store_model.proofs.Told.{counts_join}
use Rattle.vx_base.specs.declared.parts.Geometry.{Geometry}
use Rattle.vx_base.specs.declared.parts.Parts.{Parts}
use Rattle.vhdx_format.specs.declared.log_entry.Page.{Page}
use Rattle.store_model.specs.Disk.{Disk, WhereBothTold, WhereTold}
use Rattle.store_model.specs.Trace.{Trace}
use Rattle.store_model.specs.declared.fault.SealFault.{SealFault}
use Rattle.store_model.specs.declared.fault.SealFault.TheVariants.{NoRoom}
use Rattle.log_write.specs.Writing.{BeginFails}
use Rattle.table_pages.specs.declared.tables.TableParts.{TableParts}
use Rattle.chain_model.specs.Images.{Placed}
use Rattle.link_rules.specs.Lines.{IsLine}
use Rattle.link_rules.specs.declared.linked.LinkedFile.{LinkedFile}
use Rattle.log_write.specs.declared.ids.SessionIds.{SessionIds}
use Rattle.vhdx_format.specs.FileParts.{HasNumbers}
use Rattle.layer_session.specs.Begins.{BeginsOver, CanServe, HasBegun, IsOf}
use Rattle.layer_session.specs.Calls.{KeepsOver}
use Rattle.layer_session.specs.Closes.{HasClosed}
use Rattle.layer_session.specs.FileLayers.{AreOthers, AreReadyFiles, FileTurns, HaveFiles, file_numbers, log_number}
use Rattle.layer_session.specs.Keeping.{IsReady, Serves}
use Rattle.layer_session.specs.ReadOnly.{CanRead}
use Rattle.layer_session.specs.Updating.{HasUpdated, Turns, UpdatesOver}
use Rattle.layer_session.specs.declared.file.Layer.{Layer}
use Rattle.layer_session.specs.declared.file_layer.FileLayer.{FileLayer}
use Rattle.layer_session.specs.declared.file_layer.FileLayer.TheVariants.{Read, Session}
use Rattle.layer_session.specs.declared.read_layer.ReadLayer.{ReadLayer}
use Rattle.merge_core.specs.Copied.{marks_of}
use Rattle.merge_core.specs.declared.marks.Marks.{Marks}
use Rattle.merge_plan.specs.Attached.{CanStart}
use Rattle.merge_plan.specs.Merging.{MergeFiles, child_place, source_place}
use Rattle.merge_plan.specs.Planning.{HasPlan}
use Rattle.merge_plan.specs.declared.drawing.LogIds.{LogIds}
use Rattle.merge_plan.specs.declared.drawing.MergeIds.{MergeIds}
use Rattle.merge_plan.specs.declared.merge.Merge.{Merge}
use Rattle.chain_core.specs.MergeStarting.{BeginsMerge, BeginsNoMerge, ChildBegun, ChildOver, HasBegunMerge, HasBegunUpper, InnerFails, IsRoomFor, ServesMerge, StartsMerge, behind_first, between_in, chain_files, data_session, is_changed, leaf_of, log_session, session_of, source_in, started_merge, target_in, target_place}
use Rattle.chain_core.specs.Sessions.{AreApart, AreReady, AtMostOne, CanRelink, CanRetire, IsLow, IsMergeOf, IsReadyLeaf, IsRetiringOf, child_layer, number_of_leaf}
use Rattle.chain_core.specs.Starting.{AreReadOf}
use Rattle.chain_core.specs.States.{AreHeld, IsCourse, IsServing, IsUnder, State, child_parts, others_of, sector_of}
use Rattle.chain_core.specs.declared.layers.Layers.{Layers}
use Rattle.chain_core.specs.declared.layers.Underway.{Underway}
use Rattle.chain_core.specs.declared.merge_start.Room.{Room}
use Rattle.chain_core.proofs.Numbers.{all_there, few_pages, less_there, next_is, one_low, same_not_next, same_not_second, second_is, some_not_zero, some_there, suc_is, third_is, three_above, three_between, zero_one}
use Rattle.chain_core.proofs.Beginning.{none_logged, one_geometry}
use Rattle.chain_core.proofs.MergeAsked.{begins_not, child_fresh, child_there, leaf_fresh, leaf_numbers, ready_still, source_fresh, source_there, target_fresh, target_there}
use Rattle.chain_core.proofs.MergeChild.{child_stage, child_told, leaf_only}
use Rattle.chain_core.proofs.MergeFound.{files_split, lower_files, rest_found}
use Rattle.chain_core.proofs.MergeLayers.{CountFrom, IsMade, Low, all_behind, count_both, count_read, counted_apart, counted_others, front_len, is_merge, low_two, made_read, made_ready}
use Rattle.chain_core.proofs.MergePhases.{AtChild, AtLeaf, AtLocator, AtSource, AtTarget}
use Rattle.chain_core.proofs.MergeRelinks.{child_turns_by, some_told}
use Rattle.chain_core.proofs.MergeReady.{serves_told}
use Rattle.chain_core.proofs.MergeServed.{child_written, target_written, read_count}
use Rattle.chain_core.proofs.MergeStages.{OpenedBy, end_stage, end_told, leaf_stage, leaf_told, locator_stage, locator_told, moments_of, serve_on, source_serves, source_stage, source_told, source_turns, still_of, target_serves, target_stage, target_told}
use Rattle.chain_core.proofs.MergeTold.{served_at, told_last}
use Rattle.layer_session.proofs.Equal.{false_true, true_false}

or_left : (a b : Bool) → a ≡ true → (a || b) ≡ true
or_left true b h = refl
or_left false b h = absurd (false_true h)

or_right : (a b : Bool) → b ≡ true → (a || b) ≡ true
or_right true b h = refl
or_right false b h = h

-- so many files the store has still
pub files_still : (a b : Disk) (n : ℕ) → b ≡ record a { told = b.told } → n < a.files → n < b.files
files_still a b n counts there = subst (λ (k : ℕ). n < k) (sym (ap (λ (d : Disk). d.files) counts)) there

module _ (m : MergeFiles) (merge : Merge) (d : Disk) (can : CanStart (chain_files m) d) (plan : HasPlan (chain_files m) d m merge) where
  abbrev ids : MergeIds
  ids = merge.ids

  abbrev pages : List Page
  pages = merge.twice

  child_changed : is_changed m (child_place m) ≡ true
  child_changed = or_left _ (child_place m == source_place m) (child_written m)

  target_changed : is_changed m (target_place m) ≡ true
  target_changed = or_left _ (target_place m == source_place m) (target_written m)

  source_changed : is_changed m (source_place m) ≡ true
  source_changed = or_right _ (source_place m == source_place m) (eq-eqb (source_place m) (source_place m) refl)

  -- a phase failed, after which each moment opened
  stops : (numbers : List ℕ) (new : Disk) (fault : SealFault) → AllByRecursion (λ n. is_changed m n ≡ true) numbers → WhereBothTold (OpenedBy m numbers) d.told new.told → BeginsNoMerge m d new fault → BeginsMerge m merge d new (Err fault)
  stops numbers new fault changed told fails = record { moments = moments_of m numbers d.told new.told told; still = still_of m numbers changed d.told new.told told; begun = tt; err = fails }

  -- ---- behind each phase

  -- content alone was changed, and this was reached
  pub record Behind (At : Trace → Trace → Type 0) (new : Disk) : Type 0 where
    pub counts : new ≡ record d { told = new.told }
    pub at : WhereBothTold At d.told new.told

  -- ---- the leaf's session begins

  module _ (a : Disk) (over : WhereBothTold (BeginsOver (leaf_of m).parts (data_session ids.leaf) 0) d.told a.told) where
    pub leaf_stops : (fault : SealFault) → BeginFails 0 d a fault → BeginsMerge m merge d a (Err fault)
    leaf_stops fault fails = stops (0 ∷ []) a fault (refl, tt) (leaf_told m ids pages d can plan.links a.told over) (begins_not (is_changed m) 0 d d a fault refl refl fails)

    pub behind_leaf : (leaf : Layer) → WhereBothTold (HasBegun (leaf_of m).parts (data_session ids.leaf) 0 leaf) d.told a.told → a ≡ record d { told = a.told } → Behind (λ t. AtLeaf t m ids pages leaf) a
    behind_leaf leaf begun counts = record { counts = counts; at = leaf_stage m ids pages d can plan.links leaf a.told over begun }

  -- the leaf's file and its session's identifiers, by what the code has of them
  module _ (top : LinkedFile) (session : SessionIds) (top_is : top ≡ leaf_of m) (session_is : session ≡ data_session ids.leaf) where
    pub leaf_numbered : HasNumbers top.parts
    leaf_numbered = subst (λ (f : LinkedFile). HasNumbers f.parts) (sym top_is) (leaf_numbers m merge d can plan)

    pub leaf_ready : WhereTold d.told (CanServe top.parts session.log 0)
    leaf_ready =
        subst (λ (f : LinkedFile). WhereTold d.told (CanServe f.parts session.log 0)) (sym top_is)
        (subst (λ (s : SessionIds). WhereTold d.told (CanServe (leaf_of m).parts s.log 0)) (sym session_is) (leaf_fresh m merge d can plan))

    module _ (a : Disk) (over : WhereBothTold (BeginsOver top.parts session 0) d.told a.told) where
      own_over : WhereBothTold (BeginsOver (leaf_of m).parts (data_session ids.leaf) 0) d.told a.told
      own_over =
          subst (λ (s : SessionIds). WhereBothTold (BeginsOver (leaf_of m).parts s 0) d.told a.told) session_is
          (subst (λ (f : LinkedFile). WhereBothTold (BeginsOver f.parts session 0) d.told a.told) top_is over)

      own_has : (leaf : Layer) → WhereBothTold (HasBegun top.parts session 0 leaf) d.told a.told → WhereBothTold (HasBegun (leaf_of m).parts (data_session ids.leaf) 0 leaf) d.told a.told
      own_has leaf begun =
          subst (λ (s : SessionIds). WhereBothTold (HasBegun (leaf_of m).parts s 0 leaf) d.told a.told) session_is
          (subst (λ (f : LinkedFile). WhereBothTold (HasBegun f.parts session 0 leaf) d.told a.told) top_is begun)

      pub top_stops : (fault : SealFault) → BeginFails 0 d a fault → BeginsMerge m merge d a (Err fault)
      top_stops = leaf_stops a own_over

      pub behind_top : (leaf : Layer) → WhereBothTold (HasBegun top.parts session 0 leaf) d.told a.told → a ≡ record d { told = a.told } → Behind (λ t. AtLeaf t m ids pages leaf) a
      behind_top leaf begun = behind_leaf a own_over leaf (own_has leaf begun)

  -- ---- the source's session begins

  module _ (leaf : Layer) (a : Disk) (r : Behind (λ t. AtLeaf t m ids pages leaf) a) (session : SessionIds) (session_is : session ≡ log_session ids.source) where
    pub source_within : source_place m < a.files
    source_within = files_still d a (source_place m) r.counts (source_there m merge d can plan)

    pub source_ready : WhereTold a.told (CanServe m.source.parts session.log (source_place m))
    source_ready =
        subst (λ (s : SessionIds). WhereTold a.told (CanServe m.source.parts s.log (source_place m))) (sym session_is)
        (source_serves m ids pages d can plan.links leaf a.told r.at (source_fresh m merge d can plan))

    module _ (b : Disk) (given : WhereBothTold (BeginsOver m.source.parts session (source_place m)) a.told b.told) where
      source_over : WhereBothTold (BeginsOver m.source.parts (log_session ids.source) (source_place m)) a.told b.told
      source_over = subst (λ (s : SessionIds). WhereBothTold (BeginsOver m.source.parts s (source_place m)) a.told b.told) session_is given

      pub source_stops : (fault : SealFault) → BeginFails (source_place m) a b fault → BeginsMerge m merge d b (Err fault)
      source_stops fault fails =
          stops (source_place m ∷ 0 ∷ []) b fault (source_changed, (refl, tt)) (source_told m ids pages d can plan.links leaf a.told r.at b.told source_over) (begins_not (is_changed m) (source_place m) d a b fault source_changed r.counts fails)

      pub behind_source : (source : Layer) → WhereBothTold (HasBegun m.source.parts session (source_place m) source) a.told b.told → b ≡ record a { told = b.told } → Behind (λ t. AtSource t m ids pages leaf source) b
      behind_source source begun counts = record {
        counts = counts_join d a b r.counts counts;
        at = source_stage m ids pages d can plan.links leaf a.told r.at source b.told source_over
            (subst (λ (s : SessionIds). WhereBothTold (HasBegun m.source.parts s (source_place m) source) a.told b.told) session_is begun);
      }

  -- ---- the source is linked twice

  module _ (leaf source : Layer) (a : Disk) (r : Behind (λ t. AtSource t m ids pages leaf source) a) (of : IsOf m.source.parts (source_place m) source) (laid : List Page) (laid_is : laid ≡ pages) where
    pub twice_turns : WhereTold a.told (Turns source laid)
    twice_turns =
        subst (λ (ps : List Page). WhereTold a.told (Turns source ps)) (sym laid_is)
        (source_turns m ids pages d can plan.links leaf source a.told r.at of.table plan.twice.has.pages_are plan.twice.has.told)

    module _ (b : Disk) (given : WhereBothTold (UpdatesOver source laid) a.told b.told) where
      twice_over : WhereBothTold (UpdatesOver source pages) a.told b.told
      twice_over = subst (λ (ps : List Page). WhereBothTold (UpdatesOver source ps) a.told b.told) laid_is given

      pub locator_stops : (fault : SealFault) → BeginFails source.tables.parts.file a b fault → BeginsMerge m merge d b (Err fault)
      locator_stops fault fails =
          stops (source_place m ∷ source_place m ∷ 0 ∷ []) b fault (source_changed, (source_changed, (refl, tt)))
          (locator_told m ids pages d can plan.links leaf source a.told r.at of.table plan.twice.has.pages_are plan.twice.has.told b.told twice_over)
          (begins_not (is_changed m) (source_place m) d a b fault source_changed r.counts (subst (λ (n : ℕ). BeginFails n a b fault) of.number fails))

      pub behind_locator : (next : Layer) → WhereBothTold (HasUpdated source next laid) a.told b.told → b ≡ record a { told = b.told } → Behind (λ t. AtLocator t m ids pages leaf next) b
      behind_locator next updated counts = record {
        counts = counts_join d a b r.counts counts;
        at = locator_stage m ids pages d can plan.links leaf source a.told r.at of.table plan.twice.has.pages_are plan.twice.has.told next b.told twice_over
            (subst (λ (ps : List Page). WhereBothTold (HasUpdated source next ps) a.told b.told) laid_is updated);
      }

  -- ---- both of them, by what the code has of each step

  module _ (top : LinkedFile) (top_is : top ≡ leaf_of m) (leaf_ids source_ids : SessionIds) (leaf_ids_are : leaf_ids ≡ data_session ids.leaf) (source_ids_are : source_ids ≡ log_session ids.source) (laid : List Page) (laid_is : laid ≡ pages) where
    pub begun_upper : (leaf begun source : Layer) (a b e : Disk) → WhereBothTold (BeginsOver top.parts leaf_ids 0) d.told a.told → WhereBothTold (HasBegun top.parts leaf_ids 0 leaf) d.told a.told → IsReady leaf a → IsOf top.parts 0 leaf
        → a ≡ record d { told = a.told } → WhereBothTold (BeginsOver m.source.parts source_ids (source_place m)) a.told b.told → WhereBothTold (HasBegun m.source.parts source_ids (source_place m) begun) a.told b.told
        → IsOf m.source.parts (source_place m) begun → b ≡ record a { told = b.told } → WhereBothTold (UpdatesOver begun laid) b.told e.told → WhereBothTold (HasUpdated begun source laid) b.told e.told → IsReady source e
        → source.tables.parts ≡ begun.tables.parts → source.log.number ≤ begun.log.number + 1 → e ≡ record b { told = e.told } → HasBegunUpper m merge d e leaf source
    begun_upper leaf begun source a b e over has ready is counts source_over source_has source_is source_counts linked_over linked linked_ready linked_parts linked_number linked_counts = record {
      first = a;
      second = b;
      begun = begun;
      leaf_over = own_over top leaf_ids top_is leaf_ids_are a over;
      leaf_begun = own_has top leaf_ids top_is leaf_ids_are a over leaf has;
      leaf_ready = ready;
      leaf_is = subst (λ (x : LinkedFile). IsOf x.parts 0 leaf) top_is is;
      leaf_counts = counts;
      source_over = subst (λ (s : SessionIds). WhereBothTold (BeginsOver m.source.parts s (source_place m)) a.told b.told) source_ids_are source_over;
      source_begun = subst (λ (s : SessionIds). WhereBothTold (HasBegun m.source.parts s (source_place m) begun) a.told b.told) source_ids_are source_has;
      source_is = source_is;
      source_counts = source_counts;
      linked_over = subst (λ (ps : List Page). WhereBothTold (UpdatesOver begun ps) b.told e.told) laid_is linked_over;
      linked = subst (λ (ps : List Page). WhereBothTold (HasUpdated begun source ps) b.told e.told) laid_is linked;
      linked_ready = linked_ready;
      linked_parts = linked_parts;
      linked_number = linked_number;
      linked_counts = linked_counts;
    }

  pub behind_upper : (leaf source : Layer) (e : Disk) → HasBegunUpper m merge d e leaf source → Behind (λ t. AtLocator t m ids pages leaf source) e
  behind_upper leaf source e h =
      let r1 = behind_leaf h.first h.leaf_over leaf h.leaf_begun h.leaf_counts in
      let r2 = behind_source leaf h.first r1 (log_session ids.source) refl h.second h.source_over h.begun h.source_begun h.source_counts in
      behind_locator leaf h.begun h.second r2 h.source_is pages refl e h.linked_over source h.linked h.linked_counts

  -- ---- the target's session begins

  module _ (leaf source : Layer) (a : Disk) (r : Behind (λ t. AtLocator t m ids pages leaf source) a) (session : SessionIds) (session_is : session ≡ data_session ids.target) where
    pub target_within : target_place m < a.files
    target_within = files_still d a (target_place m) r.counts (target_there m merge d can plan)

    pub target_ready : WhereTold a.told (CanServe m.target.parts session.log (target_place m))
    target_ready =
        subst (λ (s : SessionIds). WhereTold a.told (CanServe m.target.parts s.log (target_place m))) (sym session_is)
        (target_serves m ids pages d can plan.links leaf source a.told r.at (target_fresh m merge d can plan))

    module _ (b : Disk) (given : WhereBothTold (BeginsOver m.target.parts session (target_place m)) a.told b.told) where
      target_over : WhereBothTold (BeginsOver m.target.parts (data_session ids.target) (target_place m)) a.told b.told
      target_over = subst (λ (s : SessionIds). WhereBothTold (BeginsOver m.target.parts s (target_place m)) a.told b.told) session_is given

      pub target_stops : (fault : SealFault) → BeginFails (target_place m) a b fault → BeginsMerge m merge d b (Err fault)
      target_stops fault fails =
          stops (target_place m ∷ source_place m ∷ source_place m ∷ 0 ∷ []) b fault (target_changed, (source_changed, (source_changed, (refl, tt))))
          (target_told m ids pages d can plan.links leaf source a.told r.at b.told target_over) (begins_not (is_changed m) (target_place m) d a b fault target_changed r.counts fails)

      pub behind_target : (target : Layer) → WhereBothTold (HasBegun m.target.parts session (target_place m) target) a.told b.told → b ≡ record a { told = b.told }
          → Behind (λ t. AtTarget t m ids pages leaf source target) b
      behind_target target begun counts = record {
        counts = counts_join d a b r.counts counts;
        at = target_stage m ids pages d can plan.links leaf source a.told r.at target b.told target_over
            (subst (λ (s : SessionIds). WhereBothTold (HasBegun m.target.parts s (target_place m) target) a.told b.told) session_is begun);
      }

  -- ---- the child's session begins

  module _ (some : is_some ids.child ≡ nat_lt 0 (length m.above)) (leaf source target : Layer) (a : Disk) (r : Behind (λ t. AtTarget t m ids pages leaf source target) a) where
    pub child_within : child_place m < a.files
    child_within = files_still d a (child_place m) r.counts (child_there m merge d can plan)

    inside : (i : LogIds) → ids.child ≡ Some i → 0 < length m.above
    inside i is = ltb-true 0 (length m.above) (sym some ∙ ap (λ (o : Option LogIds). is_some o) is)

    pub child_ready : IfSome ids.child (λ i. WhereTold a.told (CanServe m.child.parts i.log (child_place m)))
    child_ready = by_ids ids.child refl
      where
        by_ids : (o : Option LogIds) → ids.child ≡ o → IfSome o (λ i. WhereTold a.told (CanServe m.child.parts i.log (child_place m)))
        by_ids None is = tt
        by_ids (Some i) is =
            let more = inside i is in
            serve_on d.told m.child.parts i.log (child_place m) (λ t. AtTarget t m ids pages leaf source target)
            (λ x y at. at.left (child_place m) (
              same_not_second (length m.above),
              (
                same_not_next (length m.above),
                (same_not_next (length m.above), (some_not_zero (length m.above) more, tt)),
              ),
            )) a.told r.at (child_fresh m merge d can plan i is)

    module _ (b : Disk) (over : WhereBothTold (ChildOver ids.child m.child.parts (child_place m)) a.told b.told) where
      pub child_stops : (fault : SealFault) → InnerFails ids.child (child_place m) a b fault → BeginsMerge m merge d b (Err fault)
      child_stops fault fails =
          stops (child_place m ∷ target_place m ∷ source_place m ∷ source_place m ∷ 0 ∷ []) b fault (child_changed, (target_changed, (source_changed, (source_changed, (refl, tt)))))
          (child_told m ids pages leaf source target d.told a.told b.told some r.at over) (begins_not (is_changed m) (child_place m) d a b fault child_changed r.counts (begins ids.child fails))
        where
          begins : (o : Option LogIds) → InnerFails o (child_place m) a b fault → BeginFails (child_place m) a b fault
          begins None fails = absurd fails
          begins (Some i) fails = fails

      pub behind_child : (child : Option Layer) → WhereBothTold (ChildBegun ids.child m.child.parts (child_place m) child) a.told b.told → b ≡ record a { told = b.told }
          → Behind (λ t. AtChild t m ids pages ids.child leaf source target child) b
      behind_child child begun counts = record { counts = counts_join d a b r.counts counts; at = child_stage m ids pages leaf source target d.told a.told b.told some r.at over child begun }

  -- ---- the source's session ends

  module _ (leaf source target : Layer) (child : Option Layer) (a : Disk) (r : Behind (λ t. AtChild t m ids pages ids.child leaf source target child) a) where
    served_in : (x y : Trace) (o : Option Layer) → AtChild x m ids pages ids.child leaf source target o y → (file : Placed) × Serves source y file
    served_in x y None at = (source_in x m ids pages, at.serving.1.0)
    served_in x y (Some l) at = (source_in x m ids pages, at.serving.1.1.0)

    pub source_still : (old : Disk) → IsReady source old → old ≡ record d { told = old.told } → IsReady source a
    source_still old ready counts =
        ready_still source old a ready (ap (λ (x : Disk). x.files) r.counts ∙ sym (ap (λ (x : Disk). x.files) counts))
        (told_last (λ t. AtChild t m ids pages ids.child leaf source target child) (λ now. (file : Placed) × Serves source now file) (λ x y at. served_in x y child at) d.told a.told r.at)

    module _ (b : Disk) (keeps : WhereBothTold (KeepsOver source) a.told b.told) where
      pub close_stops : (fault : SealFault) → source.tables.parts.file ≡ source_place m → BeginFails source.tables.parts.file a b fault → BeginsMerge m merge d b (Err fault)
      close_stops fault number fails =
          stops (source_place m ∷ child_place m ∷ target_place m ∷ source_place m ∷ source_place m ∷ 0 ∷ []) b fault
          (source_changed, (child_changed, (target_changed, (source_changed, (source_changed, (refl, tt))))))
          (end_told m ids pages d can plan.links ids.child leaf source target child a.told b.told r.at keeps)
          (begins_not (is_changed m) (source_place m) d a b fault source_changed r.counts (subst (λ (n : ℕ). BeginFails n a b fault) number fails))

      pub no_layers : b ≡ record a { told = b.told } → BeginsMerge m merge d b (Err NoRoom)
      no_layers counts =
          stops (source_place m ∷ child_place m ∷ target_place m ∷ source_place m ∷ source_place m ∷ 0 ∷ []) b NoRoom
          (source_changed, (child_changed, (target_changed, (source_changed, (source_changed, (refl, tt))))))
          (end_told m ids pages d can plan.links ids.child leaf source target child a.told b.told r.at keeps) (counts_join d a b r.counts counts)

  -- ---- the layers

  abbrev g : Geometry
  g = (leaf_of m).parts.geometry

  same_geometry : AllByRecursion (λ (f : LinkedFile). f.parts.geometry ≡ g) (chain_files m)
  same_geometry =
      subst (λ (fs : List LinkedFile). AllByRecursion (λ (f : LinkedFile). f.parts.geometry ≡ g) fs) (sym (files_split m))
      (one_geometry (leaf_of m) (lower_files m) g refl (subst IsLine (files_split m) can.line))

  above_geometry : AllByRecursion (λ (f : LinkedFile). f.parts.geometry ≡ g) m.above
  above_geometry = all_left (λ (f : LinkedFile). f.parts.geometry ≡ g) m.above (m.child ∷ m.source ∷ m.target ∷ m.below) same_geometry

  four_geometry : AllByRecursion (λ (f : LinkedFile). f.parts.geometry ≡ g) (m.child ∷ m.source ∷ m.target ∷ m.below)
  four_geometry = all_right (λ (f : LinkedFile). f.parts.geometry ≡ g) m.above (m.child ∷ m.source ∷ m.target ∷ m.below) same_geometry

  pub many_files : length m.above + 3 + length m.below ≤ d.files
  many_files = three_between (length (chain_files m)) (length m.above) (length m.below) d.files (length-append m.above (m.child ∷ m.source ∷ m.target ∷ m.below)) can.there

  -- a layer in a session was ready, and is of a file of the disk
  pub record Made (parts : Parts) (number : ℕ) (l : Layer) : Type 0 where
    pub old : Disk
    pub was : IsReady l old
    pub counts : old ≡ record d { told = old.told }
    pub of : IsOf parts number l

  pub made_of_child : (o : Option Layer) (old : Disk) → old ≡ record d { told = old.told } → IfSome o (λ l. IsReady l old) → IfSome o (IsOf m.child.parts (child_place m)) → IfSome o (Made m.child.parts (child_place m))
  made_of_child None old counts ready of = tt
  made_of_child (Some l) old counts ready of = record { old = old; was = ready; counts = counts; of = of }

  module _ (b : Disk) (counts : b ≡ record d { told = b.told }) where
    same_files : (old : Disk) → old ≡ record d { told = old.told } → b.files ≡ old.files
    same_files old is = ap (λ (x : Disk). x.files) counts ∙ sym (ap (λ (x : Disk). x.files) is)

    made_session : (f : LinkedFile) (number : ℕ) (l : Layer) → Made f.parts number l → f.parts.geometry ≡ g → IsMade g b (Session l)
    made_session f number l made same = (
      (made.old, (made.was, same_files made.old made.counts)),
      (made.of.sector ∙ ap (λ (k : Geometry). k.sector) same, made.of.sectors ∙ ap (λ (k : Geometry). k.sectors) same),
    )

    child_in : (o : Option Layer) → IfSome o (Made m.child.parts (child_place m)) → AllByRecursion (IsMade g b) (session_of o)
    child_in None made = tt
    child_in (Some l) made = (made_session m.child (child_place m) l made four_geometry.0, tt)

    count_child : (n : ℕ) (o : Option Layer) → IfSome o (Made m.child.parts (child_place m)) → n ≡ child_place m → CountFrom n (session_of o)
    count_child n None made same = tt
    count_child n (Some l) made same = (made.of.number ∙ sym same, tt)

    low_child : (o : Option Layer) → IfSome o (Made m.child.parts (child_place m)) → Low (session_of o)
    low_child None made = tt
    low_child (Some l) made = (one_low l.log.number made.of.first, tt)

    -- the layers of all four, and of the files that are only read
    module _ (room : Room) (for : IsRoomFor m room) (some : is_some ids.child ≡ nat_lt 0 (length m.above)) (leaf target old_source : Layer) (child : Option Layer) (source : ReadLayer) (both : is_some child ≡ is_some ids.child)
        (leaf_made : Made (leaf_of m).parts 0 leaf) (target_made : Made m.target.parts (target_place m) target) (child_made : IfSome child (Made m.child.parts (child_place m))) (source_of : IsOf m.source.parts (source_place m) old_source)
        (source_parts : source.tables.parts ≡ old_source.tables.parts) (can_read : CanRead source b) where
      abbrev below : List FileLayer
      below = (room.above.items ++ session_of child) ++ Read source ∷ Session target ∷ room.below.items

      child_some : is_some child ≡ nat_lt 0 (length m.above)
      child_some = both ∙ some

      front_many : length (room.above.items ++ session_of child) ≡ length m.above
      front_many = front_len m.above room.above.items child for.above child_some

      counted : CountFrom 1 below
      counted =
          count_both 1 (room.above.items ++ session_of child) (Read source ∷ Session target ∷ room.below.items)
          (front_counts m.above room.above.items child for.above child_some child_made)
          (subst (λ (n : ℕ). CountFrom (1 + n) (Read source ∷ Session target ∷ room.below.items)) (sym front_many) (
            (ap (λ (p : TableParts). p.file) source_parts ∙ source_of.number ∙ next_is (length m.above)),
            (
              (target_made.of.number ∙ second_is (length m.above)),
              subst (λ (n : ℕ). CountFrom n room.below.items) (third_is (length m.above)) (count_read (target_place m + 1) m.below room.below.items for.below),
            ),
          ))
        where
          front_counts : (files : List LinkedFile) (reads : List FileLayer) (o : Option Layer) → AreReadOf 1 (behind_first files) reads → is_some o ≡ nat_lt 0 (length files) → IfSome o (Made m.child.parts (length files)) → CountFrom 1 (reads ++ session_of o)
          front_counts [] [] None of is made = tt
          front_counts [] [] (Some l) of is made = absurd (let never : true ≡ false = is in true_false never)
          front_counts [] (x ∷ reads) o of is made = absurd of
          front_counts (f ∷ files) reads None of is made = absurd (leaf_only (length files) is)
          front_counts (f ∷ files) reads (Some l) of is made =
              count_both 1 reads (Session l ∷ []) (count_read 1 files reads of)
              ((made.of.number ∙ suc_is (length reads) (length files) (read_count 1 files reads of)), tt)

      made_all : AllByRecursion (IsMade g b) below
      made_all =
          all_append (IsMade g b) (room.above.items ++ session_of child) (Read source ∷ Session target ∷ room.below.items)
          (all_append (IsMade g b) room.above.items (session_of child)
          (made_read g b 1 (behind_first m.above) room.above.items for.above (above_there m.above (three_above (length m.above) (length m.below) d.files b.files many_files b_files)) (all_behind (λ (f : LinkedFile). f.parts.geometry ≡ g) m.above above_geometry)) (child_in child child_made)) (
            (
              (can_read.there, can_read.sizes),
              (
                ap (λ (p : TableParts). p.sector) source_parts ∙ source_of.sector ∙ ap (λ (k : Geometry). k.sector) four_geometry.1.0,
                ap (λ (p : TableParts). p.sectors) source_parts ∙ source_of.sectors ∙ ap (λ (k : Geometry). k.sectors) four_geometry.1.0,
              ),
            ),
            (
              made_session m.target (target_place m) target target_made four_geometry.1.1.0,
              made_read g b (target_place m + 1) m.below room.below.items for.below (all_there (length m.above) (length m.below) d.files b.files many_files b_files) four_geometry.1.1.1,
            ),
          )
        where
          b_files : b.files ≡ d.files
          b_files = ap (λ (x : Disk). x.files) counts

          above_there : (files : List LinkedFile) → length files + 3 ≤ b.files → 1 + length (behind_first files) ≤ b.files
          above_there [] many = some_there b.files many
          above_there (f ∷ files) many = less_there (length files) b.files many

      low_all : Low below
      low_all =
          low_two (room.above.items ++ session_of child) (Read source ∷ Session target ∷ room.below.items)
          (low_two room.above.items (session_of child) (none_logged 1 1 (behind_first m.above) room.above.items for.above) (low_child child child_made))
          (tt, (one_low target.log.number target_made.of.first, none_logged (target_place m + 1) 1 m.below room.below.items for.below))

      module _ (layers : Layers) (u : Underway) (geometry : layers.geometry ≡ g) (leaf_is : layers.leaf ≡ Some leaf) (merge_is : layers.merge ≡ Some u) (none_now : layers.retiring ≡ None) (below_is : layers.below.items ≡ below) (place : u.source ≡ length m.above)
          (marks : u.marks ≡ room.marks) (relink_is : u.relink ≡ merge.relink) (serving : StartsMerge m merge layers d.told b.told) where
        served_now : WhereTold b.told (λ t. (v : State) × IsServing layers v t)
        served_now = told_last (ServesMerge m merge layers) (λ t. (v : State) × IsServing layers v t) (λ x y s. (started_merge x y m ids pages, s.serving)) d.told b.told serving

        held_now : (t : Trace) → b.told ≡ Some t → ((file : Placed) × Serves leaf t file) × ((files : List Placed) × HaveFiles below t files)
        held_now t told =
            let s = served_now t told in
            let held = subst (λ (x : List FileLayer). AreHeld (Some leaf) x t s.0.top (others_of s.0.rest)) below_is (subst (λ (o : Option Layer). AreHeld o layers.below.items t s.0.top (others_of s.0.rest)) leaf_is s.1.held) in
            ((s.0.top, held.0), (others_of s.0.rest, held.1))

        top_ready : IsReadyLeaf g below b leaf
        top_ready = record {
          ready = ready_still leaf leaf_made.old b leaf_made.was (same_files leaf_made.old leaf_made.counts) (λ t told. (held_now t told).0);
          sector = leaf_made.of.sector;
          sectors = leaf_made.of.sectors;
          apart = subst (λ (n : ℕ). AreOthers n below) (sym leaf_made.of.number) (counted_others 1 below zero_one counted);
        }

        merge_ready : IsMergeOf g (Some leaf) below u
        merge_ready = is_merge m.above room.above.items room.below.items child source target for.above child_some g (Some leaf) u refl place (ap (λ (k : Marks). k.stripes) marks ∙ for.stripes)

        child_turns : (x y : Trace) → IsServing layers (started_merge x y m ids pages) y → IfSome (child_layer (Some leaf) below u.source) (λ l. FileTurns l u.relink y)
        child_turns x y s =
            let v = started_merge x y m ids pages in
            let source_file : Placed = source_in x m ids pages in
            let target_file : Placed = target_in x m ids in
            let under : IsUnder (sector_of v) v.writes layers u v.top (between_in x m.above m.child ids.child) source_file target_file (record { first = source_file.member.layer; before = target_file.member.layer; marks = λ t. false }) =
            subst (λ (o : Option Underway). IsCourse (sector_of v) v.writes layers o v.top v.rest) merge_is s.course in
            let held = subst (λ (z : List FileLayer). AreHeld (Some leaf) z y v.top (others_of v.rest)) below_is (subst (λ (o : Option Layer). AreHeld o layers.below.items y v.top (others_of v.rest)) leaf_is s.held) in
            child_turns_by y u.relink under.parts target_file (between_in x m.above m.child ids.child) (source_file ∷ target_file ∷ rest_found x m) u.source leaf below v.top under.place
            (subst (λ (z : List FileLayer). child_parts (Some leaf) z u.source ≡ Some under.parts) below_is (subst (λ (o : Option Layer). child_parts o layers.below.items u.source ≡ Some under.parts) leaf_is under.goes_by))
            held.0 held.1 under.relinks

        relinks_ready : CanRelink (Some leaf) below b u
        relinks_ready = record {
          few = few_pages (length merge.relink) (length u.relink) plan.relink.has.few (ap (λ (ps : List Page). length ps) relink_is);
          turns = some_told b.told (child_layer (Some leaf) below u.source) (λ l t. FileTurns l u.relink t)
              (told_last (ServesMerge m merge layers) (λ t. IfSome (child_layer (Some leaf) below u.source) (λ l. FileTurns l u.relink t)) (λ x y s. child_turns x y s.serving) d.told b.told serving);
        }

        are_ready : AreReady layers b
        are_ready = record {
          sector = ap (λ (k : Geometry). k.sector) geometry ∙ (served_at d (chain_files m) [] (leaf_of m) (lower_files m) can (files_split m)).sector;
          leaf = subst (λ (o : Option Layer). IfSome o (IsReadyLeaf layers.geometry layers.below.items b)) (sym leaf_is)
              (subst (λ (k : Geometry). IsReadyLeaf k layers.below.items b leaf) (sym geometry) (subst (λ (x : List FileLayer). IsReadyLeaf g x b leaf) (sym below_is) top_ready));
          below = subst (λ (k : Geometry). AreReadyFiles k b layers.below.items) (sym geometry)
              (subst (λ (x : List FileLayer). AreReadyFiles g b x) (sym below_is) (made_ready g b below made_all (λ t told. (held_now t told).1)));
          apart = subst (λ (x : List FileLayer). AreApart (file_numbers x)) (sym below_is) (counted_apart 1 below counted);
          merge = subst (λ (o : Option Underway). IfSome o (IsMergeOf layers.geometry layers.leaf layers.below.items)) (sym merge_is)
              (subst (λ (k : Geometry). IsMergeOf k layers.leaf layers.below.items u) (sym geometry)
              (subst (λ (o : Option Layer). IsMergeOf g o layers.below.items u) (sym leaf_is) (subst (λ (x : List FileLayer). IsMergeOf g (Some leaf) x u) (sym below_is) merge_ready)));
          relink = subst (λ (o : Option Underway). IfSome o (CanRelink layers.leaf layers.below.items b)) (sym merge_is)
              (subst (λ (o : Option Layer). CanRelink o layers.below.items b u) (sym leaf_is) (subst (λ (x : List FileLayer). CanRelink (Some leaf) x b u) (sym below_is) relinks_ready));
          one = subst (λ o. AtMostOne o layers.retiring) (sym merge_is) none_now;
          retiring = subst (λ o. IfSome o (IsRetiringOf layers.geometry layers.leaf layers.below.items)) (sym none_now) tt;
          retires = subst (λ o. IfSome o (CanRetire layers.leaf layers.below.items b)) (sym none_now) tt;
        }

        are_low : IsLow 1 layers
        are_low =
            subst (λ (o : Option Layer). AllByRecursion (λ number. IfSome number (λ n. n ≤ 1)) (option_map (λ (l : Layer). l.log.number) o ∷ map log_number layers.below.items)) (sym leaf_is)
            (one_low leaf.log.number leaf_made.of.first, subst (λ (x : List FileLayer). AllByRecursion (λ number. IfSome number (λ n. n ≤ 1)) (map log_number x)) (sym below_is) low_all)

        begun : HasBegunMerge m merge d b layers
        begun = record {
          serving = serving;
          session = ap is_some leaf_is;
          under_way = ap is_some merge_is;
          only = none_now;
          leaf = ap number_of_leaf leaf_is ∙ leaf_made.of.number;
          geometry = geometry;
          ready = are_ready;
          low = are_low;
          counts = counts;
        }

  -- ---- all of it

  module _ (leaf old_source target : Layer) (child : Option Layer) (a : Disk) (r : Behind (λ t. AtChild t m ids pages ids.child leaf old_source target child) a) (b : Disk) (keeps : WhereBothTold (KeepsOver old_source) a.told b.told)
      (source : ReadLayer) (closed : WhereBothTold (HasClosed old_source source) a.told b.told) (counts : b ≡ record a { told = b.told }) where
    pub begins_merge : (begun_source : Layer) (room : Room) → IsRoomFor m room → (some : is_some ids.child ≡ nat_lt 0 (length m.above)) → is_some child ≡ is_some ids.child → Made (leaf_of m).parts 0 leaf → Made m.target.parts (target_place m) target
        → IfSome child (Made m.child.parts (child_place m)) → IsOf m.source.parts (source_place m) begun_source → source.tables.parts ≡ begun_source.tables.parts → CanRead source b → (layers : Layers) (u : Underway)
        → layers.geometry ≡ g → layers.leaf ≡ Some leaf → layers.merge ≡ Some u → layers.retiring ≡ None → layers.below.items ≡ (room.above.items ++ session_of child) ++ Read source ∷ Session target ∷ room.below.items → u.source ≡ length m.above
        → u.marks ≡ room.marks → u.relink ≡ merge.relink → BeginsMerge m merge d b (Ok layers)
    begins_merge begun_source room for some both leaf_made target_made child_made source_of source_parts can_read layers u geometry leaf_is merge_is none_now below_is place marks relink_is =
        let over = end_told m ids pages d can plan.links ids.child leaf old_source target child a.told b.told r.at keeps in
        let numbers = source_place m ∷ child_place m ∷ target_place m ∷ source_place m ∷ source_place m ∷ 0 ∷ [] in
        let serving = serves_told m merge d can plan.links plan.relink.has.pages_are plan.relink.has.told leaf target child source room.above.items room.below.items some both leaf_made.of.table (tables child child_made) for.above for.below layers u geometry
        leaf_is merge_is none_now below_is place relink_is (λ t. ap (λ (k : Marks). marks_of k t) marks ∙ for.marks t) b.told
        (end_stage m ids pages d can plan.links ids.child leaf old_source target child a.told b.told r.at keeps source closed) in
        record {
          moments = moments_of m numbers d.told b.told over;
          still = still_of m numbers (source_changed, (child_changed, (target_changed, (source_changed, (source_changed, (refl, tt)))))) d.told b.told over;
          begun = begun b (counts_join d a b r.counts counts) room for some leaf target begun_source child source both leaf_made target_made child_made source_of source_parts can_read layers u geometry leaf_is merge_is none_now below_is place marks relink_is serving;
          err = tt;
        }
      where
        tables : (o : Option Layer) → IfSome o (Made m.child.parts (child_place m)) → IfSome o (λ (x : Layer). x.tables.parts.bat_len ≡ m.child.parts.bat_len)
        tables None made = tt
        tables (Some l) made = made.of.table
