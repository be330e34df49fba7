-- A session with several guests and a merge beside them, from its start to its end.
use Rattle.std.proofs.Common.{◌≡◌, ◌<◌, ◌||◌, ℕ, true, List, [], Option, Some, None, Result, Ok, Err, refl, sym, ap, ap₂, subst, ◌∙◌}
use Rattle.std.specs.Prelude.{IfErr, OnOk, is_some}
use Rattle.std.specs.List.{AllByRecursion}
use Rattle.std.proofs.lemmas.Bool.{or_from, or_parts}
use Rattle.std.proofs.lemmas.Result.{on_ok_weaker}
use Rattle.store_model.specs.Disk.{Disk, WhereBothTold, WhereTold}
use Rattle.store_model.specs.Trace.{Trace}
use Rattle.store_model.specs.declared.fault.StoreFault.{StoreFault}
use Rattle.store_model.proofs.Told.{counts_join}
use Rattle.vx_base.specs.declared.parts.Geometry.{Geometry}
use Rattle.guest_model.specs.History.{History, is_dirty}
use Rattle.ledger.specs.declared.ledger.Ledger.{Ledger}
use Rattle.guest_model.specs.declared.refusal.ChainRefusal.{ChainRefusal}
use Rattle.guest_model.specs.declared.refusal.ChainRefusal.TheVariants.{Abandoned, Broken, EmptyRange, FileFull, NoMerge, NoPiece, NoRoom, NoStripe, NotYet, OutOfRange, ReadFault, ReadOnly, Spent, Stale, TooLong}
use Rattle.chain_model.specs.Moments.{EachOpensToPrefix}
use Rattle.link_rules.specs.declared.linked.LinkedFile.{LinkedFile}
use Rattle.merge_plan.specs.Attached.{AreAsOpened, CanStart}
use Rattle.merge_plan.specs.LeafMerging.{LeafFiles}
use Rattle.merge_plan.specs.Merging.{MergeFiles}
use Rattle.chain_core.specs.declared.chain.Chain.{Chain}
use Rattle.chain_core.specs.LeafStarting.{HasStartedLeafMerge, StartsLeafMerge, is_first_two, started_leaf_merge}
use Rattle.chain_core.specs.MergeStarting.{LeavesAllBut, HasStartedMerge, LeavesRest, StartsMerge, started_merge}
use Rattle.chain_core.specs.Sealed.{GoesOnSealed, IsKept}
use Rattle.chain_core.specs.Starting.{opening_disk}
use Rattle.chain_core.specs.declared.layers.Layers.{Layers}
use Rattle.layer_session.proofs.Equal.{none_some, some_same}
use Rattle.merge_plan.specs.declared.leaf.LeafMerge.{LeafMerge}
use Rattle.merge_plan.specs.declared.merge.Merge.{Merge}
use Rattle.chain_core.specs.States.{IsServing, State, sector_of}
use Rattle.chain_core.proofs.MergeFound.{AreFound}
use Rattle.chain_core.proofs.MergeTold.{are_found}
use Rattle.script_session.specs.Faults.{FaultsAreTold}
use Rattle.script_session.specs.Histories.{IsLater, IsSoLong, disk_after}
use Rattle.script_session.specs.MergeRunning.{Scope, drive_over, leaf_scope_of, scope_of}
use Rattle.script_session.specs.Running.{open_by, open_last}
use Rattle.script_session.specs.Told.{failed_by, sector_size}
use Rattle.script_session.proofs.LeafScripts as leaves
use Rattle.script_session.proofs.LeftFiles.{names_all, names_started}
use Rattle.script_session.proofs.Lengths.{ends_later, grows_none, long_later}
use Rattle.script_session.proofs.MergeScripts.{scope_is, source_then}
use Rattle.script_session.proofs.Resting.{IsScope, sealed_scope, all_synced, all_unnamed, links_all, links_left, may_change, others_as}
use Rattle.script_session.proofs.Scripts.{past_as}
use Rattle.shared_chain.proofs.Breaking.{past_wider, wider}
use Rattle.shared_chain.specs.Closing.{HasLeft}
use Rattle.shared_chain.specs.Steps.{open_by as opens_by}
use Rattle.serve_session.specs.Endings.{Ending}
use Rattle.serve_session.specs.MergeServed.{HasRunLeafMerge, HasRunMerge, HasServedOver, HasServedWith, IsStopTold}
use Rattle.serve_session.specs.Served.{AreServed, Asking, Outcome, all_told, all_unread}
use Rattle.serve_session.specs.Sealing.{ServesFirst, ServesSealed}
use Rattle.serve_session.specs.Serving.{HasServed, IsNearEnd, IsUpTo, drive_from}
use Rattle.serve_session.proofs.Filled.{long_up}
use Rattle.serve_session.proofs.Sessions.{changes_are, counts_change, files_are, last_as, quiet_since, whole_as}

-- what holds of an end that didn't fail, where the merge was stopped
pub stays_by : (P Q : Type 0) (merged : Result (Unit {0}) ChainRefusal) (closed : Result (Unit {0}) StoreFault) → IfErr merged (λ x. OnOk closed P) → OnOk closed (P → Q) → IfErr merged (λ x. OnOk closed Q)
stays_by P Q (Ok done) closed p f = tt
stays_by P Q (Err x) (Ok done) p f = f p
stays_by P Q (Err x) (Err fault) p f = tt

module _ {S T : Type 0} (disk : S → Disk) (chain : Chain S Ledger T) (asking : Asking) (guests : List (List Outcome)) (history : History) (end : Ending) (merged : Result (Unit {0}) ChainRefusal) (after : Disk) (sealed : ServesSealed disk true chain asking guests history end merged after) (sector : chain.layers.geometry.sector ≡ 512) where
  abbrev first : Chain S Ledger T
  first = sealed.first

  abbrev h : HasServed disk true first asking guests history end merged after
  h = sealed.served

  same_layers : first.layers ≡ chain.layers
  same_layers = ap (λ (c : Chain S Ledger T). c.layers) sealed.sealing.only

  module _ (scope : Scope) (geometry : first.layers.geometry ≡ scope.geometry) (session : is_some first.layers.leaf ≡ true) (v : State) (trace mid : Trace) (is : IsScope IsKept scope v trace mid) (mid_is : (disk first.store).told ≡ Some mid) (serving : IsServing first.layers v mid) where
    size : sector_of v ≡ sector_size
    size = sym (ap (λ (g : Geometry). g.sector) serving.geometry) ∙ ap (λ (l : Layers). l.geometry.sector) same_layers ∙ sector

    drive_is : drive_from first v ≡ drive_over scope trace
    drive_is = ap₂ (λ (g : Geometry) c. record { geometry = g; can_change = c; opening = v.opening }) geometry session ∙ ap (λ o. record { geometry = scope.geometry; can_change = true; opening = o }) is.opening

    served : AreServed true (drive_over scope trace) asking guests history (failed_by end.closed) h.broken
    served = subst (λ d. AreServed true d asking guests history (failed_by end.closed) h.broken) drive_is (h.served mid mid_is v serving is.history)

    module _ (now : Trace) (left : HasLeft (is_some first.layers.leaf) h.under_way v history h.full h.breach end.closed now) where
      same : IsLater v history left.to
      same = left.comes.later

      to_size : sector_of left.to ≡ sector_size
      to_size = left.comes.sector ∙ size

      so_long : (next : ℕ) → IsUpTo h.full next → IsSoLong scope.changes now next
      so_long next up = long_later v.writes scope.changes now now next (may_change scope v trace mid is history left.to same now) (grows_none now) (long_up h.full v.writes now left.long next up)

      stop_told : (x : ChainRefusal) → IsNearEnd disk first h.full x → IsStopTold scope.changes now x
      stop_told EmptyRange k = tt
      stop_told (OutOfRange a b c) k = tt
      stop_told (TooLong a b) k = tt
      stop_told ReadOnly k = tt
      stop_told (Broken file count) k = tt
      stop_told (Spent t) k = tt
      stop_told (FileFull next) k = (k.1 mid mid_is v serving is.history, so_long next k.0)
      stop_told (ReadFault file count) k = tt
      stop_told NoMerge k = tt
      stop_told (Stale taken now) k = tt
      stop_told (NotYet stripe) k = tt
      stop_told (Abandoned file count) k = tt
      stop_told (NoStripe stripe stripes) k = tt
      stop_told NoPiece k = tt
      stop_told NoRoom k = tt

      stopped : (r : Result (Unit {0}) ChainRefusal) → IfErr r (IsNearEnd disk first h.full) → IfErr r (IsStopTold scope.changes now)
      stopped (Ok done) k = tt
      stopped (Err x) k = stop_told x k

      pub files_left : HasServedOver scope asking guests history h.broken merged end.closed trace now
      files_left = record {
        served = served;
        moments = past_wider sector_size (opening_disk trace scope.files) history (opens_by h.breach) (open_by h.broken) scope.leaf trace now h.opens
            (subst (λ k. EachOpensToPrefix sector_size (opening_disk trace scope.files) k (opens_by h.breach) scope.leaf trace now) same.history
            (past_as (sector_of left.to) sector_size left.to.opening (opening_disk trace scope.files) left.to.leaf scope.leaf left.to.began trace left.to.history (λ z. opens_by h.breach) now to_size (same.opening ∙ is.opening) (same.leaf ∙ is.leaf) (same.began ∙ is.began) left.past));
        last = wider scope.leaf (λ s. is_dirty sector_size history s || opens_by h.breach s) (open_last history h.broken) (disk_after (drive_over scope trace) history) now
            (λ s apart. let parts = or_parts (is_dirty sector_size history s) (open_by h.broken s) apart in or_from (is_dirty sector_size history s) (opens_by h.breach s) parts.0 (h.opens s parts.1))
            (last_as (sector_of left.to) sector_size left.to.opening (opening_disk trace scope.files) left.to.leaf scope.leaf left.to.history history now to_size (same.opening ∙ is.opening) (same.leaf ∙ is.leaf) same.history (opens_by h.breach) left.last);
        full = ends_later (IsUpTo h.full) (IsSoLong scope.changes now) so_long (all_told guests) h.ends;
        still = others_as scope v trace mid is history left.to same now left.still;
        at_rest = on_ok_weaker end.closed (λ w. record {
          synced = all_synced scope v trace mid is history left.to same now left.still (w.synced session);
          no_log = all_unnamed scope v trace mid is history left.to same now left.still (w.no_log session);
          opens = whole_as (sector_of left.to) sector_size left.to.opening (opening_disk trace scope.files) left.to.leaf scope.leaf left.to.history history now to_size (same.opening ∙ is.opening) (same.leaf ∙ is.leaf) same.history w.opens;
        }) left.whole;
        linked = on_ok_weaker merged (λ none. on_ok_weaker end.closed (λ w. links_left scope v trace mid is history left.to same now (w.under_way ∙ none) w.links) left.whole) (h.finished refl);
        stays = stays_by _ _ merged end.closed (h.kept refl) (on_ok_weaker end.closed (λ w some. links_all scope v trace mid is history left.to same now (w.under_way ∙ some) w.links) left.whole);
        stopped = stopped merged h.near;
      }

  -- and the counts
  with_counts : (scope : Scope) (old : Disk) → disk chain.store ≡ record old { told = (disk chain.store).told } → WhereBothTold (HasServedOver scope asking guests history h.broken merged end.closed) old.told after.told → HasServedWith scope asking guests history end merged old after
  with_counts scope old counts have = record {
    broken = h.broken;
    count = h.count;
    counted = h.counted.last;
    ended = counts_change after end.closed h.counted.end;
    quiet = λ none. on_ok_weaker end.closed (λ same. counts_join old (disk first.store) after (quiet_since disk chain first sealed.met sealed.sealing old counts (sealed.told none)) same) (h.counted.quiet none);
    faults =
        let k = h.faults in
        subst (λ n. FaultsAreTold (all_told guests) (failed_by end.closed) n old.failed_changes after.failed_reads after.failed_changes) (files_are disk chain first sealed.met sealed.sealing old counts)
        (record { each = k.each; end = k.end; none = λ none. k.none none ∙ changes_are disk chain first sealed.met sealed.sealing old counts });
    unread = subst (λ n. AllByRecursion (λ fault. fault.file < n) (all_unread guests)) (files_are disk chain first sealed.met sealed.sealing old counts) h.unread;
    unfetched = h.unfetched;
    unread_is = h.unread_is;
    stopped = h.stopped;
    served = have;
  }

  abbrev Left : Trace → Trace → Type 0
  Left trace now = (from : State) → IsServing first.layers from trace → from.history ≡ [] → HasLeft (is_some first.layers.leaf) h.under_way from history h.full h.breach end.closed now

  abbrev Over : Scope → Trace → Trace → Type 0
  Over scope = HasServedOver scope asking guests history h.broken merged end.closed

  -- ---- of a file below the leaf
  module _ (files : List LinkedFile) (name : List ℕ) (old : Disk) (drawn now_drawn : Option (List (List ℕ))) (can : CanStart files old) (begun : HasStartedMerge files name old (disk chain.store) drawn now_drawn chain.layers) where
    abbrev m : MergeFiles
    m = begun.m

    have : (a b s c : Option Trace) → old.told ≡ a → StartsMerge m begun.merge chain.layers a b → LeavesRest m a b → (disk first.store).told ≡ s → WhereBothTold (GoesOnSealed chain.layers) b s → WhereBothTold Left s c → WhereBothTold (Over (scope_of m)) a c
    have None None None None is st rest e g l = tt
    have None None None (Some c) is st rest e g l = absurd l
    have None None (Some s) c is st rest e g l = absurd g
    have None (Some b) s c is st rest e g l = absurd st
    have (Some a) None s c is st rest e g l = absurd st
    have (Some a) (Some b) None c is st rest e g l = absurd g
    have (Some a) (Some b) (Some s) None is st rest e g l = absurd l
    have (Some a) (Some b) (Some s) (Some c) is st rest e g l =
        let v = started_merge a b m begun.merge.ids begun.merge.twice in
        let found : AreFound a m = are_found m old (subst (λ fs. CanStart fs old) begun.planned.begun.files_are.files_are can) a is in
        let scope = scope_is m begun.merge a b rest (source_then m begun.merge.ids begun.merge.twice a b st.serving.synced) st.no_log (names_started a b m begun.merge.ids begun.merge.twice found) (names_all a b m begun.merge.ids begun.merge.twice found) in
        let serving = subst (λ (layers : Layers). IsServing layers (record v { since = s }) s) (sym same_layers) (g.serves v st.serving) in
        files_left (scope_of m) (ap (λ (layers : Layers). layers.geometry) same_layers ∙ begun.begun.geometry) (ap (λ (layers : Layers). is_some layers.leaf) same_layers ∙ begun.begun.session) (record v { since = s }) a s
        (sealed_scope chain.layers (scope_of m) v a b s g scope) e serving c (l (record v { since = s }) serving refl)

    pub guests_merged : HasRunMerge files name asking guests history end merged old after drawn now_drawn
    guests_merged = record {
      m = m;
      merge = begun.merge;
      planned = begun.planned;
      serves = with_counts (scope_of m) old begun.begun.counts (have old.told (disk chain.store).told (disk first.store).told after.told refl begun.begun.serving begun.still refl sealed.sealing.goes h.leaves);
    }

  -- ---- of the leaf
  module _ (files : List LinkedFile) (old : Disk) (drawn now_drawn : Option (List (List ℕ))) (can : CanStart files old) (begun : HasStartedLeafMerge files old (disk chain.store) drawn now_drawn chain.layers) where
    abbrev of_leaf : LeafFiles
    of_leaf = begun.m

    have_leaf : (a b s c : Option Trace) → old.told ≡ a → StartsLeafMerge of_leaf begun.merge chain.layers a b → LeavesAllBut is_first_two a b → (disk first.store).told ≡ s → WhereBothTold (GoesOnSealed chain.layers) b s → WhereBothTold Left s c
        → WhereBothTold (Over (leaf_scope_of of_leaf)) a c
    have_leaf None None None None is st rest e g l = tt
    have_leaf None None None (Some c) is st rest e g l = absurd l
    have_leaf None None (Some s) c is st rest e g l = absurd g
    have_leaf None (Some b) s c is st rest e g l = absurd st
    have_leaf (Some a) None s c is st rest e g l = absurd st
    have_leaf (Some a) (Some b) None c is st rest e g l = absurd g
    have_leaf (Some a) (Some b) (Some s) None is st rest e g l = absurd l
    have_leaf (Some a) (Some b) (Some s) (Some c) is st rest e g l =
        let v = started_leaf_merge a b of_leaf begun.merge.ids begun.merge.twice in
        let scope = leaves.scope_is of_leaf begun.merge a b rest (subst (AreAsOpened a 0) begun.planned.begun.files_are (can.told a is).each) in
        let serving = subst (λ (layers : Layers). IsServing layers (record v { since = s }) s) (sym same_layers) (g.serves v st) in
        files_left (leaf_scope_of of_leaf) (ap (λ (layers : Layers). layers.geometry) same_layers ∙ begun.begun.geometry) (ap (λ (layers : Layers). is_some layers.leaf) same_layers ∙ begun.begun.session) (record v { since = s }) a s
        (sealed_scope chain.layers (leaf_scope_of of_leaf) v a b s g scope) e serving c (l (record v { since = s }) serving refl)

    pub guests_leaf_merged : HasRunLeafMerge files asking guests history end merged old after drawn now_drawn
    guests_leaf_merged = record {
      m = of_leaf;
      merge = begun.merge;
      planned = begun.planned;
      serves = with_counts (leaf_scope_of of_leaf) old begun.begun.counts (have_leaf old.told (disk chain.store).told (disk first.store).told after.told refl begun.begun.serving begun.still refl sealed.sealing.goes h.leaves);
    }

-- a session that has started with a merge serves its first state
pub merge_first : {S T : Type 0} (disk : S → Disk) (chain : Chain S Ledger T) (m : MergeFiles) (merge : Merge) (a : Option Trace) → StartsMerge m merge chain.layers a (disk chain.store).told → ServesFirst disk chain
merge_first disk chain m merge a st = go a (disk chain.store).told st
  where
    go : (a b : Option Trace) → StartsMerge m merge chain.layers a b → WhereTold b (λ trace. (from : State) × IsServing chain.layers from trace × (from.history ≡ []))
    go None None st = λ t e. absurd (none_some e)
    go None (Some b) st = absurd st
    go (Some a) None st = absurd st
    go (Some a) (Some b) st = λ t e. subst (λ (w : Trace). (from : State) × IsServing chain.layers from w × (from.history ≡ [])) (some_same {x = b} {y = t} e) (started_merge a b m merge.ids merge.twice, st.serving, refl)

pub leaf_merge_first : {S T : Type 0} (disk : S → Disk) (chain : Chain S Ledger T) (m : LeafFiles) (merge : LeafMerge) (a : Option Trace) → StartsLeafMerge m merge chain.layers a (disk chain.store).told → ServesFirst disk chain
leaf_merge_first disk chain m merge a st = go a (disk chain.store).told st
  where
    go : (a b : Option Trace) → StartsLeafMerge m merge chain.layers a b → WhereTold b (λ trace. (from : State) × IsServing chain.layers from trace × (from.history ≡ []))
    go None None st = λ t e. absurd (none_some e)
    go None (Some b) st = absurd st
    go (Some a) None st = absurd st
    go (Some a) (Some b) st = λ t e. subst (λ (w : Trace). (from : State) × IsServing chain.layers from w × (from.history ≡ [])) (some_same {x = b} {y = t} e) (started_leaf_merge a b m merge.ids merge.twice, st, refl)
