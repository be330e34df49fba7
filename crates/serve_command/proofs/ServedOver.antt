-- Guests served over a chain's files, with a merge beside them or without: from what the store's session leaves to what the host is left with.
use Rattle.std.proofs.Common.{◌≡◌, ◌≢◌, ◌==◌, ◌+◌, ◌<◌, ◌≤◌, ◌++◌, ℕ, Bool, true, false, List, [], ◌∷◌, length, Option, Some, None, Result, Ok, Err, arith, refl, sym, ap, subst, ◌∙◌}
use Rattle.std.specs.Prelude.{⊤, All, IfErr, IfSome, OnOk, option_map, slice_index_or}
use Rattle.std.specs.List.{AllByRecursion}
use Rattle.std.proofs.lemmas.Option.{same_Some}
use Rattle.store_model.proofs.Told.{both_from}
use Rattle.store_model.specs.Disk.{Disk as StoreDisk, WhereBothTold, WhereTold}
use Rattle.store_model.specs.File.{is_synced, seen}
use Rattle.store_model.specs.Folder.{AreAway, HasFailed, Held, Hosted, KeepsStore, RoseWhere, attached_trace, given_back}
use Rattle.store_model.specs.Trace.{Trace, file_of}
use Rattle.store_model.specs.declared.fault.StoreFault.{StoreFault}
use Rattle.chain_model.specs.Members.{NoneTwice}
use Rattle.guest_model.specs.History.{History}
use Rattle.guest_model.specs.declared.refusal.ChainRefusal.{ChainRefusal}
use Rattle.guest_model.specs.declared.refusal.ChainRefusal.TheVariants as refusals
use Rattle.layer_session.specs.Unnamed.{NamesNoLog}
use Rattle.link_rules.specs.Chains.{is_among, names_of}
use Rattle.link_rules.specs.Effects.{IsServed}
use Rattle.link_rules.specs.Folders.{AllIdle}
use Rattle.link_rules.specs.Lines.{IsLine}
use Rattle.link_rules.specs.declared.linked.Linked.{Linked}
use Rattle.link_rules.specs.declared.linked.LinkedFile.{LinkedFile}
use Rattle.chain_core.specs.Answering.{EachLinks}
use Rattle.chain_core.specs.LeafStarting.{is_first_two}
use Rattle.chain_core.specs.MergeStarting.{is_changed}
use Rattle.chain_core.specs.Starting.{way_to}
use Rattle.chain_core.specs.declared.starting.Mode.TheVariants.{Guests}
use Rattle.script_session.specs.Faults.{Counts, FaultsAreTold, IsFaultOf}
use Rattle.script_session.specs.Histories.{Break, IsSoLong}
use Rattle.script_session.specs.MergeRunning.{Scope, names_without}
use Rattle.script_session.specs.Running.{IsAtRest, drive_of}
use Rattle.script_session.specs.Told.{Told, failed_by}
use Rattle.serve_session.specs.Endings.{Ending, StopsMerge}
use Rattle.serve_session.specs.MergeServed.{HasRunLeafMerge, HasRunMerge, HasServedOver}
use Rattle.serve_session.specs.MergeServed as session
use Rattle.serve_session.specs.Running.{HasRunGuests, HasServedFiles, HaveServed}
use Rattle.serve_session.specs.Served.{AreServed, Asking, Outcome, all_told, all_unread}
use Rattle.command_base.specs.Commands.{Lends}
use Rattle.steps_command.specs.Crashes.{HasLong, NoneNamesLog}
use Rattle.serve_command.specs.Guests.{HasServedBy, HasServedMergeOf, ServedIn, ServedOver, TellsNoFault, stopped_by}
use Rattle.serve_command.specs.Serves.{IsMergeLeft, IsStopTold}
use Rattle.steps_command.specs.Sessions.{IsChainIn, IsLinkedChain, Rests, leaf_name}
use Rattle.steps_command.specs.Starts.{JudgesMergeOf, changed_names, is_leaf}
use Rattle.steps_command.specs.Steps.{AreLeft, leaf_left_names}
use Rattle.command_base.proofs.Followed.{last_once}
use Rattle.steps_command.proofs.Over.{back_for, drawn_over, drive_is, first_may, first_only, if_err, if_some, lent_faults, lent_told, not_first, on_ok, trace_of, written_in}
use Rattle.steps_command.proofs.OverLeaf as leaf_merge
use Rattle.steps_command.proofs.OverMerge as merge
use Rattle.steps_command.proofs.OverScope.{EndsAtRest, LeftMerged, scope_dropped, scope_over, scope_rests, scope_stays, scope_unlogged}
use Rattle.steps_command.proofs.OverScope as scoped
use Rattle.steps_command.proofs.Ran.{Changed, back_requires, both_told, full_ends, last_returned, now_told, rests, stands, unlogged}
use Rattle.steps_command.proofs.Sparing.{attached_since}
use Rattle.steps_command.proofs.Unlogged.{IsUnlogged, unlogged_one, unlogged_two}

-- what serving guests changes
changed_served : (leaf : LinkedFile) (others : List LinkedFile) (asking : Asking) (guests : List (List Outcome)) (h : History) (broken : Option Break) (closed : Result (Unit {0}) StoreFault) (a b : Option Trace)
    → WhereBothTold (HaveServed (leaf ∷ others) asking guests h broken closed) a b → WhereBothTold (Changed (written_in Guests)) a b
changed_served leaf others asking guests h broken closed a b k =
    both_from (HaveServed (leaf ∷ others) asking guests h broken closed) (Changed (written_in Guests)) a b
    (λ trace now k. record { attached = attached_since trace now k.moments.since; still = λ other apart. k.still other (not_first other apart) }) k

-- and what serving them beside a merge does
changed_beside : (scope : Scope) (asking : Asking) (guests : List (List Outcome)) (h : History) (broken : Option Break) (merged : Result (Unit {0}) ChainRefusal) (closed : Result (Unit {0}) StoreFault) (a b : Option Trace)
    → WhereBothTold (HasServedOver scope asking guests h broken merged closed) a b → WhereBothTold (Changed scope.changes) a b
changed_beside scope asking guests h broken merged closed a b k =
    both_from (HasServedOver scope asking guests h broken merged closed) (Changed scope.changes) a b (λ trace now k. record { attached = attached_since trace now k.moments.since; still = k.still }) k

-- ---- faults that are told

-- where no read of a store's files had failed, and no change ended its session, none was told a fault of a file
no_faults : (told : List Told) (files : ℕ) (reads : ℕ → ℕ) (ended : Option StoreFault) → reads ≡ (λ file. 0) → ended ≡ None → AllByRecursion (λ t. IfErr t (IsFaultOf files reads ended)) told → AllByRecursion TellsNoFault told
no_faults [] files reads ended none well all = tt
no_faults (t ∷ told) files reads ended none well all = (one t all.0, no_faults told files reads ended none well all.1)
  where
    one : (t : Told) → IfErr t (IsFaultOf files reads ended) → TellsNoFault t
    one (Ok done) k = tt
    one (Err (refusals.ReadFault file count)) k = let below : count ≤ 0 = subst (λ (r : ℕ → ℕ). count ≤ r file) none k.2 in omega (arith, k.1, below)
    one (Err (refusals.Broken file count)) k = let never : ◌≡◌ {A = Option StoreFault} None (Some (record { file = file; count = count })) = sym well ∙ k in cc
    one (Err refusals.EmptyRange) k = tt
    one (Err (refusals.OutOfRange x0 x1 x2)) k = tt
    one (Err (refusals.TooLong x0 x1)) k = tt
    one (Err refusals.ReadOnly) k = tt
    one (Err (refusals.Spent x0)) k = tt
    one (Err (refusals.FileFull x0)) k = tt
    one (Err refusals.NoMerge) k = tt
    one (Err (refusals.Stale x0 x1)) k = tt
    one (Err (refusals.NotYet x0)) k = tt
    one (Err (refusals.Abandoned x0 x1)) k = tt
    one (Err (refusals.NoStripe x0 x1)) k = tt
    one (Err refusals.NoPiece) k = tt
    one (Err refusals.NoRoom) k = tt

well_by : (told : List Told) (lent disk : StoreDisk) (fault : Option StoreFault) (closed : Result (Unit {0}) StoreFault) → lent.failed_reads ≡ (λ file. 0) → FaultsAreTold told (failed_by closed) lent.files lent.failed_changes disk.failed_reads disk.failed_changes
    → (fault ≡ None → OnOk closed (disk ≡ record lent { told = disk.told })) → fault ≡ None → OnOk closed (AllByRecursion TellsNoFault told)
well_by told lent disk fault (Ok done) unread faults quiet none = no_faults told lent.files disk.failed_reads None (ap (λ (d : StoreDisk). d.failed_reads) (quiet none) ∙ unread) refl faults.each
well_by told lent disk fault (Err last) unread faults quiet none = tt

-- ---- without a merge

none_stopped : (merged : Result (Unit {0}) ChainRefusal) (P : ChainRefusal → Type 0) → IfErr merged (λ e. ⊥) → IfSome (stopped_by merged) P
none_stopped (Ok done) P none = tt
none_stopped (Err e) P none = absurd none

none_unfinished : (merged : Result (Unit {0}) ChainRefusal) (P : ChainRefusal → Type 0) → IfErr merged (λ e. ⊥) → IfErr merged P
none_unfinished (Ok done) P none = tt
none_unfinished (Err e) P none = absurd none

none_left : (closed : Result (Unit {0}) StoreFault) → OnOk closed ⊤
none_left (Ok done) = tt
none_left (Err fault) = tt

module _ (retired : List (List ℕ)) (leaf : LinkedFile) (others : List LinkedFile) (old mid now : Hosted) (lent disk : StoreDisk) (idle : WhereTold old.folder AllIdle) (served : All IsServed (leaf ∷ others))
    (once : NoneTwice (retired ++ names_of (leaf ∷ others))) (chain : WhereTold old.folder (IsChainIn (record { retired = retired; files = leaf ∷ others }))) (lends : Lends (names_of (leaf ∷ others)) old mid lent)
    (back_is : WhereTold disk.told (λ trace. now.folder ≡ option_map (given_back trace) mid.folder)) (past_is : KeepsStore disk mid now) (count : RoseWhere (HasFailed disk) mid.faults now.faults) (before after : Option (List (List ℕ))) (asking : Asking) (guests : List (List Outcome)) (history : History) (ending : Ending) (merged : Result (Unit {0}) ChainRefusal) where
  abbrev L : Linked
  L = record { retired = retired; files = leaf ∷ others }

  module _ (h : HasRunGuests (leaf ∷ others) asking guests history ending lent disk before after) (none : IfErr merged (λ e. ⊥)) where
    changed : WhereBothTold (Changed (written_in Guests)) lent.told disk.told
    changed = changed_served leaf others asking guests history h.broken ending.closed lent.told disk.told h.served

    module _ (f : List Held) (told : old.folder ≡ Some f) where
      abbrev start : Trace
      start = trace_of Guests retired leaf others old mid now lent disk idle served once chain lends back_is past_is count before after None (written_in Guests) (first_may Guests leaf others) f

      abbrev end : (t : Trace) × (disk.told ≡ Some t) × Changed (written_in Guests) start t
      end = now_told retired leaf others old mid lent idle once chain lends disk Guests None (written_in Guests) (first_may Guests leaf others) changed f told

      files : HasServedFiles leaf others asking guests history h.broken ending.closed start end.0
      files =
          let b = both_told (HaveServed (leaf ∷ others) asking guests history h.broken ending.closed) lent.told disk.told start (lent_told Guests retired leaf others old mid now lent disk idle served once chain lends back_is past_is count before after None (written_in Guests) (first_may Guests leaf others) f told) h.served in
          subst (HasServedFiles leaf others asking guests history h.broken ending.closed start) (same_Some b.0 end.0 (sym b.1 ∙ end.1)) b.2

      rests_by : (closed : Result (Unit {0}) StoreFault) → OnOk closed (IsAtRest (way_to leaf (leaf ∷ others) None) (drive_of Guests leaf others start) history end.0) → OnOk closed (Rests L history f old now)
      rests_by (Ok done) a =
          rests retired leaf others old mid lent idle once chain lends disk Guests None (written_in Guests) (first_may Guests leaf others) changed now back_is past_is count f told history (λ n e. subst (λ x. is_synced (file_of end.0 x) ≡ true) (sym (first_only Guests n e)) a.synced) a.opens
      rests_by (Err fault) a = tt

      no_log_by : (closed : Result (Unit {0}) StoreFault) → OnOk closed (IsAtRest (way_to leaf (leaf ∷ others) None) (drive_of Guests leaf others start) history end.0) → OnOk closed (WhereTold now.folder (NoneNamesLog (changed_names false None (leaf ∷ others))))
      no_log_by (Ok done) a = unlogged retired leaf others old mid lent idle once chain lends disk Guests None (written_in Guests) (first_may Guests leaf others) changed now back_is past_is count f told (leaf.name ∷ []) (unlogged_one leaf others end.0 (a.no_log refl))
      no_log_by (Err fault) a = tt

      served_in : ServedIn None L asking guests history h.broken merged ending.closed f old now
      served_in = record {
        told_so = λ d opens. subst (λ drive. AreServed false drive asking guests history (failed_by ending.closed) h.broken) (drive_is Guests retired leaf others old mid now lent disk idle served once chain lends back_is past_is count before after None (written_in Guests) (first_may Guests leaf others) f told d opens) files.served;
        stands = stands retired leaf others old mid lent idle once chain lends disk Guests None (written_in Guests) (first_may Guests leaf others) changed now back_is past_is count f told history h.broken files.moments (λ reading. let never : false ≡ true = reading in cc) files.last;
        faults = last_returned retired leaf others old mid lent idle once chain lends disk Guests None (written_in Guests) (first_may Guests leaf others) changed now back_is past_is count f told
            (λ store. FaultsAreTold (all_told guests) (failed_by ending.closed) (length (leaf ∷ others)) (λ file. 0) store.failed_reads store.failed_changes) (λ trace rest. lent_faults Guests retired leaf others old mid now lent disk idle served once chain lends back_is past_is count before after None (written_in Guests) (first_may Guests leaf others) (all_told guests) (failed_by ending.closed) h.faults);
        unread = subst (λ n. AllByRecursion (λ fault. fault.file < n) (all_unread guests)) (scoped.files_lent retired leaf others old mid lent chain lends) h.unread;
        full = full_ends retired leaf others old mid lent idle once chain lends disk Guests None (written_in Guests) (first_may Guests leaf others) changed now back_is past_is count f told (λ n. n == 0) (changed_names false None (leaf ∷ others)) (first_may Guests leaf others) (all_told guests) files.full;
        stopped = none_stopped merged _ none;
        rests = rests_by ending.closed files.at_rest;
        no_log = no_log_by ending.closed files.at_rest;
        left = none_left ending.closed;
      }

    alone_over : ServedOver None L asking guests history ending merged old now before after
    alone_over = record {
      broken = h.broken;
      count = h.count;
      drawn = drawn_over Guests retired leaf others old mid now lent disk idle served once chain lends back_is past_is count before after None (written_in Guests) (first_may Guests leaf others) Guests h.drawn;
      counted = if_some Guests retired leaf others old mid now lent disk idle served once chain lends back_is past_is count before after None (written_in Guests) (first_may Guests leaf others) changed ending.fault h.counted;
      ended = if_err Guests retired leaf others old mid now lent disk idle served once chain lends back_is past_is count before after None (written_in Guests) (first_may Guests leaf others) changed ending.closed h.ended;
      quiet = λ none. on_ok Guests retired leaf others old mid now lent disk idle served once chain lends back_is past_is count before after None (written_in Guests) (first_may Guests leaf others) changed ending.closed (h.quiet none);
      well = well_by (all_told guests) lent disk ending.fault ending.closed (ap (λ (d : StoreDisk). d.failed_reads) lends.disk_is) h.faults h.quiet;
      unfetched = 0;
      none_fetched = λ none. refl;
      unread_is = (let all = h.unread_is in omega (arith, all));
      stopped = none_unfinished merged _ none;
      served = served_in;
    }

  -- ---- beside a merge, by its scope

  module _ (name : List ℕ) (changes : ℕ → Bool) (staying : List (List ℕ)) (may : (n : ℕ) → changes n ≡ true → is_among (slice_index_or (names_of (leaf ∷ others)) n []) (changed_names false (Some name) (leaf ∷ others)) ≡ true) (are_left : AreLeft (leaf ∷ others) name staying)
      (broken : Option Break) (past : WhereBothTold (HasServedOver (scope_over leaf others name changes staying) asking guests history broken merged ending.closed) lent.told disk.told)
      (told_faults : FaultsAreTold (all_told guests) (failed_by ending.closed) lent.files lent.failed_changes disk.failed_reads disk.failed_changes) (unread : AllByRecursion (λ fault. fault.file < lent.files) (all_unread guests))
      (ended_all : (t : Trace) → ((n : ℕ) → changes n ≡ true → NamesNoLog (seen (file_of t n))) → AllByRecursion (IsUnlogged (leaf ∷ others) t) (changed_names false (Some name) (leaf ∷ others))) where
    abbrev scope : Scope
    scope = scope_over leaf others name changes staying

    abbrev became : WhereBothTold (Changed changes) lent.told disk.told
    became = changed_beside scope asking guests history broken merged ending.closed lent.told disk.told past

    module _ (f : List Held) (told : old.folder ≡ Some f) where
      abbrev traced : Trace
      traced = attached_trace (names_of (leaf ∷ others)) f

      abbrev later_is : (t : Trace) × (disk.told ≡ Some t) × Changed changes traced t
      later_is = now_told retired leaf others old mid lent idle once chain lends disk Guests (Some name) changes may became f told

      over : HasServedOver scope asking guests history broken merged ending.closed traced later_is.0
      over =
          let b = both_told (HasServedOver scope asking guests history broken merged ending.closed) lent.told disk.told traced (scoped.lent_told retired leaf others old mid lent chain lends f told) past in
          subst (HasServedOver scope asking guests history broken merged ending.closed traced) (same_Some b.0 later_is.0 (sym b.1 ∙ later_is.1)) b.2

      abbrev Resting : Type 0
      Resting = EndsAtRest retired leaf others old mid now lent disk idle served once chain lends back_is past_is count before after name changes staying may became f told history

      abbrev HasEnd : ℕ → Type 0
      HasEnd next = WhereTold now.folder (HasLong (changed_names false (Some name) (leaf ∷ others)) next)

      scope_rests_by : (closed : Result (Unit {0}) StoreFault) → OnOk closed Resting → OnOk closed (Rests L history f old now)
      scope_rests_by (Ok done) a = scope_rests retired leaf others old mid now lent disk idle served once chain lends back_is past_is count before after name changes staying may became f told history a
      scope_rests_by (Err fault) a = tt

      scope_logs_by : (closed : Result (Unit {0}) StoreFault) → OnOk closed Resting → OnOk closed (WhereTold now.folder (NoneNamesLog (changed_names false (Some name) (leaf ∷ others))))
      scope_logs_by (Ok done) a = scope_unlogged retired leaf others old mid now lent disk idle served once chain lends back_is past_is count before after name changes staying may became f told history a ended_all
      scope_logs_by (Err fault) a = tt

      -- a full file is so long
      end_long : (next : ℕ) → IsSoLong changes later_is.0 next → HasEnd next
      end_long next long = (full_ends retired leaf others old mid lent idle once chain lends disk Guests (Some name) changes may became now back_is past_is count f told changes (changed_names false (Some name) (leaf ∷ others)) may (Err (refusals.FileFull next) ∷ []) (long, tt)).0

      stopped_as : (merged : Result (Unit {0}) ChainRefusal) → IfErr merged (session.IsStopTold changes later_is.0) → IfSome (stopped_by merged) (IsStopTold HasEnd)
      stopped_as (Ok done) k = tt
      stopped_as (Err (refusals.FileFull next)) k = (k.0, end_long next k.1)
      stopped_as (Err refusals.EmptyRange) k = tt
      stopped_as (Err (refusals.OutOfRange x0 x1 x2)) k = tt
      stopped_as (Err (refusals.TooLong x0 x1)) k = tt
      stopped_as (Err refusals.ReadOnly) k = tt
      stopped_as (Err (refusals.Broken x0 x1)) k = tt
      stopped_as (Err (refusals.Spent x0)) k = tt
      stopped_as (Err (refusals.ReadFault x0 x1)) k = tt
      stopped_as (Err refusals.NoMerge) k = tt
      stopped_as (Err (refusals.Stale x0 x1)) k = tt
      stopped_as (Err (refusals.NotYet x0)) k = tt
      stopped_as (Err (refusals.Abandoned x0 x1)) k = tt
      stopped_as (Err (refusals.NoStripe x0 x1)) k = tt
      stopped_as (Err refusals.NoPiece) k = tt
      stopped_as (Err refusals.NoRoom) k = tt

      -- what the merge has left of the chain
      left_by : (merged : Result (Unit {0}) ChainRefusal) (closed : Result (Unit {0}) StoreFault) → OnOk closed Resting → OnOk merged (OnOk closed (EachLinks leaf.name staying later_is.0))
          → IfErr merged (λ x. OnOk closed (EachLinks leaf.name (names_of (leaf ∷ others)) later_is.0)) → OnOk closed (IsMergeLeft (stopped_by merged) (leaf_name L) L now name)
      left_by merged (Err fault) a links stays = tt
      left_by (Ok done) (Ok well) a links stays = scope_dropped retired leaf others old mid now lent disk idle served once chain lends back_is past_is count before after name changes staying may became f told history a are_left links
      left_by (Err e) (Ok well) a links stays = scope_stays retired leaf others old mid now lent disk idle served once chain lends back_is past_is count before after name changes staying may became f told history a stays

      beside_in : ServedIn (Some name) L asking guests history broken merged ending.closed f old now
      beside_in = record {
        told_so = λ d opens. subst (λ drive. AreServed true drive asking guests history (failed_by ending.closed) broken) (drive_is Guests retired leaf others old mid now lent disk idle served once chain lends back_is past_is count before after (Some name) changes may f told d opens) over.served;
        stands = stands retired leaf others old mid lent idle once chain lends disk Guests (Some name) changes may became now back_is past_is count f told history broken over.moments (λ reading. let never : false ≡ true = reading in cc) over.last;
        faults = last_returned retired leaf others old mid lent idle once chain lends disk Guests (Some name) changes may became now back_is past_is count f told
            (λ store. FaultsAreTold (all_told guests) (failed_by ending.closed) (length (leaf ∷ others)) (λ file. 0) store.failed_reads store.failed_changes) (λ trace rest. lent_faults Guests retired leaf others old mid now lent disk idle served once chain lends back_is past_is count before after (Some name) changes may (all_told guests) (failed_by ending.closed) told_faults);
        unread = subst (λ n. AllByRecursion (λ fault. fault.file < n) (all_unread guests)) (scoped.files_lent retired leaf others old mid lent chain lends) unread;
        full = full_ends retired leaf others old mid lent idle once chain lends disk Guests (Some name) changes may became now back_is past_is count f told changes (changed_names false (Some name) (leaf ∷ others)) may (all_told guests) over.full;
        stopped = stopped_as merged over.stopped;
        rests = scope_rests_by ending.closed over.at_rest;
        no_log = scope_logs_by ending.closed over.at_rest;
        left = left_by merged ending.closed over.at_rest over.linked over.stays;
      }

    beside_over : length guests ≡ asking.count → IfSome ending.fault (Counts disk) → IfErr ending.closed (Counts disk)
        → (ending.fault ≡ None → OnOk ending.closed (disk ≡ record lent { told = disk.told })) → (unfetched : ℕ) → ending.unread ≡ length (all_unread guests) + unfetched → IfErr merged (StopsMerge ending) → JudgesMergeOf (is_leaf (leaf ∷ others) name) L name old.folder before after None
        → ServedOver (Some name) L asking guests history ending merged old now before after
    beside_over is_count counted ended quiet unfetched unread_is stopped drawn = record {
      broken = broken;
      count = is_count;
      drawn = drawn;
      counted = if_some Guests retired leaf others old mid now lent disk idle served once chain lends back_is past_is count before after (Some name) changes may became ending.fault counted;
      ended = if_err Guests retired leaf others old mid now lent disk idle served once chain lends back_is past_is count before after (Some name) changes may became ending.closed ended;
      quiet = λ none. on_ok Guests retired leaf others old mid now lent disk idle served once chain lends back_is past_is count before after (Some name) changes may became ending.closed (quiet none);
      well = well_by (all_told guests) lent disk ending.fault ending.closed (ap (λ (d : StoreDisk). d.failed_reads) lends.disk_is) told_faults quiet;
      unfetched = unfetched;
      none_fetched = λ none. let never : Some name ≡ None = none in cc;
      unread_is = unread_is;
      stopped = stopped_so merged stopped;
      served = beside_in;
    }
      where
        stopped_so : (merged : Result (Unit {0}) ChainRefusal) → IfErr merged (StopsMerge ending) → IfErr merged (λ refusal. (Some name ≢ None) × StopsMerge ending refusal)
        stopped_so (Ok done) k = tt
        stopped_so (Err e) k = ((λ same. cc), k)

-- ---- beside a merge, of the leaf or of another file

module _ (retired : List (List ℕ)) (leaf : LinkedFile) (others : List LinkedFile) (old mid : Hosted) (lent disk : StoreDisk) (chain : WhereTold old.folder (IsChainIn (record { retired = retired; files = leaf ∷ others })))
    (lends : Lends (names_of (leaf ∷ others)) old mid lent) (before after : Option (List (List ℕ))) (name : List ℕ) (asking : Asking) (guests : List (List Outcome)) (history : History) (ending : Ending) (merged : Result (Unit {0}) ChainRefusal) where
  past_leaf : (h : HasRunLeafMerge (leaf ∷ others) asking guests history ending merged lent disk before after) (is : is_leaf (leaf ∷ others) name ≡ true)
      → WhereBothTold (HasServedOver (scope_over leaf others name is_first_two (leaf_left_names h.m)) asking guests history h.serves.broken merged ending.closed) lent.told disk.told
  past_leaf h is =
      subst (λ scope. WhereBothTold (HasServedOver scope asking guests history h.serves.broken merged ending.closed) lent.told disk.told) (leaf_merge.scope_is retired leaf others old mid lent disk chain lends before after name is h.m h.merge h.planned) h.serves.served

  past_other : (h : HasRunMerge (leaf ∷ others) name asking guests history ending merged lent disk before after) (is : is_leaf (leaf ∷ others) name ≡ false)
      → WhereBothTold (HasServedOver (scope_over leaf others name (is_changed h.m) (names_without h.m)) asking guests history h.serves.broken merged ending.closed) lent.told disk.told
  past_other h is =
      subst (λ scope. WhereBothTold (HasServedOver scope asking guests history h.serves.broken merged ending.closed) lent.told disk.told) (merge.scope_is retired leaf others old mid lent disk chain lends before after name is h.m h.merge h.planned) h.serves.served

  -- what one that ran changed
  pub left_of_leaf : HasRunLeafMerge (leaf ∷ others) asking guests history ending merged lent disk before after → is_leaf (leaf ∷ others) name ≡ true → LeftMerged leaf others name lent disk
  left_of_leaf h is = record {
    written = is_first_two;
    may = leaf_merge.may retired leaf others old mid lent disk chain lends before after name is;
    changed = changed_beside (scope_over leaf others name is_first_two (leaf_left_names h.m)) asking guests history h.serves.broken merged ending.closed lent.told disk.told (past_leaf h is);
  }

  pub left_of_other : HasRunMerge (leaf ∷ others) name asking guests history ending merged lent disk before after → is_leaf (leaf ∷ others) name ≡ false → LeftMerged leaf others name lent disk
  left_of_other h is = record {
    written = is_changed h.m;
    may = merge.may retired leaf others old mid lent disk chain lends before after name is h.m h.merge h.planned;
    changed = changed_beside (scope_over leaf others name (is_changed h.m) (names_without h.m)) asking guests history h.serves.broken merged ending.closed lent.told disk.told (past_other h is);
  }

  pub left_beside : (b : Bool) → is_leaf (leaf ∷ others) name ≡ b → HasServedMergeOf b (leaf ∷ others) name lent before after asking guests history ending merged disk → LeftMerged leaf others name lent disk
  left_beside true is h = left_of_leaf h is
  left_beside false is h = left_of_other h is

  module _ (now : Hosted) (idle : WhereTold old.folder AllIdle) (served : All IsServed (leaf ∷ others)) (once : NoneTwice (retired ++ names_of (leaf ∷ others))) (back_is : WhereTold disk.told (λ trace. now.folder ≡ option_map (given_back trace) mid.folder)) (past_is : KeepsStore disk mid now)
      (count : RoseWhere (HasFailed disk) mid.faults now.faults) where
    pub over_leaf : HasRunLeafMerge (leaf ∷ others) asking guests history ending merged lent disk before after → is_leaf (leaf ∷ others) name ≡ true → ServedOver (Some name) (record { retired = retired; files = leaf ∷ others }) asking guests history ending merged old now before after
    over_leaf h is =
        beside_over retired leaf others old mid now lent disk idle served once chain lends back_is past_is count before after asking guests history ending merged name is_first_two (leaf_left_names h.m) (leaf_merge.may retired leaf others old mid lent disk chain lends before after name is) (leaf_merge.left retired leaf others old mid lent disk chain lends before after name is h.m h.merge h.planned) h.serves.broken (past_leaf h is) h.serves.faults h.serves.unread (unlogged_two leaf others name is)
        h.serves.count h.serves.counted h.serves.ended h.serves.quiet h.serves.unfetched h.serves.unread_is h.serves.stopped (leaf_merge.drawn retired leaf others old mid lent disk chain lends before after name is h.m h.merge h.planned)

    pub over_other : HasRunMerge (leaf ∷ others) name asking guests history ending merged lent disk before after → is_leaf (leaf ∷ others) name ≡ false → ServedOver (Some name) (record { retired = retired; files = leaf ∷ others }) asking guests history ending merged old now before after
    over_other h is =
        beside_over retired leaf others old mid now lent disk idle served once chain lends back_is past_is count before after asking guests history ending merged name (is_changed h.m) (names_without h.m) (merge.may retired leaf others old mid lent disk chain lends before after name is h.m h.merge h.planned) (merge.left retired leaf others old mid lent disk chain lends before after name is h.m h.merge h.planned) h.serves.broken (past_other h is) h.serves.faults h.serves.unread
        (merge.ended_all retired leaf others old mid lent disk chain lends before after name is h.m h.merge h.planned (last_once retired (names_of (leaf ∷ others)) once))
        h.serves.count h.serves.counted h.serves.ended h.serves.quiet h.serves.unfetched h.serves.unread_is h.serves.stopped (merge.drawn retired leaf others old mid lent disk chain lends before after name is h.m h.merge h.planned)

    pub over_beside : (b : Bool) → is_leaf (leaf ∷ others) name ≡ b → HasServedMergeOf b (leaf ∷ others) name lent before after asking guests history ending merged disk → ServedOver (Some name) (record { retired = retired; files = leaf ∷ others }) asking guests history ending merged old now before after
    over_beside true is h = over_leaf h is
    over_beside false is h = over_other h is

-- ---- of what was linked

module _ (merge : Option (List ℕ)) (linked : Linked) (old mid : Hosted) (lent disk : StoreDisk) (before after : Option (List (List ℕ))) (chain : IsLinkedChain linked old) (lends : Lends (names_of linked.files) old mid lent)
    (asking : Asking) (guests : List (List Outcome)) (history : History) (ending : Ending) (merged : Result (Unit {0}) ChainRefusal) where
  abbrev Away : Type 0
  Away = WhereTold mid.folder (λ folder. WhereTold disk.told (λ trace. AreAway trace folder))

  back_by : (k : Option (List ℕ)) (fs : List LinkedFile) → IsLine fs → NoneTwice (linked.retired ++ names_of fs) → WhereTold old.folder (IsChainIn (record { retired = linked.retired; files = fs })) → Lends (names_of fs) old mid lent
      → HasServedBy k fs lent before after asking guests history ending merged disk → Away
  back_by k [] is_line once chain_is lend h = absurd is_line
  back_by None (leaf ∷ others) is_line once chain_is lend h =
      back_for Guests linked.retired (leaf ∷ others) old mid lent disk is_line chain.idle once chain_is lend (changed_served leaf others asking guests history h.broken ending.closed lent.told disk.told h.served)
  back_by (Some name) (leaf ∷ others) is_line once chain_is lend h =
      let left = left_beside linked.retired leaf others old mid lent disk chain_is lend before after name asking guests history ending merged (is_leaf (leaf ∷ others) name) refl h in
      back_requires linked.retired leaf others old mid lent chain.idle once chain_is lend disk Guests (Some name) left.written left.may left.changed

  -- the store may be given back
  pub served_back : HasServedBy merge linked.files lent before after asking guests history ending merged disk → Away
  served_back h = back_by merge linked.files chain.line chain.once chain.chain lends h

  module _ (now : Hosted) (back_is : WhereTold disk.told (λ trace. now.folder ≡ option_map (given_back trace) mid.folder)) (past_is : KeepsStore disk mid now) (count : RoseWhere (HasFailed disk) mid.faults now.faults) where
    over_by : (k : Option (List ℕ)) (fs : List LinkedFile) → IsLine fs → All IsServed fs → NoneTwice (linked.retired ++ names_of fs) → WhereTold old.folder (IsChainIn (record { retired = linked.retired; files = fs })) → Lends (names_of fs) old mid lent
        → (k ≡ None → IfErr merged (λ e. ⊥)) → HasServedBy k fs lent before after asking guests history ending merged disk → ServedOver k (record { retired = linked.retired; files = fs }) asking guests history ending merged old now before after
    over_by k [] is_line are_served once chain_is lend none h = absurd is_line
    over_by None (leaf ∷ others) is_line are_served once chain_is lend none h =
        alone_over linked.retired leaf others old mid now lent disk chain.idle are_served once chain_is lend back_is past_is count before after asking guests history ending merged h (none refl)
    over_by (Some name) (leaf ∷ others) is_line are_served once chain_is lend none h =
        over_beside linked.retired leaf others old mid lent disk chain_is lend before after name asking guests history ending merged now chain.idle are_served once back_is past_is count (is_leaf (leaf ∷ others) name) refl h

    pub served_ran : (merge ≡ None → IfErr merged (λ e. ⊥)) → HasServedBy merge linked.files lent before after asking guests history ending merged disk → ServedOver merge linked asking guests history ending merged old now before after
    served_ran none h = over_by merge linked.files chain.line chain.served chain.once chain.chain lends none h
