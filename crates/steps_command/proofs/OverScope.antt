-- A script's session with a merge over a chain's files, whichever of them is merged: from what the store's session leaves to what the host is
-- left with.
use Rattle.std.proofs.Common.{◌≡◌, ◌≢◌, ◌⊎◌, ℕ, ◌+◌, ◌<◌, Bool, true, false, is_some, List, [], ◌∷◌, ◌++◌, length, take, Option, Some, None, Result, Ok, Err, refl, sym, ap, subst, ◌∙◌, arith, inl, inr}
use Rattle.std.specs.Prelude.{All, IfErr, IfOk, IfSome, OnOk, option_map, slice_index_or, string_bytes}
use Rattle.std.specs.List.{AllByRecursion}
use Rattle.std.proofs.lemmas.List.{length-map}
use Rattle.std.proofs.lemmas.Option.{same_Some}
use Rattle.store_model.proofs.Told.{both_from}
use Rattle.file_open.specs.Causes.{Meaning, refuses, host_failed, store_failed, no_memory}
use Rattle.store_model.specs.Disk.{Disk as StoreDisk, ReadFailed, WhereBothTold, WhereTold}
use Rattle.store_model.specs.Plans.{FailsToChange}
use Rattle.store_model.specs.File.{seen}
use Rattle.store_model.specs.Folder.{HasFailed, Held, Hosted, KeepsStore, RoseWhere, attached_trace, given_back, seen_named}
use Rattle.store_model.specs.Trace.{EachMoment, Trace, file_of}
use Rattle.store_model.specs.declared.fault.SealFault.{SealFault}
use Rattle.store_model.specs.declared.fault.SealFault.TheVariants as seal
use Rattle.store_model.specs.declared.fault.StoreFault.{StoreFault}
use Rattle.vhdx_format.specs.SettledFiles.{StandsFor}
use Rattle.vhdx_format.specs.declared.locator.Pair.{Pair}
use Rattle.vhdx_format.specs.declared.log_entry.Page.{Page}
use Rattle.vx_base.specs.declared.parts.Parts.{Parts}
use Rattle.guest_model.specs.History.{History}
use Rattle.chain_model.proofs.NewFiles.{parts_stand}
use Rattle.chain_model.specs.Members.{NoneTwice}
use Rattle.chain_model.specs.Moments.{EachOpens}
use Rattle.link_rules.specs.Chains.{is_among, names_of}
use Rattle.link_rules.specs.Effects.{IsServed}
use Rattle.link_rules.specs.Folders.{AllIdle, contents}
use Rattle.link_rules.specs.declared.linked.Linked.{Linked}
use Rattle.link_rules.specs.declared.linked.LinkedFile.{LinkedFile}
use Rattle.merge_plan.specs.Attached.{shown_from as shown_of}
use Rattle.merge_plan.specs.Merging.{HasRoom, WritesLocator}
use Rattle.chain_core.specs.Answering.{EachLinks}
use Rattle.chain_core.specs.MergeStarting.{BeginsNone, LeavesAllBut}
use Rattle.chain_core.specs.Starting.{EachOpensAlike, opening_disk, way_to}
use Rattle.chain_core.specs.declared.starting.Mode.TheVariants.{Guests}
use Rattle.script.specs.declared.form.Line.{Line}
use Rattle.script_session.specs.Faults.{Counts, FaultsAreTold}
use Rattle.script_session.specs.Histories.{AreTold, Course, no_merge}
use Rattle.script_session.specs.MergeRunning.{HasHistoryOver, IsAtRestOver, Scope, just_started}
use Rattle.script_session.specs.MergeRunning as scoped
use Rattle.script_session.specs.Told.{HasMemory, Told, failed_by, last_fault, transcript}
use Rattle.script_session.specs.declared.session.ScriptRun.{ScriptRun}
use Rattle.chain_core.specs.Sealed.{as_it_was}
use Rattle.steps_command.proofs.Sparing.{kept_same}
use Rattle.command_base.specs.Commands.{AreOpened, IsOpened, Lends}
use Rattle.command_base.specs.Folders.{LeadsTo, StandsSo, files_of}
use Rattle.command_base.specs.Making.{ShowIds}
use Rattle.command_base.specs.Refusals.{Refusal}
use Rattle.steps_command.specs.Sessions.{CountsRefusal, HasMergeCauseOf, IfRule, IsChainIn, NotRunOver, RanIn, Rests, RunOver, StaysAsItWas, UnlessMerging, UnlessStore, leaf_name, meaning_of_steps, of_begin}
use Rattle.layer_session.specs.Unnamed.{NamesNoLog}
use Rattle.steps_command.specs.Crashes.{NoneNamesLog}
use Rattle.steps_command.specs.Starts.{JudgesMergeOf, changed_names, is_leaf}
use Rattle.steps_command.specs.Steps.{AreLeft, IsDropped}
use Rattle.steps_command.specs.declared.refusal.StepsRefusal.{StepsRefusal}
use Rattle.command_base.proofs.Back.{attached_as, bytes_there, shows_from}
use Rattle.command_base.proofs.Lent.{AreAt, IsAt, each_at}
use Rattle.steps_command.proofs.MergePlaces.{leaf_named}
use Rattle.steps_command.proofs.Over.{both_and, change_counts, counted_back, drive_is, if_err, if_some, lent_faults, on_ok, quiet_now, read_counts, rests_by_same, same_shown, stands_by, unchanged_by_same}
use Rattle.steps_command.proofs.Ran.{Changed, both_told, first_leads, full_ends, last_returned, leads, now_told, rests, stands, unlogged}
use Rattle.steps_command.proofs.Unlogged.{IsUnlogged}
use Rattle.steps_command.proofs.Sparing.{attached_since}

-- ---- a file of a chain, by its place

module _ (names : List (List ℕ)) (folder : List Held) where
  abbrev trace : Trace
  trace = attached_trace names folder

  -- it is a store's file, as the folder's was opened
  pub record IsHere (file : LinkedFile) (number : ℕ) : Type 0 where
    pub at : IsAt trace.attached number (record { name = file.name; bytes = seen_named file.name folder })
    pub opened : IsOpened (contents folder) file

  pub here : (first : List LinkedFile) (file : LinkedFile) (rest : List LinkedFile) (i n : ℕ) → n ≡ i + length first → AreAt trace.attached i (attached_as folder (first ++ file ∷ rest)) → AreOpened (contents folder) (first ++ file ∷ rest) → IsHere file n
  here [] file rest i n is at opened = record { at = subst (λ k. IsAt trace.attached k (record { name = file.name; bytes = seen_named file.name folder })) (omega (arith, is)) at.0; opened = opened.0 }
  here (f ∷ first) file rest i n is at opened = here first file rest (i + 1) n (omega (arith, is)) at.1 opened.1

  pub stands_here : (file : LinkedFile) (number : ℕ) → IsHere file number → (P : List ℕ → Type 0) → P (seen (file_of trace number)) → StandsSo (contents folder) file.name P
  stands_here file number h P p =
      let o = h.opened in
      let is = bytes_there names folder number file.name o.bytes h.at.bytes o.there in
      record { bytes = o.bytes; settled = seen (file_of trace number); there = o.there; stands = subst (StandsFor o.bytes) (sym is) (parts_stand o.bytes o.bytes file.parts o.reads); so = p }

pub has_room : (parts : Parts) (number : ℕ) (disk : StoreDisk) (pairs : List Pair) (pages : List Page) → WritesLocator parts number disk pairs pages → HasRoom parts number disk pairs
has_room parts number disk pairs pages w t told = ap is_some (w.has.told t told).changed

-- ---- what a start that was refused leaves of a store

module _ (lent disk : StoreDisk) where
  -- of its counts
  abbrev pub Counted : Meaning Refusal → Type 0
  Counted (refuses r) = disk ≡ lent
  Counted (host_failed fault) = ⊥
  Counted (store_failed fault) = Counts disk fault
  Counted no_memory = disk ≡ record lent { told = disk.told }

  pub as_told : disk ≡ lent → disk ≡ record lent { told = disk.told }
  as_told e = subst (λ d. d ≡ record lent { told = d.told }) (sym e) refl

  pub told_of : disk ≡ lent → disk.told ≡ lent.told
  told_of e = ap (λ (d : StoreDisk). d.told) e

  pub read_told : (fault : StoreFault) → ReadFailed fault.file lent disk fault → disk.told ≡ lent.told
  read_told fault h = ap (λ (d : StoreDisk). d.told) h.stays

  -- a read or a change of one of these files failed
  pub begin_counted : (changes : ℕ → Bool) (fault : SealFault) → ((n : ℕ) → changes n ≡ true → n < lent.files) → BeginsNone changes lent disk fault → Counted (meaning_of_steps (of_begin fault))
  begin_counted changes (seal.Store fault) within h = by_kind h.fails where
    there : h.file < lent.files
    there = within h.file h.one

    by_kind : ReadFailed h.file (record lent { told = disk.told }) disk fault ⊎ FailsToChange h.file lent disk fault → Counts disk fault
    by_kind (inl failed) = read_counts (record lent { told = disk.told }) disk fault (subst (λ n. n < lent.files) (sym failed.of_file) there) (subst (λ n. ReadFailed n (record lent { told = disk.told }) disk fault) (sym failed.of_file) failed)
    by_kind (inr failed) = change_counts h.file lent disk fault there failed
  begin_counted changes seal.NoRoom within h = h

module _ (leaf : LinkedFile) (others : List LinkedFile) (name : List ℕ) (lent disk : StoreDisk) where
  -- and of its files
  pub record LeftMerged : Type 0 where
    pub written : ℕ → Bool
    pub may : (n : ℕ) → written n ≡ true → is_among (slice_index_or (names_of (leaf ∷ others)) n []) (changed_names false (Some name) (leaf ∷ others)) ≡ true
    pub changed : WhereBothTold (Changed written) lent.told disk.told

  pub left_none : disk.told ≡ lent.told → LeftMerged
  left_none same = record { written = λ n. false; may = λ n e. cc; changed = subst (WhereBothTold (Changed (λ n. false)) lent.told) (sym same) (all_kept lent.told) }
    where
      all_kept : (o : Option Trace) → WhereBothTold (Changed (λ n. false)) o o
      all_kept None = tt
      all_kept (Some t) = record { attached = refl; still = λ other apart. as_it_was }

  pub left_begun : (changes : ℕ → Bool) → ((n : ℕ) → changes n ≡ true → is_among (slice_index_or (names_of (leaf ∷ others)) n []) (changed_names false (Some name) (leaf ∷ others)) ≡ true) → EachOpensAlike (leaf ∷ others) lent.told disk.told
      → LeavesAllBut changes lent.told disk.told → LeftMerged
  left_begun changes may alike still = record {
    written = changes;
    may = may;
    changed = both_and (λ trace t. EachMoment (EachOpens (way_to leaf (leaf ∷ others) None) (λ s. false) (opening_disk trace (leaf ∷ others))) trace t) (λ trace t. (other : ℕ) → changes other ≡ false → file_of t other ≡ file_of trace other) (Changed changes) lent.told disk.told
        (λ trace t moments kept. record { attached = attached_since trace t moments.since; still = λ other apart. kept_same (file_of trace other) (file_of t other) (kept other apart) }) alike still;
  }

-- ---- a session that ran, by its scope

module _ (leaf : LinkedFile) (others : List LinkedFile) (name : List ℕ) where
  -- its scope: the files of the chain, those that it changes, and the names that stay
  abbrev pub scope_over : (ℕ → Bool) → List (List ℕ) → Scope
  scope_over changes staying = record { leaf = way_to leaf (leaf ∷ others) (Some name); geometry = leaf.parts.geometry; files = leaf ∷ others; changes = changes; staying = staying; of_leaf = is_leaf (leaf ∷ others) name }

  pub scope_changed : (changes : ℕ → Bool) (staying : List (List ℕ)) (lines : List Line) (told : List Told) (closed : Result (Unit {0}) StoreFault) (a b : Option Trace) → WhereBothTold (HasHistoryOver (scope_over changes staying) lines told closed) a b
      → WhereBothTold (Changed changes) a b
  scope_changed changes staying lines told closed a b h =
      both_from (HasHistoryOver (scope_over changes staying) lines told closed) (Changed changes) a b (λ trace t k. record { attached = attached_since trace t k.moments.since; still = λ other apart. kept_same (file_of trace other) (file_of t other) (k.still other apart) }) h

-- ---- over a host

module _ (retired : List (List ℕ)) (leaf : LinkedFile) (others : List LinkedFile) (old mid : Hosted) (lent : StoreDisk) (chain : WhereTold old.folder (IsChainIn (record { retired = retired; files = leaf ∷ others })))
    (lends : Lends (names_of (leaf ∷ others)) old mid lent) where
  abbrev trace_of : List Held → Trace
  trace_of f = attached_trace (names_of (leaf ∷ others)) f

  pub lent_told : (f : List Held) → old.folder ≡ Some f → lent.told ≡ Some (trace_of f)
  lent_told f told = ap (λ (d : StoreDisk). d.told) lends.disk_is ∙ ap (option_map (attached_trace (names_of (leaf ∷ others)))) told

  pub files_lent : lent.files ≡ length (leaf ∷ others)
  files_lent = ap (λ (d : StoreDisk). d.files) lends.disk_is ∙ length-map (leaf ∷ others) (λ (f : LinkedFile). f.name)

  -- what the store tells of a file is what the folder's stands for
  pub stands_in : (first : List LinkedFile) (file : LinkedFile) (rest : List LinkedFile) (n : ℕ) → n ≡ length first → leaf ∷ others ≡ first ++ file ∷ rest → (P : List ℕ → Type 0) → WhereTold lent.told (λ t. P (seen (file_of t n)))
      → WhereTold old.folder (λ f. StandsSo (contents f) file.name P)
  stands_in first file rest n is same P p f told =
      let at = subst (λ files. AreAt (trace_of f).attached 0 (attached_as f files)) same (each_at (trace_of f).attached) in
      let opened = subst (AreOpened (contents f)) same (chain f told).opened in
      stands_here (names_of (leaf ∷ others)) f file n (here (names_of (leaf ∷ others)) f first file rest 0 n (omega (arith, is)) at opened) P (p (trace_of f) (lent_told f told))

  -- the identifiers that the store's files show the folder's do
  pub shows_known : (known : List (List ℕ)) → WhereTold lent.told (λ trace. known ≡ shown_of trace 0 (leaf ∷ others)) → WhereTold old.folder (λ f. ShowIds (contents f) (leaf ∷ others) known)
  shows_known known shown_are f told =
      subst (ShowIds (contents f) (leaf ∷ others)) (sym (shown_are (trace_of f) (lent_told f told) ∙ same_shown (trace_of f) 0 (leaf ∷ others)))
      (shows_from (names_of (leaf ∷ others)) f 0 (leaf ∷ others) (each_at (trace_of f).attached) (chain f told).opened)

-- what is left of a script that wasn't run: of the store's files and counts; and why it wasn't
pub record LeavesMerge (retired : List (List ℕ)) (leaf : LinkedFile) (others : List LinkedFile) (folder : Option (List Held)) (lent disk : StoreDisk) (before after : Option (List (List ℕ))) (name : List ℕ) (x : StepsRefusal) : Type 0 where
  pub left : LeftMerged leaf others name lent disk
  pub counted : Counted lent disk (meaning_of_steps x)
  pub cause : HasMergeCauseOf (is_leaf (leaf ∷ others) name) (record { retired = retired; files = leaf ∷ others }) name folder before after x
  pub kept : (disk.told ≡ lent.told) ⊎ EachOpensAlike (leaf ∷ others) lent.told disk.told

-- ---- and over the host that has the files again

module _ (retired : List (List ℕ)) (leaf : LinkedFile) (others : List LinkedFile) (old mid now : Hosted) (lent disk : StoreDisk) (idle : WhereTold old.folder AllIdle) (served : All IsServed (leaf ∷ others))
    (once : NoneTwice (retired ++ names_of (leaf ∷ others))) (chain : WhereTold old.folder (IsChainIn (record { retired = retired; files = leaf ∷ others }))) (lends : Lends (names_of (leaf ∷ others)) old mid lent)
    (back_is : WhereTold disk.told (λ trace. now.folder ≡ option_map (given_back trace) mid.folder)) (past_is : KeepsStore disk mid now) (count : RoseWhere (HasFailed disk) mid.faults now.faults) (before after : Option (List (List ℕ))) (name : List ℕ) where
  abbrev pub M : Linked
  M = record { retired = retired; files = leaf ∷ others }

  abbrev traced : List Held → Trace
  traced f = attached_trace (names_of (leaf ∷ others)) f

  -- ---- at rest, by the scope

  module _ (changes : ℕ → Bool) (staying : List (List ℕ)) (may : (n : ℕ) → changes n ≡ true → is_among (slice_index_or (names_of (leaf ∷ others)) n []) (changed_names false (Some name) (leaf ∷ others)) ≡ true) (became : WhereBothTold (Changed changes) lent.told disk.told)
      (f : List Held) (told : old.folder ≡ Some f) (history : History) where
    abbrev pub later : Trace
    later = (now_told retired leaf others old mid lent idle once chain lends disk Guests (Some name) changes may became f told).0

    abbrev pub EndsAtRest : Type 0
    EndsAtRest = IsAtRestOver (scope_over leaf others name changes staying) (scoped.drive_over (scope_over leaf others name changes staying) (traced f)) history later

    module _ (a : EndsAtRest) where
      pub scope_rests : Rests M history f old now
      scope_rests = rests retired leaf others old mid lent idle once chain lends disk Guests (Some name) changes may became now back_is past_is count f told history a.synced a.opens

      pub scope_unlogged : ((t : Trace) → ((n : ℕ) → changes n ≡ true → NamesNoLog (seen (file_of t n))) → AllByRecursion (IsUnlogged (leaf ∷ others) t) (changed_names false (Some name) (leaf ∷ others)))
          → WhereTold now.folder (NoneNamesLog (changed_names false (Some name) (leaf ∷ others)))
      scope_unlogged ended_all = unlogged retired leaf others old mid lent idle once chain lends disk Guests (Some name) changes may became now back_is past_is count f told (changed_names false (Some name) (leaf ∷ others)) (ended_all _ a.no_log)

      pub scope_stays : EachLinks leaf.name (names_of (leaf ∷ others)) later → WhereTold now.folder (λ after. LeadsTo (files_of after) (leaf_name M) (names_of (leaf ∷ others)))
      scope_stays links = leads retired leaf others old mid lent idle once chain lends disk Guests (Some name) changes may became now back_is past_is count f told history (names_of (leaf ∷ others)) a.synced a.opens links

      pub scope_dropped : AreLeft (leaf ∷ others) name staying → EachLinks leaf.name staying later → IsDropped (leaf_name M) M now name
      scope_dropped left links = record {
        left = staying;
        are_left = left;
        leads = leads retired leaf others old mid lent idle once chain lends disk Guests (Some name) changes may became now back_is past_is count f told history staying a.synced a.opens links;
        follows = λ is. subst (λ n. WhereTold now.folder (λ after. LeadsTo (files_of after) n staying)) (leaf_named leaf others name is)
            (first_leads retired leaf others old mid lent idle once chain lends disk Guests (Some name) changes may became now back_is past_is count f told history staying a.synced a.opens links);
      }

  module _ (changes : ℕ → Bool) (staying : List (List ℕ)) (may : (n : ℕ) → changes n ≡ true → is_among (slice_index_or (names_of (leaf ∷ others)) n []) (changed_names false (Some name) (leaf ∷ others)) ≡ true) (left : AreLeft (leaf ∷ others) name staying)
      (many : ℕ) (lines : List Line) (told_all : List Told) (run : ScriptRun) (past : WhereBothTold (HasHistoryOver (scope_over leaf others name changes staying) (take many lines) told_all run.closed) lent.told disk.told)
      (told_faults : FaultsAreTold told_all (failed_by run.closed) lent.files lent.failed_changes disk.failed_reads disk.failed_changes)
      (ended_all : (t : Trace) → ((n : ℕ) → changes n ≡ true → NamesNoLog (seen (file_of t n))) → AllByRecursion (IsUnlogged (leaf ∷ others) t) (changed_names false (Some name) (leaf ∷ others))) where
    abbrev became : WhereBothTold (Changed changes) lent.told disk.told
    became = scope_changed leaf others name changes staying (take many lines) told_all run.closed lent.told disk.told past

    abbrev scope : Scope
    scope = scope_over leaf others name changes staying

    ran_in : (f : List Held) (told : old.folder ≡ Some f) → RanIn Guests (Some name) M (take many lines) told_all run.closed f old now
    ran_in f told =
        let b = both_told (HasHistoryOver scope (take many lines) told_all run.closed) lent.told disk.told (traced f) (lent_told retired leaf others old mid lent chain lends f told) past in
        let t = now_told retired leaf others old mid lent idle once chain lends disk Guests (Some name) changes may became f told in
        let k = subst (HasHistoryOver scope (take many lines) told_all run.closed (traced f)) (same_Some b.0 t.0 (sym b.1 ∙ t.1)) b.2 in
        record {
          history = k.history;
          course = k.course;
          broken = k.broken;
          told_so = λ d opens.
              subst (λ drive. AreTold drive 1 [] (just_started (is_leaf (leaf ∷ others) name)) None (take many lines) told_all k.history k.course k.broken)
              (drive_is Guests retired leaf others old mid now lent disk idle served once chain lends back_is past_is count before after (Some name) changes may f told d opens) k.told_so;
          stands = stands retired leaf others old mid lent idle once chain lends disk Guests (Some name) changes may became now back_is past_is count f told k.history k.broken k.moments (λ reading. cc) k.last;
          full = full_ends retired leaf others old mid lent idle once chain lends disk Guests (Some name) changes may became now back_is past_is count f told changes (changed_names false (Some name) (leaf ∷ others)) may told_all k.full;
          faults = last_returned retired leaf others old mid lent idle once chain lends disk Guests (Some name) changes may became now back_is past_is count f told
              (λ store. FaultsAreTold told_all (failed_by run.closed) (length (leaf ∷ others)) (λ file. 0) store.failed_reads store.failed_changes)
              (λ trace rest. lent_faults Guests retired leaf others old mid now lent disk idle served once chain lends back_is past_is count before after (Some name) changes may told_all (failed_by run.closed) told_faults);
          rests = rests_as k.history run.closed k.at_rest;
          no_log = no_log_as k.history run.closed k.at_rest;
          dropped = dropped_as k.history k.course run.closed k.at_rest k.linked;
          stays = stays_as k.history k.course run.closed k.at_rest k.stays;
        }
      where
        rests_as : (history : History) (closed : Result (Unit {0}) StoreFault) → OnOk closed (EndsAtRest changes staying may became f told history) → OnOk closed (Rests M history f old now)
        rests_as history (Ok done) a = scope_rests changes staying may became f told history a
        rests_as history (Err fault) a = tt

        no_log_as : (history : History) (closed : Result (Unit {0}) StoreFault) → OnOk closed (EndsAtRest changes staying may became f told history) → OnOk closed (WhereTold now.folder (NoneNamesLog (changed_names false (Some name) (leaf ∷ others))))
        no_log_as history (Ok done) a = scope_unlogged changes staying may became f told history a ended_all
        no_log_as history (Err fault) a = tt

        stays_as : (history : History) (course : Course) (closed : Result (Unit {0}) StoreFault) → OnOk closed (EndsAtRest changes staying may became f told history)
            → (course ≢ no_merge → OnOk closed (EachLinks leaf.name (names_of (leaf ∷ others)) (later changes staying may became f told history)))
            → OnOk closed (course ≢ no_merge → WhereTold now.folder (λ after. LeadsTo (files_of after) (leaf_name M) (names_of (leaf ∷ others))))
        stays_as history course (Err fault) a links = tt
        stays_as history course (Ok done) a links = λ some. scope_stays changes staying may became f told history a (links some)

        dropped_as : (history : History) (course : Course) (closed : Result (Unit {0}) StoreFault) → OnOk closed (EndsAtRest changes staying may became f told history)
            → (course ≡ no_merge → OnOk closed (EachLinks leaf.name staying (later changes staying may became f told history))) → OnOk closed (course ≡ no_merge → IsDropped (leaf_name M) M now name)
        dropped_as history course (Err fault) a links = tt
        dropped_as history course (Ok done) a links = λ ended. scope_dropped changes staying may became f told history a left (links ended)

    pub scope_ran : (whole : IfOk run.transcript (λ text. (take many lines ≡ lines) × (string_bytes text ≡ transcript (names_of (leaf ∷ others)) lines told_all) × AllByRecursion HasMemory told_all)) → run.fault ≡ last_fault told_all → IfSome run.fault (Counts disk) → IfErr run.closed (Counts disk)
        → (run.fault ≡ None → OnOk run.closed (disk ≡ record lent { told = disk.told })) → JudgesMergeOf (is_leaf (leaf ∷ others) name) M name old.folder before after None → RunOver Guests (Some name) M lines run old now before after
    scope_ran whole fault_is counted ended quiet drawn = record {
      many = many;
      told = told_all;
      whole = whole;
      fault_is = fault_is;
      drawn = drawn;
      counted = if_some Guests retired leaf others old mid now lent disk idle served once chain lends back_is past_is count before after (Some name) changes may became run.fault counted;
      ended = if_err Guests retired leaf others old mid now lent disk idle served once chain lends back_is past_is count before after (Some name) changes may became run.closed ended;
      quiet = λ none. on_ok Guests retired leaf others old mid now lent disk idle served once chain lends back_is past_is count before after (Some name) changes may became run.closed (quiet none);
      ran = ran_in;
    }

  module _ (x : StepsRefusal) (h : LeavesMerge retired leaf others old.folder lent disk before after name x) where
    abbrev left : LeftMerged leaf others name lent disk
    left = h.left

    counts_by : (m : Meaning Refusal) → Counted lent disk m → CountsRefusal old now m
    counts_by (refuses r) same = quiet_now Guests retired leaf others old mid now lent disk idle served once chain lends back_is past_is count before after (Some name) left.written left.may left.changed (as_told lent disk same)
    counts_by (host_failed fault) c = absurd c
    counts_by (store_failed fault) c = counted_back Guests retired leaf others old mid now lent disk idle served once chain lends back_is past_is count before after (Some name) left.written left.may left.changed fault c
    counts_by no_memory same = quiet_now Guests retired leaf others old mid now lent disk idle served once chain lends back_is past_is count before after (Some name) left.written left.may left.changed same

    rests_by : (m : Meaning Refusal) → Counted lent disk m → UnlessStore m (UnlessMerging (Some name) m (WhereTold old.folder (λ f. Rests M [] f old now)))
    rests_by (refuses r) same =
        λ f told. rests_by_same Guests retired leaf others old mid now lent disk idle served once chain lends back_is past_is count before after (Some name) left.written left.may left.changed f told same
    rests_by (host_failed fault) c = absurd c
    rests_by (store_failed fault) c = tt
    rests_by no_memory same = tt

    unchanged_by : (m : Meaning Refusal) → Counted lent disk m → IfRule m (StaysAsItWas old.folder now.folder)
    unchanged_by (refuses r) is_lent =
        λ f told. unchanged_by_same Guests retired leaf others old mid now lent disk idle served once chain lends back_is past_is count before after (Some name) left.written left.may left.changed f told is_lent
    unchanged_by (host_failed fault) c = absurd c
    unchanged_by (store_failed fault) c = tt
    unchanged_by no_memory c = tt

    pub not_merged : NotRunOver Guests (Some name) M old now before after x
    not_merged = record {
      counts = counts_by (meaning_of_steps x) h.counted;
      cause = h.cause;
      undrawn = λ reading. cc;
      unchanged = unchanged_by (meaning_of_steps x) h.counted;
      stands = λ f told.
          stands_by Guests retired leaf others old mid now lent disk idle served once chain lends back_is past_is count before after (Some name) left.written left.may left.changed f told (λ reading. cc) h.kept;
      rests = rests_by (meaning_of_steps x) h.counted;
    }
