-- A script's session over a chain's files: from what the store's session leaves to what the host is left with.
use Rattle.std.proofs.Common.{◌≡◌, ◌≢◌, ◌⊎◌, ◌==◌, ℕ, zero, suc, ◌+◌, ◌<◌, Bool, true, false, List, [], ◌∷◌, ◌++◌, length, take, Option, Some, None, Result, Ok, Err, refl, sym, ap, subst, ◌∙◌, arith, inl, inr}
use Rattle.std.specs.Prelude.{All, IfErr, IfOk, IfSome, OnOk, not, option_map, slice_index_or}
use Rattle.std.specs.Str.{bytes_eq}
use Rattle.std.proofs.lemmas.List.{length-map}
use Rattle.std.proofs.lemmas.Bool.{ne_eqb, or_left}
use Rattle.std.proofs.lemmas.Option.{same_Some}
use Rattle.store_model.proofs.Told.{both_from}
use Rattle.file_open.specs.Causes.{Meaning, refuses, host_failed, store_failed, no_memory}
use Rattle.shown_ids.specs.Shown.{shown}
use Rattle.store_model.specs.Cause.{Rose}
use Rattle.store_model.specs.File.{is_synced, seen}
use Rattle.store_model.specs.Disk.{Disk as StoreDisk, ReadFailed, WhereBothTold, WhereTold}
use Rattle.store_model.specs.Folder.{AreAway, HasFailed, Held, Hosted, KeepsStore, RoseWhere, attached_trace, given_back}
use Rattle.store_model.specs.Plans.{FailsToChange}
use Rattle.store_model.specs.Trace.{EachMoment, Trace, file_of}
use Rattle.store_model.specs.declared.fault.SealFault.TheVariants as seal
use Rattle.store_model.specs.declared.fault.StoreFault.{StoreFault}
use Rattle.store_model.specs.Moments.{IsHealthy}
use Rattle.store_model.proofs.Throughout.{returned_none}
use Rattle.vhdx_format.specs.Fields.{sector_size}
use Rattle.vx_base.specs.declared.parts.Geometry.{Geometry}
use Rattle.guest_model.specs.Calls.{Disk}
use Rattle.guest_model.specs.History.{History, replay}
use Rattle.chain_model.specs.Files.{OpensTo}
use Rattle.chain_model.specs.Members.{NoneTwice, disk_of, Way}
use Rattle.chain_model.specs.Moments.{EachOpens, EachOpensToPrefix}
use Rattle.link_rules.specs.Chains.{is_among, names_of}
use Rattle.link_rules.specs.Effects.{IsServed}
use Rattle.link_rules.specs.Folders.{AllIdle, contents}
use Rattle.link_rules.specs.Lines.{IsLine}
use Rattle.link_rules.specs.declared.linked.Linked.{Linked}
use Rattle.link_rules.specs.declared.linked.LinkedFile.{LinkedFile}
use Rattle.layer_session.specs.ReadOnly.{SomeReadFailed}
use Rattle.log_write.specs.Writing.{BeginFails}
use Rattle.merge_plan.specs.Attached.{shown_from as shown_of}
use Rattle.chain_core.specs.Starting.{BeginsLow, EachOpensAlike, JudgesIds, LeavesOthersFrom, RefusesReading, RefusesSession, RefusesStart, opening_disk, way_to}
use Rattle.chain_core.specs.declared.starting.Mode.{Mode}
use Rattle.chain_core.specs.declared.starting.Mode.TheVariants.{Guests, ReadOnly}
use Rattle.merge_plan.specs.declared.drawing.NewIds.{NewIds}
use Rattle.chain_core.specs.declared.starting.StartRefusal.{StartRefusal}
use Rattle.chain_core.specs.declared.starting.StartRefusal.TheVariants as start
use Rattle.script.specs.declared.form.Line.{Line}
use Rattle.script_session.specs.Faults.{Counts, FaultsAreTold}
use Rattle.script_session.specs.Histories.{AreTold, Course, no_merge}
use Rattle.script_session.specs.Running.{DrawsFor, HasHistory, IsAtRest, HasRunScript, HaveHistory, can_change, drive_of, open_by, open_last}
use Rattle.script_session.specs.Told.{Told, failed_by}
use Rattle.script_session.proofs.Telling.{last_moment}
use Rattle.script_session.specs.declared.session.ScriptRun.{ScriptRun}
use Rattle.chain_core.specs.Sealed.{as_it_was}
use Rattle.steps_command.proofs.Sparing.{kept_same}
use Rattle.command_base.specs.Causes.{LeavesStoreBy, meaning_of_chain}
use Rattle.command_base.specs.Commands.{Lends, LendsNone, shown_from}
use Rattle.command_base.specs.Folders.{LeadsTo, files_of}
use Rattle.command_base.specs.Making.{ShowIds}
use Rattle.command_base.specs.Refusals.{Refusal}
use Rattle.steps_command.specs.Sessions.{CountsRefusal, HasCause, HasCauseIn, HasLeafCause, HasMergeCauseOf, HasNotRun, IfRule, IsChainIn, IsCounted, IsNoRule, LeavesLent, NotRunOver, RanIn, Rests, RunOver, Stands, StaysAsItWas, UnlessMerging, UnlessStore, is_reading, leaf_name, meaning_of_steps, of_start}
use Rattle.steps_command.specs.Crashes.{NoneNamesLog}
use Rattle.steps_command.specs.Starts.{DrawsFor as Draws, JudgesDrawn, changed_names, is_leaf}
use Rattle.steps_command.specs.Steps.{IsDropped, begun_course, drive_over}
use Rattle.command_base.specs.declared.refusal.ChainRefusal.{ChainRefusal}
use Rattle.steps_command.specs.declared.refusal.StepsRefusal.{StepsRefusal}
use Rattle.steps_command.specs.declared.refusal.StepsRefusal.TheVariants as steps
use Rattle.command_base.proofs.Back.{shows_from}
use Rattle.command_base.proofs.Followed.{disk_sectors}
use Rattle.command_base.proofs.Lent.{each_at, is_itself}
use Rattle.steps_command.proofs.Ran.{Changed, back_requires, both_told, full_ends, last_counts, last_returned, now_told, quiet_back, rests, same_contents, stands, still_rests, still_stands, unchanged_rests, unchanged_stands, unlogged, widen_by}
use Rattle.steps_command.proofs.Unlogged.{unlogged_one}
use Rattle.steps_command.proofs.Serving.{opening_is, same_disk}
use Rattle.steps_command.proofs.Sparing.{attached_since}

pub unless_merging : {R : Type 0} (merge : Option (List ℕ)) (m : Meaning R) (P : Type 0) → P → UnlessMerging merge m P
unless_merging None m P p = p
unless_merging (Some name) (refuses x) P p = p
unless_merging (Some name) (host_failed fault) P p = p
unless_merging (Some name) (store_failed fault) P p = p
unless_merging (Some name) no_memory P p = tt

-- ---- why a session doesn't start

all_still : (o : Option Trace) → WhereBothTold (λ trace now. (other : ℕ) → other ≢ 0 → file_of now other ≡ file_of trace other) o o
all_still None = tt
all_still (Some t) = λ other apart. refl

still_as : (old new : Option Trace) → new ≡ old → WhereBothTold (λ trace now. (other : ℕ) → other ≢ 0 → file_of now other ≡ file_of trace other) old new
still_as old new same = subst (WhereBothTold (λ trace now. (other : ℕ) → other ≢ 0 → file_of now other ≡ file_of trace other) old) (sym same) (all_still old)

pub read_counts : (old new : StoreDisk) (fault : StoreFault) → fault.file < old.files → ReadFailed fault.file old new fault → Counts new fault
read_counts old new fault there failed = record {
  within = subst (λ n. fault.file < n) (sym (ap (λ (d : StoreDisk). d.files) failed.stays)) there;
  some = omega (arith, failed.count.told, failed.count.rose.risen);
  counted = inl failed.count.told;
}

pub change_counts : (file : ℕ) (old new : StoreDisk) (fault : StoreFault) → file < old.files → FailsToChange file old new fault → Counts new fault
change_counts file old new fault there failed = record {
  within = subst (λ n. n < new.files) (sym failed.of_file) (subst (λ n. file < n) (sym (ap (λ (d : StoreDisk). d.files) failed.stays)) there);
  some = omega (arith, failed.count.told, failed.count.rose.risen);
  counted = inr (failed.count.told ∙ ap new.failed_changes (sym failed.of_file));
}

-- reads of the files' lengths
module _ (mode : Mode) (files : List LinkedFile) (old new : StoreDisk) (drawn : Option (List (List ℕ))) (r : ChainRefusal) (h : LeavesStoreBy old new (meaning_of_chain r)) where
  pub left_lent : (m : Meaning Refusal) → LeavesStoreBy old new m → LeavesLent old new m × IsNoRule m × (new.told ≡ old.told)
  left_lent (refuses x) l = absurd l
  left_lent (host_failed fault) l = absurd l
  left_lent (store_failed fault) l = (read_counts old new fault l.0 l.1, tt, ap (λ (d : StoreDisk). d.told) l.1.stays)
  left_lent no_memory l = (l, tt, ap (λ (d : StoreDisk). d.told) l)

  pub too_long : HasNotRun mode files old new drawn drawn (steps.Chain r)
  too_long =
      let l = left_lent (meaning_of_chain r) h in
      record { left = l.0; cause = l.1; kept = inl l.2; still = still_as old.told new.told l.2; reading = λ reading. (l.2, refl) }

-- a start that is refused
module _ (files : List LinkedFile) (old new : StoreDisk) (before now : Option (List (List ℕ))) (some : 0 < old.files) (alike : EachOpensAlike files old.told new.told) (still : LeavesOthersFrom old.told new.told) where
  store_counts : (fault : StoreFault) → SomeReadFailed old new fault ⊎ BeginFails 0 old new (seal.Store fault) → Counts new fault
  store_counts fault (inl h) = read_counts old new fault h.0 h.1
  store_counts fault (inr (inl h)) = read_counts old new fault (subst (λ n. n < old.files) (sym h.of_file) some) (subst (λ n. ReadFailed n old new fault) (sym h.of_file) h)
  store_counts fault (inr (inr h)) = change_counts 0 old new fault some h

  guests_refused : (r : StartRefusal) → RefusesSession files old new before now r → HasNotRun Guests files old new before now (of_start r)
  guests_refused (start.IdUnfit id) h = record { left = h.1.1; cause = (h.0, h.1.0.0, h.1.0.1); kept = inr alike; still = still; reading = λ e. cc }
  guests_refused (start.Spent number) h = record { left = h.2; cause = (h.0, h.1); kept = inr alike; still = still; reading = λ e. cc }
  guests_refused (start.Store fault) h = record { left = store_counts fault h.1.1; cause = tt; kept = inr alike; still = still; reading = λ e. cc }
  guests_refused start.NoRoom h = record { left = h.1.1; cause = tt; kept = inr alike; still = still; reading = λ e. cc }

  reading_refused : (r : StartRefusal) → RefusesReading old new before now r → HasNotRun ReadOnly files old new before now (of_start r)
  reading_refused (start.IdUnfit id) h = absurd h
  reading_refused (start.Spent number) h = absurd h
  reading_refused (start.Store fault) h = absurd h
  reading_refused start.NoRoom h = record { left = h.1; cause = tt; kept = inr alike; still = still; reading = λ e. (ap (λ (d : StoreDisk). d.told) h.1, h.0) }

  pub start_refused : (mode : Mode) (r : StartRefusal) → RefusesStart mode files old new before now r → HasNotRun mode files old new before now (of_start r)
  start_refused Guests r h = guests_refused r h
  start_refused ReadOnly r h = reading_refused r h

-- ---- the store comes back

pub both_and : {T : Type 0} (P Q R : T → T → Type 0) (a b : Option T) → ((x y : T) → P x y → Q x y → R x y) → WhereBothTold P a b → WhereBothTold Q a b → WhereBothTold R a b
both_and P Q R None None f h k = tt
both_and P Q R None (Some y) f h k = absurd h
both_and P Q R (Some x) None f h k = absurd h
both_and P Q R (Some x) (Some y) f h k = f x y h k

-- of a session without a merge only the first file is changed
pub not_first : (other : ℕ) → (other == 0) ≡ false → other ≢ 0
not_first other apart is = let never : (other == 0) ≡ true = ap (λ n. n == 0) is in cc

-- and none where they are only read
abbrev pub written_in : Mode → ℕ → Bool
written_in Guests n = n == 0
written_in ReadOnly n = false

changed_none : (mode : Mode) (o : Option Trace) → WhereBothTold (Changed (written_in mode)) o o
changed_none mode None = tt
changed_none mode (Some t) = record { attached = refl; still = λ other apart. as_it_was }

-- what a session that ran changes
pub changed_run : (mode : Mode) (leaf : LinkedFile) (others : List LinkedFile) (lines : List Line) (told : List Told) (closed : Result (Unit {0}) StoreFault) (a b : Option Trace) → WhereBothTold (HaveHistory mode (leaf ∷ others) lines told closed) a b
    → WhereBothTold (Changed (written_in mode)) a b
changed_run mode leaf others lines told closed a b h =
    both_from (HaveHistory mode (leaf ∷ others) lines told closed) (Changed (written_in mode)) a b (λ trace now k. record { attached = attached_since trace now k.moments.since; still = λ other apart. kept_same (file_of trace other) (file_of now other) (still_in mode trace now other k.still k.unchanged apart) }) h
  where
    still_in : (mode : Mode) (trace now : Trace) (other : ℕ) → ((n : ℕ) → n ≢ 0 → file_of now n ≡ file_of trace n) → (can_change mode ≡ false → now ≡ trace) → written_in mode other ≡ false → file_of now other ≡ file_of trace other
    still_in Guests trace now other still same apart = still other (not_first other apart)
    still_in ReadOnly trace now other still same apart = ap (λ t. file_of t other) (same refl)

-- and one that didn't start
pub changed_none_run : (mode : Mode) (leaf : LinkedFile) (others : List LinkedFile) (a b : Option Trace) → (b ≡ a) ⊎ EachOpensAlike (leaf ∷ others) a b → LeavesOthersFrom a b → (is_reading mode ≡ true → b ≡ a) → WhereBothTold (Changed (written_in mode)) a b
changed_none_run mode leaf others a b (inl same) still read = subst (WhereBothTold (Changed (written_in mode)) a) (sym same) (changed_none mode a)
changed_none_run ReadOnly leaf others a b (inr alike) still read = subst (WhereBothTold (Changed (written_in ReadOnly)) a) (sym (read refl)) (changed_none ReadOnly a)
changed_none_run Guests leaf others a b (inr alike) still read =
    both_and (λ trace now. EachMoment (EachOpens (way_to leaf (leaf ∷ others) None) (λ s. false) (opening_disk trace (leaf ∷ others))) trace now) (λ trace now. (other : ℕ) → other ≢ 0 → file_of now other ≡ file_of trace other) (Changed (written_in Guests)) a b
    (λ trace now moments others_still. record { attached = attached_since trace now moments.since; still = λ other apart. kept_same (file_of trace other) (file_of now other) (others_still other (not_first other apart)) }) alike still

-- ---- what the host is left with

pub same_shown : (trace : Trace) (i : ℕ) (files : List LinkedFile) → shown_of trace i files ≡ shown_from i files trace
same_shown trace i [] = refl
same_shown trace i (file ∷ files) = ap (λ rest. shown file.parts (seen (file_of trace i)) ++ rest) (same_shown trace (i + 1) files)

module _ (mode : Mode) (retired : List (List ℕ)) (leaf : LinkedFile) (others : List LinkedFile) (old mid now : Hosted) (lent disk : StoreDisk) (idle : WhereTold old.folder AllIdle) (served : All IsServed (leaf ∷ others))
    (once : NoneTwice (retired ++ names_of (leaf ∷ others))) (chain : WhereTold old.folder (IsChainIn (record { retired = retired; files = leaf ∷ others }))) (lends : Lends (names_of (leaf ∷ others)) old mid lent)
    (back_is : WhereTold disk.told (λ trace. now.folder ≡ option_map (given_back trace) mid.folder)) (past_is : KeepsStore disk mid now) (count : RoseWhere (HasFailed disk) mid.faults now.faults) (before after : Option (List (List ℕ))) (merge : Option (List ℕ)) (written : ℕ → Bool)
    (may : (n : ℕ) → written n ≡ true → is_among (slice_index_or (names_of (leaf ∷ others)) n []) (changed_names (is_reading mode) merge (leaf ∷ others)) ≡ true) where
  abbrev pub L : Linked
  L = record { retired = retired; files = leaf ∷ others }

  abbrev pub trace_of : List Held → Trace
  trace_of f = attached_trace (names_of (leaf ∷ others)) f

  pub lent_told : (f : List Held) → old.folder ≡ Some f → lent.told ≡ Some (trace_of f)
  lent_told f told = ap (λ (d : StoreDisk). d.told) lends.disk_is ∙ ap (option_map (attached_trace (names_of (leaf ∷ others)))) told

  judged : (unfit : Option (List ℕ)) → BeginsLow (leaf ∷ others) → (ids : NewIds) → JudgesIds (leaf ∷ others) lent before after unfit ids → JudgesDrawn L old.folder before after unfit
  judged unfit low ids j = record {
    unspent = low;
    ids = ids;
    draws = j.draws;
    known = j.known;
    shown = λ f told.
        subst (ShowIds (contents f) (leaf ∷ others)) (sym (j.shown_are (trace_of f) (lent_told f told) ∙ same_shown (trace_of f) 0 (leaf ∷ others)))
        (shows_from (names_of (leaf ∷ others)) f 0 (leaf ∷ others) (each_at (trace_of f).attached) (chain f told).opened);
    judged = j.judged;
  }

  pub drawn_over : (m : Mode) → DrawsFor m (leaf ∷ others) lent before after → Draws (is_reading m) None L old.folder before after
  drawn_over Guests d = judged None d.0 d.1 d.2
  drawn_over ReadOnly d = d

  pub cause_by : (x : StepsRefusal) → HasCause (leaf ∷ others) lent before after x → HasLeafCause L old.folder before after x
  cause_by (steps.Chain x) c = c
  cause_by (steps.Spent number) c = c
  cause_by (steps.IdUnfit id) c = judged (Some id) c.0 c.1 c.2
  cause_by steps.ReadOnly c = absurd c
  cause_by (steps.NotInChain name) c = absurd c
  cause_by (steps.IsBase name) c = absurd c
  cause_by (steps.LocatorTooLarge len) c = absurd c
  cause_by (steps.MetadataFull file) c = absurd c

  -- the drive of the disk that was opened
  pub drive_is : (f : List Held) (told : old.folder ≡ Some f) (d : Disk) → OpensTo (files_of f) (leaf_name L) d → drive_of mode leaf others (trace_of f) ≡ drive_over (is_reading mode) d
  drive_is f told d opens =
      let c = chain f told in
      let same = same_disk retired leaf others f (idle f told) once c.opened (leaf_name L) c.chain d opens in
      let sectors : length d ≡ leaf.parts.geometry.sectors = ap length (same ∙ opened) ∙ disk_sectors c.chain.chain (leaf ∷ others) leaf.parts.geometry c.chain.members refl in
      let geometry : leaf.parts.geometry ≡ record { sector = sector_size; sectors = length d } = ap (λ z. record { sector = z; sectors = leaf.parts.geometry.sectors }) served_sector ∙ ap (λ n. record { sector = sector_size; sectors = n }) (sym sectors) in
      ap (λ (g : Geometry). record { geometry = g; can_change = can_change mode; opening = opening_disk (trace_of f) (leaf ∷ others) }) geometry
      ∙ ap (λ c. record { geometry = record { sector = sector_size; sectors = length d }; can_change = c; opening = opening_disk (trace_of f) (leaf ∷ others) }) (change_is mode)
      ∙ ap (λ o. record { geometry = record { sector = sector_size; sectors = length d }; can_change = not (is_reading mode); opening = o }) (sym same)
    where
      change_is : (m : Mode) → can_change m ≡ not (is_reading m)
      change_is Guests = refl
      change_is ReadOnly = refl

      served_sector : leaf.parts.geometry.sector ≡ sector_size
      served_sector = (served 0 leaf (omega arith)).sector

      opened : opening_disk (trace_of f) (leaf ∷ others) ≡ disk_of (chain f told).chain.chain
      opened = let c = chain f told in opening_is retired leaf others f (idle f told) once c.opened (leaf_name L) c.chain

  -- what was told of faults, of files of which none had failed
  pub lent_faults : (lines : List Told) (ended : Option StoreFault) → FaultsAreTold lines ended lent.files lent.failed_changes disk.failed_reads disk.failed_changes → FaultsAreTold lines ended (length (leaf ∷ others)) (λ file. 0) disk.failed_reads disk.failed_changes
  lent_faults lines ended h =
      subst (λ n. FaultsAreTold lines ended n (λ file. 0) disk.failed_reads disk.failed_changes) (ap (λ (d : StoreDisk). d.files) lends.disk_is ∙ length-map (leaf ∷ others) (λ (f : LinkedFile). f.name))
      (subst (λ (before : ℕ → ℕ). FaultsAreTold lines ended lent.files before disk.failed_reads disk.failed_changes) (ap (λ (d : StoreDisk). d.failed_changes) lends.disk_is) h)

  module _ (changed : WhereBothTold (Changed written) lent.told disk.told) where
    pub counted_back : (fault : StoreFault) → Counts disk fault → IsCounted old now fault
    counted_back fault c = record {
      rose = subst (λ n. Rose n now.faults) (ap (λ (h : Hosted). h.faults) lends.host_is) (count.some (fault.file, c.within, some_failed fault c.some c.counted));
      some = c.some;
      last = λ f told. last_counts retired leaf others old mid lent idle once chain lends disk mode merge written may changed now back_is past_is count f told fault c.counted;
    }
      where
        some_failed : (fault : StoreFault) → 0 < fault.count → (fault.count ≡ disk.failed_reads fault.file) ⊎ (fault.count ≡ disk.failed_changes fault.file) → disk.failed_reads fault.file + disk.failed_changes fault.file ≢ 0
        some_failed fault some (inl e) = λ none. omega (arith, some, e, none)
        some_failed fault some (inr e) = λ none. omega (arith, some, e, none)

    pub quiet_now : disk ≡ record lent { told = disk.told } → now.faults ≡ old.faults
    quiet_now same = quiet_back retired leaf others old mid lent idle once chain lends disk mode merge written may changed now back_is past_is count same

    pub if_some : (o : Option StoreFault) → IfSome o (Counts disk) → IfSome o (IsCounted old now)
    if_some None c = tt
    if_some (Some fault) c = counted_back fault c

    pub if_err : (r : Result (Unit {0}) StoreFault) → IfErr r (Counts disk) → IfErr r (IsCounted old now)
    if_err (Ok done) c = tt
    if_err (Err fault) c = counted_back fault c

    pub on_ok : (r : Result (Unit {0}) StoreFault) → OnOk r (disk ≡ record lent { told = disk.told }) → OnOk r (now.faults ≡ old.faults)
    on_ok (Ok done) same = quiet_now same
    on_ok (Err fault) same = tt

    -- ---- a session that ran

    module _ (lines : List Line) (run : ScriptRun) (h : HasRunScript mode (leaf ∷ others) (names_of (leaf ∷ others)) lines run lent disk before after) (first : (n : ℕ) → written n ≡ true → n ≡ 0)
        (own : (n : ℕ) → (n == 0) ≡ true → is_among (slice_index_or (names_of (leaf ∷ others)) n []) (changed_names false merge (leaf ∷ others)) ≡ true) (drawn : Draws (is_reading mode) merge L old.folder before after)
        (plain : begun_course merge (leaf ∷ others) ≡ no_merge) where
      reading_is : (m : Mode) → is_reading m ≡ true → can_change m ≡ false
      reading_is Guests e = cc
      reading_is ReadOnly e = refl

      -- there is no merge, so that nothing may be dropped
      unmerged : None ≡ merge
      unmerged = by_merge merge plain
        where
          by_merge : (m : Option (List ℕ)) → begun_course m (leaf ∷ others) ≡ no_merge → None ≡ m
          by_merge None same = refl
          by_merge (Some name) same = cc

      on_way : (P : Way → Type 0) → P (way_to leaf (leaf ∷ others) None) → P (way_to leaf (leaf ∷ others) merge)
      on_way P p = subst (λ m. P (way_to leaf (leaf ∷ others) m)) unmerged p

      ran_in : (f : List Held) (told : old.folder ≡ Some f) → RanIn mode merge L (take h.many lines) h.told run.closed f old now
      ran_in f told =
          let b = both_told (HaveHistory mode (leaf ∷ others) (take h.many lines) h.told run.closed) lent.told disk.told (trace_of f) (lent_told f told) h.history in
          let t = now_told retired leaf others old mid lent idle once chain lends disk mode merge written may changed f told in
          let k = subst (HasHistory mode leaf others (take h.many lines) h.told run.closed (trace_of f)) (same_Some b.0 t.0 (sym b.1 ∙ t.1)) b.2 in
          record {
            history = k.history;
            course = k.course;
            broken = k.broken;
            told_so = λ d opens.
                subst (λ c. AreTold (drive_over (is_reading mode) d) 1 [] c None (take h.many lines) h.told k.history k.course k.broken) (sym plain)
                (subst (λ drive. AreTold drive 1 [] no_merge None (take h.many lines) h.told k.history k.course k.broken) (drive_is f told d opens) k.told_so);
            stands = stands retired leaf others old mid lent idle once chain lends disk mode merge written may changed now back_is past_is count f told k.history k.broken
                (on_way (λ way. EachOpensToPrefix sector_size (opening_disk (trace_of f) (leaf ∷ others)) k.history (open_by k.broken) way (trace_of f) t.0) k.moments) (λ reading. k.unchanged (reading_is mode reading))
                (on_way (λ way. EachOpens way (open_last k.history k.broken) (replay sector_size (opening_disk (trace_of f) (leaf ∷ others)) k.history) t.0) k.last);
            full = full_ends retired leaf others old mid lent idle once chain lends disk mode merge written may changed now back_is past_is count f told (λ n. n == 0) (changed_names false merge (leaf ∷ others)) own h.told k.full;
            faults = last_returned retired leaf others old mid lent idle once chain lends disk mode merge written may changed now back_is past_is count f told
                (λ store. FaultsAreTold h.told (failed_by run.closed) (length (leaf ∷ others)) (λ file. 0) store.failed_reads store.failed_changes) (λ trace rest. lent_faults h.told (failed_by run.closed) h.faults);
            rests = rests_by k.history run.closed k.at_rest;
            no_log = no_log_by mode refl merge plain k.history run.closed k.at_rest;
            dropped = none_dropped merge plain run.closed k.course;
            stays = none_stays merge plain run.closed k.course;
          }
        where
          none_dropped : (merge : Option (List ℕ)) → begun_course merge (leaf ∷ others) ≡ no_merge → (closed : Result (Unit {0}) StoreFault) (course : Course) → OnOk closed (course ≡ no_merge → IfSome merge (IsDropped (leaf_name L) L now))
          none_dropped None plain (Ok done) course = λ ended. tt
          none_dropped None plain (Err fault) course = tt
          none_dropped (Some name) plain closed course = cc

          none_stays : (merge : Option (List ℕ)) → begun_course merge (leaf ∷ others) ≡ no_merge → (closed : Result (Unit {0}) StoreFault) (course : Course)
              → OnOk closed (course ≢ no_merge → IfSome merge (λ name. WhereTold now.folder (λ after. LeadsTo (files_of after) (leaf_name L) (names_of (leaf ∷ others)))))
          none_stays None plain (Ok done) course = λ some. tt
          none_stays None plain (Err fault) course = tt
          none_stays (Some name) plain closed course = cc

          no_log_by : (m : Mode) → m ≡ mode → (k : Option (List ℕ)) → begun_course k (leaf ∷ others) ≡ no_merge → (history : History) (closed : Result (Unit {0}) StoreFault) → OnOk closed (IsAtRest (way_to leaf (leaf ∷ others) None) (drive_of mode leaf others (trace_of f)) history (now_told retired leaf others old mid lent idle once chain lends disk mode merge written may changed f told).0)
              → OnOk closed (WhereTold now.folder (NoneNamesLog (changed_names (is_reading m) k (leaf ∷ others))))
          no_log_by m is k plain history (Err fault) a = tt
          no_log_by ReadOnly is k plain history (Ok done) a = λ g known. tt
          no_log_by Guests is None plain history (Ok done) a =
              unlogged retired leaf others old mid lent idle once chain lends disk mode merge written may changed now back_is past_is count f told (leaf.name ∷ []) (unlogged_one leaf others _ (a.no_log (ap can_change (sym is))))
          no_log_by Guests is (Some name) plain history (Ok done) a = cc

          rests_by : (history : History) (closed : Result (Unit {0}) StoreFault) → OnOk closed (IsAtRest (way_to leaf (leaf ∷ others) None) (drive_of mode leaf others (trace_of f)) history (now_told retired leaf others old mid lent idle once chain lends disk mode merge written may changed f told).0)
              → OnOk closed (Rests L history f old now)
          rests_by history (Ok done) a = rests retired leaf others old mid lent idle once chain lends disk mode merge written may changed now back_is past_is count f told history (λ n e. subst (λ x. is_synced (file_of (now_told retired leaf others old mid lent idle once chain lends disk mode merge written may changed f told).0 x) ≡ true) (sym (first n e)) a.synced)
              (on_way (λ way. EachOpens way (λ s. false) (replay sector_size (opening_disk (trace_of f) (leaf ∷ others)) history) (now_told retired leaf others old mid lent idle once chain lends disk mode merge written may changed f told).0) a.opens)
          rests_by history (Err fault) a = tt

      run_over_files : RunOver mode merge L lines run old now before after
      run_over_files = record {
        many = h.many;
        told = h.told;
        whole = h.whole;
        fault_is = h.fault_is;
        drawn = drawn;
        counted = if_some run.fault h.counted;
        ended = if_err run.closed h.ended;
        quiet = λ none. on_ok run.closed (h.quiet none);
        ran = ran_in;
      }

    -- ---- where the files open alike

    module _ (f : List Held) (told : old.folder ≡ Some f) where
      pub told_same : disk.told ≡ lent.told → (now_told retired leaf others old mid lent idle once chain lends disk mode merge written may changed f told).0 ≡ trace_of f
      told_same same =
          let t = now_told retired leaf others old mid lent idle once chain lends disk mode merge written may changed f told in
          same_Some t.0 (trace_of f) (sym t.1 ∙ same ∙ lent_told f told)

      pub stands_by : (is_reading mode ≡ true → disk.told ≡ lent.told) → (disk.told ≡ lent.told) ⊎ EachOpensAlike (leaf ∷ others) lent.told disk.told → Stands mode merge L [] None f old now
      stands_by reading (inl same) = unchanged_stands retired leaf others old mid lent idle once chain lends disk mode merge written may changed now back_is past_is count f told (told_same same)
      stands_by reading (inr alike) =
          let b = both_told (λ trace t. EachMoment (EachOpens (way_to leaf (leaf ∷ others) None) (λ s. false) (opening_disk trace (leaf ∷ others))) trace t) lent.told disk.told (trace_of f) (lent_told f told) alike in
          let t = now_told retired leaf others old mid lent idle once chain lends disk mode merge written may changed f told in
          let past = subst (λ x. EachMoment (EachOpens (way_to leaf (leaf ∷ others) None) (λ s. false) (opening_disk (trace_of f) (leaf ∷ others))) (trace_of f) x) (same_Some b.0 t.0 (sym b.1 ∙ t.1)) b.2 in
          stands retired leaf others old mid lent idle once chain lends disk mode merge written may changed now back_is past_is count f told [] None (none_done past) (λ read. told_same (reading read)) (widen_by (way_to leaf (leaf ∷ others) None) merge (open_last [] None) (opening_disk (trace_of f) (leaf ∷ others)) t.0 refl (last_moment _ (trace_of f) t.0 past))
        where
          none_done : {t : Trace} → EachMoment (EachOpens (way_to leaf (leaf ∷ others) None) (λ s. false) (opening_disk (trace_of f) (leaf ∷ others))) (trace_of f) t → EachOpensToPrefix sector_size (opening_disk (trace_of f) (leaf ∷ others)) [] (open_by None) (way_to leaf (leaf ∷ others) merge) (trace_of f) t
          none_done past = record { later = past.later; since = past.since; each = λ k from to. record { m = 0; within = omega arith; opens = widen_by (way_to leaf (leaf ∷ others) None) merge _ (opening_disk (trace_of f) (leaf ∷ others)) _ refl (past.each k from to) } }

      pub rests_by_same : disk ≡ lent → Rests L [] f old now
      rests_by_same same = unchanged_rests retired leaf others old mid lent idle once chain lends disk mode merge written may changed now back_is past_is count f told (told_same (ap (λ (d : StoreDisk). d.told) same))

      pub unchanged_by_same : disk ≡ lent → WhereTold now.folder (λ after. (name : List ℕ) → contents after name ≡ contents f name)
      unchanged_by_same same =
          same_contents retired leaf others old mid lent idle once chain lends disk mode merge written may changed now back_is past_is count f told (told_same (ap (λ (d : StoreDisk). d.told) same))

    -- ---- one that didn't start

    module _ (r : StepsRefusal) (h : HasNotRun mode (leaf ∷ others) lent disk before after r) (cause : HasCauseIn mode merge L old.folder before after r) where
      counts_by : (m : Meaning Refusal) → LeavesLent lent disk m → CountsRefusal old now m
      counts_by (refuses x) same = quiet_now (same_told same)
        where
          same_told : disk ≡ lent → disk ≡ record lent { told = disk.told }
          same_told e = subst (λ d. d ≡ record lent { told = d.told }) (sym e) refl
      counts_by (host_failed fault) l = absurd l
      counts_by (store_failed fault) c = counted_back fault c
      counts_by no_memory same = quiet_now (same_told same)
        where
          same_told : disk ≡ lent → disk ≡ record lent { told = disk.told }
          same_told e = subst (λ d. d ≡ record lent { told = d.told }) (sym e) refl

      rests_by : (m : Meaning Refusal) → LeavesLent lent disk m → UnlessStore m (UnlessMerging merge m (WhereTold old.folder (λ f. Rests L [] f old now)))
      rests_by (refuses x) same = unless_merging merge (refuses x) (WhereTold old.folder (λ f. Rests L [] f old now)) (λ f told. rests_by_same f told same)
      rests_by (host_failed fault) l = absurd l
      rests_by (store_failed fault) l = tt
      rests_by no_memory same = unless_merging {R = Refusal} merge no_memory (WhereTold old.folder (λ f. Rests L [] f old now)) (λ f told. rests_by_same f told same)

      unchanged_by : (m : Meaning Refusal) → LeavesLent lent disk m → IfRule m (StaysAsItWas old.folder now.folder)
      unchanged_by (refuses x) same = λ f told. unchanged_by_same f told same
      unchanged_by (host_failed fault) l = absurd l
      unchanged_by (store_failed fault) l = tt
      unchanged_by no_memory same = tt

      not_run_files : NotRunOver mode merge L old now before after r
      not_run_files = record {
        counts = counts_by (meaning_of_steps r) h.left;
        cause = cause;
        undrawn = λ reading. (h.reading reading).1;
        unchanged = unchanged_by (meaning_of_steps r) h.left;
        stands = λ f told. stands_by f told (λ reading. (h.reading reading).0) h.kept;
        rests = rests_by (meaning_of_steps r) h.left;
      }

-- ---- files that aren't lent

-- no rule refuses it, with a merge or without
pub no_rule_of : (b : Bool) (name : List ℕ) (linked : Linked) (folder : Option (List Held)) (before now : Option (List (List ℕ))) (r : ChainRefusal) → IsNoRule (meaning_of_chain r) → HasMergeCauseOf b linked name folder before now (steps.Chain r)
no_rule_of true name linked folder before now r c = c
no_rule_of false name linked folder before now r c = c

pub no_rule : (mode : Mode) (merge : Option (List ℕ)) (linked : Linked) (folder : Option (List Held)) (before now : Option (List (List ℕ))) (r : ChainRefusal) → IsNoRule (meaning_of_chain r) → HasCauseIn mode merge linked folder before now (steps.Chain r)
no_rule mode None linked folder before now r c = c
no_rule Guests (Some name) linked folder before now r c = no_rule_of (is_leaf linked.files name) name linked folder before now r c
no_rule ReadOnly (Some name) linked folder before now r c = c

module _ (mode : Mode) (merge : Option (List ℕ)) (linked : Linked) (old new : Hosted) (drawn : Option (List (List ℕ))) (r : ChainRefusal) (idle : WhereTold old.folder AllIdle) (chain : WhereTold old.folder (IsChainIn linked)) (h : LendsNone old new (meaning_of_chain r)) where
  none_lent : (m : Meaning Refusal) → LendsNone old new m → CountsRefusal old new m × IsNoRule m × (new.folder ≡ old.folder) × (new.past ≡ old.past)
  none_lent (refuses x) l = absurd l
  none_lent (host_failed fault) l = (
    (l.rose, l.count, λ f told. returned_none IsHealthy old new (ap (λ (h : Hosted). h.past) l.stays)),
    tt,
    ap (λ (h : Hosted). h.folder) l.stays,
    ap (λ (h : Hosted). h.past) l.stays,
  )
  none_lent (store_failed fault) l = absurd l
  none_lent no_memory l = (ap (λ (h : Hosted). h.faults) l, tt, ap (λ (h : Hosted). h.folder) l, ap (λ (h : Hosted). h.past) l)

  unless_store : (m : Meaning Refusal) (P : Type 0) → P → UnlessStore m P
  unless_store (refuses x) P p = p
  unless_store (host_failed fault) P p = p
  unless_store (store_failed fault) P p = tt
  unless_store no_memory P p = p

  none_changed : (m : Meaning Refusal) → LendsNone old new m → IfRule m (StaysAsItWas old.folder new.folder)
  none_changed (refuses x) l = absurd l
  none_changed (host_failed fault) l = tt
  none_changed (store_failed fault) l = tt
  none_changed no_memory l = tt

  pub not_lent : NotRunOver mode merge linked old new drawn drawn (steps.Chain r)
  not_lent =
      let l = none_lent (meaning_of_chain r) h in
      record {
        counts = l.0;
        cause = no_rule mode merge linked old.folder drawn drawn r l.1;
        undrawn = λ reading. refl;
        unchanged = none_changed (meaning_of_chain r) h;
        stands = λ f told. still_stands mode merge linked f old new (idle f told) (chain f told).whole told l.2 l.3;
        rests = unless_store (meaning_of_chain r) _ (unless_merging merge (meaning_of_chain r) (WhereTold old.folder (λ f. Rests linked [] f old new)) (λ f told. still_rests mode merge linked f old new (idle f told) (chain f told).whole told l.2 l.3));
      }

-- ---- whatever became of the script

pub first_only : (mode : Mode) (n : ℕ) → written_in mode n ≡ true → n ≡ 0
first_only mode zero e = refl
first_only Guests (suc n) e = let never : true ≡ false = sym e ∙ ne_eqb (suc n) 0 (λ z. absurd (omega (arith, z))) in cc
first_only ReadOnly (suc n) e = let never : false ≡ true = e in cc

-- the first file may be changed
pub first_may : (mode : Mode) (leaf : LinkedFile) (others : List LinkedFile) (n : ℕ) → written_in mode n ≡ true → is_among (slice_index_or (names_of (leaf ∷ others)) n []) (changed_names (is_reading mode) None (leaf ∷ others)) ≡ true
first_may Guests leaf others zero e = or_left (bytes_eq leaf.name leaf.name) false (is_itself leaf.name)
first_may ReadOnly leaf others zero e = let never : false ≡ true = e in cc
first_may mode leaf others (suc n) e = absurd (omega (arith, first_only mode (suc n) e))

-- what the store's files became
pub changed_of : (mode : Mode) (files : List LinkedFile) (names : List (List ℕ)) (lines : List Line) (lent disk : StoreDisk) (before after : Option (List (List ℕ))) (result : Result ScriptRun StepsRefusal) → IsLine files
    → IfOk result (λ run. HasRunScript mode files names lines run lent disk before after) → IfErr result (HasNotRun mode files lent disk before after) → WhereBothTold (Changed (written_in mode)) lent.told disk.told
changed_of mode [] names lines lent disk before after result line ran none = absurd line
changed_of mode (leaf ∷ others) names lines lent disk before after (Ok run) line ran none = changed_run mode leaf others (take ran.many lines) ran.told run.closed lent.told disk.told ran.history
changed_of mode (leaf ∷ others) names lines lent disk before after (Err r) line ran none = changed_none_run mode leaf others lent.told disk.told none.kept none.still (λ reading. (none.reading reading).0)

pub back_for : (mode : Mode) (retired : List (List ℕ)) (files : List LinkedFile) (old mid : Hosted) (lent disk : StoreDisk) → IsLine files → WhereTold old.folder AllIdle → NoneTwice (retired ++ names_of files)
    → WhereTold old.folder (IsChainIn (record { retired = retired; files = files })) → Lends (names_of files) old mid lent → WhereBothTold (Changed (written_in mode)) lent.told disk.told → WhereTold mid.folder (λ folder. WhereTold disk.told (λ trace. AreAway trace folder))
back_for mode retired [] old mid lent disk line idle once chain lends changed = absurd line
back_for mode retired (leaf ∷ others) old mid lent disk line idle once chain lends changed = back_requires retired leaf others old mid lent idle once chain lends disk mode None (written_in mode) (first_may mode leaf others) changed

module _ (mode : Mode) (retired : List (List ℕ)) (old mid now : Hosted) (lent disk : StoreDisk) (before after : Option (List (List ℕ))) (lines : List Line) (idle : WhereTold old.folder AllIdle) where
  pub run_over : (files : List LinkedFile) (names : List (List ℕ)) (result : Result ScriptRun StepsRefusal) → names ≡ names_of files → IsLine files → All IsServed files → NoneTwice (retired ++ names_of files)
      → WhereTold old.folder (IsChainIn (record { retired = retired; files = files })) → Lends (names_of files) old mid lent
      → WhereTold disk.told (λ trace. now.folder ≡ option_map (given_back trace) mid.folder) → KeepsStore disk mid now → RoseWhere (HasFailed disk) mid.faults now.faults → WhereBothTold (Changed (written_in mode)) lent.told disk.told
      → IfOk result (λ run. HasRunScript mode files names lines run lent disk before after) → IfOk result (λ run. RunOver mode None (record { retired = retired; files = files }) lines run old now before after)
  run_over [] names result same line served once chain lends back_is past_is count changed ran = absurd line
  run_over (leaf ∷ others) names (Ok run) same line served once chain lends back_is past_is count changed ran =
      run_over_files mode retired leaf others old mid now lent disk idle served once chain lends back_is past_is count before after None (written_in mode) (first_may mode leaf others) changed lines run
      (subst (λ ns. HasRunScript mode (leaf ∷ others) ns lines run lent disk before after) same ran) (first_only mode) (first_may Guests leaf others)
      (drawn_over mode retired leaf others old mid now lent disk idle served once chain lends back_is past_is count before after None (written_in mode) (first_may mode leaf others) mode ran.drawn) refl
  run_over (leaf ∷ others) names (Err r) same line served once chain lends back_is past_is count changed ran = tt

  pub not_run_over : (files : List LinkedFile) (result : Result ScriptRun StepsRefusal) → IsLine files → All IsServed files → NoneTwice (retired ++ names_of files)
      → WhereTold old.folder (IsChainIn (record { retired = retired; files = files })) → Lends (names_of files) old mid lent
      → WhereTold disk.told (λ trace. now.folder ≡ option_map (given_back trace) mid.folder) → KeepsStore disk mid now → RoseWhere (HasFailed disk) mid.faults now.faults → WhereBothTold (Changed (written_in mode)) lent.told disk.told
      → IfErr result (HasNotRun mode files lent disk before after) → IfErr result (NotRunOver mode None (record { retired = retired; files = files }) old now before after)
  not_run_over [] result line served once chain lends back_is past_is count changed none = absurd line
  not_run_over (leaf ∷ others) (Ok run) line served once chain lends back_is past_is count changed none = tt
  not_run_over (leaf ∷ others) (Err r) line served once chain lends back_is past_is count changed none =
      not_run_files mode retired leaf others old mid now lent disk idle served once chain lends back_is past_is count before after None (written_in mode) (first_may mode leaf others) changed r none
      (cause_by mode retired leaf others old mid now lent disk idle served once chain lends back_is past_is count before after None (written_in mode) (first_may mode leaf others) r none.cause)
