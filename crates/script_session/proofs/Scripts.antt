-- A script's session, from its start to its end.
use Rattle.std.proofs.Common.{◌≡◌, ◌≢◌, ◌==◌, ◌<◌, ◌≤◌, ◌^◌, ℕ, Bool, true, false, List, [], ◌∷◌, length, take, Option, Some, None, Result, Ok, Err, refl, sym, ap, ap₂, subst, ◌∙◌, arith, ne_eqb}
use Rattle.std.specs.Prelude.{IfSome, OnOk, is_some}
use Rattle.std.specs.List.{AllByRecursion}
use Rattle.std.proofs.lemmas.List.{length-take}
use Rattle.std.proofs.lemmas.Option.{same_Some}
use Rattle.std.proofs.lemmas.Result.{on_ok_weaker}
use Rattle.store_model.proofs.Told.{counts_join}
use Rattle.vx_base.specs.declared.parts.Geometry.{Geometry}
use Rattle.vx_base.specs.declared.parts.Parts.{Parts}
use Rattle.store_model.specs.declared.fault.StoreFault.{StoreFault}
use Rattle.store_model.specs.Disk.{Disk, WhereBothTold}
use Rattle.store_model.specs.File.{is_synced, seen}
use Rattle.layer_session.specs.Unnamed.{NamesNoLog}
use Rattle.store_model.specs.Trace.{Trace, file_of}
use Rattle.guest_model.specs.Calls.{Disk as GuestDisk}
use Rattle.guest_model.specs.declared.call.Call.{Call}
use Rattle.guest_model.specs.History.{History, either, is_dirty, replay}
use Rattle.chain_model.specs.Moments.{EachOpens, EachOpensToPrefix}
use Rattle.link_rules.specs.declared.linked.LinkedFile.{LinkedFile}
use Rattle.layer_session.specs.declared.file.Layer.{Layer}
use Rattle.merge_core.specs.declared.piece.Piece.{Piece}
use Rattle.chain_core.specs.Answering.{HasClosed, HasEnded}
use Rattle.chain_core.specs.Sessions.{HasNoMerge, Session}
use Rattle.chain_core.specs.declared.layers.Layers.{Layers}
use Rattle.chain_core.specs.declared.layers.Retiring.{Retiring}
use Rattle.chain_core.specs.declared.layers.Underway.{Underway}
use Rattle.script_session.proofs.LeftFiles.{later_number, later_since, later_writes, own_synced, own_unnamed}
use Rattle.merge_plan.specs.Attached.{CanStart}
use Rattle.chain_core.specs.Starting.{HasStarted, IsOfDisk, StartsWith, opening_disk, started, under, way_to}
use Rattle.chain_core.specs.States.{IsCourse, IsRetiring, IsServing, State, disk_now, sector_of}
use Rattle.chain_core.specs.declared.starting.Mode.{Mode}
use Rattle.chain_core.specs.declared.starting.Mode.TheVariants.{Guests, ReadOnly}
use Rattle.script.specs.declared.form.Line.{Line}
use Rattle.script_session.specs.Answers.{AnswersLines}
use Rattle.script_session.specs.Faults.{Counts, FaultsAreTold}
use Rattle.script_session.specs.Histories.{Break, Drive, Grows, IsEndTold, IsOver, IsSoLong, OpensLast, Stands, TellsHistory, disk_after, is_broken, no_merge, open_in, serves}
use Rattle.script_session.specs.Running.{DrawsFor, HasHistory, HasRunScript, HasRunToEnd, HaveHistory, IsAtRest, IsEnded, can_change, drive_of, open_by, open_last}
use Rattle.script_session.specs.Told.{Told, failed_by, sector_size}
use Rattle.script_session.specs.declared.session.ScriptRun.{ScriptRun}
use Rattle.script_session.proofs.Content.{lines_stay, lines_untold}
use Rattle.script_session.proofs.Counting.{lines_counted, same_told}
use Rattle.script_session.proofs.Ending.{end_counted, end_untold, faults_told, last_counted, quiet_end}
use Rattle.script_session.proofs.Lengths.{ends_later, grows_none, long_later, moments_grow}
use Rattle.script_session.proofs.LinesTold.{lines_told}
use Rattle.script_session.proofs.Telling.{both_told, opens_last}
use Rattle.chain_model.specs.Members.{Way}

-- ---- the start

-- How a session of a chain with this leaf started.
record HasBegunAs (mode : Mode) (leaf : LinkedFile) (others : List LinkedFile) (before : Session) (old : Disk) (drawn now : Option (List (List ℕ))) : Type 0 where
  in_it : Parts → Parts
  serving : StartsWith in_it (leaf ∷ others) before.layers old.told before.disk.told
  session : is_some before.layers.leaf ≡ can_change mode
  draws : DrawsFor mode (leaf ∷ others) old drawn now
  counts : before.disk ≡ record old { told = before.disk.told }
  same : can_change mode ≡ false → before.disk ≡ old

begun_as : (mode : Mode) (leaf : LinkedFile) (others : List LinkedFile) (before : Session) (old : Disk) (drawn now : Option (List (List ℕ))) → HasStarted mode (leaf ∷ others) before.layers old before.disk drawn now
    → HasBegunAs mode leaf others before old drawn now
begun_as Guests leaf others before old drawn now h = record {
  in_it = under h.1.ids;
  serving = h.1.serving;
  session = h.1.session;
  draws = (h.0, h.1.ids, h.1.fit);
  counts = h.1.counts;
  same = λ e. let bad : true ≡ false = e in absurd (cc);
}
begun_as ReadOnly leaf others before old drawn now h = record {
  in_it = λ parts. parts;
  serving = h.serving;
  session = h.session;
  draws = h.undrawn;
  counts = same_told old before.disk h.same;
  same = λ e. h.same;
}

-- ---- the same in other words

pub past_as : (z z' : ℕ) (o o' : GuestDisk) (leaf leaf' : Way) (began began' : Trace) (h : History) (b : ℕ → ℕ → Bool) (now : Trace) → z ≡ z' → o ≡ o' → leaf ≡ leaf' → began ≡ began'
    → EachOpensToPrefix z o h (b z) leaf began now → EachOpensToPrefix z' o' h (b z') leaf' began' now
past_as z z' o o' leaf leaf' began began' h b now ez eo el et past =
    subst (λ n. EachOpensToPrefix n o' h (b n) leaf' began' now) ez
    (subst (λ d. EachOpensToPrefix z d h (b z) leaf' began' now) eo (subst (λ l. EachOpensToPrefix z o h (b z) l began' now) el (subst (λ t. EachOpensToPrefix z o h (b z) leaf t now) et past)))

pub last_as : (z z' : ℕ) (o o' : GuestDisk) (leaf leaf' : Way) (h : History) (call : Option Call) (now : Trace) → z ≡ z' → o ≡ o' → leaf ≡ leaf'
    → EachOpens leaf (either (is_dirty z h) (open_in z call)) (replay z o h) now → EachOpens leaf' (either (is_dirty z' h) (open_in z' call)) (replay z' o' h) now
last_as z z' o o' leaf leaf' h call now ez eo el last =
    subst (λ n. EachOpens leaf' (either (is_dirty n h) (open_in n call)) (replay n o' h) now) ez
    (subst (λ d. EachOpens leaf' (either (is_dirty z h) (open_in z call)) (replay z d h) now) eo (subst (λ l. EachOpens l (either (is_dirty z h) (open_in z call)) (replay z o h) now) el last))

no_leaf : (o : Option Layer) → is_some o ≡ false → o ≡ None
no_leaf None e = refl
no_leaf (Some leaf) e = cc

pub ended_of : (session : Bool) (v : State) (trace now : Trace) (closed : Result (Unit {0}) StoreFault) → HasClosed session v trace now closed → HasEnded v trace now
ended_of session v trace now (Ok done) h = h.ended
ended_of session v trace now (Err fault) h = h

-- ---- the history

module _ (mode : Mode) (leaf : LinkedFile) (others : List LinkedFile) (parts : Parts) (trace : Trace) (lines : List Line) (told : List Told) (behind : Session) (after : Disk) (closed : Result (Unit {0}) StoreFault)
    (synced : is_synced (file_of trace 0) ≡ true) (ended : IsEnded behind after closed) (stays : can_change mode ≡ false → behind.disk.told ≡ Some trace)
    (start : Trace) (left : Piece) (tells : TellsHistory (drive_of mode leaf others trace) 1 lines told (started trace leaf others parts) no_merge None start behind left) where
  abbrev drive : Drive
  drive = drive_of mode leaf others trace

  abbrev later : State
  later = tells.later

  abbrev Has : Trace → Type 0
  Has now = HasHistory mode leaf others lines told closed trace now

  moments_as : (b : ℕ → ℕ → Bool) (now : Trace) → EachOpensToPrefix (sector_of later) later.opening later.history (b (sector_of later)) later.leaf later.began now
      → EachOpensToPrefix sector_size (opening_disk trace (leaf ∷ others)) later.history (b sector_size) (way_to leaf (leaf ∷ others) None) trace now
  moments_as b now past =
      past_as (sector_of later) sector_size later.opening (opening_disk trace (leaf ∷ others)) later.leaf (way_to leaf (leaf ∷ others) None) later.began trace later.history b now tells.over.sector tells.over.opening tells.same.leaf tells.same.began past

  others_as : (now : Trace) → ((other : ℕ) → later.writes other ≡ false → file_of now other ≡ file_of later.since other) → (other : ℕ) → other ≢ 0 → file_of now other ≡ file_of trace other
  others_as now still other ne = still other (later_writes (started trace leaf others parts) later tells.same.goes other (ne_eqb other 0 ne)) ∙ later_since (started trace leaf others parts) later tells.same.goes other (ne_eqb other 0 ne)

  full_as : (now : Trace) → Grows tells.now now → AllByRecursion (IsEndTold (IsSoLong (λ n. n == 0) now)) told
  full_as now grows = ends_later (IsSoLong (λ n. n == 0) tells.now) (IsSoLong (λ n. n == 0) now) (λ next. long_later (λ n. n == 0) (λ n. n == 0) tells.now now next (λ n e. e) grows) told tells.full

  last_of : (call : Option Call) (now : Trace) → OpensLast later call now → EachOpens (way_to leaf (leaf ∷ others) None) (either (is_dirty sector_size later.history) (open_in sector_size call)) (disk_after drive later.history) now
  last_of call now last = last_as (sector_of later) sector_size later.opening (opening_disk trace (leaf ∷ others)) later.leaf (way_to leaf (leaf ∷ others) None) later.history call now tells.over.sector tells.over.opening tells.same.leaf last

  -- where the files are only read
  unchanged_in : (now : Trace) → after.told ≡ Some now → (can_change mode ≡ false → after ≡ behind.disk) → can_change mode ≡ false → now ≡ trace
  unchanged_in now is same none = same_Some now trace (sym is ∙ ap (λ (d : Disk). d.told) (same none) ∙ stays none)

  -- a fault has broken the session
  behind_break : (b : Break) → tells.broken ≡ Some b → behind.broken ≡ Some b.fault → ((other : ℕ) → later.writes other ≡ false → file_of tells.now other ≡ file_of later.since other)
      → EachOpensToPrefix (sector_of later) later.opening later.history (open_in (sector_of later) b.call) later.leaf later.began tells.now → OpensLast later b.call tells.now → WhereBothTold (HaveHistory mode (leaf ∷ others) lines told closed) (Some trace) after.told
  behind_break b is broken still past last =
      let e = subst (λ o. IfSome o (λ fault. (closed ≡ Err fault) × (after ≡ behind.disk))) broken ended.broken in
      let now_is : after.told ≡ Some tells.now = ap (λ (d : Disk). d.told) e.1 ∙ tells.seen in
      let has : Has tells.now = record {
        history = later.history;
        course = tells.end;
        broken = tells.broken;
        told_so = tells.told_so;
        moments = subst (λ o. EachOpensToPrefix sector_size (opening_disk trace (leaf ∷ others)) later.history (open_by o) (way_to leaf (leaf ∷ others) None) trace tells.now) (sym is) (moments_as (λ z. open_in z b.call) tells.now past);
        last = subst (λ o. EachOpens (way_to leaf (leaf ∷ others) None) (open_last later.history o) (disk_after drive later.history) tells.now) (sym is) (last_of b.call tells.now last);
        full = full_as tells.now (grows_none tells.now);
        still = others_as tells.now still;
        unchanged = unchanged_in tells.now now_is (λ none. e.1);
        at_rest = subst (λ r. OnOk r (IsAtRest (way_to leaf (leaf ∷ others) None) drive later.history tells.now)) (sym e.0) tt;
      } in
      subst (λ o. WhereBothTold (HaveHistory mode (leaf ∷ others) lines told closed) (Some trace) o) (sym now_is) has

  -- it has ended, or its end failed
  module _ (whole : behind.broken ≡ None) (none : tells.broken ≡ None) (now : Trace) (now_is : after.told ≡ Some now) (h : HasClosed (is_some behind.layers.leaf) later tells.now now closed) where
    same_store : can_change mode ≡ false → after ≡ behind.disk
    same_store e = (ended.only_read whole (no_leaf behind.layers.leaf (tells.over.change ∙ e))).1

    leaf_synced : (m : Mode) → m ≡ mode → ((other : ℕ) → later.writes other ≡ false → file_of now other ≡ file_of later.since other) → (is_some behind.layers.leaf ≡ true → is_synced (file_of now later.top.number) ≡ true) → is_synced (file_of now 0) ≡ true
    leaf_synced Guests is still own =
        own_synced (started trace leaf others parts) later later.history now tells.same still 0 refl (λ mine. subst (λ n. is_synced (file_of now n) ≡ true) (later_number (started trace leaf others parts) later tells.same.goes mine) (own (tells.over.change ∙ ap can_change (sym is))))
    leaf_synced ReadOnly is still own = ap (λ t. is_synced (file_of t 0)) (unchanged_in now now_is same_store (ap can_change (sym is))) ∙ synced

    leaf_unnamed : (m : Mode) → m ≡ mode → ((other : ℕ) → later.writes other ≡ false → file_of now other ≡ file_of later.since other) → (is_some behind.layers.leaf ≡ true → later.writes later.top.number ≡ true → NamesNoLog (seen (file_of now later.top.number)))
        → can_change m ≡ true → NamesNoLog (seen (file_of now 0))
    leaf_unnamed Guests is still own can =
        own_unnamed (started trace leaf others parts) later later.history now tells.same still 0 refl
        (λ mine.
        let number = later_number (started trace leaf others parts) later tells.same.goes mine in
        subst (λ n. NamesNoLog (seen (file_of now n))) number (own (tells.over.change ∙ ap can_change (sym is)) (ap later.writes number ∙ mine)))
    leaf_unnamed ReadOnly is still own can = absurd (let bad : false ≡ true = can in cc)

    rest_of : (r : Result (Unit {0}) StoreFault) → HasClosed (is_some behind.layers.leaf) later tells.now now r → OnOk r (IsAtRest (way_to leaf (leaf ∷ others) None) drive later.history now)
    rest_of (Err fault) h = tt
    rest_of (Ok done) h =
        let disk : disk_now later ≡ disk_after drive later.history = ap₂ (λ (z : ℕ) (o : GuestDisk). replay z o later.history) tells.over.sector tells.over.opening in
        record {
          synced = leaf_synced mode refl h.ended.still (λ session. (h.synced session).0);
          no_log = leaf_unnamed mode refl h.ended.still (λ session. (h.no_log session).0);
          opens = subst (λ d. EachOpens (way_to leaf (leaf ∷ others) None) (λ s. false) d now) disk (subst (λ l. EachOpens l (λ s. false) (disk_now later) now) tells.same.leaf h.all);
        }

    behind_end : Has now
    behind_end =
        let end = ended_of (is_some behind.layers.leaf) later tells.now now closed h in
        record {
          history = later.history;
          course = tells.end;
          broken = tells.broken;
          told_so = tells.told_so;
          moments = subst (λ o. EachOpensToPrefix sector_size (opening_disk trace (leaf ∷ others)) later.history (open_by o) (way_to leaf (leaf ∷ others) None) trace now) (sym none) (moments_as (λ z s. false) now end.past);
          last = subst (λ o. EachOpens (way_to leaf (leaf ∷ others) None) (open_last later.history o) (disk_after drive later.history) now) (sym none) (last_of None now (opens_last later tells.now now end.moments));
          full = full_as now (moments_grow _ tells.now now end.moments);
          still = others_as now end.still;
          unchanged = unchanged_in now now_is same_store;
          at_rest = rest_of closed h;
        }

  by_stands : (broken : Option Break) → tells.broken ≡ broken → Stands later behind left tells.now tells.end broken → WhereBothTold (HaveHistory mode (leaf ∷ others) lines told closed) (Some trace) after.told
  by_stands (Some b) is (is_broken _ broken still past last) = behind_break b is broken still past last
  by_stands None is (serves whole serving on) =
      let end = both_told _ behind.disk.told after.told tells.now tells.seen (ended.told whole) in
      subst (λ o. WhereBothTold (HaveHistory mode (leaf ∷ others) lines told closed) (Some trace) o) (sym end.1) (behind_end whole is end.0 end.1 (end.2 later serving))

  pub has_history : WhereBothTold (HaveHistory mode (leaf ∷ others) lines told closed) (Some trace) after.told
  has_history = by_stands tells.broken refl tells.stands

-- ---- the whole

-- no merge is under way
none_started : (layers : Layers) (trace : Trace) (leaf : LinkedFile) (others : List LinkedFile) (parts : Parts) (now : Trace) → IsServing layers (started trace leaf others parts) now → HasNoMerge layers
none_started layers trace leaf others parts now serving = (by_merge layers.merge serving.course, by_leaf layers.retiring serving.leaving)
  where
    v : State
    v = started trace leaf others parts

    by_merge : (o : Option Underway) → IsCourse (sector_of v) v.writes layers o v.top v.rest → o ≡ None
    by_merge None course = refl
    by_merge (Some u) course = absurd course

    by_leaf : (o : Option Retiring) → IsRetiring (sector_of v) v.writes v.history layers o v.top v.rest → o ≡ None
    by_leaf None leaving = refl
    by_leaf (Some r) leaving = absurd leaving

-- what is asked of a new session over files that may be started
pub record IsNew (files : List LinkedFile) (s : Session) : Type 0 where
  pub events : s.events ≡ 0
  pub broken : s.broken ≡ None
  pub noted : s.noted ≡ 0
  pub told : IfSome s.told (λ h. h ≡ [])
  pub sector : s.layers.geometry.sector ≡ 512
  pub geometry : IsOfDisk files s.layers.geometry

module _ (mode : Mode) (leaf : LinkedFile) (others : List LinkedFile) (before : Session) (old : Disk) (drawn now : Option (List (List ℕ))) (can : CanStart (leaf ∷ others) old) (new : IsNew (leaf ∷ others) before)
    (begun : HasBegunAs mode leaf others before old drawn now) where
  some_file : 0 < before.disk.files
  some_file =
      let there : length (leaf ∷ others) ≤ old.files = can.there in
      let files : before.disk.files ≡ old.files = ap (λ (d : Disk). d.files) begun.counts in
      omega arith

  over_start : (trace y : Trace) → IsServing before.layers (started trace leaf others (begun.in_it leaf.parts)) y → IsOver (drive_of mode leaf others trace) (started trace leaf others (begun.in_it leaf.parts)) before
  over_start trace y serving = record {
    geometry = new.geometry;
    change = begun.session;
    opening = refl;
    sector = sym (ap (λ (g : Geometry). g.sector) serving.geometry) ∙ new.sector;
    noted = new.noted;
    kept = new.told;
  }

  histories : (lines : List Line) (many : ℕ) (told : List Told) (behind : Session) (slot left : Piece) (after : Disk) (closed : Result (Unit {0}) StoreFault) → length lines ≤ 2 ^ 20 → AnswersLines 1 (take many lines) told before slot behind left
      → IsEnded behind after closed → WhereBothTold (HaveHistory mode (leaf ∷ others) (take many lines) told closed) old.told after.told
  histories lines many told behind slot left after closed few answers ended = go old.told refl before.disk.told refl begun.serving
    where
      go : (a : Option Trace) → old.told ≡ a → (b : Option Trace) → before.disk.told ≡ b → StartsWith begun.in_it (leaf ∷ others) before.layers a b → WhereBothTold (HaveHistory mode (leaf ∷ others) (take many lines) told closed) a after.told
      go None e None f serving =
          let none = end_untold behind after closed ended (lines_untold 1 (take many lines) told before behind slot left f answers) in
          subst (λ o. WhereBothTold (HaveHistory mode (leaf ∷ others) (take many lines) told closed) None o) (sym none) tt
      go None e (Some y) f serving = absurd serving
      go (Some x) e None f serving = absurd serving
      go (Some x) e (Some y) f serving =
          has_history mode leaf others (begun.in_it leaf.parts) x (take many lines) told behind after closed (can.told x e).each.0.synced ended
          (λ none. lines_stay 1 (take many lines) told before behind slot left (begun.session ∙ none) answers ∙ ap (λ (d : Disk). d.told) (begun.same none) ∙ e)
          y left (lines_told (drive_of mode leaf others x) 1 (take many lines) told (started x leaf others (begun.in_it leaf.parts)) no_merge None before behind slot left y f (serves new.broken serving (none_started before.layers x leaf others (begun.in_it leaf.parts) y serving)) (over_start x y serving)
          (omega (arith, few, new.events, length-take many lines)) answers)

  of_run : (names : List (List ℕ)) (lines : List Line) (slot left : Piece) (run : ScriptRun) (after : Disk) → length lines ≤ 2 ^ 20 → HasRunToEnd names lines before slot left run after → HasRunScript mode (leaf ∷ others) names lines run old after drawn now
  of_run names lines slot left run after few r =
      let ran = r.ran in
      let counts = lines_counted 1 (take ran.many lines) ran.told before r.behind slot left some_file new.broken ran.answers in
      record {
        many = ran.many;
        told = ran.told;
        whole = ran.whole;
        fault_is = ran.fault_is;
        drawn = begun.draws;
        counted = subst (λ o. IfSome o (Counts after)) (sym ran.fault_is) (last_counted ran.told before r.behind after run.closed counts r.ended);
        ended = end_counted ran.told before r.behind after run.closed counts r.ended some_file;
        quiet = λ none. on_ok_weaker run.closed (λ same. counts_join old before.disk after begun.counts same) (quiet_end ran.told before r.behind after run.closed counts r.ended (sym ran.fault_is ∙ none));
        faults =
            let k = faults_told ran.told before r.behind after run.closed counts r.ended in
            subst (λ n. FaultsAreTold ran.told (failed_by run.closed) n old.failed_changes after.failed_reads after.failed_changes) (ap (λ (d : Disk). d.files) begun.counts) (record { each = k.each; end = k.end; none = λ none. k.none none ∙ ap (λ (d : Disk). d.failed_changes) begun.counts });
        history = histories lines ran.many ran.told r.behind slot left after run.closed few ran.answers r.ended;
      }

pub script_ran : (mode : Mode) (files : List LinkedFile) (names : List (List ℕ)) (lines : List Line) (slot left : Piece) (run : ScriptRun) (before : Session) (old after : Disk) (drawn now : Option (List (List ℕ))) → HasRunToEnd names lines before slot left run after
    → HasStarted mode files before.layers old before.disk drawn now → CanStart files old → length lines ≤ 2 ^ 20 → IsNew files before → HasRunScript mode files names lines run old after drawn now
script_ran mode [] names lines slot left run before old after drawn now r begun can few new = absurd can.line
script_ran mode (leaf ∷ others) names lines slot left run before old after drawn now r begun can few new =
    of_run mode leaf others before old drawn now can new (begun_as mode leaf others before old drawn now begun) names lines slot left run after few r
