-- What stands behind a script's session that started with a merge: of the leaf, or of a file below it.
use Rattle.std.proofs.Common.{◌≡◌, ◌≢◌, ℕ, Bool, true, false, List, [], map, Option, Some, None, Result, Ok, Err, refl, sym, ap, ap₂, subst, ◌∙◌}
use Rattle.std.specs.Prelude.{◌||◌, IfSome, OnOk, is_some}
use Rattle.std.specs.List.{AllByRecursion}
use Rattle.store_model.specs.Disk.{Disk, WhereBothTold}
use Rattle.store_model.specs.Trace.{Trace, file_of}
use Rattle.store_model.specs.declared.fault.StoreFault.{StoreFault}
use Rattle.guest_model.specs.Calls.{Disk as GuestDisk}
use Rattle.guest_model.specs.declared.call.Call.{Call}
use Rattle.guest_model.specs.History.{either, is_dirty, replay}
use Rattle.chain_model.specs.Moments.{EachOpens, EachOpensToPrefix}
use Rattle.merge_core.specs.declared.piece.Piece.{Piece}
use Rattle.chain_core.specs.Answering.{EachLinks, HasClosed, HasEnded}
use Rattle.chain_core.specs.Sessions.{HasNoMerge, Session, has_merge}
use Rattle.chain_core.specs.Starting.{opening_disk}
use Rattle.chain_core.specs.States.{IsServing, State, disk_now, sector_of}
use Rattle.link_rules.specs.declared.linked.LinkedFile.{LinkedFile}
use Rattle.chain_core.specs.declared.layers.Layers.{Layers}
use Rattle.chain_core.specs.declared.layers.Retiring.{Retiring}
use Rattle.chain_core.specs.declared.layers.Underway.{Underway}
use Rattle.script.specs.declared.form.Line.{Line}
use Rattle.script_session.specs.Histories.{AreTold, Break, Course, Drive, Grows, IsEndTold, IsMarkedSo, IsOnCourse, IsSoLong, OpensLast, Stands, TellsHistory, below_marked, copying, disk_after, is_broken, is_under_way, leaf_marked, no_merge, open_in, serves}
use Rattle.script_session.specs.MergeRunning.{HasHistoryOver, IsAtRestOver, Scope, drive_over, just_started}
use Rattle.script_session.specs.Running.{IsEnded, open_by, open_last}
use Rattle.script_session.specs.Told.{Told, sector_size}
use Rattle.script_session.proofs.Lengths.{ends_later, grows_none, long_later, moments_grow}
use Rattle.script_session.proofs.Resting.{IsSame, IsScope, all_synced, all_unnamed, links_all, links_left, may_change, others_as, under_way_is}
use Rattle.script_session.proofs.Scripts.{ended_of, last_as, past_as}
use Rattle.script_session.proofs.Telling.{both_told, opens_last}

module _ (scope : Scope) (v : State) (trace mid : Trace) (is : IsScope IsSame scope v trace mid) (lines : List Line) (told : List Told) (behind : Session) (after : Disk) (closed : Result (Unit {0}) StoreFault) (ended : IsEnded behind after closed) (left : Piece)
    (tells : TellsHistory (drive_over scope trace) 1 lines told v (just_started scope.of_leaf) None mid behind left) where
  abbrev drive : Drive
  drive = drive_over scope trace

  abbrev later : State
  later = tells.later

  abbrev Has : Trace → Type 0
  Has now = HasHistoryOver scope lines told closed trace now

  told_so : AreTold drive 1 [] (just_started scope.of_leaf) None lines told later.history tells.end tells.broken
  told_so = subst (λ h. AreTold drive 1 h (just_started scope.of_leaf) None lines told later.history tells.end tells.broken) is.history tells.told_so

  leaf_is : later.leaf ≡ scope.leaf
  leaf_is = tells.same.leaf ∙ is.leaf

  moments_as : (b : ℕ → ℕ → Bool) (now : Trace) → EachOpensToPrefix (sector_of later) later.opening later.history (b (sector_of later)) later.leaf later.began now
      → EachOpensToPrefix sector_size (opening_disk trace scope.files) later.history (b sector_size) scope.leaf trace now
  moments_as b now past =
      past_as (sector_of later) sector_size later.opening (opening_disk trace scope.files) later.leaf scope.leaf later.began trace later.history b now tells.over.sector tells.over.opening leaf_is (tells.same.began ∙ is.began) past

  full_as : (now : Trace) → Grows tells.now now → AllByRecursion (IsEndTold (IsSoLong scope.changes now)) told
  full_as now grows = ends_later (IsSoLong v.writes tells.now) (IsSoLong scope.changes now) (λ next. long_later v.writes scope.changes tells.now now next (may_change scope v trace mid is later.history later tells.same now) grows) told tells.full

  last_of : (call : Option Call) (now : Trace) → OpensLast later call now → EachOpens scope.leaf (either (is_dirty sector_size later.history) (open_in sector_size call)) (disk_after drive later.history) now
  last_of call now last = last_as (sector_of later) sector_size later.opening (opening_disk trace scope.files) later.leaf scope.leaf later.history call now tells.over.sector tells.over.opening leaf_is last

  -- a fault has broken the session
  behind_break : (b : Break) → tells.broken ≡ Some b → behind.broken ≡ Some b.fault → ((other : ℕ) → later.writes other ≡ false → file_of tells.now other ≡ file_of later.since other)
      → EachOpensToPrefix (sector_of later) later.opening later.history (open_in (sector_of later) b.call) later.leaf later.began tells.now → OpensLast later b.call tells.now → WhereBothTold (HasHistoryOver scope lines told closed) (Some trace) after.told
  behind_break b by broken still past last =
      let e = subst (λ o. IfSome o (λ fault. (closed ≡ Err fault) × (after ≡ behind.disk))) broken ended.broken in
      let now_is : after.told ≡ Some tells.now = ap (λ (d : Disk). d.told) e.1 ∙ tells.seen in
      let has : Has tells.now = record {
        history = later.history;
        course = tells.end;
        broken = tells.broken;
        told_so = told_so;
        moments = subst (λ o. EachOpensToPrefix sector_size (opening_disk trace scope.files) later.history (open_by o) scope.leaf trace tells.now) (sym by) (moments_as (λ z. open_in z b.call) tells.now past);
        last = subst (λ o. EachOpens scope.leaf (open_last later.history o) (disk_after drive later.history) tells.now) (sym by) (last_of b.call tells.now last);
        full = full_as tells.now (grows_none tells.now);
        still = others_as scope v trace mid is later.history later tells.same tells.now still;
        at_rest = subst (λ r. OnOk r (IsAtRestOver scope drive later.history tells.now)) (sym e.0) tt;
        linked = λ done. subst (λ r. OnOk r (EachLinks scope.leaf.name scope.staying tells.now)) (sym e.0) tt;
        stays = λ some. subst (λ r. OnOk r (EachLinks scope.leaf.name (map (λ (f : LinkedFile). f.name) scope.files) tells.now)) (sym e.0) tt;
      } in
      subst (λ o. WhereBothTold (HasHistoryOver scope lines told closed) (Some trace) o) (sym now_is) has

  -- it has ended, or its end failed
  module _ (none : tells.broken ≡ None) (serving : IsServing behind.layers later tells.now) (on : IsOnCourse later behind.layers left tells.end) (now : Trace) (h : HasClosed (is_some behind.layers.leaf) later tells.now now closed) where
    under : is_under_way later.rest ≡ has_merge behind.layers
    under = under_way_is behind.layers later tells.now serving

    links_of : (r : Result (Unit {0}) StoreFault) → HasClosed (is_some behind.layers.leaf) later tells.now now r → HasNoMerge behind.layers → OnOk r (EachLinks scope.leaf.name scope.staying now)
    links_of (Err fault) h gone = tt
    links_of (Ok done) h gone = links_left scope v trace mid is later.history later tells.same now (under ∙ ap₂ (λ (o : Option Underway) (r : Option Retiring). is_some o || is_some r) gone.0 gone.1) h.links

    -- a merge that isn't finished is under way
    marked_merge : (layers : Layers) (copied : ℕ → Bool) (l : Bool) → IsMarkedSo layers copied l → has_merge layers ≡ true
    marked_merge layers copied _ (below_marked u is only marks) = ap₂ (λ (o : Option Underway) (r : Option Retiring). is_some o || is_some r) is only
    marked_merge layers copied _ (leaf_marked r is only marks) = ap₂ (λ (o : Option Underway) (r : Option Retiring). is_some o || is_some r) is only

    under_way : (course : Course) → course ≢ no_merge → IsOnCourse later behind.layers left course → is_under_way later.rest ≡ true
    under_way no_merge some on = absurd (some refl)
    under_way (copying l copied waits) some on = under ∙ marked_merge behind.layers copied l on.0

    stays_of : (r : Result (Unit {0}) StoreFault) → HasClosed (is_some behind.layers.leaf) later tells.now now r → is_under_way later.rest ≡ true → OnOk r (EachLinks scope.leaf.name (map (λ (f : LinkedFile). f.name) scope.files) now)
    stays_of (Err fault) h some = tt
    stays_of (Ok done) h some = links_all scope v trace mid is later.history later tells.same now some h.links

    rest_of : (r : Result (Unit {0}) StoreFault) → HasClosed (is_some behind.layers.leaf) later tells.now now r → OnOk r (IsAtRestOver scope drive later.history now)
    rest_of (Err fault) h = tt
    rest_of (Ok done) h =
        let disk : disk_now later ≡ disk_after drive later.history = ap₂ (λ (z : ℕ) (o : GuestDisk). replay z o later.history) tells.over.sector tells.over.opening in
        record {
          synced = all_synced scope v trace mid is later.history later tells.same now h.ended.still (h.synced tells.over.change);
          no_log = all_unnamed scope v trace mid is later.history later tells.same now h.ended.still (h.no_log tells.over.change);
          opens = subst (λ d. EachOpens scope.leaf (λ s. false) d now) disk (subst (λ l. EachOpens l (λ s. false) (disk_now later) now) leaf_is h.all);
        }

    behind_end : Has now
    behind_end =
        let end : HasEnded later tells.now now = ended_of (is_some behind.layers.leaf) later tells.now now closed h in
        record {
          history = later.history;
          course = tells.end;
          broken = tells.broken;
          told_so = told_so;
          moments = subst (λ o. EachOpensToPrefix sector_size (opening_disk trace scope.files) later.history (open_by o) scope.leaf trace now) (sym none) (moments_as (λ z s. false) now end.past);
          last = subst (λ o. EachOpens scope.leaf (open_last later.history o) (disk_after drive later.history) now) (sym none) (last_of None now (opens_last later tells.now now end.moments));
          full = full_as now (moments_grow _ tells.now now end.moments);
          still = others_as scope v trace mid is later.history later tells.same now end.still;
          at_rest = rest_of closed h;
          linked = λ done. links_of closed h (subst (IsOnCourse later behind.layers left) done on);
          stays = λ some. stays_of closed h (under_way tells.end some on);
        }

  by_stands : (broken : Option Break) → tells.broken ≡ broken → Stands later behind left tells.now tells.end broken → WhereBothTold (HasHistoryOver scope lines told closed) (Some trace) after.told
  by_stands (Some b) is (is_broken _ broken still past last) = behind_break b is broken still past last
  by_stands None is (serves whole serving on) =
      let end = both_told _ behind.disk.told after.told tells.now tells.seen (ended.told whole) in
      subst (λ o. WhereBothTold (HasHistoryOver scope lines told closed) (Some trace) o) (sym end.1) (behind_end is serving on end.0 (end.2 later serving))

  pub has_history : WhereBothTold (HasHistoryOver scope lines told closed) (Some trace) after.told
  has_history = by_stands tells.broken refl tells.stands

-- ---- a new session

-- what is asked of it
pub record IsNewMerge (s : Session) : Type 0 where
  pub events : s.events ≡ 0
  pub broken : s.broken ≡ None
  pub noted : s.noted ≡ 0
  pub told : IfSome s.told (λ h. h ≡ [])
  pub sector : s.layers.geometry.sector ≡ 512
