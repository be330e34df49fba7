-- A script's session that starts with a merge, from its start to its end.
use Rattle.std.proofs.Common.{◌≡◌, ◌<◌, ◌≤◌, ◌+◌, ◌^◌, ◌==◌, ◌||◌, ℕ, Bool, true, false, List, [], ◌∷◌, ◌++◌, length, map, take, Option, Some, None, Result, refl, sym, ap, ap₂, subst, ◌∙◌, arith, inl, inr}
use Rattle.std.specs.Prelude.{IfSome}
use Rattle.std.specs.List.{AllByRecursion}
use Rattle.std.proofs.lemmas.Bool.{eqb-true, ne_eqb, or_cases}
use Rattle.std.proofs.lemmas.List.{length-append, length-take, map-append}
use Rattle.std.proofs.lemmas.Result.{on_ok_weaker}
use Rattle.store_model.proofs.Told.{counts_join}
use Rattle.vx_base.specs.declared.parts.Geometry.{Geometry}
use Rattle.store_model.specs.declared.fault.StoreFault.{StoreFault}
use Rattle.store_model.specs.Disk.{Disk, WhereBothTold}
use Rattle.store_model.specs.File.{is_synced, seen}
use Rattle.layer_session.specs.Unnamed.{NamesNoLog}
use Rattle.store_model.specs.Trace.{Trace, file_of}
use Rattle.vhdx_format.specs.declared.log_entry.Page.{Page}
use Rattle.chain_model.specs.Images.{Placed}
use Rattle.link_rules.specs.declared.linked.LinkedFile.{LinkedFile}
use Rattle.merge_core.specs.declared.piece.Piece.{Piece}
use Rattle.merge_plan.specs.Attached.{CanStart}
use Rattle.merge_plan.specs.Merging.{MergeFiles, child_place, source_place}
use Rattle.merge_plan.specs.declared.drawing.MergeIds.{MergeIds}
use Rattle.merge_plan.specs.declared.merge.Merge.{Merge}
use Rattle.layer_session.specs.Begins.{as_found}
use Rattle.chain_core.specs.MergeStarting.{HasStartedMerge, LeavesRest, StartsMerge, between_in, chain_files, inner_parts, is_changed, is_written, source_in, started_merge, target_in, target_place}
use Rattle.chain_core.specs.Sessions.{Session}
use Rattle.chain_core.specs.Starting.{placed_from}
use Rattle.chain_core.specs.States.{IsCourse, IsServing, State, WasSynced, files_of, sector_of}
use Rattle.chain_core.specs.declared.layers.Layers.{Layers}
use Rattle.chain_core.specs.declared.layers.Underway.{Underway}
use Rattle.chain_core.proofs.MergeFound.{AreFound}
use Rattle.chain_core.proofs.MergeTold.{are_found}
use Rattle.script.specs.declared.form.Line.{Line}
use Rattle.script_session.specs.Answers.{AnswersLines}
use Rattle.script_session.specs.Faults.{Counts, FaultsAreTold}
use Rattle.script_session.specs.Histories.{IsMarkedSo, IsOver, all_names, below_marked, names_left, numbers_left, serves}
use Rattle.script_session.specs.MergeRunning.{HasMergeHistory, HasRunMerge, drive_of_merge, just_started, names_without, scope_of}
use Rattle.script_session.specs.Running.{HasRunToEnd, IsEnded}
use Rattle.script_session.specs.Told.{Told, failed_by}
use Rattle.script_session.specs.declared.session.ScriptRun.{ScriptRun}
use Rattle.script_session.proofs.Content.{lines_untold}
use Rattle.script_session.proofs.Counting.{lines_counted}
use Rattle.script_session.proofs.Ending.{end_counted, end_untold, faults_told, last_counted, quiet_end}
use Rattle.script_session.proofs.LeftFiles.{all_at, names_all, names_started, number_of}
use Rattle.script_session.proofs.LinesTold.{lines_told}
use Rattle.script_session.proofs.MergeEnds.{IsNewMerge, has_history}
use Rattle.script_session.proofs.Resting.{IsSame, IsScope}

-- ---- the history

either_false : (a b : Bool) → (a || b) ≡ false → a ≡ false
either_false false b h = refl
either_false true b h = let bad : true ≡ false = h in absurd (cc)

-- the source isn't one of the files that are changed once the merge is prepared
source_unwritten : (m : MergeFiles) → is_written m (source_place m) ≡ false
source_unwritten m =
    ap₂ (λ (a b : Bool). a || b) (ap₂ (λ (a b : Bool). a || b) (ne_eqb (source_place m) 0 (λ e. absurd (omega (arith, e)))) (ne_eqb (source_place m) (child_place m) (λ e. absurd (omega (arith, e))))) (ne_eqb (source_place m) (target_place m) (λ e. absurd (omega (arith, e))))

-- nothing of it was unsynced then
pub source_then : (m : MergeFiles) (ids : MergeIds) (pages : List Page) (trace mid : Trace)
    → (let v = started_merge trace mid m ids pages in AllByRecursion (WasSynced v.writes v.since) (files_of v)) → is_synced (file_of mid (source_place m)) ≡ true
source_then m ids pages trace mid synced =
    let v = started_merge trace mid m ids pages in
    let below : List Placed = placed_from trace (target_place m + 1) m.below in
    all_at (WasSynced v.writes v.since) (between_in trace m.above m.child ids.child) (source_in trace m ids pages) (target_in trace m ids ∷ below) synced.1 (source_unwritten m)

-- Of the numbers that are left one is the child's, where it isn't the leaf, and one the target's.
module _ (m : MergeFiles) (ids : MergeIds) (pages : List Page) (trace mid : Trace) (P : ℕ → Type 0) (leaf : P 0) (others : AllByRecursion P (numbers_left (started_merge trace mid m ids pages))) where
  abbrev target_behind : List Placed
  target_behind = target_in trace m ids ∷ placed_from trace (target_place m + 1) m.below

  parted : AllByRecursion P (map number_of (between_in trace m.above m.child ids.child) ++ map number_of target_behind)
  parted = subst (AllByRecursion P) (map-append number_of (between_in trace m.above m.child ids.child) target_behind) others.1

  target : P (target_place m)
  target = all_at P (map number_of (between_in trace m.above m.child ids.child)) (target_place m) (map number_of (placed_from trace (target_place m + 1) m.below)) parted

  first_part : (first last : List ℕ) → AllByRecursion P (first ++ last) → AllByRecursion P first
  first_part [] last h = tt
  first_part (n ∷ first) last h = (h.0, first_part first last h.1)

  child : P (child_place m)
  child = by_above m.above (first_part (map number_of (between_in trace m.above m.child ids.child)) (map number_of target_behind) parted) where
    by_above : (above : List LinkedFile) → AllByRecursion P (map number_of (between_in trace above m.child ids.child)) → P (length above)
    by_above [] h = leaf
    by_above (top ∷ above) h =
        let last = as_found trace (length (top ∷ above)) (inner_parts ids.child m.child.parts) in
        all_at P (map number_of (placed_from trace 1 above)) (length (top ∷ above)) [] (subst (AllByRecursion P) (map-append number_of (placed_from trace 1 above) (last ∷ [])) h)

  own_numbers : (n : ℕ) → is_written m n ≡ true → P n
  own_numbers n written = elim (or_cases (n == 0 || n == child_place m) (n == target_place m) written) [
    | inl upper ↦ elim (or_cases (n == 0) (n == child_place m) upper) [
      | inl e ↦ subst P (sym (eqb-true n 0 e)) leaf
      | inr e ↦ subst P (sym (eqb-true n (child_place m) e)) child
    ]
    | inr e ↦ subst P (sym (eqb-true n (target_place m) e)) target
  ]

-- what isn't written once the merge is prepared, and was changed before, is the source
only_source : (m : MergeFiles) (n : ℕ) → is_changed m n ≡ true → is_written m n ≡ false → n ≡ source_place m
only_source m n changed unwritten = elim (or_cases (is_written m n) (n == source_place m) changed) [
  | inl written ↦ absurd (let bad : false ≡ true = sym unwritten ∙ written in cc)
  | inr e ↦ eqb-true n (source_place m) e
]

pub scope_is : (m : MergeFiles) (merge : Merge) (trace mid : Trace) → ((other : ℕ) → is_changed m other ≡ false → file_of mid other ≡ file_of trace other) → is_synced (file_of mid (source_place m)) ≡ true → NamesNoLog (seen (file_of mid (source_place m)))
    → names_left (started_merge trace mid m merge.ids merge.twice) ≡ names_without m → all_names (started_merge trace mid m merge.ids merge.twice) ≡ map (λ (f : LinkedFile). f.name) (chain_files m) → IsScope IsSame (scope_of m) (started_merge trace mid m merge.ids merge.twice) trace mid
scope_is m merge trace mid rest synced no_log names all = record {
  leaf = refl;
  history = refl;
  opening = refl;
  began = refl;
  since = refl;
  changes = λ n none. either_false (is_written m n) _ none;
  rest = rest;
  quiet = λ n changed unwritten. subst (λ k. is_synced (file_of mid k) ≡ true) (sym (only_source m n changed unwritten)) synced;
  unnamed = λ n changed unwritten. subst (λ k. NamesNoLog (seen (file_of mid k))) (sym (only_source m n changed unwritten)) no_log;
  own = λ P first left n written. own_numbers m merge.ids merge.twice trace mid P first left n written;
  names = names;
  all = all;
}

-- ---- the whole

-- a merge that has just started has no mark
started_marks : (layers : Layers) (trace mid : Trace) (m : MergeFiles) (ids : MergeIds) (pages : List Page) → IsServing layers (started_merge trace mid m ids pages) mid → layers.retiring ≡ None → IsMarkedSo layers (λ t. false) false
started_marks layers trace mid m ids pages serving only = by_merge layers.merge refl serving.course
  where
    v : State
    v = started_merge trace mid m ids pages

    by_merge : (o : Option Underway) → layers.merge ≡ o → IsCourse (sector_of v) v.writes layers o v.top v.rest → IsMarkedSo layers (λ t. false) false
    by_merge None is course = absurd course
    by_merge (Some u) is course = below_marked u is only course.marks

module _ (files : List LinkedFile) (name : List ℕ) (before : Session) (old : Disk) (drawn now : Option (List (List ℕ))) (can : CanStart files old) (new : IsNewMerge before) (begun : HasStartedMerge files name old before.disk drawn now before.layers) where
  abbrev m : MergeFiles
  m = begun.m

  abbrev state : Trace → Trace → State
  state trace mid = started_merge trace mid m begun.merge.ids begun.merge.twice

  some_file : 0 < before.disk.files
  some_file =
      let there : length files ≤ old.files = can.there in
      let disk : before.disk.files ≡ old.files = ap (λ (d : Disk). d.files) begun.begun.counts in
      let long : length files ≡ length (chain_files m) = ap length begun.planned.begun.files_are.files_are in
      let more : length (chain_files m) ≡ length m.above + length (m.child ∷ m.source ∷ m.target ∷ m.below) = length-append m.above (m.child ∷ m.source ∷ m.target ∷ m.below) in
      omega (arith, there, disk, long, more)

  over_start : (trace mid : Trace) → IsServing before.layers (state trace mid) mid → IsOver (drive_of_merge m trace) (state trace mid) before
  over_start trace mid serving = record {
    geometry = begun.begun.geometry;
    change = begun.begun.session;
    opening = refl;
    sector = sym (ap (λ (g : Geometry). g.sector) serving.geometry) ∙ new.sector;
    noted = new.noted;
    kept = new.told;
  }

  histories : (lines : List Line) (many : ℕ) (told : List Told) (behind : Session) (slot left : Piece) (after : Disk) (closed : Result (Unit {0}) StoreFault) → length lines ≤ 2 ^ 20 → slot.filled ≡ false
      → AnswersLines 1 (take many lines) told before slot behind left → IsEnded behind after closed → WhereBothTold (HasMergeHistory m (take many lines) told closed) old.told after.told
  histories lines many told behind slot left after closed few empty answers ended = go old.told before.disk.told refl refl begun.begun.serving begun.still
    where
      go : (a b : Option Trace) → old.told ≡ a → before.disk.told ≡ b → StartsMerge m begun.merge before.layers a b → LeavesRest m a b → WhereBothTold (HasMergeHistory m (take many lines) told closed) a after.told
      go None None is f serving rest =
          let none = end_untold behind after closed ended (lines_untold 1 (take many lines) told before behind slot left f answers) in
          subst (λ o. WhereBothTold (HasMergeHistory m (take many lines) told closed) None o) (sym none) tt
      go None (Some y) is f serving rest = absurd serving
      go (Some x) None is f serving rest = absurd serving
      go (Some x) (Some y) is f serving rest =
          let found : AreFound x m = are_found m old (subst (λ fs. CanStart fs old) begun.planned.begun.files_are.files_are can) x is in
          has_history (scope_of m) (state x y) x y (scope_is m begun.merge x y rest (source_then m begun.merge.ids begun.merge.twice x y serving.serving.synced) serving.no_log (names_started x y m begun.merge.ids begun.merge.twice found) (names_all x y m begun.merge.ids begun.merge.twice found))
          (take many lines) told behind after closed ended left
          (lines_told (drive_of_merge m x) 1 (take many lines) told (state x y) (just_started false) None before behind slot left y f (serves new.broken serving.serving (started_marks before.layers x y m begun.merge.ids begun.merge.twice serving.serving begun.begun.only, empty)) (over_start x y serving.serving)
          (omega (arith, few, new.events, length-take many lines)) answers)

  pub merge_ran : (names : List (List ℕ)) (lines : List Line) (slot left : Piece) (run : ScriptRun) (after : Disk) → length lines ≤ 2 ^ 20 → slot.filled ≡ false → HasRunToEnd names lines before slot left run after
      → HasRunMerge files name names lines run old after drawn now
  merge_ran names lines slot left run after few empty r =
      let ran = r.ran in
      let counts = lines_counted 1 (take ran.many lines) ran.told before r.behind slot left some_file new.broken ran.answers in
      record {
        m = m;
        merge = begun.merge;
        planned = begun.planned;
        many = ran.many;
        told = ran.told;
        whole = ran.whole;
        fault_is = ran.fault_is;
        counted = subst (λ o. IfSome o (Counts after)) (sym ran.fault_is) (last_counted ran.told before r.behind after run.closed counts r.ended);
        ended = end_counted ran.told before r.behind after run.closed counts r.ended some_file;
        quiet = λ none. on_ok_weaker run.closed (λ same. counts_join old before.disk after begun.begun.counts same) (quiet_end ran.told before r.behind after run.closed counts r.ended (sym ran.fault_is ∙ none));
        faults =
            let k = faults_told ran.told before r.behind after run.closed counts r.ended in
            subst (λ n. FaultsAreTold ran.told (failed_by run.closed) n old.failed_changes after.failed_reads after.failed_changes) (ap (λ (d : Disk). d.files) begun.begun.counts) (record { each = k.each; end = k.end; none = λ none. k.none none ∙ ap (λ (d : Disk). d.failed_changes) begun.begun.counts });
        history = histories lines ran.many ran.told r.behind slot left after run.closed few empty ran.answers r.ended;
      }
