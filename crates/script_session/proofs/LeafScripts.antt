-- A script's session that starts with the merge of the leaf, from its start to its end.
use Rattle.std.proofs.Common.{◌≡◌, ◌<◌, ◌≤◌, ◌^◌, ◌==◌, ℕ, true, false, List, ◌∷◌, length, map, take, Option, Some, None, Result, refl, sym, ap, ap₂, subst, ◌∙◌, arith, inl, inr}
use Rattle.std.specs.Prelude.{IfSome, is_some}
use Rattle.std.specs.List.{AllByRecursion}
use Rattle.std.proofs.lemmas.Bool.{eqb-true, or_cases}
use Rattle.std.proofs.lemmas.List.{length-take}
use Rattle.std.proofs.lemmas.Result.{on_ok_weaker}
use Rattle.store_model.proofs.Told.{counts_join}
use Rattle.vx_base.specs.declared.parts.Geometry.{Geometry}
use Rattle.vhdx_format.specs.declared.log_entry.Page.{Page}
use Rattle.store_model.specs.declared.fault.StoreFault.{StoreFault}
use Rattle.store_model.specs.Disk.{Disk, WhereBothTold}
use Rattle.store_model.specs.Trace.{Trace, file_of}
use Rattle.link_rules.specs.declared.linked.LinkedFile.{LinkedFile}
use Rattle.merge_core.specs.declared.piece.Piece.{Piece}
use Rattle.merge_plan.specs.Attached.{AreAsOpened, CanStart}
use Rattle.merge_plan.specs.LeafMerging.{LeafFiles}
use Rattle.merge_plan.specs.declared.leaf.LeafMerge.{LeafMerge}
use Rattle.merge_plan.specs.declared.leaf_drawing.LeafMergeIds.{LeafMergeIds}
use Rattle.chain_core.specs.LeafStarting.{HasStartedLeafMerge, KeepsPlan, StartsLeafMerge, is_first_two, leaf_chain, started_leaf_merge}
use Rattle.chain_core.specs.MergeStarting.{LeavesAllBut}
use Rattle.chain_core.specs.Sessions.{Session}
use Rattle.chain_core.specs.States.{IsServing, State}
use Rattle.chain_core.specs.declared.layers.Layers.{Layers}
use Rattle.chain_core.specs.declared.layers.Retiring.{Retiring}
use Rattle.script.specs.declared.form.Line.{Line}
use Rattle.script_session.specs.Answers.{AnswersLines}
use Rattle.script_session.specs.Faults.{Counts, FaultsAreTold}
use Rattle.script_session.specs.Histories.{IsMarkedSo, IsOver, leaf_marked, names_left, serves}
use Rattle.script_session.specs.MergeRunning.{HasLeafHistory, HasRunLeafMerge, drive_over, just_started, leaf_scope_of}
use Rattle.script_session.specs.Running.{HasRunToEnd, IsEnded}
use Rattle.script_session.specs.Told.{Told, failed_by}
use Rattle.script_session.specs.declared.session.ScriptRun.{ScriptRun}
use Rattle.script_session.proofs.Content.{lines_untold}
use Rattle.script_session.proofs.Counting.{lines_counted}
use Rattle.script_session.proofs.Ending.{end_counted, end_untold, faults_told, last_counted, quiet_end}
use Rattle.script_session.proofs.LeftFiles.{names_placed}
use Rattle.script_session.proofs.LinesTold.{lines_told}
use Rattle.script_session.proofs.MergeEnds.{IsNewMerge, has_history}
use Rattle.script_session.proofs.Resting.{IsSame, IsScope}

-- leaf and target are the files that it writes
own_numbers : (P : ℕ → Type 0) (rest : List ℕ) → P 0 → AllByRecursion P (1 ∷ rest) → (n : ℕ) → is_first_two n ≡ true → P n
own_numbers P rest leaf left n written = elim (or_cases (n == 0) (n == 1) written) [
  | inl e ↦ subst P (sym (eqb-true n 0 e)) leaf
  | inr e ↦ subst P (sym (eqb-true n 1 e)) left.0
]

-- the names that stay
names_started : (t now : Trace) (m : LeafFiles) (ids : LeafMergeIds) (pages : List Page) → AreAsOpened t 0 (leaf_chain m) → names_left (started_leaf_merge t now m ids pages) ≡ map (λ (f : LinkedFile). f.name) (m.target ∷ m.below)
names_started t now m ids pages opened = ap₂ (λ (x : List ℕ) (xs : List (List ℕ)). x ∷ xs) opened.1.0.name (names_placed t 2 m.below opened.1.1)

pub scope_is : (m : LeafFiles) (merge : LeafMerge) (trace mid : Trace) → ((other : ℕ) → is_first_two other ≡ false → file_of mid other ≡ file_of trace other) → AreAsOpened trace 0 (leaf_chain m)
    → IsScope IsSame (leaf_scope_of m) (started_leaf_merge trace mid m merge.ids merge.twice) trace mid
scope_is m merge trace mid rest opened = record {
  leaf = refl;
  history = refl;
  opening = refl;
  began = refl;
  since = refl;
  changes = λ n none. none;
  rest = rest;
  quiet = λ n changed unwritten. absurd (let bad : true ≡ false = sym changed ∙ unwritten in cc);
  unnamed = λ n changed unwritten. absurd (let bad : true ≡ false = sym changed ∙ unwritten in cc);
  own = λ P first left n written. own_numbers P _ first left n written;
  names = names_started trace mid m merge.ids merge.twice opened;
  all = ap₂ (λ (x : List ℕ) (xs : List (List ℕ)). x ∷ xs) opened.0.name (names_started trace mid m merge.ids merge.twice opened);
}

-- a merge that has just started has no mark
started_marks : (layers : Layers) (trace mid : Trace) (m : LeafFiles) (ids : LeafMergeIds) (pages : List Page) → IsServing layers (started_leaf_merge trace mid m ids pages) mid → layers.merge ≡ None → (merge : LeafMerge) → IfSome layers.retiring (KeepsPlan merge)
    → is_some layers.retiring ≡ true → IsMarkedSo layers (λ t. false) true
started_marks layers trace mid m ids pages serving only merge plan under_way = by_leaf layers.retiring refl plan under_way
  where
    by_leaf : (o : Option Retiring) → layers.retiring ≡ o → IfSome o (KeepsPlan merge) → is_some o ≡ true → IsMarkedSo layers (λ t. false) true
    by_leaf None is plan there = absurd (let bad : false ≡ true = there in cc)
    by_leaf (Some r) is plan there = leaf_marked r only is plan.marks

-- ---- the whole

module _ (files : List LinkedFile) (before : Session) (old : Disk) (drawn now : Option (List (List ℕ))) (can : CanStart files old) (new : IsNewMerge before) (begun : HasStartedLeafMerge files old before.disk drawn now before.layers) where
  abbrev m : LeafFiles
  m = begun.m

  abbrev state : Trace → Trace → State
  state trace mid = started_leaf_merge trace mid m begun.merge.ids begun.merge.twice

  files_are : files ≡ leaf_chain m
  files_are = begun.planned.begun.files_are

  some_file : 0 < before.disk.files
  some_file =
      let there : length files ≤ old.files = can.there in
      let disk : before.disk.files ≡ old.files = ap (λ (d : Disk). d.files) begun.begun.counts in
      let long : length files ≡ length (leaf_chain m) = ap length files_are in
      omega (arith, there, disk, long)

  over_start : (trace mid : Trace) → IsServing before.layers (state trace mid) mid → IsOver (drive_over (leaf_scope_of m) trace) (state trace mid) before
  over_start trace mid serving = record {
    geometry = begun.begun.geometry;
    change = begun.begun.session;
    opening = refl;
    sector = sym (ap (λ (g : Geometry). g.sector) serving.geometry) ∙ new.sector;
    noted = new.noted;
    kept = new.told;
  }

  histories : (lines : List Line) (many : ℕ) (told : List Told) (behind : Session) (slot left : Piece) (after : Disk) (closed : Result (Unit {0}) StoreFault) → length lines ≤ 2 ^ 20 → slot.filled ≡ false
      → AnswersLines 1 (take many lines) told before slot behind left → IsEnded behind after closed → WhereBothTold (HasLeafHistory m (take many lines) told closed) old.told after.told
  histories lines many told behind slot left after closed few empty answers ended = go old.told before.disk.told refl refl begun.begun.serving begun.still
    where
      go : (a b : Option Trace) → old.told ≡ a → before.disk.told ≡ b → StartsLeafMerge m begun.merge before.layers a b → LeavesAllBut is_first_two a b → WhereBothTold (HasLeafHistory m (take many lines) told closed) a after.told
      go None None is f serving rest =
          let none = end_untold behind after closed ended (lines_untold 1 (take many lines) told before behind slot left f answers) in
          subst (λ o. WhereBothTold (HasLeafHistory m (take many lines) told closed) None o) (sym none) tt
      go None (Some y) is f serving rest = absurd serving
      go (Some x) None is f serving rest = absurd serving
      go (Some x) (Some y) is f serving rest =
          has_history (leaf_scope_of m) (state x y) x y (scope_is m begun.merge x y rest (subst (AreAsOpened x 0) files_are (can.told x is).each)) (take many lines) told behind after closed ended left
          (lines_told (drive_over (leaf_scope_of m) x) 1 (take many lines) told (state x y) (just_started true) None before behind slot left y f
          (serves new.broken serving (started_marks before.layers x y m begun.merge.ids begun.merge.twice serving begun.begun.only begun.merge begun.begun.plan begun.begun.under_way, empty)) (over_start x y serving)
          (omega (arith, few, new.events, length-take many lines)) answers)

  pub leaf_merge_ran : (names : List (List ℕ)) (lines : List Line) (slot left : Piece) (run : ScriptRun) (after : Disk) → length lines ≤ 2 ^ 20 → slot.filled ≡ false → HasRunToEnd names lines before slot left run after
      → HasRunLeafMerge files names lines run old after drawn now
  leaf_merge_ran names lines slot left run after few empty r =
      let ran = r.ran in
      let counts = lines_counted 1 (take ran.many lines) ran.told before r.behind slot left some_file new.broken ran.answers in
      record {
        m = m;
        merge = begun.merge;
        planned = begun.planned;
        many = ran.many;
        told = ran.told;
        whole = ran.whole;
        fault_is = ran.fault_is;
        counted = subst (λ o. IfSome o (Counts after)) (sym ran.fault_is) (last_counted ran.told before r.behind after run.closed counts r.ended);
        ended = end_counted ran.told before r.behind after run.closed counts r.ended some_file;
        quiet = λ none. on_ok_weaker run.closed (λ same. counts_join old before.disk after begun.begun.counts same) (quiet_end ran.told before r.behind after run.closed counts r.ended (sym ran.fault_is ∙ none));
        faults =
            let k = faults_told ran.told before r.behind after run.closed counts r.ended in
            subst (λ n. FaultsAreTold ran.told (failed_by run.closed) n old.failed_changes after.failed_reads after.failed_changes) (ap (λ (d : Disk). d.files) begun.begun.counts) (record { each = k.each; end = k.end; none = λ none. k.none none ∙ ap (λ (d : Disk). d.failed_changes) begun.begun.counts });
        history = histories lines ran.many ran.told r.behind slot left after run.closed few empty ran.answers r.ended;
      }
