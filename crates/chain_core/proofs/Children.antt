-- Files of a merge that is under way are committed, or a change of them fails.
use Rattle.std.proofs.Common.{◌≡◌, ℕ, suc, ◌-◌, ◌==◌, true, false, cond, List, [], ◌∷◌, ◌++◌, length, map, get_or, refl, sym, ap, subst, ◌∙◌, is_some}
use Rattle.std.specs.Prelude.{Option, Some, None, option_map, IfSome}
use Rattle.std.specs.List.{AllByRecursion}
use Rattle.std.proofs.lemmas.List.{append_assoc, map-append}
use Rattle.chain_core.proofs.MergeServed.{last_child}
use Rattle.layer_session.proofs.FileLayers.{phase_others}
use Rattle.chain_model.proofs.Showing.{all_right}
use Rattle.store_model.specs.Trace.{Trace}
use Rattle.table_pages.specs.declared.tables.TableParts.{TableParts}
use Rattle.chain_model.specs.Images.{NoneLoose, Placed, members_of}
use Rattle.chain_model.specs.Layers.{Layer as SectorLayer, through}
use Rattle.chain_model.specs.Members.{NoneTwice, layers_of, names_of}
use Rattle.chain_model.specs.Moments.{IsPhase}
use Rattle.chain_model.specs.Sessions.{IsKept, LooseInMerge, ShowsFile}
use Rattle.chain_model.proofs.MergePhasing.{above_goes_over}
use Rattle.chain_model.proofs.Phasing.{target_goes_over}
use Rattle.chain_model.proofs.Serving.{past_goes_on}
use Rattle.layer_session.specs.declared.file.Layer.{Layer}
use Rattle.layer_session.specs.declared.file_layer.FileLayer.{FileLayer}
use Rattle.layer_session.specs.declared.file_layer.FileLayer.TheVariants.{Session}
use Rattle.layer_session.specs.FileLayers.{HaveFiles, table_parts}
use Rattle.layer_session.specs.Calls.{settled}
use Rattle.layer_session.specs.Keeping.{Serves}
use Rattle.layer_session.proofs.Crashes.{layers_are_kept}
use Rattle.layer_session.proofs.Standing.{layers_stand}
use Rattle.chain_core.specs.declared.layers.Layers.{Layers}
use Rattle.chain_core.specs.declared.layers.Underway.{Underway}
use Rattle.chain_core.specs.Answering.{EachOpensNow, HasEnded}
use Rattle.chain_core.specs.States.{AreHeld, AreWritten, IsCourse, IsRetiring, IsServing, IsUnder, Merging, Relinks, State, WasSynced, child_parts, dirty_now, merging, sector_of}
use Rattle.chain_core.proofs.Putting.{apart_around, have_all, have_parts}
use Rattle.chain_core.proofs.Replaced.{written_at}
use Rattle.chain_core.proofs.Rests.{leaf_survives}
use Rattle.chain_core.proofs.Steps.{goes_over, names_behind, phase_beside, relinks_alike, still_once, still_read}
use Rattle.layer_session.proofs.Equal.{true_false}

-- ---- a change of a file failed

-- a phase of a file that may be changed has ended the session
pub ended_by : (v : State) (layers : Layers) (n : ℕ) (P : List ℕ → Type 0) (trace now : Trace) → IsServing layers v trace → v.writes n ≡ true → IsPhase n P trace now → EachOpensNow v trace now → HasEnded v trace now
ended_by v layers n P trace now serving written phase moments = record {
  moments = moments;
  still = λ k none. phase_others n P trace now phase k (λ same. let never : true ≡ false = sym written ∙ ap v.writes (sym same) ∙ none in true_false never) ∙ serving.still k none;
  past = past_goes_on.quiet (sector_of v) v.opening v.history (λ s. false) v.leaf v.began trace now serving.past moments;
}

pub leaf_failed : (v : State) (layers : Layers) (trace now : Trace) → IsServing layers v trace → v.writes v.top.number ≡ true → IsPhase v.top.number (ShowsFile v.top) trace now → HasEnded v trace now
leaf_failed v layers trace now serving written phase =
    ended_by v layers v.top.number (ShowsFile v.top) trace now serving written phase
    (leaf_survives (sector_of v) v.opening v.history v.leaf (dirty_now v) v.retired v.top v.top v.rest trace now serving.once serving.served (goes_over v.top v.top trace now refl refl phase) (λ s. refl) refl serving.loose serving.loose).moments

pub target_failed : (v : State) (top : Placed) (above : List Placed) (source target : Placed) (below : List Placed) (m : Merging) (layers : Layers) (trace now : Trace) → IsServing layers (record v { top = top; rest = merging above source target below m }) trace
    → v.writes target.number ≡ true → IsPhase target.number (ShowsFile target) trace now → HasEnded (record v { top = top; rest = merging above source target below m }) trace now
target_failed v top above source target below m layers trace now serving written phase =
    let here : State = record v { top = top; rest = merging above source target below m } in
    ended_by here layers target.number (ShowsFile target) trace now serving written phase
    (target_goes_over (sector_of here) v.opening v.history v.leaf (dirty_now here) v.retired (top ∷ above) source target target below trace now serving.once serving.served (goes_over target target trace now refl refl phase)
    (λ s none. refl) refl serving.loose serving.loose).moments

-- ---- a child that stands below the leaf

none_but : (s : ℕ) (pre : List Placed) (child after : Placed) (rest : List Placed) → after.is_loose s ≡ false → NoneLoose s ((pre ++ child ∷ []) ++ rest) → NoneLoose s ((pre ++ after ∷ []) ++ rest)
none_but s [] child after rest tight none = (tight, none.1)
none_but s (p ∷ pre) child after rest tight none = (none.0, none_but s pre child after rest tight none.1)

all_but : (P : Placed → Type 0) (pre : List Placed) (child after : Placed) (rest : List Placed) → (P child → P after) → AllByRecursion P ((pre ++ child ∷ []) ++ rest) → AllByRecursion P ((pre ++ after ∷ []) ++ rest)
all_but P [] child after rest h all = (h all.0, all.1)
all_but P (p ∷ pre) child after rest h all = (all.0, all_but P pre child after rest h all.1)

same_layers : (pre : List Placed) (child after : Placed) (rest : List Placed) → after.member.layer ≡ child.member.layer → layers_of (members_of ((pre ++ after ∷ []) ++ rest)) ≡ layers_of (members_of ((pre ++ child ∷ []) ++ rest))
same_layers [] child after rest same = ap (λ (x : SectorLayer). x ∷ layers_of (members_of rest)) same
same_layers (p ∷ pre) child after rest same = ap (λ (more : List SectorLayer). p.member.layer ∷ more) (same_layers pre child after rest same)

long_but : (pre : List Placed) (child after : Placed) → length (pre ++ after ∷ []) ≡ length (pre ++ child ∷ [])
long_but [] child after = refl
long_but (p ∷ pre) child after = ap suc (long_but pre child after)

-- what the child's layer goes by
parts_still : (old new : Layers) (leaf : Layer) (a b : List FileLayer) (l next : Layer) (place : ℕ) → old.leaf ≡ Some leaf → new.leaf ≡ Some leaf → old.below.items ≡ a ++ Session l ∷ b → new.below.items ≡ a ++ Session next ∷ b
    → next.tables.parts ≡ l.tables.parts → child_parts new.leaf new.below.items place ≡ child_parts old.leaf old.below.items place
parts_still old new leaf a b l next place is leaf_now was items parts_are =
    ap (λ o. child_parts o new.below.items place) (leaf_now ∙ sym is)
    ∙ ap (λ (parts : List (Option TableParts)). cond (place == 0) (option_map (λ (l : Layer). l.tables.parts) old.leaf) (get_or parts (place - 1) None))
    (ap (map (λ l. Some (table_parts l))) items ∙ map-append (λ l. Some (table_parts l)) a (Session next ∷ b)
    ∙ ap (λ (p : TableParts). map (λ l. Some (table_parts l)) a ++ Some p ∷ map (λ l. Some (table_parts l)) b) parts_are
    ∙ sym (map-append (λ l. Some (table_parts l)) a (Session l ∷ b)) ∙ ap (map (λ l. Some (table_parts l))) (sym was))

module _ (v : State) (top : Placed) (pre : List Placed) (child source target : Placed) (below : List Placed) (m : Merging) (layers : Layers) (trace now : Trace)
    (serving : IsServing layers (record v { top = top; rest = merging (pre ++ child ∷ []) source target below m }) trace) (phase : IsPhase child.number (ShowsFile child) trace now) where
  abbrev here : State
  here = record v { top = top; rest = merging (pre ++ child ∷ []) source target below m }

  pub child_failed : v.writes child.number ≡ true → HasEnded here trace now
  child_failed written =
      ended_by here layers child.number (ShowsFile child) trace now serving written phase
      (above_goes_over (sector_of here) v.opening v.history v.leaf (dirty_now here) v.retired (top ∷ pre) child child [] source target below trace now serving.once serving.served (goes_over child child trace now refl refl phase)
      (λ s. refl) refl serving.loose serving.loose).moments

  pub child_settled : (new : Layers) (u : Underway) (leaf : Layer) (a b : List FileLayer) (l next : Layer) → layers.leaf ≡ Some leaf → layers.merge ≡ Some u → layers.below.items ≡ a ++ Session l ∷ b → length a ≡ length pre
      → new.geometry ≡ layers.geometry → new.retiring ≡ None → new.leaf ≡ Some leaf → new.merge ≡ Some u → new.below.items ≡ a ++ Session next ∷ b → next.tables.parts ≡ l.tables.parts → Serves next now (settled child)
      → EachOpensNow here trace now × IsServing new (record v { top = top; rest = merging (pre ++ settled child ∷ []) source target below m }) now
  child_settled new u leaf a b l next is merge was place geometry none_now leaf_now merge_now items parts_are serves =
      let z : ℕ = sector_of here in
      let after : Placed = settled child in
      let rest : List Placed = source ∷ target ∷ below in
      let then : State = record v { top = top; rest = merging (pre ++ after ∷ []) source target below m } in
      let e : (pre ++ child ∷ []) ++ rest ≡ pre ++ child ∷ rest = append_assoc pre (child ∷ []) rest in
      let f : (pre ++ after ∷ []) ++ rest ≡ pre ++ after ∷ rest = append_assoc pre (after ∷ []) rest in
      let under : IsUnder z v.writes layers u top (pre ++ child ∷ []) source target m = subst (λ o. IsCourse z v.writes layers o top (merging (pre ++ child ∷ []) source target below m)) merge serving.course in
      let tight : LooseInMerge (dirty_now here) (top ∷ (pre ++ after ∷ [])) source target below =
      record { others = (serving.loose.others.0, (λ s. none_but s pre child after (source ∷ below) refl (serving.loose.others.1 s))); owned = serving.loose.owned } in
      let on = above_goes_over z v.opening v.history v.leaf (dirty_now here) v.retired (top ∷ pre) child after [] source target below trace now serving.once serving.served (goes_over child after trace now refl refl phase) (λ s. refl) refl serving.loose tight in
      let kept : AllByRecursion (IsKept trace) ((top ∷ pre) ++ child ∷ rest) =
      subst (λ (c : List Placed). AllByRecursion (IsKept trace) (top ∷ c)) e (all_right (IsKept trace) v.retired (top ∷ ((pre ++ child ∷ []) ++ rest)) serving.served.kept) in
      let once_all : NoneTwice (names_of (members_of ((top ∷ pre) ++ child ∷ rest))) =
      subst (λ (c : List Placed). NoneTwice (names_of (members_of (top ∷ c)))) e (names_behind v.retired (top ∷ ((pre ++ child ∷ []) ++ rest)) serving.served.linked.once) in
      let round = apart_around trace (top ∷ pre) child rest kept once_all in
      let held : Serves leaf trace top × HaveFiles layers.below.items trace (pre ++ child ∷ rest) =
      subst (λ (c : List Placed). Serves leaf trace top × HaveFiles layers.below.items trace c) e (subst (λ o. AreHeld o layers.below.items trace top ((pre ++ child ∷ []) ++ rest)) is serving.held) in
      let lined = have_parts a (Session l) b trace pre child rest place (subst (λ (c : List FileLayer). HaveFiles c trace (pre ++ child ∷ rest)) was held.1) in
      let first : HaveFiles a now pre = still_read child.number (ShowsFile child) trace now phase a pre round.0.1 lined.0 in
      let last : HaveFiles b now rest = still_read child.number (ShowsFile child) trace now phase b rest round.1 lined.1.1 in
      let stand : HaveFiles new.below.items now ((pre ++ after ∷ []) ++ rest) =
      subst (λ (c : List FileLayer). HaveFiles c now ((pre ++ after ∷ []) ++ rest)) (sym items)
      (subst (λ (c : List Placed). HaveFiles (a ++ Session next ∷ b) now c) (sym f) (have_all a (Session next) b now pre after rest first serves last)) in
      let top_stands : Serves leaf now top = layers_stand.beside leaf trace now top held.0 (phase_beside child.number (ShowsFile child) trace now phase top.number round.0.0) in
      let written : (v.writes top.number ≡ true) × AreWritten v.writes (a ++ Session l ∷ b) =
      subst (λ (c : List FileLayer). (v.writes top.number ≡ true) × AreWritten v.writes c) was (subst (λ o. IfSome o (λ leaf. (v.writes top.number ≡ true) × AreWritten v.writes layers.below.items)) is serving.written) in
      let writes_child : v.writes child.number ≡ true = ap (λ (p : Placed). v.writes p.number) (sym (last_child top pre child)) ∙ under.child_written in
      let under_then : IsUnder z v.writes new u top (pre ++ after ∷ []) source target m = record {
        place = under.place ∙ sym (long_but pre child after);
        written = under.written;
        child_written = ap (λ (p : Placed). v.writes p.number) (last_child top pre after) ∙ writes_child;
        parts = under.parts;
        goes_by = parts_still layers new leaf a b l next u.source is leaf_now was items parts_are ∙ under.goes_by;
        relinks = subst (λ (p : Placed). Relinks under.parts.bat_len u.relink p target) (sym (last_child top pre after))
            (relinks_alike under.parts.bat_len u.relink child after target refl refl refl (subst (λ (p : Placed). Relinks under.parts.bat_len u.relink p target) (last_child top pre child) under.relinks));
        marks = under.marks;
        under_way = under.under_way;
      } in
      let done : IsServing new then now = record {
        once = still_once child.number (ShowsFile child) trace now phase serving.once;
        geometry = geometry ∙ serving.geometry;
        served = on.served (layers_are_kept next now after serves).shows;
        loose = tight;
        course = subst (λ o. IsCourse z v.writes new o top (merging (pre ++ after ∷ []) source target below m)) (sym merge_now) under_then;
        leaving = subst (λ o. IsRetiring z v.writes v.history new o top (merging (pre ++ after ∷ []) source target below m)) (sym none_now) tt;
        drops = serving.drops;
        held = subst (λ o. AreHeld o new.below.items now top ((pre ++ after ∷ []) ++ rest)) (sym leaf_now) (top_stands, stand);
        whole = λ s inside. subst (λ (c : List SectorLayer). is_some (through (top.member.layer ∷ c) s) ≡ true) (sym (same_layers pre child after rest refl)) (serving.whole s inside);
        synced = (serving.synced.0, all_but (WasSynced v.writes v.since) pre child after rest (λ h. h) serving.synced.1);
        written = subst (λ o. IfSome o (λ leaf. (v.writes top.number ≡ true) × AreWritten v.writes new.below.items)) (sym leaf_now)
            (written.0, subst (AreWritten v.writes) (sym items) (written_at l next parts_are v.writes a b written.1));
        still = λ n none. phase_others child.number (ShowsFile child) trace now phase n (λ same. let never : true ≡ false = sym writes_child ∙ ap v.writes (sym same) ∙ none in true_false never) ∙ serving.still n none;
        past = past_goes_on.quiet z v.opening v.history (λ s. false) v.leaf v.began trace now serving.past on.moments;
      } in
      (on.moments, done)
