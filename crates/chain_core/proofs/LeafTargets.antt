-- The target while the leaf is merged into it: its file goes over to another state, under another layer.
use Rattle.std.proofs.Common.{◌≡◌, ◌≢◌, ℕ, true, false, List, [], ◌∷◌, ◌++◌, refl, sym, ap, subst, ◌∙◌, is_some, ◌⊎◌, inl, inr}
use Rattle.std.specs.Prelude.{Option, Some, None, IfSome, option_map}
use Rattle.std.specs.List.{AllByRecursion}
use Rattle.std.specs.Option.{option_or}
use Rattle.std.proofs.lemmas.Bool.{or_parts, or_from, cases_eq}
use Rattle.layer_session.proofs.FileLayers.{phase_others}
use Rattle.chain_model.proofs.Showing.{all_right}
use Rattle.store_model.specs.File.{is_synced}
use Rattle.store_model.specs.Trace.{Trace, file_of}
use Rattle.guest_model.specs.History.{either}
use Rattle.chain_model.specs.Layers.{Layer as SectorLayer}
use Rattle.chain_model.specs.Members.{NoneTwice, names_of}
use Rattle.chain_model.specs.Merges.{IsTrue, IsUnderWay, Piece, with_mark}
use Rattle.chain_model.specs.Stripes.{stamp, stripe_of}
use Rattle.chain_model.specs.Images.{Placed, members_of}
use Rattle.chain_model.specs.Moments.{IsPhase}
use Rattle.chain_model.specs.Sessions.{IsKept, IsServed, LooseInMerge, ShowsFile}
use Rattle.chain_model.specs.PhaseLaws.{Survives, loosened}
use Rattle.chain_model.proofs.Calling.{loosened_is_kept}
use Rattle.chain_model.proofs.Phasing.{target_goes_over}
use Rattle.chain_model.proofs.Merging.{kept_by_put, true_pieces}
use Rattle.chain_model.proofs.Serving.{past_goes_on}
use Rattle.layer_session.specs.declared.file.Layer.{Layer}
use Rattle.layer_session.specs.declared.file_layer.FileLayer.{FileLayer}
use Rattle.layer_session.specs.declared.file_layer.FileLayer.TheVariants.{Session}
use Rattle.layer_session.specs.FileLayers.{HaveFiles}
use Rattle.layer_session.specs.Keeping.{Serves}
use Rattle.layer_session.proofs.Crashes.{layers_are_kept}
use Rattle.layer_session.proofs.Standing.{layers_stand}
use Rattle.merge_core.specs.Copied.{marks_of}
use Rattle.merge_core.specs.Stamping.{stamps_of}
use Rattle.table_pages.specs.declared.tables.TableParts.{TableParts}
use Rattle.vhdx_format.specs.declared.log_entry.Page.{Page}
use Rattle.chain_core.specs.declared.layers.Layers.{Layers}
use Rattle.chain_core.specs.declared.layers.Retiring.{Retiring}
use Rattle.chain_core.specs.Answering.{EachOpensNow, HasEnded, IsRefused}
use Rattle.chain_core.specs.Copying.{IsMarkedToo}
use Rattle.chain_core.specs.Merging.{IsCopied, is_in, with_piece}
use Rattle.chain_core.specs.States.{AreHeld, AreWritten, IsCleared, IsCourse, IsLeaving, IsRetiring, IsServing, Renames, State, dirty_now, retiring, sector_of, seen_in, target_parts}
use Rattle.chain_core.proofs.Children.{ended_by}
use Rattle.chain_core.proofs.Putting.{HasFailedPut, IsKeptAs, IsPut, apart_around}
use Rattle.chain_core.proofs.Steps.{cleared_alike, fewer_marks, goes_over, names_behind, phase_beside, still_once, still_read}
use Rattle.layer_session.proofs.Equal.{false_true, some_none, true_false}

-- what is seen through three layers is there still, where the middle one owns more
there_behind : (a t o r : Option (List ℕ)) → (is_some t ≡ true → is_some o ≡ true) → is_some (option_or a (option_or t r)) ≡ true → is_some (option_or a (option_or o r)) ≡ true
there_behind (Some x) t o r more there = refl
there_behind None t (Some y) r more there = refl
there_behind None None None r more there = there
there_behind None (Some x) None r more there = absurd (let never : false ≡ true = more refl in false_true never)

module _ (v : State) (target : Placed) (below : List Placed) (first before : SectorLayer) (layers : Layers) (leaf l : Layer) (rest : List FileLayer) (trace : Trace) (serving : IsServing layers (record v { rest = retiring target below first before }) trace)
    (leaf_is : layers.leaf ≡ Some leaf) (was : layers.below.items ≡ Session l ∷ rest) where
  abbrev here : State
  here = record v { rest = retiring target below first before }

  abbrev z : ℕ
  z = sector_of here

  abbrev held : Serves leaf trace v.top × (Serves l trace target × HaveFiles rest trace below)
  held = subst (λ (b : List FileLayer). Serves leaf trace v.top × HaveFiles b trace (target ∷ below)) was (subst (λ o. AreHeld o layers.below.items trace v.top (target ∷ below)) leaf_is serving.held)

  pub serves_leaf : Serves leaf trace v.top
  serves_leaf = held.0

  pub serves_target : Serves l trace target
  serves_target = held.1.0

  abbrev written_all : (v.writes v.top.number ≡ true) × AreWritten v.writes (Session l ∷ rest)
  written_all = subst (λ (b : List FileLayer). (v.writes v.top.number ≡ true) × AreWritten v.writes b) was (subst (λ o. IfSome o (λ leaf. (v.writes v.top.number ≡ true) × AreWritten v.writes layers.below.items)) leaf_is serving.written)

  pub top_written : v.writes v.top.number ≡ true
  top_written = written_all.0

  pub target_written : v.writes target.number ≡ true
  target_written = ap v.writes serves_target.number ∙ written_all.1.0

  abbrev kept_all : AllByRecursion (IsKept trace) (v.top ∷ target ∷ below)
  kept_all = all_right (IsKept trace) v.retired (v.top ∷ target ∷ below) serving.served.kept

  abbrev once_all : NoneTwice (names_of (members_of (v.top ∷ target ∷ below)))
  once_all = names_behind v.retired (v.top ∷ target ∷ below) serving.served.linked.once

  pub round : AllByRecursion (λ f. f.number ≢ target.number) (v.top ∷ []) × AllByRecursion (λ f. f.number ≢ target.number) below
  round = apart_around trace (v.top ∷ []) target below kept_all once_all

  -- no file but those that may be changed was changed
  still_on : (now : Trace) (P : List ℕ → Type 0) → IsPhase target.number P trace now → (n : ℕ) → v.writes n ≡ false → file_of now n ≡ file_of v.since n
  still_on now P phase n none = phase_others target.number P trace now phase n (λ same. let never : true ≡ false = sym target_written ∙ ap v.writes (sym same) ∙ none in true_false never) ∙ serving.still n none

  -- what a phase of the target leaves of the session, once it shows the other state
  pub serving_behind : (new : Layers) (r : Retiring) (next : Layer) (other : Placed) (P : List ℕ → Type 0) (now : Trace) → IsPhase target.number P trace now → new.geometry ≡ layers.geometry → new.merge ≡ layers.merge → new.retiring ≡ Some r → new.leaf ≡ Some leaf
      → new.below.items ≡ Session next ∷ rest → next.tables.parts ≡ l.tables.parts → Serves next now other → other.number ≡ target.number
      → ((s : ℕ) → is_some (target.member.layer s) ≡ true → is_some (other.member.layer s) ≡ true)
      → IsServed z v.opening v.history v.leaf v.retired (v.top ∷ other ∷ below) now → LooseInMerge (dirty_now here) [] v.top other below
      → IsLeaving z v.writes v.history new r v.top other first before → EachOpensNow here trace now
      → IsServing new (record v { rest = retiring other below first before }) now
  serving_behind new r next other P now phase geometry merge_now retiring_now leaf_now items parts_are serves number more served loose leaving moments = record {
    once = still_once target.number P trace now phase serving.once;
    geometry = geometry ∙ serving.geometry;
    served = served;
    loose = loose;
    course = subst (λ o. IsCourse z v.writes new o v.top (retiring other below first before)) (sym merge_now) (by_merge layers.merge serving.course);
    leaving = subst (λ o. IsRetiring z v.writes v.history new o v.top (retiring other below first before)) (sym retiring_now) leaving;
    drops = serving.drops;
    held = subst (λ o. AreHeld o new.below.items now v.top (other ∷ below)) (sym leaf_now) (
      layers_stand.beside leaf trace now v.top held.0 (phase_beside target.number P trace now phase v.top.number round.0.0),
      subst (λ (b : List FileLayer). HaveFiles b now (other ∷ below)) (sym items) (serves, still_read target.number P trace now phase rest below round.1 held.1.1),
    );
    whole = λ s inside. there_behind (v.top.member.layer s) (target.member.layer s) (other.member.layer s) (seen_in below s) (more s) (serving.whole s inside);
    synced = (serving.synced.0, ((λ w. ap (λ (n : ℕ). is_synced (file_of v.since n)) number ∙ serving.synced.1.0 (ap v.writes (sym number) ∙ w)), serving.synced.1.1));
    written = subst (λ o. IfSome o (λ leaf. (v.writes v.top.number ≡ true) × AreWritten v.writes new.below.items)) (sym leaf_now)
        (written_all.0, subst (AreWritten v.writes) (sym items) (ap (λ (p : TableParts). v.writes p.file) parts_are ∙ written_all.1.0, written_all.1.1));
    still = still_on now P phase;
    past = past_goes_on.quiet z v.opening v.history (λ s. false) v.leaf v.began trace now serving.past moments;
  }
    where
      by_merge : (m : Option _) → IsCourse z v.writes layers m v.top (retiring target below first before) → IsCourse z v.writes new m v.top (retiring other below first before)
      by_merge None is = tt
      by_merge (Some u) is = is

  -- ---- a put

  module _ (r : Retiring) (piece : Piece) (now : Trace) (retiring_is : layers.retiring ≡ Some r) (true_piece : IsTrue z first v.history piece) (stamp_is : piece.stamp ≡ stamp z v.history piece.stripe) where
    abbrev wide : Placed
    wide = loosened (either target.is_loose (is_in piece)) target

    abbrev after : Placed
    after = with_piece piece target

    pub leaving : IsLeaving z v.writes v.history layers r v.top target first before
    leaving = subst (λ o. IsRetiring z v.writes v.history layers o v.top (retiring target below first before)) retiring_is serving.leaving

    -- what the leaf doesn't own isn't in the piece
    none_there : (s : ℕ) → v.top.member.layer s ≡ None → piece.sectors s ≡ None
    none_there s none = by_stripe (cases_eq (stripe_of z s) piece.stripe)
      where
        by_stripe : (stripe_of z s ≡ piece.stripe) ⊎ (stripe_of z s ≢ piece.stripe) → piece.sectors s ≡ None
        by_stripe (inr out) = true_piece.within s out
        by_stripe (inl same) = true_pieces.current z first v.history piece s leaving.some true_piece stamp_is same ∙ sym (leaving.under_way.source_is s) ∙ none

    loose_before : LooseInMerge (dirty_now here) [] v.top wide below
    loose_before = record { others = serving.loose.others; owned = λ s none. or_from (target.is_loose s) (is_in piece s) (serving.loose.owned s none) (ap is_some (none_there s none)) }

    loose_after : LooseInMerge (dirty_now here) [] v.top after below
    loose_after = record { others = serving.loose.others; owned = loose_before.owned }

    served_wide : IsServed z v.opening v.history v.leaf v.retired (v.top ∷ wide ∷ below) trace
    served_wide = record { linked = serving.served.linked; by = serving.served.by; kept = kept_wide v.retired serving.served.kept; disk = serving.served.disk }
      where
        kept_wide : (xs : List Placed) → AllByRecursion (IsKept trace) (xs ++ v.top ∷ target ∷ below) → AllByRecursion (IsKept trace) (xs ++ v.top ∷ wide ∷ below)
        kept_wide [] all = (all.0, (loosened_is_kept wide.is_loose target trace (λ s out. (or_parts (target.is_loose s) (is_in piece s) out).0) all.1.0, all.1.1))
        kept_wide (p ∷ xs) all = (all.0, kept_wide xs all.1)

    survives : IsPhase target.number (ShowsFile wide) trace now → Survives z v.opening v.history v.leaf (dirty_now here) after v.retired (v.top ∷ after ∷ below) trace now
    survives phase =
        target_goes_over z v.opening v.history v.leaf (dirty_now here) v.retired [] v.top wide after below trace now serving.once served_wide (goes_over wide after trace now refl refl phase)
        (λ s none. over_none (piece.sectors s) (target.member.layer s) (none_there s none)) refl loose_before loose_after
      where
        over_none : (o t : Option (List ℕ)) → o ≡ None → option_or o t ≡ t
        over_none None t h = refl
        over_none (Some k) t h = absurd (let never : Some k ≡ None = h in some_none never)

    module _ (new : Layers) (next : Layer) (geometry : new.geometry ≡ layers.geometry) (merge_now : new.merge ≡ layers.merge) (leaf_now : new.leaf ≡ Some leaf) (items : new.below.items ≡ Session next ∷ rest) (parts_are : next.tables.parts ≡ l.tables.parts) where
      lower_still : target_parts new.below.items ≡ Some leaving.lower
      lower_still = ap target_parts items ∙ ap Some parts_are ∙ sym (ap target_parts was) ∙ leaving.lower_goes_by

      pub piece_copied : (r' : Retiring) → new.retiring ≡ Some r' → IsMarkedToo (with_mark piece.stripe (marks_of r.marks)) r r' → IsPut piece target next trace now → IsCopied piece here new trace now
      piece_copied r' retiring_now marked put =
          let over = survives put.moments in
          record {
            moments = over.moments;
            serving = serving_behind new r' next after (ShowsFile wide) now put.moments geometry merge_now retiring_now leaf_now items parts_are put.holds refl (λ s there. more (piece.sectors s) (target.member.layer s) there)
                (over.served (layers_are_kept next now after put.holds).shows) loose_after
                (record {
                  some = leaving.some;
                  written = leaving.written;
                  parts = leaving.parts;
                  goes_by = ap (option_map (λ (k : Layer). k.tables.parts)) (leaf_now ∙ sym leaf_is) ∙ leaving.goes_by;
                  retires = subst (λ (pages : List Page). Renames leaving.parts.bat_len pages v.top (Some target.member.name)) (sym (ap (λ (k : Retiring). k.retire) marked.rest)) leaving.retires;
                  lower = leaving.lower;
                  lower_goes_by = lower_still;
                  clears = cleared_alike leaving.lower.bat_len r'.clear target after refl refl (subst (λ (c : Option (List Page)). IsCleared leaving.lower.bat_len c target) (sym (ap (λ (k : Retiring). k.clear) marked.rest)) leaving.clears);
                  each = marked.stripes ∙ leaving.each;
                  stamps = λ t there. ap (λ (k : Retiring). stamps_of k.stamps t) marked.rest ∙ leaving.stamps t there;
                  under_way = fewer_marks z first before v.history (marks_of r'.marks) (with_mark piece.stripe (marks_of r.marks)) v.top.member.layer after.member.layer (λ t is. sym (marked.marks_are t) ∙ is)
                      (kept_by_put z first before v.history piece (marks_of r.marks) v.top.member.layer target.member.layer after.member.layer leaving.some true_piece stamp_is (λ s. refl) leaving.under_way);
                }) over.moments;
          }
        where
          more : (o t : Option (List ℕ)) → is_some t ≡ true → is_some (option_or o t) ≡ true
          more (Some k) t h = refl
          more None t h = h

      -- another state of the target that is tied alike and owns the same
      pub leaving_still : (other : Placed) → other.number ≡ target.number → other.metadata ≡ target.metadata → other.member ≡ target.member → IsLeaving z v.writes v.history new r v.top other first before
      leaving_still other number metadata member = record {
        some = leaving.some;
        written = ap v.writes number ∙ leaving.written;
        parts = leaving.parts;
        goes_by = ap (option_map (λ (k : Layer). k.tables.parts)) (leaf_now ∙ sym leaf_is) ∙ leaving.goes_by;
        retires = subst (λ (name : List ℕ). Renames leaving.parts.bat_len r.retire v.top (Some name)) (ap (λ k. k.name) (sym member)) leaving.retires;
        lower = leaving.lower;
        lower_goes_by = lower_still;
        clears = cleared_alike leaving.lower.bat_len r.clear target other metadata (ap (λ k. k.ties) member) leaving.clears;
        each = leaving.each;
        stamps = leaving.stamps;
        under_way = subst (λ (k : SectorLayer). IsUnderWay z first before v.history (marks_of r.marks) v.top.member.layer k) (ap (λ k. k.layer) (sym member)) leaving.under_way;
      }

      pub piece_refused : new.retiring ≡ layers.retiring → IsKeptAs target next trace now → IsRefused here new trace now
      piece_refused same kept_as =
          let over =
          target_goes_over z v.opening v.history v.leaf (dirty_now here) v.retired [] v.top target target below trace now serving.once serving.served (goes_over target target trace now refl refl kept_as.moments)
          (λ s none. refl) refl serving.loose serving.loose in
          record {
            moments = over.moments;
            serving = serving_behind new r next target (ShowsFile target) now kept_as.moments geometry merge_now (same ∙ retiring_is) leaf_now items parts_are kept_as.holds refl (λ s there. there)
                (over.served (layers_are_kept next now target kept_as.holds).shows) serving.loose (leaving_still target refl refl refl) over.moments;
          }

    pub piece_failed : HasFailedPut piece target trace now → HasEnded here trace now
    piece_failed failed = ended_by here layers target.number (ShowsFile wide) trace now serving target_written failed.moments (survives failed.moments).moments
