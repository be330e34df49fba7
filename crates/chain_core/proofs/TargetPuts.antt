-- A piece is put into the target: what the session keeps of it.
use Rattle.std.proofs.Common.{◌≡◌, ℕ, ◌+◌, ◌<◌, true, false, List, [], ◌∷◌, ◌++◌, length, map, get_or, is_some, refl, sym, ap, subst, ◌∙◌}
use Rattle.std.specs.Prelude.{Option, Some, None, slice_index_or, Result, Ok, Err, IfErr, IfSome, OnOk}
use Rattle.std.specs.Result.{is_ok}
use Rattle.vx_base.specs.declared.parts.Geometry.{Geometry}
use Rattle.store_model.specs.Disk.{Disk, WhereBothTold}
use Rattle.store_model.specs.Trace.{Trace}
use Rattle.guest_model.specs.History.{either}
use Rattle.chain_model.specs.Merges.{with_mark}
use Rattle.chain_model.specs.PhaseLaws.{loosened}
use Rattle.chain_model.specs.Sessions.{ShowsFile}
use Rattle.chain_model.specs.Stripes.{per_stripe}
use Rattle.layer_session.specs.Calls.{Fails, HasKept, KeepsOver, OnRefused, OnRoom, own_file}
use Rattle.layer_session.specs.FileLayers.{IsReadyFile, LeavesOthers, file_numbers}
use Rattle.layer_session.specs.Keeping.{IsReady, Serves}
use Rattle.layer_session.specs.Steps.{has_room, is_full}
use Rattle.layer_session.specs.declared.file.Layer.{Layer}
use Rattle.layer_session.specs.declared.file.LayerFault.{LayerFault}
use Rattle.layer_session.specs.declared.file.LayerFault.TheVariants.{Read, Write, FileFull}
use Rattle.layer_session.specs.declared.file_layer.FileLayer.{FileLayer}
use Rattle.layer_session.specs.declared.file_layer.FileLayer.TheVariants.{Session}
use Rattle.layer_session.proofs.FileLayers.{phase_leaves}
use Rattle.merge_core.specs.Copied.{marks_of}
use Rattle.merge_core.specs.Pieces.{HasPutPiece, PutsPiece, has_sector, piece_of}
use Rattle.merge_core.specs.declared.piece.Piece.{Piece as KeptPiece}
use Rattle.chain_core.specs.declared.layers.Layers.{Layers}
use Rattle.chain_core.specs.declared.layers.Underway.{Underway}
use Rattle.chain_core.specs.declared.layers.Retiring.{Retiring}
use Rattle.chain_core.specs.Answering.{UnlessBroken}
use Rattle.chain_core.specs.Copying.{HasMarked, IsMarked, stamp_in, stamp_of, MarksIn, MarksToo, PutRoomIs, PutTold, PutsAt, PutsInTarget, number_below, session_below, session_in, target_layer, target_number}
use Rattle.chain_core.specs.Merging.{IsTruePiece, PutAnswers}
use Rattle.chain_core.specs.Sessions.{AreReady, IsLow, IsMergeOf, number_of_leaf}
use Rattle.chain_core.specs.States.{AreWritten, IsCourse, IsServing, IsUnder, Rest, State, merging, plain, retiring, sector_of}
use Rattle.chain_core.proofs.Numbers.{stripe_of_512}
use Rattle.chain_core.proofs.Places.{alone, merge_of, some_leaf}
use Rattle.chain_core.proofs.Putting.{copied, put_failed, put_refused, serves_target}
use Rattle.chain_core.proofs.Standing.{same_files}
use Rattle.chain_core.proofs.Replaced.{both_at, index_at, replaced_low, replaced_own, replaced_ready, written_at}
use Rattle.chain_core.proofs.Turning.{KeepsTies, KeepsUnlessBroken, piece_ties}
use Rattle.layer_session.proofs.Equal.{false_true, none_some, some_none, some_same, true_false}

-- ---- the session

marked_some : (stripe : ℕ) (u : Underway) (o p : Option Underway) → o ≡ Some u → MarksIn stripe o p → (made : Underway) × ((p ≡ Some made) × IsMarked (with_mark stripe (marks_of u.marks)) u made)
marked_some stripe u None p is m = absurd (none_some is)
marked_some stripe u (Some w) None is m = absurd m
marked_some stripe u (Some w) (Some made) is m = (made, (refl, subst (λ (k : Underway). IsMarked (with_mark stripe (marks_of k.marks)) k made) (some_same is) m))

pub still_none : (stripe : ℕ) (o p : Option Retiring) → o ≡ None → MarksToo stripe o p → p ≡ None
still_none stripe None None none m = refl
still_none stripe None (Some w) none m = absurd m
still_none stripe (Some r) p none m = absurd (let never : ◌≡◌ {A = Option Retiring} (Some r) None = none in some_none never)

module _ (old new : Layers) (u : Underway) (piece : KeptPiece) (before after : Disk) (merge_is : old.merge ≡ Some u) (ready : AreReady old before) (geometry : new.geometry ≡ old.geometry) (leaf_is : new.leaf ≡ old.leaf) where
  abbrev merge : IsMergeOf old.geometry old.leaf old.below.items u
  merge = merge_of old u before merge_is ready

  -- what the session answers, by what the target's layer does
  module _ (a b : List FileLayer) (l next : Layer) (was : old.below.items ≡ a ++ Session l ∷ b) (now_is : new.below.items ≡ a ++ Session next ∷ b) (place : length a ≡ u.source + 1) (parts_are : next.tables.parts ≡ l.tables.parts) where
    answers_put : piece.stamp ≡ 0 → (x y : Trace) (r : Result (Unit {0}) LayerFault) → PutsPiece l piece x y → OnOk r (HasPutPiece l next piece x y) → OnRefused r (HasKept l next x y) → OnRefused r (KeepsOver l x y) → HasMarked piece.stripe old new r
        → (v : State) (rest : Rest) → IsServing old (record v { rest = rest }) x → IsTruePiece (record v { rest = rest }) (piece_of piece) → PutAnswers (piece_of piece) (record v { rest = rest }) new x y r
    answers_put stamp x y r moments put kept quiet marked v (plain others) serving true_piece = absurd (let never : IsCourse (sector_of v) v.writes old (Some u) v.top (plain others) = subst (λ o. IsCourse (sector_of v) v.writes old o v.top (plain others)) merge_is serving.course in never)
    answers_put stamp x y r moments put kept quiet marked v (retiring target below first before') serving true_piece =
        absurd (let never : IsCourse (sector_of v) v.writes old (Some u) v.top (retiring target below first before') = subst (λ o. IsCourse (sector_of v) v.writes old o v.top (retiring target below first before')) merge_is serving.course in never)
    answers_put stamp x y r moments put kept quiet marked v (merging above source target below m) serving true_piece = by_answer r put kept quiet marked
      where
        here : State
        here = record v { rest = merging above source target below m }

        under : IsUnder (sector_of v) v.writes old u v.top above source target m
        under = subst (λ o. IsCourse (sector_of v) v.writes old o v.top (merging above source target below m)) merge_is serving.course

        the_leaf : (leaf : Layer) × (old.leaf ≡ Some leaf)
        the_leaf = some_leaf old.leaf merge.session

        leaf : Layer
        leaf = the_leaf.0

        none_was : old.retiring ≡ None
        none_was = alone old u before merge_is ready

        at : length a ≡ length above + 1
        at = place ∙ ap (λ n. n + 1) under.place

        serves : Serves l x target
        serves = serves_target v v.top above source target below m old leaf x serving the_leaf.1 a l b was at

        stripes : 0 < per_stripe (sector_of here)
        stripes = stripe_of_512 (sector_of here) (sym ready.sector ∙ ap (λ (k : Geometry). k.sector) serving.geometry)

        all_written : AreWritten v.writes new.below.items
        all_written =
            subst (AreWritten v.writes) (sym now_is)
            (written_at l next parts_are v.writes a b (subst (AreWritten v.writes) was (subst (λ o. IfSome o (λ leaf. (v.writes v.top.number ≡ true) × AreWritten v.writes old.below.items)) the_leaf.1 serving.written).1))

        by_answer : (r : Result (Unit {0}) LayerFault) → OnOk r (HasPutPiece l next piece x y) → OnRefused r (HasKept l next x y) → OnRefused r (KeepsOver l x y) → HasMarked piece.stripe old new r → PutAnswers (piece_of piece) here new x y r
        by_answer (Ok done) put kept quiet marked =
            let made = marked_some piece.stripe u old.merge new.merge merge_is marked.0 in
            copied v v.top above source target below m old leaf x serving the_leaf.1 a l b was at new u made.0 next (piece_of piece) y geometry (still_none piece.stripe old.retiring new.retiring none_was marked.1) (leaf_is ∙ the_leaf.1) merge_is now_is stripes true_piece stamp all_written parts_are
            (record { moments = moments.over target serves; holds = put.serves target serves }) made.1.0 made.1.1.source made.1.1.relink made.1.1.marks_are
        by_answer (Err (Read fault)) put kept quiet marked =
            put_refused v v.top above source target below m old leaf x serving the_leaf.1 a l b was at new u u next (piece_of piece) y geometry (marked.1 ∙ none_was) (leaf_is ∙ the_leaf.1) merge_is now_is stripes true_piece stamp all_written parts_are
            (record { moments = quiet.over target serves; holds = kept.serves target serves }) (marked.0 ∙ merge_is)
        by_answer (Err (FileFull n)) put kept quiet marked =
            put_refused v v.top above source target below m old leaf x serving the_leaf.1 a l b was at new u u next (piece_of piece) y geometry (marked.1 ∙ none_was) (leaf_is ∙ the_leaf.1) merge_is now_is stripes true_piece stamp all_written parts_are
            (record { moments = quiet.over target serves; holds = kept.serves target serves }) (marked.0 ∙ merge_is)
        by_answer (Err (Write fault)) put kept quiet marked =
            put_failed v v.top above source target below m old leaf x serving the_leaf.1 a l b was at new u u next (piece_of piece) y geometry (marked.1 ∙ none_was) (leaf_is ∙ the_leaf.1) merge_is now_is stripes true_piece stamp all_written parts_are
            (record { moments = moments.over target serves })

    told_by : piece.stamp ≡ 0 → (o p : Option Trace) (r : Result (Unit {0}) LayerFault) → WhereBothTold (PutsPiece l piece) o p → OnOk r (WhereBothTold (HasPutPiece l next piece) o p) → OnRefused r (WhereBothTold (HasKept l next) o p) → OnRefused r (WhereBothTold (KeepsOver l) o p)
        → HasMarked piece.stripe old new r → WhereBothTold (λ trace now. (v : State) → IsServing old v trace → IsTruePiece v (piece_of piece) → PutAnswers (piece_of piece) v new trace now r) o p
    told_by stamp None None r moments put kept quiet marked = tt
    told_by stamp None (Some y) r moments put kept quiet marked = moments
    told_by stamp (Some x) None r moments put kept quiet marked = moments
    told_by stamp (Some x) (Some y) (Ok t) moments put kept quiet marked = λ v serving true_piece. answers_put stamp x y (Ok t) moments put tt tt marked v v.rest serving true_piece
    told_by stamp (Some x) (Some y) (Err (Read f)) moments put kept quiet marked = λ v serving true_piece. answers_put stamp x y (Err (Read f)) moments tt kept quiet marked v v.rest serving true_piece
    told_by stamp (Some x) (Some y) (Err (FileFull n)) moments put kept quiet marked = λ v serving true_piece. answers_put stamp x y (Err (FileFull n)) moments tt kept quiet marked v v.rest serving true_piece
    told_by stamp (Some x) (Some y) (Err (Write f)) moments put kept quiet marked = λ v serving true_piece. answers_put stamp x y (Err (Write f)) moments tt tt tt marked v v.rest serving true_piece

    -- ---- for every store

    pub own : IsReadyFile old.geometry before (Session l)
    own = replaced_own old new u before after merge_is ready geometry leaf_is a b l next was now_is parts_are

    pub leaves : WhereBothTold (PutsPiece l piece) before.told after.told → WhereBothTold (LeavesOthers (own_file l)) before.told after.told
    leaves h =
        both_at (PutsPiece l piece) (LeavesOthers (own_file l)) before.told after.told h
        (λ t u x y puts.
        let s = own.ready.told t x in
        subst (λ n. LeavesOthers n t u) s.1.number (phase_leaves s.0.number (ShowsFile (loosened (either s.0.is_loose (has_sector piece)) s.0)) t u (puts.over s.0 s.1)))

    pub put_number : target_number old ≡ own_file l
    put_number =
        ap (λ o. number_below (file_numbers old.below.items) o) merge_is ∙ ap (λ (c : List FileLayer). get_or (file_numbers c) (u.source + 1) 0) was ∙ ap (λ n. get_or (file_numbers (a ++ Session l ∷ b)) n 0) (sym place) ∙ index_at a b (Session l)

-- ---- room

-- what a put of a piece says of room
pub put_room : (piece : KeptPiece) (target : Layer) (disk : Disk) (r : Result (Unit {0}) LayerFault) → ((next : ℕ) → r ≡ Err (FileFull next) → is_full false piece.first piece.count next target disk)
    → ((s : ℕ) → has_sector piece s ≡ true → OnRoom r (has_room false piece.first piece.count target disk)) → PutRoomIs piece target disk r
put_room piece target disk (Ok done) full room = room
put_room piece target disk (Err (Read fault)) full room = tt
put_room piece target disk (Err (FileFull next)) full room = full next refl
put_room piece target disk (Err (Write fault)) full room = room

-- no merge of the leaf is under way
pub too_none : (stripe : ℕ) (o p : Option Retiring) → o ≡ None → p ≡ o → MarksToo stripe o p
too_none stripe o p none same = subst (λ (k : Option Retiring). MarksToo stripe o k) (sym same) (subst (λ (k : Option Retiring). MarksToo stripe k k) (sym none) tt)

pub stamp_none : (layers : Layers) (stripe : ℕ) → layers.retiring ≡ None → stamp_of layers stripe ≡ 0
stamp_none layers stripe none = ap (λ o. stamp_in o stripe) none

-- ---- the whole call

item_at : (a : List FileLayer) (x : FileLayer) (b : List FileLayer) → slice_index_or (map (λ l. Some l) (a ++ x ∷ b)) (length a) None ≡ Some x
item_at [] x b = refl
item_at (y ∷ a) x b = item_at a x b

pub marked_ok : (stripe : ℕ) (old new : Layers) (r : Result (Unit {0}) LayerFault) → is_ok r ≡ true → MarksIn stripe old.merge new.merge → MarksToo stripe old.retiring new.retiring → HasMarked stripe old new r
marked_ok stripe old new (Ok done) is marks too = (marks, too)
marked_ok stripe old new (Err fault) is marks too = absurd (false_true is)

pub marked_err : (stripe : ℕ) (old new : Layers) (r : Result (Unit {0}) LayerFault) → is_ok r ≡ false → new.merge ≡ old.merge → new.retiring ≡ old.retiring → HasMarked stripe old new r
marked_err stripe old new (Ok done) is same kept = absurd (true_false is)
marked_err stripe old new (Err fault) is same kept = (same, kept)

module _ (old new : Layers) (u : Underway) (piece : KeptPiece) (before after : Disk) (r : Result (Unit {0}) LayerFault) (merge_is : old.merge ≡ Some u) (ready : AreReady old before) (geometry : new.geometry ≡ old.geometry) (leaf_is : new.leaf ≡ old.leaf)
    (put : PutsAt (u.source + 1) piece old.below.items new.below.items before after r) where
  target_told : piece.stamp ≡ 0 → HasMarked piece.stripe old new r → PutTold (piece_of piece) old new before after r
  target_told stamp marked =
      told_by old new u piece before after merge_is ready geometry leaf_is put.above put.below put.was put.now put.was_there put.now_there put.place put.parts stamp before.told after.told r put.moments put.put put.kept put.quiet marked

  target_low : (most : ℕ) → IsLow most old → IsLow (most + 1) new
  target_low = replaced_low old new u before after merge_is ready geometry leaf_is put.above put.below put.was put.now put.was_there put.now_there put.parts put.number

  target_fails : IfErr r (Fails (target_number old) before after)
  target_fails = subst (λ n. IfErr r (Fails n before after)) (sym (put_number old new u piece before after merge_is ready geometry leaf_is put.above put.below put.was put.now put.was_there put.now_there put.place put.parts)) put.err

  target_within : target_number old < before.files
  target_within =
      subst (λ n. n < before.files) (sym (put_number old new u piece before after merge_is ready geometry leaf_is put.above put.below put.was put.now put.was_there put.now_there put.place put.parts))
      (own old new u piece before after merge_is ready geometry leaf_is put.above put.below put.was put.now put.was_there put.now_there put.place put.parts).ready.readable.there

  target_is : target_layer old ≡ Some put.was
  target_is =
      ap (λ o. session_below old.below.items o) merge_is ∙ ap (λ (c : List FileLayer). session_in (slice_index_or (map (λ l. Some l) c) (u.source + 1) None)) put.was_there
      ∙ ap (λ n. session_in (slice_index_or (map (λ l. Some l) (put.above ++ Session put.was ∷ put.below)) n None)) (sym put.place) ∙ ap session_in (item_at put.above (Session put.was) put.below)

  target_room : IfSome (target_layer old) (λ l. PutRoomIs piece l before r)
  target_room = subst (λ o. IfSome o (λ l. PutRoomIs piece l before r)) (sym target_is) put.room

  target_ready : HasMarked piece.stripe old new r → UnlessBroken r (AreReady new after)
  target_ready marked = by_answer r put.counts put.err put.ready put.refused marked (piece_ties put.was put.now piece before.told after.told r put.put put.kept)
    where
      made_ready : after.files ≡ before.files → IsReady put.now after → WhereBothTold (KeepsTies put.was put.now) before.told after.told → (w : Underway) → new.merge ≡ Some w → w.source ≡ u.source → w.relink ≡ u.relink → w.marks.stripes ≡ u.marks.stripes → new.retiring ≡ None → AreReady new after
      made_ready files is keeps w =
          replaced_ready old new u before after merge_is ready geometry leaf_is put.above put.below put.was put.now put.was_there put.now_there put.parts
          (leaves old new u piece before after merge_is ready geometry leaf_is put.above put.below put.was put.now put.was_there put.now_there put.place put.parts put.moments) files is keeps w

      by_answer : (r : Result (Unit {0}) LayerFault) → OnOk r (after ≡ record before { told = after.told }) → IfErr r (Fails (own_file put.was) before after) → OnOk r (IsReady put.now after) → OnRefused r (IsReady put.now after) → HasMarked piece.stripe old new r
          → KeepsUnlessBroken r put.was put.now before.told after.told → UnlessBroken r (AreReady new after)
      by_answer (Ok done) counts fails is refused marked keeps =
          let made = marked_some piece.stripe u old.merge new.merge merge_is marked.0 in
          made_ready (same_files (own_file put.was) before after (Ok done) counts fails) is keeps made.0 made.1.0 made.1.1.source made.1.1.relink made.1.1.stripes (still_none piece.stripe old.retiring new.retiring (alone old u before merge_is ready) marked.1)
      by_answer (Err (Read fault)) counts fails is refused marked keeps = made_ready (same_files (own_file put.was) before after (Err (Read fault)) counts fails) refused keeps u (marked.0 ∙ merge_is) refl refl refl (marked.1 ∙ alone old u before merge_is ready)
      by_answer (Err (FileFull n)) counts fails is refused marked keeps = made_ready (same_files (own_file put.was) before after (Err (FileFull n)) counts fails) refused keeps u (marked.0 ∙ merge_is) refl refl refl (marked.1 ∙ alone old u before merge_is ready)
      by_answer (Err (Write fault)) counts fails is refused marked keeps = tt

  pub target_put : piece.stamp ≡ 0 → HasMarked piece.stripe old new r → PutsInTarget piece old new before after r
  target_put stamp marked = record {
    told = target_told stamp marked;
    ready = target_ready marked;
    low = target_low;
    session = ap is_some leaf_is;
    leaf = ap number_of_leaf leaf_is;
    geometry = geometry;
    marked = marked;
    counts = put.counts;
    err = target_fails;
    within = target_within;
    room = target_room;
  }
