-- A piece is put into the target of the merge of the leaf, or taken of the leaf: what the layers say of it.
use Rattle.std.proofs.Common.{◌≡◌, ℕ, ◌+◌, ◌<◌, ◌≤◌, true, false, Bool, cond, ◌-◌, ◌⊎◌, inl, inr, List, [], ◌∷◌, ◌++◌, length, map, get_or, is_some, refl, sym, ap, subst, ◌∙◌, arith}
use Rattle.std.specs.Prelude.{Option, Some, None, Result, Ok, Err, IfErr, IfSome, OnErr, OnOk, option_map}
use Rattle.std.specs.List.{AllByRecursion}
use Rattle.vx_base.specs.declared.parts.Geometry.{Geometry}
use Rattle.store_model.specs.Disk.{Disk, ReadFailed, WhereBothTold, WhereTold}
use Rattle.store_model.specs.Trace.{Trace}
use Rattle.store_model.specs.declared.fault.StoreFault.{StoreFault}
use Rattle.guest_model.specs.History.{either}
use Rattle.chain_model.specs.Images.{Placed}
use Rattle.chain_model.specs.Merges.{Piece, with_mark}
use Rattle.chain_model.specs.PhaseLaws.{loosened}
use Rattle.chain_model.specs.Sessions.{ShowsFile}
use Rattle.chain_model.specs.Stripes.{per_stripe, stamp, stripe_count, stripe_of}
use Rattle.guest_model.specs.declared.call.Call.TheVariants as calls
use Rattle.vhdx_format.specs.AllocationTables.{IsSectorSize}
use Rattle.vhdx_format.proofs.SizeLemmas.{sector_cases}
use Rattle.merge_core.proofs.Touching.{calls_touch_ranges}
use Rattle.chain_model.proofs.Merging.{true_pieces}
use Rattle.layer_session.specs.Calls.{Fails, HasKept, IsSame, KeepsOver, OnRefused, own_file}
use Rattle.layer_session.specs.FileLayers.{AreReadyFiles, IsReadyFile, LeavesOthers, file_numbers, log_number}
use Rattle.layer_session.specs.Keeping.{IsReady, Serves}
use Rattle.layer_session.specs.declared.file.Layer.{Layer}
use Rattle.layer_session.specs.declared.file.LayerFault.{LayerFault}
use Rattle.layer_session.specs.declared.file.LayerFault.TheVariants.{Read, Write, FileFull}
use Rattle.layer_session.specs.declared.file_layer.FileLayer.{FileLayer}
use Rattle.layer_session.specs.declared.file_layer.FileLayer.TheVariants.{Session}
use Rattle.layer_session.proofs.FileLayers.{phase_leaves}
use Rattle.merge_core.specs.Copied.{marks_of, without_marks}
use Rattle.merge_core.specs.Pieces.{HasPutPiece, IsTaken, PutsPiece, has_sector, piece_of}
use Rattle.merge_core.specs.Stamping.{stamps_of, with_stamps}
use Rattle.merge_core.specs.declared.piece.Piece.{Piece as KeptPiece}
use Rattle.chain_core.specs.declared.layers.Layers.{Layers}
use Rattle.chain_core.specs.declared.layers.Retiring.{Retiring}
use Rattle.chain_core.specs.declared.layers.Underway.{Underway}
use Rattle.chain_core.specs.Answering.{UnlessBroken}
use Rattle.chain_core.specs.Copying.{FitsDisk, HasMarked, IsMarkedToo, IsTouched, MarksIn, MarksToo, PutRoomIs, PutTold, PutsAt, PutsInTarget, number_below, session_below, session_in, source_number, stamp_in, stamp_of, TakesStripe, number_at_source, target_layer, target_number}
use Rattle.chain_core.specs.Merging.{IsTruePiece, PutAnswers}
use Rattle.chain_core.specs.Sessions.{AreReady, AtMostOne, CanRelink, CanRetire, IsLow, IsMergeOf, IsRetiringOf, header_at, is_session_at, number_of_leaf}
use Rattle.chain_core.specs.States.{AreHeld, IsLeaving, IsRetiring, IsServing, Rest, State, merging, plain, retiring, sector_of}
use Rattle.chain_core.proofs.LeafTargets.{piece_copied, piece_failed, piece_refused, serves_target}
use Rattle.chain_core.proofs.Finding.{leaf_reads}
use Rattle.chain_core.proofs.Places.{one_of, some_failed, some_leaf}
use Rattle.chain_core.proofs.Replaced.{AreParts, both_at, low_at, more_low, parts_of, parts_then, round_apart, top_apart}
use Rattle.chain_core.proofs.Standing.{leaf_of, same_files}
use Rattle.chain_core.proofs.Steps.{LeafStep}
use Rattle.chain_core.proofs.Turning.{Alike, KeepsTies, KeepsUnlessBroken, alike_marked, alike_same, all_but_one, piece_ties, retires_alike, retiring_alike, top_beside, turn_kept}
use Rattle.layer_session.proofs.Equal.{false_true}

-- ---- the layer below the leaf

-- the first of the files below the leaf, and the others
pub record IsFirst (items : List FileLayer) (l : Layer) : Type 0 where
  pub rest : List FileLayer
  pub is : items ≡ Session l ∷ rest

pub first_put : {piece : KeptPiece} {old new : List FileLayer} {before after : Disk} {r : Result (Unit {0}) LayerFault} → (put : PutsAt 0 piece old new before after r) → put.above ≡ []
first_put put = none put.above put.place
  where
    none : (a : List FileLayer) → length a ≡ 0 → a ≡ []
    none [] e = refl
    none (x ∷ a) e = absurd (omega (arith, e))

pub some_kept : (o : Option Retiring) → is_some o ≡ true → (r : Retiring) × (o ≡ Some r)
some_kept None some = absurd (false_true some)
some_kept (Some r) some = (r, refl)

-- no merge below the leaf is under way
pub none_marked : (stripe : ℕ) (o : Option Underway) → o ≡ None → MarksIn stripe o o
none_marked stripe o none = subst (λ (k : Option Underway). MarksIn stripe k k) (sym none) tt

-- ---- what is taken of the leaf

leaf_taken : (layers : Layers) (leaf : Layer) (r : Retiring) (disk : Disk) (answer : Result (Unit {0}) StoreFault) (piece : Piece) (stripe : ℕ) → layers.leaf ≡ Some leaf → layers.retiring ≡ Some r → layers.geometry.sector ≡ 512
    → stripe < stripe_count layers.geometry.sector layers.geometry.sectors → piece.stripe ≡ stripe → piece.stamp ≡ stamps_of r.stamps stripe
    → OnOk answer ((file : Placed) → WhereTold disk.told (λ trace. Serves leaf trace file → IsTaken layers.geometry.sector file.member.layer piece))
    → OnOk answer (WhereTold disk.told (λ trace. (v : State) → IsServing layers v trace → IsTruePiece v piece))
leaf_taken layers leaf r disk (Err fault) piece stripe is kept sector there stripe_is stamp_is taken = tt
leaf_taken layers leaf r disk (Ok done) piece stripe is kept sector there stripe_is stamp_is taken = λ trace told v serving. by_rest trace told v v.rest serving
  where
    by_rest : (trace : Trace) → disk.told ≡ Some trace → (v : State) (rest : Rest) → IsServing layers (record v { rest = rest }) trace → IsTruePiece (record v { rest = rest }) piece
    by_rest trace told v (plain others) serving = tt
    by_rest trace told v (merging above source target below m) serving =
        absurd (let never : IsRetiring (sector_of v) v.writes v.history layers (Some r) v.top (merging above source target below m) =
        subst (λ o. IsRetiring (sector_of v) v.writes v.history layers o v.top (merging above source target below m)) kept serving.leaving in never)
    by_rest trace told v (retiring target below first before) serving =
        let z = sector_of v in
        let leaving : IsLeaving z v.writes v.history layers r v.top target first before = subst (λ o. IsRetiring z v.writes v.history layers o v.top (retiring target below first before)) kept serving.leaving in
        let serves : Serves leaf trace v.top = (subst (λ o. AreHeld o layers.below.items trace v.top (target ∷ below)) is serving.held).0 in
        let t : IsTaken z v.top.member.layer piece = subst (λ (k : ℕ). IsTaken k v.top.member.layer piece) (ap (λ (g : Geometry). g.sector) serving.geometry) (taken v.top trace told serves) in
        let inside : stripe < stripe_count z v.top.member.ties.geometry.sectors = subst (λ (g : Geometry). stripe < stripe_count g.sector g.sectors) serving.geometry there in
        true_pieces.taken z first v.history v.top.member.layer piece leaving.some (λ s. leaving.under_way.source_is s) (stamp_is ∙ leaving.stamps stripe inside ∙ ap (stamp z v.history) (sym stripe_is)) t.within t.taken

leaf_took : (layers : Layers) (leaf : Layer) (disk : Disk) (answer : Result (Unit {0}) StoreFault) (piece : Piece) (stripe : ℕ) → layers.leaf ≡ Some leaf → is_some layers.retiring ≡ true → AreReady layers disk
    → stripe < stripe_count layers.geometry.sector layers.geometry.sectors → piece.stripe ≡ stripe → piece.stamp ≡ stamp_of layers stripe
    → OnOk answer ((file : Placed) → WhereTold disk.told (λ trace. Serves leaf trace file → IsTaken layers.geometry.sector file.member.layer piece))
    → OnOk answer (WhereTold disk.told (λ trace. (v : State) → IsServing layers v trace → IsTruePiece v piece))
leaf_took layers leaf disk answer piece stripe is some ready there stripe_is stamp_is taken =
    let r = some_kept layers.retiring some in
    leaf_taken layers leaf r.0 disk answer piece stripe is r.1 ready.sector there stripe_is (stamp_is ∙ ap (λ o. stamp_in o stripe) r.1) taken

-- all that a take of the leaf says
pub leaf_takes : (old new : Layers) (leaf next : Layer) (before after : Disk) (answer : Result (Unit {0}) StoreFault) (piece : KeptPiece) (stripe : ℕ) → LeafStep old new leaf next → new.retiring ≡ old.retiring → old.merge ≡ None
    → is_some old.retiring ≡ true → AreReady old before → stripe < stripe_count old.geometry.sector old.geometry.sectors → OnOk answer (piece.filled ≡ true) → OnErr answer (piece.filled ≡ false) → FitsDisk old.geometry piece → piece.stripe ≡ stripe
    → piece.stamp ≡ stamp_of old stripe → OnOk answer ((file : Placed) → WhereTold before.told (λ trace. Serves leaf trace file → IsTaken old.geometry.sector file.member.layer (piece_of piece))) → IsSame leaf next before
    → OnOk answer (after ≡ before) → IfErr answer (ReadFailed (own_file leaf) before after) → TakesStripe stripe old new before after piece answer
leaf_takes old new leaf next before after answer piece stripe step kept none some ready there filled empty fits stripe_is stamp_is taken same stays failed = record {
  reads = leaf_reads old new leaf next (own_file leaf) before after answer step kept same stays failed ready;
  filled = filled;
  empty = empty;
  fits = fits;
  stripe_is = stripe_is;
  stamp_is = stamp_is;
  taken = leaf_took old leaf before answer (piece_of piece) stripe step.was some ready there stripe_is stamp_is taken;
  stays = stays;
  err = some_failed (Session leaf) before after answer (leaf_of old leaf before step.was ready).ready.readable failed;
  whose = its answer failed;
}
  where
    its : (answer : Result (Unit {0}) StoreFault) → IfErr answer (ReadFailed (own_file leaf) before after) → IfErr answer (λ fault. fault.file ≡ source_number old)
    its (Ok done) failed = tt
    its (Err fault) failed = failed.of_file ∙ sym (ap number_of_leaf step.was) ∙ sym (ap (number_at_source old) none)

-- ---- a put

module _ (old new : Layers) (r0 : Retiring) (piece : KeptPiece) (before after : Disk) (r : Result (Unit {0}) LayerFault) (none : old.merge ≡ None) (kept_is : old.retiring ≡ Some r0) (ready : AreReady old before)
    (geometry : new.geometry ≡ old.geometry) (leaf_is : new.leaf ≡ old.leaf) (put : PutsAt 0 piece old.below.items new.below.items before after r) where
  abbrev was_items : old.below.items ≡ Session put.was ∷ put.below
  was_items = put.was_there ∙ ap (λ (a : List FileLayer). a ++ Session put.was ∷ put.below) (first_put put)

  abbrev now_items : new.below.items ≡ Session put.now ∷ put.below
  now_items = put.now_there ∙ ap (λ (a : List FileLayer). a ++ Session put.now ∷ put.below) (first_put put)

  abbrev leaving_of : IsRetiringOf old.geometry old.leaf old.below.items r0
  leaving_of = subst (λ o. IfSome o (IsRetiringOf old.geometry old.leaf old.below.items)) kept_is ready.retiring

  the_leaf : (leaf : Layer) × (old.leaf ≡ Some leaf)
  the_leaf = some_leaf old.leaf leaving_of.session

  -- the merge as it is kept behind a put, and where it was refused
  pub marked_now : (stripe : ℕ) → MarksToo stripe old.retiring new.retiring → (k : Retiring) × ((new.retiring ≡ Some k) × IsMarkedToo (with_mark stripe (marks_of r0.marks)) r0 k)
  marked_now stripe m = by_kept new.retiring (subst (λ (o : Option Retiring). MarksToo stripe o new.retiring) kept_is m)
    where
      by_kept : (p : Option Retiring) → MarksToo stripe (Some r0) p → (k : Retiring) × ((p ≡ Some k) × IsMarkedToo (with_mark stripe (marks_of r0.marks)) r0 k)
      by_kept None m = absurd m
      by_kept (Some k) m = (k, (refl, m))

  answers : (x y : Trace) (r : Result (Unit {0}) LayerFault) → new.merge ≡ None → piece.stamp ≡ stamps_of r0.stamps piece.stripe → piece.stripe < stripe_count old.geometry.sector old.geometry.sectors
      → PutsPiece put.was piece x y → OnOk r (HasPutPiece put.was put.now piece x y) → OnRefused r (HasKept put.was put.now x y) → OnRefused r (KeepsOver put.was x y) → HasMarked piece.stripe old new r
      → (v : State) (rest : Rest) → IsServing old (record v { rest = rest }) x → IsTruePiece (record v { rest = rest }) (piece_of piece) → PutAnswers (piece_of piece) (record v { rest = rest }) new x y r
  answers x y r none_now taken_at there moments put_on kept quiet marked v (plain others) serving true_piece =
      absurd (let never : IsRetiring (sector_of v) v.writes v.history old (Some r0) v.top (plain others) = subst (λ o. IsRetiring (sector_of v) v.writes v.history old o v.top (plain others)) kept_is serving.leaving in never)
  answers x y r none_now taken_at there moments put_on kept quiet marked v (merging above source target below m) serving true_piece =
      absurd (let never : IsRetiring (sector_of v) v.writes v.history old (Some r0) v.top (merging above source target below m) =
      subst (λ o. IsRetiring (sector_of v) v.writes v.history old o v.top (merging above source target below m)) kept_is serving.leaving in never)
  answers x y r none_now taken_at there moments put_on kept quiet marked v (retiring target below first initial) serving true_piece = by_answer r put_on kept quiet marked
    where
      here : State
      here = record v { rest = retiring target below first initial }

      leaving : IsLeaving (sector_of here) v.writes v.history old r0 v.top target first initial
      leaving = subst (λ o. IsRetiring (sector_of here) v.writes v.history old o v.top (retiring target below first initial)) kept_is serving.leaving

      stamp_now : piece.stamp ≡ stamp (sector_of here) v.history piece.stripe
      stamp_now = taken_at ∙ leaving.stamps piece.stripe (subst (λ (g : Geometry). piece.stripe < stripe_count g.sector g.sectors) serving.geometry there)

      serves : Serves put.was x target
      serves = serves_target v target below first initial old the_leaf.0 put.was put.below x serving the_leaf.1 was_items

      by_answer : (r : Result (Unit {0}) LayerFault) → OnOk r (HasPutPiece put.was put.now piece x y) → OnRefused r (HasKept put.was put.now x y) → OnRefused r (KeepsOver put.was x y) → HasMarked piece.stripe old new r → PutAnswers (piece_of piece) here new x y r
      by_answer (Ok done) put_on kept quiet marked =
          let made = marked_now piece.stripe marked.1 in
          piece_copied v target below first initial old the_leaf.0 put.was put.below x serving the_leaf.1 was_items r0 (piece_of piece) y kept_is true_piece stamp_now new put.now geometry (none_now ∙ sym none) (leaf_is ∙ the_leaf.1) now_items put.parts
          made.0 made.1.0 made.1.1 (record { moments = moments.over target serves; holds = put_on.serves target serves })
      by_answer (Err (Read fault)) put_on kept quiet marked =
          piece_refused v target below first initial old the_leaf.0 put.was put.below x serving the_leaf.1 was_items r0 (piece_of piece) y kept_is true_piece stamp_now new put.now geometry (none_now ∙ sym none) (leaf_is ∙ the_leaf.1) now_items put.parts
          marked.1 (record { moments = quiet.over target serves; holds = kept.serves target serves })
      by_answer (Err (FileFull n)) put_on kept quiet marked =
          piece_refused v target below first initial old the_leaf.0 put.was put.below x serving the_leaf.1 was_items r0 (piece_of piece) y kept_is true_piece stamp_now new put.now geometry (none_now ∙ sym none) (leaf_is ∙ the_leaf.1) now_items put.parts
          marked.1 (record { moments = quiet.over target serves; holds = kept.serves target serves })
      by_answer (Err (Write fault)) put_on kept quiet marked =
          piece_failed v target below first initial old the_leaf.0 put.was put.below x serving the_leaf.1 was_items r0 (piece_of piece) y kept_is true_piece stamp_now (record { moments = moments.over target serves })

  behind_told : new.merge ≡ None → piece.stamp ≡ stamps_of r0.stamps piece.stripe → piece.stripe < stripe_count old.geometry.sector old.geometry.sectors → HasMarked piece.stripe old new r → PutTold (piece_of piece) old new before after r
  behind_told none_now taken_at there marked = by_told before.told after.told r put.moments put.put put.kept put.quiet marked
    where
      by_told : (o p : Option Trace) (r : Result (Unit {0}) LayerFault) → WhereBothTold (PutsPiece put.was piece) o p → OnOk r (WhereBothTold (HasPutPiece put.was put.now piece) o p) → OnRefused r (WhereBothTold (HasKept put.was put.now) o p)
          → OnRefused r (WhereBothTold (KeepsOver put.was) o p) → HasMarked piece.stripe old new r
          → WhereBothTold (λ trace now. (v : State) → IsServing old v trace → IsTruePiece v (piece_of piece) → PutAnswers (piece_of piece) v new trace now r) o p
      by_told None None r moments put_on kept quiet marked = tt
      by_told None (Some y) r moments put_on kept quiet marked = moments
      by_told (Some x) None r moments put_on kept quiet marked = moments
      by_told (Some x) (Some y) (Ok t) moments put_on kept quiet marked = λ v serving true_piece. answers x y (Ok t) none_now taken_at there moments put_on tt tt marked v v.rest serving true_piece
      by_told (Some x) (Some y) (Err (Read f)) moments put_on kept quiet marked = λ v serving true_piece. answers x y (Err (Read f)) none_now taken_at there moments tt kept quiet marked v v.rest serving true_piece
      by_told (Some x) (Some y) (Err (FileFull n)) moments put_on kept quiet marked = λ v serving true_piece. answers x y (Err (FileFull n)) none_now taken_at there moments tt kept quiet marked v v.rest serving true_piece
      by_told (Some x) (Some y) (Err (Write f)) moments put_on kept quiet marked = λ v serving true_piece. answers x y (Err (Write f)) none_now taken_at there moments tt tt tt marked v v.rest serving true_piece

  -- ---- for every store

  own : IsReadyFile old.geometry before (Session put.was)
  own = one_of (IsReadyFile old.geometry before) [] (Session put.was) put.below (subst (AreReadyFiles old.geometry before) was_items ready.below)

  leaves : WhereBothTold (LeavesOthers (own_file put.was)) before.told after.told
  leaves =
      both_at (PutsPiece put.was piece) (LeavesOthers (own_file put.was)) before.told after.told put.moments
      (λ t u x y puts.
      let s = own.ready.told t x in
      subst (λ n. LeavesOthers n t u) s.1.number (phase_leaves s.0.number (ShowsFile (loosened (either s.0.is_loose (has_sector piece)) s.0)) t u (puts.over s.0 s.1)))

  pub behind_number : target_number old ≡ own_file put.was
  behind_number = ap (number_below (file_numbers old.below.items)) none ∙ ap (λ (c : List FileLayer). get_or (file_numbers c) 0 0) was_items

  behind_fails : IfErr r (Fails (target_number old) before after)
  behind_fails = subst (λ n. IfErr r (Fails n before after)) (sym behind_number) put.err

  behind_within : target_number old < before.files
  behind_within = subst (λ n. n < before.files) (sym behind_number) own.ready.readable.there

  behind_room : IfSome (target_layer old) (λ l. PutRoomIs piece l before r)
  behind_room =
      let is : target_layer old ≡ Some put.was = ap (session_below old.below.items) none ∙ ap (λ (c : List FileLayer). session_in (get_or (map (λ l. Some l) c) 0 None)) was_items in
      subst (λ o. IfSome o (λ l. PutRoomIs piece l before r)) (sym is) put.room

  behind_low : (most : ℕ) → IsLow most old → IsLow (most + 1) new
  behind_low most low = (
    subst (λ (o : Option Layer). IfSome (option_map (λ (k : Layer). k.log.number) o) (λ n. n ≤ most + 1)) (sym leaf_is) (more_low most (option_map (λ (k : Layer). k.log.number) old.leaf) low.0),
    subst (λ (c : List FileLayer). AllByRecursion (λ number. IfSome number (λ n. n ≤ most + 1)) (map log_number c)) (sym now_items)
        (low_at put.was put.now put.parts most [] put.below put.number (subst (λ (c : List FileLayer). AllByRecursion (λ number. IfSome number (λ n. n ≤ most)) (map log_number c)) was_items low.1)),
  )

  behind_ready : new.merge ≡ None → HasMarked piece.stripe old new r → UnlessBroken r (AreReady new after)
  behind_ready none_now marked = by_answer r put.counts put.err put.ready put.refused marked (piece_ties put.was put.now piece before.told after.told r put.put put.kept)
    where
      parts_was : AreParts old.geometry old.leaf (Session put.was ∷ put.below) before
      parts_was = subst (λ (c : List FileLayer). AreParts old.geometry old.leaf c before) was_items (parts_of old before ready)

      made : after.files ≡ before.files → IsReady put.now after → WhereBothTold (KeepsTies put.was put.now) before.told after.told → Alike old.retiring new.retiring → AreReady new after
      made files is keeps alike =
          let parts : AreParts new.geometry new.leaf new.below.items after =
          subst (λ (c : List FileLayer). AreParts new.geometry new.leaf c after) (sym now_items)
          (subst (λ (o : Option Layer). AreParts new.geometry o (Session put.now ∷ put.below) after) (sym leaf_is)
          (subst (λ (k : Geometry). AreParts k old.leaf (Session put.now ∷ put.below) after) (sym geometry) (parts_then old.geometry old.leaf [] put.below put.was put.now before after put.parts parts_was leaves files is))) in
          let turns = all_but_one (own_file put.was) before after [] put.below (Session put.was) (Session put.now) tt
          (round_apart old.geometry old.leaf [] put.below put.was put.now before after put.parts parts_was leaves files is).1 leaves (turn_kept before after put.was put.now put.parts keeps) in
          let top = top_beside (own_file put.was) before after old.leaf (top_apart old.geometry old.leaf [] put.below (Session put.was) before parts_was.leaf) leaves in
          record {
            sector = ap (λ (k : Geometry). k.sector) geometry ∙ ready.sector;
            leaf = parts.leaf;
            below = parts.below;
            apart = parts.apart;
            merge = subst (λ o. IfSome o (IsMergeOf new.geometry new.leaf new.below.items)) (sym none_now) tt;
            relink = subst (λ o. IfSome o (CanRelink new.leaf new.below.items after)) (sym none_now) tt;
            one = subst (λ o. AtMostOne o new.retiring) (sym none_now) tt;
            retiring = subst (λ (k : Geometry). IfSome new.retiring (IsRetiringOf k new.leaf new.below.items)) (sym geometry)
                (retiring_alike old.geometry old.leaf new.leaf old.below.items new.below.items old.retiring new.retiring alike (ap is_some leaf_is)
                (λ some. subst (λ (c : List FileLayer). 0 < length c) (sym now_items) (omega arith))
                (ap (λ (c : List FileLayer). is_session_at c 0) now_items ∙ sym (ap (λ (c : List FileLayer). is_session_at c 0) was_items))
                (ap (λ (c : List FileLayer). header_at c 0) now_items ∙ ap Some put.header ∙ sym (ap (λ (c : List FileLayer). header_at c 0) was_items)) ready.retiring);
            retires = subst (λ o. IfSome new.retiring (CanRetire o new.below.items after)) (sym leaf_is)
                (subst (λ (c : List FileLayer). IfSome new.retiring (CanRetire old.leaf c after)) (sym now_items)
                (retires_alike before after old.leaf old.leaf (Session put.was ∷ put.below) (Session put.now ∷ put.below) old.retiring new.retiring alike top turns
                (subst (λ (c : List FileLayer). IfSome old.retiring (CanRetire old.leaf c before)) was_items ready.retires)));
          }

      by_answer : (r : Result (Unit {0}) LayerFault) → OnOk r (after ≡ record before { told = after.told }) → IfErr r (Fails (own_file put.was) before after) → OnOk r (IsReady put.now after) → OnRefused r (IsReady put.now after) → HasMarked piece.stripe old new r
          → KeepsUnlessBroken r put.was put.now before.told after.told → UnlessBroken r (AreReady new after)
      by_answer (Ok done) counts fails is refused marked keeps = made (same_files (own_file put.was) before after (Ok done) counts fails) is keeps (alike_marked piece.stripe old.retiring new.retiring marked.1)
      by_answer (Err (Read fault)) counts fails is refused marked keeps = made (same_files (own_file put.was) before after (Err (Read fault)) counts fails) refused keeps (alike_same old.retiring new.retiring marked.1)
      by_answer (Err (FileFull n)) counts fails is refused marked keeps = made (same_files (own_file put.was) before after (Err (FileFull n)) counts fails) refused keeps (alike_same old.retiring new.retiring marked.1)
      by_answer (Err (Write fault)) counts fails is refused marked keeps = tt

  pub behind_put : new.merge ≡ None → piece.stamp ≡ stamps_of r0.stamps piece.stripe → piece.stripe < stripe_count old.geometry.sector old.geometry.sectors → HasMarked piece.stripe old new r → PutsInTarget piece old new before after r
  behind_put none_now taken_at there marked = record {
    told = behind_told none_now taken_at there marked;
    ready = behind_ready none_now marked;
    low = behind_low;
    session = ap is_some leaf_is;
    leaf = ap number_of_leaf leaf_is;
    geometry = geometry;
    marked = marked;
    counts = put.counts;
    err = behind_fails;
    within = behind_within;
    room = behind_room;
  }

-- ---- the stripes of a call

-- a trim of some sectors touches the stripes from that of its first to that of its last
pub trim_touches : (z first count place low high : ℕ) (r w : Retiring) → IsSectorSize z → 0 < count → low ≡ stripe_of z first → high ≡ stripe_of z (first + count - 1) → w ≡ record r { marks = w.marks; stamps = w.stamps }
    → w.marks.stripes ≡ r.marks.stripes → length w.stamps.words.items ≡ length r.stamps.words.items → ((t : ℕ) → marks_of w.marks t ≡ without_marks low high (marks_of r.marks) t)
    → ((t : ℕ) → stamps_of w.stamps t ≡ with_stamps low high place (stamps_of r.stamps) t) → IsTouched z (calls.Trim first count) place r w
trim_touches z first count place low high r w size some from to rest stripes words marks stamps = record {
  rest = rest;
  stripes = stripes;
  words = words;
  marks_are = λ t. marks t ∙ ap (λ a. without_marks a high (marks_of r.marks) t) from ∙ ap (λ b. without_marks (stripe_of z first) b (marks_of r.marks) t) to
      ∙ sym (calls_touch_ranges.marks z (calls.Trim first count) (marks_of r.marks) t pos refl some);
  stamps_are = λ t there. stamps t ∙ ap (λ a. with_stamps a high place (stamps_of r.stamps) t) from ∙ ap (λ b. with_stamps (stripe_of z first) b place (stamps_of r.stamps) t) to
      ∙ ap (λ (b : Bool). cond b place (stamps_of r.stamps t)) (sym (calls_touch_ranges.range z (calls.Trim first count) t pos refl some));
}
  where
    by_size : (z ≡ 512) ⊎ (z ≡ 4096) → 0 < per_stripe z
    by_size (inl e) = subst (λ (n : ℕ). 0 < per_stripe n) (sym e) (omega arith)
    by_size (inr e) = subst (λ (n : ℕ). 0 < per_stripe n) (sym e) (omega arith)

    pos : 0 < per_stripe z
    pos = by_size (sector_cases z size)
