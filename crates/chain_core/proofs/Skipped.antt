-- Stripes are passed over of which the source of a merge has nothing: what a session keeps behind it.
use Rattle.std.proofs.Common.{◌≡◌, ℕ, ◌+◌, ◌-◌, ◌^◌, ◌<◌, ◌≤◌, Bool, true, ◌||◌, List, [], ◌∷◌, ◌++◌, length, map, set, is_some, refl, sym, ap, subst, ◌∙◌}
use Rattle.std.specs.Prelude.{Option, Some, None, Result, Ok, Err, IfErr, IfOk, IfSome, IsErr, OnOk, nat_le, nat_lt, ◌&&◌, option_map, slice_index_or}
use Rattle.vx_base.specs.declared.parts.Geometry.{Geometry}
use Rattle.store_model.specs.Disk.{Disk, ReadFailed, WhereBothTold, WhereTold}
use Rattle.store_model.specs.Trace.{Trace}
use Rattle.store_model.specs.declared.fault.StoreFault.{StoreFault}
use Rattle.guest_model.specs.declared.refusal.ChainRefusal.{ChainRefusal}
use Rattle.chain_model.specs.Images.{Placed}
use Rattle.chain_model.specs.Layers as chain
use Rattle.chain_model.specs.Merges.{LacksStripes, with_marks}
use Rattle.chain_model.specs.Stripes.{stripe_count}
use Rattle.chain_model.proofs.Merging.{kept_by_pass}
use Rattle.layer_session.specs.Absent.{tables_of}
use Rattle.layer_session.specs.Calls.{IsSame, own_file}
use Rattle.layer_session.specs.FileLayers.{FileTurns, HasFile, HaveFiles, Holds, IsSameFile, number_of}
use Rattle.layer_session.specs.Keeping.{Serves}
use Rattle.layer_session.specs.ReadOnly.{SomeReadFailed}
use Rattle.layer_session.specs.declared.file.Layer.{Layer}
use Rattle.layer_session.specs.declared.file_layer.FileLayer.{FileLayer}
use Rattle.layer_session.specs.declared.file_layer.FileLayer.TheVariants.{Session}
use Rattle.layer_session.proofs.FileLayers.{has_held}
use Rattle.merge_core.specs.Copied.{marks_of}
use Rattle.merge_core.specs.declared.marks.Marks.{Marks}
use Rattle.merge_core.specs.Passing.{PassesStripes}
use Rattle.chain_core.specs.Answering.{IsRefused}
use Rattle.chain_core.specs.Copying.{number_at_source, source_number}
use Rattle.chain_core.specs.Sessions.{AreReady, AtMostOne, CanRelink, CanRetire, IsMergeOf, IsRetiringOf, child_layer, is_session_at, number_of_leaf}
use Rattle.chain_core.specs.Skipping.{FindsPassed, IsPassed, MarksRun, MarksRunToo, SkipAnswers, SkipsStripes, SourceLacks, passed_on, source_tables, tables_at, with_passed}
use Rattle.chain_core.specs.States.{AreHeld, IsCourse, IsLeaving, IsRetiring, IsServing, IsUnder, Rest, State, child_parts, merging, plain, retiring, sector_of, Relinks, child_of}
use Rattle.chain_core.specs.declared.layers.Layers.{Layers}
use Rattle.chain_core.specs.declared.layers.Retiring.{Retiring}
use Rattle.chain_core.specs.declared.layers.Underway.{Underway}
use Rattle.layer_session.proofs.Equal.{false_true}
use Rattle.chain_core.proofs.Finding.{leaf_reads}
use Rattle.chain_core.proofs.Places.{IsAt, merge_of, readable_of, some_failed, some_leaf, source_reads, whose}
use Rattle.chain_core.proofs.LeafPuts.{some_kept}
use Rattle.chain_core.proofs.Looking.{both_same}
use Rattle.chain_core.proofs.Putting.{have_parts}
use Rattle.chain_core.proofs.Standing.{leaf_of}
use Rattle.chain_core.proofs.Steps.{LeafStep, at_rest, fewer_marks}

-- ---- what is marked

-- marks that are the same have the same ones behind it
same_marks : (from n t : ℕ) (a b : ℕ → Bool) → a t ≡ b t → with_marks from n a t ≡ with_marks from n b t
same_marks from n t a b e = ap (λ x. (nat_le from t && nat_lt t (from + n)) || x) e

-- the layers with other marks
abbrev pub marked_in : Layers → Option Underway → Option Retiring → Layers
marked_in mid m r = record mid { merge = m; retiring = r }

module _ (mid : Layers) (m : Option Underway) (r : Option Retiring) (from n : ℕ) (marks : MarksRun from n mid.merge m) (too : MarksRunToo from n mid.retiring r) where
  abbrev new : Layers
  new = marked_in mid m r

  -- the merge below the leaf
  course_on : (z : ℕ) (writes : ℕ → Bool) (top : Placed) (rest : Rest) → SourceLacks z from n top rest → IsCourse z writes mid mid.merge top rest → IsCourse z writes new m top (passed_on from n rest)
  course_on z writes top rest lacks is = by_kept mid.merge m rest marks lacks is
    where
      by_kept : (o p : Option Underway) (rest : Rest) → MarksRun from n o p → SourceLacks z from n top rest → IsCourse z writes mid o top rest → IsCourse z writes new p top (passed_on from n rest)
      by_kept None None (plain others) marks lacks is = tt
      by_kept None None (merging above source target below k) marks lacks is = absurd is
      by_kept None None (retiring target below first before) marks lacks is = tt
      by_kept None (Some w) rest marks lacks is = absurd marks
      by_kept (Some u) None rest marks lacks is = absurd marks
      by_kept (Some u) (Some w) (plain others) marks lacks is = absurd is
      by_kept (Some u) (Some w) (retiring target below first before) marks lacks is = absurd is
      by_kept (Some u) (Some w) (merging above source target below k) marks lacks is = record {
        place = marks.source ∙ is.place;
        written = is.written;
        child_written = is.child_written;
        parts = is.parts;
        goes_by = ap (child_parts mid.leaf mid.below.items) marks.source ∙ is.goes_by;
        relinks = subst (λ pages. Relinks is.parts.bat_len pages (child_of top above) target) (sym marks.relink) is.relinks;
        marks = λ t. marks.marks_are t ∙ same_marks from n t (marks_of u.marks) k.marks (is.marks t);
        under_way = kept_by_pass z k.first k.before [] from n k.marks source.member.layer target.member.layer lacks is.under_way;
      }

  -- and that of the leaf
  leaving_on : (v : State) (rest : Rest) → SourceLacks (sector_of v) from n v.top rest → IsRetiring (sector_of v) v.writes v.history mid mid.retiring v.top rest → IsRetiring (sector_of v) v.writes v.history new r v.top (passed_on from n rest)
  leaving_on v rest lacks is = by_kept mid.retiring r rest too lacks is
    where
      by_kept : (o p : Option Retiring) (rest : Rest) → MarksRunToo from n o p → SourceLacks (sector_of v) from n v.top rest → IsRetiring (sector_of v) v.writes v.history mid o v.top rest
          → IsRetiring (sector_of v) v.writes v.history new p v.top (passed_on from n rest)
      by_kept None None (plain others) marks lacks is = tt
      by_kept None None (merging above source target below k) marks lacks is = tt
      by_kept None None (retiring target below first before) marks lacks is = absurd is
      by_kept None (Some w) rest marks lacks is = absurd marks
      by_kept (Some u) None rest marks lacks is = absurd marks
      by_kept (Some u) (Some w) (plain others) marks lacks is = absurd is
      by_kept (Some u) (Some w) (merging above source target below k) marks lacks is = absurd is
      by_kept (Some u) (Some w) (retiring target below first before) marks lacks is = by_rest w.marks marks.stripes marks.marks_are (sym marks.rest)
        where
          by_rest : (k : Marks) → k.stripes ≡ u.marks.stripes → ((t : ℕ) → marks_of k t ≡ with_marks from n (marks_of u.marks) t) → record u { marks = k } ≡ w → IsLeaving (sector_of v) v.writes v.history new w v.top target first before
          by_rest k stripes are e =
              subst (λ w. IsLeaving (sector_of v) v.writes v.history new w v.top target first before) e
              (record {
                some = is.some;
                written = is.written;
                parts = is.parts;
                goes_by = is.goes_by;
                retires = is.retires;
                lower = is.lower;
                lower_goes_by = is.lower_goes_by;
                clears = is.clears;
                each = stripes ∙ is.each;
                stamps = is.stamps;
                under_way = fewer_marks (sector_of v) first before v.history (marks_of k) (with_marks from n (marks_of u.marks)) v.top.member.layer target.member.layer (λ t marked. sym (are t) ∙ marked)
                    (kept_by_pass (sector_of v) first before v.history from n (marks_of u.marks) v.top.member.layer target.member.layer lacks is.under_way);
              })

  -- the session serves what it served, these stripes being copied too
  pub passed_serving : (v : State) (trace : Trace) → SourceLacks (sector_of v) from n v.top v.rest → IsServing mid v trace → IsServing new (with_passed from n v) trace
  passed_serving v trace lacks serving = by_rest v.rest lacks serving
    where
      by_rest : (rest : Rest) → SourceLacks (sector_of v) from n v.top rest → IsServing mid (record v { rest = rest }) trace → IsServing new (record v { rest = passed_on from n rest }) trace
      by_rest (plain others) lacks s = record {
        once = s.once;
        geometry = s.geometry;
        served = s.served;
        loose = s.loose;
        course = course_on (sector_of v) v.writes v.top (plain others) lacks s.course;
        leaving = leaving_on v (plain others) lacks s.leaving;
        drops = s.drops;
        held = s.held;
        whole = s.whole;
        synced = s.synced;
        written = s.written;
        still = s.still;
        past = s.past;
      }
      by_rest (merging above source target below k) lacks s = record {
        once = s.once;
        geometry = s.geometry;
        served = s.served;
        loose = s.loose;
        course = course_on (sector_of v) v.writes v.top (merging above source target below k) lacks s.course;
        leaving = leaving_on v (merging above source target below k) lacks s.leaving;
        drops = s.drops;
        held = s.held;
        whole = s.whole;
        synced = s.synced;
        written = s.written;
        still = s.still;
        past = s.past;
      }
      by_rest (retiring target below first before) lacks s = record {
        once = s.once;
        geometry = s.geometry;
        served = s.served;
        loose = s.loose;
        course = course_on (sector_of v) v.writes v.top (retiring target below first before) lacks s.course;
        leaving = leaving_on v (retiring target below first before) lacks s.leaving;
        drops = s.drops;
        held = s.held;
        whole = s.whole;
        synced = s.synced;
        written = s.written;
        still = s.still;
        past = s.past;
      }

  -- the layers are as ready
  pub passed_ready : (disk : Disk) → AreReady mid disk → AreReady new disk
  passed_ready disk ready = record {
    sector = ready.sector;
    leaf = ready.leaf;
    below = ready.below;
    apart = ready.apart;
    merge = by_merge mid.merge m marks ready.merge;
    relink = by_relink mid.merge m marks ready.relink;
    one = by_one mid.merge m mid.retiring r marks too ready.one;
    retiring = by_retiring mid.retiring r too ready.retiring;
    retires = by_retires mid.retiring r too ready.retires;
  }
    where
      by_merge : (o p : Option Underway) → MarksRun from n o p → IfSome o (IsMergeOf mid.geometry mid.leaf mid.below.items) → IfSome p (IsMergeOf mid.geometry mid.leaf mid.below.items)
      by_merge None None marks of = tt
      by_merge None (Some w) marks of = absurd marks
      by_merge (Some u) None marks of = absurd marks
      by_merge (Some u) (Some w) marks of = by_source w.source marks.source (marks.stripes ∙ of.stripes)
        where
          by_source : (k : ℕ) → k ≡ u.source → w.marks.stripes ≡ stripe_count mid.geometry.sector mid.geometry.sectors → IsMergeOf mid.geometry mid.leaf mid.below.items w
          by_source k e stripes = record {
            session = of.session;
            there = subst (λ k. k + 1 < length mid.below.items) (sym marks.source) of.there;
            target = subst (λ k. is_session_at mid.below.items (k + 1) ≡ true) (sym marks.source) of.target;
            child = subst (λ k. 0 < k → is_session_at mid.below.items (k - 1) ≡ true) (sym marks.source) of.child;
            stripes = stripes;
          }

      by_relink : (o p : Option Underway) → MarksRun from n o p → IfSome o (CanRelink mid.leaf mid.below.items disk) → IfSome p (CanRelink mid.leaf mid.below.items disk)
      by_relink None None marks can = tt
      by_relink None (Some w) marks can = absurd marks
      by_relink (Some u) None marks can = absurd marks
      by_relink (Some u) (Some w) marks can = record {
        few = subst (λ pages. length pages ≤ 120) (sym marks.relink) can.few;
        turns = subst (λ k. IfSome (child_layer mid.leaf mid.below.items k) (λ l. WhereTold disk.told (FileTurns l w.relink))) (sym marks.source)
            (subst (λ pages. IfSome (child_layer mid.leaf mid.below.items u.source) (λ l. WhereTold disk.told (FileTurns l pages))) (sym marks.relink) can.turns);
      }

      by_one : (o p : Option Underway) (s t : Option Retiring) → MarksRun from n o p → MarksRunToo from n s t → AtMostOne o s → AtMostOne p t
      by_one None None s t marks too one = tt
      by_one None (Some w) s t marks too one = absurd marks
      by_one (Some u) None s t marks too one = absurd marks
      by_one (Some u) (Some w) None None marks too one = refl
      by_one (Some u) (Some w) None (Some k) marks too one = absurd too
      by_one (Some u) (Some w) (Some k) t marks too one = absurd (let never : ◌≡◌ {A = Option Retiring} (Some k) None = one in cc)

      by_retiring : (o p : Option Retiring) → MarksRunToo from n o p → IfSome o (IsRetiringOf mid.geometry mid.leaf mid.below.items) → IfSome p (IsRetiringOf mid.geometry mid.leaf mid.below.items)
      by_retiring None None marks of = tt
      by_retiring None (Some w) marks of = absurd marks
      by_retiring (Some u) None marks of = absurd marks
      by_retiring (Some u) (Some w) marks of = record {
        session = of.session;
        there = of.there;
        target = of.target;
        next = of.next;
        size = of.size;
        stripes = marks.stripes ∙ of.stripes;
        stamps = ap (λ (k : Retiring). length k.stamps.words.items) marks.rest ∙ of.stamps;
      }

      by_retires : (o p : Option Retiring) → MarksRunToo from n o p → IfSome o (CanRetire mid.leaf mid.below.items disk) → IfSome p (CanRetire mid.leaf mid.below.items disk)
      by_retires None None marks can = tt
      by_retires None (Some w) marks can = absurd marks
      by_retires (Some u) None marks can = absurd marks
      by_retires (Some u) (Some w) marks can = subst (CanRetire mid.leaf mid.below.items disk) (sym marks.rest) (record { few = can.few; turns = can.turns; clears = can.clears })

-- ---- what is found of the source

item_at : (a : List FileLayer) (x : FileLayer) (b : List FileLayer) → slice_index_or (map (λ l. Some (tables_of l)) (a ++ x ∷ b)) (length a) None ≡ Some (tables_of x)
item_at [] x b = refl
item_at (y ∷ a) x b = item_at a x b

-- a file below the leaf
source_lacks : (v : State) (rest : Rest) (layers : Layers) (leaf : Layer) (u : Underway) (x : FileLayer) (trace : Trace) (from n : ℕ) → layers.leaf ≡ Some leaf → layers.merge ≡ Some u → IsAt layers.below.items u.source x
    → IsServing layers (record v { rest = rest }) trace → ((layer : chain.Layer) → Holds x trace layer → LacksStripes (sector_of v) from n layer) → SourceLacks (sector_of v) from n v.top rest
source_lacks v (plain others) layers leaf u x trace from n leaf_is merge_is at serving lacks = tt
source_lacks v (retiring target below first before) layers leaf u x trace from n leaf_is merge_is at serving lacks =
    absurd (let never : IsCourse (sector_of v) v.writes layers (Some u) v.top (retiring target below first before) = subst (λ o. IsCourse (sector_of v) v.writes layers o v.top (retiring target below first before)) merge_is serving.course in never)
source_lacks v (merging above source target below m) layers leaf u x trace from n leaf_is merge_is at serving lacks =
    let z = sector_of v in
    let under : IsUnder z v.writes layers u v.top above source target m = subst (λ o. IsCourse z v.writes layers o v.top (merging above source target below m)) merge_is serving.course in
    let held : HaveFiles layers.below.items trace (above ++ (source ∷ target ∷ below)) = (subst (λ o. AreHeld o layers.below.items trace v.top (above ++ (source ∷ target ∷ below))) leaf_is serving.held).1 in
    let own : HasFile x trace source =
    (have_parts at.before x at.behind trace above source (target ∷ below) (at.long ∙ under.place) (subst (λ (c : List FileLayer). HaveFiles c trace (above ++ (source ∷ target ∷ below))) at.parts held)).1.0 in
    lacks source.member.layer (has_held x trace source own)

-- what an answer says, whatever it answers where it is done
abbrev unit_of : Result ℕ StoreFault → Result (Unit {0}) StoreFault
unit_of (Ok n) = Ok tt
unit_of (Err fault) = Err fault

to_unit_ok : (P : Type 0) (r : Result ℕ StoreFault) → OnOk r P → OnOk (unit_of r) P
to_unit_ok P (Ok n) h = h
to_unit_ok P (Err fault) h = h

to_unit_err : (P : StoreFault → Type 0) (r : Result ℕ StoreFault) → IfErr r P → IfErr (unit_of r) P
to_unit_err P (Ok n) h = h
to_unit_err P (Err fault) h = h

from_unit_err : (P : StoreFault → Type 0) (r : Result ℕ StoreFault) → IfErr (unit_of r) P → IfErr r P
from_unit_err P (Ok n) h = h
from_unit_err P (Err fault) h = h

-- one fact of what is answered follows from another
answer_then : (P Q : ℕ → Type 0) (r : Result ℕ StoreFault) → ((n : ℕ) → P n → Q n) → IfOk r P → IfOk r Q
answer_then P Q (Ok n) f h = f n h
answer_then P Q (Err fault) f h = h

-- a look at the source below the leaf
pub below_passed : (old new : Layers) (u : Underway) (x next : FileLayer) (before after : Disk) (answer : Result ℕ StoreFault) (from : ℕ) → old.merge ≡ Some u → AreReady old before → IsAt old.below.items u.source x
    → new.geometry ≡ old.geometry → new.leaf ≡ old.leaf → new.merge ≡ old.merge → new.retiring ≡ old.retiring → new.below.items ≡ set old.below.items u.source next
    → IfOk answer (λ n. from + n ≤ stripe_count old.geometry.sector old.geometry.sectors) → IfOk answer (λ n. from + n ≤ 2 ^ 26) → IfOk answer (λ n. PassesStripes (tables_of x) before old.geometry from n)
    → IfOk answer (λ n. (layer : chain.Layer) → WhereTold before.told (λ trace. Holds x trace layer → LacksStripes old.geometry.sector from n layer))
    → IsSameFile x next before → OnOk answer (after ≡ before) → IfErr answer (ReadFailed (number_of x) before after) → FindsPassed from old new before after answer
below_passed old new u x next before after answer from is ready at g l m q items there few passes lacks same stays failed = record {
  reads = source_reads old new u x next before after (unit_of answer) ready at g l m q items same (to_unit_ok (after ≡ before) answer stays) (to_unit_err (ReadFailed (number_of x) before after) answer failed);
  there = there;
  few = few;
  passes = answer_then _ _ answer (λ n passes. subst (λ o. IfSome o (λ t. PassesStripes t before old.geometry from n)) (sym tables_is) passes) passes;
  lacks = answer_then _ _ answer (λ n lacks trace told v serving.
      let merge = merge_of old u before is ready in
      let leaf = some_leaf old.leaf merge.session in
      source_lacks v v.rest old leaf.0 u x trace from n leaf.1 is at serving
      (λ layer h. subst (λ z. LacksStripes z from n layer) (ap (λ (k : Geometry). k.sector) serving.geometry) (lacks layer trace told h))) lacks;
  stays = stays;
  err = from_unit_err (SomeReadFailed before after) answer (some_failed x before after (unit_of answer) (readable_of old u before x ready at).can (to_unit_err (ReadFailed (number_of x) before after) answer failed));
  whose = from_unit_err (λ fault. fault.file ≡ source_number old) answer (whose old u x before after (unit_of answer) is at (to_unit_err (ReadFailed (number_of x) before after) answer failed));
}
  where
    tables_is : source_tables old ≡ Some (tables_of x)
    tables_is =
        ap (tables_at old.leaf old.below.items) is ∙ ap (λ (c : List FileLayer). slice_index_or (map (λ l. Some (tables_of l)) c) u.source None) at.parts
        ∙ ap (λ n. slice_index_or (map (λ l. Some (tables_of l)) (at.before ++ x ∷ at.behind)) n None) (sym at.long) ∙ item_at at.before x at.behind

-- the leaf
leaf_lacks : (v : State) (rest : Rest) (layers : Layers) (leaf : Layer) (r : Retiring) (trace : Trace) (from n : ℕ) → layers.leaf ≡ Some leaf → layers.retiring ≡ Some r → IsServing layers (record v { rest = rest }) trace
    → ((layer : chain.Layer) → Holds (Session leaf) trace layer → LacksStripes (sector_of v) from n layer) → SourceLacks (sector_of v) from n v.top rest
leaf_lacks v (plain others) layers leaf r trace from n leaf_is kept serving lacks = tt
leaf_lacks v (merging above source target below m) layers leaf r trace from n leaf_is kept serving lacks =
    absurd (let never : IsRetiring (sector_of v) v.writes v.history layers (Some r) v.top (merging above source target below m) =
    subst (λ o. IsRetiring (sector_of v) v.writes v.history layers o v.top (merging above source target below m)) kept serving.leaving in never)
leaf_lacks v (retiring target below first before) layers leaf r trace from n leaf_is kept serving lacks =
    let serves : Serves leaf trace v.top = (subst (λ o. AreHeld o layers.below.items trace v.top (target ∷ below)) leaf_is serving.held).0 in
    lacks v.top.member.layer (has_held (Session leaf) trace v.top serves)

-- a look at it
pub leaf_passed : (old new : Layers) (leaf next : Layer) (before after : Disk) (answer : Result ℕ StoreFault) (from : ℕ) → LeafStep old new leaf next → new.retiring ≡ old.retiring → old.merge ≡ None → is_some old.retiring ≡ true → AreReady old before
    → IfOk answer (λ n. from + n ≤ stripe_count old.geometry.sector old.geometry.sectors) → IfOk answer (λ n. from + n ≤ 2 ^ 26) → IfOk answer (λ n. PassesStripes leaf.tables before old.geometry from n)
    → IfOk answer (λ n. (layer : chain.Layer) → WhereTold before.told (λ trace. Holds (Session leaf) trace layer → LacksStripes old.geometry.sector from n layer))
    → IsSame leaf next before → OnOk answer (after ≡ before) → IfErr answer (ReadFailed (own_file leaf) before after) → FindsPassed from old new before after answer
leaf_passed old new leaf next before after answer from step kept none some ready there few passes lacks same stays failed = record {
  reads = leaf_reads old new leaf next (own_file leaf) before after (unit_of answer) step kept same (to_unit_ok (after ≡ before) answer stays) (to_unit_err (ReadFailed (own_file leaf) before after) answer failed) ready;
  there = there;
  few = few;
  passes = answer_then _ _ answer (λ n passes. subst (λ o. IfSome o (λ t. PassesStripes t before old.geometry from n)) (sym tables_is) passes) passes;
  lacks = answer_then _ _ answer (λ n lacks trace told v serving.
      let r = some_kept old.retiring some in
      leaf_lacks v v.rest old leaf r.0 trace from n step.was r.1 serving
      (λ layer h. subst (λ z. LacksStripes z from n layer) (ap (λ (k : Geometry). k.sector) serving.geometry) (lacks layer trace told h))) lacks;
  stays = stays;
  err = from_unit_err (SomeReadFailed before after) answer (some_failed (Session leaf) before after (unit_of answer) (leaf_of old leaf before step.was ready).ready.readable (to_unit_err (ReadFailed (own_file leaf) before after) answer failed));
  whose = its answer failed;
}
  where
    tables_is : source_tables old ≡ Some leaf.tables
    tables_is = ap (tables_at old.leaf old.below.items) none ∙ ap (option_map (λ (l : Layer). l.tables)) step.was

    its : (answer : Result ℕ StoreFault) → IfErr answer (ReadFailed (own_file leaf) before after) → IfErr answer (λ fault. fault.file ≡ source_number old)
    its (Ok n) failed = failed
    its (Err fault) failed = failed.of_file ∙ sym (ap number_of_leaf step.was) ∙ sym (ap (number_at_source old) none)

-- ---- and marked

pub skipped : (old mid : Layers) (m : Option Underway) (r : Option Retiring) (before after : Disk) (from n : ℕ) → FindsPassed from old mid before after (Ok n) → MarksRun from n mid.merge m → MarksRunToo from n mid.retiring r
    → SkipsStripes from old (marked_in mid m r) before after (Ok n)
skipped old mid m r before after from n finds marks too =
    record {
      geometry = finds.reads.geometry;
      numbers = finds.reads.numbers;
      leaf = finds.reads.leaf;
      ready = passed_ready mid m r from n marks too after finds.reads.ready;
      marked = (subst (λ o. MarksRun from n o m) finds.reads.merge marks, subst (λ o. MarksRunToo from n o r) finds.reads.retiring too);
      there = finds.there;
      few = finds.few;
      passes = finds.passes;
      serves = λ trace told v serving. passed_serving mid m r from n marks too v trace (finds.lacks trace told v serving) (finds.reads.serves trace told v serving);
      told = finds.reads.told;
      stays = finds.stays;
      err = tt;
      whose = tt;
    }

-- ---- the event

-- Refused before the files are reached it leaves all as it was.
pub skip_stopped : (layers : Layers) (disk : Disk) (from : ℕ) (answer : Result ℕ ChainRefusal) → IsErr answer → WhereBothTold (λ trace now. (v : State) → IsServing layers v trace → SkipAnswers from v layers trace now answer) disk.told disk.told
skip_stopped layers disk from (Ok n) err = absurd (false_true err)
skip_stopped layers disk from (Err x) err =
    both_same (λ trace now. (v : State) → IsServing layers v trace → SkipAnswers from v layers trace now (Err x)) disk.told disk.told refl (λ trace told v serving. at_rest v layers trace serving)

-- What it tells, once it reached them.
pub skip_ok : (old new : Layers) (before after : Disk) (from n : ℕ) → SkipsStripes from old new before after (Ok n) → WhereBothTold (λ trace now. (v : State) → IsServing old v trace → IsPassed from n v new trace now) before.told after.told
skip_ok old new before after from n skips =
    both_same (λ trace now. (v : State) → IsServing old v trace → IsPassed from n v new trace now) before.told after.told skips.told
    (λ trace told v serving. record { moments = (at_rest v old trace serving).moments; serving = skips.serves trace told v serving })

pub skip_err : (old new : Layers) (before after : Disk) (from : ℕ) (fault : StoreFault) → SkipsStripes from old new before after (Err fault) → WhereBothTold (λ trace now. (v : State) → IsServing old v trace → IsRefused v new trace now) before.told after.told
skip_err old new before after from fault skips =
    both_same (λ trace now. (v : State) → IsServing old v trace → IsRefused v new trace now) before.told after.told skips.told (λ trace told v serving. at_rest v new trace (skips.serves trace told v serving))
