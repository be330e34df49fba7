-- A merge is finished, step by step: its target and its child are committed, the child is relinked, and the source leaves.
use Rattle.std.proofs.Common.{◌⊎◌, ◌≡◌, ◌≢◌, ℕ, zero, suc, ◌+◌, ◌<◌, ◌≤◌, true, false, List, [], ◌∷◌, ◌++◌, length, map, get_or, refl, sym, ap, subst, ◌∙◌, arith, is_some}
use Rattle.std.specs.Prelude.{Option, Some, None, option_map, IfSome, Ok, Err}
use Rattle.std.specs.List.{AllByRecursion, remove}
use Rattle.vx_base.specs.declared.parts.Geometry.{Geometry}
use Rattle.store_model.specs.Disk.{Disk, WhereBothTold}
use Rattle.store_model.specs.Trace.{Trace}
use Rattle.store_model.specs.declared.fault.StoreFault.{StoreFault}
use Rattle.store_model.proofs.Spans.{EachMoment-join}
use Rattle.table_pages.specs.declared.tables.TableParts.{TableParts}
use Rattle.chain_model.specs.Images.{Placed, members_of}
use Rattle.chain_model.specs.Members.{NoneTwice, names_of}
use Rattle.chain_model.specs.Merges.{AllMarked}
use Rattle.chain_model.specs.Moments.{EachOpens}
use Rattle.chain_model.specs.Sessions.{GoesOver, ShowsFile}
use Rattle.chain_model.specs.Stripes.{per_stripe, stripe_count}
use Rattle.layer_session.specs.declared.file.Layer.{Layer}
use Rattle.layer_session.specs.declared.file_layer.FileLayer.{FileLayer}
use Rattle.layer_session.specs.declared.file_layer.FileLayer.TheVariants.{Session}
use Rattle.layer_session.specs.Calls.{HasCommitted, KeepsOver, settled}
use Rattle.layer_session.specs.FileLayers.{HaveFiles, file_numbers, log_number, number_of}
use Rattle.layer_session.specs.Keeping.{Serves}
use Rattle.layer_session.specs.Updating.{HasUpdated, UpdatesOver}
use Rattle.chain_core.specs.declared.layers.Layers.{Layers}
use Rattle.chain_core.specs.declared.layers.Underway.{Underway}
use Rattle.chain_core.specs.Answering.{EachOpensNow, HasEnded}
use Rattle.chain_core.specs.Finished.{ChangesFile, Finishes, FinishesTo, IsAllMarked, IsExchanged, IsFinished, IsReplaced, IsTargetOrChild, LeavesBy, Settles, UpdatesBy, at_leaf, at_lower, leaf_left, look_of, numbers_left}
use Rattle.chain_core.specs.Sessions.{AreReady, AtMostOne, CanRelink, CanRetire, IsLow, IsMergeOf, IsRetiringOf, leaf_number, number_of_leaf}
use Rattle.chain_core.specs.States.{AreHeld, AreWritten, IsCourse, IsServing, IsUnder, Merging, Relinks, Rest, State, child_of, child_parts, dirty_now, disk_now, merging, plain, retiring, sector_of}
use Rattle.chain_core.proofs.Numbers.{next_long, room_behind, same_before, second_place, some_room, stripe_of_512, suc_next, suc_place, three_more, two_more_not_zero, within_same, zero_and_next}
use Rattle.chain_core.proofs.Children.{child_failed, child_settled, ended_by, leaf_failed, target_failed}
use Rattle.chain_core.proofs.Ending.{failed_later}
use Rattle.chain_core.proofs.Exchanged.{change_failed, child_turned, exchanged_leaf, exchanged_low, exchanged_numbers, exchanged_session, finishing_before, is_child, is_target, parts_stay, parts_was, relinking_leaves, settling_leaves, still_ready, was_ready}
use Rattle.chain_core.proofs.Relinked.{child_relinked, into_spelled, leaf_relinked, relinked_child, relinks_then, with_locator}
use Rattle.chain_core.proofs.Places.{IsAt, alone, at_place, merge_of, some_leaf}
use Rattle.chain_core.proofs.Putting.{have_parts, serves_target, target_settled}
use Rattle.chain_core.proofs.Replaced.{AreParts, parts_without, written_at}
use Rattle.chain_core.proofs.Steps.{leaf_settled, names_behind}
use Rattle.chain_core.proofs.Turning.{commit_ties}
use Rattle.chain_model.proofs.Serving.{loose_moves}
use Rattle.chain_model.proofs.Merging.{marked_is_whole}
use Rattle.chain_model.specs.Merges.{HasAllOf}
use Rattle.chain_model.specs.Sessions.{IsServed, LooseAtTop}
use Rattle.std.proofs.lemmas.List.{append_assoc, length-append, length-map}
use Rattle.chain_core.proofs.MergeServed.{last_child}
use Rattle.store_model.proofs.Told.{both_and, both_join, both_from}
use Rattle.layer_session.proofs.Equal.{cons_nil, first_same, rest_same, some_same}

-- ---- lists

remove_at : {X : Type 0} (a : List X) (x : X) (b : List X) → remove (a ++ x ∷ b) (length a) ≡ a ++ b
remove_at [] x b = refl
remove_at (y ∷ a) x b = ap (λ rest. y ∷ rest) (remove_at a x b)

map_remove : {X Y : Type 0} (f : X → Y) (xs : List X) (k : ℕ) → map f (remove xs k) ≡ remove (map f xs) k
map_remove f [] zero = refl
map_remove f [] (suc k) = refl
map_remove f (x ∷ xs) zero = refl
map_remove f (x ∷ xs) (suc k) = ap (λ rest. f x ∷ rest) (map_remove f xs k)

-- the last of some files
record IsSnoc (above : List Placed) (n : ℕ) : Type 0 where
  pre : List Placed
  child : Placed
  is : above ≡ pre ++ child ∷ []
  long : length pre ≡ n

snoc : (above : List Placed) (n : ℕ) → length above ≡ n + 1 → IsSnoc above n
snoc [] n long = absurd (omega (arith, long))
snoc (f ∷ []) n long = record { pre = []; child = f; is = refl; long = omega (arith, long) }
snoc (f ∷ g ∷ above) zero long = absurd (omega (arith, long))
snoc (f ∷ g ∷ above) (suc n) long =
    let rest = snoc (g ∷ above) n (omega (arith, long)) in
    record { pre = f ∷ rest.pre; child = rest.child; is = ap (λ more. f ∷ more) rest.is; long = ap suc rest.long }

empty_of : (above : List Placed) → length above ≡ 0 → above ≡ []
empty_of [] none = refl
empty_of (f ∷ above) none = absurd (omega (arith, none))

-- the files before a place and behind it, where one more stands
record HasNext (items : List FileLayer) : Type 0 where
  next : FileLayer
  rest : List FileLayer
  is : items ≡ next ∷ rest

next_of : (items : List FileLayer) → 0 < length items → HasNext items
next_of [] some = absurd (omega (arith, some))
next_of (x ∷ items) some = record { next = x; rest = items; is = refl }

low_but : (most : ℕ) (a : List FileLayer) (x : FileLayer) (b : List FileLayer) → AllByRecursion (λ number. IfSome number (λ n. n ≤ most)) (map log_number (a ++ x ∷ b)) → AllByRecursion (λ number. IfSome number (λ n. n ≤ most)) (map log_number (a ++ b))
low_but most [] x b low = low.1
low_but most (y ∷ a) x b low = (low.0, low_but most a x b low.1)

-- ---- names

-- the source's name stands in no other file
lacks : (a : List Placed) (source : Placed) (b : List Placed) → NoneTwice (names_of (members_of (a ++ source ∷ b))) → AllByRecursion (λ f. f.member.name ≢ source.member.name) (a ++ b)
lacks [] source b once = by_names b once.0
  where
    by_names : (b : List Placed) → AllByRecursion (λ other. other ≢ source.member.name) (names_of (members_of b)) → AllByRecursion (λ f. f.member.name ≢ source.member.name) b
    by_names [] all = tt
    by_names (f ∷ b) all = (all.0, by_names b all.1)
lacks (f ∷ a) source b once = ((λ same. own a once.0 (sym same)), lacks a source b once.1)
  where
    own : (a : List Placed) → AllByRecursion (λ other. other ≢ f.member.name) (names_of (members_of (a ++ source ∷ b))) → source.member.name ≢ f.member.name
    own [] all = all.0
    own (g ∷ a) all = own a all.1

lacks_alike : (name : List ℕ) (xs ys : List Placed) → map look_of xs ≡ map look_of ys → AllByRecursion (λ f. f.member.name ≢ name) ys → AllByRecursion (λ f. f.member.name ≢ name) xs
lacks_alike name [] ys same all = tt
lacks_alike name (x ∷ xs) [] same all = absurd (let never : look_of x ∷ map look_of xs ≡ [] = same in cons_nil never)
lacks_alike name (x ∷ xs) (y ∷ ys) same all =
    let e : look_of x ∷ map look_of xs ≡ look_of y ∷ map look_of ys = same in
    let one : look_of x ≡ look_of y = first_same e in
    ((λ is. all.0 (sym (ap (λ l. l.name) one) ∙ is)), lacks_alike name xs ys (rest_same e) all.1)

looks_below : (pre : List Placed) (child after target other : Placed) (below : List Placed) → look_of after ≡ look_of child → look_of other ≡ look_of target
    → map look_of (pre ++ after ∷ other ∷ below) ≡ map look_of ((pre ++ child ∷ []) ++ target ∷ below)
looks_below [] child after target other below one two = ap (λ l. l ∷ look_of other ∷ map look_of below) one ∙ ap (λ l. look_of child ∷ l ∷ map look_of below) two
looks_below (p ∷ pre) child after target other below one two = ap (λ rest. look_of p ∷ rest) (looks_below pre child after target other below one two)

-- the names of a served chain
once_names : (v : State) (layers : Layers) (top : Placed) (above : List Placed) (source target : Placed) (below : List Placed) (m : Merging) (trace : Trace) → IsServing layers (record v { top = top; rest = merging above source target below m }) trace
    → AllByRecursion (λ f. f.member.name ≢ source.member.name) (top ∷ (above ++ target ∷ below))
once_names v layers top above source target below m trace serving =
    lacks (top ∷ above) source (target ∷ below) (names_behind v.retired (top ∷ (above ++ source ∷ target ∷ below)) serving.served.linked.once)

-- ---- the steps, for one state

module _ (v : State) (top : Placed) (above : List Placed) (source target : Placed) (below : List Placed) (m : Merging) (old new : Layers) (u : Underway) (disk : Disk) (x y : Trace) (merge_is : old.merge ≡ Some u) (ready : AreReady old disk)
    (geometry : new.geometry ≡ old.geometry) (merge : new.merge ≡ old.merge) (kept : new.retiring ≡ old.retiring) (was now : Layer) (parts : now.tables.parts ≡ was.tables.parts) (serving : IsServing old (record v { top = top; rest = merging above source target below m }) x) (over : KeepsOver was x y) where
  abbrev here : State
  here = record v { top = top; rest = merging above source target below m }

  the_leaf : (l : Layer) × (old.leaf ≡ Some l)
  the_leaf = some_leaf old.leaf (merge_of old u disk merge_is ready).session

  abbrev under : IsUnder (sector_of here) v.writes old u top above source target m
  under = subst (λ o. IsCourse (sector_of here) v.writes old o top (merging above source target below m)) merge_is serving.course

  written : (v.writes top.number ≡ true) × AreWritten v.writes old.below.items
  written = subst (λ o. IfSome o (λ l. (v.writes top.number ≡ true) × AreWritten v.writes old.below.items)) the_leaf.1 serving.written

  -- the target
  pub target_ok : IsExchanged (u.source + 2) was now old new → HasCommitted was now x y → EachOpensNow here x y × IsServing new (record v { top = top; rest = merging above source (settled target) below m }) y
  target_ok (at_leaf at is leaf_now same) has = absurd (two_more_not_zero u.source at)
  target_ok (at_lower at e leaf_is r) has =
      let place : length r.above ≡ length above + 1 = second_place u.source at (length r.above) (length above) e r.place under.place in
      let serves : Serves was x target = serves_target v top above source target below m old the_leaf.0 x serving the_leaf.1 r.above was r.below r.was_there place in
      target_settled v top above source target below m old the_leaf.0 x serving the_leaf.1 r.above was r.below r.was_there place new u now y geometry (kept ∙ alone old u disk merge_is ready) (leaf_is ∙ the_leaf.1) merge_is (merge ∙ merge_is) r.now_there parts
      (subst (AreWritten v.writes) (sym r.now_there) (written_at was now parts v.writes r.above r.below (subst (AreWritten v.writes) r.was_there written.1))) (over.over target serves) (has.serves target serves)

  pub target_err : IsExchanged (u.source + 2) was now old new → HasEnded here x y
  target_err (at_leaf at is leaf_now same) = absurd (two_more_not_zero u.source at)
  target_err (at_lower at e leaf_is r) =
      let place : length r.above ≡ length above + 1 = second_place u.source at (length r.above) (length above) e r.place under.place in
      let serves : Serves was x target = serves_target v top above source target below m old the_leaf.0 x serving the_leaf.1 r.above was r.below r.was_there place in
      target_failed v top above source target below m old x y serving under.written (over.over target serves)

  -- the leaf as the child
  serves_top : old.leaf ≡ Some was → Serves was x top
  serves_top is = (subst (λ o. AreHeld o old.below.items x top (above ++ (source ∷ target ∷ below))) is serving.held).0

  pub leaf_ok : old.leaf ≡ Some was → new.leaf ≡ Some now → new.below ≡ old.below → HasCommitted was now x y → EachOpensNow here x y × IsServing new (record v { top = settled top; rest = merging above source target below m }) y
  leaf_ok is leaf_now same has =
      leaf_settled here old new was now x y (record { geometry = geometry; below = same; merge = merge; parts = parts; was = is; now = leaf_now }) kept serving (over.over top (serves_top is)) (has.serves top (serves_top is))

  pub leaf_err : old.leaf ≡ Some was → HasEnded here x y
  leaf_err is = leaf_failed here old x y serving written.0 (over.over top (serves_top is))

-- a child that stands below the leaf
module _ (v : State) (top : Placed) (pre : List Placed) (child source target : Placed) (below : List Placed) (m : Merging) (old new : Layers) (u : Underway) (disk : Disk) (x y : Trace) (merge_is : old.merge ≡ Some u) (ready : AreReady old disk)
    (was now : Layer) (serving : IsServing old (record v { top = top; rest = merging (pre ++ child ∷ []) source target below m }) x) (a b : List FileLayer) (was_there : old.below.items ≡ a ++ Session was ∷ b) (place : length a ≡ length pre) where
  lower_leaf : (l : Layer) × (old.leaf ≡ Some l)
  lower_leaf = some_leaf old.leaf (merge_of old u disk merge_is ready).session

  pub serves_child : Serves was x child
  serves_child =
      let rest : List Placed = source ∷ target ∷ below in
      let e : (pre ++ child ∷ []) ++ rest ≡ pre ++ child ∷ rest = append_assoc pre (child ∷ []) rest in
      let held = subst (λ o. AreHeld o old.below.items x top ((pre ++ child ∷ []) ++ rest)) lower_leaf.1 serving.held in
      (have_parts a (Session was) b x pre child rest place (subst (λ (c : List FileLayer). HaveFiles c x (pre ++ child ∷ rest)) was_there (subst (λ (c : List Placed). HaveFiles old.below.items x c) e held.1))).1.0

  pub lower_under : IsUnder top.member.ties.geometry.sector v.writes old u top (pre ++ child ∷ []) source target m
  lower_under = subst (λ o. IsCourse top.member.ties.geometry.sector v.writes old o top (merging (pre ++ child ∷ []) source target below m)) merge_is serving.course

  pub writes_child : v.writes child.number ≡ true
  writes_child = ap (λ (p : Placed). v.writes p.number) (sym (last_child top pre child)) ∙ lower_under.child_written

  pub lower_ok : new.geometry ≡ old.geometry → new.merge ≡ old.merge → new.retiring ≡ old.retiring → new.leaf ≡ old.leaf → new.below.items ≡ a ++ Session now ∷ b → now.tables.parts ≡ was.tables.parts → KeepsOver was x y → HasCommitted was now x y
      → EachOpensNow (record v { top = top; rest = merging (pre ++ child ∷ []) source target below m }) x y × IsServing new (record v { top = top; rest = merging (pre ++ settled child ∷ []) source target below m }) y
  lower_ok geometry merge kept leaf_is now_there parts over has =
      child_settled v top pre child source target below m old x y serving (over.over child serves_child) new u lower_leaf.0 a b was now lower_leaf.1 merge_is was_there place geometry (kept ∙ alone old u disk merge_is ready) (leaf_is ∙ lower_leaf.1) (merge ∙ merge_is) now_there parts
      (has.serves child serves_child)

  pub lower_err : KeepsOver was x y → HasEnded (record v { top = top; rest = merging (pre ++ child ∷ []) source target below m }) x y
  lower_err over = child_failed v top pre child source target below m old x y serving (over.over child serves_child) writes_child

-- ---- the relink

-- what is known of a merge whose stripes are all marked
module _ (v : State) (top : Placed) (above : List Placed) (source target : Placed) (below : List Placed) (m : Merging) (old : Layers) (u : Underway) (disk : Disk) (x : Trace) (merge_is : old.merge ≡ Some u) (ready : AreReady old disk)
    (serving : IsServing old (record v { top = top; rest = merging above source target below m }) x) (marked : IsAllMarked u.marks) where
  abbrev course_of : IsUnder top.member.ties.geometry.sector v.writes old u top above source target m
  course_of = subst (λ o. IsCourse top.member.ties.geometry.sector v.writes old o top (merging above source target below m)) merge_is serving.course

  pub some_stripe : 0 < per_stripe top.member.ties.geometry.sector
  some_stripe = stripe_of_512 top.member.ties.geometry.sector (sym ready.sector ∙ ap (λ (g : Geometry). g.sector) serving.geometry)

  pub all_marked : AllMarked (stripe_count top.member.ties.geometry.sector top.member.ties.geometry.sectors) m.marks
  all_marked t inside =
      let count : u.marks.stripes ≡ stripe_count top.member.ties.geometry.sector top.member.ties.geometry.sectors =
      (merge_of old u disk merge_is ready).stripes ∙ ap (λ (g : Geometry). stripe_count g.sector g.sectors) serving.geometry in
      sym (course_of.marks t) ∙ marked t (subst (λ (n : ℕ). t < n) (sym count) inside)

  pub has_all : HasAllOf top.member.ties.geometry.sectors source.member.layer target.member.layer
  has_all = marked_is_whole top.member.ties.geometry.sector top.member.ties.geometry.sectors m.first m.before [] m.marks source.member.layer target.member.layer some_stripe course_of.under_way all_marked

  pub relinks_by : (parts : TableParts) → child_parts old.leaf old.below.items u.source ≡ Some parts → Relinks parts.bat_len u.relink (child_of top above) target
  relinks_by parts goes =
      let both : ◌≡◌ {A = Option TableParts} (Some course_of.parts) (Some parts) = sym course_of.goes_by ∙ goes in
      let same : course_of.parts ≡ parts = some_same both in
      subst (λ (p : TableParts). Relinks p.bat_len u.relink (child_of top above) target) same course_of.relinks

-- the leaf is the child
module _ (v : State) (top source target : Placed) (below : List Placed) (m : Merging) (old : Layers) (u : Underway) (disk : Disk) (x y : Trace) (merge_is : old.merge ≡ Some u) (ready : AreReady old disk)
    (serving : IsServing old (record v { top = top; rest = merging [] source target below m }) x) (marked : IsAllMarked u.marks) (tight : (s : ℕ) → target.is_loose s ≡ false) (was now : Layer) (is : old.leaf ≡ Some was)
    (goes : child_parts old.leaf old.below.items u.source ≡ Some was.tables.parts) (over : UpdatesOver was u.relink x y) where
  abbrev top_relinks : Relinks was.tables.parts.bat_len u.relink top target
  top_relinks = relinks_by v top [] source target below m old u disk x merge_is ready serving marked was.tables.parts goes

  top_serves : Serves was x top
  top_serves = (subst (λ o. AreHeld o old.below.items x top (source ∷ target ∷ below)) is serving.held).0

  top_over : GoesOver top (relinked_child was.tables.parts.bat_len u.relink top target top_relinks) x y
  top_over = over.over top (with_locator top.member.ties top_relinks.ties) top_relinks.region top_serves (into_spelled was.tables.parts.bat_len u.relink top target top_relinks)

  pub top_ok : (new : Layers) (next : FileLayer) (rest : List FileLayer) → old.below.items ≡ next ∷ rest → new.geometry ≡ old.geometry → new.leaf ≡ Some now → new.merge ≡ None → new.retiring ≡ None → new.below.items ≡ rest → HasUpdated was now u.relink x y
      → EachOpensNow (record v { top = top; rest = merging [] source target below m }) x y × IsServing new (record v { top = relinked_child was.tables.parts.bat_len u.relink top target top_relinks; rest = plain (target ∷ below) }) y
  top_ok new next rest items_were geometry leaf_now no_merge none_now items has =
      leaf_relinked v top source target below m old new u was now next rest x y serving is merge_is items_were geometry leaf_now no_merge none_now items tight (some_stripe v top [] source target below m old u disk x merge_is ready serving marked)
      (all_marked v top [] source target below m old u disk x merge_is ready serving marked) was.tables.parts.bat_len top_relinks top_over
      (has.serves top (with_locator top.member.ties top_relinks.ties) top_relinks.region top_serves (into_spelled was.tables.parts.bat_len u.relink top target top_relinks))

  pub top_err : HasEnded (record v { top = top; rest = merging [] source target below m }) x y
  top_err =
      let here : State = record v { top = top; rest = merging [] source target below m } in
      let after : Placed = relinked_child was.tables.parts.bat_len u.relink top target top_relinks in
      let loose : LooseAtTop (dirty_now here) (top ∷ source ∷ target ∷ below) = loose_moves.committed (dirty_now here) (top ∷ []) source target below serving.loose tight in
      let written : (v.writes top.number ≡ true) × AreWritten v.writes old.below.items = subst (λ o. IfSome o (λ l. (v.writes top.number ≡ true) × AreWritten v.writes old.below.items)) is serving.written in
      ended_by here old top.number (λ bytes. ShowsFile top bytes ⊎ ShowsFile after bytes) x y serving written.0 top_over.phase
      (relinks_then v [] top source target below x y (sector_of here) (dirty_now here) serving.once serving.served loose serving.drops was.tables.parts.bat_len u.relink top_relinks top_over
      (has_all v top [] source target below m old u disk x merge_is ready serving marked)).moments

-- the child stands below the leaf
module _ (v : State) (top : Placed) (pre : List Placed) (child source target : Placed) (below : List Placed) (m : Merging) (old : Layers) (u : Underway) (disk : Disk) (x y : Trace) (merge_is : old.merge ≡ Some u) (ready : AreReady old disk)
    (serving : IsServing old (record v { top = top; rest = merging (pre ++ child ∷ []) source target below m }) x) (marked : IsAllMarked u.marks) (tight : (s : ℕ) → target.is_loose s ≡ false) (was now : Layer) (a b : List FileLayer)
    (was_there : old.below.items ≡ a ++ Session was ∷ b) (place : length a ≡ length pre) (goes : child_parts old.leaf old.below.items u.source ≡ Some was.tables.parts) (over : UpdatesOver was u.relink x y) where
  lower_top : (l : Layer) × (old.leaf ≡ Some l)
  lower_top = some_leaf old.leaf (merge_of old u disk merge_is ready).session

  abbrev child_relinks : Relinks was.tables.parts.bat_len u.relink child target
  child_relinks =
      subst (λ (p : Placed). Relinks was.tables.parts.bat_len u.relink p target) (last_child top pre child) (relinks_by v top (pre ++ child ∷ []) source target below m old u disk x merge_is ready serving marked was.tables.parts goes)

  child_serves : Serves was x child
  child_serves = serves_child v top pre child source target below m old old u disk x y merge_is ready was now serving a b was_there place

  child_over : GoesOver child (relinked_child was.tables.parts.bat_len u.relink child target child_relinks) x y
  child_over = over.over child (with_locator child.member.ties child_relinks.ties) child_relinks.region child_serves (into_spelled was.tables.parts.bat_len u.relink child target child_relinks)

  child_writes : v.writes child.number ≡ true
  child_writes = writes_child v top pre child source target below m old old u disk x y merge_is ready was now serving a b was_there place

  pub child_ok : (new : Layers) (next : FileLayer) (rest : List FileLayer) → b ≡ next ∷ rest → new.geometry ≡ old.geometry → new.leaf ≡ old.leaf → new.merge ≡ None → new.retiring ≡ None → new.below.items ≡ a ++ Session now ∷ rest → HasUpdated was now u.relink x y
      → EachOpensNow (record v { top = top; rest = merging (pre ++ child ∷ []) source target below m }) x y
      × IsServing new (record v { top = top; rest = plain (pre ++ relinked_child was.tables.parts.bat_len u.relink child target child_relinks ∷ target ∷ below) }) y
  child_ok new next rest behind geometry leaf_is no_merge none_now items has =
      child_relinked v top pre child source target below m old new u lower_top.0 a was now next rest x y serving lower_top.1 merge_is (was_there ∙ ap (λ (c : List FileLayer). a ++ Session was ∷ c) behind) place geometry (leaf_is ∙ lower_top.1) no_merge none_now items
      tight (some_stripe v top (pre ++ child ∷ []) source target below m old u disk x merge_is ready serving marked) (all_marked v top (pre ++ child ∷ []) source target below m old u disk x merge_is ready serving marked) was.tables.parts.bat_len
      child_relinks child_writes child_over
      (has.serves child (with_locator child.member.ties child_relinks.ties) child_relinks.region child_serves (into_spelled was.tables.parts.bat_len u.relink child target child_relinks))

  pub child_err : HasEnded (record v { top = top; rest = merging (pre ++ child ∷ []) source target below m }) x y
  child_err =
      let here : State = record v { top = top; rest = merging (pre ++ child ∷ []) source target below m } in
      let after : Placed = relinked_child was.tables.parts.bat_len u.relink child target child_relinks in
      let rest : List Placed = source ∷ target ∷ below in
      let e : (pre ++ child ∷ []) ++ rest ≡ pre ++ child ∷ rest = append_assoc pre (child ∷ []) rest in
      let served : IsServed (sector_of here) v.opening v.history v.leaf v.retired ((top ∷ pre) ++ child ∷ rest) x =
      subst (λ (c : List Placed). IsServed (sector_of here) v.opening v.history v.leaf v.retired (top ∷ c) x) e serving.served in
      let loose : LooseAtTop (dirty_now here) ((top ∷ pre) ++ child ∷ rest) =
      subst (λ (c : List Placed). LooseAtTop (dirty_now here) (top ∷ c)) e (loose_moves.committed (dirty_now here) (top ∷ (pre ++ child ∷ [])) source target below serving.loose tight) in
      ended_by here old child.number (λ bytes. ShowsFile child bytes ⊎ ShowsFile after bytes) x y serving child_writes child_over.phase
      (relinks_then v (top ∷ pre) child source target below x y (sector_of here) (dirty_now here) serving.once served loose serving.drops was.tables.parts.bat_len u.relink child_relinks child_over
      (has_all v top (pre ++ child ∷ []) source target below m old u disk x merge_is ready serving marked)).moments

-- ---- what is told

pub joined : (v : State) (x y z : Trace) → EachOpensNow v x y → EachOpensNow v y z → EachOpensNow v x z
joined v x y z first second = EachMoment-join (EachOpens v.leaf (dirty_now v) (disk_now v)) x y z first second

-- a step that commits leaves the layers ready
pub settled_ready : (place : ℕ) (old new : Layers) (u : Underway) (before after : Disk) → old.merge ≡ Some u → AreReady old before → ChangesFile Settles place old new before after (Ok tt) → AreReady new after
settled_ready place old new u before after merge_is ready c =
    still_ready place c.was c.now old new u before after merge_is ready c.geometry c.changed.parts c.exchanged c.merge c.retiring (settling_leaves place c.was c.now old new u before after merge_is ready c.geometry c.changed.parts c.exchanged c.changed.moments)
    (ap (λ (d : Disk). d.files) c.changed.counts) c.changed.ready (commit_ties c.was c.now before.told after.told c.changed.has)

module _ (L0 L1 : Layers) (u : Underway) (d0 d1 : Disk) (merge_is : L0.merge ≡ Some u) (ready : AreReady L0 d0) where
  -- the target's commit fails
  module _ (fault : StoreFault) (t : ChangesFile Settles (u.source + 2) L0 L1 d0 d1 (Err fault)) where
    target_broken : (v : State) (rest : Rest) (x y : Trace) → IsServing L0 (record v { rest = rest }) x → KeepsOver t.was x y → HasEnded (record v { rest = rest }) x y
    target_broken v (plain others) x y serving over = absurd (let never : IsCourse (sector_of v) v.writes L0 (Some u) v.top (plain others) = subst (λ o. IsCourse (sector_of v) v.writes L0 o v.top (plain others)) merge_is serving.course in never)
    target_broken v (retiring lower rest l k) x y serving over = absurd (let never : IsCourse (sector_of v) v.writes L0 (Some u) v.top (retiring lower rest l k) = subst (λ o. IsCourse (sector_of v) v.writes L0 o v.top (retiring lower rest l k)) merge_is serving.course in never)
    target_broken v (merging above source target below m) x y serving over =
        target_err v v.top above source target below m L0 L1 u d0 x y merge_is ready t.geometry t.merge t.retiring t.was t.now t.changed.parts serving over t.exchanged

    pub finish_stopped_first : Finishes L0 L1 d0 d1 (Err fault)
    finish_stopped_first = record {
      told = both_from (KeepsOver t.was) (λ trace now. (v : State) → IsServing L0 v trace → FinishesTo L0.retiring v L1 trace now (Err fault)) d0.told d1.told (λ x y over v serving. target_broken v v.rest x y serving over) t.changed.moments;
      ready = tt;
      low = tt;
      session = exchanged_session (u.source + 2) t.was t.now L0 L1 t.exchanged;
      geometry = t.geometry;
      merge = tt;
      files = tt;
      leaf = tt;
      stays = (t.merge, t.retiring);
      counts = tt;
      err = change_failed t.was L0 d0 d1 (Err fault) (is_target t.was t.now L0 L1 u merge_is t.exchanged) (was_ready (u.source + 2) t.was t.now L0 L1 u d0 d1 merge_is ready t.geometry t.changed.parts t.exchanged) t.changed.err;
    }

  -- once it is committed
  module _ (L2 : Layers) (d2 : Disk) (t : ChangesFile Settles (u.source + 2) L0 L1 d0 d1 (Ok tt)) where
    pub merge_then : L1.merge ≡ Some u
    merge_then = t.merge ∙ merge_is

    pub ready_then : AreReady L1 d1
    ready_then = settled_ready (u.source + 2) L0 L1 u d0 d1 merge_is ready t

    numbers_then : file_numbers L1.below.items ≡ file_numbers L0.below.items
    numbers_then = exchanged_numbers (u.source + 2) t.was t.now L0 L1 t.exchanged t.changed.parts

    leaf_then : leaf_number L1 ≡ leaf_number L0
    leaf_then = exchanged_leaf (u.source + 2) t.was t.now L0 L1 t.exchanged t.changed.parts

    abbrev Told : Trace → Trace → Type 0
    Told x y = KeepsOver t.was x y × HasCommitted t.was t.now x y

    told_first : WhereBothTold Told d0.told d1.told
    told_first = both_and (KeepsOver t.was) (HasCommitted t.was t.now) d0.told d1.told t.changed.moments t.changed.has

    -- the child's commit fails
    module _ (fault : StoreFault) (c : ChangesFile Settles u.source L1 L2 d1 d2 (Err fault)) where
      child_broken : (v : State) (rest : Rest) (x y z : Trace) → IsServing L0 (record v { rest = rest }) x → Told x y → KeepsOver c.was y z → HasEnded (record v { rest = rest }) x z
      child_broken v (plain others) x y z serving first over = absurd (let never : IsCourse (sector_of v) v.writes L0 (Some u) v.top (plain others) = subst (λ o. IsCourse (sector_of v) v.writes L0 o v.top (plain others)) merge_is serving.course in never)
      child_broken v (retiring lower rest l k) x y z serving first over = absurd (let never : IsCourse (sector_of v) v.writes L0 (Some u) v.top (retiring lower rest l k) = subst (λ o. IsCourse (sector_of v) v.writes L0 o v.top (retiring lower rest l k)) merge_is serving.course in never)
      child_broken v (merging above source target below m) x y z serving first over =
          let one = target_ok v v.top above source target below m L0 L1 u d0 x y merge_is ready t.geometry t.merge t.retiring t.was t.now t.changed.parts serving first.0 t.exchanged first.1 in
          let two : HasEnded (record v { rest = merging above source (settled target) below m }) y z = by_place above target one.1 c.exchanged in
          record { moments = joined (record v { rest = merging above source target below m }) x y z one.0 two.moments; still = two.still; past = two.past }
        where
          by_place : (above : List Placed) (target : Placed) → IsServing L1 (record v { rest = merging above source (settled target) below m }) y → IsExchanged u.source c.was c.now L1 L2 → HasEnded (record v { rest = merging above source (settled target) below m }) y z
          by_place above target serving (at_leaf at is leaf_now same) =
              leaf_err v v.top above source (settled target) below m L1 L2 u d1 y z merge_then ready_then c.geometry c.merge c.retiring c.was c.now c.changed.parts serving over is
          by_place above target serving (at_lower at e leaf_is r) =
              let under : IsUnder (sector_of v) v.writes L1 u v.top above source (settled target) m = subst (λ o. IsCourse (sector_of v) v.writes L1 o v.top (merging above source (settled target) below m)) merge_then serving.course in
              let s = snoc above at (sym under.place ∙ e) in
              subst (λ (k : List Placed). IsServing L1 (record v { rest = merging k source (settled target) below m }) y → HasEnded (record v { rest = merging k source (settled target) below m }) y z) (sym s.is)
              (λ here. lower_err v v.top s.pre s.child source (settled target) below m L1 L2 u d1 y z merge_then ready_then c.was c.now here r.above r.below r.was_there (r.place ∙ sym s.long) over) serving

      pub finish_stopped_second : Finishes L0 L2 d0 d2 (Err fault)
      finish_stopped_second = record {
        told = both_join Told (KeepsOver c.was) (λ trace now. (v : State) → IsServing L0 v trace → FinishesTo L0.retiring v L2 trace now (Err fault)) d0.told d1.told d2.told (λ x y z first over v serving. child_broken v v.rest x y z serving first over) told_first
            c.changed.moments;
        ready = tt;
        low = tt;
        session = exchanged_session u.source c.was c.now L1 L2 c.exchanged ∙ exchanged_session (u.source + 2) t.was t.now L0 L1 t.exchanged;
        geometry = c.geometry ∙ t.geometry;
        merge = tt;
        files = tt;
        leaf = tt;
        stays = (c.merge ∙ t.merge, c.retiring ∙ t.retiring);
        counts = tt;
        err = failed_later (IsTargetOrChild L1) (IsTargetOrChild L0) d0 d1 d2 (Err fault) (finishing_before L0 L1 numbers_then leaf_then t.merge) t.changed.counts
            (change_failed c.was L1 d1 d2 (Err fault) (is_child c.was c.now L1 L2 u d1 merge_then ready_then c.exchanged) (was_ready u.source c.was c.now L1 L2 u d1 d2 merge_then ready_then c.geometry c.changed.parts c.exchanged) c.changed.err);
      }

    -- once the child is committed too
    module _ (L3 : Layers) (d3 : Disk) (c : ChangesFile Settles u.source L1 L2 d1 d2 (Ok tt)) (marked : IsAllMarked u.marks) where
      pub merge_now : L2.merge ≡ Some u
      merge_now = c.merge ∙ merge_then

      pub ready_now : AreReady L2 d2
      ready_now = settled_ready u.source L1 L2 u d1 d2 merge_then ready_then c

      numbers_now : file_numbers L2.below.items ≡ file_numbers L0.below.items
      numbers_now = exchanged_numbers u.source c.was c.now L1 L2 c.exchanged c.changed.parts ∙ numbers_then

      leaf_now_is : leaf_number L2 ≡ leaf_number L0
      leaf_now_is = exchanged_leaf u.source c.was c.now L1 L2 c.exchanged c.changed.parts ∙ leaf_then

      abbrev Both : Trace → Trace → Trace → Type 0
      Both x y z = Told x y × (KeepsOver c.was y z × HasCommitted c.was c.now y z)

      told_second : WhereBothTold (λ y z. KeepsOver c.was y z × HasCommitted c.was c.now y z) d1.told d2.told
      told_second = both_and (KeepsOver c.was) (HasCommitted c.was c.now) d1.told d2.told c.changed.moments c.changed.has

      -- R of the moments of both commits and S of those of the relink
      through : (S Q : Trace → Trace → Type 0) → WhereBothTold S d2.told d3.told → ((x y z w : Trace) → Both x y z → S z w → Q x w) → WhereBothTold Q d0.told d3.told
      through S Q last weaker =
          both_join Told (λ y w. (z : Trace) × ((KeepsOver c.was y z × HasCommitted c.was c.now y z) × S z w)) Q d0.told d1.told d3.told (λ x y w first more. weaker x y more.0 w (first, more.1.0) more.1.1)
          told_first
          (both_join (λ y z. KeepsOver c.was y z × HasCommitted c.was c.now y z) S (λ y w. (z : Trace) × ((KeepsOver c.was y z × HasCommitted c.was c.now y z) × S z w)) d1.told d2.told d3.told (λ y z w second s. (z, (second, s))) told_second last)

      -- ---- the leaf is the child

      module _ (v : State) (source target : Placed) (below : List Placed) (m : Merging) (x y z : Trace) (serving : IsServing L0 (record v { rest = merging [] source target below m }) x) (both : Both x y z) (is : L1.leaf ≡ Some c.was) (leaf_now : L2.leaf ≡ Some c.now)
          (same : L2.below ≡ L1.below) where
        abbrev leaf_first : EachOpensNow (record v { rest = merging [] source target below m }) x y × IsServing L1 (record v { rest = merging [] source (settled target) below m }) y
        leaf_first = target_ok v v.top [] source target below m L0 L1 u d0 x y merge_is ready t.geometry t.merge t.retiring t.was t.now t.changed.parts serving both.0.0 t.exchanged both.0.1

        pub leaf_second : EachOpensNow (record v { rest = merging [] source (settled target) below m }) y z × IsServing L2 (record v { top = settled v.top; rest = merging [] source (settled target) below m }) z
        leaf_second = leaf_ok v v.top [] source (settled target) below m L1 L2 u d1 y z merge_then ready_then c.geometry c.merge c.retiring c.was c.now c.changed.parts leaf_first.1 both.1.0 is leaf_now same both.1.1

        pub leaf_moments : EachOpensNow (record v { rest = merging [] source target below m }) x z
        leaf_moments = joined (record v { rest = merging [] source target below m }) x y z leaf_first.0 leaf_second.0

      -- ---- the child stands below the leaf

      module _ (v : State) (pre : List Placed) (child source target : Placed) (below : List Placed) (m : Merging) (x y z : Trace) (serving : IsServing L0 (record v { rest = merging (pre ++ child ∷ []) source target below m }) x) (both : Both x y z)
          (at : ℕ) (long : length pre ≡ at) (leaf_is : L2.leaf ≡ L1.leaf) (r : IsReplaced at c.was c.now L1.below.items L2.below.items) where
        abbrev lower_first : EachOpensNow (record v { rest = merging (pre ++ child ∷ []) source target below m }) x y × IsServing L1 (record v { rest = merging (pre ++ child ∷ []) source (settled target) below m }) y
        lower_first = target_ok v v.top (pre ++ child ∷ []) source target below m L0 L1 u d0 x y merge_is ready t.geometry t.merge t.retiring t.was t.now t.changed.parts serving both.0.0 t.exchanged both.0.1

        pub lower_second : EachOpensNow (record v { rest = merging (pre ++ child ∷ []) source (settled target) below m }) y z × IsServing L2 (record v { rest = merging (pre ++ settled child ∷ []) source (settled target) below m }) z
        lower_second =
            lower_ok v v.top pre child source (settled target) below m L1 L2 u d1 y z merge_then ready_then c.was c.now lower_first.1 r.above r.below r.was_there (r.place ∙ sym long) c.geometry c.merge c.retiring leaf_is r.now_there c.changed.parts both.1.0 both.1.1

        pub lower_moments : EachOpensNow (record v { rest = merging (pre ++ child ∷ []) source target below m }) x z
        lower_moments = joined (record v { rest = merging (pre ++ child ∷ []) source target below m }) x y z lower_first.0 lower_second.0

      -- ---- the relink fails

      module _ (fault : StoreFault) (k : ChangesFile (UpdatesBy u.relink) u.source L2 L3 d2 d3 (Err fault)) where
        leaf_unlinked : (v : State) (source target : Placed) (below : List Placed) (m : Merging) (x y z w : Trace) → IsServing L0 (record v { rest = merging [] source target below m }) x → Both x y z → UpdatesOver k.was u.relink z w
            → IsExchanged u.source c.was c.now L1 L2 → IsExchanged u.source k.was k.now L2 L3 → HasEnded (record v { rest = merging [] source target below m }) x w
        leaf_unlinked v source target below m x y z w serving both over (at_leaf at is leaf_now same) (at_leaf at' is' leaf_then same') =
            let second = leaf_second v source target below m x y z serving both is leaf_now same in
            let last = top_err v (settled v.top) source (settled target) below m L2 u d2 z w merge_now ready_now second.1 marked (λ s. refl) k.was k.now is' (parts_was u.source k.was k.now L2 L3 k.exchanged) over in
            record {
              moments = joined (record v { rest = merging [] source target below m }) x z w (leaf_moments v source target below m x y z serving both is leaf_now same) last.moments;
              still = last.still;
              past = last.past;
            }
        leaf_unlinked v source target below m x y z w serving both over (at_leaf at is leaf_now same) (at_lower at' e leaf_is r) = absurd (zero_and_next u.source at' at e)
        leaf_unlinked v source target below m x y z w serving both over (at_lower at e leaf_is r) other =
            absurd (let under : IsUnder (sector_of v) v.writes L0 u v.top [] source target m = subst (λ o. IsCourse (sector_of v) v.writes L0 o v.top (merging [] source target below m)) merge_is serving.course in
            zero_and_next u.source at under.place e)

        lower_unlinked : (v : State) (pre : List Placed) (child source target : Placed) (below : List Placed) (m : Merging) (x y z w : Trace) → IsServing L0 (record v { rest = merging (pre ++ child ∷ []) source target below m }) x → Both x y z → UpdatesOver k.was u.relink z w
            → u.source ≡ length pre + 1 → IsExchanged u.source c.was c.now L1 L2 → IsExchanged u.source k.was k.now L2 L3 → HasEnded (record v { rest = merging (pre ++ child ∷ []) source target below m }) x w
        lower_unlinked v pre child source target below m x y z w serving both over place (at_leaf at is leaf_now same) other = absurd (zero_and_next u.source (length pre) at place)
        lower_unlinked v pre child source target below m x y z w serving both over place (at_lower at e leaf_is r) (at_leaf at' is' leaf_then same') = absurd (zero_and_next u.source (length pre) at' place)
        lower_unlinked v pre child source target below m x y z w serving both over place (at_lower at e leaf_is r) (at_lower at' e' leaf_is' r') =
            let long : length pre ≡ at = same_before u.source (length pre) at place e in
            let second = lower_second v pre child source target below m x y z serving both at long leaf_is r in
            let place' : length r'.above ≡ length pre = r'.place ∙ same_before u.source at' (length pre) e' place in
            let last = child_err v v.top pre (settled child) source (settled target) below m L2 u d2 z w merge_now ready_now second.1 marked (λ s. refl) k.was k.now r'.above r'.below r'.was_there place' (parts_was u.source k.was k.now L2 L3 k.exchanged) over in
            record {
              moments = joined (record v { rest = merging (pre ++ child ∷ []) source target below m }) x z w (lower_moments v pre child source target below m x y z serving both at long leaf_is r) last.moments;
              still = last.still;
              past = last.past;
            }

        unlinked : (v : State) (rest : Rest) (x y z w : Trace) → IsServing L0 (record v { rest = rest }) x → Both x y z → UpdatesOver k.was u.relink z w → HasEnded (record v { rest = rest }) x w
        unlinked v (plain others) x y z w serving both over = absurd (let never : IsCourse (sector_of v) v.writes L0 (Some u) v.top (plain others) = subst (λ o. IsCourse (sector_of v) v.writes L0 o v.top (plain others)) merge_is serving.course in never)
        unlinked v (retiring lower rest l k) x y z w serving both over = absurd (let never : IsCourse (sector_of v) v.writes L0 (Some u) v.top (retiring lower rest l k) = subst (λ o. IsCourse (sector_of v) v.writes L0 o v.top (retiring lower rest l k)) merge_is serving.course in never)
        unlinked v (merging [] source target below m) x y z w serving both over = leaf_unlinked v source target below m x y z w serving both over c.exchanged k.exchanged
        unlinked v (merging (f ∷ above) source target below m) x y z w serving both over =
            let under : IsUnder (sector_of v) v.writes L0 u v.top (f ∷ above) source target m = subst (λ o. IsCourse (sector_of v) v.writes L0 o v.top (merging (f ∷ above) source target below m)) merge_is serving.course in
            let s = snoc (f ∷ above) (length above) (suc_next (length above)) in
            let place : u.source ≡ length s.pre + 1 = suc_place u.source (length above) (length s.pre) under.place s.long in
            subst (λ (l : List Placed). IsServing L0 (record v { rest = merging l source target below m }) x → HasEnded (record v { rest = merging l source target below m }) x w) (sym s.is)
            (λ here. lower_unlinked v s.pre s.child source target below m x y z w here both over place c.exchanged k.exchanged) serving

        pub finish_stopped_third : Finishes L0 L3 d0 d3 (Err fault)
        finish_stopped_third = record {
          told = through (UpdatesOver k.was u.relink) (λ trace now. (v : State) → IsServing L0 v trace → FinishesTo L0.retiring v L3 trace now (Err fault)) k.changed.moments (λ x y z w both over v serving. unlinked v v.rest x y z w serving both over);
          ready = tt;
          low = tt;
          session = exchanged_session u.source k.was k.now L2 L3 k.exchanged ∙ exchanged_session u.source c.was c.now L1 L2 c.exchanged ∙ exchanged_session (u.source + 2) t.was t.now L0 L1 t.exchanged;
          geometry = k.geometry ∙ c.geometry ∙ t.geometry;
          merge = tt;
          files = tt;
          leaf = tt;
          stays = (k.merge ∙ c.merge ∙ t.merge, k.retiring ∙ c.retiring ∙ t.retiring);
          counts = tt;
          err = failed_later (IsTargetOrChild L2) (IsTargetOrChild L0) d0 d2 d3 (Err fault) (finishing_before L0 L2 numbers_now leaf_now_is (c.merge ∙ t.merge)) (c.changed.counts ∙ ap (λ (d : Disk). record d { told = d2.told }) t.changed.counts)
              (change_failed k.was L2 d2 d3 (Err fault) (is_child k.was k.now L2 L3 u d2 merge_now ready_now k.exchanged) (was_ready u.source k.was k.now L2 L3 u d2 d3 merge_now ready_now k.geometry k.changed.parts k.exchanged) k.changed.err);
        }

      -- ---- it is done, and the source leaves

      module _ (L4 : Layers) (k : ChangesFile (UpdatesBy u.relink) u.source L2 L3 d2 d3 (Ok tt)) (geometry : L4.geometry ≡ L3.geometry) (leaf_is : L4.leaf ≡ L3.leaf) (no_merge : L4.merge ≡ None) (none_now : L4.retiring ≡ None) (items : L4.below.items ≡ remove L3.below.items u.source) where
        room : u.source + 1 < length L2.below.items
        room = (merge_of L2 u d2 merge_now ready_now).there

        -- no merge of the leaf was under way
        by_none : (v : State) (layers : Layers) (now : Trace) → IsFinished v layers now → LeavesBy L0.retiring v layers now
        by_none v layers now is = subst (λ o. LeavesBy o v layers now) (sym (alone L0 u d0 merge_is ready)) is

        -- the leaf is the child
        leaf_finished : (v : State) (source target : Placed) (below : List Placed) (m : Merging) (x y z w : Trace) → IsServing L0 (record v { rest = merging [] source target below m }) x → Both x y z → UpdatesOver k.was u.relink z w × HasUpdated k.was k.now u.relink z w
            → IsExchanged u.source c.was c.now L1 L2 → IsExchanged u.source k.was k.now L2 L3 → FinishesTo L0.retiring (record v { rest = merging [] source target below m }) L4 x w (Ok tt)
        leaf_finished v source target below m x y z w serving both last (at_leaf at is leaf_now same) (at_leaf at' is' leaf_then same') =
            let second = leaf_second v source target below m x y z serving both is leaf_now same in
            let next = next_of L2.below.items (some_room u.source (length L2.below.items) room) in
            let left : L4.below.items ≡ next.rest = items ∙ ap (λ b. remove b.items u.source) same' ∙ ap (remove L2.below.items) at ∙ ap (λ (l : List FileLayer). remove l 0) next.is in
            let third = top_ok v (settled v.top) source (settled target) below m L2 u d2 z w merge_now ready_now second.1 marked (λ s. refl) k.was k.now is' (parts_was u.source k.was k.now L2 L3 k.exchanged) last.0
            L4 next.next next.rest next.is (geometry ∙ k.geometry) (leaf_is ∙ leaf_then) no_merge none_now left last.1 in (
              joined (record v { rest = merging [] source target below m }) x z w (leaf_moments v source target below m x y z serving both is leaf_now same) third.0,
              by_none (record v { rest = merging [] source target below m }) L4 w (record {
                top = _;
                others = settled target ∷ below;
                files = refl;
                gone = once_names v L0 v.top [] source target below m x serving;
                serving = third.1;
              }),
            )
        leaf_finished v source target below m x y z w serving both last (at_leaf at is leaf_now same) (at_lower at' e leaf_is' r) = absurd (zero_and_next u.source at' at e)
        leaf_finished v source target below m x y z w serving both last (at_lower at e leaf_is' r) other =
            absurd (let under : IsUnder (sector_of v) v.writes L0 u v.top [] source target m = subst (λ o. IsCourse (sector_of v) v.writes L0 o v.top (merging [] source target below m)) merge_is serving.course in
            zero_and_next u.source at under.place e)

        -- the child stands below the leaf
        lower_finished : (v : State) (pre : List Placed) (child source target : Placed) (below : List Placed) (m : Merging) (x y z w : Trace) → IsServing L0 (record v { rest = merging (pre ++ child ∷ []) source target below m }) x → Both x y z
            → UpdatesOver k.was u.relink z w × HasUpdated k.was k.now u.relink z w → u.source ≡ length pre + 1 → IsExchanged u.source c.was c.now L1 L2 → IsExchanged u.source k.was k.now L2 L3
            → FinishesTo L0.retiring (record v { rest = merging (pre ++ child ∷ []) source target below m }) L4 x w (Ok tt)
        lower_finished v pre child source target below m x y z w serving both last place (at_leaf at is leaf_now same) other = absurd (zero_and_next u.source (length pre) at place)
        lower_finished v pre child source target below m x y z w serving both last place (at_lower at e leaf_is' r) (at_leaf at' is' leaf_then same') = absurd (zero_and_next u.source (length pre) at' place)
        lower_finished v pre child source target below m x y z w serving both last place (at_lower at e leaf_is' r) (at_lower at' e' leaf_is'' r') =
            let long : length pre ≡ at = same_before u.source (length pre) at place e in
            let second = lower_second v pre child source target below m x y z serving both at long leaf_is' r in
            let place' : length r'.above ≡ length pre = r'.place ∙ same_before u.source at' (length pre) e' place in
            let count : length L2.below.items ≡ length r'.above + suc (length r'.below) = ap length r'.was_there ∙ length-append r'.above (Session k.was ∷ r'.below) in
            let next = next_of r'.below (room_behind u.source (length L2.below.items) (length r'.above) (length r'.below) (length pre) room count place' place) in
            let split : L3.below.items ≡ (r'.above ++ Session k.now ∷ []) ++ next.next ∷ next.rest = r'.now_there ∙ ap (λ (l : List FileLayer). r'.above ++ Session k.now ∷ l) next.is ∙ sym (append_assoc r'.above (Session k.now ∷ []) (next.next ∷ next.rest)) in
            let length_is : u.source ≡ length (r'.above ++ Session k.now ∷ []) = next_long u.source (length pre) (length r'.above) (length (r'.above ++ Session k.now ∷ [])) place place' (length-append r'.above (Session k.now ∷ [])) in
            let dropped : remove ((r'.above ++ Session k.now ∷ []) ++ next.next ∷ next.rest) u.source ≡ (r'.above ++ Session k.now ∷ []) ++ next.rest =
            ap (remove ((r'.above ++ Session k.now ∷ []) ++ next.next ∷ next.rest)) length_is ∙ remove_at (r'.above ++ Session k.now ∷ []) next.next next.rest in
            let items_then : L4.below.items ≡ remove ((r'.above ++ Session k.now ∷ []) ++ next.next ∷ next.rest) u.source = items ∙ ap (λ (l : List FileLayer). remove l u.source) split in
            let left : L4.below.items ≡ r'.above ++ Session k.now ∷ next.rest = items_then ∙ dropped ∙ append_assoc r'.above (Session k.now ∷ []) next.rest in
            let third = child_ok v v.top pre (settled child) source (settled target) below m L2 u d2 z w merge_now ready_now second.1 marked (λ s. refl) k.was k.now r'.above r'.below r'.was_there place' (parts_was u.source k.was k.now L2 L3 k.exchanged) last.0
            L4 next.next next.rest next.is (geometry ∙ k.geometry) (leaf_is ∙ leaf_is'') no_merge none_now left last.1 in
            let relinks = child_relinks v v.top pre (settled child) source (settled target) below m L2 u d2 z w merge_now ready_now second.1 marked (λ s. refl) k.was k.now r'.above r'.below r'.was_there place' (parts_was u.source k.was k.now L2 L3 k.exchanged) last.0 in
            let linked : Placed = relinked_child k.was.tables.parts.bat_len u.relink (settled child) (settled target) relinks in
            let looks = looks_below pre child linked target (settled target) below refl refl in
            let alike = ap (λ l. look_of v.top ∷ l) looks in (
              joined (record v { rest = merging (pre ++ child ∷ []) source target below m }) x z w (lower_moments v pre child source target below m x y z serving both at long leaf_is' r) third.0,
              by_none (record v { rest = merging (pre ++ child ∷ []) source target below m }) L4 w (record {
                top = v.top;
                others = pre ++ linked ∷ settled target ∷ below;
                files = alike;
                gone = lacks_alike source.member.name (v.top ∷ (pre ++ linked ∷ settled target ∷ below)) (v.top ∷ ((pre ++ child ∷ []) ++ target ∷ below)) alike (once_names v L0 v.top (pre ++ child ∷ []) source target below m x serving);
                serving = third.1;
              }),
            )

        finished : (v : State) (rest : Rest) (x y z w : Trace) → IsServing L0 (record v { rest = rest }) x → Both x y z → UpdatesOver k.was u.relink z w × HasUpdated k.was k.now u.relink z w → FinishesTo L0.retiring (record v { rest = rest }) L4 x w (Ok tt)
        finished v (plain others) x y z w serving both last = absurd (let never : IsCourse (sector_of v) v.writes L0 (Some u) v.top (plain others) = subst (λ o. IsCourse (sector_of v) v.writes L0 o v.top (plain others)) merge_is serving.course in never)
        finished v (retiring lower rest l k) x y z w serving both last = absurd (let never : IsCourse (sector_of v) v.writes L0 (Some u) v.top (retiring lower rest l k) = subst (λ o. IsCourse (sector_of v) v.writes L0 o v.top (retiring lower rest l k)) merge_is serving.course in never)
        finished v (merging [] source target below m) x y z w serving both last = leaf_finished v source target below m x y z w serving both last c.exchanged k.exchanged
        finished v (merging (f ∷ above) source target below m) x y z w serving both last =
            let under : IsUnder (sector_of v) v.writes L0 u v.top (f ∷ above) source target m = subst (λ o. IsCourse (sector_of v) v.writes L0 o v.top (merging (f ∷ above) source target below m)) merge_is serving.course in
            let s = snoc (f ∷ above) (length above) (suc_next (length above)) in
            let place : u.source ≡ length s.pre + 1 = suc_place u.source (length above) (length s.pre) under.place s.long in
            subst (λ (l : List Placed). IsServing L0 (record v { rest = merging l source target below m }) x → FinishesTo L0.retiring (record v { rest = merging l source target below m }) L4 x w (Ok tt)) (sym s.is)
            (λ here. lower_finished v s.pre s.child source target below m x y z w here both last place c.exchanged k.exchanged) serving

        -- for every store
        numbers_last : file_numbers L3.below.items ≡ file_numbers L0.below.items
        numbers_last = exchanged_numbers u.source k.was k.now L2 L3 k.exchanged k.changed.parts ∙ numbers_now

        at_source : IsAt L3.below.items u.source (get_or L3.below.items u.source (Session k.now))
        at_source =
            at_place L3.below.items u.source (Session k.now)
            (let long : length L3.below.items ≡ length L2.below.items =
            sym (length-map L3.below.items number_of) ∙ ap length (exchanged_numbers u.source k.was k.now L2 L3 k.exchanged k.changed.parts) ∙ length-map L2.below.items number_of in within_same u.source (length L2.below.items) (length L3.below.items) room long)

        items_left : L4.below.items ≡ at_source.before ++ at_source.behind
        items_left =
            items ∙ ap (λ (l : List FileLayer). remove l u.source) at_source.parts ∙ ap (remove (at_source.before ++ get_or L3.below.items u.source (Session k.now) ∷ at_source.behind)) (sym at_source.long)
            ∙ remove_at at_source.before (get_or L3.below.items u.source (Session k.now)) at_source.behind

        parts_left : AreParts L4.geometry L4.leaf L4.below.items d3
        parts_left =
            let others = relinking_leaves k.was u.relink d2 d3 (child_turned k.was k.now L2 L3 u d2 merge_now ready_now k.exchanged) k.changed.moments in
            let all = parts_stay u.source k.was k.now L2 L3 u d2 d3 merge_now ready_now k.geometry k.changed.parts k.exchanged others (ap (λ (d : Disk). d.files) k.changed.counts) k.changed.ready in
            let left = parts_without L3.geometry L3.leaf at_source.before (get_or L3.below.items u.source (Session k.now)) at_source.behind d3 (subst (λ (l : List FileLayer). AreParts L3.geometry L3.leaf l d3) at_source.parts all) in
            subst (λ (l : List FileLayer). AreParts L4.geometry L4.leaf l d3) (sym items_left)
            (subst (λ o. AreParts L4.geometry o (at_source.before ++ at_source.behind) d3) (sym leaf_is) (subst (λ (g : Geometry). AreParts g L3.leaf (at_source.before ++ at_source.behind) d3) (sym geometry) left))

        low_left : (most : ℕ) → IsLow most L0 → IsLow (most + 3) L4
        low_left most low =
            let one = exchanged_low (u.source + 2) t.was t.now L0 L1 t.exchanged t.changed.parts t.changed.number most low in
            let two = exchanged_low u.source c.was c.now L1 L2 c.exchanged c.changed.parts c.changed.number (most + 1) one in
            let three = exchanged_low u.source k.was k.now L2 L3 k.exchanged k.changed.parts k.changed.number (most + 1 + 1) two in
            let sum : most + 1 + 1 + 1 ≡ most + 3 = three_more most in
            let all : IsLow (most + 3) L3 = subst (λ (n : ℕ). IsLow n L3) sum three in (
              subst (λ (o : Option Layer). IfSome (option_map (λ (l : Layer). l.log.number) o) (λ n. n ≤ most + 3)) (sym leaf_is) all.0,
              subst (λ (l : List FileLayer). AllByRecursion (λ number. IfSome number (λ n. n ≤ most + 3)) (map log_number l)) (sym items_left)
                  (low_but (most + 3) at_source.before (get_or L3.below.items u.source (Session k.now)) at_source.behind
                  (subst (λ (l : List FileLayer). AllByRecursion (λ number. IfSome number (λ n. n ≤ most + 3)) (map log_number l)) at_source.parts all.1)),
            )

        pub finish_done : Finishes L0 L4 d0 d3 (Ok tt)
        finish_done = record {
          told = through (λ z w. UpdatesOver k.was u.relink z w × HasUpdated k.was k.now u.relink z w) (λ trace now. (v : State) → IsServing L0 v trace → FinishesTo L0.retiring v L4 trace now (Ok tt))
              (both_and (UpdatesOver k.was u.relink) (HasUpdated k.was k.now u.relink) d2.told d3.told k.changed.moments k.changed.has) (λ x y z w both last v serving. finished v v.rest x y z w serving both last);
          ready = record {
            sector = ap (λ (g : Geometry). g.sector) (geometry ∙ k.geometry ∙ c.geometry ∙ t.geometry) ∙ ready.sector;
            leaf = parts_left.leaf;
            below = parts_left.below;
            apart = parts_left.apart;
            merge = subst (λ o. IfSome o (IsMergeOf L4.geometry L4.leaf L4.below.items)) (sym no_merge) tt;
            relink = subst (λ o. IfSome o (CanRelink L4.leaf L4.below.items d3)) (sym no_merge) tt;
            one = subst (λ o. AtMostOne o L4.retiring) (sym no_merge) tt;
            retiring = subst (λ o. IfSome o (IsRetiringOf L4.geometry L4.leaf L4.below.items)) (sym none_now) tt;
            retires = subst (λ o. IfSome o (CanRetire L4.leaf L4.below.items d3)) (sym none_now) tt;
          };
          low = low_left;
          session = ap is_some leaf_is ∙ exchanged_session u.source k.was k.now L2 L3 k.exchanged ∙ exchanged_session u.source c.was c.now L1 L2 c.exchanged ∙ exchanged_session (u.source + 2) t.was t.now L0 L1 t.exchanged;
          geometry = geometry ∙ k.geometry ∙ c.geometry ∙ t.geometry;
          merge = (no_merge, none_now);
          leaf = ap number_of_leaf leaf_is ∙ exchanged_leaf u.source k.was k.now L2 L3 k.exchanged k.changed.parts ∙ leaf_now_is ∙ sym (ap (leaf_left L0) merge_is);
          files = ap file_numbers items ∙ map_remove number_of L3.below.items u.source ∙ ap (λ (l : List ℕ). remove l u.source) numbers_last ∙ sym (ap (numbers_left (file_numbers L0.below.items)) merge_is);
          stays = tt;
          counts = k.changed.counts ∙ ap (λ (d : Disk). record d { told = d3.told }) (c.changed.counts ∙ ap (λ (d : Disk). record d { told = d2.told }) t.changed.counts);
          err = tt;
        }
