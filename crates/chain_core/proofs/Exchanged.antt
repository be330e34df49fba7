-- A file at a place of the chain has another layer: what the session keeps of it, for every store.
use Rattle.std.proofs.Common.{inl, inr, ◌≡◌, ℕ, zero, suc, ◌+◌, ◌-◌, ◌==◌, ◌<◌, ◌≤◌, Bool, true, false, cond, List, [], ◌∷◌, ◌++◌, length, map, get_or, refl, sym, ap, subst, ◌∙◌, arith, is_some, ne_eqb}
use Rattle.std.specs.Prelude.{Option, Some, None, option_map, IfErr, IfSome, Result, Ok, Err}
use Rattle.std.specs.List.{AllByRecursion}
use Rattle.vx_base.specs.declared.parts.Geometry.{Geometry}
use Rattle.vhdx_format.specs.declared.log_entry.Page.{Page}
use Rattle.store_model.specs.Disk.{Disk, WhereBothTold, WhereTold}
use Rattle.store_model.specs.Plans.{FailsToChange}
use Rattle.store_model.specs.Trace.{Trace}
use Rattle.store_model.specs.declared.fault.StoreFault.{StoreFault}
use Rattle.layer_session.specs.Calls.{KeepsOver, own_file}
use Rattle.layer_session.specs.FileLayers.{FileTurns, LeavesOthers, WaitsForNone, file_numbers, log_number, table_parts}
use Rattle.layer_session.specs.Keeping.{IsReady}
use Rattle.layer_session.specs.Updating.{Turns, UpdatesOver, turned}
use Rattle.layer_session.specs.declared.file.Layer.{Layer}
use Rattle.layer_session.specs.declared.file_layer.FileLayer.{FileLayer}
use Rattle.layer_session.specs.declared.file_layer.FileLayer.TheVariants.{Session}
use Rattle.layer_session.proofs.FileLayers.{others_stand}
use Rattle.table_pages.specs.declared.tables.TableParts.{TableParts}
use Rattle.chain_core.specs.declared.layers.Layers.{Layers}
use Rattle.chain_core.specs.declared.layers.Underway.{Underway}
use Rattle.chain_core.specs.Copying.{number_below, target_number}
use Rattle.chain_core.specs.Ending.{SomeChangeFailed}
use Rattle.chain_core.specs.Finished.{ChildIsSettled, IsExchanged, IsTargetOrChild, IsSessionOf, at_leaf, at_lower, number_above}
use Rattle.chain_core.specs.Sessions.{AreReady, CanRelink, IsLow, IsMergeOf, child_layer, is_session_at, leaf_number, number_of_leaf}
use Rattle.chain_core.specs.States.{child_parts}
use Rattle.chain_core.proofs.Places.{IsAt, alone, merge_of}
use Rattle.chain_core.proofs.Replaced.{AreParts, all_low, both_at, index_at, leaf_parts_then, low_at, more_low, numbers_at, parts_of, parts_then, replaced_own, replaced_ready}
use Rattle.chain_core.proofs.Standing.{leaf_of, ready_on}
use Rattle.chain_core.proofs.Turning.{KeepsTies, alike_same}

-- ---- numbers

pub exchanged_low : (place : ℕ) (was now : Layer) (old new : Layers) → IsExchanged place was now old new → now.tables.parts ≡ was.tables.parts → now.log.number ≤ was.log.number + 1 → (most : ℕ) → IsLow most old → IsLow (most + 1) new
exchanged_low place was now old new (at_leaf at is leaf_now below) parts one most low = (
  subst (λ (o : Option Layer). IfSome (option_map (λ (k : Layer). k.log.number) o) (λ n. n ≤ most + 1)) (sym leaf_now)
      (let first : was.log.number ≤ most = subst (λ (o : Option Layer). IfSome (option_map (λ (k : Layer). k.log.number) o) (λ n. n ≤ most)) is low.0 in omega (arith, one, first)),
  subst (λ b. AllByRecursion (λ number. IfSome number (λ n. n ≤ most + 1)) (map log_number b.items)) (sym below) (all_low most (map log_number old.below.items) low.1),
)
exchanged_low place was now old new (at_lower at e leaf_is r) parts one most low = (
  subst (λ (o : Option Layer). IfSome (option_map (λ (k : Layer). k.log.number) o) (λ n. n ≤ most + 1)) (sym leaf_is) (more_low most (option_map (λ (k : Layer). k.log.number) old.leaf) low.0),
  subst (λ (c : List FileLayer). AllByRecursion (λ number. IfSome number (λ n. n ≤ most + 1)) (map log_number c)) (sym r.now_there)
      (low_at was now parts most r.above r.below one (subst (λ (c : List FileLayer). AllByRecursion (λ number. IfSome number (λ n. n ≤ most)) (map log_number c)) r.was_there low.1)),
)

pub exchanged_numbers : (place : ℕ) (was now : Layer) (old new : Layers) → IsExchanged place was now old new → now.tables.parts ≡ was.tables.parts → file_numbers new.below.items ≡ file_numbers old.below.items
exchanged_numbers place was now old new (at_leaf at is leaf_now below) parts = ap (λ b. file_numbers b.items) below
exchanged_numbers place was now old new (at_lower at e leaf_is r) parts = ap file_numbers r.now_there ∙ numbers_at was now parts r.above r.below ∙ sym (ap file_numbers r.was_there)

pub exchanged_session : (place : ℕ) (was now : Layer) (old new : Layers) → IsExchanged place was now old new → is_some new.leaf ≡ is_some old.leaf
exchanged_session place was now old new (at_leaf at is leaf_now below) = ap is_some leaf_now ∙ sym (ap is_some is)
exchanged_session place was now old new (at_lower at e leaf_is r) = ap is_some leaf_is

-- ---- the layer at the place

one_less : (at : ℕ) → at + 1 - 1 ≡ at
one_less at = omega arith

not_first : (at : ℕ) → (at + 1 == 0) ≡ false
not_first at = ne_eqb (at + 1) 0 (λ e. absurd (omega (arith, e)))

there : (a : List FileLayer) (x : FileLayer) (b : List FileLayer) → get_or (map (λ l. Some l) (a ++ x ∷ b)) (length a) None ≡ Some x
there [] x b = refl
there (y ∷ a) x b = there a x b

parts_there : (a : List FileLayer) (x : FileLayer) (b : List FileLayer) → get_or (map (λ l. Some (table_parts l)) (a ++ x ∷ b)) (length a) None ≡ Some (table_parts x)
parts_there [] x b = refl
parts_there (y ∷ a) x b = parts_there a x b

-- the layer that stands at a place
pub layer_at : (items : List FileLayer) (at : ℕ) (x : FileLayer) → IsAt items at x → get_or (map (λ l. Some l) items) at None ≡ Some x
layer_at items at x is = ap (λ (c : List FileLayer). get_or (map (λ l. Some l) c) at None) is.parts ∙ ap (λ n. get_or (map (λ l. Some l) (is.before ++ x ∷ is.behind)) n None) (sym is.long) ∙ there is.before x is.behind

pub turns_of : (l : Layer) (pages : List Page) (told : Option Trace) → WhereTold told (FileTurns (Session l) pages) → WhereTold told (Turns l pages)
turns_of l pages told turns t is = let f = turns t is in record { file = f.file; ties = f.ties; region = f.region; serves = f.has; into = f.into }

lower_layer : (o : Option Layer) (items a : List FileLayer) (x : FileLayer) (b : List FileLayer) (at : ℕ) → items ≡ a ++ x ∷ b → length a ≡ at → child_layer o items (at + 1) ≡ Some x
lower_layer o items a x b at is long =
    ap (λ (z : Bool). cond z (option_map Session o) (get_or (map (λ l. Some l) items) (at + 1 - 1) None)) (not_first at)
    ∙ ap (λ (n : ℕ). get_or (map (λ l. Some l) items) n None) (one_less at ∙ sym long) ∙ ap (λ (c : List FileLayer). get_or (map (λ l. Some l) c) (length a) None) is ∙ there a x b

lower_parts : (o : Option Layer) (items a : List FileLayer) (x : FileLayer) (b : List FileLayer) (at : ℕ) → items ≡ a ++ x ∷ b → length a ≡ at → child_parts o items (at + 1) ≡ Some (table_parts x)
lower_parts o items a x b at is long =
    ap (λ (z : Bool). cond z (option_map (λ (l : Layer). l.tables.parts) o) (get_or (map (λ l. Some (table_parts l)) items) (at + 1 - 1) None)) (not_first at)
    ∙ ap (λ (n : ℕ). get_or (map (λ l. Some (table_parts l)) items) n None) (one_less at ∙ sym long) ∙ ap (λ (c : List FileLayer). get_or (map (λ l. Some (table_parts l)) c) (length a) None) is ∙ parts_there a x b

pub layer_was : (place : ℕ) (was now : Layer) (old new : Layers) → IsExchanged place was now old new → child_layer old.leaf old.below.items place ≡ Some (Session was)
layer_was place was now old new (at_leaf at is leaf_now below) = ap (child_layer old.leaf old.below.items) at ∙ ap (λ o. child_layer o old.below.items 0) is
layer_was place was now old new (at_lower at e leaf_is r) = ap (child_layer old.leaf old.below.items) e ∙ lower_layer old.leaf old.below.items r.above (Session was) r.below at r.was_there r.place

pub layer_now : (place : ℕ) (was now : Layer) (old new : Layers) → IsExchanged place was now old new → child_layer new.leaf new.below.items place ≡ Some (Session now)
layer_now place was now old new (at_leaf at is leaf_now below) = ap (child_layer new.leaf new.below.items) at ∙ ap (λ o. child_layer o new.below.items 0) leaf_now
layer_now place was now old new (at_lower at e leaf_is r) = ap (child_layer new.leaf new.below.items) e ∙ lower_layer new.leaf new.below.items r.above (Session now) r.below at r.now_there r.place

pub parts_was : (place : ℕ) (was now : Layer) (old new : Layers) → IsExchanged place was now old new → child_parts old.leaf old.below.items place ≡ Some was.tables.parts
parts_was place was now old new (at_leaf at is leaf_now below) = ap (child_parts old.leaf old.below.items) at ∙ ap (λ o. child_parts o old.below.items 0) is
parts_was place was now old new (at_lower at e leaf_is r) = ap (child_parts old.leaf old.below.items) e ∙ lower_parts old.leaf old.below.items r.above (Session was) r.below at r.was_there r.place

-- ---- for every store

module _ (place : ℕ) (was now : Layer) (old new : Layers) (u : Underway) (before after : Disk) (merge_is : old.merge ≡ Some u) (ready : AreReady old before) (geometry : new.geometry ≡ old.geometry) (parts : now.tables.parts ≡ was.tables.parts) where
  pub was_ready : IsExchanged place was now old new → IsReady was before
  was_ready (at_leaf at is leaf_now below) = (leaf_of old was before is ready).ready
  was_ready (at_lower at e leaf_is r) = (replaced_own old new u before after merge_is ready geometry leaf_is r.above r.below was now r.was_there r.now_there parts).ready

  pub parts_stay : IsExchanged place was now old new → WhereBothTold (LeavesOthers (own_file was)) before.told after.told → after.files ≡ before.files → IsReady now after → AreParts new.geometry new.leaf new.below.items after
  parts_stay (at_leaf at is leaf_now below) others files is_ready =
      subst (λ b. AreParts new.geometry new.leaf b.items after) (sym below)
      (subst (λ o. AreParts new.geometry o old.below.items after) (sym leaf_now)
      (subst (λ (g : Geometry). AreParts g (Some now) old.below.items after) (sym geometry)
      (leaf_parts_then old.geometry was now old.below.items before after parts (subst (λ o. AreParts old.geometry o old.below.items before) is (parts_of old before ready)) others files is_ready)))
  parts_stay (at_lower at e leaf_is r) others files is_ready =
      subst (λ (c : List FileLayer). AreParts new.geometry new.leaf c after) (sym r.now_there)
      (subst (λ o. AreParts new.geometry o (r.above ++ Session now ∷ r.below) after) (sym leaf_is)
      (subst (λ (g : Geometry). AreParts g old.leaf (r.above ++ Session now ∷ r.below) after) (sym geometry)
      (parts_then old.geometry old.leaf r.above r.below was now before after parts (subst (λ (c : List FileLayer). AreParts old.geometry old.leaf c before) r.was_there (parts_of old before ready)) others files is_ready)))

  pub still_ready : IsExchanged place was now old new → new.merge ≡ old.merge → new.retiring ≡ old.retiring → WhereBothTold (LeavesOthers (own_file was)) before.told after.told → after.files ≡ before.files → IsReady now after
      → WhereBothTold (KeepsTies was now) before.told after.told → AreReady new after
  still_ready (at_leaf at is leaf_now below) merge kept others files is_ready keeps =
      ready_on old new was now before after (record { geometry = geometry; below = below; merge = merge; parts = parts; was = is; now = leaf_now }) (alike_same old.retiring new.retiring kept) parts ready others files is_ready keeps
  still_ready (at_lower at e leaf_is r) merge kept others files is_ready keeps =
      replaced_ready old new u before after merge_is ready geometry leaf_is r.above r.below was now r.was_there r.now_there parts others files is_ready keeps u (merge ∙ merge_is) refl refl refl (kept ∙ alone old u before merge_is ready)

  pub settling_leaves : IsExchanged place was now old new → WhereBothTold (KeepsOver was) before.told after.told → WhereBothTold (LeavesOthers (own_file was)) before.told after.told
  settling_leaves x over = others_stand.kept was before after (was_ready x) over

-- the pages that a merge keeps turn its child's metadata
pub child_turned : (was now : Layer) (old new : Layers) (u : Underway) (before : Disk) → old.merge ≡ Some u → AreReady old before → IsExchanged u.source was now old new → WhereTold before.told (FileTurns (Session was) u.relink)
child_turned was now old new u before merge_is ready x =
    let can : CanRelink old.leaf old.below.items before u = subst (λ o. IfSome o (CanRelink old.leaf old.below.items before)) merge_is ready.relink in
    subst (λ o. IfSome o (λ l. WhereTold before.told (FileTurns l u.relink))) (layer_was u.source was now old new x) can.turns

pub relinking_leaves : (was : Layer) (pages : List Page) (before after : Disk) → WhereTold before.told (FileTurns (Session was) pages) → WhereBothTold (UpdatesOver was pages) before.told after.told → WhereBothTold (LeavesOthers (own_file was)) before.told after.told
relinking_leaves was pages before after turns over =
    both_at (UpdatesOver was pages) (LeavesOthers (own_file was)) before.told after.told over
    (λ t y told now o.
    let f = turns t told in
    subst (λ n. LeavesOthers n t y) f.has.number (others_stand.phase f.file (turned f.ties f.region f.file) t y (o.over f.file f.ties f.region f.has f.into)))

-- ---- numbers of files

pub is_target : (was now : Layer) (old new : Layers) (u : Underway) → old.merge ≡ Some u → IsExchanged (u.source + 2) was now old new → IsTargetOrChild old (own_file was)
is_target was now old new u merge_is (at_leaf at is leaf_now below) = absurd (omega (arith, at))
is_target was now old new u merge_is (at_lower at e leaf_is r) =
    let place : length r.above ≡ u.source + 1 = omega (arith, e, r.place) in
    inl (sym (ap (λ m. target_number (record old { merge = m })) merge_is ∙ ap (λ n. get_or (file_numbers old.below.items) n 0) (sym place)
    ∙ ap (λ (c : List FileLayer). get_or (file_numbers c) (length r.above) 0) r.was_there ∙ index_at r.above r.below (Session was)))

pub is_child : (was now : Layer) (old new : Layers) (u : Underway) (before : Disk) → old.merge ≡ Some u → AreReady old before → IsExchanged u.source was now old new → IsTargetOrChild old (own_file was)
is_child was now old new u before merge_is ready (at_leaf at is leaf_now below) =
    inr (sym (ap number_of_leaf is) ∙ sym (ap (number_above old) merge_is ∙ ap (λ n. cond (n == 0) (leaf_number old) (get_or (file_numbers old.below.items) (n - 1) 0)) at))
is_child was now old new u before merge_is ready (at_lower at e leaf_is r) =
    inr (sym (ap (number_above old) merge_is ∙ ap (λ n. cond (n == 0) (leaf_number old) (get_or (file_numbers old.below.items) (n - 1) 0)) e
    ∙ ap (λ (z : Bool). cond z (leaf_number old) (get_or (file_numbers old.below.items) (at + 1 - 1) 0)) (not_first at) ∙ ap (λ n. get_or (file_numbers old.below.items) n 0) (one_less at ∙ sym r.place)
    ∙ ap (λ (c : List FileLayer). get_or (file_numbers c) (length r.above) 0) r.was_there ∙ index_at r.above r.below (Session was)))

pub finishing_before : (old new : Layers) → file_numbers new.below.items ≡ file_numbers old.below.items → leaf_number new ≡ leaf_number old → new.merge ≡ old.merge → (n : ℕ) → IsTargetOrChild new n → IsTargetOrChild old n
finishing_before old new numbers top merge n (inl t) = inl (t ∙ ap (number_below (file_numbers new.below.items)) merge ∙ ap (λ (l : List ℕ). number_below l old.merge) numbers)
finishing_before old new numbers top merge n (inr c) = inr (c ∙ ap (number_above new) merge ∙ by_merge old.merge)
  where
    by_merge : (m : Option Underway) → number_above new m ≡ number_above old m
    by_merge None = top
    by_merge (Some u) = ap (λ n. cond (u.source == 0) n (get_or (file_numbers new.below.items) (u.source - 1) 0)) top ∙ ap (λ (l : List ℕ). cond (u.source == 0) (leaf_number old) (get_or l (u.source - 1) 0)) numbers

-- the leaf is the same file still
pub exchanged_leaf : (place : ℕ) (was now : Layer) (old new : Layers) → IsExchanged place was now old new → now.tables.parts ≡ was.tables.parts → leaf_number new ≡ leaf_number old
exchanged_leaf place was now old new (at_leaf at is leaf_now below) parts = ap number_of_leaf leaf_now ∙ ap (λ (p : TableParts). p.file) parts ∙ sym (ap number_of_leaf is)
exchanged_leaf place was now old new (at_lower at e leaf_is r) parts = ap number_of_leaf leaf_is

pub change_failed : (was : Layer) (old : Layers) (before after : Disk) (r : Result (Unit {0}) StoreFault) → IsTargetOrChild old (own_file was) → IsReady was before → IfErr r (FailsToChange (own_file was) before after)
    → IfErr r (SomeChangeFailed (IsTargetOrChild old) before after)
change_failed was old before after (Ok done) is ready fails = tt
change_failed was old before after (Err fault) is ready fails = record {
  such = subst (IsTargetOrChild old) (sym fails.of_file) is;
  within = subst (λ n. n < before.files) (sym fails.of_file) ready.readable.there;
  fails = subst (λ n. FailsToChange n before after fault) (sym fails.of_file) fails;
}

-- the child of a merge is in a session
pub child_session : (layers : Layers) (u : Underway) (disk : Disk) → layers.merge ≡ Some u → AreReady layers disk → IsSessionOf layers u.source
child_session layers u disk merge_is ready =
    let merge : IsMergeOf layers.geometry layers.leaf layers.below.items u = merge_of layers u disk merge_is ready in
    by_place u.source merge.child (merge.session)
  where
    by_place : (n : ℕ) → (0 < n → is_session_at layers.below.items (n - 1) ≡ true) → is_some layers.leaf ≡ true → cond (n == 0) (is_some layers.leaf) (is_session_at layers.below.items (n - 1)) ≡ true
    by_place zero child session = session
    by_place (suc k) child session = ap (λ (z : Bool). cond z (is_some layers.leaf) (is_session_at layers.below.items (suc k - 1))) (ne_eqb (suc k) 0 (λ e. absurd (omega (arith, e)))) ∙ child (omega arith)

-- once it is committed nothing of it waits
pub child_waits : (was now : Layer) (old new : Layers) (u : Underway) → new.merge ≡ Some u → IsExchanged u.source was now old new → now.tables.pending ≡ [] → IfSome new.merge (ChildIsSettled new)
child_waits was now old new u merge x empty = subst (λ o. IfSome o (ChildIsSettled new)) (sym merge) (subst (λ o. IfSome o WaitsForNone) (sym (layer_now u.source was now old new x)) empty)
