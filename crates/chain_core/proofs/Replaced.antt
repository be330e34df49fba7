-- One file's layer is replaced by another of the same file: what the session keeps of it.
use Rattle.std.proofs.Common.{◌≡◌, ◌≢◌, ℕ, zero, suc, ◌+◌, ◌-◌, ◌<◌, ◌≤◌, Bool, List, [], ◌∷◌, ◌++◌, length, map, get_or, refl, sym, ap, subst, ◌∙◌, arith}
use Rattle.std.specs.Prelude.{Option, Some, None, option_map, IfSome}
use Rattle.std.specs.List.{AllByRecursion}
use Rattle.chain_model.proofs.Phasing.{all_skip_one}
use Rattle.vx_base.specs.declared.parts.Geometry.{Geometry}
use Rattle.store_model.specs.Disk.{Disk, WhereBothTold}
use Rattle.store_model.specs.Trace.{Trace}
use Rattle.table_pages.specs.declared.tables.TableParts.{TableParts}
use Rattle.layer_session.specs.Calls.{IsBeside, own_file}
use Rattle.layer_session.specs.FileLayers.{AreOthers, AreReadyFiles, IsReadyFile, LeavesOthers, file_numbers, log_number, number_of}
use Rattle.layer_session.specs.Keeping.{IsReady}
use Rattle.layer_session.specs.declared.file.Layer.{Layer}
use Rattle.layer_session.specs.declared.file_layer.FileLayer.{FileLayer}
use Rattle.layer_session.specs.declared.file_layer.FileLayer.TheVariants.{Session}
use Rattle.layer_session.proofs.FileLayers.{file_layers_stand, others_stand}
use Rattle.chain_core.specs.declared.layers.Layers.{Layers}
use Rattle.chain_core.specs.declared.layers.Underway.{Underway}
use Rattle.chain_core.specs.Sessions.{AreApart, AreReady, AtMostOne, CanRelink, CanRetire, IsLow, IsMergeOf, IsReadyLeaf, IsRetiringOf, is_session_at}
use Rattle.chain_core.specs.States.{AreWritten}
use Rattle.chain_core.proofs.Places.{merge_of, one_of}
use Rattle.chain_core.proofs.Turning.{KeepsTies, all_but_one, relink_still, top_beside, turn_kept}

pub both_at : (R Q : Trace → Trace → Type 0) (a b : Option Trace) → WhereBothTold R a b → ((t u : Trace) → a ≡ Some t → b ≡ Some u → R t u → Q t u) → WhereBothTold Q a b
both_at R Q None None h q = tt
both_at R Q None (Some u) h q = h
both_at R Q (Some t) None h q = h
both_at R Q (Some t) (Some u) h q = q t u refl refl h

-- ---- the layers of the other files

pub more_low : (most : ℕ) (o : Option ℕ) → IfSome o (λ n. n ≤ most) → IfSome o (λ n. n ≤ most + 1)
more_low most None low = tt
more_low most (Some n) low = omega (arith, low)

pub all_low : (most : ℕ) (numbers : List (Option ℕ)) → AllByRecursion (λ number. IfSome number (λ n. n ≤ most)) numbers → AllByRecursion (λ number. IfSome number (λ n. n ≤ most + 1)) numbers
all_low most [] low = tt
all_low most (n ∷ numbers) low = (more_low most n low.0, all_low most numbers low.1)

module _ (l next : Layer) (parts_are : next.tables.parts ≡ l.tables.parts) where
  pub low_at : (most : ℕ) (a b : List FileLayer) → next.log.number ≤ l.log.number + 1 → AllByRecursion (λ number. IfSome number (λ n. n ≤ most)) (map log_number (a ++ Session l ∷ b))
      → AllByRecursion (λ number. IfSome number (λ n. n ≤ most + 1)) (map log_number (a ++ Session next ∷ b))
  low_at most [] b one low = (let first : l.log.number ≤ most = low.0 in omega (arith, one, first), all_low most (map log_number b) low.1)
  low_at most (x ∷ a) b one low = (more_low most (log_number x) low.0, low_at most a b one low.1)

  pub numbers_at : (a b : List FileLayer) → file_numbers (a ++ Session next ∷ b) ≡ file_numbers (a ++ Session l ∷ b)
  numbers_at [] b = ap (λ (p : TableParts). p.file ∷ file_numbers b) parts_are
  numbers_at (x ∷ a) b = ap (λ rest. number_of x ∷ rest) (numbers_at a b)

  pub written_at : (writes : ℕ → Bool) (a b : List FileLayer) → AreWritten writes (a ++ Session l ∷ b) → AreWritten writes (a ++ Session next ∷ b)
  written_at writes [] b all = (ap (λ (p : TableParts). writes p.file) parts_are ∙ all.0, all.1)
  written_at writes (x ∷ a) b all = (all.0, written_at writes a b all.1)

  pub sessions_at : (a b : List FileLayer) (k : ℕ) → is_session_at (a ++ Session next ∷ b) k ≡ is_session_at (a ++ Session l ∷ b) k
  sessions_at [] b zero = refl
  sessions_at [] b (suc k) = refl
  sessions_at (x ∷ a) b zero = refl
  sessions_at (x ∷ a) b (suc k) = sessions_at a b k

  pub others_at : (n : ℕ) (a b : List FileLayer) → AreOthers n (a ++ Session l ∷ b) → AreOthers n (a ++ Session next ∷ b)
  others_at n [] b all = ((λ e. all.0 (sym (ap (λ (p : TableParts). p.file) parts_are) ∙ e)), all.1)
  others_at n (x ∷ a) b all = (all.0, others_at n a b all.1)

pub long_at : (a b : List FileLayer) (x y : FileLayer) → length (a ++ x ∷ b) ≡ length (a ++ y ∷ b)
long_at [] b x y = refl
long_at (z ∷ a) b x y = ap suc (long_at a b x y)

pub around : (P : FileLayer → Type 0) (a : List FileLayer) (x : FileLayer) (b : List FileLayer) → AllByRecursion P (a ++ x ∷ b) → AllByRecursion P a × AllByRecursion P b
around P [] x b all = (tt, all.1)
around P (y ∷ a) x b all = let rest = around P a x b all.1 in ((all.0, rest.0), rest.1)

pub joined : (P : FileLayer → Type 0) (a : List FileLayer) (x : FileLayer) (b : List FileLayer) → AllByRecursion P a → P x → AllByRecursion P b → AllByRecursion P (a ++ x ∷ b)
joined P [] x b first own rest = (own, rest)
joined P (y ∷ a) x b first own rest = (first.0, joined P a x b first.1 own rest)

pub index_at : (a b : List FileLayer) (x : FileLayer) → get_or (file_numbers (a ++ x ∷ b)) (length a) 0 ≡ number_of x
index_at [] b x = refl
index_at (y ∷ a) b x = index_at a b x

-- of files with numbers of their own those round one are others
pub apart_at : (a b : List FileLayer) (x : FileLayer) → AreApart (file_numbers (a ++ x ∷ b)) → AreOthers (number_of x) a × AreOthers (number_of x) b
apart_at [] b x apart = (tt, spread b apart.0)
  where
    spread : (b : List FileLayer) → AllByRecursion (λ other. other ≢ number_of x) (file_numbers b) → AreOthers (number_of x) b
    spread [] all = tt
    spread (y ∷ b) all = (all.0, spread b all.1)
apart_at (y ∷ a) b x apart =
    let rest = apart_at a b x apart.1 in
    ((λ e. own a apart.0 (sym e), rest.0), rest.1)
  where
    own : (a : List FileLayer) → AllByRecursion (λ other. other ≢ number_of y) (file_numbers (a ++ x ∷ b)) → number_of x ≢ number_of y
    own [] all = all.0
    own (z ∷ a) all = own a all.1

-- ---- the files, each ready

-- of layers that are ready: the leaf's, if it is in a session, and the others
pub record AreParts (g : Geometry) (top : Option Layer) (others : List FileLayer) (disk : Disk) : Type 0 where
  pub leaf : IfSome top (IsReadyLeaf g others disk)
  pub below : AreReadyFiles g disk others
  pub apart : AreApart (file_numbers others)

pub parts_of : (layers : Layers) (disk : Disk) → AreReady layers disk → AreParts layers.geometry layers.leaf layers.below.items disk
parts_of layers disk ready = record { leaf = ready.leaf; below = ready.below; apart = ready.apart }

-- the leaf's number is another than that of a file below it
pub top_apart : (g : Geometry) (top : Option Layer) (a b : List FileLayer) (x : FileLayer) (disk : Disk) → IfSome top (IsReadyLeaf g (a ++ x ∷ b) disk) → IfSome top (λ l. own_file l ≢ number_of x)
top_apart g None a b x disk leaf = tt
top_apart g (Some l) a b x disk leaf = λ e. one_of (λ k. number_of k ≢ own_file l) a x b leaf.apart (sym e)

-- one of the others is replaced
module _ (g : Geometry) (top : Option Layer) (a b : List FileLayer) (l next : Layer) (before after : Disk) (parts_are : next.tables.parts ≡ l.tables.parts) (parts : AreParts g top (a ++ Session l ∷ b) before)
    (others : WhereBothTold (LeavesOthers (own_file l)) before.told after.told) (files : after.files ≡ before.files) (is : IsReady next after) where
  pub round_apart : AreOthers (own_file l) a × AreOthers (own_file l) b
  round_apart = apart_at a b (Session l) parts.apart

  leaf_then : (o : Option Layer) → IfSome o (IsReadyLeaf g (a ++ Session l ∷ b) before) → IfSome o (λ k. own_file k ≢ own_file l) → IfSome o (IsReadyLeaf g (a ++ Session next ∷ b) after)
  leaf_then None leaf ne = tt
  leaf_then (Some k) leaf ne = record {
    ready = file_layers_stand.ready (Session k) before after leaf.ready files (both_at (LeavesOthers (own_file l)) (IsBeside (own_file k)) before.told after.told others (λ t u x y h. h.others (own_file k) ne));
    sector = leaf.sector;
    sectors = leaf.sectors;
    apart = others_at l next parts_are (own_file k) a b leaf.apart;
  }

  pub parts_then : AreParts g top (a ++ Session next ∷ b) after
  parts_then =
      let own : IsReadyFile g before (Session l) = one_of (IsReadyFile g before) a (Session l) b parts.below in
      let round = around (IsReadyFile g before) a (Session l) b parts.below in
      record {
        leaf = leaf_then top parts.leaf (top_apart g top a b (Session l) before parts.leaf);
        below = joined (IsReadyFile g after) a (Session next) b (others_stand.ready (own_file l) g a before after round.0 round_apart.0 files others)
            (record { ready = is; sector = ap (λ (p : TableParts). p.sector) parts_are ∙ own.sector; sectors = ap (λ (p : TableParts). p.sectors) parts_are ∙ own.sectors })
            (others_stand.ready (own_file l) g b before after round.1 round_apart.1 files others);
        apart = subst AreApart (sym (numbers_at l next parts_are a b)) parts.apart;
      }

-- the leaf's is
pub leaf_parts_then : (g : Geometry) (leaf next : Layer) (below : List FileLayer) (before after : Disk) → next.tables.parts ≡ leaf.tables.parts → AreParts g (Some leaf) below before
    → WhereBothTold (LeavesOthers (own_file leaf)) before.told after.told → after.files ≡ before.files → IsReady next after → AreParts g (Some next) below after
leaf_parts_then g leaf next below before after parts_are parts others files is =
    let apart : AreOthers (own_file leaf) below = parts.leaf.apart in
    record {
      leaf = record {
        ready = is;
        sector = ap (λ (p : TableParts). p.sector) parts_are ∙ parts.leaf.sector;
        sectors = ap (λ (p : TableParts). p.sectors) parts_are ∙ parts.leaf.sectors;
        apart = subst (λ (n : ℕ). AreOthers n below) (sym (ap (λ (p : TableParts). p.file) parts_are)) parts.leaf.apart;
      };
      below = others_stand.ready (own_file leaf) g below before after parts.below apart files others;
      apart = parts.apart;
    }

apart_but : (a : List FileLayer) (x : FileLayer) (b : List FileLayer) → AreApart (file_numbers (a ++ x ∷ b)) → AreApart (file_numbers (a ++ b))
apart_but [] x b apart = apart.1
apart_but (y ∷ a) x b apart = (by_numbers a apart.0, apart_but a x b apart.1)
  where
    by_numbers : (a : List FileLayer) → AllByRecursion (λ other. other ≢ number_of y) (file_numbers (a ++ x ∷ b)) → AllByRecursion (λ other. other ≢ number_of y) (file_numbers (a ++ b))
    by_numbers [] all = all.1
    by_numbers (z ∷ a) all = (all.0, by_numbers a all.1)

pub parts_without : (g : Geometry) (top : Option Layer) (a : List FileLayer) (x : FileLayer) (b : List FileLayer) (disk : Disk) → AreParts g top (a ++ x ∷ b) disk → AreParts g top (a ++ b) disk
parts_without g top a x b disk parts = record { leaf = by_leaf top parts.leaf; below = all_skip_one (IsReadyFile g disk) a x b parts.below; apart = apart_but a x b parts.apart }
  where
    by_leaf : (o : Option Layer) → IfSome o (IsReadyLeaf g (a ++ x ∷ b) disk) → IfSome o (IsReadyLeaf g (a ++ b) disk)
    by_leaf None leaf = tt
    by_leaf (Some l) leaf = record { ready = leaf.ready; sector = leaf.sector; sectors = leaf.sectors; apart = all_skip_one (λ k. number_of k ≢ own_file l) a x b leaf.apart }

-- ---- the session

module _ (old new : Layers) (u : Underway) (before after : Disk) (merge_is : old.merge ≡ Some u) (ready : AreReady old before) (geometry : new.geometry ≡ old.geometry) (leaf_is : new.leaf ≡ old.leaf)
    (a b : List FileLayer) (l next : Layer) (was : old.below.items ≡ a ++ Session l ∷ b) (now_is : new.below.items ≡ a ++ Session next ∷ b) (parts_are : next.tables.parts ≡ l.tables.parts) where
  abbrev merge : IsMergeOf old.geometry old.leaf old.below.items u
  merge = merge_of old u before merge_is ready

  pub replaced_own : IsReadyFile old.geometry before (Session l)
  replaced_own = one_of (IsReadyFile old.geometry before) a (Session l) b (subst (AreReadyFiles old.geometry before) was ready.below)

  pub replaced_low : next.log.number ≤ l.log.number + 1 → (most : ℕ) → IsLow most old → IsLow (most + 1) new
  replaced_low one most low = (
    subst (λ (o : Option Layer). IfSome (option_map (λ (k : Layer). k.log.number) o) (λ n. n ≤ most + 1)) (sym leaf_is) (more_low most (option_map (λ (k : Layer). k.log.number) old.leaf) low.0),
    subst (λ (c : List FileLayer). AllByRecursion (λ number. IfSome number (λ n. n ≤ most + 1)) (map log_number c)) (sym now_is)
        (low_at l next parts_are most a b one (subst (λ (c : List FileLayer). AllByRecursion (λ number. IfSome number (λ n. n ≤ most)) (map log_number c)) was low.1)),
  )

  pub replaced_numbers : file_numbers new.below.items ≡ file_numbers old.below.items
  replaced_numbers = ap file_numbers now_is ∙ numbers_at l next parts_are a b ∙ sym (ap file_numbers was)

  module _ (others : WhereBothTold (LeavesOthers (own_file l)) before.told after.told) (files : after.files ≡ before.files) (is : IsReady next after) where
    abbrev g : Geometry
    g = old.geometry

    parts_was : AreParts g old.leaf (a ++ Session l ∷ b) before
    parts_was = subst (λ (c : List FileLayer). AreParts g old.leaf c before) was (parts_of old before ready)

    pub replaced_parts : AreParts new.geometry new.leaf new.below.items after
    replaced_parts =
        subst (λ (c : List FileLayer). AreParts new.geometry new.leaf c after) (sym now_is)
        (subst (λ (o : Option Layer). AreParts new.geometry o (a ++ Session next ∷ b) after) (sym leaf_is)
        (subst (λ (k : Geometry). AreParts k old.leaf (a ++ Session next ∷ b) after) (sym geometry) (parts_then g old.leaf a b l next before after parts_are parts_was others files is)))

    module _ (keeps : WhereBothTold (KeepsTies l next) before.told after.told) (w : Underway) (merge_now : new.merge ≡ Some w) (source_now : w.source ≡ u.source) (relink_now : w.relink ≡ u.relink) (stripes_now : w.marks.stripes ≡ u.marks.stripes) (none_now : new.retiring ≡ None) where
      merge_still : IsMergeOf g old.leaf (a ++ Session next ∷ b) w
      merge_still = record {
        session = merge.session;
        there = let long : length (a ++ Session next ∷ b) ≡ length old.below.items = long_at a b (Session next) (Session l) ∙ sym (ap length was) in
            let inside : u.source + 1 < length old.below.items = merge.there in omega (arith, source_now, long, inside);
        target = ap (λ n. is_session_at (a ++ Session next ∷ b) (n + 1)) source_now ∙ sessions_at l next parts_are a b (u.source + 1) ∙ ap (λ (c : List FileLayer). is_session_at c (u.source + 1)) (sym was) ∙ merge.target;
        child = λ some. ap (λ n. is_session_at (a ++ Session next ∷ b) (n - 1)) source_now ∙ sessions_at l next parts_are a b (u.source - 1) ∙ ap (λ (c : List FileLayer). is_session_at c (u.source - 1)) (sym was)
            ∙ merge.child (subst (λ n. 0 < n) source_now some);
        stripes = stripes_now ∙ merge.stripes;
      }

      can_was : CanRelink old.leaf (a ++ Session l ∷ b) before u
      can_was = subst (λ (c : List FileLayer). CanRelink old.leaf c before u) was (subst (λ o. IfSome o (CanRelink old.leaf old.below.items before)) merge_is ready.relink)

      can_still : CanRelink old.leaf (a ++ Session next ∷ b) after w
      can_still =
          let round = round_apart g old.leaf a b l next before after parts_are parts_was others files is in
          relink_still before after old.leaf old.leaf (a ++ Session l ∷ b) (a ++ Session next ∷ b) u w source_now relink_now
          (top_beside (own_file l) before after old.leaf (top_apart g old.leaf a b (Session l) before parts_was.leaf) others)
          (all_but_one (own_file l) before after a b (Session l) (Session next) round.0 round.1 others (turn_kept before after l next parts_are keeps)) can_was

      pub replaced_ready : AreReady new after
      replaced_ready = record {
        sector = ap (λ (k : Geometry). k.sector) geometry ∙ ready.sector;
        leaf = replaced_parts.leaf;
        below = replaced_parts.below;
        apart = replaced_parts.apart;
        one = subst (λ o. AtMostOne o new.retiring) (sym merge_now) none_now;
        retiring = subst (λ o. IfSome o (IsRetiringOf new.geometry new.leaf new.below.items)) (sym none_now) tt;
        retires = subst (λ o. IfSome o (CanRetire new.leaf new.below.items after)) (sym none_now) tt;
        merge = subst (λ o. IfSome o (IsMergeOf new.geometry new.leaf new.below.items)) (sym merge_now)
            (subst (λ (c : List FileLayer). IsMergeOf new.geometry new.leaf c w) (sym now_is)
            (subst (λ (k : Geometry). IsMergeOf k new.leaf (a ++ Session next ∷ b) w) (sym geometry) (subst (λ o. IsMergeOf g o (a ++ Session next ∷ b) w) (sym leaf_is) merge_still)));
        relink = subst (λ o. IfSome o (CanRelink new.leaf new.below.items after)) (sym merge_now)
            (subst (λ (c : List FileLayer). CanRelink new.leaf c after w) (sym now_is) (subst (λ o. CanRelink o (a ++ Session next ∷ b) after w) (sym leaf_is) can_still));
      }
