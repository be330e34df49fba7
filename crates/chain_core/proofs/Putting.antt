-- A piece is put into the target of a merge.
use Rattle.std.proofs.Common.{◌⊎◌, inl, inr, ◌==◌, ◌||◌, ◌≡◌, ◌≢◌, ◌<◌, ◌+◌, ℕ, Bool, true, false, List, [], ◌∷◌, ◌++◌, length, map, refl, sym, ap, subst, ◌∙◌, arith, is_some}
use Rattle.std.specs.Prelude.{Option, Some, None, IfSome, Result, Ok, Err}
use Rattle.std.specs.List.{AllByRecursion}
use Rattle.std.specs.Option.{option_or}
use Rattle.std.proofs.lemmas.Bool.{or_parts, or_from}
use Rattle.std.proofs.lemmas.Bool.{cases_eq}
use Rattle.std.proofs.lemmas.List.{append_assoc, length-append, map-append}
use Rattle.store_model.specs.File.{is_synced}
use Rattle.store_model.specs.Trace.{Trace, file_of}
use Rattle.guest_model.specs.History.{either}
use Rattle.chain_model.specs.Layers.{Layer as SectorLayer, through}
use Rattle.chain_model.specs.Merges.{IsTrue, IsUnderWay, Piece, with_mark}
use Rattle.chain_model.specs.Stripes.{per_stripe, stripe_of}
use Rattle.chain_model.specs.Members.{IsChainOf, Member, Ties, NoneTwice, disk_of, layers_of, names_of, IsBy}
use Rattle.chain_model.specs.Images.{Placed, members_of}
use Rattle.chain_model.specs.Moments.{IsPhase}
use Rattle.chain_model.specs.Sessions.{IsKept, IsServed, LooseInMerge, ShowsFile}
use Rattle.chain_model.specs.PhaseLaws.{Survives, loosened}
use Rattle.chain_model.proofs.Calling.{loosened_is_kept}
use Rattle.chain_model.proofs.Phasing.{members_append, target_goes_over}
use Rattle.chain_model.proofs.Serving.{past_goes_on}
use Rattle.chain_model.proofs.Merging.{kept_by_put, true_pieces}
use Rattle.chain_model.proofs.Stamping.{stamps_by_call}
use Rattle.layer_session.specs.declared.file.Layer.{Layer}
use Rattle.layer_session.specs.declared.file.LayerFault.{LayerFault}
use Rattle.layer_session.specs.declared.file.LayerFault.TheVariants.{Read, Write, FileFull}
use Rattle.layer_session.specs.declared.file_layer.FileLayer.{FileLayer}
use Rattle.layer_session.specs.declared.file_layer.FileLayer.TheVariants.{Session}
use Rattle.layer_session.specs.FileLayers.{HasFile, HaveFiles}
use Rattle.layer_session.specs.Calls.{settled}
use Rattle.layer_session.specs.Keeping.{Serves}
use Rattle.layer_session.proofs.Crashes.{layers_are_kept}
use Rattle.layer_session.proofs.Standing.{layers_stand}
use Rattle.merge_core.specs.Copied.{marks_of}
use Rattle.chain_core.specs.declared.layers.Layers.{Layers}
use Rattle.chain_core.specs.declared.layers.Underway.{Underway}
use Rattle.chain_core.specs.Answering.{EachOpensNow, HasEnded, IsRefused}
use Rattle.chain_core.specs.Merging.{IsCopied, is_in, with_piece}
use Rattle.vhdx_format.specs.declared.log_entry.Page.{Page}
use Rattle.vhdx_format.specs.Locators.{linkage, second_linkage}
use Rattle.table_pages.specs.declared.tables.TableParts.{TableParts}
use Rattle.layer_session.specs.FileLayers.{table_parts}
use Rattle.std.specs.Prelude.{option_map}
use Rattle.std.proofs.Common.{cond, get_or, ◌-◌}
use Rattle.layer_session.proofs.FileLayers.{phase_others}
use Rattle.chain_model.proofs.Showing.{all_right}
use Rattle.chain_core.specs.States.{Relinks, child_of, child_parts, AreHeld, AreWritten, IsCourse, IsServing, IsUnder, Merging, State, dirty_now, merging, sector_of, seen_in, WasSynced, IsRetiring}
use Rattle.chain_core.proofs.Steps.{apart, goes_over, names_behind, phase_beside, still_once, still_read}
use Rattle.layer_session.proofs.Equal.{false_true, some_none, true_false}

-- ---- one file among others

pub have_parts : (a : List FileLayer) (x : FileLayer) (b : List FileLayer) (trace : Trace) (p : List Placed) (file : Placed) (q : List Placed) → length a ≡ length p → HaveFiles (a ++ x ∷ b) trace (p ++ file ∷ q)
    → HaveFiles a trace p × (HasFile x trace file × HaveFiles b trace q)
have_parts [] x b trace [] file q same have = (tt, (have.0, have.1))
have_parts [] x b trace (r ∷ p) file q same have = absurd (omega arith)
have_parts (l ∷ a) x b trace [] file q same have = absurd (omega arith)
have_parts (l ∷ a) x b trace (r ∷ p) file q same have =
    let rest = have_parts a x b trace p file q (omega arith) have.1 in
    ((have.0, rest.0), rest.1)

pub have_all : (a : List FileLayer) (x : FileLayer) (b : List FileLayer) (trace : Trace) (p : List Placed) (file : Placed) (q : List Placed) → HaveFiles a trace p → HasFile x trace file → HaveFiles b trace q
    → HaveFiles (a ++ x ∷ b) trace (p ++ file ∷ q)
have_all [] x b trace [] file q first own rest = (own, rest)
have_all [] x b trace (r ∷ p) file q first own rest = absurd first
have_all (l ∷ a) x b trace [] file q first own rest = absurd first
have_all (l ∷ a) x b trace (r ∷ p) file q first own rest = (first.0, have_all a x b trace p file q first.1 own rest)

-- the numbers of the files round one are others than its own
pub apart_around : (trace : Trace) (p : List Placed) (file : Placed) (q : List Placed) → AllByRecursion (IsKept trace) (p ++ file ∷ q) → NoneTwice (names_of (members_of (p ++ file ∷ q)))
    → AllByRecursion (λ f. f.number ≢ file.number) p × AllByRecursion (λ f. f.number ≢ file.number) q
apart_around trace [] file q kept once = (tt, apart trace file q kept.0 kept.1 once.0)
apart_around trace (r ∷ p) file q kept once =
    let far = apart trace r (p ++ file ∷ q) kept.0 kept.1 once.0 in
    let rest = apart_around trace p file q kept.1 once.1 in
    (((λ same. all_there p file q far (sym same)), rest.0), rest.1)
  where
    all_there : (p : List Placed) (file : Placed) (q : List Placed) → AllByRecursion (λ f. f.number ≢ r.number) (p ++ file ∷ q) → file.number ≢ r.number
    all_there [] file q all = all.0
    all_there (x ∷ p) file q all = all_there p file q all.1

pub all_split : (P : Placed → Type 0) (p : List Placed) (file new : Placed) (q : List Placed) → (P file → P new) → AllByRecursion P (p ++ file ∷ q) → AllByRecursion P (p ++ new ∷ q)
all_split P [] file new q h all = (h all.0, all.1)
all_split P (r ∷ p) file new q h all = (all.0, all_split P p file new q h all.1)

there_first : (o x y : Option (List ℕ)) → (is_some x ≡ true → is_some y ≡ true) → is_some (option_or o x) ≡ true → is_some (option_or o y) ≡ true
there_first (Some k) x y more there = refl
there_first None x y more there = more there

-- what is seen through layers is there still, where one of them owns more
pub there_through : (a : List SectorLayer) (x y : SectorLayer) (b : List SectorLayer) (s : ℕ) → (is_some (x s) ≡ true → is_some (y s) ≡ true) → is_some (through (a ++ x ∷ b) s) ≡ true → is_some (through (a ++ y ∷ b) s) ≡ true
there_through [] x y b s more there = by_first (x s) (y s) more there
  where
    by_first : (o n : Option (List ℕ)) → (is_some o ≡ true → is_some n ≡ true) → is_some (option_or o (through b s)) ≡ true → is_some (option_or n (through b s)) ≡ true
    by_first o (Some k) more there = refl
    by_first None None more there = there
    by_first (Some k) None more there = absurd (let never : false ≡ true = more refl in false_true never)
there_through (l ∷ a) x y b s more there = there_first (l s) (through (a ++ x ∷ b) s) (through (a ++ y ∷ b) s) (there_through a x y b s more) there

-- ---- the target

-- the target's layer before and after, the other layers staying
pub record TargetStep (old new : Layers) (u : Underway) (a : List FileLayer) (l next : Layer) (b : List FileLayer) : Type 0 where
  pub leaf : Layer
  pub geometry : new.geometry ≡ old.geometry
  pub leaf_was : old.leaf ≡ Some leaf
  pub leaf_now : new.leaf ≡ Some leaf
  pub merge : old.merge ≡ Some u
  pub place : length a ≡ u.source + 1
  pub was : old.below.items ≡ a ++ Session l ∷ b
  pub now : new.below.items ≡ a ++ Session next ∷ b

-- what its layer does with a piece
pub record IsPut (piece : Piece) (target : Placed) (next : Layer) (trace now : Trace) : Type 0 where
  pub moments : IsPhase target.number (ShowsFile (loosened (either target.is_loose (is_in piece)) target)) trace now
  pub holds : Serves next now (with_piece piece target)

pub record IsKeptAs (target : Placed) (next : Layer) (trace now : Trace) : Type 0 where
  pub moments : IsPhase target.number (ShowsFile target) trace now
  pub holds : Serves next now target

pub record HasFailedPut (piece : Piece) (target : Placed) (trace now : Trace) : Type 0 where
  pub moments : IsPhase target.number (ShowsFile (loosened (either target.is_loose (is_in piece)) target)) trace now

abbrev pub AnswersPut : Piece → Placed → Layer → Trace → Trace → Result (Unit {0}) LayerFault → Type 0
AnswersPut piece target next trace now (Ok done) = IsPut piece target next trace now
AnswersPut piece target next trace now (Err (Read fault)) = IsKeptAs target next trace now
AnswersPut piece target next trace now (Err (FileFull n)) = IsKeptAs target next trace now
AnswersPut piece target next trace now (Err (Write fault)) = HasFailedPut piece target trace now

pub layers_append : (p q : List Placed) → layers_of (members_of (p ++ q)) ≡ layers_of (members_of p) ++ layers_of (members_of q)
layers_append p q = ap layers_of (members_append p q) ∙ map-append (λ (x : Member). x.layer) (members_of p) (members_of q)

-- ---- a chain in which a merge is under way

module _ (v : State) (top : Placed) (above : List Placed) (source target : Placed) (below : List Placed) (m : Merging) where
  -- the state
  abbrev here : State
  here = record v { top = top; rest = merging above source target below m }

  -- the files before the target, and all of them with another target
  abbrev front : List Placed
  front = above ++ source ∷ []

  abbrev files_with : Placed → List Placed
  files_with t = top ∷ above ++ (source ∷ t ∷ below)

  pub parted : (t : Placed) → front ++ t ∷ below ≡ above ++ (source ∷ t ∷ below)
  parted t = append_assoc above (source ∷ []) (t ∷ below)

  -- those below the leaf and the others' numbers
  module _ (layers : Layers) (leaf : Layer) (trace : Trace) (serving : IsServing layers here trace) (is : layers.leaf ≡ Some leaf) where
    abbrev kept : AllByRecursion (IsKept trace) (files_with target)
    kept = all_right (IsKept trace) v.retired (files_with target) serving.served.kept

    abbrev once_all : NoneTwice (names_of (members_of (files_with target)))
    once_all = names_behind v.retired (files_with target) serving.served.linked.once

    pub round : AllByRecursion (λ f. f.number ≢ target.number) (top ∷ front) × AllByRecursion (λ f. f.number ≢ target.number) below
    round =
        apart_around trace (top ∷ front) target below (subst (λ (c : List Placed). AllByRecursion (IsKept trace) (top ∷ c)) (sym (parted target)) kept)
        (subst (λ (c : List Placed). NoneTwice (names_of (members_of (top ∷ c)))) (sym (parted target)) once_all)

    pub held : Serves leaf trace top × HaveFiles layers.below.items trace (front ++ target ∷ below)
    held =
        let h : Serves leaf trace top × HaveFiles layers.below.items trace (above ++ (source ∷ target ∷ below)) =
        subst (λ o. AreHeld o layers.below.items trace top (above ++ (source ∷ target ∷ below))) is serving.held in
        (h.0, subst (λ (c : List Placed). HaveFiles layers.below.items trace c) (sym (parted target)) h.1)

    -- the target's file goes over to another state, under another layer
    module _ (a : List FileLayer) (l : Layer) (b : List FileLayer) (was : layers.below.items ≡ a ++ Session l ∷ b) (place : length a ≡ length above + 1) where
      abbrev lined : HaveFiles a trace front × (Serves l trace target × HaveFiles b trace below)
      lined =
          let same : length a ≡ length front = place ∙ sym (length-append above (source ∷ [])) in
          have_parts a (Session l) b trace front target below same (subst (λ (c : List FileLayer). HaveFiles c trace (front ++ target ∷ below)) was held.1)

      pub serves_target : Serves l trace target
      serves_target = lined.1.0

      -- the others stand while it does
      pub held_on : (new : Layers) (next : Layer) (other : Placed) (P : List ℕ → Type 0) (now : Trace) → IsPhase target.number P trace now → new.leaf ≡ Some leaf → new.below.items ≡ a ++ Session next ∷ b → Serves next now other
          → AreHeld new.leaf new.below.items now top (above ++ (source ∷ other ∷ below))
      held_on new next other P now phase leaf_now items serves =
          let first : HaveFiles a now front = still_read target.number P trace now phase a front round.0.1 lined.0 in
          let rest : HaveFiles b now below = still_read target.number P trace now phase b below round.1 lined.1.1 in
          let all : HaveFiles (a ++ Session next ∷ b) now (front ++ other ∷ below) = have_all a (Session next) b now front other below first serves rest in
          let here_all : HaveFiles new.below.items now (above ++ (source ∷ other ∷ below)) =
          subst (λ (c : List FileLayer). HaveFiles c now (above ++ (source ∷ other ∷ below))) (sym items) (subst (λ (c : List Placed). HaveFiles (a ++ Session next ∷ b) now c) (parted other) all) in
          let top_stands : Serves leaf now top = layers_stand.beside leaf trace now top held.0 (phase_beside target.number P trace now phase top.number round.0.0) in
          subst (λ o. AreHeld o new.below.items now top (above ++ (source ∷ other ∷ below))) (sym leaf_now) (top_stands, here_all)

      -- what a phase of the target leaves of the session, once it shows the other state
      pub serving_on : (new : Layers) (u : Underway) (next : Layer) (other : Placed) (marks : ℕ → Bool) (P : List ℕ → Type 0) (now : Trace) → IsPhase target.number P trace now → new.geometry ≡ layers.geometry → new.retiring ≡ None → new.leaf ≡ Some leaf → new.merge ≡ Some u
          → new.below.items ≡ a ++ Session next ∷ b → Serves next now other → other.number ≡ target.number → v.writes target.number ≡ true
          → ((s : ℕ) → is_some (target.member.layer s) ≡ true → is_some (other.member.layer s) ≡ true)
          → IsServed (sector_of here) v.opening v.history v.leaf v.retired (files_with other) now
          → LooseInMerge (dirty_now here) (top ∷ above) source other below
          → IsUnder (sector_of here) v.writes new u top above source other (record m { marks = marks })
          → AreWritten v.writes new.below.items
          → EachOpensNow here trace now
          → IsServing new (record v { top = top; rest = merging above source other below (record m { marks = marks }) }) now
      serving_on new u next other marks P now phase geometry none_now leaf_now merge items serves number written more served loose under all_written moments = record {
        once = still_once target.number P trace now phase serving.once;
        geometry = geometry ∙ serving.geometry;
        served = served;
        loose = loose;
        course = subst (λ o. IsCourse (sector_of here) v.writes new o top (merging above source other below (record m { marks = marks }))) (sym merge) under;
        leaving = subst (λ o. IsRetiring (sector_of here) v.writes v.history new o top (merging above source other below (record m { marks = marks }))) (sym none_now) tt;
        drops = serving.drops;
        held = held_on new next other P now phase leaf_now items serves;
        whole = λ s inside. there_on s (serving.whole s inside);
        synced = subst (AllByRecursion (WasSynced v.writes v.since)) (ap (λ (c : List Placed). top ∷ c) (parted other))
            (all_split (WasSynced v.writes v.since) (top ∷ front) target other below (λ h w. ap (λ (n : ℕ). is_synced (file_of v.since n)) number ∙ h (ap v.writes (sym number) ∙ w))
            (subst (AllByRecursion (WasSynced v.writes v.since)) (ap (λ (c : List Placed). top ∷ c) (sym (parted target))) serving.synced));
        written = subst (λ o. IfSome o (λ leaf. (v.writes top.number ≡ true) × AreWritten v.writes new.below.items)) (sym leaf_now)
            ((subst (λ o. IfSome o (λ leaf. (v.writes top.number ≡ true) × AreWritten v.writes layers.below.items)) is serving.written).0, all_written);
        still = λ n none. phase_others target.number P trace now phase n (λ same. let never : true ≡ false = sym written ∙ ap v.writes (sym same) ∙ none in true_false never) ∙ serving.still n none;
        past = past_goes_on.quiet (sector_of here) v.opening v.history (λ s. false) v.leaf v.began trace now serving.past moments;
      }
        where
          there_on : (s : ℕ) → is_some (seen_in (files_with target) s) ≡ true → is_some (seen_in (files_with other) s) ≡ true
          there_on s there =
              subst (λ (c : List Placed). is_some (seen_in (top ∷ c) s) ≡ true) (parted other)
              (subst (λ (c : List SectorLayer). is_some (through c s) ≡ true) (sym (layers_append (top ∷ front) (other ∷ below)))
              (there_through (layers_of (members_of (top ∷ front))) target.member.layer other.member.layer (layers_of (members_of below)) s (more s)
              (subst (λ (c : List SectorLayer). is_some (through c s) ≡ true) (layers_append (top ∷ front) (target ∷ below))
              (subst (λ (c : List Placed). is_some (seen_in (top ∷ c) s) ≡ true) (sym (parted target)) there))))

      -- the child's layer goes by what it went by
      pub goes_by_still : (new : Layers) (next : Layer) (place : ℕ) → new.leaf ≡ Some leaf → new.below.items ≡ a ++ Session next ∷ b → next.tables.parts ≡ l.tables.parts
          → child_parts new.leaf new.below.items place ≡ child_parts layers.leaf layers.below.items place
      goes_by_still new next place leaf_now items parts_are =
          ap (λ o. child_parts o new.below.items place) (leaf_now ∙ sym is)
          ∙ ap (λ (parts : List (Option TableParts)). cond (place == 0) (option_map (λ (l : Layer). l.tables.parts) layers.leaf) (get_or parts (place - 1) None))
          (ap (map (λ l. Some (table_parts l))) items ∙ map-append (λ l. Some (table_parts l)) a (Session next ∷ b)
          ∙ ap (λ (p : TableParts). map (λ l. Some (table_parts l)) a ++ Some p ∷ map (λ l. Some (table_parts l)) b) parts_are
          ∙ sym (map-append (λ l. Some (table_parts l)) a (Session l ∷ b)) ∙ ap (map (λ l. Some (table_parts l))) (sym was))

      -- the child is relinked to the target in another state
      pub relinks_to : {len : ℕ} (pages : List Page) (other : Placed) → other.member.name ≡ target.member.name → other.member.ties.id ≡ target.member.ties.id → other.member.ties.geometry ≡ target.member.ties.geometry
          → Relinks len pages (child_of top above) target → Relinks len pages (child_of top above) other
      relinks_to pages other name id geometry r = record {
        ties = r.ties;
        region = r.region;
        into = r.into;
        retired = r.retired;
        parent = record {
          has = r.parent.has;
          item = r.parent.item;
          locator = r.parent.locator;
          pairs = r.parent.pairs;
          read = r.parent.read;
          named = r.parent.named ∙ ap Some (sym name);
          linked = by_link r.parent.linked;
          geometry = geometry ∙ r.parent.geometry;
        };
      }
        where
          by_link : (linkage r.parent.pairs ≡ Some target.member.ties.id) ⊎ (second_linkage r.parent.pairs ≡ Some target.member.ties.id)
              → (linkage r.parent.pairs ≡ Some other.member.ties.id) ⊎ (second_linkage r.parent.pairs ≡ Some other.member.ties.id)
          by_link (inl first) = inl (first ∙ ap Some (sym id))
          by_link (inr second) = inr (second ∙ ap Some (sym id))

      -- the same merge, under another layer and another state of the target
      pub under_by : (new : Layers) (next : Layer) (other : Placed) (u : Underway) → new.leaf ≡ Some leaf → new.below.items ≡ a ++ Session next ∷ b → next.tables.parts ≡ l.tables.parts
          → other.number ≡ target.number → other.member.name ≡ target.member.name → other.member.ties ≡ target.member.ties
          → IsUnder (sector_of here) v.writes layers u top above source target m → IsUnderWay (sector_of here) m.first m.before [] m.marks source.member.layer other.member.layer
          → IsUnder (sector_of here) v.writes new u top above source other m
      under_by new next other u leaf_now items parts_are number name ties under way = record {
        place = under.place;
        written = ap v.writes number ∙ under.written;
        child_written = under.child_written;
        parts = under.parts;
        goes_by = goes_by_still new next u.source leaf_now items parts_are ∙ under.goes_by;
        relinks = relinks_to u.relink other name (ap (λ (t : Ties). t.id) ties) (ap (λ (t : Ties). t.geometry) ties) under.relinks;
        marks = under.marks;
        under_way = way;
      }

      -- ---- a put

      module _ (new : Layers) (u u' : Underway) (next : Layer) (piece : Piece) (now : Trace) (geometry : new.geometry ≡ layers.geometry) (none_now : new.retiring ≡ None) (leaf_now : new.leaf ≡ Some leaf) (merge : layers.merge ≡ Some u) (items : new.below.items ≡ a ++ Session next ∷ b)
          (stripes : 0 < per_stripe (sector_of here)) (true_piece : IsTrue (sector_of here) m.first [] piece) (stamp_is : piece.stamp ≡ 0) (all_written : AreWritten v.writes new.below.items) (parts_are : next.tables.parts ≡ l.tables.parts) where
        abbrev z : ℕ
        z = sector_of here

        abbrev wide : Placed
        wide = loosened (either target.is_loose (is_in piece)) target

        abbrev after : Placed
        after = with_piece piece target

        under_old : IsUnder z v.writes layers u top above source target m
        under_old = subst (λ o. IsCourse z v.writes layers o top (merging above source target below m)) merge serving.course

        -- what the source doesn't own isn't in the piece
        none_there : (s : ℕ) → source.member.layer s ≡ None → piece.sectors s ≡ None
        none_there s none = by_stripe (cases_eq (stripe_of z s) piece.stripe)
          where
            by_stripe : (stripe_of z s ≡ piece.stripe) ⊎ (stripe_of z s ≢ piece.stripe) → piece.sectors s ≡ None
            by_stripe (inr out) = true_piece.within s out
            by_stripe (inl same) = true_pieces.current z m.first [] piece s stripes true_piece (stamp_is ∙ sym (stamps_by_call.none z piece.stripe)) same ∙ sym (under_old.under_way.source_is s) ∙ none

        loose_before : LooseInMerge (dirty_now here) (top ∷ above) source wide below
        loose_before = record { others = serving.loose.others; owned = λ s none. or_from (target.is_loose s) (is_in piece s) (serving.loose.owned s none) (ap is_some (none_there s none)) }

        loose_after : LooseInMerge (dirty_now here) (top ∷ above) source after below
        loose_after = record { others = serving.loose.others; owned = loose_before.owned }

        served_wide : IsServed z v.opening v.history v.leaf v.retired (files_with wide) trace
        served_wide =
            let same : members_of (files_with wide) ≡ members_of (files_with target) = ap (λ (c : List Placed). members_of (top ∷ c)) (sym (parted wide)) ∙ members_append (top ∷ front) (wide ∷ below) ∙ sym (members_append (top ∷ front) (target ∷ below))
            ∙ ap (λ (c : List Placed). members_of (top ∷ c)) (parted target) in
            record {
              linked = subst (λ c. IsChainOf v.leaf.name (members_of v.retired) c) (sym same) serving.served.linked;
              by = subst (IsBy v.leaf) (sym same) serving.served.by;
              kept = kept_wide v.retired serving.served.kept;
              disk = ap disk_of same ∙ serving.served.disk;
            }
          where
            kept_in : AllByRecursion (IsKept trace) (files_with target) → AllByRecursion (IsKept trace) (files_with wide)
            kept_in all =
                subst (λ (c : List Placed). AllByRecursion (IsKept trace) (top ∷ c)) (parted wide)
                (all_split (IsKept trace) (top ∷ front) target wide below (loosened_is_kept wide.is_loose target trace (λ s out. (or_parts (target.is_loose s) (is_in piece s) out).0))
                (subst (λ (c : List Placed). AllByRecursion (IsKept trace) (top ∷ c)) (sym (parted target)) all))

            kept_wide : (r : List Placed) → AllByRecursion (IsKept trace) (r ++ files_with target) → AllByRecursion (IsKept trace) (r ++ files_with wide)
            kept_wide [] all = kept_in all
            kept_wide (p ∷ r) all = (all.0, kept_wide r all.1)

        survives : IsPhase target.number (ShowsFile wide) trace now → Survives z v.opening v.history v.leaf (dirty_now here) after v.retired (files_with after) trace now
        survives phase =
            target_goes_over z v.opening v.history v.leaf (dirty_now here) v.retired (top ∷ above) source wide after below trace now serving.once served_wide (goes_over wide after trace now refl refl phase)
            (λ s none. over_none (piece.sectors s) (target.member.layer s) (none_there s none)) refl loose_before loose_after
          where
            over_none : (o t : Option (List ℕ)) → o ≡ None → option_or o t ≡ t
            over_none None t h = refl
            over_none (Some k) t h = absurd (let never : Some k ≡ None = h in some_none never)

        pub copied : IsPut piece target next trace now → new.merge ≡ Some u' → u'.source ≡ u.source → u'.relink ≡ u.relink → ((t : ℕ) → marks_of u'.marks t ≡ with_mark piece.stripe (marks_of u.marks) t)
            → IsCopied piece here new trace now
        copied put merge_now place_now relink_now marks_now =
            let over = survives put.moments in
            record {
              moments = over.moments;
              serving = serving_on new u' next after (with_mark piece.stripe m.marks) (ShowsFile wide) now put.moments geometry none_now leaf_now merge_now items put.holds refl under_old.written
                  (λ s there. more (piece.sectors s) (target.member.layer s) there) (over.served (layers_are_kept next now after put.holds).shows) loose_after
                  (record {
                    place = place_now ∙ under_old.place;
                    written = under_old.written;
                    child_written = under_old.child_written;
                    parts = under_old.parts;
                    goes_by = ap (child_parts new.leaf new.below.items) place_now ∙ goes_by_still new next u.source leaf_now items parts_are ∙ under_old.goes_by;
                    relinks = relinks_to u'.relink after refl refl refl (subst (λ pages. Relinks under_old.parts.bat_len pages (child_of top above) target) (sym relink_now) under_old.relinks);
                    marks = λ t. marks_now t ∙ ap (λ b. (t == piece.stripe) || b) (under_old.marks t);
                    under_way = kept_by_put z m.first m.before [] piece m.marks source.member.layer target.member.layer after.member.layer stripes true_piece (stamp_is ∙ sym (stamps_by_call.none z piece.stripe)) (λ s. refl) under_old.under_way;
                  })
                  all_written over.moments;
            }
          where
            more : (o t : Option (List ℕ)) → is_some t ≡ true → is_some (option_or o t) ≡ true
            more (Some k) t h = refl
            more None t h = h

        pub put_failed : HasFailedPut piece target trace now → HasEnded here trace now
        put_failed failed =
            let over = survives failed.moments in
            record {
              moments = over.moments;
              still = λ n none. phase_others target.number (ShowsFile wide) trace now failed.moments n (λ same. let never : true ≡ false = sym under_old.written ∙ ap v.writes (sym same) ∙ none in true_false never) ∙ serving.still n none;
              past = past_goes_on.quiet z v.opening v.history (λ s. false) v.leaf v.began trace now serving.past over.moments;
            }

        pub put_refused : IsKeptAs target next trace now → new.merge ≡ Some u → IsRefused here new trace now
        put_refused kept_as merge_now =
            let over =
            target_goes_over z v.opening v.history v.leaf (dirty_now here) v.retired (top ∷ above) source target target below trace now serving.once serving.served (goes_over target target trace now refl refl kept_as.moments)
            (λ s none. refl) refl serving.loose serving.loose in
            record {
              moments = over.moments;
              serving = serving_on new u next target m.marks (ShowsFile target) now kept_as.moments geometry none_now leaf_now merge_now items kept_as.holds refl under_old.written (λ s there. there)
                  (over.served (layers_are_kept next now target kept_as.holds).shows) serving.loose (under_by new next target u leaf_now items parts_are refl refl refl under_old under_old.under_way) all_written over.moments;
            }

      -- ---- a commit of the target

      pub target_settled : (new : Layers) (u : Underway) (next : Layer) (now : Trace) → new.geometry ≡ layers.geometry → new.retiring ≡ None → new.leaf ≡ Some leaf → layers.merge ≡ Some u → new.merge ≡ Some u → new.below.items ≡ a ++ Session next ∷ b
          → next.tables.parts ≡ l.tables.parts → AreWritten v.writes new.below.items → IsPhase target.number (ShowsFile target) trace now → Serves next now (settled target)
          → EachOpensNow here trace now × IsServing new (record v { top = top; rest = merging above source (settled target) below m }) now
      target_settled new u next now geometry none_now leaf_now merge merge_now items parts_are all_written phase serves =
          let after : Placed = settled target in
          let tight : LooseInMerge (dirty_now here) (top ∷ above) source after below = record { others = serving.loose.others; owned = λ s none. refl } in
          let under : IsUnder (sector_of here) v.writes layers u top above source target m = subst (λ o. IsCourse (sector_of here) v.writes layers o top (merging above source target below m)) merge serving.course in
          let over =
          target_goes_over (sector_of here) v.opening v.history v.leaf (dirty_now here) v.retired (top ∷ above) source target after below trace now serving.once serving.served (goes_over target after trace now refl refl phase)
          (λ s none. refl) refl serving.loose tight in (
            over.moments,
            serving_on new u next after m.marks (ShowsFile target) now phase geometry none_now leaf_now merge_now items serves refl under.written (λ s there. there)
                (over.served (layers_are_kept next now after serves).shows) tight (under_by new next after u leaf_now items parts_are refl refl refl under under.under_way) all_written over.moments,
          )
