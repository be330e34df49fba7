-- What the start of the planned merge of a leaf answers, phase by phase.
use Rattle.std.proofs.Common.{◌≡◌, ℕ, ◌+◌, ◌^◌, ◌-◌, ◌<◌, ◌≤◌, true, false, List, [], ◌∷◌, length, map, refl, sym, ap, subst, ◌∙◌, arith}
use Rattle.std.specs.Prelude.{Option, Some, None, IfSome, is_some, option_map, Err, Ok}
use Rattle.std.specs.List.{AllByRecursion}
use Rattle.store_model.proofs.Told.{counts_join}
use Rattle.vx_base.specs.declared.parts.Geometry.{Geometry}
use Rattle.vx_base.specs.declared.parts.Header.{Header}
use Rattle.vhdx_format.specs.FileParts.{HasNumbers}
use Rattle.vhdx_format.specs.declared.log_entry.Page.{Page}
use Rattle.store_model.specs.Disk.{Disk, WhereBothTold, WhereTold}
use Rattle.store_model.specs.Trace.{Trace}
use Rattle.store_model.specs.declared.fault.SealFault.{SealFault}
use Rattle.store_model.specs.declared.fault.SealFault.TheVariants.{NoRoom}
use Rattle.log_write.specs.Writing.{BeginFails, HasNextNumber, session_header}
use Rattle.log_write.specs.declared.ids.SessionIds.{SessionIds}
use Rattle.table_pages.specs.declared.tables.TableParts.{TableParts}
use Rattle.chain_model.specs.Images.{Placed}
use Rattle.chain_model.specs.Stripes.{per_stripe}
use Rattle.link_rules.specs.declared.linked.LinkedFile.{LinkedFile}
use Rattle.layer_session.specs.Begins.{BeginsOver, CanServe, HasBegun, IsOf}
use Rattle.layer_session.specs.FileLayers.{AreOthers, AreReadyFiles, FileTurns, HaveFiles, file_numbers, log_number}
use Rattle.layer_session.specs.Keeping.{IsReady, Serves}
use Rattle.layer_session.specs.Updating.{HasUpdated, Turns, UpdatesOver}
use Rattle.layer_session.specs.declared.file.Layer.{Layer}
use Rattle.layer_session.specs.declared.file_layer.FileLayer.{FileLayer}
use Rattle.layer_session.specs.declared.file_layer.FileLayer.TheVariants.{Session}
use Rattle.merge_core.specs.Copied.{marks_of}
use Rattle.merge_core.specs.Stamping.{stamps_of}
use Rattle.merge_core.specs.declared.marks.Marks.{Marks}
use Rattle.merge_core.specs.declared.stamps.Stamps.{Stamps}
use Rattle.merge_plan.specs.Attached.{CanStart}
use Rattle.merge_plan.specs.LeafMerging.{ClearsTarget, LeafFiles}
use Rattle.merge_plan.specs.LeafPlanning.{HasLeafPlan, leaf_merge_ids}
use Rattle.merge_plan.specs.declared.leaf.LeafMerge.{LeafMerge}
use Rattle.merge_plan.specs.declared.leaf_drawing.LeafMergeIds.{LeafMergeIds}
use Rattle.chain_core.specs.LeafStarting.{BeginsLeafMerge, HasBegunLeafMerge, IsLeafRoom, KeepsPlan, StartsLeafMerge, heir_in, is_first_two, leaf_chain, started_leaf_merge}
use Rattle.chain_core.specs.MergeStarting.{BeginsNone, data_session}
use Rattle.chain_core.specs.Sessions.{AreApart, AreReady, AtMostOne, CanRelink, CanRetire, IsLow, IsMergeOf, IsReadyLeaf, IsRetiringOf, first_layer, number_of_leaf}
use Rattle.chain_core.specs.Starting.{opening_disk, placed_from, way_to}
use Rattle.chain_core.specs.States.{IsServing}
use Rattle.chain_core.specs.declared.layers.Layers.{Layers}
use Rattle.chain_core.specs.declared.layers.Retiring.{Retiring}
use Rattle.chain_core.specs.declared.leaf_start.LeafRoom.{LeafRoom}
use Rattle.chain_core.proofs.Numbers.{few_pages, next_fits, one_low_two, stripe_of_512, two_low, two_there, zero_one, zero_suc}
use Rattle.chain_core.proofs.Beginning.{none_logged, one_geometry}
use Rattle.chain_core.proofs.LeafPhases.{AtBegun, AtHeir, AtLinked}
use Rattle.chain_core.proofs.LeafServed.{AreGiven, ClearsAt, have_below, leaf_turns, serves_leaf_merge, target_turns}
use Rattle.chain_core.proofs.LeafStages.{OpenedOf, begun_stage, begun_told, heir_serves, heir_stage, heir_told, leaf_turned, linked_stage, linked_told, moments_of}
use Rattle.chain_core.proofs.MergeAsked.{begins_not, ready_still}
use Rattle.chain_core.proofs.MergeLayers.{CountFrom, IsMade, count_read, counted_apart, counted_others, made_read, made_ready}
use Rattle.chain_core.proofs.MergeStages.{all_but}
use Rattle.chain_core.proofs.MergeTold.{fresh_at, is_found, served_at, told_from, told_last}

module _ (m : LeafFiles) (merge : LeafMerge) (d : Disk) (can : CanStart (leaf_chain m) d) (plan : HasLeafPlan (leaf_chain m) d m merge) where
  abbrev ids : LeafMergeIds
  ids = merge.ids

  abbrev pages : List Page
  pages = merge.twice

  -- a phase failed, after which each moment opened
  stops : (numbers : List ℕ) (new : Disk) (fault : SealFault) → AllByRecursion (λ n. is_first_two n ≡ true) numbers → WhereBothTold (OpenedOf m numbers) d.told new.told → BeginsNone is_first_two d new fault
      → BeginsLeafMerge m merge d new (Err fault)
  stops numbers new fault changed told fails = record {
    moments = moments_of m numbers d.told new.told told;
    still = all_but is_first_two (λ t. opening_disk t (leaf_chain m)) (way_to m.source (leaf_chain m) None) numbers changed d.told new.told told;
    begun = tt;
    err = fails;
  }

  -- content alone was changed, and this was reached
  pub record Behind (At : Trace → Trace → Type 0) (new : Disk) : Type 0 where
    pub counts : new ≡ record d { told = new.told }
    pub at : WhereBothTold At d.told new.told

  pub source_numbers : HasNumbers m.source.parts
  source_numbers = (served_at d (leaf_chain m) [] m.source (m.target ∷ m.below) can refl).numbers

  pub target_numbers : HasNumbers m.target.parts
  target_numbers = (served_at d (leaf_chain m) (m.source ∷ []) m.target m.below can refl).numbers

  -- ---- the leaf's session begins

  module _ (session : SessionIds) (session_is : session ≡ data_session ids.leaf) where
    pub source_ready : WhereTold d.told (CanServe m.source.parts session.log 0)
    source_ready =
        subst (λ (s : SessionIds). WhereTold d.told (CanServe m.source.parts s.log 0)) (sym session_is)
        (fresh_at d (leaf_chain m) [] m.source (m.target ∷ m.below) can refl (leaf_merge_ids ids) 2 plan.fit (omega arith))

    module _ (a : Disk) (given : WhereBothTold (BeginsOver m.source.parts session 0) d.told a.told) where
      own : WhereBothTold (BeginsOver m.source.parts (data_session ids.leaf) 0) d.told a.told
      own = subst (λ (s : SessionIds). WhereBothTold (BeginsOver m.source.parts s 0) d.told a.told) session_is given

      pub begun_stops : (fault : SealFault) → BeginFails 0 d a fault → BeginsLeafMerge m merge d a (Err fault)
      begun_stops fault fails = stops (0 ∷ []) a fault (refl, tt) (begun_told m ids pages d can plan.links a.told own) (begins_not is_first_two 0 d d a fault refl refl fails)

      pub behind_begun : (leaf : Layer) → WhereBothTold (HasBegun m.source.parts session 0 leaf) d.told a.told → a ≡ record d { told = a.told } → Behind (λ t. AtBegun t m ids pages leaf) a
      behind_begun leaf begun counts = record {
        counts = counts;
        at = begun_stage m ids pages d can plan.links a.told own leaf (subst (λ (s : SessionIds). WhereBothTold (HasBegun m.source.parts s 0 leaf) d.told a.told) session_is begun);
      }

  -- ---- the leaf is linked twice

  module _ (leaf : Layer) (a : Disk) (r : Behind (λ t. AtBegun t m ids pages leaf) a) (of : IsOf m.source.parts 0 leaf) (laid : List Page) (laid_is : laid ≡ pages) where
    pub twice_turns : WhereTold a.told (Turns leaf laid)
    twice_turns = subst (λ (ps : List Page). WhereTold a.told (Turns leaf ps)) (sym laid_is) (leaf_turned m ids pages d can plan.links leaf a.told r.at of.table plan.twice.has.pages_are plan.twice.has.told)

    module _ (b : Disk) (given : WhereBothTold (UpdatesOver leaf laid) a.told b.told) where
      twice_over : WhereBothTold (UpdatesOver leaf pages) a.told b.told
      twice_over = subst (λ (ps : List Page). WhereBothTold (UpdatesOver leaf ps) a.told b.told) laid_is given

      pub linked_stops : (fault : SealFault) → BeginFails leaf.tables.parts.file a b fault → BeginsLeafMerge m merge d b (Err fault)
      linked_stops fault fails =
          stops (0 ∷ 0 ∷ []) b fault (refl, (refl, tt)) (linked_told m ids pages d can plan.links leaf a.told r.at of.table plan.twice.has.pages_are plan.twice.has.told b.told twice_over)
          (begins_not is_first_two 0 d a b fault refl r.counts (subst (λ (n : ℕ). BeginFails n a b fault) of.number fails))

      pub behind_linked : (next : Layer) → WhereBothTold (HasUpdated leaf next laid) a.told b.told → b ≡ record a { told = b.told } → Behind (λ t. AtLinked t m ids pages next) b
      behind_linked next updated counts = record {
        counts = counts_join d a b r.counts counts;
        at = linked_stage m ids pages d can plan.links leaf a.told r.at of.table plan.twice.has.pages_are plan.twice.has.told b.told twice_over next
            (subst (λ (ps : List Page). WhereBothTold (HasUpdated leaf next ps) a.told b.told) laid_is updated);
      }

  -- ---- the target's session begins

  module _ (leaf : Layer) (a : Disk) (r : Behind (λ t. AtLinked t m ids pages leaf) a) (session : SessionIds) (session_is : session ≡ data_session ids.target) where
    pub target_ready : WhereTold a.told (CanServe m.target.parts session.log 1)
    target_ready =
        subst (λ (s : SessionIds). WhereTold a.told (CanServe m.target.parts s.log 1)) (sym session_is)
        (heir_serves m ids pages d can plan.links leaf a.told r.at (fresh_at d (leaf_chain m) (m.source ∷ []) m.target m.below can refl (leaf_merge_ids ids) 5 plan.fit (omega arith)))

    module _ (b : Disk) (given : WhereBothTold (BeginsOver m.target.parts session 1) a.told b.told) where
      heir_over : WhereBothTold (BeginsOver m.target.parts (data_session ids.target) 1) a.told b.told
      heir_over = subst (λ (s : SessionIds). WhereBothTold (BeginsOver m.target.parts s 1) a.told b.told) session_is given

      opened_all : WhereBothTold (OpenedOf m (1 ∷ 0 ∷ 0 ∷ [])) d.told b.told
      opened_all = heir_told m ids pages d can plan.links leaf a.told r.at b.told heir_over

      pub heir_stops : (fault : SealFault) → BeginFails 1 a b fault → BeginsLeafMerge m merge d b (Err fault)
      heir_stops fault fails = stops (1 ∷ 0 ∷ 0 ∷ []) b fault (refl, (refl, (refl, tt))) opened_all (begins_not is_first_two 1 d a b fault refl r.counts fails)

      pub no_layers : b ≡ record a { told = b.told } → BeginsLeafMerge m merge d b (Err NoRoom)
      no_layers counts = stops (1 ∷ 0 ∷ 0 ∷ []) b NoRoom (refl, (refl, (refl, tt))) opened_all (counts_join d a b r.counts counts)

      pub behind_heir : (target : Layer) → WhereBothTold (HasBegun m.target.parts session 1 target) a.told b.told → b ≡ record a { told = b.told } → Behind (λ t. AtHeir t m ids pages leaf target) b
      behind_heir target begun counts = record {
        counts = counts_join d a b r.counts counts;
        at = heir_stage m ids pages d can plan.links leaf a.told r.at b.told heir_over target
            (subst (λ (s : SessionIds). WhereBothTold (HasBegun m.target.parts s 1 target) a.told b.told) session_is begun);
      }

      pub begins_with : (layers : Layers) → HasBegunLeafMerge m merge d b layers → BeginsLeafMerge m merge d b (Ok layers)
      begins_with layers begun = record {
        moments = moments_of m (1 ∷ 0 ∷ 0 ∷ []) d.told b.told opened_all;
        still = all_but is_first_two (λ t. opening_disk t (leaf_chain m)) (way_to m.source (leaf_chain m) None) (1 ∷ 0 ∷ 0 ∷ []) (refl, (refl, (refl, tt))) d.told b.told opened_all;
        begun = begun;
        err = tt;
      }

  -- ---- what the pages were built of

  clear_at : (o : Option (List Page)) → ClearsTarget m.target 1 d o → (t : Trace) → d.told ≡ Some t → ClearsAt m.target t o
  clear_at None none t told = none
  clear_at (Some ps) has t told = (has.1.pages_are, has.1.told t told)

  given_told : WhereTold d.told (AreGiven m merge)
  given_told t told = record { found = is_found (leaf_chain m) d can t told; twice = plan.twice.has.told t told; retire = plan.retire.told t told; clear = clear_at merge.clear plan.clear t told }

  few_clear : (o : Option (List Page)) → ClearsTarget m.target 1 d o → IfSome o (λ ps. length ps ≤ 120)
  few_clear None none = tt
  few_clear (Some ps) has = few_pages (length ps) (length ps) has.1.few refl

  -- ---- the layers

  abbrev g : Geometry
  g = m.source.parts.geometry

  same_geometry : AllByRecursion (λ (f : LinkedFile). f.parts.geometry ≡ g) (leaf_chain m)
  same_geometry = one_geometry m.source (m.target ∷ m.below) g refl can.line

  sector_is : g.sector ≡ 512
  sector_is = (served_at d (leaf_chain m) [] m.source (m.target ∷ m.below) can refl).sector

  some_stripe : 0 < per_stripe g.sector
  some_stripe = stripe_of_512 g.sector (sym sector_is)

  -- the leaf as its session began, and as it is behind its update
  pub record LeafMade (begun leaf : Layer) : Type 0 where
    pub old : Disk
    pub was : IsReady leaf old
    pub counts : old ≡ record d { told = old.told }
    pub of : IsOf m.source.parts 0 begun
    pub parts : leaf.tables.parts ≡ begun.tables.parts
    pub number : leaf.log.number ≤ begun.log.number + 1

  pub record HeirMade (target : Layer) : Type 0 where
    pub old : Disk
    pub was : IsReady target old
    pub counts : old ≡ record d { told = old.told }
    pub of : IsOf m.target.parts 1 target
    pub session : SessionIds
    pub header : target.log.header ≡ session_header m.target.parts.header session

  next_of : (h : Header) (session : SessionIds) (now : Header) → h.number ≤ 2 ^ 64 - 2 ^ 32 → now ≡ session_header h session → HasNextNumber now
  next_of h session now low is =
      subst HasNextNumber (sym is) (next_fits h.number low)

  module _ (b : Disk) (room : LeafRoom) (for : IsLeafRoom m room) (low : m.target.parts.header.number ≤ 2 ^ 64 - 2 ^ 32) (begun leaf target : Layer) (r : Behind (λ t. AtHeir t m ids pages leaf target) b)
      (leaf_made : LeafMade begun leaf) (heir_made : HeirMade target) where
    abbrev below : List FileLayer
    below = Session target ∷ room.below.items

    table : leaf.tables.parts.bat_len ≡ m.source.parts.bat_len
    table = ap (λ (p : TableParts). p.bat_len) leaf_made.parts ∙ leaf_made.of.table

    leaf_file : leaf.tables.parts.file ≡ 0
    leaf_file = ap (λ (p : TableParts). p.file) leaf_made.parts ∙ leaf_made.of.number

    at_both : WhereBothTold (λ x t. AreGiven m merge x × AtHeir x m ids pages leaf target t) d.told b.told
    at_both = told_from (AreGiven m merge) (λ x. AtHeir x m ids pages leaf target) (λ x t. AreGiven m merge x × AtHeir x m ids pages leaf target t) (λ x t given at. (given, at)) d.told b.told given_told r.at

    same_files : (old : Disk) → old ≡ record d { told = old.told } → b.files ≡ old.files
    same_files old is = ap (λ (x : Disk). x.files) r.counts ∙ sym (ap (λ (x : Disk). x.files) is)

    leaf_held : WhereTold b.told (λ t. (file : Placed) × Serves leaf t file)
    leaf_held = told_last (λ x t. AreGiven m merge x × AtHeir x m ids pages leaf target t) (λ t. (file : Placed) × Serves leaf t file) (λ x t at. (_, at.1.serving.1.0)) d.told b.told at_both

    below_held : WhereTold b.told (λ t. (files : List Placed) × HaveFiles below t files)
    below_held =
        told_last (λ x t. AreGiven m merge x × AtHeir x m ids pages leaf target t) (λ t. (files : List Placed) × HaveFiles below t files)
        (λ x t at. (heir_in x m ids ∷ placed_from x 2 m.below, have_below x t m merge at.0 leaf target at.1 room.below.items for.below table heir_made.of.table plan.retire.pages_are)) d.told b.told at_both

    counted : CountFrom 1 below
    counted = (heir_made.of.number, count_read 2 m.below room.below.items for.below)

    made_all : AllByRecursion (IsMade g b) below
    made_all = (
      (
        (heir_made.old, (heir_made.was, same_files heir_made.old heir_made.counts)),
        (heir_made.of.sector ∙ ap (λ (k : Geometry). k.sector) same_geometry.1.0, heir_made.of.sectors ∙ ap (λ (k : Geometry). k.sectors) same_geometry.1.0),
      ),
      made_read g b 2 m.below room.below.items for.below (two_there (length m.below) d.files b.files can.there (ap (λ (x : Disk). x.files) r.counts)) same_geometry.1.1,
    )

    leaf_ready : IsReadyLeaf g below b leaf
    leaf_ready = record {
      ready = ready_still leaf leaf_made.old b leaf_made.was (same_files leaf_made.old leaf_made.counts) leaf_held;
      sector = ap (λ (p : TableParts). p.sector) leaf_made.parts ∙ leaf_made.of.sector;
      sectors = ap (λ (p : TableParts). p.sectors) leaf_made.parts ∙ leaf_made.of.sectors;
      apart = subst (λ (n : ℕ). AreOthers n below) (sym leaf_file) (counted_others 1 below zero_one counted);
    }

    module _ (layers : Layers) (u : Retiring) (geometry : layers.geometry ≡ g) (leaf_is : layers.leaf ≡ Some leaf) (none_now : layers.merge ≡ None) (merge_is : layers.retiring ≡ Some u) (below_is : layers.below.items ≡ below)
        (retire_is : u.retire ≡ merge.retire) (clear_is : u.clear ≡ merge.clear) (third_is : u.third ≡ merge.ids.third) (marks : u.marks ≡ room.marks) (stamps : u.stamps ≡ room.stamps) where
      no_marks : (k : ℕ) → marks_of u.marks k ≡ false
      no_marks k = ap (λ (s : Marks). marks_of s k) marks ∙ for.marks k

      no_stamps : (k : ℕ) → stamps_of u.stamps k ≡ 0
      no_stamps k = ap (λ (s : Stamps). stamps_of s k) stamps ∙ for.stamps k

      serving : StartsLeafMerge m merge layers d.told b.told
      serving =
          told_from (AreGiven m merge) (λ x. AtHeir x m ids pages leaf target) (λ x t. IsServing layers (started_leaf_merge x t m ids pages) t)
          (λ x t given at.
          serves_leaf_merge x t m merge given leaf target at room.below.items for.below table heir_made.of.table plan.retire.pages_are layers u geometry leaf_is none_now merge_is below_is retire_is clear_is
          no_marks (ap (λ (s : Marks). s.stripes) marks ∙ for.stripes) no_stamps some_stripe) d.told b.told given_told r.at

      retiring_of : IsRetiringOf g (Some leaf) below u
      retiring_of = record {
        session = refl;
        there = zero_suc (length room.below.items);
        target = refl;
        next = next_of m.target.parts.header heir_made.session target.log.header low heir_made.header;
        size = source_numbers.most;
        stripes = ap (λ (s : Marks). s.stripes) marks ∙ for.stripes;
        stamps = ap (λ (s : Stamps). length s.words.items) stamps ∙ for.words;
      }

      clear_ready : (o : Option (List Page)) → IfSome o (λ ps. length ps ≤ 120) → WhereTold b.told (λ t. IfSome o (λ ps. FileTurns (Session target) ps t))
          → IfSome o (λ ps. (length ps ≤ 120) × IfSome (first_layer below) (λ l. WhereTold b.told (FileTurns l ps)))
      clear_ready None few turns = tt
      clear_ready (Some ps) few turns = (few, turns)

      can_retire : CanRetire (Some leaf) below b u
      can_retire = record {
        few = subst (λ (ps : List Page). length ps ≤ 120) (sym retire_is) (few_pages (length merge.retire) (length merge.retire) plan.retire.few refl);
        turns = subst (λ (ps : List Page). WhereTold b.told (FileTurns (Session leaf) ps)) (sym retire_is)
            (told_last (λ x t. AreGiven m merge x × AtHeir x m ids pages leaf target t) (FileTurns (Session leaf) merge.retire)
            (λ x t at. leaf_turns x t m merge at.0 leaf target at.1 room.below.items for.below table heir_made.of.table plan.retire.pages_are) d.told b.told at_both);
        clears = subst (λ (o : Option (List Page)). IfSome o (λ ps. (length ps ≤ 120) × IfSome (first_layer below) (λ l. WhereTold b.told (FileTurns l ps)))) (sym clear_is)
            (clear_ready merge.clear (few_clear merge.clear plan.clear)
            (told_last (λ x t. AreGiven m merge x × AtHeir x m ids pages leaf target t) (λ t. IfSome merge.clear (λ ps. FileTurns (Session target) ps t))
            (λ x t at. target_turns x t m merge at.0 leaf target at.1 room.below.items for.below table heir_made.of.table plan.retire.pages_are merge.clear at.0.clear) d.told b.told at_both));
      }

      are_ready : AreReady layers b
      are_ready = record {
        sector = ap (λ (k : Geometry). k.sector) geometry ∙ sector_is;
        leaf = subst (λ (o : Option Layer). IfSome o (IsReadyLeaf layers.geometry layers.below.items b)) (sym leaf_is)
            (subst (λ (k : Geometry). IsReadyLeaf k layers.below.items b leaf) (sym geometry) (subst (λ (x : List FileLayer). IsReadyLeaf g x b leaf) (sym below_is) leaf_ready));
        below = subst (λ (k : Geometry). AreReadyFiles k b layers.below.items) (sym geometry)
            (subst (λ (x : List FileLayer). AreReadyFiles g b x) (sym below_is) (made_ready g b below made_all below_held));
        apart = subst (λ (x : List FileLayer). AreApart (file_numbers x)) (sym below_is) (counted_apart 1 below counted);
        merge = subst (λ o. IfSome o (IsMergeOf layers.geometry layers.leaf layers.below.items)) (sym none_now) tt;
        relink = subst (λ o. IfSome o (CanRelink layers.leaf layers.below.items b)) (sym none_now) tt;
        one = subst (λ o. AtMostOne o layers.retiring) (sym none_now) tt;
        retiring = subst (λ (o : Option Retiring). IfSome o (IsRetiringOf layers.geometry layers.leaf layers.below.items)) (sym merge_is)
            (subst (λ (k : Geometry). IsRetiringOf k layers.leaf layers.below.items u) (sym geometry)
            (subst (λ (o : Option Layer). IsRetiringOf g o layers.below.items u) (sym leaf_is) (subst (λ (x : List FileLayer). IsRetiringOf g (Some leaf) x u) (sym below_is) retiring_of)));
        retires = subst (λ (o : Option Retiring). IfSome o (CanRetire layers.leaf layers.below.items b)) (sym merge_is)
            (subst (λ (o : Option Layer). CanRetire o layers.below.items b u) (sym leaf_is) (subst (λ (x : List FileLayer). CanRetire (Some leaf) x b u) (sym below_is) can_retire));
      }

      are_low : IsLow 2 layers
      are_low =
          subst (λ (o : Option Layer). AllByRecursion (λ number. IfSome number (λ n. n ≤ 2)) (option_map (λ (l : Layer). l.log.number) o ∷ map log_number layers.below.items)) (sym leaf_is) (
            two_low begun.log.number leaf.log.number leaf_made.of.first leaf_made.number,
            subst (λ (x : List FileLayer). AllByRecursion (λ number. IfSome number (λ n. n ≤ 2)) (map log_number x)) (sym below_is)
                (one_low_two target.log.number heir_made.of.first, none_logged 2 2 m.below room.below.items for.below),
          )

      pub has_begun : HasBegunLeafMerge m merge d b layers
      has_begun = record {
        serving = serving;
        session = ap is_some leaf_is;
        under_way = ap is_some merge_is;
        plan = subst (λ (o : Option Retiring). IfSome o (KeepsPlan merge)) (sym merge_is) (record { retire = retire_is; clear = clear_is; third = third_is; marks = no_marks; stamps = no_stamps });
        only = none_now;
        leaf = ap number_of_leaf leaf_is ∙ leaf_file;
        geometry = geometry;
        ready = are_ready;
        low = are_low;
        counts = r.counts;
      }
