-- A session whose leaf's merge is prepared is served, and its pages turn leaf and target.
use Rattle.std.proofs.Common.{◌≡◌, ◌==◌, ◌||◌, ℕ, ◌<◌, ◌≤◌, Bool, true, false, List, [], ◌∷◌, length, refl, sym, ap, subst, ◌∙◌, ne_eqb}
use Rattle.std.specs.Prelude.{Option, Some, None, IfSome, option_map}
use Rattle.std.specs.List.{AllByRecursion}
use Rattle.vhdx_format.specs.declared.log_entry.Page.{Page}
use Rattle.store_model.specs.File.{seen}
use Rattle.store_model.specs.Trace.{Trace, file_of}
use Rattle.store_model.proofs.Parts.{length-part}
use Rattle.store_model.proofs.Spans.{EachMoment-weaken}
use Rattle.guest_model.specs.Calls.{Disk}
use Rattle.guest_model.specs.History.{is_dirty}
use Rattle.chain_model.specs.Images.{Placed}
use Rattle.chain_model.specs.Merges.{IsUnderWay}
use Rattle.chain_model.specs.Moments.{EachOpens, OpensToPrefix}
use Rattle.chain_model.specs.Stripes.{per_stripe, stamp, stripe_count}
use Rattle.chain_model.proofs.Merging.{begins as merge_begins}
use Rattle.chain_model.proofs.Serving.{loose_moves, prefixes_stay, opens_wider, served_wider}
use Rattle.link_rules.specs.declared.linked.LinkedFile.{LinkedFile}
use Rattle.layer_session.specs.Calls.{IsBeside}
use Rattle.layer_session.specs.FileLayers.{FileTurns, HaveFiles}
use Rattle.layer_session.specs.declared.file.Layer.{Layer}
use Rattle.layer_session.specs.declared.file_layer.FileLayer.{FileLayer}
use Rattle.layer_session.specs.declared.file_layer.FileLayer.TheVariants.{Session}
use Rattle.merge_core.specs.Copied.{marks_of}
use Rattle.merge_core.specs.Stamping.{stamps_of}
use Rattle.meta_edit.specs.Edits.{region_of}
use Rattle.meta_edit.specs.Pages.{ArePages}
use Rattle.merge_plan.specs.Attached.{IsAsOpened}
use Rattle.merge_plan.specs.LeafMerging.{GivesName, LeafFiles, OfLinked, linked_pairs}
use Rattle.merge_plan.specs.Merging.{GivesLocator}
use Rattle.merge_plan.specs.declared.leaf.LeafMerge.{LeafMerge}
use Rattle.merge_plan.specs.declared.leaf_drawing.LeafMergeIds.{LeafMergeIds}
use Rattle.merge_plan.proofs.NamesTurned.{names_turn}
use Rattle.merge_plan.proofs.Opened.{lie_within}
use Rattle.chain_core.specs.LeafStarting.{heir_in, is_first_two, leaf_chain, leaf_in, started_leaf_merge}
use Rattle.chain_core.specs.MergeStarting.{data_session}
use Rattle.chain_core.specs.Starting.{AreReadOf, opening_disk, placed_from, way_to}
use Rattle.chain_core.specs.States.{AreHeld, AreWritten, IsCleared, IsCourse, IsLeaving, IsRetiring, IsServing, Renames, WasSynced, target_parts}
use Rattle.chain_core.specs.declared.layers.Layers.{Layers}
use Rattle.chain_core.specs.declared.layers.Retiring.{Retiring}
use Rattle.chain_core.proofs.Numbers.{from_two_first, from_two_second}
use Rattle.chain_core.proofs.LeafPhases.{AtHeir, heir_opened}
use Rattle.chain_core.proofs.MergeFound.{IsFound, whole_first}
use Rattle.chain_core.proofs.MergeServed.{Each, none_written, read_on, synced_on}
use Rattle.chain_core.proofs.Phases.{tight}
use Rattle.chain_core.proofs.Stages.{laid_gives}
use Rattle.layer_session.proofs.Equal.{true_false}
use Rattle.chain_model.specs.Files.{files_in}

-- ---- what the pages were built of

-- a file has no retired name, or these pages clear it
abbrev pub ClearsAt : LinkedFile → Trace → Option (List Page) → Type 0
ClearsAt target t None = target.parts.retired ≡ None
ClearsAt target t (Some pages) = ArePages target.parts pages × GivesName target.parts (region_of target.parts (seen (file_of t 1))) None pages

-- the files as they were found, and the pages that were built of them
pub record AreGiven (m : LeafFiles) (merge : LeafMerge) (t : Trace) : Type 0 where
  pub found : IsFound t (leaf_chain m)
  pub twice : GivesLocator m.source.parts (seen (file_of t 0)) (linked_pairs m merge.ids.target.data_write) merge.twice
  pub retire : OfLinked m.source.parts (seen (file_of t 0)) (linked_pairs m merge.ids.target.data_write) (λ region. GivesName m.source.parts region (Some m.target.name) merge.retire)
  pub clear : ClearsAt m.target t merge.clear

-- ---- which numbers are written

two_false : (a b : Bool) → a ≡ false → b ≡ false → (a || b) ≡ false
two_false false false x y = refl
two_false true b x y = absurd (true_false x)
two_false false true x y = absurd (true_false y)

unwritten : (k : ℕ) → 2 ≤ k → is_first_two k ≡ false
unwritten k from = two_false (k == 0) (k == 1) (ne_eqb k 0 (from_two_first k from)) (ne_eqb k 1 (from_two_second k from))

-- ---- all of it

module _ (t0 now : Trace) (m : LeafFiles) (merge : LeafMerge) (given : AreGiven m merge t0) (leaf target : Layer) (e : AtHeir t0 m merge.ids merge.twice leaf target now) (reads : List FileLayer) (of : AreReadOf 2 m.below reads)
    (table : leaf.tables.parts.bat_len ≡ m.source.parts.bat_len) (lower_table : target.tables.parts.bat_len ≡ m.target.parts.bat_len) (retire_pages : ArePages m.source.parts merge.retire) where
  abbrev ids : LeafMergeIds
  ids = merge.ids

  abbrev z : ℕ
  z = m.source.parts.geometry.sector

  abbrev opening : Disk
  opening = opening_disk t0 (leaf_chain m)

  abbrev top : Placed
  top = leaf_in t0 m ids merge.twice

  abbrev heir : Placed
  heir = heir_in t0 m ids

  abbrev rest : List Placed
  rest = placed_from t0 2 m.below

  source_opened : IsAsOpened t0 0 m.source
  source_opened = given.found.attached.each.0

  target_opened : IsAsOpened t0 1 m.target
  target_opened = heir_opened t0 m ids merge.twice given.found

  -- ---- the leaf is retired, and the target's retired name cleared

  laid : top.metadata.bytes ≡ given.twice.region
  laid = laid_gives t0 0 m.source.parts (data_session ids.leaf) (linked_pairs m ids.target.data_write) merge.twice (lie_within t0 0 m.source source_opened).metadata given.twice

  pub retires : Renames leaf.tables.parts.bat_len merge.retire top (Some heir.member.name)
  retires =
      let gives : GivesName m.source.parts top.metadata.bytes (Some m.target.name) merge.retire =
      subst (λ (r : List ℕ). GivesName m.source.parts r (Some m.target.name) merge.retire) (sym laid) (given.retire given.twice.region given.twice.changed) in
      subst (λ (n : List ℕ). Renames leaf.tables.parts.bat_len merge.retire top (Some n)) (sym target_opened.name)
      (record {
        region = gives.region;
        into = names_turn leaf now top m.source.parts (Some m.target.name) merge.retire e.serving.1.0 table refl (ap (λ (r : List ℕ). length r) laid ∙ given.twice.long) retire_pages gives;
      })

  pub clears : (o : Option (List Page)) → ClearsAt m.target t0 o → IsCleared target.tables.parts.bat_len o heir
  clears None none = none
  clears (Some pages) gives = record {
    region = gives.1.region;
    into = names_turn target now heir m.target.parts None pages e.serving.0 lower_table refl
        (length-part (seen (file_of t0 1)) m.target.parts.meta_at m.target.parts.meta_len (lie_within t0 1 m.target target_opened).metadata) gives.0 gives.1;
  }

  pub leaf_turns : FileTurns (Session leaf) merge.retire now
  leaf_turns = record { file = top; ties = _; region = retires.region; has = e.serving.1.0; into = retires.into }

  pub target_turns : (o : Option (List Page)) → ClearsAt m.target t0 o → IfSome o (λ pages. FileTurns (Session target) pages now)
  target_turns None none = tt
  target_turns (Some pages) gives = let c = clears (Some pages) gives in record { file = heir; ties = _; region = c.region; has = e.serving.0; into = c.into }

  -- ---- the other files

  beside_rest : Each (λ k. IsBeside k t0 now) 2 m.below
  beside_rest k from to =
      e.left k (
        from_two_second k from,
        (from_two_first k from, (from_two_first k from, tt)),
      )

  unwritten_rest : Each (λ k. is_first_two k ≡ false) 2 m.below
  unwritten_rest k from to = unwritten k from

  pub have_below : HaveFiles (Session target ∷ reads) now (heir ∷ rest)
  have_below = (e.serving.0, read_on t0 now 2 m.below reads beside_rest of given.found.attached.each.1.1)

  written_below : AreWritten is_first_two (Session target ∷ reads)
  written_below = (ap is_first_two (sym e.serving.0.number), none_written is_first_two 2 m.below reads unwritten_rest of)

  synced_below : AllByRecursion (WasSynced is_first_two now) (top ∷ heir ∷ rest)
  synced_below = (
    (λ w. absurd (let never : true ≡ false = w in true_false never)),
    ((λ w. absurd (let never : true ≡ false = w in true_false never)), synced_on is_first_two t0 now 2 m.below beside_rest given.found.attached.each.1.1),
  )

  module _ (layers : Layers) (r : Retiring) (geometry : layers.geometry ≡ m.source.parts.geometry) (leaf_is : layers.leaf ≡ Some leaf) (none_now : layers.merge ≡ None) (merge_is : layers.retiring ≡ Some r) (below_is : layers.below.items ≡ Session target ∷ reads)
      (retire_is : r.retire ≡ merge.retire) (clear_is : r.clear ≡ merge.clear) (marks : (t : ℕ) → marks_of r.marks t ≡ false) (stripes : r.marks.stripes ≡ stripe_count z m.source.parts.geometry.sectors)
      (stamps : (t : ℕ) → stamps_of r.stamps t ≡ 0) (some : 0 < per_stripe z) where
    no_stamp : (t : ℕ) → 0 ≡ stamp z [] t
    no_stamp t = refl

    leaves : IsLeaving z is_first_two [] layers r top heir top.member.layer heir.member.layer
    leaves = record {
      some = some;
      written = refl;
      parts = leaf.tables.parts;
      goes_by = ap (λ (o : Option Layer). option_map (λ (l : Layer). l.tables.parts) o) leaf_is;
      retires = subst (λ (ps : List Page). Renames leaf.tables.parts.bat_len ps top (Some heir.member.name)) (sym retire_is) retires;
      lower = target.tables.parts;
      lower_goes_by = ap target_parts below_is;
      clears = subst (λ (o : Option (List Page)). IsCleared target.tables.parts.bat_len o heir) (sym clear_is) (clears merge.clear given.clear);
      each = stripes;
      stamps = λ t less. stamps t ∙ no_stamp t;
      under_way = subst (λ (ms : ℕ → Bool). IsUnderWay z top.member.layer heir.member.layer [] ms top.member.layer heir.member.layer) (sym (λ i. λ t. marks t i)) (merge_begins z top.member.layer heir.member.layer);
    }

    pub serves_leaf_merge : IsServing layers (started_leaf_merge t0 now m ids merge.twice) now
    serves_leaf_merge = record {
      once = e.once;
      geometry = geometry;
      served = served_wider z opening [] (way_to m.source (leaf_chain m) None) (Some m.source.name) [] (top ∷ heir ∷ rest) now refl e.served;
      loose = loose_moves.begins (is_dirty z []) [] top heir rest (tight (is_dirty z []) (top ∷ heir ∷ rest) e.none);
      course = subst (λ o. IsCourse z is_first_two layers o top (started_leaf_merge t0 now m ids merge.twice).rest) (sym none_now) tt;
      leaving = subst (λ o. IsRetiring z is_first_two [] layers o top (started_leaf_merge t0 now m ids merge.twice).rest) (sym merge_is) leaves;
      drops = ap (λ n. Some n) (sym given.found.attached.each.0.name);
      held = subst (λ o. AreHeld o layers.below.items now top (heir ∷ rest)) (sym leaf_is)
          (e.serving.1.0, subst (λ (b : List FileLayer). HaveFiles b now (heir ∷ rest)) (sym below_is) have_below);
      whole = λ s below. whole_first t0 m.source (m.target ∷ m.below) given.found s below;
      synced = synced_below;
      written = subst (λ o. IfSome o (λ l. (is_first_two 0 ≡ true) × AreWritten is_first_two layers.below.items)) (sym leaf_is)
          (refl, subst (AreWritten is_first_two) (sym below_is) written_below);
      still = λ other none. refl;
      past = EachMoment-weaken (EachOpens (way_to m.source (leaf_chain m) None) (λ s. false) opening) (OpensToPrefix z opening [] (λ s. false) (way_to m.source (leaf_chain m) (Some m.source.name))) t0 now
          (λ t opens. prefixes_stay.broken z opening [] (λ s. false) (way_to m.source (leaf_chain m) (Some m.source.name)) t
          (λ image is. opens_wider (files_in image) (way_to m.source (leaf_chain m) None) (Some m.source.name) (λ s. false) opening refl (opens image is))) e.moments;
    }
