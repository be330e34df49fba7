-- A session whose merge is prepared is served.
use Rattle.std.proofs.Common.{◌≡◌, ◌≢◌, ◌==◌, ◌||◌, ◌-◌, ℕ, suc, ◌+◌, ◌<◌, ◌≤◌, Bool, true, false, cond, List, [], ◌∷◌, ◌++◌, length, map, refl, sym, ap, subst, ◌∙◌, arith, is_some, ne_eqb, eq-eqb}
use Rattle.std.proofs.lemmas.List.{append_assoc, length-append}
use Rattle.std.specs.Prelude.{Option, Some, None, IfSome, slice_index_or}
use Rattle.std.specs.List.{AllByRecursion}
use Rattle.std.specs.Option.{option_or}
use Rattle.chain_model.proofs.Showing.{all_append}
use Rattle.vhdx_format.specs.Locators.{locator_bytes}
use Rattle.vhdx_format.specs.declared.log_entry.Page.{Page}
use Rattle.store_model.specs.File.{is_synced, seen}
use Rattle.store_model.specs.Trace.{Trace, file_of}
use Rattle.store_model.proofs.Spans.{EachMoment-weaken}
use Rattle.guest_model.specs.Calls.{Disk}
use Rattle.guest_model.specs.History.{is_dirty}
use Rattle.table_pages.specs.declared.tables.TableParts.{TableParts}
use Rattle.chain_model.specs.Images.{Placed}
use Rattle.chain_model.specs.Moments.{EachOpens, OpensToPrefix}
use Rattle.chain_model.proofs.Merging.{begins as merge_begins}
use Rattle.chain_model.proofs.Serving.{loose_moves, prefixes_stay, opens_wider, served_wider}
use Rattle.link_rules.specs.declared.linked.LinkedFile.{LinkedFile}
use Rattle.layer_session.specs.Begins.{as_found, in_session}
use Rattle.layer_session.specs.Calls.{IsBeside}
use Rattle.layer_session.specs.FileLayers.{HaveFiles, number_of, table_parts}
use Rattle.layer_session.specs.Keeping.{Serves}
use Rattle.layer_session.specs.ReadOnly.{IsRead}
use Rattle.layer_session.specs.Updating.{laid_region, turned}
use Rattle.layer_session.specs.declared.file.Layer.{Layer}
use Rattle.layer_session.specs.declared.file_layer.FileLayer.{FileLayer}
use Rattle.layer_session.specs.declared.file_layer.FileLayer.TheVariants.{Read, Session}
use Rattle.layer_session.specs.declared.read_layer.ReadLayer.{ReadLayer}
use Rattle.layer_session.proofs.FileLayers.{file_layers_stand}
use Rattle.log_write.specs.declared.ids.SessionIds.{SessionIds}
use Rattle.merge_core.specs.Copied.{marks_of}
use Rattle.meta_edit.specs.Pages.{ArePages}
use Rattle.merge_plan.specs.Merging.{GivesLocator, KeepsLinks, MergeFiles, child_place, relinked_pairs, source_place}
use Rattle.merge_plan.specs.declared.drawing.LogIds.{LogIds}
use Rattle.merge_plan.specs.declared.drawing.MergeIds.{MergeIds}
use Rattle.merge_plan.proofs.Lines.{are_followed}
use Rattle.chain_core.specs.MergeStarting.{between_in, chain_files, data_session, is_written, leaf_of, log_session, source_in, started_merge, target_in, target_place, top_in}
use Rattle.chain_core.specs.Starting.{AreReadOf, opening_disk, placed_from, way_to}
use Rattle.merge_plan.specs.Attached.{AreAsOpened}
use Rattle.chain_core.specs.States.{AreHeld, AreWritten, IsCourse, IsRetiring, IsServing, IsUnder, Relinks, WasSynced, child_of, child_parts, is_session, seen_in}
use Rattle.chain_core.specs.declared.layers.Layers.{Layers}
use Rattle.chain_core.specs.declared.layers.Underway.{Underway}
use Rattle.chain_core.proofs.Numbers.{before_suc, from_one, from_third_first, from_third_last, from_third_second, from_third_zero, next_not_same, next_not_zero, next_suc, same_not_next, suc_not_zero, up_to_last, up_to_second}
use Rattle.chain_core.proofs.MergeFound.{AreFound, between_found, child_opened, opened_above, rest_found, rest_opened, source_found, target_found, target_opened, whole_found, source_opened}
use Rattle.chain_core.proofs.MergePhases.{AtEnd, child_pairs}
use Rattle.merge_plan.proofs.Opened.{lie_within}
use Rattle.chain_core.proofs.Phases.{Pair, tight}
use Rattle.chain_core.proofs.Putting.{have_all}
use Rattle.chain_core.proofs.Stages.{gives_turn}
use Rattle.layer_session.proofs.Equal.{false_true, true_false}
use Rattle.chain_model.specs.Files.{files_in}

-- ---- which numbers are written

three_false : (a b c : Bool) → a ≡ false → b ≡ false → c ≡ false → (a || b || c) ≡ false
three_false false false false x y z = refl
three_false true b c x y z = absurd (true_false x)
three_false false true c x y z = absurd (true_false y)
three_false false false true x y z = absurd (true_false z)

second_true : (a b c : Bool) → b ≡ true → (a || b || c) ≡ true
second_true true true c h = refl
second_true false true c h = refl
second_true a false c h = absurd (false_true h)

third_true : (a b c : Bool) → c ≡ true → (a || b || c) ≡ true
third_true true b true h = refl
third_true false true true h = refl
third_true false false true h = refl
third_true a b false h = absurd (false_true h)

pub unwritten : (m : MergeFiles) (k : ℕ) → k ≢ 0 → k ≢ child_place m → k ≢ target_place m → is_written m k ≡ false
unwritten m k a b c = three_false (k == 0) (k == child_place m) (k == target_place m) (ne_eqb k 0 a) (ne_eqb k (child_place m) b) (ne_eqb k (target_place m) c)

pub child_written : (m : MergeFiles) → is_written m (child_place m) ≡ true
child_written m = second_true (child_place m == 0) (child_place m == child_place m) (child_place m == target_place m) (eq-eqb (child_place m) (child_place m) refl)

pub target_written : (m : MergeFiles) → is_written m (target_place m) ≡ true
target_written m = third_true (target_place m == 0) (target_place m == child_place m) (target_place m == target_place m) (eq-eqb (target_place m) (target_place m) refl)

leaf_written : (m : MergeFiles) → is_written m 0 ≡ true
leaf_written m = refl

-- ---- files that are only read

-- each number from this one on has P
abbrev pub Each : (ℕ → Type 0) → ℕ → List LinkedFile → Type 0
Each P n files = (k : ℕ) → n ≤ k → k < n + length files → P k

each_later : (P : ℕ → Type 0) (n : ℕ) (f : LinkedFile) (files : List LinkedFile) → Each P n (f ∷ files) → Each P (n + 1) files
each_later P n f files h k from to = h k (omega arith) (omega (arith, to))

pub read_on : (t0 now : Trace) (n : ℕ) (files : List LinkedFile) (layers : List FileLayer) → Each (λ k. IsBeside k t0 now) n files → AreReadOf n files layers → AreAsOpened t0 n files → HaveFiles layers now (placed_from t0 n files)
read_on t0 now n [] [] beside of o = tt
read_on t0 now n [] (l ∷ layers) beside of o = absurd of
read_on t0 now n (f ∷ files) [] beside of o = absurd of
read_on t0 now n (f ∷ files) (Session l ∷ layers) beside of o = absurd of.0
read_on t0 now n (f ∷ files) (Read l ∷ layers) beside of o = (
  file_layers_stand.beside (Read l) t0 now (as_found t0 n f.parts) (of.0.reads t0 o.0.within o.0.most o.0.reads) (beside n (omega arith) (omega arith)),
  read_on t0 now (n + 1) files layers (each_later (λ k. IsBeside k t0 now) n f files beside) of.1 o.1,
)

pub none_written : (writes : ℕ → Bool) (n : ℕ) (files : List LinkedFile) (layers : List FileLayer) → Each (λ k. writes k ≡ false) n files → AreReadOf n files layers → AreWritten writes layers
none_written writes n [] [] none of = tt
none_written writes n [] (l ∷ layers) none of = absurd of
none_written writes n (f ∷ files) [] none of = absurd of
none_written writes n (f ∷ files) (Session l ∷ layers) none of = absurd of.0
none_written writes n (f ∷ files) (Read l ∷ layers) none of = (ap writes of.0.number ∙ none n (omega arith) (omega arith), none_written writes (n + 1) files layers (each_later (λ k. writes k ≡ false) n f files none) of.1)

pub synced_on : (writes : ℕ → Bool) (t0 now : Trace) (n : ℕ) (files : List LinkedFile) → Each (λ k. IsBeside k t0 now) n files → AreAsOpened t0 n files → AllByRecursion (WasSynced writes now) (placed_from t0 n files)
synced_on writes t0 now n [] beside o = tt
synced_on writes t0 now n (f ∷ files) beside o = ((λ w. ap is_synced (beside n (omega arith) (omega arith)).same ∙ o.0.synced), synced_on writes t0 now (n + 1) files (each_later (λ k. IsBeside k t0 now) n f files beside) o.1)

-- ---- lists

pub read_count : (n : ℕ) (files : List LinkedFile) (layers : List FileLayer) → AreReadOf n files layers → length layers ≡ length files
read_count n [] [] of = refl
read_count n [] (l ∷ layers) of = absurd of
read_count n (f ∷ files) [] of = absurd of
read_count n (f ∷ files) (l ∷ layers) of = ap suc (read_count (n + 1) files layers of.1)

placed_length : (t : Trace) (n : ℕ) (files : List LinkedFile) → length (placed_from t n files) ≡ length files
placed_length t n [] = refl
placed_length t n (f ∷ files) = ap suc (placed_length t (n + 1) files)

pub last_child : (top : Placed) (a : List Placed) (x : Placed) → child_of top (a ++ x ∷ []) ≡ x
last_child top [] x = refl
last_child top (p ∷ a) x = last_child p a x

at_end : (a : List FileLayer) (x : FileLayer) (b : List FileLayer) → slice_index_or (map (λ l. Some (table_parts l)) ((a ++ x ∷ []) ++ b)) (length a) None ≡ Some (table_parts x)
at_end [] x b = refl
at_end (l ∷ a) x b = at_end a x b

seen_with : (a : List Placed) (x y : Placed) (b : List Placed) (s : ℕ) → x.member.layer s ≡ y.member.layer s → seen_in (a ++ x ∷ b) s ≡ seen_in (a ++ y ∷ b) s
seen_with [] x y b s same = ap (λ o. option_or o (seen_in b s)) same
seen_with (p ∷ a) x y b s same = ap (option_or (p.member.layer s)) (seen_with a x y b s same)

seen_tail : (a b c : List Placed) (s : ℕ) → seen_in b s ≡ seen_in c s → seen_in (a ++ b) s ≡ seen_in (a ++ c) s
seen_tail [] b c s same = same
seen_tail (p ∷ a) b c s same = ap (option_or (p.member.layer s)) (seen_tail a b c s same)

-- ---- the files above the source

-- what is known of them, the child among them or the leaf
pub record Front (t0 now : Trace) (m : MergeFiles) (ids : MergeIds) (pages relink : List Page) (leaf : Layer) (front : List FileLayer) : Type 0 where
  pub have : HaveFiles front now (between_in t0 m.above m.child ids.child)
  pub counts : length front ≡ length (between_in t0 m.above m.child ids.child)
  pub written : AreWritten (is_written m) front
  pub synced : AllByRecursion (WasSynced (is_written m) now) (between_in t0 m.above m.child ids.child)
  pub parts : TableParts
  pub goes_by : (rest : List FileLayer) → child_parts (Some leaf) (front ++ rest) (length m.above) ≡ Some parts
  pub child : is_written m (child_of (top_in t0 m ids) (between_in t0 m.above m.child ids.child)).number ≡ true
  pub relinks : Relinks parts.bat_len relink (child_of (top_in t0 m ids) (between_in t0 m.above m.child ids.child)) (target_in t0 m ids)
  pub count : length (between_in t0 m.above m.child ids.child) ≡ length m.above
  pub seen : (b : List Placed) (s : ℕ) → seen_in (between_found t0 m.above m.child ++ b) s ≡ seen_in (between_in t0 m.above m.child ids.child ++ b) s

-- the child is relinked by the pages that were built of it as it was found
pub child_relinks : (t0 now : Trace) (m : MergeFiles) (ids : MergeIds) (relink : List Page) (l : Layer) (session : SessionIds) → AreFound t0 m → KeepsLinks m ids.target.data_write
    → Serves l now (as_found t0 (child_place m) (in_session m.child.parts session)) → l.tables.parts.bat_len ≡ m.child.parts.bat_len → ArePages m.child.parts relink
    → GivesLocator m.child.parts (seen (file_of t0 (child_place m))) (relinked_pairs m ids.target.data_write) relink
    → Relinks l.tables.parts.bat_len relink (as_found t0 (child_place m) (in_session m.child.parts session)) (target_in t0 m ids)
child_relinks t0 now m ids relink l session are links serves table are_pages gives =
    let file : Placed = as_found t0 (child_place m) (in_session m.child.parts session) in
    record {
      ties = record (file.member.ties) { locator = Some (locator_bytes (relinked_pairs m ids.target.data_write)) };
      region = laid_region file relink (seen (file_of t0 (child_place m)));
      into = gives_turn l t0 now (child_place m) m.child.parts session (relinked_pairs m ids.target.data_write) relink serves table (lie_within t0 (child_place m) m.child (child_opened t0 m are)).metadata are_pages gives;
      retired = refl;
      parent = links.past
          (turned (record (file.member.ties) { locator = Some (locator_bytes (relinked_pairs m ids.target.data_write)) }) (laid_region file relink (seen (file_of t0 (child_place m)))) file).member
          (target_in t0 m ids).member
          (record { parent = (are_followed (chain_files m) m are.line refl).child.names.has; locator = refl; geometry = refl })
          (record { name = (target_opened t0 m are).name; id_is = refl; geometry = refl });
    }

-- the child is the leaf
pub front_leaf : (t0 now : Trace) (child source target : LinkedFile) (below : List LinkedFile) (ids : MergeIds) (pages relink : List Page) (leaf : Layer)
    → Relinks leaf.tables.parts.bat_len relink (as_found t0 0 (in_session child.parts (data_session ids.leaf))) (target_in t0 (record { above = []; child = child; source = source; target = target; below = below }) ids)
    → Front t0 now (record { above = []; child = child; source = source; target = target; below = below }) ids pages relink leaf []
front_leaf t0 now child source target below ids pages relink leaf relinks = record {
  have = tt;
  counts = refl;
  written = tt;
  synced = tt;
  parts = leaf.tables.parts;
  goes_by = λ rest. refl;
  child = refl;
  relinks = relinks;
  count = refl;
  seen = λ b s. refl;
}

-- it is another file
module _ (t0 now : Trace) (first : LinkedFile) (above : List LinkedFile) (child source target : LinkedFile) (below : List LinkedFile) (ids : MergeIds) (pages relink : List Page) (inner : LogIds) (is : ids.child ≡ Some inner)
    (leaf layer : Layer) (reads : List FileLayer) where
  abbrev files : MergeFiles
  files = record { above = first ∷ above; child = child; source = source; target = target; below = below }

  abbrev begun : Placed
  begun = as_found t0 (length (first ∷ above)) (in_session child.parts (log_session inner))

  abbrev mid : List Placed
  mid = placed_from t0 1 above ++ begun ∷ []

  mid_is : mid ≡ between_in t0 (first ∷ above) child ids.child
  mid_is = ap (between_in t0 (first ∷ above) child) (sym is)

  child_is : child_of (top_in t0 files ids) mid ≡ begun
  child_is = last_child (top_in t0 files ids) (placed_from t0 1 above) begun

  module _ (are : AreFound t0 files) (of : AreReadOf 1 above reads) (beside : Each (λ k. IsBeside k t0 now) 1 above) (serves : Serves layer now begun) (number : layer.tables.parts.file ≡ length (first ∷ above))
      (relinks : Relinks layer.tables.parts.bat_len relink begun (target_in t0 files ids)) where
    abbrev layers_in : List FileLayer
    layers_in = reads ++ Session layer ∷ []

    above_opened : AreAsOpened t0 1 above
    above_opened = (opened_above t0 0 (first ∷ above) (child ∷ source ∷ target ∷ below) are.attached.each).1

    count_is : length reads ≡ length (placed_from t0 1 above)
    count_is = read_count 1 above reads of ∙ sym (placed_length t0 1 above)

    unwritten_above : Each (λ k. is_written files k ≡ false) 1 above
    unwritten_above k from to =
        unwritten files k (from_one k from) (up_to_last k (length above) to)
        (up_to_second k (length above) to)

    goes_by_child : (rest : List FileLayer) → child_parts (Some leaf) (layers_in ++ rest) (suc (length above)) ≡ Some layer.tables.parts
    goes_by_child rest =
        let some : (suc (length above) == 0) ≡ false = ne_eqb (suc (length above)) 0 (suc_not_zero (length above)) in
        let less : suc (length above) - 1 ≡ length reads = before_suc (length reads) (length above) (read_count 1 above reads of) in
        ap (λ (b : Bool). cond b (Some leaf.tables.parts) (slice_index_or (map (λ l. Some (table_parts l)) (layers_in ++ rest)) (suc (length above) - 1) None)) some
        ∙ ap (λ (n : ℕ). slice_index_or (map (λ l. Some (table_parts l)) (layers_in ++ rest)) n None) less ∙ at_end reads (Session layer) rest

    child_is_written : is_written files begun.number ≡ true
    child_is_written = child_written files

    pub front_inner : Front t0 now files ids pages relink leaf layers_in
    front_inner = record {
      have = subst (HaveFiles layers_in now) mid_is
          (have_all reads (Session layer) [] now (placed_from t0 1 above) begun [] (read_on t0 now 1 above reads beside of above_opened) serves tt);
      counts = subst (λ (ps : List Placed). length layers_in ≡ length ps) mid_is (length-append reads (Session layer ∷ []) ∙ ap (λ (n : ℕ). n + 1) count_is ∙ sym (length-append (placed_from t0 1 above) (begun ∷ [])));
      written = all_append (λ (l : FileLayer). is_written files (number_of l) ≡ (is_session l)) reads (Session layer ∷ []) (none_written (is_written files) 1 above reads unwritten_above of) ((ap (is_written files) number ∙ child_is_written), tt);
      synced = subst (AllByRecursion (WasSynced (is_written files) now)) mid_is
          (all_append (WasSynced (is_written files) now) (placed_from t0 1 above) (begun ∷ []) (synced_on (is_written files) t0 now 1 above beside above_opened)
          ((λ w. absurd (let never : true ≡ false = sym child_is_written ∙ w in true_false never)), tt));
      parts = layer.tables.parts;
      goes_by = goes_by_child;
      child = subst (λ (ps : List Placed). is_written files (child_of (top_in t0 files ids) ps).number ≡ true) mid_is (ap (λ (p : Placed). is_written files p.number) child_is ∙ child_is_written);
      relinks = subst (λ (ps : List Placed). Relinks layer.tables.parts.bat_len relink (child_of (top_in t0 files ids) ps) (target_in t0 files ids)) mid_is
          (subst (λ (p : Placed). Relinks layer.tables.parts.bat_len relink p (target_in t0 files ids)) (sym child_is) relinks);
      count = subst (λ (ps : List Placed). length ps ≡ suc (length above)) mid_is (length-append (placed_from t0 1 above) (begun ∷ []) ∙ next_suc (length (placed_from t0 1 above)) (length above) (placed_length t0 1 above));
      seen = λ b s. subst (λ (ps : List Placed). seen_in (between_found t0 (first ∷ above) child ++ b) s ≡ seen_in (ps ++ b) s) mid_is (
          ap (λ (c : List Placed). seen_in c s) (append_assoc (placed_from t0 1 above) (as_found t0 (length (first ∷ above)) child.parts ∷ []) b)
          ∙ seen_with (placed_from t0 1 above) (as_found t0 (length (first ∷ above)) child.parts) begun b s refl
          ∙ sym (ap (λ (c : List Placed). seen_in c s) (append_assoc (placed_from t0 1 above) (begun ∷ []) b)));
    }

-- ---- all of them

module _ (t0 now : Trace) (m : MergeFiles) (ids : MergeIds) (pages relink : List Page) (leaf target : Layer) (child : Option Layer) (source : ReadLayer) (are : AreFound t0 m)
    (e : AtEnd t0 m ids pages ids.child leaf target child now) (reads_source : IsRead source now (source_in t0 m ids pages)) (synced_source : is_synced (file_of now (source_place m)) ≡ true)
    (front reads : List FileLayer) (f : Front t0 now m ids pages relink leaf front) (of : AreReadOf (target_place m + 1) m.below reads) where
  abbrev above_in : List Placed
  above_in = between_in t0 m.above m.child ids.child

  abbrev opening : Disk
  opening = opening_disk t0 (chain_files m)

  abbrev z : ℕ
  z = (leaf_of m).parts.geometry.sector

  abbrev chain : List Placed
  chain = (top_in t0 m ids ∷ above_in) ++ source_in t0 m ids pages ∷ target_in t0 m ids ∷ rest_found t0 m

  serves_parts : (o : Option Layer) → AllByRecursion (λ (p : Pair). Serves p.layer now p.file) (child_pairs t0 m ids pages ids.child o ++ record { layer = target; file = target_in t0 m ids } ∷ record { layer = leaf; file = top_in t0 m ids } ∷ [])
      → Serves target now (target_in t0 m ids) × Serves leaf now (top_in t0 m ids)
  serves_parts None all = (all.0, all.1.0)
  serves_parts (Some l) all = (all.1.0, all.1.1.0)

  serves : Serves target now (target_in t0 m ids) × Serves leaf now (top_in t0 m ids)
  serves = serves_parts child e.serving

  beside_rest : Each (λ k. IsBeside k t0 now) (target_place m + 1) m.below
  beside_rest k from to =
      e.left k (
        from_third_second k (length m.above) from,
        (
          from_third_first k (length m.above) from,
          (
            from_third_last k (length m.above) from,
            (from_third_second k (length m.above) from, (from_third_second k (length m.above) from, (from_third_zero k (length m.above) from, tt))),
          ),
        ),
      )

  unwritten_rest : Each (λ k. is_written m k ≡ false) (target_place m + 1) m.below
  unwritten_rest k from to =
      unwritten m k (from_third_zero k (length m.above) from) (from_third_first k (length m.above) from) (from_third_last k (length m.above) from)

  unwritten_source : is_written m (source_place m) ≡ false
  unwritten_source =
      unwritten m (source_place m) (next_not_zero (length m.above)) (next_not_same (length m.above)) (same_not_next (length m.above + 1))

  number_of_target : target.tables.parts.file ≡ target_place m
  number_of_target = sym serves.0.number

  have_below : HaveFiles (front ++ Read source ∷ Session target ∷ reads) now (above_in ++ source_in t0 m ids pages ∷ target_in t0 m ids ∷ rest_found t0 m)
  have_below =
      have_all front (Read source) (Session target ∷ reads) now above_in (source_in t0 m ids pages) (target_in t0 m ids ∷ rest_found t0 m) f.have reads_source
      (serves.0, read_on t0 now (target_place m + 1) m.below reads beside_rest of (rest_opened t0 m are))

  written_below : AreWritten (is_written m) (front ++ Read source ∷ Session target ∷ reads)
  written_below =
      all_append (λ (l : FileLayer). is_written m (number_of l) ≡ is_session l) front (Read source ∷ Session target ∷ reads) f.written
      ((ap (is_written m) (sym reads_source.number) ∙ unwritten_source), ((ap (is_written m) number_of_target ∙ target_written m), none_written (is_written m) (target_place m + 1) m.below reads unwritten_rest of))

  synced_below : AllByRecursion (WasSynced (is_written m) now) (above_in ++ source_in t0 m ids pages ∷ target_in t0 m ids ∷ rest_found t0 m)
  synced_below =
      all_append (WasSynced (is_written m) now) above_in (source_in t0 m ids pages ∷ target_in t0 m ids ∷ rest_found t0 m) f.synced
      ((λ w. synced_source), ((λ w. absurd (let never : true ≡ false = sym (target_written m) ∙ w in true_false never)), synced_on (is_written m) t0 now (target_place m + 1) m.below beside_rest (rest_opened t0 m are)))

  whole_in : (s : ℕ) → s < (leaf_of m).parts.geometry.sectors → is_some (seen_in chain s) ≡ true
  whole_in s below =
      subst (λ (o : Option (List ℕ)). is_some (option_or ((top_in t0 m ids).member.layer s) o) ≡ true)
      (f.seen (source_found t0 m ∷ target_found t0 m ∷ rest_found t0 m) s
      ∙ seen_tail above_in (source_found t0 m ∷ target_found t0 m ∷ rest_found t0 m) (source_in t0 m ids pages ∷ target_in t0 m ids ∷ rest_found t0 m) s refl) (whole_found t0 m are s below)

  module _ (layers : Layers) (u : Underway) (geometry : layers.geometry ≡ (leaf_of m).parts.geometry) (leaf_is : layers.leaf ≡ Some leaf) (merge_is : layers.merge ≡ Some u) (none_now : layers.retiring ≡ None) (below_is : layers.below.items ≡ front ++ Read source ∷ Session target ∷ reads)
      (place : u.source ≡ length m.above) (pages_are : u.relink ≡ relink) (marks : (t : ℕ) → marks_of u.marks t ≡ false) where
    goes_by : child_parts layers.leaf layers.below.items u.source ≡ Some f.parts
    goes_by = ap (λ (o : Option Layer). child_parts o layers.below.items u.source) leaf_is ∙ ap (λ (b : List FileLayer). child_parts (Some leaf) b u.source) below_is
        ∙ ap (λ (n : ℕ). child_parts (Some leaf) (front ++ Read source ∷ Session target ∷ reads) n) place ∙ f.goes_by (Read source ∷ Session target ∷ reads)

    under : IsUnder z (is_written m) layers u (top_in t0 m ids) above_in (source_in t0 m ids pages) (target_in t0 m ids) (record { first = (source_in t0 m ids pages).member.layer; before = (target_in t0 m ids).member.layer; marks = λ t. false })
    under = record {
      place = place ∙ sym f.count;
      written = target_written m;
      child_written = f.child;
      parts = f.parts;
      goes_by = goes_by;
      relinks = subst (λ (ps : List Page). Relinks f.parts.bat_len ps (child_of (top_in t0 m ids) above_in) (target_in t0 m ids)) (sym pages_are) f.relinks;
      marks = marks;
      under_way = merge_begins z (source_in t0 m ids pages).member.layer (target_in t0 m ids).member.layer;
    }

    pub serves_merge : IsServing layers (started_merge t0 now m ids pages) now
    serves_merge = record {
      once = e.once;
      geometry = geometry;
      served = served_wider z opening [] (way_to (leaf_of m) (chain_files m) None) (Some m.source.name) [] chain now refl e.served;
      loose = loose_moves.begins (is_dirty z []) (top_in t0 m ids ∷ above_in) (source_in t0 m ids pages) (target_in t0 m ids) (rest_found t0 m) (tight (is_dirty z []) chain e.none);
      course = subst (λ o. IsCourse z (is_written m) layers o (top_in t0 m ids) (started_merge t0 now m ids pages).rest) (sym merge_is) under;
      leaving = subst (λ o. IsRetiring z (is_written m) [] layers o (top_in t0 m ids) (started_merge t0 now m ids pages).rest) (sym none_now) tt;
      drops = ap (λ n. Some n) (sym (source_opened t0 m are).name);
      held = subst (λ o. AreHeld o layers.below.items now (top_in t0 m ids) (above_in ++ source_in t0 m ids pages ∷ target_in t0 m ids ∷ rest_found t0 m)) (sym leaf_is)
          (serves.1, subst (λ (b : List FileLayer). HaveFiles b now (above_in ++ source_in t0 m ids pages ∷ target_in t0 m ids ∷ rest_found t0 m)) (sym below_is) have_below);
      whole = whole_in;
      synced = ((λ w. absurd (let never : true ≡ false = w in true_false never)), synced_below);
      written = subst (λ o. IfSome o (λ l. (is_written m 0 ≡ true) × AreWritten (is_written m) layers.below.items)) (sym leaf_is)
          (leaf_written m, subst (AreWritten (is_written m)) (sym below_is) written_below);
      still = λ other none. refl;
      past = EachMoment-weaken (EachOpens (way_to (leaf_of m) (chain_files m) None) (λ s. false) opening) (OpensToPrefix z opening [] (λ s. false) (way_to (leaf_of m) (chain_files m) (Some m.source.name))) t0 now
          (λ t opens. prefixes_stay.broken z opening [] (λ s. false) (way_to (leaf_of m) (chain_files m) (Some m.source.name)) t
          (λ image is. opens_wider (files_in image) (way_to (leaf_of m) (chain_files m) None) (Some m.source.name) (λ s. false) opening refl (opens image is))) e.moments;
    }
