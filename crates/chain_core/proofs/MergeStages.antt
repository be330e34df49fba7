-- The phases that prepare a merge, each behind those before it, where a store may tell its content or not.
use Rattle.std.proofs.Common.{◌≡◌, ◌≢◌, ℕ, ◌+◌, Bool, true, false, List, [], ◌∷◌, length, sym, ap, subst, ◌∙◌}
use Rattle.std.specs.Prelude.{None, Option}
use Rattle.std.specs.List.{AllByRecursion}
use Rattle.vhdx_format.specs.declared.log_entry.Page.{Page}
use Rattle.vx_base.specs.declared.parts.Parts.{Parts}
use Rattle.store_model.specs.Disk.{Disk, WhereBothTold, WhereTold}
use Rattle.store_model.specs.File.{is_synced, seen}
use Rattle.store_model.specs.Trace.{EachMoment, Trace, file_of}
use Rattle.guest_model.specs.Calls.{Disk as GuestDisk}
use Rattle.chain_model.specs.Moments.{EachOpens}
use Rattle.link_rules.specs.declared.linked.LinkedFile.{LinkedFile}
use Rattle.layer_session.specs.Begins.{BeginsOver, CanServe, HasBegun}
use Rattle.layer_session.specs.Calls.{IsBeside, KeepsOver}
use Rattle.layer_session.specs.Closes.{HasClosed}
use Rattle.layer_session.specs.ReadOnly.{IsRead}
use Rattle.layer_session.specs.Unnamed.{NamesNoLog}
use Rattle.layer_session.specs.Updating.{HasUpdated, Turns, TurnsInto, UpdatesOver, laid_region, own_len}
use Rattle.layer_session.specs.declared.file.Layer.{Layer}
use Rattle.layer_session.specs.declared.read_layer.ReadLayer.{ReadLayer}
use Rattle.meta_edit.specs.Pages.{ArePages}
use Rattle.merge_plan.specs.Merging.{GivesLocator, KeepsLinks, MergeFiles, source_place, twice_pairs}
use Rattle.merge_plan.specs.declared.drawing.LogIds.{LogIds}
use Rattle.merge_plan.specs.declared.drawing.MergeIds.{MergeIds}
use Rattle.chain_core.specs.MergeStarting.{LeavesAllBut, LeavesRest, chain_files, data_session, is_changed, leaf_of, log_session, source_begun, source_in, target_place, twice_ties}
use Rattle.chain_core.specs.Starting.{EachOpensAlike, opening_disk, way_to}
use Rattle.merge_plan.specs.Attached.{CanStart}
use Rattle.chain_core.proofs.Numbers.{next_not_same, next_not_zero}
use Rattle.chain_core.proofs.MergeFound.{AreFound, files_split, lower_files, source_opened}
use Rattle.chain_core.proofs.MergePhases.{AtChild, AtEnd, AtLeaf, AtLocator, AtSource, AtTarget, end_opens, end_reaches, end_serves, leaf_opens, leaf_reaches, locator_opens, locator_reaches, source_opens, source_reaches, target_opens, target_reaches}
use Rattle.chain_core.proofs.MergeTold.{are_found, told_from, told_last}
use Rattle.merge_plan.proofs.Opened.{lie_within}
use Rattle.chain_core.proofs.Phases.{Opened}
use Rattle.chain_core.proofs.Stages.{gives_turn, serve_beside}
use Rattle.store_model.proofs.Told.{both_and, both_from, both_join}
use Rattle.layer_session.proofs.Equal.{true_false}
use Rattle.chain_model.specs.Members.{Way}

-- ---- what was opened

-- each moment opened, and none but these files was changed
abbrev pub OpenedBy : MergeFiles → List ℕ → Trace → Trace → Type 0
OpenedBy m numbers t now = Opened (opening_disk t (chain_files m)) (way_to (leaf_of m) (chain_files m) None) numbers t now

pub moments_of : (m : MergeFiles) (numbers : List ℕ) (old new : Option Trace) → WhereBothTold (OpenedBy m numbers) old new → EachOpensAlike (chain_files m) old new
moments_of m numbers old new o =
    subst (λ (fs : List LinkedFile). EachOpensAlike fs old new) (sym (files_split m))
    (both_from (OpenedBy m numbers) (λ t now. EachMoment (EachOpens (way_to (leaf_of m) (leaf_of m ∷ lower_files m) None) (λ s. false) (opening_disk t (leaf_of m ∷ lower_files m))) t now)
    old new (λ a b x. subst (λ (fs : List LinkedFile). EachMoment (EachOpens (way_to (leaf_of m) fs None) (λ s. false) (opening_disk a fs)) a b) (files_split m) x.moments) o)

others_apart : (changes : ℕ → Bool) (k : ℕ) (numbers : List ℕ) → AllByRecursion (λ n. changes n ≡ true) numbers → changes k ≡ false → AllByRecursion (λ n. k ≢ n) numbers
others_apart changes k [] changed none = tt
others_apart changes k (n ∷ numbers) changed none = ((λ e. let never : true ≡ false = sym changed.0 ∙ ap changes (sym e) ∙ none in true_false never), others_apart changes k numbers changed.1 none)

pub all_but : (changes : ℕ → Bool) (opening : Trace → GuestDisk) (leaf : Way) (numbers : List ℕ) → AllByRecursion (λ n. changes n ≡ true) numbers → (old new : Option Trace) → WhereBothTold (λ t now. Opened (opening t) leaf numbers t now) old new
    → LeavesAllBut changes old new
all_but changes opening leaf numbers changed old new o =
    both_from (λ t now. Opened (opening t) leaf numbers t now) (λ t now. (other : ℕ) → changes other ≡ false → file_of now other ≡ file_of t other) old new (λ a b x other none. (x.left other (others_apart changes other numbers changed none)).same) o

pub still_of : (m : MergeFiles) (numbers : List ℕ) → AllByRecursion (λ n. is_changed m n ≡ true) numbers → (old new : Option Trace) → WhereBothTold (OpenedBy m numbers) old new → LeavesRest m old new
still_of m numbers changed old new o = all_but (is_changed m) (λ t. opening_disk t (chain_files m)) (way_to (leaf_of m) (chain_files m) None) numbers changed old new o

-- a file that was found lets its session begin still
pub serve_on : (told : Option Trace) (parts : Parts) (log : List ℕ) (n : ℕ) (R : Trace → Trace → Type 0) → ((a b : Trace) → R a b → IsBeside n a b) → (o : Option Trace) → WhereBothTold R told o → WhereTold told (CanServe parts log n)
    → WhereTold o (CanServe parts log n)
serve_on told parts log n R beside o r can =
    told_last (λ a b. CanServe parts log n b) (CanServe parts log n) (λ a b c. c) told o
    (told_from (CanServe parts log n) R (λ a b. CanServe parts log n b) (λ a b c x. serve_beside parts log n a b (beside a b x) c) told o can r)

-- ---- each phase behind those before it

module _ (m : MergeFiles) (ids : MergeIds) (twice : List Page) (d : Disk) (can : CanStart (chain_files m) d) (links : KeepsLinks m ids.target.data_write) where
  found : WhereTold d.told (λ t. AreFound t m)
  found = are_found m d can

  pub leaf_stage : (leaf : Layer) (o : Option Trace) → WhereBothTold (BeginsOver (leaf_of m).parts (data_session ids.leaf) 0) d.told o → WhereBothTold (HasBegun (leaf_of m).parts (data_session ids.leaf) 0 leaf) d.told o
      → WhereBothTold (λ t. AtLeaf t m ids twice leaf) d.told o
  leaf_stage leaf o over begun =
      told_from (λ t. AreFound t m) (λ a b. BeginsOver (leaf_of m).parts (data_session ids.leaf) 0 a b × HasBegun (leaf_of m).parts (data_session ids.leaf) 0 leaf a b) (λ t. AtLeaf t m ids twice leaf)
      (λ a b are x. leaf_reaches a m ids twice are b x.0 leaf x.1) d.told o found
      (both_and (BeginsOver (leaf_of m).parts (data_session ids.leaf) 0) (HasBegun (leaf_of m).parts (data_session ids.leaf) 0 leaf) d.told o over begun)

  pub leaf_told : (o : Option Trace) → WhereBothTold (BeginsOver (leaf_of m).parts (data_session ids.leaf) 0) d.told o → WhereBothTold (OpenedBy m (0 ∷ [])) d.told o
  leaf_told o over = told_from (λ t. AreFound t m) (BeginsOver (leaf_of m).parts (data_session ids.leaf) 0) (OpenedBy m (0 ∷ [])) (λ a b are x. leaf_opens a m ids twice are b x) d.told o found over

  module _ (leaf : Layer) (o : Option Trace) (at : WhereBothTold (λ t. AtLeaf t m ids twice leaf) d.told o) where
    pub source_serves : WhereTold d.told (CanServe m.source.parts ids.source.log (source_place m)) → WhereTold o (CanServe m.source.parts ids.source.log (source_place m))
    source_serves = serve_on d.told m.source.parts ids.source.log (source_place m) (λ t. AtLeaf t m ids twice leaf)
        (λ a b r. r.left (source_place m) (next_not_zero (length m.above), tt)) o at

    pub source_told : (p : Option Trace) → WhereBothTold (BeginsOver m.source.parts (log_session ids.source) (source_place m)) o p → WhereBothTold (OpenedBy m (source_place m ∷ 0 ∷ [])) d.told p
    source_told p over =
        both_join (λ t. AtLeaf t m ids twice leaf) (BeginsOver m.source.parts (log_session ids.source) (source_place m)) (OpenedBy m (source_place m ∷ 0 ∷ [])) d.told o p (λ a b c r x. source_opens a m ids twice leaf b c r x) at over

    pub source_stage : (source : Layer) (p : Option Trace) → WhereBothTold (BeginsOver m.source.parts (log_session ids.source) (source_place m)) o p → WhereBothTold (HasBegun m.source.parts (log_session ids.source) (source_place m) source) o p
        → WhereBothTold (λ t. AtSource t m ids twice leaf source) d.told p
    source_stage source p over begun =
        both_join (λ t. AtLeaf t m ids twice leaf) (λ a b. BeginsOver m.source.parts (log_session ids.source) (source_place m) a b × HasBegun m.source.parts (log_session ids.source) (source_place m) source a b) (λ t. AtSource t m ids twice leaf source)
        d.told o p (λ a b c r x. source_reaches a m ids twice leaf b c r x.0 source x.1) at
        (both_and (BeginsOver m.source.parts (log_session ids.source) (source_place m)) (HasBegun m.source.parts (log_session ids.source) (source_place m) source) o p over begun)

  -- the pages that link the source twice were built of it as it was found
  module _ (leaf source : Layer) (o : Option Trace) (at : WhereBothTold (λ t. AtSource t m ids twice leaf source) d.told o) (table : source.tables.parts.bat_len ≡ m.source.parts.bat_len) (pages : ArePages m.source.parts twice)
      (gives : WhereTold d.told (λ t. GivesLocator m.source.parts (seen (file_of t (source_place m))) (twice_pairs m ids.target.data_write) twice)) where
    abbrev Known : Trace → Type 0
    Known t = AreFound t m × GivesLocator m.source.parts (seen (file_of t (source_place m))) (twice_pairs m ids.target.data_write) twice

    known : WhereTold d.told Known
    known t told = (found t told, gives t told)

    into : (a b : Trace) → Known a → AtSource a m ids twice leaf source b
        → TurnsInto (own_len source) twice (source_begun a m ids) (twice_ties m ids (source_begun a m ids)) (laid_region (source_begun a m ids) twice (seen (file_of a (source_place m))))
    into a b k r =
        gives_turn source a b (source_place m) m.source.parts (log_session ids.source) (twice_pairs m ids.target.data_write) twice r.serving.0 table (lie_within a (source_place m) m.source (source_opened a m k.0)).metadata pages k.1

    pub source_turns : WhereTold o (Turns source twice)
    source_turns =
        told_last (λ a b. Turns source twice b) (Turns source twice) (λ a b x. x) d.told o
        (told_from Known (λ t. AtSource t m ids twice leaf source) (λ a b. Turns source twice b) (λ a b k r. record {
          file = source_begun a m ids;
          ties = twice_ties m ids (source_begun a m ids);
          region = laid_region (source_begun a m ids) twice (seen (file_of a (source_place m)));
          serves = r.serving.0;
          into = into a b k r;
        }) d.told o known at)

    pub locator_told : (p : Option Trace) → WhereBothTold (UpdatesOver source twice) o p → WhereBothTold (OpenedBy m (source_place m ∷ source_place m ∷ 0 ∷ [])) d.told p
    locator_told p over =
        both_join (λ a b. Known a × AtSource a m ids twice leaf source b) (UpdatesOver source twice) (OpenedBy m (source_place m ∷ source_place m ∷ 0 ∷ []))
        d.told o p (λ a b c r x. locator_opens a m ids twice r.0.0 links leaf source b c r.1 (into a b r.0 r.1) x)
        (told_from Known (λ t. AtSource t m ids twice leaf source) (λ a b. Known a × AtSource a m ids twice leaf source b) (λ a b k r. (k, r)) d.told o known at) over

    pub locator_stage : (next : Layer) (p : Option Trace) → WhereBothTold (UpdatesOver source twice) o p → WhereBothTold (HasUpdated source next twice) o p → WhereBothTold (λ t. AtLocator t m ids twice leaf next) d.told p
    locator_stage next p over updated =
        both_join (λ a b. Known a × AtSource a m ids twice leaf source b) (λ a b. UpdatesOver source twice a b × HasUpdated source next twice a b) (λ t. AtLocator t m ids twice leaf next)
        d.told o p (λ a b c r x. locator_reaches a m ids twice r.0.0 links leaf source b c r.1 (into a b r.0 r.1) x.0 next x.1)
        (told_from Known (λ t. AtSource t m ids twice leaf source) (λ a b. Known a × AtSource a m ids twice leaf source b) (λ a b k r. (k, r)) d.told o known at)
        (both_and (UpdatesOver source twice) (HasUpdated source next twice) o p over updated)

  module _ (leaf source : Layer) (o : Option Trace) (at : WhereBothTold (λ t. AtLocator t m ids twice leaf source) d.told o) where
    pub target_serves : WhereTold d.told (CanServe m.target.parts ids.target.log (target_place m)) → WhereTold o (CanServe m.target.parts ids.target.log (target_place m))
    target_serves = serve_on d.told m.target.parts ids.target.log (target_place m) (λ t. AtLocator t m ids twice leaf source)
        (λ a b r. r.left (target_place m)
        (next_not_same (length m.above + 1), (next_not_same (length m.above + 1), (next_not_zero (length m.above + 1), tt)))) o at

    both : WhereBothTold (λ a b. AreFound a m × AtLocator a m ids twice leaf source b) d.told o
    both = told_from (λ t. AreFound t m) (λ t. AtLocator t m ids twice leaf source) (λ a b. AreFound a m × AtLocator a m ids twice leaf source b) (λ a b k r. (k, r)) d.told o found at

    pub target_told : (p : Option Trace) → WhereBothTold (BeginsOver m.target.parts (data_session ids.target) (target_place m)) o p → WhereBothTold (OpenedBy m (target_place m ∷ source_place m ∷ source_place m ∷ 0 ∷ [])) d.told p
    target_told p over =
        both_join (λ a b. AreFound a m × AtLocator a m ids twice leaf source b) (BeginsOver m.target.parts (data_session ids.target) (target_place m)) (OpenedBy m (target_place m ∷ source_place m ∷ source_place m ∷ 0 ∷ []))
        d.told o p (λ a b c r x. target_opens a m ids twice r.0 links leaf source b c r.1 x) both over

    pub target_stage : (target : Layer) (p : Option Trace) → WhereBothTold (BeginsOver m.target.parts (data_session ids.target) (target_place m)) o p
        → WhereBothTold (HasBegun m.target.parts (data_session ids.target) (target_place m) target) o p → WhereBothTold (λ t. AtTarget t m ids twice leaf source target) d.told p
    target_stage target p over begun =
        both_join (λ a b. AreFound a m × AtLocator a m ids twice leaf source b) (λ a b. BeginsOver m.target.parts (data_session ids.target) (target_place m) a b × HasBegun m.target.parts (data_session ids.target) (target_place m) target a b)
        (λ t. AtTarget t m ids twice leaf source target) d.told o p (λ a b c r x. target_reaches a m ids twice r.0 links leaf source b c r.1 x.0 target x.1) both
        (both_and (BeginsOver m.target.parts (data_session ids.target) (target_place m)) (HasBegun m.target.parts (data_session ids.target) (target_place m) target) o p over begun)

  -- the source's session ends
  module _ (inner : Option LogIds) (leaf source target : Layer) (child : Option Layer) (o p : Option Trace) (at : WhereBothTold (λ t. AtChild t m ids twice inner leaf source target child) d.told o) (keeps : WhereBothTold (KeepsOver source) o p) where
    pub end_told : WhereBothTold (OpenedBy m (source_place m ∷ length m.above ∷ target_place m ∷ source_place m ∷ source_place m ∷ 0 ∷ [])) d.told p
    end_told =
        both_join (λ t. AtChild t m ids twice inner leaf source target child) (KeepsOver source) (OpenedBy m (source_place m ∷ length m.above ∷ target_place m ∷ source_place m ∷ source_place m ∷ 0 ∷ []))
        d.told o p (λ a b c r x. end_opens a m ids twice inner leaf source target child b c r x) at keeps

    pub end_stage : (l : ReadLayer) → WhereBothTold (HasClosed source l) o p
        → WhereBothTold (λ t now. AtEnd t m ids twice inner leaf target child now × (IsRead l now (source_in t m ids twice) × (is_synced (file_of now (source_place m)) ≡ true) × NamesNoLog (seen (file_of now (source_place m))))) d.told p
    end_stage l closed =
        both_join (λ t. AtChild t m ids twice inner leaf source target child) (λ a b. KeepsOver source a b × HasClosed source l a b)
        (λ t now. AtEnd t m ids twice inner leaf target child now × (IsRead l now (source_in t m ids twice) × (is_synced (file_of now (source_place m)) ≡ true) × NamesNoLog (seen (file_of now (source_place m)))))
        d.told o p (λ a b c r x.
        let serves = end_serves a m ids twice inner leaf source target child b c r x.0 in
        (end_reaches a m ids twice inner leaf source target child b c r x.0 (x.1.kept (source_in a m ids twice) serves).shows, (x.1.reads (source_in a m ids twice) serves, x.1.synced (source_in a m ids twice) serves, x.1.no_log (source_in a m ids twice) serves))) at
        (both_and (KeepsOver source) (HasClosed source l) o p keeps closed)
