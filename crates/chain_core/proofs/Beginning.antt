-- Where a session begins.
use Rattle.std.proofs.lemmas.List.{length-take, take_more}
use Rattle.std.proofs.lemmas.Grind.{common_steps}
use Rattle.std.proofs.Common.{drop, inl, take, ◌-◌, ◌≡◌, ◌≢◌, ℕ, suc, ◌+◌, ◌<◌, ◌≤◌, Bool, true, false, List, [], ◌∷◌, ◌++◌, length, map, get_or, All, refl, sym, ap, subst, ◌∙◌, arith, is_some, ne_eqb, ◌==◌}
use Rattle.std.specs.Prelude.{Option, Some, None, option_map, ◌⊎◌, IfSome, Result, Ok, Err, IfOk, OnOk}
use Rattle.std.specs.List.{AllByRecursion}
use Rattle.std.specs.Option.{option_or}
use Rattle.layer_session.proofs.FileLayers.{phase_others}
use Rattle.vx_base.specs.declared.parts.Geometry.{Geometry}
use Rattle.vx_base.specs.declared.parts.Parts.{Parts}
use Rattle.vhdx_format.specs.FileParts.{HasNumbers, shape_of}
use Rattle.vhdx_format.specs.Layers.{HasSizes}
use Rattle.store_model.specs.Disk.{Disk, WhereBothTold}
use Rattle.store_model.specs.File.{seen}
use Rattle.store_model.specs.Trace.{EachMoment, Trace, file_of}
use Rattle.store_model.proofs.Spans.{EachMoment-now, EachMoment-weaken}
use Rattle.guest_model.specs.Calls.{Disk as GuestDisk}
use Rattle.guest_model.specs.History.{either, is_dirty}
use Rattle.log_write.specs.declared.ids.SessionIds.{SessionIds}
use Rattle.chain_model.specs.Files.{at_rest, layer_in}
use Rattle.chain_model.specs.Images.{NoneLoose, Placed, members_of}
use Rattle.chain_model.specs.Members.{IsChain, IsChainOf, Member, NoneTwice, names_of}
use Rattle.chain_model.specs.Moments.{EachOpens, OpensToPrefix}
use Rattle.chain_model.specs.PhaseLaws.{Survives}
use Rattle.chain_model.specs.Sessions.{IsKept, IsServed as IsServedChain, LooseAtTop, ShowsFile}
use Rattle.chain_model.proofs.Owning.{base_owns_all}
use Rattle.chain_model.proofs.Phasing.{file_goes_over}
use Rattle.chain_model.proofs.Linking.{files_may_change}
use Rattle.chain_model.proofs.Serving.{chains_begin, prefixes_stay, served_chains_open}
use Rattle.link_rules.specs.Chains.{most_files}
use Rattle.link_rules.specs.Chains as links
use Rattle.link_rules.specs.Effects.{IsServed}
use Rattle.link_rules.specs.Lines.{IsLine}
use Rattle.link_rules.specs.declared.linked.LinkedFile.{LinkedFile}
use Rattle.layer_session.specs.declared.file.Layer.{Layer}
use Rattle.layer_session.specs.declared.read_layer.ReadLayer.{ReadLayer}
use Rattle.layer_session.specs.Begins.{BeginsOver, HasBegun, IsOf, as_found, in_session}
use Rattle.layer_session.specs.Keeping.{IsReady, Serves}
use Rattle.layer_session.specs.ReadOnly.{IsRead}
use Rattle.layer_session.specs.FileLayers.{AreOthers, AreReadyFiles, HaveFiles, file_numbers, log_number}
use Rattle.layer_session.specs.ReadOnly.{IsReadOf}
use Rattle.layer_session.specs.declared.file_layer.FileLayer.{FileLayer}
use Rattle.layer_session.specs.declared.file_layer.FileLayer.TheVariants.{Read, Session}
use Rattle.layer_session.proofs.Crashes.{layers_are_kept}
use Rattle.chain_core.specs.declared.layers.Layers.{Layers}
use Rattle.merge_plan.specs.Attached.{AreAsOpened, AreAttached, CanStart}
use Rattle.chain_core.specs.Starting.{AreReadOf, EachOpensAlike, IsOfDisk, JudgesIds, LeavesOthersFrom, StartsWith, under, opening_disk, placed_from, started, way_to}
use Rattle.chain_core.specs.Starting.{HasBegun as HasBegunSession, IsRead as IsReadOnly}
use Rattle.merge_plan.specs.declared.drawing.NewIds.{NewIds}
use Rattle.chain_core.specs.declared.starting.StartRefusal.{StartRefusal}
use Rattle.chain_core.specs.Sessions.{AreApart, AreReady, AtMostOne, CanRelink, CanRetire, HasNoMerge, IsLow, IsMergeOf, IsReadyLeaf, IsRetiringOf, leaf_number}
use Rattle.chain_core.specs.States.{AreHeld, AreWritten, IsCourse, IsRetiring, IsServing, WasSynced, plain, seen_in}
use Rattle.chain_core.proofs.Steps.{still_once, still_read}
use Rattle.layer_session.proofs.Equal.{false_true, none_some, some_same, true_false}

-- ---- lists

pub by_recursion : {A : Type 0} (P : A → Type 0) (xs : List A) → All P xs → AllByRecursion P xs
by_recursion P [] h = tt
by_recursion P (x ∷ xs) h = (h 0 x (omega arith), by_recursion P xs (λ k d l. h (suc k) d (omega arith)))

-- ---- files as a chain sees them

placed_names : (t : Trace) (n : ℕ) (files : List LinkedFile) → AreAsOpened t n files → names_of (members_of (placed_from t n files)) ≡ links.names_of files
placed_names t n [] o = refl
placed_names t n (f ∷ files) o = ap (λ name. name ∷ names_of (members_of (placed_from t (n + 1) files))) o.0.name ∙ ap (λ names. f.name ∷ names) (placed_names t (n + 1) files o.1)

placed_count : (t : Trace) (n : ℕ) (files : List LinkedFile) → length (members_of (placed_from t n files)) ≡ length files
placed_count t n [] = refl
placed_count t n (f ∷ files) = ap suc (placed_count t (n + 1) files)

all_kept : (t : Trace) (n : ℕ) (files : List LinkedFile) → AreAsOpened t n files → AllByRecursion (IsKept t) (placed_from t n files)
all_kept t n [] o = tt
all_kept t n (f ∷ files) o = (chains_begin.kept t n (seen (file_of t n)) f.parts o.0.within o.0.synced o.0.reads (omega arith), all_kept t (n + 1) files o.1)

is_chain : (t : Trace) (n : ℕ) (files : List LinkedFile) → IsLine files → AreAsOpened t n files → IsChain (members_of (placed_from t n files))
is_chain t n [] line o = absurd line
is_chain t n (f ∷ []) line o = line
is_chain t n (f ∷ parent ∷ files) line o =
    let names = line.0.names in (
      record {
        has = names.has;
        item = names.item;
        locator = names.locator;
        pairs = line.0.pairs;
        read = names.read;
        named = names.named ∙ ap Some (sym o.1.0.name);
        linked = line.0.linked;
        geometry = line.0.geometry;
      },
      is_chain t (n + 1) (parent ∷ files) line.1 o.1,
    )

-- under the header of its session the first is linked as it was
chain_in : (t : Trace) (ids : SessionIds) (parts : Parts) (others : List Member) → IsChain ((as_found t 0 parts).member ∷ others) → IsChain ((as_found t 0 (in_session parts ids)).member ∷ others)
chain_in t ids parts [] h = h
chain_in t ids parts (x ∷ others) h =
    (record { has = h.0.has; item = h.0.item; locator = h.0.locator; pairs = h.0.pairs; read = h.0.read; named = h.0.named; linked = h.0.linked; geometry = h.0.geometry }, h.1)

pub none_loose_in : (t : Trace) (n : ℕ) (files : List LinkedFile) (s : ℕ) → NoneLoose s (placed_from t n files)
none_loose_in t n [] s = tt
none_loose_in t n (f ∷ files) s = (refl, none_loose_in t (n + 1) files s)

-- ---- each sector is in one of them

some_first : (o rest : Option (List ℕ)) → is_some o ≡ true → is_some (option_or o rest) ≡ true
some_first None rest h = absurd (false_true h)
some_first (Some x) rest h = refl

some_rest : (o rest : Option (List ℕ)) → is_some rest ≡ true → is_some (option_or o rest) ≡ true
some_rest None rest h = h
some_rest (Some x) rest h = refl

sizes_of : (parts : Parts) → HasNumbers parts → HasSizes (shape_of parts)
sizes_of parts h = record { sector = h.sector; block = h.block }

pub owned : (t : Trace) (n : ℕ) (files : List LinkedFile) (g : Geometry) → IsLine files → AreAsOpened t n files → AllByRecursion IsServed files → AllByRecursion (λ (f : LinkedFile). f.parts.geometry ≡ g) files
    → (s : ℕ) → s < g.sectors → is_some (seen_in (placed_from t n files) s) ≡ true
owned t n [] g line o served same s below = absurd line
owned t n (f ∷ []) g line o served same s below =
    some_first (layer_in (seen (file_of t n)) f.parts s) None
    (base_owns_all (at_rest (seen (file_of t n))) (seen (file_of t n)) f.parts s o.0.reads (sizes_of f.parts served.0.numbers) line (subst (λ (k : Geometry). s < k.sectors) (sym same.0) below))
owned t n (f ∷ parent ∷ files) g line o served same s below =
    some_rest (layer_in (seen (file_of t n)) f.parts s) (seen_in (placed_from t (n + 1) (parent ∷ files)) s) (owned t (n + 1) (parent ∷ files) g line.1 o.1 served.1 same.1 s below)

-- the files of a line have one geometry
pub one_geometry : (f : LinkedFile) (files : List LinkedFile) (g : Geometry) → f.parts.geometry ≡ g → IsLine (f ∷ files) → AllByRecursion (λ (f : LinkedFile). f.parts.geometry ≡ g) (f ∷ files)
one_geometry f [] g same line = (same, tt)
one_geometry f (parent ∷ files) g same line = (same, one_geometry parent files g (line.0.geometry ∙ same) line.1)

pub all_synced : (writes : ℕ → Bool) (t : Trace) (n : ℕ) (files : List LinkedFile) → AreAsOpened t n files → AllByRecursion (WasSynced writes t) (placed_from t n files)
all_synced writes t n [] o = tt
all_synced writes t n (f ∷ files) o = ((λ none. o.0.synced), all_synced writes t (n + 1) files o.1)

-- ---- layers that are only read

pub all_read : (t : Trace) (n : ℕ) (files : List LinkedFile) (layers : List FileLayer) → AreReadOf n files layers → AreAsOpened t n files → HaveFiles layers t (placed_from t n files)
all_read t n [] [] of o = tt
all_read t n [] (l ∷ layers) of o = absurd of
all_read t n (f ∷ files) [] of o = absurd of
all_read t n (f ∷ files) (Session l ∷ layers) of o = absurd of.0
all_read t n (f ∷ files) (Read l ∷ layers) of o = (of.0.reads t o.0.within o.0.most o.0.reads, all_read t (n + 1) files layers of.1 o.1)

pub placed_apart : (t : Trace) (n : ℕ) (files : List LinkedFile) → 0 < n → AllByRecursion (λ f. f.number ≢ 0) (placed_from t n files)
placed_apart t n [] some = tt
placed_apart t n (f ∷ files) some = ((λ e. let never : n ≡ 0 = e in absurd (omega arith)), placed_apart t (n + 1) files (omega arith))

pub layers_apart : (n : ℕ) (files : List LinkedFile) (layers : List FileLayer) → 0 < n → AreReadOf n files layers → AreOthers 0 layers
layers_apart n [] [] some of = tt
layers_apart n [] (l ∷ layers) some of = absurd of
layers_apart n (f ∷ files) [] some of = absurd of
layers_apart n (f ∷ files) (Session l ∷ layers) some of = absurd of.0
layers_apart n (f ∷ files) (Read l ∷ layers) some of =
    ((λ e. let same : l.tables.parts.file ≡ n = of.0.number in let never : l.tables.parts.file ≡ 0 = e in absurd (omega arith)), layers_apart (n + 1) files layers (omega arith) of.1)

none_written : (n : ℕ) (files : List LinkedFile) (layers : List FileLayer) → 0 < n → AreReadOf n files layers → AreWritten (λ k. k == 0) layers
none_written n [] [] some of = tt
none_written n [] (l ∷ layers) some of = absurd of
none_written n (f ∷ files) [] some of = absurd of
none_written n (f ∷ files) (Session l ∷ layers) some of = absurd of.0
none_written n (f ∷ files) (Read l ∷ layers) some of =
    (ne_eqb l.tables.parts.file 0 (λ e. let same : l.tables.parts.file ≡ n = of.0.number in let never : l.tables.parts.file ≡ 0 = e in absurd (omega arith)), none_written (n + 1) files layers (omega arith) of.1)

-- no two of them are one file
far_apart : (m n : ℕ) (files : List LinkedFile) (layers : List FileLayer) → m < n → AreReadOf n files layers → AllByRecursion (λ other. other ≢ m) (file_numbers layers)
far_apart m n [] [] less of = tt
far_apart m n [] (l ∷ layers) less of = absurd of
far_apart m n (f ∷ files) [] less of = absurd of
far_apart m n (f ∷ files) (Session l ∷ layers) less of = absurd of.0
far_apart m n (f ∷ files) (Read l ∷ layers) less of =
    ((λ e. let same : l.tables.parts.file ≡ n = of.0.number in let never : l.tables.parts.file ≡ m = e in absurd (omega arith)), far_apart m (n + 1) files layers (omega arith) of.1)

all_apart : (n : ℕ) (files : List LinkedFile) (layers : List FileLayer) → AreReadOf n files layers → AreApart (file_numbers layers)
all_apart n [] [] of = tt
all_apart n [] (l ∷ layers) of = absurd of
all_apart n (f ∷ files) [] of = absurd of
all_apart n (f ∷ files) (Session l ∷ layers) of = absurd of.0
all_apart n (f ∷ files) (Read l ∷ layers) of =
    let same : n ≡ l.tables.parts.file = sym of.0.number in
    (subst (λ m. AllByRecursion (λ other. other ≢ m) (file_numbers layers)) same (far_apart n (n + 1) files layers (omega arith) of.1), all_apart (n + 1) files layers of.1)

-- none of them has a log
pub none_logged : (n most : ℕ) (files : List LinkedFile) (layers : List FileLayer) → AreReadOf n files layers → AllByRecursion (λ number. IfSome number (λ n. n ≤ most)) (map log_number layers)
none_logged n most [] [] of = tt
none_logged n most [] (l ∷ layers) of = absurd of
none_logged n most (f ∷ files) [] of = absurd of
none_logged n most (f ∷ files) (Session l ∷ layers) of = absurd of.0
none_logged n most (f ∷ files) (Read l ∷ layers) of = (tt, none_logged (n + 1) most files layers of.1)

read_first : (l : ReadLayer) (layers : List FileLayer) (t : Trace) (files : List Placed) → HaveFiles (Read l ∷ layers) t files → (file : Placed) × IsRead l t file
read_first l layers t [] r = absurd r
read_first l layers t (p ∷ files) r = (p, r.0)

read_others : (l : ReadLayer) (layers : List FileLayer) (t : Trace) (files : List Placed) → HaveFiles (Read l ∷ layers) t files → (rest : List Placed) × HaveFiles layers t rest
read_others l layers t [] r = absurd r
read_others l layers t (p ∷ files) r = (files, r.1)

pub all_readable : (g : Geometry) (disk : Disk) (n : ℕ) (files : List LinkedFile) (layers : List FileLayer) → AreReadOf n files layers → n + length files ≤ disk.files → AllByRecursion (λ (f : LinkedFile). f.parts.geometry ≡ g) files
    → ((t : Trace) → disk.told ≡ Some t → (placed : List Placed) × HaveFiles layers t placed) → AreReadyFiles g disk layers
all_readable g disk n [] [] of there same read = tt
all_readable g disk n [] (l ∷ layers) of there same read = absurd of
all_readable g disk n (f ∷ files) [] of there same read = absurd of
all_readable g disk n (f ∷ files) (Session l ∷ layers) of there same read = absurd of.0
all_readable g disk n (f ∷ files) (Read l ∷ layers) of there same read = (
  record {
    ready = record {
      there = let is : l.tables.parts.file ≡ n = of.0.number in omega arith;
      sizes = of.0.sizes;
      told = λ t e. read_first l layers t (read t e).0 (read t e).1;
    };
    sector = of.0.sector ∙ ap (λ (k : Geometry). k.sector) same.0;
    sectors = of.0.sectors ∙ ap (λ (k : Geometry). k.sectors) same.0;
  },
  all_readable g disk (n + 1) files layers of.1 (omega arith) same.1 (λ t e. read_others l layers t (read t e).0 (read t e).1),
)

-- ---- the session

-- what is asked of files that are started, where the store tells its content
module _ (trace : Trace) (leaf : LinkedFile) (others : List LinkedFile) (attached : AreAttached (leaf ∷ others) trace) (line : IsLine (leaf ∷ others)) (names : NoneTwice (links.names_of (leaf ∷ others)))
    (few : length (leaf ∷ others) ≤ most_files) (numbered : AllByRecursion IsServed (leaf ∷ others)) where
  abbrev chain : List Placed
  chain = placed_from trace 0 (leaf ∷ others)

  abbrev rest : List Placed
  rest = placed_from trace 1 others

  abbrev top : Placed
  top = as_found trace 0 leaf.parts

  abbrev opening : GuestDisk
  opening = opening_disk trace (leaf ∷ others)

  abbrev z : ℕ
  z = leaf.parts.geometry.sector

  -- nothing was called yet
  abbrev clean : ℕ → Bool
  clean = either (is_dirty z []) (λ s. false)

  pub linked : IsChainOf leaf.name [] (members_of chain)
  linked = record {
    named = attached.each.0.name;
    leads = attached.in_use;
    linked = is_chain trace 0 (leaf ∷ others) line attached.each;
    once = subst NoneTwice (sym (placed_names trace 0 (leaf ∷ others) attached.each)) names;
    few = let count : length (members_of chain) ≡ length (leaf ∷ others) = placed_count trace 0 (leaf ∷ others) in omega arith;
  }

  pub served : IsServedChain z opening [] (way_to leaf (leaf ∷ others) None) [] chain trace
  served = chains_begin.served z (way_to leaf (leaf ∷ others) None) [] chain trace linked (inl (placed_names trace 0 (leaf ∷ others) attached.each)) (all_kept trace 0 (leaf ∷ others) attached.each)

  pub whole : (s : ℕ) → s < leaf.parts.geometry.sectors → is_some (seen_in chain s) ≡ true
  whole = owned trace 0 (leaf ∷ others) leaf.parts.geometry line attached.each numbered (one_geometry leaf others leaf.parts.geometry refl line)

  tight : (among : ℕ → Bool) → LooseAtTop among chain
  tight among = ((λ s out. refl), none_loose_in trace 1 others)

  -- images of a store as it was attached
  rests : EachOpens (way_to leaf (leaf ∷ others) None) clean opening trace
  rests = served_chains_open.settled z opening [] (way_to leaf (leaf ∷ others) None) clean [] chain trace attached.once served (tight clean)

  pub opens_at_rest : EachMoment (EachOpens (way_to leaf (leaf ∷ others) None) (λ s. false) opening) trace trace
  opens_at_rest = EachMoment-now (EachOpens (way_to leaf (leaf ∷ others) None) (λ s. false) opening) trace rests

  -- a chain that is only read
  pub reads_from : (layers : Layers) → layers.geometry ≡ leaf.parts.geometry → layers.leaf ≡ None → HasNoMerge layers → HaveFiles layers.below.items trace chain → IsServing layers (started trace leaf others leaf.parts) trace
  reads_from layers geometry none no_merge read = record {
    once = attached.once;
    geometry = geometry;
    served = served;
    loose = tight (is_dirty z []);
    course = subst (λ o. IsCourse z (λ n. n == 0) layers o top (plain rest)) (sym no_merge.0) tt;
    leaving = subst (λ o. IsRetiring z (λ n. n == 0) [] layers o top (plain rest)) (sym no_merge.1) tt;
    drops = tt;
    held = subst (λ o. AreHeld o layers.below.items trace top rest) (sym none) ((λ s. refl), read);
    whole = whole;
    synced = all_synced (λ n. n == 0) trace 0 (leaf ∷ others) attached.each;
    written = subst (λ o. IfSome o (λ l. ((0 == 0) ≡ true) × AreWritten (λ n. n == 0) layers.below.items)) (sym none) tt;
    still = λ other none. refl;
    past = EachMoment-now (OpensToPrefix z opening [] (λ s. false) (way_to leaf (leaf ∷ others) None)) trace (prefixes_stay.broken z opening [] (λ s. false) (way_to leaf (leaf ∷ others) None) trace rests);
  }

  -- the leaf's session begins
  module _ (ids : SessionIds) (now : Trace) (over : BeginsOver leaf.parts ids 0 trace now) where
    abbrev next : Placed
    next = as_found trace 0 (in_session leaf.parts ids)

    linked_in : IsChainOf leaf.name [] (members_of (next ∷ rest))
    linked_in = files_may_change.leaf leaf.name [] top.member next.member (members_of rest) (members_of rest) linked refl refl refl (chain_in trace ids leaf.parts (members_of rest) linked.linked)

    goes : Survives z opening [] (way_to leaf (leaf ∷ others) None) clean next [] (next ∷ rest) trace now
    goes = file_goes_over z opening [] (way_to leaf (leaf ∷ others) None) clean [] [] top next rest trace now attached.once served over (λ s. refl) refl linked_in (tight clean) ((λ s out. refl), none_loose_in trace 1 others)

    pub opens_on : EachMoment (EachOpens (way_to leaf (leaf ∷ others) None) (λ s. false) opening) trace now
    opens_on = goes.moments

    abbrev Goes : List ℕ → Type 0
    Goes bytes = ShowsFile top bytes ⊎ ShowsFile next bytes

    pub rest_read : (below : List FileLayer) → AreReadOf 1 others below → HaveFiles below now rest
    rest_read below of = still_read 0 Goes trace now over.phase below rest (placed_apart trace 1 others (omega arith)) (all_read trace 1 others below of attached.each.1)

    pub serves_from : (layers : Layers) (l : Layer) → layers.geometry ≡ leaf.parts.geometry → layers.leaf ≡ Some l → HasNoMerge layers → AreReadOf 1 others layers.below.items → HaveFiles layers.below.items now rest → Serves l now next
        → IsServing layers (started trace leaf others (in_session leaf.parts ids)) now
    serves_from layers l geometry is no_merge of read serves = record {
      once = still_once 0 Goes trace now over.phase attached.once;
      geometry = geometry;
      served = goes.served (layers_are_kept l now next serves).shows;
      loose = ((λ s out. refl), none_loose_in trace 1 others);
      course = subst (λ o. IsCourse z (λ n. n == 0) layers o next (plain rest)) (sym no_merge.0) tt;
      leaving = subst (λ o. IsRetiring z (λ n. n == 0) [] layers o next (plain rest)) (sym no_merge.1) tt;
      drops = tt;
      held = subst (λ o. AreHeld o layers.below.items now next rest) (sym is) (serves, read);
      whole = whole;
      synced = all_synced (λ n. n == 0) trace 0 (leaf ∷ others) attached.each;
      written = subst (λ o. IfSome o (λ l. ((0 == 0) ≡ true) × AreWritten (λ n. n == 0) layers.below.items)) (sym is) (refl, none_written 1 others layers.below.items (omega arith) of);
      still = λ other none. phase_others 0 Goes trace now over.phase other (λ same. let never : true ≡ false = ap (λ n. n == 0) (sym same) ∙ none in true_false never);
      past = EachMoment-weaken (EachOpens (way_to leaf (leaf ∷ others) None) clean opening) (OpensToPrefix z opening [] (λ s. false) (way_to leaf (leaf ∷ others) None)) trace now (λ t opens. prefixes_stay.broken z opening [] (λ s. false) (way_to leaf (leaf ∷ others) None) t opens) goes.moments;
    }

-- ---- the other files

pub none_changed : (old new : Option Trace) → new ≡ old → LeavesOthersFrom old new
none_changed old new e = subst (LeavesOthersFrom old) (sym e) (itself old)
  where
    itself : (o : Option Trace) → LeavesOthersFrom o o
    itself None = tt
    itself (Some t) = λ other ne. refl

pub others_stay : (parts : Parts) (ids : SessionIds) (old new : Option Trace) → WhereBothTold (BeginsOver parts ids 0) old new → LeavesOthersFrom old new
others_stay parts ids None None over = tt
others_stay parts ids None (Some y) over = over
others_stay parts ids (Some x) None over = over
others_stay parts ids (Some x) (Some y) over = phase_others 0 (λ bytes. ShowsFile (as_found x 0 parts) bytes ⊎ ShowsFile (as_found x 0 (in_session parts ids)) bytes) x y over.phase

-- ---- where the store tells its content

pub rest_moments : (leaf : LinkedFile) (others : List LinkedFile) (disk : Disk) → CanStart (leaf ∷ others) disk → EachOpensAlike (leaf ∷ others) disk.told disk.told
rest_moments leaf others disk can = by_told disk.told can.told
  where
    by_told : (a : Option Trace) → ((t : Trace) → a ≡ Some t → AreAttached (leaf ∷ others) t) → EachOpensAlike (leaf ∷ others) a a
    by_told None attached = tt
    by_told (Some t) attached = opens_at_rest t leaf others (attached t refl) can.line can.once can.few (by_recursion IsServed (leaf ∷ others) can.served)

pub begun_moments : (leaf : LinkedFile) (others : List LinkedFile) (ids : SessionIds) (before after : Disk) → CanStart (leaf ∷ others) before → WhereBothTold (BeginsOver leaf.parts ids 0) before.told after.told
    → EachOpensAlike (leaf ∷ others) before.told after.told
begun_moments leaf others ids before after can over = by_told before.told after.told can.told over
  where
    by_told : (a b : Option Trace) → ((t : Trace) → a ≡ Some t → AreAttached (leaf ∷ others) t) → WhereBothTold (BeginsOver leaf.parts ids 0) a b → EachOpensAlike (leaf ∷ others) a b
    by_told None None attached over = tt
    by_told None (Some y) attached over = over
    by_told (Some x) None attached over = over
    by_told (Some x) (Some y) attached over = opens_on x leaf others (attached x refl) can.line can.once can.few (by_recursion IsServed (leaf ∷ others) can.served) ids y over

pub begun_serving : (leaf : LinkedFile) (others : List LinkedFile) (ids : SessionIds) (layers : Layers) (l : Layer) (before after : Disk) → CanStart (leaf ∷ others) before → layers.geometry ≡ leaf.parts.geometry → layers.leaf ≡ Some l → HasNoMerge layers
    → AreReadOf 1 others layers.below.items → WhereBothTold (BeginsOver leaf.parts ids 0) before.told after.told → WhereBothTold (HasBegun leaf.parts ids 0 l) before.told after.told
    → StartsWith (λ parts. in_session parts ids) (leaf ∷ others) layers before.told after.told
begun_serving leaf others ids layers l before after can geometry is no_merge of over begun = by_told before.told after.told can.told over begun
  where
    by_told : (a b : Option Trace) → ((t : Trace) → a ≡ Some t → AreAttached (leaf ∷ others) t) → WhereBothTold (BeginsOver leaf.parts ids 0) a b → WhereBothTold (HasBegun leaf.parts ids 0 l) a b
        → StartsWith (λ parts. in_session parts ids) (leaf ∷ others) layers a b
    by_told None None attached over begun = tt
    by_told None (Some y) attached over begun = over
    by_told (Some x) None attached over begun = over
    by_told (Some x) (Some y) attached over begun =
        let numbered = by_recursion IsServed (leaf ∷ others) can.served in
        serves_from x leaf others (attached x refl) can.line can.once can.few numbered ids y over layers l geometry is no_merge of
        (rest_read x leaf others (attached x refl) can.line can.once can.few numbered ids y over layers.below.items of) begun

pub begun_ready : (leaf : LinkedFile) (others : List LinkedFile) (ids : SessionIds) (layers : Layers) (l : Layer) (before after : Disk) → CanStart (leaf ∷ others) before → layers.geometry ≡ leaf.parts.geometry → layers.leaf ≡ Some l → HasNoMerge layers
    → AreReadOf 1 others layers.below.items → WhereBothTold (BeginsOver leaf.parts ids 0) before.told after.told → IsReady l after → IsOf leaf.parts 0 l → after ≡ record before { told = after.told } → AreReady layers after
begun_ready leaf others ids layers l before after can geometry is no_merge of over ready parts counts =
    let numbered = by_recursion IsServed (leaf ∷ others) can.served in
    let files : after.files ≡ before.files = ap (λ (d : Disk). d.files) counts in
    let there : 1 + length others ≤ after.files = let t : length (leaf ∷ others) ≤ before.files = can.there in omega arith in
    let made : IsReadyLeaf layers.geometry layers.below.items after l = record {
      ready = ready;
      sector = parts.sector ∙ ap (λ (g : Geometry). g.sector) (sym geometry);
      sectors = parts.sectors ∙ ap (λ (g : Geometry). g.sectors) (sym geometry);
      apart = subst (λ (n : ℕ). AreOthers n layers.below.items) (sym parts.number) (layers_apart 1 others layers.below.items (omega arith) of);
    } in
    record {
      sector = ap (λ (g : Geometry). g.sector) geometry ∙ numbered.0.sector;
      leaf = subst (λ o. IfSome o (IsReadyLeaf layers.geometry layers.below.items after)) (sym is) made;
      below = all_readable layers.geometry after 1 others layers.below.items of there (one_geometry leaf others layers.geometry (sym geometry) can.line).1 (readers before.told after.told can.told over);
      apart = all_apart 1 others layers.below.items of;
      merge = subst (λ o. IfSome o (IsMergeOf layers.geometry layers.leaf layers.below.items)) (sym no_merge.0) tt;
      relink = subst (λ o. IfSome o (CanRelink layers.leaf layers.below.items after)) (sym no_merge.0) tt;
      one = subst (λ o. AtMostOne o layers.retiring) (sym no_merge.0) tt;
      retiring = subst (λ o. IfSome o (IsRetiringOf layers.geometry layers.leaf layers.below.items)) (sym no_merge.1) tt;
      retires = subst (λ o. IfSome o (CanRetire layers.leaf layers.below.items after)) (sym no_merge.1) tt;
    }
  where
    readers : (a b : Option Trace) → ((t : Trace) → a ≡ Some t → AreAttached (leaf ∷ others) t) → WhereBothTold (BeginsOver leaf.parts ids 0) a b
        → (t : Trace) → b ≡ Some t → (placed : List Placed) × HaveFiles layers.below.items t placed
    readers None None attached over t e = let never : ◌≡◌ {A = Option Trace} None (Some t) = e in absurd (none_some never)
    readers None (Some y) attached over t e = absurd over
    readers (Some x) None attached over t e = absurd over
    readers (Some x) (Some y) attached over t e =
        let same : y ≡ t = some_same e in (
          placed_from x 1 others,
          subst (λ (n : Trace). HaveFiles layers.below.items n (placed_from x 1 others)) same
              (rest_read x leaf others (attached x refl) can.line can.once can.few (by_recursion IsServed (leaf ∷ others) can.served) ids y over layers.below.items of),
        )

-- ---- a chain that is only read

pub read_serving : (leaf : LinkedFile) (others : List LinkedFile) (layers : Layers) (disk : Disk) → CanStart (leaf ∷ others) disk → layers.geometry ≡ leaf.parts.geometry → layers.leaf ≡ None → HasNoMerge layers
    → AreReadOf 0 (leaf ∷ others) layers.below.items → StartsWith (λ parts. parts) (leaf ∷ others) layers disk.told disk.told
read_serving leaf others layers disk can geometry none no_merge of = by_told disk.told can.told
  where
    by_told : (a : Option Trace) → ((t : Trace) → a ≡ Some t → AreAttached (leaf ∷ others) t) → StartsWith (λ parts. parts) (leaf ∷ others) layers a a
    by_told None attached = tt
    by_told (Some t) attached =
        let o = attached t refl in
        reads_from t leaf others o can.line can.once can.few (by_recursion IsServed (leaf ∷ others) can.served) layers geometry none no_merge (all_read t 0 (leaf ∷ others) layers.below.items of o.each)

pub read_ready : (leaf : LinkedFile) (others : List LinkedFile) (layers : Layers) (disk : Disk) → CanStart (leaf ∷ others) disk → layers.geometry ≡ leaf.parts.geometry → layers.leaf ≡ None → HasNoMerge layers
    → AreReadOf 0 (leaf ∷ others) layers.below.items → AreReady layers disk
read_ready leaf others layers disk can geometry none no_merge of =
    let numbered = by_recursion IsServed (leaf ∷ others) can.served in
    let there : 0 + length (leaf ∷ others) ≤ disk.files = let t : length (leaf ∷ others) ≤ disk.files = can.there in omega arith in
    record {
      sector = ap (λ (g : Geometry). g.sector) geometry ∙ numbered.0.sector;
      leaf = subst (λ o. IfSome o (IsReadyLeaf layers.geometry layers.below.items disk)) (sym none) tt;
      below = all_readable layers.geometry disk 0 (leaf ∷ others) layers.below.items of there (one_geometry leaf others layers.geometry (sym geometry) can.line)
          (λ t e. (placed_from t 0 (leaf ∷ others), all_read t 0 (leaf ∷ others) layers.below.items of (can.told t e).each));
      apart = all_apart 0 (leaf ∷ others) layers.below.items of;
      merge = subst (λ o. IfSome o (IsMergeOf layers.geometry layers.leaf layers.below.items)) (sym no_merge.0) tt;
      relink = subst (λ o. IfSome o (CanRelink layers.leaf layers.below.items disk)) (sym no_merge.0) tt;
      one = subst (λ o. AtMostOne o layers.retiring) (sym no_merge.0) tt;
      retiring = subst (λ o. IfSome o (IsRetiringOf layers.geometry layers.leaf layers.below.items)) (sym no_merge.1) tt;
      retires = subst (λ o. IfSome o (CanRetire layers.leaf layers.below.items disk)) (sym no_merge.1) tt;
    }

-- ---- layers, one after the other

of_behind : (n : ℕ) (a b : List LinkedFile) (x y : List FileLayer) → AreReadOf n a x → AreReadOf (n + length a) b y → AreReadOf n (a ++ b) (x ++ y)
of_behind n [] b [] y first second = let same : n + 0 ≡ n = omega arith in subst (λ (m : ℕ). AreReadOf m b y) same second
of_behind n [] b (l ∷ x) y first second = absurd first
of_behind n (f ∷ a) b [] y first second = absurd first
of_behind n (f ∷ a) b (l ∷ x) y first second = let same : n + suc (length a) ≡ n + 1 + length a = omega arith in (first.0, of_behind (n + 1) a b x y first.1 (subst (λ (m : ℕ). AreReadOf m b y) same second))

-- one more
pub one_more : (n k : ℕ) (files : List LinkedFile) (f : LinkedFile) (layers : List FileLayer) (l : ReadLayer) → k < length files → f ≡ get_or files k f → AreReadOf n (take k files) layers → IsReadOf f.parts (n + k) l
    → AreReadOf n (take (k + 1) files) (layers ++ Read l ∷ [])
one_more n k files f layers l below is of made =
    let next : take (k + 1) files ≡ take k files ++ f ∷ [] = take_more files k f below ∙ ap (λ (g : LinkedFile). take k files ++ g ∷ []) (sym is) in
    let count : length (take k files) ≡ k = omega (arith, length-take k files) in
    subst (λ (fs : List LinkedFile). AreReadOf n fs (layers ++ Read l ∷ [])) (sym next)
    (of_behind n (take k files) (f ∷ []) layers (Read l ∷ []) of (subst (λ (m : ℕ). IsReadOf f.parts (n + m) l) (sym count) made, tt))

-- ---- the files of a slice

pub parted : (files : List LinkedFile) (d : LinkedFile) → 1 ≤ length files → files ≡ get_or files 0 d ∷ take (length files - 1) (drop 1 files)
parted [] d some = absurd (omega arith)
parted (f ∷ files) d some =
    let whole : take (length (f ∷ files) - 1) (drop 1 (f ∷ files)) ≡ files = grind (arith, common_steps) in ap (λ (rest : List LinkedFile). f ∷ rest) (sym whole)

-- a chain that is only read has started
pub reading_started : (files : List LinkedFile) (layers : Layers) (disk : Disk) (drawn : Option (List (List ℕ))) → CanStart files disk → IsOfDisk files layers.geometry → layers.leaf ≡ None → HasNoMerge layers → AreReadOf 0 files layers.below.items
    → IsReadOnly files layers disk disk drawn drawn
reading_started [] layers disk drawn can geometry none no_merge of = absurd can.line
reading_started (leaf ∷ others) layers disk drawn can geometry none no_merge of = record {
  undrawn = refl;
  session = ap is_some none;
  serving = read_serving leaf others layers disk can geometry none no_merge of;
  same = refl;
}

pub reading_ready : (files : List LinkedFile) (layers : Layers) (disk : Disk) → CanStart files disk → IsOfDisk files layers.geometry → layers.leaf ≡ None → HasNoMerge layers → AreReadOf 0 files layers.below.items → AreReady layers disk
reading_ready [] layers disk can geometry none no_merge of = absurd can.line
reading_ready (leaf ∷ others) layers disk can geometry none no_merge of = read_ready leaf others layers disk can geometry none no_merge of

pub files_rest : (files : List LinkedFile) (disk : Disk) → CanStart files disk → EachOpensAlike files disk.told disk.told
files_rest [] disk can = tt
files_rest (leaf ∷ others) disk can = rest_moments leaf others disk can

-- the leaf's session has begun
pub session_begun : (files : List LinkedFile) (leaf : LinkedFile) (others : List LinkedFile) (ids : NewIds) (layers : Layers) (old mid new : Disk) (before now : Option (List (List ℕ))) → files ≡ leaf ∷ others → mid ≡ old
    → JudgesIds files old before now None ids → is_some layers.leaf ≡ true → leaf_number layers ≡ 0 → StartsWith (under ids) (leaf ∷ others) layers mid.told new.told → new ≡ record mid { told = new.told }
    → HasBegunSession files layers old new before now
session_begun files leaf others ids layers old mid new before now is same fit session number_is serving counts =
    let from : StartsWith (under ids) (leaf ∷ others) layers old.told new.told =
    subst (λ (d : Disk). StartsWith (under ids) (leaf ∷ others) layers d.told new.told) same serving in
    record {
      ids = ids;
      fit = fit;
      session = session;
      leaf = number_is;
      serving = subst (λ (fs : List LinkedFile). StartsWith (under ids) fs layers old.told new.told) (sym is) from;
      counts = subst (λ (d : Disk). new ≡ record d { told = new.told }) same counts;
    }

-- so it answers
pub session_answers : (files : List LinkedFile) (leaf : LinkedFile) (others : List LinkedFile) (ids : NewIds) (result : Result Layers StartRefusal) (old mid new : Disk) (before now : Option (List (List ℕ))) → files ≡ leaf ∷ others → mid ≡ old
    → JudgesIds files old before now None ids → IfOk result (λ layers. is_some layers.leaf ≡ true) → IfOk result (λ layers. leaf_number layers ≡ 0)
    → IfOk result (λ layers. StartsWith (under ids) (leaf ∷ others) layers mid.told new.told) → OnOk result (new ≡ record mid { told = new.told })
    → IfOk result (λ layers. HasBegunSession files layers old new before now)
session_answers files leaf others ids (Ok layers) old mid new before now is same fit session number_is serving counts = session_begun files leaf others ids layers old mid new before now is same fit session number_is serving counts
session_answers files leaf others ids (Err e) old mid new before now is same fit session number_is serving counts = tt

pub of_disk : (files : List LinkedFile) (leaf : LinkedFile) (others : List LinkedFile) (result : Result Layers StartRefusal) → files ≡ leaf ∷ others → IfOk result (λ layers. layers.geometry ≡ leaf.parts.geometry)
    → IfOk result (λ layers. IsOfDisk files layers.geometry)
of_disk files leaf others (Ok layers) is geometry = subst (λ (fs : List LinkedFile). IsOfDisk fs layers.geometry) (sym is) geometry
of_disk files leaf others (Err e) is geometry = tt

pub first_of_disk : (files : List LinkedFile) (f : LinkedFile) (g : Geometry) → f ≡ get_or files 0 f → g ≡ f.parts.geometry → IsOfDisk files g
first_of_disk [] f g is same = tt
first_of_disk (leaf ∷ others) f g is same = same ∙ ap (λ (x : LinkedFile). x.parts.geometry) is

-- with no session there is no log
pub low_read : (files : List LinkedFile) (layers : Layers) → layers.leaf ≡ None → AreReadOf 0 files layers.below.items → IsLow 1 layers
low_read files layers none of =
    subst (λ (o : Option Layer). AllByRecursion (λ number. IfSome number (λ n. n ≤ 1)) (option_map (λ (leaf : Layer). leaf.log.number) o ∷ map log_number layers.below.items)) (sym none)
    (tt, none_logged 0 1 files layers.below.items of)
