-- The layers of a session whose merge is prepared are ready, and the logs of those in a session have one entry.
use Rattle.std.proofs.Common.{◌≡◌, ◌≢◌, ℕ, suc, ◌+◌, ◌-◌, ◌<◌, ◌≤◌, true, false, List, [], ◌∷◌, ◌++◌, length, map, refl, sym, ap, subst, ◌∙◌, arith}
use Rattle.std.proofs.lemmas.List.{length-append}
use Rattle.std.specs.Prelude.{⊤, Option, Some, None, IfSome, is_some, nat_lt}
use Rattle.std.specs.List.{AllByRecursion}
use Rattle.chain_core.proofs.MergeServed.{read_count}
use Rattle.vx_base.specs.declared.parts.Geometry.{Geometry}
use Rattle.store_model.specs.Disk.{Disk}
use Rattle.store_model.specs.Trace.{Trace}
use Rattle.table_pages.specs.Held.{HasTables}
use Rattle.chain_model.specs.Images.{Placed}
use Rattle.chain_model.specs.Stripes.{stripe_count}
use Rattle.link_rules.specs.declared.linked.LinkedFile.{LinkedFile}
use Rattle.layer_session.specs.Keeping.{IsReady, Serves}
use Rattle.layer_session.specs.FileLayers.{AreOthers, AreReadyFiles, HaveFiles, file_numbers, log_number, number_of}
use Rattle.layer_session.specs.ReadOnly.{IsRead}
use Rattle.layer_session.specs.declared.file.Layer.{Layer}
use Rattle.layer_session.specs.declared.file_layer.FileLayer.{FileLayer}
use Rattle.layer_session.specs.declared.file_layer.FileLayer.TheVariants.{Read, Session}
use Rattle.layer_session.specs.declared.read_layer.ReadLayer.{ReadLayer}
use Rattle.chain_core.specs.MergeStarting.{behind_first, session_of}
use Rattle.chain_core.specs.Sessions.{AreApart, IsMergeOf, is_session_at}
use Rattle.chain_core.specs.Starting.{AreReadOf}
use Rattle.chain_core.specs.declared.layers.Underway.{Underway}
use Rattle.chain_core.proofs.MergeAsked.{ready_still}
use Rattle.chain_core.proofs.MergeChild.{leaf_only}
use Rattle.layer_session.proofs.Equal.{true_false}

-- ---- files by their numbers

-- the files of layers are numbered from this one on
abbrev pub CountFrom : ℕ → List FileLayer → Type 0
CountFrom n [] = ⊤
CountFrom n (l ∷ layers) = (number_of l ≡ n) × CountFrom (n + 1) layers

pub count_read : (n : ℕ) (files : List LinkedFile) (layers : List FileLayer) → AreReadOf n files layers → CountFrom n layers
count_read n [] [] of = tt
count_read n [] (l ∷ layers) of = absurd of
count_read n (f ∷ files) [] of = absurd of
count_read n (f ∷ files) (Session l ∷ layers) of = absurd of.0
count_read n (f ∷ files) (Read l ∷ layers) of = (of.0.number, count_read (n + 1) files layers of.1)

pub count_both : (n : ℕ) (a b : List FileLayer) → CountFrom n a → CountFrom (n + length a) b → CountFrom n (a ++ b)
count_both n [] b first second = let same : n + 0 ≡ n = omega arith in subst (λ (k : ℕ). CountFrom k b) same second
count_both n (l ∷ a) b first second = let same : n + suc (length a) ≡ n + 1 + length a = omega arith in (first.0, count_both (n + 1) a b first.1 (subst (λ (k : ℕ). CountFrom k b) same second))

pub counted_others : (n : ℕ) (layers : List FileLayer) → 0 < n → CountFrom n layers → AreOthers 0 layers
counted_others n [] some count = tt
counted_others n (l ∷ layers) some count = ((λ e. let never : 0 ≡ n = sym e ∙ count.0 in absurd (omega (arith, some))), counted_others (n + 1) layers (omega arith) count.1)

far : (m n : ℕ) (layers : List FileLayer) → m < n → CountFrom n layers → AllByRecursion (λ other. other ≢ m) (file_numbers layers)
far m n [] less count = tt
far m n (l ∷ layers) less count = ((λ e. let never : m ≡ n = sym e ∙ count.0 in absurd (omega (arith, less))), far m (n + 1) layers (omega (arith, less)) count.1)

pub counted_apart : (n : ℕ) (layers : List FileLayer) → CountFrom n layers → AreApart (file_numbers layers)
counted_apart n [] count = tt
counted_apart n (l ∷ layers) count =
    let same : n ≡ number_of l = sym count.0 in (subst (λ (m : ℕ). AllByRecursion (λ other. other ≢ m) (file_numbers layers)) same (far n (n + 1) layers (omega arith) count.1), counted_apart (n + 1) layers count.1)

-- ---- layers that are ready

-- a layer is ready once it has its file
abbrev pub IsMade : Geometry → Disk → FileLayer → Type 0
IsMade g disk (Session l) = ((old : Disk) × (IsReady l old × (disk.files ≡ old.files))) × ((l.tables.parts.sector ≡ g.sector) × (l.tables.parts.sectors ≡ g.sectors))
IsMade g disk (Read l) = ((l.tables.parts.file < disk.files) × HasTables l.tables.parts) × ((l.tables.parts.sector ≡ g.sector) × (l.tables.parts.sectors ≡ g.sectors))

session_there : (l : Layer) (layers : List FileLayer) (t : Trace) (files : List Placed) → HaveFiles (Session l ∷ layers) t files → ((file : Placed) × Serves l t file) × ((rest : List Placed) × HaveFiles layers t rest)
session_there l layers t [] have = absurd have
session_there l layers t (p ∷ files) have = ((p, have.0), (files, have.1))

read_there : (l : ReadLayer) (layers : List FileLayer) (t : Trace) (files : List Placed) → HaveFiles (Read l ∷ layers) t files → ((file : Placed) × IsRead l t file) × ((rest : List Placed) × HaveFiles layers t rest)
read_there l layers t [] have = absurd have
read_there l layers t (p ∷ files) have = ((p, have.0), (files, have.1))

pub made_ready : (g : Geometry) (disk : Disk) (layers : List FileLayer) → AllByRecursion (IsMade g disk) layers → ((t : Trace) → disk.told ≡ Some t → (files : List Placed) × HaveFiles layers t files) → AreReadyFiles g disk layers
made_ready g disk [] made have = tt
made_ready g disk (Session l ∷ layers) made have = (
  record {
    ready = ready_still l made.0.0.0 disk made.0.0.1.0 made.0.0.1.1 (λ t told. (session_there l layers t (have t told).0 (have t told).1).0);
    sector = made.0.1.0;
    sectors = made.0.1.1;
  },
  made_ready g disk layers made.1 (λ t told. (session_there l layers t (have t told).0 (have t told).1).1),
)
made_ready g disk (Read l ∷ layers) made have = (
  record {
    ready = record { there = made.0.0.0; sizes = made.0.0.1; told = λ t told. (read_there l layers t (have t told).0 (have t told).1).0 };
    sector = made.0.1.0;
    sectors = made.0.1.1;
  },
  made_ready g disk layers made.1 (λ t told. (read_there l layers t (have t told).0 (have t told).1).1),
)

pub made_read : (g : Geometry) (disk : Disk) (n : ℕ) (files : List LinkedFile) (layers : List FileLayer) → AreReadOf n files layers → n + length files ≤ disk.files → AllByRecursion (λ (f : LinkedFile). f.parts.geometry ≡ g) files
    → AllByRecursion (IsMade g disk) layers
made_read g disk n [] [] of there same = tt
made_read g disk n [] (l ∷ layers) of there same = absurd of
made_read g disk n (f ∷ files) [] of there same = absurd of
made_read g disk n (f ∷ files) (Session l ∷ layers) of there same = absurd of.0
made_read g disk n (f ∷ files) (Read l ∷ layers) of there same = (
  (
    ((let is : l.tables.parts.file ≡ n = of.0.number in omega (arith, there)), of.0.sizes),
    (of.0.sector ∙ ap (λ (k : Geometry). k.sector) same.0, of.0.sectors ∙ ap (λ (k : Geometry). k.sectors) same.0),
  ),
  made_read g disk (n + 1) files layers of.1 (omega (arith, there)) same.1,
)

-- ---- lists

pub all_behind : (P : LinkedFile → Type 0) (files : List LinkedFile) → AllByRecursion P files → AllByRecursion P (behind_first files)
all_behind P [] all = tt
all_behind P (f ∷ files) all = all.1

abbrev pub Low : List FileLayer → Type 0
Low layers = AllByRecursion (λ number. IfSome number (λ n. n ≤ 1)) (map log_number layers)

pub low_two : (a b : List FileLayer) → Low a → Low b → Low (a ++ b)
low_two [] b first second = second
low_two (l ∷ a) b first second = (first.0, low_two a b first.1 second)

-- ---- the files above the source

-- as many as stand there but for the leaf, the child among them unless it is the leaf
pub front_len : (files : List LinkedFile) (reads : List FileLayer) (l : Option Layer) → AreReadOf 1 (behind_first files) reads → is_some l ≡ nat_lt 0 (length files) → length (reads ++ session_of l) ≡ length files
front_len [] [] None of some = refl
front_len [] [] (Some l) of some = absurd (let never : true ≡ false = some in true_false never)
front_len [] (x ∷ reads) l of some = absurd of
front_len (f ∷ files) reads None of some = absurd (leaf_only (length files) some)
front_len (f ∷ files) reads (Some l) of some = let one : length (reads ++ Session l ∷ []) ≡ length reads + 1 = length-append reads (Session l ∷ []) in let many : length reads ≡ length files = read_count 1 files reads of in omega (arith, one, many)

pub at_second : (a : List FileLayer) (x : FileLayer) (l : Layer) (b : List FileLayer) → is_session_at (a ++ x ∷ Session l ∷ b) (suc (length a)) ≡ true
at_second [] x l b = refl
at_second (y ∷ a) x l b = at_second a x l b

last_session : (a : List FileLayer) (l : Layer) (b : List FileLayer) → is_session_at ((a ++ Session l ∷ []) ++ b) (length a) ≡ true
last_session [] l b = refl
last_session (y ∷ a) l b = last_session a l b

pub child_at : (files : List LinkedFile) (reads : List FileLayer) (l : Option Layer) (b : List FileLayer) → AreReadOf 1 (behind_first files) reads → is_some l ≡ nat_lt 0 (length files) → 0 < length files
    → is_session_at ((reads ++ session_of l) ++ b) (length files - 1) ≡ true
child_at [] reads l b of some more = absurd (omega (arith, more))
child_at (f ∷ files) reads None b of some more = absurd (leaf_only (length files) some)
child_at (f ∷ files) reads (Some l) b of some more =
    let same : suc (length files) - 1 ≡ length reads = omega (arith, read_count 1 files reads of) in subst (λ (n : ℕ). is_session_at ((reads ++ Session l ∷ []) ++ b) n ≡ true) (sym same) (last_session reads l b)

-- the files below the leaf, with their merge
module _ (files : List LinkedFile) (reads rest : List FileLayer) (child : Option Layer) (source : ReadLayer) (target : Layer) (of : AreReadOf 1 (behind_first files) reads) (some : is_some child ≡ nat_lt 0 (length files)) where
  abbrev front : List FileLayer
  front = reads ++ session_of child

  abbrev all : List FileLayer
  all = front ++ Read source ∷ Session target ∷ rest

  many : length front ≡ length files
  many = front_len files reads child of some

  pub is_merge : (g : Geometry) (top : Option Layer) (u : Underway) → is_some top ≡ true → u.source ≡ length files → u.marks.stripes ≡ stripe_count g.sector g.sectors → IsMergeOf g top all u
  is_merge g top u session place stripes = record {
    session = session;
    there = let whole : length all ≡ length front + length (Read source ∷ Session target ∷ rest) = length-append front (Read source ∷ Session target ∷ rest) in omega (arith, whole, many, place);
    target = let same : suc (length front) ≡ u.source + 1 = omega (arith, many, place) in subst (λ (n : ℕ). is_session_at all n ≡ true) same (at_second front (Read source) target rest);
    child = λ more. subst (λ (n : ℕ). is_session_at all (n - 1) ≡ true) (sym place) (child_at files reads child (Read source ∷ Session target ∷ rest) of some (let m : 0 < u.source = more in omega (arith, m, place)));
    stripes = stripes;
  }
