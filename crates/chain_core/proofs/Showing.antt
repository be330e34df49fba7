-- The files of a session as held.
use Rattle.std.proofs.Common.{◌≡◌, ◌≢◌, ℕ, ◌==◌, Bool, true, false, cond, List, [], ◌∷◌, ◌++◌, map, refl, sym, ap, subst, ◌∙◌, ne_eqb, eq-eqb}
use Rattle.std.specs.Prelude.{Option, Some, None, IfSome}
use Rattle.std.specs.List.{AllByRecursion}
use Rattle.vhdx_format.specs.declared.log_entry.Page.{Page}
use Rattle.store_model.specs.File.{is_synced, seen}
use Rattle.store_model.specs.Trace.{ReadsAreImages, Trace, file_of}
use Rattle.torn_match.proofs.Meant.{reads_are_untorn}
use Rattle.chain_model.specs.Files.{IsIn, held_files}
use Rattle.chain_model.specs.Members.{NoneTwice, names_of}
use Rattle.chain_model.specs.Images.{NoneLoose, Placed, members_of}
use Rattle.chain_model.specs.PhaseLaws.{IsNamedOnce}
use Rattle.chain_model.specs.Sessions.{IsKept, LooseAtTop}
use Rattle.chain_model.proofs.Serving.{held_chains_open}
use Rattle.chain_model.proofs.Showing.{held_by_name, all_left, all_right}
use Rattle.layer_session.specs.declared.file.Layer.{Layer}
use Rattle.layer_session.specs.declared.file_layer.FileLayer.{FileLayer}
use Rattle.layer_session.specs.declared.file_layer.FileLayer.TheVariants.{Session, Read}
use Rattle.layer_session.specs.Calls.{own_bytes, own_file}
use Rattle.layer_session.specs.FileLayers.{HaveFiles, file_numbers, number_of}
use Rattle.layer_session.specs.Keeping.{Serves}
use Rattle.layer_session.proofs.FileLayers.{file_layers_stand}
use Rattle.layer_session.proofs.Standing.{layers_stand}
use Rattle.chain_core.specs.declared.layers.Layers.{Layers}
use Rattle.chain_core.specs.declared.layers.Underway.{Underway}
use Rattle.chain_core.specs.Finished.{succeeded_by}
use Rattle.chain_core.specs.Laws.{IsLeftBehind, LeavesAreLeft, ReadingsAreHeld, SessionsAreHeld, changed_pages, waiting}
use Rattle.chain_core.specs.Sessions.{AreApart}
use Rattle.chain_core.specs.States.{AreHeld, AreWritten, IsCourse, IsLoose, IsRetiring, Rest, State, dirty_now, files_of, merging, others_of, plain, retiring, sector_of, WasSynced}
use Rattle.chain_core.specs.declared.layers.Retiring.{Retiring}
use Rattle.guest_model.specs.History.{History}
use Rattle.chain_core.proofs.Steps.{apart, names_behind, numbers_apart}
use Rattle.layer_session.proofs.Equal.{cons_nil, true_false}

-- ---- one file

-- a kept file of which nothing is unsynced or loose, and no page changed, is held as it is shown
kept_is_held : (trace : Trace) (pages : ℕ → List Page) (file : Placed) → IsNamedOnce trace → ReadsAreImages trace → IsKept trace file → is_synced (file_of trace file.number) ≡ true → ((s : ℕ) → file.is_loose s ≡ false)
    → pages file.number ≡ [] → IsIn (held_files trace pages) file.member
kept_is_held trace pages file once images kept synced tight none =
    let bytes = seen (file_of trace file.number) in
    let s = kept.shows bytes (images file.number kept.within).image (reads_are_untorn.synced (file_of trace file.number) bytes synced) in
    record {
      file = record { bytes = bytes; pages = [] };
      there = ap (held_files trace pages) (sym kept.name) ∙ held_by_name trace pages file.number once kept.within ∙ ap (λ p. Some (record { bytes = bytes; pages = p })) none;
      held = s.held;
      parts = s.parts;
      reads = s.reads;
      ties = sym s.ties;
      layer = λ k. sym (s.clean k (tight k));
    }

-- a file in a session is held with its pages
served_is_held : (l : Layer) (trace : Trace) (pages : ℕ → List Page) (file : Placed) → IsNamedOnce trace → Serves l trace file → pages (own_file l) ≡ l.tables.pending → IsIn (held_files trace pages) file.member
served_is_held l trace pages file once serves mine =
    let h = layers_stand.held l trace file serves in
    record {
      file = record { bytes = own_bytes l trace; pages = l.tables.pending };
      there = ap (held_files trace pages) (sym serves.name) ∙ held_by_name trace pages file.number once serves.within
          ∙ ap (λ (n : ℕ). Some (record { bytes = seen (file_of trace n); pages = pages n })) serves.number
          ∙ ap (λ p. Some (record { bytes = own_bytes l trace; pages = p })) mine;
      held = h.held;
      parts = h.parts;
      reads = h.reads;
      ties = h.ties;
      layer = h.layer;
    }

-- ---- pages

-- a file in a session has these of its own, any other none
abbrev Fits : (ℕ → List Page) → FileLayer → Type 0
Fits pages (Session l) = pages (own_file l) ≡ l.tables.pending
Fits pages (Read l) = pages l.tables.parts.file ≡ []

none_waiting : (layers : List FileLayer) (n : ℕ) → AllByRecursion (λ other. other ≢ n) (file_numbers layers) → waiting layers n ≡ []
none_waiting [] n ne = refl
none_waiting (Session l ∷ layers) n ne = ap (λ (b : Bool). cond b l.tables.pending (waiting layers n)) (ne_eqb n (own_file l) (λ same. ne.0 (sym same))) ∙ none_waiting layers n ne.1
none_waiting (Read l ∷ layers) n ne = none_waiting layers n ne.1

-- of one that stands behind a session
behind_fits : (l : Layer) (pages : ℕ → List Page) (x : FileLayer) → number_of x ≢ own_file l → Fits pages x → Fits (λ n. cond (n == own_file l) l.tables.pending (pages n)) x
behind_fits l pages (Session k) ne fits = ap (λ (b : Bool). cond b l.tables.pending (pages (own_file k))) (ne_eqb (own_file k) (own_file l) ne) ∙ fits
behind_fits l pages (Read k) ne fits = ap (λ (b : Bool). cond b l.tables.pending (pages k.tables.parts.file)) (ne_eqb k.tables.parts.file (own_file l) ne) ∙ fits

all_behind_fit : (l : Layer) (pages : ℕ → List Page) (layers : List FileLayer) → AllByRecursion (λ other. other ≢ own_file l) (file_numbers layers) → AllByRecursion (Fits pages) layers
    → AllByRecursion (Fits (λ n. cond (n == own_file l) l.tables.pending (pages n))) layers
all_behind_fit l pages [] ne fits = tt
all_behind_fit l pages (x ∷ layers) ne fits = (behind_fits l pages x ne.0 fits.0, all_behind_fit l pages layers ne.1 fits.1)

all_fit : (layers : List FileLayer) → AreApart (file_numbers layers) → AllByRecursion (Fits (waiting layers)) layers
all_fit [] apart = tt
all_fit (Session l ∷ layers) apart =
    (ap (λ (b : Bool). cond b l.tables.pending (waiting layers (own_file l))) (eq-eqb (own_file l) (own_file l) refl), all_behind_fit l (waiting layers) layers apart.0 (all_fit layers apart.1))
all_fit (Read l ∷ layers) apart = (none_waiting layers l.tables.parts.file apart.0, all_fit layers apart.1)

-- ---- numbers

files_apart : (trace : Trace) (files : List Placed) → AllByRecursion (IsKept trace) files → NoneTwice (names_of (members_of files)) → AreApart (map (λ f. f.number) files)
files_apart trace [] kept once = tt
files_apart trace (p ∷ files) kept once = (to_numbers files (apart trace p files kept.0 kept.1 once.0), files_apart trace files kept.1 once.1)
  where
    to_numbers : (files : List Placed) → AllByRecursion (λ f. f.number ≢ p.number) files → AllByRecursion (λ other. other ≢ p.number) (map (λ f. f.number) files)
    to_numbers [] all = tt
    to_numbers (q ∷ files) all = (all.0, to_numbers files all.1)

same_numbers : (layers : List FileLayer) (trace : Trace) (files : List Placed) → HaveFiles layers trace files → map (λ f. f.number) files ≡ file_numbers layers
same_numbers [] trace [] have = refl
same_numbers [] trace (p ∷ files) have = absurd have
same_numbers (l ∷ layers) trace [] have = absurd have
same_numbers (l ∷ layers) trace (p ∷ files) have =
    let first : p.number ≡ number_of l = file_layers_stand.number l trace p have.0 in
    let others : map (λ f. f.number) files ≡ file_numbers layers = same_numbers layers trace files have.1 in
    cc

others_numbers : (n : ℕ) (layers : List FileLayer) (trace : Trace) (files : List Placed) → HaveFiles layers trace files → AllByRecursion (λ f. f.number ≢ n) files → AllByRecursion (λ other. other ≢ n) (file_numbers layers)
others_numbers n [] trace [] have ne = tt
others_numbers n [] trace (p ∷ files) have ne = absurd have
others_numbers n (l ∷ layers) trace [] have ne = absurd have
others_numbers n (l ∷ layers) trace (p ∷ files) have ne = ((λ e. ne.0 (file_layers_stand.number l trace p have.0 ∙ e)), others_numbers n layers trace files have.1 ne.1)

-- ---- what is loose

-- a file that isn't written has no loose sector
abbrev IsTight : (ℕ → Bool) → Placed → Type 0
IsTight writes file = writes file.number ≡ false → (s : ℕ) → file.is_loose s ≡ false

all_tight : (writes : ℕ → Bool) (files : List Placed) → ((s : ℕ) → NoneLoose s files) → AllByRecursion (IsTight writes) files
all_tight writes [] none = tt
all_tight writes (p ∷ files) none = ((λ w s. (none s).0), all_tight writes files (λ s. (none s).1))

-- nothing is loose in the files of a list, and so in each of them
none_left : (a b : List Placed) → ((s : ℕ) → NoneLoose s (a ++ b)) → (s : ℕ) → NoneLoose s a
none_left [] b none s = tt
none_left (p ∷ a) b none s = ((none s).0, none_left a b (λ k. (none k).1) s)

none_right : (a b : List Placed) → ((s : ℕ) → NoneLoose s (a ++ b)) → (s : ℕ) → NoneLoose s b
none_right [] b none = none
none_right (p ∷ a) b none = none_right a b (λ k. (none k).1)

tight_with : (writes : ℕ → Bool) (above : List Placed) (source target : Placed) (below : List Placed) → writes target.number ≡ true → ((s : ℕ) → NoneLoose s (above ++ source ∷ below))
    → AllByRecursion (IsTight writes) (above ++ (source ∷ target ∷ below))
tight_with writes [] source target below written none =
    ((λ w s. (none s).0), ((λ w. absurd (let never : true ≡ false = sym written ∙ w in true_false never)), all_tight writes below (λ s. (none s).1)))
tight_with writes (p ∷ above) source target below written none = ((λ w s. (none s).0), tight_with writes above source target below written (λ s. (none s).1))

pub tight_others : (z : ℕ) (writes dirty : ℕ → Bool) (h : History) (layers : Layers) (merge : Option Underway) (kept : Option Retiring) (top : Placed) (rest : Rest) → IsCourse z writes layers merge top rest → IsRetiring z writes h layers kept top rest
    → IsLoose dirty top rest → AllByRecursion (IsTight writes) (others_of rest)
tight_others z writes dirty h layers merge kept top (plain others) course leaving loose = all_tight writes others loose.1
tight_others z writes dirty h layers merge None top (retiring target below first before) course leaving loose = absurd leaving
tight_others z writes dirty h layers merge (Some r) top (retiring target below first before) course leaving loose =
    ((λ w. absurd (let never : true ≡ false = sym leaving.written ∙ w in true_false never)), all_tight writes below loose.others.1)
tight_others z writes dirty h layers None kept top (merging above source target below m) course leaving loose = absurd course
tight_others z writes dirty h layers (Some u) kept top (merging above source target below m) course leaving loose = tight_with writes above source target below course.written loose.others.1

-- ---- the files below the leaf

all_held : (v : State) (trace : Trace) (pages : ℕ → List Page) (layers : List FileLayer) (files : List Placed) → IsNamedOnce trace → ReadsAreImages trace → ((other : ℕ) → v.writes other ≡ false → file_of trace other ≡ file_of v.since other)
    → HaveFiles layers trace files → AllByRecursion (IsKept trace) files → AllByRecursion (WasSynced v.writes v.since) files → AreWritten v.writes layers → AllByRecursion (IsTight v.writes) files
    → AllByRecursion (Fits pages) layers → AllByRecursion (IsIn (held_files trace pages)) (members_of files)
all_held v trace pages [] [] once images still have kept synced written tight fits = tt
all_held v trace pages [] (p ∷ files) once images still have kept synced written tight fits = absurd have
all_held v trace pages (l ∷ layers) [] once images still have kept synced written tight fits = absurd have
all_held v trace pages (Session l ∷ layers) (p ∷ files) once images still have kept synced written tight fits =
    (served_is_held l trace pages p once have.0 fits.0, all_held v trace pages layers files once images still have.1 kept.1 synced.1 written.1 tight.1 fits.1)
all_held v trace pages (Read l ∷ layers) (p ∷ files) once images still have kept synced written tight fits =
    let unwritten : v.writes p.number ≡ false = ap v.writes have.0.number ∙ written.0 in (
      kept_is_held trace pages p once images kept.0 (ap is_synced (still p.number unwritten) ∙ synced.0 unwritten) (tight.0 unwritten) (ap pages have.0.number ∙ fits.0),
      all_held v trace pages layers files once images still have.1 kept.1 synced.1 written.1 tight.1 fits.1,
    )

-- leaves that were left behind are held as they were left
left_held : (v : State) (trace : Trace) (pages : ℕ → List Page) (retired : List Placed) → IsNamedOnce trace → ReadsAreImages trace → ((other : ℕ) → v.writes other ≡ false → file_of trace other ≡ file_of v.since other)
    → ((n : ℕ) → v.writes n ≡ false → pages n ≡ []) → AllByRecursion (IsKept trace) retired → AllByRecursion (IsLeftBehind v) retired → AllByRecursion (IsIn (held_files trace pages)) (members_of retired)
left_held v trace pages [] once images still none kept left = tt
left_held v trace pages (p ∷ retired) once images still none kept left = (
  kept_is_held trace pages p once images kept.0 (ap is_synced (still p.number left.0.unwritten) ∙ left.0.synced) left.0.tight (none p.number left.0.unwritten),
  left_held v trace pages retired once images still none kept.1 left.1,
)

-- a file that isn't written has no changed page
none_written : (writes : ℕ → Bool) (layers : List FileLayer) (n : ℕ) → AreWritten writes layers → writes n ≡ false → waiting layers n ≡ []
none_written writes [] n written none = refl
none_written writes (Session l ∷ layers) n written none =
    ap (λ (b : Bool). cond b l.tables.pending (waiting layers n)) (ne_eqb n (own_file l) (λ same. let never : true ≡ false = sym written.0 ∙ ap writes (sym same) ∙ none in true_false never)) ∙ none_written writes layers n written.1 none
none_written writes (Read l ∷ layers) n written none = none_written writes layers n written.1 none

both_in : (trace : Trace) (pages : ℕ → List Page) (a b : List Placed) → AllByRecursion (IsIn (held_files trace pages)) (members_of a) → AllByRecursion (IsIn (held_files trace pages)) (members_of b)
    → AllByRecursion (IsIn (held_files trace pages)) (members_of a ++ members_of b)
both_in trace pages [] b left right = right
both_in trace pages (p ∷ a) b left right = (left.0, both_in trace pages a b left.1 right)

pub sessions_are_held : SessionsAreHeld
sessions_are_held layers leaf v trace is images left serving =
    let below = layers.below.items in
    let pages = changed_pages leaf below in
    let others = others_of v.rest in
    let held : Serves leaf trace v.top × HaveFiles below trace others = subst (λ o. AreHeld o below trace v.top others) is serving.held in
    let written : (v.writes v.top.number ≡ true) × AreWritten v.writes below = subst (λ o. IfSome o (λ leaf. (v.writes v.top.number ≡ true) × AreWritten v.writes below)) is serving.written in
    let kept = all_right (IsKept trace) v.retired (files_of v) serving.served.kept in
    let once = names_behind v.retired (files_of v) serving.served.linked.once in
    let ne : AllByRecursion (λ other. other ≢ own_file leaf) (file_numbers below) =
    subst (λ (n : ℕ). AllByRecursion (λ other. other ≢ n) (file_numbers below)) held.0.number (others_numbers v.top.number below trace others held.1 (numbers_apart layers v trace serving)) in
    let distinct : AreApart (file_numbers below) = subst AreApart (same_numbers below trace others held.1) (files_apart trace others kept.1 once.1) in
    let fits : AllByRecursion (Fits pages) below = all_behind_fit leaf (waiting below) below ne (all_fit below distinct) in
    let mine : pages (own_file leaf) ≡ leaf.tables.pending = ap (λ (b : Bool). cond b leaf.tables.pending (waiting below (own_file leaf))) (eq-eqb (own_file leaf) (own_file leaf) refl) in
    let rest = all_held v trace pages below others serving.once images serving.still held.1 kept.1 serving.synced.1 written.1
    (tight_others (sector_of v) v.writes _ v.history layers layers.merge layers.retiring v.top v.rest serving.course serving.leaving serving.loose) fits in
    let none = λ (n : ℕ) (unwritten : v.writes n ≡ false).
    let apart_is : n ≢ own_file leaf = λ same. (let never : true ≡ false = sym written.0 ∙ ap v.writes (held.0.number ∙ sym same) ∙ unwritten in true_false never) in
    (ap (λ (b : Bool). cond b leaf.tables.pending (waiting below n)) (ne_eqb n (own_file leaf) apart_is) ∙ none_written v.writes below n written.1 unwritten) in
    held_chains_open (sector_of v) v.opening v.history v.leaf v.retired (files_of v) trace pages serving.served
    (both_in trace pages v.retired (files_of v) (left_held v trace pages v.retired serving.once images serving.still none (all_left (IsKept trace) v.retired (files_of v) serving.served.kept) left) (served_is_held leaf trace pages v.top serving.once held.0 mine, rest))

-- ---- where files are only read

each_held : (trace : Trace) (pages : ℕ → List Page) (layers : List FileLayer) (files : List Placed) → IsNamedOnce trace → ReadsAreImages trace → HaveFiles layers trace files → AllByRecursion (IsKept trace) files
    → AllByRecursion (λ f. is_synced (file_of trace f.number) ≡ true) files → ((s : ℕ) → NoneLoose s files) → AllByRecursion (Fits pages) layers → AllByRecursion (IsIn (held_files trace pages)) (members_of files)
each_held trace pages [] [] once images have kept synced tight fits = tt
each_held trace pages [] (p ∷ files) once images have kept synced tight fits = absurd have
each_held trace pages (l ∷ layers) [] once images have kept synced tight fits = absurd have
each_held trace pages (Session l ∷ layers) (p ∷ files) once images have kept synced tight fits =
    (served_is_held l trace pages p once have.0 fits.0, each_held trace pages layers files once images have.1 kept.1 synced.1 (λ s. (tight s).1) fits.1)
each_held trace pages (Read l ∷ layers) (p ∷ files) once images have kept synced tight fits =
    (kept_is_held trace pages p once images kept.0 synced.0 (λ s. (tight s).0) (ap pages have.0.number ∙ fits.0), each_held trace pages layers files once images have.1 kept.1 synced.1 (λ s. (tight s).1) fits.1)

none_retired : (trace : Trace) (pages : ℕ → List Page) (retired : List Placed) → retired ≡ [] → AllByRecursion (IsIn (held_files trace pages)) (members_of retired)
none_retired trace pages [] none = tt
none_retired trace pages (p ∷ retired) none = absurd (let never : ◌≡◌ {A = List Placed} (p ∷ retired) [] = none in cons_nil never)

pub readings_are_held : ReadingsAreHeld
readings_are_held layers others v trace is rest none images synced serving =
    let below = layers.below.items in
    let pages = waiting below in
    let held : ((s : ℕ) → v.top.is_loose s ≡ false) × HaveFiles below trace (files_of v) = subst (λ o. AreHeld o below trace v.top (others_of v.rest)) is serving.held in
    let kept = all_right (IsKept trace) v.retired (files_of v) serving.served.kept in
    let once = names_behind v.retired (files_of v) serving.served.linked.once in
    let distinct : AreApart (file_numbers below) = subst AreApart (same_numbers below trace (files_of v) held.1) (files_apart trace (files_of v) kept once) in
    let loose : LooseAtTop (dirty_now v) (v.top ∷ others) = subst (λ r. IsLoose (dirty_now v) v.top r) rest serving.loose in
    let tight : (s : ℕ) → NoneLoose s (files_of v) = λ s. (held.0 s, subst (λ r. NoneLoose s (others_of r)) (sym rest) (loose.1 s)) in
    held_chains_open (sector_of v) v.opening v.history v.leaf v.retired (files_of v) trace pages serving.served
    (both_in trace pages v.retired (files_of v) (none_retired trace pages v.retired none) (each_held trace pages below (files_of v) serving.once images held.1 kept synced tight (all_fit below distinct)))

-- ---- behind a merge of the leaf

but_false : (test written : Bool) → written ≡ false → cond test false written ≡ false
but_false true written none = refl
but_false false written none = none

module _ (v : State) (top : Placed) (others : List Placed) (leaf : Placed) (now : Trace) (still : (other : ℕ) → v.writes other ≡ false → file_of now other ≡ file_of v.since other) (number : leaf.number ≡ v.top.number) (rests : is_synced (file_of now v.top.number) ≡ true)
    (tight : (s : ℕ) → leaf.is_loose s ≡ false) where
  -- the ones that were left before
  still_left : (file : Placed) → IsLeftBehind v file → IsLeftBehind (succeeded_by v top others leaf now) file
  still_left file one = record {
    unwritten = but_false (file.number == v.top.number) (v.writes file.number) one.unwritten;
    synced = ap is_synced (still file.number one.unwritten) ∙ one.synced;
    tight = one.tight;
  }

  last_left : IsLeftBehind (succeeded_by v top others leaf now) leaf
  last_left = record {
    unwritten = ap (λ (b : Bool). cond b false (v.writes leaf.number)) (eq-eqb leaf.number v.top.number number);
    synced = ap (λ n. is_synced (file_of now n)) number ∙ rests;
    tight = tight;
  }

  all_left_behind : (files : List Placed) → AllByRecursion (IsLeftBehind v) files → AllByRecursion (IsLeftBehind (succeeded_by v top others leaf now)) (files ++ leaf ∷ [])
  all_left_behind [] all = (last_left, tt)
  all_left_behind (p ∷ files) all = (still_left p all.0, all_left_behind files all.1)

pub leaves_are_left : LeavesAreLeft
leaves_are_left id v target below layers now left done = all_left_behind v done.top done.others done.leaf now done.still done.is_retired.number done.rests done.is_retired.tight v.retired left
