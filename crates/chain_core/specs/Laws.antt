-- What is known of a session, as facts that a contract can name.
use Rattle.std.specs.Prelude.{◌≡◌, ℕ, ◌==◌, true, false, if◌then◌else◌, List, [], ◌∷◌, Some, None}
use Rattle.std.specs.List.{AllByRecursion}
use Rattle.vhdx_format.specs.declared.log_entry.Page.{Page}
use Rattle.store_model.specs.File.{is_synced}
use Rattle.store_model.specs.Trace.{ReadsAreImages, Trace, file_of}
use Rattle.chain_model.specs.Files.{OpensTo, held_files}
use Rattle.layer_session.specs.Calls.{own_file}
use Rattle.layer_session.specs.declared.file.Layer.{Layer}
use Rattle.layer_session.specs.declared.file_layer.FileLayer.{FileLayer}
use Rattle.layer_session.specs.declared.file_layer.FileLayer.TheVariants.{Session, Read}
use Rattle.chain_model.specs.Images.{Placed, members_of}
use Rattle.chain_model.specs.Members.{names_of}
use Rattle.chain_core.specs.Answering.{EachLinks}
use Rattle.chain_core.specs.Finished.{IsSucceeded, succeeded_by}
use Rattle.chain_core.specs.States.{IsServing, State, disk_now, files_of, plain}
use Rattle.chain_core.specs.declared.layers.Layers.{Layers}

-- the pages that the sessions of some files have changed and not yet committed, by the number of their file
abbrev pub waiting : List FileLayer → ℕ → List Page
waiting [] number = []
waiting (Session l ∷ layers) number = if number == own_file l then l.tables.pending else waiting layers number
waiting (Read l ∷ layers) number = waiting layers number

-- those of a session whose leaf and other files these are
abbrev pub changed_pages : Layer → List FileLayer → ℕ → List Page
changed_pages leaf below number = if number == own_file leaf then leaf.tables.pending else waiting below number

-- A leaf that a session has left behind in a merge: it isn't changed any more, and nothing of it was unsynced when it was left, or is loose.
pub record IsLeftBehind (v : State) (file : Placed) : Type 0 where
  pub unwritten : v.writes file.number ≡ false
  pub synced : is_synced (file_of v.since file.number) ≡ true
  pub tight : (s : ℕ) → file.is_loose s ≡ false

-- so it is of each of a state's retired leaves
abbrev pub AllLeftBehind : State → Type 0
AllLeftBehind v = AllByRecursion (IsLeftBehind v) v.retired

-- As held, each with its changed pages, the files of a session open to the history's disk, whatever a merge has copied, and by whichever leaf
-- since one was merged.
abbrev pub SessionsAreHeld : Type 0
SessionsAreHeld =
    (layers : Layers) (leaf : Layer) (v : State) (trace : Trace) → layers.leaf ≡ Some leaf → ReadsAreImages trace → AllLeftBehind v → IsServing layers v trace
    → OpensTo (held_files trace (changed_pages leaf layers.below.items)) v.leaf.name (disk_now v)

-- Where files are only read they open to it as a read gives them, if nothing of them is unsynced.
abbrev pub ReadingsAreHeld : Type 0
ReadingsAreHeld =
    (layers : Layers) (others : List Placed) (v : State) (trace : Trace) → layers.leaf ≡ None → v.rest ≡ plain others → v.retired ≡ [] → ReadsAreImages trace
    → AllByRecursion (λ f. is_synced (file_of trace f.number) ≡ true) (files_of v) → IsServing layers v trace
    → OpensTo (held_files trace (waiting layers.below.items)) v.leaf.name (disk_now v)

-- Behind a finish of the leaf's merge that leaf is left behind too: with no such merge a state has none but those that it began with.
abbrev pub LeavesAreLeft : Type 0
LeavesAreLeft =
    (id : List ℕ) (v : State) (target : Placed) (below : List Placed) (layers : Layers) (now : Trace) → AllLeftBehind v → (done : IsSucceeded id v target below layers now)
    → AllLeftBehind (succeeded_by v done.top done.others done.leaf now)

-- In each image the leaf's name leads to the files of the session's chain, and to no others: to the source of a merge until it is
-- finished, and from then on to the others without it.
abbrev pub SessionsLinkAlike : Type 0
SessionsLinkAlike = (layers : Layers) (v : State) (trace : Trace) → IsServing layers v trace → EachLinks v.leaf.name (names_of (members_of (files_of v))) trace
