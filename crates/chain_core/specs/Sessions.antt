-- What stands of a session for every store, whether it tells its content or not.
use Rattle.std.specs.Prelude.{◌≡◌, ◌≢◌, ◌+◌, ◌-◌, ◌*◌, ◌^◌, ◌||◌, ◌<◌, ◌≤◌, ◌==◌, if◌then◌else◌, ⊤, ℕ, Bool, true, false, is_some, List, [], ◌∷◌, length, map, slice_index_or, Option, Some, None, option_map, IfSome}
use Rattle.vx_base.specs.declared.parts.Geometry.{Geometry}
use Rattle.store_model.specs.Disk.{Disk, WhereTold}
use Rattle.store_model.specs.declared.fault.StoreFault.{StoreFault}
use Rattle.guest_model.specs.declared.call.Entry.{Entry}
use Rattle.layer_session.specs.declared.file.Layer.{Layer}
use Rattle.layer_session.specs.declared.file_layer.FileLayer.{FileLayer}
use Rattle.layer_session.specs.declared.file_layer.FileLayer.TheVariants as kind
use Rattle.layer_session.specs.Calls.{own_file}
use Rattle.layer_session.specs.Keeping.{IsReady}
use Rattle.layer_session.specs.FileLayers.{AreOthers, AreReadyFiles, FileTurns, file_numbers, log_header, log_number}
use Rattle.log_write.specs.Writing.{HasNextNumber}
use Rattle.vx_base.specs.declared.parts.Header.{Header}
use Rattle.std.specs.List.{AllByRecursion}
use Rattle.chain_model.specs.Stripes.{stripe_count}
use Rattle.merge_core.specs.declared.marks.Marks.{Marks}
use Rattle.chain_core.specs.declared.layers.Underway.{Underway}
use Rattle.chain_core.specs.declared.layers.Retiring.{Retiring}
use Rattle.chain_core.specs.declared.chain.Chain.{Chain}
use Rattle.chain_core.specs.declared.layers.Layers.{Layers}

-- A session: the layers of its files, how many events it had, the fault that broke it, how many entries its recorder has and which, if
-- it tells them, and its store.
pub record Session : Type 0 where
  pub layers : Layers
  pub events : ℕ
  pub broken : Option StoreFault
  pub noted : ℕ
  pub told : Option (List Entry)
  pub disk : Disk

-- that of a chain, by what its store and its recorder tell
abbrev pub seen : {S R T : Type 0} → (S → Disk) → (R → ℕ) → (R → Option (List Entry)) → Chain S R T → Session
seen disk noted told chain = record {
  layers = chain.layers;
  events = chain.events;
  broken = chain.broken;
  noted = noted chain.recorder;
  told = told chain.recorder;
  disk = disk chain.store;
}

-- only the count of events is another
abbrev pub IsCounted : {S R T : Type 0} → Chain S R T → Chain S R T → Type 0
IsCounted old new = new ≡ record old { events = new.events }

-- the leaf's layer in a session can be written; its file is no other layer's
pub record IsReadyLeaf (geometry : Geometry) (below : List FileLayer) (disk : Disk) (leaf : Layer) : Type 0 where
  pub ready : IsReady leaf disk
  pub sector : leaf.tables.parts.sector ≡ geometry.sector
  pub sectors : leaf.tables.parts.sectors ≡ geometry.sectors
  pub apart : AreOthers (own_file leaf) below

-- the number of the leaf's file in the store, where it is in a session
abbrev pub number_of_leaf : Option Layer → ℕ
number_of_leaf None = 0
number_of_leaf (Some leaf) = own_file leaf

abbrev pub leaf_number : Layers → ℕ
leaf_number layers = number_of_leaf layers.leaf

-- no number stands twice
abbrev pub AreApart : List ℕ → Type 0
AreApart [] = ⊤
AreApart (n ∷ numbers) = AllByRecursion (λ other. other ≢ n) numbers × AreApart numbers

-- the layer at a place is that of a file in a session
abbrev pub is_session_at : List FileLayer → ℕ → Bool
is_session_at layers at = is_some (slice_index_or (map log_number layers) at None)

-- A merge of files below the leaf, which is in a session: its source and its target are among them, the target in a session, and so is the
-- file directly above the source; and each stripe of the disk has its mark.
pub record IsMergeOf (geometry : Geometry) (top : Option Layer) (below : List FileLayer) (merge : Underway) : Type 0 where
  pub session : is_some top ≡ true
  pub there : merge.source + 1 < length below
  pub target : is_session_at below (merge.source + 1) ≡ true
  pub child : 0 < merge.source → is_session_at below (merge.source - 1) ≡ true
  pub stripes : merge.marks.stripes ≡ stripe_count geometry.sector geometry.sectors

-- the layer of the file directly above a source at this place: the leaf's, or that of the file before the place
abbrev pub child_layer : Option Layer → List FileLayer → ℕ → Option FileLayer
child_layer leaf below place = if place == 0 then option_map kind.Session leaf else slice_index_or (map (λ l. Some l) below) (place - 1) None

-- The pages that a merge keeps can be written into its child: they are few, and where the store tells its content they turn the child's
-- metadata.
pub record CanRelink (top : Option Layer) (below : List FileLayer) (disk : Disk) (merge : Underway) : Type 0 where
  pub few : length merge.relink ≤ 120
  pub turns : IfSome (child_layer top below merge.source) (λ l. WhereTold disk.told (FileTurns l merge.relink))

-- ---- the merge of the leaf

-- the header of the session of the file at a place
abbrev pub header_at : List FileLayer → ℕ → Option Header
header_at layers at = slice_index_or (map log_header layers) at None

-- A merge of the leaf, which is in a session, and so is the file below it, whose headers' numbers leave room for one more; and each stripe
-- of the disk has its mark and its stamp.
pub record IsRetiringOf (geometry : Geometry) (top : Option Layer) (below : List FileLayer) (r : Retiring) : Type 0 where
  pub session : is_some top ≡ true
  pub there : 0 < length below
  pub target : is_session_at below 0 ≡ true
  pub next : IfSome (header_at below 0) HasNextNumber
  pub size : geometry.sectors * geometry.sector ≤ 2 ^ 46
  pub stripes : r.marks.stripes ≡ stripe_count geometry.sector geometry.sectors
  pub stamps : length r.stamps.words.items ≡ stripe_count geometry.sector geometry.sectors

-- the layer of the file below the leaf
abbrev pub first_layer : List FileLayer → Option FileLayer
first_layer below = slice_index_or (map (λ l. Some l) below) 0 None

-- The pages that such a merge keeps can be written: they are few, and where the store tells its content they turn the metadata of the leaf,
-- and of the target those that take its retired name away.
pub record CanRetire (top : Option Layer) (below : List FileLayer) (disk : Disk) (r : Retiring) : Type 0 where
  pub few : length r.retire ≤ 120
  pub turns : IfSome top (λ l. WhereTold disk.told (FileTurns (kind.Session l) r.retire))
  pub clears : IfSome r.clear (λ pages. (length pages ≤ 120) × IfSome (first_layer below) (λ l. WhereTold disk.told (FileTurns l pages)))

-- one merge is under way at most
abbrev pub AtMostOne : Option Underway → Option Retiring → Type 0
AtMostOne None r = ⊤
AtMostOne (Some u) r = r ≡ None

-- layers of files that can be read, and those written that are in a session
pub record AreReady (layers : Layers) (disk : Disk) : Type 0 where
  pub sector : layers.geometry.sector ≡ 512
  pub leaf : IfSome layers.leaf (IsReadyLeaf layers.geometry layers.below.items disk)
  pub below : AreReadyFiles layers.geometry disk layers.below.items
  pub apart : AreApart (file_numbers layers.below.items)
  pub merge : IfSome layers.merge (IsMergeOf layers.geometry layers.leaf layers.below.items)
  pub relink : IfSome layers.merge (CanRelink layers.leaf layers.below.items disk)
  pub one : AtMostOne layers.merge layers.retiring
  pub retiring : IfSome layers.retiring (IsRetiringOf layers.geometry layers.leaf layers.below.items)
  pub retires : IfSome layers.retiring (CanRetire layers.leaf layers.below.items disk)

-- the numbers of the last entries of the logs, of the files that are in a session
abbrev pub log_numbers : Layers → List (Option ℕ)
log_numbers layers = option_map (λ (leaf : Layer). leaf.log.number) layers.leaf ∷ map log_number layers.below.items

-- each is at most this
abbrev pub IsLow : ℕ → Layers → Type 0
IsLow most layers = AllByRecursion (λ number. IfSome number (λ n. n ≤ most)) (log_numbers layers)

-- the marks of the merge that is under way, of a file below the leaf or of the leaf
abbrev pub marks_in : Option Underway → Option Retiring → Option Marks
marks_in (Some u) r = Some u.marks
marks_in None r = option_map (λ (r : Retiring). r.marks) r

abbrev pub kept_marks : Layers → Option Marks
kept_marks layers = marks_in layers.merge layers.retiring

-- one is under way
abbrev pub has_merge : Layers → Bool
has_merge layers = is_some layers.merge || is_some layers.retiring

-- none is
abbrev pub HasNoMerge : Layers → Type 0
HasNoMerge layers = (layers.merge ≡ None) × (layers.retiring ≡ None)

-- the merge that is under way stays as it is
abbrev pub KeepsMerge : Layers → Layers → Type 0
KeepsMerge old new = (new.merge ≡ old.merge) × (new.retiring ≡ old.retiring)

-- how many more entries than events a log may have: the start of a merge writes up to two, the event that finishes it up to three
abbrev pub slack : Bool → ℕ
slack true = 2
slack false = 4

-- Each entry of the history was an event, and each event wrote at most one entry of a log, but for the one that finished a merge; until a
-- change fails the layers are ready.
pub record IsSound (s : Session) : Type 0 where
  pub sector : s.layers.geometry.sector ≡ 512
  pub noted : s.noted ≤ s.events
  pub few : s.events ≤ 2 ^ 63
  pub ready : s.broken ≡ None → AreReady s.layers s.disk
  pub low : s.broken ≡ None → IsLow (s.events + slack (has_merge s.layers)) s.layers
