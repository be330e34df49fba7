-- What a chain keeps in a session, where its store tells its content.
use Rattle.std.specs.Prelude.{◌≡◌, ◌<◌, ◌==◌, ◌-◌, ◌+◌, ℕ, Bool, true, false, if◌then◌else◌, is_some, List, [], ◌∷◌, ◌++◌, length, map, slice_index_or, Option, Some, None, option_map, IfSome, ⊤}
use Rattle.std.specs.List.{AllByRecursion}
use Rattle.store_model.specs.File.{is_synced}
use Rattle.store_model.specs.Trace.{Trace, file_of}
use Rattle.guest_model.specs.declared.call.Call.{Call}
use Rattle.guest_model.specs.declared.call.Caller.{Caller}
use Rattle.guest_model.specs.declared.call.Entry.{Entry}
use Rattle.guest_model.specs.Calls.{Disk, is_named}
use Rattle.guest_model.specs.History.{History, either, is_dirty, is_flush, replay}
use Rattle.chain_model.specs.Layers.{Layer as SectorLayer, through, with_call}
use Rattle.chain_model.specs.Members.{IsParentOf, Ties, layers_of, Way}
use Rattle.chain_model.specs.Images.{Placed, members_of}
use Rattle.chain_model.specs.Moments.{EachOpensToPrefix}
use Rattle.chain_model.specs.Sessions.{IsServed, LooseAtTop, LooseInMerge}
use Rattle.chain_model.specs.PhaseLaws.{IsNamedOnce, loosened}
use Rattle.layer_session.specs.declared.file.Layer.{Layer}
use Rattle.layer_session.specs.declared.file_layer.FileLayer.{FileLayer}
use Rattle.layer_session.specs.Keeping.{Serves}
use Rattle.layer_session.specs.FileLayers.{HaveFiles, log_number, number_of, table_parts}
use Rattle.layer_session.specs.Updating.{TurnsInto, turned}
use Rattle.table_pages.specs.declared.tables.TableParts.{TableParts}
use Rattle.vhdx_format.specs.declared.log_entry.Page.{Page}
use Rattle.chain_model.specs.Merges.{IsUnderWay}
use Rattle.merge_core.specs.Copied.{marks_of}
use Rattle.chain_core.specs.declared.layers.Underway.{Underway}
use Rattle.chain_core.specs.declared.layers.Retiring.{Retiring}
use Rattle.chain_model.specs.Stripes.{per_stripe, stamp, stripe_count}
use Rattle.merge_core.specs.Stamping.{stamps_of}
use Rattle.chain_core.specs.declared.layers.Layers.{Layers}

-- How a merge stands: what source and target had of each sector when it began, and which stripes are copied.
pub record Merging : Type 0 where
  pub first : SectorLayer
  pub before : SectorLayer
  pub marks : ℕ → Bool

-- The files below the leaf, from its parent to the base: no merge is under way; or one is, of a source that isn't the leaf into its
-- parent, the target, `above` being those between the leaf and the source; or the leaf itself is merged into its parent, `first` and
-- `before` being what the leaf and the target had of each sector when that began.
pub data Rest : Type 0 where
  plain : (others : List Placed) → Rest
  merging : (above : List Placed) (source target : Placed) (below : List Placed) → Merging → Rest
  retiring : (target : Placed) (below : List Placed) (first before : SectorLayer) → Rest

abbrev pub others_of : Rest → List Placed
others_of (plain others) = others
others_of (merging above source target below m) = above ++ (source ∷ target ∷ below)
others_of (retiring target below first before) = target ∷ below

-- What is said of a session and kept by no code: the name that it was opened by, with the files to which that led and the one that a
-- merge may drop; the retired leaves behind that name, its leaf and the files below it, the disk when it began, its history, and the
-- moment when it began.
pub record State : Type 0 where
  pub leaf : Way
  pub retired : List Placed
  pub top : Placed
  pub rest : Rest
  pub opening : Disk
  pub history : History
  pub began : Trace
  -- the files that it may change, by their numbers, and the moment since which no other file was changed: when it began, when its merge
  -- was prepared, or when files that it only reads were sealed
  pub writes : ℕ → Bool
  pub since : Trace

-- P where the leaf itself is merged
abbrev pub NextIn : Rest → Type 0 → Type 0
NextIn (plain others) P = ⊤
NextIn (merging above source target below m) P = ⊤
NextIn (retiring target below first before) P = P

-- the files of the chain, from the leaf to the base
abbrev pub files_of : State → List Placed
files_of v = v.top ∷ others_of v.rest

-- the size of a sector
abbrev pub sector_of : State → ℕ
sector_of v = v.top.member.ties.geometry.sector

-- the disk of the history
abbrev pub disk_now : State → Disk
disk_now v = replay (sector_of v) v.opening v.history

-- its dirty sectors
abbrev pub dirty_now : State → ℕ → Bool
dirty_now v = is_dirty (sector_of v) v.history

-- ---- calls

-- a caller's call, as it stands in the history
abbrev pub entry : Caller → Call → Entry
entry who call = record { guest = who.guest; no = who.no; call = call }

-- a file while a call goes on: what was loose and what the call names may be loose
abbrev pub wide : ℕ → Call → Placed → Placed
wide z call file = loosened (either file.is_loose (is_named z call)) file

-- A file once the call was made on it: its layer has the call, and what was loose or is named is loose; behind a Flush, which is a
-- commit, nothing is.
abbrev pub made : ℕ → Call → Placed → Placed
made z call file = record file {
  member = record file.member { layer = with_call z call file.member.layer };
  is_loose = λ s. if is_flush call then false else either file.is_loose (is_named z call) s;
}

-- the state behind a call
abbrev pub with_entry : Entry → State → State
with_entry e v = record v { top = made (sector_of v) e.call v.top; history = v.history ++ e ∷ [] }

-- ---- the invariant

-- what some files say of a sector, the upper one first
abbrev pub seen_in : List Placed → SectorLayer
seen_in files = through (layers_of (members_of files))

-- Layers have these files of the store: in a session the leaf's layer serves the first, and the others are read; with no session all are
-- read, and nothing is loose.
abbrev pub AreHeld : Option Layer → List FileLayer → Trace → Placed → List Placed → Type 0
AreHeld None below trace top others = ((s : ℕ) → top.is_loose s ≡ false) × HaveFiles below trace (top ∷ others)
AreHeld (Some leaf) below trace top others = Serves leaf trace top × HaveFiles below trace others

-- a file is in a session: its log has a last entry
abbrev pub is_session : FileLayer → Bool
is_session l = is_some (log_number l)

-- Only the leaf has loose sectors, which are dirty ones; while a merge is under way the target has, too, of those that the source owns.
abbrev pub IsLoose : (ℕ → Bool) → Placed → Rest → Type 0
IsLoose is_dirty top (plain others) = LooseAtTop is_dirty (top ∷ others)
IsLoose is_dirty top (merging above source target below m) = LooseInMerge is_dirty (top ∷ above) source target below
IsLoose is_dirty top (retiring target below first before) = LooseInMerge is_dirty [] top target below

-- no file was changed since that moment but those that it may change
abbrev pub LeavesOthers : State → Trace → Type 0
LeavesOthers v trace = (other : ℕ) → v.writes other ≡ false → file_of trace other ≡ file_of v.since other

-- nothing of a file was unsynced then, if it is none of them
abbrev pub WasSynced : (ℕ → Bool) → Trace → Placed → Type 0
WasSynced writes since file = writes file.number ≡ false → is_synced (file_of since file.number) ≡ true

-- of some files those in a session are the ones that it may change
abbrev pub AreWritten : (ℕ → Bool) → List FileLayer → Type 0
AreWritten writes layers = AllByRecursion (λ l. writes (number_of l) ≡ is_session l) layers

-- the file directly above the source: the leaf where none stands between
abbrev pub child_of : Placed → List Placed → Placed
child_of top [] = top
child_of top (file ∷ above) = child_of file above

-- These pages give a child the target for its parent: with them its metadata has a locator that names the target as it is, and it is tied
-- else as before.
pub record Relinks (table_len : ℕ) (pages : List Page) (child target : Placed) : Type 0 where
  pub ties : Ties
  pub region : List ℕ
  pub into : TurnsInto table_len pages child ties region
  pub retired : ties.retired ≡ child.member.ties.retired
  pub parent : IsParentOf (turned ties region child).member target.member

-- what the layer of the child goes by, if it is in a session: that of the leaf, or of the file before the source's place
abbrev pub child_parts : Option Layer → List FileLayer → ℕ → Option TableParts
child_parts leaf below place = if place == 0 then option_map (λ (l : Layer). l.tables.parts) leaf else slice_index_or (map (λ l. Some (table_parts l)) below) (place - 1) None

-- A merge that the code keeps is the one under way: of the source at its place, with the marks of the stripes that are copied. What the
-- source owns in a marked stripe is in the target, and elsewhere both are as they were. The pages that it keeps relink the child.
pub record IsUnder (z : ℕ) (writes : ℕ → Bool) (layers : Layers) (u : Underway) (top : Placed) (above : List Placed) (source target : Placed) (m : Merging) : Type 0 where
  pub place : u.source ≡ length above
  pub written : writes target.number ≡ true
  pub child_written : writes (child_of top above).number ≡ true
  pub parts : TableParts
  pub goes_by : child_parts layers.leaf layers.below.items u.source ≡ Some parts
  pub relinks : Relinks parts.bat_len u.relink (child_of top above) target
  pub marks : (t : ℕ) → marks_of u.marks t ≡ m.marks t
  pub under_way : IsUnderWay z m.first m.before [] m.marks source.member.layer target.member.layer

-- the code keeps a merge where one is under way
abbrev pub IsCourse : ℕ → (ℕ → Bool) → Layers → Option Underway → Placed → Rest → Type 0
IsCourse z writes layers None top (plain others) = ⊤
IsCourse z writes layers None top (merging above source target below m) = ⊥
IsCourse z writes layers None top (retiring target below first before) = ⊤
IsCourse z writes layers (Some u) top (plain others) = ⊥
IsCourse z writes layers (Some u) top (merging above source target below m) = IsUnder z writes layers u top above source target m
IsCourse z writes layers (Some u) top (retiring target below first before) = ⊥

-- ---- the merge of the leaf

-- a file's ties with this name for the file that stands for it, or with none
abbrev pub with_retired : Option (List ℕ) → Placed → Ties
with_retired name file = record (file.member.ties) { retired = name }

-- These pages give a file this retired name, or take it away: it is tied else as before.
pub record Renames (table_len : ℕ) (pages : List Page) (file : Placed) (name : Option (List ℕ)) : Type 0 where
  pub region : List ℕ
  pub into : TurnsInto table_len pages file (with_retired name file) region

-- a file has no retired name, or these pages take it away
abbrev pub IsCleared : ℕ → Option (List Page) → Placed → Type 0
IsCleared table_len None file = file.member.ties.retired ≡ None
IsCleared table_len (Some pages) file = Renames table_len pages file None

-- what the layer of the target goes by: the first below the leaf
abbrev pub target_parts : List FileLayer → Option TableParts
target_parts below = slice_index_or (map (λ l. Some (table_parts l)) below) 0 None

-- A merge of the leaf that the code keeps is the one under way: the leaf is what it was with the calls made on it, and what it owns in a
-- stripe that is marked is in the target; each stripe has its stamp. The pages that it keeps retire the leaf in favour of the target, and
-- take the target's own retired name away.
pub record IsLeaving (z : ℕ) (writes : ℕ → Bool) (h : History) (layers : Layers) (r : Retiring) (top target : Placed) (first before : SectorLayer) : Type 0 where
  pub some : 0 < per_stripe z
  pub written : writes target.number ≡ true
  pub parts : TableParts
  pub goes_by : option_map (λ (l : Layer). l.tables.parts) layers.leaf ≡ Some parts
  pub retires : Renames parts.bat_len r.retire top (Some target.member.name)
  pub lower : TableParts
  pub lower_goes_by : target_parts layers.below.items ≡ Some lower
  pub clears : IsCleared lower.bat_len r.clear target
  pub each : r.marks.stripes ≡ stripe_count z top.member.ties.geometry.sectors
  pub stamps : (t : ℕ) → t < stripe_count z top.member.ties.geometry.sectors → stamps_of r.stamps t ≡ stamp z h t
  pub under_way : IsUnderWay z first before h (marks_of r.marks) top.member.layer target.member.layer

-- the file that a merge may drop is the source of the one under way, the leaf having this name
abbrev pub DropsSource : Option (List ℕ) → List ℕ → Rest → Type 0
DropsSource drops top (plain others) = ⊤
DropsSource drops top (merging above source target below m) = drops ≡ Some source.member.name
DropsSource drops top (retiring target below first before) = drops ≡ Some top

-- the code keeps one where one is under way
abbrev pub IsRetiring : ℕ → (ℕ → Bool) → History → Layers → Option Retiring → Placed → Rest → Type 0
IsRetiring z writes h layers None top (plain others) = ⊤
IsRetiring z writes h layers None top (merging above source target below m) = ⊤
IsRetiring z writes h layers None top (retiring target below first before) = ⊥
IsRetiring z writes h layers (Some r) top (plain others) = ⊥
IsRetiring z writes h layers (Some r) top (merging above source target below m) = ⊥
IsRetiring z writes h layers (Some r) top (retiring target below first before) = IsLeaving z writes h layers r top target first before

-- The place that the next call has in the history: it is asked where the leaf itself is merged, for the stamps.
abbrev pub IsNextPlace : ℕ → State → Type 0
IsNextPlace place v = NextIn v.rest (place ≡ length v.history + 1)

-- A session in which no change failed: the history's disk is that of its files, which its layers have; only the leaf has loose sectors,
-- which are dirty ones, and the target of a merge under way, of those that its source owns; and each moment since it began opens to a
-- prefix of the history.
pub record IsServing (layers : Layers) (v : State) (trace : Trace) : Type 0 where
  pub once : IsNamedOnce trace
  pub geometry : layers.geometry ≡ v.top.member.ties.geometry
  pub served : IsServed (sector_of v) v.opening v.history v.leaf v.retired (files_of v) trace
  pub loose : IsLoose (dirty_now v) v.top v.rest
  pub course : IsCourse (sector_of v) v.writes layers layers.merge v.top v.rest
  pub leaving : IsRetiring (sector_of v) v.writes v.history layers layers.retiring v.top v.rest
  pub drops : DropsSource v.leaf.drops v.top.member.name v.rest
  pub held : AreHeld layers.leaf layers.below.items trace v.top (others_of v.rest)
  -- each sector of the disk is in one of the files
  pub whole : (s : ℕ) → s < v.top.member.ties.geometry.sectors → is_some (seen_in (files_of v) s) ≡ true
  -- nothing of a file that is only read was unsynced, and it hasn't changed since
  pub synced : AllByRecursion (WasSynced v.writes v.since) (files_of v)
  pub written : IfSome layers.leaf (λ leaf. (v.writes v.top.number ≡ true) × AreWritten v.writes layers.below.items)
  pub still : LeavesOthers v trace
  pub past : EachOpensToPrefix (sector_of v) v.opening v.history (λ s. false) v.leaf v.began trace
