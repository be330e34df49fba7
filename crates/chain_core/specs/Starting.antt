-- How a session starts.
use Rattle.std.specs.Prelude.{◌≡◌, ◌≢◌, ◌⊎◌, ◌==◌, ⊤, ◌+◌, ◌-◌, ◌^◌, ◌≤◌, ◌<◌, ℕ, true, false, is_some, List, [], ◌∷◌, Option, Some, None}
use Rattle.vx_base.specs.declared.parts.Geometry.{Geometry}
use Rattle.vx_base.specs.declared.parts.Parts.{Parts}
use Rattle.store_model.specs.Disk.{Disk, WhereBothTold, WhereTold}
use Rattle.store_model.specs.File.{seen}
use Rattle.store_model.specs.Trace.{EachMoment, Trace, file_of}
use Rattle.store_model.specs.declared.fault.SealFault.TheVariants as seal
use Rattle.guest_model.specs.Calls.{Disk as GuestDisk}
use Rattle.log_write.specs.Writing.{BeginFails}
use Rattle.log_write.specs.declared.ids.SessionIds.{SessionIds}
use Rattle.chain_model.specs.Images.{Placed, members_of}
use Rattle.chain_model.specs.Members.{disk_of, Way}
use Rattle.chain_model.specs.Moments.{EachOpens}
use Rattle.chain_model.specs.Sessions.{as_read}
use Rattle.link_rules.specs.declared.linked.LinkedFile.{LinkedFile}
use Rattle.make_file.specs.Identifiers.{Draws, first_unfit}
use Rattle.merge_plan.specs.Attached.{shown_from}
use Rattle.merge_plan.specs.Drawing.{drawn_ids}
use Rattle.merge_plan.specs.declared.drawing.NewIds.{NewIds}
use Rattle.layer_session.specs.declared.file_layer.FileLayer.{FileLayer}
use Rattle.layer_session.specs.declared.file_layer.FileLayer.TheVariants as kind
use Rattle.layer_session.specs.Begins.{in_session}
use Rattle.layer_session.specs.ReadOnly.{IsReadOf, SomeReadFailed}
use Rattle.chain_core.specs.States.{IsServing, State, plain}
use Rattle.chain_core.specs.Sessions.{leaf_number}
use Rattle.chain_core.specs.declared.layers.Layers.{Layers}
use Rattle.chain_core.specs.declared.starting.Mode.{Mode}
use Rattle.chain_core.specs.declared.starting.Mode.TheVariants.{Guests, ReadOnly}
use Rattle.chain_core.specs.declared.starting.StartRefusal.{StartRefusal}
use Rattle.chain_core.specs.declared.starting.StartRefusal.TheVariants.{IdUnfit, Spent, Store, NoRoom}
use Rattle.link_rules.specs.Chains.{names_of}

-- ---- what is started

-- the number of the leaf's header leaves room for those of a session
abbrev pub BeginsLow : List LinkedFile → Type 0
BeginsLow [] = ⊤
BeginsLow (leaf ∷ others) = leaf.parts.header.number ≤ 2 ^ 64 - 2 ^ 32

-- it doesn't, being this one
abbrev pub BeginsHigh : List LinkedFile → ℕ → Type 0
BeginsHigh [] number = ⊥
BeginsHigh (leaf ∷ others) number = (number ≡ leaf.parts.header.number) × (2 ^ 64 - 2 ^ 32 < number)

-- ---- the disk

-- these files of the store as a chain sees them
abbrev pub placed_from : Trace → ℕ → List LinkedFile → List Placed
placed_from trace number [] = []
placed_from trace number (file ∷ files) = as_read trace number (seen (file_of trace number)) file.parts ∷ placed_from trace (number + 1) files

-- the disk of the files as they were attached
abbrev pub opening_disk : Trace → List LinkedFile → GuestDisk
opening_disk trace files = disk_of (members_of (placed_from trace 0 files))

-- where a leaf's name leads, to these files, of which a merge may drop one
abbrev pub way_to : LinkedFile → List LinkedFile → Option (List ℕ) → Way
way_to leaf files drops = record { name = leaf.name; first = names_of files; drops = drops }

-- the state of a session that started at this moment over these files, the leaf having these numbers in it
abbrev pub started : Trace → LinkedFile → List LinkedFile → Parts → State
started trace leaf others parts = record {
  leaf = way_to leaf (leaf ∷ others) None;
  retired = [];
  top = as_read trace 0 (seen (file_of trace 0)) parts;
  rest = plain (placed_from trace 1 others);
  opening = opening_disk trace (leaf ∷ others);
  history = [];
  began = trace;
  writes = λ number. number == 0;
  since = trace;
}

-- each image of each moment opens, from the leaf's name and by all the files, to the disk of these as they were attached
abbrev pub EachOpensAlike : List LinkedFile → Option Trace → Option Trace → Type 0
EachOpensAlike [] old new = ⊤
EachOpensAlike (leaf ∷ others) old new =
    WhereBothTold (λ trace now. EachMoment (EachOpens (way_to leaf (leaf ∷ others) None) (λ s. false) (opening_disk trace (leaf ∷ others))) trace now) old new

-- no file but the first was changed
abbrev pub LeavesOthersFrom : Option Trace → Option Trace → Type 0
LeavesOthersFrom old new = WhereBothTold (λ trace now. (other : ℕ) → other ≢ 0 → file_of now other ≡ file_of trace other) old new

-- layers serve the state that starts, the leaf having these numbers
abbrev pub StartsWith : (Parts → Parts) → List LinkedFile → Layers → Option Trace → Option Trace → Type 0
StartsWith in_it [] layers old new = ⊤
StartsWith in_it (leaf ∷ others) layers old new = WhereBothTold (λ trace now. IsServing layers (started trace leaf others (in_it leaf.parts)) now) old new

-- they have the leaf's geometry
abbrev pub IsOfDisk : List LinkedFile → Geometry → Type 0
IsOfDisk [] geometry = ⊤
IsOfDisk (leaf ∷ others) geometry = geometry ≡ leaf.parts.geometry

-- ---- identifiers

-- new identifiers as the session's
abbrev pub session_ids : NewIds → SessionIds
session_ids ids = record { file_write = ids.file_write; data_write = Some ids.data_write; log = ids.log }

-- a file's numbers in its session
abbrev pub under : NewIds → Parts → Parts
under ids parts = in_session parts (session_ids ids)

-- three were drawn
pub record HasDrawn (before now : Option (List (List ℕ))) : Type 0 where
  pub ids : NewIds
  pub draws : Draws (drawn_ids ids) before now

-- three were drawn, and of those that are zero, shown by a file or drawn before this one is the first
pub record JudgesIds (files : List LinkedFile) (disk : Disk) (before now : Option (List (List ℕ))) (unfit : Option (List ℕ)) (ids : NewIds) : Type 0 where
  pub draws : Draws (drawn_ids ids) before now
  pub known : List (List ℕ)
  pub shown_are : WhereTold disk.told (λ trace. known ≡ shown_from trace 0 files)
  pub judged : first_unfit known (drawn_ids ids) ≡ unfit

-- ---- the answer

-- The leaf's session has begun, under new identifiers, each of them fit.
pub record HasBegun (files : List LinkedFile) (layers : Layers) (old new : Disk) (before now : Option (List (List ℕ))) : Type 0 where
  pub ids : NewIds
  pub fit : JudgesIds files old before now None ids
  pub session : is_some layers.leaf ≡ true
  pub leaf : leaf_number layers ≡ 0
  pub serving : StartsWith (under ids) files layers old.told new.told
  pub counts : new ≡ record old { told = new.told }

-- The files can be read, and nothing was drawn or changed.
pub record IsRead (files : List LinkedFile) (layers : Layers) (old new : Disk) (before now : Option (List (List ℕ))) : Type 0 where
  pub undrawn : now ≡ before
  pub session : is_some layers.leaf ≡ false
  pub serving : StartsWith (λ parts. parts) files layers old.told new.told
  pub same : new ≡ old

abbrev pub HasStarted : Mode → List LinkedFile → Layers → Disk → Disk → Option (List (List ℕ)) → Option (List (List ℕ)) → Type 0
HasStarted Guests files layers old new before now = BeginsLow files × HasBegun files layers old new before now
HasStarted ReadOnly files layers old new before now = IsRead files layers old new before now

-- Why no session started: an identifier is unfit; a read of a file failed, or a change of the leaf; or memory ran out, before anything
-- was changed.
abbrev pub RefusesGuests : List LinkedFile → Disk → Disk → Option (List (List ℕ)) → Option (List (List ℕ)) → StartRefusal → Type 0
RefusesGuests files old new before now (IdUnfit id) = ((ids : NewIds) × JudgesIds files old before now (Some id) ids) × (new ≡ old)
RefusesGuests files old new before now (Spent number) = ⊥
RefusesGuests files old new before now (Store fault) = HasDrawn before now × (SomeReadFailed old new fault ⊎ BeginFails 0 old new (seal.Store fault))
RefusesGuests files old new before now NoRoom = HasDrawn before now × (new ≡ old)

-- Before that it is refused exactly where the number of the leaf's header leaves no room, and then nothing is drawn or changed.
abbrev pub RefusesSession : List LinkedFile → Disk → Disk → Option (List (List ℕ)) → Option (List (List ℕ)) → StartRefusal → Type 0
RefusesSession files old new before now (Spent number) = BeginsHigh files number × (now ≡ before) × (new ≡ old)
RefusesSession files old new before now (IdUnfit id) = BeginsLow files × RefusesGuests files old new before now (IdUnfit id)
RefusesSession files old new before now (Store fault) = BeginsLow files × RefusesGuests files old new before now (Store fault)
RefusesSession files old new before now NoRoom = BeginsLow files × RefusesGuests files old new before now NoRoom

-- A chain that is only read doesn't start for want of memory alone.
abbrev pub RefusesReading : Disk → Disk → Option (List (List ℕ)) → Option (List (List ℕ)) → StartRefusal → Type 0
RefusesReading old new before now (IdUnfit id) = ⊥
RefusesReading old new before now (Spent number) = ⊥
RefusesReading old new before now (Store fault) = ⊥
RefusesReading old new before now NoRoom = (now ≡ before) × (new ≡ old)

abbrev pub RefusesStart : Mode → List LinkedFile → Disk → Disk → Option (List (List ℕ)) → Option (List (List ℕ)) → StartRefusal → Type 0
RefusesStart Guests files old new before now refusal = RefusesSession files old new before now refusal
RefusesStart ReadOnly files old new before now refusal = RefusesReading old new before now refusal

-- ---- of the small functions

-- this layer reads this file, of this number
abbrev pub ReadsFile : ℕ → LinkedFile → FileLayer → Type 0
ReadsFile number file (kind.Session l) = ⊥
ReadsFile number file (kind.Read l) = IsReadOf file.parts number l

-- these are layers that read these files, numbered from this one on
abbrev pub AreReadOf : ℕ → List LinkedFile → List FileLayer → Type 0
AreReadOf number [] [] = ⊤
AreReadOf number [] (layer ∷ layers) = ⊥
AreReadOf number (file ∷ files) [] = ⊥
AreReadOf number (file ∷ files) (layer ∷ layers) = ReadsFile number file layer × AreReadOf (number + 1) files layers

-- the leaf's session doesn't begin
abbrev pub BeginsNot : Disk → Disk → StartRefusal → Type 0
BeginsNot old new (IdUnfit id) = ⊥
BeginsNot old new (Spent number) = ⊥
BeginsNot old new (Store fault) = BeginFails 0 old new (seal.Store fault)
BeginsNot old new NoRoom = new ≡ old
