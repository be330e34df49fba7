-- What the answer of a guest call says: for every store, and where it tells its content.
use Rattle.std.specs.Prelude.{◌≡◌, ◌+◌, ◌/◌, ℕ, List, Bool, true, false, is_some, length, ◌++◌, ◌∷◌, [], Option, Some, None, option_map, not, Result, Ok, Err, IfSome}
use Rattle.std.specs.List.{AllByRecursion}
use Rattle.store_model.specs.declared.fault.StoreFault.{StoreFault}
use Rattle.store_model.specs.Disk.{Disk, WhereBothTold}
use Rattle.store_model.specs.Trace.{NamedBytes, Trace, EachMoment, file_of}
use Rattle.store_model.specs.File.{is_synced, seen}
use Rattle.guest_model.specs.declared.refusal.ChainRefusal.{ChainRefusal}
use Rattle.guest_model.specs.declared.refusal.ChainRefusal.TheVariants as refusals
use Rattle.guest_model.specs.declared.refusal.ChainRefusal.TheVariants.{Broken, ReadFault, FileFull, NoRoom}
use Rattle.guest_model.specs.declared.call.Call.{Call}
use Rattle.guest_model.specs.declared.call.Call.TheVariants as calls
use Rattle.guest_model.specs.declared.call.Caller.{Caller}
use Rattle.guest_model.specs.declared.call.Entry.{Entry}
use Rattle.guest_model.specs.Calls.{is_named}
use Rattle.guest_model.specs.History.{either}
use Rattle.chain_model.specs.Files.{IsLinked, files_in}
use Rattle.chain_model.specs.Images.{IsCleanImage, members_of}
use Rattle.chain_model.specs.Members.{Member, names_of}
use Rattle.chain_model.specs.Moments.{EachOpens, EachOpensToPrefix}
use Rattle.layer_session.specs.declared.file.Layer.{Layer}
use Rattle.layer_session.specs.declared.file.LayerFault.{LayerFault}
use Rattle.layer_session.specs.declared.file.LayerFault.TheVariants as layer
use Rattle.layer_session.specs.Calls.{Fails}
use Rattle.layer_session.specs.ReadOnly.{SomeReadFailed}
use Rattle.layer_session.specs.Steps.{has_room, is_full}
use Rattle.layer_session.specs.Unnamed.{NamesNoLog}
use Rattle.chain_core.specs.Refusing.{refused}
use Rattle.chain_core.specs.Sessions.{Session, leaf_number}
use Rattle.chain_core.specs.States.{State, IsNextPlace, IsServing, LeavesOthers, dirty_now, disk_now, entry, files_of, sector_of, with_entry}
use Rattle.chain_core.specs.declared.layers.Layers.{Layers}

-- ---- for every store

-- the place of a call in the history; where it was refused the history stays
abbrev pub IsNoted : Entry → Session → Session → Result ℕ ChainRefusal → Type 0
IsNoted e old new (Ok place) = (new.told ≡ option_map (λ h. h ++ e ∷ []) old.told) × (new.noted ≡ old.noted + 1) × (place ≡ new.noted)
IsNoted e old new (Err refusal) = (new.told ≡ old.told) × (new.noted ≡ old.noted)

-- a fault that is told by its file and its count
abbrev pub fault_of : ℕ → ℕ → StoreFault
fault_of file count = record { file = file; count = count }

-- What a change that reached the files says of the store's counts, those of the leaf, and of the session's fault.
abbrev pub IsCausedBy : Session → Session → Result ℕ ChainRefusal → Type 0
IsCausedBy old new (Ok place) = (new.disk ≡ record (old.disk) { told = new.disk.told }) × (new.broken ≡ None)
IsCausedBy old new (Err NoRoom) = (new.disk ≡ old.disk) × (new.broken ≡ None)
IsCausedBy old new (Err (ReadFault file count)) = Fails (leaf_number old.layers) old.disk new.disk (layer.Read (fault_of file count)) × (new.broken ≡ None)
IsCausedBy old new (Err (FileFull next)) = Fails (leaf_number old.layers) old.disk new.disk (layer.FileFull next) × (new.broken ≡ None)
IsCausedBy old new (Err (Broken file count)) = Fails (leaf_number old.layers) old.disk new.disk (layer.Write (fault_of file count)) × (new.broken ≡ Some (fault_of file count))
IsCausedBy old new (Err other) = ⊥

-- What the answer of a read says of the store's counts: a read of some file failed, and nothing else has changed.
abbrev pub IsCausedByRead : Session → Session → Result ℕ ChainRefusal → Type 0
IsCausedByRead old new (Ok place) = (new.disk ≡ old.disk) × (new.broken ≡ None)
IsCausedByRead old new (Err NoRoom) = (new.disk ≡ old.disk) × (new.broken ≡ None)
IsCausedByRead old new (Err (ReadFault file count)) = SomeReadFailed old.disk new.disk (fault_of file count) × (new.broken ≡ None)
IsCausedByRead old new (Err other) = ⊥

-- Of a change of so many sectors: it is refused for want of room in the leaf exactly where there is none. `trims` says of which layers
-- blocks leave the file.
abbrev pub RoomIs : (Layer → Bool) → ℕ → ℕ → Layers → Disk → Result ℕ ChainRefusal → Type 0
RoomIs trims first count layers disk (Ok place) = IfSome layers.leaf (λ leaf. has_room (trims leaf) first count leaf disk)
RoomIs trims first count layers disk (Err (FileFull next)) = IfSome layers.leaf (λ leaf. is_full (trims leaf) first count next leaf disk)
RoomIs trims first count layers disk (Err (Broken file number)) = IfSome layers.leaf (λ leaf. has_room (trims leaf) first count leaf disk)
RoomIs trims first count layers disk (Err other) = Unit {0}

-- a call that asks for no room isn't refused for want of it
abbrev pub NeedsNoRoom : Result ℕ ChainRefusal → Type 0
NeedsNoRoom (Ok place) = Unit {0}
NeedsNoRoom (Err (FileFull next)) = ⊥
NeedsNoRoom (Err other) = Unit {0}

-- Once a call isn't refused before it reaches the files: what it notes, the cause of its answer, and its room in the leaf.
abbrev pub Notes : Caller → Call → Session → Session → Result ℕ ChainRefusal → Type 0
Notes who call old new result = refused call old ≡ None → IsNoted (entry who call) old new result

abbrev pub HasCause : Call → Session → Session → Result ℕ ChainRefusal → Type 0
HasCause call old new result = refused call old ≡ None → IsCausedBy old new result

abbrev pub HasReadCause : Call → Session → Session → Result ℕ ChainRefusal → Type 0
HasReadCause call old new result = refused call old ≡ None → IsCausedByRead old new result

abbrev pub HasRoom : Call → Session → Result ℕ ChainRefusal → Type 0
HasRoom (calls.Read first count) old result = Unit {0}
HasRoom (calls.Write first bytes) old result =
    refused (calls.Write first bytes) old ≡ None → RoomIs (λ leaf. false) first (length bytes / old.layers.geometry.sector) old.layers old.disk result
HasRoom (calls.Trim first count) old result =
    refused (calls.Trim first count) old ≡ None → RoomIs (λ (leaf : Layer). not leaf.leave) first count old.layers old.disk result
HasRoom calls.Flush old result = refused calls.Flush old ≡ None → NeedsNoRoom result

-- ---- where content is told

-- each moment of the call opens to the disk before it, outside the dirty sectors and those that it names
abbrev pub EachOpensBefore : Entry → State → Trace → Trace → Type 0
EachOpensBefore e v trace now =
    EachMoment (EachOpens v.leaf (either (dirty_now v) (is_named (sector_of v) e.call)) (disk_now v)) trace now

-- each moment opens to the disk outside the dirty sectors
abbrev pub EachOpensNow : State → Trace → Trace → Type 0
EachOpensNow v trace now = EachMoment (EachOpens v.leaf (dirty_now v) (disk_now v)) trace now

-- The call was done: the session serves the history with it.
pub record IsDone (e : Entry) (v : State) (layers : Layers) (trace now : Trace) : Type 0 where
  pub moments : EachOpensBefore e v trace now
  pub serving : IsServing layers (with_entry e v) now

-- The call was refused: the session serves the history as before, and each moment of the call opens to its disk.
pub record IsRefused (v : State) (layers : Layers) (trace now : Trace) : Type 0 where
  pub moments : EachOpensNow v trace now
  pub serving : IsServing layers v now

-- The call broke the session, for good; from then on it is the next one behind the whole history, and what it names is open.
pub record HasBroken (e : Entry) (v : State) (trace now : Trace) : Type 0 where
  pub moments : EachOpensBefore e v trace now
  pub still : LeavesOthers v now
  pub past : EachOpensToPrefix (sector_of v) v.opening v.history (is_named (sector_of v) e.call) v.leaf v.began now

abbrev pub Answers : Entry → State → Layers → Trace → Trace → Result ℕ ChainRefusal → Type 0
Answers e v layers trace now (Ok place) = IsDone e v layers trace now
Answers e v layers trace now (Err (Broken file count)) = HasBroken e v trace now
Answers e v layers trace now (Err other) = IsRefused v layers trace now

-- so it is for each state that the session serves, the recorder's count being that of its history
abbrev pub AnswersTold : Caller → Call → Session → Session → Result ℕ ChainRefusal → Type 0
AnswersTold who call old new result =
    WhereBothTold (λ trace now. (v : State) → IsServing old.layers v trace → IsNextPlace (old.noted + 1) v → Answers (entry who call) v new.layers trace now result) old.disk.told new.disk.told

-- each image opens to the history's disk, on all sectors
abbrev pub IsDurable : Session → Session → Type 0
IsDurable old new =
    WhereBothTold (λ trace now. (v : State) → IsServing old.layers v trace → EachOpens v.leaf (λ s. false) (disk_now v) now) old.disk.told new.disk.told

-- ---- the end

-- The session has ended, or its end failed: each moment opens to the history's disk outside the dirty sectors.
pub record HasEnded (v : State) (trace now : Trace) : Type 0 where
  pub moments : EachOpensNow v trace now
  pub still : LeavesOthers v now
  pub past : EachOpensToPrefix (sector_of v) v.opening v.history (λ s. false) v.leaf v.began now

-- each image of the moment is linked, from the leaf's name, by files of these names and no others
abbrev pub EachLinks : List ℕ → List (List ℕ) → Trace → Type 0
EachLinks leaf names trace =
    (image : List NamedBytes) → IsCleanImage trace image → (retired chain : List Member) → IsLinked (files_in image) leaf retired chain → names_of chain ≡ names

-- The session has ended: each image opens to the history's disk, on all sectors, by the files of the chain, and if there was a session
-- nothing of any file is unsynced, and none that it could change names a log.
pub record HasEndedWhole (session : Bool) (v : State) (trace now : Trace) : Type 0 where
  pub ended : HasEnded v trace now
  pub all : EachOpens v.leaf (λ s. false) (disk_now v) now
  pub links : EachLinks v.leaf.name (names_of (members_of (files_of v))) now
  pub synced : session ≡ true → AllByRecursion (λ f. is_synced (file_of now f.number) ≡ true) (files_of v)
  pub no_log : session ≡ true → AllByRecursion (λ f. v.writes f.number ≡ true → NamesNoLog (seen (file_of now f.number))) (files_of v)

abbrev pub HasClosed : Bool → State → Trace → Trace → Result (Unit {0}) StoreFault → Type 0
HasClosed session v trace now (Ok done) = HasEndedWhole session v trace now
HasClosed session v trace now (Err fault) = HasEnded v trace now

-- so it is for each state that the session serves
abbrev pub EndsTold : Layers → Disk → Disk → Result (Unit {0}) StoreFault → Type 0
EndsTold layers before after result =
    WhereBothTold (λ trace now. (v : State) → IsServing layers v trace → HasClosed (is_some layers.leaf) v trace now result) before.told after.told

abbrev pub ClosesTold : Session → Disk → Result (Unit {0}) StoreFault → Type 0
ClosesTold s after result = EndsTold s.layers s.disk after result

-- ---- the answer of the leaf's layer

-- what a fault of a file's layer refuses a call by
abbrev pub refusal_of : LayerFault → ChainRefusal
refusal_of (layer.Read fault) = refusals.ReadFault fault.file fault.count
refusal_of (layer.FileFull next) = refusals.FileFull next
refusal_of (layer.Write fault) = refusals.Broken fault.file fault.count

-- what a call answers once its layer has
abbrev pub answer_of : ℕ → Result (Unit {0}) LayerFault → Result ℕ ChainRefusal
answer_of place (Ok done) = Ok place
answer_of place (Err fault) = Err (refusal_of fault)

-- the fault that breaks the session
abbrev pub breaking : LayerFault → Option StoreFault
breaking (layer.Read fault) = None
breaking (layer.FileFull next) = None
breaking (layer.Write fault) = Some fault

abbrev pub breaks : Result (Unit {0}) LayerFault → Option StoreFault
breaks (Ok done) = None
breaks (Err fault) = breaking fault

-- What the leaf's layer answers of a call, in the words of the session.
abbrev pub LayerAnswers : Entry → State → Layers → Trace → Trace → Result (Unit {0}) LayerFault → Type 0
LayerAnswers e v layers trace now (Ok done) = IsDone e v layers trace now
LayerAnswers e v layers trace now (Err (layer.Read fault)) = IsRefused v layers trace now
LayerAnswers e v layers trace now (Err (layer.FileFull next)) = IsRefused v layers trace now
LayerAnswers e v layers trace now (Err (layer.Write fault)) = HasBroken e v trace now

-- so it is of the call that has this place in the history
abbrev pub LayerTold : ℕ → Call → Layers → Layers → Disk → Disk → Result (Unit {0}) LayerFault → Type 0
LayerTold place call layers new_layers old new result =
    WhereBothTold (λ trace now. (who : Caller) (v : State) → IsServing layers v trace → IsNextPlace place v
    → LayerAnswers (entry who call) v new_layers trace now result) old.told new.told

-- the one fault that an answer may tell is a failed change
abbrev pub FailsByChange : Result (Unit {0}) LayerFault → Type 0
FailsByChange (Ok done) = Unit {0}
FailsByChange (Err (layer.Read fault)) = ⊥
FailsByChange (Err (layer.FileFull next)) = ⊥
FailsByChange (Err (layer.Write fault)) = Unit {0}

-- P of an answer that tells no failed change
abbrev pub UnlessBroken : Result (Unit {0}) LayerFault → Type 0 → Type 0
UnlessBroken (Ok done) P = P
UnlessBroken (Err (layer.Read fault)) P = P
UnlessBroken (Err (layer.FileFull next)) P = P
UnlessBroken (Err (layer.Write fault)) P = Unit {0}

-- of a call that the layer answers
abbrev pub LayerRoomIs : (Layer → Bool) → ℕ → ℕ → Layers → Disk → Result (Unit {0}) LayerFault → Type 0
LayerRoomIs trims first count layers disk (Ok done) = IfSome layers.leaf (λ leaf. has_room (trims leaf) first count leaf disk)
LayerRoomIs trims first count layers disk (Err (layer.Read fault)) = Unit {0}
LayerRoomIs trims first count layers disk (Err (layer.FileFull next)) = IfSome layers.leaf (λ leaf. is_full (trims leaf) first count next leaf disk)
LayerRoomIs trims first count layers disk (Err (layer.Write fault)) = IfSome layers.leaf (λ leaf. has_room (trims leaf) first count leaf disk)

-- the answer of a call whose one fault is a failed change
abbrev pub as_change : {T : Type 0} → Result T StoreFault → Result (Unit {0}) LayerFault
as_change (Ok t) = Ok tt
as_change (Err fault) = Err (layer.Write fault)

-- and of one whose one fault is a failed read
abbrev pub as_read : {T : Type 0} → Result T StoreFault → Result (Unit {0}) LayerFault
as_read (Ok t) = Ok tt
as_read (Err fault) = Err (layer.Read fault)
