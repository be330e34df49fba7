-- What is copied, of a merge that is under way.
use Rattle.std.specs.Prelude.{◌≡◌, ⊤, ℕ, is_some, true, false, nat_lt, ◌==◌, if◌then◌else◌, MatchOption, ◌+◌, ◌*◌, ◌^◌, ◌<◌, ◌≤◌, Bool, List, slice_index, slice_index_or, map, length, ◌++◌, ◌∷◌, Option, Some, None, Result, Ok, Err, IfErr, IfSome, OnErr, OnOk}
use Rattle.std.specs.List.{AllByRecursion}
use Rattle.vx_base.specs.declared.parts.Geometry.{Geometry}
use Rattle.store_model.specs.Disk.{Disk, WhereBothTold, WhereTold}
use Rattle.store_model.specs.Trace.{Trace}
use Rattle.store_model.specs.declared.fault.StoreFault.{StoreFault}
use Rattle.guest_model.specs.declared.refusal.ChainRefusal.{ChainRefusal}
use Rattle.guest_model.specs.declared.refusal.ChainRefusal.TheVariants as refusals
use Rattle.table_pages.specs.declared.tables.TableParts.{TableParts}
use Rattle.chain_model.specs.Merges.{AllMarked, Piece, marks_after, with_mark}
use Rattle.chain_model.specs.Stripes.{stripe_count, touches}
use Rattle.layer_session.specs.Calls.{Fails, HasKept, KeepsOver, OnRefused, own_file}
use Rattle.layer_session.specs.FileLayers.{file_numbers}
use Rattle.layer_session.specs.Keeping.{IsReady}
use Rattle.layer_session.specs.declared.file.Layer.{Layer}
use Rattle.layer_session.specs.declared.file_layer.FileLayer.{FileLayer}
use Rattle.layer_session.specs.declared.file_layer.FileLayer.TheVariants as kind
use Rattle.layer_session.specs.ReadOnly.{SomeReadFailed}
use Rattle.layer_session.specs.declared.file.LayerFault.{LayerFault}
use Rattle.layer_session.specs.declared.file.LayerFault.TheVariants as layer
use Rattle.merge_core.specs.Copied.{IsLowest, marks_of}
use Rattle.layer_session.specs.Steps.{has_room, is_full}
use Rattle.merge_core.specs.Pieces.{FitsIn, HasPutPiece, PutsPiece, has_sector, piece_of}
use Rattle.merge_core.specs.declared.piece.Piece.{Piece as KeptPiece}
use Rattle.chain_core.specs.Answering.{HasEnded, IsRefused, UnlessBroken, fault_of, refusal_of}
use Rattle.chain_core.specs.Merging.{IsCopied, IsTruePiece, PutAnswers}
use Rattle.chain_core.specs.Refusing.{or_else, unfit}
use Rattle.chain_core.specs.Reading.{HasOnlyRead}
use Rattle.chain_core.specs.Sessions.{AreReady, IsLow, KeepsMerge, Session, first_layer, has_merge, kept_marks, leaf_number}
use Rattle.chain_core.specs.States.{IsServing, State}
use Rattle.chain_core.specs.declared.layers.Layers.{Layers}
use Rattle.chain_core.specs.declared.layers.Underway.{Underway}
use Rattle.chain_core.specs.declared.layers.Retiring.{Retiring}
use Rattle.merge_core.specs.declared.marks.Marks.{Marks}
use Rattle.merge_core.specs.Stamping.{stamps_of}
use Rattle.guest_model.specs.declared.call.Call.{Call}

-- it fits into each file of a disk of this geometry
abbrev pub FitsDisk : Geometry → KeptPiece → Type 0
FitsDisk geometry piece = (parts : TableParts) → parts.sector ≡ geometry.sector → parts.sectors ≡ geometry.sectors → FitsIn piece parts

-- the number of the target's file in the store: of the file below the source, which may be the leaf
abbrev pub number_below : List ℕ → Option Underway → ℕ
number_below numbers None = slice_index numbers 0
number_below numbers (Some u) = slice_index numbers (u.source + 1)

abbrev pub target_number : Layers → ℕ
target_number layers = number_below (file_numbers layers.below.items) layers.merge

-- and that of the source's
abbrev pub number_at_source : Layers → Option Underway → ℕ
number_at_source layers None = leaf_number layers
number_at_source layers (Some u) = slice_index (file_numbers layers.below.items) u.source

abbrev pub source_number : Layers → ℕ
source_number layers = number_at_source layers layers.merge

-- a layer of a file in a session
abbrev pub session_in : Option FileLayer → Option Layer
session_in None = None
session_in (Some (kind.Session l)) = Some l
session_in (Some (kind.Read l)) = None

-- the target's
abbrev pub session_below : List FileLayer → Option Underway → Option Layer
session_below below None = session_in (first_layer below)
session_below below (Some u) = session_in (slice_index_or (map (λ l. Some l) below) (u.source + 1) None)

abbrev pub target_layer : Layers → Option Layer
target_layer layers = session_below layers.below.items layers.merge

-- the target has room for a piece, if it has a sector at all
abbrev pub HasRoomFor : KeptPiece → Layer → Disk → Type 0
HasRoomFor piece target disk = (s : ℕ) → has_sector piece s ≡ true → has_room false piece.first piece.count target disk

-- A piece is refused for want of room exactly where the target has none; `next` is the unit at its file's end.
abbrev pub PutRoomIs : KeptPiece → Layer → Disk → Result (Unit {0}) LayerFault → Type 0
PutRoomIs piece target disk (Ok done) = HasRoomFor piece target disk
PutRoomIs piece target disk (Err (layer.Read fault)) = Unit {0}
PutRoomIs piece target disk (Err (layer.FileFull next)) = is_full false piece.first piece.count next target disk
PutRoomIs piece target disk (Err (layer.Write fault)) = HasRoomFor piece target disk

-- What is taken of the source is true of it, in each state that the session serves.
abbrev pub Takes : Layers → Disk → Piece → Type 0
Takes layers disk piece = WhereTold disk.told (λ trace. (v : State) → IsServing layers v trace → IsTruePiece v piece)

-- A true piece is put; so it is for each state that the session serves.
abbrev pub PutTold : Piece → Layers → Layers → Disk → Disk → Result (Unit {0}) LayerFault → Type 0
PutTold piece old new before after result =
    WhereBothTold (λ trace now. (v : State) → IsServing old v trace → IsTruePiece v piece → PutAnswers piece v new trace now result) before.told after.told

-- the same merge, with these marks
pub record IsMarked (marks : ℕ → Bool) (old new : Underway) : Type 0 where
  pub source : new.source ≡ old.source
  pub relink : new.relink ≡ old.relink
  pub stripes : new.marks.stripes ≡ old.marks.stripes
  pub marks_are : (t : ℕ) → marks_of new.marks t ≡ marks t

abbrev pub MarksIn : ℕ → Option Underway → Option Underway → Type 0
MarksIn stripe None None = ⊤
MarksIn stripe None (Some new) = ⊥
MarksIn stripe (Some old) None = ⊥
MarksIn stripe (Some old) (Some new) = IsMarked (with_mark stripe (marks_of old.marks)) old new

-- and of the leaf
pub record IsMarkedToo (marks : ℕ → Bool) (old new : Retiring) : Type 0 where
  pub rest : new ≡ record old { marks = new.marks }
  pub stripes : new.marks.stripes ≡ old.marks.stripes
  pub marks_are : (t : ℕ) → marks_of new.marks t ≡ marks t

abbrev pub MarksToo : ℕ → Option Retiring → Option Retiring → Type 0
MarksToo stripe None None = ⊤
MarksToo stripe None (Some new) = ⊥
MarksToo stripe (Some old) None = ⊥
MarksToo stripe (Some old) (Some new) = IsMarkedToo (with_mark stripe (marks_of old.marks)) old new

-- Once a piece is put its stripe is marked; else the marks stay.
abbrev pub HasMarked : ℕ → Layers → Layers → Result (Unit {0}) LayerFault → Type 0
HasMarked stripe old new (Ok done) = MarksIn stripe old.merge new.merge × MarksToo stripe old.retiring new.retiring
HasMarked stripe old new (Err fault) = KeepsMerge old new

-- ---- stamps

-- When a stripe was last changed: the place of that call in the history; 0 where the source isn't the leaf.
abbrev pub stamp_in : Option Retiring → ℕ → ℕ
stamp_in None stripe = 0
stamp_in (Some r) stripe = stamps_of r.stamps stripe

abbrev pub stamp_of : Layers → ℕ → ℕ
stamp_of layers stripe = stamp_in layers.retiring stripe

-- A call of this place on the leaf takes the marks of the stripes away that it touches, and is their stamp.
pub record IsTouched (z : ℕ) (call : Call) (place : ℕ) (old new : Retiring) : Type 0 where
  pub rest : new ≡ record old { marks = new.marks; stamps = new.stamps }
  pub stripes : new.marks.stripes ≡ old.marks.stripes
  pub words : length new.stamps.words.items ≡ length old.stamps.words.items
  pub marks_are : (t : ℕ) → marks_of new.marks t ≡ marks_after z call (marks_of old.marks) t
  pub stamps_are : (t : ℕ) → t < old.marks.stripes → stamps_of new.stamps t ≡ (if touches z call t then place else stamps_of old.stamps t)

abbrev pub Touches : ℕ → Call → ℕ → Option Retiring → Option Retiring → Type 0
Touches z call place None None = ⊤
Touches z call place None (Some new) = ⊥
Touches z call place (Some old) None = ⊥
Touches z call place (Some old) (Some new) = IsTouched z call place old new

abbrev pub TouchesIf : Bool → ℕ → Call → ℕ → Option Retiring → Option Retiring → Type 0
TouchesIf true z call place old new = Touches z call place old new
TouchesIf false z call place old new = new ≡ old

-- what a guest call makes of the merge: once it is done it is made on the source, if that is the leaf
abbrev pub MergeFollows : Call → Layers → Layers → Result ℕ ChainRefusal → Type 0
MergeFollows call old new (Ok place) = (new.merge ≡ old.merge) × Touches old.geometry.sector call place old.retiring new.retiring
MergeFollows call old new (Err refusal) = KeepsMerge old new

-- of a call that the leaf's layer answers
abbrev pub LayerFollows : ℕ → Call → Layers → Layers → Result (Unit {0}) LayerFault → Type 0
LayerFollows place call old new (Ok done) = (new.merge ≡ old.merge) × Touches old.geometry.sector call place old.retiring new.retiring
LayerFollows place call old new (Err fault) = KeepsMerge old new

-- ---- calls of the merge

-- no merge is under way
abbrev pub no_merge : Layers → Option ChainRefusal
no_merge layers = if has_merge layers then None else Some refusals.NoMerge

-- the disk has fewer stripes
abbrev pub past_stripes : ℕ → ℕ → Option ChainRefusal
past_stripes stripe stripes = if nat_lt stripe stripes then None else Some (refusals.NoStripe stripe stripes)

-- A stripe isn't one of the merge: none is under way, or the disk has fewer stripes.
abbrev pub no_stripe : ℕ → Layers → Option ChainRefusal
no_stripe stripe layers = if has_merge layers then past_stripes stripe (stripe_count layers.geometry.sector layers.geometry.sectors) else Some refusals.NoMerge

-- A piece can't be put: no merge is under way, nothing was taken, its stripe isn't one, or it was taken under another stamp than the
-- stripe's.
abbrev pub stale : ℕ → ℕ → Option ChainRefusal
stale taken now = if taken == now then None else Some (refusals.Stale taken now)

abbrev pub unfilled : KeptPiece → Option ChainRefusal
unfilled piece = if piece.filled then None else Some refusals.NoPiece

abbrev pub no_piece : KeptPiece → Layers → Option ChainRefusal
no_piece piece layers = or_else (no_merge layers) (or_else (unfilled piece) (or_else (no_stripe piece.stripe layers) (stale piece.stamp (stamp_of layers piece.stripe))))

-- The first cause by which each is refused before the files are reached.
abbrev pub fetch_refused : ℕ → Session → Option ChainRefusal
fetch_refused stripe s = or_else (unfit s.events s.broken) (no_stripe stripe s.layers)

abbrev pub put_refused : KeptPiece → Session → Option ChainRefusal
put_refused piece s = or_else (unfit s.events s.broken) (no_piece piece s.layers)

-- the first cause by which each call of a merge is refused
abbrev pub merge_refused : Session → Option ChainRefusal
merge_refused s = or_else (unfit s.events s.broken) (no_merge s.layers)

-- what is refused for a cause answers that, and P
abbrev pub IfStopped : {T : Type 0} → Option ChainRefusal → Result T ChainRefusal → Type 0 → Type 0
IfStopped cause result P = IfSome cause (λ e. (result ≡ Err e) × P)

-- what a call of the merge answers once its file's layer has
abbrev pub refused_by : Result (Unit {0}) LayerFault → Result (Unit {0}) ChainRefusal
refused_by (Ok done) = Ok tt
refused_by (Err fault) = Err (refusal_of fault)

-- a piece of this stripe was taken, under this stamp, and fits into each file of the disk
pub record IsOfStripe (geometry : Geometry) (stripe stamp : ℕ) (piece : KeptPiece) : Type 0 where
  pub filled : piece.filled ≡ true
  pub stripe_is : piece.stripe ≡ stripe
  pub stamp_is : piece.stamp ≡ stamp
  pub fits : FitsDisk geometry piece

-- What the answer of a fetch that reached the files says: it took a piece and answers its stamp; or a read of the source's file failed, and
-- there is no piece.
abbrev pub FetchCause : Session → Session → KeptPiece → Result ℕ ChainRefusal → Type 0
FetchCause old new piece (Ok stamp) = (stamp ≡ piece.stamp) × (new.disk ≡ old.disk) × (new.broken ≡ None)
FetchCause old new piece (Err (refusals.ReadFault file count)) =
    (piece.filled ≡ false) × (file ≡ source_number old.layers) × SomeReadFailed old.disk new.disk (fault_of file count) × (new.broken ≡ None)
FetchCause old new piece (Err other) = ⊥

-- The session serves the history as before, and what was taken is the source's.
abbrev pub FetchAnswers : KeptPiece → State → Layers → Trace → Trace → Result ℕ ChainRefusal → Type 0
FetchAnswers piece v layers trace now (Ok stamp) = IsRefused v layers trace now × IsTruePiece v (piece_of piece)
FetchAnswers piece v layers trace now (Err refusal) = IsRefused v layers trace now

abbrev pub FetchTold : KeptPiece → Session → Session → Result ℕ ChainRefusal → Type 0
FetchTold piece old new result =
    WhereBothTold (λ trace now. (v : State) → IsServing old.layers v trace → FetchAnswers piece v new.layers trace now result) old.disk.told new.disk.told

-- What the answer of a put that reached the files says of the store's counts, of marks, and of the session's fault.
abbrev pub PutCause : KeptPiece → Session → Session → Result (Unit {0}) ChainRefusal → Type 0
PutCause piece old new (Ok done) = HasMarked piece.stripe old.layers new.layers (Ok tt) × (new.disk ≡ record (old.disk) { told = new.disk.told }) × (new.broken ≡ None)
PutCause piece old new (Err (refusals.ReadFault file count)) =
    KeepsMerge old.layers new.layers × (target_number old.layers < old.disk.files) × Fails (target_number old.layers) old.disk new.disk (layer.Read (fault_of file count)) × (new.broken ≡ None)
PutCause piece old new (Err (refusals.FileFull next)) = KeepsMerge old.layers new.layers × Fails (target_number old.layers) old.disk new.disk (layer.FileFull next) × (new.broken ≡ None)
PutCause piece old new (Err (refusals.Broken file count)) =
    KeepsMerge old.layers new.layers × (target_number old.layers < old.disk.files) × Fails (target_number old.layers) old.disk new.disk (layer.Write (fault_of file count)) × (new.broken ≡ Some (fault_of file count))
PutCause piece old new (Err other) = ⊥

-- A piece that is the source's is put, or refused and nothing changed, or a change of the target failed and broke the session.
abbrev pub PieceAnswers : KeptPiece → State → Layers → Trace → Trace → Result (Unit {0}) ChainRefusal → Type 0
PieceAnswers piece v layers trace now (Ok done) = IsCopied (piece_of piece) v layers trace now
PieceAnswers piece v layers trace now (Err (refusals.Broken file count)) = HasEnded v trace now
PieceAnswers piece v layers trace now (Err other) = IsRefused v layers trace now

abbrev pub PieceTold : KeptPiece → Session → Session → Result (Unit {0}) ChainRefusal → Type 0
PieceTold piece old new result =
    WhereBothTold (λ trace now. (v : State) → IsServing old.layers v trace → IsTruePiece v (piece_of piece) → PieceAnswers piece v new.layers trace now result) old.disk.told new.disk.told

-- Once a put reached the files it is refused for want of room in the target exactly where there is none.
abbrev pub TargetRoomIs : KeptPiece → Layers → Disk → Result (Unit {0}) ChainRefusal → Type 0
TargetRoomIs piece layers disk (Ok done) = IfSome (target_layer layers) (λ l. HasRoomFor piece l disk)
TargetRoomIs piece layers disk (Err (refusals.FileFull next)) = IfSome (target_layer layers) (λ l. is_full false piece.first piece.count next l disk)
TargetRoomIs piece layers disk (Err (refusals.Broken file count)) = IfSome (target_layer layers) (λ l. HasRoomFor piece l disk)
TargetRoomIs piece layers disk (Err other) = Unit {0}

-- The lowest stripe of the merge under way without a mark; none where each has one, or none is under way.
abbrev pub IsMissing : Option Marks → Option ℕ → Type 0
IsMissing None found = found ≡ None
IsMissing (Some m) found = MatchOption found (AllMarked m.stripes (marks_of m)) (λ t. IsLowest m.stripes (marks_of m) t)

-- ---- of the small functions

-- a merge has a mark for each stripe of the disk, and one of the leaf a stamp
pub record IsSized (geometry : Geometry) (r : Retiring) : Type 0 where
  pub size : geometry.sectors * geometry.sector ≤ 2 ^ 46
  pub stripes : r.marks.stripes ≡ stripe_count geometry.sector geometry.sectors
  pub stamps : length r.stamps.words.items ≡ stripe_count geometry.sector geometry.sectors

pub record HasEachStripe (layers : Layers) : Type 0 where
  pub marks : IfSome (kept_marks layers) (λ m. m.stripes ≡ stripe_count layers.geometry.sector layers.geometry.sectors)
  pub stamps : IfSome layers.retiring (IsSized layers.geometry)

-- of these numbers, where there are any, each is at most this
abbrev pub AreLow : ℕ → List (Option ℕ) → Type 0
AreLow most numbers = AllByRecursion (λ number. IfSome number (λ n. n ≤ most)) numbers

-- A piece is put into the file in a session that stands at a place; the other files' layers stay.
pub record PutsAt (at : ℕ) (piece : KeptPiece) (old new : List FileLayer) (before after : Disk) (result : Result (Unit {0}) LayerFault) : Type 0 where
  pub above : List FileLayer
  pub below : List FileLayer
  pub was : Layer
  pub now : Layer
  pub place : length above ≡ at
  pub was_there : old ≡ above ++ kind.Session was ∷ below
  pub now_there : new ≡ above ++ kind.Session now ∷ below
  pub moments : WhereBothTold (PutsPiece was piece) before.told after.told
  pub put : OnOk result (WhereBothTold (HasPutPiece was now piece) before.told after.told)
  pub ready : OnOk result (IsReady now after)
  pub refused : OnRefused result (IsReady now after)
  pub kept : OnRefused result (WhereBothTold (HasKept was now) before.told after.told)
  pub quiet : OnRefused result (WhereBothTold (KeepsOver was) before.told after.told)
  pub parts : now.tables.parts ≡ was.tables.parts
  pub number : now.log.number ≤ was.log.number + 1
  pub header : now.log.header ≡ was.log.header
  pub counts : OnOk result (after ≡ record before { told = after.told })
  pub err : IfErr result (Fails (own_file was) before after)
  pub room : PutRoomIs piece was before result

-- What the source of the merge has of a stripe is taken into a piece, and nothing is changed; after a fault, which is of the source's file,
-- there is no piece.
pub record TakesStripe (stripe : ℕ) (old new : Layers) (before after : Disk) (piece : KeptPiece) (result : Result (Unit {0}) StoreFault) : Type 0 where
  pub reads : HasOnlyRead old new before after
  pub filled : OnOk result (piece.filled ≡ true)
  pub empty : OnErr result (piece.filled ≡ false)
  pub fits : FitsDisk old.geometry piece
  pub stripe_is : piece.stripe ≡ stripe
  pub stamp_is : piece.stamp ≡ stamp_of old stripe
  pub taken : OnOk result (Takes old before (piece_of piece))
  pub stays : OnOk result (after ≡ before)
  pub err : IfErr result (SomeReadFailed before after)
  pub whose : IfErr result (λ fault. fault.file ≡ source_number old)

-- A piece is put into the target of the merge, and its stripe is marked; where it is refused nothing is changed but what failed.
pub record PutsInTarget (piece : KeptPiece) (old new : Layers) (before after : Disk) (result : Result (Unit {0}) LayerFault) : Type 0 where
  pub told : PutTold (piece_of piece) old new before after result
  pub ready : UnlessBroken result (AreReady new after)
  pub low : (most : ℕ) → IsLow most old → IsLow (most + 1) new
  pub session : is_some new.leaf ≡ is_some old.leaf
  pub leaf : leaf_number new ≡ leaf_number old
  pub geometry : new.geometry ≡ old.geometry
  pub marked : HasMarked piece.stripe old new result
  pub counts : OnOk result (after ≡ record before { told = after.told })
  pub err : IfErr result (Fails (target_number old) before after)
  pub within : target_number old < before.files
  pub room : IfSome (target_layer old) (λ l. PutRoomIs piece l before result)
