-- What the lines of a script are told over a disk: line by line, by the history of the calls that were done (profile).
use Rattle.std.specs.Prelude.{◌≡◌, ◌+◌, ◌*◌, ◌<◌, ◌≤◌, ◌^◌, ◌||◌, ◌==◌, ◌⊎◌, if◌then◌else◌, ⊤, ℕ, Bool, true, false, nat_lt, List, [], ◌∷◌, ◌++◌, length, map, not, is_some, Option, Some, None, option_map, Ok, Err, IfSome}
use Rattle.vx_base.specs.declared.parts.Geometry.{Geometry}
use Rattle.store_model.specs.declared.fault.StoreFault.{StoreFault}
use Rattle.std.specs.List.{AllByRecursion}
use Rattle.vhdx_format.specs.Fields.{megabyte}
use Rattle.store_model.specs.File.{is_synced, seen}
use Rattle.layer_session.specs.Unnamed.{NamesNoLog}
use Rattle.store_model.specs.Trace.{Trace, file_of}
use Rattle.guest_model.specs.declared.call.Call.{Call}
use Rattle.guest_model.specs.declared.refusal.ChainRefusal.{ChainRefusal}
use Rattle.guest_model.specs.declared.refusal.ChainRefusal.TheVariants.{Broken, FileFull, NoMerge, NoPiece, NoRoom, NotYet, ReadFault}
use Rattle.guest_model.specs.Calls.{Disk, is_named, reply}
use Rattle.guest_model.specs.History.{History, either, is_flush, replay}
use Rattle.chain_model.specs.Images.{Placed}
use Rattle.chain_model.specs.Layers.{Layer as SectorLayer}
use Rattle.chain_model.specs.Merges.{AllMarked, marks_after, with_mark}
use Rattle.chain_model.specs.Moments.{EachOpens, EachOpensToPrefix}
use Rattle.chain_model.specs.Stripes.{stamp, stripe_count}
use Rattle.merge_core.specs.Copied.{IsLowest, marks_of}
use Rattle.merge_core.specs.Pieces.{piece_of}
use Rattle.merge_core.specs.declared.piece.Piece.{Piece}
use Rattle.chain_core.specs.Copying.{IsOfStripe, past_stripes, stale}
use Rattle.chain_core.specs.Merging.{IsTruePiece}
use Rattle.chain_core.specs.Refusing.{barred, broken_by, is_read, or_else, out_of, range_of}
use Rattle.chain_core.specs.Sessions.{HasNoMerge, Session}
use Rattle.chain_core.specs.States.{IsServing, LeavesOthers, Rest, State, dirty_now, disk_now, files_of, merging, plain, retiring, sector_of}
use Rattle.chain_core.specs.declared.layers.Layers.{Layers}
use Rattle.chain_core.specs.declared.layers.Retiring.{Retiring}
use Rattle.chain_core.specs.declared.layers.Underway.{Underway}
use Rattle.script.specs.declared.form.Line.{Line}
use Rattle.script.specs.Transcript.{has_stamp, is_copied, is_done as is_whole, of_call}
use Rattle.script_session.specs.Answers.{AnswersLines}
use Rattle.script_session.specs.Told.{Asked, Told, asked, asks_call, asks_copy, asks_fetch, asks_finish, asks_put, next_number, sector_size}

-- What a script runs over: a disk of so many sectors, which can be changed or only be read, as it is when the session begins.
pub record Drive : Type 0 where
  pub geometry : Geometry
  pub can_change : Bool
  pub opening : Disk

-- the disk behind a history
abbrev pub disk_after : Drive → History → Disk
disk_after drive h = replay sector_size drive.opening h

-- What broke a session: a fault of the store; in this call, if a call broke it, and else in a step of the merge.
pub record Break : Type 0 where
  pub fault : StoreFault
  pub call : Option Call

-- the fault by which a session was broken, if it was
abbrev pub fault_in : Option Break → Option StoreFault
fault_in broken = option_map (λ (b : Break). b.fault) broken

-- The cause by which a call is refused whatever the files are: a fault broke the session; its range is none of the disk; it would
-- change a disk that is only read.
abbrev pub cause_of : Drive → Option StoreFault → Call → Option ChainRefusal
cause_of drive broken call = or_else (broken_by broken) (out_of (range_of drive.geometry call) (barred call drive.can_change))

-- a call that may ask for more room in a file
abbrev pub asks_room : Call → Bool
asks_room call = not (is_read call || is_flush call)

-- What stops a call without breaking the session: a fault of the store, want of memory, or want of room in the file, whose end is then
-- within 1,024 MB of the greatest place that a block may have.
abbrev pub Stops : Call → ChainRefusal → Type 0
Stops call (ReadFault file count) = ⊤
Stops call (FileFull next) = (asks_room call ≡ true) × (2 ^ 43 < next + 1024)
Stops call NoRoom = ⊤
Stops call other = ⊥

-- of the same files none is shorter
abbrev pub Grows : Trace → Trace → Type 0
Grows old now = (now.attached ≡ old.attached) × ((n : ℕ) → length (seen (file_of old n)) ≤ length (seen (file_of now n)))

-- a file that may be changed is so many MB long, rounded up
pub record IsSoLong (may : ℕ → Bool) (now : Trace) (next : ℕ) : Type 0 where
  pub number : ℕ
  pub there : number < length now.attached
  pub may_change : may number ≡ true
  pub long : next * megabyte < length (seen (file_of now number)) + megabyte

-- P of the end of a file, where a line is told that it is full
abbrev pub IsEndTold : (ℕ → Type 0) → Told → Type 0
IsEndTold P (Err (FileFull next)) = P next
IsEndTold P other = ⊤

-- What a call is told behind a history, and what has broken the session then, if it is broken: the call has its cause and is
-- refused by it; or it is done, as the history's next, and answered by the disk of the history; or it is stopped; or a change of the
-- leaf fails, and breaks the session.
pub data IsTold (drive : Drive) (h : History) (broken : Option Break) (call : Call) : Told → Option Break → Type 0 where
  is_refused : (e : ChainRefusal) → cause_of drive (fault_in broken) call ≡ Some e → IsTold drive h broken call (Err e) broken
  is_done : cause_of drive (fault_in broken) call ≡ None → IsTold drive h broken call (Ok (Some (length h + 1), of_call (reply (disk_after drive h) call))) broken
  is_stopped : (e : ChainRefusal) → cause_of drive (fault_in broken) call ≡ None → Stops call e → IsTold drive h broken call (Err e) broken
  breaks : (fault : StoreFault) → cause_of drive (fault_in broken) call ≡ None → is_read call ≡ false
      → IsTold drive h broken call (Err (Broken fault.file fault.count)) (Some (record { fault = fault; call = Some call }))

-- ---- the steps of a merge

-- a piece that waits to be put: of this stripe, fetched under this stamp
pub record Waiting : Type 0 where
  pub stripe : ℕ
  pub stamp : ℕ

-- How a merge stands for a script: none is under way; or one is, of the leaf or of a file below it, of which these stripes are copied, and
-- a piece waits to be put, if one does.
pub data Course : Type 0 where
  no_merge : Course
  copying : (of_leaf : Bool) (copied : ℕ → Bool) (waits : Option Waiting) → Course

-- The stamp that a stripe of the source has behind a history: of the leaf the place of the last call that touches it; of a file below it,
-- on which no call is made, 0.
abbrev pub stamp_behind : Bool → History → ℕ → ℕ
stamp_behind true h stripe = stamp sector_size h stripe
stamp_behind false h stripe = 0

-- A call that is done takes away the marks of the leaf's stripes that it touches.
abbrev pub marks_behind : Bool → Call → (ℕ → Bool) → ℕ → Bool
marks_behind true call copied = marks_after sector_size call copied
marks_behind false call copied = copied

abbrev pub behind_done : Call → Course → Course
behind_done call no_merge = no_merge
behind_done call (copying of_leaf copied waits) = copying of_leaf (marks_behind of_leaf call copied) waits

-- how a merge stands behind a call's line
abbrev pub behind_call : Call → Told → Course → Course
behind_call call (Ok answer) course = behind_done call course
behind_call call (Err refusal) course = course

-- how many stripes the disk has
abbrev pub stripes_of : Drive → ℕ
stripes_of drive = stripe_count drive.geometry.sector drive.geometry.sectors

-- Nothing waits to be put; or its stripe was changed since: its stamp is another now.
abbrev pub not_waiting : Bool → History → Option Waiting → Option ChainRefusal
not_waiting of_leaf h None = Some NoPiece
not_waiting of_leaf h (Some w) = stale w.stamp (stamp_behind of_leaf h w.stripe)

-- What a step is refused by, as the merge stands: none is under way; the disk has fewer stripes; nothing waits to be put, or nothing that is
-- still what the stripe has.
abbrev pub out_of_course : ℕ → History → Course → Asked → Option ChainRefusal
out_of_course stripes h no_merge step = Some NoMerge
out_of_course stripes h (copying of_leaf copied waits) (asks_fetch stripe) = past_stripes stripe stripes
out_of_course stripes h (copying of_leaf copied waits) asks_put = not_waiting of_leaf h waits
out_of_course stripes h (copying of_leaf copied waits) other = None

-- the cause by which a step is refused whatever the files are: a fault broke the session; or how the merge stands
abbrev pub step_cause : Drive → History → Option StoreFault → Course → Asked → Option ChainRefusal
step_cause drive h broken course step = or_else (broken_by broken) (out_of_course (stripes_of drive) h course step)

-- a fetch or a put that is refused leaves nothing that waits
abbrev pub left_by : Asked → Course → Course
left_by step no_merge = no_merge
left_by (asks_fetch stripe) (copying of_leaf copied waits) = copying of_leaf copied None
left_by asks_put (copying of_leaf copied waits) = copying of_leaf copied None
left_by other (copying of_leaf copied waits) = copying of_leaf copied waits

-- What stops a put without breaking the session: a fault of the store, or want of room in the target's file, whose end is then within
-- 1,024 MB of the greatest place that a block may have.
abbrev pub StopsPut : ChainRefusal → Type 0
StopsPut (ReadFault file count) = ⊤
StopsPut (FileFull next) = 2 ^ 43 < next + 1024
StopsPut other = ⊥

-- copied are also all stripes below this one
abbrev pub copied_to : ℕ → (ℕ → Bool) → ℕ → Bool
copied_to stripe copied t = nat_lt t stripe || copied t

-- this stripe of the disk isn't copied
pub record IsMissed (stripes : ℕ) (copied : ℕ → Bool) (stripe : ℕ) : Type 0 where
  pub there : stripe < stripes
  pub missing : copied stripe ≡ false

-- What a step of a merge is told behind a history, as the merge stands, and how it stands behind it: the step has its cause and is refused by
-- it. Or a stripe is fetched, under the stamp that it has, and waits; or a fault stops it, and nothing waits. Or what waits and is what its
-- stripe has is put, the stripe is copied, and nothing waits; or that is stopped, or breaks the session. Or all stripes are copied, already
-- before or then; or that is stopped at a stripe that was missing, or breaks the session there: copied then are the stripes below it, besides
-- those before. Or, all stripes being copied, the merge is finished, or that breaks the session; else it is told the lowest stripe that isn't
-- copied.
pub data IsStepTold (drive : Drive) (h : History) : Course → Option Break → Asked → Told → Course → Option Break → Type 0 where
  is_barred : (course : Course) (broken : Option Break) (step : Asked) (e : ChainRefusal) → step_cause drive h (fault_in broken) course step ≡ Some e → IsStepTold drive h course broken step (Err e) (left_by step course) broken
  is_fetched : (l : Bool) (copied : ℕ → Bool) (waits : Option Waiting) (stripe : ℕ) → stripe < stripes_of drive
      → IsStepTold drive h (copying l copied waits) None (asks_fetch stripe) (Ok (None, has_stamp (stamp_behind l h stripe))) (copying l copied (Some (record { stripe = stripe; stamp = stamp_behind l h stripe }))) None
  fetch_stopped : (l : Bool) (copied : ℕ → Bool) (waits : Option Waiting) (stripe file count : ℕ) → stripe < stripes_of drive
      → IsStepTold drive h (copying l copied waits) None (asks_fetch stripe) (Err (ReadFault file count)) (copying l copied None) None
  is_put : (l : Bool) (copied : ℕ → Bool) (w : Waiting) → w.stamp ≡ stamp_behind l h w.stripe
      → IsStepTold drive h (copying l copied (Some w)) None asks_put (Ok (None, is_copied)) (copying l (with_mark w.stripe copied) None) None
  put_stopped : (l : Bool) (copied : ℕ → Bool) (w : Waiting) (e : ChainRefusal) → w.stamp ≡ stamp_behind l h w.stripe → StopsPut e
      → IsStepTold drive h (copying l copied (Some w)) None asks_put (Err e) (copying l copied None) None
  put_breaks : (l : Bool) (copied : ℕ → Bool) (w : Waiting) (fault : StoreFault) → w.stamp ≡ stamp_behind l h w.stripe
      → IsStepTold drive h (copying l copied (Some w)) None asks_put (Err (Broken fault.file fault.count)) (copying l copied None) (Some (record { fault = fault; call = None }))
  none_missing : (l : Bool) (copied : ℕ → Bool) (waits : Option Waiting) → AllMarked (stripes_of drive) copied → IsStepTold drive h (copying l copied waits) None asks_copy (Ok (None, is_whole)) (copying l copied waits) None
  all_copied : (l : Bool) (copied : ℕ → Bool) (waits : Option Waiting) (stripe : ℕ) → IsMissed (stripes_of drive) copied stripe
      → IsStepTold drive h (copying l copied waits) None asks_copy (Ok (None, is_whole)) (copying l (copied_to (stripes_of drive) copied) None) None
  copy_stopped : (l : Bool) (copied : ℕ → Bool) (waits : Option Waiting) (stripe : ℕ) (e : ChainRefusal) → IsMissed (stripes_of drive) copied stripe → StopsPut e
      → IsStepTold drive h (copying l copied waits) None asks_copy (Err e) (copying l (copied_to stripe copied) None) None
  copy_breaks : (l : Bool) (copied : ℕ → Bool) (waits : Option Waiting) (stripe : ℕ) (fault : StoreFault) → IsMissed (stripes_of drive) copied stripe
      → IsStepTold drive h (copying l copied waits) None asks_copy (Err (Broken fault.file fault.count)) (copying l (copied_to stripe copied) None) (Some (record { fault = fault; call = None }))
  is_finished : (l : Bool) (copied : ℕ → Bool) (waits : Option Waiting) → AllMarked (stripes_of drive) copied → IsStepTold drive h (copying l copied waits) None asks_finish (Ok (None, is_whole)) no_merge None
  not_yet : (l : Bool) (copied : ℕ → Bool) (waits : Option Waiting) (stripe : ℕ) → IsLowest (stripes_of drive) copied stripe
      → IsStepTold drive h (copying l copied waits) None asks_finish (Err (NotYet stripe)) (copying l copied waits) None
  finish_breaks : (l : Bool) (copied : ℕ → Bool) (waits : Option Waiting) (fault : StoreFault) → AllMarked (stripes_of drive) copied
      → IsStepTold drive h (copying l copied waits) None asks_finish (Err (Broken fault.file fault.count)) (copying l copied waits) (Some (record { fault = fault; call = None }))

-- ---- lines

-- what a line is told: of a call, or of a step of the merge
abbrev pub IsLineTold : Drive → History → Course → Option Break → Asked → Told → Course → Option Break → Type 0
IsLineTold drive h course broken (asks_call call) told on after = (on ≡ behind_call call told course) × IsTold drive h broken call told after
IsLineTold drive h course broken step told on after = IsStepTold drive h course broken step told on after

-- the history behind a line: its call, if it is one, is the next entry, of guest 1 with its number, if it was done
abbrev pub with_line : ℕ → Asked → Told → History → History
with_line number (asks_call call) (Ok answer) h = h ++ record { guest = 1; no = number; call = call } ∷ []
with_line number (asks_call call) (Err refusal) h = h
with_line number step told h = h

-- Lines are told so one after the other, the first call among them as the guest's of that number: from a history, how the merge stands,
-- and what has broken the session if it is broken, to those behind the last line.
pub data AreTold (drive : Drive) : ℕ → History → Course → Option Break → List Line → List Told → History → Course → Option Break → Type 0 where
  none_left : (number : ℕ) (h : History) (course : Course) (broken : Option Break) → AreTold drive number h course broken [] [] h course broken
  line_told : (number : ℕ) (h last : History) (course on end : Course) (broken mid after : Option Break) (line : Line) (lines : List Line) (told : Told) (later : List Told)
      → IsLineTold drive h course broken (asked line.form) told on mid → AreTold drive (next_number number line.form) (with_line number (asked line.form) told h) on mid lines later last end after
      → AreTold drive number h course broken (line ∷ lines) (told ∷ later) last end after

-- ---- and what stands behind them

-- a piece was taken of this stripe of the disk, under its stamp, and is true of the merge's source
pub record IsWaiting (v : State) (geometry : Geometry) (w : Waiting) (slot : Piece) : Type 0 where
  pub there : w.stripe < stripe_count geometry.sector geometry.sectors
  pub taken : IsOfStripe geometry w.stripe w.stamp slot
  pub is_true : IsTruePiece v (piece_of slot)

-- the slot has the piece that waits, if one does
abbrev pub HoldsWaiting : State → Geometry → Piece → Option Waiting → Type 0
HoldsWaiting v geometry slot None = slot.filled ≡ false
HoldsWaiting v geometry slot (Some w) = IsWaiting v geometry w slot

-- A merge is under way in layers, with these marks: of a file below the leaf, or of the leaf.
pub data IsMarkedSo (layers : Layers) (copied : ℕ → Bool) : Bool → Type 0 where
  below_marked : (u : Underway) → layers.merge ≡ Some u → layers.retiring ≡ None → ((t : ℕ) → marks_of u.marks t ≡ copied t) → IsMarkedSo layers copied false
  leaf_marked : (r : Retiring) → layers.merge ≡ None → layers.retiring ≡ Some r → ((t : ℕ) → marks_of r.marks t ≡ copied t) → IsMarkedSo layers copied true

-- the layers and the slot are those of the merge as it stands
abbrev pub IsOnCourse : State → Layers → Piece → Course → Type 0
IsOnCourse v layers slot no_merge = HasNoMerge layers
IsOnCourse v layers slot (copying of_leaf copied waits) = IsMarkedSo layers copied of_leaf × HoldsWaiting v layers.geometry slot waits

-- the sectors that the call names which broke a session, if one did: behind the whole history a crash may leave anything in them
abbrev pub open_in : ℕ → Option Call → ℕ → Bool
open_in z None s = false
open_in z (Some call) s = is_named z call s

-- each image opens to the disk of the whole history, outside the sectors that are dirty then and those of the call that broke the session
abbrev pub OpensLast : State → Option Call → Trace → Type 0
OpensLast v call now = EachOpens v.leaf (either (dirty_now v) (open_in (sector_of v) call)) (disk_now v) now

-- A session stands so over the state: it serves the history, and the merge stands so; or a fault has broken it, in a call that is the next
-- one behind the whole history for good or in a step of the merge, and each moment since it began opens to a prefix of the history, the
-- last one to all of it.
pub data Stands (v : State) (s : Session) (slot : Piece) (now : Trace) (course : Course) : Option Break → Type 0 where
  serves : s.broken ≡ None → IsServing s.layers v now → IsOnCourse v s.layers slot course → Stands v s slot now course None
  is_broken : (b : Break) → s.broken ≡ Some b.fault → LeavesOthers v now
      → EachOpensToPrefix (sector_of v) v.opening v.history (open_in (sector_of v) b.call) v.leaf v.began now → OpensLast v b.call now → Stands v s slot now course (Some b)

-- the files of a state's chain, but for the source of its merge
abbrev pub staying : Placed → Rest → List Placed
staying top (retiring target below first before) = target ∷ below
staying top (plain others) = top ∷ others
staying top (merging above source target below m) = top ∷ (above ++ target ∷ below)

-- their numbers, and their names
abbrev pub numbers_left : State → List ℕ
numbers_left v = map (λ f. f.number) (staying v.top v.rest)

abbrev pub names_left : State → List (List ℕ)
names_left v = map (λ f. f.member.name) (staying v.top v.rest)

-- the merge under way is that of the leaf
abbrev pub merges_leaf : Rest → Bool
merges_leaf (plain others) = false
merges_leaf (merging above source target below m) = false
merges_leaf (retiring target below first before) = true

-- the names of all files of a state's chain
abbrev pub all_names : State → List (List ℕ)
all_names v = map (λ f. f.member.name) (files_of v)

-- a merge is under way
abbrev pub is_under_way : Rest → Bool
is_under_way (plain others) = false
is_under_way (merging above source target below m) = true
is_under_way (retiring target below first before) = true

-- the source of a merge: whether it is the leaf, and what it had when the merge began
pub record MergeSource : Type 0 where
  pub of_leaf : Bool
  pub began : SectorLayer

-- that of the merge under way
abbrev pub source_began : Rest → Option MergeSource
source_began (plain others) = None
source_began (merging above source target below m) = Some (record { of_leaf = false; began = m.first })
source_began (retiring target below first before) = Some (record { of_leaf = true; began = first })

-- It goes on over the same leaf, with the same retired leaves behind its name, and may change the same files.
pub record GoesOn (v later : State) : Type 0 where
  pub number : later.top.number ≡ v.top.number
  pub name : later.top.member.name ≡ v.top.member.name
  pub retired : later.retired ≡ v.retired
  pub writes : later.writes ≡ v.writes
  pub since : later.since ≡ v.since
  pub merges : merges_leaf later.rest ≡ merges_leaf v.rest

-- The merge of its leaf has ended: that leaf is retired behind the others, is at rest and names no log, and isn't changed any more.
pub record HasRetired (v later : State) : Type 0 where
  pub leaf : Placed
  pub merges : merges_leaf v.rest ≡ true
  pub ended : merges_leaf later.rest ≡ false
  pub number : leaf.number ≡ v.top.number
  pub name : leaf.member.name ≡ v.top.member.name
  pub retired : later.retired ≡ v.retired ++ leaf ∷ []
  pub writes : later.writes ≡ (λ n. if n == v.top.number then false else v.writes n)
  pub since : (n : ℕ) → v.writes n ≡ false → file_of later.since n ≡ file_of v.since n
  pub rests : is_synced (file_of later.since v.top.number) ≡ true
  pub no_log : NamesNoLog (seen (file_of later.since v.top.number))

-- A state of the same session, with this history: it goes on, or the merge of its leaf has ended.
pub record IsLater (v : State) (h : History) (later : State) : Type 0 where
  pub leaf : later.leaf ≡ v.leaf
  pub opening : later.opening ≡ v.opening
  pub began : later.began ≡ v.began
  pub left : numbers_left later ≡ numbers_left v
  pub names : names_left later ≡ names_left v
  pub history : later.history ≡ h
  pub goes : GoesOn v later ⊎ HasRetired v later
  -- while the merge is under way the chain has the same files
  pub whole : is_under_way later.rest ≡ true → (is_under_way v.rest ≡ true) × (all_names later ≡ all_names v)
  -- and the merge's source is the one that it was, with what it had when the merge began
  pub source : is_some (source_began later.rest) ≡ true → source_began later.rest ≡ source_began v.rest

-- The session of a chain over this drive, with the state's history, which its recorder has if it tells it.
pub record IsOver (drive : Drive) (v : State) (s : Session) : Type 0 where
  pub geometry : s.layers.geometry ≡ drive.geometry
  pub change : is_some s.layers.leaf ≡ drive.can_change
  pub opening : v.opening ≡ drive.opening
  pub sector : sector_of v ≡ sector_size
  pub noted : s.noted ≡ length v.history
  pub kept : IfSome s.told (λ h. h ≡ v.history)

-- What the lines were told, and where the session stands behind them.
pub record TellsHistory (drive : Drive) (number : ℕ) (lines : List Line) (told : List Told) (v : State) (course : Course) (before : Option Break) (trace : Trace) (new : Session) (left : Piece) : Type 0 where
  pub later : State
  pub now : Trace
  pub end : Course
  pub broken : Option Break
  pub same : IsLater v later.history later
  pub told_so : AreTold drive number v.history course before lines told later.history end broken
  pub full : AllByRecursion (IsEndTold (IsSoLong v.writes now)) told
  pub grows : Grows trace now
  pub over : IsOver drive later new
  pub seen : new.disk.told ≡ Some now
  pub stands : Stands later new left now end broken

-- A session that tells its content and answers lines tells them its history. A line has at most so many events: a copy moves fewer than
-- 2^32 stripes, each by two of them.
abbrev pub LinesTellHistory : Type 0
LinesTellHistory =
    (drive : Drive) (number : ℕ) (lines : List Line) (told : List Told) (v : State) (course : Course) (broken : Option Break) (old new : Session) (slot left : Piece) (trace : Trace)
    → old.disk.told ≡ Some trace → Stands v old slot trace course broken → IsOver drive v old → old.events + length lines * 2 ^ 34 ≤ 2 ^ 63 → AnswersLines number lines told old slot new left
    → TellsHistory drive number lines told v course broken trace new left
