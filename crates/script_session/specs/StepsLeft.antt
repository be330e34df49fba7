-- What a step of a merge leaves of a state that its session serves.
use Rattle.std.specs.Prelude.{◌≡◌, ◌+◌, ◌^◌, ◌<◌, ℕ, Bool, false, None, Result, Ok, Err, Some, IfErr, IfSome}
use Rattle.store_model.specs.Disk.{WhereBothTold}
use Rattle.store_model.specs.Trace.{Trace}
use Rattle.guest_model.specs.declared.refusal.ChainRefusal.{ChainRefusal}
use Rattle.chain_model.specs.Moments.{EachOpens, EachOpensToPrefix}
use Rattle.merge_core.specs.Pieces.{piece_of}
use Rattle.merge_core.specs.declared.piece.Piece.{Piece}
use Rattle.chain_core.specs.Merging.{IsTruePiece}
use Rattle.chain_core.specs.Sessions.{Session}
use Rattle.chain_core.specs.States.{IsServing, LeavesOthers, State, dirty_now, disk_now, sector_of}
use Rattle.script_session.specs.Histories.{Grows, IsEndTold, IsLater, IsSoLong}
use Rattle.script_session.specs.MergeSteps.{AnswersFetch, AnswersFinish, AnswersPut, AnswersSkip, AnswersTurn}

-- a file that may be changed is so long, within 1,024 MB of the greatest place that a block may have
abbrev pub IsFullAt : (ℕ → Bool) → Trace → ℕ → Type 0
IsFullAt may now next = (2 ^ 43 < next + 1024) × IsSoLong may now next

-- A later state of the same session, with the same history: it is served; or the step broke the session, and no file was changed but those that
-- it may change, each moment since it began opens to a prefix of the history, and the last one to all of it. Where a file is told to be full, it
-- is.
pub record IsLeft (v : State) (answer : Result (Unit {0}) ChainRefusal) (new : Session) (trace now : Trace) : Type 0 where
  pub later : State
  pub same : IsLater v v.history later
  pub sector : sector_of later ≡ sector_of v
  pub grows : Grows trace now
  pub serves : new.broken ≡ None → IsServing new.layers later now
  pub still : IfSome new.broken (λ fault. LeavesOthers later now)
  pub past : IfSome new.broken (λ fault. EachOpensToPrefix (sector_of later) later.opening later.history (λ s. false) later.leaf later.began now)
  pub last : IfSome new.broken (λ fault. EachOpens later.leaf (dirty_now later) (disk_now later) now)
  pub full : IfErr answer (λ x. IsEndTold (IsFullAt v.writes now) (Err x))

-- So it is of a turn of a copy, and of a finish, in a session that no fault has broken.
abbrev pub TurnsLeave : Type 0
TurnsLeave =
    (stripe : ℕ) (answer : Result (Unit {0}) ChainRefusal) (old new : Session) → old.broken ≡ None → AnswersTurn stripe answer old new
    → WhereBothTold (λ trace now. (v : State) → IsServing old.layers v trace → IsLeft v answer new trace now) old.disk.told new.disk.told

-- what a fetch was answered, but for the stamp
abbrev pub unstamped : Result ℕ ChainRefusal → Result (Unit {0}) ChainRefusal
unstamped (Ok stamp) = Ok tt
unstamped (Err x) = Err x

-- So it is of a fetch.
abbrev pub FetchesLeave : Type 0
FetchesLeave =
    (stripe : ℕ) (answer : Result ℕ ChainRefusal) (old new : Session) (piece : Piece) → old.broken ≡ None → AnswersFetch stripe answer old new piece
    → WhereBothTold (λ trace now. (v : State) → IsServing old.layers v trace → IsLeft v (unstamped answer) new trace now) old.disk.told new.disk.told

-- So it is of stripes that are passed over.
abbrev pub SkipsLeave : Type 0
SkipsLeave =
    (stripe n : ℕ) (old new : Session) → AnswersSkip stripe n old new
    → WhereBothTold (λ trace now. (v : State) → IsServing old.layers v trace → IsLeft v (Ok tt) new trace now) old.disk.told new.disk.told

-- So it is of a put, for a state that the session serves of which the piece is true.
abbrev pub PutsLeave : Type 0
PutsLeave =
    (piece : Piece) (answer : Result (Unit {0}) ChainRefusal) (old new : Session) → old.broken ≡ None → AnswersPut piece answer old new
    → WhereBothTold (λ trace now. (v : State) → IsServing old.layers v trace → IsTruePiece v (piece_of piece) → IsLeft v answer new trace now) old.disk.told new.disk.told

abbrev pub FinishesLeave : Type 0
FinishesLeave =
    (answer : Result (Unit {0}) ChainRefusal) (old new : Session) → old.broken ≡ None → AnswersFinish answer old new
    → WhereBothTold (λ trace now. (v : State) → IsServing old.layers v trace → IsLeft v answer new trace now) old.disk.told new.disk.told
