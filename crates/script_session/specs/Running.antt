-- What a script's session does to the files of a chain, from its start to its end.
use Rattle.std.specs.Prelude.{◌≡◌, ◌≢◌, ◌==◌, ⊤, ℕ, Bool, true, false, List, [], ◌∷◌, take, Option, Some, None, Result, IfErr, IfOk, IfSome, OnOk, Ok, Err, string_bytes}
use Rattle.std.specs.List.{AllByRecursion}
use Rattle.store_model.specs.Disk.{Disk, WhereBothTold}
use Rattle.store_model.specs.File.{is_synced, seen}
use Rattle.layer_session.specs.Unnamed.{NamesNoLog}
use Rattle.store_model.specs.Trace.{Trace, file_of}
use Rattle.store_model.specs.declared.fault.StoreFault.{StoreFault}
use Rattle.guest_model.specs.History.{History, either, is_dirty}
use Rattle.chain_model.specs.Moments.{EachOpens, EachOpensToPrefix}
use Rattle.merge_core.specs.declared.piece.Piece.{Piece}
use Rattle.link_rules.specs.declared.linked.LinkedFile.{LinkedFile}
use Rattle.chain_core.specs.Answering.{ClosesTold}
use Rattle.chain_core.specs.Ending.{IsOfSession, SomeChangeFailed}
use Rattle.chain_core.specs.Sessions.{Session}
use Rattle.chain_core.specs.Starting.{BeginsLow, JudgesIds, opening_disk, way_to}
use Rattle.chain_core.specs.declared.starting.Mode.{Mode}
use Rattle.chain_core.specs.declared.starting.Mode.TheVariants.{Guests, ReadOnly}
use Rattle.merge_plan.specs.declared.drawing.NewIds.{NewIds}
use Rattle.script.specs.declared.form.Line.{Line}
use Rattle.script_session.specs.Answers.{HasRun}
use Rattle.script_session.specs.Faults.{Counts, FaultsAreTold}
use Rattle.script_session.specs.Histories.{AreTold, Break, Course, Drive, IsEndTold, IsSoLong, disk_after, no_merge, open_in}
use Rattle.script_session.specs.Told.{HasMemory, Told, failed_by, last_fault, sector_size, transcript}
use Rattle.script_session.specs.declared.session.ScriptRun.{ScriptRun}
use Rattle.chain_model.specs.Members.{Way}

-- the sectors that are open: those that the call names which broke the session
abbrev pub open_by : Option Break → ℕ → Bool
open_by None s = false
open_by (Some b) s = open_in sector_size b.call s

abbrev pub can_change : Mode → Bool
can_change Guests = true
can_change ReadOnly = false

-- what a script runs over: the disk of these files as they were attached
abbrev pub drive_of : Mode → LinkedFile → List LinkedFile → Trace → Drive
drive_of mode leaf others trace = record { geometry = leaf.parts.geometry; can_change = can_change mode; opening = opening_disk trace (leaf ∷ others) }

-- the sectors that a crash may leave otherwise behind the whole history: those that are dirty then, and those of the call that broke the session
abbrev pub open_last : History → Option Break → ℕ → Bool
open_last h broken = either (is_dirty sector_size h) (open_by broken)

-- Nothing of the leaf is unsynced, and if it could be changed it names no log; and each image opens to the disk of the history.
pub record IsAtRest (leaf : Way) (drive : Drive) (h : History) (now : Trace) : Type 0 where
  pub synced : is_synced (file_of now 0) ≡ true
  pub no_log : drive.can_change ≡ true → NamesNoLog (seen (file_of now 0))
  pub opens : EachOpens leaf (λ s. false) (disk_after drive h) now

-- What stands behind lines that were told so, over the files of a store: the history of the calls that were done. At each moment each
-- image opens from the leaf's name to the disk of a prefix of it, outside the sectors that are open then, and at the end to that of all. No
-- file but the leaf was changed, and that neither where the files are only read.
pub record HasHistory (mode : Mode) (leaf : LinkedFile) (others : List LinkedFile) (lines : List Line) (told : List Told) (closed : Result (Unit {0}) StoreFault) (trace now : Trace) : Type 0 where
  pub history : History
  pub course : Course
  pub broken : Option Break
  pub told_so : AreTold (drive_of mode leaf others trace) 1 [] no_merge None lines told history course broken
  pub moments : EachOpensToPrefix sector_size (opening_disk trace (leaf ∷ others)) history (open_by broken) (way_to leaf (leaf ∷ others) None) trace now
  pub last : EachOpens (way_to leaf (leaf ∷ others) None) (open_last history broken) (disk_after (drive_of mode leaf others trace) history) now
  pub full : AllByRecursion (IsEndTold (IsSoLong (λ n. n == 0) now)) told
  pub still : (other : ℕ) → other ≢ 0 → file_of now other ≡ file_of trace other
  pub unchanged : can_change mode ≡ false → now ≡ trace
  pub at_rest : OnOk closed (IsAtRest (way_to leaf (leaf ∷ others) None) (drive_of mode leaf others trace) history now)

abbrev pub HaveHistory : Mode → List LinkedFile → List Line → List Told → Result (Unit {0}) StoreFault → Trace → Trace → Type 0
HaveHistory mode [] lines told closed trace now = ⊤
HaveHistory mode (leaf ∷ others) lines told closed trace now = HasHistory mode leaf others lines told closed trace now

-- for guests three identifiers were drawn, all of them fit, once the number of the leaf's header left room; else none was
abbrev pub DrawsFor : Mode → List LinkedFile → Disk → Option (List (List ℕ)) → Option (List (List ℕ)) → Type 0
DrawsFor Guests files disk before now = BeginsLow files × (ids : NewIds) × JudgesIds files disk before now None ids
DrawsFor ReadOnly files disk before now = now ≡ before

-- A script's session started, ran and ended: lines were told so, all of them where there is a transcript.
pub record HasRunScript (mode : Mode) (files : List LinkedFile) (names : List (List ℕ)) (lines : List Line) (run : ScriptRun) (old new : Disk) (before now : Option (List (List ℕ))) : Type 0 where
  pub many : ℕ
  pub told : List Told
  pub whole : IfOk run.transcript (λ text. (take many lines ≡ lines) × (string_bytes text ≡ transcript names lines told) × AllByRecursion HasMemory told)
  pub fault_is : run.fault ≡ last_fault told
  pub drawn : DrawsFor mode files old before now
  -- the store counts the last fault that refused a line, and the one by which the end failed; with neither the counts stay
  pub counted : IfSome run.fault (Counts new)
  pub ended : IfErr run.closed (Counts new)
  pub quiet : run.fault ≡ None → OnOk run.closed (new ≡ record old { told = new.told })
  pub faults : FaultsAreTold told (failed_by run.closed) old.files old.failed_changes new.failed_reads new.failed_changes
  pub history : WhereBothTold (HaveHistory mode files (take many lines) told run.closed) old.told new.told

-- ---- of the small functions

-- A session ended: one that a fault broke answers it and leaves the store, and so does the end of one in which the files are only read.
pub record IsEnded (s : Session) (after : Disk) (closed : Result (Unit {0}) StoreFault) : Type 0 where
  pub broken : IfSome s.broken (λ fault. (closed ≡ Err fault) × (after ≡ s.disk))
  pub only_read : s.broken ≡ None → s.layers.leaf ≡ None → (closed ≡ Ok tt) × (after ≡ s.disk)
  pub counts : s.broken ≡ None → OnOk closed (after ≡ record (s.disk) { told = after.told })
  pub fails : s.broken ≡ None → IfErr closed (SomeChangeFailed (IsOfSession s.layers) s.disk after)
  pub told : s.broken ≡ None → ClosesTold s after closed

-- Lines were answered in a session, and then it ended.
pub record HasRunToEnd (names : List (List ℕ)) (lines : List Line) (before : Session) (slot left : Piece) (run : ScriptRun) (after : Disk) : Type 0 where
  pub behind : Session
  pub ran : HasRun names lines before slot behind left (record { transcript = run.transcript; fault = run.fault })
  pub ended : IsEnded behind after run.closed
