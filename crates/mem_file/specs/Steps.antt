-- What was done to a file in memory, as the changes that a store tells.
use Rattle.std.specs.Prelude.{◌≡◌, ◌≤◌, ℕ, ◌+◌, ◌/◌, List, length, map, reverse, take}
use Rattle.store_model.specs.Bytes.{IsBytes, bytes_at, written_over}
use Rattle.store_model.specs.File.{Op, Write, Tear, Grow, Sync, Seal}
use Rattle.store_model.specs.Trace.{Change}
use Rattle.mem_file.specs.declared.file.Change.{Change as Noted}
use Rattle.mem_file.specs.declared.file.Step.{Step}
use Rattle.mem_file.specs.declared.file.Step.TheVariants.{Wrote, Tore, Grew, Synced, Sealed}

abbrev pub op_of : Step → Op
op_of (Wrote at bytes) = Write at bytes.items
op_of (Tore at meant left) = Tear at meant.items left.items
op_of (Grew len) = Grow len
op_of Synced = Sync
op_of Sealed = Seal

-- all that was done, the newest first
abbrev pub ops_done : List Step → List Op
ops_done steps = reverse (map op_of steps)

-- the changes of a store, the newest first
abbrev pub change_of : Noted → Change
change_of noted = record { file = noted.file; op = op_of noted.step }

abbrev pub changes_of : List Noted → List Change
changes_of order = reverse (map change_of order)

-- a write lies within a file of this length
abbrev pub Fits : ℕ → Step → Type 0
Fits n (Wrote at bytes) = at + length bytes.items ≤ n
Fits n (Tore at meant left) = at + length left.items ≤ n
Fits n (Grew len) = Unit {0}
Fits n Synced = Unit {0}
Fits n Sealed = Unit {0}

-- bytes are written, and a write that failed left as many as were meant
abbrev pub WritesBytes : Step → Type 0
WritesBytes (Wrote at bytes) = IsBytes bytes.items
WritesBytes (Tore at meant left) = IsBytes left.items × (length meant.items ≡ length left.items)
WritesBytes (Grew len) = Unit {0}
WritesBytes Synced = Unit {0}
WritesBytes Sealed = Unit {0}

-- what a write that stops after the first half of its bytes leaves in its range
abbrev pub half_of : List ℕ → ℕ → List ℕ → List ℕ
half_of old at bytes = written_over (bytes_at old at (length bytes)) 0 (take (length bytes / 2) bytes)
