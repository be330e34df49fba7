-- What the calls of a session say of their file, where its content is told.
use Rattle.std.specs.Prelude.{ℕ, ◌-◌, ◌^◌, ◌≤◌, Bool, List, All, length, Option}
use Rattle.store_model.specs.Disk.{WhereTold, WhereBothTold}
use Rattle.store_model.specs.File.{seen}
use Rattle.store_model.specs.Trace.{ChangesOnly, Trace, file_of}
use Rattle.vx_base.specs.declared.parts.Header.{Header}
use Rattle.vx_base.specs.Fields.{extended}
use Rattle.vhdx_format.specs.declared.log_entry.Page.{Page}
use Rattle.log_write.specs.Laws.{MayWrite}
use Rattle.log_write.specs.Sessions.{IsOpenFor, IsRunning, LogState, SettlesNear, nowhere}
use Rattle.log_write.specs.Writing.{HasEnded, HasNextNumber, IsOfTables}

-- R of what a read of the file gives before and after
abbrev pub OfReads : ℕ → (List ℕ → List ℕ → Type 0) → Option Trace → Option Trace → Type 0
OfReads file R old new = WhereBothTold (λ before after. R (seen (file_of before file)) (seen (file_of after file))) old new

-- a log's file is open for it
abbrev pub IsOpenIn : LogState → Option Trace → Type 0
IsOpenIn log told = WhereTold told (λ trace. IsOpenFor log (file_of trace log.file))

-- The file of a session that has just begun runs; any places can be those of tables.
abbrev pub RunsOnceBegun : Header → ℕ → LogState → Option Trace → Type 0
RunsOnceBegun header file log told =
    header.number ≤ 2 ^ 64 - 2 ^ 32 → (tables : ℕ → Bool) → WhereTold told (λ trace. IsRunning log tables (length (seen (file_of trace file))) nowhere (file_of trace file))

-- Behind a commit of these pages the file runs with nothing written since.
abbrev pub RunsBehindCommit : LogState → LogState → List Page → Option Trace → Option Trace → Type 0
RunsBehindCommit log new pages told told' =
    (tables : ℕ → Bool) (least : ℕ) (written : ℕ → Bool) → All (IsOfTables tables) pages → log.number ≤ 2 ^ 64 - 2 ^ 32
    → WhereBothTold (λ before after. IsRunning log tables least written (file_of before log.file) → IsRunning new tables (length (seen (file_of after log.file))) nowhere (file_of after log.file)) told told'

-- While so many bytes are written each image settles near what a read gave before, but for the places that may be written.
abbrev pub SettlesWhileWriting : LogState → ℕ → ℕ → Option Trace → Option Trace → Type 0
SettlesWhileWriting log at len told told' =
    (tables : ℕ → Bool) (least : ℕ) (written more : ℕ → Bool) → MayWrite log tables written more at len
    → WhereTold told (λ before. IsRunning log tables least written (file_of before log.file)
    → WhereBothTold (ChangesOnly log.file (SettlesNear log.header (seen (file_of before log.file)) least more)) told told')

-- And behind that the file runs with these places written too.
abbrev pub RunsBehindWrite : LogState → ℕ → ℕ → Option Trace → Option Trace → Type 0
RunsBehindWrite log at len told told' =
    (tables : ℕ → Bool) (least : ℕ) (written more : ℕ → Bool) → MayWrite log tables written more at len
    → WhereBothTold (λ before after. IsRunning log tables least written (file_of before log.file) → IsRunning log tables least more (file_of after log.file)) told told'

-- While the file grows each image settles near it with zeros behind.
abbrev pub SettlesWhileGrowing : LogState → ℕ → Option Trace → Option Trace → Type 0
SettlesWhileGrowing log len told told' =
    (tables : ℕ → Bool) (least : ℕ) (written : ℕ → Bool)
    → WhereTold told (λ before. IsRunning log tables least written (file_of before log.file)
    → WhereBothTold (ChangesOnly log.file (SettlesNear log.header (extended (seen (file_of before log.file)) len) least written)) told told')

-- And behind that it runs.
abbrev pub RunsBehindGrowth : LogState → LogState → Option Trace → Option Trace → Type 0
RunsBehindGrowth log new told told' =
    (tables : ℕ → Bool) (least : ℕ) (written : ℕ → Bool)
    → WhereBothTold (λ before after. IsRunning log tables least written (file_of before log.file) → IsRunning new tables least written (file_of after log.file)) told told'

-- Behind another identifier of its data it runs by the next header.
abbrev pub RunsBehindIdentifier : LogState → LogState → Option Trace → Option Trace → Type 0
RunsBehindIdentifier log new told told' =
    (tables : ℕ → Bool) (least : ℕ) (written : ℕ → Bool) → HasNextNumber log.header
    → WhereBothTold (λ before after. IsRunning log tables least written (file_of before log.file) → IsRunning new tables least written (file_of after log.file)) told told'

-- Behind its end a session's file is, in every image, what a read gives.
abbrev pub EndsBehind : LogState → Option Trace → Option Trace → Type 0
EndsBehind log told told' =
    (tables : ℕ → Bool) (least : ℕ) (written : ℕ → Bool)
    → WhereBothTold (λ before after. IsRunning log tables least written (file_of before log.file) → HasEnded log.header (seen (file_of before log.file)) (file_of after log.file)) told told'
