-- Reading a script from a source of bytes.
use Rattle.std.specs.Prelude.{◌≡◌, ℕ, ◌+◌, ⊤, List, drop, Option, Some, Result, Ok, Err}
use Rattle.store_model.specs.Cause.{Rose}
use Rattle.script.specs.declared.form.Line.{Line}
use Rattle.script.specs.declared.form.ScriptKind.{ScriptKind}
use Rattle.script.specs.declared.refusal.SourceRefusal.{SourceRefusal}
use Rattle.script.specs.declared.refusal.SourceRefusal.TheVariants as refusals
use Rattle.script.specs.declared.refusal.ScriptRefusal.{ScriptRefusal}
use Rattle.script.specs.declared.refusal.ScriptRefusal.TheVariants as text
use Rattle.script.specs.Grammar.{IsScript, IsFirstBroken, most_bytes}

-- What was read of these bytes is a script, or the line that is named is the first that breaks the grammar or a limit.
abbrev pub ReadsScript : ScriptKind → List ℕ → Result (List Line) SourceRefusal → Type 0
ReadsScript kind bytes (Ok script) = IsScript kind bytes script
ReadsScript kind bytes (Err (refusals.Line n)) = IsFirstBroken kind bytes n
ReadsScript kind bytes (Err (refusals.Source fault)) = ⊤
ReadsScript kind bytes (Err refusals.NoRoom) = ⊤

-- the answer is this script, unless the source failed or memory ran out
abbrev pub AnswersFrom : List Line → Result (List Line) SourceRefusal → Type 0
AnswersFrom script (Ok lines) = lines ≡ script
AnswersFrom script (Err (refusals.Line n)) = ⊥
AnswersFrom script (Err (refusals.Source fault)) = ⊤
AnswersFrom script (Err refusals.NoRoom) = ⊤

-- all of the bytes were taken, or all up to the first byte past the limit of a script
abbrev pub IsTaken : List ℕ → Option (List ℕ) → Type 0
IsTaken bytes left = left ≡ Some (drop (most_bytes + 1) bytes)

-- so many of them were taken
abbrev pub IsPartTaken : List ℕ → Option (List ℕ) → Type 0
IsPartTaken bytes left = (n : ℕ) × (left ≡ Some (drop n bytes))

-- What reading leaves of a source's bytes.
abbrev pub LeavesOf : List ℕ → Option (List ℕ) → Result (List Line) SourceRefusal → Type 0
LeavesOf bytes left (Ok script) = IsTaken bytes left
LeavesOf bytes left (Err (refusals.Line n)) = IsTaken bytes left
LeavesOf bytes left (Err (refusals.Source fault)) = IsPartTaken bytes left
LeavesOf bytes left (Err refusals.NoRoom) = IsPartTaken bytes left

-- The source's count of faults rises only in the answer that carries it.
abbrev pub CountsFault : {T : Type 0} → ℕ → ℕ → Result T SourceRefusal → Type 0
CountsFault before now (Ok script) = now ≡ before
CountsFault before now (Err (refusals.Line n)) = now ≡ before
CountsFault before now (Err (refusals.Source fault)) = Rose before now × (fault.count ≡ now)
CountsFault before now (Err refusals.NoRoom) = now ≡ before

-- ---- of the small functions

-- what refuses a text refuses its source
abbrev pub of_text : ScriptRefusal → SourceRefusal
of_text (text.Line n) = refusals.Line n
of_text text.NoRoom = refusals.NoRoom

-- the refusal names no line
abbrev pub IsUnread : SourceRefusal → Type 0
IsUnread (refusals.Line n) = ⊥
IsUnread (refusals.Source fault) = ⊤
IsUnread refusals.NoRoom = ⊤
