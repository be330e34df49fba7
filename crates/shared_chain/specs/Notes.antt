-- What the events of a session leave noted for good.
use Rattle.std.specs.Prelude.{◌≡◌, ◌⊎◌, ◌↔◌, ◌≤◌, ℕ, max, List, [], ◌∷◌, Option, Some, None, Result, Ok, Err}
use Rattle.guest_model.specs.declared.refusal.ChainRefusal.{ChainRefusal}
use Rattle.guest_model.specs.declared.refusal.ChainRefusal.TheVariants as refusals
use Rattle.shared_chain.specs.declared.basis.Note.{Note}
use Rattle.shared_chain.specs.declared.basis.Note.TheVariants.{ChangeFailed, Full, ReadFailed}

-- The first note says all that the second says: of the same file, by a number at least as great; of a change that failed, by the
-- same number, since it breaks the session and is the only one.
abbrev pub Covers : Note → Note → Type 0
Covers (ReadFailed f n) (ReadFailed g m) = (f ≡ g) × (m ≤ n)
Covers (ChangeFailed f n) (ChangeFailed g m) = (f ≡ g) × (m ≡ n)
Covers (Full n) (Full m) = m ≤ n
Covers note other = ⊥

-- so much is noted
abbrev pub HasNote : List Note → Note → Type 0
HasNote [] n = ⊥
HasNote (m ∷ notes) n = Covers m n ⊎ HasNote notes n

-- what a refusal notes: the count of the fault that it tells, or the unit
abbrev pub note_of : ChainRefusal → List Note
note_of (refusals.ReadFault file count) = ReadFailed file count ∷ []
note_of (refusals.Broken file count) = ChangeFailed file count ∷ []
note_of (refusals.FileFull next) = Full next ∷ []
note_of other = []

-- what a guest call's answer notes
abbrev pub noted_in : Result ℕ ChainRefusal → List Note
noted_in (Ok place) = []
noted_in (Err refusal) = note_of refusal

-- What is noted behind an answer is what was noted, and what the answer notes.
abbrev pub NotesBy : Result ℕ ChainRefusal → List Note → List Note → Type 0
NotesBy answer old new = (n : Note) → HasNote new n ↔ (HasNote (noted_in answer) n ⊎ HasNote old n)

-- ---- of what a chain keeps

-- the greater of two numbers, if there was one
abbrev pub greatest : Option ℕ → ℕ → ℕ
greatest None n = n
greatest (Some known) n = max known n

abbrev pub full_after : Option ℕ → Result ℕ ChainRefusal → Option ℕ
full_after full (Err (refusals.FileFull next)) = Some (greatest full next)
full_after full other = full
