-- Laws of the definitions: a source's bytes are read in one way, and pieces cover what they are of.
use Rattle.std.specs.Prelude.{◌≡◌, ◌<◌, ◌≤◌, ◌+◌, ⊤, List, [], ◌∷◌, ◌++◌, length, map, ℕ, Some, Result, Ok, Err}
use Rattle.nbd_front.specs.declared.export.Export.{Export}
use Rattle.nbd_front.specs.declared.refusal.NbdRefusal.{NbdRefusal}
use Rattle.nbd_front.specs.declared.refusal.NbdRefusal.TheVariants as refusals
use Rattle.nbd_front.specs.Wire.{counted}
use Rattle.nbd_front.specs.Messages.{Phase, Message, Reads, greeted}
use Rattle.std.specs.List.{flat_map}
use Rattle.nbd_front.specs.Calls.{pieces, spans}
use Rattle.nbd_front.specs.Sessions.{EndsAs}

-- a session ended by what its bytes are: by no fault, and not for want of memory
abbrev pub IsByBytes : Result (Unit {0}) NbdRefusal → Type 0
IsByBytes (Ok done) = ⊤
IsByBytes (Err (refusals.Cut place)) = ⊤
IsByBytes (Err (refusals.Magic place)) = ⊤
IsByBytes (Err refusals.OtherName) = ⊤
IsByBytes (Err (refusals.TooLong place)) = ⊤
IsByBytes (Err refusals.OtherFlags) = ⊤
IsByBytes (Err (refusals.Source fault)) = ⊥
IsByBytes (Err (refusals.Sink fault)) = ⊥
IsByBytes (Err refusals.Spent) = ⊥

-- All bytes of a source are these messages, then less than one more, which ends the session so, and a rest that isn't looked at.
pub record IsReading (e : Export) (all : List ℕ) (messages : List Message) (result : Result (Unit {0}) NbdRefusal) : Type 0 where
  pub bytes : List ℕ
  pub last : Phase
  pub tail : List ℕ
  pub rest : List ℕ
  pub whole : all ≡ (bytes ++ tail) ++ rest
  pub reads : Reads e greeted bytes messages last
  pub ends : EndsAs e last (counted 0 (length bytes)) tail (Some rest) result
  pub by_bytes : IsByBytes result

-- the messages, and how the session ends, are determined by the bytes
abbrev pub ReadsOnce : Type 0
ReadsOnce =
    (e : Export) (all : List ℕ) (ms ns : List Message) (r s : Result (Unit {0}) NbdRefusal) → IsReading e all ms r → IsReading e all ns s → (ms ≡ ns) × (r ≡ s)

-- ---- pieces

-- spans lie one behind the other from a place on, each of at least one byte and at most so many
abbrev pub AreBehind : ℕ → ℕ → List (ℕ × ℕ) → Type 0
AreBehind most at [] = ⊤
AreBehind most at (s ∷ ss) = (s.0 ≡ at) × (0 < s.1) × (s.1 ≤ most) × AreBehind most (at + s.1) ss

abbrev pub total_of : List (ℕ × ℕ) → ℕ
total_of [] = 0
total_of (s ∷ ss) = s.1 + total_of ss

-- the spans of a range cover it
abbrev pub SpansCover : Type 0
SpansCover = (most at len : ℕ) → 0 < most → AreBehind most at (spans most at len) × (total_of (spans most at len) ≡ len)

-- the pieces of bytes lie one behind the other, and are these bytes
abbrev pub PiecesCover : Type 0
PiecesCover =
    (most at : ℕ) (bytes : List ℕ) → 0 < most →
    AreBehind most at (map (λ p. (p.0, length p.1)) (pieces most 1 at bytes)) × (flat_map (λ p. p.1) (pieces most 1 at bytes) ≡ bytes)
