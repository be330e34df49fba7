-- Histories of the same calls of several guests, who keep to sectors of their own (profile).
use Rattle.std.specs.Prelude.{◌≡◌, ◌⊎◌, ⊤, ℕ, List, [], ◌∷◌, ◌++◌, ◌+◌, ◌<◌, ◌≤◌, ◌==◌, ◌&&◌, Bool, true, nat_le, nat_lt, filter, length, IsPermutation}
use Rattle.std.specs.List.{AllByRecursion}
use Rattle.guest_model.specs.declared.call.Call.{Call}
use Rattle.guest_model.specs.declared.call.Entry.{Entry}
use Rattle.guest_model.specs.declared.call.Reply.{Reply}
use Rattle.guest_model.specs.Calls.{Disk, apply, first_sector, reply, sector_count}
use Rattle.guest_model.specs.History.{History, replay}

-- whether sector i is one that a call reads or names
abbrev pub speaks_of : ℕ → Call → ℕ → Bool
speaks_of z call i = nat_le (first_sector call) i && nat_lt i (first_sector call + sector_count z call)

-- an entry's call speaks of its guest's own sectors alone; whose a sector is, `owner` says
abbrev pub KeepsToOwn : ℕ → (ℕ → ℕ) → Entry → Type 0
KeepsToOwn z owner e = (i : ℕ) → speaks_of z e.call i ≡ true → owner i ≡ e.guest

-- a guest's entries, in their order
abbrev pub entries_of : ℕ → History → History
entries_of guest h = filter (λ e. e.guest == guest) h

-- Two histories have the same calls of each guest, each once and in the guest's order, and nothing else.
abbrev pub HaveSameCalls : History → History → Type 0
HaveSameCalls h k = (guest : ℕ) → entries_of guest h ≡ entries_of guest k

-- an entry with what its call is told
pub record Told : Type 0 where
  pub entry : Entry
  pub told : Reply

-- a history's entries in order, each told its reply at its place
abbrev pub told_in : ℕ → Disk → History → List Told
told_in z disk [] = []
told_in z disk (e ∷ h) = record { entry = e; told = reply disk e.call } ∷ told_in z (apply z disk e.call) h

-- those of a guest
abbrev pub told_to : ℕ → List Told → List Told
told_to guest all = filter (λ t. t.entry.guest == guest) all

-- From this disk two histories leave one disk, each guest is told the same, and so are all, if in another order.
pub record EndAlike (z : ℕ) (disk : Disk) (h k : History) : Type 0 where
  pub left : replay z disk h ≡ replay z disk k
  pub each : (guest : ℕ) → told_to guest (told_in z disk h) ≡ told_to guest (told_in z disk k)
  pub all : IsPermutation (told_in z disk h) (told_in z disk k)

-- ---- by places, which are counted from 1

-- x stands at place p of a list
pub record StandsAt {X : Type 0} (xs : List X) (p : ℕ) (x : X) : Type 0 where
  pub before : List X
  pub behind : List X
  pub is : xs ≡ before ++ x ∷ behind
  pub place : p ≡ length before + 1

-- an entry stands at place p of a history, and is told its reply there
pub record IsToldAt (z : ℕ) (disk : Disk) (h : History) (p : ℕ) (t : Told) : Type 0 where
  pub stands : StandsAt h p t.entry
  pub told : t.told ≡ reply (replay z disk stands.before) t.entry.call

-- these stand at these places, one at each
abbrev pub EachAt : {X : Type 0} → (ℕ → X → Type 0) → List ℕ → List X → Type 0
EachAt P [] [] = ⊤
EachAt P [] (x ∷ xs) = ⊥
EachAt P (p ∷ places) [] = ⊥
EachAt P (p ∷ places) (x ∷ xs) = P p x × EachAt P places xs

-- each is above all before it
abbrev pub IsRising : List ℕ → Type 0
IsRising [] = ⊤
IsRising (p ∷ places) = AllByRecursion (λ q. p < q) places × IsRising places

abbrev pub Has : ℕ → List ℕ → Type 0
Has p [] = ⊥
Has p (q ∷ places) = (p ≡ q) ⊎ Has p places

-- of each guest the places rise, and each place of a history of this length is one of a guest's
pub record AreShared (count : ℕ) (places : ℕ → List ℕ) : Type 0 where
  pub rising : (g : ℕ) → IsRising (places g)
  pub each : (p : ℕ) → 1 ≤ p → p ≤ count → (g : ℕ) × Has p (places g)
