-- A disk as one guest calls it (profile): what it is asked, what it tells, and what the guest knows of the history by that.
use Rattle.std.specs.Prelude.{◌≡◌, ℕ, ◌%◌, ⊤, List, [], ◌∷◌, ◌++◌, length, Option, Some, None, Result, Ok, Err}
use Rattle.guest_model.specs.declared.call.Call.{Call}
use Rattle.guest_model.specs.declared.call.Call.TheVariants.{Flush, Read, Write}
use Rattle.guest_model.specs.declared.call.Reply.{Reply}
use Rattle.guest_model.specs.declared.call.Reply.TheVariants.{Done}
use Rattle.guest_model.specs.declared.refusal.ChainRefusal.{ChainRefusal}
use Rattle.guest_model.specs.declared.refusal.ChainRefusal.TheVariants.{ReadFault}
use Rattle.guest_model.specs.Calls.{Disk, reply}
use Rattle.guest_model.specs.History.{History, replay}
use Rattle.vx_base.specs.declared.parts.Geometry.{Geometry}

-- What a guest asks: a call, or a write that outlasts a crash once it is answered. That one is no call of the model yet, but a Write and a
-- Flush behind it; where it becomes one, this type is that of calls.
pub data Asked : Type 0 where
  plain : Call → Asked
  through : ℕ → List ℕ → Asked

-- the call that stands in the history at the place that is told of it
abbrev pub noted : Asked → Call
noted (plain call) = call
noted (through first bytes) = Write first bytes

-- What a guest is told: the call's place in the history and its reply, or why it was refused.
abbrev pub Told : Type 0
Told = Result (ℕ × Reply) ChainRefusal

-- what a reply tells, with the place that was answered
abbrev pub told : Reply → Result ℕ ChainRefusal → Told
told said (Ok place) = Ok (place, said)
told said (Err refusal) = Err refusal

-- a call, and what was told of it
pub record Answered : Type 0 where
  pub asked : Asked
  pub said : Told

-- What a kind of disk says of each call: which disk may be there behind which, where it was asked this and told that.
abbrev pub Telling : Type 0 → Type 1
Telling D = D → Asked → Told → D → Type 0

-- calls were made one after the other, from the first disk to the last
abbrev pub Runs : {D : Type 0} → Telling D → D → List Answered → D → Type 0
Runs tells old [] new = new ≡ old
Runs {D = D} tells old (c ∷ cs) new = (mid : D) × tells old c.asked c.said mid × Runs tells mid cs new

-- ---- what a guest knows

-- What a guest knows: its number, the disk as it was opened, the history so far, and which places of it are its own.
pub record Known : Type 0 where
  pub guest : ℕ
  pub opening : Disk
  pub seen : History
  pub mine : List ℕ

-- what the guest knows when others have called
abbrev pub behind : Known → History → Known
behind k others = record k { seen = k.seen ++ others }

-- The guest's call stands in the history, behind all that it had seen and what others called since, at a place of its own.
pub record IsNoted (call : Call) (place : ℕ) (old new : Known) : Type 0 where
  pub others : History
  pub number : ℕ
  pub is : new ≡ record old {
    seen = (old.seen ++ others) ++ record { guest = old.guest; no = number; call = call } ∷ [];
    mine = old.mine ++ place ∷ [];
  }
  pub last : place ≡ length new.seen

-- What was told of a call is true, from what the guest knew before to what it knows behind it; a sector has z bytes. A call that was done
-- stands in the history at the place that was told, and its reply is the one of the disk there. A write that outlasts a crash stands in it as
-- a Write at that place, and behind it, others' calls between them perhaps, stands a Flush of the same guest: so much is flushed before it is
-- told. A refused call doesn't stand in it, but for a read of which a part couldn't be read behind its turn, and for such a write whose Flush was
-- refused.
pub data IsTrueOf (z : ℕ) (old new : Known) : Asked → Told → Type 0 where
  was_done : {call : Call} {place : ℕ} {said : Reply} → (n : IsNoted call place old new) → said ≡ reply (replay z old.opening (old.seen ++ n.others)) call
      → IsTrueOf z old new (plain call) (Ok (place, said))
  was_flushed : {first place flushed : ℕ} {bytes : List ℕ} → (mid : Known) → IsNoted (Write first bytes) place old mid → IsNoted Flush flushed mid new
      → IsTrueOf z old new (through first bytes) (Ok (place, Done))
  was_refused : {asked : Asked} {refusal : ChainRefusal} → (others : History) → new ≡ behind old others → IsTrueOf z old new asked (Err refusal)
  was_unflushed : {first place : ℕ} {bytes : List ℕ} {refusal : ChainRefusal} → (mid : Known) → IsNoted (Write first bytes) place old mid → (others : History) → new ≡ behind mid others
      → IsTrueOf z old new (through first bytes) (Err refusal)
  was_lost : {first count place file failed : ℕ} → IsNoted (Read first count) place old new → IsTrueOf z old new (plain (Read first count)) (Err (ReadFault file failed))

-- the same where a disk tells what its guest knows, which it does always or never
abbrev pub Answers : ℕ → Telling (Option Known)
Answers z None asked said None = ⊤
Answers z None asked said (Some new) = ⊥
Answers z (Some old) asked said None = ⊥
Answers z (Some old) asked said (Some new) = IsTrueOf z old new asked said

-- What a disk says of a call keeps its size, and what it tells of the history is true.
pub record IsTold (size_before size_behind : Geometry) (old : Option Known) (asked : Asked) (said : Told) (new : Option Known) : Type 0 where
  pub size : size_behind ≡ size_before
  pub answers : Answers size_before.sector old asked said new

-- so many bytes are whole sectors
abbrev pub IsWhole : ℕ → ℕ → Type 0
IsWhole z len = len % z ≡ 0
