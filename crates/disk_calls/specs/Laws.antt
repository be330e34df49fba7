-- Calls that were told truly, one after the other, are those of one history.
use Rattle.std.specs.Prelude.{◌≡◌, ◌<◌, ◌-◌, ⊤, ℕ, List, [], ◌∷◌, ◌++◌, length, take, Some, Ok, Err}
use Rattle.guest_model.specs.declared.call.Call.{Call}
use Rattle.guest_model.specs.declared.call.Call.TheVariants.{Flush, Read, Write}
use Rattle.guest_model.specs.declared.call.Reply.{Reply}
use Rattle.guest_model.specs.declared.call.Reply.TheVariants.{Done}
use Rattle.guest_model.specs.declared.refusal.ChainRefusal.{ChainRefusal}
use Rattle.guest_model.specs.declared.refusal.ChainRefusal.TheVariants.{ReadFault}
use Rattle.guest_model.specs.Calls.{reply}
use Rattle.guest_model.specs.History.{History, replay}
use Rattle.disk_calls.specs.Disks.{Answered, Answers, Asked, Known, Runs, Told, plain, through}

-- the guest's call stands at its place in the history
pub record IsAt (k : Known) (call : Call) (place : ℕ) : Type 0 where
  pub number : ℕ
  pub there : take place k.seen ≡ take (place - 1) k.seen ++ record { guest = k.guest; no = number; call = call } ∷ []

-- It does, and its reply is that of the disk with the calls before it made on it.
pub record StandsIn (z : ℕ) (k : Known) (call : Call) (place : ℕ) (said : Reply) : Type 0 where
  pub at : IsAt k call place
  pub answer : said ≡ reply (replay z k.opening (take (place - 1) k.seen)) call

-- What a call that was told so has in the history, and at which places: itself; a Write and behind it a Flush for a write that outlasts a
-- crash; nothing where it was refused, but for a lost read, and the Write of such a write whose Flush was refused.
pub data Has (z : ℕ) (k : Known) : Asked → Told → List ℕ → Type 0 where
  has_call : {call : Call} {place : ℕ} {said : Reply} → StandsIn z k call place said → Has z k (plain call) (Ok (place, said)) (place ∷ [])
  has_both : {first place flushed : ℕ} {bytes : List ℕ} → IsAt k (Write first bytes) place → IsAt k Flush flushed
      → Has z k (through first bytes) (Ok (place, Done)) (place ∷ flushed ∷ [])
  has_nothing : {asked : Asked} {refusal : ChainRefusal} → Has z k asked (Err refusal) []
  has_write : {first place : ℕ} {bytes : List ℕ} {refusal : ChainRefusal} → IsAt k (Write first bytes) place → Has z k (through first bytes) (Err refusal) (place ∷ [])
  has_read : {first count place file failed : ℕ} → IsAt k (Read first count) place → Has z k (plain (Read first count)) (Err (ReadFault file failed)) (place ∷ [])

-- so it is of calls one after the other, and these are all the places
pub data HasAll (z : ℕ) (k : Known) : List Answered → List ℕ → Type 0 where
  has_none : HasAll z k [] []
  has_next : {c : Answered} {cs : List Answered} {at rest : List ℕ} → Has z k c.asked c.said at → HasAll z k cs rest → HasAll z k (c ∷ cs) (at ++ rest)

-- the places rise from behind one on
abbrev pub AreRising : ℕ → List ℕ → Type 0
AreRising behind [] = ⊤
AreRising behind (p ∷ ps) = (behind < p) × AreRising p ps

-- What was told of calls is true of the one history that the guest knows behind them: it begins with what the guest had seen before; what the
-- calls have in it stands at these places, which rise, behind all that it had seen, and are the guest's own, and so are no others.
pub record IsOneHistory (z : ℕ) (old new : Known) (calls : List Answered) : Type 0 where
  pub guest : new.guest ≡ old.guest
  pub opening : new.opening ≡ old.opening
  pub later : History
  pub begins : new.seen ≡ old.seen ++ later
  pub places : List ℕ
  pub own : new.mine ≡ old.mine ++ places
  pub told : HasAll z new calls places
  pub rising : AreRising (length old.seen) places

abbrev pub OneHistory : Type 0
OneHistory = (z : ℕ) (old new : Known) (calls : List Answered) → Runs (Answers z) (Some old) calls (Some new) → IsOneHistory z old new calls
