-- What a guest of a shared chain is told as it calls a disk, by what its seat knew before each call and knows behind it (profile).
use Rattle.std.specs.Prelude.{◌≡◌, ℕ, List, true, Option, Some, None, Result, Ok, Err}
use Rattle.store_model.specs.Disk.{Disk}
use Rattle.store_model.specs.declared.fault.StoreFault.{StoreFault}
use Rattle.guest_model.specs.Counts.{one_more}
use Rattle.guest_model.specs.declared.call.Call.{Call}
use Rattle.guest_model.specs.declared.call.Call.TheVariants.{Flush, Write}
use Rattle.guest_model.specs.declared.call.Reply.{Reply}
use Rattle.guest_model.specs.declared.call.Reply.TheVariants.{Done}
use Rattle.guest_model.specs.declared.refusal.ChainRefusal.{ChainRefusal}
use Rattle.guest_model.specs.declared.refusal.ChainRefusal.TheVariants.{ReadFault}
use Rattle.chain_core.specs.Refusing.{is_read}
use Rattle.guest_io.specs.Guests.{AreReadBy, IsCall, caller_of}
use Rattle.guest_io.specs.declared.guest.Guest.{Guest}
use Rattle.guest_io.specs.declared.placed.Placed.{Placed}
use Rattle.disk_calls.specs.Disks.{Asked, Told, plain, through}
use Rattle.turn_lock.specs.Seats.{TableId}
use Rattle.vx_base.specs.declared.parts.Geometry.{Geometry}

-- what a read is answered as a call of a disk
abbrev pub read_of : ℕ → Result (Unit {0}) StoreFault → Result ℕ ChainRefusal
read_of place (Ok done) = Ok place
read_of place (Err fault) = Err (ReadFault fault.file fault.count)

abbrev pub answer_of : Result Placed ChainRefusal → Result ℕ ChainRefusal
answer_of (Ok placed) = read_of placed.place placed.read
answer_of (Err refusal) = Err refusal

-- one more read that a reader failed for, if it did for this one
abbrev pub with_read : ℕ → Result (Unit {0}) StoreFault → ℕ
with_read lost (Ok done) = lost
with_read lost (Err fault) = one_more lost

abbrev pub with_lost : ℕ → Result Placed ChainRefusal → ℕ
with_lost lost (Ok placed) = with_read lost placed.read
with_lost lost (Err refusal) = lost

-- A guest, and how many of its reads stand in the history and failed by a reader.
pub record Held (S T : Type 0) : Type 0 where
  pub guest : Guest S T
  pub lost : ℕ

-- What contracts see of a disk as a guest calls it: the lock of its chain, the guest, and the disk's size.
pub record View (S T : Type 0) : Type 0 where
  pub lock : TableId
  pub held : Held S T
  pub geometry : Geometry

module _ {S T : Type 0} where
  abbrev pub held : Guest S T → ℕ → Held S T
  held guest lost = record { guest = guest; lost = lost }

  -- the guest's next call was made, with this reply if any, and answered so
  abbrev pub Calls : (S → Disk) → Call → Option Reply → Held S T → Held S T → Result ℕ ChainRefusal → Type 0
  Calls disk call r old new answer = IsCall disk (caller_of old.guest.number old.guest.next) call r old.guest.seat new.guest.seat answer

  -- and the guest goes on, with its readers as they were, but where one of them failed for the read
  pub record GoesOn (read : Result (Unit {0}) StoreFault) (old new : Held S T) : Type 0 where
    pub number : new.guest.number ≡ old.guest.number
    pub next : new.guest.next ≡ one_more old.guest.next
    pub reads : AreReadBy read old.guest.readers new.guest.readers

  -- A call was done, and has its reply at its place; or it was refused; or it is a read that stands in the history, and a reader failed for it behind
  -- its turn.
  pub data Hears (disk : S → Disk) (call : Call) (old new : Held S T) : Told → Type 0 where
    was_done : {place : ℕ} {said : Reply} → GoesOn (Ok tt) old new → new.lost ≡ old.lost → Calls disk call (Some said) old new (Ok place) → Hears disk call old new (Ok (place, said))
    was_refused : {refusal : ChainRefusal} → GoesOn (Ok tt) old new → new.lost ≡ old.lost → (r : Option Reply) → Calls disk call r old new (Err refusal) → Hears disk call old new (Err refusal)
    was_lost : {place : ℕ} → (fault : StoreFault) → GoesOn (Err fault) old new → new.lost ≡ one_more old.lost → is_read call ≡ true → Calls disk call None old new (Ok place)
        → Hears disk call old new (Err (ReadFault fault.file fault.count))

  -- What is told of what a disk is asked: of a call what the guest is told of it; of a write that outlasts a crash the place of its Write, once the
  -- Flush behind it was done; else why one of them was refused.
  pub data Tells (disk : S → Disk) (old : Held S T) : Asked → Told → Held S T → Type 0 where
    of_call : {call : Call} {said : Told} {new : Held S T} → Hears disk call old new said → Tells disk old (plain call) said new
    of_both : {first place flushed : ℕ} {bytes : List ℕ} {new : Held S T} → (mid : Held S T) → Hears disk (Write first bytes) old mid (Ok (place, Done)) → Hears disk Flush mid new (Ok (flushed, Done))
        → Tells disk old (through first bytes) (Ok (place, Done)) new
    of_write : {first : ℕ} {bytes : List ℕ} {refusal : ChainRefusal} {new : Held S T} → Hears disk (Write first bytes) old new (Err refusal) → Tells disk old (through first bytes) (Err refusal) new
    of_flush : {first place : ℕ} {bytes : List ℕ} {refusal : ChainRefusal} {new : Held S T} → (mid : Held S T) → Hears disk (Write first bytes) old mid (Ok (place, Done)) → Hears disk Flush mid new (Err refusal)
        → Tells disk old (through first bytes) (Err refusal) new
