-- What a guest is told, as a disk's calls.
use Rattle.std.proofs.Common.{◌≡◌, ℕ, List, true, Some, None, Result, Ok, Err, refl, sym, ap, subst, ◌∙◌, arith}
use Rattle.std.specs.Prelude.{nat_lt}
use Rattle.store_model.specs.Disk.{Disk, Sealed}
use Rattle.store_model.specs.declared.fault.StoreFault.{StoreFault}
use Rattle.guest_model.specs.Counts.{one_more}
use Rattle.guest_model.specs.declared.call.Call.{Call}
use Rattle.guest_model.specs.declared.call.Call.TheVariants as calls
use Rattle.guest_model.specs.declared.call.Reply.TheVariants.{Bytes, Done}
use Rattle.guest_model.specs.declared.refusal.ChainRefusal.{ChainRefusal}
use Rattle.read_plan.specs.Reading.{has_failed}
use Rattle.read_plan.proofs.Failing.{has_now}
use Rattle.guest_io.specs.Guests.{AreReadBy, IsCall, ReadsBy, caller_of, found_by, placed_at}
use Rattle.guest_io.specs.declared.guest.Guest.{Guest}
use Rattle.guest_io.specs.declared.placed.Placed.{Placed}
use Rattle.disk_calls.specs.Disks.{plain, through, told}
use Rattle.guest_disk.specs.Hearing.{Held, Tells, answer_of, held, of_both, of_call, of_flush, of_write, was_done, was_lost, was_refused, with_lost}

module _ {S T : Type 0} (disk : S → Disk) where
  -- of a read
  pub heard_read : (old new : Guest S T) (lost : ℕ) (first count : ℕ) (bytes : List ℕ) (answer : Result Placed ChainRefusal) → (new.number ≡ old.number) × (new.next ≡ one_more old.next) → ReadsBy answer old.readers new.readers
      → IsCall disk (caller_of old.number old.next) (calls.Read first count) (found_by answer bytes) old.seat new.seat (placed_at answer)
      → Tells disk (held old lost) (plain (calls.Read first count)) (told (Bytes bytes) (answer_of answer)) (held new (with_lost lost answer))
  heard_read old new lost first count bytes (Ok placed) on reads called = by_read placed.place placed.read reads called
    where
      by_read : (place : ℕ) (read : Result (Unit {0}) StoreFault) → AreReadBy read old.readers new.readers
          → IsCall disk (caller_of old.number old.next) (calls.Read first count) (found_by (Ok (record { place = place; read = read })) bytes) old.seat new.seat (Ok place)
          → Tells disk (held old lost) (plain (calls.Read first count)) (told (Bytes bytes) (answer_of (Ok (record { place = place; read = read })))) (held new (with_lost lost (Ok (record { place = place; read = read }))))
      by_read place (Ok done) reads called = of_call (was_done (record { number = on.0; next = on.1; reads = reads }) refl called)
      by_read place (Err fault) reads called = of_call (was_lost fault (record { number = on.0; next = on.1; reads = reads }) refl refl called)
  heard_read old new lost first count bytes (Err refusal) on reads called = of_call (was_refused (record { number = on.0; next = on.1; reads = reads }) refl None called)

  -- by what it was answered as
  pub read_told : (old new : Guest S T) (lost now first count n : ℕ) (bytes : List ℕ) (answer : Result Placed ChainRefusal) (r : Result ℕ ChainRefusal) → now ≡ with_lost lost answer → r ≡ answer_of answer → n ≡ count
      → (new.number ≡ old.number) × (new.next ≡ one_more old.next) → ReadsBy answer old.readers new.readers
      → IsCall disk (caller_of old.number old.next) (calls.Read first count) (found_by answer bytes) old.seat new.seat (placed_at answer)
      → Tells disk (held old lost) (plain (calls.Read first n)) (told (Bytes bytes) r) (held new now)
  read_told old new lost now first count n bytes answer r now_is r_is n_is on reads called =
      subst (λ k. Tells disk (held old lost) (plain (calls.Read first k)) (told (Bytes bytes) r) (held new now)) (sym n_is)
      (subst (λ x. Tells disk (held old lost) (plain (calls.Read first count)) (told (Bytes bytes) x) (held new now)) (sym r_is)
      (subst (λ l. Tells disk (held old lost) (plain (calls.Read first count)) (told (Bytes bytes) (answer_of answer)) (held new l)) (sym now_is)
      (heard_read old new lost first count bytes answer on reads called)))

  -- of another call
  pub heard_call : (old new : Guest S T) (lost : ℕ) (call : Call) (answer : Result ℕ ChainRefusal) → (new.number ≡ old.number) × (new.next ≡ one_more old.next) → new.readers ≡ old.readers
      → IsCall disk (caller_of old.number old.next) call (Some Done) old.seat new.seat answer → Tells disk (held old lost) (plain call) (told Done answer) (held new lost)
  heard_call old new lost call (Ok place) on same called = of_call (was_done (record { number = on.0; next = on.1; reads = same }) refl called)
  heard_call old new lost call (Err refusal) on same called = of_call (was_refused (record { number = on.0; next = on.1; reads = same }) refl (Some Done) called)

  -- of a write that outlasts a crash
  pub told_flushed : (old mid new : Held S T) (first place flushed : ℕ) (bytes : List ℕ) → Tells disk old (plain (calls.Write first bytes)) (Ok (place, Done)) mid → Tells disk mid (plain calls.Flush) (Ok (flushed, Done)) new
      → Tells disk old (through first bytes) (Ok (place, Done)) new
  told_flushed old mid new first place flushed bytes (of_call w) (of_call f) = of_both mid w f

  pub told_unflushed : (old mid new : Held S T) (first place : ℕ) (bytes : List ℕ) (refusal : ChainRefusal) → Tells disk old (plain (calls.Write first bytes)) (Ok (place, Done)) mid → Tells disk mid (plain calls.Flush) (Err refusal) new
      → Tells disk old (through first bytes) (Err refusal) new
  told_unflushed old mid new first place bytes refusal (of_call w) (of_call f) = of_flush mid w f

  pub told_unwritten : (old new : Held S T) (first : ℕ) (bytes : List ℕ) (refusal : ChainRefusal) → Tells disk old (plain (calls.Write first bytes)) (Err refusal) new → Tells disk old (through first bytes) (Err refusal) new
  told_unwritten old new first bytes refusal (of_call w) = of_write w

-- how many reads were lost goes with whether a reader has failed
some_more : (lost : ℕ) → nat_lt 0 (one_more lost) ≡ true
some_more lost = grind arith

pub failed_still : (old new : List Sealed) (lost : ℕ) (answer : Result Placed ChainRefusal) → ReadsBy answer old new → has_failed old ≡ nat_lt 0 lost → has_failed new ≡ nat_lt 0 (with_lost lost answer)
failed_still old new lost (Err refusal) same failed = subst (λ r. has_failed r ≡ nat_lt 0 lost) (sym same) failed
failed_still old new lost (Ok placed) by failed = go placed.read by
  where
    go : (read : Result (Unit {0}) StoreFault) → ReadsBy (Ok (record { place = placed.place; read = read })) old new → has_failed new ≡ nat_lt 0 (with_lost lost (Ok (record { place = placed.place; read = read })))
    go (Ok done) same = subst (λ r. has_failed r ≡ nat_lt 0 lost) (sym same) failed
    go (Err fault) f = has_now old new _ f ∙ sym (some_more lost)

pub failed_now : (old new : List Sealed) (lost now : ℕ) (answer : Result Placed ChainRefusal) → now ≡ with_lost lost answer → ReadsBy answer old new → has_failed old ≡ nat_lt 0 lost → has_failed new ≡ nat_lt 0 now
failed_now old new lost now answer is by failed = failed_still old new lost answer by failed ∙ sym (ap (nat_lt 0) is)
