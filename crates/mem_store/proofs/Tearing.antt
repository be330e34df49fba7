-- A write that fails and leaves the first half of its bytes.
use Rattle.std.proofs.Common.{◌≡◌, ◌<◌, ◌≤◌, ◌∙◌, ◌/◌, ℕ, ◌+◌, List, length, take, ap, sym, subst, arith}
use Rattle.std.specs.Prelude.{Result, Ok, Err, OnOk, OnErr}
use Rattle.std.proofs.lemmas.List.{length-take-le, length-map}
use Rattle.vx_base.proofs.ByteLists.{bytes-drop, bytes-take, bytes-written_over, length-overwritten}
use Rattle.store_model.specs.Bytes.{IsBytes, bytes_at}
use Rattle.store_model.specs.Disk.{Disk, ChangeFailed, WriteFailed, LeavesTorn, torn, changed, told_after}
use Rattle.store_model.specs.File.{Tear}
use Rattle.store_model.specs.declared.fault.StoreFault.{StoreFault}
use Rattle.store_model.proofs.Failing.{write_failed}
use Rattle.store_model.proofs.Parts.{length-part}
use Rattle.store_model.specs.Trace.{NamedBytes}
use Rattle.mem_file.specs.MemFile.{Contents}
use Rattle.mem_store.specs.MemStore.{all_contents}
use Rattle.mem_file.specs.Steps.{half_of, changes_of}
use Rattle.mem_store.specs.StoreReads.{lawful_reads}
use Rattle.mem_store.specs.StoreTold.{seen_by}
use Rattle.mem_store.specs.declared.store.MemStore.{MemStore}
use Rattle.mem_store.proofs.Telling.{inside}

-- the half is as long as the whole, and bytes
pub length-half : (old : List ℕ) (at : ℕ) (bytes : List ℕ) → at + length bytes ≤ length old → length (half_of old at bytes) ≡ length bytes
length-half old at bytes within =
    let n = length bytes in
    let range : length (bytes_at old at n) ≡ n = length-part old at n within in
    let short : length (take (n / 2) bytes) ≤ n = omega (arith, length-take-le (n / 2) bytes (omega arith)) in
    length-overwritten (bytes_at old at n) (take (n / 2) bytes) 0 (omega (arith, range, short)) ∙ range

pub bytes-half : (old : List ℕ) (at : ℕ) (bytes : List ℕ) → IsBytes old → IsBytes bytes → IsBytes (half_of old at bytes)
unfolding bytes_at
bytes-half old at bytes first second =
    bytes-written_over (bytes_at old at (length bytes)) 0 (take (length bytes / 2) bytes) (bytes-take (length bytes) (bytes-drop at first)) (bytes-take (length bytes / 2) second)

named : Contents → NamedBytes
named c = record { name = c.name; bytes = c.file.attached }

-- what reads give is bytes
pub seen_bytes : (s : MemStore) (i : ℕ) → i < length s.files.items → IsBytes (seen_by s i)
unfolding named
seen_bytes s i within =
    let files = all_contents s.files.items in
    (lawful_reads s.files.items (changes_of s.order.items) s.tallied i (omega (arith, inside s.files.items i within, length-map files named))).are_bytes

-- A write that failed and left these bytes.
write_torn : (i at : ℕ) (meant left : List ℕ) (old mid new : Disk) (fault : StoreFault) → mid ≡ changed i (Tear at meant left) old → length left ≡ length meant → IsBytes left → ChangeFailed i mid new fault → WriteFailed i at meant old new fault
write_torn i at meant left old mid new fault made as_many are_bytes failed =
    let after : ChangeFailed i (changed i (Tear at meant left) old) new fault = subst (λ d. ChangeFailed i d new fault) made failed in
    let same : new.told ≡ told_after i (Tear at meant left) old.told = ap (λ (d : Disk). d.told) after.stays in
    record {
      stays = after.stays ∙ ap (λ t. let made : Disk = record old { told = t; failed_changes = new.failed_changes } in made) (sym same);
      left = subst (LeavesTorn i at meant old.told) (sym same) (torn left as_many are_bytes);
      of_file = after.of_file;
      count = after.count;
    }

-- The same of one that left these bytes or nothing.
pub write_torn_or_not : {E : Type 0} (i at : ℕ) (meant left : List ℕ) (result : Result (Unit {0}) E) (old mid new : Disk) (fault : StoreFault) → OnOk result (mid ≡ changed i (Tear at meant left) old) → OnErr result (mid ≡ old)
    → length left ≡ length meant → IsBytes left → ChangeFailed i mid new fault → WriteFailed i at meant old new fault
write_torn_or_not i at meant left (Ok _) old mid new fault made stays as_many are_bytes failed = write_torn i at meant left old mid new fault made as_many are_bytes failed
write_torn_or_not i at meant left (Err _) old mid new fault made stays as_many are_bytes failed = write_failed i at meant old new fault (subst (λ d. ChangeFailed i d new fault) stays failed)
