-- One file that is sealed: its readers, and what stops it.
use Rattle.std.proofs.Common.{◌≡◌, ◌<◌, ℕ, List, [], ◌∷◌, length, refl, sym, subst}
use Rattle.std.specs.Prelude.{All, Option, Some, None, option_map}
use Rattle.std.proofs.lemmas.List.{append-nil}
use Rattle.store_model.specs.Bytes.{IsBytes}
use Rattle.store_model.specs.Disk.{Disk, ReadFailed, SealFailed, Sealed, SealsReaders, WhereTold, reader_of}
use Rattle.store_model.specs.File.{seen}
use Rattle.store_model.specs.Trace.{ReadsAreImages, Trace, file_of}
use Rattle.store_model.specs.declared.fault.SealFault.{SealFault}
use Rattle.store_model.specs.declared.fault.SealFault.TheVariants.{NoRoom, Store}
use Rattle.store_model.specs.declared.fault.StoreFault.{StoreFault}
use Rattle.sealed_file.specs.Sealing.{IsSealedFile, WithLength}
use Rattle.chain_core.specs.Sealed.{StopsSealing, sealed_in}

-- ---- readers

-- what is told of the content is told of the file
content_told : (f : Trace → List ℕ) (P : List ℕ → Type 0) (o : Option Trace) → WhereTold o (λ t. P (f t)) → WhereTold (option_map f o) P
content_told f P None h bytes is = let never : ◌≡◌ {A = Option (List ℕ)} None (Some bytes) = is in cc
content_told f P (Some t) h bytes is = let same : f t ≡ bytes = cc in subst P same (h t refl)

reader_sealed : (file len : ℕ) (disk : Disk) → WhereTold disk.told (λ t. len ≡ length (seen (file_of t file))) → WhereTold disk.told (λ t. file < length t.attached) → WhereTold disk.told ReadsAreImages → IsSealedFile (reader_of file disk) file len
reader_sealed file len disk long within images = record {
  of_file = refl;
  are_bytes = content_told (λ t. seen (file_of t file)) IsBytes disk.told (λ t is. (images t is file (within t is)).are_bytes);
  long = content_told (λ t. seen (file_of t file)) (WithLength len) disk.told (λ t is. sym (long t is));
}

-- each of the readers that a seal makes is one of the file, of its length
pub readers_sealed : {R : Type 0} (sealed : R → Sealed) (file len n : ℕ) (disk : Disk) (readers : List R) → SealsReaders sealed file n disk readers → WhereTold disk.told (λ t. len ≡ length (seen (file_of t file)))
    → WhereTold disk.told (λ t. file < length t.attached) → WhereTold disk.told ReadsAreImages → All (λ r. IsSealedFile (sealed r) file len) readers
readers_sealed sealed file len n disk readers made long within images k d below = subst (λ (s : Sealed). IsSealedFile s file len) (sym (made.each k d below)) (reader_sealed file len disk long within images)

-- ---- what stops it

pub stopped_read : (file : ℕ) (old new : Disk) (fault : StoreFault) → ReadFailed file old new fault → StopsSealing (file ∷ []) old new (Store fault)
stopped_read file old new fault failed = record { sealed = []; left = file ∷ []; each = refl; stops = failed }

-- memory ran out before the next one was sealed, or behind all
pub stopped_before : (numbers : List ℕ) (old new : Disk) → new ≡ old → StopsSealing numbers old new NoRoom
stopped_before numbers old new same = record { sealed = []; left = numbers; each = refl; stops = same }

pub stopped_behind : (numbers : List ℕ) (old new : Disk) → new ≡ sealed_in numbers old → StopsSealing numbers old new NoRoom
stopped_behind numbers old new same = record { sealed = numbers; left = []; each = sym (append-nil numbers); stops = same }

pub stopped_seal : (file : ℕ) (old new : Disk) (fault : SealFault) → SealFailed file old new fault → StopsSealing (file ∷ []) old new fault
stopped_seal file old new NoRoom same = stopped_before (file ∷ []) old new same
stopped_seal file old new (Store fault) failed = stopped_read file old new fault failed
