-- What the calls of a layer do, in the words of chains.
use Rattle.std.specs.Prelude.{◌≡◌, ◌⊎◌, ℕ, ◌+◌, ◌-◌, ◌*◌, ◌/◌, ◌<◌, ◌≤◌, Bool, true, false, ◌&&◌, ◌||◌, nat_le, nat_lt, if◌then◌else◌, List, length, map, Some, None, Result, Ok, Err}
use Rattle.vx_base.specs.Fields.{bytes_at, zeros}
use Rattle.vx_base.specs.declared.parts.Parts.{Parts}
use Rattle.vhdx_format.specs.SectorBitmaps.{bit_of}
use Rattle.store_model.specs.Disk.{Disk, ReadFailed}
use Rattle.store_model.specs.File.{seen, is_synced}
use Rattle.store_model.specs.Plans.{FailsToChange}
use Rattle.store_model.specs.Trace.{Trace, file_of}
use Rattle.chain_model.specs.Files.{HasParts, layer_in}
use Rattle.chain_model.specs.Layers as chain
use Rattle.chain_model.specs.Members.{Member, ties_of}
use Rattle.chain_model.specs.Images.{Placed}
use Rattle.chain_model.specs.Moments.{IsPhase}
use Rattle.chain_model.specs.PhaseLaws.{loosened}
use Rattle.chain_model.specs.Sessions.{IsKept, ShowsFile}
use Rattle.layer_session.specs.declared.file.Layer.{Layer}
use Rattle.layer_session.specs.declared.file.LayerFault.{LayerFault}
use Rattle.layer_session.specs.declared.file.LayerFault.TheVariants.{Read, Write, FileFull}
use Rattle.layer_session.specs.Keeping.{IsHeld, IsReadable, IsReady, Serves}
use Rattle.layer_session.specs.Unnamed.{NamesNoLog}

-- the number of a layer's file in the store
abbrev pub own_file : Layer → ℕ
own_file l = l.tables.parts.file

-- its file, as a read of the store gives it
abbrev pub own_bytes : Layer → Trace → List ℕ
own_bytes l trace = seen (file_of trace (own_file l))

-- a sector is one of `count` from `first` on
abbrev pub is_among : ℕ → ℕ → ℕ → Bool
is_among first count s = nat_le first s && nat_lt s (first + count)

-- ---- reading

-- Of so many sectors from `first` on the mask says, from bit `at` on, which were found; none was, and those that the layer owns
-- are now, with the layer's bytes. The bytes of the others stay, and all other bits of the mask.
pub record HasOwned (layer : chain.Layer) (z first count at : ℕ) (old_mask new_mask old new : List ℕ) : Type 0 where
  pub owned : (i : ℕ) (bytes : List ℕ) → i < count → layer (first + i) ≡ Some bytes → (bit_of new_mask (at + i) ≡ 1) × (bytes_at new (z * i) z ≡ bytes)
  pub others : (i : ℕ) → i < count → layer (first + i) ≡ None → (bit_of new_mask (at + i) ≡ 0) × (bytes_at new (z * i) z ≡ bytes_at old (z * i) z)
  pub rest : (k : ℕ) → k < 8 * length old_mask → (k < at) ⊎ (at + count ≤ k) → bit_of new_mask k ≡ bit_of old_mask k
  pub mask_len : length new_mask ≡ length old_mask
  pub len : length new ≡ length old

-- The layer adds what it owns to what was found: a sector that was found stays so, with its bytes, and of the others those that the
-- layer owns are found now.
pub record AddsOwned (layer : chain.Layer) (z first count at : ℕ) (old_mask new_mask old new : List ℕ) : Type 0 where
  pub found : (i : ℕ) → i < count → bit_of old_mask (at + i) ≡ 1 → (bit_of new_mask (at + i) ≡ 1) × (bytes_at new (z * i) z ≡ bytes_at old (z * i) z)
  pub owned : (i : ℕ) (bytes : List ℕ) → i < count → bit_of old_mask (at + i) ≡ 0 → layer (first + i) ≡ Some bytes → (bit_of new_mask (at + i) ≡ 1) × (bytes_at new (z * i) z ≡ bytes)
  pub others : (i : ℕ) → i < count → bit_of old_mask (at + i) ≡ 0 → layer (first + i) ≡ None → (bit_of new_mask (at + i) ≡ 0) × (bytes_at new (z * i) z ≡ bytes_at old (z * i) z)
  pub rest : (k : ℕ) → k < 8 * length old_mask → (k < at) ⊎ (at + count ≤ k) → bit_of new_mask k ≡ bit_of old_mask k
  pub mask_len : length new_mask ≡ length old_mask
  pub len : length new ≡ length old

-- Only what the layer keeps in memory is another: it holds what it held, and serves what it served.
pub record IsSame (old new : Layer) (disk : Disk) : Type 0 where
  pub parts : new.tables.parts ≡ old.tables.parts
  pub number : new.log.number ≡ old.log.number
  pub header : new.log.header ≡ old.log.header
  pub readable : IsReadable new disk
  pub ready : IsReady old disk → IsReady new disk
  pub holds : (trace : Trace) (parts : Parts) (layer : chain.Layer) → disk.told ≡ Some trace → IsHeld old parts layer (own_bytes old trace) → IsHeld new parts layer (own_bytes old trace)
  pub serves : (trace : Trace) (file : Placed) → disk.told ≡ Some trace → Serves old trace file → Serves new trace file

-- ---- writing

-- how many sectors some bytes are
abbrev pub sectors_in : Layer → List ℕ → ℕ
sectors_in l bytes = length bytes / l.tables.parts.sector

-- the layer with these bytes in so many sectors from `first` on
abbrev pub with_bytes : ℕ → ℕ → ℕ → List ℕ → chain.Layer → chain.Layer
with_bytes z first count bytes layer s = if is_among first count s then Some (bytes_at bytes (z * (s - first)) z) else layer s

-- and with zeros there
abbrev pub with_zeros : ℕ → ℕ → ℕ → chain.Layer → chain.Layer
with_zeros z first count layer s = if is_among first count s then Some (zeros z) else layer s

-- a sector is loose after a call if it was, or if the call named it
abbrev pub loose_or_named : ℕ → ℕ → Placed → ℕ → Bool
loose_or_named first count file s = file.is_loose s || is_among first count s

-- the file with another layer, and these sectors loose
abbrev pub placed_with : chain.Layer → (ℕ → Bool) → Placed → Placed
placed_with layer is_loose file = record file { member = record (file.member) { layer = layer }; is_loose = is_loose }

-- the file with no loose sector
abbrev pub settled : Placed → Placed
settled file = loosened (λ s. false) file

-- At each moment from old to new, whatever is answered, each image of the file shows it as before, but with all that the call
-- names loose too. No other file is changed.
pub record PutsInto (l : Layer) (first count : ℕ) (old new : Trace) : Type 0 where
  pub over : (file : Placed) → Serves l old file → IsPhase file.number (ShowsFile (loosened (loose_or_named first count file) file)) old new

-- So it is with no more loose than before.
pub record KeepsOver (l : Layer) (old new : Trace) : Type 0 where
  pub over : (file : Placed) → Serves l old file → IsPhase file.number (ShowsFile file) old new

-- After Ok the layer serves the file with those sectors.
pub record HasPut (old_l new_l : Layer) (first count : ℕ) (layer : chain.Layer → chain.Layer) (old new : Trace) : Type 0 where
  pub serves : (file : Placed) → Serves old_l old file → Serves new_l new (placed_with (layer file.member.layer) (loose_or_named first count file) file)

-- A refused call has changed nothing of the file, though it may have committed: it is served as before.
pub record HasKept (old_l new_l : Layer) (old new : Trace) : Type 0 where
  pub serves : (file : Placed) → Serves old_l old file → Serves new_l new file

-- After a failed change the layer is read on: outside the sectors that the call names it holds what it held.
pub record HoldsRest (old_l new_l : Layer) (first count : ℕ) (old new : Trace) : Type 0 where
  pub holds : (file : Placed) → Serves old_l old file
      → (parts : Parts) × ((layer : chain.Layer) × IsHeld new_l parts layer (own_bytes new_l new) × ((s : ℕ) → is_among first count s ≡ false → layer s ≡ file.member.layer s))

-- After a commit the layer serves the file with nothing loose.
pub record HasCommitted (old_l new_l : Layer) (old new : Trace) : Type 0 where
  pub serves : (file : Placed) → Serves old_l old file → Serves new_l new (settled file)

-- A session has ended: the file is synced and names no log, and nothing of it is loose.
pub record HasEnded (l : Layer) (old new : Trace) : Type 0 where
  pub synced : (file : Placed) → Serves l old file → is_synced (file_of new file.number) ≡ true
  pub no_log : (file : Placed) → Serves l old file → NamesNoLog (seen (file_of new file.number))
  pub kept : (file : Placed) → Serves l old file → IsKept new (settled file)

-- ---- causes

-- A read failed, and nothing but content that a commit moved has changed; or a change failed; or there was no room.
abbrev pub Fails : ℕ → Disk → Disk → LayerFault → Type 0
Fails file old new (Read fault) = ReadFailed file (record old { told = new.told }) new fault
Fails file old new (Write fault) = FailsToChange file old new fault
Fails file old new (FileFull next) = new ≡ record old { told = new.told }

-- P of an answer that refuses without a failed change
abbrev pub OnRefused : {T : Type 0} → Result T LayerFault → Type 0 → Type 0
OnRefused (Ok x) P = Unit {0}
OnRefused (Err (Read fault)) P = P
OnRefused (Err (Write fault)) P = Unit {0}
OnRefused (Err (FileFull next)) P = P

-- P of an answer that tells a failed change
abbrev pub OnBroken : {T : Type 0} → Result T LayerFault → Type 0 → Type 0
OnBroken (Ok x) P = Unit {0}
OnBroken (Err (Read fault)) P = Unit {0}
OnBroken (Err (Write fault)) P = P
OnBroken (Err (FileFull next)) P = Unit {0}

-- P of an answer that there was room for what was asked: it was done, or a change failed
abbrev pub OnRoom : {T : Type 0} → Result T LayerFault → Type 0 → Type 0
OnRoom (Ok x) P = P
OnRoom (Err (Read fault)) P = Unit {0}
OnRoom (Err (Write fault)) P = P
OnRoom (Err (FileFull next)) P = Unit {0}

-- ---- in the words of chains

-- As held the layer's file is this member: with its log applied, and the changed pages over that, it has the member's ties and layer.
pub record HoldsMember (l : Layer) (trace : Trace) (member : Member) : Type 0 where
  pub held : List ℕ
  pub parts : Parts
  pub reads : HasParts (record { bytes = own_bytes l trace; pages = l.tables.pending }) held parts
  pub ties : member.ties ≡ ties_of parts
  pub layer : (s : ℕ) → member.layer s ≡ layer_in held parts s

-- ---- other files

-- From old to new this file is as it was, and the files have their names.
pub record IsBeside (file : ℕ) (old new : Trace) : Type 0 where
  pub same : file_of new file ≡ file_of old file
  pub names : map (λ f. f.name) new.attached ≡ map (λ f. f.name) old.attached
