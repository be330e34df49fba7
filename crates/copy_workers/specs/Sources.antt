-- What a worker reads the source of a merge by, outside the chain.
use Rattle.std.specs.Prelude.{◌≡◌, ◌<◌, ⊤, ℕ, true, is_some, Option, Some, None, List, length, nat_lt, slice_index_or, IfSome}
use Rattle.store_model.specs.Disk.{Disk, Sealed, WhereTold, reader_of}
use Rattle.guest_model.specs.History.{History}
use Rattle.ledger.specs.declared.ledger.Ledger.{Ledger}
use Rattle.chain_model.specs.Layers as chain
use Rattle.chain_model.specs.Stripes.{stripe_count}
use Rattle.layer_session.specs.FileLayers.{table_parts}
use Rattle.merge_core.specs.Pieces.{IsTaken, piece_of}
use Rattle.merge_core.specs.declared.piece.Piece.{Piece}
use Rattle.read_plan.specs.Reading.{has_failed}
use Rattle.sealed_layer.specs.Sealed.{CanReadSealed, HoldsSealed}
use Rattle.chain_core.specs.Copying.{FitsDisk}
use Rattle.chain_core.specs.Sealed.{IsSealedSource}
use Rattle.chain_core.specs.declared.chain.Chain.{Chain}
use Rattle.chain_core.specs.declared.sealing.SealedSource.{SealedSource}
use Rattle.shared_chain.specs.declared.basis.Basis.{Basis}
use Rattle.shared_chain.specs.declared.basis.Step.{Step}
use Rattle.shared_chain.specs.Fetched.{IsFetched}
use Rattle.shared_chain.specs.Steps.{done_steps}
use Rattle.turn_lock.specs.Histories.{StartsWith}
use Rattle.turn_lock.specs.Seats.{Known}
use Rattle.copy_workers.specs.Readings.{Reading}
use Rattle.copy_workers.specs.declared.source.Source.{Source}

-- ---- reading it

-- a reader of the source can be read by its layer, which is one of the source's disk
pub record CanReadStripe (reader : Sealed) (s : SealedSource) : Type 0 where
  pub can : CanReadSealed s.layer reader
  pub sector : (table_parts s.layer).sector ≡ s.geometry.sector
  pub sectors : (table_parts s.layer).sectors ≡ s.geometry.sectors

-- only what the layer keeps in memory is another: it can be read by all that tell the reader's content, and finds in it what it found
pub record IsSameSource (reader : Sealed) (old new : SealedSource) : Type 0 where
  pub only : new ≡ record old { layer = new.layer }
  pub sizes : table_parts new.layer ≡ table_parts old.layer
  pub can : (other : Sealed) → other.content ≡ reader.content → CanReadSealed new.layer other
  pub holds : (layer : chain.Layer) → WhereTold reader.content (λ bytes. HoldsSealed old.layer bytes layer → HoldsSealed new.layer bytes layer)

-- ---- by one of several readers

-- that of the source stands at its place
abbrev pub reader_at : List Sealed → Source → Sealed → Sealed
reader_at readers s d = slice_index_or readers s.at d

-- there is one of the source's file, if there is a source
pub record IsAt (readers : List Sealed) (source : SealedSource) (s : Source) : Type 0 where
  pub read : s.read ≡ source
  pub there : s.at < length readers
  pub file : (d : Sealed) → (reader_at readers s d).file ≡ source.file

abbrev pub IsPlaced : List Sealed → Option SealedSource → Option Source → Type 0
IsPlaced readers source None = ⊤
IsPlaced readers None (Some s) = ⊥
IsPlaced readers (Some source) (Some s) = IsAt readers source s

-- stripes can be fetched by it
pub record CanFetch (readers : List Sealed) (s : Source) : Type 0 where
  pub there : s.at < length readers
  pub can : (d : Sealed) → CanReadStripe (reader_at readers s d) s.read
  pub stripes : s.read.stripes ≡ stripe_count s.read.geometry.sector s.read.geometry.sectors

-- a piece of this stripe was taken of what the reader's file has
pub record TakesBy (readers : List Sealed) (s : Source) (stripe : ℕ) (piece : Piece) : Type 0 where
  pub stripe_is : piece.stripe ≡ stripe
  pub stamp : piece.stamp ≡ 0
  pub fits : FitsDisk s.read.geometry piece
  pub taken : (d : Sealed) (layer : chain.Layer) → WhereTold (reader_at readers s d).content (λ bytes. HoldsSealed s.read.layer bytes layer → IsTaken s.read.geometry.sector layer (piece_of piece))

abbrev pub TakesFrom : List Sealed → Option Source → ℕ → Piece → Type 0
TakesFrom readers None stripe piece = ⊥
TakesFrom readers (Some s) stripe piece = TakesBy readers s stripe piece

-- or none was
abbrev pub Fetches : ℕ → Reading → Piece → Type 0
Fetches stripe r piece = piece.filled ≡ true → TakesFrom r.readers r.source stripe piece

-- it is the same source by the same one of them, and tells the same
pub record IsSameAt (old new : List Sealed) (s t : Source) : Type 0 where
  pub at : t.at ≡ s.at
  pub there : s.at < length new
  pub tells : (d : Sealed) → (reader_at new s d).content ≡ (reader_at old s d).content
  pub same : (d : Sealed) → IsSameSource (reader_at old s d) s.read t.read

abbrev pub AreSameIn : List Sealed → List Sealed → Option Source → Option Source → Type 0
AreSameIn old new None None = ⊤
AreSameIn old new None (Some t) = ⊥
AreSameIn old new (Some s) None = ⊥
AreSameIn old new (Some s) (Some t) = IsSameAt old new s t

abbrev pub AreSameSources : Reading → Reading → Type 0
AreSameSources old new = AreSameIn old.readers new.readers old.source new.source

-- one of the readers counts a read that failed exactly where stripes weren't fetched
abbrev pub HaveFailed : Reading → ℕ → Type 0
HaveFailed r unfetched = has_failed r.readers ≡ nat_lt 0 unfetched

-- ---- in a session

module _ {S T : Type 0} (disk : S → Disk) where
  -- the reader tells what the source had when the session began of which a seat knows
  pub record ReadsSource (basis : Basis S T) (readers : List Sealed) (s : Source) : Type 0 where
    pub first : Chain S Ledger T
    pub began : basis.first ≡ Some first
    pub there : s.at < length readers
    pub tells : (d : Sealed) → (reader_at readers s d).content ≡ (reader_of s.read.file (disk first.store)).content
    pub source : IsSealedSource first.layers (disk first.store) s.read

  abbrev pub HasSource : Basis S T → Reading → Type 0
  HasSource basis r = IfSome r.source (ReadsSource basis r.readers)

  -- A piece was fetched in the session that began with this chain, behind calls that a seat has seen: behind all of them, where the leaf is merged.
  pub record IsHeld (seat : Known Step (Basis S T)) (first : Chain S Ledger T) (piece : Piece) : Type 0 where
    pub before : History
    pub begins : StartsWith seat.seen (done_steps before)
    pub recent : is_some first.layers.retiring ≡ true → length seat.seen ≡ length before
    pub fetched : IsFetched disk first before piece

  -- What was fetched of a stripe, if anything was, is such a piece of it in the session of which a seat knows.
  abbrev pub HasFetched : Known Step (Basis S T) → ℕ → Piece → Type 0
  HasFetched seat stripe piece = piece.filled ≡ true → (piece.stripe ≡ stripe) × IfSome seat.basis.first (λ first. IsHeld seat first piece)
