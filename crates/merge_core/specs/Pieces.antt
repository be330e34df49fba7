-- Pieces of stripes: taken from a file of a chain, and put into another.
use Rattle.std.specs.Prelude.{◌≡◌, ◌≢◌, ◌+◌, ◌-◌, ◌<◌, ◌≤◌, ℕ, Bool, List, None, is_some, if◌then◌else◌}
use Rattle.vx_base.specs.declared.parts.Parts.{Parts}
use Rattle.store_model.specs.Trace.{Trace}
use Rattle.table_pages.specs.declared.tables.TableParts.{TableParts}
use Rattle.guest_model.specs.History.{either}
use Rattle.chain_model.specs.Images.{Placed}
use Rattle.chain_model.specs.Layers as chain
use Rattle.chain_model.specs.Layers.{over}
use Rattle.chain_model.specs.Merges as merges
use Rattle.chain_model.specs.Moments.{IsPhase}
use Rattle.chain_model.specs.PhaseLaws.{loosened}
use Rattle.chain_model.specs.Sessions.{ShowsFile}
use Rattle.chain_model.specs.Stripes.{stripe_of}
use Rattle.layer_session.specs.Calls.{is_among, own_bytes, placed_with}
use Rattle.layer_session.specs.Keeping.{IsHeld, Serves}
use Rattle.layer_session.specs.Laws.{told_sector}
use Rattle.layer_session.specs.declared.file.Layer.{Layer}
use Rattle.merge_core.specs.declared.piece.Piece.{Piece}

-- the sectors of a piece, with their bytes
abbrev pub sectors_of : Piece → chain.Layer
sectors_of piece s = if is_among piece.first piece.count s then told_sector piece.sector 0 piece.mask.items piece.bytes.items (s - piece.first) else None

-- what a piece is to a merge
abbrev pub piece_of : Piece → merges.Piece
piece_of piece = record { stripe = piece.stripe; stamp = piece.stamp; sectors = sectors_of piece }

-- Mask and bytes tell what a layer has of so many sectors from `first` on.
pub record Tells (z first count : ℕ) (layer : chain.Layer) (mask bytes : List ℕ) : Type 0 where
  pub tells : (i : ℕ) → i < count → layer (first + i) ≡ told_sector z 0 mask bytes i

-- What is taken of a layer: in the stripe the layer's sectors, and no other.
pub record IsTaken (z : ℕ) (layer : chain.Layer) (piece : merges.Piece) : Type 0 where
  pub within : (s : ℕ) → stripe_of z s ≢ piece.stripe → piece.sectors s ≡ None
  pub taken : (s : ℕ) → stripe_of z s ≡ piece.stripe → piece.sectors s ≡ layer s

-- the piece has this sector
abbrev pub has_sector : Piece → ℕ → Bool
has_sector piece s = is_some (sectors_of piece s)

-- the piece is one of a disk with these sizes
pub record FitsIn (piece : Piece) (parts : TableParts) : Type 0 where
  pub sector : piece.sector ≡ parts.sector
  pub on_disk : piece.first + piece.count ≤ parts.sectors

-- ---- putting it

-- At each moment from old to new, whatever is answered, each image of the file shows it as before, but with the piece's sectors
-- loose too. No other file is changed.
pub record PutsPiece (l : Layer) (piece : Piece) (old new : Trace) : Type 0 where
  pub over : (file : Placed) → Serves l old file → IsPhase file.number (ShowsFile (loosened (either file.is_loose (has_sector piece)) file)) old new

-- After Ok the layer serves the file with the piece's sectors.
pub record HasPutPiece (old_l new_l : Layer) (piece : Piece) (old new : Trace) : Type 0 where
  pub serves : (file : Placed) → Serves old_l old file → Serves new_l new (placed_with (over (sectors_of piece) file.member.layer) (either file.is_loose (has_sector piece)) file)

-- After a failed change the layer is read on: outside the piece's sectors it holds what it held.
pub record HoldsBesidePiece (old_l new_l : Layer) (piece : Piece) (old new : Trace) : Type 0 where
  pub holds : (file : Placed) → Serves old_l old file
      → (parts : Parts) × ((layer : chain.Layer) × IsHeld new_l parts layer (own_bytes new_l new) × ((s : ℕ) → sectors_of piece s ≡ None → layer s ≡ file.member.layer s))
