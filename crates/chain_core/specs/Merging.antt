-- What the events of a merge do to a session, and what they say.
use Rattle.std.specs.Prelude.{⊤, ℕ, Bool, is_some, [], Result, Ok, Err}
use Rattle.store_model.specs.Trace.{Trace}
use Rattle.guest_model.specs.History.{History, either}
use Rattle.chain_model.specs.Layers.{over}
use Rattle.chain_model.specs.Merges.{IsTrue, Piece, with_mark}
use Rattle.chain_model.specs.Images.{Placed}
use Rattle.layer_session.specs.declared.file.LayerFault.{LayerFault}
use Rattle.layer_session.specs.declared.file.LayerFault.TheVariants as layer
use Rattle.chain_core.specs.Answering.{EachOpensNow, HasEnded, IsRefused}
use Rattle.chain_core.specs.States.{IsServing, Rest, State, merging, plain, retiring, sector_of}
use Rattle.chain_core.specs.declared.layers.Layers.{Layers}

-- ---- pieces

-- the sectors that a piece has
abbrev pub is_in : Piece → ℕ → Bool
is_in piece s = is_some (piece.sectors s)

-- a piece is one of the source of the merge under way; where the leaf is the source, of the leaf as the calls up to the piece's stamp left it
abbrev pub IsTrueOf : ℕ → History → Rest → Piece → Type 0
IsTrueOf z h (plain others) piece = ⊤
IsTrueOf z h (merging above source target below m) piece = IsTrue z m.first [] piece
IsTrueOf z h (retiring target below first before) piece = IsTrue z first h piece

abbrev pub IsTruePiece : State → Piece → Type 0
IsTruePiece v piece = IsTrueOf (sector_of v) v.history v.rest piece

-- a target with the sectors of a piece; they are loose then
abbrev pub with_piece : Piece → Placed → Placed
with_piece piece target = record target {
  member = record target.member { layer = over piece.sectors target.member.layer };
  is_loose = either target.is_loose (is_in piece);
}

-- the files below the leaf, a piece put into the target of the merge under way, and its stripe copied
abbrev pub put_on : Piece → Rest → Rest
put_on piece (plain others) = plain others
put_on piece (merging above source target below m) = merging above source (with_piece piece target) below (record m { marks = with_mark piece.stripe m.marks })
put_on piece (retiring target below first before) = retiring (with_piece piece target) below first before

-- the state behind a put: the history is as it was
abbrev pub with_put : Piece → State → State
with_put piece v = record v { rest = put_on piece v.rest }

-- ---- a put

-- The piece was put: at each moment each image opens to the history's disk, and the session serves it.
pub record IsCopied (piece : Piece) (v : State) (layers : Layers) (trace now : Trace) : Type 0 where
  pub moments : EachOpensNow v trace now
  pub serving : IsServing layers (with_put piece v) now

-- Refused, it changed nothing; or a change of the target failed, and broke the session.
abbrev pub PutAnswers : Piece → State → Layers → Trace → Trace → Result (Unit {0}) LayerFault → Type 0
PutAnswers piece v layers trace now (Ok done) = IsCopied piece v layers trace now
PutAnswers piece v layers trace now (Err (layer.Read fault)) = IsRefused v layers trace now
PutAnswers piece v layers trace now (Err (layer.FileFull next)) = IsRefused v layers trace now
PutAnswers piece v layers trace now (Err (layer.Write fault)) = HasEnded v trace now
