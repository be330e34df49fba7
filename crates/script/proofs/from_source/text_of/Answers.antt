use Rattle.std.proofs.Common.{◌++◌, arith, refl, ◌∙◌}
use Rattle.std.proofs.lemmas.Grind.{common_steps}
use Rattle.std.proofs.KnownBytes.{Consumes-nil, Consumes-trans}
use Rattle.std.proofs.lemmas.Result.{err_from_is_err_and}
use Rattle.std.proofs.Common.{[]}
use Rattle.script.proofs.Appended.{none_read}
use Rattle.script.proofs.from_source.text_of.Goals as goal

pub returns-in_err-take_piece-clause-part : goal.returns-in_err-take_piece-clause-part
returns-in_err-take_piece-clause-part g c =
    let p = err_from_is_err_and c.from_residual-in_err-take_piece.result c.from_residual-in_err-take_piece.ensures.1 in
    let part = c.in_err-take_piece.ensures.part in
    rw p.1 (c.loop-source.text.items ++ part.0, Consumes-trans _ _ _ c.loop-source.text.items part.0 c.loop-source.invariant.taken part.1)

pub loop-source-init : goal.loop-source-init
loop-source-init g c = record {
  room = c.in_ok-piece.ensures;
  taken = rw c.new-text.ensures.items (Consumes-nil _);
  most = rw c.new-text.ensures.items (omega arith);
  quiet = refl;
}

pub loop-source-preserved : goal.loop-source-preserved
loop-source-preserved g c =
    let taken = c.in_ok-take_piece.ensures.taken in
    record {
      room = grind (arith, common_steps);
      taken = rw taken.1 (Consumes-trans _ _ _ c.loop-source.text.items taken.0 c.loop-source.invariant.taken taken.2);
      most = c.in_ok-take_piece.ensures.most;
      quiet = c.in_ok-take_piece.ensures.count ∙ c.loop-source.invariant.quiet;
    }

pub returns-in_err-piece-clause-part : goal.returns-in_err-piece-clause-part
returns-in_err-piece-clause-part g c =
    let p = err_from_is_err_and c.from_residual.result c.from_residual.ensures.1 in
    rw p.1 ([], Consumes-nil _)

pub returns-in_err-piece-clause-count : goal.returns-in_err-piece-clause-count
returns-in_err-piece-clause-count g c =
    let p = err_from_is_err_and c.from_residual.result c.from_residual.ensures.1 in
    rw (p.1, p.2) refl

pub returns-in_err-piece-clause-unread : goal.returns-in_err-piece-clause-unread
returns-in_err-piece-clause-unread g c =
    let p = err_from_is_err_and c.from_residual.result c.from_residual.ensures.1 in
    rw (p.1, p.2) tt

pub returns-in_err-take_piece-clause-unread : goal.returns-in_err-take_piece-clause-unread
returns-in_err-take_piece-clause-unread g c =
    let p = err_from_is_err_and c.from_residual-in_err-take_piece.result c.from_residual-in_err-take_piece.ensures.1 in
    rw (p.1, p.2) c.in_err-take_piece.ensures.unread

pub returns-in_err-take_piece-clause-taken : goal.returns-in_err-take_piece-clause-taken
returns-in_err-take_piece-clause-taken g c = none_read c.from_residual-in_err-take_piece.result c.from_residual-in_err-take_piece.ensures.0 _

pub returns-in_err-take_piece-clause-most : goal.returns-in_err-take_piece-clause-most
returns-in_err-take_piece-clause-most g c = none_read c.from_residual-in_err-take_piece.result c.from_residual-in_err-take_piece.ensures.0 _

pub returns-in_err-take_piece-clause-end : goal.returns-in_err-take_piece-clause-end
returns-in_err-take_piece-clause-end g c = none_read c.from_residual-in_err-take_piece.result c.from_residual-in_err-take_piece.ensures.0 _

pub returns-in_err-piece-clause-taken : goal.returns-in_err-piece-clause-taken
returns-in_err-piece-clause-taken g c = none_read c.from_residual.result c.from_residual.ensures.0 _

pub returns-in_err-piece-clause-most : goal.returns-in_err-piece-clause-most
returns-in_err-piece-clause-most g c = none_read c.from_residual.result c.from_residual.ensures.0 _

pub returns-in_err-piece-clause-end : goal.returns-in_err-piece-clause-end
returns-in_err-piece-clause-end g c = none_read c.from_residual.result c.from_residual.ensures.0 _
