use Rattle.std.proofs.Common.{◌/◌, ap, sym}
use Rattle.disk_calls.specs.Disks.{plain, through}
use Rattle.guest_model.specs.declared.call.Call.TheVariants as calls
use Rattle.nbd_front.specs.Calls.{write_call}
use Rattle.nbd_front.proofs.Written.{piece_answered}
use Rattle.nbd_front.proofs.writing.write_piece.Goals as goal

pub returns-then-is_forced-clause-taken : goal.returns-then-is_forced-clause-taken
returns-then-is_forced-clause-taken g c =
    piece_answered _ c.args.sector c.args.is_forced c.args.at c.args.piece.now c.args.error _ (through (c.args.at / c.args.sector) c.args.piece.now) c.write_through.result _ _
    c.if-error-ne0.false c.error_after.ensures (ap (λ b. write_call b (c.args.at / c.args.sector) c.args.piece.now) (sym c.if-is_forced.true))
    c.write_through.ensures.told

pub returns-clause-taken : goal.returns-clause-taken
returns-clause-taken g c =
    piece_answered _ c.args.sector c.args.is_forced c.args.at c.args.piece.now c.args.error _ (plain (calls.Write (c.args.at / c.args.sector) c.args.piece.now)) c.write.result _ _
    c.if-error-ne0.false c.error_after-2.ensures (ap (λ b. write_call b (c.args.at / c.args.sector) c.args.piece.now) (sym c.if-is_forced.false))
    c.write.ensures.told
