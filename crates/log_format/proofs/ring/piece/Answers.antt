use Rattle.std.proofs.Common.{take, drop, sym, ◌∙◌, ap, arith}
use Rattle.log_format.proofs.Rings.{piece_here}
use Rattle.log_format.proofs.ring.piece.Goals as goal

pub slice_bounds-result-end : goal.slice_bounds-result-end
slice_bounds-result-end c =
    (piece_here c.args.ring.now c.args.place c.place_in_ring-start.result c.args.n c.requires.ring c.requires.place c.requires.sector c.place_in_ring-start.ensures.place).0

pub returns-clause-bytes : goal.returns-clause-bytes
returns-clause-bytes c =
    ap (λ m. take m (drop c.place_in_ring-start.result c.args.ring.now)) (omega arith)
    ∙ sym (piece_here c.args.ring.now c.args.place c.place_in_ring-start.result c.args.n c.requires.ring c.requires.place c.requires.sector c.place_in_ring-start.ensures.place).1
