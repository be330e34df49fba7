use Rattle.std.proofs.Common.{◌+◌, ◌-◌, ◌++◌, length, take, drop, sym, ◌∙◌, ap, arith}
use Rattle.std.proofs.lemmas.List.{append-nil, take_rest}
use Rattle.vhdx_format.proofs.RingLaws.{ring_bytes-below, ring_bytes-turn}
use Rattle.log_format.proofs.ring.ends_of.Goals as goal

pub returns-then-end-ring-clause-bytes : goal.returns-then-end-ring-clause-bytes
returns-then-end-ring-clause-bytes c =
    ring_bytes-below c.args.ring.now c.args.at c.args.n c.requires.place (omega arith)
    ∙ ap (λ m. take m (drop c.args.at c.args.ring.now)) (omega arith) ∙ sym (append-nil (take (c.args.at + c.args.n - c.args.at) (drop c.args.at c.args.ring.now)))

pub returns-else-end-ring-clause-bytes : goal.returns-else-end-ring-clause-bytes
returns-else-end-ring-clause-bytes c =
    ring_bytes-turn c.args.ring.now c.args.at c.args.n c.requires.place (omega arith)
    ∙ ap (λ b. b ++ take (c.args.at + c.args.n - length c.args.ring.now) c.args.ring.now) (sym (take_rest c.args.ring.now c.args.at))
