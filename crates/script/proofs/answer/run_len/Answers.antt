use Rattle.std.proofs.Common.{rules, ◌==◌, ap, length, take_while, arith}
use Rattle.std.proofs.lemmas.List.{take_rest}
use Rattle.script.proofs.Runs.{piece_more}
use Rattle.script.proofs.answer.run_len.Goals as goal

pub loop-alike-preserved : goal.loop-alike-preserved
loop-alike-preserved c = record {
  within = search rules;
  sum = piece_more c.args.byte 64 c.loop-alike.count c.args.bytes.now c.loop-alike.invariant.sum (search (rules, take_rest));
}

pub returns : goal.returns
returns c =
    let rest = take_rest c.args.bytes.now c.loop-alike.count in
    omega (arith, c.short_run_len.ensures, c.loop-alike.invariant.sum, ap (λ l. length (take_while (λ b. b == c.args.byte) l)) rest)
