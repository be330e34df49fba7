use Rattle.std.proofs.Common.{◌≡◌, ◌-◌, ◌++◌, ◌∙◌, length, ap, sym, arith, rules, replicate}
use Rattle.std.proofs.lemmas.List.{take_all, append-nil}
use Rattle.store_model.specs.Bytes.{extended}
use Rattle.mem_file.proofs.file.extend.Goals as goal

pub returns-then-len-clause-ok : goal.returns-then-len-clause-ok
unfolding extended
returns-then-len-clause-ok c = search (rules, take_all)

pub returns-clause-ok : goal.returns-clause-ok
unfolding extended
returns-clause-ok c =
    let none : c.args.len - length c.args.old.now.items ≡ 0 = omega (arith, c.if-len.false) in
    sym (ap (λ n. c.args.old.now.items ++ replicate n 0) none ∙ append-nil c.args.old.now.items)
