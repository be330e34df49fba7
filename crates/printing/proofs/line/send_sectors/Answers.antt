use Rattle.std.proofs.Common.{◌+◌, ◌-◌, ◌≤◌, ◌++◌, length, refl, subst, ◌∙◌, arith}
use Rattle.std.specs.Prelude.{OnErr, min, take, Result, Ok, Err}
use Rattle.std.specs.Io.KnownBytes.{Appends}
use Rattle.printing.specs.Answers.{sector_lines}
use Rattle.printing.proofs.Lines.{more_lines, all_lines, part_of}
use Rattle.printing.proofs.Sending.{appends_both}
use Rattle.printing.proofs.line.send_sectors.Goals as goal

on_err : {A E P : Type 0} (r : Result A E) → P → OnErr r P
on_err (Ok x) p = tt
on_err (Err e) p = p

pub loop-left-preserved : goal.loop-left-preserved
loop-left-preserved g c =
    let inv = c.loop-left.invariant in
    let few : c.min-lines.result ≤ c.loop-left.left = grind (arith, c.min-lines.ensures) in (
      c.write_lines-len.ensures.same,
      omega (arith, inv.1, few),
      omega (arith, c.split_at.ensures.back_len, inv.2, few),
      c.in_ok-send.ensures.quiet ∙ inv.3,
      (
        inv.4.0 ++ take c.write_lines-len.result c.write_lines-len.new.page,
        appends_both _ _ _ inv.4.0 _ inv.4.1 c.in_ok-send.ensures.ok,
        more_lines inv.4.0 c.loop-left.rest.now _ c.split_at.result.1.now _ c.loop-left.number _ c.min-lines.result c.loop-left.left _ c.write_lines-len.ensures.lines c.split_at.ensures.back refl (omega (arith, few)) inv.4.2,
      ),
    )

pub returns-in_err-send-clause-cut : goal.returns-in_err-send-clause-cut
returns-in_err-send-clause-cut g c =
    let inv = c.loop-left.invariant in
    let few : c.min-lines.result ≤ c.loop-left.left = grind (arith, c.min-lines.ensures) in
    let lines = take c.write_lines-len.result c.write_lines-len.new.page in
    let whole = more_lines inv.4.0 c.loop-left.rest.now lines c.split_at.result.1.now _ c.loop-left.number (c.loop-left.number + c.min-lines.result) c.min-lines.result c.loop-left.left (c.loop-left.left - c.min-lines.result) c.write_lines-len.ensures.lines c.split_at.ensures.back refl (omega (arith, few)) inv.4.2 in
    let cut = c.in_err-send.ensures.cut in
    on_err c.from_residual.result (
      length inv.4.0 + min cut.0 (length lines),
      subst (Appends (g.K.Sink.written c.args.out.now) (g.K.Sink.written c.send.new.out)) (part_of inv.4.0 lines _ _ cut.0 whole) (appends_both _ _ _ inv.4.0 _ inv.4.1 cut.1),
    )

pub returns-clause-ok : goal.returns-clause-ok
returns-clause-ok g c =
    let inv = c.loop-left.invariant in
    subst (Appends (g.K.Sink.written c.args.out.now) (g.K.Sink.written c.loop-left.out))
    (all_lines inv.4.0 c.loop-left.rest.now (sector_lines 512 c.args.first c.args.sectors.now c.args.count) c.loop-left.number c.loop-left.left (omega (arith, c.loop-left-test.false)) inv.4.2)
    inv.4.1
