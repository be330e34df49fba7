use Rattle.std.proofs.Common.{◌+◌, ap, drop, sym, ◌∙◌}
use Rattle.std.proofs.Math.ListN.{drop_of_length-le}
use Rattle.std.proofs.lemmas.List.{drop_more}
use Rattle.clap.specs.Words.{app_of, with_rule}
use Rattle.command_line.specs.Parsing.{with_words}
use Rattle.command_line.proofs.parsing.of_form.Goals as goal

pub loop-word-init : goal.loop-word-init
loop-word-init c = ap (λ a. with_words a c.args.form.now.words.now) c.new-command.ensures.app

pub loop-word-preserved : goal.loop-word-preserved
loop-word-preserved c =
    let words = c.args.form.now.words.now in
    let i = c.loop-word.word-index in
    ap (λ a. with_words a (drop (i + 1) words)) (c.in_ok-command.ensures.shape c.arg_of.ensures.1 ∙ ap (with_rule (app_of c.loop-word.command)) c.arg_of.ensures.0)
    ∙ ap (with_words (app_of c.loop-word.command)) (sym (drop_more words i _ c.loop-word-test.true))
    ∙ c.loop-word.invariant

pub returns : goal.returns
returns c = ap (with_words (app_of c.loop-word.command)) (sym (drop_of_length-le c.args.form.now.words.now c.loop-word-test.false)) ∙ c.loop-word.invariant
