use Rattle.std.proofs.Common.{◌≡◌, ◌∙◌, IfOk, string_bytes, subst}
use Rattle.load_calls.proofs.Prepared.{text_is}
use Rattle.load_calls.proofs.one_thread.text_behind.Goals as goal

pub returns : goal.returns
returns c =
    let run = c.as_slice.ensures ∙ c.in_ok-lines.ensures in
    let counted = c.as_slice-2.ensures ∙ c.in_ok-lines.ensures in
    subst (λ t. IfOk c.lines_text.result (λ text. string_bytes text ≡ t))
    (text_is c.args.seed c.counts_of.result c.as_slice.result.now c.as_slice-2.result.now c.args.firsts.now c.run-seen.new.firsts c.weighed-disk.result c.run-seen.result run counted c.requires.prepared c.counts_of.ensures c.run-seen.ensures.left c.weighed-disk.ensures)
    c.lines_text.ensures
