use Rattle.std.proofs.Common.{◌∙◌, ap, sym, length}
use Rattle.std.proofs.lemmas.List.{take_at}
use Rattle.vx_base.proofs.ByteLists.{length-overwritten}
use Rattle.store_model.specs.Bytes.{written_over}
use Rattle.mem_file.proofs.file.write_within.Goals as goal

pub returns : goal.returns
returns c =
    let whole = c.deref_mut.ensures.value in
    take_at c.overwrite.new.old _ _ (ap length (c.overwrite.ensures ∙ ap (λ old. written_over old c.args.at c.args.bytes.now) whole) ∙ length-overwritten c.args.old.now.items c.args.bytes.now c.args.at c.requires ∙ ap length (sym whole) ∙ c.deref_mut.ensures.len)
    ∙ c.overwrite.ensures
    ∙ ap (λ old. written_over old c.args.at c.args.bytes.now) whole
