use Rattle.std.proofs.Common.{ℕ, List, length, ap, ◌∙◌, arith}
use Rattle.store_model.specs.File.{seen}
use Rattle.store_model.specs.Trace.{file_of}
use Rattle.meta_edit.specs.Steps.{part_with_all}
use Rattle.meta_edit.proofs.PageLaws.{part_with_all-is}
use Rattle.meta_edit.proofs.laying.read_laid.Goals as goal

pub returns-clause-bytes : goal.returns-clause-bytes
returns-clause-bytes g c = λ t is.
    let file : List ℕ = seen (file_of t c.args.laid.now.file) in
    let fits = c.requires.laid.inside t is in
    c.lay.ensures
    ∙ ap (λ (z : List ℕ). part_with_all c.args.at z c.args.laid.now.over.now) (c.in_ok-read_at.ensures.ok t is)
    ∙ part_with_all-is c.args.laid.now.parts.now.meta_at c.args.laid.now.parts.now.meta_len c.args.laid.now.over.now file c.args.at (length c.args.out.now)
    c.requires.laid.over fits c.requires.at c.requires.len (omega (arith, fits, c.requires.last))
