use Rattle.std.proofs.Common.{◌≤◌, ◌+◌, ℕ, List, length, ap, ◌∙◌, arith}
use Rattle.vhdx_format.specs.declared.log_entry.Page.{Page}
use Rattle.vx_base.specs.Fields.{bytes_at}
use Rattle.meta_edit.specs.Pages.{laid_file}
use Rattle.meta_edit.specs.Steps.{part_with_all}
use Rattle.meta_edit.proofs.PageLaws.{part_with_all-is}
use Rattle.meta_edit.proofs.Puts.{lies_within}
use Rattle.meta_edit.proofs.laying.read_page.Goals as goal

pub returns-clause-bytes : goal.returns-clause-bytes
returns-clause-bytes g c = λ t is.
    let file : List ℕ = laid_file t c.args.laid.now.file c.args.laid.now.over.now in
    let fits : c.args.laid.now.parts.now.meta_at + c.args.laid.now.parts.now.meta_len ≤ length file = lies_within c.args.laid.now (g.S.Store.disk c.args.store.now) t c.requires.laid is in
    c.lay.ensures
    ∙ ap (λ (z : List Page). part_with_all c.args.at c.read_laid.new.out z) c.as_slice.ensures.pages
    ∙ ap (λ (z : List ℕ). part_with_all c.args.at z c.args.updates.now)
    (c.in_ok-read_laid.ensures.bytes t is ∙ ap (bytes_at file c.args.at) c.requires.out)
    ∙ part_with_all-is c.args.laid.now.parts.now.meta_at c.args.laid.now.parts.now.meta_len c.args.updates.now file c.args.at 4096
    c.requires.updates fits c.requires.at (omega arith) (omega (arith, fits, c.requires.last))
