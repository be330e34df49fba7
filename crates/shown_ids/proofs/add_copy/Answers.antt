use Rattle.std.proofs.Common.{ℕ, ◌*◌, List, ◌++◌, ap, ◌∙◌}
use Rattle.std.specs.Prelude.{Option, Some, None, if◌then◌else◌}
use Rattle.store_model.specs.File.{seen}
use Rattle.store_model.specs.Trace.{file_of}
use Rattle.vx_base.specs.Fields.{bytes_at}
use Rattle.vx_base.specs.declared.parts.Header.{Header}
use Rattle.vhdx_format.specs.Headers.{header_of, held_header, is_valid_header}
use Rattle.shown_ids.specs.Shown.{header_ids}
use Rattle.shown_ids.proofs.add_copy.Goals as goal

pub returns-clause-ids : goal.returns-clause-ids
unfolding held_header
returns-clause-ids g c t told =
    c.in_ok-add_header.ensures
    ∙ ap (λ (h : Option Header). c.args.ids.now.items ++ header_ids h)
    (c.header_in.ensures
    ∙ ap (λ (bytes : List ℕ). if is_valid_header bytes then Some (header_of c.args.copy bytes) else None)
    (c.in_ok-read_at.ensures.ok t told ∙ ap (λ (n : ℕ). bytes_at (seen (file_of t c.args.file)) (65536 * n) 4096) c.from.ensures))
