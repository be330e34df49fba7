use Rattle.std.proofs.Common.{ℕ, List, ap, ◌∙◌}
use Rattle.store_model.specs.File.{seen}
use Rattle.store_model.specs.Trace.{file_of}
use Rattle.shown_ids.specs.Shown as spec
use Rattle.shown_ids.proofs.Places.{by_head}
use Rattle.shown_ids.proofs.place_id.Goals as goal

pub returns-clause-id : goal.returns-clause-id
returns-clause-id g c t told =
    c.id_in.ensures ∙ ap (λ (head : List ℕ). spec.place_id head 0) (c.in_ok-read_at.ensures.ok t told) ∙ by_head (seen (file_of t c.args.file)) c.args.at
