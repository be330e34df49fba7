use Rattle.std.proofs.Common.{ap, map, ◌∙◌}
use Rattle.read_plan.proofs.Among.{has_among}
use Rattle.read_plan.proofs.readers.ReaderSet.has.Goals as goal

pub returns : goal.returns
returns g c =
    c.is_some.ensures
    ∙ has_among (λ f. g.R.Reader.sealed f.reader) c.deref.result.now c.args.self.now (ap (map (λ f. g.R.Reader.sealed f.reader)) c.deref.ensures.value ∙ c.self.view_is) c.args.number c.find.result c.find.ensures.inside c.find.ensures.number c.find.ensures.none
