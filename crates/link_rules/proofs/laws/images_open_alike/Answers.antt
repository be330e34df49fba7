use Rattle.link_rules.proofs.Alike.{images_alike}
use Rattle.link_rules.proofs.laws.images_open_alike.Goals as goal

pub returns : goal.returns
returns c = images_alike
