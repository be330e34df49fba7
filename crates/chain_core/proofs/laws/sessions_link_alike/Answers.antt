use Rattle.chain_core.proofs.Links.{sessions_link_alike}
use Rattle.chain_core.proofs.laws.sessions_link_alike.Goals as goal

pub returns : goal.returns
returns c = sessions_link_alike
