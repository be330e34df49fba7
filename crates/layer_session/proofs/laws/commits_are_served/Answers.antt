use Rattle.layer_session.proofs.Committing.{commit_shows}
use Rattle.layer_session.proofs.laws.commits_are_served.Goals as goal

pub returns : goal.returns
returns c = commit_shows
