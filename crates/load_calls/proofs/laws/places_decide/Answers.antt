use Rattle.load_calls.proofs.Placed.{places_decide, places_tell}
use Rattle.load_calls.proofs.laws.places_decide.Goals as goal

pub returns : goal.returns
returns c = record { history = places_decide; told = places_tell }
