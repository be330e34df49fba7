use Rattle.layer_session.proofs.Allocating.{grown_shows, taken_shows}
use Rattle.layer_session.proofs.Grown.{grown_serves, taken_serves}
use Rattle.layer_session.proofs.laws.places_are_taken.Goals as goal

pub returns-clause-images : goal.returns-clause-images
returns-clause-images c = record { grown = grown_shows; written = λ l trace file serves place bytes free committed now. taken_shows l trace file serves place bytes free committed now }

pub returns-clause-behind : goal.returns-clause-behind
returns-clause-behind c = record {
  grown = λ l trace file serves len longer most space freed next. grown_serves l trace file serves len longer most space freed next;
  written = λ l trace file serves place bytes some free unused unheld. taken_serves l trace file serves place bytes some free unused unheld;
}
