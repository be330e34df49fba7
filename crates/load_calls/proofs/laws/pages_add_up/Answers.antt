use Rattle.load_calls.proofs.Pages.{pages_add_up, pages_are_sectors}
use Rattle.load_calls.proofs.laws.pages_add_up.Goals as goal

pub returns : goal.returns
returns c = record { sectors = pages_are_sectors; pages = pages_add_up }
