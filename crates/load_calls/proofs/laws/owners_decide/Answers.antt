use Rattle.load_calls.proofs.OwnSectors.{end_alike, owner_is_told, owners_sectors}
use Rattle.load_calls.proofs.laws.owners_decide.Goals as goal

pub returns : goal.returns
returns c = record { sectors = owners_sectors; replies = owner_is_told; orders = end_alike }
