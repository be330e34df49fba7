use Rattle.file_store.proofs.Identifiers.{never_zero}
use Rattle.file_store.proofs.stream.RandomIds.next_id.Goals as goal

pub returns : goal.returns
returns g c e = absurd (never_zero c.as_version_4.result c.as_version_4.ensures e)
