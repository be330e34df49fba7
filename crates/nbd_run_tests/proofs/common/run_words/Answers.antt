use Rattle.std.proofs.Common.{refl}
use Rattle.nbd_run_tests.proofs.common.run_words.Goals as goal

pub returns : goal.returns
returns g c ended room folder told = c.run.ensures.ends.idle ended (λ none. absurd (room none)) _ refl folder told
