use Rattle.unit_bits.proofs.WordLemmas.{run_is}
use Rattle.unit_bits.proofs.words.ones.Goals as goal

pub returns : goal.returns
returns c = run_is c.args.first c.args.count c.requires.some c.requires.fits
