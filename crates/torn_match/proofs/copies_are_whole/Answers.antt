use Rattle.torn_match.proofs.Copies.{copies_are_whole}
use Rattle.torn_match.proofs.copies_are_whole.Goals as goal

pub returns : goal.returns
returns c = copies_are_whole
