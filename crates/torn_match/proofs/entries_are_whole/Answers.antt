use Rattle.torn_match.proofs.Entries.{written_entries_are_whole}
use Rattle.torn_match.proofs.entries_are_whole.Goals as goal

pub returns : goal.returns
returns c = written_entries_are_whole
