use Rattle.torn_match.proofs.Meant.{failed_leaves_no_more, reads_are_untorn}
use Rattle.torn_match.proofs.failed_writes_leave_no_more.Goals as goal

pub returns : goal.returns
returns c = record { reads = reads_are_untorn; failed = failed_leaves_no_more }
