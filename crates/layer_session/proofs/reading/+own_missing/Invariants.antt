use Rattle.layer_session.proofs.reading.+own_missing.Given as goal

abbrev pub decreases-own_missing : goal.decreases-own_missing
decreases-own_missing g l = l.count
