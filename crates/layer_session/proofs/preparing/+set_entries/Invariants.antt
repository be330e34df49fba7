use Rattle.layer_session.proofs.preparing.+set_entries.Given as goal

abbrev pub decreases-set_entries : goal.decreases-set_entries
decreases-set_entries l = l.count
