use Rattle.layer_session.proofs.absence.+count_absent.Given as goal

abbrev pub decreases-count_absent : goal.decreases-count_absent
decreases-count_absent g l = l.count
