use Rattle.layer_session.proofs.reading.+own_marked.Given as goal

abbrev pub decreases-own_marked : goal.decreases-own_marked
decreases-own_marked g l = l.count
