use Rattle.layer_session.proofs.planning.+are_marked.Given as goal

abbrev pub decreases-are_marked : goal.decreases-are_marked
decreases-are_marked g l = l.count
