use Rattle.layer_session.proofs.reading.+own_all.Given as goal

abbrev pub decreases-own_all : goal.decreases-own_all
decreases-own_all g l = l.count
