use Rattle.layer_session.proofs.reading.+own_part.Given as goal

abbrev pub decreases-own_part : goal.decreases-own_part
decreases-own_part g l = l.count
