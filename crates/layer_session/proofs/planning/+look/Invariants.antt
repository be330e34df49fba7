use Rattle.layer_session.proofs.planning.+look.Given as goal

abbrev pub decreases-look : goal.decreases-look
decreases-look g l = l.count
