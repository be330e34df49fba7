use Rattle.layer_session.proofs.file.Layer.+zero_run.Given as goal

abbrev pub decreases-zero_run : goal.decreases-zero_run
decreases-zero_run g l = l.count
