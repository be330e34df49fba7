use Rattle.layer_session.proofs.file.Layer.+zero_blocks.Given as goal

abbrev pub decreases-zero_blocks : goal.decreases-zero_blocks
decreases-zero_blocks g l = l.count
