use Rattle.layer_session.proofs.file.Layer.+put_blocks.Given as goal

abbrev pub decreases-put_blocks : goal.decreases-put_blocks
decreases-put_blocks g l = l.count
