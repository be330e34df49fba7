use Rattle.layer_session.proofs.file.Layer.+put_spots.Given as goal

abbrev pub decreases-put_spots : goal.decreases-put_spots
decreases-put_spots g l = l.count
