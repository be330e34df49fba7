use Rattle.layer_session.proofs.preparing.+name_bitmap.Given as goal

abbrev pub decreases-name_bitmap : goal.decreases-name_bitmap
decreases-name_bitmap l = l.count
