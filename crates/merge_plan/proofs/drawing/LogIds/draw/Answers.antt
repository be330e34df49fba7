use Rattle.make_file.proofs.Drawn.{two}
use Rattle.merge_plan.proofs.drawing.LogIds.draw.Goals as goal

pub returns : goal.returns
returns g c = two _ _ _ _ _ c.draw-file_write.ensures.id c.draw-log.ensures.id c.draw-file_write.ensures.told c.draw-log.ensures.told
