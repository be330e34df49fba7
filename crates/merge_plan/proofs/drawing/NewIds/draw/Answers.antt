use Rattle.make_file.proofs.Drawn.{three}
use Rattle.merge_plan.proofs.drawing.NewIds.draw.Goals as goal

pub returns : goal.returns
returns g c =
    three _ _ _ _ _ _ _ c.draw-file_write.ensures.id c.draw-data_write.ensures.id c.draw-log.ensures.id c.draw-file_write.ensures.told c.draw-data_write.ensures.told
    c.draw-log.ensures.told
