use Rattle.layer_session.proofs.Untold.{changed_untold}
use Rattle.layer_session.proofs.plain.write_plainly.Goals as goal

pub loop-page-init : goal.loop-page-init
loop-page-init g c = changed_untold _ _ _ _ c.requires.untold c.in_ok-grow.ensures.ok
