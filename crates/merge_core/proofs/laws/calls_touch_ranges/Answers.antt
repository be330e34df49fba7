use Rattle.merge_core.proofs.Touching.{calls_touch_ranges}
use Rattle.merge_core.proofs.laws.calls_touch_ranges.Goals as goal

pub returns : goal.returns
returns c = calls_touch_ranges
