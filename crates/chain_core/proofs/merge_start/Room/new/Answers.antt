use Rattle.std.proofs.Common.{◌∙◌}
use Rattle.vx_base.proofs.Handed.{not_if_ok}
use Rattle.chain_core.proofs.merge_start.Room.new.Goals as goal

pub returns-in_err-marks : goal.returns-in_err-marks
returns-in_err-marks c =
    let r = c.from_residual.result in
    let same = c.from_residual.ensures.1 in
    record { marks = not_if_ok r _ same _; stripes = not_if_ok r _ same _; above = not_if_ok r _ same _; below = not_if_ok r _ same _ }

pub returns-in_err-above : goal.returns-in_err-above
returns-in_err-above c =
    let r = c.from_residual-in_err-above.result in
    let same = c.from_residual-in_err-above.ensures.1 in
    record { marks = not_if_ok r _ same _; stripes = not_if_ok r _ same _; above = not_if_ok r _ same _; below = not_if_ok r _ same _ }

pub returns-in_err-below : goal.returns-in_err-below
returns-in_err-below c =
    let r = c.from_residual-in_err-below.result in
    let same = c.from_residual-in_err-below.ensures.1 in
    record { marks = not_if_ok r _ same _; stripes = not_if_ok r _ same _; above = not_if_ok r _ same _; below = not_if_ok r _ same _ }

pub returns : goal.returns
returns c = record { marks = c.in_ok-marks.ensures.none; stripes = c.in_ok-marks.ensures.stripes ∙ c.stripe_count.ensures.is; above = c.in_ok-above.ensures; below = c.in_ok-below.ensures }
