use Rattle.std.proofs.Common.{◌∙◌}
use Rattle.vx_base.proofs.Handed.{not_if_ok}
use Rattle.chain_core.proofs.leaf_start.LeafRoom.new.Goals as goal

pub returns-in_err-marks : goal.returns-in_err-marks
returns-in_err-marks c =
    let r = c.from_residual.result in
    let same = c.from_residual.ensures.1 in
    record { marks = not_if_ok r _ same _; stripes = not_if_ok r _ same _; stamps = not_if_ok r _ same _; words = not_if_ok r _ same _; below = not_if_ok r _ same _ }

pub returns-in_err-stamps : goal.returns-in_err-stamps
returns-in_err-stamps c =
    let r = c.from_residual-in_err-stamps.result in
    let same = c.from_residual-in_err-stamps.ensures.1 in
    record { marks = not_if_ok r _ same _; stripes = not_if_ok r _ same _; stamps = not_if_ok r _ same _; words = not_if_ok r _ same _; below = not_if_ok r _ same _ }

pub returns-in_err-below : goal.returns-in_err-below
returns-in_err-below c =
    let r = c.from_residual-in_err-below.result in
    let same = c.from_residual-in_err-below.ensures.1 in
    record { marks = not_if_ok r _ same _; stripes = not_if_ok r _ same _; stamps = not_if_ok r _ same _; words = not_if_ok r _ same _; below = not_if_ok r _ same _ }

pub returns : goal.returns
returns c =
    let count = c.stripe_count-stripes.ensures.is in
    record { marks = c.in_ok-marks.ensures.none; stripes = c.in_ok-marks.ensures.stripes ∙ count; stamps = c.in_ok-stamps.ensures.none; words = c.in_ok-stamps.ensures.stripes ∙ count; below = c.in_ok-below.ensures }
