use Rattle.std.proofs.Common.{refl}
use Rattle.vx_base.proofs.Handed.{handed}
use Rattle.copy_workers.specs.Settling.{Settles}
use Rattle.copy_workers.proofs.Settled.{fetched_still, settles_not_put, settles_passed, settles_put, settles_refused}
use Rattle.copy_workers.proofs.passing.put_or_pass.Goals as goal

pub returns-in_err-count : goal.returns-in_err-count
returns-in_err-count g c =
    let disk = g.S.Store.disk in
    let new = c.skip_stripes.new.self in
    handed (Settles disk c.args.piece.now c.args.chain.now new) c.from_residual.result _ c.from_residual.ensures
    (settles_refused disk c.args.piece.now c.args.chain.now c.stripe-stripe.result c.stripe-stripe.ensures new _ _ refl c.in_err-count.ensures.stepped c.in_err-count.ensures.stopped)

pub returns-then-count-gt0 : goal.returns-then-count-gt0
returns-then-count-gt0 g c =
    settles_passed g.S.Store.disk c.args.piece.now c.args.chain.now c.stripe-stripe.result c.stripe-stripe.ensures c.skip_stripes.new.self _ c.in_ok-count.count refl c.if-count-gt0.true c.in_ok-count.ensures.stepped

pub put_stripe-requires : goal.put_stripe-requires
put_stripe-requires g c =
    fetched_still g.S.Store.disk c.args.piece.now c.args.chain.now c.stripe-stripe.result c.stripe-stripe.ensures c.skip_stripes.new.self _ c.in_ok-count.count refl c.if-count-gt0.false c.in_ok-count.ensures.stepped c.requires

pub returns-in_err-put_stripe : goal.returns-in_err-put_stripe
returns-in_err-put_stripe g c =
    let disk = g.S.Store.disk in
    let mid = c.skip_stripes.new.self in
    let new = c.put_stripe.new.self in
    handed (Settles disk c.args.piece.now c.args.chain.now new) c.from_residual-in_err-put_stripe.result _ c.from_residual-in_err-put_stripe.ensures
    (settles_not_put disk c.args.piece.now c.args.chain.now c.stripe-stripe.result c.stripe-stripe.ensures mid new _ c.in_ok-count.count refl c.if-count-gt0.false c.in_ok-count.ensures.stepped _ _ refl c.in_err-put_stripe.ensures.stepped c.in_err-put_stripe.ensures.stopped)

pub returns : goal.returns
returns g c =
    settles_put g.S.Store.disk c.args.piece.now c.args.chain.now c.stripe-stripe.result c.stripe-stripe.ensures c.skip_stripes.new.self c.put_stripe.new.self _ c.in_ok-count.count refl c.if-count-gt0.false c.in_ok-count.ensures.stepped _ refl c.in_ok-put_stripe.ensures.stepped
