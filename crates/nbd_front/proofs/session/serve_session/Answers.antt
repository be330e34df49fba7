use Rattle.std.proofs.Common.{ℕ, refl}
use Rattle.std.proofs.lemmas.Result.{err_from_is_err_and}
use Rattle.nbd_front.specs.Messages.{greeted, haggling}
use Rattle.nbd_front.proofs.Steps.{is_ended, leads_flags, leads_over, leads_further, counts_of_source, counts_any, spent_of_source}
use Rattle.nbd_front.proofs.session.serve_session.Goals as goal

pub returns-in_err-flags : goal.returns-in_err-flags
returns-in_err-flags g c =
    let p = err_from_is_err_and c.from_residual.result c.from_residual.ensures.1 in
    rw (p.1, p.2) (record {
      session = is_ended c.args.export.now greeted _ _ _ c.args.desk.now.intake.fits (c.in_err-flags.ensures.ended c.args.export.now) refl refl refl refl
          (counts_of_source _ _ _ (counts_any ℕ (Unit {0}) _ _ _ c.in_err-flags.ensures.count) refl) (spent_of_source ℕ _ _ _ _ c.in_err-flags.ensures.count);
    })

pub returns-in_err-haggle : goal.returns-in_err-haggle
returns-in_err-haggle g c =
    let p = err_from_is_err_and c.from_residual-in_err-haggle.result c.from_residual-in_err-haggle.ensures.1 in
    rw (p.1, p.2) (record {
      session = leads_flags c.args.export.now _ _ c.in_ok-flags.flags c.in_ok-flags.ensures.taken refl refl refl refl refl c.in_ok-flags.ensures.count refl _ _
          (c.in_err-haggle.ensures.ended c.args.disk.now);
    })

pub returns-then-not-branch : goal.returns-then-not-branch
returns-then-not-branch g c = record {
  session = leads_flags c.args.export.now _ _ c.in_ok-flags.flags c.in_ok-flags.ensures.taken refl refl refl refl refl c.in_ok-flags.ensures.count refl _ _
      (leads_over c.args.export.now (haggling c.in_ok-flags.flags) _ _ _ c.if-not-branch.true (c.in_ok-haggle.ensures.on c.args.disk.now));
}

pub returns : goal.returns
returns g c = record {
  session = leads_flags c.args.export.now _ _ c.in_ok-flags.flags c.in_ok-flags.ensures.taken refl refl refl refl refl c.in_ok-flags.ensures.count refl _ _
      (leads_further c.args.export.now (haggling c.in_ok-flags.flags) _ _ _ _ _ c.if-not-branch.false (c.in_ok-haggle.ensures.on c.args.disk.now) c.transmit.ensures.session);
}
