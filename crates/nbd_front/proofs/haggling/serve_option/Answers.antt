use Rattle.std.proofs.Common.{◌++◌, ℕ, Bool, [], refl, ◌∙◌, arith}
use Rattle.std.proofs.lemmas.Result.{err_from_is_err_and}
use Rattle.nbd_front.specs.Messages.{haggling, transmitting, over, named, aborted, other_option}
use Rattle.nbd_front.proofs.Steps.{is_ended, leads_on, cut_in_answer, counts_of_source, counts_any, spent_of_source, no_more, one_more, or_none, spells_named, spells_abort, spells_other, ends_otherwise}
use Rattle.nbd_front.proofs.haggling.serve_option.Goals as goal

pub returns-in_err-number-clause-ended : goal.returns-in_err-number-clause-ended
returns-in_err-number-clause-ended g c = λ disk.
    let p = err_from_is_err_and c.from_residual.result c.from_residual.ensures.1 in
    rw (p.1, p.2) (is_ended c.args.export.now (haggling c.args.flags) _ _ _ c.args.desk.now.intake.fits (c.in_err-number.ensures.ended c.args.export.now c.args.flags) refl refl refl refl
    (counts_of_source _ _ _ (counts_any (ℕ × Bool) (Unit {0}) _ _ _ c.in_err-number.ensures.count) refl) (spent_of_source (ℕ × Bool) _ _ _ _ c.in_err-number.ensures.count))

pub returns-then-not-is_named-clause-ended : goal.returns-then-not-is_named-clause-ended
returns-then-not-is_named-clause-ended g c = λ disk.
    is_ended c.args.export.now (haggling c.args.flags) _ _ _ c.args.desk.now.intake.fits
    (ends_otherwise c.args.export.now c.args.flags _ _ _ _ _ _ _ c.in_ok-number.ensures.taken c.if-number-eq1.true c.if-not-is_named.true c.as_bytes.ensures.bytes)
    refl refl refl refl (c.in_ok-number.ensures.count, refl) tt

pub returns-in_err-send_export-clause-ended : goal.returns-in_err-send_export-clause-ended
returns-in_err-send_export-clause-ended g c = λ disk.
    let p = err_from_is_err_and c.from_residual-in_err-send_export.result c.from_residual-in_err-send_export.ensures.1 in
    let t = c.in_ok-number.ensures.taken in
    rw (p.1, p.2) (cut_in_answer c.args.export.now (haggling c.args.flags) transmitting _ _ (named c.args.flags) (t.magic ++ t.head ++ t.text) []
    (spells_named c.args.export.now c.args.flags _ _ _ _ _ _ _ t c.if-number-eq1.true c.if-not-is_named.false c.as_bytes.ensures.bytes) t.taken t.count refl refl (no_more _) (omega arith) (or_none _) (or_none _)
    c.in_ok-number.ensures.count (omega (arith, c.requires.more)) c.in_err-send_export.field-0.0 c.in_err-send_export.ensures.cut c.in_err-send_export.ensures.rose c.in_err-send_export.ensures.told)

pub returns-then-number-eq1-clause-on : goal.returns-then-number-eq1-clause-on
returns-then-number-eq1-clause-on g c = λ disk.
    let t = c.in_ok-number.ensures.taken in
    leads_on c.args.export.now (haggling c.args.flags) transmitting _ _ (named c.args.flags) (t.magic ++ t.head ++ t.text) []
    (spells_named c.args.export.now c.args.flags _ _ _ _ _ _ _ t c.if-number-eq1.true c.if-not-is_named.false c.as_bytes.ensures.bytes) t.taken t.count refl refl (no_more _) (omega arith) (or_none _) (or_none _)
    c.in_ok-number.ensures.count (omega (arith, c.requires.more)) c.in_ok-send_export.ensures.ok c.in_ok-send_export.ensures.quiet

pub returns-in_err-send-clause-ended : goal.returns-in_err-send-clause-ended
returns-in_err-send-clause-ended g c = λ disk.
    let p = err_from_is_err_and c.from_residual-in_err-send.result c.from_residual-in_err-send.ensures.1 in
    let t = c.in_ok-number.ensures.taken in
    rw (p.1, p.2) (cut_in_answer c.args.export.now (haggling c.args.flags) over _ _ aborted (t.magic ++ t.head ++ t.text) []
    (spells_abort c.args.export.now c.args.flags _ _ _ _ _ _ _ t c.if-number-eq2.true) t.taken t.count refl refl (no_more _) (omega arith) (or_none _) (or_none _)
    c.in_ok-number.ensures.count (omega (arith, c.requires.more)) c.in_err-send.field-0.0
    (c.in_err-send.ensures.cut.0, rw c.option_reply.ensures at c.in_err-send.ensures.cut.1)
    c.in_err-send.ensures.rose c.in_err-send.ensures.told)

pub returns-then-number-eq2-clause-on : goal.returns-then-number-eq2-clause-on
returns-then-number-eq2-clause-on g c = λ disk.
    let t = c.in_ok-number.ensures.taken in
    leads_on c.args.export.now (haggling c.args.flags) over _ _ aborted (t.magic ++ t.head ++ t.text) []
    (spells_abort c.args.export.now c.args.flags _ _ _ _ _ _ _ t c.if-number-eq2.true) t.taken t.count refl refl (no_more _) (omega arith) (or_none _) (or_none _)
    c.in_ok-number.ensures.count (omega (arith, c.requires.more)) (rw c.option_reply.ensures at c.in_ok-send.ensures.ok) c.in_ok-send.ensures.quiet

pub returns-in_err-send-2-clause-ended : goal.returns-in_err-send-2-clause-ended
returns-in_err-send-2-clause-ended g c = λ disk.
    let p = err_from_is_err_and c.from_residual-in_err-send-2.result c.from_residual-in_err-send-2.ensures.1 in
    let t = c.in_ok-number.ensures.taken in
    rw (p.1, p.2) (cut_in_answer c.args.export.now (haggling c.args.flags) (haggling c.args.flags) _ _ (other_option c.in_ok-number.number) (t.magic ++ t.head ++ t.text) []
    (spells_other c.args.export.now c.args.flags _ _ _ _ _ _ _ t c.if-number-eq1.false c.if-number-eq2.false) t.taken t.count refl refl (no_more _) (omega arith) (or_none _) (or_none _)
    c.in_ok-number.ensures.count (omega (arith, c.requires.more)) c.in_err-send-2.field-0.0
    (c.in_err-send-2.ensures.cut.0, rw c.option_reply-2.ensures at c.in_err-send-2.ensures.cut.1)
    c.in_err-send-2.ensures.rose c.in_err-send-2.ensures.told)

pub returns-clause-on : goal.returns-clause-on
returns-clause-on g c = λ disk.
    let t = c.in_ok-number.ensures.taken in
    leads_on c.args.export.now (haggling c.args.flags) (haggling c.args.flags) _ _ (other_option c.in_ok-number.number) (t.magic ++ t.head ++ t.text) []
    (spells_other c.args.export.now c.args.flags _ _ _ _ _ _ _ t c.if-number-eq1.false c.if-number-eq2.false) t.taken t.count refl refl (one_more _ _ c.count.ensures.messages) (omega arith) (c.count.ensures.fault ∙ or_none _) (c.count.ensures.no_room ∙ or_none _)
    c.in_ok-number.ensures.count (omega (arith, c.requires.more, c.count.ensures.messages)) (rw c.option_reply-2.ensures at c.in_ok-send-2.ensures.ok) c.in_ok-send-2.ensures.quiet
