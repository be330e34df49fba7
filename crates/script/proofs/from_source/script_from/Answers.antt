use Rattle.std.proofs.lemmas.Result.{err_from_is_err_and}
use Rattle.script.proofs.ReadingLaws.{few_lines}
use Rattle.script.proofs.Taken.{is_seen, left_found, left_refused, only_refused, read_refused, unread_left}
use Rattle.script.proofs.Appended.{none_read}
use Rattle.script.proofs.from_source.script_from.Goals as goal

pub returns-in_err-text-clause-left : goal.returns-in_err-text-clause-left
returns-in_err-text-clause-left g c =
    let p = err_from_is_err_and c.from_residual.result c.from_residual.ensures.1 in
    rw (p.1, p.2) (unread_left _ _ _ _ c.in_err-text.ensures.part.1 c.in_err-text.ensures.unread)

pub returns-in_err-script-clause-read : goal.returns-in_err-script-clause-read
returns-in_err-script-clause-read g c =
    let p = err_from_is_err_and c.from_residual-in_err-script.result c.from_residual-in_err-script.ensures.1 in
    let seen = is_seen _ _ _ c.in_ok-text.ensures.taken c.in_ok-text.ensures.most c.in_ok-text.ensures.end in
    rw (p.1, p.2) (read_refused c.args.kind _ _ _ c.in_err-script.field-0.0 seen (rw c.as_slice.ensures.value at c.in_err-script.ensures.broken))

pub returns-in_err-script-clause-only : goal.returns-in_err-script-clause-only
returns-in_err-script-clause-only g c =
    let p = err_from_is_err_and c.from_residual-in_err-script.result c.from_residual-in_err-script.ensures.1 in
    let seen = is_seen _ _ _ c.in_ok-text.ensures.taken c.in_ok-text.ensures.most c.in_ok-text.ensures.end in
    rw (p.1, p.2) (only_refused c.args.kind _ _ _ c.in_err-script.field-0.0 seen (rw c.as_slice.ensures.value at c.in_err-script.ensures.only))

pub returns-in_err-script-clause-left : goal.returns-in_err-script-clause-left
returns-in_err-script-clause-left g c =
    let p = err_from_is_err_and c.from_residual-in_err-script.result c.from_residual-in_err-script.ensures.1 in
    let seen = is_seen _ _ _ c.in_ok-text.ensures.taken c.in_ok-text.ensures.most c.in_ok-text.ensures.end in
    rw (p.1, p.2) (left_refused c.args.kind _ _ _ c.in_err-script.field-0.0 seen)

pub returns-clause-left : goal.returns-clause-left
returns-clause-left g c = left_found c.args.kind _ _ _ (is_seen _ _ _ c.in_ok-text.ensures.taken c.in_ok-text.ensures.most c.in_ok-text.ensures.end)

pub returns-clause-few : goal.returns-clause-few
returns-clause-few g c = few_lines c.args.kind _ _ c.in_ok-script.ensures.found

pub returns-in_err-text-clause-few : goal.returns-in_err-text-clause-few
returns-in_err-text-clause-few g c = none_read c.from_residual.result c.from_residual.ensures.0 _

pub returns-in_err-script-clause-few : goal.returns-in_err-script-clause-few
returns-in_err-script-clause-few g c = none_read c.from_residual-in_err-script.result c.from_residual-in_err-script.ensures.0 _
