use Rattle.std.proofs.Common.{sym, []}
use Rattle.std.proofs.lemmas.Result.{err_from_is_err_and}
use Rattle.nbd_front.proofs.Wanted.{asks_as, asks_then, asks_refused_first, asks_flush, asks_flush_refused}
use Rattle.nbd_front.proofs.Handling.{forced_flush}
use Rattle.nbd_front.proofs.answering.trim.Goals as goal

pub returns-in_err-trim_range-clause-asks : goal.returns-in_err-trim_range-clause-asks
returns-in_err-trim_range-clause-asks g c =
    let p = err_from_is_err_and c.from_residual.result c.from_residual.ensures.1 in
    rw (p.1, p.2) (asks_refused_first _ _ _ _ _ _ [] [] c.in_err-trim_range.ensures.asks)

pub returns-in_err-flush-clause-asks : goal.returns-in_err-flush-clause-asks
returns-in_err-flush-clause-asks g c =
    let p = err_from_is_err_and c.from_residual-in_err-flush.result c.from_residual-in_err-flush.ensures.1 in
    let flush = forced_flush c.args.request.now c.if-request-eq1.true c.if-request-ne0.true in
    rw (p.1, p.2) (asks_then _ _ _ _ _ _ _ [] [] c.in_ok-trim_range.ensures.asks
    (asks_as (sym flush) (asks_flush_refused _ _ _ _ c.in_err-flush.ensures.told)))

pub returns-in_ok-flush-clause-asks : goal.returns-in_ok-flush-clause-asks
returns-in_ok-flush-clause-asks g c =
    let flush = forced_flush c.args.request.now c.if-request-eq1.true c.if-request-ne0.true in
    asks_then _ _ _ _ _ _ _ [] [] c.in_ok-trim_range.ensures.asks
    (asks_as (sym flush) (asks_flush _ _ _ _ c.in_ok-flush.ensures.told))
