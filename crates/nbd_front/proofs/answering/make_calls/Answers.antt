use Rattle.std.proofs.Common.{◌≡◌, ◌≤◌, ◌∙◌, ◌+◌, ◌-◌, ℕ, List, ap, sym, [], take, drop, length, length-take-le, length-drop, arith}
use Rattle.nbd_front.proofs.Wanted.{asks_flush, asks_flush_refused, reads_as_many}
use Rattle.nbd_front.proofs.Handling.{handled_by, handled_alone, handled_as, handled_gives, read_by_kind, trim_by_kind, flush_by_kind, part_put}
use Rattle.nbd_front.proofs.answering.make_calls.Goals as goal

-- how many bytes are read
part_len : (n : ℕ) (page buf : List ℕ) → 16 + n ≤ length page → length buf ≡ length (take (16 + n - 16) (drop 16 page)) → length buf ≡ n
part_len n page buf room e =
    let same : 16 + n - 16 ≡ n = omega arith in
    e ∙ ap (λ k. length (take k (drop 16 page))) same ∙ length-take-le n (drop 16 page) (omega (arith, length-drop 16 page))

pub returns-then-error-ne0-clause-handled : goal.returns-then-error-ne0-clause-handled
returns-then-error-ne0-clause-handled g c = handled_alone _ c.args.geometry c.args.request.now [] c.judge-error.result _ _ c.judge-error.ensures.judged c.if-error-ne0.true

pub returns-then-request-eq0-clause-handled : goal.returns-then-request-eq0-clause-handled
returns-then-request-eq0-clause-handled g c =
    let room = c.requires.room c.if-request-eq0.true (c.judge-error.ensures.few c.if-error-ne0.false c.if-request-eq0.true) in
    let len = part_len c.args.request.now.len c.args.page.now c.read_into.new.out room c.read_into.auto.out in
    handled_as (sym c.error_among.ensures)
    (handled_gives _ (λ kind. sym (part_put c.args.request.now.len c.args.page.now c.read_into.new.out (omega arith) len))
    (handled_by _ c.args.geometry c.args.request.now [] _ _ _ _ c.read_into.new.out (sym c.judge-error.ensures.judged ∙ c.if-error-ne0.false)
    (read_by_kind c.args.geometry.sector 1 c.args.request.now [] c.if-request-eq0.true)
    (reads_as_many c.args.geometry.sector c.args.request.now.offset _ _ len c.read_into.ensures.asks)))

pub returns-then-request-eq4-clause-handled : goal.returns-then-request-eq4-clause-handled
returns-then-request-eq4-clause-handled g c =
    handled_as (sym c.error_among-then-request-eq4.ensures) (handled_gives _ (λ kind. absurd (c.if-request-eq0.false kind))
    (handled_by _ c.args.geometry c.args.request.now [] _ _ _ _ [] (sym c.judge-error.ensures.judged ∙ c.if-error-ne0.false)
    (trim_by_kind c.args.geometry.sector 1 c.args.request.now [] c.if-request-eq4.true) c.trim.ensures.asks))

pub returns-in-Ok-clause-handled : goal.returns-in-Ok-clause-handled
returns-in-Ok-clause-handled g c =
    handled_gives _ (λ kind. absurd (c.if-request-eq0.false kind))
    (handled_by _ c.args.geometry c.args.request.now [] _ _ _ _ [] (sym c.judge-error.ensures.judged ∙ c.if-error-ne0.false)
    (flush_by_kind c.args.geometry.sector 1 c.args.request.now [] c.if-request-eq0.false c.requires.other c.if-request-eq4.false)
    (asks_flush _ _ _ _ c.in-Ok.ensures.told))

pub returns-in-Err-clause-handled : goal.returns-in-Err-clause-handled
returns-in-Err-clause-handled g c =
    handled_as (sym c.error_of.ensures) (handled_gives _ (λ kind. absurd (c.if-request-eq0.false kind))
    (handled_by _ c.args.geometry c.args.request.now [] _ _ _ _ [] (sym c.judge-error.ensures.judged ∙ c.if-error-ne0.false)
    (flush_by_kind c.args.geometry.sector 1 c.args.request.now [] c.if-request-eq0.false c.requires.other c.if-request-eq4.false)
    (asks_flush_refused _ _ _ _ c.in-Err.ensures.told)))
