use Rattle.std.proofs.Common.{◌-◌, ◌||◌, ap, arith, false, length, refl, sym, true, ◌∙◌}
use Rattle.std.specs.Prelude.{nat_lt}
use Rattle.layer_session.proofs.Equal.{false_true}
use Rattle.serve_session.specs.Served.{all_unread, asked_by, greatest_from}
use Rattle.serve_session.specs.Serving.{IsShared}
use Rattle.serve_session.proofs.Back.{sat_least, sat_none, sat_some}
use Rattle.serve_session.proofs.Final.{few_guests, was_unread}
use Rattle.serve_session.proofs.serving.end_all.Goals as goal

pub end_actors-unread-requires-clause-guests : goal.end_actors-unread-requires-clause-guests
end_actors-unread-requires-clause-guests g c = few_guests (length c.args.actors.items) (greatest_from 0 c.args.lines.now) c.requires.count

pub close_shared-chain-requires-clause-all : goal.close_shared-chain-requires-clause-all
close_shared-chain-requires-clause-all g c =
    let joins = ap (λ f. f.joins) c.end_actors-unread.ensures.joined.family in
    let splits = ap (λ f. f.splits) c.end_actors-unread.ensures.joined.family in
    omega (arith, joins, splits, c.requires.split)

pub close_shared-chain-requires-clause-ticket : goal.close_shared-chain-requires-clause-ticket
close_shared-chain-requires-clause-ticket g c = c.end_actors-unread.ensures.joined.first_ticket ∙ c.requires.ticket

pub close_shared-chain-requires-clause-drawn : goal.close_shared-chain-requires-clause-drawn
close_shared-chain-requires-clause-drawn g c =
    let few = few_guests (length c.args.actors.items) (greatest_from 0 c.args.lines.now) c.requires.count in
    omega (arith, c.end_actors-unread.ensures.joined.drawn, c.requires.none, few)

pub returns-clause-alone : goal.returns-clause-alone
returns-clause-alone g c none =
    let lines = c.args.lines.now in
    let j = c.end_actors-unread.ensures.joined in
    let few = c.end_actors-unread.ensures.few in
    let sum = sat_none c.end_actors-unread.result.unread c.close_shared-chain.result.1 c.saturating_add.result (c.close_shared-chain.ensures.none none) (omega (arith, few)) c.saturating_add.ensures in
    IsShared.was_shared j.guests
    (was_unread g.S.Store.disk false c.args.was.now.value c.close_shared-chain.result.0 (asked_by lines) j.guests _ (c.close_shared-chain.ensures.alone (asked_by lines) j.guests j.joined (j.count_is ∙ c.requires.count) none) c.saturating_add.result 0 (omega (arith, sum, j.unread_is)) (λ alone. refl))
    j.words j.tally_is

pub returns-clause-beside : goal.returns-clause-beside
returns-clause-beside g c =
    let lines = c.args.lines.now in
    let j = c.end_actors-unread.ensures.joined in
    let few = c.end_actors-unread.ensures.few in
    let least = sat_least c.end_actors-unread.result.unread c.close_shared-chain.result.1 c.saturating_add.result (omega (arith, few)) c.saturating_add.ensures in
    IsShared.was_shared j.guests
    (was_unread g.S.Store.disk true c.args.was.now.value c.close_shared-chain.result.0 (asked_by lines) j.guests _ (c.close_shared-chain.ensures.beside (asked_by lines) j.guests j.joined (j.count_is ∙ c.requires.count)) c.saturating_add.result (c.saturating_add.result - length (all_unread j.guests)) (omega (arith, least, j.unread_is)) (λ never. absurd (false_true (sym never))))
    j.words j.tally_is

pub returns-clause-back : goal.returns-clause-back
returns-clause-back g c =
    c.close_shared-chain.ensures.back ∙ ap (λ b. b || nat_lt 0 c.close_shared-chain.result.1) c.end_actors-unread.ensures.back
    ∙ sym (sat_some c.end_actors-unread.result.unread c.close_shared-chain.result.1 c.close_shared-chain.result.1 c.saturating_add.result refl c.saturating_add.ensures)
