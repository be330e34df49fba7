use Rattle.std.proofs.Common.{◌∙◌, ap, arith, refl, ◌∷◌, []}
use Rattle.nbd_session.specs.Connected.{asked_by_client}
use Rattle.nbd_session.proofs.Ends.{back_some, client_heard, shared_alone, shared_beside}
use Rattle.nbd_session.proofs.serving.end_all.Goals as goal

pub close_shared-chain-requires-clause-all : goal.close_shared-chain-requires-clause-all
close_shared-chain-requires-clause-all g c =
    let joins = ap (λ s. s.family.joins) c.join_guest.ensures.both in
    let splits = ap (λ s. s.family.splits) c.join_guest.ensures.both in
    omega (arith, joins, splits, c.requires.split)

pub close_shared-chain-requires-clause-ticket : goal.close_shared-chain-requires-clause-ticket
close_shared-chain-requires-clause-ticket g c = ap (λ s. s.first_ticket) c.join_guest.ensures.both ∙ c.requires.ticket

pub close_shared-chain-requires-clause-drawn : goal.close_shared-chain-requires-clause-drawn
close_shared-chain-requires-clause-drawn g c =
    let drawn = ap (λ s. s.drawn) c.join_guest.ensures.both in
    omega (arith, drawn, c.requires.none, c.requires.drawn)

pub returns-clause-alone : goal.returns-clause-alone
returns-clause-alone g c calls outcomes called lost_is none =
    let disk = g.S.Store.disk in
    let first = c.args.was.now.value.first in
    let asking = asked_by_client calls in
    let joined = c.join_guest.ensures.joined asking [] outcomes (c.requires.joined asking) (client_heard disk first calls outcomes c.args.client.seat c.args.client.readers called) in
    shared_alone disk c.args.was.now.value c.close_shared-chain.result.0 calls outcomes c.args.client.lost c.close_shared-chain.result.1 c.saturating_add.result lost_is c.requires.lost c.saturating_add.ensures (c.close_shared-chain.ensures.none none)
    (c.close_shared-chain.ensures.alone asking (outcomes ∷ []) joined refl none)

pub returns-clause-beside : goal.returns-clause-beside
returns-clause-beside g c calls outcomes called lost_is =
    let disk = g.S.Store.disk in
    let first = c.args.was.now.value.first in
    let asking = asked_by_client calls in
    let joined = c.join_guest.ensures.joined asking [] outcomes (c.requires.joined asking) (client_heard disk first calls outcomes c.args.client.seat c.args.client.readers called) in
    shared_beside disk c.args.was.now.value c.close_shared-chain.result.0 calls outcomes c.args.client.lost c.close_shared-chain.result.1 c.saturating_add.result lost_is c.requires.lost c.saturating_add.ensures
    (c.close_shared-chain.ensures.beside asking (outcomes ∷ []) joined refl)

pub returns-clause-back : goal.returns-clause-back
returns-clause-back g c =
    c.close_shared-chain.ensures.back
    ∙ back_some c.args.back.items c.push_reserved.new.self.items c.args.client.readers c.args.client.lost c.close_shared-chain.result.1 c.saturating_add.result c.requires.empty c.push_reserved.ensures.items c.requires.failed c.saturating_add.ensures
