use Rattle.std.proofs.Common.{[], Some, subst, sym, ◌∙◌}
use Rattle.std.proofs.lemmas.List.Elements.{All-pop}
use Rattle.serve_session.specs.Actors.{HasReaders}
use Rattle.serve_session.specs.Sealing.{IsSetFor}
use Rattle.nbd_session.proofs.Ends.{new_guest}
use Rattle.nbd_session.proofs.client.first_guest.Goals as goal

pub returns-clause-guest : goal.returns-clause-guest
returns-clause-guest g c =
    let disk = g.S.Store.disk in
    let first = c.args.was.now.value.first in
    let taken = All-pop (IsSetFor disk first) c.args.sets.now c.take.new.self (Some c.in-Some.readers) c.in-Some.ensures c.requires.sets in
    new_guest disk first c.args.lock.now c.args.first.now c.requires.free c.requires.knows c.new.result (c.new.ensures.0 ∙ c.split-seat.ensures.new) c.new.ensures.2 c.new.ensures.3 (subst (HasReaders disk first []) (sym c.new.ensures.1) taken.1)

pub returns-clause-sets : goal.returns-clause-sets
returns-clause-sets g c =
    let disk = g.S.Store.disk in
    (All-pop (IsSetFor disk c.args.was.now.value.first) c.args.sets.now c.take.new.self (Some c.in-Some.readers) c.in-Some.ensures c.requires.sets).0
