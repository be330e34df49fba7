use Rattle.std.proofs.Common.{ap, sym, ◌∙◌}
use Rattle.turn_lock.proofs.Unlocking.{counts, ended, served, still}
use Rattle.turn_lock.proofs.lock.TurnLock.unlock.Goals as goal

pub overflow_sub-grown : goal.overflow_sub-grown
overflow_sub-grown g c =
    let T = g.V.Told in
    counts T.history T.basis T.contains T.work c.seat.inside.seat.table_id c.seat.inside.seat.me c.seat.inside.family c.seat.inside.refused c.seat.inside.count c.len.result c.held.inside.value c.args.seat.now c.args.held.seat (T.history c.args.held.value) (T.basis c.args.held.value)
    c.seat.invariant c.seat.view_is c.requires.turn (ap (λ u. T.history u.value) c.held.view_is) (ap (λ u. T.basis u.value) c.held.view_is) c.len.ensures

pub give-requires-clause-table : goal.give-requires-clause-table
give-requires-clause-table g c =
    (ap (λ u. u.lock) c.seat.view_is ∙ c.requires.own ∙ sym c.self.view_is, c.self.invariant.0, c.self.invariant.1)

pub give-requires-clause-served : goal.give-requires-clause-served
give-requires-clause-served g c =
    let T = g.V.Told in
    served T.history T.basis T.contains T.work c.seat.inside.seat.table_id c.seat.inside.seat.me c.seat.inside.family c.seat.inside.refused c.seat.inside.count c.len.result c.held.inside.value c.args.seat.now c.args.held.seat (T.history c.args.held.value) (T.basis c.args.held.value)
    c.seat.invariant c.seat.view_is c.requires.turn (ap (λ u. T.history u.value) c.held.view_is) (ap (λ u. T.basis u.value) c.held.view_is) c.len.ensures

pub invariant_of-seat : goal.invariant_of-seat
invariant_of-seat g c =
    let T = g.V.Told in
    still T.history T.basis T.contains T.work c.seat.inside.seat.table_id c.seat.inside.seat.me c.seat.inside.family c.seat.inside.refused c.seat.inside.count c.len.result c.held.inside.value c.args.seat.now c.args.held.seat (T.history c.args.held.value) (T.basis c.args.held.value)
    c.seat.invariant c.seat.view_is c.requires.turn (ap (λ u. T.history u.value) c.held.view_is) (ap (λ u. T.basis u.value) c.held.view_is) c.len.ensures c.give.new.seat.table_id c.give.new.seat.me c.give.ensures.table.0 c.give.ensures.given

pub returns : goal.returns
returns g c =
    let T = g.V.Told in
    ended T.history T.basis T.contains T.work c.seat.inside.seat.table_id c.seat.inside.seat.me c.seat.inside.family c.seat.inside.refused c.seat.inside.count c.len.result c.held.inside.value c.args.seat.now c.args.held.seat (T.history c.args.held.value) (T.basis c.args.held.value)
    c.seat.invariant c.seat.view_is c.requires.turn (ap (λ u. T.history u.value) c.held.view_is) (ap (λ u. T.basis u.value) c.held.view_is) c.len.ensures c.give.new.seat.table_id c.give.new.seat.me c.give.ensures.table.0 c.give.ensures.given
