use Rattle.std.proofs.Common.{◌≡◌, ◌+◌, ◌<◌, ◌^◌, ap, length, length-take-le, map, sym, subst, take, ◌∙◌, arith}
use Rattle.guest_io.specs.Guests.{HaveReaders}
use Rattle.shared_chain.specs.Seats.{IsFree}
use Rattle.script.specs.declared.form.Form.TheVariants.{Read}
use Rattle.script.specs.declared.form.Line.{Line}
use Rattle.serve_session.specs.Actors.{IsActor}
use Rattle.serve_session.specs.Served.{forms_of}
use Rattle.serve_session.proofs.Guests.{forms_few, forms_more, forms_same}
use Rattle.serve_session.proofs.actor.Actor.run.Goals as goal
use Rattle.serve_session.proofs.actor.Actor.run.Goals.{then-line-self, else-line-self}

pub loop-line-preserved : goal.loop-line-preserved
loop-line-preserved g c =
    let i = c.loop-line.invariant in
    let n = c.loop-line.line-index in
    let lines = c.args.lines.now in
    let number = c.args.self.now.number in
    let d : Line = record { guest = 0; form = Read 0 0 } in
    let disk = g.S.Store.disk in
    let names = map g.N.AsStr.text c.args.names.now in
    let seen : length (take n lines) ≡ n = length-take-le n lines (omega (arith, c.loop-line-test.true)) in
    let few : length (forms_of number (take n lines)) < 2 ^ 32 = omega (arith, forms_few number (take n lines), seen, c.loop-line-test.true, c.requires.few) in
    elim c.if-line-self.branch [
      | then-line-self w ↦ record {
        free = subst (λ a. IsFree c.args.lock.now a.guest.seat) (sym w.self-is) w.step.ensures.free;
        readers = subst (λ a. HaveReaders disk a.guest.seat.basis a.guest.readers) (sym w.self-is) w.step.ensures.have;
        room = ap (λ a. length a.room.items) w.self-is ∙ w.step.ensures.room;
        number = ap (λ a. a.number) w.self-is ∙ w.step.ensures.number ∙ i.number;
        ran = λ first is. subst (λ a. IsActor disk first c.args.lock.now names (forms_of number (take (n + 1) lines)) a) (sym w.self-is)
            (subst (λ fs. IsActor disk first c.args.lock.now names fs w.step.new.self) (sym (forms_more number lines n d c.loop-line-test.true (w.if-line-self.true ∙ i.number))) (w.step.ensures.actor first (forms_of number (take n lines)) few (i.ran first is)));
      }
      | else-line-self w ↦ record {
        free = subst (λ a. IsFree c.args.lock.now a.guest.seat) (sym w.self-is) i.free;
        readers = subst (λ a. HaveReaders disk a.guest.seat.basis a.guest.readers) (sym w.self-is) i.readers;
        room = ap (λ a. length a.room.items) w.self-is ∙ i.room;
        number = ap (λ a. a.number) w.self-is ∙ i.number;
        ran = λ first is. subst (λ a. IsActor disk first c.args.lock.now names (forms_of number (take (n + 1) lines)) a) (sym w.self-is)
            (subst (λ fs. IsActor disk first c.args.lock.now names fs c.loop-line.self) (sym (forms_same number lines n d c.loop-line-test.true (λ e. w.if-line-self.false (e ∙ sym i.number)))) (i.ran first is));
      }
    ]
