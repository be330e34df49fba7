use Rattle.std.proofs.Common.{rules, ap₂, ◌<◌, ◌^◌, subst, ◌++◌, ◌∷◌, [], true, ap, drop, length, map, sym, ◌∙◌}
use Rattle.layer_session.proofs.Equal.{true_false}
use Rattle.serve_session.specs.Asking.{outcome_of, shown_in}
use Rattle.serve_session.specs.Served.{told_call}
use Rattle.serve_session.specs.Tallies.{AddsUp, with_outcome}
use Rattle.serve_session.proofs.Guests.{written_all}
use Rattle.serve_session.proofs.Stepping.{called, other_passes, short_passes}
use Rattle.serve_session.proofs.actor.Actor.step.Goals as goal
use Rattle.serve_session.proofs.actor.Actor.step.Goals.{then-self-via-then-self, then-self-via-else-self+then-not-is_call}

pub returns-then-self-clause-actor : goal.returns-then-self-clause-actor
returns-then-self-clause-actor g c = λ first forms few is. elim c.then-self.branch [
  | then-self-via-then-self w ↦ short_passes g.S.Store.disk first c.args.lock.now (map g.N.AsStr.text c.args.names.now) forms c.args.form c.args.self.now is w.if-self.true
  | then-self-via-else-self+then-not-is_call w ↦ other_passes g.S.Store.disk first c.args.lock.now (map g.N.AsStr.text c.args.names.now) forms c.args.form c.args.self.now is (sym w.is_call.ensures ∙ w.if-not-is_call.true)
]

pub returns-in-Err-clause-actor : goal.returns-in-Err-clause-actor
returns-in-Err-clause-actor g c =
    let o = c.keep.ensures.only in
    λ first forms few is. called g.S.Store.disk first c.args.lock.now (map g.N.AsStr.text c.args.names.now) forms c.args.form c.args.self.now is c.call-answer.new.room c.call-answer.new.guest.seat c.call-answer.result
    c.call-answer.ensures.called c.call-answer.new.guest.readers c.call-answer.ensures.only c.call-answer.ensures.reads few c.if-self.false (sym c.is_call.ensures ∙ c.if-not-is_call.false)
    (record (c.keep.new.self) { is_short = true })
    (ap (λ a. a.guest.seat) o ∙ ap (λ a. a.guest.seat) c.count.ensures.only) (ap (λ a. a.guest.readers) o ∙ ap (λ a. a.guest.readers) c.count.ensures.only) (ap (λ a. a.guest.number) o ∙ ap (λ a. a.guest.number) c.count.ensures.only ∙ c.call-answer.ensures.next.0) (ap (λ a. a.guest.next) o ∙ ap (λ a. a.guest.next) c.count.ensures.only ∙ c.call-answer.ensures.next.1) (ap (λ a. a.number) o ∙ ap (λ a. a.number) c.count.ensures.only)
    (ap (λ a. length a.room.items) o ∙ ap (λ a. length a.room.items) c.count.ensures.only ∙ (search rules)) (ap (λ a. a.unread) o ∙ ap (λ a. a.unread) c.count.ensures.only)
    (subst (λ t. AddsUp t (with_outcome is.outcomes (shown_in c.call-answer.new.room c.args.form) c.call-answer.result)) (sym (ap (λ a. a.tally) o))
    (subst (λ r. AddsUp c.count.new.self.tally (with_outcome is.outcomes (shown_in r c.args.form) c.call-answer.result))
    (written_all c.args.self.now.room.len c.call-answer.new.room (drop (length c.call-answer.new.room) c.args.self.now.room.items) (search rules))
    (c.count.ensures.tally is.outcomes (subst (λ n. n < 2 ^ 32) (sym (is.kept c.if-self.false).all) few) is.tally))) (λ e. absurd (true_false e))

pub returns-in_default-clause-actor : goal.returns-in_default-clause-actor
returns-in_default-clause-actor g c =
    let o = c.keep.ensures.only in
    λ first forms few is. called g.S.Store.disk first c.args.lock.now (map g.N.AsStr.text c.args.names.now) forms c.args.form c.args.self.now is c.call-answer.new.room c.call-answer.new.guest.seat c.call-answer.result
    c.call-answer.ensures.called c.call-answer.new.guest.readers c.call-answer.ensures.only c.call-answer.ensures.reads few c.if-self.false (sym c.is_call.ensures ∙ c.if-not-is_call.false)
    c.keep.new.self
    (ap (λ a. a.guest.seat) o ∙ ap (λ a. a.guest.seat) c.count.ensures.only) (ap (λ a. a.guest.readers) o ∙ ap (λ a. a.guest.readers) c.count.ensures.only) (ap (λ a. a.guest.number) o ∙ ap (λ a. a.guest.number) c.count.ensures.only ∙ c.call-answer.ensures.next.0) (ap (λ a. a.guest.next) o ∙ ap (λ a. a.guest.next) c.count.ensures.only ∙ c.call-answer.ensures.next.1) (ap (λ a. a.number) o ∙ ap (λ a. a.number) c.count.ensures.only)
    (ap (λ a. length a.room.items) o ∙ ap (λ a. length a.room.items) c.count.ensures.only ∙ (search rules)) (ap (λ a. a.unread) o ∙ ap (λ a. a.unread) c.count.ensures.only)
    (subst (λ t. AddsUp t (with_outcome is.outcomes (shown_in c.call-answer.new.room c.args.form) c.call-answer.result)) (sym (ap (λ a. a.tally) o))
    (subst (λ r. AddsUp c.count.new.self.tally (with_outcome is.outcomes (shown_in r c.args.form) c.call-answer.result))
    (written_all c.args.self.now.room.len c.call-answer.new.room (drop (length c.call-answer.new.room) c.args.self.now.room.items) (search rules))
    (c.count.ensures.tally is.outcomes (subst (λ n. n < 2 ^ 32) (sym (is.kept c.if-self.false).all) few) is.tally))) (λ e. (
      c.in_default.ensures.want,
      c.in_default.ensures.kept
          ∙ ap₂ (λ ts r. ts ++ told_call (map g.N.AsStr.text c.args.names.now) c.args.form (outcome_of (shown_in r c.args.form) c.call-answer.result) ∷ []) (ap (λ a. a.told.items) c.count.ensures.only)
          (ap (λ a. a.room.items) c.count.ensures.only ∙ written_all c.args.self.now.room.len c.call-answer.new.room (drop (length c.call-answer.new.room) c.args.self.now.room.items) (search rules)),
    ))
