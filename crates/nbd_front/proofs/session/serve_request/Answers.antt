use Rattle.std.proofs.Common.{◌≡◌, ◌≤◌, ◌++◌, ◌||◌, ◌==◌, List, ℕ, Bool, [], length, take, ap, sym, subst, refl, ◌∙◌, arith, length-append}
use Rattle.std.proofs.KnownBytes.{Consumes-trans, Appends-nil}
use Rattle.std.proofs.lemmas.Result.{err_from_is_err_and}
use Rattle.std.specs.Io.KnownBytes.{Appends}
use Rattle.nbd_front.specs.declared.request.Request.{Request}
use Rattle.nbd_front.specs.Wire.{counted, most_bytes}
use Rattle.nbd_front.specs.Messages.{transmitting, over, asked, disconnected, request_spelled, disconnect_spelled}
use Rattle.nbd_front.specs.Parts.{read_part, reply_text}
use Rattle.nbd_front.proofs.Steps.{is_ended, is_cut_in_write, leads_on, cut_in_answer, counts_of_source, counts_any, counts_on, source_end_on, spent_of_source, no_more, one_more, or_none, vec_back}
use Rattle.nbd_front.proofs.Few.{begun_few, request_few}
use Rattle.nbd_front.proofs.Taken.{counted_more}
use Rattle.nbd_front.proofs.Handling.{room_for, answer_is}
use Rattle.nbd_front.proofs.session.serve_request.Goals as goal

pub returns-in_err-request-clause-ended : goal.returns-in_err-request-clause-ended
returns-in_err-request-clause-ended g c =
    let p = err_from_is_err_and c.from_residual.result c.from_residual.ensures.1 in
    rw (p.1, p.2) (is_ended c.args.export.now transmitting _ _ _ c.args.desk.now.intake.fits (c.in_err-request.ensures.ended c.args.export.now) refl refl refl refl
    (counts_of_source _ _ _ (counts_any Request (Unit {0}) _ _ _ c.in_err-request.ensures.count) refl) (spent_of_source Request _ _ _ _ c.in_err-request.ensures.count))

pub returns-then-request-eq2-clause-on : goal.returns-then-request-eq2-clause-on
returns-then-request-eq2-clause-on g c =
    let t = c.in_ok-request.ensures.taken in
    leads_on c.args.export.now transmitting over _ _ disconnected (t.magic ++ t.head) [] (disconnect_spelled t.is c.if-request-eq2.true) t.taken t.count refl refl (no_more _) (omega arith)
    (or_none _) (or_none _) c.in_ok-request.ensures.count (omega (arith, c.requires.more)) (Appends-nil _) refl

pub returns-in_err-error-clause-ended : goal.returns-in_err-error-clause-ended
returns-in_err-error-clause-ended g c =
    let p = err_from_is_err_and c.from_residual-in_err-error.result c.from_residual-in_err-error.ensures.1 in
    let t = c.in_ok-request.ensures.taken in
    let w = c.in_err-error.ensures.cut in
    rw (p.1, p.2) (is_cut_in_write c.args.export.now _ _ c.in_ok-request.request t.magic t.head w.text w.calls _ t.is w.few
    (Consumes-trans _ _ _ (t.magic ++ t.head) w.text t.taken w.taken) w.made w.runs
    (source_end_on _ _ _ _ _ _ _ t.count (length-append (t.magic ++ t.head) w.text) w.why) refl refl refl
    (counts_of_source _ _ _ (counts_on ℕ (Unit {0}) _ _ _ _ c.in_ok-request.ensures.count c.in_err-error.ensures.count) refl) (spent_of_source ℕ _ _ _ _ c.in_err-error.ensures.count)
    (begun_few c.args.export.now.geometry c.in_ok-request.request w.text w.calls (omega arith) (omega (arith, w.few, t.is.most)) w.made) c.requires.more)

pub reply-requires-clause-room : goal.reply-requires-clause-room
reply-requires-clause-room g c =
    let items = c.make_room.new.page.items in
    let same = c.in_ok-error.ensures.room ∙ ap length c.as_mut_slice.ensures.value in
    let back = ap length (c.as_mut_slice-2.ensures.value ∙ vec_back _ c.handle.new.page items c.make_room.new.page.ok.0 same) ∙ same in
    let kept = c.make_room.ensures.kept in
    room_for c.in_ok-request.request c.in_ok-error.error _ (omega arith)
    (λ kind ok. let room = c.make_room.ensures.room kind (c.in_ok-error.ensures.few ok kind) in omega arith)

-- how many bytes were taken
sum_at : (at mid now : ℕ) (first text : List ℕ) → mid ≡ counted at (length first) → now ≡ counted mid (length text) → now ≡ counted at (length (first ++ text))
sum_at at mid now first text a b = b ∙ ap (λ k. counted k (length text)) a ∙ counted_more at (length first) (length text) ∙ ap (counted at) (sym (length-append first text))

-- what a reply told
told_as : (was : Bool) (now : Bool) (error other k : ℕ) → now ≡ (was || (error == k)) → error ≡ other → now ≡ (was || (other == k))
told_as was now error other k a b = a ∙ ap (λ n. was || (n == k)) b

pub returns-in_err-reply-clause-ended : goal.returns-in_err-reply-clause-ended
returns-in_err-reply-clause-ended g c =
    let p = err_from_is_err_and c.from_residual-in_err-reply.result c.from_residual-in_err-reply.ensures.1 in
    let t = c.in_ok-request.ensures.taken in
    let d = c.in_ok-error.ensures.taken in
    let r = c.in_ok-request.request in
    let items = c.make_room.new.page.items in
    let same = c.in_ok-error.ensures.room ∙ ap length c.as_mut_slice.ensures.value in
    let page = c.as_mut_slice-2.ensures.value ∙ vec_back _ c.handle.new.page items c.make_room.new.page.ok.0 same in
    let text = ap (λ (l : List ℕ). reply_text r c.in_ok-error.error (read_part r l)) page
    ∙ answer_is _ c.args.export.now.geometry r d.text _ _ c.in_ok-error.error (read_part r c.handle.new.page) d.handled in
    rw (p.1, p.2) (cut_in_answer c.args.export.now transmitting transmitting _ _ (asked r d.text) (t.magic ++ t.head ++ d.text) d.handled.calls
    (request_spelled t.is c.if-request-eq2.false d.len) (Consumes-trans _ _ _ (t.magic ++ t.head) d.text t.taken d.taken)
    (sum_at _ _ _ (t.magic ++ t.head) d.text t.count d.count) d.handled.made d.handled.runs (one_more _ _ c.note.ensures.messages)
    (request_few c.args.export.now.geometry r d.text d.handled.calls (omega arith) (subst (λ n. n ≤ most_bytes) (sym d.len) t.is.most) d.handled.made)
    (told_as _ _ _ _ 5 c.note.ensures.fault d.handled.says) (told_as _ _ _ _ 12 c.note.ensures.no_room d.handled.says)
    (c.in_ok-error.ensures.count ∙ c.in_ok-request.ensures.count) (omega (arith, c.requires.more)) c.in_err-reply.field-0.0
    (c.in_err-reply.ensures.cut.0, subst (λ (l : List ℕ). Appends (g.K.Sink.written c.args.sink.now) (g.K.Sink.written c.reply.new.sink) (take c.in_err-reply.ensures.cut.0 l)) text c.in_err-reply.ensures.cut.1)
    c.in_err-reply.ensures.rose c.in_err-reply.ensures.told)

pub returns-clause-on : goal.returns-clause-on
returns-clause-on g c =
    let t = c.in_ok-request.ensures.taken in
    let d = c.in_ok-error.ensures.taken in
    let r = c.in_ok-request.request in
    let items = c.make_room.new.page.items in
    let same = c.in_ok-error.ensures.room ∙ ap length c.as_mut_slice.ensures.value in
    let page = c.as_mut_slice-2.ensures.value ∙ vec_back _ c.handle.new.page items c.make_room.new.page.ok.0 same in
    let text = ap (λ (l : List ℕ). reply_text r c.in_ok-error.error (read_part r l)) page
    ∙ answer_is _ c.args.export.now.geometry r d.text _ _ c.in_ok-error.error (read_part r c.handle.new.page) d.handled in
    leads_on c.args.export.now transmitting transmitting _ _ (asked r d.text) (t.magic ++ t.head ++ d.text) d.handled.calls
    (request_spelled t.is c.if-request-eq2.false d.len) (Consumes-trans _ _ _ (t.magic ++ t.head) d.text t.taken d.taken)
    (sum_at _ _ _ (t.magic ++ t.head) d.text t.count d.count) d.handled.made d.handled.runs (one_more _ _ c.note.ensures.messages)
    (request_few c.args.export.now.geometry r d.text d.handled.calls (omega arith) (subst (λ n. n ≤ most_bytes) (sym d.len) t.is.most) d.handled.made)
    (told_as _ _ _ _ 5 c.note.ensures.fault d.handled.says) (told_as _ _ _ _ 12 c.note.ensures.no_room d.handled.says)
    (c.in_ok-error.ensures.count ∙ c.in_ok-request.ensures.count) (omega (arith, c.requires.more, c.note.ensures.messages))
    (subst (Appends (g.K.Sink.written c.args.sink.now) (g.K.Sink.written c.reply.new.sink)) text c.in_ok-reply.ensures.ok)
    c.in_ok-reply.ensures.quiet
