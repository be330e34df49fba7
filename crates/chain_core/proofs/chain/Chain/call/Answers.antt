use Rattle.std.proofs.Common.{ap, refl, subst, sym, ◌∙◌}
use Rattle.guest_model.specs.declared.call.Call.{Call}
use Rattle.guest_model.specs.declared.call.Call.TheVariants as calls
use Rattle.guest_model.specs.declared.call.Reply.TheVariants as replies
use Rattle.chain_core.specs.Answering.{HasCause, HasReadCause}
use Rattle.chain_core.specs.Sessions.{IsCounted, Session, seen}
use Rattle.chain_core.proofs.Called.{call_answered, placed_by, replies_done, replies_read}
use Rattle.chain_core.proofs.chain.Chain.call.Goals as goal

pub returns-in-Read : goal.returns-in-Read
returns-in-Read g c =
    let before : Session = seen g.S.Store.disk g.R.Recorder.noted g.R.Recorder.told c.args.self.now in
    let after : Session = seen g.S.Store.disk g.R.Recorder.noted g.R.Recorder.told c.read_count-result.new.self in
    let call : Call = calls.Read c.in-Read.first c.in-Read.count in
    let e = c.read_count-result.ensures in
    let done = c.read_count-result.result in
    let r = replies.Bytes c.from_vec.result in
    let a = call_answered c.args.who c.args.call.now call before after done r c.answered.result (IsCounted c.args.self.now c.read_count-result.new.self) c.in-Read.is c.answered.ensures e.merge e.early e.notes
    (subst (HasReadCause call before after) (sym (placed_by done r)) e.cause) tt (replies_read c.in-Read.first c.in-Read.count before c.read_count-result.new.out.items r done e.finds (ap replies.Bytes c.from_vec.ensures)) e.told in
    record {
      sound = e.sound;
      events = e.events;
      geometry = e.geometry;
      session = e.session;
      leaf = e.leaf;
      merge = a.merge;
      early = a.early;
      notes = a.notes;
      cause = a.cause;
      room = a.room;
      replies = a.replies;
      told = a.told;
    }

pub returns-in-Write : goal.returns-in-Write
returns-in-Write g c =
    let before : Session = seen g.S.Store.disk g.R.Recorder.noted g.R.Recorder.told c.args.self.now in
    let after : Session = seen g.S.Store.disk g.R.Recorder.noted g.R.Recorder.told c.write-result.new.self in
    let call : Call = calls.Write c.in-Write.first c.as_slice.result.now in
    let e = c.write-result.ensures in
    let done = c.write-result.result in
    let a = call_answered c.args.who c.args.call.now call before after done replies.Done c.answered-in-Write.result (IsCounted c.args.self.now c.write-result.new.self) (c.in-Write.is ∙ ap (calls.Write c.in-Write.first) (sym c.as_slice.ensures)) c.answered-in-Write.ensures e.merge e.early e.notes
    (subst (HasCause call before after) (sym (placed_by done replies.Done)) e.cause) e.room (replies_done call before done (λ d. refl)) e.told in
    record {
      sound = e.sound;
      events = e.events;
      geometry = e.geometry;
      session = e.session;
      leaf = e.leaf;
      merge = a.merge;
      early = a.early;
      notes = a.notes;
      cause = a.cause;
      room = a.room;
      replies = a.replies;
      told = a.told;
    }

pub returns-in-Trim : goal.returns-in-Trim
returns-in-Trim g c =
    let before : Session = seen g.S.Store.disk g.R.Recorder.noted g.R.Recorder.told c.args.self.now in
    let after : Session = seen g.S.Store.disk g.R.Recorder.noted g.R.Recorder.told c.trim-result.new.self in
    let call : Call = calls.Trim c.in-Trim.first c.in-Trim.count in
    let e = c.trim-result.ensures in
    let done = c.trim-result.result in
    let a = call_answered c.args.who c.args.call.now call before after done replies.Done c.answered-in-Trim.result (IsCounted c.args.self.now c.trim-result.new.self) c.in-Trim.is c.answered-in-Trim.ensures e.merge e.early e.notes
    (subst (HasCause call before after) (sym (placed_by done replies.Done)) e.cause) e.room (replies_done call before done (λ d. refl)) e.told in
    record {
      sound = e.sound;
      events = e.events;
      geometry = e.geometry;
      session = e.session;
      leaf = e.leaf;
      merge = a.merge;
      early = a.early;
      notes = a.notes;
      cause = a.cause;
      room = a.room;
      replies = a.replies;
      told = a.told;
    }

pub returns-in-Flush : goal.returns-in-Flush
returns-in-Flush g c =
    let before : Session = seen g.S.Store.disk g.R.Recorder.noted g.R.Recorder.told c.args.self.now in
    let after : Session = seen g.S.Store.disk g.R.Recorder.noted g.R.Recorder.told c.flush-result.new.self in
    let e = c.flush-result.ensures in
    let done = c.flush-result.result in
    let a = call_answered c.args.who c.args.call.now calls.Flush before after done replies.Done c.answered-in-Flush.result (IsCounted c.args.self.now c.flush-result.new.self) c.in-Flush.is c.answered-in-Flush.ensures e.merge e.early e.notes
    (subst (HasCause calls.Flush before after) (sym (placed_by done replies.Done)) e.cause) e.room (replies_done calls.Flush before done (λ d. refl)) e.told in
    record {
      sound = e.sound;
      events = e.events;
      geometry = e.geometry;
      session = e.session;
      leaf = e.leaf;
      merge = a.merge;
      early = a.early;
      notes = a.notes;
      cause = a.cause;
      room = a.room;
      replies = a.replies;
      told = a.told;
    }
