use Rattle.std.proofs.Common.{ap, is_some, refl, rules, subst, ℕ, ◌+◌, ◌∙◌, ◌≡◌, sym, ◌≤◌}
use Rattle.std.specs.Prelude.{IfNone, Result}
use Rattle.std.proofs.lemmas.List.{places, with_items_is}
use Rattle.std.specs.Vec.{with_items}
use Rattle.guest_model.specs.declared.call.Call.{Call}
use Rattle.guest_model.specs.declared.call.Call.TheVariants as calls
use Rattle.layer_session.specs.declared.file.LayerFault.{LayerFault}
use Rattle.chain_core.specs.declared.layers.Layers.{Layers}
use Rattle.chain_core.specs.Answering.{answer_of, as_read, breaks}
use Rattle.chain_core.specs.Sessions.{IsCounted, Session, leaf_number, seen, AreReady}
use Rattle.chain_core.specs.States.{entry}
use Rattle.chain_core.proofs.Called.{declined, not_refused, out_of_memory, read_caused, read_followed, read_session, read_whole}
use Rattle.vx_base.proofs.Handed.{not_ok, ok_then}
use Rattle.chain_core.proofs.Concluding.{answered}
use Rattle.chain_core.proofs.Copied.{noted_most, room_accepted}
use Rattle.chain_core.proofs.Looking.{found_before, looked}
use Rattle.chain_core.proofs.Noting.{back, count_back, notes_so, refused_first, sound_looked}
use Rattle.chain_core.proofs.Accepted.{range_within}
use Rattle.chain_core.proofs.chain.Chain.read_count.Goals as goal

pub returns-in_err-accept : goal.returns-in_err-accept
returns-in_err-accept g c =
    let before : Session = seen g.S.Store.disk g.R.Recorder.noted g.R.Recorder.told c.args.self.now in
    let after : Session = seen g.S.Store.disk g.R.Recorder.noted g.R.Recorder.told c.accept.new.self in
    let call : Call = calls.Read c.args.first c.args.count in
    let e = c.accept.ensures in
    let f = c.in_err-accept.ensures in
    let x = c.in_err-accept.field-0.0 in
    let r = c.from_residual.result in
    let same = c.from_residual.ensures in
    let layers = ap (λ k. k.layers) e.only in
    let d = declined c.args.who call before after x r same c.requires.sound e.events f.err_noted f.err_told layers (ap (λ k. g.S.Store.disk k.store) e.only) (ap (λ k. k.broken) e.only) f.room e.healthy in
    record {
      sound = d.sound;
      events = e.events;
      geometry = ap (λ (l : Layers). l.geometry) layers;
      session = ap (λ (l : Layers). is_some l.leaf) layers;
      leaf = ap leaf_number layers;
      merge = d.merge;
      early = refused_first call before x r (IsCounted c.args.self.now c.accept.new.self) same.1 f.early;
      notes = d.notes;
      cause = d.read;
      finds = not_ok r _ same.1 _;
      told = d.told;
    }

pub returns-in-Err : goal.returns-in-Err
returns-in-Err g c =
    let before : Session = seen g.S.Store.disk g.R.Recorder.noted g.R.Recorder.told c.args.self.now in
    let after : Session = record (seen g.S.Store.disk g.R.Recorder.noted g.R.Recorder.told c.accept.new.self) { noted = g.R.Recorder.noted c.drop_last.new.self; told = g.R.Recorder.told c.drop_last.new.self } in
    let call : Call = calls.Read c.args.first c.args.count in
    let a = c.in_ok-accept.ensures in
    let layers = ap (λ k. k.layers) a.only in
    let d = out_of_memory c.args.who call before after c.requires.sound c.accept.ensures.events (count_back before.noted (g.R.Recorder.noted c.accept.new.self.recorder) after.noted a.noted c.drop_last.ensures.count)
    (back (entry c.args.who call) before.told (g.R.Recorder.told c.accept.new.self.recorder) after.told a.told c.drop_last.ensures.told) layers (ap (λ k. g.S.Store.disk k.store) a.only) (ap (λ k. k.broken) a.only) a.whole in
    record {
      sound = d.sound;
      events = c.accept.ensures.events;
      geometry = ap (λ (l : Layers). l.geometry) layers;
      session = ap (λ (l : Layers). is_some l.leaf) layers;
      leaf = ap leaf_number layers;
      merge = d.merge;
      early = not_refused call before _ _ a.fit;
      notes = d.notes;
      cause = d.read;
      finds = tt;
      told = d.told;
    }

pub returns : goal.returns
returns g c =
    let before : Session = seen g.S.Store.disk g.R.Recorder.noted g.R.Recorder.told c.args.self.now in
    let after : Session = seen g.S.Store.disk g.R.Recorder.noted g.R.Recorder.told c.conclude.new.self in
    let count : ℕ = c.args.count in
    let call : Call = calls.Read c.args.first count in
    let a = c.in_ok-accept.ensures in
    let p = c.find.ensures in
    let e = c.conclude.ensures in
    let mid = c.accept.new.self in
    let done = c.unread-done.result in
    let found = c.find.result in
    let r = c.conclude.result in
    let new = c.find.new.self in
    let disk1 = g.S.Store.disk mid.store in
    let disk2 = g.S.Store.disk c.find.new.store in
    let place = g.R.Recorder.noted mid.recorder in
    let fit = a.fit in
    let layers_is = ap (λ k. k.layers) a.only in
    let disk_is = ap (λ k. g.S.Store.disk k.store) a.only in
    let layers_then = ap (λ k. k.layers) e.only in
    let disk_then = ap (λ k. g.S.Store.disk k.store) e.only in
    let events : after.events ≡ before.events + 1 = ap (λ k. k.events) e.only ∙ a.fits in
    let kept = ok_then done (λ e. ap (λ k. g.R.Recorder.noted k) e) e.kept in
    let answer = e.answer ∙ ap (answer_of place) c.unread-done.ensures in
    record {
      sound = sound_looked before after mid.layers new disk1 disk2 done c.requires.sound a.whole events (room_accepted call before after.events fit events) (noted_most done before.noted place after.noted a.noted kept e.noted) layers_is layers_then disk_then p.reads e.broken;
      events = ap (λ k. k.events) e.only ∙ c.accept.ensures.events;
      geometry = ap (λ (l : Layers). l.geometry) layers_then ∙ p.reads.geometry ∙ ap (λ (l : Layers). l.geometry) layers_is;
      session = ap (λ (l : Layers). is_some l.leaf) layers_then ∙ read_session mid.layers new p.reads.numbers ∙ ap (λ (l : Layers). is_some l.leaf) layers_is;
      leaf = ap leaf_number layers_then ∙ p.reads.leaf ∙ ap leaf_number layers_is;
      merge = read_followed call before after mid.layers new disk1 disk2 place r layers_is disk_is layers_then disk_then c.args.first count refl p.reads done e.answer;
      early = not_refused call before r (IsCounted c.args.self.now c.conclude.new.self) fit;
      notes = λ fit. notes_so (entry c.args.who call) before after place (g.R.Recorder.told mid.recorder) done r e.answer a.told a.noted (ok_then done (λ e. ap (λ k. g.R.Recorder.told k) e) e.kept) kept e.told e.noted;
      cause = read_caused call before after mid.layers new disk1 disk2 place r layers_is disk_is layers_then disk_then found answer p.stays p.err
          (read_whole found mid.broken after.broken (subst (λ (d : Result (Unit {0}) LayerFault). IfNone (breaks d) (after.broken ≡ mid.broken)) c.unread-done.ensures e.fault) (ap (λ k. k.broken) a.only ∙ a.whole));
      finds = found_before c.args.first count place c.find.new.out (with_items c.in-Ok.bytes c.find.new.out).items before.layers mid.layers before.disk disk1 found r (with_items_is c.in-Ok.bytes c.find.new.out (search (rules, places))) layers_is disk_is answer p.finds;
      told = answered c.args.who call (before.noted + 1) place before.layers mid.layers new after.layers before.disk disk1 disk2 after.disk (as_read found) r layers_is disk_is layers_then disk_then answer
          (looked c.args.first count mid.layers new disk1 disk2 found p.reads (before.noted + 1));
    }

pub accept-requires : goal.accept-requires
accept-requires g c = c.requires.sound

pub find-requires-clause-ready : goal.find-requires-clause-ready
find-requires-clause-ready g c = subst (λ k. AreReady k.layers (g.S.Store.disk k.store)) (sym c.in_ok-accept.ensures.only) (c.requires.sound.ready c.in_ok-accept.ensures.whole)

pub find-requires-clause-on_disk : goal.find-requires-clause-on_disk
find-requires-clause-on_disk g c =
    let old : Layers = c.args.self.now.layers in
    subst (λ (l : Layers). c.args.first + c.args.count ≤ l.geometry.sectors) (sym (ap (λ k. k.layers) c.in_ok-accept.ensures.only))
    (range_within c.args.first c.args.count 2048 old.geometry.sectors c.in_ok-accept.ensures.range).0

pub find-requires-clause-few : goal.find-requires-clause-few
find-requires-clause-few g c = (range_within c.args.first c.args.count 2048 c.args.self.now.layers.geometry.sectors c.in_ok-accept.ensures.range).1
