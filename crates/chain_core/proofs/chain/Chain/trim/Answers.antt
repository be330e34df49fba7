use Rattle.std.proofs.Common.{ap, is_some, not, refl, subst, sym, ℕ, ◌+◌, ◌^◌, ◌∙◌, ◌≡◌, ◌≤◌}
use Rattle.vx_base.proofs.Handed.{ok_then}
use Rattle.guest_model.specs.declared.call.Call.{Call}
use Rattle.guest_model.specs.declared.call.Call.TheVariants as calls
use Rattle.layer_session.specs.declared.file.Layer.{Layer}
use Rattle.chain_core.specs.declared.layers.Layers.{Layers}
use Rattle.chain_core.specs.Answering.{LayerTold, UnlessBroken}
use Rattle.chain_core.specs.Copying.{LayerFollows}
use Rattle.chain_core.specs.Sessions.{AreReady, IsCounted, IsLow, Session, has_merge, leaf_number, seen}
use Rattle.chain_core.specs.States.{entry}
use Rattle.chain_core.proofs.Called.{caused, declined, followed, never_no_room, not_refused, still_room, still_whole}
use Rattle.chain_core.proofs.Concluding.{answered, room_told}
use Rattle.chain_core.proofs.Copied.{always, follows_has, noted_most, room_accepted, sound_behind, sound_low}
use Rattle.chain_core.proofs.Noting.{notes_so, refused_first}
use Rattle.chain_core.proofs.Accepted.{range_within}
use Rattle.chain_core.proofs.chain.Chain.trim.Goals as goal

pub returns-in_err-accept : goal.returns-in_err-accept
returns-in_err-accept g c =
    let before : Session = seen g.S.Store.disk g.R.Recorder.noted g.R.Recorder.told c.args.self.now in
    let after : Session = seen g.S.Store.disk g.R.Recorder.noted g.R.Recorder.told c.accept.new.self in
    let call : Call = calls.Trim c.args.first c.args.count in
    let e = c.accept.ensures in
    let f = c.in_err-accept.ensures in
    let x = c.in_err-accept.field-0.0 in
    let r = c.from_residual.result in
    let same = c.from_residual.ensures in
    let layers = ap (λ k. k.layers) e.only in
    let d = declined c.args.who call before after x r same c.requires.sound e.events f.err_noted f.err_told layers (ap (λ k. g.S.Store.disk k.store) e.only) (ap (λ k. k.broken) e.only) f.room e.healthy in
    record {
      sound = d.sound;
      events = e.events;
      geometry = ap (λ (l : Layers). l.geometry) layers;
      session = ap (λ (l : Layers). is_some l.leaf) layers;
      leaf = ap leaf_number layers;
      merge = d.merge;
      early = refused_first call before x r (IsCounted c.args.self.now c.accept.new.self) same.1 f.early;
      notes = d.notes;
      cause = d.cause;
      free = λ takes none. f.free takes (still_room x r same.1 none);
      room = d.room;
      told = d.told;
    }

pub zero-done-requires-clause-low : goal.zero-done-requires-clause-low
zero-done-requires-clause-low g c =
    let before : Session = seen g.S.Store.disk g.R.Recorder.noted g.R.Recorder.told c.args.self.now in
    subst (λ (l : Layers). IsLow (2 ^ 63 + 4) l) (sym (ap (λ k. k.layers) c.in_ok-accept.ensures.only)) (sound_low before c.requires.sound c.in_ok-accept.ensures.whole)

pub returns : goal.returns
returns g c =
    let before : Session = seen g.S.Store.disk g.R.Recorder.noted g.R.Recorder.told c.args.self.now in
    let after : Session = seen g.S.Store.disk g.R.Recorder.noted g.R.Recorder.told c.conclude.new.self in
    let call : Call = calls.Trim c.args.first c.args.count in
    let a = c.in_ok-accept.ensures in
    let p = c.zero-done.ensures in
    let e = c.conclude.ensures in
    let mid = c.accept.new.self in
    let done = c.zero-done.result in
    let r = c.conclude.result in
    let new = c.zero-done.new.self in
    let disk1 = g.S.Store.disk mid.store in
    let disk2 = g.S.Store.disk c.zero-done.new.store in
    let place = g.R.Recorder.noted mid.recorder in
    let layers_is = ap (λ k. k.layers) a.only in
    let disk_is = ap (λ k. g.S.Store.disk k.store) a.only in
    let layers_then = ap (λ k. k.layers) e.only in
    let disk_then = ap (λ k. g.S.Store.disk k.store) e.only in
    let follows : LayerFollows place call mid.layers new done = subst (λ (n : ℕ). LayerFollows n call mid.layers new done) c.len.ensures p.merge in
    let events : after.events ≡ before.events + 1 = ap (λ k. k.events) e.only ∙ a.fits in
    let kept = ok_then done (λ e. ap (λ k. g.R.Recorder.noted k) e) e.kept in
    let geometry = ap (λ (l : Layers). l.geometry) layers_then ∙ p.geometry ∙ ap (λ (l : Layers). l.geometry) layers_is in
    record {
      sound = sound_behind before after done c.requires.sound a.whole events (room_accepted call before after.events a.fit events) (noted_most done before.noted place after.noted a.noted kept e.noted)
          geometry (ap has_merge layers_then ∙ follows_has place call mid.layers new done follows ∙ ap has_merge layers_is)
          (subst (λ (k : Session). UnlessBroken done (AreReady k.layers k.disk)) (sym (ap (λ k. seen g.S.Store.disk g.R.Recorder.noted g.R.Recorder.told k) e.only)) p.ready)
          (subst (λ (l : Layers). UnlessBroken done ((most : ℕ) → IsLow most l → IsLow (most + 1) after.layers)) layers_is
          (subst (λ (l : Layers). UnlessBroken done ((most : ℕ) → IsLow most mid.layers → IsLow (most + 1) l)) (sym layers_then) (always done ((most : ℕ) → IsLow most mid.layers → IsLow (most + 1) new) p.low))) e.broken;
      events = ap (λ k. k.events) e.only ∙ c.accept.ensures.events;
      geometry = geometry;
      session = ap (λ (l : Layers). is_some l.leaf) layers_then ∙ p.session ∙ sym (a.session refl);
      leaf = ap leaf_number layers_then ∙ p.leaf ∙ ap leaf_number layers_is;
      merge = followed call before after mid.layers new disk1 disk2 place r layers_is disk_is layers_then disk_then done e.answer follows;
      early = not_refused call before r (IsCounted c.args.self.now c.conclude.new.self) a.fit;
      notes = λ fit. notes_so (entry c.args.who call) before after place (g.R.Recorder.told mid.recorder) done r e.answer a.told a.noted (ok_then done (λ e. ap (λ k. g.R.Recorder.told k) e) e.kept) kept e.told e.noted;
      cause = caused call before after mid.layers new disk1 disk2 place r layers_is disk_is layers_then disk_then done e.answer p.counts p.err (still_whole done mid.broken after.broken e.fault (ap (λ k. k.broken) a.only ∙ a.whole)) e.broken;
      free = λ takes none. never_no_room place done r e.answer none;
      room = λ fit. room_told (λ (leaf : Layer). not leaf.leave) c.args.first c.args.count c.args.count place before.layers mid.layers before.disk disk1 done r refl layers_is disk_is e.answer p.room;
      told = answered c.args.who call (before.noted + 1) place before.layers mid.layers new after.layers before.disk disk1 disk2 after.disk done r layers_is disk_is layers_then disk_then e.answer
          (subst (λ (n : ℕ). LayerTold n call mid.layers new disk1 disk2 done) (c.len.ensures ∙ a.noted) p.told);
    }

pub accept-requires : goal.accept-requires
accept-requires g c = c.requires.sound

pub zero-done-requires-clause-session : goal.zero-done-requires-clause-session
zero-done-requires-clause-session g c = ap (λ k. is_some k.layers.leaf) c.in_ok-accept.ensures.only ∙ c.in_ok-accept.ensures.session refl

pub zero-done-requires-clause-ready : goal.zero-done-requires-clause-ready
zero-done-requires-clause-ready g c = subst (λ k. AreReady k.layers (g.S.Store.disk k.store)) (sym c.in_ok-accept.ensures.only) (c.requires.sound.ready c.in_ok-accept.ensures.whole)

pub zero-done-requires-clause-on_disk : goal.zero-done-requires-clause-on_disk
zero-done-requires-clause-on_disk g c =
    let old : Layers = c.args.self.now.layers in
    subst (λ (l : Layers). c.args.first + c.args.count ≤ l.geometry.sectors) (sym (ap (λ k. k.layers) c.in_ok-accept.ensures.only))
    (range_within c.args.first c.args.count 524288 old.geometry.sectors c.in_ok-accept.ensures.range).0

pub zero-done-requires-clause-few : goal.zero-done-requires-clause-few
zero-done-requires-clause-few g c = (range_within c.args.first c.args.count 524288 c.args.self.now.layers.geometry.sectors c.in_ok-accept.ensures.range).1
