use Rattle.std.proofs.Common.{ap, is_some, length, refl, subst, [], ◌∷◌, ◌++◌, ℕ, ◌+◌, ◌/◌, ◌∙◌, ◌≡◌, sym, ◌≤◌}
use Rattle.std.specs.Prelude.{Err, IfNone, None, OnOk, Result, option_map}
use Rattle.guest_model.specs.declared.refusal.ChainRefusal.TheVariants.{NoRoom}
use Rattle.guest_model.specs.declared.call.Call.{Call}
use Rattle.guest_model.specs.declared.call.Call.TheVariants as calls
use Rattle.layer_session.specs.declared.file.LayerFault.{LayerFault}
use Rattle.chain_core.specs.declared.layers.Layers.{Layers}
use Rattle.chain_core.specs.Answering.{answer_of, as_read, breaks}
use Rattle.std.specs.List.{AllByRecursion}
use Rattle.std.specs.Prelude.{List}
use Rattle.store_model.specs.Disk.{Disk}
use Rattle.read_plan.specs.Plans.{LiesIn}
use Rattle.read_plan.specs.declared.plan.Extent.{Extent}
use Rattle.read_plan.proofs.Among.{none_there}
use Rattle.sealed_layer.specs.Planned.{EndsBy, LieInStore, files_in}
use Rattle.chain_core.specs.Planned.{FindsPlanned}
use Rattle.chain_core.specs.Refusing.{IfRefused, refused}
use Rattle.chain_core.specs.Sessions.{IsCounted, Session, leaf_number, seen, AreReady}
use Rattle.chain_core.specs.States.{entry}
use Rattle.chain_core.proofs.Called.{declined, never_no_room, not_refused, read_caused, read_followed, read_session, read_whole, still_room}
use Rattle.vx_base.proofs.Handed.{not_ok, ok_then}
use Rattle.chain_core.proofs.Concluding.{answered}
use Rattle.chain_core.proofs.Copied.{noted_most, room_accepted}
use Rattle.chain_core.proofs.Looking.{looked, planned_before}
use Rattle.chain_core.proofs.Noting.{notes_so, refused_first, sound_looked}
use Rattle.chain_core.proofs.Accepted.{range_within}
use Rattle.chain_core.proofs.chain.Chain.read_plan.Goals as goal

pub returns-in_err-accept : goal.returns-in_err-accept
returns-in_err-accept g c =
    let before : Session = seen g.S.Store.disk g.R.Recorder.noted g.R.Recorder.told c.args.self.now in
    let after : Session = seen g.S.Store.disk g.R.Recorder.noted g.R.Recorder.told c.accept.new.self in
    let call : Call = calls.Read c.args.first (length c.args.out.now / c.args.self.now.layers.geometry.sector) in
    let e = c.accept.ensures in
    let f = c.in_err-accept.ensures in
    let x = c.in_err-accept.field-0.0 in
    let r = c.from_residual.result in
    let same = c.from_residual.ensures in
    let layers = ap (λ k. k.layers) e.only in
    let d = declined c.args.who call before after x r same c.requires.sound e.events f.err_noted f.err_told layers (ap (λ k. g.S.Store.disk k.store) e.only) (ap (λ k. k.broken) e.only) (subst (λ (n : ℕ). refused (calls.Read c.args.first (length c.args.out.now / n)) before ≡ None → x ≡ NoRoom) c.from.ensures f.room) (subst (λ (n : ℕ). refused (calls.Read c.args.first (length c.args.out.now / n)) before ≡ None → before.broken ≡ None) c.from.ensures e.healthy) in
    record {
      sound = d.sound;
      events = e.events;
      geometry = ap (λ (l : Layers). l.geometry) layers;
      session = ap (λ (l : Layers). is_some l.leaf) layers;
      leaf = ap leaf_number layers;
      merge = d.merge;
      early = refused_first call before x r (IsCounted c.args.self.now c.accept.new.self) same.1 (subst (λ (n : ℕ). IfRefused {T = Unit {0}} (calls.Read c.args.first (length c.args.out.now / n)) before (Err x) (IsCounted c.args.self.now c.accept.new.self)) c.from.ensures f.early);
      notes = d.notes;
      cause = d.read;
      free = λ takes none. f.free takes (still_room x r same.1 none);
      finds = not_ok r _ same.1 _;
      fit = subst (λ (p : List Extent). AllByRecursion (EndsBy (length c.args.out.now / c.args.self.now.layers.geometry.sector)) p) (sym c.clear.ensures) tt;
      lie = λ t told. subst (λ (p : List Extent). AllByRecursion (LiesIn c.args.self.now.layers.geometry.sector (files_in t)) p) (sym c.clear.ensures) tt;
      there = none_there c.args.readers.now c.clear.new.self c.clear.ensures;
      told = d.told;
    }

pub returns : goal.returns
returns g c =
    let before : Session = seen g.S.Store.disk g.R.Recorder.noted g.R.Recorder.told c.args.self.now in
    let after : Session = seen g.S.Store.disk g.R.Recorder.noted g.R.Recorder.told c.conclude.new.self in
    let count : ℕ = length c.args.out.now / c.args.self.now.layers.geometry.sector in
    let call : Call = calls.Read c.args.first count in
    let a = c.in_ok-accept.ensures in
    let p = c.plan.ensures in
    let e = c.conclude.ensures in
    let mid = c.accept.new.self in
    let done = c.unread-done.result in
    let found = c.plan.result in
    let r = c.conclude.result in
    let new = c.plan.new.self in
    let disk1 = g.S.Store.disk mid.store in
    let disk2 = g.S.Store.disk c.plan.new.store in
    let place = g.R.Recorder.noted mid.recorder in
    let fit = subst (λ (n : ℕ). refused (calls.Read c.args.first (length c.args.out.now / n)) before ≡ None) c.from.ensures a.fit in
    let layers_is = ap (λ k. k.layers) a.only in
    let disk_is = ap (λ k. g.S.Store.disk k.store) a.only in
    let layers_then = ap (λ k. k.layers) e.only in
    let disk_then = ap (λ k. g.S.Store.disk k.store) e.only in
    let events : after.events ≡ before.events + 1 = ap (λ k. k.events) e.only ∙ a.fits in
    let kept = ok_then done (λ e. ap (λ k. g.R.Recorder.noted k) e) e.kept in
    let answer = e.answer ∙ ap (answer_of place) c.unread-done.ensures in
    record {
      sound = sound_looked before after mid.layers new disk1 disk2 done c.requires.sound a.whole events (room_accepted call before after.events fit events) (noted_most done before.noted place after.noted a.noted kept e.noted) layers_is layers_then disk_then p.reads e.broken;
      events = ap (λ k. k.events) e.only ∙ c.accept.ensures.events;
      geometry = ap (λ (l : Layers). l.geometry) layers_then ∙ p.reads.geometry ∙ ap (λ (l : Layers). l.geometry) layers_is;
      session = ap (λ (l : Layers). is_some l.leaf) layers_then ∙ read_session mid.layers new p.reads.numbers ∙ ap (λ (l : Layers). is_some l.leaf) layers_is;
      leaf = ap leaf_number layers_then ∙ p.reads.leaf ∙ ap leaf_number layers_is;
      merge = read_followed call before after mid.layers new disk1 disk2 place r layers_is disk_is layers_then disk_then c.args.first count refl p.reads done e.answer;
      early = not_refused call before r (IsCounted c.args.self.now c.conclude.new.self) fit;
      notes = λ fit. notes_so (entry c.args.who call) before after place (g.R.Recorder.told mid.recorder) done r e.answer (subst (λ (n : ℕ). g.R.Recorder.told mid.recorder ≡ option_map (λ h. h ++ entry c.args.who (calls.Read c.args.first (length c.args.out.now / n)) ∷ []) before.told) c.from.ensures a.told) a.noted (ok_then done (λ e. ap (λ k. g.R.Recorder.told k) e) e.kept) kept e.told e.noted;
      cause = read_caused call before after mid.layers new disk1 disk2 place r layers_is disk_is layers_then disk_then found answer p.stays p.err
          (read_whole found mid.broken after.broken (subst (λ (d : Result (Unit {0}) LayerFault). IfNone (breaks d) (after.broken ≡ mid.broken)) c.unread-done.ensures e.fault) (ap (λ k. k.broken) a.only ∙ a.whole));
      free = λ takes none. never_no_room place done r e.answer none;
      finds = subst (λ (n : ℕ). OnOk r (FindsPlanned c.args.first (length c.args.out.now / n) c.plan.new.plan c.plan.new.out before.layers before.disk)) c.from.ensures
          (planned_before c.args.first (length c.args.out.now / c.from.result) place c.plan.new.plan c.plan.new.out before.layers mid.layers before.disk disk1 found r layers_is disk_is answer p.finds);
      fit = subst (λ (n : ℕ). AllByRecursion (EndsBy (length c.args.out.now / n)) c.plan.new.plan) c.from.ensures p.fit;
      lie = subst (λ (d : Disk). LieInStore c.args.self.now.layers.geometry.sector d c.plan.new.plan) disk_is (subst (λ (l : Layers). LieInStore l.geometry.sector disk1 c.plan.new.plan) layers_is p.lie);
      there = p.there;
      told = answered c.args.who call (before.noted + 1) place before.layers mid.layers new after.layers before.disk disk1 disk2 after.disk (as_read found) r layers_is disk_is layers_then disk_then answer
          (looked c.args.first count mid.layers new disk1 disk2 found p.reads (before.noted + 1));
    }

pub accept-requires : goal.accept-requires
accept-requires g c = c.requires.sound

pub plan-requires-clause-ready : goal.plan-requires-clause-ready
plan-requires-clause-ready g c = subst (λ k. AreReady k.layers (g.S.Store.disk k.store)) (sym c.in_ok-accept.ensures.only) (c.requires.sound.ready c.in_ok-accept.ensures.whole)

pub plan-requires-clause-on_disk : goal.plan-requires-clause-on_disk
plan-requires-clause-on_disk g c =
    let old : Layers = c.args.self.now.layers in
    subst (λ (l : Layers). c.args.first + length c.args.out.now / c.from.result ≤ l.geometry.sectors) (sym (ap (λ k. k.layers) c.in_ok-accept.ensures.only))
    (range_within c.args.first (length c.args.out.now / c.from.result) 2048 old.geometry.sectors c.in_ok-accept.ensures.range).0

pub plan-requires-clause-few : goal.plan-requires-clause-few
plan-requires-clause-few g c = (range_within c.args.first (length c.args.out.now / c.from.result) 2048 c.args.self.now.layers.geometry.sectors c.in_ok-accept.ensures.range).1
