use Rattle.std.proofs.Common.{Bool, ap, is_some, sym, subst, true, ◌+◌, ◌≡◌, ◌∙◌}
use Rattle.std.specs.Prelude.{IfNone, IfSome, None, Ok, Some, if◌then◌else◌}
use Rattle.guest_model.specs.declared.refusal.ChainRefusal.TheVariants.{NoMerge}
use Rattle.chain_core.specs.Answering.{as_change, breaks}
use Rattle.chain_core.specs.Copying.{no_merge, refused_by}
use Rattle.chain_core.specs.Refusing.{unfit}
use Rattle.chain_core.specs.Finished.{Finishes}
use Rattle.chain_core.specs.declared.layers.Layers.{Layers}
use Rattle.chain_core.specs.Finished.{FinishTold}
use Rattle.chain_core.specs.Sessions.{IsCounted, IsSound, Session, has_merge, kept_marks, seen, AreReady}
use Rattle.chain_core.proofs.Copied.{finish_rested, finish_told, judged_has, merging_low, room_counted, sound_counted, sound_finished, sound_refused}
use Rattle.chain_core.proofs.Called.{still_whole}
use Rattle.chain_core.proofs.Stopped.{finish_caused, judged_copied, never_first, not_stopped, stopped_first}
use Rattle.chain_core.proofs.chain.Chain.finish.Goals as goal

pub returns-in_err-judge_marks-clause-sound : goal.returns-in_err-judge_marks-clause-sound
returns-in_err-judge_marks-clause-sound g c =
    let mid : IsSound (seen g.S.Store.disk g.R.Recorder.noted g.R.Recorder.told c.admit.new.self) =
    subst (λ k. IsSound (seen g.S.Store.disk g.R.Recorder.noted g.R.Recorder.told k)) (sym c.admit.ensures.only)
    (sound_counted (seen g.S.Store.disk g.R.Recorder.noted g.R.Recorder.told c.args.self.now) c.admit.new.self.events c.in_ok-admit.ensures.fits
    (room_counted c.args.self.now.events c.admit.new.self.events c.args.self.now.broken c.in_ok-admit.ensures.ok c.in_ok-admit.ensures.fits) c.requires.sound) in
    mid

pub returns-in_err-judge_marks-clause-told : goal.returns-in_err-judge_marks-clause-told
returns-in_err-judge_marks-clause-told g c =
    finish_rested (seen g.S.Store.disk g.R.Recorder.noted g.R.Recorder.told c.args.self.now) (seen g.S.Store.disk g.R.Recorder.noted g.R.Recorder.told c.admit.new.self) c.from_residual-in_err-judge_marks.result
    c.from_residual-in_err-judge_marks.ensures.0 (ap (λ k. k.layers) c.admit.ensures.only) (ap (λ k. g.S.Store.disk k.store) c.admit.ensures.only)

pub finish-requires-clause-low : goal.finish-requires-clause-low
finish-requires-clause-low g c =
    let mid : IsSound (seen g.S.Store.disk g.R.Recorder.noted g.R.Recorder.told c.admit.new.self) =
    subst (λ k. IsSound (seen g.S.Store.disk g.R.Recorder.noted g.R.Recorder.told k)) (sym c.admit.ensures.only)
    (sound_counted (seen g.S.Store.disk g.R.Recorder.noted g.R.Recorder.told c.args.self.now) c.admit.new.self.events c.in_ok-admit.ensures.fits
    (room_counted c.args.self.now.events c.admit.new.self.events c.args.self.now.broken c.in_ok-admit.ensures.ok c.in_ok-admit.ensures.fits) c.requires.sound) in
    let merge : has_merge c.admit.new.self.layers ≡ true = judged_has c.admit.new.self.layers.merge c.admit.new.self.layers.retiring (Ok tt) c.in_ok-judge_marks.ensures in
    merging_low (seen g.S.Store.disk g.R.Recorder.noted g.R.Recorder.told c.admit.new.self) mid (ap (λ k. k.broken) c.admit.ensures.only ∙ c.in_ok-admit.ensures.whole) merge

pub returns-in_err-admit : goal.returns-in_err-admit
returns-in_err-admit g c =
    let before : Session = seen g.S.Store.disk g.R.Recorder.noted g.R.Recorder.told c.args.self.now in
    let after : Session = seen g.S.Store.disk g.R.Recorder.noted g.R.Recorder.told c.admit.new.self in
    let e = c.admit.ensures in
    let is = c.in_err-admit.ensures.err in
    let x = c.in_err-admit.field-0.0 in
    let r = c.from_residual.result in
    let same = c.from_residual.ensures in
    let layers = ap (λ k. k.layers) e.only in
    let disk = ap (λ k. g.S.Store.disk k.store) e.only in
    let cause = unfit before.events before.broken in
    let later = no_merge before.layers in
    record {
      sound = sound_refused before after c.requires.sound e.events (ap (λ k. g.R.Recorder.noted k.recorder) e.only) layers disk (ap (λ k. k.broken) e.only);
      events = e.events;
      geometry = ap (λ (l : Layers). l.geometry) layers;
      session = ap (λ (l : Layers). is_some l.leaf) layers;
      history = ap (λ k. k.recorder) e.only;
      early = stopped_first cause later x r _ is same.1 e.only;
      cause = λ fit. absurd (never_first cause later x is fit);
      told = finish_rested before after r same.0 layers disk;
    }

pub returns : goal.returns
returns g c =
    let before : Session = seen g.S.Store.disk g.R.Recorder.noted g.R.Recorder.told c.args.self.now in
    let after : Session = seen g.S.Store.disk g.R.Recorder.noted g.R.Recorder.told c.settle.new.self in
    let mid = c.admit.new.self in
    let a = c.admit.ensures in
    let f = c.in_ok-admit.ensures in
    let e = c.settle.ensures in
    let p = c.finish.ensures in
    let r = c.settle.result in
    let new = c.finish.new.self in
    let disk1 = g.S.Store.disk mid.store in
    let disk2 = g.S.Store.disk c.finish.new.store in
    let layers_is = ap (λ k. k.layers) a.only in
    let disk_is = ap (λ k. g.S.Store.disk k.store) a.only in
    let layers_then = ap (λ k. k.layers) e.only in
    let disk_then = ap (λ k. g.S.Store.disk k.store) e.only in
    let events : after.events ≡ before.events + 1 = ap (λ k. k.events) e.only ∙ f.fits in
    let noted : after.noted ≡ before.noted = ap (λ k. g.R.Recorder.noted k.recorder) e.only ∙ ap (λ k. g.R.Recorder.noted k.recorder) a.only in
    let done = c.finish.result in
    let judged = c.in_ok-judge_marks.ensures in
    let merge : has_merge mid.layers ≡ true = judged_has mid.layers.merge mid.layers.retiring (Ok tt) judged in
    let broken = subst (λ r. IfSome (breaks r) (λ fault. after.broken ≡ Some fault)) c.changed-done.ensures e.broken in
    record {
      sound = sound_finished before after mid.layers disk1 done c.requires.sound f.whole merge layers_is events (room_counted before.events after.events before.broken f.ok events) noted
          (subst (λ (k : Session). Finishes mid.layers k.layers disk1 k.disk done) (sym (ap (λ k. seen g.S.Store.disk g.R.Recorder.noted g.R.Recorder.told k) e.only)) p) broken;
      events = ap (λ k. k.events) e.only ∙ a.events;
      geometry = ap (λ (l : Layers). l.geometry) layers_then ∙ p.geometry ∙ ap (λ (l : Layers). l.geometry) layers_is;
      session = ap (λ (l : Layers). is_some l.leaf) layers_then ∙ p.session ∙ ap (λ (l : Layers). is_some l.leaf) layers_is;
      history = ap (λ k. k.recorder) e.only ∙ ap (λ k. k.recorder) a.only;
      early = not_stopped (unfit before.events before.broken) (no_merge before.layers) r _ f.ok (ap (λ (b : Bool). if b then None else Some NoMerge) (ap has_merge (sym layers_is) ∙ merge));
      cause = λ fit. finish_caused before after mid.layers new disk1 disk2 layers_is disk_is layers_then disk_then done r (IsCounted c.args.self.now c.settle.new.self) (e.answer ∙ ap refused_by c.changed-done.ensures) (judged_copied (kept_marks mid.layers) judged) p
          (still_whole (as_change done) mid.broken after.broken (subst (λ r. IfNone (breaks r) (after.broken ≡ mid.broken)) c.changed-done.ensures e.fault) (ap (λ k. k.broken) a.only ∙ f.whole)) broken;
      told = (
          let before : Session = seen g.S.Store.disk g.R.Recorder.noted g.R.Recorder.told c.args.self.now in
          let mid : Session = seen g.S.Store.disk g.R.Recorder.noted g.R.Recorder.told c.admit.new.self in
          let after : Session = record mid { layers = c.finish.new.self; disk = g.S.Store.disk c.finish.new.store; broken = c.settle.new.self.broken } in
          subst (λ k. FinishTold before (seen g.S.Store.disk g.R.Recorder.noted g.R.Recorder.told k) c.settle.result) (sym c.settle.ensures.only)
          (subst (λ r. FinishTold before after r) (sym (c.settle.ensures.answer ∙ ap refused_by c.changed-done.ensures))
          (finish_told before mid after c.finish.result (ap (λ k. k.layers) c.admit.ensures.only) (ap (λ k. g.S.Store.disk k.store) c.admit.ensures.only) c.finish.ensures))
          );
    }

pub finish-requires-clause-ready : goal.finish-requires-clause-ready
finish-requires-clause-ready g c = subst (λ k. AreReady k.layers (g.S.Store.disk k.store)) (sym c.admit.ensures.only) (c.requires.sound.ready c.in_ok-admit.ensures.whole)

pub finish-requires-clause-merge : goal.finish-requires-clause-merge
finish-requires-clause-merge g c = judged_has c.admit.new.self.layers.merge c.admit.new.self.layers.retiring (Ok tt) c.in_ok-judge_marks.ensures

pub finish-requires-clause-copied : goal.finish-requires-clause-copied
finish-requires-clause-copied g c = judged_copied (kept_marks c.admit.new.self.layers) c.in_ok-judge_marks.ensures
