use Rattle.std.proofs.Common.{ap, is_some, sym, subst, ℕ, ◌+◌, ◌≡◌, ◌∙◌}
use Rattle.chain_core.specs.Answering.{UnlessBroken}
use Rattle.chain_core.specs.Sessions.{AreReady, IsLow, IsSound, Session, has_merge, leaf_number, seen}
use Rattle.chain_core.specs.declared.layers.Layers.{Layers}
use Rattle.chain_core.specs.Copying.{PieceTold, TargetRoomIs, no_piece}
use Rattle.chain_core.specs.Refusing.{unfit}
use Rattle.chain_core.proofs.Copied.{always, marked_slack, merging_low, piece_merge, piece_told, put_stopped, room_counted, room_told, sound_behind, sound_counted, sound_refused}
use Rattle.chain_core.proofs.Called.{still_whole}
use Rattle.chain_core.proofs.Stopped.{never_first, never_second, not_stopped, put_caused, stopped_first, stopped_second}
use Rattle.chain_core.proofs.Numbers.{same_up}
use Rattle.chain_core.proofs.chain.Chain.put.Goals as goal

pub put_piece-done-requires-clause-low : goal.put_piece-done-requires-clause-low
put_piece-done-requires-clause-low g c =
    let mid : IsSound (seen g.S.Store.disk g.R.Recorder.noted g.R.Recorder.told c.admit.new.self) =
    subst (λ k. IsSound (seen g.S.Store.disk g.R.Recorder.noted g.R.Recorder.told k)) (sym c.admit.ensures.only)
    (sound_counted (seen g.S.Store.disk g.R.Recorder.noted g.R.Recorder.told c.args.self.now) c.admit.new.self.events c.in_ok-admit.ensures.fits
    (room_counted c.args.self.now.events c.admit.new.self.events c.args.self.now.broken c.in_ok-admit.ensures.ok c.in_ok-admit.ensures.fits) c.requires.sound) in
    merging_low (seen g.S.Store.disk g.R.Recorder.noted g.R.Recorder.told c.admit.new.self) mid (ap (λ k. k.broken) c.admit.ensures.only ∙ c.in_ok-admit.ensures.whole) (piece_merge c.args.piece.now c.admit.new.self.layers c.in_ok-judge_piece.ensures.ok)

pub put_piece-done-requires-clause-fits : goal.put_piece-done-requires-clause-fits
put_piece-done-requires-clause-fits g c = λ parts sector sectors. c.requires.fits parts (sector ∙ ap (λ k. k.layers.geometry.sector) c.admit.ensures.only) (sectors ∙ ap (λ k. k.layers.geometry.sectors) c.admit.ensures.only)

pub returns-in_err-admit : goal.returns-in_err-admit
returns-in_err-admit g c =
    let before : Session = seen g.S.Store.disk g.R.Recorder.noted g.R.Recorder.told c.args.self.now in
    let after : Session = seen g.S.Store.disk g.R.Recorder.noted g.R.Recorder.told c.admit.new.self in
    let e = c.admit.ensures in
    let is = c.in_err-admit.ensures.err in
    let x = c.in_err-admit.field-0.0 in
    let r = c.from_residual.result in
    let same = c.from_residual.ensures in
    let layers = ap (λ k. k.layers) e.only in
    let disk = ap (λ k. g.S.Store.disk k.store) e.only in
    let cause = unfit before.events before.broken in
    let later = no_piece c.args.piece.now before.layers in
    record {
      sound = sound_refused before after c.requires.sound e.events (ap (λ k. g.R.Recorder.noted k.recorder) e.only) layers disk (ap (λ k. k.broken) e.only);
      events = e.events;
      geometry = ap (λ (l : Layers). l.geometry) layers;
      session = ap (λ (l : Layers). is_some l.leaf) layers;
      history = ap (λ k. k.recorder) e.only;
      early = stopped_first cause later x r _ is same.1 e.only;
      cause = λ fit. absurd (never_first cause later x is fit);
      leaf = ap leaf_number layers;
      room = λ fit. absurd (never_first cause later x is fit);
      told = put_stopped before.layers after.layers before.disk after.disk layers disk c.args.piece.now r same.0;
    }

pub returns-in_err-judge_piece : goal.returns-in_err-judge_piece
returns-in_err-judge_piece g c =
    let before : Session = seen g.S.Store.disk g.R.Recorder.noted g.R.Recorder.told c.args.self.now in
    let e = c.admit.ensures in
    let f = c.in_ok-admit.ensures in
    let x = c.in_err-judge_piece.field-0.0 in
    let r = c.from_residual-in_err-judge_piece.result in
    let same = c.from_residual-in_err-judge_piece.ensures in
    let layers = ap (λ k. k.layers) e.only in
    let disk = ap (λ k. g.S.Store.disk k.store) e.only in
    let cause = unfit before.events before.broken in
    let later = no_piece c.args.piece.now before.layers in
    let is = ap (λ (l : Layers). no_piece c.args.piece.now l) (sym layers) ∙ c.in_err-judge_piece.ensures.err in
    record {
      sound = subst (λ k. IsSound (seen g.S.Store.disk g.R.Recorder.noted g.R.Recorder.told k)) (sym e.only) (sound_counted before c.admit.new.self.events f.fits (room_counted before.events c.admit.new.self.events before.broken f.ok f.fits) c.requires.sound);
      events = e.events;
      geometry = ap (λ (l : Layers). l.geometry) layers;
      session = ap (λ (l : Layers). is_some l.leaf) layers;
      history = ap (λ k. k.recorder) e.only;
      early = stopped_second cause later x r _ f.ok is same.1 e.only;
      cause = λ fit. absurd (never_second cause later x f.ok is fit);
      leaf = ap leaf_number layers;
      room = λ fit. absurd (never_second cause later x f.ok is fit);
      told = put_stopped before.layers c.admit.new.self.layers before.disk (g.S.Store.disk c.admit.new.self.store) layers disk c.args.piece.now r same.0;
    }

pub returns : goal.returns
returns g c =
    let before : Session = seen g.S.Store.disk g.R.Recorder.noted g.R.Recorder.told c.args.self.now in
    let after : Session = seen g.S.Store.disk g.R.Recorder.noted g.R.Recorder.told c.settle.new.self in
    let mid = c.admit.new.self in
    let a = c.admit.ensures in
    let f = c.in_ok-admit.ensures in
    let e = c.settle.ensures in
    let p = c.put_piece-done.ensures in
    let r = c.settle.result in
    let new = c.put_piece-done.new.self in
    let disk1 = g.S.Store.disk mid.store in
    let disk2 = g.S.Store.disk c.put_piece-done.new.store in
    let layers_is = ap (λ k. k.layers) a.only in
    let disk_is = ap (λ k. g.S.Store.disk k.store) a.only in
    let layers_then = ap (λ k. k.layers) e.only in
    let disk_then = ap (λ k. g.S.Store.disk k.store) e.only in
    let events : after.events ≡ before.events + 1 = ap (λ k. k.events) e.only ∙ f.fits in
    let noted : after.noted ≡ before.noted = ap (λ k. g.R.Recorder.noted k.recorder) e.only ∙ ap (λ k. g.R.Recorder.noted k.recorder) a.only in
    let done = c.put_piece-done.result in
    let piece = c.args.piece.now in
    record {
      sound = sound_behind before after done c.requires.sound f.whole events (room_counted before.events after.events before.broken f.ok events) (same_up after.noted before.noted noted)
          (ap (λ (l : Layers). l.geometry) layers_then ∙ p.geometry ∙ ap (λ (l : Layers). l.geometry) layers_is) (ap has_merge layers_then ∙ marked_slack piece.stripe mid.layers new done p.marked ∙ ap has_merge layers_is)
          (subst (λ (k : Session). UnlessBroken done (AreReady k.layers k.disk)) (sym (ap (λ k. seen g.S.Store.disk g.R.Recorder.noted g.R.Recorder.told k) e.only)) p.ready)
          (subst (λ (l : Layers). UnlessBroken done ((most : ℕ) → IsLow most l → IsLow (most + 1) after.layers)) layers_is
          (subst (λ (l : Layers). UnlessBroken done ((most : ℕ) → IsLow most mid.layers → IsLow (most + 1) l)) (sym layers_then) (always done ((most : ℕ) → IsLow most mid.layers → IsLow (most + 1) new) p.low))) e.broken;
      events = ap (λ k. k.events) e.only ∙ a.events;
      geometry = ap (λ (l : Layers). l.geometry) layers_then ∙ p.geometry ∙ ap (λ (l : Layers). l.geometry) layers_is;
      session = ap (λ (l : Layers). is_some l.leaf) layers_then ∙ p.session ∙ ap (λ (l : Layers). is_some l.leaf) layers_is;
      history = ap (λ k. k.recorder) e.only ∙ ap (λ k. k.recorder) a.only;
      early = not_stopped (unfit before.events before.broken) (no_piece piece before.layers) r _ f.ok (ap (λ (l : Layers). no_piece piece l) (sym layers_is) ∙ c.in_ok-judge_piece.ensures.ok);
      cause = λ fit. put_caused before after mid.layers new disk1 disk2 layers_is disk_is layers_then disk_then piece done r e.answer p (still_whole done mid.broken after.broken e.fault (ap (λ k. k.broken) a.only ∙ f.whole)) e.broken;
      leaf = ap leaf_number layers_then ∙ p.leaf ∙ ap leaf_number layers_is;
      room = λ fit. subst (λ r. TargetRoomIs piece before.layers before.disk r) (sym e.answer) (room_told before.layers mid.layers new before.disk disk1 disk2 layers_is disk_is piece done p.room);
      told = (
          let before = seen g.S.Store.disk g.R.Recorder.noted g.R.Recorder.told c.args.self.now in
          subst (λ k. PieceTold c.args.piece.now before (seen g.S.Store.disk g.R.Recorder.noted g.R.Recorder.told k) c.settle.result) (sym c.settle.ensures.only)
          (subst (λ r. PieceTold c.args.piece.now before (record (seen g.S.Store.disk g.R.Recorder.noted g.R.Recorder.told c.admit.new.self) { layers = c.put_piece-done.new.self; disk = g.S.Store.disk c.put_piece-done.new.store; broken = c.settle.new.self.broken }) r) (sym c.settle.ensures.answer)
          (piece_told c.args.self.now.layers c.admit.new.self.layers c.put_piece-done.new.self (g.S.Store.disk c.args.self.now.store) (g.S.Store.disk c.admit.new.self.store) (g.S.Store.disk c.put_piece-done.new.store)
          (ap (λ k. k.layers) c.admit.ensures.only) (ap (λ k. g.S.Store.disk k.store) c.admit.ensures.only) c.args.piece.now c.put_piece-done.result c.put_piece-done.ensures.told))
          );
    }

pub put_piece-done-requires-clause-ready : goal.put_piece-done-requires-clause-ready
put_piece-done-requires-clause-ready g c = subst (λ k. AreReady k.layers (g.S.Store.disk k.store)) (sym c.admit.ensures.only) (c.requires.sound.ready c.in_ok-admit.ensures.whole)

pub put_piece-done-requires-clause-merge : goal.put_piece-done-requires-clause-merge
put_piece-done-requires-clause-merge g c = piece_merge c.args.piece.now c.admit.new.self.layers c.in_ok-judge_piece.ensures.ok
