use Rattle.std.proofs.Common.{refl, ap, is_some, sym, subst, ◌∙◌}
use Rattle.chain_core.specs.Copying.{no_stripe, source_number, stamp_of}
use Rattle.chain_core.specs.Refusing.{unfit}
use Rattle.chain_core.specs.Sessions.{AreReady, IsSound, seen, Session, leaf_number}
use Rattle.chain_core.specs.declared.layers.Layers.{Layers}
use Rattle.layer_session.specs.ReadOnly.{SomeReadFailed}
use Rattle.guest_model.specs.declared.refusal.ChainRefusal.TheVariants.{ReadFault}
use Rattle.chain_core.proofs.Copied.{fetch_stopped, fetched, room_counted, sound_counted, sound_read, unfetched, sound_refused}
use Rattle.chain_core.proofs.Called.{read_session}
use Rattle.vx_base.proofs.Handed.{not_ok}
use Rattle.chain_core.proofs.Stopped.{never_first, never_second, not_stopped, stopped_first, stopped_second}
use Rattle.chain_core.proofs.MergeSpots.{stripe_merge, stripe_there}
use Rattle.chain_core.proofs.chain.Chain.fetch_live.Goals as goal

pub returns-in-Ok-clause-sound : goal.returns-in-Ok-clause-sound
returns-in-Ok-clause-sound g c =
    let mid : IsSound (seen g.S.Store.disk g.R.Recorder.noted g.R.Recorder.told c.admit.new.self) =
    subst (λ k. IsSound (seen g.S.Store.disk g.R.Recorder.noted g.R.Recorder.told k)) (sym c.admit.ensures.only)
    (sound_counted (seen g.S.Store.disk g.R.Recorder.noted g.R.Recorder.told c.args.self.now) c.admit.new.self.events c.in_ok-admit.ensures.fits
    (room_counted c.args.self.now.events c.admit.new.self.events c.args.self.now.broken c.in_ok-admit.ensures.ok c.in_ok-admit.ensures.fits) c.requires.sound) in
    sound_read (seen g.S.Store.disk g.R.Recorder.noted g.R.Recorder.told c.admit.new.self) _ mid (ap (λ k. k.broken) c.admit.ensures.only ∙ c.in_ok-admit.ensures.whole) c.take.ensures.reads refl refl

pub returns-in-Ok-clause-taken : goal.returns-in-Ok-clause-taken
returns-in-Ok-clause-taken g c =
    record {
      filled = c.in-Ok.ensures.filled;
      stripe_is = c.take.ensures.stripe_is;
      stamp_is = c.take.ensures.stamp_is ∙ ap (λ k. stamp_of k.layers c.args.stripe) c.admit.ensures.only;
      fits = λ parts sector sectors. c.take.ensures.fits parts (sector ∙ sym (ap (λ k. k.layers.geometry.sector) c.admit.ensures.only)) (sectors ∙ sym (ap (λ k. k.layers.geometry.sectors) c.admit.ensures.only));
    }

pub returns-in-Ok-clause-told : goal.returns-in-Ok-clause-told
returns-in-Ok-clause-told g c =
    fetched c.args.self.now.layers c.admit.new.self.layers c.take.new.self (g.S.Store.disk c.args.self.now.store) (g.S.Store.disk c.admit.new.self.store) (g.S.Store.disk c.take.new.store) (ap (λ k. k.layers) c.admit.ensures.only) (ap (λ k. g.S.Store.disk k.store) c.admit.ensures.only) c.take.new.piece c.stamp.result c.take.ensures.reads c.in-Ok.ensures.taken

pub returns-in-Err-clause-sound : goal.returns-in-Err-clause-sound
returns-in-Err-clause-sound g c =
    let mid : IsSound (seen g.S.Store.disk g.R.Recorder.noted g.R.Recorder.told c.admit.new.self) =
    subst (λ k. IsSound (seen g.S.Store.disk g.R.Recorder.noted g.R.Recorder.told k)) (sym c.admit.ensures.only)
    (sound_counted (seen g.S.Store.disk g.R.Recorder.noted g.R.Recorder.told c.args.self.now) c.admit.new.self.events c.in_ok-admit.ensures.fits
    (room_counted c.args.self.now.events c.admit.new.self.events c.args.self.now.broken c.in_ok-admit.ensures.ok c.in_ok-admit.ensures.fits) c.requires.sound) in
    sound_read (seen g.S.Store.disk g.R.Recorder.noted g.R.Recorder.told c.admit.new.self) _ mid (ap (λ k. k.broken) c.admit.ensures.only ∙ c.in_ok-admit.ensures.whole) c.take.ensures.reads refl refl

pub returns-in-Err-clause-cause : goal.returns-in-Err-clause-cause
returns-in-Err-clause-cause g c fit =
    (c.in-Err.ensures.empty, c.in-Err.ensures.whose ∙ ap (λ k. source_number k.layers) c.admit.ensures.only, subst (λ d. SomeReadFailed d (g.S.Store.disk c.take.new.store) c.in-Err.fault) (ap (λ k. g.S.Store.disk k.store) c.admit.ensures.only) c.in-Err.ensures.err, ap (λ k. k.broken) c.admit.ensures.only ∙ c.in_ok-admit.ensures.whole)

pub returns-in-Err-clause-told : goal.returns-in-Err-clause-told
returns-in-Err-clause-told g c =
    unfetched c.args.self.now.layers c.admit.new.self.layers c.take.new.self (g.S.Store.disk c.args.self.now.store) (g.S.Store.disk c.admit.new.self.store) (g.S.Store.disk c.take.new.store) (ap (λ k. k.layers) c.admit.ensures.only) (ap (λ k. g.S.Store.disk k.store) c.admit.ensures.only) c.take.new.piece (ReadFault c.in-Err.fault.file c.in-Err.fault.count) c.take.ensures.reads

pub returns-in_err-admit : goal.returns-in_err-admit
returns-in_err-admit g c =
    let before : Session = seen g.S.Store.disk g.R.Recorder.noted g.R.Recorder.told c.args.self.now in
    let after : Session = seen g.S.Store.disk g.R.Recorder.noted g.R.Recorder.told c.admit.new.self in
    let e = c.admit.ensures in
    let is = c.in_err-admit.ensures.err in
    let x = c.in_err-admit.field-0.0 in
    let r = c.from_residual.result in
    let same = c.from_residual.ensures in
    let layers = ap (λ k. k.layers) e.only in
    let disk = ap (λ k. g.S.Store.disk k.store) e.only in
    let cause = unfit before.events before.broken in
    let later = no_stripe c.args.stripe before.layers in
    record {
      sound = sound_refused before after c.requires.sound e.events (ap (λ k. g.R.Recorder.noted k.recorder) e.only) layers disk (ap (λ k. k.broken) e.only);
      events = e.events;
      geometry = ap (λ (l : Layers). l.geometry) layers;
      session = ap (λ (l : Layers). is_some l.leaf) layers;
      history = ap (λ k. k.recorder) e.only;
      early = stopped_first cause later x r _ is same.1 (e.only, refl);
      cause = λ fit. absurd (never_first cause later x is fit);
      leaf = ap leaf_number layers;
      merge = (ap (λ (l : Layers). l.merge) layers, ap (λ (l : Layers). l.retiring) layers);
      taken = not_ok r _ same.1 _;
      told = fetch_stopped before.layers after.layers before.disk after.disk layers disk c.args.piece.now r same.0;
    }

pub returns-in_err-find_stripe : goal.returns-in_err-find_stripe
returns-in_err-find_stripe g c =
    let before : Session = seen g.S.Store.disk g.R.Recorder.noted g.R.Recorder.told c.args.self.now in
    let e = c.admit.ensures in
    let f = c.in_ok-admit.ensures in
    let x = c.in_err-find_stripe.field-0.0 in
    let r = c.from_residual-in_err-find_stripe.result in
    let same = c.from_residual-in_err-find_stripe.ensures in
    let layers = ap (λ k. k.layers) e.only in
    let disk = ap (λ k. g.S.Store.disk k.store) e.only in
    let cause = unfit before.events before.broken in
    let later = no_stripe c.args.stripe before.layers in
    let is = ap (λ (l : Layers). no_stripe c.args.stripe l) (sym layers) ∙ c.in_err-find_stripe.ensures.err in
    record {
      sound = subst (λ k. IsSound (seen g.S.Store.disk g.R.Recorder.noted g.R.Recorder.told k)) (sym e.only) (sound_counted before c.admit.new.self.events f.fits (room_counted before.events c.admit.new.self.events before.broken f.ok f.fits) c.requires.sound);
      events = e.events;
      geometry = ap (λ (l : Layers). l.geometry) layers;
      session = ap (λ (l : Layers). is_some l.leaf) layers;
      history = ap (λ k. k.recorder) e.only;
      early = stopped_second cause later x r _ f.ok is same.1 (e.only, refl);
      cause = λ fit. absurd (never_second cause later x f.ok is fit);
      leaf = ap leaf_number layers;
      merge = (ap (λ (l : Layers). l.merge) layers, ap (λ (l : Layers). l.retiring) layers);
      taken = not_ok r _ same.1 _;
      told = fetch_stopped before.layers c.admit.new.self.layers before.disk (g.S.Store.disk c.admit.new.self.store) layers disk c.args.piece.now r same.0;
    }

pub take-requires-clause-ready : goal.take-requires-clause-ready
take-requires-clause-ready g c =
    subst (λ k. AreReady k.layers (g.S.Store.disk k.store)) (sym c.admit.ensures.only) (c.requires.sound.ready c.in_ok-admit.ensures.whole)

pub take-requires-clause-merge : goal.take-requires-clause-merge
take-requires-clause-merge g c = stripe_merge c.args.stripe c.admit.new.self.layers c.in_ok-find_stripe.ensures.ok

pub take-requires-clause-stripe : goal.take-requires-clause-stripe
take-requires-clause-stripe g c = stripe_there c.args.stripe c.admit.new.self.layers c.in_ok-find_stripe.ensures.ok

pub returns-in-Ok-clause-events : goal.returns-in-Ok-clause-events
returns-in-Ok-clause-events g c = c.admit.ensures.events

pub returns-in-Ok-clause-geometry : goal.returns-in-Ok-clause-geometry
returns-in-Ok-clause-geometry g c = c.take.ensures.reads.geometry ∙ ap (λ k. k.layers.geometry) c.admit.ensures.only

pub returns-in-Ok-clause-session : goal.returns-in-Ok-clause-session
returns-in-Ok-clause-session g c = read_session c.admit.new.self.layers c.take.new.self c.take.ensures.reads.numbers ∙ ap (λ k. is_some k.layers.leaf) c.admit.ensures.only

pub returns-in-Ok-clause-leaf : goal.returns-in-Ok-clause-leaf
returns-in-Ok-clause-leaf g c = c.take.ensures.reads.leaf ∙ ap (λ k. leaf_number k.layers) c.admit.ensures.only

pub returns-in-Ok-clause-merge : goal.returns-in-Ok-clause-merge
returns-in-Ok-clause-merge g c = (c.take.ensures.reads.merge ∙ ap (λ k. k.layers.merge) c.admit.ensures.only, c.take.ensures.reads.retiring ∙ ap (λ k. k.layers.retiring) c.admit.ensures.only)

pub returns-in-Ok-clause-history : goal.returns-in-Ok-clause-history
returns-in-Ok-clause-history g c = ap (λ k. k.recorder) c.admit.ensures.only

pub returns-in-Ok-clause-early : goal.returns-in-Ok-clause-early
returns-in-Ok-clause-early g c =
    let before : Session = seen g.S.Store.disk g.R.Recorder.noted g.R.Recorder.told c.args.self.now in
    not_stopped (unfit before.events before.broken) (no_stripe c.args.stripe before.layers) _ _ c.in_ok-admit.ensures.ok (ap (λ (l : Layers). no_stripe c.args.stripe l) (sym (ap (λ k. k.layers) c.admit.ensures.only)) ∙ c.in_ok-find_stripe.ensures.ok)

pub returns-in-Err-clause-events : goal.returns-in-Err-clause-events
returns-in-Err-clause-events g c = c.admit.ensures.events

pub returns-in-Err-clause-geometry : goal.returns-in-Err-clause-geometry
returns-in-Err-clause-geometry g c = c.take.ensures.reads.geometry ∙ ap (λ k. k.layers.geometry) c.admit.ensures.only

pub returns-in-Err-clause-session : goal.returns-in-Err-clause-session
returns-in-Err-clause-session g c = read_session c.admit.new.self.layers c.take.new.self c.take.ensures.reads.numbers ∙ ap (λ k. is_some k.layers.leaf) c.admit.ensures.only

pub returns-in-Err-clause-leaf : goal.returns-in-Err-clause-leaf
returns-in-Err-clause-leaf g c = c.take.ensures.reads.leaf ∙ ap (λ k. leaf_number k.layers) c.admit.ensures.only

pub returns-in-Err-clause-merge : goal.returns-in-Err-clause-merge
returns-in-Err-clause-merge g c = (c.take.ensures.reads.merge ∙ ap (λ k. k.layers.merge) c.admit.ensures.only, c.take.ensures.reads.retiring ∙ ap (λ k. k.layers.retiring) c.admit.ensures.only)

pub returns-in-Err-clause-history : goal.returns-in-Err-clause-history
returns-in-Err-clause-history g c = ap (λ k. k.recorder) c.admit.ensures.only

pub returns-in-Err-clause-early : goal.returns-in-Err-clause-early
returns-in-Err-clause-early g c =
    let before : Session = seen g.S.Store.disk g.R.Recorder.noted g.R.Recorder.told c.args.self.now in
    not_stopped (unfit before.events before.broken) (no_stripe c.args.stripe before.layers) _ _ c.in_ok-admit.ensures.ok (ap (λ (l : Layers). no_stripe c.args.stripe l) (sym (ap (λ k. k.layers) c.admit.ensures.only)) ∙ c.in_ok-find_stripe.ensures.ok)
