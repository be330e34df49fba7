use Rattle.std.proofs.Common.{◌≡◌, sym, ap, ◌∙◌, subst, ◌<◌, ◌++◌, ◌∷◌, [], is_some}
use Rattle.std.specs.Prelude.{None, option_map}
use Rattle.guest_model.specs.Calls.{call_of, entry_of}
use Rattle.guest_model.specs.Counts.{one_more}
use Rattle.chain_core.specs.Refusing.{misplaced, or_else, range_of, unfit}
use Rattle.chain_core.specs.Sessions.{Session, seen}
use Rattle.chain_core.specs.declared.chain.Chain.{Chain}
use Rattle.chain_core.specs.declared.layers.Layers.{Layers}
use Rattle.chain_core.proofs.Accepted.{err_is, fit_asks_none, on_err_any, one_noted, place_asks_none}
use Rattle.vx_base.proofs.Handed.{not_ok}
use Rattle.chain_core.proofs.Stopped.{never_first, never_second, not_stopped, stopped_first, stopped_second}
use Rattle.chain_core.proofs.Numbers.{some_512}
use Rattle.chain_core.proofs.chain.Chain.accept.Goals as goal
use Rattle.layer_session.proofs.Equal.{false_true, ok_err}

pub returns-in_err-admit : goal.returns-in_err-admit
returns-in_err-admit g c =
    let before : Session = seen g.S.Store.disk g.R.Recorder.noted g.R.Recorder.told c.args.self.now in
    let e = c.admit.ensures in
    let is = c.in_err-admit.ensures.err in
    let x = c.in_err-admit.field-0.0 in
    let r = c.from_residual.result in
    let same = c.from_residual.ensures in
    let cause = unfit before.events before.broken in
    let later = misplaced (call_of c.args.call) before.layers in
    let recorder = ap (λ k. k.recorder) e.only in
    record {
      events = e.events;
      fits = not_ok r _ same.1 _;
      only = e.only ∙ ap (λ k. record c.args.self.now { events = c.admit.new.self.events; recorder = k }) (sym recorder);
      early = stopped_first cause later x r _ is same.1 e.only;
      fit = not_ok r _ same.1 _;
      whole = not_ok r _ same.1 _;
      range = not_ok r _ same.1 _;
      session = not_ok r _ same.1 _;
      noted = not_ok r _ same.1 _;
      told = not_ok r _ same.1 _;
      err_noted = on_err_any r _ (ap g.R.Recorder.noted recorder);
      err_told = on_err_any r _ (ap g.R.Recorder.told recorder);
      room = λ fit. absurd (never_first cause later x is fit);
      free = λ takes. fit_asks_none before.events before.broken x r is same.1;
      healthy = λ fit. absurd (never_first cause later x is fit);
    }

pub check-requires : goal.check-requires
check-requires g c =
    let sector = ap (λ k. k.layers.geometry.sector) c.admit.ensures.only ∙ c.requires.sector in
    subst (λ n. 0 < n) (sym sector) some_512

pub returns-in_err-check : goal.returns-in_err-check
returns-in_err-check g c =
    let before : Session = seen g.S.Store.disk g.R.Recorder.noted g.R.Recorder.told c.args.self.now in
    let e = c.admit.ensures in
    let f = c.in_ok-admit.ensures in
    let x = c.in_err-check.field-0.0 in
    let r = c.from_residual-in_err-check.result in
    let same = c.from_residual-in_err-check.ensures in
    let cause = unfit before.events before.broken in
    let later = misplaced (call_of c.args.call) before.layers in
    let recorder = ap (λ k. k.recorder) e.only in
    let is = ap (λ (l : Layers). misplaced (call_of c.args.call) l) (sym (ap (λ k. k.layers) e.only)) ∙ c.in_err-check.ensures.err in
    record {
      events = e.events;
      fits = not_ok r _ same.1 _;
      only = e.only ∙ ap (λ k. record c.args.self.now { events = c.admit.new.self.events; recorder = k }) (sym recorder);
      early = stopped_second cause later x r _ f.ok is same.1 e.only;
      fit = not_ok r _ same.1 _;
      whole = not_ok r _ same.1 _;
      range = not_ok r _ same.1 _;
      session = not_ok r _ same.1 _;
      noted = not_ok r _ same.1 _;
      told = not_ok r _ same.1 _;
      err_noted = on_err_any r _ (ap g.R.Recorder.noted recorder);
      err_told = on_err_any r _ (ap g.R.Recorder.told recorder);
      room = λ fit. absurd (never_second cause later x f.ok is fit);
      free = λ takes. place_asks_none (call_of c.args.call) before.layers x r is same.1;
      healthy = λ fit. f.whole;
    }

pub returns-in_err-note : goal.returns-in_err-note
returns-in_err-note g c =
    let before : Session = seen g.S.Store.disk g.R.Recorder.noted g.R.Recorder.told c.args.self.now in
    let e = c.admit.ensures in
    let f = c.in_ok-admit.ensures in
    let n = c.in_err-note.ensures in
    let r = c.from_residual-in_err-note.result in
    let same = c.from_residual-in_err-note.ensures in
    let cause = unfit before.events before.broken in
    let later = misplaced (call_of c.args.call) before.layers in
    let recorder = ap (λ k. k.recorder) e.only in
    let none : later ≡ None = ap (λ (l : Layers). misplaced (call_of c.args.call) l) (sym (ap (λ k. k.layers) e.only)) ∙ c.in_ok-check.ensures.ok in
    record {
      events = e.events;
      fits = not_ok r _ same.1 _;
      only = ap (λ (k : Chain g.row.S.Denot g.row.R.Denot g.row.S-R.Denot). record k { recorder = c.note.new.self }) e.only;
      early = not_stopped cause later r _ f.ok none;
      fit = not_ok r _ same.1 _;
      whole = not_ok r _ same.1 _;
      range = not_ok r _ same.1 _;
      session = not_ok r _ same.1 _;
      noted = not_ok r _ same.1 _;
      told = not_ok r _ same.1 _;
      err_noted = on_err_any r _ (n.err_count ∙ ap g.R.Recorder.noted recorder);
      err_told = on_err_any r _ (n.err_told ∙ ap g.R.Recorder.told recorder);
      room = λ fit. err_is r _ same.1;
      free = λ takes is. false_true (n.free takes);
      healthy = λ fit. f.whole;
    }

pub returns : goal.returns
returns g c =
    let before : Session = seen g.S.Store.disk g.R.Recorder.noted g.R.Recorder.told c.args.self.now in
    let e = c.admit.ensures in
    let f = c.in_ok-admit.ensures in
    let k = c.in_ok-check.ensures in
    let n = c.in_ok-note.ensures in
    let cause = unfit before.events before.broken in
    let later = misplaced (call_of c.args.call) before.layers in
    let layers = ap (λ k. k.layers) e.only in
    let recorder = ap (λ k. k.recorder) e.only in
    let none : later ≡ None = ap (λ (l : Layers). misplaced (call_of c.args.call) l) (sym layers) ∙ k.ok in
    record {
      events = e.events;
      fits = f.fits;
      only = ap (λ (k : Chain g.row.S.Denot g.row.R.Denot g.row.S-R.Denot). record k { recorder = c.note.new.self }) e.only;
      early = not_stopped cause later _ _ f.ok none;
      fit = ap (λ o. or_else o later) f.ok ∙ none;
      whole = f.whole;
      range = ap (λ (l : Layers). range_of l.geometry (call_of c.args.call)) (sym layers) ∙ k.range;
      session = λ call. ap (λ (l : Layers). is_some l.leaf) (sym layers) ∙ k.session call;
      noted = n.count ∙ ap (λ r. one_more (g.R.Recorder.noted r)) recorder ∙ one_noted before.noted before.events c.requires.noted c.requires.few;
      told = n.told ∙ ap (λ r. option_map (λ h. h ++ entry_of c.args.who c.args.call ∷ []) (g.R.Recorder.told r)) recorder;
      err_noted = tt;
      err_told = tt;
      room = λ fit. tt;
      free = λ takes is. ok_err is;
      healthy = λ fit. f.whole;
    }
