use Rattle.std.proofs.Common.{◌≡◌, ℕ, ap, refl, sym, subst, is_some}
use Rattle.std.specs.Prelude.{Option, Some, None, IfSome}
use Rattle.vx_base.specs.declared.parts.Parts.{Parts}
use Rattle.store_model.specs.Disk.{Disk, WhereBothTold, WhereTold}
use Rattle.store_model.specs.Trace.{Trace}
use Rattle.store_model.specs.declared.fault.SealFault.{SealFault}
use Rattle.log_write.specs.Writing.{BeginFails}
use Rattle.log_write.specs.declared.ids.SessionIds.{SessionIds}
use Rattle.layer_session.specs.Begins.{BeginsOver, CanServe, HasBegun}
use Rattle.layer_session.specs.declared.file.Layer.{Layer}
use Rattle.layer_session.proofs.Equal.{some_none}
use Rattle.merge_plan.specs.declared.drawing.LogIds.{LogIds}
use Rattle.vx_base.proofs.Handed.{failed_for, not_if_ok, not_ok}
use Rattle.chain_core.specs.MergeStarting.{ChildBegun, ChildOver, InnerFails, log_session}
use Rattle.chain_core.proofs.merge_start.begin_child.Goals as goal

-- there is no child to begin
no_ids : (o : Option LogIds) → ((i : LogIds) → o ≡ Some i → ⊥) → o ≡ None
no_ids None not = refl
no_ids (Some i) not = absurd (not i refl)

none_over : (ids : Option LogIds) (parts : Parts) (n : ℕ) (o : Option Trace) → ids ≡ None → WhereBothTold (ChildOver ids parts n) o o
none_over None parts n None is = tt
none_over None parts n (Some x) is = refl
none_over (Some i) parts n o is = absurd (some_none is)

none_begun : (ids : Option LogIds) (parts : Parts) (n : ℕ) (o : Option Trace) → ids ≡ None → WhereBothTold (ChildBegun ids parts n None) o o
none_begun None parts n None is = tt
none_begun None parts n (Some x) is = tt
none_begun (Some i) parts n o is = absurd (some_none is)

-- or there is one, under these identifiers
module _ (ids : Option LogIds) (i : LogIds) (s : SessionIds) (parts : Parts) (n : ℕ) (is : ids ≡ Some i) (same : s ≡ log_session i) where
  over_by : (o p : Option Trace) → WhereBothTold (BeginsOver parts s n) o p → WhereBothTold (ChildOver ids parts n) o p
  over_by o p h = subst (λ (x : Option LogIds). WhereBothTold (ChildOver x parts n) o p) (sym is) (subst (λ (x : SessionIds). WhereBothTold (BeginsOver parts x n) o p) same h)

  begun_by : (l : Layer) (o p : Option Trace) → WhereBothTold (HasBegun parts s n l) o p → WhereBothTold (ChildBegun ids parts n (Some l)) o p
  begun_by l o p h = subst (λ (x : Option LogIds). WhereBothTold (ChildBegun x parts n (Some l)) o p) (sym is) (subst (λ (x : SessionIds). WhereBothTold (HasBegun parts x n l) o p) same h)

  fails_by : (old new : Disk) (fault : SealFault) → BeginFails n old new fault → InnerFails ids n old new fault
  fails_by old new fault h = subst (λ (x : Option LogIds). InnerFails x n old new fault) (sym is) h

  serves_by : (o : Option Trace) → IfSome ids (λ k. WhereTold o (CanServe parts k.log n)) → WhereTold o (CanServe parts s.log n)
  serves_by o h = subst (λ (x : SessionIds). WhereTold o (CanServe parts x.log n)) (sym same) (subst (λ (x : Option LogIds). IfSome x (λ k. WhereTold o (CanServe parts k.log n))) is h)

pub returns-in_default : goal.returns-in_default
returns-in_default g c =
    let told = (g.S.Store.disk c.args.store.now).told in
    let none = no_ids c.args.ids c.in_default.not-Some in
    record { moments = none_over c.args.ids c.args.child.now.parts c.args.number told none; begun = none_begun c.args.ids c.args.child.now.parts c.args.number told none; some = ap is_some (sym none); ready = tt; parts = tt; counts = refl; err = tt }

pub begin-requires-clause-ready : goal.begin-requires-clause-ready
begin-requires-clause-ready g c = serves_by c.args.ids c.in-Some.ids c.log_session.result c.args.child.now.parts c.args.number c.in-Some.is c.log_session.ensures (g.S.Store.disk c.args.store.now).told c.requires.ready

pub returns-in_err-layer : goal.returns-in_err-layer
returns-in_err-layer g c =
    let old = g.S.Store.disk c.args.store.now in
    let new = g.S.Store.disk c.begin.new.store in
    let r = c.from_residual.result in
    let same = c.from_residual.ensures.1 in
    record {
      moments = over_by c.args.ids c.in-Some.ids c.log_session.result c.args.child.now.parts c.args.number c.in-Some.is c.log_session.ensures old.told new.told c.begin.ensures.moments;
      begun = not_if_ok r _ same _;
      some = not_if_ok r _ same _;
      ready = not_if_ok r _ same _;
      parts = not_if_ok r _ same _;
      counts = not_ok r _ same _;
      err = failed_for r c.in_err-layer.field-0.0 same (InnerFails c.args.ids c.args.number old new)
          (fails_by c.args.ids c.in-Some.ids c.log_session.result c.args.child.now.parts c.args.number c.in-Some.is c.log_session.ensures old new c.in_err-layer.field-0.0 c.in_err-layer.ensures.err);
    }

pub returns : goal.returns
returns g c =
    let old = g.S.Store.disk c.args.store.now in
    let new = g.S.Store.disk c.begin.new.store in
    let l = c.in_ok-layer.layer in
    let s = c.in_ok-layer.ensures in
    record {
      moments = over_by c.args.ids c.in-Some.ids c.log_session.result c.args.child.now.parts c.args.number c.in-Some.is c.log_session.ensures old.told new.told c.begin.ensures.moments;
      begun = begun_by c.args.ids c.in-Some.ids c.log_session.result c.args.child.now.parts c.args.number c.in-Some.is c.log_session.ensures l old.told new.told s.served;
      some = ap is_some (sym c.in-Some.is);
      ready = s.ready;
      parts = s.parts;
      counts = s.counts;
      err = tt;
    }
