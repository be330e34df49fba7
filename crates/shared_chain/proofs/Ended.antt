-- What the end of a session leaves.
use Rattle.std.proofs.Common.{◌≡◌, ℕ, [], Bool, Option, Some, None, Result, Ok, Err, refl, sym, ap, subst}
use Rattle.std.specs.Prelude.{IfErr, IfSome, IsErr, OnOk, is_some}
use Rattle.layer_session.proofs.Equal.{false_true}
use Rattle.store_model.specs.Disk.{Disk, WhereBothTold}
use Rattle.store_model.specs.Trace.{Trace}
use Rattle.store_model.specs.declared.fault.StoreFault.{StoreFault}
use Rattle.store_model.proofs.Told.{both_join}
use Rattle.ledger.specs.declared.ledger.Ledger.{Ledger}
use Rattle.guest_model.specs.History.{History}
use Rattle.chain_core.specs.declared.chain.Chain.{Chain}
use Rattle.chain_core.specs.Answering.{ClosesTold, HasClosed}
use Rattle.chain_core.specs.Ending.{IsOfSession, SomeChangeFailed}
use Rattle.chain_core.specs.Sessions.{Session, has_merge}
use Rattle.chain_core.specs.States.{IsServing, State, dirty_now, disk_now}
use Rattle.shared_chain.specs.declared.basis.Breach.{Breach}
use Rattle.script_session.specs.Running.{IsEnded}
use Rattle.shared_chain.specs.Closing.{HasLeft, LeavesHistory}
use Rattle.shared_chain.specs.Homes.{Follows, HasStopped, IsHome, session_of}
use Rattle.script_session.proofs.Lengths.{moments_grow}
use Rattle.shared_chain.proofs.Breaking.{last_whole, none_broke}
use Rattle.shared_chain.proofs.Filling.{long_still}
use Rattle.script_session.proofs.Resting.{under_way_is}

module _ (first s : Session) (h : History) (after : Disk) (closed : Result (Unit {0}) StoreFault) (full : Option ℕ) (broke : Option Breach) (fault : Option StoreFault) (home : IsHome first s h full broke fault) where
  -- the end of a session that no fault has broken
  ends : (session : Bool) (from : State) (mid now : Trace) → s.broken ≡ None → Follows from h full broke s mid → ((v : State) → IsServing s.layers v mid → HasClosed session v mid now closed) → HasLeft session (has_merge s.layers) from h full broke closed now
  ends session from mid now whole f has =
      subst (λ b. HasLeft session (has_merge s.layers) from h full b closed now) (sym (none_broke broke s.broken home.breaks whole)) (go closed (has f.to (f.serves whole)))
    where
      go : (r : Result (Unit {0}) StoreFault) → HasClosed session f.to mid now r → HasLeft session (has_merge s.layers) from h full None r now
      go (Ok done) e = record {
        to = f.to;
        comes = f.comes;
        still = e.ended.still;
        past = e.ended.past;
        last = last_whole (dirty_now f.to) f.to.leaf (disk_now f.to) mid now e.ended.moments;
        long = long_still from.writes full mid now (moments_grow _ mid now e.ended.moments) f.long;
        whole = record { opens = e.all; links = e.links; synced = e.synced; no_log = e.no_log; under_way = under_way_is s.layers f.to mid (f.serves whole) };
      }
      go (Err fault) e = record {
        to = f.to;
        comes = f.comes;
        still = e.still;
        past = e.past;
        last = last_whole (dirty_now f.to) f.to.leaf (disk_now f.to) mid now e.moments;
        long = long_still from.writes full mid now (moments_grow _ mid now e.moments) f.long;
        whole = tt;
      }

  -- of one that a fault has broken
  stopped : (f : StoreFault) (from : State) (now : Trace) → s.broken ≡ Some f → Follows from h full broke s now → HasLeft (is_some first.layers.leaf) (has_merge s.layers) from h full broke (Err f) now
  stopped f from now is k =
      let stop : HasStopped k.to broke now = subst (λ o. IfSome o (λ f. HasStopped k.to broke now)) is k.stopped in
      record { to = k.to; comes = k.comes; still = stop.still; past = stop.past; last = stop.last; long = k.long; whole = tt }

  pub leaves : IfSome s.broken (λ fault. (closed ≡ Err fault) × (after ≡ s.disk)) → (s.broken ≡ None → ClosesTold s after closed) → LeavesHistory first h full broke (has_merge s.layers) closed after
  leaves is_broken told = go s.broken refl
    where
      by_trace : (fault : StoreFault) → s.broken ≡ Some fault → (a b : Option Trace) → WhereBothTold (λ trace now. (from : State) → IsServing first.layers from trace → from.history ≡ [] → Follows from h full broke s now) a b
          → WhereBothTold (λ trace now. (from : State) → IsServing first.layers from trace → from.history ≡ [] → HasLeft (is_some first.layers.leaf) (has_merge s.layers) from h full broke (Err fault) now) a b
      by_trace fault is None None f = tt
      by_trace fault is None (Some b) f = absurd f
      by_trace fault is (Some a) None f = absurd f
      by_trace fault is (Some a) (Some b) f = λ from serving empty. stopped fault from b is (f from serving empty)

      go : (o : Option StoreFault) → s.broken ≡ o → LeavesHistory first h full broke (has_merge s.layers) closed after
      go (Some fault) is =
          let b = subst (λ o. IfSome o (λ fault. (closed ≡ Err fault) × (after ≡ s.disk))) is is_broken in
          subst (λ r. LeavesHistory first h full broke (has_merge s.layers) r after) (sym b.0)
          (subst (λ (d : Disk). LeavesHistory first h full broke (has_merge s.layers) (Err fault) d) (sym b.1) (by_trace fault is first.disk.told s.disk.told home.follows))
      go None is =
          subst (λ session. WhereBothTold (λ trace now. (from : State) → IsServing first.layers from trace → from.history ≡ [] → HasLeft session (has_merge s.layers) from h full broke closed now) first.disk.told after.told) home.session
          (both_join _ _ _ first.disk.told s.disk.told after.told (λ t u w f has from serving empty. ends (is_some s.layers.leaf) from u w is (f from serving empty) has) home.follows (told is))

module _ {S T : Type 0} (disk : S → Disk) (chain : Chain S Ledger T) (store : S) (closed : Result (Unit {0}) StoreFault) where
  pub ended : IfSome chain.broken (λ fault. (closed ≡ Err fault) × (store ≡ chain.store)) → (chain.broken ≡ None → chain.layers.leaf ≡ None → (closed ≡ Ok tt) × (store ≡ chain.store))
      → (chain.broken ≡ None → OnOk closed (disk store ≡ record (disk chain.store) { told = (disk store).told }))
      → (chain.broken ≡ None → IfErr closed (SomeChangeFailed (IsOfSession chain.layers) (disk chain.store) (disk store)))
      → (chain.broken ≡ None → ClosesTold (session_of disk chain) (disk store) closed) → IsEnded (session_of disk chain) (disk store) closed
  ended broken read counts err told = record {
    broken = go chain.broken broken;
    only_read = λ whole none. ((read whole none).0, ap disk (read whole none).1);
    counts = counts;
    fails = err;
    told = told;
  }
    where
      go : (o : Option StoreFault) → IfSome o (λ fault. (closed ≡ Err fault) × (store ≡ chain.store)) → IfSome o (λ fault. (closed ≡ Err fault) × (disk store ≡ disk chain.store))
      go None h = tt
      go (Some fault) h = (h.0, ap disk h.1)

-- a session that something broke answers a fault
pub broke_errs : (P : StoreFault → Type 0) (broke : Option Breach) (broken : Option StoreFault) (closed : Result (Unit {0}) StoreFault) → is_some broke ≡ is_some broken → IfSome broken (λ fault. (closed ≡ Err fault) × P fault) → IfSome broke (λ b. IsErr closed)
broke_errs P None broken closed same h = tt
broke_errs P (Some b) None closed same h = absurd (false_true (sym same))
broke_errs P (Some b) (Some fault) closed same h = subst (λ r. IsErr r) (sym h.0) refl
