use Rattle.std.proofs.Common.{Bool, ap, false, is_some, refl, subst, sym, true, ℕ, ◌+◌, ◌∙◌, ◌≡◌}
use Rattle.std.specs.Prelude.{IfErr, OnOk, Result, Some}
use Rattle.guest_model.specs.declared.call.Call.TheVariants as calls
use Rattle.table_pages.specs.declared.tables.TableParts.{TableParts}
use Rattle.layer_session.specs.Calls.{Fails}
use Rattle.layer_session.specs.declared.file.LayerFault.{LayerFault}
use Rattle.layer_session.proofs.FileLayers.{others_stand}
use Rattle.chain_core.specs.declared.layers.Layers.{Layers}
use Rattle.chain_core.specs.Answering.{FailsByChange, LayerTold, UnlessBroken, as_change}
use Rattle.chain_core.specs.Sessions.{AreReady, IsLow, leaf_number, number_of_leaf}
use Rattle.chain_core.proofs.Concluding.{fails_by_change}
use Rattle.chain_core.proofs.Copied.{always}
use Rattle.chain_core.proofs.Leafs.{commit_told}
use Rattle.chain_core.proofs.Noting.{change_counts, change_fails, low_stepped}
use Rattle.chain_core.proofs.Standing.{leaf_of, ready_committed}
use Rattle.chain_core.proofs.Steps.{LeafStep}
use Rattle.chain_core.proofs.Turning.{alike_same}
use Rattle.layer_session.proofs.Equal.{false_true}
use Rattle.chain_core.proofs.layers.Layers.commit.Goals as goal

pub returns-in-Some : goal.returns-in-Some
returns-in-Some g c =
    let old : Layers = c.args.self.now in
    let leaf = c.in-Some.leaf in
    let next = c.commit.new.self in
    let new : Layers = record old { leaf = Some next } in
    let before = g.S.Store.disk c.args.store.now in
    let after = g.S.Store.disk c.commit.new.store in
    let e = c.commit.ensures in
    let is = c.in-Some.is in
    let done = c.commit.result in
    let same = sym c.changed.ensures in
    let step : LeafStep old new leaf next = record { geometry = refl; below = refl; merge = refl; parts = e.parts; was = is; now = refl } in
    record {
      told = λ place. subst (λ (a : Result (Unit {0}) LayerFault). LayerTold place calls.Flush old new before after a) same (commit_told place old new leaf next before after done step refl e.moments e.committed);
      ready = subst (λ (a : Result (Unit {0}) LayerFault). UnlessBroken a (AreReady new after)) same
          (ready_committed old new leaf next before after done step (alike_same old.retiring old.retiring refl) e.parts c.requires.ready (others_stand.kept leaf before after (leaf_of old leaf before is c.requires.ready).ready e.moments) e.counts e.ready e.committed);
      low = subst (λ (a : Result (Unit {0}) LayerFault). UnlessBroken a ((most : ℕ) → IsLow most old → IsLow (most + 1) new)) same
          (always (as_change done) ((most : ℕ) → IsLow most old → IsLow (most + 1) new) (low_stepped old new leaf next is refl refl e.number));
      session = refl;
      geometry = refl;
      leaf = ap (λ (p : TableParts). p.file) e.parts ∙ sym (ap number_of_leaf is);
      merge = (refl, refl);
      counts = subst (λ (a : Result (Unit {0}) LayerFault). OnOk a (after ≡ record before { told = after.told })) same (change_counts done (after ≡ record before { told = after.told }) e.counts);
      err = subst (λ (a : Result (Unit {0}) LayerFault). IfErr a (Fails (leaf_number old) before after)) same
          (subst (λ (n : ℕ). IfErr (as_change done) (Fails n before after)) (sym (ap number_of_leaf is)) (change_fails leaf.tables.parts.file before after done e.err));
      change = subst FailsByChange same (fails_by_change done);
    }

pub returns-in-None : goal.returns-in-None
returns-in-None g c = absurd (let never : ◌≡◌ {A = Bool} false true = sym (ap is_some c.in-None.is) ∙ c.requires.session in false_true never)
