use Rattle.std.proofs.Common.{◌≤◌, ◌+◌, arith, false, sym, subst, ap, ℕ}
use Rattle.std.specs.Prelude.{Option, OnOk, IfErr}
use Rattle.store_model.specs.Disk.{WhereBothTold, WhereTold}
use Rattle.log_write.specs.Sessions.{LogState}
use Rattle.table_pages.specs.declared.tables.TableParts.{TableParts}
use Rattle.layer_session.specs.Calls.{sectors_in, with_bytes, with_zeros, PutsInto}
use Rattle.layer_session.specs.Steps.{IsMade, StandFrom}
use Rattle.layer_session.specs.Taking.{IsBroken, IsDone, IsReadied}
use Rattle.layer_session.proofs.Joining.{keeps_puts}
use Rattle.layer_session.proofs.Running.{bytes_all, never_trimmed, none_put, run_broken, run_done, run_moments, run_others, sectors_of, stands_in, whole_in}
use Rattle.vx_base.proofs.Handed.{failed_for, not_ok, on_ok_any}
use Rattle.layer_session.proofs.Told.{ok_map, if_err_map}
use Rattle.layer_session.proofs.file.Layer.put_run.Goals as goal

pub returns-in_err-place-clause-moments : goal.returns-in_err-place-clause-moments
returns-in_err-place-clause-moments g c =
    keeps_puts c.args.self.now c.args.first c.args.count (g.S.Store.disk c.args.store.now).told (g.S.Store.disk c.make_ready.new.store).told c.make_ready.ensures.moments

pub write-requires-clause-whole : goal.write-requires-clause-whole
write-requires-clause-whole g c = whole_in c.args.self.now c.make_ready.new.self c.args.count c.args.bytes.now c.in_ok-place.ensures.leaves.parts c.requires.ready.readable.sizes.sector c.requires.whole

pub write-requires-clause-on_disk : goal.write-requires-clause-on_disk
write-requires-clause-on_disk g c =
    let n = sectors_of c.args.self.now c.make_ready.new.self c.args.count c.args.bytes.now c.in_ok-place.ensures.leaves.parts c.requires.ready.readable.sizes.sector c.requires.whole in
    subst (λ (p : TableParts). c.args.first + sectors_in c.make_ready.new.self c.args.bytes.now ≤ p.sectors) (sym c.in_ok-place.ensures.leaves.parts) (omega (arith, n, c.requires.block.on_disk))

pub write-requires-clause-stand : goal.write-requires-clause-stand
write-requires-clause-stand g c =
    let n = sectors_of c.args.self.now c.make_ready.new.self c.args.count c.args.bytes.now c.in_ok-place.ensures.leaves.parts c.requires.ready.readable.sizes.sector c.requires.whole in
    let made : WhereBothTold (IsMade c.args.self.now c.make_ready.new.self c.args.first c.args.count c.in-Some.place) (g.S.Store.disk c.args.store.now).told (g.S.Store.disk c.make_ready.new.store).told = subst (λ (o : Option ℕ). WhereBothTold (IsReadied c.args.self.now c.make_ready.new.self c.args.first c.args.count o) (g.S.Store.disk c.args.store.now).told (g.S.Store.disk c.make_ready.new.store).told) c.in-Some.is c.in_ok-place.ensures.made in
    subst (λ k. WhereTold (g.S.Store.disk c.make_ready.new.store).told (λ t. StandFrom c.make_ready.new.self c.args.first k c.in-Some.place t)) (sym n) (stands_in c.args.self.now c.make_ready.new.self c.args.first c.args.count c.in-Some.place (g.S.Store.disk c.args.store.now).told (g.S.Store.disk c.make_ready.new.store).told made)

pub returns-in-Some-clause-moments : goal.returns-in-Some-clause-moments
returns-in-Some-clause-moments g c =
    let made : WhereBothTold (IsMade c.args.self.now c.make_ready.new.self c.args.first c.args.count c.in-Some.place) (g.S.Store.disk c.args.store.now).told (g.S.Store.disk c.make_ready.new.store).told = subst (λ (o : Option ℕ). WhereBothTold (IsReadied c.args.self.now c.make_ready.new.self c.args.first c.args.count o) (g.S.Store.disk c.args.store.now).told (g.S.Store.disk c.make_ready.new.store).told) c.in-Some.is c.in_ok-place.ensures.made in
    let n = sectors_of c.args.self.now c.make_ready.new.self c.args.count c.args.bytes.now c.in_ok-place.ensures.leaves.parts c.requires.ready.readable.sizes.sector c.requires.whole in
    run_moments c.args.self.now c.make_ready.new.self (g.S.Store.disk c.args.store.now) (g.S.Store.disk c.make_ready.new.store) (g.S.Store.disk c.write.new.store) c.args.first c.args.count c.in-Some.place made c.in_ok-place.ensures.leaves.parts (ap (λ (x : LogState). x.number) c.in_ok-place.ensures.leaves.log, ap (λ (x : LogState). x.header) c.in_ok-place.ensures.leaves.log) c.in_ok-place.ensures.counts c.make_ready.ensures.moments (subst (λ k. WhereBothTold (PutsInto c.make_ready.new.self c.args.first k) (g.S.Store.disk c.make_ready.new.store).told (g.S.Store.disk c.write.new.store).told) n c.write.ensures.moments)

pub returns-in-Some-clause-done : goal.returns-in-Some-clause-done
returns-in-Some-clause-done g c =
    let made : WhereBothTold (IsMade c.args.self.now c.make_ready.new.self c.args.first c.args.count c.in-Some.place) (g.S.Store.disk c.args.store.now).told (g.S.Store.disk c.make_ready.new.store).told = subst (λ (o : Option ℕ). WhereBothTold (IsReadied c.args.self.now c.make_ready.new.self c.args.first c.args.count o) (g.S.Store.disk c.args.store.now).told (g.S.Store.disk c.make_ready.new.store).told) c.in-Some.is c.in_ok-place.ensures.made in
    let n = sectors_of c.args.self.now c.make_ready.new.self c.args.count c.args.bytes.now c.in_ok-place.ensures.leaves.parts c.requires.ready.readable.sizes.sector c.requires.whole in
    ok_map c.write.result _ _ (subst (λ k. OnOk c.write.result (IsDone c.make_ready.new.self c.make_ready.new.self c.args.first k (with_bytes c.make_ready.new.self.tables.parts.sector c.args.first k c.args.bytes.now) (g.S.Store.disk c.make_ready.new.store) (g.S.Store.disk c.write.new.store))) n c.write.ensures.done)
    (run_done c.args.self.now c.make_ready.new.self (g.S.Store.disk c.args.store.now) (g.S.Store.disk c.make_ready.new.store) (g.S.Store.disk c.write.new.store) c.args.first c.args.count c.in-Some.place made c.in_ok-place.ensures.leaves.parts (ap (λ (x : LogState). x.number) c.in_ok-place.ensures.leaves.log, ap (λ (x : LogState). x.header) c.in_ok-place.ensures.leaves.log) c.in_ok-place.ensures.counts (λ z. with_bytes z c.args.first c.args.count c.args.bytes.now) (λ z. bytes_all z c.args.first c.args.count c.args.bytes.now))

pub returns-in-Some-clause-others : goal.returns-in-Some-clause-others
returns-in-Some-clause-others g c =
    let made : WhereBothTold (IsMade c.args.self.now c.make_ready.new.self c.args.first c.args.count c.in-Some.place) (g.S.Store.disk c.args.store.now).told (g.S.Store.disk c.make_ready.new.store).told = subst (λ (o : Option ℕ). WhereBothTold (IsReadied c.args.self.now c.make_ready.new.self c.args.first c.args.count o) (g.S.Store.disk c.args.store.now).told (g.S.Store.disk c.make_ready.new.store).told) c.in-Some.is c.in_ok-place.ensures.made in
    ok_map c.write.result _ _ c.write.ensures.same (run_others c.args.self.now c.make_ready.new.self (g.S.Store.disk c.args.store.now) (g.S.Store.disk c.make_ready.new.store) (g.S.Store.disk c.write.new.store) c.args.first c.args.count c.in-Some.place made c.in_ok-place.ensures.leaves.parts (ap (λ (x : LogState). x.number) c.in_ok-place.ensures.leaves.log, ap (λ (x : LogState). x.header) c.in_ok-place.ensures.leaves.log) c.in_ok-place.ensures.counts c.in_ok-place.ensures.others)

pub returns-in-Some-clause-broken : goal.returns-in-Some-clause-broken
returns-in-Some-clause-broken g c =
    let made : WhereBothTold (IsMade c.args.self.now c.make_ready.new.self c.args.first c.args.count c.in-Some.place) (g.S.Store.disk c.args.store.now).told (g.S.Store.disk c.make_ready.new.store).told = subst (λ (o : Option ℕ). WhereBothTold (IsReadied c.args.self.now c.make_ready.new.self c.args.first c.args.count o) (g.S.Store.disk c.args.store.now).told (g.S.Store.disk c.make_ready.new.store).told) c.in-Some.is c.in_ok-place.ensures.made in
    let n = sectors_of c.args.self.now c.make_ready.new.self c.args.count c.args.bytes.now c.in_ok-place.ensures.leaves.parts c.requires.ready.readable.sizes.sector c.requires.whole in
    if_err_map c.write.result _ _ (subst (λ k. IfErr c.write.result (IsBroken c.make_ready.new.self c.make_ready.new.self c.args.first k (g.S.Store.disk c.make_ready.new.store) (g.S.Store.disk c.write.new.store))) n c.write.ensures.broken) (run_broken c.args.self.now c.make_ready.new.self (g.S.Store.disk c.args.store.now) (g.S.Store.disk c.make_ready.new.store) (g.S.Store.disk c.write.new.store) c.args.first c.args.count c.in-Some.place made c.in_ok-place.ensures.leaves.parts (ap (λ (x : LogState). x.number) c.in_ok-place.ensures.leaves.log, ap (λ (x : LogState). x.header) c.in_ok-place.ensures.leaves.log) c.in_ok-place.ensures.counts)

pub returns-in-None-clause-done : goal.returns-in-None-clause-done
returns-in-None-clause-done g c = record {
  put = none_put c.args.self.now c.make_ready.new.self c.args.first c.args.count (with_zeros c.args.self.now.tables.parts.sector c.args.first c.args.count) (with_bytes c.args.self.now.tables.parts.sector c.args.first c.args.count c.args.bytes.now) (g.S.Store.disk c.args.store.now).told (g.S.Store.disk c.make_ready.new.store).told
      (never_trimmed c.args.self.now (g.S.Store.disk c.args.store.now) c.args.plan c.args.first c.args.count c.requires.todo (c.in_ok-place.ensures.trimmed c.in-None.is))
      (subst (λ (o : Option ℕ). WhereBothTold (IsReadied c.args.self.now c.make_ready.new.self c.args.first c.args.count o) (g.S.Store.disk c.args.store.now).told (g.S.Store.disk c.make_ready.new.store).told) c.in-None.is c.in_ok-place.ensures.made);
  ready = c.in_ok-place.ensures.ready;
  counts = c.in_ok-place.ensures.counts;
  parts = c.in_ok-place.ensures.leaves.parts;
  number = ap (λ (x : LogState). x.number) c.in_ok-place.ensures.leaves.log;
  header = ap (λ (x : LogState). x.header) c.in_ok-place.ensures.leaves.log;
}

pub make_ready-requires-clause-todo : goal.make_ready-requires-clause-todo
make_ready-requires-clause-todo g c t told = (false, c.requires.todo t told)

pub returns-in-None-clause-moments : goal.returns-in-None-clause-moments
returns-in-None-clause-moments g c =
    keeps_puts c.args.self.now c.args.first c.args.count (g.S.Store.disk c.args.store.now).told (g.S.Store.disk c.make_ready.new.store).told c.make_ready.ensures.moments

pub make_ready-requires-clause-block : goal.make_ready-requires-clause-block
make_ready-requires-clause-block g c = c.requires.block

pub make_ready-requires-clause-ready : goal.make_ready-requires-clause-ready
make_ready-requires-clause-ready g c = c.requires.ready

pub make_ready-requires-clause-some : goal.make_ready-requires-clause-some
make_ready-requires-clause-some g c = c.requires.some

pub make_ready-requires-clause-pages : goal.make_ready-requires-clause-pages
make_ready-requires-clause-pages g c = c.requires.pages

pub make_ready-requires-clause-room : goal.make_ready-requires-clause-room
make_ready-requires-clause-room g c = c.requires.room

pub returns-in_err-place-clause-done : goal.returns-in_err-place-clause-done
returns-in_err-place-clause-done g c = not_ok c.from_residual.result _ c.from_residual.ensures.1 _

pub returns-in_err-place-clause-others : goal.returns-in_err-place-clause-others
returns-in_err-place-clause-others g c = not_ok c.from_residual.result _ c.from_residual.ensures.1 _

pub returns-in_err-place-clause-leaves : goal.returns-in_err-place-clause-leaves
returns-in_err-place-clause-leaves g c = not_ok c.from_residual.result _ c.from_residual.ensures.1 _

pub returns-in_err-place-clause-broken : goal.returns-in_err-place-clause-broken
returns-in_err-place-clause-broken g c = failed_for c.from_residual.result _ c.from_residual.ensures.1 _ c.in_err-place.ensures.broken

pub write-requires-clause-ready : goal.write-requires-clause-ready
write-requires-clause-ready g c = c.in_ok-place.ensures.ready

pub returns-in-Some-clause-leaves : goal.returns-in-Some-clause-leaves
returns-in-Some-clause-leaves g c = on_ok_any c.write.result _ c.in_ok-place.ensures.leaves

pub returns-in-None-clause-others : goal.returns-in-None-clause-others
returns-in-None-clause-others g c = c.in_ok-place.ensures.others

pub returns-in-None-clause-leaves : goal.returns-in-None-clause-leaves
returns-in-None-clause-leaves g c = c.in_ok-place.ensures.leaves
