use Rattle.std.proofs.Common.{◌≡◌, ◌≤◌, ◌+◌, ◌/◌, inl, inr, refl, rules, sym, subst, ap, ℕ}
use Rattle.std.specs.Prelude.{Option}
use Rattle.store_model.specs.Disk.{WhereBothTold}
use Rattle.log_write.specs.Sessions.{LogState}
use Rattle.table_pages.specs.declared.tables.TableParts.{TableParts}
use Rattle.layer_session.specs.declared.planning.Step.TheVariants.{Make}
use Rattle.layer_session.specs.Calls.{with_zeros}
use Rattle.layer_session.specs.Steps.{HasRoomFor, IsMade}
use Rattle.layer_session.specs.Taking.{HasMade, IsReadied, KeepsOthers}
use Rattle.layer_session.proofs.Joining.{keeps_puts}
use Rattle.layer_session.proofs.Readying.{make_broken, make_may, make_zeros}
use Rattle.layer_session.proofs.Running.{run_broken, run_done, run_moments, run_others, stands_in, zeros_all}
use Rattle.layer_session.proofs.Told.{both_map, if_err, if_err_map, ok_map}
use Rattle.vx_base.proofs.Handed.{err_is, failed_for, not_ok, on_ok_any}
use Rattle.vhdx_format.specs.Fields.{megabyte}
use Rattle.layer_session.proofs.Exits.{takes_one}
use Rattle.layer_session.proofs.Known.{rest_as}
use Rattle.layer_session.proofs.Sectors.{first_below}
use Rattle.layer_session.proofs.file.Layer.zero_block.Goals as goal

pub returns-in_err-place-clause-moments : goal.returns-in_err-place-clause-moments
returns-in_err-place-clause-moments g c =
    keeps_puts c.args.self.now c.args.first c.args.count (g.S.Store.disk c.args.store.now).told (g.S.Store.disk c.make_ready.new.store).told c.make_ready.ensures.moments

pub zero_run-requires-clause-on_disk : goal.zero_run-requires-clause-on_disk
zero_run-requires-clause-on_disk g c =
    subst (λ (p : TableParts). c.args.first + c.args.count ≤ p.sectors) (sym c.in_ok-place.ensures.leaves.parts) c.requires.block.on_disk

pub zero_run-requires-clause-stand : goal.zero_run-requires-clause-stand
zero_run-requires-clause-stand g c some =
    let made : WhereBothTold (IsMade c.args.self.now c.make_ready.new.self c.args.first c.args.count c.in-Some.place) (g.S.Store.disk c.args.store.now).told (g.S.Store.disk c.make_ready.new.store).told = subst (λ (o : Option ℕ). WhereBothTold (IsReadied c.args.self.now c.make_ready.new.self c.args.first c.args.count o) (g.S.Store.disk c.args.store.now).told (g.S.Store.disk c.make_ready.new.store).told) c.in-Some.is c.in_ok-place.ensures.made in
    stands_in c.args.self.now c.make_ready.new.self c.args.first c.args.count c.in-Some.place (g.S.Store.disk c.args.store.now).told (g.S.Store.disk c.make_ready.new.store).told made

pub returns-in-Some-clause-moments : goal.returns-in-Some-clause-moments
returns-in-Some-clause-moments g c =
    let made : WhereBothTold (IsMade c.args.self.now c.make_ready.new.self c.args.first c.args.count c.in-Some.place) (g.S.Store.disk c.args.store.now).told (g.S.Store.disk c.make_ready.new.store).told = subst (λ (o : Option ℕ). WhereBothTold (IsReadied c.args.self.now c.make_ready.new.self c.args.first c.args.count o) (g.S.Store.disk c.args.store.now).told (g.S.Store.disk c.make_ready.new.store).told) c.in-Some.is c.in_ok-place.ensures.made in
    run_moments c.args.self.now c.make_ready.new.self (g.S.Store.disk c.args.store.now) (g.S.Store.disk c.make_ready.new.store) (g.S.Store.disk c.zero_run.new.store) c.args.first c.args.count c.in-Some.place made c.in_ok-place.ensures.leaves.parts (ap (λ (x : LogState). x.number) c.in_ok-place.ensures.leaves.log, ap (λ (x : LogState). x.header) c.in_ok-place.ensures.leaves.log) c.in_ok-place.ensures.counts c.make_ready.ensures.moments c.zero_run.ensures.moments

pub returns-in-Some-clause-done : goal.returns-in-Some-clause-done
returns-in-Some-clause-done g c =
    let made : WhereBothTold (IsMade c.args.self.now c.make_ready.new.self c.args.first c.args.count c.in-Some.place) (g.S.Store.disk c.args.store.now).told (g.S.Store.disk c.make_ready.new.store).told = subst (λ (o : Option ℕ). WhereBothTold (IsReadied c.args.self.now c.make_ready.new.self c.args.first c.args.count o) (g.S.Store.disk c.args.store.now).told (g.S.Store.disk c.make_ready.new.store).told) c.in-Some.is c.in_ok-place.ensures.made in
    ok_map c.zero_run.result _ _ c.zero_run.ensures.done (run_done c.args.self.now c.make_ready.new.self (g.S.Store.disk c.args.store.now) (g.S.Store.disk c.make_ready.new.store) (g.S.Store.disk c.zero_run.new.store) c.args.first c.args.count c.in-Some.place made c.in_ok-place.ensures.leaves.parts (ap (λ (x : LogState). x.number) c.in_ok-place.ensures.leaves.log, ap (λ (x : LogState). x.header) c.in_ok-place.ensures.leaves.log) c.in_ok-place.ensures.counts (λ z. with_zeros z c.args.first c.args.count) (λ z. zeros_all z c.args.first c.args.count))

pub returns-in-Some-clause-others : goal.returns-in-Some-clause-others
returns-in-Some-clause-others g c =
    let made : WhereBothTold (IsMade c.args.self.now c.make_ready.new.self c.args.first c.args.count c.in-Some.place) (g.S.Store.disk c.args.store.now).told (g.S.Store.disk c.make_ready.new.store).told = subst (λ (o : Option ℕ). WhereBothTold (IsReadied c.args.self.now c.make_ready.new.self c.args.first c.args.count o) (g.S.Store.disk c.args.store.now).told (g.S.Store.disk c.make_ready.new.store).told) c.in-Some.is c.in_ok-place.ensures.made in
    ok_map c.zero_run.result _ _ c.zero_run.ensures.same (run_others c.args.self.now c.make_ready.new.self (g.S.Store.disk c.args.store.now) (g.S.Store.disk c.make_ready.new.store) (g.S.Store.disk c.zero_run.new.store) c.args.first c.args.count c.in-Some.place made c.in_ok-place.ensures.leaves.parts (ap (λ (x : LogState). x.number) c.in_ok-place.ensures.leaves.log, ap (λ (x : LogState). x.header) c.in_ok-place.ensures.leaves.log) c.in_ok-place.ensures.counts c.in_ok-place.ensures.others)

pub returns-in-Some-clause-broken : goal.returns-in-Some-clause-broken
returns-in-Some-clause-broken g c =
    let made : WhereBothTold (IsMade c.args.self.now c.make_ready.new.self c.args.first c.args.count c.in-Some.place) (g.S.Store.disk c.args.store.now).told (g.S.Store.disk c.make_ready.new.store).told = subst (λ (o : Option ℕ). WhereBothTold (IsReadied c.args.self.now c.make_ready.new.self c.args.first c.args.count o) (g.S.Store.disk c.args.store.now).told (g.S.Store.disk c.make_ready.new.store).told) c.in-Some.is c.in_ok-place.ensures.made in
    if_err_map c.zero_run.result _ _ c.zero_run.ensures.broken (run_broken c.args.self.now c.make_ready.new.self (g.S.Store.disk c.args.store.now) (g.S.Store.disk c.make_ready.new.store) (g.S.Store.disk c.zero_run.new.store) c.args.first c.args.count c.in-Some.place made c.in_ok-place.ensures.leaves.parts (ap (λ (x : LogState). x.number) c.in_ok-place.ensures.leaves.log, ap (λ (x : LogState). x.header) c.in_ok-place.ensures.leaves.log) c.in_ok-place.ensures.counts)

pub returns-in-None-clause-done : goal.returns-in-None-clause-done
returns-in-None-clause-done g c = record {
  put = subst (λ (o : Option ℕ). WhereBothTold (IsReadied c.args.self.now c.make_ready.new.self c.args.first c.args.count o) (g.S.Store.disk c.args.store.now).told (g.S.Store.disk c.make_ready.new.store).told) c.in-None.is c.in_ok-place.ensures.made;
  ready = c.in_ok-place.ensures.ready;
  counts = c.in_ok-place.ensures.counts;
  parts = c.in_ok-place.ensures.leaves.parts;
  number = ap (λ (x : LogState). x.number) c.in_ok-place.ensures.leaves.log;
  header = ap (λ (x : LogState). x.header) c.in_ok-place.ensures.leaves.log;
}

pub returns-in-None-clause-moments : goal.returns-in-None-clause-moments
returns-in-None-clause-moments g c = keeps_puts c.args.self.now c.args.first c.args.count (g.S.Store.disk c.args.store.now).told (g.S.Store.disk c.make_ready.new.store).told c.make_ready.ensures.moments

pub make_block-requires-clause-may : goal.make_block-requires-clause-may
make_block-requires-clause-may g c =
    let step : c.args.plan.step ≡ Make = search rules in
    make_may c.args.self.now (g.S.Store.disk c.args.store.now) c.requires.ready c.args.plan c.args.first c.args.count c.requires.some c.requires.block.on_disk c.requires.block.run c.requires.todo step

pub returns-in_err-make_block-clause-moments : goal.returns-in_err-make_block-clause-moments
returns-in_err-make_block-clause-moments g c =
    keeps_puts c.args.self.now c.args.first c.args.count (g.S.Store.disk c.args.store.now).told (g.S.Store.disk c.make_block.new.store).told c.make_block.ensures.moments

pub returns-in_err-make_block-clause-broken : goal.returns-in_err-make_block-clause-broken
returns-in_err-make_block-clause-broken g c =
    if_err c.from_residual.result c.in_err-make_block.field-0.0 _ (err_is c.from_residual.result _ c.from_residual.ensures.1) (make_broken c.args.self.now (g.S.Store.disk c.args.store.now) c.requires.ready c.args.plan c.args.first c.args.count c.requires.some c.requires.block.on_disk c.requires.block.run c.requires.todo
    c.make_block.new.self (g.S.Store.disk c.make_block.new.store) c.in_err-make_block.field-0.0 c.in_err-make_block.ensures.broken)

pub returns-then-plan-eq4-clause-moments : goal.returns-then-plan-eq4-clause-moments
returns-then-plan-eq4-clause-moments g c =
    keeps_puts c.args.self.now c.args.first c.args.count (g.S.Store.disk c.args.store.now).told (g.S.Store.disk c.make_block.new.store).told c.make_block.ensures.moments

pub returns-then-plan-eq4-clause-done : goal.returns-then-plan-eq4-clause-done
returns-then-plan-eq4-clause-done g c =
    let step : c.args.plan.step ≡ Make = search rules in
    record {
      put = make_zeros c.args.self.now (g.S.Store.disk c.args.store.now) c.requires.ready c.args.plan c.args.first c.args.count c.requires.some c.requires.block.on_disk c.requires.block.run c.requires.todo step c.make_block.new.self (g.S.Store.disk c.make_block.new.store) c.in_ok-make_block.field-0 c.in_ok-make_block.ensures.made;
      ready = c.in_ok-make_block.ensures.ready;
      counts = c.in_ok-make_block.ensures.counts;
      parts = c.in_ok-make_block.ensures.leaves.parts;
      number = ap (λ (x : LogState). x.number) c.in_ok-make_block.ensures.leaves.log;
      header = ap (λ (x : LogState). x.header) c.in_ok-make_block.ensures.leaves.log;
    }

pub make_ready-requires-clause-block : goal.make_ready-requires-clause-block
make_ready-requires-clause-block g c = c.requires.block

pub make_ready-requires-clause-ready : goal.make_ready-requires-clause-ready
make_ready-requires-clause-ready g c = c.requires.ready

pub make_ready-requires-clause-some : goal.make_ready-requires-clause-some
make_ready-requires-clause-some g c = c.requires.some

pub make_ready-requires-clause-pages : goal.make_ready-requires-clause-pages
make_ready-requires-clause-pages g c = c.requires.pages

pub make_ready-requires-clause-room : goal.make_ready-requires-clause-room
make_ready-requires-clause-room g c = c.requires.room

pub returns-in_err-place-clause-done : goal.returns-in_err-place-clause-done
returns-in_err-place-clause-done g c = not_ok c.from_residual-in_err-place.result _ c.from_residual-in_err-place.ensures.1 _

pub returns-in_err-place-clause-others : goal.returns-in_err-place-clause-others
returns-in_err-place-clause-others g c = not_ok c.from_residual-in_err-place.result _ c.from_residual-in_err-place.ensures.1 _

pub returns-in_err-place-clause-leaves : goal.returns-in_err-place-clause-leaves
returns-in_err-place-clause-leaves g c = not_ok c.from_residual-in_err-place.result _ c.from_residual-in_err-place.ensures.1 _

pub returns-in_err-place-clause-broken : goal.returns-in_err-place-clause-broken
returns-in_err-place-clause-broken g c = failed_for c.from_residual-in_err-place.result _ c.from_residual-in_err-place.ensures.1 _ c.in_err-place.ensures.broken

pub zero_run-requires-clause-ready : goal.zero_run-requires-clause-ready
zero_run-requires-clause-ready g c = c.in_ok-place.ensures.ready

pub returns-in-Some-clause-leaves : goal.returns-in-Some-clause-leaves
returns-in-Some-clause-leaves g c = on_ok_any c.zero_run.result _ c.in_ok-place.ensures.leaves

pub returns-in-None-clause-others : goal.returns-in-None-clause-others
returns-in-None-clause-others g c = c.in_ok-place.ensures.others

pub returns-in-None-clause-leaves : goal.returns-in-None-clause-leaves
returns-in-None-clause-leaves g c = c.in_ok-place.ensures.leaves

pub make_ready-requires-clause-todo : goal.make_ready-requires-clause-todo
make_ready-requires-clause-todo g c = c.requires.todo

pub make_block-requires-clause-ready : goal.make_block-requires-clause-ready
make_block-requires-clause-ready g c = c.requires.ready

pub make_block-requires-clause-first : goal.make_block-requires-clause-first
make_block-requires-clause-first g c = first_below _ _ _ c.requires.some c.requires.block.on_disk

pub make_block-requires-clause-state : goal.make_block-requires-clause-state
make_block-requires-clause-state g c = inl refl

pub make_block-requires-clause-at_hand : goal.make_block-requires-clause-at_hand
make_block-requires-clause-at_hand g c = let step : c.args.plan.step ≡ Make = search rules in c.requires.pages.entry (inr (inl step))

pub make_block-requires-clause-room : goal.make_block-requires-clause-room
make_block-requires-clause-room g c = let step : c.args.plan.step ≡ Make = search rules in subst (λ n. HasRoomFor (c.args.self.now.tables.parts.block / megabyte) n 0 c.args.self.now.space) (takes_one c.args.plan Make step refl) c.requires.room

pub returns-in_err-make_block-clause-done : goal.returns-in_err-make_block-clause-done
returns-in_err-make_block-clause-done g c = not_ok c.from_residual.result _ c.from_residual.ensures.1 _

pub returns-in_err-make_block-clause-others : goal.returns-in_err-make_block-clause-others
returns-in_err-make_block-clause-others g c = not_ok c.from_residual.result _ c.from_residual.ensures.1 _

pub returns-in_err-make_block-clause-leaves : goal.returns-in_err-make_block-clause-leaves
returns-in_err-make_block-clause-leaves g c = not_ok c.from_residual.result _ c.from_residual.ensures.1 _

pub returns-then-plan-eq4-clause-leaves : goal.returns-then-plan-eq4-clause-leaves
returns-then-plan-eq4-clause-leaves g c = let step : c.args.plan.step ≡ Make = search rules in rest_as c.args.self.now c.make_block.new.self _ _ (sym (takes_one c.args.plan Make step refl)) c.in_ok-make_block.ensures.leaves

pub returns-then-plan-eq4-clause-others : goal.returns-then-plan-eq4-clause-others
returns-then-plan-eq4-clause-others g c = both_map (HasMade c.args.self.now c.make_block.new.self c.args.first 6 c.in_ok-make_block.field-0) (KeepsOthers c.args.self.now c.make_block.new.self c.args.first) _ _ c.in_ok-make_block.ensures.made (λ t u a b made. made.others)
