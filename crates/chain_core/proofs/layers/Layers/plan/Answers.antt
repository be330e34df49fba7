use Rattle.std.proofs.Common.{◌+◌, ◌*◌, ◌≤◌, ap, length, subst, sym, ◌∙◌}
use Rattle.std.specs.Prelude.{IfErr, List, OnOk}
use Rattle.read_plan.specs.declared.plan.Extent.{Extent}
use Rattle.read_plan.proofs.Among.{none_there}
use Rattle.chain_core.specs.Planned.{PlansPart}
use Rattle.chain_core.specs.Reading.{of_read}
use Rattle.layer_session.specs.ReadOnly.{SomeReadFailed}
use Rattle.store_model.specs.Disk.{Disk}
use Rattle.vx_base.specs.declared.parts.Geometry.{Geometry}
use Rattle.chain_core.proofs.Finding.{finds_planned}
use Rattle.vx_base.proofs.Handed.{failed_for, not_ok, ok_then}
use Rattle.chain_core.proofs.Onward.{reads_on}
use Rattle.chain_core.proofs.Numbers.{mask_holds}
use Rattle.chain_core.proofs.layers.Layers.plan.Goals as goal

pub own_leaf-requires-clause-ready : goal.own_leaf-requires-clause-ready
own_leaf-requires-clause-ready g c = c.requires.ready

pub own_leaf-requires-clause-on_disk : goal.own_leaf-requires-clause-on_disk
own_leaf-requires-clause-on_disk g c = c.requires.on_disk

pub own_leaf-requires-clause-out : goal.own_leaf-requires-clause-out
own_leaf-requires-clause-out g c = c.requires.out

pub own_leaf-requires-clause-mask : goal.own_leaf-requires-clause-mask
own_leaf-requires-clause-mask g c = c.requires.few

pub returns-in_err-own_leaf-clause-reads : goal.returns-in_err-own_leaf-clause-reads
returns-in_err-own_leaf-clause-reads g c = c.in_err-own_leaf.ensures.reads

pub returns-in_err-own_leaf-clause-finds : goal.returns-in_err-own_leaf-clause-finds
returns-in_err-own_leaf-clause-finds g c = not_ok c.from_residual.result _ c.from_residual.ensures.1 _

pub returns-in_err-own_leaf-clause-stays : goal.returns-in_err-own_leaf-clause-stays
returns-in_err-own_leaf-clause-stays g c = not_ok c.from_residual.result _ c.from_residual.ensures.1 _

pub returns-in_err-own_leaf-clause-err : goal.returns-in_err-own_leaf-clause-err
returns-in_err-own_leaf-clause-err g c = failed_for c.from_residual.result c.in_err-own_leaf.field-0.0 c.from_residual.ensures.1 (SomeReadFailed (g.S.Store.disk c.args.store.now) (g.S.Store.disk c.own_leaf.new.store)) c.in_err-own_leaf.ensures.err

pub plan_below-requires-clause-ready : goal.plan_below-requires-clause-ready
plan_below-requires-clause-ready g c = c.in_ok-own_leaf.ensures.reads.ready

pub plan_below-requires-clause-on_disk : goal.plan_below-requires-clause-on_disk
plan_below-requires-clause-on_disk g c = subst (λ (x : Geometry). c.args.first + c.args.count ≤ x.sectors) (sym c.in_ok-own_leaf.ensures.reads.geometry) c.requires.on_disk

pub plan_below-requires-clause-out : goal.plan_below-requires-clause-out
plan_below-requires-clause-out g c = c.own_leaf.auto.out ∙ c.requires.out ∙ ap (λ (x : Geometry). x.sector * c.args.count) (sym c.in_ok-own_leaf.ensures.reads.geometry)

pub plan_below-requires-clause-mask : goal.plan_below-requires-clause-mask
plan_below-requires-clause-mask g c = mask_holds c.args.count (length c.own_leaf.new.mask) c.requires.few c.own_leaf.auto.mask

pub returns-clause-reads : goal.returns-clause-reads
returns-clause-reads g c =
    reads_on c.args.self.now c.own_leaf.new.self c.plan_below.new.self (g.S.Store.disk c.args.store.now) (g.S.Store.disk c.own_leaf.new.store) (g.S.Store.disk c.plan_below.new.store) c.in_ok-own_leaf.ensures.reads c.plan_below.ensures.reads

pub returns-clause-finds : goal.returns-clause-finds
returns-clause-finds g c =
    finds_planned c.args.self.now c.own_leaf.new.self (g.S.Store.disk c.args.store.now) (g.S.Store.disk c.own_leaf.new.store) c.args.first c.args.count c.own_leaf.new.mask c.plan_below.new.mask c.plan_below.new.plan c.args.out.now c.own_leaf.new.out c.plan_below.new.out
    c.plan_below.result c.requires.few c.requires.on_disk c.requires.out c.in_ok-own_leaf.ensures.reads c.in_ok-own_leaf.ensures.stays c.in_ok-own_leaf.ensures.adds
    (subst (λ (p : List Extent). OnOk c.plan_below.result (PlansPart of_read c.args.first c.args.count c.own_leaf.new.self (g.S.Store.disk c.own_leaf.new.store) c.own_leaf.new.mask c.plan_below.new.mask p c.plan_below.new.plan c.own_leaf.new.out c.plan_below.new.out))
    c.requires.empty c.plan_below.ensures.plans)

pub returns-clause-stays : goal.returns-clause-stays
returns-clause-stays g c = ok_then c.plan_below.result (λ same. same ∙ c.in_ok-own_leaf.ensures.stays) c.plan_below.ensures.stays

pub returns-clause-err : goal.returns-clause-err
returns-clause-err g c = subst (λ (d : Disk). IfErr c.plan_below.result (SomeReadFailed d (g.S.Store.disk c.plan_below.new.store))) c.in_ok-own_leaf.ensures.stays c.plan_below.ensures.err

pub returns-in_err-own_leaf-clause-there : goal.returns-in_err-own_leaf-clause-there
returns-in_err-own_leaf-clause-there g c = none_there c.args.readers.now c.args.plan.now c.requires.empty

pub returns-clause-there : goal.returns-clause-there
returns-clause-there g c = c.plan_below.ensures.there (none_there c.args.readers.now c.args.plan.now c.requires.empty)
