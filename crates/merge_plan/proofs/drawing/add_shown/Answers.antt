use Rattle.std.proofs.Common.{◌<◌, length, refl, ap, sym, subst, ◌∙◌, arith}
use Rattle.vx_base.proofs.Handed.{failed_for, not_ok}
use Rattle.store_model.specs.Disk.{Disk}
use Rattle.store_model.specs.File.{seen}
use Rattle.store_model.specs.Trace.{file_of}
use Rattle.vhdx_format.specs.FileParts.{HasNumbers, LieWithin}
use Rattle.link_rules.specs.declared.linked.LinkedFile.{LinkedFile}
use Rattle.merge_plan.proofs.Gathered.{no_more, not_ok_so, one_more}
use Rattle.merge_plan.proofs.Opened.{lie_at, one_failed}
use Rattle.merge_plan.proofs.drawing.add_shown.Goals as goal

pub collect-requires-clause-within : goal.collect-requires-clause-within
collect-requires-clause-within g c t told =
    let there = sym (ap (λ (d : Disk). d.told) c.loop-number.invariant.store) ∙ told in
    subst (λ (f : LinkedFile). LieWithin f.parts (length (seen (file_of t c.loop-number.number)))) (sym c.index-files-number.is)
    (lie_at t c.loop-number.number c.args.files.now c.index-files-number.result (c.requires.told t there) c.loop-number-test.true)

pub loop-number-init : goal.loop-number-init
loop-number-init g c = record { store = refl; ids = λ t told. refl }

pub collect-requires-clause-there : goal.collect-requires-clause-there
collect-requires-clause-there g c = subst (λ (d : Disk). c.loop-number.number < d.files) (sym c.loop-number.invariant.store) (omega (arith, c.loop-number-test.true, c.requires.there))

pub collect-requires-clause-numbers : goal.collect-requires-clause-numbers
collect-requires-clause-numbers g c = subst (λ (f : LinkedFile). HasNumbers f.parts) (sym c.index-files-number.is) (c.requires.served c.loop-number.number c.index-files-number.result c.loop-number-test.true).numbers

pub returns-in_err-shown-clause-ids : goal.returns-in_err-shown-clause-ids
returns-in_err-shown-clause-ids g c = not_ok c.from_residual.result c.in_err-shown.field-0.0 c.from_residual.ensures.1 _

pub returns-in_err-shown-clause-stays : goal.returns-in_err-shown-clause-stays
returns-in_err-shown-clause-stays g c = not_ok c.from_residual.result c.in_err-shown.field-0.0 c.from_residual.ensures.1 _

pub returns-in_err-shown-clause-err : goal.returns-in_err-shown-clause-err
returns-in_err-shown-clause-err g c =
    failed_for c.from_residual.result c.in_err-shown.field-0.0 c.from_residual.ensures.1 _ (one_failed c.loop-number.number (g.S.Store.disk c.args.store.now) (g.S.Store.disk c.loop-number.store) (g.S.Store.disk c.collect.new.store) c.in_err-shown.field-0.0 c.loop-number.invariant.store
    (omega (arith, c.loop-number-test.true, c.requires.there)) c.in_err-shown.ensures.store)

pub returns-in_err-append-clause-ids : goal.returns-in_err-append-clause-ids
returns-in_err-append-clause-ids g c = not_ok_so c.from_residual-in_err-append.result c.from_residual-in_err-append.ensures.0 _

pub loop-number-preserved : goal.loop-number-preserved
loop-number-preserved g c = record {
  store = c.in_ok-shown.ensures.store ∙ c.loop-number.invariant.store;
  ids = λ t told. one_more t c.args.files.now c.loop-number.number c.index-files-number.result c.loop-number.known.items c.in_ok-shown.shown.items c.append.new.known.items _ c.loop-number-test.true c.index-files-number.is
      (c.in_ok-shown.ensures.ids t (ap (λ (d : Disk). d.told) c.loop-number.invariant.store ∙ told)) c.in_ok-append.ensures (c.loop-number.invariant.ids t told);
}

pub returns-clause-ids : goal.returns-clause-ids
returns-clause-ids g c = λ t told. let z = c.loop-number-test.false in no_more t c.args.files.now c.loop-number.number c.loop-number.known.items _ (omega (arith, c.loop-number-test.false)) (c.loop-number.invariant.ids t told)

pub returns-clause-stays : goal.returns-clause-stays
returns-clause-stays g c = c.loop-number.invariant.store

pub returns-in_err-append-clause-stays : goal.returns-in_err-append-clause-stays
returns-in_err-append-clause-stays g c = not_ok_so c.from_residual-in_err-append.result c.from_residual-in_err-append.ensures.0 _
