use Rattle.std.proofs.Common.{◌≡◌, ◌<◌, ◌∙◌, ◌++◌, ◌∷◌, [], ap, arith, length, refl, rules, sym, take}
use Rattle.std.proofs.lemmas.List.{take_more}
use Rattle.mem_file.specs.Steps.{change_of, changes_of}
use Rattle.mem_file.proofs.StepLemmas.{changes-append, changes-push}
use Rattle.mem_store.proofs.Copies.{all_copied, none_made}
use Rattle.mem_store.proofs.past.copied_order.Goals as goal

pub loop-change-preserved : goal.loop-change-preserved
loop-change-preserved c =
    let order = c.args.order.now in
    let i = c.loop-change.change-index in
    let within : i < length order = omega arith in
    let pushed : c.push.new.self.items ≡ c.loop-change.copies.items ++ record { file = c.change-item.result.file; step = c.in_ok-step.step } ∷ [] = search rules in
    changes-push c.loop-change.copies.items c.loop-change.copies.items _ c.change-item.result.file c.change-item.result.step c.in_ok-step.step pushed refl c.in_ok-step.ensures
    ∙ ap (λ rest. change_of c.change-item.result ∷ rest) c.loop-change.invariant
    ∙ sym (ap changes_of (take_more order i c.change-item.result within ∙ ap (λ x. take i order ++ x ∷ []) (sym c.change-item.is)) ∙ changes-append (take i order) (c.change-item.result ∷ []))

pub loop-change-init : goal.loop-change-init
loop-change-init c = ap changes_of c.new-copies.ensures.items

pub returns : goal.returns
returns c = all_copied changes_of _ c.args.order.now c.loop-change.change-index c.loop-change.invariant c.loop-change-test.false

pub returns-in_err-push : goal.returns-in_err-push
returns-in_err-push c = none_made c.from_residual-in_err-push.result c.from_residual-in_err-push.ensures.0 _

pub returns-in_err-step : goal.returns-in_err-step
returns-in_err-step c = none_made c.from_residual.result c.from_residual.ensures.0 _
