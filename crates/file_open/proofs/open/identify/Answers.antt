use Rattle.std.proofs.Common.{rules, ◌∙◌, arith}
use Rattle.vhdx_format.specs.Identifiers as identifiers
use Rattle.file_open.specs.declared.refusal.OpenRefusal.TheVariants.{Store}
use Rattle.file_open.proofs.Numbered.{passed_on}
use Rattle.vx_base.proofs.Handed.{not_if_ok}
use Rattle.file_open.proofs.Known.{left_by, left_still, len_still, outside, there_still}
use Rattle.file_open.proofs.open.identify.Goals as goal

pub returns-then-not-branch-clause-answer : goal.returns-then-not-branch-clause-answer
unfolding identifiers.identified
returns-then-not-branch-clause-answer g c = search rules

pub returns-then-len-lt-MEGABYTE-clause-answer : goal.returns-then-len-lt-MEGABYTE-clause-answer
unfolding identifiers.identified
returns-then-len-lt-MEGABYTE-clause-answer g c = search rules

pub returns-clause-answer : goal.returns-clause-answer
unfolding identifiers.identified
returns-clause-answer g c = search rules

pub len-requires : goal.len-requires
len-requires g c = c.requires.there

pub returns-in_err-len-clause-answer : goal.returns-in_err-len-clause-answer
returns-in_err-len-clause-answer g c = λ t told. passed_on c.from_residual.result (Store c.in_err-len.field-0.0) _ c.from_residual.ensures.1 tt

pub returns-in_err-len-clause-least : goal.returns-in_err-len-clause-least
returns-in_err-len-clause-least g c = not_if_ok c.from_residual.result _ c.from_residual.ensures.1 _

pub returns-in_err-len-clause-len : goal.returns-in_err-len-clause-len
returns-in_err-len-clause-len g c = not_if_ok c.from_residual.result _ c.from_residual.ensures.1 _

pub returns-in_err-len-clause-store : goal.returns-in_err-len-clause-store
returns-in_err-len-clause-store g c =
    left_by c.args.file (g.S.Store.disk c.args.store.now) (g.S.Store.disk c.len.new.self) c.from_residual.result (Store c.in_err-len.field-0.0) c.from_residual.ensures.1 c.in_err-len.ensures.err

pub has_signature-requires-clause-there : goal.has_signature-requires-clause-there
has_signature-requires-clause-there g c =
    there_still c.args.file (g.S.Store.disk c.args.store.now) (g.S.Store.disk c.len.new.self) c.in_ok-len.ensures.stays c.requires.there

pub has_signature-requires-clause-len : goal.has_signature-requires-clause-len
has_signature-requires-clause-len g c =
    len_still c.args.file c.in_ok-len.len (g.S.Store.disk c.args.store.now) (g.S.Store.disk c.len.new.self) c.in_ok-len.ensures.stays c.in_ok-len.ensures.ok

pub returns-in_err-has_signature-clause-answer : goal.returns-in_err-has_signature-clause-answer
returns-in_err-has_signature-clause-answer g c =
    λ t told. passed_on c.from_residual-in_err-has_signature.result c.in_err-has_signature.field-0.0 _ c.from_residual-in_err-has_signature.ensures.1 (outside _ c.in_err-has_signature.field-0.0 c.in_err-has_signature.ensures.err)

pub returns-in_err-has_signature-clause-least : goal.returns-in_err-has_signature-clause-least
returns-in_err-has_signature-clause-least g c = not_if_ok c.from_residual-in_err-has_signature.result _ c.from_residual-in_err-has_signature.ensures.1 _

pub returns-in_err-has_signature-clause-len : goal.returns-in_err-has_signature-clause-len
returns-in_err-has_signature-clause-len g c = not_if_ok c.from_residual-in_err-has_signature.result _ c.from_residual-in_err-has_signature.ensures.1 _

pub returns-in_err-has_signature-clause-store : goal.returns-in_err-has_signature-clause-store
returns-in_err-has_signature-clause-store g c =
    left_by c.args.file (g.S.Store.disk c.args.store.now) (g.S.Store.disk c.has_signature.new.store) c.from_residual-in_err-has_signature.result c.in_err-has_signature.field-0.0 c.from_residual-in_err-has_signature.ensures.1
    (left_still c.args.file (g.S.Store.disk c.args.store.now) (g.S.Store.disk c.len.new.self) (g.S.Store.disk c.has_signature.new.store) c.in_err-has_signature.field-0.0 c.in_ok-len.ensures.stays c.in_err-has_signature.ensures.store)

pub returns-then-not-branch-clause-store : goal.returns-then-not-branch-clause-store
returns-then-not-branch-clause-store g c = c.in_ok-has_signature.ensures.store ∙ c.in_ok-len.ensures.stays

pub returns-then-len-lt-MEGABYTE-clause-store : goal.returns-then-len-lt-MEGABYTE-clause-store
returns-then-len-lt-MEGABYTE-clause-store g c = c.in_ok-has_signature.ensures.store ∙ c.in_ok-len.ensures.stays

pub returns-clause-store : goal.returns-clause-store
returns-clause-store g c = c.in_ok-has_signature.ensures.store ∙ c.in_ok-len.ensures.stays

pub returns-clause-least : goal.returns-clause-least
returns-clause-least g c = omega (arith, c.if-len-lt-MEGABYTE.false)

pub returns-clause-len : goal.returns-clause-len
returns-clause-len g c = c.in_ok-len.ensures.ok
