use Rattle.std.proofs.Common.{List, ◌∷◌, Contains, IfErr, arith, sym, ap, subst, ◌∙◌, refl, length, ◌+◌, ◌*◌, ◌≤◌, ◌≡◌}
use Rattle.layer_session.specs.Calls.{AddsOwned}
use Rattle.layer_session.specs.ReadOnly.{AreRead, AreReadable, AreSameRead, SomeReadFailed, numbers_of}
use Rattle.layer_session.specs.declared.read_layer.ReadLayer.{ReadLayer}
use Rattle.layer_session.proofs.ReadOnly.{adds_through, err_then, later_number, same_each, same_none, none_read, some_failed}
use Rattle.std.specs.Prelude.{Err}
use Rattle.store_model.specs.Disk.{Disk}
use Rattle.vx_base.proofs.Handed.{failed_for, not_ok, ok_then}
use Rattle.layer_session.proofs.Handing.{first_number, same_of_each, stays_then}
use Rattle.layer_session.proofs.Owned.{adds_found}
use Rattle.layer_session.proofs.read_layer.+own_through.Goals as goal

pub returns-clause-owned : goal.returns-clause-owned
returns-clause-owned g t c =
    let upper = c.in-Some.upper.now in
    let below = c.in-Some.below.now in
    let disk = g.S.Store.disk c.args.store.now in
    let z = c.args.geometry.sector in
    let readable = subst (AreReadable c.args.geometry disk) c.in-Some.ensures.cases.0 c.requires.readable in
    ok_then c.own_through.result
    (λ owned files trace told read.
    adds_through upper below trace files z c.args.first c.args.count c.args.at c.args.mask.now c.own.new.mask c.own_through.new.mask c.args.out.now c.own.new.out c.own_through.new.out
    (λ file one. subst (λ n. AddsOwned file.member.layer n c.args.first c.args.count c.args.at c.args.mask.now c.own.new.mask c.args.out.now c.own.new.out) readable.0.sector (c.in_ok-own.ensures.owned file trace told one))
    (λ rest each. owned rest trace (ap (λ d. d.told) c.in_ok-own.ensures.stays ∙ told) each) (subst (λ (layers : List ReadLayer). AreRead layers trace files) c.in-Some.ensures.cases.0 read))
    c.own_through.ensures.owned

pub returns-clause-same : goal.returns-clause-same
returns-clause-same g t c =
    let upper = c.in-Some.upper.now in
    let below = c.in-Some.below.now in
    let disk = g.S.Store.disk c.args.store.now in
    let readable = subst (AreReadable c.args.geometry disk) c.in-Some.ensures.cases.0 c.requires.readable in
    subst (λ (layers : List ReadLayer). AreSameRead c.args.geometry layers (c.own.new.self ∷ c.own_through.new.layers) disk) (sym c.in-Some.ensures.cases.0)
    (same_each c.args.geometry upper c.own.new.self below c.own_through.new.layers disk readable.0 c.own.ensures.same (subst (AreSameRead c.args.geometry below c.own_through.new.layers) c.in_ok-own.ensures.stays c.own_through.ensures.same))

pub returns-in_err-own-clause-same : goal.returns-in_err-own-clause-same
returns-in_err-own-clause-same g t c =
    let upper = c.in-Some.upper.now in
    let below = c.in-Some.below.now in
    let disk = g.S.Store.disk c.args.store.now in
    let readable = subst (AreReadable c.args.geometry disk) c.in-Some.ensures.cases.0 c.requires.readable in
    subst (λ (layers : List ReadLayer). AreSameRead c.args.geometry layers (c.own.new.self ∷ below) disk) (sym c.in-Some.ensures.cases.0)
    (same_each c.args.geometry upper c.own.new.self below below disk readable.0 c.own.ensures.same (same_none c.args.geometry below disk readable.1))

pub returns-clause-whose : goal.returns-clause-whose
returns-clause-whose g t c =
    let upper = c.in-Some.upper.now in
    let below = c.in-Some.below.now in
    subst (λ (layers : List ReadLayer). IfErr c.own_through.result (λ fault. Contains (numbers_of layers) fault.file)) (sym c.in-Some.ensures.cases.0)
    (err_then (λ fault. Contains (numbers_of below) fault.file) (λ fault. Contains (numbers_of (upper ∷ below)) fault.file) c.own_through.result (λ fault h. later_number upper below fault.file h) c.own_through.ensures.whose)

pub returns-in_default-clause-owned : goal.returns-in_default-clause-owned
returns-in_default-clause-owned g t c files trace told read = none_read c.args.layers.now trace files c.args.geometry.sector c.args.first c.args.count c.args.at c.args.mask.now c.args.out.now c.in_default.ensures.cases read

pub are_set-requires-clause-within : goal.are_set-requires-clause-within
are_set-requires-clause-within g t c = c.requires.mask

pub are_set-requires-clause-fits : goal.are_set-requires-clause-fits
are_set-requires-clause-fits g t c = c.requires.ends

pub returns-then-are_set-clause-same : goal.returns-then-are_set-clause-same
returns-then-are_set-clause-same g t c = same_none c.args.geometry c.args.layers.now (g.S.Store.disk c.args.store.now) c.requires.readable

pub returns-then-are_set-clause-parts : goal.returns-then-are_set-clause-parts
returns-then-are_set-clause-parts g t c = refl

pub returns-then-are_set-clause-stays : goal.returns-then-are_set-clause-stays
returns-then-are_set-clause-stays g t c = refl

pub returns-in_default-clause-same : goal.returns-in_default-clause-same
returns-in_default-clause-same g t c = same_none c.args.geometry c.args.layers.now (g.S.Store.disk c.args.store.now) c.requires.readable

pub returns-in_default-clause-parts : goal.returns-in_default-clause-parts
returns-in_default-clause-parts g t c = refl

pub returns-in_default-clause-stays : goal.returns-in_default-clause-stays
returns-in_default-clause-stays g t c = refl

pub own-requires-clause-readable : goal.own-requires-clause-readable
own-requires-clause-readable g t c = (subst (AreReadable c.args.geometry (g.S.Store.disk c.args.store.now)) c.in-Some.ensures.cases.0 c.requires.readable).0.can

pub own-requires-clause-on_disk : goal.own-requires-clause-on_disk
own-requires-clause-on_disk g t c = subst (λ n. c.args.first + c.args.count ≤ n) (sym (subst (AreReadable c.args.geometry (g.S.Store.disk c.args.store.now)) c.in-Some.ensures.cases.0 c.requires.readable).0.sectors) c.requires.on_disk

pub own-requires-clause-out : goal.own-requires-clause-out
own-requires-clause-out g t c = subst (λ n. length c.args.out.now ≡ n * c.args.count) (sym (subst (AreReadable c.args.geometry (g.S.Store.disk c.args.store.now)) c.in-Some.ensures.cases.0 c.requires.readable).0.sector) c.requires.out

pub own-requires-clause-mask : goal.own-requires-clause-mask
own-requires-clause-mask g t c = c.requires.mask

pub own-requires-clause-ends : goal.own-requires-clause-ends
own-requires-clause-ends g t c = c.requires.ends

pub returns-in_err-own-clause-owned : goal.returns-in_err-own-clause-owned
returns-in_err-own-clause-owned g t c = not_ok c.from_residual.result c.in_err-own.field-0.0 c.from_residual.ensures.1 _

pub returns-in_err-own-clause-stays : goal.returns-in_err-own-clause-stays
returns-in_err-own-clause-stays g t c = not_ok c.from_residual.result c.in_err-own.field-0.0 c.from_residual.ensures.1 _

pub returns-in_err-own-clause-err : goal.returns-in_err-own-clause-err
returns-in_err-own-clause-err g t c =
    failed_for c.from_residual.result c.in_err-own.field-0.0 c.from_residual.ensures.1 _
    (some_failed c.in-Some.upper.now.tables.parts.file (g.S.Store.disk c.args.store.now) (g.S.Store.disk c.own.new.store) (Err c.in_err-own.field-0.0) (subst (AreReadable c.args.geometry (g.S.Store.disk c.args.store.now)) c.in-Some.ensures.cases.0 c.requires.readable).0.can.there c.in_err-own.ensures.err)

pub returns-in_err-own-clause-parts : goal.returns-in_err-own-clause-parts
returns-in_err-own-clause-parts g t c = same_of_each (λ (l : ReadLayer). l.tables.parts) c.args.layers.now c.in-Some.upper.now c.own.new.self c.in-Some.below.now c.in-Some.below.now c.in-Some.ensures.cases.0 c.own.ensures.same.parts refl

pub returns-clause-parts : goal.returns-clause-parts
returns-clause-parts g t c = same_of_each (λ (l : ReadLayer). l.tables.parts) c.args.layers.now c.in-Some.upper.now c.own.new.self c.in-Some.below.now c.own_through.new.layers c.in-Some.ensures.cases.0 c.own.ensures.same.parts c.own_through.ensures.parts

pub returns-clause-stays : goal.returns-clause-stays
returns-clause-stays g t c = stays_then c.own_through.result (g.S.Store.disk c.args.store.now) (g.S.Store.disk c.own.new.store) (g.S.Store.disk c.own_through.new.store) c.in_ok-own.ensures.stays c.own_through.ensures.stays

pub returns-clause-err : goal.returns-clause-err
returns-clause-err g t c = subst (λ (d : Disk). IfErr c.own_through.result (SomeReadFailed d (g.S.Store.disk c.own_through.new.store))) c.in_ok-own.ensures.stays c.own_through.ensures.err

pub returns-in_err-own-clause-whose : goal.returns-in_err-own-clause-whose
returns-in_err-own-clause-whose g t c =
    subst (λ (layers : List ReadLayer). IfErr c.from_residual.result (λ fault. Contains (numbers_of layers) fault.file)) (sym c.in-Some.ensures.cases.0)
    (failed_for c.from_residual.result c.in_err-own.field-0.0 c.from_residual.ensures.1 _ (first_number c.in-Some.upper.now c.in-Some.below.now c.in_err-own.field-0.0.file c.in_err-own.ensures.err.of_file))

pub returns-then-are_set-clause-owned : goal.returns-then-are_set-clause-owned
returns-then-are_set-clause-owned g t c = λ files trace told read. adds_found _ c.args.geometry.sector c.args.first c.args.count c.args.at c.args.mask.now c.args.out.now (c.are_set.ensures.0 c.if-are_set.true)

pub own_through-requires : goal.own_through-requires
own_through-requires g t c κs within =
    let r = (subst (AreReadable c.args.geometry (g.S.Store.disk c.args.store.now)) c.in-Some.ensures.cases.0 c.requires.readable).1 in
    let longer = ap length c.in-Some.ensures.cases.0 in (
      omega (arith, longer),
      (within.0, (within.1, (subst (λ (d : Disk). AreReadable c.args.geometry d c.in-Some.below.now) (sym c.in_ok-own.ensures.stays) r, (c.requires.on_disk, (omega arith, (omega arith, c.requires.ends)))))),
    )
