use Rattle.std.proofs.Common.{List, ◌∷◌, Contains, IfErr, arith, sym, ap, subst, ◌∙◌, refl, length, ◌+◌, ◌*◌, ◌≤◌, ◌≡◌}
use Rattle.layer_session.specs.Calls.{AddsOwned}
use Rattle.layer_session.specs.FileLayers.{AreReadableFiles, AreSameFiles, Hold, file_numbers, log_header, log_number, number_of, table_parts}
use Rattle.layer_session.specs.declared.file_layer.FileLayer.{FileLayer}
use Rattle.chain_model.specs.Images.{members_of}
use Rattle.chain_model.specs.Members.{layers_of}
use Rattle.layer_session.proofs.FileLayers.{each_same, first_file, have_hold, held_through, later_file, none_same, none_held}
use Rattle.layer_session.proofs.ReadOnly.{err_then, some_failed}
use Rattle.std.specs.Prelude.{Err}
use Rattle.store_model.specs.Disk.{Disk}
use Rattle.layer_session.specs.ReadOnly.{SomeReadFailed}
use Rattle.layer_session.proofs.Owned.{adds_found}
use Rattle.vx_base.proofs.Handed.{failed_for, not_ok, ok_then}
use Rattle.layer_session.proofs.Handing.{file_there, same_of_each, stays_then}
use Rattle.layer_session.proofs.file_layer.+own_files.Goals as goal

pub returns-clause-held : goal.returns-clause-held
returns-clause-held g t c =
    let upper = c.in-Some.upper.now in
    let below = c.in-Some.below.now in
    let disk = g.S.Store.disk c.args.store.now in
    let z = c.args.geometry.sector in
    let readable = subst (AreReadableFiles c.args.geometry disk) c.in-Some.ensures.cases.0 c.requires.readable in
    ok_then c.own_files.result
    (λ owned each trace told held.
    held_through upper below trace each z c.args.first c.args.count c.args.at c.args.mask.now c.own.new.mask c.own_files.new.mask c.args.out.now c.own.new.out c.own_files.new.out
    (λ layer one. subst (λ n. AddsOwned layer n c.args.first c.args.count c.args.at c.args.mask.now c.own.new.mask c.args.out.now c.own.new.out) readable.0.sector (c.in_ok-own.ensures.held layer trace told one))
    (λ rest each. owned rest trace (ap (λ d. d.told) c.in_ok-own.ensures.stays ∙ told) each) (subst (λ (layers : List FileLayer). Hold layers trace each) c.in-Some.ensures.cases.0 held))
    c.own_files.ensures.held

pub returns-clause-same : goal.returns-clause-same
returns-clause-same g t c =
    let upper = c.in-Some.upper.now in
    let below = c.in-Some.below.now in
    let disk = g.S.Store.disk c.args.store.now in
    let readable = subst (AreReadableFiles c.args.geometry disk) c.in-Some.ensures.cases.0 c.requires.readable in
    subst (λ (layers : List FileLayer). AreSameFiles c.args.geometry layers (c.own.new.self ∷ c.own_files.new.layers) disk) (sym c.in-Some.ensures.cases.0)
    (each_same c.args.geometry upper c.own.new.self below c.own_files.new.layers disk readable.0 c.own.ensures.same (subst (AreSameFiles c.args.geometry below c.own_files.new.layers) c.in_ok-own.ensures.stays c.own_files.ensures.same))

pub returns-in_err-own-clause-same : goal.returns-in_err-own-clause-same
returns-in_err-own-clause-same g t c =
    let upper = c.in-Some.upper.now in
    let below = c.in-Some.below.now in
    let disk = g.S.Store.disk c.args.store.now in
    let readable = subst (AreReadableFiles c.args.geometry disk) c.in-Some.ensures.cases.0 c.requires.readable in
    subst (λ (layers : List FileLayer). AreSameFiles c.args.geometry layers (c.own.new.self ∷ below) disk) (sym c.in-Some.ensures.cases.0)
    (each_same c.args.geometry upper c.own.new.self below below disk readable.0 c.own.ensures.same (none_same c.args.geometry below disk readable.1))

pub returns-clause-whose : goal.returns-clause-whose
returns-clause-whose g t c =
    let upper = c.in-Some.upper.now in
    let below = c.in-Some.below.now in
    subst (λ (layers : List FileLayer). IfErr c.own_files.result (λ fault. Contains (file_numbers layers) fault.file)) (sym c.in-Some.ensures.cases.0)
    (err_then (λ fault. Contains (file_numbers below) fault.file) (λ fault. Contains (file_numbers (upper ∷ below)) fault.file) c.own_files.result (λ fault h. later_file upper below fault.file h) c.own_files.ensures.whose)

pub returns-in_err-own-clause-whose : goal.returns-in_err-own-clause-whose
returns-in_err-own-clause-whose g t c =
    let upper = c.in-Some.upper.now in
    let below = c.in-Some.below.now in
    subst (λ (layers : List FileLayer). IfErr c.from_residual.result (λ fault. Contains (file_numbers layers) fault.file)) (sym c.in-Some.ensures.cases.0)
    (failed_for c.from_residual.result c.in_err-own.field-0.0 c.from_residual.ensures.1 (λ fault. Contains (file_numbers (upper ∷ below)) fault.file) (first_file upper below c.in_err-own.field-0.0.file c.in_err-own.ensures.err.of_file))

pub returns-clause-owned : goal.returns-clause-owned
returns-clause-owned g t c = ok_then c.own_files.result (λ held files trace told h. held (layers_of (members_of files)) trace told (have_hold c.args.layers.now trace files h)) (returns-clause-held g t c)

pub returns-in_default-clause-held : goal.returns-in_default-clause-held
returns-in_default-clause-held g t c each trace told held = none_held c.args.layers.now trace each c.args.geometry.sector c.args.first c.args.count c.args.at c.args.mask.now c.args.out.now c.in_default.ensures.cases held

pub returns-in_default-clause-owned : goal.returns-in_default-clause-owned
returns-in_default-clause-owned g t c files trace told held = returns-in_default-clause-held g t c (layers_of (members_of files)) trace told (have_hold c.args.layers.now trace files held)

pub are_set-requires-clause-within : goal.are_set-requires-clause-within
are_set-requires-clause-within g t c = c.requires.mask

pub are_set-requires-clause-fits : goal.are_set-requires-clause-fits
are_set-requires-clause-fits g t c = c.requires.ends

pub returns-then-are_set-clause-held : goal.returns-then-are_set-clause-held
returns-then-are_set-clause-held g t c = λ files trace told read. adds_found _ c.args.geometry.sector c.args.first c.args.count c.args.at c.args.mask.now c.args.out.now (c.are_set.ensures.0 c.if-are_set.true)

pub returns-in_err-own-clause-held : goal.returns-in_err-own-clause-held
returns-in_err-own-clause-held g t c = not_ok c.from_residual.result c.in_err-own.field-0.0 c.from_residual.ensures.1 _

pub returns-then-are_set-clause-owned : goal.returns-then-are_set-clause-owned
returns-then-are_set-clause-owned g t c = λ files trace told read. adds_found _ c.args.geometry.sector c.args.first c.args.count c.args.at c.args.mask.now c.args.out.now (c.are_set.ensures.0 c.if-are_set.true)

pub returns-in_err-own-clause-owned : goal.returns-in_err-own-clause-owned
returns-in_err-own-clause-owned g t c = not_ok c.from_residual.result c.in_err-own.field-0.0 c.from_residual.ensures.1 _

pub returns-then-are_set-clause-same : goal.returns-then-are_set-clause-same
returns-then-are_set-clause-same g t c = none_same c.args.geometry c.args.layers.now (g.S.Store.disk c.args.store.now) c.requires.readable

pub returns-then-are_set-clause-numbers : goal.returns-then-are_set-clause-numbers
returns-then-are_set-clause-numbers g t c = record { parts = refl; logs = refl }

pub returns-then-are_set-clause-headers : goal.returns-then-are_set-clause-headers
returns-then-are_set-clause-headers g t c = refl

pub returns-then-are_set-clause-stays : goal.returns-then-are_set-clause-stays
returns-then-are_set-clause-stays g t c = refl

pub returns-in_default-clause-same : goal.returns-in_default-clause-same
returns-in_default-clause-same g t c = none_same c.args.geometry c.args.layers.now (g.S.Store.disk c.args.store.now) c.requires.readable

pub returns-in_default-clause-numbers : goal.returns-in_default-clause-numbers
returns-in_default-clause-numbers g t c = record { parts = refl; logs = refl }

pub returns-in_default-clause-headers : goal.returns-in_default-clause-headers
returns-in_default-clause-headers g t c = refl

pub returns-in_default-clause-stays : goal.returns-in_default-clause-stays
returns-in_default-clause-stays g t c = refl

pub own-requires-clause-readable : goal.own-requires-clause-readable
own-requires-clause-readable g t c = (subst (AreReadableFiles c.args.geometry (g.S.Store.disk c.args.store.now)) c.in-Some.ensures.cases.0 c.requires.readable).0.can

pub own-requires-clause-on_disk : goal.own-requires-clause-on_disk
own-requires-clause-on_disk g t c = subst (λ n. c.args.first + c.args.count ≤ n) (sym (subst (AreReadableFiles c.args.geometry (g.S.Store.disk c.args.store.now)) c.in-Some.ensures.cases.0 c.requires.readable).0.sectors) c.requires.on_disk

pub own-requires-clause-out : goal.own-requires-clause-out
own-requires-clause-out g t c = subst (λ n. length c.args.out.now ≡ n * c.args.count) (sym (subst (AreReadableFiles c.args.geometry (g.S.Store.disk c.args.store.now)) c.in-Some.ensures.cases.0 c.requires.readable).0.sector) c.requires.out

pub own-requires-clause-mask : goal.own-requires-clause-mask
own-requires-clause-mask g t c = c.requires.mask

pub own-requires-clause-ends : goal.own-requires-clause-ends
own-requires-clause-ends g t c = c.requires.ends

pub returns-in_err-own-clause-stays : goal.returns-in_err-own-clause-stays
returns-in_err-own-clause-stays g t c = not_ok c.from_residual.result c.in_err-own.field-0.0 c.from_residual.ensures.1 _

pub returns-in_err-own-clause-err : goal.returns-in_err-own-clause-err
returns-in_err-own-clause-err g t c =
    failed_for c.from_residual.result c.in_err-own.field-0.0 c.from_residual.ensures.1 _
    (some_failed (number_of c.in-Some.upper.now) (g.S.Store.disk c.args.store.now) (g.S.Store.disk c.own.new.store) (Err c.in_err-own.field-0.0) (file_there c.in-Some.upper.now (g.S.Store.disk c.args.store.now) (subst (AreReadableFiles c.args.geometry (g.S.Store.disk c.args.store.now)) c.in-Some.ensures.cases.0 c.requires.readable).0.can) c.in_err-own.ensures.err)

pub returns-in_err-own-clause-numbers : goal.returns-in_err-own-clause-numbers
returns-in_err-own-clause-numbers g t c = record {
  parts = same_of_each table_parts c.args.layers.now c.in-Some.upper.now c.own.new.self c.in-Some.below.now c.in-Some.below.now c.in-Some.ensures.cases.0 c.own.ensures.same.parts refl;
  logs = same_of_each log_number c.args.layers.now c.in-Some.upper.now c.own.new.self c.in-Some.below.now c.in-Some.below.now c.in-Some.ensures.cases.0 c.own.ensures.same.number refl;
}

pub returns-in_err-own-clause-headers : goal.returns-in_err-own-clause-headers
returns-in_err-own-clause-headers g t c = same_of_each log_header c.args.layers.now c.in-Some.upper.now c.own.new.self c.in-Some.below.now c.in-Some.below.now c.in-Some.ensures.cases.0 c.own.ensures.same.header refl

pub returns-clause-numbers : goal.returns-clause-numbers
returns-clause-numbers g t c = record {
  parts = same_of_each table_parts c.args.layers.now c.in-Some.upper.now c.own.new.self c.in-Some.below.now c.own_files.new.layers c.in-Some.ensures.cases.0 c.own.ensures.same.parts c.own_files.ensures.numbers.parts;
  logs = same_of_each log_number c.args.layers.now c.in-Some.upper.now c.own.new.self c.in-Some.below.now c.own_files.new.layers c.in-Some.ensures.cases.0 c.own.ensures.same.number c.own_files.ensures.numbers.logs;
}

pub returns-clause-headers : goal.returns-clause-headers
returns-clause-headers g t c = same_of_each log_header c.args.layers.now c.in-Some.upper.now c.own.new.self c.in-Some.below.now c.own_files.new.layers c.in-Some.ensures.cases.0 c.own.ensures.same.header c.own_files.ensures.headers

pub returns-clause-stays : goal.returns-clause-stays
returns-clause-stays g t c = stays_then c.own_files.result (g.S.Store.disk c.args.store.now) (g.S.Store.disk c.own.new.store) (g.S.Store.disk c.own_files.new.store) c.in_ok-own.ensures.stays c.own_files.ensures.stays

pub returns-clause-err : goal.returns-clause-err
returns-clause-err g t c = subst (λ (d : Disk). IfErr c.own_files.result (SomeReadFailed d (g.S.Store.disk c.own_files.new.store))) c.in_ok-own.ensures.stays c.own_files.ensures.err

pub own_files-requires : goal.own_files-requires
own_files-requires g t c κs within =
    let r = (subst (AreReadableFiles c.args.geometry (g.S.Store.disk c.args.store.now)) c.in-Some.ensures.cases.0 c.requires.readable).1 in
    let longer = ap length c.in-Some.ensures.cases.0 in (
      omega (arith, longer),
      (within.0, (within.1, (subst (λ (d : Disk). AreReadableFiles c.args.geometry d c.in-Some.below.now) (sym c.in_ok-own.ensures.stays) r, (c.requires.on_disk, (omega arith, (omega arith, c.requires.ends)))))),
    )
