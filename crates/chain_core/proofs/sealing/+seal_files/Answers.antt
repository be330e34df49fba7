use Rattle.std.proofs.Common.{◌≡◌, ◌++◌, ap, arith, length, List, map, subst, sym, ◌∙◌, ℕ}
use Rattle.store_model.specs.Disk.{Sealed}
use Rattle.chain_core.specs.Sealed.{StopsSealing, read_numbers, readers_of}
use Rattle.chain_core.proofs.SealedSteps.{as_many, can_below, err_then, none_added, none_read, readers_more, stops_below, stops_here}
use Rattle.vx_base.proofs.Handed.{failed_for, ok_then}
use Rattle.chain_core.proofs.sealing.+seal_files.Goals as goal

pub returns-in_default-clause-readers : goal.returns-in_default-clause-readers
returns-in_default-clause-readers g t c =
    let sets : List (List Sealed) = c.args.readers.now in
    subst (λ (ns : List ℕ). sets ≡ map (λ set. set ++ readers_of ns (g.S.Store.disk c.args.store.now)) sets) (sym (none_read c.args.layers.now c.in_default.ensures.cases)) (none_added sets)

pub returns-in_err-seal_layer-clause-err : goal.returns-in_err-seal_layer-clause-err
returns-in_err-seal_layer-clause-err g t c =
    let disk = g.S.Store.disk c.args.store.now in
    let new = g.S.Store.disk c.seal_layer.new.store in
    let fault = c.in_err-seal_layer.field-0.0 in
    failed_for c.from_residual.result fault c.from_residual.ensures.1 (StopsSealing (read_numbers c.args.layers.now) disk new)
    (stops_here c.args.layers.now c.in-Some.upper.now c.in-Some.below.now c.in-Some.ensures.cases.0 disk new fault c.in_err-seal_layer.ensures.err)

pub seal_files-requires : goal.seal_files-requires
seal_files-requires g t c κs within =
    let longer = ap length c.in-Some.ensures.cases.0 in
    let can = can_below c.args.layers.now c.in-Some.upper.now c.in-Some.below.now c.in-Some.ensures.cases.0 (g.S.Store.disk c.args.store.now) (g.S.Store.disk c.seal_layer.new.store) c.in_ok-seal_layer.ensures.ok c.requires.can in
    let number = as_many c.args.readers.now c.seal_layer.new.readers _ c.in_ok-seal_layer.ensures.readers ∙ c.requires.number in
    (omega (arith, longer), (within.0, (within.1, (can, number))))

pub returns-clause-readers : goal.returns-clause-readers
returns-clause-readers g t c =
    ok_then c.seal_files.result
    (λ more. readers_more c.args.layers.now c.in-Some.upper.now c.in-Some.below.now c.in-Some.ensures.cases.0 (g.S.Store.disk c.args.store.now) (g.S.Store.disk c.seal_layer.new.store) c.args.readers.now c.seal_layer.new.readers c.seal_files.new.readers
    c.in_ok-seal_layer.ensures.ok c.in_ok-seal_layer.ensures.readers more)
    c.seal_files.ensures.readers

pub returns-clause-err : goal.returns-clause-err
returns-clause-err g t c =
    let disk = g.S.Store.disk c.args.store.now in
    let mid = g.S.Store.disk c.seal_layer.new.store in
    let new = g.S.Store.disk c.seal_files.new.store in
    err_then (StopsSealing (read_numbers c.in-Some.below.now) mid new) (StopsSealing (read_numbers c.args.layers.now) disk new) c.seal_files.result
    (λ fault stops. stops_below c.args.layers.now c.in-Some.upper.now c.in-Some.below.now c.in-Some.ensures.cases.0 disk mid new fault c.in_ok-seal_layer.ensures.ok stops) c.seal_files.ensures.err
