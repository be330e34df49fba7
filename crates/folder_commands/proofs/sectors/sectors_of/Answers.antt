use Rattle.std.proofs.Common.{◌*◌, length, sym, ap, subst, ◌∙◌, arith}
use Rattle.store_model.specs.Disk.{Disk}
use Rattle.vx_base.specs.Fields.{zeros}
use Rattle.layer_session.specs.ReadOnly.{AreRead}
use Rattle.command_base.specs.Causes.{LeavesStore}
use Rattle.command_base.specs.Commands.{placed_from}
use Rattle.folder_commands.proofs.Reading.{are_read, lent_whole, read_failed, readable_then, sectors_read, sectors_sized, served_sector}
use Rattle.folder_commands.proofs.sectors.sectors_of.Goals as goal

pub own_through-requires-clause-readable : goal.own_through-requires-clause-readable
own_through-requires-clause-readable g c =
    readable_then (g.S.Store.disk c.args.store.now) (g.S.Store.disk c.check_lengths.new.store) c.args.geometry c.args.files.now _ _ c.in_ok-check_lengths.ensures.store c.as_mut_slice.ensures.value c.requires.all c.in_ok-layers.ensures
    c.requires.opened c.in_ok-check_lengths.ensures.short c.requires.line c.requires.geometry

pub own_through-requires-clause-out : goal.own_through-requires-clause-out
own_through-requires-clause-out g c =
    ap (λ l. length l) c.as_mut_slice-2.ensures.value ∙ c.in_ok-bytes.ensures.len ∙ ap (λ n. n * c.args.count) (sym (served_sector c.args.files.now c.args.geometry c.requires.served c.requires.geometry))

pub returns-in_err-own_through-clause-store : goal.returns-in_err-own_through-clause-store
returns-in_err-own_through-clause-store g c =
    subst (λ (d : Disk). LeavesStore d (g.S.Store.disk c.own_through.new.store) c.from_residual-in_err-own_through.result) c.in_ok-check_lengths.ensures.store
    (read_failed (g.S.Store.disk c.check_lengths.new.store) (g.S.Store.disk c.own_through.new.store) c.from_residual-in_err-own_through.result c.in_err-own_through.field-0.0 c.from_residual-in_err-own_through.ensures.1
    c.in_err-own_through.ensures.err.0 c.in_err-own_through.ensures.err.1)

pub returns-clause-bytes : goal.returns-clause-bytes
returns-clause-bytes g c t told =
    let files = c.args.files.now in
    let told_then = ap (λ (d : Disk). d.told) c.in_ok-check_lengths.ensures.store ∙ told in
    let reads = are_read t 0 (length files) files c.in_ok-layers.layers.items (omega arith) c.in_ok-layers.ensures (c.requires.opened t told) (c.in_ok-check_lengths.ensures.short t told) in
    let zeroed = c.as_mut_slice-2.ensures.value ∙ c.in_ok-bytes.ensures.zeros ∙ ap (λ n. zeros (n * c.args.count)) (sym (served_sector files c.args.geometry c.requires.served c.requires.geometry)) in
    let owned = c.in_ok-own_through.ensures.owned (placed_from 0 files t) t told_then (subst (λ l. AreRead l t (placed_from 0 files t)) (sym c.as_mut_slice.ensures.value) reads) in
    c.from_vec.ensures ∙ lent_whole c.in_ok-bytes.bytes.len c.own_through.new.out c.in_ok-bytes.bytes.items (omega (arith, c.in_ok-bytes.bytes.ok.0)) (omega (arith, c.own_through.auto.out, ap (λ l. length l) c.as_mut_slice-2.ensures.value))
    ∙ sectors_read files c.args.geometry t c.args.first c.args.count 256 c.own_through.new.mask _ _ c.requires.geometry c.requires.on_disk zeroed owned

pub returns-clause-sized : goal.returns-clause-sized
returns-clause-sized g c t told =
    let files = c.args.files.now in
    let told_then = ap (λ (d : Disk). d.told) c.in_ok-check_lengths.ensures.store ∙ told in
    let reads = are_read t 0 (length files) files c.in_ok-layers.layers.items (omega arith) c.in_ok-layers.ensures (c.requires.opened t told) (c.in_ok-check_lengths.ensures.short t told) in
    let sector = served_sector files c.args.geometry c.requires.served c.requires.geometry in
    let zeroed = c.as_mut_slice-2.ensures.value ∙ c.in_ok-bytes.ensures.zeros ∙ ap (λ n. zeros (n * c.args.count)) (sym sector) in
    let owned = c.in_ok-own_through.ensures.owned (placed_from 0 files t) t told_then (subst (λ l. AreRead l t (placed_from 0 files t)) (sym c.as_mut_slice.ensures.value) reads) in
    sectors_sized files c.args.geometry t c.args.first c.args.count 256 c.own_through.new.mask _ _ c.requires.geometry sector c.requires.on_disk zeroed owned
