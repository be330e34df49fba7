use Rattle.std.proofs.Common.{rules, arith}
use Rattle.store_model.specs.File.{seen}
use Rattle.store_model.specs.Trace.{file_of}
use Rattle.table_pages.specs.Held.{held_file}
use Rattle.layer_session.proofs.RunsRead.{bits_were_read}
use Rattle.layer_session.proofs.Whereabout.{part_located}
use Rattle.layer_session.proofs.locating.locate_part.Goals as goal

pub returns-in_err-bits-clause-reads : goal.returns-in_err-bits-clause-reads
returns-in_err-bits-clause-reads g c =
    bits_were_read c.args.tables.now (g.S.Store.disk c.args.store.now) c.args.first c.args.count c.requires.readable.tables c.requires.some c.requires.bitmap c.bits.new.self c.bits.ensures.as_held c.bits.ensures.places

pub returns-clause-located : goal.returns-clause-located
returns-clause-located g c t told =
    let part = c.requires.part t told in
    let most = c.first_run-run.ensures.most in
    part_located c.args.tables.now.parts (seen (file_of t c.args.tables.now.parts.file)) (held_file c.args.tables.now t) c.requires.readable.tables.sizes (c.requires.readable.stored t told) c.args.first c.args.count
    c.requires.bitmap.on_disk part.run c.args.place part c.requires.some c.bits.new.out (c.in_ok-bits.ensures.bits t told) c.first_run-run.result.count (let f = c.min-few.ensures in omega (arith, most, f)) (search rules) c.first_run-run.result.set c.by_bit.result c.first_run-run.ensures.same c.by_bit.ensures

pub returns-clause-reads : goal.returns-clause-reads
returns-clause-reads g c =
    bits_were_read c.args.tables.now (g.S.Store.disk c.args.store.now) c.args.first c.args.count c.requires.readable.tables c.requires.some c.requires.bitmap c.bits.new.self c.bits.ensures.as_held c.bits.ensures.places
