use Rattle.std.proofs.Common.{◌≡◌, ◌∷◌, [], ap, length, subst, sym, ◌<◌, ◌∙◌}
use Rattle.std.specs.Prelude.{All}
use Rattle.store_model.specs.Disk.{Disk, WhereTold, changed, reader_of}
use Rattle.store_model.specs.File.{Seal, seen}
use Rattle.store_model.specs.Trace.{file_of}
use Rattle.chain_core.proofs.SealedReaders.{readers_sealed, stopped_behind}
use Rattle.chain_core.proofs.sealing.seal_file.Goals as goal

pub add-requires-clause-each : goal.add-requires-clause-each
add-requires-clause-each g c =
    let file = c.args.file in
    let len = c.in_ok-len.len in
    let same = sym c.in_ok-len.ensures.stays in
    readers_sealed g.S.R.Reader.sealed file len c.args.sets (g.S.Store.disk c.len.new.self) c.in_ok-made.made.items c.in_ok-made.ensures.readers
    (subst (λ (d : Disk). WhereTold d.told (λ t. len ≡ length (seen (file_of t file)))) same c.in_ok-len.ensures.ok)
    (subst (λ (d : Disk). WhereTold d.told (λ t. file < length t.attached)) same c.requires.can.within) (g.met.S.Store.reads_are_images c.len.new.self)

pub returns-in-Ok-clause-readers : goal.returns-in-Ok-clause-readers
returns-in-Ok-clause-readers g c =
    c.in-Ok.ensures (reader_of c.args.file (g.S.Store.disk c.args.store.now))
    (subst (λ (d : Disk). All (λ r. g.S.R.Reader.sealed r ≡ reader_of c.args.file d) c.in_ok-made.made.items) c.in_ok-len.ensures.stays c.in_ok-made.ensures.readers.each)

pub returns-in-Err-clause-err : goal.returns-in-Err-clause-err
returns-in-Err-clause-err g c =
    stopped_behind (c.args.file ∷ []) (g.S.Store.disk c.args.store.now) (g.S.Store.disk c.seal.new.self) (c.in_ok-made.ensures.ok ∙ ap (λ (d : Disk). changed c.args.file Seal d) c.in_ok-len.ensures.stays)
