use Rattle.std.proofs.Common.{sym, ◌∙◌}
use Rattle.layer_session.specs.FileLayers.{Holds}
use Rattle.merge_core.specs.Pieces.{IsTaken, piece_of}
use Rattle.sealed_file.specs.Telling.{to_content}
use Rattle.sealed_file.proofs.Refused.{same_reader}
use Rattle.copy_workers.proofs.Sealed.{failed_by, readable, same_source}
use Rattle.copy_workers.proofs.source.read_stripe.Goals as goal

pub take-requires-clause-readable : goal.take-requires-clause-readable
take-requires-clause-readable g c = readable (g.R.Reader.sealed c.args.file.now.reader) c.args.file.now.refused c.args.source.now c.requires.readable

pub returns-in-Ok-clause-taken : goal.returns-in-Ok-clause-taken
returns-in-Ok-clause-taken g c layer =
    to_content (g.R.Reader.sealed c.args.file.now.reader).content (λ trace. Holds c.args.source.now.layer trace layer → IsTaken c.args.source.now.geometry.sector layer (piece_of c.take.new.self)) (c.in-Ok.ensures.held layer)

pub returns-in-Ok-clause-same : goal.returns-in-Ok-clause-same
returns-in-Ok-clause-same g c = same_source (g.R.Reader.sealed c.args.file.now.reader) c.args.file.now.refused c.args.source.now c.take.new.source c.take.ensures.same

pub returns-in-Ok-clause-stays : goal.returns-in-Ok-clause-stays
returns-in-Ok-clause-stays g c = same_reader (g.R.Reader.sealed c.take.new.store.reader) (g.R.Reader.sealed c.args.file.now.reader) c.take.new.store.refused c.args.file.now.refused c.in-Ok.ensures.stays

pub returns-in-Err-clause-same : goal.returns-in-Err-clause-same
returns-in-Err-clause-same g c = same_source (g.R.Reader.sealed c.args.file.now.reader) c.args.file.now.refused c.args.source.now c.take.new.source c.take.ensures.same

pub returns-in-Err-clause-err : goal.returns-in-Err-clause-err
returns-in-Err-clause-err g c =
    failed_by (g.R.Reader.sealed c.args.file.now.reader) (g.R.Reader.sealed c.take.new.store.reader) c.args.file.now.refused c.take.new.store.refused c.args.source.now c.in-Err.field-0 c.of_file.result c.requires.readable c.in-Err.ensures.err
    (c.of_file.ensures.file ∙ c.number-number.ensures ∙ sym c.args.file.now.is_sealed.of_file) c.of_file.ensures.count
