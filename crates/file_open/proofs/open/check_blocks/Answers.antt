use Rattle.file_open.specs.Opening.{HasBlocks, sound}
use Rattle.store_model.specs.File.{seen}
use Rattle.store_model.specs.Trace.{file_of}
use Rattle.file_open.proofs.Opened.{blocks_refused, passed}
use Rattle.file_open.proofs.open.check_blocks.Goals as goal

pub returns-in_err-check-clause-answer : goal.returns-in_err-check-clause-answer
returns-in_err-check-clause-answer g c t told = passed (HasBlocks c.args.read.now.parts (seen (file_of t c.args.file))) _ _ c.from_residual.ensures.1 (blocks_refused c.args.read.now.parts _ _ (c.in_err-check.ensures.answer t told))

pub returns-clause-answer : goal.returns-clause-answer
returns-clause-answer g c t told = sound c.in_ok-check.field-0 (c.in_ok-check.ensures.answer t told)
