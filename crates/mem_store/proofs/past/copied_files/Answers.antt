use Rattle.std.proofs.Common.{ap}
use Rattle.mem_file.specs.MemFile.{contents}
use Rattle.mem_store.specs.MemStore.{all_contents}
use Rattle.mem_store.proofs.Copies.{all_copied, map_more, none_made}
use Rattle.mem_store.proofs.past.copied_files.Goals as goal

pub loop-file-init : goal.loop-file-init
loop-file-init c = ap all_contents c.new-copies.ensures.items

pub loop-file-preserved : goal.loop-file-preserved
loop-file-preserved c = map_more contents contents c.loop-file.copies.items c.push.new.self.items c.in_ok-copied_file.field-0 c.args.files.now c.loop-file.file-index c.file-item.result c.in_ok-push.ensures.items c.loop-file.invariant c.in_ok-copied_file.ensures c.loop-file-test.true c.file-item.is

pub returns : goal.returns
returns c = all_copied all_contents _ c.args.files.now c.loop-file.file-index c.loop-file.invariant c.loop-file-test.false

pub returns-in_err-push : goal.returns-in_err-push
returns-in_err-push c = none_made c.from_residual-in_err-push.result c.from_residual-in_err-push.ensures.0 _

pub returns-in_err-copied_file : goal.returns-in_err-copied_file
returns-in_err-copied_file c = none_made c.from_residual.result c.from_residual.ensures.0 _
