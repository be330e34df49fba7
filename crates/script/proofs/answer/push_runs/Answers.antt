use Rattle.std.proofs.Common.{refl}
use Rattle.std.specs.Prelude.{string_bytes}
use Rattle.script.specs.Transcript.{runs}
use Rattle.script.proofs.Appended.{not_written, run_written}
use Rattle.script.proofs.answer.push_runs.Goals as goal

pub loop-rest-init : goal.loop-rest-init
loop-rest-init c = refl

pub loop-rest-preserved : goal.loop-rest-preserved
loop-rest-preserved c =
    run_written _ (string_bytes c.loop-rest.out) (string_bytes c.write.new.self) (string_bytes c.push_byte.new.out) c.first_run-count.result.0 c.first_run-count.result.1 (runs c.loop-rest.rest.now) (runs c.first_run-count.result.2.now)
    c.in_ok-write.ensures.bytes c.in_ok-push_byte.ensures c.first_run-count.ensures.run c.loop-rest.invariant

pub returns-in_err-push_byte : goal.returns-in_err-push_byte
returns-in_err-push_byte c = not_written c.from_residual-in_err-push_byte.result c.from_residual-in_err-push_byte.ensures.0 _

pub returns-in_err-write : goal.returns-in_err-write
returns-in_err-write c = not_written c.from_residual.result c.from_residual.ensures.0 _
