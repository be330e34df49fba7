use Rattle.std.specs.Prelude.{string_bytes}
use Rattle.script.proofs.Appended.{not_written, written_thrice}
use Rattle.script.proofs.answer.push_answered.Goals as goal

pub returns-in_err-push_answer : goal.returns-in_err-push_answer
returns-in_err-push_answer g c = not_written c.from_residual-in_err-push_answer.result c.from_residual-in_err-push_answer.ensures.0 _

pub returns-in_err-push_form : goal.returns-in_err-push_form
returns-in_err-push_form g c = not_written c.from_residual.result c.from_residual.ensures.0 _

pub returns-in_err-write : goal.returns-in_err-write
returns-in_err-write g c = not_written c.from_residual-in_err-write.result c.from_residual-in_err-write.ensures.0 _

pub returns : goal.returns
returns g c =
    written_thrice (string_bytes c.args.out.now) (string_bytes c.push_form.new.out) (string_bytes c.write.new.self) (string_bytes c.push_answer.new.out) _ _ _ c.in_ok-push_form.ensures c.in_ok-write.ensures.bytes c.in_ok-push_answer.ensures
