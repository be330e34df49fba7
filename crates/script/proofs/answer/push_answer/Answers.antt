use Rattle.std.proofs.Common.{map, ap, sym}
use Rattle.std.specs.Prelude.{string_bytes}
use Rattle.script.specs.declared.answer.Answer.{Answer}
use Rattle.script.specs.Transcript.{answer_text, outcome_of}
use Rattle.script.proofs.Appended.{not_written, written, written_both}
use Rattle.script.proofs.answer.push_answer.Goals as goal

pub returns-in-Bytes : goal.returns-in-Bytes
returns-in-Bytes g c = written c.push_runs.result (string_bytes c.args.out.now) (string_bytes c.push_runs.new.out) _ _ c.push_runs.ensures (sym (ap (λ (a : Answer). answer_text (map g.N.AsStr.text c.args.names.now) (outcome_of a)) c.in-Bytes.is))

pub returns-in-Copied : goal.returns-in-Copied
returns-in-Copied g c = written c.write-in-Copied.result (string_bytes c.args.out.now) (string_bytes c.write-in-Copied.new.self) _ _ c.write-in-Copied.ensures.bytes (sym (ap (λ (a : Answer). answer_text (map g.N.AsStr.text c.args.names.now) (outcome_of a)) c.in-Copied.is))

pub returns-in-Done : goal.returns-in-Done
returns-in-Done g c = written c.write.result (string_bytes c.args.out.now) (string_bytes c.write.new.self) _ _ c.write.ensures.bytes (sym (ap (λ (a : Answer). answer_text (map g.N.AsStr.text c.args.names.now) (outcome_of a)) c.in-Done.is))

pub returns-in-Stamp : goal.returns-in-Stamp
returns-in-Stamp g c = written c.write-in-Stamp.result (string_bytes c.args.out.now) (string_bytes c.write-in-Stamp.new.self) _ _ c.write-in-Stamp.ensures.bytes (sym (ap (λ (a : Answer). answer_text (map g.N.AsStr.text c.args.names.now) (outcome_of a)) c.in-Stamp.is))

pub returns-in_err-write-in-Refused : goal.returns-in_err-write-in-Refused
returns-in_err-write-in-Refused g c = not_written c.from_residual.result c.from_residual.ensures.0 _

pub returns-in_ok-write-in-Refused : goal.returns-in_ok-write-in-Refused
returns-in_ok-write-in-Refused g c =
    written_both c.push_refused.result (string_bytes c.args.out.now) (string_bytes c.write-in-Refused.new.self) (string_bytes c.push_refused.new.out) _ _ _ c.in_ok-write-in-Refused.ensures.bytes c.push_refused.ensures (sym (ap (λ (a : Answer). answer_text (map g.N.AsStr.text c.args.names.now) (outcome_of a)) c.in-Refused.is))
