use Rattle.std.proofs.Common.{◌≡◌, drop}
use Rattle.clap.specs.Words.{app_of}
use Rattle.command_line.specs.Parsing.{with_forms}
use Rattle.command_line.proofs.parsing.with_forms.Given as goal

-- the command so far with the commands that are left
abbrev pub invariant-loop-form : goal.invariant-loop-form
invariant-loop-form l = with_forms (app_of l.command) (drop l.form-index l.forms) ≡ with_forms (app_of l.fn.command) l.forms
