-- The exit status of the process.
use Rattle.std.specs.Prelude.{ℕ}
use Rattle.printing.specs.declared.status.Status.{Status}
use Rattle.printing.specs.declared.status.Status.TheVariants.{Done, Refused, Usage, Fault, NoMemory, Findings}

abbrev pub code_of : Status → ℕ
code_of Done = 0
code_of Refused = 1
code_of Usage = 2
code_of Fault = 3
code_of NoMemory = 4
code_of Findings = 5
