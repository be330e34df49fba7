use Rattle.std.proofs.Common.{◌<◌, ◌≢◌, map, ℕ, slice_index}
use Rattle.read_plan.proofs.readers.find.Given as goal

abbrev pub invariant-loop-i : goal.invariant-loop-i
invariant-loop-i g l = (k : ℕ) → k < l.i → slice_index (map (λ f. (g.R.Reader.sealed f.reader).file) l.files) k ≢ l.number
