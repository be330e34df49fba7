-- Calls that were made one after the other.
use Rattle.std.proofs.Common.{◌++◌, List, [], ◌∷◌, Option, ap, subst}
use Rattle.vx_base.specs.declared.parts.Geometry.{Geometry}
use Rattle.disk_calls.specs.Disks.{Answered, Answers, Asked, IsTold, Known, Runs, Telling, Told}

-- calls behind others
pub runs_then : {D : Type 0} (tells : Telling D) (first next : List Answered) (old mid new : D)
    → Runs tells old first mid → Runs tells mid next new → Runs tells old (first ++ next) new
runs_then tells [] next old mid new a b = subst (λ k. Runs tells k next new) a b
runs_then tells (c ∷ first) next old mid new a b = (a.0, a.1, runs_then tells first next a.0 mid new a.2 b)

-- what a lawful disk tells of calls is true of the history that the guest knows
pub runs_truly : {D : Type 0} (tells : Telling D) (size : D → Geometry) (known : D → Option Known)
    → ((old new : D) (asked : Asked) (said : Told) → tells old asked said new → IsTold (size old) (size new) (known old) asked said (known new))
    → (calls : List Answered) (old new : D) → Runs tells old calls new → Runs (Answers (size old).sector) (known old) calls (known new)
runs_truly tells size known lawful [] old new runs = ap known runs
runs_truly {D = D} tells size known lawful (c ∷ calls) old new runs =
    let law = lawful old runs.0 c.asked c.said runs.1 in
    let rest = runs_truly tells size known lawful calls runs.0 new runs.2 in
    (known runs.0, law.answers, subst (λ (g : Geometry). Runs (Answers g.sector) (known runs.0) calls (known new)) law.size rest)
