-- Readers that guests and workers give back, and whether one of them has failed.
use Rattle.std.specs.Prelude.{◌||◌, Bool, false, List, [], ◌∷◌}
use Rattle.store_model.specs.Disk.{Sealed}
use Rattle.read_plan.specs.Reading.{has_failed}

-- one of the sets of readers has a reader that failed
abbrev pub any_failed : List (List Sealed) → Bool
any_failed [] = false
any_failed (set ∷ sets) = has_failed set || any_failed sets
