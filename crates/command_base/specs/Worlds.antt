-- What a run has outside of itself.
use Rattle.std.specs.Prelude.{ℕ, List, Option}
use Rattle.store_model.specs.Folder.{Hosted}

-- The host; the identifiers drawn so far, the bytes that the source has left and those that the sink took, each if it is told; and
-- the counts of faults of the source and of the sink.
pub record World : Type 0 where
  pub host : Hosted
  pub drawn : Option (List (List ℕ))
  pub left : Option (List ℕ)
  pub source_faults : ℕ
  pub written : Option (List ℕ)
  pub sink_faults : ℕ

abbrev pub world : Hosted → Option (List (List ℕ)) → Option (List ℕ) → ℕ → Option (List ℕ) → ℕ → World
world host drawn left source_faults written sink_faults =
    record { host = host; drawn = drawn; left = left; source_faults = source_faults; written = written; sink_faults = sink_faults }
