-- What contracts see of a worker's readers of sealed files.
use Rattle.std.specs.Prelude.{Option, List}
use Rattle.store_model.specs.Disk.{Sealed}
use Rattle.copy_workers.specs.declared.source.Source.{Source}

-- what they read, and which of them is of the source of the merge, if one is
pub record Reading : Type 0 where
  pub readers : List Sealed
  pub source : Option Source
