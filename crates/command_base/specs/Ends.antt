-- How a run ends, whatever it was asked for (profile).
use Rattle.std.specs.Prelude.{◌≡◌, ◌≢◌, ◌⊎◌, ⊤, ℕ, List, Option, Some, None}
use Rattle.store_model.specs.Cause.{Rose}
use Rattle.store_model.specs.Disk.{WhereTold}
use Rattle.link_rules.specs.Folders.{AllIdle}
use Rattle.command_base.specs.Folders.{AllHome}
use Rattle.command_base.specs.Worlds.{World}
use Rattle.printing.specs.declared.status.Status.{Status}
use Rattle.printing.specs.declared.status.Status.TheVariants.{Fault, NoMemory}

-- a merge is asked for
abbrev pub HasMerge : Option (List ℕ) → Type 0
HasMerge None = ⊥
HasMerge (Some name) = ⊤

-- However it ends: a fault is answered only where a count rose, the host's, the source's or the sink's, and none is passed over. No file is
-- away, and nothing of any is unsynced but after a fault, and where memory ran out and a merge was to start.
pub record Ends (merges : Type 0) (before now : World) (status : Status) : Type 0 where
  pub rose : status ≡ Fault
      → Rose before.host.faults now.host.faults ⊎ (Rose before.source_faults now.source_faults ⊎ Rose before.sink_faults now.sink_faults)
  pub quiet : status ≢ Fault
      → (now.host.faults ≡ before.host.faults) × (now.source_faults ≡ before.source_faults) × (now.sink_faults ≡ before.sink_faults)
  pub home : WhereTold before.host.folder (λ folder. WhereTold now.host.folder AllHome)
  pub idle : status ≢ Fault → (status ≡ NoMemory → ¬ merges) → WhereTold before.host.folder (λ folder. WhereTold now.host.folder AllIdle)
