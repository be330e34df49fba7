-- The status by what refuses a run.
use Rattle.std.proofs.Common.{◌≡◌, ℕ, List, refl}
use Rattle.file_open.specs.Causes.{Meaning, refuses, host_failed, store_failed, no_memory}
use Rattle.file_open.specs.Opening as opening
use Rattle.link_rules.specs.Causes.{of_file}
use Rattle.link_rules.specs.Chains as chains
use Rattle.command_base.specs.Causes.{of_chain}
use Rattle.nbd_command.specs.Clients.{status_meant}

-- it is that of what is refused below
pub chain_status : (m : Meaning chains.Refusal) → status_meant m ≡ status_meant (of_chain m)
chain_status (refuses r) = refl
chain_status (host_failed fault) = refl
chain_status (store_failed fault) = refl
chain_status no_memory = refl

pub file_status : (file : List ℕ) (m : Meaning opening.Refusal) → status_meant m ≡ status_meant (of_file file m)
file_status file (refuses r) = refl
file_status file (host_failed fault) = refl
file_status file (store_failed fault) = refl
file_status file no_memory = refl
