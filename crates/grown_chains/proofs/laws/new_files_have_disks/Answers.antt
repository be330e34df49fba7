use Rattle.grown_chains.proofs.Growing.{children_open, new_disks_open}
use Rattle.grown_chains.proofs.laws.new_files_have_disks.Goals as goal

pub returns : goal.returns
returns c = record { disks = new_disks_open; children = children_open }
