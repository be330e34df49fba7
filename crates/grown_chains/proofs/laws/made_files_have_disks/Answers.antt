use Rattle.grown_chains.proofs.Growing.{made_children_open, made_disks_open}
use Rattle.grown_chains.proofs.laws.made_files_have_disks.Goals as goal

pub returns : goal.returns
returns c = record { disks = made_disks_open; children = made_children_open }
