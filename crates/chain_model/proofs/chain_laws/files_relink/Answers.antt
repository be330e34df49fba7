use Rattle.chain_model.proofs.Relocating as relocating
use Rattle.chain_model.proofs.chain_laws.files_relink.Goals as goal

pub returns : goal.returns
returns c = record { source = relocating.linked_to_both; child = relocating.linked_to_target }
