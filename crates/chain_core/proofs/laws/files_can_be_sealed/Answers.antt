use Rattle.chain_core.proofs.SealedSteps.{read_files_are_synced, sessions_write_theirs}
use Rattle.chain_core.proofs.laws.files_can_be_sealed.Goals as goal

pub returns-clause-written : goal.returns-clause-written
returns-clause-written c = sessions_write_theirs

pub returns-clause-synced : goal.returns-clause-synced
returns-clause-synced c = read_files_are_synced
