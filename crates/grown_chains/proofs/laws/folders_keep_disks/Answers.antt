use Rattle.grown_chains.proofs.Added.{following_keeps, links_lead, one_way, others_open_still}
use Rattle.grown_chains.proofs.laws.folders_keep_disks.Goals as goal

pub returns : goal.returns
returns c = record { others = others_open_still; followed = following_keeps; way = one_way; links = links_lead }
