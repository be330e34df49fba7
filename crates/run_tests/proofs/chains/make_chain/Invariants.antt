use Rattle.mem_store.specs.HostTold.{hosted_by}
use Rattle.store_model.specs.Disk.{WhereTold}
use Rattle.link_rules.specs.Folders.{AllIdle}
use Rattle.run_tests.proofs.chains.make_chain.Given as goal

abbrev pub invariant-loop-parent : goal.invariant-loop-parent
invariant-loop-parent g l = WhereTold (hosted_by l.host).folder AllIdle
