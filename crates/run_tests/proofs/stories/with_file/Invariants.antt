use Rattle.mem_store.specs.HostTold.{hosted_by}
use Rattle.store_model.specs.Disk.{WhereTold}
use Rattle.link_rules.specs.Folders.{AllIdle}
use Rattle.run_tests.proofs.stories.with_file.Given as goal

abbrev pub invariant-loop-slot : goal.invariant-loop-slot
invariant-loop-slot g l = WhereTold (hosted_by l.next).folder AllIdle
