use Rattle.mem_store.specs.HostTold.{hosted_by}
use Rattle.store_model.specs.Disk.{WhereTold}
use Rattle.link_rules.specs.Folders.{AllIdle}
use Rattle.merge_tests.proofs.ranges.ask_ranges.Given as goal

abbrev pub invariant-loop-script : goal.invariant-loop-script
invariant-loop-script g l = WhereTold (hosted_by l.host).folder AllIdle
