-- What refuses a start, by the faults of the crates below.
use Rattle.store_model.specs.declared.fault.SealFault.{SealFault}
use Rattle.store_model.specs.declared.fault.SealFault.TheVariants as seal
use Rattle.shown_ids.specs.declared.fault.CollectFault.{CollectFault}
use Rattle.shown_ids.specs.declared.fault.CollectFault.TheVariants as collect
use Rattle.chain_core.specs.declared.starting.StartRefusal.{StartRefusal}
use Rattle.chain_core.specs.declared.starting.StartRefusal.TheVariants.{NoRoom, Store}

abbrev pub of_collect : CollectFault → StartRefusal
of_collect (collect.Store fault) = Store fault
of_collect collect.NoRoom = NoRoom

abbrev pub of_seal : SealFault → StartRefusal
of_seal (seal.Store fault) = Store fault
of_seal seal.NoRoom = NoRoom
