-- What a refusal stands for.
use Rattle.std.specs.Prelude.{Option, Some, None}
use Rattle.shown_ids.specs.declared.fault.CollectFault.{CollectFault}
use Rattle.shown_ids.specs.declared.fault.CollectFault.TheVariants.{Store}
use Rattle.store_model.specs.declared.fault.StoreFault.{StoreFault}

-- the fault of the store that it tells
abbrev pub fault_of : CollectFault → Option StoreFault
fault_of (Store fault) = Some fault
fault_of other = None
