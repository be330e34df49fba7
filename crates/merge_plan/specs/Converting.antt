-- What a fault or a refusal of the layers below becomes.
use Rattle.meta_edit.specs.declared.MetaRefusal.{MetaRefusal}
use Rattle.meta_edit.specs.declared.MetaRefusal.TheVariants as meta
use Rattle.shown_ids.specs.declared.fault.CollectFault.{CollectFault}
use Rattle.shown_ids.specs.declared.fault.CollectFault.TheVariants as collect
use Rattle.merge_plan.specs.declared.refusal.PrepareRefusal.{PrepareRefusal}
use Rattle.merge_plan.specs.declared.refusal.PrepareRefusal.TheVariants.{LocatorTooLarge, MetadataFull, Store, NoRoom}

abbrev pub of_collect : CollectFault → PrepareRefusal
of_collect (collect.Store fault) = Store fault
of_collect collect.NoRoom = NoRoom

abbrev pub of_meta : MetaRefusal → PrepareRefusal
of_meta (meta.LocatorTooLarge len) = LocatorTooLarge len
of_meta (meta.MetadataFull file) = MetadataFull file
of_meta (meta.Store fault) = Store fault
of_meta meta.NoRoom = NoRoom
