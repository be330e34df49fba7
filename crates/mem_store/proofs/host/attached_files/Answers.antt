use Rattle.std.proofs.Common.{ap, map, ◌∙◌}
use Rattle.store_model.specs.Folder.{fresh}
use Rattle.mem_file.specs.MemFile.{Contents, contents}
use Rattle.mem_store.specs.MemStore.{all_contents}
use Rattle.mem_store.specs.Slots.{held_slots, lent_contents}
use Rattle.mem_store.proofs.Copies.{all_copied, map_more, none_made}
use Rattle.mem_store.proofs.host.attached_files.Goals as goal

pub loop-name-init : goal.loop-name-init
loop-name-init c = ap all_contents c.new-files.ensures.items

pub loop-name-preserved : goal.loop-name-preserved
loop-name-preserved c =
    map_more contents (lent_contents (held_slots c.args.slots.now)) c.loop-name.files.items c.push.new.self.items c.in_ok-new.field-0 c.args.names.now c.loop-name.name-index c.name-item.result c.in_ok-push.ensures.items c.loop-name.invariant
    (c.in_ok-new.ensures ∙ ap (λ bytes. let made : Contents = record { name = c.name-item.result; file = fresh bytes; failed_reads = 0; failed_changes = 0 } in made) c.seen_of.ensures) c.loop-name-test.true c.name-item.is

pub returns : goal.returns
returns c = all_copied (map (lent_contents (held_slots c.args.slots.now))) _ c.args.names.now c.loop-name.name-index c.loop-name.invariant c.loop-name-test.false

pub returns-in_err-push : goal.returns-in_err-push
returns-in_err-push c = none_made c.from_residual-in_err-push.result c.from_residual-in_err-push.ensures.0 _

pub returns-in_err-new : goal.returns-in_err-new
returns-in_err-new c = none_made c.from_residual.result c.from_residual.ensures.0 _
