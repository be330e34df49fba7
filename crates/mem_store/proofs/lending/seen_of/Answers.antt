use Rattle.std.proofs.Common.{◌≡◌, subst, false}
use Rattle.store_model.specs.Folder.{has_name}
use Rattle.mem_store.specs.Slots.{IsFoundAt, held_slots, names_of}
use Rattle.mem_store.proofs.Folders.{seen_here, seen_nowhere}
use Rattle.mem_store.proofs.lending.seen_of.Goals as goal

pub returns-then-i-slots : goal.returns-then-i-slots
returns-then-i-slots c =
    let slots = c.args.slots.now in
    seen_here slots c.find-i.result c.index-slots-i.result c.args.name.now _
    (subst (λ n. IsFoundAt c.find-i.result n (names_of slots)) c.as_bytes.ensures.bytes (c.find-i.ensures.found c.if-i-slots.true)) c.index-slots-i.is c.seen.ensures

pub returns-else-i-slots : goal.returns-else-i-slots
returns-else-i-slots c =
    let slots = c.args.slots.now in
    seen_nowhere slots c.args.name.now (subst (λ n. has_name n (held_slots slots) ≡ false) c.as_bytes.ensures.bytes (c.find-i.ensures.none c.if-i-slots.false))
