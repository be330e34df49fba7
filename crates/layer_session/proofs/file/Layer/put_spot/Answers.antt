use Rattle.std.proofs.Common.{◌≡◌, ◌+◌, ◌≤◌, true, refl, sym, subst}
use Rattle.table_pages.specs.Held.{shape_of}
use Rattle.std.specs.Prelude.{OnOk, IfErr}
use Rattle.layer_session.proofs.Leading.{keeps_now}
use Rattle.store_model.specs.Disk.{WhereBothTold, WhereTold}
use Rattle.layer_session.specs.Calls.{PutsInto, sectors_in, with_bytes}
use Rattle.layer_session.specs.Masked.{KeepsSpots}
use Rattle.layer_session.specs.Steps.{StandFrom}
use Rattle.layer_session.specs.Taking.{IsBroken, IsDone}
use Rattle.layer_session.proofs.Marks.{Marks}
use Rattle.layer_session.proofs.Running.{bytes_all, run_broken, run_done, run_moments, sectors_of, stands_in, whole_in}
use Rattle.layer_session.proofs.Known.{of_parts, same_log}
use Rattle.layer_session.proofs.Spots.{entries_spots, in_chunk, spot_kept, spot_made, spot_ready, spots_then}
use Rattle.layer_session.proofs.Told.{if_err_map, ok_map}
use Rattle.layer_session.proofs.Equal.{not_is_false, not_is_true}
use Rattle.layer_session.proofs.file.Layer.put_spot.Goals as goal

pub returns-then-not-spot-clause-spots : goal.returns-then-not-spot-clause-spots
returns-then-not-spot-clause-spots g c =
    ok_map c.write.result _ _ c.write.ensures.same (entries_spots c.args.self.now c.args.spot.marks (g.S.Store.disk c.args.store.now) (g.S.Store.disk c.write.new.store) c.requires.ready)

pub write-requires-2-clause-ready : goal.write-requires-2-clause-ready
write-requires-2-clause-ready g c =
    let m : Marks c.args.self.now c.mark.new.self c.args.spot.bitmap c.args.first c.args.count true =
    record { only = c.mark.ensures.only; parts = c.mark.ensures.parts; within = c.mark.ensures.within; set = c.mark.ensures.set; places = c.mark.ensures.places } in
    let marks : c.args.spot.marks ≡ true = not_is_false c.if-not-spot.false in
    spot_ready c.args.self.now (g.S.Store.disk c.args.store.now) c.requires.ready c.args.spot c.args.first c.args.count c.requires.some c.requires.block.on_disk c.requires.block.run c.requires.spot marks c.mark.new.self m (in_chunk (shape_of c.args.self.now.tables.parts) (record { sector = c.requires.ready.readable.sizes.sector; block = c.requires.ready.readable.sizes.block }) _ _ c.requires.some c.requires.block.run)

pub write-requires-2-clause-stand : goal.write-requires-2-clause-stand
write-requires-2-clause-stand g c =
    let m : Marks c.args.self.now c.mark.new.self c.args.spot.bitmap c.args.first c.args.count true =
    record { only = c.mark.ensures.only; parts = c.mark.ensures.parts; within = c.mark.ensures.within; set = c.mark.ensures.set; places = c.mark.ensures.places } in
    let marks : c.args.spot.marks ≡ true = not_is_false c.if-not-spot.false in
    let made = spot_made c.args.self.now (g.S.Store.disk c.args.store.now) c.requires.ready c.args.spot c.args.first c.args.count c.requires.some c.requires.block.on_disk c.requires.block.run c.requires.spot marks c.mark.new.self m (in_chunk (shape_of c.args.self.now.tables.parts) (record { sector = c.requires.ready.readable.sizes.sector; block = c.requires.ready.readable.sizes.block }) _ _ c.requires.some c.requires.block.run) in
    let n = sectors_of c.args.self.now c.mark.new.self c.args.count c.args.bytes.now c.mark.ensures.parts c.requires.ready.readable.sizes.sector c.requires.whole in
    subst (λ k. WhereTold (g.S.Store.disk c.args.store.now).told (λ t. StandFrom c.mark.new.self c.args.first k c.args.spot.place t)) (sym n) (stands_in c.args.self.now c.mark.new.self c.args.first c.args.count c.args.spot.place (g.S.Store.disk c.args.store.now).told (g.S.Store.disk c.args.store.now).told made)

pub returns-clause-moments : goal.returns-clause-moments
returns-clause-moments g c =
    let m : Marks c.args.self.now c.mark.new.self c.args.spot.bitmap c.args.first c.args.count true =
    record { only = c.mark.ensures.only; parts = c.mark.ensures.parts; within = c.mark.ensures.within; set = c.mark.ensures.set; places = c.mark.ensures.places } in
    let marks : c.args.spot.marks ≡ true = not_is_false c.if-not-spot.false in
    let made = spot_made c.args.self.now (g.S.Store.disk c.args.store.now) c.requires.ready c.args.spot c.args.first c.args.count c.requires.some c.requires.block.on_disk c.requires.block.run c.requires.spot marks c.mark.new.self m (in_chunk (shape_of c.args.self.now.tables.parts) (record { sector = c.requires.ready.readable.sizes.sector; block = c.requires.ready.readable.sizes.block }) _ _ c.requires.some c.requires.block.run) in
    let n = sectors_of c.args.self.now c.mark.new.self c.args.count c.args.bytes.now c.mark.ensures.parts c.requires.ready.readable.sizes.sector c.requires.whole in
    run_moments c.args.self.now c.mark.new.self (g.S.Store.disk c.args.store.now) (g.S.Store.disk c.args.store.now) (g.S.Store.disk c.write-2.new.store) c.args.first c.args.count c.args.spot.place made c.mark.ensures.parts (same_log c.args.self.now c.mark.new.self c.mark.ensures.only) refl
    (keeps_now c.args.self.now (g.S.Store.disk c.args.store.now).told) (subst (λ k. WhereBothTold (PutsInto c.mark.new.self c.args.first k) (g.S.Store.disk c.args.store.now).told (g.S.Store.disk c.write-2.new.store).told) n c.write-2.ensures.moments)

pub returns-clause-done : goal.returns-clause-done
returns-clause-done g c =
    let m : Marks c.args.self.now c.mark.new.self c.args.spot.bitmap c.args.first c.args.count true =
    record { only = c.mark.ensures.only; parts = c.mark.ensures.parts; within = c.mark.ensures.within; set = c.mark.ensures.set; places = c.mark.ensures.places } in
    let marks : c.args.spot.marks ≡ true = not_is_false c.if-not-spot.false in
    let made = spot_made c.args.self.now (g.S.Store.disk c.args.store.now) c.requires.ready c.args.spot c.args.first c.args.count c.requires.some c.requires.block.on_disk c.requires.block.run c.requires.spot marks c.mark.new.self m (in_chunk (shape_of c.args.self.now.tables.parts) (record { sector = c.requires.ready.readable.sizes.sector; block = c.requires.ready.readable.sizes.block }) _ _ c.requires.some c.requires.block.run) in
    let n = sectors_of c.args.self.now c.mark.new.self c.args.count c.args.bytes.now c.mark.ensures.parts c.requires.ready.readable.sizes.sector c.requires.whole in
    ok_map c.write-2.result _ _ (subst (λ k. OnOk c.write-2.result (IsDone c.mark.new.self c.mark.new.self c.args.first k (with_bytes c.mark.new.self.tables.parts.sector c.args.first k c.args.bytes.now) (g.S.Store.disk c.args.store.now) (g.S.Store.disk c.write-2.new.store))) n c.write-2.ensures.done)
    (run_done c.args.self.now c.mark.new.self (g.S.Store.disk c.args.store.now) (g.S.Store.disk c.args.store.now) (g.S.Store.disk c.write-2.new.store) c.args.first c.args.count c.args.spot.place made c.mark.ensures.parts (same_log c.args.self.now c.mark.new.self c.mark.ensures.only) refl
    (λ z. with_bytes z c.args.first c.args.count c.args.bytes.now) (λ z. bytes_all z c.args.first c.args.count c.args.bytes.now))

pub returns-clause-spots : goal.returns-clause-spots
returns-clause-spots g c =
    let m : Marks c.args.self.now c.mark.new.self c.args.spot.bitmap c.args.first c.args.count true =
    record { only = c.mark.ensures.only; parts = c.mark.ensures.parts; within = c.mark.ensures.within; set = c.mark.ensures.set; places = c.mark.ensures.places } in
    let marks : c.args.spot.marks ≡ true = not_is_false c.if-not-spot.false in
    let mid_ready = spot_ready c.args.self.now (g.S.Store.disk c.args.store.now) c.requires.ready c.args.spot c.args.first c.args.count c.requires.some c.requires.block.on_disk c.requires.block.run c.requires.spot marks c.mark.new.self m (in_chunk (shape_of c.args.self.now.tables.parts) (record { sector = c.requires.ready.readable.sizes.sector; block = c.requires.ready.readable.sizes.block }) _ _ c.requires.some c.requires.block.run) in
    let kept = spot_kept c.args.self.now (g.S.Store.disk c.args.store.now) c.requires.ready c.args.spot c.args.first c.args.count c.requires.some c.requires.block.on_disk c.requires.block.run c.requires.spot marks c.mark.new.self m (in_chunk (shape_of c.args.self.now.tables.parts) (record { sector = c.requires.ready.readable.sizes.sector; block = c.requires.ready.readable.sizes.block }) _ _ c.requires.some c.requires.block.run) in
    ok_map c.write-2.result _ _ c.write-2.ensures.same
    (λ same. subst (λ b. WhereBothTold (KeepsSpots c.args.self.now c.mark.new.self b) (g.S.Store.disk c.args.store.now).told (g.S.Store.disk c.write-2.new.store).told) (sym marks)
    (spots_then c.args.self.now c.mark.new.self c.mark.new.self true (g.S.Store.disk c.args.store.now).told (g.S.Store.disk c.args.store.now).told (g.S.Store.disk c.write-2.new.store).told c.mark.ensures.parts kept
    (entries_spots c.mark.new.self true (g.S.Store.disk c.args.store.now) (g.S.Store.disk c.write-2.new.store) mid_ready same)))

pub returns-clause-broken : goal.returns-clause-broken
returns-clause-broken g c =
    let m : Marks c.args.self.now c.mark.new.self c.args.spot.bitmap c.args.first c.args.count true =
    record { only = c.mark.ensures.only; parts = c.mark.ensures.parts; within = c.mark.ensures.within; set = c.mark.ensures.set; places = c.mark.ensures.places } in
    let marks : c.args.spot.marks ≡ true = not_is_false c.if-not-spot.false in
    let made = spot_made c.args.self.now (g.S.Store.disk c.args.store.now) c.requires.ready c.args.spot c.args.first c.args.count c.requires.some c.requires.block.on_disk c.requires.block.run c.requires.spot marks c.mark.new.self m (in_chunk (shape_of c.args.self.now.tables.parts) (record { sector = c.requires.ready.readable.sizes.sector; block = c.requires.ready.readable.sizes.block }) _ _ c.requires.some c.requires.block.run) in
    let n = sectors_of c.args.self.now c.mark.new.self c.args.count c.args.bytes.now c.mark.ensures.parts c.requires.ready.readable.sizes.sector c.requires.whole in
    if_err_map c.write-2.result _ _ (subst (λ k. IfErr c.write-2.result (IsBroken c.mark.new.self c.mark.new.self c.args.first k (g.S.Store.disk c.args.store.now) (g.S.Store.disk c.write-2.new.store))) n c.write-2.ensures.broken)
    (run_broken c.args.self.now c.mark.new.self (g.S.Store.disk c.args.store.now) (g.S.Store.disk c.args.store.now) (g.S.Store.disk c.write-2.new.store) c.args.first c.args.count c.args.spot.place made c.mark.ensures.parts (same_log c.args.self.now c.mark.new.self c.mark.ensures.only) refl)

pub write-requires-clause-ready : goal.write-requires-clause-ready
write-requires-clause-ready g c = c.requires.ready

pub write-requires-clause-whole : goal.write-requires-clause-whole
write-requires-clause-whole g c = whole_in c.args.self.now c.args.self.now c.args.count c.args.bytes.now refl c.requires.ready.readable.sizes.sector c.requires.whole

pub write-requires-clause-on_disk : goal.write-requires-clause-on_disk
write-requires-clause-on_disk g c =
    let n = sectors_of c.args.self.now c.args.self.now c.args.count c.args.bytes.now refl c.requires.ready.readable.sizes.sector c.requires.whole in
    subst (λ k. c.args.first + k ≤ c.args.self.now.tables.parts.sectors) (sym n) c.requires.block.on_disk

pub write-requires-clause-stand : goal.write-requires-clause-stand
write-requires-clause-stand g c t told =
    let n = sectors_of c.args.self.now c.args.self.now c.args.count c.args.bytes.now refl c.requires.ready.readable.sizes.sector c.requires.whole in
    subst (λ k. StandFrom c.args.self.now c.args.first k c.args.spot.place t) (sym n) ((c.requires.spot t told).whole (not_is_true c.if-not-spot.true))

pub returns-then-not-spot-clause-moments : goal.returns-then-not-spot-clause-moments
returns-then-not-spot-clause-moments g c =
    let n = sectors_of c.args.self.now c.args.self.now c.args.count c.args.bytes.now refl c.requires.ready.readable.sizes.sector c.requires.whole in
    subst (λ k. WhereBothTold (PutsInto c.args.self.now c.args.first k) (g.S.Store.disk c.args.store.now).told (g.S.Store.disk c.write.new.store).told) n c.write.ensures.moments

pub returns-then-not-spot-clause-done : goal.returns-then-not-spot-clause-done
returns-then-not-spot-clause-done g c =
    let n = sectors_of c.args.self.now c.args.self.now c.args.count c.args.bytes.now refl c.requires.ready.readable.sizes.sector c.requires.whole in
    subst (λ k. OnOk c.write.result (IsDone c.args.self.now c.args.self.now c.args.first k (with_bytes c.args.self.now.tables.parts.sector c.args.first k c.args.bytes.now) (g.S.Store.disk c.args.store.now) (g.S.Store.disk c.write.new.store))) n c.write.ensures.done

pub returns-then-not-spot-clause-places : goal.returns-then-not-spot-clause-places
returns-then-not-spot-clause-places g c at there = there

pub returns-then-not-spot-clause-broken : goal.returns-then-not-spot-clause-broken
returns-then-not-spot-clause-broken g c =
    let n = sectors_of c.args.self.now c.args.self.now c.args.count c.args.bytes.now refl c.requires.ready.readable.sizes.sector c.requires.whole in
    subst (λ k. IfErr c.write.result (IsBroken c.args.self.now c.args.self.now c.args.first k (g.S.Store.disk c.args.store.now) (g.S.Store.disk c.write.new.store))) n c.write.ensures.broken

pub mark-requires-clause-chunk : goal.mark-requires-clause-chunk
mark-requires-clause-chunk g c = in_chunk (shape_of c.args.self.now.tables.parts) (record { sector = c.requires.ready.readable.sizes.sector; block = c.requires.ready.readable.sizes.block }) _ _ c.requires.some c.requires.block.run

pub mark-requires-clause-at_hand : goal.mark-requires-clause-at_hand
mark-requires-clause-at_hand g c = c.requires.pages.bits (not_is_false c.if-not-spot.false)

pub write-requires-2-clause-whole : goal.write-requires-2-clause-whole
write-requires-2-clause-whole g c = whole_in c.args.self.now c.mark.new.self c.args.count c.args.bytes.now c.mark.ensures.parts c.requires.ready.readable.sizes.sector c.requires.whole

pub write-requires-2-clause-on_disk : goal.write-requires-2-clause-on_disk
write-requires-2-clause-on_disk g c =
    let n = sectors_of c.args.self.now c.mark.new.self c.args.count c.args.bytes.now c.mark.ensures.parts c.requires.ready.readable.sizes.sector c.requires.whole in
    of_parts (λ p. c.args.first + sectors_in c.mark.new.self c.args.bytes.now ≤ p.sectors) _ _ c.mark.ensures.parts (subst (λ k. c.args.first + k ≤ c.args.self.now.tables.parts.sectors) (sym n) c.requires.block.on_disk)

pub returns-clause-places : goal.returns-clause-places
returns-clause-places g c at there = c.mark.ensures.within.keeps at there
