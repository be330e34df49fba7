use Rattle.std.proofs.Common.{◌≡◌, true, subst}
use Rattle.std.specs.Prelude.{OnOk, IfErr}
use Rattle.store_model.specs.Disk.{WhereBothTold}
use Rattle.layer_session.specs.Calls.{PutsInto, with_bytes}
use Rattle.layer_session.specs.Taking.{IsBroken, IsDone}
use Rattle.layer_session.specs.Masked.{all_or_none}
use Rattle.layer_session.proofs.Joining.{keeps_puts}
use Rattle.layer_session.proofs.Leading.{keeps_now}
use Rattle.layer_session.proofs.Masking.{all_named, none_done}
use Rattle.layer_session.proofs.Spots.{spots_self}
use Rattle.layer_session.proofs.file.Layer.put_all_or_none.Goals as goal

pub returns-then-not-is_named-clause-moments : goal.returns-then-not-is_named-clause-moments
returns-then-not-is_named-clause-moments g c =
    keeps_puts c.args.self.now c.args.first (all_or_none c.args.is_named c.args.count) (g.S.Store.disk c.args.store.now).told (g.S.Store.disk c.args.store.now).told (keeps_now c.args.self.now (g.S.Store.disk c.args.store.now).told)

pub returns-then-not-is_named-clause-done : goal.returns-then-not-is_named-clause-done
returns-then-not-is_named-clause-done g c = none_done c.args.self.now c.args.first c.args.count c.args.is_named c.args.bytes.now (g.S.Store.disk c.args.store.now) c.if-not-is_named.true c.requires.ready

pub returns-then-not-is_named-clause-spots : goal.returns-then-not-is_named-clause-spots
returns-then-not-is_named-clause-spots g c = spots_self c.args.self.now c.args.spot.marks (g.S.Store.disk c.args.store.now).told

pub returns-then-not-is_named-clause-places : goal.returns-then-not-is_named-clause-places
returns-then-not-is_named-clause-places g c at there = there

pub put_spot-requires-clause-ready : goal.put_spot-requires-clause-ready
put_spot-requires-clause-ready g c = c.requires.ready

pub put_spot-requires-clause-some : goal.put_spot-requires-clause-some
put_spot-requires-clause-some g c = c.requires.some

pub put_spot-requires-clause-whole : goal.put_spot-requires-clause-whole
put_spot-requires-clause-whole g c = c.requires.whole

pub put_spot-requires-clause-block : goal.put_spot-requires-clause-block
put_spot-requires-clause-block g c = c.requires.block

pub put_spot-requires-clause-spot : goal.put_spot-requires-clause-spot
put_spot-requires-clause-spot g c = c.requires.spot

pub put_spot-requires-clause-pages : goal.put_spot-requires-clause-pages
put_spot-requires-clause-pages g c = c.requires.pages

pub returns-clause-moments : goal.returns-clause-moments
returns-clause-moments g c =
    let on : c.args.is_named ≡ true = c.if-not-is_named.false in
    subst (λ n. WhereBothTold (PutsInto c.args.self.now c.args.first n) (g.S.Store.disk c.args.store.now).told (g.S.Store.disk c.put_spot.new.store).told) (all_named c.args.is_named c.args.count on) c.put_spot.ensures.moments

pub returns-clause-done : goal.returns-clause-done
returns-clause-done g c =
    let on : c.args.is_named ≡ true = c.if-not-is_named.false in
    subst (λ n. OnOk c.put_spot.result (IsDone c.args.self.now c.put_spot.new.self c.args.first n (with_bytes c.args.self.now.tables.parts.sector c.args.first n c.args.bytes.now) (g.S.Store.disk c.args.store.now) (g.S.Store.disk c.put_spot.new.store))) (all_named c.args.is_named c.args.count on) c.put_spot.ensures.done

pub returns-clause-spots : goal.returns-clause-spots
returns-clause-spots g c = c.put_spot.ensures.spots

pub returns-clause-places : goal.returns-clause-places
returns-clause-places g c = c.put_spot.ensures.places

pub returns-clause-broken : goal.returns-clause-broken
returns-clause-broken g c =
    let on : c.args.is_named ≡ true = c.if-not-is_named.false in
    subst (λ n. IfErr c.put_spot.result (IsBroken c.args.self.now c.put_spot.new.self c.args.first n (g.S.Store.disk c.args.store.now) (g.S.Store.disk c.put_spot.new.store))) (all_named c.args.is_named c.args.count on) c.put_spot.ensures.broken
