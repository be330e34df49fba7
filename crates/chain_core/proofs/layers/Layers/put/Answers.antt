use Rattle.std.proofs.Common.{◌/◌, ℕ, false, length, refl, ap, sym, subst, ◌∙◌, ◌≡◌, ◌≤◌, ◌+◌, ◌%◌, ◌^◌}
use Rattle.std.specs.Prelude.{Some, IfErr, IfSome, Option, option_map}
use Rattle.guest_model.specs.declared.call.Call.TheVariants as calls
use Rattle.layer_session.proofs.FileLayers.{others_stand}
use Rattle.chain_core.specs.Copying.{LayerFollows}
use Rattle.chain_core.specs.declared.layers.Layers.{Layers}
use Rattle.chain_core.proofs.Leafs.{follows_alike, follows_by, write_told, write_touches}
use Rattle.chain_core.proofs.Standing.{leaf_of, ready_still, room_is}
use Rattle.chain_core.proofs.Turning.{put_ties}
use Rattle.chain_core.proofs.Noting.{low_stepped}
use Rattle.table_pages.specs.declared.tables.TableParts.{TableParts}
use Rattle.layer_session.specs.Calls.{Fails}
use Rattle.chain_core.specs.Sessions.{number_of_leaf}
use Rattle.chain_core.proofs.Places.{none_left}
use Rattle.chain_core.proofs.Numbers.{far_next, few_bytes}
use Rattle.layer_session.specs.declared.file.Layer.{Layer}
use Rattle.chain_core.proofs.layers.Layers.put.Goals as goal

pub returns-clause-told : goal.returns-clause-told
returns-clause-told g c =
    let old : Layers = c.args.self.now in
    let new : Layers = record old { leaf = Some c.put-done.new.self; retiring = c.touch.new.retiring } in
    let follows : LayerFollows c.args.place (calls.Write c.args.first c.args.bytes.now) old new c.put-done.result = follows_by c.args.place (calls.Write c.args.first c.args.bytes.now) old new c.put-done.result c.is_ok.result c.is_ok.ensures.value refl (write_touches c.is_ok.result old.geometry.sector c.args.first _ c.args.place c.args.bytes.now old.retiring c.touch.new.retiring (ap (λ (n : ℕ). length c.args.bytes.now / n) c.from.ensures) c.touch.ensures) in
    write_told c.args.place c.args.first c.args.bytes.now old new c.in-Some.leaf c.put-done.new.self (g.S.Store.disk c.args.store.now) (g.S.Store.disk c.put-done.new.store) c.put-done.result
    (record { geometry = refl; below = refl; merge = refl; parts = c.put-done.ensures.parts; was = c.in-Some.is; now = refl }) follows c.put-done.ensures.moments c.put-done.ensures.put c.put-done.ensures.kept c.put-done.ensures.quiet

pub returns-clause-merge : goal.returns-clause-merge
returns-clause-merge g c =
    let old : Layers = c.args.self.now in
    let new : Layers = record old { leaf = Some c.put-done.new.self; retiring = c.touch.new.retiring } in
    follows_by c.args.place (calls.Write c.args.first c.args.bytes.now) old new c.put-done.result c.is_ok.result c.is_ok.ensures.value refl (write_touches c.is_ok.result old.geometry.sector c.args.first _ c.args.place c.args.bytes.now old.retiring c.touch.new.retiring (ap (λ (n : ℕ). length c.args.bytes.now / n) c.from.ensures) c.touch.ensures)

pub returns-clause-ready : goal.returns-clause-ready
returns-clause-ready g c =
    let old : Layers = c.args.self.now in
    let new : Layers = record old { leaf = Some c.put-done.new.self; retiring = c.touch.new.retiring } in
    let follows : LayerFollows c.args.place (calls.Write c.args.first c.args.bytes.now) old new c.put-done.result = follows_by c.args.place (calls.Write c.args.first c.args.bytes.now) old new c.put-done.result c.is_ok.result c.is_ok.ensures.value refl (write_touches c.is_ok.result old.geometry.sector c.args.first _ c.args.place c.args.bytes.now old.retiring c.touch.new.retiring (ap (λ (n : ℕ). length c.args.bytes.now / n) c.from.ensures) c.touch.ensures) in
    ready_still old new c.in-Some.leaf c.put-done.new.self _ (g.S.Store.disk c.args.store.now) (g.S.Store.disk c.put-done.new.store) c.put-done.result
    (record { geometry = refl; below = refl; merge = refl; parts = c.put-done.ensures.parts; was = c.in-Some.is; now = refl }) (follows_alike c.args.place (calls.Write c.args.first c.args.bytes.now) old new c.put-done.result follows) c.put-done.ensures.parts c.requires.ready
    (others_stand.put c.in-Some.leaf _ _ (g.S.Store.disk c.args.store.now) (g.S.Store.disk c.put-done.new.store) (leaf_of old c.in-Some.leaf (g.S.Store.disk c.args.store.now) c.in-Some.is c.requires.ready).ready c.put-done.ensures.moments)
    c.put-done.ensures.counts c.put-done.ensures.err c.put-done.ensures.ready c.put-done.ensures.refused (put_ties c.in-Some.leaf c.put-done.new.self _ _ _ (g.S.Store.disk c.args.store.now).told (g.S.Store.disk c.put-done.new.store).told c.put-done.result c.put-done.ensures.put c.put-done.ensures.kept)

pub returns-clause-room : goal.returns-clause-room
returns-clause-room g c =
    let leaf = leaf_of c.args.self.now c.in-Some.leaf (g.S.Store.disk c.args.store.now) c.in-Some.is c.requires.ready in
    room_is (λ l. false) c.args.first (length c.args.bytes.now / c.args.self.now.geometry.sector) (length c.args.bytes.now / c.in-Some.leaf.tables.parts.sector) c.args.self.now c.in-Some.leaf (g.S.Store.disk c.args.store.now) c.put-done.result
    c.in-Some.is (ap (λ (n : ℕ). length c.args.bytes.now / n) leaf.sector) c.put-done.ensures.full c.put-done.ensures.room

pub returns-clause-low : goal.returns-clause-low
returns-clause-low g c =
    let old : Layers = c.args.self.now in
    let new : Layers = record old { leaf = Some c.put-done.new.self; retiring = c.touch.new.retiring } in
    low_stepped old new c.in-Some.leaf c.put-done.new.self c.in-Some.is refl refl c.put-done.ensures.number

pub returns-clause-session : goal.returns-clause-session
returns-clause-session g c = refl

pub returns-clause-geometry : goal.returns-clause-geometry
returns-clause-geometry g c = refl

pub returns-clause-leaf : goal.returns-clause-leaf
returns-clause-leaf g c = ap (λ (p : TableParts). p.file) c.put-done.ensures.parts ∙ sym (ap number_of_leaf c.in-Some.is)

pub returns-clause-counts : goal.returns-clause-counts
returns-clause-counts g c = c.put-done.ensures.counts

pub returns-clause-err : goal.returns-clause-err
returns-clause-err g c =
    subst (λ (n : ℕ). IfErr c.put-done.result (Fails n (g.S.Store.disk c.args.store.now) (g.S.Store.disk c.put-done.new.store))) (sym (ap number_of_leaf c.in-Some.is)) c.put-done.ensures.err

pub returns-in_default : goal.returns-in_default
returns-in_default g c = absurd (none_left c.args.self.now.leaf c.in_default.not-Some c.requires.session)

pub put-done-requires-clause-ready : goal.put-done-requires-clause-ready
put-done-requires-clause-ready g c = (leaf_of c.args.self.now c.in-Some.leaf (g.S.Store.disk c.args.store.now) c.in-Some.is c.requires.ready).ready

pub put-done-requires-clause-numbers : goal.put-done-requires-clause-numbers
put-done-requires-clause-numbers g c =
    far_next c.in-Some.leaf.log.number (subst (λ (o : Option Layer). IfSome (option_map (λ (l : Layer). l.log.number) o) (λ n. n ≤ 2 ^ 63 + 4)) c.in-Some.is c.requires.low.0)

pub put-done-requires-clause-whole : goal.put-done-requires-clause-whole
put-done-requires-clause-whole g c =
    let leaf = leaf_of c.args.self.now c.in-Some.leaf (g.S.Store.disk c.args.store.now) c.in-Some.is c.requires.ready in
    subst (λ (z : ℕ). length c.args.bytes.now % z ≡ 0) (sym leaf.sector) c.requires.whole

pub put-done-requires-clause-on_disk : goal.put-done-requires-clause-on_disk
put-done-requires-clause-on_disk g c =
    let leaf = leaf_of c.args.self.now c.in-Some.leaf (g.S.Store.disk c.args.store.now) c.in-Some.is c.requires.ready in
    subst (λ (z : ℕ). c.args.first + length c.args.bytes.now / z ≤ c.in-Some.leaf.tables.parts.sectors) (sym leaf.sector)
    (subst (λ (n : ℕ). c.args.first + length c.args.bytes.now / c.args.self.now.geometry.sector ≤ n) (sym leaf.sectors) c.requires.on_disk)

pub put-done-requires-clause-few : goal.put-done-requires-clause-few
put-done-requires-clause-few g c = few_bytes (length c.args.bytes.now) c.args.self.now.geometry.sector (sym c.requires.ready.sector) c.requires.whole c.requires.few
