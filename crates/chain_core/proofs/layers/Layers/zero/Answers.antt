use Rattle.std.proofs.Common.{not, refl, ap, sym, subst, ◌∙◌, ℕ, ◌≤◌, ◌+◌, ◌^◌}
use Rattle.std.specs.Prelude.{Some, IfErr, IfSome, Option, option_map}
use Rattle.guest_model.specs.declared.call.Call.TheVariants as calls
use Rattle.layer_session.specs.declared.file.Layer.{Layer}
use Rattle.layer_session.proofs.FileLayers.{others_stand}
use Rattle.chain_core.specs.Copying.{LayerFollows}
use Rattle.chain_core.specs.declared.layers.Layers.{Layers}
use Rattle.chain_core.proofs.Leafs.{follows_alike, follows_by, zero_told}
use Rattle.chain_core.proofs.Standing.{leaf_of, ready_still, room_is}
use Rattle.chain_core.proofs.Turning.{put_ties}
use Rattle.table_pages.specs.declared.tables.TableParts.{TableParts}
use Rattle.layer_session.specs.Calls.{Fails}
use Rattle.chain_core.specs.Sessions.{number_of_leaf}
use Rattle.chain_core.proofs.Places.{none_left}
use Rattle.chain_core.proofs.Noting.{low_stepped}
use Rattle.chain_core.proofs.Numbers.{far_next, few_zeros}
use Rattle.chain_core.proofs.layers.Layers.zero.Goals as goal

pub returns-clause-told : goal.returns-clause-told
returns-clause-told g c =
    let old : Layers = c.args.self.now in
    let new : Layers = record old { leaf = Some c.zero-done.new.self; retiring = c.touch.new.retiring } in
    let follows : LayerFollows c.args.place (calls.Trim c.args.first c.args.count) old new c.zero-done.result = follows_by c.args.place (calls.Trim c.args.first c.args.count) old new c.zero-done.result c.is_ok.result c.is_ok.ensures.value refl c.touch.ensures in
    zero_told c.args.place c.args.first c.args.count old new c.in-Some.leaf c.zero-done.new.self (g.S.Store.disk c.args.store.now) (g.S.Store.disk c.zero-done.new.store) c.zero-done.result
    (record { geometry = refl; below = refl; merge = refl; parts = c.zero-done.ensures.parts; was = c.in-Some.is; now = refl }) follows c.zero-done.ensures.moments c.zero-done.ensures.put c.zero-done.ensures.kept c.zero-done.ensures.quiet

pub returns-clause-merge : goal.returns-clause-merge
returns-clause-merge g c =
    let old : Layers = c.args.self.now in
    let new : Layers = record old { leaf = Some c.zero-done.new.self; retiring = c.touch.new.retiring } in
    follows_by c.args.place (calls.Trim c.args.first c.args.count) old new c.zero-done.result c.is_ok.result c.is_ok.ensures.value refl c.touch.ensures

pub returns-clause-ready : goal.returns-clause-ready
returns-clause-ready g c =
    let old : Layers = c.args.self.now in
    let new : Layers = record old { leaf = Some c.zero-done.new.self; retiring = c.touch.new.retiring } in
    let follows : LayerFollows c.args.place (calls.Trim c.args.first c.args.count) old new c.zero-done.result = follows_by c.args.place (calls.Trim c.args.first c.args.count) old new c.zero-done.result c.is_ok.result c.is_ok.ensures.value refl c.touch.ensures in
    ready_still old new c.in-Some.leaf c.zero-done.new.self _ (g.S.Store.disk c.args.store.now) (g.S.Store.disk c.zero-done.new.store) c.zero-done.result
    (record { geometry = refl; below = refl; merge = refl; parts = c.zero-done.ensures.parts; was = c.in-Some.is; now = refl }) (follows_alike c.args.place (calls.Trim c.args.first c.args.count) old new c.zero-done.result follows) c.zero-done.ensures.parts c.requires.ready
    (others_stand.put c.in-Some.leaf _ _ (g.S.Store.disk c.args.store.now) (g.S.Store.disk c.zero-done.new.store) (leaf_of old c.in-Some.leaf (g.S.Store.disk c.args.store.now) c.in-Some.is c.requires.ready).ready c.zero-done.ensures.moments)
    c.zero-done.ensures.counts c.zero-done.ensures.err c.zero-done.ensures.ready c.zero-done.ensures.refused (put_ties c.in-Some.leaf c.zero-done.new.self _ _ _ (g.S.Store.disk c.args.store.now).told (g.S.Store.disk c.zero-done.new.store).told c.zero-done.result c.zero-done.ensures.put c.zero-done.ensures.kept)

pub returns-clause-room : goal.returns-clause-room
returns-clause-room g c =
    room_is (λ (l : Layer). not l.leave) c.args.first c.args.count c.args.count c.args.self.now c.in-Some.leaf (g.S.Store.disk c.args.store.now) c.zero-done.result c.in-Some.is refl c.zero-done.ensures.full c.zero-done.ensures.room

pub returns-clause-session : goal.returns-clause-session
returns-clause-session g c = refl

pub returns-clause-geometry : goal.returns-clause-geometry
returns-clause-geometry g c = refl

pub returns-clause-leaf : goal.returns-clause-leaf
returns-clause-leaf g c = ap (λ (p : TableParts). p.file) c.zero-done.ensures.parts ∙ sym (ap number_of_leaf c.in-Some.is)

pub returns-clause-counts : goal.returns-clause-counts
returns-clause-counts g c = c.zero-done.ensures.counts

pub returns-clause-err : goal.returns-clause-err
returns-clause-err g c =
    subst (λ (n : ℕ). IfErr c.zero-done.result (Fails n (g.S.Store.disk c.args.store.now) (g.S.Store.disk c.zero-done.new.store))) (sym (ap number_of_leaf c.in-Some.is)) c.zero-done.ensures.err

pub returns-clause-low : goal.returns-clause-low
returns-clause-low g c =
    let old : Layers = c.args.self.now in
    let new : Layers = record old { leaf = Some c.zero-done.new.self; retiring = c.touch.new.retiring } in
    low_stepped old new c.in-Some.leaf c.zero-done.new.self c.in-Some.is refl refl c.zero-done.ensures.number

pub returns-in_default : goal.returns-in_default
returns-in_default g c = absurd (none_left c.args.self.now.leaf c.in_default.not-Some c.requires.session)

pub zero-done-requires-clause-ready : goal.zero-done-requires-clause-ready
zero-done-requires-clause-ready g c = (leaf_of c.args.self.now c.in-Some.leaf (g.S.Store.disk c.args.store.now) c.in-Some.is c.requires.ready).ready

pub zero-done-requires-clause-numbers : goal.zero-done-requires-clause-numbers
zero-done-requires-clause-numbers g c =
    far_next c.in-Some.leaf.log.number (subst (λ (o : Option Layer). IfSome (option_map (λ (l : Layer). l.log.number) o) (λ n. n ≤ 2 ^ 63 + 4)) c.in-Some.is c.requires.low.0)

pub zero-done-requires-clause-on_disk : goal.zero-done-requires-clause-on_disk
zero-done-requires-clause-on_disk g c =
    let leaf = leaf_of c.args.self.now c.in-Some.leaf (g.S.Store.disk c.args.store.now) c.in-Some.is c.requires.ready in
    subst (λ (n : ℕ). c.args.first + c.args.count ≤ n) (sym leaf.sectors) c.requires.on_disk

pub zero-done-requires-clause-few : goal.zero-done-requires-clause-few
zero-done-requires-clause-few g c =
    let leaf = leaf_of c.args.self.now c.in-Some.leaf (g.S.Store.disk c.args.store.now) c.in-Some.is c.requires.ready in
    few_zeros c.in-Some.leaf.tables.parts.sector c.args.count (sym (leaf.sector ∙ c.requires.ready.sector)) c.requires.few
