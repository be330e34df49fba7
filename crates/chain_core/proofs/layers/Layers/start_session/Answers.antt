use Rattle.std.proofs.Common.{◌≡◌, ◌∷◌, ◌-◌, List, length, take, drop, ap, sym, subst, ◌∙◌}
use Rattle.std.specs.Prelude.{Option}
use Rattle.store_model.specs.Trace.{Trace}
use Rattle.link_rules.specs.declared.linked.LinkedFile.{LinkedFile}
use Rattle.chain_core.specs.Starting.{BeginsLow, EachOpensAlike, LeavesOthersFrom, RefusesGuests}
use Rattle.store_model.specs.Disk.{Disk}
use Rattle.merge_plan.specs.Attached.{CanStart}
use Rattle.vx_base.proofs.Handed.{failed_for}
use Rattle.vx_base.proofs.Handed.{not_if_ok}
use Rattle.chain_core.proofs.Beginning.{files_rest, none_changed, of_disk, parted, session_answers}
use Rattle.chain_core.proofs.Fresh.{fresh}
use Rattle.chain_core.proofs.layers.Layers.start_session.Goals as goal

pub returns-in_err-new-clause-moments : goal.returns-in_err-new-clause-moments
returns-in_err-new-clause-moments g c =
    subst (λ (o : Option Trace). EachOpensAlike c.args.files.now (g.S.Store.disk c.args.store.now).told o) (sym c.choose_ids.ensures.told)
    (files_rest c.args.files.now (g.S.Store.disk c.args.store.now) c.requires.files)

pub returns-in_err-new-clause-still : goal.returns-in_err-new-clause-still
returns-in_err-new-clause-still g c = none_changed (g.S.Store.disk c.args.store.now).told _ c.choose_ids.ensures.told

pub begin-requires-clause-fresh : goal.begin-requires-clause-fresh
begin-requires-clause-fresh g c t told =
    let others : List LinkedFile = take (length c.args.files.now - 1) (drop 1 c.args.files.now) in
    let is : c.args.files.now ≡ c.leaf-item.result ∷ others = parted c.args.files.now c.leaf-item.result c.in-len1-up.len_at_least ∙ ap (λ (f : LinkedFile). f ∷ others) (sym c.leaf-item.is) in
    fresh c.args.files.now (g.S.Store.disk c.args.store.now) (g.I.Ids.drawn c.args.ids.now) (g.I.Ids.drawn c.choose_ids.new.ids) c.in_ok-new.new c.leaf-item.result others c.requires.files c.in_ok-new.ensures.fit is t
    (sym c.choose_ids.ensures.told ∙ told)

pub returns-in-len1-up-clause-begun : goal.returns-in-len1-up-clause-begun
returns-in-len1-up-clause-begun g c =
    let others : List LinkedFile = take (length c.args.files.now - 1) (drop 1 c.args.files.now) in
    let is : c.args.files.now ≡ c.leaf-item.result ∷ others = parted c.args.files.now c.leaf-item.result c.in-len1-up.len_at_least ∙ ap (λ (f : LinkedFile). f ∷ others) (sym c.leaf-item.is) in
    session_answers c.args.files.now c.leaf-item.result others c.in_ok-new.new c.begin.result (g.S.Store.disk c.args.store.now) (g.S.Store.disk c.choose_ids.new.store) (g.S.Store.disk c.begin.new.store)
    (g.I.Ids.drawn c.args.ids.now) (g.I.Ids.drawn c.choose_ids.new.ids) is c.in_ok-new.ensures.stays c.in_ok-new.ensures.fit c.begin.ensures.session c.begin.ensures.leaf c.begin.ensures.serving c.begin.ensures.counts

pub returns-in-len1-up-clause-geometry : goal.returns-in-len1-up-clause-geometry
returns-in-len1-up-clause-geometry g c =
    let others : List LinkedFile = take (length c.args.files.now - 1) (drop 1 c.args.files.now) in
    let is : c.args.files.now ≡ c.leaf-item.result ∷ others = parted c.args.files.now c.leaf-item.result c.in-len1-up.len_at_least ∙ ap (λ (f : LinkedFile). f ∷ others) (sym c.leaf-item.is) in
    of_disk c.args.files.now c.leaf-item.result others c.begin.result is c.begin.ensures.geometry

pub returns-in-len1-up-clause-moments : goal.returns-in-len1-up-clause-moments
returns-in-len1-up-clause-moments g c =
    let others : List LinkedFile = take (length c.args.files.now - 1) (drop 1 c.args.files.now) in
    let is : c.args.files.now ≡ c.leaf-item.result ∷ others = parted c.args.files.now c.leaf-item.result c.in-len1-up.len_at_least ∙ ap (λ (f : LinkedFile). f ∷ others) (sym c.leaf-item.is) in
    subst (λ (o : Option Trace). EachOpensAlike c.args.files.now o (g.S.Store.disk c.begin.new.store).told) c.choose_ids.ensures.told
    (subst (λ (files : List LinkedFile). EachOpensAlike files (g.S.Store.disk c.choose_ids.new.store).told (g.S.Store.disk c.begin.new.store).told) (sym is) c.begin.ensures.moments)

pub choose_ids-requires : goal.choose_ids-requires
choose_ids-requires g c = c.requires.files

pub returns-in_err-new-clause-begun : goal.returns-in_err-new-clause-begun
returns-in_err-new-clause-begun g c = not_if_ok c.from_residual.result _ c.from_residual.ensures.1 _

pub returns-in_err-new-clause-ready : goal.returns-in_err-new-clause-ready
returns-in_err-new-clause-ready g c = not_if_ok c.from_residual.result _ c.from_residual.ensures.1 _

pub returns-in_err-new-clause-low : goal.returns-in_err-new-clause-low
returns-in_err-new-clause-low g c = not_if_ok c.from_residual.result _ c.from_residual.ensures.1 _

pub returns-in_err-new-clause-geometry : goal.returns-in_err-new-clause-geometry
returns-in_err-new-clause-geometry g c = not_if_ok c.from_residual.result _ c.from_residual.ensures.1 _

pub returns-in-len1-up-clause-ready : goal.returns-in-len1-up-clause-ready
returns-in-len1-up-clause-ready g c = c.begin.ensures.ready

pub returns-in-len1-up-clause-low : goal.returns-in-len1-up-clause-low
returns-in-len1-up-clause-low g c = c.begin.ensures.low

pub returns-in-len1-up-clause-still : goal.returns-in-len1-up-clause-still
returns-in-len1-up-clause-still g c = subst (λ (o : Option Trace). LeavesOthersFrom o (g.S.Store.disk c.begin.new.store).told) c.choose_ids.ensures.told c.begin.ensures.still

pub begin-requires-clause-files : goal.begin-requires-clause-files
begin-requires-clause-files g c =
    let others : List LinkedFile = take (length c.args.files.now - 1) (drop 1 c.args.files.now) in
    let is : c.args.files.now ≡ c.leaf-item.result ∷ others = parted c.args.files.now c.leaf-item.result c.in-len1-up.len_at_least ∙ ap (λ (f : LinkedFile). f ∷ others) (sym c.leaf-item.is) in
    subst (λ (fs : List LinkedFile). CanStart fs (g.S.Store.disk c.choose_ids.new.store)) is (subst (λ (d : Disk). CanStart c.args.files.now d) (sym c.in_ok-new.ensures.stays) c.requires.files)

pub returns-in_err-new-clause-err : goal.returns-in_err-new-clause-err
returns-in_err-new-clause-err g c =
    failed_for c.from_residual.result c.in_err-new.field-0.0 c.from_residual.ensures.1 (RefusesGuests c.args.files.now (g.S.Store.disk c.args.store.now) (g.S.Store.disk c.choose_ids.new.store) (g.I.Ids.drawn c.args.ids.now) (g.I.Ids.drawn c.choose_ids.new.ids)) c.in_err-new.ensures.err

pub begin-requires-clause-low : goal.begin-requires-clause-low
begin-requires-clause-low g c =
    let others : List LinkedFile = take (length c.args.files.now - 1) (drop 1 c.args.files.now) in
    let is : c.args.files.now ≡ c.leaf-item.result ∷ others = parted c.args.files.now c.leaf-item.result c.in-len1-up.len_at_least ∙ ap (λ (f : LinkedFile). f ∷ others) (sym c.leaf-item.is) in
    subst BeginsLow is c.requires.low
