use Rattle.std.proofs.Common.{◌≡◌, ◌-◌, ◌<◌, None, refl, sym, ap, subst, ◌∙◌, arith}
use Rattle.store_model.specs.Disk.{Disk}
use Rattle.merge_plan.specs.Attached.{CanStart, IsAsOpened}
use Rattle.merge_plan.specs.Drawing.{JudgesDrawn, merge_ids}
use Rattle.merge_plan.specs.Merging.{HasPages, child_place}
use Rattle.merge_plan.specs.Planning.{Stops}
use Rattle.merge_plan.specs.Steps.{files_of}
use Rattle.merge_plan.proofs.Gathered.{not_if_ok_so, not_ok_so}
use Rattle.merge_plan.proofs.Lines.{sound_locator}
use Rattle.merge_plan.proofs.Planned.{AreLocators, are_short, can_plan, child_stops, has_plan, judge_stops, locators_stop, passed_on, source_there, source_stops}
use Rattle.merge_plan.proofs.merge.plan.Goals as goal

pub locators-requires-clause-source : goal.locators-requires-clause-source
locators-requires-clause-source g c =
    let m = files_of c.args.files.now c.args.found.now in
    let can = can_plan c.args.files.now (g.S.Store.disk c.args.store.now) m c.requires.can c.requires.found.files_are.files_are in
    sound_locator m.source m.target can.followed.source

pub locators-requires-clause-child : goal.locators-requires-clause-child
locators-requires-clause-child g c =
    let m = files_of c.args.files.now c.args.found.now in
    let can = can_plan c.args.files.now (g.S.Store.disk c.args.store.now) m c.requires.can c.requires.found.files_are.files_are in
    sound_locator m.child m.source can.followed.child

pub update-requires-clause-served : goal.update-requires-clause-served
update-requires-clause-served g c =
    let m = files_of c.args.files.now c.args.found.now in
    (can_plan c.args.files.now (g.S.Store.disk c.args.store.now) m c.requires.can c.requires.found.files_are.files_are).source_served

pub update-requires-clause-opened : goal.update-requires-clause-opened
update-requires-clause-opened g c =
    let m = files_of c.args.files.now c.args.found.now in
    let can = can_plan c.args.files.now (g.S.Store.disk c.args.store.now) m c.requires.can c.requires.found.files_are.files_are in
    λ t told. subst (λ k. IsAsOpened t k m.source) c.requires.found.place (can.source_opened t told)

pub update-requires-2-clause-served : goal.update-requires-2-clause-served
update-requires-2-clause-served g c =
    let m = files_of c.args.files.now c.args.found.now in
    (can_plan c.args.files.now (g.S.Store.disk c.args.store.now) m c.requires.can c.requires.found.files_are.files_are).child_served

pub update-requires-2-clause-opened : goal.update-requires-2-clause-opened
update-requires-2-clause-opened g c =
    let m = files_of c.args.files.now c.args.found.now in
    let can = can_plan c.args.files.now (g.S.Store.disk c.args.store.now) m c.requires.can c.requires.found.files_are.files_are in
    let above : child_place m ≡ c.args.found.now.place - 1 = omega (arith, c.requires.found.place) in
    λ t told. subst (λ k. IsAsOpened t k m.child) above (can.child_opened t (sym (ap (λ (d : Disk). d.told) c.in_ok-twice.ensures.stays) ∙ told))

pub returns-in_err-twice-clause-err : goal.returns-in_err-twice-clause-err
returns-in_err-twice-clause-err g c =
    let m = files_of c.args.files.now c.args.found.now in
    let old = g.S.Store.disk c.args.store.now in
    let new = g.S.Store.disk c.update.new.store in
    let l : AreLocators m c.args.ids.target.data_write c.in_ok-new.new.twice c.in_ok-new.new.once =
    record { twice_is = c.in_ok-new.ensures.twice; once_is = c.in_ok-new.ensures.once; short = c.in_ok-new.ensures.short } in
    passed_on (Stops c.args.files.now old new m c.args.ids) c.from_residual-in_err-twice.result c.in_err-twice.field-0.0 c.from_residual-in_err-twice.ensures.1
    (source_stops c.args.files.now m c.args.ids c.in_ok-new.new.twice c.in_ok-new.new.once l c.args.found.now.place (sym c.requires.found.place) old new c.in_err-twice.field-0.0 c.in_err-twice.ensures.err)

pub returns-in_err-relink-clause-err : goal.returns-in_err-relink-clause-err
returns-in_err-relink-clause-err g c =
    let m = files_of c.args.files.now c.args.found.now in
    let old = g.S.Store.disk c.args.store.now in
    let mid = g.S.Store.disk c.update.new.store in
    let new = g.S.Store.disk c.update-2.new.store in
    let l : AreLocators m c.args.ids.target.data_write c.in_ok-new.new.twice c.in_ok-new.new.once =
    record { twice_is = c.in_ok-new.ensures.twice; once_is = c.in_ok-new.ensures.once; short = c.in_ok-new.ensures.short } in
    passed_on (Stops c.args.files.now old new m c.args.ids) c.from_residual-in_err-relink.result c.in_err-relink.field-0.0 c.from_residual-in_err-relink.ensures.1
    (child_stops c.args.files.now m c.args.ids c.in_ok-new.new.twice c.in_ok-new.new.once l c.args.found.now.place (sym c.requires.found.place) c.in_ok-twice.twice old c.in_ok-twice.ensures.pages
    mid new c.in_err-relink.field-0.0 c.in_ok-twice.ensures.stays c.in_err-relink.ensures.err)

pub returns-in_err-judge-clause-err : goal.returns-in_err-judge-clause-err
returns-in_err-judge-clause-err g c =
    let m = files_of c.args.files.now c.args.found.now in
    let old = g.S.Store.disk c.args.store.now in
    let mid = g.S.Store.disk c.update-2.new.store in
    let new = g.S.Store.disk c.judge.new.store in
    let l : AreLocators m c.args.ids.target.data_write c.in_ok-new.new.twice c.in_ok-new.new.once =
    record { twice_is = c.in_ok-new.ensures.twice; once_is = c.in_ok-new.ensures.once; short = c.in_ok-new.ensures.short } in
    let relink : HasPages m.child.parts (c.args.found.now.place - 1) old c.in_ok-new.new.once c.in_ok-relink.relink =
    subst (λ (d : Disk). HasPages m.child.parts (c.args.found.now.place - 1) d c.in_ok-new.new.once c.in_ok-relink.relink) c.in_ok-twice.ensures.stays c.in_ok-relink.ensures.pages in
    passed_on (Stops c.args.files.now old new m c.args.ids) c.from_residual-in_err-judge.result c.in_err-judge.field-0.0 c.from_residual-in_err-judge.ensures.1
    (judge_stops c.args.files.now m c.args.ids c.in_ok-new.new.twice c.in_ok-new.new.once l c.args.found.now.place (sym c.requires.found.place) c.in_ok-twice.twice old c.in_ok-twice.ensures.pages
    c.in_ok-relink.relink relink mid new c.in_err-judge.field-0.0 (c.in_ok-relink.ensures.stays ∙ c.in_ok-twice.ensures.stays) c.in_err-judge.ensures.err)

pub returns-clause-planned : goal.returns-clause-planned
returns-clause-planned g c =
    let m = files_of c.args.files.now c.args.found.now in
    let old = g.S.Store.disk c.args.store.now in
    let can = can_plan c.args.files.now old m c.requires.can c.requires.found.files_are.files_are in
    let l : AreLocators m c.args.ids.target.data_write c.in_ok-new.new.twice c.in_ok-new.new.once =
    record { twice_is = c.in_ok-new.ensures.twice; once_is = c.in_ok-new.ensures.once; short = c.in_ok-new.ensures.short } in
    let relink : HasPages m.child.parts (c.args.found.now.place - 1) old c.in_ok-new.new.once c.in_ok-relink.relink =
    subst (λ (d : Disk). HasPages m.child.parts (c.args.found.now.place - 1) d c.in_ok-new.new.once c.in_ok-relink.relink) c.in_ok-twice.ensures.stays c.in_ok-relink.ensures.pages in
    let fit : JudgesDrawn c.args.files.now old (merge_ids c.args.ids) None =
    subst (λ (d : Disk). JudgesDrawn c.args.files.now d (merge_ids c.args.ids) None) (c.in_ok-relink.ensures.stays ∙ c.in_ok-twice.ensures.stays) c.in_ok-judge.ensures.fit in
    has_plan c.args.files.now old m (record { source = c.args.found.now.place; ids = c.args.ids; twice = c.in_ok-twice.twice; relink = c.in_ok-relink.relink }) c.args.found.now.place
    c.in_ok-new.new.twice c.in_ok-new.new.once can c.in_ok-new.ensures.typed c.requires.drawn refl (sym c.requires.found.place) fit l c.in_ok-twice.ensures.pages relink

pub returns-in_err-new-clause-planned : goal.returns-in_err-new-clause-planned
returns-in_err-new-clause-planned g c = not_if_ok_so c.from_residual.result c.from_residual.ensures.0 _

pub returns-in_err-new-clause-ids : goal.returns-in_err-new-clause-ids
returns-in_err-new-clause-ids g c = not_if_ok_so c.from_residual.result c.from_residual.ensures.0 _

pub returns-in_err-new-clause-stays : goal.returns-in_err-new-clause-stays
returns-in_err-new-clause-stays g c = not_ok_so c.from_residual.result c.from_residual.ensures.0 _

pub update-requires-clause-short : goal.update-requires-clause-short
update-requires-clause-short g c = (are_short c.in_ok-new.new.twice c.in_ok-new.new.once c.in_ok-new.ensures.short).0

pub returns-in_err-new-clause-err : goal.returns-in_err-new-clause-err
returns-in_err-new-clause-err g c =
    let m = files_of c.args.files.now c.args.found.now in
    let old = g.S.Store.disk c.args.store.now in
    passed_on (Stops c.args.files.now old old m c.args.ids) c.from_residual.result c.in_err-new.field-0.0 c.from_residual.ensures.1 (locators_stop c.args.files.now old m c.args.ids c.in_err-new.field-0.0 c.in_err-new.ensures.err)

pub returns-in_err-twice-clause-planned : goal.returns-in_err-twice-clause-planned
returns-in_err-twice-clause-planned g c = not_if_ok_so c.from_residual-in_err-twice.result c.from_residual-in_err-twice.ensures.0 _

pub returns-in_err-twice-clause-ids : goal.returns-in_err-twice-clause-ids
returns-in_err-twice-clause-ids g c = not_if_ok_so c.from_residual-in_err-twice.result c.from_residual-in_err-twice.ensures.0 _

pub returns-in_err-twice-clause-stays : goal.returns-in_err-twice-clause-stays
returns-in_err-twice-clause-stays g c = not_ok_so c.from_residual-in_err-twice.result c.from_residual-in_err-twice.ensures.0 _

pub returns-in_err-relink-clause-planned : goal.returns-in_err-relink-clause-planned
returns-in_err-relink-clause-planned g c = not_if_ok_so c.from_residual-in_err-relink.result c.from_residual-in_err-relink.ensures.0 _

pub returns-in_err-relink-clause-ids : goal.returns-in_err-relink-clause-ids
returns-in_err-relink-clause-ids g c = not_if_ok_so c.from_residual-in_err-relink.result c.from_residual-in_err-relink.ensures.0 _

pub returns-in_err-relink-clause-stays : goal.returns-in_err-relink-clause-stays
returns-in_err-relink-clause-stays g c = not_ok_so c.from_residual-in_err-relink.result c.from_residual-in_err-relink.ensures.0 _

pub returns-in_err-judge-clause-planned : goal.returns-in_err-judge-clause-planned
returns-in_err-judge-clause-planned g c = not_if_ok_so c.from_residual-in_err-judge.result c.from_residual-in_err-judge.ensures.0 _

pub returns-in_err-judge-clause-ids : goal.returns-in_err-judge-clause-ids
returns-in_err-judge-clause-ids g c = not_if_ok_so c.from_residual-in_err-judge.result c.from_residual-in_err-judge.ensures.0 _

pub returns-in_err-judge-clause-stays : goal.returns-in_err-judge-clause-stays
returns-in_err-judge-clause-stays g c = not_ok_so c.from_residual-in_err-judge.result c.from_residual-in_err-judge.ensures.0 _

pub judge-requires : goal.judge-requires
judge-requires g c = subst (CanStart c.args.files.now) (sym (c.in_ok-relink.ensures.stays ∙ c.in_ok-twice.ensures.stays)) c.requires.can

pub returns-clause-stays : goal.returns-clause-stays
returns-clause-stays g c = c.in_ok-judge.ensures.stays ∙ c.in_ok-relink.ensures.stays ∙ c.in_ok-twice.ensures.stays

pub update-requires-2-clause-short : goal.update-requires-2-clause-short
update-requires-2-clause-short g c = (are_short c.in_ok-new.new.twice c.in_ok-new.new.once c.in_ok-new.ensures.short).1

pub update-requires-clause-there : goal.update-requires-clause-there
update-requires-clause-there g c =
    subst (λ k. k < (g.S.Store.disk c.args.store.now).files) c.requires.found.place (source_there c.args.files.now (g.S.Store.disk c.args.store.now) (files_of c.args.files.now c.args.found.now) c.requires.can c.requires.found.files_are.files_are)

pub overflow_sub-found : goal.overflow_sub-found
overflow_sub-found g c = omega (arith, c.requires.found.place)

pub update-requires-2-clause-there : goal.update-requires-2-clause-there
update-requires-2-clause-there g c =
    let there = source_there c.args.files.now (g.S.Store.disk c.args.store.now) (files_of c.args.files.now c.args.found.now) c.requires.can c.requires.found.files_are.files_are in
    subst (λ (d : Disk). c.args.found.now.place - 1 < d.files) (sym c.in_ok-twice.ensures.stays) (omega (arith, there, c.requires.found.place))

pub returns-clause-ids : goal.returns-clause-ids
returns-clause-ids g c = refl
