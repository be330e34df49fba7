use Rattle.std.proofs.Common.{◌≡◌, ℕ, List, length, ap, subst, ◌∙◌, arith}
use Rattle.store_model.specs.Trace.{Trace}
use Rattle.vhdx_format.specs.Locators.{locator_bytes}
use Rattle.meta_edit.specs.declared.ItemKind.TheVariants.{Locator}
use Rattle.meta_edit.specs.declared.laying.LaidFile.{LaidFile}
use Rattle.meta_edit.specs.Edits.{AnswersUpdate, changed_item}
use Rattle.meta_edit.specs.Pages.{laid_file}
use Rattle.meta_edit.proofs.Puts.{lies_within, ends_pages, ends_few, ends_file, ends_short, ends_store}
use Rattle.meta_edit.proofs.ReadAfter.{locator_answer}
use Rattle.meta_edit.proofs.locator_update.Goals as goal

pub returns-clause-reads : goal.returns-clause-reads
returns-clause-reads g c =
    let laid : LaidFile = record { file = c.args.file; parts = c.args.parts; over = c.args.over } in
    let shown : Trace → List ℕ = λ t. laid_file t c.args.file c.args.over.now in
    let value : c.as_slice.result.now ≡ locator_bytes c.args.new.now = c.as_slice.ensures ∙ c.in_ok-value.ensures.value in
    locator_answer c.update.result c.args.parts.now (g.S.Store.disk c.args.store.now).told shown (locator_bytes c.args.new.now) c.requires.parts
    (omega (arith, c.in_ok-value.ensures.short, ap length c.in_ok-value.ensures.value))
    (λ t is. lies_within laid (g.S.Store.disk c.args.store.now) t (record { there = c.requires.there; parts = c.requires.parts; over = c.requires.over; inside = c.requires.inside }) is)
    (λ t is. subst (λ (z : List ℕ). AnswersUpdate c.args.parts.now (shown t) (changed_item Locator c.args.parts.now z (shown t)) c.update.result) value (c.update.ensures.answer t is))

pub returns-clause-pages : goal.returns-clause-pages
returns-clause-pages g c = ends_pages (record { file = c.args.file; parts = c.args.parts; over = c.args.over }) (g.S.Store.disk c.args.store.now) (g.S.Store.disk c.update.new.store) c.update.result c.update.ensures.ends

pub returns-clause-few : goal.returns-clause-few
returns-clause-few g c = ends_few (record { file = c.args.file; parts = c.args.parts; over = c.args.over }) (g.S.Store.disk c.args.store.now) (g.S.Store.disk c.update.new.store) c.update.result c.update.ensures.ends

pub returns-clause-file : goal.returns-clause-file
returns-clause-file g c = ends_file (record { file = c.args.file; parts = c.args.parts; over = c.args.over }) (g.S.Store.disk c.args.store.now) (g.S.Store.disk c.update.new.store) c.update.result c.update.ensures.ends

pub returns-clause-short : goal.returns-clause-short
returns-clause-short g c = λ h. ends_short (record { file = c.args.file; parts = c.args.parts; over = c.args.over }) (g.S.Store.disk c.args.store.now) (g.S.Store.disk c.update.new.store) c.update.result c.update.ensures.ends

pub returns-clause-store : goal.returns-clause-store
returns-clause-store g c = ends_store (record { file = c.args.file; parts = c.args.parts; over = c.args.over }) (g.S.Store.disk c.args.store.now) (g.S.Store.disk c.update.new.store) c.update.result c.update.ensures.ends
