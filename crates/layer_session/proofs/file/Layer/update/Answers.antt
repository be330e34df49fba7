use Rattle.std.proofs.Common.{List, inl, refl, subst, sym, ◌∙◌}
use Rattle.store_model.specs.Disk.{WhereBothTold}
use Rattle.store_model.specs.File.{seen}
use Rattle.store_model.specs.Trace.{file_of}
use Rattle.vhdx_format.specs.declared.log_entry.Page.{Page}
use Rattle.table_pages.specs.declared.tables.Tables.{Tables}
use Rattle.log_write.specs.Writing.{CommitsAtEachMoment, KeepsBeside}
use Rattle.log_write.specs.Writing.{HasCommitted as HasCommittedPages}
use Rattle.log_write.proofs.Failed.{on_err}
use Rattle.layer_session.specs.declared.file.Layer.{Layer}
use Rattle.layer_session.specs.Calls.{HoldsRest}
use Rattle.layer_session.specs.Keeping.{IsReadable, IsReady}
use Rattle.layer_session.specs.Updating.{HasUpdated, UpdatesOver}
use Rattle.layer_session.proofs.Known.{counts_still}
use Rattle.layer_session.proofs.Untold.{both_none, no_told, reads_plainly}
use Rattle.layer_session.proofs.Updates.{behind_is, keeps_same, never_left_out, puts_all, runs_behind, torn_is, update_moments, update_readable, update_ready, update_rest, update_served}
use Rattle.layer_session.proofs.Equal.{true_false}
use Rattle.vx_base.proofs.Handed.{not_ok, ok_then, on_ok_any}
use Rattle.layer_session.proofs.file.Layer.update.Goals as goal

-- over a store that tells nothing: one that tells never comes here
pub write_plainly-requires-clause-there : goal.write_plainly-requires-clause-there
write_plainly-requires-clause-there g c = c.requires.ready.readable.there

pub write_plainly-requires-clause-untold : goal.write_plainly-requires-clause-untold
write_plainly-requires-clause-untold g c = no_told _ (never_left_out c.args.self.now c.args.pages.now (g.S.Store.disk c.args.store.now) c.requires.empty c.requires.turns (λ all. true_false (sym (c.can_take.ensures.1 all) ∙ c.if-not-can_take.true)))

pub returns-then-not-can_take-clause-moments : goal.returns-then-not-can_take-clause-moments
returns-then-not-can_take-clause-moments g c = both_none (UpdatesOver c.args.self.now c.args.pages.now) _ _ (no_told _ (never_left_out c.args.self.now c.args.pages.now (g.S.Store.disk c.args.store.now) c.requires.empty c.requires.turns (λ all. true_false (sym (c.can_take.ensures.1 all) ∙ c.if-not-can_take.true)))) c.write_plainly.ensures.untold

pub returns-then-not-can_take-clause-updated : goal.returns-then-not-can_take-clause-updated
returns-then-not-can_take-clause-updated g c = on_ok_any c.write_plainly.result _ (both_none (HasUpdated c.args.self.now c.args.self.now c.args.pages.now) _ _ (no_told _ (never_left_out c.args.self.now c.args.pages.now (g.S.Store.disk c.args.store.now) c.requires.empty c.requires.turns (λ all. true_false (sym (c.can_take.ensures.1 all) ∙ c.if-not-can_take.true)))) c.write_plainly.ensures.untold)

pub returns-then-not-can_take-clause-ready : goal.returns-then-not-can_take-clause-ready
returns-then-not-can_take-clause-ready g c = ok_then c.write_plainly.result (λ d. subst (IsReady c.args.self.now) (sym d) c.requires.ready) c.write_plainly.ensures.done

pub returns-then-not-can_take-clause-empty : goal.returns-then-not-can_take-clause-empty
returns-then-not-can_take-clause-empty g c = on_ok_any c.write_plainly.result _ c.requires.empty

pub returns-then-not-can_take-clause-space : goal.returns-then-not-can_take-clause-space
returns-then-not-can_take-clause-space g c = on_ok_any c.write_plainly.result _ (inl refl)

pub returns-then-not-can_take-clause-broken : goal.returns-then-not-can_take-clause-broken
returns-then-not-can_take-clause-broken g c =
    reads_plainly c.args.self.now c.args.self.now (g.S.Store.disk c.args.store.now) (g.S.Store.disk c.write_plainly.new.store) c.write_plainly.result c.requires.ready refl
    (no_told _ (never_left_out c.args.self.now c.args.pages.now (g.S.Store.disk c.args.store.now) c.requires.empty c.requires.turns (λ all. true_false (sym (c.can_take.ensures.1 all) ∙ c.if-not-can_take.true)))) c.write_plainly.ensures.untold c.write_plainly.ensures.err

pub returns-then-not-can_take-clause-counts : goal.returns-then-not-can_take-clause-counts
returns-then-not-can_take-clause-counts g c = ok_then c.write_plainly.result (λ d. counts_still (g.S.Store.disk c.args.store.now) (g.S.Store.disk c.write_plainly.new.store) d) c.write_plainly.ensures.done

pub returns-then-not-can_take-clause-err : goal.returns-then-not-can_take-clause-err
returns-then-not-can_take-clause-err g c = c.write_plainly.ensures.err

pub returns-in_err-commit-clause-moments : goal.returns-in_err-commit-clause-moments
returns-in_err-commit-clause-moments g c =
    let l : Layer = c.args.self.now in
    let old = g.S.Store.disk c.args.store.now in
    let new = g.S.Store.disk c.commit.new.store in
    update_moments l c.args.pages.now old new c.requires.ready.one_file c.requires.numbers c.requires.empty c.commit.ensures.only
    (subst (λ (p : List Page). CommitsAtEachMoment l.log p old.told new.told) c.put_pages.ensures.pending c.commit.ensures.moments)

pub returns-clause-moments : goal.returns-clause-moments
returns-clause-moments g c =
    let l : Layer = c.args.self.now in
    let old = g.S.Store.disk c.args.store.now in
    let new = g.S.Store.disk c.commit.new.store in
    update_moments l c.args.pages.now old new c.requires.ready.one_file c.requires.numbers c.requires.empty c.commit.ensures.only
    (subst (λ (p : List Page). CommitsAtEachMoment l.log p old.told new.told) c.put_pages.ensures.pending c.commit.ensures.moments)

pub returns-in_err-commit-clause-broken : goal.returns-in_err-commit-clause-broken
returns-in_err-commit-clause-broken g c =
    let l : Layer = c.args.self.now in
    let pages = c.args.pages.now in
    let made : Tables = c.put_pages.new.self in
    let old = g.S.Store.disk c.args.store.now in
    let new = g.S.Store.disk c.commit.new.store in
    let puts = puts_all l pages made c.put_pages.ensures.parts c.put_pages.ensures.pending c.put_pages.ensures.tables in
    let keeps = keeps_same l pages made c.put_pages.ensures.parts c.put_pages.ensures.pending c.put_pages.ensures.places in
    let beside : WhereBothTold (λ before after. KeepsBeside l.log pages (seen (file_of before l.log.file)) (seen (file_of after l.log.file))) old.told new.told =
    subst (λ (p : List Page). WhereBothTold (λ before after. KeepsBeside l.log p (seen (file_of before l.log.file)) (seen (file_of after l.log.file))) old.told new.told) c.put_pages.ensures.pending c.in_err-commit.ensures.beside in
    let readable = update_readable l pages old new c.requires.ready.one_file c.requires.numbers c.requires.empty c.commit.ensures.only made.cache puts keeps c.commit.new.self c.requires.ready c.requires.turns c.in_err-commit.field-0.0 c.in_err-commit.ensures.err beside in
    let rest = update_rest l pages old new c.requires.ready.one_file c.requires.numbers c.requires.empty c.commit.ensures.only made.cache puts keeps c.commit.new.self c.requires.ready c.requires.turns c.in_err-commit.field-0.0 c.in_err-commit.ensures.err beside in
    on_err c.from_residual.result
    (subst (λ (then : Layer). IsReadable then new × WhereBothTold (HoldsRest l then 0 0) old.told new.told) (torn_is l pages made c.put_pages.ensures.parts c.put_pages.ensures.pending c.commit.new.self c.commit.new.pending c.in_err-commit.ensures.kept) (readable, rest))

pub returns-clause-updated : goal.returns-clause-updated
returns-clause-updated g c =
    let l : Layer = c.args.self.now in
    let pages = c.args.pages.now in
    let made : Tables = c.put_pages.new.self in
    let old = g.S.Store.disk c.args.store.now in
    let new = g.S.Store.disk c.commit.new.store in
    let puts = puts_all l pages made c.put_pages.ensures.parts c.put_pages.ensures.pending c.put_pages.ensures.tables in
    let keeps = keeps_same l pages made c.put_pages.ensures.parts c.put_pages.ensures.pending c.put_pages.ensures.places in
    let content : WhereBothTold (λ before after. HasCommittedPages l.log pages (seen (file_of before l.log.file)) (seen (file_of after l.log.file))) old.told new.told =
    subst (λ (p : List Page). WhereBothTold (λ before after. HasCommittedPages l.log p (seen (file_of before l.log.file)) (seen (file_of after l.log.file))) old.told new.told) c.put_pages.ensures.pending c.in_ok-commit.ensures.content in
    let served = update_served l pages old new c.requires.ready.one_file c.requires.numbers c.requires.empty c.commit.ensures.only made.cache puts keeps
    (runs_behind l pages made c.put_pages.ensures.parts c.put_pages.ensures.pending c.commit.new.self old.told new.told c.in_ok-commit.ensures.log c.in_ok-commit.ensures.running) content in
    subst (λ (then : Layer). WhereBothTold (HasUpdated l then pages) old.told new.told) (behind_is l pages made c.put_pages.ensures.parts c.put_pages.ensures.pending c.commit.new.self c.commit.new.pending c.committed.new.self c.in_ok-commit.ensures.log c.in_ok-commit.ensures.taken c.committed.ensures) served

pub returns-clause-ready : goal.returns-clause-ready
returns-clause-ready g c =
    let l : Layer = c.args.self.now in
    let pages = c.args.pages.now in
    let made : Tables = c.put_pages.new.self in
    let old = g.S.Store.disk c.args.store.now in
    let new = g.S.Store.disk c.commit.new.store in
    let puts = puts_all l pages made c.put_pages.ensures.parts c.put_pages.ensures.pending c.put_pages.ensures.tables in
    let keeps = keeps_same l pages made c.put_pages.ensures.parts c.put_pages.ensures.pending c.put_pages.ensures.places in
    let content : WhereBothTold (λ before after. HasCommittedPages l.log pages (seen (file_of before l.log.file)) (seen (file_of after l.log.file))) old.told new.told =
    subst (λ (p : List Page). WhereBothTold (λ before after. HasCommittedPages l.log p (seen (file_of before l.log.file)) (seen (file_of after l.log.file))) old.told new.told) c.put_pages.ensures.pending c.in_ok-commit.ensures.content in
    let served = update_served l pages old new c.requires.ready.one_file c.requires.numbers c.requires.empty c.commit.ensures.only made.cache puts keeps
    (runs_behind l pages made c.put_pages.ensures.parts c.put_pages.ensures.pending c.commit.new.self old.told new.told c.in_ok-commit.ensures.log c.in_ok-commit.ensures.running) content in
    subst (λ (then : Layer). IsReady then new) (behind_is l pages made c.put_pages.ensures.parts c.put_pages.ensures.pending c.commit.new.self c.commit.new.pending c.committed.new.self c.in_ok-commit.ensures.log c.in_ok-commit.ensures.taken c.committed.ensures)
    (update_ready l pages old new c.requires.ready.one_file c.requires.numbers c.requires.empty c.commit.ensures.only made.cache puts keeps c.requires.ready c.requires.turns c.in_ok-commit.ensures.counts served)

pub returns-then-not-can_take-clause-header : goal.returns-then-not-can_take-clause-header
returns-then-not-can_take-clause-header g c = refl

pub returns-then-not-can_take-clause-leave : goal.returns-then-not-can_take-clause-leave
returns-then-not-can_take-clause-leave g c = refl

pub returns-then-not-can_take-clause-parts : goal.returns-then-not-can_take-clause-parts
returns-then-not-can_take-clause-parts g c = refl

pub returns-then-not-can_take-clause-plans : goal.returns-then-not-can_take-clause-plans
returns-then-not-can_take-clause-plans g c = refl

pub returns-clause-broken : goal.returns-clause-broken
returns-clause-broken g c = tt

pub returns-clause-err : goal.returns-clause-err
returns-clause-err g c = tt

pub returns-clause-leave : goal.returns-clause-leave
returns-clause-leave g c = refl

pub returns-clause-plans : goal.returns-clause-plans
returns-clause-plans g c = refl

pub returns-in_err-commit-clause-counts : goal.returns-in_err-commit-clause-counts
returns-in_err-commit-clause-counts g c = not_ok c.from_residual.result _ c.from_residual.ensures.1 _

pub returns-in_err-commit-clause-empty : goal.returns-in_err-commit-clause-empty
returns-in_err-commit-clause-empty g c = not_ok c.from_residual.result _ c.from_residual.ensures.1 _

pub returns-in_err-commit-clause-ready : goal.returns-in_err-commit-clause-ready
returns-in_err-commit-clause-ready g c = not_ok c.from_residual.result _ c.from_residual.ensures.1 _

pub returns-in_err-commit-clause-space : goal.returns-in_err-commit-clause-space
returns-in_err-commit-clause-space g c = not_ok c.from_residual.result _ c.from_residual.ensures.1 _

pub returns-in_err-commit-clause-updated : goal.returns-in_err-commit-clause-updated
returns-in_err-commit-clause-updated g c = not_ok c.from_residual.result _ c.from_residual.ensures.1 _

pub returns-in_err-commit-clause-leave : goal.returns-in_err-commit-clause-leave
returns-in_err-commit-clause-leave g c = refl

pub returns-in_err-commit-clause-plans : goal.returns-in_err-commit-clause-plans
returns-in_err-commit-clause-plans g c = refl
