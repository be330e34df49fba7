use Rattle.std.proofs.Common.{◌≡◌, ◌<◌, ◌≤◌, ◌+◌, ap, inl, inr, refl, sym, subst, List, [], map, ◌∙◌}
use Rattle.store_model.specs.Plans.{FailsToChange}
use Rattle.vx_base.proofs.Handed.{failed_for, not_ok, ok_then, on_ok_any}
use Rattle.layer_session.specs.ByLayers.{TellsAllSame}
use Rattle.layer_session.proofs.Exits.{le_more}
use Rattle.layer_session.proofs.Known.{counts_still}
use Rattle.layer_session.proofs.Untold.{both_none, on_two, reads_plainly, untold_at}
use Rattle.layer_session.proofs.WriteSteps.{open_for}
use Rattle.store_model.specs.Disk.{WhereBothTold}
use Rattle.block_alloc.specs.Spaces as spaces
use Rattle.vhdx_format.specs.declared.log_entry.Page.{Page}
use Rattle.log_write.specs.Sessions.{LogState}
use Rattle.log_write.specs.Writing.{committed}
use Rattle.layer_session.specs.declared.file.Layer.{Layer}
use Rattle.layer_session.specs.Calls.{HasCommitted, HoldsRest, KeepsOver}
use Rattle.layer_session.specs.Keeping.{IsReadable, IsReady}
use Rattle.log_write.proofs.Failed.{on_err}
use Rattle.layer_session.proofs.Committed.{layer_behind}
use Rattle.layer_session.proofs.Committing.{Runs, commit_moments, commit_ready, commit_served, left_out}
use Rattle.layer_session.proofs.Failing.{holds_rest, readable_still, with_log}
use Rattle.store_model.specs.File.{seen}
use Rattle.store_model.specs.Trace.{file_of}
use Rattle.table_pages.specs.Held.{held, shape_of}
use Rattle.layer_session.specs.Bringing.{SaysAllSame}
use Rattle.layer_session.proofs.Says.{commit_says_told}
use Rattle.layer_session.proofs.Equal.{true_false}
use Rattle.layer_session.proofs.file.Layer.commit.Goals as goal

pub returns-clause-moments : goal.returns-clause-moments
returns-clause-moments g c =
    commit_moments c.args.self.now (g.S.Store.disk c.args.store.now) (g.S.Store.disk c.commit.new.store) c.requires.ready.one_file c.requires.numbers c.commit.ensures.moments c.commit.ensures.only

pub returns-in_err-commit-clause-moments : goal.returns-in_err-commit-clause-moments
returns-in_err-commit-clause-moments g c =
    commit_moments c.args.self.now (g.S.Store.disk c.args.store.now) (g.S.Store.disk c.commit.new.store) c.requires.ready.one_file c.requires.numbers c.commit.ensures.moments c.commit.ensures.only

pub returns-clause-committed : goal.returns-clause-committed
returns-clause-committed g c =
    let l : Layer = c.args.self.now in
    let taken : c.commit.new.pending ≡ [] = c.in_ok-commit.ensures.taken in
    let log : c.commit.new.self ≡ committed l.log l.tables.pending = c.in_ok-commit.ensures.log in
    let space : c.committed.new.self ≡ record (l.space) { freed = map spaces.committed l.space.freed } = c.committed.ensures in
    let e : layer_behind l (committed l.log l.tables.pending) ≡ record { tables = record { parts = l.tables.parts; pending = c.commit.new.pending; cache = l.tables.cache }; log = c.commit.new.self; space = c.committed.new.self; leave = l.leave; zeros = l.zeros; plans = l.plans } =
    λ i. record { tables = record { parts = l.tables.parts; pending = sym taken i; cache = l.tables.cache }; log = sym log i; space = sym space i; leave = l.leave; zeros = l.zeros; plans = l.plans } in
    let served : WhereBothTold (HasCommitted l (layer_behind l (committed l.log l.tables.pending))) (g.S.Store.disk c.args.store.now).told (g.S.Store.disk c.commit.new.store).told =
    commit_served l (g.S.Store.disk c.args.store.now) (g.S.Store.disk c.commit.new.store) c.requires.ready.one_file c.requires.numbers
    (subst (λ (s : LogState). Runs l s (g.S.Store.disk c.args.store.now) (g.S.Store.disk c.commit.new.store)) log c.in_ok-commit.ensures.running) c.in_ok-commit.ensures.content c.commit.ensures.only in
    subst (λ (n : Layer). WhereBothTold (HasCommitted l n) (g.S.Store.disk c.args.store.now).told (g.S.Store.disk c.commit.new.store).told) e served

pub returns-clause-ready : goal.returns-clause-ready
returns-clause-ready g c =
    let l : Layer = c.args.self.now in
    let taken : c.commit.new.pending ≡ [] = c.in_ok-commit.ensures.taken in
    let log : c.commit.new.self ≡ committed l.log l.tables.pending = c.in_ok-commit.ensures.log in
    let space : c.committed.new.self ≡ record (l.space) { freed = map spaces.committed l.space.freed } = c.committed.ensures in
    let e : layer_behind l (committed l.log l.tables.pending) ≡ record { tables = record { parts = l.tables.parts; pending = c.commit.new.pending; cache = l.tables.cache }; log = c.commit.new.self; space = c.committed.new.self; leave = l.leave; zeros = l.zeros; plans = l.plans } =
    λ i. record { tables = record { parts = l.tables.parts; pending = sym taken i; cache = l.tables.cache }; log = sym log i; space = sym space i; leave = l.leave; zeros = l.zeros; plans = l.plans } in
    let served : WhereBothTold (HasCommitted l (layer_behind l (committed l.log l.tables.pending))) (g.S.Store.disk c.args.store.now).told (g.S.Store.disk c.commit.new.store).told =
    commit_served l (g.S.Store.disk c.args.store.now) (g.S.Store.disk c.commit.new.store) c.requires.ready.one_file c.requires.numbers
    (subst (λ (s : LogState). Runs l s (g.S.Store.disk c.args.store.now) (g.S.Store.disk c.commit.new.store)) log c.in_ok-commit.ensures.running) c.in_ok-commit.ensures.content c.commit.ensures.only in
    subst (λ (n : Layer). IsReady n (g.S.Store.disk c.commit.new.store)) e
    (commit_ready l (g.S.Store.disk c.args.store.now) (g.S.Store.disk c.commit.new.store) c.requires.ready c.in_ok-commit.ensures.counts served)

pub returns-in_err-commit-clause-broken : goal.returns-in_err-commit-clause-broken
returns-in_err-commit-clause-broken g c =
    let l : Layer = c.args.self.now in
    let kept : l.tables.pending ≡ c.commit.new.pending = sym c.in_err-commit.ensures.kept in
    let old = g.S.Store.disk c.args.store.now in
    let new = g.S.Store.disk c.commit.new.store in
    let both : IsReadable (with_log l c.commit.new.self) new × WhereBothTold (HoldsRest l (with_log l c.commit.new.self) 0 0) old.told new.told = (
      readable_still l c.commit.new.self old new c.requires.ready c.in_err-commit.field-0.0 c.in_err-commit.ensures.err c.in_err-commit.ensures.beside,
      holds_rest l c.commit.new.self old new c.requires.ready c.in_err-commit.field-0.0 c.in_err-commit.ensures.err c.in_err-commit.ensures.beside,
    ) in
    on_err c.from_residual.result
    (subst (λ (p : List Page). (let then : Layer = record l { tables = record (l.tables) { pending = p }; log = c.commit.new.self } in IsReadable then new × WhereBothTold (HoldsRest l then 0 0) old.told new.told)) kept both)

pub returns-clause-says : goal.returns-clause-says
returns-clause-says g c =
    let l : Layer = c.args.self.now in
    let taken : c.commit.new.pending ≡ [] = c.in_ok-commit.ensures.taken in
    let old = g.S.Store.disk c.args.store.now in
    let new = g.S.Store.disk c.commit.new.store in
    subst (λ (p : List Page). WhereBothTold (λ before after. SaysAllSame (shape_of l.tables.parts) (held l.tables.pending (seen (file_of before l.tables.parts.file))) (held p (seen (file_of after l.tables.parts.file)))) old.told new.told) (sym taken)
    (commit_says_told l old new c.requires.ready c.in_ok-commit.ensures.content)

-- over a store that tells nothing: one that tells never comes here
pub commit_plainly-requires-clause-there : goal.commit_plainly-requires-clause-there
commit_plainly-requires-clause-there g c = c.requires.ready.readable.there

pub commit_plainly-requires-clause-untold : goal.commit_plainly-requires-clause-untold
commit_plainly-requires-clause-untold g c = untold_at c.args.self.now (g.S.Store.disk c.args.store.now) c.requires.ready (λ all. true_false (sym (c.can_commit.ensures.1 all) ∙ c.if-not-can_commit.true))

pub returns-then-not-can_commit-clause-ready : goal.returns-then-not-can_commit-clause-ready
returns-then-not-can_commit-clause-ready g c =
    let l : Layer = c.args.self.now in
    on_two c.commit_plainly.result
    (λ w d.
    subst (λ (n : Layer). IsReady n (g.S.Store.disk c.commit_plainly.new.store)) (sym w)
    (subst (IsReady (record l { tables = record (l.tables) { pending = [] } })) (sym d) (left_out l (g.S.Store.disk c.args.store.now) c.requires.ready (λ all. true_false (sym (c.can_commit.ensures.1 all) ∙ c.if-not-can_commit.true)))))
    c.commit_plainly.ensures.written c.commit_plainly.ensures.done

pub returns-then-not-can_commit-clause-moments : goal.returns-then-not-can_commit-clause-moments
returns-then-not-can_commit-clause-moments g c =
    both_none (KeepsOver c.args.self.now) _ _ (untold_at c.args.self.now (g.S.Store.disk c.args.store.now) c.requires.ready (λ all. true_false (sym (c.can_commit.ensures.1 all) ∙ c.if-not-can_commit.true))) c.commit_plainly.ensures.untold

pub returns-then-not-can_commit-clause-committed : goal.returns-then-not-can_commit-clause-committed
returns-then-not-can_commit-clause-committed g c =
    on_ok_any c.commit_plainly.result _
    (both_none (HasCommitted c.args.self.now c.commit_plainly.new.self) _ _ (untold_at c.args.self.now (g.S.Store.disk c.args.store.now) c.requires.ready (λ all. true_false (sym (c.can_commit.ensures.1 all) ∙ c.if-not-can_commit.true))) c.commit_plainly.ensures.untold)

pub returns-then-not-can_commit-clause-empty : goal.returns-then-not-can_commit-clause-empty
returns-then-not-can_commit-clause-empty g c = ok_then c.commit_plainly.result (λ w. ap (λ (n : Layer). n.tables.pending) w) c.commit_plainly.ensures.written

pub returns-then-not-can_commit-clause-number : goal.returns-then-not-can_commit-clause-number
returns-then-not-can_commit-clause-number g c =
    subst (λ (n : Layer). n.log.number ≤ c.args.self.now.log.number + 1) (sym c.commit_plainly.ensures.only) (le_more c.args.self.now.log.number 1)

pub returns-then-not-can_commit-clause-header : goal.returns-then-not-can_commit-clause-header
returns-then-not-can_commit-clause-header g c = ap (λ (n : Layer). n.log.header) c.commit_plainly.ensures.only

pub returns-then-not-can_commit-clause-parts : goal.returns-then-not-can_commit-clause-parts
returns-then-not-can_commit-clause-parts g c = c.commit_plainly.ensures.parts

pub returns-then-not-can_commit-clause-leave : goal.returns-then-not-can_commit-clause-leave
returns-then-not-can_commit-clause-leave g c = ap (λ (n : Layer). n.leave) c.commit_plainly.ensures.only

pub returns-then-not-can_commit-clause-plans : goal.returns-then-not-can_commit-clause-plans
returns-then-not-can_commit-clause-plans g c = ap (λ (n : Layer). n.plans) c.commit_plainly.ensures.only

pub returns-then-not-can_commit-clause-counts : goal.returns-then-not-can_commit-clause-counts
returns-then-not-can_commit-clause-counts g c = ok_then c.commit_plainly.result (λ d. counts_still (g.S.Store.disk c.args.store.now) (g.S.Store.disk c.commit_plainly.new.store) d) c.commit_plainly.ensures.done

pub returns-then-not-can_commit-clause-says : goal.returns-then-not-can_commit-clause-says
returns-then-not-can_commit-clause-says g c =
    on_ok_any c.commit_plainly.result _
    (both_none (TellsAllSame c.args.self.now c.commit_plainly.new.self) _ _ (untold_at c.args.self.now (g.S.Store.disk c.args.store.now) c.requires.ready (λ all. true_false (sym (c.can_commit.ensures.1 all) ∙ c.if-not-can_commit.true))) c.commit_plainly.ensures.untold)

pub returns-then-not-can_commit-clause-space : goal.returns-then-not-can_commit-clause-space
returns-then-not-can_commit-clause-space g c = on_ok_any c.commit_plainly.result _ (inl (ap (λ (n : Layer). n.space) c.commit_plainly.ensures.only))

pub returns-then-not-can_commit-clause-broken : goal.returns-then-not-can_commit-clause-broken
returns-then-not-can_commit-clause-broken g c =
    reads_plainly c.args.self.now c.commit_plainly.new.self (g.S.Store.disk c.args.store.now) (g.S.Store.disk c.commit_plainly.new.store) c.commit_plainly.result c.requires.ready c.commit_plainly.ensures.parts
    (untold_at c.args.self.now (g.S.Store.disk c.args.store.now) c.requires.ready (λ all. true_false (sym (c.can_commit.ensures.1 all) ∙ c.if-not-can_commit.true))) c.commit_plainly.ensures.untold c.commit_plainly.ensures.err

pub returns-then-not-can_commit-clause-err : goal.returns-then-not-can_commit-clause-err
returns-then-not-can_commit-clause-err g c = c.commit_plainly.ensures.err

pub commit-requires-clause-there : goal.commit-requires-clause-there
commit-requires-clause-there g c = subst (λ f. f < (g.S.Store.disk c.args.store.now).files) (sym c.requires.ready.one_file) c.requires.ready.readable.there

pub commit-requires-clause-pages : goal.commit-requires-clause-pages
commit-requires-clause-pages g c = c.can_commit.ensures.0 c.if-not-can_commit.false

pub returns-in_err-commit-clause-committed : goal.returns-in_err-commit-clause-committed
returns-in_err-commit-clause-committed g c = not_ok c.from_residual.result _ c.from_residual.ensures.1 _

pub returns-in_err-commit-clause-ready : goal.returns-in_err-commit-clause-ready
returns-in_err-commit-clause-ready g c = not_ok c.from_residual.result _ c.from_residual.ensures.1 _

pub returns-in_err-commit-clause-empty : goal.returns-in_err-commit-clause-empty
returns-in_err-commit-clause-empty g c = not_ok c.from_residual.result _ c.from_residual.ensures.1 _

pub returns-in_err-commit-clause-says : goal.returns-in_err-commit-clause-says
returns-in_err-commit-clause-says g c = not_ok c.from_residual.result _ c.from_residual.ensures.1 _

pub returns-in_err-commit-clause-space : goal.returns-in_err-commit-clause-space
returns-in_err-commit-clause-space g c = not_ok c.from_residual.result _ c.from_residual.ensures.1 _

pub returns-in_err-commit-clause-counts : goal.returns-in_err-commit-clause-counts
returns-in_err-commit-clause-counts g c = not_ok c.from_residual.result _ c.from_residual.ensures.1 _

pub returns-in_err-commit-clause-number : goal.returns-in_err-commit-clause-number
returns-in_err-commit-clause-number g c = c.commit.ensures.number

pub returns-in_err-commit-clause-header : goal.returns-in_err-commit-clause-header
returns-in_err-commit-clause-header g c = c.commit.ensures.header

pub returns-in_err-commit-clause-parts : goal.returns-in_err-commit-clause-parts
returns-in_err-commit-clause-parts g c = refl

pub returns-in_err-commit-clause-leave : goal.returns-in_err-commit-clause-leave
returns-in_err-commit-clause-leave g c = refl

pub returns-in_err-commit-clause-plans : goal.returns-in_err-commit-clause-plans
returns-in_err-commit-clause-plans g c = refl

pub returns-in_err-commit-clause-err : goal.returns-in_err-commit-clause-err
returns-in_err-commit-clause-err g c = failed_for c.from_residual.result _ c.from_residual.ensures.1 _ (subst (λ f. FailsToChange f (g.S.Store.disk c.args.store.now) (g.S.Store.disk c.commit.new.store) c.in_err-commit.field-0.0) c.requires.ready.one_file c.in_err-commit.ensures.err)

pub returns-clause-empty : goal.returns-clause-empty
returns-clause-empty g c = c.in_ok-commit.ensures.taken

pub returns-clause-number : goal.returns-clause-number
returns-clause-number g c = c.commit.ensures.number

pub returns-clause-header : goal.returns-clause-header
returns-clause-header g c = c.commit.ensures.header

pub returns-clause-parts : goal.returns-clause-parts
returns-clause-parts g c = refl

pub returns-clause-leave : goal.returns-clause-leave
returns-clause-leave g c = refl

pub returns-clause-plans : goal.returns-clause-plans
returns-clause-plans g c = refl

pub returns-clause-space : goal.returns-clause-space
returns-clause-space g c = inr c.committed.ensures

pub returns-clause-counts : goal.returns-clause-counts
returns-clause-counts g c = c.in_ok-commit.ensures.counts

pub commit-requires-clause-open : goal.commit-requires-clause-open
commit-requires-clause-open g c = open_for c.args.self.now (g.S.Store.disk c.args.store.now) c.requires.ready
