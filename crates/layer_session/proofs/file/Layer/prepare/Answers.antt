use Rattle.std.proofs.Common.{◌≡◌, ◌/◌, ◌∙◌, ◌+◌, ◌≤◌, ap, sym, subst, true}
use Rattle.std.specs.Prelude.{Err, Result}
use Rattle.layer_session.specs.declared.file.LayerFault.{LayerFault}
use Rattle.layer_session.specs.declared.file.LayerFault.TheVariants.{FileFull}
use Rattle.layer_session.specs.declared.planning.Wanted.{Wanted}
use Rattle.layer_session.specs.Calls.{OnRoom}
use Rattle.layer_session.specs.Steps.{has_room}
use Rattle.vhdx_format.specs.Fields.{megabyte}
use Rattle.block_alloc.specs.Spaces.{fits_in}
use Rattle.table_pages.specs.declared.tables.TableParts.{TableParts}
use Rattle.layer_session.proofs.CallPrepared.{done_begins, idle_begins, idle_prepared, no_room, planned_here, some_here}
use Rattle.layer_session.proofs.Leading.{leads_on, tells_broken, tells_moments, tells_refused}
use Rattle.layer_session.proofs.Equal.{err_same}
use Rattle.log_write.specs.Sessions.{LogState}
use Rattle.layer_session.specs.Bringing.{Leads}
use Rattle.vx_base.proofs.Handed.{err_is, not_ok}
use Rattle.layer_session.proofs.Exits.{le_more, ok_not_full}
use Rattle.table_pages.specs.Held.{shape_of}
use Rattle.vhdx_format.specs.Layers.{HasSizes}
use Rattle.layer_session.specs.Planning.{AreCounted}
use Rattle.layer_session.specs.SectorRanges.{FitInCall}
use Rattle.layer_session.proofs.CallSizes.{few_in_call}
use Rattle.layer_session.proofs.Known.{leads_counts, leads_leave, leads_parts, leads_ready, of_parts, one_less}
use Rattle.layer_session.proofs.file.Layer.prepare.Goals as goal

pub returns-in_err-wanted-clause-room : goal.returns-in_err-wanted-clause-room
returns-in_err-wanted-clause-room g c =
    let fault : LayerFault = c.in_err-wanted.field-0.0 in
    let same : c.from_residual.result ≡ Err fault = err_is c.from_residual.result c.in_err-wanted.field-0.0 c.from_residual.ensures.1 in
    subst (λ (r : Result (Unit {0}) LayerFault). OnRoom r (has_room c.args.trims c.args.first c.args.count c.args.self.now (g.S.Store.disk c.args.store.now))) (sym same)
    (no_room (has_room c.args.trims c.args.first c.args.count c.args.self.now (g.S.Store.disk c.args.store.now)) fault c.in_err-wanted.ensures.quiet)

pub returns-then-not-wanted-clause-done : goal.returns-then-not-wanted-clause-done
returns-then-not-wanted-clause-done g c =
    idle_begins c.args.self.now c.plan.new.self (g.S.Store.disk c.args.store.now) (g.S.Store.disk c.plan.new.store) c.in_ok-wanted.ensures.leads c.args.first c.args.count c.args.trims c.in_ok-wanted.wanted c.in_ok-wanted.ensures.counted c.in_ok-wanted.ensures.looked c.if-not-wanted.true

pub returns-then-not-wanted-clause-prepared : goal.returns-then-not-wanted-clause-prepared
returns-then-not-wanted-clause-prepared g c =
    idle_prepared c.args.self.now c.plan.new.self (g.S.Store.disk c.args.store.now) (g.S.Store.disk c.plan.new.store) c.in_ok-wanted.ensures.leads c.args.first c.args.count c.args.trims c.in_ok-wanted.wanted c.in_ok-wanted.ensures.counted c.in_ok-wanted.ensures.looked c.if-not-wanted.true c.in_ok-wanted.ensures.fits

pub put_at_hand-requires-clause-some : goal.put_at_hand-requires-clause-some
put_at_hand-requires-clause-some g c =
    some_here c.args.self.now c.plan.new.self (g.S.Store.disk c.args.store.now) (g.S.Store.disk c.plan.new.store) c.in_ok-wanted.ensures.leads c.args.first c.args.count c.args.trims c.in_ok-wanted.wanted c.in_ok-wanted.ensures.counted c.in_ok-wanted.ensures.looked c.if-not-wanted.false

pub put_at_hand-requires-clause-planned : goal.put_at_hand-requires-clause-planned
put_at_hand-requires-clause-planned g c =
    planned_here c.args.self.now c.plan.new.self (g.S.Store.disk c.args.store.now) (g.S.Store.disk c.plan.new.store) c.in_ok-wanted.ensures.leads c.args.first c.args.count c.args.trims c.in_ok-wanted.wanted c.in_ok-wanted.ensures.counted c.in_ok-wanted.ensures.looked

pub returns-clause-moments : goal.returns-clause-moments
returns-clause-moments g c =
    tells_moments c.args.self.now c.put_at_hand.new.self (g.S.Store.disk c.args.store.now) (g.S.Store.disk c.put_at_hand.new.store) c.put_at_hand.result (leads_on c.args.self.now c.plan.new.self c.put_at_hand.new.self (g.S.Store.disk c.args.store.now) (g.S.Store.disk c.plan.new.store) (g.S.Store.disk c.put_at_hand.new.store) c.put_at_hand.result c.in_ok-wanted.ensures.leads c.put_at_hand.ensures.leads)

pub returns-clause-done : goal.returns-clause-done
returns-clause-done g c =
    done_begins c.args.self.now c.plan.new.self (g.S.Store.disk c.args.store.now) (g.S.Store.disk c.plan.new.store) c.in_ok-wanted.ensures.leads c.args.first c.args.count c.args.trims c.in_ok-wanted.wanted c.in_ok-wanted.ensures.counted c.in_ok-wanted.ensures.looked c.put_at_hand.new.self (g.S.Store.disk c.put_at_hand.new.store) c.put_at_hand.result
    (leads_on c.args.self.now c.plan.new.self c.put_at_hand.new.self (g.S.Store.disk c.args.store.now) (g.S.Store.disk c.plan.new.store) (g.S.Store.disk c.put_at_hand.new.store) c.put_at_hand.result c.in_ok-wanted.ensures.leads c.put_at_hand.ensures.leads)
    (c.put_at_hand.ensures.wants c.args.trims)

pub returns-clause-refused : goal.returns-clause-refused
returns-clause-refused g c =
    tells_refused c.args.self.now c.put_at_hand.new.self (g.S.Store.disk c.args.store.now) (g.S.Store.disk c.put_at_hand.new.store) c.put_at_hand.result (leads_on c.args.self.now c.plan.new.self c.put_at_hand.new.self (g.S.Store.disk c.args.store.now) (g.S.Store.disk c.plan.new.store) (g.S.Store.disk c.put_at_hand.new.store) c.put_at_hand.result c.in_ok-wanted.ensures.leads c.put_at_hand.ensures.leads)

pub returns-clause-broken : goal.returns-clause-broken
returns-clause-broken g c =
    tells_broken c.args.self.now c.put_at_hand.new.self (g.S.Store.disk c.args.store.now) (g.S.Store.disk c.put_at_hand.new.store) c.put_at_hand.result (leads_on c.args.self.now c.plan.new.self c.put_at_hand.new.self (g.S.Store.disk c.args.store.now) (g.S.Store.disk c.plan.new.store) (g.S.Store.disk c.put_at_hand.new.store) c.put_at_hand.result c.in_ok-wanted.ensures.leads c.put_at_hand.ensures.leads)

pub returns-clause-full : goal.returns-clause-full
returns-clause-full g c next e =
    absurd (c.put_at_hand.ensures.never next e)

pub returns-in_err-wanted-clause-full : goal.returns-in_err-wanted-clause-full
returns-in_err-wanted-clause-full g c next e =
    let same : c.from_residual.result ≡ Err c.in_err-wanted.field-0.0 = err_is c.from_residual.result c.in_err-wanted.field-0.0 c.from_residual.ensures.1 in
    let full : c.in_err-wanted.field-0.0 ≡ FileFull next = err_same (sym same ∙ e) in
    c.in_err-wanted.ensures.full next (ap (λ (fault : LayerFault). (let r : Result Wanted LayerFault = Err fault in r)) full)

pub put_at_hand-requires-clause-fits : goal.put_at_hand-requires-clause-fits
put_at_hand-requires-clause-fits g c =
    subst (λ (x : TableParts). fits_in c.in_ok-wanted.wanted.blocks (x.block / megabyte) c.in_ok-wanted.wanted.bitmaps c.plan.new.self.space ≡ true) (sym c.in_ok-wanted.ensures.leads.parts) c.in_ok-wanted.ensures.fits

pub plan-requires-clause-ready : goal.plan-requires-clause-ready
plan-requires-clause-ready g c = c.requires.ready

pub plan-requires-clause-on_disk : goal.plan-requires-clause-on_disk
plan-requires-clause-on_disk g c = c.requires.on_disk

pub plan-requires-clause-few : goal.plan-requires-clause-few
plan-requires-clause-few g c = c.requires.few

pub returns-in_err-wanted-clause-moments : goal.returns-in_err-wanted-clause-moments
returns-in_err-wanted-clause-moments g c = tells_moments c.args.self.now c.plan.new.self (g.S.Store.disk c.args.store.now) (g.S.Store.disk c.plan.new.store) c.from_residual.result (subst (Leads c.args.self.now c.plan.new.self (g.S.Store.disk c.args.store.now) (g.S.Store.disk c.plan.new.store)) (sym (err_is c.from_residual.result c.in_err-wanted.field-0.0 c.from_residual.ensures.1)) c.in_err-wanted.ensures.leads)

pub returns-in_err-wanted-clause-refused : goal.returns-in_err-wanted-clause-refused
returns-in_err-wanted-clause-refused g c = tells_refused c.args.self.now c.plan.new.self (g.S.Store.disk c.args.store.now) (g.S.Store.disk c.plan.new.store) c.from_residual.result (subst (Leads c.args.self.now c.plan.new.self (g.S.Store.disk c.args.store.now) (g.S.Store.disk c.plan.new.store)) (sym (err_is c.from_residual.result c.in_err-wanted.field-0.0 c.from_residual.ensures.1)) c.in_err-wanted.ensures.leads)

pub returns-in_err-wanted-clause-broken : goal.returns-in_err-wanted-clause-broken
returns-in_err-wanted-clause-broken g c = tells_broken c.args.self.now c.plan.new.self (g.S.Store.disk c.args.store.now) (g.S.Store.disk c.plan.new.store) c.from_residual.result (subst (Leads c.args.self.now c.plan.new.self (g.S.Store.disk c.args.store.now) (g.S.Store.disk c.plan.new.store)) (sym (err_is c.from_residual.result c.in_err-wanted.field-0.0 c.from_residual.ensures.1)) c.in_err-wanted.ensures.leads)

pub returns-in_err-wanted-clause-done : goal.returns-in_err-wanted-clause-done
returns-in_err-wanted-clause-done g c = not_ok c.from_residual.result c.in_err-wanted.field-0.0 c.from_residual.ensures.1 _

pub returns-in_err-wanted-clause-prepared : goal.returns-in_err-wanted-clause-prepared
returns-in_err-wanted-clause-prepared g c = not_ok c.from_residual.result c.in_err-wanted.field-0.0 c.from_residual.ensures.1 _

pub returns-in_err-wanted-clause-ready : goal.returns-in_err-wanted-clause-ready
returns-in_err-wanted-clause-ready g c = not_ok c.from_residual.result c.in_err-wanted.field-0.0 c.from_residual.ensures.1 _

pub returns-in_err-wanted-clause-counts : goal.returns-in_err-wanted-clause-counts
returns-in_err-wanted-clause-counts g c = not_ok c.from_residual.result c.in_err-wanted.field-0.0 c.from_residual.ensures.1 _

pub returns-in_err-wanted-clause-header : goal.returns-in_err-wanted-clause-header
returns-in_err-wanted-clause-header g c = ap (λ (s : LogState). s.header) c.plan.ensures.log

pub returns-in_err-wanted-clause-number : goal.returns-in_err-wanted-clause-number
returns-in_err-wanted-clause-number g c = subst (λ n. n ≤ c.args.self.now.log.number + 1) (sym (ap (λ (s : LogState). s.number) c.plan.ensures.log)) (le_more c.args.self.now.log.number 1)

pub returns-then-not-wanted-clause-header : goal.returns-then-not-wanted-clause-header
returns-then-not-wanted-clause-header g c = ap (λ (s : LogState). s.header) c.plan.ensures.log

pub returns-then-not-wanted-clause-number : goal.returns-then-not-wanted-clause-number
returns-then-not-wanted-clause-number g c = subst (λ n. n ≤ c.args.self.now.log.number + 1) (sym (ap (λ (s : LogState). s.number) c.plan.ensures.log)) (le_more c.args.self.now.log.number 1)

pub returns-then-not-wanted-clause-moments : goal.returns-then-not-wanted-clause-moments
returns-then-not-wanted-clause-moments g c = c.in_ok-wanted.ensures.leads.moments

pub returns-then-not-wanted-clause-ready : goal.returns-then-not-wanted-clause-ready
returns-then-not-wanted-clause-ready g c = c.in_ok-wanted.ensures.leads.ready

pub returns-then-not-wanted-clause-parts : goal.returns-then-not-wanted-clause-parts
returns-then-not-wanted-clause-parts g c = c.in_ok-wanted.ensures.leads.parts

pub returns-then-not-wanted-clause-leave : goal.returns-then-not-wanted-clause-leave
returns-then-not-wanted-clause-leave g c = c.in_ok-wanted.ensures.leads.leave

pub returns-then-not-wanted-clause-counts : goal.returns-then-not-wanted-clause-counts
returns-then-not-wanted-clause-counts g c = c.in_ok-wanted.ensures.leads.counts

pub returns-then-not-wanted-clause-full : goal.returns-then-not-wanted-clause-full
returns-then-not-wanted-clause-full g c next e = absurd (ok_not_full _ next e)

pub put_at_hand-requires-clause-ready : goal.put_at_hand-requires-clause-ready
put_at_hand-requires-clause-ready g c = c.in_ok-wanted.ensures.leads.ready

pub put_at_hand-requires-clause-fit : goal.put_at_hand-requires-clause-fit
put_at_hand-requires-clause-fit g c =
    let sized : HasSizes (shape_of c.args.self.now.tables.parts) = record { sector = c.requires.ready.readable.sizes.sector; block = c.requires.ready.readable.sizes.block } in
    of_parts (λ p. FitInCall p 257 c.args.first c.args.count) _ _ c.in_ok-wanted.ensures.leads.parts
    (record { on_disk = c.requires.on_disk; size = c.requires.few; few = few_in_call (shape_of c.args.self.now.tables.parts) sized c.args.first c.args.count c.requires.few })

pub returns-clause-prepared : goal.returns-clause-prepared
returns-clause-prepared g c = c.put_at_hand.ensures.prepared

pub returns-clause-header : goal.returns-clause-header
returns-clause-header g c = c.put_at_hand.ensures.header ∙ ap (λ (s : LogState). s.header) c.plan.ensures.log

pub returns-in_err-wanted-clause-parts : goal.returns-in_err-wanted-clause-parts
returns-in_err-wanted-clause-parts g c = leads_parts c.args.self.now c.plan.new.self (g.S.Store.disk c.args.store.now) (g.S.Store.disk c.plan.new.store) c.plan.result c.plan.ensures.leads

pub returns-clause-parts : goal.returns-clause-parts
returns-clause-parts g c = leads_parts c.plan.new.self c.put_at_hand.new.self (g.S.Store.disk c.plan.new.store) (g.S.Store.disk c.put_at_hand.new.store) c.put_at_hand.result c.put_at_hand.ensures.leads ∙ c.in_ok-wanted.ensures.leads.parts

pub returns-in_err-wanted-clause-leave : goal.returns-in_err-wanted-clause-leave
returns-in_err-wanted-clause-leave g c = leads_leave c.args.self.now c.plan.new.self (g.S.Store.disk c.args.store.now) (g.S.Store.disk c.plan.new.store) c.plan.result c.plan.ensures.leads

pub returns-clause-leave : goal.returns-clause-leave
returns-clause-leave g c = leads_leave c.plan.new.self c.put_at_hand.new.self (g.S.Store.disk c.plan.new.store) (g.S.Store.disk c.put_at_hand.new.store) c.put_at_hand.result c.put_at_hand.ensures.leads ∙ c.in_ok-wanted.ensures.leads.leave

pub put_at_hand-requires-clause-numbers : goal.put_at_hand-requires-clause-numbers
put_at_hand-requires-clause-numbers g c = subst (λ (s : LogState). s.number ≤ 18446744069414584320) (sym c.plan.ensures.log) (one_less c.args.self.now.log.number _ c.requires.numbers)

pub put_at_hand-requires-clause-counted : goal.put_at_hand-requires-clause-counted
put_at_hand-requires-clause-counted g c = of_parts (λ p. AreCounted (shape_of p) c.plan.new.self.plans.items 0 c.args.first c.args.count c.in_ok-wanted.wanted) _ _ c.in_ok-wanted.ensures.leads.parts c.in_ok-wanted.ensures.counted

pub returns-clause-ready : goal.returns-clause-ready
returns-clause-ready g c = leads_ready c.plan.new.self c.put_at_hand.new.self (g.S.Store.disk c.plan.new.store) (g.S.Store.disk c.put_at_hand.new.store) c.put_at_hand.result c.put_at_hand.ensures.leads

pub returns-clause-number : goal.returns-clause-number
returns-clause-number g c = subst (λ (s : LogState). c.put_at_hand.new.self.log.number ≤ s.number + 1) c.plan.ensures.log c.put_at_hand.ensures.number

pub returns-clause-counts : goal.returns-clause-counts
returns-clause-counts g c = leads_counts c.plan.new.self c.put_at_hand.new.self (g.S.Store.disk c.args.store.now) (g.S.Store.disk c.plan.new.store) (g.S.Store.disk c.put_at_hand.new.store) c.put_at_hand.result c.in_ok-wanted.ensures.leads.counts c.put_at_hand.ensures.leads
