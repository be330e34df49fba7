use Rattle.std.proofs.Common.{◌∙◌, [], ap, arith, refl}
use Rattle.vx_base.proofs.Handed.{failed_for, not_if_ok, not_ok}
use Rattle.layer_session.proofs.Known.{some_units}
use Rattle.block_alloc.specs.Spaces.{Space}
use Rattle.layer_session.specs.declared.file.Layer.{Layer}
use Rattle.layer_session.proofs.Beginning.{is_made, begin_moments, begin_none, begin_ready, begin_served}
use Rattle.layer_session.proofs.file.Layer.begin.Goals as goal

pub returns-clause-moments : goal.returns-clause-moments
returns-clause-moments g c =
    begin_moments c.args.parts.now c.args.ids c.args.file (g.S.Store.disk c.args.store.now).told (g.S.Store.disk c.begin.new.store).told c.requires.numbers c.requires.low c.requires.ready c.begin.ensures.moments c.begin.ensures.only

pub returns-in_err-log-clause-moments : goal.returns-in_err-log-clause-moments
returns-in_err-log-clause-moments g c =
    begin_moments c.args.parts.now c.args.ids c.args.file (g.S.Store.disk c.args.store.now).told (g.S.Store.disk c.begin.new.store).told c.requires.numbers c.requires.low c.requires.ready c.begin.ensures.moments c.begin.ensures.only

pub returns-in-Err-clause-moments : goal.returns-in-Err-clause-moments
returns-in-Err-clause-moments g c = begin_none c.args.parts.now c.args.ids c.args.file (g.S.Store.disk c.args.store.now).told c.requires.numbers c.requires.ready

pub returns-clause-served : goal.returns-clause-served
returns-clause-served g c =
    let l : Layer = record { tables = c.in-Ok.room.tables; log = c.in_ok-log.log; space = c.new-space.result; leave = c.args.parts.now.leave; zeros = c.in-Ok.room.zeros; plans = c.in-Ok.room.plans } in
    let made = is_made c.args.parts.now c.args.ids c.args.file c.file_len.result c.new.result l c.in-Ok.ensures.tables c.new.ensures.file c.new.ensures.shape c.new.ensures.len c.in_ok-log.ensures.log c.file_len.ensures
    (c.new-space.ensures ∙ ap (λ n. (let s : Space = record { next = n; freed = [] } in s)) c.div_ceil.ensures) (omega arith) in
    begin_served c.args.parts.now c.args.ids c.args.file c.new.result l (g.S.Store.disk c.args.store.now) (g.S.Store.disk c.begin.new.store) c.requires.numbers c.requires.ready made (c.in_ok-log.ensures.rest c.requires.low)
    (c.in_ok-log.ensures.running c.requires.low) c.begin.ensures.only

pub returns-clause-ready : goal.returns-clause-ready
returns-clause-ready g c =
    let l : Layer = record { tables = c.in-Ok.room.tables; log = c.in_ok-log.log; space = c.new-space.result; leave = c.args.parts.now.leave; zeros = c.in-Ok.room.zeros; plans = c.in-Ok.room.plans } in
    let made = is_made c.args.parts.now c.args.ids c.args.file c.file_len.result c.new.result l c.in-Ok.ensures.tables c.new.ensures.file c.new.ensures.shape c.new.ensures.len c.in_ok-log.ensures.log c.file_len.ensures
    (c.new-space.ensures ∙ ap (λ n. (let s : Space = record { next = n; freed = [] } in s)) c.div_ceil.ensures) (omega arith) in
    begin_ready c.args.parts.now c.args.ids c.args.file c.new.result l (g.S.Store.disk c.args.store.now) (g.S.Store.disk c.begin.new.store) c.requires.numbers c.requires.ready made (c.in_ok-log.ensures.rest c.requires.low)
    (c.in_ok-log.ensures.running c.requires.low) c.begin.ensures.only c.requires.there c.in_ok-log.ensures.counts c.in-Ok.ensures.zeros c.in-Ok.ensures.plans

pub new-requires-2 : goal.new-requires-2
new-requires-2 g c = record { pages = c.requires.pages }

pub returns-in-Err-clause-err : goal.returns-in-Err-clause-err
returns-in-Err-clause-err g c = refl

pub begin-requires-clause-there : goal.begin-requires-clause-there
begin-requires-clause-there g c = c.requires.there

pub begin-requires-clause-ready : goal.begin-requires-clause-ready
begin-requires-clause-ready g c t told = (c.requires.ready t told).begins

pub returns-in_err-log-clause-served : goal.returns-in_err-log-clause-served
returns-in_err-log-clause-served g c = not_if_ok c.from_residual.result _ c.from_residual.ensures.1 _

pub returns-in_err-log-clause-ready : goal.returns-in_err-log-clause-ready
returns-in_err-log-clause-ready g c = not_if_ok c.from_residual.result _ c.from_residual.ensures.1 _

pub returns-in_err-log-clause-parts : goal.returns-in_err-log-clause-parts
returns-in_err-log-clause-parts g c = not_if_ok c.from_residual.result _ c.from_residual.ensures.1 _

pub returns-in_err-log-clause-header : goal.returns-in_err-log-clause-header
returns-in_err-log-clause-header g c = not_if_ok c.from_residual.result _ c.from_residual.ensures.1 _

pub returns-in_err-log-clause-empty : goal.returns-in_err-log-clause-empty
returns-in_err-log-clause-empty g c = not_if_ok c.from_residual.result _ c.from_residual.ensures.1 _

pub returns-in_err-log-clause-counts : goal.returns-in_err-log-clause-counts
returns-in_err-log-clause-counts g c = not_ok c.from_residual.result _ c.from_residual.ensures.1 _

pub returns-in_err-log-clause-err : goal.returns-in_err-log-clause-err
returns-in_err-log-clause-err g c = failed_for c.from_residual.result _ c.from_residual.ensures.1 _ c.in_err-log.ensures.err

pub div_ceil-requires : goal.div_ceil-requires
div_ceil-requires g c = some_units

pub returns-clause-empty : goal.returns-clause-empty
returns-clause-empty g c = c.in-Ok.ensures.tables.unchanged

pub returns-clause-counts : goal.returns-clause-counts
returns-clause-counts g c = c.in_ok-log.ensures.counts

pub returns-in-Err-clause-counts : goal.returns-in-Err-clause-counts
returns-in-Err-clause-counts g c = tt

pub returns-in-Err-clause-empty : goal.returns-in-Err-clause-empty
returns-in-Err-clause-empty g c = tt

pub returns-in-Err-clause-header : goal.returns-in-Err-clause-header
returns-in-Err-clause-header g c = tt

pub returns-in-Err-clause-parts : goal.returns-in-Err-clause-parts
returns-in-Err-clause-parts g c = tt

pub returns-in-Err-clause-ready : goal.returns-in-Err-clause-ready
returns-in-Err-clause-ready g c = tt

pub returns-in-Err-clause-served : goal.returns-in-Err-clause-served
returns-in-Err-clause-served g c = tt
