use Rattle.std.proofs.Common.{false, length, refl, subst, true}
use Rattle.serve_session.specs.Beginning.{Begins}
use Rattle.serve_command.specs.Guests.{HasServedMergeOf}
use Rattle.steps_command.specs.Sessions.{unread}
use Rattle.steps_command.proofs.Lending.{can_start}
use Rattle.steps_command.proofs.OverAll.{start_has_file, start_not_merged}
use Rattle.serve_command.proofs.beginning.begin_other.Goals as goal

pub returns-in-Err-clause-err : goal.returns-in-Err-clause-err
returns-in-Err-clause-err g c = unread c.in-Err.refusal c.in-Err.ensures.store refl

pub begin_merge-requires-clause-files : goal.begin_merge-requires-clause-files
begin_merge-requires-clause-files g c =
    can_start c.args.files.now (g.S.Store.disk c.args.store) (g.S.Store.disk c.check_lengths.new.store) c.in_default.ensures.store c.requires.chain c.in_default.ensures.short

pub merge_refused-requires : goal.merge_refused-requires
merge_refused-requires g c =
    let e = c.in-Err-begin_merge in
    start_has_file c.args.files.now c.args.names.now c.args.merging.source.now (g.S.Store.disk c.check_lengths.new.store) (g.S.Store.disk e.store) (g.I.Ids.drawn c.args.ids.now) (g.I.Ids.drawn c.begin_merge.new.ids) e.refusal c.requires.below c.requires.names e.ensures.refused

pub returns-in-Ok-clause-begins : goal.returns-in-Ok-clause-begins
returns-in-Ok-clause-begins g c =
    subst (λ d. Begins g.S.Store.disk true c.args.guests (length c.args.merging.pieces.items) (HasServedMergeOf false c.args.files.now c.args.merging.source.now d (g.I.Ids.drawn c.args.ids.now) (g.I.Ids.drawn c.begin_merge.new.ids)) c.in-Ok.begun)
    c.in_default.ensures.store c.in-Ok.ensures.begins

pub returns-in-Err-begin_merge-clause-err : goal.returns-in-Err-begin_merge-clause-err
returns-in-Err-begin_merge-clause-err g c =
    let e = c.in-Err-begin_merge in
    start_not_merged false c.args.files.now c.args.names.now c.args.merging.source.now (g.S.Store.disk c.args.store) (g.S.Store.disk c.check_lengths.new.store) (g.S.Store.disk e.store) (g.I.Ids.drawn c.args.ids.now) (g.I.Ids.drawn c.begin_merge.new.ids) e.refusal c.merge_refused.result
    c.requires.below c.in_default.ensures.store c.requires.names e.ensures.refused e.ensures.kept c.merge_refused.ensures
