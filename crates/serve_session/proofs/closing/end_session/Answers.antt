use Rattle.std.proofs.Common.{refl, subst, sym, true, ◌∙◌}
use Rattle.std.specs.Prelude.{is_some}
use Rattle.serve_session.specs.Endings.{Ending}
use Rattle.serve_session.specs.Serving.{EndsAs, HasServed}
use Rattle.serve_session.proofs.Final.{all_served, ended_so, none_served}
use Rattle.serve_session.proofs.closing.end_session.Goals as goal

pub returns-clause-history : goal.returns-clause-history
returns-clause-history g c = c.close-store.ensures.history ∙ (ended_so g.S.Store.disk (is_some c.args.last) c.args.chain c.end_merge-merged.new.chain c.end_merge-merged.result c.end_merge-merged.ensures).history

pub returns-clause-without : goal.returns-clause-without
returns-clause-without g c none = (subst (λ merges. EndsAs g.S.Store.disk merges c.args.chain c.end_merge-merged.new.chain c.end_merge-merged.result) none c.end_merge-merged.ensures).1

pub returns-clause-served : goal.returns-clause-served
returns-clause-served g c asking guests unread short s =
    let disk = g.S.Store.disk in
    let merges = is_some c.args.last in
    let v = c.end_merge-merged.new.chain in
    let merged = c.end_merge-merged.result in
    let end : Ending = record { fault = c.close-store.result.2; closed = c.close-store.result.3; unread = unread; short = short } in
    let e = c.close-store.ensures in
    subst (λ h. HasServed disk merges c.args.was.now.value.first asking guests h end merged (disk c.close-store.result.0)) (sym e.history)
    (all_served disk merges c.args.was.now.value c.args.chain v merged (ended_so disk merges c.args.chain v merged c.end_merge-merged.ensures) end (disk c.close-store.result.0) e.ended e.fault e.counted e.breaks e.leaves asking guests s c.requires.begun.sound.sector)

pub returns-clause-unserved : goal.returns-clause-unserved
returns-clause-unserved g c asking same =
    let disk = g.S.Store.disk in
    let merges = is_some c.args.last in
    let v = c.end_merge-merged.new.chain in
    let merged = c.end_merge-merged.result in
    let end : Ending = record { fault = c.close-store.result.2; closed = c.close-store.result.3; unread = 0; short = true } in
    let e = c.close-store.ensures in
    none_served disk merges c.args.was.now.value c.args.chain v merged (ended_so disk merges c.args.chain v merged c.end_merge-merged.ensures) end (disk c.close-store.result.0) e.ended e.fault e.counted e.breaks e.leaves asking refl c.requires.begun same
