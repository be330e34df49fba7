use Rattle.std.proofs.Common.{◌++◌, List, ℕ, ap, sym, subst, ◌∙◌, ◌<◌, length, refl}
use Rattle.store_model.specs.File.{seen}
use Rattle.store_model.specs.Trace.{file_of}
use Rattle.layer_session.specs.Calls.{HasOwned}
use Rattle.layer_session.specs.Reading.{marked_layer}
use Rattle.layer_session.proofs.Owned.{marked_joined, next_place, rest_inside}
use Rattle.store_model.specs.Disk.{Disk}
use Rattle.vx_base.proofs.Handed.{failed_for, not_ok, ok_then}
use Rattle.layer_session.proofs.Handing.{fails_then, front_in, front_within, none_owned, stays_then}
use Rattle.layer_session.proofs.RunsRead.{end_at, fit_front, fit_rest, not_none, rest_end, rest_rows, rest_smaller}
use Rattle.layer_session.proofs.Finding.{others_front, others_none, others_then}
use Rattle.layer_session.proofs.reading.+own_marked.Goals as goal

pub returns-clause-owned : goal.returns-clause-owned
returns-clause-owned g n c =
    ok_then c.own_marked.result
    (λ owned t told.
    let file = seen (file_of t c.args.parts.now.file) in
    let z = c.args.parts.now.sector in
    let run = c.first_run-run.result in
    let piece = c.split_at_mut-piece.ensures in
    let next = next_place c.saturating_add.result c.args.place z run.count c.args.count _ c.saturating_add.ensures c.first_run-run.ensures.most (c.requires.inside t told) (c.requires.small t told) in
    subst (λ (x : List ℕ). HasOwned (marked_layer c.args.bits.now c.args.skip file c.args.place z) z 0 c.args.count c.args.at c.args.mask.now c.own_marked.new.mask x (c.take_run.new.out ++ c.own_marked.new.out)) (sym piece.value)
    (marked_joined c.args.bits.now file c.args.place c.saturating_add.result z c.args.skip run.count c.args.count c.args.at run.set c.args.mask.now c.take_run.new.mask c.own_marked.new.mask
    c.split_at_mut-piece.result.0.now c.take_run.new.out c.split_at_mut-piece.result.1.now c.own_marked.new.out c.first_run-run.ensures.most c.first_run-run.ensures.same next piece.front_len c.requires.room.bits
    (c.in_ok-take_run.ensures.owned t told) (owned t (ap (λ d. d.told) c.in_ok-take_run.ensures.stays ∙ told))))
    c.own_marked.ensures.owned

pub own_marked-requires : goal.own_marked-requires
own_marked-requires g n c κs within =
    let run = c.first_run-run.result in
    let few = c.first_run-run.ensures.most in
    let z = c.args.parts.now.sector in
    let piece = c.split_at_mut-piece.ensures in
    let front = c.split_at_mut-piece.result.0.now in
    let back = c.split_at_mut-piece.result.1.now in
    let stays = sym c.in_ok-take_run.ensures.stays in (
      rest_smaller run.count c.args.count n c.decreases c.first_run-run.ensures.some few,
      (
        within.0,
        (
          within.1,
          (
            subst (λ (d : Disk). c.args.parts.now.file < d.files) stays c.requires.there,
            (
              rest_rows c.args.skip run.count c.args.count _ few c.requires.bits,
              (
                rest_end c.args.skip run.count c.args.count few c.requires.fits,
                (
                  fit_rest c.args.count run.count z c.args.out.now front back c.args.mask.now c.take_run.new.mask c.args.at few piece.value piece.front_len c.take_run.auto.mask c.requires.room,
                  (
                    λ t told.
                        let before = ap (λ (d : Disk). d.told) stays ∙ told in
                        let within = c.requires.inside t before in
                        rest_inside c.saturating_add.result c.args.place z run.count c.args.count _
                        (next_place c.saturating_add.result c.args.place z run.count c.args.count _ c.saturating_add.ensures few within (c.requires.small t before)) few within,
                    λ t told. c.requires.small t (ap (λ (d : Disk). d.told) stays ∙ told),
                  ),
                ),
              ),
            ),
          ),
        ),
      ),
    )

pub returns-in_err-take_run-clause-owned : goal.returns-in_err-take_run-clause-owned
returns-in_err-take_run-clause-owned g n c = not_ok c.from_residual.result c.in_err-take_run.field-0.0 c.from_residual.ensures.1 _

pub returns-in_err-take_run-clause-stays : goal.returns-in_err-take_run-clause-stays
returns-in_err-take_run-clause-stays g n c = not_ok c.from_residual.result c.in_err-take_run.field-0.0 c.from_residual.ensures.1 _

pub returns-in_err-take_run-clause-err : goal.returns-in_err-take_run-clause-err
returns-in_err-take_run-clause-err g n c = failed_for c.from_residual.result c.in_err-take_run.field-0.0 c.from_residual.ensures.1 _ c.in_err-take_run.ensures.err

pub returns-then-count-eq0-clause-stays : goal.returns-then-count-eq0-clause-stays
returns-then-count-eq0-clause-stays g n c = refl

pub returns-clause-stays : goal.returns-clause-stays
returns-clause-stays g n c = stays_then c.own_marked.result (g.S.Store.disk c.args.store.now) (g.S.Store.disk c.take_run.new.store) (g.S.Store.disk c.own_marked.new.store) c.in_ok-take_run.ensures.stays c.own_marked.ensures.stays

pub returns-clause-err : goal.returns-clause-err
returns-clause-err g n c = fails_then c.own_marked.result c.args.parts.now.file c.args.parts.now.file (g.S.Store.disk c.args.store.now) (g.S.Store.disk c.take_run.new.store) (g.S.Store.disk c.own_marked.new.store) c.in_ok-take_run.ensures.stays refl c.own_marked.ensures.err

pub returns-then-count-eq0-clause-owned : goal.returns-then-count-eq0-clause-owned
returns-then-count-eq0-clause-owned g n c = λ t told. none_owned _ c.args.parts.now.sector 0 c.args.count c.args.at c.args.mask.now c.args.out.now c.if-count-eq0.true

pub first_run-run-requires-clause-within : goal.first_run-run-requires-clause-within
first_run-run-requires-clause-within g n c = c.requires.bits

pub first_run-run-requires-clause-fits : goal.first_run-run-requires-clause-fits
first_run-run-requires-clause-fits g n c = c.requires.fits

pub split_at_mut-piece-requires : goal.split_at_mut-piece-requires
split_at_mut-piece-requires g n c = front_in c.args.parts.now.sector c.args.parts.now.sector c.first_run-run.result.count c.args.count (length c.args.out.now) refl c.first_run-run.ensures.most c.requires.room.bytes

pub take_run-requires-clause-there : goal.take_run-requires-clause-there
take_run-requires-clause-there g n c = c.requires.there

pub take_run-requires-clause-inside : goal.take_run-requires-clause-inside
take_run-requires-clause-inside g n c = λ yes t told. front_within c.args.place c.args.parts.now.sector c.first_run-run.result.count c.args.count _ c.first_run-run.ensures.most (c.requires.inside t told)

pub overflow_sub-count : goal.overflow_sub-count
overflow_sub-count g n c = c.first_run-run.ensures.most

pub take_run-requires-clause-room : goal.take_run-requires-clause-room
take_run-requires-clause-room g n c =
    fit_front c.args.count c.first_run-run.result.count c.args.parts.now.sector c.args.out.now c.split_at_mut-piece.result.0.now c.args.mask.now c.args.at c.first_run-run.ensures.most c.split_at_mut-piece.ensures.front_len c.requires.room

pub first_run-run-requires-clause-some : goal.first_run-run-requires-clause-some
first_run-run-requires-clause-some g n c = not_none c.args.count c.if-count-eq0.false

pub overflow_add-at : goal.overflow_add-at
overflow_add-at g n c = end_at c.args.at c.first_run-run.result.count c.args.count c.first_run-run.ensures.most c.requires.room.ends

pub overflow_add-skip : goal.overflow_add-skip
overflow_add-skip g n c = end_at c.args.skip c.first_run-run.result.count c.args.count c.first_run-run.ensures.most c.requires.fits

pub returns-then-count-eq0-clause-err : goal.returns-then-count-eq0-clause-err
returns-then-count-eq0-clause-err g n c = tt

pub returns-clause-others : goal.returns-clause-others
returns-clause-others g n c =
    others_then c.args.at c.first_run-run.result.count c.args.count c.args.mask.now c.take_run.new.mask c.own_marked.new.mask c.first_run-run.ensures.most c.take_run.auto.mask c.take_run.ensures.others c.own_marked.ensures.others

pub returns-in_err-take_run-clause-others : goal.returns-in_err-take_run-clause-others
returns-in_err-take_run-clause-others g n c = others_front c.args.at c.first_run-run.result.count c.args.count c.args.mask.now c.take_run.new.mask c.first_run-run.ensures.most c.take_run.ensures.others

pub returns-then-count-eq0-clause-others : goal.returns-then-count-eq0-clause-others
returns-then-count-eq0-clause-others g n c = others_none c.args.at c.args.count c.args.mask.now
