use Rattle.std.proofs.Common.{◌≡◌, ◌+◌, ◌*◌, ◌/◌, ◌%◌, ◌≤◌, ◌++◌, [], ◌∷◌, ℕ, List, length, refl, sym, ap, subst, ◌∙◌, arith}
use Rattle.vx_base.specs.Fields.{written_over}
use Rattle.vx_base.proofs.ByteLists.{length-overwritten}
use Rattle.nbd_tests.specs.Told.{Holds}
use Rattle.guest_model.specs.declared.call.Call.TheVariants.{Write}
use Rattle.nbd_tests.proofs.ToldLemmas.{entry, holds_over, is_done, not_done, write_fills}
use Rattle.nbd_tests.proofs.told.write_to.Goals as goal

pub returns-in_err-at-clause-told : goal.returns-in_err-at-clause-told
returns-in_err-at-clause-told c = not_done _ _ _ _ _ _ c.from_residual.result c.from_residual.ensures.0 refl refl

pub returns-in_err-placed-clause-told : goal.returns-in_err-placed-clause-told
returns-in_err-placed-clause-told c = not_done _ _ _ _ _ _ c.from_residual-in_err-placed.result c.from_residual-in_err-placed.ensures.0 refl c.in_err-placed.ensures.same

-- what was written, by its sectors
bytes_of : (at first n : ℕ) (old new with : List ℕ) → new ≡ written_over old at with → at ≡ 512 * first → new ≡ written_over old (512 * first) with
bytes_of at first n old new with e place = e ∙ ap (λ k. written_over old k with) place

fits : (first n len at : ℕ) → first + n / 512 ≤ len / 512 → n % 512 ≡ 0 → at ≡ 512 * first → at + n ≤ len
fits first n len at h whole e = omega arith

pub returns-clause-holds : goal.returns-clause-holds
returns-clause-holds c =
    let w = c.args.with.now in
    let new = bytes_of _ c.args.first (length w) c.args.bytes.now _ w c.overwrite.ensures c.in_ok-at.ensures.at in
    subst (λ h. Holds h c.overwrite.new.old) (sym c.in_ok-placed.ensures.noted)
    (subst (Holds (c.args.history.now ++ entry (Write c.args.first w) ∷ [])) (sym new)
    (holds_over c.args.history.now (Write c.args.first w) c.args.bytes.now w c.args.first (length w / 512) (write_fills c.args.first w c.requires.whole)
    c.in_ok-at.ensures.inside c.requires.holds))

pub returns-clause-told : goal.returns-clause-told
returns-clause-told c =
    is_done c.args.bytes.now c.overwrite.new.old c.args.history.now c.note.new.history (Write c.args.first c.args.with.now) c.in_ok-placed.placed _
    (ap length c.overwrite.ensures
    ∙ length-overwritten c.args.bytes.now c.args.with.now c.in_ok-at.at (fits _ _ _ _ c.in_ok-at.ensures.inside c.requires.whole c.in_ok-at.ensures.at))
    c.in_ok-placed.ensures.noted c.in_ok-placed.ensures.place refl
