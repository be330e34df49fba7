use Rattle.std.proofs.Common.{◌≡◌, ◌+◌, ◌-◌, ◌++◌, [], ◌∷◌, take, drop, length-take-le, length-drop, ◌*◌, ◌/◌, ℕ, List, length, ◌≤◌, replicate, refl, sym, ap, subst, ◌∙◌, arith}
use Rattle.std.proofs.lemmas.List.{length-replicate}
use borrow.Rule.Slice.PartMut.{put_mid, same_len_mid}
use Rattle.vx_base.specs.Fields.{written_over}
use Rattle.guest_model.specs.declared.call.Call.TheVariants.{Trim}
use Rattle.guest_model.specs.History.{History}
use Rattle.nbd_tests.specs.Told.{Holds}
use Rattle.mem_file.proofs.StepLemmas.{written_over-put_mid}
use Rattle.nbd_tests.proofs.ToldLemmas.{entry, holds_over, is_done, not_done, trim_fills}
use Rattle.nbd_tests.proofs.told.trim_of.Goals as goal

pub returns-in_err-at-clause-told : goal.returns-in_err-at-clause-told
returns-in_err-at-clause-told c = not_done _ _ _ _ _ _ c.from_residual.result c.from_residual.ensures.0 refl refl

pub returns-in_err-placed-clause-told : goal.returns-in_err-placed-clause-told
returns-in_err-placed-clause-told c = not_done _ _ _ _ _ _ c.from_residual-in_err-placed.result c.from_residual-in_err-placed.ensures.0 refl c.in_err-placed.ensures.same

fits : (first count len at : ℕ) → first + count ≤ len / 512 → at ≡ 512 * first → at + 512 * count ≤ len
fits first count len at h e = omega arith

-- zeros that were put over sectors
zeros_over : (at first count m : ℕ) (old out : List ℕ) → at ≡ 512 * first → at + 512 * count ≤ length old → m ≡ length (take (at + count * 512 - at) (drop at old)) → out ≡ replicate m 0
    → put_mid at (at + count * 512 - at) old out ≡ written_over old (512 * first) (replicate (512 * count) 0)
zeros_over at first count m old out place room many filled =
    let k : at + count * 512 - at ≡ 512 * count = omega arith in
    let n : m ≡ 512 * count = many ∙ ap (λ j. length (take j (drop at old))) k ∙ length-take-le (512 * count) (drop at old) (omega (arith, length-drop at old)) in
    written_over-put_mid old out (replicate (512 * count) 0) at (at + count * 512 - at) (filled ∙ ap (λ j. replicate j 0) n) (length-replicate (512 * count) 0 ∙ sym k)
    ∙ ap (λ p. written_over old p (replicate (512 * count) 0)) place

held : {h k : History} {bytes : List ℕ} → k ≡ h → Holds h bytes → Holds k bytes
held {bytes = bytes} e holds = subst (λ h. Holds h bytes) (sym e) holds

pub returns-clause-holds : goal.returns-clause-holds
returns-clause-holds c =
    let old = c.args.bytes.now in
    let room = fits c.args.first c.args.count (length old) c.in_ok-at.at c.in_ok-at.ensures.inside c.in_ok-at.ensures.at in
    held c.in_ok-placed.ensures.noted
    (subst (Holds (c.args.history.now ++ entry (Trim c.args.first c.args.count) ∷ [])) (sym (zeros_over _ c.args.first c.args.count _ old _ c.in_ok-at.ensures.at room refl (c.fill.ensures.after (λ y e. e))))
    (holds_over c.args.history.now (Trim c.args.first c.args.count) old (replicate (512 * c.args.count) 0) c.args.first c.args.count (trim_fills c.args.first c.args.count)
    c.in_ok-at.ensures.inside c.requires.holds))

pub returns-clause-told : goal.returns-clause-told
returns-clause-told c =
    let old = c.args.bytes.now in
    is_done old _ c.args.history.now c.note.new.history (Trim c.args.first c.args.count) c.in_ok-placed.placed _ (same_len_mid c.in_ok-at.at _ old c.fill.new.self c.fill.auto.self)
    c.in_ok-placed.ensures.noted c.in_ok-placed.ensures.place refl
