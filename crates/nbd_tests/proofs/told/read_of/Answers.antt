use Rattle.std.proofs.Common.{◌≡◌, ◌+◌, ◌-◌, ◌*◌, ◌/◌, ◌%◌, ℕ, length, take, drop, refl, sym, ap, subst, ◌∙◌, arith}
use Rattle.guest_model.specs.declared.call.Call.TheVariants.{Read}
use Rattle.guest_model.specs.declared.call.Reply.TheVariants.{Bytes}
use Rattle.disk_calls.specs.Disks.{IsTrueOf, plain, told}
use Rattle.nbd_tests.specs.Told.{known_of}
use Rattle.nbd_tests.proofs.ToldLemmas.{not_done, reads_back, still_holds, still_told}
use Rattle.nbd_tests.proofs.told.read_of.Goals as goal

pub returns-in_err-at-clause-told : goal.returns-in_err-at-clause-told
returns-in_err-at-clause-told c = not_done _ _ _ _ _ _ c.from_residual.result c.from_residual.ensures.0 refl refl

pub returns-clause-holds : goal.returns-clause-holds
returns-clause-holds c = still_holds _ _ _ (Read c.args.first (length c.args.buf.now / 512)) c.note.result refl c.note.ensures.noted c.note.ensures.same c.requires.holds

pub returns-clause-told : goal.returns-clause-told
returns-clause-told c =
    let n = length c.args.buf.now in
    let buf = c.copy_from_slice.new.self in
    let whole : c.in_ok-at.at + n - c.in_ok-at.at ≡ 512 * (n / 512) = pieces _ _ c.requires.whole in
    let same : buf ≡ take (512 * (n / 512)) (drop c.in_ok-at.at c.args.bytes.now) = c.copy_from_slice.ensures.after ∙ ap (λ k. take k (drop c.in_ok-at.at c.args.bytes.now)) whole in
    subst (λ k. IsTrueOf 512 (known_of c.args.bytes.now c.args.history.now) (known_of c.args.bytes.now c.note.new.history) (plain (Read c.args.first (k / 512))) (told (Bytes buf) c.note.result)) (sym c.copy_from_slice.ensures.len)
    (still_told _ _ _ _ _ c.note.result c.note.ensures.noted c.note.ensures.place c.note.ensures.same
    (reads_back c.args.history.now c.args.bytes.now buf c.args.first (n / 512) c.in_ok-at.at c.requires.holds c.in_ok-at.ensures.inside c.in_ok-at.ensures.at same))
  where
    pieces : (at n : ℕ) → n % 512 ≡ 0 → at + n - at ≡ 512 * (n / 512)
    pieces at n h = omega arith
