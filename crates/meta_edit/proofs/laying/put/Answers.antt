use Rattle.std.proofs.Common.{◌≡◌, ◌≤◌, ◌<◌, ◌+◌, ◌-◌, ◌*◌, ◌%◌, ℕ, zero, suc, min, List, length, take, drop, ap, ◌∙◌, refl, arith}
use Rattle.store_model.specs.Disk.{Disk}
use Rattle.store_model.specs.File.{seen}
use Rattle.store_model.specs.Trace.{file_of}
use Rattle.vx_base.specs.Fields.{written_over}
use Rattle.meta_edit.specs.Pages.{laid_file, with_pages}
use Rattle.meta_edit.proofs.ByteLaws.{over_more, over_nothing}
use Rattle.meta_edit.proofs.PageLaws.{length-with_pages}
use Rattle.meta_edit.proofs.laying.put.Goals as goal

-- the pages so far, and one more
few : (first so_far now at d k len : ℕ) → k ≡ min (4096 - (at + d) % 4096) (len - d) → d < len → (d ≡ 0 → so_far ≤ first) → (0 < d → d < len → (at + d) % 4096 ≡ 0)
    → 4096 * so_far ≤ 4096 * first + at % 4096 + d + 4095 → now ≤ so_far + 1 → 4096 * now ≤ 4096 * first + at % 4096 + (d + k) + 4095
few first so_far now at zero k len e l none whole most one = omega (arith, none refl)
few first so_far now at (suc d) k len e l none whole most one = omega (arith, whole (omega arith) l)

pub loop-done-init : goal.loop-done-init
loop-done-init g c = record {
  store = refl;
  within = omega arith;
  pages = c.requires.updates;
  whole = λ h l. absurd (omega arith);
  none_yet = λ h. omega arith;
  few = omega arith;
  told = λ t is. over_nothing (with_pages c.args.updates.now (laid_file t c.args.laid.now.file c.args.laid.now.over.now)) c.args.at;
}

pub loop-done-preserved : goal.loop-done-preserved
loop-done-preserved g c =
    let m : ℕ = c.args.laid.now.parts.now.meta_at in
    let n : ℕ = c.args.laid.now.parts.now.meta_len in
    let k : ℕ = c.min-n.result in
    let d : ℕ = c.loop-done.done in
    let piece : List ℕ = take (d + k - d) (drop d c.args.bytes.now) in
    let all : d + k - d ≡ k = omega arith in
    record {
      store = c.in_ok-put_piece.ensures.store ∙ c.loop-done.invariant.store;
      within = omega (arith, c.min-n.ensures, c.loop-done-test.true);
      pages = c.in_ok-put_piece.ensures.pages;
      whole = λ h l. omega (arith, c.min-n.ensures, c.loop-done-test.true, l);
      none_yet = λ h. omega (arith, h, c.min-n.ensures, c.loop-done-test.true);
      few = few (length c.args.updates.now) (length c.loop-done.updates) (length c.put_piece.new.updates) c.args.at d k (length c.args.bytes.now) (omega (arith, c.min-n.ensures)) c.loop-done-test.true c.loop-done.invariant.none_yet c.loop-done.invariant.whole c.loop-done.invariant.few c.in_ok-put_piece.ensures.few;
      told = λ t is.
          let file : List ℕ = laid_file t c.args.laid.now.file c.args.laid.now.over.now in
          let shown : List ℕ = with_pages c.args.updates.now file in
          let l1 : length file ≡ length (seen (file_of t c.args.laid.now.file)) = length-with_pages m n c.args.laid.now.over.now (seen (file_of t c.args.laid.now.file)) c.requires.laid.over (c.requires.laid.inside t is) in
          let l2 : length shown ≡ length file = length-with_pages m n c.args.updates.now file c.requires.updates (omega (arith, l1, c.requires.laid.inside t is)) in
          c.in_ok-put_piece.ensures.written t (ap (λ (x : Disk). x.told) c.loop-done.invariant.store ∙ is)
          ∙ ap (λ (z : List ℕ). written_over z (c.args.at + d) piece) (c.loop-done.invariant.told t is)
          ∙ over_more shown c.args.bytes.now c.args.at (c.args.at + d) d k piece refl
          (omega (arith, c.min-n.ensures, c.loop-done-test.true)) (ap (λ (j : ℕ). take j (drop d c.args.bytes.now)) all) (omega (arith, l1, l2, c.requires.laid.inside t is, c.requires.last));
    }
