use Rattle.std.proofs.Common.{◌≡◌, ◌≤◌, ◌+◌, ◌-◌, ◌++◌, ℕ, List, length, take, drop, arith, ◌∙◌, ap, sym, subst, [], length-take-le, length-drop, append_assoc}
use Rattle.std.specs.Prelude.{min}
use Rattle.std.proofs.lemmas.List.{append-nil, take_all}
use Rattle.std.proofs.lemmas.Slice.{take-put_mid}
use Rattle.std.proofs.lemmas.Result.{err_from_is_err_and}
use borrow.Rule.Slice.PartMut.{put_mid, post_of, same_len_mid}
use Rattle.vx_base.specs.declared.parts.Geometry.{Geometry}
use Rattle.disk_calls.specs.Disks.{IsWhole}
use Rattle.nbd_front.proofs.Wanted.{read_on, read_refused, reads_done, even_rest, asks_gives, reads_as_many}
use Rattle.nbd_front.proofs.asking.read_into.Goals as goal

-- how many bytes a piece has, and the room with it
piece_len : (at n : ℕ) (out buf : List ℕ) → at ≤ length out → n ≤ length out - at → length buf ≡ length (take (at + n - at) (drop at out)) → length buf ≡ n
piece_len at n out buf inside few e =
    let cut : at + n - at ≡ n = omega arith in
    e ∙ ap (λ k. length (take k (drop at out))) cut ∙ length-take-le n (drop at out) (omega (arith, length-drop at out))

few_of : (n len : ℕ) → n ≡ min 1048576 len → n ≤ len
few_of n len e = omega arith

pub returns-in_err-read-clause-asks : goal.returns-in_err-read-clause-asks
returns-in_err-read-clause-asks g c =
    let p = err_from_is_err_and c.from_residual.result c.from_residual.ensures.1 in
    let size = ap (λ (q : Geometry). q.sector) c.loop-done.invariant.size ∙ c.requires.sector in
    let few = few_of _ _ c.min-n.ensures in
    let len = piece_len c.loop-done.done c.min-n.result c.loop-done.out c.read.new.buf c.loop-done.invariant.inside few c.read.auto.buf in
    let room = same_len_mid c.loop-done.done (c.loop-done.done + c.min-n.result - c.loop-done.done) c.loop-done.out c.read.new.buf c.read.auto.buf in
    let all = put_mid c.loop-done.done (c.loop-done.done + c.min-n.result - c.loop-done.done) c.loop-done.out c.read.new.buf in
    let post = post_of c.loop-done.done (c.loop-done.done + c.min-n.result - c.loop-done.done) c.loop-done.out in
    rw (p.1, p.2) (reads_as_many c.args.sector c.args.offset _ _ (sym room) (c.loop-done.invariant.rest _ _ (c.read.new.buf ++ post)
    (read_refused _ _ c.args.sector (c.args.offset + c.loop-done.done) (length c.loop-done.out - c.loop-done.done) c.min-n.result c.read.new.buf _ _ _ _
    (omega arith) size c.min-n.ensures len c.in_err-read.ensures.told)))

pub loop-done-preserved : goal.loop-done-preserved
loop-done-preserved g c =
    let size = ap (λ (q : Geometry). q.sector) c.loop-done.invariant.size ∙ c.requires.sector in
    let few = few_of _ _ c.min-n.ensures in
    let len = piece_len c.loop-done.done c.min-n.result c.loop-done.out c.read.new.buf c.loop-done.invariant.inside few c.read.auto.buf in
    let k = c.loop-done.done + c.min-n.result - c.loop-done.done in
    let room = same_len_mid c.loop-done.done k c.loop-done.out c.read.new.buf c.read.auto.buf in
    let all = put_mid c.loop-done.done k c.loop-done.out c.read.new.buf in
    let left : length all - (c.loop-done.done + c.min-n.result) ≡ (length c.loop-done.out - c.loop-done.done) - c.min-n.result = omega arith in
    let front = take-put_mid c.loop-done.done k c.loop-done.out c.read.new.buf (c.loop-done.done + c.min-n.result)
    (ap (λ m. c.loop-done.done + m) (sym len)) c.loop-done.invariant.inside in
    record {
      inside = omega arith;
      even = subst (IsWhole c.args.sector) (sym (left ∙ ap (λ m. (length c.loop-done.out - c.loop-done.done) - m) c.min-n.ensures)) (even_rest c.args.sector _ c.requires.size c.loop-done.invariant.even);
      size = (g.D.DiskCalls.lawful _ _ _ _ c.in_ok-read.ensures.told).size ∙ c.loop-done.invariant.size;
      rest = λ new refused given asks.
          reads_as_many c.args.sector c.args.offset _ _ (sym room) (asks_gives (sym (ap (λ l. l ++ given) front ∙ append_assoc (take c.loop-done.done c.loop-done.out) c.read.new.buf given))
          (c.loop-done.invariant.rest new refused (c.read.new.buf ++ given)
          (read_on _ _ c.args.sector (c.args.offset + c.loop-done.done) (length c.loop-done.out - c.loop-done.done) c.min-n.result _ _ _ c.read.new.buf _ _ _ _ _
          (omega arith) size c.min-n.ensures (omega arith) left len c.in_ok-read.ensures.told asks)));
    }

pub returns-clause-asks : goal.returns-clause-asks
returns-clause-asks g c =
    let none : length c.loop-done.out - c.loop-done.done ≡ 0 = omega arith in
    let whole = append-nil (take c.loop-done.done c.loop-done.out) ∙ take_all c.loop-done.done c.loop-done.out c.loop-done-test.false in
    asks_gives whole (c.loop-done.invariant.rest _ _ [] (reads_as_many c.args.sector (c.args.offset + c.loop-done.done) _ _ (sym none) (reads_done _ _ _ _)))
