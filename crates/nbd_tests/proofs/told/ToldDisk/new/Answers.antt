use Rattle.std.proofs.Common.{◌≡◌, ◌≤◌, ◌<◌, ◌*◌, ◌^◌, ℕ, List, [], sym, subst, arith}
use Rattle.vx_base.specs.Fields.{zeros}
use Rattle.guest_model.specs.History.{History}
use Rattle.nbd_tests.specs.Told.{Holds}
use Rattle.nbd_tests.proofs.ToldLemmas.{holds_blank}
use Rattle.nbd_tests.proofs.told.ToldDisk.new.Goals as goal

some_of : (n len : ℕ) → len ≡ 512 * n → 0 < n → 512 ≤ len
some_of n len e h = omega arith

few_of : (n len : ℕ) → len ≡ 512 * n → n ≤ 2 ^ 37 → len ≤ 2 ^ 46
few_of n len e h = omega arith

held : (h : History) (bytes : List ℕ) (n : ℕ) → h ≡ [] → bytes ≡ zeros n → Holds h bytes
held h bytes n none blank = subst (Holds h) (sym blank) (subst (λ k. Holds k (zeros n)) (sym none) (holds_blank n))

pub invariant_of-result : goal.invariant_of-result
invariant_of-result c = record {
  some = some_of _ _ c.in_ok-zeroed.ensures.len c.requires.some;
  few = few_of _ _ c.in_ok-zeroed.ensures.len c.requires.few;
  holds = held _ _ (512 * c.args.sectors) c.new.ensures c.in_ok-zeroed.ensures.zeros;
}
