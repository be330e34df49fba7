use Rattle.std.proofs.Common.{◌≡◌, ℕ, List, ◌++◌, refl}
use Rattle.vx_base.specs.Fields.{zeros, u32_bytes}
use Rattle.vx_base.proofs.Writing.{IsWritten, written_first, written_next}
use Rattle.meta_edit.proofs.change.place_bytes.Goals as goal

closed : (a b : ℕ) (out : List ℕ) → IsWritten out (u32_bytes a ++ u32_bytes b) 0 → out ≡ u32_bytes a ++ u32_bytes b
unfolding zeros
closed a b out e = e.is

pub returns : goal.returns
returns c =
    let at = written_next (u32_bytes c.args.at) 0 4 (written_first 8 refl refl) c.put_u32.ensures refl refl in
    closed c.args.at c.args.len _ (written_next (u32_bytes c.args.len) 4 0 at c.put_u32-2.ensures refl refl)
