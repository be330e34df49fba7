use Rattle.std.proofs.Common.{◌≡◌, ℕ, List, [], ◌∷◌, ◌++◌, subst}
use Rattle.std.specs.Prelude.{OnOk, codes}
use Rattle.vhdx_format.specs.declared.locator.Pair.{Pair}
use Rattle.vhdx_format.specs.Texts.{text_units}
use Rattle.parent_locator.proofs.child.push_path.Goals as goal

abbrev pair : List ℕ → List ℕ → Pair
pair key value = record { key = key; value = value }

pair_is : (key value k v : List ℕ) → key ≡ k → value ≡ v → pair key value ≡ pair k v
pair_is key value k v e f = cc

pub returns-clause-pushed : goal.returns-clause-pushed
returns-clause-pushed c =
    subst (λ (p : Pair). OnOk c.push.result (c.push.new.self ≡ c.args.out.now ++ p ∷ []))
    (pair_is c.in_ok-key.key c.in_ok-value.value (codes "relative_path") (codes ".\\" ++ text_units c.args.name.now) c.in_ok-key.ensures c.in_ok-value.ensures.path) c.push.ensures.ok
