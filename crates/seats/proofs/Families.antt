-- What the first seat counts stays right, and where all others were joined into it, they are spent.
use Rattle.std.proofs.Common.{◌≡◌, ◌≢◌, ℕ, ◌+◌, ◌^◌, ◌<◌, ◌≤◌, Bool, true, false, List, [], ◌∷◌, ◌++◌, length, set, sym, refl, ap, ◌∙◌, subst, arith, length-set}
use Rattle.std.specs.List.{sum_by}
use mathlib.Core.Option.{some}
use lib.ListN.{get_elem?}
use Rattle.seats.specs.declared.Family.{Family}
use Rattle.seats.specs.Families.{newborn, with_split, with_join, AllJoined, live_count, Counts, IsFamily}
use Rattle.seats.proofs.Sums.{sum_by-set_at, sum_by-at_le, sum_by-two_le, sum_by-first}
use Rattle.seats.proofs.Views.{each-first, each-set, each-cut, each-joined, length-cut, length-joined, sum-cut, sum-joined}

spent-of : (b : Bool) → live_count b ≡ 0 → b ≡ true
spent-of true e = refl
spent-of false e = absurd (omega (arith, e))

-- a flag is not both
pub not_both : {A : Type 0} (b : Bool) → b ≡ false → b ≡ true → A
not_both b e f = absurd (let a : false ≡ true = sym e ∙ f in cc)

not_first : (n m j : ℕ) (f : Family) → f ≡ newborn false → Counts n m j f
not_first n m j f is = not_both f.is_first (ap (λ (g : Family). g.is_first) is)

-- the table's first view
pub family-opens : {V : Type 0} (family : V → Family) (is_spent : V → Bool) (v : V) → family v ≡ newborn true → is_spent v ≡ false → IsFamily family is_spent (v ∷ [])
family-opens family is_spent v is live =
    let one : live_count (is_spent v) ≡ 1 = ap live_count live in
    let splits : (family v).splits ≡ 0 = ap (λ (f : Family). f.splits) is in
    let joins : (family v).joins ≡ 0 = ap (λ (f : Family). f.joins) is in record {
      counts = each-first (λ j u. Counts 1 (sum_by (λ w. live_count (is_spent w)) (v ∷ [])) j (family u)) v (λ _. (refl, omega arith, omega arith));
      few = omega arith;
    }

module _ {V : Type 0} {family : V → Family} {is_spent : V → Bool} {vs : List V} (r : IsFamily family is_spent vs) (id : ℕ) (v : V) (at : get_elem? vs id ≡ some v) where
  abbrev lives : List V → ℕ
  lives us = sum_by (λ (u : V). live_count (is_spent u)) us

  pub family-set : (w : V) → family w ≡ family v → is_spent w ≡ is_spent v → IsFamily family is_spent (set vs id w)
  family-set w same still =
      let us : List V = set vs id w in
      let long : length us ≡ length vs = length-set vs id w in
      let live : lives us ≡ lives vs = let a : live_count (is_spent w) ≡ live_count (is_spent v) = ap live_count still in omega (arith, sum_by-set_at (λ (u : V). live_count (is_spent u)) vs id v w at) in
      let kept : (j : ℕ) (f : Family) → Counts (length vs) (lives vs) j f → Counts (length us) (lives us) j f = λ j f c is. ((c is).0, long ∙ (c is).1, ap (λ (n : ℕ). n + f.joins) live ∙ (c is).2) in record {
        counts = each-set (λ j u. Counts (length us) (lives us) j (family u)) vs id w (subst (Counts (length us) (lives us) id) (sym same) (kept id (family v) (r.counts id v at))) (λ j u e _. kept j (family u) (r.counts j u e));
        few = omega (arith, long, r.few);
      }

  module _ (is_first : (family v).is_first ≡ true) where
    first : (id ≡ 0) × (length vs ≡ (family v).splits + 1) × (lives vs + (family v).joins ≡ (family v).splits + 1)
    first = r.counts id v at is_first

    others : (n m j : ℕ) (u : V) → get_elem? vs j ≡ some u → j ≢ id → Counts n m j (family u)
    others n m j u e far is = absurd (far ((r.counts j u e is).0 ∙ sym first.0))

    pub family-cut : (w x : V) → (family v).splits < 2 ^ 32 → family w ≡ with_split (family v) → is_spent w ≡ is_spent v → family x ≡ newborn false → is_spent x ≡ false → IsFamily family is_spent (set vs id w ++ x ∷ [])
    family-cut w x room is still new live =
        let us : List V = set vs id w ++ x ∷ [] in
        let long : length us ≡ length vs + 1 = length-cut vs id w x in
        let sum = sum-cut vs id w x (λ (u : V). live_count (is_spent u)) v at in
        let a : live_count (is_spent w) ≡ live_count (is_spent v) = ap live_count still in
        let b : live_count (is_spent x) ≡ 1 = ap live_count live in
        let splits : (family w).splits ≡ (family v).splits + 1 = ap (λ (f : Family). f.splits) is in
        let joins : (family w).joins ≡ (family v).joins = ap (λ (f : Family). f.joins) is in record {
          counts = each-cut (λ j u. Counts (length us) (lives us) j (family u)) vs id w (λ _. (first.0, omega (arith, first.1), omega (arith, first.2))) (others (length us) (lives us)) x (λ j. not_first (length us) (lives us) j (family x) new);
          few = omega (arith, long, first.1, room);
        }

    pub family-joined : (w : V) (other : ℕ) (u x : V) → get_elem? (set vs id w) other ≡ some u → family w ≡ with_join (family v) → is_spent w ≡ is_spent v → is_spent u ≡ false → family x ≡ newborn false → is_spent x ≡ true → IsFamily family is_spent (set (set vs id w) other x)
    family-joined w other u x at' is still live new spent =
        let us : List V = set (set vs id w) other x in
        let long : length us ≡ length vs = length-joined vs id w x other in
        let sum = sum-joined vs id w x (λ (y : V). live_count (is_spent y)) v at other u at' in
        let a : live_count (is_spent w) ≡ live_count (is_spent v) = ap live_count still in
        let b : live_count (is_spent u) ≡ 1 = ap live_count live in
        let c : live_count (is_spent x) ≡ 0 = ap live_count spent in
        let splits : (family w).splits ≡ (family v).splits = ap (λ (f : Family). f.splits) is in
        let joins : (family w).joins ≡ (family v).joins + 1 = ap (λ (f : Family). f.joins) is in record {
          counts = each-joined (λ j y. Counts (length us) (lives us) j (family y)) vs id other w x (λ _. (first.0, omega (arith, first.1), omega (arith, first.2))) (not_first (length us) (lives us) other (family x) new) (others (length us) (lives us));
          few = omega (arith, long, r.few);
        }

    module _ (live : is_spent v ≡ false) where
      one : live_count (is_spent v) ≡ 1
      one = ap live_count live

      pub few_joins : (family v).joins ≤ 2 ^ 32
      few_joins = omega (arith, r.few, first.1, first.2, one, sum_by-at_le (λ (u : V). live_count (is_spent u)) vs id v at)

      module _ (all : AllJoined (family v)) where
        pub others_spent : (j : ℕ) (u : V) → get_elem? vs j ≡ some u → j ≢ id → is_spent u ≡ true
        others_spent j u e far = let two = sum_by-two_le (λ (y : V). live_count (is_spent y)) vs id j v u at e (λ z. far (sym z)) in spent-of (is_spent u) (omega (arith, two, one, all, first.2))

        -- what spent seats have none of, the first has all of
        pub sum-first : (f : V → ℕ) → ((j : ℕ) (u : V) → get_elem? vs j ≡ some u → is_spent u ≡ true → f u ≡ 0) → sum_by f vs ≡ f v
        sum-first f none = sum_by-first f vs v (subst (λ (i : ℕ). get_elem? vs i ≡ some v) first.0 at) (λ j u e far. none j u e (others_spent j u e (λ z. far (z ∙ first.0))))
