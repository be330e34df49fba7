-- The files of a chain, parted round the source of a merge.
use Rattle.std.proofs.Common.{◌≡◌, suc, List, [], ◌∷◌, ◌++◌, length, drop, get_or, refl, ap, ◌∙◌, arith}
use Rattle.link_rules.specs.declared.linked.LinkedFile.{LinkedFile}
use Rattle.merge_plan.specs.Merging.{MergeFiles, source_place}
use Rattle.chain_core.specs.MergeStarting.{chain_files}

pub first_alike : {A : Type 0} (x y : A) (a b : List A) → x ∷ a ≡ y ∷ b → x ≡ y
first_alike x y a b e = ap (λ l. get_or l 0 x) e

pub rest_alike : {A : Type 0} (x y : A) (a b : List A) → x ∷ a ≡ y ∷ b → a ≡ b
rest_alike x y a b e = ap (λ l. drop 1 l) e

-- what stands in front of one item, the item and what stands behind it
record Alike {A : Type 0} (a b : List A) (x y : A) (c d : List A) : Type 0 where
  pub front : a ≡ b
  pub item : x ≡ y
  pub behind : c ≡ d

parted_alike : {A : Type 0} (a b : List A) (x y : A) (c d : List A) → length a ≡ length b → a ++ x ∷ c ≡ b ++ y ∷ d → Alike a b x y c d
parted_alike [] [] x y c d n e = record { front = refl; item = first_alike x y c d e; behind = rest_alike x y c d e }
parted_alike [] (v ∷ b) x y c d n e = absurd (let never : 0 ≡ suc (length b) = n in omega (arith, never))
parted_alike (u ∷ a) [] x y c d n e = absurd (let never : suc (length a) ≡ 0 = n in omega (arith, never))
parted_alike (u ∷ a) (v ∷ b) x y c d n e =
    let many : length a ≡ length b = (let both : suc (length a) ≡ suc (length b) = n in omega (arith, both)) in
    let later = parted_alike a b x y c d many (rest_alike u v (a ++ x ∷ c) (b ++ y ∷ d) e) in
    record { front = ap (λ l. u ∷ l) later.front ∙ ap (λ w. w ∷ b) (first_alike u v (a ++ x ∷ c) (b ++ y ∷ d) e); item = later.item; behind = later.behind }

-- the files of a merge are told by the chain's and the place of the source
pub same_merge : (m n : MergeFiles) → chain_files m ≡ chain_files n → source_place m ≡ source_place n → m ≡ n
same_merge m n files place =
    let many : length m.above ≡ length n.above = omega (arith, place) in
    let at = parted_alike m.above n.above m.child n.child (m.source ∷ m.target ∷ m.below) (n.source ∷ n.target ∷ n.below) many files in
    let source = first_alike m.source n.source (m.target ∷ m.below) (n.target ∷ n.below) at.behind in
    let later = rest_alike m.source n.source (m.target ∷ m.below) (n.target ∷ n.below) at.behind in
    let target = first_alike m.target n.target m.below n.below later in
    let below = rest_alike m.target n.target m.below n.below later in
    ap (λ (a : List LinkedFile). (let x : MergeFiles = record m { above = a } in x)) at.front
    ∙ ap (λ (f : LinkedFile). (let x : MergeFiles = record m { above = n.above; child = f } in x)) at.item
    ∙ ap (λ (f : LinkedFile). (let x : MergeFiles = record n { source = f; target = m.target; below = m.below } in x)) source
    ∙ ap (λ (f : LinkedFile). (let x : MergeFiles = record n { target = f; below = m.below } in x)) target
    ∙ ap (λ (l : List LinkedFile). (let x : MergeFiles = record n { below = l } in x)) below
