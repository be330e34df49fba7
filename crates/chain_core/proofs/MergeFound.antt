-- The files of a merge in the middle of a chain, as they are found and as they are once the merge is prepared.
use Rattle.std.proofs.Common.{◌≡◌, ℕ, suc, ◌+◌, ◌<◌, ◌≤◌, true, List, [], ◌∷◌, ◌++◌, length, refl, sym, ap, subst, ◌∙◌, arith, is_some}
use Rattle.std.proofs.lemmas.List.{append_assoc}
use Rattle.std.specs.List.{AllByRecursion}
use Rattle.store_model.specs.Trace.{Trace}
use Rattle.chain_model.specs.Images.{Placed}
use Rattle.chain_model.specs.Members.{NoneTwice}
use Rattle.link_rules.specs.Chains.{most_files}
use Rattle.link_rules.specs.Chains as links
use Rattle.link_rules.specs.Effects.{IsServed}
use Rattle.link_rules.specs.Lines.{IsLine}
use Rattle.link_rules.specs.declared.linked.LinkedFile.{LinkedFile}
use Rattle.layer_session.specs.Begins.{as_found}
use Rattle.merge_plan.specs.Merging.{MergeFiles, source_place}
use Rattle.chain_core.specs.MergeStarting.{chain_files, first_or, leaf_of, target_place}
use Rattle.chain_core.specs.Starting.{opening_disk, placed_from, way_to}
use Rattle.merge_plan.specs.Attached.{AreAsOpened, AreAttached, IsAsOpened}
use Rattle.chain_core.specs.States.{seen_in}
use Rattle.chain_core.proofs.Beginning.{none_loose_in, opens_at_rest, served, whole}
use Rattle.chain_core.proofs.Phases.{Reached}
use Rattle.merge_plan.proofs.Planned.{opened_below}
use Rattle.std.specs.Prelude.{None}

-- ---- the leaf and the files below it

-- what follows the first of some files
abbrev pub behind : List LinkedFile → LinkedFile → List LinkedFile → List LinkedFile
behind [] child rest = rest
behind (first ∷ above) child rest = above ++ child ∷ rest

pub split_is : (above : List LinkedFile) (child : LinkedFile) (rest : List LinkedFile) → above ++ child ∷ rest ≡ first_or above child ∷ behind above child rest
split_is [] child rest = refl
split_is (first ∷ above) child rest = refl

abbrev pub lower_files : MergeFiles → List LinkedFile
lower_files m = behind m.above m.child (m.source ∷ m.target ∷ m.below)

pub files_split : (m : MergeFiles) → chain_files m ≡ leaf_of m ∷ lower_files m
files_split m = split_is m.above m.child (m.source ∷ m.target ∷ m.below)

-- ---- as they are found

-- the files between the leaf and the source
abbrev pub between_found : Trace → List LinkedFile → LinkedFile → List Placed
between_found trace [] child = []
between_found trace (leaf ∷ above) child = placed_from trace 1 above ++ as_found trace (length (leaf ∷ above)) child.parts ∷ []

abbrev pub top_found : Trace → MergeFiles → Placed
top_found trace m = as_found trace 0 (leaf_of m).parts

abbrev pub source_found : Trace → MergeFiles → Placed
source_found trace m = as_found trace (source_place m) m.source.parts

abbrev pub target_found : Trace → MergeFiles → Placed
target_found trace m = as_found trace (target_place m) m.target.parts

abbrev pub rest_found : Trace → MergeFiles → List Placed
rest_found trace m = placed_from trace (target_place m + 1) m.below

abbrev pub chain_found : Trace → MergeFiles → List Placed
chain_found trace m = (top_found trace m ∷ between_found trace m.above m.child) ++ source_found trace m ∷ target_found trace m ∷ rest_found trace m

pub placed_append : (t : Trace) (n : ℕ) (a b : List LinkedFile) → placed_from t n (a ++ b) ≡ placed_from t n a ++ placed_from t (n + length a) b
placed_append t n [] b = ap (λ (k : ℕ). placed_from t k b) (let e : n ≡ n + 0 = omega arith in e)
placed_append t n (f ∷ a) b =
    let same : n + 1 + length a ≡ n + suc (length a) = omega arith in
    ap (λ (c : List Placed). as_found t n f.parts ∷ c) (placed_append t (n + 1) a b ∙ ap (λ (k : ℕ). placed_from t (n + 1) a ++ placed_from t k b) same)

pub chain_is : (t : Trace) (above : List LinkedFile) (child source target : LinkedFile) (below : List LinkedFile)
    → placed_from t 0 (above ++ child ∷ source ∷ target ∷ below) ≡ chain_found t (record { above = above; child = child; source = source; target = target; below = below })
chain_is t [] child source target below = refl
chain_is t (f ∷ above) child source target below =
    let k : ℕ = length (f ∷ above) in
    let same : 1 + length above ≡ k = omega arith in
    let rest : List Placed = as_found t (k + 1) source.parts ∷ as_found t (k + 1 + 1) target.parts ∷ placed_from t (k + 1 + 1 + 1) below in
    ap (λ (c : List Placed). as_found t 0 f.parts ∷ c)
    (placed_append t 1 above (child ∷ source ∷ target ∷ below) ∙ ap (λ (n : ℕ). placed_from t 1 above ++ placed_from t n (child ∷ source ∷ target ∷ below)) same
    ∙ sym (append_assoc (placed_from t 1 above) (as_found t k child.parts ∷ []) rest))

-- ---- what is known of them

pub opened_above : (trace : Trace) (n : ℕ) (above rest : List LinkedFile) → AreAsOpened trace n (above ++ rest) → AreAsOpened trace n above
opened_above trace n [] rest h = tt
opened_above trace n (file ∷ above) rest h = (h.0, opened_above trace (n + 1) above rest h.1)

-- files of a chain that may be started, where their store tells its content
pub record IsFound (trace : Trace) (files : List LinkedFile) : Type 0 where
  pub attached : AreAttached files trace
  pub line : IsLine files
  pub names : NoneTwice (links.names_of files)
  pub few : length files ≤ most_files
  pub numbered : AllByRecursion IsServed files

abbrev pub AreFound : Trace → MergeFiles → Type 0
AreFound trace m = IsFound trace (chain_files m)

-- so they open, and each sector of the disk is in one of them
module _ (t : Trace) (leaf : LinkedFile) (others : List LinkedFile) (found : IsFound t (leaf ∷ others)) where
  pub reached_first : Reached leaf.parts.geometry.sector (opening_disk t (leaf ∷ others)) (way_to leaf (leaf ∷ others) None) (placed_from t 0 (leaf ∷ others)) [] [] t t
  reached_first = record {
    once = found.attached.once;
    served = served t leaf others found.attached found.line found.names found.few found.numbered;
    none = none_loose_in t 0 (leaf ∷ others);
    moments = opens_at_rest t leaf others found.attached found.line found.names found.few found.numbered;
    left = λ k apart. record { same = refl; names = refl };
    serving = tt;
  }

  pub whole_first : (s : ℕ) → s < leaf.parts.geometry.sectors → is_some (seen_in (placed_from t 0 (leaf ∷ others)) s) ≡ true
  whole_first = whole t leaf others found.attached found.line found.names found.few found.numbered

module _ (t : Trace) (m : MergeFiles) (found : AreFound t m) where
  four : AreAsOpened t (length m.above) (m.child ∷ m.source ∷ m.target ∷ m.below)
  four =
      let same : 0 + length m.above ≡ length m.above = omega arith in
      subst (λ (n : ℕ). AreAsOpened t n (m.child ∷ m.source ∷ m.target ∷ m.below)) same (opened_below t 0 m.above (m.child ∷ m.source ∷ m.target ∷ m.below) found.attached.each)

  pub child_opened : IsAsOpened t (length m.above) m.child
  child_opened = four.0

  pub source_opened : IsAsOpened t (source_place m) m.source
  source_opened = four.1.0

  pub target_opened : IsAsOpened t (target_place m) m.target
  target_opened = four.1.1.0

  pub rest_opened : AreAsOpened t (target_place m + 1) m.below
  rest_opened = four.1.1.1

  by_leaf : IsFound t (leaf_of m ∷ lower_files m)
  by_leaf = subst (IsFound t) (files_split m) found

  pub reached_none : Reached (leaf_of m).parts.geometry.sector (opening_disk t (chain_files m)) (way_to (leaf_of m) (chain_files m) None) (chain_found t m) [] [] t t
  reached_none =
      subst (λ (c : List Placed). Reached (leaf_of m).parts.geometry.sector (opening_disk t (chain_files m)) (way_to (leaf_of m) (chain_files m) None) c [] [] t t)
      (chain_is t m.above m.child m.source m.target m.below)
      (subst (λ (fs : List LinkedFile). Reached (leaf_of m).parts.geometry.sector (opening_disk t fs) (way_to (leaf_of m) fs None) (placed_from t 0 fs) [] [] t t) (sym (files_split m)) (reached_first t (leaf_of m) (lower_files m) by_leaf))

  pub whole_found : (s : ℕ) → s < (leaf_of m).parts.geometry.sectors → is_some (seen_in (chain_found t m) s) ≡ true
  whole_found s below =
      subst (λ (c : List Placed). is_some (seen_in c s) ≡ true) (chain_is t m.above m.child m.source m.target m.below)
      (subst (λ (fs : List LinkedFile). is_some (seen_in (placed_from t 0 fs) s) ≡ true) (sym (files_split m)) (whole_first t (leaf_of m) (lower_files m) by_leaf s below))
