-- Where the files of a merge stand, and how many they are.
use Rattle.std.proofs.Common.{◌≡◌, ◌+◌, ◌<◌, ◌≤◌, ℕ, Bool, true, false, List, [], ◌∷◌, length, length-append, ltb-true, nat_lt, refl, sym, ap, ◌∙◌, arith}
use Rattle.std.specs.Prelude.{Option, Some, None, if◌then◌else◌}
use Rattle.guest_model.specs.declared.refusal.ChainRefusal.{ChainRefusal}
use Rattle.guest_model.specs.declared.refusal.ChainRefusal.TheVariants as refusals
use Rattle.link_rules.specs.declared.linked.LinkedFile.{LinkedFile}
use Rattle.merge_plan.specs.Merging.{MergeFiles, source_place}
use Rattle.chain_model.specs.Stripes.{stripe_count}
use Rattle.chain_core.specs.Copying.{no_stripe, past_stripes}
use Rattle.chain_core.specs.MergeStarting.{behind_first, chain_files}
use Rattle.chain_core.specs.Sessions.{has_merge}
use Rattle.chain_core.specs.declared.layers.Layers.{Layers}
use Rattle.layer_session.proofs.Equal.{some_none}

counted : (m : MergeFiles) → length (chain_files m) ≡ length m.above + (3 + length m.below)
counted m = let sum = length-append m.above (m.child ∷ m.source ∷ m.target ∷ m.below) in let four : length (m.child ∷ m.source ∷ m.target ∷ m.below) ≡ 3 + length m.below = omega arith in sum ∙ ap (λ k. length m.above + k) four

pub not_first : (m : MergeFiles) (source : ℕ) → source ≡ source_place m → 0 < source
not_first m source place = omega (arith, place)

pub not_last : (m : MergeFiles) (files : List LinkedFile) (source : ℕ) → files ≡ chain_files m → source ≡ source_place m → source + 1 < length files
not_last m files source is place = omega (arith, place, ap length is, counted m)

behind_few : (above : List LinkedFile) → length (behind_first above) ≤ length above
behind_few [] = omega arith
behind_few (x ∷ xs) = omega arith

pub few_above : (m : MergeFiles) (files above : List LinkedFile) → chain_files m ≡ files → above ≡ behind_first m.above → length files ≤ 64 → 1 + length above ≤ 64
few_above m files above is behind few = omega (arith, ap length is, counted m, ap length behind, behind_few m.above, few)

pub few_rest : (m : MergeFiles) (files : List LinkedFile) (source : ℕ) → chain_files m ≡ files → source_place m ≡ source → length files ≤ 64 → source + 2 + length m.below ≤ 64
few_rest m files source is place few = omega (arith, ap length is, counted m, place, few)

-- a stripe that isn't refused is one of a merge
pub stripe_merge : (stripe : ℕ) (layers : Layers) → no_stripe stripe layers ≡ None → has_merge layers ≡ true
stripe_merge stripe layers = by_test (has_merge layers) (past_stripes stripe (stripe_count layers.geometry.sector layers.geometry.sectors))
  where
    by_test : (b : Bool) (later : Option ChainRefusal) → (if b then later else Some refusals.NoMerge) ≡ None → b ≡ true
    by_test true later is = refl
    by_test false later is = absurd (let never : ◌≡◌ {A = Option ChainRefusal} (Some refusals.NoMerge) None = is in some_none never)

pub stripe_there : (stripe : ℕ) (layers : Layers) → no_stripe stripe layers ≡ None → stripe < stripe_count layers.geometry.sector layers.geometry.sectors
stripe_there stripe layers none =
    by_test (nat_lt stripe n) refl (sym (ap (λ (b : Bool). if b then past_stripes stripe n else Some refusals.NoMerge) (stripe_merge stripe layers none)) ∙ none)
  where
    n : ℕ
    n = stripe_count layers.geometry.sector layers.geometry.sectors

    by_test : (b : Bool) → nat_lt stripe n ≡ b → (if b then None else Some (refusals.NoStripe stripe n)) ≡ None → stripe < n
    by_test true is none = ltb-true stripe n is
    by_test false is none = absurd (let never : ◌≡◌ {A = Option ChainRefusal} (Some (refusals.NoStripe stripe n)) None = none in some_none never)
