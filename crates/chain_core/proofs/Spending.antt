-- Numbers of headers that leave no room for those of a session.
use Rattle.std.proofs.Common.{◌≡◌, ℕ, ◌^◌, ◌-◌, ◌<◌, ◌≤◌, Bool, true, false, cond, List, [], ◌∷◌, ◌++◌, length, refl, sym, ap, subst, ◌∙◌, arith}
use Rattle.std.specs.Prelude.{Option, Some, None, nat_le}
use Rattle.std.specs.Option.{option_or}
use Rattle.std.specs.Str.{bytes_eq}
use Rattle.std.proofs.lemmas.Slice.Eq.{bytes_eq-Decides}
use Rattle.std.proofs.lemmas.Bool.{leb-true}
use Rattle.link_rules.specs.declared.linked.LinkedFile.{LinkedFile}
use Rattle.merge_plan.specs.Merging.{MergeFiles}
use Rattle.chain_core.specs.MergeStarting.{AreLow, chain_files, high_at, high_of, leaf_of, spent, spent_inside}
use Rattle.chain_core.proofs.MergeFound.{files_split, lower_files}
use Rattle.layer_session.proofs.Equal.{some_none}

pub spent_short : (files : List LinkedFile) (name : List ℕ) → length files < 3 → None ≡ spent_inside files name
spent_short [] name short = refl
spent_short (a ∷ []) name short = refl
spent_short (a ∷ b ∷ []) name short = refl
spent_short (a ∷ b ∷ c ∷ files) name short = absurd (omega arith)

pub both_none : (o p : Option ℕ) → option_or o p ≡ None → (o ≡ None) × (p ≡ None)
both_none None p h = (refl, h)
both_none (Some n) p h = absurd (let never : ◌≡◌ {A = Option ℕ} (Some n) None = h in some_none never)

pub low_of : (file : LinkedFile) → high_of file ≡ None → file.parts.header.number ≤ 2 ^ 64 - 2 ^ 32
low_of file h = by_test (nat_le file.parts.header.number (2 ^ 64 - 2 ^ 32)) refl h
  where
    by_test : (b : Bool) → nat_le file.parts.header.number (2 ^ 64 - 2 ^ 32) ≡ b → cond b None (Some file.parts.header.number) ≡ None → file.parts.header.number ≤ 2 ^ 64 - 2 ^ 32
    by_test true is none = leb-true file.parts.header.number (2 ^ 64 - 2 ^ 32) is
    by_test false is none = absurd (let never : ◌≡◌ {A = Option ℕ} (Some file.parts.header.number) None = none in some_none never)

inside_low : (above : List LinkedFile) (child source target : LinkedFile) (below : List LinkedFile) → spent_inside (above ++ child ∷ source ∷ target ∷ below) source.name ≡ None → high_at child source target source.name ≡ None
inside_low [] child source target below h = (both_none (high_at child source target source.name) _ h).0
inside_low (f ∷ []) child source target below h = inside_low [] child source target below (both_none (high_at f child source source.name) _ h).1
inside_low (f ∷ g ∷ []) child source target below h = inside_low (g ∷ []) child source target below (both_none (high_at f g child source.name) _ h).1
inside_low (f ∷ g ∷ k ∷ above) child source target below h = inside_low (g ∷ k ∷ above) child source target below (both_none (high_at f g k source.name) _ h).1

pub are_low : (m : MergeFiles) → spent (chain_files m) m.source.name ≡ None → AreLow m
are_low m h =
    let split : spent (leaf_of m ∷ lower_files m) m.source.name ≡ None = subst (λ (fs : List LinkedFile). spent fs m.source.name ≡ None) (files_split m) h in
    let two = both_none (high_of (leaf_of m)) _ split in
    let inside : spent_inside (chain_files m) m.source.name ≡ None = subst (λ (fs : List LinkedFile). spent_inside fs m.source.name ≡ None) (sym (files_split m)) two.1 in
    let here = inside_low m.above m.child m.source m.target m.below inside in
    let same : bytes_eq m.source.name m.source.name ≡ true = (bytes_eq-Decides m.source.name m.source.name).1 refl in
    let three = both_none (high_of m.child) _ (ap (λ (b : Bool). cond b (option_or (high_of m.child) (option_or (high_of m.source) (high_of m.target))) None) (sym same) ∙ here) in
    let last = both_none (high_of m.source) (high_of m.target) three.1 in
    record { leaf = low_of (leaf_of m) two.0; child = low_of m.child three.0; source = low_of m.source last.0; target = low_of m.target last.1 }
