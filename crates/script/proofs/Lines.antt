-- A text that grows by lines.
use Rattle.std.proofs.Common.{◌≡◌, ℕ, ◌+◌, ◌<◌, ◌≤◌, List, [], ◌∷◌, ◌++◌, length, drop, get_or, ap, sym, append_assoc, ◌∙◌}
use Rattle.std.proofs.Math.ListN.{drop_of_length-le}
use Rattle.std.proofs.lemmas.List.{append-nil, drop_more}

-- what stands behind an item's text is that of the items behind it
pub next_line : {X : Type 0} (F : List X → List ℕ) (xs : List X) (i : ℕ) (d : X) (out longer line rest whole : List ℕ) → i < length xs → longer ≡ out ++ line → F (get_or xs i d ∷ drop (i + 1) xs) ≡ line ++ rest → out ++ F (drop i xs) ≡ whole → longer ++ rest ≡ whole
next_line F xs i d out longer line rest whole h e f g =
    ap (λ l. l ++ rest) e ∙ append_assoc out line rest ∙ ap (λ l. out ++ l) (sym f) ∙ ap (λ l. out ++ F l) (sym (drop_more xs i d h)) ∙ g

-- behind the last item nothing is left
pub last_line : {X : Type 0} (F : List X → List ℕ) (xs : List X) (i : ℕ) (out whole : List ℕ) → length xs ≤ i → F [] ≡ [] → out ++ F (drop i xs) ≡ whole → out ≡ whole
last_line F xs i out whole h e f = sym (append-nil out) ∙ ap (λ l. out ++ l) (sym e) ∙ ap (λ l. out ++ F l) (sym (drop_of_length-le xs h)) ∙ f
