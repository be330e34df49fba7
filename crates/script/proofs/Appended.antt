-- Text that is written behind text, piece by piece, unless memory runs out.
use Rattle.std.proofs.Common.{◌≡◌, ℕ, List, ◌++◌, ◌∷◌, Result, Ok, Err, sym, ap, subst, ◌∙◌, append_assoc}
use Rattle.std.specs.Prelude.{IfOk, IsErr, OnOk, codes, decimal}
use Rattle.script.specs.Transcript.{byte_text, runs_text}

-- where memory ran out nothing is said of what was written
pub not_written : {T E : Type 0} (r : Result T E) → IsErr r → (P : Type 0) → OnOk r P
not_written (Ok x) e P = let never = e in cc
not_written (Err x) e P = tt

pub none_read : {T E : Type 0} (r : Result T E) → IsErr r → (P : T → Type 0) → IfOk r P
none_read (Ok x) e P = let never = e in cc
none_read (Err x) e P = tt

pub written : {T E : Type 0} (r : Result T E) (old new text want : List ℕ) → OnOk r (new ≡ old ++ text) → text ≡ want → OnOk r (new ≡ old ++ want)
written r old new text want h is = subst (λ t. OnOk r (new ≡ old ++ t)) is h

pub written_both : {T E : Type 0} (r : Result T E) (old mid new one other want : List ℕ) → mid ≡ old ++ one → OnOk r (new ≡ mid ++ other) → one ++ other ≡ want → OnOk r (new ≡ old ++ want)
written_both (Ok x) old mid new one other want first second is =
    let grouped : (old ++ one) ++ other ≡ old ++ (one ++ other) = simp append_assoc in
    second ∙ ap (λ m. m ++ other) first ∙ grouped ∙ ap (λ t. old ++ t) is
written_both (Err x) old mid new one other want first second is = tt

pub written_thrice : (old second third new one other last : List ℕ) → second ≡ old ++ one → third ≡ second ++ other → new ≡ third ++ last → new ≡ old ++ (one ++ other ++ last)
written_thrice old second third new one other last a b c =
    let grouped : ((old ++ one) ++ other) ++ last ≡ old ++ (one ++ other ++ last) = simp append_assoc in
    c ∙ ap (λ m. m ++ last) (b ∙ ap (λ m. m ++ other) a) ∙ grouped

-- the pieces of a text, grouped from the left or from the right
pub grouped_four : (a b c d want : List ℕ) → a ++ b ++ c ++ d ≡ want → a ++ (b ++ (c ++ d)) ≡ want
grouped_four a b c d want is = let same : a ++ (b ++ (c ++ d)) ≡ a ++ b ++ c ++ d = simp append_assoc in same ∙ is

pub grouped_six : (a b c d e f want : List ℕ) → a ++ b ++ c ++ d ++ e ++ f ≡ want → a ++ (b ++ (c ++ (d ++ (e ++ f)))) ≡ want
grouped_six a b c d e f want is = let same : a ++ (b ++ (c ++ (d ++ (e ++ f)))) ≡ a ++ b ++ c ++ d ++ e ++ f = simp append_assoc in same ∙ is

behind_five : (old a b c d rest : List ℕ) → ((old ++ (a ++ b ++ c)) ++ d) ++ rest ≡ old ++ ((a ++ b ++ c ++ d) ++ rest)
behind_five old a b c d rest = simp append_assoc

-- one more run is written
pub run_written : (start old mid new : List ℕ) (count byte : ℕ) (rest behind : List (ℕ × ℕ)) → mid ≡ old ++ (codes " " ++ decimal count ++ codes "*") → new ≡ mid ++ byte_text byte → rest ≡ (count, byte) ∷ behind → old ++ runs_text rest ≡ start → new ++ runs_text behind ≡ start
run_written start old mid new count byte rest behind first second is before =
    ap (λ n. n ++ runs_text behind) (second ∙ ap (λ m. m ++ byte_text byte) first) ∙ behind_five old (codes " ") (decimal count) (codes "*") (byte_text byte) (runs_text behind) ∙ ap (λ rs. old ++ runs_text rs) (sym is) ∙ before
