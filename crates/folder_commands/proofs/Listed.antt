-- The lines of what is found wrong with a file.
use Rattle.std.proofs.Common.{◌≡◌, ◌≢◌, ◌==◌, ℕ, Bool, true, false, length, arith, List, [], ◌∷◌, ◌++◌, map, Option, Some, None, refl, sym, ap, subst, ◌∙◌, append_assoc, codes}
use Rattle.std.specs.Prelude.{IfSome}
use Rattle.std.proofs.lemmas.Bool.{eqb-true, true≢false}
use Rattle.std.proofs.lemmas.List.{append-nil}
use Rattle.vhdx_format.specs.Rules.{BrokenRule}
use Rattle.file_open.specs.Causes.{cause_of}
use Rattle.file_open.specs.Opening as opening
use Rattle.file_open.specs.declared.refusal.OpenRefusal.{OpenRefusal}
use Rattle.check_repair.specs.Answers.{MeanRules, told_rule}
use Rattle.check_repair.specs.Findings.{Breaks, Finding}
use Rattle.command_base.specs.Checks.{finding_line, finding_lines}
use Rattle.command_base.specs.Commands.{adds}
use Rattle.command_base.specs.Refusals.{file_refusal_said, of_file}

-- ---- the lines of rules

-- a line by its parts: number and name, the file, the values
pub line_of : (old name file values a b c : List ℕ) → a ≡ old ++ (codes "finding " ++ name ++ codes " " ++ file) → b ≡ a ++ values → c ≡ b ++ codes "\n" → c ≡ old ++ (codes "finding " ++ of_file file (name, values) ++ codes "\n")
line_of old name file values a b c f g h =
    h
    ∙ ap (λ t. t ++ codes "\n") (g ∙ ap (λ t. t ++ values) f ∙ append_assoc old (codes "finding " ++ name ++ codes " " ++ file) values)
    ∙ append_assoc old ((codes "finding " ++ name ++ codes " " ++ file) ++ values) (codes "\n")

pub rule_line : (cause : Option opening.Refusal) (old name file a b c : List ℕ) → IfSome cause (λ r. name ≡ (file_refusal_said r).0) → a ≡ old ++ (codes "finding " ++ name ++ codes " " ++ file) → IfSome cause (λ r. b ≡ a ++ (file_refusal_said r).1)
    → c ≡ b ++ codes "\n" → IfSome cause (adds file old c)
rule_line None old name file a b c n f g h = tt
rule_line (Some r) old name file a b c n f g h =
    line_of old (file_refusal_said r).0 file (file_refusal_said r).1 a b c (f ∙ ap (λ t. old ++ (codes "finding " ++ t ++ codes " " ++ file)) n) g h

-- the text so far and the lines of the rules that are left are the lines of all
pub record AreLeft (file text : List ℕ) (rest : List OpenRefusal) (all : List ℕ) : Type 0 where
  pub rules : List BrokenRule
  pub mean : MeanRules rest rules
  pub whole : text ++ finding_lines file (map Breaks rules) ≡ all

pub same_cons : {A : Type 0} (x y : A) (xs ys : List A) → x ∷ xs ≡ y ∷ ys → (x ≡ y) × (xs ≡ ys)
same_cons x y xs ys e = (cc, cc)

one_line : (file text next : List ℕ) (cause : Option opening.Refusal) (rule : BrokenRule) → cause ≡ told_rule rule → IfSome cause (adds file text next) → next ≡ text ++ finding_line file (Breaks rule)
one_line file text next cause rule same h = subst (λ o. IfSome o (adds file text next)) same h

pub one_rule : (file text next : List ℕ) (refusal : OpenRefusal) (others : List OpenRefusal) (all : List ℕ) → IfSome (cause_of refusal) (adds file text next) → AreLeft file text (refusal ∷ others) all → AreLeft file next others all
one_rule file text next refusal others all added left = by_rules left.rules left.mean left.whole where
  by_rules : (rules : List BrokenRule) → MeanRules (refusal ∷ others) rules → text ++ finding_lines file (map Breaks rules) ≡ all → AreLeft file next others all
  by_rules [] mean whole = let never : cause_of refusal ∷ map cause_of others ≡ [] = mean in cc
  by_rules (rule ∷ rules) mean whole =
      let both = same_cons (cause_of refusal) (told_rule rule) (map cause_of others) (map told_rule rules) mean in
      let line = one_line file text next (cause_of refusal) rule both.0 added in
      record {
        rules = rules;
        mean = both.1;
        whole = ap (λ t. t ++ finding_lines file (map Breaks rules)) line ∙ append_assoc text (finding_line file (Breaks rule)) (finding_lines file (map Breaks rules)) ∙ whole;
      }

pub no_rules : (file text all : List ℕ) (rest : List OpenRefusal) → rest ≡ [] → AreLeft file text rest all → text ≡ all
no_rules file text all rest none left = by_rules left.rules (subst (λ r. MeanRules r left.rules) none left.mean) left.whole where
  by_rules : (rules : List BrokenRule) → MeanRules [] rules → text ++ finding_lines file (map Breaks rules) ≡ all → text ≡ all
  by_rules [] mean whole = sym (append-nil text) ∙ whole
  by_rules (rule ∷ rules) mean whole = let never : [] ≡ told_rule rule ∷ map told_rule rules = mean in cc

-- ---- the lines of all

lines_append : (file : List ℕ) (xs ys : List Finding) → finding_lines file (xs ++ ys) ≡ finding_lines file xs ++ finding_lines file ys
lines_append file [] ys = refl
lines_append file (x ∷ xs) ys = ap (λ t. finding_line file x ++ t) (lines_append file xs ys) ∙ sym (append_assoc (finding_line file x) (finding_lines file xs) (finding_lines file ys))

map_append : (xs ys : List BrokenRule) → map Breaks (xs ++ ys) ≡ map Breaks xs ++ map Breaks ys
map_append [] ys = refl
map_append (x ∷ xs) ys = ap (λ (zs : List Finding). Breaks x ∷ zs) (map_append xs ys)

pub three_parts : (file : List ℕ) (rules others : List BrokenRule) (copies : List Finding) (none first second third : List ℕ) → none ≡ [] → first ≡ none ++ finding_lines file (map Breaks rules)
    → second ≡ first ++ finding_lines file (map Breaks others) → third ≡ second ++ finding_lines file copies → third ≡ finding_lines file (map Breaks (rules ++ others) ++ copies)
three_parts file rules others copies none first second third e f g h =
    h
    ∙ ap (λ t. t ++ finding_lines file copies) (g ∙ ap (λ t. t ++ finding_lines file (map Breaks others)) (f ∙ ap (λ t. t ++ finding_lines file (map Breaks rules)) e))
    ∙ ap (λ t. t ++ finding_lines file copies) (sym (ap (finding_lines file) (map_append rules others) ∙ lines_append file (map Breaks rules) (map Breaks others)))
    ∙ sym (lines_append file (map Breaks (rules ++ others)) copies)

-- there are none where there are no findings, and only there
pub no_lines : (file : List ℕ) (findings : List Finding) → finding_lines file findings ≡ [] → findings ≡ []
no_lines file [] e = refl
no_lines file (x ∷ xs) e = cc

pub some_lines : (file : List ℕ) (findings : List Finding) → finding_lines file findings ≢ [] → findings ≢ []
some_lines file findings some none = some (ap (finding_lines file) none)

-- ---- a text that is empty, or isn't

pub empty_text : (xs : List ℕ) (b : Bool) → b ≡ (length xs == 0) → b ≡ true → xs ≡ []
empty_text [] b e t = refl
empty_text (x ∷ xs) b e t = let none : length (x ∷ xs) ≡ 0 = eqb-true (length (x ∷ xs)) 0 (sym e ∙ t) in absurd (omega (arith, none))

pub text_left : (xs : List ℕ) (b : Bool) → b ≡ (length xs == 0) → b ≡ false → xs ≢ []
text_left xs b e f none = true≢false (sym (e ∙ ap (λ (z : List ℕ). length z == 0) none) ∙ f)
