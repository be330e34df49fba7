-- Files that make a line, one more after another.
use Rattle.std.proofs.Common.{◌≡◌, ℕ, false, List, [], ◌∷◌, ◌++◌, refl, sym, ap, subst, ◌∙◌}
use Rattle.std.proofs.lemmas.List.{append_assoc}
use Rattle.chain_model.specs.Members.{NoneTwice}
use Rattle.link_rules.specs.Chains.{names_of, taken_names}
use Rattle.link_rules.specs.Effects.{found_names}
use Rattle.link_rules.specs.Lines.{BeginsWith, IsFollowedBy, IsLine, IsNextFile}
use Rattle.link_rules.specs.declared.linked.LinkedFile.{LinkedFile}
use Rattle.link_rules.specs.declared.retired.Found.{Found}
use Rattle.link_rules.proofs.Chained.{none_twice_last, taken_on}

-- each of these is followed by the next
abbrev pub AreFollowed : List LinkedFile → Type 0
AreFollowed [] = Unit {0}
AreFollowed (file ∷ []) = Unit {0}
AreFollowed (file ∷ parent ∷ others) = IsFollowedBy file parent × AreFollowed (parent ∷ others)

followed_on : (above : List LinkedFile) (child next : LinkedFile) → AreFollowed (above ++ child ∷ []) → IsFollowedBy child next → AreFollowed (above ++ child ∷ next ∷ [])
followed_on [] child next h f = (f, tt)
followed_on (a ∷ []) child next h f = (h.0, (f, tt))
followed_on (a ∷ b ∷ above) child next h f = (h.0, followed_on (b ∷ above) child next h.1 f)

line_ends : (above : List LinkedFile) (child : LinkedFile) → AreFollowed (above ++ child ∷ []) → child.parts.parent ≡ false → IsLine (above ++ child ∷ [])
line_ends [] child h none = none
line_ends (a ∷ []) child h none = (h.0, none)
line_ends (a ∷ b ∷ above) child h none = (h.0, line_ends (b ∷ above) child h.1 none)

pub begins_on : {A : Type 0} (first last : A) (items : List A) → BeginsWith first items → BeginsWith first (items ++ last ∷ [])
begins_on first last items h = record { rest = h.rest ++ last ∷ []; is = ap (λ l. l ++ last ∷ []) h.is }

-- So it stands on the way down.
pub record IsLinedUp (retired : List (List ℕ)) (leaf : LinkedFile) (above : List LinkedFile) (child : LinkedFile) : Type 0 where
  pub row : AreFollowed (above ++ child ∷ [])
  pub once : NoneTwice (taken_names retired above child)
  pub begins : BeginsWith leaf (above ++ child ∷ [])

pub lined_first : (retired : List (List ℕ)) (leaf : LinkedFile) → NoneTwice (retired ++ leaf.name ∷ []) → IsLinedUp retired leaf [] leaf
lined_first retired leaf once = record { row = tt; once = once; begins = record { rest = []; is = refl } }

pub lined_on : (retired : List (List ℕ)) (leaf : LinkedFile) (above : List LinkedFile) (child next : LinkedFile) → IsLinedUp retired leaf above child → IsNextFile retired above child next → IsLinedUp retired leaf (above ++ child ∷ []) next
lined_on retired leaf above child next h n = record {
  row = subst AreFollowed (sym (append_assoc above (child ∷ []) (next ∷ []))) (followed_on above child next h.row n.followed);
  once = subst NoneTwice (sym (taken_on retired above child next)) (none_twice_last (taken_names retired above child) next.name h.once n.is_new);
  begins = begins_on leaf next (above ++ child ∷ []) h.begins;
}

pub lined_last : (retired : List (List ℕ)) (leaf : LinkedFile) (above : List LinkedFile) (child : LinkedFile) → IsLinedUp retired leaf above child → child.parts.parent ≡ false → IsLine (above ++ child ∷ [])
lined_last retired leaf above child h none = line_ends above child h.row none

-- the first name of retired leaves and of a chain
pub begins_all : (leaf : List ℕ) (found : Found) (files : List LinkedFile) → BeginsWith leaf (found_names found) → BeginsWith found.leaf files → BeginsWith leaf (found.retired ++ names_of files)
begins_all leaf found files h k = by_retired found.retired h
  where
    names_are : names_of files ≡ found.leaf.name ∷ names_of k.rest
    names_are = ap names_of k.is

    same_first : (a b : List ℕ) (x y : List (List ℕ)) → ◌≡◌ {A = List (List ℕ)} (a ∷ x) (b ∷ y) → a ≡ b
    same_first a b x y e = cc

    by_retired : (retired : List (List ℕ)) → BeginsWith leaf (retired ++ found.leaf.name ∷ []) → BeginsWith leaf (retired ++ names_of files)
    by_retired [] h = record { rest = names_of k.rest; is = names_are ∙ ap (λ n. n ∷ names_of k.rest) (same_first found.leaf.name leaf [] h.rest h.is) }
    by_retired (r ∷ retired) h = record { rest = retired ++ names_of files; is = ap (λ n. n ∷ (retired ++ names_of files)) (same_first r leaf (retired ++ found.leaf.name ∷ []) h.rest h.is) }
