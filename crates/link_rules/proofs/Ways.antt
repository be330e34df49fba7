-- The names on the way, and what was touched of them.
use Rattle.std.proofs.Common.{◌≡◌, ◌⊎◌, ℕ, Bool, true, false, List, [], ◌∷◌, ◌++◌, Option, Some, None, Result, Ok, refl, sym, ap, subst, ◌∙◌, inl, inr}
use Rattle.std.specs.Prelude.{◌||◌}
use Rattle.std.specs.Str.{bytes_eq}
use Rattle.std.proofs.lemmas.List.{map-append}
use Rattle.std.proofs.lemmas.Option.{same_Some}
use Rattle.std.proofs.lemmas.Slice.Eq.{bytes_eq-Decides}
use Rattle.vhdx_format.specs.declared.locator.Pair.{Pair}
use Rattle.vx_base.specs.declared.parts.Parts.{Parts}
use Rattle.file_open.specs.Opening.{Opens}
use Rattle.file_open.proofs.OneOpening.{one_opening_lem, opens_once}
use Rattle.link_rules.specs.Chains.{LeafIs, NamesParent, OpensIn, ParentIs, Refusal, base, bad_locator, loop, too_long, unopened, unlinked, misshapen, present, is_among, names_of, taken_names}
use Rattle.link_rules.specs.Chains as chains
use Rattle.link_rules.specs.Effects.{Replays, found_names}
use Rattle.link_rules.specs.Folders.{Contents}
use Rattle.link_rules.specs.Steps.{LookIs, in_use, opened, stood_for}
use Rattle.link_rules.specs.Steps as steps
use Rattle.link_rules.specs.Touches.{IsBelow, IsOnWay, begins, direct, lower, parent, stands_for}
use Rattle.link_rules.specs.declared.linked.LinkedFile.{LinkedFile}
use Rattle.link_rules.specs.declared.retired.Found.{Found}
use Rattle.link_rules.specs.declared.retired.Look.{Look}
use Rattle.link_rules.proofs.Composing.{among_append, kept_alike, left_false, opens_same, right_false}

-- ---- among names

own_among : (name : List ℕ) → is_among name (name ∷ []) ≡ true
own_among name = ap (λ b. b || false) ((bytes_eq-Decides name name).1 refl)

or_right : (a : Bool) → (a || true) ≡ true
or_right true = refl
or_right false = refl

pub among_before : (other name : List ℕ) (names : List (List ℕ)) → is_among other names ≡ true → is_among other (names ++ name ∷ []) ≡ true
among_before other name names h = among_append other names (name ∷ []) ∙ ap (λ b. b || is_among other (name ∷ [])) h

pub among_end : (name : List ℕ) (names : List (List ℕ)) → is_among name (names ++ name ∷ []) ≡ true
among_end name names = among_append name names (name ∷ []) ∙ ap (λ b. is_among name names || b) (own_among name) ∙ or_right (is_among name names)

pub among_split : (other name : List ℕ) (names : List (List ℕ)) → is_among other (names ++ name ∷ []) ≡ true → (is_among other names ≡ true) ⊎ (other ≡ name)
among_split other name names h = by_either (is_among other names) (bytes_eq name other) refl refl (sym (among_append other names (name ∷ [])) ∙ h)
  where
    by_either : (a b : Bool) → is_among other names ≡ a → bytes_eq name other ≡ b → (a || (b || false)) ≡ true → (is_among other names ≡ true) ⊎ (other ≡ name)
    by_either true b e f h = inl e
    by_either false true e f h = inr (sym ((bytes_eq-Decides name other).0 f))
    by_either false false e f h = cc

-- what isn't among the names that were met by the next file wasn't before
pub fresh_before : (retired : List (List ℕ)) (above : List LinkedFile) (child below : LinkedFile) (name : List ℕ) → is_among name (taken_names retired (above ++ child ∷ []) below) ≡ false → is_among name (taken_names retired above child) ≡ false
fresh_before retired above child below name apart =
    let split : is_among name (names_of ((above ++ child ∷ []) ++ below ∷ [])) ≡ (is_among name (names_of (above ++ child ∷ [])) || is_among name (below.name ∷ [])) =
    ap (is_among name) (map-append (λ (f : LinkedFile). f.name) (above ++ child ∷ []) (below ∷ [])) ∙ among_append name (names_of (above ++ child ∷ [])) (below.name ∷ []) in
    let both : (is_among name retired || is_among name (names_of ((above ++ child ∷ []) ++ below ∷ []))) ≡ false = sym (among_append name retired (names_of ((above ++ child ∷ []) ++ below ∷ []))) ∙ apart in
    let no_retired : is_among name retired ≡ false = left_false _ _ both in
    let no_above : is_among name (names_of (above ++ child ∷ [])) ≡ false = left_false _ _ (sym split ∙ right_false _ _ both) in
    among_append name retired (names_of (above ++ child ∷ [])) ∙ ap (λ b. b || is_among name (names_of (above ++ child ∷ []))) no_retired ∙ no_above

-- ---- from a leaf's name

same_look : (a b : Look) → (let r : Result Look Refusal = Ok a in r) ≡ Ok b → a ≡ b
same_look a b e = cc

-- the file that stands for a retired leaf is on the way
pub look_next : (files now : Contents) (leaf : List ℕ) (before : List (List ℕ)) (name : List ℕ) → now name ≡ files name → IsOnWay files leaf name → (result : Result Look Refusal) → LookIs now before name result
    → (file : LinkedFile) (after : List ℕ) → result ≡ Ok (record { file = file; next = Some after }) → IsOnWay files leaf after
look_next files now leaf before name same way _ (steps.unopened refusal h) file after e = cc
look_next files now leaf before name same way _ (opened parts _ h (in_use none)) file after e =
    let never : None ≡ Some after = ap (λ (l : Look). l.next) (same_look (record { file = record { name = name; parts = parts }; next = None }) (record { file = file; next = Some after }) e) in cc
look_next files now leaf before name same way _ (opened parts _ h (steps.loop other had among)) file after e = cc
look_next files now leaf before name same way _ (opened parts _ h (stood_for other had apart)) file after e =
    let one : other ≡ after =
    same_Some other after (ap (λ (l : Look). l.next) (same_look (record { file = record { name = name; parts = parts }; next = Some other }) (record { file = file; next = Some after }) e)) in
    subst (IsOnWay files leaf) one (stands_for name other parts way (opens_same files now name (Ok parts) same h) had)

-- the leaf that was found, and the retired leaves before it
pub record FoundOnWay (files : Contents) (leaf : List ℕ) (found : Found) : Type 0 where
  pub names : (name : List ℕ) → is_among name (found_names found) ≡ true → IsOnWay files leaf name
  pub own : IsOnWay files leaf found.leaf.name
  pub opens : OpensIn files found.leaf.name (Ok found.leaf.parts)

pub with_last : (P : List ℕ → Type 0) (names : List (List ℕ)) (last : List ℕ) → ((name : List ℕ) → is_among name names ≡ true → P name) → P last → (name : List ℕ) → is_among name (names ++ last ∷ []) ≡ true → P name
with_last P names last each own name among = elim (among_split name last names among) [
  | inl before ↦ each name before
  | inr same ↦ subst P (sym same) own
]

found_here : (files : Contents) (leaf : List ℕ) (found : Found) → ((name : List ℕ) → is_among name found.retired ≡ true → IsOnWay files leaf name) → IsOnWay files leaf found.leaf.name → OpensIn files found.leaf.name (Ok found.leaf.parts) → FoundOnWay files leaf found
found_here files leaf found each own opens = record { names = with_last (IsOnWay files leaf) found.retired found.leaf.name each own; own = own; opens = opens }

found_from : (files : Contents) (leaf : List ℕ) (before : List (List ℕ)) (name : List ℕ) → ((other : List ℕ) → is_among other before ≡ true → IsOnWay files leaf other) → IsOnWay files leaf name
    → (result : Result Found Refusal) → LeafIs files before name result → (found : Found) → result ≡ Ok found → FoundOnWay files leaf found
found_from files leaf _ _ each way _ (chains.unopened before name refusal h) found e = cc
found_from files leaf _ _ each way _ (chains.loop before name parts after h had among) found e = cc
found_from files leaf _ _ each way _ (chains.in_use before name parts opens none) found e =
    let one : (record { retired = before; leaf = record { name = name; parts = parts } }) ≡ found = cc in
    subst (FoundOnWay files leaf) one (found_here files leaf (record { retired = before; leaf = record { name = name; parts = parts } }) each way opens)
found_from files leaf _ _ each way _ (chains.further before name parts after result opens had apart rest) found e =
    found_from files leaf (before ++ name ∷ []) after (with_last (IsOnWay files leaf) before name each way) (stands_for name after parts way opens had) result rest found e

pub found_way : (files : Contents) (leaf : List ℕ) (found : Found) → LeafIs files [] leaf (Ok found) → FoundOnWay files leaf found
found_way files leaf found h = found_from files leaf [] leaf (λ name among. cc) begins (Ok found) h found refl

-- ---- below a file

below_way : (files : Contents) (leaf : List ℕ) (child : LinkedFile) (name : List ℕ) → IsOnWay files leaf child.name → OpensIn files child.name (Ok child.parts) → IsBelow files child name → IsOnWay files leaf name
below_way files leaf child name way opens (direct _ pairs _ names) = parent child.name name child.parts pairs way opens names
below_way files leaf child name way opens (lower _ pairs mid parts _ names mid_opens h) =
    below_way files leaf (record { name = mid; parts = parts }) name (parent child.name mid child.parts pairs way opens names) mid_opens h

-- what is opened once files were opened was opened so before
opens_before : (names : List (List ℕ)) (f g : Contents) (name : List ℕ) (parts : Parts) → Replays names f g → OpensIn g name (Ok parts) → OpensIn f name (Ok parts)
opens_before names f g name parts replays (present now _ had opens) = by_file (f name) refl
  where
    by_file : (file : Option (List ℕ)) → f name ≡ file → OpensIn f name (Ok parts)
    by_file None e = let never : None ≡ Some now = sym (replays.none name e) ∙ had in cc
    by_file (Some old) e =
        let one = replays.each name old e in
        let same : one.0 ≡ now = same_bytes one.0 (sym one.1 ∙ had) in
        let alike = kept_alike names name old one.0 one.2 in
        let was = one_opening_lem old in
        let is : was.value ≡ Ok parts = opens_once now was.value (Ok parts) (subst (λ b. Opens b was.value) same (alike.opens was.value was.holds)) opens in
        present old (Ok parts) e (subst (Opens old) is was.holds)
      where
        same_bytes : (x : List ℕ) → ◌≡◌ {A = Option (List ℕ)} (Some x) (Some now) → x ≡ now
        same_bytes x e = cc

below_before : (names : List (List ℕ)) (f g : Contents) (child : LinkedFile) (name : List ℕ) → Replays names f g → IsBelow g child name → IsBelow f child name
below_before names f g child name replays (direct _ pairs _ n) = direct child pairs name n
below_before names f g child name replays (lower _ pairs mid parts _ n opens h) =
    lower child pairs mid parts name n (opens_before names f g mid parts replays opens) (below_before names f g (record { name = mid; parts = parts }) name replays h)

-- so what is below a leaf that was found is on the way
pub below_found : (names : List (List ℕ)) (f g : Contents) (leaf : List ℕ) (found : Found) (name : List ℕ) → Replays names f g → FoundOnWay f leaf found → IsBelow g found.leaf name → IsOnWay f leaf name
below_found names f g leaf found name replays way h = below_way f leaf found.leaf name way.own way.opens (below_before names f g found.leaf name replays h)

-- what is below a file's parent is below it
pub parent_lower : (files : Contents) (retired : List (List ℕ)) (above : List LinkedFile) (child : LinkedFile) (result : Result (Option LinkedFile) Refusal) → ParentIs files retired above child result
    → (below : LinkedFile) → result ≡ Ok (Some below) → (name : List ℕ) → IsBelow files below name → IsBelow files child name
parent_lower files retired above child _ (base none) below e name h = cc
parent_lower files retired above child _ (bad_locator item rule has had k) below e name h = cc
parent_lower files retired above child _ (loop pairs other n k) below e name h = cc
parent_lower files retired above child _ (too_long pairs other n k l) below e name h = cc
parent_lower files retired above child _ (unopened pairs other refusal n k) below e name h = cc
parent_lower files retired above child _ (unlinked pairs other parts n k l) below e name h = cc
parent_lower files retired above child _ (misshapen pairs other parts n k l m) below e name h = cc
parent_lower files retired above child _ (chains.parent pairs other parts n opens l m) below e name h =
    let one : below ≡ record { name = other; parts = parts } = cc in
    lower child pairs other parts name n.names opens (subst (λ (f : LinkedFile). IsBelow files f name) one h)

-- the name that the parent has
pub record ParentNamed (child below : LinkedFile) : Type 0 where
  pub pairs : List Pair
  pub names : NamesParent child.parts pairs below.name

pub parent_named : (files : Contents) (retired : List (List ℕ)) (above : List LinkedFile) (child : LinkedFile) (result : Result (Option LinkedFile) Refusal) → ParentIs files retired above child result
    → (below : LinkedFile) → result ≡ Ok (Some below) → ParentNamed child below
parent_named files retired above child _ (base none) below e = cc
parent_named files retired above child _ (bad_locator item rule has had k) below e = cc
parent_named files retired above child _ (loop pairs other n k) below e = cc
parent_named files retired above child _ (too_long pairs other n k l) below e = cc
parent_named files retired above child _ (unopened pairs other refusal n k) below e = cc
parent_named files retired above child _ (unlinked pairs other parts n k l) below e = cc
parent_named files retired above child _ (misshapen pairs other parts n k l m) below e = cc
parent_named files retired above child _ (chains.parent pairs other parts n opens l m) below e =
    let one : other ≡ below.name = cc in
    record { pairs = pairs; names = subst (NamesParent child.parts pairs) one n.names }
