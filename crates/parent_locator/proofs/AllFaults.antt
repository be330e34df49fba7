-- All faults of a locator, by what was found of it.
use Rattle.std.proofs.Common.{◌≡◌, ℕ, ◌+◌, ◌<◌, Bool, true, false, List, [], ◌∷◌, ◌++◌, Option, Some, None, is_none, if◌then◌else◌, length, drop, get_or, map, refl, ap, ◌∙◌}
use Rattle.std.specs.Prelude.{codes}
use Rattle.vx_base.specs.Fields.{u16_at}
use Rattle.vhdx_format.specs.declared.locator.Pair.{Pair}
use Rattle.vhdx_format.specs.Rules.{BrokenRule, BadLocator, NoParentName}
use Rattle.vhdx_format.specs.Locators.{is_bad_pair, is_no_locator, locator_faults, read_pairs, pairs_of, bad_entries, value_at, parent_name}
use Rattle.parent_locator.specs.declared.listing.LocatorFault.{LocatorFault}
use Rattle.parent_locator.specs.declared.listing.LocatorFault.TheVariants as fault
use Rattle.parent_locator.specs.Listing.{bad_entry, fault_if, fault_rule, is_bad_entry}
use Rattle.parent_locator.proofs.Entries.{next_bad}

-- what one entry adds
bad_first : (pairs : List Pair) (i : ℕ) (entry : Option Pair) (entries : List (Option Pair))
    → map bad_entry (bad_entries pairs i (entry ∷ entries)) ≡ fault_if (is_bad_entry pairs entry) (bad_entry i) ++ map bad_entry (bad_entries pairs (i + 1) entries)
unfolding bad_entries
bad_first pairs i None entries = refl
bad_first pairs i (Some pair) entries = by_test (is_bad_pair pairs pair) refl
  where
    by_test : (b : Bool) → is_bad_pair pairs pair ≡ b
        → map bad_entry (if is_bad_pair pairs pair then i ∷ bad_entries pairs (i + 1) entries else bad_entries pairs (i + 1) entries)
        ≡ fault_if (is_bad_pair pairs pair) (bad_entry i) ++ map bad_entry (bad_entries pairs (i + 1) entries)
    by_test true e = rw e refl
    by_test false e = rw e refl

pub bad_more : (pairs : List Pair) (entries : List (Option Pair)) (i : ℕ) (d : Option Pair) → i < length entries
    → map bad_entry (bad_entries pairs i (drop i entries)) ≡ fault_if (is_bad_entry pairs (get_or entries i d)) (bad_entry i) ++ map bad_entry (bad_entries pairs (i + 1) (drop (i + 1) entries))
bad_more pairs entries i d h = ap (map bad_entry) (next_bad pairs entries i d h) ∙ bad_first pairs i (get_or entries i d) (drop (i + 1) entries)

-- the rules of what was found
bad_rules : (bads : List ℕ) → map fault_rule (map bad_entry bads) ≡ map BadLocator bads
bad_rules [] = refl
bad_rules (bad ∷ bads) = ap (λ (z : List BrokenRule). BadLocator bad ∷ z) (bad_rules bads)

map_both : (xs ys : List LocatorFault) → map fault_rule (xs ++ ys) ≡ map fault_rule xs ++ map fault_rule ys
map_both [] ys = refl
map_both (x ∷ xs) ys = ap (λ (z : List BrokenRule). fault_rule x ∷ z) (map_both xs ys)

found_rules : (bads : List ℕ) (unlinked : Bool) (count : ℕ) (unnamed : Bool)
    → map fault_rule (map bad_entry bads ++ fault_if unlinked (fault.BadEntry count) ++ fault_if unnamed fault.NoParentName)
    ≡ map BadLocator bads ++ (if unlinked then BadLocator count ∷ [] else []) ++ (if unnamed then NoParentName ∷ [] else [])
found_rules bads unlinked count unnamed =
    map_both (map bad_entry bads ++ fault_if unlinked (fault.BadEntry count)) (fault_if unnamed fault.NoParentName)
    ∙ ap (λ (z : List BrokenRule). z ++ map fault_rule (fault_if unnamed fault.NoParentName)) (map_both (map bad_entry bads) (fault_if unlinked (fault.BadEntry count)))
    ∙ ap (λ (z : List BrokenRule). z ++ map fault_rule (fault_if unlinked (fault.BadEntry count)) ++ map fault_rule (fault_if unnamed fault.NoParentName)) (bad_rules bads)
    ∙ by_tests unlinked unnamed
  where
    by_tests : (b d : Bool) → map BadLocator bads ++ map fault_rule (fault_if b (fault.BadEntry count)) ++ map fault_rule (fault_if d fault.NoParentName)
        ≡ map BadLocator bads ++ (if b then BadLocator count ∷ [] else []) ++ (if d then NoParentName ∷ [] else [])
    by_tests true true = refl
    by_tests true false = refl
    by_tests false true = refl
    by_tests false false = refl

pub no_locator_faults : (item : List ℕ) → is_no_locator item ≡ true → locator_faults item ≡ BadLocator 0 ∷ []
unfolding locator_faults
no_locator_faults item e = rw e refl

pub faults_found : (item : List ℕ) (found : List LocatorFault) (unlinked unnamed : Bool) → is_no_locator item ≡ false
    → is_none (value_at (codes "parent_linkage") (pairs_of (read_pairs item))) ≡ unlinked → is_none (parent_name (pairs_of (read_pairs item))) ≡ unnamed
    → found ≡ map bad_entry (bad_entries (pairs_of (read_pairs item)) 0 (read_pairs item)) ++ fault_if unlinked (fault.BadEntry (u16_at item 18)) ++ fault_if unnamed fault.NoParentName
    → map fault_rule found ≡ locator_faults item
unfolding locator_faults
faults_found item found unlinked unnamed e b d are =
    ap (map fault_rule) are ∙ found_rules (bad_entries (pairs_of (read_pairs item)) 0 (read_pairs item)) unlinked (u16_at item 18) unnamed ∙ (rw (e, b, d) refl)
