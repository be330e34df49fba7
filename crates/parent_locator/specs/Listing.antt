-- The rules that what is wrong with a locator stands for.
use Rattle.std.specs.Prelude.{ℕ, Bool, true, false, List, [], ◌∷◌, Option, Some, None}
use Rattle.vhdx_format.specs.declared.locator.Pair.{Pair}
use Rattle.vhdx_format.specs.Locators.{is_bad_pair}
use Rattle.vhdx_format.specs.Rules.{BrokenRule}
use Rattle.vhdx_format.specs.Rules as rules
use Rattle.parent_locator.specs.declared.listing.LocatorFault.{LocatorFault}
use Rattle.parent_locator.specs.declared.listing.LocatorFault.TheVariants.{BadEntry, NoParentName}

abbrev pub fault_rule : LocatorFault → BrokenRule
fault_rule (BadEntry entry) = rules.BadLocator entry
fault_rule NoParentName = rules.NoParentName

abbrev pub bad_entry : ℕ → LocatorFault
bad_entry entry = BadEntry entry

-- an entry that holds no pair, or a bad one
abbrev pub is_bad_entry : List Pair → Option Pair → Bool
is_bad_entry pairs None = true
is_bad_entry pairs (Some pair) = is_bad_pair pairs pair

-- the fault, where it is one
abbrev pub fault_if : Bool → LocatorFault → List LocatorFault
fault_if true fault = fault ∷ []
fault_if false fault = []
