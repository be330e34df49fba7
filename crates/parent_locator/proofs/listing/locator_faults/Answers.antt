use Rattle.std.proofs.Common.{ℕ, List, [], ◌∷◌, ◌++◌, Option, map, ap, sym, ◌∙◌}
use Rattle.vhdx_format.specs.declared.locator.Pair.{Pair}
use Rattle.vhdx_format.specs.Locators.{bad_entries, pairs_of, read_pairs}
use Rattle.parent_locator.specs.declared.listing.LocatorFault.{LocatorFault}
use Rattle.parent_locator.specs.declared.listing.LocatorFault.TheVariants.{BadEntry, NoParentName}
use Rattle.parent_locator.specs.Listing.{bad_entry, fault_if, fault_rule}
use Rattle.parent_locator.proofs.AllFaults.{faults_found, no_locator_faults}
use Rattle.parent_locator.proofs.Faults.{linked, named}
use Rattle.parent_locator.proofs.listing.locator_faults.Goals as goal

pub returns-then-is_no_locator : goal.returns-then-is_no_locator
returns-then-is_no_locator c =
    ap (map fault_rule) (c.in_ok-push.ensures.items ∙ ap (λ (z : List LocatorFault). z ++ BadEntry 0 ∷ []) c.new-found.ensures.items)
    ∙ sym (no_locator_faults c.args.item.now (sym c.is_no_locator.ensures.test ∙ c.if-is_no_locator.true))

pub returns : goal.returns
returns c =
    let unlinked = c.is_none-unlinked.result in
    let unnamed = c.is_none-unnamed.result in
    let same = c.as_slice.ensures.value ∙ c.in_ok-entries.ensures.entries in
    let bads = c.in_ok-push_bad.ensures ∙ ap (λ (z : List LocatorFault). z ++ map bad_entry (bad_entries (pairs_of c.as_slice.result.now) 0 c.as_slice.result.now)) c.new-found.ensures.items
    ∙ ap (λ (z : List (Option Pair)). map bad_entry (bad_entries (pairs_of z) 0 z)) same in
    faults_found c.args.item.now c.push_if-2.new.found.items unlinked unnamed (sym c.is_no_locator.ensures.test ∙ c.if-is_no_locator.false)
    (linked _ c.value_at.result unlinked _ _ (c.as_slice-2.ensures ∙ c.in_ok-locator.ensures ∙ ap pairs_of c.in_ok-entries.ensures.entries) c.value_at.ensures c.is_none-unlinked.ensures)
    (named c.in_ok-parent_name.field-0 unnamed _ _ (c.as_slice-3.ensures ∙ c.in_ok-locator.ensures ∙ ap pairs_of c.in_ok-entries.ensures.entries) c.in_ok-parent_name.ensures c.is_none-unnamed.ensures)
    (c.in_ok-push_if-2.ensures ∙ ap (λ (z : List LocatorFault). z ++ fault_if unnamed NoParentName)
    (c.in_ok-push_if.ensures ∙ ap (λ (z : List LocatorFault). z ++ fault_if unlinked (BadEntry c.from-entry.result)) bads
    ∙ ap (λ (n : ℕ). map bad_entry (bad_entries (pairs_of (read_pairs c.args.item.now)) 0 (read_pairs c.args.item.now)) ++ fault_if unlinked (BadEntry n)) (c.from-entry.ensures ∙ c.u16_at.ensures)))
