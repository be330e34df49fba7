use Rattle.std.proofs.Common.{◌+◌, Bool, List, ◌++◌, Option, drop, get_or, map, ap, sym, ◌∙◌, arith, append_assoc}
use Rattle.vhdx_format.specs.declared.locator.Pair.{Pair}
use Rattle.vhdx_format.specs.Locators.{bad_entries, pairs_of}
use Rattle.vhdx_format.proofs.UnitLemmas.{ended}
use Rattle.parent_locator.specs.declared.listing.LocatorFault.{LocatorFault}
use Rattle.parent_locator.specs.Listing.{bad_entry, fault_if, is_bad_entry}
use Rattle.parent_locator.proofs.AllFaults.{bad_more}
use Rattle.parent_locator.proofs.Entries.{none_bad}
use Rattle.parent_locator.proofs.listing.push_bad.Goals as goal

pub loop-i-preserved : goal.loop-i-preserved
loop-i-preserved c =
    let entries : List (Option Pair) = c.args.entries.now in
    let done : List LocatorFault = c.loop-i.found.items in
    let rest : List LocatorFault = map bad_entry (bad_entries (pairs_of entries) (c.loop-i.i + 1) (drop (c.loop-i.i + 1) entries)) in
    ap (λ (z : List LocatorFault). z ++ rest) (c.in_ok-push_if.ensures ∙ ap (λ (b : Bool). done ++ fault_if b (bad_entry c.loop-i.i)) (c.in_ok-bad.ensures ∙ ap (is_bad_entry (pairs_of entries)) c.index-entries-i.is))
    ∙ append_assoc done (fault_if (is_bad_entry (pairs_of entries) (get_or entries c.loop-i.i c.index-entries-i.result)) (bad_entry c.loop-i.i)) rest
    ∙ ap (λ (z : List LocatorFault). done ++ z) (sym (bad_more (pairs_of entries) entries c.loop-i.i c.index-entries-i.result c.loop-i-test.true)) ∙ c.loop-i.invariant

pub returns : goal.returns
returns c =
    ended c.loop-i.found.items (map bad_entry (bad_entries (pairs_of c.args.entries.now) c.loop-i.i (drop c.loop-i.i c.args.entries.now)))
    (ap (map bad_entry) (none_bad (pairs_of c.args.entries.now) c.args.entries.now c.loop-i.i (omega (arith, c.loop-i-test.false)))) c.loop-i.invariant
