use Rattle.std.proofs.Common.{◌≡◌, ◌++◌, drop, map}
use Rattle.vhdx_format.specs.Locators.{bad_entries, pairs_of}
use Rattle.parent_locator.specs.Listing.{bad_entry}
use Rattle.parent_locator.proofs.listing.push_bad.Given as goal

-- what was found and the bad ones among the entries that are left are all
abbrev pub invariant-loop-i : goal.invariant-loop-i
invariant-loop-i l =
    l.found.items ++ map bad_entry (bad_entries (pairs_of l.entries) l.i (drop l.i l.entries)) ≡ l.initial.found.items ++ map bad_entry (bad_entries (pairs_of l.entries) 0 l.entries)
