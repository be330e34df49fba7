use Rattle.std.proofs.Common.{◌≡◌, drop}
use Rattle.meta_edit.specs.Steps.{part_with_all}
use Rattle.meta_edit.proofs.laying.lay.Given as goal

-- what is left of the pages, laid over what is there, is all of them laid over what was there
abbrev pub invariant-loop-page : goal.invariant-loop-page
invariant-loop-page l = part_with_all l.at l.out (drop l.page-index l.pages) ≡ part_with_all l.at l.fn.out l.pages
