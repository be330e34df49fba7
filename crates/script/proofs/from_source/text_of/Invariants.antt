use Rattle.std.proofs.Common.{◌≡◌, ◌≤◌, ◌+◌, ◌-◌, length}
use Rattle.std.specs.Io.KnownBytes.{Consumes}
use Rattle.script.specs.Grammar.{most_bytes}
use Rattle.script.proofs.from_source.text_of.Given as goal

-- the text is what the source has given
abbrev pub invariant-loop-source : goal.invariant-loop-source
invariant-loop-source g l = record {
  room : length l.piece.items ≡ 65536;
  taken : Consumes (g.S.Source.left l.initial.source) (g.S.Source.left l.source) l.text.items;
  most : length l.text.items ≤ most_bytes + 1;
  quiet : g.S.Source.faults l.source ≡ g.S.Source.faults l.initial.source;
}

abbrev pub decreases-loop-source : goal.decreases-loop-source
decreases-loop-source g l = most_bytes + 1 - length l.text.items
