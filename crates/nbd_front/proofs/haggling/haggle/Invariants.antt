use Rattle.std.proofs.Common.{◌-◌, ◌^◌}
use Rattle.nbd_front.specs.Messages.{haggling}
use Rattle.nbd_front.specs.Parts.{stand, Leads}
use Rattle.nbd_front.proofs.haggling.haggle.Given as goal

-- however options go on from here, they did from the beginning
abbrev pub invariant-loop-desk : goal.invariant-loop-desk
invariant-loop-desk g l =
    let left = g.S.Source.left in let faults = g.S.Source.faults in let written = g.K.Sink.written in let sunk = g.K.Sink.faults in
    (disk : g.row.D.Denot) → Leads g.D.DiskCalls.tells l.export (haggling l.flags)
    (stand l.initial.desk (left l.initial.source) (faults l.initial.source) (written l.initial.sink) (sunk l.initial.sink) disk) (haggling l.flags)
    (stand l.desk (left l.source) (faults l.source) (written l.sink) (sunk l.sink) disk)

abbrev pub decreases-loop-desk : goal.decreases-loop-desk
decreases-loop-desk g l = 2 ^ 48 - l.desk.tally.messages
