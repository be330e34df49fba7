use Rattle.std.proofs.Common.{◌≡◌, ◌-◌, ◌^◌}
use Rattle.nbd_front.specs.Messages.{transmitting}
use Rattle.nbd_front.specs.Parts.{stand, Leads}
use Rattle.nbd_front.proofs.session.transmit.Given as goal

-- however requests go on from here, they did from the beginning
abbrev pub invariant-loop-desk : goal.invariant-loop-desk
invariant-loop-desk g l =
    let left = g.S.Source.left in let faults = g.S.Source.faults in let written = g.K.Sink.written in let sunk = g.K.Sink.faults in
    record {
      size : g.D.DiskCalls.size l.disk ≡ g.D.DiskCalls.size l.initial.disk;
      on : Leads g.D.DiskCalls.tells l.export transmitting
          (stand l.initial.desk (left l.initial.source) (faults l.initial.source) (written l.initial.sink) (sunk l.initial.sink) l.initial.disk) transmitting
          (stand l.desk (left l.source) (faults l.source) (written l.sink) (sunk l.sink) l.disk);
    }

abbrev pub decreases-loop-desk : goal.decreases-loop-desk
decreases-loop-desk g l = 2 ^ 48 - l.desk.tally.messages
