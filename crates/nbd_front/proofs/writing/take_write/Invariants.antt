use Rattle.std.proofs.Common.{◌≡◌, ◌≤◌, ◌<◌, ◌^◌, ◌+◌, ℕ, length, List, Option}
use Rattle.disk_calls.specs.Disks.{IsWhole}
use Rattle.nbd_front.specs.declared.refusal.NbdRefusal.{NbdRefusal}
use Rattle.nbd_front.specs.Parts.{unread}
use Rattle.nbd_front.proofs.Written.{TakesRest, CutsRest}
use Rattle.nbd_front.proofs.writing.take_write.Given as goal

-- however the rest is taken, it was all taken with what came before
abbrev pub invariant-loop-left : goal.invariant-loop-left
invariant-loop-left g l =
    let tells = g.D.DiskCalls.tells in
    let source = g.S.Source.left in
    record {
      room : 1048576 ≤ length l.page;
      few : l.error ≡ 0 → l.at + l.left < 2 ^ 64;
      even : l.error ≡ 0 → IsWhole l.sector l.left;
      size : g.D.DiskCalls.size l.disk ≡ g.D.DiskCalls.size l.initial.disk;
      quiet : g.S.Source.faults l.source ≡ g.S.Source.faults l.initial.source;
      whole : (count : ℕ) (left : Option (List ℕ)) (new : g.row.D.Denot) (error : ℕ)
          → TakesRest tells l.sector l.is_forced l.error l.at l.left l.intake.at (unread l.intake (source l.source)) l.disk count left new error
          → TakesRest tells l.sector l.is_forced l.initial.error l.initial.at l.initial.left l.initial.intake.at (unread l.initial.intake (source l.initial.source)) l.initial.disk count left new error;
      cut : (left : Option (List ℕ)) (new : g.row.D.Denot) (refusal : NbdRefusal)
          → CutsRest tells l.sector l.is_forced l.error l.at l.left l.intake.at (unread l.intake (source l.source)) l.disk left new refusal
          → CutsRest tells l.sector l.is_forced l.initial.error l.initial.at l.initial.left l.initial.intake.at (unread l.initial.intake (source l.initial.source)) l.initial.disk left new refusal;
    }

abbrev pub decreases-loop-left : goal.decreases-loop-left
decreases-loop-left g l = l.left
