use Rattle.load_calls.proofs.FourGuests.{loads_run_alone}
use Rattle.load_calls.proofs.Loads.{lines_are_counted, loads_are_counted, loads_are_placed, loads_end_alike, loads_keep, loads_print_alike}
use Rattle.load_calls.proofs.OwnCalls.{writes_are_placed}
use Rattle.load_calls.proofs.Prepared.{loads_have_lines}
use Rattle.load_calls.proofs.Seen.{guests_see}
use Rattle.load_calls.proofs.laws.loads_end_alike.Goals as goal

pub returns : goal.returns
returns c = record {
  made = loads_have_lines;
  alone = loads_run_alone;
  placed = loads_are_placed;
  written = writes_are_placed;
  own = loads_keep;
  ends = loads_end_alike;
  prints = loads_print_alike;
  seen = guests_see;
  count = loads_are_counted;
  lines = lines_are_counted;
}
