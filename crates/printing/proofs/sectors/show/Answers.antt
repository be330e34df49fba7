use Rattle.std.proofs.Common.{inl, inr}
use Rattle.printing.proofs.sectors.show.Goals as goal

pub returns-in-Ok : goal.returns-in-Ok
returns-in-Ok g c = inl c.show_by.ensures

pub returns-in-Err : goal.returns-in-Err
returns-in-Err g c = inr c.out_of_memory.ensures
