use Rattle.load_served.proofs.Complete.{answers_are_histories, answers_are_seen, answers_print_alike, loads_have_guests}
use Rattle.load_served.proofs.laws.answers_are_histories.Goals as goal

pub returns : goal.returns
returns c =
    let e = c.loads_end_alike.ensures in
    record { history = answers_are_histories; seen = answers_are_seen; guests = loads_have_guests; prints = answers_print_alike e.ends e.alone e.count e.lines }
