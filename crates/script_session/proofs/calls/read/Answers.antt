use Rattle.script_session.proofs.calls.read.Goals as goal

pub returns-then-count-gt-MOST_MOVED-clause-answers : goal.returns-then-count-gt-MOST_MOVED-clause-answers
returns-then-count-gt-MOST_MOVED-clause-answers g c = c.read_many.ensures.answers _
