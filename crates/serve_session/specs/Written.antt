-- What is told in the words of a script, apart from what guests of any front are told (profile).
use Rattle.std.specs.Prelude.{◌≡◌, ℕ, Bool, false, List, length, string_bytes, IfOk}
use Rattle.guest_model.specs.History.{History}
use Rattle.script.specs.declared.form.Line.{Line}
use Rattle.script.specs.declared.told.ToldCall.{ToldCall}
use Rattle.script_session.specs.declared.session.ScriptRun.{ScriptRun}
use Rattle.serve_session.specs.Served.{IsTranscript, IsWhole, Outcome, asked_by, told_guests}
use Rattle.serve_session.specs.Tallies.{AddsUp, all_outcomes}
use Rattle.serve_session.specs.declared.tally.Tally.{Tally}

-- The texts that are kept of what a script's guests were told, a list for each guest: unless memory ran out they are those of all calls.
pub record AreKept (names : List (List ℕ)) (lines : List Line) (told : List (List ToldCall)) (short : Bool) (guests : List (List Outcome)) : Type 0 where
  pub count : length told ≡ length guests
  pub kept : short ≡ false → IsWhole (asked_by lines) guests × (told ≡ told_guests names 1 lines guests)

-- The run of a script whose guests were told so, with this history: the transcript, if there is one, is of all calls of the script, and the
-- tally is what the calls came to.
pub record IsWritten (names : List (List ℕ)) (lines : List Line) (guests : List (List Outcome)) (history : History) (run : ScriptRun) (tally : Tally) : Type 0 where
  pub transcript : IfOk run.transcript (λ text. IsTranscript names lines guests history (string_bytes text))
  pub tally_is : AddsUp tally (all_outcomes guests)
