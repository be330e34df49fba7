use Rattle.std.proofs.Common.{◌≡◌, drop}
use Rattle.clap.specs.Words.{app_of}
use Rattle.command_line.specs.Parsing.{form_app, with_words}
use Rattle.command_line.proofs.parsing.of_form.Given as goal

-- the command so far with the words that are left
abbrev pub invariant-loop-word : goal.invariant-loop-word
invariant-loop-word l = with_words (app_of l.command) (drop l.word-index l.form.words.now) ≡ form_app l.form
