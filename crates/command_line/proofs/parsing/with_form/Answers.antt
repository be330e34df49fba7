use Rattle.std.proofs.Common.{◌≡◌, Bool, true, false, not, ◌&&◌, List, [], ◌∷◌, ap, refl, sym, ◌∙◌}
use Rattle.std.proofs.lemmas.Bool.{true≢false}
use Rattle.std.proofs.lemmas.Result.{IfOk-weaker}
use Rattle.clap.specs.Words.{App, app_of, new_app, with_subcommand}
use Rattle.command_line.specs.Parsing.{form_app, with_words}
use Rattle.command_line.specs.declared.parsing.Word.{Word}
use Rattle.command_line.proofs.parsing.with_form.Goals as goal

plain_words : (a : App) (words : List Word) → (with_words a words).top.is_plain ≡ a.top.is_plain
plain_words a [] = refl
plain_words a (w ∷ words) = plain_words _ words

-- what a plain command says third is that it has no global argument
not_global : (a b g rest : Bool) → (a && (b && (not g && rest))) ≡ true → g ≡ false
not_global true true false rest e = refl
not_global true true true rest e = absurd (true≢false (sym e))
not_global true false g rest e = absurd (true≢false (sym e))
not_global false b g rest e = absurd (true≢false (sym e))

pub returns : goal.returns
returns c =
    let form = c.args.form.now in
    let below : app_of c.in_ok-below.below ≡ form_app form = c.in_ok-below.ensures in
    let plain : (app_of c.in_ok-below.below).top.is_plain ≡ true = ap (λ (a : App). a.top.is_plain) below ∙ plain_words (new_app form.name.now) form.words.now in
    IfOk-weaker c.subcommand.result _ _ (λ r h. h.shape (not_global _ _ _ _ plain) ∙ ap (λ (a : App). with_subcommand (app_of c.args.command) a.top) below) c.subcommand.ensures
