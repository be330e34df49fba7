use Rattle.std.proofs.Common.{◌≡◌, ℕ, Bool, false, List, ◌++◌, ap, sym, ◌∙◌}
use Rattle.std.specs.List.{list_any}
use Rattle.std.proofs.lemmas.List.Folds.{list_any-append}
use Rattle.vhdx_format.specs.Fields.{is_zero_id, same_id}
use Rattle.make_file.specs.Identifiers.{is_unfit}
use Rattle.make_file.proofs.drawing.is_unfit.Goals as goal

-- neither zero nor drawn before
last : (id : List ℕ) (drawn known : List (List ℕ)) (found : Bool) → is_zero_id id ≡ false → list_any (same_id id) drawn ≡ false → found ≡ list_any (same_id id) known
    → found ≡ is_unfit (drawn ++ known) id
last id drawn known found z a f = rw (z, list_any-append (same_id id) drawn known, a) f

pub returns : goal.returns
returns c =
    last c.args.id c.args.drawn.now c.args.known.now c.is_among-2.result (sym (c.eq.ensures ∙ ap (same_id c.args.id) c.zero.ensures) ∙ c.if-eq.false) (sym c.is_among.ensures ∙ c.if-is_among.false) c.is_among-2.ensures
