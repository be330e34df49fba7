use Rattle.std.proofs.Common.{Bool, ◌≡◌, true, false, ◌&&◌, refl, sym, ◌∙◌, eqb-true}
use Rattle.std.specs.Bool.{beq}
use Rattle.format_tests.proofs.Childs.{child_has_tables}
use Rattle.format_tests.proofs.tables.are_childs.Goals as goal

both_of : (x y : Bool) → (x && y) ≡ true → (x ≡ true) × (y ≡ true)
both_of true y h = (refl, h)
both_of false y h = cc

of_beq : (b : Bool) → beq b true ≡ true → b ≡ true
of_beq true h = refl
of_beq false h = cc

pub returns-clause-tables : goal.returns-clause-tables
returns-clause-tables c e =
    let file = both_of _ _ (sym c.eq.ensures ∙ e) in
    let sector = both_of _ _ file.1 in
    let sectors = both_of _ _ sector.1 in
    let block = both_of _ _ sectors.1 in
    let at = both_of _ _ block.1 in
    let len = both_of _ _ at.1 in
    child_has_tables _ (eqb-true _ _ sector.0) (eqb-true _ _ sectors.0) (eqb-true _ _ block.0) (eqb-true _ _ at.0) (eqb-true _ _ len.0) (of_beq _ len.1)
