-- Rows of numbers, and lines that are drawn one by one.
use Rattle.std.proofs.Common.{◌≡◌, ℕ, ◌+◌, ◌*◌, ◌/◌, ◌^◌, List, [], ◌∷◌, ◌++◌, refl, sym, ap, ◌∙◌, add-one, arith}
use Rattle.std.proofs.lemmas.List.{map-append, append_assoc, append-nil}
use Rattle.std.proofs.lemmas.List.FromFn.{map-range_with_len_more}
use Rattle.script.specs.declared.form.Form.{Form}
use Rattle.script.specs.declared.form.Line.{Line}
use Rattle.load_calls.specs.Draws.{next_state, state_behind, draw}
use Rattle.load_calls.specs.Load.{drawn_at, forms_from, lines_of}

pub state_none : (seed : ℕ) → seed ≡ state_behind seed 0
unfolding state_behind
state_none seed = refl

pub state_more : (seed n : ℕ) → state_behind seed (n + 1) ≡ next_state (state_behind seed n)
unfolding state_behind
state_more seed n = ap (state_behind seed) (add-one n)

-- no line yet
pub lines_none : (guest seed start : ℕ) (f : ℕ → ℕ → Form) (old : List Line) → old ≡ old ++ lines_of guest (forms_from f seed start 0)
unfolding forms_from
lines_none guest seed start f old = sym (append-nil old)

-- two numbers more are drawn
pub state_two_more : (seed start i s t u : ℕ) → s ≡ state_behind seed (2 * (start + i)) → t ≡ next_state s → u ≡ next_state t → u ≡ state_behind seed (2 * (start + (i + 1)))
state_two_more seed start i s t u at first second =
    let place : 2 * (start + (i + 1)) ≡ 2 * (start + i) + 1 + 1 = omega arith in
    second ∙ ap next_state (first ∙ ap next_state at)
    ∙ sym (ap (state_behind seed) place ∙ state_more seed (2 * (start + i) + 1) ∙ ap next_state (state_more seed (2 * (start + i))))

-- and a line of them is added
pub one_more_line : (guest seed start i s t u : ℕ) (f : ℕ → ℕ → Form) (old now new : List Line) (line : Line)
    → s ≡ state_behind seed (2 * (start + i)) → t ≡ next_state s → u ≡ next_state t
    → now ≡ old ++ lines_of guest (forms_from f seed start i)
    → line ≡ record { guest = guest; form = f (t / 2 ^ 33) (u / 2 ^ 33) } → new ≡ now ++ line ∷ []
    → new ≡ old ++ lines_of guest (forms_from f seed start (i + 1))
unfolding forms_from
one_more_line guest seed start i s t u f old now new line at first second before is added =
    let one : t ≡ state_behind seed (2 * (start + i) + 1) = first ∙ ap next_state at ∙ sym (state_more seed (2 * (start + i))) in
    let place : 2 * (start + i) + 1 + 1 ≡ 2 * (start + i) + 2 = omega arith in
    let two : u ≡ state_behind seed (2 * (start + i) + 2) = second ∙ ap next_state one ∙ sym (state_more seed (2 * (start + i) + 1)) ∙ ap (state_behind seed) place in
    let form : f (t / 2 ^ 33) (u / 2 ^ 33) ≡ drawn_at f seed (start + i) = ap (λ x. f (x / 2 ^ 33) (u / 2 ^ 33)) one ∙ ap (λ x. f (draw seed (2 * (start + i) + 1)) (x / 2 ^ 33)) two in
    let more : forms_from f seed start (i + 1) ≡ forms_from f seed start i ++ drawn_at f seed (start + i) ∷ [] = map-range_with_len_more (λ j. drawn_at f seed j) start i (start + i) refl in
    let line_is : line ≡ record { guest = guest; form = drawn_at f seed (start + i) } = is ∙ ap (λ (form : Form). let l : Line = record { guest = guest; form = form } in l) form in
    let end : lines_of guest (forms_from f seed start (i + 1)) ≡ lines_of guest (forms_from f seed start i) ++ line ∷ [] =
    ap (lines_of guest) more ∙ map-append (λ (form : Form). let l : Line = record { guest = guest; form = form } in l) (forms_from f seed start i) (drawn_at f seed (start + i) ∷ []) ∙ ap (λ l. lines_of guest (forms_from f seed start i) ++ l ∷ []) (sym line_is) in
    added ∙ ap (λ l. l ++ line ∷ []) before ∙ append_assoc old (lines_of guest (forms_from f seed start i)) (line ∷ []) ∙ ap (λ l. old ++ l) (sym end)
