use Rattle.std.proofs.Common.{◌≡◌, ◌+◌, ◌-◌, ◌≤◌, ◌++◌, ℕ, Option, List, [], Some, None, arith, sym, ap, get_or, length, drop, subst, ◌∙◌}
use Rattle.std.proofs.lemmas.List.{get_or_default}
use Rattle.guest_model.specs.declared.call.Entry.{Entry}
use Rattle.script.specs.declared.told.ToldCall.{ToldCall}
use Rattle.script.specs.Transcript.{IsTold, entry_lines, served_line, told_of}
use Rattle.script.proofs.Lines.{next_line}
use Rattle.script.proofs.transcript.push_entries.Goals as goal

told_at : (guests : List (List ToldCall)) (e : Entry) (guest n : ℕ) (calls other : List ToldCall) (t : ToldCall) → guest ≡ e.guest → n ≡ e.no → IsTold guests e
    → calls ≡ get_or guests (guest - 1) other → t ≡ get_or calls (n - 1) t → (place : Option ℕ) → served_line place e.guest e.no (told_of guests e.guest e.no) ≡ served_line place guest n t.text
told_at guests e guest n calls other t of number is f h place =
    let low : 1 ≤ guest = omega (arith, of, is.lowest_guest) in
    let high : guest ≤ length guests = omega (arith, of, is.highest_guest) in
    let at : calls ≡ get_or guests (guest - 1) [] = f ∙ get_or_default guests (guest - 1) other [] (omega (arith, low, high)) in
    let none : ToldCall = record { place = None; text = [] } in
    let few : n ≤ length calls = omega (arith, number, is.highest_number, ap length at, ap (λ m. length (get_or guests (m - 1) [])) of) in
    let line : t ≡ get_or calls (n - 1) none = h ∙ get_or_default calls (n - 1) t none (omega (arith, number, is.lowest_number, few)) in
    let text : told_of guests guest n ≡ t.text = sym (ap (λ (t : ToldCall). t.text) line ∙ ap (λ (cs : List ToldCall). (get_or cs (n - 1) none).text) at) in
    sym (ap (λ m. served_line place m n t.text) of ∙ ap (λ m. served_line place e.guest m t.text) number
    ∙ ap (served_line place e.guest e.no) (sym text ∙ ap (λ m. told_of guests m n) of ∙ ap (λ m. told_of guests e.guest m) number))

pub loop-entry-preserved : goal.loop-entry-preserved
loop-entry-preserved c =
    let guests = c.args.guests.now in
    let history = c.args.history.now in
    let i = c.loop-entry.entry-index in
    let e = c.entry-item.result in
    let who = c.caller-guest.result in
    let is : IsTold guests e = subst (IsTold guests) (sym c.entry-item.is) (c.requires i e c.loop-entry-test.true) in
    let line : served_line (Some (i + 1)) e.guest e.no (told_of guests e.guest e.no) ≡ served_line (Some (i + 1)) who.guest who.no c.as_str.result.now =
    told_at guests e who.guest who.no c.as_slice.result.now _ c.index-as_slice-no.result c.caller-guest.ensures.guest c.caller-guest.ensures.number is
    (c.as_slice.ensures ∙ c.index-guests-guest.is) c.index-as_slice-no.is (Some (i + 1)) ∙ ap (served_line (Some (i + 1)) who.guest who.no) (sym c.as_str.ensures) in
    record {
      placed = ap (λ n. n + 1) c.loop-entry.invariant.placed;
      text = next_line (λ hs. entry_lines guests (i + 1) hs) history i e _ _ _ _ _ c.loop-entry-test.true c.in_ok-push_served_line.ensures
          (ap (λ l. l ++ entry_lines guests (i + 1 + 1) (drop (i + 1) history))
          (ap (λ (x : Entry). served_line (Some (i + 1)) x.guest x.no (told_of guests x.guest x.no)) (sym c.entry-item.is)
          ∙ line
          ∙ ap (λ n. served_line (Some (n + 1)) who.guest who.no c.as_str.result.now) (sym c.loop-entry.invariant.placed)))
          c.loop-entry.invariant.text;
    }
