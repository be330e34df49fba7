use Rattle.std.proofs.Common.{◌≡◌, ◌++◌, List, ℕ, ap, append_assoc, ◌∙◌}
use Rattle.std.specs.Prelude.{OnOk, string_bytes, codes, decimal}
use Rattle.std.proofs.lemmas.Result.{on_ok_weaker}
use Rattle.script.specs.Transcript.{place_text}
use Rattle.script.proofs.transcript.push_served_line.Goals as goal

pub returns : goal.returns
returns c =
    let place : string_bytes c.push_place.new.out ≡ string_bytes c.args.out.now ++ (place_text c.args.place ++ codes " ") = c.in_ok-push_place.ensures in
    let rest : List ℕ = decimal c.args.guest ++ (codes " " ++ (decimal c.args.number ++ (codes " " ++ (c.args.text.now ++ codes "\n")))) in
    let written : OnOk c.write.result (string_bytes c.write.new.self ≡ string_bytes c.push_place.new.out ++ rest) = c.write.ensures.bytes in
    on_ok_weaker c.write.result (λ (e : string_bytes c.write.new.self ≡ string_bytes c.push_place.new.out ++ rest). e ∙ ap (λ l. l ++ rest) place ∙ simp append_assoc) written
