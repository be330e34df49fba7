use Rattle.std.proofs.Common.{◌≡◌, ◌∙◌, [], ap, sym, subst, rules}
use Rattle.store_model.specs.Bytes.{IsBytes}
use Rattle.store_model.specs.File.{seen_after}
use Rattle.store_model.specs.Lawful.{is_lawful}
use Rattle.store_model.proofs.Lawfulness.{lawful-attached}
use Rattle.mem_file.specs.Steps.{ops_done}
use Rattle.mem_file.proofs.file.MemFile.new.Goals as goal

pub invariant_of-result : goal.invariant_of-result
invariant_of-result c =
    let attached : c.in_ok-from_slice.field-0.items ≡ c.args.bytes.now = search rules in
    let now : c.in_ok-from_slice-2.field-0.items ≡ c.args.bytes.now = search rules in
    let none : ops_done c.new.result.items ≡ [] = ap ops_done c.new.ensures.items in
    let are_bytes : IsBytes c.args.bytes.now = record { each = λ i. let fits = c.type_inv.bytes i in search (rules, fits) } in
    record {
      current = now ∙ sym (ap (seen_after c.in_ok-from_slice.field-0.items) none ∙ attached);
      lawful = ap (is_lawful c.in_ok-from_slice.field-0.items) none ∙ lawful-attached _ (subst IsBytes (sym attached) are_bytes);
    }
