use Rattle.std.proofs.Common.{◌≡◌, ◌∙◌, ap, arith, length, rules, subst, sym}
use Rattle.store_model.specs.Bytes.{IsBytes}
use Rattle.mem_file.specs.Steps.{half_of}
use Rattle.mem_store.specs.StoreTold.{seen_by}
use Rattle.mem_store.proofs.Tearing.{bytes-half, length-half, seen_bytes}
use Rattle.mem_store.proofs.store.MemStore.leave_half.Goals as goal

pub half_written-requires : goal.half_written-requires
half_written-requires c = omega (arith, ap length c.bytes.ensures, c.requires.within)

pub act-requires-clause-fits : goal.act-requires-clause-fits
act-requires-clause-fits c =
    let seen = seen_by c.args.self.now c.args.file in
    let left : c.in_ok-left.left.items ≡ half_of seen c.args.at c.args.meant.now = c.in_ok-left.ensures ∙ ap (λ b. half_of b c.args.at c.args.meant.now) c.bytes.ensures in
    omega (arith, ap length left, length-half seen c.args.at c.args.meant.now c.requires.within, c.requires.within)

pub act-requires-clause-bytes : goal.act-requires-clause-bytes
act-requires-clause-bytes c =
    let seen = seen_by c.args.self.now c.args.file in
    let left : c.in_ok-left.left.items ≡ half_of seen c.args.at c.args.meant.now = c.in_ok-left.ensures ∙ ap (λ b. half_of b c.args.at c.args.meant.now) c.bytes.ensures in
    let meant : c.in_ok-meant.meant.items ≡ c.args.meant.now = search rules in
    let are_bytes : IsBytes c.args.meant.now = record { each = λ i. let fits = c.type_inv.meant i in search (rules, fits) } in (
      subst IsBytes (sym left) (bytes-half seen c.args.at c.args.meant.now (seen_bytes c.args.self.now c.args.file c.requires.there) are_bytes),
      ap length meant ∙ sym (ap length left ∙ length-half seen c.args.at c.args.meant.now c.requires.within),
    )
