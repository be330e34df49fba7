use Rattle.std.proofs.Common.{◌≡◌, ◌*◌, length, length-take, take, drop, sym, subst, ap, arith, ◌∙◌}
use Rattle.layer_session.specs.Calls.{AddsOwned}
use Rattle.layer_session.proofs.Owned.{layers_are_added}
use Rattle.merge_core.proofs.PieceLemmas.{none_found, on_ok, row_fits, told_more}
use Rattle.merge_core.proofs.taking.read_sectors.Goals as goal

pub returns-clause-tells : goal.returns-clause-tells
returns-clause-tells g c =
    let z = c.args.sector in
    let long : c.from.result * c.args.count ≡ z * c.args.count = ap (λ n. n * c.args.count) c.from.ensures in
    on_ok c.own.result _ _
    (λ held layer trace told h. record {
      tells = λ i below.
          let first = take (c.from.result * c.args.count) c.args.bytes.now in
          let rest = drop (c.from.result * c.args.count) c.args.bytes.now in
          let added : AddsOwned layer z c.args.first c.args.count 0 c.set_none.new.mask c.own.new.mask first c.own.new.out = subst (λ n. AddsOwned layer n c.args.first c.args.count 0 c.set_none.new.mask c.own.new.mask first c.own.new.out) (sym c.requires.sector) (held layer trace told h) in
          let as_long = added.len in
          let all : length first ≡ z * c.args.count = let k = c.requires.bytes in omega (arith, length-take (c.from.result * c.args.count) c.args.bytes.now, long, k) in
          let row = row_fits z i c.args.count below in
          layers_are_added.tells layer z c.args.first c.args.count 0 c.set_none.new.mask c.own.new.mask first c.own.new.out (none_found c.args.count c.args.mask.now c.set_none.new.mask c.requires.mask c.set_none.ensures) added i below
          ∙ told_more z i c.own.new.mask c.own.new.out rest (omega (arith, as_long, all, row));
    }) c.own.ensures.held
