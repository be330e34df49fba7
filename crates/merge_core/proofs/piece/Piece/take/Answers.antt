use Rattle.std.proofs.Common.{◌≡◌, ◌≤◌, ◌+◌, ◌∙◌, ℕ, List, ap, length, arith, rules, sym, subst}
use Rattle.std.proofs.lemmas.List.{places, with_items_is}
use Rattle.std.specs.Vec.{with_items}
use Rattle.merge_core.specs.Pieces.{IsTaken, Tells, piece_of}
use Rattle.merge_core.specs.declared.piece.Piece.{Piece as KeptPiece}
use Rattle.layer_session.proofs.FileLayers.{has_held}
use Rattle.merge_core.proofs.PieceLemmas.{disk_size, holds_off, err_empty, few_sectors, is_taken, ok_filled, on_ok, sector_size, some_sectors}
use Rattle.merge_core.proofs.piece.Piece.take.Goals as goal

pub returns-clause-held : goal.returns-clause-held
returns-clause-held g c =
    let z = c.args.geometry.sector in
    let first = c.stripe_range-first.result.0 in
    let count = c.stripe_range-first.result.1 in
    let mask = with_items c.args.self.now.mask c.read_sectors-done.new.mask in
    let bytes = with_items c.args.self.now.bytes c.read_sectors-done.new.bytes in
    let mask_is : mask.items ≡ c.read_sectors-done.new.mask = with_items_is c.args.self.now.mask c.read_sectors-done.new.mask (search (rules, places)) in
    let bytes_is : bytes.items ≡ c.read_sectors-done.new.bytes = with_items_is c.args.self.now.bytes c.read_sectors-done.new.bytes (search (rules, places)) in
    on_ok c.read_sectors-done.result _ _
    (λ tells layer trace told h. subst (λ (p : KeptPiece). IsTaken z layer (piece_of p)) (sym c.note.ensures) (is_taken z c.args.geometry.sectors c.args.stripe c.args.stamp first count mask.items bytes.items layer
    (some_sectors c.args.source.now (g.S.Store.disk c.args.store.now) c.args.geometry c.requires.readable) c.stripe_range-first.ensures.first c.stripe_range-first.ensures.count c.stripe_range-first.ensures.on_disk
    (λ s off. holds_off c.args.source.now trace layer h s (subst (λ n. n ≤ s) (sym c.requires.readable.sectors) off))
    (subst (λ (m : List ℕ). Tells z first count layer m bytes.items) (sym mask_is) (subst (λ (b : List ℕ). Tells z first count layer c.read_sectors-done.new.mask b) (sym bytes_is) (tells layer trace told h))))) c.read_sectors-done.ensures.tells

pub returns-clause-taken : goal.returns-clause-taken
returns-clause-taken g c =
    on_ok c.read_sectors-done.result _ _ (λ held file trace told h. held file.member.layer trace told (has_held c.args.source.now trace file h)) (returns-clause-held g c)

pub invariant_of-self : goal.invariant_of-self
invariant_of-self g c =
    let size = sector_size c.args.source.now (g.S.Store.disk c.args.store.now) c.args.geometry c.requires.readable in
    let bytes_len = c.read_sectors-done.auto.bytes ∙ c.as_mut_slice-bytes.ensures.len in
    let mask_len = c.read_sectors-done.auto.mask ∙ c.as_mut_slice-mask.ensures.len in
    record {
      place = c.stripe_range-first.ensures.begins;
      size = size;
      few = c.stripe_range-first.ensures.long;
      bits = omega (arith, c.stripe_range-first.ensures.most, few_sectors c.args.geometry.sector size);
      long = ap length (with_items_is c.args.self.now.bytes c.read_sectors-done.new.bytes bytes_len) ∙ c.read_sectors-done.auto.bytes ∙ ap length c.as_mut_slice-bytes.ensures.value ∙ c.args.self.now.long;
      masks = ap length (with_items_is c.args.self.now.mask c.read_sectors-done.new.mask mask_len) ∙ c.read_sectors-done.auto.mask ∙ ap length c.as_mut_slice-mask.ensures.value ∙ c.args.self.now.masks;
    }

pub returns-clause-filled : goal.returns-clause-filled
returns-clause-filled g c = ok_filled c.read_sectors-done.result c.note.new.self.filled (ap (λ (p : KeptPiece). p.filled) c.note.ensures ∙ c.is_ok.ensures.value)

pub returns-clause-empty : goal.returns-clause-empty
returns-clause-empty g c = err_empty c.read_sectors-done.result c.note.new.self.filled (ap (λ (p : KeptPiece). p.filled) c.note.ensures ∙ c.is_ok.ensures.value)

pub returns-clause-fits : goal.returns-clause-fits
returns-clause-fits g c = λ parts z n. record {
  sector = ap (λ (p : KeptPiece). p.sector) c.note.ensures ∙ sym z;
  on_disk = subst (λ (p : KeptPiece). p.first + p.count ≤ parts.sectors) (sym c.note.ensures) (subst (λ k. c.stripe_range-first.result.0 + c.stripe_range-first.result.1 ≤ k) (sym n) c.stripe_range-first.ensures.on_disk);
}

pub returns-clause-stripe : goal.returns-clause-stripe
returns-clause-stripe g c = ap (λ (p : KeptPiece). p.stripe) c.note.ensures

pub returns-clause-stamp : goal.returns-clause-stamp
returns-clause-stamp g c = ap (λ (p : KeptPiece). p.stamp) c.note.ensures

pub returns-clause-same : goal.returns-clause-same
returns-clause-same g c = c.read_sectors-done.ensures.same

pub returns-clause-stays : goal.returns-clause-stays
returns-clause-stays g c = c.read_sectors-done.ensures.stays

pub returns-clause-err : goal.returns-clause-err
returns-clause-err g c = c.read_sectors-done.ensures.err

pub stripe_range-first-requires-clause-sector : goal.stripe_range-first-requires-clause-sector
stripe_range-first-requires-clause-sector g c = sector_size c.args.source.now (g.S.Store.disk c.args.store.now) c.args.geometry c.requires.readable

pub stripe_range-first-requires-clause-size : goal.stripe_range-first-requires-clause-size
stripe_range-first-requires-clause-size g c = disk_size c.args.source.now (g.S.Store.disk c.args.store.now) c.args.geometry c.requires.readable

pub read_sectors-done-requires-clause-readable : goal.read_sectors-done-requires-clause-readable
read_sectors-done-requires-clause-readable g c = c.requires.readable.can

pub read_sectors-done-requires-clause-sector : goal.read_sectors-done-requires-clause-sector
read_sectors-done-requires-clause-sector g c = sym c.requires.readable.sector

pub read_sectors-done-requires-clause-on_disk : goal.read_sectors-done-requires-clause-on_disk
read_sectors-done-requires-clause-on_disk g c = subst (λ n. c.stripe_range-first.result.0 + c.stripe_range-first.result.1 ≤ n) (sym c.requires.readable.sectors) c.stripe_range-first.ensures.on_disk

pub read_sectors-done-requires-clause-bytes : goal.read_sectors-done-requires-clause-bytes
read_sectors-done-requires-clause-bytes g c = omega (arith, ap length c.as_mut_slice-bytes.ensures.value, c.args.self.now.long, c.stripe_range-first.ensures.long)

pub read_sectors-done-requires-clause-few : goal.read_sectors-done-requires-clause-few
read_sectors-done-requires-clause-few g c = omega (arith, c.stripe_range-first.ensures.most, few_sectors c.args.geometry.sector (sector_size c.args.source.now (g.S.Store.disk c.args.store.now) c.args.geometry c.requires.readable))

pub read_sectors-done-requires-clause-mask : goal.read_sectors-done-requires-clause-mask
read_sectors-done-requires-clause-mask g c = omega (arith, ap length c.as_mut_slice-mask.ensures.value, c.args.self.now.masks, read_sectors-done-requires-clause-few g c)
