use Rattle.std.proofs.Common.{◌≡◌, ◌≤◌, ◌+◌, ◌*◌, ◌%◌, ℕ, List, Bool, true, false, ap, subst, sym, take, ◌∙◌}
use Rattle.std.specs.Prelude.{is_some}
use Rattle.store_model.specs.Disk.{WhereBothTold}
use Rattle.layer_session.specs.Masked.{HasPutNamed, HoldsUnnamed, PutsNamed, is_masked, with_masked}
use Rattle.merge_core.proofs.PieceLemmas.{on_broken, on_ok, piece_in_block, piece_moments, piece_put, piece_rest, same_named}
use Rattle.merge_core.proofs.putting.put_piece.Goals as goal

pub returns-clause-moments : goal.returns-clause-moments
returns-clause-moments g c =
    let piece = c.args.piece.now in
    let z = c.args.target.now.tables.parts.sector in
    piece_moments c.args.target.now piece (g.S.Store.disk c.args.store.now).told (g.S.Store.disk c.put_masked.new.store).told
    (subst (λ (m : List ℕ). WhereBothTold (PutsNamed c.args.target.now (is_masked piece.first piece.count 0 m)) (g.S.Store.disk c.args.store.now).told (g.S.Store.disk c.put_masked.new.store).told) c.as_slice-2.ensures.value c.put_masked.ensures.moments)

pub returns-clause-put : goal.returns-clause-put
returns-clause-put g c =
    let piece = c.args.piece.now in
    let z = c.args.target.now.tables.parts.sector in
    let bytes : List ℕ = take (c.from.result * piece.count) c.as_slice.result.now in
    let is : bytes ≡ take (z * piece.count) piece.bytes.items = ap (λ k. take (k * piece.count) c.as_slice.result.now) (c.from.ensures ∙ c.requires.fits.sector) ∙ ap (take (z * piece.count)) c.as_slice.ensures.value in
    on_ok c.put_masked.result _ _ (λ h. piece_put c.args.target.now c.put_masked.new.self piece z bytes c.requires.fits.sector is (g.S.Store.disk c.args.store.now).told (g.S.Store.disk c.put_masked.new.store).told
    (subst (λ (m : List ℕ). WhereBothTold (HasPutNamed c.args.target.now c.put_masked.new.self (is_masked piece.first piece.count 0 m) (with_masked z piece.first piece.count 0 m bytes)) (g.S.Store.disk c.args.store.now).told (g.S.Store.disk c.put_masked.new.store).told) c.as_slice-2.ensures.value h)) c.put_masked.ensures.put

pub returns-clause-broken : goal.returns-clause-broken
returns-clause-broken g c =
    let piece = c.args.piece.now in
    let z = c.args.target.now.tables.parts.sector in
    on_broken c.put_masked.result _ _ (λ h. (
      h.0,
      piece_rest c.args.target.now c.put_masked.new.self piece (g.S.Store.disk c.args.store.now).told (g.S.Store.disk c.put_masked.new.store).told
          (subst (λ (m : List ℕ). WhereBothTold (HoldsUnnamed c.args.target.now c.put_masked.new.self (is_masked piece.first piece.count 0 m)) (g.S.Store.disk c.args.store.now).told (g.S.Store.disk c.put_masked.new.store).told) c.as_slice-2.ensures.value h.1),
    )) c.put_masked.ensures.broken

pub returns-clause-ready : goal.returns-clause-ready
returns-clause-ready g c = c.put_masked.ensures.ready

pub returns-clause-refused : goal.returns-clause-refused
returns-clause-refused g c = c.put_masked.ensures.refused

pub returns-clause-kept : goal.returns-clause-kept
returns-clause-kept g c = c.put_masked.ensures.kept

pub returns-clause-quiet : goal.returns-clause-quiet
returns-clause-quiet g c = c.put_masked.ensures.quiet

pub returns-clause-parts : goal.returns-clause-parts
returns-clause-parts g c = c.put_masked.ensures.parts

pub returns-clause-header : goal.returns-clause-header
returns-clause-header g c = c.put_masked.ensures.header

pub returns-clause-number : goal.returns-clause-number
returns-clause-number g c = c.put_masked.ensures.number

pub returns-clause-counts : goal.returns-clause-counts
returns-clause-counts g c = c.put_masked.ensures.counts

pub returns-clause-err : goal.returns-clause-err
returns-clause-err g c = c.put_masked.ensures.err

pub returns-clause-full : goal.returns-clause-full
returns-clause-full g c = c.put_masked.ensures.full

pub returns-clause-room : goal.returns-clause-room
returns-clause-room g c =
    let piece = c.args.piece.now in
    λ s has. c.put_masked.ensures.room s (subst (λ (m : List ℕ). is_masked piece.first piece.count 0 m s ≡ true) (sym c.as_slice-2.ensures.value) (subst (λ (n : ℕ → Bool). n s ≡ true) (sym (same_named piece)) has))

pub returns-clause-nothing : goal.returns-clause-nothing
returns-clause-nothing g c =
    let piece = c.args.piece.now in
    λ none. c.put_masked.ensures.nothing (λ s. subst (λ (m : List ℕ). is_masked piece.first piece.count 0 m s ≡ false) (sym c.as_slice-2.ensures.value) (subst (λ (n : ℕ → Bool). n s ≡ false) (sym (same_named piece)) (ap is_some (none s))))

pub put_masked-requires-clause-block : goal.put_masked-requires-clause-block
put_masked-requires-clause-block g c =
    let piece = c.args.piece.now in
    let parts = c.args.target.now.tables.parts in
    record {
      on_disk = c.requires.fits.on_disk;
      run = subst (λ z. piece.first * z % parts.block + piece.count * z ≤ parts.block) c.requires.fits.sector (piece_in_block piece.sector parts.block piece.stripe piece.first piece.count c.requires.ready.readable.sizes.block piece.place piece.few);
    }
