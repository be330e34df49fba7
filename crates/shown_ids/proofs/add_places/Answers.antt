use Rattle.std.proofs.Common.{ℕ, ◌+◌, ◌*◌, refl, ap, ◌∙◌}
use Rattle.store_model.specs.Disk.{Disk}
use Rattle.store_model.specs.File.{seen}
use Rattle.store_model.specs.Trace.{file_of}
use Rattle.shown_ids.specs.Shown.{place_id}
use Rattle.shown_ids.proofs.Places.{none_yet, one_more}
use Rattle.shown_ids.proofs.add_places.Goals as goal

pub loop-k-init : goal.loop-k-init
loop-k-init g c = record { store = refl; ids = λ t told. none_yet (seen (file_of t c.args.file)) c.args.at c.args.ids.now.items }

pub loop-k-preserved : goal.loop-k-preserved
loop-k-preserved g c = record {
  store = c.in_ok-id.ensures.stays ∙ c.loop-k.invariant.store;
  ids = λ t told.
      let there = ap (λ (d : Disk). d.told) c.loop-k.invariant.store ∙ told in
      one_more (seen (file_of t c.args.file)) c.args.at c.loop-k.k c.args.ids.now.items c.loop-k.ids.items c.add.new.ids.items c.in_ok-id.id (c.loop-k.invariant.ids t told)
      (c.in_ok-id.ensures.id t there ∙ ap (λ (k : ℕ). place_id (seen (file_of t c.args.file)) (c.args.at + 4096 * k)) c.from.ensures) c.in_ok-add.ensures;
}
