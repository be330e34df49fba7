use Rattle.std.proofs.Common.{◌≡◌, ◌++◌, Some, length, ap, subst, sym, ◌∙◌, arith}
use Rattle.store_model.specs.Disk.{Disk}
use Rattle.store_model.specs.File.{seen}
use Rattle.store_model.specs.Trace.{file_of}
use Rattle.vhdx_format.specs.FileParts.{LieWithin}
use Rattle.folder_commands.proofs.Showing.{file_within, shown_more}
use Rattle.folder_commands.proofs.making.all_shown.Goals as goal

pub shown_by-requires-clause-within : goal.shown_by-requires-clause-within
shown_by-requires-clause-within g c t told =
    let first : (g.S.Store.disk c.args.store.now).told ≡ Some t = ap (λ (d : Disk). d.told) (sym c.in_ok-check_lengths.ensures.store) ∙ ap (λ (d : Disk). d.told) (sym c.loop-file.invariant.same) ∙ told in
    subst (λ n. LieWithin c.file-item.result.parts (length (seen (file_of t n)))) (sym c.loop-file.invariant.number)
    (file_within c.loop-file.file-index c.args.files.now c.file-item.result t c.loop-file-test.true c.file-item.is (c.requires.opened t first) (c.in_ok-check_lengths.ensures.short t first))

pub loop-file-preserved : goal.loop-file-preserved
loop-file-preserved g c = record {
  number = omega (arith, c.loop-file.invariant.number);
  same = c.in_ok-ids.ensures.store ∙ c.loop-file.invariant.same;
  known = λ t told.
      shown_more c.loop-file.file-index c.loop-file.number c.args.files.now c.file-item.result t c.loop-file.known.items c.in_ok-ids.ids.items _ _ c.loop-file-test.true c.file-item.is (c.loop-file.invariant.known t told)
      (c.in_ok-ids.ensures.ids t (ap (λ (d : Disk). d.told) c.loop-file.invariant.same ∙ told)) (c.in_ok-add_all.ensures ∙ ap (λ x. c.loop-file.known.items ++ x) c.as_slice.ensures.value);
}
