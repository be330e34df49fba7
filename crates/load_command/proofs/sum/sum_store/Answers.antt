use Rattle.std.proofs.Common.{◌∙◌, ap, arith}
use Rattle.store_model.specs.Disk.{Disk}
use Rattle.chain_model.specs.Images.{members_of}
use Rattle.chain_model.specs.Members.{disk_of}
use Rattle.command_base.specs.Commands.{placed_from}
use Rattle.load_command.proofs.Summed.{more_page, placed_sectors}
use Rattle.load_command.proofs.sum.sum_store.Goals as goal

pub loop-first-preserved : goal.loop-first-preserved
loop-first-preserved g c = record {
  within = omega (arith, c.min-count.ensures, c.loop-first-test.true, c.loop-first.invariant.within);
  few = λ below. (let so = c.loop-first.invariant.few c.loop-first-test.true in omega (arith, below, so, c.min-count.ensures, c.loop-first-test.true, c.page_sum-sum.ensures.most));
  same = c.in_ok-bytes.ensures.store ∙ c.loop-first.invariant.same;
  sum = λ t told.
      let disk = disk_of (members_of (placed_from 0 c.args.files.now t)) in
      let then = ap (λ (d : Disk). d.told) c.loop-first.invariant.same ∙ told in
      let long = placed_sectors c.args.files.now c.args.geometry t c.requires.geometry in
      more_page c.pages_add_up.ensures.sectors c.pages_add_up.ensures.pages disk c.loop-first.first c.min-count.result c.loop-first.sum c.page_sum-sum.result c.as_slice.result.now (omega (arith, long, c.min-count.ensures, c.loop-first-test.true, c.requires.on_disk))
      (c.as_slice.ensures ∙ c.in_ok-bytes.ensures.bytes t then) (c.in_ok-bytes.ensures.sized t then) (c.loop-first.invariant.sum t told) c.page_sum-sum.ensures.sum;
}
