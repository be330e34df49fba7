use Rattle.std.proofs.Common.{ap, arith}
use Rattle.std.proofs.lemmas.List.{length-set}
use Rattle.mem_file.specs.MemFile.{Contents}
use Rattle.mem_store.proofs.Telling.{read_failed_at, tallied_kept_at}
use Rattle.mem_store.proofs.store.MemStore.fail_read.Goals as goal

pub invariant_of-self : goal.invariant_of-self
invariant_of-self c = record {
  few = omega (arith, length-set c.args.self.now.files.items c.args.file c.fail_read-count.new.self, c.args.self.now.few);
  tallied = tallied_kept_at _ _ c.args.file c.index_mut-f.result.now _ c.requires c.index_mut-f.ensures.value (ap (λ (o : Contents). o.file) c.fail_read-count.ensures.contents) c.args.self.now.tallied;
}

pub returns : goal.returns
returns c = read_failed_at _ _ c.args.file c.fail_read-count.result c.index_mut-f.result.now _ c.requires c.index_mut-f.ensures.value c.fail_read-count.ensures.contents c.fail_read-count.ensures.count
