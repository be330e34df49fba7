use Rattle.std.proofs.Common.{◌∙◌, ap, subst, sym, arith, set, length}
use Rattle.std.proofs.lemmas.List.{length-set}
use Rattle.mem_file.specs.MemFile.{Contents}
use Rattle.mem_store.specs.MemStore.{IsTallied, all_contents, disk_of}
use Rattle.mem_file.specs.Steps.{Fits, changes_of}
use Rattle.mem_store.proofs.Telling.{seen_is, same_at, tallied_kept_at, tallied_push_at, changed_at}
use Rattle.mem_file.proofs.StepLemmas.{changes-push}
use Rattle.mem_store.proofs.store.MemStore.act.Goals as goal

pub act-requires-clause-fits : goal.act-requires-clause-fits
act-requires-clause-fits c = subst (λ b. Fits (length b) c.args.step) (sym (seen_is c.args.self.now c.args.file c.index_mut.result.now c.requires.there c.index_mut.ensures.value)) c.requires.fits

pub invariant_of-self-in-Err-1 : goal.invariant_of-self-in-Err-1
invariant_of-self-in-Err-1 c = record {
  few = omega (arith, length-set c.args.self.now.files.items c.args.file c.act.new.self, c.args.self.now.few);
  tallied = subst (λ order. IsTallied (all_contents (set c.args.self.now.files.items c.args.file c.act.new.self)) (changes_of order)) (sym c.try_reserve.ensures.items) (tallied_kept_at _ _ c.args.file c.index_mut.result.now c.act.new.self c.requires.there c.index_mut.ensures.value (ap (λ (o : Contents). o.file) c.in-Err.ensures.err) c.args.self.now.tallied);
}

pub returns-in-Err-clause-err : goal.returns-in-Err-clause-err
returns-in-Err-clause-err c =
    ap (λ order. disk_of (all_contents (set c.args.self.now.files.items c.args.file c.act.new.self)) (changes_of order)) c.try_reserve.ensures.items
    ∙ ap (λ files. disk_of files (changes_of c.args.self.now.order.items)) (same_at _ c.args.file c.index_mut.result.now c.act.new.self c.index_mut.ensures.value c.in-Err.ensures.err)

pub invariant_of-self-in-Ok : goal.invariant_of-self-in-Ok
invariant_of-self-in-Ok c = record {
  few = omega (arith, length-set c.args.self.now.files.items c.args.file c.act.new.self, c.args.self.now.few);
  tallied = subst (IsTallied (all_contents (set c.args.self.now.files.items c.args.file c.act.new.self))) (sym (changes-push _ _ _ c.args.file _ _ c.push_reserved.ensures.items c.try_reserve.ensures.items c.in_ok-noted.ensures)) (tallied_push_at _ _ c.args.file _ c.index_mut.result.now c.act.new.self c.requires.there c.index_mut.ensures.value c.in-Ok.ensures.ok c.args.self.now.tallied);
}

pub returns-in-Ok-clause-ok : goal.returns-in-Ok-clause-ok
returns-in-Ok-clause-ok c =
    ap (disk_of (all_contents (set c.args.self.now.files.items c.args.file c.act.new.self))) (changes-push _ _ _ c.args.file _ _ c.push_reserved.ensures.items c.try_reserve.ensures.items c.in_ok-noted.ensures)
    ∙ changed_at _ _ c.args.file _ c.index_mut.result.now c.act.new.self c.requires.there c.index_mut.ensures.value c.in-Ok.ensures.ok
