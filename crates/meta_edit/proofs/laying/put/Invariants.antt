use Rattle.std.proofs.Common.{◌≡◌, ◌≤◌, ◌<◌, ◌+◌, ◌-◌, ◌*◌, ◌%◌, length, take}
use Rattle.store_model.specs.Disk.{WhereTold}
use Rattle.vx_base.specs.Fields.{written_over}
use Rattle.meta_edit.specs.Pages.{ArePages, laid_file, with_pages}
use Rattle.meta_edit.proofs.laying.put.Given as goal

-- so far the first bytes are written, in whole pages but for the first and the last
abbrev pub invariant-loop-done : goal.invariant-loop-done
invariant-loop-done g l = record {
  store : g.S.Store.disk l.store ≡ g.S.Store.disk l.initial.store;
  within : l.done ≤ length l.bytes;
  pages : ArePages l.laid.parts.now l.updates;
  whole : 0 < l.done → l.done < length l.bytes → (l.at + l.done) % 4096 ≡ 0;
  none_yet : l.done ≡ 0 → length l.updates ≤ length l.initial.updates;
  few : 4096 * length l.updates ≤ 4096 * length l.initial.updates + l.at % 4096 + l.done + 4095;
  told : WhereTold (g.S.Store.disk l.initial.store).told (λ trace.
      with_pages l.updates (laid_file trace l.laid.file l.laid.over.now) ≡ written_over (with_pages l.initial.updates (laid_file trace l.laid.file l.laid.over.now)) l.at (take l.done l.bytes));
}

abbrev pub decreases-loop-done : goal.decreases-loop-done
decreases-loop-done g l = length l.bytes - l.done
