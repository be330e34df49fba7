use Rattle.std.proofs.Common.{◌≡◌, ◌++◌, drop}
use Rattle.store_model.specs.Disk.{WhereTold}
use Rattle.command_base.specs.Commands.{shown_from}
use Rattle.folder_commands.proofs.making.all_shown.Given as goal

-- the store is as it was; what was collected so far, and what the files that are left show
abbrev pub invariant-loop-file : goal.invariant-loop-file
invariant-loop-file g l = record {
  number : l.number ≡ l.file-index;
  same : g.S.Store.disk l.store ≡ g.S.Store.disk l.initial.store;
  known : WhereTold (g.S.Store.disk l.initial.store).told (λ trace. l.known.items ++ shown_from l.number (drop l.file-index l.files) trace ≡ shown_from 0 l.files trace);
}
