use Rattle.std.proofs.Common.{None, take}
use Rattle.make_file.specs.Makes.{outside}
use Rattle.store_model.specs.Disk.{WhereTold}
use Rattle.link_rules.specs.Folders.{AllIdle}
use Rattle.load_command.specs.Growing.{HaveStepped}
use Rattle.load_command.proofs.loading.run_all.Given as goal

-- those so far were done, and no file is away
abbrev pub invariant-loop-command : goal.invariant-loop-command
invariant-loop-command g l = record {
  done : HaveStepped l.seed (take l.command-index l.commands) (outside (g.H.Host.hosted l.initial.host) (g.I.Ids.drawn l.initial.ids)) None (outside (g.H.Host.hosted l.host) (g.I.Ids.drawn l.ids)) l.heard;
  idle : WhereTold (g.H.Host.hosted l.host).folder AllIdle;
}
