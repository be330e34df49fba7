use Rattle.std.proofs.Common.{◌≡◌, take}
use Rattle.link_rules.specs.Chains as chains
use Rattle.command_base.proofs.chain.names_of.Given as goal

-- the names so far
abbrev pub invariant-loop-file : goal.invariant-loop-file
invariant-loop-file l = l.names ≡ chains.names_of (take l.file-index l.files)
