use Rattle.std.proofs.Common.{refl, subst}
use Rattle.link_rules.specs.Lines.{BeginsWith}
use Rattle.command_base.specs.Causes.{meaning_of_chain}
use Rattle.command_base.proofs.Left.{followed, follows_for, safely_for}
use Rattle.folder_commands.proofs.Made.{child_ended, is_of_chain, leaf_served, no_memory_made, parent_refused, parent_safely}
use Rattle.folder_commands.proofs.Said.{said_of_file, typed_by, untold_by}
use Rattle.folder_commands.proofs.making.child.Goals as goal

pub returns-in-Err-clause-ended : goal.returns-in-Err-clause-ended
returns-in-Err-clause-ended g c sunk after old new_ status said = no_memory_made c.args.name.now _ _ sunk after old new_ status c.requires.idle said

pub make_child-made-requires-clause-sector : goal.make_child-made-requires-clause-sector
make_child-made-requires-clause-sector g c = (leaf_served c.leaf_of-leaf.result.now _ (subst (BeginsWith c.leaf_of-leaf.result.now) c.as_slice.ensures c.leaf_of-leaf.ensures) c.in-Ok-open_parent.ensures.served).sector

pub returns-in-Ok-open_parent-clause-ended : goal.returns-in-Ok-open_parent-clause-ended
returns-in-Ok-open_parent-clause-ended g c sunk after old new_ status said =
    child_ended c.args.name.now _ _ c.args.parent.now c.args.block _ c.leaf_of-leaf.result.now _ _ _ _ sunk after old new_ status c.make_child-made.result c.in-Ok.ensures.0 c.in-Ok.ensures.1
    (record {
      looked = follows_for _ c.args.parent.now _ _ c.in-Ok.ensures.1 (followed _ _ _ c.in-Ok-open_parent.ensures.leaves c.in-Ok-open_parent.ensures.moments);
      faults = c.in-Ok-open_parent.ensures.leaves.has.quiet;
      drawn = refl;
      idle = c.in-Ok-open_parent.ensures.leaves.has.idle;
      safely = parent_safely c.args.name.now c.args.parent.now c.args.block _ _ (safely_for _ c.args.parent.now _ _ c.in-Ok.ensures.1 c.in-Ok-open_parent.ensures.moments);
      healthy = c.in-Ok-open_parent.ensures.leaves.has.healthy;
    })
    (subst (BeginsWith c.leaf_of-leaf.result.now) c.as_slice.ensures c.leaf_of-leaf.ensures) c.in-Ok-open_parent.ensures.answer c.as_slice-shown.ensures.value c.make_child-made.ensures
    (said_of_file c.args.name.now sunk after old new_ status c.make_child-made.result c.of_file.result c.of_file.ensures said)

pub returns-in-Ok-open_parent-clause-untold : goal.returns-in-Ok-open_parent-clause-untold
returns-in-Ok-open_parent-clause-untold g c =
    untold_by _ _ _ _ c.make_child-made.result c.of_file.result c.of_file.ensures c.make_child-made.ensures.1.answers c.in-Ok-open_parent.ensures.leaves.has.untold

pub returns-in-Ok-open_parent-clause-typed : goal.returns-in-Ok-open_parent-clause-typed
returns-in-Ok-open_parent-clause-typed g c =
    typed_by _ c.of_file.result c.args.parent.now _ c.in-Ok.ensures.1 _ c.leaf_of-leaf.result.now (subst (BeginsWith c.leaf_of-leaf.result.now) c.as_slice.ensures c.leaf_of-leaf.ensures) c.are_types.ensures c.in-Ok-open_parent.ensures.answer

pub returns-clause-ended : goal.returns-clause-ended
returns-clause-ended g c sunk after old new_ status said =
    parent_refused c.args.name.now _ c.args.parent.now c.args.block _ _ sunk after old new_ status (meaning_of_chain c.in-Err-open_parent.refusal) c.in-Ok.ensures.1 c.in-Err-open_parent.ensures.leaves c.in-Err-open_parent.ensures.moments refl
    c.in-Err-open_parent.ensures.answer (is_of_chain c.in-Err-open_parent.refusal) said
