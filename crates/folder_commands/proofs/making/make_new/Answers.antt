use Rattle.std.proofs.Common.{ap}
use Rattle.command_line.specs.Requests.{plain_file}
use Rattle.folder_commands.proofs.Made.{dynamic_ended, fixed_ended, no_memory_made}
use Rattle.folder_commands.proofs.Said.{said_of_file, untold_by}
use Rattle.folder_commands.proofs.making.make_new.Goals as goal

pub returns-in-Err-clause-ended : goal.returns-in-Err-clause-ended
returns-in-Err-clause-ended g c sunk after old new_ status said = no_memory_made c.args.name.now (plain_file c.args.file) _ sunk after old new_ status c.requires.idle said

pub returns-in-Fixed-clause-ended : goal.returns-in-Fixed-clause-ended
returns-in-Fixed-clause-ended g c sunk after old new_ status said =
    fixed_ended c.args.name.now (plain_file c.args.file) _ c.requires.idle _ sunk after old new_ status c.make_fixed-made.result (said_of_file c.args.name.now sunk after old new_ status c.make_fixed-made.result c.of_file.result c.of_file.ensures said)
    c.in-Ok.own c.in-Fixed.sectors c.in-Fixed.block c.in-Ok.ensures (ap plain_file c.in-Fixed.is) c.make_fixed-made.ensures

pub returns-in-Fixed-clause-untold : goal.returns-in-Fixed-clause-untold
returns-in-Fixed-clause-untold g c = untold_by _ _ _ _ c.make_fixed-made.result c.of_file.result c.of_file.ensures c.make_fixed-made.ensures.1.answers (λ none. none)

pub returns-in-Dynamic-clause-ended : goal.returns-in-Dynamic-clause-ended
returns-in-Dynamic-clause-ended g c sunk after old new_ status said =
    dynamic_ended c.args.name.now (plain_file c.args.file) _ c.requires.idle _ sunk after old new_ status c.make_dynamic-made.result
    (said_of_file c.args.name.now sunk after old new_ status c.make_dynamic-made.result c.of_file-in-Dynamic.result c.of_file-in-Dynamic.ensures said)
    c.in-Ok.own c.in-Dynamic.sectors c.in-Dynamic.block c.in-Ok.ensures (ap plain_file c.in-Dynamic.is) c.make_dynamic-made.ensures

pub returns-in-Dynamic-clause-untold : goal.returns-in-Dynamic-clause-untold
returns-in-Dynamic-clause-untold g c = untold_by _ _ _ _ c.make_dynamic-made.result c.of_file-in-Dynamic.result c.of_file-in-Dynamic.ensures c.make_dynamic-made.ensures.1.answers (λ none. none)
