use Rattle.std.proofs.Common.{refl}
use Rattle.make_file.specs.Makes.{Outside, outside}
use Rattle.load_command.proofs.Ending.{as_have, as_within, idle_mid, none_silent, stopped_ends, stopped_runs, summed_ends, summed_runs}
use Rattle.load_command.proofs.loading.load.Goals as goal

pub show_load-requires : goal.show_load-requires
show_load-requires g c =
    let before : Outside = outside (g.H.Host.hosted c.args.host.now) (g.I.Ids.drawn c.args.ids.now) in
    let mid : Outside = outside (g.H.Host.hosted c.run_all.new.host) (g.I.Ids.drawn c.run_all.new.ids) in
    let some = c.in-Ok-Some in
    record { idle = idle_mid c.args.seed before mid some.tally (as_have c.args.seed _ before mid _ some.tally c.load_commands-commands.ensures some.field-0-is some.ensures.done) c.requires.idle }

pub unreachable-unreachable : goal.unreachable-unreachable
unreachable-unreachable g c =
    let before : Outside = outside (g.H.Host.hosted c.args.host.now) (g.I.Ids.drawn c.args.ids.now) in
    let mid : Outside = outside (g.H.Host.hosted c.run_all.new.host) (g.I.Ids.drawn c.run_all.new.ids) in
    none_silent c.args.seed _ before mid _ c.load_commands-commands.ensures c.in-Ok-None.field-0-is c.in-Ok-None.ensures.done

pub returns-in-Ok-Some-clause-runs : goal.returns-in-Ok-Some-clause-runs
returns-in-Ok-Some-clause-runs g c left rises =
    let before : Outside = outside (g.H.Host.hosted c.args.host.now) (g.I.Ids.drawn c.args.ids.now) in
    let mid : Outside = outside (g.H.Host.hosted c.run_all.new.host) (g.I.Ids.drawn c.run_all.new.ids) in
    let now : Outside = outside (g.H.Host.hosted c.show_load.new.host) (g.I.Ids.drawn c.run_all.new.ids) in
    let some = c.in-Ok-Some in
    let laws = c.loads_end_alike.ensures in
    summed_runs (record { alone = laws.alone; ends = laws.ends; count = laws.count; lines = laws.lines }) c.args.seed before mid now some.tally c.requires.idle
    (as_have c.args.seed _ before mid _ some.tally c.load_commands-commands.ensures some.field-0-is some.ensures.done) refl left rises _ _ _ _ _ c.show_load.ensures.ended c.show_load.ensures.follows c.show_load.ensures.moments

pub returns-in-Ok-Some-clause-ends : goal.returns-in-Ok-Some-clause-ends
returns-in-Ok-Some-clause-ends g c left rises =
    let before : Outside = outside (g.H.Host.hosted c.args.host.now) (g.I.Ids.drawn c.args.ids.now) in
    let mid : Outside = outside (g.H.Host.hosted c.run_all.new.host) (g.I.Ids.drawn c.run_all.new.ids) in
    let now : Outside = outside (g.H.Host.hosted c.show_load.new.host) (g.I.Ids.drawn c.run_all.new.ids) in
    let some = c.in-Ok-Some in
    let laws = c.loads_end_alike.ensures in
    summed_ends (record { alone = laws.alone; ends = laws.ends; count = laws.count; lines = laws.lines }) c.args.seed before mid now some.tally c.requires.idle
    (as_have c.args.seed _ before mid _ some.tally c.load_commands-commands.ensures some.field-0-is some.ensures.done) refl left rises _ _ _ _ _ c.show_load.ensures.ended c.show_load.ensures.follows c.show_load.ensures.idle

pub returns-in-Err-clause-runs : goal.returns-in-Err-clause-runs
returns-in-Err-clause-runs g c left rises =
    let before : Outside = outside (g.H.Host.hosted c.args.host.now) (g.I.Ids.drawn c.args.ids.now) in
    let now : Outside = outside (g.H.Host.hosted c.run_all.new.host) (g.I.Ids.drawn c.run_all.new.ids) in
    stopped_runs c.args.seed before now c.in-Err.stop (as_within c.args.seed _ before now c.in-Err.stop c.load_commands-commands.ensures c.in-Err.ensures.stopped) left rises _ _ _ _ _ c.say_stop.ensures

pub returns-in-Err-clause-ends : goal.returns-in-Err-clause-ends
returns-in-Err-clause-ends g c left rises =
    let before : Outside = outside (g.H.Host.hosted c.args.host.now) (g.I.Ids.drawn c.args.ids.now) in
    let now : Outside = outside (g.H.Host.hosted c.run_all.new.host) (g.I.Ids.drawn c.run_all.new.ids) in
    stopped_ends c.args.seed before now c.in-Err.stop (as_within c.args.seed _ before now c.in-Err.stop c.load_commands-commands.ensures c.in-Err.ensures.stopped) left rises _ _ _ _ _ c.say_stop.ensures
