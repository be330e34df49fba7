use Rattle.std.proofs.Common.{Some, ◌≤◌, ◌^◌, length, subst, sym, ◌∙◌}
use Rattle.make_file.specs.Makes.{outside}
use Rattle.load_calls.specs.Load.{load_lines}
use Rattle.load_calls.proofs.Prepared.{few_lines}
use Rattle.load_command.specs.Commands.{load_name}
use Rattle.load_command.proofs.Sessions.{none_served}
use Rattle.load_command.proofs.Stepping.{run_stops, run_told, run_untold}
use Rattle.load_command.proofs.loading.run_guests.Goals as goal

pub serve_lines-requires-clause-lines : goal.serve_lines-requires-clause-lines
serve_lines-requires-clause-lines g c κs within = subst (λ ls. length ls ≤ 2 ^ 20) (sym (c.as_slice.ensures ∙ c.in-Ok.ensures)) (few_lines c.args.seed)

pub returns-clause-done : goal.returns-clause-done
returns-clause-done g c = run_told c.args.seed c.name_of.result.now c.name_of-2.result.now c.as_slice.result.now _ _ c.serve_lines.result c.name_of.ensures.value c.name_of-2.ensures.value (c.as_slice.ensures ∙ c.in-Ok.ensures) c.serve_lines.ensures.served

pub returns-clause-stopped : goal.returns-clause-stopped
returns-clause-stopped g c = run_untold c.args.seed c.name_of.result.now c.name_of-2.result.now c.as_slice.result.now _ _ c.serve_lines.result c.name_of.ensures.value c.name_of-2.ensures.value (c.as_slice.ensures ∙ c.in-Ok.ensures) c.serve_lines.ensures.stopped

pub returns-in_default-clause-stopped : goal.returns-in_default-clause-stopped
returns-in_default-clause-stopped g c =
    let o = outside (g.H.Host.hosted c.args.host.now) (g.I.Ids.drawn c.args.ids.now) in
    run_stops c.args.seed o o c.unserved.result (none_served (load_name 4) (Some (load_name 2)) (load_lines c.args.seed) o c.unserved.result c.requires.idle c.unserved.ensures)
