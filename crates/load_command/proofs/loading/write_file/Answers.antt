use Rattle.std.proofs.Common.{None, ◌≤◌, ◌^◌, length, subst, sym, ◌∙◌}
use Rattle.make_file.specs.Makes.{outside}
use Rattle.load_calls.specs.Load.{preparing_lines}
use Rattle.load_calls.proofs.Prepared.{few_preparing}
use Rattle.load_command.specs.Commands.{load_name}
use Rattle.load_command.proofs.Sessions.{none_served}
use Rattle.load_command.proofs.Stepping.{write_stops, write_told, write_untold}
use Rattle.load_command.proofs.loading.write_file.Goals as goal

pub serve_lines-requires-clause-lines : goal.serve_lines-requires-clause-lines
serve_lines-requires-clause-lines g c κs within = subst (λ ls. length ls ≤ 2 ^ 20) (sym (c.as_slice.ensures ∙ c.in-Ok.ensures)) (few_preparing c.args.seed c.args.file)

pub returns-clause-done : goal.returns-clause-done
returns-clause-done g c = write_told c.args.seed c.args.file c.name_of.result.now c.as_slice.result.now _ _ c.serve_lines.result c.name_of.ensures.value (c.as_slice.ensures ∙ c.in-Ok.ensures) c.serve_lines.ensures.served

pub returns-clause-stopped : goal.returns-clause-stopped
returns-clause-stopped g c = write_untold c.args.seed c.args.file c.name_of.result.now c.as_slice.result.now _ _ c.serve_lines.result c.name_of.ensures.value (c.as_slice.ensures ∙ c.in-Ok.ensures) c.serve_lines.ensures.stopped

pub returns-in_default-clause-stopped : goal.returns-in_default-clause-stopped
returns-in_default-clause-stopped g c =
    let o = outside (g.H.Host.hosted c.args.host.now) (g.I.Ids.drawn c.args.ids.now) in
    write_stops c.args.seed c.args.file o o c.unserved.result (none_served (load_name c.args.file) None (preparing_lines c.args.seed c.args.file) o c.unserved.result c.requires.idle c.unserved.ensures)
