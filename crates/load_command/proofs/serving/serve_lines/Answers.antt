use Rattle.std.specs.Prelude.{option_map}
use Rattle.make_file.specs.Makes.{outside}
use Rattle.load_command.proofs.Sessions.{none_served, served_told, served_untold}
use Rattle.load_command.proofs.serving.serve_lines.Goals as goal

pub returns-in-Err-clause-stopped : goal.returns-in-Err-clause-stopped
returns-in-Err-clause-stopped g c = none_served c.args.leaf.now (option_map (λ s. s.now) c.args.merge) c.args.lines.now (outside (g.H.Host.hosted c.args.host.now) (g.I.Ids.drawn c.args.ids.now)) c.unserved.result c.requires.idle c.unserved.ensures

pub returns-clause-served : goal.returns-clause-served
returns-clause-served g c =
    served_told c.args.leaf.now c.in-Ok.names.0 (option_map (λ s. s.now) c.args.merge) c.in-Ok.names.1 c.args.lines.now (outside (g.H.Host.hosted c.args.host.now) (g.I.Ids.drawn c.args.ids.now)) (outside (g.H.Host.hosted c.serve_leaf.new.host) (g.I.Ids.drawn c.serve_leaf.new.ids))
    c.serve_leaf.result c.judge.result c.requires.idle c.in-Ok.ensures.leaf c.in-Ok.ensures.merge c.serve_leaf.ensures c.judge.ensures.well

pub returns-clause-stopped : goal.returns-clause-stopped
returns-clause-stopped g c =
    served_untold c.args.leaf.now c.in-Ok.names.0 (option_map (λ s. s.now) c.args.merge) c.in-Ok.names.1 c.args.lines.now (outside (g.H.Host.hosted c.args.host.now) (g.I.Ids.drawn c.args.ids.now)) (outside (g.H.Host.hosted c.serve_leaf.new.host) (g.I.Ids.drawn c.serve_leaf.new.ids))
    c.serve_leaf.result c.judge.result c.requires.idle c.in-Ok.ensures.leaf c.in-Ok.ensures.merge c.serve_leaf.ensures c.judge.ensures.badly
