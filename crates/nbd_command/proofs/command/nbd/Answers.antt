use Rattle.std.proofs.Common.{refl}
use Rattle.std.specs.Prelude.{option_map}
use Rattle.nbd_command.proofs.NbdRuns.{client_at, none_runs_so, offered_as, refused_at}
use Rattle.nbd_command.proofs.command.nbd.Goals as goal

pub returns-in-Err-clause-runs : goal.returns-in-Err-clause-runs
returns-in-Err-clause-runs g c = (none_runs_so c.args.leaf.now (option_map (λ s. s.now) c.args.merge) _ _ c.requires.idle refl refl refl).0

pub returns-in-Err-clause-ends : goal.returns-in-Err-clause-ends
returns-in-Err-clause-ends g c = (none_runs_so c.args.leaf.now (option_map (λ s. s.now) c.args.merge) _ _ c.requires.idle refl refl refl).1

pub returns-in-Ok-serve_leaf-clause-runs : goal.returns-in-Ok-serve_leaf-clause-runs
returns-in-Ok-serve_leaf-clause-runs g c = (client_at c.args.leaf.now (option_map (λ s. s.now) c.args.merge) _ _ c.requires.idle c.in-Ok-serve_leaf.run' c.serve_leaf.result c.status_of.result c.in-Ok-serve_leaf.is c.status_of.ensures
    (offered_as c.in-Ok.names.0 c.args.leaf.now c.in-Ok.names.1 (option_map (λ s. s.now) c.args.merge) _ _ _ _ _ _ c.serve_leaf.result c.in-Ok.ensures.leaf c.in-Ok.ensures.merge c.serve_leaf.ensures)).0

pub returns-in-Ok-serve_leaf-clause-ends : goal.returns-in-Ok-serve_leaf-clause-ends
returns-in-Ok-serve_leaf-clause-ends g c = (client_at c.args.leaf.now (option_map (λ s. s.now) c.args.merge) _ _ c.requires.idle c.in-Ok-serve_leaf.run' c.serve_leaf.result c.status_of.result c.in-Ok-serve_leaf.is c.status_of.ensures
    (offered_as c.in-Ok.names.0 c.args.leaf.now c.in-Ok.names.1 (option_map (λ s. s.now) c.args.merge) _ _ _ _ _ _ c.serve_leaf.result c.in-Ok.ensures.leaf c.in-Ok.ensures.merge c.serve_leaf.ensures)).1

pub returns-clause-runs : goal.returns-clause-runs
returns-clause-runs g c = (refused_at c.args.leaf.now (option_map (λ s. s.now) c.args.merge) _ _ c.requires.idle c.in-Err-serve_leaf.refusal c.serve_leaf.result c.unbegun.result c.in-Err-serve_leaf.is c.unbegun.ensures
    (offered_as c.in-Ok.names.0 c.args.leaf.now c.in-Ok.names.1 (option_map (λ s. s.now) c.args.merge) _ _ _ _ _ _ c.serve_leaf.result c.in-Ok.ensures.leaf c.in-Ok.ensures.merge c.serve_leaf.ensures)).0

pub returns-clause-ends : goal.returns-clause-ends
returns-clause-ends g c = (refused_at c.args.leaf.now (option_map (λ s. s.now) c.args.merge) _ _ c.requires.idle c.in-Err-serve_leaf.refusal c.serve_leaf.result c.unbegun.result c.in-Err-serve_leaf.is c.unbegun.ensures
    (offered_as c.in-Ok.names.0 c.args.leaf.now c.in-Ok.names.1 (option_map (λ s. s.now) c.args.merge) _ _ _ _ _ _ c.serve_leaf.result c.in-Ok.ensures.leaf c.in-Ok.ensures.merge c.serve_leaf.ensures)).1
