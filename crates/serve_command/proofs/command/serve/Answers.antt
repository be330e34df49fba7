use Rattle.std.proofs.Common.{refl}
use Rattle.std.specs.Prelude.{option_map}
use Rattle.script.specs.declared.form.ScriptKind.TheVariants as kinds
use Rattle.printing.specs.declared.status.Status.TheVariants.{NoMemory}
use Rattle.command_base.specs.Ends.{HasMerge}
use Rattle.serve_command.specs.Serves.{unread}
use Rattle.serve_command.proofs.ServedRuns.{leaf_serves, leaf_serves_ends, serve_told}
use Rattle.steps_command.proofs.Stepped.{none_taken, refused_ends, refused_runs, unread_ends, unread_runs, where_some}
use Rattle.serve_command.proofs.command.serve.Goals as goal

pub returns-in-Err-clause-runs : goal.returns-in-Err-clause-runs
returns-in-Err-clause-runs g c = unread (unread_runs kinds.Serve c.args.leaf.now (HasMerge (option_map (λ s. s.now) c.args.merge)) _ _ _ refl refl NoMemory _ c.out_of_memory.ensures refl (none_taken (g.S.Source.left c.args.input.now)))

pub returns-in-Err-clause-ends : goal.returns-in-Err-clause-ends
returns-in-Err-clause-ends g c = unread_ends kinds.Serve c.args.leaf.now (HasMerge (option_map (λ s. s.now) c.args.merge)) _ _ _ refl refl c.requires.idle NoMemory _ c.out_of_memory.ensures (λ e. cc) (λ e. refl)

pub returns-in-Err-script_from-clause-runs : goal.returns-in-Err-script_from-clause-runs
returns-in-Err-script_from-clause-runs g c =
    let e = c.in-Err-script_from.ensures in
    unread (refused_runs kinds.Serve c.args.leaf.now (HasMerge (option_map (λ s. s.now) c.args.merge)) _ _ _ refl refl c.in-Err-script_from.refusal e.read e.left e.count c.refuse_script.ensures)

pub returns-in-Err-script_from-clause-ends : goal.returns-in-Err-script_from-clause-ends
returns-in-Err-script_from-clause-ends g c =
    let e = c.in-Err-script_from.ensures in
    refused_ends kinds.Serve c.args.leaf.now (HasMerge (option_map (λ s. s.now) c.args.merge)) _ _ _ refl refl c.requires.idle c.in-Err-script_from.refusal e.count c.refuse_script.ensures

pub returns-clause-runs : goal.returns-clause-runs
returns-clause-runs g c =
    let e = c.in-Ok-script_from.ensures in
    let ran = serve_told c.in-Ok.names.0 c.args.leaf.now c.in-Ok.names.1 (option_map (λ s. s.now) c.args.merge) c.as_slice.result.now c.in-Ok-script_from.script _ _ _ _ c.serve_leaf-run.result c.in-Ok.ensures.leaf c.in-Ok.ensures.merge c.as_slice.ensures c.serve_leaf-run.ensures in
    leaf_serves c.args.leaf.now (option_map (λ s. s.now) c.args.merge) _ _ _ c.requires.idle e.count (where_some _ _ e.left) c.in-Ok-script_from.script (where_some _ _ e.read) c.serve_leaf-run.result ran c.show_served.ensures

pub returns-clause-ends : goal.returns-clause-ends
returns-clause-ends g c =
    let e = c.in-Ok-script_from.ensures in
    let ran = serve_told c.in-Ok.names.0 c.args.leaf.now c.in-Ok.names.1 (option_map (λ s. s.now) c.args.merge) c.as_slice.result.now c.in-Ok-script_from.script _ _ _ _ c.serve_leaf-run.result c.in-Ok.ensures.leaf c.in-Ok.ensures.merge c.as_slice.ensures c.serve_leaf-run.ensures in
    leaf_serves_ends c.args.leaf.now (option_map (λ s. s.now) c.args.merge) _ _ _ c.requires.idle e.count (where_some _ _ e.left) c.in-Ok-script_from.script (where_some _ _ e.read) c.serve_leaf-run.result ran c.show_served.ensures
