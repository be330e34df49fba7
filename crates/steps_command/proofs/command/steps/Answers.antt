use Rattle.std.proofs.Common.{refl}
use Rattle.std.specs.Prelude.{option_map}
use Rattle.script.specs.declared.form.ScriptKind.TheVariants as kinds
use Rattle.command_base.specs.Ends.{HasMerge}
use Rattle.steps_command.specs.Sessions.{mode_of}
use Rattle.steps_command.specs.Steps.{unread}
use Rattle.printing.specs.declared.status.Status.TheVariants.{NoMemory}
use Rattle.steps_command.proofs.Sessions.{leaf_ends, leaf_runs}
use Rattle.steps_command.proofs.Stepped.{leaf_told, none_taken, refused_ends, refused_runs, unread_ends, unread_runs, where_some}
use Rattle.steps_command.proofs.command.steps.Goals as goal

pub returns-in-Err-clause-runs : goal.returns-in-Err-clause-runs
returns-in-Err-clause-runs g c = unread (unread_runs kinds.Steps c.args.leaf.now (HasMerge (option_map (λ s. s.now) c.args.merge)) _ _ _ refl refl NoMemory _ c.out_of_memory.ensures refl (none_taken (g.S.Source.left c.args.input.now)))

pub returns-in-Err-clause-ends : goal.returns-in-Err-clause-ends
returns-in-Err-clause-ends g c = unread_ends kinds.Steps c.args.leaf.now (HasMerge (option_map (λ s. s.now) c.args.merge)) _ _ _ refl refl c.requires.idle NoMemory _ c.out_of_memory.ensures (λ e. cc) (λ e. refl)

pub returns-in-Err-script_from-clause-runs : goal.returns-in-Err-script_from-clause-runs
returns-in-Err-script_from-clause-runs g c =
    let e = c.in-Err-script_from.ensures in
    unread (refused_runs kinds.Steps c.args.leaf.now (HasMerge (option_map (λ s. s.now) c.args.merge)) _ _ _ refl refl c.in-Err-script_from.refusal e.read e.left e.count c.refuse_script.ensures)

pub returns-in-Err-script_from-clause-ends : goal.returns-in-Err-script_from-clause-ends
returns-in-Err-script_from-clause-ends g c =
    let e = c.in-Err-script_from.ensures in
    refused_ends kinds.Steps c.args.leaf.now (HasMerge (option_map (λ s. s.now) c.args.merge)) _ _ _ refl refl c.requires.idle c.in-Err-script_from.refusal e.count c.refuse_script.ensures

pub returns-clause-runs : goal.returns-clause-runs
returns-clause-runs g c =
    let e = c.in-Ok-script_from.ensures in
    let ran = leaf_told c.in-Ok.names.0 c.args.leaf.now c.in-Ok.names.1 (option_map (λ s. s.now) c.args.merge) c.mode_of-mode.result (mode_of c.args.read_only) c.as_slice.result.now c.in-Ok-script_from.script _ _ _ _ c.run_leaf-run.result c.in-Ok.ensures.leaf c.in-Ok.ensures.merge c.mode_of-mode.ensures c.as_slice.ensures c.run_leaf-run.ensures in
    leaf_runs c.args.leaf.now (option_map (λ s. s.now) c.args.merge) c.args.read_only _ _ _ c.requires.idle e.count (where_some _ _ e.left) c.in-Ok-script_from.script (where_some _ _ e.read) c.run_leaf-run.result ran c.show_run.ensures

pub returns-clause-ends : goal.returns-clause-ends
returns-clause-ends g c =
    let e = c.in-Ok-script_from.ensures in
    let ran = leaf_told c.in-Ok.names.0 c.args.leaf.now c.in-Ok.names.1 (option_map (λ s. s.now) c.args.merge) c.mode_of-mode.result (mode_of c.args.read_only) c.as_slice.result.now c.in-Ok-script_from.script _ _ _ _ c.run_leaf-run.result c.in-Ok.ensures.leaf c.in-Ok.ensures.merge c.mode_of-mode.ensures c.as_slice.ensures c.run_leaf-run.ensures in
    leaf_ends c.args.leaf.now (option_map (λ s. s.now) c.args.merge) c.args.read_only _ _ _ c.requires.idle e.count (where_some _ _ e.left) c.in-Ok-script_from.script (where_some _ _ e.read) c.run_leaf-run.result ran c.show_run.ensures
