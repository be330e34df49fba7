use Rattle.std.proofs.Common.{◌∙◌}
use Rattle.script_session.proofs.LeafScripts.{leaf_merge_ran}
use Rattle.script_session.proofs.session.run_leaf_merge.Goals as goal

pub returns-in-Ok-clause-ran : goal.returns-in-Ok-clause-ran
returns-in-Ok-clause-ran g c =
    let start = c.in-Ok.ensures in
    leaf_merge_ran c.args.files.now _ (g.S.Store.disk c.args.store) _ _ c.requires.files
    (record { events = start.new.0; broken = start.new.1; noted = start.new.2 ∙ c.new.ensures; told = tt; sector = start.sound.sector }) start.started
    _ c.args.lines.now _ _ _ _ c.requires.few c.requires.slot c.run_to_end-store.ensures
