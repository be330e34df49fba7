use Rattle.std.proofs.Common.{◌∙◌}
use Rattle.script_session.proofs.Scripts.{script_ran}
use Rattle.script_session.proofs.session.run_script.Goals as goal

pub returns-in-Ok-clause-ran : goal.returns-in-Ok-clause-ran
returns-in-Ok-clause-ran g c =
    let start = c.in-Ok.ensures in
    script_ran c.args.mode c.args.files.now _ c.args.lines.now _ _ _ _ (g.S.Store.disk c.args.store) _ _ _ c.run_to_end-store.ensures start.started c.requires.files c.requires.few
    (record { events = start.new.0; broken = start.new.1; noted = start.new.2 ∙ c.new.ensures; told = tt; sector = start.sound.sector; geometry = start.geometry })
