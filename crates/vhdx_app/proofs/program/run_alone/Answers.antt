use Rattle.std.proofs.Common.{Some, ap, refl, ◌∙◌}
use Rattle.std.specs.Prelude.{option_map}
use Rattle.command_line.specs.Words.{help_text, version_text}
use Rattle.command_line.specs.declared.request.Request.TheVariants.{Check, Dump, Info, Load, Make, Help, Nbd, Repair, Serve, Steps, Version}
use Rattle.command_base.specs.Worlds.{World, world}
use Rattle.printing.specs.declared.status.Status.TheVariants.{Done}
use Rattle.vhdx_app.proofs.Running.{command_ends, made_ends, follows_first, followed_ends, merge_ends, none_alone, sent_ends, serve_alone, told_alone, usage_ends, wants_alone}
use Rattle.command_base.proofs.Home.{home_looked, home_repaired}
use Rattle.printing.proofs.Saying.{text_sent}
use Rattle.vhdx_app.proofs.program.run_alone.Goals as goal

pub returns-in-Ok-Some-Dump : goal.returns-in-Ok-Some-Dump
returns-in-Ok-Some-Dump g c =
    let asked = c.in-Ok-Some-Dump in
    let before : World = world (g.H.Host.hosted c.args.host.now) (g.I.Ids.drawn c.args.ids.now) (g.S.Source.left c.args.input.now) (g.S.Source.faults c.args.input.now) (g.K.Sink.written c.args.out.now) (g.K.Sink.faults c.args.out.now) in
    let now : World = world (g.H.Host.hosted c.dump.new.host) (g.I.Ids.drawn c.args.ids.now) (g.S.Source.left c.args.input.now) (g.S.Source.faults c.args.input.now) (g.K.Sink.written c.dump.new.out) (g.K.Sink.faults c.dump.new.out) in
    told_alone _ _ asked.ensures (Dump asked.leaf asked.first asked.count) (asked.field-0-is ∙ ap Some asked.field-0-0-is) before now _
    (record { printed = c.dump.ensures.ended.printed; follows = follows_first asked.leaf.now before now _ c.dump.ensures.stays c.dump.ensures.replayed c.dump.ensures.moments refl refl })
    (followed_ends before now _ c.requires refl asked.leaf.now _ c.dump.ensures.ended c.dump.ensures.stays c.dump.ensures.idle) (λ starts. starts)

pub returns-in-Ok-Some-Info : goal.returns-in-Ok-Some-Info
returns-in-Ok-Some-Info g c =
    let asked = c.in-Ok-Some-Info in
    let before : World = world (g.H.Host.hosted c.args.host.now) (g.I.Ids.drawn c.args.ids.now) (g.S.Source.left c.args.input.now) (g.S.Source.faults c.args.input.now) (g.K.Sink.written c.args.out.now) (g.K.Sink.faults c.args.out.now) in
    let now : World = world (g.H.Host.hosted c.info.new.host) (g.I.Ids.drawn c.args.ids.now) (g.S.Source.left c.args.input.now) (g.S.Source.faults c.args.input.now) (g.K.Sink.written c.info.new.out) (g.K.Sink.faults c.info.new.out) in
    told_alone _ _ asked.ensures (Info asked.leaf) (asked.field-0-is ∙ ap Some asked.field-0-0-is) before now _
    (record { printed = c.info.ensures.ended.printed; follows = follows_first asked.leaf.now before now _ c.info.ensures.stays c.info.ensures.replayed c.info.ensures.moments refl refl })
    (followed_ends before now _ c.requires refl asked.leaf.now _ c.info.ensures.ended c.info.ensures.stays c.info.ensures.idle) (λ starts. starts)

pub returns-in-Ok-Some-Make : goal.returns-in-Ok-Some-Make
returns-in-Ok-Some-Make g c =
    let asked = c.in-Ok-Some-Make in
    let before : World = world (g.H.Host.hosted c.args.host.now) (g.I.Ids.drawn c.args.ids.now) (g.S.Source.left c.args.input.now) (g.S.Source.faults c.args.input.now) (g.K.Sink.written c.args.out.now) (g.K.Sink.faults c.args.out.now) in
    let now : World = world (g.H.Host.hosted c.make.new.host) (g.I.Ids.drawn c.make.new.ids) (g.S.Source.left c.args.input.now) (g.S.Source.faults c.args.input.now) (g.K.Sink.written c.make.new.out) (g.K.Sink.faults c.make.new.out) in
    told_alone _ _ asked.ensures (Make asked.name asked.file) (asked.field-0-is ∙ ap Some asked.field-0-0-is) before now _
    (record { printed = c.make.ensures.ended.printed; kept = c.make.ensures.kept; others = c.make.ensures.others; moments = c.make.ensures.moments; unread = refl })
    (made_ends before now _ c.requires refl _ _ c.make.ensures) (λ starts. starts)

pub returns-in-Ok-Some-Steps : goal.returns-in-Ok-Some-Steps
returns-in-Ok-Some-Steps g c =
    let asked = c.in-Ok-Some-Steps in
    let is = asked.field-0-is ∙ ap Some asked.field-0-0-is in
    told_alone _ _ asked.ensures (Steps asked.leaf asked.merge asked.read_only) is _ _ _ c.steps.ensures.runs
    (merge_ends _ _ asked.ensures asked.leaf.now (option_map (λ s. s.now) asked.merge) asked.read_only (Steps asked.leaf asked.merge asked.read_only) is refl _ _ _ c.steps.ensures.ends) (λ starts. starts)

pub returns-in-Ok-Some-Check : goal.returns-in-Ok-Some-Check
returns-in-Ok-Some-Check g c =
    let asked = c.in-Ok-Some-Check in
    let before : World = world (g.H.Host.hosted c.args.host.now) (g.I.Ids.drawn c.args.ids.now) (g.S.Source.left c.args.input.now) (g.S.Source.faults c.args.input.now) (g.K.Sink.written c.args.out.now) (g.K.Sink.faults c.args.out.now) in
    let now : World = world (g.H.Host.hosted c.check.new.host) (g.I.Ids.drawn c.args.ids.now) (g.S.Source.left c.args.input.now) (g.S.Source.faults c.args.input.now) (g.K.Sink.written c.check.new.out) (g.K.Sink.faults c.check.new.out) in
    told_alone _ _ asked.ensures (Check asked.name) (asked.field-0-is ∙ ap Some asked.field-0-0-is) before now _
    (record { printed = c.check.ensures.ended.printed; looks = c.check.ensures.looks; replayed = c.check.ensures.replayed; moments = c.check.ensures.moments; undrawn = refl; unread = refl })
    (command_ends before now _ c.requires refl _ c.check.ensures.ended (home_looked asked.name.now before.host.folder now.host.folder c.requires c.check.ensures.looks) c.check.ensures.idle) (λ starts. starts)

pub returns-in-Ok-Some-Repair : goal.returns-in-Ok-Some-Repair
returns-in-Ok-Some-Repair g c =
    let asked = c.in-Ok-Some-Repair in
    let before : World = world (g.H.Host.hosted c.args.host.now) (g.I.Ids.drawn c.args.ids.now) (g.S.Source.left c.args.input.now) (g.S.Source.faults c.args.input.now) (g.K.Sink.written c.args.out.now) (g.K.Sink.faults c.args.out.now) in
    let now : World = world (g.H.Host.hosted c.repair.new.host) (g.I.Ids.drawn c.repair.new.ids) (g.S.Source.left c.args.input.now) (g.S.Source.faults c.args.input.now) (g.K.Sink.written c.repair.new.out) (g.K.Sink.faults c.repair.new.out) in
    told_alone _ _ asked.ensures (Repair asked.name) (asked.field-0-is ∙ ap Some asked.field-0-0-is) before now _
    (record { printed = c.repair.ensures.ended.printed; kept = c.repair.ensures.kept; only = c.repair.ensures.only; moments = c.repair.ensures.moments; drawn = c.repair.ensures.drawn; unread = refl })
    (command_ends before now _ c.requires refl _ c.repair.ensures.ended (home_repaired asked.name.now before.host.folder now.host.folder c.requires c.repair.ensures.only) c.repair.ensures.idle) (λ starts. starts)

pub returns-in-Ok-Some-Help : goal.returns-in-Ok-Some-Help
returns-in-Ok-Some-Help g c =
    let asked = c.in-Ok-Some-Help in
    let before : World = world (g.H.Host.hosted c.args.host.now) (g.I.Ids.drawn c.args.ids.now) (g.S.Source.left c.args.input.now) (g.S.Source.faults c.args.input.now) (g.K.Sink.written c.args.out.now) (g.K.Sink.faults c.args.out.now) in
    let now : World = world (g.H.Host.hosted c.args.host.now) (g.I.Ids.drawn c.args.ids.now) (g.S.Source.left c.args.input.now) (g.S.Source.faults c.args.input.now) (g.K.Sink.written c.deliver.new.out) (g.K.Sink.faults c.deliver.new.out) in
    told_alone _ _ asked.ensures Help (asked.field-0-is ∙ ap Some asked.field-0-0-is) before now _
    (record { printed = record { meant = Done; text = help_text; said = refl; sent = text_sent _ _ _ _ _ _ _ _ (c.as_bytes.ensures.value ∙ c.help.ensures) c.deliver.ensures }; stays = refl })
    (sent_ends _ _ _ _ _ _ _ _ _ c.requires Done _ (λ e. cc) c.deliver.ensures) (λ starts. starts)

pub returns-in-Ok-Some-Version : goal.returns-in-Ok-Some-Version
returns-in-Ok-Some-Version g c =
    let asked = c.in-Ok-Some-Version in
    let before : World = world (g.H.Host.hosted c.args.host.now) (g.I.Ids.drawn c.args.ids.now) (g.S.Source.left c.args.input.now) (g.S.Source.faults c.args.input.now) (g.K.Sink.written c.args.out.now) (g.K.Sink.faults c.args.out.now) in
    let now : World = world (g.H.Host.hosted c.args.host.now) (g.I.Ids.drawn c.args.ids.now) (g.S.Source.left c.args.input.now) (g.S.Source.faults c.args.input.now) (g.K.Sink.written c.deliver-in-Ok-Some-Version.new.out) (g.K.Sink.faults c.deliver-in-Ok-Some-Version.new.out) in
    told_alone _ _ asked.ensures Version (asked.field-0-is ∙ ap Some asked.field-0-0-is) before now _
    (record { printed = record { meant = Done; text = version_text; said = refl; sent = text_sent _ _ _ _ _ _ _ _ (c.as_bytes-in-Ok-Some-Version.ensures.value ∙ c.version.ensures) c.deliver-in-Ok-Some-Version.ensures }; stays = refl })
    (sent_ends _ _ _ _ _ _ _ _ _ c.requires Done _ (λ e. cc) c.deliver-in-Ok-Some-Version.ensures) (λ starts. starts)

pub returns-in-Ok-None : goal.returns-in-Ok-None
returns-in-Ok-None g c = none_alone _ _ c.in-Ok-None.ensures c.in-Ok-None.field-0-is _ _ refl (usage_ends _ _ _ _ _ _ _ c.requires refl)

pub returns-in-Err : goal.returns-in-Err
returns-in-Err g c = wants_alone _ _ _ _ _ _ _ _ _ c.requires _ c.want_of_words.ensures

pub returns-in-Ok-Some-Serve : goal.returns-in-Ok-Some-Serve
returns-in-Ok-Some-Serve g c =
    let asked = c.in-Ok-Some-Serve in
    serve_alone _ _ asked.ensures (Serve asked.field-0-0-0 asked.field-0-0-1 asked.field-0-0-2) (asked.field-0-is ∙ ap Some asked.field-0-0-is) tt _ _ refl

pub returns-in-Ok-Some-Load : goal.returns-in-Ok-Some-Load
returns-in-Ok-Some-Load g c =
    let asked = c.in-Ok-Some-Load in
    serve_alone _ _ asked.ensures (Load asked.field-0-0-0) (asked.field-0-is ∙ ap Some asked.field-0-0-is) tt _ _ refl

pub returns-in-Ok-Some-Nbd : goal.returns-in-Ok-Some-Nbd
returns-in-Ok-Some-Nbd g c =
    let asked = c.in-Ok-Some-Nbd in
    serve_alone _ _ asked.ensures (Nbd asked.field-0-0-0 asked.field-0-0-1 asked.field-0-0-2) (asked.field-0-is ∙ ap Some asked.field-0-0-is) tt _ _ refl
