use Rattle.std.proofs.Common.{◌≡◌, Ok, refl, subst}
use Rattle.store_model.specs.Disk.{WhereTold}
use Rattle.file_open.specs.Causes.{IfCause, cause_in, meaning_of}
use Rattle.link_rules.specs.Folders.{contents}
use Rattle.link_rules.specs.Touches.{TouchesSafely}
use Rattle.link_rules.proofs.Safe.{none_safely}
use Rattle.named_file.specs.Looks.{LooksIn}
use Rattle.store_model.specs.Folder.{Hosted}
use Rattle.link_rules.specs.Causes.{of_file}
use Rattle.command_base.specs.Causes.{of_chain}
use Rattle.command_base.specs.Checks.{IsReplayedAt, OnlyLooks}
use Rattle.folder_commands.proofs.Checked.{found_ended, found_in, left_idle, looks_left, looks_none, looks_replayed, no_memory_checked, no_memory_found, replayed_at, reported_found, unfound_ended}
use Rattle.command_base.proofs.Said.{idle_reported}
use Rattle.folder_commands.proofs.checking.check.Goals as goal

pub returns-in-Err-clause-ended : goal.returns-in-Err-clause-ended
returns-in-Err-clause-ended g c = no_memory_checked _ _ c.args.name.now _ _ _ _ _ refl c.out_of_memory.ensures

pub returns-in-Err-clause-looks : goal.returns-in-Err-clause-looks
returns-in-Err-clause-looks g c = looks_none c.args.name.now (g.H.Host.hosted c.args.host.now)

pub returns-in-Err-clause-moments : goal.returns-in-Err-clause-moments
returns-in-Err-clause-moments g c = none_safely (λ f other. other ≡ c.args.name.now) (g.H.Host.hosted c.args.host.now)

pub returns-in-Err-clause-replayed : goal.returns-in-Err-clause-replayed
returns-in-Err-clause-replayed g c shown = absurd (no_memory_found _ _ _ _ _ _ c.out_of_memory.ensures shown)

-- ---- what was found

pub returns-in-Ok-check_named-clause-ended : goal.returns-in-Ok-check_named-clause-ended
returns-in-Ok-check_named-clause-ended g c =
    let before : Hosted = g.H.Host.hosted c.args.host.now in
    let found = c.in-Ok-check_named.found in
    let rules = c.in-Ok-check_named.ensures.means in
    found_ended before _ c.args.name.now _ _ _ _ _ _
    (found_in before.folder c.args.name.now found rules.0 rules.1
    (subst (λ n. WhereTold before.folder (λ f. LooksIn (contents f) n (Ok found))) c.in-Ok.ensures c.in-Ok-check_named.ensures.answer))
    c.in-Ok-check_named.ensures.leaves.quiet (c.tell_findings.ensures rules.0 rules.1)

pub returns-in-Ok-check_named-clause-idle : goal.returns-in-Ok-check_named-clause-idle
returns-in-Ok-check_named-clause-idle g c fault = c.in-Ok-check_named.ensures.leaves.idle

pub returns-in-Ok-check_named-clause-looks : goal.returns-in-Ok-check_named-clause-looks
returns-in-Ok-check_named-clause-looks g c =
    let before : Hosted = g.H.Host.hosted c.args.host.now in
    let now : Hosted = g.H.Host.hosted c.check_named.new.host in
    subst (λ n. OnlyLooks n before.folder now.folder) c.in-Ok.ensures (looks_replayed c.in-Ok.own before now c.in-Ok-check_named.ensures.leaves c.in-Ok-check_named.ensures.moments)

pub returns-in-Ok-check_named-clause-moments : goal.returns-in-Ok-check_named-clause-moments
returns-in-Ok-check_named-clause-moments g c =
    subst (λ n. TouchesSafely (λ f other. other ≡ n) (g.H.Host.hosted c.args.host.now) (g.H.Host.hosted c.check_named.new.host)) c.in-Ok.ensures c.in-Ok-check_named.ensures.moments

pub returns-in-Ok-check_named-clause-replayed : goal.returns-in-Ok-check_named-clause-replayed
returns-in-Ok-check_named-clause-replayed g c shown =
    let before : Hosted = g.H.Host.hosted c.args.host.now in
    let now : Hosted = g.H.Host.hosted c.check_named.new.host in
    subst (λ n. IsReplayedAt n before.folder now.folder) c.in-Ok.ensures (replayed_at c.in-Ok.own before now c.in-Ok-check_named.ensures.leaves)

-- ---- or why nothing was

pub returns-clause-ended : goal.returns-clause-ended
returns-clause-ended g c =
    let before : Hosted = g.H.Host.hosted c.args.host.now in
    let m = meaning_of c.in-Err-check_named.refusal in
    unfound_ended before (g.H.Host.hosted c.check_named.new.host) c.args.name.now _ _ _ _ _ m c.in-Err-check_named.ensures.leaves
    (subst (λ n. WhereTold before.folder (λ f. IfCause (LooksIn (contents f) n) (cause_in m))) c.in-Ok.ensures c.in-Err-check_named.ensures.answer) c.refuse_opening.ensures

pub returns-clause-idle : goal.returns-clause-idle
returns-clause-idle g c fault =
    let m = meaning_of c.in-Err-check_named.refusal in
    idle_reported (of_chain (of_file c.args.name.now m)) _ _ _ _ _ (left_idle c.args.name.now (g.H.Host.hosted c.args.host.now) (g.H.Host.hosted c.check_named.new.host) m c.requires.idle c.in-Err-check_named.ensures.leaves)
    c.refuse_opening.ensures fault

pub returns-clause-looks : goal.returns-clause-looks
returns-clause-looks g c =
    let before : Hosted = g.H.Host.hosted c.args.host.now in
    let now : Hosted = g.H.Host.hosted c.check_named.new.host in
    subst (λ n. OnlyLooks n before.folder now.folder) c.in-Ok.ensures
    (looks_left c.in-Ok.own before now (meaning_of c.in-Err-check_named.refusal) c.in-Err-check_named.ensures.leaves c.in-Err-check_named.ensures.moments)

pub returns-clause-moments : goal.returns-clause-moments
returns-clause-moments g c =
    subst (λ n. TouchesSafely (λ f other. other ≡ n) (g.H.Host.hosted c.args.host.now) (g.H.Host.hosted c.check_named.new.host)) c.in-Ok.ensures c.in-Err-check_named.ensures.moments

pub returns-clause-replayed : goal.returns-clause-replayed
returns-clause-replayed g c shown = absurd (reported_found (of_chain (of_file c.args.name.now (meaning_of c.in-Err-check_named.refusal))) _ _ _ _ _ c.refuse_opening.ensures shown)
