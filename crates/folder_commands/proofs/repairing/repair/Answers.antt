use Rattle.std.proofs.Common.{Err, Ok, inl, inr, refl, subst}
use Rattle.store_model.specs.Folder.{Hosted}
use Rattle.vhdx_format.proofs.WrittenTexts.{length-name}
use Rattle.named_file.specs.Repairs.{AnswersRepair, LeavesRepair, OnlyRepairs, RepairsSafely}
use Rattle.named_file.proofs.Touched.{still_repaired, still_safely}
use Rattle.command_base.specs.Causes.{meaning_of_repair}
use Rattle.folder_commands.proofs.Mended.{done_not_refused, draws_for, left_idle, left_kept, no_memory_not_refused, no_memory_repaired, repaired_ended, unrepaired_ended}
use Rattle.command_base.proofs.Said.{idle_reported, replayed_reported}
use Rattle.folder_commands.proofs.repairing.repair.Goals as goal

pub returns-in-Err-clause-ended : goal.returns-in-Err-clause-ended
returns-in-Err-clause-ended g c = no_memory_repaired c.args.name.now (g.I.Ids.drawn c.args.ids.now) (g.I.Ids.drawn c.args.ids.now) (g.H.Host.hosted c.args.host.now) (g.H.Host.hosted c.args.host.now) _ _ _ _ _ refl c.out_of_memory.ensures

pub returns-in-Err-clause-only : goal.returns-in-Err-clause-only
returns-in-Err-clause-only g c = still_repaired c.args.name.now (g.H.Host.hosted c.args.host.now) (g.H.Host.hosted c.args.host.now) refl

pub returns-in-Err-clause-moments : goal.returns-in-Err-clause-moments
returns-in-Err-clause-moments g c = still_safely c.args.name.now (g.H.Host.hosted c.args.host.now) (g.H.Host.hosted c.args.host.now) refl refl

pub returns-in-Err-clause-kept : goal.returns-in-Err-clause-kept
returns-in-Err-clause-kept g c refused = absurd (no_memory_not_refused _ _ _ _ _ _ c.out_of_memory.ensures refused)

pub returns-in-Err-clause-drawn : goal.returns-in-Err-clause-drawn
returns-in-Err-clause-drawn g c = inl refl

-- ---- repaired

pub repaired_said-requires : goal.repaired_said-requires
repaired_said-requires g c = length-name c.args.name.now c.requires.name

pub returns-in-Ok-repair_named-clause-ended : goal.returns-in-Ok-repair_named-clause-ended
returns-in-Ok-repair_named-clause-ended g c =
    let before : Hosted = g.H.Host.hosted c.args.host.now in
    let now : Hosted = g.H.Host.hosted c.repair_named.new.host in
    let drawn = g.I.Ids.drawn c.args.ids.now in
    let after = g.I.Ids.drawn c.repair_named.new.ids in
    repaired_ended c.args.name.now drawn after before now _ _ _ _ _ c.in-Ok-repair_named.field-0
    (subst (λ n. AnswersRepair n drawn after before.folder now.folder (Ok c.in-Ok-repair_named.field-0)) c.in-Ok.ensures c.in-Ok-repair_named.ensures.answer)
    (subst (λ n. LeavesRepair n before now (Ok c.in-Ok-repair_named.field-0)) c.in-Ok.ensures c.in-Ok-repair_named.ensures.leaves) c.repaired_said.ensures

pub returns-in-Ok-repair_named-clause-idle : goal.returns-in-Ok-repair_named-clause-idle
returns-in-Ok-repair_named-clause-idle g c fault = c.in-Ok-repair_named.ensures.leaves.idle

pub returns-in-Ok-repair_named-clause-only : goal.returns-in-Ok-repair_named-clause-only
returns-in-Ok-repair_named-clause-only g c =
    let before : Hosted = g.H.Host.hosted c.args.host.now in
    let now : Hosted = g.H.Host.hosted c.repair_named.new.host in
    subst (λ n. OnlyRepairs n before.folder now.folder) c.in-Ok.ensures c.in-Ok-repair_named.ensures.only

pub returns-in-Ok-repair_named-clause-moments : goal.returns-in-Ok-repair_named-clause-moments
returns-in-Ok-repair_named-clause-moments g c =
    subst (λ n. RepairsSafely n (g.H.Host.hosted c.args.host.now) (g.H.Host.hosted c.repair_named.new.host)) c.in-Ok.ensures c.in-Ok-repair_named.ensures.moments

pub returns-in-Ok-repair_named-clause-kept : goal.returns-in-Ok-repair_named-clause-kept
returns-in-Ok-repair_named-clause-kept g c refused = absurd (done_not_refused _ _ _ _ _ _ c.repaired_said.ensures refused)

pub returns-in-Ok-repair_named-clause-drawn : goal.returns-in-Ok-repair_named-clause-drawn
returns-in-Ok-repair_named-clause-drawn g c =
    draws_for c.in-Ok.own (g.I.Ids.drawn c.args.ids.now) (g.I.Ids.drawn c.repair_named.new.ids) (g.H.Host.hosted c.args.host.now) (g.H.Host.hosted c.repair_named.new.host) (Ok c.in-Ok-repair_named.field-0) c.in-Ok-repair_named.ensures.answer

-- ---- or not

pub returns-clause-ended : goal.returns-clause-ended
returns-clause-ended g c =
    let before : Hosted = g.H.Host.hosted c.args.host.now in
    let now : Hosted = g.H.Host.hosted c.repair_named.new.host in
    let drawn = g.I.Ids.drawn c.args.ids.now in
    let after = g.I.Ids.drawn c.repair_named.new.ids in
    let refusal = c.in-Err-repair_named.refusal in
    unrepaired_ended c.args.name.now drawn after before now _ _ _ _ _ refusal
    (subst (λ n. AnswersRepair n drawn after before.folder now.folder (Err refusal)) c.in-Ok.ensures c.in-Err-repair_named.ensures.answer)
    (subst (λ n. LeavesRepair n before now (Err refusal)) c.in-Ok.ensures c.in-Err-repair_named.ensures.leaves) c.refuse_repair.ensures

pub returns-clause-idle : goal.returns-clause-idle
returns-clause-idle g c fault =
    let before : Hosted = g.H.Host.hosted c.args.host.now in
    let now : Hosted = g.H.Host.hosted c.repair_named.new.host in
    let refusal = c.in-Err-repair_named.refusal in
    idle_reported (meaning_of_repair c.args.name.now refusal) _ _ _ _ _
    (left_idle c.args.name.now before now refusal (subst (λ n. LeavesRepair n before now (Err refusal)) c.in-Ok.ensures c.in-Err-repair_named.ensures.leaves)) c.refuse_repair.ensures fault

pub returns-clause-only : goal.returns-clause-only
returns-clause-only g c =
    let before : Hosted = g.H.Host.hosted c.args.host.now in
    let now : Hosted = g.H.Host.hosted c.repair_named.new.host in
    subst (λ n. OnlyRepairs n before.folder now.folder) c.in-Ok.ensures c.in-Err-repair_named.ensures.only

pub returns-clause-moments : goal.returns-clause-moments
returns-clause-moments g c =
    subst (λ n. RepairsSafely n (g.H.Host.hosted c.args.host.now) (g.H.Host.hosted c.repair_named.new.host)) c.in-Ok.ensures c.in-Err-repair_named.ensures.moments

pub returns-clause-kept : goal.returns-clause-kept
returns-clause-kept g c refused =
    let before : Hosted = g.H.Host.hosted c.args.host.now in
    let now : Hosted = g.H.Host.hosted c.repair_named.new.host in
    let refusal = c.in-Err-repair_named.refusal in
    replayed_reported (meaning_of_repair c.args.name.now refusal) _ _ _ _ _
    (left_kept c.args.name.now before now refusal (subst (λ n. LeavesRepair n before now (Err refusal)) c.in-Ok.ensures c.in-Err-repair_named.ensures.leaves)) c.refuse_repair.ensures (inr refused)

pub returns-clause-drawn : goal.returns-clause-drawn
returns-clause-drawn g c =
    draws_for c.in-Ok.own (g.I.Ids.drawn c.args.ids.now) (g.I.Ids.drawn c.repair_named.new.ids) (g.H.Host.hosted c.args.host.now) (g.H.Host.hosted c.repair_named.new.host) (Err c.in-Err-repair_named.refusal) c.in-Err-repair_named.ensures.answer
