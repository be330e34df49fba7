use Rattle.std.proofs.Common.{refl, inl, inr}
use Rattle.link_rules.specs.Folders.{contents}
use Rattle.link_rules.specs.Touches.{IsOnWay}
use Rattle.link_rules.proofs.Safe.{none_safely}
use Rattle.command_base.specs.Causes.{meaning_of_dump}
use Rattle.command_base.proofs.Left.{counted, dump_refused, followed, follows_for, follows_none, idle_left, is_replayed, replayed_for, replayed_left, safely_for, sectors_shown, stopped}
use Rattle.command_base.proofs.Said.{no_memory_ended, no_memory_shown, refused_ended, shown_ended}
use Rattle.folder_commands.proofs.commands.dump.Goals as goal

pub returns-in-Err-clause-ended : goal.returns-in-Err-clause-ended
returns-in-Err-clause-ended g c = no_memory_ended _ _ _ _ _ _ _ _ _ refl c.out_of_memory.ensures

pub returns-in-Ok-find-clause-ended : goal.returns-in-Ok-find-clause-ended
returns-in-Ok-find-clause-ended g c =
    elim c.show.ensures [
      | inl shown ↦
          shown_ended _ _ _ _ _ _ _ _ _ _
          (sectors_shown _ c.args.leaf.now _ c.args.first c.args.count _ _ c.as_slice.ensures c.in-Ok.ensures c.in-Ok-find.ensures.given.len c.in-Ok-find.ensures.answer)
          c.in-Ok-find.ensures.leaves.has.quiet shown
      | inr none ↦ no_memory_ended _ _ _ _ _ _ _ _ _ c.in-Ok-find.ensures.leaves.has.quiet none
    ]

pub returns-clause-ended : goal.returns-clause-ended
returns-clause-ended g c =
    let meaning = meaning_of_dump c.in-Err-find.refusal in
    refused_ended _ _ _ _ _ _ _ _ _ meaning (dump_refused _ c.args.leaf.now _ c.args.first c.args.count meaning c.in-Ok.ensures c.in-Err-find.ensures.answer)
    (counted c.in-Ok.name _ _ meaning c.in-Err-find.ensures.leaves) c.refuse_dump.ensures

pub returns-in-Ok-find-clause-idle : goal.returns-in-Ok-find-clause-idle
returns-in-Ok-find-clause-idle g c fault = c.in-Ok-find.ensures.leaves.has.idle

pub returns-clause-idle : goal.returns-clause-idle
returns-clause-idle g c fault = idle_left c.in-Ok.name _ _ (meaning_of_dump c.in-Err-find.refusal) _ _ _ _ _ c.in-Err-find.ensures.leaves c.refuse_dump.ensures fault

pub returns-in-Err-clause-stays : goal.returns-in-Err-clause-stays
returns-in-Err-clause-stays g c = follows_none c.args.leaf.now (g.H.Host.hosted c.args.host.now)

pub returns-in-Ok-find-clause-stays : goal.returns-in-Ok-find-clause-stays
returns-in-Ok-find-clause-stays g c = follows_for c.in-Ok.name c.args.leaf.now _ _ c.in-Ok.ensures (followed c.in-Ok.name _ _ c.in-Ok-find.ensures.leaves c.in-Ok-find.ensures.moments)

pub returns-clause-stays : goal.returns-clause-stays
returns-clause-stays g c = follows_for c.in-Ok.name c.args.leaf.now _ _ c.in-Ok.ensures (stopped c.in-Ok.name _ _ (meaning_of_dump c.in-Err-find.refusal) c.in-Err-find.ensures.leaves c.in-Err-find.ensures.moments)

pub returns-in-Err-clause-replayed : goal.returns-in-Err-clause-replayed
returns-in-Err-clause-replayed g c shown = absurd (no_memory_shown _ _ _ _ _ _ c.out_of_memory.ensures shown)

pub returns-in-Ok-find-clause-replayed : goal.returns-in-Ok-find-clause-replayed
returns-in-Ok-find-clause-replayed g c shown = replayed_for c.in-Ok.name c.args.leaf.now _ _ c.in-Ok.ensures (is_replayed c.in-Ok.name _ _ c.in-Ok-find.ensures.leaves)

pub returns-clause-replayed : goal.returns-clause-replayed
returns-clause-replayed g c shown =
    replayed_for c.in-Ok.name c.args.leaf.now _ _ c.in-Ok.ensures (replayed_left c.in-Ok.name _ _ (meaning_of_dump c.in-Err-find.refusal) _ _ _ _ _ c.in-Err-find.ensures.leaves c.refuse_dump.ensures shown)

pub returns-in-Err-clause-moments : goal.returns-in-Err-clause-moments
returns-in-Err-clause-moments g c = none_safely (λ f. IsOnWay (contents f) c.args.leaf.now) (g.H.Host.hosted c.args.host.now)

pub returns-in-Ok-find-clause-moments : goal.returns-in-Ok-find-clause-moments
returns-in-Ok-find-clause-moments g c = safely_for c.in-Ok.name c.args.leaf.now _ _ c.in-Ok.ensures c.in-Ok-find.ensures.moments

pub returns-clause-moments : goal.returns-clause-moments
returns-clause-moments g c = safely_for c.in-Ok.name c.args.leaf.now _ _ c.in-Ok.ensures c.in-Err-find.ensures.moments
