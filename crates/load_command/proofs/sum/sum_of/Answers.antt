use Rattle.std.proofs.Common.{subst, sym}
use Rattle.link_rules.specs.Causes.{meaning_of}
use Rattle.link_rules.specs.Chains.{names_of}
use Rattle.link_rules.specs.Effects.{linked_names}
use Rattle.link_rules.specs.Folders.{contents}
use Rattle.link_rules.proofs.Composing.{still_idle}
use Rattle.chain_model.specs.Members.{NoneTwice}
use Rattle.std.specs.Prelude.{IfOk}
use Rattle.command_base.specs.Causes.{meaning_of_chain}
use Rattle.command_base.proofs.Followed.{chain_cause, followed_err, geometry_of, last_once, opened_in, order_stopped, refused_answer, then_attached}
use Rattle.load_command.specs.Sums.{HasSummed, SumsUp, unlinked}
use Rattle.load_command.proofs.Summed.{ok_sum, ok_told, sum_answer, sum_leaves}
use Rattle.load_command.proofs.sum.sum_of.Goals as goal

pub returns-in_err-linked-clause-answer : goal.returns-in_err-linked-clause-answer
returns-in_err-linked-clause-answer g c t told =
    refused_answer meaning_of_chain (SumsUp t c.args.leaf.now) c.from_residual.result _ c.from_residual.ensures.1
    (chain_cause (contents t) c.args.leaf.now (SumsUp t c.args.leaf.now) (λ r h. unlinked r h) (meaning_of c.in_err-linked.field-0.0) (c.in_err-linked.ensures.answer t told))

pub returns-in_err-linked-clause-leaves : goal.returns-in_err-linked-clause-leaves
returns-in_err-linked-clause-leaves g c =
    followed_err meaning_of_chain c.args.leaf.now _ _ c.from_residual.result _ c.from_residual.ensures.1 (order_stopped c.args.leaf.now _ _ (meaning_of c.in_err-linked.field-0.0) c.in_err-linked.ensures.answer c.in_err-linked.ensures.leaves)

pub sum_files-requires-clause-idle : goal.sum_files-requires-clause-idle
sum_files-requires-clause-idle g c = still_idle (linked_names c.in_ok-linked.linked) _ _ c.requires.idle c.in_ok-linked.ensures.leaves

pub sum_files-requires-clause-once : goal.sum_files-requires-clause-once
sum_files-requires-clause-once g c = subst (λ fs. NoneTwice (names_of fs)) (sym c.as_slice-files.ensures) (last_once c.in_ok-linked.linked.retired (names_of c.in_ok-linked.linked.files) c.in_ok-linked.ensures.linked.once)

pub sum_files-requires-clause-opened : goal.sum_files-requires-clause-opened
sum_files-requires-clause-opened g c = opened_in c.args.leaf.now c.in_ok-linked.linked _ c.in_ok-linked.ensures.answer _ c.in_ok-linked.ensures.leaves c.as_slice-files.result.now c.as_slice-files.ensures

pub sum_files-requires-clause-geometry : goal.sum_files-requires-clause-geometry
sum_files-requires-clause-geometry g c = geometry_of c.leaf_of.result.now c.as_slice-files.result.now c.leaf_of.ensures

pub returns-clause-answer : goal.returns-clause-answer
returns-clause-answer g c t told =
    let linked = c.in_ok-linked.linked in
    let m = c.in_ok-linked.ensures.leaves.files t told in
    sum_answer t c.args.leaf.now _ _ c.sum_files.result
    (ok_sum t m.0 c.args.leaf.now linked (c.in_ok-linked.ensures.answer t told) (linked_names linked) m.2 c.sum_files.result (subst (λ fs. IfOk c.sum_files.result (HasSummed (contents m.0) fs)) c.as_slice-files.ensures (ok_told _ _ c.sum_files.result c.sum_files.ensures.sum m.0 m.1)))
    c.sum_files.ensures.leaves

pub returns-clause-moments : goal.returns-clause-moments
returns-clause-moments g c =
    then_attached c.args.leaf.now c.in_ok-linked.linked _ c.in_ok-linked.ensures.answer _ c.in_ok-linked.ensures.leaves c.as_slice-files.result.now _ c.as_slice-files.ensures c.requires.idle c.in_ok-linked.ensures.moments c.sum_files.ensures.moments

pub returns-clause-leaves : goal.returns-clause-leaves
returns-clause-leaves g c = sum_leaves c.args.leaf.now c.in_ok-linked.linked _ _ _ c.in_ok-linked.ensures.answer c.in_ok-linked.ensures.leaves c.sum_files.result c.sum_files.ensures.leaves
