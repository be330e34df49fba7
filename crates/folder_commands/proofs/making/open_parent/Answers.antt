use Rattle.std.proofs.Common.{subst, sym}
use Rattle.link_rules.specs.Causes.{meaning_of}
use Rattle.link_rules.specs.Chains.{names_of}
use Rattle.link_rules.specs.Effects.{linked_names}
use Rattle.link_rules.specs.Folders.{contents}
use Rattle.link_rules.proofs.Composing.{still_idle}
use Rattle.chain_model.specs.Members.{NoneTwice}
use Rattle.command_base.specs.Causes.{meaning_of_chain}
use Rattle.folder_commands.specs.Parents.{OpensParent, leads, unlinked}
use Rattle.command_base.specs.Making.{ShowIds}
use Rattle.command_base.proofs.Followed.{chain_cause, followed_err, last_once, opened_in, order_stopped, read_no_cause, read_stopped, refused_answer, shown_before, then_attached, then_read}
use Rattle.folder_commands.proofs.making.open_parent.Goals as goal

pub returns-in_err-linked-clause-answer : goal.returns-in_err-linked-clause-answer
returns-in_err-linked-clause-answer g c t told =
    refused_answer meaning_of_chain (OpensParent t c.args.parent.now) c.from_residual.result _ c.from_residual.ensures.1
    (chain_cause (contents t) c.args.parent.now (OpensParent t c.args.parent.now) (λ r h. unlinked r h) (meaning_of c.in_err-linked.field-0.0) (c.in_err-linked.ensures.answer t told))

pub returns-in_err-linked-clause-leaves : goal.returns-in_err-linked-clause-leaves
returns-in_err-linked-clause-leaves g c =
    followed_err meaning_of_chain c.args.parent.now _ _ c.from_residual.result _ c.from_residual.ensures.1 (order_stopped c.args.parent.now _ _ (meaning_of c.in_err-linked.field-0.0) c.in_err-linked.ensures.answer c.in_err-linked.ensures.leaves)

pub known_of-requires-clause-idle : goal.known_of-requires-clause-idle
known_of-requires-clause-idle g c = still_idle (linked_names c.in_ok-linked.linked) _ _ c.requires.idle c.in_ok-linked.ensures.leaves

pub known_of-requires-clause-once : goal.known_of-requires-clause-once
known_of-requires-clause-once g c = subst (λ fs. NoneTwice (names_of fs)) (sym c.as_slice.ensures) (last_once c.in_ok-linked.linked.retired (names_of c.in_ok-linked.linked.files) c.in_ok-linked.ensures.linked.once)

pub known_of-requires-clause-opened : goal.known_of-requires-clause-opened
known_of-requires-clause-opened g c = opened_in c.args.parent.now c.in_ok-linked.linked _ c.in_ok-linked.ensures.answer _ c.in_ok-linked.ensures.leaves c.as_slice.result.now c.as_slice.ensures

pub returns-in_err-known-clause-answer : goal.returns-in_err-known-clause-answer
returns-in_err-known-clause-answer g c t told =
    refused_answer meaning_of_chain (OpensParent t c.args.parent.now) c.from_residual-in_err-known.result _ c.from_residual-in_err-known.ensures.1
    (read_no_cause (OpensParent t c.args.parent.now) _ _ (meaning_of_chain c.in_err-known.field-0.0) c.in_err-known.ensures.leaves)

pub returns-in_err-known-clause-moments : goal.returns-in_err-known-clause-moments
returns-in_err-known-clause-moments g c =
    then_attached c.args.parent.now c.in_ok-linked.linked _ c.in_ok-linked.ensures.answer _ c.in_ok-linked.ensures.leaves c.as_slice.result.now _ c.as_slice.ensures c.requires.idle c.in_ok-linked.ensures.moments c.in_err-known.ensures.moments

pub returns-in_err-known-clause-leaves : goal.returns-in_err-known-clause-leaves
returns-in_err-known-clause-leaves g c =
    followed_err meaning_of_chain c.args.parent.now _ _ c.from_residual-in_err-known.result _ c.from_residual-in_err-known.ensures.1
    (read_stopped c.args.parent.now c.in_ok-linked.linked _ c.in_ok-linked.ensures.answer _ c.in_ok-linked.ensures.leaves _ (meaning_of_chain c.in_err-known.field-0.0) c.in_err-known.ensures.leaves)

pub returns-clause-answer : goal.returns-clause-answer
returns-clause-answer g c t told =
    let linked = c.in_ok-linked.linked in
    let m = c.in_ok-linked.ensures.leaves.files t told in
    leads _ (c.in_ok-linked.ensures.answer t told)
    (shown_before (contents t) (contents m.0) c.args.parent.now linked _ (c.in_ok-linked.ensures.answer t told) m.2 (subst (λ fs. ShowIds (contents m.0) fs c.in_ok-known.known.items) c.as_slice.ensures (c.in_ok-known.ensures.ids m.0 m.1)))

pub returns-clause-moments : goal.returns-clause-moments
returns-clause-moments g c =
    then_attached c.args.parent.now c.in_ok-linked.linked _ c.in_ok-linked.ensures.answer _ c.in_ok-linked.ensures.leaves c.as_slice.result.now _ c.as_slice.ensures c.requires.idle c.in_ok-linked.ensures.moments c.in_ok-known.ensures.moments

pub returns-clause-leaves : goal.returns-clause-leaves
returns-clause-leaves g c = then_read c.args.parent.now c.in_ok-linked.linked _ c.in_ok-linked.ensures.answer _ c.in_ok-linked.ensures.leaves _ c.in_ok-known.ensures.leaves
