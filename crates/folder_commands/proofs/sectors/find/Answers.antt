use Rattle.std.proofs.Common.{subst, sym, arith}
use Rattle.link_rules.specs.Causes.{meaning_of}
use Rattle.link_rules.specs.Chains.{names_of}
use Rattle.link_rules.specs.Effects.{linked_names}
use Rattle.link_rules.specs.Folders.{contents}
use Rattle.link_rules.proofs.Composing.{still_idle}
use Rattle.chain_model.specs.Members.{NoneTwice}
use Rattle.command_base.specs.Causes.{meaning_of_chain, meaning_of_dump}
use Rattle.command_base.specs.Commands.{HasGeometry, HasRead}
use Rattle.command_base.specs.Dump.{Finds, refused}
use Rattle.command_base.proofs.Followed.{chain_cause, few_sectors, followed_err, found_answer, geometry_of, has_followed, last_once, opened_in, order_stopped, range_answer, read_no_cause, read_stopped, refused_answer, then_attached, then_read}
use Rattle.folder_commands.proofs.Ranges.{range_is}
use Rattle.folder_commands.proofs.sectors.find.Goals as goal

pub returns-in_err-linked-clause-answer : goal.returns-in_err-linked-clause-answer
returns-in_err-linked-clause-answer g c t told =
    refused_answer meaning_of_dump (Finds t c.args.leaf.now c.args.first c.args.count) c.from_residual.result _ c.from_residual.ensures.1
    (chain_cause (contents t) c.args.leaf.now (Finds t c.args.leaf.now c.args.first c.args.count) (λ r h. refused r h) (meaning_of c.in_err-linked.field-0.0) (c.in_err-linked.ensures.answer t told))

pub returns-in_err-linked-clause-leaves : goal.returns-in_err-linked-clause-leaves
returns-in_err-linked-clause-leaves g c =
    followed_err meaning_of_dump c.args.leaf.now _ _ c.from_residual.result _ c.from_residual.ensures.1 (order_stopped c.args.leaf.now _ _ (meaning_of c.in_err-linked.field-0.0) c.in_err-linked.ensures.answer c.in_err-linked.ensures.leaves)

pub returns-in_err-check_range-clause-answer : goal.returns-in_err-check_range-clause-answer
returns-in_err-check_range-clause-answer g c t told =
    let linked = c.in_ok-linked.linked in
    let geometry = c.leaf_of.result.now.parts.geometry in
    let has = subst (λ fs. HasGeometry fs geometry) c.as_slice-files.ensures (geometry_of c.leaf_of.result.now c.as_slice-files.result.now c.leaf_of.ensures) in
    refused_answer meaning_of_dump (Finds t c.args.leaf.now c.args.first c.args.count) c.from_residual-in_err-check_range.result _ c.from_residual-in_err-check_range.ensures.1
    (range_answer t c.args.leaf.now linked geometry (c.in_ok-linked.ensures.answer t told) has c.args.first c.args.count c.in_err-check_range.field-0.0 (sym c.in_err-check_range.ensures))

pub returns-in_err-check_range-clause-leaves : goal.returns-in_err-check_range-clause-leaves
returns-in_err-check_range-clause-leaves g c =
    followed_err meaning_of_dump c.args.leaf.now _ _ c.from_residual-in_err-check_range.result _ c.from_residual-in_err-check_range.ensures.1
    (has_followed c.args.leaf.now c.in_ok-linked.linked _ c.in_ok-linked.ensures.answer _ c.in_ok-linked.ensures.leaves)

pub read-requires-clause-idle : goal.read-requires-clause-idle
read-requires-clause-idle g c = still_idle (linked_names c.in_ok-linked.linked) _ _ c.requires.idle c.in_ok-linked.ensures.leaves

pub read-requires-clause-once : goal.read-requires-clause-once
read-requires-clause-once g c = subst (λ fs. NoneTwice (names_of fs)) (sym c.as_slice-files.ensures) (last_once c.in_ok-linked.linked.retired (names_of c.in_ok-linked.linked.files) c.in_ok-linked.ensures.linked.once)

pub read-requires-clause-on_disk : goal.read-requires-clause-on_disk
read-requires-clause-on_disk g c = (range_is c.args.first c.args.count 2048 c.leaf_of.result.now.parts.geometry.sectors (sym c.in_ok-check_range.ensures)).2

pub read-requires-clause-most : goal.read-requires-clause-most
read-requires-clause-most g c = (range_is c.args.first c.args.count 2048 c.leaf_of.result.now.parts.geometry.sectors (sym c.in_ok-check_range.ensures)).1

pub read-requires-clause-opened : goal.read-requires-clause-opened
read-requires-clause-opened g c = opened_in c.args.leaf.now c.in_ok-linked.linked _ c.in_ok-linked.ensures.answer _ c.in_ok-linked.ensures.leaves c.as_slice-files.result.now c.as_slice-files.ensures

pub read-requires-clause-geometry : goal.read-requires-clause-geometry
read-requires-clause-geometry g c = geometry_of c.leaf_of.result.now c.as_slice-files.result.now c.leaf_of.ensures

pub returns-in_err-read-clause-answer : goal.returns-in_err-read-clause-answer
returns-in_err-read-clause-answer g c t told =
    refused_answer meaning_of_dump (Finds t c.args.leaf.now c.args.first c.args.count) c.from_residual-in_err-read.result _ c.from_residual-in_err-read.ensures.1
    (read_no_cause (Finds t c.args.leaf.now c.args.first c.args.count) _ _ (meaning_of_chain c.in_err-read.field-0.0) c.in_err-read.ensures.leaves)

pub returns-in_err-read-clause-moments : goal.returns-in_err-read-clause-moments
returns-in_err-read-clause-moments g c =
    then_attached c.args.leaf.now c.in_ok-linked.linked _ c.in_ok-linked.ensures.answer _ c.in_ok-linked.ensures.leaves c.as_slice-files.result.now _ c.as_slice-files.ensures c.requires.idle c.in_ok-linked.ensures.moments c.in_err-read.ensures.moments

pub returns-in_err-read-clause-leaves : goal.returns-in_err-read-clause-leaves
returns-in_err-read-clause-leaves g c =
    followed_err meaning_of_dump c.args.leaf.now _ _ c.from_residual-in_err-read.result _ c.from_residual-in_err-read.ensures.1
    (read_stopped c.args.leaf.now c.in_ok-linked.linked _ c.in_ok-linked.ensures.answer _ c.in_ok-linked.ensures.leaves _ (meaning_of_chain c.in_err-read.field-0.0) c.in_err-read.ensures.leaves)

pub returns-clause-answer : goal.returns-clause-answer
returns-clause-answer g c t told =
    let linked = c.in_ok-linked.linked in
    let geometry = c.leaf_of.result.now.parts.geometry in
    let has = subst (λ fs. HasGeometry fs geometry) c.as_slice-files.ensures (geometry_of c.leaf_of.result.now c.as_slice-files.result.now c.leaf_of.ensures) in
    let m = c.in_ok-linked.ensures.leaves.files t told in
    found_answer t c.args.leaf.now linked geometry (c.in_ok-linked.ensures.answer t told) has c.args.first c.args.count m.0 (linked_names linked) c.in_ok-read.field-0 m.2 (sym c.in_ok-check_range.ensures)
    (subst (λ fs. HasRead (contents m.0) fs c.args.first c.args.count c.in_ok-read.field-0) c.as_slice-files.ensures (c.in_ok-read.ensures.bytes m.0 m.1))

pub returns-clause-given : goal.returns-clause-given
returns-clause-given g c =
    let few = few_sectors c.in_ok-linked.linked.files c.leaf_of.result.now.parts.geometry c.in_ok-linked.ensures.numbers (subst (λ fs. HasGeometry fs c.leaf_of.result.now.parts.geometry) c.as_slice-files.ensures (geometry_of c.leaf_of.result.now c.as_slice-files.result.now c.leaf_of.ensures)) in
    let given = range_is c.args.first c.args.count 2048 c.leaf_of.result.now.parts.geometry.sectors (sym c.in_ok-check_range.ensures) in
    record { len = c.in_ok-read.ensures.len; end = omega (arith, given.2, few) }

pub returns-clause-moments : goal.returns-clause-moments
returns-clause-moments g c =
    then_attached c.args.leaf.now c.in_ok-linked.linked _ c.in_ok-linked.ensures.answer _ c.in_ok-linked.ensures.leaves c.as_slice-files.result.now _ c.as_slice-files.ensures c.requires.idle c.in_ok-linked.ensures.moments c.in_ok-read.ensures.moments

pub returns-clause-leaves : goal.returns-clause-leaves
returns-clause-leaves g c = then_read c.args.leaf.now c.in_ok-linked.linked _ c.in_ok-linked.ensures.answer _ c.in_ok-linked.ensures.leaves _ c.in_ok-read.ensures.leaves
