use Rattle.std.proofs.Common.{All, sym, subst, ◌∙◌}
use Rattle.std.specs.List.{IsDistinct}
use Rattle.std.specs.Str.{bytes_eq}
use Rattle.store_model.specs.Folder.{CanAttach}
use Rattle.link_rules.specs.Chains as chains
use Rattle.command_base.proofs.Lent.{can_attach_all, distinct, opened_there}
use Rattle.command_base.proofs.chain.attach.Goals as goal

pub attach-requires-clause-distinct : goal.attach-requires-clause-distinct
attach-requires-clause-distinct g c = subst (IsDistinct bytes_eq) (sym (c.as_slice.ensures ∙ c.in_ok-names.ensures)) (distinct (chains.names_of c.args.files.now) c.requires.once)

pub attach-requires-clause-there : goal.attach-requires-clause-there
attach-requires-clause-there g c t told =
    subst (All (CanAttach t)) (sym (c.as_slice.ensures ∙ c.in_ok-names.ensures))
    (can_attach_all t (chains.names_of c.args.files.now) (c.requires.idle t told) (opened_there t c.args.files.now (c.requires.opened t told)))
