use Rattle.std.proofs.Common.{◌≡◌, ◌++◌, ◌∷◌, [], List, ap, refl, sym, subst, true, ◌∙◌}
use Rattle.store_model.specs.Disk.{Sealed}
use Rattle.store_model.specs.Folder.{RoseWhere}
use Rattle.serve_session.specs.Back.{any_failed}
use Rattle.read_plan.specs.Reading.{has_failed}
use Rattle.serve_command.proofs.Handing.{none_left, popped, rose_more, rose_none}
use Rattle.serve_command.proofs.giving.give_back_each.Goals as goal

pub loop-set-init : goal.loop-set-init
loop-set-init g c = record {
  gone = [];
  whole = nothing c.args.sets.now.items;
  folder = refl;
  past = refl;
  count = rose_none (g.H.Host.hosted c.args.host.now).faults;
}
  where
    nothing : (xs : List (List Sealed)) → xs ≡ xs ++ []
    nothing [] = refl
    nothing (x ∷ xs) = ap (λ t. x ∷ t) (nothing xs)

pub loop-set-preserved : goal.loop-set-preserved
loop-set-preserved g c =
    let i = c.loop-set.invariant in
    let h = g.H.Host.hosted in
    record {
      gone = c.in-Some.set ∷ i.gone;
      whole = popped c.args.sets.now.items c.loop-set.sets.items c.pop.new.self.items c.in-Some.set i.gone i.whole c.in-Some.ensures.items;
      folder = c.give_back_set.ensures.folder ∙ i.folder;
      past = c.give_back_set.ensures.past ∙ i.past;
      count = rose_more (has_failed c.in-Some.set) (any_failed i.gone) (h c.args.host.now).faults (h c.loop-set.host).faults (h c.give_back_set.new.host).faults i.count c.give_back_set.ensures.count;
    }

pub returns-clause-count : goal.returns-clause-count
returns-clause-count g c =
    let i = c.loop-set.invariant in
    subst (λ xs. RoseWhere (any_failed xs ≡ true) (g.H.Host.hosted c.args.host.now).faults (g.H.Host.hosted c.loop-set.host).faults) (sym (i.whole ∙ ap (λ xs. xs ++ i.gone) (none_left c.loop-set.sets.items c.loop-set.sets.len c.loop-set.sets.ok.0 c.in_default.ensures.cases.0))) i.count
