use Rattle.read_plan.specs.Reading.{has_failed}
use Rattle.std.proofs.Common.{◌≡◌, ◌≢◌, ◌++◌, ◌∷◌, [], List, ap, map, nat_lt, refl, sym, subst, true, ◌∙◌}
use Rattle.store_model.specs.Disk.{Sealed}
use Rattle.store_model.specs.Folder.{RoseWhere}
use Rattle.serve_command.proofs.Handing.{none_left, popped_of, rose_failed, rose_more, rose_none}
use Rattle.serve_command.proofs.giving.give_back_files.Goals as goal

pub loop-file-init : goal.loop-file-init
loop-file-init g c = record {
  gone = [];
  whole = nothing (map (λ f. g.H.S.R.Reader.sealed f.reader) c.args.files.now.items);
  folder = refl;
  past = refl;
  count = rose_none (g.H.Host.hosted c.args.host.now).faults;
}
  where
    nothing : (xs : List Sealed) → xs ≡ xs ++ []
    nothing [] = refl
    nothing (x ∷ xs) = ap (λ t. x ∷ t) (nothing xs)

pub loop-file-preserved : goal.loop-file-preserved
loop-file-preserved g c =
    let i = c.loop-file.invariant in
    let k = g.H.S.R.Reader.sealed in
    let b = (g.H.Host.hosted c.loop-file.host).faults in
    let n = (g.H.Host.hosted c.give_back_reader.new.self).faults in
    let failed = subst (λ r. RoseWhere ((k r).failed ≢ 0) b n) c.into_reader.ensures c.give_back_reader.ensures.count in
    record {
      gone = k c.in-Some.file.reader ∷ i.gone;
      whole = popped_of (λ f. k f.reader) (map (λ f. k f.reader) c.args.files.now.items) c.loop-file.files.items c.pop.new.self.items c.in-Some.file i.gone i.whole c.in-Some.ensures.items;
      folder = c.give_back_reader.ensures.folder ∙ i.folder;
      past = c.give_back_reader.ensures.past ∙ i.past;
      count = rose_more (nat_lt 0 (k c.in-Some.file.reader).failed) (has_failed i.gone) (g.H.Host.hosted c.args.host.now).faults b n i.count (rose_failed (k c.in-Some.file.reader).failed b n failed);
    }

pub returns-clause-count : goal.returns-clause-count
returns-clause-count g c =
    let i = c.loop-file.invariant in
    let k = g.H.S.R.Reader.sealed in
    subst (λ xs. RoseWhere (has_failed xs ≡ true) (g.H.Host.hosted c.args.host.now).faults (g.H.Host.hosted c.loop-file.host).faults) (sym (i.whole ∙ ap (λ fs. map (λ f. k f.reader) fs ++ i.gone) (none_left c.loop-file.files.items c.loop-file.files.len c.loop-file.files.ok.0 c.in_default.ensures.cases.0))) i.count
