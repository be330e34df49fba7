use Rattle.std.proofs.Common.{◌<◌, ◌≡◌, length, map, slice_index, subst}
use Rattle.copy_workers.proofs.Fetching.{is_of, none_placed, one_placed}
use Rattle.copy_workers.proofs.source.SourceReaders.new.Goals as goal
use Rattle.copy_workers.proofs.source.SourceReaders.new.Goals.{in-Some-find, in-None}

pub returns-clause-source : goal.returns-clause-source
returns-clause-source g c = elim c.match-find.branch [
  | in-Some-find w ↦
      let files = c.into_files-files.result.items in
      one_placed c.args.readers c.args.source c.match-find.source (record { at = w.in-Some-find.at; read = c.in-Some.read }) c.in-Some.is w.source-is
      (is_of (λ f. g.R.Reader.sealed f.reader) files c.args.readers c.into_files-files.ensures w.in-Some-find.at c.in-Some.read.file
      (subst (λ items. w.in-Some-find.at < length items) c.as_slice.ensures.value w.in-Some-find.ensures.inside)
      (subst (λ items. slice_index (map (λ f. (g.R.Reader.sealed f.reader).file) items) w.in-Some-find.at ≡ c.in-Some.read.file) c.as_slice.ensures.value w.in-Some-find.ensures.number))
  | in-None w ↦ none_placed c.args.readers c.args.source c.match-find.source w.source-is
]
