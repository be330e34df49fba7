use Rattle.std.proofs.Common.{refl, sym, ◌∙◌}
use Rattle.vx_base.proofs.Handed.{ok_then}
use Rattle.copy_workers.proofs.Fetching.{as_it_was, can_by, err_then, failed_there, not_read, read_by}
use Rattle.copy_workers.proofs.source.SourceReaders.fetch.Goals as goal

pub returns-then-stripe-source-clause-same : goal.returns-then-stripe-source-clause-same
returns-then-stripe-source-clause-same g c = not_read (λ f. g.R.Reader.sealed f.reader) c.self.inside.files.items c.args.self.now c.self.inside.source c.in-Some.source c.self.view_is (sym c.take.ensures.value ∙ c.in-Some.is) c.requires.can _ refl

pub read_stripe-taken-requires-clause-readable : goal.read_stripe-taken-requires-clause-readable
read_stripe-taken-requires-clause-readable g c =
    can_by (λ f. g.R.Reader.sealed f.reader) c.self.inside.files.items c.args.self.now c.self.inside.source c.in-Some.source c.self.view_is (sym c.take.ensures.value ∙ c.in-Some.is) c.requires.can c.index_mut-file.result.now c.index_mut-file.ensures.value

pub returns-clause-same : goal.returns-clause-same
returns-clause-same g c =
    read_by (λ f. g.R.Reader.sealed f.reader) c.self.inside.files.items c.args.self.now c.self.inside.source c.in-Some.source c.self.view_is (sym c.take.ensures.value ∙ c.in-Some.is) c.requires.can c.index_mut-file.result.now c.index_mut-file.ensures.value
    c.read_stripe-taken.new.file c.read_stripe-taken.new.source c.read_stripe-taken.result c.read_stripe-taken.ensures.stays c.read_stripe-taken.ensures.err c.read_stripe-taken.ensures.same _ refl

pub returns-clause-stays : goal.returns-clause-stays
returns-clause-stays g c =
    ok_then c.read_stripe-taken.result
    (as_it_was (λ f. g.R.Reader.sealed f.reader) c.self.inside.files.items c.args.self.now c.self.inside.source c.in-Some.source c.self.view_is (sym c.take.ensures.value ∙ c.in-Some.is) c.requires.can c.index_mut-file.result.now c.index_mut-file.ensures.value c.read_stripe-taken.new.file)
    c.read_stripe-taken.ensures.stays

pub returns-clause-err : goal.returns-clause-err
returns-clause-err g c =
    err_then c.read_stripe-taken.result
    (failed_there (λ f. g.R.Reader.sealed f.reader) c.self.inside.files.items c.args.self.now c.self.inside.source c.in-Some.source c.self.view_is (sym c.take.ensures.value ∙ c.in-Some.is) c.requires.can c.index_mut-file.result.now c.index_mut-file.ensures.value c.read_stripe-taken.new.file)
    c.read_stripe-taken.ensures.err
