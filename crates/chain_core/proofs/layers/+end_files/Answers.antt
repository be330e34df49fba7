use Rattle.std.proofs.Common.{rules, ◌≡◌, ◌∷◌, [], ap}
use Rattle.std.specs.Prelude.{Err, IfErr}
use Rattle.store_model.specs.Disk.{Disk}
use Rattle.store_model.specs.declared.fault.StoreFault.{StoreFault}
use Rattle.std.specs.Prelude.{Result}
use Rattle.std.proofs.Common.{subst, sym}
use Rattle.chain_model.proofs.Showing.{all_left, all_right}
use Rattle.layer_session.specs.FileLayers.{IsNumbered}
use Rattle.chain_core.specs.Ending.{AreNumbered, EndsOnTold, IsInSession, SomeChangeFailed}
use Rattle.chain_core.proofs.Ending.{beside_both, beside_last, ended_told, failed_here, failed_later, err_not_ok, failed_told, in_more, last_ready, none_left_told, rest_apart, rest_others, rest_ready, others_than, still_ready}
use Rattle.chain_core.proofs.layers.+end_files.Goals as goal

pub returns-in_default-clause-told : goal.returns-in_default-clause-told
returns-in_default-clause-told g t c = none_left_told c.args.below.items (g.S.Store.disk c.args.store.now) (search rules)

pub end-requires-clause-ready : goal.end-requires-clause-ready
end-requires-clause-ready g t c = last_ready c.pop.new.self.items c.in-Some.file c.args.below.items c.in-Some.ensures.items (g.S.Store.disk c.args.store.now) c.requires.ready

pub end-requires-clause-numbers : goal.end-requires-clause-numbers
end-requires-clause-numbers g t c = (all_right (IsNumbered 18446744069414584320) c.pop.new.self.items (c.in-Some.file ∷ []) (subst AreNumbered c.in-Some.ensures.items c.requires.low)).0

pub returns-in_err-end-clause-told : goal.returns-in_err-end-clause-told
returns-in_err-end-clause-told g t c =
    let e : c.from_residual.result ≡ Err c.in_err-end.field-0.0 = search rules in
    subst (λ (r : Result (Unit {0}) StoreFault). EndsOnTold c.args.below.items (g.S.Store.disk c.args.store.now) (g.S.Store.disk c.end.new.store) r) (sym e)
    (failed_told c.pop.new.self.items c.in-Some.file c.args.below.items c.in_err-end.field-0.0 (g.S.Store.disk c.args.store.now) (g.S.Store.disk c.end.new.store) c.in-Some.ensures.items c.end.ensures.moments
    (λ none. ap (λ s. g.S.Store.disk s) (c.end.ensures.reads none).1))

pub returns-in_err-end-clause-beside : goal.returns-in_err-end-clause-beside
returns-in_err-end-clause-beside g t c =
    beside_last c.pop.new.self.items c.in-Some.file c.args.below.items (g.S.Store.disk c.args.store.now) (g.S.Store.disk c.end.new.store) c.in-Some.ensures.items
    (last_ready c.pop.new.self.items c.in-Some.file c.args.below.items c.in-Some.ensures.items (g.S.Store.disk c.args.store.now) c.requires.ready) c.end.ensures.moments
    (λ none. ap (λ s. g.S.Store.disk s) (c.end.ensures.reads none).1)

pub returns-in_err-end-clause-err : goal.returns-in_err-end-clause-err
returns-in_err-end-clause-err g t c =
    let e : c.from_residual.result ≡ Err c.in_err-end.field-0.0 = search rules in
    let failed : c.end.result ≡ Err c.in_err-end.field-0.0 = search rules in
    subst (λ (r : Result (Unit {0}) StoreFault). IfErr r (SomeChangeFailed (IsInSession c.args.below.items) (g.S.Store.disk c.args.store.now) (g.S.Store.disk c.end.new.store))) (sym e)
    (failed_here c.pop.new.self.items c.in-Some.file c.args.below.items c.in_err-end.field-0.0 (g.S.Store.disk c.args.store.now) (g.S.Store.disk c.end.new.store) c.in-Some.ensures.items
    (last_ready c.pop.new.self.items c.in-Some.file c.args.below.items c.in-Some.ensures.items (g.S.Store.disk c.args.store.now) c.requires.ready)
    (λ none. err_not_ok c.end.result c.in_err-end.field-0.0 failed (c.end.ensures.reads none).0) c.in_err-end.ensures.err)

pub end_files-requires : goal.end_files-requires
end_files-requires g t c κs within = (
  search rules,
  (
    (search rules),
    (
      (search rules),
      (
        still_ready c.in-Some.file c.pop.new.self.items (g.S.Store.disk c.args.store.now) (g.S.Store.disk c.end.new.store)
            (last_ready c.pop.new.self.items c.in-Some.file c.args.below.items c.in-Some.ensures.items (g.S.Store.disk c.args.store.now) c.requires.ready)
            (rest_ready c.pop.new.self.items c.in-Some.file c.args.below.items c.in-Some.ensures.items (g.S.Store.disk c.args.store.now) c.requires.ready)
            (others_than c.pop.new.self.items c.in-Some.file c.args.below.items c.in-Some.ensures.items c.requires.apart) c.end.ensures.moments
            (λ none. ap (λ s. g.S.Store.disk s) (c.end.ensures.reads none).1) (ap (λ (d : Disk). d.files) c.in_ok-end.ensures.counts),
        (
          all_left (IsNumbered 18446744069414584320) c.pop.new.self.items (c.in-Some.file ∷ []) (subst AreNumbered c.in-Some.ensures.items c.requires.low),
          rest_apart c.pop.new.self.items c.in-Some.file c.args.below.items c.in-Some.ensures.items c.requires.apart,
        ),
      ),
    ),
  ),
)

pub returns-clause-told : goal.returns-clause-told
returns-clause-told g t c =
    ended_told c.pop.new.self.items c.in-Some.file c.args.below.items c.end_files.result (g.S.Store.disk c.args.store.now) (g.S.Store.disk c.end.new.store) (g.S.Store.disk c.end_files.new.store) c.in-Some.ensures.items c.end.ensures.moments
    c.in_ok-end.ensures.ended (λ none. ap (λ s. g.S.Store.disk s) (c.end.ensures.reads none).1) c.end_files.ensures.told

pub returns-clause-beside : goal.returns-clause-beside
returns-clause-beside g t c n others =
    beside_both n (g.S.Store.disk c.args.store.now).told (g.S.Store.disk c.end.new.store).told (g.S.Store.disk c.end_files.new.store).told
    (beside_last c.pop.new.self.items c.in-Some.file c.args.below.items (g.S.Store.disk c.args.store.now) (g.S.Store.disk c.end.new.store) c.in-Some.ensures.items
    (last_ready c.pop.new.self.items c.in-Some.file c.args.below.items c.in-Some.ensures.items (g.S.Store.disk c.args.store.now) c.requires.ready) c.end.ensures.moments
    (λ none. ap (λ s. g.S.Store.disk s) (c.end.ensures.reads none).1) n others)
    (c.end_files.ensures.beside n (rest_others c.pop.new.self.items c.in-Some.file c.args.below.items c.in-Some.ensures.items n others))

pub returns-clause-err : goal.returns-clause-err
returns-clause-err g t c =
    failed_later (IsInSession c.pop.new.self.items) (IsInSession c.args.below.items) (g.S.Store.disk c.args.store.now) (g.S.Store.disk c.end.new.store) (g.S.Store.disk c.end_files.new.store) c.end_files.result
    (in_more c.pop.new.self.items c.in-Some.file c.args.below.items c.in-Some.ensures.items) c.in_ok-end.ensures.counts c.end_files.ensures.err
