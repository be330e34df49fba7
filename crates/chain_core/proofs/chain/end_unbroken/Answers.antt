use Rattle.std.proofs.Common.{◌≡◌, refl, sym, subst, ◌∙◌}
use Rattle.std.specs.Prelude.{Option, None, IfSome, Result, Err}
use Rattle.store_model.specs.declared.fault.StoreFault.{StoreFault}
use Rattle.layer_session.proofs.Equal.{some_none}
use Rattle.chain_core.proofs.chain.end_unbroken.Goals as goal

pub returns-in-Some : goal.returns-in-Some
returns-in-Some g c =
    let is = c.in-Some.is in
    let never = λ (none : c.args.broken ≡ None). some_none (sym is ∙ none) in
    record {
      broken = subst (λ (o : Option StoreFault). IfSome o (λ fault. (◌≡◌ {A = Result (Unit {0}) StoreFault} (Err c.in-Some.fault) (Err fault)) × (c.args.store.now ≡ c.args.store.now))) (sym is) (refl, refl);
      read = λ none leaf. absurd (never none);
      counts = λ none. absurd (never none);
      err = λ none. absurd (never none);
      told = λ none. absurd (never none);
    }

pub end-requires-clause-ready : goal.end-requires-clause-ready
end-requires-clause-ready g c = c.requires.ready c.in-None.is

pub end-requires-clause-low : goal.end-requires-clause-low
end-requires-clause-low g c = c.requires.low c.in-None.is

pub returns-in-None : goal.returns-in-None
returns-in-None g c =
    let e = c.end.ensures in
    record {
      broken = subst (λ (o : Option StoreFault). IfSome o (λ fault. (c.end.result ≡ Err fault) × (c.end.new.store ≡ c.args.store.now))) (sym c.in-None.is) tt;
      read = λ none. e.read;
      counts = λ none. e.counts;
      err = λ none. e.err;
      told = λ none. e.told;
    }
