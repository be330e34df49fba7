use Rattle.ledger.proofs.Walking.{List, [], ◌∷◌, ◌++◌, refl, proved_at, Fml, Val, vptr, vstruct, vnil, tables, WpFn, ‵, raw, prop, ◌⊛◌, ◌$◌, ◌∵◌, !, qed, done, move, keep, use0, split, join, fsplit, fjoin, regoal, suffices, enter, of_opd, returns, alloc_all, pass_all, free_all, look_at, get, sets, owns, yes, Is, shows, makes_shadow, plain, types_at, nothing, peeks, alive, Stays, walk_of, says, stay_dropped, Goes-dropped, ends_at, Seen, Words, word, is_word}
use denote.Builtin.{RefOf}
use denote.Signature.{Slot, named_lft}
use Rattle.ledger.specs.contracts.telling.Noted as Noted
use Rattle.ledger.specs.contracts.telling.with_entry as f
use Rattle.ledger.proofs.telling.with_entry.Statement.{statement}
use Rattle.ledger.proofs.telling.with_entry.Code as code

-- the call, lent
abbrev Called : Slot 2
Called = RefOf (0 ∷ []) tt (plain (λ κs. Noted.the_row (named_lft 2 1 tt κs))) (λ κs. tt)

abbrev stayed : Stays f.ended.signature.params f.ended.kept
stayed = (stay_dropped _ yes, (stay_dropped _ yes, tt))

pub with_entry_spec : {M : Type 1} → statement M
with_entry_spec 𝓤 𝓛 𝓜 𝓡 wired =
    let c = f.clauses 𝓛 𝓜.mem 𝓡.returns in let W = walk_of 𝓛 f.ended stayed c in let 𝓣 = tables 𝓤 𝓛.H 𝓜 𝓡 𝓡.env in
    proved_at 𝓛 f.ended stayed c 𝓜 𝓡 (Goes-dropped 𝓛 2 (plain (λ _. Seen)) yes (λ κs x w. refl), (Goes-dropped 𝓛 2 Called yes (λ κs x w. refl), tt))
    f.Key.name code.function (code.unfolded 𝓤 𝓛.H 𝓜 𝓡 wired)
    (λ y are.
    let r : Seen.Denot = record { marker = record {}; value = y.0.3.0.value ++ y.0.3.1.0.now ∷ [] } in
    let O : Fml = Seen.own_val r (word ∷ []) in
    let p : Val = vptr y.0.3.1.0.ref_ptr.0 y.0.3.1.0.ref_ptr.1 in
    let Y : List Val → List Val → W.Ghost = λ vs ws. ((y.0.0, y.0.1, y.0.2, y.0.3, (vs, (ws, tt))), y.1) in
    qed 𝓛 ((raw (alive 𝓛 f.signature y.0.0 y.0.1) ⊛ ‵ (owns (types_at f.signature.params y.0.0) y.0.3 y.0.4)) ∷ raw ((c y.0.0 y.0.3).requires y.1) ∷ []) ∵ split ! $ move ! (1 ∷ []) $ fsplit ! $ fsplit ! $
    peeks ! Words (Is Words) (shows 𝓛 Words) (tt, tt) y.0.4.0 (λ is.
    regoal ! (λ vs. prop (WpFn 𝓤 𝓛.H 𝓣.C 𝓣.Λ code.function (vs ++ (y.0.4.1.0 ++ [])) (W.post (Y vs y.0.4.1.0)))) (is_word y.0.4.0 is) refl $
    regoal ! (λ ws. prop (WpFn 𝓤 𝓛.H 𝓣.C 𝓣.Λ code.function ((word ∷ []) ++ (ws ++ [])) (W.post (Y (word ∷ []) ws)))) are.1.0.0 refl $
    keep ! (3 ∷ []) $
    enter ! _ _ _ _ _ $ alloc_all ! (λ l. pass_all ! refl ((tt, (tt, tt)), ((tt, tt), tt)) $
    sets ! (of_opd ! (get ! refl)) refl (tt, (tt, tt)) $
    returns ! (look_at ! 0 refl) $ free_all ! refl $
    use0 𝓛 (‵ O) (makes_shadow 𝓛 O ((λ vss. (tt, ((λ uss. (tt, tt)), tt))), tt) (((vstruct vnil ∷ [], tt), (refl, ((tt, (refl, tt)), tt))), tt)) $
    suffices ! _ (ends_at 𝓛 f.ended stayed c (Y (word ∷ []) (p ∷ [])) word r (tt, (tt, tt)) (tt, (tt, tt))) $ says ! refl $
    nothing ! $ nothing ! $ fjoin ! $ nothing ! $ fjoin ! $ join ! $ move ! (1 ∷ 0 ∷ []) $ join ! $ done !)))
