-- The stamps that stripes have in a session whose leaf is merged.
use Rattle.std.proofs.Common.{◌≡◌, ◌+◌, ◌<◌, ◌==◌, ◌++◌, ◌∷◌, ℕ, Bool, true, false, [], length, Option, Some, None, Result, Ok, Err, refl, sym, ap, ap₂, subst, ◌∙◌, arith, length-append}
use Rattle.std.specs.Prelude.{⊤, ◌||◌, if◌then◌else◌, is_some}
use Rattle.std.proofs.lemmas.Bool.{eqb-true}
use Rattle.guest_model.specs.declared.call.Entry.{Entry}
use Rattle.guest_model.specs.declared.refusal.ChainRefusal.{ChainRefusal}
use Rattle.guest_model.specs.History.{History}
use Rattle.chain_model.specs.Stripes.{stamp, touches}
use Rattle.chain_model.proofs.Stamping.{stamps_by_call}
use Rattle.merge_core.specs.Stamping.{stamps_of}
use Rattle.chain_core.specs.Copying.{IsTouched, MarksIn, MarksToo, MergeFollows, Touches, stamp_in, stamp_of}
use Rattle.chain_core.specs.Skipping.{HasPassed, MarksRun, MarksRunToo}
use Rattle.chain_core.specs.Sessions.{HasNoMerge, KeepsMerge, has_merge}
use Rattle.chain_core.specs.declared.layers.Layers.{Layers}
use Rattle.chain_core.specs.declared.layers.Retiring.{Retiring}
use Rattle.chain_core.specs.declared.layers.Underway.{Underway}
use Rattle.layer_session.proofs.Equal.{some_none}
use Rattle.script_session.specs.Told.{sector_size}
use Rattle.shared_chain.specs.Answers.{IsEntered}
use Rattle.shared_chain.specs.Stamped.{HasStamps, KeepsStamps, is_over, of_leaf, of_other, stamp_behind, stamp_since}

-- ---- what a step of a merge does to it

abbrev pub SameStamps : Option Retiring → Option Retiring → Type 0
SameStamps None None = ⊤
SameStamps None (Some new) = ⊥
SameStamps (Some old) None = ⊥
SameStamps (Some old) (Some new) = (new.stamps ≡ old.stamps) × (new.marks.stripes ≡ old.marks.stripes)

-- none is under way behind it; or the same one, with the same stamps
pub data MergeGoes (old new : Layers) : Type 0 where
  merge_over : HasNoMerge new → MergeGoes old new
  merge_on : is_some new.merge ≡ is_some old.merge → SameStamps old.retiring new.retiring → MergeGoes old new

same_itself : (r : Option Retiring) → SameStamps r r
same_itself None = tt
same_itself (Some r) = (refl, refl)

same_through : (a b c : Option Retiring) → SameStamps a b → SameStamps b c → SameStamps a c
same_through None None None h k = tt
same_through None None (Some c) h k = absurd k
same_through None (Some b) c h k = absurd h
same_through (Some a) None c h k = absurd h
same_through (Some a) (Some b) None h k = absurd k
same_through (Some a) (Some b) (Some c) h k = (k.0 ∙ h.0, k.1 ∙ h.1)

pub goes_kept : (old new : Layers) → KeepsMerge old new → MergeGoes old new
goes_kept old new k = merge_on (ap (λ (o : Option Underway). is_some o) k.0) (subst (SameStamps old.retiring) (sym k.1) (same_itself old.retiring))

pub goes_same : (old new : Layers) → new ≡ old → MergeGoes old new
goes_same old new is = goes_kept old new (ap (λ (l : Layers). l.merge) is, ap (λ (l : Layers). l.retiring) is)

marks_in : (stripe : ℕ) (u v : Option Underway) → MarksIn stripe u v → is_some v ≡ is_some u
marks_in stripe None None h = refl
marks_in stripe None (Some v) h = absurd h
marks_in stripe (Some u) None h = absurd h
marks_in stripe (Some u) (Some v) h = refl

marks_too : (stripe : ℕ) (r q : Option Retiring) → MarksToo stripe r q → SameStamps r q
marks_too stripe None None h = tt
marks_too stripe None (Some q) h = absurd h
marks_too stripe (Some r) None h = absurd h
marks_too stripe (Some r) (Some q) h = (ap (λ (x : Retiring). x.stamps) h.rest, h.stripes)

pub goes_marked : (stripe : ℕ) (old new : Layers) → MarksIn stripe old.merge new.merge → MarksToo stripe old.retiring new.retiring → MergeGoes old new
goes_marked stripe old new a b = merge_on (marks_in stripe old.merge new.merge a) (marks_too stripe old.retiring new.retiring b)

run_in : (from n : ℕ) (u v : Option Underway) → MarksRun from n u v → is_some v ≡ is_some u
run_in from n None None h = refl
run_in from n None (Some v) h = absurd h
run_in from n (Some u) None h = absurd h
run_in from n (Some u) (Some v) h = refl

run_too : (from n : ℕ) (r q : Option Retiring) → MarksRunToo from n r q → SameStamps r q
run_too from n None None h = tt
run_too from n None (Some q) h = absurd h
run_too from n (Some r) None h = absurd h
run_too from n (Some r) (Some q) h = (ap (λ (x : Retiring). x.stamps) h.rest, h.stripes)

pub goes_passed : (from n : ℕ) (old new : Layers) → HasPassed from n old new → MergeGoes old new
goes_passed from n old new h = merge_on (run_in from n old.merge new.merge h.0) (run_too from n old.retiring new.retiring h.1)

-- a merge that is over stays so
over_on : (old new : Layers) → HasNoMerge old → is_some new.merge ≡ is_some old.merge → SameStamps old.retiring new.retiring → HasNoMerge new
over_on old new none merge same = (none_is new.merge (merge ∙ ap (λ (o : Option Underway). is_some o) none.0), retiring_none old.retiring new.retiring none.1 same)
  where
    none_is : (o : Option Underway) → is_some o ≡ false → o ≡ None
    none_is None e = refl
    none_is (Some u) e = absurd (let never : true ≡ false = e in cc)

    retiring_none : (r q : Option Retiring) → r ≡ None → SameStamps r q → q ≡ None
    retiring_none None None e h = refl
    retiring_none None (Some q) e h = absurd h
    retiring_none (Some r) q e h = absurd (some_none e)

pub goes_then : (old mid new : Layers) → KeepsMerge old mid → MergeGoes mid new → MergeGoes old new
goes_then old mid new k (merge_over none) = merge_over none
goes_then old mid new k (merge_on merge same) = merge_on (merge ∙ ap (λ (o : Option Underway). is_some o) k.0) (same_through old.retiring mid.retiring new.retiring (subst (SameStamps old.retiring) (sym k.1) (same_itself old.retiring)) same)

-- ---- the stamps stay those of the history

pub stamps_begin : (layers : Layers) → KeepsStamps layers [] layers
stamps_begin layers = go layers.retiring refl
  where
    go : (o : Option Retiring) → layers.retiring ≡ o → KeepsStamps layers [] layers
    go None is = of_other is is
    go (Some r) is = of_leaf r r is is (record { stripes = refl; each = λ stripe low. refl })

pub stamps_step : (first old new : Layers) (h : History) → MergeGoes old new → KeepsStamps first h old → KeepsStamps first h new
stamps_step first old new h (merge_over none) k = is_over none
stamps_step first old new h (merge_on merge same) (is_over none) = is_over (over_on old new none merge same)
stamps_step first old new h (merge_on merge same) (of_other none old_none) = of_other none (go old.retiring new.retiring old_none same)
  where
    go : (r q : Option Retiring) → r ≡ None → SameStamps r q → q ≡ None
    go None None e s = refl
    go None (Some q) e s = absurd s
    go (Some r) q e s = absurd (some_none e)
stamps_step first old new h (merge_on merge same) (of_leaf began r first_is old_is k) = go new.retiring refl (subst (λ o. SameStamps o new.retiring) old_is same)
  where
    go : (q : Option Retiring) → new.retiring ≡ q → SameStamps (Some r) q → KeepsStamps first h new
    go None is s = absurd s
    go (Some q) is s = of_leaf began q first_is is (record { stripes = s.1 ∙ k.stripes; each = λ stripe low. ap (λ x. stamps_of x stripe) s.0 ∙ k.each stripe low })

-- the place of one more call is above 0
one_more_place : (began n : ℕ) → stamp_since began (n + 1) ≡ n + 1
one_more_place began n = go (n + 1 == 0) refl
  where
    go : (b : Bool) → (n + 1 == 0) ≡ b → (if b then began else n + 1) ≡ n + 1
    go true e = absurd (let bad = eqb-true (n + 1) 0 e in omega (arith, bad))
    go false e = refl

pub stamp_more : (began : ℕ) (h : History) (e : Entry) (stripe : ℕ) → stamp_since began (stamp sector_size (h ++ e ∷ []) stripe) ≡ (if touches sector_size e.call stripe then length h + 1 else stamp_since began (stamp sector_size h stripe))
stamp_more began h e stripe = ap (stamp_since began) (stamps_by_call.more sector_size h e stripe) ∙ go (touches sector_size e.call stripe)
  where
    go : (b : Bool) → stamp_since began (if b then length h + 1 else stamp sector_size h stripe) ≡ (if b then length h + 1 else stamp_since began (stamp sector_size h stripe))
    go true = one_more_place began (length h)
    go false = refl

module _ (first old new : Layers) (h h' : History) (e : Entry) (sector : old.geometry.sector ≡ 512) where
  touched : (place : ℕ) (began r q : Retiring) → h' ≡ h ++ e ∷ [] → place ≡ length h' → IsTouched old.geometry.sector e.call place r q → HasStamps began h r → HasStamps began h' q
  touched place began r q is at t k = record {
    stripes = t.stripes ∙ k.stripes;
    each = λ stripe low.
        let z : touches old.geometry.sector e.call stripe ≡ touches sector_size e.call stripe = ap (λ n. touches n e.call stripe) sector in
        let size : place ≡ length h + 1 = at ∙ ap length is ∙ length-append h (e ∷ []) in
        t.stamps_are stripe (subst (λ n. stripe < n) (sym k.stripes) low)
        ∙ ap (λ b. if b then place else stamps_of r.stamps stripe) z
        ∙ ap₂ (λ (n m : ℕ). if touches sector_size e.call stripe then n else m) size (k.each stripe low)
        ∙ sym (stamp_more (stamps_of began.stamps stripe) h e stripe)
        ∙ ap (λ l. stamp_since (stamps_of began.stamps stripe) (stamp sector_size l stripe)) (sym is);
  }

  pub stamps_call : (answer : Result ℕ ChainRefusal) → IsEntered e h h' answer → MergeFollows e.call old new answer → KeepsStamps first h old → KeepsStamps first h' new
  stamps_call (Err x) entered follows k = subst (λ l. KeepsStamps first l new) (sym entered) (stamps_step first old new h (goes_kept old new follows) k)
  stamps_call (Ok place) entered follows (is_over none) = is_over (follows.0 ∙ none.0, go old.retiring new.retiring none.1 follows.1)
    where
      go : (r q : Option Retiring) → r ≡ None → Touches old.geometry.sector e.call place r q → q ≡ None
      go None None is t = refl
      go None (Some q) is t = absurd t
      go (Some r) q is t = absurd (some_none is)
  stamps_call (Ok place) entered follows (of_other none old_none) = of_other none (go old.retiring new.retiring old_none follows.1)
    where
      go : (r q : Option Retiring) → r ≡ None → Touches old.geometry.sector e.call place r q → q ≡ None
      go None None is t = refl
      go None (Some q) is t = absurd t
      go (Some r) q is t = absurd (some_none is)
  stamps_call (Ok place) entered follows (of_leaf began r first_is old_is k) = go new.retiring refl (subst (λ o. Touches old.geometry.sector e.call place o new.retiring) old_is follows.1)
    where
      go : (q : Option Retiring) → new.retiring ≡ q → Touches old.geometry.sector e.call place (Some r) q → KeepsStamps first h' new
      go None is t = absurd t
      go (Some q) is t = of_leaf began q first_is is (touched place began r q entered.0 entered.1 t k)

-- ---- what they are of a stripe

-- where a merge is under way, of a stripe of the disk
pub stamp_now : (first now : Layers) (h : History) (stripe : ℕ) → KeepsStamps first h now → has_merge now ≡ true → ((r : Retiring) → now.retiring ≡ Some r → stripe < r.marks.stripes) → stamp_of now stripe ≡ stamp_behind first.retiring h stripe
stamp_now first now h stripe (is_over none) has low = absurd (let never : false ≡ true = sym (ap₂ (λ (o : Option Underway) (r : Option Retiring). is_some o || is_some r) none.0 none.1) ∙ has in cc)
stamp_now first now h stripe (of_other none now_none) has low = ap (λ o. stamp_in o stripe) now_none ∙ ap (λ o. stamp_behind o h stripe) (sym none)
stamp_now first now h stripe (of_leaf began r first_is now_is k) has low =
    ap (λ o. stamp_in o stripe) now_is ∙ k.each stripe (subst (λ n. stripe < n) k.stripes (low r now_is)) ∙ ap (λ o. stamp_behind o h stripe) (sym first_is)
