-- Lists of what guests were told, by one more call and by one more guest.
use Rattle.std.proofs.Common.{◌≡◌, ◌≢◌, eq-eqb, ne_eqb, ◌+◌, ◌<◌, ◌≤◌, ◌==◌, ◌++◌, ◌∷◌, ℕ, Bool, true, false, [], List, length, map, Ok, Err, inl, inr, refl, sym, ap, subst, ◌∙◌, arith, length-append}
use Rattle.std.specs.Prelude.{◌&&◌, if◌then◌else◌, get_or, take}
use Rattle.std.specs.List.{AllByRecursion, flat_map}
use Rattle.std.proofs.lemmas.Grind.{flat_map-append}
use Rattle.std.proofs.lemmas.List.{append-nil, length-map, map-append, take-append-le, take_all, take_more}
use Rattle.store_model.specs.declared.fault.StoreFault.{StoreFault}
use Rattle.guest_model.specs.declared.call.Call.{Call}
use Rattle.script.specs.Grammar.{is_call}
use Rattle.script.specs.declared.form.Form.{Form}
use Rattle.script.specs.declared.form.Line.{Line}
use Rattle.shared_chain.specs.declared.basis.Breach.{Breach}
use Rattle.serve_session.specs.Actors.{HasBreach, HasBreacher, called_form}
use Rattle.serve_session.specs.Served.{EachGuest, Has, IsCountedUp, IsRising, Outcome, SomeGuest, all_unread, call_of, counts_behind, forms_of, none_failed, places_in, told_call, told_calls, told_guests, unread_in, unread_of, with_count}

-- a slice that fills its vector is all that is in it then
pub written_all : {X : Type 0} (n : ℕ) (xs ys : List X) → n ≡ length xs → take n (xs ++ ys) ≡ xs
written_all n xs ys whole = take-append-le n xs ys (omega (arith, whole)) ∙ take_all n xs (omega (arith, whole))

-- ---- one more call

pub has_left : (p : ℕ) (ps qs : List ℕ) → Has p ps → Has p (ps ++ qs)
has_left p [] qs h = absurd h
has_left p (q ∷ ps) qs (inl e) = inl e
has_left p (q ∷ ps) qs (inr h) = inr (has_left p ps qs h)

pub has_last : (p : ℕ) (ps : List ℕ) → Has p (ps ++ p ∷ [])
has_last p [] = inl refl
has_last p (q ∷ ps) = inr (has_last p ps)

above_all : (p q : ℕ) (ps : List ℕ) → p < q → AllByRecursion (λ r. p < r) ps → AllByRecursion (λ r. p < r) (ps ++ q ∷ [])
above_all p q [] less all = (less, tt)
above_all p q (r ∷ ps) less all = (all.0, above_all p q ps less all.1)

pub rising_snoc : (ps : List ℕ) (p : ℕ) → IsRising ps → AllByRecursion (λ q. q < p) ps → IsRising (ps ++ p ∷ [])
rising_snoc [] p rising below = (tt, tt)
rising_snoc (q ∷ ps) p rising below = (above_all q p ps below.0 rising.0, rising_snoc ps p rising.1 below.1)

pub all_below : (ps : List ℕ) (n : ℕ) → ((p : ℕ) → Has p ps → p < n) → AllByRecursion (λ q. q < n) ps
all_below [] n h = tt
all_below (p ∷ ps) n h = (h p (inl refl), all_below ps n (λ q k. h q (inr k)))

pub places_snoc : (outcomes : List Outcome) (o : Outcome) → places_in (outcomes ++ o ∷ []) ≡ places_in outcomes ++ places_in (o ∷ [])
places_snoc [] o = refl
places_snoc (Ok done ∷ outcomes) o = ap (λ ps. done.0 ∷ ps) (places_snoc outcomes o)
places_snoc (Err x ∷ outcomes) o = places_snoc outcomes o

pub told_snoc : (names : List (List ℕ)) (forms : List Form) (outcomes : List Outcome) (form : Form) (o : Outcome) → length outcomes ≡ length forms
    → told_calls names (forms ++ form ∷ []) (outcomes ++ o ∷ []) ≡ told_calls names forms outcomes ++ told_call names form o ∷ []
told_snoc names [] [] form o same = refl
told_snoc names [] (x ∷ outcomes) form o same = absurd (omega (arith, same))
told_snoc names (f ∷ forms) [] form o same = absurd (omega (arith, same))
told_snoc names (f ∷ forms) (x ∷ outcomes) form o same = ap (λ ts. told_call names f x ∷ ts) (told_snoc names forms outcomes form o (omega (arith, same)))

pub told_count : (names : List (List ℕ)) (forms : List Form) (outcomes : List Outcome) → length outcomes ≡ length forms → length (told_calls names forms outcomes) ≡ length outcomes
told_count names [] [] same = refl
told_count names [] (x ∷ outcomes) same = absurd (omega (arith, same))
told_count names (f ∷ forms) [] same = refl
told_count names (f ∷ forms) (x ∷ outcomes) same = omega (arith, told_count names forms outcomes (omega (arith, same)))

pub breaker_left : (b : Breach) (guest number : ℕ) (calls more : List Call) (outcomes later : List Outcome) → HasBreacher b guest number calls outcomes → HasBreacher b guest number (calls ++ more) (outcomes ++ later)
breaker_left b guest number calls more [] later h = absurd h
breaker_left b guest number [] more (o ∷ outcomes) later h = absurd h
breaker_left b guest number (c ∷ calls) more (o ∷ outcomes) later (inl h) = inl h
breaker_left b guest number (c ∷ calls) more (o ∷ outcomes) later (inr h) = inr (breaker_left b guest (number + 1) calls more outcomes later h)

pub breaker_last : (b : Breach) (guest number : ℕ) (calls : List Call) (outcomes : List Outcome) (call : Call) (o : Outcome) → length outcomes ≡ length calls → HasBreach guest (number + length outcomes) call b o
    → HasBreacher b guest number (calls ++ call ∷ []) (outcomes ++ o ∷ [])
breaker_last b guest number [] [] call o same h = inl (subst (λ n. HasBreach guest n call b o) {x = number + 0} (omega arith) h)
breaker_last b guest number [] (x ∷ outcomes) call o same h = absurd (omega (arith, same))
breaker_last b guest number (c ∷ calls) [] call o same h = absurd (omega (arith, same))
breaker_last b guest number (c ∷ calls) (x ∷ outcomes) call o same h =
    inr (breaker_last b guest (number + 1) calls outcomes call o (omega (arith, same)) (subst (λ n. HasBreach guest n call b o) {x = number + length (x ∷ outcomes)} {y = number + 1 + length outcomes} (omega arith) h))

-- ---- reads that failed by a reader

pub unread_snoc : (outcomes : List Outcome) (o : Outcome) → unread_in (outcomes ++ o ∷ []) ≡ unread_in outcomes ++ unread_of o
unread_snoc outcomes o = flat_map-append unread_of outcomes (o ∷ []) ∙ ap (λ fs. unread_in outcomes ++ fs) (append-nil (unread_of o))

pub unread_count : (outcomes : List Outcome) (o : Outcome) → length (unread_in (outcomes ++ o ∷ [])) ≡ length (unread_in outcomes) + length (unread_of o)
unread_count outcomes o = ap length (unread_snoc outcomes o) ∙ length-append (unread_in outcomes) (unread_of o)

pub unread_few : (outcomes : List Outcome) → length (unread_in outcomes) ≤ length outcomes
unread_few [] = omega arith
unread_few (Ok (place, Ok reply) ∷ outcomes) = omega (arith, unread_few outcomes)
unread_few (Ok (place, Err fault) ∷ outcomes) = omega (arith, unread_few outcomes)
unread_few (Err x ∷ outcomes) = omega (arith, unread_few outcomes)

counted_more : (counts : ℕ → ℕ) (faults more : List StoreFault) → IsCountedUp counts faults → IsCountedUp (counts_behind counts faults) more → IsCountedUp counts (faults ++ more)
counted_more counts [] more h k = k
counted_more counts (fault ∷ faults) more h k = (h.0, counted_more (with_count counts fault) faults more h.1 k)

pub counted_snoc : (outcomes : List Outcome) (o : Outcome) → IsCountedUp none_failed (unread_in outcomes) → IsCountedUp (counts_behind none_failed (unread_in outcomes)) (unread_of o) → IsCountedUp none_failed (unread_in (outcomes ++ o ∷ []))
counted_snoc outcomes o h k = subst (IsCountedUp none_failed) (sym (unread_snoc outcomes o)) (counted_more none_failed (unread_in outcomes) (unread_of o) h k)

pub all_unread_count : (guests : List (List Outcome)) (outcomes : List Outcome) → length (all_unread (guests ++ outcomes ∷ [])) ≡ length (all_unread guests) + length (unread_in outcomes)
all_unread_count guests outcomes =
    ap length (flat_map-append unread_in guests (outcomes ∷ []) ∙ ap (λ fs. all_unread guests ++ fs) (append-nil (unread_in outcomes))) ∙ length-append (all_unread guests) (unread_in outcomes)

-- ---- the forms of a guest's calls

forms_append : (guest : ℕ) (lines more : List Line) → forms_of guest (lines ++ more) ≡ forms_of guest lines ++ forms_of guest more
forms_append guest [] more = refl
forms_append guest (line ∷ lines) more = go (forms_append guest lines more) ((line.guest == guest) && is_call line.form)
  where
    go : forms_of guest (lines ++ more) ≡ forms_of guest lines ++ forms_of guest more → (b : Bool)
        → (if b then line.form ∷ forms_of guest (lines ++ more) else forms_of guest (lines ++ more)) ≡ (if b then line.form ∷ forms_of guest lines else forms_of guest lines) ++ forms_of guest more
    go rest true = ap (λ fs. line.form ∷ fs) rest
    go rest false = rest

own_form : (guest : ℕ) (line : Line) → (line.guest == guest) ≡ true → forms_of guest (line ∷ []) ≡ called_form line.form
own_form guest line own = ap (λ b. if b && is_call line.form then line.form ∷ [] else []) own ∙ go (is_call line.form)
  where
    go : (b : Bool) → (if true && b then line.form ∷ [] else []) ≡ (if b then line.form ∷ [] else [])
    go true = refl
    go false = refl

other_form : (guest : ℕ) (line : Line) → (line.guest == guest) ≡ false → forms_of guest (line ∷ []) ≡ []
other_form guest line other = ap (λ b. if b && is_call line.form then line.form ∷ [] else []) other

pub forms_more : (guest : ℕ) (lines : List Line) (i : ℕ) (d : Line) → i < length lines → (get_or lines i d).guest ≡ guest → forms_of guest (take (i + 1) lines) ≡ forms_of guest (take i lines) ++ called_form (get_or lines i d).form
forms_more guest lines i d within own =
    let line = get_or lines i d in
    ap (forms_of guest) (take_more lines i d within) ∙ forms_append guest (take i lines) (line ∷ []) ∙ ap (λ fs. forms_of guest (take i lines) ++ fs) (own_form guest line (eq-eqb line.guest guest own))

pub forms_same : (guest : ℕ) (lines : List Line) (i : ℕ) (d : Line) → i < length lines → (get_or lines i d).guest ≢ guest → forms_of guest (take (i + 1) lines) ≡ forms_of guest (take i lines)
forms_same guest lines i d within other =
    let line = get_or lines i d in
    ap (forms_of guest) (take_more lines i d within) ∙ forms_append guest (take i lines) (line ∷ []) ∙ ap (λ fs. forms_of guest (take i lines) ++ fs) (other_form guest line (ne_eqb line.guest guest other))
    ∙ append-nil (forms_of guest (take i lines))

pub forms_few : (guest : ℕ) (lines : List Line) → length (forms_of guest lines) ≤ length lines
forms_few guest [] = omega arith
forms_few guest (line ∷ lines) = go (forms_few guest lines) ((line.guest == guest) && is_call line.form)
  where
    go : length (forms_of guest lines) ≤ length lines → (b : Bool) → length (if b then line.form ∷ forms_of guest lines else forms_of guest lines) ≤ length (line ∷ lines)
    go rest true = omega (arith, rest)
    go rest false = omega (arith, rest)

-- as many are its calls
pub as_many : (forms : List Form) → length (map call_of forms) ≡ length forms
as_many forms = length-map forms call_of

pub calls_few : (guest : ℕ) (lines : List Line) → length (map call_of (forms_of guest lines)) ≤ length lines
calls_few guest lines = omega (arith, as_many (forms_of guest lines), forms_few guest lines)

-- and behind one more line those of the lines before it
pub calls_append : (forms more : List Form) → map call_of (forms ++ more) ≡ map call_of forms ++ map call_of more
calls_append forms more = map-append call_of forms more

-- ---- one more guest

pub each_snoc : (P : ℕ → List Outcome → Type 0) (guest : ℕ) (guests : List (List Outcome)) (outcomes : List Outcome) → EachGuest P guest guests → P (guest + length guests) outcomes → EachGuest P guest (guests ++ outcomes ∷ [])
each_snoc P guest [] outcomes h last = (subst (λ n. P n outcomes) {x = guest + 0} (omega arith) last, tt)
each_snoc P guest (os ∷ guests) outcomes h last =
    (h.0, each_snoc P (guest + 1) guests outcomes h.1 (subst (λ n. P n outcomes) {x = guest + length (os ∷ guests)} {y = guest + 1 + length guests} (omega arith) last))

pub each_map : (P Q : ℕ → List Outcome → Type 0) (guest : ℕ) (guests : List (List Outcome)) → ((g : ℕ) (os : List Outcome) → P g os → Q g os) → EachGuest P guest guests → EachGuest Q guest guests
each_map P Q guest [] f h = tt
each_map P Q guest (os ∷ guests) f h = (f guest os h.0, each_map P Q (guest + 1) guests f h.1)

pub some_left : (P : ℕ → List Outcome → Type 0) (guest : ℕ) (guests more : List (List Outcome)) → SomeGuest P guest guests → SomeGuest P guest (guests ++ more)
some_left P guest [] more h = absurd h
some_left P guest (os ∷ guests) more (inl h) = inl h
some_left P guest (os ∷ guests) more (inr h) = inr (some_left P (guest + 1) guests more h)

pub some_last : (P : ℕ → List Outcome → Type 0) (guest : ℕ) (guests : List (List Outcome)) (outcomes : List Outcome) → P (guest + length guests) outcomes → SomeGuest P guest (guests ++ outcomes ∷ [])
some_last P guest [] outcomes h = inl (subst (λ n. P n outcomes) {x = guest + 0} (omega arith) h)
some_last P guest (os ∷ guests) outcomes h = inr (some_last P (guest + 1) guests outcomes (subst (λ n. P n outcomes) {x = guest + length (os ∷ guests)} {y = guest + 1 + length guests} (omega arith) h))

pub some_map : (P Q : ℕ → List Outcome → Type 0) (guest : ℕ) (guests : List (List Outcome)) → ((g : ℕ) (os : List Outcome) → P g os → Q g os) → SomeGuest P guest guests → SomeGuest Q guest guests
some_map P Q guest [] f h = absurd h
some_map P Q guest (os ∷ guests) f (inl h) = inl (f guest os h)
some_map P Q guest (os ∷ guests) f (inr h) = inr (some_map P Q (guest + 1) guests f h)

-- what holds of each holds of the one
pub some_and : (P Q R : ℕ → List Outcome → Type 0) (guest : ℕ) (guests : List (List Outcome)) → ((g : ℕ) (os : List Outcome) → P g os → Q g os → R g os) → EachGuest P guest guests → SomeGuest Q guest guests → SomeGuest R guest guests
some_and P Q R guest [] f each h = absurd h
some_and P Q R guest (os ∷ guests) f each (inl h) = inl (f guest os each.0 h)
some_and P Q R guest (os ∷ guests) f each (inr h) = inr (some_and P Q R (guest + 1) guests f each.1 h)

pub told_guests_snoc : (names : List (List ℕ)) (guest : ℕ) (lines : List Line) (guests : List (List Outcome)) (outcomes : List Outcome)
    → told_guests names guest lines (guests ++ outcomes ∷ []) ≡ told_guests names guest lines guests ++ told_calls names (forms_of (guest + length guests) lines) outcomes ∷ []
told_guests_snoc names guest lines [] outcomes = ap (λ n. told_calls names (forms_of n lines) outcomes ∷ []) {x = guest} {y = guest + 0} (omega arith)
told_guests_snoc names guest lines (os ∷ guests) outcomes =
    ap (λ ts. told_calls names (forms_of guest lines) os ∷ ts)
    (told_guests_snoc names (guest + 1) lines guests outcomes
    ∙ ap (λ n. told_guests names (guest + 1) lines guests ++ told_calls names (forms_of n lines) outcomes ∷ []) {x = guest + 1 + length guests} {y = guest + length (os ∷ guests)} (omega arith))

pub told_guests_count : (names : List (List ℕ)) (guest : ℕ) (lines : List Line) (guests : List (List Outcome)) → length (told_guests names guest lines guests) ≡ length guests
told_guests_count names guest lines [] = refl
told_guests_count names guest lines (os ∷ guests) = omega (arith, told_guests_count names (guest + 1) lines guests)

-- ---- all that was told

all_append : {X : Type 0} (P : X → Type 0) (xs ys : List X) → AllByRecursion P xs → AllByRecursion P ys → AllByRecursion P (xs ++ ys)
all_append P [] ys h k = k
all_append P (x ∷ xs) ys h k = (h.0, all_append P xs ys h.1 k)

pub all_told_are : {X : Type 0} (P : X → Type 0) (told : List Outcome → List X) (guest : ℕ) (guests : List (List Outcome)) → EachGuest (λ g os. AllByRecursion P (told os)) guest guests → AllByRecursion P (flat_map told guests)
all_told_are P told guest [] h = tt
all_told_are P told guest (os ∷ guests) h = all_append P (told os) (flat_map told guests) h.0 (all_told_are P told (guest + 1) guests h.1)
