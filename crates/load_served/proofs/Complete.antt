-- Scripts of which every call was answered.
use Rattle.std.proofs.Common.{◌≡◌, ◌⊎◌, ℕ, ◌+◌, ◌<◌, ◌≤◌, ◌&&◌, nat_eq, Bool, false, cond, List, [], ◌∷◌, ◌++◌, length, map, drop, Option, Some, None, Result, Ok, Err, inl, inr, refl, sym, ap, ap₂, subst, ◌∙◌, arith, length-append, append_assoc}
use Rattle.std.specs.Prelude.{max, min}
use Rattle.std.specs.List.{AllByRecursion, filter, sum_by}
use Rattle.std.specs.Option.{option_or}
use Rattle.std.proofs.lemmas.Bool.{cases_Bool, cases_eq, cases_lt, cond-false, cond-true, eq-eqb, ne_eqb}
use Rattle.std.proofs.lemmas.List.{length-map, take-append-drop}
use Rattle.std.proofs.lemmas.List.Sums.{sum_by-append, sum_by-cons}
use Rattle.std.proofs.lemmas.List.Sorted.{sum_by-IsPermutation}
use Rattle.store_model.specs.declared.fault.StoreFault.{StoreFault}
use Rattle.guest_model.specs.declared.call.Entry.{Entry}
use Rattle.guest_model.specs.declared.call.Reply.{Reply}
use Rattle.guest_model.specs.declared.refusal.ChainRefusal.{ChainRefusal}
use Rattle.guest_model.specs.History.{History, is_flush, replay}
use Rattle.script.specs.Grammar.{is_call}
use Rattle.script.specs.declared.form.Form.{Form}
use Rattle.script.specs.declared.form.Form.TheVariants.{Copy, Fetch, Finish, Flush, Put, Read, Trim, Write}
use Rattle.script.specs.declared.form.Line.{Line}
use Rattle.script_session.specs.Histories.{Break, Drive}
use Rattle.load_calls.specs.Histories as load
use Rattle.load_calls.specs.Histories.{AreShared, EachAt, IsToldAt, StandsAt, Told, entries_of, told_in, told_to}
use Rattle.load_calls.specs.Load as loads
use Rattle.load_calls.specs.Laws.{LinesAreCounted, LoadsAreCounted, LoadsEndAlike, LoadsRunAlone}
use Rattle.load_calls.specs.Load.{IsHistoryOf, calls_of, entries_from, forms_from, lines_of, load_lines, one_thread, prepared_disk, preparing_lines, preparing_history, writes_to}
use Rattle.load_calls.specs.Printed.{disk_sum, is_read, is_trim, is_write, lines_text, seen_in, seen_sum}
use Rattle.load_calls.proofs.OwnSectors.{own_no, own_yes}
use Rattle.load_calls.proofs.Placed.{places_decide, places_tell}
use Rattle.load_calls.proofs.Prepared.{loads_have_lines, preparing_forms}
use Rattle.load_calls.proofs.Seen.{guests_see}
use Rattle.load_served.specs.Complete.{AnswersAreHistories, AnswersAreSeen, AnswersPrintAlike, AreAnswered, AreGuests, LoadsHaveGuests}
use Rattle.serve_session.specs.Served.{AreOutcomes, AreServed, EachGuest, Has, HasDone, IsRising, Outcome, SomeGuest, all_unread, asked_by, call_of, entry_of, forms_of, greatest_from, places_in, unread_in}
use Rattle.serve_session.specs.Tallies.{all_outcomes, first_refused, seen_of}

-- ---- the words of lines, here and there

same_call : (form : Form) → call_of form ≡ loads.call_of form
same_call (Read first count) = refl
same_call (Write first count byte) = refl
same_call (Trim first count) = refl
same_call Flush = refl
same_call (Fetch stripe) = refl
same_call Put = refl
same_call Copy = refl
same_call Finish = refl

same_forms : (guest : ℕ) (lines : List Line) → forms_of guest lines ≡ loads.forms_of guest lines
same_forms guest [] = refl
same_forms guest (l ∷ lines) = elim (cases_Bool (nat_eq l.guest guest && is_call l.form)) [
  | inl own ↦
      cond-true (nat_eq l.guest guest && is_call l.form) (l.form ∷ forms_of guest lines) (forms_of guest lines) own
      ∙ ap (λ fs. l.form ∷ fs) (same_forms guest lines)
      ∙ sym (ap (map (λ (l : Line). l.form)) (cond-true (nat_eq l.guest guest && is_call l.form) (l ∷ filter (λ l. nat_eq l.guest guest && is_call l.form) lines) (filter (λ l. nat_eq l.guest guest && is_call l.form) lines) own))
  | inr other ↦
      cond-false (nat_eq l.guest guest && is_call l.form) (l.form ∷ forms_of guest lines) (forms_of guest lines) other
      ∙ same_forms guest lines
      ∙ sym (ap (map (λ (l : Line). l.form)) (cond-false (nat_eq l.guest guest && is_call l.form) (l ∷ filter (λ l. nat_eq l.guest guest && is_call l.form) lines) (filter (λ l. nat_eq l.guest guest && is_call l.form) lines) other))
]

rising_so : (places : List ℕ) → IsRising places → load.IsRising places
rising_so [] rising = tt
rising_so (p ∷ places) rising = (rising.0, rising_so places rising.1)

has_so : (p : ℕ) (places : List ℕ) → Has p places → load.Has p places
has_so p [] has = has
has_so p (q ∷ places) (inl is) = inl is
has_so p (q ∷ places) (inr has) = inr (has_so p places has)

-- ---- guest by guest

-- what guest g was told, where the first is that of a number; off the list nothing
told_by : ℕ → ℕ → List (List Outcome) → List Outcome
told_by g first [] = []
told_by g first (outcomes ∷ guests) = cond (nat_eq first g) outcomes (told_by g (first + 1) guests)

here_told : (g first : ℕ) (outcomes : List Outcome) (guests : List (List Outcome)) → first ≡ g → told_by g first (outcomes ∷ guests) ≡ outcomes
unfolding told_by
here_told g first outcomes guests is = cond-true (nat_eq first g) outcomes (told_by g (first + 1) guests) (eq-eqb first g is)

later_told : (g first : ℕ) (outcomes : List Outcome) (guests : List (List Outcome)) → (first ≡ g → ⊥) → told_by g first (outcomes ∷ guests) ≡ told_by g (first + 1) guests
unfolding told_by
later_told g first outcomes guests apart = cond-false (nat_eq first g) outcomes (told_by g (first + 1) guests) (ne_eqb first g apart)

each_told : (P : ℕ → List Outcome → Type 0) (first g : ℕ) (guests : List (List Outcome)) → EachGuest P first guests → first ≤ g → g < first + length guests → P g (told_by g first guests)
each_told P first g [] h low high = absurd (omega (arith, low, high))
each_told P first g (outcomes ∷ guests) h low high = elim (cases_lt first g) [
  | inl later ↦
      subst (λ os. P g os) (sym (later_told g first outcomes guests (λ is. omega (arith, later, is)))) (each_told P (first + 1) g guests h.1 (omega (arith, later)) (omega (arith, high)))
  | inr here ↦ let is : first ≡ g = omega (arith, low, here) in subst (λ os. P g os) (sym (here_told g first outcomes guests is)) (subst (λ n. P n outcomes) is h.0)
]

none_told : (first g : ℕ) (guests : List (List Outcome)) → (g < first) ⊎ (first + length guests ≤ g) → told_by g first guests ≡ []
unfolding told_by
none_told first g [] off = refl
none_told first g (outcomes ∷ guests) (inl low) = later_told g first outcomes guests (λ is. omega (arith, low, is)) ∙ none_told (first + 1) g guests (inl (omega (arith, low)))
none_told first g (outcomes ∷ guests) (inr high) = later_told g first outcomes guests (λ is. omega (arith, high, is)) ∙ none_told (first + 1) g guests (inr (omega (arith, high)))

some_told : (P : ℕ → List Outcome → Type 0) (first : ℕ) (guests : List (List Outcome)) → SomeGuest P first guests → (g : ℕ) × (first ≤ g) × P g (told_by g first guests)
some_told P first [] h = absurd h
some_told P first (outcomes ∷ guests) (inl p) = (first, omega arith, subst (λ os. P first os) (sym (here_told first first outcomes guests refl)) p)
some_told P first (outcomes ∷ guests) (inr h) =
    let rest = some_told P (first + 1) guests h in
    (rest.0, omega (arith, rest.1), subst (λ os. P rest.0 os) (sym (later_told rest.0 first outcomes guests (λ is. omega (arith, rest.1, is)))) rest.2)

-- of the numbers from first on, so many, or of none
in_or_off : (first n g : ℕ) → ((first ≤ g) × (g < first + n)) ⊎ ((g < first) ⊎ (first + n ≤ g))
in_or_off first n g = elim (cases_lt g first) [
  | inl low ↦ inr (inl low)
  | inr from ↦ elim (cases_lt g (first + n)) [ inl to ↦ inl (from, to) | inr past ↦ inr (inr past) ]
]

-- ---- one guest, who was answered

-- the first refusal of two lists
first_both : (a b : List Outcome) → first_refused (a ++ b) ≡ option_or (first_refused a) (first_refused b)
first_both [] b = refl
first_both (Ok done ∷ a) b = first_both a b
first_both (Err refusal ∷ a) b = refl

abbrev Answered : ℕ → List Outcome → Type 0
Answered guest outcomes = (first_refused outcomes ≡ None) × (length (unread_in outcomes) ≡ 0)

none_either : (a b : Option ChainRefusal) → option_or a b ≡ None → (a ≡ None) × (b ≡ None)
none_either None b none = (refl, none)
none_either (Some x) b none = cc

each_answered : (first : ℕ) (guests : List (List Outcome)) → first_refused (all_outcomes guests) ≡ None → length (all_unread guests) ≡ 0 → EachGuest Answered first guests
each_answered first [] taken read = tt
each_answered first (outcomes ∷ guests) taken read =
    let both = none_either (first_refused outcomes) (first_refused (all_outcomes guests)) (sym (first_both outcomes (all_outcomes guests)) ∙ taken) in
    let count : length (unread_in outcomes ++ all_unread guests) ≡ length (unread_in outcomes) + length (all_unread guests) = length-append (unread_in outcomes) (all_unread guests) in
    ((both.0, omega (arith, count, read)), each_answered (first + 1) guests both.1 (omega (arith, count, read)))

-- what a call that was done stands behind
stands : (drive : Drive) (h : History) (e : Entry) (done : ℕ × Result Reply StoreFault) (d : HasDone drive h e done) → h ≡ d.before ++ e ∷ drop (length (d.before ++ e ∷ [])) h
stands drive h e done d =
    let n = length (d.before ++ e ∷ []) in
    sym (take-append-drop n h) ∙ ap (λ l. l ++ drop n h) d.begins ∙ append_assoc d.before (e ∷ []) (drop n h)

module _ (drive : Drive) (h : History) (ended : Option StoreFault) (guest : ℕ) where
  -- what its calls were told, as entries
  tolds : ℕ → List Form → List Outcome → List Told
  tolds number [] outcomes = []
  tolds number (form ∷ forms) [] = []
  tolds number (form ∷ forms) (Ok (place, Ok r) ∷ outcomes) = record { entry = entry_of guest number (loads.call_of form); told = r } ∷ tolds (number + 1) forms outcomes
  tolds number (form ∷ forms) (Ok (place, Err fault) ∷ outcomes) = tolds (number + 1) forms outcomes
  tolds number (form ∷ forms) (Err refusal ∷ outcomes) = tolds (number + 1) forms outcomes

  own_tolds : (number : ℕ) (forms : List Form) (outcomes : List Outcome) → AllByRecursion (λ t. t.entry.guest ≡ guest) (tolds number forms outcomes)
  unfolding tolds
  own_tolds number [] outcomes = tt
  own_tolds number (form ∷ forms) [] = tt
  own_tolds number (form ∷ forms) (Ok (place, Ok r) ∷ outcomes) = (refl, own_tolds (number + 1) forms outcomes)
  own_tolds number (form ∷ forms) (Ok (place, Err fault) ∷ outcomes) = own_tolds (number + 1) forms outcomes
  own_tolds number (form ∷ forms) (Err refusal ∷ outcomes) = own_tolds (number + 1) forms outcomes

  -- where they stand
  told_at : (number : ℕ) (forms : List Form) (outcomes : List Outcome) → length outcomes ≡ length forms → Answered guest outcomes → AreOutcomes drive h ended false guest number (map call_of forms) outcomes
      → EachAt (IsToldAt 512 drive.opening h) (places_in outcomes) (tolds number forms outcomes)
  unfolding tolds
  told_at number [] [] same answered told = tt
  told_at number [] (o ∷ outcomes) same answered told = absurd (omega (arith, same))
  told_at number (form ∷ forms) [] same answered told = absurd (omega (arith, same))
  told_at number (form ∷ forms) (Ok (place, Ok r) ∷ outcomes) same answered told =
      let d : HasDone drive h (entry_of guest number (loads.call_of form)) (place, Ok r) = subst (λ c. HasDone drive h (entry_of guest number c) (place, Ok r)) (same_call form) told.0 in (
        record { stands = record { before = d.before; behind = _; is = stands drive h _ _ d; place = d.place_is }; told = d.reply_is },
        told_at (number + 1) forms outcomes (omega (arith, same)) answered told.1,
      )
  told_at number (form ∷ forms) (Ok (place, Err fault) ∷ outcomes) same answered told = absurd (omega (arith, answered.1))
  told_at number (form ∷ forms) (Err refusal ∷ outcomes) same answered told = let never : Some refusal ≡ None = answered.0 in cc

  stand_at : (number : ℕ) (forms : List Form) (outcomes : List Outcome) → length outcomes ≡ length forms → Answered guest outcomes → AreOutcomes drive h ended false guest number (map call_of forms) outcomes
      → EachAt (StandsAt h) (places_in outcomes) (entries_from guest number forms)
  stand_at number [] [] same answered told = tt
  stand_at number [] (o ∷ outcomes) same answered told = absurd (omega (arith, same))
  stand_at number (form ∷ forms) [] same answered told = absurd (omega (arith, same))
  stand_at number (form ∷ forms) (Ok (place, Ok r) ∷ outcomes) same answered told =
      let d : HasDone drive h (entry_of guest number (loads.call_of form)) (place, Ok r) = subst (λ c. HasDone drive h (entry_of guest number c) (place, Ok r)) (same_call form) told.0 in (
        record { before = d.before; behind = _; is = stands drive h _ _ d; place = d.place_is },
        stand_at (number + 1) forms outcomes (omega (arith, same)) answered told.1,
      )
  stand_at number (form ∷ forms) (Ok (place, Err fault) ∷ outcomes) same answered told = absurd (omega (arith, answered.1))
  stand_at number (form ∷ forms) (Err refusal ∷ outcomes) same answered told = let never : Some refusal ≡ None = answered.0 in cc

  -- and what they saw
  saw : (number : ℕ) (forms : List Form) (outcomes : List Outcome) → length outcomes ≡ length forms → Answered guest outcomes → sum_by (λ (t : Told). seen_in t.told) (tolds number forms outcomes) ≡ sum_by seen_of outcomes
  unfolding tolds
  saw number [] [] same answered = refl
  saw number [] (o ∷ outcomes) same answered = absurd (omega (arith, same))
  saw number (form ∷ forms) [] same answered = absurd (omega (arith, same))
  saw number (form ∷ forms) (Ok (place, Ok r) ∷ outcomes) same answered =
      let t : Told = record { entry = entry_of guest number (loads.call_of form); told = r } in
      let o : Outcome = Ok (place, Ok r) in
      sum_by-cons (λ (t : Told). seen_in t.told) t (tolds (number + 1) forms outcomes)
      ∙ ap (λ n. seen_in r + n) (saw (number + 1) forms outcomes (omega (arith, same)) answered)
      ∙ sym (sum_by-cons seen_of o outcomes)
  saw number (form ∷ forms) (Ok (place, Err fault) ∷ outcomes) same answered = absurd (omega (arith, answered.1))
  saw number (form ∷ forms) (Err refusal ∷ outcomes) same answered = let never : Some refusal ≡ None = answered.0 in cc

-- ---- all guests

no_forms : (count g : ℕ) (lines : List Line) → AreGuests count lines → (g < 1) ⊎ (1 + count ≤ g) → loads.forms_of g lines ≡ []
no_forms count g [] own off = refl
no_forms count g (l ∷ lines) own off =
    let apart : (l.guest ≡ g) → ⊥ = λ is. elim off [ inl low ↦ omega (arith, low, is, own.0.0) | inr high ↦ omega (arith, high, is, own.0.1) ] in
    let not : (nat_eq l.guest g && is_call l.form) ≡ false = ap (λ b. b && is_call l.form) (ne_eqb l.guest g apart) in
    ap (map (λ (l : Line). l.form)) (cond-false (nat_eq l.guest g && is_call l.form) (l ∷ filter (λ l. nat_eq l.guest g && is_call l.form) lines) (filter (λ l. nat_eq l.guest g && is_call l.form) lines) not)
    ∙ no_forms count g lines own.1 off

module _ (merges : Bool) (drive : Drive) (lines : List Line) (guests : List (List Outcome)) (h : History) (ended : Option StoreFault) (broken : Option Break) (s : AreServed merges drive (asked_by lines) guests h ended broken)
    (own : AreGuests (length guests) lines) (a : AreAnswered lines guests) where
  outcomes_of : ℕ → List Outcome
  outcomes_of g = told_by g 1 guests

  places : ℕ → List ℕ
  places g = places_in (outcomes_of g)

  answered : EachGuest Answered 1 guests
  answered = each_answered 1 guests a.taken a.read

  shared : AreShared (length h) places
  unfolding places outcomes_of
  shared = record {
    rising = λ g. elim (in_or_off 1 (length guests) g) [
      | inl is ↦ rising_so (places_in (told_by g 1 guests)) (each_told (λ g os. IsRising (places_in os)) 1 g guests s.order is.0 is.1)
      | inr off ↦ subst (λ os. load.IsRising (places_in os)) (sym (none_told 1 g guests off)) tt
    ];
    each = λ p low high.
        let some = some_told (λ g os. Has p (places_in os)) 1 guests (s.all p low high) in
        (some.0, has_so p (places_in (told_by some.0 1 guests)) some.2);
  }

  all_made : (g : ℕ) → 1 ≤ g → g < 1 + length guests → length (told_by g 1 guests) ≡ length (forms_of g lines)
  all_made g low high = each_told (λ g os. length os ≡ length (map call_of (forms_of g lines))) 1 g guests a.whole low high ∙ length-map (forms_of g lines) call_of

  stand : (g : ℕ) → EachAt (StandsAt h) (places g) (entries_from g 1 (loads.forms_of g lines))
  unfolding places outcomes_of
  stand g = elim (in_or_off 1 (length guests) g) [
    | inl is ↦
        subst (λ fs. EachAt (StandsAt h) (places_in (told_by g 1 guests)) (entries_from g 1 fs)) (same_forms g lines)
        (stand_at drive h ended g 1 (forms_of g lines) (told_by g 1 guests) (all_made g is.0 is.1) (each_told Answered 1 g guests answered is.0 is.1)
        (each_told (λ g os. AreOutcomes drive h ended false g 1 (map call_of (forms_of g lines)) os) 1 g guests s.told is.0 is.1))
    | inr off ↦
        subst (λ os. EachAt (StandsAt h) (places_in os) (entries_from g 1 (loads.forms_of g lines))) (sym (none_told 1 g guests off))
        (subst (λ fs. EachAt (StandsAt h) [] (entries_from g 1 fs)) (sym (no_forms (length guests) g lines own off)) tt)
  ]

  is_history : IsHistoryOf lines h
  is_history = places_decide lines h places shared stand

  told : ℕ → List Told
  told g = tolds drive h ended g 1 (forms_of g lines) (outcomes_of g)

  none_tolds : (g : ℕ) (forms : List Form) → tolds drive h ended g 1 forms [] ≡ []
  unfolding tolds
  none_tolds g [] = refl
  none_tolds g (f ∷ forms) = refl

  are_told : (g : ℕ) → EachAt (IsToldAt 512 drive.opening h) (places g) (told g)
  unfolding places outcomes_of told
  are_told g = elim (in_or_off 1 (length guests) g) [
    | inl is ↦
        told_at drive h ended g 1 (forms_of g lines) (told_by g 1 guests) (all_made g is.0 is.1) (each_told Answered 1 g guests answered is.0 is.1)
        (each_told (λ g os. AreOutcomes drive h ended false g 1 (map call_of (forms_of g lines)) os) 1 g guests s.told is.0 is.1)
    | inr off ↦
        subst (λ os. EachAt (IsToldAt 512 drive.opening h) (places_in os) (tolds drive h ended g 1 (forms_of g lines) os)) (sym (none_told 1 g guests off))
        (subst (λ ts. EachAt (IsToldAt 512 drive.opening h) [] ts) (sym (none_tolds g (forms_of g lines))) tt)
  ]

  each_saw : (g : ℕ) → 1 ≤ g → g < 1 + length guests → sum_by (λ (t : Told). seen_in t.told) (told_to g (told_in 512 drive.opening h)) ≡ sum_by seen_of (told_by g 1 guests)
  unfolding outcomes_of told
  each_saw g low high =
      ap (sum_by (λ (t : Told). seen_in t.told)) (places_tell 512 drive.opening h places told shared (λ g. own_tolds drive h ended g 1 (forms_of g lines) (told_by g 1 guests)) are_told g)
      ∙ saw drive h ended g 1 (forms_of g lines) (told_by g 1 guests) (all_made g low high) (each_told Answered 1 g guests answered low high)

pub answers_are_histories : AnswersAreHistories
answers_are_histories merges drive lines guests h ended broken s own a = is_history merges drive lines guests h ended broken s own a

-- ---- of a load

four_told : (guests : List (List Outcome)) → length guests ≡ 4
    → sum_by seen_of (all_outcomes guests) ≡ sum_by seen_of (told_by 1 1 guests) + sum_by seen_of (told_by 2 1 guests) + sum_by seen_of (told_by 3 1 guests) + sum_by seen_of (told_by 4 1 guests)
unfolding told_by
four_told [] count = absurd (omega (arith, count))
four_told (a ∷ []) count = absurd (omega (arith, count))
four_told (a ∷ b ∷ []) count = absurd (omega (arith, count))
four_told (a ∷ b ∷ c ∷ []) count = absurd (omega (arith, count))
four_told (a ∷ b ∷ c ∷ d ∷ e ∷ more) count = absurd (omega (arith, count))
four_told (a ∷ b ∷ c ∷ d ∷ []) count =
    let rest : sum_by seen_of (d ++ []) ≡ sum_by seen_of d + 0 = sum_by-append seen_of d [] in
    let three : sum_by seen_of (c ++ d ++ []) ≡ sum_by seen_of c + sum_by seen_of d = sum_by-append seen_of (c ++ d) [] ∙ ap (λ n. n + 0) (sum_by-append seen_of c d) ∙ plus_none (sum_by seen_of c + sum_by seen_of d) in
    sum_by-append seen_of a (b ++ (c ++ (d ++ []))) ∙ ap (λ n. sum_by seen_of a + n) (sum_by-append seen_of b (c ++ (d ++ [])) ∙ ap (λ n. sum_by seen_of b + n) (sum_by-append seen_of c (d ++ []) ∙ ap (λ n. sum_by seen_of c + n) rest))
    ∙ plus_four (sum_by seen_of a) (sum_by seen_of b) (sum_by seen_of c) (sum_by seen_of d)
  where
    plus_none : (n : ℕ) → n + 0 ≡ n
    plus_none n = omega arith

    plus_four : (a b c d : ℕ) → a + (b + (c + (d + 0))) ≡ a + b + c + d
    plus_four a b c d = omega arith

pub answers_are_seen : AnswersAreSeen
answers_are_seen merges drive seed guests h ended broken s count a =
    let own : AreGuests (length guests) (load_lines seed) = subst (λ n. AreGuests n (load_lines seed)) (sym count) (loads_have_lines seed).guests in
    let is = is_history merges drive (load_lines seed) guests h ended broken s own a in
    let each : (g : ℕ) → 1 ≤ g → g ≤ 4 → sum_by (λ (t : Told). seen_in t.told) (told_to g (told_in 512 drive.opening h)) ≡ sum_by seen_of (told_by g 1 guests) =
    λ g low high. each_saw merges drive (load_lines seed) guests h ended broken s own a g low (omega (arith, count, high)) in
    four_told guests count
    ∙ sym (ap₂ (λ n m. n + m) (ap₂ (λ n m. n + m) (ap₂ (λ n m. n + m) (each 1 (omega arith) (omega arith)) (each 2 (omega arith) (omega arith))) (each 3 (omega arith) (omega arith))) (each 4 (omega arith) (omega arith)))
    ∙ sym (guests_see seed drive.opening h is)

-- ---- what is printed

same_lines : (a b c d e f g p q r s t u v : ℕ) → a ≡ p → b ≡ q → c ≡ r → d ≡ s → e ≡ t → f ≡ u → g ≡ v → lines_text a b c d e f g ≡ lines_text p q r s t u v
same_lines a b c d e f g p q r s t u v h i j k l m n =
    ap (λ x. lines_text x b c d e f g) h ∙ ap (λ x. lines_text p x c d e f g) i ∙ ap (λ x. lines_text p q x d e f g) j ∙ ap (λ x. lines_text p q r x e f g) k
    ∙ ap (λ x. lines_text p q r s x f g) l ∙ ap (λ x. lines_text p q r s t x g) m ∙ ap (λ x. lines_text p q r s t u x) n

pub answers_print_alike : LoadsEndAlike → LoadsRunAlone → LoadsAreCounted → LinesAreCounted → AnswersPrintAlike
answers_print_alike alike alone counted lines_of_calls merges drive seed guests h ended broken counts opening s count a are =
    let own : AreGuests (length guests) (load_lines seed) = subst (λ n. AreGuests n (load_lines seed)) (sym count) (loads_have_lines seed).guests in
    let is = is_history merges drive (load_lines seed) guests h ended broken s own a in
    let ends = alike seed (prepared_disk seed) h is in
    same_lines _ _ _ _ _ _ _ _ _ _ _ _ _ _
    (are.calls ∙ (loads_have_lines seed).all ∙ sym (counted seed (one_thread seed) (alone seed)))
    (are.writes ∙ lines_of_calls seed is_write)
    (are.trims ∙ lines_of_calls seed is_trim)
    (are.reads ∙ lines_of_calls seed is_read)
    (are.flushes ∙ lines_of_calls seed is_flush)
    (ap (λ d. disk_sum (replay 512 d h)) opening ∙ ap disk_sum ends.left)
    (answers_are_seen merges drive seed guests h ended broken s count a ∙ ap (λ d. seen_sum d h) opening
    ∙ sym (sum_by-IsPermutation (λ (t : Told). seen_in t.told) (told_in 512 (prepared_disk seed) h) (told_in 512 (prepared_disk seed) (one_thread seed)) ends.all))

-- ---- how many guests there are

greatest_both : (n : ℕ) (a b : List Line) → greatest_from n (a ++ b) ≡ greatest_from (greatest_from n a) b
greatest_both n [] b = refl
greatest_both n (l ∷ a) b = greatest_both (max n l.guest) a b

max_to : (n g : ℕ) → n ≤ g → max n g ≡ g
max_to n g le = grind (arith, le)

greatest_same : (g : ℕ) (forms : List Form) → greatest_from g (lines_of g forms) ≡ g
greatest_same g [] = refl
greatest_same g (f ∷ forms) = ap (λ n. greatest_from n (lines_of g forms)) (max_to g g (omega arith)) ∙ greatest_same g forms

greatest_lines : (n g : ℕ) (forms : List Form) → n ≤ g → 0 < length forms → greatest_from n (lines_of g forms) ≡ g
greatest_lines n g [] le some = absurd (omega (arith, some))
greatest_lines n g (f ∷ forms) le some = ap (λ n. greatest_from n (lines_of g forms)) (max_to n g le) ∙ greatest_same g forms

greatest_load : (seed : ℕ) → greatest_from 0 (load_lines seed) ≡ 4
greatest_load seed =
    let part : ℕ → List Line = λ g. lines_of g (calls_of seed g) in
    let step : (n g : ℕ) → n ≤ g → greatest_from n (part g) ≡ g = λ n g le. greatest_lines n g (calls_of seed g) le (let many = (loads_have_lines seed).each g in omega (arith, many)) in
    greatest_both 0 (part 1 ++ part 2 ++ part 3) (part 4)
    ∙ ap (λ n. greatest_from n (part 4)) (greatest_both 0 (part 1 ++ part 2) (part 3) ∙ ap (λ n. greatest_from n (part 3)) (greatest_both 0 (part 1) (part 2) ∙ ap (λ n. greatest_from n (part 2)) (step 0 1 (omega arith)) ∙ step 1 2 (omega arith)) ∙ step 2 3 (omega arith))
    ∙ step 3 4 (omega arith)

one_guest : (forms : List Form) → AreGuests 1 (lines_of 1 forms)
one_guest [] = tt
one_guest (f ∷ forms) = ((omega arith, omega arith), one_guest forms)

preparing_many : (seed file : ℕ) → 0 < length (writes_to seed file ++ Flush ∷ [])
preparing_many seed file = let all : length (writes_to seed file ++ Flush ∷ []) ≡ length (writes_to seed file) + 1 = length-append (writes_to seed file) (Flush ∷ []) in omega (arith, all)

-- where all entries are guest 1's, it is its own
all_first : (h : History) (k : History) → ((g : ℕ) → (g ≡ 1 → ⊥) → entries_of g h ≡ []) → entries_of 1 h ≡ k → h ≡ k
all_first h k others is = sym (own h others) ∙ is
  where
    own : (h : History) → ((g : ℕ) → (g ≡ 1 → ⊥) → entries_of g h ≡ []) → entries_of 1 h ≡ h
    own [] others = refl
    own (e ∷ h) others = elim (cases_eq e.guest 1) [
      | inl first ↦
          own_yes 1 e h (eq-eqb e.guest 1 first)
          ∙ ap (λ l. e ∷ l) (own h (λ g apart. sym (own_no g e h (ne_eqb e.guest g (λ is. apart (sym is ∙ first)))) ∙ others g apart))
      | inr other ↦ absurd (let never : e ∷ entries_of e.guest h ≡ [] = sym (own_yes e.guest e h (eq-eqb e.guest e.guest refl)) ∙ others e.guest other in cc)
    ]

pub loads_have_guests : LoadsHaveGuests
loads_have_guests seed = record {
  guests = ap (λ n. min n 64) (greatest_load seed);
  own = (loads_have_lines seed).guests;
  preparing = λ file. ap (λ n. min n 64) (greatest_lines 0 1 (writes_to seed file ++ Flush ∷ []) (omega arith) (preparing_many seed file));
  preparing_own = λ file. one_guest (writes_to seed file ++ Flush ∷ []);
  prepared = λ file h is.
      all_first h (preparing_history seed file)
      (λ g apart. is g ∙ ap (entries_from g 1) (no_forms 1 g (preparing_lines seed file) (one_guest (writes_to seed file ++ Flush ∷ [])) (off g apart)))
      (is 1 ∙ ap (entries_from 1 1) (preparing_forms seed file));
}
  where
    off : (g : ℕ) → (g ≡ 1 → ⊥) → (g < 1) ⊎ (1 + 1 ≤ g)
    off g apart = elim (cases_lt g 1) [ inl low ↦ inl low | inr from ↦ inr (omega (arith, from, apart)) ]
