-- What guests' calls come to, call by call and guest by guest.
use Rattle.std.proofs.Common.{◌≡◌, ◌+◌, ◌^◌, ◌<◌, ◌≤◌, ◌++◌, ◌∷◌, ℕ, zero, suc, List, [], length, Option, Some, None, Result, Ok, Err, refl, sym, ap, ap₂, subst, ◌∙◌, arith, length-append}
use Rattle.std.specs.Prelude.{replicate}
use Rattle.std.specs.Option.{option_or}
use Rattle.std.proofs.lemmas.List.{append-nil}
use Rattle.std.proofs.lemmas.Grind.{flat_map-append}
use Rattle.std.proofs.lemmas.List.Sums.{sum_by-append}
use Rattle.store_model.specs.declared.fault.StoreFault.{StoreFault}
use Rattle.guest_io.specs.declared.placed.Placed.{Placed}
use Rattle.guest_model.specs.declared.call.Reply.{Reply}
use Rattle.guest_model.specs.declared.refusal.ChainRefusal.{ChainRefusal}
use Rattle.guest_model.specs.declared.refusal.ChainRefusal.TheVariants.{Abandoned, Broken, EmptyRange, FileFull, NoMerge, NoPiece, NoRoom, NoStripe, NotYet, OutOfRange, ReadFault, ReadOnly, Spent, Stale, TooLong}
use Rattle.serve_session.specs.Asking.{outcome_of, read_as}
use Rattle.serve_session.specs.Served.{Outcome}
use Rattle.serve_session.specs.Tallies.{AddsUp, all_outcomes, first_refused, no_tally, refused_by, seen_of, with_outcome}
use Rattle.serve_session.specs.declared.tally.Tally.{Tally}

-- the first refusal of two lists
first_both : (a b : List Outcome) → first_refused (a ++ b) ≡ option_or (first_refused a) (first_refused b)
first_both [] b = refl
first_both (Ok done ∷ a) b = first_both a b
first_both (Err refusal ∷ a) b = refl

pub all_outcomes_snoc : (guests : List (List Outcome)) (outcomes : List Outcome) → all_outcomes (guests ++ outcomes ∷ []) ≡ all_outcomes guests ++ outcomes
all_outcomes_snoc guests outcomes = flat_map-append (λ (os : List Outcome). os) guests (outcomes ∷ []) ∙ ap (λ os. all_outcomes guests ++ os) (append-nil outcomes)

-- of no call
pub none_add : AddsUp no_tally []
none_add = record { seen = refl; refused = refl; few = omega arith }

all_none : (n : ℕ) → all_outcomes (replicate n []) ≡ []
all_none zero = refl
all_none (suc n) = all_none n

pub none_add_all : (n : ℕ) → AddsUp no_tally (all_outcomes (replicate n []))
none_add_all n = subst (AddsUp no_tally) (sym (all_none n)) none_add

-- calls, and others behind them
pub both_add : (xs ys : List Outcome) (a b c : Tally) → AddsUp a xs → AddsUp b ys → length xs + length ys < 2 ^ 40 → (a.seen + b.seen < 2 ^ 64 → c.seen ≡ a.seen + b.seen) → c.refused ≡ option_or a.refused b.refused → AddsUp c (xs ++ ys)
both_add xs ys a b c p q few seen refused =
    let all : length (xs ++ ys) ≡ length xs + length ys = length-append xs ys in
    let fits : a.seen + b.seen < 2 ^ 64 = omega (arith, p.few, q.few, few) in
    let is : c.seen ≡ a.seen + b.seen = seen fits in
    record {
      seen = is ∙ ap₂ (λ n m. n + m) p.seen q.seen ∙ sym (sum_by-append seen_of xs ys);
      refused = refused ∙ ap₂ option_or p.refused q.refused ∙ sym (first_both xs ys);
      few = omega (arith, p.few, q.few, is, all);
    }

-- one more call
pub call_adds : (r : Reply) (answer : Result Placed ChainRefusal) (a b c : Tally) → b.seen ≡ seen_of (outcome_of r answer) → b.seen ≤ 2 ^ 19 → b.refused ≡ refused_by answer → (a.seen + b.seen < 2 ^ 64 → c.seen ≡ a.seen + b.seen)
    → c.refused ≡ option_or a.refused b.refused → (outcomes : List Outcome) → length outcomes < 2 ^ 32 → AddsUp a outcomes → AddsUp c (with_outcome outcomes r answer)
call_adds r answer a b c saw few told seen refused outcomes short p = go answer saw told
  where
    more : (o : Outcome) → b.seen ≡ seen_of o → b.refused ≡ first_refused (o ∷ []) → AddsUp c (outcomes ++ o ∷ [])
    more o saw told = both_add outcomes (o ∷ []) a b c p (record { seen = saw ∙ one_sum (seen_of o); refused = told; few = omega (arith, few) }) (omega (arith, short)) seen refused
      where
        one_sum : (n : ℕ) → n ≡ 0 + n
        one_sum n = omega arith

    or_none : (o : Option ChainRefusal) → option_or o None ≡ o
    or_none None = refl
    or_none (Some x) = refl

    -- memory ran out for it
    same : b.seen ≡ 0 → b.refused ≡ None → AddsUp c outcomes
    same none quiet =
        let fits : a.seen + b.seen < 2 ^ 64 = omega (arith, p.few, short, none) in
        let is : c.seen ≡ a.seen = (let sum = seen fits in omega (arith, sum, none)) in
        record {
          seen = is ∙ p.seen;
          refused = refused ∙ ap (option_or a.refused) quiet ∙ or_none a.refused ∙ p.refused;
          few = omega (arith, p.few, is);
        }

    by_read : (place : ℕ) (read : Result (Unit {0}) StoreFault) → b.seen ≡ seen_of (Ok (place, read_as r read)) → b.refused ≡ None → AddsUp c (outcomes ++ Ok (place, read_as r read) ∷ [])
    by_read place read saw told = more (Ok (place, read_as r read)) saw told

    go : (answer : Result Placed ChainRefusal) → b.seen ≡ seen_of (outcome_of r answer) → b.refused ≡ refused_by answer → AddsUp c (with_outcome outcomes r answer)
    go (Ok placed) saw told = by_read placed.place placed.read saw told
    go (Err EmptyRange) saw told = more (Err EmptyRange) saw told
    go (Err (OutOfRange x y z)) saw told = more (Err (OutOfRange x y z)) saw told
    go (Err (TooLong x y)) saw told = more (Err (TooLong x y)) saw told
    go (Err ReadOnly) saw told = more (Err ReadOnly) saw told
    go (Err (Broken file count)) saw told = more (Err (Broken file count)) saw told
    go (Err (Spent t)) saw told = more (Err (Spent t)) saw told
    go (Err (FileFull next)) saw told = more (Err (FileFull next)) saw told
    go (Err (ReadFault file count)) saw told = more (Err (ReadFault file count)) saw told
    go (Err NoMerge) saw told = more (Err NoMerge) saw told
    go (Err (Stale taken now)) saw told = more (Err (Stale taken now)) saw told
    go (Err (NotYet stripe)) saw told = more (Err (NotYet stripe)) saw told
    go (Err (Abandoned file count)) saw told = more (Err (Abandoned file count)) saw told
    go (Err (NoStripe stripe stripes)) saw told = more (Err (NoStripe stripe stripes)) saw told
    go (Err NoPiece) saw told = more (Err NoPiece) saw told
    go (Err NoRoom) saw told = same saw told
