-- Calls that were told truly are those of one history.
use Rattle.std.proofs.Common.{◌≡◌, ◌≤◌, ◌<◌, ◌+◌, ◌-◌, ◌++◌, ℕ, List, [], ◌∷◌, length, take, Option, None, Some, refl, sym, ap, subst, ◌∙◌, arith, append_assoc, length-append}
use Rattle.std.proofs.lemmas.List.{append-nil, take-append-le, take_all}
use Rattle.std.proofs.Math.Seq.{take-append_seam}
use Rattle.guest_model.specs.declared.call.Call.{Call}
use Rattle.guest_model.specs.declared.call.Entry.{Entry}
use Rattle.guest_model.specs.declared.call.Reply.{Reply}
use Rattle.guest_model.specs.Calls.{reply}
use Rattle.guest_model.specs.History.{History, replay}
use Rattle.disk_calls.specs.Disks.{Answered, Asked, IsNoted, IsTrueOf, Known, Told, behind, was_done, was_flushed, was_lost, was_refused, was_unflushed}
use Rattle.disk_calls.specs.Laws.{AreRising, Has, IsAt, IsOneHistory, OneHistory, StandsIn, has_both, has_call, has_next, has_none, has_nothing, has_read, has_write}

-- what is known goes on
record GoesOn (old new : Known) : Type 0 where
  guest : new.guest ≡ old.guest
  opening : new.opening ≡ old.opening
  later : History
  begins : new.seen ≡ old.seen ++ later

still : (k : Known) → GoesOn k k
still k = record { guest = refl; opening = refl; later = []; begins = sym (append-nil k.seen) }

then : (a b c : Known) → GoesOn a b → GoesOn b c → GoesOn a c
then a b c ab bc = record {
  guest = bc.guest ∙ ab.guest;
  opening = bc.opening ∙ ab.opening;
  later = ab.later ++ bc.later;
  begins = bc.begins ∙ ap (λ (l : History). l ++ bc.later) ab.begins ∙ append_assoc a.seen ab.later bc.later;
}

by_note : (call : Call) (place : ℕ) (old new : Known) → IsNoted call place old new → GoesOn old new
by_note call place old new n = record {
  guest = ap (λ (k : Known). k.guest) n.is;
  opening = ap (λ (k : Known). k.opening) n.is;
  later = n.others ++ record { guest = old.guest; no = n.number; call = call } ∷ [];
  begins = ap (λ (k : Known). k.seen) n.is ∙ append_assoc old.seen n.others _;
}

by_others : (others : History) (old new : Known) → new ≡ behind old others → GoesOn old new
by_others others old new is = record {
  guest = ap (λ (k : Known). k.guest) is;
  opening = ap (λ (k : Known). k.opening) is;
  later = others;
  begins = ap (λ (k : Known). k.seen) is;
}

-- ---- a call at its place

-- the last entry of a list
last_there : (h : History) (e : Entry) (l : History) (place : ℕ) → l ≡ h ++ e ∷ [] → place ≡ length l → (take (place - 1) l ≡ h) × (take place l ≡ h ++ e ∷ [])
last_there h e l place is at =
    let len : length l ≡ length h + 1 = ap length is ∙ length-append h (e ∷ []) in
    let front : place - 1 ≡ length h = omega arith in (
      ap (λ n. take n l) front ∙ ap (take (length h)) is ∙ take-append_seam h (e ∷ []),
      ap (λ n. take n l) at ∙ take_all (length l) l (omega arith) ∙ is,
    )

at_last : (call : Call) (place : ℕ) (old new : Known) → IsNoted call place old new → IsAt new call place
at_last call place old new n =
    let e : Entry = record { guest = old.guest; no = n.number; call = call } in
    let seen : new.seen ≡ (old.seen ++ n.others) ++ e ∷ [] = ap (λ (k : Known). k.seen) n.is in
    let last = last_there (old.seen ++ n.others) e new.seen place seen n.last in
    record {
      number = n.number;
      there = last.1 ∙ ap (λ (l : History). l ++ e ∷ []) (sym last.0)
          ∙ ap (λ (g : ℕ). take (place - 1) new.seen ++ record { guest = g; no = n.number; call = call } ∷ []) (sym (ap (λ (k : Known). k.guest) n.is));
    }

here : (z : ℕ) (call : Call) (place : ℕ) (said : Reply) (old new : Known) (n : IsNoted call place old new) → said ≡ reply (replay z old.opening (old.seen ++ n.others)) call
    → StandsIn z new call place said
here z call place said old new n answer =
    let e : Entry = record { guest = old.guest; no = n.number; call = call } in
    let seen : new.seen ≡ (old.seen ++ n.others) ++ e ∷ [] = ap (λ (k : Known). k.seen) n.is in
    let last = last_there (old.seen ++ n.others) e new.seen place seen n.last in
    record {
      at = at_last call place old new n;
      answer = answer ∙ ap (λ (l : History). reply (replay z old.opening l) call) (sym last.0)
          ∙ ap (λ d. reply (replay z d (take (place - 1) new.seen)) call) (sym (ap (λ (k : Known). k.opening) n.is));
    }

-- it stays there
at_on : (call : Call) (place : ℕ) (a b : Known) → GoesOn a b → place ≤ length a.seen → IsAt a call place → IsAt b call place
at_on call place a b on inside s =
    let whole : take place b.seen ≡ take place a.seen = ap (take place) on.begins ∙ take-append-le place a.seen on.later inside in
    let front : take (place - 1) b.seen ≡ take (place - 1) a.seen = ap (take (place - 1)) on.begins ∙ take-append-le (place - 1) a.seen on.later (omega arith) in
    record {
      number = s.number;
      there = whole ∙ s.there ∙ ap (λ (l : History). l ++ record { guest = a.guest; no = s.number; call = call } ∷ []) (sym front)
          ∙ ap (λ (g : ℕ). take (place - 1) b.seen ++ record { guest = g; no = s.number; call = call } ∷ []) (sym on.guest);
    }

stands_on : (z : ℕ) (call : Call) (place : ℕ) (said : Reply) (a b : Known) → GoesOn a b → place ≤ length a.seen → StandsIn z a call place said → StandsIn z b call place said
stands_on z call place said a b on inside s =
    let front : take (place - 1) b.seen ≡ take (place - 1) a.seen = ap (take (place - 1)) on.begins ∙ take-append-le (place - 1) a.seen on.later (omega arith) in
    record {
      at = at_on call place a b on inside s.at;
      answer = s.answer ∙ ap (λ (l : History). reply (replay z a.opening l) call) (sym front) ∙ ap (λ d. reply (replay z d (take (place - 1) b.seen)) call) (sym on.opening);
    }

noted_on : (call : Call) (place : ℕ) (old mid new : Known) → IsNoted call place old mid → GoesOn mid new → IsAt new call place
noted_on call place old mid new n on = at_on call place mid new on (omega (arith, n.last)) (at_last call place old mid n)

-- ---- places

from_earlier : (m n : ℕ) (places : List ℕ) → m ≤ n → AreRising n places → AreRising m places
from_earlier m n [] h rising = tt
from_earlier m n (p ∷ places) h rising = (let first = rising.0 in omega arith, rising.1)

no_shorter : (old new : Known) → GoesOn old new → length old.seen ≤ length new.seen
no_shorter old new on = omega (arith, ap length on.begins, length-append old.seen on.later)

longer : (call : Call) (place : ℕ) (old new : Known) → (n : IsNoted call place old new) → length old.seen < length new.seen
longer call place old new n =
    let seen = ap (λ (k : Known). length k.seen) n.is ∙ length-append (old.seen ++ n.others) _ in
    omega (arith, seen, length-append old.seen n.others)

place_first : (n m place : ℕ) (places : List ℕ) → n < m → place ≡ m → AreRising m places → AreRising n (place ∷ places)
place_first n m place places less same rising = (omega (arith, less, same), subst (λ k. AreRising k places) (sym same) rising)

rises_by : (call : Call) (place : ℕ) (old mid : Known) (places : List ℕ) → IsNoted call place old mid → AreRising (length mid.seen) places
    → AreRising (length old.seen) (place ∷ places)
rises_by call place old mid places n rising = place_first _ _ place places (longer call place old mid n) n.last rising

-- ---- what one call leaves

-- from one moment to the next, seen from a later one
record Leaves (z : ℕ) (old mid new : Known) (asked : Asked) (said : Told) : Type 0 where
  on : GoesOn old mid
  places : List ℕ
  own : mid.mine ≡ old.mine ++ places
  has : Has z new asked said places
  rises : (more : List ℕ) → AreRising (length mid.seen) more → AreRising (length old.seen) (places ++ more)

own_one : (call : Call) (place : ℕ) (old new : Known) → IsNoted call place old new → new.mine ≡ old.mine ++ place ∷ []
own_one call place old new n = ap (λ (k : Known). k.mine) n.is

own_others : (others : History) (old new : Known) → new ≡ behind old others → new.mine ≡ old.mine
own_others others old new is = ap (λ (k : Known). k.mine) is

leaves : (z : ℕ) (old mid new : Known) (asked : Asked) (said : Told) → IsTrueOf z old mid asked said → GoesOn mid new → Leaves z old mid new asked said
leaves z old mid new _ _ (was_done {call} {place} {said} n answer) on = record {
  on = by_note call place old mid n;
  places = place ∷ [];
  own = own_one call place old mid n;
  has = has_call (stands_on z call place said mid new on (omega (arith, n.last)) (here z call place said old mid n answer));
  rises = λ more. rises_by call place old mid more n;
}
leaves z old mid new _ _ (was_flushed {first} {place} {flushed} {bytes} written n m) on =
    let from = by_note _ flushed written mid m in
    record {
      on = then old written mid (by_note _ place old written n) from;
      places = place ∷ flushed ∷ [];
      own = own_one _ flushed written mid m ∙ ap (λ (l : List ℕ). l ++ flushed ∷ []) (own_one _ place old written n) ∙ append_assoc old.mine (place ∷ []) (flushed ∷ []);
      has = has_both (noted_on _ place old written new n (then written mid new from on)) (noted_on _ flushed written mid new m on);
      rises = λ more r. rises_by _ place old written (flushed ∷ more) n (rises_by _ flushed written mid more m r);
    }
leaves z old mid new _ _ (was_refused others is) on =
    let kept = by_others others old mid is in
    record {
      on = kept;
      places = [];
      own = own_others others old mid is ∙ sym (append-nil old.mine);
      has = has_nothing;
      rises = λ more r. from_earlier _ _ more (no_shorter old mid kept) r;
    }
leaves z old mid new _ _ (was_unflushed {first} {place} {bytes} written n others is) on =
    let from = by_others others written mid is in
    record {
      on = then old written mid (by_note _ place old written n) from;
      places = place ∷ [];
      own = own_others others written mid is ∙ own_one _ place old written n;
      has = has_write (noted_on _ place old written new n (then written mid new from on));
      rises = λ more r. rises_by _ place old written more n (from_earlier _ _ more (no_shorter written mid from) r);
    }
leaves z old mid new _ _ (was_lost {first} {count} {place} n) on = record {
  on = by_note _ place old mid n;
  places = place ∷ [];
  own = own_one _ place old mid n;
  has = has_read (noted_on _ place old mid new n on);
  rises = λ more. rises_by _ place old mid more n;
}

-- ---- all calls

some_is : (a b : Known) → ◌≡◌ {A = Option Known} (Some a) (Some b) → a ≡ b
some_is a b e = cc

alone : (z : ℕ) (old new : Known) → new ≡ old → IsOneHistory z old new []
alone z old new e = record {
  guest = ap (λ (k : Known). k.guest) e;
  opening = ap (λ (k : Known). k.opening) e;
  later = [];
  begins = ap (λ (k : Known). k.seen) e ∙ sym (append-nil old.seen);
  places = [];
  own = ap (λ (k : Known). k.mine) e ∙ sym (append-nil old.mine);
  told = has_none;
  rising = tt;
}

behind_call : (z : ℕ) (c : Answered) (calls : List Answered) (old mid new : Known) → IsTrueOf z old mid c.asked c.said → IsOneHistory z mid new calls → IsOneHistory z old new (c ∷ calls)
behind_call z c calls old mid new first rest =
    let on : GoesOn mid new = record { guest = rest.guest; opening = rest.opening; later = rest.later; begins = rest.begins } in
    let one = leaves z old mid new c.asked c.said first on in
    let all = then old mid new one.on on in
    record {
      guest = all.guest;
      opening = all.opening;
      later = all.later;
      begins = all.begins;
      places = one.places ++ rest.places;
      own = rest.own ∙ ap (λ (l : List ℕ). l ++ rest.places) one.own ∙ append_assoc old.mine one.places rest.places;
      told = has_next one.has rest.told;
      rising = one.rises rest.places rest.rising;
    }

pub one_history : OneHistory
one_history z old new [] runs = alone z old new (some_is new old runs)
one_history z old new (c ∷ calls) (None, first, rest) = absurd first
one_history z old new (c ∷ calls) (Some mid, first, rest) = behind_call z c calls old mid new first (one_history z mid new calls rest)
