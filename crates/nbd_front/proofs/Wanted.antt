-- The calls of a range, piece by piece.
use Rattle.std.proofs.Common.{◌≡◌, ◌≤◌, ◌<◌, ℕ, zero, suc, ◌+◌, ◌-◌, ◌/◌, ◌%◌, ◌++◌, List, [], ◌∷◌, length, map, Option, Some, None, Ok, Err, refl, sym, ap, ap₂, subst, ◌∙◌, arith, append_assoc, lit<, ◌⊎◌, inl, inr}
use Rattle.std.specs.Prelude.{min, MatchResult}
use Rattle.guest_model.specs.declared.refusal.ChainRefusal.{ChainRefusal}
use Rattle.guest_model.specs.declared.call.Call.TheVariants as calls
use Rattle.guest_model.specs.declared.call.Reply.{Reply}
use Rattle.guest_model.specs.declared.call.Reply.TheVariants as replies
use Rattle.disk_calls.specs.Disks.{Answered, Asked, plain, Telling, Told}
use Rattle.disk_calls.proofs.CallRuns.{runs_then}
use Rattle.nbd_front.specs.Calls.{AreMade, first_refusal, refusal_or, spans, spans_within, read_calls, trim_calls, piece_bytes, trim_bytes}
use Rattle.nbd_front.specs.Replies.{bytes_given, bytes_in, bytes_told}
use Rattle.nbd_front.specs.Parts.{Asks, IsSector}

-- ---- spans

-- how far the count begins doesn't matter
spans_enough : (k m most at len : ℕ) → 0 < most → len ≤ k → len ≤ m → spans_within k most at len ≡ spans_within m most at len
unfolding spans_within
spans_enough zero zero most at len pos a b = refl
spans_enough zero (suc m) most at zero pos a b = refl
spans_enough zero (suc m) most at (suc len) pos a b = absurd (omega arith)
spans_enough (suc k) zero most at zero pos a b = refl
spans_enough (suc k) zero most at (suc len) pos a b = absurd (omega arith)
spans_enough (suc k) (suc m) most at zero pos a b = refl
spans_enough (suc k) (suc m) most at (suc len) pos a b =
    ap (λ (rest : List (ℕ × ℕ)). (at, min most (suc len)) ∷ rest)
    (spans_enough k m most (at + min most (suc len)) (suc len - min most (suc len)) pos (omega arith) (omega arith))

pub spans_none : (most at : ℕ) → spans most at 0 ≡ []
unfolding spans spans_within
spans_none most at = refl

pub spans_next : (most at len : ℕ) → 0 < most → 0 < len
    → spans most at len ≡ (at, min most len) ∷ spans most (at + min most len) (len - min most len)
unfolding spans spans_within
spans_next most at zero pos some = absurd (omega arith)
spans_next most at (suc len) pos some =
    ap (λ (rest : List (ℕ × ℕ)). (at, min most (suc len)) ∷ rest)
    (spans_enough len (suc len - min most (suc len)) most (at + min most (suc len)) (suc len - min most (suc len)) pos (omega arith) (omega arith))

-- ---- calls

pub asks_done : {D : Type 0} (tells : Telling D) (disk : D) → Asks tells [] disk disk None []
unfolding bytes_given
asks_done tells disk = record { calls = []; made = tt; runs = refl; refusal = refl; bytes = λ e. refl }

pub asks_next : {D : Type 0} (tells : Telling D) (asked : Asked) (wanted : List Asked) (said : ℕ × Reply) (old mid new : D) (refused : Option ChainRefusal) (given : List ℕ)
    → tells old asked (Ok said) mid → Asks tells wanted mid new refused given → Asks tells (asked ∷ wanted) old new refused (bytes_in said.1 ++ given)
unfolding bytes_given
asks_next tells asked wanted said old mid new refused given first rest = record {
  calls = record { asked = asked; said = Ok said } ∷ rest.calls;
  made = (refl, rest.made);
  runs = (mid, first, rest.runs);
  refusal = rest.refusal;
  bytes = λ e. ap (λ l. bytes_in said.1 ++ l) (rest.bytes e);
}

pub asks_refused : {D : Type 0} (tells : Telling D) (asked : Asked) (wanted : List Asked) (refusal : ChainRefusal) (old new : D) (given : List ℕ)
    → tells old asked (Err refusal) new → Asks tells (asked ∷ wanted) old new (Some refusal) given
asks_refused tells asked wanted refusal old new given first = record {
  calls = record { asked = asked; said = Err refusal } ∷ [];
  made = (refl, refl);
  runs = (new, first, refl);
  refusal = refl;
  bytes = λ e. cc;
}

-- a call that was answered with sectors of s bytes, which are z
answers_with : {D : Type 0} (tells : Telling D) (s z : ℕ) (wanted : ℕ → Asked) (said : Told) (old new : D) → s ≡ z → tells old (wanted s) said new → tells old (wanted z) said new
answers_with tells s z wanted said old new e h = subst (λ k. tells old (wanted k) said new) e h

reads_next : (z at len : ℕ) → 0 < len
    → read_calls z at len ≡ plain (calls.Read (at / z) (min piece_bytes len / z)) ∷ read_calls z (at + min piece_bytes len) (len - min piece_bytes len)
reads_next z at len some = ap (map (λ (s : ℕ × ℕ). plain (calls.Read (s.0 / z) (s.1 / z)))) (spans_next piece_bytes at len (lit< tt) some)

trims_next : (z at len : ℕ) → 0 < len
    → trim_calls z at len ≡ plain (calls.Trim (at / z) (min trim_bytes len / z)) ∷ trim_calls z (at + min trim_bytes len) (len - min trim_bytes len)
trims_next z at len some = ap (map (λ (s : ℕ × ℕ). plain (calls.Trim (s.0 / z) (s.1 / z)))) (spans_next trim_bytes at len (lit< tt) some)

pub reads_done : {D : Type 0} (tells : Telling D) (z at : ℕ) (disk : D) → Asks tells (read_calls z at 0) disk disk None []
reads_done tells z at disk = subst (λ (l : List (ℕ × ℕ)). Asks tells (map (λ s. plain (calls.Read (s.0 / z) (s.1 / z))) l) disk disk None []) (sym (spans_none piece_bytes at)) (asks_done tells disk)

pub trims_done : {D : Type 0} (tells : Telling D) (z at : ℕ) (disk : D) → Asks tells (trim_calls z at 0) disk disk None []
trims_done tells z at disk = subst (λ (l : List (ℕ × ℕ)). Asks tells (map (λ s. plain (calls.Trim (s.0 / z) (s.1 / z))) l) disk disk None []) (sym (spans_none trim_bytes at)) (asks_done tells disk)

-- a piece was read, and so was the rest; its buffer has n bytes
pub read_on : {D : Type 0} (tells : Telling D) (s z at len n at' len' place : ℕ) (buf : List ℕ) (old mid new : D) (refused : Option ChainRefusal) (given : List ℕ)
    → 0 < len → s ≡ z → n ≡ min piece_bytes len → at' ≡ at + n → len' ≡ len - n → length buf ≡ n → tells old (plain (calls.Read (at / z) (length buf / s))) (Ok (place, replies.Bytes buf)) mid
    → Asks tells (read_calls z at' len') mid new refused given → Asks tells (read_calls z at len) old new refused (buf ++ given)
read_on tells s z at len n at' len' place buf old mid new refused given some e piece ea el size first rest =
    let called = answers_with tells s z (λ k. plain (calls.Read (at / z) (length buf / k))) (Ok (place, replies.Bytes buf)) old mid e first in
    let sized = subst (λ k. tells old (plain (calls.Read (at / z) (k / z))) (Ok (place, replies.Bytes buf)) mid) (size ∙ piece) called in
    let later = subst (λ k. Asks tells (read_calls z (at + k) (len - k)) mid new refused given) piece (subst (λ k. Asks tells (read_calls z k (len - n)) mid new refused given) ea (subst (λ k. Asks tells (read_calls z at' k) mid new refused given) el rest)) in
    subst (λ l. Asks tells l old new refused (buf ++ given)) (sym (reads_next z at len some))
    (asks_next tells (plain (calls.Read (at / z) (min piece_bytes len / z))) (read_calls z (at + min piece_bytes len) (len - min piece_bytes len))
    (place, replies.Bytes buf) old mid new refused given sized later)

pub read_refused : {D : Type 0} (tells : Telling D) (s z at len n : ℕ) (buf : List ℕ) (refusal : ChainRefusal) (old new : D) (given : List ℕ)
    → 0 < len → s ≡ z → n ≡ min piece_bytes len → length buf ≡ n → tells old (plain (calls.Read (at / z) (length buf / s))) (Err refusal) new
    → Asks tells (read_calls z at len) old new (Some refusal) given
read_refused tells s z at len n buf refusal old new given some e piece size first =
    let called = answers_with tells s z (λ k. plain (calls.Read (at / z) (length buf / k))) (Err refusal) old new e first in
    let sized = subst (λ k. tells old (plain (calls.Read (at / z) (k / z))) (Err refusal) new) (size ∙ piece) called in
    subst (λ l. Asks tells l old new (Some refusal) given) (sym (reads_next z at len some))
    (asks_refused tells (plain (calls.Read (at / z) (min piece_bytes len / z))) (read_calls z (at + min piece_bytes len) (len - min piece_bytes len)) refusal old new given sized)

-- a piece was trimmed, and so was the rest
pub trim_on : {D : Type 0} (tells : Telling D) (s z at len n at' len' place : ℕ) (old mid new : D) (refused : Option ChainRefusal)
    → 0 < len → s ≡ z → n ≡ min trim_bytes len → at' ≡ at + n → len' ≡ len - n → tells old (plain (calls.Trim (at / z) (n / z))) (Ok (place, replies.Done)) mid
    → Asks tells (trim_calls z at' len') mid new refused [] → Asks tells (trim_calls z at len) old new refused []
trim_on tells s z at len n at' len' place old mid new refused some e piece ea el first rest =
    let called = answers_with tells s z (λ k. plain (calls.Trim (at / z) (n / z))) (Ok (place, replies.Done)) old mid e first in
    let sized = subst (λ k. tells old (plain (calls.Trim (at / z) (k / z))) (Ok (place, replies.Done)) mid) piece called in
    let later = subst (λ k. Asks tells (trim_calls z (at + k) (len - k)) mid new refused []) piece (subst (λ k. Asks tells (trim_calls z k (len - n)) mid new refused []) ea (subst (λ k. Asks tells (trim_calls z at' k) mid new refused []) el rest)) in
    subst (λ l. Asks tells l old new refused []) (sym (trims_next z at len some))
    (asks_next tells (plain (calls.Trim (at / z) (min trim_bytes len / z))) (trim_calls z (at + min trim_bytes len) (len - min trim_bytes len))
    (place, replies.Done) old mid new refused [] sized later)

pub trim_refused : {D : Type 0} (tells : Telling D) (s z at len n : ℕ) (refusal : ChainRefusal) (old new : D)
    → 0 < len → s ≡ z → n ≡ min trim_bytes len → tells old (plain (calls.Trim (at / z) (n / z))) (Err refusal) new
    → Asks tells (trim_calls z at len) old new (Some refusal) []
trim_refused tells s z at len n refusal old new some e piece first =
    let called = answers_with tells s z (λ k. plain (calls.Trim (at / z) (n / z))) (Err refusal) old new e first in
    let sized = subst (λ k. tells old (plain (calls.Trim (at / z) (k / z))) (Err refusal) new) piece called in
    subst (λ l. Asks tells l old new (Some refusal) []) (sym (trims_next z at len some))
    (asks_refused tells (plain (calls.Trim (at / z) (min trim_bytes len / z))) (trim_calls z (at + min trim_bytes len) (len - min trim_bytes len)) refusal old new [] sized)

-- ---- whole sectors

-- a piece of whole sectors is whole sectors, and so is the rest
pub even_piece : (z len : ℕ) → IsSector z → len % z ≡ 0 → min 1048576 len % z ≡ 0
even_piece z len (inl e) even = subst (λ z. min 1048576 len % z ≡ 0) (sym e) (by_512 len (subst (λ z. len % z ≡ 0) e even))
  where
    by_512 : (len : ℕ) → len % 512 ≡ 0 → min 1048576 len % 512 ≡ 0
    by_512 len even = omega arith
even_piece z len (inr e) even = subst (λ z. min 1048576 len % z ≡ 0) (sym e) (by_4096 len (subst (λ z. len % z ≡ 0) e even))
  where
    by_4096 : (len : ℕ) → len % 4096 ≡ 0 → min 1048576 len % 4096 ≡ 0
    by_4096 len even = omega arith

pub even_rest : (z len : ℕ) → IsSector z → len % z ≡ 0 → (len - min 1048576 len) % z ≡ 0
even_rest z len (inl e) even = subst (λ z. (len - min 1048576 len) % z ≡ 0) (sym e) (by_512 len (subst (λ z. len % z ≡ 0) e even))
  where
    by_512 : (len : ℕ) → len % 512 ≡ 0 → (len - min 1048576 len) % 512 ≡ 0
    by_512 len even = omega arith
even_rest z len (inr e) even = subst (λ z. (len - min 1048576 len) % z ≡ 0) (sym e) (by_4096 len (subst (λ z. len % z ≡ 0) e even))
  where
    by_4096 : (len : ℕ) → len % 4096 ≡ 0 → (len - min 1048576 len) % 4096 ≡ 0
    by_4096 len even = omega arith

-- ---- the same asked for, in other words

pub asks_gives : {D : Type 0} {tells : Telling D} {wanted : List Asked} {old new : D} {refused : Option ChainRefusal} {given other : List ℕ}
    → given ≡ other → Asks tells wanted old new refused given → Asks tells wanted old new refused other
asks_gives {tells = tells} {wanted = wanted} {old = old} {new = new} {refused = refused} e asks = subst (λ l. Asks tells wanted old new refused l) e asks

pub reads_as_many : {D : Type 0} {tells : Telling D} (z at m n : ℕ) {old new : D} {refused : Option ChainRefusal} {given : List ℕ}
    → m ≡ n → Asks tells (read_calls z at m) old new refused given → Asks tells (read_calls z at n) old new refused given
reads_as_many {tells = tells} z at m n {old = old} {new = new} {refused = refused} {given = given} e asks = subst (λ k. Asks tells (read_calls z at k) old new refused given) e asks

-- ---- calls behind others

-- no call was refused
refused_later : (said : Told) (later : Option ChainRefusal) → refusal_or said later ≡ None → (later ≡ None) × ((e : ChainRefusal) → said ≡ Err e → ⊥)
refused_later (Ok said) later e = (e, λ r is. cc)
refused_later (Err refusal) later e = absurd (cc)

made_one : (said : Told) (A B N M : Type 0) → MatchResult said (λ _. A) (λ _. N) → (A → B) → ((e : ChainRefusal) → said ≡ Err e → N → M) → MatchResult said (λ _. B) (λ _. M)
made_one (Ok said) A B N M m f h = f m
made_one (Err refusal) A B N M m f h = h refusal refl m

made_then : (first next : List Asked) (calls later : List Answered) → AreMade first calls → first_refusal calls ≡ None → AreMade next later → AreMade (first ++ next) (calls ++ later)
made_then [] next [] later a e b = b
made_then [] next (c ∷ calls) later a e b = absurd a
made_then (x ∷ first) next [] later a e b = absurd a
made_then (x ∷ first) next (c ∷ calls) later a e b =
    let none = refused_later c.said (first_refusal calls) e in (
      a.0,
      made_one c.said (AreMade first calls) (AreMade (first ++ next) (calls ++ later)) (calls ≡ []) (calls ++ later ≡ []) a.1
          (λ made. made_then first next calls later made none.0 b) (λ r is n. absurd (none.1 r is)),
    )

later_same : (said : Told) (a b : Option ChainRefusal) → ((e : ChainRefusal) → said ≡ Err e → ⊥) → a ≡ b → refusal_or said a ≡ b
later_same (Ok said) a b ok e = e
later_same (Err refusal) a b ok e = absurd (ok refusal refl)

refusal_then : (calls later : List Answered) → first_refusal calls ≡ None → first_refusal (calls ++ later) ≡ first_refusal later
refusal_then [] later e = refl
refusal_then (c ∷ calls) later e =
    let none = refused_later c.said (first_refusal calls) e in
    later_same c.said (first_refusal (calls ++ later)) (first_refusal later) none.1 (refusal_then calls later none.0)

bytes_then : (calls later : List Answered) → bytes_given (calls ++ later) ≡ bytes_given calls ++ bytes_given later
unfolding bytes_given
bytes_then [] later = refl
bytes_then (c ∷ calls) later = ap (λ l. bytes_told c.said ++ l) (bytes_then calls later) ∙ sym (append_assoc (bytes_told c.said) (bytes_given calls) (bytes_given later))

-- some call was refused
refused_here : (said : Told) (later : Option ChainRefusal) (refusal : ChainRefusal) → refusal_or said later ≡ Some refusal → (later ≡ Some refusal) ⊎ ((r : ChainRefusal) × (said ≡ Err r))
refused_here (Ok said) later refusal e = inl e
refused_here (Err r) later refusal e = inr (r, refl)

made_else : (said : Told) (A B N : Type 0) (r : ChainRefusal) → said ≡ Err r → MatchResult said (λ _. A) (λ _. N) → MatchResult said (λ _. B) (λ _. N)
made_else (Ok said) A B N r is m = absurd (cc)
made_else (Err refusal) A B N r is m = m

made_first : (first next : List Asked) (calls : List Answered) (refusal : ChainRefusal) → AreMade first calls → first_refusal calls ≡ Some refusal → AreMade (first ++ next) calls
made_first [] next [] refusal a e = absurd (cc)
made_first [] next (c ∷ calls) refusal a e = absurd a
made_first (x ∷ first) next [] refusal a e = absurd a
made_first (x ∷ first) next (c ∷ calls) refusal a e = (
  a.0,
  elim (refused_here c.said (first_refusal calls) refusal e) [
    | inl later ↦ made_one c.said (AreMade first calls) (AreMade (first ++ next) calls) (calls ≡ []) (calls ≡ []) a.1 (λ made. made_first first next calls refusal made later) (λ r is n. n)
    | inr here ↦ made_else c.said (AreMade first calls) (AreMade (first ++ next) calls) (calls ≡ []) here.0 here.1 a.1
  ],
)

pub asks_then : {D : Type 0} (tells : Telling D) (first next : List Asked) (old mid new : D) (refused : Option ChainRefusal) (a b : List ℕ)
    → Asks tells first old mid None a → Asks tells next mid new refused b → Asks tells (first ++ next) old new refused (a ++ b)
asks_then tells first next old mid new refused a b asks later = record {
  calls = asks.calls ++ later.calls;
  made = made_then first next asks.calls later.calls asks.made asks.refusal later.made;
  runs = runs_then tells asks.calls later.calls old mid new asks.runs later.runs;
  refusal = refusal_then asks.calls later.calls asks.refusal ∙ later.refusal;
  bytes = λ e. bytes_then asks.calls later.calls ∙ ap₂ (λ (x y : List ℕ). x ++ y) (asks.bytes refl) (later.bytes e);
}

pub asks_refused_first : {D : Type 0} (tells : Telling D) (first next : List Asked) (old new : D) (refusal : ChainRefusal) (a b : List ℕ)
    → Asks tells first old new (Some refusal) a → Asks tells (first ++ next) old new (Some refusal) b
asks_refused_first tells first next old new refusal a b asks = record {
  calls = asks.calls;
  made = made_first first next asks.calls refusal asks.made asks.refusal;
  runs = asks.runs;
  refusal = asks.refusal;
  bytes = λ e. cc;
}

pub asks_flush : {D : Type 0} (tells : Telling D) (old new : D) (place : ℕ) → tells old (plain calls.Flush) (Ok (place, replies.Done)) new
    → Asks tells (plain calls.Flush ∷ []) old new None []
asks_flush tells old new place first = asks_next tells (plain calls.Flush) [] (place, replies.Done) old new new None [] first (asks_done tells new)

pub asks_flush_refused : {D : Type 0} (tells : Telling D) (old new : D) (refusal : ChainRefusal) → tells old (plain calls.Flush) (Err refusal) new
    → Asks tells (plain calls.Flush ∷ []) old new (Some refusal) []
asks_flush_refused tells old new refusal first = asks_refused tells (plain calls.Flush) [] refusal old new [] first

pub asks_as : {D : Type 0} {tells : Telling D} {wanted other : List Asked} {old new : D} {refused : Option ChainRefusal} {given : List ℕ}
    → wanted ≡ other → Asks tells wanted old new refused given → Asks tells other old new refused given
asks_as {tells = tells} {old = old} {new = new} {refused = refused} {given = given} e asks = subst (λ l. Asks tells l old new refused given) e asks
