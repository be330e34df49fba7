-- How many calls a request has.
use Rattle.std.proofs.Common.{◌≡◌, ◌≤◌, ◌<◌, ℕ, zero, suc, ◌+◌, ◌-◌, ◌*◌, ◌^◌, ◌==◌, ◌&&◌, Bool, true, false, List, [], ◌∷◌, length, map, take, drop, Ok, Err, refl, sym, ap, subst, ◌∙◌, arith, length-append, length-drop}
use Rattle.std.specs.Prelude.{min, nat_lt, not, if◌then◌else◌, MatchResult}
use Rattle.std.proofs.lemmas.List.{length-map}
use Rattle.std.proofs.lemmas.Bool.{eqb-true, lt-ltb, ltb-false}
use Rattle.vx_base.specs.declared.parts.Geometry.{Geometry}
use Rattle.guest_model.specs.declared.call.Call.TheVariants as calls
use Rattle.disk_calls.specs.Disks.{Answered, Asked, plain, Told}
use Rattle.nbd_front.specs.declared.request.Request.{Request}
use Rattle.nbd_front.specs.Wire.{most_bytes, most_calls, flush_kind, read_kind, trim_kind, write_kind}
use Rattle.nbd_front.specs.Calls.{AreMade, calls_begun, calls_by_kind, calls_if, calls_of, flush_behind, is_forced, is_unknown, is_uneven, judged, piece_bytes, pieces, pieces_within, read_calls, spans, spans_within, trim_bytes, trim_calls, write_calls}

-- calls that were made are no more than were asked for
made_few : (wanted : List Asked) (calls : List Answered) → AreMade wanted calls → length calls ≤ length wanted
made_few [] [] made = omega arith
made_few [] (c ∷ cs) made = absurd made
made_few (a ∷ as_) [] made = absurd made
made_few (a ∷ as_) (c ∷ cs) made = omega (arith, rest c.said (λ more. made_few as_ cs more) made.1)
  where
    rest : (said : Told) → (AreMade as_ cs → length cs ≤ length as_) → MatchResult said (λ _. AreMade as_ cs) (λ _. cs ≡ []) → length cs ≤ length as_
    rest (Ok done) few more = few more
    rest (Err refusal) few none = omega (arith, ap length none)

spans_few : (k n most at len : ℕ) → 0 < most → len ≤ n * most → length (spans_within k most at len) ≤ n
unfolding spans_within
spans_few zero n most at len some few = omega arith
spans_few (suc k) n most at zero some few = omega arith
spans_few (suc k) zero most at (suc len) some few = absurd (omega arith)
spans_few (suc k) (suc n) most at (suc len) some few =
    let rest = spans_few k n most (at + min most (suc len)) (suc len - min most (suc len)) some (left n most len few) in omega arith
  where
    left : (n most len : ℕ) → suc len ≤ suc n * most → suc len - min most (suc len) ≤ n * most
    left n most len few = omega arith

-- a list that may be left out
short_if : {A : Type 0} (b : Bool) (n : ℕ) (l : List A) → length l ≤ n → length (if b then [] else l) ≤ n
short_if true n l few = omega arith
short_if false n l few = few

pieces_few : (k n most least at : ℕ) (bytes : List ℕ) → 0 < most → 0 < least → length bytes ≤ n * most → length (pieces_within k most least at bytes) ≤ n
unfolding pieces_within
pieces_few zero n most least at bytes some any few = omega arith
pieces_few (suc k) zero most least at bytes some any few =
    subst (λ t. length (if t then [] else (at, take most bytes) ∷ pieces_within k most least (at + min most (length bytes)) (drop most bytes)) ≤ 0)
    (sym (lt-ltb (length bytes) least (omega arith))) (omega arith)
pieces_few (suc k) (suc n) most least at bytes some any few =
    let rest = pieces_few k n most least (at + min most (length bytes)) (drop most bytes) some any (left n most (length bytes) (length (drop most bytes)) (length-drop most bytes) few) in
    short_if (nat_lt (length bytes) least) (suc n) ((at, take most bytes) ∷ pieces_within k most least (at + min most (length bytes)) (drop most bytes)) (omega arith)
  where
    left : (n most len rest : ℕ) → rest ≡ len - most → len ≤ suc n * most → rest ≤ n * most
    left n most len rest e few = omega arith

-- ---- by its kind

mapped_few : {A B : Type 0} (f : A → B) (l : List A) (n : ℕ) → length l ≤ n → length (map f l) ≤ n
mapped_few f l n few = subst (λ k. k ≤ n) (sym (length-map l f)) few

reads_few : (z at len : ℕ) → len ≤ most_bytes → length (read_calls z at len) ≤ most_calls
unfolding spans
reads_few z at len few = mapped_few _ (spans_within len piece_bytes at len) most_calls (spans_few len most_calls piece_bytes at len (omega arith) (omega arith))

trims_few : (z at len : ℕ) → len < 2 ^ 32 → length (trim_calls z at len) ≤ 16
unfolding spans
trims_few z at len few = mapped_few _ (spans_within len trim_bytes at len) 16 (spans_few len 16 trim_bytes at len (omega arith) (omega arith))

writes_few : (z least at : ℕ) (forced : Bool) (bytes : List ℕ) → 0 < least → length bytes ≤ most_bytes → length (write_calls z forced least at bytes) ≤ most_calls
unfolding pieces
writes_few z least at forced bytes any few =
    mapped_few _ (pieces_within (length bytes) piece_bytes least at bytes) most_calls (pieces_few (length bytes) most_calls piece_bytes least at bytes (omega arith) any (omega arith))

flush_few : (forced none : Bool) → length (if forced && not none then plain calls.Flush ∷ [] else []) ≤ 1
flush_few true true = omega arith
flush_few true false = omega arith
flush_few false none = omega arith

-- ---- of any kind

chosen_few : (read write trim : Bool) (a b c d : List Asked) → (read ≡ true → length a ≤ most_calls) → length b ≤ most_calls → length c ≤ most_calls → length d ≤ most_calls
    → length (if read then a else if write then b else if trim then c else d) ≤ most_calls
chosen_few true write trim a b c d ha hb hc hd = ha refl
chosen_few false true trim a b c d ha hb hc hd = hb
chosen_few false false true a b c d ha hb hc hd = hc
chosen_few false false false a b c d ha hb hc hd = hd

-- a read that isn't refused by itself is short
short_read : (unknown long : Bool) (rest : ℕ) → (if unknown then 22 else if 0 == flush_kind then 0 else if (0 == read_kind) && long then 22 else rest) ≡ 0 → long ≡ false
short_read true long rest e = absurd (omega (arith, e))
short_read false true rest e = absurd (omega (arith, e))
short_read false false rest e = refl

read_is_short : (g : Geometry) (r : Request) → judged g r ≡ 0 → r.kind ≡ 0 → r.len ≤ most_bytes
unfolding judged
read_is_short g r valid kind =
    ltb-false most_bytes r.len (short_read (is_unknown r) (nat_lt most_bytes r.len) _
    (sym (ap (λ k. if is_unknown r then 22 else if k == flush_kind then 0 else if (k == read_kind) && nat_lt most_bytes r.len then 22
    else if is_uneven g.sector r then 22
    else if nat_lt (g.sectors * g.sector) (r.offset + r.len) then (if r.kind == write_kind then 28 else 22)
    else 0) kind) ∙ valid))

kind_few : (g : Geometry) (r : Request) (least : ℕ) (bytes : List ℕ) → judged g r ≡ 0 → 0 < least → r.len < 2 ^ 32 → length bytes ≤ most_bytes → length (calls_by_kind g.sector r least bytes) ≤ most_calls
unfolding calls_by_kind
kind_few g r least bytes valid any short few =
    chosen_few (r.kind == read_kind) (r.kind == write_kind) (r.kind == trim_kind) _ _ _ _
    (λ e. reads_few g.sector r.offset r.len (read_is_short g r valid (eqb-true r.kind read_kind e)))
    (writes_few g.sector least r.offset (is_forced r) bytes any few)
    (omega (arith, length-append (trim_calls g.sector r.offset r.len) (flush_behind r), trims_few g.sector r.offset r.len short, flush_few (r.flags == 1) (r.len == 0)))
    (omega arith)

if_few : (valid : Bool) (asked : List Asked) → (valid ≡ true → length asked ≤ most_calls) → length (calls_if valid asked) ≤ most_calls
if_few true asked few = few refl
if_few false asked few = omega arith

-- the calls of a request, whole or cut
pub request_few : (g : Geometry) (r : Request) (bytes : List ℕ) (calls : List Answered) → r.len < 2 ^ 32 → length bytes ≤ most_bytes → AreMade (calls_of g r bytes) calls → length calls ≤ most_calls
unfolding calls_of
request_few g r bytes calls short few made =
    let made' = made_few _ calls made in
    let all = if_few (judged g r == 0) (calls_by_kind g.sector r 1 bytes) (λ e. kind_few g r 1 bytes (eqb-true (judged g r) 0 e) (omega arith) short few) in
    omega (arith, made', all)

pub begun_few : (g : Geometry) (r : Request) (bytes : List ℕ) (calls : List Answered) → r.len < 2 ^ 32 → length bytes ≤ most_bytes → AreMade (calls_begun g r bytes) calls → length calls ≤ most_calls
unfolding calls_begun
begun_few g r bytes calls short few made =
    let made' = made_few _ calls made in
    let all = if_few (judged g r == 0) (calls_by_kind g.sector r piece_bytes bytes) (λ e. kind_few g r piece_bytes bytes (eqb-true (judged g r) 0 e) (omega arith) short few) in
    omega (arith, made', all)
