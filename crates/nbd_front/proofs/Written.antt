-- The data of a write, piece by piece.
use Rattle.std.proofs.Common.{◌≡◌, ◌≤◌, ◌<◌, ℕ, zero, suc, ◌+◌, ◌-◌, ◌^◌, ◌/◌, ◌++◌, Bool, true, false, ◌==◌, List, [], ◌∷◌, length, map, take, drop, ltb, Option, Result, Ok, Err, refl, sym, ap, subst, ◌∙◌, arith, lit<, length-append, length-drop}
use Rattle.std.specs.Prelude.{min, if◌then◌else◌}
use Rattle.std.specs.Io.KnownBytes.{Consumes}
use Rattle.std.proofs.KnownBytes.{Consumes-nil, Consumes-trans}
use Rattle.std.proofs.lemmas.Bool.{ne_eqb, lt-ltb, le-ltb}
use Rattle.std.proofs.lemmas.List.{append-nil, take_all, drop_all}
use lib.Seq.{take_at, drop_at}
use Rattle.vx_base.specs.declared.parts.Geometry.{Geometry}
use Rattle.guest_model.specs.declared.refusal.ChainRefusal.{ChainRefusal}
use Rattle.guest_model.specs.declared.call.Reply.TheVariants as replies
use Rattle.disk_calls.specs.Disks.{Answered, Asked, Runs, Telling, told}
use Rattle.nbd_front.specs.declared.refusal.NbdRefusal.{NbdRefusal}
use Rattle.nbd_front.specs.declared.request.Request.{Request}
use Rattle.nbd_front.specs.Wire.{counted}
use Rattle.nbd_front.specs.Calls.{AreMade, first_refusal, pieces, pieces_within, piece_bytes, write_call, write_calls, calls_if, calls_by_kind, calls_of, calls_begun, judged, is_forced}
use Rattle.nbd_front.specs.Replies.{error_among, error_in}
use Rattle.nbd_front.specs.Parts.{IsPieceTaken, written, refused, skipped, TakesWrite, CutsWrite, IsShort, IsSourceEnd, error_after}
use Rattle.nbd_front.proofs.Taken.{counted_more}
use Rattle.nbd_front.proofs.Handling.{error_not_0, write_by_kind}

-- ---- pieces

pieces_enough : (k m most least at : ℕ) (bytes : List ℕ) → 0 < most → 0 < least → length bytes ≤ k → length bytes ≤ m
    → pieces_within k most least at bytes ≡ pieces_within m most least at bytes
unfolding pieces_within
pieces_enough zero zero most least at bytes a b c d = refl
pieces_enough zero (suc m) most least at bytes a b c d =
    let few : length bytes < least = omega arith in
    sym (ap (λ t. if t then [] else (at, take most bytes) ∷ pieces_within m most least (at + min most (length bytes)) (drop most bytes)) (lt-ltb (length bytes) least few))
pieces_enough (suc k) zero most least at bytes a b c d =
    let few : length bytes < least = omega arith in
    ap (λ t. if t then [] else (at, take most bytes) ∷ pieces_within k most least (at + min most (length bytes)) (drop most bytes)) (lt-ltb (length bytes) least few)
pieces_enough (suc k) (suc m) most least at bytes a b c d =
    ap (λ (tail : List (ℕ × List ℕ)). if ltb (length bytes) least then [] else (at, take most bytes) ∷ tail)
    (pieces_enough k m most least (at + min most (length bytes)) (drop most bytes) a b (omega (arith, length-drop most bytes)) (omega (arith, length-drop most bytes)))

pub pieces_few : (most least at : ℕ) (bytes : List ℕ) → length bytes < least → pieces most least at bytes ≡ []
unfolding pieces pieces_within
pieces_few most least at bytes few = go (length bytes)
  where
    go : (k : ℕ) → pieces_within k most least at bytes ≡ []
    go zero = refl
    go (suc k) = ap (λ t. if t then [] else (at, take most bytes) ∷ pieces_within k most least (at + min most (length bytes)) (drop most bytes)) (lt-ltb (length bytes) least few)

-- the first piece and what is behind it
cut_piece : (most : ℕ) (piece rest : List ℕ) → length piece ≡ min most (length (piece ++ rest)) → (take most (piece ++ rest) ≡ piece) × (drop most (piece ++ rest) ≡ rest)
cut_piece most piece [] e =
    let few : length piece ≤ most = omega (arith, length-append piece []) in
    (ap (take most) (append-nil piece) ∙ take_all most piece few, ap (drop most) (append-nil piece) ∙ drop_all most piece few)
cut_piece most piece (x ∷ rest) e =
    let full : length piece ≡ most = omega (arith, length-append piece (x ∷ rest)) in
    (take_at piece (x ∷ rest) most full, drop_at piece (x ∷ rest) most full)

pub pieces_next : (most least at : ℕ) (piece rest : List ℕ) → 0 < most → 0 < least → least ≤ length (piece ++ rest) → length piece ≡ min most (length (piece ++ rest))
    → pieces most least at (piece ++ rest) ≡ (at, piece) ∷ pieces most least (at + length piece) rest
unfolding pieces pieces_within
pieces_next most least at piece rest a b c e = go (length (piece ++ rest)) refl
  where
    go : (n : ℕ) → n ≡ length (piece ++ rest) → pieces_within n most least at (piece ++ rest) ≡ (at, piece) ∷ pieces most least (at + length piece) rest
    go zero is = absurd (omega arith)
    go (suc k) is =
        let cut = cut_piece most piece rest e in
        ap (λ t. if t then [] else (at, take most (piece ++ rest)) ∷ pieces_within k most least (at + min most (length (piece ++ rest))) (drop most (piece ++ rest))) (le-ltb (length (piece ++ rest)) least c)
        ∙ ap (λ (l : List ℕ). (at, l) ∷ pieces_within k most least (at + min most (length (piece ++ rest))) (drop most (piece ++ rest))) cut.0
        ∙ ap (λ (l : List ℕ). (at, piece) ∷ pieces_within k most least (at + min most (length (piece ++ rest))) l) cut.1
        ∙ ap (λ m. (at, piece) ∷ pieces_within k most least (at + m) rest) (sym e)
        ∙ ap (λ (l : List (ℕ × List ℕ)). (at, piece) ∷ l) (pieces_enough k (length rest) most least (at + length piece) rest a b (omega (arith, length-append piece rest)) (omega arith))

-- ---- one piece

pub piece_answered : {D : Type 0} (tells : Telling D) (z : ℕ) (forced : Bool) (at : ℕ) (piece : List ℕ) (before behind : ℕ) (asked : Asked) (answered : Result ℕ ChainRefusal) (old new : D)
    → before ≡ 0 → behind ≡ error_after answered → asked ≡ write_call forced (at / z) piece → tells old asked (told replies.Done answered) new
    → IsPieceTaken tells z forced at piece before behind old new
piece_answered tells z forced at piece before behind asked (Ok place) old new first e same h =
    written place first e (subst (λ a. tells old a (Ok (place, replies.Done)) new) same h)
piece_answered tells z forced at piece before behind asked (Err refusal) old new first e same h =
    refused refusal first e (subst (λ a. tells old a (Err refusal) new) same h)

-- ---- the rest of the data, where e is the error so far

-- all of it came
pub record TakesRest {D : Type 0} (tells : Telling D) (z : ℕ) (forced : Bool) (e at n count : ℕ) (left : Option (List ℕ)) (old : D) (count' : ℕ) (left' : Option (List ℕ)) (new : D) (error : ℕ) : Type 0 where
  pub text : List ℕ
  pub len : length text ≡ n
  pub taken : Consumes left left' text
  pub counts : count' ≡ counted count (length text)
  pub calls : List Answered
  pub made : AreMade (calls_if (e == 0) (write_calls z forced 1 at text)) calls
  pub runs : Runs tells old calls new
  pub says : error ≡ (if e == 0 then error_among (first_refusal calls) else e)

-- not all of it came
pub record CutsRest {D : Type 0} (tells : Telling D) (z : ℕ) (forced : Bool) (e at n count : ℕ) (left : Option (List ℕ)) (old : D) (left' : Option (List ℕ)) (new : D) (refusal : NbdRefusal) : Type 0 where
  pub text : List ℕ
  pub few : length text < n
  pub taken : Consumes left left' text
  pub why : IsSourceEnd (counted count (length text)) left' refusal
  pub calls : List Answered
  pub made : AreMade (calls_if (e == 0) (write_calls z forced piece_bytes at text)) calls
  pub runs : Runs tells old calls new

-- the calls of a piece and of what is behind it
record Makes {D : Type 0} (tells : Telling D) (z : ℕ) (forced : Bool) (e at least : ℕ) (text : List ℕ) (old new : D) (error : ℕ) : Type 0 where
  calls : List Answered
  made : AreMade (calls_if (e == 0) (write_calls z forced least at text)) calls
  runs : Runs tells old calls new
  says : error ≡ (if e == 0 then error_among (first_refusal calls) else e)

none_made : (calls : List Answered) → AreMade [] calls → calls ≡ []
none_made [] h = refl
none_made (c ∷ calls) h = absurd h

calls_now : (z least at : ℕ) (forced : Bool) (piece rest : List ℕ) → 0 < least → least ≤ length (piece ++ rest) → length piece ≡ min piece_bytes (length (piece ++ rest))
    → write_calls z forced least at (piece ++ rest) ≡ write_call forced (at / z) piece ∷ write_calls z forced least (at + length piece) rest
calls_now z least at forced piece rest a c e =
    ap (map (λ (p : ℕ × List ℕ). write_call forced (p.0 / z) p.1)) (pieces_next piece_bytes least at piece rest (lit< tt) a c e)

makes_next : {D : Type 0} (tells : Telling D) (z : ℕ) (forced : Bool) (e e' at at' least : ℕ) (piece rest : List ℕ) (old mid new : D) (error : ℕ)
    → IsPieceTaken tells z forced at piece e e' old mid → 0 < least → least ≤ length (piece ++ rest) → length piece ≡ min piece_bytes (length (piece ++ rest))
    → (e' ≡ 0 → at' ≡ at + length piece) → Makes tells z forced e' at' least rest mid new error → Makes tells z forced e at least (piece ++ rest) old new error
makes_next tells z forced e e' at at' least piece rest old mid new error (written place first later ans) a c len moved m =
    let made : AreMade (write_calls z forced least (at + length piece) rest) m.calls =
    subst (λ k. AreMade (write_calls z forced least k rest) m.calls) (moved later) (subst (λ k. AreMade (calls_if (k == 0) (write_calls z forced least at' rest)) m.calls) later m.made) in
    let call : Answered = record { asked = write_call forced (at / z) piece; said = Ok (place, replies.Done) } in
    let same : calls_if (e == 0) (write_calls z forced least at (piece ++ rest)) ≡ write_call forced (at / z) piece ∷ write_calls z forced least (at + length piece) rest =
    ap (λ k. calls_if (k == 0) (write_calls z forced least at (piece ++ rest))) first ∙ calls_now z least at forced piece rest a c len in
    record {
      calls = call ∷ m.calls;
      made = subst (λ l. AreMade l (call ∷ m.calls)) (sym same) (refl, made);
      runs = (mid, ans, m.runs);
      says = m.says ∙ ap (λ k. if k == 0 then error_among (first_refusal m.calls) else k) later
          ∙ sym (ap (λ k. if k == 0 then error_among (first_refusal (call ∷ m.calls)) else k) first);
    }
makes_next tells z forced e e' at at' least piece rest old mid new error (refused refusal first later ans) a c len moved m =
    let test : (e' == 0) ≡ false = ne_eqb e' 0 (λ f. error_not_0 refusal (sym later ∙ f)) in
    let none : m.calls ≡ [] = none_made m.calls (subst (λ t. AreMade (calls_if t (write_calls z forced least at' rest)) m.calls) test m.made) in
    let still : new ≡ mid = subst (λ l. Runs tells mid l new) none m.runs in
    let call : Answered = record { asked = write_call forced (at / z) piece; said = Err refusal } in
    let same : calls_if (e == 0) (write_calls z forced least at (piece ++ rest)) ≡ write_call forced (at / z) piece ∷ write_calls z forced least (at + length piece) rest =
    ap (λ k. calls_if (k == 0) (write_calls z forced least at (piece ++ rest))) first ∙ calls_now z least at forced piece rest a c len in
    record {
      calls = call ∷ [];
      made = subst (λ l. AreMade l (call ∷ [])) (sym same) (refl, refl);
      runs = (mid, ans, still);
      says = m.says ∙ ap (λ t. if t then error_among (first_refusal m.calls) else e') test ∙ later
          ∙ sym (ap (λ k. if k == 0 then error_among (first_refusal (call ∷ [])) else k) first);
    }
makes_next tells z forced e e' at at' least piece rest old mid new error (skipped wrong later still) a c len moved m =
    let test : (e == 0) ≡ false = ne_eqb e 0 wrong in
    let here : AreMade (calls_if (e == 0) (write_calls z forced least at' rest)) m.calls = subst (λ k. AreMade (calls_if (k == 0) (write_calls z forced least at' rest)) m.calls) later m.made in
    let none : AreMade [] m.calls = subst (λ t. AreMade (calls_if t (write_calls z forced least at' rest)) m.calls) test here in
    record {
      calls = m.calls;
      made = subst (λ t. AreMade (calls_if t (write_calls z forced least at (piece ++ rest))) m.calls) (sym test) none;
      runs = subst (λ k. Runs tells k m.calls new) still m.runs;
      says = m.says ∙ ap (λ k. if k == 0 then error_among (first_refusal m.calls) else k) later;
    }

made_if : (b : Bool) → AreMade (calls_if b []) []
made_if true = tt
made_if false = tt

same_error : (e : ℕ) → e ≡ (if e == 0 then 0 else e)
same_error zero = refl
same_error (suc e) = sym (ap (λ t. if t then 0 else suc e) (ne_eqb (suc e) 0 (λ f. omega arith)))

no_pieces : (z : ℕ) (forced : Bool) (e least at : ℕ) (text : List ℕ) → length text < least → AreMade (calls_if (e == 0) (write_calls z forced least at text)) []
no_pieces z forced e least at text few =
    subst (λ (l : List (ℕ × List ℕ)). AreMade (calls_if (e == 0) (map (λ p. write_call forced (p.0 / z) p.1) l)) []) (sym (pieces_few piece_bytes least at text few)) (made_if (e == 0))

pub takes_done : {D : Type 0} (tells : Telling D) (z : ℕ) (forced : Bool) (e at count : ℕ) (left : Option (List ℕ)) (old : D) → count < 2 ^ 64 → TakesRest tells z forced e at 0 count left old count left old e
takes_done tells z forced e at count left old fits = record {
  text = [];
  len = refl;
  taken = Consumes-nil left;
  counts = omega arith;
  calls = [];
  made = no_pieces z forced e 1 at [] (lit< tt);
  runs = refl;
  says = same_error e;
}

pub takes_next : {D : Type 0} (tells : Telling D) (z : ℕ) (forced : Bool) (e e' at at' n m count mid count' : ℕ) (piece : List ℕ) (left now left' : Option (List ℕ)) (old known new : D) (error : ℕ)
    → IsPieceTaken tells z forced at piece e e' old known → length piece ≡ min piece_bytes n → m ≡ n - length piece → 0 < n → (e' ≡ 0 → at' ≡ at + length piece)
    → Consumes left now piece → mid ≡ counted count (length piece)
    → TakesRest tells z forced e' at' m mid now known count' left' new error → TakesRest tells z forced e at n count left old count' left' new error
takes_next tells z forced e e' at at' n m count mid count' piece left now left' old known new error taken len less some moved got counts rest =
    let whole : length (piece ++ rest.text) ≡ n = let l = rest.len in omega (arith, length-append piece rest.text) in
    let made = makes_next tells z forced e e' at at' 1 piece rest.text old known new error taken (lit< tt) (omega arith) (len ∙ ap (min piece_bytes) (sym whole)) moved
    record { calls = rest.calls; made = rest.made; runs = rest.runs; says = rest.says } in
    record {
      text = piece ++ rest.text;
      len = whole;
      taken = Consumes-trans left now left' piece rest.text got rest.taken;
      counts = rest.counts ∙ ap (λ k. counted k (length rest.text)) counts ∙ counted_more count (length piece) (length rest.text) ∙ ap (counted count) (sym (length-append piece rest.text));
      calls = made.calls;
      made = made.made;
      runs = made.runs;
      says = made.says;
    }

pub cuts_here : {D : Type 0} (tells : Telling D) (z : ℕ) (forced : Bool) (e at n k count : ℕ) (left left' : Option (List ℕ)) (old : D) (refusal : NbdRefusal)
    → k ≡ min piece_bytes n → IsShort k count left left' refusal → CutsRest tells z forced e at n count left old left' old refusal
cuts_here tells z forced e at n k count left left' old refusal piece short =
    let few = short.few in
    record {
      text = short.part;
      few = omega arith;
      taken = short.taken;
      why = short.why;
      calls = [];
      made = no_pieces z forced e piece_bytes at short.part (omega arith);
      runs = refl;
    }

pub cuts_next : {D : Type 0} (tells : Telling D) (z : ℕ) (forced : Bool) (e e' at at' n m count mid : ℕ) (piece : List ℕ) (left now left' : Option (List ℕ)) (old known new : D) (refusal : NbdRefusal)
    → IsPieceTaken tells z forced at piece e e' old known → length piece ≡ min piece_bytes n → m ≡ n - length piece → 0 < n → (e' ≡ 0 → at' ≡ at + length piece)
    → Consumes left now piece → mid ≡ counted count (length piece)
    → CutsRest tells z forced e' at' m mid now known left' new refusal → CutsRest tells z forced e at n count left old left' new refusal
cuts_next tells z forced e e' at at' n m count mid piece left now left' old known new refusal taken len less some moved got counts rest =
    let few = rest.few in
    let sum = length-append piece rest.text in
    let made = makes_next tells z forced e e' at at' piece_bytes piece rest.text old known new _ taken (lit< tt) (omega arith) (omega arith) moved
    record { calls = rest.calls; made = rest.made; runs = rest.runs; says = refl } in
    record {
      text = piece ++ rest.text;
      few = omega arith;
      taken = Consumes-trans left now left' piece rest.text got rest.taken;
      why = subst (λ k. IsSourceEnd k left' refusal) (ap (λ k. counted k (length rest.text)) counts ∙ counted_more count (length piece) (length rest.text) ∙ ap (counted count) (sym sum)) rest.why;
      calls = made.calls;
      made = made.made;
      runs = made.runs;
    }

-- ---- the whole write

pub takes_write : {D : Type 0} (tells : Telling D) (g : Geometry) (r : Request) (forced : Bool) (e count count' : ℕ) (left left' : Option (List ℕ)) (old new : D) (error : ℕ)
    → r.kind ≡ 1 → forced ≡ is_forced r → e ≡ judged g r → TakesRest tells g.sector forced e r.offset r.len count left old count' left' new error
    → TakesWrite tells g r count count' left left' old new error
unfolding calls_of error_in
takes_write tells g r forced e count count' left left' old new error kind force judge rest = record {
  text = rest.text;
  len = rest.len;
  taken = rest.taken;
  count = rest.counts;
  handled = λ given. record {
    calls = rest.calls;
    made = subst (λ l. AreMade l rest.calls) (same_calls g r forced e 1 rest.text kind force judge) rest.made;
    runs = rest.runs;
    says = rest.says ∙ ap (λ k. if k == 0 then error_among (first_refusal rest.calls) else k) judge;
    gave = λ read ok. absurd (wrong_kind r kind read);
  };
}
  where
    wrong_kind : (r : Request) → r.kind ≡ 1 → r.kind ≡ 0 → ⊥
    wrong_kind r a b = omega arith

    same_calls : (g : Geometry) (r : Request) (forced : Bool) (e least : ℕ) (text : List ℕ) → r.kind ≡ 1 → forced ≡ is_forced r → e ≡ judged g r
        → calls_if (e == 0) (write_calls g.sector forced least r.offset text) ≡ calls_if (judged g r == 0) (calls_by_kind g.sector r least text)
    same_calls g r forced e least text kind force judge =
        ap (λ k. calls_if (k == 0) (write_calls g.sector forced least r.offset text)) judge
        ∙ ap (λ f. calls_if (judged g r == 0) (write_calls g.sector f least r.offset text)) force
        ∙ ap (calls_if (judged g r == 0)) (sym (write_by_kind g.sector least r text kind))

pub cuts_write : {D : Type 0} (tells : Telling D) (g : Geometry) (r : Request) (forced : Bool) (e count : ℕ) (left left' : Option (List ℕ)) (old new : D) (refusal : NbdRefusal)
    → r.kind ≡ 1 → forced ≡ is_forced r → e ≡ judged g r → CutsRest tells g.sector forced e r.offset r.len count left old left' new refusal
    → CutsWrite tells g r count left left' old new refusal
unfolding calls_begun
cuts_write tells g r forced e count left left' old new refusal kind force judge rest = record {
  text = rest.text;
  few = subst (λ n. length rest.text < n) (sym (ap (λ k. if k == 1 then r.len else 0) kind)) rest.few;
  taken = rest.taken;
  why = rest.why;
  calls = rest.calls;
  made = subst (λ l. AreMade l rest.calls)
      (ap (λ k. calls_if (k == 0) (write_calls g.sector forced piece_bytes r.offset rest.text)) judge
      ∙ ap (λ f. calls_if (judged g r == 0) (write_calls g.sector f piece_bytes r.offset rest.text)) force
      ∙ ap (calls_if (judged g r == 0)) (sym (write_by_kind g.sector piece_bytes r rest.text kind))) rest.made;
  runs = rest.runs;
}

-- ---- in the loop

-- no error behind a piece says that there was none before it
pub none_before : {D : Type 0} (tells : Telling D) (z : ℕ) (forced : Bool) (at : ℕ) (piece : List ℕ) (before behind : ℕ) (old new : D) → IsPieceTaken tells z forced at piece before behind old new → behind ≡ 0 → before ≡ 0
none_before tells z forced at piece before behind old new (written place first later ans) e = first
none_before tells z forced at piece before behind old new (refused refusal first later ans) e = first
none_before tells z forced at piece before behind old new (skipped wrong later still) e = absurd (wrong (sym later ∙ e))

pub piece_as : {D : Type 0} (tells : Telling D) (z : ℕ) (forced : Bool) (at : ℕ) (piece other : List ℕ) (before behind : ℕ) (old new : D) → piece ≡ other
    → IsPieceTaken tells z forced at piece before behind old new → IsPieceTaken tells z forced at other before behind old new
piece_as tells z forced at piece other before behind old new e h = subst (λ p. IsPieceTaken tells z forced at p before behind old new) e h

pub moved_on : (at at' n left len : ℕ) → at' ≡ min (at + n) (2 ^ 64 - 1) → at + left < 2 ^ 64 → n ≤ left → len ≡ n → at' ≡ at + len
moved_on at at' n left len a b c d = omega arith

pub takes_none : {D : Type 0} (tells : Telling D) (z : ℕ) (forced : Bool) (e at n count : ℕ) (left : Option (List ℕ)) (old : D) → count < 2 ^ 64 → n ≡ 0 → TakesRest tells z forced e at n count left old count left old e
takes_none tells z forced e at n count left old fits none = subst (λ k. TakesRest tells z forced e at k count left old count left old e) (sym none) (takes_done tells z forced e at count left old fits)

pub page_len : (n : ℕ) (page out : List ℕ) → length out ≡ n → n ≤ length page → length (out ++ drop n page) ≡ length page
page_len n page out e room = omega (arith, length-append out (drop n page), length-drop n page)
