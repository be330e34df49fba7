-- A source's bytes are read in one way: a machine reads them, and each reading is what it reads.
use Rattle.std.proofs.Common.{◌≡◌, ◌≢◌, ◌≤◌, ◌<◌, ℕ, ◌+◌, ◌^◌, ◌++◌, ◌==◌, List, [], ◌∷◌, length, take, drop, lit<, ltb, Some, Result, Ok, Err, refl, sym, ap, ap₂, subst, ◌∙◌, arith, append_assoc, length-append, inl, inr}
use Rattle.std.specs.Prelude.{if◌then◌else◌}
use Rattle.std.proofs.lemmas.Bool.{eq-eqb, ne_eqb, lt-ltb, le-ltb}
use Rattle.std.proofs.lemmas.List.{append-nil, take_all}
use lib.Seq.{take_at, drop_at}
use Rattle.nbd_front.specs.declared.export.Export.{Export}
use Rattle.nbd_front.specs.declared.request.Request.{Request}
use Rattle.nbd_front.specs.declared.refusal.NbdRefusal.{NbdRefusal}
use Rattle.nbd_front.specs.declared.refusal.NbdRefusal.TheVariants as refusals
use Rattle.nbd_front.specs.Wire.{number_at, option_magic, request_magic, most_option_bytes, most_bytes, request_of, data_len, counted}
use Rattle.nbd_front.specs.Messages.{Phase, greeted, haggling, transmitting, cut_short, over, Message, client_flags, other_option, named, aborted, asked, begun, disconnected, IsOption, IsRequest, IsNamed, Spells, flags_spelled, other_spelled, name_spelled, abort_spelled, request_spelled, write_begun, disconnect_spelled, Reads, nothing, message}
use Rattle.nbd_front.specs.Sessions.{EndsAs, IsPart, of_flags, of_option_magic, of_option, of_option_data, of_request_magic, of_request, of_write, HasBadMagic, bad_option, bad_request, IsTooLong, long_option, long_write, HasOtherName, other_name, HasOtherFlags, other_flags}
use Rattle.nbd_front.proofs.Taken.{counted_more}
use Rattle.nbd_front.specs.Laws.{IsByBytes, ReadsOnce}

-- what ends a session
data Stop : Type 0 where
  closed : Stop
  cut : Stop
  wrong : Stop
  other_bits : Stop
  long : ℕ → Stop

-- what comes first: a message, a phase behind it, the rest, and how many bytes it has; data that may name the export; or the end
data Step : Type 0 where
  goes : Message → Phase → List ℕ → ℕ → Step
  names : ℕ → List ℕ → List ℕ → ℕ → Step
  stops : Stop → Step

option_by : ℕ → ℕ → List ℕ → List ℕ → Step
option_by flags number text rest =
    if number == 1 then names flags text rest (16 + length text)
    else if number == 2 then goes aborted over rest (16 + length text)
    else goes (other_option number) (haggling flags) rest (16 + length text)

option_data : ℕ → ℕ → ℕ → List ℕ → Step
option_data flags number len more = if ltb (length more) len then stops cut else option_by flags number (take len more) (drop len more)

option_head : ℕ → List ℕ → List ℕ → Step
option_head flags head more =
    if ltb (length head) 8 then stops cut
    else if ltb most_option_bytes (number_at 4 head 4) then stops (long 12)
    else option_data flags (number_at 4 head 0) (number_at 4 head 4) more

request_by : Request → List ℕ → Step
request_by r more =
    if ltb (length more) (data_len r) then goes (begun r more) cut_short [] (28 + length more)
    else goes (asked r (take (data_len r) more)) transmitting (drop (data_len r) more) (28 + data_len r)

request_kind : Request → List ℕ → Step
request_kind r more =
    if ltb most_bytes (data_len r) then stops (long 24)
    else if r.kind == 2 then goes disconnected over more 28
    else request_by r more

request_head : List ℕ → List ℕ → Step
request_head head more = if ltb (length head) 24 then stops cut else request_kind (request_of head) more

step : Phase → List ℕ → Step
step greeted all =
    if ltb (length all) 4 then stops cut
    else if ltb 3 (number_at 4 (take 4 all) 0) then stops other_bits
    else goes (client_flags (number_at 4 (take 4 all) 0)) (haggling (number_at 4 (take 4 all) 0)) (drop 4 all) 4
step (haggling flags) all =
    if ltb (length all) 8 then stops cut
    else if number_at 8 (take 8 all) 0 == option_magic then option_head flags (take 8 (drop 8 all)) (drop 8 (drop 8 all))
    else stops wrong
step transmitting all =
    if ltb (length all) 4 then stops cut
    else if number_at 4 (take 4 all) 0 == request_magic then request_head (take 24 (drop 4 all)) (drop 24 (drop 4 all))
    else stops wrong
step cut_short all = stops cut
step over all = stops closed

-- ---- the machine at each case

-- tests
module _ {A : Type 0} (x y : A) where
  if_less : (a b : ℕ) → a < b → (if ltb a b then x else y) ≡ x
  if_less a b h = ap (λ t. if t then x else y) (lt-ltb a b h)

  if_not_less : (a b : ℕ) → b ≤ a → (if ltb a b then x else y) ≡ y
  if_not_less a b h = ap (λ t. if t then x else y) (le-ltb a b h)

  if_same : (a b : ℕ) → a ≡ b → (if a == b then x else y) ≡ x
  if_same a b h = ap (λ t. if t then x else y) (eq-eqb a b h)

  if_other : (a b : ℕ) → a ≢ b → (if a == b then x else y) ≡ y
  if_other a b h = ap (λ t. if t then x else y) (ne_eqb a b h)

-- an option's magic
at_option : (flags : ℕ) (magic more : List ℕ) → length magic ≡ 8 → number_at 8 magic 0 ≡ option_magic → step (haggling flags) (magic ++ more) ≡ option_head flags (take 8 more) (drop 8 more)
unfolding step
at_option flags magic more len is =
    if_not_less _ _ (length (magic ++ more)) 8 (omega (arith, length-append magic more))
    ∙ ap (λ m. if number_at 8 m 0 == option_magic then option_head flags (take 8 (drop 8 (magic ++ more))) (drop 8 (drop 8 (magic ++ more))) else stops wrong) (take_at magic more 8 len)
    ∙ if_same _ _ (number_at 8 magic 0) option_magic is
    ∙ ap (λ l. option_head flags (take 8 l) (drop 8 l)) (drop_at magic more 8 len)

-- a request's magic
at_request : (magic more : List ℕ) → length magic ≡ 4 → number_at 4 magic 0 ≡ request_magic → step transmitting (magic ++ more) ≡ request_head (take 24 more) (drop 24 more)
unfolding step
at_request magic more len is =
    if_not_less _ _ (length (magic ++ more)) 4 (omega (arith, length-append magic more))
    ∙ ap (λ m. if number_at 4 m 0 == request_magic then request_head (take 24 (drop 4 (magic ++ more))) (drop 24 (drop 4 (magic ++ more))) else stops wrong) (take_at magic more 4 len)
    ∙ if_same _ _ (number_at 4 magic 0) request_magic is
    ∙ ap (λ l. request_head (take 24 l) (drop 24 l)) (drop_at magic more 4 len)

-- an option's number and length
at_option_head : (flags : ℕ) (magic head more : List ℕ) → length magic ≡ 8 → number_at 8 magic 0 ≡ option_magic → length head ≡ 8 → number_at 4 head 4 ≤ most_option_bytes
    → step (haggling flags) (magic ++ head ++ more) ≡ option_data flags (number_at 4 head 0) (number_at 4 head 4) more
unfolding option_head
at_option_head flags magic head more len is size few =
    ap (step (haggling flags)) (append_assoc magic head more) ∙ at_option flags magic (head ++ more) len is
    ∙ ap₂ (option_head flags) (take_at head more 8 size) (drop_at head more 8 size)
    ∙ if_not_less _ _ (length head) 8 (omega arith) ∙ if_not_less _ _ most_option_bytes (number_at 4 head 4) few

-- an option with its data
at_data : (flags number : ℕ) (magic head text x : List ℕ) → IsOption number magic head text → step (haggling flags) ((magic ++ head ++ text) ++ x) ≡ option_by flags number text x
unfolding option_data
at_data flags number magic head text x o =
    let len = o.len in let most = o.most in
    let few : number_at 4 head 4 ≤ most_option_bytes = omega arith in
    ap (step (haggling flags)) (append_assoc (magic ++ head) text x)
    ∙ at_option_head flags magic head (text ++ x) o.magic_len o.magic_is o.head_len few
    ∙ if_not_less _ _ (length (text ++ x)) (number_at 4 head 4) (omega (arith, length-append text x))
    ∙ ap₂ (option_by flags (number_at 4 head 0)) (take_at text x (number_at 4 head 4) len) (drop_at text x (number_at 4 head 4) len)
    ∙ ap (λ n. option_by flags n text x) o.is

-- a request's fields
at_request_head : (magic head more : List ℕ) → length magic ≡ 4 → number_at 4 magic 0 ≡ request_magic → length head ≡ 24
    → step transmitting (magic ++ head ++ more) ≡ request_kind (request_of head) more
unfolding request_head
at_request_head magic head more len is size =
    ap (step transmitting) (append_assoc magic head more) ∙ at_request magic (head ++ more) len is
    ∙ ap₂ request_head (take_at head more 24 size) (drop_at head more 24 size)
    ∙ if_not_less _ _ (length head) 24 (omega arith)

at_kind : (r : Request) (magic head more : List ℕ) → IsRequest r magic head → step transmitting (magic ++ head ++ more) ≡ (if r.kind == 2 then goes disconnected over more 28 else request_by r more)
unfolding request_kind
at_kind r magic head more i =
    at_request_head magic head more i.magic_len i.magic_is i.head_len
    ∙ ap (λ q. request_kind q more) (sym i.is)
    ∙ if_not_less _ _ most_bytes (data_len r) i.most

-- ---- what the machine reads

IsStep : Export → Step → Message → Phase → List ℕ → ℕ → Type 0
IsStep e (goes m q rest n) m' q' rest' n' = goes m q rest n ≡ goes m' q' rest' n'
IsStep e (names flags text rest n) m' q' rest' n' = IsNamed e text × (goes (named flags) transmitting rest n ≡ goes m' q' rest' n')
IsStep e (stops s) m' q' rest' n' = ⊥

IsEnd : Export → Step → ℕ → List ℕ → Result (Unit {0}) NbdRefusal → Type 0
IsEnd e (goes m q rest n) at all r = ⊥
IsEnd e (names flags text rest n) at all r = (text ≢ []) × (text ≢ e.name) × (r ≡ Err refusals.OtherName)
IsEnd e (stops closed) at all r = r ≡ Ok tt
IsEnd e (stops cut) at all r = r ≡ Err (refusals.Cut (counted at (length all)))
IsEnd e (stops wrong) at all r = r ≡ Err (refusals.Magic at)
IsEnd e (stops other_bits) at all r = r ≡ Err refusals.OtherFlags
IsEnd e (stops (long n)) at all r = r ≡ Err (refusals.TooLong (counted at n))

Machine : Export → Phase → ℕ → List ℕ → List Message → Result (Unit {0}) NbdRefusal → Type 0
Machine e p at all [] r = IsEnd e (step p all) at all r
Machine e p at all (m ∷ ms) r = (q : Phase) × (rest : List ℕ) × (n : ℕ) × IsStep e (step p all) m q rest n × Machine e q (counted at n) rest ms r

-- ---- it reads one thing

one_end : (e : Export) (s : Step) (at : ℕ) (all : List ℕ) (r r' : Result (Unit {0}) NbdRefusal) → IsEnd e s at all r → IsEnd e s at all r' → r ≡ r'
unfolding IsEnd
one_end e (goes m q rest n) at all r r' a b = absurd a
one_end e (names flags text rest n) at all r r' a b = a.2 ∙ sym b.2
one_end e (stops closed) at all r r' a b = a ∙ sym b
one_end e (stops cut) at all r r' a b = a ∙ sym b
one_end e (stops wrong) at all r r' a b = a ∙ sym b
one_end e (stops other_bits) at all r r' a b = a ∙ sym b
one_end e (stops (long n)) at all r r' a b = a ∙ sym b

not_both : (e : Export) (s : Step) (at : ℕ) (all : List ℕ) (r : Result (Unit {0}) NbdRefusal) (m : Message) (q : Phase) (rest : List ℕ) (n : ℕ) → IsEnd e s at all r → IsStep e s m q rest n → ⊥
unfolding IsEnd IsStep
not_both e (goes m' q' rest' n') at all r m q rest n a b = a
not_both e (names flags text rest' n') at all r m q rest n a b = elim b.0 [ inl none ↦ a.0 none | inr given ↦ a.1 given ]
not_both e (stops s) at all r m q rest n a b = b

one_step : (e : Export) (s : Step) (m m' : Message) (q q' : Phase) (rest rest' : List ℕ) (n n' : ℕ) → IsStep e s m q rest n → IsStep e s m' q' rest' n' → goes m q rest n ≡ goes m' q' rest' n'
unfolding IsStep
one_step e (goes a b c d) m m' q q' rest rest' n n' x y = sym x ∙ y
one_step e (names a b c d) m m' q q' rest rest' n n' x y = sym x.1 ∙ y.1
one_step e (stops s) m m' q q' rest rest' n n' x y = absurd x

machine_as : (e : Export) (p q : Phase) (at a b : ℕ) (x y : List ℕ) (ms : List Message) (r : Result (Unit {0}) NbdRefusal) → p ≡ q → a ≡ b → x ≡ y → Machine e p (counted at a) x ms r → Machine e q (counted at b) y ms r
machine_as e p q at a b x y ms r ep en ex m =
    subst (λ k. Machine e k (counted at b) y ms r) ep (subst (λ k. Machine e p (counted at k) y ms r) en (subst (λ l. Machine e p (counted at a) l ms r) ex m))

one_machine : (e : Export) (p : Phase) (at : ℕ) (all : List ℕ) (ms ns : List Message) (r s : Result (Unit {0}) NbdRefusal) → Machine e p at all ms r → Machine e p at all ns s → (ms ≡ ns) × (r ≡ s)
unfolding Machine
one_machine e p at all [] [] r s a b = (refl, one_end e (step p all) at all r s a b)
one_machine e p at all [] (n ∷ ns) r s a b = absurd (not_both e (step p all) at all r n b.0 b.1 b.2 a b.3)
one_machine e p at all (m ∷ ms) [] r s a b = absurd (not_both e (step p all) at all s m a.0 a.1 a.2 b a.3)
one_machine e p at all (m ∷ ms) (n ∷ ns) r s a b =
    let same = one_step e (step p all) n m b.0 a.0 b.1 a.1 b.2 a.2 b.3 a.3 in
    let rest = one_machine e a.0 (counted at a.2) a.1 ms ns r s a.4 (machine_as e b.0 a.0 at b.2 a.2 b.1 a.1 ns s (cc) (cc) (cc) b.4) in
    let first : m ≡ n = cc in
    (ap₂ (λ (x : Message) (xs : List Message). x ∷ xs) first rest.0, rest.1)

-- ---- each reading is what the machine reads

step_by : (e : Export) (s t : Step) (m : Message) (q : Phase) (x : List ℕ) (n k : ℕ) → s ≡ t → t ≡ goes m q x n → n ≡ k → IsStep e s m q x k
unfolding IsStep
step_by e s t m q x n k a b c = subst (λ u. IsStep e u m q x k) (sym (a ∙ b)) (ap (goes m q x) c)

step_named : (e : Export) (s : Step) (flags : ℕ) (text x : List ℕ) (n k : ℕ) → s ≡ names flags text x n → IsNamed e text → n ≡ k → IsStep e s (named flags) transmitting x k
unfolding IsStep
step_named e s flags text x n k a named_so c = subst (λ u. IsStep e u (named flags) transmitting x k) (sym a) (named_so, ap (goes (named flags) transmitting x) c)

option_len : (magic head text : List ℕ) → length magic ≡ 8 → length head ≡ 8 → 16 + length text ≡ length (magic ++ head ++ text)
option_len magic head text a b = omega (arith, length-append (magic ++ head) text, length-append magic head)

request_len : (magic head text : List ℕ) (n : ℕ) → length magic ≡ 4 → length head ≡ 24 → length text ≡ n → 28 + n ≡ length (magic ++ head ++ text)
request_len magic head text n a b c = omega (arith, length-append (magic ++ head) text, length-append magic head)

head_len : (magic head : List ℕ) → length magic ≡ 4 → length head ≡ 24 → 28 ≡ length (magic ++ head)
head_len magic head a b = omega (arith, length-append magic head)

spells_step : (e : Export) (p : Phase) (b : List ℕ) (q : Phase) (m : Message) (x : List ℕ) → Spells e p b m q → (q ≡ cut_short → x ≡ []) → IsStep e (step p (b ++ x)) m q x (length b)
unfolding step option_by request_by
spells_step e _ b _ _ x (flags_spelled len few) end =
    step_by e _ (goes (client_flags (number_at 4 b 0)) (haggling (number_at 4 b 0)) x 4) _ _ x 4 (length b)
    (if_not_less _ _ (length (b ++ x)) 4 (omega (arith, length-append b x))
    ∙ ap₂ (λ (h t : List ℕ). if ltb 3 (number_at 4 h 0) then stops other_bits else goes (client_flags (number_at 4 h 0)) (haggling (number_at 4 h 0)) t 4) (take_at b x 4 len) (drop_at b x 4 len)
    ∙ if_not_less _ _ 3 (number_at 4 b 0) few) refl (sym len)
spells_step e _ _ _ _ x (other_spelled {flags} {number} {magic} {head} {text} is one two) end =
    step_by e _ _ _ _ x (16 + length text) _ (at_data flags number magic head text x is)
    (if_other _ _ number 1 one ∙ if_other _ _ number 2 two) (option_len magic head text is.magic_len is.head_len)
spells_step e _ _ _ _ x (name_spelled {flags} {magic} {head} {text} is given) end =
    step_named e _ flags text x (16 + length text) _ (at_data flags 1 magic head text x is) given (option_len magic head text is.magic_len is.head_len)
spells_step e _ _ _ _ x (abort_spelled {flags} {magic} {head} {text} is) end =
    step_by e _ _ _ _ x (16 + length text) _ (at_data flags 2 magic head text x is) refl (option_len magic head text is.magic_len is.head_len)
spells_step e _ _ _ _ x (request_spelled {r} {magic} {head} {text} is other len) end =
    step_by e _ (request_by r (text ++ x)) _ _ x (28 + data_len r) _
    (ap (step transmitting) (append_assoc (magic ++ head) text x) ∙ at_kind r magic head (text ++ x) is ∙ if_other _ _ r.kind 2 other)
    (if_not_less _ _ (length (text ++ x)) (data_len r) (omega (arith, length-append text x))
    ∙ ap₂ (λ (h t : List ℕ). goes (asked r h) transmitting t (28 + data_len r)) (take_at text x (data_len r) len) (drop_at text x (data_len r) len))
    (request_len magic head text (data_len r) is.magic_len is.head_len len)
spells_step e _ _ _ _ x (write_begun {r} {magic} {head} {text} is few) end =
    let none = end refl in
    let more : text ++ x ≡ text = ap (λ l. text ++ l) none ∙ append-nil text in
    step_by e _ (request_by r text) _ _ x (28 + length text) _
    (ap (step transmitting) (append_assoc (magic ++ head) text x) ∙ at_kind r magic head (text ++ x) is ∙ if_other _ _ r.kind 2 (no_data r (length text) few) ∙ ap (request_by r) more)
    (if_less _ _ (length text) (data_len r) few ∙ ap (λ (l : List ℕ). goes (begun r text) cut_short l (28 + length text)) (sym none))
    (request_len magic head text (length text) is.magic_len is.head_len refl)
  where
    no_data : (r : Request) (n : ℕ) → n < data_len r → r.kind ≢ 2
    no_data r n few two =
        let none : data_len r ≡ 0 = ap (λ k. if k == 1 then r.len else 0) two in
        absurd (omega arith)
spells_step e _ _ _ _ x (disconnect_spelled {r} {magic} {head} is two) end =
    step_by e _ _ _ _ x 28 _ (at_kind r magic head x is) (if_same _ _ r.kind 2 two) (head_len magic head is.magic_len is.head_len)

-- nothing is read behind a cut write
cut_none : (e : Export) (p q : Phase) (b : List ℕ) (ms : List Message) → Reads e p b ms q → p ≡ cut_short → (b ≡ []) × (q ≡ cut_short)
cut_none e p _ _ _ nothing is = (refl, is)
cut_none e p q _ _ (message {q = mid} {bytes = b} {m = m} spells reads) is = absurd (no_message e p b mid m spells is)
  where
    no_message : (e : Export) (p : Phase) (b : List ℕ) (q : Phase) (m : Message) → Spells e p b m q → p ≡ cut_short → ⊥
    no_message e _ _ _ _ (flags_spelled len few) is = cc
    no_message e _ _ _ _ (other_spelled a b c) is = cc
    no_message e _ _ _ _ (name_spelled a b) is = cc
    no_message e _ _ _ _ (abort_spelled a) is = cc
    no_message e _ _ _ _ (request_spelled a b c) is = cc
    no_message e _ _ _ _ (write_begun a b) is = cc
    no_message e _ _ _ _ (disconnect_spelled a b) is = cc

part_none : (p : Phase) (tail : List ℕ) → IsPart p tail → p ≡ cut_short → tail ≡ []
part_none _ _ (of_flags a) is = absurd (cc)
part_none _ _ (of_option_magic a) is = absurd (cc)
part_none _ _ (of_option magic head a b c) is = absurd (cc)
part_none _ _ (of_option_data magic head text a b c d f) is = absurd (cc)
part_none _ _ (of_request_magic a) is = absurd (cc)
part_none _ _ (of_request magic head a b c) is = absurd (cc)
part_none _ _ of_write is = refl

magic_none : (p : Phase) (tail : List ℕ) → HasBadMagic p tail → p ≡ cut_short → ⊥
magic_none _ _ (bad_option a b) is = cc
magic_none _ _ (bad_request a b) is = cc

name_none : (e : Export) (p : Phase) (tail : List ℕ) → HasOtherName e p tail → p ≡ cut_short → ⊥
name_none e _ _ (other_name a b c) is = cc

long_none : (p : Phase) (on : ℕ) (tail : List ℕ) → IsTooLong p on tail → p ≡ cut_short → ⊥
long_none _ _ _ (long_option magic head a b c d) is = cc
long_none _ _ _ (long_write magic head a b c d f) is = cc

flags_none : (p : Phase) (tail : List ℕ) → HasOtherFlags p tail → p ≡ cut_short → ⊥
flags_none _ _ (other_flags a b) is = cc

cut_rest : (e : Export) (p : Phase) (at : ℕ) (tail rest : List ℕ) (r : Result (Unit {0}) NbdRefusal) → p ≡ cut_short → EndsAs e p at tail (Some rest) r → IsByBytes r → (tail ≡ []) × (rest ≡ [])
cut_rest e p at tail rest (Ok done) is ends by = absurd (over_none p is ends.0)
  where
    over_none : (p : Phase) → p ≡ cut_short → p ≡ over → ⊥
    over_none p a b = let x : cut_short ≡ over = sym a ∙ b in cc
cut_rest e p at tail rest (Err (refusals.Cut place)) is ends by = (part_none p tail ends.2 is, ends.1)
cut_rest e p at tail rest (Err (refusals.Magic place)) is ends by = absurd (magic_none p tail ends.1 is)
cut_rest e p at tail rest (Err refusals.OtherName) is ends by = absurd (name_none e p tail ends is)
cut_rest e p at tail rest (Err (refusals.TooLong place)) is ends by = absurd (long_none p ends.0 tail ends.2 is)
cut_rest e p at tail rest (Err refusals.OtherFlags) is ends by = absurd (flags_none p tail ends is)
cut_rest e p at tail rest (Err (refusals.Source fault)) is ends by = absurd by
cut_rest e p at tail rest (Err (refusals.Sink fault)) is ends by = absurd by
cut_rest e p at tail rest (Err refusals.Spent) is ends by = absurd by

-- ---- the ends

part_step : (p : Phase) (tail : List ℕ) → IsPart p tail → step p tail ≡ stops cut
unfolding step option_head option_data request_head
part_step _ tail (of_flags few) = if_less _ _ (length tail) 4 few
part_step _ tail (of_option_magic few) = if_less _ _ (length tail) 8 few
part_step _ _ (of_option {flags} magic head a b few) =
    at_option flags magic head a b ∙ ap (λ l. option_head flags l (drop 8 head)) (take_all 8 head (omega arith)) ∙ if_less _ _ (length head) 8 few
part_step _ _ (of_option_data {flags} magic head text a b c most few) =
    at_option_head flags magic head text a b c most ∙ if_less _ _ (length text) (number_at 4 head 4) few
part_step _ tail (of_request_magic few) = if_less _ _ (length tail) 4 few
part_step _ _ (of_request magic head a b few) =
    at_request magic head a b ∙ ap (λ l. request_head l (drop 24 head)) (take_all 24 head (omega arith)) ∙ if_less _ _ (length head) 24 few
part_step _ _ of_write = refl

magic_step : (p : Phase) (tail rest : List ℕ) → HasBadMagic p tail → step p (tail ++ rest) ≡ stops wrong
unfolding step
magic_step _ magic rest (bad_option {flags} len other) =
    if_not_less _ _ (length (magic ++ rest)) 8 (omega (arith, length-append magic rest))
    ∙ ap (λ m. if number_at 8 m 0 == option_magic then option_head flags (take 8 (drop 8 (magic ++ rest))) (drop 8 (drop 8 (magic ++ rest))) else stops wrong) (take_at magic rest 8 len)
    ∙ if_other _ _ (number_at 8 magic 0) option_magic other
magic_step _ magic rest (bad_request len other) =
    if_not_less _ _ (length (magic ++ rest)) 4 (omega (arith, length-append magic rest))
    ∙ ap (λ m. if number_at 4 m 0 == request_magic then request_head (take 24 (drop 4 (magic ++ rest))) (drop 24 (drop 4 (magic ++ rest))) else stops wrong) (take_at magic rest 4 len)
    ∙ if_other _ _ (number_at 4 magic 0) request_magic other

long_step : (p : Phase) (on : ℕ) (tail rest : List ℕ) → IsTooLong p on tail → step p (tail ++ rest) ≡ stops (long on)
unfolding option_head request_head request_kind
long_step _ _ _ rest (long_option {flags} magic head a b c most) =
    ap (step (haggling flags)) (append_assoc magic head rest) ∙ at_option flags magic (head ++ rest) a b
    ∙ ap₂ (option_head flags) (take_at head rest 8 c) (drop_at head rest 8 c)
    ∙ if_not_less _ _ (length head) 8 (omega arith) ∙ if_less _ _ most_option_bytes (number_at 4 head 4) most
long_step _ _ _ rest (long_write magic head a b c writes most) =
    at_request_head magic head rest a b c
    ∙ if_less _ _ most_bytes (data_len (request_of head)) (subst (λ n. most_bytes < n) (sym (ap (λ k. if k == 1 then (request_of head).len else 0) writes)) most)

flags_step : (p : Phase) (tail rest : List ℕ) → HasOtherFlags p tail → step p (tail ++ rest) ≡ stops other_bits
unfolding step
flags_step _ b rest (other_flags len many) =
    if_not_less _ _ (length (b ++ rest)) 4 (omega (arith, length-append b rest))
    ∙ ap₂ (λ (h t : List ℕ). if ltb 3 (number_at 4 h 0) then stops other_bits else goes (client_flags (number_at 4 h 0)) (haggling (number_at 4 h 0)) t 4) (take_at b rest 4 len) (drop_at b rest 4 len)
    ∙ if_less _ _ 3 (number_at 4 b 0) many

name_end : (e : Export) (p : Phase) (at : ℕ) (tail rest : List ℕ) → HasOtherName e p tail → IsEnd e (step p (tail ++ rest)) at (tail ++ rest) (Err refusals.OtherName)
unfolding IsEnd option_by
name_end e _ at _ rest (other_name {flags} {magic} {head} {text} is some other) =
    subst (λ s. IsEnd e s at ((magic ++ head ++ text) ++ rest) (Err refusals.OtherName)) (sym (at_data flags 1 magic head text rest is)) (some, other, refl)

over_step : (p : Phase) (all : List ℕ) → p ≡ over → step p all ≡ stops closed
unfolding step
over_step p all is = ap (λ q. step q all) is

end_by : (e : Export) (s t : Step) (at : ℕ) (all : List ℕ) (r : Result (Unit {0}) NbdRefusal) → s ≡ t → IsEnd e t at all r → IsEnd e s at all r
end_by e s t at all r same end = subst (λ u. IsEnd e u at all r) (sym same) end

ends_machine : (e : Export) (p : Phase) (at : ℕ) (tail rest : List ℕ) (r : Result (Unit {0}) NbdRefusal) → EndsAs e p at tail (Some rest) r → IsByBytes r
    → IsEnd e (step p (tail ++ rest)) at (tail ++ rest) r
unfolding IsEnd
ends_machine e p at tail rest (Ok done) ends by = end_by e _ _ at _ _ (over_step p (tail ++ rest) ends.0) refl
ends_machine e p at tail rest (Err (refusals.Cut place)) ends by =
    let whole : tail ++ rest ≡ tail = ap (λ l. tail ++ l) ends.1 ∙ append-nil tail in
    end_by e _ (stops cut) at (tail ++ rest) _ (ap (step p) whole ∙ part_step p tail ends.2) (ap (λ n. Err (refusals.Cut n)) (ends.0 ∙ ap (λ (l : List ℕ). counted at (length l)) (sym whole)))
ends_machine e p at tail rest (Err (refusals.Magic place)) ends by = end_by e _ (stops wrong) at (tail ++ rest) _ (magic_step p tail rest ends.1) (ap (λ n. Err (refusals.Magic n)) ends.0)
ends_machine e p at tail rest (Err refusals.OtherName) ends by = name_end e p at tail rest ends
ends_machine e p at tail rest (Err (refusals.TooLong place)) ends by = end_by e _ (stops (long ends.0)) at (tail ++ rest) _ (long_step p ends.0 tail rest ends.2) (ap (λ n. Err (refusals.TooLong n)) ends.1)
ends_machine e p at tail rest (Err refusals.OtherFlags) ends by = end_by e _ (stops other_bits) at (tail ++ rest) _ (flags_step p tail rest ends) refl
ends_machine e p at tail rest (Err (refusals.Source fault)) ends by = absurd by
ends_machine e p at tail rest (Err (refusals.Sink fault)) ends by = absurd by
ends_machine e p at tail rest (Err refusals.Spent) ends by = absurd by

-- ---- the whole

stays : (at : ℕ) → at < 2 ^ 64 → counted at 0 ≡ at
stays at h = omega arith

fits : (at n : ℕ) → counted at n < 2 ^ 64
fits at n = omega arith

to_machine : (e : Export) (p q : Phase) (at : ℕ) (b tail rest : List ℕ) (ms : List Message) (r : Result (Unit {0}) NbdRefusal) → at < 2 ^ 64 → Reads e p b ms q
    → EndsAs e q (counted at (length b)) tail (Some rest) r → IsByBytes r → Machine e p at ((b ++ tail) ++ rest) ms r
unfolding Machine
to_machine e p _ at _ tail rest _ r small nothing ends by = ends_machine e p at tail rest r (subst (λ k. EndsAs e p k tail (Some rest) r) (stays at small) ends) by
to_machine e p q at _ tail rest _ r small (message {q = mid} {bytes = b} {rest = bs} {m = m} {ms = ms} spells reads) ends by =
    let x = (bs ++ tail) ++ rest in
    let later = subst (λ k. EndsAs e q k tail (Some rest) r)
    (ap (counted at) (length-append b bs) ∙ sym (counted_more at (length b) (length bs))) ends in
    let whole : ((b ++ bs) ++ tail) ++ rest ≡ b ++ x =
    ap (λ l. l ++ rest) (append_assoc b bs tail) ∙ append_assoc b (bs ++ tail) rest in
    let none : mid ≡ cut_short → x ≡ [] = λ is.
    let c = cut_none e mid q bs ms reads is in let d = cut_rest e q _ tail rest r c.1 later by in
    ap₂ (λ (u v : List ℕ). u ++ v) (ap₂ (λ (u v : List ℕ). u ++ v) c.0 d.0) d.1 in (
      mid,
      x,
      length b,
      subst (λ l. IsStep e (step p l) m mid x (length b)) (sym whole) (spells_step e p b mid m x spells none),
      to_machine e mid q (counted at (length b)) bs tail rest ms r (fits at (length b)) reads later by,
    )

pub reads_once : ReadsOnce
reads_once e all ms ns r s a b =
    let one = to_machine e greeted a.last 0 a.bytes a.tail a.rest ms r (lit< tt) a.reads a.ends a.by_bytes in
    let two = to_machine e greeted b.last 0 b.bytes b.tail b.rest ns s (lit< tt) b.reads b.ends b.by_bytes in
    one_machine e greeted 0 all ms ns r s (subst (λ l. Machine e greeted 0 l ms r) (sym a.whole) one) (subst (λ l. Machine e greeted 0 l ns s) (sym b.whole) two)
