-- The steps of a session.
use Rattle.std.proofs.Common.{◌≡◌, ◌≢◌, ◌≤◌, ◌<◌, ℕ, suc, ◌+◌, ◌-◌, ◌*◌, ◌^◌, ◌++◌, ◌||◌, Bool, true, false, List, [], ◌∷◌, length, take, drop, Option, Ok, Err, Result, refl, sym, ap, subst, ◌∙◌, arith, append_assoc, zero-add, length-append, length-take, length-drop, inl, inr}
use Rattle.std.specs.Io.KnownBytes.{Consumes, Appends, prepend_known}
use Rattle.std.proofs.KnownBytes.{Consumes-trans, Consumes-nil, Appends-nil, Appends-trans, prepend_known-nil}
use Rattle.std.proofs.lemmas.List.{append-nil}
use Rattle.std.proofs.Math.Seq.{take-append_seam}
use Rattle.store_model.specs.Cause.{Rose}
use Rattle.vx_base.specs.declared.parts.Geometry.{Geometry}
use Rattle.disk_calls.specs.Disks.{Answered, Answers, Asked, IsTold, Known, Runs, Telling, Told}
use Rattle.disk_calls.proofs.CallRuns.{runs_then, runs_truly}
use Rattle.store_model.specs.declared.fault.SinkFault.{SinkFault}
use Rattle.nbd_front.specs.declared.export.Export.{Export}
use Rattle.nbd_front.specs.declared.desk.Desk.{Desk}
use Rattle.nbd_front.specs.declared.tally.Tally.{Tally}
use Rattle.nbd_front.specs.declared.intake.Intake.{Intake}
use Rattle.nbd_front.specs.declared.request.Request.{Request}
use Rattle.nbd_front.specs.declared.served.Served.{Served}
use Rattle.nbd_front.specs.declared.refusal.NbdRefusal.{NbdRefusal}
use Rattle.nbd_front.specs.declared.refusal.NbdRefusal.TheVariants as refusals
use Rattle.nbd_front.specs.Wire.{counted, data_len, greeting, most_calls, most_messages}
use Rattle.nbd_front.specs.Messages.{Phase, greeted, haggling, client_flags, flags_spelled, over, transmitting, cut_short, Message, begun, named, aborted, other_option, Spells, nothing, message, IsOption, IsRequest, write_begun, name_spelled, abort_spelled, other_spelled}
use Rattle.nbd_front.specs.Calls.{AreMade, calls_begun}
use Rattle.nbd_front.specs.Replies.{answer_to, is_answered_by}
use Rattle.nbd_front.specs.Sessions.{Exchange, World, IsServed, MakesCalls, all_answers, all_calls, earlier, least_sent, was_answered_by, IsSent, IsSpent, CountsFaults, EndsAs, of_write, other_name}
use Rattle.nbd_front.specs.Parts.{Stand, Session, Leads, IsEnded, IsSourceEnd, CountsSource, TakesFlags, TakesOption, left_for, phase_behind, stand, ahead, unread}
use Rattle.nbd_front.proofs.Taken.{counted_more}
use Rattle.nbd_front.proofs.Sent.{take_both}

or_assoc : (a b c : Bool) → ((a || b) || c) ≡ (a || (b || c))
or_assoc true b c = refl
or_assoc false b c = refl

or_false : (a : Bool) → (a || false) ≡ a
or_false true = refl
or_false false = refl

-- a text in front of what was sent
cut_behind : (a b c : Option (List ℕ)) (first next : List ℕ) (least more : ℕ) → Appends a b first → (n : ℕ) × (least ≤ n) × Appends b c (take n next) → more ≤ length first + least
    → (n : ℕ) × (more ≤ n) × Appends a c (take n (first ++ next))
cut_behind a b c first next least more whole part few = (
  length first + part.0,
  let enough = part.1 in omega arith,
  subst (Appends a c) (sym (take_both first next part.0)) (Appends-trans a b c first (take part.0 next) whole part.2),
)

pub sent_behind : (r : Result (Unit {0}) NbdRefusal) (a b c : Option (List ℕ)) (first next : List ℕ) (least more : ℕ) → Appends a b first → IsSent r b c next least → more ≤ length first + least
    → IsSent r a c (first ++ next) more
sent_behind (Ok done) a b c first next least more whole part few = Appends-trans a b c first next whole part
sent_behind (Err (refusals.Cut place)) a b c first next least more whole part few = Appends-trans a b c first next whole part
sent_behind (Err (refusals.Magic place)) a b c first next least more whole part few = Appends-trans a b c first next whole part
sent_behind (Err refusals.OtherName) a b c first next least more whole part few = Appends-trans a b c first next whole part
sent_behind (Err (refusals.TooLong place)) a b c first next least more whole part few = Appends-trans a b c first next whole part
sent_behind (Err refusals.OtherFlags) a b c first next least more whole part few = Appends-trans a b c first next whole part
sent_behind (Err (refusals.Source fault)) a b c first next least more whole part few = Appends-trans a b c first next whole part
sent_behind (Err (refusals.Sink fault)) a b c first next least more whole part few = cut_behind a b c first next least more whole part few
sent_behind (Err refusals.Spent) a b c first next least more whole part few = Appends-trans a b c first next whole part

-- nothing was sent
pub nothing_sent : (r : Result (Unit {0}) NbdRefusal) (a b : Option (List ℕ)) → b ≡ a → IsSent r a b [] 0
nothing_sent (Ok done) a b e = subst (λ k. Appends a k []) (sym e) (Appends-nil a)
nothing_sent (Err (refusals.Cut place)) a b e = subst (λ k. Appends a k []) (sym e) (Appends-nil a)
nothing_sent (Err (refusals.Magic place)) a b e = subst (λ k. Appends a k []) (sym e) (Appends-nil a)
nothing_sent (Err refusals.OtherName) a b e = subst (λ k. Appends a k []) (sym e) (Appends-nil a)
nothing_sent (Err (refusals.TooLong place)) a b e = subst (λ k. Appends a k []) (sym e) (Appends-nil a)
nothing_sent (Err refusals.OtherFlags) a b e = subst (λ k. Appends a k []) (sym e) (Appends-nil a)
nothing_sent (Err (refusals.Source fault)) a b e = subst (λ k. Appends a k []) (sym e) (Appends-nil a)
nothing_sent (Err (refusals.Sink fault)) a b e = (0, omega arith, subst (λ k. Appends a k []) (sym e) (Appends-nil a))
nothing_sent (Err refusals.Spent) a b e = subst (λ k. Appends a k []) (sym e) (Appends-nil a)

-- all answers but the last, with one in front
more_before : (e : Export) (x : Exchange) (xs : List Exchange) → length (all_answers e (earlier (x ∷ xs))) ≤ length (answer_to e x.message x.calls) + length (all_answers e (earlier xs))
more_before e x [] = omega arith
more_before e x (y ∷ xs) = omega (arith, length-append (answer_to e x.message x.calls) (all_answers e (earlier (y ∷ xs))))

-- and with the greeting in front
pub least_behind : (e : Export) (xs : List Exchange) → least_sent e xs ≤ length greeting + length (all_answers e (earlier xs))
least_behind e [] = omega arith
least_behind e (x ∷ xs) = omega arith

-- faults are counted from before
counts_from : {D : Type 0} (r : Result (Unit {0}) NbdRefusal) (a b c : World D) → b.source_faults ≡ a.source_faults → b.sink_faults ≡ a.sink_faults → CountsFaults r b c → CountsFaults r a c
counts_from (Ok done) a b c s k h = (h.0 ∙ s, h.1 ∙ k)
counts_from (Err (refusals.Cut place)) a b c s k h = (h.0 ∙ s, h.1 ∙ k)
counts_from (Err (refusals.Magic place)) a b c s k h = (h.0 ∙ s, h.1 ∙ k)
counts_from (Err refusals.OtherName) a b c s k h = (h.0 ∙ s, h.1 ∙ k)
counts_from (Err (refusals.TooLong place)) a b c s k h = (h.0 ∙ s, h.1 ∙ k)
counts_from (Err refusals.OtherFlags) a b c s k h = (h.0 ∙ s, h.1 ∙ k)
counts_from (Err (refusals.Source fault)) a b c s k h = (subst (λ n. Rose n c.source_faults) s h.0, h.1, h.2 ∙ k)
counts_from (Err (refusals.Sink fault)) a b c s k h = (h.0 ∙ s, subst (λ n. Rose n c.sink_faults) k h.1, h.2)
counts_from (Err refusals.Spent) a b c s k h = (h.0 ∙ s, h.1 ∙ k)

counts_to : {D : Type 0} (r : Result (Unit {0}) NbdRefusal) (a b c : World D) → c.source_faults ≡ b.source_faults → c.sink_faults ≡ b.sink_faults → CountsFaults r a b → CountsFaults r a c
counts_to (Ok done) a b c s k h = (s ∙ h.0, k ∙ h.1)
counts_to (Err (refusals.Cut place)) a b c s k h = (s ∙ h.0, k ∙ h.1)
counts_to (Err (refusals.Magic place)) a b c s k h = (s ∙ h.0, k ∙ h.1)
counts_to (Err refusals.OtherName) a b c s k h = (s ∙ h.0, k ∙ h.1)
counts_to (Err (refusals.TooLong place)) a b c s k h = (s ∙ h.0, k ∙ h.1)
counts_to (Err refusals.OtherFlags) a b c s k h = (s ∙ h.0, k ∙ h.1)
counts_to (Err (refusals.Source fault)) a b c s k h = (subst (λ n. Rose a.source_faults n) (sym s) h.0, h.1 ∙ sym s, k ∙ h.2)
counts_to (Err (refusals.Sink fault)) a b c s k h = (s ∙ h.0, subst (λ n. Rose a.sink_faults n) (sym k) h.1, h.2 ∙ sym k)
counts_to (Err refusals.Spent) a b c s k h = (s ∙ h.0, k ∙ h.1)

-- the count of messages goes on, by one at most
spent_behind : (r : Result (Unit {0}) NbdRefusal) (n m more : ℕ) → m ≤ n + 1 → IsSpent r (m + more) → IsSpent r (n + suc more)
spent_behind (Ok done) n m more one h = tt
spent_behind (Err (refusals.Cut place)) n m more one h = tt
spent_behind (Err (refusals.Magic place)) n m more one h = tt
spent_behind (Err refusals.OtherName) n m more one h = tt
spent_behind (Err (refusals.TooLong place)) n m more one h = tt
spent_behind (Err refusals.OtherFlags) n m more one h = tt
spent_behind (Err (refusals.Source fault)) n m more one h = tt
spent_behind (Err (refusals.Sink fault)) n m more one h = tt
spent_behind (Err refusals.Spent) n m more one h = omega arith

pub no_more : (n : ℕ) → n ≤ n + 1
no_more n = omega arith

pub one_more : (n m : ℕ) → m ≡ n + 1 → m ≤ n + 1
one_more n m e = omega arith

-- a source's end or fault isn't that as many messages came as are served
pub spent_of_source : (T : Type 0) (r : NbdRefusal) (before now messages : ℕ) → CountsSource {T = T} (Err r) before now → IsSpent (Err r) messages
spent_of_source T (refusals.Cut place) before now messages h = tt
spent_of_source T (refusals.Magic place) before now messages h = tt
spent_of_source T refusals.OtherName before now messages h = tt
spent_of_source T (refusals.TooLong place) before now messages h = tt
spent_of_source T refusals.OtherFlags before now messages h = tt
spent_of_source T (refusals.Source fault) before now messages h = tt
spent_of_source T (refusals.Sink fault) before now messages h = absurd h
spent_of_source T refusals.Spent before now messages h = absurd h

-- one message more, with few calls
few_behind : (calls more : List Answered) (left all : ℕ) → length calls ≤ most_calls → suc left ≤ all → length more ≤ most_calls * left → length (calls ++ more) ≤ most_calls * all
few_behind calls more left all some goes few = omega (arith, length-append calls more)

-- ---- a message that was answered

module _ {D : Type 0} {tells : Telling D} (e : Export) (p q : Phase) (a b : Stand D) (m : Message) (bytes : List ℕ) (calls : List Answered)
    (spells : Spells e p bytes m q) (taken : Consumes a.world.left b.world.left bytes) (at : b.at ≡ counted a.at (length bytes))
    (makes : MakesCalls e m calls) (runs : Runs tells a.world.disk calls b.world.disk) (messages : b.messages ≤ a.messages + 1)
    (some : length calls ≤ most_calls)
    (fault : b.fault ≡ (a.fault || is_answered_by 5 e m calls)) (no_room : b.no_room ≡ (a.no_room || is_answered_by 12 e m calls))
    (source : b.world.source_faults ≡ a.world.source_faults) where
  -- and its answer was sent
  pub leads_on : suc (left_for q b.messages) ≤ left_for p a.messages → Appends a.world.written b.world.written (answer_to e m calls) → b.world.sink_faults ≡ a.world.sink_faults → Leads tells e p a q b
  leads_on goes sent sink c result s = record {
    exchanges = record { message = m; calls = calls } ∷ s.exchanges;
    bytes = bytes ++ s.bytes;
    last = s.last;
    tail = s.tail;
    reads = message spells s.reads;
    taken = subst (Consumes a.world.left c.world.left) (sym (append_assoc bytes s.bytes s.tail)) (Consumes-trans a.world.left b.world.left c.world.left bytes (s.bytes ++ s.tail) taken s.taken);
    makes = (makes, s.makes);
    runs = runs_then tells calls (all_calls s.exchanges) a.world.disk b.world.disk c.world.disk runs s.runs;
    sent = sent_behind result a.world.written b.world.written c.world.written (answer_to e m calls) (all_answers e s.exchanges) (length (all_answers e (earlier s.exchanges))) _ sent s.sent
        (more_before e (record { message = m; calls = calls }) s.exchanges);
    fault = s.fault ∙ ap (λ t. t || was_answered_by 5 e s.exchanges) fault ∙ or_assoc a.fault (is_answered_by 5 e m calls) (was_answered_by 5 e s.exchanges);
    no_room = s.no_room ∙ ap (λ t. t || was_answered_by 12 e s.exchanges) no_room ∙ or_assoc a.no_room (is_answered_by 12 e m calls) (was_answered_by 12 e s.exchanges);
    counts = counts_from result a.world b.world c.world source sink s.counts;
    ends = subst (λ k. EndsAs e s.last k s.tail c.world.left result)
        (ap (λ k. counted k (length s.bytes)) at ∙ counted_more a.at (length bytes) (length s.bytes) ∙ ap (counted a.at) (sym (length-append bytes s.bytes))) s.ends;
    spent = spent_behind result a.messages b.messages (length s.exchanges) messages s.spent;
    few = few_behind calls (all_calls s.exchanges) (left_for q b.messages) (left_for p a.messages) some goes s.few;
  }

  -- and its answer was cut by a fault of the sink
  pub cut_in_answer : 0 < left_for p a.messages → (f : SinkFault) → (n : ℕ) × Appends a.world.written b.world.written (take n (answer_to e m calls)) → Rose a.world.sink_faults b.world.sink_faults
      → f.count ≡ b.world.sink_faults → Session tells e p a b (Err (refusals.Sink f))
  cut_in_answer more f sent rose told = record {
    exchanges = record { message = m; calls = calls } ∷ [];
    bytes = bytes ++ [];
    last = q;
    tail = [];
    reads = message spells nothing;
    taken = subst (Consumes a.world.left b.world.left) (sym (append-nil (bytes ++ []) ∙ append-nil bytes)) taken;
    makes = (makes, tt);
    runs = subst (λ l. Runs tells a.world.disk l b.world.disk) (sym (append-nil calls)) runs;
    sent = (sent.0, omega arith, subst (λ t. Appends a.world.written b.world.written (take sent.0 t)) (sym (append-nil (answer_to e m calls))) sent.1);
    fault = fault ∙ ap (λ t. a.fault || t) (sym (or_false (is_answered_by 5 e m calls)));
    no_room = no_room ∙ ap (λ t. a.no_room || t) (sym (or_false (is_answered_by 12 e m calls)));
    counts = (source, rose, told);
    ends = refl;
    spent = tt;
    few = few_behind calls [] 0 (left_for p a.messages) some more (omega arith);
  }

-- ---- the end

pub is_over : {D : Type 0} {tells : Telling D} (e : Export) (a : Stand D) → Session tells e over a a (Ok tt)
is_over e a = record {
  exchanges = [];
  bytes = [];
  last = over;
  tail = [];
  reads = nothing;
  taken = Consumes-nil a.world.left;
  makes = tt;
  runs = refl;
  sent = Appends-nil a.world.written;
  fault = sym (or_false a.fault);
  no_room = sym (or_false a.no_room);
  counts = (refl, refl);
  ends = (refl, refl);
  spent = tt;
  few = omega arith;
}

-- between two messages
pub is_ended : {D : Type 0} {tells : Telling D} (e : Export) (p : Phase) (a b : Stand D) (refusal : NbdRefusal) → a.at < 2 ^ 64 → IsEnded e p a.at a.world.left b.world.left refusal
    → b.world.disk ≡ a.world.disk → b.world.written ≡ a.world.written → b.fault ≡ a.fault → b.no_room ≡ a.no_room → CountsFaults (Err refusal) a.world b.world
    → IsSpent (Err refusal) (a.messages + 0)
    → Session tells e p a b (Err refusal)
is_ended e p a b refusal fits ended disk written fault no_room counts spent = record {
  exchanges = [];
  bytes = [];
  last = p;
  tail = ended.tail;
  reads = nothing;
  taken = ended.taken;
  makes = tt;
  runs = disk;
  sent = nothing_sent (Err refusal) a.world.written b.world.written written;
  fault = fault ∙ sym (or_false a.fault);
  no_room = no_room ∙ sym (or_false a.no_room);
  counts = counts;
  ends = subst (λ k. EndsAs e p k ended.tail b.world.left (Err refusal)) (same_count a.at fits) ended.ends;
  spent = spent;
  few = omega arith;
}
  where
    same_count : (n : ℕ) → n < 2 ^ 64 → n ≡ counted n 0
    same_count n h = omega arith

-- within the data of a write
ended_in_write : (e : Export) (at place : ℕ) (left : Option (List ℕ)) (refusal : NbdRefusal) → place ≡ at → at < 2 ^ 64 → IsSourceEnd place left refusal
    → EndsAs e cut_short at [] left (Err refusal)
ended_in_write e at place left (refusals.Cut n) same fits why = (why.0 ∙ same ∙ none at fits, why.1, of_write)
  where
    none : (n : ℕ) → n < 2 ^ 64 → n ≡ counted n 0
    none n h = omega arith
ended_in_write e at place left (refusals.Magic n) same fits why = absurd why
ended_in_write e at place left refusals.OtherName same fits why = absurd why
ended_in_write e at place left (refusals.TooLong n) same fits why = absurd why
ended_in_write e at place left refusals.OtherFlags same fits why = absurd why
ended_in_write e at place left (refusals.Source fault) same fits why = of_write
ended_in_write e at place left (refusals.Sink fault) same fits why = absurd why
ended_in_write e at place left refusals.Spent same fits why = absurd why

pub is_cut_in_write : {D : Type 0} {tells : Telling D} (e : Export) (a b : Stand D) (r : Request) (magic head text : List ℕ) (calls : List Answered) (refusal : NbdRefusal)
    → IsRequest r magic head → length text < data_len r → Consumes a.world.left b.world.left (magic ++ head ++ text)
    → AreMade (calls_begun e.geometry r text) calls → Runs tells a.world.disk calls b.world.disk
    → IsSourceEnd (counted a.at (length (magic ++ head ++ text))) b.world.left refusal
    → b.world.written ≡ a.world.written → b.fault ≡ a.fault → b.no_room ≡ a.no_room → CountsFaults (Err refusal) a.world b.world
    → IsSpent (Err refusal) (a.messages + 1) → length calls ≤ most_calls → a.messages < 2 ^ 48 → Session tells e transmitting a b (Err refusal)
is_cut_in_write {tells = tells} e a b r magic head text calls refusal is few taken made runs why written fault no_room counts spent some more = record {
  exchanges = record { message = begun r text; calls = calls } ∷ [];
  bytes = (magic ++ head ++ text) ++ [];
  last = cut_short;
  tail = [];
  reads = message (write_begun is few) nothing;
  taken = subst (Consumes a.world.left b.world.left) (sym (append-nil ((magic ++ head ++ text) ++ []) ∙ append-nil (magic ++ head ++ text))) taken;
  makes = (made, tt);
  runs = subst (λ l. Runs tells a.world.disk l b.world.disk) (sym (append-nil calls)) runs;
  sent = nothing_sent (Err refusal) a.world.written b.world.written written;
  fault = fault ∙ sym (or_false a.fault);
  no_room = no_room ∙ sym (or_false a.no_room);
  counts = counts;
  ends = ended_in_write e _ _ b.world.left refusal (ap (λ (l : List ℕ). counted a.at (length l)) (sym (append-nil (magic ++ head ++ text)))) (fits a.at _) why;
  spent = spent;
  few = few_behind calls [] 0 (left_for transmitting a.messages) some (omega (arith, more)) (omega arith);
}
  where
    fits : (at n : ℕ) → counted at n < 2 ^ 64
    fits at n = omega arith

-- ---- the parts of a step

pub counts_of_source : {D : Type 0} (r : NbdRefusal) (a b : World D) → CountsSource {T = Unit {0}} (Err r) a.source_faults b.source_faults → b.sink_faults ≡ a.sink_faults → CountsFaults (Err r) a b
counts_of_source (refusals.Cut place) a b h k = (h, k)
counts_of_source (refusals.Magic place) a b h k = (h, k)
counts_of_source refusals.OtherName a b h k = (h, k)
counts_of_source (refusals.TooLong place) a b h k = (h, k)
counts_of_source refusals.OtherFlags a b h k = (h, k)
counts_of_source (refusals.Source fault) a b h k = (h.0, h.1, k)
counts_of_source (refusals.Sink fault) a b h k = absurd h
counts_of_source refusals.Spent a b h k = absurd h

-- whatever the call would have answered
pub counts_any : (T U : Type 0) (r : NbdRefusal) (before now : ℕ) → CountsSource {T = T} (Err r) before now → CountsSource {T = U} (Err r) before now
counts_any T U (refusals.Cut place) before now h = h
counts_any T U (refusals.Magic place) before now h = h
counts_any T U refusals.OtherName before now h = h
counts_any T U (refusals.TooLong place) before now h = h
counts_any T U refusals.OtherFlags before now h = h
counts_any T U (refusals.Source fault) before now h = h
counts_any T U (refusals.Sink fault) before now h = h
counts_any T U refusals.Spent before now h = h

pub counts_on : (T U : Type 0) (r : NbdRefusal) (before mid now : ℕ) → mid ≡ before → CountsSource {T = T} (Err r) mid now → CountsSource {T = U} (Err r) before now
counts_on T U r before mid now e h = counts_any T U r before now (subst (λ k. CountsSource {T = T} (Err r) k now) e h)

pub source_end_on : (at mid n m : ℕ) (left : Option (List ℕ)) (refusal : NbdRefusal) (all : ℕ) → mid ≡ counted at m → all ≡ m + n → IsSourceEnd (counted mid n) left refusal → IsSourceEnd (counted at all) left refusal
source_end_on at mid n m left refusal all e sum why =
    subst (λ k. IsSourceEnd k left refusal) (ap (λ k. counted k n) e ∙ counted_more at m n ∙ ap (counted at) (sym sum)) why

pub or_none : (a : Bool) → a ≡ (a || false)
or_none a = sym (or_false a)

-- a vector whose slice was lent and put back
pub vec_back : (n : ℕ) (page items : List ℕ) → n ≡ length items → length page ≡ length items → take n (page ++ drop (length page) items) ≡ page
vec_back n page items e f = ap (λ k. take k (page ++ drop (length page) items)) (e ∙ sym f) ∙ take-append_seam page (drop (length page) items)

-- ---- options

module _ (e : Export) (flags at at' : ℕ) (left left' : Option (List ℕ)) (name : List ℕ) (number : ℕ) (is_named : Bool) (t : TakesOption at at' left left' name number is_named) where
  pub spells_named : number ≡ 1 → is_named ≡ true → name ≡ e.name → Spells e (haggling flags) (t.magic ++ t.head ++ t.text) (named flags) transmitting
  spells_named n b same = name_spelled (subst (λ k. IsOption k t.magic t.head t.text) n t.is) (elim (t.named b) [ inl none ↦ inl none | inr given ↦ inr (given ∙ same) ])

  pub spells_abort : number ≡ 2 → Spells e (haggling flags) (t.magic ++ t.head ++ t.text) aborted over
  spells_abort n = abort_spelled (subst (λ k. IsOption k t.magic t.head t.text) n t.is)

  pub spells_other : number ≢ 1 → number ≢ 2 → Spells e (haggling flags) (t.magic ++ t.head ++ t.text) (other_option number) (haggling flags)
  spells_other a b = other_spelled t.is a b

  pub ends_otherwise : number ≡ 1 → is_named ≡ false → name ≡ e.name → IsEnded e (haggling flags) at left left' refusals.OtherName
  ends_otherwise n b same = record {
    tail = t.magic ++ t.head ++ t.text;
    taken = t.taken;
    ends = other_name (subst (λ k. IsOption k t.magic t.head t.text) n t.is) (t.named_some b) (λ f. t.named_other b (f ∙ sym same));
  }

-- as many messages came as are served
pub is_given_up : {D : Type 0} {tells : Telling D} (e : Export) (p : Phase) (a : Stand D) → a.at < 2 ^ 64 → most_messages ≤ a.messages → Session tells e p a a (Err refusals.Spent)
is_given_up e p a fits spent = is_ended e p a a refusals.Spent fits (record { tail = []; taken = Consumes-nil a.world.left; ends = refl }) refl refl refl refl (refl, refl) (omega arith)

-- the last message was read
pub leads_over : {D : Type 0} {tells : Telling D} (e : Export) (p : Phase) (a b : Stand D) (on : Bool) → on ≡ false → Leads tells e p a (phase_behind on) b → Session tells e p a b (Ok tt)
leads_over {tells = tells} e p a b on last leads = subst (λ o. Leads tells e p a (phase_behind o) b) last leads b (Ok tt) (is_over e b)

pub leads_further : {D : Type 0} {tells : Telling D} (e : Export) (p : Phase) (a b c : Stand D) (on : Bool) (r : Result (Unit {0}) NbdRefusal) → on ≡ true → Leads tells e p a (phase_behind on) b → Session tells e transmitting b c r → Session tells e p a c r
leads_further {tells = tells} e p a b c on r more leads s = subst (λ o. Leads tells e p a (phase_behind o) b) more leads c r s

-- the client's flags
pub leads_flags : {D : Type 0} {tells : Telling D} (e : Export) (a b : Stand D) (flags : ℕ) → TakesFlags a.at b.at a.world.left b.world.left flags → b.world.disk ≡ a.world.disk → b.messages ≡ a.messages → b.world.written ≡ a.world.written
    → b.fault ≡ a.fault → b.no_room ≡ a.no_room → b.world.source_faults ≡ a.world.source_faults → b.world.sink_faults ≡ a.world.sink_faults → Leads tells e greeted a (haggling flags) b
leads_flags e a b flags t disk messages written fault no_room source sink =
    leads_on e greeted (haggling flags) a b (client_flags flags) t.bytes [] spelled t.taken t.count refl disk (subst (λ n. n ≤ a.messages + 1) (sym messages) (no_more a.messages)) (omega arith) (fault ∙ or_none a.fault) (no_room ∙ or_none a.no_room) source (omega (arith, messages))
    (subst (λ k. Appends a.world.written k []) (sym written) (Appends-nil a.world.written)) sink
  where
    spelled : Spells e greeted t.bytes (client_flags flags) (haggling flags)
    spelled = subst (λ k. Spells e greeted t.bytes (client_flags k) (haggling k)) (sym t.is) (flags_spelled t.len (subst (λ k. k ≤ 3) t.is t.few))

-- ---- the whole session

-- the greeting was cut
pub greeting_cut : {D : Type 0} (tells : Telling D) (known : D → Option Known) (e : Export) (a b : World D) (f : SinkFault) → b.left ≡ a.left → b.disk ≡ a.disk → b.source_faults ≡ a.source_faults
    → (n : ℕ) × Appends a.written b.written (take n greeting) → Rose a.sink_faults b.sink_faults → f.count ≡ b.sink_faults
    → IsServed tells known e a b (record { end = Err (refusals.Sink f); fault = false; no_room = false })
greeting_cut tells known e a b f left disk source sent rose told = record {
  exchanges = [];
  bytes = [];
  last = greeted;
  tail = [];
  ahead = [];
  reads = nothing;
  taken = subst (λ k. Consumes a.left k []) (sym (prepend_known-nil b.left ∙ left)) (Consumes-nil a.left);
  near = omega arith;
  makes = tt;
  runs = disk;
  history = ap known disk;
  sent = (sent.0, omega arith, subst (λ t. Appends a.written b.written (take sent.0 t)) (sym (append-nil greeting)) sent.1);
  fault = refl;
  no_room = refl;
  counts = (source, rose, told);
  ends = refl;
  spent = tt;
  few = omega arith;
}

none_ahead : (i : Intake) (left : Option (List ℕ)) → i.end ≡ i.start → unread i left ≡ left
none_ahead i left e =
    let none : i.end - i.start ≡ 0 = omega arith in
    ap (λ k. prepend_known (take k (drop i.start i.room.items)) left) none ∙ prepend_known-nil left

-- no more is read ahead than there is room for
few_ahead : (from to : ℕ) (room : List ℕ) → length room ≡ 65536 → length (take (to - from) (drop from room)) ≤ 65536
few_ahead from to room e = omega (arith, length-take (to - from) (drop from room), length-drop from room)

pub served_whole : {D : Type 0} (tells : Telling D) (size : D → Geometry) (known : D → Option Known)
    → ((old new : D) (asked : Asked) (said : Told) → tells old asked said new → IsTold (size old) (size new) (known old) asked said (known new))
    → (e : Export) (d d' : Desk) (a b : World D) (out : Option (List ℕ)) (sunk : ℕ) (result : Result (Unit {0}) NbdRefusal)
    → size a.disk ≡ e.geometry → length d'.intake.room.items ≡ 65536 → d.intake.end ≡ d.intake.start → d.intake.at ≡ 0
    → d.tally ≡ record { messages = 0; fault = false; no_room = false } → Appends a.written out greeting → sunk ≡ a.sink_faults
    → Session tells e greeted (stand d a.left a.source_faults out sunk a.disk) (stand d' b.left b.source_faults b.written b.sink_faults b.disk) result
    → IsServed tells known e a b (record { end = result; fault = d'.tally.fault; no_room = d'.tally.no_room })
served_whole tells size known lawful e d d' a b out sunk result sized room empty at tally greeted_first quiet s = record {
  exchanges = s.exchanges;
  bytes = s.bytes;
  last = s.last;
  tail = s.tail;
  ahead = ahead d'.intake;
  reads = s.reads;
  taken = subst (λ k. Consumes k (unread d'.intake b.left) (s.bytes ++ s.tail)) (none_ahead d.intake a.left empty) s.taken;
  near = few_ahead d'.intake.start d'.intake.end d'.intake.room.items room;
  makes = s.makes;
  runs = s.runs;
  history = subst (λ (g : Geometry). Runs (Answers g.sector) (known a.disk) (all_calls s.exchanges) (known b.disk)) sized (runs_truly tells size known lawful (all_calls s.exchanges) a.disk b.disk s.runs);
  sent = sent_behind result a.written out b.written greeting (all_answers e s.exchanges) (length (all_answers e (earlier s.exchanges))) _ greeted_first s.sent (least_behind e s.exchanges);
  fault = s.fault ∙ ap (λ (t : Tally). t.fault || was_answered_by 5 e s.exchanges) tally;
  no_room = s.no_room ∙ ap (λ (t : Tally). t.no_room || was_answered_by 12 e s.exchanges) tally;
  counts = counts_from result a (record { left = unread d.intake a.left; source_faults = a.source_faults; written = out; sink_faults = sunk; disk = a.disk }) b refl quiet
      (counts_to result (record { left = unread d.intake a.left; source_faults = a.source_faults; written = out; sink_faults = sunk; disk = a.disk }) _ b refl refl s.counts);
  ends = subst (λ k. EndsAs e s.last (counted k (length s.bytes)) s.tail (unread d'.intake b.left) result) at s.ends;
  spent = subst (IsSpent result) (ap (λ (t : Tally). t.messages + length s.exchanges) tally ∙ zero-add (length s.exchanges)) s.spent;
  few = subst (λ (t : Tally). length (all_calls s.exchanges) ≤ most_calls * left_for greeted t.messages) tally s.few;
}

pub served_of : {D : Type 0} {tells : Telling D} {known : D → Option Known} {e f : Export} {a b : World D} {s : Served} → e ≡ f → IsServed tells known e a b s → IsServed tells known f a b s
served_of {tells = tells} {known = known} {a = a} {b = b} {s = s} same h = subst (λ k. IsServed tells known k a b s) same h
