-- A reply tells the client of a fault only where one was met: by a reader, or by the session's store.
use Rattle.std.proofs.Common.{◌≡◌, ◌==◌, ◌+◌, ◌++◌, ◌∷◌, ℕ, Bool, true, false, List, [], length, Option, Some, None, Result, Ok, Err, arith, refl, subst, ◌∙◌}
use Rattle.std.specs.Prelude.{◌*◌, ◌/◌, ◌||◌, ◌&&◌, ⊤, IfErr, IfSome, nat_lt, if◌then◌else◌}
use Rattle.std.specs.List.{AllByRecursion, flat_map}
use Rattle.store_model.specs.declared.fault.StoreFault.{StoreFault}
use Rattle.vx_base.specs.declared.parts.Geometry.{Geometry}
use Rattle.guest_model.specs.History.{History}
use Rattle.guest_model.specs.Ranges.{range_refusal}
use Rattle.guest_model.specs.declared.call.Call.{Call}
use Rattle.guest_model.specs.declared.call.Call.TheVariants.{Flush, Read, Trim, Write}
use Rattle.guest_model.specs.declared.refusal.ChainRefusal.{ChainRefusal}
use Rattle.guest_model.specs.declared.refusal.ChainRefusal.TheVariants.{EmptyRange, OutOfRange, ReadOnly, TooLong}
use Rattle.chain_core.specs.Refusing.{barred, is_read, out_of, range_of}
use Rattle.script_session.specs.Histories.{Drive}
use Rattle.disk_calls.specs.Disks.{Answered, Asked, Runs, Told}
use Rattle.serve_session.specs.Served.{AreOutcomes, IsRefused, Outcome, all_told, all_unread, has_no_room, is_broken, is_full, is_misplaced, is_unread, misplaced, told_of, unread_in}
use Rattle.serve_command.specs.Guests.{TellsNoFault}
use Rattle.nbd_front.specs.Calls.{first_refusal, is_uneven, is_unknown, judged, refusal_or}
use Rattle.nbd_front.specs.Messages.{Message, aborted, asked, begun, client_flags, disconnected, named, other_option}
use Rattle.nbd_front.specs.Replies.{error_among, error_in, error_of, is_answered_by}
use Rattle.nbd_front.specs.Sessions.{Exchange, World as Streams, all_calls, was_answered_by}
use Rattle.nbd_front.specs.Wire.{flush_kind, most_bytes, read_kind, write_kind}
use Rattle.nbd_front.specs.declared.export.Export.{Export}
use Rattle.nbd_front.specs.declared.request.Request.{Request}
use Rattle.nbd_front.specs.declared.served.Served.{Served}
use Rattle.nbd_session.specs.Connected.{IsConnected}
use Rattle.nbd_session.specs.Made.{ComesTo, Heard, heard, is_done, is_flushed, is_lost, is_refused, is_unflushed, is_unwritten, tells_heard}

-- ---- what refuses a call

-- its error isn't that of a fault
abbrev IsNoFault : ChainRefusal → Type 0
IsNoFault refusal = (error_of refusal == 5) ≡ false

range_by : (first count limit sectors : ℕ) (a b c : Bool) → (let range : Result (Unit {0}) ChainRefusal = if a then Err EmptyRange else if b then Err (TooLong count limit) else if c then Err (OutOfRange first count sectors) else Ok tt in IfErr range IsNoFault)
range_by first count limit sectors true b c = refl
range_by first count limit sectors false true c = refl
range_by first count limit sectors false false true = refl
range_by first count limit sectors false false false = tt

range_sound : (first count limit sectors : ℕ) → IfErr (range_refusal first count limit sectors) IsNoFault
range_sound first count limit sectors = range_by first count limit sectors (count == 0) (nat_lt limit count) (nat_lt sectors (first + count))

called_sound : (g : Geometry) (call : Call) → IfErr (range_of g call) IsNoFault
called_sound g (Read first count) = range_sound first count 2048 g.sectors
called_sound g (Write first bytes) = range_sound first (length bytes / g.sector) 2048 g.sectors
called_sound g (Trim first count) = range_sound first count 524288 g.sectors
called_sound g Flush = tt

barred_sound : (call : Call) (session : Bool) → IfSome (barred call session) IsNoFault
barred_sound call session = by_test (is_read call || session)
  where
    by_test : (b : Bool) → IfSome (if b then None else Some ReadOnly) IsNoFault
    by_test true = tt
    by_test false = refl

out_sound : (range : Result (Unit {0}) ChainRefusal) (later : Option ChainRefusal) → IfErr range IsNoFault → IfSome later IsNoFault → IfSome (out_of range later) IsNoFault
out_sound (Ok done) later a b = b
out_sound (Err e) later a b = a

misplaced_sound : (drive : Drive) (call : Call) (e : ChainRefusal) → misplaced drive call ≡ Some e → IsNoFault e
misplaced_sound drive call e is =
    subst (λ m. IfSome m IsNoFault) is (out_sound (range_of drive.geometry call) (barred call drive.can_change) (called_sound drive.geometry call) (barred_sound call drive.can_change))

refused_sound : (drive : Drive) (broken : Option StoreFault) (wants : Bool) (call : Call) (e : ChainRefusal) → IsRefused drive broken wants call e → TellsNoFault (Err e) → IsNoFault e
refused_sound drive broken wants call _ (is_misplaced e is) well = misplaced_sound drive call e is
refused_sound drive broken wants call _ (is_broken fault is) well = absurd well
refused_sound drive broken wants call _ (is_unread file count placed) well = absurd well
refused_sound drive broken wants call _ (is_full next placed stops) well = refl
refused_sound drive broken wants call _ (has_no_room is) well = refl

-- ---- what a guest was told

-- it is no fault's
abbrev IsSound : Outcome → Type 0
IsSound (Ok (place, Ok reply)) = ⊤
IsSound (Ok (place, Err fault)) = ⊥
IsSound (Err refusal) = IsNoFault refusal

sound_outcomes : (drive : Drive) (h : History) (broken : Option StoreFault) (number : ℕ) (calls : List Call) (outcomes : List Outcome) → AreOutcomes drive h broken true 1 number calls outcomes
    → AllByRecursion TellsNoFault (flat_map told_of outcomes ++ []) → length (unread_in outcomes ++ []) ≡ 0 → AllByRecursion IsSound outcomes
sound_outcomes drive h broken number calls [] are well none = tt
sound_outcomes drive h broken number [] (o ∷ outcomes) are well none = absurd are
sound_outcomes drive h broken number (call ∷ calls) (Ok (place, Ok reply) ∷ outcomes) are well none = (tt, sound_outcomes drive h broken (number + 1) calls outcomes are.1 well.1 none)
sound_outcomes drive h broken number (call ∷ calls) (Ok (place, Err fault) ∷ outcomes) are well none = absurd (omega (arith, none))
sound_outcomes drive h broken number (call ∷ calls) (Err e ∷ outcomes) are well none =
    (refused_sound drive broken true call e are.0 well.0, sound_outcomes drive h broken (number + 1) calls outcomes are.1 well.1 none)

-- ---- what its disk was told

abbrev IsSoundTold : Told → Type 0
IsSoundTold (Ok done) = ⊤
IsSoundTold (Err refusal) = IsNoFault refusal

all_left : {A : Type 0} (P : A → Type 0) (a b : List A) → AllByRecursion P (a ++ b) → AllByRecursion P a
all_left P [] b all = tt
all_left P (x ∷ a) b all = (all.0, all_left P a b all.1)

all_right : {A : Type 0} (P : A → Type 0) (a b : List A) → AllByRecursion P (a ++ b) → AllByRecursion P b
all_right P [] b all = all
all_right P (x ∷ a) b all = all_right P a b all.1

told_sound : (question : Asked) (said : Told) (calls : List Call) (outcomes : List Outcome) → ComesTo question said calls outcomes → AllByRecursion IsSound outcomes → IsSoundTold said
told_sound _ _ _ _ is_done all = tt
told_sound _ _ _ _ is_refused all = all.0
told_sound _ _ _ _ is_lost all = absurd all.0
told_sound _ _ _ _ is_flushed all = tt
told_sound _ _ _ _ is_unwritten all = all.0
told_sound _ _ _ _ is_unflushed all = all.1.0

-- of all its calls, from how it was to how it is
record AreSound (answered : List Answered) (old : Heard) : Type 0 where
  said : AllByRecursion (λ c. IsSoundTold c.said) answered
  before : AllByRecursion IsSound old.outcomes

sound_calls : (answered : List Answered) (old new : Heard) → Runs tells_heard old answered new → AllByRecursion IsSound new.outcomes → AreSound answered old
sound_calls [] old new same all = record { said = tt; before = subst (λ (h : Heard). AllByRecursion IsSound h.outcomes) same all }
sound_calls (c ∷ answered) old new (mid, tells, runs) all =
    let later = sound_calls answered mid new runs all in
    let both : AllByRecursion IsSound (old.outcomes ++ tells.outcomes) = subst (λ (h : Heard). AllByRecursion IsSound h.outcomes) tells.is later.before in
    record {
      said = (told_sound c.asked c.said tells.calls tells.outcomes tells.comes (all_right IsSound old.outcomes tells.outcomes both), later.said);
      before = all_left IsSound old.outcomes tells.outcomes both;
    }

-- ---- what the client is replied

no_fault_first : (said : Told) (later : Option ChainRefusal) → IsSoundTold said → (error_among later == 5) ≡ false → (error_among (refusal_or said later) == 5) ≡ false
no_fault_first (Ok done) later sound none = none
no_fault_first (Err e) later sound none = sound

no_fault_among : (answered : List Answered) → AllByRecursion (λ c. IsSoundTold c.said) answered → (error_among (first_refusal answered) == 5) ≡ false
no_fault_among [] all = refl
no_fault_among (c ∷ answered) all = no_fault_first c.said (first_refusal answered) all.0 (no_fault_among answered all.1)

no_fault_judged : (size : Geometry) (r : Request) → (judged size r == 5) ≡ false
unfolding judged
no_fault_judged size r =
    by_tests (is_unknown r) (r.kind == flush_kind) ((r.kind == read_kind) && nat_lt most_bytes r.len) (is_uneven size.sector r) (nat_lt (size.sectors * size.sector) (r.offset + r.len)) (r.kind == write_kind)
  where
    by_tests : (a b c d e f : Bool) → ((if a then 22 else if b then 0 else if c then 22 else if d then 22 else if e then (if f then 28 else 22) else 0) == 5) ≡ false
    by_tests true b c d e f = refl
    by_tests false true c d e f = refl
    by_tests false false true d e f = refl
    by_tests false false false true e f = refl
    by_tests false false false false true true = refl
    by_tests false false false false true false = refl
    by_tests false false false false false f = refl

no_fault_in : (size : Geometry) (r : Request) (answered : List Answered) → AllByRecursion (λ c. IsSoundTold c.said) answered → (error_in size r answered == 5) ≡ false
unfolding error_in
no_fault_in size r answered all = by_test (judged size r == 0)
  where
    by_test : (b : Bool) → ((if b then error_among (first_refusal answered) else judged size r) == 5) ≡ false
    by_test true = no_fault_among answered all
    by_test false = no_fault_judged size r

no_fault_for : (e : Export) (message : Message) (answered : List Answered) → AllByRecursion (λ c. IsSoundTold c.said) answered → is_answered_by 5 e message answered ≡ false
no_fault_for e (client_flags flags) answered all = refl
no_fault_for e (other_option number) answered all = refl
no_fault_for e (named flags) answered all = refl
no_fault_for e aborted answered all = refl
no_fault_for e (asked r bytes) answered all = no_fault_in e.geometry r answered all
no_fault_for e (begun r bytes) answered all = refl
no_fault_for e disconnected answered all = refl

neither : (a b : Bool) → a ≡ false → b ≡ false → (a || b) ≡ false
neither false b first later = later
neither true b first later = first

none_replied : (e : Export) (exchanges : List Exchange) → AllByRecursion (λ c. IsSoundTold c.said) (all_calls exchanges) → was_answered_by 5 e exchanges ≡ false
none_replied e [] all = refl
none_replied e (x ∷ exchanges) all =
    neither (is_answered_by 5 e x.message x.calls) (was_answered_by 5 e exchanges)
    (no_fault_for e x.message x.calls (all_left (λ c. IsSoundTold c.said) x.calls (all_calls exchanges) all)) (none_replied e exchanges (all_right (λ c. IsSoundTold c.said) x.calls (all_calls exchanges) all))

-- of a client whose guest was told no fault of a file, and whose reads didn't fail by a reader
pub no_fault_replied : (drive : Drive) (h : History) (broken : Option StoreFault) (e : Export) (x y : Streams ⊤) (served : Served) (calls : List Call) (outcomes : List Outcome) → AreOutcomes drive h broken true 1 1 calls outcomes
    → AllByRecursion TellsNoFault (all_told (outcomes ∷ [])) → length (all_unread (outcomes ∷ [])) ≡ 0 → IsConnected e x y (Some served) calls outcomes → served.fault ≡ false
no_fault_replied drive h broken e x y served calls outcomes are well none connected =
    connected.fault ∙ none_replied e connected.exchanges (sound_calls (all_calls connected.exchanges) (heard [] []) (heard calls outcomes) connected.runs (sound_outcomes drive h broken 1 calls outcomes are well none)).said
