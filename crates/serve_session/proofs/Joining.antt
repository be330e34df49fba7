-- Guests' seats are split from the first, and joined into it again.
use Rattle.std.proofs.Common.{◌≡◌, ◌≤◌, ◌^◌, ◌≢◌, ◌⊎◌, ◌+◌, ◌-◌, ◌<◌, ◌++◌, ◌∷◌, ℕ, zero, suc, Bool, true, false, [], List, length, map, inl, inr, refl, sym, ap, ap₂, subst, ◌∙◌, arith, length-append, Some}
use Rattle.std.specs.Prelude.{◌||◌, All, IfSome, slice_index_or}
use Rattle.std.proofs.lemmas.Bool.{cases_eq, or_parts}
use Rattle.std.proofs.lemmas.List.Elements.{All-cons}
use Rattle.store_model.specs.Disk.{Disk, Sealed}
use Rattle.shared_chain.specs.Planned.{IsReaderFor}
use Rattle.ledger.specs.declared.ledger.Ledger.{Ledger}
use Rattle.chain_core.specs.declared.chain.Chain.{Chain}
use Rattle.script.specs.declared.form.Line.{Line}
use Rattle.script.specs.declared.told.ToldCall.{ToldCall}
use Rattle.seats.specs.Counting.{times}
use Rattle.seats.specs.Families.{with_join, with_split}
use Rattle.seats.specs.declared.Family.{Family}
use Rattle.seats.proofs.Counting.{times-append}
use Rattle.turn_lock.specs.Histories.{StartsWith}
use Rattle.turn_lock.specs.Seats.{Known, TableId, together_of}
use Rattle.shared_chain.specs.declared.basis.Basis.{Basis}
use Rattle.shared_chain.specs.declared.basis.Step.{Step}
use Rattle.shared_chain.specs.Bases.{Contains, together}
use Rattle.shared_chain.specs.Seats.{IsFree, MergeBreaksAt}
use Rattle.shared_chain.specs.Steps.{done_steps, merge_breach}
use Rattle.shared_chain.specs.declared.basis.Step.TheVariants.{Broke}
use Rattle.turn_lock.proofs.Fronts.{starts-itself, starts-through}
use Rattle.shared_chain.specs.Laws.{contains_itself, contains_through}
use Rattle.copy_workers.specs.declared.worker.Worker.{Worker}
use Rattle.serve_session.specs.declared.actor.Actor.{Actor}
use Rattle.serve_session.specs.Actors.{AreHeard, AreJoined, HasHeard, HasRun, IsActor, IsFrom, OwnsAt}
use Rattle.claims.specs.Seats.{Counter}
use Rattle.serve_session.specs.Sealing.{IsSetFor}
use Rattle.serve_session.specs.Lists.{AreActors, AreFresh, CanWork, HasDone, IsFresh, IsFreshWorker, IsReady, RunsEach, WorkersJoin, WorksEach, with_splits}
use Rattle.serve_session.specs.Served.{Asking, IsCountedUp, IsRising, IsWhole, Outcome, SomeGuest, asked_by, call_of, forms_of, none_failed, places_in, told_calls, told_guests, unread_in}
use Rattle.serve_session.specs.Written.{AreKept}
use Rattle.serve_session.proofs.Guests.{as_many, calls_few, each_map, each_snoc, some_last, some_left, some_map, told_guests_snoc, unread_few}
use Rattle.serve_session.specs.Tallies.{AddsUp}
use Rattle.serve_session.proofs.Tallies.{none_add}
use Rattle.serve_session.proofs.Hearing.{all_heard_later, from_through, heard_few, knows_more, owns_still}

-- one more was joined
pub join_more : (f now new : Family) (n m : ℕ) → now ≡ record f { joins = f.joins + n } → new ≡ with_join now → m ≡ n + 1 → new ≡ record f { joins = f.joins + m }
join_more f now new n m is new_is more = new_is ∙ ap with_join is ∙ ap (λ k. record f { joins = k }) {x = f.joins + n + 1} {y = f.joins + m} (omega (arith, more))

nothing_own : (p : ℕ) → 0 < times p [] → ⊥
nothing_own p less = absurd (omega (arith, less))

breaks_later : (old new : List Step) (p : ℕ) → StartsWith new old → MergeBreaksAt old p → MergeBreaksAt new p
breaks_later old new p starts k = record { before = k.before; begins = starts-through new old (done_steps k.before ++ Broke merge_breach ∷ []) starts k.begins; place_is = k.place_is }

-- ---- workers of a merge

module _ {S T : Type 0} where
  -- none was joined yet
  pub none_join : (seat : Known Step (Basis S T)) → WorkersJoin seat seat
  none_join seat = record {
    lock = refl;
    turn = refl;
    leads = refl;
    seen = starts-itself seat.seen;
    basis = contains_itself seat.basis;
    refusals = omega arith;
    own = λ p own. inl own;
  }

  -- one more
  module _ (lock : TableId) (old seat new : Known Step (Basis S T)) (j : WorkersJoin old seat) (w : Worker S T) (done : HasDone lock w) (both : new ≡ together_of together seat w.seat) (seen : StartsWith new.seen seat.seen × StartsWith new.seen w.seat.seen)
      (basis : Contains new.basis seat.basis × Contains new.basis w.seat.basis) where
    own_of : (p : ℕ) → (0 < times p old.mine) ⊎ MergeBreaksAt seat.seen p → (0 < times p old.mine) ⊎ MergeBreaksAt new.seen p
    own_of p (inl own) = inl own
    own_of p (inr breaks) = inr (breaks_later seat.seen new.seen p seen.0 breaks)

    own_now : (p : ℕ) → 0 < times p new.mine → (0 < times p old.mine) ⊎ MergeBreaksAt new.seen p
    own_now p own = go (cases_eq (times p seat.mine) 0)
      where
        mine : times p new.mine ≡ times p seat.mine + times p w.seat.mine
        mine = ap (λ (s : Known Step (Basis S T)). times p s.mine) both ∙ times-append p seat.mine w.seat.mine

        positive : (n : ℕ) → n ≢ 0 → 0 < n
        positive zero ne = absurd (ne refl)
        positive (suc n) ne = omega arith

        go : (times p seat.mine ≡ 0) ⊎ (times p seat.mine ≢ 0) → (0 < times p old.mine) ⊎ MergeBreaksAt new.seen p
        go (inl none) = inr (breaks_later w.seat.seen new.seen p seen.1 (done.owns p (omega (arith, own, mine, none))))
        go (inr some) = own_of p (j.own p (positive (times p seat.mine) some))

    pub one_joins : WorkersJoin old new
    one_joins = record {
      lock = ap (λ (s : Known Step (Basis S T)). s.lock) both ∙ j.lock;
      turn = ap (λ (s : Known Step (Basis S T)). s.turn) both ∙ j.turn;
      leads = ap (λ (s : Known Step (Basis S T)). s.family.is_first) both ∙ j.leads;
      seen = starts-through new.seen seat.seen old.seen seen.0 j.seen;
      basis = contains_through new.basis seat.basis old.basis basis.0 j.basis;
      refusals = let sum : new.refusals ≡ seat.refusals + w.seat.refusals = ap (λ (s : Known Step (Basis S T)). s.refusals) both in omega (arith, sum, j.refusals);
      own = own_now;
    }

module _ {S T : Type 0} where
  -- one more was split off
  pub split_more : (first now new : Known Step (Basis S T)) (n m : ℕ) → now ≡ with_splits first n → new ≡ record now { family = with_split (now.family) } → m ≡ n + 1 → new ≡ with_splits first m
  split_more first now new n m is new_is more =
      new_is ∙ ap (λ (s : Known Step (Basis S T)). record s { family = with_split (s.family) }) is
      ∙ ap (λ k. record first { family = record (first.family) { splits = k } }) {x = first.family.splits + n + 1} {y = first.family.splits + m} (omega (arith, more))

  -- ---- guests that have made no call

  pub fresh_snoc : (Set : List Sealed → Type 0) (seat : Known Step (Basis S T)) (n : ℕ) (actors : List (Actor S T)) (actor : Actor S T) → AreFresh Set seat n actors → IsFresh Set seat (n - length actors) actor → AreFresh Set seat n (actors ++ actor ∷ [])
  fresh_snoc Set seat n [] actor h last = (subst (λ k. IsFresh Set seat k actor) {x = n - 0} (omega arith) last, tt)
  fresh_snoc Set seat n (a ∷ actors) actor h last = (h.0, fresh_snoc Set seat (n - 1) actors actor h.1 (subst (λ k. IsFresh Set seat k actor) {x = n - length (a ∷ actors)} {y = n - 1 - length actors} (omega arith) last))

  pub fresh_ready : (disk : S → Disk) (first : Chain S Ledger T) (seat : Known Step (Basis S T)) (lock : TableId) (n : ℕ) (actors : List (Actor S T)) → seat.lock ≡ lock → seat.basis.first ≡ Some first → AreFresh (IsSetFor disk first) seat n actors
      → All (IsReady disk lock) actors
  fresh_ready disk first seat lock n [] of_lock began h = λ i x within. absurd (omega (arith, within))
  fresh_ready disk first seat lock n (a ∷ actors) of_lock began h =
      All-cons (IsReady disk lock) a actors (
        (ap (λ (s : Known Step (Basis S T)). s.lock) h.0.seat ∙ of_lock, ap (λ (s : Known Step (Basis S T)). s.turn) h.0.seat),
        h.0.room,
        subst (λ o. IfSome o (λ (chain : Chain S Ledger T). All (IsReaderFor disk chain) a.guest.readers)) (sym (ap (λ (s : Known Step (Basis S T)). s.basis.first) h.0.seat ∙ began)) h.0.set.own,
      ) (fresh_ready disk first seat lock (n - 1) actors of_lock began h.1)

  -- workers that have made no turn may take turns
  pub fresh_can : (disk : S → Disk) (lock : TableId) (seat : Known Step (Basis S T)) (claims : Counter) (workers : List (Worker S T)) → seat.lock ≡ lock → All (IsFreshWorker disk seat claims) workers → All (CanWork disk lock claims) workers
  fresh_can disk lock seat claims workers of_lock fresh i d within =
      let f = fresh i d within in
      record {
        free = (ap (λ (s : Known Step (Basis S T)). s.lock) f.seat ∙ of_lock, ap (λ (s : Known Step (Basis S T)). s.turn) f.seat);
        counter = f.counter;
        source = f.source;
        failed = f.failed;
      }

  -- and have none of their own once they took them but one that broke the session
  pub all_done : (disk : S → Disk) (lock : TableId) (seat : Known Step (Basis S T)) (claims : Counter) (turns : ℕ) (old new : List (Worker S T)) → turns ≤ 2 ^ 34 → seat.lock ≡ lock → All (IsFreshWorker disk seat claims) old → WorksEach turns old new
      → All (HasDone lock) new
  all_done disk lock seat claims turns old new few of_lock fresh works i d within =
      let before : i < length old = omega (arith, within, works.count) in
      let f = fresh i d before in
      let w = works.each i d before in
      let nothing : (slice_index_or old i d).seat.drawn ≡ 0 = ap (λ (s : Known Step (Basis S T)). s.drawn) f.seat in
      record {
        free = (w.keeps.lock ∙ ap (λ (s : Known Step (Basis S T)). s.lock) f.seat ∙ of_lock, w.keeps.free);
        owns = λ p own. go p (slice_index_or old i d) (ap (λ (s : Known Step (Basis S T)). s.mine) f.seat) (w.own p own);
        drawn = omega (arith, w.drawn, nothing, few);
        failed = works.failed i d before;
      }
    where
      go : (p : ℕ) (a : Worker S T) {Q : Type 0} → a.seat.mine ≡ [] → (0 < times p a.seat.mine) ⊎ Q → Q
      go p a none (inl own) = absurd (nothing_own p (subst (λ ms. 0 < times p ms) none own))
      go p a none (inr q) = q

  -- a guest that has made no call was told nothing
  pub none_heard : (disk : S → Disk) (first : Chain S Ledger T) (tells : Bool) (guest : ℕ) (seat : Known Step (Basis S T)) → IsFrom disk first seat.basis → seat.mine ≡ [] → seat.drawn ≡ 0 → HasHeard disk first tells guest [] seat []
  none_heard disk first tells guest seat knows mine drawn = record {
    knows = knows;
    heard = tt;
    order = tt;
    unread = tt;
    owns = λ p own. absurd (nothing_own p (subst (λ ms. 0 < times p ms) mine own));
    drawn = omega (arith, drawn);
  }

  module _ (disk : S → Disk) (first : Chain S Ledger T) (lock : TableId) (names : List (List ℕ)) (lines : List Line) where
    fresh_actor : (seat : Known Step (Basis S T)) (n : ℕ) (a : Actor S T) → seat.lock ≡ lock → IsFrom disk first seat.basis → first.layers.geometry.sector ≡ 512 → IsFresh (IsSetFor disk first) seat n a → IsActor disk first lock names [] a
    fresh_actor seat n a of_lock knows sector h = record {
      free = (ap (λ (s : Known Step (Basis S T)). s.lock) h.seat ∙ of_lock, ap (λ (s : Known Step (Basis S T)). s.turn) h.seat);
      number = h.guest ∙ sym h.number_is;
      room = h.room;
      sector = sector;
      outcomes = [];
      hears = none_heard disk first false a.number a.guest.seat (subst (λ (s : Known Step (Basis S T)). IsFrom disk first s.basis) (sym h.seat) knows) (ap (λ (s : Known Step (Basis S T)). s.mine) h.seat) (ap (λ (s : Known Step (Basis S T)). s.drawn) h.seat);
      readers = h.set;
      unread = h.unread;
      tally = subst (λ t. AddsUp t []) (sym h.tally) none_add;
      kept = λ short. record { all = refl; next = h.next; told = h.told };
    }

    -- and those that have made all
    pub all_run : (seat : Known Step (Basis S T)) (n : ℕ) (old new : List (Actor S T)) → seat.lock ≡ lock → IsFrom disk first seat.basis → first.layers.geometry.sector ≡ 512 → AreFresh (IsSetFor disk first) seat n old
        → RunsEach disk lock names lines old new → AreActors (HasRun disk first lock names lines) n new
    all_run seat n [] [] of_lock knows sector h runs = tt
    all_run seat n [] (b ∷ new) of_lock knows sector h runs = absurd (omega (arith, runs.count))
    all_run seat n (a ∷ old) [] of_lock knows sector h runs = absurd (omega (arith, runs.count))
    all_run seat n (a ∷ old) (b ∷ new) of_lock knows sector h runs =
        let one = runs.each 0 a (omega arith) in (
          one.0 ∙ h.0.number_is,
          one.1 first (fresh_actor seat n a of_lock knows sector h.0),
          all_run seat (n - 1) old new of_lock knows sector h.1 (record { count = omega (arith, runs.count); each = λ i d within. runs.each (suc i) d (omega (arith, within)) }),
        )

    -- the last of them
    pub last_actor : (P : Actor S T → Type 0) (n : ℕ) (actors : List (Actor S T)) (a : Actor S T) → AreActors P n (actors ++ a ∷ []) → AreActors P n actors × (a.number ≡ n - length actors) × P a
    last_actor P n [] a h = (tt, subst (λ k. a.number ≡ k) {x = n} {y = n - 0} (omega arith) h.0, h.1)
    last_actor P n (b ∷ actors) a h =
        let rest = last_actor P (n - 1) actors a h.2 in
        ((h.0, h.1, rest.0), subst (λ k. a.number ≡ k) {x = n - 1 - length actors} {y = n - length (b ∷ actors)} (omega arith) rest.1, rest.2)

    -- it was told of as many calls as there are lines at most
    pub few_told_of : (a : Actor S T) (run : HasRun disk first lock names lines a) → length run.outcomes ≤ length lines
    few_told_of a run = omega (arith, heard_few disk first false a.guest.seat a.number 1 (map call_of (forms_of a.number lines)) run.outcomes run.hears.heard, calls_few a.number lines)

    -- few of its reads failed by a reader
    pub few_unread : (a : Actor S T) (run : HasRun disk first lock names lines a) → length (unread_in run.outcomes) ≤ length lines
    few_unread a run = omega (arith, unread_few run.outcomes, heard_few disk first false a.guest.seat a.number 1 (map call_of (forms_of a.number lines)) run.outcomes run.hears.heard, calls_few a.number lines)

    -- the guest of the next number has heard so
    pub run_hears : (guest : ℕ) (a : Actor S T) (run : HasRun disk first lock names lines a) → a.number ≡ guest → HasHeard disk first false guest ((asked_by lines).calls guest) a.guest.seat run.outcomes
    run_hears guest a run number = subst (λ n. HasHeard disk first false n (map call_of (forms_of n lines)) a.guest.seat run.outcomes) number run.hears

    -- and is one more of those whose texts are kept
    pub one_kept : (told : List (List ToldCall)) (short : Bool) (guests : List (List Outcome)) → AreKept names lines told short guests → (a : Actor S T) (run : HasRun disk first lock names lines a) → a.number ≡ 1 + length guests
        → AreKept names lines (told ++ a.told.items ∷ []) (short || a.is_short) (guests ++ run.outcomes ∷ [])
    one_kept told short guests words a run number = record {
      count = length-append told (a.told.items ∷ []) ∙ ap (λ n. n + 1) words.count ∙ sym (length-append guests (run.outcomes ∷ []));
      kept = λ e. whole (or_parts short a.is_short e);
    }
      where
        whole : (short ≡ false) × (a.is_short ≡ false) → IsWhole (asked_by lines) (guests ++ run.outcomes ∷ []) × (told ++ a.told.items ∷ [] ≡ told_guests names 1 lines (guests ++ run.outcomes ∷ []))
        whole e =
            let k = words.kept e.0 in
            let l = run.kept e.1 in (
              each_snoc (λ g os. length os ≡ length (map call_of (forms_of g lines))) 1 guests run.outcomes k.0 (subst (λ n. length run.outcomes ≡ length (map call_of (forms_of n lines))) number (l.all ∙ sym (as_many (forms_of a.number lines)))),
              ap₂ (λ ts t. ts ++ t ∷ []) k.1 (l.told ∙ ap (λ n. told_calls names (forms_of n lines) run.outcomes) number) ∙ sym (told_guests_snoc names 1 lines guests run.outcomes),
            )

-- of none yet
pub none_kept : (names : List (List ℕ)) (lines : List Line) (told : List (List ToldCall)) → told ≡ [] → AreKept names lines told false []
none_kept names lines told none = record { count = ap length none; kept = λ short. (tt, none) }

-- ---- joining

module _ {S T : Type 0} (disk : S → Disk) (first : Chain S Ledger T) (lock : TableId) (asking : Asking) where
  -- no seat was joined yet
  pub none_joined : (seat : Known Step (Basis S T)) → IsFree lock seat → seat.family.is_first ≡ true → IsFrom disk first seat.basis → seat.mine ≡ [] → AreJoined disk first false lock asking seat []
  none_joined seat free leads knows mine = record {
    free = free;
    leads = leads;
    knows = knows;
    heard = tt;
    order = tt;
    unread = tt;
    owns = λ p own. absurd (nothing_own p (subst (λ ms. 0 < times p ms) mine own));
  }

  abbrev Heard : Known Step (Basis S T) → ℕ → List Outcome → Type 0
  Heard s guest outcomes = AreHeard disk first asking.tells_want s guest 1 (asking.calls guest) outcomes

  abbrev Owns : Known Step (Basis S T) → ℕ → ℕ → List Outcome → Type 0
  Owns s p guest outcomes = OwnsAt s.seen p guest (asking.calls guest) outcomes

  -- one guest's more
  module _ (seat own new : Known Step (Basis S T)) (guests : List (List Outcome)) (outcomes : List Outcome) (j : AreJoined disk first false lock asking seat guests) (hears : HasHeard disk first asking.tells_want (1 + length guests) (asking.calls (1 + length guests)) own outcomes)
      (both : new ≡ together_of together seat own) (seen : StartsWith new.seen seat.seen × StartsWith new.seen own.seen) (basis : Contains new.basis seat.basis × Contains new.basis own.basis) where
    refused : (seat.refusals ≤ new.refusals) × (own.refusals ≤ new.refusals)
    refused = let both_of : new.refusals ≡ seat.refusals + own.refusals = ap (λ (s : Known Step (Basis S T)). s.refusals) both in (omega (arith, both_of), omega (arith, both_of))

    owns_now : (p : ℕ) → 0 < times p new.mine → SomeGuest (Owns new p) 1 (guests ++ outcomes ∷ [])
    owns_now p some_own = go (cases_eq (times p seat.mine) 0)
      where
        mine : times p new.mine ≡ times p seat.mine + times p own.mine
        mine = ap (λ (s : Known Step (Basis S T)). times p s.mine) both ∙ times-append p seat.mine own.mine

        go : (times p seat.mine ≡ 0) ⊎ (times p seat.mine ≢ 0) → SomeGuest (Owns new p) 1 (guests ++ outcomes ∷ [])
        go (inl none) = some_last (Owns new p) 1 guests outcomes (owns_still own.seen new.seen p (1 + length guests) (asking.calls (1 + length guests)) outcomes seen.1 (hears.owns p (omega (arith, some_own, mine, none))))
        go (inr some) =
            some_left (Owns new p) 1 guests (outcomes ∷ [])
            (some_map (Owns seat p) (Owns new p) 1 guests (λ g os. owns_still seat.seen new.seen p g (asking.calls g) os seen.0) (j.owns p (positive (times p seat.mine) some)))
          where
            positive : (n : ℕ) → n ≢ 0 → 0 < n
            positive zero ne = absurd (ne refl)
            positive (suc n) ne = omega arith

    pub one_joined : AreJoined disk first false lock asking new (guests ++ outcomes ∷ [])
    one_joined = record {
      free = (ap (λ (s : Known Step (Basis S T)). s.lock) both ∙ j.free.0, ap (λ (s : Known Step (Basis S T)). s.turn) both ∙ j.free.1);
      leads = ap (λ (s : Known Step (Basis S T)). s.family.is_first) both ∙ j.leads;
      knows = from_through disk first new.basis seat.basis basis.0 j.knows;
      heard = each_snoc (Heard new) 1 guests outcomes
          (each_map (Heard seat) (Heard new) 1 guests (λ g os. all_heard_later disk first asking.tells_want seat new g 1 (asking.calls g) os seen.0 (knows_more disk first new seat basis.0 refused.0)) j.heard)
          (all_heard_later disk first asking.tells_want own new (1 + length guests) 1 (asking.calls (1 + length guests)) outcomes seen.1 (knows_more disk first new own basis.1 refused.1) hears.heard);
      order = each_snoc (λ g os. IsRising (places_in os)) 1 guests outcomes j.order hears.order;
      unread = each_snoc (λ g os. IsCountedUp none_failed (unread_in os)) 1 guests outcomes j.unread hears.unread;
      owns = owns_now;
    }

  -- ---- workers of a merge

  -- in a session with a merge a place may be the merge's
  pub wider_joined : (seat : Known Step (Basis S T)) (guests : List (List Outcome)) → AreJoined disk first false lock asking seat guests → AreJoined disk first true lock asking seat guests
  wider_joined seat guests j = record { free = j.free; leads = j.leads; knows = j.knows; heard = j.heard; order = j.order; unread = j.unread; owns = λ p own. inl (j.owns p own) }

  module _ (seat new : Known Step (Basis S T)) (guests : List (List Outcome)) (j : AreJoined disk first true lock asking seat guests) (workers : WorkersJoin seat new) where
    still_owns : (p : ℕ) → SomeGuest (Owns seat p) 1 guests ⊎ MergeBreaksAt seat.seen p → SomeGuest (Owns new p) 1 guests ⊎ MergeBreaksAt new.seen p
    still_owns p (inl own) = inl (some_map (Owns seat p) (Owns new p) 1 guests (λ g os. owns_still seat.seen new.seen p g (asking.calls g) os workers.seen) own)
    still_owns p (inr breaks) = inr (breaks_later seat.seen new.seen p workers.seen breaks)

    owns_by : (p : ℕ) → (0 < times p seat.mine) ⊎ MergeBreaksAt new.seen p → SomeGuest (Owns new p) 1 guests ⊎ MergeBreaksAt new.seen p
    owns_by p (inl own) = still_owns p (j.owns p own)
    owns_by p (inr breaks) = inr breaks

    pub workers_joined : AreJoined disk first true lock asking new guests
    workers_joined = record {
      free = (workers.lock ∙ j.free.0, workers.turn ∙ j.free.1);
      leads = workers.leads ∙ j.leads;
      knows = from_through disk first new.basis seat.basis workers.basis j.knows;
      heard = each_map (Heard seat) (Heard new) 1 guests (λ g os. all_heard_later disk first asking.tells_want seat new g 1 (asking.calls g) os workers.seen (knows_more disk first new seat workers.basis workers.refusals)) j.heard;
      order = j.order;
      unread = j.unread;
      owns = λ p own. owns_by p (workers.own p own);
    }
