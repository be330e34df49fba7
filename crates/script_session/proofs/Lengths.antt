-- No file of a store gets shorter; and what is told of a file's end.
use Rattle.std.proofs.Common.{◌≡◌, ◌<◌, ◌≤◌, ◌+◌, ◌-◌, ◌/◌, ◌==◌, ◌||◌, ℕ, zero, suc, Bool, true, false, List, [], ◌∷◌, length, drop, Option, Some, None, Ok, Err, refl, sym, subst, ◌∙◌, arith}
use Rattle.std.proofs.Common.{length-append, length-drop, length-take}
use Rattle.std.specs.Prelude.{if◌then◌else◌, nat_lt}
use Rattle.std.specs.List.{AllByRecursion}
use Rattle.std.proofs.lemmas.Option.{same_Some}
use Rattle.vx_base.proofs.ByteLists.{length-extended}
use Rattle.vx_base.specs.Fields.{extended, written_over}
use Rattle.vx_base.specs.declared.parts.Geometry.{Geometry}
use Rattle.store_model.specs.File.{Grow, Op, Seal, Sync, Tear, Write, seen_after}
use Rattle.store_model.specs.Trace.{Change, EachMoment, Trace, at_moment, file_of, moment, ops_of}
use Rattle.store_model.specs.declared.fault.StoreFault.{StoreFault}
use Rattle.guest_model.specs.Ranges.{range_refusal}
use Rattle.guest_model.specs.History.{History}
use Rattle.guest_model.specs.declared.call.Call.{Call}
use Rattle.guest_model.specs.declared.call.Call.TheVariants as calls
use Rattle.guest_model.specs.declared.refusal.ChainRefusal.{ChainRefusal}
use Rattle.guest_model.specs.declared.refusal.ChainRefusal.TheVariants.{Abandoned, Broken, EmptyRange, FileFull, NoMerge, NoPiece, NoRoom, NoStripe, NotYet, OutOfRange, ReadFault, ReadOnly, Spent, Stale, TooLong}
use Rattle.chain_core.specs.Copying.{past_stripes, stale}
use Rattle.chain_core.specs.Refusing.{barred, broken_by, or_else, out_of, range_of}
use Rattle.chain_core.specs.States.{State}
use Rattle.script_session.specs.Histories.{Course, Drive, Grows, IsEndTold, IsLater, IsSoLong, cause_of, copying, no_merge, out_of_course, stamp_behind, step_cause, stripes_of}
use Rattle.script_session.specs.Told.{Asked, Told, asks_call, asks_copy, asks_fetch, asks_finish, asks_put}
use Rattle.script_session.proofs.LeftFiles.{later_itself, later_writes}

-- ---- lengths

over_longer : (bytes : List ℕ) (at : ℕ) (patch : List ℕ) → length bytes ≤ length (written_over bytes at patch)
unfolding written_over
over_longer bytes at patch = simp (length-append, length-take, length-drop) (omega arith)

extended_longer : (bytes : List ℕ) (len : ℕ) → length bytes ≤ length (extended bytes len)
extended_longer bytes len = omega (arith, length-extended bytes len)

op_longer : (a : List ℕ) (op : Op) (ops : List Op) → length (seen_after a ops) ≤ length (seen_after a (op ∷ ops))
op_longer a (Write at bytes) ops = over_longer (seen_after a ops) at bytes
op_longer a (Tear at meant left) ops = over_longer (seen_after a ops) at left
op_longer a (Grow len) ops = extended_longer (seen_after a ops) len
op_longer a Sync ops = omega arith
op_longer a Seal ops = omega arith

change_longer : (a : List ℕ) (n : ℕ) (c : Change) (older : List Change) → length (seen_after a (ops_of n older)) ≤ length (seen_after a (ops_of n (c ∷ older)))
change_longer a n c older = by_file (c.file == n)
  where
    by_file : (b : Bool) → length (seen_after a (ops_of n older)) ≤ length (seen_after a (if b then c.op ∷ ops_of n older else ops_of n older))
    by_file true = op_longer a c.op (ops_of n older)
    by_file false = omega arith

dropped_shorter : (a : List ℕ) (n k : ℕ) (changes : List Change) → length (seen_after a (ops_of n (drop k changes))) ≤ length (seen_after a (ops_of n changes))
dropped_shorter a n zero changes = omega arith
dropped_shorter a n (suc k) [] = omega arith
dropped_shorter a n (suc k) (c ∷ changes) = omega (arith, dropped_shorter a n k changes, change_longer a n c changes)

earlier_shorter : (k : ℕ) (t : Trace) → Grows (at_moment k t) t
unfolding file_of at_moment
earlier_shorter k t = (refl, λ n. dropped_shorter _ n (moment t - k) t.changes)

pub moments_grow : (P : Trace → Type 0) (old now : Trace) → EachMoment P old now → Grows old now
moments_grow P old now h = subst (λ t. Grows t now) h.since (earlier_shorter (moment old) now)

pub grows_none : (t : Trace) → Grows t t
grows_none t = (refl, λ n. omega arith)

pub grows_on : (a b c : Trace) → Grows a b → Grows b c → Grows a c
grows_on a b c f g = (g.0 ∙ f.0, λ n. omega (arith, f.1 n, g.1 n))

-- ---- an end that is told

pub long_later : (writes may : ℕ → Bool) (old now : Trace) (next : ℕ) → ((n : ℕ) → writes n ≡ true → may n ≡ true) → Grows old now → IsSoLong writes old next → IsSoLong may now next
long_later writes may old now next can grows h =
    record { number = h.number; there = subst (λ fs. h.number < length fs) (sym grows.0) h.there; may_change = can h.number h.may_change; long = omega (arith, h.long, grows.1 h.number) }

pub end_later : (P Q : ℕ → Type 0) → ((next : ℕ) → P next → Q next) → (t : Told) → IsEndTold P t → IsEndTold Q t
end_later P Q f (Ok done) h = tt
end_later P Q f (Err (Broken file count)) h = tt
end_later P Q f (Err (ReadFault file count)) h = tt
end_later P Q f (Err EmptyRange) h = tt
end_later P Q f (Err (OutOfRange first count sectors)) h = tt
end_later P Q f (Err (TooLong count limit)) h = tt
end_later P Q f (Err ReadOnly) h = tt
end_later P Q f (Err (Spent t)) h = tt
end_later P Q f (Err (FileFull next)) h = f next h
end_later P Q f (Err NoMerge) h = tt
end_later P Q f (Err (Stale taken at)) h = tt
end_later P Q f (Err (NotYet stripe)) h = tt
end_later P Q f (Err (Abandoned file count)) h = tt
end_later P Q f (Err (NoStripe stripe stripes)) h = tt
end_later P Q f (Err NoPiece) h = tt
end_later P Q f (Err NoRoom) h = tt

pub ends_later : (P Q : ℕ → Type 0) → ((next : ℕ) → P next → Q next) → (told : List Told) → AllByRecursion (IsEndTold P) told → AllByRecursion (IsEndTold Q) told
ends_later P Q f [] h = tt
ends_later P Q f (t ∷ told) h = (end_later P Q f t h.0, ends_later P Q f told h.1)

-- what a later state may write the first may
pub writes_before : (v later : State) → ((h : History) (end : State) → IsLater later h end → IsLater v h end) → (n : ℕ) → later.writes n ≡ true → v.writes n ≡ true
writes_before v later same n written = by_write (v.writes n) refl
  where
    by_write : (b : Bool) → v.writes n ≡ b → v.writes n ≡ true
    by_write true e = e
    by_write false e = let never : false ≡ true = sym (later_writes v later (same later.history later (later_itself later)).goes n e) ∙ written in cc

-- ---- a cause tells none

module _ (P : ℕ → Type 0) where
  abbrev Free : ChainRefusal → Type 0
  Free x = IsEndTold P (Err x)

  pub free_by : (e x : ChainRefusal) → Some e ≡ Some x → Free e → Free x
  free_by e x h q = subst Free (same_Some e x h) q

  none_free : (x : ChainRefusal) → None ≡ Some x → Free x
  none_free x h = let bad : ◌≡◌ {A = Option ChainRefusal} None (Some x) = h in absurd (cc)

  or_free : (a b : Option ChainRefusal) (x : ChainRefusal) → (a ≡ Some x → Free x) → (b ≡ Some x → Free x) → or_else a b ≡ Some x → Free x
  or_free None b x p q h = q h
  or_free (Some y) b x p q h = p h

  broken_free : (broken : Option StoreFault) (x : ChainRefusal) → broken_by broken ≡ Some x → Free x
  broken_free None x h = none_free x h
  broken_free (Some fault) x h = free_by (Broken fault.file fault.count) x h tt

  range_free : (first count limit sectors : ℕ) (later : Option ChainRefusal) (x : ChainRefusal) → (later ≡ Some x → Free x) → out_of (range_refusal first count limit sectors) later ≡ Some x → Free x
  range_free first count limit sectors later x q = go (count == 0) (nat_lt limit count) (nat_lt sectors (first + count))
    where
      go : (a b c : Bool) → out_of (if a then Err EmptyRange else if b then Err (TooLong count limit) else if c then Err (OutOfRange first count sectors) else Ok tt) later ≡ Some x → Free x
      go true b c h = free_by EmptyRange x h tt
      go false true c h = free_by (TooLong count limit) x h tt
      go false false true h = free_by (OutOfRange first count sectors) x h tt
      go false false false h = q h

  barred_free : (reads change : Bool) (x : ChainRefusal) → (if reads || change then None else Some ReadOnly) ≡ Some x → Free x
  barred_free reads change x = go (reads || change)
    where
      go : (b : Bool) → (if b then None else Some ReadOnly) ≡ Some x → Free x
      go true h = none_free x h
      go false h = free_by ReadOnly x h tt

  misplaced_free : (g : Geometry) (change : Bool) (call : Call) (x : ChainRefusal) → out_of (range_of g call) (barred call change) ≡ Some x → Free x
  misplaced_free g change (calls.Read first count) x h = range_free first count 2048 g.sectors _ x (barred_free true change x) h
  misplaced_free g change (calls.Write first bytes) x h = range_free first (length bytes / g.sector) 2048 g.sectors _ x (barred_free false change x) h
  misplaced_free g change (calls.Trim first count) x h = range_free first count 524288 g.sectors _ x (barred_free false change x) h
  misplaced_free g change calls.Flush x h = barred_free false change x h

  pub cause_free : (drive : Drive) (broken : Option StoreFault) (call : Call) (x : ChainRefusal) → cause_of drive broken call ≡ Some x → Free x
  cause_free drive broken call x h = or_free (broken_by broken) (out_of (range_of drive.geometry call) (barred call drive.can_change)) x (broken_free broken x) (misplaced_free drive.geometry drive.can_change call x) h

  pub past_free : (stripe stripes : ℕ) (x : ChainRefusal) → past_stripes stripe stripes ≡ Some x → Free x
  past_free stripe stripes x = go (nat_lt stripe stripes)
    where
      go : (b : Bool) → (if b then None else Some (NoStripe stripe stripes)) ≡ Some x → Free x
      go true h = none_free x h
      go false h = free_by (NoStripe stripe stripes) x h tt

  stale_free : (taken now : ℕ) (x : ChainRefusal) → stale taken now ≡ Some x → Free x
  stale_free taken now x = go (taken == now)
    where
      go : (b : Bool) → (if b then None else Some (Stale taken now)) ≡ Some x → Free x
      go true h = none_free x h
      go false h = free_by (Stale taken now) x h tt

  course_free : (stripes : ℕ) (h : History) (course : Course) (step : Asked) (x : ChainRefusal) → out_of_course stripes h course step ≡ Some x → Free x
  course_free stripes h no_merge step x is = free_by NoMerge x is tt
  course_free stripes h (copying l copied waits) (asks_fetch stripe) x is = past_free stripe stripes x is
  course_free stripes h (copying l copied None) asks_put x is = free_by NoPiece x is tt
  course_free stripes h (copying l copied (Some w)) asks_put x is = stale_free w.stamp (stamp_behind l h w.stripe) x is
  course_free stripes h (copying l copied waits) (asks_call call) x is = none_free x is
  course_free stripes h (copying l copied waits) asks_copy x is = none_free x is
  course_free stripes h (copying l copied waits) asks_finish x is = none_free x is

  pub step_free : (drive : Drive) (h : History) (broken : Option StoreFault) (course : Course) (step : Asked) (x : ChainRefusal) → step_cause drive h broken course step ≡ Some x → Free x
  step_free drive h broken course step x is = or_free (broken_by broken) (out_of_course (stripes_of drive) h course step) x (broken_free broken x) (course_free (stripes_of drive) h course step x) is
