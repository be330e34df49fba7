-- What a call that is refused for want of room says of the end of a file.
use Rattle.std.proofs.Common.{◌≡◌, ◌<◌, ◌≤◌, ℕ, max, leb, Bool, true, false, [], Option, Some, None, Result, Ok, Err, refl, sym, ap, subst, ◌∙◌, arith, leb-true, leb-false}
use Rattle.std.specs.Prelude.{IfSome}
use Rattle.vx_base.specs.declared.parts.Geometry.{Geometry}
use Rattle.store_model.specs.Disk.{WhereBothTold, WhereTold}
use Rattle.store_model.specs.Trace.{Trace}
use Rattle.store_model.specs.declared.fault.StoreFault.{StoreFault}
use Rattle.guest_model.specs.declared.call.Call.{Call}
use Rattle.guest_model.specs.declared.call.Call.TheVariants as calls
use Rattle.guest_model.specs.declared.call.Caller.{Caller}
use Rattle.guest_model.specs.declared.refusal.ChainRefusal.{ChainRefusal}
use Rattle.guest_model.specs.declared.refusal.ChainRefusal.TheVariants.{Abandoned, Broken, EmptyRange, FileFull, NoMerge, NoPiece, NoRoom, NoStripe, NotYet, OutOfRange, ReadFault, ReadOnly, Spent, Stale, TooLong}
use Rattle.guest_model.specs.History.{History}
use Rattle.chain_core.specs.Answering.{HasRoom}
use Rattle.chain_core.specs.Refusing.{is_read, refused}
use Rattle.chain_core.specs.Sessions.{Session}
use Rattle.chain_core.specs.States.{IsServing, State, sector_of}
use Rattle.script_session.specs.Answers.{HasCauseOf}
use Rattle.script_session.specs.Histories.{Grows, IsSoLong, Stops, asks_room}
use Rattle.script_session.proofs.Lengths.{grows_none, long_later}
use Rattle.script_session.proofs.Room.{IsFull, call_is_far}
use Rattle.script_session.proofs.Telling.{both_told}
use Rattle.shared_chain.specs.declared.basis.Breach.{Breach}
use Rattle.shared_chain.specs.Answers.{Answered}
use Rattle.shared_chain.specs.Homes.{Follows, IsHome}
use Rattle.shared_chain.specs.Notes.{full_after, greatest}
use Rattle.shared_chain.proofs.Later.{written_before}
use Rattle.shared_chain.proofs.Refusals.{not_early}

-- ---- the greatest unit

greatest_has : (P : ℕ → Type 0) (full : Option ℕ) (next : ℕ) → IfSome full P → P next → P (greatest full next)
greatest_has P None next h p = p
greatest_has P (Some known) next h p = go (leb next known) refl
  where
    go : (b : Bool) → leb next known ≡ b → P (max known next)
    go true e = let low : next ≤ known = leb-true next known e in subst P {x = known} {y = max known next} (omega (arith, low)) h
    go false e = let high : known < next = leb-false next known e in subst P {x = next} {y = max known next} (omega (arith, high)) p

-- no file is shorter
pub long_still : (writes : ℕ → Bool) (full : Option ℕ) (old now : Trace) → Grows old now → IfSome full (IsSoLong writes old) → IfSome full (IsSoLong writes now)
long_still writes None old now grows h = tt
long_still writes (Some n) old now grows h = long_later writes writes old now n (λ k e. e) grows h

pub long_after : (writes : ℕ → Bool) (full : Option ℕ) (answer : Result ℕ ChainRefusal) (old now : Trace) → IfSome full (IsSoLong writes old) → ((next : ℕ) → answer ≡ Err (FileFull next) → IsSoLong writes old next) → Grows old now
    → IfSome (full_after full answer) (IsSoLong writes now)
long_after writes full (Err (FileFull next)) old now h far grows = greatest_has (IsSoLong writes now) full next (long_still writes full old now grows h) (long_later writes writes old now next (λ k e. e) grows (far next refl))
long_after writes full (Ok place) old now h far grows = long_still writes full old now grows h
long_after writes full (Err EmptyRange) old now h far grows = long_still writes full old now grows h
long_after writes full (Err (OutOfRange a b c)) old now h far grows = long_still writes full old now grows h
long_after writes full (Err (TooLong a b)) old now h far grows = long_still writes full old now grows h
long_after writes full (Err ReadOnly) old now h far grows = long_still writes full old now grows h
long_after writes full (Err (Broken file count)) old now h far grows = long_still writes full old now grows h
long_after writes full (Err (Spent t)) old now h far grows = long_still writes full old now grows h
long_after writes full (Err (ReadFault file count)) old now h far grows = long_still writes full old now grows h
long_after writes full (Err NoMerge) old now h far grows = long_still writes full old now grows h
long_after writes full (Err (Stale taken at)) old now h far grows = long_still writes full old now grows h
long_after writes full (Err (NotYet stripe)) old now h far grows = long_still writes full old now grows h
long_after writes full (Err (Abandoned file count)) old now h far grows = long_still writes full old now grows h
long_after writes full (Err (NoStripe stripe stripes)) old now h far grows = long_still writes full old now grows h
long_after writes full (Err NoPiece) old now h far grows = long_still writes full old now grows h
long_after writes full (Err NoRoom) old now h far grows = long_still writes full old now grows h

-- ---- a call

module _ (first old new : Session) (h : History) (full : Option ℕ) (broke : Option Breach) (fault : Option StoreFault) (home : IsHome first old h full broke fault) (who : Caller) (call : Call) (answer : Result ℕ ChainRefusal) (a : Answered who call old new answer) (fit : refused call old ≡ None)
    (next : ℕ) (is : answer ≡ Err (FileFull next)) where
  changes : is_read call ≡ false
  changes = go call (subst (HasCauseOf call old new) is a.cause) fit
    where
      go : (call : Call) → HasCauseOf call old new (Err (FileFull next)) → refused call old ≡ None → is_read call ≡ false
      go (calls.Read from count) cause fit = absurd (cause fit)
      go (calls.Write from bytes) cause fit = refl
      go (calls.Trim from count) cause fit = refl
      go calls.Flush cause fit = refl

  -- it asks for room, near the end of the places, and tells the end of a file that may be changed
  pub far : (from : State) (now : Trace) → old.disk.told ≡ Some now → Follows from h full broke old now → (asks_room call ≡ true) × IsFull from.writes now next
  far from now told f =
      let serving : IsServing old.layers f.to now = f.serves (not_early call old fit).0 in
      let size : sector_of f.to ≡ 512 = sym (ap (λ (g : Geometry). g.sector) serving.geometry) ∙ home.sound.sector in
      let k = call_is_far call next f.to old now serving size told changes fit (subst (HasRoom call old) is a.room) in
      (k.0, (k.1.0, long_later f.to.writes from.writes now now next (written_before from h f.to f.comes.later) (grows_none now) k.1.1))

  pub stops_over : WhereTold first.disk.told (λ trace. (from : State) → IsServing first.layers from trace → from.history ≡ [] → Stops call (FileFull next))
  stops_over trace told from serving empty =
      let b = both_told (λ trace after. (from : State) → IsServing first.layers from trace → from.history ≡ [] → Follows from h full broke old after) first.disk.told old.disk.told trace told home.follows in
      let k = far from b.0 b.1 (b.2 from serving empty) in
      (k.0, k.1.0)

-- what is told of both, and what the second is
pub second_told : {T : Type 0} (R : T → T → Type 0) (a b : Option T) → WhereBothTold R a b → WhereBothTold (λ t u. (b ≡ Some u) × R t u) a b
second_told R None None h = tt
second_told R None (Some u) h = absurd h
second_told R (Some t) None h = absurd h
second_told R (Some t) (Some u) h = (refl, h)
