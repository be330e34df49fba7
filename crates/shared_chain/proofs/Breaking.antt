-- What broke a session, and what a crash may leave of one that is broken.
use Rattle.std.proofs.Common.{◌≡◌, ◌+◌, ◌&&◌, ◌||◌, ℕ, Bool, true, false, [], ◌∷◌, drop, length, take, Option, Some, None, Err, refl, sym, ap, subst, ◌∙◌, arith}
use Rattle.std.specs.Prelude.{◌/◌, is_some, nat_le, nat_lt}
use Rattle.std.proofs.lemmas.Bool.{or_from, or_parts}
use Rattle.store_model.specs.Trace.{EachMoment, Trace, moment}
use Rattle.store_model.specs.declared.fault.StoreFault.{StoreFault}
use Rattle.store_model.proofs.Spans.{at_moment-now}
use Rattle.guest_model.specs.declared.call.Call.{Call}
use Rattle.guest_model.specs.declared.call.Call.TheVariants as calls
use Rattle.guest_model.specs.declared.call.Caller.{Caller}
use Rattle.guest_model.specs.declared.refusal.ChainRefusal.{ChainRefusal}
use Rattle.guest_model.specs.declared.refusal.ChainRefusal.TheVariants.{Abandoned, Broken, EmptyRange, FileFull, NoMerge, NoPiece, NoRoom, NoStripe, NotYet, OutOfRange, ReadFault, ReadOnly, Spent, Stale, TooLong}
use Rattle.guest_model.specs.Calls.{Disk, is_named}
use Rattle.guest_model.specs.History.{History, is_dirty}
use Rattle.chain_model.specs.Members.{Way}
use Rattle.chain_model.specs.Moments.{EachOpens, EachOpensToPrefix, is_next, is_open}
use Rattle.layer_session.proofs.Equal.{false_true}
use Rattle.chain_core.specs.Sessions.{Session}
use Rattle.shared_chain.specs.declared.basis.Breach.{Breach}
use Rattle.shared_chain.specs.Faults.{fault_after}
use Rattle.shared_chain.specs.Notes.{full_after}
use Rattle.shared_chain.specs.Steps.{breach_of, broke_after, first_breach, open_by}
use Rattle.shared_chain.proofs.Refusals.{Early, IsPlaceRefusal, is_broken, is_misplaced, is_spent}

-- ---- what is open

open_names : (who : Caller) (call : Call) (z s : ℕ) → z ≡ 512 → open_by (Some (breach_of who call)) s ≡ false → is_named z call s ≡ false
open_names who (calls.Read first count) z s sector apart = refl
open_names who (calls.Write first bytes) z s sector apart = subst (λ n. (nat_le first s && nat_lt s (first + length bytes / n)) ≡ false) (sym sector) apart
open_names who (calls.Trim first count) z s sector apart = apart
open_names who calls.Flush z s sector apart = refl

-- of more sectors
pub wider : (leaf : Way) (p q : ℕ → Bool) (disk : Disk) (trace : Trace) → ((s : ℕ) → q s ≡ false → p s ≡ false) → EachOpens leaf p disk trace → EachOpens leaf q disk trace
wider leaf p q disk trace more opens image is =
    let o = opens image is in
    record { retired = o.retired; chain = o.chain; linked = o.linked; by = o.by; whole = o.whole; agrees = record { sectors = o.agrees.sectors; same = λ i apart. o.agrees.same i (more i apart) } }

next_wider : (z : ℕ) (h : History) (p q : ℕ → Bool) → ((s : ℕ) → q s ≡ false → p s ≡ false) → (s : ℕ) → is_next z h q s ≡ false → is_next z h p s ≡ false
next_wider z [] p q more s apart = more s apart
next_wider z (e ∷ h) p q more s apart = apart

open_wider : (z : ℕ) (h : History) (p q : ℕ → Bool) (m : ℕ) → ((s : ℕ) → q s ≡ false → p s ≡ false) → (s : ℕ) → is_open z h q m s ≡ false → is_open z h p m s ≡ false
open_wider z h p q m more s apart =
    let parts = or_parts (is_dirty z (take m h) s) (is_next z (drop m h) q s) apart in
    or_from (is_dirty z (take m h) s) (is_next z (drop m h) p s) parts.0 (next_wider z (drop m h) p q more s parts.1)

pub past_wider : (z : ℕ) (opening : Disk) (h : History) (p q : ℕ → Bool) (leaf : Way) (began now : Trace) → ((s : ℕ) → q s ≡ false → p s ≡ false) → EachOpensToPrefix z opening h p leaf began now
    → EachOpensToPrefix z opening h q leaf began now
past_wider z opening h p q leaf began now more past = record {
  later = past.later;
  since = past.since;
  each = λ k from to.
      let o = past.each k from to in
      record { m = o.m; within = o.within; opens = wider leaf (λ s. is_open z h p o.m s) (λ s. is_open z h q o.m s) _ _ (open_wider z h p q o.m more) o.opens };
}

-- the call that broke it is the one whose sectors are open
pub past_broken : (who : Caller) (call : Call) (z : ℕ) (opening : Disk) (h : History) (leaf : Way) (began now : Trace) → z ≡ 512 → EachOpensToPrefix z opening h (is_named z call) leaf began now
    → EachOpensToPrefix z opening h (open_by (Some (breach_of who call))) leaf began now
past_broken who call z opening h leaf began now sector past =
    past_wider z opening h (is_named z call) (open_by (Some (breach_of who call))) leaf began now (λ s apart. open_names who call z s sector apart) past

-- what is so at each moment is so at the last
last_moment : (P : Trace → Type 0) (old now : Trace) → EachMoment P old now → P now
last_moment P old now h = subst P (at_moment-now now) (h.each (moment now) h.later (omega arith))

pub last_broken : (who : Caller) (call : Call) (z : ℕ) (dirty : ℕ → Bool) (leaf : Way) (disk : Disk) (old now : Trace) → z ≡ 512 → EachMoment (EachOpens leaf (λ s. dirty s || is_named z call s) disk) old now
    → EachOpens leaf (λ s. dirty s || open_by (Some (breach_of who call)) s) disk now
last_broken who call z dirty leaf disk old now sector moments =
    wider leaf (λ s. dirty s || is_named z call s) (λ s. dirty s || open_by (Some (breach_of who call)) s) disk now
    (λ s apart. let parts = or_parts (dirty s) (open_by (Some (breach_of who call)) s) apart in or_from (dirty s) (is_named z call s) parts.0 (open_names who call z s sector parts.1))
    (last_moment (EachOpens leaf (λ s. dirty s || is_named z call s) disk) old now moments)

pub last_whole : (dirty : ℕ → Bool) (leaf : Way) (disk : Disk) (old now : Trace) → EachMoment (EachOpens leaf dirty disk) old now → EachOpens leaf (λ s. dirty s || open_by None s) disk now
last_whole dirty leaf disk old now moments =
    wider leaf dirty (λ s. dirty s || open_by None s) disk now (λ s apart. (or_parts (dirty s) false apart).0) (last_moment (EachOpens leaf dirty disk) old now moments)

-- ---- which call it was

pub none_broke : (broke : Option Breach) (broken : Option StoreFault) → is_some broke ≡ is_some broken → broken ≡ None → broke ≡ None
none_broke None broken same none = refl
none_broke (Some b) broken same none = absurd (false_true (sym (same ∙ ap (λ (o : Option StoreFault). is_some o) none)))

pub one_broke : (broke : Option Breach) (b : Breach) → is_some broke ≡ true → Some (first_breach broke b) ≡ broke
one_broke None b some = absurd (false_true some)
one_broke (Some earlier) b some = refl

-- a call that is refused before it reaches the files changes neither what broke the session nor the last fault, nor is it refused for want of room
pub early_same : (call : Call) (s : Session) (x : ChainRefusal) (full : Option ℕ) (broke : Option Breach) (fault : Option StoreFault) (b : Breach) → Early call s x → is_some broke ≡ is_some s.broken → ((f : StoreFault) → s.broken ≡ Some f → fault ≡ Some f)
    → (broke_after broke b (Err x) ≡ broke) × (fault_after fault (Err x) ≡ fault) × (full_after full (Err x) ≡ full)
early_same call s _ full broke fault b (is_spent many) same told = (refl, refl, refl)
early_same call s _ full broke fault b (is_broken f is) same told = (one_broke broke b (same ∙ ap (λ (o : Option StoreFault). is_some o) is), sym (told f is), refl)
early_same call s _ full broke fault b (is_misplaced x is kind) same told = at_place x kind
  where
    at_place : (x : ChainRefusal) → IsPlaceRefusal x → (broke_after broke b (Err x) ≡ broke) × (fault_after fault (Err x) ≡ fault) × (full_after full (Err x) ≡ full)
    at_place EmptyRange is = (refl, refl, refl)
    at_place (OutOfRange a c d) is = (refl, refl, refl)
    at_place (TooLong a c) is = (refl, refl, refl)
    at_place ReadOnly is = (refl, refl, refl)
    at_place (Broken file count) is = absurd is
    at_place (Spent t) is = absurd is
    at_place (FileFull next) is = absurd is
    at_place (ReadFault file count) is = absurd is
    at_place NoMerge is = absurd is
    at_place (Stale taken now) is = absurd is
    at_place (NotYet stripe) is = absurd is
    at_place (Abandoned file count) is = absurd is
    at_place (NoStripe stripe stripes) is = absurd is
    at_place NoPiece is = absurd is
    at_place NoRoom is = absurd is
