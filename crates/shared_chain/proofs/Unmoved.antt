-- Why a stripe of a merge isn't fetched, or what was fetched of it isn't put.
use Rattle.std.proofs.Common.{◌≡◌, ◌≢◌, ◌<◌, ◌≤◌, ◌^◌, ℕ, Bool, true, false, Option, Some, None, Result, Ok, Err, inl, refl, sym, ap, subst, ◌∙◌, ◌==◌, arith, ltb-false, ltb-true}
use Rattle.std.specs.Prelude.{IfErr, IfSome, if◌then◌else◌, nat_lt}
use Rattle.std.proofs.lemmas.Bool.{eqb-false}
use Rattle.store_model.specs.Disk.{Disk}
use Rattle.store_model.specs.declared.fault.StoreFault.{StoreFault}
use Rattle.ledger.specs.declared.ledger.Ledger.{Ledger}
use Rattle.guest_model.specs.declared.refusal.ChainRefusal.{ChainRefusal}
use Rattle.guest_model.specs.declared.refusal.ChainRefusal.TheVariants.{Abandoned, Broken, EmptyRange, FileFull, NoMerge, NoPiece, NoRoom, NoStripe, NotYet, OutOfRange, ReadFault, ReadOnly, Spent, Stale, TooLong}
use Rattle.guest_model.specs.History.{History}
use Rattle.chain_model.specs.Stripes.{stripe_count}
use Rattle.merge_core.specs.declared.marks.Marks.{Marks}
use Rattle.merge_core.specs.declared.piece.Piece.{Piece}
use Rattle.chain_core.specs.declared.chain.Chain.{Chain}
use Rattle.chain_core.specs.declared.layers.Layers.{Layers}
use Rattle.chain_core.specs.declared.layers.Retiring.{Retiring}
use Rattle.chain_core.specs.Copying.{FetchCause, IfStopped, PutCause, fetch_refused, no_merge, no_stripe, past_stripes, put_refused, stale, stamp_of}
use Rattle.chain_core.specs.Refusing.{broken_by, or_else, unfit}
use Rattle.chain_core.specs.Sessions.{HasNoMerge, IsRetiringOf, Session, has_merge}
use Rattle.layer_session.proofs.Equal.{none_some, ok_err, some_none, some_same}
use Rattle.script_session.specs.MergeSteps.{AnswersFetch, AnswersPut, IsUnchanged}
use Rattle.script_session.specs.StepsLeft.{unstamped}
use Rattle.script_session.proofs.Moving.{parts_none}
use Rattle.shared_chain.specs.declared.basis.Breach.{Breach}
use Rattle.shared_chain.specs.declared.basis.Note.{Note}
use Rattle.shared_chain.specs.declared.basis.Note.TheVariants as notes
use Rattle.shared_chain.specs.Bases.{notes_in, notes_of}
use Rattle.shared_chain.specs.Faults.{fault_after}
use Rattle.shared_chain.specs.Homes.{IsHome, session_of}
use Rattle.shared_chain.specs.Merging.{StopsFetch, StopsPut, as_answer}
use Rattle.shared_chain.specs.Notes.{HasNote, NotesBy, full_after, noted_in}
use Rattle.shared_chain.specs.Shared.{Shared}
use Rattle.shared_chain.specs.Stamped.{stamp_behind}
use Rattle.shared_chain.specs.Steps.{broke_after, merge_breach}
use Rattle.shared_chain.proofs.Causing.{at_end, noted_reads}
use Rattle.shared_chain.proofs.Noting.{IsChange, noted}
use Rattle.shared_chain.proofs.Stamped.{stamp_now}
use Rattle.shared_chain.proofs.Stepping.{LookEnds, look_failed, look_stopped, same_err, same_unchanged}
use Rattle.shared_chain.proofs.Merged.{Carries, has_none, stripe_has, whole_by}

-- what stops a fetch of a stripe, by the session before it and behind it
pub data FetchEnds (stripe : ℕ) (old new : Session) : ChainRefusal → Type 0 where
  fetch_spent : (t : ℕ) → 2 ^ 63 ≤ t → t ≤ new.events → FetchEnds stripe old new (Spent t)
  fetch_broken : (file count : ℕ) → FetchEnds stripe old new (Broken file count)
  fetch_fault : (file count : ℕ) → FetchEnds stripe old new (ReadFault file count)
  fetch_none : HasNoMerge new.layers → FetchEnds stripe old new NoMerge
  fetch_past : (s n : ℕ) → s ≡ stripe → n ≤ stripe → n ≡ stripe_count new.layers.geometry.sector new.layers.geometry.sectors → FetchEnds stripe old new (NoStripe s n)

-- and a put of what was fetched of it
pub data PutEnds (piece : Piece) (old new : Session) : ChainRefusal → Type 0 where
  as_fetch : (x : ChainRefusal) → FetchEnds piece.stripe old new x → PutEnds piece old new x
  put_full : (next : ℕ) → PutEnds piece old new (FileFull next)
  put_stale : old.broken ≡ None → no_stripe piece.stripe old.layers ≡ None → piece.stamp ≢ stamp_of old.layers piece.stripe → PutEnds piece old new (Stale piece.stamp (stamp_of old.layers piece.stripe))

no_merge_is : (layers : Layers) → has_merge layers ≡ false → HasNoMerge layers
no_merge_is layers is = has_none layers (ap (λ b. if b then None else Some NoMerge) is)

fetch_early : (stripe : ℕ) (old new : Session) (e : ChainRefusal) → IsUnchanged old new → old.events ≤ new.events → fetch_refused stripe old ≡ Some e → FetchEnds stripe old new e
fetch_early stripe old new e same grown is = go (nat_lt old.events (2 ^ 63)) refl old.broken (has_merge old.layers) refl (nat_lt stripe (stripe_count old.layers.geometry.sector old.layers.geometry.sectors)) refl is
  where
    layers_are : new.layers ≡ old.layers
    layers_are = ap (λ (s : Session). s.layers) same

    go : (few : Bool) → nat_lt old.events (2 ^ 63) ≡ few → (broken : Option StoreFault) → (merge : Bool) → has_merge old.layers ≡ merge → (below : Bool) → nat_lt stripe (stripe_count old.layers.geometry.sector old.layers.geometry.sectors) ≡ below
        → or_else (if few then broken_by broken else Some (Spent old.events)) (if merge then (if below then None else Some (NoStripe stripe (stripe_count old.layers.geometry.sector old.layers.geometry.sectors))) else Some NoMerge) ≡ Some e → FetchEnds stripe old new e
    go false few broken merge m below b is = subst (FetchEnds stripe old new) (some_same {x = Spent old.events} {y = e} is) (fetch_spent old.events (let high = ltb-false old.events (2 ^ 63) few in omega (arith, high)) grown)
    go true few (Some f) merge m below b is = subst (FetchEnds stripe old new) (some_same {x = Broken f.file f.count} {y = e} is) (fetch_broken f.file f.count)
    go true few None false m below b is = subst (FetchEnds stripe old new) (some_same {x = NoMerge} {y = e} is) (fetch_none (subst HasNoMerge (sym layers_are) (no_merge_is old.layers m)))
    go true few None true m true b is = absurd (none_some is)
    go true few None true m false b is =
        let n = stripe_count old.layers.geometry.sector old.layers.geometry.sectors in
        subst (FetchEnds stripe old new) (some_same {x = NoStripe stripe n} {y = e} is)
        (fetch_past stripe n refl (let high = ltb-false stripe n b in omega (arith, high)) (ap (λ (l : Layers). stripe_count l.geometry.sector l.geometry.sectors) (sym layers_are)))

read_ends : (stripe : ℕ) (piece : Piece) (old new : Session) (x : ChainRefusal) → FetchCause old new piece (Err x) → FetchEnds stripe old new x
read_ends stripe piece old new EmptyRange c = absurd c
read_ends stripe piece old new (OutOfRange first count sectors) c = absurd c
read_ends stripe piece old new (TooLong count limit) c = absurd c
read_ends stripe piece old new ReadOnly c = absurd c
read_ends stripe piece old new (Broken file count) c = absurd c
read_ends stripe piece old new (Spent t) c = absurd c
read_ends stripe piece old new (FileFull next) c = absurd c
read_ends stripe piece old new (ReadFault file count) c = fetch_fault file count
read_ends stripe piece old new NoMerge c = absurd c
read_ends stripe piece old new (Stale taken at) c = absurd c
read_ends stripe piece old new (NotYet s) c = absurd c
read_ends stripe piece old new (Abandoned file count) c = absurd c
read_ends stripe piece old new (NoStripe s stripes) c = absurd c
read_ends stripe piece old new NoPiece c = absurd c
read_ends stripe piece old new NoRoom c = absurd c

fetch_stopped : (stripe : ℕ) (old new : Session) (left : Piece) (e : ChainRefusal) → AnswersFetch stripe (Err e) old new left → FetchEnds stripe old new e
fetch_stopped stripe old new left e h = go (fetch_refused stripe old) refl
  where
    go : (o : Option ChainRefusal) → fetch_refused stripe old ≡ o → FetchEnds stripe old new e
    go (Some f) first =
        let early = subst (λ o. IfStopped {T = ℕ} o (Err e) (IsUnchanged old new)) first h.early in
        subst (FetchEnds stripe old new) (sym (same_err {T = ℕ} e f early.0)) (fetch_early stripe old new f early.1 h.later first)
    go None fit = read_ends stripe left old new e (h.cause fit)

pub fetch_refuses : (stripe : ℕ) (answer : Result ℕ ChainRefusal) (x : ChainRefusal) (old new : Session) (left : Piece) → unstamped answer ≡ Err x → AnswersFetch stripe answer old new left → FetchEnds stripe old new x
fetch_refuses stripe (Ok stamp) x old new left is h = absurd (ok_err is)
fetch_refuses stripe (Err e) x old new left is h = subst (FetchEnds stripe old new) (same_err {T = Unit {0}} e x is) (fetch_stopped stripe old new left e h)

-- a look at what can be passed over is refused as a fetch is
look_stops : (stripe : ℕ) (x : ChainRefusal) (old new : Session) → new.events ≡ old.events → LookEnds stripe old new x → FetchEnds stripe old new x
look_stops stripe _ old new events (look_stopped x same is) = fetch_early stripe old new x (same_unchanged old new same) (omega (arith, events)) is
look_stops stripe _ old new events (look_failed file count fit failed still) = fetch_fault file count

pub look_refuses : (stripe : ℕ) (answer : Result ℕ ChainRefusal) (x : ChainRefusal) (old new : Session) → unstamped answer ≡ Err x → new.events ≡ old.events → IfErr answer (LookEnds stripe old new) → FetchEnds stripe old new x
look_refuses stripe (Ok n) x old new is events ends = absurd (ok_err is)
look_refuses stripe (Err e) x old new is events ends = subst (FetchEnds stripe old new) (same_err {T = Unit {0}} e x is) (look_stops stripe e old new events ends)

-- what refuses a put of a piece is what refuses a fetch of its stripe, or that it is stale
put_as_fetch : (piece : Piece) (s : Session) → piece.filled ≡ true → put_refused piece s ≡ or_else (fetch_refused piece.stripe s) (stale piece.stamp (stamp_of s.layers piece.stripe))
put_as_fetch piece s filled =
    ap (λ b. or_else (unfit s.events s.broken) (or_else (no_merge s.layers) (or_else (if b then None else Some NoPiece) (or_else (no_stripe piece.stripe s.layers) last)))) filled
    ∙ ap (or_else (unfit s.events s.broken)) (twice (has_merge s.layers)) ∙ grouped (unfit s.events s.broken) (no_stripe piece.stripe s.layers) last
  where
    last : Option ChainRefusal
    last = stale piece.stamp (stamp_of s.layers piece.stripe)

    past : Option ChainRefusal
    past = past_stripes piece.stripe (stripe_count s.layers.geometry.sector s.layers.geometry.sectors)

    twice : (b : Bool) → or_else (if b then None else Some NoMerge) (or_else (if b then past else Some NoMerge) last) ≡ or_else (if b then past else Some NoMerge) last
    twice true = refl
    twice false = refl

    grouped : (a b c : Option ChainRefusal) → or_else a (or_else b c) ≡ or_else (or_else a b) c
    grouped None b c = refl
    grouped (Some x) b c = refl

put_early : (piece : Piece) (old new : Session) (e : ChainRefusal) → piece.filled ≡ true → IsUnchanged old new → old.events ≤ new.events → put_refused piece old ≡ Some e → PutEnds piece old new e
put_early piece old new e filled same grown is = go (fetch_refused piece.stripe old) refl (sym (put_as_fetch piece old filled) ∙ is)
  where
    by_stamp : fetch_refused piece.stripe old ≡ None → (b : Bool) → (piece.stamp == stamp_of old.layers piece.stripe) ≡ b → (if b then None else Some (Stale piece.stamp (stamp_of old.layers piece.stripe))) ≡ Some e → PutEnds piece old new e
    by_stamp fit true s is = absurd (none_some is)
    by_stamp fit false s is =
        let parts = parts_none (unfit old.events old.broken) (no_stripe piece.stripe old.layers) fit in
        subst (PutEnds piece old new) (some_same {x = Stale piece.stamp (stamp_of old.layers piece.stripe)} {y = e} is)
        (put_stale (whole_by old.events old.broken parts.0) parts.1 (eqb-false piece.stamp (stamp_of old.layers piece.stripe) s))

    go : (o : Option ChainRefusal) → fetch_refused piece.stripe old ≡ o → or_else o (stale piece.stamp (stamp_of old.layers piece.stripe)) ≡ Some e → PutEnds piece old new e
    go (Some f) first now = as_fetch e (fetch_early piece.stripe old new e same grown (first ∙ now))
    go None fit now = by_stamp fit (piece.stamp == stamp_of old.layers piece.stripe) refl now

put_outcomes : (piece : Piece) (old new : Session) (x : ChainRefusal) → PutCause piece old new (Err x) → PutEnds piece old new x
put_outcomes piece old new EmptyRange c = absurd c
put_outcomes piece old new (OutOfRange first count sectors) c = absurd c
put_outcomes piece old new (TooLong count limit) c = absurd c
put_outcomes piece old new ReadOnly c = absurd c
put_outcomes piece old new (Broken file count) c = as_fetch (Broken file count) (fetch_broken file count)
put_outcomes piece old new (Spent t) c = absurd c
put_outcomes piece old new (FileFull next) c = put_full next
put_outcomes piece old new (ReadFault file count) c = as_fetch (ReadFault file count) (fetch_fault file count)
put_outcomes piece old new NoMerge c = absurd c
put_outcomes piece old new (Stale taken at) c = absurd c
put_outcomes piece old new (NotYet s) c = absurd c
put_outcomes piece old new (Abandoned file count) c = absurd c
put_outcomes piece old new (NoStripe s stripes) c = absurd c
put_outcomes piece old new NoPiece c = absurd c
put_outcomes piece old new NoRoom c = absurd c

pub put_refuses : (piece : Piece) (answer : Result (Unit {0}) ChainRefusal) (x : ChainRefusal) (old new : Session) → piece.filled ≡ true → answer ≡ Err x → AnswersPut piece answer old new → PutEnds piece old new x
put_refuses piece answer x old new filled is p = go (put_refused piece old) refl
  where
    go : (o : Option ChainRefusal) → put_refused piece old ≡ o → PutEnds piece old new x
    go (Some e) first =
        let early = subst (λ o. IfStopped {T = Unit {0}} o answer (IsUnchanged old new)) first p.early in
        subst (PutEnds piece old new) (sym (same_err {T = Unit {0}} x e (sym is ∙ early.0))) (put_early piece old new e filled early.1 p.later first)
    go None fit = put_outcomes piece old new x (subst (PutCause piece old new) is (p.cause fit))

-- ---- in a shared chain

-- the stamp that a stripe has now is that of the history
pub stamp_at_home : (first now : Session) (h : History) (full : Option ℕ) (broke : Option Breach) (fault : Option StoreFault) → IsHome first now h full broke fault → (stripe : ℕ) → now.broken ≡ None → no_stripe stripe now.layers ≡ None
    → stamp_of now.layers stripe ≡ stamp_behind first.layers.retiring h stripe
stamp_at_home first now h full broke fault home stripe whole there = stamp_now first.layers now.layers h stripe home.stamps has below
  where
    has : has_merge now.layers ≡ true
    has = stripe_has stripe now.layers there

    within : (b : Bool) → nat_lt stripe (stripe_count now.layers.geometry.sector now.layers.geometry.sectors) ≡ b → (if b then None else Some (NoStripe stripe (stripe_count now.layers.geometry.sector now.layers.geometry.sectors))) ≡ None
        → stripe < stripe_count now.layers.geometry.sector now.layers.geometry.sectors
    within true less is = ltb-true stripe (stripe_count now.layers.geometry.sector now.layers.geometry.sectors) less
    within false less is = absurd (some_none is)

    low : stripe < stripe_count now.layers.geometry.sector now.layers.geometry.sectors
    low = within (nat_lt stripe (stripe_count now.layers.geometry.sector now.layers.geometry.sectors)) refl (sym (ap (λ b. if b then past_stripes stripe (stripe_count now.layers.geometry.sector now.layers.geometry.sectors) else Some NoMerge) has) ∙ there)

    below : (r : Retiring) → now.layers.retiring ≡ Some r → stripe < r.marks.stripes
    below r is =
        let leaving : IsRetiringOf now.layers.geometry now.layers.leaf now.layers.below.items r = subst (λ o. IfSome o (IsRetiringOf now.layers.geometry now.layers.leaf now.layers.below.items)) is (home.sound.ready whole).retiring in
        subst (λ n. stripe < n) (sym leaving.stripes) low

module _ {S T : Type 0} (disk : S → Disk) (old new first : Chain S Ledger T) (answer : Result (Unit {0}) ChainRefusal) (full full' : Option ℕ) (broke broke' : Option Breach) (fault fault' : Option StoreFault) (copied copied' : Marks) (finished finished' : Bool)
    (full_is : full' ≡ full_after full (as_answer answer)) (broke_is : broke' ≡ broke_after broke merge_breach (as_answer answer)) (fault_is : fault' ≡ fault_after fault (as_answer answer)) (c : Carries old.recorder (session_of disk first) (session_of disk old) (session_of disk new) answer) where
  abbrev earlier : Shared (Chain S Ledger T)
  earlier = record { chain = old; first = first; full = full; broke = broke; fault = fault; copied = copied; finished = finished }

  abbrev later : Shared (Chain S Ledger T)
  later = record { chain = new; first = first; full = full'; broke = broke'; fault = fault'; copied = copied'; finished = finished' }

  notes_now : NotesBy (as_answer answer) (notes_of disk earlier) (notes_of disk later)
  notes_now =
      subst (λ f. NotesBy (as_answer answer) (notes_of disk earlier) (notes_in (disk new.store) new.broken f)) (sym full_is)
      (noted (disk old.store) (disk new.store) old.broken new.broken full (as_answer answer) c.change)

  has_noted : (x : ChainRefusal) (n : Note) → answer ≡ Err x → HasNote (noted_in (Err x)) n → HasNote (notes_of disk later) n
  has_noted x n is h = (notes_now n).1 (inl (subst (λ r. HasNote (noted_in (as_answer r)) n) (sym is) h))

  stops_fetch : (stripe : ℕ) (x : ChainRefusal) → answer ≡ Err x → FetchEnds stripe (session_of disk old) (session_of disk new) x → StopsFetch disk stripe earlier later x
  stops_fetch stripe _ is (fetch_spent t high low) = (high, low)
  stops_fetch stripe _ is (fetch_broken file count) = has_noted (Broken file count) (notes.ChangeFailed file count) is (inl (refl, refl))
  stops_fetch stripe _ is (fetch_fault file count) =
      let change = subst (λ r. IsChange (as_answer r) (disk old.store) (disk new.store) old.broken new.broken) is c.change in (
        has_noted (ReadFault file count) (notes.ReadFailed file count) is (inl (refl, omega arith)),
        λ was. at_end ((disk old.store).failed_reads file) ((disk new.store).failed_reads file) count change.2.rose change.2.told (noted_reads (disk old.store) old.broken full file count was),
      )
  stops_fetch stripe _ is (fetch_none none) = none
  stops_fetch stripe _ is (fetch_past s n same past count) = (same, past, count)

  fetch_too : (piece : Piece) (x : ChainRefusal) → FetchEnds piece.stripe (session_of disk old) (session_of disk new) x → StopsFetch disk piece.stripe earlier later x → StopsPut disk piece earlier later x
  fetch_too piece _ (fetch_spent t high low) h = h
  fetch_too piece _ (fetch_broken file count) h = h
  fetch_too piece _ (fetch_fault file count) h = h
  fetch_too piece _ (fetch_none none) h = h
  fetch_too piece _ (fetch_past s n same past count) h = h

  module _ (home : IsHome (session_of disk first) (session_of disk old) old.recorder full broke fault) where
    stops_put : (piece : Piece) (x : ChainRefusal) → answer ≡ Err x → PutEnds piece (session_of disk old) (session_of disk new) x → StopsPut disk piece earlier later x
    stops_put piece x is (as_fetch _ by) = fetch_too piece x by (stops_fetch piece.stripe x is by)
    stops_put piece _ is (put_full next) = has_noted (FileFull next) (notes.Full next) is (inl (omega arith))
    stops_put piece _ is (put_stale whole within other) = (
      refl,
      stamp_at_home (session_of disk first) (session_of disk old) old.recorder full broke fault home piece.stripe whole within ∙ ap (λ h. stamp_behind first.layers.retiring h piece.stripe) (sym (some_same {x = new.recorder} {y = old.recorder} c.keeps.told)),
      other,
    )

    pub put_stopped_as : (piece : Piece) → ((x : ChainRefusal) → answer ≡ Err x → PutEnds piece (session_of disk old) (session_of disk new) x) → (seen : Shared (Chain S Ledger T)) → earlier ≡ seen → IfErr answer (StopsPut disk piece seen later)
    put_stopped_as piece stops seen seen_is = subst (λ s. IfErr answer (StopsPut disk piece s later)) seen_is (go answer refl)
      where
        go : (r : Result (Unit {0}) ChainRefusal) → answer ≡ r → IfErr r (StopsPut disk piece earlier later)
        go (Ok done) is = tt
        go (Err x) is = stops_put piece x is (stops x is)

  pub fetch_stopped_as : (stripe : ℕ) → ((x : ChainRefusal) → answer ≡ Err x → FetchEnds stripe (session_of disk old) (session_of disk new) x) → (seen : Shared (Chain S Ledger T)) → earlier ≡ seen → IfErr answer (StopsFetch disk stripe seen later)
  fetch_stopped_as stripe stops seen seen_is = subst (λ s. IfErr answer (StopsFetch disk stripe s later)) seen_is (go answer refl)
    where
      go : (r : Result (Unit {0}) ChainRefusal) → answer ≡ r → IfErr r (StopsFetch disk stripe earlier later)
      go (Ok done) is = tt
      go (Err x) is = stops_fetch stripe x is (stops x is)
