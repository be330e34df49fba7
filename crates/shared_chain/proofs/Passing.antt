-- Stripes of a merge are passed over, in a shared chain.
use Rattle.std.proofs.Common.{◌≡◌, ◌+◌, ◌≤◌, ◌^◌, ℕ, Option, Some, None, Result, Ok, Err, sym, ap, subst}
use Rattle.std.specs.Prelude.{⊤, IfErr, IfOk, OnErr, is_some, length}
use Rattle.store_model.specs.Disk.{Disk}
use Rattle.ledger.specs.declared.ledger.Ledger.{Ledger}
use Rattle.guest_model.specs.declared.refusal.ChainRefusal.{ChainRefusal}
use Rattle.chain_core.specs.Copying.{IfStopped, fetch_refused}
use Rattle.chain_core.specs.Sessions.{IsSound, KeepsMerge, Session}
use Rattle.chain_core.specs.Skipping.{PassesSource, SkipCause, SkipTold}
use Rattle.chain_core.specs.declared.chain.Chain.{Chain}
use Rattle.script_session.specs.MergeSteps.{AnswersSkip, KeepsHistory}
use Rattle.script_session.specs.StepsLeft.{unstamped}
use Rattle.script_session.proofs.Moving.{ok_reached, skip_answers}
use Rattle.shared_chain.specs.Homes.{session_of}
use Rattle.shared_chain.specs.Merging.{PassesOver}
use Rattle.shared_chain.proofs.Stepping.{LookEnds, StepOf, look_ends, passing_step}

-- So many stripes were passed over, as the source's entries tell; or the look was refused. Either is a step of a merge.
pub record LooksAt (stripe : ℕ) (answer : Result ℕ ChainRefusal) (old new : Session) : Type 0 where
  pub events : new.events ≡ old.events
  pub passed : IfOk answer (λ n. AnswersSkip stripe n old new)
  pub absent : IfOk answer (λ n. PassesSource stripe n old.layers old.disk)
  pub stopped : IfErr answer (LookEnds stripe old new)
  pub step : StepOf (λ v. ⊤) old new (unstamped answer)

module _ {S T : Type 0} (disk : S → Disk) (old new : Chain S Ledger T) (stripe : ℕ) where
  abbrev was : Session
  was = session_of disk old

  abbrev now : Session
  now = session_of disk new

  finds : (answer : Result ℕ ChainRefusal) → IfStopped (fetch_refused stripe was) answer (new ≡ old) → (fetch_refused stripe was ≡ None → SkipCause stripe was now answer) → IfOk answer (λ n. PassesSource stripe n old.layers (disk old.store))
  finds (Ok n) early cause = (cause (ok_reached _ (fetch_refused stripe was) n early)).1
  finds (Err x) early cause = tt

  refuses : (answer : Result ℕ ChainRefusal) → IfStopped (fetch_refused stripe was) answer (new ≡ old) → (fetch_refused stripe was ≡ None → SkipCause stripe was now answer) → IfErr answer (LookEnds stripe was now)
  refuses (Ok n) early cause = tt
  refuses (Err x) early cause = look_ends stripe x was now (same_too (fetch_refused stripe was) early) cause
    where
      same_too : (o : Option ChainRefusal) → IfStopped {T = ℕ} o (Err x) (new ≡ old) → IfStopped {T = ℕ} o (Err x) (now ≡ was)
      same_too None h = tt
      same_too (Some e) h = (h.0, ap (session_of disk) h.1)

  looks_at : (answer : Result ℕ ChainRefusal) → IsSound was → IfStopped (fetch_refused stripe was) answer (new ≡ old) → (fetch_refused stripe was ≡ None → SkipCause stripe was now answer) → IfOk answer (λ n. stripe + n ≤ 2 ^ 26)
      → OnErr answer (KeepsMerge old.layers new.layers) → SkipTold stripe was now answer → new.events ≡ old.events → new.layers.geometry ≡ old.layers.geometry → is_some new.layers.leaf ≡ is_some old.layers.leaf → new.recorder ≡ old.recorder → LooksAt stripe answer was now
  looks_at answer sound early cause few marks tells events geometry session history =
      let keeps : KeepsHistory was now = record { noted = ap length history; told = ap (λ h. Some h) history; geometry = geometry; session = session } in
      let passed = skip_answers disk (λ h. length h) (λ h. Some h) old new stripe answer sound early cause few tells events geometry session history in
      let stopped = refuses answer early cause in
      record { events = events; passed = passed; absent = finds answer early cause; stopped = stopped; step = passing_step stripe answer was now passed stopped keeps events marks tells }

  pub passes_over : (answer : Result ℕ ChainRefusal) → LooksAt stripe answer was now → IfOk answer (λ n. PassesOver disk stripe n old new)
  passes_over (Ok n) h = record { absent = h.absent; there = h.passed.there; marked = h.passed.passed; store = h.passed.disk }
  passes_over (Err x) h = tt

-- so it is of a chain that was lent
pub looks_lent : {S T : Type 0} (disk : S → Disk) (old lent new : Chain S Ledger T) (stripe : ℕ) (answer : Result ℕ ChainRefusal) → lent ≡ old → IsSound (session_of disk old) → IfStopped (fetch_refused stripe (session_of disk lent)) answer (new ≡ lent)
    → (fetch_refused stripe (session_of disk lent) ≡ None → SkipCause stripe (session_of disk lent) (session_of disk new) answer) → IfOk answer (λ n. stripe + n ≤ 2 ^ 26) → OnErr answer (KeepsMerge lent.layers new.layers)
    → SkipTold stripe (session_of disk lent) (session_of disk new) answer → new.events ≡ lent.events → new.layers.geometry ≡ lent.layers.geometry → is_some new.layers.leaf ≡ is_some lent.layers.leaf → new.recorder ≡ lent.recorder → LooksAt stripe answer (session_of disk old) (session_of disk new)
looks_lent disk old lent new stripe answer is sound early cause few marks tells events geometry session history =
    subst (λ o. LooksAt stripe answer (session_of disk o) (session_of disk new)) is
    (looks_at disk lent new stripe answer (subst (λ o. IsSound (session_of disk o)) (sym is) sound) early cause few marks tells events geometry session history)

-- what is so of a refusal is so of it without the number
pub err_too : (P : ChainRefusal → Type 0) (answer : Result ℕ ChainRefusal) → IfErr (unstamped answer) P → IfErr answer P
err_too P (Ok n) h = tt
err_too P (Err x) h = h
