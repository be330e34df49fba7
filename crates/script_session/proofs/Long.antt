-- Calls of more sectors than one may name: they are made with no sectors.
use Rattle.std.proofs.Common.{◌≡◌, ◌<◌, ◌^◌, ℕ, Bool, true, false, ◌==◌, Option, Some, None, Result, Err, refl, sym, ap, subst, arith}
use Rattle.std.specs.Prelude.{IfSome, IsErr, OnOk, if◌then◌else◌, nat_lt}
use Rattle.std.proofs.lemmas.Bool.{lt-ltb, ne_eqb}
use Rattle.store_model.specs.declared.fault.StoreFault.{StoreFault}
use Rattle.guest_model.specs.declared.call.Call.{Call}
use Rattle.guest_model.specs.declared.call.Caller.{Caller}
use Rattle.guest_model.specs.declared.refusal.ChainRefusal.{ChainRefusal}
use Rattle.guest_model.specs.declared.refusal.ChainRefusal.TheVariants.{EmptyRange, Spent, TooLong}
use Rattle.guest_model.specs.Ranges.{range_refusal}
use Rattle.chain_core.specs.Answering.{AnswersTold}
use Rattle.chain_core.specs.Refusing.{broken_by, or_else, unfit}
use Rattle.chain_core.specs.Copying.{MergeFollows}
use Rattle.chain_core.specs.Sessions.{KeepsMerge, Session}
use Rattle.chain_core.specs.declared.layers.Layers.{Layers}
use Rattle.script_session.specs.Answers.{too_long}

pub range_long : (first count sectors : ℕ) → 2048 < count → range_refusal first count 2048 sectors ≡ Err (TooLong count 2048)
range_long first count sectors h =
    let some : (count == 0) ≡ false = ne_eqb count 0 (λ e. omega (arith, h, e)) in
    let more : nat_lt 2048 count ≡ true = lt-ltb 2048 count h in
    rw (some, more) refl

pub never_none : (u : Option ChainRefusal) (e : ChainRefusal) → or_else u (Some e) ≡ None → ⊥
never_none None e h = cc
never_none (Some u) e h = cc

-- what the session is unfit by comes first, and stays
abbrev pub Refuses : Option ChainRefusal → Result ℕ ChainRefusal → Type 0 → Type 0
Refuses o answer P = IfSome o (λ e. (answer ≡ Err e) × P)

pub long_early : (count events : ℕ) (broken : Option StoreFault) (answer : Result ℕ ChainRefusal) (P : Type 0) → Refuses (or_else (unfit events broken) (Some EmptyRange)) answer P
    → Refuses (or_else (unfit events broken) (Some (TooLong count 2048))) (too_long count answer) P
long_early count events broken answer P = go (nat_lt events (2 ^ 63)) broken
  where
    go : (b : Bool) (broken : Option StoreFault) → Refuses (or_else (if b then broken_by broken else Some (Spent events)) (Some EmptyRange)) answer P
        → Refuses (or_else (if b then broken_by broken else Some (Spent events)) (Some (TooLong count 2048))) (too_long count answer) P
    go false broken h = (ap (too_long count) h.0, h.1)
    go true None h = (ap (too_long count) h.0, h.1)
    go true (Some fault) h = (ap (too_long count) h.0, h.1)

pub refused_err : (u : Option ChainRefusal) (e : ChainRefusal) (answer : Result ℕ ChainRefusal) (P : Type 0) → Refuses (or_else u (Some e)) answer P → IsErr answer
refused_err None e answer P h = rw h.0 refl
refused_err (Some u) e answer P h = rw h.0 refl

pub refused_no_ok : (u : Option ChainRefusal) (e : ChainRefusal) (answer : Result ℕ ChainRefusal) (P Q : Type 0) → Refuses (or_else u (Some e)) answer P → OnOk answer Q
refused_no_ok None e answer P Q h = rw h.0 tt
refused_no_ok (Some u) e answer P Q h = rw h.0 tt

-- of the merge
pub short_keeps : (u : Option ChainRefusal) (e : ChainRefusal) (answer : Result ℕ ChainRefusal) (P : Type 0) (call : Call) (old new : Layers) → Refuses (or_else u (Some e)) answer P → MergeFollows call old new answer → KeepsMerge old new
short_keeps None e answer P call old new h follows = subst (MergeFollows call old new) h.0 follows
short_keeps (Some u) e answer P call old new h follows = subst (MergeFollows call old new) h.0 follows

pub long_follows : (u : Option ChainRefusal) (e : ChainRefusal) (answer : Result ℕ ChainRefusal) (P : Type 0) (call : Call) (old new : Layers) → KeepsMerge old new → Refuses (or_else u (Some e)) answer P → MergeFollows call old new answer
long_follows None e answer P call old new keeps h = subst (MergeFollows call old new) (sym h.0) keeps
long_follows (Some u) e answer P call old new keeps h = subst (MergeFollows call old new) (sym h.0) keeps

-- where content is told
pub long_told : (count : ℕ) (who : Caller) (short long : Call) (old new : Session) (answer : Result ℕ ChainRefusal) (P : Type 0) → Refuses (or_else (unfit old.events old.broken) (Some EmptyRange)) answer P
    → AnswersTold who short old new answer → old.broken ≡ None → AnswersTold who long old new (too_long count answer)
long_told count who short long old new answer P h told whole =
    go (nat_lt old.events (2 ^ 63)) (subst (λ (b : Option StoreFault). Refuses (or_else (unfit old.events b) (Some EmptyRange)) answer P) whole h)
  where
    go : (b : Bool) → Refuses (or_else (if b then None else Some (Spent old.events)) (Some EmptyRange)) answer P → AnswersTold who long old new (too_long count answer)
    go false h = subst (λ a. AnswersTold who long old new (too_long count a)) (sym h.0) (subst (AnswersTold who short old new) h.0 told)
    go true h = subst (λ a. AnswersTold who long old new (too_long count a)) (sym h.0) (subst (AnswersTold who short old new) h.0 told)
