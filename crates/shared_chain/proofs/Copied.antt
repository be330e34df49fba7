-- Behind a turn that was done the stripe has its mark.
use Rattle.std.proofs.Common.{◌≡◌, ◌||◌, ℕ, Bool, true, false, Option, Some, None, Result, Ok, Err, refl, sym, ap, subst, ◌∙◌}
use Rattle.std.specs.Prelude.{MatchOption, OnOk, if◌then◌else◌, is_some}
use Rattle.std.proofs.lemmas.Bool.{eq-eqb}
use Rattle.chain_model.specs.Merges.{with_mark}
use Rattle.guest_model.specs.declared.refusal.ChainRefusal.{ChainRefusal}
use Rattle.guest_model.specs.declared.refusal.ChainRefusal.TheVariants.{NoMerge}
use Rattle.merge_core.specs.Copied.{marks_of}
use Rattle.merge_core.specs.declared.marks.Marks.{Marks}
use Rattle.merge_core.specs.declared.piece.Piece.{Piece}
use Rattle.chain_core.specs.Copying.{HasMarked, IfStopped, MarksIn, MarksToo, no_merge, no_stripe, put_refused, stale, stamp_of, unfilled}
use Rattle.chain_core.specs.Refusing.{or_else, unfit}
use Rattle.chain_core.specs.Sessions.{Session, has_merge, marks_in}
use Rattle.chain_core.specs.declared.layers.Layers.{Layers}
use Rattle.chain_core.specs.declared.layers.Retiring.{Retiring}
use Rattle.chain_core.specs.declared.layers.Underway.{Underway}
use Rattle.layer_session.proofs.Equal.{none_some, ok_err}
use Rattle.script_session.specs.MergeSteps.{AnswersPut, AnswersTurn, IsUnchanged, fetched_and}
use Rattle.shared_chain.specs.Merging.{HasMark}

-- ---- of a merge that is under way

marked : (stripe : ℕ) (marks : ℕ → Bool) → with_mark stripe marks stripe ≡ true
marked stripe marks = ap (λ b. b || marks stripe) (eq-eqb stripe stripe refl)

marks_now : (stripe : ℕ) (u v : Option Underway) (r q : Option Retiring) → (is_some u || is_some r) ≡ true → MarksIn stripe u v → MarksToo stripe r q → MatchOption (marks_in v q) ⊥ (λ (m : Marks). marks_of m stripe ≡ true)
marks_now stripe None None None q some a b = let never : false ≡ true = some in cc
marks_now stripe None None (Some r) None some a b = absurd b
marks_now stripe None None (Some r) (Some q) some a b = b.marks_are stripe ∙ marked stripe (marks_of r.marks)
marks_now stripe None (Some v) r q some a b = absurd a
marks_now stripe (Some u) None r q some a b = absurd a
marks_now stripe (Some u) (Some v) r q some a b = a.marks_are stripe ∙ marked stripe (marks_of u.marks)

-- ---- what isn't refused

-- nothing of several causes refused
no_cause : (a b : Option ChainRefusal) → or_else a b ≡ None → (a ≡ None) × (b ≡ None)
no_cause None b h = (refl, h)
no_cause (Some x) b h = absurd (none_some (sym h))

merges : (layers : Layers) → no_merge layers ≡ None → has_merge layers ≡ true
merges layers h = go (has_merge layers) refl h
  where
    go : (b : Bool) → has_merge layers ≡ b → (if b then None else Some NoMerge) ≡ None → has_merge layers ≡ true
    go true is h = is
    go false is h = absurd (none_some (sym h))

put_marks : (piece : Piece) (old new : Session) → AnswersPut piece (Ok tt) old new → HasMark piece.stripe new.layers
put_marks piece old new a = go (put_refused piece old) refl
  where
    go : (o : Option ChainRefusal) → put_refused piece old ≡ o → HasMark piece.stripe new.layers
    go (Some e) is = absurd (ok_err (subst (λ o. IfStopped {T = Unit {0}} o (Ok tt) (IsUnchanged old new)) is a.early).0)
    go None is =
        let rest = no_cause (unfit old.events old.broken) (or_else (no_merge old.layers) (or_else (unfilled piece) (or_else (no_stripe piece.stripe old.layers) (stale piece.stamp (stamp_of old.layers piece.stripe))))) is in
        let merge = no_cause (no_merge old.layers) (or_else (unfilled piece) (or_else (no_stripe piece.stripe old.layers) (stale piece.stamp (stamp_of old.layers piece.stripe)))) rest.1 in
        let done : HasMarked piece.stripe old.layers new.layers (Ok tt) = (a.cause is).0 in
        marks_now piece.stripe old.layers.merge new.layers.merge old.layers.retiring new.layers.retiring (merges old.layers merge.0) done.0 done.1

turn_marks : (stripe : ℕ) (old new : Session) → AnswersTurn stripe (Ok tt) old new → HasMark stripe new.layers
turn_marks stripe old new (fetched_and answer stamp old' mid new' piece fetched put) = subst (λ s. HasMark s new.layers) fetched.taken.stripe_is (put_marks piece mid new put)

pub marks_if : {stripe : ℕ} {old new : Session} (answer : Result (Unit {0}) ChainRefusal) → AnswersTurn stripe answer old new → OnOk answer (HasMark stripe new.layers)
marks_if {stripe} {old} {new} (Ok done) turn = turn_marks stripe old new turn
marks_if {stripe} {old} {new} (Err x) turn = tt

pub put_marks_if : {piece : Piece} {old new : Session} (answer : Result (Unit {0}) ChainRefusal) → AnswersPut piece answer old new → OnOk answer (HasMark piece.stripe new.layers)
put_marks_if {piece} {old} {new} (Ok done) put = put_marks piece old new put
put_marks_if {piece} {old} {new} (Err x) put = tt
