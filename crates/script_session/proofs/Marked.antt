-- The marks of a merge that is under way in layers, and what fetches, puts and calls make of them.
use Rattle.std.proofs.Common.{◌≡◌, ◌+◌, ◌∷◌, ◌==◌, ◌||◌, ◌&&◌, ◌<◌, not, ℕ, Bool, true, Option, Some, None, Ok, refl, ap, ap₂, subst, ◌∙◌}
use Rattle.std.specs.Prelude.{is_some, nat_le, nat_lt}
use Rattle.chain_core.proofs.TargetPuts.{still_none}
use Rattle.guest_model.specs.declared.call.Call.{Call}
use Rattle.guest_model.specs.History.{History}
use Rattle.chain_model.specs.Images.{Placed}
use Rattle.chain_model.specs.Merges.{marks_after, with_mark, with_marks}
use Rattle.chain_model.specs.Stripes.{stamp, stripe_count, touches}
use Rattle.merge_core.specs.Copied.{marks_of}
use Rattle.merge_core.specs.Stamping.{stamps_of}
use Rattle.merge_core.specs.declared.marks.Marks.{Marks}
use Rattle.chain_core.specs.Copying.{HasMarked, IsMarked, IsMarkedToo, IsTouched, MarksIn, MarksToo, MergeFollows, Touches, stamp_in, stamp_of}
use Rattle.chain_core.specs.Skipping.{HasPassed, MarksRun, MarksRunToo}
use Rattle.chain_core.specs.Sessions.{HasNoMerge, KeepsMerge, has_merge, kept_marks, marks_in}
use Rattle.chain_core.specs.States.{IsCourse, IsRetiring, Rest, merging, others_of, plain, retiring}
use Rattle.chain_core.specs.declared.layers.Layers.{Layers}
use Rattle.chain_core.specs.declared.layers.Retiring.{Retiring}
use Rattle.chain_core.specs.declared.layers.Underway.{Underway}
use Rattle.script_session.specs.Histories.{IsMarkedSo, below_marked, leaf_marked, marks_behind, stamp_behind, staying}
use Rattle.script_session.specs.Told.{sector_size}

-- what a marked merge keeps
pub record Marked (layers : Layers) (copied : ℕ → Bool) : Type 0 where
  pub marks : Marks
  pub is : kept_marks layers ≡ Some marks
  pub are : (t : ℕ) → marks_of marks t ≡ copied t
  pub there : has_merge layers ≡ true

pub marked_of : (l : Bool) (layers : Layers) (copied : ℕ → Bool) → IsMarkedSo layers copied l → Marked layers copied
marked_of _ layers copied (below_marked u is none are) = record { marks = u.marks; is = ap (λ o. marks_in o layers.retiring) is; are = are; there = ap (λ o. is_some o || is_some layers.retiring) is }
marked_of _ layers copied (leaf_marked r none is are) = record {
  marks = r.marks;
  is = ap₂ marks_in none is;
  are = are;
  there = ap₂ (λ (o : Option Underway) (t : Option Retiring). is_some o || is_some t) none is;
}

pub marked_as : (l : Bool) (layers : Layers) (a b : ℕ → Bool) → IsMarkedSo layers a l → ((t : ℕ) → a t ≡ b t) → IsMarkedSo layers b l
marked_as _ layers a b (below_marked u is none are) e = below_marked u is none (λ t. are t ∙ e t)
marked_as _ layers a b (leaf_marked r none is are) e = leaf_marked r none is (λ t. are t ∙ e t)

pub marked_kept : (l : Bool) (old new : Layers) (copied : ℕ → Bool) → KeepsMerge old new → IsMarkedSo old copied l → IsMarkedSo new copied l
marked_kept _ old new copied keeps (below_marked u is none are) = below_marked u (keeps.0 ∙ is) (keeps.1 ∙ none) are
marked_kept _ old new copied keeps (leaf_marked r none is are) = leaf_marked r (keeps.0 ∙ none) (keeps.1 ∙ is) are

-- ---- a put

record PutIn (stripe : ℕ) (u : Underway) (p : Option Underway) : Type 0 where
  w : Underway
  is : p ≡ Some w
  marked : IsMarked (with_mark stripe (marks_of u.marks)) u w

put_in : (stripe : ℕ) (u : Underway) (o p : Option Underway) → o ≡ Some u → MarksIn stripe o p → PutIn stripe u p
put_in stripe u o p is m = go p (subst (λ o. MarksIn stripe o p) is m)
  where
    go : (p : Option Underway) → MarksIn stripe (Some u) p → PutIn stripe u p
    go None m = absurd m
    go (Some w) m = record { w = w; is = refl; marked = m }

record PutToo (stripe : ℕ) (r : Retiring) (p : Option Retiring) : Type 0 where
  w : Retiring
  is : p ≡ Some w
  marked : IsMarkedToo (with_mark stripe (marks_of r.marks)) r w

put_too : (stripe : ℕ) (r : Retiring) (o p : Option Retiring) → o ≡ Some r → MarksToo stripe o p → PutToo stripe r p
put_too stripe r o p is m = go p (subst (λ o. MarksToo stripe o p) is m)
  where
    go : (p : Option Retiring) → MarksToo stripe (Some r) p → PutToo stripe r p
    go None m = absurd m
    go (Some w) m = record { w = w; is = refl; marked = m }

none_in : (stripe : ℕ) (o p : Option Underway) → o ≡ None → MarksIn stripe o p → p ≡ None
none_in stripe o p is m = go p (subst (λ o. MarksIn stripe o p) is m)
  where
    go : (p : Option Underway) → MarksIn stripe None p → p ≡ None
    go None m = refl
    go (Some w) m = absurd m

with_more : (stripe t : ℕ) (a b : ℕ → Bool) → a t ≡ b t → with_mark stripe a t ≡ with_mark stripe b t
with_more stripe t a b e = ap (λ b. (t == stripe) || b) e

pub marked_put : (l : Bool) (stripe : ℕ) (old new : Layers) (copied : ℕ → Bool) → HasMarked stripe old new (Ok tt) → IsMarkedSo old copied l → IsMarkedSo new (with_mark stripe copied) l
marked_put _ stripe old new copied marked (below_marked u is none are) =
    let p = put_in stripe u old.merge new.merge is marked.0 in
    below_marked p.w p.is (still_none stripe old.retiring new.retiring none marked.1) (λ t. p.marked.marks_are t ∙ with_more stripe t (marks_of u.marks) copied (are t))
marked_put _ stripe old new copied marked (leaf_marked r none is are) =
    let p = put_too stripe r old.retiring new.retiring is marked.1 in
    leaf_marked p.w (none_in stripe old.merge new.merge none marked.0) p.is (λ t. p.marked.marks_are t ∙ with_more stripe t (marks_of r.marks) copied (are t))

-- ---- a pass

run_in : (from n : ℕ) (u : Underway) (o p : Option Underway) → o ≡ Some u → MarksRun from n o p → (w : Underway) × ((p ≡ Some w) × IsMarked (with_marks from n (marks_of u.marks)) u w)
run_in from n u o p is m = go p (subst (λ o. MarksRun from n o p) is m)
  where
    go : (p : Option Underway) → MarksRun from n (Some u) p → (w : Underway) × ((p ≡ Some w) × IsMarked (with_marks from n (marks_of u.marks)) u w)
    go None m = absurd m
    go (Some w) m = (w, (refl, m))

run_too : (from n : ℕ) (r : Retiring) (o p : Option Retiring) → o ≡ Some r → MarksRunToo from n o p → (w : Retiring) × ((p ≡ Some w) × IsMarkedToo (with_marks from n (marks_of r.marks)) r w)
run_too from n r o p is m = go p (subst (λ o. MarksRunToo from n o p) is m)
  where
    go : (p : Option Retiring) → MarksRunToo from n (Some r) p → (w : Retiring) × ((p ≡ Some w) × IsMarkedToo (with_marks from n (marks_of r.marks)) r w)
    go None m = absurd m
    go (Some w) m = (w, (refl, m))

no_run_in : (from n : ℕ) (o p : Option Underway) → o ≡ None → MarksRun from n o p → p ≡ None
no_run_in from n o p is m = go p (subst (λ o. MarksRun from n o p) is m)
  where
    go : (p : Option Underway) → MarksRun from n None p → p ≡ None
    go None m = refl
    go (Some w) m = absurd m

pub no_run_too : (from n : ℕ) (o p : Option Retiring) → o ≡ None → MarksRunToo from n o p → p ≡ None
no_run_too from n o p is m = go p (subst (λ o. MarksRunToo from n o p) is m)
  where
    go : (p : Option Retiring) → MarksRunToo from n None p → p ≡ None
    go None m = refl
    go (Some w) m = absurd m

with_run : (from n t : ℕ) (a b : ℕ → Bool) → a t ≡ b t → with_marks from n a t ≡ with_marks from n b t
with_run from n t a b e = ap (λ x. (nat_le from t && nat_lt t (from + n)) || x) e

pub marked_passed : (l : Bool) (from n : ℕ) (old new : Layers) (copied : ℕ → Bool) → HasPassed from n old new → IsMarkedSo old copied l → IsMarkedSo new (with_marks from n copied) l
marked_passed _ from n old new copied passed (below_marked u is none are) =
    let p = run_in from n u old.merge new.merge is passed.0 in
    below_marked p.0 p.1.0 (no_run_too from n old.retiring new.retiring none passed.1) (λ t. p.1.1.marks_are t ∙ with_run from n t (marks_of u.marks) copied (are t))
marked_passed _ from n old new copied passed (leaf_marked r none is are) =
    let p = run_too from n r old.retiring new.retiring is passed.1 in
    leaf_marked p.0 (no_run_in from n old.merge new.merge none passed.0) p.1.0 (λ t. p.1.1.marks_are t ∙ with_run from n t (marks_of r.marks) copied (are t))

-- ---- a call

record CalledOn (z : ℕ) (call : Call) (place : ℕ) (r : Retiring) (p : Option Retiring) : Type 0 where
  w : Retiring
  is : p ≡ Some w
  touched : IsTouched z call place r w

called_on : (z : ℕ) (call : Call) (place : ℕ) (r : Retiring) (o p : Option Retiring) → o ≡ Some r → Touches z call place o p → CalledOn z call place r p
called_on z call place r o p is m = go p (subst (λ o. Touches z call place o p) is m)
  where
    go : (p : Option Retiring) → Touches z call place (Some r) p → CalledOn z call place r p
    go None m = absurd m
    go (Some w) m = record { w = w; is = refl; touched = m }

none_called : (z : ℕ) (call : Call) (place : ℕ) (o p : Option Retiring) → o ≡ None → Touches z call place o p → p ≡ None
none_called z call place o p is m = go p (subst (λ o. Touches z call place o p) is m)
  where
    go : (p : Option Retiring) → Touches z call place None p → p ≡ None
    go None m = refl
    go (Some w) m = absurd m

after_as : (z : ℕ) (call : Call) (a b : ℕ → Bool) (t : ℕ) → a t ≡ b t → marks_after z call a t ≡ marks_after z call b t
after_as z call a b t e = ap (λ b. b && not (touches z call t)) e

pub marked_called : (l : Bool) (call : Call) (place : ℕ) (old new : Layers) (copied : ℕ → Bool) → old.geometry.sector ≡ sector_size → MergeFollows call old new (Ok place) → IsMarkedSo old copied l → IsMarkedSo new (marks_behind l call copied) l
marked_called _ call place old new copied sector follows (below_marked u is none are) =
    below_marked u (follows.0 ∙ is) (none_called old.geometry.sector call place old.retiring new.retiring none follows.1) are
marked_called _ call place old new copied sector follows (leaf_marked r none is are) =
    let c = called_on old.geometry.sector call place r old.retiring new.retiring is follows.1 in
    leaf_marked c.w (follows.0 ∙ none) c.is (λ t. c.touched.marks_are t ∙ after_as old.geometry.sector call (marks_of r.marks) copied t (are t) ∙ ap (λ z. marks_after z call copied t) sector)

pub none_called_on : (call : Call) (place : ℕ) (old new : Layers) → MergeFollows call old new (Ok place) → HasNoMerge old → HasNoMerge new
none_called_on call place old new follows none = (follows.0 ∙ none.0, none_called old.geometry.sector call place old.retiring new.retiring none.1 follows.1)

pub none_kept : (old new : Layers) → KeepsMerge old new → HasNoMerge old → HasNoMerge new
none_kept old new keeps none = (keeps.0 ∙ none.0, keeps.1 ∙ none.1)

-- ---- the stamps of a session that serves

-- of a merge of the leaf the state has the same
leaving_of : (z : ℕ) (writes : ℕ → Bool) (h : History) (layers : Layers) (r : Retiring) (top : Placed) (rest : Rest) → IsRetiring z writes h layers (Some r) top rest → (t : ℕ) → t < stripe_count z top.member.ties.geometry.sectors → stamps_of r.stamps t ≡ stamp z h t
leaving_of z writes h layers r top (plain others) c = absurd c
leaving_of z writes h layers r top (merging above source target below m) c = absurd c
leaving_of z writes h layers r top (retiring target below first before) c = c.stamps

pub stamped : (l : Bool) (z : ℕ) (writes : ℕ → Bool) (h : History) (layers : Layers) (top : Placed) (rest : Rest) (copied : ℕ → Bool) → IsMarkedSo layers copied l → IsRetiring z writes h layers layers.retiring top rest → z ≡ sector_size
    → (t : ℕ) → t < stripe_count z top.member.ties.geometry.sectors → stamp_of layers t ≡ stamp_behind l h t
stamped _ z writes h layers top rest copied (below_marked u is none are) leaving sector t there = ap (λ o. stamp_in o t) none
stamped _ z writes h layers top rest copied (leaf_marked r none is are) leaving sector t there =
    ap (λ o. stamp_in o t) is ∙ leaving_of z writes h layers r top rest (subst (λ o. IsRetiring z writes h layers o top rest) is leaving) t there ∙ ap (λ n. stamp n h t) sector

-- with no merge under way the state has none
pub none_plain : (z : ℕ) (writes : ℕ → Bool) (h : History) (layers : Layers) (u : Option Underway) (r : Option Retiring) (top : Placed) (rest : Rest) → u ≡ None → r ≡ None → IsCourse z writes layers u top rest → IsRetiring z writes h layers r top rest → staying top rest ≡ top ∷ others_of rest
none_plain z writes h layers u r top (plain others) none alone course leaving = refl
none_plain z writes h layers u r top (merging above source target below m) none alone course leaving = absurd (subst (λ u. IsCourse z writes layers u top (merging above source target below m)) none course)
none_plain z writes h layers u r top (retiring target below first before) none alone course leaving = absurd (subst (λ r. IsRetiring z writes h layers r top (retiring target below first before)) alone leaving)
