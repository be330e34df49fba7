-- What a call of a merge says: where it is refused before the files are reached, by the first of two causes or by the second, and once its
-- file's layer has answered.
use Rattle.std.proofs.Common.{◌≡◌, sym, ap, subst, ◌∙◌}
use Rattle.std.specs.Prelude.{Option, Some, None, Result, Ok, Err, IfNone, IfSome, IsErrAnd}
use Rattle.store_model.specs.Disk.{Disk}
use Rattle.store_model.specs.declared.fault.StoreFault.{StoreFault}
use Rattle.guest_model.specs.declared.refusal.ChainRefusal.{ChainRefusal}
use Rattle.layer_session.specs.declared.file.LayerFault.{LayerFault}
use Rattle.layer_session.specs.declared.file.LayerFault.TheVariants as layer
use Rattle.merge_core.specs.declared.marks.Marks.{Marks}
use Rattle.merge_core.specs.declared.piece.Piece.{Piece}
use Rattle.chain_core.specs.Answering.{as_change, breaks}
use Rattle.chain_core.specs.Copying.{IfStopped, PutCause, PutsInTarget, refused_by}
use Rattle.chain_core.specs.Finished.{FinishCause, Finishes, IsAllCopied, IsAllMarked, IsJudged}
use Rattle.chain_core.specs.Refusing.{or_else}
use Rattle.chain_core.specs.Sessions.{Session, marks_in}
use Rattle.chain_core.specs.declared.layers.Retiring.{Retiring}
use Rattle.chain_core.specs.declared.layers.Layers.{Layers}
use Rattle.layer_session.proofs.Equal.{some_none}

module _ (cause later : Option ChainRefusal) (x : ChainRefusal) where
  pub stopped_first : {T : Type 0} (result : Result T ChainRefusal) (P : Type 0) → cause ≡ Some x → IsErrAnd result (λ e. e ≡ x) → P → IfStopped (or_else cause later) result P
  stopped_first {T = T} (Ok a) P is same p = absurd same
  stopped_first {T = T} (Err e) P is same p = subst (λ (o : Option ChainRefusal). IfStopped {T = T} (or_else o later) (Err e) P) (sym is) (ap Err same, p)

  pub stopped_second : {T : Type 0} (result : Result T ChainRefusal) (P : Type 0) → cause ≡ None → later ≡ Some x → IsErrAnd result (λ e. e ≡ x) → P → IfStopped (or_else cause later) result P
  stopped_second {T = T} (Ok a) P none is same p = absurd same
  stopped_second {T = T} (Err e) P none is same p =
      subst (λ (o : Option ChainRefusal). IfStopped {T = T} (or_else o later) (Err e) P) (sym none)
      (subst (λ (o : Option ChainRefusal). IfStopped {T = T} o (Err e) P) (sym is) (ap Err same, p))

  -- what is refused isn't what isn't
  pub never_first : cause ≡ Some x → or_else cause later ≡ None → ⊥
  never_first is fit = (let never : ◌≡◌ {A = Option ChainRefusal} (Some x) None = sym (ap (λ o. or_else o later) is) ∙ fit in absurd (some_none never))

  pub never_second : cause ≡ None → later ≡ Some x → or_else cause later ≡ None → ⊥
  never_second none is fit = (let never : ◌≡◌ {A = Option ChainRefusal} (Some x) None = sym is ∙ sym (ap (λ o. or_else o later) none) ∙ fit in absurd (some_none never))

-- ---- once the file's layer has answered

pub not_stopped : {T : Type 0} (cause later : Option ChainRefusal) (result : Result T ChainRefusal) (P : Type 0) → cause ≡ None → later ≡ None → IfStopped (or_else cause later) result P
not_stopped cause later result P none fit = subst (λ (o : Option ChainRefusal). IfStopped (or_else o later) result P) (sym none) (subst (λ (o : Option ChainRefusal). IfStopped o result P) (sym fit) tt)

-- From the session before it, whose layers were the same once its event was counted, to the end.
module _ (s t : Session) (layers1 layers2 : Layers) (disk1 disk2 : Disk) (l1 : layers1 ≡ s.layers) (d1 : disk1 ≡ s.disk) (l3 : t.layers ≡ layers2) (d3 : t.disk ≡ disk2) where
  pub put_caused : (piece : Piece) (done : Result (Unit {0}) LayerFault) (result : Result (Unit {0}) ChainRefusal) → result ≡ refused_by done → PutsInTarget piece layers1 layers2 disk1 disk2 done → IfNone (breaks done) (t.broken ≡ None)
      → IfSome (breaks done) (λ fault. t.broken ≡ Some fault) → PutCause piece s t result
  put_caused piece done result is puts whole broken =
      subst (PutCause piece s t) (sym is)
      (by_answer done
      (subst (λ (l : Layers). PutsInTarget piece l t.layers s.disk t.disk done) l1 (subst (λ (d : Disk). PutsInTarget piece layers1 t.layers d t.disk done) d1
      (subst (λ (l : Layers). PutsInTarget piece layers1 l disk1 t.disk done) (sym l3) (subst (λ (d : Disk). PutsInTarget piece layers1 layers2 disk1 d done) (sym d3) puts)))) whole broken)
    where
      by_answer : (done : Result (Unit {0}) LayerFault) → PutsInTarget piece s.layers t.layers s.disk t.disk done → IfNone (breaks done) (t.broken ≡ None) → IfSome (breaks done) (λ fault. t.broken ≡ Some fault) → PutCause piece s t (refused_by done)
      by_answer (Ok u) p whole broken = (p.marked, p.counts, whole)
      by_answer (Err (layer.Read f)) p whole broken = (p.marked, p.within, p.err, whole)
      by_answer (Err (layer.FileFull n)) p whole broken = (p.marked, p.err, whole)
      by_answer (Err (layer.Write f)) p whole broken = (p.marked, p.within, p.err, broken)

  pub finish_caused : (done : Result (Unit {0}) StoreFault) (result : Result (Unit {0}) ChainRefusal) (P : Type 0) → result ≡ refused_by (as_change done) → IsAllCopied layers1 → Finishes layers1 layers2 disk1 disk2 done → IfNone (breaks (as_change done)) (t.broken ≡ None)
      → IfSome (breaks (as_change done)) (λ fault. t.broken ≡ Some fault) → FinishCause s t result P
  finish_caused done result P is copied finishes whole broken =
      subst (λ r. FinishCause s t r P) (sym is)
      (by_answer done (subst IsAllCopied l1 copied)
      (subst (λ (l : Layers). Finishes l t.layers s.disk t.disk done) l1 (subst (λ (d : Disk). Finishes layers1 t.layers d t.disk done) d1
      (subst (λ (l : Layers). Finishes layers1 l disk1 t.disk done) (sym l3) (subst (λ (d : Disk). Finishes layers1 layers2 disk1 d done) (sym d3) finishes)))) whole broken)
    where
      by_answer : (done : Result (Unit {0}) StoreFault) → IsAllCopied s.layers → Finishes s.layers t.layers s.disk t.disk done → IfNone (breaks (as_change done)) (t.broken ≡ None) → IfSome (breaks (as_change done)) (λ fault. t.broken ≡ Some fault)
          → FinishCause s t (refused_by (as_change done)) P
      by_answer (Ok u) copied f whole broken = record { copied = copied; merge = f.merge; files = f.files; leaf = f.leaf; counts = f.counts; whole = whole }
      by_answer (Err fault) copied f whole broken = record { copied = copied; merge = f.stays; fails = f.err; broken = broken }

-- marks that were judged are all there
pub judged_copied : (o : Option Marks) → IsJudged o (Ok tt) → IfSome o IsAllMarked
judged_copied None judged = tt
judged_copied (Some m) judged = judged

-- all marks of the merge of the leaf, where no other is under way
pub leaf_copied : (layers : Layers) → layers.merge ≡ None → IsAllCopied layers → IfSome layers.retiring (λ (r : Retiring). IsAllMarked r.marks)
leaf_copied layers none copied = by_kept layers.retiring (subst (λ m. IfSome (marks_in m layers.retiring) IsAllMarked) none copied)
  where
    by_kept : (o : Option Retiring) → IfSome (marks_in None o) IsAllMarked → IfSome o (λ (r : Retiring). IsAllMarked r.marks)
    by_kept None h = tt
    by_kept (Some r) h = h
