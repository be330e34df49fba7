-- What the answer of a call that reached the files says of counts, and of the fault that broke the session.
use Rattle.std.proofs.Common.{◌≡◌, ◌<◌, ℕ, true, Option, Some, None, Result, Ok, Err, inl, refl, sym, ap, subst, ◌∙◌}
use Rattle.std.specs.Prelude.{IfSome, is_some}
use Rattle.store_model.specs.Cause.{RoseAt}
use Rattle.store_model.specs.Disk.{Disk}
use Rattle.guest_model.specs.declared.call.Call.{Call}
use Rattle.guest_model.specs.declared.call.Call.TheVariants as calls
use Rattle.guest_model.specs.declared.refusal.ChainRefusal.{ChainRefusal}
use Rattle.guest_model.specs.declared.refusal.ChainRefusal.TheVariants.{Abandoned, Broken, EmptyRange, FileFull, NoMerge, NoPiece, NoRoom, NoStripe, NotYet, OutOfRange, ReadFault, ReadOnly, Spent, Stale, TooLong}
use Rattle.layer_session.specs.declared.file.Layer.{Layer}
use Rattle.chain_core.specs.Answering.{IsCausedBy, IsCausedByRead, fault_of}
use Rattle.chain_core.specs.Refusing.{refused}
use Rattle.chain_core.specs.Sessions.{AreReady, IsReadyLeaf, IsSound, Session, leaf_number, number_of_leaf}
use Rattle.layer_session.proofs.Equal.{false_true}
use Rattle.script_session.specs.Answers.{HasCauseOf}
use Rattle.shared_chain.proofs.Noting.{IsChange}
use Rattle.shared_chain.proofs.Refusals.{has_session, not_early}

-- no read failed
abbrev pub HasSameReads : Disk → Disk → Type 0
HasSameReads old new = (new.failed_reads ≡ old.failed_reads) × (new.files ≡ old.files)

abbrev pub IsReached : Session → Session → Result ℕ ChainRefusal → Type 0
IsReached old new (Ok place) = HasSameReads old.disk new.disk × (new.broken ≡ None)
IsReached old new (Err NoRoom) = HasSameReads old.disk new.disk × (new.broken ≡ None)
IsReached old new (Err (FileFull next)) = HasSameReads old.disk new.disk × (new.broken ≡ None)
IsReached old new (Err (ReadFault file count)) = ((file < old.disk.files) × (new.disk.files ≡ old.disk.files) × RoseAt file count old.disk.failed_reads new.disk.failed_reads) × (new.broken ≡ None)
IsReached old new (Err (Broken file count)) = HasSameReads old.disk new.disk × (new.broken ≡ Some (fault_of file count))
IsReached old new (Err other) = ⊥

same_reads : (old new : Disk) → new ≡ old → HasSameReads old new
same_reads old new e = (ap (λ (d : Disk). d.failed_reads) e, ap (λ (d : Disk). d.files) e)

reached_read : (old new : Session) (answer : Result ℕ ChainRefusal) → IsCausedByRead old new answer → IsReached old new answer
reached_read old new (Ok place) h = (same_reads old.disk new.disk h.0, h.1)
reached_read old new (Err EmptyRange) h = absurd h
reached_read old new (Err (OutOfRange first count sectors)) h = absurd h
reached_read old new (Err (TooLong count limit)) h = absurd h
reached_read old new (Err ReadOnly) h = absurd h
reached_read old new (Err (Broken file count)) h = absurd h
reached_read old new (Err (Spent t)) h = absurd h
reached_read old new (Err (FileFull next)) h = absurd h
reached_read old new (Err (ReadFault file count)) h = ((h.0.0, ap (λ (d : Disk). d.files) h.0.1.stays, h.0.1.count), h.1)
reached_read old new (Err NoMerge) h = absurd h
reached_read old new (Err (Stale taken now)) h = absurd h
reached_read old new (Err (NotYet stripe)) h = absurd h
reached_read old new (Err (Abandoned file count)) h = absurd h
reached_read old new (Err (NoStripe stripe stripes)) h = absurd h
reached_read old new (Err NoPiece) h = absurd h
reached_read old new (Err NoRoom) h = (same_reads old.disk new.disk h.0, h.1)

reached_change : (old new : Session) (answer : Result ℕ ChainRefusal) → leaf_number old.layers < old.disk.files → IsCausedBy old new answer → IsReached old new answer
reached_change old new (Ok place) leaf h = ((ap (λ (d : Disk). d.failed_reads) h.0, ap (λ (d : Disk). d.files) h.0), h.1)
reached_change old new (Err EmptyRange) leaf h = absurd h
reached_change old new (Err (OutOfRange first count sectors)) leaf h = absurd h
reached_change old new (Err (TooLong count limit)) leaf h = absurd h
reached_change old new (Err ReadOnly) leaf h = absurd h
reached_change old new (Err (Broken file count)) leaf h = ((ap (λ (d : Disk). d.failed_reads) h.0.stays, ap (λ (d : Disk). d.files) h.0.stays), h.1)
reached_change old new (Err (Spent t)) leaf h = absurd h
reached_change old new (Err (FileFull next)) leaf h = ((ap (λ (d : Disk). d.failed_reads) h.0, ap (λ (d : Disk). d.files) h.0), h.1)
reached_change old new (Err (ReadFault file count)) leaf h = (
  (subst (λ n. n < old.disk.files) (sym h.0.of_file) leaf, ap (λ (d : Disk). d.files) h.0.stays, subst (λ n. RoseAt n count old.disk.failed_reads new.disk.failed_reads) (sym h.0.of_file) h.0.count),
  h.1,
)
reached_change old new (Err NoMerge) leaf h = absurd h
reached_change old new (Err (Stale taken now)) leaf h = absurd h
reached_change old new (Err (NotYet stripe)) leaf h = absurd h
reached_change old new (Err (Abandoned file count)) leaf h = absurd h
reached_change old new (Err (NoStripe stripe stripes)) leaf h = absurd h
reached_change old new (Err NoPiece) leaf h = absurd h
reached_change old new (Err NoRoom) leaf h = (same_reads old.disk new.disk h.0, h.1)

-- a leaf in a session is one of the store's files
pub leaf_within : (s : Session) → AreReady s.layers s.disk → is_some s.layers.leaf ≡ true → leaf_number s.layers < s.disk.files
leaf_within s ready = go s.layers.leaf ready.leaf
  where
    go : (o : Option Layer) → IfSome o (IsReadyLeaf s.layers.geometry s.layers.below.items s.disk) → is_some o ≡ true → number_of_leaf o < s.disk.files
    go None h e = absurd (false_true e)
    go (Some l) h e = h.ready.readable.there

-- so it is of a call that isn't refused before it reaches the files
pub reached : (call : Call) (old new : Session) (answer : Result ℕ ChainRefusal) → IsSound old → refused call old ≡ None → HasCauseOf call old new answer → IsReached old new answer
reached (calls.Read first count) old new answer sound fit cause = reached_read old new answer (cause fit)
reached (calls.Write first bytes) old new answer sound fit cause =
    let f = not_early (calls.Write first bytes) old fit in reached_change old new answer (leaf_within old (sound.ready f.0) (has_session (calls.Write first bytes) old.layers f.1 refl)) (cause fit)
reached (calls.Trim first count) old new answer sound fit cause =
    let f = not_early (calls.Trim first count) old fit in reached_change old new answer (leaf_within old (sound.ready f.0) (has_session (calls.Trim first count) old.layers f.1 refl)) (cause fit)
reached calls.Flush old new answer sound fit cause =
    let f = not_early calls.Flush old fit in reached_change old new answer (leaf_within old (sound.ready f.0) (has_session calls.Flush old.layers f.1 refl)) (cause fit)

-- and of what it leaves noted
pub reached_change_is : (old new : Session) (answer : Result ℕ ChainRefusal) → old.broken ≡ None → IsReached old new answer → IsChange answer old.disk new.disk old.broken new.broken
reached_change_is old new (Ok place) b h = (h.0.0, h.0.1, h.1 ∙ sym b)
reached_change_is old new (Err EmptyRange) b h = absurd h
reached_change_is old new (Err (OutOfRange first count sectors)) b h = absurd h
reached_change_is old new (Err (TooLong count limit)) b h = absurd h
reached_change_is old new (Err ReadOnly) b h = absurd h
reached_change_is old new (Err (Broken file count)) b h = (h.0.0, h.0.1, h.1, inl b)
reached_change_is old new (Err (Spent t)) b h = absurd h
reached_change_is old new (Err (FileFull next)) b h = (h.0.0, h.0.1, h.1 ∙ sym b)
reached_change_is old new (Err (ReadFault file count)) b h = (h.0.0, h.0.1, h.0.2, h.1 ∙ sym b)
reached_change_is old new (Err NoMerge) b h = absurd h
reached_change_is old new (Err (Stale taken now)) b h = absurd h
reached_change_is old new (Err (NotYet stripe)) b h = absurd h
reached_change_is old new (Err (Abandoned file count)) b h = absurd h
reached_change_is old new (Err (NoStripe stripe stripes)) b h = absurd h
reached_change_is old new (Err NoPiece) b h = absurd h
reached_change_is old new (Err NoRoom) b h = (h.0.0, h.0.1, h.1 ∙ sym b)
