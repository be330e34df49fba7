-- All that a guest call's answer says: where it was refused before the files were reached, and once the layers have answered.
use Rattle.std.proofs.Common.{◌≡◌, ◌+◌, ◌/◌, ℕ, Bool, true, false, is_some, List, not, ◌&&◌, get_or, length, refl, sym, ap, subst, ◌∙◌}
use Rattle.std.specs.Prelude.{Option, Some, None, option_map, Result, Ok, Err, IfErr, IfNone, IfSome, IsErr, IsErrAnd, OnOk}
use Rattle.store_model.specs.Disk.{Disk}
use Rattle.store_model.specs.declared.fault.StoreFault.{StoreFault}
use Rattle.guest_model.specs.declared.call.Call.{Call}
use Rattle.guest_model.specs.declared.call.Call.TheVariants as calls
use Rattle.guest_model.specs.declared.call.Caller.{Caller}
use Rattle.guest_model.specs.declared.refusal.ChainRefusal.{ChainRefusal}
use Rattle.guest_model.specs.declared.call.Reply.{Reply}
use Rattle.guest_model.specs.declared.call.Reply.TheVariants as replies
use Rattle.guest_model.specs.Calls.{Disk as Disk', reply}
use Rattle.guest_model.specs.declared.refusal.ChainRefusal.TheVariants.{NoRoom}
use Rattle.layer_session.specs.Calls.{Fails}
use Rattle.layer_session.specs.ReadOnly.{SomeReadFailed}
use Rattle.layer_session.specs.declared.file.Layer.{Layer}
use Rattle.layer_session.specs.declared.file.LayerFault.{LayerFault}
use Rattle.layer_session.specs.declared.file.LayerFault.TheVariants as layer
use Rattle.merge_core.specs.Copied.{marks_of}
use Rattle.chain_core.specs.declared.layers.Layers.{Layers}
use Rattle.chain_core.specs.declared.layers.Retiring.{Retiring}
use Rattle.chain_core.specs.Answering.{AnswersTold, HasCause, HasReadCause, HasRoom, IsCausedBy, IsCausedByRead, NeedsNoRoom, Notes, RoomIs, answer_of, as_read, breaks}
use Rattle.chain_core.specs.declared.answer.Answer.{Answer}
use Rattle.chain_core.specs.declared.answer.Answer.TheVariants as answers
use Rattle.chain_core.specs.Events.{IsCaused, RepliesBy, answer_by, placed}
use Rattle.chain_core.specs.Copying.{LayerFollows, MergeFollows, Touches}
use Rattle.chain_core.specs.Reading.{Finds, HasOnlyRead}
use Rattle.chain_core.specs.Refusing.{IfRefused, counted, refused}
use Rattle.chain_core.specs.Sessions.{IsSound, KeepsMerge, Session, leaf_number, log_numbers}
use Rattle.chain_core.specs.States.{disk_now, entry}
use Rattle.chain_core.proofs.Concluding.{unanswered}
use Rattle.chain_core.proofs.Copied.{sound_refused}
use Rattle.layer_session.proofs.Equal.{err_same, ok_err}

-- ---- refused before the files were reached

pub record IsDeclined (who : Caller) (call : Call) (old new : Session) (result : Result ℕ ChainRefusal) : Type 0 where
  pub sound : IsSound new
  pub merge : MergeFollows call old.layers new.layers result
  pub notes : Notes who call old new result
  pub cause : HasCause call old new result
  pub read : HasReadCause call old new result
  pub room : HasRoom call old result
  pub told : AnswersTold who call old new result

no_room_asked : (call : Call) (s : Session) (e : ChainRefusal) → (refused call s ≡ None → e ≡ NoRoom) → HasRoom call s (Err e)
no_room_asked (calls.Read first count) s e room = tt
no_room_asked (calls.Write first bytes) s e room = λ fit. subst (λ (x : ChainRefusal). RoomIs (λ leaf. false) first (length bytes / s.layers.geometry.sector) s.layers s.disk (Err x)) (sym (room fit)) tt
no_room_asked (calls.Trim first count) s e room = λ fit. subst (λ (x : ChainRefusal). RoomIs (λ (leaf : Layer). not leaf.leave) first count s.layers s.disk (Err x)) (sym (room fit)) tt
no_room_asked calls.Flush s e room = λ fit. subst (λ (x : ChainRefusal). NeedsNoRoom (Err x)) (sym (room fit)) tt

declined_by : (who : Caller) (call : Call) (s t : Session) (e : ChainRefusal) → IsSound s → t.events ≡ counted s.events → t.noted ≡ s.noted → t.told ≡ s.told → t.layers ≡ s.layers → t.disk ≡ s.disk → t.broken ≡ s.broken
    → (refused call s ≡ None → e ≡ NoRoom) → (refused call s ≡ None → s.broken ≡ None) → IsDeclined who call s t (Err e)
declined_by who call s t e sound events noted told layers disk broken room whole = record {
  sound = sound_refused s t sound events noted layers disk broken;
  merge = (ap (λ (l : Layers). l.merge) layers, ap (λ (l : Layers). l.retiring) layers);
  notes = λ fit. (told, noted);
  cause = λ fit. subst (λ (x : ChainRefusal). IsCausedBy s t (Err x)) (sym (room fit)) (disk, broken ∙ whole fit);
  read = λ fit. subst (λ (x : ChainRefusal). IsCausedByRead s t (Err x)) (sym (room fit)) (disk, broken ∙ whole fit);
  room = no_room_asked call s e room;
  told = unanswered (s.noted + 1) (entry who call) s.layers t.layers s.disk t.disk e layers disk;
}

-- a call that hands on the refusal of its first step
pub declined : (who : Caller) (call : Call) (s t : Session) (e : ChainRefusal) (result : Result ℕ ChainRefusal) → IsErr result × IsErrAnd result (λ x. x ≡ e) → IsSound s → t.events ≡ counted s.events → t.noted ≡ s.noted → t.told ≡ s.told
    → t.layers ≡ s.layers → t.disk ≡ s.disk → t.broken ≡ s.broken → (refused call s ≡ None → e ≡ NoRoom) → (refused call s ≡ None → s.broken ≡ None) → IsDeclined who call s t result
declined who call s t e (Ok place) same sound events noted told layers disk broken room whole = absurd same.1
declined who call s t e (Err x) same sound events noted told layers disk broken room whole = declined_by who call s t x sound events noted told layers disk broken (λ fit. same.1 ∙ room fit) whole

-- one that has no memory for what it reads, once it was noted
pub out_of_memory : (who : Caller) (call : Call) (s t : Session) → IsSound s → t.events ≡ counted s.events → t.noted ≡ s.noted → t.told ≡ s.told → t.layers ≡ s.layers → t.disk ≡ s.disk → t.broken ≡ s.broken → s.broken ≡ None → IsDeclined who call s t (Err NoRoom)
out_of_memory who call s t sound events noted told layers disk broken whole = declined_by who call s t NoRoom sound events noted told layers disk broken (λ fit. refl) (λ fit. whole)

pub still_room : (e : ChainRefusal) (result : Result ℕ ChainRefusal) → IsErrAnd result (λ x. x ≡ e) → result ≡ Err NoRoom → ◌≡◌ {A = Result (Unit {0}) ChainRefusal} (Err e) (Err NoRoom)
still_room e (Ok place) same is = absurd same
still_room e (Err x) same is = ap Err (sym same ∙ err_same is)

-- ---- once the layers have answered

-- what isn't refused says nothing of refusals
pub not_refused : {T : Type 0} (call : Call) (s : Session) (result : Result T ChainRefusal) (P : Type 0) → refused call s ≡ None → IfRefused call s result P
not_refused call s result P fit = subst (λ o. IfSome o (λ e. (result ≡ Err e) × P)) (sym fit) tt

pub never_no_room : (place : ℕ) (done : Result (Unit {0}) LayerFault) (result : Result ℕ ChainRefusal) → result ≡ answer_of place done → result ≡ Err NoRoom → ⊥
never_no_room place (Ok t) result is same = (let never : ◌≡◌ {A = Result ℕ ChainRefusal} (Ok place) (Err NoRoom) = sym is ∙ same in absurd (ok_err never))
never_no_room place (Err (layer.Read f)) result is same = (let never = sym is ∙ same in cc)
never_no_room place (Err (layer.FileFull n)) result is same = (let never = sym is ∙ same in cc)
never_no_room place (Err (layer.Write f)) result is same = (let never = sym is ∙ same in cc)

-- the leaf has a session where it had one
pub read_session : (old new : Layers) → log_numbers new ≡ log_numbers old → is_some new.leaf ≡ is_some old.leaf
read_session old new same = sym (mapped new.leaf) ∙ ap (λ (ns : List (Option ℕ)). is_some (get_or ns 0 None)) same ∙ mapped old.leaf
  where
    mapped : (o : Option Layer) → is_some (option_map (λ (l : Layer). l.log.number) o) ≡ is_some o
    mapped None = refl
    mapped (Some l) = refl

-- a flush is no change of a sector
pub flush_follows : (place : ℕ) (old new : Layers) (done : Result (Unit {0}) LayerFault) → KeepsMerge old new → LayerFollows place calls.Flush old new done
flush_follows place old new (Err e) keeps = keeps
flush_follows place old new (Ok t) keeps = (keeps.0, subst (λ (o : Option Retiring). Touches old.geometry.sector calls.Flush place old.retiring o) (sym keeps.1) (untouched old.retiring))
  where
    untouched : (o : Option Retiring) → Touches old.geometry.sector calls.Flush place o o
    untouched None = tt
    untouched (Some r) = record { rest = refl; stripes = refl; words = refl; marks_are = λ t. kept (marks_of r.marks t); stamps_are = λ t there. refl }
      where
        kept : (b : Bool) → b ≡ (b && true)
        kept true = refl
        kept false = refl

-- From the session before it (s), once its event was counted (1), behind the layers' call (2), to the end (t).
module _ (call : Call) (s t : Session) (layers1 layers2 : Layers) (disk1 disk2 : Disk) (place : ℕ) (result : Result ℕ ChainRefusal) (l1 : layers1 ≡ s.layers) (d1 : disk1 ≡ s.disk) (l3 : t.layers ≡ layers2) (d3 : t.disk ≡ disk2) where
  pub followed : (done : Result (Unit {0}) LayerFault) → result ≡ answer_of place done → LayerFollows place call layers1 layers2 done → MergeFollows call s.layers t.layers result
  followed done is follows =
      subst (λ (l : Layers). MergeFollows call l t.layers result) l1 (subst (λ (l : Layers). MergeFollows call layers1 l result) (sym l3) (subst (MergeFollows call layers1 layers2) (sym is) (by_answer done follows)))
    where
      by_answer : (done : Result (Unit {0}) LayerFault) → LayerFollows place call layers1 layers2 done → MergeFollows call layers1 layers2 (answer_of place done)
      by_answer (Ok t) follows = follows
      by_answer (Err e) follows = follows

  pub caused : (done : Result (Unit {0}) LayerFault) → result ≡ answer_of place done → OnOk done (disk2 ≡ record disk1 { told = disk2.told }) → IfErr done (Fails (leaf_number layers1) disk1 disk2) → IfNone (breaks done) (t.broken ≡ None) → IfSome (breaks done) (λ fault. t.broken ≡ Some fault) → HasCause call s t result
  caused done is counts fails whole broken = λ fit.
      subst (IsCausedBy s t) (sym is)
      (by_answer done (subst (λ (d : Disk). OnOk done (t.disk ≡ record d { told = t.disk.told })) d1 (subst (λ (d : Disk). OnOk done (d ≡ record disk1 { told = d.told })) (sym d3) counts))
      (subst (λ (l : Layers). IfErr done (Fails (leaf_number l) s.disk t.disk)) l1 (subst (λ (d : Disk). IfErr done (Fails (leaf_number layers1) d t.disk)) d1 (subst (λ (d : Disk). IfErr done (Fails (leaf_number layers1) disk1 d)) (sym d3) fails))) whole broken)
    where
      by_answer : (done : Result (Unit {0}) LayerFault) → OnOk done (t.disk ≡ record s.disk { told = t.disk.told }) → IfErr done (Fails (leaf_number s.layers) s.disk t.disk) → IfNone (breaks done) (t.broken ≡ None) → IfSome (breaks done) (λ fault. t.broken ≡ Some fault)
          → IsCausedBy s t (answer_of place done)
      by_answer (Ok u) counts fails whole broken = (counts, whole)
      by_answer (Err (layer.Read f)) counts fails whole broken = (fails, whole)
      by_answer (Err (layer.FileFull n)) counts fails whole broken = (fails, whole)
      by_answer (Err (layer.Write f)) counts fails whole broken = (fails, broken)

  -- of a read
  pub read_followed : (first count : ℕ) → call ≡ calls.Read first count → HasOnlyRead layers1 layers2 disk1 disk2 → (done : Result (Unit {0}) LayerFault) → result ≡ answer_of place done → MergeFollows call s.layers t.layers result
  read_followed first count is_read reads done is = followed done is (by_answer done)
    where
      untouched : (o : Option Retiring) → Touches layers1.geometry.sector (calls.Read first count) place o o
      untouched None = tt
      untouched (Some r) = record { rest = refl; stripes = refl; words = refl; marks_are = λ t. kept (marks_of r.marks t); stamps_are = λ t there. refl }
        where
          kept : (b : Bool) → b ≡ (b && true)
          kept true = refl
          kept false = refl

      by_answer : (done : Result (Unit {0}) LayerFault) → LayerFollows place call layers1 layers2 done
      by_answer (Err e) = (reads.merge, reads.retiring)
      by_answer (Ok t) = (
        reads.merge,
        subst (λ (c : Call). Touches layers1.geometry.sector c place layers1.retiring layers2.retiring) (sym is_read)
            (subst (λ (o : Option Retiring). Touches layers1.geometry.sector (calls.Read first count) place layers1.retiring o) (sym reads.retiring) (untouched layers1.retiring)),
      )

  pub read_caused : (found : Result (Unit {0}) StoreFault) → result ≡ answer_of place (as_read found) → OnOk found (disk2 ≡ disk1) → IfErr found (SomeReadFailed disk1 disk2) → t.broken ≡ None → HasReadCause call s t result
  read_caused found is stays fails whole = λ fit.
      subst (IsCausedByRead s t) (sym is)
      (by_answer found stays (subst (λ (d : Disk). IfErr found (SomeReadFailed d t.disk)) d1 (subst (λ (d : Disk). IfErr found (SomeReadFailed disk1 d)) (sym d3) fails)))
    where
      by_answer : (found : Result (Unit {0}) StoreFault) → OnOk found (disk2 ≡ disk1) → IfErr found (SomeReadFailed s.disk t.disk) → IsCausedByRead s t (answer_of place (as_read found))
      by_answer (Ok u) stays fails = (d3 ∙ stays ∙ d1, whole)
      by_answer (Err f) stays fails = (fails, whole)

-- a session that wasn't broken isn't, unless a change failed
pub still_whole : (done : Result (Unit {0}) LayerFault) (old new : Option StoreFault) → IfNone (breaks done) (new ≡ old) → old ≡ None → IfNone (breaks done) (new ≡ None)
still_whole (Ok t) old new same whole = same ∙ whole
still_whole (Err (layer.Read f)) old new same whole = same ∙ whole
still_whole (Err (layer.FileFull n)) old new same whole = same ∙ whole
still_whole (Err (layer.Write f)) old new same whole = tt

pub read_whole : (found : Result (Unit {0}) StoreFault) (old new : Option StoreFault) → IfNone (breaks (as_read found)) (new ≡ old) → old ≡ None → new ≡ None
read_whole (Ok t) old new same whole = same ∙ whole
read_whole (Err f) old new same whole = same ∙ whole

-- ---- with its reply

pub placed_by : (done : Result ℕ ChainRefusal) (r : Reply) → placed (answer_by done r) ≡ done
placed_by (Ok place) r = refl
placed_by (Err refusal) r = refl

pub replies_done : (call : Call) (s : Session) (done : Result ℕ ChainRefusal) → ((disk : Disk') → reply disk call ≡ replies.Done) → RepliesBy call s (answer_by done replies.Done)
replies_done call s (Ok place) same = λ trace told v serving. same (disk_now v)
replies_done call s (Err refusal) same = tt

pub replies_read : (first count : ℕ) (s : Session) (out : List ℕ) (r : Reply) (done : Result ℕ ChainRefusal) → OnOk done (Finds first count out s.layers s.disk) → r ≡ replies.Bytes out → RepliesBy (calls.Read first count) s (answer_by done r)
replies_read first count s out r (Ok place) finds same = subst (λ (x : Reply). RepliesBy (calls.Read first count) s (answers.Reply place x)) (sym same) finds
replies_read first count s out r (Err refusal) finds same = tt

pub record IsAnswered (who : Caller) (call : Call) (old new : Session) (answer : Answer) (P : Type 0) : Type 0 where
  pub merge : MergeFollows call old.layers new.layers (placed answer)
  pub early : IfRefused call old (placed answer) P
  pub notes : Notes who call old new (placed answer)
  pub cause : IsCaused call old new answer
  pub room : HasRoom call old (placed answer)
  pub replies : RepliesBy call old answer
  pub told : AnswersTold who call old new (placed answer)

-- what is said of this call is said of the one that it is
pub call_answered : (who : Caller) (call is_of : Call) (old new : Session) (done : Result ℕ ChainRefusal) (r : Reply) (answer : Answer) (P : Type 0) → call ≡ is_of → answer ≡ answer_by done r → MergeFollows is_of old.layers new.layers done → IfRefused is_of old done P
    → Notes who is_of old new done → IsCaused is_of old new (answer_by done r) → HasRoom is_of old done → RepliesBy is_of old (answer_by done r) → AnswersTold who is_of old new done → IsAnswered who call old new answer P
call_answered who call is_of old new done r answer P of is merge early notes cause room replied told =
    let same = placed_by done r in
    subst (λ (k : Call). IsAnswered who k old new answer P) (sym of) (subst (λ a. IsAnswered who is_of old new a P) (sym is) record {
      merge = subst (MergeFollows is_of old.layers new.layers) (sym same) merge;
      early = subst (λ x. IfRefused is_of old x P) (sym same) early;
      notes = subst (Notes who is_of old new) (sym same) notes;
      cause = cause;
      room = subst (HasRoom is_of old) (sym same) room;
      replies = replied;
      told = subst (AnswersTold who is_of old new) (sym same) told;
    })
