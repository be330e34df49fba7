-- What a chain's calls say of its session.
use Rattle.std.proofs.Common.{◌≡◌, ◌≤◌, ◌*◌, ◌/◌, ◌++◌, ℕ, List, length, take, drop, Option, Some, None, Result, Ok, Err, refl, sym, ap, subst, ◌∙◌, arith}
use Rattle.std.specs.Prelude.{IfSome, OnOk, is_some, replicate}
use Rattle.std.proofs.Math.Seq.{take-append_seam}
use Rattle.std.proofs.lemmas.List.{length-replicate, length-take-le}
use Rattle.store_model.specs.Disk.{Disk}
use Rattle.guest_model.specs.declared.call.Call.{Call}
use Rattle.guest_model.specs.declared.call.Call.TheVariants as calls
use Rattle.guest_model.specs.declared.call.Caller.{Caller}
use Rattle.guest_model.specs.declared.call.Entry.{Entry}
use Rattle.guest_model.specs.declared.call.Reply.{Reply}
use Rattle.guest_model.specs.declared.call.Reply.TheVariants as replies
use Rattle.guest_model.specs.declared.refusal.ChainRefusal.{ChainRefusal}
use Rattle.chain_core.specs.declared.chain.Chain.{Chain}
use Rattle.chain_core.specs.Answering.{AnswersTold, HasCause, HasReadCause, HasRoom, Notes}
use Rattle.chain_core.specs.Copying.{MergeFollows}
use Rattle.chain_core.specs.Reading.{Finds}
use Rattle.chain_core.specs.Refusing.{counted, refused}
use Rattle.chain_core.specs.Sessions.{IsSound, Session, seen}
use Rattle.script_session.specs.Answers.{Answers, HasCauseOf, IsReplyOf, IsReplyTo}

pub on_ok : {P : Type 0} (answer : Result ℕ ChainRefusal) → P → OnOk answer P
on_ok (Ok place) p = p
on_ok (Err refusal) p = tt

pub ok_more : {P Q : Type 0} (answer : Result ℕ ChainRefusal) → OnOk answer P → (P → Q) → OnOk answer Q
ok_more (Ok place) p f = f p
ok_more (Err refusal) p f = tt

module _ {S R T : Type 0} (disk : S → Disk) (noted : R → ℕ) (told : R → Option (List Entry)) (old new : Chain S R T) where
  abbrev before : Session
  before = seen disk noted told old

  abbrev after : Session
  after = seen disk noted told new

  -- a call that is refused before it reaches the files
  pub early_seen : (o : Option ChainRefusal) (answer : Result ℕ ChainRefusal) → IfSome o (λ e. (answer ≡ Err e) × (new ≡ record old { events = new.events })) → new.events ≡ counted old.events
      → IfSome o (λ e. (answer ≡ Err e) × (after ≡ record before { events = counted before.events }))
  early_seen None answer h f = tt
  early_seen (Some e) answer h f = (h.0, ap (seen disk noted told) h.1 ∙ ap (λ n. record before { events = n }) f)

  -- the clauses of one call
  pub answers_by : (who : Caller) (call : Call) (answer : Result ℕ ChainRefusal) (reply : Reply) → IsSound before
      → IfSome (refused call before) (λ e. (answer ≡ Err e) × (new ≡ record old { events = new.events }))
      → new.events ≡ counted old.events → new.layers.geometry ≡ old.layers.geometry → is_some new.layers.leaf ≡ is_some old.layers.leaf
      → Notes who call before after answer → HasCauseOf call before after answer → HasRoom call before answer → OnOk answer (IsReplyTo call reply × IsReplyOf call reply before)
      → MergeFollows call old.layers new.layers answer → AnswersTold who call before after answer → Answers who call answer reply before after
  answers_by who call answer reply sound early events geometry session notes cause room replied follows told_ = record {
    sound = sound;
    early = early_seen (refused call before) answer early events;
    notes = notes;
    cause = cause;
    room = room;
    replies = replied;
    told = λ whole. told_;
    geometry = geometry;
    session = session;
    merge = follows;
    events = events;
  }

-- so many sectors
pub sectors_of : (len sector count : ℕ) → sector ≡ 512 → len ≡ count * 512 → len / sector ≡ count
sectors_of len sector count e f = ap (λ s. len / s) e ∙ (omega (arith, f))

pub front_length : (count : ℕ) (room : List ℕ) → count ≤ 2048 → length room ≡ 1048576 → length (take (count * 512) room) ≡ count * 512
front_length count room few h = length-take-le (count * 512) room (omega (arith, few, h))

pub filled_front : (count byte : ℕ) (room filled : List ℕ) → count ≤ 2048 → length room ≡ 1048576 → filled ≡ replicate (length (take (count * 512) room)) byte → filled ≡ replicate (512 * count) byte
filled_front count byte room filled few whole h = h ∙ ap (λ n. replicate n byte) (front_length count room few whole ∙ omega arith)

pub written_length : (count byte sector : ℕ) → sector ≡ 512 → length (replicate (512 * count) byte) / sector ≡ count
written_length count byte sector e = sectors_of _ sector count e (length-replicate (512 * count) byte ∙ omega arith)

-- A read of sectors into the front of a room.
module _ {S R T : Type 0} (disk : S → Disk) (noted : R → ℕ) (told : R → Option (List Entry)) (old new : Chain S R T) where
  pub read_answers : (who want : Caller) (first len count : ℕ) (room out : List ℕ) (answer : Result ℕ ChainRefusal)
      → who ≡ want → IsSound (before disk noted told old new) → count ≤ 2048 → length room ≡ 1048576 → length out ≡ len → len ≡ length (take (count * 512) room)
      → IfSome (refused (calls.Read first (len / old.layers.geometry.sector)) (before disk noted told old new)) (λ e. (answer ≡ Err e) × (new ≡ record old { events = new.events }))
      → new.events ≡ counted old.events → new.layers.geometry ≡ old.layers.geometry → is_some new.layers.leaf ≡ is_some old.layers.leaf
      → Notes who (calls.Read first (len / old.layers.geometry.sector)) (before disk noted told old new) (after disk noted told old new) answer
      → HasReadCause (calls.Read first (len / old.layers.geometry.sector)) (before disk noted told old new) (after disk noted told old new) answer
      → OnOk answer (Finds first (len / old.layers.geometry.sector) out old.layers (disk old.store))
      → MergeFollows (calls.Read first (len / old.layers.geometry.sector)) old.layers new.layers answer
      → AnswersTold who (calls.Read first (len / old.layers.geometry.sector)) (before disk noted told old new) (after disk noted told old new) answer
      → Answers want (calls.Read first count) answer (replies.Bytes (take (512 * count) (out ++ drop (count * 512) room))) (before disk noted told old new) (after disk noted told old new)
  read_answers who want first len count room out answer is sound few whole out_len is_len early events geometry session notes cause replied follows told_ =
      let long : len ≡ count * 512 = is_len ∙ front_length count room few whole in
      let many : len / old.layers.geometry.sector ≡ count = sectors_of len old.layers.geometry.sector count sound.sector long in
      let front : out ≡ take (512 * count) (out ++ drop (count * 512) room) =
      sym (take-append_seam out (drop (count * 512) room)) ∙ ap (λ n. take n (out ++ drop (count * 512) room)) (out_len ∙ long ∙ omega arith) in
      let size : length out ≡ 512 * (len / old.layers.geometry.sector) = out_len ∙ long ∙ (omega (arith, many)) in
      subst (λ (w : Caller). Answers w (calls.Read first count) answer (replies.Bytes (take (512 * count) (out ++ drop (count * 512) room))) (before disk noted told old new) (after disk noted told old new)) is
      (subst (λ n. Answers who (calls.Read first n) answer (replies.Bytes (take (512 * count) (out ++ drop (count * 512) room))) (before disk noted told old new) (after disk noted told old new)) many
      (subst (λ bytes. Answers who (calls.Read first (len / old.layers.geometry.sector)) answer (replies.Bytes bytes) (before disk noted told old new) (after disk noted told old new)) front
      (answers_by disk noted told old new who (calls.Read first (len / old.layers.geometry.sector)) answer (replies.Bytes out) sound early events geometry session notes cause tt
      (ok_more answer replied (λ r. (size, r))) follows told_)))

-- A write of sectors all of whose bytes are one.
module _ {S R T : Type 0} (disk : S → Disk) (noted : R → ℕ) (told : R → Option (List Entry)) (old new : Chain S R T) where
  pub write_answers : (who want : Caller) (first count byte : ℕ) (bytes : List ℕ) (answer : Result ℕ ChainRefusal) → who ≡ want → IsSound (before disk noted told old new) → bytes ≡ replicate (512 * count) byte
      → IfSome (refused (calls.Write first bytes) (before disk noted told old new)) (λ e. (answer ≡ Err e) × (new ≡ record old { events = new.events }))
      → new.events ≡ counted old.events → new.layers.geometry ≡ old.layers.geometry → is_some new.layers.leaf ≡ is_some old.layers.leaf
      → Notes who (calls.Write first bytes) (before disk noted told old new) (after disk noted told old new) answer
      → HasCause (calls.Write first bytes) (before disk noted told old new) (after disk noted told old new) answer
      → HasRoom (calls.Write first bytes) (before disk noted told old new) answer
      → MergeFollows (calls.Write first bytes) old.layers new.layers answer
      → AnswersTold who (calls.Write first bytes) (before disk noted told old new) (after disk noted told old new) answer
      → Answers want (calls.Write first (replicate (512 * count) byte)) answer replies.Done (before disk noted told old new) (after disk noted told old new)
  write_answers who want first count byte bytes answer is sound filled early events geometry session notes cause room follows told_ =
      subst (λ (w : Caller). Answers w (calls.Write first (replicate (512 * count) byte)) answer replies.Done (before disk noted told old new) (after disk noted told old new)) is
      (subst (λ bs. Answers who (calls.Write first bs) answer replies.Done (before disk noted told old new) (after disk noted told old new)) filled
      (answers_by disk noted told old new who (calls.Write first bytes) answer replies.Done sound early events geometry session notes cause room (on_ok answer (refl, λ trace is v serving. refl)) follows told_))
