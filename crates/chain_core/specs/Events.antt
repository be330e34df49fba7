-- What an event of a session answers.
use Rattle.std.specs.Prelude.{◌≡◌, ℕ, ◌%◌, ⊤, length, Result, Ok, Err}
use Rattle.store_model.specs.Disk.{WhereTold}
use Rattle.guest_model.specs.declared.call.Call.{Call}
use Rattle.guest_model.specs.declared.call.Call.TheVariants.{Read, Write, Trim, Flush}
use Rattle.guest_model.specs.declared.call.Reply.{Reply}
use Rattle.guest_model.specs.declared.refusal.ChainRefusal.{ChainRefusal}
use Rattle.guest_model.specs.Calls.{reply}
use Rattle.chain_core.specs.Answering.{HasCause, HasReadCause}
use Rattle.chain_core.specs.Sessions.{Session}
use Rattle.chain_core.specs.States.{State, IsServing, disk_now}
use Rattle.chain_core.specs.declared.answer.Answer.{Answer}
use Rattle.chain_core.specs.declared.answer.Answer.TheVariants as answers

-- a write has whole sectors
abbrev pub HasWholeSectors : ℕ → Call → Type 0
HasWholeSectors z (Read first count) = ⊤
HasWholeSectors z (Write first bytes) = length bytes % z ≡ 0
HasWholeSectors z (Trim first count) = ⊤
HasWholeSectors z Flush = ⊤

-- the place that an event answers, or its refusal
abbrev pub placed : Answer → Result ℕ ChainRefusal
placed (answers.Reply place r) = Ok place
placed (answers.Refused refusal) = Err refusal

-- a call that is done has this reply
abbrev pub answer_by : Result ℕ ChainRefusal → Reply → Answer
answer_by (Ok place) r = answers.Reply place r
answer_by (Err refusal) r = answers.Refused refusal

-- the cause of its answer
abbrev pub IsCaused : Call → Session → Session → Answer → Type 0
IsCaused (Read first count) old new answer = HasReadCause (Read first count) old new (placed answer)
IsCaused (Write first bytes) old new answer = HasCause (Write first bytes) old new (placed answer)
IsCaused (Trim first count) old new answer = HasCause (Trim first count) old new (placed answer)
IsCaused Flush old new answer = HasCause Flush old new (placed answer)

-- its reply is what the history's disk replies
abbrev pub RepliesBy : Call → Session → Answer → Type 0
RepliesBy call old (answers.Reply place r) = WhereTold old.disk.told (λ trace. (v : State) → IsServing old.layers v trace → reply (disk_now v) call ≡ r)
RepliesBy call old (answers.Refused refusal) = ⊤
