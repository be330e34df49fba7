-- What the leaf's layer answers of a call, in the words of the session.
use Rattle.std.proofs.Common.{◌≡◌, ℕ, ◌-◌, ◌/◌, Bool, true, false, cond, List, length, take, drop, refl, sym, ap, subst, mul_comm, ◌||◌}
use Rattle.std.specs.Prelude.{Option, Some, None, Result, Ok, Err, OnOk}
use Rattle.std.proofs.Math.Bool.{or-false}
use Rattle.vx_base.specs.Fields.{bytes_at}
use Rattle.store_model.specs.declared.fault.StoreFault.{StoreFault}
use Rattle.store_model.specs.Disk.{Disk, WhereBothTold}
use Rattle.store_model.specs.Trace.{Trace}
use Rattle.guest_model.specs.declared.call.Call.{Call}
use Rattle.guest_model.specs.declared.call.Call.TheVariants as calls
use Rattle.guest_model.specs.declared.call.Caller.{Caller}
use Rattle.chain_model.specs.Layers as chain
use Rattle.chain_model.specs.Layers.{with_call}
use Rattle.chain_model.specs.Images.{Placed}
use Rattle.chain_model.specs.Moments.{IsPhase}
use Rattle.chain_model.specs.Sessions.{ShowsFile}
use Rattle.layer_session.specs.declared.file.Layer.{Layer}
use Rattle.layer_session.specs.declared.file.LayerFault.{LayerFault}
use Rattle.layer_session.specs.declared.file.LayerFault.TheVariants.{Read, Write, FileFull}
use Rattle.layer_session.specs.Calls.{HasCommitted, HasKept, HasPut, KeepsOver, OnRefused, PutsInto, is_among, loose_or_named, placed_with, with_bytes, with_zeros}
use Rattle.layer_session.specs.Keeping.{Serves}
use Rattle.layer_session.proofs.Standing.{layers_stand}
use Rattle.chain_core.specs.declared.layers.Layers.{Layers}
use Rattle.chain_core.specs.States.{State, IsNextPlace, IsServing, AreHeld, entry, wide, others_of}
use Rattle.std.specs.Result.{is_ok}
use Rattle.chain_core.specs.Copying.{IsTouched, LayerFollows, TouchesIf}
use Rattle.chain_core.specs.declared.layers.Retiring.{Retiring}
use Rattle.chain_core.proofs.Turning.{Alike, alike_same, alike_touched}
use Rattle.chain_core.specs.Answering.{LayerAnswers, LayerTold, as_change}
use Rattle.chain_core.proofs.Steps.{AnswersCall, LeafStep, concluded, touches_none}

-- ---- one file

-- the bytes of a write, sector by sector
with_write : (z first : ℕ) (bytes : List ℕ) (layer : chain.Layer) → with_bytes z first (length bytes / z) bytes layer ≡ with_call z (calls.Write first bytes) layer
unfolding bytes_at
with_write z first bytes layer = λ i. λ s. cond (is_among first (length bytes / z) s) (Some (take z (drop (mul_comm z (s - first) i) bytes))) (layer s)

-- what is loose while a Flush goes on
none_more : (z : ℕ) (file : Placed) → file ≡ wide z calls.Flush file
none_more z file =
    let same : file.is_loose ≡ (λ s. file.is_loose s || false) = sym (λ i. λ s. or-false (file.is_loose s) i) in
    ap (λ (f : ℕ → Bool). let p : Placed = record file { is_loose = f } in p) same

-- ---- what the layer tells

-- as the layer answers, of each file that it serves
abbrev pub AnswersEach : Call → Layer → Layer → Trace → Trace → Result (Unit {0}) LayerFault → Type 0
AnswersEach call leaf next trace now answer = (file : Placed) → Serves leaf trace file → AnswersCall leaf.tables.parts.sector call file next trace now answer

wrote : (first : ℕ) (bytes : List ℕ) (l n : Layer) (a b : Option Trace) (answer : Result (Unit {0}) LayerFault)
    → WhereBothTold (PutsInto l first (length bytes / l.tables.parts.sector)) a b
    → OnOk answer (WhereBothTold (HasPut l n first (length bytes / l.tables.parts.sector) (with_bytes l.tables.parts.sector first (length bytes / l.tables.parts.sector) bytes)) a b)
    → OnRefused answer (WhereBothTold (HasKept l n) a b) → OnRefused answer (WhereBothTold (KeepsOver l) a b)
    → WhereBothTold (λ trace now. AnswersEach (calls.Write first bytes) l n trace now answer) a b
wrote first bytes l n None None answer moments put kept quiet = tt
wrote first bytes l n None (Some y) answer moments put kept quiet = moments
wrote first bytes l n (Some x) None answer moments put kept quiet = moments
wrote first bytes l n (Some x) (Some y) (Ok t) moments put kept quiet = λ file serves.
    let z = l.tables.parts.sector in
    record {
      moments = moments.over file serves;
      holds = subst (λ (layer : chain.Layer). Serves n y (placed_with layer (loose_or_named first (length bytes / z) file) file)) (with_write z first bytes file.member.layer) (put.serves file serves);
    }
wrote first bytes l n (Some x) (Some y) (Err (Read f)) moments put kept quiet = λ file serves. record { moments = quiet.over file serves; holds = kept.serves file serves }
wrote first bytes l n (Some x) (Some y) (Err (FileFull k)) moments put kept quiet = λ file serves. record { moments = quiet.over file serves; holds = kept.serves file serves }
wrote first bytes l n (Some x) (Some y) (Err (Write f)) moments put kept quiet = λ file serves. record { moments = moments.over file serves }

zeroed : (first count : ℕ) (l n : Layer) (a b : Option Trace) (answer : Result (Unit {0}) LayerFault)
    → WhereBothTold (PutsInto l first count) a b → OnOk answer (WhereBothTold (HasPut l n first count (with_zeros l.tables.parts.sector first count)) a b)
    → OnRefused answer (WhereBothTold (HasKept l n) a b) → OnRefused answer (WhereBothTold (KeepsOver l) a b)
    → WhereBothTold (λ trace now. AnswersEach (calls.Trim first count) l n trace now answer) a b
zeroed first count l n None None answer moments put kept quiet = tt
zeroed first count l n None (Some y) answer moments put kept quiet = moments
zeroed first count l n (Some x) None answer moments put kept quiet = moments
zeroed first count l n (Some x) (Some y) (Ok t) moments put kept quiet = λ file serves. record { moments = moments.over file serves; holds = put.serves file serves }
zeroed first count l n (Some x) (Some y) (Err (Read f)) moments put kept quiet = λ file serves. record { moments = quiet.over file serves; holds = kept.serves file serves }
zeroed first count l n (Some x) (Some y) (Err (FileFull k)) moments put kept quiet = λ file serves. record { moments = quiet.over file serves; holds = kept.serves file serves }
zeroed first count l n (Some x) (Some y) (Err (Write f)) moments put kept quiet = λ file serves. record { moments = moments.over file serves }

flushed : (l n : Layer) (a b : Option Trace) (answer : Result (Unit {0}) StoreFault) → WhereBothTold (KeepsOver l) a b → OnOk answer (WhereBothTold (HasCommitted l n) a b)
    → WhereBothTold (λ trace now. AnswersEach calls.Flush l n trace now (as_change answer)) a b
flushed l n None None answer moments done = tt
flushed l n None (Some y) answer moments done = moments
flushed l n (Some x) None answer moments done = moments
flushed l n (Some x) (Some y) (Ok t) moments done = λ file serves.
    record { moments = subst (λ (p : Placed). IsPhase p.number (ShowsFile p) x y) (none_more l.tables.parts.sector file) (moments.over file serves); holds = done.serves file serves }
flushed l n (Some x) (Some y) (Err f) moments done = λ file serves.
    record { moments = subst (λ (p : Placed). IsPhase p.number (ShowsFile p) x y) (none_more l.tables.parts.sector file) (moments.over file serves) }

-- ---- what the session is told

-- by each state that the session serves, of the call that has this place
answers_each : (place : ℕ) (call : Call) (old new : Layers) (leaf next : Layer) (a b : Option Trace) (answer : Result (Unit {0}) LayerFault) → LeafStep old new leaf next → LayerFollows place call old new answer
    → WhereBothTold (λ trace now. AnswersEach call leaf next trace now answer) a b
    → WhereBothTold (λ trace now. (who : Caller) (v : State) → IsServing old v trace → IsNextPlace place v → LayerAnswers (entry who call) v new trace now answer) a b
answers_each place call old new leaf next None None answer step follows each = tt
answers_each place call old new leaf next None (Some y) answer step follows each = each
answers_each place call old new leaf next (Some x) None answer step follows each = each
answers_each place call old new leaf next (Some x) (Some y) answer step follows each = λ who v serving next_is.
    let serves : Serves leaf x v.top = (subst (λ o. AreHeld o old.below.items x v.top (others_of v.rest)) step.was serving.held).0 in
    concluded place (entry who call) v old new leaf next x y answer step follows serving next_is
    (subst (λ (z : ℕ). AnswersCall z call v.top next x y answer) (sym (layers_stand.sector leaf x v.top serves)) (each v.top serves))

pub write_told : (place first : ℕ) (bytes : List ℕ) (old new : Layers) (leaf next : Layer) (before after : Disk) (answer : Result (Unit {0}) LayerFault) → LeafStep old new leaf next → LayerFollows place (calls.Write first bytes) old new answer
    → WhereBothTold (PutsInto leaf first (length bytes / leaf.tables.parts.sector)) before.told after.told
    → OnOk answer (WhereBothTold (HasPut leaf next first (length bytes / leaf.tables.parts.sector) (with_bytes leaf.tables.parts.sector first (length bytes / leaf.tables.parts.sector) bytes)) before.told after.told)
    → OnRefused answer (WhereBothTold (HasKept leaf next) before.told after.told) → OnRefused answer (WhereBothTold (KeepsOver leaf) before.told after.told)
    → LayerTold place (calls.Write first bytes) old new before after answer
write_told place first bytes old new leaf next before after answer step follows moments put kept quiet =
    answers_each place (calls.Write first bytes) old new leaf next before.told after.told answer step follows (wrote first bytes leaf next before.told after.told answer moments put kept quiet)

pub zero_told : (place first count : ℕ) (old new : Layers) (leaf next : Layer) (before after : Disk) (answer : Result (Unit {0}) LayerFault) → LeafStep old new leaf next → LayerFollows place (calls.Trim first count) old new answer
    → WhereBothTold (PutsInto leaf first count) before.told after.told → OnOk answer (WhereBothTold (HasPut leaf next first count (with_zeros leaf.tables.parts.sector first count)) before.told after.told)
    → OnRefused answer (WhereBothTold (HasKept leaf next) before.told after.told) → OnRefused answer (WhereBothTold (KeepsOver leaf) before.told after.told)
    → LayerTold place (calls.Trim first count) old new before after answer
zero_told place first count old new leaf next before after answer step follows moments put kept quiet =
    answers_each place (calls.Trim first count) old new leaf next before.told after.told answer step follows (zeroed first count leaf next before.told after.told answer moments put kept quiet)

-- a commit touches no stripe
pub flush_follows : (place : ℕ) (old new : Layers) (answer : Result (Unit {0}) LayerFault) → new.merge ≡ old.merge → new.retiring ≡ old.retiring → LayerFollows place calls.Flush old new answer
flush_follows place old new (Ok t) merge same = (merge, touches_none old.geometry.sector place calls.Flush old.retiring new.retiring (λ t. refl) same)
flush_follows place old new (Err fault) merge same = (merge, same)

pub commit_told : (place : ℕ) (old new : Layers) (leaf next : Layer) (before after : Disk) (answer : Result (Unit {0}) StoreFault) → LeafStep old new leaf next → new.retiring ≡ old.retiring
    → WhereBothTold (KeepsOver leaf) before.told after.told → OnOk answer (WhereBothTold (HasCommitted leaf next) before.told after.told)
    → LayerTold place calls.Flush old new before after (as_change answer)
commit_told place old new leaf next before after answer step same moments done =
    answers_each place calls.Flush old new leaf next before.told after.told (as_change answer) step (flush_follows place old new (as_change answer) step.merge same) (flushed leaf next before.told after.told answer moments done)

-- ---- marks and stamps

-- what is touched where the call was done
pub follows_by : (place : ℕ) (call : Call) (old new : Layers) (answer : Result (Unit {0}) LayerFault) (b : Bool) → b ≡ is_ok answer → new.merge ≡ old.merge → TouchesIf b old.geometry.sector call place old.retiring new.retiring
    → LayerFollows place call old new answer
follows_by place call old new (Ok t) b is merge touched = (merge, subst (λ (b : Bool). TouchesIf b old.geometry.sector call place old.retiring new.retiring) is touched)
follows_by place call old new (Err fault) b is merge touched = (merge, subst (λ (b : Bool). TouchesIf b old.geometry.sector call place old.retiring new.retiring) is touched)

-- a write touches what a trim of as many sectors does
pub write_touches : (b : Bool) (z first count place : ℕ) (bytes : List ℕ) (o p : Option Retiring) → count ≡ length bytes / z → TouchesIf b z (calls.Trim first count) place o p → TouchesIf b z (calls.Write first bytes) place o p
write_touches false z first count place bytes o p same touched = touched
write_touches true z first count place bytes None None same touched = tt
write_touches true z first count place bytes None (Some w) same touched = touched
write_touches true z first count place bytes (Some r) None same touched = touched
write_touches true z first count place bytes (Some r) (Some w) same touched =
    let t : IsTouched z (calls.Trim first (length bytes / z)) place r w = subst (λ (n : ℕ). IsTouched z (calls.Trim first n) place r w) same touched in
    record { rest = t.rest; stripes = t.stripes; words = t.words; marks_are = t.marks_are; stamps_are = t.stamps_are }

pub follows_alike : (place : ℕ) (call : Call) (old new : Layers) (answer : Result (Unit {0}) LayerFault) → LayerFollows place call old new answer → Alike old.retiring new.retiring
follows_alike place call old new (Ok t) follows = alike_touched old.geometry.sector place call old.retiring new.retiring follows.1
follows_alike place call old new (Err fault) follows = alike_same old.retiring new.retiring follows.1
