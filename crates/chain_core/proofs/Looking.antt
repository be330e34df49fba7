-- What a read makes of a session.
use Rattle.std.proofs.Common.{◌≡◌, ℕ, Bool, true, false, ◌||◌, ◌&&◌, List, [], ◌∷◌, ◌++◌, refl, sym, ap, subst, ◌∙◌}
use Rattle.std.specs.Prelude.{Option, Some, None, Result, Ok, Err, OnOk}
use Rattle.std.proofs.Math.Bool.{or-false}
use Rattle.store_model.specs.declared.fault.StoreFault.{StoreFault}
use Rattle.store_model.specs.Disk.{Disk, WhereBothTold}
use Rattle.store_model.specs.Trace.{Trace}
use Rattle.store_model.proofs.Spans.{EachMoment-now}
use Rattle.guest_model.specs.declared.refusal.ChainRefusal.{ChainRefusal}
use Rattle.guest_model.specs.declared.call.Caller.{Caller}
use Rattle.guest_model.specs.declared.call.Entry.{Entry}
use Rattle.guest_model.specs.declared.call.Call.TheVariants as calls
use Rattle.guest_model.specs.Calls.{is_named}
use Rattle.guest_model.specs.History.{either}
use Rattle.guest_model.proofs.HistoryLaws.{replay_unchanged}
use Rattle.chain_model.specs.Images.{Placed}
use Rattle.chain_model.specs.Moments.{EachOpens}
use Rattle.chain_model.proofs.Serving.{past_goes_on}
use Rattle.chain_core.specs.declared.layers.Layers.{Layers}
use Rattle.chain_core.specs.States.{State, IsNextPlace, IsRetiring, IsServing, Rest, dirty_now, disk_now, entry, made, merging, plain, retiring, sector_of, with_entry}
use Rattle.chain_core.specs.declared.layers.Retiring.{Retiring}
use Rattle.guest_model.specs.History.{History}
use Rattle.chain_model.specs.Merges.{marks_after}
use Rattle.chain_model.proofs.Merging.{kept_by_call}
use Rattle.chain_model.proofs.Stamping.{stamps_by_call}
use Rattle.merge_core.specs.Copied.{marks_of}
use Rattle.read_plan.specs.declared.plan.Extent.{Extent}
use Rattle.chain_core.specs.Planned.{FindsPlanned}
use Rattle.chain_core.specs.Reading.{Finds, HasOnlyRead}
use Rattle.chain_core.specs.Answering.{EachOpensBefore, LayerAnswers, LayerTold, answer_of, as_read}
use Rattle.chain_core.proofs.Steps.{at_rest, fewer_marks}
use Rattle.chain_core.proofs.Rests.{loose_after, new_top, opens_now, top_loose}
use Rattle.chain_core.proofs.Concluding.{first_out}
use Rattle.layer_session.proofs.Equal.{false_true}

-- a read makes nothing loose
read_leaves : (z first count : ℕ) (top : Placed) → top ≡ made z (calls.Read first count) top
read_leaves z first count top =
    let same : top.is_loose ≡ (λ s. top.is_loose s || false) = sym (λ i. λ s. or-false (top.is_loose s) i) in
    ap (λ (f : ℕ → Bool). let p : Placed = record top { is_loose = f } in p) same

-- each image opens to the disk, outside what is dirty and what a read names, which is nothing
opens_still : (first count : ℕ) (who : Caller) (v : State) (layers : Layers) (trace : Trace) → IsServing layers v trace → EachOpensBefore (entry who (calls.Read first count)) v trace trace
opens_still first count who v layers trace serving =
    let among = either (dirty_now v) (is_named (sector_of v) (calls.Read first count)) in
    EachMoment-now (EachOpens v.leaf among (disk_now v)) trace
    (opens_now (sector_of v) v.opening v.history v.leaf among v.retired v.top v.rest trace serving.once serving.served
    (new_top (dirty_now v) among v.top v.top v.rest refl serving.loose (λ s clean. top_loose (dirty_now v) v.top v.rest serving.loose s (first_out (dirty_now v s) _ clean))))

-- the merge of the leaf is as it was
read_leaving : (first count : ℕ) (h : History) (who : Caller) (layers : Layers) (writes : ℕ → Bool) (z : ℕ) (top : Placed) (rest : Rest)
    → IsRetiring z writes h layers layers.retiring top rest → IsRetiring z writes (h ++ entry who (calls.Read first count) ∷ []) layers layers.retiring top rest
read_leaving first count h who layers writes z top rest is = by_rest layers.retiring rest is
  where
    e : Entry
    e = entry who (calls.Read first count)

    by_rest : (o : Option Retiring) (rest : Rest) → IsRetiring z writes h layers o top rest → IsRetiring z writes (h ++ e ∷ []) layers o top rest
    by_rest None (plain others) is = tt
    by_rest None (merging above source target below m) is = tt
    by_rest None (retiring target below l before) is = absurd is
    by_rest (Some r) (plain others) is = absurd is
    by_rest (Some r) (merging above source target below m) is = absurd is
    by_rest (Some r) (retiring target below l before) is = record {
      some = is.some;
      written = is.written;
      parts = is.parts;
      goes_by = is.goes_by;
      retires = is.retires;
      lower = is.lower;
      lower_goes_by = is.lower_goes_by;
      clears = is.clears;
      each = is.each;
      stamps = λ t there. is.stamps t there ∙ sym (stamps_by_call.more z h e t);
      under_way = fewer_marks z l before (h ++ e ∷ []) (marks_of r.marks) (marks_after z e.call (marks_of r.marks)) top.member.layer target.member.layer (λ t marked. ap (λ b. b && true) marked)
          (kept_by_call z l before h e (marks_of r.marks) top.member.layer top.member.layer target.member.layer is.some (λ s. refl) is.under_way);
    }

-- the session serves the history with the read
read_on : (first count : ℕ) (who : Caller) (v : State) (layers : Layers) (trace : Trace) → IsServing layers v trace → IsServing layers (with_entry (entry who (calls.Read first count)) v) trace
read_on first count who v layers trace s =
    let e : Entry = entry who (calls.Read first count) in
    let z = sector_of v in
    let longer : State = record v { history = v.history ++ e ∷ [] } in
    let kept : IsServing layers longer trace = record {
      once = s.once;
      geometry = s.geometry;
      served = record { linked = s.served.linked; by = s.served.by; kept = s.served.kept; disk = s.served.disk ∙ sym (replay_unchanged z v.opening v.history e refl) };
      loose = loose_after z v.history e v.top v.top v.rest (record { call = λ sector loose named. loose; flush = λ flush. absurd (let never : false ≡ true = flush in false_true never) }) (λ sector. refl) s.loose;
      course = s.course;
      leaving = read_leaving first count v.history who layers v.writes z v.top v.rest s.leaving;
      drops = s.drops;
      held = s.held;
      whole = s.whole;
      synced = s.synced;
      written = s.written;
      still = s.still;
      past = past_goes_on.call z v.opening v.history e (λ s. false) (λ s. false) v.leaf v.began trace trace (λ s out. refl) s.past (opens_still first count who v layers trace s);
    } in
    subst (λ (top : Placed). let w : State = record longer { top = top } in IsServing layers w trace) (read_leaves z first count v.top) kept

-- what holds of one moment holds from it to itself
pub both_same : {T : Type 0} (P : T → T → Type 0) (a b : Option T) → b ≡ a → ((t : T) → a ≡ Some t → P t t) → WhereBothTold P a b
both_same P a b e h = subst (λ o. WhereBothTold P a o) (sym e) (itself a h)
  where
    itself : (a : Option _) → ((t : _) → a ≡ Some t → P t t) → WhereBothTold P a a
    itself None h = tt
    itself (Some t) h = h t refl

by_answer : (first count : ℕ) (who : Caller) (v : State) (layers : Layers) (trace : Trace) (answer : Result (Unit {0}) StoreFault) → IsServing layers v trace → LayerAnswers (entry who (calls.Read first count)) v layers trace trace (as_read answer)
by_answer first count who v layers trace (Ok t) serving = record { moments = opens_still first count who v layers trace serving; serving = read_on first count who v layers trace serving }
by_answer first count who v layers trace (Err fault) serving = at_rest v layers trace serving

pub looked : (first count : ℕ) (old new : Layers) (before after : Disk) (answer : Result (Unit {0}) StoreFault) → HasOnlyRead old new before after → (place : ℕ) → LayerTold place (calls.Read first count) old new before after (as_read answer)
looked first count old new before after answer reads place =
    both_same (λ trace now. (who : Caller) (v : State) → IsServing old v trace → IsNextPlace place v → LayerAnswers (entry who (calls.Read first count)) v new trace now (as_read answer)) before.told after.told reads.told
    (λ trace told who v serving next_is. by_answer first count who v new trace answer (reads.serves trace told v serving))

-- what was found in the layers as they were
pub found_before : (first count place : ℕ) (bytes out : List ℕ) (layers0 layers1 : Layers) (disk0 disk1 : Disk) (answer : Result (Unit {0}) StoreFault) (result : Result ℕ ChainRefusal) → out ≡ bytes → layers1 ≡ layers0 → disk1 ≡ disk0
    → result ≡ answer_of place (as_read answer) → OnOk answer (Finds first count bytes layers1 disk1) → OnOk result (Finds first count out layers0 disk0)
found_before first count place bytes out layers0 layers1 disk0 disk1 answer result o l d is finds =
    subst (λ r. OnOk r (Finds first count out layers0 disk0)) (sym is) (by_case answer finds)
  where
    by_case : (answer : Result (Unit {0}) StoreFault) → OnOk answer (Finds first count bytes layers1 disk1) → OnOk (answer_of place (as_read answer)) (Finds first count out layers0 disk0)
    by_case (Err fault) finds = tt
    by_case (Ok t) finds =
        subst (λ (b : List ℕ). Finds first count b layers0 disk0) (sym o) (subst (λ (k : Layers). Finds first count bytes k disk0) l (subst (λ (k : Disk). Finds first count bytes layers1 k) d finds))

-- the same of what is planned
pub planned_before : (first count place : ℕ) (plan : List Extent) (bytes : List ℕ) (layers0 layers1 : Layers) (disk0 disk1 : Disk) (answer : Result (Unit {0}) StoreFault) (result : Result ℕ ChainRefusal) → layers1 ≡ layers0 → disk1 ≡ disk0
    → result ≡ answer_of place (as_read answer) → OnOk answer (FindsPlanned first count plan bytes layers1 disk1) → OnOk result (FindsPlanned first count plan bytes layers0 disk0)
planned_before first count place plan bytes layers0 layers1 disk0 disk1 answer result l d is finds =
    subst (λ r. OnOk r (FindsPlanned first count plan bytes layers0 disk0)) (sym is) (by_case answer finds)
  where
    by_case : (answer : Result (Unit {0}) StoreFault) → OnOk answer (FindsPlanned first count plan bytes layers1 disk1) → OnOk (answer_of place (as_read answer)) (FindsPlanned first count plan bytes layers0 disk0)
    by_case (Err fault) finds = tt
    by_case (Ok t) finds = subst (λ (k : Layers). FindsPlanned first count plan bytes k disk0) l (subst (λ (k : Disk). FindsPlanned first count plan bytes layers1 k) d finds)
