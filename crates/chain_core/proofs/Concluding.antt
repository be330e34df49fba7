-- What a session answers of a call, from what its layers answer.
use Rattle.std.proofs.Common.{◌≡◌, ℕ, Bool, true, false, ◌||◌, refl, sym, subst}
use Rattle.std.specs.Prelude.{Option, Some, None, Result, Ok, Err, IsErr}
use Rattle.chain_model.proofs.Showing.{all_right}
use Rattle.store_model.proofs.Told.{both_from}
use Rattle.store_model.specs.Disk.{Disk, WhereBothTold}
use Rattle.store_model.specs.declared.fault.StoreFault.{StoreFault}
use Rattle.store_model.specs.Trace.{Trace}
use Rattle.store_model.proofs.Spans.{EachMoment-now}
use Rattle.guest_model.specs.declared.call.Call.{Call}
use Rattle.guest_model.specs.declared.call.Caller.{Caller}
use Rattle.guest_model.specs.declared.call.Entry.{Entry}
use Rattle.guest_model.specs.declared.refusal.ChainRefusal.{ChainRefusal}
use Rattle.guest_model.specs.declared.refusal.ChainRefusal.TheVariants.{EmptyRange, OutOfRange, TooLong, ReadOnly, Broken, Spent, FileFull, ReadFault, NoMerge, Stale, NotYet, Abandoned, NoStripe, NoPiece, NoRoom}
use Rattle.chain_model.specs.Images.{Placed}
use Rattle.chain_model.specs.Moments.{HasWholeImages, IsPhase}
use Rattle.chain_model.specs.Sessions.{IsKept, ShowsFile}
use Rattle.chain_model.proofs.Calling.{loosened_is_kept}
use Rattle.layer_session.specs.declared.file.Layer.{Layer}
use Rattle.layer_session.specs.declared.file.LayerFault.{LayerFault}
use Rattle.layer_session.specs.declared.file.LayerFault.TheVariants as layer
use Rattle.chain_core.specs.declared.layers.Layers.{Layers}
use Rattle.chain_core.specs.States.{State, IsNextPlace, IsServing, entry, files_of, sector_of, wide}
use Rattle.chain_core.specs.Answering.{Answers, FailsByChange, LayerAnswers, LayerRoomIs, LayerTold, NeedsNoRoom, RoomIs, answer_of, as_change}
use Rattle.chain_core.proofs.Steps.{at_rest, failed}
use Rattle.layer_session.proofs.Equal.{false_true}

-- ---- where the store tells its content

pub same_told : {T : Type 0} (P : T → T → Type 0) (o : Option T) → ((a : T) → P a a) → WhereBothTold P o o
same_told P None h = tt
same_told P (Some a) h = h a

-- what a session answers of the call of this place, from these layers and this disk to those
abbrev pub SessionTold : ℕ → Entry → Layers → Layers → Disk → Disk → Result ℕ ChainRefusal → Type 0
SessionTold place e old new before after result = WhereBothTold (λ trace now. (v : State) → IsServing old v trace → IsNextPlace place v → Answers e v new trace now result) before.told after.told

-- ---- a call that reached the layers

layer_answered : (e : Entry) (v : State) (layers : Layers) (trace now : Trace) (place : ℕ) (answer : Result (Unit {0}) LayerFault) → LayerAnswers e v layers trace now answer → Answers e v layers trace now (answer_of place answer)
layer_answered e v layers trace now place (Ok t) is = is
layer_answered e v layers trace now place (Err (layer.Read fault)) is = is
layer_answered e v layers trace now place (Err (layer.FileFull next)) is = is
layer_answered e v layers trace now place (Err (layer.Write fault)) is = is

-- From the session before it (0), once its event was counted (1), behind the layers' call (2), to the end (3).
pub answered : (who : Caller) (call : Call) (next place : ℕ) (layers0 layers1 layers2 layers3 : Layers) (disk0 disk1 disk2 disk3 : Disk) (answer : Result (Unit {0}) LayerFault) (result : Result ℕ ChainRefusal)
    → layers1 ≡ layers0 → disk1 ≡ disk0 → layers3 ≡ layers2 → disk3 ≡ disk2 → result ≡ answer_of place answer → LayerTold next call layers1 layers2 disk1 disk2 answer
    → SessionTold next (entry who call) layers0 layers3 disk0 disk3 result
answered who call next place layers0 layers1 layers2 layers3 disk0 disk1 disk2 disk3 answer result l1 d1 l3 d3 is told =
    let a = subst (λ (l : Layers). LayerTold next call l layers2 disk1 disk2 answer) l1 told in
    let b = subst (λ (d : Disk). LayerTold next call layers0 layers2 d disk2 answer) d1 a in
    let done : SessionTold next (entry who call) layers0 layers2 disk0 disk2 (answer_of place answer) =
    both_from (λ trace now. (who : Caller) (v : State) → IsServing layers0 v trace → IsNextPlace next v → LayerAnswers (entry who call) v layers2 trace now answer)
    (λ trace now. (v : State) → IsServing layers0 v trace → IsNextPlace next v → Answers (entry who call) v layers2 trace now (answer_of place answer)) disk0.told disk2.told
    (λ trace now each v serving next_is. layer_answered (entry who call) v layers2 trace now place answer (each who v serving next_is)) b in
    let to_layers = subst (λ (l : Layers). SessionTold next (entry who call) layers0 l disk0 disk2 (answer_of place answer)) (sym l3) done in
    let to_disk = subst (λ (d : Disk). SessionTold next (entry who call) layers0 layers3 disk0 d (answer_of place answer)) (sym d3) to_layers in
    subst (λ r. SessionTold next (entry who call) layers0 layers3 disk0 disk3 r) (sym is) to_disk

-- ---- a call that didn't

pub first_out : (a b : Bool) → (a || b) ≡ false → a ≡ false
first_out true b h = h
first_out false b h = refl

-- no time has passed on the leaf
leaf_at_rest : (e : Entry) (v : State) (trace : Trace) → IsKept trace v.top → IsPhase v.top.number (ShowsFile (wide (sector_of v) e.call v.top)) trace trace
leaf_at_rest e v trace kept =
    let file : Placed = wide (sector_of v) e.call v.top in
    EachMoment-now (HasWholeImages v.top.number (ShowsFile file) trace) trace
    (record { images = (loosened_is_kept file.is_loose v.top trace (λ s out. first_out (v.top.is_loose s) _ out) kept).shows; others = λ other ne. refl })

-- it answers as at rest, whatever the refusal
refused_so : (e : Entry) (v : State) (layers : Layers) (trace : Trace) (x : ChainRefusal) → IsServing layers v trace → Answers e v layers trace trace (Err x)
refused_so e v layers trace (Broken file count) serving =
    failed e v layers trace trace serving serving.still (record { moments = leaf_at_rest e v trace (all_right (IsKept trace) v.retired (files_of v) serving.served.kept).0 })
refused_so e v layers trace EmptyRange serving = at_rest v layers trace serving
refused_so e v layers trace (OutOfRange a b c) serving = at_rest v layers trace serving
refused_so e v layers trace (TooLong a b) serving = at_rest v layers trace serving
refused_so e v layers trace ReadOnly serving = at_rest v layers trace serving
refused_so e v layers trace (Spent t) serving = at_rest v layers trace serving
refused_so e v layers trace (FileFull n) serving = at_rest v layers trace serving
refused_so e v layers trace (ReadFault a b) serving = at_rest v layers trace serving
refused_so e v layers trace NoMerge serving = at_rest v layers trace serving
refused_so e v layers trace (Stale a b) serving = at_rest v layers trace serving
refused_so e v layers trace (NotYet a) serving = at_rest v layers trace serving
refused_so e v layers trace (Abandoned a b) serving = at_rest v layers trace serving
refused_so e v layers trace (NoStripe a b) serving = at_rest v layers trace serving
refused_so e v layers trace NoPiece serving = at_rest v layers trace serving
refused_so e v layers trace NoRoom serving = at_rest v layers trace serving

pub unanswered : (next : ℕ) (e : Entry) (old new : Layers) (before after : Disk) (x : ChainRefusal) → new ≡ old → after ≡ before → SessionTold next e old new before after (Err x)
unanswered next e old new before after x l d =
    let rested : SessionTold next e old old before before (Err x) = same_told (λ trace now. (v : State) → IsServing old v trace → IsNextPlace next v → Answers e v old trace now (Err x)) before.told (λ trace v serving next_is. refused_so e v old trace x serving) in
    subst (λ (a : Disk). SessionTold next e old new before a (Err x)) (sym d) (subst (λ (n : Layers). SessionTold next e old n before before (Err x)) (sym l) rested)

pub refused_told : (next : ℕ) (e : Entry) (old new : Layers) (before after : Disk) (result : Result ℕ ChainRefusal) → IsErr result → new ≡ old → after ≡ before → SessionTold next e old new before after result
refused_told next e old new before after (Ok place) err l d = absurd (false_true err)
refused_told next e old new before after (Err x) err l d = unanswered next e old new before after x l d

-- ---- room in the leaf

-- as the layer says, of the layers as they were
pub room_told : (trims : Layer → Bool) (first count n place : ℕ) (old layers : Layers) (before disk : Disk) (answer : Result (Unit {0}) LayerFault) (result : Result ℕ ChainRefusal)
    → n ≡ count → layers ≡ old → disk ≡ before → result ≡ answer_of place answer → LayerRoomIs trims first n layers disk answer → RoomIs trims first count old before result
room_told trims first count n place old layers before disk answer result same l d is room =
    let a = subst (λ (l : Layers). LayerRoomIs trims first count l disk answer) l (subst (λ (k : ℕ). LayerRoomIs trims first k layers disk answer) same room) in
    let b = subst (λ (d : Disk). LayerRoomIs trims first count old d answer) d a in
    subst (λ r. RoomIs trims first count old before r) (sym is) (by_answer answer b)
  where
    by_answer : (answer : Result (Unit {0}) LayerFault) → LayerRoomIs trims first count old before answer → RoomIs trims first count old before (answer_of place answer)
    by_answer (Ok t) room = room
    by_answer (Err (layer.Read fault)) room = tt
    by_answer (Err (layer.FileFull next)) room = room
    by_answer (Err (layer.Write fault)) room = room

-- of a commit
pub fails_by_change : (done : Result (Unit {0}) StoreFault) → FailsByChange (as_change done)
fails_by_change (Ok t) = tt
fails_by_change (Err fault) = tt

pub flush_room : (place : ℕ) (answer : Result (Unit {0}) LayerFault) (result : Result ℕ ChainRefusal) → result ≡ answer_of place answer → FailsByChange answer → NeedsNoRoom result
flush_room place answer result is change = subst NeedsNoRoom (sym is) (by_answer answer change)
  where
    by_answer : (answer : Result (Unit {0}) LayerFault) → FailsByChange answer → NeedsNoRoom (answer_of place answer)
    by_answer (Ok t) change = tt
    by_answer (Err (layer.Read fault)) change = absurd change
    by_answer (Err (layer.FileFull next)) change = absurd change
    by_answer (Err (layer.Write fault)) change = tt
