-- The calls of a merge: what a session keeps behind them.
use Rattle.std.proofs.Common.{◌≡◌, ℕ, is_some, ◌||◌, ◌+◌, ◌-◌, ◌^◌, ◌≤◌, ◌<◌, Bool, true, false, cond, List, [], ◌∷◌, refl, sym, ap, subst, ◌∙◌, arith, ltb-true}
use Rattle.std.specs.Prelude.{Option, Some, None, Result, Ok, Err, IfSome, IsErr, OnOk, OnErr, nat_lt, if◌then◌else◌}
use Rattle.std.specs.List.{AllByRecursion}
use Rattle.store_model.proofs.Told.{both_from}
use Rattle.vx_base.specs.declared.parts.Geometry.{Geometry}
use Rattle.store_model.specs.Disk.{Disk, WhereBothTold}
use Rattle.store_model.specs.Trace.{Trace}
use Rattle.store_model.specs.declared.fault.StoreFault.{StoreFault}
use Rattle.guest_model.specs.declared.refusal.ChainRefusal.{ChainRefusal}
use Rattle.guest_model.specs.declared.refusal.ChainRefusal.TheVariants.{EmptyRange, OutOfRange, TooLong, ReadOnly, Broken, Spent, FileFull, ReadFault, NoMerge, Stale, NotYet, Abandoned, NoStripe, NoPiece, NoRoom}
use Rattle.layer_session.specs.declared.file.LayerFault.{LayerFault}
use Rattle.layer_session.specs.declared.file.LayerFault.TheVariants as layer
use Rattle.merge_core.specs.Pieces.{piece_of}
use Rattle.merge_core.specs.declared.piece.Piece.{Piece as KeptPiece}
use Rattle.chain_core.specs.declared.layers.Layers.{Layers}
use Rattle.chain_core.specs.Answering.{UnlessBroken, as_change, breaks}
use Rattle.chain_core.specs.Copying.{FetchAnswers, HasMarked, LayerFollows, Touches, MarksIn, MarksToo, PieceAnswers, PutRoomIs, PutTold, Takes, TargetRoomIs, no_merge, no_piece, no_stripe, refused_by, stale, stamp_of, target_layer, unfilled}
use Rattle.chain_core.specs.Finished.{FinishAnswers, FinishTold, Finishes, FinishesTo, IsJudged}
use Rattle.chain_core.specs.declared.layers.Underway.{Underway}
use Rattle.chain_core.specs.declared.layers.Retiring.{Retiring}
use Rattle.chain_core.specs.Merging.{IsTruePiece, PutAnswers}
use Rattle.chain_core.specs.Reading.{HasOnlyRead}
use Rattle.chain_core.specs.Refusing.{broken_by, counted, misplaced, or_else, refused, unfit}
use Rattle.guest_model.specs.declared.call.Call.{Call}
use Rattle.chain_core.specs.Sessions.{AreReady, HasNoMerge, IsLow, IsSound, KeepsMerge, Session, has_merge, log_numbers, marks_in, slack}
use Rattle.chain_core.specs.States.{IsServing, State}
use Rattle.chain_core.proofs.Looking.{both_same}
use Rattle.chain_core.proofs.Steps.{at_rest}
use Rattle.layer_session.proofs.Equal.{false_true, ok_err, some_none}

-- ---- sound sessions

higher : (a b : ℕ) (o : Option ℕ) → a ≤ b → IfSome o (λ n. n ≤ a) → IfSome o (λ n. n ≤ b)
higher a b None le low = tt
higher a b (Some n) le low = omega (arith, le, low)

all_higher : (a b : ℕ) (numbers : List (Option ℕ)) → a ≤ b → AllByRecursion (λ number. IfSome number (λ n. n ≤ a)) numbers → AllByRecursion (λ number. IfSome number (λ n. n ≤ b)) numbers
all_higher a b [] le low = tt
all_higher a b (n ∷ numbers) le low = (higher a b n le low.0, all_higher a b numbers le low.1)

pub low_on : (a b : ℕ) (layers : Layers) → a ≤ b → IsLow a layers → IsLow b layers
low_on a b layers le low = all_higher a b (log_numbers layers) le low

-- one more event was counted
pub sound_counted : (s : Session) (n : ℕ) → n ≡ s.events + 1 → n ≤ 2 ^ 63 → IsSound s → IsSound (record s { events = n })
sound_counted s n one few sound = record {
  sector = sound.sector;
  noted = let noted : s.noted ≤ s.events = sound.noted in omega (arith, noted, one);
  few = few;
  ready = sound.ready;
  low = λ whole. let more : ℕ = slack (has_merge s.layers) in low_on (s.events + more) (n + more) s.layers (omega (arith, one)) (sound.low whole);
}

-- with a merge, and no event yet
pub sound_started : (s : Session) → s.events ≡ 0 → s.noted ≡ 0 → AreReady s.layers s.disk → is_some s.layers.merge ≡ true → IsLow 1 s.layers → IsSound s
sound_started s none empty ready merge low = record {
  sector = ready.sector;
  noted = omega (arith, none, empty);
  few = omega (arith, none);
  ready = λ _. ready;
  low = λ _. subst (λ (b : Bool). IsLow (s.events + slack (b || is_some s.layers.retiring)) s.layers) (sym merge) (low_on 1 (s.events + 2) s.layers (omega arith) low);
}

-- what the layers' calls ask of the numbers of logs
pub sound_low : (s : Session) → IsSound s → s.broken ≡ None → IsLow (2 ^ 63 + 4) s.layers
sound_low s sound whole = low_on (s.events + slack (has_merge s.layers)) (2 ^ 63 + 4) s.layers (let few : s.events ≤ 2 ^ 63 = sound.few in let most : slack (has_merge s.layers) ≤ 4 = most_slack (has_merge s.layers) in omega (arith, few, most)) (sound.low whole)
  where
    most_slack : (m : Bool) → slack m ≤ 4
    most_slack true = omega arith
    most_slack false = omega arith

-- and those of a merge that is under way
pub merging_low : (s : Session) → IsSound s → s.broken ≡ None → has_merge s.layers ≡ true → IsLow (2 ^ 63 + 3) s.layers
merging_low s sound whole merge =
    let few : s.events ≤ 2 ^ 63 = sound.few in
    low_on (s.events + 2) (2 ^ 63 + 3) s.layers (omega (arith, few)) (subst (λ (b : Bool). IsLow (s.events + slack b) s.layers) merge (sound.low whole))

first_none : (a b : Option ChainRefusal) → or_else a b ≡ None → a ≡ None
first_none None b h = refl
first_none (Some x) b h = absurd (let never : ◌≡◌ {A = Option ChainRefusal} (Some x) None = h in some_none never)

-- a piece that isn't refused is one of a merge
pub piece_merge : (piece : KeptPiece) (layers : Layers) → no_piece piece layers ≡ None → has_merge layers ≡ true
piece_merge piece layers h = by_test (has_merge layers) (first_none (no_merge layers) (or_else (unfilled piece) (or_else (no_stripe piece.stripe layers) (stale piece.stamp (stamp_of layers piece.stripe)))) h)
  where
    by_test : (b : Bool) → cond b None (Some NoMerge) ≡ None → b ≡ true
    by_test true is = refl
    by_test false is = absurd (let never : ◌≡◌ {A = Option ChainRefusal} (Some NoMerge) None = is in some_none never)

pub has_merge_same : (old new : Layers) → KeepsMerge old new → has_merge new ≡ has_merge old
has_merge_same old new same = ap (λ m. is_some m || is_some new.retiring) same.0 ∙ ap (λ r. is_some old.merge || is_some r) same.1

-- and only what layers keep in memory is another
pub sound_read : (s t : Session) → IsSound s → s.broken ≡ None → HasOnlyRead s.layers t.layers s.disk t.disk → t.noted ≡ s.noted → t.events ≡ s.events → IsSound t
sound_read s t sound whole reads noted events = record {
  sector = ap (λ (g : Geometry). g.sector) reads.geometry ∙ sound.sector;
  noted = let n : s.noted ≤ s.events = sound.noted in omega (arith, n, noted, events);
  few = let n : s.events ≤ 2 ^ 63 = sound.few in omega (arith, n, events);
  ready = λ _. reads.ready;
  low = λ _. subst (λ m. IsLow (t.events + slack m) t.layers) (sym (has_merge_same s.layers t.layers (reads.merge, reads.retiring)))
      (subst (λ (n : ℕ). IsLow (n + slack (has_merge s.layers)) t.layers) (sym events) (subst (AllByRecursion (λ number. IfSome number (λ n. n ≤ s.events + slack (has_merge s.layers)))) (sym reads.numbers) (sound.low whole)));
}

-- an event that was admitted is counted
pub room_counted : (events n : ℕ) (broken : Option StoreFault) → unfit events broken ≡ None → n ≡ events + 1 → n ≤ 2 ^ 63
room_counted events n broken fit one = go (nat_lt events (2 ^ 63)) refl fit
  where
    go : (b : Bool) → nat_lt events (2 ^ 63) ≡ b → ◌≡◌ {A = Option ChainRefusal} (if b then broken_by broken else Some (Spent events)) None → n ≤ 2 ^ 63
    go true is fit = let b : events < 2 ^ 63 = ltb-true events (2 ^ 63) is in omega (arith, b, one)
    go false is fit = absurd (some_none fit)

-- ---- a call that is refused before the files are reached

module _ (old new : Layers) (before after : Disk) (layers : new ≡ old) (disk : after ≡ before) where
  pub fetch_stopped : (piece : KeptPiece) (r : Result ℕ ChainRefusal) → IsErr r → WhereBothTold (λ trace now. (v : State) → IsServing old v trace → FetchAnswers piece v new trace now r) before.told after.told
  fetch_stopped piece (Ok stamp) err = absurd (false_true err)
  fetch_stopped piece (Err x) err =
      both_same (λ trace now. (v : State) → IsServing old v trace → FetchAnswers piece v new trace now (Err x)) before.told after.told (ap (λ (d : Disk). d.told) disk)
      (λ trace told v serving. at_rest v new trace (subst (λ (l : Layers). IsServing l v trace) (sym layers) serving))

  pub put_stopped : (piece : KeptPiece) (r : Result (Unit {0}) ChainRefusal) → IsErr r → WhereBothTold (λ trace now. (v : State) → IsServing old v trace → IsTruePiece v (piece_of piece) → PieceAnswers piece v new trace now r) before.told after.told
  put_stopped piece (Ok done) err = absurd (false_true err)
  put_stopped piece (Err x) err =
      both_same (λ trace now. (v : State) → IsServing old v trace → IsTruePiece v (piece_of piece) → PieceAnswers piece v new trace now (Err x)) before.told after.told (ap (λ (d : Disk). d.told) disk)
      (λ trace told v serving true_piece. by_refusal v trace (subst (λ (l : Layers). IsServing l v trace) (sym layers) serving) x)
    where
      by_refusal : (v : State) (trace : Trace) → IsServing new v trace → (x : ChainRefusal) → PieceAnswers piece v new trace trace (Err x)
      by_refusal v trace serving (Broken file count) = record { moments = (at_rest v new trace serving).moments; still = serving.still; past = serving.past }
      by_refusal v trace serving EmptyRange = at_rest v new trace serving
      by_refusal v trace serving (OutOfRange a b c) = at_rest v new trace serving
      by_refusal v trace serving (TooLong a b) = at_rest v new trace serving
      by_refusal v trace serving ReadOnly = at_rest v new trace serving
      by_refusal v trace serving (Spent t) = at_rest v new trace serving
      by_refusal v trace serving (FileFull n) = at_rest v new trace serving
      by_refusal v trace serving (ReadFault a b) = at_rest v new trace serving
      by_refusal v trace serving NoMerge = at_rest v new trace serving
      by_refusal v trace serving (Stale a b) = at_rest v new trace serving
      by_refusal v trace serving (NotYet a) = at_rest v new trace serving
      by_refusal v trace serving (Abandoned a b) = at_rest v new trace serving
      by_refusal v trace serving (NoStripe a b) = at_rest v new trace serving
      by_refusal v trace serving NoPiece = at_rest v new trace serving
      by_refusal v trace serving NoRoom = at_rest v new trace serving

-- ---- a call that reached them

-- from the layers before it (0), which were the same once its event was counted (1), to those behind it (2)
module _ (layers0 layers1 layers2 : Layers) (disk0 disk1 disk2 : Disk) (l : layers1 ≡ layers0) (d : disk1 ≡ disk0) where
  pub fetched : (piece : KeptPiece) (stamp : ℕ) → HasOnlyRead layers1 layers2 disk1 disk2 → Takes layers1 disk1 (piece_of piece) → WhereBothTold (λ trace now. (v : State) → IsServing layers0 v trace → FetchAnswers piece v layers2 trace now (Ok stamp)) disk0.told disk2.told
  fetched piece stamp reads takes =
      subst (λ (k : Disk). WhereBothTold (λ trace now. (v : State) → IsServing layers0 v trace → FetchAnswers piece v layers2 trace now (Ok stamp)) k.told disk2.told) d
      (subst (λ (k : Layers). WhereBothTold (λ trace now. (v : State) → IsServing k v trace → FetchAnswers piece v layers2 trace now (Ok stamp)) disk1.told disk2.told) l
      (both_same (λ trace now. (v : State) → IsServing layers1 v trace → FetchAnswers piece v layers2 trace now (Ok stamp)) disk1.told disk2.told reads.told
      (λ trace told v serving. (at_rest v layers2 trace (reads.serves trace told v serving), takes trace told v serving))))

  pub unfetched : (piece : KeptPiece) (x : ChainRefusal) → HasOnlyRead layers1 layers2 disk1 disk2 → WhereBothTold (λ trace now. (v : State) → IsServing layers0 v trace → FetchAnswers piece v layers2 trace now (Err x)) disk0.told disk2.told
  unfetched piece x reads =
      subst (λ (k : Disk). WhereBothTold (λ trace now. (v : State) → IsServing layers0 v trace → FetchAnswers piece v layers2 trace now (Err x)) k.told disk2.told) d
      (subst (λ (k : Layers). WhereBothTold (λ trace now. (v : State) → IsServing k v trace → FetchAnswers piece v layers2 trace now (Err x)) disk1.told disk2.told) l
      (both_same (λ trace now. (v : State) → IsServing layers1 v trace → FetchAnswers piece v layers2 trace now (Err x)) disk1.told disk2.told reads.told
      (λ trace told v serving. at_rest v layers2 trace (reads.serves trace told v serving))))

  pub room_told : (piece : KeptPiece) (done : Result (Unit {0}) LayerFault) → IfSome (target_layer layers1) (λ l. PutRoomIs piece l disk1 done) → TargetRoomIs piece layers0 disk0 (refused_by done)
  room_told piece done room =
      subst (λ (k : Disk). TargetRoomIs piece layers0 k (refused_by done)) d (subst (λ (k : Layers). TargetRoomIs piece k disk1 (refused_by done)) l (by_answer done room))
    where
      by_answer : (done : Result (Unit {0}) LayerFault) → IfSome (target_layer layers1) (λ l. PutRoomIs piece l disk1 done) → TargetRoomIs piece layers1 disk1 (refused_by done)
      by_answer (Ok t) room = room
      by_answer (Err (layer.Read f)) room = tt
      by_answer (Err (layer.FileFull n)) room = room
      by_answer (Err (layer.Write f)) room = room

  pub piece_told : (piece : KeptPiece) (done : Result (Unit {0}) LayerFault) → PutTold (piece_of piece) layers1 layers2 disk1 disk2 done
      → WhereBothTold (λ trace now. (v : State) → IsServing layers0 v trace → IsTruePiece v (piece_of piece) → PieceAnswers piece v layers2 trace now (refused_by done)) disk0.told disk2.told
  piece_told piece done told =
      subst (λ (k : Disk). WhereBothTold (λ trace now. (v : State) → IsServing layers0 v trace → IsTruePiece v (piece_of piece) → PieceAnswers piece v layers2 trace now (refused_by done)) k.told disk2.told) d
      (subst (λ (k : Layers). WhereBothTold (λ trace now. (v : State) → IsServing k v trace → IsTruePiece v (piece_of piece) → PieceAnswers piece v layers2 trace now (refused_by done)) disk1.told disk2.told) l
      (by_told disk1.told disk2.told told))
    where
      by_answer : (v : State) (trace now : Trace) (done : Result (Unit {0}) LayerFault) → PutAnswers (piece_of piece) v layers2 trace now done → PieceAnswers piece v layers2 trace now (refused_by done)
      by_answer v trace now (Ok t) is = is
      by_answer v trace now (Err (layer.Read f)) is = is
      by_answer v trace now (Err (layer.FileFull n)) is = is
      by_answer v trace now (Err (layer.Write f)) is = is

      by_told : (a b : Option Trace) → WhereBothTold (λ trace now. (v : State) → IsServing layers1 v trace → IsTruePiece v (piece_of piece) → PutAnswers (piece_of piece) v layers2 trace now done) a b
          → WhereBothTold (λ trace now. (v : State) → IsServing layers1 v trace → IsTruePiece v (piece_of piece) → PieceAnswers piece v layers2 trace now (refused_by done)) a b
      by_told None None h = tt
      by_told None (Some y) h = h
      by_told (Some x) None h = h
      by_told (Some x) (Some y) h = λ v serving true_piece. by_answer v x y done (h v serving true_piece)

-- ---- a finish

-- refused before the files are reached
pub finish_rested : (old new : Session) (r : Result (Unit {0}) ChainRefusal) → IsErr r → new.layers ≡ old.layers → new.disk ≡ old.disk → FinishTold old new r
finish_rested old new (Ok done) err layers disk = absurd (false_true err)
finish_rested old new (Err x) err layers disk =
    both_same (λ trace now. (v : State) → IsServing old.layers v trace → FinishAnswers old.layers.retiring v new.layers trace now (Err x)) old.disk.told new.disk.told (ap (λ (d : Disk). d.told) disk)
    (λ trace told v serving. by_refusal v trace (subst (λ (l : Layers). IsServing l v trace) (sym layers) serving) x)
  where
    by_refusal : (v : State) (trace : Trace) → IsServing new.layers v trace → (x : ChainRefusal) → FinishAnswers old.layers.retiring v new.layers trace trace (Err x)
    by_refusal v trace serving (Broken file count) = record { moments = (at_rest v new.layers trace serving).moments; still = serving.still; past = serving.past }
    by_refusal v trace serving EmptyRange = at_rest v new.layers trace serving
    by_refusal v trace serving (OutOfRange a b c) = at_rest v new.layers trace serving
    by_refusal v trace serving (TooLong a b) = at_rest v new.layers trace serving
    by_refusal v trace serving ReadOnly = at_rest v new.layers trace serving
    by_refusal v trace serving (Spent t) = at_rest v new.layers trace serving
    by_refusal v trace serving (FileFull n) = at_rest v new.layers trace serving
    by_refusal v trace serving (ReadFault a b) = at_rest v new.layers trace serving
    by_refusal v trace serving NoMerge = at_rest v new.layers trace serving
    by_refusal v trace serving (Stale a b) = at_rest v new.layers trace serving
    by_refusal v trace serving (NotYet a) = at_rest v new.layers trace serving
    by_refusal v trace serving (Abandoned a b) = at_rest v new.layers trace serving
    by_refusal v trace serving (NoStripe a b) = at_rest v new.layers trace serving
    by_refusal v trace serving NoPiece = at_rest v new.layers trace serving
    by_refusal v trace serving NoRoom = at_rest v new.layers trace serving

-- From the session before it (0), once its event was counted (1), to the end (2).
module _ (s0 s1 s2 : Session) (done : Result (Unit {0}) StoreFault) (layers : s1.layers ≡ s0.layers) (disk : s1.disk ≡ s0.disk) (finishes : Finishes s1.layers s2.layers s1.disk s2.disk done) where
  abbrev Told : Layers → Disk → Type 0
  Told l d = WhereBothTold (λ trace now. (v : State) → IsServing l v trace → FinishAnswers l.retiring v s2.layers trace now (refused_by (as_change done))) d.told s2.disk.told

  pub finish_told : FinishTold s0 s2 (refused_by (as_change done))
  finish_told =
      subst (λ (d : Disk). Told s0.layers d) disk
      (subst (λ (l : Layers). Told l s1.disk) layers
      (both_from (λ trace now. (v : State) → IsServing s1.layers v trace → FinishesTo s1.layers.retiring v s2.layers trace now done)
      (λ trace now. (v : State) → IsServing s1.layers v trace → FinishAnswers s1.layers.retiring v s2.layers trace now (refused_by (as_change done)))
      s1.disk.told s2.disk.told (λ trace now told v serving. by_answer v trace now done (told v serving)) finishes.told))
    where
      by_answer : (v : State) (trace now : Trace) (r : Result (Unit {0}) StoreFault) → FinishesTo s1.layers.retiring v s2.layers trace now r → FinishAnswers s1.layers.retiring v s2.layers trace now (refused_by (as_change r))
      by_answer v trace now (Ok t) is = is
      by_answer v trace now (Err f) is = is

-- ---- the slack of logs

pub marked_slack : (stripe : ℕ) (old new : Layers) (r : Result (Unit {0}) LayerFault) → HasMarked stripe old new r → has_merge new ≡ has_merge old
marked_slack stripe old new (Ok done) marked = ap (λ b. b || is_some new.retiring) (by_marks old.merge new.merge marked.0) ∙ ap (λ b. is_some old.merge || b) (by_marks_too old.retiring new.retiring marked.1)
  where
    by_marks : (o p : Option Underway) → MarksIn stripe o p → is_some p ≡ is_some o
    by_marks None None m = refl
    by_marks None (Some w) m = absurd m
    by_marks (Some u) None m = absurd m
    by_marks (Some u) (Some w) m = refl

    by_marks_too : (o p : Option Retiring) → MarksToo stripe o p → is_some p ≡ is_some o
    by_marks_too None None m = refl
    by_marks_too None (Some w) m = absurd m
    by_marks_too (Some u) None m = absurd m
    by_marks_too (Some u) (Some w) m = refl
marked_slack stripe old new (Err fault) marked = has_merge_same old new marked

-- ---- what a session is behind a call that its layers answered

on_both : {A : Type 0} (done : Result (Unit {0}) LayerFault) (P : A → Type 0) (a b c : A) → OnOk done (c ≡ a) → OnErr done (c ≡ b) → P a → P b → P c
on_both (Ok t) P a b c ok err pa pb = subst P (sym ok) pa
on_both (Err f) P a b c ok err pa pb = subst P (sym err) pb

unless_broken : (done : Result (Unit {0}) LayerFault) (broken : Option StoreFault) (P : Type 0) → IfSome (breaks done) (λ fault. broken ≡ Some fault) → UnlessBroken done P → broken ≡ None → P
unless_broken (Ok t) broken P fault p whole = p
unless_broken (Err (layer.Read f)) broken P fault p whole = p
unless_broken (Err (layer.FileFull n)) broken P fault p whole = p
unless_broken (Err (layer.Write f)) broken P fault p whole = absurd (let never : ◌≡◌ {A = Option StoreFault} (Some f) None = sym fault ∙ whole in some_none never)

pub always : (done : Result (Unit {0}) LayerFault) (P : Type 0) → P → UnlessBroken done P
always (Ok t) P p = p
always (Err (layer.Read f)) P p = p
always (Err (layer.FileFull n)) P p = p
always (Err (layer.Write f)) P p = tt

-- one more event was counted, and one entry more was noted at the most
pub sound_behind : (s t : Session) (done : Result (Unit {0}) LayerFault) → IsSound s → s.broken ≡ None → t.events ≡ s.events + 1 → t.events ≤ 2 ^ 63 → t.noted ≤ s.noted + 1 → t.layers.geometry ≡ s.layers.geometry → has_merge t.layers ≡ has_merge s.layers
    → UnlessBroken done (AreReady t.layers t.disk) → UnlessBroken done ((most : ℕ) → IsLow most s.layers → IsLow (most + 1) t.layers) → IfSome (breaks done) (λ fault. t.broken ≡ Some fault) → IsSound t
sound_behind s t done sound whole one few noted geometry merge ready low fault = record {
  sector = ap (λ (g : Geometry). g.sector) geometry ∙ sound.sector;
  noted = let n : s.noted ≤ s.events = sound.noted in omega (arith, n, noted, one);
  few = few;
  ready = λ w. unless_broken done t.broken (AreReady t.layers t.disk) fault ready w;
  low = λ w.
      let more : ℕ = slack (has_merge s.layers) in
      let up = unless_broken done t.broken ((most : ℕ) → IsLow most s.layers → IsLow (most + 1) t.layers) fault low w (s.events + more) (sound.low whole) in
      subst (λ (b : Bool). IsLow (t.events + slack b) t.layers) (sym merge) (low_on (s.events + more + 1) (t.events + more) t.layers (omega (arith, one)) up);
}

-- of a call that was noted, and whose entry was taken back where it was refused
pub noted_most : (done : Result (Unit {0}) LayerFault) (before noted after : ℕ) → noted ≡ before + 1 → OnOk done (after ≡ noted) → OnErr done (after ≡ noted - 1) → after ≤ before + 1
noted_most (Ok t) before noted after one ok err = omega (arith, one, ok)
noted_most (Err f) before noted after one ok err = omega (arith, one, err)

pub room_accepted : (call : Call) (s : Session) (n : ℕ) → refused call s ≡ None → n ≡ s.events + 1 → n ≤ 2 ^ 63
room_accepted call s n fit one = room_counted s.events n s.broken (first_none (unfit s.events s.broken) (misplaced call s.layers) fit) one

-- refused before the files were reached
pub sound_refused : (s t : Session) → IsSound s → t.events ≡ counted s.events → t.noted ≡ s.noted → t.layers ≡ s.layers → t.disk ≡ s.disk → t.broken ≡ s.broken → IsSound t
sound_refused s t sound events noted layers disk broken =
    let rise = by_test s.events (nat_lt s.events (2 ^ 63)) refl (sound.few) in
    let up : s.events ≤ t.events = (let r = rise.0 in omega (arith, events, r)) in
    record {
      sector = ap (λ (l : Layers). l.geometry.sector) layers ∙ sound.sector;
      noted = let n : s.noted ≤ s.events = sound.noted in omega (arith, n, noted, up);
      few = let r = rise.1 in omega (arith, events, r);
      ready = λ w. subst (λ (l : Layers). AreReady l t.disk) (sym layers) (subst (λ (d : Disk). AreReady s.layers d) (sym disk) (sound.ready (sym broken ∙ w)));
      low = λ w. subst (λ (l : Layers). IsLow (t.events + slack (has_merge l)) l) (sym layers) (low_on (s.events + slack (has_merge s.layers)) (t.events + slack (has_merge s.layers)) s.layers (omega (arith, up)) (sound.low (sym broken ∙ w)));
    }
  where
    by_test : (n : ℕ) (b : Bool) → nat_lt n (2 ^ 63) ≡ b → n ≤ 2 ^ 63 → (n ≤ counted n) × (counted n ≤ 2 ^ 63)
    by_test n true is few = let up : counted n ≡ n + 1 = ap (λ (b : Bool). if b then n + 1 else n) is in let below : n < 2 ^ 63 = ltb-true n (2 ^ 63) is in (omega (arith, up), omega (arith, up, below))
    by_test n false is few = let same : counted n ≡ n = ap (λ (b : Bool). if b then n + 1 else n) is in (omega (arith, same), omega (arith, same, few))

pub follows_has : (place : ℕ) (call : Call) (old new : Layers) (done : Result (Unit {0}) LayerFault) → LayerFollows place call old new done → has_merge new ≡ has_merge old
follows_has place call old new (Err f) follows = has_merge_same old new follows
follows_has place call old new (Ok t) follows = ap (λ m. is_some m || is_some new.retiring) follows.0 ∙ ap (λ b. is_some old.merge || b) (by_kept old.retiring new.retiring follows.1)
  where
    by_kept : (o p : Option Retiring) → Touches old.geometry.sector call place o p → is_some p ≡ is_some o
    by_kept None None m = refl
    by_kept None (Some w) m = absurd m
    by_kept (Some u) None m = absurd m
    by_kept (Some u) (Some w) m = refl

-- whose marks were judged to be all there is under way
pub judged_has : (u : Option Underway) (t : Option Retiring) (r : Result (Unit {0}) ChainRefusal) → IsJudged (marks_in u t) r → OnOk r (is_some u || is_some t ≡ true)
judged_has u t (Err e) judged = tt
judged_has (Some u) t (Ok done) judged = refl
judged_has None (Some t) (Ok done) judged = refl
judged_has None None (Ok done) judged = absurd (let never : ◌≡◌ {A = Result (Unit {0}) ChainRefusal} (Ok done) (Err NoMerge) = judged in ok_err never)

-- a merge was finished, or a change failed
pub sound_finished : (s t : Session) (layers : Layers) (disk : Disk) (done : Result (Unit {0}) StoreFault) → IsSound s → s.broken ≡ None → has_merge layers ≡ true → layers ≡ s.layers → t.events ≡ s.events + 1 → t.events ≤ 2 ^ 63 → t.noted ≡ s.noted
    → Finishes layers t.layers disk t.disk done → IfSome (breaks (as_change done)) (λ fault. t.broken ≡ Some fault) → IsSound t
sound_finished s t layers disk done sound whole merge same one few noted finishes fault = record {
  sector = ap (λ (g : Geometry). g.sector) finishes.geometry ∙ ap (λ (l : Layers). l.geometry.sector) same ∙ sound.sector;
  noted = let n : s.noted ≤ s.events = sound.noted in omega (arith, n, noted, one);
  few = few;
  ready = λ w. done_well done fault w (AreReady t.layers t.disk) finishes.ready;
  low = λ w.
      let was : IsLow (s.events + 2) layers = subst (λ (b : Bool). IsLow (s.events + slack b) layers) merge (subst (λ (l : Layers). IsLow (s.events + slack (has_merge l)) l) (sym same) (sound.low whole)) in
      let up = done_well done fault w ((most : ℕ) → IsLow most layers → IsLow (most + 3) t.layers) finishes.low (s.events + 2) was in
      let none = done_well done fault w (HasNoMerge t.layers) finishes.merge in
      let no : has_merge t.layers ≡ false = ap (λ m. is_some m || is_some t.layers.retiring) none.0 ∙ ap (λ r. is_some r) none.1 in
      subst (λ (b : Bool). IsLow (t.events + slack b) t.layers) (sym no) (low_on (s.events + 2 + 3) (t.events + 4) t.layers (omega (arith, one)) up);
}
  where
    done_well : (r : Result (Unit {0}) StoreFault) → IfSome (breaks (as_change r)) (λ fault. t.broken ≡ Some fault) → t.broken ≡ None → (P : Type 0) → OnOk r P → P
    done_well (Ok u) fault w P p = p
    done_well (Err f) fault w P p = absurd (let never : ◌≡◌ {A = Option StoreFault} (Some f) None = sym fault ∙ w in some_none never)
