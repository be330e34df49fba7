-- Answered events are told the history and how a merge stands.
use Rattle.std.proofs.Common.{◌≡◌, ◌<◌, ◌≤◌, ◌+◌, ◌^◌, ℕ, List, [], ◌∷◌, ◌++◌, All, false, length, map, Option, Some, None, Err, refl, sym, ap, subst, ◌∙◌, arith}
use Rattle.std.specs.List.{AllByRecursion}
use Rattle.std.proofs.lemmas.List.Elements.{All-same}
use Rattle.vx_base.specs.declared.parts.Geometry.{Geometry}
use Rattle.store_model.specs.Disk.{WhereTold}
use Rattle.store_model.specs.Trace.{Trace}
use Rattle.merge_core.specs.declared.piece.Piece.{Piece}
use Rattle.chain_core.specs.Sessions.{AtMostOne, IsSound, Session}
use Rattle.chain_core.specs.States.{IsServing, State}
use Rattle.chain_core.specs.declared.layers.Layers.{Layers}
use Rattle.chain_core.specs.declared.layers.Retiring.{Retiring}
use Rattle.chain_core.specs.declared.layers.Underway.{Underway}
use Rattle.script_session.specs.Histories.{Break, Drive, Grows, IsLater, IsOver, IsSoLong, all_names, below_marked, leaf_marked, names_left}
use Rattle.script_session.proofs.LeftFiles.{later_itself, name_of}
use Rattle.script_session.proofs.Lengths.{end_later, grows_none, grows_on, long_later, writes_before}
use Rattle.script_session.proofs.Marked.{none_plain}
use Rattle.event_list.specs.Answered.{AnswersEvent, AnswersEvents, RunsFrom}
use Rattle.event_list.specs.Histories.{AreTold, HasRun, IsAt, IsFullTold, IsRecorded, Stage, Stands, TellsEvents, drive_of, event_told, no_merge, none_left, serves, stage_in, stage_of}
use Rattle.event_list.specs.declared.event.Event.{Event}
use Rattle.event_list.specs.declared.event.Event.TheVariants.{Guest, Fetch, Put, Finish}
use Rattle.event_list.specs.declared.event.EventAnswer.{EventAnswer}
use Rattle.event_list.specs.declared.event.EventAnswer.TheVariants.{Reply, Stamp, Copied, Finished, Refused}
use Rattle.event_list.proofs.CallsTold.{call_told}
use Rattle.event_list.proofs.Exchanged.{HoldsEach, all_get}
use Rattle.event_list.proofs.MergeTold.{fetch_told, finish_told, put_told}
use Rattle.event_list.proofs.OneTold.{EventTold, StandsWith, serves_with, stands_out}

-- ---- one event

one_told : (drive : Drive) (event : Event) (answer : EventAnswer) (v : State) (stage : Stage) (broken : Option Break) (old new : Session) (pieces left : List Piece) (trace : Trace) → IsOver drive v old → old.disk.told ≡ Some trace
    → StandsWith v old pieces trace stage broken → old.events < 2 ^ 63 → AnswersEvent event answer old pieces new left → EventTold drive event answer v stage broken old.events trace new left
one_told drive (Guest who call) answer v stage broken old new pieces left trace over seen stands few h =
    subst (λ ps. EventTold drive (Guest who call) answer v stage broken old.events trace new ps) (sym h.3)
    (subst (λ a. EventTold drive (Guest who call) a v stage broken old.events trace new pieces) (sym h.1) (call_told drive who call v stage old new pieces over trace seen broken stands few h.0 h.2))
one_told drive (Fetch slot stripe) answer v stage broken old new pieces left trace over seen stands few h =
    subst (λ a. EventTold drive (Fetch slot stripe) a v stage broken old.events trace new left) (sym h.1) (fetch_told drive v old new pieces left over trace seen few slot stripe stage broken h.0 stands h.2)
one_told drive (Put slot) answer v stage broken old new pieces left trace over seen stands few h =
    subst (λ a. EventTold drive (Put slot) a v stage broken old.events trace new left) (sym h.1) (put_told drive v old new pieces left over trace seen few slot stage broken h.0 stands h.2)
one_told drive Finish answer v stage broken old new pieces left trace over seen stands few h =
    subst (λ a. EventTold drive Finish a v stage broken old.events trace new left) (sym h.1) (finish_told drive v old new pieces left over trace seen few stage broken h.0 stands h.2.finished h.3)

-- ---- one after the other

-- what was told of a file's end is so later
full_later : (P Q : ℕ → Type 0) → ((next : ℕ) → P next → Q next) → (answer : EventAnswer) → IsFullTold P answer → IsFullTold Q answer
full_later P Q f (Reply place r) h = tt
full_later P Q f (Stamp stamp) h = tt
full_later P Q f Copied h = tt
full_later P Q f Finished h = tt
full_later P Q f (Refused refusal) h = end_later P Q f (Err refusal) h

fulls_later : (P Q : ℕ → Type 0) → ((next : ℕ) → P next → Q next) → (answers : List EventAnswer) → AllByRecursion (IsFullTold P) answers → AllByRecursion (IsFullTold Q) answers
fulls_later P Q f [] h = tt
fulls_later P Q f (answer ∷ answers) h = (full_later P Q f answer h.0, fulls_later P Q f answers h.1)

-- what the events were told, from any session on
record AllTold (drive : Drive) (events : List Event) (answers : List EventAnswer) (v : State) (stage : Stage) (broken : Option Break) (trace : Trace) (new : Session) (left : List Piece) : Type 0 where
  later : State
  now : Trace
  end : Stage
  after : Option Break
  told_so : AreTold drive v.history stage broken events answers later.history end after
  same : IsLater v later.history later
  over : IsOver drive later new
  seen : new.disk.told ≡ Some now
  stands : StandsWith later new left now end after
  full : AllByRecursion (IsFullTold (IsSoLong v.writes now)) answers
  grows : Grows trace now

all_told : (drive : Drive) (events : List Event) (answers : List EventAnswer) (v : State) (stage : Stage) (broken : Option Break) (old new : Session) (pieces left : List Piece) (trace : Trace) → IsOver drive v old → old.disk.told ≡ Some trace
    → StandsWith v old pieces trace stage broken → old.events + length events ≤ 2 ^ 63 → AnswersEvents events answers old pieces new left → AllTold drive events answers v stage broken trace new left
all_told drive [] [] v stage broken old new pieces left trace over seen stands few is =
    subst (λ s. AllTold drive [] [] v stage broken trace s left) (sym is.0) (subst (λ ps. AllTold drive [] [] v stage broken trace old ps) (sym is.1) (record {
      later = v;
      now = trace;
      end = stage;
      after = broken;
      told_so = none_left v.history stage broken;
      same = later_itself v;
      over = over;
      seen = seen;
      stands = stands;
      full = tt;
      grows = grows_none trace;
    }))
all_told drive [] (a ∷ answers) v stage broken old new pieces left trace over seen stands few is = absurd is
all_told drive (e ∷ events) [] v stage broken old new pieces left trace over seen stands few is = absurd is
all_told drive (e ∷ events) (a ∷ answers) v stage broken old new pieces left trace over seen stands few is =
    let mid = is.0 in
    let one = one_told drive e a v stage broken old mid pieces is.1 trace over seen stands (omega (arith, few)) is.2 in
    let rest = all_told drive events answers one.state one.on one.after mid new is.1 left one.now one.over one.seen one.stands (omega (arith, few, one.few)) is.3 in
    record {
      later = rest.later;
      now = rest.now;
      end = rest.end;
      after = rest.after;
      told_so = event_told v.history rest.later.history stage one.on rest.end broken one.after rest.after e events a answers one.told_so
          (subst (λ h. AreTold drive h one.on one.after events answers rest.later.history rest.end rest.after) (sym one.history) rest.told_so);
      same = one.same rest.later.history rest.later rest.same;
      over = rest.over;
      seen = rest.seen;
      stands = rest.stands;
      full = (
        full_later (IsSoLong v.writes one.now) (IsSoLong v.writes rest.now) (λ n. long_later v.writes v.writes one.now rest.now n (λ k e. e) rest.grows) a one.full,
        fulls_later (IsSoLong one.state.writes rest.now) (IsSoLong v.writes rest.now) (λ n. long_later one.state.writes v.writes rest.now rest.now n (writes_before v one.state one.same) (grows_none rest.now)) answers rest.full,
      );
      grows = grows_on trace one.now rest.now one.grows rest.grows;
    }

-- ---- where they begin

begins_at : (layers : Layers) (u : Option Underway) (r : Option Retiring) → layers.merge ≡ u → layers.retiring ≡ r → AtMostOne u r → IsAt layers (stage_in u r)
begins_at layers None None under alone one = (under, alone)
begins_at layers None (Some r) under leaf one = leaf_marked r under leaf (λ t. refl)
begins_at layers (Some u) r under leaf one = below_marked u under (leaf ∙ one) (λ t. refl)

begins_empty : (v : State) (g : Geometry) (pieces : List Piece) (u : Option Underway) (r : Option Retiring) → All (λ piece. piece.filled ≡ false) pieces → HoldsEach v g pieces (stage_in u r)
begins_empty v g pieces None None empty = tt
begins_empty v g pieces None (Some r) empty = λ slot piece is. all_get (λ piece. piece.filled ≡ false) pieces slot piece empty is
begins_empty v g pieces (Some u) r empty = λ slot piece is. all_get (λ piece. piece.filled ≡ false) pieces slot piece empty is

begins_over : (v : State) (s : Session) (trace : Trace) → IsSound s → IsServing s.layers v trace → IsRecorded v s → IsOver (drive_of v s) v s
begins_over v s trace sound serving recorded = record {
  geometry = refl;
  change = refl;
  opening = refl;
  sector = ap (λ (g : Geometry). g.sector) (sym serving.geometry) ∙ sound.sector;
  noted = recorded.noted;
  kept = recorded.kept;
}

-- once the merge is finished the chain is without the source
without_source : (v later : State) (s : Session) (now : Trace) (end : Stage) (broken : Option Break) → IsLater v later.history later → Stands later s now end broken → broken ≡ None → end ≡ no_merge → all_names later ≡ names_left v
without_source v later s now end None same (serves whole serving at) none done =
    let gone = subst (IsAt s.layers) done at in
    let plain_is = none_plain _ later.writes later.history s.layers s.layers.merge s.layers.retiring later.top later.rest gone.0 gone.1 serving.course serving.leaving in
    ap (map name_of) (sym plain_is) ∙ same.names
without_source v later s now end (Some b) same stands none done = let bad : ◌≡◌ {A = Option Break} (Some b) None = none in absurd (cc)

pub tells_events : (events : List Event) (answers : List EventAnswer) (old new : Session) (pieces left : List Piece) → IsSound old → All (λ piece. piece.filled ≡ false) pieces → AnswersEvents events answers old pieces new left
    → old.broken ≡ None → old.events + length events ≤ 2 ^ 63 → WhereTold old.disk.told (λ trace. (v : State) → IsServing old.layers v trace → IsRecorded v old → TellsEvents events answers v trace old new)
tells_events events answers old new pieces left sound empty answered whole few trace seen v serving recorded =
    let at = begins_at old.layers old.layers.merge old.layers.retiring refl refl (sound.ready whole).one in
    let begun : StandsWith v old pieces trace (stage_of old.layers) None = serves_with whole serving at (begins_empty v old.layers.geometry pieces old.layers.merge old.layers.retiring empty) in
    let all = all_told (drive_of v old) events answers v (stage_of old.layers) None old new pieces left trace (begins_over v old trace sound serving recorded) seen begun few answered in
    let stands = stands_out all.later new left all.now all.end all.after all.stands in
    record {
      later = all.later;
      now = all.now;
      end = all.end;
      broken = all.after;
      seen = all.seen;
      told_so = all.told_so;
      same = all.same;
      over = all.over;
      stands = stands;
      without = without_source v all.later new all.now all.end all.after all.same stands;
      full = all.full;
      grows = all.grows;
    }

-- the events that a session has answered, from slots on with nothing in them
pub has_run : (events : List Event) (before was after : List EventAnswer) (old new : Session) (items pieces left : List Piece) → IsSound old → All (λ piece. piece.filled ≡ false) items → pieces ≡ items → was ≡ before
    → RunsFrom events was after old pieces new left → HasRun events before after old new
has_run events before was after old new items pieces left sound empty here same h = record {
  answers = h.answers;
  added = h.added ∙ ap (λ first. first ++ h.answers) same;
  pieces = pieces;
  left = left;
  empty = none;
  answered = h.answered;
  told = tells_events events h.answers old new pieces left sound none h.answered;
}
  where
    none : All (λ piece. piece.filled ≡ false) pieces
    none = All-same (λ piece. piece.filled ≡ false) pieces items here empty
