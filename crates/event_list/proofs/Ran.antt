-- What the functions say of the events that they answer.
use Rattle.std.proofs.Common.{◌≡◌, ◌<◌, ◌≤◌, ◌+◌, ℕ, List, [], ◌∷◌, ◌++◌, All, get_or, length, set, take, Option, Some, None, Result, Err, refl, sym, ap, subst, ◌∙◌, append_assoc, arith}
use Rattle.std.specs.Prelude.{IfSome}
use Rattle.std.proofs.lemmas.List.{take_more}
use Rattle.std.proofs.lemmas.List.Elements.{All-get_or, All-more, All-set, All-weaker}
use Rattle.vx_base.specs.declared.parts.Geometry.{Geometry}
use Rattle.store_model.specs.Disk.{Disk}
use Rattle.guest_model.specs.declared.call.Entry.{Entry}
use Rattle.guest_model.specs.declared.refusal.ChainRefusal.{ChainRefusal}
use Rattle.merge_core.specs.declared.piece.Piece.{Piece}
use Rattle.chain_core.specs.declared.chain.Chain.{Chain}
use Rattle.chain_core.specs.Sessions.{IsCounted, Session, seen}
use Rattle.script_session.specs.Answers.{IsSlot}
use Rattle.script_session.specs.MergeSteps.{IsUnchanged}
use Rattle.event_list.specs.Answered.{AnswersEvent, AnswersEvents, IsBelow, RunsFrom}
use Rattle.event_list.specs.declared.event.Event.{Event}
use Rattle.event_list.specs.declared.event.Event.TheVariants.{Guest, Fetch, Put, Finish}
use Rattle.event_list.specs.declared.event.EventAnswer.{EventAnswer}

-- ---- a call that is refused before it reaches the files

pub early_seen : {S R T : Type 0} (disk : S → Disk) (noted : R → ℕ) (told : R → Option (List Entry)) (old new : Chain S R T) (o : Option ChainRefusal) (answer : Result ℕ ChainRefusal)
    → IfSome o (λ e. (answer ≡ Err e) × IsCounted old new) → IfSome o (λ e. (answer ≡ Err e) × IsUnchanged (seen disk noted told old) (seen disk noted told new))
early_seen disk noted told old new None answer h = tt
early_seen disk noted told old new (Some e) answer h = (h.0, ap (seen disk noted told) h.1)

-- ---- slots

-- the pieces fit the disk, one of them being another
pub slots_set : (g h : Geometry) (pieces : List Piece) (slot : ℕ) (now : Piece) → h ≡ g → IsSlot h now → All (IsSlot g) pieces → All (IsSlot h) (set pieces slot now)
slots_set g h pieces slot now same fits all = All-set (IsSlot h) pieces slot now fits (subst (λ k. All (IsSlot k) pieces) (sym same) all)

pub slots_still : (g h : Geometry) (pieces : List Piece) → h ≡ g → All (IsSlot g) pieces → All (IsSlot h) pieces
slots_still g h pieces same all = subst (λ k. All (IsSlot k) pieces) (sym same) all

-- ---- one event

-- the geometry stays
pub event_geometry : (event : Event) (answer : EventAnswer) (old new : Session) (pieces left : List Piece) → AnswersEvent event answer old pieces new left → new.layers.geometry ≡ old.layers.geometry
event_geometry (Guest who call) answer old new pieces left h = h.2.geometry
event_geometry (Fetch slot stripe) answer old new pieces left h = h.2.fetched.keeps.geometry
event_geometry (Put slot) answer old new pieces left h = h.2.put.keeps.geometry
event_geometry Finish answer old new pieces left h = h.2.finished.keeps.geometry

-- ---- one more

answers_more : (events : List Event) (answers : List EventAnswer) (event : Event) (answer : EventAnswer) (old mid new : Session) (pieces held left : List Piece) → AnswersEvents events answers old pieces mid held → AnswersEvent event answer mid held new left
    → AnswersEvents (events ++ event ∷ []) (answers ++ answer ∷ []) old pieces new left
answers_more [] [] event answer old mid new pieces held left is next =
    (new, left, subst (λ s. AnswersEvent event answer s pieces new left) is.0 (subst (λ ps. AnswersEvent event answer mid ps new left) is.1 next), (refl, refl))
answers_more [] (a ∷ answers) event answer old mid new pieces held left is next = absurd is
answers_more (e ∷ events) [] event answer old mid new pieces held left is next = absurd is
answers_more (e ∷ events) (a ∷ answers) event answer old mid new pieces held left is next =
    (is.0, is.1, is.2, answers_more events answers event answer is.0 mid new is.1 held left is.3 next)

runs_more : (events : List Event) (event : Event) (answer : EventAnswer) (before was after : List EventAnswer) (old mid new : Session) (pieces held left : List Piece) → RunsFrom events before was old pieces mid held → AnswersEvent event answer mid held new left
    → after ≡ was ++ answer ∷ [] → RunsFrom (events ++ event ∷ []) before after old pieces new left
runs_more events event answer before was after old mid new pieces held left h next is = record {
  answers = h.answers ++ answer ∷ [];
  added = is ∙ ap (λ first. first ++ answer ∷ []) h.added ∙ append_assoc before h.answers (answer ∷ []);
  answered = answers_more events h.answers event answer old mid new pieces held left h.answered next;
}

pub runs_next : (events : List Event) (i : ℕ) (event d : Event) (answer : EventAnswer) (before was after : List EventAnswer) (old mid new : Session) (pieces held left : List Piece) → i < length events → event ≡ get_or events i d
    → RunsFrom (take i events) before was old pieces mid held → AnswersEvent event answer mid held new left → after ≡ was ++ answer ∷ [] → RunsFrom (take (i + 1) events) before after old pieces new left
runs_next events i event d answer before was after old mid new pieces held left inside here h next is =
    subst (λ es. RunsFrom es before after old pieces new left) (sym (take_more events i d inside))
    (subst (λ e. RunsFrom (take i events ++ e ∷ []) before after old pieces new left) here (runs_more (take i events) event answer before was after old mid new pieces held left h next is))

-- ---- how many slots are needed

below_more : (a b : ℕ) (event : Event) → a ≤ b → IsBelow a event → IsBelow b event
below_more a b (Guest who call) le h = tt
below_more a b (Fetch slot stripe) le h = omega (arith, h, le)
below_more a b (Put slot) le h = omega (arith, h, le)
below_more a b Finish le h = tt

-- those of one more event
pub all_below : (events : List Event) (i a b count : ℕ) (event d : Event) → i < length events → event ≡ get_or events i d → a ≤ count → b ≤ count → All (IsBelow a) (take i events) → IsBelow b event → All (IsBelow count) (take (i + 1) events)
all_below events i a b count event d inside here old new all one =
    All-more (IsBelow count) events i d inside (All-weaker (IsBelow a) (IsBelow count) (λ e. below_more a count e old) (take i events) all)
    (subst (IsBelow count) here (below_more b count event new one))

-- what is so of all is so of one
pub at_least : (events : List Event) (i : ℕ) (event d : Event) (most : ℕ) → i < length events → event ≡ get_or events i d → All (IsBelow most) events → IsBelow most event
at_least events i event d most inside here all = subst (IsBelow most) (sym here) (All-get_or (IsBelow most) events i d inside all)
