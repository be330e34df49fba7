-- What a step of a merge answers and leaves of a shared chain.
use Rattle.std.specs.Prelude.{◌≡◌, ◌≢◌, ◌+◌, ◌-◌, ◌^◌, ◌<◌, ◌≤◌, if◌then◌else◌, nat_lt, ℕ, Bool, true, [], Some, Result, Ok, Err, IfErr, MatchOption, OnOk}
use Rattle.store_model.specs.Disk.{Disk, WhereTold}
use Rattle.ledger.specs.declared.ledger.Ledger.{Ledger}
use Rattle.guest_model.specs.declared.refusal.ChainRefusal.{ChainRefusal}
use Rattle.guest_model.specs.declared.refusal.ChainRefusal.TheVariants as refusals
use Rattle.chain_model.specs.Merges.{with_mark, with_marks}
use Rattle.chain_model.specs.Stripes.{stripe_count}
use Rattle.merge_core.specs.Copied.{marks_of}
use Rattle.merge_core.specs.declared.marks.Marks.{Marks}
use Rattle.merge_core.specs.declared.piece.Piece.{Piece}
use Rattle.chain_core.specs.declared.chain.Chain.{Chain}
use Rattle.chain_core.specs.Sessions.{HasNoMerge, has_merge, kept_marks}
use Rattle.chain_core.specs.Skipping.{HasPassed, PassesSource}
use Rattle.chain_core.specs.declared.layers.Layers.{Layers}
use Rattle.chain_core.specs.States.{IsServing, State}
use Rattle.shared_chain.specs.declared.basis.Note.TheVariants as notes
use Rattle.shared_chain.specs.Bases.{notes_of}
use Rattle.shared_chain.specs.Faults.{fault_after}
use Rattle.shared_chain.specs.Notes.{HasNote, NotesBy, full_after}
use Rattle.shared_chain.specs.Shared.{Shared}
use Rattle.shared_chain.specs.Stamped.{stamp_behind}
use Rattle.shared_chain.specs.Steps.{broke_after, merge_breach}

-- its answer, as those of calls are noted
abbrev pub as_answer : Result (Unit {0}) ChainRefusal → Result ℕ ChainRefusal
as_answer (Ok done) = Ok 0
as_answer (Err x) = Err x

-- how many stripes were passed over, by the answer
abbrev pub passed_by : Result ℕ ChainRefusal → ℕ
passed_by (Ok n) = n
passed_by (Err x) = 0

-- a step of a merge: a stripe is fetched; or what was fetched of it is put, and it is copied; or so many stripes from one on are passed over; or
-- the merge is finished; or what is missing is copied and it is finished
pub data MergeStep : Type 0 where
  fetches : (stripe : ℕ) → MergeStep
  copies : (stripe : ℕ) → MergeStep
  passes : (stripe n : ℕ) → MergeStep
  finishes : MergeStep
  ends : MergeStep

-- how many events it has at most
abbrev pub most_events : MergeStep → ℕ
most_events (fetches stripe) = 1
most_events (copies stripe) = 1
most_events (passes stripe n) = 0
most_events finishes = 1
most_events ends = 2 ^ 34

-- which stripes are known to be copied behind it: that which it copies, if it was done and is one of those that are kept in mind; or of these
-- those that are passed over
abbrev pub copied_behind : MergeStep → Result (Unit {0}) ChainRefusal → Marks → ℕ → Bool
copied_behind (copies stripe) (Ok done) marks t = if nat_lt stripe marks.stripes then with_mark stripe (marks_of marks) t else marks_of marks t
copied_behind (passes stripe n) (Ok done) marks t = if nat_lt t marks.stripes then with_marks stripe n (marks_of marks) t else marks_of marks t
copied_behind step answer marks t = marks_of marks t

-- whether the merge was finished, or none was found, or its end was begun
abbrev pub finished_behind : MergeStep → Result (Unit {0}) ChainRefusal → Bool → Bool
finished_behind finishes (Ok done) finished = true
finished_behind ends answer finished = true
finished_behind (fetches stripe) (Err refusals.NoMerge) finished = true
finished_behind (copies stripe) (Err refusals.NoMerge) finished = true
finished_behind (passes stripe n) (Err refusals.NoMerge) finished = true
finished_behind step answer finished = finished

-- a merge is under way, and this stripe of it is copied
abbrev pub HasMark : ℕ → Layers → Type 0
HasMark stripe layers = MatchOption (kept_marks layers) ⊥ (λ marks. marks_of marks stripe ≡ true)

module _ {S T : Type 0} where
  -- What a step leaves: the beginning and the history stay; it is what broke the session if it is the first that is told so; what it answers is
  -- noted, and what it copied or finished.
  pub record IsStepped (disk : S → Disk) (step : MergeStep) (old new : Shared (Chain S Ledger T)) (answer : Result (Unit {0}) ChainRefusal) : Type 0 where
    pub first : new.first ≡ old.first
    pub history : new.chain.recorder ≡ old.chain.recorder
    pub broke : new.broke ≡ broke_after old.broke merge_breach (as_answer answer)
    pub fault : new.fault ≡ fault_after old.fault (as_answer answer)
    pub full : new.full ≡ full_after old.full (as_answer answer)
    pub later : old.chain.events ≤ new.chain.events
    pub few : new.chain.events ≤ old.chain.events + most_events step
    pub stripes : new.copied.stripes ≡ old.copied.stripes
    pub copied : (t : ℕ) → marks_of new.copied t ≡ copied_behind step answer old.copied t
    pub finished : new.finished ≡ finished_behind step answer old.finished
    pub noted : NotesBy (as_answer answer) (notes_of disk old) (notes_of disk new)

  -- So many stripes from one on are passed over: those of which one look at the source's entries tells that it has nothing, no more than the disk
  -- has. The merge has their marks too, and no other; no file is changed.
  pub record PassesOver (disk : S → Disk) (stripe n : ℕ) (old new : Chain S Ledger T) : Type 0 where
    pub absent : PassesSource stripe n old.layers (disk old.store)
    pub there : stripe + n ≤ stripe_count old.layers.geometry.sector old.layers.geometry.sectors
    pub marked : HasPassed stripe n old.layers new.layers
    pub store : disk new.store ≡ disk old.store

  -- Why a stripe isn't fetched: no merge is under way; the disk has fewer stripes; the count of events is used up; a read failed, which is noted
  -- anew, or whose count is at its end; or a fault has broken the session.
  abbrev pub StopsFetch : (S → Disk) → ℕ → Shared (Chain S Ledger T) → Shared (Chain S Ledger T) → ChainRefusal → Type 0
  StopsFetch disk stripe old new refusals.NoMerge = HasNoMerge new.chain.layers
  StopsFetch disk stripe old new (refusals.NoStripe s stripes) = (s ≡ stripe) × (stripes ≤ stripe) × (stripes ≡ stripe_count new.chain.layers.geometry.sector new.chain.layers.geometry.sectors)
  StopsFetch disk stripe old new (refusals.Spent t) = (2 ^ 63 ≤ t) × (t ≤ new.chain.events)
  StopsFetch disk stripe old new (refusals.ReadFault file count) = HasNote (notes_of disk new) (notes.ReadFailed file count) × (HasNote (notes_of disk old) (notes.ReadFailed file count) → 2 ^ 64 - 1 ≤ count)
  StopsFetch disk stripe old new (refusals.Broken file count) = HasNote (notes_of disk new) (notes.ChangeFailed file count)
  StopsFetch disk stripe old new other = ⊥

  -- Why what was fetched of a stripe isn't put: what stops a fetch of it stops that too; or the target is full; or the stripe has another stamp
  -- now, that of the history, than the piece.
  abbrev pub StopsPut : (S → Disk) → Piece → Shared (Chain S Ledger T) → Shared (Chain S Ledger T) → ChainRefusal → Type 0
  StopsPut disk piece old new (refusals.FileFull next) = HasNote (notes_of disk new) (notes.Full next)
  StopsPut disk piece old new (refusals.Stale taken now) = (taken ≡ piece.stamp) × (now ≡ stamp_behind new.first.layers.retiring new.chain.recorder piece.stripe) × (taken ≢ now)
  StopsPut disk piece old new x = StopsFetch disk piece.stripe old new x

  -- Why a merge isn't finished at the end: the count of events is used up; a file is full, near the greatest place that a block may have, or a
  -- read failed, the merge being under way still; or a fault has broken the session.
  abbrev pub StopsEnd : (S → Disk) → Shared (Chain S Ledger T) → ChainRefusal → Type 0
  StopsEnd disk new (refusals.Spent t) = (2 ^ 63 ≤ t) × (t ≤ new.chain.events)
  StopsEnd disk new (refusals.FileFull next) =
      (has_merge new.chain.layers ≡ true) × HasNote (notes_of disk new) (notes.Full next)
      × WhereTold (disk new.first.store).told (λ trace. (from : State) → IsServing new.first.layers from trace → from.history ≡ [] → 2 ^ 43 < next + 1024)
  StopsEnd disk new (refusals.ReadFault file count) = (has_merge new.chain.layers ≡ true) × (new.fault ≡ Some (record { file = file; count = count }))
  StopsEnd disk new (refusals.Broken file count) = new.chain.broken ≡ Some (record { file = file; count = count })
  StopsEnd disk new other = ⊥

  -- All that was missing of the merge is copied, and it is finished; or that was stopped.
  pub record IsMerged (disk : S → Disk) (old new : Shared (Chain S Ledger T)) (answer : Result (Unit {0}) ChainRefusal) : Type 0 where
    pub stepped : IsStepped disk ends old new answer
    pub done : OnOk answer (HasNoMerge new.chain.layers)
    pub stopped : IfErr answer (StopsEnd disk new)
