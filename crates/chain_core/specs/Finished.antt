-- A merge is finished: below the leaf the child is linked to the target, of the leaf the target stands for it; the source leaves the chain.
use Rattle.std.specs.Prelude.{◌≡◌, ◌≢◌, ◌⊎◌, ◌+◌, ◌-◌, ◌^◌, ◌≤◌, ◌==◌, ⊤, ℕ, true, false, is_some, drop, if◌then◌else◌, List, [], ◌∷◌, ◌++◌, length, map, slice_index, Option, Some, None, Result, Ok, Err, IfErr, IfSome, OnErr, OnOk}
use Rattle.std.specs.List.{AllByRecursion, remove}
use Rattle.vx_base.specs.declared.parts.Geometry.{Geometry}
use Rattle.vhdx_format.specs.declared.log_entry.Page.{Page}
use Rattle.store_model.specs.Disk.{Disk, WhereBothTold, WhereTold}
use Rattle.store_model.specs.Plans.{FailsToChange}
use Rattle.store_model.specs.Trace.{Trace, file_of}
use Rattle.store_model.specs.declared.fault.StoreFault.{StoreFault}
use Rattle.guest_model.specs.declared.refusal.ChainRefusal.{ChainRefusal}
use Rattle.guest_model.specs.declared.refusal.ChainRefusal.TheVariants as refusals
use Rattle.chain_model.specs.Images.{Placed}
use Rattle.chain_model.specs.Layers.{Layer as SectorLayer}
use Rattle.chain_model.specs.Merges.{AllMarked}
use Rattle.layer_session.specs.Calls.{HasCommitted, HasEnded as EndsFile, KeepsOver, own_file}
use Rattle.layer_session.specs.FileLayers.{WaitsForNone, file_numbers}
use Rattle.layer_session.specs.Identifying.{HasIdentified, IdentifiesOver}
use Rattle.layer_session.specs.Keeping.{IsReady}
use Rattle.layer_session.specs.Unnamed.{NamesNoLog}
use Rattle.layer_session.specs.Updating.{HasUpdated, Turns, UpdatesOver}
use Rattle.layer_session.specs.declared.file.Layer.{Layer}
use Rattle.layer_session.specs.declared.file_layer.FileLayer.{FileLayer}
use Rattle.layer_session.specs.declared.file_layer.FileLayer.TheVariants as kind
use Rattle.merge_core.specs.Copied.{IsLowest, marks_of}
use Rattle.chain_core.specs.Answering.{EachOpensNow, HasEnded, IsRefused, fault_of}
use Rattle.chain_core.specs.Copying.{target_number}
use Rattle.chain_core.specs.Ending.{SomeChangeFailed}
use Rattle.chain_core.specs.Sessions.{AreReady, HasNoMerge, IsLow, KeepsMerge, Session, child_layer, is_session_at, kept_marks, leaf_number}
use Rattle.chain_core.specs.States.{IsServing, LeavesOthers, Rest, State, merging, plain, retiring}
use Rattle.chain_core.specs.declared.layers.Layers.{Layers}
use Rattle.chain_core.specs.declared.layers.Underway.{Underway}
use Rattle.chain_core.specs.declared.layers.Retiring.{Retiring}
use Rattle.merge_core.specs.declared.marks.Marks.{Marks}
use Rattle.store_model.specs.File.{is_synced, seen}

-- ---- for every store

-- each stripe of a merge is marked
abbrev pub IsAllMarked : Marks → Type 0
IsAllMarked m = AllMarked m.stripes (marks_of m)

abbrev pub IsAllCopied : Layers → Type 0
IsAllCopied layers = IfSome (kept_marks layers) IsAllMarked

-- The number in the store of the file that a finish changes besides the target: of the child, which is the leaf or the file before the
-- source's place; where the leaf is the source, of the leaf.
abbrev pub number_above : Layers → Option Underway → ℕ
number_above layers None = leaf_number layers
number_above layers (Some u) = if u.source == 0 then leaf_number layers else slice_index (file_numbers layers.below.items) (u.source - 1)

-- a file has the target's number, or that one
abbrev pub IsTargetOrChild : Layers → ℕ → Type 0
IsTargetOrChild layers number = (number ≡ target_number layers) ⊎ (number ≡ number_above layers layers.merge)

-- the numbers of the files below the leaf once the source has left: where it was the leaf, of those below the target
abbrev pub numbers_left : List ℕ → Option Underway → List ℕ
numbers_left numbers None = drop 1 numbers
numbers_left numbers (Some u) = remove numbers u.source

-- and that of the leaf, which is the target where the leaf was the source
abbrev pub leaf_left : Layers → Option Underway → ℕ
leaf_left layers None = target_number layers
leaf_left layers (Some u) = leaf_number layers

-- The merge was finished: each stripe was copied, and the source has left the layers.
pub record HasFinished (old new : Session) : Type 0 where
  pub copied : IsAllCopied old.layers
  pub merge : HasNoMerge new.layers
  pub files : file_numbers new.layers.below.items ≡ numbers_left (file_numbers old.layers.below.items) old.layers.merge
  pub leaf : leaf_number new.layers ≡ leaf_left old.layers old.layers.merge
  pub counts : new.disk ≡ record (old.disk) { told = new.disk.told }
  pub whole : new.broken ≡ None

-- A change of the target, of the child or of the leaf failed, and is the session's fault; the merge goes on.
pub record HasFailedToFinish (old new : Session) (fault : StoreFault) : Type 0 where
  pub copied : IsAllCopied old.layers
  pub merge : KeepsMerge old.layers new.layers
  pub fails : SomeChangeFailed (IsTargetOrChild old.layers) old.disk new.disk fault
  pub broken : new.broken ≡ Some fault

-- What the answer of a finish with a merge under way says: it was done; or that stripe is the lowest without a mark, and P; or a change
-- failed.
abbrev pub FinishCause : Session → Session → Result (Unit {0}) ChainRefusal → Type 0 → Type 0
FinishCause old new (Ok done) P = HasFinished old new
FinishCause old new (Err (refusals.NotYet t)) P = IfSome (kept_marks old.layers) (λ m. IsLowest m.stripes (marks_of m) t) × P
FinishCause old new (Err (refusals.Broken file count)) P = HasFailedToFinish old new (fault_of file count)
FinishCause old new (Err other) P = ⊥

-- ---- where content is told

-- what stands of a file: its number in the store, its name, its identifier and geometry, and its layer
pub record Look : Type 0 where
  pub number : ℕ
  pub name : List ℕ
  pub id : List ℕ
  pub geometry : Geometry
  pub layer : SectorLayer

abbrev pub look_of : Placed → Look
look_of file = record { number = file.number; name = file.member.name; id = file.member.ties.id; geometry = file.member.ties.geometry; layer = file.member.layer }

-- the files below the leaf without the source
abbrev pub left_of : Rest → List Placed
left_of (plain others) = others
left_of (merging above source target below m) = above ++ (target ∷ below)
left_of (retiring target below first before) = below

-- none of these files has the source's name
abbrev pub LacksSource : Rest → List Placed → Type 0
LacksSource (plain others) files = ⊤
LacksSource (merging above source target below m) files = AllByRecursion (λ f. f.member.name ≢ source.member.name) files
LacksSource (retiring target below first before) files = ⊤

-- The session serves the same history from the files that are left, with no merge under way: the source is none of them, and each stands
-- as it did.
pub record IsFinished (v : State) (layers : Layers) (now : Trace) : Type 0 where
  pub top : Placed
  pub others : List Placed
  pub files : map look_of (top ∷ others) ≡ map look_of (v.top ∷ left_of v.rest)
  pub gone : LacksSource v.rest (top ∷ others)
  pub serving : IsServing layers (record v { top = top; rest = plain others }) now

-- the target's file once it is the leaf: with this identifier, it stands else as it did
abbrev pub named_anew : List ℕ → Placed → Look
named_anew id target = record (look_of target) { id = id }

-- The retired leaf: its name, and that of the target, to which it leads; nothing of it is loose.
pub record IsRetired (source target leaf : Placed) : Type 0 where
  pub tight : (s : ℕ) → leaf.is_loose s ≡ false
  pub number : leaf.number ≡ source.number
  pub name : leaf.member.name ≡ source.member.name
  pub leads : leaf.member.ties.retired ≡ Some target.member.name

-- the state behind the merge of a leaf, which is retired, by its new leaf and the files below that
abbrev pub succeeded_by : State → Placed → List Placed → Placed → Trace → State
succeeded_by v top others leaf now = record v {
  top = top;
  rest = plain others;
  retired = v.retired ++ leaf ∷ [];
  writes = λ n. if n == v.top.number then false else v.writes n;
  since = now;
}

-- The session serves the same history from the target, which is the leaf now, under its new identifier, and the files below it as they
-- stood; no other file was changed. The old leaf is retired: nothing of it is unsynced, it names no log, and it isn't changed from then on.
pub record IsSucceeded (id : List ℕ) (v : State) (target : Placed) (below : List Placed) (layers : Layers) (now : Trace) : Type 0 where
  pub top : Placed
  pub others : List Placed
  pub leaf : Placed
  pub files : map look_of (top ∷ others) ≡ named_anew id target ∷ map look_of below
  pub is_retired : IsRetired v.top target leaf
  pub still : LeavesOthers v now
  pub rests : is_synced (file_of now v.top.number) ≡ true
  pub no_log : NamesNoLog (seen (file_of now v.top.number))
  pub serving : IsServing layers (succeeded_by v top others leaf now) now

abbrev pub Succeeds : List ℕ → State → Rest → Layers → Trace → Type 0
Succeeds id v (plain others) layers now = ⊥
Succeeds id v (merging above source target below m) layers now = ⊥
Succeeds id v (retiring target below first before) layers now = IsSucceeded id v target below layers now

-- what a finish makes of a session, by which merge it finishes
abbrev pub LeavesBy : Option Retiring → State → Layers → Trace → Type 0
LeavesBy None v layers now = IsFinished v layers now
LeavesBy (Some r) v layers now = Succeeds r.third v v.rest layers now

-- Done, each moment opens to the history's disk outside the dirty sectors; refused, nothing is changed; or a change failed, and broke the
-- session.
abbrev pub FinishAnswers : Option Retiring → State → Layers → Trace → Trace → Result (Unit {0}) ChainRefusal → Type 0
FinishAnswers r v layers trace now (Ok done) = EachOpensNow v trace now × LeavesBy r v layers now
FinishAnswers r v layers trace now (Err (refusals.Broken file count)) = HasEnded v trace now
FinishAnswers r v layers trace now (Err other) = IsRefused v layers trace now

abbrev pub FinishTold : Session → Session → Result (Unit {0}) ChainRefusal → Type 0
FinishTold old new result =
    WhereBothTold (λ trace now. (v : State) → IsServing old.layers v trace → FinishAnswers old.layers.retiring v new.layers trace now result) old.disk.told new.disk.told

-- ---- of the layers

abbrev pub FinishesTo : Option Retiring → State → Layers → Trace → Trace → Result (Unit {0}) StoreFault → Type 0
FinishesTo r v layers trace now (Ok done) = EachOpensNow v trace now × LeavesBy r v layers now
FinishesTo r v layers trace now (Err fault) = HasEnded v trace now

-- A merge whose stripes are all copied is finished, or a change of target or child failed.
pub record Finishes (old new : Layers) (before after : Disk) (result : Result (Unit {0}) StoreFault) : Type 0 where
  pub told : WhereBothTold (λ trace now. (v : State) → IsServing old v trace → FinishesTo old.retiring v new trace now result) before.told after.told
  pub ready : OnOk result (AreReady new after)
  pub low : OnOk result ((most : ℕ) → IsLow most old → IsLow (most + 3) new)
  pub session : is_some new.leaf ≡ is_some old.leaf
  pub geometry : new.geometry ≡ old.geometry
  pub merge : OnOk result (HasNoMerge new)
  pub files : OnOk result (file_numbers new.below.items ≡ numbers_left (file_numbers old.below.items) old.merge)
  pub leaf : OnOk result (leaf_number new ≡ leaf_left old old.merge)
  pub stays : OnErr result (KeepsMerge old new)
  pub counts : OnOk result (after ≡ record before { told = after.told })
  pub err : IfErr result (SomeChangeFailed (IsTargetOrChild old) before after)

-- ---- of the small functions

-- What is judged of a merge by its marks.
abbrev pub IsJudged : Option Marks → Result (Unit {0}) ChainRefusal → Type 0
IsJudged None result = result ≡ Err refusals.NoMerge
IsJudged (Some m) (Ok done) = IsAllMarked m
IsJudged (Some m) (Err (refusals.NotYet t)) = IsLowest m.stripes (marks_of m) t
IsJudged (Some m) (Err other) = ⊥

-- An entry of a file's log is committed: `over` from the begin to the end, and with Ok `done`.
pub record Commits (over done : Trace → Trace → Type 0) (was now : Layer) (before after : Disk) (result : Result (Unit {0}) StoreFault) : Type 0 where
  pub moments : WhereBothTold over before.told after.told
  pub has : OnOk result (WhereBothTold done before.told after.told)
  pub ready : OnOk result (IsReady now after)
  pub empty : OnOk result (now.tables.pending ≡ [])
  pub number : now.log.number ≤ was.log.number + 1
  pub header : now.log.header ≡ was.log.header
  pub parts : now.tables.parts ≡ was.tables.parts
  pub counts : OnOk result (after ≡ record before { told = after.told })
  pub err : IfErr result (FailsToChange (own_file was) before after)

abbrev pub Settles : Layer → Layer → Disk → Disk → Result (Unit {0}) StoreFault → Type 0
Settles was now before after result = Commits (KeepsOver was) (HasCommitted was now) was now before after result

abbrev pub UpdatesBy : List Page → Layer → Layer → Disk → Disk → Result (Unit {0}) StoreFault → Type 0
UpdatesBy pages was now before after result = Commits (UpdatesOver was pages) (HasUpdated was now pages) was now before after result

-- the layer at a place is another
pub record IsReplaced (at : ℕ) (was now : Layer) (old new : List FileLayer) : Type 0 where
  pub above : List FileLayer
  pub below : List FileLayer
  pub place : length above ≡ at
  pub was_there : old ≡ above ++ kind.Session was ∷ below
  pub now_there : new ≡ above ++ kind.Session now ∷ below

-- At a place of the chain, the leaf's being 0, a file in a session has another layer; the others' stay.
pub data IsExchanged (place : ℕ) (was now : Layer) (old new : Layers) : Type 0 where
  at_leaf : place ≡ 0 → old.leaf ≡ Some was → new.leaf ≡ Some now → new.below ≡ old.below → IsExchanged place was now old new
  at_lower : (at : ℕ) → place ≡ at + 1 → new.leaf ≡ old.leaf → IsReplaced at was now old.below.items new.below.items → IsExchanged place was now old new

-- `change` is done to the file at a place of the layers below the leaf; and at one of the chain.
pub record ChangesAt (change : Layer → Layer → Disk → Disk → Result (Unit {0}) StoreFault → Type 0) (at : ℕ) (old new : List FileLayer) (before after : Disk) (result : Result (Unit {0}) StoreFault) : Type 0 where
  pub was : Layer
  pub now : Layer
  pub replaced : IsReplaced at was now old new
  pub changed : change was now before after result

pub record ChangesFile (change : Layer → Layer → Disk → Disk → Result (Unit {0}) StoreFault → Type 0) (place : ℕ) (old new : Layers) (before after : Disk) (result : Result (Unit {0}) StoreFault) : Type 0 where
  pub was : Layer
  pub now : Layer
  pub geometry : new.geometry ≡ old.geometry
  pub merge : new.merge ≡ old.merge
  pub retiring : new.retiring ≡ old.retiring
  pub exchanged : IsExchanged place was now old new
  pub changed : change was now before after result

-- the file at a place of the chain is in a session
abbrev pub IsSessionOf : Layers → ℕ → Type 0
IsSessionOf layers place = (if place == 0 then is_some layers.leaf else is_session_at layers.below.items (place - 1)) ≡ true

-- nothing of the child of a merge waits for a commit
abbrev pub ChildIsSettled : Layers → Underway → Type 0
ChildIsSettled layers u = IfSome (child_layer layers.leaf layers.below.items u.source) WaitsForNone

-- ---- of the finish of the leaf's merge

-- The data of a file in a session get another identifier.
pub record Identifies (id : List ℕ) (was now : Layer) (before after : Disk) (result : Result (Unit {0}) StoreFault) : Type 0 where
  pub moments : WhereBothTold (IdentifiesOver was id) before.told after.told
  pub has : OnOk result (WhereBothTold (HasIdentified was now id) before.told after.told)
  pub ready : OnOk result (IsReady now after)
  pub number : now.log.number ≡ was.log.number
  pub parts : now.tables.parts ≡ was.tables.parts
  pub counts : OnOk result (after ≡ record before { told = after.told })
  pub err : IfErr result (FailsToChange (own_file was) before after)

-- The target's retired name is taken away by the pages for it; where there are none nothing is done.
abbrev pub Clears : Option (List Page) → Layers → Layers → Disk → Disk → Result (Unit {0}) StoreFault → Type 0
Clears None old new before after result = (result ≡ Ok tt) × (new ≡ old) × (after ≡ before)
Clears (Some pages) old new before after result = ChangesFile (UpdatesBy pages) 1 old new before after result

-- Pages can be committed to the leaf's metadata: it can be written, nothing of it waits for a commit, and where the store tells its content
-- they turn its metadata.
pub record CanBeRetired (pages : List Page) (disk : Disk) (leaf : Layer) : Type 0 where
  pub ready : IsReady leaf disk
  pub waits : leaf.tables.pending ≡ []
  pub number : leaf.log.number ≤ 2 ^ 63 + 8
  pub few : length pages ≤ 120
  pub turns : WhereTold disk.told (Turns leaf pages)

-- A file's session can end.
pub record CanEnd (disk : Disk) (leaf : Layer) : Type 0 where
  pub ready : IsReady leaf disk
  pub number : leaf.log.number ≤ 2 ^ 63 + 8

-- The first file below the leaf is the leaf, and the old leaf's session has ended.
pub record HandsOver (old new : Layers) (before after : Disk) (result : Result (Unit {0}) StoreFault) : Type 0 where
  pub leaf : Layer
  pub target : Layer
  pub rest : List FileLayer
  pub was : old.leaf ≡ Some leaf
  pub was_there : old.below.items ≡ kind.Session target ∷ rest
  pub now : new.leaf ≡ Some target
  pub left : new.below.items ≡ rest
  pub geometry : new.geometry ≡ old.geometry
  pub merge : new.merge ≡ old.merge
  pub retiring : new.retiring ≡ old.retiring
  pub moments : WhereBothTold (KeepsOver leaf) before.told after.told
  pub ended : OnOk result (WhereBothTold (EndsFile leaf) before.told after.told)
  pub counts : OnOk result (after ≡ record before { told = after.told })
  pub err : IfErr result (FailsToChange (own_file leaf) before after)
