-- Stripes of which the source of a merge has nothing are passed over: they count as copied.
use Rattle.std.specs.Prelude.{◌≡◌, ⊤, ◌+◌, ◌^◌, ◌≤◌, ℕ, List, Option, Some, None, Result, Ok, Err, IfErr, IfOk, IfSome, OnOk, map, option_map, slice_index_or}
use Rattle.store_model.specs.Disk.{Disk, WhereBothTold, WhereTold}
use Rattle.store_model.specs.Trace.{Trace}
use Rattle.store_model.specs.declared.fault.StoreFault.{StoreFault}
use Rattle.guest_model.specs.declared.refusal.ChainRefusal.{ChainRefusal}
use Rattle.guest_model.specs.declared.refusal.ChainRefusal.TheVariants as refusals
use Rattle.table_pages.specs.declared.tables.Tables.{Tables}
use Rattle.chain_model.specs.Images.{Placed}
use Rattle.chain_model.specs.Merges.{LacksStripes, with_marks}
use Rattle.chain_model.specs.Stripes.{stripe_count}
use Rattle.layer_session.specs.Absent.{tables_of}
use Rattle.layer_session.specs.ReadOnly.{SomeReadFailed}
use Rattle.layer_session.specs.declared.file.Layer.{Layer}
use Rattle.layer_session.specs.declared.file_layer.FileLayer.{FileLayer}
use Rattle.merge_core.specs.Copied.{marks_of}
use Rattle.merge_core.specs.Passing.{PassesStripes}
use Rattle.chain_core.specs.Answering.{EachOpensNow, IsRefused, fault_of}
use Rattle.chain_core.specs.Copying.{IsMarked, IsMarkedToo, source_number}
use Rattle.chain_core.specs.Reading.{HasOnlyRead}
use Rattle.chain_core.specs.Sessions.{AreReady, KeepsMerge, Session, leaf_number, log_numbers}
use Rattle.chain_core.specs.States.{IsServing, Rest, State, merging, plain, retiring, sector_of}
use Rattle.chain_core.specs.declared.layers.Layers.{Layers}
use Rattle.chain_core.specs.declared.layers.Retiring.{Retiring}
use Rattle.chain_core.specs.declared.layers.Underway.{Underway}

-- ---- the source

-- the tables of the merge's source: of the leaf, or of the file at its place
abbrev pub tables_at : Option Layer → List FileLayer → Option Underway → Option Tables
tables_at leaf below None = option_map (λ (l : Layer). l.tables) leaf
tables_at leaf below (Some u) = slice_index_or (map (λ l. Some (tables_of l)) below) u.source None

abbrev pub source_tables : Layers → Option Tables
source_tables layers = tables_at layers.leaf layers.below.items layers.merge

-- Stripes from one on are passed over as far as one look at the entries of the source tells.
abbrev pub PassesSource : ℕ → ℕ → Layers → Disk → Type 0
PassesSource from n layers disk = IfSome (source_tables layers) (λ t. PassesStripes t disk layers.geometry from n)

-- the source of the merge under way has no sector of so many stripes from one on
abbrev pub SourceLacks : ℕ → ℕ → ℕ → Placed → Rest → Type 0
SourceLacks z from n top (plain others) = ⊤
SourceLacks z from n top (merging above source target below m) = LacksStripes z from n source.member.layer
SourceLacks z from n top (retiring target below first before) = LacksStripes z from n top.member.layer

-- ---- what is marked

-- the files below the leaf, so many stripes from one on being copied too
abbrev pub passed_on : ℕ → ℕ → Rest → Rest
passed_on from n (plain others) = plain others
passed_on from n (merging above source target below m) = merging above source target below (record m { marks = with_marks from n m.marks })
passed_on from n (retiring target below first before) = retiring target below first before

-- the state behind that: files and history are as they were
abbrev pub with_passed : ℕ → ℕ → State → State
with_passed from n v = record v { rest = passed_on from n v.rest }

-- the same merge, with these marks too
abbrev pub MarksRun : ℕ → ℕ → Option Underway → Option Underway → Type 0
MarksRun from n None None = ⊤
MarksRun from n None (Some new) = ⊥
MarksRun from n (Some old) None = ⊥
MarksRun from n (Some old) (Some new) = IsMarked (with_marks from n (marks_of old.marks)) old new

-- and of the leaf
abbrev pub MarksRunToo : ℕ → ℕ → Option Retiring → Option Retiring → Type 0
MarksRunToo from n None None = ⊤
MarksRunToo from n None (Some new) = ⊥
MarksRunToo from n (Some old) None = ⊥
MarksRunToo from n (Some old) (Some new) = IsMarkedToo (with_marks from n (marks_of old.marks)) old new

abbrev pub HasPassed : ℕ → ℕ → Layers → Layers → Type 0
HasPassed from n old new = MarksRun from n old.merge new.merge × MarksRunToo from n old.retiring new.retiring

-- where it fails the marks stay
abbrev pub PassesMarks : ℕ → Layers → Layers → Result ℕ StoreFault → Type 0
PassesMarks from old new (Ok n) = HasPassed from n old new
PassesMarks from old new (Err fault) = KeepsMerge old new

-- ---- the event

-- The stripes were passed over: no file is changed, and the session serves the history with them.
pub record IsPassed (from n : ℕ) (v : State) (layers : Layers) (trace now : Trace) : Type 0 where
  pub moments : EachOpensNow v trace now
  pub serving : IsServing layers (with_passed from n v) now

abbrev pub SkipAnswers : ℕ → State → Layers → Trace → Trace → Result ℕ ChainRefusal → Type 0
SkipAnswers from v layers trace now (Ok n) = IsPassed from n v layers trace now
SkipAnswers from v layers trace now (Err refusal) = IsRefused v layers trace now

abbrev pub SkipTold : ℕ → Session → Session → Result ℕ ChainRefusal → Type 0
SkipTold from old new result = WhereBothTold (λ trace now. (v : State) → IsServing old.layers v trace → SkipAnswers from v new.layers trace now result) old.disk.told new.disk.told

-- What the answer says that reached the files: so many stripes from one on, no more than the disk has, are marked, and no other; or a read of
-- the source's file failed, and the marks stay.
abbrev pub SkipCause : ℕ → Session → Session → Result ℕ ChainRefusal → Type 0
SkipCause from old new (Ok n) =
    HasPassed from n old.layers new.layers × PassesSource from n old.layers old.disk × (from + n ≤ stripe_count old.layers.geometry.sector old.layers.geometry.sectors) × (new.disk ≡ old.disk) × (new.broken ≡ None)
SkipCause from old new (Err (refusals.ReadFault file count)) =
    KeepsMerge old.layers new.layers × (file ≡ source_number old.layers) × SomeReadFailed old.disk new.disk (fault_of file count) × (new.broken ≡ None)
SkipCause from old new (Err other) = ⊥

-- ---- of the small functions

-- It is found how many stripes from one on the source has nothing of.
pub record FindsPassed (from : ℕ) (old new : Layers) (before after : Disk) (result : Result ℕ StoreFault) : Type 0 where
  pub reads : HasOnlyRead old new before after
  pub there : IfOk result (λ n. from + n ≤ stripe_count old.geometry.sector old.geometry.sectors)
  pub few : IfOk result (λ n. from + n ≤ 2 ^ 26)
  pub passes : IfOk result (λ n. PassesSource from n old before)
  pub lacks : IfOk result (λ n. WhereTold before.told (λ trace. (v : State) → IsServing old v trace → SourceLacks (sector_of v) from n v.top v.rest))
  pub stays : OnOk result (after ≡ before)
  pub err : IfErr result (SomeReadFailed before after)
  pub whose : IfErr result (λ fault. fault.file ≡ source_number old)

-- the state that is served behind it
abbrev pub behind_pass : ℕ → State → Result ℕ StoreFault → State
behind_pass from v (Ok n) = with_passed from n v
behind_pass from v (Err fault) = v

-- They are marked.
pub record SkipsStripes (from : ℕ) (old new : Layers) (before after : Disk) (result : Result ℕ StoreFault) : Type 0 where
  pub geometry : new.geometry ≡ old.geometry
  pub numbers : log_numbers new ≡ log_numbers old
  pub leaf : leaf_number new ≡ leaf_number old
  pub ready : AreReady new after
  pub marked : PassesMarks from old new result
  pub there : IfOk result (λ n. from + n ≤ stripe_count old.geometry.sector old.geometry.sectors)
  pub few : IfOk result (λ n. from + n ≤ 2 ^ 26)
  pub passes : IfOk result (λ n. PassesSource from n old before)
  pub serves : WhereTold before.told (λ trace. (v : State) → IsServing old v trace → IsServing new (behind_pass from v result) trace)
  pub told : after.told ≡ before.told
  pub stays : OnOk result (after ≡ before)
  pub err : IfErr result (SomeReadFailed before after)
  pub whose : IfErr result (λ fault. fault.file ≡ source_number old)
