-- A read of which a part is planned.
use Rattle.std.specs.Prelude.{◌≡◌, ℕ, All, false, List, Option, Some}
use Rattle.store_model.specs.Disk.{Disk, Sealed, WhereTold}
use Rattle.guest_model.specs.declared.call.Call.TheVariants as calls
use Rattle.guest_model.specs.declared.call.Reply.TheVariants as replies
use Rattle.guest_model.specs.Calls.{reply}
use Rattle.chain_model.specs.Layers.{Layer as SectorLayer}
use Rattle.layer_session.specs.declared.file.Layer.{Layer}
use Rattle.layer_session.specs.Calls.{AddsOwned}
use Rattle.read_plan.specs.Plans.{filled}
use Rattle.read_plan.specs.Reading.{HasFilled, LieInFiles}
use Rattle.read_plan.specs.declared.plan.Extent.{Extent}
use Rattle.sealed_layer.specs.Planned.{LieInStore, files_in}
use Rattle.chain_core.specs.States.{State, IsServing, disk_now}
use Rattle.chain_core.specs.declared.layers.Layers.{Layers}

-- Once the plan is filled from the files, what was read is what the history's disk has.
abbrev pub FindsPlanned : ℕ → ℕ → List Extent → List ℕ → Layers → Disk → Type 0
FindsPlanned first count plan out layers disk =
    WhereTold disk.told (λ trace. (v : State) → IsServing layers v trace → reply (disk_now v) (calls.Read first count) ≡ replies.Bytes (filled layers.geometry.sector (files_in trace) plan out))

-- Once the plans are filled, a part of the files adds its sectors to those that were found.
abbrev pub PlansPart : (Option Layer → State → SectorLayer) → ℕ → ℕ → Layers → Disk → List ℕ → List ℕ → List Extent → List Extent → List ℕ → List ℕ → Type 0
PlansPart part first count layers disk mask new_mask plan new_plan out new_out =
    WhereTold disk.told (λ trace. (v : State) → IsServing layers v trace
    → AddsOwned (part layers.leaf v) layers.geometry.sector first count 0 mask new_mask (filled layers.geometry.sector (files_in trace) plan out) (filled layers.geometry.sector (files_in trace) new_plan new_out))

-- ---- filled later

-- Each reader is of a file that the session doesn't write, and tells what that had at the moment since which it wasn't changed.
abbrev pub AreReadersOf : State → List Sealed → Type 0
AreReadersOf v readers = All (λ s. (v.writes s.file ≡ false) × (s.content ≡ Some (files_in v.since s.file))) readers

-- Whatever came since: a plan that was filled by the session's readers has made of the buffer what the history's disk had when it was made,
abbrev pub PlansAnswer : Type 0
PlansAnswer =
    (layers : Layers) (v : State) (disk : Disk) (first count : ℕ) (plan : List Extent) (out new : List ℕ) (readers : List Sealed)
    → WhereTold disk.told (λ trace. IsServing layers v trace → AreReadersOf v readers → FindsPlanned first count plan out layers disk
    → HasFilled layers.geometry.sector readers plan out new → reply (disk_now v) (calls.Read first count) ≡ replies.Bytes new)

-- and can be filled by them.
abbrev pub PlansCanBeFilled : Type 0
PlansCanBeFilled =
    (layers : Layers) (v : State) (disk : Disk) (plan : List Extent) (readers : List Sealed)
    → WhereTold disk.told (λ trace. IsServing layers v trace → AreReadersOf v readers → LieInStore layers.geometry.sector disk plan → LieInFiles layers.geometry.sector readers plan)
