-- What stands of the rest of a call once it is prepared: for every store, whether it tells its content or not.
use Rattle.std.specs.Prelude.{◌≡◌, ℕ, ◌+◌, ◌-◌, ◌/◌, ◌<◌, List, Some, slice_get, if◌then◌else◌}
use Rattle.vhdx_format.specs.Fields.{megabyte}
use Rattle.vhdx_format.specs.Layers.{Shape}
use Rattle.table_pages.specs.Held.{shape_of}
use Rattle.layer_session.specs.Blocks.{run_in_block}
use Rattle.layer_session.specs.Planning.{EachRun, is_making}
use Rattle.layer_session.specs.Steps.{HasPages, HasRoomFor}
use Rattle.layer_session.specs.declared.file.Layer.{Layer}
use Rattle.layer_session.specs.declared.planning.Plan.{Plan}

-- so many blocks get a place by the plans of these sectors' blocks
pub data TakesBlocks (p : Shape) (plans : List Plan) : ℕ → ℕ → ℕ → ℕ → Type 0 where
  nothing : (k first count : ℕ) → count ≡ 0 → TakesBlocks p plans k first count 0
  before : (k first count rest : ℕ) (plan : Plan) → 0 < count → slice_get plans k ≡ Some plan
      → TakesBlocks p plans (k + 1) (first + run_in_block p first count) (count - run_in_block p first count) rest → TakesBlocks p plans k first count ((if is_making plan.step then 1 else 0) + rest)

-- The rest of a call is prepared: the pages that its steps change are changed ones, and there is a place for each block that is made.
-- Sector bitmap blocks that were missing are there.
pub record IsPrepared (l : Layer) (k first count : ℕ) : Type 0 where
  pub pages : EachRun (shape_of l.tables.parts) l.plans.items (HasPages l.tables) k first count
  pub blocks : ℕ
  pub taken : TakesBlocks (shape_of l.tables.parts) l.plans.items k first count blocks
  pub room : HasRoomFor (l.tables.parts.block / megabyte) blocks 0 l.space
