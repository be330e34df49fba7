-- What a call is to do with each block that its sectors lie in, by the tables as held.
use Rattle.std.specs.Prelude.{◌≡◌, ℕ, ◌+◌, ◌-◌, ◌*◌, ◌/◌, ◌%◌, ◌^◌, ◌<◌, ◌≤◌, Bool, true, false, ◌&&◌, ◌||◌, ◌==◌, not, if◌then◌else◌, min, max, List, Option, Some, None, slice_get, count_by}
use Rattle.std.specs.List.{list_any, list_all, range_with_len}
use Rattle.vhdx_format.specs.AllocationTables.{state_of, bitmap_index_of}
use Rattle.vhdx_format.specs.Fields.{megabyte}
use Rattle.vhdx_format.specs.Layers.{Shape, block_of, entry_of, bitmap_entry_of, chunk_count, chunk_ratio_of, table_entry, state_at, sector_bit}
use Rattle.block_alloc.specs.Spaces.{Space, fits_in}
use Rattle.layer_session.specs.Blocks.{blocks_of, run_in_block}
use Rattle.layer_session.specs.declared.planning.Plan.{Plan}
use Rattle.layer_session.specs.declared.planning.Wanted.{Wanted}
use Rattle.layer_session.specs.declared.planning.Step.{Step}
use Rattle.layer_session.specs.declared.planning.Step.TheVariants.{Drop, Leave, Write, Mark, Make, MakePart}

-- ---- the step for sectors that lie in one block

-- these sectors are all that the disk has of their block
abbrev pub is_whole : Shape → ℕ → ℕ → Bool
is_whole p first count = (first * p.sector % p.block == 0) && ((first + count == p.sectors) || (first * p.sector % p.block + count * p.sector == p.block))

-- the bits of these sectors are all set
abbrev pub AreMarked : Shape → List ℕ → ℕ → ℕ → Type 0
AreMarked p file first count = (s : ℕ) → first ≤ s → s < first + count → sector_bit p file s ≡ 1

abbrev pub are_marked : Shape → List ℕ → ℕ → ℕ → Bool
are_marked p file first count = list_all (λ s. sector_bit p file s == 1) (range_with_len first count)

-- A block that is trimmed whole becomes one of zeros, which has no place. Else it is written where it is; where it is partially
-- present its sectors are marked, if they aren't all; and where it has no place it gets one: with all its sectors, or, where the
-- file doesn't have the block and has a parent, with these alone.
abbrev pub step_by : Bool → Bool → Bool → ℕ → Step
step_by trimmed marked parent word =
    if trimmed then (if word == 2 then Leave else Drop)
    else (if state_of word == 7 then (if marked then Write else Mark)
    else (if (state_of word == 0) && parent then MakePart
    else (if state_of word == 6 then Write else Make)))

abbrev pub step_of : Shape → List ℕ → Bool → ℕ → ℕ → Step
step_of p file trims first count = step_by (trims && is_whole p first count) (are_marked p file first count) p.parent (table_entry p file (entry_of p first))

-- the step marks sectors in a sector bitmap
abbrev pub is_marking : Step → Bool
is_marking Drop = false
is_marking Leave = false
is_marking Write = false
is_marking Mark = true
is_marking Make = false
is_marking MakePart = true

-- the planned step, the block's entry, and, where sectors are marked, the entry of their sector bitmap block
pub record IsPlanned (p : Shape) (file : List ℕ) (trims : Bool) (first count : ℕ) (plan : Plan) : Type 0 where
  pub step : plan.step ≡ step_of p file trims first count
  pub word : plan.word ≡ table_entry p file (entry_of p first)
  pub bitmap : is_marking plan.step ≡ true → plan.bitmap ≡ table_entry p file (bitmap_entry_of p first)

-- ---- the steps for all blocks of a call

-- how many sectors a block has
abbrev pub per_block : Shape → ℕ
per_block p = p.block / p.sector

-- of the sectors from `first` up to `end`, the first one in a block, and how many lie in it
abbrev pub run_first : Shape → ℕ → ℕ → ℕ
run_first p first block = max first (block * per_block p)

abbrev pub run_count : Shape → ℕ → ℕ → ℕ → ℕ
run_count p first end block = min end ((block + 1) * per_block p) - run_first p first block

-- the step for a block
abbrev pub step_at : Shape → List ℕ → Bool → ℕ → ℕ → ℕ → Step
step_at p file trims first end block = step_of p file trims (run_first p first block) (run_count p first end block)

-- the blocks that so many sectors from `first` on lie in
abbrev pub blocks_with : Shape → ℕ → ℕ → List ℕ
blocks_with p first count = range_with_len (block_of p first) (blocks_of p first count)

-- Each run of so many sectors from `first` on that lies in one block has its plan, in order from the one at `k` on, and P holds of
-- the run's first sector, of how many it has, and of the plan.
pub data EachRun (p : Shape) (plans : List Plan) (P : ℕ → ℕ → Plan → Type 0) : ℕ → ℕ → ℕ → Type 0 where
  none : (k first count : ℕ) → count ≡ 0 → EachRun p plans P k first count
  more : (k first count : ℕ) (plan : Plan) → 0 < count → slice_get plans k ≡ Some plan → P first (run_in_block p first count) plan
      → EachRun p plans P (k + 1) (first + run_in_block p first count) (count - run_in_block p first count) → EachRun p plans P k first count

abbrev pub ArePlanned : Shape → List ℕ → Bool → List Plan → ℕ → ℕ → ℕ → Type 0
ArePlanned p file trims plans k first count = EachRun p plans (IsPlanned p file trims) k first count

-- ---- what a call wants

-- the step gives a block a place
abbrev pub is_making : Step → Bool
is_making Drop = false
is_making Leave = false
is_making Write = false
is_making Mark = false
is_making Make = true
is_making MakePart = true

-- the file doesn't have the block, and its parent may
abbrev pub is_part : Step → Bool
is_part Drop = false
is_part Leave = false
is_part Write = false
is_part Mark = false
is_part Make = false
is_part MakePart = true

-- a table changes
abbrev pub is_changing : Step → Bool
is_changing Drop = true
is_changing Leave = false
is_changing Write = false
is_changing Mark = true
is_changing Make = true
is_changing MakePart = true

-- how many blocks are to be made
abbrev pub wanted_blocks : Shape → List ℕ → Bool → ℕ → ℕ → ℕ
wanted_blocks p file trims first count = count_by (λ b. is_making (step_at p file trims first (first + count) b)) (blocks_with p first count)

-- the sector bitmap block of a chunk is to be made: it isn't there, and a block of the chunk is made in part
abbrev pub is_chunk_wanted : Shape → List ℕ → Bool → ℕ → ℕ → ℕ → Bool
is_chunk_wanted p file trims first count chunk =
    not (state_at p file (bitmap_index_of chunk (chunk_ratio_of p)) == 6)
    && list_any (λ b. (b / chunk_ratio_of p == chunk) && is_part (step_at p file trims first (first + count) b)) (blocks_with p first count)

-- how many sector bitmap blocks
abbrev pub wanted_bitmaps : Shape → List ℕ → Bool → ℕ → ℕ → ℕ
wanted_bitmaps p file trims first count = count_by (is_chunk_wanted p file trims first count) (range_with_len 0 (chunk_count p))

-- whether a table changes
abbrev pub changes_tables : Shape → List ℕ → Bool → ℕ → ℕ → Bool
changes_tables p file trims first count = list_any (λ b. is_changing (step_at p file trims first (first + count) b)) (blocks_with p first count)

-- freed places and the space behind the file's end suffice for what so many sectors from `first` on want
abbrev pub has_room : Shape → List ℕ → Bool → ℕ → ℕ → Space → Bool
has_room p file trims first count space = fits_in (wanted_blocks p file trims first count) (p.block / megabyte) (wanted_bitmaps p file trims first count) space

-- ---- what was looked at

-- the first number that passes a test, or that none does
abbrev pub IsFirst : (ℕ → Bool) → Option ℕ → Type 0
IsFirst test None = (c : ℕ) → test c ≡ false
IsFirst test (Some k) = (test k ≡ true) × ((c : ℕ) → c < k → test c ≡ false)

-- it is this chunk
abbrev pub is_chunk : ℕ → Option ℕ → Bool
is_chunk chunk None = false
is_chunk chunk (Some found) = found == chunk

-- a block made in part wants the sector bitmap block of its chunk too, which no later block wants
abbrev pub wants_bitmap : Plan → ℕ → Wanted → Bool
wants_bitmap plan chunk rest = is_part plan.step && not (state_of plan.bitmap == 6) && not (is_chunk chunk rest.chunk)

-- what is wanted with one block before the rest
abbrev pub with_plan : Plan → ℕ → Wanted → Wanted
with_plan plan chunk rest = record {
  blocks = rest.blocks + (if is_making plan.step then 1 else 0);
  bitmaps = rest.bitmaps + (if wants_bitmap plan chunk rest then 1 else 0);
  tables = is_changing plan.step || rest.tables;
  chunk = if wants_bitmap plan chunk rest then Some chunk else rest.chunk;
}

-- The plans of the blocks, and what they want together.
pub record IsLooked (p : Shape) (file : List ℕ) (trims : Bool) (plans : List Plan) (k first count : ℕ) (all : Wanted) : Type 0 where
  pub planned : ArePlanned p file trims plans k first count
  pub blocks : all.blocks ≡ wanted_blocks p file trims first count
  pub bitmaps : all.bitmaps ≡ wanted_bitmaps p file trims first count
  pub tables : all.tables ≡ changes_tables p file trims first count
  pub chunk : IsFirst (is_chunk_wanted p file trims first count) all.chunk

-- What the plans of so many sectors from `first` on want, by the plans alone.
pub data AreCounted (p : Shape) (plans : List Plan) : ℕ → ℕ → ℕ → Wanted → Type 0 where
  nothing : (k first count : ℕ) (all : Wanted) → count ≡ 0 → all ≡ record { blocks = 0; bitmaps = 0; tables = false; chunk = None } → AreCounted p plans k first count all
  before : (k first count : ℕ) (plan : Plan) (all rest : Wanted) → 0 < count → slice_get plans k ≡ Some plan → all ≡ with_plan plan (first / 2 ^ 23) rest
      → AreCounted p plans (k + 1) (first + run_in_block p first count) (count - run_in_block p first count) rest → AreCounted p plans k first count all
