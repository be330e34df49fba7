-- The steps of a layer's calls.
use Rattle.std.specs.Prelude.{◌≡◌, ◌⊎◌, ℕ, ◌-◌, ◌*◌, ◌/◌, ◌%◌, ◌^◌, Bool, true, false, List}
use Rattle.vhdx_format.specs.Fields.{megabyte}
use Rattle.vhdx_format.specs.Layers.{Shape, entry_of, bitmap_entry_of, table_entry}
use Rattle.store_model.specs.Disk.{Disk, WhereTold}
use Rattle.store_model.specs.Trace.{Trace}
use Rattle.log_format.specs.PendingPages.{has_place}
use Rattle.table_pages.specs.Held.{held_file, HasTables, entry_place, AreChanged, bit_pages}
use Rattle.table_pages.specs.Held as tables
use Rattle.table_pages.specs.Pages.{page_place}
use Rattle.block_alloc.specs.Spaces.{Block, Space, all_given, bitmaps_of, payloads_of}
use Rattle.table_pages.specs.declared.tables.Tables.{Tables}
use Rattle.chain_model.specs.Layers as chain
use Rattle.chain_model.specs.Images.{Placed}
use Rattle.layer_session.specs.Planning as plans
use Rattle.layer_session.specs.Calls.{placed_with, loose_or_named, with_zeros, is_among}
use Rattle.layer_session.specs.Keeping.{IsRunAt, Serves}
use Rattle.layer_session.specs.declared.file.Layer.{Layer}
use Rattle.layer_session.specs.declared.planning.Plan.{Plan}
use Rattle.layer_session.specs.declared.planning.Step.TheVariants.{Drop, Mark, Make, MakePart}

-- ---- what a call is to do

-- the layer's file as held
abbrev pub held_by : Layer → Trace → List ℕ
held_by l trace = held_file l.tables trace

-- ---- what is asked for

-- A call asks for more than there is room for; `next` is the unit at the file's end.
abbrev pub is_full : Bool → ℕ → ℕ → ℕ → Layer → Disk → Type 0
is_full trims first count next l disk = (next ≡ l.space.next) × WhereTold disk.told (λ trace. plans.has_room (tables.shape_of l.tables.parts) (held_by l trace) trims first count l.space ≡ false)

-- It asks for no more.
abbrev pub has_room : Bool → ℕ → ℕ → Layer → Disk → Type 0
has_room trims first count l disk = WhereTold disk.told (λ trace. plans.has_room (tables.shape_of l.tables.parts) (held_by l trace) trims first count l.space ≡ true)

-- ---- what is at hand

-- the first sector of the block that a sector lies in
abbrev pub first_in_block : Shape → ℕ → ℕ
first_in_block p sector = sector - sector * p.sector % p.block / p.sector

-- The pages that a planned step changes are among the changed ones: that of the block's entry, and those of the bits that it sets, of
-- a block that is made in part all of its bits.
pub record HasPages (t : Tables) (first count : ℕ) (plan : Plan) : Type 0 where
  pub entry : (plan.step ≡ Drop) ⊎ ((plan.step ≡ Make) ⊎ (plan.step ≡ MakePart)) → has_place (page_place (entry_place t.parts (entry_of (tables.shape_of t.parts) first))) t.pending ≡ true
  pub bits : plan.step ≡ Mark → AreChanged (plan.bitmap / 2 ^ 20 * megabyte) (first % 2 ^ 23 / 32768) (bit_pages (first % 2 ^ 23) count) t.pending
  pub all_bits : plan.step ≡ MakePart → AreChanged (plan.bitmap / 2 ^ 20 * megabyte) (first_in_block (tables.shape_of t.parts) first % 2 ^ 23 / 32768)
      (bit_pages (first_in_block (tables.shape_of t.parts) first % 2 ^ 23) (t.parts.block / t.parts.sector)) t.pending

-- the space gives so many blocks of this size, and so many sector bitmap blocks, in whatever order they are taken
abbrev pub HasRoomFor : ℕ → ℕ → ℕ → Space → Type 0
HasRoomFor units payloads bitmaps space = (blocks : List Block) → payloads_of blocks ≡ payloads → bitmaps_of blocks ≡ bitmaps → all_given units blocks space ≡ true

-- What is planned is still to be done: by the file as held each step is the one for its block, and where sectors are marked their
-- sector bitmap block is there.
pub record IsToDo (p : Shape) (file : List ℕ) (trims : Bool) (first count : ℕ) (plan : Plan) : Type 0 where
  pub step : plan.step ≡ plans.step_of p file trims first count
  pub word : plan.word ≡ table_entry p file (entry_of p first)
  pub bitmap : plans.is_marking plan.step ≡ true → (plan.bitmap % 8 ≡ 6) × (plan.bitmap ≡ table_entry p file (bitmap_entry_of p first))

-- The rest of a call.
pub record Wants (l : Layer) (k first count : ℕ) (trims : Bool) (trace : Trace) : Type 0 where
  pub todo : plans.EachRun (tables.shape_of l.tables.parts) l.plans.items (IsToDo (tables.shape_of l.tables.parts) (held_by l trace) trims) k first count

pub record Begins (old new : Layer) (first count : ℕ) (trims : Bool) (before after : Trace) : Type 0 where
  pub serves : (file : Placed) → Serves old before file → Serves new after file
  pub wants : Wants new 0 first count trims after

-- ---- steps

-- Sectors of one block are the file's, and stand together from this place of it on.
abbrev pub StandFrom : Layer → ℕ → ℕ → ℕ → Trace → Type 0
StandFrom l first count place trace = IsRunAt (tables.shape_of l.tables.parts) (held_by l trace) first count place

-- The block of some sectors is ready: they are the file's and stand at this place. No other sector has changed.
pub record IsMade (old new : Layer) (first count place : ℕ) (before after : Trace) : Type 0 where
  pub stand : StandFrom new first count place after
  pub serves : (file : Placed) → Serves old before file
      → (layer : chain.Layer) × Serves new after (placed_with layer (loose_or_named first count file) file) × ((s : ℕ) → is_among first count s ≡ false → layer s ≡ file.member.layer s)

-- A block is dropped: its sectors, all that the disk has of it, are zeros then, and are loose.
abbrev pub DropsBlock : Layer → Layer → ℕ → ℕ → Trace → Type 0
DropsBlock old new first count trace =
    (file : Placed) → Serves old trace file → Serves new trace (placed_with (with_zeros old.tables.parts.sector first count file.member.layer) (loose_or_named first count file) file)
