-- What is done before the steps of a call: pages are put among the changed ones, and sector bitmap blocks that are missing are made.
use Rattle.std.specs.Prelude.{◌≡◌, ◌⊎◌, ◌&&◌, ◌==◌, not, nat_lt, if◌then◌else◌, ℕ, ◌+◌, ◌-◌, ◌*◌, ◌/◌, ◌%◌, ◌^◌, ◌<◌, ◌≤◌, true, false, List, Result, Ok, Err, Option, Some, None, slice_get}
use Rattle.vhdx_format.specs.Fields.{megabyte}
use Rattle.vhdx_format.specs.Layers.{Shape, bitmap_entry_of, entry_of, sector_bit, state_at, table_entry}
use Rattle.store_model.specs.Disk.{Disk, ReadFailed, WhereBothTold, WhereTold}
use Rattle.store_model.specs.Plans.{FailsToChange}
use Rattle.store_model.specs.Trace.{Trace}
use Rattle.log_format.specs.PendingPages.{has_place}
use Rattle.table_pages.specs.Held.{AreChanged, AreTablesIn, bit_pages, entry_place, held_file, shape_of}
use Rattle.table_pages.specs.Pages.{page_place}
use Rattle.table_pages.specs.declared.tables.TableParts.{TableParts}
use Rattle.table_pages.specs.declared.tables.Tables.{Tables}
use Rattle.layer_session.specs.Blocks.{run_in_block}
use Rattle.layer_session.specs.Calls.{HasKept, HoldsRest, KeepsOver}
use Rattle.layer_session.specs.Keeping.{IsReadable, IsReady}
use Rattle.layer_session.specs.Planning.{EachRun, is_chunk, is_marking, per_block}
use Rattle.layer_session.specs.Steps.{first_in_block, held_by}
use Rattle.layer_session.specs.TablesRead.{IsTablePage, KeepsTables}
use Rattle.layer_session.specs.declared.file.Layer.{Layer}
use Rattle.layer_session.specs.declared.file.LayerFault.{LayerFault}
use Rattle.layer_session.specs.declared.file.LayerFault.TheVariants.{Read, Write, FileFull}
use Rattle.layer_session.specs.declared.planning.Plan.{Plan}
use Rattle.layer_session.specs.declared.planning.Step.TheVariants.{Drop, Mark, Make, MakePart}
use Rattle.layer_session.specs.declared.planning.Wanted.{Wanted}
use Rattle.layer_session.specs.declared.preparing.Bits.{Bits}
use Rattle.layer_session.specs.declared.preparing.Missing.{Missing}

-- ---- pages

-- what is changed was changed before, or is a page of the tables
pub record PutsTables (old new : Tables) (file : List ℕ) : Type 0 where
  pub only : (at : ℕ) → has_place at new.pending ≡ true → (has_place at old.pending ≡ true) ⊎ IsTablePage old.parts file at

-- Pages of the tables were put among the changed ones, as they are held.
pub record HasBrought (old new : Tables) (disk : Disk) : Type 0 where
  pub parts_are : new.parts ≡ old.parts
  pub tables : AreTablesIn new disk
  pub held : WhereTold disk.told (λ trace. held_file new trace ≡ held_file old trace)
  pub keeps : (at : ℕ) → has_place at old.pending ≡ true → has_place at new.pending ≡ true
  pub puts : WhereTold disk.told (λ trace. PutsTables old new (held_file old trace))
  pub cached : WhereTold disk.told (λ trace. KeepsTables old new (held_file old trace))

-- ---- the plans of one chunk

-- P of the runs that lie in this chunk
abbrev pub InChunk : ℕ → (ℕ → ℕ → Plan → Type 0) → ℕ → ℕ → Plan → Type 0
InChunk chunk P first count plan = first / 2 ^ 23 ≡ chunk → P first count plan

-- the step sets its block's entry
abbrev pub SetsEntry : Plan → Type 0
SetsEntry plan = (plan.step ≡ Drop) ⊎ ((plan.step ≡ Make) ⊎ (plan.step ≡ MakePart))

-- The bits that the step sets or clears lie between these: those of the sectors that it marks, and all of its block's where the block is
-- made in part.
pub record IsSpanned (p : Shape) (bits : Bits) (first count : ℕ) (plan : Plan) : Type 0 where
  pub mark : plan.step ≡ Mark → (bits.first ≤ first) × (first + count ≤ bits.end)
  pub part : plan.step ≡ MakePart → (bits.first ≤ first_in_block p first) × (first_in_block p first + per_block p ≤ bits.end)

-- Bits of one chunk, some of them: none before the block of the first of these sectors, and none further than a block behind the last.
pub record IsSpan (p : Shape) (chunk first count : ℕ) (bits : Bits) : Type 0 where
  pub any : 0 < count
  pub from : chunk * 2 ^ 23 ≤ bits.first
  pub some : bits.first < bits.end
  pub to : bits.end ≤ chunk * 2 ^ 23 + 2 ^ 23
  pub near : first_in_block p first ≤ bits.first
  pub far : bits.end ≤ first + count + per_block p

-- how many pages they lie in at most
abbrev pub most_bit_pages : Shape → ℕ → ℕ
most_bit_pages p count = (count + 2 * per_block p) / 32768 + 2

-- where sectors are marked, this is the plan's entry of the sector bitmap block; and its state is this
pub record HasWord (word state first count : ℕ) (plan : Plan) : Type 0 where
  pub is : is_marking plan.step ≡ true → plan.bitmap ≡ word
  pub state_is : is_marking plan.step ≡ true → word % 8 ≡ state

-- the bits that one step changes
pub record IsBitsOf (p : Shape) (chunk first count : ℕ) (plan : Plan) (bits : Bits) : Type 0 where
  pub spanned : IsSpanned p bits first count plan
  pub span : IsSpan p chunk first count bits
  pub ends : bits.end ≤ first_in_block p first + per_block p
  pub word : bits.word ≡ plan.bitmap
  pub marking : is_marking plan.step ≡ true
  pub in_chunk : first / 2 ^ 23 ≡ chunk

-- the bits of a chunk that the steps of so many sectors from `first` on change, with the first step's entry
pub record SpansBits (p : Shape) (plans : List Plan) (chunk k first count : ℕ) (bits : Bits) : Type 0 where
  pub spans : EachRun p plans (InChunk chunk (IsSpanned p bits)) k first count
  pub span : IsSpan p chunk first count bits
  pub word : (word state : ℕ) → EachRun p plans (InChunk chunk (HasWord word state)) k first count → (bits.word ≡ word) × (word % 8 ≡ state)

-- or that there are none
abbrev pub AreBitsOf : Shape → List Plan → ℕ → ℕ → ℕ → ℕ → Option Bits → Type 0
AreBitsOf p plans chunk k first count None = EachRun p plans (InChunk chunk (λ s n plan. is_marking plan.step ≡ true → ⊥)) k first count
AreBitsOf p plans chunk k first count (Some bits) = SpansBits p plans chunk k first count bits

-- the bits of a run and those of the rest
abbrev pub joined : Option Bits → Option Bits → Option Bits
joined None rest = rest
joined (Some run) None = Some run
joined (Some run) (Some rest) = Some (record { word = run.word; first = run.first; end = rest.end })

-- The pages of the bits that a step changes are changed ones.
pub record HasBits (t : Tables) (first count : ℕ) (plan : Plan) : Type 0 where
  pub bits : plan.step ≡ Mark → AreChanged (plan.bitmap / 2 ^ 20 * megabyte) (first % 2 ^ 23 / 32768) (bit_pages (first % 2 ^ 23) count) t.pending
  pub all_bits : plan.step ≡ MakePart → AreChanged (plan.bitmap / 2 ^ 20 * megabyte) (first_in_block (shape_of t.parts) first % 2 ^ 23 / 32768)
      (bit_pages (first_in_block (shape_of t.parts) first % 2 ^ 23) (t.parts.block / t.parts.sector)) t.pending

-- The page of the entry that the step sets is a changed one.
pub record HasEntry (t : Tables) (first count : ℕ) (plan : Plan) : Type 0 where
  pub entry : SetsEntry plan → has_place (page_place (entry_place t.parts (entry_of (shape_of t.parts) first))) t.pending ≡ true

-- Where sectors are marked, their sector bitmap block is there, and the plan has its entry.
pub record NamesBitmap (p : Shape) (file : List ℕ) (first count : ℕ) (plan : Plan) : Type 0 where
  pub parent : is_marking plan.step ≡ true → p.parent ≡ true
  pub six : is_marking plan.step ≡ true → plan.bitmap % 8 ≡ 6
  pub is : is_marking plan.step ≡ true → plan.bitmap ≡ table_entry p file (bitmap_entry_of p first)

-- Plans of one chunk got another entry of their sector bitmap block; else the plans are the same.
pub data AreNamed (p : Shape) (chunk : ℕ) (old new : List Plan) : ℕ → ℕ → ℕ → Type 0 where
  none : (k first count : ℕ) → count ≡ 0 → AreNamed p chunk old new k first count
  more : (k first count word : ℕ) (plan : Plan) → 0 < count → slice_get old k ≡ Some plan → slice_get new k ≡ Some (record plan { bitmap = word }) → (first / 2 ^ 23 ≡ chunk) ⊎ (word ≡ plan.bitmap)
      → AreNamed p chunk old new (k + 1) (first + run_in_block p first count) (count - run_in_block p first count) → AreNamed p chunk old new k first count

-- ---- both chunks of a call

-- which sector bitmap blocks of the first and the last chunk are to be made, by what a call wants
abbrev pub missing_of : Shape → Wanted → ℕ → ℕ → Missing
missing_of p wanted first last = record {
  near = p.parent && is_chunk (first / 2 ^ 23) wanted.chunk;
  far = p.parent && (not (last / 2 ^ 23 == first / 2 ^ 23) && nat_lt (if p.parent && is_chunk (first / 2 ^ 23) wanted.chunk then 1 else 0) wanted.bitmaps);
}

-- the last of these sectors lies in another chunk than the first
abbrev pub GoesOn : ℕ → ℕ → Type 0
GoesOn first count = (first + count - 1) / 2 ^ 23 ≡ first / 2 ^ 23 → ⊥

-- All pages that the steps change are changed ones, but for those of the bits of a chunk whose sector bitmap block is missing: of that the
-- page of its entry. The plans are the same but for their entries of such blocks.
pub record Brings (parts : TableParts) (missing : Missing) (first count : ℕ) (t : Tables) (old new : List Plan) : Type 0 where
  pub entries : EachRun (shape_of parts) new (HasEntry t) 0 first count
  pub near : missing.near ≡ false → EachRun (shape_of parts) new (InChunk (first / 2 ^ 23) (HasBits t)) 0 first count
  pub far : GoesOn first count → missing.far ≡ false → EachRun (shape_of parts) new (InChunk ((first + count - 1) / 2 ^ 23) (HasBits t)) 0 first count
  pub near_entry : missing.near ≡ true → has_place (page_place (entry_place parts (bitmap_entry_of (shape_of parts) first))) t.pending ≡ true
  pub far_entry : GoesOn first count → missing.far ≡ true → has_place (page_place (entry_place parts (bitmap_entry_of (shape_of parts) (first + count - 1)))) t.pending ≡ true
  pub mid : List Plan
  pub first_named : AreNamed (shape_of parts) (first / 2 ^ 23) old mid 0 first count
  pub then_named : AreNamed (shape_of parts) ((first + count - 1) / 2 ^ 23) mid new 0 first count

-- ---- the tables

-- The tables say of each block what they said: its entry, and the bits of one that is partially present.
pub record SaysSame (p : Shape) (old new : List ℕ) : Type 0 where
  pub entry : (s : ℕ) → s < p.sectors → table_entry p new (entry_of p s) ≡ table_entry p old (entry_of p s)
  pub bits : (s : ℕ) → s < p.sectors → p.parent ≡ true → state_at p old (entry_of p s) ≡ 7 → sector_bit p new s ≡ sector_bit p old s

-- and of each chunk but this one what its sector bitmap block's entry was
pub record SaysSameBut (p : Shape) (chunk : ℕ) (old new : List ℕ) : Type 0 where
  pub blocks : SaysSame p old new
  pub bitmaps : (s : ℕ) → s < p.sectors → p.parent ≡ true → (s / 2 ^ 23 ≡ chunk → ⊥) → table_entry p new (bitmap_entry_of p s) ≡ table_entry p old (bitmap_entry_of p s)

-- and of each chunk
pub record SaysAllSame (p : Shape) (old new : List ℕ) : Type 0 where
  pub blocks : SaysSame p old new
  pub bitmaps : (s : ℕ) → s < p.sectors → p.parent ≡ true → table_entry p new (bitmap_entry_of p s) ≡ table_entry p old (bitmap_entry_of p s)

-- A chunk got its sector bitmap block, whose entry this is; else the tables say what they said.
pub record HasMade (old new : Layer) (sector word : ℕ) (before after : Trace) : Type 0 where
  pub says : SaysSameBut (shape_of old.tables.parts) (sector / 2 ^ 23) (held_by old before) (held_by new after)
  pub is : table_entry (shape_of old.tables.parts) (held_by new after) (bitmap_entry_of (shape_of old.tables.parts) sector) ≡ word

-- ---- a part of preparing

-- It was done: the file is served as before, at each moment and then.
pub record LeadsTo (old new : Layer) (before after : Disk) : Type 0 where
  pub moments : WhereBothTold (KeepsOver old) before.told after.told
  pub kept : WhereBothTold (HasKept old new) before.told after.told
  pub ready : IsReady new after
  pub parts : new.tables.parts ≡ old.tables.parts
  pub leave : new.leave ≡ old.leave
  pub counts : after ≡ record before { told = after.told }

-- A change failed: the file is read on.
pub record Breaks (old new : Layer) (before after : Disk) : Type 0 where
  pub moments : WhereBothTold (KeepsOver old) before.told after.told
  pub readable : IsReadable new after
  pub holds : WhereBothTold (HoldsRest old new 0 0) before.told after.told
  pub parts : new.tables.parts ≡ old.tables.parts
  pub leave : new.leave ≡ old.leave

-- What a part of preparing answers: it was done; or it refuses, and the file is served as before; or a change failed.
abbrev pub Leads : {T : Type 0} → Layer → Layer → Disk → Disk → Result T LayerFault → Type 0
Leads old new before after (Ok x) = LeadsTo old new before after
Leads old new before after (Err (Read fault)) =
    LeadsTo old new before (record before { told = after.told }) × ReadFailed old.tables.parts.file (record before { told = after.told }) after fault
Leads old new before after (Err (Write fault)) = Breaks old new before after × FailsToChange old.tables.parts.file before after fault
Leads old new before after (Err (FileFull next)) = LeadsTo old new before after
