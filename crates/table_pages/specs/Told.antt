-- What the calls of tables say of their file, where its content is told.
use Rattle.std.specs.Prelude.{◌≡◌, ℕ, ◌%◌, ◌^◌, Bool, List}
use Rattle.store_model.specs.Disk.{Disk, WhereTold}
use Rattle.vhdx_format.specs.Layers.{table_entry}
use Rattle.vx_base.specs.Fields.{bytes_at}
use Rattle.table_pages.specs.Held.{AreTables, KeepsWithinTables, PutsWithin, SetsBits, bitmap_place, held_file, shape_of}
use Rattle.table_pages.specs.declared.tables.Tables.{Tables}

-- they are this file's
abbrev pub AreOf : Tables → List ℕ → Type 0
AreOf t file = AreTables t.parts file t.pending t.cache

-- the entry at an index of the table as held
abbrev pub IsEntry : Tables → Disk → ℕ → ℕ → Type 0
IsEntry t disk index entry = WhereTold disk.told (λ trace. entry ≡ table_entry (shape_of t.parts) (held_file t trace) index)

-- the bytes at a place of the file as held
abbrev pub AreBytesAt : Tables → Disk → ℕ → ℕ → List ℕ → Type 0
AreBytesAt t disk at n bytes = WhereTold disk.told (λ trace. bytes ≡ bytes_at (held_file t trace) at n)

-- where the sector bitmap block that covers a sector stands in the file as held
abbrev pub IsBitmapAt : Tables → Disk → ℕ → ℕ → Type 0
IsBitmapAt t disk sector place = WhereTold disk.told (λ trace. place ≡ bitmap_place t.parts (held_file t trace) sector)

-- of so many sectors from `first` on the bits in that block were set, and nothing else
abbrev pub SetsSectors : ℕ → ℕ → Bool → Tables → Tables → Disk → Type 0
SetsSectors first count on old new disk =
    WhereTold disk.told (λ trace. SetsBits (bitmap_place old.parts (held_file old trace) first) (first % 2 ^ 23) count on (held_file old trace) (held_file new trace))

-- what was changed is so still, and what else is lies in that block
abbrev pub PutsInBitmap : ℕ → Tables → Tables → Disk → Type 0
PutsInBitmap first old new disk = WhereTold disk.told (λ trace. PutsWithin (bitmap_place old.parts (held_file old trace) first) old.pending new.pending)

-- what is kept was kept before, or stands in the table or in that block
abbrev pub KeepsInBitmap : ℕ → Tables → Tables → Disk → Type 0
KeepsInBitmap first old new disk = WhereTold disk.told (λ trace. KeepsWithinTables (bitmap_place old.parts (held_file old trace) first) old new)
