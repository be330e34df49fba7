-- Some of the images of a file and of a store's files: without the unsynced writes and growths, with all, with the growths and
-- every second write, and with the growths and the front of each write.
use Rattle.std.specs.Prelude.{◌≡◌, ℕ, ◌+◌, Bool, true, false, not, if◌then◌else◌, Option, None, Some, All, is_some, List, [], ◌∷◌, map, take}
use Rattle.store_model.specs.Bytes.{written_over, extended}
use Rattle.store_model.specs.File.{File, Op, Write, Tear, Grow, Sync, Seal, seen_after}
use Rattle.store_model.specs.Folder.{Held, Hosted, fresh}
use Rattle.store_model.specs.Trace.{NamedBytes, Change, Trace, ops_of}
use Rattle.mem_file.specs.declared.replay.Pick.{Pick}
use Rattle.mem_file.specs.declared.replay.Pick.TheVariants.{Nothing, Everything, EverySecond, Front}

-- whether so many writes since the last sync are odd in number, so that the next is a second one
abbrev pub is_second : List Op → Bool
is_second [] = false
is_second (Write at bytes ∷ older) = not (is_second older)
is_second (Tear at meant left ∷ older) = not (is_second older)
is_second (Grow len ∷ older) = is_second older
is_second (Sync ∷ older) = false
is_second (Seal ∷ older) = is_second older

-- whether a write is picked, and whether a growth is
abbrev pub takes_write : Pick → Bool → Bool
takes_write Nothing second = false
takes_write Everything second = true
takes_write EverySecond second = second
takes_write (Front n) second = true

abbrev pub takes_growth : Pick → Bool
takes_growth Nothing = false
takes_growth Everything = true
takes_growth EverySecond = true
takes_growth (Front n) = true

-- what the image has of the bytes of a write that is picked
abbrev pub taken_of : Pick → List ℕ → List ℕ
taken_of Nothing bytes = bytes
taken_of Everything bytes = bytes
taken_of EverySecond bytes = bytes
taken_of (Front n) bytes = take n bytes

-- the image that a pick gives
abbrev pub picked : Pick → List ℕ → List Op → List ℕ
picked pick attached [] = attached
picked pick attached (Write at bytes ∷ older) = if takes_write pick (is_second older) then written_over (picked pick attached older) at (taken_of pick bytes) else picked pick attached older
picked pick attached (Tear at meant left ∷ older) = if takes_write pick (is_second older) then written_over (picked pick attached older) at (taken_of pick left) else picked pick attached older
picked pick attached (Grow len ∷ older) = if takes_growth pick then extended (picked pick attached older) len else picked pick attached older
picked pick attached (Sync ∷ older) = seen_after attached older
picked pick attached (Seal ∷ older) = picked pick attached older

-- what one more change does to an image
abbrev pub redone : Pick → Bool → Op → List ℕ → List ℕ
redone pick second (Write at bytes) image = if takes_write pick second then written_over image at (taken_of pick bytes) else image
redone pick second (Tear at meant left) image = if takes_write pick second then written_over image at (taken_of pick left) else image
redone pick second (Grow len) image = if takes_growth pick then extended image len else image
redone pick second Sync image = image
redone pick second Seal image = image

-- which of the changes before one an image has: all, where it is a sync
abbrev pub pick_before : Pick → Op → Pick
pick_before pick (Write at bytes) = pick
pick_before pick (Tear at meant left) = pick
pick_before pick (Grow len) = pick
pick_before pick Sync = Everything
pick_before pick Seal = pick
