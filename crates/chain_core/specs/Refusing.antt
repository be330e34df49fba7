-- What a guest call is refused by before it reaches the files.
use Rattle.std.specs.Prelude.{◌≡◌, ℕ, Bool, true, false, ◌+◌, ◌/◌, ◌^◌, ◌||◌, nat_lt, is_some, length, Option, Some, None, Result, Ok, Err, IfSome, List, if◌then◌else◌}
use Rattle.vx_base.specs.declared.parts.Geometry.{Geometry}
use Rattle.store_model.specs.declared.fault.StoreFault.{StoreFault}
use Rattle.guest_model.specs.declared.call.Call.{Call}
use Rattle.guest_model.specs.declared.call.Call.TheVariants.{Read, Write, Trim, Flush}
use Rattle.guest_model.specs.declared.refusal.ChainRefusal.{ChainRefusal}
use Rattle.guest_model.specs.declared.refusal.ChainRefusal.TheVariants as refusals
use Rattle.guest_model.specs.Ranges.{range_refusal}
use Rattle.chain_core.specs.Sessions.{Session}
use Rattle.chain_core.specs.declared.layers.Layers.{Layers}

-- one more event; the count stands still at 2^63
abbrev pub counted : ℕ → ℕ
counted n = if nat_lt n (2 ^ 63) then n + 1 else n

-- a session that a fault broke answers that fault
abbrev pub broken_by : Option StoreFault → Option ChainRefusal
broken_by None = None
broken_by (Some fault) = Some (refusals.Broken fault.file fault.count)

-- the events are used up, or the session is broken
abbrev pub unfit : ℕ → Option StoreFault → Option ChainRefusal
unfit events broken = if nat_lt events (2 ^ 63) then broken_by broken else Some (refusals.Spent events)

-- The range that a call names is none of the disk: at most 2,048 sectors are read or written, and 524,288 trimmed.
abbrev pub range_of : Geometry → Call → Result (Unit {0}) ChainRefusal
range_of g (Read first count) = range_refusal first count 2048 g.sectors
range_of g (Write first bytes) = range_refusal first (length bytes / g.sector) 2048 g.sectors
range_of g (Trim first count) = range_refusal first count 524288 g.sectors
range_of g Flush = Ok tt

abbrev pub is_read : Call → Bool
is_read (Read first count) = true
is_read (Write first bytes) = false
is_read (Trim first count) = false
is_read Flush = false

-- only a read may be called where the leaf has no session
abbrev pub barred : Call → Bool → Option ChainRefusal
barred call session = if is_read call || session then None else Some refusals.ReadOnly

abbrev pub out_of : Result (Unit {0}) ChainRefusal → Option ChainRefusal → Option ChainRefusal
out_of (Ok t) later = later
out_of (Err e) later = Some e

abbrev pub or_else : Option ChainRefusal → Option ChainRefusal → Option ChainRefusal
or_else None later = later
or_else (Some e) later = Some e

-- what refuses a call by its range, and then for want of a session
abbrev pub misplaced : Call → Layers → Option ChainRefusal
misplaced call layers = out_of (range_of layers.geometry call) (barred call (is_some layers.leaf))

-- The first cause by which a call is refused before the files are reached: the events are used up, the session is broken, its range
-- is none of the disk, the chain is only read.
abbrev pub refused : Call → Session → Option ChainRefusal
refused call s = or_else (unfit s.events s.broken) (misplaced call s.layers)

-- a call that is refused so answers that, and P
abbrev pub IfRefused : {T : Type 0} → Call → Session → Result T ChainRefusal → Type 0 → Type 0
IfRefused call s result P = IfSome (refused call s) (λ e. (result ≡ Err e) × P)

-- the read that fills a buffer from a sector on
abbrev pub fill : Layers → ℕ → List ℕ → Call
fill layers first out = Read first (length out / layers.geometry.sector)
