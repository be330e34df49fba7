-- The calls of a request: what of it is refused before any call (the protocol's document), and else its calls by pieces (profile).
use Rattle.std.specs.Prelude.{◌≡◌, ℕ, zero, suc, ◌+◌, ◌-◌, ◌*◌, ◌/◌, ◌%◌, ◌&&◌, ◌||◌, ◌==◌, ⊤, min, not, Bool, true, false, nat_lt, if◌then◌else◌, List, [], ◌∷◌, ◌++◌, length, map, take, drop, Option, Some, None, MatchResult, Ok, Err}
use Rattle.guest_model.specs.declared.call.Call.TheVariants as calls
use Rattle.guest_model.specs.declared.refusal.ChainRefusal.{ChainRefusal}
use Rattle.disk_calls.specs.Disks.{Answered, Asked, plain, through, Told}
use Rattle.vx_base.specs.declared.parts.Geometry.{Geometry}
use Rattle.nbd_front.specs.declared.request.Request.{Request}
use Rattle.nbd_front.specs.Wire.{most_bytes, read_kind, write_kind, flush_kind, trim_kind}

-- the errors that a request is refused by itself: it is invalid, or a write passes the end (EINVAL, ENOSPC)
abbrev pub invalid : ℕ
invalid = 22

abbrev pub no_space : ℕ
no_space = 28

-- the kind or a flag is unknown; the one flag is that of a forced write
abbrev pub is_unknown : Request → Bool
is_unknown r = nat_lt trim_kind r.kind || nat_lt 1 r.flags

-- it isn't whole sectors
abbrev pub is_uneven : ℕ → Request → Bool
is_uneven z r = not (r.offset % z == 0) || not (r.len % z == 0)

-- the error of a request that makes no call, or 0
unfoldable pub judged : Geometry → Request → ℕ
judged size r =
    if is_unknown r then invalid
    else if r.kind == flush_kind then 0
    else if (r.kind == read_kind) && nat_lt most_bytes r.len then invalid
    else if is_uneven size.sector r then invalid
    else if nat_lt (size.sectors * size.sector) (r.offset + r.len) then (if r.kind == write_kind then no_space else invalid)
    else 0

-- the most bytes of one read or write, and of one trim
abbrev pub piece_bytes : ℕ
piece_bytes = 1048576

abbrev pub trim_bytes : ℕ
trim_bytes = 268435456

-- A range of bytes in spans of at most so many, ascending: where each begins, and its length. The first number only counts down.
unfoldable pub spans_within : ℕ → ℕ → ℕ → ℕ → List (ℕ × ℕ)
spans_within zero most at len = []
spans_within (suc k) most at zero = []
spans_within (suc k) most at (suc n) = (at, min most (suc n)) ∷ spans_within k most (at + min most (suc n)) (suc n - min most (suc n))

unfoldable pub spans : ℕ → ℕ → ℕ → List (ℕ × ℕ)
spans most at len = spans_within len most at len

-- Bytes in pieces of one length, of which the last may be shorter, but has at least so many.
unfoldable pub pieces_within : ℕ → ℕ → ℕ → ℕ → List ℕ → List (ℕ × List ℕ)
pieces_within zero most least at bytes = []
pieces_within (suc k) most least at bytes =
    if nat_lt (length bytes) least then []
    else (at, take most bytes) ∷ pieces_within k most least (at + min most (length bytes)) (drop most bytes)

unfoldable pub pieces : ℕ → ℕ → ℕ → List ℕ → List (ℕ × List ℕ)
pieces most least at bytes = pieces_within (length bytes) most least at bytes

-- the calls of a read, a write and a trim, with sectors of z bytes
abbrev pub read_calls : ℕ → ℕ → ℕ → List Asked
read_calls z at len = map (λ s. plain (calls.Read (s.0 / z) (s.1 / z))) (spans piece_bytes at len)

abbrev pub write_call : Bool → ℕ → List ℕ → Asked
write_call true first bytes = through first bytes
write_call false first bytes = plain (calls.Write first bytes)

abbrev pub write_calls : ℕ → Bool → ℕ → ℕ → List ℕ → List Asked
write_calls z is_forced least at bytes = map (λ p. write_call is_forced (p.0 / z) p.1) (pieces piece_bytes least at bytes)

abbrev pub trim_calls : ℕ → ℕ → ℕ → List Asked
trim_calls z at len = map (λ s. plain (calls.Trim (s.0 / z) (s.1 / z))) (spans trim_bytes at len)

-- the flag of a forced write: on a write, and a Flush behind a trim of any bytes
abbrev pub is_forced : Request → Bool
is_forced r = r.flags == 1

abbrev pub flush_behind : Request → List Asked
flush_behind r = if is_forced r && not (r.len == 0) then plain calls.Flush ∷ [] else []

-- the calls of a request that isn't refused by itself
unfoldable pub calls_by_kind : ℕ → Request → ℕ → List ℕ → List Asked
calls_by_kind z r least bytes =
    if r.kind == read_kind then read_calls z r.offset r.len
    else if r.kind == write_kind then write_calls z (is_forced r) least r.offset bytes
    else if r.kind == trim_kind then trim_calls z r.offset r.len ++ flush_behind r
    else plain calls.Flush ∷ []

abbrev pub calls_if : Bool → List Asked → List Asked
calls_if true asked = asked
calls_if false asked = []

-- the calls of a request with its data; of a write whose data were cut, those of its whole pieces
unfoldable pub calls_of : Geometry → Request → List ℕ → List Asked
calls_of size r bytes = calls_if (judged size r == 0) (calls_by_kind size.sector r 1 bytes)

unfoldable pub calls_begun : Geometry → Request → List ℕ → List Asked
calls_begun size r bytes = calls_if (judged size r == 0) (calls_by_kind size.sector r piece_bytes bytes)

-- ---- calls as they were made

-- the calls are made in order, up to the first that is refused
abbrev pub AreMade : List Asked → List Answered → Type 0
AreMade [] [] = ⊤
AreMade [] (c ∷ cs) = ⊥
AreMade (a ∷ as_) [] = ⊥
AreMade (a ∷ as_) (c ∷ cs) = (c.asked ≡ a) × MatchResult c.said (λ _. AreMade as_ cs) (λ _. cs ≡ [])

abbrev pub refusal_or : Told → Option ChainRefusal → Option ChainRefusal
refusal_or (Ok said) later = later
refusal_or (Err refusal) later = Some refusal

-- the first refusal
abbrev pub first_refusal : List Answered → Option ChainRefusal
first_refusal [] = None
first_refusal (c ∷ cs) = refusal_or c.said (first_refusal cs)
