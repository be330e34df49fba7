-- Numbers and texts on the wire, by the protocol document of the Network Block Device (fixed newstyle negotiation, simple
-- replies). All numbers stand with their highest byte first.
use Rattle.std.specs.Prelude.{ℕ, ◌-◌, ◌^◌, ◌+◌, ◌*◌, min, List, [], ◌++◌, Bool, true, false, drop, codes, replicate, nat_le, ◌%◌, ◌==◌, if◌then◌else◌}
use Rattle.byteorder.specs.Endian.{big_bytes, big_number}
use Rattle.nbd_front.specs.declared.export.Export.{Export}
use Rattle.nbd_front.specs.declared.request.Request.{Request}

-- the number in the n bytes at a place, and the n bytes of a number
unfoldable pub number_at : ℕ → List ℕ → ℕ → ℕ
number_at n bytes at = big_number n (drop at bytes)

unfoldable pub number_bytes : ℕ → ℕ → List ℕ
number_bytes n x = big_bytes n x

-- the magic of an option (`IHAVEOPT`), of a request, of a reply to either
abbrev pub option_magic : ℕ
option_magic = 0x49484156454F5054

abbrev pub request_magic : ℕ
request_magic = 0x25609513

abbrev pub option_reply_magic : ℕ
option_reply_magic = 0x0003E889045565A9

abbrev pub reply_magic : ℕ
reply_magic = 0x67446698

-- the most bytes of an option's data, and of a request's
abbrev pub most_option_bytes : ℕ
most_option_bytes = 65536

abbrev pub most_bytes : ℕ
most_bytes = 33554432

-- the most bytes that are read ahead
abbrev pub most_ahead : ℕ
most_ahead = 65536

-- the most options and requests that are served, and the most calls of one of them
abbrev pub most_messages : ℕ
most_messages = 2 ^ 48

abbrev pub most_calls : ℕ
most_calls = 33

-- the options that are served: the export's name, and to end
abbrev pub export_name : ℕ
export_name = 1

abbrev pub abort : ℕ
abort = 2

-- the requests
abbrev pub read_kind : ℕ
read_kind = 0

abbrev pub write_kind : ℕ
write_kind = 1

abbrev pub disconnect_kind : ℕ
disconnect_kind = 2

abbrev pub flush_kind : ℕ
flush_kind = 3

abbrev pub trim_kind : ℕ
trim_kind = 4

-- the fields of a request, behind its magic
abbrev pub request_of : List ℕ → Request
request_of bytes = record {
  flags = number_at 2 bytes 0;
  kind = number_at 2 bytes 2;
  cookie = number_at 8 bytes 4;
  offset = number_at 8 bytes 12;
  len = number_at 4 bytes 20;
}

-- how many bytes of data follow a request
abbrev pub data_len : Request → ℕ
data_len r = if r.kind == write_kind then r.len else 0

-- the client wants no zeros behind an export's size and flags (bit 1 of its flags)
abbrev pub wants_no_zeros : ℕ → Bool
wants_no_zeros flags = nat_le 2 (flags % 4)

-- ---- what is sent

-- `NBDMAGIC`, `IHAVEOPT`, and the flags of the handshake: fixed newstyle, no zeros
unfoldable pub greeting : List ℕ
greeting = codes "NBDMAGIC" ++ codes "IHAVEOPT" ++ number_bytes 2 3

-- what an export can: flags are there, flush, forced write, trim; or flags are there, and it is only read
abbrev pub transmission_flags : Bool → ℕ
transmission_flags true = 0x0003
transmission_flags false = 0x002D

-- the reply to an option, without data
unfoldable pub option_reply : ℕ → ℕ → List ℕ
option_reply option kind = number_bytes 8 option_reply_magic ++ number_bytes 4 option ++ number_bytes 4 kind ++ number_bytes 4 0

-- the kinds of it: done, and not served
abbrev pub acknowledged : ℕ
acknowledged = 1

abbrev pub unsupported : ℕ
unsupported = 0x80000001

-- the size of the export and its flags, with the zeros that old clients want
unfoldable pub export_reply : Export → ℕ → List ℕ
export_reply e flags =
    number_bytes 8 (e.geometry.sectors * e.geometry.sector) ++ number_bytes 2 (transmission_flags e.is_read_only)
    ++ (if wants_no_zeros flags then [] else replicate 124 0)

-- the head of a reply to a request
unfoldable pub reply_head : ℕ → ℕ → List ℕ
reply_head error cookie = number_bytes 4 reply_magic ++ number_bytes 4 error ++ number_bytes 8 cookie

-- a count of bytes stands still at the greatest number of 64 bits
abbrev pub counted : ℕ → ℕ → ℕ
counted at n = min (at + n) (2 ^ 64 - 1)
