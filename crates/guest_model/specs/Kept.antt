-- Entries as they are kept.
use Rattle.guest_model.specs.declared.call.Call.{Call}
use Rattle.guest_model.specs.declared.call.Call.TheVariants as calls
use Rattle.guest_model.specs.declared.call.Caller.{Caller}
use Rattle.guest_model.specs.declared.call.Entry.{Entry}
use Rattle.guest_model.specs.declared.kept.KeptCall.{KeptCall}
use Rattle.guest_model.specs.declared.kept.KeptCall.TheVariants.{Read, Write, Trim, Flush}

-- the call that a kept one is
abbrev pub kept_call : KeptCall → Call
kept_call (Read first count) = calls.Read first count
kept_call (Write first bytes) = calls.Write first bytes
kept_call (Trim first count) = calls.Trim first count
kept_call Flush = calls.Flush

-- the entry of a caller's kept call
abbrev pub kept_entry : Caller → KeptCall → Entry
kept_entry who call = record { guest = who.guest; no = who.no; call = kept_call call }
