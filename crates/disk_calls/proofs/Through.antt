-- A write that outlasts a crash, by a Write and a Flush behind it.
use Rattle.std.proofs.Common.{ℕ, List, Err, Ok}
use Rattle.guest_model.specs.declared.call.Call.TheVariants.{Flush, Write}
use Rattle.guest_model.specs.declared.call.Reply.{Reply}
use Rattle.guest_model.specs.declared.call.Reply.TheVariants.{Done}
use Rattle.guest_model.specs.declared.refusal.ChainRefusal.{ChainRefusal}
use Rattle.disk_calls.specs.Disks.{IsTrueOf, Known, plain, through, was_done, was_flushed, was_refused, was_unflushed}

-- both were done
pub flushed_behind : (z first place flushed : ℕ) (bytes : List ℕ) (said other : Reply) (old mid new : Known) → IsTrueOf z old mid (plain (Write first bytes)) (Ok (place, said))
    → IsTrueOf z mid new (plain Flush) (Ok (flushed, other)) → IsTrueOf z old new (through first bytes) (Ok (place, Done))
flushed_behind z first place flushed bytes said other old mid new (was_done n answer) (was_done m replied) = was_flushed mid n m

-- the Flush was refused
pub unflushed_behind : (z first place : ℕ) (bytes : List ℕ) (said : Reply) (refusal : ChainRefusal) (old mid new : Known) → IsTrueOf z old mid (plain (Write first bytes)) (Ok (place, said))
    → IsTrueOf z mid new (plain Flush) (Err refusal) → IsTrueOf z old new (through first bytes) (Err refusal)
unflushed_behind z first place bytes said refusal old mid new (was_done n answer) (was_refused others is) = was_unflushed mid n others is

-- the Write was
pub unwritten : (z first : ℕ) (bytes : List ℕ) (refusal : ChainRefusal) (old new : Known) → IsTrueOf z old new (plain (Write first bytes)) (Err refusal)
    → IsTrueOf z old new (through first bytes) (Err refusal)
unwritten z first bytes refusal old new (was_refused others is) = was_refused others is
