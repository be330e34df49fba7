-- What the refusals of the code stand for, and what the functions leave that answer them; what a run promises doesn't rest on these.
use Rattle.std.specs.Prelude.{◌≡◌, ◌<◌, ℕ, List, Result, Ok, Err}
use Rattle.store_model.specs.Disk.{Disk, ReadFailed}
use Rattle.file_open.specs.Causes.{Meaning, refuses, host_failed, store_failed, no_memory, cause_in, IfCause, meaning_of}
use Rattle.link_rules.specs.Causes as link
use Rattle.link_rules.specs.Chains as chains
use Rattle.command_base.specs.Refusals.{Refusal, OfChain}
use Rattle.command_base.specs.Refusals as refusals
use Rattle.make_file.specs.declared.refusal.MakeRefusal.{MakeRefusal}
use Rattle.make_file.specs.declared.refusal.MakeRefusal.TheVariants as make
use Rattle.file_repair.specs.declared.refusal.RepairRefusal.{RepairRefusal}
use Rattle.file_repair.specs.declared.refusal.RepairRefusal.TheVariants as repair
use Rattle.command_base.specs.declared.refusal.ChainRefusal.{ChainRefusal}
use Rattle.command_base.specs.declared.refusal.ChainRefusal.TheVariants as chain
use Rattle.command_base.specs.declared.refusal.DumpRefusal.{DumpRefusal}
use Rattle.command_base.specs.declared.refusal.DumpRefusal.TheVariants.{Chain, Range}

-- what a refusal of linking says, as one of a command
abbrev pub of_chain : Meaning chains.Refusal → Meaning Refusal
of_chain (refuses refusal) = refuses (OfChain refusal)
of_chain (host_failed fault) = host_failed fault
of_chain (store_failed fault) = store_failed fault
of_chain no_memory = no_memory

-- what it says that the files of a chain aren't read
abbrev pub meaning_of_chain : ChainRefusal → Meaning Refusal
meaning_of_chain (chain.Unlinked refusal) = of_chain (link.meaning_of refusal)
meaning_of_chain (chain.Host fault) = host_failed fault
meaning_of_chain (chain.Store fault) = store_failed fault
meaning_of_chain chain.NoRoom = no_memory

-- what a refusal of a dump says
abbrev pub meaning_of_dump : DumpRefusal → Meaning Refusal
meaning_of_dump (Chain refusal) = meaning_of_chain refusal
meaning_of_dump (Range refusal) = refuses (refusals.OfCall refusal)

-- what a refusal of making a file of this name says
abbrev pub meaning_of_make : List ℕ → MakeRefusal → Meaning Refusal
meaning_of_make name make.NameTaken = refuses (refusals.NameTaken name)
meaning_of_make name (make.IdUnfit id) = refuses (refusals.IdUnfit id)
meaning_of_make name (make.Host fault) = host_failed fault
meaning_of_make name (make.Store fault) = store_failed fault
meaning_of_make name make.NoRoom = no_memory

-- what a refusal of repairing the file of this name says
abbrev pub meaning_of_repair : List ℕ → RepairRefusal → Meaning Refusal
meaning_of_repair name (repair.Open refusal) = of_chain (link.of_file name (meaning_of refusal))
meaning_of_repair name (repair.IdUnfit id) = refuses (refusals.IdUnfit id)
meaning_of_repair name (repair.Store fault) = store_failed fault
meaning_of_repair name repair.NoRoom = no_memory

-- an answer of the code that stands for one of these; a fault and want of memory say nothing of the files
abbrev pub AnswersBy : {A E : Type 0} → (E → Meaning Refusal) → (Result A Refusal → Type 0) → Result A E → Type 0
AnswersBy meaning P (Ok x) = P (Ok x)
AnswersBy meaning P (Err refusal) = IfCause P (cause_in (meaning refusal))

-- what reads of a store's files leave of it: they refuse nothing, a failed one counts, and after any other answer it is as it was
abbrev pub LeavesStoreBy : {R : Type 0} → Disk → Disk → Meaning R → Type 0
LeavesStoreBy old new (refuses refusal) = ⊥
LeavesStoreBy old new (host_failed fault) = ⊥
LeavesStoreBy old new (store_failed fault) = (fault.file < old.files) × ReadFailed fault.file old new fault
LeavesStoreBy old new no_memory = new ≡ old

abbrev pub LeavesStore : {A : Type 0} → Disk → Disk → Result A ChainRefusal → Type 0
LeavesStore old new (Ok x) = new ≡ old
LeavesStore old new (Err refusal) = LeavesStoreBy old new (meaning_of_chain refusal)
