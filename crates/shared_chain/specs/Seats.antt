-- What a thread's seat of a shared chain is, and what stays of it whatever the thread's turns do.
use Rattle.std.specs.Prelude.{◌≡◌, ◌⊎◌, ◌+◌, ◌-◌, ◌^◌, ◌<◌, ◌≤◌, ℕ, true, List, [], ◌∷◌, ◌++◌, length, None}
use Rattle.guest_model.specs.History.{History}
use Rattle.guest_model.specs.declared.call.Entry.{Entry}
use Rattle.chain_model.specs.Stripes.{touches}
use Rattle.script_session.specs.Told.{sector_size}
use Rattle.seats.specs.Counting.{times}
use Rattle.shared_chain.specs.declared.basis.Basis.{Basis}
use Rattle.shared_chain.specs.declared.basis.Step.{Step}
use Rattle.shared_chain.specs.declared.basis.Step.TheVariants.{Broke}
use Rattle.guest_model.specs.declared.refusal.ChainRefusal.{ChainRefusal}
use Rattle.guest_model.specs.declared.refusal.ChainRefusal.TheVariants as refusals
use Rattle.shared_chain.specs.declared.basis.Note.TheVariants as notes
use Rattle.shared_chain.specs.Notes.{HasNote}
use Rattle.shared_chain.specs.Bases.{Contains, HasStripe}
use Rattle.shared_chain.specs.Steps.{done_steps, merge_breach}
use Rattle.turn_lock.specs.Histories.{StartsWith}
use Rattle.turn_lock.specs.Seats.{Known, TableId}

-- at this place, behind the whole history, a step of the merge broke the session
pub record MergeBreaksAt (seen : List Step) (p : ℕ) : Type 0 where
  pub before : History
  pub begins : StartsWith seen (done_steps before ++ Broke merge_breach ∷ [])
  pub place_is : p ≡ length before + 1

-- at this place of the history a call was done that changes a sector of this stripe
pub record ChangesAt (seen : List Step) (stripe p : ℕ) : Type 0 where
  pub before : History
  pub call : Entry
  pub begins : StartsWith seen (done_steps (before ++ call ∷ []))
  pub place_is : p ≡ length before + 1
  pub touched : touches sector_size call.call stripe ≡ true

module _ {S T : Type 0} where
  -- the seat is of this lock, and holds no turn
  abbrev pub IsFree : TableId → Known Step (Basis S T) → Type 0
  IsFree lock seat = (seat.lock ≡ lock) × (seat.turn ≡ None)

  -- What stays of a seat, whatever its call is answered: it has its lock, and no turn; it goes on having seen what it had, and knowing what
  -- it knew; and no refusal is taken back.
  pub record KeepsSeat (old new : Known Step (Basis S T)) : Type 0 where
    pub lock : new.lock ≡ old.lock
    pub free : new.turn ≡ None
    pub family : new.family ≡ old.family
    pub first_ticket : new.first_ticket ≡ old.first_ticket
    pub known : new.known ≡ old.known
    pub refusals : old.refusals ≤ new.refusals
    pub seen : StartsWith new.seen old.seen
    pub basis : Contains new.basis old.basis

  -- The steps of a merge that were done in so many turns of the seat at most add nothing to its own places but, if one of them broke the
  -- session, that.
  pub record HasWorked (turns : ℕ) (old new : Known Step (Basis S T)) : Type 0 where
    pub keeps : KeepsSeat old new
    pub drawn : new.drawn ≤ old.drawn + turns
    pub own : (p : ℕ) → 0 < times p new.mine → (0 < times p old.mine) ⊎ MergeBreaksAt new.seen p

  -- Why a worker's stripe isn't copied, by what its seat knew before and knows now: of a stale piece, that a call changed the stripe since.
  abbrev pub StopsTurn : ℕ → Known Step (Basis S T) → Known Step (Basis S T) → ChainRefusal → Type 0
  StopsTurn stripe old new refusals.NoMerge = new.basis.finished ≡ true
  StopsTurn stripe old new (refusals.NoStripe s stripes) = stripes ≤ stripe
  StopsTurn stripe old new (refusals.Spent t) = (2 ^ 63 ≤ t) × ((0 < new.refusals) ⊎ (t ≤ new.basis.events))
  StopsTurn stripe old new (refusals.FileFull next) = HasNote new.basis.notes (notes.Full next)
  StopsTurn stripe old new (refusals.ReadFault file count) = HasNote new.basis.notes (notes.ReadFailed file count) × (HasNote old.basis.notes (notes.ReadFailed file count) → 2 ^ 64 - 1 ≤ count)
  StopsTurn stripe old new (refusals.Broken file count) = HasNote new.basis.notes (notes.ChangeFailed file count)
  StopsTurn stripe old new (refusals.Stale taken now) = ChangesAt new.seen stripe now × (length old.seen < now)
  StopsTurn stripe old new other = ⊥

  -- A turn answered that the stripe was copied, or it is none of those that are kept in mind; or what stopped that shows.
  abbrev pub IsSwept : ℕ → Known Step (Basis S T) → Known Step (Basis S T) → Type 0
  IsSwept stripe old new = HasStripe stripe new.basis.copied ⊎ (new.basis.stripes ≤ stripe) ⊎ ((x : ChainRefusal) × StopsTurn stripe old new x)
