-- What reading leaves of the layers, and what it finds.
use Rattle.std.specs.Prelude.{◌≡◌, ℕ, List, Option, Some, None}
use Rattle.store_model.specs.Disk.{Disk, WhereTold}
use Rattle.guest_model.specs.declared.call.Call.TheVariants as calls
use Rattle.guest_model.specs.declared.call.Reply.TheVariants as replies
use Rattle.guest_model.specs.Calls.{reply}
use Rattle.chain_model.specs.Layers.{Layer as SectorLayer}
use Rattle.layer_session.specs.declared.file.Layer.{Layer}
use Rattle.layer_session.specs.Calls.{AddsOwned}
use Rattle.chain_core.specs.Sessions.{AreReady, leaf_number, log_numbers}
use Rattle.chain_core.specs.States.{State, IsServing, disk_now, files_of, seen_in, others_of}
use Rattle.chain_core.specs.declared.layers.Layers.{Layers}

-- Only what the layers keep in memory is another, and counts of failed reads: they are ready, and serve what they served.
pub record HasOnlyRead (old new : Layers) (before after : Disk) : Type 0 where
  pub geometry : new.geometry ≡ old.geometry
  pub numbers : log_numbers new ≡ log_numbers old
  pub merge : new.merge ≡ old.merge
  pub retiring : new.retiring ≡ old.retiring
  pub leaf : leaf_number new ≡ leaf_number old
  pub ready : AreReady new after
  pub serves : WhereTold before.told (λ trace. (v : State) → IsServing old v trace → IsServing new v trace)
  pub told : after.told ≡ before.told

-- what was read is what the history's disk has
abbrev pub Finds : ℕ → ℕ → List ℕ → Layers → Disk → Type 0
Finds first count out layers disk =
    WhereTold disk.told (λ trace. (v : State) → IsServing layers v trace → reply (disk_now v) (calls.Read first count) ≡ replies.Bytes out)

-- ---- of the small functions

-- what the leaf has of a sector, if it has a session; and what the files have that are read
abbrev pub of_session : Option Layer → State → SectorLayer
of_session None v s = None
of_session (Some leaf) v s = v.top.member.layer s

abbrev pub of_read : Option Layer → State → SectorLayer
of_read None v s = seen_in (files_of v) s
of_read (Some leaf) v s = seen_in (others_of v.rest) s

-- a part of the files adds its sectors to those that were found
abbrev pub AddsPart : (Option Layer → State → SectorLayer) → ℕ → ℕ → Layers → Disk → List ℕ → List ℕ → List ℕ → List ℕ → Type 0
AddsPart part first count layers disk mask new_mask out new_out =
    WhereTold disk.told (λ trace. (v : State) → IsServing layers v trace
    → AddsOwned (part layers.leaf v) layers.geometry.sector first count 0 mask new_mask out new_out)
