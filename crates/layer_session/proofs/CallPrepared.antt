-- A prepared call, from its plans to its answer.
use Rattle.std.proofs.Common.{◌≡◌, ℕ, ◌/◌, ◌<◌, Bool, true, false, refl, sym, subst, arith}
use Rattle.std.specs.Prelude.{Option, Some, None, Result, Ok, Err, OnOk}
use Rattle.vhdx_format.specs.Fields.{megabyte}
use Rattle.vhdx_format.specs.Layers.{HasSizes}
use Rattle.store_model.specs.Disk.{Disk, WhereBothTold, WhereTold}
use Rattle.store_model.specs.Trace.{Trace}
use Rattle.block_alloc.specs.Spaces.{fits_in}
use Rattle.table_pages.specs.Held.{shape_of}
use Rattle.table_pages.specs.declared.tables.TableParts.{TableParts}
use Rattle.layer_session.specs.declared.file.Layer.{Layer}
use Rattle.layer_session.specs.declared.file.LayerFault.{LayerFault}
use Rattle.layer_session.specs.declared.file.LayerFault.TheVariants.{Read, Write, FileFull}
use Rattle.layer_session.specs.declared.planning.Wanted.{Wanted}
use Rattle.layer_session.specs.Bringing.{Leads, LeadsTo}
use Rattle.layer_session.specs.Calls.{HasKept, OnBroken, OnRoom}
use Rattle.layer_session.specs.Planning.{AreCounted, ArePlanned, EachRun, IsLooked, is_changing}
use Rattle.layer_session.specs.Prepared.{IsPrepared, TakesBlocks}
use Rattle.layer_session.specs.Steps.{Begins, HasPages, HasRoomFor, IsToDo, Wants, held_by}
use Rattle.layer_session.proofs.Finished.{pages_idle, to_do_idle}
use Rattle.layer_session.proofs.Fitted.{fits_fewer, room_of_fits}
use Rattle.layer_session.proofs.Tally.{changes_none, some_changed, takes}

-- an error that is handed on
pub no_room : (P : Type 0) (fault : LayerFault) → OnBroken {T = Wanted} (Err fault) ⊥ → OnRoom {T = Unit {0}} (Err fault) P
no_room P (Read fault) h = tt
no_room P (Write fault) h = absurd h
no_room P (FileFull next) h = tt

pub begins_by : (l n : Layer) (first count : ℕ) (trims : Bool) (a b : Option Trace) → WhereBothTold (HasKept l n) a b → WhereTold b (Wants n 0 first count trims) → WhereBothTold (Begins l n first count trims) a b
begins_by l n first count trims None None k w = tt
begins_by l n first count trims None (Some v) k w = absurd k
begins_by l n first count trims (Some u) None k w = absurd k
begins_by l n first count trims (Some u) (Some v) k w = record { serves = k.serves; wants = w v refl }

module _ (l n : Layer) (d0 d1 : Disk) (leads : LeadsTo l n d0 d1) (first count : ℕ) (trims : Bool) (wanted : Wanted) (counted : AreCounted (shape_of l.tables.parts) n.plans.items 0 first count wanted)
    (looked : WhereTold d1.told (λ t. IsLooked (shape_of l.tables.parts) (held_by n t) trims n.plans.items 0 first count wanted)) where
  sizes : HasSizes (shape_of l.tables.parts)
  sizes = subst (λ (x : TableParts). HasSizes (shape_of x)) leads.parts (let s = leads.ready.readable.sizes in record { sector = s.sector; block = s.block })

  pub planned_here : WhereTold d1.told (λ t. (trims : Bool) × ArePlanned (shape_of n.tables.parts) (held_by n t) trims n.plans.items 0 first count)
  planned_here t told = (trims, subst (λ (x : TableParts). ArePlanned (shape_of x) (held_by n t) trims n.plans.items 0 first count) (sym leads.parts) (looked t told).planned)

  pub counted_here : AreCounted (shape_of n.tables.parts) n.plans.items 0 first count wanted
  counted_here = subst (λ (x : TableParts). AreCounted (shape_of x) n.plans.items 0 first count wanted) (sym leads.parts) counted

  pub some_here : wanted.tables ≡ true → 0 < count
  some_here = some_changed (shape_of l.tables.parts) sizes n.plans.items 0 0 first count wanted counted

  module _ (off : wanted.tables ≡ false) where
    idle : EachRun (shape_of l.tables.parts) n.plans.items (λ s k plan. is_changing plan.step ≡ false) 0 first count
    idle = changes_none (shape_of l.tables.parts) sizes n.plans.items 0 0 first count wanted counted off

    pub idle_begins : WhereBothTold (Begins l n first count trims) d0.told d1.told
    idle_begins =
        begins_by l n first count trims d0.told d1.told leads.kept
        (λ t told. record {
          todo = subst (λ (x : TableParts). EachRun (shape_of x) n.plans.items (IsToDo (shape_of x) (held_by n t) trims) 0 first count) (sym leads.parts)
              (to_do_idle (shape_of l.tables.parts) n.plans.items (held_by n t) trims first count idle (looked t told).planned);
        })

    pub idle_prepared : fits_in wanted.blocks (l.tables.parts.block / megabyte) wanted.bitmaps n.space ≡ true → IsPrepared n 0 first count
    idle_prepared fits = record {
      pages = subst (λ (x : TableParts). EachRun (shape_of x) n.plans.items (HasPages n.tables) 0 first count) (sym leads.parts) (pages_idle n.tables (shape_of l.tables.parts) n.plans.items first count idle);
      blocks = wanted.blocks;
      taken = subst (λ (x : TableParts). TakesBlocks (shape_of x) n.plans.items 0 first count wanted.blocks) (sym leads.parts) (takes (shape_of l.tables.parts) sizes n.plans.items 0 0 first count wanted counted);
      room = subst (λ (x : TableParts). HasRoomFor (x.block / megabyte) wanted.blocks 0 n.space) (sym leads.parts)
          (room_of_fits (l.tables.parts.block / megabyte) wanted.blocks 0 n.space (fits_fewer wanted.blocks (l.tables.parts.block / megabyte) wanted.bitmaps 0 n.space (omega arith) fits));
    }

  -- behind the rest
  wants_told : (m : Layer) (c d : Option Trace) → WhereBothTold (λ before after. ArePlanned (shape_of n.tables.parts) (held_by n before) trims n.plans.items 0 first count → Wants m 0 first count trims after) c d
      → WhereTold c (λ t. ArePlanned (shape_of n.tables.parts) (held_by n t) trims n.plans.items 0 first count) → WhereTold d (Wants m 0 first count trims)
  wants_told m None None w p u e = cc
  wants_told m None (Some v) w p u e = absurd w
  wants_told m (Some t) None w p u e = absurd w
  wants_told m (Some t) (Some v) w p u e = subst (Wants m 0 first count trims) (let same : v ≡ u = cc in same) (w (p t refl))

  pub done_begins : (m : Layer) (d2 : Disk) (result : Result (Unit {0}) LayerFault) → Leads l m d0 d2 result
      → OnOk result (WhereBothTold (λ before after. ArePlanned (shape_of n.tables.parts) (held_by n before) trims n.plans.items 0 first count → Wants m 0 first count trims after) d1.told d2.told)
      → OnOk result (WhereBothTold (Begins l m first count trims) d0.told d2.told)
  done_begins m d2 (Ok x) all wants =
      begins_by l m first count trims d0.told d2.told all.kept
      (wants_told m d1.told d2.told wants (λ t told. subst (λ (x : TableParts). ArePlanned (shape_of x) (held_by n t) trims n.plans.items 0 first count) (sym leads.parts) (looked t told).planned))
  done_begins m d2 (Err fault) all wants = tt
