-- A read of which a part was planned has its reply once the plan is filled.
use Rattle.std.proofs.Common.{◌≡◌, ◌⊎◌, ◌*◌, ◌/◌, ◌<◌, ◌≤◌, ℕ, zero, Bool, false, List, [], ◌∷◌, length, Option, Some, None, inl, inr, refl, sym, ap, subst, ◌∙◌, arith}
use Rattle.std.specs.Prelude.{All, option_map, slice_index_or}
use Rattle.std.specs.List.{AllByRecursion}
use Rattle.std.proofs.lemmas.List.Elements.{All-from_recursion}
use Rattle.store_model.specs.Disk.{Disk, Sealed, WhereBothTold, WhereTold}
use Rattle.store_model.specs.File.{seen}
use Rattle.store_model.specs.Trace.{Trace, file_of}
use Rattle.store_model.specs.declared.fault.StoreFault.{StoreFault}
use Rattle.guest_model.specs.declared.call.Call.TheVariants as calls
use Rattle.guest_model.specs.declared.call.Reply.TheVariants as replies
use Rattle.ledger.specs.declared.ledger.Ledger.{Ledger}
use Rattle.guest_model.specs.Calls.{reply}
use Rattle.guest_model.specs.History.{History, replay}
use Rattle.read_plan.specs.Plans.{FitsIn}
use Rattle.read_plan.specs.Reading.{AreThere, HasFilled, LieInFiles, LiesInFiles}
use Rattle.read_plan.specs.declared.plan.Extent.{Extent}
use Rattle.sealed_layer.specs.Planned.{EndsBy, LieInStore, files_in}
use Rattle.chain_core.specs.declared.chain.Chain.{Chain}
use Rattle.chain_core.specs.Planned.{AreReadersOf, FindsPlanned}
use Rattle.chain_core.specs.Sessions.{Session}
use Rattle.chain_core.specs.States.{IsServing, State, sector_of}
use Rattle.chain_core.proofs.Later.{plans_answer, plans_can_be_filled}
use Rattle.chain_core.proofs.SealedSteps.{readers_of_session}
use Rattle.layer_session.proofs.Equal.{none_some}
use Rattle.script_session.specs.Histories.{GoesOn, HasRetired, IsLater}
use Rattle.script_session.proofs.LeftFiles.{later_writes}
use Rattle.shared_chain.specs.declared.basis.Breach.{Breach}
use Rattle.shared_chain.specs.Homes.{Follows, IsHome, session_of}
use Rattle.shared_chain.specs.Planned.{IsPlanned, IsReaderFor}
use Rattle.shared_chain.specs.Shared.{Shared}
use Rattle.shared_chain.proofs.Homing.{replied_at}

-- an extent that ends in the sectors of a buffer lies in its bytes
fits_in : (e : Extent) (n : ℕ) → EndsBy (n / 512) e → FitsIn 512 n e
fits_in e n h = let whole : 512 * (n / 512) ≤ n = omega arith in omega (arith, h, whole)

pub fit_in : (n : ℕ) (plan : List Extent) → AllByRecursion (EndsBy (n / 512)) plan → All (FitsIn 512 n) plan
fit_in n plan h = All-from_recursion (FitsIn 512 n) plan (go plan h)
  where
    go : (plan : List Extent) → AllByRecursion (EndsBy (n / 512)) plan → AllByRecursion (FitsIn 512 n) plan
    go [] h = tt
    go (e ∷ plan) h = (fits_in e n h.0, go plan h.1)

-- readers of a state are readers of those that it comes to
readers_later : (v : State) (h : History) (later : State) (readers : List Sealed) → IsLater v h later → AreReadersOf v readers → AreReadersOf later readers
readers_later v h later readers is are k d below = go is.goes
  where
    s : Sealed
    s = slice_index_or readers k d

    was : (v.writes s.file ≡ false) × (s.content ≡ Some (files_in v.since s.file))
    was = are k d below

    go : GoesOn v later ⊎ HasRetired v later → (later.writes s.file ≡ false) × (s.content ≡ Some (files_in later.since s.file))
    go (inl g) = (ap (λ (w : ℕ → Bool). w s.file) g.writes ∙ was.0, was.1 ∙ ap (λ (t : Trace). Some (files_in t s.file)) (sym g.since))
    go (inr r) = (later_writes v later is.goes s.file was.0, was.1 ∙ ap (λ f. Some (seen f)) (sym (r.since s.file was.0)))

module _ {S T : Type 0} (disk : S → Disk) (first : Chain S Ledger T) (readers : List Sealed) (are : All (IsReaderFor disk first) readers) where
  abbrev began : Session
  began = session_of disk first

  -- where the store tells its content, they are readers of each state that the session served when it had begun
  of_state : (t : Trace) (from : State) → began.disk.told ≡ Some t → IsServing first.layers from t → AreReadersOf from readers
  of_state t from is serving = go readers are
    where
      go : (rs : List Sealed) → All (IsReaderFor disk first) rs → AreReadersOf from rs
      go [] h = λ k d below. absurd (omega (arith, below))
      go (s ∷ rest) h =
          readers_of_session first.layers from t (s ∷ rest) serving (h zero s (omega arith)).session
          (λ k d below. let r = h k d below in (r.only_read, r.content ∙ ap (option_map (λ (trace : Trace). seen (file_of trace (slice_index_or (s ∷ rest) k d).file))) is))

  module _ (old : Session) (h : History) (full : Option ℕ) (broke : Option Breach) (fault : Option StoreFault) (home : IsHome began old h full broke fault) (whole : old.broken ≡ None) where
    -- they can fill a plan
    pub lie_in : (z : ℕ) (plan : List Extent) → old.layers.geometry.sector ≡ z → LieInStore old.layers.geometry.sector old.disk plan → LieInFiles z readers plan
    lie_in z plan sector lie = subst (λ z. LieInFiles z readers plan) sector by_reader
      where
        one : (k : ℕ) (d : Extent) → k < length plan → (a : Option Trace) → began.disk.told ≡ a → (b : Option Trace) → old.disk.told ≡ b
            → WhereBothTold (λ trace after. (from : State) → IsServing first.layers from trace → from.history ≡ [] → Follows from h full broke old after) a b → LiesInFiles old.layers.geometry.sector readers (slice_index_or plan k d)
        one k d below None is_a b is_b f = λ j s within same bytes told. absurd (none_some (sym ((are j s within).content ∙ ap (option_map (λ (trace : Trace). seen (file_of trace (slice_index_or readers j s).file))) is_a) ∙ told))
        one k d below (Some t) is_a None is_b f = absurd f
        one k d below (Some t) is_a (Some u) is_b f = λ j s within same.
            let start = (are j s within).served t is_a in
            let g = f start.0 start.1 start.2 in
            plans_can_be_filled old.layers g.to old.disk plan readers u is_b (g.serves whole) (readers_later start.0 h g.to readers g.comes.later (of_state t start.0 is_a start.1)) lie k d below j s within same

        by_reader : LieInFiles old.layers.geometry.sector readers plan
        by_reader k d below = one k d below began.disk.told refl old.disk.told refl home.follows

    -- and once it is filled the buffer has the reply
    pub fills : (z a n : ℕ) (plan : List Extent) (out new : List ℕ) → old.layers.geometry.sector ≡ z → FindsPlanned a n plan out old.layers old.disk → HasFilled z readers plan out new
        → WhereTold began.disk.told (λ trace. (from : State) → IsServing first.layers from trace → from.history ≡ [] → reply (replay (sector_of from) from.opening h) (calls.Read a n) ≡ replies.Bytes new)
    fills z a n plan out new sector finds filled =
        replied_at began old h full broke fault (calls.Read a n) (replies.Bytes new) home whole
        (λ t u is_t is_u from to begun empty later serving.
        plans_answer old.layers to old.disk a n plan out new readers u is_u serving (readers_later from h to readers later (of_state t from is_t begun)) finds (subst (λ z. HasFilled z readers plan out new) (sym sector) filled))

-- what is planned of a read in a whole session
pub planned : {S T : Type 0} (disk : S → Disk) (s : Shared (Chain S Ledger T)) (a n : ℕ) (readers : List Sealed) (plan : List Extent) (out : List ℕ)
    → IsHome (session_of disk s.first) (session_of disk s.chain) s.chain.recorder s.full s.broke s.fault → s.chain.broken ≡ None → s.chain.layers.geometry.sector ≡ 512
    → AllByRecursion (EndsBy (length out / 512)) plan → AreThere readers plan → LieInStore s.chain.layers.geometry.sector (disk s.chain.store) plan → FindsPlanned a n plan out s.chain.layers (disk s.chain.store)
    → IsPlanned disk s (calls.Read a n) readers plan out
planned disk s a n readers plan out home whole sector fit there lie finds = record {
  fit = fit_in (length out) plan fit;
  there = there;
  lie = λ are. lie_in disk s.first readers are (session_of disk s.chain) s.chain.recorder s.full s.broke s.fault home whole 512 plan sector lie;
  replies = λ are new filled. fills disk s.first readers are (session_of disk s.chain) s.chain.recorder s.full s.broke s.fault home whole 512 a n plan out new sector finds filled;
}
