-- A client over a session that began, or ended before: what its run comes to.
use Rattle.std.proofs.Common.{◌≡◌, ◌<◌, ◌≤◌, ◌*◌, ◌^◌, ◌∷◌, ℕ, Bool, true, false, List, [], Option, Result, Ok, Err, refl, sym, ap, subst, ◌∙◌, arith}
use Rattle.std.specs.Prelude.{⊤, All, IfErr, IfOk, is_none, is_some, length}
use Rattle.store_model.specs.Disk.{Disk}
use Rattle.store_model.specs.Folder.{Hosted}
use Rattle.guest_model.specs.History.{History}
use Rattle.guest_model.specs.declared.call.Call.{Call}
use Rattle.guest_model.specs.declared.refusal.ChainRefusal.{ChainRefusal}
use Rattle.guest_model.specs.declared.refusal.ChainRefusal.TheVariants.{NoRoom}
use Rattle.chain_core.specs.Starting.{IsOfDisk}
use Rattle.vx_base.specs.declared.parts.Geometry.{Geometry}
use Rattle.link_rules.specs.Effects.{IsServed}
use Rattle.link_rules.specs.Lines.{IsLine}
use Rattle.link_rules.specs.declared.linked.Linked.{Linked}
use Rattle.link_rules.specs.declared.linked.LinkedFile.{LinkedFile}
use Rattle.serve_session.specs.Beginning.{Begins, CanBeShared, GuestRun, undone, unserved_end}
use Rattle.serve_session.specs.Endings.{Ending}
use Rattle.serve_session.specs.Served.{Asking, Outcome}
use Rattle.serve_session.specs.declared.beginning.Begun.{Begun}
use Rattle.serve_session.specs.declared.sealing.Unserved.{Unserved}
use Rattle.serve_command.specs.Guests.{BeginsOver, HasServedBy}
use Rattle.serve_command.proofs.Handing.{loose_by}
use Rattle.nbd_front.specs.Sessions.{World as Streams}
use Rattle.nbd_front.specs.declared.export.Export.{Export}
use Rattle.nbd_front.specs.declared.served.Served.{Served}
use Rattle.nbd_session.specs.Connected.{HasServedClient, IsConnected, asked_by_client, ending_of_client}
use Rattle.nbd_session.specs.declared.run.NbdRun.{NbdRun}
use Rattle.nbd_command.specs.Clients.{IsUnmet}

-- A client's run is such a run of the session's one guest, and its bytes say what that was told.
pub record IsClientRun (run : GuestRun) (export : Export) (x y : Streams ⊤) (given : NbdRun) (after : Disk) : Type 0 where
  pub calls : List Call
  pub outcomes : List Outcome
  pub history : History
  pub ran : run (asked_by_client calls) (outcomes ∷ []) history (ending_of_client given) given.merged after
  pub connected : IsConnected export x y given.served calls outcomes

module _ {S T : Type 0} (disk : S → Disk) (merges : Bool) (run : GuestRun)
    (loose : merges ≡ false → (asking : Asking) (told : List (List Outcome)) (history : History) (end : Ending) (m n : Result (Unit {0}) ChainRefusal) (after : Disk) → run asking told history end m after → run asking told history end n after)
    (export : Export) (x y : Streams ⊤) (given : NbdRun) (after : Disk) where
  pub client_told : (workers : ℕ) (begun : Result (Begun S T) (Unserved S T)) → Begins disk merges 1 workers run begun → IfOk begun (λ b. HasServedClient disk merges b.chain.first export x y given after)
      → IfErr begun (λ left. IsUnmet merges left.met left.closed given × (after ≡ disk left.store) × (y ≡ x)) → IsClientRun run export x y given after
  client_told workers (Ok b) begins s none = record {
    calls = s.calls;
    outcomes = s.outcomes;
    history = s.history;
    ran = begins.1 (asked_by_client s.calls) (s.outcomes ∷ []) s.history (ending_of_client given) given.merged after s.served;
    connected = s.connected;
  }
  client_told workers (Err left) begins none u = record {
    calls = [];
    outcomes = [];
    history = [];
    ran = subst (λ e. run (asked_by_client []) ([] ∷ []) [] e given.merged after) (sym end_is) (as_told merges refl u.0.merged (subst (λ d. run (asked_by_client []) ([] ∷ []) [] (unserved_end left.met left.closed) (Err NoRoom) d) (sym u.1) (begins (asked_by_client []))));
    connected = subst (λ s. IsConnected export x y s [] []) (sym u.0.served) (u.2, refl, refl);
  }
    where
      as_told : (b : Bool) → merges ≡ b → given.merged ≡ undone b → run (asked_by_client []) ([] ∷ []) [] (unserved_end left.met left.closed) (Err NoRoom) after → run (asked_by_client []) ([] ∷ []) [] (unserved_end left.met left.closed) given.merged after
      as_told true is merged r = subst (λ m. run (asked_by_client []) ([] ∷ []) [] (unserved_end left.met left.closed) m after) (sym merged) r
      as_told false is merged r = loose is (asked_by_client []) ([] ∷ []) [] (unserved_end left.met left.closed) (Err NoRoom) given.merged after r

      end_is : ending_of_client given ≡ unserved_end left.met left.closed
      end_is =
          ap (λ f. record { fault = f; closed = given.closed; unread = given.unread; short = is_none given.served }) u.0.fault
          ∙ ap (λ r. record { fault = left.met; closed = r; unread = given.unread; short = is_none given.served }) u.0.closed
          ∙ ap (λ n. record { fault = left.met; closed = left.closed; unread = n; short = is_none given.served }) u.0.unread
          ∙ ap (λ (s : Option Served). record { fault = left.met; closed = left.closed; unread = 0; short = is_none s }) u.0.served

-- over a chain's files
pub client_run : {S T : Type 0} (disk : S → Disk) (merge : Option (List ℕ)) (workers : ℕ) (linked : Linked) (old mid : Hosted) (before now : Option (List (List ℕ))) (begun : Result (Begun S T) (Unserved S T)) (b : BeginsOver disk merge 1 workers linked old mid before now begun)
    (some : Bool) (export : Export) (x y : Streams ⊤) (run : NbdRun) (after : Disk) → some ≡ is_some merge → IfOk begun (λ s. HasServedClient disk some s.chain.first export x y run after)
    → IfErr begun (λ left. IsUnmet some left.met left.closed run × (after ≡ disk left.store) × (y ≡ x)) → IsClientRun (HasServedBy merge linked.files b.lent before now) export x y run after
client_run disk merge workers linked old mid before now begun b some export x y run after same served unserved =
    client_told disk (is_some merge) (HasServedBy merge linked.files b.lent before now) (loose_by merge linked.files b.lent before now) export x y run after workers begun b.begins
    (subst (λ m. IfOk begun (λ s. HasServedClient disk m s.chain.first export x y run after)) same served)
    (subst (λ m. IfErr begun (λ left. IsUnmet m left.met left.closed run × (after ≡ disk left.store) × (y ≡ x))) same unserved)

-- ---- what a client's session is ready for

module _ {S T : Type 0} (disk : S → Disk) (merge : Option (List ℕ)) (workers : ℕ) (linked : Linked) (old mid : Hosted) (before now : Option (List (List ℕ))) where
  pub client_ready : (begun : Result (Begun S T) (Unserved S T)) → BeginsOver disk merge 1 workers linked old mid before now begun → IfOk begun (λ b. CanBeShared disk 1 (length b.tools.items) b)
  client_ready (Ok x) b = let r = b.begins.0 in subst (λ n. CanBeShared disk 1 n x) (sym r.hands) r
  client_ready (Err left) b = tt

  pub client_workers : (P : ℕ → Type 0) → P workers → (begun : Result (Begun S T) (Unserved S T)) → BeginsOver disk merge 1 workers linked old mid before now begun → IfOk begun (λ b. P (length b.tools.items))
  client_workers P p (Ok x) b = subst P (sym b.begins.0.hands) p
  client_workers P p (Err left) b = tt

-- the size that the files say is one
pub one_size : (files : List LinkedFile) (g h : Geometry) → IsLine files → IsOfDisk files g → IsOfDisk files h → g ≡ h
one_size [] g h line a b = absurd line
one_size (leaf ∷ others) g h line a b = a ∙ sym b

pub size_in : {S T : Type 0} (files : List LinkedFile) (g : Geometry) → IsLine files → IsOfDisk files g → (begun : Result (Begun S T) (Unserved S T)) → IfOk begun (λ b. IsOfDisk files b.chain.first.layers.geometry) → IfOk begun (λ b. g ≡ b.chain.first.layers.geometry)
size_in files g line is (Ok b) size = one_size files g b.chain.first.layers.geometry line is size
size_in files g line is (Err left) size = tt

-- and it is served
pub size_some : (files : List LinkedFile) (g : Geometry) → IsLine files → IsOfDisk files g → All IsServed files → 0 < g.sectors
size_some [] g line is served = absurd line
size_some (leaf ∷ others) g line is served = subst (λ (k : Geometry). 0 < k.sectors) (sym is) (served 0 leaf (omega arith)).numbers.one_sector

pub size_most : (files : List LinkedFile) (g : Geometry) → IsLine files → IsOfDisk files g → All IsServed files → g.sectors * g.sector ≤ 2 ^ 46
size_most [] g line is served = absurd line
size_most (leaf ∷ others) g line is served = subst (λ (k : Geometry). k.sectors * k.sector ≤ 2 ^ 46) (sym is) (served 0 leaf (omega arith)).numbers.most
