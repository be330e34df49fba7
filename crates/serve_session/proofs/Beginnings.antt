-- A session that started, made ready for threads to share, or ended before; and what a script's run over it comes to.
use Rattle.std.proofs.Common.{◌≡◌, ℕ, Bool, true, false, List, [], length, replicate, None, Result, Ok, Err, refl, sym, ap, subst, ◌∙◌}
use Rattle.std.specs.Prelude.{IfErr, IfOk, is_err}
use Rattle.store_model.specs.Disk.{Disk}
use Rattle.vx_base.specs.declared.parts.Geometry.{Geometry}
use Rattle.guest_model.specs.History.{History}
use Rattle.ledger.specs.declared.ledger.Ledger.{Ledger}
use Rattle.guest_model.specs.declared.refusal.ChainRefusal.{ChainRefusal}
use Rattle.guest_model.specs.declared.refusal.ChainRefusal.TheVariants.{NoRoom}
use Rattle.link_rules.specs.declared.linked.LinkedFile.{LinkedFile}
use Rattle.merge_plan.specs.LeafMerging.{AreOfLeaf, LeafFiles}
use Rattle.merge_plan.specs.Merging.{AreOf, MergeFiles}
use Rattle.chain_core.specs.MergeStarting.{leaf_of}
use Rattle.chain_core.specs.Starting.{IsOfDisk}
use Rattle.chain_core.proofs.MergeFound.{files_split}
use Rattle.chain_core.specs.declared.chain.Chain.{Chain}
use Rattle.chain_core.specs.Sessions.{has_merge}
use Rattle.script.specs.declared.form.Line.{Line}
use Rattle.serve_session.specs.Beginning.{Begins, CanBeShared, GuestRun, IsScriptRun, IsUnsaid, undone, unserved_end}
use Rattle.serve_session.specs.Endings.{Ending, ending_of}
use Rattle.serve_session.specs.Sealing.{EndsUnserved, IsSealing, ServesSealed}
use Rattle.serve_session.specs.Served.{Asking, Outcome, asked_by, guest_count}
use Rattle.serve_session.specs.Serving.{HasServedScript}
use Rattle.serve_session.specs.declared.beginning.Begun.{Begun}
use Rattle.serve_session.specs.declared.merging.MergeRun.{MergeRun}
use Rattle.serve_session.specs.declared.sealing.Unserved.{Unserved}
use Rattle.serve_session.proofs.Final.{none_short, none_written, unserved_is}

-- ---- its disk's size

-- that of the files between which a merge stands, whose first is the leaf
pub merge_size : (files : List LinkedFile) (m : MergeFiles) (name : List ℕ) (g : Geometry) → AreOf files name m → g ≡ (leaf_of m).parts.geometry → IsOfDisk files g
merge_size files m name g are is = subst (λ fs. IsOfDisk fs g) (sym (are.files_are ∙ files_split m)) is

pub leaf_merge_size : (files : List LinkedFile) (m : LeafFiles) (g : Geometry) → AreOfLeaf files m → g ≡ m.source.parts.geometry → IsOfDisk files g
leaf_merge_size files m g are is = subst (λ fs. IsOfDisk fs g) (sym are) is

module _ {S T : Type 0} (disk : S → Disk) (chain : Chain S Ledger T) (files : List LinkedFile) where
  -- it stays as files are sealed
  pub size_sealed : IsOfDisk files chain.layers.geometry → (begun : Result (Begun S T) (Unserved S T)) → IfOk begun (λ b. IsSealing disk chain b.chain.first None) → IfOk begun (λ b. IsOfDisk files b.chain.first.layers.geometry)
  size_sealed size (Ok b) sealed = subst (λ (c : Chain S Ledger T). IsOfDisk files c.layers.geometry) (sym sealed.only) size
  size_sealed size (Err left) sealed = tt

-- ---- its run

-- what comes of a session's chain is its run
module _ {S T : Type 0} (disk : S → Disk) (chain : Chain S Ledger T) (merges : Bool) (under_way : merges ≡ true → has_merge chain.layers ≡ true) (many workers : ℕ) (run : GuestRun)
    (by : (asking : Asking) (told : List (List Outcome)) (history : History) (end : Ending) (merged : Result (Unit {0}) ChainRefusal) (after : Disk) → ServesSealed disk merges chain asking told history end merged after → run asking told history end merged after) where
  unserved_sealed : (left : Unserved S T) → EndsUnserved disk chain left.store left.met left.closed → (asking : Asking) → ServesSealed disk merges chain asking (replicate asking.count []) [] (unserved_end left.met left.closed) (Err NoRoom) (disk left.store)
  unserved_sealed left e asking = record {
    first = e.first;
    met = left.met;
    sealing = e.sealing;
    told = λ quiet. quiet;
    served = unserved_is disk merges e.first asking (unserved_end left.met left.closed) (Err NoRoom) (disk left.store) refl refl refl (λ some. ap (λ (c : Chain S Ledger T). has_merge c.layers) e.sealing.only ∙ under_way some) e.counted e.leaves;
  }

  pub begins_so : (begun : Result (Begun S T) (Unserved S T)) → IfOk begun (CanBeShared disk many workers) → IfOk begun (λ b. IsSealing disk chain b.chain.first None) → IfErr begun (λ left. EndsUnserved disk chain left.store left.met left.closed) → Begins disk merges many workers run begun
  begins_so (Ok b) ready sealed ended = (ready, λ asking told history end merged after h. by asking told history end merged after (record { first = b.chain.first; met = None; sealing = sealed; told = λ quiet. refl; served = h }))
  begins_so (Err left) ready sealed ended = λ asking. by asking (replicate asking.count []) [] (unserved_end left.met left.closed) (Err NoRoom) (disk left.store) (unserved_sealed left ended asking)

-- ---- of a script

module _ {S T : Type 0} (disk : S → Disk) (merges : Bool) (many workers : ℕ) (run : GuestRun) where
  -- what is ready for so many guests is ready for as many
  pub begun_ready : (rooms : ℕ) → many ≡ rooms → (begun : Result (Begun S T) (Unserved S T)) → Begins disk merges many workers run begun → IfOk begun (λ b. CanBeShared disk rooms (length b.tools.items) b)
  begun_ready rooms same (Ok b) begins = let r = begins.0 in subst (λ n. CanBeShared disk n (length b.tools.items) b) same (subst (λ n. CanBeShared disk many n b) (sym r.hands) r)
  begun_ready rooms same (Err left) begins = tt

  pub begun_workers : (P : ℕ → Type 0) → P workers → (begun : Result (Begun S T) (Unserved S T)) → Begins disk merges many workers run begun → IfOk begun (λ b. P (length b.tools.items))
  begun_workers P p (Ok b) begins = subst P (sym begins.0.hands) p
  begun_workers P p (Err left) begins = tt

  -- without a merge it is so however the merge is told
  module _ (loose : merges ≡ false → (asking : Asking) (told : List (List Outcome)) (history : History) (end : Ending) (a b : Result (Unit {0}) ChainRefusal) (after : Disk) → run asking told history end a after → run asking told history end b after)
      (names : List (List ℕ)) (lines : List Line) (given : MergeRun) (after : Disk) where
    pub script_told : (begun : Result (Begun S T) (Unserved S T)) → Begins disk merges many workers run begun → IfOk begun (λ b. HasServedScript disk merges b.chain.first names lines given after)
        → IfErr begun (λ left. IsUnsaid merges left.met left.closed given × (after ≡ disk left.store)) → IsScriptRun run names lines given after
    script_told (Ok b) begins s none = record { guests = s.guests; history = s.history; ran = begins.1 (asked_by lines) s.guests s.history (ending_of given.run given.unread) given.merged after s.served; written = s.written }
    script_told (Err left) begins none u = record {
      guests = replicate (guest_count lines) [];
      history = [];
      ran = subst (λ e. run (asked_by lines) (replicate (guest_count lines) []) [] e given.merged after) (sym end_is)
          (as_told merges refl u.0.merged (subst (λ d. run (asked_by lines) (replicate (guest_count lines) []) [] (unserved_end left.met left.closed) (Err NoRoom) d) (sym u.1) (begins (asked_by lines))));
      written = none_written names lines given.run given.tally u.0.tally u.0.transcript;
    }
      where
        as_told : (b : Bool) → merges ≡ b → given.merged ≡ undone b → run (asked_by lines) (replicate (guest_count lines) []) [] (unserved_end left.met left.closed) (Err NoRoom) after → run (asked_by lines) (replicate (guest_count lines) []) [] (unserved_end left.met left.closed) given.merged after
        as_told true is merged r = subst (λ m. run (asked_by lines) (replicate (guest_count lines) []) [] (unserved_end left.met left.closed) m after) (sym merged) r
        as_told false is merged r = loose is (asked_by lines) (replicate (guest_count lines) []) [] (unserved_end left.met left.closed) (Err NoRoom) given.merged after r

        end_is : ending_of given.run given.unread ≡ unserved_end left.met left.closed
        end_is =
            ap (λ f. record { fault = f; closed = given.run.closed; unread = given.unread; short = is_err given.run.transcript }) u.0.fault
            ∙ ap (λ r. record { fault = left.met; closed = r; unread = given.unread; short = is_err given.run.transcript }) u.0.closed
            ∙ ap (λ n. record { fault = left.met; closed = left.closed; unread = n; short = is_err given.run.transcript }) u.0.unread
            ∙ ap (λ b. record { fault = left.met; closed = left.closed; unread = 0; short = b }) (none_short given.run.transcript u.0.transcript)
