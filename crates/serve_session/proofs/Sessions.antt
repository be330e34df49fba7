-- A session with several guests, from its start to its end.
use Rattle.std.proofs.Common.{◌≡◌, ◌⊎◌, ◌<◌, ◌≢◌, ◌==◌, ◌||◌, ℕ, Bool, true, false, List, [], ◌∷◌, Option, Some, None, Result, Ok, Err, inl, inr, refl, sym, ap, ap₂, subst, ◌∙◌, ne_eqb, arith}
use Rattle.std.specs.Prelude.{IfErr, is_some}
use Rattle.std.specs.List.{AllByRecursion}
use Rattle.std.proofs.lemmas.Bool.{or_from, or_parts}
use Rattle.std.proofs.lemmas.Result.{on_ok_weaker}
use Rattle.store_model.specs.Disk.{Disk, WhereBothTold, WhereTold}
use Rattle.store_model.specs.File.{is_synced, seen}
use Rattle.store_model.specs.Trace.{Trace, file_of}
use Rattle.store_model.specs.declared.fault.StoreFault.{StoreFault}
use Rattle.store_model.proofs.Told.{counts_join}
use Rattle.vx_base.specs.declared.parts.Geometry.{Geometry}
use Rattle.guest_model.specs.Calls.{Disk as GuestDisk}
use Rattle.guest_model.specs.History.{History, is_dirty, replay}
use Rattle.ledger.specs.declared.ledger.Ledger.{Ledger}
use Rattle.guest_model.specs.declared.refusal.ChainRefusal.{ChainRefusal}
use Rattle.chain_model.specs.Members.{Way}
use Rattle.chain_model.specs.Moments.{EachOpens, EachOpensToPrefix}
use Rattle.layer_session.specs.Unnamed.{NamesNoLog}
use Rattle.link_rules.specs.declared.linked.LinkedFile.{LinkedFile}
use Rattle.merge_plan.specs.Attached.{CanStart}
use Rattle.chain_core.specs.declared.chain.Chain.{Chain}
use Rattle.chain_core.specs.declared.starting.Mode.TheVariants.{Guests}
use Rattle.chain_core.specs.Sealed.{GoesOnSealed, IsKept}
use Rattle.chain_core.specs.declared.layers.Layers.{Layers}
use Rattle.chain_core.specs.Starting.{HasStarted, IsOfDisk, StartsWith, opening_disk, started, under, way_to}
use Rattle.chain_core.specs.States.{IsServing, State, sector_of}
use Rattle.script_session.specs.Faults.{Counts, FaultsAreTold}
use Rattle.layer_session.proofs.Equal.{false_true, none_some, some_same}
use Rattle.script_session.specs.Histories.{GoesOn, HasRetired, IsSoLong, disk_after, merges_leaf}
use Rattle.script_session.specs.Running.{drive_of, open_by, open_last}
use Rattle.script_session.specs.Told.{failed_by, sector_size}
use Rattle.script_session.proofs.Lengths.{ends_later}
use Rattle.script_session.proofs.Scripts.{past_as}
use Rattle.shared_chain.proofs.Breaking.{past_wider, wider}
use Rattle.shared_chain.specs.Closing.{HasLeft}
use Rattle.shared_chain.specs.Faults as shared
use Rattle.shared_chain.specs.Steps.{open_by as opens_by}
use Rattle.serve_session.specs.Endings.{Ending}
use Rattle.serve_session.specs.Running.{HasRunGuests, HasServedFiles, HaveServed}
use Rattle.serve_session.specs.Served.{AreServed, Asking, Outcome, all_told, all_unread}
use Rattle.serve_session.specs.Sealing.{IsSealing, ServesFirst, ServesSealed}
use Rattle.serve_session.specs.Serving.{HasServed, IsUpTo, drive_from}
use Rattle.serve_session.proofs.Filled.{long_up}

-- ---- what is left of the files

-- what stands of a state that the session has come to, in the words of its beginning
module _ (z z' : ℕ) (o o' : GuestDisk) (leaf leaf' : Way) (h h' : History) (now : Trace) (ez : z ≡ z') (eo : o ≡ o') (el : leaf ≡ leaf') (eh : h ≡ h') where
  pub last_as : (p : ℕ → Bool) → EachOpens leaf (λ s. is_dirty z h s || p s) (replay z o h) now → EachOpens leaf' (λ s. is_dirty z' h' s || p s) (replay z' o' h') now
  last_as p last =
      subst (λ n. EachOpens leaf' (λ s. is_dirty n h' s || p s) (replay n o' h') now) ez
      (subst (λ d. EachOpens leaf' (λ s. is_dirty z h' s || p s) (replay z d h') now) eo
      (subst (λ l. EachOpens l (λ s. is_dirty z h' s || p s) (replay z o h') now) el (subst (λ k. EachOpens leaf (λ s. is_dirty z k s || p s) (replay z o k) now) eh last)))

  pub whole_as : EachOpens leaf (λ s. false) (replay z o h) now → EachOpens leaf' (λ s. false) (replay z' o' h') now
  whole_as all =
      subst (λ n. EachOpens leaf' (λ s. false) (replay n o' h') now) ez
      (subst (λ d. EachOpens leaf' (λ s. false) (replay z d h') now) eo (subst (λ l. EachOpens l (λ s. false) (replay z o h') now) el (subst (λ k. EachOpens leaf (λ s. false) (replay z o k) now) eh all)))

-- where the leaf isn't merged the session goes on over it
pub goes_on : (v later : State) → merges_leaf v.rest ≡ false → GoesOn v later ⊎ HasRetired v later → GoesOn v later
goes_on v later none (inl on) = on
goes_on v later none (inr retired) = absurd (false_true (sym none ∙ retired.merges))

pub counts_change : (after : Disk) (r : Result (Unit {0}) StoreFault) → IfErr r (shared.CountsChange after) → IfErr r (Counts after)
counts_change after (Ok done) c = tt
counts_change after (Err f) c = record { within = c.0; some = c.1; counted = inr c.2 }

-- ---- once what the session only reads was sealed

-- of the counts of a store, from its beginning on
module _ {S T : Type 0} (disk : S → Disk) (chain first : Chain S Ledger T) (met : Option StoreFault) (sealing : IsSealing disk chain first met) (old : Disk) (begun : disk chain.store ≡ record old { told = (disk chain.store).told }) where
  pub layers_are : first.layers ≡ chain.layers
  layers_are = ap (λ (c : Chain S Ledger T). c.layers) sealing.only

  pub files_are : (disk first.store).files ≡ old.files
  files_are = sealing.files ∙ ap (λ (d : Disk). d.files) begun

  pub changes_are : (disk first.store).failed_changes ≡ old.failed_changes
  changes_are = sealing.changes ∙ ap (λ (d : Disk). d.failed_changes) begun

  pub quiet_since : met ≡ None → disk first.store ≡ record old { told = (disk first.store).told }
  quiet_since none = counts_join old (disk chain.store) (disk first.store) begun (sealing.quiet none)

module _ {S T : Type 0} (disk : S → Disk) (chain : Chain S Ledger T) (asking : Asking) (guests : List (List Outcome)) (history : History) (end : Ending) (merged : Result (Unit {0}) ChainRefusal) (after : Disk) (sealed : ServesSealed disk false chain asking guests history end merged after) (sector : chain.layers.geometry.sector ≡ 512)
    (leaf : LinkedFile) (others : List LinkedFile) (old : Disk) (drawn now_drawn : Option (List (List ℕ))) (begun : HasStarted Guests (leaf ∷ others) chain.layers old (disk chain.store) drawn now_drawn) (geometry : chain.layers.geometry ≡ leaf.parts.geometry) where
  abbrev first : Chain S Ledger T
  first = sealed.first

  abbrev h : HasServed disk false first asking guests history end merged after
  h = sealed.served

  same_layers : first.layers ≡ chain.layers
  same_layers = layers_are disk chain first sealed.met sealed.sealing old begun.1.counts

  has_session : is_some first.layers.leaf ≡ true
  has_session = ap (λ (l : Layers). is_some l.leaf) same_layers ∙ begun.1.session

  module _ (trace start mid : Trace) (mid_is : (disk first.store).told ≡ Some mid) (goes : GoesOnSealed chain.layers start mid) (began : IsServing chain.layers (started trace leaf others (under begun.1.ids leaf.parts)) start) where
    abbrev opened : State
    opened = started trace leaf others (under begun.1.ids leaf.parts)

    abbrev from : State
    from = record opened { since = mid }

    serving : IsServing first.layers from mid
    serving = subst (λ l. IsServing l from mid) (sym same_layers) (goes.serves opened began)

    size : sector_of from ≡ sector_size
    size = sym (ap (λ (g : Geometry). g.sector) began.geometry) ∙ sector

    drive_is : drive_from first from ≡ drive_of Guests leaf others trace
    drive_is = ap₂ (λ (g : Geometry) c. record { geometry = g; can_change = c; opening = opening_disk trace (leaf ∷ others) }) (ap (λ (l : Layers). l.geometry) same_layers ∙ geometry) has_session

    served : AreServed false (drive_of Guests leaf others trace) asking guests history (failed_by end.closed) h.broken
    served = subst (λ d. AreServed false d asking guests history (failed_by end.closed) h.broken) drive_is (h.served mid mid_is from serving refl)

    -- a file that isn't the leaf was sealed at most
    kept : (other : ℕ) → other ≢ 0 → IsKept (file_of trace other) (file_of mid other)
    kept other apart = subst (λ f. IsKept f (file_of mid other)) (began.still other (ne_eqb other 0 apart)) (goes.kept other)

    module _ (now : Trace) (left : HasLeft (is_some first.layers.leaf) h.under_way from history h.full h.breach end.closed now) where
      on : GoesOn from left.to
      on = goes_on from left.to refl left.comes.later.goes

      to_size : sector_of left.to ≡ sector_size
      to_size = left.comes.sector ∙ size

      files : HasServedFiles leaf others asking guests history h.broken end.closed trace now
      files = record {
        served = served;
        moments = past_wider sector_size (opening_disk trace (leaf ∷ others)) history (opens_by h.breach) (open_by h.broken) (way_to leaf (leaf ∷ others) None) trace now h.opens
            (subst (λ k. EachOpensToPrefix sector_size (opening_disk trace (leaf ∷ others)) k (opens_by h.breach) (way_to leaf (leaf ∷ others) None) trace now) left.comes.later.history
            (past_as (sector_of left.to) sector_size left.to.opening (opening_disk trace (leaf ∷ others)) left.to.leaf (way_to leaf (leaf ∷ others) None) left.to.began trace left.to.history (λ z. opens_by h.breach) now to_size left.comes.later.opening left.comes.later.leaf left.comes.later.began left.past));
        last = wider (way_to leaf (leaf ∷ others) None) (λ s. is_dirty sector_size history s || opens_by h.breach s) (open_last history h.broken) (disk_after (drive_of Guests leaf others trace) history) now
            (λ s apart. let parts = or_parts (is_dirty sector_size history s) (open_by h.broken s) apart in or_from (is_dirty sector_size history s) (opens_by h.breach s) parts.0 (h.opens s parts.1))
            (last_as (sector_of left.to) sector_size left.to.opening (opening_disk trace (leaf ∷ others)) left.to.leaf (way_to leaf (leaf ∷ others) None) left.to.history history now to_size left.comes.later.opening left.comes.later.leaf left.comes.later.history (opens_by h.breach) left.last);
        full = ends_later (IsUpTo h.full) (IsSoLong (λ n. n == 0) now) (long_up h.full (λ n. n == 0) now left.long) (all_told guests) h.ends;
        still = λ other apart.
            subst (IsKept (file_of trace other)) (sym (left.still other (ap (λ (w : ℕ → Bool). w other) on.writes ∙ ne_eqb other 0 apart) ∙ ap (λ t. file_of t other) on.since)) (kept other apart);
        at_rest = on_ok_weaker end.closed (λ w. record {
          synced = subst (λ n. is_synced (file_of now n) ≡ true) on.number (w.synced has_session).0;
          no_log = λ can.
              let mine : left.to.writes left.to.top.number ≡ true = subst (λ n. left.to.writes n ≡ true) (sym on.number) (ap (λ (w : ℕ → Bool). w 0) on.writes) in
              subst (λ n. NamesNoLog (seen (file_of now n))) on.number ((w.no_log has_session).0 mine);
          opens = whole_as (sector_of left.to) sector_size left.to.opening (opening_disk trace (leaf ∷ others)) left.to.leaf (way_to leaf (leaf ∷ others) None) left.to.history history now to_size left.comes.later.opening left.comes.later.leaf left.comes.later.history w.opens;
        }) left.whole;
      }

  have : WhereBothTold (HaveServed (leaf ∷ others) asking guests history h.broken end.closed) old.told after.told
  have = go old.told (disk chain.store).told begun.1.serving (disk first.store).told refl sealed.sealing.goes after.told h.leaves
    where
      go : (a b : Option Trace) → StartsWith (under begun.1.ids) (leaf ∷ others) chain.layers a b → (s : Option Trace) → (disk first.store).told ≡ s → WhereBothTold (GoesOnSealed chain.layers) b s → (c : Option Trace)
          → WhereBothTold (λ trace now. (from : State) → IsServing first.layers from trace → from.history ≡ [] → HasLeft (is_some first.layers.leaf) h.under_way from history h.full h.breach end.closed now) s c
          → WhereBothTold (HaveServed (leaf ∷ others) asking guests history h.broken end.closed) a c
      go None None st None e g None l = tt
      go None None st None e g (Some c) l = absurd l
      go None None st (Some s) e g c l = absurd g
      go None (Some b) st s e g c l = absurd st
      go (Some a) None st s e g c l = absurd st
      go (Some a) (Some b) st None e g c l = absurd g
      go (Some a) (Some b) st (Some s) e g None l = absurd l
      go (Some a) (Some b) st (Some s) e g (Some c) l = files a b s e g st c (l (record (started a leaf others (under begun.1.ids leaf.parts)) { since = s }) (serving a b s e g st) refl)

  pub has_run : HasRunGuests (leaf ∷ others) asking guests history end old after drawn now_drawn
  has_run = record {
    broken = h.broken;
    count = h.count;
    drawn = (begun.0, begun.1.ids, begun.1.fit);
    counted = h.counted.last;
    ended = counts_change after end.closed h.counted.end;
    quiet = λ none. on_ok_weaker end.closed (λ same. counts_join old (disk first.store) after (quiet_since disk chain first sealed.met sealed.sealing old begun.1.counts (sealed.told none)) same) (h.counted.quiet none);
    faults =
        let k = h.faults in
        subst (λ n. FaultsAreTold (all_told guests) (failed_by end.closed) n old.failed_changes after.failed_reads after.failed_changes) (files_are disk chain first sealed.met sealed.sealing old begun.1.counts)
        (record { each = k.each; end = k.end; none = λ none. k.none none ∙ changes_are disk chain first sealed.met sealed.sealing old begun.1.counts });
    unread = subst (λ n. AllByRecursion (λ fault. fault.file < n) (all_unread guests)) (files_are disk chain first sealed.met sealed.sealing old begun.1.counts) h.unread;
    unread_is = (let all = h.unread_is in let none = h.none_fetched refl in omega (arith, all, none));
    served = have;
  }

-- of a session without a merge
pub guests_ran : {S T : Type 0} (disk : S → Disk) (chain : Chain S Ledger T) (files : List LinkedFile) (asking : Asking) (guests : List (List Outcome)) (history : History) (end : Ending) (merged : Result (Unit {0}) ChainRefusal) (old after : Disk) (drawn now : Option (List (List ℕ)))
    → ServesSealed disk false chain asking guests history end merged after → HasStarted Guests files chain.layers old (disk chain.store) drawn now → CanStart files old → chain.layers.geometry.sector ≡ 512 → IsOfDisk files chain.layers.geometry → HasRunGuests files asking guests history end old after drawn now
guests_ran disk chain [] asking guests history end merged old after drawn now sealed begun can sector geometry = absurd can.line
guests_ran disk chain (leaf ∷ others) asking guests history end merged old after drawn now sealed begun can sector geometry = has_run disk chain asking guests history end merged after sealed sector leaf others old drawn now begun geometry

-- the session that has started serves its first state
pub serves_first : {S T : Type 0} (disk : S → Disk) (chain : Chain S Ledger T) (files : List LinkedFile) (old : Disk) (drawn now : Option (List (List ℕ))) → CanStart files old → HasStarted Guests files chain.layers old (disk chain.store) drawn now → ServesFirst disk chain
serves_first disk chain [] old drawn now can begun = absurd can.line
serves_first disk chain (leaf ∷ others) old drawn now can begun = go old.told (disk chain.store).told begun.1.serving
  where
    go : (a b : Option Trace) → StartsWith (under begun.1.ids) (leaf ∷ others) chain.layers a b → WhereTold b (λ trace. (from : State) × IsServing chain.layers from trace × (from.history ≡ []))
    go None None st = λ t e. absurd (none_some e)
    go None (Some b) st = absurd st
    go (Some a) None st = absurd st
    go (Some a) (Some b) st = λ t e. subst (λ (w : Trace). (from : State) × IsServing chain.layers from w × (from.history ≡ [])) (some_same {x = b} {y = t} e) (started a leaf others (under begun.1.ids leaf.parts), st, refl)
