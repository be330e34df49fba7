-- What `nbd` does, from what its session leaves.
use Rattle.std.proofs.Common.{◌≡◌, ◌≢◌, ◌<◌, ◌∷◌, ◌⊎◌, ℕ, zero, suc, Bool, true, false, List, [], Option, Some, None, Result, Ok, Err, refl, sym, ap, subst, ◌∙◌, inl, inr, arith}
use Rattle.std.specs.Prelude.{⊤, IfErr, IfSome, OnOk, is_none, nat_lt, if◌then◌else◌}
use Rattle.std.proofs.lemmas.Bool.{lt-ltb, ltb-true}
use Rattle.std.proofs.lemmas.Option.{same_Some}
use Rattle.file_open.specs.Causes.{IfCause, Meaning, refuses, host_failed, store_failed, no_memory, cause_in}
use Rattle.store_model.specs.Cause.{Rose}
use Rattle.store_model.specs.Disk.{WhereTold}
use Rattle.store_model.specs.Folder.{Hosted}
use Rattle.store_model.specs.declared.fault.StoreFault.{StoreFault}
use Rattle.guest_model.specs.Calls.{Disk}
use Rattle.guest_model.specs.declared.refusal.ChainRefusal.{ChainRefusal}
use Rattle.guest_model.specs.declared.refusal.ChainRefusal.TheVariants.{ReadOnly, Spent}
use Rattle.chain_core.specs.declared.starting.Mode.TheVariants.{Guests}
use Rattle.layer_session.proofs.Equal.{true_false}
use Rattle.link_rules.specs.Causes.{meaning_of}
use Rattle.link_rules.specs.Chains.{Links}
use Rattle.link_rules.specs.Chains as chains
use Rattle.link_rules.specs.Folders.{AllIdle, contents}
use Rattle.link_rules.specs.Touches.{IsOnWay, TouchesSafely}
use Rattle.link_rules.specs.declared.linked.Linked.{Linked}
use Rattle.link_rules.specs.declared.refusal.LinkRefusal.{LinkRefusal}
use Rattle.link_rules.proofs.Safe.{none_safely}
use Rattle.script_session.specs.Told.{failed_by, later_of}
use Rattle.command_base.specs.Causes.{meaning_of_chain, of_chain}
use Rattle.command_base.specs.Commands.{LeavesFollowedBy, Reports}
use Rattle.command_base.specs.Ends.{Ends, HasMerge}
use Rattle.command_base.specs.Folders.{OnlyFollows}
use Rattle.command_base.specs.Printed as printed
use Rattle.command_base.specs.Refusals.{IdUnfit, IsBase, LocatorTooLarge, MetadataFull, NotInChain, OfCall, OfChain, Refusal}
use Rattle.command_base.specs.Worlds.{World}
use Rattle.command_base.proofs.Followed.{order_stopped}
use Rattle.command_base.proofs.Home.{StaysHome, home_followed, home_still}
use Rattle.command_base.proofs.Left.{counted, follows_none, idle_left, stopped}
use Rattle.command_base.proofs.Said.{CountsIn}
use Rattle.steps_command.specs.Sessions.{CountsRefusal, HasCauseIn, IfRule, IsCounted, IsFollowedTo, IsNoRule, IsNotFollowed, NotRunOver, Rests, UnlessMerging, UnlessStore, meaning_of_steps}
use Rattle.steps_command.specs.Steps.{drive_over}
use Rattle.steps_command.specs.declared.refusal.StepsRefusal.{StepsRefusal}
use Rattle.steps_command.specs.declared.refusal.StepsRefusal.TheVariants as refusal
use Rattle.steps_command.proofs.Before.{drawn_before, refuses_by, ruleless}
use Rattle.serve_command.specs.Guests.{ServedOver, stopped_by}
use Rattle.serve_command.specs.Serves.{IsUnfinished, Service, no_service, unread_by}
use Rattle.serve_command.proofs.Keeping.{counts_all, home_all, idle_all, is_unfinished, not_session, opened_disk, rose_all}
use Rattle.serve_command.proofs.Keeping as keeping
use Rattle.serve_session.specs.Endings.{StopsMerge}
use Rattle.nbd_front.specs.Sessions.{CountsFaults, World as Streams}
use Rattle.nbd_front.specs.declared.refusal.NbdRefusal.{NbdRefusal}
use Rattle.nbd_front.specs.declared.refusal.NbdRefusal.TheVariants as refusals
use Rattle.nbd_front.specs.declared.served.Served.{Served}
use Rattle.nbd_session.specs.Connected.{IsConnected, asked_by_client, ending_of_client}
use Rattle.nbd_session.specs.declared.run.NbdRun.{NbdRun}
use Rattle.nbd_command.specs.Clients.{ClientIsServed, LeafIsOffered, end_of, has_fault, is_broken_off, no_room, of_served, over, status_meant, status_of, unlinked}
use Rattle.nbd_command.specs.Nbd.{HasMetFault, IsBroken, IsBrokenOff, IsClientEnd, IsSilent, IsUnbegun, IsUnopened, RunsNbd, streams_of}
use Rattle.nbd_command.specs.Nbd as runs
use Rattle.nbd_command.proofs.Replied.{no_fault_replied}
use Rattle.printing.specs.Sent.{whole}
use Rattle.printing.specs.declared.status.Status.{Status}
use Rattle.printing.specs.declared.status.Status.TheVariants.{Done, Fault, NoMemory, Refused}

-- what refuses a run is told as if it had been said where nothing is heard
says_none : (m : Meaning Refusal) → Reports m None None 0 0 (status_meant m)
says_none (refuses r) = inl (whole refl tt refl)
says_none (host_failed fault) = whole refl tt refl
says_none (store_failed fault) = whole refl tt refl
says_none no_memory = whole refl tt refl

not_false : false ≡ true → ⊥
not_false e = true_false (sym e)

-- ---- faults of the host's

none_of : (merge : Option (List ℕ)) → ¬ HasMerge merge → merge ≡ None
none_of None none = refl
none_of (Some name) none = absurd (none tt)

met_by : (fault : Option StoreFault) (closed : Result (Unit {0}) StoreFault) (unread : ℕ) → later_of fault (failed_by closed) ≢ None → has_fault fault closed unread ≡ true
met_by None (Ok done) unread some = absurd (some refl)
met_by None (Err last) unread some = refl
met_by (Some fault) closed unread some = refl

read_by : (fault : Option StoreFault) (closed : Result (Unit {0}) StoreFault) (unread : ℕ) → 0 < unread → has_fault fault closed unread ≡ true
read_by None (Ok done) unread less = lt-ltb 0 unread less
read_by None (Err last) unread less = refl
read_by (Some fault) closed unread less = refl

fault_by : (fault : Option StoreFault) (closed : Result (Unit {0}) StoreFault) (unread : ℕ) → has_fault fault closed unread ≡ true → (later_of fault (failed_by closed) ≢ None) ⊎ (0 < unread)
fault_by None (Ok done) unread is = inr (ltb-true 0 unread is)
fault_by None (Err last) unread is = inl (λ e. let never : Some last ≡ None = e in cc)
fault_by (Some fault) (Ok done) unread is = inl (λ e. let never : Some fault ≡ None = e in cc)
fault_by (Some fault) (Err last) unread is = inl (λ e. let never : Some last ≡ None = e in cc)

-- none was met
record IsQuiet (fault : Option StoreFault) (closed : Result (Unit {0}) StoreFault) (unread : ℕ) : Type 0 where
  none : fault ≡ None
  well : IfErr closed (λ e. ⊥)
  read : unread ≡ 0
  met : later_of fault (failed_by closed) ≡ None

not_less : (n : ℕ) → nat_lt 0 n ≡ false → n ≡ 0
not_less zero e = refl
not_less (suc n) e = absurd (true_false (sym (lt-ltb 0 (suc n) (omega arith)) ∙ e))

quiet_by : (fault : Option StoreFault) (closed : Result (Unit {0}) StoreFault) (unread : ℕ) → has_fault fault closed unread ≡ false → IsQuiet fault closed unread
quiet_by None (Ok done) unread is = record { none = refl; well = tt; read = not_less unread is; met = refl }
quiet_by None (Err last) unread is = absurd (true_false is)
quiet_by (Some fault) closed unread is = absurd (true_false is)

on_well : (closed : Result (Unit {0}) StoreFault) {P : Type 0} → IfErr closed (λ e. ⊥) → OnOk closed P → P
on_well (Ok done) well p = p
on_well (Err fault) well p = absurd well

-- ---- how a connection ends

broken_off : (end : Result (Unit {0}) NbdRefusal) → is_broken_off end ≡ true → IsBrokenOff end
broken_off (Ok done) is = absurd (not_false is)
broken_off (Err (refusals.Cut at)) is = absurd (not_false is)
broken_off (Err (refusals.Magic at)) is = absurd (not_false is)
broken_off (Err refusals.OtherName) is = absurd (not_false is)
broken_off (Err (refusals.TooLong at)) is = absurd (not_false is)
broken_off (Err refusals.OtherFlags) is = absurd (not_false is)
broken_off (Err (refusals.Source fault)) is = tt
broken_off (Err (refusals.Sink fault)) is = tt
broken_off (Err refusals.Spent) is = absurd (not_false is)

broken : (e : NbdRefusal) → (let end : Result (Unit {0}) NbdRefusal = Err e in is_broken_off end) ≡ false → (let end : Result (Unit {0}) NbdRefusal = Err e in IsBroken end)
broken (refusals.Cut at) is = tt
broken (refusals.Magic at) is = tt
broken refusals.OtherName is = tt
broken (refusals.TooLong at) is = tt
broken refusals.OtherFlags is = tt
broken (refusals.Source fault) is = absurd (true_false is)
broken (refusals.Sink fault) is = absurd (true_false is)
broken refusals.Spent is = tt

-- how the counts of source and sink go
count_rose : {D : Type 0} (end : Result (Unit {0}) NbdRefusal) (x y : Streams D) → IsBrokenOff end → CountsFaults end x y → Rose x.source_faults y.source_faults ⊎ Rose x.sink_faults y.sink_faults
count_rose (Ok done) x y off c = absurd off
count_rose (Err (refusals.Cut at)) x y off c = absurd off
count_rose (Err (refusals.Magic at)) x y off c = absurd off
count_rose (Err refusals.OtherName) x y off c = absurd off
count_rose (Err (refusals.TooLong at)) x y off c = absurd off
count_rose (Err refusals.OtherFlags) x y off c = absurd off
count_rose (Err (refusals.Source fault)) x y off c = inl c.0
count_rose (Err (refusals.Sink fault)) x y off c = inr c.1
count_rose (Err refusals.Spent) x y off c = absurd off

counts_stay : {D : Type 0} (end : Result (Unit {0}) NbdRefusal) (x y : Streams D) → is_broken_off end ≡ false → CountsFaults end x y → (y.source_faults ≡ x.source_faults) × (y.sink_faults ≡ x.sink_faults)
counts_stay (Ok done) x y off c = c
counts_stay (Err (refusals.Cut at)) x y off c = c
counts_stay (Err (refusals.Magic at)) x y off c = c
counts_stay (Err refusals.OtherName) x y off c = c
counts_stay (Err (refusals.TooLong at)) x y off c = c
counts_stay (Err refusals.OtherFlags) x y off c = c
counts_stay (Err (refusals.Source fault)) x y off c = absurd (true_false off)
counts_stay (Err (refusals.Sink fault)) x y off c = absurd (true_false off)
counts_stay (Err refusals.Spent) x y off c = c

-- ---- what refuses a session

rests_unless : (merge : Option (List ℕ)) (m : Meaning Refusal) {P : Type 0} → UnlessStore m (UnlessMerging merge m P) → status_meant m ≢ Fault → (status_meant m ≡ NoMemory → merge ≡ None) → P
rests_unless None (refuses r) p fault memory = p
rests_unless None (host_failed x) p fault memory = absurd (fault refl)
rests_unless None (store_failed x) p fault memory = absurd (fault refl)
rests_unless None no_memory p fault memory = p
rests_unless (Some name) (refuses r) p fault memory = p
rests_unless (Some name) (host_failed x) p fault memory = absurd (fault refl)
rests_unless (Some name) (store_failed x) p fault memory = absurd (fault refl)
rests_unless (Some name) no_memory p fault memory = let never : Some name ≡ None = memory refl in cc

if_rule : (m : Meaning Refusal) {P : Type 0} → IfRule m P → status_meant m ≡ Refused → P
if_rule (refuses r) p is = p
if_rule (host_failed x) p is = let never : Fault ≡ Refused = is in cc
if_rule (store_failed x) p is = let never : Fault ≡ Refused = is in cc
if_rule no_memory p is = let never : NoMemory ≡ Refused = is in cc

module _ (leaf : List ℕ) (merge : Option (List ℕ)) (before now : World) (idle : WhereTold before.host.folder AllIdle) where
  -- ---- a run that tells the client nothing

  module _ (silent : IsSilent before now) where
    source_same : now.source_faults ≡ before.source_faults
    source_same = ap (λ (s : Streams ⊤). s.source_faults) silent

    sink_same : now.sink_faults ≡ before.sink_faults
    sink_same = ap (λ (s : Streams ⊤). s.sink_faults) silent

    ends_silent : (m : Meaning Refusal) → CountsIn before.host now.host m → StaysHome before.host.folder now.host.folder → (status_meant m ≢ Fault → (status_meant m ≡ NoMemory → ¬ HasMerge merge) → WhereTold before.host.folder (λ f. WhereTold now.host.folder AllIdle))
        → Ends (HasMerge merge) before now (status_meant m)
    ends_silent (refuses r) counts home idles = record { rose = λ e. let never : Refused ≡ Fault = e in cc; quiet = λ e. (counts, source_same, sink_same); home = home; idle = idles }
    ends_silent (host_failed fault) counts home idles = record { rose = λ e. inl counts.0; quiet = λ e. absurd (e refl); home = home; idle = idles }
    ends_silent (store_failed fault) counts home idles = record { rose = λ e. inl counts.0; quiet = λ e. absurd (e refl); home = home; idle = idles }
    ends_silent no_memory counts home idles = record { rose = λ e. let never : NoMemory ≡ Fault = e in cc; quiet = λ e. (counts, source_same, sink_same); home = home; idle = idles }

    -- memory ran out before anything was done
    module _ (same : now.host ≡ before.host) (undrawn : now.drawn ≡ before.drawn) where
      none_runs : RunsNbd leaf merge before now NoMemory
      none_runs = runs.unopened (record {
        why = tt;
        silent = silent;
        followed = subst (λ (h : Hosted). OnlyFollows leaf before.host.folder h.folder) (sym same) (follows_none leaf before.host);
        moments = subst (TouchesSafely (λ f. IsOnWay (contents f) leaf) before.host) (sym same) (none_safely (λ f. IsOnWay (contents f) leaf) before.host);
        undrawn = undrawn;
      })

      none_ends : Ends (HasMerge merge) before now NoMemory
      none_ends =
          ends_silent no_memory (ap (λ (h : Hosted). h.faults) same) (home_still before.host.folder now.host.folder idle (ap (λ (h : Hosted). h.folder) same))
          (λ fault memory f told g is. subst AllIdle (same_Some f g (sym told ∙ sym (ap (λ (h : Hosted). h.folder) same) ∙ is)) (idle f told))

    -- the leaf's name leads to no chain
    module _ (r : LinkRefusal) (h : IsNotFollowed leaf r before.host now.host) where
      abbrev left_by : LeavesFollowedBy leaf before.host now.host (of_chain (meaning_of r))
      left_by = order_stopped leaf before.host now.host (meaning_of r) h.answer h.left

      unopened_by : (m : Meaning chains.Refusal) → WhereTold before.host.folder (λ f. IfCause (Links (contents f) leaf) (cause_in m)) → CountsIn before.host now.host (of_chain m) → IsUnopened leaf before now (status_meant (of_chain m))
      unopened_by (refuses x) links counts = (OfChain x, printed.unlinked x links)
      unopened_by (host_failed fault) links counts = counts.0
      unopened_by (store_failed fault) links counts = counts.0
      unopened_by no_memory links counts = tt

      follows : OnlyFollows leaf before.host.folder now.host.folder
      follows = stopped leaf before.host now.host (of_chain (meaning_of r)) left_by h.moments

      unlinked_runs : now.drawn ≡ before.drawn → RunsNbd leaf merge before now (status_meant (of_chain (meaning_of r)))
      unlinked_runs undrawn =
          runs.unopened (record { why = unopened_by (meaning_of r) h.answer (counted leaf before.host now.host (of_chain (meaning_of r)) left_by); silent = silent; followed = follows; moments = h.moments; undrawn = undrawn })

      unlinked_ends : Ends (HasMerge merge) before now (status_meant (of_chain (meaning_of r)))
      unlinked_ends =
          ends_silent (of_chain (meaning_of r)) (counted leaf before.host now.host (of_chain (meaning_of r)) left_by) (home_followed leaf before.host.folder now.host.folder idle follows)
          (λ fault memory. idle_left leaf before.host now.host (of_chain (meaning_of r)) None None 0 0 (status_meant (of_chain (meaning_of r))) left_by (says_none (of_chain (meaning_of r))) fault)

  -- ---- over a chain

  module _ (mid : Hosted) (linked : Linked) (h : IsFollowedTo leaf linked before.host mid) where
    abbrev disk : Disk
    disk = (opened_disk leaf before now mid linked h).0

    -- no session began
    module _ (r : StepsRefusal) (n : NotRunOver Guests merge linked mid now.host before.drawn now.drawn r) (silent : IsSilent before now) where
      unbegun_by : (x : StepsRefusal) → CountsRefusal mid now.host (meaning_of_steps x) → HasCauseIn Guests merge linked mid.folder before.drawn now.drawn x → IsUnbegun linked merge before now (status_meant (meaning_of_steps x))
      unbegun_by (refusal.Chain x) counts cause = by_meaning (meaning_of_chain x) counts (ruleless false merge linked mid.folder before.drawn now.drawn x cause)
        where
          by_meaning : (m : Meaning Refusal) → CountsRefusal mid now.host m → IsNoRule m → IsUnbegun linked merge before now (status_meant m)
          by_meaning (refuses x) counts none = absurd none
          by_meaning (host_failed fault) counts none = rose_all leaf before now mid linked h counts.0
          by_meaning (store_failed fault) counts none = rose_all leaf before now mid linked h counts.rose
          by_meaning no_memory counts none = tt
      unbegun_by (refusal.Spent number) counts cause = (OfCall (Spent number), refuses_by leaf linked before.host mid h before.drawn now.drawn false false merge (refusal.Spent number) refl cause (OfCall (Spent number)) refl tt)
      unbegun_by (refusal.IdUnfit id) counts cause = (IdUnfit id, refuses_by leaf linked before.host mid h before.drawn now.drawn false false merge (refusal.IdUnfit id) refl cause (IdUnfit id) refl tt)
      unbegun_by refusal.ReadOnly counts cause = (OfCall ReadOnly, refuses_by leaf linked before.host mid h before.drawn now.drawn false false merge refusal.ReadOnly refl cause (OfCall ReadOnly) refl tt)
      unbegun_by (refusal.NotInChain name) counts cause = (NotInChain name, refuses_by leaf linked before.host mid h before.drawn now.drawn false false merge (refusal.NotInChain name) refl cause (NotInChain name) refl tt)
      unbegun_by (refusal.IsBase name) counts cause = (IsBase name, refuses_by leaf linked before.host mid h before.drawn now.drawn false false merge (refusal.IsBase name) refl cause (IsBase name) refl tt)
      unbegun_by (refusal.LocatorTooLarge len) counts cause = (LocatorTooLarge len, refuses_by leaf linked before.host mid h before.drawn now.drawn false false merge (refusal.LocatorTooLarge len) refl cause (LocatorTooLarge len) refl tt)
      unbegun_by (refusal.MetadataFull file) counts cause = (MetadataFull file, refuses_by leaf linked before.host mid h before.drawn now.drawn false false merge (refusal.MetadataFull file) refl cause (MetadataFull file) refl tt)

      abbrev m : Meaning Refusal
      m = meaning_of_steps r

      rested : status_meant m ≢ Fault → (status_meant m ≡ NoMemory → merge ≡ None) → WhereTold mid.folder (λ g. Rests linked [] g mid now.host)
      rested = rests_unless merge m n.rests

      not_run : RunsNbd leaf merge before now (status_meant m)
      not_run = runs.opened (record {
        linked = linked;
        disk = disk;
        links = h.links;
        opens = (opened_disk leaf before now mid linked h).1;
        calls = [];
        service = no_service;
        session = not_session leaf before now mid linked h merge (asked_by_client []) disk (opened_disk leaf before now mid linked h).1 r n (status_meant m) rested (if_rule m n.unchanged);
        client = runs.unbegun refl refl silent (unbegun_by r n.counts n.cause);
        rose = λ some. elim some [ inl ne ↦ absurd (ne refl) | inr less ↦ absurd (omega (arith, less)) ];
        quiet = λ e. (refl, refl);
      })

      not_ends : Ends (HasMerge merge) before now (status_meant m)
      not_ends =
          ends_silent silent m (counts_all leaf before now mid linked h m n.counts) (home_all leaf before now mid linked h (λ g is. (n.stands g is).home))
          (λ fault memory. idle_all leaf before now mid linked h (λ g is. (rested fault (λ e. none_of merge (memory e)) g is).idle g is))

    -- ---- a client was served

    module _ (run : NbdRun) (c : ClientIsServed leaf merge linked run (streams_of before) (streams_of now) mid now.host before.drawn now.drawn) where
      abbrev o : ServedOver merge linked (asked_by_client c.calls) (c.outcomes ∷ []) c.history (ending_of_client run) run.merged (record mid { faults = c.over.faults }) now.host before.drawn now.drawn
      o = c.over.over

      abbrev service : Service
      service = keeping.service leaf before now mid linked h merge (asked_by_client c.calls) disk (opened_disk leaf before now mid linked h).1 (c.outcomes ∷ []) c.history (ending_of_client run) run.merged c.over

      abbrev fault_met : Bool
      fault_met = has_fault run.fault run.closed run.unread

      -- a fault that was met is one that the host counts
      rose_by : (fault : Option StoreFault) (closed : Result (Unit {0}) StoreFault) (unread : ℕ) → IfSome fault (IsCounted mid now.host) → IfErr closed (IsCounted mid now.host) → (fault ≡ None → 0 < unread → OnOk closed (Rose before.host.faults now.host.faults))
          → has_fault fault closed unread ≡ true → Rose before.host.faults now.host.faults
      rose_by (Some fault) closed unread counts ended risen is = rose_all leaf before now mid linked h counts.rose
      rose_by None (Err last) unread counts ended risen is = rose_all leaf before now mid linked h ended.rose
      rose_by None (Ok done) unread counts ended risen is = risen refl (ltb-true 0 unread is)

      rose : fault_met ≡ true → Rose before.host.faults now.host.faults
      rose =
          rose_by run.fault run.closed run.unread
          (keeping.fault_counted leaf before now mid linked h merge (asked_by_client c.calls) disk (opened_disk leaf before now mid linked h).1 (c.outcomes ∷ []) c.history (ending_of_client run) run.merged c.over)
          (keeping.end_counted leaf before now mid linked h merge (asked_by_client c.calls) disk (opened_disk leaf before now mid linked h).1 (c.outcomes ∷ []) c.history (ending_of_client run) run.merged c.over)
          (keeping.rose_read leaf before now mid linked h merge (asked_by_client c.calls) disk (opened_disk leaf before now mid linked h).1 (c.outcomes ∷ []) c.history (ending_of_client run) run.merged c.over)

      -- how many reads failed by a reader
      read_is : run.unread ≡ unread_by service
      read_is = o.unread_is

      is_met : HasMetFault service → fault_met ≡ true
      is_met (inl ne) = met_by run.fault run.closed run.unread ne
      is_met (inr less) = read_by run.fault run.closed run.unread (omega (arith, less, read_is))

      has_met : fault_met ≡ true → HasMetFault service
      has_met is = elim (fault_by run.fault run.closed run.unread is) [ inl ne ↦ inl ne | inr less ↦ inr (omega (arith, less, read_is)) ]

      -- ---- the status

      module _ (well : IsQuiet run.fault run.closed run.unread) where
        unfinished : (merged : Result (Unit {0}) ChainRefusal) → IfErr merged (λ e. (merge ≢ None) × StopsMerge (ending_of_client run) e) → is_none run.served ≡ false → IfErr merged (λ e. IsUnfinished (Some e))
        unfinished (Ok done) k there = tt
        unfinished (Err e) k there = is_unfinished (ending_of_client run) e k.1 well.none well.well there

        -- of a client that was served
        module _ (s : Served) (there : is_none run.served ≡ false) where
          abbrev EndsWith : Result (Unit {0}) ChainRefusal → Status → Type 0
          EndsWith merged status = IsClientEnd (record service { stopped = stopped_by merged }) (Some s) status

          kept_end : (end : Result (Unit {0}) NbdRefusal) (merged : Result (Unit {0}) ChainRefusal) → s.end ≡ end → is_broken_off end ≡ false → s.no_room ≡ false → IfErr merged (λ e. IsUnfinished (Some e)) → EndsWith merged (end_of end merged)
          kept_end (Ok done) (Ok finished) is off none full = (is, none, refl)
          kept_end (Ok done) (Err e) is off none full = (none, inr (is, full))
          kept_end (Err x) (Ok finished) is off none full = (none, inl (subst IsBroken (sym is) (broken x off)))
          kept_end (Err x) (Err e) is off none full = (none, inl (subst IsBroken (sym is) (broken x off)))

          by_room : (b : Bool) → s.no_room ≡ b → is_broken_off s.end ≡ false → IfErr run.merged (λ e. IsUnfinished (Some e)) → EndsWith run.merged (if b then NoMemory else end_of s.end run.merged)
          by_room true is off full = is
          by_room false is off full = kept_end s.end run.merged refl off is full

          by_end : (b : Bool) → is_broken_off s.end ≡ b → IfErr run.merged (λ e. IsUnfinished (Some e)) → EndsWith run.merged (if b then Fault else (if s.no_room then NoMemory else end_of s.end run.merged))
          by_end true is full = inr (broken_off s.end is)
          by_end false is full = by_room s.no_room refl is full

        by_served : (served : Option Served) → run.served ≡ served → IsClientEnd service served (of_served served run.merged)
        by_served None is = tt
        by_served (Some s) is = let there : is_none run.served ≡ false = ap is_none is in by_end s there (is_broken_off s.end) refl (unfinished run.merged o.stopped there)

      faulty : (served : Option Served) → HasMetFault service → IsClientEnd service served Fault
      faulty None some = some
      faulty (Some s) some = inl some

      ended : (b : Bool) → fault_met ≡ b → IsClientEnd service run.served (if b then Fault else of_served run.served run.merged)
      ended true is = faulty run.served (has_met is)
      ended false is = by_served (quiet_by run.fault run.closed run.unread is) run.served refl

      -- what isn't told as a fault is quiet
      not_faulty : (b : Bool) → fault_met ≡ b → (if b then Fault else of_served run.served run.merged) ≢ Fault → IsQuiet run.fault run.closed run.unread
      not_faulty true is other = absurd (other refl)
      not_faulty false is other = quiet_by run.fault run.closed run.unread is

      -- ---- what the client is replied

      -- where the host tells its folder, a reply tells of a fault only where one is told at the end
      replied : WhereTold before.host.folder (λ folder. IfSome run.served (λ s. s.fault ≡ true → status_of run ≡ Fault))
      replied folder told = by_met fault_met refl run.served c.connected
        where
          by_met : (b : Bool) → fault_met ≡ b → (served : Option Served) → IsConnected c.export (streams_of before) (streams_of now) served c.calls c.outcomes → IfSome served (λ s. s.fault ≡ true → (if b then Fault else of_served run.served run.merged) ≡ Fault)
          by_met b is None connected = tt
          by_met true is (Some s) connected = λ replied. refl
          by_met false is (Some s) connected =
              let well = quiet_by run.fault run.closed run.unread is in
              let kept = (keeping.ran_session leaf before now mid linked h merge (asked_by_client c.calls) disk (opened_disk leaf before now mid linked h).1 (c.outcomes ∷ []) c.history (ending_of_client run) run.merged c.over (status_of run)).kept folder told in
              let quiet = no_fault_replied (drive_over false disk) c.history (failed_by run.closed) c.export (streams_of before) (streams_of now) s c.calls c.outcomes kept.told_so.told.0 (on_well run.closed well.well (o.well well.none)) (omega (arith, well.read, read_is)) connected in
              λ replied. absurd (true_false (sym replied ∙ quiet))

      client_runs : RunsNbd leaf merge before now (status_of run)
      client_runs = runs.opened (record {
        linked = linked;
        disk = disk;
        links = h.links;
        opens = (opened_disk leaf before now mid linked h).1;
        calls = c.calls;
        service = service;
        session = keeping.ran_session leaf before now mid linked h merge (asked_by_client c.calls) disk (opened_disk leaf before now mid linked h).1 (c.outcomes ∷ []) c.history (ending_of_client run) run.merged c.over (status_of run);
        client = runs.begun c.export run.served c.outcomes refl refl c.offered c.connected (drawn_before leaf linked before.host mid h before.drawn now.drawn false merge false o.drawn) replied (ended fault_met refl);
        rose = λ some. rose (is_met some);
        quiet = λ other. let well = not_faulty fault_met refl other in (well.met, sym read_is ∙ well.read);
      })

      -- ---- how it ends

      -- the counts of source and sink
      streams_rose : (served : Option Served) → IsConnected c.export (streams_of before) (streams_of now) served c.calls c.outcomes → of_served served run.merged ≡ Fault → Rose before.source_faults now.source_faults ⊎ Rose before.sink_faults now.sink_faults
      streams_rose None connected e = let never : NoMemory ≡ Fault = e in cc
      streams_rose (Some s) connected e = by_end (is_broken_off s.end) refl e
        where
          none_ends : (end : Result (Unit {0}) NbdRefusal) (merged : Result (Unit {0}) ChainRefusal) → end_of end merged ≢ Fault
          none_ends (Ok done) (Ok finished) e = let never : Done ≡ Fault = e in cc
          none_ends (Ok done) (Err x) e = let never : Refused ≡ Fault = e in cc
          none_ends (Err x) merged e = let never : Refused ≡ Fault = e in cc

          none_rooms : (b : Bool) → (if b then NoMemory else end_of s.end run.merged) ≢ Fault
          none_rooms true e = let never : NoMemory ≡ Fault = e in cc
          none_rooms false e = none_ends s.end run.merged e

          by_end : (b : Bool) → is_broken_off s.end ≡ b → (if b then Fault else (if s.no_room then NoMemory else end_of s.end run.merged)) ≡ Fault → Rose before.source_faults now.source_faults ⊎ Rose before.sink_faults now.sink_faults
          by_end true is e = count_rose s.end _ _ (broken_off s.end is) connected.counts
          by_end false is e = absurd (none_rooms s.no_room e)

      streams_stay : (served : Option Served) → IsConnected c.export (streams_of before) (streams_of now) served c.calls c.outcomes → of_served served run.merged ≢ Fault → (now.source_faults ≡ before.source_faults) × (now.sink_faults ≡ before.sink_faults)
      streams_stay None connected other = (source_same connected.0, sink_same connected.0)
      streams_stay (Some s) connected other = by_end (is_broken_off s.end) refl other
        where
          by_end : (b : Bool) → is_broken_off s.end ≡ b → (if b then Fault else (if s.no_room then NoMemory else end_of s.end run.merged)) ≢ Fault → (now.source_faults ≡ before.source_faults) × (now.sink_faults ≡ before.sink_faults)
          by_end true is other = absurd (other refl)
          by_end false is other = counts_stay s.end _ _ is connected.counts

      rose_ends : (b : Bool) → fault_met ≡ b → (if b then Fault else of_served run.served run.merged) ≡ Fault
          → Rose before.host.faults now.host.faults ⊎ (Rose before.source_faults now.source_faults ⊎ Rose before.sink_faults now.sink_faults)
      rose_ends true is e = inl (rose is)
      rose_ends false is e = inr (streams_rose run.served c.connected e)

      stays_ends : (b : Bool) → fault_met ≡ b → (if b then Fault else of_served run.served run.merged) ≢ Fault
          → (now.host.faults ≡ before.host.faults) × (now.source_faults ≡ before.source_faults) × (now.sink_faults ≡ before.sink_faults)
      stays_ends true is other = absurd (other refl)
      stays_ends false is other =
          let well = quiet_by run.fault run.closed run.unread is in
          let same = keeping.quiet_well leaf before now mid linked h merge (asked_by_client c.calls) disk (opened_disk leaf before now mid linked h).1 (c.outcomes ∷ []) c.history (ending_of_client run) run.merged c.over well.none well.read in
          let stay = streams_stay run.served c.connected other in (on_well run.closed well.well same, stay.0, stay.1)

      client_ends : Ends (HasMerge merge) before now (status_of run)
      client_ends = record {
        rose = rose_ends fault_met refl;
        quiet = stays_ends fault_met refl;
        home = keeping.home_ran leaf before now mid linked h merge (asked_by_client c.calls) disk (opened_disk leaf before now mid linked h).1 (c.outcomes ∷ []) c.history (ending_of_client run) run.merged c.over;
        idle = λ other memory. on_well run.closed (not_faulty fault_met refl other).well
            (keeping.idle_ran leaf before now mid linked h merge (asked_by_client c.calls) disk (opened_disk leaf before now mid linked h).1 (c.outcomes ∷ []) c.history (ending_of_client run) run.merged c.over);
      }

  -- ---- whatever the answer

  abbrev status_by : Result NbdRun StepsRefusal → Status
  status_by (Ok run) = status_of run
  status_by (Err r) = status_meant (meaning_of_steps r)

  both : (result : Result NbdRun StepsRefusal) → LeafIsOffered leaf merge (streams_of before) (streams_of now) before.host now.host before.drawn now.drawn result → RunsNbd leaf merge before now (status_by result) × Ends (HasMerge merge) before now (status_by result)
  both result (no_room is silent same undrawn) = subst (λ x. RunsNbd leaf merge before now (status_by x) × Ends (HasMerge merge) before now (status_by x)) (sym is) (none_runs silent same undrawn, none_ends silent same undrawn)
  both result (unlinked r is silent none undrawn) = subst (λ x. RunsNbd leaf merge before now (status_by x) × Ends (HasMerge merge) before now (status_by x)) (sym is) (unlinked_runs silent r none undrawn, unlinked_ends silent r none)
  both (Ok run) (over mid linked h served none) = (client_runs mid linked h run served, client_ends mid linked h run served)
  both (Err r) (over mid linked h served none) = (not_run mid linked h r none.1 none.0, not_ends mid linked h r none.1 none.0)

  pub client_at : (run : NbdRun) (result : Result NbdRun StepsRefusal) (status : Status) → result ≡ Ok run → status ≡ status_of run → LeafIsOffered leaf merge (streams_of before) (streams_of now) before.host now.host before.drawn now.drawn result
      → RunsNbd leaf merge before now status × Ends (HasMerge merge) before now status
  client_at run result status is meant offered = subst (λ s. RunsNbd leaf merge before now s × Ends (HasMerge merge) before now s) (ap status_by is ∙ sym meant) (both result offered)

  pub refused_at : (r : StepsRefusal) (result : Result NbdRun StepsRefusal) (status : Status) → result ≡ Err r → status ≡ status_meant (meaning_of_steps r) → LeafIsOffered leaf merge (streams_of before) (streams_of now) before.host now.host before.drawn now.drawn result
      → RunsNbd leaf merge before now status × Ends (HasMerge merge) before now status
  refused_at r result status is meant offered = subst (λ s. RunsNbd leaf merge before now s × Ends (HasMerge merge) before now s) (ap status_by is ∙ sym meant) (both result offered)

  -- memory ran out for the names
  pub none_runs_so : IsSilent before now → now.host ≡ before.host → now.drawn ≡ before.drawn → RunsNbd leaf merge before now NoMemory × Ends (HasMerge merge) before now NoMemory
  none_runs_so silent same undrawn = (none_runs silent same undrawn, none_ends silent same undrawn)

-- a run over the leaf's name, by what its arguments are
pub offered_as : (named leaf : List ℕ) (source merge : Option (List ℕ)) (x y : Streams ⊤) (old new : Hosted) (before now : Option (List (List ℕ))) (result : Result NbdRun StepsRefusal) → named ≡ leaf → source ≡ merge
    → LeafIsOffered named source x y old new before now result → LeafIsOffered leaf merge x y old new before now result
offered_as named leaf source merge x y old new before now result a b k = subst (λ n. LeafIsOffered n merge x y old new before now result) a (subst (λ s. LeafIsOffered named s x y old new before now result) b k)

pub both_err : {A E : Type 0} (P Q : E → Type 0) (r : Result A E) → IfErr r P → IfErr r Q → IfErr r (λ e. P e × Q e)
both_err P Q (Ok x) p q = tt
both_err P Q (Err e) p q = (p, q)
