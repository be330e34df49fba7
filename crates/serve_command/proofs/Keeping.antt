-- What a session over a chain's files leaves to a run over its leaf's name, whatever front its guests come by.
use Rattle.std.proofs.Common.{◌≡◌, ◌≢◌, ◌<◌, ℕ, true, false, List, [], length, Option, Some, None, Result, Ok, Err, refl, sym, subst, ◌∙◌, inl, inr, arith}
use Rattle.std.specs.Prelude.{IfErr, IfSome, OnOk, is_some}
use Rattle.std.specs.List.{AllByRecursion}
use Rattle.std.proofs.lemmas.Option.{same_Some}
use Rattle.file_open.specs.Causes.{Meaning, refuses, host_failed, store_failed, no_memory}
use Rattle.store_model.specs.Cause.{Rose}
use Rattle.store_model.specs.Disk.{WhereTold}
use Rattle.store_model.specs.Folder.{Held, Hosted}
use Rattle.store_model.specs.Moments.{IsHealthy, LastReturnedCounts, Throughout}
use Rattle.store_model.specs.declared.fault.StoreFault.{StoreFault}
use Rattle.store_model.proofs.Throughout.{last_join, returned_join}
use Rattle.vhdx_format.specs.Fields.{sector_size}
use Rattle.guest_model.specs.Calls.{Disk}
use Rattle.guest_model.specs.History.{History, replay}
use Rattle.guest_model.specs.declared.refusal.ChainRefusal.{ChainRefusal}
use Rattle.guest_model.specs.declared.refusal.ChainRefusal.TheVariants as refusals
use Rattle.chain_model.specs.Files.{OpensTo}
use Rattle.chain_model.specs.Members.{disk_of}
use Rattle.chain_core.specs.declared.starting.Mode.TheVariants.{Guests}
use Rattle.layer_session.proofs.Equal.{true_false}
use Rattle.link_rules.specs.Chains.{Links}
use Rattle.link_rules.specs.Folders.{AllIdle, ReturnsHealthy, contents}
use Rattle.link_rules.specs.declared.linked.Linked.{Linked}
use Rattle.link_rules.proofs.Chained.{links_are_chains}
use Rattle.script_session.specs.Faults.{FaultsAreTold}
use Rattle.script_session.specs.Histories.{IsEndTold}
use Rattle.script_session.specs.Running.{open_by, open_last}
use Rattle.script_session.specs.Told.{failed_by}
use Rattle.serve_session.specs.Endings.{Ending, StopsMerge}
use Rattle.serve_session.specs.Served.{AreServed, Asking, Outcome, all_told, all_unread}
use Rattle.printing.specs.declared.status.Status.{Status}
use Rattle.printing.specs.declared.status.Status.TheVariants.{Fault, NoMemory, Refused}
use Rattle.steps_command.specs.Crashes.{AreSpared, EachImageOpens, HasLong, NoneNamesLog, OpensToFirst}
use Rattle.command_base.specs.Folders.{AllHome, LastReturned, files_of}
use Rattle.serve_command.specs.Guests.{ServedOver, ServedWith, stopped_by}
use Rattle.serve_command.specs.Serves.{HasServedChain, HasServedOut, IsMergeLeft, IsStopTold, IsUnfinished, KeepsServed, Service, no_service}
use Rattle.steps_command.specs.Sessions.{CountsRefusal, IsCounted, IsFollowedTo, NotRunOver, OpensIn, Rests, Stands, StaysAsItWas, leaf_name}
use Rattle.steps_command.specs.Starts.{changed_names}
use Rattle.steps_command.specs.Steps.{drive_over, way_by}
use Rattle.command_base.specs.Worlds.{World}
use Rattle.steps_command.specs.declared.refusal.StepsRefusal.{StepsRefusal}
use Rattle.steps_command.proofs.Behind.{name_is, opens_mid, told_mid}
use Rattle.command_base.proofs.Followed.{has_followed}
use Rattle.command_base.proofs.Home.{StaysHome}
use Rattle.command_base.proofs.Left.{followed}
use Rattle.command_base.proofs.Said.{CountsIn}
use Rattle.command_base.specs.Refusals.{Refusal}
use Rattle.serve_command.proofs.Handing.{rose_later}

ended_well : (closed : Result (Unit {0}) StoreFault) {P : Type 0} → OnOk closed P → failed_by closed ≡ None → P
ended_well (Ok done) p none = p
ended_well (Err fault) p none = cc

never_told : {A : Type 0} (x : A) → None ≡ Some x → ⊥
never_told x e = cc

-- where no fault was met and memory didn't run out a merge isn't finished since a file is full
pub is_unfinished : (end : Ending) (e : ChainRefusal) → StopsMerge end e → end.fault ≡ None → IfErr end.closed (λ x. ⊥) → end.short ≡ false → IsUnfinished (Some e)
is_unfinished end (refusals.Spent t) k none well there = absurd k
is_unfinished end (refusals.FileFull next) k none well there = tt
is_unfinished end (refusals.ReadFault file n) k none well there = let never : ◌≡◌ {A = Option StoreFault} (Some (record { file = file; count = n })) None = sym k ∙ none in cc
is_unfinished end (refusals.Broken file n) k none well there = absurd (subst (λ r. IfErr r (λ x. ⊥)) k well)
is_unfinished end refusals.NoRoom k none well there = absurd (true_false (sym k ∙ there))
is_unfinished end refusals.EmptyRange k none well there = absurd k
is_unfinished end (refusals.OutOfRange x0 x1 x2) k none well there = absurd k
is_unfinished end (refusals.TooLong x0 x1) k none well there = absurd k
is_unfinished end refusals.ReadOnly k none well there = absurd k
is_unfinished end refusals.NoMerge k none well there = absurd k
is_unfinished end (refusals.Stale x0 x1) k none well there = absurd k
is_unfinished end (refusals.NotYet x0) k none well there = absurd k
is_unfinished end (refusals.Abandoned x0 x1) k none well there = absurd k
is_unfinished end (refusals.NoStripe x0 x1) k none well there = absurd k
is_unfinished end refusals.NoPiece k none well there = absurd k

module _ (leaf : List ℕ) (before now : World) (mid : Hosted) (linked : Linked) (h : IsFollowedTo leaf linked before.host mid) where
  pub rose_all : Rose mid.faults now.host.faults → Rose before.host.faults now.host.faults
  rose_all rose = subst (λ n. Rose n now.host.faults) h.replayed.quiet rose

  pub last_all : (count : ℕ) → WhereTold mid.folder (λ f. LastReturnedCounts count mid now.host) → WhereTold before.host.folder (λ f. LastReturnedCounts count before.host now.host)
  last_all count last f told = let g = told_mid leaf linked before.host mid h f told in last_join IsHealthy count before.host mid now.host (h.replayed.healthy f told) (last g.0 g.1)

  pub healthy_all : ReturnsHealthy mid now.host → ReturnsHealthy before.host now.host
  healthy_all healthy f told = let g = told_mid leaf linked before.host mid h f told in returned_join IsHealthy before.host mid now.host (h.replayed.healthy f told) (healthy g.0 g.1)

  pub home_all : WhereTold mid.folder (λ g. WhereTold now.host.folder AllHome) → StaysHome before.host.folder now.host.folder
  home_all home f told = let g = told_mid leaf linked before.host mid h f told in home g.0 g.1

  pub idle_all : WhereTold mid.folder (λ g. WhereTold now.host.folder AllIdle) → WhereTold before.host.folder (λ f. WhereTold now.host.folder AllIdle)
  idle_all idles f told = let g = told_mid leaf linked before.host mid h f told in idles g.0 g.1

  -- how the host's count goes with what refuses a session
  pub counts_all : (meaning : Meaning Refusal) → CountsRefusal mid now.host meaning → CountsIn before.host now.host meaning
  counts_all (refuses x) c = c ∙ h.replayed.quiet
  counts_all (host_failed fault) c = (rose_all c.0, c.1, healthy_all c.2)
  counts_all (store_failed fault) c = (rose_all c.rose, c.some, last_all fault.count c.last)
  counts_all no_memory c = c ∙ h.replayed.quiet

  -- the disk of the chain
  disk_in : (folder : Option (List Held)) → WhereTold folder (λ f. Links (contents f) leaf (Ok linked)) → (disk : Disk) × WhereTold folder (λ f. OpensTo (files_of f) leaf disk)
  disk_in None links = ([], λ f told. absurd (never_told f told))
  disk_in (Some f) links =
      let c = links_are_chains (contents f) leaf linked (links f refl) in
      (disk_of c.chain, λ g told. subst (λ x. OpensTo (files_of x) leaf (disk_of c.chain)) (same_Some f g told) (record { retired = c.retired; chain = c.chain; linked = c.linked; is = refl }))

  pub opened_disk : (disk : Disk) × WhereTold before.host.folder (λ f. OpensTo (files_of f) leaf disk)
  opened_disk = disk_in before.host.folder h.links

  module _ (merge : Option (List ℕ)) (asking : Asking) (disk : Disk) (opens : WhereTold before.host.folder (λ f. OpensTo (files_of f) leaf disk)) where
    -- no file that it may change names a log
    abbrev LogsEnded : Type 0
    LogsEnded = WhereTold now.host.folder (NoneNamesLog (changed_names false merge linked.files))

    -- a merge has left the chain so, with the leaf's name
    abbrev MergeLeft : Service → List ℕ → Type 0
    MergeLeft service name = IfSome merge (IsMergeLeft service.stopped name linked now.host)

    -- what is so of the session's end
    record HasRested (service : Service) (meant : Status) : Type 0 where
      rests : HasServedOut merge service meant → WhereTold mid.folder (λ g. Rests linked service.history g mid now.host)
      no_log : HasServedOut merge service meant → service.has_begun ≡ true → WhereTold mid.folder (λ g. LogsEnded)
      left : HasServedOut merge service meant → service.has_begun ≡ true → WhereTold mid.folder (λ g. MergeLeft service (leaf_name linked))
      unchanged : meant ≡ Refused → service.has_begun ≡ false → StaysAsItWas mid.folder now.host.folder
      alone : merge ≡ None → service.unfetched ≡ 0

    abbrev EndsOf : Service → Type 0
    EndsOf service = AllByRecursion (IsEndTold (λ next. WhereTold now.host.folder (HasLong (changed_names false merge linked.files) next))) (all_told service.guests)

    abbrev StopOf : Service → Type 0
    StopOf service = IfSome service.stopped (IsStopTold (λ next. WhereTold now.host.folder (HasLong (changed_names false merge linked.files) next)))

    abbrev UnreadOf : Service → Type 0
    UnreadOf service = AllByRecursion (λ fault. fault.file < length linked.files) (all_unread service.guests)

    abbrev FaultsOf : Service → Type 0
    FaultsOf service = LastReturned (λ store. FaultsAreTold (all_told service.guests) service.ended (length linked.files) (λ file. 0) store.failed_reads store.failed_changes) mid now.host

    session_by : (service : Service) (meant : Status) → (service.has_begun ≡ false → service ≡ no_service) → HasRested service meant → WhereTold mid.folder (λ g. OpensIn linked g (λ d. AreServed (is_some merge) (drive_over false d) asking service.guests service.history service.ended service.broken))
        → WhereTold mid.folder (λ g. Stands Guests merge linked service.history service.broken g mid now.host) → WhereTold mid.folder (λ g. EndsOf service × StopOf service × (service.has_begun ≡ true → FaultsOf service) × UnreadOf service) → HasServedChain leaf linked disk merge asking service meant before now
    session_by service meant none s told_so stands outside = record {
      opened = mid;
      followed = followed leaf before.host mid (has_followed leaf linked before.host h.links mid h.replayed) h.moments;
      opening = h.moments;
      none = none;
      alone = s.alone;
      kept = keeps;
      unchanged = s.unchanged;
    }
      where
        keeps : WhereTold before.host.folder (λ f. KeepsServed leaf linked disk merge asking service meant mid now.host)
        keeps f told =
            let g = told_mid leaf linked before.host mid h f told in
            let opened = opens_mid leaf linked before.host mid h f g.0 told g.1 disk (opens f told) in
            let name = name_is leaf linked before.host mid h in
            record {
              told_so = told_so g.0 g.1 disk opened;
              moments = subst (λ n. Throughout (OpensToFirst (way_by n linked merge) disk service.history (open_by service.broken)) mid now.host) name ((stands g.0 g.1).moments disk opened);
              last = subst (λ n. WhereTold now.host.folder (EachImageOpens (way_by n linked merge) (open_last service.history service.broken) (replay sector_size disk service.history))) name ((stands g.0 g.1).last disk opened);
              full = (outside g.0 g.1).0;
              stopped = (outside g.0 g.1).1;
              faults = (outside g.0 g.1).2;
              unread = (outside g.0 g.1).3;
              spared = λ x is. (stands x is).spared;
              idle = λ rested after is. (s.rests rested g.0 g.1).idle g.0 g.1 after is;
              at_rest = λ rested after is. subst (λ n. OpensTo (files_of after) n (replay sector_size disk service.history)) name ((s.rests rested g.0 g.1).opens disk opened after is);
              no_log = λ rested some. s.no_log rested some g.0 g.1;
              merged = λ rested some. subst (MergeLeft service) name (s.left rested some g.0 g.1);
            }

    -- ---- no session ran

    none_told : (g : List Held) → OpensIn linked g (λ d. AreServed (is_some merge) (drive_over false d) asking [] [] None None)
    none_told g d opens = record { told = tt; order = tt; unread = tt; all = λ p low high. absurd (omega (arith, low, high)); breaker = tt }

    -- once a status other than a fault leaves the files at rest
    pub not_session : (r : StepsRefusal) → NotRunOver Guests merge linked mid now.host before.drawn now.drawn r → (meant : Status) → (meant ≢ Fault → (meant ≡ NoMemory → merge ≡ None) → WhereTold mid.folder (λ g. Rests linked [] g mid now.host))
        → (meant ≡ Refused → StaysAsItWas mid.folder now.host.folder) → HasServedChain leaf linked disk merge asking no_service meant before now
    not_session r n meant rests unchanged =
        session_by no_service meant (λ e. refl)
        (record {
          rests = λ rested. rests (rested.sound.1 refl) (λ memory. elim (rested.begun memory) [ inl none ↦ none | inr some ↦ absurd (let never : false ≡ true = some in cc) ]);
          no_log = λ rested some. let never : false ≡ true = some in cc;
          left = λ rested some. let never : false ≡ true = some in cc;
          unchanged = λ refused begun. unchanged refused;
          alone = λ none. refl;
        })
        (λ g is. none_told g) n.stands (λ g is. (tt, tt, (λ some. let never : false ≡ true = some in cc), tt))

    -- ---- a session ran

    module _ (guests : List (List Outcome)) (history : History) (end : Ending) (merged : Result (Unit {0}) ChainRefusal) (w : ServedWith merge linked asking guests history end merged mid now.host before.drawn now.drawn) where
      abbrev risen : Hosted
      risen = record mid { faults = w.faults }

      abbrev o : ServedOver merge linked asking guests history end merged risen now.host before.drawn now.drawn
      o = w.over

      abbrev pub service : Service
      service = record { has_begun = true; guests = guests; history = history; broken = o.broken; stopped = stopped_by merged; refused = end.fault; ended = failed_by end.closed; unfetched = o.unfetched }

      -- the host's count rose since the files were lent where it rose since the readers came back
      pub rose_from : Rose w.faults now.host.faults → Rose mid.faults now.host.faults
      rose_from rose = let l = rose_later end.unread mid.faults w.faults w.readers in let r = rose.risen in record { later = let m = rose.later in omega (arith, m, l); risen = omega (arith, r, l) }

      counted_from : (fault : StoreFault) → IsCounted risen now.host fault → IsCounted mid now.host fault
      counted_from fault c = record { rose = rose_from c.rose; some = c.some; last = c.last }

      throughout_from : (P : List Held → Type 0) → Throughout P risen now.host → Throughout P mid now.host
      throughout_from P t = record { past = t.past; now = t.now }

      stands_from : (g : List Held) → Stands Guests merge linked history o.broken g risen now.host → Stands Guests merge linked history o.broken g mid now.host
      stands_from g s = record {
        moments = λ d opens. throughout_from (OpensToFirst (way_by (leaf_name linked) linked merge) d history (open_by o.broken)) (s.moments d opens);
        last = s.last;
        spared = throughout_from (AreSpared (changed_names false merge linked.files) g) s.spared;
        unchanged = s.unchanged;
        home = s.home;
      }

      rests_from : (g : List Held) (closed : Result (Unit {0}) StoreFault) → OnOk closed (Rests linked history g risen now.host) → OnOk closed (Rests linked history g mid now.host)
      rests_from g (Ok done) r = record { idle = r.idle; opens = r.opens }
      rests_from g (Err fault) r = tt

      some_from : (fault : Option StoreFault) → IfSome fault (IsCounted risen now.host) → IfSome fault (IsCounted mid now.host)
      some_from None c = tt
      some_from (Some fault) c = counted_from fault c

      err_from : (closed : Result (Unit {0}) StoreFault) → IfErr closed (IsCounted risen now.host) → IfErr closed (IsCounted mid now.host)
      err_from (Ok done) c = tt
      err_from (Err fault) c = counted_from fault c

      pub fault_counted : IfSome end.fault (IsCounted mid now.host)
      fault_counted = some_from end.fault o.counted

      pub end_counted : IfErr end.closed (IsCounted mid now.host)
      end_counted = err_from end.closed o.ended

      -- with neither the count rose by the readers alone
      none_risen : end.unread ≡ 0 → w.faults ≡ mid.faults
      none_risen none = w.readers.none (λ less. absurd (omega (arith, less, none)))

      pub quiet_well : end.fault ≡ None → end.unread ≡ 0 → OnOk end.closed (now.host.faults ≡ before.host.faults)
      quiet_well none unread = by_closed end.closed (o.quiet none)
        where
          by_closed : (closed : Result (Unit {0}) StoreFault) → OnOk closed (now.host.faults ≡ w.faults) → OnOk closed (now.host.faults ≡ before.host.faults)
          by_closed (Ok done) same = same ∙ none_risen unread ∙ h.replayed.quiet
          by_closed (Err fault) same = tt

      pub rose_read : end.fault ≡ None → 0 < end.unread → OnOk end.closed (Rose before.host.faults now.host.faults)
      rose_read none less = by_closed end.closed (o.quiet none)
        where
          by_closed : (closed : Result (Unit {0}) StoreFault) → OnOk closed (now.host.faults ≡ w.faults) → OnOk closed (Rose before.host.faults now.host.faults)
          by_closed (Ok done) same = rose_all (subst (λ n. Rose mid.faults n) (sym same) (w.readers.some less))
          by_closed (Err fault) same = tt

      pub ran_session : (meant : Status) → HasServedChain leaf linked disk merge asking service meant before now
      ran_session meant =
          session_by service meant (λ e. let never : true ≡ false = e in cc)
          (record {
            rests = λ rested g is. ended_well end.closed (rests_from g end.closed (o.served g is).rests) rested.sound.0;
            no_log = λ rested some g is. ended_well end.closed (o.served g is).no_log rested.sound.0;
            left = λ rested some g is. ended_well end.closed (o.served g is).left rested.sound.0;
            unchanged = λ e begun. let never : true ≡ false = begun in cc;
            alone = o.none_fetched;
          })
          (λ g is. (o.served g is).told_so) (λ g is. stands_from g (o.served g is).stands) (λ g is. ((o.served g is).full, (o.served g is).stopped, (λ some. (o.served g is).faults), (o.served g is).unread))

      pub home_ran : StaysHome before.host.folder now.host.folder
      home_ran = home_all (λ g is. (o.served g is).stands.home)

      pub idle_ran : OnOk end.closed (WhereTold before.host.folder (λ f. WhereTold now.host.folder AllIdle))
      idle_ran = by_closed end.closed (λ g is. (o.served g is).rests)
        where
          by_closed : (closed : Result (Unit {0}) StoreFault) → WhereTold mid.folder (λ g. OnOk closed (Rests linked history g risen now.host)) → OnOk closed (WhereTold before.host.folder (λ f. WhereTold now.host.folder AllIdle))
          by_closed (Ok done) rests = idle_all (λ g is. (rests g is).idle g is)
          by_closed (Err fault) rests = tt
