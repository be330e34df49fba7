-- What `steps` does once the chain is opened, from what the session leaves.
use Rattle.std.proofs.Common.{◌≡◌, ◌≢◌, ℕ, Bool, true, false, List, [], ◌∷◌, take, Option, Some, None, Result, Ok, Err, refl, sym, ap, subst, ◌∙◌, inl, inr}
use Rattle.std.specs.Prelude.{IfErr, IfOk, IfSome, OnOk, String, codes, length, string_bytes}
use Rattle.std.specs.List.{AllByRecursion}
use Rattle.std.proofs.lemmas.Option.{same_Some}
use Rattle.file_open.specs.Causes.{IfCause, Meaning, refuses, host_failed, store_failed, no_memory, cause_in}
use Rattle.store_model.specs.Cause.{Rose}
use Rattle.store_model.specs.Disk.{WhereTold}
use Rattle.store_model.specs.Folder.{Held, Hosted}
use Rattle.store_model.specs.Moments.{IsHealthy, LastReturnedCounts, Throughout}
use Rattle.store_model.specs.declared.fault.StoreFault.{StoreFault}
use Rattle.store_model.proofs.Throughout.{last_join, returned_join}
use Rattle.vhdx_format.specs.Fields.{sector_size}
use Rattle.vx_base.specs.declared.NoRoom.{NoRoom}
use Rattle.guest_model.specs.Calls.{Disk}
use Rattle.guest_model.specs.History.{History, replay}
use Rattle.chain_model.specs.Files.{OpensTo}
use Rattle.chain_model.specs.Members.{disk_of}
use Rattle.link_rules.specs.Causes.{meaning_of}
use Rattle.link_rules.specs.Chains.{Links, is_among, names_of}
use Rattle.link_rules.specs.Chains as chains
use Rattle.link_rules.specs.Folders.{AllIdle, ReturnsHealthy, contents}
use Rattle.link_rules.specs.declared.linked.Linked.{Linked}
use Rattle.link_rules.specs.declared.linked.LinkedFile.{LinkedFile}
use Rattle.link_rules.specs.declared.refusal.LinkRefusal.{LinkRefusal}
use Rattle.guest_model.specs.declared.refusal.ChainRefusal.TheVariants.{NoRoom as NoMemoryLeft, ReadOnly, Spent}
use Rattle.script.specs.Grammar.{IsScript}
use Rattle.script.specs.Sources.{IsTaken}
use Rattle.script.specs.declared.form.Line.{Line}
use Rattle.script.specs.declared.form.ScriptKind.TheVariants as kinds
use Rattle.script_session.specs.Faults.{FaultsAreTold}
use Rattle.script_session.specs.Histories.{AreTold, Break, Course, IsEndTold, no_merge, none_left}
use Rattle.script_session.specs.Running.{open_by, open_last}
use Rattle.script_session.specs.Told.{HasMemory, Told, failed_by, last_fault, transcript}
use Rattle.script_session.specs.declared.session.ScriptRun.{ScriptRun}
use Rattle.printing.specs.Answers.{fault_line}
use Rattle.command_base.specs.Causes.{meaning_of_chain, of_chain}
use Rattle.command_base.specs.Commands.{LeavesFollowedBy, Reports}
use Rattle.steps_command.specs.Crashes.{AreSpared, EachImageOpens, HasLong, NoneNamesLog, OpensToFirst}
use Rattle.command_base.specs.Folders.{AllHome, LastReturned, LeadsTo, OnlyFollows, files_of}
use Rattle.printing.specs.Sent.{Sent, cut, whole}
use Rattle.command_base.specs.Printed.{Prints, ShowsFault, of_host, of_store}
use Rattle.command_base.specs.Printed as printed
use Rattle.command_base.specs.Refusals.{IdUnfit, IsBase, LocatorTooLarge, MetadataFull, NotInChain, OfCall, OfChain, Refusal}
use Rattle.command_base.specs.Ends.{Ends, HasMerge}
use Rattle.steps_command.specs.Sessions.{IsCounted, IsFollowedTo, IsNotFollowed, LeafIsRun, NotRunOver, OpensIn, RanIn, ReportsRun, Rests, RunOver, Stands, UnlessMerging, UnlessStore, is_reading, leaf_name, meaning_of_steps, mode_of, run_said, said_of}
use Rattle.steps_command.specs.Sessions as code
use Rattle.steps_command.specs.Starts.{DrawsFor, RefusesSession, changed_names}
use Rattle.steps_command.specs.Steps.{HasRested, IsDropped, IsStepsText, IsTold, IsTranscript, IsUnopenedText, Keeps, Opened, Ran, RunsSteps, begun_course, drive_over, met, way_by}
use Rattle.steps_command.specs.Steps as steps
use Rattle.command_base.specs.Worlds.{World}
use Rattle.steps_command.specs.declared.refusal.StepsRefusal.{StepsRefusal}
use Rattle.steps_command.specs.declared.refusal.StepsRefusal.TheVariants as refusal
use Rattle.printing.specs.declared.status.Status.{Status}
use Rattle.printing.specs.declared.status.Status.TheVariants.{Done, Fault, NoMemory, Refused}
use Rattle.link_rules.proofs.Chained.{links_are_chains}
use Rattle.steps_command.proofs.Before.{drawn_before, refuses_by, ruleless}
use Rattle.steps_command.proofs.Behind.{name_is, opens_mid, told_mid}
use Rattle.command_base.proofs.Followed.{has_followed, order_stopped}
use Rattle.command_base.proofs.Home.{StaysHome, home_followed}
use Rattle.command_base.proofs.Left.{counted, followed, idle_left, stopped}
use Rattle.command_base.proofs.Said.{CountsIn, counts_as, is_fault}
use Rattle.steps_command.proofs.Stepped.{ends_by, not_opened, unread_ends}

abbrev none_ran : Option (List ℕ) → List LinkedFile → Ran
none_ran merge files = record { lines = []; told = []; history = []; course = begun_course merge files; broken = None; ended = None }

ended_well : (closed : Result (Unit {0}) StoreFault) {P : Type 0} → OnOk closed P → failed_by closed ≡ None → P
ended_well (Ok done) p none = p
ended_well (Err fault) p none = cc

-- a text that was sent has its status, but for a fault of the sink
sent_is : (before after : Option (List ℕ)) (old new : ℕ) (meant : Status) (text : List ℕ) (status : Status) → Sent before after old new meant text status → status ≢ Fault → status ≡ meant
sent_is before after old new meant text status (whole is sent same) fault = is
sent_is before after old new meant text status (cut is n sent rose) fault = absurd (fault is)

none_of : (merge : Option (List ℕ)) → ¬ HasMerge merge → merge ≡ None
none_of None none = refl
none_of (Some name) none = absurd (none tt)

same_mode : (b : Bool) → is_reading (mode_of b) ≡ b
same_mode true = refl
same_mode false = refl

never_told : {A : Type 0} (x : A) → None ≡ Some x → ⊥
never_told x e = cc

none_lacked : (told : List Told) → AllByRecursion HasMemory told → AllByRecursion (λ (t : Told). t ≢ Err NoMemoryLeft) told
none_lacked [] all = tt
none_lacked (t ∷ told) all = (λ e. subst HasMemory e all.0, none_lacked told all.1)

module _ (leaf : List ℕ) (merge : Option (List ℕ)) (ro : Bool) (before now : World) (status : Status) (idle : WhereTold before.host.folder AllIdle) (unread : now.source_faults ≡ before.source_faults) (taken : WhereTold before.left (λ bytes. IsTaken bytes now.left)) (lines : List Line)
    (is_script : WhereTold before.left (λ bytes. IsScript kinds.Steps bytes lines)) where
  -- ---- a report

  reports_end : (meaning : Meaning Refusal) → CountsIn before.host now.host meaning → Reports meaning before.written now.written before.sink_faults now.sink_faults status → StaysHome before.host.folder now.host.folder
      → (status ≢ Fault → (status ≡ NoMemory → ¬ HasMerge merge) → WhereTold before.host.folder (λ f. WhereTold now.host.folder AllIdle)) → Ends (HasMerge merge) before now status
  reports_end (refuses r) counts (inl sent) home idles = ends_by (HasMerge merge) before now Refused status _ sent (λ e. cc) (λ e. (counts, unread)) home idles
  reports_end (refuses r) counts (inr sent) home idles = ends_by (HasMerge merge) before now NoMemory status _ sent (λ e. cc) (λ e. (counts, unread)) home idles
  reports_end (host_failed fault) counts sent home idles = ends_by (HasMerge merge) before now Fault status _ sent (λ e. inl counts.0) (λ e. absurd (e refl)) home idles
  reports_end (store_failed fault) counts sent home idles = ends_by (HasMerge merge) before now Fault status _ sent (λ e. inl counts.0) (λ e. absurd (e refl)) home idles
  reports_end no_memory counts sent home idles = ends_by (HasMerge merge) before now NoMemory status _ sent (λ e. cc) (λ e. (counts, unread)) home idles

  -- ---- a name that leads to no chain

  unlinked_said : (meaning : Meaning chains.Refusal) → WhereTold before.host.folder (λ f. IfCause (Links (contents f) leaf) (cause_in meaning)) → CountsIn before.host now.host (of_chain meaning)
      → Reports (of_chain meaning) before.written now.written before.sink_faults now.sink_faults status → Prints (IsUnopenedText leaf before now) before now status
  unlinked_said (refuses r) links counts (inl sent) = record { meant = Refused; text = _; said = record { refusal = OfChain r; text_is = refl; so = printed.unlinked r links }; sent = sent }
  unlinked_said (refuses r) links counts (inr sent) = record { meant = NoMemory; text = codes "no memory\n"; said = refl; sent = sent }
  unlinked_said (host_failed fault) links counts sent = record { meant = Fault; text = _; said = (of_host counts.0 counts.2 (ap (fault_line (codes "host")) counts.1)); sent = sent }
  unlinked_said (store_failed fault) links counts sent = record { meant = Fault; text = _; said = (of_store fault.count counts.1 counts.0 (counts_as fault.count before.host now.host before.host.folder counts.2) refl); sent = sent }
  unlinked_said no_memory links counts sent = record { meant = NoMemory; text = codes "no memory\n"; said = refl; sent = sent }

  module _ (r : LinkRefusal) (h : IsNotFollowed leaf r before.host now.host) (reports : Reports (of_chain (meaning_of r)) before.written now.written before.sink_faults now.sink_faults status) where
    abbrev left_by : LeavesFollowedBy leaf before.host now.host (of_chain (meaning_of r))
    left_by = order_stopped leaf before.host now.host (meaning_of r) h.answer h.left

    unlinked_follows : OnlyFollows leaf before.host.folder now.host.folder
    unlinked_follows = stopped leaf before.host now.host (of_chain (meaning_of r)) left_by h.moments

    unlinked_runs : now.drawn ≡ before.drawn → RunsSteps leaf merge ro before now status
    unlinked_runs undrawn = steps.unopened (record {
      reads = λ bytes told. ((lines, is_script bytes told), taken bytes told);
      printed = unlinked_said (meaning_of r) h.answer (counted leaf before.host now.host (of_chain (meaning_of r)) left_by) reports;
      followed = unlinked_follows;
      moments = h.moments;
      undrawn = undrawn;
    })

    unlinked_ends : Ends (HasMerge merge) before now status
    unlinked_ends = reports_end (of_chain (meaning_of r)) (counted leaf before.host now.host (of_chain (meaning_of r)) left_by) reports (home_followed leaf before.host.folder now.host.folder idle unlinked_follows)
        (λ fault none. idle_left leaf before.host now.host (of_chain (meaning_of r)) before.written now.written before.sink_faults now.sink_faults status left_by reports fault)

  -- ---- over a chain

  module _ (mid : Hosted) (linked : Linked) (h : IsFollowedTo leaf linked before.host mid) where
    rose_all : Rose mid.faults now.host.faults → Rose before.host.faults now.host.faults
    rose_all rose = subst (λ n. Rose n now.host.faults) h.replayed.quiet rose

    last_all : (count : ℕ) → WhereTold mid.folder (λ f. LastReturnedCounts count mid now.host) → WhereTold before.host.folder (λ f. LastReturnedCounts count before.host now.host)
    last_all count last f told = let g = told_mid leaf linked before.host mid h f told in last_join IsHealthy count before.host mid now.host (h.replayed.healthy f told) (last g.0 g.1)

    healthy_all : ReturnsHealthy mid now.host → ReturnsHealthy before.host now.host
    healthy_all healthy f told = let g = told_mid leaf linked before.host mid h f told in returned_join IsHealthy before.host mid now.host (h.replayed.healthy f told) (healthy g.0 g.1)

    fault_shown : (fault : StoreFault) → IsCounted mid now.host fault → ShowsFault before.host now.host (fault_line (codes "store") fault.count)
    fault_shown fault c = of_store fault.count c.some (rose_all c.rose) (counts_as fault.count before.host now.host before.host.folder (last_all fault.count c.last)) refl

    home_all : WhereTold mid.folder (λ g. WhereTold now.host.folder AllHome) → StaysHome before.host.folder now.host.folder
    home_all home f told = let g = told_mid leaf linked before.host mid h f told in home g.0 g.1

    idle_all : WhereTold mid.folder (λ g. WhereTold now.host.folder AllIdle) → WhereTold before.host.folder (λ f. WhereTold now.host.folder AllIdle)
    idle_all idles f told = let g = told_mid leaf linked before.host mid h f told in idles g.0 g.1

    reading_is : ro ≡ true → is_reading (mode_of ro) ≡ true
    reading_is reading = ap (λ b. is_reading (mode_of b)) reading

    -- the disk of the chain
    disk_in : (folder : Option (List Held)) → WhereTold folder (λ f. Links (contents f) leaf (Ok linked)) → (disk : Disk) × WhereTold folder (λ f. OpensTo (files_of f) leaf disk)
    disk_in None links = ([], λ f told. absurd (never_told f told))
    disk_in (Some f) links =
        let c = links_are_chains (contents f) leaf linked (links f refl) in
        (disk_of c.chain, λ g told. subst (λ x. OpensTo (files_of x) leaf (disk_of c.chain)) (same_Some f g told) (record { retired = c.retired; chain = c.chain; linked = c.linked; is = refl }))

    abbrev begun : Opened kinds.Steps leaf before
    begun = record {
      lines = lines;
      linked = linked;
      disk = (disk_in before.host.folder h.links).0;
      reads = is_script;
      links = h.links;
      opens = (disk_in before.host.folder h.links).1;
    }

    abbrev IsText : Ran → Status → List ℕ → Type 0
    IsText ran meant text = IsStepsText begun merge ro now ran meant text

    abbrev IsSent : Status → List ℕ → Type 0
    IsSent meant text = Sent before.written now.written before.sink_faults now.sink_faults meant text status

    -- the name leads to the chain's files
    abbrev LeadsStill : List ℕ → List ℕ → Type 0
    LeadsStill name merged = WhereTold now.host.folder (λ after. LeadsTo (files_of after) name (names_of linked.files))

    -- no file that it may change names a log
    abbrev LogsEnded : Type 0
    LogsEnded = WhereTold now.host.folder (NoneNamesLog (changed_names ro merge linked.files))

    -- what was said, and what it says of the session's end
    record HasSaid (ran : Ran) : Type 0 where
      meant : Status
      text : List ℕ
      said : IsText ran meant text
      sent : IsSent meant text
      rests : HasRested merge ran meant → WhereTold mid.folder (λ g. Rests linked ran.history g mid now.host)
      dropped : HasRested merge ran meant → ran.course ≡ no_merge → WhereTold mid.folder (λ g. IfSome merge (IsDropped (leaf_name linked) linked now.host))
      no_log : HasRested merge ran meant → (ran.lines ≡ [] → meant ≡ Done) → WhereTold mid.folder (λ g. LogsEnded)
      stays : HasRested merge ran meant → (ran.lines ≡ [] → meant ≡ Done) → ran.course ≢ no_merge → WhereTold mid.folder (λ g. IfSome merge (LeadsStill (leaf_name linked)))
      unchanged : meant ≡ Refused → code.StaysAsItWas mid.folder now.host.folder
      rose : meant ≡ Fault → Rose before.host.faults now.host.faults
      quiet : meant ≢ Fault → (now.host.faults ≡ before.host.faults) × (met ran ≡ None)

    abbrev EndsOf : List Told → Type 0
    EndsOf told = AllByRecursion (IsEndTold (λ next. WhereTold now.host.folder (HasLong (changed_names false merge linked.files) next))) told

    abbrev FaultsOf : List Told → Option StoreFault → Type 0
    FaultsOf told ended = LastReturned (λ store. FaultsAreTold told ended (length linked.files) (λ file. 0) store.failed_reads store.failed_changes) mid now.host

    over_by : (ran : Ran) (many : ℕ) → ran.lines ≡ take many lines → HasSaid ran → WhereTold mid.folder (λ g. OpensIn linked g (λ disk. IsTold linked disk merge ro ran)) → WhereTold mid.folder (λ g. Stands (mode_of ro) merge linked ran.history ran.broken g mid now.host)
        → (ro ≡ true → now.drawn ≡ before.drawn) → WhereTold mid.folder (λ g. EndsOf ran.told × ((ran.lines ≡ [] → ran.ended ≢ None) → FaultsOf ran.told ran.ended)) → RunsSteps leaf merge ro before now status
    over_by ran many first s told_so stands undrawn outside = steps.opened (record {
      begun = begun;
      taken = taken;
      opened = mid;
      followed = followed leaf before.host mid (has_followed leaf linked before.host h.links mid h.replayed) h.moments;
      opening = h.moments;
      ran = ran;
      many = many;
      first = first;
      meant = s.meant;
      text = s.text;
      said = s.said;
      sent = s.sent;
      kept = keeps;
      unchanged = s.unchanged;
      undrawn = undrawn;
      rose = s.rose;
      quiet = s.quiet;
    })
      where
        keeps : WhereTold before.host.folder (λ f. Keeps leaf linked begun.disk merge ro ran s.meant mid now.host)
        keeps f told =
            let g = told_mid leaf linked before.host mid h f told in
            let opens = opens_mid leaf linked before.host mid h f g.0 told g.1 begun.disk (begun.opens f told) in
            let name = name_is leaf linked before.host mid h in
            record {
              told_so = told_so g.0 g.1 begun.disk opens;
              moments = subst (λ n. Throughout (OpensToFirst (way_by n begun.linked merge) begun.disk ran.history (open_by ran.broken)) mid now.host) name ((stands g.0 g.1).moments begun.disk opens);
              last = subst (λ n. WhereTold now.host.folder (EachImageOpens (way_by n begun.linked merge) (open_last ran.history ran.broken) (replay sector_size begun.disk ran.history))) name ((stands g.0 g.1).last begun.disk opens);
              full = (outside g.0 g.1).0;
              faults = (outside g.0 g.1).1;
              spared = λ x is. subst (λ b. Throughout (AreSpared (changed_names b merge linked.files) x) mid now.host) (same_mode ro) (stands x is).spared;
              idle = λ rested after is. (s.rests rested g.0 g.1).idle g.0 g.1 after is;
              at_rest = λ rested after is. subst (λ n. OpensTo (files_of after) n (replay sector_size begun.disk ran.history)) name ((s.rests rested g.0 g.1).opens begun.disk opens after is);
              stays = λ rested some ended. subst (λ n. IfSome merge (LeadsStill n)) name (s.stays rested some ended g.0 g.1);
              no_log = λ rested some. s.no_log rested some g.0 g.1;
              dropped = λ rested ended. subst (λ n. IfSome merge (IsDropped n linked now.host)) name (s.dropped rested ended g.0 g.1);
            }

    abbrev Refused_ : Refusal → Type 0
    Refused_ r = RefusesSession ro linked before.host.folder before.drawn now.drawn merge r

    -- ---- no session ran

    module _ (r : StepsRefusal) (n : NotRunOver (mode_of ro) merge linked mid now.host before.drawn now.drawn r) where
      abbrev ran_none : Ran
      ran_none = none_ran merge linked.files

      abbrev RestsNone : Type 0
      RestsNone = WhereTold mid.folder (λ g. Rests linked [] g mid now.host)

      counts_all : (meaning : Meaning Refusal) → code.CountsRefusal mid now.host meaning → CountsIn before.host now.host meaning
      counts_all (refuses x) c = c ∙ h.replayed.quiet
      counts_all (host_failed fault) c = (rose_all c.0, c.1, healthy_all c.2)
      counts_all (store_failed fault) c = (rose_all c.rose, c.some, last_all fault.count c.last)
      counts_all no_memory c = c ∙ h.replayed.quiet

      not_rests_by : (meaning : Meaning Refusal) → Reports meaning before.written now.written before.sink_faults now.sink_faults status → {P : Type 0} → UnlessStore meaning (UnlessMerging merge meaning P) → status ≢ Fault
          → (status ≡ NoMemory → merge ≡ None) → P
      not_rests_by (refuses x) reports {P = P} p fault memory = by_merge merge p
        where
          by_merge : (merge : Option (List ℕ)) → UnlessMerging merge (refuses x) P → P
          by_merge None p = p
          by_merge (Some name) p = p
      not_rests_by (host_failed x) reports {P = P} p fault memory = by_merge merge p
        where
          by_merge : (merge : Option (List ℕ)) → UnlessMerging {R = Refusal} merge (host_failed x) P → P
          by_merge None p = p
          by_merge (Some name) p = p
      not_rests_by (store_failed x) reports p fault memory = absurd (fault (is_fault _ _ _ _ _ status reports))
      not_rests_by no_memory reports {P = P} p fault memory = by_merge merge p (memory (sent_is _ _ _ _ NoMemory _ status reports fault))
        where
          by_merge : (merge : Option (List ℕ)) → UnlessMerging {R = Refusal} merge no_memory P → merge ≡ None → P
          by_merge None p is = p
          by_merge (Some name) p is = cc

      module _ (reports : Reports (meaning_of_steps r) before.written now.written before.sink_faults now.sink_faults status) where
        not_rests : status ≢ Fault → (status ≡ NoMemory → merge ≡ None) → WhereTold mid.folder (λ g. Rests linked [] g mid now.host)
        not_rests fault memory = not_rests_by (meaning_of_steps r) reports n.rests fault memory

        not_run_ends : Ends (HasMerge merge) before now status
        not_run_ends =
            reports_end (meaning_of_steps r) (counts_all (meaning_of_steps r) n.counts) reports (home_all (λ g is. (n.stands g is).home)) (λ fault none. idle_all (λ g is. (not_rests fault (λ e. none_of merge (none e)) g is).idle g is))

        none_dropped : (k : Option (List ℕ)) → begun_course k linked.files ≡ no_merge → WhereTold mid.folder (λ g. IfSome k (IsDropped (leaf_name linked) linked now.host))
        none_dropped None ended = λ g is. tt
        none_dropped (Some name) ended = cc

        -- what was said, once a status other than a fault leaves the files at rest
        not_said : (meant : Status) (text : List ℕ) → (meant ≡ Done → ⊥) → IsText ran_none meant text → IsSent meant text → (meant ≢ Fault → (meant ≡ NoMemory → merge ≡ None) → RestsNone) → (meant ≡ Refused → code.StaysAsItWas mid.folder now.host.folder)
            → (meant ≡ Fault → Rose before.host.faults now.host.faults) → (meant ≢ Fault → now.host.faults ≡ before.host.faults) → HasSaid ran_none
        not_said meant text begun_not said sent rests unchanged rose quiet = record {
          meant = meant;
          text = text;
          said = said;
          sent = sent;
          rests = λ rested. rests (rested.sound.1 refl) (λ memory. elim (rested.begun memory) [ inl none ↦ none | inr some ↦ absurd (some refl) ]);
          dropped = λ rested ended. none_dropped merge ended;
          no_log = λ rested some. absurd (begun_not (some refl));
          stays = λ rested some. absurd (begun_not (some refl));
          unchanged = unchanged;
          rose = rose;
          quiet = λ other. (quiet other, refl);
        }

        unless_rule : (k : Option (List ℕ)) (x : Refusal) → {P : Type 0} → UnlessMerging k (refuses x) P → P
        unless_rule None x p = p
        unless_rule (Some name) x p = p

        unless_memory : (k : Option (List ℕ)) → {P : Type 0} → UnlessMerging {R = Refusal} k no_memory P → k ≡ None → P
        unless_memory None p is = p
        unless_memory (Some name) p is = cc

        not_run_said : HasSaid ran_none
        not_run_said = by_refusal r n.counts n.cause n.rests n.unchanged reports
          where
            by_meaning : (m : Meaning Refusal) → code.CountsRefusal mid now.host m → code.IsNoRule m → UnlessStore m (UnlessMerging merge m RestsNone) → Reports m before.written now.written before.sink_faults now.sink_faults status → HasSaid ran_none
            by_meaning (refuses x) counts none rests sent = absurd none
            by_meaning (host_failed fault) counts none rests sent =
                not_said Fault _ (λ e. cc) (steps.unrun refl (of_host (rose_all counts.0) (healthy_all counts.2) (ap (fault_line (codes "host")) counts.1))) sent (λ other. absurd (other refl)) (λ e. cc) (λ e. rose_all counts.0) (λ other. absurd (other refl))
            by_meaning (store_failed fault) counts none rests sent = not_said Fault _ (λ e. cc) (steps.unrun refl (fault_shown fault counts)) sent (λ other. absurd (other refl)) (λ e. cc) (λ e. rose_all counts.rose) (λ other. absurd (other refl))
            by_meaning no_memory counts none rests sent = not_said NoMemory (codes "no memory\n") (λ e. cc) refl sent (λ other memory. unless_memory merge rests (memory refl)) (λ e. cc) (λ e. cc) (λ other. counts ∙ h.replayed.quiet)

            -- it was refused by a rule, or memory ran out for the line
            refused_by : (x : Refusal) → Refused_ x → (now.host.faults ≡ mid.faults) → UnlessMerging merge (refuses x) RestsNone → code.StaysAsItWas mid.folder now.host.folder
                → Reports (refuses x) before.written now.written before.sink_faults now.sink_faults status → HasSaid ran_none
            refused_by x so counts rests same (inl sent) =
                not_said Refused _ (λ e. cc) (record { refusal = x; text_is = refl; so = so }, refl) sent (λ other memory. unless_rule merge x rests) (λ e. same) (λ e. cc) (λ other. counts ∙ h.replayed.quiet)
            refused_by x so counts rests same (inr sent) = not_said NoMemory (codes "no memory\n") (λ e. cc) refl sent (λ other memory. unless_rule merge x rests) (λ e. cc) (λ e. cc) (λ other. counts ∙ h.replayed.quiet)

            by_refusal : (x : StepsRefusal) → code.CountsRefusal mid now.host (meaning_of_steps x) → code.HasCauseIn (mode_of ro) merge linked mid.folder before.drawn now.drawn x
                → UnlessStore (meaning_of_steps x) (UnlessMerging merge (meaning_of_steps x) RestsNone) → code.IfRule (meaning_of_steps x) (code.StaysAsItWas mid.folder now.host.folder)
                → Reports (meaning_of_steps x) before.written now.written before.sink_faults now.sink_faults status → HasSaid ran_none
            by_refusal (refusal.Chain x) counts cause rests same sent = by_meaning (meaning_of_chain x) counts (ruleless ro merge linked mid.folder before.drawn now.drawn x cause) rests sent
            by_refusal (refusal.Spent number) counts cause rests same sent = refused_by (OfCall (Spent number)) (refuses_by leaf linked before.host mid h before.drawn now.drawn ro ro merge (refusal.Spent number) refl cause (OfCall (Spent number)) refl tt) counts rests same sent
            by_refusal (refusal.IdUnfit id) counts cause rests same sent = refused_by (IdUnfit id) (refuses_by leaf linked before.host mid h before.drawn now.drawn ro ro merge (refusal.IdUnfit id) refl cause (IdUnfit id) refl tt) counts rests same sent
            by_refusal refusal.ReadOnly counts cause rests same sent = refused_by (OfCall ReadOnly) (refuses_by leaf linked before.host mid h before.drawn now.drawn ro ro merge refusal.ReadOnly refl cause (OfCall ReadOnly) refl tt) counts rests same sent
            by_refusal (refusal.NotInChain name) counts cause rests same sent = refused_by (NotInChain name) (refuses_by leaf linked before.host mid h before.drawn now.drawn ro ro merge (refusal.NotInChain name) refl cause (NotInChain name) refl tt) counts rests same sent
            by_refusal (refusal.IsBase name) counts cause rests same sent = refused_by (IsBase name) (refuses_by leaf linked before.host mid h before.drawn now.drawn ro ro merge (refusal.IsBase name) refl cause (IsBase name) refl tt) counts rests same sent
            by_refusal (refusal.LocatorTooLarge len) counts cause rests same sent = refused_by (LocatorTooLarge len) (refuses_by leaf linked before.host mid h before.drawn now.drawn ro ro merge (refusal.LocatorTooLarge len) refl cause (LocatorTooLarge len) refl tt) counts rests same sent
            by_refusal (refusal.MetadataFull file) counts cause rests same sent = refused_by (MetadataFull file) (refuses_by leaf linked before.host mid h before.drawn now.drawn ro ro merge (refusal.MetadataFull file) refl cause (MetadataFull file) refl tt) counts rests same sent

        not_run_runs : RunsSteps leaf merge ro before now status
        not_run_runs = over_by ran_none 0 refl not_run_said (λ g is disk opens. none_left 1 [] (begun_course merge linked.files) None) n.stands (λ reading. n.undrawn (reading_is reading)) (λ g is. (tt, λ some. absurd (some refl refl)))

    -- ---- a session ran

    module _ (run : ScriptRun) (o : RunOver (mode_of ro) merge linked lines run mid now.host before.drawn now.drawn) where
      drawn_for : DrawsFor ro merge linked before.host.folder before.drawn now.drawn
      drawn_for = drawn_before leaf linked before.host mid h before.drawn now.drawn ro merge ro o.drawn

      undrawn_for : ro ≡ true → now.drawn ≡ before.drawn
      undrawn_for reading = by_mode merge ro reading o.drawn
        where
          by_mode : (k : Option (List ℕ)) (b : Bool) → b ≡ true → DrawsFor (is_reading (mode_of b)) k linked mid.folder before.drawn now.drawn → now.drawn ≡ before.drawn
          by_mode None true e d = d
          by_mode (Some name) true e d = absurd d
          by_mode k false e d = cc

      module _ (history : History) (course : Course) (broken : Option Break) where
        abbrev ran : Ran
        ran = record { lines = take o.many lines; told = o.told; history = history; course = course; broken = broken; ended = failed_by run.closed }

        -- what is printed of lines, by how the session ended
        module _ (sent : Sent before.written now.written before.sink_faults now.sink_faults (run_said Done run).0 (run_said Done run).1 status)
            (rests : OnOk run.closed (WhereTold mid.folder (λ g. Rests linked history g mid now.host))) (dropped : OnOk run.closed (course ≡ no_merge → WhereTold mid.folder (λ g. IfSome merge (IsDropped (leaf_name linked) linked now.host))))
            (stays : OnOk run.closed (course ≢ no_merge → WhereTold mid.folder (λ g. IfSome merge (LeadsStill (leaf_name linked))))) (no_log : OnOk run.closed (WhereTold mid.folder (λ g. LogsEnded))) where
          abbrev ran_by : Result (Unit {0}) StoreFault → Ran
          ran_by closed = record { lines = take o.many lines; told = o.told; history = history; course = course; broken = broken; ended = failed_by closed }

          transcript_is : (closed : Result (Unit {0}) StoreFault) (text : List ℕ) → (take o.many lines ≡ lines) × (text ≡ transcript (names_of linked.files) lines o.told) × AllByRecursion HasMemory o.told → IsTranscript begun merge ro now (ran_by closed) text
          transcript_is closed text w = record {
            whole = w.0;
            text_is = w.1 ∙ ap (λ ls. transcript (names_of linked.files) ls o.told) (sym w.0);
            memory = none_lacked o.told w.2;
            drawn = drawn_for;
          }

          record Shown (closed : Result (Unit {0}) StoreFault) (said : Status × List ℕ) : Type 0 where
            so : IsText (ran_by closed) said.0 said.1
            none : said.0 ≡ Refused → ⊥
            rose : said.0 ≡ Fault → Rose before.host.faults now.host.faults
            quiet : said.0 ≢ Fault → (now.host.faults ≡ before.host.faults) × (met (ran_by closed) ≡ None)

          shown_by : {Z : Type 0} (t : Result (String Z) NoRoom) (fault : Option StoreFault) (closed : Result (Unit {0}) StoreFault) → IfOk t (λ text. (take o.many lines ≡ lines) × (string_bytes text ≡ transcript (names_of linked.files) lines o.told) × AllByRecursion HasMemory o.told)
              → fault ≡ last_fault o.told → IfSome fault (IsCounted mid now.host) → IfErr closed (IsCounted mid now.host) → (fault ≡ None → OnOk closed (now.host.faults ≡ mid.faults)) → Shown closed (said_of Done t fault closed)
          shown_by (Ok text) None (Ok done) w is counts ended quiet =
              record { so = transcript_is (Ok done) (string_bytes text) w; none = λ e. cc; rose = λ e. cc; quiet = λ other. (quiet refl ∙ h.replayed.quiet, sym is) }
          shown_by (Ok text) None (Err fault) w is counts ended quiet =
              record { so = steps.in_lines fault refl (transcript_is (Err fault) (string_bytes text) w); none = λ e. cc; rose = λ e. rose_all ended.rose; quiet = λ other. absurd (other refl) }
          shown_by (Ok text) (Some fault) (Ok done) w is counts ended quiet =
              record { so = steps.in_lines fault (sym is) (transcript_is (Ok done) (string_bytes text) w); none = λ e. cc; rose = λ e. rose_all counts.rose; quiet = λ other. absurd (other refl) }
          shown_by (Ok text) (Some fault) (Err last) w is counts ended quiet =
              record { so = steps.in_lines last refl (transcript_is (Err last) (string_bytes text) w); none = λ e. cc; rose = λ e. rose_all counts.rose; quiet = λ other. absurd (other refl) }
          shown_by (Err e) fault (Err last) w is counts ended quiet = record { so = steps.no_text last refl (fault_shown last ended) refl; none = λ e. cc; rose = λ e. rose_all ended.rose; quiet = λ other. absurd (other refl) }
          shown_by (Err e) (Some fault) (Ok done) w is counts ended quiet = record { so = steps.no_text fault (sym is) (fault_shown fault counts) refl; none = λ e. cc; rose = λ e. rose_all counts.rose; quiet = λ other. absurd (other refl) }
          shown_by (Err e) None (Ok done) w is counts ended quiet = record { so = refl; none = λ e. cc; rose = λ e. cc; quiet = λ other. (quiet refl ∙ h.replayed.quiet, sym is) }

          said_all : HasSaid ran
          said_all =
              let shown = shown_by run.transcript run.fault run.closed o.whole o.fault_is o.counted o.ended o.quiet in
              record {
                meant = (run_said Done run).0;
                text = (run_said Done run).1;
                said = shown.so;
                sent = sent;
                rests = λ rested. ended_well run.closed rests rested.sound.0;
                dropped = λ rested none. ended_well run.closed dropped rested.sound.0 none;
                no_log = λ rested lines. ended_well run.closed no_log rested.sound.0;
                stays = λ rested lines some. ended_well run.closed stays rested.sound.0 some;
                unchanged = λ e. absurd (shown.none e);
                rose = shown.rose;
                quiet = shown.quiet;
              }

      -- where no fault was meant the session ended
      closed_well : {Z : Type 0} (t : Result (String Z) NoRoom) (fault : Option StoreFault) (closed : Result (Unit {0}) StoreFault) {P : Type 0} → Sent before.written now.written before.sink_faults now.sink_faults (said_of Done t fault closed).0 (said_of Done t fault closed).1 status
          → OnOk closed P → status ≢ Fault → P
      closed_well (Ok text) None (Ok done) sent p none = p
      closed_well (Ok text) None (Err fault) sent p none = absurd (none (is_fault _ _ _ _ _ status sent))
      closed_well (Ok text) (Some fault) closed sent p none = absurd (none (is_fault _ _ _ _ _ status sent))
      closed_well (Err e) fault (Err last) sent p none = absurd (none (is_fault _ _ _ _ _ status sent))
      closed_well (Err e) (Some fault) (Ok done) sent p none = p
      closed_well (Err e) None (Ok done) sent p none = p

      module _ (sent : Sent before.written now.written before.sink_faults now.sink_faults (run_said Done run).0 (run_said Done run).1 status) where
        rests_all : (g : List Held) (is : mid.folder ≡ Some g) → status ≢ Fault → Rests linked (o.ran g is).history g mid now.host
        rests_all g is none = closed_well run.transcript run.fault run.closed sent (o.ran g is).rests none

        ok_none : {A : Type 0} (closed : Result (Unit {0}) StoreFault) → A → OnOk closed A
        ok_none (Ok done) a = a
        ok_none (Err fault) a = tt

        -- where the folder isn't told
        untold_over : before.host.folder ≡ None → RunsSteps leaf merge ro before now status
        untold_over e =
            let none : mid.folder ≡ None = h.replayed.untold e in
            over_by (ran [] no_merge None) o.many refl
            (said_all [] no_merge None sent (ok_none run.closed (λ g is. absurd (never_told g (sym none ∙ is)))) (ok_none run.closed (λ ended g is. absurd (never_told g (sym none ∙ is)))) (ok_none run.closed (λ some g is. absurd (never_told g (sym none ∙ is)))) (ok_none run.closed (λ g is. absurd (never_told g (sym none ∙ is)))))
            (λ g is. absurd (never_told g (sym none ∙ is))) (λ g is. absurd (never_told g (sym none ∙ is))) undrawn_for (λ g is. absurd (never_told g (sym none ∙ is)))

        module _ (f : List Held) (e : before.host.folder ≡ Some f) where
          abbrev g : List Held
          g = (told_mid leaf linked before.host mid h f e).0

          abbrev g_is : mid.folder ≡ Some g
          g_is = (told_mid leaf linked before.host mid h f e).1

          abbrev r : RanIn (mode_of ro) merge linked (take o.many lines) o.told run.closed g mid now.host
          r = o.ran g g_is

          in_mid : (P : List Held → Type 0) → P g → WhereTold mid.folder P
          in_mid P p x is = subst P (same_Some g x (sym g_is ∙ is)) p

          on_ok : {A B : Type 0} (closed : Result (Unit {0}) StoreFault) → (A → B) → OnOk closed A → OnOk closed B
          on_ok (Ok done) change a = change a
          on_ok (Err fault) change a = tt

          told_over : RunsSteps leaf merge ro before now status
          told_over =
              over_by (ran r.history r.course r.broken) o.many refl
              (said_all r.history r.course r.broken sent (on_ok run.closed (in_mid (λ x. Rests linked r.history x mid now.host)) r.rests)
              (on_ok run.closed (λ dropped ended. in_mid (λ x. IfSome merge (IsDropped (leaf_name linked) linked now.host)) (dropped ended)) r.dropped)
              (on_ok run.closed (λ stays some. in_mid (λ x. IfSome merge (LeadsStill (leaf_name linked))) (stays some)) r.stays)
              (on_ok run.closed (λ none. in_mid (λ x. LogsEnded) (subst (λ b. WhereTold now.host.folder (NoneNamesLog (changed_names b merge linked.files))) (same_mode ro) none)) r.no_log))
              (in_mid (λ x. OpensIn linked x (λ disk. IsTold linked disk merge ro (ran r.history r.course r.broken)))
              (subst (λ b. OpensIn linked g (λ disk. AreTold (drive_over b disk) 1 [] (begun_course merge linked.files) None (take o.many lines) o.told r.history r.course r.broken)) (same_mode ro) r.told_so))
              (in_mid (λ x. Stands (mode_of ro) merge linked r.history r.broken x mid now.host) r.stands) undrawn_for (λ x is. (r.full, λ some. r.faults))

        over_all : (folder : Option (List Held)) → before.host.folder ≡ folder → RunsSteps leaf merge ro before now status
        over_all None e = untold_over e
        over_all (Some f) e = told_over f e

        run_runs : RunsSteps leaf merge ro before now status
        run_runs = over_all before.host.folder refl

        run_ends : Ends (HasMerge merge) before now status
        run_ends =
            ends_all run.transcript run.fault run.closed o.counted o.ended o.quiet sent (home_all (λ g is. (o.ran g is).stands.home)) (λ none memory. idle_all (λ g is. (rests_all g is none).idle g is))
          where
            ends_all : {Z : Type 0} (t : Result (String Z) NoRoom) (fault : Option StoreFault) (closed : Result (Unit {0}) StoreFault) → IfSome fault (IsCounted mid now.host) → IfErr closed (IsCounted mid now.host) → (fault ≡ None → OnOk closed (now.host.faults ≡ mid.faults))
                → Sent before.written now.written before.sink_faults now.sink_faults (said_of Done t fault closed).0 (said_of Done t fault closed).1 status → StaysHome before.host.folder now.host.folder
                → (status ≢ Fault → (status ≡ NoMemory → ¬ HasMerge merge) → WhereTold before.host.folder (λ f. WhereTold now.host.folder AllIdle)) → Ends (HasMerge merge) before now status
            ends_all (Ok text) None (Ok done) counts ended quiet sent home idles = ends_by (HasMerge merge) before now Done status _ sent (λ e. cc) (λ e. (quiet refl ∙ h.replayed.quiet, unread)) home idles
            ends_all (Ok text) None (Err last) counts ended quiet sent home idles = ends_by (HasMerge merge) before now Fault status _ sent (λ e. inl (rose_all ended.rose)) (λ e. absurd (e refl)) home idles
            ends_all (Ok text) (Some fault) closed counts ended quiet sent home idles = ends_by (HasMerge merge) before now Fault status _ sent (λ e. inl (rose_all counts.rose)) (λ e. absurd (e refl)) home idles
            ends_all (Err x) fault (Err last) counts ended quiet sent home idles = ends_by (HasMerge merge) before now Fault status _ sent (λ e. inl (rose_all ended.rose)) (λ e. absurd (e refl)) home idles
            ends_all (Err x) (Some fault) (Ok done) counts ended quiet sent home idles = ends_by (HasMerge merge) before now Fault status _ sent (λ e. inl (rose_all counts.rose)) (λ e. absurd (e refl)) home idles
            ends_all (Err x) None (Ok done) counts ended quiet sent home idles = ends_by (HasMerge merge) before now NoMemory status _ sent (λ e. cc) (λ e. (quiet refl ∙ h.replayed.quiet, unread)) home idles

  -- ---- whatever the answer

  both : (result : Result ScriptRun StepsRefusal) → LeafIsRun leaf (mode_of ro) merge lines before.host now.host before.drawn now.drawn result → ReportsRun result before.written now.written before.sink_faults now.sink_faults status
      → RunsSteps leaf merge ro before now status × Ends (HasMerge merge) before now status
  both result (code.no_room is same undrawn) reports =
      let sent : Sent before.written now.written before.sink_faults now.sink_faults NoMemory (codes "no memory\n") status = subst (λ x. ReportsRun x before.written now.written before.sink_faults now.sink_faults status) is reports in (
        steps.unopened (not_opened kinds.Steps leaf (HasMerge merge) before now status same undrawn NoMemory (codes "no memory\n") sent refl (λ bytes told. ((lines, is_script bytes told), taken bytes told))),
        unread_ends kinds.Steps leaf (HasMerge merge) before now status same undrawn idle NoMemory (codes "no memory\n") sent (λ e. cc) (λ e. unread),
      )
  both result (code.unlinked r is none undrawn) reports =
      let said : Reports (of_chain (meaning_of r)) before.written now.written before.sink_faults now.sink_faults status = subst (λ x. ReportsRun x before.written now.written before.sink_faults now.sink_faults status) is reports in
      (unlinked_runs r none said undrawn, unlinked_ends r none said)
  both (Ok run) (code.over mid linked h over not_run) reports = (run_runs mid linked h run over reports, run_ends mid linked h run over reports)
  both (Err r) (code.over mid linked h over not_run) reports = (not_run_runs mid linked h r not_run reports, not_run_ends mid linked h r not_run reports)

  pub leaf_runs : (result : Result ScriptRun StepsRefusal) → LeafIsRun leaf (mode_of ro) merge lines before.host now.host before.drawn now.drawn result → ReportsRun result before.written now.written before.sink_faults now.sink_faults status
      → RunsSteps leaf merge ro before now status
  leaf_runs result h reports = (both result h reports).0

  pub leaf_ends : (result : Result ScriptRun StepsRefusal) → LeafIsRun leaf (mode_of ro) merge lines before.host now.host before.drawn now.drawn result → ReportsRun result before.written now.written before.sink_faults now.sink_faults status
      → Ends (HasMerge merge) before now status
  leaf_ends result h reports = (both result h reports).1
