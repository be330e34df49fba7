-- What `serve` does once the chain is opened, from what the session leaves.
use Rattle.std.proofs.Common.{◌+◌, ◌≡◌, ◌≢◌, ◌<◌, ◌==◌, ℕ, zero, suc, Bool, true, false, List, [], length, Option, Some, None, Result, Ok, Err, refl, sym, ap, subst, ◌∙◌, inl, inr, arith, eqb-true}
use Rattle.std.specs.Prelude.{IfErr, IfOk, IfSome, OnOk, String, codes, if◌then◌else◌, is_err, string_bytes}
use Rattle.file_open.specs.Causes.{IfCause, Meaning, refuses, host_failed, store_failed, no_memory, cause_in}
use Rattle.store_model.specs.Cause.{Rose}
use Rattle.store_model.specs.Disk.{WhereTold}
use Rattle.store_model.specs.Folder.{Hosted}
use Rattle.store_model.specs.declared.fault.HostFault.{HostFault}
use Rattle.store_model.specs.declared.fault.StoreFault.{StoreFault}
use Rattle.vx_base.specs.declared.NoRoom.{NoRoom}
use Rattle.guest_model.specs.declared.refusal.ChainRefusal.{ChainRefusal}
use Rattle.guest_model.specs.declared.refusal.ChainRefusal.TheVariants.{ReadOnly, Spent}
use Rattle.chain_core.specs.declared.starting.Mode.TheVariants.{Guests}
use Rattle.layer_session.proofs.Equal.{true_false}
use Rattle.link_rules.specs.Causes.{meaning_of}
use Rattle.link_rules.specs.Chains.{Links, names_of}
use Rattle.link_rules.specs.Chains as chains
use Rattle.link_rules.specs.Folders.{AllIdle, contents}
use Rattle.link_rules.specs.declared.linked.Linked.{Linked}
use Rattle.link_rules.specs.declared.refusal.LinkRefusal.{LinkRefusal}
use Rattle.script.specs.Grammar.{IsScript}
use Rattle.script.specs.Sources.{IsTaken}
use Rattle.script.specs.declared.form.Line.{Line}
use Rattle.script.specs.declared.form.ScriptKind.TheVariants as kinds
use Rattle.script_session.specs.Told.{failed_by}
use Rattle.script_session.specs.declared.session.ScriptRun.{ScriptRun}
use Rattle.serve_session.specs.Endings.{StopsMerge, ending_of}
use Rattle.serve_session.specs.declared.merging.MergeRun.{MergeRun}
use Rattle.serve_session.specs.Served.{IsTranscript, all_unread, asked_by}
use Rattle.printing.specs.Answers.{fault_line}
use Rattle.printing.specs.Sent.{Sent, cut, whole}
use Rattle.printing.specs.declared.status.Status.{Status}
use Rattle.printing.specs.declared.status.Status.TheVariants.{Fault, NoMemory, Refused}
use Rattle.command_base.specs.Causes.{meaning_of_chain, of_chain}
use Rattle.command_base.specs.Commands.{LeavesFollowedBy, Reports}
use Rattle.command_base.specs.Folders.{OnlyFollows}
use Rattle.serve_command.specs.Guests.{LeafIsServed, ReportsServed, ScriptIsServed, ServedOver, end_of, served_of, served_said, stopped_by, tally_of}
use Rattle.serve_command.specs.Guests as code_guests
use Rattle.command_base.specs.Printed.{Prints, ShowsFault}
use Rattle.command_base.specs.Printed as printed
use Rattle.command_base.specs.Refusals.{IdUnfit, IsBase, LocatorTooLarge, MetadataFull, NotInChain, OfCall, OfChain, Refusal}
use Rattle.command_base.specs.Ends.{Ends, HasMerge}
use Rattle.serve_command.specs.Serves.{HasServedChain, IsServeText, IsServiceText, IsUnfinished, RunsServe, ServesLines, ServesOver, Service, met, no_service, of_readers, of_readers_alone, of_store, unread_by}
use Rattle.serve_command.specs.Serves as serves
use Rattle.steps_command.specs.Sessions.{IsCounted, IsFollowedTo, IsNotFollowed, NotRunOver, Rests, UnlessMerging, UnlessStore, meaning_of_steps}
use Rattle.steps_command.specs.Sessions as code
use Rattle.steps_command.specs.Starts.{RefusesSession}
use Rattle.steps_command.specs.Steps.{IsUnopenedText, Opened, RunsUnopened}
use Rattle.steps_command.specs.Steps as steps
use Rattle.command_base.specs.Worlds.{World}
use Rattle.steps_command.specs.declared.refusal.StepsRefusal.{StepsRefusal}
use Rattle.steps_command.specs.declared.refusal.StepsRefusal.TheVariants as refusal
use Rattle.steps_command.proofs.Before.{drawn_before, refuses_by, ruleless}
use Rattle.command_base.proofs.Followed.{order_stopped}
use Rattle.command_base.proofs.Home.{StaysHome, home_followed}
use Rattle.command_base.proofs.Left.{counted, idle_left, stopped}
use Rattle.command_base.proofs.Said.{CountsIn, counts_as, is_fault}
use Rattle.serve_command.proofs.Keeping.{healthy_all, home_all, idle_all, last_all, not_session, opened_disk, rose_all}
use Rattle.serve_command.proofs.Keeping as keeping
use Rattle.steps_command.proofs.Stepped.{ends_by, not_opened, unread_ends}

-- a text that was sent has its status, but for a fault of the sink
sent_is : (before after : Option (List ℕ)) (old new : ℕ) (meant : Status) (text : List ℕ) (status : Status) → Sent before after old new meant text status → status ≢ Fault → status ≡ meant
sent_is before after old new meant text status (whole is sent same) fault = is
sent_is before after old new meant text status (cut is n sent rose) fault = absurd (fault is)

none_of : (merge : Option (List ℕ)) → ¬ HasMerge merge → merge ≡ None
none_of None none = refl
none_of (Some name) none = absurd (none tt)

memory_there : {A E : Type 0} (r : Result A E) → IfErr r (λ e. ⊥) → is_err r ≡ false
memory_there (Ok x) err = refl
memory_there (Err e) err = absurd err

unfinished_by : (run : ScriptRun) (unread : ℕ) (e : ChainRefusal) → StopsMerge (ending_of run unread) e → run.fault ≡ None → IfErr run.closed (λ x. ⊥) → IfErr run.transcript (λ x. ⊥) → IsUnfinished (Some e)
unfinished_by run unread e k none well in_memory = keeping.is_unfinished (ending_of run unread) e k none well (memory_there run.transcript in_memory)

module _ (leaf : List ℕ) (merge : Option (List ℕ)) (before now : World) (status : Status) (idle : WhereTold before.host.folder AllIdle) (unread : now.source_faults ≡ before.source_faults) (taken : WhereTold before.left (λ bytes. IsTaken bytes now.left)) (lines : List Line)
    (is_script : WhereTold before.left (λ bytes. IsScript kinds.Serve bytes lines)) where
  -- ---- a report

  reports_end : (meaning : Meaning Refusal) → CountsIn before.host now.host meaning → Reports meaning before.written now.written before.sink_faults now.sink_faults status → StaysHome before.host.folder now.host.folder
      → (status ≢ Fault → (status ≡ NoMemory → ¬ HasMerge merge) → WhereTold before.host.folder (λ f. WhereTold now.host.folder AllIdle)) → Ends (HasMerge merge) before now status
  reports_end (refuses r) counts (inl sent) home idles = ends_by (HasMerge merge) before now Refused status _ sent (λ e. cc) (λ e. (counts, unread)) home idles
  reports_end (refuses r) counts (inr sent) home idles = ends_by (HasMerge merge) before now NoMemory status _ sent (λ e. cc) (λ e. (counts, unread)) home idles
  reports_end (host_failed fault) counts sent home idles = ends_by (HasMerge merge) before now Fault status _ sent (λ e. inl counts.0) (λ e. absurd (e refl)) home idles
  reports_end (store_failed fault) counts sent home idles = ends_by (HasMerge merge) before now Fault status _ sent (λ e. inl counts.0) (λ e. absurd (e refl)) home idles
  reports_end no_memory counts sent home idles = ends_by (HasMerge merge) before now NoMemory status _ sent (λ e. cc) (λ e. (counts, unread)) home idles

  -- ---- a name that leads to no chain

  unlinked_said : (meaning : Meaning chains.Refusal) → WhereTold before.host.folder (λ f. IfCause (Links (contents f) leaf) (cause_in meaning)) → CountsIn before.host now.host (of_chain meaning)
      → Reports (of_chain meaning) before.written now.written before.sink_faults now.sink_faults status → Prints (IsUnopenedText leaf before now) before now status
  unlinked_said (refuses r) links counts (inl sent) = record { meant = Refused; text = _; said = record { refusal = OfChain r; text_is = refl; so = printed.unlinked r links }; sent = sent }
  unlinked_said (refuses r) links counts (inr sent) = record { meant = NoMemory; text = codes "no memory\n"; said = refl; sent = sent }
  unlinked_said (host_failed fault) links counts sent = record { meant = Fault; text = _; said = (printed.of_host counts.0 counts.2 (ap (fault_line (codes "host")) counts.1)); sent = sent }
  unlinked_said (store_failed fault) links counts sent = record { meant = Fault; text = _; said = (printed.of_store fault.count counts.1 counts.0 (counts_as fault.count before.host now.host before.host.folder counts.2) refl); sent = sent }
  unlinked_said no_memory links counts sent = record { meant = NoMemory; text = codes "no memory\n"; said = refl; sent = sent }

  module _ (r : LinkRefusal) (h : IsNotFollowed leaf r before.host now.host) (reports : Reports (of_chain (meaning_of r)) before.written now.written before.sink_faults now.sink_faults status) where
    abbrev left_by : LeavesFollowedBy leaf before.host now.host (of_chain (meaning_of r))
    left_by = order_stopped leaf before.host now.host (meaning_of r) h.answer h.left

    unlinked_follows : OnlyFollows leaf before.host.folder now.host.folder
    unlinked_follows = stopped leaf before.host now.host (of_chain (meaning_of r)) left_by h.moments

    unlinked_opens : now.drawn ≡ before.drawn → RunsUnopened kinds.Serve leaf before now status
    unlinked_opens undrawn = record {
      reads = λ bytes told. ((lines, is_script bytes told), taken bytes told);
      printed = unlinked_said (meaning_of r) h.answer (counted leaf before.host now.host (of_chain (meaning_of r)) left_by) reports;
      followed = unlinked_follows;
      moments = h.moments;
      undrawn = undrawn;
    }

    unlinked_runs : now.drawn ≡ before.drawn → RunsServe leaf merge before now status
    unlinked_runs undrawn = serves.unopened (unlinked_opens undrawn)

    unlinked_ends : Ends (HasMerge merge) before now status
    unlinked_ends = reports_end (of_chain (meaning_of r)) (counted leaf before.host now.host (of_chain (meaning_of r)) left_by) reports (home_followed leaf before.host.folder now.host.folder idle unlinked_follows)
        (λ fault none. idle_left leaf before.host now.host (of_chain (meaning_of r)) before.written now.written before.sink_faults now.sink_faults status left_by reports fault)

  -- ---- over a chain

  module _ (mid : Hosted) (linked : Linked) (h : IsFollowedTo leaf linked before.host mid) where
    fault_shown : (fault : StoreFault) → IsCounted mid now.host fault → ShowsFault before.host now.host (fault_line (codes "store") fault.count)
    fault_shown fault c = printed.of_store fault.count c.some (rose_all leaf before now mid linked h c.rose) (counts_as fault.count before.host now.host before.host.folder (last_all leaf before now mid linked h fault.count c.last)) refl

    abbrev begun : Opened kinds.Serve leaf before
    begun = record {
      lines = lines;
      linked = linked;
      disk = (opened_disk leaf before now mid linked h).0;
      reads = is_script;
      links = h.links;
      opens = (opened_disk leaf before now mid linked h).1;
    }

    abbrev IsSent : Status → List ℕ → Type 0
    IsSent meant text = Sent before.written now.written before.sink_faults now.sink_faults meant text status

    -- what was said of a session
    record HasSaid (service : Service) : Type 0 where
      meant : Status
      text : List ℕ
      said : IsServeText begun merge now service meant text
      sent : IsSent meant text
      session : HasServedChain leaf linked begun.disk merge (asked_by lines) service meant before now
      rose : meant ≡ Fault → Rose before.host.faults now.host.faults
      quiet : meant ≢ Fault → (now.host.faults ≡ before.host.faults) × (met service ≡ None) × (unread_by service ≡ 0)

    over_by : (service : Service) → HasSaid service → ServesOver leaf merge before now status
    over_by service s = record {
      begun = begun;
      taken = taken;
      service = service;
      meant = s.meant;
      session = s.session;
      text = s.text;
      said = s.said;
      sent = s.sent;
      rose = s.rose;
      quiet = s.quiet;
    }

    -- ---- no session ran

    module _ (r : StepsRefusal) (n : NotRunOver Guests merge linked mid now.host before.drawn now.drawn r) where
      abbrev RestsNone : Type 0
      RestsNone = WhereTold mid.folder (λ g. Rests linked [] g mid now.host)

      unless_rule : (k : Option (List ℕ)) (x : Refusal) → {P : Type 0} → UnlessMerging k (refuses x) P → P
      unless_rule None x p = p
      unless_rule (Some name) x p = p

      unless_host : (k : Option (List ℕ)) (fault : HostFault) → {P : Type 0} → UnlessMerging {R = Refusal} k (host_failed fault) P → P
      unless_host None fault p = p
      unless_host (Some name) fault p = p

      unless_memory : (k : Option (List ℕ)) → {P : Type 0} → UnlessMerging {R = Refusal} k no_memory P → k ≡ None → P
      unless_memory None p is = p
      unless_memory (Some name) p is = cc

      not_rests_by : (meaning : Meaning Refusal) → Reports meaning before.written now.written before.sink_faults now.sink_faults status → {P : Type 0} → UnlessStore meaning (UnlessMerging merge meaning P) → status ≢ Fault
          → (status ≡ NoMemory → merge ≡ None) → P
      not_rests_by (refuses x) reports p fault memory = unless_rule merge x p
      not_rests_by (host_failed x) reports p fault memory = unless_host merge x p
      not_rests_by (store_failed x) reports p fault memory = absurd (fault (is_fault _ _ _ _ _ status reports))
      not_rests_by no_memory reports p fault memory = unless_memory merge p (memory (sent_is _ _ _ _ NoMemory _ status reports fault))

      module _ (reports : Reports (meaning_of_steps r) before.written now.written before.sink_faults now.sink_faults status) where
        not_run_ends : Ends (HasMerge merge) before now status
        not_run_ends =
            reports_end (meaning_of_steps r) (keeping.counts_all leaf before now mid linked h (meaning_of_steps r) n.counts) reports (home_all leaf before now mid linked h (λ g is. (n.stands g is).home)) (λ fault none. idle_all leaf before now mid linked h (λ g is. (not_rests_by (meaning_of_steps r) reports n.rests fault (λ e. none_of merge (none e)) g is).idle g is))

        -- what was said, once a status other than a fault leaves the files at rest
        not_said : (meant : Status) (text : List ℕ) → IsServeText begun merge now no_service meant text → IsSent meant text → (meant ≢ Fault → (meant ≡ NoMemory → merge ≡ None) → RestsNone) → (meant ≡ Refused → code.StaysAsItWas mid.folder now.host.folder)
            → (meant ≡ Fault → Rose before.host.faults now.host.faults) → (meant ≢ Fault → now.host.faults ≡ before.host.faults) → HasSaid no_service
        not_said meant text said sent rests unchanged rose quiet = record {
          meant = meant;
          text = text;
          said = said;
          sent = sent;
          session = not_session leaf before now mid linked h merge (asked_by lines) begun.disk begun.opens r n meant rests unchanged;
          rose = rose;
          quiet = λ other. (quiet other, refl, refl);
        }

        not_run_said : HasSaid no_service
        not_run_said = by_refusal r n.counts n.cause n.rests n.unchanged reports
          where
            by_meaning : (m : Meaning Refusal) → code.CountsRefusal mid now.host m → code.IsNoRule m → UnlessStore m (UnlessMerging merge m RestsNone) → Reports m before.written now.written before.sink_faults now.sink_faults status → HasSaid no_service
            by_meaning (refuses x) counts none rests sent = absurd none
            by_meaning (host_failed fault) counts none rests sent =
                not_said Fault _ (of_store (steps.unrun refl (printed.of_host (rose_all leaf before now mid linked h counts.0) (healthy_all leaf before now mid linked h counts.2) (ap (fault_line (codes "host")) counts.1)))) sent (λ other. absurd (other refl)) (λ e. cc) (λ e. rose_all leaf before now mid linked h counts.0) (λ other. absurd (other refl))
            by_meaning (store_failed fault) counts none rests sent = not_said Fault _ (of_store (steps.unrun refl (fault_shown fault counts))) sent (λ other. absurd (other refl)) (λ e. cc) (λ e. rose_all leaf before now mid linked h counts.rose) (λ other. absurd (other refl))
            by_meaning no_memory counts none rests sent = not_said NoMemory (codes "no memory\n") refl sent (λ other memory. unless_memory merge rests (memory refl)) (λ e. cc) (λ e. cc) (λ other. counts ∙ h.replayed.quiet)

            -- it was refused by a rule, or memory ran out for the line
            refused_by : (x : Refusal) → RefusesSession false linked before.host.folder before.drawn now.drawn merge x → (now.host.faults ≡ mid.faults) → UnlessMerging merge (refuses x) RestsNone → code.StaysAsItWas mid.folder now.host.folder
                → Reports (refuses x) before.written now.written before.sink_faults now.sink_faults status → HasSaid no_service
            refused_by x so counts rests same (inl sent) =
                not_said Refused _ (serves.unbegun refl (record { refusal = x; text_is = refl; so = so })) sent (λ other memory. unless_rule merge x rests) (λ e. same) (λ e. cc) (λ other. counts ∙ h.replayed.quiet)
            refused_by x so counts rests same (inr sent) = not_said NoMemory (codes "no memory\n") refl sent (λ other memory. unless_rule merge x rests) (λ e. cc) (λ e. cc) (λ other. counts ∙ h.replayed.quiet)

            by_refusal : (x : StepsRefusal) → code.CountsRefusal mid now.host (meaning_of_steps x) → code.HasCauseIn Guests merge linked mid.folder before.drawn now.drawn x
                → UnlessStore (meaning_of_steps x) (UnlessMerging merge (meaning_of_steps x) RestsNone) → code.IfRule (meaning_of_steps x) (code.StaysAsItWas mid.folder now.host.folder)
                → Reports (meaning_of_steps x) before.written now.written before.sink_faults now.sink_faults status → HasSaid no_service
            by_refusal (refusal.Chain x) counts cause rests same sent = by_meaning (meaning_of_chain x) counts (ruleless false merge linked mid.folder before.drawn now.drawn x cause) rests sent
            by_refusal (refusal.Spent number) counts cause rests same sent = refused_by (OfCall (Spent number)) (refuses_by leaf linked before.host mid h before.drawn now.drawn false false merge (refusal.Spent number) refl cause (OfCall (Spent number)) refl tt) counts rests same sent
            by_refusal (refusal.IdUnfit id) counts cause rests same sent = refused_by (IdUnfit id) (refuses_by leaf linked before.host mid h before.drawn now.drawn false false merge (refusal.IdUnfit id) refl cause (IdUnfit id) refl tt) counts rests same sent
            by_refusal refusal.ReadOnly counts cause rests same sent = refused_by (OfCall ReadOnly) (refuses_by leaf linked before.host mid h before.drawn now.drawn false false merge refusal.ReadOnly refl cause (OfCall ReadOnly) refl tt) counts rests same sent
            by_refusal (refusal.NotInChain name) counts cause rests same sent = refused_by (NotInChain name) (refuses_by leaf linked before.host mid h before.drawn now.drawn false false merge (refusal.NotInChain name) refl cause (NotInChain name) refl tt) counts rests same sent
            by_refusal (refusal.IsBase name) counts cause rests same sent = refused_by (IsBase name) (refuses_by leaf linked before.host mid h before.drawn now.drawn false false merge (refusal.IsBase name) refl cause (IsBase name) refl tt) counts rests same sent
            by_refusal (refusal.LocatorTooLarge len) counts cause rests same sent = refused_by (LocatorTooLarge len) (refuses_by leaf linked before.host mid h before.drawn now.drawn false false merge (refusal.LocatorTooLarge len) refl cause (LocatorTooLarge len) refl tt) counts rests same sent
            by_refusal (refusal.MetadataFull file) counts cause rests same sent = refused_by (MetadataFull file) (refuses_by leaf linked before.host mid h before.drawn now.drawn false false merge (refusal.MetadataFull file) refl cause (MetadataFull file) refl tt) counts rests same sent

        not_run_over : ServesOver leaf merge before now status
        not_run_over = over_by no_service not_run_said

        not_run_runs : RunsServe leaf merge before now status
        not_run_runs = serves.served not_run_over

        not_run_lines : ServesLines leaf merge lines before now status None
        unfolding not_run_over over_by
        not_run_lines = serves.lines_served not_run_over refl (record { begun = refl; adds = tt })

    -- ---- a session ran

    module _ (run : MergeRun) (w : ScriptIsServed merge linked lines run mid now.host before.drawn now.drawn) where
      abbrev o : ServedOver merge linked (asked_by lines) w.guests w.history (ending_of run.run run.unread) run.merged (record mid { faults = w.served.faults }) now.host before.drawn now.drawn
      o = w.served.over

      abbrev service : Service
      service = keeping.service leaf before now mid linked h merge (asked_by lines) begun.disk begun.opens w.guests w.history (ending_of run.run run.unread) run.merged w.served

      abbrev service_by : Result (Unit {0}) ChainRefusal → Option StoreFault → Result (Unit {0}) StoreFault → Service
      service_by merged fault closed = record { has_begun = true; guests = w.guests; history = w.history; broken = o.broken; stopped = stopped_by merged; refused = fault; ended = failed_by closed; unfetched = o.unfetched }

      abbrev TextIs : List ℕ → Type 0
      TextIs text = IsTranscript (names_of linked.files) lines w.guests w.history text

      transcript_is : (merged : Result (Unit {0}) ChainRefusal) (fault : Option StoreFault) (closed : Result (Unit {0}) StoreFault) (text : List ℕ) → TextIs text → IsServiceText begun merge now (service_by merged fault closed) text
      transcript_is merged fault closed text w = record { count = o.count; transcript = w; drawn = drawn_before leaf linked before.host mid h before.drawn now.drawn false merge false o.drawn }

      -- how many reads failed by a reader
      abbrev missed : ℕ
      missed = length (all_unread w.guests) + o.unfetched

      record Shown (merged : Result (Unit {0}) ChainRefusal) (fault : Option StoreFault) (closed : Result (Unit {0}) StoreFault) (said : Status × List ℕ) : Type 0 where
        so : IsServeText begun merge now (service_by merged fault closed) said.0 said.1
        rose : said.0 ≡ Fault → Rose before.host.faults now.host.faults
        quiet : said.0 ≢ Fault → (now.host.faults ≡ before.host.faults) × (met (service_by merged fault closed) ≡ None) × (missed ≡ 0)

      -- what stopped a merge whose transcript is whole, if no fault was met
      abbrev Unfinished : {Z : Type 0} → Result (String Z) NoRoom → Option StoreFault → Result (Unit {0}) StoreFault → Result (Unit {0}) ChainRefusal → Type 0
      Unfinished t fault closed merged = IfErr merged (λ e. (merge ≢ None) × (fault ≡ None → IfErr closed (λ x. ⊥) → IfErr t (λ x. ⊥) → IsUnfinished (Some e)))

      whole_shown : {Z : Type 0} (text : String Z) (u : Unit {0}) (merged : Result (Unit {0}) ChainRefusal) → TextIs (string_bytes text) → Unfinished (Ok text) None (Ok u) merged → (now.host.faults ≡ before.host.faults) → missed ≡ 0
          → Shown merged None (Ok u) (end_of merged, string_bytes text)
      whole_shown text u (Ok done) w stopped quiet none = record { so = (transcript_is (Ok done) None (Ok u) (string_bytes text) w, refl, refl); rose = λ e. cc; quiet = λ other. (quiet, refl, none) }
      whole_shown text u (Err e) w stopped quiet none =
          record { so = serves.unfinished refl stopped.0 (stopped.1 refl tt tt) (transcript_is (Err e) None (Ok u) (string_bytes text) w); rose = λ e. cc; quiet = λ other. (quiet, refl, none) }

      stopped_so : (merged : Result (Unit {0}) ChainRefusal) → IfErr merged (λ e. (merge ≢ None) × StopsMerge (ending_of run.run run.unread) e) → Unfinished run.run.transcript run.run.fault run.run.closed merged
      stopped_so (Ok done) k = tt
      stopped_so (Err e) k = (k.0, unfinished_by run.run run.unread e k.1)

      some_missed : (unread : ℕ) → unread ≡ missed → (unread == 0) ≡ false → 0 < missed
      some_missed unread is some = positive unread is some
        where
          positive : (n : ℕ) → n ≡ missed → (n == 0) ≡ false → 0 < missed
          positive zero e f = absurd (true_false f)
          positive (suc n) e f = omega (arith, e)

      shown_by : {Z : Type 0} (t : Result (String Z) NoRoom) (fault : Option StoreFault) (closed : Result (Unit {0}) StoreFault) (merged : Result (Unit {0}) ChainRefusal) (unread : ℕ) → IfOk t (λ text. TextIs (string_bytes text))
          → IfSome fault (IsCounted mid now.host) → IfErr closed (IsCounted mid now.host) → (fault ≡ None → unread ≡ 0 → OnOk closed (now.host.faults ≡ before.host.faults)) → (fault ≡ None → 0 < unread → OnOk closed (Rose before.host.faults now.host.faults)) → Unfinished t fault closed merged → unread ≡ missed → Shown merged fault closed (served_of (end_of merged) unread t fault closed)
      shown_by (Ok text) None (Ok done) merged unread text_is counts ended quiet risen_by stopped is = by_count (unread == 0) refl
        where
          by_count : (b : Bool) → (unread == 0) ≡ b → Shown merged None (Ok done) (if b then end_of merged else Fault, string_bytes text)
          by_count true none = whole_shown text done merged text_is stopped (quiet refl (eqb-true unread 0 none)) (sym is ∙ eqb-true unread 0 none)
          by_count false some =
              record { so = of_readers (some_missed unread is some) (transcript_is merged None (Ok done) (string_bytes text) text_is); rose = λ e. risen_by refl (let m = some_missed unread is some in omega (arith, m, is)); quiet = λ other. absurd (other refl) }
      shown_by (Ok text) None (Err last) merged unread text_is counts ended quiet risen_by stopped is =
          record { so = of_store (steps.in_lines last refl (transcript_is merged None (Err last) (string_bytes text) text_is)); rose = λ e. rose_all leaf before now mid linked h ended.rose; quiet = λ other. absurd (other refl) }
      shown_by (Ok text) (Some fault) (Ok done) merged unread text_is counts ended quiet risen_by stopped is =
          record { so = of_store (steps.in_lines fault refl (transcript_is merged (Some fault) (Ok done) (string_bytes text) text_is)); rose = λ e. rose_all leaf before now mid linked h counts.rose; quiet = λ other. absurd (other refl) }
      shown_by (Ok text) (Some fault) (Err last) merged unread text_is counts ended quiet risen_by stopped is =
          record { so = of_store (steps.in_lines last refl (transcript_is merged (Some fault) (Err last) (string_bytes text) text_is)); rose = λ e. rose_all leaf before now mid linked h counts.rose; quiet = λ other. absurd (other refl) }
      shown_by (Err e) fault (Err last) merged unread text_is counts ended quiet risen_by stopped is = record { so = of_store (steps.no_text last refl (fault_shown last ended) refl); rose = λ e. rose_all leaf before now mid linked h ended.rose; quiet = λ other. absurd (other refl) }
      shown_by (Err e) (Some fault) (Ok done) merged unread text_is counts ended quiet risen_by stopped is = record { so = of_store (steps.no_text fault refl (fault_shown fault counts) refl); rose = λ e. rose_all leaf before now mid linked h counts.rose; quiet = λ other. absurd (other refl) }
      shown_by (Err e) None (Ok done) merged unread text_is counts ended quiet risen_by stopped is = by_count (unread == 0) refl
        where
          by_count : (b : Bool) → (unread == 0) ≡ b → Shown merged None (Ok done) (if b then (NoMemory, codes "no memory\n") else (Fault, fault_line (codes "reader") unread))
          by_count true none = record { so = refl; rose = λ e. cc; quiet = λ other. (quiet refl (eqb-true unread 0 none), refl, sym is ∙ eqb-true unread 0 none) }
          by_count false some =
              record { so = of_readers_alone (some_missed unread is some) refl (ap (fault_line (codes "reader")) is); rose = λ e. risen_by refl (let m = some_missed unread is some in omega (arith, m, is)); quiet = λ other. absurd (other refl) }

      -- where no fault was meant the session ended
      closed_well : {Z : Type 0} (end : Status) (unread : ℕ) (t : Result (String Z) NoRoom) (fault : Option StoreFault) (closed : Result (Unit {0}) StoreFault) {P : Type 0} → Sent before.written now.written before.sink_faults now.sink_faults (served_of end unread t fault closed).0 (served_of end unread t fault closed).1 status
          → OnOk closed P → status ≢ Fault → P
      closed_well end unread (Ok text) None (Ok done) sent p none = p
      closed_well end unread (Ok text) None (Err fault) sent p none = absurd (none (is_fault _ _ _ _ _ status sent))
      closed_well end unread (Ok text) (Some fault) closed sent p none = absurd (none (is_fault _ _ _ _ _ status sent))
      closed_well end unread (Err e) fault (Err last) sent p none = absurd (none (is_fault _ _ _ _ _ status sent))
      closed_well end unread (Err e) (Some fault) (Ok done) sent p none = p
      closed_well end unread (Err e) None (Ok done) sent p none = p

      module _ (sent : Sent before.written now.written before.sink_faults now.sink_faults (served_said run).0 (served_said run).1 status) where
        shown : Shown run.merged run.run.fault run.run.closed (served_said run)
        shown =
            shown_by run.run.transcript run.run.fault run.run.closed run.merged run.unread w.written.transcript (keeping.fault_counted leaf before now mid linked h merge (asked_by lines) begun.disk begun.opens w.guests w.history (ending_of run.run run.unread) run.merged w.served) (keeping.end_counted leaf before now mid linked h merge (asked_by lines) begun.disk begun.opens w.guests w.history (ending_of run.run run.unread) run.merged w.served) (keeping.quiet_well leaf before now mid linked h merge (asked_by lines) begun.disk begun.opens w.guests w.history (ending_of run.run run.unread) run.merged w.served) (keeping.rose_read leaf before now mid linked h merge (asked_by lines) begun.disk begun.opens w.guests w.history (ending_of run.run run.unread) run.merged w.served) (stopped_so run.merged o.stopped) o.unread_is

        said_all : HasSaid service
        said_all = record {
          meant = (served_said run).0;
          text = (served_said run).1;
          said = shown.so;
          sent = sent;
          session = keeping.ran_session leaf before now mid linked h merge (asked_by lines) begun.disk begun.opens w.guests w.history (ending_of run.run run.unread) run.merged w.served (served_said run).0;
          rose = shown.rose;
          quiet = shown.quiet;
        }

        run_over : ServesOver leaf merge before now status
        run_over = over_by service said_all

        run_runs : RunsServe leaf merge before now status
        run_runs = serves.served run_over

        run_lines : ServesLines leaf merge lines before now status (Some run.tally)
        unfolding run_over over_by
        run_lines = serves.lines_served run_over refl (record { begun = refl; adds = w.written.tally_is })

        run_ends : Ends (HasMerge merge) before now status
        run_ends =
            ends_by (HasMerge merge) before now (served_said run).0 status (served_said run).1 sent (λ fault. inl (shown.rose fault)) (λ other. ((shown.quiet other).0, unread)) (keeping.home_ran leaf before now mid linked h merge (asked_by lines) begun.disk begun.opens w.guests w.history (ending_of run.run run.unread) run.merged w.served)
            (λ none memory. closed_well (end_of run.merged) run.unread run.run.transcript run.run.fault run.run.closed sent (keeping.idle_ran leaf before now mid linked h merge (asked_by lines) begun.disk begun.opens w.guests w.history (ending_of run.run run.unread) run.merged w.served) none)

  -- ---- whatever the answer

  both : (result : Result MergeRun StepsRefusal) → LeafIsServed leaf merge lines before.host now.host before.drawn now.drawn result → ReportsServed result before.written now.written before.sink_faults now.sink_faults status
      → RunsServe leaf merge before now status × Ends (HasMerge merge) before now status
  both result (code_guests.no_room is same undrawn) reports =
      let sent : Sent before.written now.written before.sink_faults now.sink_faults NoMemory (codes "no memory\n") status = subst (λ x. ReportsServed x before.written now.written before.sink_faults now.sink_faults status) is reports in (
        serves.unopened (not_opened kinds.Serve leaf (HasMerge merge) before now status same undrawn NoMemory (codes "no memory\n") sent refl (λ bytes told. ((lines, is_script bytes told), taken bytes told))),
        unread_ends kinds.Serve leaf (HasMerge merge) before now status same undrawn idle NoMemory (codes "no memory\n") sent (λ e. cc) (λ e. unread),
      )
  both result (code_guests.unlinked r is none undrawn) reports =
      let said : Reports (of_chain (meaning_of r)) before.written now.written before.sink_faults now.sink_faults status = subst (λ x. ReportsServed x before.written now.written before.sink_faults now.sink_faults status) is reports in
      (unlinked_runs r none said undrawn, unlinked_ends r none said)
  both (Ok run) (code_guests.over mid linked h over not_run) reports = (run_runs mid linked h run over reports, run_ends mid linked h run over reports)
  both (Err r) (code_guests.over mid linked h over not_run) reports = (not_run_runs mid linked h r not_run reports, not_run_ends mid linked h r not_run reports)

  -- what its calls came to
  pub leaf_serves_lines : (result : Result MergeRun StepsRefusal) → LeafIsServed leaf merge lines before.host now.host before.drawn now.drawn result → ReportsServed result before.written now.written before.sink_faults now.sink_faults status
      → ServesLines leaf merge lines before now status (tally_of result)
  leaf_serves_lines result (code_guests.no_room is same undrawn) reports =
      let sent : Sent before.written now.written before.sink_faults now.sink_faults NoMemory (codes "no memory\n") status = subst (λ x. ReportsServed x before.written now.written before.sink_faults now.sink_faults status) is reports in
      serves.lines_unopened (not_opened kinds.Serve leaf (HasMerge merge) before now status same undrawn NoMemory (codes "no memory\n") sent refl (λ bytes told. ((lines, is_script bytes told), taken bytes told))) (ap tally_of is)
  leaf_serves_lines result (code_guests.unlinked r is none undrawn) reports =
      let said : Reports (of_chain (meaning_of r)) before.written now.written before.sink_faults now.sink_faults status = subst (λ x. ReportsServed x before.written now.written before.sink_faults now.sink_faults status) is reports in
      serves.lines_unopened (unlinked_opens r none said undrawn) (ap tally_of is)
  leaf_serves_lines (Ok run) (code_guests.over mid linked h over not_run) reports = run_lines mid linked h run over reports
  leaf_serves_lines (Err r) (code_guests.over mid linked h over not_run) reports = not_run_lines mid linked h r not_run reports

  pub leaf_serves : (result : Result MergeRun StepsRefusal) → LeafIsServed leaf merge lines before.host now.host before.drawn now.drawn result → ReportsServed result before.written now.written before.sink_faults now.sink_faults status → RunsServe leaf merge before now status
  leaf_serves result h reports = (both result h reports).0

  pub leaf_serves_ends : (result : Result MergeRun StepsRefusal) → LeafIsServed leaf merge lines before.host now.host before.drawn now.drawn result → ReportsServed result before.written now.written before.sink_faults now.sink_faults status → Ends (HasMerge merge) before now status
  leaf_serves_ends result h reports = (both result h reports).1

-- a run over the leaf's name, by what its arguments are
pub serve_told : (named leaf : List ℕ) (source merge : Option (List ℕ)) (lines script : List Line) (old new : Hosted) (before now : Option (List (List ℕ))) (result : Result MergeRun StepsRefusal) → named ≡ leaf → source ≡ merge → lines ≡ script
    → LeafIsServed named source lines old new before now result → LeafIsServed leaf merge script old new before now result
serve_told named leaf source merge lines script old new before now result a b c h =
    subst (λ n. LeafIsServed n merge script old new before now result) a
    (subst (λ k. LeafIsServed named k script old new before now result) b (subst (λ ls. LeafIsServed named source ls old new before now result) c h))
