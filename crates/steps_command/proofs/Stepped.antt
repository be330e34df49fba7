-- What `steps` does and prints, from what following the leaf's name and the session leave.
use Rattle.std.proofs.Common.{◌≡◌, ◌≢◌, ◌⊎◌, ℕ, ◌+◌, List, Option, Some, None, Result, Err, refl, sym, ap, subst, ◌∙◌, inl, inr}
use Rattle.std.specs.Prelude.{IfSome, codes}
use Rattle.std.proofs.lemmas.Option.{same_Some}
use Rattle.store_model.specs.Cause.{Rose}
use Rattle.store_model.specs.Disk.{WhereTold}
use Rattle.store_model.specs.Folder.{Hosted}
use Rattle.link_rules.specs.Folders.{AllIdle, contents}
use Rattle.link_rules.specs.Touches.{IsOnWay, TouchesSafely}
use Rattle.link_rules.proofs.Safe.{none_safely}
use Rattle.chain_core.specs.declared.starting.Mode.{Mode}
use Rattle.script.specs.Sources.{CountsFault, IsPartTaken, IsTaken, LeavesOf, ReadsScript}
use Rattle.script.specs.Grammar.{IsScript, most_bytes}
use Rattle.script.specs.declared.form.Line.{Line}
use Rattle.script.specs.declared.form.ScriptKind.{ScriptKind}
use Rattle.script.specs.declared.refusal.SourceRefusal.{SourceRefusal}
use Rattle.script.specs.declared.refusal.SourceRefusal.TheVariants as source
use Rattle.script_session.specs.declared.session.ScriptRun.{ScriptRun}
use Rattle.printing.specs.Answers.{fault_line}
use Rattle.command_base.specs.Folders.{OnlyFollows}
use Rattle.printing.specs.Sent.{Sent, cut, whole}
use Rattle.command_base.specs.Ends.{Ends}
use Rattle.steps_command.specs.Sessions.{LeafIsRun, source_said}
use Rattle.steps_command.specs.Steps.{IsUnopenedText, IsUnreadText, RunsUnopened, RunsUnread}
use Rattle.steps_command.specs.Steps as steps
use Rattle.command_base.specs.Worlds.{World}
use Rattle.steps_command.specs.declared.refusal.StepsRefusal.{StepsRefusal}
use Rattle.printing.specs.declared.status.Status.{Status}
use Rattle.printing.specs.declared.status.Status.TheVariants.{Fault, NoMemory, Usage}
use Rattle.command_base.proofs.Home.{StaysHome, home_still}
use Rattle.command_base.proofs.Left.{follows_none}

-- ---- how a run ends, by the text that was meant

pub ends_by : (merges : Type 0) (before now : World) (meant status : Status) (text : List ℕ) → Sent before.written now.written before.sink_faults now.sink_faults meant text status
    → (meant ≡ Fault → Rose before.host.faults now.host.faults ⊎ Rose before.source_faults now.source_faults)
    → (meant ≢ Fault → (now.host.faults ≡ before.host.faults) × (now.source_faults ≡ before.source_faults))
    → StaysHome before.host.folder now.host.folder → (status ≢ Fault → (status ≡ NoMemory → ¬ merges) → WhereTold before.host.folder (λ f. WhereTold now.host.folder AllIdle)) → Ends merges before now status
ends_by merges before now meant status text (whole is sent same) rose quiet home idle = record {
  rose = λ fault. elim (rose (sym is ∙ fault)) [ inl h ↦ inl h | inr s ↦ inr (inl s) ];
  quiet = λ fault. let q = quiet (λ e. fault (is ∙ e)) in (q.0, q.1, same);
  home = home;
  idle = idle;
}
ends_by merges before now meant status text (cut is n sent rise) rose quiet home idle = record {
  rose = λ fault. inr (inr rise);
  quiet = λ fault. absurd (fault is);
  home = home;
  idle = idle;
}

-- ---- what was taken of the source

pub where_some : (P : List ℕ → Type 0) (o : Option (List ℕ)) → IfSome o P → WhereTold o P
where_some P None h t e = cc
where_some P (Some x) h t e = subst P (same_Some x t e) h

pub part_taken : (bytes : List ℕ) (left : Option (List ℕ)) → IsTaken bytes left → IsPartTaken bytes left
part_taken bytes left h = (most_bytes + 1, h)

pub none_taken : (left : Option (List ℕ)) → WhereTold left (λ bytes. IsPartTaken bytes left)
none_taken left bytes told = (0, told)

-- ---- no script, or none that can be read

module _ (kind : ScriptKind) (leaf : List ℕ) (merges : Type 0) (before now : World) (status : Status) (same : now.host ≡ before.host) (undrawn : now.drawn ≡ before.drawn) where
  stays : OnlyFollows leaf before.host.folder now.host.folder
  stays = subst (λ (h : Hosted). OnlyFollows leaf before.host.folder h.folder) (sym same) (follows_none leaf before.host)

  safely : TouchesSafely (λ f. IsOnWay (contents f) leaf) before.host now.host
  safely = subst (TouchesSafely (λ f. IsOnWay (contents f) leaf) before.host) (sym same) (none_safely (λ f. IsOnWay (contents f) leaf) before.host)

  home : WhereTold before.host.folder AllIdle → StaysHome before.host.folder now.host.folder
  home idle = home_still before.host.folder now.host.folder idle (ap (λ (h : Hosted). h.folder) same)

  idles : WhereTold before.host.folder AllIdle → status ≢ Fault → WhereTold before.host.folder (λ f. WhereTold now.host.folder AllIdle)
  idles idle fault f told g is = subst AllIdle (same_Some f g (sym told ∙ sym (ap (λ (h : Hosted). h.folder) same) ∙ is)) (idle f told)

  faults : now.host.faults ≡ before.host.faults
  faults = ap (λ (h : Hosted). h.faults) same

  -- a script that was read, and nothing else done
  pub not_opened : (meant : Status) (text : List ℕ) → Sent before.written now.written before.sink_faults now.sink_faults meant text status → IsUnopenedText leaf before now meant text
      → WhereTold before.left (λ bytes. ((lines : List Line) × IsScript kind bytes lines) × IsTaken bytes now.left) → RunsUnopened kind leaf before now status
  not_opened meant text sent said reads = record { reads = reads; printed = record { meant = meant; text = text; said = said; sent = sent }; followed = stays; moments = safely; undrawn = undrawn }

  pub unread_runs : (meant : Status) (text : List ℕ) → Sent before.written now.written before.sink_faults now.sink_faults meant text status → IsUnreadText kind before now meant text
      → WhereTold before.left (λ bytes. IsPartTaken bytes now.left) → RunsUnread kind before now status
  unread_runs meant text sent said taken = record { printed = record { meant = meant; text = text; said = said; sent = sent }; taken = taken; untouched = same; undrawn = undrawn }

  pub unread_ends : WhereTold before.host.folder AllIdle → (meant : Status) (text : List ℕ) → Sent before.written now.written before.sink_faults now.sink_faults meant text status → (meant ≡ Fault → Rose before.source_faults now.source_faults)
      → (meant ≢ Fault → now.source_faults ≡ before.source_faults) → Ends merges before now status
  unread_ends idle meant text sent rose quiet = ends_by merges before now meant status text sent (λ fault. inr (rose fault)) (λ fault. (faults, quiet fault)) (home idle) (λ fault none. idles idle fault)

  -- by what refuses the script
  pub refused_runs : (r : SourceRefusal) → (let result : Result (List Line) SourceRefusal = Err r in IfSome before.left (λ bytes. ReadsScript kind bytes result)) → (let result : Result (List Line) SourceRefusal = Err r in IfSome before.left (λ bytes. LeavesOf bytes now.left result))
      → (let result : Result (List Line) SourceRefusal = Err r in CountsFault before.source_faults now.source_faults result) → Sent before.written now.written before.sink_faults now.sink_faults (source_said r).0 (source_said r).1 status
      → RunsUnread kind before now status
  refused_runs (source.Line number) reads left counts sent =
      let taken = where_some _ before.left left in
      unread_runs Usage (steps.broken_line number) sent (record { number = number; text_is = refl; first = λ bytes told. (where_some _ before.left reads bytes told, taken bytes told) }) (λ bytes told. part_taken bytes now.left (taken bytes told))
  refused_runs (source.Source fault) reads left counts sent = unread_runs Fault (fault_line (codes "source") fault.count) sent (counts.0, ap (fault_line (codes "source")) counts.1) (where_some _ before.left left)
  refused_runs source.NoRoom reads left counts sent = unread_runs NoMemory (codes "no memory\n") sent refl (where_some _ before.left left)

  pub refused_ends : WhereTold before.host.folder AllIdle → (r : SourceRefusal) → (let result : Result (List Line) SourceRefusal = Err r in CountsFault before.source_faults now.source_faults result)
      → Sent before.written now.written before.sink_faults now.sink_faults (source_said r).0 (source_said r).1 status → Ends merges before now status
  refused_ends idle (source.Line number) counts sent = unread_ends idle Usage (steps.broken_line number) sent (λ e. cc) (λ e. counts)
  refused_ends idle (source.Source fault) counts sent = unread_ends idle Fault (fault_line (codes "source") fault.count) sent (λ e. counts.0) (λ e. absurd (e refl))
  refused_ends idle source.NoRoom counts sent = unread_ends idle NoMemory (codes "no memory\n") sent (λ e. cc) (λ e. counts)

-- a run of the leaf's name, by what its arguments are
pub leaf_told : (named leaf : List ℕ) (merges merge : Option (List ℕ)) (mode m : Mode) (lines script : List Line) (old new : Hosted) (before now : Option (List (List ℕ))) (result : Result ScriptRun StepsRefusal) → named ≡ leaf → merges ≡ merge → mode ≡ m
    → lines ≡ script → LeafIsRun named mode merges lines old new before now result → LeafIsRun leaf m merge script old new before now result
leaf_told named leaf merges merge mode m lines script old new before now result a b c d h =
    subst (λ n. LeafIsRun n m merge script old new before now result) a
    (subst (λ x. LeafIsRun named x merge script old new before now result) c
    (subst (λ k. LeafIsRun named mode k script old new before now result) b (subst (λ ls. LeafIsRun named mode merges ls old new before now result) d h)))
