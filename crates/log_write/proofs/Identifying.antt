-- Another identifier of the data of a file in a session.
use Rattle.std.proofs.Common.{◌≡◌, ℕ, ◌+◌, ◌<◌, ◌≤◌, ◌⊎◌, Bool, true, false, not, List, length, get_or, Option, Some, None, Ok, refl, sym, ap, subst, ◌∙◌, arith, inl, inr}
use Rattle.std.specs.Prelude.{Result, Err, OnOk, IfErr, cond, ◌==◌, ◌&&◌, ◌||◌}
use Rattle.std.proofs.lemmas.Bool.{eqb-true}
use Rattle.vx_base.proofs.ByteLists.{length-overwritten}
use Rattle.vx_base.specs.Fields.{written_over}
use Rattle.vx_base.specs.declared.parts.Header.{Header}
use Rattle.store_model.specs.Disk.{Disk, WhereTold, WhereBothTold}
use Rattle.store_model.specs.File.{File, Write, Sync, seen, is_synced, with_op}
use Rattle.store_model.specs.Plans.{OnlyChanges, StopsIn, changed_all}
use Rattle.store_model.specs.Trace.{Trace, file_of}
use Rattle.store_model.specs.declared.fault.StoreFault.{StoreFault}
use Rattle.store_model.proofs.Images.{images-sync}
use Rattle.store_model.proofs.Plans.{EachPlanned, after_plan, both_of, of_told, planned_of}
use Rattle.header_pair.specs.CopyWrites.{HoldsOldOrNew, LeavesCopy}
use Rattle.torn_match.specs.TornMatches.{ChangesUntorn, EachUntorn}
use Rattle.torn_match.proofs.Moments.{untorn_all, untorn_by}
use Rattle.vhdx_format.specs.Fields.{is_zero_id}
use Rattle.vhdx_format.specs.FileParts.{read_head}
use Rattle.vhdx_format.specs.Headers.{has_bad_version, header_bytes, header_place, IsWritable}
use Rattle.vhdx_format.specs.Logs.{IsActive}
use Rattle.vhdx_format.specs.SettledFiles.{byte_after, ring_of, sequence_updates}
use Rattle.vhdx_format.proofs.MadeHeads.{length-header}
use Rattle.log_write.specs.Running.{IsOpenIn, OfReads, RunsBehindIdentifier}
use Rattle.log_write.specs.Sessions.{HoldsSequence, IsKept, IsLogged, IsOpenFor, IsRunning, IsSoundState, LogState, SettlesNear, nowhere}
use Rattle.log_write.specs.Writing.{beside, HasNextNumber, identified, identified_header, IdentifiesAlike, identify_plan, KeepsRest}
use Rattle.log_write.proofs.Committing.{stands_less}
use Rattle.log_write.proofs.Commits.{running_stands, running_synced}
use Rattle.log_write.proofs.Ending.{logged_step}
use Rattle.log_write.proofs.Entries.{megabytes}
use Rattle.log_write.proofs.Failed.{AreBeside, KeepsFile, stopped_keeps}
use Rattle.log_write.proofs.Heads.{head_of}
use Rattle.log_write.proofs.HeaderSteps.{IsNext, beside_copy, kept_by, step_head, step_images, step_kept, step_leaves, step_ring, step_untorn, step_written}
use Rattle.log_write.proofs.Logged.{stands}
use Rattle.log_write.proofs.Phases.{header_open}
use Rattle.log_write.proofs.Places.{written_same}

-- a log that is named has the version that is known
log_version_is : (h : Header) → has_bad_version h ≡ false → is_zero_id h.log ≡ false → h.log_version ≡ 0
log_version_is h good named = eqb-true h.log_version 0 (by_test (not (h.version == 1)) (is_zero_id h.log) (h.log_version == 0) good named)
  where
    by_test : (a b c : Bool) → (a || (not b && not c)) ≡ false → b ≡ false → c ≡ true
    by_test false false true e n = refl
    by_test false false false e n = cc
    by_test false true c e n = cc
    by_test true b c e n = cc

module _ (s : LogState) (id : List ℕ) (tables : ℕ → Bool) (least : ℕ) (written : ℕ → Bool) (f : File) (r : IsRunning s tables least written f) (w : IsWritable (identified_header s.header id)) (low : HasNextNumber s.header) where
  abbrev next : Header
  next = identified_header s.header id

  is_next : IsNext s.header next
  is_next = record {
    copy = refl;
    more = omega (arith, low);
    succeeds = record { version = refl; log_version = inr (log_version_is s.header (head_of (seen f) s.header r.reads.head).version r.named); log_at = refl; log_len = refl };
  }

  q : IsRunning s tables (length (seen f)) nowhere (with_op Sync f)
  q = running_synced s tables least written f r

  read : read_head (seen f) ≡ Ok s.header
  read = q.reads.head

  abbrev Alike : List ℕ → Type 0
  Alike = IdentifiesAlike s.header id least written (seen f)

  abbrev done : List ℕ
  done = written_over (seen f) (header_place next.copy) (header_bytes next)

  before : (image : List ℕ) → IsLogged s.header (seen f) (length (seen f)) nowhere q.first q.others image → SettlesNear s.header (seen f) least written image
  before image l = stands_less s.header (seen f) (length (seen f)) least written image (omega (arith, r.reads.long)) (stands s.header tables (seen f) (length (seen f)) nowhere q.first q.others q.named q.laid image l)

  kept : (image : List ℕ) → LeavesCopy next.copy (seen f) image → (i : ℕ) → IsKept next i → get_or image i 0 ≡ get_or (seen f) i 0
  kept image l i k = step_kept (seen f) s.header next read is_next w image l i (kept_by s.header next is_next.succeeds i k)

  ring_same : (image : List ℕ) → LeavesCopy next.copy (seen f) image → ring_of s.header.log_at s.header.log_len image ≡ ring_of s.header.log_at s.header.log_len (seen f)
  ring_same image l = step_ring (seen f) s.header next read is_next w image l

  -- the log goes on, by the next header
  logged_next : (image : List ℕ) → LeavesCopy next.copy (seen f) image → read_head image ≡ Ok next → IsLogged next (seen f) (length (seen f)) nowhere q.first q.others image
  logged_next image l e = record {
    head = e;
    active = subst (λ ring. IsActive s.header.log_at s.header.log ring q.first q.others) (sym (ring_same image l)) q.reads.active;
    long = omega (arith, l.same_length);
    short = omega (arith, l.same_length);
    same = λ i b k. elim (q.reads.same i b (kept_by s.header next is_next.succeeds i k)) [ inl x ↦ inl x | inr x ↦ inr (ap (byte_after (sequence_updates q.first q.others) i) (kept image l i k) ∙ x) ];
  }

  after : (image : List ℕ) → LeavesCopy next.copy (seen f) image → read_head image ≡ Ok next → SettlesNear next (seen f) (length (seen f)) nowhere image
  after image l e = stands next tables (seen f) (length (seen f)) nowhere q.first q.others q.named q.laid image (logged_next image l e)

  while_written : (image : List ℕ) → LeavesCopy next.copy (seen f) image → HoldsOldOrNew next.copy next (seen f) image → Alike image
  while_written image l holds = elim (step_head (seen f) s.header next read is_next w image l holds) [
    | inl e ↦ inl (before image (logged_step (seen f) s.header next read is_next w (seen f) (length (seen f)) q.first q.others q.reads image l e))
    | inr e ↦ inr (after image l e)
  ]

  done_leaves : LeavesCopy next.copy (seen f) done
  done_leaves = step_leaves (seen f) s.header next read is_next w

  done_read : read_head done ≡ Ok next
  done_read = step_written (seen f) s.header next read is_next w

  abbrev written_file : File
  written_file = with_op (Write (header_place next.copy) (header_bytes next)) (with_op Sync f)

  pub identify_planned : EachPlanned (EachUntorn Alike) f (identify_plan s.header id)
  identify_planned = (
    λ image here untorn. inl (running_stands s tables least written f r image here),
    (
      untorn_all Alike (with_op Sync f) (images-sync Alike f (inl (before (seen f) q.reads))),
      (
        λ image here untorn.
            while_written image (step_images (seen f) s.header next read is_next w (with_op Sync f) refl refl image here) (step_untorn (seen f) s.header next read is_next w (with_op Sync f) refl refl image here untorn),
        untorn_all Alike (with_op Sync written_file) (images-sync Alike written_file (inr (after done done_leaves done_read))),
      ),
    ),
  )

  -- what a read gives then, and all of it is synced
  reads_next : IsLogged next done least nowhere r.first r.others done
  reads_next = record {
    head = done_read;
    active = subst (λ ring. IsActive s.header.log_at s.header.log ring r.first r.others) (sym (ring_same done done_leaves)) r.reads.active;
    long = omega (arith, r.reads.long, done_leaves.same_length);
    short = omega arith;
    same = λ i b k. elim (r.reads.same i b (kept_by s.header next is_next.succeeds i k)) [
      | inl x ↦ inl x
      | inr x ↦ inr (ap (byte_after (sequence_updates r.first r.others) i) (kept done done_leaves i k) ∙ x ∙ sym (kept done done_leaves i k))
    ];
  }

  more_written : IsLogged next done least nowhere r.first r.others done → IsLogged next done least written r.first r.others done
  more_written l = record { head = l.head; active = l.active; long = l.long; short = l.short; same = λ i b k. elim (l.same i b k) [ inl never ↦ cc | inr x ↦ inr x ] }

  pub identified_running : IsRunning (identified s id) tables least written (after_plan (identify_plan s.header id) f)
  identified_running = record {
    state = record { unsealed = r.state.unsealed; long = done_leaves.same_length ∙ r.state.long; within = r.state.within };
    named = r.named;
    low = omega (arith, low);
    copies = (beside_copy s.header.copy r.copies).0;
    within = r.within;
    first = r.first;
    others = r.others;
    holds =
        let h = subst (λ ring. HoldsSequence s ring r.first r.others) (sym (ring_same done done_leaves)) r.holds in
        record { sequence = h.sequence; newest = h.newest; number = h.number; place = h.place; room = h.room };
    laid = r.laid;
    apart = r.apart;
    reads = reads_next;
    images = images-sync (IsLogged next done least written r.first r.others) written_file (more_written reads_next);
  }

-- ---- of stores

module _ (s : LogState) (id : List ℕ) (w : IsWritable (identified_header s.header id)) (old new : Disk) (result : Result (Unit {0}) StoreFault) (ok : OnOk result (new ≡ changed_all s.file (identify_plan s.header id) old))
    (err : IfErr result (λ fault. StopsIn s.file new fault (identify_plan s.header id) old)) where
  pub identify_moments : (tables : ℕ → Bool) (least : ℕ) (written : ℕ → Bool) → HasNextNumber s.header → (t : Trace) → old.told ≡ Some t → IsRunning s tables least written (file_of t s.file)
      → WhereBothTold (ChangesUntorn s.file (IdentifiesAlike s.header id least written (seen (file_of t s.file)))) old.told new.told
  identify_moments tables least written low t told r =
      untorn_by (IdentifiesAlike s.header id least written (seen (file_of t s.file))) s.file (identify_plan s.header id) old new result ok err
      (of_told (λ u. EachPlanned (EachUntorn (IdentifiesAlike s.header id least written (seen (file_of t s.file)))) (file_of u s.file) (identify_plan s.header id)) old.told t told
      (identify_planned s id tables least written (file_of t s.file) r w low))

-- behind it
module _ (s : LogState) (id : List ℕ) (w : IsWritable (identified_header s.header id)) (old new : Disk) (made : new ≡ changed_all s.file (identify_plan s.header id) old) where
  pub running_done : RunsBehindIdentifier s (identified s id) old.told new.told
  running_done tables least written low =
      both_of (λ f g. IsRunning s tables least written f → IsRunning (identified s id) tables least written g) s.file (identify_plan s.header id) old new made
      (λ t is r. identified_running s id tables least written (file_of t s.file) r w low)

  pub synced_done : WhereTold new.told (λ t. is_synced (file_of t s.file) ≡ true)
  synced_done = planned_of (λ f. is_synced f ≡ true) s.file (identify_plan s.header id) old new made (λ t is. refl)

-- ---- what stays, whatever is answered

one_of_two : (copy : ℕ) → (beside copy ≡ 1) ⊎ (beside copy ≡ 2)
one_of_two copy = by_test (copy == 1)
  where
    by_test : (b : Bool) → (cond b (let two : ℕ = 2 in two) 1 ≡ 1) ⊎ (cond b (let two : ℕ = 2 in two) 1 ≡ 2)
    by_test true = inr refl
    by_test false = inl refl

module _ (s : LogState) (id : List ℕ) (sound : IsSoundState s) where
  abbrev header : Header
  header = identified_header s.header id

  long_open : (f : File) → IsOpenFor s f → 196608 ≤ s.len
  long_open f o = let mb = megabytes s.header.log_at sound.named.whole_at in omega (arith, mb, o.within)

  few : header.copy ≤ 2
  few = elim (one_of_two s.header.copy) [ inl x ↦ omega (arith, x) | inr x ↦ omega (arith, x) ]

  -- no place that is kept is in a copy of the header
  kept_beside : (i : ℕ) → IsKept s.header i → (i < header_place header.copy) ⊎ (header_place header.copy + length (header_bytes header) ≤ i)
  kept_beside i k = elim (one_of_two s.header.copy) [
    | inl x ↦ elim k.first [ inl y ↦ inl (omega (arith, x, y)) | inr y ↦ inr (omega (arith, x, y, length-header header)) ]
    | inr x ↦ elim k.second [ inl y ↦ inl (omega (arith, x, y)) | inr y ↦ inr (omega (arith, x, y, length-header header)) ]
  ]

  plan_beside : 196608 ≤ s.len → AreBeside (IsKept s.header) s.len (identify_plan s.header id)
  plan_beside long = ((omega (arith, long, few, length-header header), kept_beside), tt)

  pub identified_open : (f : File) → IsOpenFor s f → IsOpenFor (identified s id) (after_plan (identify_plan s.header id) f)
  identified_open f o =
      let h = header_open s header (with_op Sync f) few (omega (arith, long_open f o, o.long)) (record { unsealed = o.unsealed; long = o.long; within = o.within }) in
      record { unsealed = h.unsealed; long = h.long; within = h.within }

  module _ (old new : Disk) (is_open : WhereTold old.told (λ t. IsOpenFor s (file_of t s.file))) where
    pub open_done : new ≡ changed_all s.file (identify_plan s.header id) old → WhereTold new.told (λ t. IsOpenFor (identified s id) (file_of t s.file))
    open_done made = planned_of (IsOpenFor (identified s id)) s.file (identify_plan s.header id) old new made (λ t is. identified_open (file_of t s.file) (is_open t is))

    rest_done : new ≡ changed_all s.file (identify_plan s.header id) old → OfReads s.file (KeepsRest s.header) old.told new.told
    rest_done made =
        both_of (λ f g. KeepsRest s.header (seen f) (seen g)) s.file (identify_plan s.header id) old new made
        (λ t is.
        let f : File = file_of t s.file in
        let o = is_open t is in
        let long : header_place header.copy + length (header_bytes header) ≤ length (seen f) = omega (arith, long_open f o, o.long, few, length-header header) in
        record { long = length-overwritten (seen f) (header_bytes header) (header_place header.copy) long; same = λ i k. written_same (seen f) (header_bytes header) (header_place header.copy) (omega (arith, long)) i (kept_beside i k) })

    of_kept : (a b : Option Trace) → WhereBothTold (KeepsFile (IsKept s.header) s.len s.file) a b → OfReads s.file (KeepsRest s.header) a b
    of_kept None None h = tt
    of_kept None (Some u) h = absurd h
    of_kept (Some t) None h = absurd h
    of_kept (Some t) (Some u) h = record { long = h.long; same = h.same }

    rest_stopped : (fault : StoreFault) → StopsIn s.file new fault (identify_plan s.header id) old → WhereBothTold (OnlyChanges s.file) old.told new.told → OfReads s.file (KeepsRest s.header) old.told new.told
    rest_stopped fault stops only = by_told old.told refl
      where
        untold : (b : Option Trace) → WhereBothTold (OnlyChanges s.file) None b → OfReads s.file (KeepsRest s.header) None b
        untold None h = tt
        untold (Some u) h = absurd h

        by_told : (a : Option Trace) → old.told ≡ a → OfReads s.file (KeepsRest s.header) old.told new.told
        by_told None e =
            subst (λ x. OfReads s.file (KeepsRest s.header) x new.told) (sym e) (untold new.told (subst (λ x. WhereBothTold (OnlyChanges s.file) x new.told) e only))
        by_told (Some t) e =
            of_kept old.told new.told
            (stopped_keeps (IsKept s.header) s.len s.file new fault (identify_plan s.header id) old stops (plan_beside (long_open (file_of t s.file) (is_open t e))) (λ u is. (is_open u is).long))

    pub rest_by : (result : Result (Unit {0}) StoreFault) → OnOk result (new ≡ changed_all s.file (identify_plan s.header id) old) → IfErr result (λ fault. StopsIn s.file new fault (identify_plan s.header id) old)
        → WhereBothTold (OnlyChanges s.file) old.told new.told → OfReads s.file (KeepsRest s.header) old.told new.told
    rest_by (Ok x) ok err only = rest_done ok
    rest_by (Err fault) ok err only = rest_stopped fault err only

-- ---- by an answer

pub synced_by : (s : LogState) (id : List ℕ) → IsWritable (identified_header s.header id) → (old new : Disk) (result : Result (Unit {0}) StoreFault) → OnOk result (new ≡ changed_all s.file (identify_plan s.header id) old)
    → OnOk result (WhereTold new.told (λ t. is_synced (file_of t s.file) ≡ true))
synced_by s id w old new (Ok x) ok = synced_done s id w old new ok
synced_by s id w old new (Err fault) ok = tt

module _ (s then : LogState) (id : List ℕ) (old new : Disk) where
  pub open_by : IsSoundState s → WhereTold old.told (λ t. IsOpenFor s (file_of t s.file)) → (result : Result (Unit {0}) StoreFault) → OnOk result (new ≡ changed_all s.file (identify_plan s.header id) old) → OnOk result (then ≡ identified s id)
      → OnOk result (IsOpenIn then new.told)
  open_by sound is_open (Ok x) ok log = subst (λ (l : LogState). IsOpenIn l new.told) (sym log) (open_done s id sound old new is_open ok)
  open_by sound is_open (Err fault) ok log = tt

  pub running_by : IsWritable (identified_header s.header id) → (result : Result (Unit {0}) StoreFault) → OnOk result (new ≡ changed_all s.file (identify_plan s.header id) old) → OnOk result (then ≡ identified s id)
      → OnOk result (RunsBehindIdentifier s then old.told new.told)
  running_by w (Ok x) ok log = subst (λ (l : LogState). RunsBehindIdentifier s l old.told new.told) (sym log) (running_done s id w old new ok)
  running_by w (Err fault) ok log = tt
