-- A commit.
use Rattle.std.proofs.Common.{◌≡◌, ℕ, ◌-◌, ◌^◌, ◌≤◌, ◌⊎◌, Bool, false, le_of_eq, le_refl, le_trans, All, Option, Some, None, [], ◌∷◌, ◌*◌, ◌<◌, List, length, refl, sym, ap, subst, ◌∙◌, inl, inr}
use Rattle.vx_base.specs.declared.parts.Header.{Header}
use Rattle.vx_base.specs.Fields.{zeros}
use Rattle.vx_base.specs.declared.parts.Parts.{Parts}
use Rattle.table_pages.specs.Held.{HasTables}
use Rattle.chain_model.specs.Layers as chain
use Rattle.vhdx_format.specs.Fields.{megabyte}
use Rattle.vhdx_format.specs.declared.log_entry.Page.{Page}
use Rattle.store_model.specs.File.{seen}
use Rattle.store_model.specs.Trace.{Trace, at_moment, file_of}
use Rattle.table_pages.specs.Held.{held}
use Rattle.table_pages.proofs.Words.{held_long}
use Rattle.store_model.specs.Plans.{OnlyChanges}
use Rattle.log_write.specs.Sessions.{IsRunning, LogState, SettlesNear, nowhere}
use Rattle.log_write.specs.Writing.{CanCommit, CommitsAll, CommitsAtEachMoment, IsOfTables, committed, with_pages}
use Rattle.log_write.specs.Writing.{HasCommitted as HasCommittedPages}
use Rattle.chain_model.specs.Images.{Placed, Shows}
use Rattle.chain_model.specs.Members.{Ties}
use Rattle.chain_model.specs.Moments.{IsPhase}
use Rattle.chain_model.specs.Sessions.{ShowsFile}
use Rattle.torn_match.specs.TornMatches.{ChangesUntorn}
use Rattle.layer_session.specs.declared.file.Layer.{Layer}
use Rattle.layer_session.specs.Calls.{HasCommitted, KeepsOver, settled}
use Rattle.layer_session.proofs.Committed.{committed_then, layer_behind, whole_of}
use Rattle.store_model.specs.Disk.{Disk, WhereBothTold, WhereTold}
use Rattle.layer_session.specs.Keeping.{IsHeld, IsReady, Serves}
use Rattle.layer_session.proofs.Crashes.{IsSafe, safe_of, shown}
use Rattle.layer_session.proofs.Equal.{false_true, none_some, some_same}

module _ (l : Layer) (trace : Trace) (file : Placed) (serves : Serves l trace file) where
  abbrev F : List ℕ
  F = seen (file_of trace file.number)

  abbrev H : List ℕ
  H = held l.tables.pending F

  long_held : length H ≡ length F
  long_held = held_long l.tables.parts F l.tables.pending l.tables.cache serves.as_held.pages

  -- with all pages in place nothing is loose
  pub safe_committed : IsSafe serves.parts serves.tables nowhere (λ s. false) file.member.layer H H
  safe_committed =
      let safe = safe_of l trace file serves in
      record {
        sizes = safe.sizes;
        long = le_trans (le_trans safe.long serves.committed.long) (le_of_eq (sym long_held));
        committed = record { long = le_refl _; numbers = serves.as_held.numbers; sound = serves.as_held.sound; same = λ i below kept. inr refl };
        covered = serves.covered_held;
        apart = λ i h. absurd (false_true h);
        clean = λ s below h. record { same = sym (serves.as_held.has.on_disk s below); unwritten = λ i st. refl };
        off_disk = safe.off_disk;
      }

  pages_are_held : with_pages l.tables.pending F ≡ H
  unfolding held
  pages_are_held = refl

  -- what is shown with nothing loose is shown with more loose
  no_less : (image : List ℕ) → ShowsFile (settled file) image → ShowsFile file image
  no_less image shows = record { held = shows.held; parts = shows.parts; reads = shows.reads; whole = shows.whole; ties = shows.ties; clean = λ s e. shows.clean s refl }

  -- an image of a commit shows the file as before
  pub commit_shows : (image : List ℕ) → CommitsAll l.log l.tables.pending (length serves.bytes) serves.written F image → ShowsFile file image
  commit_shows image all = by_side all
    where
      by_side : SettlesNear l.log.header F (length serves.bytes) serves.written image ⊎ SettlesNear l.log.header (with_pages l.tables.pending F) (length F) nowhere image → ShowsFile file image
      by_side (inl old) =
          let stands : SettlesNear serves.parts.header F (length serves.bytes) serves.written image = subst (λ (h : Header). SettlesNear h F (length serves.bytes) serves.written image) (sym serves.header) old in
          subst (λ (t : Ties). Shows t file.member.layer file.is_loose image) (sym serves.ties)
          (shown serves.parts serves.tables serves.written file.is_loose file.member.layer serves.bytes F image (safe_of l trace file serves) stands)
      by_side (inr new) =
          let one : SettlesNear serves.parts.header (with_pages l.tables.pending F) (length F) nowhere image = subst (λ (h : Header). SettlesNear h (with_pages l.tables.pending F) (length F) nowhere image) (sym serves.header) new in
          let two : SettlesNear serves.parts.header H (length F) nowhere image = subst (λ (z : List ℕ). SettlesNear serves.parts.header z (length F) nowhere image) pages_are_held one in
          let stands : SettlesNear serves.parts.header H (length H) nowhere image = subst (λ n. SettlesNear serves.parts.header H n nowhere image) (sym long_held) two in
          no_less image (subst (λ (t : Ties). Shows t file.member.layer (λ s. false) image) (sym serves.ties)
          (shown serves.parts serves.tables nowhere (λ s. false) file.member.layer H H image safe_committed stands))

  -- so it does at each moment
  pub commits_over : (new : Trace) → ChangesUntorn file.number (CommitsAll l.log l.tables.pending (length serves.bytes) serves.written F) trace new → IsPhase file.number (ShowsFile file) trace new
  commits_over new changes = record {
    later = changes.later;
    since = changes.since;
    each = λ k a b. record {
      images = λ image here clean. commit_shows image ((changes.each k a b).has image here clean);
      others = (changes.each k a b).others;
    };
  }

pub commit_moments : (l : Layer) (old new : Disk) → l.log.file ≡ l.tables.parts.file → l.log.number ≤ 2 ^ 64 - 2 ^ 32 → CommitsAtEachMoment l.log l.tables.pending old.told new.told
    → WhereBothTold (OnlyChanges l.log.file) old.told new.told → WhereBothTold (KeepsOver l) old.told new.told
commit_moments l old new one_file low moments only = by_told old.told new.told refl refl only
  where
    by_told : (a b : Option Trace) → old.told ≡ a → new.told ≡ b → WhereBothTold (OnlyChanges l.log.file) a b → WhereBothTold (KeepsOver l) a b
    by_told None None ea eb o = tt
    by_told None (Some u) ea eb o = absurd o
    by_told (Some t) None ea eb o = absurd o
    by_told (Some t) (Some u) ea eb o = record { over = over }
      where
        over : (file : Placed) → Serves l t file → IsPhase file.number (ShowsFile file) t u
        over file serves =
            let n : l.log.file ≡ file.number = one_file ∙ sym serves.number in
            let run : IsRunning l.log serves.tables (length serves.bytes) serves.written (file_of t l.log.file) = subst (λ k. IsRunning l.log serves.tables (length serves.bytes) serves.written (file_of t k)) (sym n) serves.running in
            let m : WhereBothTold (ChangesUntorn l.log.file (CommitsAll l.log l.tables.pending (length serves.bytes) serves.written (seen (file_of t l.log.file)))) old.told new.told =
            moments serves.tables (length serves.bytes) serves.written serves.changed low t ea run in
            let k : WhereBothTold (ChangesUntorn l.log.file (CommitsAll l.log l.tables.pending (length serves.bytes) serves.written (seen (file_of t l.log.file)))) (Some t) new.told =
            subst (λ x. WhereBothTold (ChangesUntorn l.log.file (CommitsAll l.log l.tables.pending (length serves.bytes) serves.written (seen (file_of t l.log.file)))) x new.told) ea m in
            let changes : ChangesUntorn l.log.file (CommitsAll l.log l.tables.pending (length serves.bytes) serves.written (seen (file_of t l.log.file))) t u =
            subst (λ x. WhereBothTold (ChangesUntorn l.log.file (CommitsAll l.log l.tables.pending (length serves.bytes) serves.written (seen (file_of t l.log.file)))) (Some t) x) eb k in
            commits_over l t file serves u (subst (λ i. ChangesUntorn i (CommitsAll l.log l.tables.pending (length serves.bytes) serves.written (seen (file_of t i))) t u) n changes)

-- what it promises of the log behind it
abbrev pub Runs : Layer → LogState → Disk → Disk → Type 0
Runs l log old new =
    (tables : ℕ → Bool) (least : ℕ) (written : ℕ → Bool) → All (IsOfTables tables) l.tables.pending → l.log.number ≤ 2 ^ 64 - 2 ^ 32
    → WhereBothTold (λ before after. IsRunning l.log tables least written (file_of before l.log.file) → IsRunning log tables (length (seen (file_of after l.log.file))) nowhere (file_of after l.log.file)) old.told new.told

pub attached_same : (file : ℕ) (x y : Trace) → OnlyChanges file x y → y.attached ≡ x.attached
unfolding at_moment
attached_same file x y k = ap (λ (z : Trace). z.attached) k.since

pub commit_served : (l : Layer) (old new : Disk) → l.log.file ≡ l.tables.parts.file → l.log.number ≤ 2 ^ 64 - 2 ^ 32 → Runs l (committed l.log l.tables.pending) old new
    → WhereBothTold (λ before after. HasCommittedPages l.log l.tables.pending (seen (file_of before l.log.file)) (seen (file_of after l.log.file))) old.told new.told
    → WhereBothTold (OnlyChanges l.log.file) old.told new.told → WhereBothTold (HasCommitted l (layer_behind l (committed l.log l.tables.pending))) old.told new.told
commit_served l old new one_file low runs content only = by_told old.told new.told (λ tables least written of. runs tables least written of low) content only
  where
    by_told : (a b : Option Trace)
        → ((tables : ℕ → Bool) (least : ℕ) (written : ℕ → Bool) → All (IsOfTables tables) l.tables.pending
        → WhereBothTold (λ before after. IsRunning l.log tables least written (file_of before l.log.file) → IsRunning (committed l.log l.tables.pending) tables (length (seen (file_of after l.log.file))) nowhere (file_of after l.log.file)) a b)
        → WhereBothTold (λ before after. HasCommittedPages l.log l.tables.pending (seen (file_of before l.log.file)) (seen (file_of after l.log.file))) a b
        → WhereBothTold (OnlyChanges l.log.file) a b → WhereBothTold (HasCommitted l (layer_behind l (committed l.log l.tables.pending))) a b
    by_told None None r c o = tt
    by_told None (Some u) r c o = absurd o
    by_told (Some t) None r c o = absurd o
    by_told (Some t) (Some u) r c o = record { serves = serves_too }
      where
        serves_too : (file : Placed) → Serves l t file → Serves (layer_behind l (committed l.log l.tables.pending)) u (settled file)
        serves_too file serves =
            let n : l.log.file ≡ file.number = one_file ∙ sym serves.number in
            let run : IsRunning l.log serves.tables (length serves.bytes) serves.written (file_of t l.log.file) = subst (λ k. IsRunning l.log serves.tables (length serves.bytes) serves.written (file_of t k)) (sym n) serves.running in
            let runs_on = r serves.tables (length serves.bytes) serves.written serves.changed run in
            committed_then l t u file serves.parts serves.tables (whole_of l t file serves) (attached_same l.log.file t u o) (subst (λ k. HasCommittedPages l.log l.tables.pending (seen (file_of t k)) (seen (file_of u k))) n c)
            (subst (λ k. IsRunning (committed l.log l.tables.pending) serves.tables (length (seen (file_of u k))) nowhere (file_of u k)) n runs_on)

-- what is served can be read
read_of : (l : Layer) (u : Trace) → ((file : Placed) × Serves l u file) → (parts : Parts) × ((layer : chain.Layer) × IsHeld l parts layer (seen (file_of u l.tables.parts.file)))
read_of l u (file, s) = (s.parts, (file.member.layer, subst (λ k. IsHeld l s.parts file.member.layer (seen (file_of u k))) s.number s.as_held))

-- and, with what holds for every store, written
pub ready_from : (l : Layer) (disk : Disk) → l.tables.parts.file < disk.files → HasTables l.tables.parts → l.log.file ≡ l.tables.parts.file → l.log.len ≤ l.space.next * megabyte → l.space.next ≤ 2 ^ 44 → l.zeros.items ≡ zeros megabyte
    → length l.plans.items ≡ 257 → WhereTold disk.told (λ trace. (file : Placed) × Serves l trace file) → IsReady l disk
ready_from l disk there sizes one_file next most clear plans told = record {
  readable = record { there = there; sizes = sizes; told = λ u e. read_of l u (told u e) };
  one_file = one_file;
  next = next;
  most = most;
  clear = clear;
  plans = plans;
  told = told;
}

pub same_file : (log : LogState) (pages : List Page) → (committed log pages).file ≡ log.file
same_file log [] = refl
same_file log (page ∷ pages) = refl

pub same_len : (log : LogState) (pages : List Page) → (committed log pages).len ≡ log.len
same_len log [] = refl
same_len log (page ∷ pages) = refl

-- what was served before is served behind
served_on : (l behind : Layer) (old new : Disk) → WhereTold old.told (λ trace. (file : Placed) × Serves l trace file) → WhereBothTold (HasCommitted l behind) old.told new.told → WhereTold new.told (λ trace. (file : Placed) × Serves behind trace file)
served_on l behind old new before has u e = by_told old.told new.told before has e
  where
    by_told : (a b : Option Trace) → WhereTold a (λ trace. (file : Placed) × Serves l trace file) → WhereBothTold (HasCommitted l behind) a b → b ≡ Some u → (file : Placed) × Serves behind u file
    by_told None None k h e = absurd (none_some e)
    by_told None (Some v) k h e = absurd h
    by_told (Some t) None k h e = absurd (none_some e)
    by_told (Some t) (Some v) k h e = moved (k t refl) h (some_same e)
      where
        moved : ((file : Placed) × Serves l t file) → HasCommitted l behind t v → v ≡ u → (file : Placed) × Serves behind u file
        moved (file, s) h m = (settled file, subst (λ (x : Trace). Serves behind x (settled file)) m (h.serves file s))

pub commit_ready : (l : Layer) (old new : Disk) → IsReady l old → new ≡ record old { told = new.told } → WhereBothTold (HasCommitted l (layer_behind l (committed l.log l.tables.pending))) old.told new.told
    → IsReady (layer_behind l (committed l.log l.tables.pending)) new
commit_ready l old new ready counts has =
    ready_from (layer_behind l (committed l.log l.tables.pending)) new (subst (λ n. l.tables.parts.file < n) (sym (ap (λ (d : Disk). d.files) counts)) ready.readable.there) ready.readable.sizes
    (same_file l.log l.tables.pending ∙ ready.one_file) (subst (λ n. n ≤ l.space.next * megabyte) (sym (same_len l.log l.tables.pending)) ready.next) ready.most ready.clear ready.plans
    (served_on l (layer_behind l (committed l.log l.tables.pending)) old new ready.told has)

-- where a store tells its content a commit is never left out
pub left_out : (l : Layer) (disk : Disk) → IsReady l disk → (All (CanCommit l.log) l.tables.pending → ⊥) → IsReady (record l { tables = record (l.tables) { pending = [] } }) disk
left_out l disk ready no_way = record {
  readable = record { there = ready.readable.there; sizes = ready.readable.sizes; told = λ t e. absurd (untold t e) };
  one_file = ready.one_file;
  next = ready.next;
  most = ready.most;
  clear = ready.clear;
  plans = ready.plans;
  told = λ t e. absurd (untold t e);
}
  where
    untold : (t : Trace) → disk.told ≡ Some t → ⊥
    untold t e = no_way (ready.told t e).1.can
