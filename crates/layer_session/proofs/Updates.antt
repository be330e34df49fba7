-- An entry that changes a file's metadata, by what stores tell.
use Rattle.std.proofs.Common.{◌≡◌, ℕ, ◌-◌, ◌*◌, ◌^◌, ◌<◌, ◌≤◌, Bool, All, List, [], length, map, Option, Some, None, refl, sym, ap, subst, ◌∙◌}
use Rattle.vx_base.specs.declared.parts.Parts.{Parts}
use Rattle.vhdx_format.specs.Fields.{megabyte}
use Rattle.vhdx_format.specs.declared.log_entry.Page.{Page}
use Rattle.store_model.specs.Disk.{Disk, WhereBothTold, WhereTold}
use Rattle.store_model.specs.File.{seen}
use Rattle.store_model.specs.Plans.{FailsToChange, OnlyChanges}
use Rattle.store_model.specs.Trace.{Trace, file_of}
use Rattle.store_model.specs.declared.fault.StoreFault.{StoreFault}
use Rattle.table_pages.specs.Held.{AreTables, KeepsWithin, LiesIn}
use Rattle.table_pages.specs.declared.tables.TableParts.{TableParts}
use Rattle.table_pages.specs.declared.tables.Tables.{Tables}
use Rattle.block_alloc.specs.Spaces as spaces
use Rattle.block_alloc.specs.Spaces.{Space}
use Rattle.log_write.specs.Running.{RunsBehindCommit}
use Rattle.log_write.specs.Sessions.{IsRunning, LogState, nowhere}
use Rattle.log_write.specs.Writing.{CanCommit, CommitsAll, CommitsAtEachMoment, IsOfTables, KeepsBeside, committed}
use Rattle.log_write.specs.Writing.{HasCommitted as HasCommittedPages}
use Rattle.torn_match.specs.TornMatches.{ChangesUntorn}
use Rattle.chain_model.specs.Images.{Placed}
use Rattle.chain_model.specs.Layers as chain
use Rattle.chain_model.specs.Members.{Ties}
use Rattle.chain_model.specs.Sessions.{GoesOver}
use Rattle.layer_session.specs.declared.file.Layer.{Layer}
use Rattle.layer_session.specs.Calls.{HoldsRest}
use Rattle.layer_session.specs.Keeping.{IsHeld, IsReadable, IsReady, Serves}
use Rattle.layer_session.specs.Updating.{HasUpdated, Turns, TurnsInto, UpdatesOver, turned}
use Rattle.layer_session.proofs.Committed.{committed_then, layer_behind}
use Rattle.layer_session.proofs.Committing.{attached_same, ready_from, same_file, same_len}
use Rattle.layer_session.proofs.Equal.{none_some, some_same}
use Rattle.layer_session.proofs.Numbers.{named_as}
use Rattle.layer_session.proofs.Failing.{held_still, same_log, with_log}
use Rattle.layer_session.proofs.Updated.{can_update, lie_in_file, pages_of_tables, turns_each, updates_over, whole_now, with_changed}

-- the pages can be put among the changed ones: the tables are the file's then, with what is kept of it
abbrev pub PutsAll : Layer → List Page → List Page → Type 0
PutsAll l pages cache = (file : List ℕ) → AreTables l.tables.parts file l.tables.pending l.tables.cache → All (LiesIn (length file)) pages → AreTables l.tables.parts file pages cache

-- where a store tells its content the pages are never left out
pub never_left_out : (l : Layer) (pages : List Page) (disk : Disk) → l.tables.pending ≡ [] → WhereTold disk.told (Turns l pages) → (All (CanCommit l.log) pages → ⊥) → (t : Trace) → disk.told ≡ Some t → ⊥
never_left_out l pages disk none turns no_way t e = let x = turns t e in no_way (can_update l t x.file x.serves none pages x.ties x.region x.into)

-- so nothing is told
pub untold : (told : Option Trace) → ((t : Trace) → told ≡ Some t → ⊥) → (R : Trace → Trace → Type 0) → WhereBothTold R told told
untold None no_way R = tt
untold (Some t) no_way R = absurd (no_way t refl)

module _ (l : Layer) (pages : List Page) (old new : Disk) (one_file : l.log.file ≡ l.tables.parts.file) (low : l.log.number ≤ 2 ^ 64 - 2 ^ 32) (none : l.tables.pending ≡ [])
    (only : WhereBothTold (OnlyChanges l.log.file) old.told new.told) where
  pub update_moments : CommitsAtEachMoment l.log pages old.told new.told → WhereBothTold (UpdatesOver l pages) old.told new.told
  update_moments moments = by_told old.told new.told refl refl only
    where
      by_told : (a b : Option Trace) → old.told ≡ a → new.told ≡ b → WhereBothTold (OnlyChanges l.log.file) a b → WhereBothTold (UpdatesOver l pages) a b
      by_told None None ea eb o = tt
      by_told None (Some u) ea eb o = absurd o
      by_told (Some t) None ea eb o = absurd o
      by_told (Some t) (Some u) ea eb o = record { over = over }
        where
          over : (file : Placed) (ties : Ties) (region : List ℕ) → Serves l t file → TurnsInto l.tables.parts.bat_len pages file ties region → GoesOver file (turned ties region file) t u
          over file ties region serves into =
              let n : l.log.file ≡ file.number = one_file ∙ sym serves.number in
              let run : IsRunning l.log serves.tables (length serves.bytes) serves.written (file_of t l.log.file) = subst (λ k. IsRunning l.log serves.tables (length serves.bytes) serves.written (file_of t k)) (sym n) serves.running in
              let m : WhereBothTold (ChangesUntorn l.log.file (CommitsAll l.log pages (length serves.bytes) serves.written (seen (file_of t l.log.file)))) old.told new.told =
              moments serves.tables (length serves.bytes) serves.written (pages_of_tables l t file serves none pages ties region into) low t ea run in
              let k : WhereBothTold (ChangesUntorn l.log.file (CommitsAll l.log pages (length serves.bytes) serves.written (seen (file_of t l.log.file)))) (Some t) new.told =
              subst (λ x. WhereBothTold (ChangesUntorn l.log.file (CommitsAll l.log pages (length serves.bytes) serves.written (seen (file_of t l.log.file)))) x new.told) ea m in
              let changes : ChangesUntorn l.log.file (CommitsAll l.log pages (length serves.bytes) serves.written (seen (file_of t l.log.file))) t u =
              subst (λ x. WhereBothTold (ChangesUntorn l.log.file (CommitsAll l.log pages (length serves.bytes) serves.written (seen (file_of t l.log.file)))) (Some t) x) eb k in
              updates_over l t file serves none pages ties region into u (subst (λ i. ChangesUntorn i (CommitsAll l.log pages (length serves.bytes) serves.written (seen (file_of t i))) t u) n changes)

  module _ (cache : List Page) (puts : PutsAll l pages cache) (keeps : KeepsWithin 0 0 l.tables (record { parts = l.tables.parts; pending = pages; cache = cache })) where
    abbrev behind : Layer
    behind = layer_behind (with_changed l pages cache) (committed l.log pages)

    pub update_served : RunsBehindCommit l.log (committed l.log pages) pages old.told new.told
        → WhereBothTold (λ before after. HasCommittedPages l.log pages (seen (file_of before l.log.file)) (seen (file_of after l.log.file))) old.told new.told → WhereBothTold (HasUpdated l behind pages) old.told new.told
    update_served runs content = by_told old.told new.told (λ tables least written of. runs tables least written of low) content only
      where
        by_told : (a b : Option Trace)
            → ((tables : ℕ → Bool) (least : ℕ) (written : ℕ → Bool) → All (IsOfTables tables) pages
            → WhereBothTold (λ before after. IsRunning l.log tables least written (file_of before l.log.file) → IsRunning (committed l.log pages) tables (length (seen (file_of after l.log.file))) nowhere (file_of after l.log.file)) a b)
            → WhereBothTold (λ before after. HasCommittedPages l.log pages (seen (file_of before l.log.file)) (seen (file_of after l.log.file))) a b
            → WhereBothTold (OnlyChanges l.log.file) a b → WhereBothTold (HasUpdated l behind pages) a b
        by_told None None r c o = tt
        by_told None (Some u) r c o = absurd o
        by_told (Some t) None r c o = absurd o
        by_told (Some t) (Some u) r c o = record { serves = serves_too }
          where
            serves_too : (file : Placed) (ties : Ties) (region : List ℕ) → Serves l t file → TurnsInto l.tables.parts.bat_len pages file ties region → Serves behind u (turned ties region file)
            serves_too file ties region serves into =
                let n : l.log.file ≡ file.number = one_file ∙ sym serves.number in
                let run : IsRunning l.log serves.tables (length serves.bytes) serves.written (file_of t l.log.file) = subst (λ k. IsRunning l.log serves.tables (length serves.bytes) serves.written (file_of t k)) (sym n) serves.running in
                let runs_on = r serves.tables (length serves.bytes) serves.written (pages_of_tables l t file serves none pages ties region into) run in
                let are : AreTables l.tables.parts (seen (file_of t file.number)) pages cache = puts (seen (file_of t file.number)) serves.as_held.pages (lie_in_file l t file serves none pages ties region into) in
                committed_then (with_changed l pages cache) t u (turned ties region file) (named_as ties.locator ties.retired serves.parts) serves.tables (whole_now l t file serves none pages ties region into cache are keeps) (attached_same l.log.file t u o)
                (subst (λ k. HasCommittedPages l.log pages (seen (file_of t k)) (seen (file_of u k))) n c)
                (subst (λ k. IsRunning (committed l.log pages) serves.tables (length (seen (file_of u k))) nowhere (file_of u k)) n runs_on)

    -- what was served before is served behind
    served_on : WhereTold old.told (Turns l pages) → WhereBothTold (HasUpdated l behind pages) old.told new.told → WhereTold new.told (λ trace. (file : Placed) × Serves behind trace file)
    served_on turns has u e = by_told old.told new.told turns has e
      where
        by_told : (a b : Option Trace) → WhereTold a (Turns l pages) → WhereBothTold (HasUpdated l behind pages) a b → b ≡ Some u → (file : Placed) × Serves behind u file
        by_told None None k h e = absurd (none_some e)
        by_told None (Some v) k h e = absurd h
        by_told (Some t) None k h e = absurd (none_some e)
        by_told (Some t) (Some v) k h e =
            let x = k t refl in
            let m : v ≡ u = some_same e in
            (turned x.ties x.region x.file, subst (λ (y : Trace). Serves behind y (turned x.ties x.region x.file)) m (h.serves x.file x.ties x.region x.serves x.into))

    pub update_ready : IsReady l old → WhereTold old.told (Turns l pages) → new ≡ record old { told = new.told } → WhereBothTold (HasUpdated l behind pages) old.told new.told → IsReady behind new
    update_ready ready turns counts has =
        ready_from behind new (subst (λ n. l.tables.parts.file < n) (sym (ap (λ (d : Disk). d.files) counts)) ready.readable.there) ready.readable.sizes (same_file l.log pages ∙ ready.one_file)
        (subst (λ n. n ≤ l.space.next * megabyte) (sym (same_len l.log pages)) ready.next) ready.most ready.clear ready.plans (served_on turns has)

    -- where it failed the layer holds what it held, with the pages among the changed ones
    module _ (log : LogState) (ready : IsReady l old) (turns : WhereTold old.told (Turns l pages)) (fault : StoreFault) (fails : FailsToChange l.log.file old new fault)
        (beside : WhereBothTold (λ before after. KeepsBeside l.log pages (seen (file_of before l.log.file)) (seen (file_of after l.log.file))) old.told new.told) where
      abbrev then : Layer
      then = with_log (with_changed l pages cache) log

      one_held : (t u : Trace) (file : Placed) → Turns l pages t → Serves l t file → KeepsBeside l.log pages (seen (file_of t l.log.file)) (seen (file_of u l.log.file)) → (parts : Parts) × (IsHeld then parts file.member.layer (seen (file_of u l.tables.parts.file)))
      one_held t u file x s k =
          let into : TurnsInto l.tables.parts.bat_len pages file x.ties x.region = turns_each l t x.file file x.ties x.region pages x.serves s x.into in
          let n : l.log.file ≡ file.number = one_file ∙ sym s.number in
          let here : KeepsBeside l.log pages (seen (file_of t file.number)) (seen (file_of u file.number)) = subst (λ i. KeepsBeside l.log pages (seen (file_of t i)) (seen (file_of u i))) n k in
          let are : AreTables l.tables.parts (seen (file_of t file.number)) pages cache = puts (seen (file_of t file.number)) s.as_held.pages (lie_in_file l t file s none pages x.ties x.region into) in
          let p : Parts = named_as x.ties.locator x.ties.retired s.parts in
          let w = whole_now l t file s none pages x.ties x.region into cache are keeps in (
            p,
            subst (λ i. IsHeld then p file.member.layer (seen (file_of u i))) s.number
                (same_log (with_changed l pages cache) log p file.member.layer (seen (file_of u file.number)) (held_still (with_changed l pages cache) t (turned x.ties x.region file) p s.tables w (seen (file_of u file.number)) here)),
          )

      rest_held : (t u : Trace) → Turns l pages t → KeepsBeside l.log pages (seen (file_of t l.log.file)) (seen (file_of u l.log.file)) → HoldsRest l then 0 0 t u
      rest_held t u x k = record { holds = λ file s. let h = one_held t u file x s k in (h.0, (file.member.layer, h.1, λ i e. refl)) }

      pub update_rest : WhereBothTold (HoldsRest l then 0 0) old.told new.told
      update_rest = by_told old.told new.told turns beside
        where
          by_told : (a b : Option Trace) → WhereTold a (Turns l pages) → WhereBothTold (λ before after. KeepsBeside l.log pages (seen (file_of before l.log.file)) (seen (file_of after l.log.file))) a b → WhereBothTold (HoldsRest l then 0 0) a b
          by_told None None x k = tt
          by_told None (Some u) x k = absurd k
          by_told (Some t) None x k = absurd k
          by_told (Some t) (Some u) x k = rest_held t u (x t refl) k

      pub update_readable : IsReadable then new
      update_readable = record {
        there = subst (λ n. l.tables.parts.file < n) (sym (ap (λ (d : Disk). d.files) fails.stays)) ready.readable.there;
        sizes = ready.readable.sizes;
        told = by_told old.told new.told turns beside;
      } where
        by_told : (a b : Option Trace) → WhereTold a (Turns l pages) → WhereBothTold (λ before after. KeepsBeside l.log pages (seen (file_of before l.log.file)) (seen (file_of after l.log.file))) a b
            → WhereTold b (λ trace. (parts : Parts) × ((layer : chain.Layer) × IsHeld then parts layer (seen (file_of trace l.tables.parts.file))))
        by_told None None r k u e = absurd (none_some e)
        by_told None (Some v) r k u e = absurd k
        by_told (Some t) None r k u e = absurd (none_some e)
        by_told (Some t) (Some v) r k u e =
            let x = r t refl in
            let h = one_held t v x.file x x.serves k in
            subst (λ (y : Trace). (parts : Parts) × ((layer : chain.Layer) × IsHeld then parts layer (seen (file_of y l.tables.parts.file)))) (some_same e) (h.0, (x.file.member.layer, h.1))

-- ---- tables with the pages among the changed ones, and what a commit of them leaves

module _ (l : Layer) (pages : List Page) (made : Tables) (parts : made.parts ≡ l.tables.parts) (pending : made.pending ≡ pages) where
  pub puts_all : ((file : List ℕ) → AreTables l.tables.parts file l.tables.pending l.tables.cache → All (LiesIn (length file)) pages → AreTables made.parts file made.pending made.cache) → PutsAll l pages made.cache
  puts_all h file are lie = subst (λ (p : TableParts). AreTables p file pages made.cache) parts (subst (λ (z : List Page). AreTables made.parts file z made.cache) pending (h file are lie))

  pub keeps_same : KeepsWithin 0 0 l.tables made → KeepsWithin 0 0 l.tables (record { parts = l.tables.parts; pending = pages; cache = made.cache })
  keeps_same k = record { only = k.only }

  -- the layer behind the commit, as the code has it
  pub behind_is : (log : LogState) (left : List Page) (space : Space) → log ≡ committed l.log made.pending → left ≡ [] → space ≡ record (l.space) { freed = map spaces.committed l.space.freed }
      → layer_behind (with_changed l pages made.cache) (committed l.log pages) ≡ record l { tables = record { parts = made.parts; pending = left; cache = made.cache }; log = log; space = space }
  behind_is log left space is none freed = λ i. record {
    tables = record { parts = sym parts i; pending = sym none i; cache = made.cache };
    log = (ap (committed l.log) (sym pending) ∙ sym is) i;
    space = sym freed i;
    leave = l.leave;
    zeros = l.zeros;
    plans = l.plans;
  }

  -- and where it failed
  pub torn_is : (log : LogState) (left : List Page) → left ≡ made.pending → with_log (with_changed l pages made.cache) log ≡ record l { tables = record { parts = made.parts; pending = left; cache = made.cache }; log = log }
  torn_is log left same = λ i. record {
    tables = record { parts = sym parts i; pending = (sym pending ∙ sym same) i; cache = made.cache };
    log = log;
    space = l.space;
    leave = l.leave;
    zeros = l.zeros;
    plans = l.plans;
  }

  pub runs_behind : (log : LogState) (old new : Option Trace) → log ≡ committed l.log made.pending → RunsBehindCommit l.log log made.pending old new → RunsBehindCommit l.log (committed l.log pages) pages old new
  runs_behind log old new is runs = subst (λ (z : List Page). RunsBehindCommit l.log (committed l.log z) z old new) pending (subst (λ (s : LogState). RunsBehindCommit l.log s made.pending old new) is runs)
