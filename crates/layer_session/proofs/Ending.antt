-- The end of a session.
use Rattle.std.proofs.Common.{◌≡◌, ℕ, ◌<◌, Bool, true, false, List, [], ◌∷◌, length, Option, Some, None, refl, sym, ap, subst, ◌∙◌, arith, inl, inr}
use Rattle.std.specs.Prelude.{Err, Ok, OnOk, Result}
use Rattle.vx_base.specs.declared.parts.Header.{Header}
use Rattle.vx_base.specs.declared.parts.Parts.{Parts}
use Rattle.vhdx_format.specs.Crashes.{IsOutside}
use Rattle.vhdx_format.specs.FileParts.{shape_of, taken_areas}
use Rattle.vhdx_format.specs.HeldBlocks.{Area, IsSoundTable}
use Rattle.store_model.specs.Disk.{Disk, WhereBothTold}
use Rattle.store_model.specs.File.{seen, is_synced}
use Rattle.store_model.specs.declared.fault.StoreFault.{StoreFault}
use Rattle.store_model.specs.Plans.{OnlyChanges}
use Rattle.store_model.specs.Trace.{Trace, file_of, moment}
use Rattle.store_model.proofs.Spans.{EachMoment-join, EachMoment-weaken, at_moment-now}
use Rattle.table_pages.specs.Held.{held}
use Rattle.torn_match.specs.TornMatches.{ChangesUntorn, EachUntorn}
use Rattle.log_write.specs.Sessions.{IsKept as IsPlaceKept}
use Rattle.log_write.specs.Sessions.{IsRunning, SettlesNear, nowhere}
use Rattle.log_write.specs.Running.{EndsBehind}
use Rattle.log_write.specs.Writing.{EndsAlike, EndsAtEachMoment, ended_header}
use Rattle.log_write.specs.Writing.{HasEnded as HasEndedLog}
use Rattle.chain_model.specs.Images.{Placed, Shows, name_of}
use Rattle.chain_model.specs.Layers as chain
use Rattle.chain_model.specs.Members.{Ties, ties_of}
use Rattle.chain_model.specs.Moments.{HasWholeImages, IsPhase}
use Rattle.chain_model.specs.Sessions.{IsKept, ShowsFile}
use Rattle.layer_session.specs.declared.file.Layer.{Layer}
use Rattle.layer_session.specs.Calls.{HasCommitted, HasEnded, KeepsOver, settled}
use Rattle.layer_session.specs.Keeping.{IsTablePlace, Serves, bitmap as bitmap_place, entries, metadata, regions}
use Rattle.layer_session.specs.Unnamed.{NamesNoLog}
use Rattle.layer_session.proofs.Committed.{held_none}
use Rattle.layer_session.proofs.Committing.{attached_same, safe_committed}
use Rattle.layer_session.proofs.Crashes.{IsSafe, safe_of, shown}
use Rattle.layer_session.proofs.Under.{numbers_under, under}

-- one phase behind another
pub phases_join : (file : ℕ) (P : List ℕ → Type 0) (old mid new : Trace) → IsPhase file P old mid → IsPhase file P mid new → IsPhase file P old new
phases_join file P old mid new first second =
    let at_mid : HasWholeImages file P old mid = subst (HasWholeImages file P old) (at_moment-now mid) (first.each (moment mid) first.later (omega arith)) in
    EachMoment-join (HasWholeImages file P old) old mid new first
    (EachMoment-weaken (HasWholeImages file P mid) (HasWholeImages file P old) mid new (λ t has. record { images = has.images; others = λ other ne. has.others other ne ∙ at_mid.others other ne }) second)

-- what one shows, another does too
pub phase_weaken : (file : ℕ) (P Q : List ℕ → Type 0) (old new : Trace) → ((image : List ℕ) → P image → Q image) → IsPhase file P old new → IsPhase file Q old new
phase_weaken file P Q old new weaker = EachMoment-weaken (HasWholeImages file P old) (HasWholeImages file Q old) old new (λ t has. record { images = λ image here whole. weaker image (has.images image here whole); others = has.others })

-- a file that is safe, under another header
module _ (header : Header) (parts : Parts) (at : header.log_at ≡ parts.header.log_at) (len : header.log_len ≡ parts.header.log_len) where
  pub same_kept : (i : ℕ) → IsPlaceKept parts.header i → IsPlaceKept header i
  same_kept i k = record { first = k.first; second = k.second; log = subst (λ n. IsOutside n header.log_len i) (sym at) (subst (λ n. IsOutside parts.header.log_at n i) (sym len) k.log) }

  back_kept : (i : ℕ) → IsPlaceKept header i → IsPlaceKept parts.header i
  back_kept i k = record { first = k.first; second = k.second; log = subst (λ n. IsOutside n parts.header.log_len i) at (subst (λ n. IsOutside header.log_at n i) len k.log) }

  pub same_place : (file : List ℕ) (i : ℕ) → IsTablePlace (under header parts) file i → IsTablePlace parts file i
  same_place file i (regions a b) = regions a b
  same_place file i (entries a b) = entries a b
  same_place file i (metadata a b) = metadata a b
  same_place file i (bitmap_place index be six a b) = bitmap_place index be six a b

  pub back_place : (file : List ℕ) (i : ℕ) → IsTablePlace parts file i → IsTablePlace (under header parts) file i
  back_place file i (regions a b) = regions a b
  back_place file i (entries a b) = entries a b
  back_place file i (metadata a b) = metadata a b
  back_place file i (bitmap_place index be six a b) = bitmap_place index be six a b

  pub same_taken : taken_areas (under header parts) ≡ taken_areas parts
  same_taken = ap (λ a. (let area : Area = record { at = a; len = header.log_len } in area) ∷ record { at = parts.bat_at; len = parts.bat_len } ∷ record { at = parts.meta_at; len = parts.meta_len } ∷ []) at
      ∙ ap (λ n. (let area : Area = record { at = parts.header.log_at; len = n } in area) ∷ record { at = parts.bat_at; len = parts.bat_len } ∷ record { at = parts.meta_at; len = parts.meta_len } ∷ []) len

  pub safe_under : (tables written is_loose : ℕ → Bool) (layer : chain.Layer) (bytes file : List ℕ) → IsSafe parts tables written is_loose layer bytes file → IsSafe (under header parts) tables written is_loose layer bytes file
  safe_under tables written is_loose layer bytes file safe = record {
    sizes = record { sector = safe.sizes.sector; block = safe.sizes.block; entries = safe.sizes.entries };
    long = safe.long;
    committed = record {
      long = safe.committed.long;
      numbers = numbers_under parts.header header bytes parts at len safe.committed.numbers;
      sound = subst (λ a. IsSoundTable (shape_of parts) a bytes) (sym same_taken) safe.committed.sound;
      same = λ i below k. safe.committed.same i below (back_kept i k);
    };
    covered = record { covers = λ i p. safe.covered.covers i (same_place bytes i p); beside = λ i p. same_kept i (safe.covered.beside i (same_place bytes i p)) };
    apart = safe.apart;
    clean = safe.clean;
    off_disk = safe.off_disk;
  }

-- ---- behind a commit, of which nothing is pending

module _ (l : Layer) (t : Trace) (file : Placed) (serves : Serves l t file) (empty : l.tables.pending ≡ []) where
  abbrev F : List ℕ
  F = seen (file_of t file.number)

  held_is : held l.tables.pending F ≡ F
  held_is = ap (λ p. held p F) empty ∙ held_none F

  -- an image shows the file
  ends_show : (image : List ℕ) → EndsAlike l.log.header (length serves.bytes) serves.written F image → ShowsFile file image
  ends_show image (inl old) =
      let stands : SettlesNear serves.parts.header F (length serves.bytes) serves.written image = subst (λ (h : Header). SettlesNear h F (length serves.bytes) serves.written image) (sym serves.header) old in
      subst (λ (x : Ties). Shows x file.member.layer file.is_loose image) (sym serves.ties)
      (shown serves.parts serves.tables serves.written file.is_loose file.member.layer serves.bytes F image (safe_of l t file serves) stands)
  ends_show image (inr new) =
      let header : Header = ended_header l.log.header in
      let at : header.log_at ≡ serves.parts.header.log_at = ap (λ (h : Header). h.log_at) (sym serves.header) in
      let len : header.log_len ≡ serves.parts.header.log_len = ap (λ (h : Header). h.log_len) (sym serves.header) in
      let safe : IsSafe serves.parts serves.tables nowhere (λ s. false) file.member.layer F F = subst (λ (z : List ℕ). IsSafe serves.parts serves.tables nowhere (λ s. false) file.member.layer z z) held_is (safe_committed l t file serves) in
      let shows : Shows (ties_of (under header serves.parts)) file.member.layer (λ s. false) image =
      shown (under header serves.parts) serves.tables nowhere (λ s. false) file.member.layer F F image (safe_under header serves.parts at len serves.tables nowhere (λ s. false) file.member.layer F F safe) new in
      let same : ties_of (under header serves.parts) ≡ file.member.ties =
      ap (λ i. (let x : Ties = record { id = i; geometry = serves.parts.geometry; parent = serves.parts.parent; locator = serves.parts.locator; retired = serves.parts.retired } in x)) (ap (λ (h : Header). h.data_write) (sym serves.header)) ∙ sym serves.ties in
      let tied : Shows file.member.ties file.member.layer (λ s. false) image = subst (λ (x : Ties). Shows x file.member.layer (λ s. false) image) same shows in
      record { held = tied.held; parts = tied.parts; reads = tied.reads; whole = tied.whole; ties = tied.ties; clean = λ s e. tied.clean s refl }

  ends_over : (u : Trace) → ChangesUntorn file.number (EndsAlike l.log.header (length serves.bytes) serves.written F) t u → IsPhase file.number (ShowsFile file) t u
  ends_over u changes = record {
    later = changes.later;
    since = changes.since;
    each = λ k a b. record { images = λ image here whole. ends_show image ((changes.each k a b).has image here whole); others = (changes.each k a b).others };
  }

  -- behind the end
  kept_then : (u : Trace) → u.attached ≡ t.attached → IsPhase file.number (ShowsFile file) t u → IsKept u file
  kept_then u attached phase = record {
    within = subst (λ z. file.number < length z) (sym attached) serves.within;
    name = subst (λ z. name_of z file.number ≡ file.member.name) (sym attached) serves.name;
    shows = subst (λ (x : Trace). EachUntorn (ShowsFile file) (file_of x file.number)) (at_moment-now u) (phase.each (moment u) phase.later (omega arith)).images;
  }

  module _ (u : Trace) (one_file : l.log.file ≡ l.tables.parts.file) (moments : EndsAtEachMoment l.log (Some t) (Some u)) (only : OnlyChanges l.log.file t u) where
    of_file : l.log.file ≡ file.number
    of_file = one_file ∙ sym serves.number

    run : IsRunning l.log serves.tables (length serves.bytes) serves.written (file_of t l.log.file)
    run = subst (λ k. IsRunning l.log serves.tables (length serves.bytes) serves.written (file_of t k)) (sym of_file) serves.running

    pub end_over : IsPhase file.number (ShowsFile file) t u
    end_over =
        ends_over u
        (subst (λ i. ChangesUntorn i (EndsAlike l.log.header (length serves.bytes) serves.written (seen (file_of t i))) t u) of_file (moments serves.tables (length serves.bytes) serves.written t refl run))

    pub end_kept : IsKept u file
    end_kept = kept_then u (attached_same l.log.file t u only) end_over

    pub end_synced : (IsRunning l.log serves.tables (length serves.bytes) serves.written (file_of t l.log.file) → HasEndedLog l.log.header (seen (file_of t l.log.file)) (file_of u l.log.file)) → is_synced (file_of u file.number) ≡ true
    end_synced ended = subst (λ i. is_synced (file_of u i) ≡ true) of_file (ended run).synced

    pub end_no_log : (IsRunning l.log serves.tables (length serves.bytes) serves.written (file_of t l.log.file) → HasEndedLog l.log.header (seen (file_of t l.log.file)) (file_of u l.log.file)) → NamesNoLog (seen (file_of u file.number))
    end_no_log ended = subst (λ i. NamesNoLog (seen (file_of u i))) of_file (record { header = ended_header l.log.header; current = (ended run).head; none = refl })

-- ---- of stores

-- a commit, and then the end of the log
module _ (l m : Layer) (old mid new : Disk) (quiet : WhereBothTold (KeepsOver l) old.told mid.told) (committed : WhereBothTold (HasCommitted l m) old.told mid.told)
    (one_file : m.log.file ≡ m.tables.parts.file) (empty : m.tables.pending ≡ []) (moments : EndsAtEachMoment m.log mid.told new.told) (only : WhereBothTold (OnlyChanges m.log.file) mid.told new.told) where
  one_over : (t u v : Trace) → KeepsOver l t u → HasCommitted l m t u → EndsAtEachMoment m.log (Some u) (Some v) → OnlyChanges m.log.file u v → KeepsOver l t v
  one_over t u v q k e o = record {
    over = λ file s.
        phases_join file.number (ShowsFile file) t u v (q.over file s)
        (phase_weaken file.number (ShowsFile (settled file)) (ShowsFile file) u v (λ image shows. record { held = shows.held; parts = shows.parts; reads = shows.reads; whole = shows.whole; ties = shows.ties; clean = λ i b. shows.clean i refl })
        (end_over m u (settled file) (k.serves file s) empty v one_file e o));
  }

  pub both_over : WhereBothTold (KeepsOver l) old.told new.told
  both_over = by_told old.told mid.told new.told quiet committed moments only
    where
      by_told : (a b c : Option Trace) → WhereBothTold (KeepsOver l) a b → WhereBothTold (HasCommitted l m) a b → EndsAtEachMoment m.log b c → WhereBothTold (OnlyChanges m.log.file) b c → WhereBothTold (KeepsOver l) a c
      by_told None None None q k e o = tt
      by_told None None (Some v) q k e o = absurd o
      by_told None (Some u) c q k e o = absurd q
      by_told (Some t) None c q k e o = absurd q
      by_told (Some t) (Some u) None q k e o = absurd o
      by_told (Some t) (Some u) (Some v) q k e o = one_over t u v q k e o

  pub both_ended : EndsBehind m.log mid.told new.told → WhereBothTold (HasEnded l) old.told new.told
  both_ended ended = by_told old.told mid.told new.told committed moments only ended
    where
      by_told : (a b c : Option Trace) → WhereBothTold (HasCommitted l m) a b → EndsAtEachMoment m.log b c → WhereBothTold (OnlyChanges m.log.file) b c
          → EndsBehind m.log b c → WhereBothTold (HasEnded l) a c
      by_told None None None k e o x = tt
      by_told None None (Some v) k e o x = absurd o
      by_told None (Some u) c k e o x = absurd k
      by_told (Some t) None c k e o x = absurd k
      by_told (Some t) (Some u) None k e o x = absurd o
      by_told (Some t) (Some u) (Some v) k e o x = record {
        synced = λ file s. let r = k.serves file s in end_synced m u (settled file) r empty v one_file e o (x r.tables (length r.bytes) r.written);
        no_log = λ file s. let r = k.serves file s in end_no_log m u (settled file) r empty v one_file e o (x r.tables (length r.bytes) r.written);
        kept = λ file s. end_kept m u (settled file) (k.serves file s) empty v one_file e o;
      }

  pub ended_by : (result : Result (Unit {0}) StoreFault) → OnOk result (EndsBehind m.log mid.told new.told) → OnOk result (WhereBothTold (HasEnded l) old.told new.told)
  ended_by (Ok x) ended = both_ended ended
  ended_by (Err fault) ended = tt
