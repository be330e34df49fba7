-- The sessions of a chain's files come to their end, one after another.
use Rattle.std.proofs.Common.{◌≡◌, ◌≢◌, ℕ, Bool, true, false, List, [], ◌∷◌, ◌++◌, map, inl, inr, refl, sym, ap, subst, ◌∙◌, is_some, arith, ◌<◌, ◌≤◌, ◌+◌, ◌-◌, ◌^◌}
use Rattle.std.specs.Prelude.{Option, Some, None, IfErr, IfSome, OnOk, Result, Ok, Err}
use Rattle.std.specs.List.{AllByRecursion}
use Rattle.std.proofs.lemmas.List.{append-nil, append_assoc, map-append}
use Rattle.chain_model.proofs.Showing.{all_left, all_right}
use Rattle.store_model.specs.declared.fault.StoreFault.{StoreFault}
use Rattle.store_model.specs.Disk.{Disk, WhereBothTold}
use Rattle.store_model.specs.File.{File, is_synced, seen}
use Rattle.store_model.specs.Cause.{RoseAt}
use Rattle.store_model.specs.Plans.{FailsToChange}
use Rattle.store_model.specs.Trace.{EachMoment, Trace, file_of, moment}
use Rattle.store_model.proofs.Spans.{EachMoment-join, EachMoment-now, at_moment-now}
use Rattle.guest_model.specs.Calls.{Disk as GuestDisk}
use Rattle.guest_model.specs.History.{History, replay}
use Rattle.chain_model.specs.Members.{IsChainOf, Member, NoneTwice, disk_of, names_of, Way, IsBy}
use Rattle.chain_model.specs.Images.{NoneLoose, Placed, members_of}
use Rattle.chain_model.specs.Moments.{EachOpens, IsPhase}
use Rattle.chain_model.specs.PhaseLaws.{IsNamedOnce}
use Rattle.chain_model.specs.Sessions.{HasGoneOver, IsKept, IsOrIsBeside, IsServed, ShowsFile}
use Rattle.chain_model.proofs.Calling.{loosened_is_kept}
use Rattle.chain_model.proofs.Phasing.{Opens, kept_behind, opens_merging, opens_settled, served_before, served_beside}
use Rattle.chain_model.proofs.Serving.{past_goes_on, phases_open, phases_show, served_chains_open}
use Rattle.layer_session.specs.declared.file.Layer.{Layer}
use Rattle.layer_session.specs.Unnamed.{NamesNoLog}
use Rattle.layer_session.specs.declared.file_layer.FileLayer.{FileLayer}
use Rattle.layer_session.specs.declared.file_layer.FileLayer.TheVariants.{Session, Read}
use Rattle.layer_session.specs.Calls.{HasEnded as HasEndedLeaf, IsBeside, KeepsOver, own_file, settled}
use Rattle.layer_session.specs.FileLayers.{AreOthers, FileHasEnded, FileIsReady, FileKeepsOver, HasFile, HasSession, HaveFiles, LeavesOthers as LeavesOtherFiles, file_numbers, log_number, number_of}
use Rattle.layer_session.specs.Keeping.{IsReady, Serves}
use Rattle.layer_session.proofs.FileLayers.{file_layers_stand, others_stand, phase_others}
use Rattle.layer_session.proofs.Standing.{layers_stand}
use Rattle.chain_core.specs.declared.layers.Layers.{Layers}
use Rattle.chain_core.specs.Answering.{EachOpensNow, EndsTold, HasClosed, HasEnded, HasEndedWhole}
use Rattle.chain_core.specs.Ending.{AreAllReady, AreNumbered, EndsOn, EndsOnTold, HasEndedFile, IsEnding, IsInSession, SomeChangeFailed}
use Rattle.chain_core.specs.Sessions.{AreApart, AreReady, IsLow}
use Rattle.chain_core.specs.States.{AreHeld, AreWritten, IsLoose, IsServing, Rest, State, WasSynced, dirty_now, disk_now, files_of, is_session, merging, others_of, plain, retiring, sector_of}
use Rattle.chain_core.proofs.Concluding.{same_told}
use Rattle.chain_core.proofs.Links.{served_links}
use Rattle.chain_core.proofs.Putting.{apart_around}
use Rattle.chain_core.proofs.Rests.{opens_now}
use Rattle.chain_core.proofs.Showing.{tight_others}
use Rattle.chain_core.proofs.Standing.{leaf_of}
use Rattle.chain_core.proofs.Steps.{goes_over, names_behind, still_once, still_read}
use Rattle.store_model.proofs.Told.{both_join, both_from}
use Rattle.layer_session.proofs.Equal.{err_ok, some_same, true_false}

-- ---- where the store tells its content

both_map : (R Q : Trace → Trace → Type 0) (a b : Option Trace) → WhereBothTold R a b → ((t u : Trace) → R t u → Q t u) → WhereBothTold Q a b
both_map R Q a b h weaker = both_from R Q a b weaker h

-- ---- lists

apart_left : (a b : List ℕ) → AreApart (a ++ b) → AreApart a
apart_left [] b h = tt
apart_left (n ∷ a) b h = (all_left (λ other. other ≢ n) a b h.0, apart_left a b h.1)

apart_last : (a : List ℕ) (n : ℕ) → AreApart (a ++ n ∷ []) → AllByRecursion (λ other. other ≢ n) a
apart_last [] n h = tt
apart_last (m ∷ a) n h = ((λ e. (all_right (λ other. other ≢ m) a (n ∷ []) h.0).0 (sym e)), apart_last a n h.1)

others_by : (n : ℕ) (layers : List FileLayer) → AllByRecursion (λ other. other ≢ n) (file_numbers layers) → AreOthers n layers
others_by n [] h = tt
others_by n (l ∷ layers) h = (h.0, others_by n layers h.1)

-- the last of some files that are had, and those before it
last_of : (layers : List FileLayer) (x : FileLayer) (t : Trace) (files : List Placed) → HaveFiles (layers ++ x ∷ []) t files
    → (first : List Placed) × ((f : Placed) × ((files ≡ first ++ f ∷ []) × (HaveFiles layers t first × HasFile x t f)))
last_of [] x t [] h = absurd h
last_of [] x t (f ∷ []) h = ([], (f, (refl, (tt, h.0))))
last_of [] x t (f ∷ other ∷ rest) h = absurd h.1
last_of (l ∷ layers) x t [] h = absurd h
last_of (l ∷ layers) x t (f ∷ files) h =
    let r = last_of layers x t files h.1 in
    (f ∷ r.0, (r.1.0, (ap (λ c. f ∷ c) r.1.1.0, ((h.0, r.1.1.1.0), r.1.1.1.1))))

-- ---- for every store

-- the last of some files, and those before it
module _ (layers : List FileLayer) (x : FileLayer) (items : List FileLayer) (split : items ≡ layers ++ x ∷ []) where
  pub last_ready : (disk : Disk) → AreAllReady disk items → FileIsReady x disk
  last_ready disk ready = (all_right (λ l. FileIsReady l disk) layers (x ∷ []) (subst (AreAllReady disk) split ready)).0

  pub rest_ready : (disk : Disk) → AreAllReady disk items → AreAllReady disk layers
  rest_ready disk ready = all_left (λ l. FileIsReady l disk) layers (x ∷ []) (subst (AreAllReady disk) split ready)

  numbers_split : file_numbers items ≡ file_numbers layers ++ number_of x ∷ []
  numbers_split = ap file_numbers split ∙ map-append number_of layers (x ∷ [])

  pub rest_apart : AreApart (file_numbers items) → AreApart (file_numbers layers)
  rest_apart apart = apart_left (file_numbers layers) (number_of x ∷ []) (subst AreApart numbers_split apart)

  pub others_than : AreApart (file_numbers items) → AreOthers (number_of x) layers
  others_than apart = others_by (number_of x) layers (apart_last (file_numbers layers) (number_of x) (subst AreApart numbers_split apart))

ready_still : (n : ℕ) (old new : Disk) (layers : List FileLayer) → AreAllReady old layers → AreOthers n layers → new.files ≡ old.files → WhereBothTold (LeavesOtherFiles n) old.told new.told → AreAllReady new layers
ready_still n old new [] ready others files leaves = tt
ready_still n old new (l ∷ layers) ready others files leaves =
    let beside : WhereBothTold (IsBeside (number_of l)) old.told new.told = both_map (LeavesOtherFiles n) (IsBeside (number_of l)) old.told new.told leaves (λ t u k. k.others (number_of l) others.0) in
    (file_layers_stand.ready l old new ready.0 files beside, ready_still n old new layers ready.1 others.1 files leaves)

-- the end of a file leaves the others
pub leaves_others : (x : FileLayer) (old new : Disk) → FileIsReady x old → WhereBothTold (FileKeepsOver x) old.told new.told → (log_number x ≡ None → new ≡ old) → WhereBothTold (LeavesOtherFiles (number_of x)) old.told new.told
leaves_others (Session l) old new ready keeps reads =
    others_stand.kept l old new ready (both_map (FileKeepsOver (Session l)) (KeepsOver l) old.told new.told keeps (λ t u k. record { over = λ file serves. k.over file serves refl }))
leaves_others (Read l) old new ready keeps reads =
    subst (λ (d : Disk). WhereBothTold (LeavesOtherFiles (number_of (Read l))) old.told d.told) (sym (reads refl))
    (same_told (LeavesOtherFiles (number_of (Read l))) old.told (λ t. record { others = λ other ne. record { same = refl; names = refl } }))

pub still_ready : (x : FileLayer) (layers : List FileLayer) (old new : Disk) → FileIsReady x old → AreAllReady old layers → AreOthers (number_of x) layers → WhereBothTold (FileKeepsOver x) old.told new.told → (log_number x ≡ None → new ≡ old)
    → new.files ≡ old.files → AreAllReady new layers
still_ready x layers old new own ready others keeps reads files = ready_still (number_of x) old new layers ready others files (leaves_others x old new own keeps reads)

-- another file is as it was
pub beside_last : (layers : List FileLayer) (x : FileLayer) (items : List FileLayer) (old new : Disk) → items ≡ layers ++ x ∷ [] → FileIsReady x old → WhereBothTold (FileKeepsOver x) old.told new.told → (log_number x ≡ None → new ≡ old)
    → (n : ℕ) → AreOthers n items → WhereBothTold (IsBeside n) old.told new.told
beside_last layers x items old new split ready keeps reads n others =
    let ne : number_of x ≢ n = (all_right (λ l. number_of l ≢ n) layers (x ∷ []) (subst (AreOthers n) split others)).0 in
    both_map (LeavesOtherFiles (number_of x)) (IsBeside n) old.told new.told (leaves_others x old new ready keeps reads) (λ t u k. k.others n (λ e. ne (sym e)))

pub beside_both : (n : ℕ) (a b c : Option Trace) → WhereBothTold (IsBeside n) a b → WhereBothTold (IsBeside n) b c → WhereBothTold (IsBeside n) a c
beside_both n a b c first second = both_join (IsBeside n) (IsBeside n) (IsBeside n) a b c (λ t u w k m. record { same = m.same ∙ k.same; names = m.names ∙ k.names }) first second

pub rest_others : (layers : List FileLayer) (x : FileLayer) (items : List FileLayer) → items ≡ layers ++ x ∷ [] → (n : ℕ) → AreOthers n items → AreOthers n layers
rest_others layers x items split n others = all_left (λ l. number_of l ≢ n) layers (x ∷ []) (subst (AreOthers n) split others)

-- ---- one file of a chain stays as it is while it is written

opens_by : (z : ℕ) (opening : GuestDisk) (h : History) (leaf : Way) (among : ℕ → Bool) (retired : List Placed) (top : Placed) (rest : Rest) (old : Trace)
    → IsNamedOnce old → IsServed z opening h leaf retired (top ∷ others_of rest) old → IsLoose among top rest → Opens leaf among (replay z opening h) old (retired ++ (top ∷ others_of rest))
opens_by z opening h leaf among retired top (plain others) old once served loose = opens_settled leaf among retired (top ∷ others) (replay z opening h) old once served.linked served.by loose served.disk
opens_by z opening h leaf among retired top (merging above source target below m) old once served loose =
    opens_merging leaf among retired (top ∷ above) source target below (replay z opening h) old once served.linked served.by loose served.disk
opens_by z opening h leaf among retired top (retiring target below first before) old once served loose = opens_merging leaf among retired [] top target below (replay z opening h) old once served.linked served.by loose served.disk

shows_now : (f : Placed) (old new : Trace) → IsPhase f.number (ShowsFile f) old new → HasGoneOver f new
shows_now f old new phase = subst (λ t. HasGoneOver f t) (at_moment-now new) (phase.each (moment new) phase.later (omega arith)).images

pub file_stays : (z : ℕ) (opening : GuestDisk) (h : History) (leaf : Way) (among : ℕ → Bool) (retired : List Placed) (top : Placed) (rest : Rest) (above : List Placed) (f : Placed) (below : List Placed) (old new : Trace)
    → top ∷ others_of rest ≡ above ++ f ∷ below → IsNamedOnce old → IsServed z opening h leaf retired (top ∷ others_of rest) old → IsLoose among top rest → IsPhase f.number (ShowsFile f) old new
    → EachMoment (EachOpens leaf among (replay z opening h)) old new × IsServed z opening h leaf retired (top ∷ others_of rest) new
file_stays z opening h leaf among retired top rest above f below old new e once served loose phase =
    let split : IsServed z opening h leaf retired (above ++ f ∷ below) old = subst (λ c. IsServed z opening h leaf retired c old) e served in
    let kept : IsKept old f = served_before z opening h leaf retired above f below old split in
    let beside : AllByRecursion (IsOrIsBeside old f f) (retired ++ (above ++ f ∷ below)) = served_beside z opening h leaf retired above f f below old split in
    let opens : Opens leaf among (replay z opening h) old (retired ++ (above ++ f ∷ below)) =
    subst (λ (c : List Placed). Opens leaf among (replay z opening h) old (retired ++ c)) e (opens_by z opening h leaf among retired top rest old once served loose) in
    let over = goes_over f f old new refl refl phase in (
      phases_open f f old new leaf among (replay z opening h) (retired ++ (above ++ f ∷ below)) (retired ++ (above ++ f ∷ below)) over kept beside beside opens opens,
      record {
        linked = served.linked;
        by = served.by;
        kept = subst (λ (c : List Placed). AllByRecursion (IsKept new) (retired ++ c)) (sym e) (kept_behind f f old new (retired ++ (above ++ f ∷ below)) over (shows_now f old new phase) kept beside);
        disk = served.disk;
      },
    )

-- ---- one file's end

-- what its layer tells
pub record EndsFile (x : FileLayer) (result : Result (Unit {0}) StoreFault) (trace now : Trace) : Type 0 where
  pub moments : FileKeepsOver x trace now
  pub ended : OnOk result (FileHasEnded x trace now)
  pub reads : log_number x ≡ None → now ≡ trace

file_ends : (x : FileLayer) (result : Result (Unit {0}) StoreFault) (a b : Option Trace) → WhereBothTold (FileKeepsOver x) a b → OnOk result (WhereBothTold (FileHasEnded x) a b) → (log_number x ≡ None → b ≡ a) → WhereBothTold (EndsFile x result) a b
file_ends x result None None moments ended reads = tt
file_ends x result None (Some n) moments ended reads = moments
file_ends x result (Some t) None moments ended reads = moments
file_ends x (Ok done) (Some t) (Some n) moments ended reads = record { moments = moments; ended = ended; reads = λ none. some_same {x = n} {y = t} (reads none) }
file_ends x (Err fault) (Some t) (Some n) moments ended reads = record { moments = moments; ended = tt; reads = λ none. some_same {x = n} {y = t} (reads none) }

-- what it does to a session that comes to its end
abbrev EndsOne : State → List FileLayer → List Placed → List Placed → Trace → Trace → Result (Unit {0}) StoreFault → Type 0
EndsOne v layers first last trace now (Ok done) = EachOpensNow v trace now × IsEnding v layers first last now
EndsOne v layers first last trace now (Err fault) = HasEnded v trace now

module _ (v : State) (layers : List FileLayer) (x : FileLayer) (first : List Placed) (f : Placed) (last : List Placed) (trace : Trace) (is : IsEnding v (layers ++ x ∷ []) (first ++ f ∷ []) last trace) (have : HaveFiles layers trace first) (own : HasFile x trace f) where
  abbrev parted : others_of v.rest ≡ first ++ f ∷ last
  parted = is.files ∙ append_assoc first (f ∷ []) last

  abbrev kept_all : AllByRecursion (IsKept trace) (v.top ∷ first ++ f ∷ last)
  kept_all = subst (λ (c : List Placed). AllByRecursion (IsKept trace) (v.top ∷ c)) parted (all_right (IsKept trace) v.retired (files_of v) is.served.kept)

  round : AllByRecursion (λ p. p.number ≢ f.number) (v.top ∷ first) × AllByRecursion (λ p. p.number ≢ f.number) last
  round =
      apart_around trace (v.top ∷ first) f last kept_all
      (subst (λ (c : List Placed). NoneTwice (names_of (members_of (v.top ∷ c)))) parted (names_behind v.retired (files_of v) is.served.linked.once))

  kept_own : IsKept trace f
  kept_own = (all_right (IsKept trace) (v.top ∷ first) (f ∷ last) kept_all).0

  written_own : v.writes f.number ≡ is_session x
  written_own = ap v.writes (file_layers_stand.number x trace f own) ∙ (all_right (λ l. v.writes (number_of l) ≡ is_session l) layers (x ∷ []) is.written).0

  module _ (now : Trace) (phase : IsPhase f.number (ShowsFile f) trace now) (session : HasSession x) where
    abbrev stays : EachOpensNow v trace now × IsServed (sector_of v) v.opening v.history v.leaf v.retired (files_of v) now
    stays = file_stays (sector_of v) v.opening v.history v.leaf (dirty_now v) v.retired v.top v.rest (v.top ∷ first) f last trace now (ap (λ (c : List Placed). v.top ∷ c) parted) is.once is.served is.loose phase

    one_still : (other : ℕ) → v.writes other ≡ false → file_of now other ≡ file_of v.since other
    one_still other none = phase_others f.number (ShowsFile f) trace now phase other (λ same. let never : true ≡ false = sym (written_own ∙ session) ∙ ap v.writes (sym same) ∙ none in true_false never) ∙ is.still other none

    end_goes_on : HasEnded v trace now
    end_goes_on = record {
      moments = stays.0;
      still = one_still;
      past = past_goes_on.quiet (sector_of v) v.opening v.history (λ s. false) v.leaf v.began trace now is.past stays.0;
    }

    ended_still : (files : List Placed) → AllByRecursion (λ p. p.number ≢ f.number) files → AllByRecursion (HasEndedFile v.writes trace) files → AllByRecursion (HasEndedFile v.writes now) files
    ended_still [] ne ended = tt
    ended_still (p ∷ files) ne ended = (
      record {
        kept = phases_show.rest f f trace now (settled p) (goes_over f f trace now refl refl phase) ne.0 ended.0.kept;
        synced = λ writes. ap is_synced (phase_others f.number (ShowsFile f) trace now phase p.number ne.0) ∙ ended.0.synced writes;
        no_log = λ writes. subst (λ (x : File). NamesNoLog (seen x)) (sym (phase_others f.number (ShowsFile f) trace now phase p.number ne.0)) (ended.0.no_log writes);
      },
      ended_still files ne.1 ended.1,
    )

    one_ended : IsKept now (settled f) → is_synced (file_of now f.number) ≡ true → NamesNoLog (seen (file_of now f.number)) → IsEnding v layers first (f ∷ last) now
    one_ended kept synced no_log = record {
      once = still_once f.number (ShowsFile f) trace now phase is.once;
      served = stays.1;
      loose = is.loose;
      files = parted;
      have = still_read f.number (ShowsFile f) trace now phase layers first round.0.1 have;
      tight = all_left (λ p. v.writes p.number ≡ false → (s : ℕ) → p.is_loose s ≡ false) first (f ∷ []) is.tight;
      written = all_left (λ l. v.writes (number_of l) ≡ is_session l) layers (x ∷ []) is.written;
      ended = (record { kept = kept; synced = λ writes. synced; no_log = λ writes. no_log }, ended_still last round.1 is.ended);
      still = one_still;
      past = end_goes_on.past;
    }

  -- one that is only read
  abbrev rests : EachOpensNow v trace trace
  rests = EachMoment-now (EachOpens v.leaf (dirty_now v) (disk_now v)) trace (opens_now (sector_of v) v.opening v.history v.leaf (dirty_now v) v.retired v.top v.rest trace is.once is.served is.loose)

  end_rests : HasEnded v trace trace
  end_rests = record { moments = rests; still = is.still; past = is.past }

  read_ended : is_session x ≡ false → IsEnding v layers first (f ∷ last) trace
  read_ended none =
      let unwritten : v.writes f.number ≡ false = written_own ∙ none in
      record {
        once = is.once;
        served = is.served;
        loose = is.loose;
        files = parted;
        have = have;
        tight = all_left (λ p. v.writes p.number ≡ false → (s : ℕ) → p.is_loose s ≡ false) first (f ∷ []) is.tight;
        written = all_left (λ l. v.writes (number_of l) ≡ is_session l) layers (x ∷ []) is.written;
        ended = (
          record {
            kept = loosened_is_kept (λ s. false) f trace (λ s out. (all_right (λ p. v.writes p.number ≡ false → (s : ℕ) → p.is_loose s ≡ false) first (f ∷ []) is.tight).0 unwritten s) kept_own;
            synced = λ writes. absurd (let never : true ≡ false = sym writes ∙ unwritten in true_false never);
            no_log = λ writes. absurd (let never : true ≡ false = sym writes ∙ unwritten in true_false never);
          },
          is.ended,
        );
        still = is.still;
        past = is.past;
      }

one_ends : (v : State) (layers : List FileLayer) (x : FileLayer) (first : List Placed) (f : Placed) (last : List Placed) (trace now : Trace) (result : Result (Unit {0}) StoreFault) → IsEnding v (layers ++ x ∷ []) (first ++ f ∷ []) last trace
    → HaveFiles layers trace first → HasFile x trace f → EndsFile x result trace now → EndsOne v layers first (f ∷ last) trace now result
one_ends v layers (Session l) first f last trace now (Ok done) is have own ends =
    let phase : IsPhase f.number (ShowsFile f) trace now = ends.moments.over f own refl in (
      (stays v layers (Session l) first f last trace is have own now phase refl).0,
      one_ended v layers (Session l) first f last trace is have own now phase refl (ends.ended.kept f own refl) (ends.ended.synced f own refl) (ends.ended.no_log f own refl),
    )
one_ends v layers (Session l) first f last trace now (Err fault) is have own ends = end_goes_on v layers (Session l) first f last trace is have own now (ends.moments.over f own refl) refl
one_ends v layers (Read l) first f last trace now (Ok done) is have own ends =
    subst (λ t. EachOpensNow v trace t × IsEnding v layers first (f ∷ last) t) (sym (ends.reads refl)) (rests v layers (Read l) first f last trace is have own, read_ended v layers (Read l) first f last trace is have own refl)
one_ends v layers (Read l) first f last trace now (Err fault) is have own ends = subst (λ t. HasEnded v trace t) (sym (ends.reads refl)) (end_rests v layers (Read l) first f last trace is have own)

-- the last of the files that are left
last_ends : (v : State) (layers : List FileLayer) (x : FileLayer) (items : List FileLayer) (firsts last : List Placed) (trace now : Trace) (result : Result (Unit {0}) StoreFault) → items ≡ layers ++ x ∷ [] → IsEnding v items firsts last trace
    → EndsFile x result trace now → (first : List Placed) × ((f : Placed) × EndsOne v layers first (f ∷ last) trace now result)
last_ends v layers x items firsts last trace now result split is ends =
    let is' : IsEnding v (layers ++ x ∷ []) firsts last trace = subst (λ (c : List FileLayer). IsEnding v c firsts last trace) split is in
    let r = last_of layers x trace firsts is'.have in
    let is'' : IsEnding v (layers ++ x ∷ []) (r.0 ++ r.1.0 ∷ []) last trace = subst (λ (c : List Placed). IsEnding v (layers ++ x ∷ []) c last trace) r.1.1.0 is' in
    (r.0, (r.1.0, one_ends v layers x r.0 r.1.0 last trace now result is'' r.1.1.1.0 r.1.1.1.1 ends))

-- ---- the files, one after another

-- no file is left
none_left : (v : State) (firsts last : List Placed) (trace : Trace) → IsEnding v [] firsts last trace → EndsOn v trace trace (Ok tt)
none_left v [] last trace is = (
  EachMoment-now (EachOpens v.leaf (dirty_now v) (disk_now v)) trace (opens_now (sector_of v) v.opening v.history v.leaf (dirty_now v) v.retired v.top v.rest trace is.once is.served is.loose),
  record {
    once = is.once;
    served = is.served;
    loose = is.loose;
    files = refl;
    have = tt;
    tight = tt;
    written = tt;
    ended = subst (AllByRecursion (HasEndedFile v.writes trace)) (sym is.files) is.ended;
    still = is.still;
    past = is.past;
  },
)
none_left v (f ∷ firsts) last trace is = absurd is.have

pub none_left_told : (items : List FileLayer) (disk : Disk) → items ≡ [] → EndsOnTold items disk disk (Ok tt)
none_left_told items disk none =
    subst (λ (c : List FileLayer). EndsOnTold c disk disk (Ok tt)) (sym none)
    (same_told (λ trace now. (v : State) (first last : List Placed) → IsEnding v [] first last trace → EndsOn v trace now (Ok tt)) disk.told (λ t v first last is. none_left v first last t is))

-- the last one's end failed
pub failed_told : (layers : List FileLayer) (x : FileLayer) (items : List FileLayer) (fault : StoreFault) (old new : Disk) → items ≡ layers ++ x ∷ [] → WhereBothTold (FileKeepsOver x) old.told new.told → (log_number x ≡ None → new ≡ old)
    → EndsOnTold items old new (Err fault)
failed_told layers x items fault old new split keeps reads =
    both_map (EndsFile x (Err fault)) (λ trace now. (v : State) (first last : List Placed) → IsEnding v items first last trace → EndsOn v trace now (Err fault)) old.told new.told
    (file_ends x (Err fault) old.told new.told keeps tt (λ none. ap (λ (d : Disk). d.told) (reads none)))
    (λ t u ends v first last is. (last_ends v layers x items first last t u (Err fault) split is ends).1.1)

then_on : (v : State) (trace mid now : Trace) (result : Result (Unit {0}) StoreFault) → EachOpensNow v trace mid → EndsOn v mid now result → EndsOn v trace now result
then_on v trace mid now (Ok done) moments on = (EachMoment-join (EachOpens v.leaf (dirty_now v) (disk_now v)) trace mid now moments on.0, on.1)
then_on v trace mid now (Err fault) moments on = record { moments = EachMoment-join (EachOpens v.leaf (dirty_now v) (disk_now v)) trace mid now moments on.moments; still = on.still; past = on.past }

-- it has ended, and then the others
pub ended_told : (layers : List FileLayer) (x : FileLayer) (items : List FileLayer) (result : Result (Unit {0}) StoreFault) (old mid new : Disk) → items ≡ layers ++ x ∷ [] → WhereBothTold (FileKeepsOver x) old.told mid.told
    → WhereBothTold (FileHasEnded x) old.told mid.told → (log_number x ≡ None → mid ≡ old) → EndsOnTold layers mid new result → EndsOnTold items old new result
ended_told layers x items result old mid new split keeps ended reads later =
    both_join (EndsFile x (Ok tt)) (λ trace now. (v : State) (first last : List Placed) → IsEnding v layers first last trace → EndsOn v trace now result)
    (λ trace now. (v : State) (first last : List Placed) → IsEnding v items first last trace → EndsOn v trace now result) old.told mid.told new.told
    (λ t u w ends on v first last is.
    let one = last_ends v layers x items first last t u (Ok tt) split is ends in
    then_on v t u w result one.1.1.0 (on v one.0 (one.1.0 ∷ last) one.1.1.1)) (file_ends x (Ok tt) old.told mid.told keeps ended (λ none. ap (λ (d : Disk). d.told) (reads none)))
    later

-- ---- the leaf's end

members_settled : (files : List Placed) → members_of (map settled files) ≡ members_of files
members_settled [] = refl
members_settled (f ∷ files) = ap (λ (c : List Member). f.member ∷ c) (members_settled files)

none_loose : (files : List Placed) (s : ℕ) → NoneLoose s (map settled files)
none_loose [] s = tt
none_loose (f ∷ files) s = (refl, none_loose files s)

all_kept : (writes : ℕ → Bool) (trace : Trace) (files : List Placed) → AllByRecursion (HasEndedFile writes trace) files → AllByRecursion (IsKept trace) (map settled files)
all_kept writes trace [] all = tt
all_kept writes trace (f ∷ files) all = (all.0.kept, all_kept writes trace files all.1)

kept_with : (trace : Trace) (retired files other : List Placed) → AllByRecursion (IsKept trace) (retired ++ files) → AllByRecursion (IsKept trace) other → AllByRecursion (IsKept trace) (retired ++ other)
kept_with trace [] files other all kept = kept
kept_with trace (p ∷ retired) files other all kept = (all.0, kept_with trace retired files other all.1 kept)

-- where each file has ended each image opens to the whole disk
all_ended : (v : State) (now : Trace) → IsNamedOnce now → IsServed (sector_of v) v.opening v.history v.leaf v.retired (files_of v) now → AllByRecursion (HasEndedFile v.writes now) (files_of v) → EachOpens v.leaf (λ s. false) (disk_now v) now
all_ended v now once served ended =
    let same = members_settled (files_of v) in
    served_chains_open.settled (sector_of v) v.opening v.history v.leaf (λ s. false) v.retired (map settled (files_of v)) now once
    (record {
      linked = subst (λ c. IsChainOf v.leaf.name (members_of v.retired) c) (sym same) served.linked;
      by = subst (IsBy v.leaf) (sym same) served.by;
      kept = kept_with now v.retired (files_of v) (map settled (files_of v)) served.kept (all_kept v.writes now (files_of v) ended);
      disk = ap disk_of same ∙ served.disk;
    }) ((λ s clean. refl), none_loose (others_of v.rest))

-- and nothing of any is unsynced: those that it couldn't change are as they were then
all_synced : (writes : ℕ → Bool) (since now : Trace) → ((other : ℕ) → writes other ≡ false → file_of now other ≡ file_of since other) → (files : List Placed) → AllByRecursion (WasSynced writes since) files
    → AllByRecursion (HasEndedFile writes now) files → AllByRecursion (λ f. is_synced (file_of now f.number) ≡ true) files
all_synced writes since now still [] synced ended = tt
all_synced writes since now still (f ∷ files) synced ended = (by_writes (writes f.number) refl, all_synced writes since now still files synced.1 ended.1)
  where
    by_writes : (b : Bool) → writes f.number ≡ b → is_synced (file_of now f.number) ≡ true
    by_writes true is = ended.0.synced is
    by_writes false is = ap is_synced (still f.number is) ∙ synced.0 is

-- and none that it could change names a log
all_unnamed : (writes : ℕ → Bool) (now : Trace) (files : List Placed) → AllByRecursion (HasEndedFile writes now) files → AllByRecursion (λ f. writes f.number ≡ true → NamesNoLog (seen (file_of now f.number))) files
all_unnamed writes now [] ended = tt
all_unnamed writes now (f ∷ files) ended = (ended.0.no_log, all_unnamed writes now files ended.1)

-- what the leaf's layer tells of its end
record EndsLeaf (leaf : Layer) (result : Result (Unit {0}) StoreFault) (trace now : Trace) : Type 0 where
  pub moments : KeepsOver leaf trace now
  pub ended : OnOk result (HasEndedLeaf leaf trace now)

leaf_ends : (leaf : Layer) (result : Result (Unit {0}) StoreFault) (a b : Option Trace) → WhereBothTold (KeepsOver leaf) a b → OnOk result (WhereBothTold (HasEndedLeaf leaf) a b) → WhereBothTold (EndsLeaf leaf result) a b
leaf_ends leaf result None None moments ended = tt
leaf_ends leaf result None (Some y) moments ended = moments
leaf_ends leaf result (Some x) None moments ended = moments
leaf_ends leaf (Ok t) (Some x) (Some y) moments ended = record { moments = moments; ended = ended }
leaf_ends leaf (Err f) (Some x) (Some y) moments ended = record { moments = moments; ended = tt }

module _ (v : State) (leaf : Layer) (trace mid now : Trace) (moments : EachOpensNow v trace mid) (is : IsEnding v [] [] (others_of v.rest) mid) (own : v.writes v.top.number ≡ true) (serves : Serves leaf mid v.top) (keeps : KeepsOver leaf mid now) where
  abbrev top_phase : IsPhase v.top.number (ShowsFile v.top) mid now
  top_phase = keeps.over v.top serves

  abbrev top_stays : EachOpensNow v mid now × IsServed (sector_of v) v.opening v.history v.leaf v.retired (files_of v) now
  top_stays = file_stays (sector_of v) v.opening v.history v.leaf (dirty_now v) v.retired v.top v.rest [] v.top (others_of v.rest) mid now refl is.once is.served is.loose top_phase

  top_still : (other : ℕ) → v.writes other ≡ false → file_of now other ≡ file_of v.since other
  top_still other none = phase_others v.top.number (ShowsFile v.top) mid now top_phase other (λ same. let never : true ≡ false = sym own ∙ ap v.writes (sym same) ∙ none in true_false never) ∙ is.still other none

  chain_ends : HasEnded v trace now
  chain_ends = record {
    moments = EachMoment-join (EachOpens v.leaf (dirty_now v) (disk_now v)) trace mid now moments top_stays.0;
    still = top_still;
    past = past_goes_on.quiet (sector_of v) v.opening v.history (λ s. false) v.leaf v.began mid now is.past top_stays.0;
  }

  others_ended : (files : List Placed) → AllByRecursion (λ p. p.number ≢ v.top.number) files → AllByRecursion (HasEndedFile v.writes mid) files → AllByRecursion (HasEndedFile v.writes now) files
  others_ended [] ne ended = tt
  others_ended (p ∷ files) ne ended = (
    record {
      kept = phases_show.rest v.top v.top mid now (settled p) (goes_over v.top v.top mid now refl refl top_phase) ne.0 ended.0.kept;
      synced = λ writes. ap is_synced (phase_others v.top.number (ShowsFile v.top) mid now top_phase p.number ne.0) ∙ ended.0.synced writes;
      no_log = λ writes. subst (λ (x : File). NamesNoLog (seen x)) (sym (phase_others v.top.number (ShowsFile v.top) mid now top_phase p.number ne.0)) (ended.0.no_log writes);
    },
    others_ended files ne.1 ended.1,
  )

  chain_ended : AllByRecursion (WasSynced v.writes v.since) (files_of v) → HasEndedLeaf leaf mid now → HasEndedWhole true v trace now
  chain_ended synced done =
      let far = (apart_around mid [] v.top (others_of v.rest) (all_right (IsKept mid) v.retired (files_of v) is.served.kept) (names_behind v.retired (files_of v) is.served.linked.once)).1 in
      let all : AllByRecursion (HasEndedFile v.writes now) (files_of v) = (record { kept = done.kept v.top serves; synced = λ writes. done.synced v.top serves; no_log = λ writes. done.no_log v.top serves }, others_ended (others_of v.rest) far is.ended) in
      record {
        ended = chain_ends;
        all = all_ended v now (still_once v.top.number (ShowsFile v.top) mid now top_phase is.once) top_stays.1 all;
        links = served_links (sector_of v) v.opening v.history v.leaf v.retired (files_of v) now (still_once v.top.number (ShowsFile v.top) mid now top_phase is.once) top_stays.1;
        synced = λ session. all_synced v.writes v.since now top_still (files_of v) synced all;
        no_log = λ session. all_unnamed v.writes now (files_of v) all;
      }

-- ---- a session's end

module _ (layers : Layers) (leaf : Layer) (leaf_is : layers.leaf ≡ Some leaf) where
  held_parts : (v : State) (trace : Trace) → IsServing layers v trace → Serves leaf trace v.top × HaveFiles layers.below.items trace (others_of v.rest)
  held_parts v trace serving = subst (λ o. AreHeld o layers.below.items trace v.top (others_of v.rest)) leaf_is serving.held

  written_parts : (v : State) (trace : Trace) → IsServing layers v trace → (v.writes v.top.number ≡ true) × AreWritten v.writes layers.below.items
  written_parts v trace serving = subst (λ o. IfSome o (λ leaf. (v.writes v.top.number ≡ true) × AreWritten v.writes layers.below.items)) leaf_is serving.written

  begins_end : (v : State) (trace : Trace) → IsServing layers v trace → IsEnding v layers.below.items (others_of v.rest) [] trace
  begins_end v trace serving = record {
    once = serving.once;
    served = serving.served;
    loose = serving.loose;
    files = sym (append-nil (others_of v.rest));
    have = (held_parts v trace serving).1;
    tight = tight_others (sector_of v) v.writes (dirty_now v) v.history layers layers.merge layers.retiring v.top v.rest serving.course serving.leaving serving.loose;
    written = (written_parts v trace serving).1;
    ended = tt;
    still = serving.still;
    past = serving.past;
  }

  -- a file below the leaf failed to end
  pub below_failed : (fault : StoreFault) (old mid : Disk) → EndsOnTold layers.below.items old mid (Err fault) → EndsTold layers old mid (Err fault)
  below_failed fault old mid told =
      both_map (λ trace now. (v : State) (first last : List Placed) → IsEnding v layers.below.items first last trace → EndsOn v trace now (Err fault))
      (λ trace now. (v : State) → IsServing layers v trace → HasClosed (is_some layers.leaf) v trace now (Err fault)) old.told mid.told told
      (λ t u on v serving. on v (others_of v.rest) [] (begins_end v t serving))

  closes : (v : State) (trace mid now : Trace) (result : Result (Unit {0}) StoreFault) → IsServing layers v trace → EndsOn v trace mid (Ok tt) → IsBeside (own_file leaf) trace mid → EndsLeaf leaf result mid now → HasClosed true v trace now result
  closes v trace mid now result serving on beside ends =
      let held = (held_parts v trace serving).0 in
      let serves : Serves leaf mid v.top = layers_stand.beside leaf trace mid v.top held (subst (λ n. IsBeside n trace mid) (sym held.number) beside) in
      by_result serves result ends
    where
      by_result : Serves leaf mid v.top → (r : Result (Unit {0}) StoreFault) → EndsLeaf leaf r mid now → HasClosed true v trace now r
      by_result serves (Ok done) ends = chain_ended v leaf trace mid now on.0 on.1 (written_parts v trace serving).0 serves ends.moments serving.synced ends.ended
      by_result serves (Err fault) ends = chain_ends v leaf trace mid now on.0 on.1 (written_parts v trace serving).0 serves ends.moments

  record Between (trace mid : Trace) : Type 0 where
    pub on : (v : State) (first last : List Placed) → IsEnding v layers.below.items first last trace → EndsOn v trace mid (Ok tt)
    pub beside : IsBeside (own_file leaf) trace mid

  between : (a b : Option Trace) → WhereBothTold (λ trace now. (v : State) (first last : List Placed) → IsEnding v layers.below.items first last trace → EndsOn v trace now (Ok tt)) a b → WhereBothTold (IsBeside (own_file leaf)) a b → WhereBothTold Between a b
  between None None on beside = tt
  between None (Some u) on beside = on
  between (Some t) None on beside = on
  between (Some t) (Some u) on beside = record { on = on; beside = beside }

  -- they ended, and then the leaf
  pub ends_told : (result : Result (Unit {0}) StoreFault) (old mid new : Disk) → EndsOnTold layers.below.items old mid (Ok tt) → WhereBothTold (IsBeside (own_file leaf)) old.told mid.told
      → WhereBothTold (KeepsOver leaf) mid.told new.told → OnOk result (WhereBothTold (HasEndedLeaf leaf) mid.told new.told) → EndsTold layers old new result
  ends_told result old mid new on beside keeps ended =
      subst (λ o. WhereBothTold (λ trace now. (v : State) → IsServing layers v trace → HasClosed (is_some o) v trace now result) old.told new.told) (sym leaf_is)
      (both_join Between (EndsLeaf leaf result) (λ trace now. (v : State) → IsServing layers v trace → HasClosed true v trace now result) old.told mid.told new.told (λ t u w both ends v serving. closes v t u w result serving (both.on v (others_of v.rest) [] (begins_end v t serving)) both.beside ends)
      (between old.told mid.told on beside)
      (leaf_ends leaf result mid.told new.told keeps ended))

-- ---- the fault

-- a change failed behind others that were done
pub failed_later : (P Q : ℕ → Type 0) (old mid new : Disk) (result : Result (Unit {0}) StoreFault) → ((n : ℕ) → P n → Q n) → mid ≡ record old { told = mid.told } → IfErr result (SomeChangeFailed P mid new) → IfErr result (SomeChangeFailed Q old new)
failed_later P Q old mid new (Ok done) more counts failed = tt
failed_later P Q old mid new (Err fault) more counts failed = record {
  such = more fault.file failed.such;
  within = subst (λ n. fault.file < n) (ap (λ (d : Disk). d.files) counts) failed.within;
  fails = record {
    stays = failed.fails.stays ∙ ap (λ (d : Disk). record d { told = new.told; failed_changes = new.failed_changes }) counts;
    of_file = failed.fails.of_file;
    count = subst (λ (d : Disk). RoseAt fault.file fault.count d.failed_changes new.failed_changes) counts failed.fails.count;
  };
}

in_last : (layers : List FileLayer) (x : FileLayer) (n : ℕ) → HasSession x → number_of x ≡ n → IsInSession (layers ++ x ∷ []) n
in_last [] x n session is = inl (session, is)
in_last (l ∷ layers) x n session is = inr (in_last layers x n session is)

in_rest : (layers : List FileLayer) (x : FileLayer) (n : ℕ) → IsInSession layers n → IsInSession (layers ++ x ∷ []) n
in_rest [] x n has = absurd has
in_rest (l ∷ layers) x n (inl here) = inl here
in_rest (l ∷ layers) x n (inr there) = inr (in_rest layers x n there)

pub in_more : (layers : List FileLayer) (x : FileLayer) (items : List FileLayer) → items ≡ layers ++ x ∷ [] → (n : ℕ) → IsInSession layers n → IsInSession items n
in_more layers x items split n has = subst (λ c. IsInSession c n) (sym split) (in_rest layers x n has)

file_there : (x : FileLayer) (disk : Disk) → FileIsReady x disk → number_of x < disk.files
file_there (Session l) disk ready = ready.readable.there
file_there (Read l) disk ready = ready.there

has_session : (x : FileLayer) → (log_number x ≡ None → ⊥) → HasSession x
has_session (Session l) some = refl
has_session (Read l) some = absurd (some refl)

pub err_not_ok : (result : Result (Unit {0}) StoreFault) (fault : StoreFault) → result ≡ Err fault → result ≡ Ok tt → ⊥
err_not_ok result fault failed done = let never : ◌≡◌ {A = Result (Unit {0}) StoreFault} (Err fault) (Ok tt) = sym failed ∙ done in absurd (err_ok never)

-- the change of one of them failed
pub failed_here : (layers : List FileLayer) (x : FileLayer) (items : List FileLayer) (fault : StoreFault) (old new : Disk) → items ≡ layers ++ x ∷ [] → FileIsReady x old → (log_number x ≡ None → ⊥) → FailsToChange (number_of x) old new fault
    → SomeChangeFailed (IsInSession items) old new fault
failed_here layers x items fault old new split ready some fails = record {
  such = subst (λ c. IsInSession c fault.file) (sym split) (in_last layers x fault.file (has_session x some) (sym fails.of_file));
  within = subst (λ n. n < old.files) (sym fails.of_file) (file_there x old ready);
  fails = subst (λ n. FailsToChange n old new fault) (sym fails.of_file) fails;
}

-- ---- what a session's end asks

numbered : (x : Option ℕ) → IfSome x (λ n. n ≤ 2 ^ 63 + 4) → IfSome x (λ n. n ≤ 2 ^ 64 - 2 ^ 32)
numbered None low = tt
numbered (Some n) low = omega (arith, low)

all_numbered : (layers : List FileLayer) → AllByRecursion (λ number. IfSome number (λ n. n ≤ 2 ^ 63 + 4)) (map log_number layers) → AreNumbered layers
all_numbered [] low = tt
all_numbered (l ∷ layers) low = (numbered (log_number l) low.0, all_numbered layers low.1)

pub below_numbered : (layers : Layers) → IsLow (2 ^ 63 + 4) layers → AreNumbered layers.below.items
below_numbered layers low = all_numbered layers.below.items low.1

module _ (layers : Layers) (leaf : Layer) (old : Disk) (leaf_is : layers.leaf ≡ Some leaf) (ready : AreReady layers old) where
  -- none of the other files is the leaf
  pub leaf_apart : AreOthers (own_file leaf) layers.below.items
  leaf_apart = (leaf_of layers leaf old leaf_is ready).apart

  -- which can be written still once they are ended
  pub leaf_ready : (mid : Disk) → mid.files ≡ old.files → WhereBothTold (IsBeside (own_file leaf)) old.told mid.told → IsReady leaf mid
  leaf_ready mid files beside = layers_stand.ready leaf old mid (leaf_of layers leaf old leaf_is ready).ready files beside
