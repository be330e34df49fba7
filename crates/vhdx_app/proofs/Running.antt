-- What a run does, from what its commands do.
use Rattle.std.proofs.Common.{◌≡◌, ◌≢◌, ◌⊎◌, ℕ, Bool, true, false, List, [], Option, Some, None, refl, inl, inr, sym, ap, ap₂, subst, ◌∙◌}
use Rattle.std.specs.Prelude.{MatchOption, codes, option_map, slice_index_or}
use Rattle.std.specs.Str.{bytes_eq}
use Rattle.std.proofs.lemmas.Option.{same_Some}
use Rattle.command_line.specs.Requests.{File, Wish, plain}
use Rattle.command_line.specs.Requests as wish
use Rattle.command_line.specs.Words.{Asks, AsksNothing}
use Rattle.command_line.specs.declared.request.Request.{Request}
use Rattle.command_line.proofs.Asked.{asked_once}
use Rattle.make_file.specs.Makes.{outside}
use Rattle.store_model.specs.Cause.{Rose}
use Rattle.store_model.specs.Disk.{WhereTold}
use Rattle.store_model.specs.Folder.{Hosted}
use Rattle.command_base.specs.Commands.{Ended, MakeEnded}
use Rattle.link_rules.specs.Folders.{AllIdle, contents}
use Rattle.link_rules.specs.Touches.{IsOnWay, TouchesSafely}
use Rattle.link_rules.proofs.Safe.{none_safely}
use Rattle.command_base.specs.Folders.{IsReplayedIn, OnlyFollows}
use Rattle.printing.specs.Sent.{Sent, cut, whole}
use Rattle.command_base.specs.Ends.{Ends, HasMerge}
use Rattle.vhdx_app.specs.Runs.{AskMerge, FollowsFirst, IsMerging, IsRun, IsRunAlone, IsWant, Runs, RunsNothing, StartsNoThread, StartsThreads, WantsWords, begins_nbd, no_memory, serving, untold, usage}
use Rattle.script.specs.declared.form.ScriptKind.TheVariants as kinds
use Rattle.serve_command.specs.Serves as serves
use Rattle.load_command.specs.Commands.{load_file, load_name}
use Rattle.load_command.specs.Loads as loads
use Rattle.load_command.specs.declared.commands.Command.TheVariants.{Make}
use Rattle.nbd_command.specs.Nbd.{RunsNbd, connection}
use Rattle.nbd_command.proofs.NbdRuns.{none_runs_so}
use Rattle.steps_command.specs.Steps as steps
use Rattle.command_base.specs.Worlds.{World, world}
use Rattle.printing.specs.declared.status.Status.{Status}
use Rattle.printing.specs.declared.status.Status.TheVariants.{Done, Refused, Usage, Fault, NoMemory}
use Rattle.named_file.proofs.Touched.{still_repaired, still_safely}
use Rattle.folder_commands.proofs.Checked.{looks_none, no_memory_found}
use Rattle.command_base.proofs.Home.{StaysHome, home_added, home_followed, home_still}
use Rattle.command_base.proofs.Left.{follows_none}
use Rattle.folder_commands.proofs.Mended.{no_memory_not_refused}
use Rattle.folder_commands.proofs.Made.{adds_none, looks_still, still_making}
use Rattle.command_base.proofs.Said.{asked, asked_none, no_memory_shown}
use Rattle.steps_command.proofs.Stepped.{none_taken, unread_runs}

module _ (words : List (List ℕ)) (told : Option Request) (h : MatchOption told (AsksNothing words) (λ r. Asks words (plain r))) where
  -- the words have one wish, and it is the one that was told
  pub runs_for : (request : Request) → told ≡ Some request → (before now : World) (status : Status) → Runs (plain request) before now status → (w : Wish) → Asks words w → Runs w before now status
  runs_for request is before now status runs w asks = subst (λ w. Runs w before now status) (asked_once words (plain request) w (asked words told request is h) asks) runs

  pub some_asked : (request : Request) → told ≡ Some request → AsksNothing words → ⊥
  some_asked request is nothing = nothing (plain request) (asked words told request is h)

  pub none_asked : told ≡ None → (w : Wish) → Asks words w → ⊥
  none_asked is = asked_none words told is h

  -- how it ends where a merge may be asked for
  merge_ends_by : (wish : Wish) → Asks words wish → (before now : World) (status : Status) → Ends (IsMerging wish) before now status → Ends (AskMerge words) before now status
  merge_ends_by wish asks before now status ends = record {
    rose = ends.rose;
    quiet = ends.quiet;
    home = ends.home;
    idle = λ fault none. ends.idle fault (λ memory has. none memory (wish, asks, has));
  }

  pub merge_ends : (leaf : List ℕ) (merge : Option (List ℕ)) (read_only : Bool) (request : Request) → told ≡ Some request → plain request ≡ wish.steps leaf merge read_only → (before now : World) (status : Status) → Ends (HasMerge merge) before now status
      → Ends (AskMerge words) before now status
  merge_ends leaf merge read_only request is same before now status ends = merge_ends_by (wish.steps leaf merge read_only) (subst (Asks words) same (asked words told request is h)) before now status ends

  -- what was told is done, and nothing else is asked for
  pub told_is_run : (request : Request) → told ≡ Some request → (before now : World) (status : Status) → Runs (plain request) before now status → Ends (AskMerge words) before now status → IsRun words before now status
  told_is_run request is before now status runs ends = record {
    asked = runs_for request is before now status runs;
    nothing = λ nothing. absurd (some_asked request is nothing);
    ends = ends;
  }

  -- the same without threads, if none are asked for
  pub told_alone : (request : Request) → told ≡ Some request → (before now : World) (status : Status) → Runs (plain request) before now status → Ends (AskMerge words) before now status → (StartsThreads (plain request) → ⊥) → IsRunAlone words before now status
  told_alone request is before now status runs ends other = record {
    alone = λ none. told_is_run request is before now status runs ends;
    other = λ w asks starts. absurd (other (subst StartsThreads (sym (asked_once words (plain request) w (asked words told request is h) asks)) starts));
  }

  -- they are, and nothing is done
  pub serve_alone : (request : Request) → told ≡ Some request → StartsThreads (plain request) → (before : World) (status : Status) → status ≡ Usage → IsRunAlone words before before status
  serve_alone request is starts before status ended = record {
    alone = λ none. absurd (none (plain request) (asked words told request is h) starts);
    other = λ w asks starts. usage ended refl;
  }

  -- what is asked for where threads are, and where none are
  pub serve_asked : (w : Wish) → serving (option_map plain told) ≡ Some w → Asks words w
  serve_asked w is = go told refl is
    where
      by_wish : (v : Wish) → Asks words v → serving (Some v) ≡ Some w → Asks words w
      by_wish (wish.serve l n m) asks e = subst (Asks words) (same_Some (wish.serve l n m) w e) asks
      by_wish (wish.nbd l n m) asks e = subst (Asks words) (same_Some (wish.nbd l n m) w e) asks
      by_wish (wish.load seed) asks e = subst (Asks words) (same_Some (wish.load seed) w e) asks
      by_wish (wish.dump l first count) asks e = cc
      by_wish (wish.make name file) asks e = cc
      by_wish (wish.info l) asks e = cc
      by_wish (wish.steps l merge read_only) asks e = cc
      by_wish (wish.check name) asks e = cc
      by_wish (wish.repair name) asks e = cc
      by_wish wish.help asks e = cc
      by_wish wish.version asks e = cc

      go : (t : Option Request) → told ≡ t → serving (option_map plain t) ≡ Some w → Asks words w
      go None t e = cc
      go (Some request) t e = by_wish (plain request) (asked words told request t h) e

  pub serve_unasked : serving (option_map plain told) ≡ None → StartsNoThread words
  serve_unasked is w asks starts = go told refl is
    where
      by_wish : (v : Wish) → StartsThreads v → serving (Some v) ≡ None → ⊥
      by_wish (wish.serve l n m) starts e = cc
      by_wish (wish.nbd l n m) starts e = cc
      by_wish (wish.load seed) starts e = cc
      by_wish (wish.dump l first count) starts e = starts
      by_wish (wish.make name file) starts e = starts
      by_wish (wish.info l) starts e = starts
      by_wish (wish.steps l merge read_only) starts e = starts
      by_wish (wish.check name) starts e = starts
      by_wish (wish.repair name) starts e = starts
      by_wish wish.help starts e = starts
      by_wish wish.version starts e = starts

      go : (t : Option Request) → told ≡ t → serving (option_map plain t) ≡ None → ⊥
      go None t e = none_asked t w asks
      go (Some request) t e = by_wish (plain request) (subst StartsThreads (sym (asked_once words (plain request) w (asked words told request t h) asks)) starts) e

  -- a command that starts threads has run
  pub served_is_run : (w : Wish) → serving (option_map plain told) ≡ Some w → (before now : World) (status : Status) → Runs w before now status → Ends (IsMerging w) before now status → IsRun words before now status
  served_is_run w is before now status runs ends =
      let asks = serve_asked w is in
      record {
        asked = λ v also. subst (λ v. Runs v before now status) (asked_once words w v asks also) runs;
        nothing = λ nothing. absurd (nothing w asks);
        ends = merge_ends_by w asks before now status ends;
      }

  -- nothing was told, and nothing is done
  pub none_is_run : told ≡ None → (before : World) (status : Status) → status ≡ Usage → Ends (AskMerge words) before before status → IsRun words before before status
  none_is_run is before status ended ends = record {
    asked = λ w asks. absurd (none_asked is w asks);
    nothing = λ nothing. usage ended refl;
    ends = ends;
  }

  pub none_alone : told ≡ None → (before : World) (status : Status) → status ≡ Usage → Ends (AskMerge words) before before status → IsRunAlone words before before status
  none_alone is before status ended ends = record { alone = λ none. none_is_run is before status ended ends; other = λ w asks starts. usage ended refl }

-- ---- the commands

pub follows_first : (leaf : List ℕ) (before now : World) (status : Status) → OnlyFollows leaf before.host.folder now.host.folder → ((status ≡ Done) ⊎ (status ≡ Refused) → IsReplayedIn leaf before.host.folder now.host.folder)
    → TouchesSafely (λ f. IsOnWay (contents f) leaf) before.host now.host → now.drawn ≡ before.drawn → now.left ≡ before.left → FollowsFirst leaf before now status
follows_first leaf before now status followed replayed moments undrawn unread = record { followed = followed; replayed = replayed; moments = moments; undrawn = undrawn; unread = unread }

-- the source's count stays
not_of_source : {A B C : Type 0} → A ⊎ C → A ⊎ (B ⊎ C)
not_of_source h = elim h [ inl a ↦ inl a | inr c ↦ inr (inr c) ]

module _ (before now : World) (status : Status) (idle : WhereTold before.host.folder AllIdle) (unread : now.source_faults ≡ before.source_faults) where
  pub followed_ends : (leaf : List ℕ) (is_text : Status → List ℕ → Type 0) → Ended is_text before.host.faults now.host.faults before.written now.written before.sink_faults now.sink_faults status → OnlyFollows leaf before.host.folder now.host.folder
      → (status ≢ Fault → WhereTold before.host.folder (λ folder. WhereTold now.host.folder AllIdle)) → {merges : Type 0} → Ends merges before now status
  followed_ends leaf is_text ended followed stays_idle = record { rose = λ fault. not_of_source (ended.rose fault); quiet = λ fault. ((ended.quiet fault).0, unread, (ended.quiet fault).1); home = home_followed leaf before.host.folder now.host.folder idle followed; idle = λ fault none. stays_idle fault }

  pub made_ends : (name : List ℕ) (file : File) → MakeEnded name file (outside before.host before.drawn) (outside now.host now.drawn) before.written now.written before.sink_faults now.sink_faults status → {merges : Type 0} → Ends merges before now status
  made_ends name file ended = record { rose = λ fault. not_of_source (ended.ended.rose fault); quiet = λ fault. ((ended.ended.quiet fault).0, unread, (ended.ended.quiet fault).1); home = home_added name file before.host.folder now.host.folder idle ended.others; idle = λ fault none. ended.idle fault }

  -- of one file alone
  pub command_ends : (is_text : Status → List ℕ → Type 0) → Ended is_text before.host.faults now.host.faults before.written now.written before.sink_faults now.sink_faults status → StaysHome before.host.folder now.host.folder
      → (status ≢ Fault → WhereTold before.host.folder (λ folder. WhereTold now.host.folder AllIdle)) → {merges : Type 0} → Ends merges before now status
  command_ends is_text ended home stays_idle = record { rose = λ fault. not_of_source (ended.rose fault); quiet = λ fault. ((ended.quiet fault).0, unread, (ended.quiet fault).1); home = home; idle = λ fault none. stays_idle fault }

-- ---- where nothing is done but that a text is printed

sent_rose : (meant : Status) (before after : Option (List ℕ)) (old new : ℕ) (text : List ℕ) (status : Status) → (meant ≡ Fault → ⊥) → Sent before after old new meant text status → status ≡ Fault → Rose old new
sent_rose meant before after old new text status none (whole is sent same) fault = absurd (none (sym is ∙ fault))
sent_rose meant before after old new text status none (cut is n sent rose) fault = rose

sent_quiet : (meant : Status) (before after : Option (List ℕ)) (old new : ℕ) (text : List ℕ) (status : Status) → Sent before after old new meant text status → status ≢ Fault → new ≡ old
sent_quiet meant before after old new text status (whole is sent same) fault = same
sent_quiet meant before after old new text status (cut is n sent rose) fault = absurd (fault is)

no_memory_done : {before after : Option (List ℕ)} {old new : ℕ} {text : List ℕ} {status : Status} → Sent before after old new NoMemory text status → status ≡ Done → ⊥
no_memory_done (whole is sent same) done = let never : NoMemory ≡ Done = sym is ∙ done in cc
no_memory_done (cut is n sent rose) done = let never : Fault ≡ Done = sym is ∙ done in cc

-- words that begin with `nbd`, or don't
none_begins : (words : List (List ℕ)) → begins_nbd words ≡ false → slice_index_or words 0 [] ≡ codes "nbd" → ⊥
none_begins words other first = let never : true ≡ false = subst (λ w. bytes_eq w (codes "nbd") ≡ false) first other in cc

other_begins : (words : List (List ℕ)) (word : List ℕ) → begins_nbd words ≡ true → bytes_eq word (codes "nbd") ≡ false → slice_index_or words 0 [] ≡ word → ⊥
other_begins words word is other first = let never : true ≡ false = sym is ∙ ap (λ w. bytes_eq w (codes "nbd")) first ∙ other in cc

module _ (host : Hosted) (drawn : Option (List (List ℕ))) (left : Option (List ℕ)) (rises : ℕ) (sunk after : Option (List ℕ)) (old new : ℕ) (status : Status) (idle : WhereTold host.folder AllIdle) where
  pub sent_ends : (meant : Status) (text : List ℕ) → (meant ≡ Fault → ⊥) → Sent sunk after old new meant text status → {merges : Type 0} → Ends merges (world host drawn left rises sunk old) (world host drawn left rises after new) status
  sent_ends meant text none sent = record {
    rose = λ fault. inr (inr (sent_rose meant sunk after old new text status none sent fault));
    quiet = λ fault. (refl, refl, sent_quiet meant sunk after old new text status sent fault);
    home = home_still host.folder host.folder idle refl;
    idle = λ fault none f told. idle;
  }

  -- it is told, but where the words begin with `nbd`
  no_memory_runs : (words : List (List ℕ)) → begins_nbd words ≡ false → Sent sunk after old new NoMemory (codes "no memory\n") status → (w : Wish) → Asks words w → Runs w (world host drawn left rises sunk old) (world host drawn left rises after new) status
  no_memory_runs words other sent (wish.dump leaf first count) asks = record { printed = record { meant = NoMemory; text = codes "no memory\n"; said = refl; sent = sent }; follows = follows_first leaf _ _ status (follows_none leaf host) (λ shown. absurd (no_memory_shown _ _ _ _ _ _ sent shown)) (none_safely (λ f. IsOnWay (contents f) leaf) host) refl refl }
  no_memory_runs words other sent (wish.info leaf) asks = record { printed = record { meant = NoMemory; text = codes "no memory\n"; said = refl; sent = sent }; follows = follows_first leaf _ _ status (follows_none leaf host) (λ shown. absurd (no_memory_shown _ _ _ _ _ _ sent shown)) (none_safely (λ f. IsOnWay (contents f) leaf) host) refl refl }
  no_memory_runs words other sent (wish.make name file) asks = record { printed = record { meant = NoMemory; text = codes "no memory\n"; said = refl; sent = sent }; kept = λ done fault. looks_still file host; others = adds_none name file host; moments = still_making name file host; unread = refl }
  no_memory_runs words other sent (wish.steps leaf merge read_only) asks = steps.unread (unread_runs kinds.Steps leaf ⊥ (world host drawn left rises sunk old) (world host drawn left rises after new) status refl refl NoMemory (codes "no memory\n") sent refl (none_taken left))
  no_memory_runs words other sent (wish.serve leaf workers merge) asks = serves.unread (unread_runs kinds.Serve leaf ⊥ (world host drawn left rises sunk old) (world host drawn left rises after new) status refl refl NoMemory (codes "no memory\n") sent refl (none_taken left))
  no_memory_runs words other sent (wish.nbd leaf workers merge) asks = absurd (none_begins words other asks.command.command)
  no_memory_runs words other sent (wish.check name) asks = record {
    printed = record { meant = NoMemory; text = codes "no memory\n"; said = refl; sent = sent };
    looks = looks_none name host;
    replayed = λ shown. absurd (no_memory_found _ _ _ _ _ _ sent shown);
    moments = none_safely (λ f other. other ≡ name) host;
    undrawn = refl;
    unread = refl;
  }
  no_memory_runs words other sent (wish.repair name) asks = record {
    printed = record { meant = NoMemory; text = codes "no memory\n"; said = refl; sent = sent };
    kept = λ refused. absurd (no_memory_not_refused _ _ _ _ _ _ sent refused);
    only = still_repaired name host host refl;
    moments = still_safely name host host refl refl;
    drawn = inl refl;
    unread = refl;
  }
  no_memory_runs words other sent (wish.load seed) asks =
      loads.stopped
      (record {
        done = [];
        command = Make 0;
        left = _;
        split = refl;
        mid = outside host drawn;
        last = None;
        have_done = (refl, refl);
        stops = loads.by_itself None
            (record { printed = record { meant = NoMemory; text = codes "no memory\n"; said = refl; sent = sent }; kept = λ done fault. looks_still (load_file 0) host; others = adds_none (load_name 0) (load_file 0) host; moments = still_making (load_name 0) (load_file 0) host; unread = refl }, refl)
            (λ done. no_memory_done sent done);
      })
      refl
  no_memory_runs words other sent wish.help asks = record { printed = record { meant = NoMemory; text = codes "no memory\n"; said = refl; sent = sent }; stays = refl }
  no_memory_runs words other sent wish.version asks = record { printed = record { meant = NoMemory; text = codes "no memory\n"; said = refl; sent = sent }; stays = refl }

  -- and it is not where they do
  untold_runs : (words : List (List ℕ)) → begins_nbd words ≡ true → status ≡ NoMemory → after ≡ sunk → new ≡ old → (w : Wish) → Asks words w → Runs w (world host drawn left rises sunk old) (world host drawn left rises after new) status
  untold_runs words is meant written faults (wish.dump leaf first count) asks = absurd (other_begins words (codes "dump") is refl asks.command.command)
  untold_runs words is meant written faults (wish.info leaf) asks = absurd (other_begins words (codes "info") is refl asks.command.command)
  untold_runs words is meant written faults (wish.make name (wish.fixed sectors block)) asks = absurd (other_begins words (codes "make") is refl asks.0.command.command)
  untold_runs words is meant written faults (wish.make name (wish.dynamic sectors block)) asks = absurd (other_begins words (codes "make") is refl asks.0.command.command)
  untold_runs words is meant written faults (wish.make name (wish.child parent block)) asks = absurd (other_begins words (codes "make") is refl asks.0.command.command)
  untold_runs words is meant written faults (wish.steps leaf merge read_only) asks = absurd (other_begins words (codes "steps") is refl asks.command.command)
  untold_runs words is meant written faults (wish.serve leaf workers merge) asks = absurd (other_begins words (codes "serve") is refl asks.command.command)
  untold_runs words is meant written faults (wish.nbd leaf workers merge) asks =
      subst (RunsNbd leaf merge (world host drawn left rises sunk old) (world host drawn left rises after new)) (sym meant)
      (none_runs_so leaf merge (world host drawn left rises sunk old) (world host drawn left rises after new) idle (ap₂ (λ w f. connection left rises w f) written faults) refl refl).0
  untold_runs words is meant written faults (wish.check name) asks = absurd (other_begins words (codes "check") is refl asks.command.command)
  untold_runs words is meant written faults (wish.repair name) asks = absurd (other_begins words (codes "repair") is refl asks.command.command)
  untold_runs words is meant written faults (wish.load seed) asks = absurd (other_begins words (codes "load") is refl asks.command.command)
  untold_runs words is meant written faults wish.help asks = absurd (other_begins words (codes "--help") is refl asks)
  untold_runs words is meant written faults wish.version asks = absurd (other_begins words (codes "--version") is refl asks)

  -- memory ran out for the words
  module _ (words : List (List ℕ)) where
    abbrev before : World
    before = world host drawn left rises sunk old

    abbrev now : World
    now = world host drawn left rises after new

    untold_ends : status ≡ NoMemory → new ≡ old → {merges : Type 0} → Ends merges before now status
    untold_ends meant faults = record {
      rose = λ fault. let never : NoMemory ≡ Fault = sym meant ∙ fault in cc;
      quiet = λ fault. (refl, refl, faults);
      home = home_still host.folder host.folder idle refl;
      idle = λ fault none f told. idle;
    }

    same_now : after ≡ sunk → new ≡ old → now ≡ before
    same_now written faults = ap₂ (λ w f. world host drawn left rises w f) written faults

    wants : (b : Bool) → begins_nbd words ≡ b → IsWant b sunk old after new status → IsRun words before now status
    wants true is w = record { asked = untold_runs words is w.0 w.1 w.2; nothing = λ nothing. untold w.0 (same_now w.1 w.2); ends = untold_ends w.0 w.2 }
    wants false is sent = record { asked = no_memory_runs words is sent; nothing = λ nothing. no_memory refl sent; ends = sent_ends NoMemory (codes "no memory\n") (λ e. cc) sent }

    wants_nothing : (b : Bool) → IsWant b sunk old after new status → RunsNothing before now status
    wants_nothing true w = untold w.0 (same_now w.1 w.2)
    wants_nothing false sent = no_memory refl sent

    pub wants_is_run : WantsWords words sunk old after new status → IsRun words before now status
    wants_is_run w = wants (begins_nbd words) refl w

    pub wants_alone : WantsWords words sunk old after new status → IsRunAlone words before now status
    wants_alone w = record { alone = λ none. wants_is_run w; other = λ v asks starts. wants_nothing (begins_nbd words) w }

pub usage_ends : (host : Hosted) (drawn : Option (List (List ℕ))) (left : Option (List ℕ)) (rises : ℕ) (sunk : Option (List ℕ)) (old : ℕ) (status : Status) → WhereTold host.folder AllIdle → status ≡ Usage → {merges : Type 0} → Ends merges (world host drawn left rises sunk old) (world host drawn left rises sunk old) status
usage_ends host drawn left rises sunk old status idle is = record { rose = λ fault. let e : Usage ≡ Fault = sym is ∙ fault in cc; quiet = λ fault. (refl, refl, refl); home = home_still host.folder host.folder idle refl; idle = λ fault none f told. idle }
