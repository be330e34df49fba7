-- What a run does, by what the words ask for; and, at the end, all that is promised of one (`IsRun`).
use Rattle.std.specs.Prelude.{◌≡◌, ◌⊎◌, ⊤, ℕ, Bool, true, false, List, [], Option, Some, None, codes, option_map, slice_index_or}
use Rattle.std.specs.Str.{bytes_eq}
use Rattle.command_line.specs.Requests.{Wish, check, dump, help, info, load, make, nbd, repair, serve, steps, version}
use Rattle.command_line.specs.Words.{Asks, AsksNothing, help_text, version_text}
use Rattle.link_rules.specs.Folders.{contents}
use Rattle.link_rules.specs.Touches.{IsOnWay, TouchesSafely}
use Rattle.command_base.specs.Ends.{Ends, HasMerge}
use Rattle.command_base.specs.Folders.{IsReplayedIn, OnlyFollows}
use Rattle.command_base.specs.MakeRuns.{RunsMake}
use Rattle.printing.specs.Sent.{Sent}
use Rattle.command_base.specs.Printed.{IsDumpText, IsInfoText, IsOwnText, Prints}
use Rattle.command_base.specs.Checks.{RunsCheck}
use Rattle.folder_commands.specs.Repairs.{RunsRepair}
use Rattle.serve_command.specs.Serves.{RunsServe}
use Rattle.steps_command.specs.Steps.{RunsSteps}
use Rattle.command_base.specs.Worlds.{World}
use Rattle.load_command.specs.Loads.{RunsLoad}
use Rattle.nbd_command.specs.Nbd.{RunsNbd}
use Rattle.vhdx_app.specs.declared.program.ThreadWish.{ThreadWish}
use Rattle.vhdx_app.specs.declared.program.ThreadWish.TheVariants as threads
use Rattle.printing.specs.declared.status.Status.{Status}
use Rattle.printing.specs.declared.status.Status.TheVariants.{Done, Refused, Usage, NoMemory}

-- nothing was done but that
abbrev pub OnlyPrints : World → World → Type 0
OnlyPrints before now = now ≡ record before { written = now.written; sink_faults = now.sink_faults }

-- A leaf's name is followed, and beside that nothing is done: the logs of the files on the way may be replayed, and they are where
-- no fault ended the run and memory didn't run out. `moments` says of each moment of the run what a crash may leave then.
pub record FollowsFirst (leaf : List ℕ) (before now : World) (status : Status) : Type 0 where
  pub followed : OnlyFollows leaf before.host.folder now.host.folder
  pub replayed : (status ≡ Done) ⊎ (status ≡ Refused) → IsReplayedIn leaf before.host.folder now.host.folder
  pub moments : TouchesSafely (λ folder. IsOnWay (contents folder) leaf) before.host now.host
  pub undrawn : now.drawn ≡ before.drawn
  pub unread : now.left ≡ before.left

-- what a leaf's files show is printed, or what refuses them
pub record RunsShowing (leaf : List ℕ) (is_text : Status → List ℕ → Type 0) (before now : World) (status : Status) : Type 0 where
  pub printed : Prints is_text before now status
  pub follows : FollowsFirst leaf before now status

-- a text of the program's own is printed, and nothing else is done
pub record RunsText (own : List ℕ) (before now : World) (status : Status) : Type 0 where
  pub printed : Prints (IsOwnText own) before now status
  pub stays : OnlyPrints before now

-- what a run does that is asked for this
abbrev pub Runs : Wish → World → World → Status → Type 0
Runs (dump leaf first count) before now status = RunsShowing leaf (IsDumpText before.host now.host leaf first count) before now status
Runs (info leaf) before now status = RunsShowing leaf (IsInfoText before.host now.host leaf) before now status
Runs (make name file) before now status = RunsMake name file before now status
Runs (steps leaf merge read_only) before now status = RunsSteps leaf merge read_only before now status
Runs (serve leaf workers merge) before now status = RunsServe leaf merge before now status
Runs (nbd leaf workers merge) before now status = RunsNbd leaf merge before now status
Runs (check name) before now status = RunsCheck name before now status
Runs (repair name) before now status = RunsRepair name before now status
Runs (load seed) before now status = RunsLoad seed before now status
Runs help before now status = RunsText help_text before now status
Runs version before now status = RunsText version_text before now status

-- what it does where the words ask for nothing: nothing at all, or it tells that memory ran out, by its status alone where a client is to be told
-- nothing
pub data RunsNothing (before now : World) (status : Status) : Type 0 where
  usage : status ≡ Usage → now ≡ before → RunsNothing before now status
  untold : status ≡ NoMemory → now ≡ before → RunsNothing before now status
  no_memory : OnlyPrints before now → Sent before.written now.written before.sink_faults now.sink_faults NoMemory (codes "no memory\n") status
      → RunsNothing before now status

abbrev pub IsMerging : Wish → Type 0
IsMerging (steps leaf merge read_only) = HasMerge merge
IsMerging (serve leaf workers merge) = HasMerge merge
IsMerging (nbd leaf workers merge) = HasMerge merge
IsMerging (load seed) = ⊤
IsMerging other = ⊥

abbrev pub AskMerge : List (List ℕ) → Type 0
AskMerge words = (wish : Wish) × Asks words wish × IsMerging wish

-- ---- the promise

-- All that the program promises of a run: by the words that it was given, what is outside of it `before` and `now`, when it has ended, and
-- the status with which it ended.
pub record IsRun (words : List (List ℕ)) (before now : World) (status : Status) : Type 0 where
  -- Where the words ask for something, the run is one of that command: what is printed under which status, and what becomes of the files,
  -- at the end and at each moment, whatever a crash leaves of them then.
  pub asked : (wish : Wish) → Asks words wish → Runs wish before now status
  -- Where they ask for nothing, nothing is done: the status says so, or it is told that memory ran out.
  pub nothing : AsksNothing words → RunsNothing before now status
  -- However it ends: a fault is answered where one was met, and only there; no file is away, and nothing of any is unsynced, but after a
  -- fault, and where memory ran out and a merge was to start.
  pub ends : Ends (AskMerge words) before now status

-- ---- want of memory for the words

-- the words begin with that of the command by which a client is served
abbrev pub begins_nbd : List (List ℕ) → Bool
begins_nbd words = bytes_eq (slice_index_or words 0 []) (codes "nbd")

-- that is told, but to such a client
abbrev pub IsWant : Bool → Option (List ℕ) → ℕ → Option (List ℕ) → ℕ → Status → Type 0
IsWant true written faults written_now faults_now status = (status ≡ NoMemory) × (written_now ≡ written) × (faults_now ≡ faults)
IsWant false written faults written_now faults_now status = Sent written written_now faults faults_now NoMemory (codes "no memory\n") status

abbrev pub WantsWords : List (List ℕ) → Option (List ℕ) → ℕ → Option (List ℕ) → ℕ → Status → Type 0
WantsWords words = IsWant (begins_nbd words)

-- ---- without threads

-- the wish, if it is for threads
abbrev pub serving : Option Wish → Option Wish
serving (Some (serve leaf workers merge)) = Some (serve leaf workers merge)
serving (Some (nbd leaf workers merge)) = Some (nbd leaf workers merge)
serving (Some (load seed)) = Some (load seed)
serving other = None

-- the same of the code's value
abbrev pub wish_of : ThreadWish → Wish
wish_of (threads.Serve g) = serve g.leaf.now g.workers (option_map (λ s. s.now) g.merge)
wish_of (threads.Nbd g) = nbd g.leaf.now g.workers (option_map (λ s. s.now) g.merge)
wish_of (threads.Load seed) = load seed

-- what starts threads
abbrev pub StartsThreads : Wish → Type 0
StartsThreads (serve leaf workers merge) = ⊤
StartsThreads (nbd leaf workers merge) = ⊤
StartsThreads (load seed) = ⊤
StartsThreads other = ⊥

-- no thread is asked for
abbrev pub StartsNoThread : List (List ℕ) → Type 0
StartsNoThread words = (wish : Wish) → Asks words wish → StartsThreads wish → ⊥

-- A run without threads is one of the command that the words ask for, if it starts none; and if it does, nothing is done: the status says so, or
-- it is told that memory ran out.
pub record IsRunAlone (words : List (List ℕ)) (before now : World) (status : Status) : Type 0 where
  pub alone : StartsNoThread words → IsRun words before now status
  pub other : (wish : Wish) → Asks words wish → StartsThreads wish → RunsNothing before now status
