-- What `load` does (profile).
use Rattle.std.specs.Prelude.{◌≡◌, ◌≢◌, ◌⊎◌, ℕ, List, [], ◌∷◌, ◌++◌, codes, Option, Some, None}
use Rattle.store_model.specs.Disk.{WhereTold}
use Rattle.store_model.specs.Folder.{Held}
use Rattle.guest_model.specs.History.{replay}
use Rattle.guest_model.specs.declared.refusal.ChainRefusal.{ChainRefusal}
use Rattle.chain_model.specs.Files.{OpensTo}
use Rattle.link_rules.specs.Folders.{contents}
use Rattle.link_rules.specs.Touches.{IsOnWay, TouchesSafely}
use Rattle.make_file.specs.Makes.{Outside}
use Rattle.load_calls.specs.Load.{load_lines, one_thread, prepared_disk, sector_size}
use Rattle.load_calls.specs.Printed.{AreCounted, lines_text, load_text}
use Rattle.load_calls.specs.declared.text.Counts.{Counts}
use Rattle.serve_session.specs.declared.tally.Tally.{Tally}
use Rattle.command_base.specs.Folders.{LeadsTo, OnlyFollows, files_of}
use Rattle.command_base.specs.MakeRuns.{outside_of}
use Rattle.command_base.specs.Printed.{IsText, Prints, RefusesLeaf, ShowsFault}
use Rattle.command_base.specs.Refusals.{OfCall, refusal_line}
use Rattle.command_base.specs.Worlds.{World}
use Rattle.printing.specs.Sent.{Sent}
use Rattle.printing.specs.declared.status.Status.{Status}
use Rattle.printing.specs.declared.status.Status.TheVariants.{Done, Refused, NoMemory}
use Rattle.load_command.specs.Commands.{HaveDone, RunsOne, load_commands, load_name, unheard}
use Rattle.load_command.specs.declared.commands.Command.{Command}

-- ---- a load that stops

-- A command of it that isn't done prints what it prints by itself, or a call of it was refused.
pub data Stops (seed : ℕ) (command : Command) (before now : Outside) (sunk after : Option (List ℕ)) (old new : ℕ) (status : Status) : Type 0 where
  by_itself : (heard : Option Tally) → RunsOne seed command (record (unheard before) { written = sunk; sink_faults = old }) (record (unheard now) { written = after; sink_faults = new }) status heard → status ≢ Done
      → Stops seed command before now sunk after old new status
  by_a_call : (tally : Tally) (refusal : ChainRefusal) → RunsOne seed command (unheard before) (unheard now) Done (Some tally) → tally.refused ≡ Some refusal
      → Sent sunk after old new Refused (refusal_line (OfCall refusal)) status ⊎ Sent sunk after old new NoMemory (codes "no memory\n") status → Stops seed command before now sunk after old new status

-- The commands before it were done.
pub record StopsAt (seed : ℕ) (before now : World) (status : Status) : Type 0 where
  pub done : List Command
  pub command : Command
  pub left : List Command
  pub split : load_commands ≡ done ++ command ∷ left
  pub mid : Outside
  pub last : Option Tally
  pub have_done : HaveDone seed done (outside_of before) None mid last
  pub stops : Stops seed command mid (outside_of now) before.written now.written before.sink_faults now.sink_faults status

-- ---- one that doesn't

-- The last file's name leads to the chain without the third one, and is opened to the disk that the writes to the files and then the guests' calls
-- leave, guest after guest.
pub record IsLoaded (seed : ℕ) (folder : List Held) : Type 0 where
  pub leads : LeadsTo (files_of folder) (load_name 4) (load_name 4 ∷ load_name 3 ∷ load_name 1 ∷ load_name 0 ∷ [])
  pub opens : OpensTo (files_of folder) (load_name 4) (replay sector_size (prepared_disk seed) (one_thread seed))

-- The three lines: how many calls there were, and of each kind; the sum of the disk that the last file's name is opened to; and what the guests'
-- reads saw. Where the folder is told they are those of the calls guest after guest, on one thread, and the load's files are so.
pub record ShowsLoad (seed : ℕ) (before mid : Option (List Held)) (tally : Tally) (text : List ℕ) : Type 0 where
  pub counts : Counts
  pub counted : AreCounted (load_lines seed) counts
  pub sum : ℕ
  pub text_is : text ≡ lines_text counts.calls counts.writes counts.trims counts.reads counts.flushes sum tally.seen
  pub exactly : WhereTold before (λ folder. text ≡ load_text seed)
  pub loaded : WhereTold before (λ folder. WhereTold mid (IsLoaded seed))

-- All commands were done; then the sectors of the last file's disk are read, as by dumps of it, and the lines are printed; or why they aren't read.
pub record Sums (seed : ℕ) (before now : World) (status : Status) : Type 0 where
  pub mid : Outside
  pub tally : Tally
  pub have_done : HaveDone seed load_commands (outside_of before) None mid (Some tally)
  pub printed : Prints (IsText (ShowsLoad seed before.host.folder mid.host.folder tally) (RefusesLeaf mid.host.folder (load_name 4)) (ShowsFault mid.host now.host)) before now status
  pub followed : OnlyFollows (load_name 4) mid.host.folder now.host.folder
  pub moments : TouchesSafely (λ folder. IsOnWay (contents folder) (load_name 4)) mid.host now.host
  pub undrawn : now.drawn ≡ mid.drawn

pub data RunsLoad (seed : ℕ) (before now : World) (status : Status) : Type 0 where
  stopped : StopsAt seed before now status → now.left ≡ before.left → RunsLoad seed before now status
  summed : Sums seed before now status → now.left ≡ before.left → RunsLoad seed before now status
