-- The commands of which a load is made up: files are made, each the child of the one before, and written; then guests call on the last one's disk,
-- while the third is merged (profile).
use Rattle.std.specs.Prelude.{◌≡◌, ℕ, zero, suc, List, [], ◌∷◌, codes, Option, Some, None, IfSome}
use Rattle.make_file.specs.Makes.{Outside}
use Rattle.command_line.specs.Requests.{File as NewFile}
use Rattle.command_line.specs.Requests as new
use Rattle.load_calls.specs.Load.{load_lines, preparing_lines}
use Rattle.serve_session.specs.declared.tally.Tally.{Tally}
use Rattle.command_base.specs.Ends.{Ends}
use Rattle.command_base.specs.MakeRuns.{RunsMake}
use Rattle.command_base.specs.Worlds.{World}
use Rattle.serve_command.specs.Guests.{TellsAlike}
use Rattle.serve_command.specs.Serves.{ServesLines}
use Rattle.printing.specs.declared.status.Status.{Status}
use Rattle.printing.specs.declared.status.Status.TheVariants.{Done}
use Rattle.load_command.specs.declared.commands.Command.{Command}
use Rattle.load_command.specs.declared.commands.Command.TheVariants.{Make, Write, Run}

-- the files of a load, by their numbers
abbrev pub load_name : ℕ → List ℕ
load_name zero = codes "load0.vhdx"
load_name (suc zero) = codes "load1.vhdx"
load_name (suc (suc zero)) = codes "load2.vhdx"
load_name (suc (suc (suc zero))) = codes "load3.vhdx"
load_name (suc (suc (suc (suc other)))) = codes "load4.vhdx"

-- the first one has a disk of 131,072 sectors in blocks of 32 MB; each other one is a child of the one before, with blocks of 2 MB
abbrev pub load_file : ℕ → NewFile
load_file zero = new.dynamic 131072 32
load_file (suc file) = new.child (load_name file) 2

-- What such a command does is what the program's own one does that makes this file, or that runs the script of these lines, the calls of guest 1
-- that write to a file, or those of the load's guests with three workers: each of them says what became of the folder, and what is printed.
abbrev pub RunsOne : ℕ → Command → World → World → Status → Option Tally → Type 0
RunsOne seed (Make file) before now status heard = RunsMake (load_name file) (load_file file) before now status × (heard ≡ None)
RunsOne seed (Write file) before now status heard = ServesLines (load_name file) None (preparing_lines seed file) before now status heard
RunsOne seed Run before now status heard = ServesLines (load_name 4) (Some (load_name 2)) (load_lines seed) before now status heard

-- what is outside of a command whose text goes nowhere
abbrev pub unheard : Outside → World
unheard o = record { host = o.host; drawn = o.drawn; left = None; source_faults = 0; written = None; sink_faults = 0 }

-- It was done, and no call of it was refused; the host tells its folder where it told it before.
pub record HasDone (seed : ℕ) (command : Command) (before now : Outside) (heard : Option Tally) : Type 0 where
  pub runs : RunsOne seed command (unheard before) (unheard now) Done heard
  pub taken : IfSome heard (λ tally. tally.refused ≡ None)
  pub tells : TellsAlike before.host.folder now.host.folder
  pub ends : Ends (Unit {0}) (unheard before) (unheard now) Done

-- so it is of commands one after the other; what the last of them heard is told
abbrev pub HaveDone : ℕ → List Command → Outside → Option Tally → Outside → Option Tally → Type 0
HaveDone seed [] before first now last = (now ≡ before) × (last ≡ first)
HaveDone seed (command ∷ commands) before first now last =
    (mid : Outside) × (heard : Option Tally) × HasDone seed command before mid heard × HaveDone seed commands mid heard now last

-- the commands of a load
abbrev pub load_commands : List Command
load_commands = Make 0 ∷ Write 0 ∷ Make 1 ∷ Write 1 ∷ Make 2 ∷ Write 2 ∷ Make 3 ∷ Write 3 ∷ Make 4 ∷ Run ∷ []
