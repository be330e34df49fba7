-- What a run does that makes a file.
use Rattle.std.specs.Prelude.{◌≡◌, ◌≢◌, ℕ, List}
use Rattle.command_line.specs.Requests.{File as NewFile}
use Rattle.make_file.specs.Makes.{Outside, outside}
use Rattle.command_base.specs.Making.{AddsOnly, LooksAt, MakesSafely}
use Rattle.command_base.specs.Printed.{IsMakeText, Prints}
use Rattle.command_base.specs.Worlds.{World}
use Rattle.printing.specs.declared.status.Status.{Status}
use Rattle.printing.specs.declared.status.Status.TheVariants.{Done, Fault}

abbrev pub outside_of : World → Outside
outside_of w = outside w.host w.drawn

-- At most the one file is added, at its end or at any moment; none is where no fault ended the run and it isn't done.
pub record RunsMake (name : List ℕ) (file : NewFile) (before now : World) (status : Status) : Type 0 where
  pub printed : Prints (IsMakeText name file (outside_of before) (outside_of now)) before now status
  pub kept : status ≢ Done → status ≢ Fault → LooksAt file before.host.folder now.host.folder
  pub others : AddsOnly name file before.host.folder now.host.folder
  pub moments : MakesSafely name file before.host now.host
  pub unread : now.left ≡ before.left
