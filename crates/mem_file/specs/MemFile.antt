-- A file in memory as a store tells it, with its name and its counts.
use Rattle.std.specs.Prelude.{ℕ, List}
use Rattle.store_model.specs.File.{File}
use Rattle.mem_file.specs.Steps.{ops_done}
use Rattle.mem_file.specs.declared.file.MemFile.{MemFile}

pub record Contents : Type 0 where
  pub name : List ℕ
  pub file : File
  pub failed_reads : ℕ
  pub failed_changes : ℕ

abbrev pub contents : MemFile → Contents
contents f = record {
  name = f.name;
  file = record { attached = f.attached.items; ops = ops_done f.steps.items };
  failed_reads = f.failed_reads;
  failed_changes = f.failed_changes;
}

-- the same, with another history
abbrev pub with_file : (File → File) → Contents → Contents
with_file change c = record c { file = change c.file }
