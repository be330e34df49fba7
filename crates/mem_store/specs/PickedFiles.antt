-- The images that a pick gives of a store's files, and of a host's.
use Rattle.std.specs.Prelude.{◌≡◌, ℕ, ◌+◌, true, Option, None, Some, All, is_some, List, [], ◌∷◌, map}
use Rattle.store_model.specs.File.{File}
use Rattle.store_model.specs.Folder.{Held, Hosted, fresh}
use Rattle.store_model.specs.Trace.{NamedBytes, Change, Trace, ops_of}
use Rattle.mem_file.specs.Picked.{picked}
use Rattle.mem_file.specs.declared.replay.Pick.{Pick}

-- of files from the i-th on
abbrev pub picked_from : Pick → ℕ → List NamedBytes → List Change → List NamedBytes
picked_from pick i [] changes = []
picked_from pick i (f ∷ files) changes = record { name = f.name; bytes = picked pick f.bytes (ops_of i changes) } ∷ picked_from pick (i + 1) files changes

-- of all files of a store
abbrev pub picked_image : Pick → Trace → List NamedBytes
picked_image pick trace = picked_from pick 0 trace.attached trace.changes

-- a host of these files, of which nothing was done yet
abbrev pub held_fresh : NamedBytes → Held
held_fresh f = record { name = f.name; file = Some (fresh f.bytes) }

abbrev pub host_of : List NamedBytes → Hosted
host_of files = record { folder = Some (map held_fresh files); past = None; faults = 0 }

-- of a host's files, with those that are away empty
abbrev pub picked_file : Pick → Option File → List ℕ
picked_file pick None = []
picked_file pick (Some file) = picked pick file.attached file.ops

abbrev pub picked_held : Pick → Held → NamedBytes
picked_held pick held = record { name = held.name; bytes = picked_file pick held.file }

abbrev pub picked_folder : Pick → List Held → List NamedBytes
picked_folder pick folder = map (picked_held pick) folder

-- no file is away
abbrev pub AreHome : List Held → Type 0
AreHome folder = All (λ held. is_some held.file ≡ true) folder
