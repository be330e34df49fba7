-- The data of a file that a layer serves get another identifier.
use Rattle.std.specs.Prelude.{ℕ, List}
use Rattle.store_model.specs.Trace.{Trace}
use Rattle.chain_model.specs.Images.{Placed}
use Rattle.chain_model.specs.Sessions.{GoesOver}
use Rattle.layer_session.specs.declared.file.Layer.{Layer}
use Rattle.layer_session.specs.declared.file_layer.FileLayer.{FileLayer}
use Rattle.layer_session.specs.FileLayers.{HasFile}
use Rattle.layer_session.specs.Keeping.{Serves}

-- the file by this identifier of its data; all else of it is as before, and what is loose
abbrev pub identified : List ℕ → Placed → Placed
identified id file = record file { member = record (file.member) { ties = record (file.member.ties) { id = id } } }

-- At each moment from old to new each image of the file shows it by the identifier that it had, or by this one.
pub record IdentifiesOver (l : Layer) (id : List ℕ) (old new : Trace) : Type 0 where
  pub over : (file : Placed) → Serves l old file → GoesOver file (identified id file) old new

-- And then the layer serves it by this one.
pub record HasIdentified (old_l new_l : Layer) (id : List ℕ) (old new : Trace) : Type 0 where
  pub serves : (file : Placed) → Serves old_l old file → Serves new_l new (identified id file)

-- ---- of a file's layer

-- The same of a file's layer that is in a session.
pub record FileIdentifiesOver (l : FileLayer) (id : List ℕ) (old new : Trace) : Type 0 where
  pub over : (file : Placed) → HasFile l old file → GoesOver file (identified id file) old new

pub record FileHasIdentified (old_l new_l : FileLayer) (id : List ℕ) (old new : Trace) : Type 0 where
  pub has : (file : Placed) → HasFile old_l old file → HasFile new_l new (identified id file)
