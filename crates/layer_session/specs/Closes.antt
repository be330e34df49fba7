-- A session that ends, so that its file is only read.
use Rattle.std.specs.Prelude.{◌≡◌, true}
use Rattle.store_model.specs.File.{is_synced, seen}
use Rattle.store_model.specs.Trace.{Trace, file_of}
use Rattle.chain_model.specs.Images.{Placed}
use Rattle.chain_model.specs.Sessions.{IsKept}
use Rattle.layer_session.specs.Calls.{settled}
use Rattle.layer_session.specs.Keeping.{Serves}
use Rattle.layer_session.specs.ReadOnly.{IsRead}
use Rattle.layer_session.specs.Unnamed.{NamesNoLog}
use Rattle.layer_session.specs.declared.file.Layer.{Layer}
use Rattle.layer_session.specs.declared.read_layer.ReadLayer.{ReadLayer}

-- The file that the session served is read by this layer; it is synced and names no log, and nothing of it is loose.
pub record HasClosed (l : Layer) (r : ReadLayer) (old new : Trace) : Type 0 where
  pub reads : (file : Placed) → Serves l old file → IsRead r new (settled file)
  pub kept : (file : Placed) → Serves l old file → IsKept new (settled file)
  pub synced : (file : Placed) → Serves l old file → is_synced (file_of new file.number) ≡ true
  pub no_log : (file : Placed) → Serves l old file → NamesNoLog (seen (file_of new file.number))
