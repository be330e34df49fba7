-- Files of a chain, each in a session or only read.
use Rattle.std.specs.Prelude.{◌≡◌, ◌≢◌, ◌≤◌, ⊤, ℕ, true, is_some, List, [], ◌∷◌, Option, Some, None, IfSome, map}
use Rattle.std.specs.List.{AllByRecursion}
use Rattle.vx_base.specs.declared.parts.Geometry.{Geometry}
use Rattle.vx_base.specs.declared.parts.Header.{Header}
use Rattle.vx_base.specs.declared.parts.Parts.{Parts}
use Rattle.store_model.specs.Disk.{Disk, WhereBothTold}
use Rattle.store_model.specs.File.{is_synced, seen}
use Rattle.store_model.specs.Trace.{Trace, file_of}
use Rattle.table_pages.specs.declared.tables.TableParts.{TableParts}
use Rattle.chain_model.specs.Images.{Placed, members_of}
use Rattle.chain_model.specs.Layers as chain
use Rattle.chain_model.specs.Members.{Ties, layers_of}
use Rattle.chain_model.specs.Moments.{IsPhase}
use Rattle.chain_model.specs.Sessions.{GoesOver, IsKept, ShowsFile}
use Rattle.vhdx_format.specs.declared.log_entry.Page.{Page}
use Rattle.layer_session.specs.Calls.{IsBeside, KeepsOver, PutsInto, own_bytes, own_file, settled}
use Rattle.layer_session.specs.Keeping.{IsHeld, IsReadable, IsReady, Serves}
use Rattle.layer_session.specs.ReadOnly.{CanRead, IsRead}
use Rattle.layer_session.specs.Unnamed.{NamesNoLog}
use Rattle.layer_session.specs.Updating.{TurnsInto, turned}
use Rattle.layer_session.specs.declared.file.Layer.{Layer}
use Rattle.layer_session.specs.declared.file_layer.FileLayer.{FileLayer}
use Rattle.layer_session.specs.declared.file_layer.FileLayer.TheVariants.{Session, Read}

-- ---- one file

-- what a file's layer goes by: the file's number in the store, and its sizes
abbrev pub table_parts : FileLayer → TableParts
table_parts (Session l) = l.tables.parts
table_parts (Read l) = l.tables.parts

abbrev pub number_of : FileLayer → ℕ
number_of l = (table_parts l).file

-- the number of the last entry of its log, where it is in a session
abbrev pub log_number : FileLayer → Option ℕ
log_number (Session l) = Some l.log.number
log_number (Read l) = None

-- the header of its session, where it is in one
abbrev pub log_header : FileLayer → Option Header
log_header (Session l) = Some l.log.header
log_header (Read l) = None

-- a file as the chain sees it is served by its session, or read
abbrev pub HasFile : FileLayer → Trace → Placed → Type 0
HasFile (Session l) trace file = Serves l trace file
HasFile (Read l) trace file = IsRead l trace file

-- As held the file has this layer. So it is too in a session in which a change failed.
abbrev pub Holds : FileLayer → Trace → chain.Layer → Type 0
Holds (Session l) trace layer = (parts : Parts) × IsHeld l parts layer (own_bytes l trace)
Holds (Read l) trace layer = (file : Placed) × (IsRead l trace file × (file.member.layer ≡ layer))

-- it can be read
abbrev pub FileCanBeRead : FileLayer → Disk → Type 0
FileCanBeRead (Session l) disk = IsReadable l disk
FileCanBeRead (Read l) disk = CanRead l disk

-- and where it is in a session it can be written
abbrev pub FileIsReady : FileLayer → Disk → Type 0
FileIsReady (Session l) disk = IsReady l disk
FileIsReady (Read l) disk = CanRead l disk

-- Only what the layer keeps in memory is another: it holds what it held, and has the file that it had.
pub record IsSameFile (old new : FileLayer) (disk : Disk) : Type 0 where
  pub parts : table_parts new ≡ table_parts old
  pub number : log_number new ≡ log_number old
  pub header : log_header new ≡ log_header old
  pub readable : FileCanBeRead new disk
  pub ready : FileIsReady old disk → FileIsReady new disk
  pub holds : (trace : Trace) (layer : chain.Layer) → disk.told ≡ Some trace → Holds old trace layer → Holds new trace layer
  pub has : (trace : Trace) (file : Placed) → disk.told ≡ Some trace → HasFile old trace file → HasFile new trace file

-- ---- a file's commit, its update, its end

-- the file is in a session, and not only read
abbrev pub HasSession : FileLayer → Type 0
HasSession l = is_some (log_number l) ≡ true

-- where it is in a session the last entry of its log has this number at most
abbrev pub IsNumbered : ℕ → FileLayer → Type 0
IsNumbered most l = IfSome (log_number l) (λ n. n ≤ most)

-- no changed page of its tables waits for a commit
abbrev pub WaitsForNone : FileLayer → Type 0
WaitsForNone (Session l) = l.tables.pending ≡ []
WaitsForNone (Read l) = ⊤

-- At each moment from old to new, whatever is answered, each image of a file in a session shows it as before. No other file is changed.
pub record FileKeepsOver (l : FileLayer) (old new : Trace) : Type 0 where
  pub over : (file : Placed) → HasFile l old file → HasSession l → IsPhase file.number (ShowsFile file) old new

-- After a commit a file in a session is had with nothing loose.
pub record FileHasCommitted (old_l new_l : FileLayer) (old new : Trace) : Type 0 where
  pub has : (file : Placed) → HasFile old_l old file → HasSession old_l → HasFile new_l new (settled file)

-- After a failed change it is read on: as held it has the layer that it had.
pub record FileHoldsStill (old_l new_l : FileLayer) (old new : Trace) : Type 0 where
  pub holds : (file : Placed) → HasFile old_l old file → Holds new_l new file.member.layer

-- The session of a file has ended: the file is synced and names no log, and nothing of it is loose.
pub record FileHasEnded (l : FileLayer) (old new : Trace) : Type 0 where
  pub synced : (file : Placed) → HasFile l old file → HasSession l → is_synced (file_of new file.number) ≡ true
  pub no_log : (file : Placed) → HasFile l old file → HasSession l → NamesNoLog (seen (file_of new file.number))
  pub kept : (file : Placed) → HasFile l old file → HasSession l → IsKept new (settled file)

-- the pages turn the metadata of the file that the layer has
pub record FileTurns (l : FileLayer) (pages : List Page) (trace : Trace) : Type 0 where
  pub file : Placed
  pub ties : Ties
  pub region : List ℕ
  pub has : HasFile l trace file
  pub into : TurnsInto (table_parts l).bat_len pages file ties region

-- At each moment from old to new each image of the file shows it as before, or with what the pages turn its metadata into.
pub record FileUpdatesOver (l : FileLayer) (pages : List Page) (old new : Trace) : Type 0 where
  pub over : (file : Placed) (ties : Ties) (region : List ℕ) → HasFile l old file → TurnsInto (table_parts l).bat_len pages file ties region
      → GoesOver file (turned ties region file) old new

-- And then the layer has it so.
pub record FileHasUpdated (old_l new_l : FileLayer) (pages : List Page) (old new : Trace) : Type 0 where
  pub has : (file : Placed) (ties : Ties) (region : List ℕ) → HasFile old_l old file → TurnsInto (table_parts old_l).bat_len pages file ties region
      → HasFile new_l new (turned ties region file)

-- ---- several files

-- each of some files is its layer's
abbrev pub HaveFiles : List FileLayer → Trace → List Placed → Type 0
HaveFiles [] trace [] = ⊤
HaveFiles [] trace (file ∷ files) = ⊥
HaveFiles (layer ∷ layers) trace [] = ⊥
HaveFiles (layer ∷ layers) trace (file ∷ files) = HasFile layer trace file × HaveFiles layers trace files

-- as held each of some files has its layer
abbrev pub Hold : List FileLayer → Trace → List chain.Layer → Type 0
Hold [] trace [] = ⊤
Hold [] trace (one ∷ each) = ⊥
Hold (layer ∷ layers) trace [] = ⊥
Hold (layer ∷ layers) trace (one ∷ each) = Holds layer trace one × Hold layers trace each

-- a file of a disk of this geometry, which can be read
pub record IsReadableFile (geometry : Geometry) (disk : Disk) (l : FileLayer) : Type 0 where
  pub can : FileCanBeRead l disk
  pub sector : (table_parts l).sector ≡ geometry.sector
  pub sectors : (table_parts l).sectors ≡ geometry.sectors

-- and which, where it is in a session, can be written
pub record IsReadyFile (geometry : Geometry) (disk : Disk) (l : FileLayer) : Type 0 where
  pub ready : FileIsReady l disk
  pub sector : (table_parts l).sector ≡ geometry.sector
  pub sectors : (table_parts l).sectors ≡ geometry.sectors

-- so it is with each of these
abbrev pub AreReadableFiles : Geometry → Disk → List FileLayer → Type 0
AreReadableFiles geometry disk layers = AllByRecursion (IsReadableFile geometry disk) layers

abbrev pub AreReadyFiles : Geometry → Disk → List FileLayer → Type 0
AreReadyFiles geometry disk layers = AllByRecursion (IsReadyFile geometry disk) layers

-- Only what layers keep in memory is another.
pub record AreSameFiles (geometry : Geometry) (old new : List FileLayer) (disk : Disk) : Type 0 where
  pub readable : AreReadableFiles geometry disk new
  pub ready : AreReadyFiles geometry disk old → AreReadyFiles geometry disk new
  pub hold : (trace : Trace) (each : List chain.Layer) → disk.told ≡ Some trace → Hold old trace each → Hold new trace each
  pub have : (trace : Trace) (files : List Placed) → disk.told ≡ Some trace → HaveFiles old trace files → HaveFiles new trace files

-- the numbers of files in the store
abbrev pub file_numbers : List FileLayer → List ℕ
file_numbers layers = map number_of layers

-- Files and sizes that layers go by are the same, and so are the numbers of the last entries of their logs.
pub record HaveSameNumbers (old new : List FileLayer) : Type 0 where
  pub parts : map table_parts new ≡ map table_parts old
  pub logs : map log_number new ≡ map log_number old

-- ---- while other files are changed

-- From old to new each file but this one is as it was, and the files have their names.
pub record LeavesOthers (file : ℕ) (old new : Trace) : Type 0 where
  pub others : (other : ℕ) → other ≢ file → IsBeside other old new

-- none of these is this file
abbrev pub AreOthers : ℕ → List FileLayer → Type 0
AreOthers file layers = AllByRecursion (λ l. number_of l ≢ file) layers

-- What a file's layer has, by itself.
pub record FileLayersStand : Type 0 where
  pub number : (l : FileLayer) (trace : Trace) (file : Placed) → HasFile l trace file → file.number ≡ number_of l
  pub sector : (l : FileLayer) (trace : Trace) (file : Placed) → HasFile l trace file → file.member.ties.geometry.sector ≡ (table_parts l).sector
  pub sectors : (l : FileLayer) (trace : Trace) (file : Placed) → HasFile l trace file → file.member.ties.geometry.sectors ≡ (table_parts l).sectors
  -- a file that it has it holds, and what is ready can be read
  pub holds : (l : FileLayer) (trace : Trace) (file : Placed) → HasFile l trace file → Holds l trace file.member.layer
  pub can : (l : FileLayer) (disk : Disk) → FileIsReady l disk → FileCanBeRead l disk
  -- it hangs on its own file and on the files' names alone
  pub beside : (l : FileLayer) (old new : Trace) (file : Placed) → HasFile l old file → IsBeside file.number old new → HasFile l new file
  pub held : (l : FileLayer) (old new : Trace) (layer : chain.Layer) → Holds l old layer → IsBeside (number_of l) old new → Holds l new layer
  pub readable : (l : FileLayer) (old new : Disk) → FileCanBeRead l old → new.files ≡ old.files → WhereBothTold (IsBeside (number_of l)) old.told new.told → FileCanBeRead l new
  pub ready : (l : FileLayer) (old new : Disk) → FileIsReady l old → new.files ≡ old.files → WhereBothTold (IsBeside (number_of l)) old.told new.told → FileIsReady l new

-- A list of files' layers stands while one file is changed that is none of theirs.
pub record OthersStand : Type 0 where
  pub hold : (layers : List FileLayer) (trace : Trace) (files : List Placed) → HaveFiles layers trace files → Hold layers trace (layers_of (members_of files))
  pub can : (geometry : Geometry) (disk : Disk) (layers : List FileLayer) → AreReadyFiles geometry disk layers → AreReadableFiles geometry disk layers
  pub beside : (file : ℕ) (layers : List FileLayer) (old new : Trace) (files : List Placed) → HaveFiles layers old files → AreOthers file layers → LeavesOthers file old new → HaveFiles layers new files
  pub held : (file : ℕ) (layers : List FileLayer) (old new : Trace) (each : List chain.Layer) → Hold layers old each → AreOthers file layers → LeavesOthers file old new → Hold layers new each
  pub readable : (file : ℕ) (geometry : Geometry) (layers : List FileLayer) (old new : Disk) → AreReadableFiles geometry old layers → AreOthers file layers → new.files ≡ old.files → WhereBothTold (LeavesOthers file) old.told new.told
      → AreReadableFiles geometry new layers
  pub ready : (file : ℕ) (geometry : Geometry) (layers : List FileLayer) (old new : Disk) → AreReadyFiles geometry old layers → AreOthers file layers → new.files ≡ old.files → WhereBothTold (LeavesOthers file) old.told new.told
      → AreReadyFiles geometry new layers
  -- a phase of one file leaves the others, and so do the calls of its session
  pub phase : (before after : Placed) (old new : Trace) → GoesOver before after old new → LeavesOthers before.number old new
  pub put : (l : Layer) (first count : ℕ) (old new : Disk) → IsReady l old → WhereBothTold (PutsInto l first count) old.told new.told → WhereBothTold (LeavesOthers (own_file l)) old.told new.told
  pub kept : (l : Layer) (old new : Disk) → IsReady l old → WhereBothTold (KeepsOver l) old.told new.told → WhereBothTold (LeavesOthers (own_file l)) old.told new.told
