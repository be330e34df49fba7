-- Files of a chain that are only read.
use Rattle.std.proofs.Common.{◌≡◌, ℕ, ◌+◌, ◌^◌, ◌<◌, ◌≤◌, List, [], ◌∷◌, length, suc, Some, refl, sym, ap, subst, ◌∙◌, arith, None}
use Rattle.std.specs.Prelude.{Contains, Err, IfErr, Ok, Result, slice_index_or}
use Rattle.vx_base.specs.declared.parts.Geometry.{Geometry}
use Rattle.vx_base.specs.declared.parts.Header.{Header}
use Rattle.vx_base.specs.declared.parts.Parts.{Parts}
use Rattle.vhdx_format.specs.FileParts.{HasNumbers, read_parts, shape_of, taken_areas}
use Rattle.vhdx_format.specs.HeldBlocks.{IsSoundTable}
use Rattle.vhdx_format.specs.Layers.{Shape}
use Rattle.vhdx_format.specs.declared.log_entry.Page.{Page}
use Rattle.store_model.specs.Disk.{Disk, ReadFailed, WhereBothTold, WhereTold}
use Rattle.store_model.specs.File.{File, seen}
use Rattle.store_model.specs.Trace.{Trace, file_of}
use Rattle.store_model.specs.declared.fault.StoreFault.{StoreFault}
use Rattle.table_pages.specs.Held as tables
use Rattle.table_pages.specs.Held.{AreTables, HasTables, IsNew, held}
use Rattle.table_pages.specs.declared.tables.TableParts.{TableParts}
use Rattle.table_pages.specs.declared.tables.Tables.{Tables}
use Rattle.chain_model.specs.Files.{HasParts, at_rest, layer_in}
use Rattle.chain_model.specs.Images.{Placed, members_of}
use Rattle.chain_model.specs.Layers as chain
use Rattle.chain_model.specs.Members.{Ties, layers_of}
use Rattle.chain_model.specs.Sessions.{as_read}
use Rattle.layer_session.specs.Calls.{AddsOwned, IsBeside}
use Rattle.layer_session.specs.Keeping.{AreOfTables, HoldsLayer, IsLayerOf}
use Rattle.layer_session.specs.ReadOnly.{AreRead, AreReadable, AreSameRead, CanRead, IsRead, IsReadOf, IsReadableBy, IsSameRead, ReadLayersStand, SomeReadFailed, numbers_of}
use Rattle.layer_session.specs.TablesRead.{HasRead}
use Rattle.layer_session.specs.declared.read_layer.ReadLayer.{ReadLayer}
use Rattle.layer_session.proofs.Beginning.{have_sizes}
use Rattle.layer_session.proofs.Committed.{held_none}
use Rattle.layer_session.proofs.Crashes.{in_layer, off_layer}
use Rattle.layer_session.proofs.Numbers.{are_numbers}
use Rattle.layer_session.proofs.Owned.{adds_over}
use Rattle.layer_session.proofs.Readable.{HoldsOne, holds_again}
use Rattle.layer_session.proofs.Standing.{same_length, told_beside}
use Rattle.layer_session.proofs.Equal.{none_some}

-- ---- a new layer

module _ (parts : Parts) (file : ℕ) (tables_of : TableParts) (l : ReadLayer) (numbers : HasNumbers parts) (new : IsNew tables_of l.tables) (number : tables_of.file ≡ file) (shape : tables.shape_of tables_of ≡ shape_of parts)
    (region : tables_of.bat_len ≡ parts.bat_len) where
  sizes : HasTables l.tables.parts
  sizes = subst HasTables (sym new.parts_are) (have_sizes parts tables_of numbers shape region)

  shape_is : tables.shape_of l.tables.parts ≡ shape_of parts
  shape_is = ap (λ (p : TableParts). tables.shape_of p) new.parts_are ∙ shape

  number_is : l.tables.parts.file ≡ file
  number_is = ap (λ (p : TableParts). p.file) new.parts_are ∙ number

  module _ (t : Trace) (within : file < length t.attached) (most : length (seen (file_of t file)) ≤ 2 ^ 63) (has : HasParts (at_rest (seen (file_of t file))) (seen (file_of t file)) parts) where
    abbrev F : List ℕ
    F = seen (file_of t file)

    are_read : read_parts parts.header F ≡ Ok parts
    are_read = subst (λ (h : Header). read_parts h F ≡ Ok parts) (sym (are_numbers has.header F parts has.numbers).1) has.numbers

    held_is : F ≡ held l.tables.pending F
    held_is = sym (ap (λ pending. held pending F) new.unchanged ∙ held_none F)

    table_in : tables_of.bat_at + tables_of.bat_len ≤ length F
    table_in =
        let w = (are_numbers parts.header F parts are_read).0.table.within in
        let at : tables_of.bat_at ≡ parts.bat_at = ap (λ (p : Shape). p.table) shape in
        omega (arith, w, at, region)

    layer_here : IsLayerOf (shape_of parts) F (layer_in F parts)
    layer_here = record { on_disk = λ s below. in_layer parts F s below; off_disk = λ s above. off_layer parts F s above }

    holds : HoldsLayer l.tables parts (layer_in F parts) F
    holds = record {
      sizes = sizes;
      shape = shape_is;
      region = ap (λ (p : TableParts). p.bat_len) new.parts_are ∙ region;
      most = most;
      pages = subst (λ (p : TableParts). AreTables p F l.tables.pending l.tables.cache) (sym new.parts_are) (subst (λ (x : List Page). AreTables tables_of F x l.tables.cache) (sym new.unchanged) (new.tables F table_in));
      numbers = subst (λ (x : List ℕ). read_parts parts.header x ≡ Ok parts) held_is are_read;
      sound = subst (λ (x : List ℕ). IsSoundTable (shape_of parts) (taken_areas parts) x) held_is has.blocks;
      of_tables = subst (λ (x : List Page). AreOfTables parts (held l.tables.pending F) x) (sym new.unchanged) (λ k d b. absurd (omega (arith, b)));
      has = subst (λ (x : List ℕ). IsLayerOf (shape_of parts) x (layer_in F parts)) held_is layer_here;
    }

    reads_file : IsRead l t (as_read t file F parts)
    reads_file = record { within = within; number = sym number_is; name = refl; parts = parts; ties = refl; unchanged = new.unchanged; as_held = holds }

  pub new_layer : IsReadOf parts file l
  new_layer = record {
    sizes = sizes;
    number = number_is;
    sector = ap (λ (p : Shape). p.sector) shape_is;
    sectors = ap (λ (p : Shape). p.sectors) shape_is;
    fresh = record { shape = shape_is; region = ap (λ (p : TableParts). p.bat_len) new.parts_are ∙ region; new = subst (λ (p : TableParts). IsNew p l.tables) (sym new.parts_are) new };
    reads = reads_file;
  }

-- ---- one layer that is read

-- its tables hold its file's layer
pub read_holds : (l : ReadLayer) (t : Trace) (file : Placed) (reads : IsRead l t file) → HoldsLayer l.tables reads.parts file.member.layer (seen (file_of t l.tables.parts.file))
read_holds l t file reads = subst (λ n. HoldsLayer l.tables reads.parts file.member.layer (seen (file_of t n))) reads.number reads.as_held

pub can_hold : (l : ReadLayer) (disk : Disk) → CanRead l disk → WhereTold disk.told (HoldsOne l.tables)
can_hold l disk c t told = let h = c.told t told in (h.1.parts, (h.0.member.layer, read_holds l t h.0 h.1))

abbrev pub read_with : Tables → ReadLayer
read_with new = record { tables = new }

module _ (l : ReadLayer) (new : Tables) (disk : Disk) (reads : HasRead l.tables new disk) where
  parts_are : new.parts ≡ l.tables.parts
  parts_are = reads.as_held.parts_are

  read_on : (t : Trace) (file : Placed) → disk.told ≡ Some t → IsRead l t file → IsRead (read_with new) t file
  read_on t file told r =
      let here = holds_again l.tables new disk reads t r.parts file.member.layer told (read_holds l t file r) in
      record {
        within = r.within;
        number = r.number ∙ sym (ap (λ (p : TableParts). p.file) parts_are);
        name = r.name;
        parts = r.parts;
        ties = r.ties;
        unchanged = reads.as_held.unchanged ∙ r.unchanged;
        as_held = subst (λ n. HoldsLayer new r.parts file.member.layer (seen (file_of t n))) (sym r.number) here;
      }

  pub same_read : CanRead l disk → IsSameRead l (read_with new) disk
  same_read c = record {
    parts = parts_are;
    readable = record {
      there = subst (λ (p : TableParts). p.file < disk.files) (sym parts_are) c.there;
      sizes = subst HasTables (sym parts_are) c.sizes;
      told = λ t told. let h = c.told t told in (h.0, read_on t h.0 told h.1);
    };
    reads = λ t file told r. read_on t file told r;
  }

-- ---- several

pub same_none : (geometry : Geometry) (layers : List ReadLayer) (disk : Disk) → AreReadable geometry disk layers → AreSameRead geometry layers layers disk
same_none geometry layers disk r = record { readable = r; reads = λ t files told h. h }

-- the first was read, and then those below it
module _ (geometry : Geometry) (upper upper' : ReadLayer) (below below' : List ReadLayer) (disk : Disk) (can : IsReadableBy geometry disk upper) (one : IsSameRead upper upper' disk) (rest : AreSameRead geometry below below' disk) where
  each_read : (t : Trace) (files : List Placed) → disk.told ≡ Some t → AreRead (upper ∷ below) t files → AreRead (upper' ∷ below') t files
  each_read t [] told h = h
  each_read t (file ∷ files) told h = (one.reads t file told h.0, rest.reads t files told h.1)

  pub same_each : AreSameRead geometry (upper ∷ below) (upper' ∷ below') disk
  same_each = record {
    readable = (record { can = one.readable; sector = ap (λ (p : TableParts). p.sector) one.parts ∙ can.sector; sectors = ap (λ (p : TableParts). p.sectors) one.parts ∙ can.sectors }, rest.readable);
    reads = each_read;
  }

-- what the first of some files added, and then the others, is what is seen through all
pub adds_through : (upper : ReadLayer) (below : List ReadLayer) (t : Trace) (files : List Placed) (z first count at : ℕ) (m0 m1 m2 a b c : List ℕ) → ((file : Placed) → IsRead upper t file → AddsOwned file.member.layer z first count at m0 m1 a b)
    → ((rest : List Placed) → AreRead below t rest → AddsOwned (chain.through (layers_of (members_of rest))) z first count at m1 m2 b c) → AreRead (upper ∷ below) t files
    → AddsOwned (chain.through (layers_of (members_of files))) z first count at m0 m2 a c
adds_through upper below t [] z first count at m0 m1 m2 a b c one two h = absurd h
adds_through upper below t (file ∷ files) z first count at m0 m1 m2 a b c one two h = adds_over file.member.layer (chain.through (layers_of (members_of files))) z first count at m0 m1 m2 a b c (one file h.0) (two files h.1)

-- no file adds anything
pub adds_nothing : (z first count at : ℕ) (mask bytes : List ℕ) → AddsOwned (λ s. None) z first count at mask mask bytes bytes
adds_nothing z first count at mask bytes = record {
  found = λ i below on. (on, refl);
  owned = λ i owned below off is. absurd (none_some is);
  others = λ i below off is. (off, refl);
  rest = λ k below out. refl;
  mask_len = refl;
  len = refl;
}

pub none_read : (layers : List ReadLayer) (t : Trace) (files : List Placed) (z first count at : ℕ) (mask bytes : List ℕ) → length layers ≡ 0 → AreRead layers t files
    → AddsOwned (chain.through (layers_of (members_of files))) z first count at mask mask bytes bytes
none_read [] t [] z first count at mask bytes none h = adds_nothing z first count at mask bytes
none_read [] t (file ∷ files) z first count at mask bytes none h = absurd h
none_read (layer ∷ layers) t files z first count at mask bytes none h = absurd (omega (arith, none))

-- a fault names the file whose read failed
pub some_failed : (file : ℕ) (old new : Disk) (result : Result (Unit {0}) StoreFault) → file < old.files → IfErr result (ReadFailed file old new) → IfErr result (SomeReadFailed old new)
some_failed file old new (Ok done) there h = tt
some_failed file old new (Err fault) there h = (subst (λ n. n < old.files) (sym h.of_file) there, subst (λ n. ReadFailed n old new fault) (sym h.of_file) h)

-- a file of the lower ones is one of all
pub later_number : (upper : ReadLayer) (below : List ReadLayer) (n : ℕ) → Contains (numbers_of below) n → Contains (numbers_of (upper ∷ below)) n
later_number upper below n h = (suc h.0, omega (arith, h.1), h.2)

-- what follows of an answer that is an error
pub err_then : {A : Type 0} (P Q : StoreFault → Type 0) (result : Result A StoreFault) → ((fault : StoreFault) → P fault → Q fault) → IfErr result P → IfErr result Q
err_then P Q (Ok x) f h = h
err_then P Q (Err fault) f h = f fault h

-- ---- what it hangs on

sector_is : (l : ReadLayer) (trace : Trace) (file : Placed) → IsRead l trace file → file.member.ties.geometry.sector ≡ l.tables.parts.sector
sector_is l trace file r = ap (λ (t : Ties). t.geometry.sector) r.ties ∙ sym (ap (λ (p : Shape). p.sector) r.as_held.shape)

sectors_are : (l : ReadLayer) (trace : Trace) (file : Placed) → IsRead l trace file → file.member.ties.geometry.sectors ≡ l.tables.parts.sectors
sectors_are l trace file r = ap (λ (t : Ties). t.geometry.sectors) r.ties ∙ sym (ap (λ (p : Shape). p.sectors) r.as_held.shape)

beside : (l : ReadLayer) (old new : Trace) (file : Placed) → IsRead l old file → IsBeside file.number old new → IsRead l new file
beside l old new file r k = record {
  within = subst (λ n. file.number < n) (sym (same_length new.attached old.attached k.names)) r.within;
  number = r.number;
  name = ap (λ z. slice_index_or z file.number []) k.names ∙ r.name;
  parts = r.parts;
  ties = r.ties;
  unchanged = r.unchanged;
  as_held = subst (λ (z : File). HoldsLayer l.tables r.parts file.member.layer (seen z)) (sym k.same) r.as_held;
}

readable_beside : (l : ReadLayer) (old new : Disk) → CanRead l old → new.files ≡ old.files → WhereBothTold (IsBeside l.tables.parts.file) old.told new.told → CanRead l new
readable_beside l old new c files stays = record {
  there = subst (λ n. l.tables.parts.file < n) (sym files) c.there;
  sizes = c.sizes;
  told = told_beside l.tables.parts.file (λ trace. (file : Placed) × IsRead l trace file) (λ t u k h. (h.0, beside l t u h.0 h.1 (subst (λ n. IsBeside n t u) (sym h.1.number) k))) old.told new.told stays c.told;
}

pub read_layers_stand : ReadLayersStand
read_layers_stand = record {
  sector = sector_is;
  sectors = sectors_are;
  beside = beside;
  readable = readable_beside;
}
