-- What a layer serves, by itself.
use Rattle.std.proofs.Common.{◌≡◌, ℕ, ◌<◌, Bool, true, false, List, [], length, map, Option, Some, None, refl, sym, ap, subst, ◌∙◌}
use Rattle.std.proofs.lemmas.List.{length-map}
use Rattle.std.specs.Prelude.{slice_index_or}
use Rattle.vx_base.specs.declared.parts.Parts.{Parts}
use Rattle.vhdx_format.specs.Layers.{Shape}
use Rattle.store_model.specs.Disk.{Disk, WhereBothTold, WhereTold}
use Rattle.store_model.specs.File.{File, seen}
use Rattle.store_model.specs.Trace.{NamedBytes, Trace, file_of}
use Rattle.log_write.specs.Sessions.{IsRunning}
use Rattle.chain_model.specs.Images.{Placed, metadata_of, name_of}
use Rattle.chain_model.specs.Layers as chain
use Rattle.chain_model.specs.Members.{Ties}
use Rattle.chain_model.specs.PhaseLaws.{loosened}
use Rattle.layer_session.specs.declared.file.Layer.{Layer}
use Rattle.layer_session.specs.Calls.{IsBeside, own_bytes, own_file}
use Rattle.layer_session.specs.Keeping.{AreBeside, Covers, HasSpace, IsCommitted, IsHeld, IsReadable, IsReady, IsTablePlace, Serves}
use Rattle.layer_session.specs.Laws.{LayersStand}
use Rattle.layer_session.proofs.AsHeld.{holds_member}
use Rattle.table_pages.specs.Held as tables

sector_is : (l : Layer) (trace : Trace) (file : Placed) → Serves l trace file → file.member.ties.geometry.sector ≡ l.tables.parts.sector
sector_is l trace file s = ap (λ (t : Ties). t.geometry.sector) s.ties ∙ sym (ap (λ (p : Shape). p.sector) s.as_held.shape)

sectors_are : (l : Layer) (trace : Trace) (file : Placed) → Serves l trace file → file.member.ties.geometry.sectors ≡ l.tables.parts.sectors
sectors_are l trace file s = ap (λ (t : Ties). t.geometry.sectors) s.ties ∙ sym (ap (λ (p : Shape). p.sectors) s.as_held.shape)

pub looser : (l : Layer) (trace : Trace) (file : Placed) (more : ℕ → Bool) → Serves l trace file → ((s : ℕ) → more s ≡ false → file.is_loose s ≡ false) → Serves l trace (loosened more file)
looser l trace file more s h = record {
  within = s.within;
  number = s.number;
  name = s.name;
  parts = s.parts;
  header = s.header;
  ties = s.ties;
  metadata = s.metadata;
  as_held = s.as_held;
  bytes = s.bytes;
  tables = s.tables;
  written = s.written;
  running = s.running;
  committed = s.committed;
  covered = s.covered;
  clean = λ sector below e. s.clean sector below (h sector e);
  covered_held = s.covered_held;
  only = s.only;
  changed = s.changed;
  kept = s.kept;
  can = s.can;
  beside = s.beside;
  space = s.space;
}

-- the same of its file, as it is in another trace
pub moved : (l : Layer) (old new : Trace) (file : Placed) → Serves l old file → length new.attached ≡ length old.attached → name_of new.attached file.number ≡ name_of old.attached file.number
    → file_of old file.number ≡ file_of new file.number → Serves l new file
moved l old new file s long names e = record {
  within = subst (λ n. file.number < n) (sym long) s.within;
  number = s.number;
  name = names ∙ s.name;
  parts = s.parts;
  header = s.header;
  ties = s.ties;
  metadata = subst (λ (z : File). file.metadata ≡ metadata_of s.parts (tables.held l.tables.pending (seen z))) e s.metadata;
  as_held = subst (λ (z : File). IsHeld l s.parts file.member.layer (seen z)) e s.as_held;
  bytes = s.bytes;
  tables = s.tables;
  written = s.written;
  running = subst (λ (z : File). IsRunning l.log s.tables (length s.bytes) s.written z) e s.running;
  committed = subst (λ (z : File). IsCommitted s.parts s.written s.bytes (seen z)) e s.committed;
  covered = s.covered;
  clean = s.clean;
  covered_held = subst (λ (z : File). Covers s.parts (tables.held l.tables.pending (seen z)) s.tables) e s.covered_held;
  only = subst (λ (z : File). (i : ℕ) → s.tables i ≡ true → IsTablePlace s.parts (tables.held l.tables.pending (seen z)) i) e s.only;
  changed = s.changed;
  kept = s.kept;
  can = s.can;
  beside = subst (λ (z : File). AreBeside s.parts s.bytes (tables.held l.tables.pending (seen z))) e s.beside;
  space = subst (λ (z : File). HasSpace l s.parts s.bytes (seen z)) e s.space;
}

pub same_length : (a b : List NamedBytes) → map (λ f. f.name) a ≡ map (λ f. f.name) b → length a ≡ length b
same_length a b e = sym (length-map a (λ (f : NamedBytes). f.name)) ∙ ap length e ∙ length-map b (λ (f : NamedBytes). f.name)

pub beside : (l : Layer) (old new : Trace) (file : Placed) → Serves l old file → IsBeside file.number old new → Serves l new file
beside l old new file s k = moved l old new file s (same_length new.attached old.attached k.names) (ap (λ z. slice_index_or z file.number []) k.names) (sym k.same)

-- what is told of the one store and of the other, where only other files were changed
pub told_beside : (file : ℕ) (P : Trace → Type 0) → ((t u : Trace) → IsBeside file t u → P t → P u) → (a b : Option Trace) → WhereBothTold (IsBeside file) a b → WhereTold a P → WhereTold b P
told_beside file P on None None stays holds u e = cc
told_beside file P on None (Some v) stays holds u e = absurd stays
told_beside file P on (Some t) None stays holds u e = cc
told_beside file P on (Some t) (Some v) stays holds u e = (let same : v ≡ u = cc in subst P same (on t v stays (holds t refl)))

module _ (l : Layer) (old new : Disk) (files : new.files ≡ old.files) (stays : WhereBothTold (IsBeside (own_file l)) old.told new.told) where
  abbrev ReadsOn : Trace → Type 0
  ReadsOn trace = (parts : Parts) × ((layer : chain.Layer) × IsHeld l parts layer (own_bytes l trace))

  abbrev ServesOne : Trace → Type 0
  ServesOne trace = (file : Placed) × Serves l trace file

  read_on : (t u : Trace) → IsBeside (own_file l) t u → ReadsOn t → ReadsOn u
  read_on t u k (parts, (layer, h)) = (parts, (layer, subst (λ (z : File). IsHeld l parts layer (seen z)) (sym k.same) h))

  serve_on : (t u : Trace) → IsBeside (own_file l) t u → ServesOne t → ServesOne u
  serve_on t u k (file, s) = (file, beside l t u file s (subst (λ n. IsBeside n t u) (sym s.number) k))

  pub readable_on : IsReadable l old → IsReadable l new
  readable_on r = record { there = subst (λ n. own_file l < n) (sym files) r.there; sizes = r.sizes; told = told_beside (own_file l) ReadsOn read_on old.told new.told stays r.told }

  pub ready_on : IsReady l old → IsReady l new
  ready_on r = record { readable = readable_on r.readable; one_file = r.one_file; next = r.next; most = r.most; clear = r.clear; plans = r.plans; told = told_beside (own_file l) ServesOne serve_on old.told new.told stays r.told }

pub layers_stand : LayersStand
layers_stand = record {
  number = λ l trace file s. s.number;
  sector = sector_is;
  sectors = sectors_are;
  held = holds_member;
  looser = looser;
  beside = beside;
  readable = λ l old new r files stays. readable_on l old new files stays r;
  ready = λ l old new r files stays. ready_on l old new files stays r;
}
