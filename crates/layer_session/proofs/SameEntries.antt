-- What the tables say of sectors stays where no byte of the tables changes.
use Rattle.std.proofs.Common.{◌≡◌, ℕ, ◌<◌, ◌≤◌, List, length, get_or, sym, ap, subst, ◌∙◌}
use Rattle.std.specs.Prelude.{Ok}
use Rattle.vx_base.specs.declared.parts.Parts.{Parts}
use Rattle.vhdx_format.specs.FileParts.{read_parts, shape_of, taken_areas}
use Rattle.vhdx_format.specs.HeldBlocks.{IsSoundTable}
use Rattle.vhdx_format.specs.Layers.{Shape, bitmap_entry_of}
use Rattle.vhdx_format.proofs.LayerLemmas.{sector_entries}
use Rattle.store_model.specs.File.{seen}
use Rattle.store_model.specs.Trace.{Trace, file_of}
use Rattle.table_pages.specs.Held.{held}
use Rattle.table_pages.specs.Held as tables
use Rattle.chain_model.specs.Images.{Placed}
use Rattle.layer_session.specs.declared.file.Layer.{Layer}
use Rattle.layer_session.specs.Keeping.{IsTablePlace, Serves}
use Rattle.layer_session.specs.Steps.{held_by}
use Rattle.layer_session.specs.Taking.{HasSameEntries, KeepsEntries}
use Rattle.layer_session.proofs.Alike.{AreSizes, bit_there, bitmap_alike, state_alike}
use Rattle.layer_session.proofs.Entered.{long, sizes}

module _ (parts : Parts) (old new : List ℕ) (longer : length old ≤ length new) (sizes : AreSizes parts) (numbers : read_parts parts.header old ≡ Ok parts)
    (sound : IsSoundTable (shape_of parts) (taken_areas parts) old) (same : (i : ℕ) → IsTablePlace parts old i → i < length old → get_or new i 0 ≡ get_or old i 0) (long : 327680 ≤ length old) where
  pub entries_alike : (s : ℕ) → s < parts.geometry.sectors → HasSameEntries (shape_of parts) old new s
  entries_alike s below = record {
    entry = state_alike parts old new longer sizes numbers sound same long s below;
    bits = record {
      bitmap = λ parent. bitmap_alike parts old new longer sizes numbers sound same long (bitmap_entry_of (shape_of parts) s) ((sector_entries (shape_of parts) (record { sector = sizes.sector; block = sizes.block })).bitmap s parent below);
      bit = λ parent six. bit_there parts old new longer sizes numbers sound same long s below parent six;
    };
  }

-- what a layer holds of the file that it serves
pub held_here : (l : Layer) (t : Trace) (file : Placed) → Serves l t file → held l.tables.pending (seen (file_of t file.number)) ≡ held_by l t
held_here l t file serves = ap (λ n. held l.tables.pending (seen (file_of t n))) serves.number

-- by the numbers of the layer
pub by_shape : (l : Layer) (t : Trace) (file : Placed) (serves : Serves l t file) (P : Shape → Type 0) → P (shape_of serves.parts) → P (tables.shape_of l.tables.parts)
by_shape l t file serves P h = subst P (sym serves.as_held.shape) h

-- of what a layer serves nothing but bytes off the tables has changed
pub keeps_entries : (l new : Layer) (t u : Trace) (file : Placed) (serves : Serves l t file) → length (held_by l t) ≤ length (held_by new u)
    → ((i : ℕ) → IsTablePlace serves.parts (held l.tables.pending (seen (file_of t file.number))) i → get_or (held_by new u) i 0 ≡ get_or (held_by l t) i 0) → KeepsEntries l new t u
keeps_entries l new t u file serves longer same = record {
  all = by_shape l t file serves (λ q. (s : ℕ) → s < q.sectors → HasSameEntries q (held_by l t) (held_by new u) s)
      (subst (λ z. (s : ℕ) → s < serves.parts.geometry.sectors → HasSameEntries (shape_of serves.parts) z (held_by new u) s) (held_here l t file serves)
      (entries_alike serves.parts (held l.tables.pending (seen (file_of t file.number))) (held_by new u) (subst (λ z. length z ≤ length (held_by new u)) (sym (held_here l t file serves)) longer) (sizes l t file serves) serves.as_held.numbers
      serves.as_held.sound (λ i h b. same i h ∙ ap (λ z. get_or z i 0) (sym (held_here l t file serves))) (long l t file serves)));
}
