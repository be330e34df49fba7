-- The source of a merge, as its readers read it.
use Rattle.std.proofs.Common.{◌≡◌, ◌∙◌, ℕ, List, true, false, not, refl, sym, ap, subst}
use Rattle.std.specs.Prelude.{None, Ok, Option, Some, option_map}
use Rattle.store_model.specs.Disk.{Disk, WhereTold, reader_of}
use Rattle.store_model.specs.File.{seen}
use Rattle.store_model.specs.Trace.{Trace, file_of}
use Rattle.table_pages.specs.declared.tables.TableParts.{TableParts}
use Rattle.chain_model.specs.Images.{Placed}
use Rattle.layer_session.specs.ReadOnly.{IsRead}
use Rattle.layer_session.specs.declared.file_layer.FileLayer.{FileLayer}
use Rattle.layer_session.specs.declared.file_layer.FileLayer.TheVariants.{Read}
use Rattle.layer_session.specs.declared.read_layer.ReadLayer.{ReadLayer}
use Rattle.sealed_layer.specs.Planned.{files_in}
use Rattle.sealed_layer.specs.Sealed.{HoldsSealed, IsForReaders, ReadsBytes}
use Rattle.chain_core.specs.Sealed.{IsSealedSource, reads_in, reads_source}
use Rattle.chain_core.specs.Sessions.{AreReady}
use Rattle.chain_core.specs.declared.layers.Layers.{Layers}
use Rattle.chain_core.specs.declared.layers.Underway.{Underway}
use Rattle.chain_core.specs.declared.sealing.SealedSource.{SealedSource}
use Rattle.chain_core.proofs.Places.{IsAt, alone, at_read, at_session, merge_of, number_of_source, readable_of, takes}

module _ (layers : Layers) (u : Underway) (disk : Disk) (l : ReadLayer) (is : layers.merge ≡ Some u) (at : IsAt layers.below.items u.source (Read l)) (ready : AreReady layers disk) (s : SealedSource) (file : s.file ≡ l.tables.parts.file) (geometry : s.geometry ≡ layers.geometry) (stripes : s.stripes ≡ u.marks.stripes) (made : IsForReaders l s.layer) where
  -- what the layer of the chain reads has the bytes of a reader that tells what the file has
  reads_bytes : (content : Option (List ℕ)) → content ≡ (reader_of s.file disk).content → WhereTold disk.told (λ trace. (one : Placed) × IsRead l trace one) → WhereTold content (ReadsBytes l)
  reads_bytes content same told = by_told disk.told refl
    where
      by_told : (o : Option Trace) → disk.told ≡ o → WhereTold content (ReadsBytes l)
      by_told None none bytes is = let never : None ≡ Some bytes = sym (same ∙ ap (option_map (λ trace. seen (file_of trace s.file))) none) ∙ is in cc
      by_told (Some trace) some bytes is =
          let read = told trace some in
          let has : Some (seen (file_of trace s.file)) ≡ Some bytes = sym (same ∙ ap (option_map (λ trace. seen (file_of trace s.file))) some) ∙ is in
          let one : seen (file_of trace s.file) ≡ bytes = cc in
          record { trace = trace; file = read.0; is_read = read.1; bytes_are = sym one ∙ ap (λ n. seen (file_of trace n)) (file ∙ sym read.1.number) }

  pub sealed_source : IsSealedSource layers disk s
  sealed_source =
      let readable = readable_of layers u disk (Read l) ready at in
      record {
        file = file ∙ number_of_source layers u (Read l) is at;
        geometry = geometry;
        stripes = stripes ∙ (merge_of layers u disk is ready).stripes;
        alone = alone layers u disk is ready;
        sector = ap (λ (p : TableParts). p.sector) made.sizes ∙ readable.sector;
        sectors = ap (λ (p : TableParts). p.sectors) made.sizes ∙ readable.sectors;
        can = λ reader same. made.can reader readable.can.sizes (reads_bytes reader.content same readable.can.told);
        finds = λ piece stamp taken. takes layers u (Read l) disk (Ok tt) piece is at ready stamp
            (λ one trace told own. taken trace told one.member.layer (subst (λ n. HoldsSealed s.layer (files_in trace n) one.member.layer) (own.number ∙ sym file) (made.holds trace one own)));
      }

-- the source is only read where the layer at its place says so
pub is_only_read : (layers : Layers) (u : Underway) (l : ReadLayer) → layers.merge ≡ Some u → IsAt layers.below.items u.source (Read l) → reads_source layers ≡ true
is_only_read layers u l is at = ap (reads_in layers.below.items) is ∙ ap not (at_read layers.below.items u.source l at)

pub is_in_session : (layers : Layers) (u : Underway) (x : FileLayer) → layers.merge ≡ Some u → IsAt layers.below.items u.source x → ((l : ReadLayer) → x ≡ Read l → ⊥) → reads_source layers ≡ false
is_in_session layers u x is at none = ap (reads_in layers.below.items) is ∙ ap not (at_session layers.below.items u.source x at none)
