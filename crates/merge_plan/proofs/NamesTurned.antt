-- Pages that give another retired name turn each file that a layer serves, where its metadata are what they were built of.
use Rattle.std.proofs.Common.{◌≡◌, ℕ, ◌+◌, ◌≤◌, List, length, replicate, get_or, Option, refl, sym, ap, subst, ◌∙◌, arith}
use Rattle.std.proofs.lemmas.List.{length-replicate}
use Rattle.vx_base.proofs.ByteLists.{length-overwritten}
use Rattle.store_model.proofs.Parts.{part-overwritten}
use Rattle.store_model.specs.Trace.{Trace}
use Rattle.vx_base.specs.Fields.{bytes_at, written_over}
use Rattle.vx_base.specs.declared.parts.Parts.{Parts}
use Rattle.vhdx_format.specs.MetadataTables.{read_metadata}
use Rattle.vhdx_format.specs.declared.log_entry.Page.{Page}
use Rattle.chain_model.specs.Images.{Placed}
use Rattle.layer_session.specs.Keeping.{Serves}
use Rattle.layer_session.specs.Updating.{HasRegion, TurnsInto, laid_region, own_len}
use Rattle.layer_session.specs.declared.file.Layer.{Layer}
use Rattle.layer_session.proofs.PagesTurned.{pages_turn}
use Rattle.meta_edit.specs.Edits.{with_region}
use Rattle.meta_edit.specs.Pages.{ArePages, IsPageIn, with_pages}
use Rattle.merge_plan.specs.LeafMerging.{GivesName}

-- a file that has nothing but this region
only : ℕ → List ℕ → List ℕ
only at region = written_over (replicate (at + length region) 0) at region

only_long : (at : ℕ) (region : List ℕ) → length (only at region) ≡ at + length region
unfolding only
only_long at region = length-overwritten (replicate (at + length region) 0) region at (omega (arith, length-replicate {A = ℕ} (at + length region) 0)) ∙ length-replicate {A = ℕ} (at + length region) 0

only_part : (at : ℕ) (region : List ℕ) → bytes_at (only at region) at (length region) ≡ region
unfolding only
only_part at region = part-overwritten (replicate (at + length region) 0) region at (length region) (omega (arith, length-replicate {A = ℕ} (at + length region) 0)) refl

pub names_turn : (l : Layer) (trace : Trace) (file : Placed) (parts : Parts) (to : Option (List ℕ)) (pages : List Page) → Serves l trace file → own_len l ≡ parts.bat_len → file.metadata.at ≡ parts.meta_at
    → length file.metadata.bytes ≡ parts.meta_len → ArePages parts pages → (g : GivesName parts file.metadata.bytes to pages)
    → TurnsInto (own_len l) pages file (record (file.member.ties) { retired = to }) g.region
names_turn l trace file parts to pages serves table at long are g =
    let region : List ℕ = file.metadata.bytes in
    let bytes : List ℕ = only parts.meta_at region in
    let all : length bytes ≡ parts.meta_at + length region = only_long parts.meta_at region in
    let part : bytes_at bytes parts.meta_at (length region) ≡ region = only_part parts.meta_at region in
    let turned : with_pages pages bytes ≡ with_region parts bytes g.region = g.turn bytes (omega (arith, all, long)) (ap (bytes_at bytes parts.meta_at) (sym long) ∙ part) in
    let laid : laid_region file pages bytes ≡ g.region =
    ap (λ (n : ℕ). bytes_at (with_pages pages bytes) n (length region)) at
    ∙ ap (λ (z : List ℕ). bytes_at z parts.meta_at (length region)) turned
    ∙ part-overwritten bytes g.region parts.meta_at (length region) (omega (arith, all)) (long ∙ sym g.long) in
    let has : HasRegion file pages bytes = record {
      inside = λ k d b. (let p : IsPageIn parts.meta_at parts.meta_len (get_or pages k d) = are k d b in
          record {
            aligned = p.aligned;
            whole = p.whole;
            first = (let first : parts.meta_at ≤ (get_or pages k d).at = p.first in omega (arith, first, at));
            last = (let last : (get_or pages k d).at + 4096 ≤ parts.meta_at + parts.meta_len = p.last in omega (arith, last, long, at));
          });
      within = omega (arith, all, at);
      same = ap (λ (n : ℕ). bytes_at bytes n (length region)) at ∙ part;
    } in
    subst (TurnsInto (own_len l) pages file (record (file.member.ties) { retired = to })) laid
    (pages_turn.retired l trace file pages bytes to serves has
    (λ m e. ap (read_metadata (laid_region file pages bytes)) table ∙ ap (λ (z : List ℕ). read_metadata z parts.bat_len) laid ∙ g.reads m (ap (read_metadata region) (sym table) ∙ e)))
