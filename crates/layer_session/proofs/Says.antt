-- What the tables say of blocks, before and behind a change of the file.
use Rattle.std.proofs.Common.{◌≡◌, ℕ, ◌<◌, ◌≤◌, List, [], length, get_or, Option, Some, None, refl, sym, subst, ◌∙◌, arith}
use Rattle.std.specs.Prelude.{Ok}
use Rattle.vx_base.specs.declared.parts.Header.{Header}
use Rattle.vx_base.specs.declared.parts.Parts.{Parts}
use Rattle.vhdx_format.specs.FileParts.{read_parts, shape_of, taken_areas}
use Rattle.vhdx_format.specs.HeldBlocks.{IsSoundTable}
use Rattle.vhdx_format.specs.Layers.{Shape, bitmap_entry_of}
use Rattle.vhdx_format.specs.Crashes.{IsOutside}
use Rattle.vhdx_format.proofs.LayerLemmas.{sector_entries}
use Rattle.store_model.specs.Disk.{Disk, WhereBothTold, WhereTold}
use Rattle.store_model.specs.File.{seen}
use Rattle.store_model.specs.Trace.{Trace, file_of}
use Rattle.table_pages.specs.Held.{held, held_file}
use Rattle.table_pages.specs.Held as tables
use Rattle.table_pages.proofs.Words.{held_long}
use Rattle.log_write.specs.Sessions.{LogState}
use Rattle.vhdx_format.specs.declared.log_entry.Page.{Page}
use Rattle.log_write.specs.Writing.{HasCommitted as HasCommittedPages}
use Rattle.chain_model.specs.Images.{Placed}
use Rattle.layer_session.specs.declared.file.Layer.{Layer}
use Rattle.layer_session.specs.Bringing.{SaysAllSame}
use Rattle.layer_session.specs.Keeping.{IsReady, IsTablePlace, Serves}
use Rattle.layer_session.proofs.Alike.{AreSizes, bit_alike, bitmap_alike, state_alike}
use Rattle.layer_session.proofs.Committed.{held_none}
use Rattle.layer_session.proofs.Crashes.{IsSafe, safe_of}

-- bytes that are the tables' are the same
pub says_alike : (parts : Parts) (old new : List ℕ) (longer : length old ≤ length new) (sizes : AreSizes parts) (numbers : read_parts parts.header old ≡ Ok parts) (sound : IsSoundTable (shape_of parts) (taken_areas parts) old)
    (same : (i : ℕ) → IsTablePlace parts old i → i < length old → get_or new i 0 ≡ get_or old i 0) (long : 327680 ≤ length old) → SaysAllSame (shape_of parts) old new
says_alike parts old new longer sizes numbers sound same long = record {
  blocks = record {
    entry = state_alike parts old new longer sizes numbers sound same long;
    bits = λ s below parent seven. bit_alike parts old new longer sizes numbers sound same long s below seven;
  };
  bitmaps = λ s below parent. bitmap_alike parts old new longer sizes numbers sound same long (bitmap_entry_of (shape_of parts) s) ((sector_entries (shape_of parts) (record { sector = sizes.sector; block = sizes.block })).bitmap s parent below);
}

-- a commit
committed_byte : (log : LogState) (pages : List Page) (before after : List ℕ) → HasCommittedPages log pages before after → (i : ℕ) → IsOutside log.header.log_at log.header.log_len i → get_or after i 0 ≡ get_or (held pages before) i 0
unfolding held
committed_byte log pages before after content i o = content.same i o

pub commit_says : (l : Layer) (t u : Trace) (file : Placed) → Serves l t file → HasCommittedPages l.log l.tables.pending (seen (file_of t file.number)) (seen (file_of u file.number))
    → SaysAllSame (tables.shape_of l.tables.parts) (held l.tables.pending (seen (file_of t file.number))) (held [] (seen (file_of u file.number)))
commit_says l t u file s content =
    subst (λ (z : List ℕ). SaysAllSame (tables.shape_of l.tables.parts) h z) (sym (held_none X))
    (subst (λ (p : Shape). SaysAllSame p h X) (sym s.as_held.shape) (says_alike s.parts h X (let a = content.long in omega (arith, a, long_held)) sf.sizes s.as_held.numbers s.as_held.sound table_same (let a = sf.long in let b = s.committed.long in omega (arith, a, b, long_held))))
  where
    X : List ℕ
    X = seen (file_of u file.number)

    h : List ℕ
    h = held l.tables.pending (seen (file_of t file.number))

    sf : IsSafe s.parts s.tables s.written file.is_loose file.member.layer s.bytes (seen (file_of t file.number))
    sf = safe_of l t file s

    long_held : length h ≡ length (seen (file_of t file.number))
    long_held = held_long l.tables.parts (seen (file_of t file.number)) l.tables.pending l.tables.cache s.as_held.pages

    table_same : (i : ℕ) → IsTablePlace s.parts h i → i < length h → get_or X i 0 ≡ get_or h i 0
    table_same i place below = committed_byte l.log l.tables.pending (seen (file_of t file.number)) X content i (subst (λ (k : Header). IsOutside k.log_at k.log_len i) s.header (s.covered_held.beside i place).log)

pub commit_says_told : (l : Layer) (old new : Disk) → IsReady l old → WhereBothTold (λ before after. HasCommittedPages l.log l.tables.pending (seen (file_of before l.log.file)) (seen (file_of after l.log.file))) old.told new.told
    → WhereBothTold (λ before after. SaysAllSame (tables.shape_of l.tables.parts) (held l.tables.pending (seen (file_of before l.tables.parts.file))) (held [] (seen (file_of after l.tables.parts.file)))) old.told new.told
commit_says_told l old new ready content = by_told old.told new.told ready.told content
  where
    by_told : (a b : Option Trace) → WhereTold a (λ trace. (file : Placed) × Serves l trace file)
        → WhereBothTold (λ before after. HasCommittedPages l.log l.tables.pending (seen (file_of before l.log.file)) (seen (file_of after l.log.file))) a b
        → WhereBothTold (λ before after. SaysAllSame (tables.shape_of l.tables.parts) (held l.tables.pending (seen (file_of before l.tables.parts.file))) (held [] (seen (file_of after l.tables.parts.file)))) a b
    by_told None None r c = tt
    by_told None (Some u) r c = absurd c
    by_told (Some t) None r c = absurd c
    by_told (Some t) (Some u) r c =
        let s = r t refl in
        subst (λ n. SaysAllSame (tables.shape_of l.tables.parts) (held l.tables.pending (seen (file_of t n))) (held [] (seen (file_of u n)))) s.1.number
        (commit_says l t u s.0 s.1 (subst (λ n. HasCommittedPages l.log l.tables.pending (seen (file_of t n)) (seen (file_of u n))) (ready.one_file ∙ sym s.1.number) c))

-- where nothing is told, nothing is said
pub says_untold : (P : Trace → Trace → Type 0) (o : Option Trace) → ((t : Trace) → o ≡ Some t → ⊥) → WhereBothTold P o o
says_untold P None h = tt
says_untold P (Some t) h = absurd (h t refl)
