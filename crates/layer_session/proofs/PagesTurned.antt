-- Pages laid over a file whose metadata's region is that of one that a layer serves turn that one's.
use Rattle.std.proofs.Common.{◌≡◌, ℕ, ◌+◌, ◌≤◌, All, List, [], length, Option, Some, refl, sym, ap, subst, ◌∙◌, arith}
use Rattle.std.specs.Prelude.{Ok, Result}
use Rattle.store_model.proofs.Parts.{length-part}
use Rattle.vx_base.specs.Fields.{bytes_at}
use Rattle.vhdx_format.specs.FileParts.{read_parts}
use Rattle.vhdx_format.specs.MetadataTables.{read_metadata}
use Rattle.vhdx_format.specs.Rules.{BrokenRule}
use Rattle.vhdx_format.specs.declared.log_entry.Page.{Page}
use Rattle.vhdx_format.specs.declared.metadata.Metadata.{Metadata}
use Rattle.store_model.specs.File.{seen}
use Rattle.store_model.specs.Trace.{Trace, file_of}
use Rattle.table_pages.specs.Held.{held}
use Rattle.chain_model.specs.Images.{Placed, RegionBytes, metadata_of}
use Rattle.chain_model.specs.Members.{Ties}
use Rattle.layer_session.specs.declared.file.Layer.{Layer}
use Rattle.layer_session.specs.Keeping.{Serves}
use Rattle.layer_session.specs.Updating.{HasRegion, IsInRegion, PagesTurn, SaysTies}
use Rattle.layer_session.proofs.Numbers.{are_numbers, items_read, metadata_read}
use Rattle.layer_session.proofs.Committed.{held_none}
use Rattle.layer_session.proofs.Turning.{laid_is}

-- what the metadata say of locator and retired name is what ties the file
items_are : (l : Layer) (trace : Trace) (file : Placed) (serves : Serves l trace file) (m : Metadata) → read_metadata file.metadata.bytes l.tables.parts.bat_len ≡ Ok m
    → (m.locator ≡ file.member.ties.locator) × (m.retired ≡ file.member.ties.retired)
items_are l trace file serves m e =
    let read = ap (read_metadata _) (sym serves.as_held.region) ∙ ap (λ (r : RegionBytes). read_metadata r.bytes l.tables.parts.bat_len) (sym serves.metadata) ∙ e in
    let items = items_read serves.parts.header (held l.tables.pending (seen (file_of trace file.number))) serves.parts m serves.as_held.numbers read in
    (items.0 ∙ ap (λ (t : Ties). t.locator) (sym serves.ties), items.1 ∙ ap (λ (t : Ties). t.retired) (sym serves.ties))

says_ties : (l : Layer) (trace : Trace) (file : Placed) → Serves l trace file → SaysTies l.tables.parts.bat_len file
says_ties l trace file serves =
    let H = held l.tables.pending (seen (file_of trace file.number)) in
    let x = metadata_read serves.parts.header H serves.parts serves.as_held.numbers in
    let e : read_metadata file.metadata.bytes l.tables.parts.bat_len ≡ Ok x.0 = ap (λ (r : RegionBytes). read_metadata r.bytes l.tables.parts.bat_len) serves.metadata ∙ ap (read_metadata (bytes_at H serves.parts.meta_at serves.parts.meta_len)) serves.as_held.region ∙ x.1 in
    let items = items_are l trace file serves x.0 e in
    record { m = x.0; is = e; locator = items.0; retired = items.1 }

-- where nothing waits a read gives the metadata
stands_so : (l : Layer) (trace : Trace) (file : Placed) (pages : List Page) → Serves l trace file → l.tables.pending ≡ [] → All (IsInRegion file.metadata) pages → HasRegion file pages (seen (file_of trace file.number))
stands_so l trace file pages serves none inside =
    let F = seen (file_of trace file.number) in
    let held_is : held l.tables.pending F ≡ F = ap (λ p. held p F) none ∙ held_none F in
    let is : file.metadata ≡ metadata_of serves.parts F = subst (λ (z : List ℕ). file.metadata ≡ metadata_of serves.parts z) held_is serves.metadata in
    let numbers : read_parts serves.parts.header F ≡ Ok serves.parts = subst (λ (z : List ℕ). read_parts serves.parts.header z ≡ Ok serves.parts) held_is serves.as_held.numbers in
    let end : serves.parts.meta_at + serves.parts.meta_len ≤ length F = (are_numbers serves.parts.header F serves.parts numbers).0.metadata.within in
    let long : length (bytes_at F serves.parts.meta_at serves.parts.meta_len) ≡ serves.parts.meta_len = length-part F serves.parts.meta_at serves.parts.meta_len end in
    record {
      inside = inside;
      within = subst (λ (r : RegionBytes). r.at + length r.bytes ≤ length F) (sym is) (omega (arith, end, long));
      same = subst (λ (r : RegionBytes). bytes_at F r.at (length r.bytes) ≡ r.bytes) (sym is) (ap (bytes_at F serves.parts.meta_at) long);
    }

pub pages_turn : PagesTurn
pages_turn = record {
  says = says_ties;
  stands = stands_so;
  locator = λ l trace file pages bytes value serves laid read. record {
    inside = laid.inside;
    region_is = laid_is file.metadata pages laid.inside bytes laid.within laid.same;
    reads = λ m e. read m e ∙ ap (λ (r : Option (List ℕ)). (let n : Result Metadata BrokenRule = Ok (record m { locator = Some value; retired = r }) in n)) (items_are l trace file serves m e).1;
    ties_are = refl;
  };
  retired = λ l trace file pages bytes to serves laid read. record {
    inside = laid.inside;
    region_is = laid_is file.metadata pages laid.inside bytes laid.within laid.same;
    reads = λ m e. read m e ∙ ap (λ (r : Option (List ℕ)). (let n : Result Metadata BrokenRule = Ok (record m { locator = r; retired = to }) in n)) (items_are l trace file serves m e).0;
    ties_are = refl;
  };
}
