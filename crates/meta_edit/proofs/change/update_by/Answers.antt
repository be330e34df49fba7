use Rattle.meta_edit.proofs.HandedOn.{answers_handed, ends_handed}
use Rattle.vhdx_format.specs.Updates.{updated}
use Rattle.std.proofs.Common.{◌≡◌, ◌≤◌, ℕ, List, length, ap, sym, subst, ◌∙◌, add-zero}
use Rattle.std.specs.Prelude.{Option}
use Rattle.store_model.specs.Disk.{Disk}
use Rattle.vx_base.specs.Fields.{bytes_at}
use Rattle.vhdx_format.specs.MetadataTables.{metadata_table}
use Rattle.meta_edit.specs.Edits.{AnswersUpdate, flags_of, id_of, is_of_kind, region_of}
use Rattle.meta_edit.specs.Pages.{laid_file}
use Rattle.store_model.proofs.Parts.{length-part}
use Rattle.metadata_table.proofs.Places.{part-region}
use Rattle.meta_edit.proofs.Puts.{lies_within}
use Rattle.meta_edit.proofs.Refused.{by_table}
use Rattle.meta_edit.proofs.Sound.{sound_table}
use Rattle.meta_edit.specs.Steps.{IsSoundTable}
use Rattle.meta_edit.proofs.change.update_by.Goals as goal

front : (file : List ℕ) (m n k : ℕ) → k ≡ 65536 → 65536 ≤ n → bytes_at file m k ≡ metadata_table (bytes_at file m n)
front file m n k e h = ap (bytes_at file m) e ∙ ap (λ (i : ℕ). bytes_at file i 65536) (sym (add-zero m)) ∙ part-region file m n 0 65536 h

pub returns-clause-answer : goal.returns-clause-answer
returns-clause-answer g c = λ t is.
    let file : List ℕ = laid_file t c.args.laid.now.file c.args.laid.now.over.now in
    let m : ℕ = c.args.laid.now.parts.now.meta_at in
    let n : ℕ = c.args.laid.now.parts.now.meta_len in
    let region : List ℕ = region_of c.args.laid.now.parts.now file in
    let whole : length region ≡ n = length-part file m n (lies_within c.args.laid.now (g.S.Store.disk c.args.store.now) t c.requires.laid is) in
    let table : c.read_laid.new.out ≡ metadata_table region = c.in_ok-read_laid.ensures.bytes t is ∙ front file m n (length c.args.table.now) c.requires.table c.requires.laid.parts.table in
    let sound : IsSoundTable n c.read_laid.new.out = subst (IsSoundTable n) (sym table) (sound_table region c.args.laid.now.parts.now.bat_len n whole (c.requires.sound t is)) in
    subst (λ (o : Option (List ℕ)). AnswersUpdate c.args.laid.now.parts.now file o c.change_or_add.result)
    (by_table c.args.kind c.args.laid.now.parts.now c.args.value.now file c.read_laid.new.out table)
    (c.change_or_add.ensures.answer sound t (ap (λ (x : Disk). x.told) c.in_ok-read_laid.ensures.store ∙ is))

pub returns-in_err-read_laid-clause-answer : goal.returns-in_err-read_laid-clause-answer
returns-in_err-read_laid-clause-answer g c =
    answers_handed c.args.laid.now (g.S.Store.disk c.args.store.now) (g.S.Store.disk c.read_laid.new.store) _ c.in_err-read_laid.field-0.0 c.from_residual.ensures.1
    (λ region. updated region (is_of_kind c.args.kind) (id_of c.args.kind) (flags_of c.args.kind) c.args.value.now) c.in_err-read_laid.ensures.err

pub returns-in_err-read_laid-clause-ends : goal.returns-in_err-read_laid-clause-ends
returns-in_err-read_laid-clause-ends g c =
    ends_handed c.args.laid.now (g.S.Store.disk c.args.store.now) (g.S.Store.disk c.read_laid.new.store) _ c.in_err-read_laid.field-0.0 c.from_residual.ensures.1
    (record { outside = c.in_err-read_laid.ensures.err; store = c.in_err-read_laid.ensures.store })
