-- A refusal from outside that is handed on.
use Rattle.std.proofs.Common.{◌≡◌, ℕ, List, Option, sym, subst}
use Rattle.std.specs.Prelude.{Result, Err}
use Rattle.std.specs.Result.{IsErrAnd}
use Rattle.vx_base.proofs.Handed.{err_is}
use Rattle.store_model.specs.Disk.{Disk}
use Rattle.vhdx_format.specs.declared.log_entry.Page.{Page}
use Rattle.meta_edit.specs.Edits.{region_of}
use Rattle.meta_edit.specs.Pages.{laid_file}
use Rattle.meta_edit.specs.Steps.{AnswersLaid, EndsUpdate, IsFault, IsFromOutside, PutsInRegion}
use Rattle.meta_edit.specs.declared.laying.LaidFile.{LaidFile}
use Rattle.meta_edit.specs.declared.MetaRefusal.{MetaRefusal}
use Rattle.meta_edit.proofs.Puts.{ends_by}
use Rattle.meta_edit.proofs.Refused.{outside_answers}

module _ (laid : LaidFile) (old new : Disk) (result : Result (List Page) MetaRefusal) (refusal : MetaRefusal) (is : IsErrAnd result (λ e. e ≡ refusal)) where
  err : result ≡ Err refusal
  err = err_is result refusal is

  pub puts_handed : (change : List ℕ → List ℕ) (more : ℕ) (before : List Page) → IsFault laid.file old new refusal → PutsInRegion laid change more before old new result
  puts_handed change more before h = subst (λ r. PutsInRegion laid change more before old new r) (sym err) h

  pub ends_handed : IsFault laid.file old new refusal → EndsUpdate laid old new result
  ends_handed h = subst (λ r. EndsUpdate laid old new r) (sym err) (ends_by laid old new refusal h)

  pub answers_handed : (changed : List ℕ → Option (List ℕ)) → IsFromOutside refusal → AnswersLaid laid old changed result
  answers_handed changed h = subst (λ r. AnswersLaid laid old changed r) (sym err)
      (λ t told. outside_answers refusal laid.parts.now (laid_file t laid.file laid.over.now) (changed (region_of laid.parts.now (laid_file t laid.file laid.over.now))) h)
