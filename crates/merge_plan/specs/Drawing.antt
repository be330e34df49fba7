-- Identifiers that are drawn for a session, in the order in which they are drawn, and the first of them that is unfit.
use Rattle.std.specs.Prelude.{◌≡◌, ℕ, List, [], ◌∷◌, ◌++◌, Option, Some, None}
use Rattle.store_model.specs.Disk.{Disk, WhereTold}
use Rattle.layer_session.specs.ReadOnly.{SomeReadFailed}
use Rattle.link_rules.specs.declared.linked.LinkedFile.{LinkedFile}
use Rattle.make_file.specs.Identifiers.{first_unfit}
use Rattle.shown_ids.specs.declared.fault.CollectFault.{CollectFault}
use Rattle.shown_ids.specs.declared.fault.CollectFault.TheVariants as collect
use Rattle.merge_plan.specs.declared.drawing.NewIds.{NewIds}
use Rattle.merge_plan.specs.declared.drawing.LogIds.{LogIds}
use Rattle.merge_plan.specs.declared.drawing.MergeIds.{MergeIds}
use Rattle.merge_plan.specs.Attached.{shown_from}

-- those of one file, in the order in which they are drawn
abbrev pub drawn_ids : NewIds → List (List ℕ)
drawn_ids ids = ids.file_write ∷ ids.data_write ∷ ids.log ∷ []

abbrev pub log_ids : LogIds → List (List ℕ)
log_ids ids = ids.file_write ∷ ids.log ∷ []

abbrev pub inner_ids : Option LogIds → List (List ℕ)
inner_ids None = []
inner_ids (Some ids) = log_ids ids

-- those of a merge: of the leaf, of the source, of the target, and of the child where it isn't the leaf
abbrev pub merge_ids : MergeIds → List (List ℕ)
merge_ids ids = drawn_ids ids.leaf ++ log_ids ids.source ++ drawn_ids ids.target ++ inner_ids ids.child

-- Of identifiers in the order in which they were drawn, which these files don't show, this one is the first that is zero, shown by a
-- file or drawn before; or each is fit.
pub record JudgesDrawn (files : List LinkedFile) (disk : Disk) (drawn : List (List ℕ)) (unfit : Option (List ℕ)) : Type 0 where
  pub known : List (List ℕ)
  pub shown_are : WhereTold disk.told (λ trace. known ≡ shown_from trace 0 files)
  pub judged : first_unfit known drawn ≡ unfit

-- identifiers weren't collected: a read of some file failed, or memory ran out
abbrev pub CollectFails : Disk → Disk → CollectFault → Type 0
CollectFails old new (collect.Store fault) = SomeReadFailed old new fault
CollectFails old new collect.NoRoom = new ≡ old
